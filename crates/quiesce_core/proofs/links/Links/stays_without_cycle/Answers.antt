use Rattle.std.proofs.Common.{◌≡◌, ◌&&◌, not, true, false, sym, ap, ◌∙◌}
use Rattle.std.proofs.lemmas.Bool.{and_left}
use Rattle.quiesce_core.specs.State.{owner, is_depended}
use Rattle.quiesce_core.specs.Searched.{leads_up}
use Rattle.quiesce_core.specs.Links.{config_in}
use Rattle.quiesce_core.proofs.ReachLaws.{no_cycle-linked}
use Rattle.quiesce_core.proofs.links.Links.stays_without_cycle.Goals as goal
use Rattle.quiesce_core.proofs.links.Links.stays_without_cycle.Goals.{then-is_depended, else-is_depended}

pub returns : goal.returns
returns c =
    let config = config_in c.args.self.now in
    let mine : c.gate-owner.result.owner ≡ owner config c.args.port = ap (λ g. g.owner) c.gate-owner.ensures in
    let both : c.if-is_depended.result ≡ (is_depended config (owner config c.args.port) c.args.port && leads_up config (owner config c.args.port) c.args.target.node) =
    elim c.if-is_depended.branch [
      | then-is_depended w ↦
          let dep : is_depended config (owner config c.args.port) c.args.port ≡ true = sym (ap (λ o. is_depended config o c.args.port) mine) ∙ sym c.is_depended.ensures ∙ w.if-is_depended.true in
          w.result-is ∙ w.leads_to.ensures ∙ ap (λ o. leads_up config o c.args.target.node) mine
          ∙ sym (ap (λ b. b && leads_up config (owner config c.args.port) c.args.target.node) dep)
      | else-is_depended w ↦
          let dep : is_depended config (owner config c.args.port) c.args.port ≡ false = sym (ap (λ o. is_depended config o c.args.port) mine) ∙ sym c.is_depended.ensures ∙ w.if-is_depended.false in
          w.result-is ∙ w.if-is_depended.false ∙ sym (and_left (is_depended config (owner config c.args.port) c.args.port) (leads_up config (owner config c.args.port) c.args.target.node) dep)
    ] in
    ap not both ∙ sym (no_cycle-linked config c.requires.sound c.args.port c.args.target c.requires.made)
