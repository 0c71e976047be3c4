use Rattle.std.proofs.Common.{◌≡◌, ◌+◌, length, ap, ◌∙◌}
use Rattle.quiesce_core.specs.Reach.{can_walk}
use Rattle.quiesce_core.specs.Links.{config_in}
use Rattle.quiesce_core.proofs.ReachLaws.{no_walk_plus}
use Rattle.quiesce_core.proofs.links.Links.walk_bound.Goals as goal

pub returns : goal.returns
returns c n =
    let config = config_in c.args.self.now in
    let few : c.len.result ≡ length config.slots = c.len.ensures ∙ c.args.self.now.slots.ok.0 in
    ap (λ k. can_walk config (k + 1) n) few ∙ no_walk_plus config c.requires n
