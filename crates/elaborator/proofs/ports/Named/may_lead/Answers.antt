use Rattle.std.proofs.Common.{◌≡◌, ◌∙◌, sym, true, false}
use Rattle.std.proofs.lemmas.Bool.{false≢true}
use Rattle.elaborator.specs.Bindings.{is_indexed}
use Rattle.elaborator.specs.Ports.{named_of}
use Rattle.elaborator.proofs.ports.Named.may_lead.Goals as goal
use Rattle.elaborator.proofs.ports.Named.may_lead.Goals.{then-is_indexed, else-is_indexed}

pub returns-then-is_indexed-2 : goal.returns-then-is_indexed-2
returns-then-is_indexed-2 c =
    elim c.if-is_indexed.branch [
      | then-is_indexed w ↦ λ i j.
          let first : is_indexed (named_of i c.args.self.now) ≡ true = sym (c.is_indexed.ensures i) ∙ w.if-is_indexed.true in
          let second : is_indexed (named_of j c.args.target.now) ≡ true = sym (w.is_indexed-then-is_indexed.ensures j) ∙ sym w.value-is ∙ c.if-is_indexed-2.true in
          rw (first, second) c.is_form.ensures
      | else-is_indexed w ↦ absurd (false≢true (sym w.if-is_indexed.false ∙ sym w.value-is ∙ c.if-is_indexed-2.true))
    ]

pub returns-else-is_indexed-2 : goal.returns-else-is_indexed-2
returns-else-is_indexed-2 c =
    elim c.if-is_indexed.branch [
      | then-is_indexed w ↦ λ i j.
          let first : is_indexed (named_of i c.args.self.now) ≡ true = sym (c.is_indexed.ensures i) ∙ w.if-is_indexed.true in
          let second : is_indexed (named_of j c.args.target.now) ≡ false = sym (w.is_indexed-then-is_indexed.ensures j) ∙ sym w.value-is ∙ c.if-is_indexed-2.false in
          rw (first, second) c.if-is_indexed-2.false
      | else-is_indexed w ↦ λ i j.
          let first : is_indexed (named_of i c.args.self.now) ≡ false = sym (c.is_indexed.ensures i) ∙ w.if-is_indexed.false in
          rw first c.if-is_indexed-2.false
    ]
