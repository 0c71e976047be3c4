use Rattle.std.proofs.Common.{Some, None, inl, inr, arith, rules}
use Rattle.std.proofs.lemmas.Grind.{common_steps}
use Rattle.cfg_io.proofs.FilesLemmas.{look_up-got}
use Rattle.cfg_io.proofs.mem_shelf.MemShelf.answer.Goals as goal

pub returns-in_default-clause-fails : goal.returns-in_default-clause-fails
returns-in_default-clause-fails c =
    rw (← c.self.view_is) (inr (look_up-got c.self.inside.files c.args.name.now None c.in_default.ensures.value))

pub returns-then-len-limit-clause-told : goal.returns-then-len-limit-clause-told
returns-then-len-limit-clause-told c =
    rw (← c.self.view_is, look_up-got c.self.inside.files c.args.name.now (Some c.in-Some.bytes.now) c.in-Some.ensures.value) (omega arith)

pub returns-then-len-limit-clause-fails : goal.returns-then-len-limit-clause-fails
returns-then-len-limit-clause-fails c =
    rw (← c.self.view_is)
    (λ must. elim must [ inl listed ↦ search (rules, c.if-contains.ensures.cases) | inr missing ↦ cc (look_up-got c.self.inside.files c.args.name.now (Some c.in-Some.bytes.now) c.in-Some.ensures.value) ])

pub returns-clause-told : goal.returns-clause-told
returns-clause-told c =
    rw (← c.self.view_is) (
      cc (look_up-got c.self.inside.files c.args.name.now (Some c.in-Some.bytes.now) c.in-Some.ensures.value, c.as_slice.ensures.value, c.in_ok-from_slice.ensures.items),
      grind (arith, common_steps, c.as_slice.ensures.value, c.in_ok-from_slice.ensures.items),
    )

pub returns-clause-fails : goal.returns-clause-fails
returns-clause-fails c =
    rw (← c.self.view_is)
    (λ must. elim must [ inl listed ↦ search (rules, c.if-contains.ensures.cases) | inr missing ↦ cc (look_up-got c.self.inside.files c.args.name.now (Some c.in-Some.bytes.now) c.in-Some.ensures.value) ])
