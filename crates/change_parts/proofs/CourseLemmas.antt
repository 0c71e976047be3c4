-- Statements lead to one end of a roll, since they lead through one course of lines and worlds.
use Rattle.std.proofs.Common.{◌≡◌, ◌∙◌, ℕ, List, [], sym, ap, Option}
use Rattle.change_spec.specs.Statements.{Statement}
use Rattle.change_spec.proofs.SerialLaws.{one_course}
use Rattle.change_parts.specs.Rolls.{IsRoll, given_up_in}

pub one_roll : (statements : List Statement) (x y : Option ℕ) → IsRoll statements x → IsRoll statements y → x ≡ y
one_roll statements x y a b =
    a.given_up_is ∙ ap given_up_in (one_course [] a.played b.played a.are_played b.are_played (a.statements_are ∙ sym b.statements_are)) ∙ sym b.given_up_is
