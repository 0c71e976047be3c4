-- The first `--` parts the words into two components, or else they are no change.
use Rattle.std.proofs.Common.{map, string_bytes, ◌+◌, take, drop, refl, subst, arith, ℕ, List, Option}
use Rattle.std.proofs.lemmas.List.{take_rest}
use Rattle.command_words.proofs.Refusals.{no_call, no_target, not_parted}
use Rattle.command_words.proofs.Parting.{parted_by, parted_nowhere}
use Rattle.command_words.specs.declared.words.TopCall.{TopCall}
use Rattle.command_words.specs.CommandLine.{IsTarget}
use Rattle.command_words.proofs.calls.read_change.Goals as goal

pub returns-then-at-words : goal.returns-then-at-words
returns-then-at-words c = λ change is.
    not_parted (map string_bytes c.args.words.now) (parted_nowhere string_bytes c.args.words.now c.parting-at.result c.parting-at.ensures (omega arith)) change is.1

pub returns-in_default : goal.returns-in_default
returns-in_default c = λ change is.
    let words = c.args.words.now in
    let at = c.parting-at.result in
    let parts = parted_by string_bytes words at (at + 1) c.parting-at.ensures refl (omega arith) in
    no_call (map string_bytes words) (map string_bytes (take at words)) (map string_bytes (drop (at + 1) words)) parts
    (rw c.in_default.is at c.in_ok-call.ensures.none) change is.1

pub returns-in_default-2 : goal.returns-in_default-2
returns-in_default-2 c = λ change is.
    let words = c.args.words.now in
    let at = c.parting-at.result in
    let parts = parted_by string_bytes words at (at + 1) c.parting-at.ensures refl (omega arith) in
    no_target (map string_bytes words) (map string_bytes (take at words)) (map string_bytes (drop (at + 1) words)) parts
    (subst (λ ws. (other : Option (List ℕ)) (target : TopCall) → IsTarget (map string_bytes ws) other target → ⊥) (take_rest words (at + 1))
    (λ other target. (rw c.in_default-2.is at c.in_ok-to.ensures) (record { other = other; target = target })))
    change is.1

pub returns : goal.returns
returns c =
    let words = c.args.words.now in
    let at = c.parting-at.result in
    let parts = parted_by string_bytes words at (at + 1) c.parting-at.ensures refl (omega arith) in
    let call = rw c.in-Some.is at c.in_ok-call.ensures.found in
    let target = rw c.in-Some-2.is at c.in_ok-to.ensures in (
      c.of.ensures,
      (
        map string_bytes (take at words),
        map string_bytes (drop (at + 1) words),
        parts.parted,
        call,
        subst (λ ws. IsTarget (map string_bytes ws) c.in-Some-2.to.other c.in-Some-2.to.target) (take_rest words (at + 1)) target,
      ),
    )
