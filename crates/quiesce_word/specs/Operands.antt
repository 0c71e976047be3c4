-- What the operations of the gates make of a word, by which operand. A gate's word may be changed by others meanwhile,
-- so an operand turns some fields and leaves the others as they are, whatever they are.
use Rattle.std.specs.Prelude.{◌≡◌, ℕ, ◌+◌, Bool, true, false, Some, None, bit_xor, ◌⊎◌}
use Rattle.config_graph.specs.declared.node.Target.{Target}
use Rattle.quiesce_word.specs.declared.phase.Phase.{Phase}
use Rattle.quiesce_word.specs.declared.phase.Phase.TheVariants as phase
use Rattle.quiesce_word.specs.declared.word.Word.{Word}
use Rattle.quiesce_word.specs.Words.{pack}

-- the word in which each field is 0
abbrev pub blank : Word
blank = record { closed = false; phase = phase.Idle; consequent = false; target = None; serial = 0; value = 0 }

-- the operand by which exclusive or makes one word of another
abbrev pub difference : Word → Word → ℕ
difference from to = bit_xor (pack from) (pack to)

-- the difference of two messages: of phase p and value u before, of phase q and value v after
abbrev pub message_difference : Phase → ℕ → Phase → ℕ → ℕ
message_difference p u q v = difference (record blank { phase = p; value = u }) (record blank { phase = q; value = v })

-- of a port's word as it was loaded, and the same with a call by the port's next transaction
abbrev pub call_difference : Word → ℕ → ℕ
call_difference loaded v =
    difference loaded (record loaded { phase = phase.Asked; consequent = true; serial = loaded.serial + 1; value = v })

-- of an answer, and nothing
abbrev pub end_difference : ℕ → Bool → ℕ
end_difference u consequent = difference (record blank { phase = phase.Answered; consequent = consequent; value = u }) blank

-- of nothing, and a link
abbrev pub link_difference : Target → ℕ
link_difference t = difference blank (record blank { target = Some t })

-- A field is turned: where `from` and `to` have it alike, it stays; else it was as `from` has it, and is as `to` has
-- it.
abbrev pub IsTurned : {A : Type 0} → A → A → A → A → Type 0
IsTurned from to old new = ((from ≡ to) × (new ≡ old)) ⊎ ((old ≡ from) × (new ≡ to))

-- each field is
pub record AreTurned (from to old new : Word) : Type 0 where
  pub closed : IsTurned from.closed to.closed old.closed new.closed
  pub phase : IsTurned from.phase to.phase old.phase new.phase
  pub consequent : IsTurned from.consequent to.consequent old.consequent new.consequent
  pub target : IsTurned from.target to.target old.target new.target
  pub serial : IsTurned from.serial to.serial old.serial new.serial
  pub value : IsTurned from.value to.value old.value new.value
