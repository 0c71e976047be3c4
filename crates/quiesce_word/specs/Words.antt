-- To be believed (definitions.md).
-- The word of a port: the fields that it spells, and at which bits.
use Rattle.std.specs.Prelude.{◌≡◌, ℕ, ◌^◌, ◌<◌, Bool, false, not, ◌&&◌, ◌||◌, ◌==◌, List, [], ◌∷◌, Option, Some, is_none, option_map, if◌then◌else◌}
use Rattle.std.specs.Option.{option_map_or}
use Rattle.config_graph.specs.declared.TheConstants.{MAX_NODES}
use Rattle.config_graph.specs.declared.node.Target.{Target}
use Rattle.quiesce_word.specs.declared.phase.Phase.{Phase}
use Rattle.quiesce_word.specs.declared.phase.Phase.TheVariants as phase
use Rattle.quiesce_word.specs.declared.word.TheConstants.{LAST_SERIAL}
use Rattle.quiesce_word.specs.declared.word.Word.{Word}
use Rattle.quiesce_word.specs.Packs.{spell, bits, plus_one, less_one}
use Rattle.quiesce_word.specs.Phases.{is_asked, is_idle}

abbrev pub phase_bits : Phase → ℕ
phase_bits phase.Idle = 0
phase_bits phase.Asked = 1
phase_bits phase.Answered = 2
phase_bits phase.More = 3

abbrev pub phase_of : ℕ → Phase
phase_of n =
    if n == 0 then phase.Idle else if n == 1 then phase.Asked else if n == 2 then phase.Answered else phase.More

abbrev pub flag : Bool → ℕ
flag b = if b then 1 else 0

-- the slot of the target plus one, or 0 where there is none
abbrev pub slot_bits : Option Target → ℕ
slot_bits t = plus_one (option_map (λ (u : Target). u.node) t)

abbrev pub provide_bits : Option Target → ℕ
provide_bits t = option_map_or (λ (u : Target). u.provide) t 0

abbrev pub target_of : ℕ → ℕ → Option Target
target_of slot provide = option_map (λ n. record { node = n; provide = provide }) (less_one slot)

-- the widths of the fields, from bit 0 on: 24 bits for the value, 24 for the serial, 2 for the provision, 10 for the
-- target's slot, 1 for whether it is consequent, 2 for the phase, 1 for whether it is closed
abbrev pub widths : List ℕ
widths = 24 ∷ 24 ∷ 2 ∷ 10 ∷ 1 ∷ 2 ∷ 1 ∷ []

abbrev pub fields : Word → List ℕ
fields w =
    w.value ∷ w.serial ∷ provide_bits w.target ∷ slot_bits w.target ∷ flag w.consequent ∷ phase_bits w.phase
    ∷ flag w.closed ∷ []

-- the number that spells the fields
abbrev pub pack : Word → ℕ
pack w = spell widths (fields w)

-- the fields that a number spells
abbrev pub unpack : ℕ → Word
unpack n =
    record {
      closed = bits 63 63 n == 1;
      phase = phase_of (bits 61 62 n);
      consequent = bits 60 60 n == 1;
      target = target_of (bits 50 59 n) (bits 48 49 n);
      serial = bits 24 47 n;
      value = bits 0 23 n;
    }

-- the fields have their room in a word
pub record FitsTarget (t : Target) : Type 0 where
  pub node : t.node < MAX_NODES
  pub provide : t.provide < 2 ^ 2

pub record FitsWord (w : Word) : Type 0 where
  pub value : w.value < 2 ^ 24
  pub serial : w.serial < 2 ^ 24
  pub target : (t : Target) → w.target ≡ Some t → FitsTarget t

-- whether the port is closed, and idle or in a consequent transaction
abbrev pub is_drained : Word → Bool
is_drained w = w.closed && (is_idle w.phase || w.consequent)

-- whether the port has a transaction that is no consequent one
abbrev pub has_root : Word → Bool
has_root w = not (is_idle w.phase) && not w.consequent

-- whether the port had its last transaction
abbrev pub is_spent : Word → Bool
is_spent w = w.serial == LAST_SERIAL

-- whether a call finds no target, or no transaction left
abbrev pub is_missing : Word → Bool
is_missing w = is_none w.target || is_spent w

-- whether a message stands there for this node
abbrev pub is_message_to : ℕ → Word → Bool
is_message_to n w = is_asked w.phase && option_map_or (λ (t : Target). t.node == n) w.target false
