-- To be believed (definitions.md).
-- The word of a slot: the fields that it spells of the node that was made there, and at which bits. The word is 0 where
-- none was.
use Rattle.std.specs.Prelude.{◌≡◌, ℕ, ◌+◌, ◌^◌, ◌<◌, ◌≤◌, List, [], ◌∷◌, Option, Some, None, IfSome, is_some, option_map, option_and_then, slice_get, if◌then◌else◌}
use Rattle.std.specs.Option.{option_map_or}
use Rattle.config_graph.specs.Kinds.{row, kinds}
use Rattle.config_graph.specs.declared.TheConstants.{MAX_NODES, MAX_PORTS}
use Rattle.config_graph.specs.declared.kind.Kind.{Kind}
use Rattle.quiesce_word.specs.declared.slot_word.SlotWord.{SlotWord}
use Rattle.quiesce_word.specs.Packs.{spell, bits, plus_one, less_one}

-- the widths of the fields, from bit 0 on: 4 bits for one more than the kind's number, 16 for the first port, 24 for
-- the argument, 10 for one more than the slot whose state was taken over
abbrev pub slot_widths : List ℕ
slot_widths = 4 ∷ 16 ∷ 24 ∷ 10 ∷ []

abbrev pub slot_fields : SlotWord → List ℕ
slot_fields w = ((row w.kind).number + 1) ∷ w.first_port ∷ option_map_or (λ a. a) w.arg 0 ∷ plus_one w.from ∷ []

-- the number that spells the fields
abbrev pub pack_slot : SlotWord → ℕ
pack_slot w = spell slot_widths (slot_fields w)

-- the kind whose number is one less
abbrev pub kind_of_bits : ℕ → Option Kind
kind_of_bits n = option_and_then (slice_get kinds) (less_one n)

-- the fields that a number spells, where it spells a kind
abbrev pub unpack_slot : ℕ → Option SlotWord
unpack_slot n =
    option_map
    (λ k. record {
      kind = k;
      first_port = bits 4 19 n;
      arg = if is_some (row k).arg then Some (bits 20 43 n) else None;
      from = less_one (bits 44 53 n);
    })
    (kind_of_bits (bits 0 3 n))

-- the fields have their room in a word, and an argument is there exactly where the kind has one
pub record FitsSlotWord (w : SlotWord) : Type 0 where
  pub first_port : w.first_port ≤ MAX_PORTS
  pub present : is_some w.arg ≡ is_some (row w.kind).arg
  pub arg : IfSome w.arg (λ a. a < 2 ^ 24)
  pub from : IfSome w.from (λ k. k < MAX_NODES)
