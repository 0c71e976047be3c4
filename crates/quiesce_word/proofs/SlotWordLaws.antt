-- The word of a slot: its fields have their room, and are spelt by the word.
use Rattle.std.proofs.Common.{◌≡◌, ℕ, ◌+◌, ◌*◌, ◌^◌, ◌<◌, Bool, true, false, cond, Option, Some, None, [], ◌∷◌, refl, ap, sym, ◌∙◌, arith}
use Rattle.std.specs.Prelude.{IfSome, is_some, option_map, option_and_then, slice_get}
use Rattle.std.specs.Option.{option_map_or}
use Rattle.std.proofs.lemmas.Bool.{both_ways}
use Rattle.std.proofs.lemmas.Option.{same_Some}
use Rattle.config_graph.specs.Kinds.{row, kinds}
use Rattle.config_graph.specs.declared.kind.Kind.{Kind}
use Rattle.config_graph.specs.declared.TheConstants.{MAX_NODES}
use Rattle.config_graph.proofs.KindLaws.{few_kinds, kind_at_number}
use Rattle.quiesce_word.specs.declared.slot_word.SlotWord.{SlotWord}
use Rattle.quiesce_word.specs.Packs.{FitIn, bits, less_one, plus_one, spell}
use Rattle.quiesce_word.specs.SlotWords.{FitsSlotWord, kind_of_bits, pack_slot, slot_fields, slot_widths, unpack_slot}
use Rattle.quiesce_word.proofs.PackLaws.{field, one_less_again}

-- each field has its room

arg_few : (a : Option ℕ) → IfSome a (λ n. n < 2 ^ 24) → option_map_or (λ n. n) a 0 < 2 ^ 24
arg_few None h = omega arith
arg_few (Some a) h = h

from_few : (k : Option ℕ) → IfSome k (λ n. n < MAX_NODES) → plus_one k < 2 ^ 10
from_few None h = omega arith
from_few (Some k) h = omega (arith, h)

pub slot_fields_fit : (w : SlotWord) → FitsSlotWord w → FitIn slot_widths (slot_fields w)
slot_fields_fit w f = (few_kinds w.kind, (omega (arith, f.first_port), (arg_few w.arg f.arg, (from_few w.from f.from, tt))))

-- each field stands at its bits

record StandAtTheirBits (n k p a f : ℕ) : Type 0 where
  kind : bits 0 3 n ≡ k
  first_port : bits 4 19 n ≡ p
  arg : bits 20 43 n ≡ a
  from : bits 44 53 n ≡ f

stand : (k p a f : ℕ) → FitIn slot_widths (k ∷ p ∷ a ∷ f ∷ []) → StandAtTheirBits (spell slot_widths (k ∷ p ∷ a ∷ f ∷ [])) k p a f
stand k p a f h =
    let k_fits : k < 2 ^ 4 = h.0 in
    let p_fits : p < 2 ^ 16 = h.1.0 in
    let a_fits : a < 2 ^ 24 = h.1.1.0 in
    let f_fits : f < 2 ^ 10 = h.1.1.1.0 in
    record {
      kind = field _ (2 ^ 0) (2 ^ 4) 0 k (p + 2 ^ 16 * (a + 2 ^ 24 * f)) (omega arith) (omega arith) k_fits;
      first_port = field _ (2 ^ 4) (2 ^ 16) k p (a + 2 ^ 24 * f) (omega arith) (omega arith) p_fits;
      arg = field _ (2 ^ 20) (2 ^ 24) (k + 2 ^ 4 * p) a f (omega arith) (omega arith) a_fits;
      from = field _ (2 ^ 44) (2 ^ 10) (k + 2 ^ 4 * p + 2 ^ 20 * a) f 0 (omega arith) (omega arith) f_fits;
    }

-- the word spells its fields

kind_again : (k : Kind) → kind_of_bits ((row k).number + 1) ≡ Some k
kind_again k = ap (option_and_then (slice_get kinds)) (one_less_again (Some (row k).number)) ∙ kind_at_number k

arg_again : (b : Bool) (a : Option ℕ) → is_some a ≡ b → cond b (Some (option_map_or (λ n. n) a 0)) None ≡ a
arg_again true None h = absurd (both_ways false refl h)
arg_again true (Some a) h = refl
arg_again false None h = refl
arg_again false (Some a) h = absurd (both_ways true h refl)

pub slot_words_decode : (w : SlotWord) → FitsSlotWord w → unpack_slot (pack_slot w) ≡ Some w
slot_words_decode w f =
    let n = pack_slot w in
    let at = stand ((row w.kind).number + 1) w.first_port (option_map_or (λ a. a) w.arg 0) (plus_one w.from) (slot_fields_fit w f) in
    let spelt : Kind → SlotWord =
    λ k. record { kind = k; first_port = bits 4 19 n; arg = cond (is_some (row k).arg) (Some (bits 20 43 n)) None; from = less_one (bits 44 53 n) } in
    ap (λ b. option_map spelt (kind_of_bits b)) at.kind ∙ ap (option_map spelt) (kind_again w.kind)
    ∙ ap (λ u. Some u)
    (whole (spelt w.kind) w refl at.first_port
    (ap (λ a. cond (is_some (row w.kind).arg) (Some a) None) at.arg ∙ arg_again (is_some (row w.kind).arg) w.arg f.present)
    (ap less_one at.from ∙ one_less_again w.from))
  where
    whole : (u w : SlotWord) → u.kind ≡ w.kind → u.first_port ≡ w.first_port → u.arg ≡ w.arg → u.from ≡ w.from → u ≡ w
    whole u w a b c d = λ i. record { kind = a i; first_port = b i; arg = c i; from = d i }

pub slot_words_differ : (v w : SlotWord) → FitsSlotWord v → FitsSlotWord w → pack_slot v ≡ pack_slot w → v ≡ w
slot_words_differ v w f g same = same_Some v w (sym (slot_words_decode v f) ∙ ap unpack_slot same ∙ slot_words_decode w g)
