-- How many earlier nodes are behind a node, as a configuration changes.
use Rattle.std.proofs.Common.{◌≡◌, ◌∙◌, ◌⊎◌, ℕ, zero, suc, ◌+◌, ◌<◌, ◌≤◌, false, List, ◌∷◌, [], length, length-append, set, cond, Bool, true, Option, Some, None, refl, sym, ap, subst, ⊎_elim, arith}
use Rattle.std.specs.Prelude.{slice_get, nat_lt, ◌≢◌}
use Rattle.std.specs.Option.{option_map_or}
use Rattle.std.proofs.lemmas.Bool.{cases_eq, cases_lt, ltb-false, ltb-true}
use Rattle.std.proofs.lemmas.List.{length-set}
use Rattle.std.proofs.lemmas.Option.{same_Some, slice_get_within}
use Rattle.base.proofs.PlaceLaws.{slice_get-set_cases, slice_get-set_other, slice_get-set_same, slice_get-snoc}
use Rattle.config_graph.specs.declared.node.Node.{Node}
use Rattle.quiesce_core.specs.Effect.{change_next, with_gate, with_node, with_removed}
use Rattle.quiesce_core.specs.State.{Configuration, slot}
use Rattle.quiesce_core.specs.declared.event.Event.TheVariants.{Remove}
use Rattle.quiesce_core.specs.declared.state.Gate.{Gate}
use Rattle.quiesce_core.specs.declared.state.Slot.{Slot}
use Rattle.quiesce_core.proofs.SourceLaws.{new_slot}
use Rattle.live_board.specs.Behind.{HasBehind, IsShallow}
use Rattle.live_board.specs.Boards.{FitsNodes}
use Rattle.live_board.specs.Heirs.{AreHeirs, with_heir}
use Rattle.live_board.specs.Lengths.{length_at}
use Rattle.live_board.proofs.HeirLemmas.{heirs_made, with_heir_length}

abbrev pub AreBelow : Configuration → Type 0
AreBelow c = (n k : ℕ) (m : Slot) → slot c n ≡ Some m → m.from ≡ Some k → k < n

-- a configuration with the same sources
record KeepsSources (c d : Configuration) : Type 0 where
  count : length d.slots ≡ length c.slots
  was : (n : ℕ) (m : Slot) → slot d n ≡ Some m → (old : Slot) × (slot c n ≡ Some old) × (old.from ≡ m.from)
  still : (n : ℕ) (m : Slot) → slot c n ≡ Some m → (new : Slot) × (slot d n ≡ Some new) × (new.from ≡ m.from)

behind_was : (c d : Configuration) → KeepsSources c d → (n k : ℕ) → HasBehind d n k → HasBehind c n k
behind_was c d h n zero b = let old = h.was n b.0 b.1 in (old.0, old.1, old.2 ∙ b.2)
behind_was c d h n (suc k) b = let old = h.was n b.0 b.2 in (old.0, b.1, old.1, old.2 ∙ b.3, behind_was c d h b.1 k b.4)

fits_kept : (c d : Configuration) → KeepsSources c d → (sources lines : ℕ) (heirs : List (Option ℕ)) → FitsNodes c sources lines heirs → FitsNodes d sources lines heirs
fits_kept c d h sources lines heirs f = record {
  heirs_are = record {
    took = λ n j at. let t = f.heirs_are.took n j at in let new = h.still j t.0 t.1 in (new.0, new.1, new.2 ∙ t.2);
    known = λ n j m at is. let old = h.was j m at in f.heirs_are.known n j old.0 old.1 (old.2 ∙ is);
  };
  places = f.places;
  shallow = λ n k b. f.shallow n k (behind_was c d h n k b);
  made = subst (λ i. sources ≤ i) (sym h.count) f.made;
  few = f.few;
}

removed_keeps : (c : Configuration) (n : ℕ) → KeepsSources c (with_removed c n)
removed_keeps c n = record { count = counted (slot c n); was = λ i m at. was (slot c n) refl i m at; still = λ i m at. still (slot c n) refl i m at }
  where
    counted : (o : Option Slot) → length (option_map_or (λ (x : Slot). set c.slots n (record x { live = false })) o c.slots) ≡ length c.slots
    counted None = refl
    counted (Some x) = length-set c.slots n (record x { live = false })

    was : (o : Option Slot) → slot c n ≡ o → (i : ℕ) (m : Slot) → slice_get (option_map_or (λ (x : Slot). set c.slots n (record x { live = false })) o c.slots) i ≡ Some m
        → (old : Slot) × (slot c i ≡ Some old) × (old.from ≡ m.from)
    was None there i m at = (m, at, refl)
    was (Some x) there i m at = ⊎_elim
        (λ (here : (i ≡ n) × (record x { live = false } ≡ m)). (x, ap (slot c) here.0 ∙ there, ap (λ (y : Slot). y.from) here.1))
        (λ (other : slice_get c.slots i ≡ Some m). (m, other, refl))
        (slice_get-set_cases c.slots n (record x { live = false }) i m at)

    still : (o : Option Slot) → slot c n ≡ o → (i : ℕ) (m : Slot) → slot c i ≡ Some m
        → (new : Slot) × (slice_get (option_map_or (λ (x : Slot). set c.slots n (record x { live = false })) o c.slots) i ≡ Some new) × (new.from ≡ m.from)
    still None there i m at = (m, at, refl)
    still (Some x) there i m at = ⊎_elim
        (λ (same : i ≡ n). (
          record x { live = false },
          ap (slice_get (set c.slots n (record x { live = false }))) same ∙ slice_get-set_same c.slots n (record x { live = false }) (slice_get_within c.slots n x there),
          ap (λ (y : Slot). y.from) (same_Some x m (sym there ∙ ap (slot c) (sym same) ∙ at)),
        ))
        (λ (other : i ≢ n). (m, slice_get-set_other c.slots n (record x { live = false }) i other ∙ at, refl))
        (cases_eq i n)

module _ (c : Configuration) (node : Node) (from : Option ℕ) (low : AreBelow (with_node c node from)) where
  slot_of_old : (n : ℕ) (m : Slot) → slot (with_node c node from) n ≡ Some m → ((n < length c.slots) × (slot c n ≡ Some m)) ⊎ ((n ≡ length c.slots) × (new_slot c node from ≡ m))
  slot_of_old n m at = slice_get-snoc c.slots (new_slot c node from) m n at

  old_slot : (n : ℕ) (m : Slot) → n < length c.slots → slot (with_node c node from) n ≡ Some m → slot c n ≡ Some m
  old_slot n m few at = ⊎_elim
      (λ (old : (n < length c.slots) × (slot c n ≡ Some m)). old.1)
      (λ (new : (n ≡ length c.slots) × (new_slot c node from ≡ m)). absurd (omega (arith, few, new.0)))
      (slot_of_old n m at)

  old_behind : (n d : ℕ) → n < length c.slots → HasBehind (with_node c node from) n d → HasBehind c n d
  old_behind n zero few b = (b.0, old_slot n b.0 few b.1, b.2)
  old_behind n (suc d) few b =
      let below = low n b.1 b.0 b.2 b.3 in
      (b.0, b.1, old_slot n b.0 few b.2, b.3, old_behind b.1 d (omega (arith, below, few)) b.4)

  new_behind : (sources lines : ℕ) → sources ≤ length c.slots → ((k : ℕ) → from ≡ Some k → k < sources) → IsShallow c sources lines
      → (n d : ℕ) → length c.slots ≤ n → HasBehind (with_node c node from) n d → (d ≤ lines) × (n < sources → d < lines)
  new_behind sources lines made may s n zero past b = (omega arith, λ low_. absurd (omega (arith, low_, made, past)))
  new_behind sources lines made may s n (suc d) past b = ⊎_elim
      (λ (old : (n < length c.slots) × (slot c n ≡ Some b.0)). absurd (omega (arith, old.0, past)))
      (λ (new : (n ≡ length c.slots) × (new_slot c node from ≡ b.0)).
      let source = may b.1 (ap (λ (m : Slot). m.from) new.1 ∙ b.3) in
      let fewer = (s b.1 d (old_behind b.1 d (omega (arith, source, made)) b.4)).1 source in
      (omega (arith, fewer), λ low_. absurd (omega (arith, low_, made, past))))
      (slot_of_old n b.0 b.2)

  -- a node that takes over from one in a slot below `sources`
  pub shallow_made : (sources lines : ℕ) → sources ≤ length c.slots → ((k : ℕ) → from ≡ Some k → k < sources) → IsShallow c sources lines → IsShallow (with_node c node from) sources lines
  shallow_made sources lines made may s n d b = ⊎_elim
      (λ (few : n < length c.slots). s n d (old_behind n d few b))
      (λ (past : length c.slots ≤ n). new_behind sources lines made may s n d past b)
      (cases_lt n (length c.slots))

-- one node more
pub fits_made : (c : Configuration) (node : Node) (from : Option ℕ) → AreBelow (with_node c node from) → (sources lines : ℕ) (heirs : List (Option ℕ)) → ((k : ℕ) → from ≡ Some k → k < sources) → FitsNodes c sources lines heirs
    → FitsNodes (with_node c node from) sources lines (with_heir heirs from (length c.slots))
fits_made c node from low sources lines heirs may f = record {
  heirs_are = heirs_made c (with_node c node from) (new_slot c node from) refl heirs f.heirs_are from refl (λ k is. let few = may k is in omega (arith, few, f.places));
  places = subst (λ i. sources ≤ i) (sym (with_heir_length heirs from (length c.slots))) f.places;
  shallow = shallow_made c node from low sources lines f.made may f.shallow;
  made = let more_ = length-append c.slots (new_slot c node from ∷ []) in omega (arith, more_, f.made);
  few = f.few;
}

-- an event of the change that makes no node
pub fits_gated : (p : ℕ) (g : Configuration → Gate) (sources lines : ℕ) (heirs : List (Option ℕ)) (c : Configuration) → FitsNodes c sources lines heirs → FitsNodes (with_gate c p (g c)) sources lines heirs
fits_gated p g sources lines heirs c f =
    fits_kept c (with_gate c p (g c)) (record { count = refl; was = λ n m at. (m, at, refl); still = λ n m at. (m, at, refl) }) sources lines heirs f

pub fits_removed : (n sources lines : ℕ) (heirs : List (Option ℕ)) (c : Configuration) → FitsNodes c sources lines heirs → FitsNodes (change_next c (Remove n)) sources lines heirs
fits_removed n sources lines heirs c f = fits_kept c (with_removed c n) (removed_keeps c n) sources lines heirs f

heirs_longer : (c : Configuration) (heirs heirs' : List (Option ℕ)) → ((n : ℕ) → length_at heirs' n ≡ length_at heirs n) → AreHeirs c heirs → AreHeirs c heirs'
heirs_longer c heirs heirs' same h = record {
  took = λ n j at. h.took n j (sym (same n) ∙ at);
  known = λ n j m at from. let k = h.known n j m at from in (k.0, same n ∙ k.1);
}

-- there are more places
pub fits_longer : (c : Configuration) (sources lines : ℕ) (heirs heirs' : List (Option ℕ)) → ((n : ℕ) → length_at heirs' n ≡ length_at heirs n) → length heirs ≤ length heirs' → FitsNodes c sources lines heirs → FitsNodes c sources lines heirs'
fits_longer c sources lines heirs heirs' same long f = record {
  heirs_are = heirs_longer c heirs heirs' same f.heirs_are;
  places = omega (arith, long, f.places);
  shallow = f.shallow;
  made = f.made;
  few = f.few;
}

-- from now on a node that was made so far may be taken over from
pub fits_from_now : (c : Configuration) (sources lines lines' : ℕ) (heirs heirs' : List (Option ℕ)) → ((n : ℕ) → length_at heirs' n ≡ length_at heirs n) → length c.slots ≤ length heirs'
    → lines' ≡ cond (nat_lt sources (length c.slots)) (lines + 1) lines → FitsNodes c sources lines heirs → FitsNodes c (length c.slots) lines' heirs'
fits_from_now c sources lines lines' heirs heirs' same long is f = record {
  heirs_are = heirs_longer c heirs heirs' same f.heirs_are;
  places = long;
  shallow = (by (nat_lt sources (length c.slots)) refl).0;
  made = omega arith;
  few = (by (nat_lt sources (length c.slots)) refl).1;
}
  where
    by : (t : Bool) → nat_lt sources (length c.slots) ≡ t → IsShallow c (length c.slots) lines' × (lines' ≤ length c.slots)
    by true on =
        let is' : lines' ≡ lines + 1 = is ∙ ap (λ b. cond b (lines + 1) lines) on in
        let more_ = ltb-true sources (length c.slots) on in (
          λ n d b. let h = f.shallow n d b in (omega (arith, h.0, is'), λ low_. omega (arith, h.0, is')),
          omega (arith, is', more_, f.few),
        )
    by false off =
        let is' : lines' ≡ lines = is ∙ ap (λ b. cond b (lines + 1) lines) off in
        let all = ltb-false sources (length c.slots) off in (
          λ n d b. let h = f.shallow n d b in (omega (arith, h.0, is'), λ low_. let low = h.1 (omega (arith, all, low_)) in omega (arith, low, is')),
          omega (arith, is', f.made, f.few),
        )

-- where there is room for more
pub shallow_more : (c : Configuration) (sources lines more_ : ℕ) → lines ≤ more_ → IsShallow c sources lines → IsShallow c sources more_
shallow_more c sources lines more_ few s n d b = let h = s n d b in (omega (arith, h.0, few), λ low_. let low = h.1 low_ in omega (arith, low, few))
