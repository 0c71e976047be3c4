-- How many nodes are behind the last of a line.
use Rattle.std.proofs.Common.{◌≡◌, ◌∙◌, ℕ, zero, suc, ◌+◌, List, [], ◌∷◌, ◌++◌, length, map, Option, Some, None, sym, ap, subst, arith, zero-add}
use Rattle.std.specs.Prelude.{⊤}
use Rattle.std.specs.List.{AllByRecursion}
use Rattle.base.proofs.OptionLaws.{option_map_some}
use Rattle.base.proofs.PlaceLaws.{heads_are, tails_are}
use Rattle.config_graph.specs.declared.kind.Kind.{Kind}
use Rattle.live_hall.specs.Lines.{LinePlace, LineWord, line_words, seen_word}
use Rattle.live_hall.specs.Sighting.{IsMadeIn}
use Rattle.quiesce_core.specs.State.{Configuration, slot}
use Rattle.quiesce_core.specs.Words.{slot_fields_of}
use Rattle.quiesce_core.specs.declared.state.Slot.{Slot}
use Rattle.quiesce_word.specs.declared.slot_word.SlotWord.{SlotWord}
use Rattle.txn_spec.specs.declared.view.NodeView.{NodeView}
use Rattle.live_board.specs.Behind.{HasBehind}

module _ (c : Configuration) (k : Kind) where
  -- so many are behind a node that took over from this one
  abbrev Follows : Option ℕ → ℕ → Type 0
  Follows None zero = ⊤
  Follows None (suc d) = ⊥
  Follows (Some n) zero = ⊥
  Follows (Some n) (suc d) = HasBehind c n d

  made_at : (from : Option ℕ) (x : LinePlace) (n : NodeView) → seen_word n ≡ record { slot = x.slot; kind = k; first = x.first; arg = x.arg; from = from } → IsMadeIn c n
      → (m : Slot) × (slot c x.slot ≡ Some m) × (m.from ≡ from)
  made_at from x n is made =
      let m = option_map_some slot_fields_of (slot c n.slot) n.made made.made in
      (m.0, ap (slot c) (sym (ap (λ (w : LineWord). w.slot) is)) ∙ m.1, ap (λ (w : SlotWord). w.from) m.2 ∙ ap (λ (w : LineWord). w.from) is)

  behind_at : (from : Option ℕ) (d : ℕ) (s : ℕ) → Follows from d → (m : Slot) × (slot c s ≡ Some m) × (m.from ≡ from) → HasBehind c s d
  behind_at None zero s f h = (h.0, h.1, h.2)
  behind_at None (suc d) s f h = absurd f
  behind_at (Some n) zero s f h = absurd f
  behind_at (Some n) (suc d) s f h = (h.0, n, h.1, h.2, f)

  module _ {A : Type 0} (v : A → NodeView) (l : A → LinePlace) (own : NodeView) (last : LinePlace) where
    go : (from : Option ℕ) (d : ℕ) (ps : List A) → Follows from d
        → map (λ p. seen_word (v p)) ps ++ seen_word own ∷ [] ≡ line_words k from (map l ps ++ last ∷ []) → AllByRecursion (IsMadeIn c) (map v ps ++ own ∷ []) → HasBehind c last.slot (d + length ps)
    go from d [] f line made =
        let word : LineWord = record { slot = last.slot; kind = k; first = last.first; arg = last.arg; from = from } in
        let sum : d + 0 ≡ d = omega arith in
        subst (HasBehind c last.slot) (sym sum)
        (behind_at from d last.slot f (made_at from last own (heads_are (seen_word own) word [] [] line) made.0))
    go from d (p ∷ ps) f line made =
        let word : LineWord = record { slot = (l p).slot; kind = k; first = (l p).first; arg = (l p).arg; from = from } in
        let rest = line_words k (Some (l p).slot) (map l ps ++ last ∷ []) in
        let here = heads_are (seen_word (v p)) word (map (λ p. seen_word (v p)) ps ++ seen_word own ∷ []) rest line in
        let behind = behind_at from d (l p).slot f (made_at from (l p) (v p) here made.0) in
        let sum : suc d + length ps ≡ d + length (p ∷ ps) = omega arith in
        subst (HasBehind c last.slot) sum
        (go (Some (l p).slot) (suc d) ps behind (tails_are (seen_word (v p)) word (map (λ p. seen_word (v p)) ps ++ seen_word own ∷ []) rest line) made.1)

    pub line_behind : (ps : List A) → map (λ p. seen_word (v p)) ps ++ seen_word own ∷ [] ≡ line_words k None (map l ps ++ last ∷ []) → AllByRecursion (IsMadeIn c) (map v ps ++ own ∷ []) → HasBehind c last.slot (length ps)
    line_behind ps line made = subst (HasBehind c last.slot) (zero-add (length ps)) (go None 0 ps tt line made)
