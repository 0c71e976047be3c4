-- Lines of two live nodes have no node in common.
use Rattle.std.proofs.Common.{◌≡◌, ◌∙◌, ℕ, true, false, List, [], ◌∷◌, ◌++◌, Option, Some, None, sym, ap, ⊎_elim}
use Rattle.std.specs.Prelude.{◌||◌}
use Rattle.std.specs.List.{list_any}
use Rattle.std.proofs.lemmas.Bool.{both_ways, cases_Bool, eqb-true}
use Rattle.base.proofs.OptionLaws.{map_or_at}
use Rattle.config_graph.specs.declared.kind.Kind.{Kind}
use Rattle.quiesce_core.specs.Sources.{SourcesAreGone}
use Rattle.quiesce_core.specs.State.{Configuration, is_live, slot}
use Rattle.quiesce_core.specs.declared.state.Slot.{Slot}
use Rattle.live_board.specs.Lines.{IsMadeLine, LineSight, is_in_slot}

-- the slot of the first of a line
abbrev first_slot : List LineSight → LineSight → ℕ
first_slot [] last = last.slot
first_slot (x ∷ xs) last = x.slot

module _ (c : Configuration) (gone : SourcesAreGone c) where
  abbrev took : (k : Kind) (from : Option ℕ) (xs : List LineSight) (last : LineSight) → IsMadeLine c k from (xs ++ last ∷ []) → (m : Slot) × (slot c (first_slot xs last) ≡ Some m) × (m.from ≡ from)
  took k from [] last h = (h.0.made, h.0.there, h.0.from_is)
  took k from (x ∷ xs) last h = (h.0.made, h.0.there, h.0.from_is)

  -- none took over from a live node
  none_took : (k : Kind) (n : ℕ) (xs : List LineSight) (last : LineSight) → IsMadeLine c k (Some n) (xs ++ last ∷ []) → is_live c n ≡ true → ⊥
  none_took k n xs last h live =
      let m = took k (Some n) xs last h in
      let old = gone.gone (first_slot xs last) n m.0 m.1 m.2 in
      both_ways (is_live c n) (map_or_at (λ (x : Slot). x.live) (slot c n) false old.old old.there ∙ old.removed) live

  -- from a common node on, lines are the same to their ends
  one_end : (k j : Kind) (o p : Option ℕ) (xs ys : List LineSight) (a b : LineSight) → IsMadeLine c k o (xs ++ a ∷ []) → IsMadeLine c j p (ys ++ b ∷ [])
      → first_slot xs a ≡ first_slot ys b → is_live c a.slot ≡ true → is_live c b.slot ≡ true → a.slot ≡ b.slot
  one_end k j o p [] [] a b h g same la lb = same
  one_end k j o p [] (y ∷ ys) a b h g same la lb = absurd (none_took j y.slot ys b g.1 (ap (is_live c) (sym same) ∙ la))
  one_end k j o p (x ∷ xs) [] a b h g same la lb = absurd (none_took k x.slot xs a h.1 (ap (is_live c) same ∙ lb))
  one_end k j o p (x ∷ xs) (y ∷ ys) a b h g same la lb =
      let m = took k (Some x.slot) xs a h.1 in
      let n = took j (Some y.slot) ys b g.1 in
      one_end k j (Some x.slot) (Some y.slot) xs ys a b h.1 g.1
      (gone.once (first_slot xs a) (first_slot ys b) x.slot m.0 n.0 m.1 n.1 m.2 (n.2 ∙ ap Some (sym same))) la lb

  -- a line from one of its nodes on
  record From (k : Kind) (last : LineSight) (n : ℕ) : Type 0 where
    from : Option ℕ
    xs : List LineSight
    made : IsMadeLine c k from (xs ++ last ∷ [])
    begins : first_slot xs last ≡ n

  from_there : (k : Kind) (from : Option ℕ) (xs : List LineSight) (last : LineSight) (n : ℕ) → IsMadeLine c k from (xs ++ last ∷ []) → list_any (is_in_slot n) (xs ++ last ∷ []) ≡ true → From k last n
  from_there k from [] last n h at = ⊎_elim
      (λ (here : is_in_slot n last ≡ true). record { from = from; xs = []; made = h; begins = eqb-true last.slot n here })
      (λ (other : is_in_slot n last ≡ false). absurd (both_ways (is_in_slot n last || false) (ap (λ b. b || false) other) at))
      (cases_Bool (is_in_slot n last))
  from_there k from (x ∷ xs) last n h at = ⊎_elim
      (λ (here : is_in_slot n x ≡ true). record { from = from; xs = x ∷ xs; made = h; begins = eqb-true x.slot n here })
      (λ (other : is_in_slot n x ≡ false). from_there k (Some x.slot) xs last n h.1 (sym (ap (λ b. b || list_any (is_in_slot n) (xs ++ last ∷ [])) other) ∙ at))
      (cases_Bool (is_in_slot n x))

  ends_so : (k : Kind) (from : Option ℕ) (xs : List LineSight) (last : LineSight) (n : ℕ) → IsMadeLine c k from (xs ++ last ∷ []) → first_slot xs last ≡ n → is_live c n ≡ true → last.slot ≡ n
  ends_so k from [] last n h begins live = begins
  ends_so k from (x ∷ xs) last n h begins live = absurd (none_took k x.slot xs last h.1 (ap (is_live c) begins ∙ live))

  -- a live node is the last of its line
  pub ends_live : (k : Kind) (past : List LineSight) (last : LineSight) (n : ℕ) → IsMadeLine c k None (past ++ last ∷ []) → list_any (is_in_slot n) (past ++ last ∷ []) ≡ true → is_live c n ≡ true → last.slot ≡ n
  ends_live k past last n h at live = let f = from_there k None past last n h at in ends_so k f.from f.xs last n f.made f.begins live

  pub share_none : (k j : Kind) (past other : List LineSight) (last final : LineSight) (n : ℕ) → IsMadeLine c k None (past ++ last ∷ []) → IsMadeLine c j None (other ++ final ∷ [])
      → is_live c last.slot ≡ true → is_live c final.slot ≡ true → list_any (is_in_slot n) (past ++ last ∷ []) ≡ true → list_any (is_in_slot n) (other ++ final ∷ []) ≡ true → last.slot ≡ final.slot
  share_none k j past other last final n h g la lb at at_ =
      let a = from_there k None past last n h at in
      let b = from_there j None other final n g at_ in
      one_end k j a.from b.from a.xs b.xs last final a.made b.made (a.begins ∙ sym b.begins) la lb
