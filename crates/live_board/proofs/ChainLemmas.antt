-- Where the lines of nodes lead.
use Rattle.std.proofs.Common.{◌≡◌, ◌∙◌, ◌⊎◌, ℕ, zero, suc, ◌+◌, ◌<◌, true, false, List, [], ◌∷◌, ◌++◌, Option, Some, None, refl, sym, ap, subst, ⊎_elim, inl, inr, arith}
use Rattle.std.specs.Prelude.{◌||◌}
use Rattle.std.specs.List.{list_any}
use Rattle.std.proofs.lemmas.Bool.{both_ways, cases_Bool, eq-eqb, eqb-true, or_left, or_right}
use Rattle.std.proofs.lemmas.Option.{same_Some}
use Rattle.config_graph.specs.declared.kind.Kind.{Kind}
use Rattle.quiesce_core.specs.State.{Configuration, slot}
use Rattle.quiesce_core.specs.declared.state.Slot.{Slot}
use Rattle.live_board.specs.Lines.{IsMadeLine, LineSight, is_in_slot}

-- the node in slot n is behind the one in slot e
pub data Leads (c : Configuration) (e : ℕ) : ℕ → Type 0 where
  same : Leads c e e
  on : (h n : ℕ) (m : Slot) → slot c h ≡ Some m → m.from ≡ Some n → Leads c e h → Leads c e n

abbrev HasSlot : List LineSight → ℕ → Type 0
HasSlot xs n = list_any (is_in_slot n) xs ≡ true

module _ (c : Configuration) (k : Kind) where
  some_same : (a b : ℕ) → Some a ≡ Some b → a ≡ b
  some_same a b h = cc

  none_some : {A : Type 0} (a : ℕ) → None ≡ Some a → A
  none_some a h = absurd (cc)

  before : (from : Option ℕ) (xs : List LineSight) (h n : ℕ) (m : Slot) → IsMadeLine c k from xs → HasSlot xs h → slot c h ≡ Some m → m.from ≡ Some n → (from ≡ Some n) ⊎ HasSlot xs n
  before from [] h n m line has at is = absurd (both_ways false refl has)
  before from (x ∷ xs) h n m line has at is = ⊎_elim
      (λ (here : is_in_slot h x ≡ true).
      let one : x.slot ≡ h = eqb-true x.slot h here in
      let made : line.0.made ≡ m = same_Some line.0.made m (sym line.0.there ∙ ap (slot c) one ∙ at) in
      inl (sym line.0.from_is ∙ ap (λ (y : Slot). y.from) made ∙ is))
      (λ (other : is_in_slot h x ≡ false). ⊎_elim
      (λ (first : Some x.slot ≡ Some n). inr (or_left (is_in_slot n x) (list_any (is_in_slot n) xs) (eq-eqb x.slot n (some_same x.slot n first))))
      (λ (later : HasSlot xs n). inr (or_right (is_in_slot n x) (list_any (is_in_slot n) xs) later))
      (before (Some x.slot) xs h n m line.1 (sym (ap (λ b. b || list_any (is_in_slot h) xs) other) ∙ has) at is))
      (cases_Bool (is_in_slot h x))

  last_has : (xs : List LineSight) (x : LineSight) → HasSlot (xs ++ x ∷ []) x.slot
  last_has [] x = or_left (is_in_slot x.slot x) false (eq-eqb x.slot x.slot refl)
  last_has (y ∷ xs) x = or_right (is_in_slot x.slot y) (list_any (is_in_slot x.slot) (xs ++ x ∷ [])) (last_has xs x)

  -- a line has all nodes that are behind its last
  pub line_has : (xs : List LineSight) (x : LineSight) (e n : ℕ) → x.slot ≡ e → IsMadeLine c k None (xs ++ x ∷ []) → Leads c e n → HasSlot (xs ++ x ∷ []) n
  line_has xs x e _ is line same = subst (HasSlot (xs ++ x ∷ [])) is (last_has xs x)
  line_has xs x e _ is line (on h n m at from leads) = ⊎_elim
      (λ (none_ : None ≡ Some n). none_some n none_)
      (λ (has : HasSlot (xs ++ x ∷ []) n). has)
      (before None (xs ++ x ∷ []) h n m line (line_has xs x e h is line leads) at from)

module _ (c : Configuration) where
  -- each node is behind one whose state no other took over
  pub record Ended (heirs : ℕ → Option ℕ) (made n : ℕ) : Type 0 where
    pub end : ℕ
    pub few : end < made
    pub none_ : heirs end ≡ None
    pub leads : Leads c end n

  pub ended : (heirs : ℕ → Option ℕ) (made : ℕ) → ((n h : ℕ) → heirs n ≡ Some h → (m : Slot) × (slot c h ≡ Some m) × (m.from ≡ Some n) × (n < h) × (h < made))
      → (fuel n : ℕ) → n < made → made < n + fuel → Ended heirs made n
  ended heirs made took zero n few enough = absurd (omega (arith, few, enough))
  ended heirs made took (suc fuel) n few enough = by (λ h up low. ended heirs made took fuel h low (omega (arith, enough, up))) (heirs n) refl
    where
      by : ((h : ℕ) → n < h → h < made → Ended heirs made h) → (o : Option ℕ) → heirs n ≡ o → Ended heirs made n
      by rec None is = record { end = n; few = few; none_ = is; leads = same }
      by rec (Some h) is =
          let t = took n h is in
          let rest = rec h t.3 t.4 in
          record { end = rest.end; few = rest.few; none_ = rest.none_; leads = on h n t.0 t.1 t.2 rest.leads }
