-- Ports by numbers, and the index of bindings over them.
use Rattle.std.proofs.Common.{◌≡◌, ◌∙◌, ℕ, ℤ, Bool, true, false, cond, eqb, int_eq, List, [], ◌∷◌, ◌++◌, Option, Some, None, refl, ap, sym, subst, inl, inr, ◌⊎◌}
use Rattle.std.specs.List.{slice_get}
use Rattle.std.specs.Option.{option_eq}
use Rattle.std.proofs.lemmas.Bool.{false≢true, eqb-true, eq-eqb, and_parts}
use Rattle.std.proofs.lemmas.Bool.Decides.{Decides-int_eq}
use Rattle.std.proofs.lemmas.Option.{same_Some, none-some}
use Rattle.std.proofs.lemmas.List.Elements.{Contains-append_left, Contains-push, Contains-push_cases}
use Rattle.darwin_parser.specs.Tree.{PortDecl}
use Rattle.elaborator.specs.Instances.{Instance}
use Rattle.elaborator.specs.Bindings.{Port, Pair}
use Rattle.elaborator.specs.Numbering.{Expanded, NumberedInstance, Numbered, IsExpanded}
use Rattle.elaborator.specs.Ports.{place_of, IsPort}
use Rattle.elaborator.specs.PortIndex.{port_eq, chain_target, Updated, IsIndex}
use Rattle.elaborator.specs.declared.chains.PortId.{PortId}

same_index : (i j : Option ℤ) → option_eq int_eq i j ≡ true → i ≡ j
same_index None None e = refl
same_index None (Some j) e = absurd (false≢true e)
same_index (Some i) None e = absurd (false≢true e)
same_index (Some i) (Some j) e = ap Some ((Decides-int_eq i j).0 e)

index_itself : (i : Option ℤ) → option_eq int_eq i i ≡ true
index_itself None = refl
index_itself (Some i) = (Decides-int_eq i i).1 refl

made_of_parts : (a b : PortId) → a.instance ≡ b.instance → a.port ≡ b.port → a.index ≡ b.index → a ≡ b
made_of_parts a b instance port index =
    ap (λ n. record { instance = n; port = a.port; index = a.index }) instance ∙ ap (λ n. record { instance = b.instance; port = n; index = a.index }) port
    ∙ ap (λ i. record { instance = b.instance; port = b.port; index = i }) index

pub same_port : (a b : PortId) → port_eq a b ≡ true → a ≡ b
same_port a b e =
    let first = and_parts (eqb a.instance b.instance) _ e in
    let second = and_parts (eqb a.port b.port) _ first.1 in
    made_of_parts a b (eqb-true a.instance b.instance first.0) (eqb-true a.port b.port second.0) (same_index a.index b.index second.1)

pub port_itself : (a : PortId) → port_eq a a ≡ true
port_itself a = rw (eq-eqb a.instance a.instance refl, eq-eqb a.port a.port refl, index_itself a.index) refl

-- ---- numbers and what they stand for

pub same_numbered : (e : Expanded) (n : ℕ) (i j : Instance) → Numbered e n i → Numbered e n j → i ≡ j
same_numbered e n i j a b = ap (λ (x : NumberedInstance). x.instance) (same_Some _ _ (sym a.is_at ∙ b.is_at))

-- a port of an instance
port_in : Instance → PortDecl → Option ℤ → Port
port_in i d index = record { path = i.path; depth = i.depth; side = d.side; name = d.name; index = index }

-- numbers stand for one port
pub port_functional : (e : Expanded) (k : PortId) (x y : Port) → IsPort e k x → IsPort e k y → x ≡ y
unfolding port_in
port_functional e k x y a b =
    let instance = same_numbered e k.instance a.instance b.instance a.numbered b.numbered in
    let decl : a.decl ≡ b.decl = same_Some _ _ (sym (subst (λ (i : Instance). slice_get i.component.ports k.port ≡ Some a.decl) instance a.declared) ∙ b.declared) in
    a.is_port ∙ ap (λ i. port_in i a.decl k.index) instance ∙ ap (λ d. port_in b.instance d k.index) decl ∙ sym b.is_port

-- and a port has one set of numbers
pub port_injective : (e : Expanded) → IsExpanded e → (k l : PortId) (x : Port) → IsPort e k x → IsPort e l x → k ≡ l
port_injective e expanded k l x a b =
    let same = sym a.is_port ∙ b.is_port in
    let number = expanded.distinct k.instance l.instance a.instance b.instance a.numbered b.numbered (ap (λ (p : Port). p.path) same) (ap (λ (p : Port). p.depth) same) in
    let instance = same_numbered e l.instance a.instance b.instance (subst (λ n. Numbered e n a.instance) number a.numbered) b.numbered in
    let place : place_of b.decl.name b.instance.component.ports ≡ Some k.port = subst (λ (i : Instance). place_of b.decl.name i.component.ports ≡ Some k.port) instance (subst (λ n. place_of n a.instance.component.ports ≡ Some k.port) (ap (λ (p : Port). p.name) same) a.first) in
    made_of_parts k l number (same_Some k.port l.port (sym place ∙ b.first)) (ap (λ (p : Port). p.index) same)

-- ---- the index

-- what the index has of another port, or of the one that was bound, after a port is bound
after_cases :
    (old new : List (PortId × PortId)) (k t : PortId) → Updated old new k t → (x y : PortId) → chain_target new x ≡ Some y
    → ((k ≡ x) × (t ≡ y)) ⊎ (chain_target old x ≡ Some y)
after_cases old new k t updated x y is = by_test (port_eq k x) refl (sym (updated x) ∙ is)
  where
    by_test : (b : Bool) → port_eq k x ≡ b → cond b (Some t) (chain_target old x) ≡ Some y → ((k ≡ x) × (t ≡ y)) ⊎ (chain_target old x ≡ Some y)
    by_test true same is = inl (same_port k x same, same_Some t y is)
    by_test false other is = inr is

-- a port that was bound has its target after another is bound, or the same one
still_bound :
    (old new : List (PortId × PortId)) (k t : PortId) → Updated old new k t → (chain_target old k ≡ None) ⊎ (chain_target old k ≡ Some t)
    → (x y : PortId) → chain_target old x ≡ Some y → chain_target new x ≡ Some y
still_bound old new k t updated before x y is = updated x ∙ by_test (port_eq k x) refl
  where
    at_same : k ≡ x → Some t ≡ Some y
    at_same same =
        elim before [
          | inl none ↦ absurd (none-some y (sym none ∙ ap (chain_target old) same ∙ is))
          | inr some ↦ sym some ∙ ap (chain_target old) same ∙ is
        ]

    by_test : (b : Bool) → port_eq k x ≡ b → cond b (Some t) (chain_target old x) ≡ Some y
    by_test true same = at_same (same_port k x same)
    by_test false other = is

-- a pair more
pub IsIndex-push :
    (e : Expanded) (pairs : List Pair) (old new : List (PortId × PortId)) (k t : PortId) (p : Pair) → IsIndex e pairs old → Updated old new k t
    → IsPort e k p.source → IsPort e t p.target → (chain_target old k ≡ None) ⊎ (chain_target old k ≡ Some t) → IsIndex e (pairs ++ p ∷ []) new
IsIndex-push e pairs old new k t p index updated source target before = record {
  sound = λ x y is.
      elim (after_cases old new k t updated x y is) [
        | inl same ↦ (p, Contains-push pairs p, subst (λ z. IsPort e z p.source) same.0 source, subst (λ z. IsPort e z p.target) same.1 target)
        | inr kept ↦ let w = index.sound x y kept in (w.0, Contains-append_left pairs (p ∷ []) w.0 w.1, w.2, w.3)
      ];
  complete = λ q there.
      elim (Contains-push_cases pairs p q there) [
        | inl earlier ↦ let w = index.complete q earlier in (w.0, w.1, w.2, w.3, still_bound old new k t updated before w.0 w.1 w.4)
        | inr same ↦ (k, t, subst (λ (z : Pair). IsPort e k z.source) same source, subst (λ (z : Pair). IsPort e t z.target) same target, updated k ∙ rw (port_itself k) refl)
      ];
}
