-- Lemmas on classes of tied numbers.
use Rattle.std.proofs.Common.{◌≡◌, ◌∙◌, ◌⊎◌, ◌<◌, ◌≤◌, ◌++◌, ◌∷◌, [], ℕ, cond, List, length, get_or, refl, sym, ap, subst, inl, inr, arith, Contains}
use Rattle.std.proofs.lemmas.Bool.{eq-eqb, ne_eqb, cases_eq}
use Rattle.std.proofs.lemmas.List.Elements.{Contains-append_cases, Contains-append_left, Contains-append_right}
use Rattle.std.specs.List.{range_with_len}
use Rattle.std.proofs.lemmas.List.FromFn.{get_or-range_with_len, length-range_with_len}
use Rattle.base.proofs.ContainsLaws.{Contains-here, Contains-nil, Contains-one}
use Rattle.change_parts.specs.Classes.{AreClasses, Chain, renamed}
use Rattle.change_parts.specs.Classes.Chain.{itself, along, against}

module _ (ties : List (ℕ × ℕ)) where
  pub then_chain : (a b c : ℕ) → Chain ties a b → Chain ties b c → Chain ties a c
  then_chain a _ c itself next = next
  then_chain a b c (along {b = d} t rest) next = along t (then_chain d b c rest next)
  then_chain a b c (against {b = d} t rest) next = against t (then_chain d b c rest next)

  pub chain_back : (a b : ℕ) → Chain ties a b → Chain ties b a
  chain_back a _ itself = itself
  chain_back a b (along {b = d} t rest) = then_chain b d a (chain_back d b rest) (against t itself)
  chain_back a b (against {b = d} t rest) = then_chain b d a (chain_back d b rest) (along t itself)

  pub more_ties : (more_ : List (ℕ × ℕ)) (a b : ℕ) → Chain ties a b → Chain (ties ++ more_) a b
  more_ties more_ a _ itself = itself
  more_ties more_ a b (along {b = d} t rest) = along (Contains-append_left ties more_ (a, d) t) (more_ties more_ d b rest)
  more_ties more_ a b (against {b = d} t rest) = against (Contains-append_left ties more_ (d, a) t) (more_ties more_ d b rest)

renamed_is : (from to x : ℕ) → x ≡ from → renamed from to x ≡ to
renamed_is from to x same = ap (λ b. cond b to x) (eq-eqb x from same)

renamed_other : (from to x : ℕ) → ¬ (x ≡ from) → renamed from to x ≡ x
renamed_other from to x other = ap (λ b. cond b to x) (ne_eqb x from other)

-- a number that is renamed to itself
pub renamed_itself : (from to x : ℕ) → from ≡ to → renamed from to x ≡ x
renamed_itself from to x same =
    elim (cases_eq x from) [
      | inl is ↦ renamed_is from to x is ∙ sym same ∙ sym is
      | inr other ↦ renamed_other from to x other
    ]

-- the classes with one tie more: one of its ends' least numbers takes the other's place
module _ (ties : List (ℕ × ℕ)) (least : List ℕ) (are : AreClasses ties least) (a b high low : ℕ) (a_in : a < length least) (b_in : b < length least)
    (not_above : low ≤ high) (ends : ((get_or least a 0 ≡ high) × (get_or least b 0 ≡ low)) ⊎ ((get_or least a 0 ≡ low) × (get_or least b 0 ≡ high))) where
  abbrev more_ : List (ℕ × ℕ)
  more_ = ties ++ (a, b) ∷ []

  abbrev new : ℕ → ℕ
  new i = renamed high low (get_or least i 0)

  tied : Contains more_ (a, b)
  tied = Contains-append_right ties ((a, b) ∷ []) (a, b) (Contains-here (a, b) [])

  -- the two least numbers are in one class now
  over : Chain more_ low high
  over =
      elim ends [
        | inl w ↦ then_chain more_ low b high (subst (λ x. Chain more_ x b) w.1 (more_ties ties ((a, b) ∷ []) (get_or least b 0) b (are.joined b b_in)))
            (against tied (chain_back more_ high a (subst (λ x. Chain more_ x a) w.0 (more_ties ties ((a, b) ∷ []) (get_or least a 0) a (are.joined a a_in)))))
        | inr w ↦ then_chain more_ low a high (subst (λ x. Chain more_ x a) w.0 (more_ties ties ((a, b) ∷ []) (get_or least a 0) a (are.joined a a_in)))
            (along tied (chain_back more_ high b (subst (λ x. Chain more_ x b) w.1 (more_ties ties ((a, b) ∷ []) (get_or least b 0) b (are.joined b b_in)))))
      ]

  new_below : (i : ℕ) → i < length least → new i ≤ i
  new_below i inside =
      elim (cases_eq (get_or least i 0) high) [
        | inl same ↦ let is = renamed_is high low (get_or least i 0) same in omega (arith, is, are.below i inside, same, not_above)
        | inr other ↦ let is = renamed_other high low (get_or least i 0) other in omega (arith, is, are.below i inside)
      ]

  new_joined : (i : ℕ) → i < length least → Chain more_ (new i) i
  new_joined i inside =
      let was = more_ties ties ((a, b) ∷ []) (get_or least i 0) i (are.joined i inside) in
      elim (cases_eq (get_or least i 0) high) [
        | inl same ↦ subst (λ x. Chain more_ x i) (sym (renamed_is high low (get_or least i 0) same)) (then_chain more_ low high i over (subst (λ x. Chain more_ x i) same was))
        | inr other ↦ subst (λ x. Chain more_ x i) (sym (renamed_other high low (get_or least i 0) other)) was
      ]

  -- both ends have one least number now
  new_ends : new a ≡ new b
  new_ends =
      elim ends [
        | inl w ↦ renamed_is high low (get_or least a 0) w.0 ∙ sym (to_low (get_or least b 0) w.1)
        | inr w ↦ to_low (get_or least a 0) w.0 ∙ sym (renamed_is high low (get_or least b 0) w.1)
      ]
    where
      to_low : (x : ℕ) → x ≡ low → renamed high low x ≡ low
      to_low x is = elim (cases_eq x high) [ inl same ↦ renamed_is high low x same | inr other ↦ renamed_other high low x other ∙ is ]

  tie_within : (c d : ℕ) → Contains more_ (c, d) → (c < length least) × (d < length least)
  tie_within c d held =
      elim (Contains-append_cases ties ((a, b) ∷ []) (c, d) held) [
        | inl before ↦ are.within c d before
        | inr last ↦ let same = Contains-one (a, b) (c, d) last in (subst (λ x. x < length least) (sym (λ n. (same n).0)) a_in, subst (λ x. x < length least) (sym (λ n. (same n).1)) b_in)
      ]

  new_tie : (c d : ℕ) → Contains more_ (c, d) → new c ≡ new d
  new_tie c d held =
      elim (Contains-append_cases ties ((a, b) ∷ []) (c, d) held) [
        | inl before ↦ let w = are.within c d before in ap (renamed high low) (are.same c d w.0 w.1 (along before itself))
        | inr last ↦ let same = Contains-one (a, b) (c, d) last in ap new (λ n. (same n).0) ∙ new_ends ∙ sym (ap new (λ n. (same n).1))
      ]

  new_same : (i j : ℕ) → Chain more_ i j → new i ≡ new j
  new_same i _ itself = refl
  new_same i j (along {b = d} t rest) = new_tie i d t ∙ new_same d j rest
  new_same i j (against {b = d} t rest) = sym (new_tie d i t) ∙ new_same d j rest

  pub tied_classes : (news : List ℕ) → length news ≡ length least → ((k : ℕ) → k < length least → get_or news k 0 ≡ new k) → AreClasses more_ news
  tied_classes news long at = record {
    within = λ c d held. let w = tie_within c d held in (subst (λ n. c < n) (sym long) w.0, subst (λ n. d < n) (sym long) w.1);
    below = λ i inside. let low_i = subst (λ n. i < n) long inside in subst (λ x. x ≤ i) (sym (at i low_i)) (new_below i low_i);
    joined = λ i inside. let low_i = subst (λ n. i < n) long inside in subst (λ x. Chain more_ x i) (sym (at i low_i)) (new_joined i low_i);
    same = λ i j i_in j_in chain. at i (subst (λ n. i < n) long i_in) ∙ new_same i j chain ∙ sym (at j (subst (λ n. j < n) long j_in));
  }

-- without ties each number is alone
pub alone_classes : (n : ℕ) → AreClasses [] (range_with_len 0 n)
alone_classes n = record {
  within = λ a b held. absurd (Contains-nil (a, b) held);
  below = λ i inside. let is = at i inside in omega (arith, is);
  joined = λ i inside. subst (λ x. Chain [] x i) (sym (at i inside)) itself;
  same = λ i j i_in j_in chain. ap (λ k. get_or (range_with_len 0 n) k 0) (none i j chain);
}
  where
    at : (i : ℕ) → i < length (range_with_len 0 n) → get_or (range_with_len 0 n) i 0 ≡ i
    at i inside = get_or-range_with_len 0 n i 0 (subst (λ m. i < m) (length-range_with_len 0 n) inside) ∙ omega arith

    none : (i j : ℕ) → Chain [] i j → i ≡ j
    none i _ itself = refl
    none i j (along {b = d} t rest) = absurd (Contains-nil (i, d) t)
    none i j (against {b = d} t rest) = absurd (Contains-nil (d, i) t)
