-- In a row each node is led to by one requirement alone.
use Rattle.std.proofs.Common.{◌≡◌, ◌∙◌, ℕ, ◌+◌, List, [], ◌∷◌, ◌++◌, length, refl, sym, ap, subst, arith, inl, inr}
use Rattle.std.specs.Prelude.{◌⊎◌, Contains}
use Rattle.std.proofs.lemmas.Option.{same_Some}
use Rattle.base.proofs.ContainsLaws.{Contains-cons_cases, Contains-nil}
use Rattle.base.proofs.PlaceLaws.{heads_are, tails_are}
use Rattle.config_graph.specs.Cycles.{IsLinked}
use Rattle.config_graph.specs.Graph.{Graph}
use Rattle.config_graph.specs.declared.node.Target.{Target}
use Rattle.result_laws.specs.Rows.{LeadsThrough}

-- a requirement leads to one node
pub one_end : (g : Graph) (i r j x k y : ℕ) → IsLinked g i r j x → IsLinked g i r k y → j ≡ k
one_end g i r j x k y h h' = ap (λ (t : Target). t.node) (same_Some _ _ (sym h ∙ h'))

pub first_of : (g : Graph) (i : ℕ) (maps : List ℕ) (t : ℕ) → LeadsThrough g i maps t → (j : ℕ) × IsLinked g i 0 j 0
first_of g i [] t l = (t, l)
first_of g i (m ∷ maps) t l = (m, l.0)

module _ (g : Graph) (sink : ℕ) (ends : (j : ℕ) → IsLinked g sink 0 j 0 → ⊥) where
  -- what a node leads through is determined
  one_way : (i : ℕ) (xs ys : List ℕ) → LeadsThrough g i xs sink → LeadsThrough g i ys sink → xs ≡ ys
  one_way i [] [] l l' = refl
  one_way i [] (m ∷ ys) l l' =
      let one = one_end g i 0 sink 0 m 0 l l'.0 in let next_ = first_of g m ys sink l'.1 in absurd (ends next_.0 (subst (λ k. IsLinked g k 0 next_.0 0) (sym one) next_.1))
  one_way i (m ∷ xs) [] l l' =
      let one = one_end g i 0 sink 0 m 0 l' l.0 in let next_ = first_of g m xs sink l.1 in absurd (ends next_.0 (subst (λ k. IsLinked g k 0 next_.0 0) (sym one) next_.1))
  one_way i (m ∷ xs) (n ∷ ys) l l' =
      let one = one_end g i 0 m 0 n 0 l.0 l'.0 in
      let same = one_way n xs ys (subst (λ k. LeadsThrough g k xs sink) one l.1) l'.1 in
      λ i. one i ∷ same i

  -- a node on the way, with the maps before it and behind it
  pub record On (source : ℕ) (maps : List ℕ) (i : ℕ) : Type 0 where
    pub before : List ℕ
    pub after : List ℕ
    pub parts : source ∷ maps ≡ before ++ i ∷ after
    pub leads : LeadsThrough g i after sink

  pub on_source : (source : ℕ) (maps : List ℕ) → LeadsThrough g source maps sink → On source maps source
  on_source source maps l = record { before = []; after = maps; parts = refl; leads = l }

  pub on_map : (source : ℕ) (maps : List ℕ) (i : ℕ) → LeadsThrough g source maps sink → Contains maps i → On source maps i
  on_map source [] i l c = absurd (Contains-nil i c)
  on_map source (m ∷ maps) i l c = by (Contains-cons_cases m maps i c) (λ there. on_map m maps i l.1 there)
    where
      by : (i ≡ m) ⊎ Contains maps i → (Contains maps i → On m maps i) → On source (m ∷ maps) i
      by (inl is) later = record { before = source ∷ []; after = maps; parts = ap (λ k. source ∷ k ∷ maps) (sym is); leads = subst (λ k. LeadsThrough g k maps sink) (sym is) l.1 }
      by (inr there) later = let o = later there in record { before = source ∷ o.before; after = o.after; parts = ap (λ xs. source ∷ xs) o.parts; leads = o.leads }

  -- two places with equally much behind them are one
  count_parts : (ys vs : List ℕ) (k : ℕ) → length (ys ++ k ∷ vs) ≡ length ys + (1 + length vs)
  count_parts [] vs k = omega arith
  count_parts (y ∷ ys) vs k = let c = count_parts ys vs k in omega (arith, c)

  not_longer : (i y k : ℕ) (ys us vs : List ℕ) → i ∷ us ≡ y ∷ (ys ++ k ∷ vs) → us ≡ vs → ⊥
  not_longer i y k ys us vs h same =
      let a = ap (λ (zs : List ℕ). length zs) (sym same ∙ tails_are i y us (ys ++ k ∷ vs) h) in let b = count_parts ys vs k in omega (arith, a, b)

  same_place : (xs ys : List ℕ) (i k : ℕ) (us vs : List ℕ) → xs ++ i ∷ us ≡ ys ++ k ∷ vs → us ≡ vs → i ≡ k
  same_place [] [] i k us vs h same = heads_are i k us vs h
  same_place [] (y ∷ ys) i k us vs h same = absurd (not_longer i y k ys us vs h same)
  same_place (x ∷ xs) [] i k us vs h same = absurd (not_longer k x i xs vs us (sym h) (sym same))
  same_place (x ∷ xs) (y ∷ ys) i k us vs h same = same_place xs ys i k us vs (tails_are x y (xs ++ i ∷ us) (ys ++ k ∷ vs) h) same

  -- no two nodes on the way lead to one
  pub one_before : (source : ℕ) (maps : List ℕ) (i k j : ℕ) → On source maps i → On source maps k → IsLinked g i 0 j 0 → IsLinked g k 0 j 0 → i ≡ k
  one_before source maps i k j o p l l' = same_place o.before p.before i k o.after p.after (sym o.parts ∙ p.parts) (by o.after p.after o.leads p.leads)
    where
      by : (us vs : List ℕ) → LeadsThrough g i us sink → LeadsThrough g k vs sink → us ≡ vs
      by [] [] a b = refl
      by [] (n ∷ vs) a b =
          let x = one_end g i 0 sink 0 j 0 a l in let y = one_end g k 0 n 0 j 0 b.0 l' in
          let next_ = first_of g n vs sink b.1 in absurd (ends next_.0 (subst (λ q. IsLinked g q 0 next_.0 0) (y ∙ sym x) next_.1))
      by (m ∷ us) [] a b =
          let x = one_end g k 0 sink 0 j 0 b l' in let y = one_end g i 0 m 0 j 0 a.0 l in
          let next_ = first_of g m us sink a.1 in absurd (ends next_.0 (subst (λ q. IsLinked g q 0 next_.0 0) (y ∙ sym x) next_.1))
      by (m ∷ us) (n ∷ vs) a b =
          let x = one_end g i 0 m 0 j 0 a.0 l in let y = one_end g k 0 n 0 j 0 b.0 l' in
          let same = one_way n us vs (subst (λ q. LeadsThrough g q us sink) (x ∙ sym y) a.1) b.1 in
          λ i. (x ∙ sym y) i ∷ same i
