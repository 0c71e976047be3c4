-- The elaborations of the description for each number of lanes, before the change and after it: each number is tried.
use Rattle.std.proofs.Common.{◌≡◌, ◌==◌, cond, ◌≤◌, ◌<◌, ◌+◌, ◌-◌, ◌∙◌, ◌⊎◌, inl, inr, ◌&&◌, ℕ, nat_le, ℤ, pos, Bool, true, List, [], ◌∷◌, codes, length, refl, arith}
use Rattle.std.specs.Fmt.{digits}
use Rattle.std.specs.List.{list_all, range_with_len}
use Rattle.std.proofs.lemmas.Bool.{and_parts, cases_lt}
use Rattle.std.proofs.lemmas.List.FromFn.{get_or-range_with_len, length-range_with_len}
use Rattle.command_words.specs.BigFiles.{script}
use Rattle.command_spec.specs.Sorts.{limit_of, of_script}
use Rattle.elaborator.specs.Instances.{levels}
use Rattle.elaborator.specs.Paths.{Path}
use Rattle.elaborator.specs.FaultCases.{Query}
use Rattle.elaborator.proofs.ElaborationTestLaws.{cases, is_clear}
use Rattle.base.proofs.ListLaws.{all_have}
use Rattle.base.proofs.RangeLaws.{Contains-places}
use Rattle.command_spec.proofs.FewCreated.{nodes_below}
use Rattle.command_spec.specs.MadeTrees.{made_tree}

abbrev pub arguments : ℕ → ℕ → List ℤ
arguments lanes k = pos lanes ∷ pos k ∷ []

abbrev pub query : ℕ → ℕ → Query
query lanes k = record { tree = made_tree; name = codes "Lanes"; arguments = arguments lanes k }

-- the place of an instance in its lane by the first byte of its path, which is s, m, b, w or t: each binding leads to a later one
abbrev pub rank : Path → ℕ
rank [] = 0
rank (b ∷ path) = cond (b == 115) 1 (cond (b == 109) 2 (cond (b == 98) 3 (cond (b == 119) 4 5)))

-- no test finds a fault, and there are at most five nodes in each of forty lanes
abbrev pub may_run : ℕ → ℕ → Bool
may_run lanes k =
    list_all (is_clear rank (query lanes k)) cases && nat_le (nodes_below made_tree (codes "Lanes") (arguments lanes k)) 200

abbrev may_change : ℕ → Bool
may_change lanes = may_run lanes 1 && may_run lanes 2

abbrev is_short : ℕ → Bool
is_short lanes = nat_le (length (script lanes)) (limit_of of_script)

-- ---- numbers are tried five at a time, since all at once are too many steps

abbrev AllBelow : (ℕ → Bool) → ℕ → Type 0
AllBelow test end = (k : ℕ) → 1 ≤ k → k < end → test k ≡ true

none_below : AllBelow may_change 1
none_below k low high = absurd (omega (arith, low, high))

and_more : (test : ℕ → Bool) (a : ℕ) → AllBelow test a → list_all test (range_with_len a 5) ≡ true → AllBelow test (a + 5)
and_more test a below five k low high = by (cases_lt k a)
  where
    by : (k < a) ⊎ (a ≤ k) → test k ≡ true
    by (inl less) = below k low less
    by (inr from) =
        let here : a + (k - a) ≡ k = omega (arith, from) in
        all_have test (range_with_len a 5) five k
        (k - a, rw length-range_with_len (omega (arith, from, high)), get_or-range_with_len a 5 (k - a) k (omega (arith, from, high)) ∙ here)

to_5 : AllBelow may_change 6
unfolding digits levels
to_5 = and_more may_change 1 none_below refl

to_10 : AllBelow may_change 11
unfolding digits levels
to_10 = and_more may_change 6 to_5 refl

to_15 : AllBelow may_change 16
unfolding digits levels
to_15 = and_more may_change 11 to_10 refl

to_20 : AllBelow may_change 21
unfolding digits levels
to_20 = and_more may_change 16 to_15 refl

to_25 : AllBelow may_change 26
unfolding digits levels
to_25 = and_more may_change 21 to_20 refl

to_30 : AllBelow may_change 31
unfolding digits levels
to_30 = and_more may_change 26 to_25 refl

to_35 : AllBelow may_change 36
unfolding digits levels
to_35 = and_more may_change 31 to_30 refl

to_40 : AllBelow may_change 41
unfolding digits levels
to_40 = and_more may_change 36 to_35 refl

all_are_short : list_all is_short (range_with_len 0 41) ≡ true
unfolding digits
all_are_short = refl

module _ (lanes : ℕ) (some : 1 ≤ lanes) (few : lanes ≤ 40) where
  pub both_may_run : (may_run lanes 1 ≡ true) × (may_run lanes 2 ≡ true)
  both_may_run = and_parts (may_run lanes 1) (may_run lanes 2) (to_40 lanes some (omega (arith, few)))

  pub script_is_short : nat_le (length (script lanes)) (limit_of of_script) ≡ true
  script_is_short = all_have is_short (range_with_len 0 41) all_are_short lanes (Contains-places 41 lanes (omega (arith, few)))
