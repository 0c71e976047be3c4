-- How numbers are found by the hashes of paths: one more is entered, and a search.
use Rattle.std.proofs.Common.{◌≡◌, ◌≢◌, ◌∙◌, ◌⊎◌, inl, inr, ℕ, zero, suc, ◌+◌, ◌<◌, true, List, [], ◌∷◌, ◌++◌, length, Option, Some, None, refl, sym, ap, subst, arith, length-append, eqb, if◌then◌else◌, IfSome}
use Rattle.std.specs.List.{slice_get}
use Rattle.std.specs.Map.{lookup}
use Rattle.std.specs.Option.{option_map_or}
use Rattle.std.proofs.lemmas.Bool.{cases_Bool, false≢true, eqb-true, eq-eqb}
use Rattle.std.proofs.lemmas.Option.{none-some, same_Some, slice_get_within}
use Rattle.base.proofs.PlaceLaws.{slice_get-front, slice_get-last, slice_get-push_cases}
use Rattle.elaborator.specs.Paths.{Path}
use Rattle.elaborator.specs.PathNumbers.{path_hash, last_of, LeadsTo, Falls, IsHashed, IsEntered, IsStart}
use Rattle.elaborator.specs.PathNumbers.LeadsTo.{here, back}
use Rattle.elaborator.specs.declared.path_index.PathIndex.{PathIndex}

leads-front : (before more : List (Option ℕ)) (n : ℕ) (start : Option ℕ) → LeadsTo before n start → LeadsTo (before ++ more) n start
leads-front before more n _ here = here
leads-front before more n _ (back m next at to) = back m next (slice_get-front before more m next at) (leads-front before more n next to)

-- what an entered number leads back to is smaller
falls-push : (before : List (Option ℕ)) (last : Option ℕ) → Falls before → ((k : ℕ) → last ≡ Some k → (0 < k) × (k < length before)) → Falls (before ++ last ∷ [])
falls-push before last falls fits m k at =
    elim (slice_get-push_cases before last m (Some k) at) [
      | inl there ↦ falls m k there
      | inr new ↦ let w = fits k new.1 in (w.0, omega (arith, w.1, new.0))
    ]

falls-entered : (paths : List Path) (old new : PathIndex) (path : Path) → IsHashed paths old → IsEntered old path new → Falls new.before.items
falls-entered paths old new path hashed entered =
    subst Falls (sym entered.before)
    (falls-push old.before.items (last_of old (path_hash path)) hashed.falls (λ k is.
    let w = hashed.starts (path_hash path) k is in (w.0, omega (arith, w.1, hashed.counted))))

entered-length : (old new : PathIndex) (path : Path) → IsEntered old path new → length new.before.items ≡ length old.before.items + 1
entered-length old new path entered = omega (arith, ap length entered.before, length-append old.before.items (last_of old (path_hash path) ∷ []))

-- what has a hash last, once a path is entered
last-cases :
    (old new : PathIndex) (path : Path) (h : ℕ) → IsEntered old path new
    → ((path_hash path ≡ h) × (last_of new h ≡ Some (length old.before.items))) ⊎ ((path_hash path ≢ h) × (last_of new h ≡ last_of old h))
last-cases old new path h entered =
    elim (cases_Bool (eqb (path_hash path) h)) [
      | inl same ↦
          inl (eqb-true (path_hash path) h same, entered.last h ∙ ap (λ b. if b then Some (length old.before.items) else last_of old h) same)
      | inr differ ↦
          inr (
            λ is. false≢true (sym differ ∙ subst (λ k. eqb (path_hash path) k ≡ true) is (eq-eqb (path_hash path) (path_hash path) refl)),
            entered.last h ∙ ap (λ b. if b then Some (length old.before.items) else last_of old h) differ,
          )
    ]

-- none is found of a list that has the first alone
pub hashed-top :
    (paths : List Path) (index : PathIndex) → length paths ≡ 1 → index.before.items ≡ None ∷ [] → index.last.entries ≡ [] → IsHashed paths index
hashed-top paths index alone unled empty =
    record {
      counted = omega (arith, ap length unled, alone);
      has_top = omega (arith, alone);
      falls = λ m k at. absurd (leads_nowhere m k (ap (λ b. slice_get b m) (sym unled) ∙ at));
      starts = λ h n is. absurd (none-some n (sym (nothing h) ∙ is));
      leads = λ n path positive at. absurd (omega (arith, positive, alone, slice_get_within paths n path at));
    }
  where
    nothing : (h : ℕ) → last_of index h ≡ None
    nothing h = ap (lookup (eqb h)) empty

    leads_nowhere : (m k : ℕ) → slice_get {X = Option ℕ} (None ∷ []) m ≡ Some (Some k) → ⊥
    leads_nowhere zero k at = none-some k (same_Some None (Some k) at)
    leads_nowhere (suc m) k at = none-some (Some k) at

-- one more path is found
pub hashed-add : (paths : List Path) (old new : PathIndex) (path : Path) → IsHashed paths old → IsEntered old path new → IsHashed (paths ++ path ∷ []) new
hashed-add paths old new path hashed entered =
    record {
      counted = omega (arith, entered-length old new path entered, hashed.counted, length-append paths (path ∷ []));
      has_top = omega (arith, hashed.has_top, length-append paths (path ∷ []));
      falls = falls-entered paths old new path hashed entered;
      starts = λ h n is.
          elim (last-cases old new path h entered) [
            | inl last ↦
                let number = same_Some (length old.before.items) n (sym last.1 ∙ is) in
                (omega (arith, number, hashed.counted, hashed.has_top), omega (arith, number, hashed.counted, length-append paths (path ∷ [])))
            | inr other ↦ let w = hashed.starts h n (sym other.1 ∙ is) in (w.0, omega (arith, w.1, length-append paths (path ∷ [])))
          ];
      leads = λ n p positive at.
          elim (slice_get-push_cases paths path n p at) [
            | inl there ↦ earlier n p (hashed.leads n p positive there)
            | inr new_one ↦ itself n p new_one.0 new_one.1
          ];
    }
  where
    front : (n : ℕ) (start : Option ℕ) → LeadsTo old.before.items n start → LeadsTo new.before.items n start
    front n start to = subst (λ b. LeadsTo b n start) (sym entered.before) (leads-front old.before.items (last_of old (path_hash path) ∷ []) n start to)

    last_there : slice_get new.before.items (length old.before.items) ≡ Some (last_of old (path_hash path))
    last_there = ap (λ b. slice_get b (length old.before.items)) entered.before ∙ slice_get-last old.before.items (last_of old (path_hash path))

    earlier : (n : ℕ) (p : Path) → LeadsTo old.before.items n (last_of old (path_hash p)) → LeadsTo new.before.items n (last_of new (path_hash p))
    earlier n p to =
        elim (last-cases old new path (path_hash p) entered) [
          | inl last ↦
              subst (LeadsTo new.before.items n) (sym last.1)
              (back (length old.before.items) (last_of old (path_hash path)) last_there (front n _ (subst (λ h. LeadsTo old.before.items n (last_of old h)) (sym last.0) to)))
          | inr other ↦ subst (LeadsTo new.before.items n) (sym other.1) (front n _ to)
        ]

    itself : (n : ℕ) (p : Path) → n ≡ length paths → path ≡ p → LeadsTo new.before.items n (last_of new (path_hash p))
    itself n p number is =
        elim (last-cases old new path (path_hash p) entered) [
          | inl last ↦
              subst (LeadsTo new.before.items n) (ap Some (number ∙ sym hashed.counted) ∙ sym last.1) here
          | inr other ↦ absurd (other.0 (ap path_hash is))
        ]

-- none of the paths is the one that was entered, where the search from the last of its hash finds none
pub none-there :
    (paths : List Path) (old new : PathIndex) (path : Path) → IsHashed paths old → IsEntered old path new
    → ((n : ℕ) → LeadsTo new.before.items n (last_of old (path_hash path)) → slice_get paths n ≢ Some path) → (n : ℕ) → 0 < n → slice_get paths n ≢ Some path
none-there paths old new path hashed entered none n positive at =
    none n (subst (λ b. LeadsTo b n (last_of old (path_hash path))) (sym entered.before) (leads-front old.before.items (last_of old (path_hash path) ∷ []) n _ (hashed.leads n path positive at))) at

start_within :
    (paths : List Path) (index : PathIndex) (h : ℕ) (start : Option ℕ) → IsHashed paths index → start ≡ last_of index h → IfSome start (λ m. (0 < m) × (m < length paths))
start_within paths index h None hashed is = tt
start_within paths index h (Some n) hashed is = hashed.starts h n (sym is)

-- where a search may begin: before and after its path is entered
pub start-kept :
    (paths : List Path) (index : PathIndex) (h : ℕ) (start : Option ℕ) → IsHashed paths index → start ≡ last_of index h → IsStart paths index.before.items start
start-kept paths index h start hashed is =
    record { falls = hashed.falls; long = omega (arith, hashed.counted); within = start_within paths index h start hashed is }

pub start-entered :
    (paths : List Path) (old new : PathIndex) (path : Path) (start : Option ℕ) → IsHashed paths old → IsEntered old path new → start ≡ last_of old (path_hash path)
    → IsStart paths new.before.items start
start-entered paths old new path start hashed entered is =
    record {
      falls = falls-entered paths old new path hashed entered;
      long = omega (arith, entered-length old new path entered, hashed.counted);
      within = start_within paths old (path_hash path) start hashed is;
    }

-- ---- a step of a search

-- what is led to is here, or further back
pub step-back : (before : List (Option ℕ)) (n m : ℕ) (next : Option ℕ) → LeadsTo before n (Some m) → slice_get before m ≡ Some next → (n ≡ m) ⊎ LeadsTo before n next
step-back before n _ next here at = inl refl
step-back before n _ next (back m other there to) at = inr (subst (LeadsTo before n) (same_Some other next (sym there ∙ at)) to)

pub step-smaller : (before : List (Option ℕ)) (m : ℕ) (next : Option ℕ) → Falls before → slice_get before m ≡ Some next → option_map_or suc next 0 < suc m
step-smaller before m None falls at = omega arith
step-smaller before m (Some k) falls at = omega (arith, (falls m k at).1)

pub step-within :
    (before : List (Option ℕ)) (m count : ℕ) (next : Option ℕ) → Falls before → slice_get before m ≡ Some next → m < count → IfSome next (λ k. (0 < k) × (k < count))
step-within before m count None falls at lt = tt
step-within before m count (Some k) falls at lt = let w = falls m k at in (w.0, omega (arith, w.1, lt))
