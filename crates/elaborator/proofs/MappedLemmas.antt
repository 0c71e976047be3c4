-- Instances by their paths: one more is added, or another has its path.
use Rattle.std.proofs.Common.{◌≡◌, ◌≢◌, ◌∙◌, inl, inr, ℕ, ◌<◌, List, [], ◌∷◌, ◌++◌, length, map, set, Some, refl, sym, ap, subst, arith, length-append, append_assoc}
use Rattle.std.specs.List.{slice_get}
use Rattle.std.proofs.Math.Seq.{map-set_same}
use Rattle.std.proofs.lemmas.List.{map-append}
use Rattle.std.proofs.lemmas.Option.{get_or_from_slice_get, slice_get_within}
use Rattle.elaborator.specs.Paths.{Path}
use Rattle.elaborator.specs.PathNumbers.{path_hash, last_of, LeadsTo, IsHashed, IsEntered, AreDistinct}
use Rattle.elaborator.specs.Expansion.{paths_of, IsMapped}
use Rattle.elaborator.specs.Growth.{IsExtended, IsClash}
use Rattle.elaborator.specs.declared.instance.Instance as code
use Rattle.elaborator.specs.declared.instance.Expansion.{Expansion}
use Rattle.base.proofs.PlaceLaws.{slice_get-front, slice_get-last, slice_get-map_some, slice_get-push_cases}
use Rattle.elaborator.proofs.HashLemmas.{hashed-add, none-there}

distinct-add : (paths : List Path) (path : Path) → AreDistinct paths → ((n : ℕ) → 0 < n → slice_get paths n ≢ Some path) → AreDistinct (paths ++ path ∷ [])
distinct-add paths path distinct none m n p positive positive' at at' =
    elim (slice_get-push_cases paths path m p at) [
      | inl there ↦
          elim (slice_get-push_cases paths path n p at') [
            | inl there' ↦ distinct m n p positive positive' there there'
            | inr new ↦ absurd (none m positive (there ∙ ap Some (sym new.1)))
          ]
      | inr new ↦
          elim (slice_get-push_cases paths path n p at') [
            | inl there' ↦ absurd (none n positive' (there' ∙ ap Some (sym new.1)))
            | inr new' ↦ new.0 ∙ sym new'.0
          ]
    ]

-- one more instance
pub mapped-add :
    (e new : Expansion) (x : code.Instance) → IsMapped e → new.instances.items ≡ e.instances.items ++ x ∷ [] → IsEntered e.numbers x.path new.numbers
    → ((n : ℕ) → LeadsTo new.numbers.before.items n (last_of e.numbers (path_hash x.path)) → slice_get (paths_of e) n ≢ Some x.path) → IsMapped new
mapped-add e new x mapped grown entered none =
    record {
      hashed = subst (λ paths. IsHashed paths new.numbers) (sym paths) (hashed-add (paths_of e) e.numbers new.numbers x.path mapped.hashed entered);
      distinct = subst AreDistinct (sym paths) (distinct-add (paths_of e) x.path mapped.distinct (none-there (paths_of e) e.numbers new.numbers x.path mapped.hashed entered none));
    }
  where
    paths : paths_of new ≡ paths_of e ++ x.path ∷ []
    paths = ap (map (λ (i : code.Instance). i.path)) grown ∙ map-append (λ (i : code.Instance). i.path) e.instances.items (x ∷ [])

-- an instance is replaced by one of the same path
pub mapped-set :
    (e new : Expansion) (k : ℕ) (x y : code.Instance) → IsMapped e → slice_get e.instances.items k ≡ Some x → new.instances.items ≡ set e.instances.items k y
    → new.numbers ≡ e.numbers → y.path ≡ x.path → IsMapped new
mapped-set e new k x y mapped at is same path_is =
    record {
      hashed = subst (IsHashed (paths_of new)) (sym same) (subst (λ paths. IsHashed paths e.numbers) (sym paths) mapped.hashed);
      distinct = subst AreDistinct (sym paths) mapped.distinct;
    }
  where
    paths : paths_of new ≡ paths_of e
    paths =
        ap (map (λ (i : code.Instance). i.path)) is
        ∙ map-set_same (λ (i : code.Instance). i.path) e.instances.items k y x
        (path_is ∙ ap (λ (i : code.Instance). i.path) (sym (get_or_from_slice_get e.instances.items k x x at)))

-- another instance has the path
pub clash-add :
    (e : Expansion) (x : code.Instance) (n : ℕ) → 0 < n → slice_get (paths_of e) n ≡ Some x.path
    → IsClash (e.instances.items ++ x ∷ []) (length e.instances.items) x.path
clash-add e x n positive found =
    let w = slice_get-map_some (λ (i : code.Instance). i.path) e.instances.items n x.path found in
    record {
      first = n;
      second = length e.instances.items;
      one = w.0;
      other = x;
      made = positive;
      in_order = slice_get_within e.instances.items n w.0 w.1;
      later = omega arith;
      one_at = slice_get-front e.instances.items (x ∷ []) n w.0 w.1;
      other_at = slice_get-last e.instances.items x;
      one_path = w.2;
      other_path = refl;
    }

-- ---- one instance after another

pub extended-more : (e mid new : Expansion) (xs : List code.Instance) (x : code.Instance) → IsExtended e xs mid → IsExtended mid (x ∷ []) new → IsExtended e (xs ++ x ∷ []) new
extended-more e mid new xs x so_far one =
    record {
      instances = one.instances ∙ ap (λ is. is ++ x ∷ []) so_far.instances ∙ append_assoc e.instances.items xs (x ∷ []);
      same_unit = one.same_unit ∙ so_far.same_unit;
      mapped = one.mapped;
    }

-- a clash goes on to be one where more instances follow
pub clash-more :
    (items mid xs rest : List code.Instance) (x : code.Instance) (path : Path) → mid ≡ items ++ xs → IsClash (mid ++ x ∷ []) (length mid) path
    → IsClash (items ++ xs ++ x ∷ rest) (length items) path
clash-more items mid xs rest x path is clash =
    let all : (mid ++ x ∷ []) ++ rest ≡ items ++ xs ++ x ∷ rest =
    append_assoc mid (x ∷ []) rest ∙ ap (λ m. m ++ x ∷ rest) is in
    record {
      first = clash.first;
      second = clash.second;
      one = clash.one;
      other = clash.other;
      made = clash.made;
      in_order = clash.in_order;
      later = omega (arith, clash.later, ap length is, length-append items xs);
      one_at = subst (λ is. slice_get is clash.first ≡ Some clash.one) all (slice_get-front (mid ++ x ∷ []) rest clash.first clash.one clash.one_at);
      other_at = subst (λ is. slice_get is clash.second ≡ Some clash.other) all (slice_get-front (mid ++ x ∷ []) rest clash.second clash.other clash.other_at);
      one_path = clash.one_path;
      other_path = clash.other_path;
    }
