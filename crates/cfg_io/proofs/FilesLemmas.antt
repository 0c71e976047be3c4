-- Files that are kept in a map, as the list of pairs that callers see.
use Rattle.std.proofs.Common.{◌≡◌, ◌≢◌, ℕ, true, false, cond, List, [], ◌∷◌, Option, Some, map, refl, sym, ap, ◌∙◌, Vec, String, string_bytes}
use Rattle.std.specs.Option.{option_map}
use Rattle.std.specs.Ordering.{nat_cmp}
use Rattle.std.specs.Cmp.Lexicographic.{slice_cmp}
use Rattle.std.specs.Str.{bytes_eq}
use Rattle.std.specs.String.{string_cmp}
use Rattle.std.specs.Map.{lookup}
use Rattle.std.specs.BTreeMap.{BTreeMap, get_by_text, is_at, UpdatesBy}
use Rattle.std.proofs.lemmas.Map.Text.{is_eq-slice_cmp, btree_map_updates_text}
use Rattle.std.proofs.lemmas.Slice.Eq.{bytes_eq-Decides}
use Rattle.std.proofs.lemmas.Bool.{false_from_ne_true}
use Rattle.cfg_io.specs.Store.{look_up}

module _ {Y Z : Type 0} where
  -- the pairs of a map
  abbrev pub pairs : List (String Y × Vec ℕ Z) → List (List ℕ × List ℕ)
  pairs entries = map (λ file. (string_bytes file.0, file.1.items)) entries

  -- a look-up among the pairs and one among the entries
  look_up-entries : (entries : List (String Y × Vec ℕ Z)) (name : List ℕ) → look_up (pairs entries) name ≡ option_map (λ bytes. bytes.items) (lookup (is_at (λ k. slice_cmp nat_cmp name (string_bytes k))) entries)
  look_up-entries [] name = refl
  look_up-entries (file ∷ files) name =
      rw (is_eq-slice_cmp name (string_bytes file.0))
      (elim (bytes_eq name (string_bytes file.0)) as (λ same. cond same (Some file.1.items) (look_up (pairs files) name) ≡ option_map (λ bytes. bytes.items) (cond same (Some file.1) (lookup (is_at (λ k. slice_cmp nat_cmp name (string_bytes k))) files)))
      [ true ↦ refl | false ↦ look_up-entries files name ])

  -- the map and its pairs hold the same files
  pub look_up-pairs : (m : BTreeMap (String Y) (Vec ℕ Z)) (name : List ℕ) → look_up (pairs m.entries) name ≡ option_map (λ bytes. bytes.items) (get_by_text m name)
  look_up-pairs m name = look_up-entries m.entries name

  -- what the map gave is what the pairs hold
  pub look_up-got : (m : BTreeMap (String Y) (Vec ℕ Z)) (name : List ℕ) (got : Option (Vec ℕ Z)) → got ≡ get_by_text m name → look_up (pairs m.entries) name ≡ option_map (λ bytes. bytes.items) got
  look_up-got m name got is = look_up-pairs m name ∙ ap (option_map (λ bytes. bytes.items)) (sym is)

  module _ (m n : BTreeMap (String Y) (Vec ℕ Z)) (name : List ℕ) (bytes : Vec ℕ Z) where
    abbrev pub Puts : Type 0
    Puts = UpdatesBy string_cmp (λ k. slice_cmp nat_cmp name (string_bytes k)) m n (Some bytes)

    -- after a file was put there, its name holds its bytes
    pub look_up-put_same : Puts → look_up (pairs n.entries) name ≡ Some bytes.items
    look_up-put_same puts =
        rw (look_up-pairs n name, btree_map_updates_text name m n (Some bytes) puts name, (bytes_eq-Decides name name).1 refl) refl

    -- and each other name what it held before
    pub look_up-put_other : Puts → (other : List ℕ) → other ≢ name → look_up (pairs n.entries) other ≡ look_up (pairs m.entries) other
    look_up-put_other puts other differs =
        let apart : bytes_eq name other ≡ false = false_from_ne_true _ (λ same. differs (sym ((bytes_eq-Decides name other).0 same))) in
        rw (look_up-pairs n other, btree_map_updates_text name m n (Some bytes) puts other, apart) (sym (look_up-pairs m other))
