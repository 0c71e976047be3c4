-- Lists that grow with a loop, behind what was there.
use Rattle.std.proofs.Common.{◌≡◌, ℕ, ◌+◌, Bool, List, [], ◌∷◌, ◌++◌, append_assoc, map, take, Option, Some, None, refl, sym, ap, ◌∙◌, length}
use Rattle.std.specs.Prelude.{filter, filter_map, option_to_list, slice_get, sum_by}
use Rattle.std.specs.List.{cons_option, range_with_len}
use Rattle.std.proofs.lemmas.List.{map-append, length-append, length-map}
use Rattle.std.proofs.lemmas.List.Elements.{filter-append, filter_map-append}
use Rattle.std.proofs.lemmas.List.FromFn.{length-range_with_len}
use Rattle.std.proofs.lemmas.List.Sums.{sum_by-cons}
use Rattle.base.proofs.RisingLaws.{places_more}
use Rattle.base.proofs.PlaceLaws.{next_of}
use Rattle.config_graph.specs.Graph.{Graph, requires_at}
use Rattle.config_graph.specs.Kinds.{row}
use Rattle.config_graph.proofs.KindLaws.{ports_wanted_at}
use Rattle.change_plan_laws.specs.Commit.{node_at}
use Rattle.change_lists.specs.Lists.{ports_from, ports_in}

pub passed_more : (test : ℕ → Bool) (n : ℕ) (old new : List ℕ) → old ≡ filter test (range_with_len 0 n) → new ≡ old ++ filter test (n ∷ []) → new ≡ filter test (range_with_len 0 (n + 1))
passed_more test n old new so_far grown =
    grown ∙ ap (λ zs. zs ++ filter test (n ∷ [])) so_far ∙ sym (filter-append test (range_with_len 0 n) (n ∷ [])) ∙ ap (filter test) (sym (places_more n))

pub mapped_on : {A B : Type 0} (f : A → B) (xs : List A) (i : ℕ) (x : A) (first old new : List B) (y : B) → slice_get xs i ≡ Some x → old ≡ first ++ map f (take i xs) → y ≡ f x → new ≡ old ++ y ∷ []
    → new ≡ first ++ map f (take (i + 1) xs)
mapped_on f xs i x first old new y at so_far is grown =
    grown ∙ ap (λ zs. zs ++ y ∷ []) so_far ∙ append_assoc first (map f (take i xs)) (y ∷ [])
    ∙ ap (λ z. first ++ (map f (take i xs) ++ z ∷ [])) is
    ∙ ap (λ zs. first ++ zs) (sym (map-append f (take i xs) (x ∷ [])) ∙ ap (map f) (sym (next_of xs i x at)))

pub one_of : {B : Type 0} (o : Option B) → cons_option o [] ≡ option_to_list o
one_of None = refl
one_of (Some y) = refl

pub picked_on : {A B : Type 0} (f : A → Option B) (xs : List A) (i : ℕ) (x : A) (first old new : List B) → slice_get xs i ≡ Some x → old ≡ first ++ filter_map f (take i xs) → new ≡ old ++ option_to_list (f x)
    → new ≡ first ++ filter_map f (take (i + 1) xs)
picked_on f xs i x first old new at so_far grown =
    grown ∙ ap (λ zs. zs ++ option_to_list (f x)) so_far ∙ append_assoc first (filter_map f (take i xs)) (option_to_list (f x))
    ∙ ap (λ zs. first ++ (filter_map f (take i xs) ++ zs)) (sym (one_of (f x)))
    ∙ ap (λ zs. first ++ zs) (sym (filter_map-append f (take i xs) (x ∷ [])) ∙ ap (filter_map f) (sym (next_of xs i x at)))

pub ports_many : (new : Graph) (k : ℕ) (js : List ℕ) → length (ports_from new k js) ≡ sum_by (requires_at new.nodes) js
ports_many new k [] = refl
ports_many new k (j ∷ js) =
    length-append (ports_in new k j) (ports_from new (k + 1) js)
    ∙ ap (λ n. n + length (ports_from new (k + 1) js)) (length-map (range_with_len 0 (length (row (node_at new j).kind).requires_)) _ ∙ length-range_with_len 0 (length (row (node_at new j).kind).requires_) ∙ ports_wanted_at (slice_get new.nodes j))
    ∙ ap (λ n. requires_at new.nodes j + n) (ports_many new (k + 1) js) ∙ sym (sum_by-cons (requires_at new.nodes) j js)
