-- Lists that grow with a loop over numbers, behind what was there; and nodes that are made in slots that follow each other.
use Rattle.std.proofs.Common.{◌≡◌, ℕ, suc, ◌+◌, Bool, List, [], ◌∷◌, ◌++◌, append_assoc, length, map, take, Option, Some, None, refl, sym, ap, ◌∙◌, arith}
use Rattle.std.specs.Prelude.{filter, filter_map, option_to_list, slice_get, unwrap_or}
use Rattle.std.specs.List.{range_with_len}
use Rattle.std.proofs.lemmas.List.{length-take-le, map-append, take_more}
use Rattle.std.proofs.lemmas.List.Elements.{filter-append, filter_map-append}
use Rattle.std.proofs.lemmas.Option.{get_or_from_slice_get, slice_get_within}
use Rattle.base.proofs.RisingLaws.{places_more}
use Rattle.change_plan.specs.declared.plan_data.Shift.{Shift}
use Rattle.config_graph.specs.Graph.{Graph}
use Rattle.config_graph.specs.Kinds.{row}
use Rattle.config_graph.specs.declared.kind.Kind.TheVariants.{Fork}
use Rattle.config_graph.specs.declared.node.Node.{Node}
use Rattle.config_graph.specs.declared.node.Port.{Port}
use Rattle.quiesce_core.specs.declared.event.Event.{Event}
use Rattle.quiesce_core.specs.declared.event.Event.TheVariants as event
use Rattle.change_plan_laws.specs.Commit.{node_at}
use Rattle.change_lists.specs.Lists.{makes_by, ports_from, ports_in, source_by}
use Rattle.change_lists.proofs.ListingLaws.{one_of}

pub passed_on : (f : ℕ → Event) (test : ℕ → Bool) (n : ℕ) (first old new : List Event) → old ≡ first ++ map f (filter test (range_with_len 0 n))
    → new ≡ old ++ map f (filter test (n ∷ [])) → new ≡ first ++ map f (filter test (range_with_len 0 (n + 1)))
passed_on f test n first old new so_far grown =
    grown ∙ ap (λ zs. zs ++ map f (filter test (n ∷ []))) so_far ∙ append_assoc first (map f (filter test (range_with_len 0 n))) (map f (filter test (n ∷ [])))
    ∙ ap (λ zs. first ++ zs)
    (sym (map-append f (filter test (range_with_len 0 n)) (filter test (n ∷ [])))
    ∙ ap (map f) (sym (filter-append test (range_with_len 0 n) (n ∷ [])) ∙ ap (filter test) (sym (places_more n))))

pub picked_at : (f : ℕ → Option Event) (n : ℕ) (first old new : List Event) → old ≡ first ++ filter_map f (range_with_len 0 n)
    → new ≡ old ++ option_to_list (f n) → new ≡ first ++ filter_map f (range_with_len 0 (n + 1))
picked_at f n first old new so_far grown =
    grown ∙ ap (λ zs. zs ++ option_to_list (f n)) so_far ∙ append_assoc first (filter_map f (range_with_len 0 n)) (option_to_list (f n))
    ∙ ap (λ zs. first ++ (filter_map f (range_with_len 0 n) ++ zs)) (sym (one_of (f n)))
    ∙ ap (λ zs. first ++ zs) (sym (filter_map-append f (range_with_len 0 n) (n ∷ [])) ∙ ap (filter_map f) (sym (places_more n)))

later : (k n : ℕ) → (k + 1) + n ≡ k + suc n
later k n = omega arith

none_later : (k : ℕ) → k ≡ k + 0
none_later k = omega arith

pub makes_more : (places : List (Option ℕ)) (moves : List Shift) (new : Graph) (k : ℕ) (js : List ℕ) (j : ℕ)
    → makes_by places moves new k (js ++ j ∷ []) ≡ makes_by places moves new k js ++ event.Make (k + length js) (node_at new j) (source_by places moves j) ∷ []
makes_more places moves new k [] j = ap (λ n. event.Make n (node_at new j) (source_by places moves j) ∷ []) (none_later k)
makes_more places moves new k (i ∷ js) j =
    ap (λ es. event.Make k (node_at new i) (source_by places moves i) ∷ es)
    (makes_more places moves new (k + 1) js j ∙ ap (λ n. makes_by places moves new (k + 1) js ++ event.Make n (node_at new j) (source_by places moves j) ∷ []) (later k (length js)))

pub ports_more : (new : Graph) (k : ℕ) (js : List ℕ) (j : ℕ) → ports_from new k (js ++ j ∷ []) ≡ ports_from new k js ++ ports_in new (k + length js) j
ports_more new k [] j = alone (ports_in new k j) ∙ ap (λ n. ports_in new n j) (none_later k)
  where
    alone : (xs : List Port) → xs ++ [] ≡ xs
    alone [] = refl
    alone (x ∷ xs) = ap (λ ys. x ∷ ys) (alone xs)
ports_more new k (i ∷ js) j =
    ap (λ xs. ports_in new k i ++ xs) (ports_more new (k + 1) js j ∙ ap (λ n. ports_from new (k + 1) js ++ ports_in new n j) (later k (length js)))
    ∙ sym (append_assoc (ports_in new k i) (ports_from new (k + 1) js) (ports_in new (k + suc (length js)) j))

-- behind a loop over the places of a list
pub mapped_number : {B : Type 0} (f : ℕ → B) (n : ℕ) (first old new : List B) → old ≡ first ++ map f (range_with_len 0 n) → new ≡ old ++ f n ∷ []
    → new ≡ first ++ map f (range_with_len 0 (n + 1))
mapped_number f n first old new so_far grown =
    grown ∙ ap (λ zs. zs ++ f n ∷ []) so_far ∙ append_assoc first (map f (range_with_len 0 n)) (f n ∷ [])
    ∙ ap (λ zs. first ++ zs) (sym (map-append f (range_with_len 0 n) (n ∷ [])) ∙ ap (map f) (sym (places_more n)))

next_of : (xs : List ℕ) (i x : ℕ) → slice_get xs i ≡ Some x → take (i + 1) xs ≡ take i xs ++ x ∷ []
next_of xs i x at = take_more xs i x (slice_get_within xs i x at) ∙ ap (λ z. take i xs ++ z ∷ []) (get_or_from_slice_get xs i x x at)

so_many : (xs : List ℕ) (i x : ℕ) → slice_get xs i ≡ Some x → length (take i xs) ≡ i
so_many xs i x at = let within = slice_get_within xs i x at in length-take-le i xs (omega (arith, within))

pub made_on :
    (places : List (Option ℕ)) (moves : List Shift) (new : Graph) (k : ℕ) (create : List ℕ) (i j : ℕ) (first old grown : List Event)
    → slice_get create i ≡ Some j → old ≡ first ++ makes_by places moves new k (take i create)
    → grown ≡ old ++ event.Make (k + i) (node_at new j) (source_by places moves j) ∷ []
    → grown ≡ first ++ makes_by places moves new k (take (i + 1) create)
made_on places moves new k create i j first old grown at so_far one =
    let made : List ℕ → List Event = makes_by places moves new k in
    let next : ℕ → List Event = λ n. event.Make (k + n) (node_at new j) (source_by places moves j) ∷ [] in
    one ∙ ap (λ es. es ++ next i) so_far ∙ append_assoc first (made (take i create)) (next i)
    ∙ ap (λ es. first ++ es)
    (ap (λ n. made (take i create) ++ next n) (sym (so_many create i j at)) ∙ sym (makes_more places moves new k (take i create) j)
    ∙ ap made (sym (next_of create i j at)))

pub ports_on :
    (new : Graph) (k : ℕ) (create : List ℕ) (i j : ℕ) (first old grown : List Port) → slice_get create i ≡ Some j
    → old ≡ first ++ ports_from new k (take i create) → grown ≡ old ++ ports_in new (k + i) j
    → grown ≡ first ++ ports_from new k (take (i + 1) create)
ports_on new k create i j first old grown at so_far one =
    one ∙ ap (λ xs. xs ++ ports_in new (k + i) j) so_far ∙ append_assoc first (ports_from new k (take i create)) (ports_in new (k + i) j)
    ∙ ap (λ xs. first ++ xs)
    (ap (λ n. ports_from new k (take i create) ++ ports_in new (k + n) j) (sym (so_many create i j at)) ∙ sym (ports_more new k (take i create) j)
    ∙ ap (ports_from new k) (sym (next_of create i j at)))

pub make_same : (k l : ℕ) (m n : Node) (from source : Option ℕ) → k ≡ l → m ≡ n → from ≡ source → event.Make k m from ∷ [] ≡ event.Make l n source ∷ []
make_same k l m n from source same_slot same_node same_source = rw (same_slot, same_node, same_source) refl

pub node_there : (new : Graph) (j : ℕ) (m : Node) → slice_get new.nodes j ≡ Some m → m ≡ node_at new j
node_there new j m at = sym (ap (λ (o : Option Node). unwrap_or o (record { path = []; kind = Fork; arg = None })) at)

abbrev pub ports_of : ℕ → Node → List Port
ports_of k m = map (λ r. record { node = k; require = r }) (range_with_len 0 (length (row m.kind).requires_))

pub ports_same : (k l : ℕ) (m n : Node) → k ≡ l → m ≡ n → ports_of k m ≡ ports_of l n
ports_same k l m n same_slot same_node = rw (same_slot, same_node) refl
