-- The bindings of all instances, one instance after another.
use Rattle.std.proofs.Common.{◌≡◌, ◌∙◌, ℕ, ◌+◌, ◌<◌, ◌≤◌, List, [], ◌∷◌, ◌++◌, Some, length, get_or, take, map, ap, sym, subst, arith, append-nil}
use Rattle.std.specs.List.{Contains, flat_map, slice_get}
use Rattle.std.specs.Option.{option_map}
use Rattle.std.proofs.lemmas.List.{length-map, length-take, take_more, get_or-take}
use Rattle.std.proofs.lemmas.Option.{slice_get-map, slice_get-get_or, slice_get_within, get_or_from_slice_get, same_Some}
use Rattle.std.proofs.lemmas.Grind.{flat_map-append}
use Rattle.elaborator.specs.Instances.{Instance}
use Rattle.elaborator.specs.Bindings.{Pair, bindings_in, pairs_in}
use Rattle.elaborator.specs.Numbering.{Expanded, NumberedInstance, Numbered, IsExpanded}
use Rattle.elaborator.specs.PortIndex.{chain_target, FaultOf, IsLawful, AreLawful, AreBefore, IsIndex, IsIndexed, BindingFault, all_pairs}
use Rattle.elaborator.specs.Ports.{IsPort}
use Rattle.elaborator.specs.PortIndex.FaultOf.{bad_binding, bad_index, annotation}
use Rattle.elaborator.specs.PortIndex.BindingFault.{of_binding, bound_twice}
use Rattle.elaborator.specs.declared.chains.PortId.{PortId}
use Rattle.elaborator.specs.declared.error.ElabError.{ElabError}
use Rattle.darwin_walk.specs.Instance.{Binding}
use Rattle.darwin_walk.specs.declared.fault.Fault.TheVariants as shown
use Rattle.elaborator.proofs.IndexLemmas.{port_functional, port_injective}
use Rattle.base.proofs.ContainsLaws.{Contains-at, Contains-flat_map, Contains-from_flat_map, Contains-nil}
use Rattle.base.proofs.OptionLaws.{option_map_some}

-- the instances, by their numbers
abbrev pub instances_of : Expanded → List Instance
instances_of e = map (λ (m : NumberedInstance). m.instance) e.made

pub instance_stands : (e : Expanded) (n : ℕ) (i : Instance) → Numbered e n i → slice_get (instances_of e) n ≡ Some i
instance_stands e n i at = slice_get-map (λ (m : NumberedInstance). m.instance) e.made n ∙ ap (option_map (λ (m : NumberedInstance). m.instance)) at.is_at

pub numbered_at : (e : Expanded) (n : ℕ) (i : Instance) → slice_get (instances_of e) n ≡ Some i → Numbered e n i
numbered_at e n i at =
    let w = option_map_some (λ (m : NumberedInstance). m.instance) (slice_get e.made n) i (sym (slice_get-map (λ (m : NumberedInstance). m.instance) e.made n) ∙ at) in
    record { maker = w.0.maker; is_at = w.1 ∙ ap (λ j. Some (record { instance = j; maker = w.0.maker })) w.2 }

-- the pairs of the first instances are those of instances before
pub first_before : (e : Expanded) (n : ℕ) → n ≤ length e.made → AreBefore e n (flat_map (pairs_in e.tree) (take n (instances_of e)))
first_before e n within = λ p there.
    let from = Contains-from_flat_map (pairs_in e.tree) (take n (instances_of e)) p there in
    let i = from.0 in
    let k = from.1.0 in
    let below : k < n = omega (arith, from.1.1, length-take n (instances_of e)) in
    let stands : slice_get (instances_of e) k ≡ Some i = slice_get-get_or (instances_of e) k i (omega (arith, below, length-map e.made (λ (m : NumberedInstance). m.instance))) ∙ ap Some (sym (get_or-take n (instances_of e) k i below) ∙ from.1.2) in
    (k, i, below, numbered_at e k i stands, from.2)

-- the pairs of the first instances, and of one more
pub instances-more : (e : Expanded) (n : ℕ) (i : Instance) → Numbered e n i → flat_map (pairs_in e.tree) (take (n + 1) (instances_of e)) ≡ flat_map (pairs_in e.tree) (take n (instances_of e)) ++ pairs_in e.tree i
instances-more e n i at =
    let stands = instance_stands e n i at in
    ap (flat_map (pairs_in e.tree)) (take_more (instances_of e) n i (slice_get_within (instances_of e) n i stands))
    ∙ flat_map-append (pairs_in e.tree) (take n (instances_of e)) (get_or (instances_of e) n i ∷ [])
    ∙ ap (λ j. flat_map (pairs_in e.tree) (take n (instances_of e)) ++ (pairs_in e.tree j ++ [])) (get_or_from_slice_get (instances_of e) n i i stands)
    ∙ ap (λ ps. flat_map (pairs_in e.tree) (take n (instances_of e)) ++ ps) (append-nil (pairs_in e.tree i))

-- a lawful binding has no fault
no_fault_of : (e : Expanded) (i : Instance) (b : Binding) (p : Pair) (f : ElabError) → IsLawful e.tree i b p → FaultOf e.tree i b f → ⊥
no_fault_of e i b p f lawful (bad_binding none) = not_nil p (sym lawful.is_pair ∙ none)
  where
    not_nil : (q : Pair) → q ∷ [] ≡ [] → ⊥
    not_nil q same = cc
no_fault_of e i b p f lawful (bad_index at there) =
    Contains-nil (shown.BadIndex at) (subst (λ fs. Contains fs (shown.BadIndex at)) lawful.indexes there)
no_fault_of e i b p f lawful (annotation other_notes) = lawful.notes other_notes

-- lawful bindings that are all indexed have no fault
pub whole_index :
    (e : Expanded) → IsExpanded e → (targets : List (PortId × PortId)) → IsIndex e (all_pairs e) targets
    → ((n : ℕ) (i : Instance) → Numbered e n i → AreLawful e.tree i (bindings_in i)) → IsIndexed e targets
whole_index e expanded targets index lawful = record { is_index = index; no_fault = none }
  where
    in_all : (n : ℕ) (i : Instance) (p : Pair) → Numbered e n i → Contains (pairs_in e.tree i) p → Contains (all_pairs e) p
    in_all n i p at there = Contains-flat_map (pairs_in e.tree) (instances_of e) i p (Contains-at (instances_of e) n i (instance_stands e n i at)) there

    none : (f : ElabError) → ¬ BindingFault e f
    none _ (of_binding n i b f at there fault) = let w = lawful n i at b there in no_fault_of e i b w.0 f w.1 fault
    none _ (bound_twice n i p at there clash) =
        let a = index.complete p (in_all n i p at there) in
        let b = index.complete clash.other (in_all n i clash.other at clash.is_there) in
        let source = port_injective e expanded a.0 b.0 clash.other.source (subst (IsPort e a.0) clash.same_source a.2) b.2 in
        let target : a.1 ≡ b.1 = same_Some a.1 b.1 (sym a.4 ∙ ap (chain_target targets) source ∙ b.4) in
        clash.other_target (port_functional e b.1 p.target clash.other.target (subst (λ t. IsPort e t p.target) target a.3) b.3)
