-- Following a chain along the index gives the end to which bindings lead.
use Rattle.std.proofs.Common.{◌≡◌, ◌∙◌, ℕ, zero, suc, ◌<◌, ◌≤◌, List, Option, Some, None, refl, sym, subst, inl, inr, ◌⊎◌, arith}
use Rattle.std.specs.Option.{option_map_or}
use Rattle.elaborator.specs.Instances.{Instance}
use Rattle.elaborator.specs.Bindings.{Port, pairs_in, Bound, bound, BoundThrough, at_once, through}
use Rattle.elaborator.specs.Numbering.{Expanded, IsExpanded, IsOf}
use Rattle.elaborator.specs.PortIndex.{chain_target, chain_end, IsIndex, all_pairs}
use Rattle.elaborator.specs.Ports.{IsPort}
use Rattle.elaborator.specs.declared.chains.PortId.{PortId}
use Rattle.elaborator.proofs.ChainLemmas.{end_of-last, end_of-source}
use Rattle.elaborator.proofs.IndexLemmas.{port_functional, port_injective}
use Rattle.elaborator.proofs.RankLemmas.{rank, rank_falls}
use Rattle.elaborator.proofs.WholeLemmas.{instances_of, instance_stands, numbered_at}
use Rattle.base.proofs.ContainsLaws.{Contains-at, Contains-flat_map, Contains-from_flat_map, at_some_place}

-- an index of the bindings of an elaboration
pub record Indexed (e : Expanded) (top : Instance) (targets : List (PortId × PortId)) : Type 0 where
  pub expanded : IsExpanded e
  pub is_of : IsOf e top
  pub index : IsIndex e (all_pairs e) targets

-- ports that are bound, by numbers
pub record Target (e : Expanded) (top : Instance) (targets : List (PortId × PortId)) (k : PortId) (x : Port) (y : Port) : Type 0 where
  pub target : PortId
  pub is_target : chain_target targets k ≡ Some target
  pub is_port : IsPort e target y

bound_by :
    (e : Expanded) (top : Instance) (targets : List (PortId × PortId)) → Indexed e top targets → (k t : PortId) (x : Port) → chain_target targets k ≡ Some t → IsPort e k x
    → (y : Port) × IsPort e t y × Bound e.tree top x y
bound_by e top targets indexed k t x is port =
    let w = indexed.index.sound k t is in
    let p = w.0 in
    let from = Contains-from_flat_map (pairs_in e.tree) (instances_of e) p w.1 in
    let place = at_some_place (instances_of e) from.0 from.1 in
    let at = numbered_at e place.0 from.0 place.1 in
    let same = port_functional e k p.source x w.2 port in
    (p.target, w.3, subst (λ z. Bound e.tree top z p.target) same (bound from.0 p (indexed.is_of.sound place.0 from.0 at) from.2))

target_by :
    (e : Expanded) (top : Instance) (targets : List (PortId × PortId)) → Indexed e top targets → (k : PortId) (x y : Port) → Bound e.tree top x y → IsPort e k x
    → Target e top targets k x y
target_by e top targets indexed k _ _ (bound i p inst there) port =
    let at = indexed.is_of.complete i inst in
    let w = indexed.index.complete p (Contains-flat_map (pairs_in e.tree) (instances_of e) i p (Contains-at (instances_of e) at.0 i (instance_stands e at.0 i at.1)) there) in
    let same = port_injective e indexed.expanded w.0 k p.source w.2 port in
    record { target = w.1; is_target = subst (λ z. chain_target targets z ≡ Some w.1) same w.4; is_port = w.3 }

falls : (e : Expanded) (top : Instance) (x y : Port) → Bound e.tree top x y → rank y < rank x
falls e top _ _ (bound i p inst there) = rank_falls e.tree i p there

-- the end of a chain, and that bindings lead there
pub record Reaches (e : Expanded) (top : Instance) (x : Port) (k : PortId) : Type 0 where
  pub port : Port
  pub is_port : IsPort e k port
  pub leads : (port ≡ x) ⊎ BoundThrough e.tree top x port

pub end_reached :
    (e : Expanded) (top : Instance) (targets : List (PortId × PortId)) → Indexed e top targets → (n : ℕ) (k : PortId) (x : Port) → IsPort e k x
    → Reaches e top x (chain_end n targets k)
unfolding chain_end
end_reached e top targets indexed zero k x port = record { port = x; is_port = port; leads = inl refl }
end_reached e top targets indexed (suc n) k x port =
    by_target (λ t y at. end_reached e top targets indexed n t y at) (chain_target targets k) refl
  where
    further : (y : Port) → Bound e.tree top x y → (z : Port) → (z ≡ y) ⊎ BoundThrough e.tree top y z → (z ≡ x) ⊎ BoundThrough e.tree top x z
    further y b z (inl same) = inr (at_once x z (subst (Bound e.tree top x) (sym same) b))
    further y b z (inr leads) = inr (through x y z b leads)

    by_target :
        ((t : PortId) (y : Port) → IsPort e t y → Reaches e top y (chain_end n targets t)) → (o : Option PortId) → chain_target targets k ≡ o
        → Reaches e top x (option_map_or (chain_end n targets) o k)
    by_target rest None is = record { port = x; is_port = port; leads = inl refl }
    by_target rest (Some t) is =
        let w = bound_by e top targets indexed k t x is port in
        let end = rest t w.0 w.1 in
        record { port = end.port; is_port = end.is_port; leads = further w.0 w.2 end.port end.leads }

-- where bindings lead to a port that is no source, the chain ends there
pub end_found :
    (e : Expanded) (top : Instance) (targets : List (PortId × PortId)) → Indexed e top targets → (n : ℕ) (k t : PortId) (x y : Port) → BoundThrough e.tree top x y → IsPort e k x
    → IsPort e t y → chain_target targets t ≡ None → rank x ≤ n → chain_end n targets k ≡ t
end_found e top targets indexed zero k t _ _ (at_once x y b) source target last few = absurd (omega (arith, falls e top x y b))
end_found e top targets indexed (suc n) k t _ _ (at_once x y b) source target last few =
    let w = target_by e top targets indexed k x y b source in
    let same = port_injective e indexed.expanded w.target t y w.is_port target in
    end_of-source n targets k w.target w.is_target ∙ end_of-last n targets w.target (subst (λ z. chain_target targets z ≡ None) (sym same) last) ∙ same
end_found e top targets indexed zero k t _ _ (through x y z b rest) source target last few = absurd (omega (arith, falls e top x y b))
end_found e top targets indexed (suc n) k t _ _ (through x y z b rest) source target last few =
    let w = target_by e top targets indexed k x y b source in
    end_of-source n targets k w.target w.is_target ∙ end_found e top targets indexed n w.target t y z rest w.is_port target last (omega (arith, falls e top x y b))
