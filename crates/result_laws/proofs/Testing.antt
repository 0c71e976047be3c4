-- That the links of a graph pass a test is found by trying each.
use Rattle.std.proofs.Common.{◌≡◌, ◌∙◌, ℕ, Bool, true, false, cond, List, [], ◌∷◌, Option, Some, refl, sym, ap}
use Rattle.std.specs.Prelude.{◌==◌, find, option_map}
use Rattle.std.specs.List.{list_all}
use Rattle.std.specs.Option.{option_map_or}
use Rattle.std.proofs.lemmas.Bool.{and_parts, eqb-true}
use Rattle.std.proofs.lemmas.Option.{none-some, same_Some}
use Rattle.config_graph.specs.Graph.{Graph, begins_at, target_of}
use Rattle.config_graph.specs.declared.kind.Kind.{Kind}
use Rattle.config_graph.specs.declared.node.Link.{Link}
use Rattle.config_graph.specs.declared.node.Target.{Target}
use Rattle.result_laws.specs.Describing.{LinksAre, kind_at}

-- whether a link joins kinds that pass a test
abbrev pub joins : (Kind → Kind → Bool) → Graph → Link → Bool
joins test g l = option_map_or (λ k. option_map_or (λ j. test k j) (kind_at g l.to) true) (kind_at g l.from) true

tested : (test : Kind → Kind → Bool) (g : Graph) (ls : List Link) → list_all (joins test g) ls ≡ true → (i r j x : ℕ) (k l : Kind) → target_of ls i r ≡ Some (record { node = j; provide = x }) → kind_at g i ≡ Some k → kind_at g j ≡ Some l → test k l ≡ true
tested test g [] h i r j x k l leads at_i at_j = absurd (none-some _ leads)
tested test g (y ∷ ys) h i r j x k l leads at_i at_j = by (begins_at i r y) refl leads (λ is. tested test g ys (and_parts (joins test g y) (list_all (joins test g) ys) h).1 i r j x k l is at_i at_j)
  where
    here : (begins_at i r y) ≡ true → ◌≡◌ {A = Option Target} (Some (record { node = y.to; provide = y.provide })) (Some (record { node = j; provide = x })) → test k l ≡ true
    here begins is =
        let from : y.from ≡ i = eqb-true y.from i (and_parts (y.from == i) (y.require == r) begins).0 in
        let into : y.to ≡ j = ap (λ (t : Target). t.node) (same_Some (record { node = y.to; provide = y.provide }) (record { node = j; provide = x }) is) in
        sym (λ n. option_map_or (λ a. option_map_or (λ b. test a b) ((ap (kind_at g) into ∙ at_j) n) true) ((ap (kind_at g) from ∙ at_i) n) true) ∙ (and_parts (joins test g y) (list_all (joins test g) ys) h).0

    by : (b : Bool) → begins_at i r y ≡ b → ◌≡◌ {A = Option Target} (option_map (λ (l : Link). record { node = l.to; provide = l.provide }) (cond b (Some y) (find (begins_at i r) ys))) (Some (record { node = j; provide = x })) → (target_of ys i r ≡ Some (record { node = j; provide = x }) → test k l ≡ true) → test k l ≡ true
    by true begins is later = here begins is
    by false begins is later = later is

pub links_pass : (test : Kind → Kind → Bool) (g : Graph) → list_all (joins test g) g.links ≡ true → LinksAre test g
links_pass test g h = tested test g g.links h
