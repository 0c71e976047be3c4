-- Which lists close no port, and which tell no root: those of a start, and what ends a change.
use Rattle.std.proofs.Common.{◌≡◌, ◌∙◌, ℕ, Bool, true, false, List, [], ◌∷◌, ◌++◌, map, Some, refl, sym, ap, inl, inr}
use Rattle.std.specs.Prelude.{◌⊎◌, ℤ, filter_map}
use Rattle.std.specs.List.{enumerate_from, list_any}
use Rattle.std.proofs.lemmas.Bool.{both_ways}
use Rattle.std.proofs.lemmas.List.Folds.{list_any_none}
use Rattle.base.proofs.MapLaws.{All-filter_map}
use Rattle.base.proofs.OptionLaws.{option_map_some}
use Rattle.base.proofs.ListLaws.{none_both, any_of_none}
use Rattle.config_graph.specs.Graph.{Graph, ports, target_of}
use Rattle.config_graph.specs.declared.node.Port.{Port}
use Rattle.config_graph.specs.declared.node.Target.{Target}
use Rattle.change_plan.specs.declared.plan_data.Plan.{Plan}
use Rattle.quiesce_laws.specs.Steps.{change_all}
use Rattle.quiesce_laws.specs.Work as work
use Rattle.change_plan_laws.specs.Commit.{commit_events, commit_steps, new_links, reopened_ports}
use Rattle.change_plan_laws.specs.Commit as commit
use Rattle.quiesce_core.specs.State.{Configuration}
use Rattle.quiesce_core.specs.declared.event.Event.{Event}
use Rattle.quiesce_core.specs.declared.event.Event.TheVariants as event
use Rattle.quiesce_laws.specs.Starts as starts
use Rattle.report_types.specs.declared.report.HistoryLine.{HistoryLine}
use Rattle.report_types.specs.declared.report.HistoryLine.TheVariants as to
use Rattle.change_spec.specs.Changes.{IsCommitted, IsGivenUp, commit_lines, drained_lines, pending_lines, seen_in_all}
use Rattle.change_spec.specs.Follows.{start_lines}
use Rattle.change_spec.specs.Members.{is_close, is_root, lines_of_events}
use Rattle.change_spec.specs.Scene.{drained_line, root_line}

abbrev pub closes : Event → Bool
closes (event.Close p) = true
closes _ = false

pub none_of_events : (es : List Event) → list_any closes es ≡ false → list_any is_close (lines_of_events es) ≡ false
none_of_events [] h = refl
none_of_events (event.Close p ∷ es) h = absurd (both_ways true h refl)
none_of_events (event.Make n node from ∷ es) h = none_of_events es h
none_of_events (event.Link p n x ∷ es) h = none_of_events es h
none_of_events (event.Unlink p ∷ es) h = none_of_events es h
none_of_events (event.Remove n ∷ es) h = none_of_events es h
none_of_events (event.Reopen p ∷ es) h = none_of_events es h
none_of_events (event.Begin p k v ∷ es) h = none_of_events es h
none_of_events (event.Call p k v ∷ es) h = none_of_events es h
none_of_events (event.Miss p ∷ es) h = none_of_events es h
none_of_events (event.Take p k v ∷ es) h = none_of_events es h
none_of_events (event.Give p k v ∷ es) h = none_of_events es h
none_of_events (event.More p k v ∷ es) h = none_of_events es h
none_of_events (event.Ask p k v ∷ es) h = none_of_events es h
none_of_events (event.Hear p k v ∷ es) h = none_of_events es h
none_of_events (event.End p k v ∷ es) h = none_of_events es h

-- a start

link_closes_none : (g : Graph) (p : ℕ × Port) (e : Event) → starts.link_of g p ≡ Some e → closes e ≡ false
link_closes_none g p e is =
    let w = option_map_some (λ (t : Target). event.Link p.0 t.node t.provide) (target_of g.links p.1.node p.1.require) e is in sym (ap closes w.2)

links_close_none : (g : Graph) (xs : List (ℕ × Port)) → list_any closes (filter_map (starts.link_of g) xs) ≡ false
links_close_none g xs =
    list_any_none closes (filter_map (starts.link_of g) xs) (All-filter_map (starts.link_of g) (λ e. closes e ≡ false) xs (λ k a e at is. link_closes_none g a e is))

pub start_closes_none : (name : List ℕ) (args : List ℤ) (g : Graph) → list_any is_close (start_lines name args g) ≡ false
start_closes_none name args g =
    let nodes = enumerate_from 0 g.nodes in
    let all = enumerate_from 0 (ports g.nodes) in
    none_both is_close (lines_of_events (starts.start_of g)) (to.Commit ∷ [])
    (none_of_events (starts.start_of g)
    (none_both closes (map starts.make_of nodes ++ filter_map (starts.link_of g) all) (map starts.reopen_of all)
    (none_both closes (map starts.make_of nodes) (filter_map (starts.link_of g) all) (any_of_none closes starts.make_of (λ x. refl) nodes) (links_close_none g all))
    (any_of_none closes starts.reopen_of (λ x. refl) all))) refl

-- what follows the closes of a change

work_closes_none : (w : work.Work) → list_any closes (work.work_of w) ≡ false
work_closes_none w =
    none_both closes (map event.Unlink w.unlinks) (map event.Remove w.removes ++ map work.make_new w.makes) (any_of_none closes event.Unlink (λ x. refl) w.unlinks)
    (none_both closes (map event.Remove w.removes) (map work.make_new w.makes) (any_of_none closes event.Remove (λ x. refl) w.removes) (any_of_none closes work.make_new (λ x. refl) w.makes))

pub commit_closes_none : (old new : Graph) (plan : Plan) (c : Configuration) → list_any closes (commit_events old new plan c) ≡ false
commit_closes_none old new plan c =
    let does = work.work_of (commit.work old new plan c) in
    let links = new_links new plan (change_all c does) in
    let ports = reopened_ports old new plan c in
    none_both closes (commit_steps old new plan c) (map event.Reopen ports)
    (none_both closes does (map work.link_new links) (work_closes_none (commit.work old new plan c)) (any_of_none closes work.link_new (λ x. refl) links))
    (any_of_none closes event.Reopen (λ x. refl) ports)

pub commit_lines_close_none : (old new : Graph) (plan : Plan) (c : Configuration) → list_any is_close (commit_lines old new plan c) ≡ false
commit_lines_close_none old new plan c =
    none_both is_close (lines_of_events (commit_events old new plan c)) (to.Commit ∷ []) (none_of_events (commit_events old new plan c) (commit_closes_none old new plan c)) refl

pub ends_close_none : (old new : Graph) (plan : Plan) (within : ℕ) (c : Configuration) (closed : List ℕ) (rest : List HistoryLine)
    → IsCommitted old new plan within c rest ⊎ IsGivenUp closed within rest → list_any is_close rest ≡ false
ends_close_none old new plan within c closed rest (inl e) =
    ap (list_any is_close) e.are
    ∙ none_both is_close (drained_lines e.looks) (commit_lines old new plan c) (any_of_none is_close drained_line (λ d. refl) (seen_in_all e.looks))
    (commit_lines_close_none old new plan c)
ends_close_none old new plan within c closed rest (inr e) =
    ap (list_any is_close) e.are
    ∙ none_both is_close (drained_lines e.looks) (pending_lines within e.left closed) (any_of_none is_close drained_line (λ d. refl) (seen_in_all e.looks))
    (none_both is_close (map root_line e.left ++ map to.Reopen closed) (to.Abandon ∷ [])
    (none_both is_close (map root_line e.left) (map to.Reopen closed) (any_of_none is_close root_line (λ d. refl) e.left) (any_of_none is_close to.Reopen (λ p. refl) closed)) refl)

pub reopen_lines : (ps : List ℕ) → lines_of_events (map event.Reopen ps) ≡ map to.Reopen ps
reopen_lines [] = refl
reopen_lines (p ∷ ps) = ap (λ ls. to.Reopen p ∷ ls) (reopen_lines ps)

-- no event tells a root

pub no_roots : (es : List Event) → list_any is_root (lines_of_events es) ≡ false
no_roots [] = refl
no_roots (event.Close p ∷ es) = no_roots es
no_roots (event.Make n node from ∷ es) = no_roots es
no_roots (event.Link p n x ∷ es) = no_roots es
no_roots (event.Unlink p ∷ es) = no_roots es
no_roots (event.Remove n ∷ es) = no_roots es
no_roots (event.Reopen p ∷ es) = no_roots es
no_roots (event.Begin p k v ∷ es) = no_roots es
no_roots (event.Call p k v ∷ es) = no_roots es
no_roots (event.Miss p ∷ es) = no_roots es
no_roots (event.Take p k v ∷ es) = no_roots es
no_roots (event.Give p k v ∷ es) = no_roots es
no_roots (event.More p k v ∷ es) = no_roots es
no_roots (event.Ask p k v ∷ es) = no_roots es
no_roots (event.Hear p k v ∷ es) = no_roots es
no_roots (event.End p k v ∷ es) = no_roots es

pub commit_roots_none : (old new : Graph) (plan : Plan) (c : Configuration) → list_any is_root (commit_lines old new plan c) ≡ false
commit_roots_none old new plan c = none_both is_root (lines_of_events (commit_events old new plan c)) (to.Commit ∷ []) (no_roots (commit_events old new plan c)) refl

pub start_roots_none : (name : List ℕ) (args : List ℤ) (g : Graph) → list_any is_root (start_lines name args g) ≡ false
start_roots_none name args g = none_both is_root (lines_of_events (starts.start_of g)) (to.Commit ∷ []) (no_roots (starts.start_of g)) refl
