-- What is expected of a start and of a change meets the conditions of reading it: its events have lines and close nothing, and its ports
-- rise.
use Rattle.std.proofs.Common.{◌≡◌, ℕ, Bool, true, false, not, List, [], ◌∷◌, ◌++◌, map, length, Some, refl, sym, ap}
use Rattle.std.specs.Prelude.{filter_map}
use Rattle.std.specs.List.{enumerate_from, list_all, list_any, range_with_len}
use Rattle.std.specs.List.Sorted.{IsStrictlyIncreasing}
use Rattle.std.proofs.lemmas.Bool.{and_from, or_parts}
use Rattle.std.proofs.lemmas.List.Folds.{list_any_none}
use Rattle.std.proofs.lemmas.List.Kept.{IsStrictlyIncreasing-filter}
use Rattle.base.proofs.MapLaws.{All-filter_map}
use Rattle.base.proofs.OptionLaws.{option_map_some}
use Rattle.base.proofs.ListLaws.{none_both, any_of_none}
use Rattle.config_graph.specs.Graph.{Graph, ports, target_of}
use Rattle.config_graph.specs.declared.node.Port.{Port}
use Rattle.config_graph.specs.declared.node.Target.{Target}
use Rattle.change_plan.specs.declared.plan_data.Plan.{Plan}
use Rattle.quiesce_laws.specs.Steps.{change_all, live_ports}
use Rattle.quiesce_laws.specs.Work as work
use Rattle.change_plan_laws.specs.Commit.{commit_events, commit_steps, new_links, reopened_ports}
use Rattle.change_plan_laws.specs.Commit as commit
use Rattle.quiesce_core.specs.Rules.{is_live_port}
use Rattle.quiesce_core.specs.State.{Configuration}
use Rattle.quiesce_core.specs.declared.event.Event.{Event}
use Rattle.quiesce_core.specs.declared.event.Event.TheVariants as event
use Rattle.quiesce_laws.specs.Starts as starts
use Rattle.change_spec.proofs.TestLaws.{range_rises}
use Rattle.report_follows.specs.Testing.{is_tellable}

abbrev untold : Event → Bool
untold e = not (is_tellable e)

tellable_all : (es : List Event) → list_any untold es ≡ false → list_all is_tellable es ≡ true
tellable_all [] h = refl
tellable_all (e ∷ es) h =
    let w = or_parts (untold e) (list_any untold es) h in and_from (is_tellable e) (list_all is_tellable es) (told_if (is_tellable e) w.0) (tellable_all es w.1)
  where
    told_if : (b : Bool) → not b ≡ false → b ≡ true
    told_if true h = refl
    told_if false h = sym h

link_is_told : (g : Graph) (p : ℕ × Port) (e : Event) → starts.link_of g p ≡ Some e → untold e ≡ false
link_is_told g p e is =
    let w = option_map_some (λ (t : Target). event.Link p.0 t.node t.provide) (target_of g.links p.1.node p.1.require) e is in sym (ap untold w.2)

links_are_told : (g : Graph) (xs : List (ℕ × Port)) → list_any untold (filter_map (starts.link_of g) xs) ≡ false
links_are_told g xs =
    list_any_none untold (filter_map (starts.link_of g) xs) (All-filter_map (starts.link_of g) (λ e. untold e ≡ false) xs (λ k a e at is. link_is_told g a e is))

pub starts_are_tellable : (g : Graph) → list_all is_tellable (starts.start_of g) ≡ true
starts_are_tellable g =
    let nodes = enumerate_from 0 g.nodes in
    let all = enumerate_from 0 (ports g.nodes) in
    tellable_all (starts.start_of g)
    (none_both untold (map starts.make_of nodes ++ filter_map (starts.link_of g) all) (map starts.reopen_of all)
    (none_both untold (map starts.make_of nodes) (filter_map (starts.link_of g) all) (any_of_none untold starts.make_of (λ x. refl) nodes) (links_are_told g all))
    (any_of_none untold starts.reopen_of (λ x. refl) all))

work_is_told : (w : work.Work) → list_any untold (work.work_of w) ≡ false
work_is_told w =
    none_both untold (map event.Unlink w.unlinks) (map event.Remove w.removes ++ map work.make_new w.makes) (any_of_none untold event.Unlink (λ x. refl) w.unlinks)
    (none_both untold (map event.Remove w.removes) (map work.make_new w.makes) (any_of_none untold event.Remove (λ x. refl) w.removes) (any_of_none untold work.make_new (λ x. refl) w.makes))

pub commits_are_tellable : (old new : Graph) (plan : Plan) (c : Configuration) → list_all is_tellable (commit_events old new plan c) ≡ true
commits_are_tellable old new plan c =
    let does = work.work_of (commit.work old new plan c) in
    let links = new_links new plan (change_all c does) in
    let opened = reopened_ports old new plan c in
    tellable_all (commit_events old new plan c)
    (none_both untold (commit_steps old new plan c) (map event.Reopen opened)
    (none_both untold does (map work.link_new links) (work_is_told (commit.work old new plan c)) (any_of_none untold work.link_new (λ x. refl) links))
    (any_of_none untold event.Reopen (λ x. refl) opened))

pub live_ports_rise : (c : Configuration) → IsStrictlyIncreasing (live_ports c)
live_ports_rise c = IsStrictlyIncreasing-filter (is_live_port c) (range_with_len 0 (length c.gates)) (range_rises 0 (length c.gates))
