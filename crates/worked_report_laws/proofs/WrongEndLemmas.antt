-- Wrong ends of logs and of reports: a state that went nowhere, a number that was never taken, and the second of two nodes that is named.
use Rattle.std.proofs.Common.{◌≡◌, ◌∙◌, ℕ, Bool, true, false, cond, List, [], ◌∷◌, get_or, length, Option, Some, None, refl, sym, ap, arith}
use Rattle.std.specs.Prelude.{◌==◌, All, find, not, if◌then◌else◌}
use Rattle.std.specs.List.{range_with_len}
use Rattle.std.specs.Option.{option_map_or}
use Rattle.std.proofs.lemmas.Bool.{both_ways}
use Rattle.component_trait.specs.States.{NodeState, at_rest}
use Rattle.component_trait.specs.Tables.{opening}
use Rattle.config_graph.specs.declared.kind.Kind.TheVariants as kind
use Rattle.quiesce_core.specs.Runs.{done_by, state_after}
use Rattle.quiesce_core.specs.State.{Configuration, is_live, slot}
use Rattle.quiesce_core.specs.declared.state.Slot.{Slot}
use Rattle.report_types.specs.declared.report.Last.TheVariants as last
use Rattle.change_spec.specs.Lawful.{EndsAs, IsFolded, Merge, is_done, is_unfinished, unfinished_of}
use Rattle.change_spec.specs.Members.{Member, events, state_at}
use Rattle.change_spec.specs.Opening.{fold_of_node}
use Rattle.change_spec.specs.Scene.{config_after}
use Rattle.change_spec.proofs.MemberLaws.{config_of_lines}
use Rattle.change_plan_laws.specs.Systems.{sink_t}
use Rattle.worked_report_laws.specs.Ran as ran
use Rattle.worked_report_laws.specs.WrongEnds.{disordered, finishing_at_once, misheard, mishearing, second_named, sending_off, sent_off}
use Rattle.worked_report_laws.proofs.WrongLogLemmas.{some_log}
use Rattle.worked_report_laws.proofs.WrongRunLemmas.{never_done}
use Rattle.worked_report_laws.proofs.WrongStateLemmas.{ends_with, folds_so}

-- no node was made from this one

went_nowhere : (o : Option NodeState) → EndsAs o None (last.Moved 4) → ⊥
went_nowhere (Some s) h = h
went_nowhere None h = h

pub not_sent_off : (m : List Member) → All (IsFolded m sending_off.history) sending_off.logs → ⊥
not_sent_off m folds =
    let h : IsFolded m sending_off.history sent_off = folds 1 some_log (omega arith) in went_nowhere (fold_of_node (events m) 1) h

-- the last number is the last that was taken

abbrev sink_slot : Slot
sink_slot = record { node = sink_t; first_port = 2; from = None; live = true }

abbrev third_number : List ℕ → ℕ
third_number xs = get_or xs 2 0

pub not_misheard : (m : List Member) → Merge m mishearing → All (IsFolded m mishearing.history) mishearing.logs → ⊥
not_misheard m merge folds =
    let h : IsFolded m mishearing.history misheard = folds 2 some_log (omega arith) in
    let es = events m in
    let config : (state_at m).config ≡ config_after mishearing.history = config_of_lines m merge.by_nodes ∙ ap config_after merge.history in
    let there : slot (state_at m).config 2 ≡ Some sink_slot = ap (λ (d : Configuration). slot d 2) config in
    let did : done_by 2 es ≡ ran.log_2.events = merge.logs 2 some_log (omega arith) in
    let folded = folds_so es 2 2 sink_slot ran.log_2.events (opening kind.Sink 0) there did refl in
    let same : 13 ≡ 14 =
    ap third_number (ends_with (fold_of_node es 2) (at_rest kind.Sink 0 (record { count = 0; total = 0; items = 11 ∷ 12 ∷ 13 ∷ [] })) (11 ∷ 12 ∷ 14 ∷ []) folded h) in
    omega (arith, same)

-- the logs stand in the order of their nodes
pub not_disordered : (m : List Member) → Merge m disordered → ⊥
not_disordered m merge = let same : 1 ≡ 0 = ap (λ xs. get_or xs 0 0) merge.one_log_a_node in omega (arith, same)

-- the first of two that aren't done is named

abbrev is_first : Option ℕ → Bool
is_first o = option_map_or (λ n. n == 0) o false

pub not_second_named : (m : List Member) → Merge m second_named → second_named.unfinished ≡ unfinished_of finishing_at_once (events m) → ⊥
not_second_named m merge h =
    let es = events m in
    let c = config_after second_named.history in
    let config : (state_after es).config ≡ c = config_of_lines m merge.by_nodes ∙ ap config_after merge.history in
    let done : is_done es 0 ≡ false = never_done es (ap (λ (d : Configuration). slot d 0) config) (merge.logs 0 some_log (omega arith)) in
    let few : unfinished_of finishing_at_once es ≡ find (is_unfinished es) (0 ∷ 1 ∷ 2 ∷ 3 ∷ []) =
    ap (λ (d : Configuration). find (is_unfinished es) (range_with_len 0 (length d.slots))) config in
    let left : is_unfinished es 0 ≡ true =
    ap (λ (d : Configuration). if is_live d 0 then not (is_done es 0) else false) config ∙ ap (λ b. not b) done in
    let named : is_first (unfinished_of finishing_at_once es) ≡ true =
    ap is_first few ∙ ap (λ b. is_first (cond b (Some 0) (find (is_unfinished es) (1 ∷ 2 ∷ 3 ∷ [])))) left in
    both_ways (is_first (unfinished_of finishing_at_once es)) (ap is_first (sym h)) named
