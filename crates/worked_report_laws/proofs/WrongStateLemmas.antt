-- Wrong states: an account that was replaced by another doesn't begin with what that one kept, or tells a state of its own.
use Rattle.std.proofs.Common.{◌≡◌, ◌∙◌, ℕ, suc, true, false, List, [], ◌∷◌, get_or, Option, Some, None, refl, ap, subst, arith}
use Rattle.std.specs.Prelude.{All, codes, option_and_then, option_map}
use Rattle.std.specs.Option.{option_map_or}
use Rattle.component_trait.specs.States.{Kept, NodeState, at_rest}
use Rattle.component_trait.specs.Tables.{opening}
use Rattle.config_graph.specs.declared.kind.Kind.TheVariants as kind
use Rattle.quiesce_core.specs.Runs.{done_by, state_after}
use Rattle.quiesce_core.specs.State.{Configuration, slot}
use Rattle.quiesce_core.specs.declared.event.Event.{Event}
use Rattle.quiesce_core.specs.declared.event.Event.TheVariants as event
use Rattle.quiesce_core.specs.declared.state.Slot.{Slot}
use Rattle.report_types.specs.declared.report.Last.TheVariants as last
use Rattle.change_spec.specs.Lawful.{EndsAs, IsFolded, Merge}
use Rattle.change_spec.specs.Members.{Member, events, state_at}
use Rattle.change_spec.specs.Opening.{argument_of, fold_at, fold_of_node, fold_within}
use Rattle.change_spec.specs.Scene.{config_after}
use Rattle.change_spec.proofs.MemberLaws.{config_of_lines}
use Rattle.change_plan_laws.specs.Systems.{account_at}
use Rattle.worked_report_laws.specs.WrongLogs.{forgetting, forgotten, keeping_back, kept_back}
use Rattle.worked_report_laws.proofs.WrongLogLemmas.{some_log}

-- with what a node opens, within so many hand-overs
abbrev opened_by : List Event → ℕ → Slot → Option Kept
opened_by es fuel m = option_map_or (λ k. option_map (λ (s : NodeState). s.kept) (fold_within es fuel k)) m.from (Some (opening m.node.kind (argument_of m)))

-- the fold of a node whose slot, log and opening state are known
pub folds_so : (es : List Event) (fuel n : ℕ) (m : Slot) (log : List Event) (kept : Kept) → slot (state_after es).config n ≡ Some m → done_by n es ≡ log → opened_by es fuel m ≡ Some kept
    → fold_within es (suc fuel) n ≡ fold_at m log kept
folds_so es fuel n m log kept there did opens =
    ap (option_and_then (λ (x : Slot). option_and_then (fold_at x (done_by n es)) (opened_by es fuel x))) there
    ∙ ap (option_and_then (fold_at m (done_by n es))) opens
    ∙ ap (λ xs. fold_at m xs kept) did

abbrev first_account : Slot
first_account = record { node = account_at (codes "a") 100; first_port = 0; from = None; live = false }

abbrev second_account : Slot
second_account = record { node = account_at (codes "a") 7; first_port = 3; from = Some 0; live = true }

abbrev log_of_a : List Event
log_of_a = event.Take 0 1 3 ∷ event.Give 0 1 1 ∷ event.Take 0 2 5 ∷ event.Give 0 2 1 ∷ event.Take 0 3 7 ∷ event.Give 0 3 1 ∷ []

-- what the first account has at last
abbrev at_last : Kept
at_last = record { count = 0; total = 94; items = [] }

abbrev first_number : List ℕ → ℕ
first_number xs = get_or xs 0 0

pub ends_with : (o : Option NodeState) (s : NodeState) (xs : List ℕ) → o ≡ Some s → EndsAs o None (last.State xs) → EndsAs (Some s) None (last.State xs)
ends_with o s xs is h = subst (λ p. EndsAs p None (last.State xs)) is h

pub not_forgotten : (m : List Member) → Merge m forgetting → All (IsFolded m forgetting.history) forgetting.logs → ⊥
not_forgotten m merge folds =
    let h : IsFolded m forgetting.history forgotten = folds 4 some_log (omega arith) in
    let es = events m in
    let config : (state_at m).config ≡ config_after forgetting.history = config_of_lines m merge.by_nodes ∙ ap config_after merge.history in
    let first : slot (state_at m).config 0 ≡ Some first_account = ap (λ (d : Configuration). slot d 0) config in
    let second : slot (state_at m).config 4 ≡ Some second_account = ap (λ (d : Configuration). slot d 4) config in
    let did_a : done_by 0 es ≡ log_of_a = merge.logs 0 some_log (omega arith) in
    let did_b : done_by 4 es ≡ [] = merge.logs 4 some_log (omega arith) in
    let old = folds_so es 3 0 first_account log_of_a (opening kind.Account 100) first did_a refl in
    let opens : opened_by es 4 second_account ≡ Some at_last = ap (option_map (λ (s : NodeState). s.kept)) old in
    let new = folds_so es 4 4 second_account [] at_last second did_b opens in
    let same : 94 ≡ 100 = ap first_number (ends_with (fold_of_node es 4) (at_rest kind.Account 7 at_last) (100 ∷ []) new h) in
    omega (arith, same)

told_itself : (o : Option NodeState) (xs : List ℕ) → EndsAs o (Some 4) (last.State xs) → ⊥
told_itself (Some s) xs h = h
told_itself None xs h = h

pub not_kept_back : (m : List Member) → All (IsFolded m keeping_back.history) keeping_back.logs → ⊥
not_kept_back m folds =
    let h : IsFolded m keeping_back.history kept_back = folds 0 some_log (omega arith) in told_itself (fold_of_node (events m) 0) (94 ∷ []) h
