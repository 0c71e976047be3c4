-- The numbers that no rule of a report bounds fit into 64 bits, in the report of each run.
use Rattle.std.proofs.Common.{◌≡◌, ◌∙◌, ℕ, zero, suc, ◌<◌, not, List, [], ◌∷◌, ◌++◌, map, Option, Some, None, refl, sym, ap, subst, arith}
use Rattle.quiesce_laws.specs.Events.{ends_transaction}
use Rattle.std.specs.Prelude.{◌^◌, All, Contains, filter_map}
use Rattle.std.specs.List.{AllByRecursion, count_by}
use Rattle.std.proofs.lemmas.List.Elements.{All-contains}
use Rattle.std.proofs.lemmas.Option.{none-some, same_Some}
use Rattle.base.specs.Each.{Each}
use Rattle.base.proofs.ContainsLaws.{Contains-filter, Contains-from_filter_map}
use Rattle.base.proofs.EachLaws.{each_at, each_weaker}
use Rattle.base.proofs.MapLaws.{count_by-append}
use Rattle.base.proofs.AllLaws.{all_contained}
use Rattle.component_trait.specs.States.{NodeState}
use Rattle.quiesce_core.specs.declared.event.Event.{Event}
use Rattle.report_types.specs.declared.report.HistoryLine.{HistoryLine}
use Rattle.report_types.specs.declared.report.HistoryLine.TheVariants as to
use Rattle.report_types.specs.declared.report.Last.{Last}
use Rattle.report_types.specs.declared.report.Last.TheVariants as last
use Rattle.report_types.specs.declared.report.NodeLog.{NodeLog}
use Rattle.report_types.specs.declared.report.Report.{Report}
use Rattle.change_spec.specs.Endings.{moved_to}
use Rattle.change_spec.specs.Lawful.{EndsAs, IsEndedAt, IsFolded, IsRunAt, Lawful}
use Rattle.change_spec.specs.Members.{Member, by_node, events, line_in, of_history, is_root}
use Rattle.change_spec.specs.Opening.{fold_of_node}
use Rattle.change_spec.specs.Statements.{Statement}
use Rattle.change_spec.proofs.MemberLaws.{events_parts}
use Rattle.change_round_laws.proofs.FoldLaws.{StatesAreHanded}
use Rattle.result_laws.specs.Telling.{CountFits, NumbersFit, StateFits}
use Rattle.command_spec.specs.Schedules.{IsReportBy, Schedule, rounds, threads}
use Rattle.result_laws.specs.Coming.{come}
use Rattle.result_laws.proofs.Bounds.{Small, all_small, ends_so_far, few_end, numbers_small}
use Rattle.result_laws.proofs.Told.{log_folds}

-- ---- lists

record At {A : Type 0} (xs : List A) (x : A) : Type 0 where
  before : List A
  after : List A
  parts : xs ≡ before ++ x ∷ after

parted : {A : Type 0} (xs : List A) (x : A) → Contains xs x → At xs x
parted [] x c = absurd (omega (arith, c.1))
parted (y ∷ xs) x (zero, low, is) = record { before = []; after = xs; parts = ap (λ z. z ∷ xs) is }
parted (y ∷ xs) x (suc k, low, is) = let w = parted xs x (k, omega (arith, low), is) in record { before = y ∷ w.before; after = w.after; parts = ap (λ zs. y ∷ zs) w.parts }

events_done : (es : List Event) → events (map by_node es) ≡ es
events_done [] = refl
events_done (e ∷ es) = ap (λ xs. e ∷ xs) (events_done es)

-- ---- the numbers of `run` lines

module _ (statements : List Statement) (report : Report) (l : Lawful statements report) (numbers_end : Each IsEndedAt l.members) where
  member_of : (k n : ℕ) → Contains report.history (to.Run k n) → Contains l.members (of_history (to.Run k n))
  member_of k n there =
      let kept = Contains-filter (λ x. not (is_root x)) report.history (to.Run k n) there refl in
      let w = Contains-from_filter_map line_in l.members (to.Run k n) (subst (λ xs. Contains xs (to.Run k n)) (sym l.by_them.merge.history) kept) in
      subst (Contains l.members) (is_it w.0 w.2) w.1
    where
      is_it : (x : Member) → line_in x ≡ Some (to.Run k n) → x ≡ of_history (to.Run k n)
      is_it (by_node e) h = absurd (none-some (to.Run k n) h)
      is_it (of_history y) h = ap of_history (same_Some y (to.Run k n) h)

  few_ended : (k n : ℕ) → Contains report.history (to.Run k n) → n < 2 ^ 64
  few_ended k n there =
      let w = parted l.members (of_history (to.Run k n)) (member_of k n there) in
      let since = each_at IsEndedAt w.before w.after (of_history (to.Run k n)) (subst (λ xs. Each IsEndedAt xs) w.parts numbers_end) in
      let whole = count_by-append ends_transaction (events w.before) (events (of_history (to.Run k n) ∷ w.after)) in
      let parts = count_by-append ends_transaction (events since.front) (events (map by_node since.later)) in
      let all : ends_so_far (events l.members) ≡ ends_so_far (events w.before ++ events (of_history (to.Run k n) ∷ w.after)) = ap ends_so_far (ap events w.parts ∙ events_parts w.before (of_history (to.Run k n) ∷ w.after)) in
      let front : ends_so_far (events w.before) ≡ ends_so_far (events since.front ++ events (map by_node since.later)) = ap ends_so_far (ap events since.parts ∙ events_parts since.front (map by_node since.later)) in
      let done = ap ends_so_far (events_done since.later) in
      let enough = since.enough in
      let few = few_end (events l.members) l.by_them.runs in
      omega (arith, whole, parts, all, front, done, enough, few)

  pub counts_fit : AllByRecursion CountFits report.history
  counts_fit = all_contained CountFits report.history (λ x there. by x there)
    where
      by : (x : HistoryLine) → Contains report.history x → CountFits x
      by (to.Run k n) there = few_ended k n there
      by _ there = tt

-- ---- the numbers of last states

module _ (handed : StatesAreHanded) (statements : List Statement) (report : Report) (l : Lawful statements report) where
  pub states_fit : AllByRecursion (λ (x : NodeLog). StateFits x.last) report.logs
  states_fit = all_contained (λ (x : NodeLog). StateFits x.last) report.logs (λ x there. by x (fold_of_node es x.slot) refl (moved_to report.history x.slot) x.last (All-contains (IsFolded l.members report.history) report.logs x l.by_them.folds there))
    where
      es : List Event
      es = events l.members

      by : (x : NodeLog) (o : Option NodeState) → fold_of_node (events l.members) x.slot ≡ o → (j : Option ℕ) (y : Last) → EndsAs (fold_of_node (events l.members) x.slot) j y → StateFits y
      by x o is j (last.Moved i) h = tt
      by x None is j (last.State xs) h = absurd (none_ends j (subst (λ f. EndsAs f j (last.State xs)) is h))
        where
          none_ends : (j : Option ℕ) → EndsAs None j (last.State xs) → ⊥
          none_ends None h = h
          none_ends (Some i) h = h
      by x (Some s) is (Some j) (last.State xs) h = absurd (subst (λ f. EndsAs f (Some j) (last.State xs)) is h)
      by x (Some s) is None (last.State xs) h =
          let same : come (events l.members) x.slot ≡ s = ap (λ f. Rattle.std.specs.Prelude.unwrap_or f (Rattle.component_trait.specs.States.at_rest Rattle.config_graph.specs.declared.kind.Kind.TheVariants.Fork 0 Rattle.component_trait.specs.States.nothing)) is in
          let small = all_small handed (events l.members) l.by_them.runs (log_folds statements report l) x.slot in
          subst (λ ys. AllByRecursion (λ v. v < 2 ^ 64) ys) (subst (λ f. EndsAs f None (last.State xs)) is h)
          (numbers_small s.kind (ends_so_far (events l.members)) s.kept (few_end (events l.members) l.by_them.runs) (subst (λ (z : NodeState). Small (ends_so_far (events l.members)) z.kept) same small))

-- ---- the report of a run

pub numbers_fit : StatesAreHanded → (schedule : Schedule) (statements : List Statement) (report : Report) → IsReportBy schedule statements report → NumbersFit report
numbers_fit handed rounds statements report is = record {
  counts = counts_fit statements report is.lawful.lawful is.lawful.numbers.ended;
  states = states_fit handed statements report is.lawful.lawful;
}
numbers_fit handed (threads observers) statements report is = record {
  counts = counts_fit statements report is.lawful.lawful (each_weaker IsRunAt IsEndedAt [] is.lawful.lawful.members ended_so is.lawful.numbers.runs_end);
  states = states_fit handed statements report is.lawful.lawful;
}
  where
    ended_so : (before : List Member) (x : Member) → IsRunAt before x → IsEndedAt before x
    ended_so before (of_history (to.Run k n)) h = h.0
    ended_so before (of_history _) h = tt
    ended_so before (by_node e) h = tt
