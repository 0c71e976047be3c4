-- One step of a reader: what it finds of a step is right, and stands behind the lines before, and where it finds nothing no front is right.
use Rattle.std.proofs.Common.{◌≡◌, ◌∙◌, ℕ, Bool, true, false, ◌||◌, List, [], ◌∷◌, ◌++◌, append-nil, length, map, Option, Some, None, refl, sym, ap, subst, inl, inr}
use Rattle.std.specs.Prelude.{◌↔◌, ℤ}
use Rattle.std.specs.List.{list_any, range_with_len}
use Rattle.std.specs.List.Sorted.{IsStrictlyIncreasing}
use Rattle.std.proofs.lemmas.Bool.{both_ways}
use Rattle.std.proofs.lemmas.List.Folds.{list_any-append}
use Rattle.std.proofs.lemmas.Option.{none-some, same_Some}
use Rattle.std.proofs.lemmas.List.Kept.{IsStrictlyIncreasing-filter}
use Rattle.config_graph.specs.Graph.{Graph}
use Rattle.config_graph.specs.declared.node.Port.{Port}
use Rattle.quiesce_core.specs.Live.{IsGraphOf}
use Rattle.quiesce_core.specs.Runs.{IsRun}
use Rattle.quiesce_core.specs.declared.event.Event.{Event}
use Rattle.quiesce_laws.specs.Steps.{change_all, live_ports}
use Rattle.change_plan_laws.specs.Committing.{made_in}
use Rattle.report_types.specs.declared.report.HistoryLine.{HistoryLine}
use Rattle.report_types.specs.declared.report.HistoryLine.TheVariants as to
use Rattle.change_spec.specs.Asked.{Above, CanChange, after_change, statement_of}
use Rattle.change_spec.specs.Follows.{IsRight, IsStop}
use Rattle.change_spec.specs.Members.{is_pending}
use Rattle.change_spec.specs.Scene.{AreSeen, config_after, drained_line}
use Rattle.change_spec.specs.declared.steps.Replacement.{Replacement}
use Rattle.change_spec.specs.declared.steps.Step.{Step}
use Rattle.change_spec.specs.declared.steps.Step.TheVariants as steps
use Rattle.change_spec.proofs.TestLaws.{range_rises}
use Rattle.change_round_laws.proofs.LineLaws.{changes, changes_both, config_more}
use Rattle.change_lists.specs.Layouts.{IsLayoutOf, is_live_at, live_at}
use Rattle.change_lists.specs.declared.layout.Layout.{Layout}
use Rattle.change_lists.proofs.LayoutLaws.{live_ports_are}
use Rattle.merge_laws.specs.Reading.{IsChangeSo}
use Rattle.report_follows.specs.Fronts.{HasNoFront, IsStopOf, LeadsTo}
use Rattle.report_follows.specs.Readers.{CanGo, IsBehind, IsEndedSo, IsReadSo, IsStill, after_step, tried}
use Rattle.base.proofs.ListLaws.{none_both}

-- ---- where a reader stands

pub moved_to : (above : Above) (before : List HistoryLine) (g h : Graph) (l k : Layout) (flag other : Bool) → h ≡ g → k ≡ l → other ≡ flag → IsBehind above before g l flag → IsBehind above before h k other
moved_to above before g h l k flag other graphs layouts flags b =
    subst (λ f. IsBehind above before h k f) (sym flags) (subst (λ x. IsBehind above before h x flag) (sym layouts) (subst (λ x. IsBehind above before x l flag) (sym graphs) b))

-- ---- a step that tries no change

-- lines that change nothing
still_behind : (above later : Above) (before lines : List HistoryLine) (g : Graph) (l : Layout) (flag : Bool) → IsBehind above before g l flag → changes lines ≡ [] → list_any is_pending lines ≡ false
    → (flag ≡ false → later ≡ above) → IsBehind later (before ++ lines) g l flag
still_behind above later before lines g l flag b none calm named =
    let same : config_after (before ++ lines) ≡ config_after before = config_more before lines ∙ ap (change_all (config_after before)) none in
    let events : changes (before ++ lines) ≡ changes before = changes_both before lines ∙ ap (λ es. changes before ++ es) none ∙ append-nil (changes before) in
    record {
      gave_up = b.gave_up ∙ sym (by (list_any is_pending before) refl);
      committed = λ e.
          let x = b.committed e in
          let at = sym (named e) in
          record {
            named = x.named ∙ ap (λ (a : Above). a.graph) at;
            made = ap made_in same ∙ x.made ∙ ap (λ (a : Above). a.made) at;
            runs = subst IsRun (sym events) x.runs;
          };
      is_graph = b.is_graph;
      graph_is = subst (λ c. IsGraphOf c g) (sym same) b.graph_is;
      layout_is = subst (λ c. IsLayoutOf l c g) (sym same) b.layout_is;
      few_ports = b.few_ports;
    }
  where
    by : (t : Bool) → list_any is_pending before ≡ t → list_any is_pending (before ++ lines) ≡ list_any is_pending before
    by true e =
        list_any-append is_pending before lines ∙ ap (λ t. t || list_any is_pending lines) e ∙ sym e
    by false e = none_both is_pending before lines e calm ∙ sym e

module _ (above : Above) (before : List HistoryLine) (g : Graph) (l : Layout) (flag : Bool) (b : IsBehind above before g l flag) where
  still_so : (s : Step) (can : CanGo above s) → tried flag s ≡ None → (lines : List HistoryLine) → IsStill s lines → IsReadSo above s can before g l flag lines
  still_so (steps.Run k) can none lines x = (x, still_behind above above before lines g l flag b (ap changes x.are) (ap (list_any is_pending) x.are) (λ _. refl))
  still_so (steps.Finish n) can none lines x = (x, still_behind above above before lines g l flag b (ap changes x.are) (ap (list_any is_pending) x.are) (λ _. refl))
  still_so steps.Show can none lines x = (x, still_behind above above before lines g l flag b (ap changes x.are) (ap (list_any is_pending) x.are) (λ _. refl))
  still_so (steps.Change c) can none lines x = by flag refl
    where
      by : (t : Bool) → flag ≡ t → IsReadSo above (steps.Change c) can before g l flag lines
      by false e = absurd (none-some c (sym none ∙ ap (λ t. tried t (steps.Change c)) e))
      by true e = (
        (λ _. x, λ open_. absurd (both_ways (list_any is_pending before) open_ (sym b.gave_up ∙ e))),
        still_behind above (after_step above (steps.Change c) can) before lines g l flag b (ap changes x) (ap (list_any is_pending) x) (λ f. absurd (both_ways flag f e)),
      )

  so_still : (s : Step) → tried flag s ≡ None → (lines : List HistoryLine) → IsRight before (statement_of s) lines → IsStill s lines
  so_still (steps.Run k) none lines x = x
  so_still (steps.Finish n) none lines x = x
  so_still steps.Show none lines x = x
  so_still (steps.Change c) none lines x = by flag refl
    where
      by : (t : Bool) → flag ≡ t → IsStill (steps.Change c) lines
      by false e = absurd (none-some c (sym none ∙ ap (λ t. tried t (steps.Change c)) e))
      by true e = x.0 (sym b.gave_up ∙ e)

  passed : (s : Step) (can : CanGo above s) → tried flag s ≡ None → (old new : List HistoryLine) → LeadsTo (IsStill s) old new → LeadsTo (IsReadSo above s can before g l flag) old new
  passed s can none old new x = record { front = x.front; is = still_so s can none x.front x.is; parts = x.parts }

  pub passed_to : (s : Step) (can : CanGo above s) → tried flag s ≡ None → (old new : List HistoryLine) (h : Graph) (k : Layout) (other : Bool) → h ≡ g → k ≡ l → other ≡ flag → LeadsTo (IsStill s) old new
      → LeadsTo (IsReadSo above s can before h k other) old new
  passed_to s can none old new h k other graphs layouts flags x =
      let y = passed s can none old new x in
      record { front = y.front; is = (y.is.0, moved_to (after_step above s can) (before ++ y.front) g h l k flag other graphs layouts flags y.is.1); parts = y.parts }

  pub none_passed : (s : Step) → tried flag s ≡ None → (old : List HistoryLine) → HasNoFront (IsStill s) old → HasNoFront (IsRight before (statement_of s)) old
  none_passed s none old h front rest right are = h front rest (so_still s none front right) are

-- ---- a step that tries one

pub tries : (flag : Bool) (s : Step) (c : Replacement) → tried flag s ≡ Some c → (flag ≡ false) × (s ≡ steps.Change c)
tries false (steps.Change c) d h = (refl, ap steps.Change (same_Some c d h))
tries false (steps.Run k) d h = absurd (none-some d h)
tries false (steps.Finish n) d h = absurd (none-some d h)
tries false steps.Show d h = absurd (none-some d h)
tries true s d h = absurd (none-some d h)

either_end : (name : List ℕ) (args : List ℤ) (within : ℕ) (closed : List ℕ) (events : List Event) (flag : Bool) (lines : List HistoryLine) → IsEndedSo flag name args within closed events lines
    → IsChangeSo name args within closed events lines
either_end name args within closed events false lines x = record { rest = x.rest; are = x.are; ends = inl x.ends }
either_end name args within closed events true lines x = record { rest = x.rest; are = x.are; ends = inr x.ends }

-- the lines of a change that were read, behind which the reader stands so
pub replaced : (above : Above) (before : List HistoryLine) (c : Replacement) (can : CanChange above c) (closed : List ℕ) (events : List Event)
    → ((lines : List HistoryLine) → IsRight before (statement_of (steps.Change c)) lines ↔ IsChangeSo c.name c.args c.within closed events lines) → (flag : Bool) (old left : List HistoryLine)
    → LeadsTo (IsEndedSo flag c.name c.args c.within closed events) old left → (g : Graph) (l : Layout) (given_up : Bool)
    → ((lines : List HistoryLine) → IsEndedSo flag c.name c.args c.within closed events lines → IsBehind (after_change above c can) (before ++ lines) g l given_up)
    → LeadsTo (IsReadSo above (steps.Change c) can before g l given_up) old left
replaced above before c can closed events right flag old left x g l given_up behind = record {
  front = x.front;
  is = ((right x.front).1 (either_end c.name c.args c.within closed events flag x.front x.is), behind x.front x.is);
  parts = x.parts;
}

-- ---- the stop

pub at_stop : (above : Above) (before : List HistoryLine) (g : Graph) (l : Layout) (flag : Bool) → IsBehind above before g l flag → (ports : List ℕ) → ports ≡ live_at l.places.items l.ports.items
    → (left : List HistoryLine) → IsStopOf ports left ↔ IsStop before left
at_stop above before g l flag b ports are left =
    let same : ports ≡ live_ports (config_after before) = are ∙ live_ports_are (config_after before) g b.graph_is l b.layout_is in (
      λ x. record { seen = x.seen; are = x.are ∙ ap (λ ps. to.Stop ∷ map to.Close ps ++ map drained_line x.seen) same; all_seen = subst (λ ps. AreSeen ps x.seen) same x.all_seen },
      λ x. record { seen = x.seen; are = x.are ∙ ap (λ ps. to.Stop ∷ map to.Close ps ++ map drained_line x.seen) (sym same); all_seen = subst (λ ps. AreSeen ps x.seen) (sym same) x.all_seen },
    )

pub live_rise : (places : List (Option ℕ)) (ports : List Port) → IsStrictlyIncreasing (live_at places ports)
live_rise places ports = IsStrictlyIncreasing-filter (is_live_at places ports) (range_with_len 0 (length ports)) (range_rises 0 (length ports))
