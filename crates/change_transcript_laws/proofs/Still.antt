-- What nodes did between two places of a run, by their logs.
use Rattle.std.proofs.Common.{◌≡◌, ◌∙◌, ℕ, ◌≤◌, true, false, List, [], ◌∷◌, ◌++◌, append_assoc, length, refl, sym, ap, subst, arith}
use Rattle.std.specs.Prelude.{◌==◌}
use Rattle.std.specs.Option.{option_map_or}
use Rattle.std.proofs.lemmas.Bool.{eq-eqb}
use Rattle.std.proofs.lemmas.List.{append-nil, length-append}
use Rattle.quiesce_core.specs.Doers.{is_of_change}
use Rattle.quiesce_core.specs.Runs.{IsRun, Step, done_by, done_from, is_doer, state_after}
use Rattle.quiesce_core.specs.State.{State, empty, is_live}
use Rattle.quiesce_core.specs.declared.event.Event.{Event}
use Rattle.quiesce_core.proofs.LegalLaws.{legal}
use Rattle.quiesce_core.proofs.RunLaws.{doer_there, fronts_are_runs, last_step, node_events_keep_the_configuration, runs_are_consistent, runs_are_well_formed, state_more, done_parts, done_by_own, done_by_other}
use Rattle.change_spec.specs.Resting.{AreByNodes}
use Rattle.quiesce_laws.proofs.DoerLaws.{doer_live, gone_does_nothing}

pub log_parts : (n : ℕ) (es later : List Event) → done_by n (es ++ later) ≡ done_by n es ++ done_from (state_after es) n later
log_parts n es later = done_parts empty n es later

pub log_grows : (n : ℕ) (es later : List Event) → length (done_by n es) ≤ length (done_by n (es ++ later))
log_grows n es later = omega (arith, ap length (log_parts n es later), length-append (done_by n es) (done_from (state_after es) n later))

-- a log that is no longer is the same
pub log_same_if : (n : ℕ) (es later : List Event) → length (done_by n (es ++ later)) ≤ length (done_by n es) → done_by n (es ++ later) ≡ done_by n es
log_same_if n es later few =
    log_parts n es later
    ∙ ap (λ k. done_by n es ++ k) (none (done_from (state_after es) n later) (omega (arith, few, ap length (log_parts n es later), length-append (done_by n es) (done_from (state_after es) n later))))
    ∙ append-nil (done_by n es)
  where
    none : (xs : List Event) → length xs ≤ 0 → xs ≡ []
    none [] h = refl
    none (x ∷ xs) h = absurd (omega (arith, h))

pub by_nodes_parts : (xs ys : List Event) → AreByNodes (xs ++ ys) → AreByNodes xs × AreByNodes ys
by_nodes_parts [] ys h = (tt, h)
by_nodes_parts (x ∷ xs) ys h = let w = by_nodes_parts xs ys h.1 in ((h.0, w.0), w.1)

-- one event more, and those behind it
pub record OneMore (es : List Event) (e : Event) (later : List Event) : Type 0 where
  pub whole : (es ++ e ∷ []) ++ later ≡ es ++ e ∷ later
  pub runs_on : IsRun ((es ++ e ∷ []) ++ later)
  pub run : IsRun es
  pub step : Step (state_after es) e (state_after (es ++ e ∷ []))

pub one_more : (es : List Event) (e : Event) (later : List Event) → IsRun (es ++ e ∷ later) → OneMore es e later
one_more es e later run =
    let whole = append_assoc es (e ∷ []) later in
    let run' = subst IsRun (sym whole) run in
    let one = last_step es e (fronts_are_runs (es ++ e ∷ []) later run') in
    record { whole = whole; runs_on = run'; run = one.0; step = one.1 }

same_one : (es : List Event) (e : Event) → is_of_change e ≡ false → (state_after (es ++ e ∷ [])).config ≡ (state_after es).config
same_one es e by_ = ap (λ (s : State). s.config) (state_more es e) ∙ node_events_keep_the_configuration (state_after es) e by_

-- nodes' events leave the configuration
pub same_config : (es later : List Event) → AreByNodes later → (state_after (es ++ later)).config ≡ (state_after es).config
same_config es [] by_ = ap (λ k. (state_after k).config) (append-nil es)
same_config es (e ∷ later) by_ =
    ap (λ k. (state_after k).config) (sym (append_assoc es (e ∷ []) later)) ∙ same_config (es ++ e ∷ []) later by_.1 ∙ same_one es e by_.0

-- a node that isn't live does nothing
pub gone_log : (es later : List Event) (n : ℕ) → IsRun (es ++ later) → AreByNodes later → is_live (state_after es).config n ≡ false → done_by n (es ++ later) ≡ done_by n es
gone_log es [] n run by_ gone = ap (done_by n) (append-nil es)
gone_log es (e ∷ later) n run by_ gone =
    let w = one_more es e later run in
    ap (done_by n) (sym w.whole)
    ∙ gone_log (es ++ e ∷ []) later n w.runs_on by_.1 (ap (λ c. is_live c n) (same_one es e by_.0) ∙ gone)
    ∙ done_by_other n es e (gone_does_nothing (state_after es) e n (runs_are_well_formed es w.run) (legal (state_after es) e w.step.allowed) gone)

-- where no live node did more, nothing was done
pub nothing_done : (es later : List Event) → IsRun (es ++ later) → AreByNodes later
    → ((n : ℕ) → is_live (state_after es).config n ≡ true → length (done_by n (es ++ later)) ≤ length (done_by n es)) → later ≡ []
nothing_done es [] run by_ few = refl
nothing_done es (e ∷ later) run by_ few =
    let w = one_more es e later run in
    let s = state_after es in
    let ok = legal s e w.step.allowed in
    let d = doer_there s e (runs_are_consistent es w.run) ok by_.0 in
    let own : is_doer s d.0 e ≡ true = ap (λ o. option_map_or (λ m. m == d.0) o false) d.1 ∙ eq-eqb d.0 d.0 refl in
    let live = doer_live s e d.0 (runs_are_well_formed es w.run) ok d.1 in
    absurd (omega (
      arith,
      few d.0 live,
      ap (λ k. length (done_by d.0 k)) w.whole,
      log_grows d.0 (es ++ e ∷ []) later,
      ap length (done_by_own d.0 es e own),
      length-append (done_by d.0 es) (e ∷ []),
    ))
