-- Steps of a way: what is left behind a line, or behind an event of a log, that came or may not come.
use Rattle.std.proofs.Common.{◌≡◌, ◌∙◌, ℕ, zero, suc, ◌+◌, ◌<◌, ◌≤◌, Bool, true, false, ◌||◌, List, [], ◌∷◌, length, get_or, set, drop, replicate, Some, None, refl, sym, ap, subst, arith}
use Rattle.std.specs.Prelude.{◌↔◌, slice_get}
use Rattle.std.specs.List.{list_all, range_with_len}
use Rattle.std.proofs.lemmas.Bool.{le-leb, leb-true}
use Rattle.std.proofs.lemmas.List.{drop_all, length-drop}
use Rattle.base.proofs.PlaceLaws.{front_at, empty_behind}
use Rattle.base.proofs.OptionLaws.{None-from_is_none}
use Rattle.base.proofs.RangeLaws.{all_in_range, range_all}
use Rattle.config_graph.specs.declared.TheConstants.{MAX_PORTS}
use Rattle.quiesce_core.specs.declared.event.Event.{Event}
use Rattle.quiesce_core.specs.declared.event.Event.TheVariants.{Begin, Call, Close}
use Rattle.quiesce_core.specs.Effect.{effect}
use Rattle.quiesce_core.specs.Rules.{denial, is_live_port}
use Rattle.quiesce_core.specs.State.{State}
use Rattle.quiesce_core.specs.WellFormed.{IsWellFormed}
use Rattle.quiesce_core.proofs.LegalLaws.{legal}
use Rattle.quiesce_core.proofs.TableLaws.{gate_place}
use Rattle.report_types.specs.declared.report.HistoryLine.{HistoryLine}
use Rattle.report_types.specs.declared.report.HistoryLine.TheVariants as to
use Rattle.report_types.specs.declared.report.NodeLog.{NodeLog}
use Rattle.merge_laws.specs.Guarded.{Left, amount, do_first, is_beyond, is_called_at, is_met, left, log_of, may_do, may_do_first, told, waits}
use Rattle.report_check.specs.Ahead.{IsAhead}
use Rattle.report_check.specs.Going.{IsPlaced, IsTried, events_of, is_allowed, is_at_end, is_ready, left_behind, logs_behind}
use Rattle.report_check.specs.declared.ahead.Ahead.{Ahead}
use Rattle.report_check.specs.declared.way.Way.{Way}
use Rattle.report_check.proofs.AheadLemmas.{told_on}

-- ---- ports that tables know

pub port_is_known : (s : State) (p : ℕ) → IsWellFormed s → is_live_port s.config p ≡ true → p < MAX_PORTS
port_is_known s p w live = omega (arith, gate_place s p live, w.sound.few_ports)

pub told_at : (a : Ahead) (h : List HistoryLine) (i p place : ℕ) → IsAhead a h i → p < MAX_PORTS → (p < MAX_PORTS → place ≡ get_or a.next.items p 0)
    → slice_get h place ≡ told p (drop i h)
told_at a h i p place w low is = ap (slice_get h) (is low) ∙ sym (w.next p low)

-- ---- logs

pub log_left : (ks : List ℕ) (logs : List NodeLog) (n : ℕ) → length ks ≡ length logs
    → get_or (logs_behind ks logs) n [] ≡ drop (get_or ks n 0) (get_or (events_of logs) n [])
log_left [] [] n e = refl
log_left [] (l ∷ logs) n e = absurd (omega (arith, e))
log_left (k ∷ ks) [] n e = absurd (omega (arith, e))
log_left (k ∷ ks) (l ∷ logs) zero e = refl
log_left (k ∷ ks) (l ∷ logs) (suc n) e = log_left ks logs n (omega (arith, e))

set_behind : (ks : List ℕ) (logs : List NodeLog) (n k : ℕ) → length ks ≡ length logs
    → set (logs_behind ks logs) n (drop k (get_or (events_of logs) n [])) ≡ logs_behind (set ks n k) logs
set_behind [] [] n k e = refl
set_behind [] (l ∷ logs) n k e = absurd (omega (arith, e))
set_behind (j ∷ ks) [] n k e = absurd (omega (arith, e))
set_behind (j ∷ ks) (l ∷ logs) zero k e = refl
set_behind (j ∷ ks) (l ∷ logs) (suc n) k e = ap (λ x. drop j l.events ∷ x) (set_behind ks logs n k (omega (arith, e)))

pub none_behind : (logs : List NodeLog) → logs_behind (replicate (length logs) 0) logs ≡ events_of logs
none_behind [] = refl
none_behind (l ∷ logs) = ap (λ x. l.events ∷ x) (none_behind logs)

-- no slot beyond the logs has one
past : (logs : List NodeLog) (m : ℕ) → length logs ≤ m → get_or (events_of logs) m [] ≡ []
past [] m le = refl
past (l ∷ logs) zero le = absurd (omega (arith, le))
past (l ∷ logs) (suc m) le = past logs m (omega (arith, le))

pub log_beyond : (w : Way) (h : List HistoryLine) (logs : List NodeLog) (m : ℕ) → IsPlaced w h logs → length logs ≤ m → log_of (left_behind w h logs) m ≡ []
log_beyond w h logs m p le =
    log_left w.places.items logs m p.places ∙ ap (drop (get_or w.places.items m 0)) (past logs m le) ∙ drop_all (get_or w.places.items m 0) [] (omega arith)

-- ---- what may not come, and what came

pub stuck_event : (x : Left) (n : ℕ) → log_of x n ≡ [] → IsTried x (suc n) false x
stuck_event x n e = record { came_is = sym (ap (may_do_first x.state x.lines n) e); new_is = refl }

held_event : (x : Left) (n : ℕ) (e : Event) (rest : List Event) → log_of x n ≡ e ∷ rest → may_do x.state x.lines n e ≡ false → IsTried x (suc n) false x
held_event x n e rest is no_ = record { came_is = sym (ap (may_do_first x.state x.lines n) is ∙ no_); new_is = refl }

came_event : (x y : Left) (n : ℕ) (e : Event) (rest : List Event) → log_of x n ≡ e ∷ rest → may_do x.state x.lines n e ≡ true
    → y ≡ record x { state = effect x.state e; logs = set x.logs n rest } → IsTried x (suc n) true y
came_event x y n e rest is may y_is =
    record { came_is = sym (ap (may_do_first x.state x.lines n) is ∙ may); new_is = y_is ∙ sym (ap (do_first x n) is) }

abbrev pub left_at : State → List HistoryLine → List (List Event) → Left
left_at s lines logs = record { state = s; lines = lines; logs = logs }

-- the next event of a log
next_in_log : (w : Way) (h : List HistoryLine) (logs : List NodeLog) (n : ℕ) (e : Event) → IsPlaced w h logs
    → slice_get (get_or (events_of logs) n []) (get_or w.places.items n 0) ≡ Some e
    → log_of (left_behind w h logs) n ≡ e ∷ drop (get_or w.places.items n 0 + 1) (get_or (events_of logs) n [])
next_in_log w h logs n e p at = log_left w.places.items logs n p.places ∙ front_at (get_or (events_of logs) n []) (get_or w.places.items n 0) e at

pub log_ended : (w : Way) (h : List HistoryLine) (logs : List NodeLog) (n : ℕ) → IsPlaced w h logs
    → slice_get (get_or (events_of logs) n []) (get_or w.places.items n 0) ≡ None → IsTried (left_behind w h logs) (suc n) false (left_behind w h logs)
log_ended w h logs n p none =
    stuck_event (left_behind w h logs) n (log_left w.places.items logs n p.places ∙ empty_behind (get_or (events_of logs) n []) (get_or w.places.items n 0) none)

pub not_done : (w : Way) (h : List HistoryLine) (logs : List NodeLog) (n : ℕ) (e : Event) → IsPlaced w h logs
    → slice_get (get_or (events_of logs) n []) (get_or w.places.items n 0) ≡ Some e → may_do w.core.state (drop w.line h) n e ≡ false
    → IsTried (left_behind w h logs) (suc n) false (left_behind w h logs)
not_done w h logs n e p at no_ = held_event (left_behind w h logs) n e _ (next_in_log w h logs n e p at) no_

pub done : (w : Way) (h : List HistoryLine) (logs : List NodeLog) (n : ℕ) (e : Event) (s : State) (ks : List ℕ) → IsPlaced w h logs
    → slice_get (get_or (events_of logs) n []) (get_or w.places.items n 0) ≡ Some e → may_do w.core.state (drop w.line h) n e ≡ true
    → s ≡ effect w.core.state e → ks ≡ set w.places.items n (get_or w.places.items n 0 + 1)
    → IsTried (left_behind w h logs) (suc n) true (left_at s (drop w.line h) (logs_behind ks logs))
done w h logs n e s ks p at may state_is places_are =
    let log = get_or (events_of logs) n [] in
    let k = get_or w.places.items n 0 + 1 in
    came_event (left_behind w h logs) _ n e (drop k log) (next_in_log w h logs n e p at) may
    (ap (λ t. left_at t (drop w.line h) (logs_behind ks logs)) state_is
    ∙ ap (λ js. left_at (effect w.core.state e) (drop w.line h) (logs_behind js logs)) places_are
    ∙ ap (λ ls. left_at (effect w.core.state e) (drop w.line h) ls) (sym (set_behind w.places.items logs n k p.places)))

-- ---- the end

ended_if : (ks : List ℕ) (logs : List NodeLog) → length ks ≡ length logs → ((n : ℕ) → n < length logs → is_at_end ks logs n ≡ true)
    → amount (logs_behind ks logs) ≡ 0
ended_if [] [] e h = refl
ended_if [] (l ∷ logs) e h = absurd (omega (arith, e))
ended_if (k ∷ ks) [] e h = absurd (omega (arith, e))
ended_if (k ∷ ks) (l ∷ logs) e h =
    let here : length l.events ≤ k = leb-true (length l.events) k (h 0 (omega arith)) in
    let more_ : amount (logs_behind ks logs) ≡ 0 = ended_if ks logs (omega (arith, e)) (λ n low. h (suc n) (omega (arith, low))) in
    omega (arith, length-drop k l.events, here, more_)

ended_then : (ks : List ℕ) (logs : List NodeLog) → length ks ≡ length logs → amount (logs_behind ks logs) ≡ 0 → (n : ℕ) → n < length logs
    → is_at_end ks logs n ≡ true
ended_then ks [] e none n low = absurd (omega (arith, low))
ended_then [] (l ∷ logs) e none n low = absurd (omega (arith, e))
ended_then (k ∷ ks) (l ∷ logs) e none zero low =
    let long : length (drop k l.events) + amount (logs_behind ks logs) ≡ 0 = none in le-leb (length l.events) k (omega (arith, length-drop k l.events, long))
ended_then (k ∷ ks) (l ∷ logs) e none (suc n) low =
    let long : length (drop k l.events) + amount (logs_behind ks logs) ≡ 0 = none in
    ended_then ks logs (omega (arith, e)) (omega (arith, long)) n (omega (arith, low))

pub nothing_is_left : (w : Way) (h : List HistoryLine) (logs : List NodeLog) (b : Bool) → IsPlaced w h logs → length h ≤ w.line
    → b ≡ list_all (is_at_end w.places.items logs) (range_with_len 0 (length logs)) → (b ≡ true) ↔ (left (left_behind w h logs) ≡ 0)
nothing_is_left w h logs b p le is = (
  λ t. let none = ended_if w.places.items logs p.places (λ n low. all_in_range (is_at_end w.places.items logs) 0 (length logs) n (sym is ∙ t) (omega arith) (omega (arith, low))) in
      omega (arith, length-drop w.line h, none),
  λ none. is ∙ range_all (is_at_end w.places.items logs) 0 (length logs) (λ n from low. ended_then w.places.items logs p.places (omega (arith, none)) n (omega (arith, low))),
)

-- ---- what a line and an event wait for

pub close_is_ready : (w : Way) (h : List HistoryLine) (l : HistoryLine) (p place : ℕ) (met : Bool) → IsWellFormed w.core.state
    → slice_get h w.line ≡ Some l → l ≡ to.Close p → IsAhead w.ahead h w.line → (p < MAX_PORTS → place ≡ get_or w.ahead.next.items p 0)
    → met ≡ is_met w.core.state p (slice_get h place) → is_allowed w.core.state l ≡ true → met ≡ is_ready w.core.state (drop (w.line + 1) h) l
close_is_ready w h l p place met formed at is a next met_is allowed =
    let s = w.core.state in
    let here : is_allowed s (to.Close p) ≡ true = subst (λ x. is_allowed s x ≡ true) is allowed in
    let low = port_is_known s p formed (legal s (Close p) (None-from_is_none (denial s (Close p)) here)).live in
    let at_close : slice_get h w.line ≡ Some (to.Close p) = at ∙ ap Some is in
    met_is ∙ ap (is_met s p) (told_at w.ahead h w.line p place a low next ∙ told_on p w.line (to.Close p) h at_close refl)
    ∙ ap (is_ready s (drop (w.line + 1) h)) (sym is)

pub begin_waits : (w : Way) (h : List HistoryLine) (e : Event) (p k v place : ℕ) (called beyond : Bool) → IsWellFormed w.core.state
    → denial w.core.state e ≡ None → e ≡ Begin p k v → IsAhead w.ahead h w.line → (p < MAX_PORTS → place ≡ get_or w.ahead.next.items p 0)
    → called ≡ is_called_at w.core.state.config p → called ≡ false → beyond ≡ is_beyond k (slice_get h place)
    → beyond ≡ waits w.core.state (drop w.line h) e
begin_waits w h e p k v place called beyond formed allowed is a next called_is apart beyond_is =
    let s = w.core.state in
    let low = port_is_known s p formed (legal s (Begin p k v) (subst (λ x. denial s x ≡ None) is allowed)).live in
    beyond_is ∙ ap (is_beyond k) (told_at w.ahead h w.line p place a low next)
    ∙ sym (ap (λ b. b || is_beyond k (told p (drop w.line h))) (sym called_is ∙ apart)) ∙ ap (waits s (drop w.line h)) (sym is)

pub call_waits : (w : Way) (h : List HistoryLine) (e : Event) (p k v place : ℕ) (beyond : Bool) → IsWellFormed w.core.state
    → denial w.core.state e ≡ None → e ≡ Call p k v → IsAhead w.ahead h w.line → (p < MAX_PORTS → place ≡ get_or w.ahead.next.items p 0)
    → beyond ≡ is_beyond k (slice_get h place) → beyond ≡ waits w.core.state (drop w.line h) e
call_waits w h e p k v place beyond formed allowed is a next beyond_is =
    let s = w.core.state in
    let low = port_is_known s p formed (legal s (Call p k v) (subst (λ x. denial s x ≡ None) is allowed)).live in
    beyond_is ∙ ap (is_beyond k) (told_at w.ahead h w.line p place a low next) ∙ ap (waits s (drop w.line h)) (sym is)
