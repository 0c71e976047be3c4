-- What the counts of a run say: the order of a transaction's events, and which are open.
use Rattle.std.proofs.Common.{◌≡◌, ℕ, ◌+◌, ◌<◌, ◌≤◌, Bool, true, false, cond, not, ◌&&◌, ◌||◌, List, [], ◌∷◌, Option, Some, None, refl, sym, ap, ◌∙◌, subst, ⊎_elim, arith}
use Rattle.std.specs.Prelude.{◌==◌, nat_lt, nat_le}
use Rattle.std.specs.List.{count_by, list_any}
use Rattle.std.proofs.Math.Bool.{and-false, and-true}
use Rattle.std.proofs.lemmas.Bool.{cases_Bool, cases_eq, cases_lt, eq-eqb, ne_eqb, lt-ltb, le-ltb, le-leb, lt-leb}
use Rattle.std.proofs.lemmas.List.Sums.{sum_by-cons}
use Rattle.quiesce_core.specs.declared.event.Event.{Event}
use Rattle.quiesce_word.specs.declared.phase.Phase.{Phase}
use Rattle.quiesce_word.specs.declared.phase.Phase.TheVariants as phase
use Rattle.quiesce_core.specs.State.{exchange}
use Rattle.quiesce_word.specs.Phases.{is_idle}
use Rattle.quiesce_core.specs.Runs.{IsRun, state_after, is_begin_of, is_end_of, is_open_after}
use Rattle.quiesce_core.specs.Doers.{is_end_at}
use Rattle.quiesce_laws.specs.Events.{is_take_of, is_give_of}
use Rattle.quiesce_laws.specs.Courses.{TransactionStage, heard_at, course_in, course_at}
use Rattle.quiesce_laws.specs.Courses as course
use Rattle.quiesce_laws.proofs.Counting.{Counts, counts_of, table, counted}
use Rattle.quiesce_laws.proofs.SerialLaws.{tallied, busy_serial}

-- what each course says of the counts
pub record IsOrdered (n : Counts) : Type 0 where
  pub begun : n.begins ≤ 1
  pub taken : n.takes ≤ n.begins
  pub given : n.gives ≤ n.takes
  pub ended : n.ends ≤ n.gives
  pub heard : n.hears ≤ n.asks
  pub asked : n.asks ≤ n.mores
  pub told : n.mores ≤ n.hears + 1
  pub all_asked : n.gives ≡ 1 → n.asks ≡ n.mores
  pub all_heard : n.gives ≡ 1 → n.hears ≡ n.mores

ordered : (c : TransactionStage) (r : ℕ) → IsOrdered (table c r)
ordered course.unbegun r = record { begun = omega arith; taken = omega arith; given = omega arith; ended = omega arith; heard = omega arith; asked = omega arith; told = omega arith; all_asked = λ h. refl; all_heard = λ h. refl }
ordered course.waiting r = record { begun = omega arith; taken = omega arith; given = omega arith; ended = omega arith; heard = omega arith; asked = omega arith; told = omega arith; all_asked = λ h. refl; all_heard = λ h. refl }
ordered course.serving r = record { begun = omega arith; taken = omega arith; given = omega arith; ended = omega arith; heard = omega arith; asked = omega arith; told = omega arith; all_asked = λ h. refl; all_heard = λ h. refl }
ordered course.replied r = record { begun = omega arith; taken = omega arith; given = omega arith; ended = omega arith; heard = omega arith; asked = omega arith; told = omega arith; all_asked = λ h. omega arith; all_heard = λ h. omega arith }
ordered course.prompted r = record { begun = omega arith; taken = omega arith; given = omega arith; ended = omega arith; heard = omega arith; asked = omega arith; told = omega arith; all_asked = λ h. omega arith; all_heard = λ h. omega arith }
ordered course.answered r = record { begun = omega arith; taken = omega arith; given = omega arith; ended = omega arith; heard = omega arith; asked = omega arith; told = omega arith; all_asked = λ h. refl; all_heard = λ h. refl }
ordered course.ended r = record { begun = omega arith; taken = omega arith; given = omega arith; ended = omega arith; heard = omega arith; asked = omega arith; told = omega arith; all_asked = λ h. refl; all_heard = λ h. refl }

-- so do the counts of a run
pub in_order : (es : List Event) (p k : ℕ) → IsRun es → IsOrdered (counts_of p k es)
in_order es p k run =
    let h = counted es p k run in
    let n = table (course_at (state_after es) p k) h.rounds in
    let same : counts_of p k es ≡ record { begins = n.begins; takes = n.takes; gives = n.gives; ends = n.ends; mores = n.mores; asks = n.asks; hears = n.hears } =
    cc (h.begins, h.takes, h.gives, h.ends, h.mores, h.asks, h.hears) in
    subst (λ x. IsOrdered x) (sym same) (ordered (course_at (state_after es) p k) h.rounds)

-- exactly those up to the port's serial were begun, and all but an open one have ended

begun_in : (f : Phase) (h : Option Bool) (r : ℕ) → (table (course_in f h) r).begins ≡ 1
begun_in phase.Idle h r = refl
begun_in phase.Asked None r = refl
begun_in phase.Asked (Some true) r = refl
begun_in phase.Asked (Some false) r = refl
begun_in phase.Answered h r = refl
begun_in phase.More h r = refl

ended_in : (f : Phase) (h : Option Bool) (r : ℕ) → (table (course_in f h) r).ends ≡ cond (is_idle f) 1 0
ended_in phase.Idle h r = refl
ended_in phase.Asked None r = refl
ended_in phase.Asked (Some true) r = refl
ended_in phase.Asked (Some false) r = refl
ended_in phase.Answered h r = refl
ended_in phase.More h r = refl

-- by the place of the serial
abbrev pub was_begun : ℕ → ℕ → Bool
was_begun n k = nat_le 1 k && nat_le k n

abbrev has_ended : ℕ → Bool → ℕ → Bool
has_ended n idle k = nat_le 1 k && (nat_lt k n || (k == n && idle))

begins_by : (behind before : Bool) (f : Phase) (h : Option Bool) (r : ℕ) → (table (cond behind course.unbegun (cond before course.ended (course_in f h))) r).begins ≡ cond behind 0 1
begins_by true before f h r = refl
begins_by false true f h r = refl
begins_by false false f h r = begun_in f h r

ends_by : (behind before : Bool) (f : Phase) (h : Option Bool) (r : ℕ) → (table (cond behind course.unbegun (cond before course.ended (course_in f h))) r).ends ≡ cond behind 0 (cond before 1 (cond (is_idle f) 1 0))
ends_by true before f h r = refl
ends_by false true f h r = refl
ends_by false false f h r = ended_in f h r

-- no serial, one behind the port's, one before it, or the port's
record Places (n k : ℕ) (P : Type 0) : Type 0 where
  zero_ : k ≡ 0 → P
  behind : 1 ≤ k → n < k → P
  before : 1 ≤ k → k < n → P
  here : 1 ≤ k → n ≡ k → P

by_place : {P : Type 0} (n k : ℕ) → Places n k P → P
by_place n k h = ⊎_elim h.zero_
    (λ (above : k ≡ 0 → ⊥). ⊎_elim (h.behind (omega (arith, above)))
    (λ (within : k ≤ n). ⊎_elim (h.before (omega (arith, above))) (λ (past : n ≤ k). h.here (omega (arith, above)) (omega arith)) (cases_lt k n))
    (cases_lt n k))
    (cases_eq k 0)

begun_flag : (n k : ℕ) → ◌≡◌ {A = ℕ} (cond (k == 0 || nat_lt n k) 0 1) (cond (was_begun n k) 1 0)
begun_flag n k = by_place n k (record {
  zero_ = λ z. rw (eq-eqb k 0 z, lt-leb 1 k (omega arith)) refl;
  behind = λ one l. rw (ne_eqb k 0 (λ z. omega arith), lt-ltb n k l, le-leb 1 k one, lt-leb k n l) refl;
  before = λ one l. rw (ne_eqb k 0 (λ z. omega arith), le-ltb n k (omega arith), le-leb 1 k one, le-leb k n (omega arith)) refl;
  here = λ one same. rw (ne_eqb k 0 (λ z. omega arith), le-ltb n k (omega arith), le-leb 1 k one, le-leb k n (omega arith)) refl;
})

ended_flag : (n k : ℕ) (idle : Bool) → ◌≡◌ {A = ℕ} (cond (k == 0 || nat_lt n k) 0 (cond (nat_lt k n) 1 (cond idle 1 0))) (cond (has_ended n idle k) 1 0)
ended_flag n k idle = by_place n k (record {
  zero_ = λ z. rw (eq-eqb k 0 z, lt-leb 1 k (omega arith)) refl;
  behind = λ one l. rw (ne_eqb k 0 (λ z. omega arith), lt-ltb n k l, le-leb 1 k one, le-ltb k n (omega arith), ne_eqb k n (λ e. omega arith)) refl;
  before = λ one l. rw (ne_eqb k 0 (λ z. omega arith), le-ltb n k (omega arith), lt-ltb k n l, le-leb 1 k one) refl;
  here = λ one same. rw (ne_eqb k 0 (λ z. omega arith), le-ltb n k (omega arith), le-ltb k n (omega arith), le-leb 1 k one, eq-eqb k n (sym same)) refl;
})

pub begun_count : (es : List Event) (p k : ℕ) → IsRun es → count_by (is_begin_of p k) es ≡ cond (was_begun (exchange (state_after es) p).serial k) 1 0
begun_count es p k run =
    let h = counted es p k run in
    let x = exchange (state_after es) p in
    h.begins ∙ begins_by (k == 0 || nat_lt x.serial k) (nat_lt k x.serial) x.phase (heard_at (state_after es) p) h.rounds ∙ begun_flag x.serial k

pub ended_count : (es : List Event) (p k : ℕ) → IsRun es → count_by (is_end_of p k) es ≡ cond (has_ended (exchange (state_after es) p).serial (is_idle (exchange (state_after es) p).phase) k) 1 0
ended_count es p k run =
    let h = counted es p k run in
    let x = exchange (state_after es) p in
    h.ends ∙ ends_by (k == 0 || nat_lt x.serial k) (nat_lt k x.serial) x.phase (heard_at (state_after es) p) h.rounds ∙ ended_flag x.serial k (is_idle x.phase)

-- some member passes exactly where one is counted
pub any_counted : (t : Event → Bool) (es : List Event) (b : Bool) → count_by t es ≡ cond b 1 0 → list_any t es ≡ b
any_counted t [] true h = absurd (omega arith)
any_counted t [] false h = refl
any_counted t (e ∷ es) b h = ⊎_elim
    (λ (yes_ : t e ≡ true).
    let one = sum_by-cons (λ x. cond (t x) 1 0) e es ∙ ap (λ x. cond x 1 0 + count_by t es) yes_ in
    ap (λ x. x || list_any t es) yes_ ∙ sym (some_ b (omega (arith, sym one ∙ h))))
    (λ (no_ : t e ≡ false).
    let rest = sum_by-cons (λ x. cond (t x) 1 0) e es ∙ ap (λ x. cond x 1 0 + count_by t es) no_ in
    ap (λ x. x || list_any t es) no_ ∙ any_counted t es b (omega (arith, sym rest ∙ h)))
    (cases_Bool (t e))
  where
    some_ : (b : Bool) → 1 ≤ cond b 1 0 → b ≡ true
    some_ true h = refl
    some_ false h = absurd (omega arith)

open_flag : (n k : ℕ) (idle : Bool) → (idle ≡ false → 1 ≤ n) → (was_begun n k && not (has_ended n idle k)) ≡ (not idle && n == k)
open_flag n k idle positive = by_place n k (record {
  zero_ = λ z. rw (lt-leb 1 k (omega arith)) (sym (unbegun z idle positive));
  behind = λ one l. rw (le-leb 1 k one, lt-leb k n l, ne_eqb n k (λ e. omega arith)) (sym (and-false (not idle)));
  before = λ one l. rw (le-leb 1 k one, le-leb k n (omega arith), lt-ltb k n l, ne_eqb n k (λ e. omega arith)) (sym (and-false (not idle)));
  here = λ one same. rw (le-leb 1 k one, le-leb k n (omega arith), le-ltb k n (omega arith), eq-eqb k n (sym same), eq-eqb n k same) (sym (and-true (not idle)));
})
  where
    unbegun : k ≡ 0 → (idle : Bool) → (idle ≡ false → 1 ≤ n) → (not idle && n == k) ≡ false
    unbegun z true h = refl
    unbegun z false h = ne_eqb n k (λ e. omega (arith, h refl, e, z))

-- a transaction is open exactly where its port isn't idle and has its serial
pub open_is_seen : (es : List Event) (p k : ℕ) → IsRun es → is_open_after es p k ≡ (not (is_idle (exchange (state_after es) p).phase) && (exchange (state_after es) p).serial == k)
open_is_seen es p k run =
    let x = exchange (state_after es) p in
    ap (λ b. b && not (list_any (is_end_of p k) es)) (any_counted (is_begin_of p k) es (was_begun x.serial k) (begun_count es p k run))
    ∙ ap (λ b. was_begun x.serial k && not b) (any_counted (is_end_of p k) es (has_ended x.serial (is_idle x.phase) k) (ended_count es p k run))
    ∙ open_flag x.serial k (is_idle x.phase) (busy_serial (count_by (is_end_at p) es) x (tallied es p run))

-- a transaction that has ended was begun, taken and answered once
pub whole_once :
    (es : List Event) (p k : ℕ) → IsRun es → count_by (is_end_of p k) es ≡ 1
    → (count_by (is_begin_of p k) es ≡ 1) × (count_by (is_take_of p k) es ≡ 1) × (count_by (is_give_of p k) es ≡ 1)
whole_once es p k run one =
    let o = in_order es p k run in
    (omega (arith, o.begun, o.taken, o.given, o.ended, one), omega (arith, o.begun, o.taken, o.given, o.ended, one), omega (arith, o.begun, o.given, o.taken, o.ended, one))
