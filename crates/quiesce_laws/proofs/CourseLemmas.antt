-- The events of a transaction come in the order of its course.
use Rattle.std.proofs.Common.{◌≡◌, ℕ, ◌+◌, ◌<◌, ◌≤◌, Bool, true, false, cond, ◌&&◌, ◌||◌, List, Option, Some, None, refl, sym, ap, ◌∙◌, subst, ⊎_elim, arith}
use Rattle.std.specs.Prelude.{◌==◌, nat_lt, option_map, option_and_then}
use Rattle.std.specs.List.{count_by}
use Rattle.std.specs.Option.{option_map_or}
use Rattle.std.proofs.lemmas.Bool.{and_parts, cases_eq, cases_lt, eqb-true, eq-eqb, ne_eqb, lt-ltb, le-ltb, not-true, or_right, or_left}
use Rattle.std.proofs.lemmas.List.Sums.{fold_push}
use Rattle.config_graph.specs.declared.node.Target.{Target}
use Rattle.quiesce_core.specs.declared.event.Event.{Event}
use Rattle.quiesce_core.specs.declared.event.Event.TheVariants.{Begin, Call, Take, Give, End, More, Ask, Hear}
use Rattle.quiesce_core.specs.declared.state.Exchange.{Exchange}
use Rattle.quiesce_core.specs.declared.state.Service.{Service}
use Rattle.quiesce_word.specs.declared.phase.Phase.{Phase}
use Rattle.quiesce_word.specs.declared.phase.Phase.TheVariants as phase
use Rattle.quiesce_core.specs.State.{State, owner, target, exchange, service, target_service}
use Rattle.quiesce_word.specs.Phases.{is_idle}
use Rattle.quiesce_core.specs.Effect.{effect}
use Rattle.quiesce_core.specs.Legal.{Legal}
use Rattle.quiesce_core.specs.Rules.{is_taken}
use Rattle.quiesce_core.specs.Runs.{IsRun, state_after}
use Rattle.quiesce_core.specs.Traffic.{IsConsistent}
use Rattle.quiesce_core.specs.WellFormed.{IsWellFormed}
use Rattle.quiesce_core.specs.Doers.{is_end_at}
use Rattle.quiesce_laws.specs.Courses.{TransactionStage, on_begin, on_take, on_more, on_ask, on_hear, on_give, on_end, course_next, course_after, heard_at, course_in, course_of, course_at}
use Rattle.quiesce_laws.specs.Courses as course
use Rattle.quiesce_core.proofs.StabilityLaws.{busy_ports_stay}
use Rattle.quiesce_core.proofs.InductionLaws.{always}
use Rattle.quiesce_core.proofs.PortEventLaws.{next_serial}
use Rattle.quiesce_word.proofs.PhaseLaws.{more_is, answered_is, asked_is, idle_is, asked_busy, more_busy, answered_busy}
use Rattle.quiesce_laws.proofs.SerialLaws.{IsTallied, tallied_next, tallied_empty, busy_serial}
use Rattle.quiesce_laws.proofs.Hearing.{is_of_server, heard_kept, heard_now, untaken, idle_unheard, taken_hears, taken_heard, heard_asked, more_unheard}
use Rattle.quiesce_core.proofs.StateLaws.{taken_is, taken_busy}
use Rattle.base.proofs.OptionLaws.{Some-from_is_some}
use Rattle.quiesce_core.specs.Alters.{exchange_by, is_message_at}
use Rattle.quiesce_core.proofs.AlterLaws.{exchanges_next}
use Rattle.base.proofs.NumberLaws.{same_number}

-- what is said of one serial

pub course_behind : (n : ℕ) (c : TransactionStage) (k : ℕ) → n < k → course_of n c k ≡ course.unbegun
course_behind n c k h = ap (λ b. cond b course.unbegun (cond (nat_lt k n) course.ended c)) (or_right (k == 0) (nat_lt n k) (lt-ltb n k h))

pub course_zero : (n : ℕ) (c : TransactionStage) (k : ℕ) → k ≡ 0 → course_of n c k ≡ course.unbegun
course_zero n c k h = ap (λ b. cond b course.unbegun (cond (nat_lt k n) course.ended c)) (or_left (k == 0) (nat_lt n k) (eq-eqb k 0 h))

named_serial : (n k : ℕ) → 1 ≤ k → k ≤ n → (k == 0 || nat_lt n k) ≡ false
named_serial n k one within = ap (λ b. b || nat_lt n k) (ne_eqb k 0 (λ e. omega arith)) ∙ le-ltb n k within

pub course_before : (n : ℕ) (c : TransactionStage) (k : ℕ) → 1 ≤ k → k < n → course_of n c k ≡ course.ended
course_before n c k one h =
    ap (λ b. cond b course.unbegun (cond (nat_lt k n) course.ended c)) (named_serial n k one (omega arith)) ∙ ap (λ b. cond b course.ended c) (lt-ltb k n h)

pub course_here : (n : ℕ) (c : TransactionStage) (k : ℕ) → 1 ≤ n → n ≡ k → course_of n c k ≡ c
course_here n c k one same =
    ap (λ b. cond b course.unbegun (cond (nat_lt k n) course.ended c)) (named_serial n k (omega arith) (omega arith)) ∙ ap (λ b. cond b course.ended c) (le-ltb k n (omega arith))

-- the last course matters for the last serial alone
course_apart : (n : ℕ) (c d : TransactionStage) (k : ℕ) → (n ≡ k → ⊥) → course_of n c k ≡ course_of n d k
course_apart n c d k other = ⊎_elim
    (λ (h : n < k). course_behind n c k h ∙ sym (course_behind n d k h))
    (λ (h : k ≤ n).
    let less : k < n = omega (arith, other) in
    ap (λ b. cond (k == 0 || nat_lt n k) course.unbegun (cond b course.ended c)) (lt-ltb k n less)
    ∙ sym (ap (λ b. cond (k == 0 || nat_lt n k) course.unbegun (cond b course.ended d)) (lt-ltb k n less)))
    (cases_lt n k)

-- an event of the last transaction of a port leads it on
leads_on : (f : TransactionStage → Option TransactionStage) (n k : ℕ) (b : Bool) (c d : TransactionStage) → 1 ≤ n → f c ≡ Some d → b ≡ (n == k) → cond b (f (course_of n c k)) (Some (course_of n c k)) ≡ Some (course_of n d k)
leads_on f n k b c d one e is_b = ⊎_elim
    (λ (same : n ≡ k).
    ap (λ x. cond x (f (course_of n c k)) (Some (course_of n c k))) (is_b ∙ eq-eqb n k same) ∙ ap f (course_here n c k one same) ∙ e ∙ ap Some (sym (course_here n d k one same)))
    (λ (other : n ≡ k → ⊥).
    ap (λ x. cond x (f (course_of n c k)) (Some (course_of n c k))) (is_b ∙ ne_eqb n k other) ∙ ap Some (course_apart n c d k other))
    (cases_eq n k)

-- a new one is begun
begins_new : (n j k : ℕ) (b : Bool) → j ≡ n + 1 → b ≡ (j == k) → cond b (on_begin (course_of n course.ended k)) (Some (course_of n course.ended k)) ≡ Some (course_of j course.waiting k)
begins_new n j k b next is_b = ⊎_elim
    (λ (same : j ≡ k).
    ap (λ x. cond x (on_begin (course_of n course.ended k)) (Some (course_of n course.ended k))) (is_b ∙ eq-eqb j k same)
    ∙ ap on_begin (course_behind n course.ended k (omega arith)) ∙ ap Some (sym (course_here j course.waiting k (omega arith) same)))
    (λ (other : j ≡ k → ⊥).
    ap (λ x. cond x (on_begin (course_of n course.ended k)) (Some (course_of n course.ended k))) (is_b ∙ ne_eqb j k other) ∙ ap Some (unmoved other))
    (cases_eq j k)
  where
    unmoved : (j ≡ k → ⊥) → course_of n course.ended k ≡ course_of j course.waiting k
    unmoved other = ⊎_elim
        (λ (h : n < k). course_behind n course.ended k h ∙ sym (course_behind j course.waiting k (omega (arith, other))))
        (λ (h : k ≤ n). ⊎_elim
        (λ (zero_ : k ≡ 0). course_zero n course.ended k zero_ ∙ sym (course_zero j course.waiting k zero_))
        (λ (above : k ≡ 0 → ⊥). ended_within (omega (arith, above)) h ∙ sym (course_before j course.waiting k (omega (arith, above)) (omega arith)))
        (cases_eq k 0))
        (cases_lt n k)
      where
        ended_within : 1 ≤ k → k ≤ n → course_of n course.ended k ≡ course.ended
        ended_within one h = ⊎_elim
            (λ (less : k < n). course_before n course.ended k one less)
            (λ (ge : n ≤ k). course_here n course.ended k (omega arith) (omega arith))
            (cases_lt k n)

-- what an event leads a course to
abbrev StepsTo : State → Event → ℕ → ℕ → Type 0
StepsTo s e p k = course_next p k (course_at s p k) e ≡ Some (course_at (effect s e) p k)

course_in_same : (f : Phase) (g h : Option Bool) → (is_idle f ≡ false → g ≡ h) → course_in f g ≡ course_in f h
course_in_same phase.Idle g h e = refl
course_in_same phase.Asked g h e = ap (λ x. course_in phase.Asked x) (e refl)
course_in_same phase.Answered g h e = refl
course_in_same phase.More g h e = refl

-- nothing changes at the port
course_same : (s s' : State) (p k : ℕ) → exchange s' p ≡ exchange s p → (is_idle (exchange s p).phase ≡ false → heard_at s' p ≡ heard_at s p) → course_at s' p k ≡ course_at s p k
course_same s s' p k x h =
    ap (λ (y : Exchange). course_of y.serial (course_in y.phase (heard_at s' p)) k) x
    ∙ ap (λ c. course_of (exchange s p).serial c k) (course_in_same (exchange s p).phase (heard_at s' p) (heard_at s p) h)

its_own : (q j k n : ℕ) → j ≡ n → (q == q && j == k) ≡ (n == k)
its_own q j k n same = ap (λ b. b && j == k) (eq-eqb q q refl) ∙ ap (λ i. i == k) same

-- an event of the port's last transaction
of_its_own : (f : TransactionStage → Option TransactionStage) (s s' : State) (q j k : ℕ) (c d : TransactionStage) → 1 ≤ (exchange s q).serial → j ≡ (exchange s q).serial → (exchange s' q).serial ≡ (exchange s q).serial
    → course_in (exchange s q).phase (heard_at s q) ≡ c → course_in (exchange s' q).phase (heard_at s' q) ≡ d → f c ≡ Some d
    → cond (q == q && j == k) (f (course_at s q k)) (Some (course_at s q k)) ≡ Some (course_at s' q k)
of_its_own f s s' q j k c d one serial kept was is e =
    let n = (exchange s q).serial in
    ap (λ x. cond (q == q && j == k) (f (course_of n x k)) (Some (course_of n x k))) was
    ∙ leads_on f n k (q == q && j == k) c d one e (its_own q j k n serial)
    ∙ ap (λ x. Some (course_of n x k)) (sym is) ∙ ap (λ i. Some (course_of i (course_in (exchange s' q).phase (heard_at s' q)) k)) (sym kept)

module _ (s : State) (w : IsWellFormed s) (t : IsConsistent s) (positive : (p : ℕ) → is_idle (exchange s p).phase ≡ false → 1 ≤ (exchange s p).serial) where
  -- the events of other ports, and those of none

  other_course : (e : Event) (p k : ℕ) (c : TransactionStage) → is_message_at p e ≡ false → is_of_server p e ≡ false → course_next p k c e ≡ Some c
  other_course (Begin q j v) p k c off none_ = ap (λ b. cond (b && j == k) (on_begin c) (Some c)) off
  other_course (Call q j v) p k c off none_ = ap (λ b. cond (b && j == k) (on_begin c) (Some c)) off
  other_course (Take q j v) p k c none_ off = ap (λ b. cond (b && j == k) (on_take c) (Some c)) off
  other_course (Give q j v) p k c off none_ = ap (λ b. cond (b && j == k) (on_give c) (Some c)) off
  other_course (End q j v) p k c off none_ = ap (λ b. cond (b && j == k) (on_end c) (Some c)) off
  other_course (More q j v) p k c off none_ = ap (λ b. cond (b && j == k) (on_more c) (Some c)) off
  other_course (Ask q j v) p k c off none_ = ap (λ b. cond (b && j == k) (on_ask c) (Some c)) off
  other_course (Hear q j v) p k c none_ off = ap (λ b. cond (b && j == k) (on_hear c) (Some c)) off
  other_course _ p k c off none_ = refl

  other_steps : (e : Event) (p k : ℕ) → Legal s e → (is_message_at p e ≡ false) × (is_of_server p e ≡ false) → StepsTo s e p k
  other_steps e p k l off =
      other_course e p k (course_at s p k) off.0 off.1
      ∙ ap Some (sym (course_same s (effect s e) p k (exchanges_next s e w l p ∙ ap (λ b. cond b (exchange_by (service s (owner s.config p)) (exchange s p) e) (exchange s p)) off.0)
      (λ busy. heard_kept s e p w t l (busy_ports_stay s e w t l p busy) off.1)))

  -- an event of one port steps both its own course and those of the others
  either : (e : Event) (q p k : ℕ) → Legal s e → ((q == p) ≡ false → (is_message_at p e ≡ false) × (is_of_server p e ≡ false)) → StepsTo s e q k → StepsTo s e p k
  either e q p k l there here = ⊎_elim
      (λ (same : q ≡ p). subst (λ i. StepsTo s e i k) same here)
      (λ (other : q ≡ p → ⊥). other_steps e p k l (there (ne_eqb q p other)))
      (cases_eq q p)

  -- what is written at the port of an event
  written : (e : Event) (q : ℕ) → Legal s e → is_message_at q e ≡ true → exchange (effect s e) q ≡ exchange_by (service s (owner s.config q)) (exchange s q) e
  written e q l it = exchanges_next s e w l q ∙ ap (λ b. cond b (exchange_by (service s (owner s.config q)) (exchange s q) e) (exchange s q)) it

  new_course : (s' : State) (q j v k : ℕ) (within : Option ℕ) → is_idle (exchange s q).phase ≡ true → j ≡ (exchange s q).serial + 1
      → exchange s' q ≡ record { phase = phase.Asked; serial = j; value = v; within = within } → heard_at s' q ≡ heard_at s q
      → cond (q == q && j == k) (on_begin (course_at s q k)) (Some (course_at s q k)) ≡ Some (course_at s' q k)
  new_course s' q j v k within idle next x h =
      let n = (exchange s q).serial in
      let was : course_in (exchange s q).phase (heard_at s q) ≡ course.ended = ap (λ f. course_in f (heard_at s q)) (idle_is (exchange s q).phase idle) in
      ap (λ c. cond (q == q && j == k) (on_begin (course_of n c k)) (Some (course_of n c k))) was
      ∙ begins_new n j k (q == q && j == k) next (its_own q j k j refl)
      ∙ ap (λ g. Some (course_of j (course_in phase.Asked g) k)) (sym (h ∙ idle_unheard s q t idle))
      ∙ ap (λ (y : Exchange). Some (course_of y.serial (course_in y.phase (heard_at s' q)) k)) (sym x)

  -- a port in whose service the last message was heard
  heard_course : (q : ℕ) → is_taken s q ≡ true → option_map_or (λ (w : Service). w.heard) (target_service s q) false ≡ true → course_in (exchange s q).phase (heard_at s q) ≡ course.serving
  heard_course q is_taken_ heard_ =
      let u = taken_is s q is_taken_ in
      let yes_ = sym (taken_heard s q u) ∙ heard_ in
      ap (λ f. course_in f (heard_at s q)) (heard_asked s q u t yes_) ∙ ap (λ g. course_in phase.Asked g) (taken_hears s q u ∙ ap (λ b. Some b) yes_)

  -- the serial that an event names where serial and value are the port's
  last_serial_is : (q j v : ℕ) → (j == (exchange s q).serial && v == (exchange s q).value) ≡ true → j ≡ (exchange s q).serial
  last_serial_is q j v h = eqb-true j (exchange s q).serial (and_parts (j == (exchange s q).serial) (v == (exchange s q).value) h).0

  -- the port's target does the event
  target_does : (q : ℕ) (u : Target) → target s.config q ≡ Some u → option_map_or (λ m. m == u.node) (option_map (λ (x : Target). x.node) (target s.config q)) false ≡ true
  target_does q u leads = ap (λ o. option_map_or (λ m. m == u.node) (option_map (λ (x : Target). x.node) o) false) leads ∙ same_number u.node

  pub steps_to : (e : Event) (p k : ℕ) → Legal s e → StepsTo s e p k
  steps_to (Begin q j v) p k l = either (Begin q j v) q p k l (λ off. (off, refl))
      (new_course (effect s (Begin q j v)) q j v k None l.idle (next_serial s q j l.next_serial) (written (Begin q j v) q l (same_number q)) (heard_kept s (Begin q j v) q w t l refl refl))
  steps_to (Call q j v) p k l = either (Call q j v) q p k l (λ off. (off, refl))
      (new_course (effect s (Call q j v)) q j v k (option_map (λ (u : Service). u.port) (service s (owner s.config q))) l.idle (next_serial s q j l.next_serial) (written (Call q j v) q l (same_number q))
      (heard_kept s (Call q j v) q w t l refl refl))
  steps_to (Take q j v) p k l =
      let s' = effect s (Take q j v) in
      let busy = asked_busy (exchange s q).phase l.asked in
      let to = Some-from_is_some (target s.config q) (t.linked q busy) in
      let is_asked_ = asked_is (exchange s q).phase l.asked in
      either (Take q j v) q p k l (λ off. (refl, off))
      (of_its_own on_take s s' q j k course.waiting course.serving (positive q busy) (last_serial_is q j v l.message) refl
      (ap (λ f. course_in f (heard_at s q)) is_asked_ ∙ ap (λ g. course_in phase.Asked g) (untaken s q (not-true (is_taken s q) l.untaken)))
      (ap (λ f. course_in f (heard_at s' q)) is_asked_
      ∙ ap (λ g. course_in phase.Asked g) (heard_now s (Take q j v) q to.0 (record { port = q; calls = 0; mores = 0; heard = true }) w l to.1 (target_does q to.0 to.1) refl refl))
      refl)
  steps_to (Give q j v) p k l =
      let s' = effect s (Give q j v) in
      let here = written (Give q j v) q l (same_number q) in
      either (Give q j v) q p k l (λ off. (off, off))
      (of_its_own on_give s s' q j k course.serving course.answered (positive q (taken_busy s q t l.taken)) (eqb-true j (exchange s q).serial l.serial) (ap (λ (y : Exchange). y.serial) here)
      (heard_course q l.taken l.heard) (ap (λ (y : Exchange). course_in y.phase (heard_at s' q)) here) refl)
  steps_to (More q j v) p k l =
      let s' = effect s (More q j v) in
      let here = written (More q j v) q l (same_number q) in
      either (More q j v) q p k l (λ off. (off, off))
      (of_its_own on_more s s' q j k course.serving course.replied (positive q (taken_busy s q t l.taken)) (eqb-true j (exchange s q).serial l.serial) (ap (λ (y : Exchange). y.serial) here)
      (heard_course q l.taken l.heard) (ap (λ (y : Exchange). course_in y.phase (heard_at s' q)) here) refl)
  steps_to (Ask q j v) p k l =
      let s' = effect s (Ask q j v) in
      let u = taken_is s q (t.taken q l.in_more) in
      let here = written (Ask q j v) q l (same_number q) in
      either (Ask q j v) q p k l (λ off. (off, refl))
      (of_its_own on_ask s s' q j k course.replied course.prompted (positive q (more_busy (exchange s q).phase l.in_more)) (eqb-true j (exchange s q).serial l.serial) (ap (λ (y : Exchange). y.serial) here)
      (ap (λ f. course_in f (heard_at s q)) (more_is (exchange s q).phase l.in_more))
      (ap (λ (y : Exchange). course_in y.phase (heard_at s' q)) here ∙ ap (λ g. course_in phase.Asked g) (taken_hears s q u ∙ ap (λ b. Some b) (more_unheard s q u t l.in_more)))
      refl)
  steps_to (Hear q j v) p k l =
      let s' = effect s (Hear q j v) in
      let u = taken_is s q l.taken in
      let is_asked_ = asked_is (exchange s q).phase l.asked in
      let no_ : u.serving.heard ≡ false = sym (taken_heard s q u) ∙ not-true (option_map_or (λ (x : Service). x.heard) (target_service s q) false) l.unheard in
      either (Hear q j v) q p k l (λ off. (refl, off))
      (of_its_own on_hear s s' q j k course.prompted course.serving (positive q (asked_busy (exchange s q).phase l.asked)) (last_serial_is q j v l.message) refl
      (ap (λ f. course_in f (heard_at s q)) is_asked_ ∙ ap (λ g. course_in phase.Asked g) (taken_hears s q u ∙ ap (λ b. Some b) no_))
      (ap (λ f. course_in f (heard_at s' q)) is_asked_
      ∙ ap (λ g. course_in phase.Asked g) (heard_now s (Hear q j v) q u.to (record u.serving { heard = true }) w l u.leads (target_does q u.to u.leads)
      (ap (λ o. option_map (λ (x : Service). record x { heard = true }) o) u.serviced) u.of_port))
      refl)
  steps_to (End q j v) p k l =
      let s' = effect s (End q j v) in
      let here = written (End q j v) q l (same_number q) in
      either (End q j v) q p k l (λ off. (off, refl))
      (of_its_own on_end s s' q j k course.answered course.ended (positive q (answered_busy (exchange s q).phase l.answered)) (last_serial_is q j v l.message) (ap (λ (y : Exchange). y.serial) here)
      (ap (λ f. course_in f (heard_at s q)) (answered_is (exchange s q).phase l.answered)) (ap (λ (y : Exchange). course_in y.phase (heard_at s' q)) here) refl)
  steps_to e p k l = other_steps e p k l (refl, refl)

-- what is known of a port and a serial after a run
record IsOnCourse (es : List Event) (p k : ℕ) : Type 0 where
  tallied : (q : ℕ) → IsTallied (count_by (is_end_at q) es) (exchange (state_after es) q)
  is : course_after p k es ≡ Some (course_at (state_after es) p k)

-- in every run a transaction keeps to its course, and the state tells it
pub on_course : (es : List Event) (p k : ℕ) → IsRun es → course_after p k es ≡ Some (course_at (state_after es) p k)
on_course es p k run =
    (always (λ xs. IsOnCourse xs p k)
    (λ xs e here h. record {
      tallied = λ q. tallied_next q xs e here (h.tallied q);
      is =
          fold_push (λ c x. option_and_then (λ d. course_next p k d x) c) (Some course.unbegun) xs e ∙ ap (λ c. option_and_then (λ d. course_next p k d e) c) h.is
          ∙ steps_to (state_after xs) here.well here.traffic (λ q busy. busy_serial (count_by (is_end_at q) xs) (exchange (state_after xs) q) (h.tallied q) busy) e p k here.legal
          ∙ ap (λ s. Some (course_at s p k)) (sym here.next);
    })
    (record { tallied = λ q. tallied_empty q; is = ap Some (sym (none_yet k)) }) es run).is
  where
    none_yet : (k : ℕ) → course_of 0 course.ended k ≡ course.unbegun
    none_yet k = ⊎_elim
        (λ (h : 0 < k). course_behind 0 course.ended k h)
        (λ (h : k ≤ 0). course_zero 0 course.ended k (omega arith))
        (cases_lt 0 k)
