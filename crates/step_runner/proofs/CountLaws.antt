-- How many transactions looks at all ports show as ended: so many as ended.
use Rattle.std.proofs.Common.{◌≡◌, ◌∙◌, ℕ, ◌+◌, ◌-◌, Bool, true, false, cond, List, [], ◌∷◌, length, refl, sym, ap, arith, ⊎_elim}
use Rattle.std.specs.Prelude.{sum_by}
use Rattle.std.specs.List.{count_by, range_with_len}
use Rattle.std.proofs.lemmas.Bool.{cases_Bool}
use Rattle.std.proofs.lemmas.List.Sums.{sum_by-cons}
use Rattle.base.proofs.SumLaws.{sum_plus, sum_same}
use Rattle.txn_records.specs.Looks.{ended_in_word}
use Rattle.change_board.specs.Scans.{Found, all_ports, ended_in, ports_of}
use Rattle.quiesce_word.specs.Phases.{is_idle}
use Rattle.quiesce_word.specs.declared.word.Word.{Word}
use Rattle.quiesce_core.specs.Doers.{is_end_at}
use Rattle.quiesce_core.specs.Runs.{IsRun, state_after}
use Rattle.quiesce_core.specs.State.{Configuration, State, exchange}
use Rattle.quiesce_core.specs.Words.{word_of}
use Rattle.quiesce_core.specs.declared.event.Event.{Event}
use Rattle.quiesce_core.specs.declared.event.Event.TheVariants.{Begin, Call, Take, Give, End, More, Ask, Hear, Miss, Close, Reopen, Make, Link, Unlink, Remove}
use Rattle.quiesce_core.specs.declared.state.Exchange.{Exchange}
use Rattle.quiesce_laws.proofs.SerialLaws.{busy_serial, tallied}
use Rattle.quiesce_laws.proofs.TotalLaws.{ends_make_all_serials, is_busy_at, open_ports}
use Rattle.quiesce_laws.specs.Events as law
use Rattle.step_board.specs.RunFacts.{machine_is, reached_runs}
use Rattle.node_turn_laws.specs.Reached.{IsReached}
use Rattle.node_turn_laws.specs.Round.{ended}
use Rattle.quiesce_laws.specs.Events.{ends_transaction}
use Rattle.node_turn_laws.specs.World.{World}
use Rattle.step_runner.proofs.WaitLaws.{AreTrue, fields_seen}

-- how many have ended at a port
abbrev ended_at : State → ℕ → ℕ
ended_at s p = cond (is_idle (exchange s p).phase) (exchange s p).serial ((exchange s p).serial - 1)

module _ (es : List Event) (p : ℕ) (run : IsRun es) where
  abbrev at_end : Exchange
  at_end = exchange (state_after es) p

  abbrev both_if : Bool → ℕ
  both_if b = cond b at_end.serial (at_end.serial - 1) + cond b 0 1

  ended_and_busy : ended_at (state_after es) p + is_busy_at (state_after es) p ≡ at_end.serial
  ended_and_busy = ⊎_elim
      (λ (idle : is_idle at_end.phase ≡ true). ap both_if idle ∙ omega arith)
      (λ (busy : is_idle at_end.phase ≡ false).
      let some = busy_serial (count_by (is_end_at p) es) at_end (tallied es p run) busy in
      ap both_if busy ∙ omega (arith, some))
      (cases_Bool (is_idle at_end.phase))

ended_of_run : (es : List Event) → IsRun es → sum_by (ended_at (state_after es)) (range_with_len 0 (length (state_after es).config.gates)) ≡ count_by law.ends_transaction es
ended_of_run es run =
    let s = state_after es in
    let n = length s.config.gates in
    omega (
      arith,
      ends_make_all_serials es run,
      open_ports s 0 n,
      sum_plus (ended_at s) (is_busy_at s) 0 n,
      sum_same (λ p. ended_at s p + is_busy_at s p) (λ p. (exchange s p).serial) n (λ p. ended_and_busy es p run),
    )

-- an end is one, by either word
same_end : (e : Event) → law.ends_transaction e ≡ ends_transaction e
same_end (End p k v) = refl
same_end (Begin p k v) = refl
same_end (Call p k v) = refl
same_end (Take p k v) = refl
same_end (Give p k v) = refl
same_end (More p k v) = refl
same_end (Ask p k v) = refl
same_end (Hear p k v) = refl
same_end (Miss p) = refl
same_end (Close p) = refl
same_end (Reopen p) = refl
same_end (Make n node from) = refl
same_end (Link p n x) = refl
same_end (Unlink p) = refl
same_end (Remove n) = refl

abbrev one_if : Bool → ℕ
one_if b = cond b 1 0

same_ends : (es : List Event) → count_by law.ends_transaction es ≡ count_by ends_transaction es
same_ends [] = refl
same_ends (e ∷ es) =
    sum_by-cons (λ x. one_if (law.ends_transaction x)) e es ∙ ap (λ n. n + count_by law.ends_transaction es) (ap one_if (same_end e))
    ∙ ap (λ n. one_if (ends_transaction e) + n) (same_ends es) ∙ sym (sum_by-cons (λ x. one_if (ends_transaction x)) e es)

module _ (w : World) (r : IsReached w) where
  word_ended : (f : Found) → f.word ≡ word_of w.machine f.port → ended_in_word f.word ≡ ended_at w.machine f.port
  word_ended f so = ap (λ (x : Word). cond (is_idle x.phase) x.serial (x.serial - 1)) (fields_seen w r f so)

  looks_ended : (fs : List Found) → AreTrue w fs → ended_in fs ≡ sum_by (ended_at w.machine) (ports_of fs)
  looks_ended [] h = refl
  looks_ended (f ∷ fs) h =
      sum_by-cons (λ (x : Found). ended_in_word x.word) f fs ∙ ap (λ n. n + ended_in fs) (word_ended f h.0) ∙ ap (λ n. ended_at w.machine f.port + n) (looks_ended fs h.1)
      ∙ sym (sum_by-cons (ended_at w.machine) f.port (ports_of fs))

  pub all_ended : (fs : List Found) (c : Configuration) → AreTrue w fs → ports_of fs ≡ all_ports c → c ≡ w.machine.config → ended_in fs ≡ ended w
  all_ended fs c h at same =
      looks_ended fs h ∙ ap (sum_by (ended_at w.machine)) (at ∙ ap all_ports same)
      ∙ ap (λ (s : State). sum_by (ended_at s) (range_with_len 0 (length s.config.gates))) (machine_is w r)
      ∙ ended_of_run w.events (reached_runs w r) ∙ same_ends w.events
