-- The events of a transaction stand in the logs of the two nodes that it engages.
use Rattle.std.proofs.Common.{◌≡◌, ℕ, ◌+◌, ◌≤◌, Bool, true, false, cond, not, ◌&&◌, ◌||◌, List, [], ◌∷◌, ◌++◌, append_assoc, Some, refl, sym, ap, ◌∙◌, subst, ⊎_elim, arith}
use Rattle.std.specs.Prelude.{◌==◌, option_map}
use Rattle.std.specs.List.{count_by, list_any}
use Rattle.std.specs.Option.{option_map_or}
use Rattle.std.proofs.lemmas.Bool.{and_from, and_parts, both_ways, eq-eqb, eqb-true, or_cases}
use Rattle.std.proofs.lemmas.List.Sums.{sum_by_push}
use Rattle.base.proofs.MapLaws.{count_by-append}
use Rattle.base.proofs.CountLaws.{one_place}
use Rattle.config_graph.specs.declared.node.Target.{Target}
use Rattle.quiesce_core.specs.Legal.{Legal}
use Rattle.quiesce_word.specs.Phases.{is_idle}
use Rattle.quiesce_core.specs.Runs.{Begun, IsRun, doer, done_by, initiator, is_begin_of, is_doer, is_end_of, is_open_after, state_after, target_at_begin}
use Rattle.quiesce_core.specs.State.{State, exchange, owner, target}
use Rattle.quiesce_core.specs.Traffic.{IsConsistent}
use Rattle.quiesce_core.specs.declared.event.Event.{Event}
use Rattle.quiesce_core.specs.declared.event.Event.TheVariants.{Begin, Call, Take, Give, End, More, Ask, Hear}
use Rattle.quiesce_core.proofs.InductionLaws.{always, place}
use Rattle.quiesce_core.proofs.RunLaws.{done_by_more}
use Rattle.quiesce_core.proofs.StateLaws.{taken_busy}
use Rattle.quiesce_word.proofs.PhaseLaws.{asked_busy, more_busy, answered_busy}
use Rattle.quiesce_laws.specs.Events.{is_of_initiator, is_of_target}
use Rattle.quiesce_laws.proofs.Engaged.{by_initiator, by_target}
use Rattle.quiesce_laws.proofs.OneRootLaws.{found}
use Rattle.quiesce_laws.proofs.OpenLaws.{IsOpen}
use Rattle.quiesce_laws.proofs.OrderLaws.{in_order, open_is_seen}

-- each event that passes is done by one node
record AllBy (t : Event → Bool) (m : ℕ) (es : List Event) : Type 0 where
  by : (before after : List Event) (e : Event) → es ≡ before ++ e ∷ after → t e ≡ true → doer (state_after before) e ≡ Some m

front_by : (t : Event → Bool) (m : ℕ) (xs : List Event) (e : Event) → AllBy t m (xs ++ e ∷ []) → AllBy t m xs
front_by t m xs e all = record { by = λ before after d is on. all.by before (after ++ e ∷ []) d (ap (λ ys. ys ++ e ∷ []) is ∙ append_assoc before (d ∷ after) (e ∷ [])) on }

one_more : (t : Event → Bool) (e : Event) (d : Bool) → count_by t (cond d (e ∷ []) []) ≡ cond d (cond (t e) 1 0) 0
one_more t e true = omega (arith, sum_by_push (λ x. cond (t x) 1 0) [] e)
one_more t e false = refl

added : (d on same : Bool) (a b : ℕ) → a ≡ cond same b 0 → (on ≡ true → d ≡ same) → a + cond d (cond on 1 0) 0 ≡ cond same (b + cond on 1 0) 0
added d true true a b h does = rw (does refl) (omega (arith, h))
added d true false a b h does = rw (does refl) (omega (arith, h))
added true false true a b h does = omega (arith, h)
added true false false a b h does = omega (arith, h)
added false false true a b h does = omega (arith, h)
added false false false a b h does = omega (arith, h)

-- so all of them stand in its log, and none in another
log_count : (t : Event → Bool) (m n : ℕ) (es : List Event) → IsRun es → AllBy t m es → count_by t (done_by n es) ≡ cond (m == n) (count_by t es) 0
log_count t m n es run = always (λ xs. AllBy t m xs → count_by t (done_by n xs) ≡ cond (m == n) (count_by t xs) 0)
    (λ xs e here so_far all.
    let d = is_doer (state_after xs) n e in
    ap (λ ys. count_by t ys) (done_by_more n xs e) ∙ count_by-append t (done_by n xs) (cond d (e ∷ []) []) ∙ ap (λ k. count_by t (done_by n xs) + k) (one_more t e d)
    ∙ added d (t e) (m == n) (count_by t (done_by n xs)) (count_by t xs) (so_far (front_by t m xs e all))
    (λ on. ap (λ o. option_map_or (λ j. j == n) o false) (all.by xs [] e refl on))
    ∙ ap (λ k. cond (m == n) k 0) (sym (sum_by_push (λ x. cond (t x) 1 0) xs e)))
    (λ all. nothing (m == n)) es run
  where
    nothing : (b : Bool) → ◌≡◌ {A = ℕ} 0 (cond b 0 0)
    nothing true = refl
    nothing false = refl

-- an event that names an open transaction

opened : (s : State) (p k q j : ℕ) → (q == p && j == k) ≡ true → is_idle (exchange s q).phase ≡ false → (j == (exchange s q).serial) ≡ true → IsOpen (exchange s p) k
opened s p k q j named busy serial =
    let both = and_parts (q == p) (j == k) named in
    subst (λ i. IsOpen (exchange s i) k) (eqb-true q p both.0) (record { busy = busy; serial = sym (eqb-true j (exchange s q).serial serial) ∙ eqb-true j k both.1 })

-- a message that is the last one has its serial
pub last_named : (s : State) (q j v : ℕ) → (j == (exchange s q).serial && v == (exchange s q).value) ≡ true → (j == (exchange s q).serial) ≡ true
last_named s q j v h = (and_parts (j == (exchange s q).serial) (v == (exchange s q).value) h).0

of_initiator_open : (s : State) (e : Event) (p k : ℕ) → Legal s e → is_of_initiator p k e ≡ true → IsOpen (exchange s p) k
of_initiator_open s (Ask q j v) p k l h = opened s p k q j h (more_busy (exchange s q).phase l.in_more) l.serial
of_initiator_open s (End q j v) p k l h = opened s p k q j h (answered_busy (exchange s q).phase l.answered) (last_named s q j v l.message)
of_initiator_open s _ p k l h = absurd (both_ways false refl h)

of_target_open : (s : State) (e : Event) (p k : ℕ) → IsConsistent s → Legal s e → is_of_target p k e ≡ true → IsOpen (exchange s p) k
of_target_open s (Take q j v) p k c l h = opened s p k q j h (asked_busy (exchange s q).phase l.asked) (last_named s q j v l.message)
of_target_open s (Hear q j v) p k c l h = opened s p k q j h (asked_busy (exchange s q).phase l.asked) (last_named s q j v l.message)
of_target_open s (Give q j v) p k c l h = opened s p k q j h (taken_busy s q c l.taken) l.serial
of_target_open s (More q j v) p k c l h = opened s p k q j h (taken_busy s q c l.taken) l.serial
of_target_open s _ p k c l h = absurd (both_ways false refl h)

begin_does : (s : State) (e : Event) (p k : ℕ) → is_begin_of p k e ≡ true → doer s e ≡ Some (owner s.config p)
begin_does s (Begin q j v) p k h = ap (λ i. Some (owner s.config i)) (eqb-true q p (and_parts (q == p) (j == k) h).0)
begin_does s (Call q j v) p k h = ap (λ i. Some (owner s.config i)) (eqb-true q p (and_parts (q == p) (j == k) h).0)
begin_does s _ p k h = absurd (both_ways false refl h)

module _ (es : List Event) (p k : ℕ) (b : Begun es p k) (run : IsRun es) where
  -- the transaction is begun at one place
  begun_there : (front behind : List Event) (e : Event) → es ≡ front ++ e ∷ behind → is_begin_of p k e ≡ true → b.before ≡ front
  begun_there front behind e is begins =
      (one_place (is_begin_of p k) b.before b.after front behind b.event e (subst (λ xs. count_by (is_begin_of p k) xs ≤ 1) b.parts (in_order es p k run).begun) (sym b.parts ∙ is) b.begins begins).0

  -- where an event of it stands it is open, and was begun there
  record OpenThere (before : List Event) : Type 0 where
    begun : Begun before p k
    still : is_open_after before p k ≡ true
    same : begun.before ≡ b.before

  open_there : (before after : List Event) (e : Event) → es ≡ before ++ e ∷ after → IsRun before → IsOpen (exchange (state_after before) p) k → OpenThere before
  open_there before after e is front h =
      let x = exchange (state_after before) p in
      let still : is_open_after before p k ≡ true = open_is_seen before p k front ∙ and_from (not (is_idle x.phase)) (x.serial == k) (ap (λ c. not c) h.busy) (eq-eqb x.serial k h.serial) in
      let f = found (is_begin_of p k) before (and_parts (list_any (is_begin_of p k) before) (not (list_any (is_end_of p k) before)) still).0 in
      record {
        begun = record { before = f.before; event = f.it; after = f.after; parts = f.parts; begins = f.passes };
        still = still;
        same = sym (begun_there f.before (f.after ++ e ∷ after) f.it (is ∙ ap (λ xs. xs ++ e ∷ after) f.parts ∙ append_assoc f.before (f.it ∷ f.after) (e ∷ after)) f.passes);
      }

  all_of_initiator : (t : Event → Bool) → ((e : Event) → t e ≡ true → (is_begin_of p k e || is_of_initiator p k e) ≡ true) → AllBy t (initiator es p k b) es
  all_of_initiator t names = record {
    by = λ before after e is on.
        let here = place before after e (subst (λ xs. IsRun xs) is run) in
        ⊎_elim
        (λ (begins : is_begin_of p k e ≡ true).
        begin_does (state_after before) e p k begins ∙ ap (λ xs. Some (owner (state_after xs).config p)) (sym (begun_there before after e is begins)))
        (λ (further : is_of_initiator p k e ≡ true).
        let o = open_there before after e is here.run (of_initiator_open (state_after before) e p k here.legal further) in
        by_initiator before p k o.begun here.run o.still e further ∙ ap (λ xs. Some (owner (state_after xs).config p)) o.same)
        (or_cases (is_begin_of p k e) (is_of_initiator p k e) (names e on));
  }

  all_of_target : (t : Event → Bool) (m : ℕ) → target_at_begin es p k b ≡ Some m → ((e : Event) → t e ≡ true → is_of_target p k e ≡ true) → AllBy t m es
  all_of_target t m leads names = record {
    by = λ before after e is on.
        let here = place before after e (subst (λ xs. IsRun xs) is run) in
        let o = open_there before after e is here.run (of_target_open (state_after before) e p k here.traffic here.legal (names e on)) in
        by_target before p k o.begun here.run o.still e (names e on) ∙ ap (λ xs. option_map (λ (t : Target). t.node) (target (state_after xs).config p)) o.same ∙ leads;
  }

  pub of_the_initiator : (n : ℕ) (t : Event → Bool) → ((e : Event) → t e ≡ true → (is_begin_of p k e || is_of_initiator p k e) ≡ true)
      → count_by t (done_by n es) ≡ cond (initiator es p k b == n) (count_by t es) 0
  of_the_initiator n t names = log_count t (initiator es p k b) n es run (all_of_initiator t names)

  pub of_the_target : (m n : ℕ) (t : Event → Bool) → target_at_begin es p k b ≡ Some m → ((e : Event) → t e ≡ true → is_of_target p k e ≡ true)
      → count_by t (done_by n es) ≡ cond (m == n) (count_by t es) 0
  of_the_target m n t leads names = log_count t m n es run (all_of_target t m leads names)
