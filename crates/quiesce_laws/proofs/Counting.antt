-- How often the events of a transaction stand in a run, by its course.
use Rattle.std.proofs.Common.{◌≡◌, ℕ, ◌+◌, Bool, true, false, cond, ◌&&◌, List, [], ◌∷◌, ◌++◌, append_assoc, Option, Some, None, refl, sym, ap, ◌∙◌, subst, inl, inr, ⊎_elim, arith}
use Rattle.std.specs.Prelude.{◌⊎◌, ◌==◌, option_and_then}
use Rattle.std.specs.List.{count_by, fold}
use Rattle.std.proofs.lemmas.List.{append-nil}
use Rattle.std.proofs.lemmas.List.Sums.{sum_by_push}
use Rattle.quiesce_core.specs.declared.event.Event.{Event}
use Rattle.quiesce_core.specs.declared.event.Event.TheVariants.{Begin, Call, Take, Give, End, More, Ask, Hear}
use Rattle.quiesce_core.specs.Runs.{IsRun, state_after, is_begin_of, is_end_of}
use Rattle.quiesce_laws.specs.Events.{is_take_of, is_give_of, is_more_of, is_ask_of, is_hear_of}
use Rattle.quiesce_laws.specs.Courses.{TransactionStage, on_begin, on_take, on_more, on_ask, on_hear, on_give, on_end, course_next, course_at}
use Rattle.quiesce_laws.specs.Courses as course
use Rattle.quiesce_laws.proofs.CourseLemmas.{on_course}

pub record Counts : Type 0 where
  pub begins : ℕ
  pub takes : ℕ
  pub gives : ℕ
  pub ends : ℕ
  pub mores : ℕ
  pub asks : ℕ
  pub hears : ℕ

-- of a list of events
abbrev pub counts_of : ℕ → ℕ → List Event → Counts
counts_of p k es = record {
  begins = count_by (is_begin_of p k) es;
  takes = count_by (is_take_of p k) es;
  gives = count_by (is_give_of p k) es;
  ends = count_by (is_end_of p k) es;
  mores = count_by (is_more_of p k) es;
  asks = count_by (is_ask_of p k) es;
  hears = count_by (is_hear_of p k) es;
}

-- of one event
ones : ℕ → ℕ → Event → Counts
ones p k e = record {
  begins = cond (is_begin_of p k e) 1 0;
  takes = cond (is_take_of p k e) 1 0;
  gives = cond (is_give_of p k e) 1 0;
  ends = cond (is_end_of p k e) 1 0;
  mores = cond (is_more_of p k e) 1 0;
  asks = cond (is_ask_of p k e) 1 0;
  hears = cond (is_hear_of p k e) 1 0;
}

-- on this course, when so many further messages were heard
abbrev pub table : TransactionStage → ℕ → Counts
table course.unbegun r = record { begins = 0; takes = 0; gives = 0; ends = 0; mores = r; asks = r; hears = r }
table course.waiting r = record { begins = 1; takes = 0; gives = 0; ends = 0; mores = r; asks = r; hears = r }
table course.serving r = record { begins = 1; takes = 1; gives = 0; ends = 0; mores = r; asks = r; hears = r }
table course.replied r = record { begins = 1; takes = 1; gives = 0; ends = 0; mores = r + 1; asks = r; hears = r }
table course.prompted r = record { begins = 1; takes = 1; gives = 0; ends = 0; mores = r + 1; asks = r + 1; hears = r }
table course.answered r = record { begins = 1; takes = 1; gives = 1; ends = 0; mores = r; asks = r; hears = r }
table course.ended r = record { begins = 1; takes = 1; gives = 1; ends = 1; mores = r; asks = r; hears = r }

-- the third adds what the second has more than the first
record Adds (x y z : Counts) : Type 0 where
  begins : x.begins + z.begins ≡ y.begins
  takes : x.takes + z.takes ≡ y.takes
  gives : x.gives + z.gives ≡ y.gives
  ends : x.ends + z.ends ≡ y.ends
  mores : x.mores + z.mores ≡ y.mores
  asks : x.asks + z.asks ≡ y.asks
  hears : x.hears + z.hears ≡ y.hears

-- the counts are those of a course
pub record IsCounted (p k : ℕ) (xs : List Event) (c : TransactionStage) : Type 0 where
  pub rounds : ℕ
  pub begins : count_by (is_begin_of p k) xs ≡ (table c rounds).begins
  pub takes : count_by (is_take_of p k) xs ≡ (table c rounds).takes
  pub gives : count_by (is_give_of p k) xs ≡ (table c rounds).gives
  pub ends : count_by (is_end_of p k) xs ≡ (table c rounds).ends
  pub mores : count_by (is_more_of p k) xs ≡ (table c rounds).mores
  pub asks : count_by (is_ask_of p k) xs ≡ (table c rounds).asks
  pub hears : count_by (is_hear_of p k) xs ≡ (table c rounds).hears

push : (t : Event → Bool) (xs : List Event) (e : Event) (n m : ℕ) → count_by t xs ≡ n → n + cond (t e) 1 0 ≡ m → count_by t (xs ++ e ∷ []) ≡ m
push t xs e n m h more_ = sum_by_push (λ x. cond (t x) 1 0) xs e ∙ ap (λ i. i + cond (t e) 1 0) h ∙ more_

counted_more : (p k : ℕ) (xs : List Event) (e : Event) (c d : TransactionStage) (h : IsCounted p k xs c) (r : ℕ) → Adds (table c h.rounds) (table d r) (ones p k e) → IsCounted p k (xs ++ e ∷ []) d
unfolding ones
counted_more p k xs e c d h r a = record {
  rounds = r;
  begins = push (is_begin_of p k) xs e (table c h.rounds).begins (table d r).begins h.begins a.begins;
  takes = push (is_take_of p k) xs e (table c h.rounds).takes (table d r).takes h.takes a.takes;
  gives = push (is_give_of p k) xs e (table c h.rounds).gives (table d r).gives h.gives a.gives;
  ends = push (is_end_of p k) xs e (table c h.rounds).ends (table d r).ends h.ends a.ends;
  mores = push (is_more_of p k) xs e (table c h.rounds).mores (table d r).mores h.mores a.mores;
  asks = push (is_ask_of p k) xs e (table c h.rounds).asks (table d r).asks h.asks a.asks;
  hears = push (is_hear_of p k) xs e (table c h.rounds).hears (table d r).hears h.hears a.hears;
}

-- an event leads from this course to that
record Leads (c d from to : TransactionStage) : Type 0 where
  was : c ≡ from
  is : d ≡ to

begun_leads : (c d : TransactionStage) → on_begin c ≡ Some d → Leads c d course.unbegun course.waiting
begun_leads course.unbegun d h = record { was = refl; is = cc }
begun_leads _ d h = absurd (cc)

taken_leads : (c d : TransactionStage) → on_take c ≡ Some d → Leads c d course.waiting course.serving
taken_leads course.waiting d h = record { was = refl; is = cc }
taken_leads _ d h = absurd (cc)

replied_leads : (c d : TransactionStage) → on_more c ≡ Some d → Leads c d course.serving course.replied
replied_leads course.serving d h = record { was = refl; is = cc }
replied_leads _ d h = absurd (cc)

asked_leads : (c d : TransactionStage) → on_ask c ≡ Some d → Leads c d course.replied course.prompted
asked_leads course.replied d h = record { was = refl; is = cc }
asked_leads _ d h = absurd (cc)

heard_leads : (c d : TransactionStage) → on_hear c ≡ Some d → Leads c d course.prompted course.serving
heard_leads course.prompted d h = record { was = refl; is = cc }
heard_leads _ d h = absurd (cc)

given_leads : (c d : TransactionStage) → on_give c ≡ Some d → Leads c d course.serving course.answered
given_leads course.serving d h = record { was = refl; is = cc }
given_leads _ d h = absurd (cc)

finished_leads : (c d : TransactionStage) → on_end c ≡ Some d → Leads c d course.answered course.ended
finished_leads course.answered d h = record { was = refl; is = cc }
finished_leads _ d h = absurd (cc)

leads_adds : (c d from to : TransactionStage) (r j : ℕ) (z : Counts) → Leads c d from to → Adds (table from r) (table to j) z → Adds (table c r) (table d j) z
leads_adds c d from to r j z l a = subst (λ x. Adds (table x r) (table d j) z) (sym l.was) (subst (λ x. Adds (table from r) (table x j) z) (sym l.is) a)

-- the course stays, and no event of it is counted
record IsNone (z : Counts) : Type 0 where
  begins : z.begins ≡ 0
  takes : z.takes ≡ 0
  gives : z.gives ≡ 0
  ends : z.ends ≡ 0
  mores : z.mores ≡ 0
  asks : z.asks ≡ 0
  hears : z.hears ≡ 0

plus_none : (n z : ℕ) → z ≡ 0 → n + z ≡ n
plus_none n z h = omega arith

none_adds : (x z : Counts) → IsNone z → Adds x x z
none_adds x z h = record {
  begins = plus_none x.begins z.begins h.begins;
  takes = plus_none x.takes z.takes h.takes;
  gives = plus_none x.gives z.gives h.gives;
  ends = plus_none x.ends z.ends h.ends;
  mores = plus_none x.mores z.mores h.mores;
  asks = plus_none x.asks z.asks h.asks;
  hears = plus_none x.hears z.hears h.hears;
}

-- what an event adds to what was counted on the course
record AddsOn (p k : ℕ) (e : Event) (c d : TransactionStage) (r : ℕ) : Type 0 where
  rounds : ℕ
  adds : Adds (table c r) (table d rounds) (ones p k e)

stays : (p k : ℕ) (e : Event) (c d : TransactionStage) (r : ℕ) → c ≡ d → IsNone (ones p k e) → AddsOn p k e c d r
stays p k e c d r same h = record { rounds = r; adds = subst (λ x. Adds (table c r) (table x r) (ones p k e)) same (none_adds (table c r) (ones p k e) h) }

-- the event is the transaction's, or another's
choose : (f : TransactionStage → Option TransactionStage) (b : Bool) (c d : TransactionStage) → cond b (f c) (Some c) ≡ Some d → ((b ≡ true) × (f c ≡ Some d)) ⊎ ((b ≡ false) × (c ≡ d))
choose f true c d h = inl (refl, h)
choose f false c d h = inr (refl, cc)

flag_none : (b : Bool) → b ≡ false → ◌≡◌ {A = ℕ} (cond b 1 0) 0
flag_none b h = ap (λ x. cond x 1 0) h

more_by : (n : ℕ) (b : Bool) → b ≡ true → n + cond b 1 0 ≡ n + 1
more_by n b h = ap (λ x. n + cond x 1 0) h

own : (p k : ℕ) (e : Event) (c d : TransactionStage) (r j : ℕ) (f : TransactionStage → Option TransactionStage) (b : Bool) (from to : TransactionStage) → cond b (f c) (Some c) ≡ Some d → (f c ≡ Some d → Leads c d from to)
    → (b ≡ true → Adds (table from r) (table to j) (ones p k e)) → (b ≡ false → IsNone (ones p k e)) → AddsOn p k e c d r
own p k e c d r j f b from to h leads adds none_ = ⊎_elim
    (λ (w : (b ≡ true) × (f c ≡ Some d)). record { rounds = j; adds = leads_adds c d from to r j (ones p k e) (leads w.1) (adds w.0) })
    (λ (w : (b ≡ false) × (c ≡ d)). stays p k e c d r w.1 (none_ w.0))
    (choose f b c d h)

adds_on : (p k : ℕ) (e : Event) (c d : TransactionStage) (r : ℕ) → course_next p k c e ≡ Some d → AddsOn p k e c d r
unfolding ones
adds_on p k (Begin q j v) c d r h = own p k (Begin q j v) c d r r on_begin (q == p && j == k) course.unbegun course.waiting h (begun_leads c d)
    (λ it. record { begins = more_by 0 (q == p && j == k) it; takes = refl; gives = refl; ends = refl; mores = omega arith; asks = omega arith; hears = omega arith })
    (λ off. record { begins = flag_none (q == p && j == k) off; takes = refl; gives = refl; ends = refl; mores = refl; asks = refl; hears = refl })
adds_on p k (Call q j v) c d r h = own p k (Call q j v) c d r r on_begin (q == p && j == k) course.unbegun course.waiting h (begun_leads c d)
    (λ it. record { begins = more_by 0 (q == p && j == k) it; takes = refl; gives = refl; ends = refl; mores = omega arith; asks = omega arith; hears = omega arith })
    (λ off. record { begins = flag_none (q == p && j == k) off; takes = refl; gives = refl; ends = refl; mores = refl; asks = refl; hears = refl })
adds_on p k (Take q j v) c d r h = own p k (Take q j v) c d r r on_take (q == p && j == k) course.waiting course.serving h (taken_leads c d)
    (λ it. record { begins = refl; takes = more_by 0 (q == p && j == k) it; gives = refl; ends = refl; mores = omega arith; asks = omega arith; hears = omega arith })
    (λ off. record { begins = refl; takes = flag_none (q == p && j == k) off; gives = refl; ends = refl; mores = refl; asks = refl; hears = refl })
adds_on p k (More q j v) c d r h = own p k (More q j v) c d r r on_more (q == p && j == k) course.serving course.replied h (replied_leads c d)
    (λ it. record { begins = refl; takes = refl; gives = refl; ends = refl; mores = more_by r (q == p && j == k) it; asks = omega arith; hears = omega arith })
    (λ off. record { begins = refl; takes = refl; gives = refl; ends = refl; mores = flag_none (q == p && j == k) off; asks = refl; hears = refl })
adds_on p k (Ask q j v) c d r h = own p k (Ask q j v) c d r r on_ask (q == p && j == k) course.replied course.prompted h (asked_leads c d)
    (λ it. record { begins = refl; takes = refl; gives = refl; ends = refl; mores = omega arith; asks = more_by r (q == p && j == k) it; hears = omega arith })
    (λ off. record { begins = refl; takes = refl; gives = refl; ends = refl; mores = refl; asks = flag_none (q == p && j == k) off; hears = refl })
adds_on p k (Hear q j v) c d r h = own p k (Hear q j v) c d r (r + 1) on_hear (q == p && j == k) course.prompted course.serving h (heard_leads c d)
    (λ it. record { begins = refl; takes = refl; gives = refl; ends = refl; mores = omega arith; asks = omega arith; hears = more_by r (q == p && j == k) it })
    (λ off. record { begins = refl; takes = refl; gives = refl; ends = refl; mores = refl; asks = refl; hears = flag_none (q == p && j == k) off })
adds_on p k (Give q j v) c d r h = own p k (Give q j v) c d r r on_give (q == p && j == k) course.serving course.answered h (given_leads c d)
    (λ it. record { begins = refl; takes = refl; gives = more_by 0 (q == p && j == k) it; ends = refl; mores = omega arith; asks = omega arith; hears = omega arith })
    (λ off. record { begins = refl; takes = refl; gives = flag_none (q == p && j == k) off; ends = refl; mores = refl; asks = refl; hears = refl })
adds_on p k (End q j v) c d r h = own p k (End q j v) c d r r on_end (q == p && j == k) course.answered course.ended h (finished_leads c d)
    (λ it. record { begins = refl; takes = refl; gives = refl; ends = more_by 0 (q == p && j == k) it; mores = omega arith; asks = omega arith; hears = omega arith })
    (λ off. record { begins = refl; takes = refl; gives = refl; ends = flag_none (q == p && j == k) off; mores = refl; asks = refl; hears = refl })
adds_on p k e c d r h = stays p k e c d r (cc) (record { begins = refl; takes = refl; gives = refl; ends = refl; mores = refl; asks = refl; hears = refl })

abbrev led : ℕ → ℕ → Option TransactionStage → Event → Option TransactionStage
led p k c e = option_and_then (λ d. course_next p k d e) c

none_stays : (p k : ℕ) (es : List Event) → fold (led p k) None es ≡ None
none_stays p k [] = refl
none_stays p k (e ∷ es) = none_stays p k es

-- where an event leads nowhere nothing can be led further
through : (p k : ℕ) (es : List Event) (c d : TransactionStage) (e : Event) (P : Type 0) → ((x : TransactionStage) → course_next p k c e ≡ Some x → fold (led p k) (Some x) es ≡ Some d → P)
    → (o : Option TransactionStage) → course_next p k c e ≡ o → fold (led p k) o es ≡ Some d → P
through p k es c d e P on None was end = let none_ = none_stays p k es in absurd (cc (none_, end))
through p k es c d e P on (Some x) was end = on x was end

counted_from : (p k : ℕ) (xs es : List Event) (c d : TransactionStage) → IsCounted p k xs c → fold (led p k) (Some c) es ≡ Some d → IsCounted p k (xs ++ es) d
counted_from p k xs [] c d h e =
    let same : c ≡ d = cc in
    subst (λ ys. IsCounted p k ys d) (sym (append-nil xs)) (subst (λ x. IsCounted p k xs x) same h)
counted_from p k xs (e ∷ es) c d h is =
    through p k es c d e (IsCounted p k (xs ++ e ∷ es) d)
    (λ x was end.
    let a = adds_on p k e c x h.rounds was in
    subst (λ ys. IsCounted p k ys d) (append_assoc xs (e ∷ []) es) (counted_from p k (xs ++ e ∷ []) es x d (counted_more p k xs e c x h a.rounds a.adds) end))
    (course_next p k c e) refl is

-- the counts of a run are those of the course that its state tells
pub counted : (es : List Event) (p k : ℕ) → IsRun es → IsCounted p k es (course_at (state_after es) p k)
counted es p k run =
    counted_from p k [] es course.unbegun (course_at (state_after es) p k)
    (record { rounds = 0; begins = refl; takes = refl; gives = refl; ends = refl; mores = refl; asks = refl; hears = refl }) (on_course es p k run)
