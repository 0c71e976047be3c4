-- A row from one transaction of its source to the next: the sink has an item for each that the source was answered.
use Rattle.std.proofs.Common.{◌≡◌, ◌∙◌, ℕ, ◌+◌, ◌<◌, ◌≤◌, Bool, true, false, cond, List, [], ◌∷◌, ◌++◌, length, Option, Some, None, refl, sym, ap, subst, arith, inl, inr, length-append}
use Rattle.std.specs.Prelude.{◌⊎◌, ◌==◌, nat_lt}
use Rattle.std.proofs.lemmas.Bool.{and_parts, both_ways, eq-eqb, eqb-true, ltb-true}
use Rattle.std.proofs.lemmas.List.{append-nil}
use Rattle.std.proofs.lemmas.Option.{none-some}
use Rattle.config_graph.specs.declared.kind.Kind.TheVariants.{Source}
use Rattle.component_trait.specs.Fold.{after_event, asked_by, is_request, is_request_at}
use Rattle.component_trait.specs.Moves as moves
use Rattle.component_trait.specs.States.{Kept, NodeState}
use Rattle.component_trait.specs.States as node
use Rattle.component_trait.specs.Tables.{kept_after_end, wants}
use Rattle.component_trait.proofs.FoldLaws.{where_so_then}
use Rattle.component_trait.specs.declared.next.Next.TheVariants as next
use Rattle.quiesce_word.specs.Phases.{is_idle, is_asked}
use Rattle.quiesce_word.specs.declared.word.TheConstants.{LAST_SERIAL}
use Rattle.quiesce_word.proofs.PhaseLaws.{answered_busy}
use Rattle.quiesce_core.specs.Alters.{exchange_by}
use Rattle.quiesce_core.specs.Doers.{is_end_at}
use Rattle.quiesce_core.specs.Effect.{effect}
use Rattle.quiesce_core.specs.Legal.{Legal}
use Rattle.quiesce_core.specs.Runs.{is_doer}
use Rattle.quiesce_core.specs.State.{State, exchange, owner, service, slot}
use Rattle.quiesce_core.specs.declared.event.Event.{Event}
use Rattle.quiesce_core.specs.declared.event.Event.TheVariants.{Begin, Call, Take, Give, End, More, Ask, Hear, Miss}
use Rattle.quiesce_core.specs.declared.state.Exchange.{Exchange}
use Rattle.quiesce_core.specs.declared.state.Slot.{Slot}
use Rattle.quiesce_core.proofs.AlterLaws.{exchanges_next}
use Rattle.result_laws.proofs.FactLaws.{Facts, of_parts}
use Rattle.result_laws.proofs.Passing.{Few, Stop, Way, Going, passed, last_port}
use Rattle.result_laws.proofs.EventLaws.{Now, answered_untaken, idle_stays, idle_untaken, untaken_stays, starts_at, takes_at, idle_passes}
use Rattle.result_laws.proofs.Onward.{Led, few_stay, items_stay, onward, rest_stays, waits_there, way_answered, way_end}

-- what a source does
pub data SourceDoes (first : ℕ) (arg : ℕ) (kept : Kept) (t : NodeState) : Event → Type 0 where
  begins : (p j v : ℕ) → p ≡ first → v ≡ kept.count + 1 → kept.count < arg → t.kept ≡ kept → SourceDoes first arg kept t (Begin p j v)
  ends : (p j v : ℕ) → p ≡ first → t.kept ≡ kept_after_end Source kept v → SourceDoes first arg kept t (End p j v)
  other : (e : Event) → ((q : ℕ) → starts_at q e ≡ false) → ((q : ℕ) → is_end_at q e ≡ false) → t.kept ≡ kept → SourceDoes first arg kept t e

abbrev source_at_work : ℕ → Kept → Option node.Service → NodeState
source_at_work arg kept o = record { kind = Source; arg = arg; kept = kept; service = o }

asks_nothing : (arg : ℕ) (kept : Kept) (o : Option node.Service) (first p : ℕ) → is_request_at first p (asked_by (moves.next (source_at_work arg kept o))) ≡ false
asks_nothing arg kept None first p = refl
asks_nothing arg kept (Some w) first p = by w.waits
  where
    by : (b : Bool) → is_request_at first p (asked_by (cond b None (Some (next.Give w.reply)))) ≡ false
    by true = refl
    by false = refl

calls_nothing : (arg : ℕ) (kept : Kept) (o : Option node.Service) (first p v : ℕ) → is_request first p v (asked_by (moves.next (source_at_work arg kept o))) ≡ false
calls_nothing arg kept None first p v = refl
calls_nothing arg kept (Some w) first p v = by w.waits
  where
    by : (b : Bool) → is_request first p v (asked_by (cond b None (Some (next.Give w.reply)))) ≡ false
    by true = refl
    by false = refl

wanted : (arg count first p v : ℕ) (b : Bool) → is_request first p v (cond b (Some (record { require = 0; value = count + 1 })) None) ≡ true → (p ≡ first) × (v ≡ count + 1) × (b ≡ true)
wanted arg count first p v true h =
    let a = and_parts (first + 0 == p) (count + 1 == v) h in
    let x = eqb-true (first + 0) p a.0 in let y = eqb-true (count + 1) v a.1 in (omega (arith, x), sym y, refl)
wanted arg count first p v false h = absurd (both_ways false refl h)

wanted_at : (count first p : ℕ) (b : Bool) → is_request_at first p (cond b (Some (record { require = 0; value = count + 1 })) None) ≡ true → p ≡ first
wanted_at count first p true h = let x = eqb-true (first + 0) p h in omega (arith, x)
wanted_at count first p false h = absurd (both_ways false refl h)

pub source_does : (first arg : ℕ) (kept : Kept) (o : Option node.Service) (e : Event) (t : NodeState) → after_event first (source_at_work arg kept o) e ≡ Some t → SourceDoes first arg kept t e
source_does first arg kept o (Begin p j v) t h =
    let w = where_so_then (is_request first p v (wants Source arg kept)) (source_at_work arg kept o) t h in
    let x = wanted arg kept.count first p v (nat_lt kept.count arg) w.0 in
    begins p j v x.0 x.1 (ltb-true kept.count arg x.2) (sym (ap (λ (n : NodeState). n.kept) w.1))
source_does first arg kept o (Call p j v) t h =
    let w = where_so_then (is_request first p v (asked_by (moves.next (source_at_work arg kept o)))) (source_at_work arg kept o) t h in
    absurd (both_ways _ (calls_nothing arg kept o first p v) w.0)
source_does first arg kept o (Take p j v) t h = absurd (none-some t h)
source_does first arg kept o (Give p j v) t h = other (Give p j v) (λ q. refl) (λ q. refl) (sym (ap (λ (n : NodeState). n.kept) (where_so_then _ _ t h).1))
source_does first arg kept o (More p j v) t h = other (More p j v) (λ q. refl) (λ q. refl) (sym (ap (λ (n : NodeState). n.kept) (where_so_then _ _ t h).1))
source_does first arg kept o (Hear p j v) t h = other (Hear p j v) (λ q. refl) (λ q. refl) (sym (ap (λ (n : NodeState). n.kept) (where_so_then _ _ t h).1))
source_does first arg kept o (Ask p j v) t h = other (Ask p j v) (λ q. refl) (λ q. refl) (sym (ap (λ (n : NodeState). n.kept) (where_so_then _ _ t h).1))
source_does first arg kept o (Miss p) t h = other (Miss p) (λ q. refl) (λ q. refl) (sym (ap (λ (n : NodeState). n.kept) (where_so_then _ _ t h).1))
source_does first arg kept o (End p j v) t h =
    let w = where_so_then (is_request_at first p (wants Source arg kept)) (moves.after_end (source_at_work arg kept o) v) t
    (sym (ap (λ b. cond b (Some (moves.after_answer (source_at_work arg kept o) v)) (cond (is_request_at first p (wants Source arg kept)) (Some (moves.after_end (source_at_work arg kept o) v)) None)) (asks_nothing arg kept o first p)) ∙ h) in
    ends p j v (wanted_at kept.count first p _ w.0) (sym (ap (λ (n : NodeState). n.kept) w.1))
source_does first arg kept o _ t h = absurd (none-some t h)

-- the source of a row
pub record IsSource (s : State) (f : ℕ → NodeState) (a p : ℕ) : Type 0 where
  pub made : Slot
  pub there : slot s.config a ≡ Some made
  pub first : made.first_port ≡ p
  pub owned : owner s.config p ≡ a
  pub kind : (f a).kind ≡ Source
  pub small : (f a).arg ≤ LAST_SERIAL

-- where a row stands, with what went through it
pub data Stands (s : State) (f : ℕ → NodeState) (a p : ℕ) (ms : List Stop) (t : ℕ) (past : List ℕ) : Type 0 where
  resting : is_idle (exchange s p).phase ≡ true → (f a).kept.count ≡ length past → (f t).kept.items ≡ past → Few s (length past) ms → Stands s f a p ms t past
  under_way : (d : Bool) → length past < LAST_SERIAL → Going s f (length past) p (length past + 1) ms t d → (f a).kept.count ≡ length past → (f t).kept.items ≡ past ++ cond d (passed (length past + 1) ms ∷ []) [] → Stands s f a p ms t past

-- one more item: what became of the value of the transaction that the event ends
pub record IsEndOf (e : Event) (p : ℕ) : Type 0 where
  pub serial : ℕ
  pub answer : ℕ
  pub is : e ≡ End p serial answer
  pub not_0 : (answer == 0) ≡ false

end_there : (p : ℕ) (e : Event) → is_end_at p e ≡ true → (k : ℕ) × (v : ℕ) × (e ≡ End p k v)
end_there p (End q k v) h = (k, v, ap (λ i. End i k v) (eqb-true q p h))
end_there p _ h = absurd (both_ways false refl h)

pub record Goes (s : State) (g : ℕ → NodeState) (e : Event) (a p : ℕ) (ms : List Stop) (t : ℕ) (past : List ℕ) : Type 0 where
  pub next : List ℕ
  pub stands : Stands (effect s e) g a p ms t next
  pub grows : (next ≡ past) ⊎ (IsEndOf e p × (next ≡ past ++ passed (length past + 1) ms ∷ []))

module _ (s : State) (f g : ℕ → NodeState) (facts : Facts s f) (e : Event) (now : Now s f g e) (a p : ℕ) (ms : List Stop) (t : ℕ) (src : IsSource s f a p) (way : Way s.config f p ms t) where
  pub does : is_doer s a e ≡ true → SourceDoes p (f a).arg (f a).kept (g a) e
  does mine =
      source_does p (f a).arg (f a).kept (f a).service e (g a)
      (ap (λ n. after_event p n e) (sym (of_parts (f a) Source (f a).service src.kind refl)) ∙ ap (λ i. after_event i (f a) e) (sym src.first) ∙ now.folds.mine a src.made src.there mine)

  -- the count stays but by the End
  count_stays : is_end_at p e ≡ false → (g a).kept.count ≡ (f a).kept.count
  count_stays no_end = by (is_doer s a e) refl
    where
      from : (z : Event) → is_end_at p z ≡ false → SourceDoes p (f a).arg (f a).kept (g a) z → (g a).kept.count ≡ (f a).kept.count
      from _ none_ (begins q j v here val wants kept) = ap (λ (k : Kept). k.count) kept
      from _ none_ (ends q j v here kept) = absurd (both_ways (q == p) none_ (eq-eqb q p here))
      from _ none_ (other z calm still kept) = ap (λ (k : Kept). k.count) kept

      by : (b : Bool) → is_doer s a e ≡ b → (g a).kept.count ≡ (f a).kept.count
      by false none_ = ap (λ (n : NodeState). n.kept.count) (now.folds.others a none_)
      by true mine = from e no_end (does mine)

  pub goes : (past : List ℕ) → Stands s f a p ms t past → Goes s g e a p ms t past
  goes past stands = by (is_end_at p e) refl stands
    where
      rest_goes : exchange (effect s e) p ≡ exchange s p → is_end_at p e ≡ false → is_idle (exchange s p).phase ≡ true → (f a).kept.count ≡ length past → (f t).kept.items ≡ past → Few s (length past) ms → Goes s g e a p ms t past
      rest_goes same none_ idle count items few = record {
        next = past;
        stands = resting (ap (λ (y : Exchange). is_idle y.phase) same ∙ idle) (count_stays none_ ∙ count) (rest_stays s f g facts e now ms p t way idle ∙ items)
            (few_stay s f g facts e now (length past) ms p t way (idle_untaken s f g facts p idle) few);
        grows = inl refl;
      }

      begun : (z : Event) → e ≡ z → is_idle (exchange s p).phase ≡ true → (f a).kept.count ≡ length past → (f t).kept.items ≡ past → Few s (length past) ms → is_end_at p z ≡ false → SourceDoes p (f a).arg (f a).kept (g a) z
          → Goes s g e a p ms t past
      begun _ is idle count items few none_ (begins q j v here val wants kept) =
          let legal = subst (Legal s) is now.legal in
          let after : exchange (effect s e) p ≡ exchange_by (service s (owner s.config p)) (exchange s p) (Begin q j v) =
          ap (λ z. exchange (effect s z) p) is ∙ exchanges_next s (Begin q j v) facts.well legal p
          ∙ ap (λ b. cond b (exchange_by (service s (owner s.config p)) (exchange s p) (Begin q j v)) (exchange s p)) (eq-eqb q p here) in
          let free = untaken_stays s f g facts p e now (ap (takes_at p) is) (idle_untaken s f g facts p idle) in
          record {
            next = past;
            stands = under_way false (let small = src.small in omega (arith, wants, count, small))
                (waits_there (effect s e) g (length past) ms p (length past + 1) t (ap (λ (y : Exchange). is_asked y.phase) after) (ap (λ (y : Exchange). y.value) after ∙ val ∙ ap (λ i. i + 1) count) free
                (few_stay s f g facts e now (length past) ms p t way (idle_untaken s f g facts p idle) few))
                (ap (λ (k : Kept). k.count) kept ∙ count) (rest_stays s f g facts e now ms p t way idle ∙ items ∙ sym (append-nil past));
            grows = inl refl;
          }
      begun _ is idle count items few none_ (ends q j v here kept) = absurd (both_ways (q == p) none_ (eq-eqb q p here))
      begun _ is idle count items few none_ (other z calm still kept) =
          rest_goes (idle_passes s f g facts p e now.legal idle (ap (starts_at p) is ∙ calm p)) (ap (is_end_at p) is ∙ none_) idle count items few

      ended : (k v : ℕ) → e ≡ End p k v → (d : Bool) → length past < LAST_SERIAL → Going s f (length past) p (length past + 1) ms t d → (f a).kept.count ≡ length past
          → (f t).kept.items ≡ past ++ cond d (passed (length past + 1) ms ∷ []) [] → (z : Event) → e ≡ z → z ≡ End p k v → SourceDoes p (f a).arg (f a).kept (g a) z → Goes s g e a p ms t past
      ended k v is d room going count items _ same z (begins q j w here val wants kept) = absurd (cc z)
      ended k v is d room going count items _ same z (other y calm still kept) = absurd (both_ways (is_end_at p y) (still p) (ap (is_end_at p) z ∙ eq-eqb p p refl))
      ended k v is d room going count items _ same z (ends q j w here kept) =
          let l = subst (Legal s) is now.legal in
          let said = eqb-true v (exchange s p).value (and_parts (k == (exchange s p).serial) (v == (exchange s p).value) l.message).1 in
          let known = way_answered s f g facts (length past) room ms p (length past + 1) t d going l.answered in
          let not_0 : (v == 0) ≡ false = ap (λ i. i == 0) said ∙ known.not_0 in
          let other_ : (w == 0) ≡ false = ap (λ i. i == 0) (value_same same z) ∙ not_0 in
          let after : exchange (effect s e) p ≡ exchange_by (service s (owner s.config p)) (exchange s p) (End p k v) =
          ap (λ z. exchange (effect s z) p) is ∙ exchanges_next s (End p k v) facts.well l p
          ∙ ap (λ b. cond b (exchange_by (service s (owner s.config p)) (exchange s p) (End p k v)) (exchange s p)) (eq-eqb p p refl) in
          let last = last_port p ms in
          let stay : (g t).kept.items ≡ (f t).kept.items = items_stay s f g facts e now last t (way_end s f g facts ms p t way) (ap (takes_at last) is) in
          let more_ = length-append past (passed (length past + 1) ms ∷ []) in
          record {
            next = past ++ passed (length past + 1) ms ∷ [];
            stands = resting (ap (λ (y : Exchange). is_idle y.phase) after)
                (ap (λ (k : Kept). k.count) (kept ∙ ap (λ b. cond b (f a).kept (node.with_count ((f a).kept.count + 1))) other_) ∙ ap (λ i. i + 1) count ∙ sym more_)
                (stay ∙ items ∙ ap (λ b. past ++ cond b (passed (length past + 1) ms ∷ []) []) known.sure)
                (subst (λ n. Few (effect s e) n ms) (sym more_) (few_stay s f g facts e now (length past + 1) ms p t way (answered_untaken s f g facts p l.answered) known.after));
            grows = inr (record { serial = k; answer = v; is = is; not_0 = not_0 }, refl);
          }
        where
          value_same : {q j w : ℕ} → e ≡ End q j w → End q j w ≡ End p k v → w ≡ v
          value_same same z = cc z

      on : (d : Bool) (room : length past < LAST_SERIAL) → (led : Led s f g facts (length past) room e ms p (length past + 1) t d) → (f a).kept.count ≡ length past → (f t).kept.items ≡ past ++ cond d (passed (length past + 1) ms ∷ []) [] → is_end_at p e ≡ false → Goes s g e a p ms t past
      on d room led count items none_ = record { next = past; stands = under_way led.next room led.going (count_stays none_ ∙ count) (grown led.items); grows = inl refl }
        where
          grown : ((led.next ≡ d) × ((g t).kept.items ≡ (f t).kept.items)) ⊎ ((d ≡ false) × (led.next ≡ true) × ((g t).kept.items ≡ (f t).kept.items ++ passed (length past + 1) ms ∷ []))
              → (g t).kept.items ≡ past ++ cond led.next (passed (length past + 1) ms ∷ []) []
          grown (inl same) = same.1 ∙ items ∙ ap (λ b. past ++ cond b (passed (length past + 1) ms ∷ []) []) (sym same.0)
          grown (inr more_) =
              more_.2 ∙ ap (λ xs. xs ++ passed (length past + 1) ms ∷ []) (items ∙ ap (λ b. past ++ cond b (passed (length past + 1) ms ∷ []) []) more_.0 ∙ append-nil past)
              ∙ ap (λ b. past ++ cond b (passed (length past + 1) ms ∷ []) []) (sym more_.1)

      by : (b : Bool) → is_end_at p e ≡ b → Stands s f a p ms t past → Goes s g e a p ms t past
      by false none_ (resting idle count items few) = of_doer (is_doer s a e) refl
        where
          of_doer : (b : Bool) → is_doer s a e ≡ b → Goes s g e a p ms t past
          of_doer true mine = begun e refl idle count items few none_ (does mine)
          of_doer false none__ = rest_goes (idle_stays s f g facts p e now.legal idle (ap (λ i. is_doer s i e) src.owned ∙ none__)) none_ idle count items few
      by false none_ (under_way d room going count items) = on d room (onward s f g facts (length past) room e now ms p (length past + 1) t d way going none_) count items none_
      by true h (resting idle count items few) =
          let it = end_there p e h in
          let l = subst (Legal s) it.2 now.legal in
          absurd (both_ways (is_idle (exchange s p).phase) (answered_busy (exchange s p).phase l.answered) idle)
      by true h (under_way d room going count items) =
          let it = end_there p e h in
          ended it.0 it.1 it.2 d room going count items e refl it.2 (does (ap (is_doer s a) it.2 ∙ ap (λ i. i == a) src.owned ∙ eq-eqb a a refl))

-- a transaction of the source that ends isn't answered 0
pub answered_well : (s : State) (f : ℕ → NodeState) → Facts s f → (a p : ℕ) (ms : List Stop) (t : ℕ) (past : List ℕ) → Stands s f a p ms t past → (k r : ℕ) → Legal s (End p k r) → (r == 0) ≡ false
answered_well s f facts a p ms t past (resting idle count items few) k r l = absurd (both_ways (is_idle (exchange s p).phase) (answered_busy (exchange s p).phase l.answered) idle)
answered_well s f facts a p ms t past (under_way d room going count items) k r l =
    let said = eqb-true r (exchange s p).value (and_parts (k == (exchange s p).serial) (r == (exchange s p).value) l.message).1 in
    ap (λ i. i == 0) said ∙ (way_answered s f f facts (length past) room ms p (length past + 1) t d going l.answered).not_0
