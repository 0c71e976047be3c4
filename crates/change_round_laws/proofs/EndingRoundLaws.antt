-- A `run` comes to an end in rounds: each event brings what is open nearer to its end, or begins at an idle port, and
-- fewer transactions than were asked for may end.
use Rattle.std.proofs.Common.{◌≡◌, ◌∙◌, ℕ, zero, suc, ◌+◌, ◌-◌, ◌<◌, ◌≤◌, Bool, true, false, cond, ◌&&◌, ◌||◌, List, [], ◌∷◌, ◌++◌, append_assoc, length, Option, Some, None, refl, sym, ap, subst, ⊎_elim, inl, inr, arith, get_or-set_same, get_or-set_other}
use Rattle.std.specs.Prelude.{◌⊎◌, fold, is_some, nat_le, nat_lt, option_map, slice_index_or, slice_set, sum_by}
use Rattle.std.specs.List.{cons_option, count_by, list_any, range_with_len}
use Rattle.std.specs.Option.{option_map_or}
use Rattle.std.proofs.lemmas.Bool.{and_parts, both_ways, cases_Bool, cases_eq, cases_lt, ltb-true, or_cases, or_parts, not-false}
use Rattle.std.proofs.lemmas.List.{append-nil, length-append}
use Rattle.std.proofs.lemmas.List.Sums.{sum_by-cons}
use Rattle.base.proofs.MapLaws.{count_by-append}
use Rattle.base.proofs.SumLaws.{sum_place}
use Rattle.config_graph.specs.declared.node.Target.{Target}
use Rattle.quiesce_laws.specs.Advances.{is_advance}
use Rattle.quiesce_word.specs.Phases.{is_idle}
use Rattle.quiesce_word.specs.declared.phase.Phase.TheVariants as phase
use Rattle.quiesce_core.specs.declared.event.Event.{Event}
use Rattle.quiesce_core.specs.declared.event.Event.TheVariants as event
use Rattle.quiesce_core.specs.declared.state.Exchange.{Exchange}
use Rattle.quiesce_core.specs.Doers.{is_of_change}
use Rattle.quiesce_core.specs.Effect.{effect}
use Rattle.quiesce_core.specs.Legal.{Legal}
use Rattle.quiesce_core.specs.Rest.{full, rest}
use Rattle.quiesce_core.specs.Runs.{IsRun, Step, state_after}
use Rattle.quiesce_core.specs.State.{Configuration, State, exchange, fresh_exchange, is_live, owner, service, target}
use Rattle.quiesce_core.specs.declared.state.Service.{Service}
use Rattle.quiesce_core.specs.Traffic.{IsConsistent}
use Rattle.quiesce_core.specs.WellFormed.{IsWellFormed}
use Rattle.quiesce_core.proofs.InductionLaws.{IsNext, further}
use Rattle.quiesce_core.proofs.LegalLaws.{allowed}
use Rattle.quiesce_core.proofs.RunLaws.{node_events_keep_the_configuration}
use Rattle.base.proofs.OptionLaws.{Some-from_is_some}
use Rattle.base.proofs.ListLaws.{none_both}
use Rattle.quiesce_laws.specs.Lists.{In}
use Rattle.quiesce_laws.proofs.MemberLaws.{selected}
use Rattle.node_turn_laws.specs.Round.{Round, after_rounds, ended, give_turn, live_nodes, round, stands_still}
use Rattle.quiesce_laws.specs.Events.{ends_transaction}
use Rattle.node_turn_laws.specs.Turn.{turn}
use Rattle.node_turn_laws.specs.World.{World}
use Rattle.node_turn_laws.specs.Reached.{IsReached}
use Rattle.node_turn_laws.proofs.ReachedLaws.{holds_where_reached, turn_goes_on}
use Rattle.change_spec.specs.Serial.{run_ends}
use Rattle.change_round_laws.specs.Existing.{RunsEnd}
use Rattle.change_round_laws.proofs.CourseLaws.{turn_config, turn_events}
use Rattle.change_round_laws.proofs.GrowthLemmas.{total, total_both}

-- what quiesce_laws says of the steps
abbrev pub RestFalls : Type 0
RestFalls = (s t : State) (e : Event) → IsWellFormed s → IsConsistent s → Step s e t → is_advance e ≡ true → rest t < rest s

abbrev pub RestRises : Type 0
RestRises = (s t : State) (p k v : ℕ) (to : Target) → IsWellFormed s → IsConsistent s → Step s (event.Begin p k v) t → target s.config p ≡ Some to → rest t ≡ rest s + full s.config to.node to.provide

-- the events of a transaction that a port begins
abbrev begun_at : Configuration → ℕ → ℕ
begun_at c p = option_map_or (λ (t : Target). full c t.node t.provide) (target c p) 0

abbrev most : Configuration → ℕ
most c = sum_by (begun_at c) (range_with_len 0 (length c.gates))

term_within : (f : ℕ → ℕ) (a n p : ℕ) → a ≤ p → p < a + n → f p ≤ sum_by f (range_with_len a n)
term_within f a zero p low high = absurd (omega (arith, low, high))
term_within f a (suc n) p low high = ⊎_elim
    (λ (same : p ≡ a). let e = ap f same in omega (arith, e, sum_by-cons f a (range_with_len (a + 1) n)))
    (λ (other : p ≡ a → ⊥). omega (arith, term_within f (a + 1) n p (omega (arith, low, other)) (omega (arith, high)), sum_by-cons f a (range_with_len (a + 1) n)))
    (cases_eq p a)

-- an idle port may begin one, and each end makes one idle again
abbrev weight : ℕ → State → ℕ → ℕ
weight g s p = cond (is_idle (exchange s p).phase) g 0

abbrev idle_weight : ℕ → State → ℕ
idle_weight g s = sum_by (weight g s) (range_with_len 0 (length s.config.gates))

abbrev end_weight : ℕ → Event → ℕ
end_weight g e = cond (ends_transaction e) g 0

-- one port's exchange is another
put_weight : (g : ℕ) (s t : State) (p d e : ℕ) (x : Exchange) → p < length s.config.gates → length s.traffic.exchanges ≡ length s.config.gates → length t.config.gates ≡ length s.config.gates
    → ((q : ℕ) → exchange t q ≡ slice_index_or (slice_set s.traffic.exchanges p x) q fresh_exchange)
    → cond (is_idle x.phase) g 0 + d ≤ weight g s p + e → idle_weight g t + d ≤ idle_weight g s + e
put_weight g s t p d e x made long same is at =
    let here : exchange t p ≡ x = is p ∙ get_or-set_same s.traffic.exchanges p x fresh_exchange (omega (arith, made, long)) in
    let at_here : weight g t p + d ≤ weight g s p + e = subst (λ (y : Exchange). cond (is_idle y.phase) g 0 + d ≤ weight g s p + e) (sym here) at in
    let all : sum_by (weight g t) (range_with_len 0 (length s.config.gates)) + d ≤ sum_by (weight g s) (range_with_len 0 (length s.config.gates)) + e =
    sum_place (weight g t) (weight g s) p d e (length s.config.gates) made
    (λ q other. let e_ : weight g t q ≡ weight g s q = ap (λ (y : Exchange). cond (is_idle y.phase) g 0) (is q ∙ get_or-set_other s.traffic.exchanges p q x fresh_exchange other) in omega (arith, e_)) at_here in
    subst (λ n. sum_by (weight g t) (range_with_len 0 n) + d ≤ idle_weight g s + e) (sym same) all

module _ (falls : RestFalls) (rises : RestRises) (c : Configuration) where
  live_made : (s : State) (p : ℕ) → (nat_lt p (length s.config.gates) && is_live s.config (owner s.config p)) ≡ true → p < length s.config.gates
  live_made s p h = ltb-true p (length s.config.gates) (and_parts (nat_lt p (length s.config.gates)) (is_live s.config (owner s.config p)) h).0

  -- each event costs one
  spent : (s : State) (e : Event) → s.config ≡ c → IsWellFormed s → IsConsistent s → (l : Legal s e) → Step s e (effect s e) → is_of_change e ≡ false
      → (rest (effect s e) + idle_weight (most c + 1) (effect s e)) + 1 ≤ (rest s + idle_weight (most c + 1) s) + end_weight (most c + 1) e
  spent s (event.Begin p k v) config well traffic l step node =
      let g = most c + 1 in
      let made = live_made s p l.live in
      let to = Some-from_is_some (target s.config p) l.linked in
      let grown = rises s (effect s (event.Begin p k v)) p k v to.0 well traffic step to.1 in
      let there : full s.config to.0.node to.0.provide ≡ begun_at s.config p = ap (λ o. option_map_or (λ (t : Target). full s.config t.node t.provide) o 0) (sym to.1) in
      let few : begun_at s.config p ≤ most s.config = term_within (begun_at s.config) 0 (length s.config.gates) p (omega arith) (omega (arith, made)) in
      let all : most s.config ≡ most c = ap most config in
      let was : weight g s p ≡ g = ap (λ b. cond b g 0) l.idle in
      let less : idle_weight g (effect s (event.Begin p k v)) + g ≤ idle_weight g s + 0 =
      put_weight g s (effect s (event.Begin p k v)) p g 0 (record { phase = phase.Asked; serial = k; value = v; within = None }) made well.exchanges refl (λ q. refl) (omega (arith, was)) in
      omega (arith, grown, there, few, all, less)
  spent s (event.Call p k v) config well traffic l step node =
      let x : Exchange = record { phase = phase.Asked; serial = k; value = v; within = option_map (λ (y : Service). y.port) (service s (owner s.config p)) } in
      let less : idle_weight (most c + 1) (effect s (event.Call p k v)) + 0 ≤ idle_weight (most c + 1) s + 0 =
      put_weight (most c + 1) s (effect s (event.Call p k v)) p 0 0 x (live_made s p l.live) well.exchanges refl (λ q. refl) (omega arith) in
      omega (arith, falls s (effect s (event.Call p k v)) (event.Call p k v) well traffic step refl, less)
  spent s (event.Give p k v) config well traffic l step node =
      let x : Exchange = record (exchange s p) { phase = phase.Answered; value = v } in
      let less : idle_weight (most c + 1) (effect s (event.Give p k v)) + 0 ≤ idle_weight (most c + 1) s + 0 =
      put_weight (most c + 1) s (effect s (event.Give p k v)) p 0 0 x (live_made s p l.live) well.exchanges refl (λ q. refl) (omega arith) in
      omega (arith, falls s (effect s (event.Give p k v)) (event.Give p k v) well traffic step refl, less)
  spent s (event.More p k v) config well traffic l step node =
      let x : Exchange = record (exchange s p) { phase = phase.More; value = v } in
      let less : idle_weight (most c + 1) (effect s (event.More p k v)) + 0 ≤ idle_weight (most c + 1) s + 0 =
      put_weight (most c + 1) s (effect s (event.More p k v)) p 0 0 x (live_made s p l.live) well.exchanges refl (λ q. refl) (omega arith) in
      omega (arith, falls s (effect s (event.More p k v)) (event.More p k v) well traffic step refl, less)
  spent s (event.Ask p k v) config well traffic l step node =
      let x : Exchange = record (exchange s p) { phase = phase.Asked; value = v } in
      let less : idle_weight (most c + 1) (effect s (event.Ask p k v)) + 0 ≤ idle_weight (most c + 1) s + 0 =
      put_weight (most c + 1) s (effect s (event.Ask p k v)) p 0 0 x (live_made s p l.live) well.exchanges refl (λ q. refl) (omega arith) in
      omega (arith, falls s (effect s (event.Ask p k v)) (event.Ask p k v) well traffic step refl, less)
  spent s (event.End p k v) config well traffic l step node =
      let x : Exchange = record (exchange s p) { phase = phase.Idle; value = 0; within = None } in
      let less : idle_weight (most c + 1) (effect s (event.End p k v)) + 0 ≤ idle_weight (most c + 1) s + (most c + 1) =
      put_weight (most c + 1) s (effect s (event.End p k v)) p 0 (most c + 1) x (live_made s p l.live) well.exchanges refl (λ q. refl) (omega arith) in
      omega (arith, falls s (effect s (event.End p k v)) (event.End p k v) well traffic step refl, less)
  spent s (event.Take p k v) config well traffic l step node =
      let same : idle_weight (most c + 1) (effect s (event.Take p k v)) ≡ idle_weight (most c + 1) s = refl in
      omega (arith, falls s (effect s (event.Take p k v)) (event.Take p k v) well traffic step refl, same)
  spent s (event.Hear p k v) config well traffic l step node =
      let same : idle_weight (most c + 1) (effect s (event.Hear p k v)) ≡ idle_weight (most c + 1) s = refl in
      omega (arith, falls s (effect s (event.Hear p k v)) (event.Hear p k v) well traffic step refl, same)
  spent s (event.Miss p) config well traffic l step node =
      let same : idle_weight (most c + 1) (effect s (event.Miss p)) ≡ idle_weight (most c + 1) s = refl in
      omega (arith, falls s (effect s (event.Miss p)) (event.Miss p) well traffic step refl, same)
  spent s (event.Close p) config well traffic l step node = absurd (both_ways true node refl)
  spent s (event.Reopen p) config well traffic l step node = absurd (both_ways true node refl)
  spent s (event.Make n made from) config well traffic l step node = absurd (both_ways true node refl)
  spent s (event.Link p n x) config well traffic l step node = absurd (both_ways true node refl)
  spent s (event.Unlink p) config well traffic l step node = absurd (both_ways true node refl)
  spent s (event.Remove n) config well traffic l step node = absurd (both_ways true node refl)

  module _ (start : List Event) (config : (state_after start).config ≡ c) where
    one_spent : (xs : List Event) (e : Event) → IsNext (start ++ xs) e → is_of_change e ≡ false
        → ((state_after (start ++ xs)).config ≡ c)
        × ((rest (state_after (start ++ xs)) + idle_weight (most c + 1) (state_after (start ++ xs))) + length xs ≤ (rest (state_after start) + idle_weight (most c + 1) (state_after start)) + total (end_weight (most c + 1)) xs)
        → ((state_after (start ++ (xs ++ e ∷ []))).config ≡ c)
        × ((rest (state_after (start ++ (xs ++ e ∷ []))) + idle_weight (most c + 1) (state_after (start ++ (xs ++ e ∷ [])))) + length (xs ++ e ∷ [])
        ≤ (rest (state_after start) + idle_weight (most c + 1) (state_after start)) + total (end_weight (most c + 1)) (xs ++ e ∷ []))
    one_spent xs e here node so_far =
        let s = state_after (start ++ xs) in
        let next : state_after (start ++ (xs ++ e ∷ [])) ≡ effect s e = ap state_after (sym (append_assoc start xs (e ∷ []))) ∙ here.next in
        let cost = spent s e so_far.0 here.well here.traffic here.legal (record { allowed = allowed s e here.legal; changed = refl }) node in
        let left : rest (state_after (start ++ (xs ++ e ∷ []))) + idle_weight (most c + 1) (state_after (start ++ (xs ++ e ∷ []))) ≡ rest (effect s e) + idle_weight (most c + 1) (effect s e) =
        ap (λ (t : State). rest t + idle_weight (most c + 1) t) next in
        let less = so_far.1 in (
          ap (λ (t : State). t.config) next ∙ node_events_keep_the_configuration s e node ∙ so_far.0,
          omega (arith, cost, left, less, length-append xs (e ∷ []), total_both (end_weight (most c + 1)) xs (e ∷ [])),
        )

    pub all_spent : (later : List Event) → IsRun (start ++ later) → list_any is_of_change later ≡ false
        → (rest (state_after (start ++ later)) + idle_weight (most c + 1) (state_after (start ++ later))) + length later ≤ (rest (state_after start) + idle_weight (most c + 1) (state_after start)) + total (end_weight (most c + 1)) later
    all_spent later run_so none =
        let same : rest (state_after (start ++ [])) + idle_weight (most c + 1) (state_after (start ++ [])) ≡ rest (state_after start) + idle_weight (most c + 1) (state_after start) =
        ap (λ es. rest (state_after es) + idle_weight (most c + 1) (state_after es)) (append-nil start) in
        (further start
        (λ xs. ((state_after (start ++ xs)).config ≡ c)
        × ((rest (state_after (start ++ xs)) + idle_weight (most c + 1) (state_after (start ++ xs))) + length xs ≤ (rest (state_after start) + idle_weight (most c + 1) (state_after start)) + total (end_weight (most c + 1)) xs))
        is_of_change one_spent later run_so none (ap (λ es. (state_after es).config) (append-nil start) ∙ config, omega (arith, same))).1

-- so many ends weigh so much

abbrev times : ℕ → ℕ → ℕ
times g zero = 0
times g (suc n) = g + times g n

times_more : (g n k : ℕ) → n ≤ k → times g n ≤ times g k
times_more g zero k low = omega arith
times_more g (suc n) zero low = absurd (omega (arith, low))
times_more g (suc n) (suc k) low = omega (arith, times_more g n k (omega (arith, low)))

ends_weigh : (g : ℕ) (es : List Event) → total (end_weight g) es ≡ times g (count_by ends_transaction es)
ends_weigh g [] = refl
ends_weigh g (e ∷ es) = by (ends_transaction e) refl (ends_weigh g es)
  where
    by : (b : Bool) → ends_transaction e ≡ b → total (end_weight g) es ≡ times g (count_by ends_transaction es) → cond (ends_transaction e) g 0 + total (end_weight g) es ≡ times g (count_by ends_transaction (e ∷ es))
    by true is rest_so =
        let one : count_by ends_transaction (e ∷ es) ≡ suc (count_by ends_transaction es) = let all = sum_by-cons (λ y. cond (ends_transaction y) 1 0) e es ∙ ap (λ b. cond b 1 0 + count_by ends_transaction es) is in omega (arith, all) in
        ap (λ b. cond b g 0 + total (end_weight g) es) is ∙ ap (λ n. g + n) rest_so ∙ sym (ap (times g) one)
    by false is rest_so =
        let none : count_by ends_transaction (e ∷ es) ≡ count_by ends_transaction es = let all = sum_by-cons (λ y. cond (ends_transaction y) 1 0) e es ∙ ap (λ b. cond b 1 0 + count_by ends_transaction es) is in omega (arith, all) in
        let zero_more : cond (ends_transaction e) g 0 + total (end_weight g) es ≡ total (end_weight g) es = let z = ap (λ b. cond b g 0) is in omega (arith, z) in
        zero_more ∙ rest_so ∙ sym (ap (times g) none)

-- rounds from a reached world

record Reaches (w v : World) : Type 0 where
  later : List Event
  reached : IsReached v
  events_are : v.events ≡ w.events ++ later
  nodes : list_any is_of_change later ≡ false
  config : v.machine.config ≡ w.machine.config

reaches_itself : (w : World) → IsReached w → Reaches w w
reaches_itself w r = record { later = []; reached = r; events_are = sym (append-nil w.events); nodes = refl; config = refl }

reaches_then : (w v u : World) → Reaches w v → Reaches v u → Reaches w u
reaches_then w v u a b = record {
  later = a.later ++ b.later;
  reached = b.reached;
  events_are = b.events_are ∙ ap (λ es. es ++ b.later) a.events_are ∙ append_assoc w.events a.later b.later;
  nodes = none_both is_of_change a.later b.later a.nodes b.nodes;
  config = b.config ∙ a.config;
}

by_turn : (w : World) (n : ℕ) → IsReached w → is_live w.machine.config n ≡ true → Reaches w (turn w n true).world
by_turn w n r live =
    let node : (e : Event) → (turn w n true).event ≡ Some e → is_of_change e ≡ false = λ e is. (turn_goes_on w n true e r live is).of_node in
    record {
      later = cons_option (turn w n true).event [];
      reached = IsReached.by_turn w n true r live;
      events_are = turn_events w n true;
      nodes = by (turn w n true).event node;
      config = turn_config w n true node;
    }
  where
    by : (o : Option Event) → ((e : Event) → o ≡ Some e → is_of_change e ≡ false) → list_any is_of_change (cons_option o []) ≡ false
    by None node = refl
    by (Some e) node = ap (λ b. b || false) (node e refl)

by_turns : (ns : List ℕ) (r : Round) → IsReached r.world → ((n : ℕ) → In ns n → is_live r.world.machine.config n ≡ true) → Reaches r.world (fold (give_turn true) r ns).world
by_turns [] r reached live = reaches_itself r.world reached
by_turns (n ∷ ns) r reached live =
    let first = by_turn r.world n reached (live n (inl refl)) in
    reaches_then r.world (turn r.world n true).world (fold (give_turn true) (give_turn true r n) ns).world first
    (by_turns ns (give_turn true r n) first.reached (λ k i. ap (λ (d : Configuration). is_live d k) first.config ∙ live k (inr i)))

by_rounds : (w : World) (j : ℕ) → IsReached w → Reaches w (after_rounds true w j)
by_rounds w zero r = reaches_itself w r
by_rounds w (suc j) r =
    let first = by_rounds w j r in
    let v = after_rounds true w j in
    reaches_then w v (after_rounds true w (suc j)) first
    (by_turns (live_nodes v) (record { world = v; moved = false }) first.reached
    (λ n i. (selected (λ k. is_live v.machine.config k) 0 (length v.machine.config.slots) n i).passes))

-- a round that moved made an event

pub record Grew (long : ℕ) (r : Round) : Type 0 where
  pub no_less : long ≤ length r.world.events
  pub by_one : r.moved ≡ true → long + 1 ≤ length r.world.events

turn_long : (begins : Bool) (w : World) (n : ℕ) → length (turn w n begins).world.events ≡ length w.events + cond (is_some (turn w n begins).event) 1 0
turn_long begins w n = ap (λ (es : List Event). length es) (turn_events w n begins) ∙ length-append w.events (cons_option (turn w n begins).event []) ∙ by (turn w n begins).event
  where
    by : (o : Option Event) → length w.events + length (cons_option o []) ≡ length w.events + cond (is_some o) 1 0
    by None = refl
    by (Some e) = refl

turn_grew : (begins : Bool) (long : ℕ) (r : Round) (n : ℕ) → Grew long r → Grew long (give_turn begins r n)
turn_grew begins long r n h =
    let o = (turn r.world n begins).event in
    let all = turn_long begins r.world n in
    let low = h.no_less in
    record {
      no_less = omega (arith, all, low);
      by_one = λ moved. ⊎_elim
          (λ (before : r.moved ≡ true). let more = h.by_one before in omega (arith, all, more))
          (λ (now : is_some o ≡ true). let one : cond (is_some o) 1 0 ≡ 1 = ap {B = ℕ} (λ b. cond b 1 0) now in omega (arith, all, one, low))
          (or_cases r.moved (is_some o) moved);
    }

turns_grew : (begins : Bool) (long : ℕ) (ns : List ℕ) (r : Round) → Grew long r → Grew long (fold (give_turn begins) r ns)
turns_grew begins long [] r h = h
turns_grew begins long (n ∷ ns) r h = turns_grew begins long ns (give_turn begins r n) (turn_grew begins long r n h)

pub rounds_long : (begins : Bool) (w : World) (j : ℕ) → ((i : ℕ) → i ≤ j → stands_still begins w i ≡ false) → length w.events + j ≤ length (after_rounds begins w j).events
rounds_long begins w zero h = omega arith
rounds_long begins w (suc j) h =
    let v = after_rounds begins w j in
    let before = rounds_long begins w j (λ i low. h i (omega (arith, low))) in
    let moved : (round begins v).moved ≡ true = not-false (round begins v).moved (h (suc j) (omega arith)) in
    let grew = turns_grew begins (length v.events) (live_nodes v) (record { world = v; moved = false }) (record { no_less = omega arith; by_one = λ e. absurd (both_ways false refl e) }) in
    let more = grew.by_one moved in
    omega (arith, before, more)

-- some number passes, or none up to here
pub some_or_none : (test : ℕ → Bool) (n : ℕ) → ((j : ℕ) × (test j ≡ true)) ⊎ ((j : ℕ) → j ≤ n → test j ≡ false)
some_or_none test zero = ⊎_elim
    (λ (e : test 0 ≡ true). inl (0, e))
    (λ (e : test 0 ≡ false). inr (λ j low. let zero_is : j ≡ 0 = omega (arith, low) in ap test zero_is ∙ e))
    (cases_Bool (test 0))
some_or_none test (suc n) = ⊎_elim
    (λ (found : (j : ℕ) × (test j ≡ true)). inl found)
    (λ (none : (j : ℕ) → j ≤ n → test j ≡ false). ⊎_elim
    (λ (e : test (suc n) ≡ true). inl (suc n, e))
    (λ (e : test (suc n) ≡ false). inr (λ j low. ⊎_elim
    (λ (last : j ≡ suc n). ap test last ∙ e)
    (λ (other : j ≡ suc n → ⊥). none j (omega (arith, low, other)))
    (cases_eq j (suc n))))
    (cases_Bool (test (suc n))))
    (some_or_none test n)

pub runs_end : RestFalls → RestRises → RunsEnd
runs_end falls rises w k r = ⊎_elim
    (λ (found : (j : ℕ) × (run_ends w k j ≡ true)). found)
    (λ (none : (j : ℕ) → j ≤ bound → run_ends w k j ≡ false).
    let went = by_rounds w bound r in
    let v = after_rounds true w bound in
    let still : (i : ℕ) → i ≤ bound → stands_still true w i ≡ false = λ i low. (or_parts (nat_le k (ended (after_rounds true w i) - ended w)) (stands_still true w i) (none i low)).1 in
    let few : nat_le k (ended v - ended w) ≡ false = (or_parts (nat_le k (ended v - ended w)) (stands_still true w bound) (none bound (omega arith))).0 in
    let long = rounds_long true w bound still in
    let all_long : length v.events ≡ length w.events + length went.later = ap (λ (es : List Event). length es) went.events_are ∙ length-append w.events went.later in
    let all_ended : ended v ≡ ended w + count_by ends_transaction went.later = ap (count_by ends_transaction) went.events_are ∙ count_by-append ends_transaction w.events went.later in
    let less : ended v - ended w < k = below k (ended v - ended w) few in
    let run_so : IsRun (w.events ++ went.later) = subst IsRun went.events_are (holds_where_reached v went.reached).1.run in
    let spend = all_spent falls rises (state_after w.events).config w.events refl went.later run_so went.nodes in
    let weigh = ends_weigh (most (state_after w.events).config + 1) went.later in
    let more = times_more (most (state_after w.events).config + 1) (count_by ends_transaction went.later) k (omega (arith, less, all_ended)) in
    absurd (omega (arith, long, all_long, spend, weigh, more)))
    (some_or_none (run_ends w k) bound)
  where
    bound : ℕ
    bound =
        ((rest (state_after w.events) + idle_weight (most (state_after w.events).config + 1) (state_after w.events)) + times (most (state_after w.events).config + 1) k) + 1

    below : (a b : ℕ) → nat_le a b ≡ false → b < a
    below a b e = ⊎_elim (λ (low : b < a). low) (λ (past : a ≤ b). absurd (both_ways (nat_le a b) e (Rattle.std.proofs.lemmas.Bool.le-leb a b past))) (cases_lt b a)
