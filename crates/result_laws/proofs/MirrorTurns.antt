-- What nodes that are away stand apart from stays so, and turns of nodes keep worlds alike.
use Rattle.std.proofs.Common.{◌≡◌, ◌∙◌, ℕ, suc, ◌+◌, ◌-◌, ◌<◌, ◌≤◌, Bool, true, false, cond, List, [], ◌∷◌, ◌++◌, length, set, Option, Some, None, refl, sym, ap, subst, ⊎_elim, arith, length-set}
use Rattle.std.specs.Prelude.{◌==◌, IsTrue, fold, not, option_map, slice_index_or}
use Rattle.std.specs.List.{enumerate_from}
use Rattle.std.specs.Option.{option_map_or}
use Rattle.std.proofs.lemmas.Bool.{and_parts, both_ways, cases_Bool, cases_eq, cases_lt, eq-eqb, eqb-true, ne_eqb, or_right}
use Rattle.std.proofs.lemmas.List.{get_or_past}
use Rattle.std.proofs.lemmas.Option.{none-some, same_Some}
use Rattle.base.proofs.OptionLaws.{map_or_true}
use Rattle.config_graph.specs.Kinds.{row}
use Rattle.config_graph.specs.Wiring.{Reach, direct, through}
use Rattle.config_graph.specs.declared.node.Target.{Target}
use Rattle.component_trait.specs.Fold.{fold_next}
use Rattle.quiesce_word.specs.Phases.{is_asked, is_idle, is_in_more}
use Rattle.quiesce_word.specs.declared.phase.Phase.TheVariants as phase
use Rattle.quiesce_word.proofs.PhaseLaws.{asked_busy, serving_busy}
use Rattle.quiesce_core.specs.Alters.{exchange_next, service_by, service_next}
use Rattle.quiesce_core.specs.Doers.{is_of_change}
use Rattle.quiesce_core.specs.Effect.{effect}
use Rattle.quiesce_core.specs.Legal.{Legal}
use Rattle.quiesce_core.specs.Reach.{IsPortOf, wiring_of}
use Rattle.quiesce_core.specs.Rules.{is_taken}
use Rattle.quiesce_core.specs.Runs.{doer, is_doer}
use Rattle.quiesce_core.specs.State.{State, depends, exchange, owner, provision, service, slot, target}
use Rattle.quiesce_core.specs.Traffic.{IsConsistent}
use Rattle.quiesce_core.specs.WellFormed.{IsWellFormed}
use Rattle.quiesce_core.specs.declared.event.Event.{Event}
use Rattle.quiesce_core.specs.declared.event.Event.TheVariants as event
use Rattle.quiesce_core.specs.declared.state.Exchange.{Exchange}
use Rattle.quiesce_core.specs.declared.state.Service.{Service}
use Rattle.quiesce_core.specs.declared.state.Slot.{Slot}
use Rattle.quiesce_core.proofs.AlterLaws.{exchanges_next, services_next}
use Rattle.quiesce_core.proofs.ReachLaws.{owner_of}
use Rattle.quiesce_core.proofs.RunLaws.{node_events_keep_the_configuration}
use Rattle.quiesce_core.proofs.StateLaws.{taken_busy}
use Rattle.quiesce_core.proofs.TableLaws.{gate_place, live_made}
use Rattle.quiesce_laws.specs.Advances.{is_begin}
use Rattle.node_turn_laws.specs.Reached.{IsReached}
use Rattle.node_turn_laws.specs.Requests.{kept_back, leads_to, waits, waits_for, hints_for}
use Rattle.node_turn_laws.specs.Turn.{Request, is_full, post, post_one, request_of, with_hint, with_waiting}
use Rattle.node_turn_laws.specs.World.{World, first_port, inbox, state_of, waiting_of, with_event_of}
use Rattle.node_turn_laws.proofs.HintLaws.{hinted_where_reached, kept_there, place_of, some_hint, well_where_reached}
use Rattle.result_laws.proofs.Mirroring.{Alike, Apart, set_alike}

-- ---- what an event of a node does to what is apart

-- the event begins or calls at port p
abbrev pub calls_at : ℕ → Event → Bool
calls_at p (event.Begin q k v) = q == p
calls_at p (event.Call q k v) = q == p
calls_at p _ = false

idle_stays : (s : State) (e : Event) → IsConsistent s → Legal s e → (p : ℕ) → is_idle (exchange s p).phase ≡ true → calls_at p e ≡ false → is_idle (exchange_next s p e).phase ≡ true
idle_stays s (event.Begin q k v) t l p idle none_ = rw none_ idle
idle_stays s (event.Call q k v) t l p idle none_ = rw none_ idle
idle_stays s (event.Give q k v) t l p idle none_ =
    rw (ne_eqb q p (λ same. both_ways (is_idle (exchange s q).phase) (taken_busy s q t l.taken) (ap (λ i. is_idle (exchange s i).phase) same ∙ idle))) idle
idle_stays s (event.More q k v) t l p idle none_ =
    rw (ne_eqb q p (λ same. both_ways (is_idle (exchange s q).phase) (taken_busy s q t l.taken) (ap (λ i. is_idle (exchange s i).phase) same ∙ idle))) idle
idle_stays s (event.Ask q k v) t l p idle none_ =
    rw (ne_eqb q p (λ same.
    both_ways (is_idle (exchange s q).phase) (serving_busy (exchange s q).phase (or_right (is_asked (exchange s q).phase) (is_in_more (exchange s q).phase) l.in_more))
    (ap (λ i. is_idle (exchange s i).phase) same ∙ idle))) idle
idle_stays s (event.End q k v) t l p idle none_ = by (q == p)
  where
    by : (b : Bool) → is_idle (cond b (record (exchange s p) { phase = phase.Idle; value = 0; within = None }) (exchange s p)).phase ≡ true
    by true = refl
    by false = idle
idle_stays s _ t l p idle none_ = idle

-- an event of node n, which isn't away
pub record IsDoneBy (s : State) (n : ℕ) (e : Event) : Type 0 where
  pub formed : IsWellFormed s
  pub traffic : IsConsistent s
  pub legal : Legal s e
  pub of_node : is_of_change e ≡ false
  pub begins_none : is_begin e ≡ false
  pub own : doer s e ≡ Some n

-- no call goes to a node that is away: a service that made it would reach that node already
pub none_called : (away : ℕ → Bool) (s : State) (n : ℕ) (e : Event) → IsDoneBy s n e → Apart away s → (m p : ℕ) → away m ≡ true → Reach (wiring_of s.config) m p → calls_at p e ≡ false
none_called away s n (event.Begin q k v) d apart m p is r = absurd (both_ways true d.begins_none refl)
none_called away s n (event.Call q k v) d apart m p is r = ne_eqb q p (λ same.
    let c = s.config in
    let mine = owner c q in
    let w = map_or_true (λ (x : Service). depends c mine (provision c x.port) q) (service s mine) d.legal.serves_through in
    let serving = d.traffic.serving mine w.0 w.1 in
    let by : provision c w.0.port ≡ serving.provide = ap (λ o. option_map_or (λ (t : Target). t.provide) o 0) serving.linked in
    let port = d.formed.sound.ports q (gate_place s q d.legal.live) in
    let on : Reach (wiring_of c) m w.0.port = through (subst (Reach (wiring_of c) m) (sym same) r) (port, subst (λ x. IsTrue (depends c mine x q)) by w.2) serving.linked in
    both_ways (is_idle (exchange s w.0.port).phase) (serving_busy (exchange s w.0.port).phase serving.busy) (apart.reaching m w.0.port is on))
none_called away s n _ d apart m p is r = refl

-- nor is it made by one
own_calls_none : (away : ℕ → Bool) (s : State) (n : ℕ) (e : Event) → IsDoneBy s n e → away n ≡ false → (m p : ℕ) → away m ≡ true → IsPortOf s.config m p → calls_at p e ≡ false
own_calls_none away s n (event.Begin q k v) d no_ m p is o = absurd (both_ways true d.begins_none refl)
own_calls_none away s n (event.Call q k v) d no_ m p is o = ne_eqb q p (λ same.
    let one : n ≡ m = sym (same_Some (owner s.config q) n d.own) ∙ ap (owner s.config) same ∙ owner_of s.config d.formed.sound m p o in
    both_ways (away n) no_ (ap away one ∙ is))
own_calls_none away s n _ d no_ m p is o = refl

pub apart_goes_on : (away : ℕ → Bool) (s : State) (n : ℕ) (e : Event) → IsDoneBy s n e → away n ≡ false → Apart away s → Apart away (effect s e)
apart_goes_on away s n e d no_ apart =
    let same = node_events_keep_the_configuration s e d.of_node in
    record {
      serves = λ m is.
          services_next s e d.formed d.legal m
          ∙ ap (λ b. cond b (service_by (service s m) e) (service s m))
          (ap (λ o. option_map_or (λ k. k == m) o false) d.own ∙ ne_eqb n m (λ one. both_ways (away n) no_ (ap away one ∙ is)))
          ∙ apart.serves m is;
      own = λ m p is o.
          let o' = subst (λ c. IsPortOf c m p) same o in
          ap (λ (x : Exchange). is_idle x.phase) (exchanges_next s e d.formed d.legal p) ∙ idle_stays s e d.traffic d.legal p (apart.own m p is o') (own_calls_none away s n e d no_ m p is o');
      reaching = λ m p is r.
          let r' = subst (λ c. Reach (wiring_of c) m p) same r in
          ap (λ (x : Exchange). is_idle x.phase) (exchanges_next s e d.formed d.legal p) ∙ idle_stays s e d.traffic d.legal p (apart.reaching m p is r') (none_called away s n e d apart m p is r');
    }

-- ---- posts

-- there is a place for the hints of node n, and an inbox for node m
pub record HasRows (w : World) (n boxes : ℕ) : Type 0 where
  pub row : n < length w.waiting
  pub boxes_are : length w.inboxes ≡ boxes

waiting_alike : (away : ℕ → Bool) (a b : World) (n r : ℕ) (o : Option ℕ) → Alike away a b → away n ≡ false → n < length a.waiting → n < length b.waiting
    → Alike away (with_waiting a n r o) (with_waiting b n r o)
waiting_alike away a b n r o h no_ low low' = record {
  slots = h.slots;
  targets = h.targets;
  exchanges = h.exchanges;
  services = h.services;
  states = h.states;
  boxes = h.boxes;
  waits = λ k here. set_alike a.waiting b.waiting n k (set (waiting_of a n) r o) (set (waiting_of b n) r o) [] low low' (ap (λ ws. set ws r o) (h.waits n no_)) (h.waits k here);
}

hint_alike : (away : ℕ → Bool) (a b : World) (m p q : ℕ) → Alike away a b → away m ≡ false → p ≡ q → m < length a.inboxes → m < length b.inboxes → Alike away (with_hint a m p) (with_hint b m q)
hint_alike away a b m p q h no_ one low low' = record {
  slots = h.slots;
  targets = h.targets;
  exchanges = h.exchanges;
  services = h.services;
  states = h.states;
  boxes = λ k here. set_alike a.inboxes b.inboxes m k (inbox a m ++ p ∷ []) (inbox b m ++ q ∷ []) [] low low' (λ i. h.boxes m no_ i ++ one i ∷ []) (h.boxes k here);
  waits = h.waits;
}

pub first_alike : (away : ℕ → Bool) (a b : World) (n : ℕ) → Alike away a b → away n ≡ false → first_port a.machine n ≡ first_port b.machine n
first_alike away a b n h no_ = ap (λ o. option_map_or (λ (k : Slot). k.first_port) o 0) (h.slots n no_)

-- the hint goes to a node that isn't away
pub post_alike : (away : ℕ → Bool) (a b : World) (n r m ca cb : ℕ) → Alike away a b → away n ≡ false → away m ≡ false → HasRows a n ca → HasRows b n cb → m < ca → m < cb → Alike away (post a n r m) (post b n r m)
post_alike away a b n r m ca cb h no_ to rows rows' low low' = by (is_full (inbox a m)) (is_full (inbox b m)) (ap is_full (h.boxes m to))
  where
    put : World → World
    put w = with_hint (with_waiting w n r None) m (first_port w.machine n + r)

    by : (x y : Bool) → x ≡ y → Alike away (cond x (with_waiting a n r (Some m)) (put a)) (cond y (with_waiting b n r (Some m)) (put b))
    by true true e = waiting_alike away a b n r (Some m) h no_ rows.row rows'.row
    by false false e =
        hint_alike away (with_waiting a n r None) (with_waiting b n r None) m (first_port a.machine n + r) (first_port b.machine n + r) (waiting_alike away a b n r None h no_ rows.row rows'.row) to
        (ap (λ k. k + r) (first_alike away a b n h no_)) (let boxes = rows.boxes_are in omega (arith, boxes, low)) (let boxes = rows'.boxes_are in omega (arith, boxes, low'))
    by true false e = absurd (both_ways true e refl)
    by false true e = absurd (both_ways false refl e)

pub rows_posted : (w : World) (n k r m c : ℕ) → HasRows w n c → HasRows (post w k r m) n c
rows_posted w n k r m c h = by (is_full (inbox w m))
  where
    by : (x : Bool) → HasRows (cond x (with_waiting w k r (Some m)) (with_hint (with_waiting w k r None) m (first_port w.machine k + r))) n c
    by true = record { row = (let low = h.row in let long = length-set w.waiting k (set (waiting_of w k) r (Some m)) in omega (arith, low, long)); boxes_are = h.boxes_are }
    by false = record {
      row = (let low = h.row in let long = length-set w.waiting k (set (waiting_of w k) r None) in omega (arith, low, long));
      boxes_are = length-set w.inboxes m (inbox w m ++ (first_port w.machine k + r) ∷ []) ∙ h.boxes_are;
    }

-- a node for which a hint may be posted in both
pub record IsFine (away : ℕ → Bool) (ca cb m : ℕ) : Type 0 where
  pub to : away m ≡ false
  pub low : m < ca
  pub low_there : m < cb

pub record Posted (away : ℕ → Bool) (a b : World) (n ca cb : ℕ) : Type 0 where
  pub alike : Alike away a b
  pub rows : HasRows a n ca
  pub rows_there : HasRows b n cb

pub posts_alike : (away : ℕ → Bool) (n ca cb i : ℕ) (xs : List (Option ℕ)) → ((j m : ℕ) → slice_index_or xs j None ≡ Some m → IsFine away ca cb m) → away n ≡ false → (a b : World) → Posted away a b n ca cb
    → Posted away (fold (post_one n) a (enumerate_from i xs)) (fold (post_one n) b (enumerate_from i xs)) n ca cb
posts_alike away n ca cb i [] fine no_ a b h = h
posts_alike away n ca cb i (None ∷ xs) fine no_ a b h = posts_alike away n ca cb (i + 1) xs (λ j m is. fine (suc j) m is) no_ a b h
posts_alike away n ca cb i (Some m ∷ xs) fine no_ a b h =
    let f = fine 0 m refl in
    posts_alike away n ca cb (i + 1) xs (λ j k is. fine (suc j) k is) no_ (post a n i m) (post b n i m)
    (record {
      alike = post_alike away a b n i m ca cb h.alike no_ f.to h.rows h.rows_there f.low f.low_there;
      rows = rows_posted a n n i m ca h.rows;
      rows_there = rows_posted b n n i m cb h.rows_there;
    })

-- whether it is this node's
abbrev names_node : ℕ → Option ℕ → Bool
names_node m o = option_map_or (λ k. k == m) o false

-- the request of a hint that waits
pub record WaitsAt (w : World) (p m : ℕ) : Type 0 where
  pub asked : is_asked (exchange w.machine p).phase ≡ true
  pub to : Target
  pub leads : target w.machine.config p ≡ Some to
  pub is_node : to.node ≡ m

pub hint_waits : (w : World) → IsReached w → (n : ℕ) (k : Slot) → slot w.machine.config n ≡ Some k → (r m : ℕ) → slice_index_or (waiting_of w n) r None ≡ Some m
    → (r < length (row k.node.kind).requires_) × WaitsAt w (k.first_port + r) m
hint_waits w reached n k there r m is = ⊎_elim
    (λ (in_row : r < length (waiting_of w n)).
    let h = hinted_where_reached w reached in
    let c = w.machine.config in
    let p = k.first_port + r in
    let long = h.fits.row_of n k there in
    let low : r < length (row k.node.kind).requires_ = omega (arith, in_row, long) in
    let at = place_of w h.fits (well_where_reached w reached).sound n r k there low in
    let kept : kept_back w p ≡ Some m = kept_there w n r p at ∙ is in
    let one : ◌≡◌ {A = ℕ} (cond (names_node m (kept_back w p)) 1 0) 1 = ap {B = ℕ} (λ o. cond (names_node m o) 1 0) kept ∙ ap {B = ℕ} (λ b. cond b 1 0) (eq-eqb m m refl) in
    let waiting = some_hint (waits_for w.machine m p) (hints_for w m p) (h.hints m p) (omega (arith, one)) in
    let both = and_parts (waits w.machine p) (leads_to c m p) waiting in
    let t = map_or_true (λ (x : Target). x.node == m) (target c p) both.1 in (
      low,
      record { asked = (and_parts (is_asked (exchange w.machine p).phase) (not (is_taken w.machine p)) both.0).0; to = t.0; leads = t.1; is_node = eqb-true t.0.node m t.2 },
    ))
    (λ (past : length (waiting_of w n) ≤ r). absurd (none-some m (sym (get_or_past (waiting_of w n) r None past) ∙ is)))
    (cases_lt r (length (waiting_of w n)))

-- it is for a node that was made, and isn't away
pub record IsForOne (away : ℕ → Bool) (w : World) (m : ℕ) : Type 0 where
  pub to : away m ≡ false
  pub made : m < length w.machine.config.slots

pub waits_for_one : (away : ℕ → Bool) (w : World) → IsReached w → Apart away w.machine → (n : ℕ) (k : Slot) → slot w.machine.config n ≡ Some k → (r m : ℕ) → slice_index_or (waiting_of w n) r None ≡ Some m → IsForOne away w m
waits_for_one away w reached apart n k there r m is =
    let c = w.machine.config in
    let p = k.first_port + r in
    let h = (hint_waits w reached n k there r m is).1 in
    record {
      to = ⊎_elim
          (λ (yes_ : away m ≡ true). absurd (both_ways (is_idle (exchange w.machine p).phase) (asked_busy (exchange w.machine p).phase h.asked)
          (apart.reaching m p yes_ (direct {p = p} {x = h.to.provide} (h.leads ∙ ap (λ i. Some (record { node = i; provide = h.to.provide })) h.is_node)))))
          (λ (no_ : away m ≡ false). no_)
          (cases_Bool (away m));
      made = subst (λ i. i < length c.slots) h.is_node (live_made c h.to.node ((well_where_reached w reached).sound.targets p h.to h.leads).live);
    }

-- ---- an event of a node, in both worlds

pub record Does (w : World) (n : ℕ) (e : Event) : Type 0 where
  pub done : IsDoneBy w.machine n e
  pub low : n < length w.folds

same_exchange : (s u : State) (n : ℕ) (e : Event) → doer s e ≡ Some n → doer u e ≡ Some n → ((p : ℕ) → exchange s p ≡ exchange u p) → ((k : ℕ) → service s k ≡ service u k) → (p : ℕ) → exchange_next s p e ≡ exchange_next u p e
same_exchange s u n (event.Begin q k v) own own' xs vs p = λ i. cond (q == p) (record { phase = phase.Asked; serial = k; value = v; within = None }) (xs p i)
same_exchange s u n (event.Call q k v) own own' xs vs p = ⊎_elim
    (λ (same : q ≡ p).
    let here : owner s.config p ≡ n = ap (owner s.config) (sym same) ∙ same_Some (owner s.config q) n own in
    let there : owner u.config p ≡ n = ap (owner u.config) (sym same) ∙ same_Some (owner u.config q) n own' in
    let serves : service s (owner s.config p) ≡ service u (owner u.config p) = ap (service s) here ∙ vs n ∙ sym (ap (service u) there) in
    λ i. cond (q == p) (record { phase = phase.Asked; serial = k; value = v; within = option_map (λ (w : Service). w.port) (serves i) }) (xs p i))
    (λ (other : q ≡ p → ⊥). rw (ne_eqb q p other) (xs p))
    (cases_eq q p)
same_exchange s u n (event.Give q k v) own own' xs vs p = λ i. cond (q == p) (record (xs p i) { phase = phase.Answered; value = v }) (xs p i)
same_exchange s u n (event.More q k v) own own' xs vs p = λ i. cond (q == p) (record (xs p i) { phase = phase.More; value = v }) (xs p i)
same_exchange s u n (event.Ask q k v) own own' xs vs p = λ i. cond (q == p) (record (xs p i) { phase = phase.Asked; value = v }) (xs p i)
same_exchange s u n (event.End q k v) own own' xs vs p = λ i. cond (q == p) (record (xs p i) { phase = phase.Idle; value = 0; within = None }) (xs p i)
same_exchange s u n _ own own' xs vs p = xs p

pub event_alike : (away : ℕ → Bool) (a b : World) (n : ℕ) (e : Event) → Alike away a b → away n ≡ false → Does a n e → Does b n e → Alike away (with_event_of a n e) (with_event_of b n e)
event_alike away a b n e h no_ d d' =
    let s = a.machine in
    let u = b.machine in
    let config = node_events_keep_the_configuration s e d.done.of_node in
    let config' = node_events_keep_the_configuration u e d'.done.of_node in
    record {
      slots = λ k here. ap (λ c. slot c k) config ∙ h.slots k here ∙ sym (ap (λ c. slot c k) config');
      targets = λ k p here o. ap (λ c. target c p) config ∙ h.targets k p here (subst (λ c. IsPortOf c k p) config o) ∙ sym (ap (λ c. target c p) config');
      exchanges = λ p.
          exchanges_next s e d.done.formed d.done.legal p ∙ same_exchange s u n e d.done.own d'.done.own h.exchanges h.services p
          ∙ sym (exchanges_next u e d'.done.formed d'.done.legal p);
      services = λ k.
          let does : is_doer s k e ≡ is_doer u k e = ap (λ o. option_map_or (λ j. j == k) o false) (d.done.own ∙ sym d'.done.own) in
          let next : service_next s k e ≡ service_next u k e = λ i. cond (does i) (service_by (h.services k i) e) (h.services k i) in
          services_next s e d.done.formed d.done.legal k ∙ next ∙ sym (services_next u e d'.done.formed d'.done.legal k);
      states = λ k here.
          set_alike a.folds b.folds n k (fold_next (first_port s n) (state_of a n) e) (fold_next (first_port u n) (state_of b n) e) None d.low d'.low
          (λ i. fold_next (first_alike away a b n h no_ i) (h.states n no_ i) e) (h.states k here);
      boxes = h.boxes;
      waits = h.waits;
    }

-- the request of the event is the same in both, for a node that isn't away
own_of_call : (s : State) (n q k v : ℕ) → IsDoneBy s n (event.Call q k v) → IsPortOf s.config n q
own_of_call s n q k v d = subst (λ i. IsPortOf s.config i q) (same_Some (owner s.config q) n d.own) (d.formed.sound.ports q (gate_place s q d.legal.live))

pub request_alike : (away : ℕ → Bool) (a b : World) (n : ℕ) (e : Event) → Alike away a b → away n ≡ false → IsDoneBy a.machine n e → request_of a.machine n e ≡ request_of b.machine n e
request_alike away a b n (event.Begin q k v) h no_ d = absurd (both_ways true d.begins_none refl)
request_alike away a b n (event.Call q k v) h no_ d =
    λ i. option_map (λ (t : Target). record { require = q - first_alike away a b n h no_ i; node = t.node }) (h.targets n q no_ (own_of_call a.machine n q k v d) i)
request_alike away a b n _ h no_ d = refl

pub requests_one : (away : ℕ → Bool) (s : State) (n : ℕ) (e : Event) → IsDoneBy s n e → Apart away s → (x : Request) → request_of s n e ≡ Some x → (away x.node ≡ false) × (x.node < length s.config.slots)
requests_one away s n (event.Begin q k v) d apart x is = absurd (both_ways true d.begins_none refl)
requests_one away s n (event.Call q k v) d apart x is = by (target s.config q) refl is
  where
    by : (o : Option Target) → target s.config q ≡ o → option_map (λ (t : Target). record { require = q - first_port s n; node = t.node }) o ≡ Some x → (away x.node ≡ false) × (x.node < length s.config.slots)
    by None e h = absurd (none-some x h)
    by (Some t) e h =
        let one : t.node ≡ x.node = ap (λ (y : Request). y.node) (same_Some (record { require = q - first_port s n; node = t.node }) x h) in (
          sym (ap away one)
              ∙ ⊎_elim
              (λ (yes_ : away t.node ≡ true). absurd (both_ways (q == q) (none_called away s n (event.Call q k v) d apart t.node q yes_ (direct {p = q} {x = t.provide} e)) (eq-eqb q q refl)))
              (λ (no_ : away t.node ≡ false). no_)
              (cases_Bool (away t.node)),
          subst (λ i. i < length s.config.slots) one (live_made s.config t.node (d.formed.sound.targets q t e).live),
        )
requests_one away s n _ d apart x is = absurd (none-some x is)
