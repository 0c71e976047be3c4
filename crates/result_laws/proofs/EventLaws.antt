-- What one event of a node does at a port, and what it leaves there as it was: laws of all kinds of nodes.
use Rattle.std.proofs.Common.{◌≡◌, ◌∙◌, ℕ, ◌+◌, Bool, true, false, cond, Some, None, refl, sym, ap, subst}
use Rattle.std.specs.Prelude.{◌==◌, option_map}
use Rattle.std.specs.Option.{option_map_or}
use Rattle.std.proofs.lemmas.Bool.{and_parts, both_ways, eq-eqb, eqb-true, false_from_ne_true}
use Rattle.std.proofs.lemmas.Option.{none-some, same_Some}
use Rattle.base.proofs.OptionLaws.{map_or_true, option_map_some}
use Rattle.config_graph.specs.declared.node.Target.{Target}
use Rattle.component_trait.specs.Fold.{after_event, calls_at, is_request_at}
use Rattle.component_trait.specs.Moves as moves
use Rattle.component_trait.specs.States.{NodeState}
use Rattle.component_trait.proofs.FoldLaws.{where_so_then}
use Rattle.quiesce_word.specs.Phases.{is_idle, is_asked, is_answered, is_in_more}
use Rattle.quiesce_word.specs.declared.phase.Phase.TheVariants as phase
use Rattle.quiesce_word.proofs.PhaseLaws.{answered_busy, answered_not_asked, asked_busy, asked_not_more, more_busy}
use Rattle.quiesce_core.specs.Alters.{exchange_by, exchange_next, is_message_at, service_by, service_next}
use Rattle.quiesce_core.specs.Doers.{is_of_change, is_end_at, is_give_at, is_more_at}
use Rattle.quiesce_core.specs.Effect.{effect}
use Rattle.quiesce_core.specs.Legal.{Legal}
use Rattle.quiesce_core.specs.Rules.{is_taken}
use Rattle.quiesce_core.specs.Runs.{is_doer}
use Rattle.quiesce_core.specs.State.{Configuration, State, exchange, owner, service, target}
use Rattle.quiesce_core.specs.declared.event.Event.{Event}
use Rattle.quiesce_core.specs.declared.event.Event.TheVariants.{Begin, Call, Take, Give, End, More, Ask, Hear, Miss, Close, Reopen, Make, Link, Unlink, Remove}
use Rattle.quiesce_core.specs.declared.state.Exchange.{Exchange}
use Rattle.quiesce_core.specs.declared.state.Service.{Service}
use Rattle.quiesce_core.proofs.AlterLaws.{exchanges_next, services_next}
use Rattle.quiesce_core.proofs.PortEventLaws.{Turn, asks, ends, gives, passes, replies, replies_are_of_servers, starts, turn_of}
use Rattle.quiesce_core.proofs.RunLaws.{node_events_keep_the_configuration}
use Rattle.quiesce_core.proofs.StateLaws.{answered_unserved, is_taken_if, taken_busy, taken_is}
use Rattle.result_laws.proofs.FactLaws.{Facts, FoldsTo}

-- whether an event takes up at port p
abbrev pub takes_at : ℕ → Event → Bool
takes_at p (Take q k v) = q == p
takes_at p _ = false

pub record IsTakeAt (p : ℕ) (e : Event) : Type 0 where
  pub serial : ℕ
  pub value : ℕ
  pub is : e ≡ Take p serial value

pub take_at : (p : ℕ) (e : Event) → takes_at p e ≡ true → IsTakeAt p e
take_at p (Take q k v) h = record { serial = k; value = v; is = ap (λ i. Take i k v) (eqb-true q p h) }
take_at p _ h = absurd (both_ways false refl h)

-- whether it takes up anywhere
abbrev pub is_take : Event → Bool
is_take (Take p j v) = true
is_take _ = false

pub take_of : (e : Event) → is_take e ≡ true → (p : ℕ) × (takes_at p e ≡ true)
take_of (Take q k v) h = (q, eq-eqb q q refl)
take_of _ h = absurd (both_ways false refl h)

-- a node that begins nothing by itself keeps what it keeps, but by a Take
pub kept_but_by_take : (first : ℕ) (n t : NodeState) (e : Event) → moves.wants n ≡ None → is_take e ≡ false → after_event first n e ≡ Some t → t.kept ≡ n.kept
kept_but_by_take first n t (Begin p j v) none_ other h = sym (ap (λ (x : NodeState). x.kept) (where_so_then _ n t h).1)
kept_but_by_take first n t (Call p j v) none_ other h = sym (ap (λ (x : NodeState). x.kept) (where_so_then _ n t h).1)
kept_but_by_take first n t (Miss p) none_ other h = sym (ap (λ (x : NodeState). x.kept) (where_so_then _ (moves.after_answer n 0) t h).1)
kept_but_by_take first n t (Take p j v) none_ other h = absurd (both_ways true other refl)
kept_but_by_take first n t (Give p j v) none_ other h = sym (ap (λ (x : NodeState). x.kept) (where_so_then _ (moves.after_give n) t h).1)
kept_but_by_take first n t (More p j v) none_ other h = sym (ap (λ (x : NodeState). x.kept) (where_so_then _ (moves.after_more n) t h).1)
kept_but_by_take first n t (Hear p j v) none_ other h = sym (ap (λ (x : NodeState). x.kept) (where_so_then _ (moves.after_answer n v) t h).1)
kept_but_by_take first n t (Ask p j v) none_ other h = sym (ap (λ (x : NodeState). x.kept) (where_so_then _ n t h).1)
kept_but_by_take first n t (End p j v) none_ other h = by (calls_at first n p) h
  where
    by : (b : Bool) → cond b (Some (moves.after_answer n v)) (cond (is_request_at first p (moves.wants n)) (Some (moves.after_end n v)) None) ≡ Some t → t.kept ≡ n.kept
    by true is = sym (ap (λ (x : NodeState). x.kept) (same_Some (moves.after_answer n v) t is))
    by false is = absurd (none-some t (sym (ap (λ o. cond (is_request_at first p o) (Some (moves.after_end n v)) None) none_) ∙ is))
kept_but_by_take first n t _ none_ other h = absurd (none-some t h)

-- whether an event begins or calls at port p
abbrev pub starts_at : ℕ → Event → Bool
starts_at p (Begin q k v) = q == p
starts_at p (Call q k v) = q == p
starts_at p _ = false

pub record Now (s : State) (f g : ℕ → NodeState) (e : Event) : Type 0 where
  pub legal : Legal s e
  pub of_node : is_of_change e ≡ false
  pub folds : FoldsTo s e f g

-- an event of the change does nothing at a port
pub nothing_there : (s : State) (q : ℕ) (z : Event) → is_of_change z ≡ true → exchange_next s q z ≡ exchange s q
nothing_there s q (Close p) h = refl
nothing_there s q (Reopen p) h = refl
nothing_there s q (Make n node from) h = refl
nothing_there s q (Link p n x) h = refl
nothing_there s q (Unlink p) h = refl
nothing_there s q (Remove n) h = refl
nothing_there s q _ h = absurd (both_ways false refl h)

module _ (s : State) (f g : ℕ → NodeState) (facts : Facts s f) where
  pub does_at : (q n x : ℕ) → target s.config q ≡ Some (record { node = n; provide = x }) → option_map_or (λ m. m == n) (option_map (λ (t : Target). t.node) (target s.config q)) false ≡ true
  does_at q n x leads = ap (λ o. option_map_or (λ m. m == n) (option_map (λ (t : Target). t.node) o) false) leads ∙ eq-eqb n n refl

  pub led_to : (q n : ℕ) → option_map_or (λ m. m == n) (option_map (λ (t : Target). t.node) (target s.config q)) false ≡ true → (t : Target) × (target s.config q ≡ Some t) × (t.node ≡ n)
  led_to q n h =
      let a = map_or_true (λ m. m == n) (option_map (λ (t : Target). t.node) (target s.config q)) h in
      let b = option_map_some (λ (t : Target). t.node) (target s.config q) a.0 a.1 in
      (b.0, b.1, b.2 ∙ eqb-true a.0 n a.2)

  pub idle_untaken : (p : ℕ) → is_idle (exchange s p).phase ≡ true → is_taken s p ≡ false
  idle_untaken p idle = false_from_ne_true (is_taken s p) (λ h. both_ways (is_idle (exchange s p).phase) (taken_busy s p facts.traffic h) idle)

  pub answered_untaken : (p : ℕ) → is_answered (exchange s p).phase ≡ true → is_taken s p ≡ false
  answered_untaken p a = false_from_ne_true (is_taken s p) (λ h. let t = taken_is s p h in answered_unserved s p facts.traffic a t.to.node t.serving t.serviced t.of_port)

  -- a Take at this port isn't possible
  pub no_take : (r : ℕ) (e : Event) → Legal s e → is_asked (exchange s r).phase ≡ false → takes_at r e ≡ false
  no_take r (Take q k v) l not_asked = false_from_ne_true (q == r) (λ h.
      both_ways (is_asked (exchange s r).phase) not_asked (ap (λ i. is_asked (exchange s i).phase) (sym (eqb-true q r h)) ∙ l.asked))
  no_take r _ l not_asked = refl

  pub idle_not_asked : (r : ℕ) → is_idle (exchange s r).phase ≡ true → is_asked (exchange s r).phase ≡ false
  idle_not_asked r idle = false_from_ne_true (is_asked (exchange s r).phase) (λ h. both_ways (is_idle (exchange s r).phase) (asked_busy (exchange s r).phase h) idle)

  pub no_start : (q : ℕ) (e : Event) → is_doer s (owner s.config q) e ≡ false → starts_at q e ≡ false
  no_start q (Begin r k v) other = false_from_ne_true (r == q) (λ h.
      both_ways (owner s.config r == owner s.config q) other (eq-eqb (owner s.config r) (owner s.config q) (ap (owner s.config) (eqb-true r q h))))
  no_start q (Call r k v) other = false_from_ne_true (r == q) (λ h.
      both_ways (owner s.config r == owner s.config q) other (eq-eqb (owner s.config r) (owner s.config q) (ap (owner s.config) (eqb-true r q h))))
  no_start q _ other = refl

  no_message : (q : ℕ) (e : Event) → Legal s e → is_idle (exchange s q).phase ≡ true → starts_at q e ≡ false → is_message_at q e ≡ false
  no_message q (Begin r k v) l idle other = other
  no_message q (Call r k v) l idle other = other
  no_message q (Give r k v) l idle other = false_from_ne_true (r == q) (λ h.
      both_ways (is_taken s r) (ap (is_taken s) (eqb-true r q h) ∙ idle_untaken q idle) l.taken)
  no_message q (More r k v) l idle other = false_from_ne_true (r == q) (λ h.
      both_ways (is_taken s r) (ap (is_taken s) (eqb-true r q h) ∙ idle_untaken q idle) l.taken)
  no_message q (Ask r k v) l idle other = false_from_ne_true (r == q) (λ h. idle_or (exchange s r).phase (ap (λ i. is_idle (exchange s i).phase) (eqb-true r q h) ∙ idle) l.in_more)
    where
      idle_or : (x : _) → is_idle x ≡ true → is_in_more x ≡ true → ⊥
      idle_or phase.Idle a b = both_ways false refl b
      idle_or phase.Asked a b = both_ways false refl a
      idle_or phase.Answered a b = both_ways false refl a
      idle_or phase.More a b = both_ways false refl a
  no_message q (End r k v) l idle other = false_from_ne_true (r == q) (λ h.
      both_ways (is_idle (exchange s r).phase) (answered_busy (exchange s r).phase l.answered) (ap (λ i. is_idle (exchange s i).phase) (eqb-true r q h) ∙ idle))
  no_message q _ l idle other = refl

  pub passes_by : (q : ℕ) (e : Event) → Legal s e → is_message_at q e ≡ false → exchange (effect s e) q ≡ exchange s q
  passes_by q e l none_ = exchanges_next s e facts.well l q ∙ ap (λ b. cond b (exchange_by (service s (owner s.config q)) (exchange s q) e) (exchange s q)) none_

  pub idle_stays : (q : ℕ) (e : Event) → Legal s e → is_idle (exchange s q).phase ≡ true → is_doer s (owner s.config q) e ≡ false → exchange (effect s e) q ≡ exchange s q
  idle_stays q e l idle other = passes_by q e l (no_message q e l idle (no_start q e other))

  pub idle_passes : (q : ℕ) (e : Event) → Legal s e → is_idle (exchange s q).phase ≡ true → starts_at q e ≡ false → exchange (effect s e) q ≡ exchange s q
  idle_passes q e l idle none_ = passes_by q e l (no_message q e l idle none_)

  -- a port that is asked and neither given to nor replied to stays as it is
  pub asked_stays : (p : ℕ) (e : Event) → Legal s e → is_asked (exchange s p).phase ≡ true → is_give_at p e ≡ false → is_more_at p e ≡ false → exchange (effect s e) p ≡ exchange s p
  asked_stays p e l asked no_give no_more = by (turn_of s e facts.well l p)
    where
      by : Turn s p e → exchange (effect s e) p ≡ exchange s p
      by (passes now a b) = now
      by (starts h) = absurd (both_ways (is_idle (exchange s p).phase) (asked_busy (exchange s p).phase asked) h.idle)
      by (gives v t a now) = absurd (both_ways (is_give_at p e) no_give a)
      by (replies v t a now) = absurd (both_ways (is_more_at p e) no_more a)
      by (asks v a b d now) = absurd (both_ways (is_in_more (exchange s p).phase) (asked_not_more (exchange s p).phase asked) a)
      by (ends a b now) = absurd (both_ways (is_asked (exchange s p).phase) (answered_not_asked (exchange s p).phase a) asked)

  pub untaken_no_reply : (p : ℕ) (e : Event) → Legal s e → is_taken s p ≡ false → (is_give_at p e ≡ false) × (is_more_at p e ≡ false)
  untaken_no_reply p (Give q k v) l u = (false_from_ne_true (q == p) (λ h. both_ways (is_taken s q) (ap (is_taken s) (eqb-true q p h) ∙ u) l.taken), refl)
  untaken_no_reply p (More q k v) l u = (refl, false_from_ne_true (q == p) (λ h. both_ways (is_taken s q) (ap (is_taken s) (eqb-true q p h) ∙ u) l.taken))
  untaken_no_reply p _ l u = (refl, refl)

  -- it stays untaken but by a Take there
  served_before : (n : ℕ) (e : Event) (v : Service) → takes_at v.port e ≡ false → service_by (service s n) e ≡ Some v → (u : Service) × (service s n ≡ Some u) × (u.port ≡ v.port)
  served_before n (Call q k j) v other h = let b = option_map_some (λ (u : Service). record u { calls = u.calls + 1 }) (service s n) v h in (b.0, b.1, ap (λ (u : Service). u.port) b.2)
  served_before n (Miss q) v other h = let b = option_map_some (λ (u : Service). record u { calls = u.calls + 1 }) (service s n) v h in (b.0, b.1, ap (λ (u : Service). u.port) b.2)
  served_before n (Take q k j) v other h = absurd (both_ways (q == v.port) other (eq-eqb q v.port (ap (λ (u : Service). u.port) (same_Some _ v h))))
  served_before n (Give q k j) v other h = absurd (none-some v h)
  served_before n (More q k j) v other h =
      let b = option_map_some (λ (u : Service). record u { mores = u.mores + 1; heard = false }) (service s n) v h in (b.0, b.1, ap (λ (u : Service). u.port) b.2)
  served_before n (Hear q k j) v other h = let b = option_map_some (λ (u : Service). record u { heard = true }) (service s n) v h in (b.0, b.1, ap (λ (u : Service). u.port) b.2)
  served_before n _ v other h = (v, h, refl)

  pub untaken_stays : (p : ℕ) (e : Event) → Now s f g e → takes_at p e ≡ false → is_taken s p ≡ false → is_taken (effect s e) p ≡ false
  untaken_stays p e now other u = false_from_ne_true (is_taken (effect s e) p) (λ h.
      let t = taken_is (effect s e) p h in
      let leads : target s.config p ≡ Some t.to = ap (λ (d : Configuration). target d p) (sym (node_events_keep_the_configuration s e now.of_node)) ∙ t.leads in
      let served : service_next s t.to.node e ≡ Some t.serving = sym (services_next s e facts.well now.legal t.to.node) ∙ t.serviced in
      let before = by t.to.node t.serving (ap (λ i. takes_at i e) t.of_port ∙ other) (is_doer s t.to.node e) served in
      both_ways (is_taken s p) u (is_taken_if s p t.to before.0 leads before.1 (before.2 ∙ t.of_port)))
    where
      by : (n : ℕ) (v : Service) → takes_at v.port e ≡ false → (b : Bool) → cond b (service_by (service s n) e) (service s n) ≡ Some v → (x : Service) × (service s n ≡ Some x) × (x.port ≡ v.port)
      by n v none_ true h = served_before n e v none_ h
      by n v none_ false h = (v, h, refl)

  pub service_at : (p n x : ℕ) → target s.config p ≡ Some (record { node = n; provide = x }) → is_taken s p ≡ true → (v : Service) × (service s n ≡ Some v) × (v.port ≡ p)
  service_at p n x leads u =
      let t = taken_is s p u in
      (t.serving, ap (λ (y : Target). service s y.node) (sym (same_Some t.to (record { node = n; provide = x }) (sym t.leads ∙ leads))) ∙ t.serviced, t.of_port)

  pub no_reply : (e : Event) → (p n x : ℕ) → target s.config p ≡ Some (record { node = n; provide = x }) → is_taken s p ≡ true → is_doer s n e ≡ false → (is_give_at p e ≡ false) × (is_more_at p e ≡ false)
  no_reply e p n x leads u other =
      let v = service_at p n x leads u in
      let r = replies_are_of_servers s e facts.traffic n v.0 v.1 other in
      (ap (λ i. is_give_at i e) (sym v.2) ∙ r.0, ap (λ i. is_more_at i e) (sym v.2) ∙ r.1)

  taken_now : (e : Event) (p n x : ℕ) → Now s f g e → target s.config p ≡ Some (record { node = n; provide = x }) → IsTakeAt p e → is_taken (effect s e) p ≡ true
  taken_now e p n x now leads it =
      let made : Service = record { port = p; calls = 0; mores = 0; heard = true } in
      is_taken_if (effect s e) p (record { node = n; provide = x }) made
      (ap (λ (d : Configuration). target d p) (node_events_keep_the_configuration s e now.of_node) ∙ leads)
      (services_next s e facts.well now.legal n ∙ ap (service_next s n) it.is ∙ ap (λ b. cond b (Some made) (service s n)) (does_at p n x leads)) refl

  pub not_end : (q : ℕ) (e : Event) → is_doer s (owner s.config q) e ≡ false → is_end_at q e ≡ false
  not_end q (End r k v) other = false_from_ne_true (r == q) (λ h.
      both_ways (owner s.config r == owner s.config q) other (eq-eqb (owner s.config r) (owner s.config q) (ap (owner s.config) (eqb-true r q h))))
  not_end q _ other = refl

  -- what was taken up is what the port has
  pub record TookUp (p n : ℕ) (first : ℕ) (e : Event) (x : ℕ) : Type 0 where
    pub serial : ℕ
    pub folds : after_event first (f n) (Take p serial x) ≡ Some (g n)
    pub same : exchange (effect s e) p ≡ exchange s p
    pub quiet : (q : ℕ) → exchange (effect s e) q ≡ exchange s q
    pub taken : is_taken (effect s e) p ≡ true

  pub took_up : (e : Event) (p n x first : ℕ) → Now s f g e → target s.config p ≡ Some (record { node = n; provide = 0 }) → (exchange s p).value ≡ x
      → (is_doer s n e ≡ true → after_event first (f n) e ≡ Some (g n)) → IsTakeAt p e → TookUp p n first e x
  took_up e p n x first now leads v folded it =
      let does : is_doer s n e ≡ true = subst (λ z. is_doer s n z ≡ true) (sym it.is) (does_at p n 0 leads) in
      let l = subst (Legal s) it.is now.legal in
      let said = eqb-true it.value (exchange s p).value (and_parts (it.serial == (exchange s p).serial) (it.value == (exchange s p).value) l.message).1 in
      let all : (q : ℕ) → exchange (effect s e) q ≡ exchange s q = λ q. passes_by q e now.legal (ap (is_message_at q) it.is) in
      record {
        serial = it.serial;
        folds = subst (λ i. after_event first (f n) (Take p it.serial i) ≡ Some (g n)) (said ∙ v) (subst (λ z. after_event first (f n) z ≡ Some (g n)) it.is (folded does));
        same = all p;
        quiet = all;
        taken = taken_now e p n 0 now leads it;
      }

  pub asked_by_same : (e : Event) (p : ℕ) → exchange (effect s e) p ≡ exchange s p → is_asked (exchange s p).phase ≡ true → is_asked (exchange (effect s e) p).phase ≡ true
  asked_by_same e p same a = ap (λ (y : Exchange). is_asked y.phase) same ∙ a

  pub valued_by_same : (e : Event) (p x : ℕ) → exchange (effect s e) p ≡ exchange s p → (exchange s p).value ≡ x → (exchange (effect s e) p).value ≡ x
  valued_by_same e p x same v = ap (λ (y : Exchange). y.value) same ∙ v

  pub idle_not_more : (q : ℕ) → is_idle (exchange s q).phase ≡ true → is_in_more (exchange s q).phase ≡ true → ⊥
  idle_not_more q idle m = both_ways (is_idle (exchange s q).phase) (more_busy (exchange s q).phase m) idle

  pub idle_by_same : (e : Event) (q : ℕ) → exchange (effect s e) q ≡ exchange s q → is_idle (exchange s q).phase ≡ true → is_idle (exchange (effect s e) q).phase ≡ true
  idle_by_same e q same idle = ap (λ (y : Exchange). is_idle y.phase) same ∙ idle

  -- a port at which nothing begins keeps its serial
  pub serial_stays : (q : ℕ) (e : Event) → Legal s e → starts_at q e ≡ false → (exchange (effect s e) q).serial ≡ (exchange s q).serial
  serial_stays q e l none_ = ap (λ (x : Exchange). x.serial) (exchanges_next s e facts.well l q) ∙ by e none_
    where
      either : (c : Bool) (x y : Exchange) → x.serial ≡ y.serial → (cond c x y).serial ≡ y.serial
      either true x y h = h
      either false x y h = refl

      by : (z : Event) → starts_at q z ≡ false → (exchange_next s q z).serial ≡ (exchange s q).serial
      by (Begin p k v) h = ap (λ c. (cond c (exchange_by (service s (owner s.config q)) (exchange s q) (Begin p k v)) (exchange s q)).serial) h
      by (Call p k v) h = ap (λ c. (cond c (exchange_by (service s (owner s.config q)) (exchange s q) (Call p k v)) (exchange s q)).serial) h
      by (Give p k v) h = either (p == q) _ (exchange s q) refl
      by (More p k v) h = either (p == q) _ (exchange s q) refl
      by (Ask p k v) h = either (p == q) _ (exchange s q) refl
      by (End p k v) h = either (p == q) _ (exchange s q) refl
      by _ h = refl
