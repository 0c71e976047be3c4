-- No rule denies the event of a node that may do it by what it knows.
use Rattle.std.proofs.Common.{◌≡◌, ◌∙◌, ℕ, ◌+◌, ◌-◌, ◌^◌, ◌<◌, ◌≤◌, Bool, true, false, not, length, Option, Some, None, refl, ap, sym, subst, arith, rules, inl, inr}
use Rattle.std.specs.Prelude.{◌||◌, ◌==◌, nat_lt, is_some, is_none, option_map}
use Rattle.std.specs.Option.{option_map_or}
use Rattle.std.proofs.lemmas.Bool.{eq-eqb, eqb-true, false≢true, le-leb, lt-ltb, ltb-true, ne_eqb}
use Rattle.config_graph.specs.Kinds.{row, calls_of, depends_on, mores_of}
use Rattle.config_graph.specs.declared.node.Target.{Target}
use Rattle.quiesce_word.specs.Phases.{is_asked, is_idle, is_in_more}
use Rattle.quiesce_word.specs.Words.{FitsWord, is_missing, pack, unpack}
use Rattle.quiesce_word.specs.declared.word.Word.{Word}
use Rattle.quiesce_core.specs.Doers.{is_of_change}
use Rattle.quiesce_core.specs.Knowledge.{IsPortKnown, IsServed, KnowsService, known_next}
use Rattle.quiesce_core.specs.declared.event.Event.{Event}
use Rattle.quiesce_core.specs.Rules as rules
use Rattle.quiesce_core.specs.Rules.{calls_have_ended, denial, is_live_port, is_taken, last_serial, serves_through, value_limit, was_heard}
use Rattle.quiesce_core.specs.Runs.{Step, doer, is_doer}
use Rattle.quiesce_core.specs.State.{State, exchange, gate, owner, provides, service, target, target_service}
use Rattle.quiesce_core.specs.Traffic.{IsConsistent}
use Rattle.quiesce_core.specs.WellFormed.{IsWellFormed}
use Rattle.quiesce_core.specs.Words.{word_of}
use Rattle.quiesce_core.specs.Fields.{fields_of}
use Rattle.quiesce_core.specs.declared.event.Event.TheVariants.{Begin, Call, Take, Give, End, More, Ask, Hear, Miss}
use Rattle.quiesce_core.specs.declared.known.Known.{Known}
use Rattle.quiesce_core.specs.declared.known.PortKnown.{PortKnown}
use Rattle.quiesce_core.specs.declared.known.Served.{Served}
use Rattle.config_graph.proofs.KindLaws.{few_calls, few_mores, two_requires}
use Rattle.base.proofs.OptionLaws.{Some-from_is_some}
use Rattle.quiesce_core.specs.declared.state.Service.{Service}
use Rattle.quiesce_core.specs.declared.state.Slot.{Slot}
use Rattle.quiesce_core.proofs.KnownLaws.{judged_calls, judged_ended, judged_heard, judged_mores, judged_serves_through, judged_taken, knows_none, knows_some}
use Rattle.quiesce_core.proofs.StabilityLaws.{busy_is_live}
use Rattle.quiesce_core.proofs.StateLaws.{served_busy, target_service_is}
use Rattle.quiesce_word.proofs.PhaseLaws.{answered_not_more, asked_busy, more_not_answered, serving_busy}
use Rattle.quiesce_core.proofs.LegalLaws.{allowed, legal}
use Rattle.quiesce_core.proofs.RunLaws.{node_events_keep_the_configuration}
use Rattle.quiesce_core.proofs.WordLaws.{port_words_decode, port_words_fit}
use Rattle.node_gate.specs.Answers.{HasWord, IsSpentAt, IsTargetAt, SeeSays}
use Rattle.node_gate.specs.Looks.{WordShows}
use Rattle.node_gate.specs.Moves.{seen_by, with_seen}
use Rattle.node_gate.specs.declared.answers.SeeAnswer.{SeeAnswer}
use Rattle.node_gate.specs.declared.answers.SeeAnswer.TheVariants.{Answer, NotYet}
use Rattle.node_gate.specs.declared.answers.SeeAnswer.TheVariants as see
use Rattle.std.proofs.lemmas.List.{length-set}
use Rattle.std.proofs.lemmas.Option.{same_Some}
use Rattle.std.specs.Cmp.Derive.{both_true}
use Rattle.base.proofs.PlaceLaws.{slice_get-set_cases}
use Rattle.node_gate.specs.Core.{FitsCore, node_at}
use Rattle.node_gate.specs.Seats.{HasEndedCalls, IsOwn, MayAsk, MayBegin, MayCallAt, MayEnd, MayGive, MayHear, MaySee, MaySendMore, MayTake, NodeAt, has_calls_left, has_heard, has_mores_left, port_known, serial_served, serves, value_seen}
use Rattle.node_gate.proofs.CoreLemmas.{fits_by_others, fits_by_own, known_there, made_slot, node_is, own_known, own_live, owner_is}

one_doer : (o : Option ℕ) (n m : ℕ) → option_map_or (λ i. i == n) o false ≡ true → (m ≡ n → ⊥) → option_map_or (λ i. i == m) o false ≡ false
one_doer None n m does other = absurd (false≢true does)
one_doer (Some i) n m does other = ne_eqb i m (λ e. other (sym e ∙ eqb-true i n does))

module _ (s : State) (wf : IsWellFormed s) (con : IsConsistent s) (n : ℕ) (w : Known) (fits : FitsCore s n w) where
  -- the owner of an own port does its events
  own_doer : (p : ℕ) → IsOwn (node_at s.config n) p → (owner s.config p == n) ≡ true
  own_doer p own = eq-eqb (owner s.config p) n (owner_is s wf con n w fits p own)

  pub begin_allowed : (p v : ℕ) (t : Target) → MayBegin (node_at s.config n) w p v → (gate s.config p).closed ≡ false → target s.config p ≡ Some t → (exchange s p).serial < last_serial
      → denial s (Begin p ((exchange s p).serial + 1) v) ≡ None
  begin_allowed p v t may opened linked unspent =
      let last : (exchange s p).serial + 1 ≤ last_serial = omega (arith, unspent) in
      allowed s (Begin p ((exchange s p).serial + 1) v)
      (record {
        live = own_live s wf con n w fits p may.own;
        opened = ap not opened;
        linked = ap is_some linked;
        idle = sym (own_known s wf con n w fits p may.own).idle ∙ may.idle;
        next_serial = search (rules, eq-eqb ((exchange s p).serial + 1) ((exchange s p).serial + 1) refl, le-leb ((exchange s p).serial + 1) last_serial last);
        value = lt-ltb v value_limit may.small;
      })

  pub begin_doer : (p k v : ℕ) → IsOwn (node_at s.config n) p → is_doer s n (Begin p k v) ≡ true
  begin_doer p k v own = own_doer p own

  -- a refusal by the word of the state
  pub has_word : (p number : ℕ) (word : Word) (shows : Word → Bool) → word ≡ fields_of s p → number ≡ pack word → shows word ≡ true → HasWord (Some s) p number shows
  has_word p number word shows e packed h =
      let there : number ≡ word_of s p = packed ∙ ap pack e in
      record {
        cause = subst (λ x. shows x ≡ true) (sym (ap unpack there ∙ port_words_decode s wf p ∙ sym e)) h;
        there = there;
      }

pub fields_fit : (s : State) (p : ℕ) → IsWellFormed s → FitsWord (fields_of s p)
fields_fit s p wf = port_words_fit s wf p

-- after a step of the node at the seat its seat fits, with one more event known, and each other that fitted
pub fits_then : (s t : State) (e : Event) (n : ℕ) (w : Known) → IsWellFormed s → IsConsistent s → FitsCore s n w → Step s e t → is_of_change e ≡ false → is_doer s n e ≡ true
    → FitsCore t n (known_next (node_at s.config n).first w e)
fits_then s t e n w wf con fits step by_node does =
    subst (λ u. FitsCore u n (known_next (node_at s.config n).first w e)) (sym step.changed) (fits_by_own s wf con n w fits e (legal s e step.allowed) by_node does)

pub others_fit_then : (s t : State) (e : Event) (n m : ℕ) (w : Known) → IsWellFormed s → IsConsistent s → Step s e t → is_of_change e ≡ false → is_doer s n e ≡ true
    → (m ≡ n → ⊥) → FitsCore s m w → FitsCore t m w
others_fit_then s t e n m w wf con step by_node does other fits =
    subst (λ u. FitsCore u m w) (sym step.changed) (fits_by_others s wf con m w fits e (legal s e step.allowed) by_node (one_doer (doer s e) n m does other))

pub config_then : (s t : State) (e : Event) → Step s e t → is_of_change e ≡ false → t.config ≡ s.config
config_then s t e step by_node = ap (λ (u : State). u.config) step.changed ∙ node_events_keep_the_configuration s e by_node

-- what is serviced, and by whom
serving_in : (o : Option Served) (p : ℕ) → option_map_or (λ (u : Served). u.port == p) o false ≡ true → (u : Served) × (o ≡ Some u) × (u.port ≡ p)
serving_in None p h = absurd (false≢true h)
serving_in (Some u) p h = (u, refl, eqb-true u.port p h)

heard_in : (o : Option Served) → option_map_or (λ (u : Served). u.heard) o false ≡ true → (u : Served) × (o ≡ Some u)
heard_in None h = absurd (false≢true h)
heard_in (Some u) h = (u, refl)

module _ (s : State) (wf : IsWellFormed s) (con : IsConsistent s) (n : ℕ) (w : Known) (fits : FitsCore s n w) where
  abbrev m : Slot
  m = (made_slot s wf con n w fits).0

  -- of the service that it knows of
  module _ (u : Served) (is : w.service ≡ Some u) where
    served : (v : Service) × (service s n ≡ Some v) × IsServed s v u
    served = knows_some s (service s n) u (subst (λ o. KnowsService s (service s n) o) is fits.known.service)

    linked : target s.config u.port ≡ Some (record { node = n; provide = (con.serving n served.0 served.1).provide })
    linked = ap (target s.config) served.2.port ∙ (con.serving n served.0 served.1).linked

    pub target_doer : option_map_or (λ i. i == n) (option_map (λ (t : Target). t.node) (target s.config u.port)) false ≡ true
    target_doer = ap (λ o. option_map_or (λ i. i == n) (option_map (λ (t : Target). t.node) o) false) linked ∙ eq-eqb n n refl

    served_busy_there : (is_asked (exchange s u.port).phase || is_in_more (exchange s u.port).phase) ≡ true
    served_busy_there = served_busy s u.port con n served.0 served.1 (sym served.2.port)

    served_live : is_live_port s.config u.port ≡ true
    served_live = busy_is_live s u.port con (serving_busy (exchange s u.port).phase served_busy_there)

    served_serial : (serial_served w == (exchange s u.port).serial) ≡ true
    served_serial =
        eq-eqb (serial_served w) (exchange s u.port).serial
        (ap (λ o. option_map_or (λ (x : Served). x.serial) o 0) is ∙ served.2.serial ∙ ap (λ q. (exchange s q).serial) (sym served.2.port))

    served_taken : is_taken s u.port ≡ true
    served_taken = judged_taken s wf con n m (made_slot s wf con n w fits).1 w (known_there s wf con n w fits) u is

    served_heard : (was_heard (service s n) ≡ has_heard w) × (was_heard (target_service s u.port) ≡ has_heard w)
    served_heard =
        let same : u.heard ≡ has_heard w = sym (ap (λ o. option_map_or (λ (x : Served). x.heard) o false) is) in
        let judged = judged_heard s wf con n m (made_slot s wf con n w fits).1 w (known_there s wf con n w fits) u is in
        (judged.0 ∙ same, judged.1 ∙ same)

    calls_ended : HasEndedCalls w → calls_have_ended s u.port ≡ true
    calls_ended ended =
        (judged_ended s wf con n m (made_slot s wf con n w fits).1 w (known_there s wf con n w fits) u is).1 (λ r x _ at. ended r x at)

    mores_left : has_mores_left (node_at s.config n).kind w ≡ true → rules.has_mores_left s u.port ≡ true
    mores_left h =
        judged_mores s wf con n m (made_slot s wf con n w fits).1 w (known_there s wf con n w fits) u is
        ∙ sym (ap (λ o. option_map_or (λ (x : Served). nat_lt x.mores (mores_of m.node.kind 0)) o false) is)
        ∙ subst (λ (x : NodeAt). has_mores_left x.kind w ≡ true) (node_is s wf con n w fits) h

    calls_left : has_calls_left (node_at s.config n).kind w ≡ true → rules.has_calls_left s n ≡ true
    calls_left h =
        judged_calls s wf con n m (made_slot s wf con n w fits).1 w (known_there s wf con n w fits) u is
        ∙ sym (ap (λ o. option_map_or (λ (x : Served). nat_lt x.calls (calls_of m.node.kind 0)) o false) is)
        ∙ subst (λ (x : NodeAt). has_calls_left x.kind w ≡ true) (node_is s wf con n w fits) h

    depends_there : (p : ℕ) → IsOwn (node_at s.config n) p → depends_on (node_at s.config n).kind 0 (p - (node_at s.config n).first) ≡ true → serves_through s n p ≡ true
    depends_there p own h =
        let o : IsOwn (record { slot = n; kind = m.node.kind; first = m.first_port }) p = subst (λ (x : NodeAt). IsOwn x p) (node_is s wf con n w fits) own in
        let there : m.first_port + (p - m.first_port) ≡ p = omega (arith, o.from) in
        let within : p - m.first_port < length (row m.node.kind).requires_ = omega (arith, o.from, o.below) in
        subst (λ q. serves_through s n q ≡ true) there
        (judged_serves_through s wf con n m (made_slot s wf con n w fits).1 w (known_there s wf con n w fits) u is (p - m.first_port) within
        ∙ subst (λ (x : NodeAt). depends_on x.kind 0 (p - x.first) ≡ true) (node_is s wf con n w fits) h)

  -- ---- the calls of a service

  pub give_allowed : (p v : ℕ) → MayGive w p v → denial s (Give p (serial_served w) v) ≡ None
  give_allowed p v may =
      let at = serving_in w.service p may.serving in
      subst (λ q. denial s (Give q (serial_served w) v) ≡ None) at.2
      (allowed s (Give at.0.port (serial_served w) v)
      (record {
        live = served_live at.0 at.1;
        taken = served_taken at.0 at.1;
        heard = (served_heard at.0 at.1).1 ∙ may.heard;
        serial = served_serial at.0 at.1;
        calls_ended = calls_ended at.0 at.1 may.ended;
        value = lt-ltb v value_limit may.small;
      }))

  pub more_allowed : (p v : ℕ) → MaySendMore (node_at s.config n) w p v → denial s (More p (serial_served w) v) ≡ None
  more_allowed p v may =
      let at = serving_in w.service p may.give.serving in
      subst (λ q. denial s (More q (serial_served w) v) ≡ None) at.2
      (allowed s (More at.0.port (serial_served w) v)
      (record {
        live = served_live at.0 at.1;
        taken = served_taken at.0 at.1;
        heard = (served_heard at.0 at.1).1 ∙ may.give.heard;
        serial = served_serial at.0 at.1;
        calls_ended = calls_ended at.0 at.1 may.give.ended;
        mores_left = mores_left at.0 at.1 may.mores;
        value = lt-ltb v value_limit may.give.small;
      }))

  pub hear_allowed : (p : ℕ) → MayHear w p → is_asked (exchange s p).phase ≡ true → denial s (Hear p (serial_served w) (exchange s p).value) ≡ None
  hear_allowed p may asked =
      let at = serving_in w.service p may.serving in
      subst (λ q. denial s (Hear q (serial_served w) (exchange s q).value) ≡ None) at.2
      (allowed s (Hear at.0.port (serial_served w) (exchange s at.0.port).value)
      (record {
        live = served_live at.0 at.1;
        asked = subst (λ q. is_asked (exchange s q).phase ≡ true) (sym at.2) asked;
        taken = served_taken at.0 at.1;
        unheard = ap not ((served_heard at.0 at.1).1 ∙ may.waits);
        message = both_true (served_serial at.0 at.1) (eq-eqb (exchange s at.0.port).value (exchange s at.0.port).value refl);
      }))

  -- where the further message isn't there, the intermediate reply is
  pub not_yet : (p : ℕ) → MayHear w p → is_asked (exchange s p).phase ≡ false → is_in_more (exchange s p).phase ≡ true
  not_yet p may unasked =
      let at = serving_in w.service p may.serving in
      let busy = subst (λ q. (is_asked (exchange s q).phase || is_in_more (exchange s q).phase) ≡ true) at.2 (served_busy_there at.0 at.1) in
      subst (λ b. (b || is_in_more (exchange s p).phase) ≡ true) unasked busy

  pub serving_doer : (p : ℕ) → serves w p ≡ true → option_map_or (λ i. i == n) (option_map (λ (t : Target). t.node) (target s.config p)) false ≡ true
  serving_doer p serving =
      let at = serving_in w.service p serving in
      subst (λ q. option_map_or (λ i. i == n) (option_map (λ (t : Target). t.node) (target s.config q)) false ≡ true) at.2 (target_doer at.0 at.1)

  pub call_allowed : (p v : ℕ) (t : Target) → MayCallAt (node_at s.config n) w p v → target s.config p ≡ Some t → (exchange s p).serial < last_serial
      → denial s (Call p ((exchange s p).serial + 1) v) ≡ None
  call_allowed p v t may linked_ unspent =
      let at = heard_in w.service may.heard in
      let owner_ = sym (owner_is s wf con n w fits p may.own) in
      let last : (exchange s p).serial + 1 ≤ last_serial = omega (arith, unspent) in
      allowed s (Call p ((exchange s p).serial + 1) v)
      (record {
        live = own_live s wf con n w fits p may.own;
        serves_through = subst (λ i. serves_through s i p ≡ true) owner_ (depends_there at.0 at.1 p may.own may.depends);
        calls_left = subst (λ i. rules.has_calls_left s i ≡ true) owner_ (calls_left at.0 at.1 may.calls);
        heard = subst (λ i. was_heard (service s i) ≡ true) owner_ ((served_heard at.0 at.1).0 ∙ may.heard);
        linked = ap is_some linked_;
        idle = sym (own_known s wf con n w fits p may.own).idle ∙ may.idle;
        next_serial = both_true (eq-eqb ((exchange s p).serial + 1) ((exchange s p).serial + 1) refl) (le-leb ((exchange s p).serial + 1) last_serial last);
        value = lt-ltb v value_limit may.small;
      })

  pub miss_allowed : (p v : ℕ) → MayCallAt (node_at s.config n) w p v → rules.is_missing s p ≡ true → denial s (Miss p) ≡ None
  miss_allowed p v may missing =
      let at = heard_in w.service may.heard in
      let owner_ = sym (owner_is s wf con n w fits p may.own) in
      allowed s (Miss p)
      (record {
        live = own_live s wf con n w fits p may.own;
        serves_through = subst (λ i. serves_through s i p ≡ true) owner_ (depends_there at.0 at.1 p may.own may.depends);
        calls_left = subst (λ i. rules.has_calls_left s i ≡ true) owner_ (calls_left at.0 at.1 may.calls);
        heard = subst (λ i. was_heard (service s i) ≡ true) owner_ ((served_heard at.0 at.1).0 ∙ may.heard);
        idle = sym (own_known s wf con n w fits p may.own).idle ∙ may.idle;
        missing = missing;
      })

  -- ---- what comes and what is seen

  pub take_allowed : (p : ℕ) (t : Target) → MayTake w p → is_asked (exchange s p).phase ≡ true → target s.config p ≡ Some t → t.node ≡ n
      → denial s (Take p (exchange s p).serial (exchange s p).value) ≡ None
  take_allowed p t may asked linked_ here =
      let none_ : service s n ≡ None = knows_none s (service s n) (subst (λ o. KnowsService s (service s n) o) may.free fits.known.service) in
      let free_ : target_service s p ≡ None = target_service_is s p t linked_ ∙ ap (service s) here ∙ none_ in
      allowed s (Take p (exchange s p).serial (exchange s p).value)
      (record {
        live = busy_is_live s p con (asked_busy (exchange s p).phase asked);
        asked = asked;
        untaken = ap (λ o. not (option_map_or (λ (x : Service). x.port == p) o false)) free_;
        free = ap is_none free_;
        message = both_true (eq-eqb (exchange s p).serial (exchange s p).serial refl) (eq-eqb (exchange s p).value (exchange s p).value refl);
      })

  pub take_doer : (p k v : ℕ) (t : Target) → target s.config p ≡ Some t → t.node ≡ n → is_doer s n (Take p k v) ≡ true
  take_doer p k v t linked_ here = ap (λ o. option_map_or (λ i. i == n) (option_map (λ (x : Target). x.node) o) false) linked_ ∙ eq-eqb t.node n here

  pub end_allowed : (p : ℕ) → MayEnd (node_at s.config n) w p → denial s (End p (port_known (node_at s.config n) w p).serial (value_seen (port_known (node_at s.config n) w p))) ≡ None
  end_allowed p may =
      let x : PortKnown = port_known (node_at s.config n) w p in
      let known = own_known s wf con n w fits p may.own in
      let seen = Some-from_is_some x.seen may.seen in
      let there = known.seen seen.0 seen.1 in
      let value : value_seen x ≡ (exchange s p).value = ap (λ o. option_map_or (λ v. v) o 0) seen.1 ∙ sym there.value in
      allowed s (End p x.serial (value_seen x))
      (record {
        live = own_live s wf con n w fits p may.own;
        answered = there.answered ∙ ap not may.answer;
        message = both_true (eq-eqb x.serial (exchange s p).serial known.serial) (eq-eqb (value_seen x) (exchange s p).value value);
      })

  pub ask_allowed : (p v : ℕ) → MayAsk (node_at s.config n) w p v → denial s (Ask p (port_known (node_at s.config n) w p).serial v) ≡ None
  ask_allowed p v may =
      let x : PortKnown = port_known (node_at s.config n) w p in
      let known = own_known s wf con n w fits p may.own in
      let seen = Some-from_is_some x.seen may.seen in
      let there = known.seen seen.0 seen.1 in
      allowed s (Ask p x.serial v)
      (record {
        live = own_live s wf con n w fits p may.own;
        in_more = there.in_more ∙ may.more_;
        serial = eq-eqb x.serial (exchange s p).serial known.serial;
        value = lt-ltb v value_limit may.small;
      })

  -- an own requirement is one of two
  pub own_require : (p : ℕ) → IsOwn (node_at s.config n) p → p - (node_at s.config n).first < 2
  own_require p own = omega (arith, own.from, own.below, two_requires (node_at s.config n).kind)

  -- a call that can still be counted
  pub few_calls_known : (e : Event) → has_calls_left (node_at s.config n).kind w ≡ true → (u : Served) → w.service ≡ Some u → u.calls < 2 ^ 32 - 1
  few_calls_known e left u is =
      let below : u.calls < calls_of (node_at s.config n).kind 0 =
      ltb-true u.calls (calls_of (node_at s.config n).kind 0) (sym (ap (λ o. option_map_or (λ (x : Served). nat_lt x.calls (calls_of (node_at s.config n).kind 0)) o false) is) ∙ left) in
      omega (arith, below, few_calls (node_at s.config n).kind 0)

  pub few_mores_known : (e : Event) → has_mores_left (node_at s.config n).kind w ≡ true → (u : Served) → w.service ≡ Some u → u.mores < 2 ^ 32 - 1
  few_mores_known e left u is =
      let below : u.mores < mores_of (node_at s.config n).kind 0 =
      ltb-true u.mores (mores_of (node_at s.config n).kind 0) (sym (ap (λ o. option_map_or (λ (x : Served). nat_lt x.mores (mores_of (node_at s.config n).kind 0)) o false) is) ∙ left) in
      omega (arith, below, few_mores (node_at s.config n).kind 0)

  pub call_doer : (p k v : ℕ) → IsOwn (node_at s.config n) p → is_doer s n (Call p k v) ≡ true
  call_doer p k v own = own_doer s wf con n w fits p own

  pub miss_doer : (p : ℕ) → IsOwn (node_at s.config n) p → is_doer s n (Miss p) ≡ true
  miss_doer p own = own_doer s wf con n w fits p own

  pub end_doer : (p k v : ℕ) → IsOwn (node_at s.config n) p → is_doer s n (End p k v) ≡ true
  end_doer p k v own = own_doer s wf con n w fits p own

  pub ask_doer : (p k v : ℕ) → IsOwn (node_at s.config n) p → is_doer s n (Ask p k v) ≡ true
  ask_doer p k v own = own_doer s wf con n w fits p own

  pub give_doer : (p k v : ℕ) → serves w p ≡ true → is_doer s n (Give p k v) ≡ true
  give_doer p k v serving = serving_doer p serving

  pub more_doer : (p k v : ℕ) → serves w p ≡ true → is_doer s n (More p k v) ≡ true
  more_doer p k v serving = serving_doer p serving

  pub hear_doer : (p k v : ℕ) → serves w p ≡ true → is_doer s n (Hear p k v) ≡ true
  hear_doer p k v serving = serving_doer p serving

  -- ---- the same by the word that was read

  pub begin_by_word : (p v : ℕ) (word : Word) (t : Target) → word ≡ fields_of s p → MayBegin (node_at s.config n) w p v → word.closed ≡ false → word.target ≡ Some t → word.serial < last_serial
      → denial s (Begin p (word.serial + 1) v) ≡ None
  begin_by_word p v word t e may opened linked_ unspent =
      subst (λ (x : Word). denial s (Begin p (x.serial + 1) v) ≡ None) (sym e)
      (begin_allowed s wf con n w fits p v t may (sym (ap (λ (x : Word). x.closed) e) ∙ opened) (sym (ap (λ (x : Word). x.target) e) ∙ linked_) (subst (λ (x : Word). x.serial < last_serial) e unspent))

  pub call_by_word : (p v : ℕ) (word : Word) (t : Target) → word ≡ fields_of s p → MayCallAt (node_at s.config n) w p v → word.target ≡ Some t → word.serial < last_serial
      → denial s (Call p (word.serial + 1) v) ≡ None
  call_by_word p v word t e may linked_ unspent =
      subst (λ (x : Word). denial s (Call p (x.serial + 1) v) ≡ None) (sym e)
      (call_allowed p v t may (sym (ap (λ (x : Word). x.target) e) ∙ linked_) (subst (λ (x : Word). x.serial < last_serial) e unspent))

  pub miss_by_word : (p v : ℕ) (word : Word) → word ≡ fields_of s p → MayCallAt (node_at s.config n) w p v → is_missing word ≡ true → denial s (Miss p) ≡ None
  miss_by_word p v word e may missing =
      miss_allowed p v may (subst (λ (x : Word). is_missing x ≡ true) e missing)

  pub take_by_word : (p : ℕ) (word : Word) (t : Target) → word ≡ fields_of s p → MayTake w p → is_asked word.phase ≡ true → word.target ≡ Some t → t.node ≡ n
      → denial s (Take p word.serial word.value) ≡ None
  take_by_word p word t e may asked linked_ here =
      subst (λ (x : Word). denial s (Take p x.serial x.value) ≡ None) (sym e)
      (take_allowed p t may (subst (λ (x : Word). is_asked x.phase ≡ true) e asked) (sym (ap (λ (x : Word). x.target) e) ∙ linked_) here)

  pub take_doer_by_word : (p k v : ℕ) (word : Word) (t : Target) → word ≡ fields_of s p → word.target ≡ Some t → t.node ≡ n → is_doer s n (Take p k v) ≡ true
  take_doer_by_word p k v word t e linked_ here = take_doer p k v t (sym (ap (λ (x : Word). x.target) e) ∙ linked_) here

  -- the provision that is asked is one of its own
  pub take_provides : (p : ℕ) (word : Word) (t : Target) → word ≡ fields_of s p → word.target ≡ Some t → t.node ≡ n → t.provide < length (row (node_at s.config n).kind).provides
  take_provides p word t e linked_ here =
      let provided : t.provide < provides s.config t.node = (wf.sound.targets p t (sym (ap (λ (x : Word). x.target) e) ∙ linked_)).provided in
      let mine : t.provide < option_map_or (λ (x : Slot). length (row x.node.kind).provides) (Some m) 0 =
      subst (λ o. t.provide < option_map_or (λ (x : Slot). length (row x.node.kind).provides) o 0) (made_slot s wf con n w fits).1 (subst (λ i. t.provide < provides s.config i) here provided) in
      subst (λ (x : NodeAt). t.provide < length (row x.kind).provides) (sym (node_is s wf con n w fits)) mine

  pub hear_by_word : (p : ℕ) (word : Word) → word ≡ fields_of s p → MayHear w p → is_asked word.phase ≡ true → denial s (Hear p (serial_served w) word.value) ≡ None
  hear_by_word p word e may asked =
      subst (λ (x : Word). denial s (Hear p (serial_served w) x.value) ≡ None) (sym e) (hear_allowed p may (subst (λ (x : Word). is_asked x.phase ≡ true) e asked))

  pub not_yet_by_word : (p : ℕ) (word : Word) → word ≡ fields_of s p → MayHear w p → is_asked word.phase ≡ false → is_in_more word.phase ≡ true
  not_yet_by_word p word e may unasked =
      subst (λ (x : Word). is_in_more x.phase ≡ true) (sym e) (not_yet p may (subst (λ (x : Word). is_asked x.phase ≡ false) e unasked))

  -- ---- what is seen

  pub sees_busy : (p : ℕ) (word : Word) → word ≡ fields_of s p → MaySee (node_at s.config n) w p → is_idle word.phase ≡ false
  sees_busy p word e may = subst (λ (x : Word). is_idle x.phase ≡ false) (sym e) (sym (own_known s wf con n w fits p may.own).idle ∙ may.busy)

  pub says_seen : (p : ℕ) (word : Word) (answer : SeeAnswer) → word ≡ fields_of s p → WordShows word answer → SeeSays (Some s) p answer
  says_seen p word (Answer v) e h = (subst (λ i. i < value_limit) (sym (h.1 ∙ ap (λ (x : Word). x.value) e)) (wf.bounds p).value, subst (λ (x : Word). WordShows x (Answer v)) e h)
  says_seen p word (see.More v) e h = (subst (λ i. i < value_limit) (sym (h.1 ∙ ap (λ (x : Word). x.value) e)) (wf.bounds p).value, subst (λ (x : Word). WordShows x (see.More v)) e h)
  says_seen p word (NotYet k) e h = has_word s wf con n w fits p k word (λ x. is_asked x.phase) e h.1 h.0

  seen_there : (p : ℕ) (x : PortKnown) (answer : SeeAnswer) → IsPortKnown s p x → WordShows (fields_of s p) answer → IsPortKnown s p (seen_by answer x)
  seen_there p x (Answer v) known h = record {
    idle = known.idle;
    serial = known.serial;
    consequent = known.consequent;
    seen = λ i is. record { value = sym h.1 ∙ same_Some v i is; answered = h.0; in_more = answered_not_more (exchange s p).phase h.0 };
  }
  seen_there p x (see.More v) known h = record {
    idle = known.idle;
    serial = known.serial;
    consequent = known.consequent;
    seen = λ i is. record { value = sym h.1 ∙ same_Some v i is; answered = more_not_answered (exchange s p).phase h.0; in_more = h.0 };
  }
  seen_there p x (NotYet k) known h = known

  pub fits_seen : (p : ℕ) (word : Word) (answer : SeeAnswer) → word ≡ fields_of s p → MaySee (node_at s.config n) w p → WordShows word answer
      → FitsCore s n (with_seen (node_at s.config n) p answer w)
  fits_seen p word answer e may h =
      let x : PortKnown = port_known (node_at s.config n) w p in
      let i : ℕ = p - (node_at s.config n).first in
      let there : (node_at s.config n).first + i ≡ p = omega (arith, may.own.from) in
      let seen : IsPortKnown s p (seen_by answer x) = seen_there p x answer (own_known s wf con n w fits p may.own) (subst (λ y. WordShows y answer) e h) in
      record {
        live = fits.live;
        known =
            record {
              two_ports = length-set w.ports i (seen_by answer x) ∙ fits.two;
              service = fits.known.service;
              ports = λ r k at o.
                  elim (slice_get-set_cases w.ports i (seen_by answer x) r k at) [
                    | inl here ↦ subst (λ y. IsPortKnown s ((node_at s.config n).first + r) y) here.1 (subst (λ q. IsPortKnown s q (seen_by answer x)) (sym there ∙ ap (λ j. (node_at s.config n).first + j) (sym here.0)) seen)
                    | inr old ↦ fits.known.ports r k old o
                  ];
            };
        two = length-set w.ports i (seen_by answer x) ∙ fits.two;
        within = fits.within;
      }

  pub target_at : (p : ℕ) (word : Word) (t : Target) → word ≡ fields_of s p → word.target ≡ Some t → IsTargetAt (Some s) p t.node
  target_at p word t e linked_ = ap (λ o. option_map (λ (x : Target). x.node) o) (sym (ap (λ (x : Word). x.target) e) ∙ linked_)

  pub spent_at : (p : ℕ) (word : Word) (t : Target) → word ≡ fields_of s p → word.closed ≡ false → word.target ≡ Some t → word.serial ≡ last_serial → IsSpentAt (Some s) p
  spent_at p word t e opened linked_ spent =
      (sym (ap (λ (x : Word). x.closed) e) ∙ opened, ap is_some (sym (ap (λ (x : Word). x.target) e) ∙ linked_), sym (ap (λ (x : Word). x.serial) e) ∙ spent)
