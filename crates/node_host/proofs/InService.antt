-- How far a service has come, by what its node knows and by the state that a gate tells.
use Rattle.std.proofs.Common.{◌≡◌, ◌∙◌, ℕ, zero, suc, ◌+◌, ◌<◌, ◌≤◌, Bool, true, false, cond, List, [], ◌∷◌, length, Option, Some, None, refl, sym, ap, subst, arith, rules}
use Rattle.std.specs.Prelude.{IsSome, not, ◌==◌, ◌&&◌, ◌||◌, fold, option_and_then, slice_get, slice_index_or}
use Rattle.std.specs.List.{list_any}
use Rattle.std.specs.Option.{option_map_or}
use Rattle.std.proofs.lemmas.Bool.{both_ways, eq-eqb, eqb-true, or_parts}
use Rattle.std.proofs.lemmas.Option.{same_Some, slice_get-get_or, slice_get_within}
use Rattle.config_graph.specs.Kinds.{row}
use Rattle.config_graph.specs.declared.kind.Kind.{Kind}
use Rattle.config_graph.specs.declared.kind.Kind.TheVariants.{Buffer}
use Rattle.config_graph.proofs.KindLaws.{two_requires, depended_within}
use Rattle.component_trait.proofs.BoundLaws.{asks_depend}
use Rattle.component_trait.specs.Bounds.{FitsRequest}
use Rattle.component_trait.specs.Fold.{asked_by, calls_at, is_request_at, wants_at}
use Rattle.component_trait.specs.Moves as moves
use Rattle.component_trait.specs.Moves.{next_in}
use Rattle.component_trait.specs.States.{Kept, NodeState, Service as Serving}
use Rattle.component_trait.specs.Tables.{next_of, wants}
use Rattle.component_trait.specs.declared.next.Ask.{Ask as Request}
use Rattle.component_trait.specs.declared.next.Next.{Next}
use Rattle.component_trait.specs.declared.next.Next.TheVariants as next
use Rattle.quiesce_core.specs.Knowledge.{OwnPort, own_port_after, own_port_next, port_at_start}
use Rattle.quiesce_core.specs.declared.event.Event.{Event}
use Rattle.quiesce_core.specs.declared.event.Event.TheVariants.{Begin, Call, End}
use Rattle.quiesce_core.specs.declared.known.Known.{Known}
use Rattle.quiesce_core.specs.declared.known.PortKnown.{PortKnown}
use Rattle.quiesce_core.specs.declared.known.Served.{Served}
use Rattle.quiesce_core.proofs.KnownLaws.{service_of_log}
use Rattle.node_gate.specs.Seats.{HasEndedCalls}
use Rattle.node_turn_laws.proofs.AgreementLaws.{who_wants_asks_nothing}
use Rattle.node_turn_laws.specs.Agreement.{HasNoCall, ServiceAgrees, ServicesAgree, expects}
use Rattle.node_host.specs.Hosted.{IsHosted, SeatSeen}
use Rattle.node_host.specs.Lines.{LineNode}
use Rattle.node_host.specs.Awaiting.{awaits}
use Rattle.node_host.proofs.Growing.{expected_at, port_there, two_known}

wanted_is_own : (k : Kind) (a : ℕ) (kept : Kept) (x : Request) → wants k a kept ≡ Some x → x.require < length (row k).requires_
wanted_is_own Buffer a kept x h = by kept.items h
  where
    by : (vs : List ℕ) → wants Buffer a (record { count = kept.count; total = kept.total; items = vs }) ≡ Some x → x.require < length (row Buffer).requires_
    by [] h = search rules
    by (v ∷ vs) h = search rules
wanted_is_own k a kept x h = search rules

-- a call of a node, or what it wants, is at a port of its own
asked_is_own : (first q : ℕ) (t : NodeState) → is_request_at first q (asked_by (moves.next t)) ≡ true → (r : ℕ) × (r < length (row t.kind).requires_) × (first + r ≡ q)
asked_is_own first q t h = by t.service refl h
  where
    from : (w : Serving) (b : Bool) → w.waits ≡ b → (n : Next) → next_of t.kind t.arg w.value w.reply w.answers ≡ n → is_request_at first q (asked_by (cond b None (Some n))) ≡ true
        → (r : ℕ) × (r < length (row t.kind).requires_) × (first + r ≡ q)
    from w true waits n is g = absurd (both_ways false refl g)
    from w false waits (next.More v) is g = absurd (both_ways false refl g)
    from w false waits (next.Give v) is g = absurd (both_ways false refl g)
    from w false waits (next.Ask x) is g =
        (x.require, depended_within t.kind x.require (asks_depend t.kind t.arg w.value w.reply w.answers x is), eqb-true (first + x.require) q g)

    by : (o : Option Serving) → t.service ≡ o → is_request_at first q (asked_by (option_and_then (next_in t) o)) ≡ true → (r : ℕ) × (r < length (row t.kind).requires_) × (first + r ≡ q)
    by None is g = absurd (both_ways false refl g)
    by (Some w) is g = from w w.waits refl (next_of t.kind t.arg w.value w.reply w.answers) refl g

wants_own : (first q : ℕ) (t : NodeState) → is_request_at first q (moves.wants t) ≡ true → (r : ℕ) × (r < length (row t.kind).requires_) × (first + r ≡ q)
wants_own first q t h = by (moves.wants t) refl h
  where
    by : (o : Option Request) → moves.wants t ≡ o → is_request_at first q o ≡ true → (r : ℕ) × (r < length (row t.kind).requires_) × (first + r ≡ q)
    by None is g = absurd (both_ways false refl g)
    by (Some x) is g = (x.require, wanted_is_own t.kind t.arg t.kept x is, eqb-true (first + x.require) q g)

expected_is_own : (c : Bool) (first q : ℕ) (t : NodeState) → expects c first t q ≡ true → (r : ℕ) × (r < length (row t.kind).requires_) × (first + r ≡ q)
expected_is_own true first q t h = asked_is_own first q t h
expected_is_own false first q t h = wants_own first q t h

-- ---- an idle port has no call

abbrev Alone : OwnPort → Type 0
Alone o = o.idle ≡ true → o.consequent ≡ false

alone_if : (b : Bool) (x y : OwnPort) → Alone x → Alone y → Alone (cond b x y)
alone_if true x y l r = l
alone_if false x y l r = r

alone_next : (p : ℕ) (o : OwnPort) (e : Event) → Alone o → Alone (own_port_next p o e)
alone_next p o (Begin q k v) h = alone_if (q == p) (record { idle = false; serial = k; consequent = false }) o (λ i. refl) h
alone_next p o (Call q k v) h = alone_if (q == p) (record { idle = false; serial = k; consequent = true }) o (λ i. absurd (both_ways false refl i)) h
alone_next p o (End q k v) h = alone_if (q == p) (record { idle = true; serial = k; consequent = false }) o (λ i. refl) h
alone_next p o _ h = h

alone_from : (p : ℕ) (es : List Event) (o : OwnPort) → Alone o → Alone (fold (own_port_next p) o es)
alone_from p [] o h = h
alone_from p (e ∷ es) o h = alone_from p es (own_port_next p o e) (alone_next p o e h)

alone_after : (p : ℕ) (es : List Event) → Alone (own_port_after p es)
alone_after p es = alone_from p es (record { idle = true; serial = 0; consequent = false }) (λ i. refl)

abbrev pub called : PortKnown → Bool
called x = not x.idle && x.consequent

pub two_shape : (xs : List PortKnown) → length xs ≡ 2 → list_any called xs ≡ (called (slice_index_or xs 0 port_at_start) || (called (slice_index_or xs 1 port_at_start) || false))
two_shape (x ∷ y ∷ []) h = refl
two_shape [] h = absurd (omega (arith, h))
two_shape (x ∷ []) h = absurd (omega (arith, h))
two_shape (x ∷ y ∷ z ∷ xs) h = absurd (omega (arith, h))

not_called : (idle consequent : Bool) → (not idle && consequent) ≡ false → (idle ≡ true → consequent ≡ false) → consequent ≡ false
not_called true c h alone = alone refl
not_called false c h alone = h

module _ {slot first : ℕ} {t : NodeState} {log : List Event} {line : List LineNode} {known : Known} {waiting : List (Option ℕ)} {seat : SeatSeen} (h : IsHosted slot first t log line known waiting seat) where
  abbrev known_port : (r : ℕ) → PortKnown
  known_port r = slice_index_or known.ports r port_at_start

  pub unowned : (r : ℕ) → r < 2 → length (row t.kind).requires_ ≤ r → called (known_port r) ≡ false
  unowned r two past = by (known_port r).idle refl
    where
      by : (b : Bool) → (known_port r).idle ≡ b → called (known_port r) ≡ false
      by true idle = ap (λ b. not b && (known_port r).consequent) idle
      by false busy =
          let own = expected_is_own (known_port r).consequent first (first + r) t (expected_at h r (known_port r) two refl busy) in
          absurd (omega (arith, past, own.1, own.2))

  -- where it awaits no call, each call has ended
  ended_at : awaits known ≡ false → (r : ℕ) → r < 2 → (known_port r).consequent ≡ false
  ended_at still r two =
      let shape = sym (two_shape known.ports (two_known h)) ∙ still in
      let parts = or_parts (called (known_port 0)) (called (known_port 1) || false) shape in
      not_called (known_port r).idle (known_port r).consequent (by r two parts.0 (or_parts (called (known_port 1)) false parts.1).0)
      (λ i. ap (λ (o : OwnPort). o.consequent) (port_there h r two)
      ∙ alone_after (first + r) log (ap (λ (o : OwnPort). o.idle) (sym (port_there h r two)) ∙ i))
    where
      by : (r : ℕ) → r < 2 → called (known_port 0) ≡ false → called (known_port 1) ≡ false → called (known_port r) ≡ false
      by zero two left right = left
      by (suc zero) two left right = right
      by (suc (suc r)) two left right = absurd (omega (arith, two))

  pub calls_ended : awaits known ≡ false → HasEndedCalls seat.known
  calls_ended still r x at =
      let here : slice_get known.ports r ≡ Some x = subst (λ (w : Known). slice_get w.ports r ≡ Some x) (sym h.kept) at in
      let within = slice_get_within known.ports r x here in
      let two : r < 2 = omega (arith, within, two_known h) in
      ap (λ (k : PortKnown). k.consequent) (sym (same_Some (known_port r) x (sym (slice_get-get_or known.ports r port_at_start within) ∙ here))) ∙ ended_at still r two

  -- and the port of its next one is idle: what else is open there it wants, and who wants asks nothing
  pub idle_to_call : (a : Request) → FitsRequest t.kind a → awaits known ≡ false → moves.next t ≡ Some (next.Ask a) → (known_port a.require).idle ≡ true
  idle_to_call a fits still asks = by (known_port a.require).idle refl
    where
      two : a.require < 2
      two = omega (arith, fits.require, two_requires t.kind)

      by : (b : Bool) → (known_port a.require).idle ≡ b → (known_port a.require).idle ≡ true
      by true is = is
      by false busy =
          let p : ℕ = first + a.require in
          let wanted : wants_at first t p ≡ true =
          subst (λ b. expects b first t p ≡ true) (ended_at still a.require two) (expected_at h a.require (known_port a.require) two refl busy) in
          absurd (both_ways (calls_at first t p) (who_wants_asks_nothing first p p t wanted) (ap (λ o. is_request_at first p (asked_by o)) asks ∙ eq-eqb p p refl))

  -- and in the log as a function of ports
  pub no_call : awaits known ≡ false → HasNoCall (λ p. own_port_after p log)
  no_call still p busy = by (own_port_after p log).consequent refl
    where
      by : (b : Bool) → (own_port_after p log).consequent ≡ b → (own_port_after p log).consequent ≡ false
      by false is = is
      by true is =
          let own = expected_is_own (own_port_after p log).consequent first p t (h.agrees.ports p busy) in
          let two : own.0 < 2 = omega (arith, own.1, two_requires t.kind) in
          ap (λ i. (own_port_after i log).consequent) (sym own.2) ∙ ap (λ (o : OwnPort). o.consequent) (sym (port_there h own.0 two)) ∙ ended_at still own.0 two

  -- ---- the service, as the component has it and as the node knows it

  pub agreeing : ServicesAgree (λ p. own_port_after p log) t.service known.service
  agreeing = subst (ServicesAgree (λ p. own_port_after p log) t.service) (sym (ap (λ (w : Known). w.service) h.knows ∙ service_of_log first log)) h.agrees.services

  pub record InService (u : Served) : Type 0 where
    pub held : Serving
    pub is : t.service ≡ Some held
    pub agree : ServiceAgrees (λ p. own_port_after p log) held u

  pub in_service : (u : Served) → known.service ≡ Some u → InService u
  in_service u is = by t.service refl (subst (ServicesAgree (λ p. own_port_after p log) t.service) is agreeing)
    where
      by : (o : Option Serving) → t.service ≡ o → ServicesAgree (λ p. own_port_after p log) t.service (Some u) → InService u
      by None at g = absurd (subst (λ o. ServicesAgree (λ p. own_port_after p log) o (Some u)) at g)
      by (Some w) at g = record { held = w; is = at; agree = subst (λ o. ServicesAgree (λ p. own_port_after p log) o (Some u)) at g }

  pub at_rest : known.service ≡ None → t.service ≡ None
  at_rest is = by t.service refl (subst (ServicesAgree (λ p. own_port_after p log) t.service) is agreeing)
    where
      by : (o : Option Serving) → t.service ≡ o → ServicesAgree (λ p. own_port_after p log) t.service None → t.service ≡ None
      by None at g = at
      by (Some w) at g = absurd (subst (λ o. ServicesAgree (λ p. own_port_after p log) o None) at g)

  pub free_known : t.service ≡ None → known.service ≡ None
  free_known free = by known.service refl (subst (λ o. ServicesAgree (λ p. own_port_after p log) o known.service) free agreeing)
    where
      by : (o : Option Served) → known.service ≡ o → ServicesAgree (λ p. own_port_after p log) None known.service → known.service ≡ None
      by None is g = is
      by (Some u) is g = absurd (subst (λ o. ServicesAgree (λ p. own_port_after p log) None o) is g)

  pub waits_there : (u : Served) → known.service ≡ Some u → u.heard ≡ false → moves.waits t ≡ true
  waits_there u is unheard = let i = in_service u is in ap (λ o. option_map_or (λ (w : Serving). w.waits) o false) i.is ∙ i.agree.waits ∙ ap not unheard

  -- a service that goes on does something next
  pub goes_on_there : (u : Served) → known.service ≡ Some u → u.heard ≡ true → IsSome (moves.next t)
  goes_on_there u is heard =
      let i = in_service u is in
      subst (λ (o : Option Next). IsSome o)
      (sym (ap (option_and_then (next_in t)) i.is ∙ ap (λ b. cond b None (Some (next_of t.kind t.arg i.held.value i.held.reply i.held.answers))) (i.agree.waits ∙ ap not heard))) refl
