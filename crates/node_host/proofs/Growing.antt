-- A node holds at first, and goes on holding with one more event of its own, or a hint that waits.
use Rattle.std.proofs.Common.{inl, inr, Bool, cond, ◌≡◌, ◌∙◌, ℕ, ◌+◌, ◌<◌, true, false, List, [], ◌∷◌, ◌++◌, length, Option, Some, None, refl, sym, ap, subst, arith, zero, suc}
use Rattle.std.specs.Prelude.{slice_get, slice_set, slice_index_or, option_map, option_and_then}
use Rattle.std.proofs.lemmas.List.Sums.{fold_push}
use Rattle.std.proofs.lemmas.Bool.{both_ways}
use Rattle.std.proofs.lemmas.Option.{none-some, same_Some, slice_get-get_or}
use Rattle.base.proofs.PlaceLaws.{slice_get-set_cases}
use Rattle.config_graph.specs.Kinds.{row}
use Rattle.config_graph.specs.declared.TheConstants.{MAX_NODES}
use Rattle.config_graph.specs.declared.kind.Kind.{Kind}
use Rattle.component_trait.specs.Fold.{after_event, fold_next}
use Rattle.component_trait.specs.States.{Kept, NodeState, at_rest}
use Rattle.component_trait.proofs.FoldLaws.{fold_keeps_argument, fold_keeps_kind}
use Rattle.quiesce_core.specs.Knowledge.{OwnPort, known_after, known_next, own_port_after, own_port_next, port_at_start, served_after, served_next, nothing_known}
use Rattle.quiesce_core.specs.declared.event.Event.{Event}
use Rattle.quiesce_core.specs.declared.known.Known.{Known}
use Rattle.quiesce_core.specs.declared.known.PortKnown.{PortKnown}
use Rattle.quiesce_core.proofs.KnownLaws.{as_own_port, known_after_more, port_of_log, ports_of_log}
use Rattle.node_gate.specs.Seats.{IsWithinLimits, NodeAt}
use Rattle.node_turn_laws.specs.Agreement.{Agrees, IsInTurn, expects, ServicesAgree}
use Rattle.node_turn_laws.proofs.AgreementLaws.{agrees_next}
use Rattle.node_host.specs.Hosted.{IsHosted, SeatSeen, node_of}
use Rattle.node_host.specs.Lines.{LineNode, line_node_state, line_state, opens_with}

-- the line goes on with it
member_next : (k : Kind) (before : Option Kept) (first a : ℕ) (log : List Event) (e : Event)
    → line_node_state k before (record { first = first; arg = a; log = log ++ e ∷ [] }) ≡ fold_next first (line_node_state k before (record { first = first; arg = a; log = log })) e
member_next k before first a log e = fold_push (fold_next first) (Some (at_rest k a (opens_with k before a))) log e

line_next : (k : Kind) (before : Option Kept) (ms : List LineNode) (first a : ℕ) (log : List Event) (e : Event)
    → line_state k before ms (record { first = first; arg = a; log = log ++ e ∷ [] }) ≡ fold_next first (line_state k before ms (record { first = first; arg = a; log = log })) e
line_next k before [] first a log e = member_next k before first a log e
line_next k before (m ∷ ms) first a log e = by (line_node_state k before m) (λ s. line_next k (Some s.kept) ms first a log e)
  where
    by : (o : Option NodeState)
        → ((s : NodeState) → line_state k (Some s.kept) ms (record { first = first; arg = a; log = log ++ e ∷ [] }) ≡ fold_next first (line_state k (Some s.kept) ms (record { first = first; arg = a; log = log })) e)
        → option_and_then (λ (s : NodeState). line_state k (Some s.kept) ms (record { first = first; arg = a; log = log ++ e ∷ [] })) o
        ≡ fold_next first (option_and_then (λ (s : NodeState). line_state k (Some s.kept) ms (record { first = first; arg = a; log = log })) o) e
    by None rest = refl
    by (Some s) rest = rest s

module _ {slot first : ℕ} {t : NodeState} {log : List Event} {line : List LineNode} {known : Known} {waiting : List (Option ℕ)} {seat : SeatSeen} (h : IsHosted slot first t log line known waiting seat) where
  pub two_known : length known.ports ≡ 2
  two_known = ap (λ (w : Known). length w.ports) h.knows ∙ ports_of_log first log

  pub seat_two : length seat.known.ports ≡ 2
  seat_two = ap (λ (w : Known). length w.ports) (sym h.kept) ∙ two_known

  -- how far a port has come by the log
  pub port_there : (r : ℕ) → r < 2 → as_own_port (slice_index_or known.ports r port_at_start) ≡ own_port_after (first + r) log
  port_there r two =
      let at : slice_get known.ports r ≡ Some (slice_index_or known.ports r port_at_start) = slice_get-get_or known.ports r port_at_start (omega (arith, two, two_known)) in
      (port_of_log first log r (slice_index_or known.ports r port_at_start) (subst (λ (w : Known). slice_get w.ports r ≡ Some (slice_index_or known.ports r port_at_start)) h.knows at)).port

  -- at a port that isn't idle an answer is expected
  pub expected_at : (r : ℕ) (x : PortKnown) → r < 2 → x ≡ slice_index_or known.ports r port_at_start → x.idle ≡ false → expects x.consequent first t (first + r) ≡ true
  expected_at r x two is busy =
      let same : as_own_port x ≡ own_port_after (first + r) log = ap as_own_port is ∙ port_there r two in
      subst (λ (o : OwnPort). expects o.consequent first t (first + r) ≡ true) (sym same)
      (h.agrees.ports (first + r) (ap (λ (o : OwnPort). o.idle) (sym same) ∙ busy))

  pub busy_at : (r : ℕ) (x : PortKnown) → r < 2 → x ≡ slice_index_or known.ports r port_at_start → x.idle ≡ false → (own_port_after (first + r) log).idle ≡ false
  busy_at r x two is busy = ap (λ (o : OwnPort). o.idle) (sym (port_there r two)) ∙ ap (λ (k : PortKnown). k.idle) (sym is) ∙ busy

  pub idle_at : (r : ℕ) (x : PortKnown) → r < 2 → x ≡ slice_index_or known.ports r port_at_start → x.idle ≡ true → (own_port_after (first + r) log).idle ≡ true
  idle_at r x two is idle = ap (λ (o : OwnPort). o.idle) (sym (port_there r two)) ∙ ap (λ (k : PortKnown). k.idle) (sym is) ∙ idle

  -- a hint of it was posted, or waits
  pub hosted_waiting : {waiting' : List (Option ℕ)} {r m : ℕ} (posted : Bool) → waiting' ≡ slice_set waiting r (cond posted None (Some m)) → r < length (row t.kind).requires_ → m < MAX_NODES
      → IsHosted slot first t log line known waiting' seat
  hosted_waiting {r = r} {m = m} posted is within made = record {
    of_slot = h.of_slot;
    limits = h.limits;
    kept = h.kept;
    knows = h.knows;
    tells = h.tells;
    folds = h.folds;
    agrees = h.agrees;
    waits = λ q k at.
        elim (slice_get-set_cases waiting r (cond posted None (Some m)) q (Some k) (subst (λ xs. slice_get xs q ≡ Some (Some k)) is at)) [
          | inl here ↦ (subst (λ i. i < length (row t.kind).requires_) (sym here.0) within, one posted k here.1)
          | inr old ↦ h.waits q k old
        ];
  }
    where
      one : (b : Bool) (k : ℕ) → cond b None (Some m) ≡ Some k → k < MAX_NODES
      one true k e = absurd (none-some k e)
      one false k e = subst (λ i. i < MAX_NODES) (same_Some m k e) made

  -- one more event
  pub hosted_next : (e : Event) (t' : NodeState) (log' : List Event) (known' : Known) (seat' : SeatSeen) → IsInTurn (λ p. own_port_after p log) e → after_event first t e ≡ Some t'
      → log' ≡ log ++ e ∷ [] → known' ≡ known_next first known e → seat'.slot ≡ slot → seat'.known ≡ known_next first seat.known e
      → seat'.told ≡ option_map (λ es. es ++ e ∷ []) seat.told → IsHosted slot first t' log' line known' waiting seat'
  hosted_next e t' log' known' seat' in_turn after logged knows of_slot seat_knows told =
      let kind : t'.kind ≡ t.kind = fold_keeps_kind first t t' (e ∷ []) after in
      let arg : t'.arg ≡ t.arg = fold_keeps_argument first t t' (e ∷ []) after in
      record {
        of_slot = of_slot;
        limits = subst (λ k. IsWithinLimits (record { slot = slot; kind = k; first = first })) (sym kind) h.limits;
        kept = knows ∙ ap (λ w. known_next first w e) h.kept ∙ sym seat_knows;
        knows = knows ∙ ap (λ w. known_next first w e) h.knows ∙ sym (known_after_more first log e) ∙ ap (known_after first) (sym logged);
        tells = λ es is. tells_next seat.told h.tells es (sym told ∙ is);
        folds = ap (λ k. line_state k None line (record { first = first; arg = t'.arg; log = log' })) kind
            ∙ ap (λ a. line_state t.kind None line (record { first = first; arg = a; log = log' })) arg
            ∙ ap (λ es. line_state t.kind None line (record { first = first; arg = t.arg; log = es })) logged
            ∙ line_next t.kind None line first t.arg log e
            ∙ ap (λ o. fold_next first o e) h.folds
            ∙ after;
        agrees = subst (λ es. Agrees first t' (served_after es) (λ p. own_port_after p es)) (sym logged)
            (subst (λ u. Agrees first t' u (λ p. own_port_after p (log ++ e ∷ []))) (sym (fold_push served_next None log e))
            (subst (λ far. Agrees first t' (served_next (served_after log) e) far) (λ i p. sym (fold_push (own_port_next p) (record { idle = true; serial = 0; consequent = false }) log e) i)
            (agrees_next first t t' (served_after log) (λ p. own_port_after p log) e h.agrees in_turn after)));
        waits = λ r m is. let w = h.waits r m is in (subst (λ k. r < length (row k).requires_) (sym kind) w.0, w.1);
      }
    where
      tells_next : (o : Option (List Event)) → ((es : List Event) → o ≡ Some es → es ≡ log) → (es : List Event) → option_map (λ es. es ++ e ∷ []) o ≡ Some es → es ≡ log'
      tells_next None before es is = absurd (cc)
      tells_next (Some old) before es is = sym (same_Some (old ++ e ∷ []) es is) ∙ ap (λ x. x ++ e ∷ []) (before old refl) ∙ sym logged

-- ---- at first

nothing_waits : (r m : ℕ) (t : NodeState) → slice_get (None ∷ None ∷ []) r ≡ Some (Some m) → (r < length (row t.kind).requires_) × (m < MAX_NODES)
nothing_waits zero m t is = absurd (none-some m (same_Some None (Some m) is))
nothing_waits (suc zero) m t is = absurd (none-some m (same_Some None (Some m) is))
nothing_waits (suc (suc r)) m t is = absurd (none-some (Some m) is)

pub hosted_at_first : (slot first : ℕ) (t : NodeState) (line : List LineNode) (known : Known) (seat : SeatSeen) → seat.slot ≡ slot → IsWithinLimits (node_of slot first t) → known ≡ nothing_known → seat.known ≡ nothing_known
    → ((es : List Event) → seat.told ≡ Some es → es ≡ []) → t.service ≡ None → line_state t.kind None line (record { first = first; arg = t.arg; log = [] }) ≡ Some t
    → IsHosted slot first t [] line known (None ∷ None ∷ []) seat
hosted_at_first slot first t line known seat of_slot limits nothing seat_nothing tells rests opens = record {
  of_slot = of_slot;
  limits = limits;
  kept = nothing ∙ sym seat_nothing;
  knows = nothing;
  tells = tells;
  folds = opens;
  agrees = record {
    services = subst (λ o. ServicesAgree (λ p. own_port_after p []) o None) (sym rests) tt;
    ports = λ p busy. absurd (both_ways true busy refl);
  };
  waits = λ r m is. nothing_waits r m t is;
}

-- a seat that fits is one of a slot and of ports as one run has them
pub limits_of : (n : NodeAt) (k : ℕ) → IsWithinLimits n × (n.slot ≡ k) → IsWithinLimits n
limits_of n k h = h.0

pub slot_of : (n : NodeAt) (k : ℕ) → IsWithinLimits n × (n.slot ≡ k) → n.slot ≡ k
slot_of n k h = h.1
