-- A node that did an event at its gate, or none, goes on holding, and has moved.
use Rattle.std.proofs.Common.{◌≡◌, ◌∙◌, List, [], ◌∷◌, ◌++◌, Option, Some, None, refl, sym, ap, subst}
use Rattle.std.specs.Prelude.{map}
use Rattle.std.proofs.lemmas.List.{append-nil}
use Rattle.component_trait.specs.Fold.{after_event}
use Rattle.component_trait.proofs.FoldLaws.{fold_keeps_kind}
use Rattle.component_trait.specs.declared.component.Component.{Ghosts as ComponentWords}
use Rattle.quiesce_core.specs.Knowledge.{known_next, own_port_after}
use Rattle.quiesce_core.specs.State.{State}
use Rattle.quiesce_core.specs.declared.event.Event.{Event}
use Rattle.quiesce_core.specs.declared.known.Known.{Known}
use Rattle.node_gate.specs.Moves.{Does, Leads}
use Rattle.node_gate.specs.Seats.{NodeAt}
use Rattle.node_gate.specs.declared.gate.GateSeat.{Ghosts as SeatWords}
use Rattle.node_gate.specs.declared.gate.PortGate.{Ghosts as GateWords}
use Rattle.node_turn_laws.specs.Agreement.{IsInTurn}
use Rattle.node_host.specs.Acts.{node_at, seat_seen, state_of}
use Rattle.node_host.specs.Hosted.{IsHosted, SeatSeen, node_of}
use Rattle.node_host.specs.Lines.{LineNode}
use Rattle.node_host.specs.Moved.{Moved}
use Rattle.node_host.specs.declared.node.HostNode.{HostNode}
use Rattle.node_host.proofs.ActLaws.{told_nothing}
use Rattle.node_host.proofs.Growing.{hosted_next}

-- what a gate was asked, in the node's own terms
pub did_by : {n n' : NodeAt} {w w' : Known} {told told' : Option (List Event)} {s s' : Option State} {es es' : List Event} → n' ≡ n → es' ≡ es → Does n' es' w w' told told' s s' → Does n es w w' told told' s s'
did_by {n = n} {w = w} {w' = w'} {told = told} {told' = told'} {s = s} {s' = s'} {es' = es'} node events d = subst (λ x. Does n x w w' told told' s s') events (subst (λ m. Does m es' w w' told told' s s') node d)

module _ {S : Type 0} (seats : SeatWords S) where
  abbrev seen_of : S → SeatSeen
  seen_of seat = record { slot = seats.slot_of seat; known = seats.known seat; told = seats.tells seat }

module _ {C S : Type 0} {component : ComponentWords C} {seats : SeatWords S} where
  abbrev line_of : HostNode C S component seats → List LineNode
  line_of h = map (λ p. record { first = p.first_port; arg = p.arg; log = p.log.items }) h.past.items

  module _ {G : Type 0} (words : GateWords G S) where
    -- The node goes on with this component, seat, log and knowledge. The event that it kept is the one that its gate did.
    pub record GoesOn (gate gate' : G) (h : HostNode C S component seats) (inner' : C) (seat' : S) (log' : List Event) (known' : Known) (kept did : Event) : Type 0 where
      pub hosted : IsHosted h.slot h.first_port (component.state inner') log' (line_of h) known' h.waiting (seen_of seats seat')
      pub moved : Moved (node_at h) (Some kept) (state_of h) (component.state inner') h.log.items log' (seat_seen h) (seen_of seats seat') (words.state gate) (words.state gate')
      pub node : words.node gate' seat' ≡ node_of h.slot h.first_port (component.state inner')
      pub is : kept ≡ did
      pub led : Leads h.slot (words.state gate) (did ∷ []) (words.state gate')

    -- the node did nothing
    pub record GoesStill (gate gate' : G) (h : HostNode C S component seats) (seat' : S) : Type 0 where
      pub hosted : IsHosted h.slot h.first_port (state_of h) h.log.items (line_of h) h.known h.waiting (seen_of seats seat')
      pub moved : Moved (node_at h) None (state_of h) (state_of h) h.log.items h.log.items (seat_seen h) (seen_of seats seat') (words.state gate) (words.state gate')

  module _ {G : Type 0} {words : GateWords G S} {gate gate' : G} {h : HostNode C S component seats} {seat' : S} (node : words.node gate' seat' ≡ node_at h) (of_slot : (words.node gate' seat').slot ≡ seats.slot_of seat') where
    pub goes_on : {inner' : C} {log' : List Event} {known' : Known} {kept did : Event} → Does (node_at h) (did ∷ []) (seats.known h.seat) (seats.known seat') (seats.tells h.seat) (seats.tells seat') (words.state gate) (words.state gate')
        → IsInTurn (λ p. own_port_after p h.log.items) did → after_event h.first_port (state_of h) did ≡ Some (component.state inner') → kept ≡ did → log' ≡ h.log.items ++ kept ∷ []
        → known' ≡ known_next h.first_port h.known kept → GoesOn words gate gate' h inner' seat' log' known' kept did
    goes_on {inner' = inner'} {log' = log'} {kept = kept} {did = did} does in_turn after is logged knows = record {
      hosted = hosted_next h.hosted did (component.state inner') log' _ (seen_of seats seat') in_turn after (logged ∙ ap (λ e. h.log.items ++ e ∷ []) is) (knows ∙ ap (λ e. known_next h.first_port h.known e) is)
          (sym of_slot ∙ ap (λ (m : NodeAt). m.slot) node) does.knows does.events;
      moved = record {
        logged = logged;
        folds = ap (λ e. after_event h.first_port (state_of h) e) is ∙ after;
        does = did_by refl (ap (λ e. e ∷ []) (sym is)) does;
      };
      node = node ∙ ap (λ k. record { slot = h.slot; kind = k; first = h.first_port }) (sym (fold_keeps_kind h.first_port (state_of h) (component.state inner') (did ∷ []) after));
      is = is;
      led = does.steps;
    }

    pub goes_still : Does (node_at h) [] (seats.known h.seat) (seats.known seat') (seats.tells h.seat) (seats.tells seat') (words.state gate) (words.state gate') → GoesStill words gate gate' h seat'
    goes_still does = record {
      hosted = record {
        of_slot = sym of_slot ∙ ap (λ (m : NodeAt). m.slot) node;
        limits = h.hosted.limits;
        kept = h.hosted.kept ∙ sym does.knows;
        knows = h.hosted.knows;
        tells = λ es is. h.hosted.tells es (sym (told_nothing (seats.tells h.seat) (seats.tells seat') does.events) ∙ is);
        folds = h.hosted.folds;
        agrees = h.hosted.agrees;
        waits = h.hosted.waits;
      };
      moved = record { logged = sym (append-nil h.log.items); folds = refl; does = does };
    }
