-- What is kept where a node did no event, and the act that it goes on with.
use Rattle.std.proofs.Common.{◌≡◌, ◌∙◌, ℕ, List, [], ◌++◌, Option, Some, None, refl, sym, ap, subst}
use Rattle.std.specs.Prelude.{option_map, option_to_list}
use Rattle.std.proofs.lemmas.List.{append-nil}
use Rattle.std.proofs.lemmas.Option.{same_Some}
use Rattle.component_trait.specs.Fold.{fold_from}
use Rattle.component_trait.specs.States.{NodeState}
use Rattle.component_trait.specs.declared.component.Component.{Ghosts as ComponentWords}
use Rattle.node_gate.specs.Moves.{Does, Leads}
use Rattle.node_gate.specs.declared.gate.GateSeat.{Ghosts as SeatWords}
use Rattle.node_gate.specs.declared.gate.PortGate.{Ghosts as GateWords}
use Rattle.quiesce_core.specs.State.{State}
use Rattle.quiesce_core.specs.declared.event.Event.{Event}
use Rattle.quiesce_core.specs.declared.known.Known.{Known}
use Rattle.node_host.specs.Acts.{Acts, TellsState, node_at, seat_seen, state_of}
use Rattle.node_host.specs.Hosted.{node_of}
use Rattle.node_host.specs.Moved.{Moved}
use Rattle.node_host.specs.Told.{FitsToldState}
use Rattle.node_host.specs.declared.node.HostNode.{HostNode}

led_nowhere : (n : ℕ) (o o' : Option State) → Leads n o [] o' → o' ≡ o
led_nowhere n None o' h = h
led_nowhere n (Some s) o' h = h

pub told_nothing : (o o' : Option (List Event)) → o' ≡ option_map (λ log. log ++ []) o → o' ≡ o
told_nothing None o' h = h
told_nothing (Some es) o' h = h ∙ ap Some (append-nil es)

module _ {C S : Type 0} {component : ComponentWords C} {seats : SeatWords S} {G : Type 0} {words : GateWords G S} {gate gate' : G} {h h' : HostNode C S component seats} (a : Acts words gate gate' h h' None) where
  pub state_kept : state_of h' ≡ state_of h
  state_kept = sym (same_Some (state_of h) (state_of h') a.moved.folds)

  pub gate_kept : words.state gate' ≡ words.state gate
  gate_kept = led_nowhere h.slot (words.state gate) (words.state gate') a.moved.does.steps

  pub known_kept : h'.known ≡ h.known
  known_kept = h'.hosted.kept ∙ a.moved.does.knows ∙ sym h.hosted.kept

  -- what is so of the node as it is now, was so before
  pub as_before : (P : ℕ → ℕ → NodeState → Known → Known → Option State → Type 0) → P h'.slot h'.first_port (state_of h') h'.known (seats.known h'.seat) (words.state gate')
      → P h.slot h.first_port (state_of h) h.known (seats.known h.seat) (words.state gate)
  as_before P p =
      subst (λ k. P k h.first_port (state_of h) h.known (seats.known h.seat) (words.state gate)) a.place.0
      (subst (λ k. P h'.slot k (state_of h) h.known (seats.known h.seat) (words.state gate)) a.place.1
      (subst (λ t. P h'.slot h'.first_port t h.known (seats.known h.seat) (words.state gate)) state_kept
      (subst (λ w. P h'.slot h'.first_port (state_of h') w (seats.known h.seat) (words.state gate)) known_kept
      (subst (λ w. P h'.slot h'.first_port (state_of h') h'.known w (words.state gate)) a.moved.does.knows
      (subst (λ o. P h'.slot h'.first_port (state_of h') h'.known (seats.known h'.seat) o) gate_kept p)))))

  pub node_kept : node_at h' ≡ node_at h
  node_kept = as_before (λ slot first t w seat o. node_at h' ≡ node_of slot first t) refl

  pub tells_kept : (s : State) → TellsState words gate h s → TellsState words gate' h' s
  tells_kept s = as_before (λ slot first t w seat o. FitsToldState o (node_of slot first t) seat s → TellsState words gate' h' s) (λ told. told)

  pub acts_then : {gate'' : G} {h'' : HostNode C S component seats} {e : Option Event} → Acts words gate' gate'' h' h'' e → Acts words gate gate'' h h'' e
  acts_then {gate'' = gate''} {h'' = h''} {e = e} b = record {
    fits = b.fits;
    spare = b.spare ∙ a.spare;
    node = b.node;
    others = λ other apart fit.
        let x = a.others other apart fit in
        let y = b.others other (λ is. apart (is ∙ a.place.0)) x.0 in (y.0, y.1 ∙ x.1);
    moved = then_moved (subst (λ n. Moved n e (state_of h') (state_of h'') h'.log.items h''.log.items (seat_seen h') (seat_seen h'') (words.state gate') (words.state gate'')) node_kept b.moved);
    place = (b.place.0 ∙ a.place.0, b.place.1 ∙ a.place.1);
    past = b.past ∙ a.past;
  }
    where
      then_moved : Moved (node_at h) e (state_of h') (state_of h'') h'.log.items h''.log.items (seat_seen h') (seat_seen h'') (words.state gate') (words.state gate'')
          → Moved (node_at h) e (state_of h) (state_of h'') h.log.items h''.log.items (seat_seen h) (seat_seen h'') (words.state gate) (words.state gate'')
      then_moved later = record {
        logged = later.logged ∙ ap (λ es. es ++ option_to_list e) (a.moved.logged ∙ append-nil h.log.items);
        folds = subst (λ t. fold_from h.first_port t (option_to_list e) ≡ Some (state_of h'')) state_kept later.folds;
        does = subst (λ w. Does (node_at h) (option_to_list e) w (seats.known h''.seat) (seats.tells h.seat) (seats.tells h''.seat) (words.state gate) (words.state gate'')) a.moved.does.knows
            (subst (λ told. Does (node_at h) (option_to_list e) (seats.known h'.seat) (seats.known h''.seat) told (seats.tells h''.seat) (words.state gate) (words.state gate'')) (told_nothing (seats.tells h.seat) (seats.tells h'.seat) a.moved.does.events)
            (subst (λ o. Does (node_at h) (option_to_list e) (seats.known h'.seat) (seats.known h''.seat) (seats.tells h'.seat) (seats.tells h''.seat) o (words.state gate'')) gate_kept later.does));
      }
