-- Turns are events of nodes, which the machine allows: what the laws of boards rest on.
use Rattle.std.proofs.Common.{◌≡◌, ◌∙◌, ℕ, Bool, true, false, cond, List, [], ◌∷◌, ◌++◌, append_assoc, Option, Some, None, refl, sym, ap}
use Rattle.std.specs.Prelude.{filter, fold}
use Rattle.std.proofs.lemmas.List.{append-nil}
use Rattle.std.proofs.lemmas.List.Elements.{All-append, All-cons, All-nil}
use Rattle.quiesce_core.proofs.RunLaws.{node_events_keep_the_configuration}
use Rattle.quiesce_core.specs.Doers.{is_of_change}
use Rattle.quiesce_core.specs.State.{Configuration, is_live}
use Rattle.quiesce_core.specs.declared.event.Event.{Event}
use Rattle.node_turn_laws.proofs.ReachedLaws.{turn_goes_on}
use Rattle.node_turn_laws.specs.Reached.{IsReached}
use Rattle.node_turn_laws.proofs.TurnLaws.{turns_do}
use Rattle.node_turn_laws.specs.Hints.{after_move}
use Rattle.node_turn_laws.specs.Round.{Round, give_turn}
use Rattle.node_turn_laws.specs.Turn.{turn}
use Rattle.node_turn_laws.specs.World.{World}
use Rattle.step_board.specs.Going.{WentOn}

pub went_none : (w : World) → IsReached w → WentOn w w
went_none w r = record {
  later = [];
  events_are = sym (append-nil w.events);
  by_nodes = All-nil (λ e. is_of_change e ≡ false);
  reached = r;
  config = refl;
}

pub went_both : (w v u : World) → WentOn w v → WentOn v u → WentOn w u
went_both w v u x y = record {
  later = x.later ++ y.later;
  events_are = y.events_are ∙ ap (λ es. es ++ y.later) x.events_are ∙ append_assoc w.events x.later y.later;
  by_nodes = All-append (λ e. is_of_change e ≡ false) x.later y.later x.by_nodes y.by_nodes;
  reached = y.reached;
  config = y.config ∙ x.config;
}

pub went_turn : (w : World) (n : ℕ) (begins : Bool) → IsReached w → is_live w.machine.config n ≡ true → WentOn w (turn w n begins).world
went_turn w n begins r live = by (turn w n begins).event refl
  where
    after : World
    after = (turn w n begins).world

    reached_after : IsReached after
    reached_after = IsReached.by_turn w n begins r live

    by : (o : Option Event) → (turn w n begins).event ≡ o → WentOn w after
    by None is = record {
      later = [];
      events_are = ap (λ (u : World). u.events) (turns_do w n begins) ∙ ap (λ o. (after_move w n o).events) is ∙ sym (append-nil w.events);
      by_nodes = All-nil (λ e. is_of_change e ≡ false);
      reached = reached_after;
      config = ap (λ (u : World). u.machine.config) (turns_do w n begins) ∙ ap (λ o. (after_move w n o).machine.config) is;
    }
    by (Some e) is =
        let goes = turn_goes_on w n begins e r live is in
        record {
          later = e ∷ [];
          events_are = ap (λ (u : World). u.events) (turns_do w n begins) ∙ ap (λ o. (after_move w n o).events) is;
          by_nodes = All-cons (λ x. is_of_change x ≡ false) e [] goes.of_node (All-nil (λ x. is_of_change x ≡ false));
          reached = reached_after;
          config = ap (λ (u : World). u.machine.config) (turns_do w n begins) ∙ ap (λ o. (after_move w n o).machine.config) is
              ∙ node_events_keep_the_configuration w.machine e goes.of_node;
        }

-- one more of the nodes that are live at the front of a round
pub went_next : (w : World) (begins : Bool) (r : Round) (n : ℕ) → WentOn w r.world → is_live w.machine.config n ≡ true
    → WentOn w (give_turn begins r n).world
went_next w begins r n h live =
    went_both w r.world (turn r.world n begins).world h
    (went_turn r.world n begins h.reached (ap (λ (c : Configuration). is_live c n) h.config ∙ live))

pub went_live : (w : World) (begins : Bool) (ns : List ℕ) (r : Round) → WentOn w r.world
    → WentOn w (fold (give_turn begins) r (filter (λ n. is_live w.machine.config n) ns)).world
went_live w begins [] r h = h
went_live w begins (n ∷ ns) r h = by (is_live w.machine.config n) refl (λ q k. went_live w begins ns q k)
  where
    rest : List ℕ
    rest = filter (λ m. is_live w.machine.config m) ns

    by : (b : Bool) → is_live w.machine.config n ≡ b → ((q : Round) → WentOn w q.world → WentOn w (fold (give_turn begins) q rest).world)
        → WentOn w (fold (give_turn begins) r (cond b (n ∷ rest) rest)).world
    by true is later = later (give_turn begins r n) (went_next w begins r n h is)
    by false is later = later r h
