-- What a turn and a round leave as they are.
use Rattle.std.proofs.Common.{true≢false, rules, ◌≡◌, ◌∙◌, refl, ap, ℕ, Bool, true, false, ◌||◌, List, [], ◌∷◌, Option, Some, None, is_some, fold, if◌then◌else◌}
use Rattle.std.specs.List.{enumerate_from}
use Rattle.std.specs.Option.{option_map_or}
use Rattle.component_trait.specs.States.{NodeState}
use Rattle.quiesce_core.specs.declared.event.Event.{Event}
use Rattle.node_turn_laws.specs.Hints.{after_move, without_hints}
use Rattle.node_turn_laws.specs.Round.{Round, give_turn, live_nodes, round}
use Rattle.node_turn_laws.specs.Turn.{Request, do_event, looks, post, post_one, post_request, post_waiting, request_of, turn, turn_in, without_hint}
use Rattle.node_turn_laws.specs.World.{World, state_of, waiting_of, with_event_of}

pub post_keeps : (w : World) (n r m : ℕ) → without_hints (post w n r m) ≡ without_hints w
post_keeps w n r m = search rules

pub post_one_keeps : (n : ℕ) (w : World) (q : ℕ × Option ℕ) → without_hints (post_one n w q) ≡ without_hints w
post_one_keeps n w (r, None) = refl
post_one_keeps n w (r, Some m) = post_keeps w n r m

pub posts_keep : (n : ℕ) (w : World) (qs : List (ℕ × Option ℕ)) → without_hints (fold (post_one n) w qs) ≡ without_hints w
posts_keep n w [] = refl
posts_keep n w (q ∷ qs) = posts_keep n (post_one n w q) qs ∙ post_one_keeps n w q

pub requests_keep : (w : World) (n : ℕ) (r : Option Request) → without_hints (post_request w n r) ≡ without_hints w
requests_keep w n None = refl
requests_keep w n (Some r) = post_keeps w n r.require r.node

pub event_of_same : (v w : World) (n : ℕ) (e : Event) → without_hints v ≡ without_hints w
    → without_hints (with_event_of v n e) ≡ without_hints (with_event_of w n e)
event_of_same v w n e same = ap (λ u. with_event_of u n e) same

pub moves_do : (v w : World) (n : ℕ) (e : Option Event) → without_hints v ≡ without_hints w
    → without_hints (option_map_or (do_event v n) e v) ≡ without_hints (after_move w n e)
moves_do v w n None same = same
moves_do v w n (Some e) same =
    requests_keep (with_event_of v n e) n (request_of v.machine n e) ∙ event_of_same v w n e same

pub looking_keeps : (w : World) (n : ℕ) (b : Bool) → without_hints (if b then without_hint w n else w) ≡ without_hints w
looking_keeps w n true = refl
looking_keeps w n false = refl

pub turns_in_do : (v w : World) (n : ℕ) (allowed : Bool) (t : NodeState) → without_hints v ≡ without_hints w
    → without_hints (turn_in v n allowed t).world ≡ without_hints (after_move w n (turn_in v n allowed t).event)
turns_in_do v w n allowed t same =
    moves_do (if looks v.machine n t then without_hint v n else v) w n (turn_in v n allowed t).event
    (looking_keeps v n (looks v.machine n t) ∙ same)

pub turns_in_some_do : (v w : World) (n : ℕ) (allowed : Bool) (t : Option NodeState) → without_hints v ≡ without_hints w
    → without_hints (option_map_or (turn_in v n allowed) t (record { event = None; world = v })).world
    ≡ without_hints (after_move w n (option_map_or (turn_in v n allowed) t (record { event = None; world = v })).event)
turns_in_some_do v w n allowed None same = same
turns_in_some_do v w n allowed (Some t) same = turns_in_do v w n allowed t same

pub turns_do : (w : World) (n : ℕ) (allowed : Bool) → without_hints (turn w n allowed).world ≡ without_hints (after_move w n (turn w n allowed).event)
turns_do w n allowed =
    turns_in_some_do (post_waiting w n) w n allowed (state_of (post_waiting w n) n) (posts_keep n w (enumerate_from 0 (waiting_of w n)))

-- whether a round moved so far, and what it left where it didn't
pub record Stands (w : World) (r : Round) : Type 0 where
  pub stands : r.moved ≡ false → without_hints r.world ≡ without_hints w

no_move : (b : Bool) (e : Option Event) → (b || is_some e) ≡ false → (b ≡ false) × (e ≡ None)
no_move true e h = absurd (true≢false h)
no_move false None h = (refl, refl)
no_move false (Some e) h = absurd (true≢false h)

turn_stands : (w : World) (allowed : Bool) (r : Round) (n : ℕ) → Stands w r → Stands w (give_turn allowed r n)
turn_stands w allowed r n h =
    record {
      stands = λ still.
          let none = no_move r.moved (turn r.world n allowed).event still in
          turns_do r.world n allowed ∙ ap (λ e. without_hints (after_move r.world n e)) none.1 ∙ h.stands none.0;
    }

turns_stand : (w : World) (allowed : Bool) (ns : List ℕ) (r : Round) → Stands w r → Stands w (fold (give_turn allowed) r ns)
turns_stand w allowed [] r h = h
turns_stand w allowed (n ∷ ns) r h = turns_stand w allowed ns (give_turn allowed r n) (turn_stands w allowed r n h)

pub still_rounds_stand : (w : World) (allowed : Bool) → (round allowed w).moved ≡ false → without_hints (round allowed w).world ≡ without_hints w
still_rounds_stand w allowed still =
    (turns_stand w allowed (live_nodes w) (record { world = w; moved = false }) (record { stands = λ _. refl })).stands still
