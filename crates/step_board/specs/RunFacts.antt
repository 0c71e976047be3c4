-- A record of rounds is that of a run, which ends in the world where it was played: what the laws of boards rest on.
use Rattle.std.proofs.Common.{◌≡◌, ◌∙◌, Bool, true, false, List, [], ◌∷◌, ◌++◌, append_assoc, None, refl, sym, ap, subst}
use Rattle.std.specs.Prelude.{All}
use Rattle.std.specs.List.{range_with_len}
use Rattle.std.proofs.lemmas.List.{append-nil}
use Rattle.std.proofs.lemmas.List.Elements.{All-head, All-tail, filter_map-append}
use Rattle.std.proofs.lemmas.List.Sums.{fold_push}
use Rattle.base.proofs.EachLaws.{each_pushed}
use Rattle.base.specs.Each.{EachAfter}
use Rattle.txn_records.proofs.RecordLaws.{config_is, did_more, node_more, quiet_events, seen_more}
use Rattle.txn_records.specs.Entries.{config_of, event_in}
use Rattle.txn_records.specs.declared.entry.Entry.{Entry}
use Rattle.txn_records.specs.declared.entry.Entry.TheVariants.{Did, Looked, Sighted, Scanned}
use Rattle.txn_records.specs.Records.{IsRecordCut, IsRecordOf, IsSo, Moment, by_node, entry, event_at, events, state_at}
use Rattle.quiesce_core.proofs.RunLaws.{fronts_are_runs, runs_grow}
use Rattle.quiesce_core.specs.Doers.{is_of_change}
use Rattle.quiesce_core.specs.Rules.{denial}
use Rattle.quiesce_core.specs.Runs.{IsRun, done_by, state_after}
use Rattle.quiesce_core.specs.State.{State}
use Rattle.quiesce_core.specs.Words.{word_of}
use Rattle.quiesce_core.specs.declared.event.Event.{Event}
use Rattle.quiesce_core.specs.declared.event.Event.TheVariants.{Begin, Call, Take, Give, End, More, Ask, Hear, Miss, Close, Reopen, Make, Link, Unlink, Remove}
use Rattle.node_turn_laws.proofs.ReachedLaws.{holds_where_reached}
use Rattle.node_turn_laws.specs.Reached.{IsReached}
use Rattle.node_turn_laws.specs.Round.{round}
use Rattle.node_turn_laws.specs.World.{World, nowhere, with_event}
use Rattle.step_board.specs.Going.{WentOn}
use Rattle.step_board.specs.Playing.{HasWholeRounds, IsSoAt, IsSoIn, play, played}
use Rattle.step_board.specs.TurnFacts.{went_live, went_none}

pub machine_is : (w : World) → IsReached w → w.machine ≡ state_after w.events
machine_is w r = (holds_where_reached w r).0

pub reached_runs : (w : World) → IsReached w → IsRun w.events
reached_runs w r = (holds_where_reached w r).1.run

-- ---- moments of a record

pub record EndsIn (r : List Entry) (w : World) : Type 0 where
  pub reached : IsReached w
  pub moments : List Moment
  pub is_of : IsRecordOf r moments
  pub events_are : events moments ≡ w.events

pub state_here : (r : List Entry) (w : World) → (h : EndsIn r w) → state_at h.moments ≡ w.machine
state_here r w h = ap state_after h.events_are ∙ sym (machine_is w h.reached)

pub config_here : (r : List Entry) (w : World) → EndsIn r w → config_of r ≡ w.machine.config
config_here r w h = config_is r h.moments h.is_of ∙ ap (λ (s : State). s.config) (state_here r w h)

pub plays_nothing : EndsIn [] nowhere
plays_nothing = record {
  reached = IsReached.at_start;
  moments = [];
  is_of = record { record_is = refl; runs = tt; so = tt };
  events_are = refl;
}

with_event_events : (w : World) (e : Event) → (with_event w e).events ≡ w.events ++ e ∷ []
with_event_events w (Make n node from) = refl
with_event_events w (Begin p k v) = refl
with_event_events w (Call p k v) = refl
with_event_events w (Take p k v) = refl
with_event_events w (Give p k v) = refl
with_event_events w (End p k v) = refl
with_event_events w (More p k v) = refl
with_event_events w (Ask p k v) = refl
with_event_events w (Hear p k v) = refl
with_event_events w (Miss p) = refl
with_event_events w (Close p) = refl
with_event_events w (Reopen p) = refl
with_event_events w (Link p n x) = refl
with_event_events w (Unlink p) = refl
with_event_events w (Remove n) = refl

-- an event of the change
pub plays_did : (r : List Entry) (w : World) (e : Event) → EndsIn r w → is_of_change e ≡ true
    → denial w.machine e ≡ None → EndsIn (r ++ Did e ∷ []) (with_event w e)
plays_did r w e h change allowed = record {
  reached = IsReached.by_change w e h.reached change allowed;
  moments = h.moments ++ entry (Did e) ∷ [];
  is_of = did_more r h.moments e h.is_of change (ap (λ s. denial s e) (state_here r w h) ∙ allowed);
  events_are = filter_map-append event_at h.moments (entry (Did e) ∷ []) ∙ ap (λ es. es ++ e ∷ []) h.events_are
      ∙ sym (with_event_events w e);
}

-- an entry that is no event, and leaves the world
pub plays_seen : (r : List Entry) (w : World) (x : Entry) → (h : EndsIn r w) → event_in x ≡ None
    → IsSo h.moments (entry x) → EndsIn (r ++ x ∷ []) w
plays_seen r w x h quiet so = record {
  reached = h.reached;
  moments = h.moments ++ entry x ∷ [];
  is_of = seen_more r h.moments x h.is_of quiet so;
  events_are = quiet_events h.moments x quiet ∙ h.events_are;
}

-- events of nodes between two entries
record Between (r : List Entry) (m : List Moment) (later : List Event) : Type 0 where
  moments : List Moment
  is_of : IsRecordOf r moments
  events_are : events moments ≡ events m ++ later

between : (r : List Entry) (m : List Moment) (later : List Event) → IsRecordOf r m
    → All (λ e. is_of_change e ≡ false) later → IsRun (events m ++ later) → Between r m later
between r m [] h by_nodes run = record { moments = m; is_of = h; events_are = sym (append-nil (events m)) }
between r m (e ∷ later) h by_nodes run =
    let parts = append_assoc (events m) (e ∷ []) later in
    let grown = subst IsRun (sym parts) run in
    let allowed = ((runs_grow (events m) e).0 (fronts_are_runs (events m ++ e ∷ []) later grown)).1 in
    let quiet = All-head (λ x. is_of_change x ≡ false) e later by_nodes in
    let more_ = filter_map-append event_at m (by_node e ∷ []) in
    let rest = between r (m ++ by_node e ∷ []) later (node_more r m e h quiet allowed) (All-tail (λ x. is_of_change x ≡ false) e later by_nodes)
    (subst (λ es. IsRun (es ++ later)) (sym more_) grown) in
    record { moments = rest.moments; is_of = rest.is_of; events_are = rest.events_are ∙ ap (λ es. es ++ later) more_ ∙ parts }

run_on : (r : List Entry) (w v : World) (h : EndsIn r w) (g : WentOn w v) → IsRun (events h.moments ++ g.later)
run_on r w v h g = subst IsRun (g.events_are ∙ ap (λ es. es ++ g.later) (sym h.events_are)) (reached_runs v g.reached)

pub plays_on : (r : List Entry) (w v : World) → EndsIn r w → WentOn w v → EndsIn r v
plays_on r w v h g =
    let b = between r h.moments g.later h.is_of g.by_nodes (run_on r w v h g) in
    record {
      reached = g.reached;
      moments = b.moments;
      is_of = b.is_of;
      events_are = b.events_are ∙ ap (λ es. es
          ++ g.later) h.events_are ∙ sym g.events_are;
    }

pub cut_here : (r : List Entry) (w v : World) → EndsIn r w → WentOn w v → IsRecordCut r
cut_here r w v h g = record { moments = h.moments; later = g.later; is_of = h.is_of; by_nodes = g.by_nodes; runs_on = run_on r w v h g }

pub round_goes_on : (w : World) (begins : Bool) → IsReached w → WentOn w (round begins w).world
round_goes_on w begins r = went_live w begins (range_with_len 0 _) (record { world = w; moved = false }) (went_none w r)

-- ---- records of rounds

pub played_more : (r : List Entry) (x : Entry) → played (r ++ x ∷ []) ≡ play (played r) x
played_more r x = fold_push play nowhere r x

pub plays_next : (r : List Entry) (w : World) (x : Entry) → EndsIn r w → IsSoIn w x → EndsIn (r ++ x ∷ []) (play w x)
plays_next r w (Did e) h so = plays_did r w e h so.0 so.1
plays_next r w (Looked p v) h so = plays_seen r w (Looked p v) h refl (so ∙ sym (ap (λ s. word_of s p) (state_here r w h)))
plays_next r w (Sighted n es) h so = plays_seen r w (Sighted n es) h refl (so ∙ sym (ap (done_by n) h.events_are))
plays_next r w (Scanned begins moved) h so =
    let v = (round begins w).world in
    plays_seen r v (Scanned begins moved) (plays_on r w v h (round_goes_on w begins h.reached)) refl tt

plays_all : (r xs : List Entry) → EndsIn r (played r) → EachAfter IsSoAt r xs → EndsIn (r ++ xs) (played (r ++ xs))
plays_all r [] h so = subst (λ q. EndsIn q (played q)) (sym (append-nil r)) h
plays_all r (x ∷ xs) h so =
    subst (λ q. EndsIn q (played q)) (append_assoc r (x ∷ []) xs)
    (plays_all (r ++ x ∷ []) xs (subst (EndsIn (r ++ x ∷ [])) (sym (played_more r x)) (plays_next r (played r) x h so.0)) so.1)

pub rounds_play : (r : List Entry) → HasWholeRounds r → EndsIn r (played r)
rounds_play r so = plays_all [] r plays_nothing so

-- one entry more
pub rounds_more : (r : List Entry) (x : Entry) → HasWholeRounds r → IsSoIn (played r) x → HasWholeRounds (r ++ x ∷ [])
rounds_more r x h so = (each_pushed IsSoAt r x).1 (h, so)
