-- What a change adds, once it is prepared, and carried out or given up.
use Rattle.std.proofs.Common.{◌≡◌, ◌∙◌, ℕ, ◌<◌, Option, None, Some, Bool, true, false, List, [], ◌∷◌, ◌++◌, append_assoc, length, map, refl, sym, ap, subst, inl, inr}
use Rattle.std.specs.Prelude.{◌||◌, flat_map, is_some}
use Rattle.std.specs.List.{sum_by}
use Rattle.std.proofs.lemmas.Bool.{both_ways}
use Rattle.quiesce_laws.specs.Steps.{change_all}
use Rattle.config_graph.specs.Graph.{requires_at}
use Rattle.change_plan_laws.specs.Commit.{commit_events, ports_to_close}
use Rattle.change_plan_laws.specs.Committing.{made_in}
use Rattle.quiesce_core.specs.Live.{IsGraphOf}
use Rattle.quiesce_core.specs.declared.event.Event.TheVariants as event
use Rattle.report_types.specs.declared.report.HistoryLine.TheVariants as to
use Rattle.change_spec.specs.Scripts.{more_made}
use Rattle.change_board.specs.Steps.{events_of}
use Rattle.change_board.specs.Transcripts.{Item, said}
use Rattle.change_engine.specs.Calls.{HasAbandoned, HasCommitted, HasLeft, HasPassivated, HasPrepared}
use Rattle.change_engine.specs.Carrying.{deed_items}
use Rattle.change_engine.specs.Engines.{IsIdle, IsOpen, IsPlanned, IsReadyToCommit, MayAbandon}
use Rattle.change_engine.specs.Passivating.{passivation_items}
use Rattle.change_engine.specs.declared.engine.Engine.{Engine}
use Rattle.change_engine.specs.declared.passivating.LeftRoot.{LeftRoot}
use Rattle.change_engine.specs.Draining.{pending_items}
use Rattle.change_transcript_laws.specs.Pieces.{config_at, opening_items}
use Rattle.change_transcript_laws.proofs.ConfigLaws.{deeds_config, said_config}
use Rattle.change_transcript_laws.proofs.HearingLaws.{change_commits, given_up_commits_none}
use Rattle.change_transcript_laws.proofs.PendingLaws.{commit_none, config_opened, none_in_both, opening_none, pending_both, still_closed}
use Rattle.change_transcript_laws.proofs.RoomLaws.{closes_make, commit_makes}
use Rattle.change_runner.specs.Doing.{Carried, is_given_up}
use Rattle.change_runner.specs.Replacing.{HasGivenUp, HasReplaced, Replaced, WentThrough}
use Rattle.change_spec.specs.declared.steps.Replacement.{Replacement}
use Rattle.change_spec.specs.declared.steps.Step.TheVariants as steps
use Rattle.change_board.specs.declared.board.Board.{Ghosts as BoardWords}
use Rattle.change_runner.proofs.DoingLemmas.{kept}

module _ {B : Type 0} (W : BoardWords B) (e e1 f : Engine B) (c : Replacement) (prepared : HasPrepared W e e1 c.name c.args c.plan c.graph)
    (t : List Item) (idle : IsIdle W e t) (planned : IsPlanned e.graph c.graph c.moves c.plan (config_at t)) where
  abbrev begun : List Item
  begun = t ++ said (to.Change c.name c.args) ∷ []

  open_ : IsOpen W e1 begun c.moves c.plan c.graph
  open_ = (prepared.prepares t c.moves idle planned).is_open

  -- what is closed is what the plan freezes
  same_closed : (closed : List ℕ) → closed ≡ ports_to_close e1.graph c.plan (config_at begun) → closed ≡ ports_to_close e.graph c.plan (config_at t)
  same_closed closed are =
      are ∙ ap (λ g. ports_to_close g c.plan (config_at begun)) prepared.graph_is ∙ ap (ports_to_close e.graph c.plan) (said_config t (to.Change c.name c.args))

  committed : (mid : Engine B) (x : HasPassivated W e1 mid c.plan c.within) → HasCommitted W mid f c.plan c.graph → HasReplaced W e f t c
  committed mid x y =
      let opened = opening_items c.name c.args x.closed x.how in
      let p = passivation_items x.closed x.how in
      let rest = flat_map deed_items y.deeds ++ said to.Commit ∷ [] in
      let place : begun ++ p ≡ t ++ opened = append_assoc t (said (to.Change c.name c.args) ∷ []) p in
      let may_ : IsReadyToCommit W mid (begun ++ p) c.moves c.plan c.graph = x.opens begun c.moves c.graph open_ in
      let done_ : IsIdle W f ((begun ++ p) ++ rest) = y.goes (begun ++ p) c.moves may_ in
      let same_graph : mid.graph ≡ e.graph = x.graph_is ∙ prepared.graph_is in
      let events : events_of y.deeds ≡ commit_events e.graph c.graph c.plan (config_at (t ++ opened)) =
      y.events_are (begun ++ p) c.moves may_ ∙ ap (λ g. commit_events g c.graph c.plan (config_at (begun ++ p))) same_graph
      ∙ ap (λ u. commit_events e.graph c.graph c.plan (config_at u)) place in
      let here : (t ++ opened) ++ rest ≡ t ++ (opened ++ rest) = append_assoc t opened rest in
      let d = config_at (t ++ opened) in
      let stood : IsIdle W f (t ++ (opened ++ rest)) = subst (λ u. IsIdle W f u) (ap (λ u. u ++ rest) place ∙ here) done_ in
      record {
        items = opened ++ rest;
        told = change_commits c.name c.args t x.closed x.how y.deeds f.graph stood.tells.graph;
        are = record {
          old = e.graph;
          is_old = idle.tells.graph;
          plan = c.plan;
          moves_lead = planned.can_plan.may_move;
          is_plan = planned.is_plan;
          closed = x.closed;
          closed_are = same_closed x.closed (x.closed_are begun c.moves c.graph open_);
          how = x.how;
          is_passivation = x.is_passivation;
          rest = rest;
          are = refl;
          ends = inl (record {
            none_left = x.none_left;
            deeds = y.deeds;
            events_are = events;
            are = refl;
            stands = subst (λ g. IsGraphOf (config_at ((t ++ opened) ++ rest)) g) y.graph_is (subst (λ u. IsGraphOf (config_at (u ++ rest)) f.graph) place done_.tells.graph);
          });
        };
        none_pending = none_in_both opened rest (opening_none c.name c.args x.closed x.how) (commit_none y.deeds);
        idle = stood;
        graph = y.graph_is;
        made = ap (λ u. made_in (config_at u)) (sym here)
            ∙ ap made_in (deeds_config (t ++ opened) y.deeds to.Commit ∙ ap (change_all d) events)
            ∙ commit_makes e.graph c.graph c.plan d c.moves planned.is_plan
            ∙ ap (λ m. more_made m (length c.plan.create) (sum_by (requires_at c.graph.nodes) c.plan.create))
            (ap made_in (config_opened t c.name c.args x.closed x.how) ∙ closes_make (config_at t) x.closed);
      }

  given_up : (mid : Engine B) (left : List LeftRoot) (x : HasLeft W e1 mid c.plan c.within left) → HasAbandoned W mid f c.plan → HasGivenUp W e f t c left
  given_up mid left x y =
      let opened = opening_items c.name c.args x.closed x.how in
      let p = passivation_items x.closed x.how in
      let pend = pending_items c.within left in
      let did = flat_map deed_items y.deeds in
      let last = did ++ said to.Abandon ∷ [] in
      let place : begun ++ (p ++ pend) ≡ (t ++ opened) ++ pend =
      append_assoc t (said (to.Change c.name c.args) ∷ []) (p ++ pend) ∙ sym (append_assoc t opened pend) in
      let may_ : MayAbandon W mid (begun ++ (p ++ pend)) c.moves c.plan c.graph = x.opens begun c.moves c.graph open_ in
      let done_ : IsIdle W f ((begun ++ (p ++ pend)) ++ last) = y.goes (begun ++ (p ++ pend)) c.moves c.graph may_ in
      let same_graph : mid.graph ≡ e.graph = x.graph_is ∙ prepared.graph_is in
      let are = same_closed x.closed (x.closed_are begun c.moves c.graph open_) in
      let events : events_of y.deeds ≡ map event.Reopen x.closed =
      y.events_are (begun ++ (p ++ pend)) c.moves c.graph may_
      ∙ ap (map event.Reopen) (ap (λ g. ports_to_close g c.plan (config_at (begun ++ (p ++ pend)))) same_graph
      ∙ ap (λ u. ports_to_close e.graph c.plan (config_at u)) place
      ∙ still_closed t c.name c.args x.closed x.how e.graph c.plan c.within left are) in
      let rest = pend ++ did ++ said to.Abandon ∷ [] in
      let here : ((t ++ opened) ++ pend) ++ last ≡ t ++ (opened ++ rest) =
      append_assoc (t ++ opened) pend last ∙ append_assoc t opened (pend ++ last) ∙ ap (λ u. t ++ (opened ++ u)) (sym (append_assoc pend did (said to.Abandon ∷ []))) in
      let some : is_given_up (opened ++ rest) ≡ true =
      pending_both opened rest ∙ ap (λ b. b || is_given_up rest) (opening_none c.name c.args x.closed x.how) in
      record {
        items = opened ++ rest;
        told = given_up_commits_none c.name c.args x.closed x.how c.within left y.deeds;
        are = record {
          old = e.graph;
          is_old = idle.tells.graph;
          plan = c.plan;
          moves_lead = planned.can_plan.may_move;
          is_plan = planned.is_plan;
          closed = x.closed;
          closed_are = are;
          how = x.how;
          is_passivation = x.is_passivation;
          rest = rest;
          are = refl;
          ends = inr (
            x.all_rounds,
            record {
              some_left = subst (λ l. 0 < length l) x.left_is x.some_left;
              deeds = y.deeds;
              events_are = events;
              are = ap (λ l. pending_items c.within l ++ did ++ said to.Abandon ∷ []) x.left_is;
            },
          );
        };
        some_left = x.some_left;
        left_told = record { before = opened; deeds = y.deeds; are = ap (λ u. opened ++ u) (append_assoc pend did (said to.Abandon ∷ [])) };
        pending = some;
        idle = subst (λ u. IsIdle W f u) (ap (λ u. u ++ last) place ∙ here) done_;
        graph = y.graph_is ∙ same_graph;
      }

  pub replaced : (left : Option (List LeftRoot)) → WentThrough W e1 f c.plan c.graph c.within left → Replaced W e f t c left
  replaced None w = committed w.0 w.1 w.2
  replaced (Some left) w = given_up w.0 left w.1 w.2

-- what it comes to for a script in which no change was given up before
module _ {B : Type 0} (W : BoardWords B) (e f : Engine B) (c : Replacement) (t : List Item) (none : is_given_up t ≡ false) where
  carried_out : HasReplaced W e f t c → Carried W e f t (steps.Change c) false
  carried_out w = record {
    items = w.items;
    done = (λ h. absurd (both_ways (is_given_up t) none h), λ h. w.are);
    told = w.told;
    idle = w.idle;
    flag = sym (kept t w.items w.none_pending ∙ none);
    graph = λ _. w.graph;
    made = λ _. w.made;
  }

  carried_not : (left : List LeftRoot) → HasGivenUp W e f t c left → Carried W e f t (steps.Change c) true
  carried_not left w = record {
    items = w.items;
    done = (λ h. absurd (both_ways (is_given_up t) none h), λ h. w.are);
    told = w.told;
    idle = w.idle;
    flag = sym (pending_both t w.items ∙ ap (λ b. b || is_given_up w.items) none ∙ w.pending);
    graph = λ h. absurd (both_ways true h refl);
    made = λ h. absurd (both_ways true h refl);
  }

  pub carried : (left : Option (List LeftRoot)) (given : Bool) → is_some left ≡ given → Replaced W e f t c left → Carried W e f t (steps.Change c) given
  carried None given is w = subst (λ b. Carried W e f t (steps.Change c) b) is (carried_out w)
  carried (Some left) given is w = subst (λ b. Carried W e f t (steps.Change c) b) is (carried_not left w)
