-- A script, step after step: what was done so far, and what may be done next.
use Rattle.std.proofs.Common.{◌≡◌, ◌∙◌, ◌-◌, ◌^◌, Bool, false, List, [], ◌∷◌, ◌++◌, append_assoc, length, map, Option, Some, None, refl, sym, ap, subst}
use Rattle.std.specs.Prelude.{All, option_to_list}
use Rattle.std.specs.List.{range_with_len}
use Rattle.std.proofs.lemmas.Bool.{or_parts}
use Rattle.std.proofs.lemmas.List.{append-nil, map-append}
use Rattle.base.proofs.EachLaws.{each_pushed}
use Rattle.quiesce_laws.specs.Steps.{change_all}
use Rattle.change_plan.specs.Plans.{IsPlanOf}
use Rattle.change_plan.specs.Refusals.{CanPlan}
use Rattle.change_plan_laws.specs.Committing.{made_in}
use Rattle.quiesce_core.specs.Live.{IsGraphOf}
use Rattle.quiesce_core.specs.State.{Configuration, empty}
use Rattle.report_types.specs.declared.report.NodeLog.{NodeLog}
use Rattle.report_types.specs.declared.report.Report.{Report}
use Rattle.change_spec.specs.Statements as statements
use Rattle.change_board.specs.Collecting.{IsEndOf, first_undone}
use Rattle.txn_records.specs.Entries.{config_of}
use Rattle.change_board.specs.Transcripts.{Item, entries, lines}
use Rattle.change_engine.specs.Beginning.{start_items}
use Rattle.change_engine.specs.Calls.{HasStarted, HasStopped}
use Rattle.change_engine.specs.Carrying.{sight_item}
use Rattle.change_engine.specs.Ending.{unfinished_after}
use Rattle.change_engine.specs.Engines.{IsIdle}
use Rattle.change_engine.specs.declared.engine.Engine.{Engine}
use Rattle.config_graph.specs.Graph.{Graph}
use Rattle.change_spec.specs.Heard.{AreCommitted}
use Rattle.change_transcript_laws.specs.Pieces.{AreDone, IsDone, Piece, config_at, items_of}
use Rattle.change_transcript_laws.proofs.ConfigLaws.{sights_behind, sights_config, sights_lines, start_config}
use Rattle.change_transcript_laws.proofs.HearingLaws.{heard_next, none_committed, start_commits, stop_committed}
use Rattle.change_transcript_laws.proofs.PendingLaws.{pending_both, start_none}
use Rattle.change_transcript_laws.proofs.RoomLaws.{start_makes, wanted_as_planned}
use Rattle.change_spec.specs.Asked.{Above, CanDoAll, after_change, after_start, statement_of, statements_of}
use Rattle.change_runner.specs.Doing.{Carried, IsReady, is_given_up, made_behind}
use Rattle.change_runner.specs.Hearing.{Hears, committed_in}
use Rattle.change_runner.specs.Ran.{HasCarriedOut}
use Rattle.change_spec.specs.declared.steps.Start.{Start}
use Rattle.change_spec.specs.declared.steps.Step.{Step}
use Rattle.change_spec.specs.declared.steps.Step.TheVariants as steps
use Rattle.change_transcript_laws.proofs.FollowLaws.{items_pushed}
use Rattle.change_board.specs.declared.board.Board.{Ghosts as BoardWords}
use Rattle.change_engine.specs.Stopping.{stop_items}

-- where these steps were done, and the others are left
pub record Progress {B L : Type 0} (W : BoardWords B) (H : L → List Graph → Type 0) (start : Start) (done_ rest : List Step) (e : Engine B) (w : L) (given_up : Bool)
    : Type 0 where
  pub pieces : List Piece
  pub statements_are : map (λ (p : Piece). p.statement) pieces ≡ statements_of start done_
  pub are_done : AreDone W.alone pieces
  pub graphs : List Graph
  pub heard : H w graphs
  pub committed : AreCommitted (lines (items_of pieces)) graphs
  pub idle : IsIdle W e (items_of pieces)
  pub flag : given_up ≡ is_given_up (items_of pieces)
  pub above : Above
  pub can : CanDoAll above rest
  pub graph : given_up ≡ false → e.graph ≡ above.graph
  pub made : given_up ≡ false → made_in (config_at (items_of pieces)) ≡ above.made

-- what stands above the next step
record Forward {B : Type 0} (f : Engine B) (t : List Item) (rest : List Step) (given_up : Bool) : Type 0 where
  above : Above
  can : CanDoAll above rest
  graph : given_up ≡ false → f.graph ≡ above.graph
  made : given_up ≡ false → made_in (config_at t) ≡ above.made

module _ {B L : Type 0} (W : BoardWords B) (H : L → List Graph → Type 0) (start : Start) where
  pub begun : (rest : List Step) (e : Engine B) (w : L) → HasStarted W e start.name start.args start.graph → CanDoAll (after_start start) rest → H w (e.graph ∷ [])
      → Progress W H start [] rest e w false
  begun rest e w x can heard =
      let t = start_items start.name start.args x.deeds in
      let nothing = append-nil t in
      let p : Piece = record { statement = statements.start start.name start.args start.graph; items = t } in
      let done_ : AreDone W.alone (p ∷ []) =
      (record { deeds = x.deeds; events_are = x.events_are; are = refl; stands = subst (λ g. IsGraphOf (config_at t) g) x.graph_is x.idle.tells.graph }, tt) in
      record {
        pieces = p ∷ [];
        statements_are = refl;
        are_done = done_;
        graphs = e.graph ∷ [];
        heard = heard;
        committed = heard_next W.alone [] p [] done_ none_committed (Some e.graph) (start_commits start.name start.args [] x.deeds e.graph x.idle.tells.graph);
        idle = subst (λ u. IsIdle W e u) (sym nothing) x.idle;
        flag = sym (ap is_given_up nothing ∙ start_none start.name start.args x.deeds);
        above = after_start start;
        can = can;
        graph = λ _. x.graph_is;
        made = λ _. ap (λ u. made_in (config_at u)) nothing
            ∙ ap made_in (start_config start.name start.args x.deeds ∙ ap (change_all empty.config) x.events_are) ∙ start_makes start.graph;
      }

  -- a change that is next, where none was given up, may be made
  pub ready : (done_ : List Step) (step : Step) (rest : List Step) (e : Engine B) (w : L) (given : Bool) (p : Progress W H start done_ (step ∷ rest) e w given) → IsReady e.graph (items_of p.pieces) step
  ready done_ (steps.Change c) rest e w given p = λ h.
      let none = p.flag ∙ h in
      let w = p.can.0 in
      record {
        new_graph = w.is_graph;
        new_sound = w.sound;
        is_plan = subst (λ g. IsPlanOf g c.graph c.moves c.plan) (sym (p.graph none)) w.is_plan;
        can_plan = subst (λ g. CanPlan g c.graph c.moves (made_in (config_at (items_of p.pieces)))) (sym (p.graph none))
            (subst (λ m. CanPlan p.above.graph c.graph c.moves m) (sym (p.made none)) w.can_plan);
      }
  ready done_ (steps.Run k) rest e w given p = tt
  ready done_ (steps.Finish n) rest e w given p = tt
  ready done_ steps.Show rest e w given p = tt

  module _ (done_ : List Step) (rest : List Step) (e f : Engine B) (v w : L) (given now_ : Bool) where
    forward : (step : Step) (p : Progress W H start done_ (step ∷ rest) e v given) (x : Carried W e f (items_of p.pieces) step now_) → (now_ ≡ false → given ≡ false)
        → Forward f (items_of p.pieces ++ x.items) rest now_
    forward (steps.Change c) p x none = record {
      above = after_change p.above c p.can.0;
      can = p.can.1;
      graph = λ h. x.graph h;
      made = λ h. x.made h ∙ ap (λ m. made_behind m (steps.Change c)) (p.made (none h))
          ∙ sym (wanted_as_planned p.above.graph c.graph c.moves p.above.made c.plan p.can.0.can_plan p.can.0.is_plan);
    }
    forward (steps.Run k) p x none = record { above = p.above; can = p.can; graph = λ h. x.graph h ∙ p.graph (none h); made = λ h. x.made h ∙ p.made (none h) }
    forward (steps.Finish n) p x none = record { above = p.above; can = p.can; graph = λ h. x.graph h ∙ p.graph (none h); made = λ h. x.made h ∙ p.made (none h) }
    forward steps.Show p x none = record { above = p.above; can = p.can; graph = λ h. x.graph h ∙ p.graph (none h); made = λ h. x.made h ∙ p.made (none h) }

    heard_more : (o : Option Graph) → Hears H v w o → (graphs : List Graph) → H v graphs → H w (graphs ++ option_to_list o)
    heard_more None h graphs so_far = subst (H w) (sym (append-nil graphs)) (h graphs so_far)
    heard_more (Some g) h graphs so_far = h graphs so_far

    pub next_ : (step : Step) (p : Progress W H start done_ (step ∷ rest) e v given) → Carried W e f (items_of p.pieces) step now_ → Hears H v w (committed_in step now_ f.graph)
        → Progress W H start (done_ ++ step ∷ []) rest f w now_
    next_ step p x hears =
        let t = items_of p.pieces in
        let q : Piece = record { statement = statement_of step; items = x.items } in
        let pushed = items_pushed p.pieces q in
        let none : now_ ≡ false → given ≡ false = λ h. p.flag ∙ (or_parts (is_given_up t) (is_given_up x.items) (sym (pending_both t x.items) ∙ sym x.flag ∙ h)).0 in
        let above = forward step p x none in
        let told = committed_in step now_ f.graph in
        let all_done : AreDone W.alone (p.pieces ++ q ∷ []) = (each_pushed (λ before (y : Piece). IsDone W.alone (items_of before) y.statement y.items) p.pieces q).1 (p.are_done, x.done) in
        record {
          pieces = p.pieces ++ q ∷ [];
          statements_are = map-append (λ (y : Piece). y.statement) p.pieces (q ∷ []) ∙ ap (λ ss. ss ++ statement_of step ∷ []) p.statements_are
              ∙ ap (λ ss. statements.start start.name start.args start.graph ∷ ss) (sym (map-append statement_of done_ (step ∷ [])));
          are_done = all_done;
          graphs = p.graphs ++ option_to_list told;
          heard = heard_more told hears p.graphs p.heard;
          committed = heard_next W.alone p.pieces q p.graphs all_done p.committed told x.told;
          idle = subst (λ u. IsIdle W f u) (sym pushed) x.idle;
          flag = x.flag ∙ ap is_given_up (sym pushed);
          above = above.above;
          can = above.can;
          graph = above.graph;
          made = λ h. ap (λ u. made_in (config_at u)) pushed ∙ above.made h;
        }

  -- where none is left, all are done
  pub ended : (all done_ rest : List Step) (e : Engine B) (w : L) (given : Bool) → rest ≡ [] → done_ ++ rest ≡ all → Progress W H start done_ rest e w given → Progress W H start all [] e w given
  ended all done_ rest e w given none same p =
      subst (λ ys. Progress W H start ys [] e w given) (sym (append-nil done_) ∙ ap (λ es. done_ ++ es) (sym none) ∙ same)
      (subst (λ rs. Progress W H start done_ rs e w given) none p)

  -- and once all is done
  pub stopped : (all : List Step) (e : Engine B) (w : L) (given : Bool) (report : Report) (board : B) → Progress W H start all [] e w given → HasStopped W e report board
      → HasCarriedOut W (statements_of start all) report board
  stopped all e w given report board p x =
      let t = items_of p.pieces in
      let ss = x.collected.sights in
      let stopping = stop_items x.closed x.how in
      let whole = t ++ (stopping ++ map sight_item ss) in
      let group : (t ++ stopping) ++ map sight_item ss ≡ whole = append_assoc t stopping (map sight_item ss) in
      let r = entries (t ++ stopping) in
      let here : W.stands_for x.quiet r = x.stands t p.idle in
      let same : config_of r ≡ config_at whole = sym (sights_config (t ++ stopping) ss) ∙ ap config_at group in
      record {
        transcript = whole;
        is_transcript = record {
          pieces = p.pieces;
          stop = stopping ++ map sight_item ss;
          statements_are = p.statements_are;
          done = p.are_done;
          stops = record {
            closed = x.closed;
            closed_are = x.closed_are t p.idle;
            within = 2 ^ 64 - 1;
            how = x.how;
            is_passivation = x.is_passivation;
            none_left = x.none_left;
            sights = ss;
            are = refl;
          };
          are = refl;
        };
        history_is = x.history_is t p.idle ∙ sym (sights_lines (t ++ stopping) ss) ∙ ap lines group;
        stands = subst (λ q. W.stands_for board q) (sym (sights_behind (t ++ stopping) ss) ∙ ap entries group) (x.collected.adds r here);
        logs_are = ap (map (λ (l : NodeLog). l.events)) x.logs_are ∙ x.collected.events;
        slots = ap (map (λ (l : NodeLog). l.slot)) x.logs_are ∙ x.collected.slots r here ∙ ap (λ (c : Configuration). range_with_len 0 (length c.slots)) same;
        ends = subst (λ ls. All (IsEndOf (config_at whole) (W.taken board)) ls) (sym x.logs_are) (subst (λ c. All (IsEndOf c (W.taken board)) x.given.logs) same (x.collected.ends r here));
        unfinished_is = x.unfinished_is ∙ ap (unfinished_after report.history) (x.collected.undone r here ∙ ap (λ c. first_undone c (W.taken board)) same);
        status_is = x.status_is;
      }

  -- the stop commits nothing
  pub stop_told : (all : List Step) (e : Engine B) (w : L) (given : Bool) (report : Report) (board : B) → Progress W H start all [] e w given → HasStopped W e report board
      → (graphs : List Graph) × H w graphs × AreCommitted report.history graphs
  stop_told all e w given report board p x =
      (p.graphs, p.heard, subst (λ ls. AreCommitted ls p.graphs) (sym (x.history_is (items_of p.pieces) p.idle)) (stop_committed (items_of p.pieces) x.closed x.how p.graphs p.committed))
