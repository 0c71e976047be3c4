-- A change that is prepared.
use Rattle.std.proofs.Common.{◌≡◌, ℕ, ◌+◌, ◌≤◌, List, [], ◌∷◌, ◌++◌, length, Some, refl, sym, ap, ◌∙◌, subst, arith}
use Rattle.std.specs.Prelude.{sum_by}
use Rattle.std.specs.List.{range_with_len}
use Rattle.std.proofs.lemmas.List.{append-nil, length-append, length-map}
use Rattle.change_plan.specs.Differences.{IsGone}
use Rattle.change_plan.specs.declared.plan_data.Move.{Move}
use Rattle.change_plan.specs.declared.plan_data.Plan.{Plan}
use Rattle.change_plan.proofs.SelectsLaws.{Selects-one}
use Rattle.report_types.specs.declared.report.HistoryLine.TheVariants as to
use Rattle.config_graph.specs.Graph.{Graph, requires_at}
use Rattle.config_graph.specs.declared.TheConstants.{MAX_PORTS}
use Rattle.change_plan_laws.specs.Commit.{commit_events}
use Rattle.quiesce_core.specs.State.{Configuration}
use Rattle.txn_records.specs.Entries.{config_of}
use Rattle.txn_records.specs.declared.entry.Entry.{Entry}
use Rattle.txn_records.specs.Records.{Adds, IsRecord}
use Rattle.change_board.specs.Steps.{HasRoomForAll}
use Rattle.change_board.specs.Transcripts.{Item, entries, said}
use Rattle.change_engine.specs.Calls.{Continues, HasPrepared}
use Rattle.change_engine.specs.Engines.{HasPlace, IsFor, IsIdle, IsPlanned, IsPrepared, IsLaidOut}
use Rattle.change_lists.specs.Layouts.{IsLayoutOf, port_of}
use Rattle.change_lists.specs.Lists.{ports_after, ports_from}
use Rattle.change_engine.specs.declared.engine.Change.{Change}
use Rattle.change_engine.specs.declared.engine.Engine.{Engine}
use Rattle.change_lists.specs.declared.layout.Layout.{Layout}
use Rattle.change_lists.proofs.ListingLaws.{ports_many}
use Rattle.change_board.specs.declared.board.Board.{Ghosts as BoardWords}
use Rattle.change_engine.proofs.EngineLemmas.{config_goes, record_sound, tells_more}

ports_fit : (old new : Graph) (moves : List Move) (plan : Plan) (c : Configuration) → IsPlanned old new moves plan c → length c.gates + sum_by (requires_at new.nodes) plan.create ≤ MAX_PORTS
ports_fit old new moves plan c h =
    let can = h.can_plan in
    let same : can.wanted.created ≡ plan.create =
    Selects-one (IsGone new old) (range_with_len 0 (length new.nodes)) can.wanted.created plan.create can.wanted.gone h.is_plan.steps.create in
    let many : can.ports ≡ sum_by (requires_at new.nodes) plan.create = can.wanted.ports_are ∙ ap (sum_by (requires_at new.nodes)) same in
    omega (arith, many, can.room.ports_fit)

pub ports_few : (old new : Graph) (moves : List Move) (plan : Plan) (c : Configuration) (l : Layout) → IsPlanned old new moves plan c → IsLayoutOf l c old → length (ports_after new plan l.places.items l.ports.items) ≤ MAX_PORTS
ports_few old new moves plan c l h laid =
    omega (arith, length-append l.ports.items (ports_from new (length l.places.items) plan.create), ports_many new (length l.places.items) plan.create, ap length laid.ports_are ∙ length-map c.gates port_of, ports_fit old new moves plan c h)

module _ {B : Type 0} (W : BoardWords B) where
  -- nothing was done and told
  pub idle_still : (e f : Engine B) → Adds W.stands_for e.board f.board [] → f.history.items ≡ e.history.items → f.graph ≡ e.graph → f.layout ≡ e.layout → f.change ≡ e.change → Continues W e f []
  idle_still e f adds history graph layout change t x = record {
    tells = tells_more W e f.board f.history.items t [] x.tells (record { adds = adds; adds_lines = history ∙ sym (append-nil e.history.items) }) refl f refl refl graph layout;
    none_open = change ∙ x.none_open;
  }

  module _ (runs : (b : B) (r : List Entry) → W.stands_for b r → IsRecord r) where
    pub prepared : (e f : Engine B) (name : List ℕ) (args : List _) (plan : Plan) (new : Graph) (change : Change)
        → Adds W.stands_for e.board f.board [] → f.history.items ≡ e.history.items ++ to.Change name args ∷ [] → f.graph ≡ e.graph → f.layout ≡ e.layout → f.change ≡ Some change
        → IsFor e.layout e.graph new plan change
        → ((t : List Item) → IsIdle W e t → HasRoomForAll (W.room f.board) (commit_events e.graph new plan (config_of (entries t))))
        → HasPlace f.history change
        → (t : List Item) (moves : List Move) → IsIdle W e t → IsPlanned e.graph new moves plan (config_of (entries t)) → IsPrepared W f (t ++ said (to.Change name args) ∷ []) moves plan new
    prepared e f name args plan new change adds history graph layout open_ for_ room place t moves x planned =
        let items : List Item = said (to.Change name args) ∷ [] in
        let c = config_of (entries t) in
        let tells = tells_more W e f.board f.history.items t items x.tells (record { adds = adds; adds_lines = history }) refl f refl refl graph layout in
        let same : config_of (entries (t ++ items)) ≡ c = config_goes t items refl in
        let told : IsLaidOut e.layout e.graph c = record { laid = x.tells.layout; graph = x.tells.graph; sound = record_sound (entries t) (runs e.board (entries t) x.tells.board) } in
        record {
          is_open = record {
            tells = tells;
            planned = subst (λ g. IsPlanned g new moves plan (config_of (entries (t ++ items)))) (sym graph) (subst (IsPlanned e.graph new moves plan) (sym same) planned);
            change = change;
            open_ = open_;
            is_for = subst (λ l. IsFor l f.graph new plan change) (sym layout) (subst (λ g. IsFor e.layout g new plan change) (sym graph) for_);
            room = subst (HasRoomForAll (W.room f.board)) (sym (for_.events c told)) (room t x);
          };
          place = place;
        }

    pub has_prepared : (e f : Engine B) (name : List ℕ) (args : List _) (plan : Plan) (new : Graph) (change : Change)
        → Adds W.stands_for e.board f.board [] → f.history.items ≡ e.history.items ++ to.Change name args ∷ [] → f.graph ≡ e.graph → f.layout ≡ e.layout → f.change ≡ Some change
        → IsFor e.layout e.graph new plan change
        → ((t : List Item) → IsIdle W e t → HasRoomForAll (W.room f.board) (commit_events e.graph new plan (config_of (entries t))))
        → HasPlace f.history change
        → HasPrepared W e f name args plan new
    has_prepared e f name args plan new change adds history graph layout open_ for_ room place =
        record { graph_is = graph; prepares = prepared e f name args plan new change adds history graph layout open_ for_ room place }
