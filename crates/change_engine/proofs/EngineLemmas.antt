-- An engine between changes.
use Rattle.std.proofs.Common.{◌≡◌, ◌≤◌, ◌-◌, ◌^◌, ℕ, true, List, [], ◌∷◌, ◌++◌, length, map, refl, sym, ap, ◌∙◌, subst}
use Rattle.std.specs.List.{AllByRecursion, range_with_len}
use Rattle.base.specs.Each.{Each}
use Rattle.change_spec.specs.Endings.{status_of}
use Rattle.report_types.specs.declared.report.HistoryLine.TheVariants as to
use Rattle.report_types.specs.declared.report.Report.{Report}
use Rattle.std.proofs.lemmas.List.{append-nil, length-map}
use Rattle.std.proofs.lemmas.List.Elements.{filter_map-append}
use Rattle.report_types.specs.declared.report.HistoryLine.{HistoryLine}
use Rattle.quiesce_laws.specs.Steps.{live_ports}
use Rattle.config_graph.specs.Graph.{Graph, IsGraph}
use Rattle.config_graph.specs.Sound.{Sound}
use Rattle.config_graph.specs.declared.TheConstants.{MAX_PORTS}
use Rattle.quiesce_core.specs.Live.{IsGraphOf}
use Rattle.quiesce_core.specs.State.{Configuration}
use Rattle.quiesce_core.specs.WellFormed.{IsSound}
use Rattle.quiesce_core.proofs.RunLaws.{runs_are_well_formed}
use Rattle.txn_records.specs.Entries.{config_of, event_in, events_in}
use Rattle.txn_records.specs.declared.entry.Entry.{Entry}
use Rattle.txn_records.specs.Records.{Adds, IsRecord, events}
use Rattle.change_board.specs.declared.board.Board.{Ghosts as BoardWords}
use Rattle.change_board.specs.Scans.{Found, look_entry}
use Rattle.change_board.specs.Transcripts.{Item, entries, lines, said}
use Rattle.txn_records.proofs.RecordLaws.{config_is}
use Rattle.change_board.specs.declared.board.Collected.{Collected}
use Rattle.change_engine.specs.Calls.{Continues, HasFinished, HasRun, HasStopped}
use Rattle.change_engine.specs.Ending.{unfinished_after}
use Rattle.change_engine.specs.Running.{Counts, RunsOn, ScansUntil, ended_since, are_enough}
use Rattle.change_engine.specs.Stopping.{Stops, stop_items}
use Rattle.change_engine.specs.Engines.{IsIdle, Tells}
use Rattle.change_engine.specs.Finishing.{Finished, IsScanIn, ScanSeen, all_entries}
use Rattle.change_engine.specs.Growing.{Grew, telling}
use Rattle.change_lists.specs.Layouts.{IsLayoutOf, live_at, port_of}
use Rattle.change_engine.specs.Passivating.{silent_items}
use Rattle.change_engine.specs.declared.engine.Engine.{Engine}
use Rattle.change_lists.specs.declared.layout.Layout.{Layout}
use Rattle.change_engine.proofs.Growing.{adds_both}
use Rattle.change_lists.proofs.LayoutLaws.{live_ports_are}
use Rattle.change_engine.proofs.Passing.{config_quiet, looks_quiet}
use Rattle.change_engine.proofs.Scanning.{all_quiet}
use Rattle.change_engine.proofs.ItemLaws.{entries_both, lines_both, silent_entries, silent_lines, said_entries, said_lines}

-- the configuration that a record makes is a sound one
pub record_sound : (r : List Entry) → IsRecord r → IsSound (config_of r)
record_sound r h = subst IsSound (sym (config_is r h.moments h.is_of)) (runs_are_well_formed (events h.moments) h.is_of.runs).sound

pub few_ports : (l : Layout) (g : Graph) (r : List Entry) → IsRecord r → IsLayoutOf l (config_of r) g → length l.ports.items ≤ MAX_PORTS
few_ports l g r h x = subst (λ n. n ≤ MAX_PORTS) (sym (ap length x.ports_are ∙ length-map (config_of r).gates port_of)) (record_sound r h).few_ports

pub as_many : (l : Layout) (g : Graph) (c : Configuration) → IsLayoutOf l c g → length l.ports.items ≡ length c.gates
as_many l g c x = ap length x.ports_are ∙ length-map c.gates port_of

-- the transcript goes on by items that are no events of the change
pub config_goes : (t items : List Item) → events_in (entries items) ≡ [] → config_of (entries (t ++ items)) ≡ config_of (entries t)
config_goes t items quiet = ap config_of (entries_both t items) ∙ config_quiet (entries t) (entries items) quiet

module _ {B : Type 0} (W : BoardWords B) where
  pub tells_more : (e : Engine B) (b : B) (h : List HistoryLine) (t items : List Item) → Tells W e t → Grew W (telling e.board e.history.items) (telling b h) items → events_in (entries items) ≡ []
      → (f : Engine B) → f.board ≡ b → f.history.items ≡ h → f.graph ≡ e.graph → f.layout ≡ e.layout → Tells W f (t ++ items)
  tells_more e b h t items x grew quiet f board history graph layout =
      let same = config_goes t items quiet in
      record {
        board = subst (λ a. W.stands_for a (entries (t ++ items))) (sym board) (subst (W.stands_for b) (sym (entries_both t items)) (grew.adds (entries t) x.board));
        history = history ∙ grew.adds_lines ∙ ap (λ ls. ls ++ lines items) x.history ∙ sym (lines_both t items);
        graph = subst (λ g. IsGraphOf (config_of (entries (t ++ items))) g) (sym graph) (subst (λ c. IsGraphOf c e.graph) (sym same) x.graph);
        is_graph = subst IsGraph (sym graph) x.is_graph;
        sound = subst Sound (sym graph) x.sound;
        layout = subst (λ g. IsLayoutOf f.layout (config_of (entries (t ++ items))) g) (sym graph)
            (subst (λ l. IsLayoutOf l (config_of (entries (t ++ items))) e.graph) (sym layout) (subst (λ c. IsLayoutOf e.layout c e.graph) (sym same) x.layout));
      }

  pub continues : (e f : Engine B) (items : List Item) → Grew W (telling e.board e.history.items) (telling f.board f.history.items) items → events_in (entries items) ≡ []
      → f.graph ≡ e.graph → f.layout ≡ e.layout → f.change ≡ e.change → Continues W e f items
  continues e f items grew quiet graph layout change t x = record {
    tells = tells_more e f.board f.history.items t items x.tells grew quiet f refl refl graph layout;
    none_open = change ∙ x.none_open;
  }

  -- lines alone
  pub said_alone : (b : B) (h i : List HistoryLine) (ls : List HistoryLine) → i ≡ h ++ ls → Grew W (telling b h) (telling b i) (map said ls)
  said_alone b h i ls grown = record {
    adds = λ r s. subst (W.stands_for b) (sym (ap (λ es. r ++ es) (said_entries ls) ∙ append-nil r)) s;
    adds_lines = grown ∙ ap (λ zs. h ++ zs) (sym (said_lines ls));
  }

  -- entries that no line tells, and then a line
  pub grew_silently : (a b : B) (h i : List HistoryLine) (es : List Entry) (l : HistoryLine) → Adds W.stands_for a b es → i ≡ h ++ l ∷ [] → Grew W (telling a h) (telling b i) (silent_items es ++ said l ∷ [])
  grew_silently a b h i es l adds grown =
      let line : List Item = said l ∷ [] in
      record {
        adds = subst (λ zs. Adds W.stands_for a b zs) (sym (entries_both (silent_items es) line ∙ ap (λ zs. zs ++ []) (silent_entries es) ∙ append-nil es)) adds;
        adds_lines = grown ∙ ap (λ ls. h ++ ls) (sym (lines_both (silent_items es) line ∙ ap (λ ls. ls ++ lines line) (silent_lines es)));
      }

pub quiet_silently : (es : List Entry) (l : HistoryLine) → events_in es ≡ [] → events_in (entries (silent_items es ++ said l ∷ [])) ≡ []
quiet_silently es l quiet = ap events_in (entries_both (silent_items es) (said l ∷ []) ∙ ap (λ zs. zs ++ []) (silent_entries es) ∙ append-nil es) ∙ quiet

pub looks_and_scans_quiet : (looks : List Found) (scans : List ScanSeen) → events_in (map look_entry looks ++ all_entries scans) ≡ []
looks_and_scans_quiet looks scans = filter_map-append event_in (map look_entry looks) (all_entries scans) ∙ ap (λ es. es ++ events_in (all_entries scans)) (looks_quiet looks) ∙ all_quiet scans

module _ {B : Type 0} (W : BoardWords B) where
  pub has_finished : (e f : Engine B) (n rounds : ℕ) → f.graph ≡ e.graph → f.layout ≡ e.layout → f.change ≡ e.change
      → Finished W (telling e.board e.history.items) (telling f.board f.history.items) n rounds → HasFinished W e f n rounds
  has_finished e f n rounds graph layout change x = record {
    scans = x.scans;
    few = x.few;
    are_scans = λ t h. x.are_scans (entries t) h.tells.board;
    twice = λ is t h. x.twice is (entries t) h.tells.board;
    rounds_are = x.rounds_are;
    ends = x.ends;
    goes = continues W e f (silent_items (all_entries x.scans) ++ said (to.Finish n rounds) ∷ []) x.grew
        (quiet_silently (all_entries x.scans) (to.Finish n rounds) (all_quiet x.scans)) graph layout change;
  }

  pub has_run : (e f : Engine B) (b : B) (ports shown k ended : ℕ) → f.graph ≡ e.graph → f.layout ≡ e.layout → f.change ≡ e.change
      → ((t : List Item) → IsIdle W e t → ports ≡ length (config_of (entries t)).gates)
      → Counts W e.board b ports shown → ScansUntil W b f.board shown k ended → f.history.items ≡ e.history.items ++ to.Run k ended ∷ [] → HasRun W e f k ended
  has_run e f b ports shown k ended graph layout change many x y grown =
      let looks = map look_entry x.looks in
      record {
        looks = x.looks;
        scans = y.scans;
        at_ports = λ t h. x.at_ports ∙ ap (range_with_len 0) (many t h);
        are_scans = λ t h. subst (λ c. AllByRecursion (IsScanIn W.alone c) y.scans) (config_quiet (entries t) looks (looks_quiet x.looks))
            (y.are_scans (entries t ++ looks) (x.adds (entries t) h.tells.board));
        twice = λ is t h. y.twice is (entries t ++ looks) (x.adds (entries t) h.tells.board);
        go_on = subst (λ n. Each (RunsOn W.alone k n) y.scans) x.ended_is y.go_on;
        ends = subst (λ n. are_enough W.alone k n y.scans ≡ true) x.ended_is y.ends;
        ended_is = subst (λ n. ended ≡ ended_since n y.scans) x.ended_is y.ended_is;
        goes = continues W e f (silent_items (looks ++ all_entries y.scans) ++ said (to.Run k ended) ∷ [])
            (grew_silently W e.board f.board e.history.items f.history.items (looks ++ all_entries y.scans) (to.Run k ended)
            (adds_both W e.board b f.board looks (all_entries y.scans) x.adds y.adds) grown)
            (quiet_silently (looks ++ all_entries y.scans) (to.Run k ended) (looks_and_scans_quiet x.looks y.scans)) graph layout change;
      }

-- a stop finds the ports of all live nodes
pub all_are_live : {B : Type 0} (W : BoardWords B) (e : Engine B) (t : List Item) → IsIdle W e t → live_at e.layout.places.items e.layout.ports.items ≡ live_ports (config_of (entries t))
all_are_live W e t h = live_ports_are (config_of (entries t)) e.graph h.tells.graph e.layout h.tells.layout

pub has_stopped : {B : Type 0} (W : BoardWords B) (e : Engine B) (b : B) (h : List HistoryLine) (given : Collected) (report : Report)
    → Stops W (telling e.board e.history.items) (telling b h) (live_at e.layout.places.items e.layout.ports.items) (2 ^ 64 - 1) given
    → report.history ≡ h → report.logs ≡ given.logs → report.unfinished ≡ unfinished_after h given.undone → report.status ≡ status_of report.history report.unfinished
    → HasStopped W e report b
has_stopped W e b h given report x history logs unfinished status =
    let closed = live_at e.layout.places.items e.layout.ports.items in
    let items = stop_items closed x.how in
    record {
      closed = closed;
      how = x.how;
      closed_are = λ t i. all_are_live W e t i;
      is_passivation = x.is_passivation;
      none_left = x.none_left;
      quiet = x.quiet;
      stands = λ t i. subst (W.stands_for x.quiet) (sym (entries_both t items)) (x.grew.adds (entries t) i.tells.board);
      given = given;
      collected = x.collected;
      history_is = λ t i. history ∙ x.grew.adds_lines ∙ ap (λ ls. ls ++ lines items) i.tells.history ∙ sym (lines_both t items);
      logs_are = logs;
      unfinished_is = unfinished ∙ ap (λ ls. unfinished_after ls given.undone) (sym history);
      status_is = status;
    }
