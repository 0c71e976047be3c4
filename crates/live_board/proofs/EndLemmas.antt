-- What is known of a node that was taken in with its line.
use Rattle.std.proofs.Common.{◌≡◌, ◌∙◌, ℕ, Bool, true, not, List, [], ◌∷◌, ◌++◌, length, map, Option, Some, None, refl, sym, ap, subst}
use Rattle.std.specs.Prelude.{find, slice_get, slice_index_or}
use Rattle.std.specs.List.{AllByRecursion, range_with_len}
use Rattle.std.proofs.lemmas.List.{length-map}
use Rattle.std.proofs.lemmas.List.FromFn.{length-range_with_len}
use Rattle.base.proofs.PlaceLaws.{heads_are, slice_get-map_at, slice_get-map_some, tails_are}
use Rattle.change_board.specs.Collecting.{is_undone}
use Rattle.change_board.specs.Scans.{live_nodes}
use Rattle.change_board.specs.Sights.{fold_seen}
use Rattle.change_spec.proofs.LowerLaws.{SourcesAreLower, lower_after}
use Rattle.component_trait.specs.States.{NodeState}
use Rattle.config_graph.specs.declared.kind.Kind.{Kind}
use Rattle.live_hall.specs.Lines.{LineWord, line_words, seen_word}
use Rattle.live_hall.specs.Sighting.{IsMadeIn}
use Rattle.live_hall.specs.declared.guest.Guest.{Guest}
use Rattle.live_board.specs.Lines.{IsMadeLine, LineSight, line_node, line_place}
use Rattle.node_host.specs.Lines.{line_state}
use Rattle.quiesce_core.proofs.SourceLaws.{sources_are_gone}
use Rattle.quiesce_core.specs.Sources.{SourcesAreGone}
use Rattle.quiesce_core.specs.State.{Configuration}
use Rattle.report_types.specs.declared.report.NodeLog.{NodeLog}
use Rattle.state_handover.specs.declared.any_node.AnyNode.{AnyNode}
use Rattle.txn_spec.specs.Traces.{HaveOwnSlots}
use Rattle.txn_spec.specs.Views.{is_among, log_in}
use Rattle.txn_spec.specs.declared.view.NodeView.{NodeView}
use Rattle.txn_records.proofs.RecordLaws.{config_is}
use Rattle.txn_records.specs.Entries.{config_of}
use Rattle.txn_records.specs.Records.{IsRecord, events}
use Rattle.txn_records.specs.declared.entry.Entry.{Entry}
use Rattle.live_board.specs.Collecting.{AreTold, Gathers, IsOf, IsTakenIn, all_logs}
use Rattle.live_board.specs.Heirs.{AreHeirs}
use Rattle.live_board.specs.Lengths.{length_at}
use Rattle.live_board.proofs.GatherLemmas.{EndsSo, IsEnd, IsLogged, all_among, all_end, events_are, undone_is}
use Rattle.live_board.proofs.GrowLemmas.{shown_own}
use Rattle.live_board.proofs.SightingLaws.{nodes_are, places_are, words_are}

made_all : (c : Configuration) (nodes : List NodeView) (logs : List NodeLog) (vs : List NodeView) → AllByRecursion (IsTakenIn c nodes logs) vs → AllByRecursion (IsMadeIn c) vs
made_all c nodes logs [] all = tt
made_all c nodes logs (v ∷ vs) all = (all.0.made, made_all c nodes logs vs all.1)

module _ (c : Configuration) (nodes : List NodeView) (logs : List NodeLog) (own_slots : HaveOwnSlots nodes) (k : Kind) where
  logged_at : (from : Option ℕ) (x : LineSight) (v : NodeView) → seen_word v ≡ record { slot = x.slot; kind = k; first = x.first; arg = x.arg; from = from } → v.log ≡ x.log → IsTakenIn c nodes logs v → IsLogged nodes logs x
  logged_at from x v is log t =
      let s : v.slot ≡ x.slot = ap (λ (w : LineWord). w.slot) is in
      let o = shown_own c nodes logs v own_slots t in
      record {
        taken = ap (log_in nodes) (sym s) ∙ o.0 ∙ log;
        shown = λ l at. o.1 l (ap (slice_get logs) s ∙ at) ∙ log;
        among = ap (is_among nodes) (sym s) ∙ o.2;
      }

  module _ {A : Type 0} (v : A → NodeView) (l : A → LineSight) (told : (p : A) → (v p).log ≡ (l p).log) (own : NodeView) (last : LineSight) (log : own.log ≡ last.log) where
    logged_from : (from : Option ℕ) (ps : List A) → map (λ p. seen_word (v p)) ps ++ seen_word own ∷ [] ≡ line_words k from (map (λ p. line_place (l p)) ps ++ line_place last ∷ [])
        → AllByRecursion (IsTakenIn c nodes logs) (map v ps ++ own ∷ []) → AllByRecursion (IsLogged nodes logs) (map l ps ++ last ∷ [])
    logged_from from [] line all =
        (logged_at from last own (heads_are (seen_word own) (record { slot = last.slot; kind = k; first = last.first; arg = last.arg; from = from }) [] [] line) log all.0, tt)
    logged_from from (p ∷ ps) line all =
        let word : LineWord = record { slot = (l p).slot; kind = k; first = (l p).first; arg = (l p).arg; from = from } in
        let words = map (λ p. seen_word (v p)) ps ++ seen_word own ∷ [] in
        let rest = line_words k (Some (l p).slot) (map (λ p. line_place (l p)) ps ++ line_place last ∷ []) in (
          logged_at from (l p) (v p) (heads_are (seen_word (v p)) word words rest line) (told p) all.0,
          logged_from (Some (l p).slot) ps (tails_are (seen_word (v p)) word words rest line) all.1,
        )

-- a node whose seat and line were taken in
pub taken_end : {A : Type 0} (v : A → NodeView) (l : A → LineSight) (told : (p : A) → (v p).log ≡ (l p).log) (ps : List A) (own : NodeView) (last : LineSight) (t : NodeState) (c : Configuration) (nodes : List NodeView) (logs : List NodeLog) (n : ℕ)
    → HaveOwnSlots nodes → last.slot ≡ n → own.log ≡ last.log
    → map (λ p. seen_word (v p)) ps ++ seen_word own ∷ [] ≡ line_words t.kind None (map (λ p. line_place (l p)) ps ++ line_place last ∷ [])
    → line_state t.kind None (map (λ p. line_node (l p)) ps) (line_node last) ≡ Some t
    → ((line : List LineSight) (seats : List NodeView) → map seen_word seats ≡ line_words t.kind None (map line_place line) → AllByRecursion (IsMadeIn c) seats → IsMadeLine c t.kind None line)
    → AllByRecursion (IsTakenIn c nodes logs) (map v ps ++ own ∷ []) → IsEnd c nodes logs n t
taken_end v l told ps own last t c nodes logs n own_slots slot log line folds tell all = record {
  past = map l ps;
  last = last;
  is_last = slot;
  made = tell (map l ps ++ last ∷ []) (map v ps ++ own ∷ []) (words_are v l ps own ∙ line ∙ ap (line_words t.kind None) (sym (places_are v l ps last))) (made_all c nodes logs (map v ps ++ own ∷ []) all);
  folds = ap (λ ns. line_state t.kind None ns (line_node last)) (nodes_are v l ps) ∙ folds;
  logged = logged_from c nodes logs own_slots t.kind v l told own last log None ps line all;
}

-- how each log ends
told_ends : (S : AnyNode → NodeState) (heirs : List (Option ℕ)) (slots : ℕ) (guests : List Guest) (logs logs' : List NodeLog) (dones : List Bool) (c : Configuration) (nodes : List NodeView)
    → AreTold S heirs slots guests logs dones → map (λ (l : NodeLog). l.last) logs' ≡ map (λ (l : NodeLog). l.last) logs
    → ((n : ℕ) (x : Guest) → IsOf guests x → x.node.slot ≡ n → IsEnd c nodes logs' n (S x.node.inner))
    → (n : ℕ) (l : NodeLog) → slice_get logs' n ≡ Some l → EndsSo c nodes logs' (length_at heirs n) n l.last (slice_index_or dones n true)
told_ends S heirs slots guests logs logs' dones c nodes told lasts ends n l at =
    let was = slice_get-map_some (λ (x : NodeLog). x.last) logs n l.last (ap (λ xs. slice_get xs n) (sym lasts) ∙ slice_get-map_at (λ (x : NodeLog). x.last) logs' n l at) in
    let t = told.told n was.0 was.1 in
    record {
      moved = λ j is. sym was.2 ∙ t.moved j is;
      kept = λ none_. let k = t.kept none_ in (S k.0.node.inner, ends n k.0 k.1 k.2, sym was.2 ∙ k.3, k.4);
    }

sources_gone : (r : List Entry) → IsRecord r → SourcesAreGone (config_of r)
sources_gone r h = subst SourcesAreGone (sym (config_is r h.moments h.is_of)) (sources_are_gone (events h.moments) h.is_of.runs)

sources_lower : (r : List Entry) → IsRecord r → SourcesAreLower (config_of r)
sources_lower r h = subst SourcesAreLower (sym (config_is r h.moments h.is_of)) (lower_after (events h.moments) h.is_of.runs)

-- all was taken in, and is given so
pub gathers : (S : AnyNode → NodeState) (r : List Entry) (heirs : List (Option ℕ)) (guests : List Guest) (logs logs' : List NodeLog) (dones : List Bool) (nodes : List NodeView) (found : Option ℕ)
    → IsRecord r → AreHeirs (config_of r) heirs → AreTold S heirs (length (config_of r).slots) guests logs dones
    → map (λ (l : NodeLog). l.slot) logs' ≡ map (λ (l : NodeLog). l.slot) logs → map (λ (l : NodeLog). l.last) logs' ≡ map (λ (l : NodeLog). l.last) logs
    → ((n : ℕ) (x : Guest) → IsOf guests x → x.node.slot ≡ n → IsEnd (config_of r) nodes logs' n (S x.node.inner))
    → ((k : Kind) (past : List LineSight) (last : LineSight) → IsMadeLine (config_of r) k None (past ++ last ∷ [])
    → AllByRecursion (λ (x : LineSight). slice_get (all_logs (config_of r) nodes) x.slot ≡ Some x.log) (past ++ last ∷ [])
    → fold_seen (config_of r) (slice_get (all_logs (config_of r) nodes)) last.slot ≡ line_state k None (map line_node past) (line_node last))
    → found ≡ find (λ n. not (slice_index_or dones n true)) (live_nodes (config_of r))
    → Gathers (config_of r) nodes (record { logs = logs'; undone = found })
gathers S r heirs guests logs logs' dones nodes found known heirs_are told slots lasts ends folds undone_is_ =
    let c = config_of r in
    let gone = sources_gone r known in
    let low = sources_lower r known in
    let slots' : map (λ (l : NodeLog). l.slot) logs' ≡ range_with_len 0 (length c.slots) = slots ∙ told.slots_are in
    let count : length logs' ≡ length c.slots = sym (length-map logs' (λ (l : NodeLog). l.slot)) ∙ ap length slots' ∙ length-range_with_len 0 (length c.slots) in
    let all = told_ends S heirs (length c.slots) guests logs logs' dones c nodes told lasts ends in
    let F = fold_seen c (slice_get (all_logs c nodes)) in
    record {
      events = events_are c gone low heirs heirs_are nodes logs' dones F folds count slots' all;
      slots = slots';
      ends = all_end c gone low heirs heirs_are nodes logs' dones F folds count slots' all;
      undone = undone_is_ ∙ undone_is c gone low heirs heirs_are nodes logs' dones F folds count slots' all (is_undone c (all_logs c nodes)) (λ n. refl);
      all = all_among c gone low heirs heirs_are nodes logs' dones F folds count slots' all;
    }
