-- What the change learns of its record, and of the nodes whose seats it took in.
use Rattle.std.proofs.Common.{◌≡◌, ◌∙◌, ℕ, ◌<◌, ◌≤◌, true, false, ◌||◌, cond, List, [], ◌∷◌, ◌++◌, set, Option, Some, None, refl, sym, ap, subst, ⊎_elim}
use Rattle.std.specs.List.{AllByRecursion}
use Rattle.std.specs.Prelude.{◌==◌, slice_index}
use Rattle.std.specs.Option.{option_map}
use Rattle.std.proofs.lemmas.Bool.{both_ways, cases_Bool, cases_lt, eqb-true}
use Rattle.atomic_table.specs.Table.{Allows, keeps}
use Rattle.config_graph.specs.declared.TheConstants.{MAX_PORTS}
use Rattle.txn_records.specs.Entries.{config_of}
use Rattle.txn_records.specs.Records.{IsRecord, IsRecordOf, entry, events}
use Rattle.txn_records.specs.declared.entry.Entry.{Entry}
use Rattle.txn_records.specs.declared.entry.Entry.TheVariants.{Looked}
use Rattle.txn_records.proofs.RecordLaws.{config_is, quiet_events, seen_more}
use Rattle.quiesce_core.specs.Knowledge.{IsKnown, KnowsService}
use Rattle.quiesce_core.specs.Runs.{done_by, state_after}
use Rattle.quiesce_core.specs.State.{State, is_live, service, slot}
use Rattle.quiesce_core.specs.Traffic.{IsConsistent}
use Rattle.quiesce_core.specs.WellFormed.{IsWellFormed}
use Rattle.quiesce_core.specs.Words.{slot_fields_of}
use Rattle.quiesce_core.specs.declared.event.Event.{Event}
use Rattle.quiesce_core.specs.declared.known.Known.{Known}
use Rattle.quiesce_core.specs.declared.known.Served.{Served}
use Rattle.quiesce_core.specs.declared.state.Service.{Service}
use Rattle.quiesce_core.proofs.RunLaws.{runs_are_consistent, runs_are_well_formed}
use Rattle.txn_spec.specs.Growth.{QuietProlongs}
use Rattle.txn_spec.specs.Merging.{AreAllAmong, IsOfRecord, MergeIntoRun}
use Rattle.txn_spec.specs.Steps.{noted}
use Rattle.txn_spec.specs.Views.{is_among, log_in, notes, of_change}
use Rattle.txn_spec.specs.Traces.{port_place, FitsNode, HaveOwnSlots, Holds, KnowsNode}
use Rattle.txn_spec.specs.declared.view.ChangeView.{ChangeView}
use Rattle.txn_spec.specs.declared.view.NodeView.{NodeView}
use Rattle.txn_spec.proofs.GrowthLaws.{prolonged, stays, straight}
use Rattle.txn_spec.proofs.TraceLaws.{same_words, sees}
use Rattle.base.proofs.ListLaws.{all_into}

-- ---- a node that was removed services nothing

module _ (s : State) (n : ℕ) (w : IsWellFormed s) (k : IsConsistent s) (removed : is_live s.config n ≡ false) where
  unserved : (o : Option Service) (u : Option Served) → service s n ≡ o → KnowsService s o u → u ≡ None
  unserved None None at knows = refl
  unserved None (Some u) at knows = absurd knows
  unserved (Some v) u at knows = absurd (both_ways (is_live s.config n) removed (w.sound.targets v.port _ (k.serving n v at).linked).live)

  pub removed_serves_nothing : (first : ℕ) (known : Known) → IsKnown s n first known → known.service ≡ None
  removed_serves_nothing first known is = unserved (service s n) known.service refl is.service

-- the node that a seat knows is the one that the record made
of_record : (es : List Event) (r : List Entry) (n : NodeView) → config_of r ≡ (state_after es).config → IsWellFormed (state_after es) → IsConsistent (state_after es)
    → KnowsNode es n → IsOfRecord r n
of_record es r n config w k knows = record {
  made = ap (λ c. option_map slot_fields_of (slot c n.slot)) config ∙ knows.made;
  unserving = λ removed. removed_serves_nothing (state_after es) n.slot w k (ap (λ c. is_live c n.slot) (sym config) ∙ removed) n.made.first_port n.known knows.known;
}

-- by any load the change learns that its record is one of a run, and that no two nodes that it took in are of one slot
pub learns : (slots id i : ℕ) (nodes : List NodeView) (c : ChangeView) → Allows Holds slots id (of_change nodes c, []) i (λ x. x)
    (λ found new. (new ≡ (of_change nodes c, [])) × IsRecord c.entries × HaveOwnSlots nodes)
learns slots id i nodes c t h _ at _ =
    let v = of_change nodes c in
    let fit = h.views id v at in
    let mine = subst (λ r. IsRecordOf r h.trace.moments) (sym (fit.change c refl).entries) h.is_trace.is_record in
    (v, keeps, tt, (stays t h id i v at).holds, (refl, record { moments = h.trace.moments; is_of = mine }, fit.apart))

-- by any load that leaves its seat as it is the run stays
pub learn_prolongs : (id i : ℕ) (nodes : List NodeView) (c : ChangeView) → QuietProlongs id nodes c i
learn_prolongs id i nodes c t h at v a is = prolonged t h id i _ _ _ (straight t h id _ _ _ (stays t h id i (of_change nodes c) at)) v a is

-- and that of the seat that it took in last
pub meets : (slots id i : ℕ) (n : NodeView) (nodes : List NodeView) (c : ChangeView) → Allows Holds slots id (of_change (n ∷ nodes) c, []) i (λ x. x)
    (λ found new. (new ≡ (of_change (n ∷ nodes) c, [])) × IsRecord c.entries × IsOfRecord c.entries n)
meets slots id i n nodes c t h _ at _ =
    let fit = h.views id (of_change (n ∷ nodes) c) at in
    let es = events h.trace.moments in
    let run = h.is_trace.is_record.runs in
    let mine = subst (λ r. IsRecordOf r h.trace.moments) (sym (fit.change c refl).entries) h.is_trace.is_record in (
      of_change (n ∷ nodes) c,
      keeps,
      tt,
      (stays t h id i (of_change (n ∷ nodes) c) at).holds,
      (refl, record { moments = h.trace.moments; is_of = mine }, of_record es c.entries n (config_is c.entries h.trace.moments mine) (runs_are_well_formed es run) (runs_are_consistent es run) fit.nodes.0.knows),
    )

-- ---- the events of the nodes that were taken in

module _ (es : List Event) (n : ℕ) where
  -- of one that is among them
  pub log_is : (nodes : List NodeView) → AllByRecursion (KnowsNode es) nodes → is_among nodes n ≡ true → done_by n es ≡ log_in nodes n
  log_is [] all among = absurd (both_ways false refl among)
  log_is (v ∷ vs) all among = ⊎_elim
      (λ (is : (v.slot == n) ≡ true). ap (λ m. done_by m es) (sym (eqb-true v.slot n is)) ∙ sym all.0.log ∙ sym (ap (λ b. cond b v.log (log_in vs n)) is))
      (λ (other : (v.slot == n) ≡ false). log_is vs all.1 (sym (ap (λ b. b || is_among vs n) other) ∙ among) ∙ sym (ap (λ b. cond b v.log (log_in vs n)) other))
      (cases_Bool (v.slot == n))

  -- of one that isn't
  none_in : (nodes : List NodeView) → is_among nodes n ≡ false → log_in nodes n ≡ []
  none_in [] among = refl
  none_in (v ∷ vs) among = ⊎_elim
      (λ (is : (v.slot == n) ≡ true). absurd (both_ways (is_among (v ∷ vs) n) among (ap (λ b. b || is_among vs n) is)))
      (λ (other : (v.slot == n) ≡ false). ap (λ b. cond b v.log (log_in vs n)) other ∙ none_in vs (sym (ap (λ b. b || is_among vs n) other) ∙ among))
      (cases_Bool (v.slot == n))

  -- of each, where all seats that were given out are among them and no other node has done anything
  logs_are : (seats : ℕ) (nodes : List NodeView) → AreAllAmong seats nodes → ((m : ℕ) → seats ≤ m → done_by m es ≡ []) → AllByRecursion (KnowsNode es) nodes → done_by n es ≡ log_in nodes n
  logs_are seats nodes all unseated knows = ⊎_elim
      (λ (among : is_among nodes n ≡ true). log_is nodes knows among)
      (λ (apart : is_among nodes n ≡ false).
      unseated n (⊎_elim (λ (few : n < seats). absurd (both_ways (is_among nodes n) apart (all n few))) (λ more_. more_) (cases_lt n seats)) ∙ sym (none_in nodes apart))
      (cases_Bool (is_among nodes n))

-- by one more look the change, which took all seats in, learns that all that it has is of one run
pub merges : (slots id p : ℕ) (nodes : List NodeView) (c : ChangeView) → p < MAX_PORTS → AreAllAmong c.seats nodes → Allows Holds slots id (of_change nodes c, []) (port_place p) (λ x. x)
    (λ found new. (new ≡ noted (of_change nodes c, []) (Looked p found)) × MergeIntoRun (notes c (Looked p found)).entries nodes)
merges slots id p nodes c few all t h _ at _ =
    let w = h.trace in
    let found = slice_index t.words (port_place p) in
    let x : Entry = Looked p found in
    let fit = h.views id (of_change nodes c) at in
    let mine = fit.change c refl in
    let same = quiet_events w.moments x refl in
    let so = h.shows.ports p few in (
      of_change nodes (notes c x),
      keeps,
      tt,
      subst (λ ws. Holds (record { words = ws; homes = t.homes; views = set t.views id (of_change nodes (notes c x)) })) (sym (same_words t.words (port_place p))) (sees t h id t.homes nodes c x at refl so).holds,
      (
        refl,
        record {
          moments = w.moments ++ entry x ∷ [];
          is_record = subst (λ r. IsRecordOf (r ++ x ∷ []) (w.moments ++ entry x ∷ [])) (sym mine.entries) (seen_more w.entries w.moments x h.is_trace.is_record refl so);
          logs = λ n. ap (done_by n) same ∙ logs_are (events w.moments) n c.seats nodes all
              (λ m none_. h.is_trace.unseated m (subst (λ k. k ≤ m) mine.seats none_))
              (all_into (FitsNode w id) (KnowsNode (events w.moments)) nodes (λ u f. f.knows) fit.nodes);
        },
      ),
    )
