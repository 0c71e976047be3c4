-- What the rule says of runs, and what the change's notes tell of the state.
use Rattle.std.proofs.Common.{◌≡◌, ◌∙◌, ℕ, ◌<◌, true, false, List, [], ◌∷◌, ◌++◌, Option, refl, sym, ap, subst, ⊎_elim}
use Rattle.std.specs.Prelude.{◌==◌}
use Rattle.std.specs.List.{AllByRecursion, list_any}
use Rattle.std.proofs.lemmas.Bool.{eqb-true, false≢true, or_cases}
use Rattle.atomic_table.specs.Table.{State as Table}
use Rattle.base.proofs.OptionLaws.{Some-from_is_some}
use Rattle.base.proofs.ListLaws.{all_into}
use Rattle.quiesce_laws.specs.Steps.{IsNoted}
use Rattle.txn_records.specs.Entries.{config_of, events_in}
use Rattle.txn_records.specs.Notes.{is_noted}
use Rattle.txn_records.specs.Records.{IsRecordOf, events, state_at}
use Rattle.txn_records.specs.declared.entry.Entry.{Entry}
use Rattle.txn_records.proofs.NoteLaws.{noted_is_drained}
use Rattle.txn_records.proofs.RecordLaws.{config_is}
use Rattle.quiesce_core.specs.Runs.{done_by}
use Rattle.quiesce_core.specs.Settled.{Settled}
use Rattle.quiesce_core.specs.State.{Configuration}
use Rattle.quiesce_laws.specs.Drained.{is_drained}
use Rattle.quiesce_laws.specs.Events.{is_reopen_or_link, removes, reopens}
use Rattle.quiesce_laws.proofs.DrainingLaws.{settled_if_drained}
use Rattle.txn_spec.proofs.EarlierNotes.{still_drained, still_settled}
use Rattle.txn_spec.proofs.MergingLaws.{log_is}
use Rattle.txn_spec.specs.Views.{is_among, log_in, of_change, of_node}
use Rattle.txn_spec.specs.Traces.{FitsNode, HasSlot, Holds, IsThere, KnowsNode, Trace}
use Rattle.txn_spec.specs.declared.view.ChangeView.{ChangeView}
use Rattle.txn_spec.specs.declared.view.NodeView.{NodeView}
use Rattle.txn_spec.specs.declared.view.View.{View}
use mathlib.Core.Option.{some}
use lib.ListN.{get_elem?}

-- the seat that has a node of a slot
owned_by : (w : Trace) (id n : ℕ) (nodes : List NodeView) → AllByRecursion (FitsNode w id) nodes → is_among nodes n ≡ true → w.owner n ≡ id
owned_by w id n [] fits among = absurd (false≢true among)
owned_by w id n (v ∷ vs) fits among = ⊎_elim
    (λ (is : (v.slot == n) ≡ true). ap w.owner (sym (eqb-true v.slot n is)) ∙ fits.0.owned)
    (λ (rest : is_among vs n ≡ true). owned_by w id n vs fits.1 rest)
    (or_cases (v.slot == n) (is_among vs n) among)

module _ (t : Table (Unit {0}) View) (h : Holds t) where
  pub seated : (n : ℕ) → n < h.trace.seats → (id : ℕ) × IsThere t.views id (λ (v : View). HasSlot n v × (done_by n (events h.trace.moments) ≡ log_in v.nodes n))
  seated n few =
      let there = h.seated.nodes n few in
      let v = there.0 in
      let id = h.trace.owner n in
      let es = events h.trace.moments in
      let knows = all_into (FitsNode h.trace id) (KnowsNode es) v.nodes (λ u fits. fits.knows) (h.views id v there.1).nodes in
      (id, (v, there.1, (there.2, log_is es n v.nodes knows there.2)))

  pub one_seat : (n id j : ℕ) (u v : View) → get_elem? t.views id ≡ some u → get_elem? t.views j ≡ some v → HasSlot n u → HasSlot n v → id ≡ j
  one_seat n id j u v at there here elsewhere =
      sym (owned_by h.trace id n u.nodes (h.views id u at).nodes here) ∙ owned_by h.trace j n v.nodes (h.views j v there).nodes elsewhere

  pub change_seat : (id : ℕ) × (nodes : List NodeView) × (c : ChangeView) × (get_elem? t.views id ≡ some (of_change nodes c))
  change_seat =
      let there = h.seated.change in
      let v = there.0 in
      let c = Some-from_is_some v.change there.2 in
      (h.trace.change, v.nodes, c.0, there.1 ∙ ap (λ (o : Option ChangeView). some (record { nodes = v.nodes; change = o })) c.1)

module _ (t : Table (Unit {0}) View) (h : Holds t) (id : ℕ) where
  pub node_known : (n : NodeView) → get_elem? t.views id ≡ some (of_node n) → KnowsNode (events h.trace.moments) n
  node_known n at = (h.views id (of_node n) at).nodes.0.knows

  module _ (nodes : List NodeView) (c : ChangeView) (at : get_elem? t.views id ≡ some (of_change nodes c)) where
    pub is_record : IsRecordOf c.entries h.trace.moments
    is_record = subst (λ r. IsRecordOf r h.trace.moments) (sym ((h.views id (of_change nodes c) at).change c refl).entries) h.is_trace.is_record

    pub given_out : c.seats ≡ h.trace.seats
    given_out = ((h.views id (of_change nodes c) at).change c refl).seats

    pub taken_in_known : AllByRecursion (KnowsNode (events h.trace.moments)) nodes
    taken_in_known = all_into (FitsNode h.trace id) (KnowsNode (events h.trace.moments)) nodes (λ n fits. fits.knows) (h.views id (of_change nodes c) at).nodes

    pub noted_drained : (p : ℕ) → is_noted c.entries p ≡ true → is_drained (state_at h.trace.moments) p ≡ true
    noted_drained p noted = noted_is_drained c.entries h.trace.moments p is_record noted

    pub noted_settled : (n : ℕ) → IsNoted (is_noted c.entries) (config_of c.entries) n → Settled (state_at h.trace.moments) n
    noted_settled n noted =
        let here : IsNoted (is_noted c.entries) (state_at h.trace.moments).config n =
        subst (λ (k : Configuration). IsNoted (is_noted c.entries) k n) (config_is c.entries h.trace.moments is_record) noted in
        settled_if_drained (events h.trace.moments) n h.is_trace.is_record.runs here.live (λ p own. noted_drained p (here.own p own)) (λ p reach. noted_drained p (here.reaching p reach))

    pub drained_until : (r more_ : List Entry) → c.entries ≡ r ++ more_ → (p : ℕ) → is_noted r p ≡ true → list_any (reopens p) (events_in more_) ≡ false → is_drained (state_at h.trace.moments) p ≡ true
    drained_until r more_ parts = still_drained r more_ h.trace.moments (subst (λ xs. IsRecordOf xs h.trace.moments) parts is_record)

    pub settled_until : (r more_ : List Entry) → c.entries ≡ r ++ more_ → (n : ℕ) → IsNoted (is_noted r) (config_of r) n → list_any is_reopen_or_link (events_in more_) ≡ false
        → list_any (removes n) (events_in more_) ≡ false → Settled (state_at h.trace.moments) n
    settled_until r more_ parts = still_settled r more_ h.trace.moments (subst (λ xs. IsRecordOf xs h.trace.moments) parts is_record)
