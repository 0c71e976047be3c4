-- What was taken in at the end, by slot.
use Rattle.std.proofs.Common.{◌≡◌, ◌∙◌, ℕ, ◌+◌, ◌<◌, Bool, true, false, not, List, [], ◌∷◌, ◌++◌, length, map, Option, Some, None, refl, sym, ap, subst, arith, get_or}
use Rattle.std.specs.Prelude.{slice_get, slice_index_or, find, filter, All}
use Rattle.std.specs.List.{AllByRecursion, range_with_len}
use Rattle.std.specs.Option.{option_map_or}
use Rattle.std.proofs.lemmas.Option.{same_Some, slice_get-get_or, slice_get_within}
use Rattle.base.proofs.PlaceLaws.{slice_get-map_at, slice_get-there}
use Rattle.base.proofs.RangeLaws.{number_at, mapped_all, mapped_at}
use Rattle.change_board.specs.Collecting.{heir_of}
use Rattle.change_spec.proofs.LowerLaws.{SourcesAreLower}
use Rattle.change_spec.specs.Lawful.{EndsAs}
use Rattle.component_trait.specs.Moves as moves
use Rattle.component_trait.specs.States.{NodeState}
use Rattle.config_graph.specs.declared.kind.Kind.{Kind}
use Rattle.live_board.specs.Heirs.{AreHeirs}
use Rattle.live_board.specs.Lengths.{length_at}
use Rattle.live_board.specs.Lines.{IsMadeLine, LineSight, line_node}
use Rattle.node_host.specs.Lines.{line_state}
use Rattle.quiesce_core.specs.Sources.{SourcesAreGone}
use Rattle.quiesce_core.specs.State.{Configuration, is_live, slot}
use Rattle.quiesce_core.specs.declared.event.Event.{Event}
use Rattle.quiesce_core.specs.declared.state.Slot.{Slot}
use Rattle.report_types.specs.declared.report.Last.{Last}
use Rattle.report_types.specs.declared.report.Last.TheVariants.{State, Moved}
use Rattle.report_types.specs.declared.report.NodeLog.{NodeLog}
use Rattle.txn_spec.specs.Views.{is_among, log_in}
use Rattle.txn_spec.specs.declared.view.NodeView.{NodeView}
use Rattle.live_board.proofs.ChainLemmas.{ended, line_has}
use Rattle.live_board.proofs.HeirLemmas.{heir_is, live_end}
use Rattle.live_board.proofs.PartLemmas.{Part, part_of}
use Rattle.live_board.proofs.PlaceLemmas.{find_same}

-- the log of a node of a line is the one that was taken in of its slot, and the one that stands in its place
pub record IsLogged (nodes : List NodeView) (logs : List NodeLog) (x : LineSight) : Type 0 where
  pub taken : log_in nodes x.slot ≡ x.log
  pub shown : (l : NodeLog) → slice_get logs x.slot ≡ Some l → l.events ≡ x.log
  pub among : is_among nodes x.slot ≡ true

-- the node of slot n, whose state no other took over, with its line
pub record IsEnd (c : Configuration) (nodes : List NodeView) (logs : List NodeLog) (n : ℕ) (t : NodeState) : Type 0 where
  pub past : List LineSight
  pub last : LineSight
  pub is_last : last.slot ≡ n
  pub made : IsMadeLine c t.kind None (past ++ last ∷ [])
  pub folds : line_state t.kind None (map line_node past) (line_node last) ≡ Some t
  pub logged : AllByRecursion (IsLogged nodes logs) (past ++ last ∷ [])

-- how a log ends, and whether its node is done
pub record EndsSo (c : Configuration) (nodes : List NodeView) (logs : List NodeLog) (heir : Option ℕ) (n : ℕ) (l : Last) (done : Bool) : Type 0 where
  pub moved : (j : ℕ) → heir ≡ Some j → l ≡ Moved j
  pub kept : heir ≡ None → (t : NodeState) × IsEnd c nodes logs n t × (l ≡ State (moves.numbers t)) × (done ≡ moves.is_done t)

module _ (c : Configuration) (gone : SourcesAreGone c) (low : SourcesAreLower c) (heirs : List (Option ℕ)) (h : AreHeirs c heirs) (nodes : List NodeView) (logs : List NodeLog) (dones : List Bool)
    (F : ℕ → Option NodeState)
    (folds : (k : Kind) (past : List LineSight) (last : LineSight) → IsMadeLine c k None (past ++ last ∷ [])
    → AllByRecursion (λ (x : LineSight). slice_get (map (log_in nodes) (range_with_len 0 (length c.slots))) x.slot ≡ Some x.log) (past ++ last ∷ [])
    → F last.slot ≡ line_state k None (map line_node past) (line_node last))
    (count : length logs ≡ length c.slots)
    (slots : map (λ (l : NodeLog). l.slot) logs ≡ range_with_len 0 (length c.slots))
    (ends : (n : ℕ) (l : NodeLog) → slice_get logs n ≡ Some l → EndsSo c nodes logs (length_at heirs n) n l.last (slice_index_or dones n true)) where
  abbrev taken : List (List Event)
  taken = map (log_in nodes) (range_with_len 0 (length c.slots))

  log_there : (n : ℕ) → n < length c.slots → (l : NodeLog) × (slice_get logs n ≡ Some l)
  log_there n few = slice_get-there logs n (omega (arith, few, count))

  end_there : (n : ℕ) → n < length c.slots → length_at heirs n ≡ None → (t : NodeState) × IsEnd c nodes logs n t
  end_there n few none_ = let l = log_there n few in let e = (ends n l.0 l.1).kept none_ in (e.0, e.1)

  -- the slots of a line were made
  within : (k : Kind) (from : Option ℕ) (xs : List LineSight) → IsMadeLine c k from xs → AllByRecursion (IsLogged nodes logs) xs
      → AllByRecursion (λ (x : LineSight). slice_get taken x.slot ≡ Some x.log) xs
  within k from [] made all = tt
  within k from (x ∷ xs) made all =
      let few = slice_get_within c.slots x.slot made.0.made made.0.there in
      (mapped_at (log_in nodes) (length c.slots) x.slot few ∙ ap Some all.0.taken, within k (Some x.slot) xs made.1 all.1)

  took : (n j : ℕ) → length_at heirs n ≡ Some j → (m : Slot) × (slot c j ≡ Some m) × (m.from ≡ Some n) × (n < j) × (j < length c.slots)
  took n j is = let t = h.took n j is in (t.0, t.1, t.2, low.lower j n t.0 t.1 t.2, slice_get_within c.slots j t.0 t.1)

  part : (n : ℕ) → n < length c.slots → (k : Kind) × Part c k (IsLogged nodes logs) None None n
  part n few =
      let e = ended c (length_at heirs) (length c.slots) took (length c.slots + 1) n few (omega arith) in
      let x = end_there e.end e.few e.none_ in
      (x.0.kind, part_of c x.0.kind (IsLogged nodes logs) None None x.1.past x.1.last x.0 n x.1.made x.1.logged x.1.folds (line_has c x.0.kind x.1.past x.1.last e.end n x.1.is_last x.1.made e.leads))

  comes_to : (n : ℕ) → n < length c.slots → (s : NodeState) × (F n ≡ Some s)
  comes_to n few =
      let p = part n few in
      (p.1.state, ap F (sym p.1.is_last) ∙ folds p.0 p.1.past p.1.last p.1.made (within p.0 None (p.1.past ++ p.1.last ∷ []) p.1.made p.1.all) ∙ p.1.folds)

  end_comes_to : (n : ℕ) (t : NodeState) → IsEnd c nodes logs n t → F n ≡ Some t
  end_comes_to n t x = ap F (sym x.is_last) ∙ folds t.kind x.past x.last x.made (within t.kind None (x.past ++ x.last ∷ []) x.made x.logged) ∙ x.folds

  pub events_are : map (λ (l : NodeLog). l.events) logs ≡ taken
  events_are =
      mapped_all (λ (l : NodeLog). l.events) (log_in nodes) logs (λ n l at.
      let few = slice_get_within logs n l at in
      let p = part n (omega (arith, few, count)) in
      p.1.holds.shown l (ap (slice_get logs) p.1.is_last ∙ at) ∙ sym p.1.holds.taken ∙ ap (log_in nodes) p.1.is_last)
      ∙ ap (λ k. map (log_in nodes) (range_with_len 0 k)) count

  log_ends_so : (n : ℕ) (l : NodeLog) → slice_get logs n ≡ Some l → EndsAs (F n) (heir_of c n) l.last
  log_ends_so n l at = by (length_at heirs n) refl
    where
      few : n < length c.slots
      few = let below = slice_get_within logs n l at in omega (arith, below, count)

      by : (o : Option ℕ) → length_at heirs n ≡ o → EndsAs (F n) (heir_of c n) l.last
      by None is =
          let e = (ends n l at).kept is in
          subst (λ (o : Option NodeState). EndsAs o (heir_of c n) l.last) (sym (end_comes_to n e.0 e.1))
          (subst (λ (o : Option ℕ). EndsAs (Some e.0) o l.last) (sym is ∙ heir_is c gone heirs h n) (subst (λ x. EndsAs (Some e.0) None x) (sym e.2) refl))
      by (Some j) is =
          let s = comes_to n few in
          subst (λ (o : Option NodeState). EndsAs o (heir_of c n) l.last) (sym s.1)
          (subst (λ (o : Option ℕ). EndsAs (Some s.0) o l.last) (sym is ∙ heir_is c gone heirs h n) (subst (λ x. EndsAs (Some s.0) (Some j) x) (sym ((ends n l at).moved j is)) refl))

  pub all_end : All (λ (l : NodeLog). EndsAs (F l.slot) (heir_of c l.slot) l.last) logs
  all_end n d few =
      let l = get_or logs n d in
      let at = slice_get-get_or logs n d few in
      let own : n ≡ l.slot = same_Some n l.slot (sym (number_at (length c.slots) n (omega (arith, few, count))) ∙ ap (λ xs. slice_get xs n) (sym slots) ∙ slice_get-map_at (λ (x : NodeLog). x.slot) logs n l at) in
      subst (λ i. EndsAs (F i) (heir_of c i) l.last) own (log_ends_so n l at)

  pub undone_is : (p : ℕ → Bool) → ((n : ℕ) → p n ≡ not (option_map_or moves.is_done (F n) false)) → find (λ n. not (slice_index_or dones n true)) (filter (is_live c) (range_with_len 0 (length c.slots))) ≡ find p (filter (is_live c) (range_with_len 0 (length c.slots)))
  undone_is p p_is = find_same (is_live c) (λ n. not (slice_index_or dones n true)) p (length c.slots) (λ n few live.
      let l = log_there n few in
      let e = (ends n l.0 l.1).kept (live_end c gone heirs h n live) in
      ap not (e.3 ∙ sym (ap (λ o. option_map_or moves.is_done o false) (end_comes_to n e.0 e.1))) ∙ sym (p_is n))

  pub all_among : (n : ℕ) → n < length c.slots → is_among nodes n ≡ true
  all_among n few = let p = part n few in ap (is_among nodes) (sym p.1.is_last) ∙ p.1.holds.among
