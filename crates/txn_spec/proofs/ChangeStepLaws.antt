-- The steps of the change keep the rule: each is shown by the trace with its event, look, mark or sight.
use Rattle.std.proofs.Common.{◌≡◌, ◌∙◌, ℕ, ◌+◌, ◌<◌, Bool, true, ◌&&◌, List, [], ◌∷◌, ◌++◌, length, set, Option, Some, None, refl, sym, ap, subst, arith}
use Rattle.std.specs.Prelude.{◌==◌, bit_and, bit_or, bit_xor, nat_le, nat_lt, slice_index}
use Rattle.std.proofs.lemmas.Bool.{and_parts, ltb-true}
use Rattle.atomic_table.specs.Table.{Allows, keeps}
use Rattle.config_graph.specs.Kinds.{row}
use Rattle.config_graph.specs.declared.TheConstants.{MAX_NODES, MAX_PORTS}
use Rattle.config_graph.specs.declared.node.Node.{Node}
use Rattle.config_graph.specs.declared.node.Target.{Target}
use Rattle.quiesce_word.specs.Operands.{link_difference}
use Rattle.quiesce_word.specs.SlotWords.{pack_slot}
use Rattle.quiesce_word.specs.declared.operands.TheConstants.{ALL_BUT_CLOSED, CLOSED}
use Rattle.quiesce_word.specs.declared.slot_word.SlotWord.{SlotWord}
use Rattle.txn_records.specs.Entries.{config_of, event_in}
use Rattle.txn_records.specs.Records.{IsRecord, IsRecordOf, IsSo, May, entry, events, state_at}
use Rattle.txn_records.specs.declared.entry.Entry.{Entry}
use Rattle.txn_records.specs.declared.entry.Entry.TheVariants.{Did, Looked, Scanned}
use Rattle.txn_records.proofs.NoteLaws.{may_is_allowed}
use Rattle.txn_records.proofs.RecordLaws.{config_is, seen_more}
use Rattle.quiesce_core.specs.Doers.{is_of_change}
use Rattle.quiesce_core.specs.Effect.{effect}
use Rattle.quiesce_core.specs.Rules.{denial, is_live_port}
use Rattle.quiesce_core.specs.Runs.{Step}
use Rattle.quiesce_core.specs.State.{State, is_live, owner, target}
use Rattle.quiesce_core.specs.WellFormed.{IsWellFormed}
use Rattle.quiesce_core.specs.Words.{changed_port, changed_slot, slot_word_of, word_of}
use Rattle.quiesce_core.specs.declared.event.Event.{Event}
use Rattle.quiesce_core.specs.declared.event.Event.TheVariants.{Close, Reopen, Make, Link, Unlink, Remove}
use Rattle.quiesce_core.proofs.LegalLaws.{legal}
use Rattle.quiesce_core.proofs.OperationLaws.{close_by, link_by, make_by, reopen_by, unlink_by}
use Rattle.quiesce_core.proofs.RunLaws.{runs_are_well_formed}
use Rattle.txn_spec.specs.Growth.{ChangeProlongs, GatesTable, NoteProlongs}
use Rattle.txn_spec.specs.Steps.{noted}
use Rattle.txn_spec.specs.Views.{change_of, notes, of_change}
use Rattle.txn_spec.specs.Traces.{port_place, Holds}
use Rattle.txn_spec.specs.declared.view.ChangeView.{ChangeView}
use Rattle.txn_spec.specs.declared.view.NodeView.{NodeView}
use Rattle.txn_spec.proofs.GrowthLaws.{With, prolonged, straight}
use Rattle.txn_spec.proofs.TraceLaws.{changes, same_words, sees, shows_none, shows_port, shows_slot}
use mathlib.Core.Option.{some}
use lib.ListN.{get_elem?}

module _ (nodes : List NodeView) (c : ChangeView) (t : GatesTable) (h : Holds t) (id : ℕ) (at : get_elem? t.views id ≡ some (of_change nodes c)) where
  abbrev s : State
  s = state_at h.trace.moments

  w : IsWellFormed s
  w = runs_are_well_formed (events h.trace.moments) h.is_trace.is_record.runs

  -- its record is that of the trace
  is_record : IsRecordOf c.entries h.trace.moments
  is_record = subst (λ r. IsRecordOf r h.trace.moments) (sym ((h.views id (of_change nodes c) at).change c refl).entries) h.is_trace.is_record

  -- and with what it sees, one of a run still
  seen_record : (x : Entry) → event_in x ≡ None → IsSo h.trace.moments (entry x) → IsRecord (c.entries ++ x ∷ [])
  seen_record x quiet so = record { moments = h.trace.moments ++ entry x ∷ []; is_of = seen_more c.entries h.trace.moments x is_record quiet so }

  config : config_of c.entries ≡ s.config
  config = config_is c.entries h.trace.moments is_record

  allowed : (e : Event) → May c.entries e → denial s e ≡ None
  allowed e may = may_is_allowed c.entries h.trace.moments e is_record may

  then_ : (e : Event) → May c.entries e → Step s e (effect s e)
  then_ e may = record { allowed = allowed e may; changed = refl }

  -- an event that changes a port's word to this; a slot's; and none, by a load
  turns : (e : Event) (p v : ℕ) → is_of_change e ≡ true → May c.entries e → p < MAX_PORTS → changed_port e ≡ Some p → changed_slot e ≡ None → v ≡ word_of (effect s e) p
      → With t h id (of_change nodes (notes c (Did e))) (set t.words (port_place p) v) (entry (Did e) ∷ [])
  turns e p v change may few port slot is =
      changes t h id t.homes nodes c e (set t.words (port_place p) v) at change (allowed e may) (shows_port t.words s (effect s e) e w (then_ e may) h.shows p v few port slot is)

  fills : (e : Event) (n v : ℕ) → is_of_change e ≡ true → May c.entries e → n < MAX_NODES → changed_port e ≡ None → changed_slot e ≡ Some n → v ≡ slot_word_of (effect s e).config n
      → With t h id (of_change nodes (notes c (Did e))) (set t.words (MAX_PORTS + n) v) (entry (Did e) ∷ [])
  fills e n v change may few port slot is =
      changes t h id t.homes nodes c e (set t.words (MAX_PORTS + n) v) at change (allowed e may) (shows_slot t.words s (effect s e) e w (then_ e may) h.shows n v few port slot is)

  quietly : (e : Event) (i : ℕ) → is_of_change e ≡ true → May c.entries e → changed_port e ≡ None → changed_slot e ≡ None
      → With t h id (of_change nodes (notes c (Did e))) (set t.words i (slice_index t.words i)) (entry (Did e) ∷ [])
  quietly e i change may port slot =
      subst (λ ws. With t h id (of_change nodes (notes c (Did e))) ws (entry (Did e) ∷ [])) (sym (same_words t.words i))
      (changes t h id t.homes nodes c e t.words at change (allowed e may) (shows_none t.words s (effect s e) e w (then_ e may) h.shows port slot))

  -- a port by which there is an event was made
  port_few : (p : ℕ) → is_live_port s.config p ≡ true → p < MAX_PORTS
  port_few p live =
      omega (arith, ltb-true p (length s.config.gates) (and_parts (nat_lt p (length s.config.gates)) (is_live s.config (owner s.config p)) live).0, w.sound.few_ports)

module _ (slots id : ℕ) (nodes : List NodeView) (c : ChangeView) where
  -- what the word of the new node's slot says
  abbrev new_slot : Node → Option ℕ → SlotWord
  new_slot node from = record { kind = node.kind; first_port = length (config_of c.entries).gates; arg = node.arg; from = from }

  module _ (t : GatesTable) (h : Holds t) (at : get_elem? t.views id ≡ some (of_change nodes c)) where
    abbrev s' : State
    s' = state_at h.trace.moments

    -- the run goes on by this event to a table with this word
    abbrev By : Event → ℕ → ℕ → Type 0
    By e i v = With t h id (of_change nodes (notes c (Did e))) (set t.words i v) (entry (Did e) ∷ [])

    formed : IsWellFormed s'
    formed = w nodes c t h id at

    next : (e : Event) → May c.entries e → Step s' e (effect s' e)
    next = then_ nodes c t h id at

    close_moves : (p : ℕ) → May c.entries (Close p) → By (Close p) (port_place p) (bit_or (slice_index t.words (port_place p)) CLOSED)
    close_moves p may =
        let few = port_few nodes c t h id at p (legal s' (Close p) (allowed nodes c t h id at (Close p) may)).live in
        turns nodes c t h id at (Close p) p (bit_or (slice_index t.words (port_place p)) CLOSED) refl may few refl refl
        (ap (λ x. bit_or x CLOSED) (h.shows.ports p few) ∙ sym (close_by s' (effect s' (Close p)) p formed (next (Close p) may)))

    reopen_moves : (p : ℕ) → May c.entries (Reopen p) → By (Reopen p) (port_place p) (bit_and (slice_index t.words (port_place p)) ALL_BUT_CLOSED)
    reopen_moves p may =
        let few = port_few nodes c t h id at p (legal s' (Reopen p) (allowed nodes c t h id at (Reopen p) may)).live in
        turns nodes c t h id at (Reopen p) p (bit_and (slice_index t.words (port_place p)) ALL_BUT_CLOSED) refl may few refl refl
        (ap (λ x. bit_and x ALL_BUT_CLOSED) (h.shows.ports p few) ∙ sym (reopen_by s' (effect s' (Reopen p)) p formed (next (Reopen p) may)))

    pub look_moves : (p : ℕ) → p < MAX_PORTS
        → With t h id (of_change nodes (notes c (Looked p (slice_index t.words (port_place p))))) (set t.words (port_place p) (slice_index t.words (port_place p))) (entry (Looked p (slice_index t.words (port_place p))) ∷ [])
    look_moves p few =
        let x = Looked p (slice_index t.words (port_place p)) in
        subst (λ ws. With t h id (of_change nodes (notes c x)) ws (entry x ∷ [])) (sym (same_words t.words (port_place p))) (sees t h id t.homes nodes c x at refl (h.shows.ports p few))

    mark_moves : (begins moved : Bool) (i : ℕ)
        → With t h id (of_change nodes (notes c (Scanned begins moved))) (set t.words i (slice_index t.words i)) (entry (Scanned begins moved) ∷ [])
    mark_moves begins moved i =
        let x = Scanned begins moved in
        subst (λ ws. With t h id (of_change nodes (notes c x)) ws (entry x ∷ [])) (sym (same_words t.words i)) (sees t h id t.homes nodes c x at refl tt)

    link_moves : (p n x : ℕ) → May c.entries (Link p n x) → By (Link p n x) (port_place p) (bit_xor (slice_index t.words (port_place p)) (link_difference (record { node = n; provide = x })))
    link_moves p n x may =
        let few = port_few nodes c t h id at p (legal s' (Link p n x) (allowed nodes c t h id at (Link p n x) may)).live in
        let d = link_difference (record { node = n; provide = x }) in
        turns nodes c t h id at (Link p n x) p (bit_xor (slice_index t.words (port_place p)) d) refl may few refl refl
        (ap (λ k. bit_xor k d) (h.shows.ports p few) ∙ sym (link_by s' (effect s' (Link p n x)) p n x formed (next (Link p n x) may)))

    unlink_moves : (p : ℕ) (to : Target) → target (config_of c.entries) p ≡ Some to → May c.entries (Unlink p) → By (Unlink p) (port_place p) (bit_xor (slice_index t.words (port_place p)) (link_difference to))
    unlink_moves p to leads may =
        let few = port_few nodes c t h id at p (legal s' (Unlink p) (allowed nodes c t h id at (Unlink p) may)).live in
        let there : target s'.config p ≡ Some to = subst (λ k. target k p ≡ Some to) (config nodes c t h id at) leads in
        turns nodes c t h id at (Unlink p) p (bit_xor (slice_index t.words (port_place p)) (link_difference to)) refl may few refl refl
        (ap (λ k. bit_xor k (link_difference to)) (h.shows.ports p few) ∙ sym (unlink_by s' (effect s' (Unlink p)) p to formed there (next (Unlink p) may)))

    make_moves : (n : ℕ) (node : Node) (from : Option ℕ) → May c.entries (Make n node from)
        → By (Make n node from) (MAX_PORTS + n) (bit_or (slice_index t.words (MAX_PORTS + n)) (pack_slot (new_slot node from)))
    make_moves n node from may =
        let e : Event = Make n node from in
        let l = legal s' e (allowed nodes c t h id at e may) in
        let room = (and_parts (n == length s'.config.slots && nat_lt n MAX_NODES) (nat_le (length s'.config.gates + length (row node.kind).requires_) MAX_PORTS) l.room).0 in
        let few = ltb-true n MAX_NODES (and_parts (n == length s'.config.slots) (nat_lt n MAX_NODES) room).1 in
        fills nodes c t h id at e n (bit_or (slice_index t.words (MAX_PORTS + n)) (pack_slot (new_slot node from))) refl may few refl refl
        ((λ i. bit_or (h.shows.slots n few i) (pack_slot (record { kind = node.kind; first_port = length (config nodes c t h id at i).gates; arg = node.arg; from = from })))
        ∙ sym (make_by s' (effect s' e) n node from formed (next e may)))

  -- ---- close and reopen

  pub closes : (p : ℕ) → May c.entries (Close p) → Allows Holds slots id (of_change nodes c, []) (port_place p) (λ x. bit_or x CLOSED) (λ found new. new ≡ noted (of_change nodes c, []) (Did (Close p)))
  closes p may t h _ at _ = (of_change nodes (notes c (Did (Close p))), keeps, tt, (close_moves t h at p may).holds, refl)

  pub reopens : (p : ℕ) → May c.entries (Reopen p) → Allows Holds slots id (of_change nodes c, []) (port_place p) (λ x. bit_and x ALL_BUT_CLOSED) (λ found new. new ≡ noted (of_change nodes c, []) (Did (Reopen p)))
  reopens p may t h _ at _ = (of_change nodes (notes c (Did (Reopen p))), keeps, tt, (reopen_moves t h at p may).holds, refl)

  pub close_prolongs : (p : ℕ) → May c.entries (Close p) → ChangeProlongs id nodes c (port_place p) (λ x. bit_or x CLOSED) (Close p)
  close_prolongs p may t h at v a is = prolonged t h id (port_place p) _ _ _ (straight t h id _ _ _ (close_moves t h at p may)) v a is

  pub reopen_prolongs : (p : ℕ) → May c.entries (Reopen p) → ChangeProlongs id nodes c (port_place p) (λ x. bit_and x ALL_BUT_CLOSED) (Reopen p)
  reopen_prolongs p may t h at v a is = prolonged t h id (port_place p) _ _ _ (straight t h id _ _ _ (reopen_moves t h at p may)) v a is

  -- ---- look, and mark by a load

  pub looks : (p : ℕ) → p < MAX_PORTS
      → Allows Holds slots id (of_change nodes c, []) (port_place p) (λ x. x) (λ found new. (new ≡ noted (of_change nodes c, []) (Looked p found)) × IsRecord (change_of new.0).entries)
  looks p few t h _ at _ =
      let x = Looked p (slice_index t.words (port_place p)) in
      (of_change nodes (notes c x), keeps, tt, (look_moves t h at p few).holds, (refl, seen_record nodes c t h id at x refl (h.shows.ports p few)))

  pub marks : (begins moved : Bool) (i : ℕ)
      → Allows Holds slots id (of_change nodes c, []) i (λ x. x) (λ found new. (new ≡ noted (of_change nodes c, []) (Scanned begins moved)) × IsRecord (change_of new.0).entries)
  marks begins moved i t h _ at _ =
      let x = Scanned begins moved in
      (of_change nodes (notes c x), keeps, tt, (mark_moves t h at begins moved i).holds, (refl, seen_record nodes c t h id at x refl tt))

  pub look_prolongs : (p : ℕ) → p < MAX_PORTS → NoteProlongs id nodes c (port_place p) (λ found. Looked p found)
  look_prolongs p few t h at v a is = prolonged t h id (port_place p) _ _ _ (straight t h id _ _ _ (look_moves t h at p few)) v a is

  pub mark_prolongs : (i : ℕ) (begins moved : Bool) → NoteProlongs id nodes c i (λ found. Scanned begins moved)
  mark_prolongs i begins moved t h at v a is = prolonged t h id i _ _ _ (straight t h id _ _ _ (mark_moves t h at begins moved i)) v a is

  -- ---- link and unlink

  pub links : (p n x : ℕ) → May c.entries (Link p n x)
      → Allows Holds slots id (of_change nodes c, []) (port_place p) (λ k. bit_xor k (link_difference (record { node = n; provide = x }))) (λ found new. new ≡ noted (of_change nodes c, []) (Did (Link p n x)))
  links p n x may t h _ at _ = (of_change nodes (notes c (Did (Link p n x))), keeps, tt, (link_moves t h at p n x may).holds, refl)

  pub unlinks : (p : ℕ) (to : Target) → target (config_of c.entries) p ≡ Some to → May c.entries (Unlink p)
      → Allows Holds slots id (of_change nodes c, []) (port_place p) (λ k. bit_xor k (link_difference to)) (λ found new. new ≡ noted (of_change nodes c, []) (Did (Unlink p)))
  unlinks p to leads may t h _ at _ = (of_change nodes (notes c (Did (Unlink p))), keeps, tt, (unlink_moves t h at p to leads may).holds, refl)

  pub link_prolongs : (p n x : ℕ) → May c.entries (Link p n x) → ChangeProlongs id nodes c (port_place p) (λ k. bit_xor k (link_difference (record { node = n; provide = x }))) (Link p n x)
  link_prolongs p n x may t h at v a is = prolonged t h id (port_place p) _ _ _ (straight t h id _ _ _ (link_moves t h at p n x may)) v a is

  pub unlink_prolongs : (p : ℕ) (to : Target) → target (config_of c.entries) p ≡ Some to → May c.entries (Unlink p)
      → ChangeProlongs id nodes c (port_place p) (λ k. bit_xor k (link_difference to)) (Unlink p)
  unlink_prolongs p to leads may t h at v a is = prolonged t h id (port_place p) _ _ _ (straight t h id _ _ _ (unlink_moves t h at p to leads may)) v a is

  -- ---- remove, by a load of word 0

  pub removes : (n i : ℕ) → May c.entries (Remove n) → Allows Holds slots id (of_change nodes c, []) i (λ x. x) (λ found new. new ≡ noted (of_change nodes c, []) (Did (Remove n)))
  removes n i may t h _ at _ = (of_change nodes (notes c (Did (Remove n))), keeps, tt, (quietly nodes c t h id at (Remove n) i refl may refl refl).holds, refl)

  pub remove_prolongs : (n i : ℕ) → May c.entries (Remove n) → ChangeProlongs id nodes c i (λ x. x) (Remove n)
  remove_prolongs n i may t h at v a is = prolonged t h id i _ _ _ (straight t h id _ _ _ (quietly nodes c t h id at (Remove n) i refl may refl refl)) v a is

  -- ---- make

  pub makes : (n : ℕ) (node : Node) (from : Option ℕ) → May c.entries (Make n node from)
      → Allows Holds slots id (of_change nodes c, []) (MAX_PORTS + n) (λ x. bit_or x (pack_slot (new_slot node from))) (λ found new. new ≡ noted (of_change nodes c, []) (Did (Make n node from)))
  makes n node from may t h _ at _ = (of_change nodes (notes c (Did (Make n node from))), keeps, tt, (make_moves t h at n node from may).holds, refl)

  pub make_prolongs : (n : ℕ) (node : Node) (from : Option ℕ) → May c.entries (Make n node from)
      → ChangeProlongs id nodes c (MAX_PORTS + n) (λ x. bit_or x (pack_slot (new_slot node from))) (Make n node from)
  make_prolongs n node from may t h at v a is = prolonged t h id (MAX_PORTS + n) _ _ _ (straight t h id _ _ _ (make_moves t h at n node from may)) v a is
