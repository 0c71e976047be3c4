-- The steps of nodes keep the rule: each is shown by the trace with its event, or by the same trace.
use Rattle.std.proofs.Common.{◌≡◌, ◌∙◌, ℕ, ◌+◌, ◌<◌, ◌^◌, ◌%◌, true, false, cond, List, [], ◌∷◌, set, Option, Some, None, refl, sym, ap, subst, arith}
use Rattle.std.specs.Prelude.{◌==◌, bit_xor, is_none, slice_index}
use Rattle.std.proofs.lemmas.Bool.{both_ways, eqb-false, eqb-true, or_parts}
use Rattle.std.proofs.lemmas.Option.{same_Some}
use Rattle.atomic_table.specs.Table.{Allows, keeps, step}
use Rattle.config_graph.specs.declared.TheConstants.{MAX_PORTS}
use Rattle.config_graph.specs.declared.node.Target.{Target}
use Rattle.quiesce_word.specs.Operands.{call_difference, end_difference, message_difference}
use Rattle.quiesce_word.specs.Phases.{is_answered, is_asked, is_idle, is_in_more}
use Rattle.quiesce_word.specs.Words.{FitsWord, is_message_to, is_missing, pack, unpack}
use Rattle.quiesce_word.specs.declared.phase.Phase.{Phase}
use Rattle.quiesce_word.specs.declared.phase.Phase.TheVariants as phase
use Rattle.quiesce_word.specs.declared.word.Word.{Word}
use Rattle.quiesce_word.proofs.OperandLaws.{call_turns}
use Rattle.txn_records.specs.Records.{by_node, events, state_at}
use Rattle.quiesce_core.specs.Doers.{is_of_change}
use Rattle.quiesce_core.specs.Effect.{effect}
use Rattle.quiesce_core.specs.Fields.{fields_of}
use Rattle.quiesce_core.specs.Knowledge.{IsKnown}
use Rattle.quiesce_core.specs.Rules.{denial, last_serial}
use Rattle.quiesce_core.specs.Runs.{IsRun, Step, is_doer}
use Rattle.quiesce_core.specs.State.{State, exchange}
use Rattle.quiesce_core.specs.Words.{changed_port, changed_slot, word_of}
use Rattle.quiesce_core.specs.declared.event.Event.{Event}
use Rattle.quiesce_core.specs.declared.event.Event.TheVariants.{Begin, Call, Take, Give, End, More, Ask, Hear, Miss}
use Rattle.quiesce_core.specs.declared.known.PortKnown.{PortKnown}
use Rattle.quiesce_core.proofs.LoadLaws.{take_judged}
use Rattle.quiesce_core.proofs.OperationLaws.{ask_by, begin_by, end_by, give_by, more_by}
use Rattle.quiesce_core.proofs.WordLaws.{port_word_follows, port_words_decode, port_words_fit}
use Rattle.node_gate.specs.Looks.{WordShows as Shows'}
use Rattle.node_gate.specs.Moves.{with_seen}
use Rattle.node_gate.specs.declared.answers.SeeAnswer.TheVariants as see
use Rattle.node_gate.specs.Seats.{MayAsk, MayBegin, MayCallAt, MayEnd, MayGive, MayHear, MaySee, MaySendMore, MayTake, NodeAt, port_known, serial_served, value_seen}
use Rattle.node_gate.proofs.AllowedLaws.{ask_allowed, ask_doer, begin_by_word, begin_doer, call_allowed, call_doer, end_allowed, end_doer, fits_seen, give_allowed, give_doer, hear_by_word, hear_doer, miss_by_word, miss_doer, more_allowed, more_doer}
use Rattle.txn_spec.specs.Growth.{ActProlongs, GatesTable, LoadProlongs, Prolongs, if_so}
use Rattle.txn_spec.specs.Steps.{ExchangesFor, Hears, LoadsWord, LooksToCall, Seat, Sees, Takes, WasShown, did, looks, read, seen_in, value_served, sees as sees'}
use Rattle.txn_spec.specs.Views.{does, node_at, of_node, reads}
use Rattle.txn_spec.specs.Traces.{port_at, port_place, Holds, IsLoadedOf, KnowsNode, ShowsExchange}
use Rattle.txn_spec.specs.declared.view.LoadKind.{LoadKind}
use Rattle.txn_spec.specs.declared.view.LoadKind.TheVariants as kinds
use Rattle.txn_spec.specs.declared.view.LoadKind.TheVariants.{Own, Exchange}
use Rattle.txn_spec.specs.declared.view.NodeView.{NodeView}
use Rattle.txn_spec.proofs.FittingLaws as fitting
use Rattle.txn_spec.proofs.GrowthLaws.{Leads, With, picks, prolonged, straight}
use Rattle.txn_spec.proofs.KnowingLaws.{read_known}
use Rattle.txn_spec.proofs.TraceLaws.{acts, at_place, learns, same_words, shows_none, shows_port}
use mathlib.Core.Option.{none, some}
use lib.ListN.{get_elem?}
use prog.Atomic.{either}

module _ (n : NodeView) (t : GatesTable) (h : Holds t) (id : ℕ) (at : get_elem? t.views id ≡ some (of_node n)) where
  abbrev es : List Event
  es = events h.trace.moments

  abbrev s : State
  s = state_at h.trace.moments

  run : IsRun es
  run = h.is_trace.is_record.runs

  mine : KnowsNode es n
  mine = (h.views id (of_node n) at).nodes.0.knows

  -- what a load tells
  shown : (p : ℕ) → p < MAX_PORTS → WasShown n p (slice_index t.words (port_place p))
  shown p few = record { run = es; runs = run; knows = mine; shown = h.shows.ports p few }

  fields : (p : ℕ) → p < MAX_PORTS → unpack (slice_index t.words (port_place p)) ≡ fields_of s p
  fields p few = ap unpack (h.shows.ports p few) ∙ port_words_decode s (fitting.w es run n mine) p

  -- what it knows once it has loaded a port's word
  abbrev reading : LoadKind → ℕ → NodeView
  reading k p = reads n k p (slice_index t.words (port_place p))

  has_read : (k : LoadKind) (p : ℕ) → p < MAX_PORTS → KnowsNode es n → KnowsNode es (reading k p)
  has_read k p few = read_known es n k p (slice_index t.words (port_place p)) (h.shows.ports p few)

  -- by a load it learns something
  learnt : (n' : NodeView) (p : ℕ) → n'.slot ≡ n.slot → (KnowsNode es n → KnowsNode es n') → With t h id (of_node n') (set t.words (port_place p) (slice_index t.words (port_place p))) []
  learnt n' p same knows = subst (λ ws. With t h id (of_node n') ws []) (sym (same_words t.words (port_place p))) (learns t h id t.homes n n' at same knows)

  rests : (k : LoadKind) (p : ℕ) → p < MAX_PORTS → With t h id (of_node (reading k p)) (set t.words (port_place p) (slice_index t.words (port_place p))) []
  rests k p few = learnt (reading k p) p refl (has_read k p few)

  -- it learns something and does an event that changes the port's word to this
  moves_by : (n' : NodeView) → n'.slot ≡ n.slot → (KnowsNode es n → KnowsNode es n') → (e : Event) (p v : ℕ) → is_of_change e ≡ false → denial s e ≡ None → is_doer s n'.slot e ≡ true → p < MAX_PORTS
      → changed_port e ≡ Some p → changed_slot e ≡ None → v ≡ word_of (effect s e) p → With t h id (of_node (does n' e)) (set t.words (port_place p) v) (by_node e ∷ [])
  moves_by n' same knows e p v by_node_ may does_ few port slot is =
      acts t h id t.homes n n' e (set t.words (port_place p) v) at same knows by_node_ may does_
      (shows_port t.words s (effect s e) e (fitting.w es run n mine) (record { allowed = may; changed = refl }) h.shows p v few port slot is)

  moves : (e : Event) (p v : ℕ) → is_of_change e ≡ false → denial s e ≡ None → is_doer s n.slot e ≡ true → p < MAX_PORTS → changed_port e ≡ Some p → changed_slot e ≡ None
      → v ≡ word_of (effect s e) p → With t h id (of_node (does n e)) (set t.words (port_place p) v) (by_node e ∷ [])
  moves = moves_by n refl (λ k. k)

  -- an event that changes no word, by a load
  takes_up : (k : LoadKind) (e : Event) (p : ℕ) → p < MAX_PORTS → is_of_change e ≡ false → denial s e ≡ None → is_doer s n.slot e ≡ true → changed_port e ≡ None → changed_slot e ≡ None
      → With t h id (of_node (does (reading k p) e)) (set t.words (port_place p) (slice_index t.words (port_place p))) (by_node e ∷ [])
  takes_up k e p few by_node_ may does_ port slot =
      subst (λ ws. With t h id (of_node (does (reading k p) e)) ws (by_node e ∷ [])) (sym (same_words t.words (port_place p)))
      (acts t h id t.homes n (reading k p) e t.words at refl (has_read k p few) by_node_ may does_
      (shows_none t.words s (effect s e) e (fitting.w es run n mine) (record { allowed = may; changed = refl }) h.shows port slot))

some_if : (o : Option Target) → is_none o ≡ false → (t : Target) × (o ≡ Some t)
some_if None h = absurd (both_ways true h refl)
some_if (Some t) h = (t, refl)

-- ---- load

pub loads : (slots id p : ℕ) (n : NodeView) → p < MAX_PORTS → Allows Holds slots id (of_node n, []) (port_place p) (λ x. x) (λ found new. (new ≡ (of_node (reads n Own p found), [])) × WasShown n p found)
loads slots id p n few t h _ at _ = (of_node (reading n t h id at Own p), keeps, tt, (rests n t h id at Own p few).holds, (refl, shown n t h id at p few))

pub load_prolongs : (slots id p : ℕ) (n : NodeView) → p < MAX_PORTS → LoadProlongs id n (port_place p) (LoadsWord (step slots (port_place p) 0 0 none) (of_node n, [])) (λ found. [])
load_prolongs slots id p n few t h at v a then_ = prolonged t h id (port_place p) _ _ _ (straight t h id _ _ _ (rests n t h id at Own p few)) v a (subst (λ q. (v, []) ≡ read (of_node n, []) Own q (slice_index t.words (port_place p))) (at_place p (few)) then_.0)

-- ---- take

module _ (n : NodeView) (p : ℕ) (may : MayTake n.known p) (t : GatesTable) (h : Holds t) (id : ℕ) (at : get_elem? t.views id ≡ some (of_node n)) where
  abbrev asked_at : ℕ
  asked_at = slice_index t.words (port_place p)

  abbrev take_event : Event
  take_event = Take p (unpack asked_at).serial (unpack asked_at).value

  take_moves : is_message_to n.slot (unpack asked_at) ≡ true → With t h id (of_node (does (reads n kinds.Take p asked_at) take_event)) (set t.words (port_place p) asked_at) (by_node take_event ∷ [])
  take_moves asked =
      let es' = events h.trace.moments in
      let s' = state_at h.trace.moments in
      let runs = run n t h id at in
      let knows = mine n t h id at in
      let is = h.shows.ports p may.made in
      takes_up n t h id at kinds.Take take_event p may.made refl
      (subst (λ x. denial s' (Take p (unpack x).serial (unpack x).value) ≡ None) (sym is)
      (take_judged s' p n.slot (fitting.w es' runs n knows) (fitting.c es' runs n knows) (fitting.free_serves es' runs n knows may.free) (subst (λ x. is_message_to n.slot (unpack x) ≡ true) is asked)))
      (fitting.message_doer s' p n.slot (subst (λ x. is_message_to n.slot x ≡ true) (fields n t h id at p may.made) asked))
      refl refl

  take_leads : Leads t h id (set t.words (port_place p) asked_at) (if_so (is_message_to n.slot (unpack asked_at)) take_event)
      (cond (is_message_to n.slot (unpack asked_at)) (did (read (of_node n, []) kinds.Take p asked_at) take_event) (read (of_node n, []) kinds.Take p asked_at))
  take_leads =
      let after = reading n t h id at kinds.Take p in
      picks t h id (of_node (does after take_event)) (of_node after) (λ b. set t.words (port_place p) asked_at) (by_node take_event ∷ []) (is_message_to n.slot (unpack asked_at))
      take_moves (λ _. rests n t h id at kinds.Take p may.made)

pub takes : (slots id p : ℕ) (n : NodeView) → MayTake n.known p
    → Allows Holds slots id (of_node n, []) (port_place p) (λ x. x)
    (λ found new.
    (new ≡ cond (is_message_to n.slot (unpack found)) (did (read (of_node n, []) kinds.Take p found) (Take p (unpack found).serial (unpack found).value)) (read (of_node n, []) kinds.Take p found))
    × WasShown n p found)
takes slots id p n may t h _ at _ =
    let it = take_leads n p may t h id at in
    (it.view, keeps, tt, it.goes_on.holds, (it.is, shown n t h id at p may.made))

pub take_prolongs : (slots id p : ℕ) (n : NodeView) → MayTake n.known p
    → LoadProlongs id n (port_place p) (Takes (step slots (port_place p) 0 0 none) (of_node n, [])) (λ found. if_so (is_message_to n.slot (unpack found)) (Take p (unpack found).serial (unpack found).value))
take_prolongs slots id p n may t h at v a then_ = prolonged t h id (port_place p) _ _ _ (take_leads n p may t h id at) v a (subst (λ q. (v, []) ≡ cond (is_message_to n.slot (unpack (slice_index t.words (port_place p)))) (did (read (of_node n, []) kinds.Take q (slice_index t.words (port_place p))) (Take q (unpack (slice_index t.words (port_place p))).serial (unpack (slice_index t.words (port_place p))).value)) (read (of_node n, []) kinds.Take q (slice_index t.words (port_place p)))) (at_place p (may.made)) then_.0)

-- ---- begin

module _ (n : NodeView) (p v old : ℕ) (may : MayBegin (node_at n) n.known p v) (to : Target) (opened : (unpack old).closed ≡ false) (leads : (unpack old).target ≡ Some to)
    (unspent : (unpack old).serial < last_serial) where
  abbrev new_word : Word
  new_word = record (unpack old) { phase = phase.Asked; serial = (unpack old).serial + 1; value = v; consequent = false }

  module _ (t : GatesTable) (h : Holds t) (id : ℕ) (at : get_elem? t.views id ≡ some (of_node n)) where
    abbrev event : Event
    event = Begin p ((unpack old).serial + 1) v

    begin_moves : slice_index t.words (port_place p) ≡ old → With t h id (of_node (does (reading n t h id at Exchange p) event)) (set t.words (port_place p) (pack new_word)) (by_node event ∷ [])
    begin_moves is =
        let es' = events h.trace.moments in
        let s' = state_at h.trace.moments in
        let runs = run n t h id at in
        let knows = mine n t h id at in
        let few = fitting.port_below es' runs n knows p may.own in
        let word : unpack old ≡ fields_of s' p = sym (ap unpack is) ∙ fields n t h id at p few in
        let w = fitting.w es' runs n knows in
        let c = fitting.c es' runs n knows in
        let live = fitting.open_lives es' runs n knows p may.own (sym (ap (λ (x : Word). x.closed) word) ∙ opened) in
        let fits = fitting.fits_core es' runs n knows live in
        let may' = subst (λ (x : NodeAt). MayBegin x n.known p v) (sym (fitting.node_is es' runs n knows)) may in
        let allowed = begin_by_word s' w c n.slot n.known fits p v (unpack old) to word may' opened leads unspent in
        moves_by n t h id at (reading n t h id at Exchange p) refl (has_read n t h id at Exchange p few) event p (pack new_word) refl allowed (begin_doer s' w c n.slot n.known fits p ((unpack old).serial + 1) v may'.own) few refl refl
        (ap (λ (x : Word). pack (record x { phase = phase.Asked; serial = (unpack old).serial + 1; value = v; consequent = false })) word
        ∙ sym (begin_by s' (effect s' event) p ((unpack old).serial + 1) v w (record { allowed = allowed; changed = refl })))

    few : p < MAX_PORTS
    few = fitting.port_below (events h.trace.moments) (run n t h id at) n (mine n t h id at) p may.own

    abbrev begun_or_not : ℕ → Seat
    begun_or_not found = cond (found == old) (did (read (of_node n, []) Exchange p found) event) (read (of_node n, []) Exchange p found)

    begin_leads : Leads t h id (set t.words (port_place p) (either (slice_index t.words (port_place p) == old) (pack new_word) (slice_index t.words (port_place p)))) (if_so (slice_index t.words (port_place p) == old) event) (begun_or_not (slice_index t.words (port_place p)))
    begin_leads =
        let found = slice_index t.words (port_place p) in
        let after = reading n t h id at Exchange p in
        picks t h id (of_node (does after event)) (of_node after) (λ b. set t.words (port_place p) (either b (pack new_word) found)) (by_node event ∷ []) (found == old)
        (λ same. begin_moves (eqb-true found old same)) (λ _. rests n t h id at Exchange p few)

  pub begins : (slots id : ℕ) → Allows Holds slots id (of_node n, []) (port_place p) (λ x. either (x == old) (pack new_word) x)
      (λ found new.
      (new ≡ cond (found == old) (did (read (of_node n, []) Exchange p found) (Begin p ((unpack old).serial + 1) v)) (read (of_node n, []) Exchange p found)) × WasShown n p found)
  begins slots id t h _ at _ =
      let it = begin_leads t h id at in
      (it.view, keeps, tt, it.goes_on.holds, (it.is, shown n t h id at p (few t h id at)))

  pub begin_prolongs : (slots id : ℕ) → Prolongs id (of_node n, []) (port_place p) (λ x. either (x == old) (pack new_word) x) (ExchangesFor (Begin p ((unpack old).serial + 1) v) (step slots (port_place p) old (pack new_word) none) (of_node n, []))
      (λ found. if_so (found == old) (Begin p ((unpack old).serial + 1) v))
  begin_prolongs slots id t h at w a then_ = prolonged t h id (port_place p) _ _ _ (begin_leads t h id at) w a (subst (λ q. (w, []) ≡ cond ((slice_index t.words (port_place p)) == old) (did (read (of_node n, []) Exchange q (slice_index t.words (port_place p))) (Begin p ((unpack old).serial + 1) v)) (read (of_node n, []) Exchange q (slice_index t.words (port_place p)))) (at_place p (few t h id at)) then_.0)

-- ---- give

module _ (n : NodeView) (p v : ℕ) (may : MayGive n.known p v) (t : GatesTable) (h : Holds t) (id : ℕ) (at : get_elem? t.views id ≡ some (of_node n)) where
  give_moves : p < MAX_PORTS
      → With t h id (of_node (does n (Give p (serial_served n.known) v))) (set t.words (port_place p) (bit_xor (slice_index t.words (port_place p)) (message_difference phase.Asked (value_served n.known % 2 ^ 24) phase.Answered v)))
      (by_node (Give p (serial_served n.known) v) ∷ [])
  give_moves few =
      let es' = events h.trace.moments in
      let s' = state_at h.trace.moments in
      let runs = run n t h id at in
      let knows = mine n t h id at in
      let w = fitting.w es' runs n knows in
      let c = fitting.c es' runs n knows in
      let fits = fitting.fits_core es' runs n knows (fitting.serving_lives es' runs n knows p may.serving) in
      let allowed = give_allowed s' w c n.slot n.known fits p v may in
      let e : Event = Give p (serial_served n.known) v in
      moves n t h id at e p _ refl allowed (give_doer s' w c n.slot n.known fits p (serial_served n.known) v may.serving) few refl refl
      (ap (λ x. bit_xor x (message_difference phase.Asked (value_served n.known % 2 ^ 24) phase.Answered v)) (h.shows.ports p few)
      ∙ ap (λ u. bit_xor (word_of s' p) (message_difference phase.Asked u phase.Answered v)) (fitting.low_value_is es' runs n knows p may.serving may.heard)
      ∙ sym (give_by s' (effect s' e) p (serial_served n.known) v w c (record { allowed = allowed; changed = refl })))

pub gives : (slots id p v : ℕ) (n : NodeView) → MayGive n.known p v
    → Allows Holds slots id (of_node n, []) (port_place p) (λ x. bit_xor x (message_difference phase.Asked (value_served n.known % 2 ^ 24) phase.Answered v))
    (λ found new. new ≡ did (of_node n, []) (Give p (serial_served n.known) v))
gives slots id p v n may t h _ at _ =
    (of_node (does n (Give p (serial_served n.known) v)), keeps, tt, (give_moves n p v may t h id at (fitting.serving_below (events h.trace.moments) (run n t h id at) n (mine n t h id at) p may.serving)).holds, refl)

pub give_prolongs : (id p v : ℕ) (n : NodeView) → MayGive n.known p v
    → ActProlongs id n (port_place p) (message_difference phase.Asked (value_served n.known % 2 ^ 24) phase.Answered v) (Give p (serial_served n.known) v)
give_prolongs id p v n may t h at w a is =
    let few = fitting.serving_below (events h.trace.moments) (run n t h id at) n (mine n t h id at) p may.serving in
    prolonged t h id (port_place p) _ _ _ (straight t h id _ _ _ (give_moves n p v may t h id at few)) w a is

-- ---- end

module _ (n : NodeView) (p : ℕ) (may : MayEnd (node_at n) n.known p) where
  abbrev port : PortKnown
  port = port_known (node_at n) n.known p

  abbrev end_event : Event
  end_event = End p port.serial (value_seen port)

  end_moves : (t : GatesTable) (h : Holds t) (id : ℕ) → get_elem? t.views id ≡ some (of_node n)
      → With t h id (of_node (does n end_event)) (set t.words (port_place p) (bit_xor (slice_index t.words (port_place p)) (end_difference (value_seen port % 2 ^ 24) port.consequent))) (by_node end_event ∷ [])
  end_moves t h id at =
      let es' = events h.trace.moments in
      let s' = state_at h.trace.moments in
      let runs = run n t h id at in
      let knows = mine n t h id at in
      let w = fitting.w es' runs n knows in
      let c = fitting.c es' runs n knows in
      let few = fitting.port_below es' runs n knows p may.own in
      let fits = fitting.fits_core es' runs n knows (fitting.busy_lives es' runs n knows p may.own (fitting.seen_busy es' runs n knows p may.own may.seen)) in
      let is = fitting.node_is es' runs n knows in
      let may' = subst (λ (x : NodeAt). MayEnd x n.known p) (sym is) may in
      let allowed : denial s' end_event ≡ None =
      subst (λ (x : NodeAt). denial s' (End p (port_known x n.known p).serial (value_seen (port_known x n.known p))) ≡ None) is (end_allowed s' w c n.slot n.known fits p may') in
      moves n t h id at end_event p _ refl allowed (end_doer s' w c n.slot n.known fits p port.serial (value_seen port) may'.own) few refl refl
      ((λ i. bit_xor (h.shows.ports p few i) (end_difference (fitting.low_seen_is es' runs n knows p may.own may.seen i) ((fitting.port_known_is es' runs n knows p may.own).consequent i)))
      ∙ sym (end_by s' (effect s' end_event) p port.serial (value_seen port) w (record { allowed = allowed; changed = refl })))

  pub ends : (slots id : ℕ) → Allows Holds slots id (of_node n, []) (port_place p) (λ x. bit_xor x (end_difference (value_seen port % 2 ^ 24) port.consequent)) (λ found new. new ≡ did (of_node n, []) end_event)
  ends slots id t h _ at _ = (of_node (does n end_event), keeps, tt, (end_moves t h id at).holds, refl)

  pub end_prolongs : (id : ℕ) → ActProlongs id n (port_place p) (end_difference (value_seen port % 2 ^ 24) port.consequent) end_event
  end_prolongs id t h at w a is = prolonged t h id (port_place p) _ _ _ (straight t h id _ _ _ (end_moves t h id at)) w a is

-- ---- see

shows_of : (x : Word) (k : ℕ) (f : Phase) → f ≡ x.phase → k ≡ pack x → is_idle f ≡ false
    → Shows' x (cond (is_answered f) (see.Answer x.value) (cond (is_in_more f) (see.More x.value) (see.NotYet k)))
shows_of x k phase.Idle is packed busy = absurd (both_ways true busy refl)
shows_of x k phase.Asked is packed busy = (ap is_asked (sym is), packed)
shows_of x k phase.Answered is packed busy = (ap is_answered (sym is), refl)
shows_of x k phase.More is packed busy = (ap is_in_more (sym is), refl)

module _ (n : NodeView) (p : ℕ) (may : MaySee (node_at n) n.known p) (t : GatesTable) (h : Holds t) (id : ℕ) (at : get_elem? t.views id ≡ some (of_node n)) where
  abbrev seen_word : ℕ
  seen_word = slice_index t.words (port_place p)

  abbrev seeing : NodeView
  seeing = sees' n p seen_word

  see_knows : KnowsNode (events h.trace.moments) n → KnowsNode (events h.trace.moments) seeing
  see_knows knows =
      let es' = events h.trace.moments in
      let s' = state_at h.trace.moments in
      let runs = run n t h id at in
      let w = fitting.w es' runs n knows in
      let c = fitting.c es' runs n knows in
      let few = fitting.port_below es' runs n knows p may.own in
      let word : unpack seen_word ≡ fields_of s' p = fields n t h id at p few in
      let known = fitting.port_known_is es' runs n knows p may.own in
      let busy : is_idle (exchange s' p).phase ≡ false = sym known.idle ∙ may.busy in
      let fits = fitting.fits_core es' runs n knows (fitting.busy_lives es' runs n knows p may.own busy) in
      let is = fitting.node_is es' runs n knows in
      let packed : seen_word ≡ pack (unpack seen_word) = h.shows.ports p few ∙ sym (ap pack word) in
      let answer = shows_of (unpack seen_word) seen_word (unpack seen_word).phase refl packed (ap (λ (x : Word). is_idle x.phase) word ∙ busy) in
      let then_ = fits_seen s' w c n.slot n.known fits p (unpack seen_word) (seen_in seen_word) word (subst (λ (x : NodeAt). MaySee x n.known p) (sym is) may) answer in
      record {
        made = knows.made;
        log = knows.log;
        loads = (has_read n t h id at Own p few knows).loads;
        known = subst (λ (x : NodeAt). IsKnown s' n.slot x.first (with_seen x p (seen_in seen_word) n.known)) is then_.known;
        loaded = knows.loaded;
      }

pub sees : (slots id p : ℕ) (n : NodeView) → MaySee (node_at n) n.known p → Allows Holds slots id (of_node n, []) (port_place p) (λ x. x)
    (λ found new. (new ≡ (of_node (sees' n p found), [])) × WasShown n p found)
sees slots id p n may t h _ at _ =
    let few = fitting.port_below (events h.trace.moments) (run n t h id at) n (mine n t h id at) p may.own in
    let after = seeing n p may t h id at in (
      of_node after,
      keeps,
      tt,
      (learnt n t h id at after p refl (see_knows n p may t h id at)).holds,
      (refl, shown n t h id at p few),
    )

pub see_prolongs : (slots id p : ℕ) (n : NodeView) → MaySee (node_at n) n.known p → LoadProlongs id n (port_place p) (Sees (step slots (port_place p) 0 0 none) (of_node n, [])) (λ found. [])
see_prolongs slots id p n may t h at v a then_ =
    prolonged t h id (port_place p) _ _ _ (straight t h id _ _ _ (learnt n t h id at (seeing n p may t h id at) p refl (see_knows n p may t h id at))) v a (subst (λ q. ◌≡◌ {A = Seat} (v, []) (of_node (sees' n q (slice_index t.words (port_place p))), [])) (at_place p (fitting.port_below (events h.trace.moments) (run n t h id at) n (mine n t h id at) p may.own)) then_.0)

-- ---- more

module _ (n : NodeView) (p v : ℕ) (may : MaySendMore (node_at n) n.known p v) (t : GatesTable) (h : Holds t) (id : ℕ) (at : get_elem? t.views id ≡ some (of_node n)) where
  more_moves : p < MAX_PORTS
      → With t h id (of_node (does n (More p (serial_served n.known) v))) (set t.words (port_place p) (bit_xor (slice_index t.words (port_place p)) (message_difference phase.Asked (value_served n.known % 2 ^ 24) phase.More v)))
      (by_node (More p (serial_served n.known) v) ∷ [])
  more_moves few =
      let es' = events h.trace.moments in
      let s' = state_at h.trace.moments in
      let runs = run n t h id at in
      let knows = mine n t h id at in
      let w = fitting.w es' runs n knows in
      let c = fitting.c es' runs n knows in
      let fits = fitting.fits_core es' runs n knows (fitting.serving_lives es' runs n knows p may.give.serving) in
      let may' = subst (λ (x : NodeAt). MaySendMore x n.known p v) (sym (fitting.node_is es' runs n knows)) may in
      let allowed = more_allowed s' w c n.slot n.known fits p v may' in
      let e : Event = More p (serial_served n.known) v in
      moves n t h id at e p _ refl allowed (more_doer s' w c n.slot n.known fits p (serial_served n.known) v may.give.serving) few refl refl
      (ap (λ x. bit_xor x (message_difference phase.Asked (value_served n.known % 2 ^ 24) phase.More v)) (h.shows.ports p few)
      ∙ ap (λ u. bit_xor (word_of s' p) (message_difference phase.Asked u phase.More v)) (fitting.low_value_is es' runs n knows p may.give.serving may.give.heard)
      ∙ sym (more_by s' (effect s' e) p (serial_served n.known) v w c (record { allowed = allowed; changed = refl })))

pub mores : (slots id p v : ℕ) (n : NodeView) → MaySendMore (node_at n) n.known p v
    → Allows Holds slots id (of_node n, []) (port_place p) (λ x. bit_xor x (message_difference phase.Asked (value_served n.known % 2 ^ 24) phase.More v))
    (λ found new. new ≡ did (of_node n, []) (More p (serial_served n.known) v))
mores slots id p v n may t h _ at _ =
    (of_node (does n (More p (serial_served n.known) v)), keeps, tt, (more_moves n p v may t h id at (fitting.serving_below (events h.trace.moments) (run n t h id at) n (mine n t h id at) p may.give.serving)).holds, refl)

pub more_prolongs : (id p v : ℕ) (n : NodeView) → MaySendMore (node_at n) n.known p v
    → ActProlongs id n (port_place p) (message_difference phase.Asked (value_served n.known % 2 ^ 24) phase.More v) (More p (serial_served n.known) v)
more_prolongs id p v n may t h at w a is =
    let few = fitting.serving_below (events h.trace.moments) (run n t h id at) n (mine n t h id at) p may.give.serving in
    prolonged t h id (port_place p) _ _ _ (straight t h id _ _ _ (more_moves n p v may t h id at few)) w a is

-- ---- ask

module _ (n : NodeView) (p v : ℕ) (may : MayAsk (node_at n) n.known p v) where
  abbrev asking : PortKnown
  asking = port_known (node_at n) n.known p

  abbrev ask_event : Event
  ask_event = Ask p asking.serial v

  ask_moves : (t : GatesTable) (h : Holds t) (id : ℕ) → get_elem? t.views id ≡ some (of_node n)
      → With t h id (of_node (does n ask_event)) (set t.words (port_place p) (bit_xor (slice_index t.words (port_place p)) (message_difference phase.More (value_seen asking % 2 ^ 24) phase.Asked v)))
      (by_node ask_event ∷ [])
  ask_moves t h id at =
      let es' = events h.trace.moments in
      let s' = state_at h.trace.moments in
      let runs = run n t h id at in
      let knows = mine n t h id at in
      let w = fitting.w es' runs n knows in
      let c = fitting.c es' runs n knows in
      let few = fitting.port_below es' runs n knows p may.own in
      let fits = fitting.fits_core es' runs n knows (fitting.busy_lives es' runs n knows p may.own (fitting.seen_busy es' runs n knows p may.own may.seen)) in
      let is = fitting.node_is es' runs n knows in
      let may' = subst (λ (x : NodeAt). MayAsk x n.known p v) (sym is) may in
      let allowed : denial s' ask_event ≡ None =
      subst (λ (x : NodeAt). denial s' (Ask p (port_known x n.known p).serial v) ≡ None) is (ask_allowed s' w c n.slot n.known fits p v may') in
      moves n t h id at ask_event p _ refl allowed (ask_doer s' w c n.slot n.known fits p asking.serial v may'.own) few refl refl
      ((λ i. bit_xor (h.shows.ports p few i) (message_difference phase.More ((fitting.low_seen_is es' runs n knows p may.own may.seen ∙ fitting.seen_is es' runs n knows p may.own may.seen) i) phase.Asked v))
      ∙ sym (ask_by s' (effect s' ask_event) p asking.serial v w (record { allowed = allowed; changed = refl })))

  pub asks : (slots id : ℕ) → Allows Holds slots id (of_node n, []) (port_place p) (λ x. bit_xor x (message_difference phase.More (value_seen asking % 2 ^ 24) phase.Asked v)) (λ found new. new ≡ did (of_node n, []) ask_event)
  asks slots id t h _ at _ = (of_node (does n ask_event), keeps, tt, (ask_moves t h id at).holds, refl)

  pub ask_prolongs : (id : ℕ) → ActProlongs id n (port_place p) (message_difference phase.More (value_seen asking % 2 ^ 24) phase.Asked v) ask_event
  ask_prolongs id t h at w a is = prolonged t h id (port_place p) _ _ _ (straight t h id _ _ _ (ask_moves t h id at)) w a is

-- ---- hear

module _ (n : NodeView) (p : ℕ) (may : MayHear n.known p) (t : GatesTable) (h : Holds t) (id : ℕ) (at : get_elem? t.views id ≡ some (of_node n)) where
  abbrev heard_word : ℕ
  heard_word = slice_index t.words (port_place p)

  abbrev hear_event : Event
  hear_event = Hear p (serial_served n.known) (unpack heard_word).value

  hear_moves : p < MAX_PORTS → is_asked (unpack heard_word).phase ≡ true → With t h id (of_node (does (reads n kinds.Hear p heard_word) hear_event)) (set t.words (port_place p) heard_word) (by_node hear_event ∷ [])
  hear_moves few asked =
      let es' = events h.trace.moments in
      let s' = state_at h.trace.moments in
      let runs = run n t h id at in
      let knows = mine n t h id at in
      let w = fitting.w es' runs n knows in
      let c = fitting.c es' runs n knows in
      let fits = fitting.fits_core es' runs n knows (fitting.serving_lives es' runs n knows p may.serving) in
      takes_up n t h id at kinds.Hear hear_event p few refl
      (hear_by_word s' w c n.slot n.known fits p (unpack heard_word) (fields n t h id at p few) may asked)
      (hear_doer s' w c n.slot n.known fits p (serial_served n.known) (unpack heard_word).value may.serving)
      refl refl

  heard_few : p < MAX_PORTS
  heard_few = fitting.serving_below (events h.trace.moments) (run n t h id at) n (mine n t h id at) p may.serving

  hear_leads : Leads t h id (set t.words (port_place p) heard_word) (if_so (is_asked (unpack heard_word).phase) hear_event)
      (cond (is_asked (unpack heard_word).phase) (did (read (of_node n, []) kinds.Hear p heard_word) hear_event) (read (of_node n, []) kinds.Hear p heard_word))
  hear_leads =
      let after = reading n t h id at kinds.Hear p in
      picks t h id (of_node (does after hear_event)) (of_node after) (λ b. set t.words (port_place p) heard_word) (by_node hear_event ∷ []) (is_asked (unpack heard_word).phase)
      (hear_moves heard_few) (λ _. rests n t h id at kinds.Hear p heard_few)

pub hears : (slots id p : ℕ) (n : NodeView) → MayHear n.known p
    → Allows Holds slots id (of_node n, []) (port_place p) (λ x. x)
    (λ found new.
    (new ≡ cond (is_asked (unpack found).phase) (did (read (of_node n, []) kinds.Hear p found) (Hear p (serial_served n.known) (unpack found).value)) (read (of_node n, []) kinds.Hear p found))
    × WasShown n p found)
hears slots id p n may t h _ at _ =
    let it = hear_leads n p may t h id at in
    (it.view, keeps, tt, it.goes_on.holds, (it.is, shown n t h id at p (heard_few n p may t h id at)))

pub hear_prolongs : (slots id p : ℕ) (n : NodeView) → MayHear n.known p
    → LoadProlongs id n (port_place p) (Hears (step slots (port_place p) 0 0 none) (of_node n, [])) (λ found. if_so (is_asked (unpack found).phase) (Hear p (serial_served n.known) (unpack found).value))
hear_prolongs slots id p n may t h at v a then_ = prolonged t h id (port_place p) _ _ _ (hear_leads n p may t h id at) v a (subst (λ q. (v, []) ≡ cond (is_asked (unpack (slice_index t.words (port_place p))).phase) (did (read (of_node n, []) kinds.Hear q (slice_index t.words (port_place p))) (Hear q (serial_served n.known) (unpack (slice_index t.words (port_place p))).value)) (read (of_node n, []) kinds.Hear q (slice_index t.words (port_place p)))) (at_place p (heard_few n p may t h id at)) then_.0)

-- ---- call

module _ (n : NodeView) (p v : ℕ) (may : MayCallAt (node_at n) n.known p v) where
  module _ (t : GatesTable) (h : Holds t) (id : ℕ) (at : get_elem? t.views id ≡ some (of_node n)) where
    abbrev call_word : ℕ
    call_word = slice_index t.words (port_place p)

    abbrev calling : NodeView
    calling = looks n p call_word

    miss_moves : is_missing (unpack call_word) ≡ true → With t h id (of_node (does (reads n Own p call_word) (Miss p))) (set t.words (port_place p) call_word) (by_node (Miss p) ∷ [])
    miss_moves missing =
        let es' = events h.trace.moments in
        let s' = state_at h.trace.moments in
        let runs = run n t h id at in
        let knows = mine n t h id at in
        let w = fitting.w es' runs n knows in
        let c = fitting.c es' runs n knows in
        let few = fitting.port_below es' runs n knows p may.own in
        let fits = fitting.fits_core es' runs n knows (fitting.heard_lives es' runs n knows may.heard) in
        let may' = subst (λ (x : NodeAt). MayCallAt x n.known p v) (sym (fitting.node_is es' runs n knows)) may in
        takes_up n t h id at Own (Miss p) p few refl
        (miss_by_word s' w c n.slot n.known fits p v (unpack call_word) (fields n t h id at p few) may' missing)
        (miss_doer s' w c n.slot n.known fits p may'.own) refl refl

    -- what is loaded there is so
    loaded_knows : KnowsNode (events h.trace.moments) n → KnowsNode (events h.trace.moments) calling
    loaded_knows knows =
        let es' = events h.trace.moments in
        let s' = state_at h.trace.moments in
        let runs = run n t h id at in
        let w = fitting.w es' runs n knows in
        let few = fitting.port_below es' runs n knows p may.own in
        let word : unpack call_word ≡ fields_of s' p = fields n t h id at p few in
        let o = fitting.own_port es' runs n knows p may.own in
        let here : IsLoadedOf s' n.slot (record { port = p; word = call_word }) = record {
          made = omega (arith, o.below, (w.sound.rows n.slot o.node o.made).within);
          owned = fitting.owner_is es' runs n knows p may.own;
          idle = sym (fitting.port_known_is es' runs n knows p may.own).idle ∙ may.idle;
          shown = subst (λ (x : Word). ShowsExchange x (exchange s' p)) (sym word) refl;
          leads = λ u serves. ap (λ (x : Word). x.target) (sym word);
        } in
        record {
          made = knows.made;
          log = knows.log;
          loads = (has_read n t h id at Own p few knows).loads;
          known = knows.known;
          loaded = λ l is. subst (λ l. IsLoadedOf s' n.slot l) (same_Some (record { port = p; word = call_word }) l is) here;
        }

    call_few : p < MAX_PORTS
    call_few = fitting.port_below (events h.trace.moments) (run n t h id at) n (mine n t h id at) p may.own

    look_leads : Leads t h id (set t.words (port_place p) call_word) (if_so (is_missing (unpack call_word)) (Miss p))
        (cond (is_missing (unpack call_word)) (did (read (of_node n, []) Own p call_word) (Miss p)) (of_node calling, []))
    look_leads =
        picks t h id (of_node (does (reading n t h id at Own p) (Miss p))) (of_node calling) (λ b. set t.words (port_place p) call_word) (by_node (Miss p) ∷ []) (is_missing (unpack call_word))
        miss_moves (λ _. learnt n t h id at calling p refl loaded_knows)

  pub looks_to_call : (slots id : ℕ) → Allows Holds slots id (of_node n, []) (port_place p) (λ x. x)
      (λ found new. (new ≡ cond (is_missing (unpack found)) (did (read (of_node n, []) Own p found) (Miss p)) (of_node (looks n p found), [])) × WasShown n p found)
  looks_to_call slots id t h _ at _ =
      let it = look_leads t h id at in
      (it.view, keeps, tt, it.goes_on.holds, (it.is, shown n t h id at p (call_few t h id at)))

  pub look_prolongs : (slots id : ℕ) → LoadProlongs id n (port_place p) (LooksToCall (step slots (port_place p) 0 0 none) (of_node n, [])) (λ found. if_so (is_missing (unpack found)) (Miss p))
  look_prolongs slots id t h at w a then_ = prolonged t h id (port_place p) _ _ _ (look_leads t h id at) w a (subst (λ q. (w, []) ≡ cond (is_missing (unpack (slice_index t.words (port_place p)))) (did (read (of_node n, []) Own q (slice_index t.words (port_place p))) (Miss q)) (of_node (looks n q (slice_index t.words (port_place p))), [])) (at_place p (call_few t h id at)) then_.0)

  -- the word that was loaded, by which it calls
  module _ (word : ℕ) (was : n.loaded ≡ Some (record { port = p; word = word })) (fit : FitsWord (unpack word)) (found_there : is_missing (unpack word) ≡ false) where
    abbrev call_event : Event
    call_event = Call p ((unpack word).serial + 1) v

    to : (t : Target) × ((unpack word).target ≡ Some t) × ((unpack word).serial < last_serial)
    to =
        let parts = or_parts (is_none (unpack word).target) ((unpack word).serial == last_serial) found_there in
        let leads = some_if (unpack word).target parts.0 in
        (leads.0, leads.1, (let few = fit.serial in let apart = eqb-false (unpack word).serial last_serial parts.1 in omega (arith, few, apart)))

    call_moves : (t : GatesTable) (h : Holds t) (id : ℕ) → get_elem? t.views id ≡ some (of_node n)
        → With t h id (of_node (does n call_event)) (set t.words (port_place p) (bit_xor (slice_index t.words (port_place p)) (call_difference (unpack word) v))) (by_node call_event ∷ [])
    call_moves t h id at =
        let es' = events h.trace.moments in
        let s' = state_at h.trace.moments in
        let runs = run n t h id at in
        let knows = mine n t h id at in
        let w = fitting.w es' runs n knows in
        let c = fitting.c es' runs n knows in
        let few = fitting.port_below es' runs n knows p may.own in
        let fits = fitting.fits_core es' runs n knows (fitting.heard_lives es' runs n knows may.heard) in
        let may' = subst (λ (x : NodeAt). MayCallAt x n.known p v) (sym (fitting.node_is es' runs n knows)) may in
        let loaded = knows.loaded (record { port = p; word = word }) was in
        let serves = fitting.heard_serves es' runs n knows may.heard in
        let serial : (exchange s' p).serial ≡ (unpack word).serial = ap (λ (x : Word). x.serial) loaded.shown in
        let allowed : denial s' call_event ≡ None =
        subst (λ k. denial s' (Call p (k + 1) v) ≡ None) serial
        (call_allowed s' w c n.slot n.known fits p v to.0 may' (loaded.leads serves.0 serves.1 ∙ to.1) (omega (arith, serial, to.2))) in
        let step : Step s' call_event (effect s' call_event) = record { allowed = allowed; changed = refl } in
        moves n t h id at call_event p _ refl allowed (call_doer s' w c n.slot n.known fits p ((unpack word).serial + 1) v may'.own) few refl refl
        (ap (λ x. bit_xor x (call_difference (unpack word) v)) (h.shows.ports p few)
        ∙ call_turns (unpack word) v fit (omega (arith, to.2)) may.small (fields_of s' p) (port_words_fit s' w p)
        (ap (λ (x : Word). x.phase) loaded.shown) (ap (λ (x : Word). x.consequent) loaded.shown) serial (ap (λ (x : Word). x.value) loaded.shown)
        ∙ sym (ap pack (port_word_follows s' (effect s' call_event) call_event w step p refl)))

    pub calls : (slots id : ℕ) → Allows Holds slots id (of_node n, []) (port_place p) (λ x. bit_xor x (call_difference (unpack word) v)) (λ found new. new ≡ did (of_node n, []) call_event)
    calls slots id t h _ at _ = (of_node (does n call_event), keeps, tt, (call_moves t h id at).holds, refl)

    pub call_prolongs : (id : ℕ) → ActProlongs id n (port_place p) (call_difference (unpack word) v) call_event
    call_prolongs id t h at w a is = prolonged t h id (port_place p) _ _ _ (straight t h id _ _ _ (call_moves t h id at)) w a is
