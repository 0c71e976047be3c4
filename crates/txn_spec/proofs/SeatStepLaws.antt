-- The steps by which seats are given out and taken in keep the rule, and the change learns what all that it has is of.
use Rattle.std.proofs.Common.{◌≡◌, ◌≢◌, ◌∙◌, ℕ, zero, suc, ◌+◌, ◌<◌, ◌≤◌, true, ◌||◌, cond, List, [], ◌∷◌, ◌++◌, length, set, replicate, Some, refl, sym, ap, subst, ⊎_elim, arith}
use Rattle.std.specs.List.{AllByRecursion}
use Rattle.std.specs.Prelude.{◌==◌, option_map, slice_index}
use Rattle.std.specs.Option.{option_map_or}
use Rattle.std.proofs.lemmas.Bool.{cases_eq, eq-eqb, false≢true, ne_eqb, or_right}
use Rattle.std.proofs.lemmas.Option.{same_Some, slice_get_within}
use Rattle.std.proofs.lemmas.List.{append-nil, get_or-append-add, get_or-replicate, get_or_append_left, length-append, length-replicate, length-set}
use Rattle.atomic_table.specs.Table.{Allows, Joins, Splits, State as Table, keeps, opening, step}
use Rattle.atomic_table.proofs.Lists.{at_last, at_set, set_else}
use Rattle.base.proofs.OptionLaws.{option_map_some}
use Rattle.base.proofs.PlaceLaws.{slice_get-there}
use Rattle.base.proofs.ListLaws.{all_into}
use Rattle.config_graph.specs.declared.TheConstants.{MAX_NODES, MAX_PORTS}
use Rattle.quiesce_word.specs.declared.operands.TheConstants.{CLOSED}
use Rattle.quiesce_word.specs.SlotWords.{unpack_slot}
use Rattle.txn_records.specs.Entries.{config_of}
use Rattle.txn_records.specs.Records.{IsRecordOf, Moment, entry, events}
use Rattle.txn_records.specs.declared.entry.Entry.{Entry}
use Rattle.txn_records.specs.declared.entry.Entry.TheVariants.{Sighted}
use Rattle.txn_records.proofs.RecordLaws.{config_is, quiet_events, seen_more}
use Rattle.quiesce_core.specs.Knowledge.{IsKnown, known_after}
use Rattle.quiesce_core.specs.Runs.{done_by, state_after}
use Rattle.quiesce_core.specs.State.{empty, slot}
use Rattle.quiesce_core.specs.Words.{slot_fields_of}
use Rattle.quiesce_core.proofs.KnownLaws.{nodes_know_by_index}
use Rattle.quiesce_core.proofs.LoadLaws.{unmade_port}
use Rattle.quiesce_core.proofs.RunLaws.{runs_are_well_formed}
use Rattle.quiesce_core.proofs.SoundnessLaws.{well_formed_empty}
use Rattle.quiesce_core.proofs.WordLaws.{slot_words_of_runs}
use Rattle.txn_spec.specs.Views.{given_out, is_among, new_seat, newest, nobody, notes, nothing_done, of_change, of_node, seat_again, unknown, with_seat, with_sight, without_seat}
use Rattle.txn_spec.specs.Growth.{JoinProlongs, LoadProlongs, RunGoesOn, SplitProlongs}
use Rattle.txn_spec.specs.Steps.{Adopts}
use Rattle.txn_spec.specs.Traces.{port_place, first_words, AreSeated, FitsView, FitsChange, FitsNode, HasChange, HasSlot, Holds, IsTrace, IsThere, KnowsNode, Shows, Trace}
use Rattle.txn_spec.specs.declared.view.ChangeView.{ChangeView}
use Rattle.txn_spec.specs.declared.view.NodeView.{NodeView}
use Rattle.txn_spec.specs.declared.view.View.{View}
use Rattle.txn_spec.proofs.GrowthLaws.{prolonged, stays, straight}
use Rattle.txn_spec.proofs.TraceLaws.{place_below, goes_on_joined, goes_on_parted, set_there, stays_there, there_before}
use mathlib.Core.Option.{none, some, some-injective, some-ne-none}
use lib.ListN.{get_elem?}

-- ---- owners

-- who has the seats, where this seat has the node of this slot
abbrev own : (ℕ → ℕ) → ℕ → ℕ → ℕ → ℕ
own owner slot_ id n = cond (n == slot_) id (owner n)

own_here : (owner : ℕ → ℕ) (slot_ id : ℕ) → own owner slot_ id slot_ ≡ id
own_here owner slot_ id = ap (λ b. cond b id (owner slot_)) (eq-eqb slot_ slot_ refl)

own_else : (owner : ℕ → ℕ) (slot_ id n : ℕ) → n ≢ slot_ → own owner slot_ id n ≡ owner n
own_else owner slot_ id n apart = ap (λ b. cond b id (owner n)) (ne_eqb n slot_ apart)

-- another node's seat
other_owner : (w : Trace) (slot_ id seats j : ℕ) (n : NodeView) → w.seats ≤ seats → n.slot ≢ slot_ → FitsNode w j n → FitsNode (record w { owner = own w.owner slot_ id; seats = seats }) j n
other_owner w slot_ id seats j n more_ apart f = record {
  owned = own_else w.owner slot_ id n.slot apart ∙ f.owned;
  seated = (let below = f.seated in omega (arith, below, more_));
  knows = f.knows;
}

-- the nodes of a list that are apart from the one
every_apart : (P Q : NodeView → Type 0) (R : NodeView → Type 0) (ns : List NodeView) → ((n : NodeView) → R n → P n → Q n) → AllByRecursion R ns → AllByRecursion P ns → AllByRecursion Q ns
every_apart P Q R [] f rs ps = tt
every_apart P Q R (n ∷ ns) f rs ps = (f n rs.0 ps.0, every_apart P Q R ns f rs.1 ps.1)

-- ---- seats that are there

-- a node is among those that are one more, and if it isn't that one, among those that are one less
among_more : (n : NodeView) (nodes : List NodeView) (m : ℕ) → is_among nodes m ≡ true → is_among (n ∷ nodes) m ≡ true
among_more n nodes m among = or_right (n.slot == m) (is_among nodes m) among

among_first : (n : NodeView) (nodes : List NodeView) → is_among (n ∷ nodes) n.slot ≡ true
among_first n nodes = ap (λ b. b || is_among nodes n.slot) (eq-eqb n.slot n.slot refl)

among_rest : (n : NodeView) (nodes : List NodeView) (m : ℕ) → m ≢ n.slot → is_among (n ∷ nodes) m ≡ true → is_among nodes m ≡ true
among_rest n nodes m apart among = sym (ap (λ b. b || is_among nodes m) (ne_eqb n.slot m (λ is. apart (sym is)))) ∙ among

-- where this seat has the node of this slot now, and all others are where they were
of_owners : (views : List View) (owner : ℕ → ℕ) (slot_ id m : ℕ) → IsThere views id (HasSlot slot_) → (m ≢ slot_ → IsThere views (owner m) (HasSlot m)) → IsThere views (own owner slot_ id m) (HasSlot m)
of_owners views owner slot_ id m here others = ⊎_elim
    (λ (is : m ≡ slot_). subst (λ k. IsThere views (own owner slot_ id k) (HasSlot k)) (sym is) (subst (λ k. IsThere views k (HasSlot slot_)) (sym (own_here owner slot_ id)) here))
    (λ (apart : m ≢ slot_). subst (λ k. IsThere views k (HasSlot m)) (sym (own_else owner slot_ id m apart)) (others apart))
    (cases_eq m slot_)

-- a view was cut in two, of which the new one has this node
parted : (w : Trace) (seats : ℕ) (views : List View) (id : ℕ) (v left : View) (n : NodeView) → get_elem? views id ≡ some v → AreSeated w views
    → ((m : ℕ) → m ≢ n.slot → HasSlot m v → HasSlot m left) → (HasChange v → HasChange left) → ((m : ℕ) → m ≢ n.slot → m < seats → m < w.seats)
    → AreSeated (record w { owner = own w.owner n.slot (length views); seats = seats }) (set views id left ++ of_node n ∷ [])
parted w seats views id v left n at seated nodes change few = record {
  nodes = λ m below. of_owners (set views id left ++ of_node n ∷ []) w.owner n.slot (length views) m
      (of_node n, at_last (set views id left) (of_node n) (length views) (length-set views id left), among_first n [])
      (λ apart. still (HasSlot m) (w.owner m) (nodes m apart) (seated.nodes m (few m apart below)));
  change = still HasChange w.change change seated.change;
}
  where
    still : (P : View → Type 0) (j : ℕ) → (P v → P left) → IsThere views j P → IsThere (set views id left ++ of_node n ∷ []) j P
    still P j also there = there_before (set views id left) (of_node n) P j (stays_there views id v left at P j also there)

-- the change took this node's seat in
joined : (w : Trace) (ms : List Moment) (r : List Entry) (views : List View) (id other : ℕ) (nodes : List NodeView) (c c' : ChangeView) (n : NodeView) → ¬ (other ≡ id)
    → get_elem? views id ≡ some (of_change nodes c) → get_elem? views other ≡ some (of_node n) → AreSeated w views
    → AreSeated (record w { moments = ms; entries = r; owner = own w.owner n.slot id }) (set (set views id (of_change (n ∷ nodes) c')) other nobody)
joined w ms r views id other nodes c c' n two at there seated = record {
  nodes = λ m below. of_owners (set (set views id both) other nobody) w.owner n.slot id m
      (both, set_else (set views id both) other id nobody (λ is. two (sym is)) ∙ set_there views id (of_change nodes c) both at, among_first n nodes)
      (λ apart. still (HasSlot m) (w.owner m) (among_more n nodes m) (λ among. false≢true (among_rest n [] m apart among)) (seated.nodes m below));
  change = still HasChange w.change (λ so. so) false≢true seated.change;
}
  where
    both : View
    both = of_change (n ∷ nodes) c'

    -- what was so, and not of the node's seat
    still : (P : View → Type 0) (j : ℕ) → (P (of_change nodes c) → P both) → (P (of_node n) → ⊥) → IsThere views j P → IsThere (set (set views id both) other nobody) j P
    still P j also never has =
        stays_there (set views id both) other (of_node n) nobody (set_else views id other both two ∙ there) P j (λ so. absurd (never so))
        (stays_there views id (of_change nodes c) both at P j also has)

-- ---- a new seat

module _ (id : ℕ) (nodes : List NodeView) (c : ChangeView) (more_ : c.seats < length (config_of c.entries).slots) where
  -- a node whose seat wasn't given out is known as the record has it
  newest_known : (w : Trace) → IsTrace w → c.seats ≡ w.seats → c.entries ≡ w.entries → KnowsNode (events w.moments) (newest c)
  newest_known w is_trace seats entries =
      let es = events w.moments in
      let run = is_trace.is_record.runs in
      let config = config_is c.entries w.moments (subst (λ r. IsRecordOf r w.moments) (sym entries) is_trace.is_record) in
      let none_ : done_by c.seats es ≡ [] = is_trace.unseated c.seats (omega (arith, seats)) in
      let m = slice_get-there (config_of c.entries).slots c.seats more_ in
      let there : slot (config_of c.entries) c.seats ≡ Some m.0 = m.1 in
      record {
        made = ap (λ k. option_map slot_fields_of (slot k c.seats)) (sym config) ∙ ap (option_map slot_fields_of) there
            ∙ ap Some (sym (ap (λ o. option_map_or slot_fields_of o unknown.made) there));
        log = sym none_;
        loads = tt;
        known = subst (λ log. IsKnown (state_after es) c.seats (newest c).made.first_port (known_after (newest c).made.first_port log)) none_
            (nodes_know_by_index es run c.seats (newest c).made.first_port);
        loaded = λ l is. absurd (cc is);
      }

  pub new_seat_prolongs : SplitProlongs id (of_change nodes c) (without_seat (of_change nodes c)) (new_seat (of_change nodes c))
  new_seat_prolongs t h at =
      let w = h.trace in
      let fit = h.views id (of_change nodes c) at in
      let mine = fit.change c refl in
      let w' : Trace = record w { owner = own w.owner c.seats (length t.views); seats = w.seats + 1 } in
      let node : (j : ℕ) (u : NodeView) → FitsNode w j u → FitsNode w' j u =
      λ j u f. other_owner w c.seats (length t.views) (w.seats + 1) j u (omega arith) (λ is. omega (arith, is, f.seated, mine.seats)) f in
      let c' : ChangeView = record c { seats = c.seats + 1 } in
      goes_on_parted t h w' refl id (of_change nodes c') (of_node (newest c)) t.homes
      (record { is_record = h.is_trace.is_record; unseated = λ n none_. h.is_trace.unseated n (omega (arith, none_)) })
      h.shows
      (λ j u apart there.
      let f = h.views j u there in
      record {
        nodes = all_into (FitsNode w j) (FitsNode w' j) u.nodes (node j) f.nodes;
        apart = f.apart;
        change = λ d is. absurd (apart (sym (f.change d is).change ∙ mine.change));
      })
      (record {
        nodes = all_into (FitsNode w id) (FitsNode w' id) nodes (node id) fit.nodes;
        apart = fit.apart;
        change = λ d is. subst (λ (d : ChangeView). FitsChange w' id d) (same_Some c' d is) (record { change = mine.change; seats = ap (λ k. k + 1) mine.seats; entries = mine.entries });
      })
      (record {
        nodes = (
          record {
            owned = own_here w.owner c.seats (length t.views);
            seated = (let same = mine.seats in omega (arith, same));
            knows = newest_known w h.is_trace mine.seats mine.entries;
          },
          tt,
        );
        apart = (tt, tt);
        change = λ d is. absurd (cc is);
      })
      (parted w (w.seats + 1) t.views id (of_change nodes c) (of_change nodes c') (newest c) at h.seated (λ m _ among. among) (λ so. so)
      (λ m apart below. (let here = mine.seats in omega (arith, apart, below, here))))

  pub gives_seat : Splits Holds id (of_change nodes c) (without_seat (of_change nodes c)) (new_seat (of_change nodes c))
  gives_seat t h at = (new_seat_prolongs t h at).holds

-- what the new seat reads of its slot's word
pub adopts : (slots id : ℕ) (n : NodeView) → Allows Holds slots id (of_node n, []) (MAX_PORTS + n.slot) (λ x. x) (λ found new. (new ≡ (of_node n, [])) × (unpack_slot found ≡ Some n.made))
adopts slots id n t h _ at _ =
    let fit = (h.views id (of_node n) at).nodes.0 in
    let es = events h.trace.moments in
    let s = state_after es in
    let run = h.is_trace.is_record.runs in
    let m = option_map_some slot_fields_of (slot s.config n.slot) n.made fit.knows.made in
    let few : n.slot < MAX_NODES = omega (arith, slice_get_within s.config.slots n.slot m.0 m.1, (runs_are_well_formed es run).sound.few_nodes) in (
      of_node n,
      keeps,
      tt,
      (stays t h id (MAX_PORTS + n.slot) (of_node n) at).holds,
      (refl, ap unpack_slot (h.shows.slots n.slot few) ∙ slot_words_of_runs es n.slot run ∙ fit.knows.made),
    )

pub adopt_prolongs : (slots id : ℕ) (n : NodeView) → LoadProlongs id n (MAX_PORTS + n.slot) (Adopts (step slots (MAX_PORTS + n.slot) 0 0 none) (of_node n, [])) (λ found. [])
adopt_prolongs slots id n t h at v a then_ = prolonged t h id (MAX_PORTS + n.slot) _ _ _ (straight t h id _ _ _ (stays t h id (MAX_PORTS + n.slot) (of_node n) at)) v a then_.0

-- ---- a seat that is taken in, for good or for a sight

module _ (id : ℕ) (nodes : List NodeView) (c : ChangeView) (other : ℕ) (n : NodeView) (t : Table (Unit {0}) View) (h : Holds t) (at : get_elem? t.views id ≡ some (of_change nodes c))
    (two : ¬ (other ≡ id)) (there : get_elem? t.views other ≡ some (of_node n)) (c' : ChangeView) (w' : Trace) (owner : w'.owner ≡ own h.trace.owner n.slot id) (change : w'.change ≡ h.trace.change)
    (seats : w'.seats ≡ h.trace.seats) (same : events w'.moments ≡ events h.trace.moments) (is_trace : IsTrace w') (seats' : c'.seats ≡ w'.seats) (entries' : c'.entries ≡ w'.entries)
    (more_ : List Moment) (goes_on : w'.moments ≡ h.trace.moments ++ more_)
    (seated : AreSeated w' (set (set t.views id (of_change (n ∷ nodes) c')) other nobody)) where
  abbrev w : Trace
  w = h.trace

  theirs : FitsNode w other n
  theirs = (h.views other (of_node n) there).nodes.0

  mine : FitsView w id (of_change nodes c)
  mine = h.views id (of_change nodes c) at

  moved : (j : ℕ) (u : NodeView) → u.slot ≢ n.slot → FitsNode w j u → FitsNode w' j u
  moved j u apart f = record {
    owned = ap (λ (k : ℕ → ℕ). k u.slot) owner ∙ own_else w.owner n.slot id u.slot apart ∙ f.owned;
    seated = subst (λ k. u.slot < k) (sym seats) f.seated;
    knows = subst (λ es. KnowsNode es u) (sym same) f.knows;
  }

  -- a node of another seat than that
  not_it : (j : ℕ) (u : NodeView) → j ≢ other → FitsNode w j u → u.slot ≢ n.slot
  not_it j u apart f is = apart (sym f.owned ∙ ap w.owner is ∙ theirs.owned)

  all_not : (j : ℕ) (us : List NodeView) → j ≢ other → AllByRecursion (FitsNode w j) us → AllByRecursion (λ (u : NodeView). u.slot ≢ n.slot) us
  all_not j us apart fits = all_into (FitsNode w j) (λ (u : NodeView). u.slot ≢ n.slot) us (λ u f. not_it j u apart f) fits

  all_moved : (j : ℕ) (us : List NodeView) → j ≢ other → AllByRecursion (FitsNode w j) us → AllByRecursion (FitsNode w' j) us
  all_moved j us apart fits = all_into (FitsNode w j) (FitsNode w' j) us (λ u f. moved j u (not_it j u apart f) f) fits

  joins : RunGoesOn t h (record { words = t.words; homes = t.homes; views = set (set t.views id (of_change (n ∷ nodes) c')) other nobody }) more_
  joins =
      goes_on_joined t h w' more_ goes_on id other (of_change (n ∷ nodes) c') t.homes is_trace
      (subst (λ es. Shows t.words (state_after es)) (sym same) h.shows)
      (λ j u not_id not_other there'.
      let f = h.views j u there' in
      record {
        nodes = all_moved j u.nodes not_other f.nodes;
        apart = f.apart;
        change = λ d is. absurd (not_id (sym (f.change d is).change ∙ (mine.change c refl).change));
      })
      (record {
        nodes = (
          record {
            owned = ap (λ (k : ℕ → ℕ). k n.slot) owner ∙ own_here w.owner n.slot id;
            seated = subst (λ k. n.slot < k) (sym seats) theirs.seated;
            knows = subst (λ es. KnowsNode es n) (sym same) theirs.knows;
          },
          all_moved id nodes (λ is. two (sym is)) mine.nodes,
        );
        apart = (all_not id nodes (λ is. two (sym is)) mine.nodes, mine.apart);
        change = λ d is. subst (λ (d : ChangeView). FitsChange w' id d) (same_Some c' d is) (record { change = change ∙ (mine.change c refl).change; seats = seats'; entries = entries' });
      })
      seated

-- a place where another was written
elsewhere : (views : List View) (id other : ℕ) (v u : View) → ¬ (other ≡ id) → get_elem? (set views id v) other ≡ some u → get_elem? views other ≡ some u
elsewhere views id other v u two at = ⊎_elim (λ (x : (other ≡ id) × (v ≡ u)). absurd (two x.0)) (λ x. x.1) (at_set views id other v u at)

pub take_in_prolongs : (id : ℕ) (nodes : List NodeView) (c : ChangeView) (other : ℕ) (n : NodeView)
    → JoinProlongs id (of_change nodes c) other (of_node n) (with_seat (of_change nodes c) (of_node n)) nobody []
take_in_prolongs id nodes c other n t h at two at' =
    let w = h.trace in
    let mine = (h.views id (of_change nodes c) at).change c refl in
    let there = elsewhere t.views id other (with_seat (of_change nodes c) (of_node n)) (of_node n) two at' in
    joins id nodes c other n t h at two there c (record w { owner = own w.owner n.slot id }) refl refl refl refl
    (record { is_record = h.is_trace.is_record; unseated = h.is_trace.unseated }) mine.seats mine.entries [] (sym (append-nil w.moments))
    (joined w w.moments w.entries t.views id other nodes c c n two at there h.seated)

pub takes_seat : (id : ℕ) (nodes : List NodeView) (c : ChangeView) (other : ℕ) (n : NodeView)
    → Joins Holds id (of_change nodes c) other (of_node n) (with_seat (of_change nodes c) (of_node n)) nobody
takes_seat id nodes c other n t h at two at' = (take_in_prolongs id nodes c other n t h at two at').holds

pub sight_prolongs : (id : ℕ) (nodes : List NodeView) (c : ChangeView) (other : ℕ) (n : NodeView)
    → JoinProlongs id (of_change nodes c) other (of_node n) (with_sight (of_change nodes c) (of_node n)) nobody (entry (Sighted n.slot n.log) ∷ [])
sight_prolongs id nodes c other n t h at two at' =
    let w = h.trace in
    let x : Entry = Sighted n.slot n.log in
    let mine = (h.views id (of_change nodes c) at).change c refl in
    let there = elsewhere t.views id other (with_sight (of_change nodes c) (of_node n)) (of_node n) two at' in
    let theirs = (h.views other (of_node n) there).nodes.0 in
    let same = quiet_events w.moments x refl in
    joins id nodes c other n t h at two there (notes c x) (record w { owner = own w.owner n.slot id; moments = w.moments ++ entry x ∷ []; entries = w.entries ++ x ∷ [] }) refl refl refl same
    (record {
      is_record = seen_more w.entries w.moments x h.is_trace.is_record refl theirs.knows.log;
      unseated = λ m none_. ap (done_by m) same ∙ h.is_trace.unseated m none_;
    })
    mine.seats (ap (λ r. r ++ x ∷ []) mine.entries) (entry x ∷ []) refl
    (joined w (w.moments ++ entry x ∷ []) (w.entries ++ x ∷ []) t.views id other nodes c (notes c x) n two at there h.seated)

pub takes_sight : (id : ℕ) (nodes : List NodeView) (c : ChangeView) (other : ℕ) (n : NodeView)
    → Joins Holds id (of_change nodes c) other (of_node n) (with_sight (of_change nodes c) (of_node n)) nobody
takes_sight id nodes c other n t h at two at' = (sight_prolongs id nodes c other n t h at two at').holds

-- and given out again
pub give_out_prolongs : (id : ℕ) (n : NodeView) (nodes : List NodeView) (c : ChangeView)
    → SplitProlongs id (of_change (n ∷ nodes) c) (given_out (of_change (n ∷ nodes) c)) (seat_again (of_change (n ∷ nodes) c))
give_out_prolongs id n nodes c t h at =
    let w = h.trace in
    let fit = h.views id (of_change (n ∷ nodes) c) at in
    let mine = fit.change c refl in
    let new = length t.views in
    let w' : Trace = record w { owner = own w.owner n.slot new } in
    let node : (j : ℕ) (u : NodeView) → u.slot ≢ n.slot → FitsNode w j u → FitsNode w' j u =
    λ j u apart f. other_owner w n.slot new w.seats j u (omega arith) apart f in
    goes_on_parted t h w' refl id (of_change nodes c) (of_node n) t.homes
    (record { is_record = h.is_trace.is_record; unseated = h.is_trace.unseated })
    h.shows
    (λ j u apart there.
    let f = h.views j u there in
    record {
      nodes = all_into (FitsNode w j) (FitsNode w' j) u.nodes (λ k g. node j k (λ is. apart (sym g.owned ∙ ap w.owner is ∙ fit.nodes.0.owned)) g) f.nodes;
      apart = f.apart;
      change = λ d is. absurd (apart (sym (f.change d is).change ∙ mine.change));
    })
    (record {
      nodes = every_apart (FitsNode w id) (FitsNode w' id) (λ (u : NodeView). u.slot ≢ n.slot) nodes (node id) fit.apart.0 fit.nodes.1;
      apart = fit.apart.1;
      change = λ d is. subst (λ (d : ChangeView). FitsChange w' id d) (same_Some c d is) (record { change = mine.change; seats = mine.seats; entries = mine.entries });
    })
    (record {
      nodes = (record { owned = own_here w.owner n.slot new; seated = fit.nodes.0.seated; knows = fit.nodes.0.knows }, tt);
      apart = (tt, tt);
      change = λ d is. absurd (cc is);
    })
    (parted w w.seats t.views id (of_change (n ∷ nodes) c) (of_change nodes c) n at h.seated (among_rest n nodes) (λ so. so) (λ m _ below. below))

pub gives_back : (id : ℕ) (n : NodeView) (nodes : List NodeView) (c : ChangeView)
    → Splits Holds id (of_change (n ∷ nodes) c) (given_out (of_change (n ∷ nodes) c)) (seat_again (of_change (n ∷ nodes) c))
gives_back id n nodes c t h at = (give_out_prolongs id n nodes c t h at).holds

-- a node's seat is given on to a new seat, and nobody is left
pub leave_prolongs : (id : ℕ) (n : NodeView) → SplitProlongs id (of_node n) nobody (of_node n)
leave_prolongs id n t h at =
    let w = h.trace in
    let fit = h.views id (of_node n) at in
    let new = length t.views in
    let w' : Trace = record w { owner = own w.owner n.slot new } in
    goes_on_parted t h w' refl id nobody (of_node n) t.homes
    (record { is_record = h.is_trace.is_record; unseated = h.is_trace.unseated })
    h.shows
    (λ j u apart there.
    let f = h.views j u there in
    record {
      nodes = all_into (FitsNode w j) (FitsNode w' j) u.nodes
          (λ k g. other_owner w n.slot new w.seats j k (omega arith) (λ is. apart (sym g.owned ∙ ap w.owner is ∙ fit.nodes.0.owned)) g) f.nodes;
      apart = f.apart;
      change = λ d is. let c = f.change d is in record { change = c.change; seats = c.seats; entries = c.entries };
    })
    (record { nodes = tt; apart = tt; change = λ d is. absurd (cc is) })
    (record {
      nodes = (record { owned = own_here w.owner n.slot new; seated = fit.nodes.0.seated; knows = fit.nodes.0.knows }, tt);
      apart = (tt, tt);
      change = λ d is. absurd (cc is);
    })
    (parted w w.seats t.views id (of_node n) nobody n at h.seated (λ m apart among. absurd (false≢true (among_rest n [] m apart among))) (λ so. so) (λ m _ below. below))

pub leaves : (id : ℕ) (n : NodeView) → Splits Holds id (of_node n) nobody (of_node n)
leaves id n t h at = (leave_prolongs id n t h at).holds

-- ---- the beginning

count_of : (a b x y : ℕ) → length (replicate a x ++ replicate b y) ≡ a + b
count_of a b x y = length-append (replicate a x) (replicate b y) ∙ (λ i. length-replicate a x i + length-replicate b y i)

front_of : (a b x y p : ℕ) → p < a → slice_index (replicate a x ++ replicate b y) p ≡ x
front_of a b x y p few = get_or_append_left (replicate a x) (replicate b y) 0 p (subst (λ k. p < k) (sym (length-replicate a x)) few) ∙ get_or-replicate a p x 0 few

back_of : (a b x y n : ℕ) → n < b → slice_index (replicate a x ++ replicate b y) (a + n) ≡ y
back_of a b x y n few =
    ap (λ k. slice_index (replicate a x ++ replicate b y) (k + n)) (sym (length-replicate a x))
    ∙ get_or-append-add (replicate a x) (replicate b y) n 0 ∙ get_or-replicate b n y 0 few

first_shows : Shows first_words empty
first_shows = record {
  count = count_of MAX_PORTS MAX_NODES CLOSED 0;
  ports = λ p few. front_of MAX_PORTS MAX_NODES CLOSED 0 (port_place p) (place_below p few) ∙ sym (unmade_port empty well_formed_empty p (omega arith));
  slots = λ n few. back_of MAX_PORTS MAX_NODES CLOSED 0 n few;
}

pub opens : (h : Holds (opening first_words [] (of_change [] nothing_done))) × (h.trace.moments ≡ [])
opens = (
  record {
    trace = record { moments = []; entries = []; owner = λ n. 0; change = 0; seats = 0 };
    is_trace = record { is_record = record { record_is = refl; runs = tt; so = tt }; unseated = λ n none_. refl };
    shows = first_shows;
    views = one;
    seated = record { nodes = λ n few. absurd (omega (arith, few)); change = (of_change [] nothing_done, refl, refl) };
  },
  refl,
)
  where
    one : (id : ℕ) (v : View) → get_elem? (of_change [] nothing_done ∷ []) id ≡ some v → FitsView (record { moments = []; entries = []; owner = λ n. 0; change = 0; seats = 0 }) id v
    one zero v e = subst (FitsView (record { moments = []; entries = []; owner = λ n. 0; change = 0; seats = 0 }) 0) (some-injective (of_change [] nothing_done) v e)
        (record { nodes = tt; apart = tt; change = λ c is. subst (λ (c : ChangeView). FitsChange (record { moments = []; entries = []; owner = λ n. 0; change = 0; seats = 0 }) 0 c) (same_Some nothing_done c is) (record { change = refl; seats = refl; entries = refl }) })
    one (suc n) v e = absurd (some-ne-none v (sym e))

pub begins : Holds (opening first_words [] (of_change [] nothing_done))
begins = opens.0
