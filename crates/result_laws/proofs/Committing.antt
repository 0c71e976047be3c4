-- The makes of a commit from a row to a row, whatever stands beside.
use Rattle.std.proofs.Common.{◌≡◌, ◌∙◌, ℕ, ◌+◌, ◌<◌, true, List, [], ◌∷◌, ◌++◌, append_assoc, length, map, Option, Some, None, refl, sym, ap, subst, arith, ⊎_elim}
use Rattle.std.specs.Prelude.{All, Contains, option_map, slice_get, unwrap_or}
use Rattle.std.specs.List.{range_with_len}
use Rattle.std.proofs.lemmas.Bool.{both_ways, true_from_ne_false}
use Rattle.std.proofs.lemmas.Option.{same_Some}
use Rattle.std.proofs.lemmas.List.{append-nil}
use Rattle.std.proofs.lemmas.List.Elements.{All-contains}
use Rattle.base.specs.Each.{Each, EachAfter}
use Rattle.base.proofs.ContainsLaws.{Contains-cons_cases, Contains-from_filter, Contains-here, Contains-nil, Contains-there}
use Rattle.base.proofs.EachLaws.{each_at, each_joined}
use Rattle.base.proofs.RangeLaws.{range_below}
use Rattle.base.proofs.OptionLaws.{option_map_some}
use Rattle.config_graph.specs.Graph.{Graph}
use Rattle.config_graph.specs.declared.kind.Kind.{Kind}
use Rattle.config_graph.specs.declared.kind.Kind.TheVariants.{Fork, Sink, Source}
use Rattle.config_graph.specs.declared.node.Node.{Node}
use Rattle.quiesce_laws.specs.Commits.{Differ}
use Rattle.quiesce_laws.proofs.MemberLaws.{contains_in}
use Rattle.quiesce_laws.specs.Lists.{Apart}
use Rattle.quiesce_laws.specs.Steps.{change_all}
use Rattle.quiesce_laws.specs.Work.{NewNode, Work, link_new, make_new, work_of}
use Rattle.change_plan.specs.Differences.{IsGone}
use Rattle.change_plan.specs.Plans.{IsPlanOf}
use Rattle.change_plan.specs.declared.plan_data.Move.{Move}
use Rattle.change_plan.specs.declared.plan_data.Plan.{Plan}
use Rattle.change_plan.proofs.SelectsLaws.{Selects-only}
use Rattle.change_plan_laws.specs.Commit.{commit_events, is_unlinked_by, makes_from, new_links, node_at, reopened_ports, source_of, work}
use Rattle.change_plan_laws.proofs.RisingLaws.{selects_apart}
use Rattle.quiesce_core.specs.Alters.{Reconfigures}
use Rattle.quiesce_core.specs.Doers.{is_make}
use Rattle.quiesce_core.specs.Live.{IsGraphOf}
use Rattle.quiesce_core.specs.Rules.{is_kind}
use Rattle.quiesce_core.specs.Runs.{IsRun, state_after}
use Rattle.quiesce_core.specs.State.{Configuration}
use Rattle.quiesce_core.specs.declared.event.Event.{Event}
use Rattle.quiesce_core.specs.declared.event.Event.TheVariants as event
use Rattle.quiesce_core.proofs.AlterLaws.{ports_grow}
use Rattle.quiesce_core.proofs.RunLaws.{fronts_are_runs, nodes_are_named}
use Rattle.change_round_laws.specs.SoundStatements.{IsSoundGraph}
use Rattle.result_laws.specs.Keeping.{KeepsEnds, KeepsOrMoves}
use Rattle.result_laws.specs.Describing.{kind_at}
use Rattle.result_laws.specs.Rows.{IsRow, is_of_row}
use Rattle.result_laws.proofs.Ends.{IsMadeWell, OneEach, each_is_last, is_reopen, last_made, same_sink, same_source, touched}
use Rattle.result_laws.proofs.Making.{OnceFrom, Well, last_calm, makeless_well, makes_well, none_map, one_sink_at, one_source_at, some_touches, stays_touched}
use Rattle.result_laws.proofs.Rising.{stand_of}
use Rattle.result_laws.proofs.RowSlots.{port_on, row_port, row_slot, slot_on, slots_along}
use Rattle.result_laws.proofs.Takings.{none_created, takes_from}

module _ (old new : Graph) (plan : Plan) (c : Configuration) where
  made_place : (n : ℕ) (js : List ℕ) (m : NewNode) → Contains (makes_from old new plan c n js) m → (j : ℕ) × Contains js j × (m.node ≡ node_at new j)
  made_place n [] m there = absurd (Contains-nil m there)
  made_place n (j ∷ js) m there = ⊎_elim
      (λ (here : m ≡ record { slot = n; node = node_at new j; from = source_of old plan c j }). (j, Contains-here j js, ap (λ (x : NewNode). x.node) here))
      (λ (later : Contains (makes_from old new plan c (n + 1) js) m). let w = made_place (n + 1) js m later in (w.0, Contains-there j w.0 js w.1, w.2))
      (Contains-cons_cases (record { slot = n; node = node_at new j; from = source_of old plan c j }) (makes_from old new plan c (n + 1) js) m there)

module _ (old new : Graph) (plan : Plan) (c : Configuration) (k : Kind) (one : (i j : ℕ) → kind_at new i ≡ Some k → kind_at new j ≡ Some k → i ≡ j) where
  kind_of : (j : ℕ) → IsGone new old j → (node_at new j).kind ≡ k → kind_at new j ≡ Some k
  kind_of j gone kind =
      ap (option_map (λ (n : Node). n.kind)) gone.here ∙ ap Some (sym (ap (λ o. (unwrap_or {T = Node} o (record { path = []; kind = Fork; arg = None })).kind) gone.here) ∙ kind)

  create_once : (o : Option ℕ) (n : ℕ) (js : List ℕ) → Apart Differ js → ((j : ℕ) → Contains js j → IsGone new old j) → ((j : ℕ) → Contains js j → kind_at new j ≡ Some k → source_of old plan c j ≡ o) → OnceFrom k o (makes_from old new plan c n js)
  create_once o n [] apart gone takes = tt
  create_once o n (j ∷ js) apart gone takes = (
    λ kind.
        let here = kind_of j (gone j (Contains-here j js)) kind in (
          takes j (Contains-here j js) here,
          λ m there kind'.
              let w = made_place old new plan c (n + 1) js m there in
              apart.0 w.0 (contains_in js w.0 w.1) (one w.0 j (kind_of w.0 (gone w.0 (Contains-there j w.0 js w.1)) (sym (ap (λ (x : Node). x.kind) w.2) ∙ kind')) here),
        ),
    create_once o (n + 1) js apart.1 (λ i there. gone i (Contains-there j i js there)) (λ i there. takes i (Contains-there j i js there)),
  )

module _ (es : List Event) (run : IsRun es) (each : Each Well es) (old new : Graph) (moves : List Move) (plan : Plan) (sound_old : IsSoundGraph old) (sound_new : IsSoundGraph new) (is : IsGraphOf (state_after es).config old)
    (is_plan : IsPlanOf old new moves plan) (r : IsRow old) (q : IsRow new) (keeps : KeepsEnds old new moves) where
  gone_there : (j : ℕ) → Contains plan.create j → IsGone new old j
  gone_there j there = let a = Selects-only (IsGone new old) (range_with_len 0 (length new.nodes)) plan.create is_plan.steps.create in all_contains a j there
    where
      all_contains : All (IsGone new old) plan.create → (j : ℕ) → Contains plan.create j → IsGone new old j
      all_contains a j there = subst (IsGone new old) there.2 (a there.0 j there.1)

  once : (k : Kind) → OneEach k es → ((i j : ℕ) → kind_at new i ≡ Some k → kind_at new j ≡ Some k → i ≡ j) → KeepsOrMoves k old new moves → (i : ℕ) → kind_at old i ≡ Some k
      → OnceFrom k (last_made k es) (work old new plan (state_after es).config).makes
  once k one_each one keep i here =
      let c = (state_after es).config in
      let n = option_map_some (λ (x : Node). x.kind) (slice_get old.nodes i) k here in
      let at = stand_of c old is i n.0 n.1 in
      let kind : at.1.made.node.kind ≡ k = same_Some at.1.made.node.kind k (sym (ap (option_map (λ (x : Node). x.kind)) at.1.stands) ∙ here) in
      let last_ = one_each at.0 at.1.made at.1.there at.1.live kind in
      create_once old new plan c k one (last_made k es) (length c.slots) plan.create (selects_apart (IsGone new old) (length new.nodes) plan.create is_plan.steps.create) gone_there
      (λ j there kind'. takes_from c old new sound_old sound_new is moves plan is_plan (nodes_are_named es run) k keep i j at.0 here kind' (gone_there j there) at.1 ∙ sym last_)

  one_of : (k : Kind) → ((j : Kind) → is_kind j k ≡ true → j ≡ k) → ((before after : List Event) (n : ℕ) (node : Node) (from : Option ℕ) → es ≡ before ++ event.Make n node from ∷ after → node.kind ≡ k → from ≡ last_made k before) → OneEach k es
  one_of k same takes = each_is_last k same es run takes es [] (sym (append-nil es))

  well_at : (before after : List Event) (n : ℕ) (node : Node) (from : Option ℕ) → es ≡ before ++ event.Make n node from ∷ after → IsMadeWell before node from
  well_at before after n node from parts = each_at Well before after (event.Make n node from) (subst (Each Well) parts each)

  abbrev w : Work
  w = work old new plan (state_after es).config

  abbrev links : List Event
  links = map link_new (new_links new plan (change_all (state_after es).config (work_of (work old new plan (state_after es).config))))

  abbrev reopens : List Event
  reopens = map event.Reopen (reopened_ports old new plan (state_after es).config)

  -- the events up to a place of the commit
  front : (xs ys : List Event) → IsRun (es ++ (xs ++ ys)) → IsRun (es ++ xs)
  front xs ys goes = fronts_are_runs (es ++ xs) ys (subst IsRun (sym (append_assoc es xs ys)) goes)

  pub commit_well : IsRun (es ++ commit_events old new plan (state_after es).config) → EachAfter Well es (commit_events old new plan (state_after es).config)
  commit_well goes =
      each_joined Well es (work_of w ++ links) reopens
      (each_joined Well es (work_of w) links
      (each_joined Well es (map event.Unlink w.unlinks) (map event.Remove w.removes ++ map make_new w.makes) (makeless_well es (map event.Unlink w.unlinks) (none_map is_make event.Unlink (λ x. refl) w.unlinks))
      (each_joined Well (es ++ map event.Unlink w.unlinks) (map event.Remove w.removes) (map make_new w.makes)
      (makeless_well (es ++ map event.Unlink w.unlinks) (map event.Remove w.removes) (none_map is_make event.Remove (λ x. refl) w.removes))
      (makes_well ((es ++ map event.Unlink w.unlinks) ++ map event.Remove w.removes) w.makes behind
      (on Source (once Source one_source (λ i j a b. one_source_at new q i a ∙ sym (one_source_at new q j b)) keeps.source r.source r.is_source))
      (on Sink (once Sink one_sink (λ i j a b. one_sink_at new q i a ∙ sym (one_sink_at new q j b)) keeps.sink r.sink r.is_sink)))))
      (makeless_well (es ++ work_of w) links (none_map is_make link_new (λ x. refl) (new_links new plan (change_all (state_after es).config (work_of w))))))
      (makeless_well (es ++ (work_of w ++ links)) reopens (none_map is_make event.Reopen (λ x. refl) (reopened_ports old new plan (state_after es).config)))
    where
      one_source : OneEach Source es
      one_source = one_of Source same_source (λ before after n node from parts kind. (well_at before after n node from parts).source kind)

      one_sink : OneEach Sink es
      one_sink = one_of Sink same_sink (λ before after n node from parts kind. (well_at before after n node from parts).sink kind)

      on : (k : Kind) → OnceFrom k (last_made k es) w.makes → OnceFrom k (last_made k ((es ++ map event.Unlink w.unlinks) ++ map event.Remove w.removes)) w.makes
      on k h = subst (λ o. OnceFrom k o w.makes)
          (sym (last_calm k (es ++ map event.Unlink w.unlinks) (map event.Remove w.removes) (none_map is_make event.Remove (λ x. refl) w.removes) ∙ last_calm k es (map event.Unlink w.unlinks) (none_map is_make event.Unlink (λ x. refl) w.unlinks))) h

      worked : IsRun (es ++ work_of w)
      worked = front (work_of w) links (front (work_of w ++ links) reopens goes)

      unlinked : IsRun (es ++ map event.Unlink w.unlinks)
      unlinked = front (map event.Unlink w.unlinks) (map event.Remove w.removes ++ map make_new w.makes) worked

      removed : IsRun ((es ++ map event.Unlink w.unlinks) ++ map event.Remove w.removes)
      removed =
          let us = map event.Unlink w.unlinks in
          let rs = map event.Remove w.removes in
          let ms = map make_new w.makes in
          fronts_are_runs ((es ++ us) ++ rs) ms (subst IsRun (sym (append_assoc es us (rs ++ ms)) ∙ sym (append_assoc (es ++ us) rs ms)) worked)

      -- the makes of the row stand behind what touched it
      touched_by_unlink : (p : ℕ) → Contains w.unlinks p → row_port (state_after es).config p ≡ true → touched ((es ++ map event.Unlink w.unlinks) ++ map event.Remove w.removes) ≡ true
      touched_by_unlink p there of_row =
          stays_touched (es ++ map event.Unlink w.unlinks) (map event.Remove w.removes) (none_map is_reopen event.Remove (λ x. refl) w.removes)
          (some_touches event.Unlink (λ d x. (row_port d x ≡ true) × (x < length d.gates)) (λ d x s. s.0) (λ x. refl) port_goes es w.unlinks unlinked p there (of_row, unlink_made p there))
        where
          port_goes : (c d : Configuration) (e : Event) → Reconfigures c e d → (x : ℕ) → (row_port c x ≡ true) × (x < length c.gates) → (row_port d x ≡ true) × (x < length d.gates)
          port_goes c d e r x s = (port_on c d e r x s.1 s.0, (let long = r.ports in let more_ = ports_grow c e in let low = s.1 in omega (arith, long, more_, low)))

          unlink_made : (p : ℕ) → Contains w.unlinks p → p < length (state_after es).config.gates
          unlink_made p there = let n = length (state_after es).config.gates in All-contains (λ i. i < n) (range_with_len 0 n) p (range_below n n refl) (Contains-from_filter (is_unlinked_by old plan (state_after es).config) (range_with_len 0 n) p there).0

      touched_by_removal : (n : ℕ) → Contains w.removes n → row_slot (state_after es).config n ≡ true → touched ((es ++ map event.Unlink w.unlinks) ++ map event.Remove w.removes) ≡ true
      touched_by_removal n there of_row =
          some_touches event.Remove (λ d x. row_slot d x ≡ true) (λ d x s. s) (λ x. refl) slot_on (es ++ map event.Unlink w.unlinks) w.removes removed n there
          (slots_along es (map event.Unlink w.unlinks) unlinked n of_row)

      behind : (m : NewNode) → Contains w.makes m → is_of_row m.node.kind ≡ true → touched ((es ++ map event.Unlink w.unlinks) ++ map event.Remove w.removes) ≡ true
      behind m there of_row = true_from_ne_false (touched ((es ++ map event.Unlink w.unlinks) ++ map event.Remove w.removes)) (λ calm.
          let made = made_place old new plan (state_after es).config (length (state_after es).config.slots) plan.create m there in
          let gone = gone_there made.0 made.1 in
          let kind : gone.node.kind ≡ m.node.kind = ap (λ o. (unwrap_or {T = Node} o (record { path = []; kind = Fork; arg = None })).kind) (sym gone.here) ∙ sym (ap (λ (x : Node). x.kind) made.2) in
          none_created (state_after es).config old new sound_old sound_new is moves plan is_plan r q
          (λ p at of_port. both_ways (touched ((es ++ map event.Unlink w.unlinks) ++ map event.Remove w.removes)) calm (touched_by_unlink p at of_port))
          (λ n at of_slot. both_ways (touched ((es ++ map event.Unlink w.unlinks) ++ map event.Remove w.removes)) calm (touched_by_removal n at of_slot)) made.0 gone (ap is_of_row kind ∙ of_row))
