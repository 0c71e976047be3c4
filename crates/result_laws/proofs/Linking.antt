-- Each node that is made is one of a described graph, and each link joins kinds that links of described graphs join.
use Rattle.std.proofs.Common.{◌≡◌, ◌∙◌, ℕ, Bool, true, false, cond, List, [], ◌∷◌, ◌++◌, append_assoc, length, Option, Some, None, refl, sym, ap, subst, ⊎_elim}
use Rattle.std.specs.Prelude.{All, Contains, nat_lt, option_map, slice_get}
use Rattle.std.specs.List.{cons_option}
use Rattle.std.specs.Option.{option_map_or}
use Rattle.std.proofs.lemmas.Bool.{and_parts, both_ways, cases_eq, eq-eqb, ltb-true, ne_eqb}
use Rattle.std.proofs.lemmas.List.{append-nil}
use Rattle.std.proofs.lemmas.List.Elements.{All-head}
use Rattle.std.proofs.lemmas.Option.{none-some, same_Some}
use Rattle.base.proofs.ContainsLaws.{at_some_place}
use Rattle.base.proofs.OptionLaws.{map_or_true}
use Rattle.config_graph.specs.Cycles.{IsLinked}
use Rattle.config_graph.specs.Graph.{Graph}
use Rattle.config_graph.specs.declared.kind.Kind.{Kind}
use Rattle.config_graph.specs.declared.node.Node.{Node}
use Rattle.config_graph.specs.declared.node.Target.{Target}
use Rattle.quiesce_core.specs.Alters.{Reconfigures}
use Rattle.quiesce_core.specs.Doers.{is_of_change, relinks}
use Rattle.quiesce_core.specs.Effect.{effect}
use Rattle.quiesce_core.specs.Legal.{Legal}
use Rattle.quiesce_core.specs.Live.{IsGraphOf, StandsAt}
use Rattle.quiesce_core.specs.Runs.{IsRun, state_after}
use Rattle.quiesce_core.specs.State.{Configuration, State, gate, is_live, owner, provides, slot, target}
use Rattle.quiesce_core.specs.declared.event.Event.{Event}
use Rattle.quiesce_core.specs.declared.event.Event.TheVariants as event
use Rattle.quiesce_core.specs.declared.state.Slot.{Slot}
use Rattle.quiesce_core.proofs.AlterLaws.{reconfigured}
use Rattle.quiesce_core.proofs.ConfigurationLaws.{linked_made, owner_kept, slots_stay, target_kept, target_linked, target_unlinked}
use Rattle.quiesce_core.proofs.InductionLaws.{IsNext, place}
use Rattle.quiesce_core.proofs.LiveLinkLaws.{linked_at}
use Rattle.report_types.specs.declared.report.HistoryLine.{HistoryLine}
use Rattle.report_types.specs.declared.report.HistoryLine.TheVariants as to
use Rattle.report_types.specs.declared.report.Report.{Report}
use Rattle.change_spec.specs.Lawful.{IsOfItsKind, Lawful}
use Rattle.change_spec.specs.Members.{Member, by_node, event_in, event_of, events, of_history}
use Rattle.change_spec.specs.Statements.{Statement}
use Rattle.change_spec.proofs.MemberLaws.{events_parts}
use Rattle.result_laws.specs.Describing.{Describes}
use Rattle.result_laws.proofs.ComingLaws.{stays}
use Rattle.result_laws.proofs.PlacedLaws.{Placed, placed}
pub use Rattle.result_laws.specs.Describing.{LinksAre}
use Rattle.result_laws.proofs.Committed.{committed, history_committed}
use Rattle.result_laws.proofs.Standing.{ToBe, is_put_line, to_be}
use Rattle.base.proofs.ListLaws.{all_parts}

abbrev pub AllLinked : (Kind → Kind → Bool) → Configuration → Type 0
AllLinked test c = (p : ℕ) (t : Target) (a b : Slot) → target c p ≡ Some t → slot c (owner c p) ≡ Some a → slot c t.node ≡ Some b → test a.node.kind b.node.kind ≡ true

-- the live node in a slot has a place in the graph
live_stands : (c : Configuration) (g : Graph) → IsGraphOf c g → (n : ℕ) (m : Slot) → slot c n ≡ Some m → m.live ≡ true → (i : ℕ) × StandsAt c g.nodes n i
live_stands c g is n m there live =
    let listed = at_some_place g.nodes m.node ((is.nodes_are m.node).1 (n, record { made = m; there = there; live = live; is_node = refl })) in
    (listed.0, record { made = m; there = there; live = live; stands = listed.1 })

-- ---- where an event puts something

abbrev pub is_put_event : Event → Bool
is_put_event (event.Make n made from) = true
is_put_event (event.Link p n x) = true
is_put_event _ = false

put_of_line : (l : HistoryLine) (e : Event) → event_of l ≡ Some e → is_put_event e ≡ true → is_put_line l ≡ true
put_of_line (to.Make n made from) e is h = refl
put_of_line (to.Link p n x) e is h = refl
put_of_line (to.Unlink p) e is h = absurd (both_ways false refl (ap is_put_event (same_Some (event.Unlink p) e is) ∙ h))
put_of_line (to.Remove n) e is h = absurd (both_ways false refl (ap is_put_event (same_Some (event.Remove n) e is) ∙ h))
put_of_line (to.Close p) e is h = absurd (both_ways false refl (ap is_put_event (same_Some (event.Close p) e is) ∙ h))
put_of_line (to.Reopen p) e is h = absurd (both_ways false refl (ap is_put_event (same_Some (event.Reopen p) e is) ∙ h))
put_of_line _ e is h = absurd (none-some e is)

put_of_change : (e : Event) → is_put_event e ≡ true → is_of_change e ≡ true
put_of_change (event.Make n made from) h = refl
put_of_change (event.Link p n x) h = refl
put_of_change _ h = absurd (both_ways false refl h)

module _ (statements : List Statement) (report : Report) (l : Lawful statements report) (P : Graph → Type 0) (all : All (Describes P) statements) where
  abbrev m : List Member
  m = l.members

  put_at : (before after : List Event) (e : Event) → events m ≡ before ++ e ∷ after → is_put_event e ≡ true → ToBe P (state_after (before ++ e ∷ [])).config
  put_at before after e parts put = by w.member refl w.is
    where
      w : Placed l.members before e
      w = placed l.members before after e parts

      by : (x : Member) → w.member ≡ x → event_in x ≡ Some e → ToBe P (state_after (before ++ e ∷ [])).config
      by (by_node z) is h =
          let kinds = all_parts IsOfItsKind w.front (w.member ∷ w.back) (subst (All IsOfItsKind) w.parts l.by_them.merge.by_nodes) in
          let own : is_of_change z ≡ false = subst IsOfItsKind is (All-head IsOfItsKind w.member w.back kinds.1) in
          absurd (both_ways (is_of_change z) own (ap is_of_change (same_Some z e h) ∙ put_of_change e put))
      by (of_history y) is h =
          subst (λ xs. ToBe P (state_after xs).config)
          (events_parts w.front (of_history y ∷ []) ∙ (λ i. w.events_are i ++ cons_option (h i) []))
          (to_be statements P all l.members l.by_them.runs l.by_them.merge.by_nodes l.by_them.graphs (ap committed l.by_them.merge.history ∙ history_committed statements report.history l.follows) w.front w.back y
          (w.parts ∙ ap (λ x. w.front ++ x ∷ w.back) is) (put_of_line y e h put))

  -- a node that is made is one of a graph that is described
  pub made_in_graph : (before after : List Event) (k : ℕ) (made : Node) (from : Option ℕ) → events m ≡ before ++ event.Make k made from ∷ after → (g : Graph) × P g × Contains g.nodes made
  made_in_graph before after k made from parts =
      let e = event.Make k made from in
      let w = put_at before after e parts refl in
      let here = place before after e (subst IsRun parts l.by_them.runs) in
      let c = (state_after before).config in
      let new_one : Slot = record { node = made; first_port = length c.gates; from = from; live = true } in
      let there : slot (state_after (before ++ e ∷ [])).config (length c.slots) ≡ Some new_one =
      ap (λ (s : State). slot s.config (length c.slots)) here.next ∙ (reconfigured (state_after before) e here.legal).slots (length c.slots)
      ∙ ap (λ b. cond b (Some new_one) (slot c (length c.slots))) (eq-eqb (length c.slots) (length c.slots) refl) in
      (w.graph, w.has, (w.is_graph.nodes_are made).1 (length c.slots, record { made = new_one; there = w.stands.slots (length c.slots) new_one there; live = refl; is_node = refl }))

  -- ---- links

  module _ (test : Kind → Kind → Bool) (tests : (g : Graph) → P g → LinksAre test g) where
    -- a new link
    linked_well : (before after : List Event) (p n x : ℕ) → events m ≡ before ++ event.Link p n x ∷ after → (a b : Slot) → slot (state_after before).config (owner (state_after before).config p) ≡ Some a → slot (state_after before).config n ≡ Some b → test a.node.kind b.node.kind ≡ true
    linked_well before after p n x parts a b at_a at_b =
        let e = event.Link p n x in
        let w = put_at before after e parts refl in
        let here = place before after e (subst IsRun parts l.by_them.runs) in
        let s = state_after before in
        let d = (effect s e).config in
        let r = reconfigured s e here.legal in
        let same : (state_after (before ++ e ∷ [])).config ≡ d = ap (λ (t : State). t.config) here.next in
        let live_port = and_parts (nat_lt p (length s.config.gates)) (is_live s.config (owner s.config p)) here.legal.live in
        let low = ltb-true p (length s.config.gates) live_port.0 in
        let owns : owner d p ≡ owner s.config p = owner_kept s.config d e r p low in
        let a_lives : a.live ≡ true = of_live s.config (owner s.config p) a at_a live_port.1 in
        let b_lives : b.live ≡ true = of_live s.config n b at_b (and_parts (is_live s.config n) (nat_lt x (provides s.config n)) here.legal.provision).0 in
        let a_then : slot (state_after (before ++ e ∷ [])).config (owner s.config p) ≡ Some a = ap (λ c. slot c (owner s.config p)) same ∙ slots_stay s.config d e r refl refl (owner s.config p) ∙ at_a in
        let b_then : slot (state_after (before ++ e ∷ [])).config n ≡ Some b = ap (λ c. slot c n) same ∙ slots_stay s.config d e r refl refl n ∙ at_b in
        let leads : target (state_after (before ++ e ∷ [])).config p ≡ Some (record { node = n; provide = x }) =
        ap (λ c. target c p) same ∙ target_linked s.config d p n x r p ∙ ap (λ b. cond b (Some (record { node = n; provide = x })) (target s.config p)) (eq-eqb p p refl) in
        let t = w.then_ in
        let low_then = linked_made (state_after (before ++ e ∷ [])).config p (record { node = n; provide = x }) leads in
        let owner_then : owner t p ≡ owner s.config p = (w.stands.owners p low_then).0 ∙ ap (λ c. owner c p) same ∙ owns in
        let from = live_stands t w.graph w.is_graph (owner t p) a (ap (slot t) owner_then ∙ w.stands.slots (owner s.config p) a a_then) a_lives in
        let into = live_stands t w.graph w.is_graph n b (w.stands.slots n b b_then) b_lives in
        let linked : IsLinked w.graph from.0 (gate t p).require into.0 x =
        (w.is_graph.links_are from.0 (gate t p).require into.0 x).1 ((linked_at t w.graph.nodes from.0 (gate t p).require into.0 x).0
        (record { port = p; to = n; leads = w.stands.targets p (record { node = n; provide = x }) leads; requirement = refl; from_there = from.1; to_there = into.1 })) in
        tests w.graph w.has from.0 (gate t p).require into.0 x a.node.kind b.node.kind linked (ap (option_map (λ (y : Node). y.kind)) (kind_so t w.graph (owner t p) from.0 a (ap (slot t) owner_then ∙ w.stands.slots (owner s.config p) a a_then) from.1))
        (ap (option_map (λ (y : Node). y.kind)) (kind_so t w.graph n into.0 b (w.stands.slots n b b_then) into.1))
      where
        of_live : (c : Configuration) (n : ℕ) (m : Slot) → slot c n ≡ Some m → is_live c n ≡ true → m.live ≡ true
        of_live c n m at h = sym (ap (λ o. option_map_or (λ (y : Slot). y.live) o false) at) ∙ h

        kind_so : (c : Configuration) (g : Graph) (n i : ℕ) (m : Slot) → slot c n ≡ Some m → (a : StandsAt c g.nodes n i) → slice_get g.nodes i ≡ Some m.node
        kind_so c g n i m at a = a.stands ∙ ap (λ (y : Slot). Some y.node) (same_Some a.made m (sym a.there ∙ at))

    linked_next : (before after : List Event) (e : Event) → events m ≡ before ++ e ∷ after → AllLinked test (state_after before).config → AllLinked test (state_after (before ++ e ∷ [])).config
    linked_next before after e parts old p t a b leads at_a at_b = by e refl (sym (ap (λ (y : State). target y.config p) here.next) ∙ leads)
      where
        here : IsNext before e
        here = place before after e (subst IsRun parts l.by_them.runs)

        r : Reconfigures (state_after before).config e (effect (state_after before) e).config
        r = reconfigured (state_after before) e here.legal

        same_node : (n : ℕ) (old_ new_ : Slot) → slot (state_after before).config n ≡ Some old_ → slot (state_after (before ++ e ∷ [])).config n ≡ Some new_ → new_.node ≡ old_.node
        same_node n old_ new_ at_old at_new =
            let w = stays (state_after before).config (effect (state_after before) e).config e r n old_ at_old in
            ap (λ (y : Slot). y.node) (same_Some new_ w.then_ (sym at_new ∙ ap (λ (y : State). slot y.config n) here.next ∙ w.there)) ∙ w.node

        -- a link that was there
        kept : target (state_after before).config p ≡ Some t → test a.node.kind b.node.kind ≡ true
        kept was =
            let c = (state_after before).config in
            let low = linked_made c p t was in
            let own = here.well.sound.ports p low in
            let live = map_or_true (λ (y : Slot). y.live) (slot c t.node) (here.well.sound.targets p t was).live in
            let owns : owner (state_after (before ++ e ∷ [])).config p ≡ owner c p = ap (λ (y : State). owner y.config p) here.next ∙ owner_kept c (effect (state_after before) e).config e r p low in
            let first = same_node (owner c p) own.node a own.made (ap (slot (state_after (before ++ e ∷ [])).config) (sym owns) ∙ at_a) in
            let second = same_node t.node live.0 b live.1 at_b in
            (λ i. test (first i).kind (second i).kind) ∙ old p t own.node live.0 was own.made live.1

        -- and one that is made
        fresh : (n x : ℕ) → e ≡ event.Link p n x → t ≡ record { node = n; provide = x } → test a.node.kind b.node.kind ≡ true
        fresh n x is to_ =
            let c = (state_after before).config in
            let l' = subst (Legal (state_after before)) is here.legal in
            let live_port = and_parts (nat_lt p (length c.gates)) (is_live c (owner c p)) l'.live in
            let low = ltb-true p (length c.gates) live_port.0 in
            let own = here.well.sound.ports p low in
            let live = map_or_true (λ (y : Slot). y.live) (slot c n) (and_parts (is_live c n) (nat_lt x (provides c n)) l'.provision).0 in
            let owns : owner (state_after (before ++ e ∷ [])).config p ≡ owner c p = ap (λ (y : State). owner y.config p) here.next ∙ owner_kept c (effect (state_after before) e).config e r p low in
            let first = same_node (owner c p) own.node a own.made (ap (slot (state_after (before ++ e ∷ [])).config) (sym owns) ∙ at_a) in
            let second = same_node n live.0 b live.1 (ap (λ (y : Target). slot (state_after (before ++ e ∷ [])).config y.node) (sym to_) ∙ at_b) in
            (λ i. test (first i).kind (second i).kind) ∙ linked_well before after p n x (parts ∙ ap (λ z. before ++ z ∷ after) is) own.node live.0 own.made live.1

        calm : relinks p e ≡ false → target (effect (state_after before) e).config p ≡ Some t → test a.node.kind b.node.kind ≡ true
        calm none_ h = kept (sym (target_kept (state_after before).config (effect (state_after before) e).config e r p none_) ∙ h)

        by : (z : Event) → e ≡ z → target (effect (state_after before) e).config p ≡ Some t → test a.node.kind b.node.kind ≡ true
        by (event.Link q n x) at h = ⊎_elim
            (λ (same : q ≡ p).
            fresh n x (at ∙ ap (λ i. event.Link i n x) same)
            (sym (same_Some (record { node = n; provide = x }) t (sym (ap (λ b. cond b (Some (record { node = n; provide = x })) (target (state_after before).config p)) (eq-eqb q p same))
            ∙ sym (target_linked (state_after before).config (effect (state_after before) e).config q n x (subst (λ y. Reconfigures (state_after before).config y (effect (state_after before) e).config) at r) p) ∙ h))))
            (λ (other : q ≡ p → ⊥). calm (ap (relinks p) at ∙ ne_eqb q p other) h)
            (cases_eq q p)
        by (event.Unlink q) at h = ⊎_elim
            (λ (same : q ≡ p). absurd (none-some t (sym (ap (λ b. cond b None (target (state_after before).config p)) (eq-eqb q p same))
            ∙ sym (target_unlinked (state_after before).config (effect (state_after before) e).config q (subst (λ y. Reconfigures (state_after before).config y (effect (state_after before) e).config) at r) p) ∙ h)))
            (λ (other : q ≡ p → ⊥). calm (ap (relinks p) at ∙ ne_eqb q p other) h)
            (cases_eq q p)
        by _ at h = calm (ap (relinks p) at) h

    linked_from : (done_ rest : List Event) → events m ≡ done_ ++ rest → AllLinked test (state_after done_).config → (before after : List Event) → rest ≡ before ++ after → AllLinked test (state_after (done_ ++ before)).config
    linked_from done_ rest parts old [] after is = subst (λ xs. AllLinked test (state_after xs).config) (sym (append-nil done_)) old
    linked_from done_ rest parts old (e ∷ before) after is =
        let parts' : events m ≡ done_ ++ e ∷ (before ++ after) = parts ∙ ap (λ xs. done_ ++ xs) is in
        subst (λ xs. AllLinked test (state_after xs).config) (append_assoc done_ (e ∷ []) before)
        (linked_from (done_ ++ e ∷ []) (before ++ after) (parts' ∙ sym (append_assoc done_ (e ∷ []) (before ++ after))) (linked_next done_ (before ++ after) e parts' old) before after refl)

    pub all_linked : (before after : List Event) → events m ≡ before ++ after → AllLinked test (state_after before).config
    all_linked before after parts = linked_from [] (events m) refl (λ p t a b leads at_a at_b. absurd (cc at_a)) before after parts
