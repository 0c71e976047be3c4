-- Ports that are open or busy lead to accounts, from branches, to branches whose own ports lead to accounts, or out of the
-- bank.
use Rattle.std.proofs.Common.{◌≡◌, ◌∙◌, ℕ, ◌+◌, Bool, true, false, cond, length, Some, None, refl, sym, ap, subst, arith, inl, inr, ⊎_elim}
use Rattle.std.specs.Prelude.{◌⊎◌, ◌==◌, ◌&&◌, nat_le, nat_lt, option_map}
use Rattle.std.specs.Option.{option_map_or}
use Rattle.std.proofs.lemmas.Bool.{and_parts, both_ways, cases_Bool, eqb-true, ltb-true, not-true}
use Rattle.std.proofs.lemmas.Option.{same_Some}
use Rattle.base.proofs.ContainsLaws.{at_some_place}
use Rattle.base.proofs.OptionLaws.{map_or_true}
use Rattle.config_graph.specs.Graph.{Graph}
use Rattle.config_graph.specs.Kinds.{row}
use Rattle.config_graph.specs.Wiring.{direct}
use Rattle.config_graph.specs.declared.kind.Kind.{Kind}
use Rattle.config_graph.specs.declared.kind.Kind.TheVariants.{Philosopher, Place, Fork, Source, Map, Buffer, Sink, Teller, Branch, Account, Asker, Adder}
use Rattle.config_graph.specs.declared.node.Node.{Node}
use Rattle.config_graph.specs.declared.node.Target.{Target}
use Rattle.component_trait.specs.States.{NodeState}
use Rattle.quiesce_word.specs.Phases.{is_idle}
use Rattle.quiesce_core.specs.Alters.{exchange_next, gate_next}
use Rattle.quiesce_core.specs.Doers.{is_of_change, relinks}
use Rattle.quiesce_core.specs.Effect.{effect}
use Rattle.quiesce_core.specs.Legal.{Legal}
use Rattle.quiesce_core.specs.Live.{IsGraphOf, StandsAt}
use Rattle.quiesce_core.specs.Named.{AreNamed}
use Rattle.quiesce_core.specs.Rules.{is_live_port, is_settled}
use Rattle.quiesce_core.specs.Reach.{IsPortOf}
use Rattle.quiesce_core.specs.State.{Configuration, State, depends, exchange, gate, is_live, owner, provides, provision, service, slot, target}
use Rattle.quiesce_core.specs.WellFormed.{IsSound}
use Rattle.quiesce_core.specs.declared.event.Event.{Event}
use Rattle.quiesce_core.specs.declared.event.Event.TheVariants.{Begin, Call, Close, Reopen, Make, Link, Unlink, Remove}
use Rattle.quiesce_core.specs.declared.state.Exchange.{Exchange}
use Rattle.quiesce_core.specs.declared.state.Gate.{Gate}
use Rattle.quiesce_core.specs.declared.state.Service.{Service}
use Rattle.quiesce_core.specs.declared.state.Slot.{Slot}
use Rattle.quiesce_core.proofs.AlterLaws.{exchanges_next, reconfigured}
use Rattle.quiesce_core.proofs.ConfigurationLaws.{linked_made, owner_kept, port_is, target_kept}
use Rattle.quiesce_core.proofs.LiveLinkLaws.{linked_at}
use Rattle.quiesce_core.proofs.RunLaws.{node_events_keep_the_configuration}
use Rattle.quiesce_core.proofs.SettledLaws.{settled_if}
use Rattle.quiesce_core.proofs.StabilityLaws.{unsettled_ports_stay}
use Rattle.result_laws.specs.Describing.{kind_at}
use Rattle.result_laws.proofs.EventLaws.{idle_passes, nothing_there, starts_at}
use Rattle.result_laws.proofs.FactLaws.{Facts}
use Rattle.result_laws.specs.Banks.{IsBank, LeadsToAccount, banks_serve_tellers, is_branch, is_teller}
use Rattle.result_laws.proofs.Linking.{AllLinked}
use Rattle.result_laws.proofs.Offices.{IsAccount, IsOffice, IsOfKind, IsOutside, Office, kind_stays, office_owned, office_stays, outside_stays}

pub data LeadsWell (c : Configuration) (q : ℕ) : Type 0 where
  to_account : (n x : ℕ) → target c q ≡ Some (record { node = n; provide = x }) → IsAccount c n → IsOfKind c (owner c q) Branch → LeadsWell c q
  to_branch : (b : Office) (x : ℕ) → target c q ≡ Some (record { node = b.at; provide = x }) → IsOffice c b → LeadsWell c q
  elsewhere : (n x : ℕ) → target c q ≡ Some (record { node = n; provide = x }) → IsOutside c n → LeadsWell c q

-- a port is open or busy
abbrev pub InUse : State → ℕ → Type 0
InUse s q = ((gate s.config q).closed ≡ false) ⊎ (is_idle (exchange s q).phase ≡ false)

abbrev pub AllLeadWell : State → Type 0
AllLeadWell s = (q : ℕ) (t : Target) → InUse s q → target s.config q ≡ Some t → LeadsWell s.config q

-- ---- by the kinds that links join

-- a port leads to an account or out of the bank, or from a teller to a branch
by_kinds : (c : Configuration) → IsSound c → AllLinked banks_serve_tellers c → (q : ℕ) (t : Target) → target c q ≡ Some t → LeadsWell c q ⊎ (IsOfKind c (owner c q) Teller × IsOfKind c t.node Branch)
by_kinds c sound linked q t leads = by into.0.node.kind refl (linked q t own.node into.0 leads own.made into.1)
  where
    own : IsPortOf c (owner c q) q
    own = sound.ports q (linked_made c q t leads)

    into : (m : Slot) × (slot c t.node ≡ Some m) × (m.live ≡ true)
    into = map_or_true (λ (m : Slot). m.live) (slot c t.node) (sound.targets q t leads).live

    teller_if : (k : Kind) → is_teller k ≡ true → k ≡ Teller
    teller_if Teller h = refl
    teller_if k h = cc h

    branch_if : (k : Kind) → is_branch k ≡ true → k ≡ Branch
    branch_if Branch h = refl
    branch_if k h = cc h

    outside : (k : Kind) → into.0.node.kind ≡ k → (k ≡ Branch → ⊥) → (k ≡ Account → ⊥) → LeadsWell c q ⊎ (IsOfKind c (owner c q) Teller × IsOfKind c t.node Branch)
    outside k is no_branch no_account = inl (elsewhere t.node t.provide leads (record { made = into.0; there = into.1; no_branch = λ h. no_branch (sym is ∙ h); no_account = λ h. no_account (sym is ∙ h) }))

    by : (k : Kind) → into.0.node.kind ≡ k → banks_serve_tellers own.node.node.kind into.0.node.kind ≡ true → LeadsWell c q ⊎ (IsOfKind c (owner c q) Teller × IsOfKind c t.node Branch)
    by Account is h =
        inl (to_account t.node t.provide leads (record { made = into.0; there = into.1; kind = is })
        (record { made = own.node; there = own.made; kind = branch_if own.node.node.kind (sym (ap (banks_serve_tellers own.node.node.kind) is) ∙ h) }))
    by Branch is h =
        inr (record { made = own.node; there = own.made; kind = teller_if own.node.node.kind (sym (ap (banks_serve_tellers own.node.node.kind) is) ∙ h) }, record { made = into.0; there = into.1; kind = is })
    by Philosopher is h = outside Philosopher is (λ e. cc e) (λ e. cc e)
    by Place is h = outside Place is (λ e. cc e) (λ e. cc e)
    by Fork is h = outside Fork is (λ e. cc e) (λ e. cc e)
    by Source is h = outside Source is (λ e. cc e) (λ e. cc e)
    by Map is h = outside Map is (λ e. cc e) (λ e. cc e)
    by Buffer is h = outside Buffer is (λ e. cc e) (λ e. cc e)
    by Sink is h = outside Sink is (λ e. cc e) (λ e. cc e)
    by Teller is h = outside Teller is (λ e. cc e) (λ e. cc e)
    by Asker is h = outside Asker is (λ e. cc e) (λ e. cc e)
    by Adder is h = outside Adder is (λ e. cc e) (λ e. cc e)

-- ---- where the graph is a bank

module _ (c : Configuration) (sound : IsSound c) (named : AreNamed c) (linked : AllLinked banks_serve_tellers c) (g : Graph) (is : IsGraphOf c g) (bank : IsBank g) where
  one_stands : (n k i : ℕ) → StandsAt c g.nodes n i → StandsAt c g.nodes k i → n ≡ k
  one_stands n k i a b = named.paths n k a.made b.made a.there b.there a.live b.live (ap (λ (x : Node). x.path) (same_Some a.made.node b.made.node (sym a.stands ∙ b.stands)))

  kind_there : (n i : ℕ) (k : Kind) → StandsAt c g.nodes n i → kind_at g i ≡ Some k → IsOfKind c n k
  kind_there n i k a h = record { made = a.made; there = a.there; kind = same_Some a.made.node.kind k (sym (ap (option_map (λ (x : Node). x.kind)) a.stands) ∙ h) }

  live_stands : (n : ℕ) → is_live c n ≡ true → (i : ℕ) × StandsAt c g.nodes n i
  live_stands n live =
      let m = map_or_true (λ (s : Slot). s.live) (slot c n) live in
      let listed = at_some_place g.nodes m.0.node ((is.nodes_are m.0.node).1 (n, record { made = m.0; there = m.1; live = m.2; is_node = refl })) in
      (listed.0, record { made = m.0; there = m.1; live = m.2; stands = listed.1 })

  -- requirement r of a branch leads to an account
  record Led (n : ℕ) (p : ℕ) : Type 0 where
    account : ℕ
    leads : target c p ≡ Some (record { node = account; provide = 0 })
    is_account : IsAccount c account

  led : (n i r : ℕ) → (a : StandsAt c g.nodes n i) → LeadsToAccount g i r → Led n (a.made.first_port + r)
  led n i r a l =
      let k = (linked_at c g.nodes i r l.account 0).1 ((is.links_are i r l.account 0).0 l.linked) in
      let own : owner c k.port ≡ n = one_stands (owner c k.port) n i k.from_there a in
      let p = port_is c sound k.port a.made (linked_made c k.port (record { node = k.to; provide = 0 }) k.leads) (ap (slot c) own ∙ a.there) in
      let here : a.made.first_port + r ≡ k.port = ap (λ j. a.made.first_port + j) (sym k.requirement) ∙ sym p.0 in
      record { account = k.to; leads = ap (target c) here ∙ k.leads; is_account = kind_there k.to l.account Account k.to_there l.is_account }

  office_at : (n i : ℕ) → (a : StandsAt c g.nodes n i) → kind_at g i ≡ Some Branch → (b : Office) × (b.at ≡ n) × IsOffice c b
  office_at n i a kind =
      let from = led n i 0 a (bank.from i kind) in
      let to = led n i 1 a (bank.to i kind) in
      let k = kind_there n i Branch a kind in
      let b : Office = record { at = n; from = a.made.first_port; to = a.made.first_port + 1; payer = from.account; payee = to.account } in (
        b,
        refl,
        record {
          branch = record { made = a.made; there = a.there; kind = same_Some a.made.node.kind Branch (sym (ap (option_map (λ (x : Node). x.kind)) a.stands) ∙ kind); first = refl; second = refl };
          from_leads = ap (target c) (omega arith) ∙ from.leads;
          to_leads = to.leads;
          payer = from.is_account;
          payee = to.is_account;
        },
      )

  pub leads_in_bank : (q : ℕ) (t : Target) → target c q ≡ Some t → LeadsWell c q
  leads_in_bank q t leads = ⊎_elim (λ (well : LeadsWell c q). well) (λ (w : IsOfKind c (owner c q) Teller × IsOfKind c t.node Branch). to_office w.1) (by_kinds c sound linked q t leads)
    where
      to_office : IsOfKind c t.node Branch → LeadsWell c q
      to_office kind =
          let to = live_stands t.node (sound.targets q t leads).live in
          let here : kind_at g to.0 ≡ Some Branch = ap (option_map (λ (x : Node). x.kind)) to.1.stands ∙ ap (λ (m : Slot). Some m.node.kind) (same_Some to.1.made kind.made (sym to.1.there ∙ kind.there)) ∙ ap Some kind.kind in
          let o = office_at t.node to.0 to.1 here in
          to_branch o.0 t.provide (leads ∙ ap (λ n. Some (record { node = n; provide = t.provide })) (sym o.1)) o.2

-- ---- what an event leaves

module _ (s : State) (f : ℕ → NodeState) (facts : Facts s f) (e : Event) (legal : Legal s e) (linked : AllLinked banks_serve_tellers s.config) where
  abbrev after : State
  after = effect s e

  -- a port keeps what it is where its target stays, and those of the branch to which it leads
  moved_on : (q : ℕ) → target after.config q ≡ target s.config q
      → ((b : Office) (x : ℕ) → target s.config q ≡ Some (record { node = b.at; provide = x }) → IsOffice s.config b → (target after.config b.from ≡ target s.config b.from) × (target after.config b.to ≡ target s.config b.to))
      → LeadsWell s.config q → LeadsWell after.config q
  moved_on q same stay (to_account n x leads a b) =
      let r = reconfigured s e legal in
      let own = owner_kept s.config after.config e r q (linked_made s.config q (record { node = n; provide = x }) leads) in
      to_account n x (same ∙ leads) (kind_stays s.config after.config e r n Account a) (kind_stays s.config after.config e r (owner after.config q) Branch (subst (λ i. IsOfKind s.config i Branch) (sym own) b))
  moved_on q same stay (to_branch b x leads o) =
      let w = stay b x leads o in
      to_branch b x (same ∙ leads) (office_stays s.config after.config e (reconfigured s e legal) b o w.0 w.1)
  moved_on q same stay (elsewhere n x leads o) = elsewhere n x (same ∙ leads) (outside_stays s.config after.config e (reconfigured s e legal) n o)

  -- a node to which a port in use leads isn't settled
  unsettled : (q n x : ℕ) → InUse s q → target s.config q ≡ Some (record { node = n; provide = x }) → is_settled s n ≡ true → ⊥
  unsettled q n x in_use leads settled =
      let quiet = and_parts (gate s.config q).closed (is_idle (exchange s q).phase) ((settled_if s facts.well.sound n settled).reaching q (direct leads)) in
      by quiet in_use
    where
      by : ((gate s.config q).closed ≡ true) × (is_idle (exchange s q).phase ≡ true) → InUse s q → ⊥
      by quiet (inl open_) = both_ways (gate s.config q).closed open_ quiet.0
      by quiet (inr busy) = both_ways (is_idle (exchange s q).phase) busy quiet.1

  used_on : (q : ℕ) → InUse s q → target after.config q ≡ target s.config q → LeadsWell s.config q → LeadsWell after.config q
  used_on q in_use same = moved_on q same (λ b x leads o.
      let own = office_owned s.config facts.well.sound b o.branch in
      let busy : is_settled s b.at ≡ true → ⊥ = unsettled q b.at x in_use leads in
      (unsettled_ports_stay s e legal b.from (λ h. busy (ap (is_settled s) (sym own.0) ∙ h)), unsettled_ports_stay s e legal b.to (λ h. busy (ap (is_settled s) (sym own.1) ∙ h))))

  -- ---- an event of the change

  -- a port in use then was in use before, and leads where it led; or it was reopened
  data Was (q : ℕ) : Type 0 where
    reopened : e ≡ Reopen q → is_live s.config (owner s.config q) ≡ true → target after.config q ≡ target s.config q → Was q
    used : InUse s q → target after.config q ≡ target s.config q → Was q

  quiet_port : (q : ℕ) → is_live_port s.config q ≡ true → is_settled s (owner s.config q) ≡ true → InUse s q → ⊥
  quiet_port q live settled in_use =
      let made = ltb-true q (length s.config.gates) (and_parts (nat_lt q (length s.config.gates)) (is_live s.config (owner s.config q)) live).0 in
      let quiet = and_parts (gate s.config q).closed (is_idle (exchange s q).phase) ((settled_if s facts.well.sound (owner s.config q) settled).own q (facts.well.sound.ports q made)) in
      by quiet in_use
    where
      by : ((gate s.config q).closed ≡ true) × (is_idle (exchange s q).phase ≡ true) → InUse s q → ⊥
      by quiet (inl open_) = both_ways (gate s.config q).closed open_ quiet.0
      by quiet (inr busy) = both_ways (is_idle (exchange s q).phase) busy quiet.1

  was : is_of_change e ≡ true → (q : ℕ) → InUse after q → Was q
  was change q in_use = by e refl change (gate_is e refl)
    where
      gate_is : (z : Event) → e ≡ z → gate after.config q ≡ gate_next s.config q z
      gate_is z at = (reconfigured s e legal).gates q ∙ ap (gate_next s.config q) at

      idle_is : (z : Event) → e ≡ z → is_of_change z ≡ true → exchange after q ≡ exchange s q
      idle_is z at h = exchanges_next s e facts.well legal q ∙ ap (exchange_next s q) at ∙ nothing_there s q z h

      -- the gate is as closed as it was
      as_was : (z : Event) → e ≡ z → is_of_change z ≡ true → (gate after.config q).closed ≡ (gate s.config q).closed → InUse s q
      as_was z at h same = by_use in_use
        where
          by_use : InUse after q → InUse s q
          by_use (inl open_) = inl (sym same ∙ open_)
          by_use (inr busy) = inr (sym (ap (λ (y : Exchange). is_idle y.phase) (idle_is z at h)) ∙ busy)

      same_target : (z : Event) → e ≡ z → relinks q z ≡ false → target after.config q ≡ target s.config q
      same_target z at h = target_kept s.config after.config e (reconfigured s e legal) q (ap (relinks q) at ∙ h)

      -- a busy port was busy, whatever its gate is
      closed_then : (z : Event) → e ≡ z → is_of_change z ≡ true → (gate after.config q).closed ≡ true → InUse s q
      closed_then z at h closed = by_use in_use
        where
          by_use : InUse after q → InUse s q
          by_use (inl open_) = absurd (both_ways (gate after.config q).closed open_ closed)
          by_use (inr busy) = inr (sym (ap (λ (y : Exchange). is_idle y.phase) (idle_is z at h)) ∙ busy)

      by : (z : Event) → e ≡ z → is_of_change z ≡ true → gate after.config q ≡ gate_next s.config q z → Was q
      by (Close p) at h is = either (p == q) refl
        where
          either : (b : Bool) → (p == q) ≡ b → Was q
          either true same = used (closed_then (Close p) at refl (ap (λ (y : Gate). y.closed) is ∙ ap (λ b. (cond b (record (gate s.config q) { closed = true }) (gate s.config q)).closed) same)) (same_target (Close p) at refl)
          either false same = used (as_was (Close p) at refl (ap (λ (y : Gate). y.closed) is ∙ ap (λ b. (cond b (record (gate s.config q) { closed = true }) (gate s.config q)).closed) same)) (same_target (Close p) at refl)
      by (Reopen p) at h is = either (p == q) refl
        where
          either : (b : Bool) → (p == q) ≡ b → Was q
          either true same =
              let one = eqb-true p q same in
              let live : is_live_port s.config p ≡ true = (subst (Legal s) at legal).live in
              reopened (at ∙ ap Reopen one) (ap (λ i. is_live s.config (owner s.config i)) (sym one) ∙ (and_parts (nat_lt p (length s.config.gates)) (is_live s.config (owner s.config p)) live).1) (same_target (Reopen p) at refl)
          either false same = used (as_was (Reopen p) at refl (ap (λ (y : Gate). y.closed) is ∙ ap (λ b. (cond b (record (gate s.config q) { closed = false }) (gate s.config q)).closed) same)) (same_target (Reopen p) at refl)
      by (Make n node from) at h is = either (nat_le (length s.config.gates) q && nat_lt q (length s.config.gates + length (row node.kind).requires_)) refl
        where
          either : (b : Bool) → (nat_le (length s.config.gates) q && nat_lt q (length s.config.gates + length (row node.kind).requires_)) ≡ b → Was q
          either true same = used (closed_then (Make n node from) at refl (ap (λ (y : Gate). y.closed) is ∙ rw same refl)) (same_target (Make n node from) at refl)
          either false same = used (as_was (Make n node from) at refl (ap (λ (y : Gate). y.closed) is ∙ rw same refl)) (same_target (Make n node from) at refl)
      by (Link p n x) at h is = either (p == q) refl
        where
          either : (b : Bool) → (p == q) ≡ b → Was q
          either true same =
              let l = subst (Legal s) at legal in
              let one = eqb-true p q same in
              absurd (quiet_port q (ap (is_live_port s.config) (sym one) ∙ l.live) (ap (λ i. is_settled s (owner s.config i)) (sym one) ∙ l.settled)
              (as_was (Link p n x) at refl (ap (λ (y : Gate). y.closed) is ∙ ap (λ b. (cond b (record (gate s.config q) { target = Some (record { node = n; provide = x }) }) (gate s.config q)).closed) same)))
          either false same = used (as_was (Link p n x) at refl (ap (λ (y : Gate). y.closed) is ∙ ap (λ b. (cond b (record (gate s.config q) { target = Some (record { node = n; provide = x }) }) (gate s.config q)).closed) same)) (same_target (Link p n x) at same)
      by (Unlink p) at h is = either (p == q) refl
        where
          either : (b : Bool) → (p == q) ≡ b → Was q
          either true same =
              let l = subst (Legal s) at legal in
              let one = eqb-true p q same in
              absurd (quiet_port q (ap (is_live_port s.config) (sym one) ∙ l.live) (ap (λ i. is_settled s (owner s.config i)) (sym one) ∙ l.settled)
              (as_was (Unlink p) at refl (ap (λ (y : Gate). y.closed) is ∙ ap (λ b. (cond b (record (gate s.config q) { target = None }) (gate s.config q)).closed) same)))
          either false same = used (as_was (Unlink p) at refl (ap (λ (y : Gate). y.closed) is ∙ ap (λ b. (cond b (record (gate s.config q) { target = None }) (gate s.config q)).closed) same)) (same_target (Unlink p) at same)
      by (Remove n) at h is = used (as_was (Remove n) at refl (ap (λ (y : Gate). y.closed) is)) (same_target (Remove n) at refl)
      by _ at h is = absurd (both_ways false refl h)

  -- where it reopens a port, the graph is a bank
  abbrev pub OpensBank : Type 0
  OpensBank = (q : ℕ) → e ≡ Reopen q → (g : Graph) × IsGraphOf s.config g × IsBank g

  by_change : is_of_change e ≡ true → AreNamed s.config → OpensBank → AllLeadWell s → AllLeadWell after
  by_change change named opens well q t in_use leads = by (was change q in_use)
    where
      by : Was q → LeadsWell after.config q
      by (used before same) = used_on q before same (well q t before (sym same ∙ leads))
      by (reopened at live same) =
          let g = opens q at in
          moved_on q same (λ b x l o. (stay at b.from, stay at b.to)) (leads_in_bank s.config facts.well.sound named linked g.0 g.1 g.2 q t (sym same ∙ leads))
        where
          stay : e ≡ Reopen q → (p : ℕ) → target after.config p ≡ target s.config p
          stay at p = target_kept s.config after.config e (reconfigured s e legal) p (ap (relinks p) at)

  -- ---- an event of a node

  -- the port of a call is of no teller, since that serves nobody
  called : (q k v : ℕ) → Legal s (Call q k v) → (t : Target) → target s.config q ≡ Some t → LeadsWell s.config q
  called q k v l t leads = ⊎_elim (λ (well : LeadsWell s.config q). well) (λ (teller : IsOfKind s.config (owner s.config q) Teller × IsOfKind s.config t.node Branch). absurd (serves_none teller.0)) (by_kinds s.config facts.well.sound linked q t leads)
    where
      w : (x : Service) × (service s (owner s.config q) ≡ Some x) × (depends s.config (owner s.config q) (provision s.config x.port) q ≡ true)
      w = map_or_true (λ (x : Service). depends s.config (owner s.config q) (provision s.config x.port) q) (service s (owner s.config q)) l.serves_through

      serves_none : IsOfKind s.config (owner s.config q) Teller → ⊥
      serves_none teller =
          let it = facts.traffic.serving (owner s.config q) w.0 w.1 in
          let low = (facts.well.sound.targets w.0.port (record { node = owner s.config q; provide = it.provide }) it.linked).provided in
          let none_ : provides s.config (owner s.config q) ≡ 0 = ap (λ o. option_map_or (λ (m : Slot). length (row m.node.kind).provides) o 0) teller.there ∙ ap (λ (k : Kind). length (row k).provides) teller.kind in
          omega (arith, low, none_)

  by_node : is_of_change e ≡ false → AllLeadWell s → AllLeadWell after
  by_node of_node well q t in_use leads =
      let same : after.config ≡ s.config = node_events_keep_the_configuration s e of_node in
      subst (λ c. LeadsWell c q) (sym same) (by (sym (ap (λ (c : Configuration). target c q) same) ∙ leads) (ap (λ (c : Configuration). (gate c q).closed) same) in_use)
    where
      started : (z : Event) → e ≡ z → starts_at q z ≡ true → target s.config q ≡ Some t → LeadsWell s.config q
      started (Begin p k v) at h l =
          let one = eqb-true p q h in
          well q t (inl (ap (λ i. (gate s.config i).closed) (sym one) ∙ not-true (gate s.config p).closed (subst (Legal s) at legal).opened)) l
      started (Call p k v) at h l =
          let one = eqb-true p q h in
          called q k v (subst (λ i. Legal s (Call i k v)) one (subst (Legal s) at legal)) t l
      started _ at h l = absurd (both_ways false refl h)

      by : target s.config q ≡ Some t → (gate after.config q).closed ≡ (gate s.config q).closed → InUse after q → LeadsWell s.config q
      by l same (inl open_) = well q t (inl (sym same ∙ open_)) l
      by l same (inr busy) = ⊎_elim
          (λ (idle : is_idle (exchange s q).phase ≡ true). ⊎_elim
          (λ (starts : starts_at q e ≡ true). started e refl starts l)
          (λ (calm : starts_at q e ≡ false).
          absurd (both_ways (is_idle (exchange after q).phase) busy (ap (λ (y : Exchange). is_idle y.phase) (idle_passes s f f facts q e legal idle calm) ∙ idle)))
          (cases_Bool (starts_at q e)))
          (λ (was_busy : is_idle (exchange s q).phase ≡ false). well q t (inr was_busy) l)
          (cases_Bool (is_idle (exchange s q).phase))

  -- ---- each event keeps it
  pub lead_on : AreNamed s.config → OpensBank → AllLeadWell s → AllLeadWell after
  lead_on named opens well = by (is_of_change e) refl
    where
      by : (b : Bool) → is_of_change e ≡ b → AllLeadWell after
      by true change = by_change change named opens well
      by false of_node = by_node of_node well
