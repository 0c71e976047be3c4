-- An event of the change leaves each fork to whom it was lent.
use Rattle.std.proofs.Common.{◌≡◌, ◌∙◌, ℕ, ◌<◌, Bool, true, false, cond, not, List, [], ◌∷◌, ◌++◌, length, Option, Some, None, refl, sym, ap, subst, arith, ⊎_elim}
use Rattle.std.specs.Prelude.{◌==◌, ◌&&◌, is_some, nat_lt, option_and_then, option_map}
use Rattle.std.specs.Option.{option_map_or}
use Rattle.std.proofs.lemmas.Bool.{and_parts, both_ways, cases_eq, eq-eqb, eqb-true, false_from_ne_true, ltb-true, ne_eqb, not-true}
use Rattle.std.proofs.lemmas.Option.{none-some, same_Some, slice_get_within}
use Rattle.base.proofs.OptionLaws.{map_or_true}
use Rattle.config_graph.specs.declared.kind.Kind.TheVariants.{Fork}
use Rattle.config_graph.specs.declared.node.Node.{Node}
use Rattle.config_graph.specs.declared.node.Target.{Target}
use Rattle.component_trait.specs.States.{Kept, NodeState}
use Rattle.component_trait.specs.Tables.{opening}
use Rattle.component_trait.specs.States as node
use Rattle.quiesce_word.specs.Phases.{is_idle}
use Rattle.quiesce_core.specs.Alters.{Reconfigures, service_by, slot_next}
use Rattle.quiesce_core.specs.Doers.{is_of_change, relinks}
use Rattle.quiesce_core.specs.Effect.{effect}
use Rattle.quiesce_core.specs.Legal.{Legal}
use Rattle.quiesce_core.specs.Rules.{can_move, is_kind, is_linked, is_live_port, is_settled, is_taken, was_moved}
use Rattle.quiesce_core.specs.Runs.{IsRun, state_after}
use Rattle.quiesce_core.specs.State.{State, exchange, gate, owner, service, slot, target}
use Rattle.quiesce_core.specs.declared.event.Event.{Event}
use Rattle.quiesce_core.specs.declared.event.Event.TheVariants.{Make, Link, Unlink, Remove}
use Rattle.quiesce_core.specs.declared.state.Exchange.{Exchange}
use Rattle.quiesce_core.specs.declared.state.Service.{Service}
use Rattle.quiesce_core.specs.declared.state.Slot.{Slot}
use Rattle.quiesce_core.proofs.ArgumentLaws.{kinds_are_one}
use Rattle.quiesce_core.proofs.AlterLaws.{exchanges_next, reconfigured, services_next}
use Rattle.quiesce_core.proofs.ConfigurationLaws.{linked_made, owner_kept, require_kept, target_kept, target_unlinked}
use Rattle.quiesce_core.proofs.InductionLaws.{IsNext}
use Rattle.quiesce_core.proofs.SettledLaws.{settled_if}
use Rattle.change_round_laws.proofs.FoldLaws.{StatesAreHanded}
use Rattle.result_laws.specs.Coming.{HasFolds, come}
use Rattle.result_laws.proofs.AgreeingLaws.{change_does}
use Rattle.result_laws.proofs.ComingLaws.{facts, folds_before, given_to, made_has, old_stays, stays}
use Rattle.result_laws.proofs.EventLaws.{idle_untaken, nothing_there}
use Rattle.result_laws.proofs.FactLaws.{Facts}
use Rattle.result_laws.specs.Holding.{forks_serve_places, has_fork}
use Rattle.result_laws.proofs.Dining.{resting_has_none}
use Rattle.result_laws.proofs.Linking.{AllLinked}
use Rattle.result_laws.proofs.Lent.{AllHeld, Claims, Forks, HeldBy, Joined, LentAt, asks_none_at_rest, free_lent, gets, got, keeps, same_claims, same_lent}

module _ (handed : StatesAreHanded) (es : List Event) (e : Event) (here : IsNext es e) (run' : IsRun (es ++ e ∷ [])) (later : HasFolds (es ++ e ∷ [])) (linked : AllLinked forks_serve_places (state_after es).config) (was : Forks es) where
  abbrev s : State
  s = state_after es

  abbrev t : State
  t = state_after (es ++ e ∷ [])

  abbrev f : ℕ → NodeState
  f = come es

  abbrev g : ℕ → NodeState
  g = come (es ++ e ∷ [])

  now_facts : Facts s f
  now_facts = facts handed es here.run (folds_before handed es e here run' later)

  module _ (change : is_of_change e ≡ true) where
    same_exchange : (q : ℕ) → exchange t q ≡ exchange s q
    same_exchange q = ap (λ (x : State). exchange x q) here.next ∙ exchanges_next s e here.well here.legal q ∙ nothing_there s q e change

    same_service : (n : ℕ) → service t n ≡ service s n
    same_service n = ap (λ (x : State). service x n) here.next ∙ services_next s e here.well here.legal n ∙ ap (λ b. cond b (service_by (service s n) e) (service s n)) (change_does s e n change)

    abbrev size : ℕ
    size = length s.config.slots

    -- one that is made was lent to none
    abbrev lent_now : ℕ → Option ℕ
    lent_now n = cond (n == size) None (was.lent n)

    lent_old : (n : ℕ) (m : Slot) → slot s.config n ≡ Some m → lent_now n ≡ was.lent n
    lent_old n m there = ap (λ b. cond b None (was.lent n)) (ne_eqb n size (λ same. let low = slice_get_within s.config.slots n m there in omega (arith, low, same)))

    come_old : (n : ℕ) (m : Slot) → slot s.config n ≡ Some m → g n ≡ f n
    come_old n m there = old_stays handed es e here run' change n m there

    -- the node of a slot, where that was made before
    old_node : (n : ℕ) (old_ new_ : Slot) → slot s.config n ≡ Some old_ → slot t.config n ≡ Some new_ → new_.node ≡ old_.node
    old_node n old_ new_ at_old at_new =
        let x = stays s.config (effect s e).config e (reconfigured s e here.legal) n old_ at_old in
        ap (λ (y : Slot). y.node) (same_Some new_ x.then_ (sym at_new ∙ ap (λ (y : State). slot y.config n) here.next ∙ x.there)) ∙ x.node

    counted_now : (n q : ℕ) (m : Slot) → slot t.config n ≡ Some m → m.node.kind ≡ Fork → lent_now n ≡ Some q → ((g n).kept.count == 0) ≡ false
    counted_now n q m there kind is = by (slot s.config n) refl
      where
        new_one : (b : Bool) → (n == size) ≡ b → slot s.config n ≡ None → ((g n).kept.count == 0) ≡ false
        new_one true same none_ = absurd (none-some q (sym (ap (λ b. cond b None (was.lent n)) same) ∙ is))
        new_one false other none_ = absurd (none-some m (sym (unmade e (ap (λ (x : State). slot x.config n) (sym here.next) ∙ there)) ∙ (ap (λ (x : State). slot x.config n) (sym here.next) ∙ there)))
          where
            unmade : (z : Event) → slot (effect s e).config n ≡ Some m → slot (effect s e).config n ≡ None
            unmade z h = (reconfigured s e here.legal).slots n ∙ none_next e
              where
                removed : (b : Bool) (x : Option Slot) → x ≡ None → cond b (option_map (λ (k : Slot). record k { live = false }) x) x ≡ None
                removed true x h = ap (option_map (λ (k : Slot). record k { live = false })) h
                removed false x h = h

                none_next : (z : Event) → slot_next s.config n z ≡ None
                none_next (Make k made from) = ap (λ b. cond b (Some (record { node = made; first_port = length s.config.gates; from = from; live = true })) (slot s.config n)) other ∙ none_
                none_next (Remove k) = removed (n == k) (slot s.config n) none_
                none_next _ = none_

        by : (x : Option Slot) → slot s.config n ≡ x → ((g n).kept.count == 0) ≡ false
        by (Some old_) at =
            ap (λ (x : NodeState). x.kept.count == 0) (come_old n old_ at)
            ∙ was.counted n q old_ at (ap (λ (x : Node). x.kind) (sym (old_node n old_ m at there)) ∙ kind) (sym (lent_old n old_ at) ∙ is)
        by None at = new_one (n == size) refl at

    ports_now : (p : ℕ) (to : Target) → Joined t.config p to → LentAt t g lent_now p to
    ports_now p to j = by e refl here.legal (sym (ap (λ (x : State). target x.config p) here.next) ∙ j.leads)
      where
        r : Reconfigures s.config e (effect s e).config
        r = reconfigured s e here.legal

        owner_now : p < length s.config.gates → owner t.config p ≡ owner s.config p
        owner_now low = ap (λ (x : State). owner x.config p) here.next ∙ owner_kept s.config (effect s e).config e r p low

        require_now : p < length s.config.gates → (gate t.config p).require ≡ (gate s.config p).require
        require_now low = ap (λ (x : State). (gate x.config p).require) here.next ∙ require_kept s.config (effect s e).config e r p low

        took_now : target t.config p ≡ target s.config p → is_taken t p ≡ is_taken s p
        took_now same = λ i. option_map_or (λ (v : Service). v.port == p) (option_and_then (λ (x : Target). same_service x.node i) (same i)) false

        -- a link that was there
        kept : target s.config p ≡ Some to → LentAt t g lent_now p to
        kept leads =
            let low = linked_made s.config p to leads in
            let own = here.well.sound.ports p low in
            let into = map_or_true (λ (x : Slot). x.live) (slot s.config to.node) (here.well.sound.targets p to leads).live in
            let jo : Joined s.config p to = record {
              leads = leads;
              from = own.node;
              from_there = own.made;
              is_place_ = ap (λ (x : Node). x.kind) (sym (old_node (owner s.config p) own.node j.from own.made (ap (slot t.config) (sym (owner_now low)) ∙ j.from_there))) ∙ j.is_place_;
              into = into.0;
              into_there = into.1;
              is_fork_ = ap (λ (x : Node). x.kind) (sym (old_node to.node into.0 j.into into.1 j.into_there)) ∙ j.is_fork_;
            } in
            same_lent s t f g was.lent lent_now p to (same_exchange p) (took_now (j.leads ∙ sym leads)) (owner_now low) (require_now low) (come_old (owner s.config p) own.node own.made) (come_old to.node into.0 into.1)
            (lent_old to.node into.0 into.1) (was.ports p to jo)

        calm : relinks p e ≡ false → target (effect s e).config p ≡ Some to → LentAt t g lent_now p to
        calm none_ h = kept (sym (target_kept s.config (effect s e).config e r p none_) ∙ h)

        -- a port that is linked is idle, and its owner in no service
        fresh : is_settled s (owner s.config p) ≡ true → is_live_port s.config p ≡ true → is_linked s.config p ≡ false → LentAt t g lent_now p to
        fresh settled live unlinked =
            let low = ltb-true p (length s.config.gates) (and_parts (nat_lt p (length s.config.gates)) _ live).0 in
            let own = here.well.sound.ports p low in
            let z = settled_if s here.well.sound (owner s.config p) settled in
            let quiet = and_parts (gate s.config p).closed (is_idle (exchange s p).phase) (z.own p own) in
            let idle_t : is_idle (exchange t p).phase ≡ true = ap (λ (x : Exchange). is_idle x.phase) (same_exchange p) ∙ quiet.1 in
            let none_ : (f (owner s.config p)).service ≡ None = rests (owner s.config p) z.services_nothing in
            let same_n : g (owner t.config p) ≡ f (owner s.config p) = ap g (owner_now low) ∙ come_old (owner s.config p) own.node own.made in
            free_lent t g lent_now p to idle_t (idle_untaken t g g (facts handed (es ++ e ∷ []) run' later) p idle_t)
            ((λ i. has_fork (same_n i) (require_now low i)) ∙ resting_has_none (f (owner s.config p)) (gate s.config p).require none_)
          where
            rests : (n : ℕ) → service s n ≡ None → (f n).service ≡ None
            rests n none_ = by_service (f n).service refl
              where
                by_service : (x : Option node.Service) → (f n).service ≡ x → (f n).service ≡ None
                by_service None is = is
                by_service (Some y) is = let v = now_facts.served n y is in absurd (none-some v.0 (sym none_ ∙ v.1))

        by : (z : Event) → e ≡ z → Legal s z → target (effect s e).config p ≡ Some to → LentAt t g lent_now p to
        by (Link q n x) at l h = ⊎_elim
            (λ (same : q ≡ p). fresh (ap (λ i. is_settled s (owner s.config i)) (sym same) ∙ l.settled) (ap (is_live_port s.config) (sym same) ∙ l.live) (ap (λ i. is_linked s.config i) (sym same) ∙ not-true (is_linked s.config q) l.unlinked))
            (λ (other : q ≡ p → ⊥). calm (ap (relinks p) at ∙ ne_eqb q p other) h)
            (cases_eq q p)
        by (Unlink q) at l h = ⊎_elim
            (λ (same : q ≡ p). absurd (none-some to (sym (ap (λ b. cond b None (target s.config p)) (eq-eqb q p same)) ∙ sym (target_unlinked s.config (effect s e).config q (subst (λ y. Reconfigures s.config y (effect s e).config) at r) p) ∙ h)))
            (λ (other : q ≡ p → ⊥). calm (ap (relinks p) at ∙ ne_eqb q p other) h)
            (cases_eq q p)
        by _ at l h = calm (ap (relinks p) at) h

    -- ---- what isn't free is held

    -- who claims a fork is in a service
    in_service : (p : ℕ) (to : Target) → Joined s.config p to → Claims s f p to → (f (owner s.config p)).service ≡ None → ⊥
    in_service p to j (keeps u a h) none_ = both_ways (has_fork (f (owner s.config p)) (gate s.config p).require) (resting_has_none (f (owner s.config p)) (gate s.config p).require none_) h
    in_service p to j (gets u a r) none_ = cc (sym (asks_none_at_rest (f (owner s.config p)) none_) ∙ a)
    in_service p to j (got u a v) none_ = cc (sym (asks_none_at_rest (f (owner s.config p)) none_) ∙ a)

    settled_rests : (n : ℕ) → is_settled s n ≡ true → (f n).service ≡ None
    settled_rests n settled = by_service (f n).service refl
      where
        by_service : (x : Option node.Service) → (f n).service ≡ x → (f n).service ≡ None
        by_service None is = is
        by_service (Some y) is = let v = now_facts.served n y is in absurd (none-some v.0 (sym (settled_if s here.well.sound n settled).services_nothing ∙ v.1))

    held_on : (n : ℕ) → HeldBy s f n → HeldBy t g n
    held_on n h =
        let p = h.port in
        let j = h.joined in
        let low = linked_made s.config p h.to j.leads in
        let r = reconfigured s e here.legal in
        let own_t : owner t.config p ≡ owner s.config p = ap (λ (x : State). owner x.config p) here.next ∙ owner_kept s.config (effect s e).config e r p low in
        let req_t : (gate t.config p).require ≡ (gate s.config p).require = ap (λ (x : State). (gate x.config p).require) here.next ∙ require_kept s.config (effect s e).config e r p low in
        let from_t = stays s.config (effect s e).config e r (owner s.config p) j.from j.from_there in
        let into_t = stays s.config (effect s e).config e r h.to.node j.into j.into_there in
        let leads_t : target t.config p ≡ Some h.to = ap (λ (x : State). target x.config p) here.next ∙ target_kept s.config (effect s e).config e r p (unlinked e refl here.legal) ∙ j.leads in
        record {
          port = p;
          to = h.to;
          at = h.at;
          joined = record {
            leads = leads_t;
            from = from_t.then_;
            from_there = ap (slot t.config) own_t ∙ ap (λ (x : State). slot x.config (owner s.config p)) here.next ∙ from_t.there;
            is_place_ = ap (λ (x : Node). x.kind) from_t.node ∙ j.is_place_;
            into = into_t.then_;
            into_there = ap (λ (x : State). slot x.config h.to.node) here.next ∙ into_t.there;
            is_fork_ = ap (λ (x : Node). x.kind) into_t.node ∙ j.is_fork_;
          };
          claims = same_claims s t f g p h.to (same_exchange p) (λ i. option_map_or (λ (v : Service). v.port == p) (option_and_then (λ (x : Target). same_service x.node i) ((leads_t ∙ sym j.leads) i)) false)
              own_t req_t (come_old (owner s.config p) j.from j.from_there) (come_old h.to.node j.into j.into_there) h.claims;
        }
      where
        unlinked : (z : Event) → e ≡ z → Legal s z → relinks h.port z ≡ false
        unlinked (Link q n' x) at l = false_from_ne_true (q == h.port) (λ same.
            both_ways (is_linked s.config q) (not-true (is_linked s.config q) l.unlinked) (ap (λ i. is_linked s.config i) (eqb-true q h.port same) ∙ ap is_some h.joined.leads))
        unlinked (Unlink q) at l = false_from_ne_true (q == h.port) (λ same.
            in_service h.port h.to h.joined h.claims (settled_rests (owner s.config h.port) (ap (λ i. is_settled s (owner s.config i)) (sym (eqb-true q h.port same)) ∙ l.settled)))
        unlinked _ at l = refl

    pub held_now : AllHeld es → AllHeld (es ++ e ∷ [])
    held_now held_ n m there kind still = by (slot s.config n) refl
      where
        by : (x : Option Slot) → slot s.config n ≡ x → HeldBy t g n
        by (Some old_) at = held_on n (held_ n old_ at (ap (λ (x : Node). x.kind) (sym (old_node n old_ m at there)) ∙ kind) (ap (λ (x : NodeState). x.kept.count == 0) (sym (come_old n old_ at)) ∙ still))
        by None at = absurd (new_one e refl there still at)
          where
            removed : (b : Bool) (x : Option Slot) → x ≡ None → cond b (option_map (λ (k : Slot). record k { live = false }) x) x ≡ None
            removed true x h = ap (option_map (λ (k : Slot). record k { live = false })) h
            removed false x h = h

            none_here : slot (effect s e).config n ≡ None → ⊥
            none_here none_ = none-some m (sym none_ ∙ ap (λ (x : State). slot x.config n) (sym here.next) ∙ there)

            slots : slot (effect s e).config n ≡ slot_next s.config n e
            slots = (reconfigured s e here.legal).slots n

            new_one : (z : Event) → e ≡ z → slot t.config n ≡ Some m → ((g n).kept.count == 0) ≡ false → slot s.config n ≡ None → ⊥
            new_one (Make k made from) is there still none_ = ⊎_elim
                (λ (same : n ≡ size). of_new k made from is same)
                (λ (other : n ≡ size → ⊥). none_here (slots ∙ ap (slot_next s.config n) is ∙ ap (λ b. cond b (Some (record { node = made; first_port = length s.config.gates; from = from; live = true })) (slot s.config n)) (ne_eqb n size other) ∙ none_))
                (cases_eq n size)
              where
                of_new : (k : ℕ) (made : Node) (from : Option ℕ) → e ≡ Make k made from → n ≡ size → ⊥
                of_new k made from is same =
                    let here' = subst (λ z. IsNext es z) is here in
                    let run'' = subst (λ z. IsRun (es ++ z ∷ [])) is run' in
                    let later' = subst (λ z. HasFolds (es ++ z ∷ [])) is later in
                    let kept_ : (g n).kept ≡ given_to es made from = ap (λ i. (g i).kept) same ∙ ap (λ z. (come (es ++ z ∷ []) size).kept) is ∙ made_has handed es k made from here' run'' later' in
                    let r' = reconfigured s (Make k made from) here'.legal in
                    let kind_made : made.kind ≡ Fork =
                    ap (λ (x : Slot). x.node.kind) (same_Some (record { node = made; first_port = length s.config.gates; from = from; live = true }) m
                    (sym (ap (λ b. cond b (Some (record { node = made; first_port = length s.config.gates; from = from; live = true })) (slot s.config n)) (eq-eqb n size same)) ∙ sym (r'.slots n)
                    ∙ ap (λ z. slot (effect s z).config n) (sym is) ∙ ap (λ (x : State). slot x.config n) (sym here.next) ∙ there)) ∙ kind in
                    by_from from refl here'.legal kept_ kind_made
                  where
                    by_from : (o : Option ℕ) → from ≡ o → Legal s (Make k made from) → (g n).kept ≡ given_to es made from → made.kind ≡ Fork → ⊥
                    by_from None none_ l kept_ kind_made =
                        both_ways ((g n).kept.count == 0) still (ap (λ (x : Kept). x.count == 0) kept_ ∙ ap (λ o. (given_to es made o).count == 0) none_ ∙ ap (λ y. (opening y (option_map_or (λ a. a) made.arg 0)).count == 0) kind_made)
                    by_from (Some i) some_ l kept_ kind_made =
                        let may = and_parts (option_map_or (λ (y : Slot). not y.live && is_kind y.node.kind made.kind) (slot s.config i) false) (not (was_moved s.config i)) (sym (ap (λ o. option_map_or (λ k. can_move s.config k made.kind) o true) some_) ∙ l.moves) in
                        let old_ = map_or_true (λ (y : Slot). not y.live && is_kind y.node.kind made.kind) (slot s.config i) may.0 in
                        let two = and_parts (not old_.0.live) (is_kind old_.0.node.kind made.kind) old_.2 in
                        let h = held_ i old_.0 old_.1 (kinds_are_one old_.0.node.kind made.kind two.1 ∙ kind_made) (sym (ap (λ (x : Kept). x.count == 0) (kept_ ∙ ap (given_to es made) some_)) ∙ still) in
                        let live = map_or_true (λ (y : Slot). y.live) (slot s.config h.to.node) (here.well.sound.targets h.port h.to h.joined.leads).live in
                        let one_ = same_Some old_.0 live.0 (sym old_.1 ∙ ap (slot s.config) (sym h.at) ∙ live.1) in
                        both_ways old_.0.live (not-true old_.0.live two.0) (ap (λ (y : Slot). y.live) one_ ∙ live.2)
            new_one (Remove k) is there still none_ = none_here (slots ∙ ap (slot_next s.config n) is ∙ removed (n == k) (slot s.config n) none_)
            new_one _ is there still none_ = none_here (slots ∙ ap (slot_next s.config n) is ∙ none_)

    pub change_forks : Forks (es ++ e ∷ [])
    change_forks = record { lent = lent_now; counted = counted_now; ports = ports_now }
