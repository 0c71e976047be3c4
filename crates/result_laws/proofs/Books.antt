-- The books of a bank are kept along a run in which each reopen finds a bank.
use Rattle.std.proofs.Common.{◌≡◌, ◌∙◌, ℕ, ◌+◌, ◌*◌, ◌<◌, ◌≤◌, Bool, true, false, cond, List, [], ◌∷◌, ◌++◌, append_assoc, length, Option, Some, None, refl, sym, ap, subst, arith, inl, ⊎_elim}
use Rattle.std.specs.Prelude.{◌⊎◌, ◌==◌, ◌^◌, option_map, sum_by}
use Rattle.std.specs.List.{list_any, range_with_len}
use Rattle.std.proofs.lemmas.Bool.{both_ways, cases_Bool, cases_lt, false_from_ne_true}
use Rattle.std.proofs.lemmas.List.{append-nil, get_or_past}
use Rattle.std.proofs.lemmas.List.Sums.{sum_by_push}
use Rattle.std.proofs.lemmas.Option.{none-some, same_Some, slice_get_within}
use Rattle.base.proofs.OptionLaws.{map_or_true}
use Rattle.base.proofs.SumLaws.{sum_same}
use Rattle.config_graph.specs.Graph.{Graph}
use Rattle.config_graph.specs.declared.TheConstants.{VALUE_LIMIT}
use Rattle.config_graph.specs.declared.kind.Kind.TheVariants.{Branch, Account}
use Rattle.config_graph.specs.declared.node.Node.{Node}
use Rattle.config_graph.specs.declared.node.Target.{Target}
use Rattle.component_trait.specs.States.{NodeState}
use Rattle.quiesce_word.specs.Phases.{is_idle}
use Rattle.quiesce_core.specs.Alters.{nodes_next, slot_next}
use Rattle.quiesce_core.specs.Doers.{is_make, is_of_change}
use Rattle.quiesce_core.specs.Effect.{effect}
use Rattle.quiesce_core.specs.Live.{IsGraphOf}
use Rattle.quiesce_core.specs.Runs.{IsRun, is_doer, state_after}
use Rattle.quiesce_core.specs.State.{Configuration, State, exchange, fresh_exchange, owner, slot, target}
use Rattle.quiesce_core.specs.declared.event.Event.{Event}
use Rattle.quiesce_core.specs.declared.event.Event.TheVariants.{Make, Remove, Reopen, Take}
use Rattle.quiesce_core.specs.declared.state.Exchange.{Exchange}
use Rattle.quiesce_core.specs.declared.state.Slot.{Slot}
use Rattle.quiesce_core.proofs.AlterLaws.{reconfigured}
use Rattle.quiesce_core.proofs.ConfigurationLaws.{slot_was}
use Rattle.quiesce_core.proofs.InductionLaws.{IsNext, place}
use Rattle.quiesce_core.proofs.RunLaws.{node_events_keep_the_configuration, nodes_are_named}
use Rattle.change_round_laws.proofs.FoldLaws.{StatesAreHanded}
use Rattle.result_laws.specs.Coming.{HasFolds, come}
use Rattle.result_laws.proofs.ComingLaws.{at_place, facts, fits_of, folds_before, folds_on, old_stays}
use Rattle.result_laws.proofs.EventLaws.{Now, is_take, led_to, take_at, takes_at}
use Rattle.result_laws.proofs.FactLaws.{Facts, Fits}
use Rattle.result_laws.proofs.PlacedLaws.{GraphAt}
use Rattle.result_laws.specs.Banks.{IsBank, banks_serve_tellers}
use Rattle.result_laws.proofs.Linking.{AllLinked}
use Rattle.result_laws.proofs.Adding.{sum_two, two_terms}
use Rattle.result_laws.proofs.Giving.{given_is_gone, hands_on}
use Rattle.result_laws.proofs.Handing.{all_held, carried_on, given_more, made_sum, opens_with_a_value, same_exchange, same_total, still}
use Rattle.result_laws.proofs.Leading.{AllLeadWell, lead_on}
use Rattle.result_laws.proofs.Ledger.{Has, Ledger, account_has, account_if, account_is, holds, held_by, is_account_at, no_account, opened_in, quiet, rest_has}
use Rattle.result_laws.proofs.Offices.{IsAccount, IsBranch, IsOffice, IsOfKind, Office, of_branch, office_owned, one_kind}
use Rattle.result_laws.proofs.Paying.{Calm, Pays, Went, keeps_total, paying, went}
use Rattle.result_laws.proofs.Serials.{AtWork, Serials, counted}

-- each reopen finds a bank
abbrev pub OpensBanks : List Event → Type 0
OpensBanks es = (before after : List Event) (p : ℕ) → es ≡ before ++ Reopen p ∷ after → GraphAt IsBank before

-- and links join kinds as they do in banks, at each place
abbrev pub LinkedSo : List Event → Type 0
LinkedSo es = (before after : List Event) → es ≡ before ++ after → AllLinked banks_serve_tellers (state_after before).config

pub record Books (es : List Event) : Type 0 where
  pub ledger : Ledger es
  pub leads : AllLeadWell (state_after es)
  pub serials : (b : Office) → IsBranch (state_after es).config b → Serials (state_after es) (come es) b

-- where nothing is in a service, nothing is strict
resting_serials : (s : State) (f : ℕ → NodeState) (b : Office) → (f b.at).service ≡ None → (exchange s b.to).serial ≤ (exchange s b.from).serial → Serials s f b
resting_serials s f b none_ low = record {
  shape = inl none_;
  no_more = low;
  first = λ a k v r is busy. absurd (none-some _ (sym none_ ∙ ap (λ (n : NodeState). n.service) is));
  second = λ a k v r is idle. absurd (none-some _ (sym none_ ∙ ap (λ (n : NodeState). n.service) is));
}

nothing_moves : Books []
nothing_moves = record {
  ledger = record { carries = λ n. 0; has = λ n. quiet refl refl; sum = refl; few = omega arith };
  leads = λ q t in_use leads. absurd (cc leads);
  serials = λ b o. absurd (cc o.there);
}

module _ (handed : StatesAreHanded) (es : List Event) (e : Event) (here : IsNext es e) (run' : IsRun (es ++ e ∷ [])) (later : HasFolds (es ++ e ∷ [])) (books : Books es) (linked : AllLinked banks_serve_tellers (state_after es).config) where
  abbrev s : State
  s = state_after es

  abbrev t : State
  t = state_after (es ++ e ∷ [])

  abbrev f : ℕ → NodeState
  f = come es

  abbrev g : ℕ → NodeState
  g = come (es ++ e ∷ [])

  abbrev size : ℕ
  size = length s.config.slots

  abbrev l : Ledger es
  l = books.ledger

  now_facts : Facts s f
  now_facts = facts handed es here.run (folds_before handed es e here run' later)

  fits : Fits s.config f
  fits = fits_of handed es here.run (folds_before handed es e here run' later)

  -- ---- an event of a node

  module _ (of_node : is_of_change e ≡ false) where
    now : Now s f g e
    now = record { legal = here.legal; of_node = of_node; folds = folds_on handed es e here run' later of_node }

    then_facts : Facts (effect s e) g
    then_facts = subst (λ x. Facts x g) here.next (facts handed (es ++ e ∷ []) run' later)

    same_config : t.config ≡ s.config
    same_config = ap (λ (x : State). x.config) here.next ∙ node_events_keep_the_configuration s e of_node

    slot_low : (n : ℕ) (m : Slot) → slot s.config n ≡ Some m → n < size
    slot_low n m there = slice_get_within s.config.slots n m there

    -- a live account gave its state to none
    keeps_own : (n : ℕ) → IsAccount s.config n → (p x : ℕ) → target s.config p ≡ Some (record { node = n; provide = x }) → list_any (hands_on n) es ≡ false
    keeps_own n a p x leads = false_from_ne_true (list_any (hands_on n) es) (λ h.
        let w = given_is_gone es here.run n h in
        let live = map_or_true (λ (m : Slot). m.live) (slot s.config n) (here.well.sound.targets p (record { node = n; provide = x }) leads).live in
        both_ways live.0.live (ap (λ (m : Slot). m.live) (same_Some live.0 w.0 (sym live.1 ∙ w.1)) ∙ w.2) live.2)

    account_had : (n : ℕ) → IsAccount s.config n → list_any (hands_on n) es ≡ false → holds es n ≡ (f n).kept.total
    account_had n a none_ = (λ i. held_by (account_if s.config n a i) (none_ i) (f n).kept.total)

    gives_none : (n : ℕ) → hands_on n e ≡ false
    gives_none n = by e of_node
      where
        by : (z : Event) → is_of_change z ≡ false → hands_on n z ≡ false
        by (Make k node from) h = absurd (both_ways true h refl)
        by _ h = refl

    -- what accounts have, by what they keep
    held_then : (n : ℕ) → holds (es ++ e ∷ []) n ≡ held_by (is_account_at s.config n) (list_any (hands_on n) es) (g n).kept.total
    held_then n = (λ i. held_by (is_account_at (same_config i) n) (given_more n es e (gives_none n) i) (g n).kept.total)

    held_same : (n : ℕ) → (IsAccount s.config n → is_doer s n e ≡ true → is_take e ≡ false) → holds (es ++ e ∷ []) n ≡ holds es n
    held_same n calm =
        held_then n ∙ same_total (is_account_at s.config n) (list_any (hands_on n) es) (g n).kept.total (f n).kept.total (λ h.
        let a = account_is s.config n h in keeps_total s f g now_facts fits e now then_facts books.leads books.serials n a (calm a))

    branch_held : (n : ℕ) → IsOfKind s.config n Branch → (holds es n ≡ 0) × (holds (es ++ e ∷ []) n ≡ 0)
    branch_held n b = (
      ap (λ x. held_by x (list_any (hands_on n) es) (f n).kept.total) (no_account s.config n b),
      held_then n ∙ ap (λ x. held_by x (list_any (hands_on n) es) (g n).kept.total) (no_account s.config n b),
    )

    -- an amount and a balance have room
    room : (n : ℕ) (b : Office) → b.at ≡ n → IsOffice s.config b → (f b.payee).kept.total + l.carries n < 2 ^ 64
    room n b at o =
        let both = two_terms (λ i. l.carries i + holds es i) b.at b.payee size (slot_low b.at o.branch.made o.branch.there) (slot_low b.payee o.payee.made o.payee.there)
        (λ same. cc (one_kind s.config b.payee Branch Account (subst (λ i. IsOfKind s.config i Branch) same (of_branch s.config b o.branch)) o.payee)) in
        let total = account_had b.payee o.payee (keeps_own b.payee o.payee b.to 0 o.to_leads) in
        let whole = l.sum in
        let few = l.few in
        let nodes = here.well.sound.few_nodes in
        let same = ap l.carries at in omega (arith, both, total, whole, few, nodes, same)

    go : (n : ℕ) → Went s f g now_facts fits e now then_facts books.leads books.serials n (l.carries n)
    go n = went s f g now_facts fits e now then_facts books.leads books.serials n (l.carries n) (l.has n) (room n)

    abbrev carries_then : ℕ → ℕ
    carries_then n = (go n).next

    before : ℕ → ℕ
    before n = l.carries n + holds es n

    after : ℕ → ℕ
    after n = carries_then n + holds (es ++ e ∷ []) n

    -- where no account takes at an office, all stays
    all_same : Calm s f g now_facts fits e now then_facts books.leads books.serials → (n : ℕ) → after n ≡ before n
    unfolding before after
    all_same w n =
        let a = (go n).calm (λ b at o. w.no_office_pays b o) in
        let b = held_same n (λ acc does. w.no_account_takes n acc does) in omega (arith, a, b)

    -- else it goes over from the branch to the account, or back
    paid : (w : Pays s f g now_facts fits e now then_facts books.leads books.serials) → sum_by after (range_with_len 0 size) ≡ sum_by before (range_with_len 0 size)
    unfolding before after
    paid w = sum_two after before w.b.at w.z size (slot_low w.b.at w.office.branch.made w.office.branch.there) (slot_low w.z w.is_account.made w.is_account.there) apart others pair
      where
        kind : IsOfKind s.config w.b.at Branch
        kind = of_branch s.config w.b w.office.branch

        apart : w.b.at ≡ w.z → ⊥
        apart same = cc (one_kind s.config w.z Branch Account (subst (λ i. IsOfKind s.config i Branch) same kind) w.is_account)

        -- no other office has the port
        not_there : (n : ℕ) → (n ≡ w.b.at → ⊥) → (p : ℕ) → owner s.config p ≡ n → takes_at p e ≡ false
        not_there n other p owned = false_from_ne_true (takes_at p e) (λ h.
            let a = take_at p e h in
            let b = take_at w.port e w.take in
            let same : p ≡ w.port = port_same (sym a.is ∙ b.is) in
            other (sym owned ∙ ap (owner s.config) same ∙ w.owned))
          where
            port_in : Event → ℕ
            port_in (Take q k v) = q
            port_in _ = 0

            port_same : {p q k j v x : ℕ} → Take p k v ≡ Take q j x → p ≡ q
            port_same h = cc h

        others : (n : ℕ) → (n ≡ w.b.at → ⊥) → (n ≡ w.z → ⊥) → after n ≡ before n
        others n other no_z =
            let a = (go n).calm (λ b at o.
            let own = office_owned s.config here.well.sound b o.branch in (not_there n other b.from (own.0 ∙ at), not_there n other b.to (own.1 ∙ at))) in
            let b = held_same n (λ acc does. absurd (no_z (doer_is n does))) in omega (arith, a, b)
          where
            doer_is : (n : ℕ) → is_doer s n e ≡ true → n ≡ w.z
            doer_is n does =
                let a = take_at w.port e w.take in
                let led = led_to s f g now_facts w.port n (subst (λ z. is_doer s n z ≡ true) a.is does) in
                sym led.2 ∙ ap (λ (x : Target). x.node) (same_Some led.0 _ (sym led.1 ∙ w.leads))

        pair : after w.b.at + after w.z ≡ before w.b.at + before w.z
        pair =
            let over = w.over (l.carries w.b.at) (go w.b.at) in
            let own = branch_held w.b.at kind in
            let own_0 = own.0 in
            let own_1 = own.1 in
            let none_ = keeps_own w.z w.is_account w.port 0 w.leads in
            let had = account_had w.z w.is_account none_ in
            let has : holds (es ++ e ∷ []) w.z ≡ (g w.z).kept.total = held_then w.z ∙ (λ i. held_by (account_if s.config w.z w.is_account i) (none_ i) (g w.z).kept.total) in
            let nothing = account_has s f w.z (l.carries w.z) w.is_account (l.has w.z) in
            let then_account = subst (λ c. IsAccount c w.z) (sym (node_events_keep_the_configuration s e of_node)) w.is_account in
            let nothing_then = account_has (effect s e) g w.z (carries_then w.z) then_account (go w.z).has in
            omega (arith, over, own_0, own_1, had, has, nothing, nothing_then)

    same_sum : sum_by after (range_with_len 0 size) ≡ sum_by before (range_with_len 0 size)
    same_sum = ⊎_elim
        (λ (w : Pays s f g now_facts fits e now then_facts books.leads books.serials). paid w)
        (λ (w : Calm s f g now_facts fits e now then_facts books.leads books.serials). sum_same after before size (all_same w))
        (paying s f g now_facts fits e now then_facts books.leads books.serials (λ n. (l.carries n, l.has n)))

    opens_nothing : sum_by opened_in (es ++ e ∷ []) ≡ sum_by opened_in es
    opens_nothing = let w = sum_by_push opened_in es e in let none_ = by e of_node in omega (arith, w, none_)
      where
        by : (z : Event) → is_of_change z ≡ false → opened_in z ≡ 0
        by (Make k node from) h = absurd (both_ways true h refl)
        by _ h = refl

    same_size : length t.config.slots ≡ size
    same_size = ap (λ (c : Configuration). length c.slots) same_config

    pub node_books : Books (es ++ e ∷ [])
    unfolding before after
    node_books = record {
      ledger = record {
        carries = carries_then;
        has = λ n. subst (λ x. Has x g n (carries_then n)) (sym here.next) (go n).has;
        sum = ap (λ n. sum_by (λ n. carries_then n + holds (es ++ e ∷ []) n) (range_with_len 0 n)) same_size ∙ same_sum ∙ l.sum ∙ sym opens_nothing;
        few = let a = l.few in let b = opens_nothing in let c = same_size in omega (arith, a, ap (λ n. n * VALUE_LIMIT) c, b);
      };
      leads = subst AllLeadWell (sym here.next) (lead_on s f now_facts e here.legal linked (nodes_are_named es here.run) (λ q is. absurd (both_ways (is_of_change e) of_node (ap is_of_change is))) books.leads);
      serials = λ b o. subst (λ x. Serials x g b) (sym here.next) (counted s f g now_facts fits e now b (subst (λ c. IsBranch c b) same_config o) (books.serials b (subst (λ c. IsBranch c b) same_config o)));
    }

  -- ---- an event of the change

  module _ (change : is_of_change e ≡ true) (opens : (q : ℕ) → e ≡ Reopen q → (x : Graph) × IsGraphOf s.config x × IsBank x) where
    has_then : (n : ℕ) → Has t g n (l.carries n)
    has_then n = carried_on handed es e here run' later change n (l.carries n) (l.has n)

    serials_then : (b : Office) → IsBranch t.config b → Serials t g b
    serials_then b o = ⊎_elim (λ (old : b.at < size). of_old old) (λ (new_ : size ≤ b.at). of_new new_) (cases_lt b.at size)
      where
        ex : (q : ℕ) → exchange t q ≡ exchange s q
        ex = same_exchange handed es e here run' later change

        of_old : b.at < size → Serials t g b
        of_old old =
            let r = reconfigured s e here.legal in
            let w = slot_was s.config (effect s e).config e r b.at o.made old (sym (ap (λ (x : State). slot x.config b.at) here.next) ∙ o.there) in
            let was : IsBranch s.config b = record { made = w.0; there = w.1; kind = ap (λ (x : Node). x.kind) w.3 ∙ o.kind; first = w.2 ∙ o.first; second = o.second } in
            let before = books.serials b was in
            let own = old_stays handed es e here run' change b.at w.0 w.1 in
            let low = before.no_more in
            let from = ap (λ (x : Exchange). x.serial) (ex b.from) in
            let to = ap (λ (x : Exchange). x.serial) (ex b.to) in
            record {
              shape = subst (λ n. (n.service ≡ None) ⊎ AtWork n) (sym own) before.shape;
              no_more = omega (arith, low, from, to);
              first = λ a k v r is busy.
                  let h = before.first a k v r (sym own ∙ is) (sym (ap (λ (x : Exchange). is_idle x.phase) (ex b.from)) ∙ busy) in omega (arith, h, from, to);
              second = λ a k v r is idle.
                  let h = before.second a k v r (sym own ∙ is) (sym (ap (λ (x : Exchange). is_idle x.phase) (ex b.to)) ∙ idle) in omega (arith, h, from, to);
            }

        -- what is made then is at rest, and its ports are fresh
        of_new : size ≤ b.at → Serials t g b
        of_new past = by e (reconfigured s e here.legal).slots refl
          where
            there' : slot (effect s e).config b.at ≡ Some o.made
            there' = sym (ap (λ (x : State). slot x.config b.at) here.next) ∙ o.there

            none_past : slot s.config b.at ≡ None
            none_past = by_slot (slot s.config b.at) refl
              where
                by_slot : (x : Option Slot) → slot s.config b.at ≡ x → slot s.config b.at ≡ None
                by_slot None is = is
                by_slot (Some m) is = let low = slice_get_within s.config.slots b.at m is in absurd (omega (arith, low, past))

            resting : (g b.at).service ≡ None
            resting = still handed es e here run' later change b.at (rest_of none_past)
              where
                rest_of : slot s.config b.at ≡ None → (f b.at).service ≡ None
                rest_of is = by_service (f b.at).service refl
                  where
                    by_service : (x : Option _) → (f b.at).service ≡ x → (f b.at).service ≡ None
                    by_service None h = h
                    by_service (Some w) h =
                        let v = now_facts.served b.at w h in
                        absurd (none-some v.0 (sym (get_or_past s.traffic.services b.at None (let n = here.well.services in omega (arith, n, past))) ∙ v.1))

            fresh : (q : ℕ) → length s.config.gates ≤ q → (exchange t q).serial ≡ 0
            fresh q beyond =
                ap (λ (x : Exchange). x.serial)
                (ex q ∙ get_or_past s.traffic.exchanges q fresh_exchange (let n = here.well.exchanges in omega (arith, n, beyond)))

            by : (z : Event) → ((n : ℕ) → slot (effect s e).config n ≡ slot_next s.config n e) → e ≡ z → Serials t g b
            by (Make k node from) slots at = made_there (b.at == size) refl
              where
                is : (n : ℕ) → slot (effect s e).config n ≡ slot_next s.config n (Make k node from)
                is n = slots n ∙ ap (slot_next s.config n) at

                made_there : (x : Bool) → (b.at == size) ≡ x → Serials t g b
                made_there false other = absurd (none-some o.made (sym (is b.at ∙ rw other none_past) ∙ there'))
                made_there true same =
                    let new_one : Slot = record { node = node; first_port = length s.config.gates; from = from; live = true } in
                    let new_there : slot (effect s e).config b.at ≡ Some new_one = is b.at ∙ rw same refl in
                    let first : length s.config.gates ≡ b.from = ap (λ (m : Slot). m.first_port) (same_Some new_one o.made (sym new_there ∙ there')) ∙ o.first in
                    let second = o.second in
                    let x = fresh b.from (omega (arith, first)) in
                    let y = fresh b.to (omega (arith, first, second)) in
                    resting_serials t g b resting (omega (arith, x, y))
            by (Remove k) slots at = absurd (none-some o.made (sym (slots b.at ∙ ap (slot_next s.config b.at) at ∙ removed (b.at == k) (slot s.config b.at) none_past) ∙ there'))
              where
                removed : (x : Bool) (y : Option Slot) → y ≡ None → cond x (option_map (λ (m : Slot). record m { live = false }) y) y ≡ None
                removed true y h = ap (option_map (λ (m : Slot). record m { live = false })) h
                removed false y h = h
            by _ slots at = absurd (none-some o.made (sym (slots b.at ∙ ap (slot_next s.config b.at) at ∙ none_past) ∙ there'))

    leads_then : AllLeadWell t
    leads_then = subst AllLeadWell (sym here.next) (lead_on s f now_facts e here.legal linked (nodes_are_named es here.run) opens books.leads)

    -- none is made
    calm_books : is_make e ≡ false → Books (es ++ e ∷ [])
    calm_books none_made = record {
      ledger = record {
        carries = l.carries;
        has = has_then;
        sum = ap (λ n. sum_by (λ n. l.carries n + holds (es ++ e ∷ []) n) (range_with_len 0 n)) same_size
            ∙ sum_same (λ n. l.carries n + holds (es ++ e ∷ []) n) (λ n. l.carries n + holds es n) size (λ n. ap (λ x. l.carries n + x) (all_held handed es e here run' later change none_made n)) ∙ l.sum ∙ sym opens_nothing;
        few = let a = l.few in let b = opens_nothing in let c = ap (λ n. n * VALUE_LIMIT) same_size in omega (arith, a, b, c);
      };
      leads = leads_then;
      serials = serials_then;
    }
      where
        same_size : length t.config.slots ≡ size
        same_size = ap (λ (x : State). length x.config.slots) here.next ∙ (reconfigured s e here.legal).nodes ∙ by e none_made
          where
            by : (z : Event) → is_make z ≡ false → nodes_next s.config z ≡ size
            by (Make k node from) h = absurd (both_ways true h refl)
            by _ h = refl

        opens_nothing : sum_by opened_in (es ++ e ∷ []) ≡ sum_by opened_in es
        opens_nothing = let w = sum_by_push opened_in es e in let none_ = by e none_made in omega (arith, w, none_)
          where
            by : (z : Event) → is_make z ≡ false → opened_in z ≡ 0
            by (Make k node from) h = absurd (both_ways true h refl)
            by _ h = refl

    -- a slot that wasn't made carries nothing
    fresh_carries : l.carries size ≡ 0
    fresh_carries = rest_has s f size (l.carries size) (by (f size).service refl) (l.has size)
      where
        by : (x : Option _) → (f size).service ≡ x → (f size).service ≡ None
        by None h = h
        by (Some w) h = let v = now_facts.served size w h in absurd (none-some v.0 (sym (get_or_past s.traffic.services size None (let n = here.well.services in omega (arith, n))) ∙ v.1))

-- a node is made
made_books : (handed : StatesAreHanded) (es : List Event) (k : ℕ) (node : Node) (from : Option ℕ) (here : IsNext es (Make k node from)) (run' : IsRun (es ++ Make k node from ∷ [])) (later : HasFolds (es ++ Make k node from ∷ [])) → Books es → AllLinked banks_serve_tellers (state_after es).config → Books (es ++ Make k node from ∷ [])
made_books handed es k node from here run' later books linked =
    let e = Make k node from in
    let l = books.ledger in
    let size = length (state_after es).config.slots in
    let opens : (q : ℕ) → e ≡ Reopen q → (x : Graph) × IsGraphOf (state_after es).config x × IsBank x = λ q is. absurd (cc is) in
    let longer : length (state_after (es ++ e ∷ [])).config.slots ≡ size + 1 = ap (λ (x : State). length x.config.slots) here.next ∙ (reconfigured (state_after es) e here.legal).nodes in
    let zero_ = fresh_carries handed es e here run' later books linked refl opens in
    let whole = made_sum handed es k node from here run' later l.carries zero_ in
    let pushed = sum_by_push opened_in es e in
    let value = opens_with_a_value handed es k node from here run' later in
    let few = l.few in
    let wider = ap (λ n. n * VALUE_LIMIT) longer in
    record {
      ledger = record {
        carries = l.carries;
        has = has_then handed es e here run' later books linked refl opens;
        sum = ap (λ n. sum_by (λ n. l.carries n + holds (es ++ e ∷ []) n) (range_with_len 0 n)) longer ∙ whole ∙ ap (λ n. n + opened_in e) l.sum ∙ sym pushed;
        few = omega (arith, pushed, value, few, wider);
      };
      leads = leads_then handed es e here run' later books linked refl opens;
      serials = serials_then handed es e here run' later books linked refl opens;
    }

module _ (handed : StatesAreHanded) where
  books_next : (es : List Event) (e : Event) → IsNext es e → IsRun (es ++ e ∷ []) → HasFolds (es ++ e ∷ []) → ((q : ℕ) → e ≡ Reopen q → (x : Graph) × IsGraphOf (state_after es).config x × IsBank x) → Books es → AllLinked banks_serve_tellers (state_after es).config → Books (es ++ e ∷ [])
  books_next es e here run' later opens books linked = ⊎_elim
      (λ (change : is_of_change e ≡ true). ⊎_elim
      (λ (make : is_make e ≡ true). by_make e here run' later make)
      (λ (none_made : is_make e ≡ false). calm_books handed es e here run' later books linked change opens none_made)
      (cases_Bool (is_make e)))
      (λ (of_node : is_of_change e ≡ false). node_books handed es e here run' later books linked of_node)
      (cases_Bool (is_of_change e))
    where
      by_make : (z : Event) → IsNext es z → IsRun (es ++ z ∷ []) → HasFolds (es ++ z ∷ []) → is_make z ≡ true → Books (es ++ z ∷ [])
      by_make (Make k node from) here run' later h = made_books handed es k node from here run' later books linked
      by_make _ here run' later h = absurd (both_ways false refl h)

  books_from : (done rest : List Event) → IsRun (done ++ rest) → OpensBanks (done ++ rest) → HasFolds (done ++ rest) → LinkedSo (done ++ rest) → Books done → Books (done ++ rest)
  books_from done [] run opens folds linked books = subst Books (sym (append-nil done)) books
  books_from done (e ∷ rest) run opens folds linked books =
      let all = append_assoc done (e ∷ []) rest in
      let at = at_place handed (done ++ e ∷ rest) run folds done rest e refl in
      let next = books_next done e (place done rest e run) at.0 at.1 (λ q is. let n = opens done rest q (ap (λ z. done ++ z ∷ rest) is) in (n.graph, n.stands, n.has)) books (linked done (e ∷ rest) refl) in
      subst Books all (books_from (done ++ e ∷ []) rest (subst (λ xs. IsRun xs) (sym all) run) (subst (λ xs. OpensBanks xs) (sym all) opens) (subst (λ xs. HasFolds xs) (sym all) folds) (λ before after is. linked before after (sym all ∙ is)) next)

  pub keep_books : (es : List Event) → IsRun es → OpensBanks es → HasFolds es → LinkedSo es → Books es
  keep_books es run opens folds linked = books_from [] es run opens folds linked nothing_moves
