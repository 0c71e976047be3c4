-- An event of a node leaves the sum: what a branch carries and what its account has go over at the account's Take.
use Rattle.std.proofs.Common.{◌≡◌, ◌∙◌, ℕ, ◌+◌, ◌<◌, Bool, true, false, cond, [], ◌∷◌, length, Option, Some, None, refl, sym, ap, subst, arith, inl, inr, ⊎_elim}
use Rattle.std.specs.Prelude.{◌⊎◌, ◌==◌, ◌||◌, ◌^◌, is_none}
use Rattle.std.proofs.lemmas.Bool.{both_ways, cases_Bool, eq-eqb, eqb-true, false_from_ne_true, ne_eqb}
use Rattle.std.proofs.lemmas.Option.{none-some, same_Some}
use Rattle.base.proofs.OptionLaws.{Some-from_is_some}
use Rattle.config_graph.specs.declared.kind.Kind.TheVariants.{Branch, Account}
use Rattle.config_graph.specs.declared.node.Target.{Target}
use Rattle.component_trait.specs.Moves as moves
use Rattle.component_trait.specs.States.{Kept, NodeState}
use Rattle.component_trait.specs.States as node
use Rattle.quiesce_word.specs.Phases.{is_idle}
use Rattle.quiesce_word.specs.declared.word.TheConstants.{LAST_SERIAL}
use Rattle.quiesce_word.proofs.PhaseLaws.{asked_busy}
use Rattle.quiesce_core.specs.Alters.{service_by}
use Rattle.quiesce_core.specs.Effect.{effect}
use Rattle.quiesce_core.specs.Legal.{Legal}
use Rattle.quiesce_core.specs.Rules.{is_missing}
use Rattle.quiesce_core.specs.Runs.{is_doer}
use Rattle.quiesce_core.specs.State.{State, exchange, owner, service, target}
use Rattle.quiesce_core.specs.declared.event.Event.{Event}
use Rattle.quiesce_core.specs.declared.event.Event.TheVariants.{Call, Take, Give, More, Hear, Miss}
use Rattle.quiesce_core.specs.declared.state.Service.{Service}
use Rattle.quiesce_core.specs.declared.state.Slot.{Slot}
use Rattle.quiesce_core.proofs.AlterLaws.{services_next}
use Rattle.quiesce_core.proofs.ConfigurationLaws.{linked_made}
use Rattle.quiesce_core.proofs.RunLaws.{node_events_keep_the_configuration}
use Rattle.result_laws.proofs.EventLaws.{Now, idle_not_asked, is_take, kept_but_by_take, led_to, no_take, takes_at}
use Rattle.result_laws.proofs.FactLaws.{Facts, Fits, at_work, of_parts}
use Rattle.result_laws.proofs.Balance.{BranchHas, Keeps, account_kind, at_rest, keeps, rest_idle}
use Rattle.result_laws.proofs.Leading.{AllLeadWell, LeadsWell, elsewhere, to_account, to_branch}
use Rattle.result_laws.proofs.Ledger.{Has, bound, plain, quiet}
use Rattle.result_laws.proofs.Offices.{IsAccount, IsBranch, IsNoBranch, IsOffice, IsOfKind, IsOutside, Office, account_no_branch, branch_or_not, of_branch, one_kind, one_office, outside_no_branch, port_of_branch}
use Rattle.result_laws.proofs.Serials.{Serials}

module _ (s : State) (f g : ℕ → NodeState) (facts : Facts s f) (fits : Fits s.config f) (e : Event) (now : Now s f g e) (facts' : Facts (effect s e) g) (well : AllLeadWell s) (serials : (b : Office) → IsBranch s.config b → Serials s f b) where
  same_config : (effect s e).config ≡ s.config
  same_config = node_events_keep_the_configuration s e now.of_node

  -- a branch and an account are two
  apart : (n : ℕ) → IsOfKind s.config n Branch → IsAccount s.config n → ⊥
  apart n b a = cc (one_kind s.config n Branch Account b a)

  -- and so are one and a node that is none
  other_than : (n : ℕ) → IsOfKind s.config n Branch → IsNoBranch s.config n → ⊥
  other_than n b a = branch_or_not s.config n b a

  -- a branch at rest takes nothing at its ports
  rest_takes_none : (b : Office) → IsOffice s.config b → (f b.at).service ≡ None → (takes_at b.from e ≡ false) × (takes_at b.to e ≡ false)
  rest_takes_none b o none_ =
      let idle = rest_idle s f g facts fits e now b o.branch none_ in
      (no_take s f g facts b.from e now.legal (idle_not_asked s f g facts b.from idle.0), no_take s f g facts b.to e now.legal (idle_not_asked s f g facts b.to idle.1))

  -- ---- what a node carries then

  pub record Went (n c : ℕ) : Type 0 where
    pub next : ℕ
    pub has : Has (effect s e) g n next
    pub calm : ((b : Office) → b.at ≡ n → IsOffice s.config b → (takes_at b.from e ≡ false) × (takes_at b.to e ≡ false)) → next ≡ c
    pub pays : (b : Office) → b.at ≡ n → IsOffice s.config b → takes_at b.from e ≡ true → next + (g b.payer).kept.total ≡ c + (f b.payer).kept.total
    pub puts : (b : Office) → b.at ≡ n → IsOffice s.config b → takes_at b.to e ≡ true → next + (g b.payee).kept.total ≡ c + (f b.payee).kept.total

  account_then : (n : ℕ) → IsAccount s.config n → IsAccount (effect s e).config n
  account_then n a = subst (λ c. IsAccount c n) (sym same_config) a

  no_branch_then : (n : ℕ) → IsNoBranch s.config n → IsNoBranch (effect s e).config n
  no_branch_then n a = subst (λ c. IsNoBranch c n) (sym same_config) a

  office_then : (b : Office) → IsOffice s.config b → IsOffice (effect s e).config b
  office_then b o = subst (λ c. IsOffice c b) (sym same_config) o

  -- where no office is at n
  no_office : (n c : ℕ) → c ≡ 0 → Has (effect s e) g n 0 → ((b : Office) → b.at ≡ n → IsOffice s.config b → ⊥) → Went n c
  no_office n c zero_ has none_ = record { next = 0; has = has; calm = λ h. sym zero_; pays = λ b at o h. absurd (none_ b at o); puts = λ b at o h. absurd (none_ b at o) }

  -- the second port of a branch isn't spent where it is to be called
  unspent : (b : Office) → IsOffice s.config b → (a : ℕ) (k : Kept) (v r : ℕ) → f b.at ≡ at_work Branch a k v r (1 ∷ []) → is_idle (exchange s b.to).phase ≡ true → is_missing s b.to ≡ false
  unspent b o a k v r is idle =
      let low = (serials b o.branch).second a k v r is idle in
      let most = (facts.well.bounds b.from).serial in
      ap (λ t. is_none t || (exchange s b.to).serial == LAST_SERIAL) o.to_leads ∙ ne_eqb (exchange s b.to).serial LAST_SERIAL (λ h. omega (arith, low, most, h))

  by_office : (n c : ℕ) (b : Office) → b.at ≡ n → IsOffice s.config b → (f b.payee).kept.total + c < 2 ^ 64 → BranchHas s f b c → Went n c
  by_office n c b at o room has = from (keeps s f g facts fits e now b c o (unspent b o) room has)
    where
      from : Keeps s f g facts fits e now b c → Went n c
      from k = record {
        next = k.next;
        has = bound b at (office_then b o) k.has;
        calm = λ h. let w = h b at o in k.calm w.0 w.1;
        pays = λ d at' o' h.
            let one = one_office s.config d b o' o (at' ∙ sym at) in
            subst (λ (x : Office). k.next + (g x.payer).kept.total ≡ c + (f x.payer).kept.total) (sym one) (k.pays (ap (λ (x : Office). takes_at x.from e) (sym one) ∙ h));
        puts = λ d at' o' h.
            let one = one_office s.config d b o' o (at' ∙ sym at) in
            subst (λ (x : Office). k.next + (g x.payee).kept.total ≡ c + (f x.payee).kept.total) (sym one) (k.puts (ap (λ (x : Office). takes_at x.to e) (sym one) ∙ h));
      }

  -- no service begins but by a Take
  stays_out : (n : ℕ) → (f n).service ≡ None → is_take e ≡ false → (g n).service ≡ None
  stays_out n none_ other = by (g n).service refl
    where
      service_none : service s n ≡ None
      service_none = by_machine (service s n) refl
        where
          by_machine : (o : Option Service) → service s n ≡ o → service s n ≡ None
          by_machine None is = is
          by_machine (Some v) is = let w = facts.serves n v is in absurd (none-some w.0 (sym none_ ∙ w.1))

      by_none : (z : Event) → is_take z ≡ false → service_by None z ≡ None
      by_none (Take p k v) h = absurd (both_ways true h refl)
      by_none (Call p k v) h = refl
      by_none (Miss p) h = refl
      by_none (Give p k v) h = refl
      by_none (More p k v) h = refl
      by_none (Hear p k v) h = refl
      by_none _ h = refl

      then_none : service (effect s e) n ≡ None
      then_none = services_next s e facts.well now.legal n ∙ either (is_doer s n e)
        where
          either : (b : Bool) → cond b (service_by (service s n) e) (service s n) ≡ None
          either true = ap (λ o. service_by o e) service_none ∙ by_none e other
          either false = service_none

      by : (o : Option node.Service) → (g n).service ≡ o → (g n).service ≡ None
      by None is = is
      by (Some w) is = let v = facts'.served n w is in absurd (none-some v.0 (sym then_none ∙ v.1))

  -- a port at which is taken is busy, and linked
  taken_port : (q k v : ℕ) → Legal s (Take q k v) → (t : Target) → target s.config q ≡ Some t → LeadsWell s.config q
  taken_port q k v l t leads = well q t (inr (asked_busy (exchange s q).phase l.asked)) leads

  pub went : (n c : ℕ) → Has s f n c → ((b : Office) → b.at ≡ n → IsOffice s.config b → (f b.payee).kept.total + c < 2 ^ 64) → Went n c
  went n c (plain a zero_) room = no_office n c zero_ (plain (no_branch_then n a) refl) (λ b at o. other_than n (subst (λ i. IsOfKind s.config i Branch) at (of_branch s.config b o.branch)) a)
  went n c (bound b at o has) room = by_office n c b at o (room b at o) has
  went n c (quiet none_ zero_) room = by (is_doer s n e) refl
    where
      at_rest_still : (g n).service ≡ None → Went n c
      at_rest_still still = record {
        next = 0;
        has = quiet still refl;
        calm = λ h. sym zero_;
        pays = λ b at o h. absurd (both_ways (takes_at b.from e) (rest_takes_none b o (ap (λ i. (f i).service) at ∙ none_)).0 h);
        puts = λ b at o h. absurd (both_ways (takes_at b.to e) (rest_takes_none b o (ap (λ i. (f i).service) at ∙ none_)).1 h);
      }

      no_branch_here : IsNoBranch s.config n → Went n c
      no_branch_here here = no_office n c zero_ (plain (no_branch_then n here) refl) (λ b at o. other_than n (subst (λ i. IsOfKind s.config i Branch) at (of_branch s.config b o.branch)) here)

      by_taken : (q x : ℕ) → target s.config q ≡ Some (record { node = n; provide = x }) → LeadsWell s.config q → Went n c
      by_taken q x leads (to_account m y leads' a own) =
          let one : m ≡ n = ap (λ (t : Target). t.node) (same_Some _ _ (sym leads' ∙ leads)) in
          no_branch_here (account_no_branch s.config n (subst (IsAccount s.config) one a))
      by_taken q x leads (elsewhere m y leads' a) =
          let one : m ≡ n = ap (λ (t : Target). t.node) (same_Some _ _ (sym leads' ∙ leads)) in
          no_branch_here (outside_no_branch s.config n (subst (IsOutside s.config) one a))
      by_taken q x leads (to_branch b y leads' o) =
          let one : b.at ≡ n = ap (λ (t : Target). t.node) (same_Some _ _ (sym leads' ∙ leads)) in
          by_office n c b one o (room b one o) (subst (BranchHas s f b) (sym zero_) (at_rest (ap (λ i. (f i).service) one ∙ none_)))

      takes_up : (z : Event) → e ≡ z → is_take z ≡ true → is_doer s n z ≡ true → Went n c
      takes_up (Take q k v) at h does =
          let led = led_to s f g facts q n does in
          let leads : target s.config q ≡ Some (record { node = n; provide = led.0.provide }) = led.1 ∙ ap (λ i. Some (record { node = i; provide = led.0.provide })) led.2 in
          by_taken q led.0.provide leads (taken_port q k v (subst (Legal s) at now.legal) (record { node = n; provide = led.0.provide }) leads)
      takes_up _ at h does = absurd (both_ways false refl h)

      by : (t : Bool) → is_doer s n e ≡ t → Went n c
      by false other = at_rest_still (ap (λ (m : NodeState). m.service) (now.folds.others n other) ∙ none_)
      by true mine = ⊎_elim
          (λ (h : is_take e ≡ true). takes_up e refl h mine)
          (λ (h : is_take e ≡ false). at_rest_still (stays_out n none_ h))
          (cases_Bool (is_take e))

  -- ---- who pays or is paid by this event

  -- account z takes at a port of the branch of b
  pub record Pays : Type 0 where
    pub b : Office
    pub office : IsOffice s.config b
    pub z : ℕ
    pub is_account : IsAccount s.config z
    pub port : ℕ
    pub take : takes_at port e ≡ true
    pub leads : target s.config port ≡ Some (record { node = z; provide = 0 })
    pub owned : owner s.config port ≡ b.at
    pub over : (c : ℕ) (w : Went b.at c) → w.next + (g z).kept.total ≡ c + (f z).kept.total

  -- or no account takes at a port of a branch
  pub record Calm : Type 0 where
    pub no_office_pays : (b : Office) → IsOffice s.config b → (takes_at b.from e ≡ false) × (takes_at b.to e ≡ false)
    pub no_account_takes : (n : ℕ) → IsAccount s.config n → is_doer s n e ≡ true → is_take e ≡ false

  pub paying : ((n : ℕ) → (c : ℕ) × Has s f n c) → Pays ⊎ Calm
  paying all = by e refl
    where
      nothing : is_take e ≡ false → ((p : ℕ) → takes_at p e ≡ false) → Pays ⊎ Calm
      nothing h none_ = inr (record { no_office_pays = λ b o. (none_ b.from, none_ b.to); no_account_takes = λ n a does. h })

      -- whose port leads to an account, that has a call there
      by_owner : (q k v : ℕ) → e ≡ Take q k v → (m : ℕ) → owner s.config q ≡ m → IsOfKind s.config m Branch → is_idle (exchange s q).phase ≡ false → q < length s.config.gates → (c : ℕ) → Has s f m c → Pays ⊎ Calm
      by_owner q k v at m own kind busy made c (plain a zero_) = absurd (other_than m kind a)
      by_owner q k v at m own kind busy made c (quiet none_ zero_) =
          let b : Office = record { at = m; from = kind.made.first_port; to = kind.made.first_port + 1; payer = 0; payee = 0 } in
          let o : IsBranch s.config b = record { made = kind.made; there = kind.there; kind = kind.kind; first = refl; second = refl } in
          let idle = rest_idle s f g facts fits e now b o none_ in
          absurd (⊎_elim
          (λ (here : q ≡ kind.made.first_port). both_ways (is_idle (exchange s q).phase) busy (ap (λ i. is_idle (exchange s i).phase) here ∙ idle.0))
          (λ (here : q ≡ kind.made.first_port + 1). both_ways (is_idle (exchange s q).phase) busy (ap (λ i. is_idle (exchange s i).phase) here ∙ idle.1))
          (port_of_branch s.config facts.well.sound b o q made own))
      by_owner q k v at m own kind busy made c (bound b is o has) = ⊎_elim
          (λ (here : q ≡ b.from). inl (record {
            b = b;
            office = o;
            z = b.payer;
            is_account = o.payer;
            port = q;
            take = ap (takes_at q) at ∙ eq-eqb q q refl;
            leads = ap (target s.config) here ∙ o.from_leads;
            owned = own ∙ sym is;
            over = λ c w. w.pays b refl o (ap (takes_at b.from) at ∙ eq-eqb q b.from here);
          }))
          (λ (here : q ≡ b.to). inl (record {
            b = b;
            office = o;
            z = b.payee;
            is_account = o.payee;
            port = q;
            take = ap (takes_at q) at ∙ eq-eqb q q refl;
            leads = ap (target s.config) here ∙ o.to_leads;
            owned = own ∙ sym is;
            over = λ c w. w.puts b refl o (ap (takes_at b.to) at ∙ eq-eqb q b.to here);
          }))
          (port_of_branch s.config facts.well.sound b o.branch q made (own ∙ sym is))

      -- a port that leads to a branch is none of an office, and no account takes there
      by_branch : (q k v : ℕ) → e ≡ Take q k v → (b : Office) (x : ℕ) → target s.config q ≡ Some (record { node = b.at; provide = x }) → IsOffice s.config b → Pays ⊎ Calm
      by_branch q k v at b x leads o =
          let kind = of_branch s.config b o.branch in
          let none_ : (p m : ℕ) → target s.config p ≡ Some (record { node = m; provide = 0 }) → IsAccount s.config m → takes_at p e ≡ false =
          λ p m l a. ap (takes_at p) at ∙ false_from_ne_true (q == p) (λ h.
          let one : m ≡ b.at = ap (λ (t : Target). t.node) (same_Some _ _ (sym l ∙ ap (target s.config) (sym (eqb-true q p h)) ∙ leads)) in
          apart b.at kind (subst (IsAccount s.config) one a)) in
          inr (record {
            no_office_pays = λ d w. (none_ d.from d.payer w.from_leads w.payer, none_ d.to d.payee w.to_leads w.payee);
            no_account_takes = λ n a does.
                let led = led_to s f g facts q n (subst (λ z. is_doer s n z ≡ true) at does) in
                let one : n ≡ b.at = sym led.2 ∙ ap (λ (t : Target). t.node) (same_Some led.0 _ (sym led.1 ∙ leads)) in
                absurd (apart b.at kind (subst (IsAccount s.config) one a));
          })

      -- nor is one that leads out of the bank
      by_outside : (q k v : ℕ) → e ≡ Take q k v → (n x : ℕ) → target s.config q ≡ Some (record { node = n; provide = x }) → IsOutside s.config n → Pays ⊎ Calm
      by_outside q k v at n x leads o =
          let no_account : (m : ℕ) → m ≡ n → IsAccount s.config m → ⊥ =
          λ m one a. let b = subst (IsAccount s.config) one a in o.no_account (ap (λ (y : Slot). y.node.kind) (same_Some o.made b.made (sym o.there ∙ b.there)) ∙ b.kind) in
          let none_ : (p m : ℕ) → target s.config p ≡ Some (record { node = m; provide = 0 }) → IsAccount s.config m → takes_at p e ≡ false =
          λ p m l a. ap (takes_at p) at ∙ false_from_ne_true (q == p) (λ h.
          no_account m (ap (λ (t : Target). t.node) (same_Some _ _ (sym l ∙ ap (target s.config) (sym (eqb-true q p h)) ∙ leads))) a) in
          inr (record {
            no_office_pays = λ d w. (none_ d.from d.payer w.from_leads w.payer, none_ d.to d.payee w.to_leads w.payee);
            no_account_takes = λ m a does.
                let led = led_to s f g facts q m (subst (λ z. is_doer s m z ≡ true) at does) in
                absurd (no_account m (sym led.2 ∙ ap (λ (t : Target). t.node) (same_Some led.0 _ (sym led.1 ∙ leads))) a);
          })

      by : (z : Event) → e ≡ z → Pays ⊎ Calm
      by (Take q k v) at =
          let l = subst (Legal s) at now.legal in
          let busy = asked_busy (exchange s q).phase l.asked in
          let t = Some-from_is_some (target s.config q) (facts.traffic.linked q busy) in
          at_port (taken_port q k v l t.0 t.1) busy (linked_made s.config q t.0 t.1)
        where
          at_port : LeadsWell s.config q → is_idle (exchange s q).phase ≡ false → q < length s.config.gates → Pays ⊎ Calm
          at_port (to_account n x leads a kind) busy made = let w = all (owner s.config q) in by_owner q k v at (owner s.config q) refl kind busy made w.0 w.1
          at_port (to_branch b x leads o) busy made = by_branch q k v at b x leads o
          at_port (elsewhere n x leads o) busy made = by_outside q k v at n x leads o
      by _ at = nothing (ap is_take at) (λ q. ap (takes_at q) at)

  -- ---- what an account keeps

  pub keeps_total : (n : ℕ) → IsAccount s.config n → (is_doer s n e ≡ true → is_take e ≡ false) → (g n).kept.total ≡ (f n).kept.total
  keeps_total n a no_take_ = by (is_doer s n e) refl
    where
      by : (b : Bool) → is_doer s n e ≡ b → (g n).kept.total ≡ (f n).kept.total
      by false other = ap (λ (m : NodeState). m.kept.total) (now.folds.others n other)
      by true mine =
          let wants : moves.wants (f n) ≡ None = ap moves.wants (of_parts (f n) Account (f n).service (account_kind s f g facts fits e now n a) refl) in
          ap (λ (k : Kept). k.total) (kept_but_by_take a.made.first_port (f n) (g n) e wants (no_take_ mine) (now.folds.mine n a.made a.there mine))
