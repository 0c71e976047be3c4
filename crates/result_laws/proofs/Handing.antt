-- An event of the change leaves the sum: what an account that is gone has goes over where another takes over from it,
-- and what one opens with comes in.
use Rattle.std.proofs.Common.{◌≡◌, ◌∙◌, ℕ, ◌+◌, ◌*◌, ◌<◌, ◌≤◌, Bool, true, false, cond, not, List, [], ◌∷◌, ◌++◌, length, Option, Some, None, refl, sym, ap, subst, arith}
use Rattle.std.specs.Prelude.{◌==◌, ◌&&◌, ◌||◌, is_none, is_some, option_and_then, option_map, sum_by}
use Rattle.std.specs.List.{list_any, range_with_len}
use Rattle.std.specs.Option.{option_map_or}
use Rattle.std.proofs.lemmas.Bool.{and_parts, both_ways, eq-eqb, false_from_ne_true, ltb-true, ne_eqb, not-true}
use Rattle.std.proofs.lemmas.List.Folds.{list_any-append}
use Rattle.std.proofs.lemmas.Option.{none-some, same_Some, slice_get_within}
use Rattle.base.proofs.OptionLaws.{map_or_true}
use Rattle.config_graph.specs.Kinds.{row}
use Rattle.config_graph.specs.declared.TheConstants.{VALUE_LIMIT}
use Rattle.config_graph.specs.declared.kind.Kind.{Kind}
use Rattle.config_graph.specs.declared.node.Node.{Node}
use Rattle.config_graph.specs.declared.node.Target.{Target}
use Rattle.component_trait.specs.States.{Kept, NodeState}
use Rattle.component_trait.specs.States as node
use Rattle.component_trait.specs.Tables.{opening}
use Rattle.quiesce_word.specs.Phases.{is_answered, is_asked, is_idle}
use Rattle.quiesce_core.specs.Alters.{Reconfigures, service_by, slot_next}
use Rattle.quiesce_core.specs.Doers.{is_make, is_of_change}
use Rattle.quiesce_core.specs.Rules.{has_its_argument, is_kind, is_taken, is_value, value_limit, was_moved}
use Rattle.quiesce_core.specs.Runs.{IsRun, state_after}
use Rattle.quiesce_core.specs.State.{Configuration, State, exchange, owner, service, slot, target}
use Rattle.quiesce_core.specs.declared.event.Event.{Event}
use Rattle.quiesce_core.specs.declared.event.Event.TheVariants.{Make, Remove}
use Rattle.quiesce_core.specs.declared.state.Exchange.{Exchange}
use Rattle.quiesce_core.specs.declared.state.Service.{Service}
use Rattle.quiesce_core.specs.declared.state.Slot.{Slot}
use Rattle.quiesce_core.proofs.AlterLaws.{exchanges_next, reconfigured, services_next}
use Rattle.quiesce_core.proofs.InductionLaws.{IsNext}
use Rattle.quiesce_core.proofs.StabilityLaws.{serving_nodes_stay}
use Rattle.change_round_laws.proofs.FoldLaws.{StatesAreHanded}
use Rattle.result_laws.specs.Coming.{HasFolds, come}
use Rattle.result_laws.proofs.AgreeingLaws.{change_does}
use Rattle.result_laws.proofs.ComingLaws.{facts, folds_before, folds_stay, given_to, made_has, old_stays}
use Rattle.result_laws.proofs.EventLaws.{nothing_there}
use Rattle.result_laws.proofs.FactLaws.{Facts}
use Rattle.result_laws.specs.Sums.{is_account}
use Rattle.result_laws.proofs.Adding.{sum_more, sum_one, sum_two}
use Rattle.result_laws.proofs.Balance.{BranchHas, Calls, answered, answers, at_rest, first_idle, first_open, second_idle, second_open, taken, waiting}
use Rattle.result_laws.proofs.Giving.{given_is_gone, given_was_moved, hands_on}
use Rattle.result_laws.proofs.Ledger.{Has, account_is, bound, holds, held_by, is_account_at, kind_is_account, opened_in, plain, quiet, rest_has}
use Rattle.result_laws.proofs.Offices.{Office, no_branch_stays, office_owned, office_stays}
use Rattle.quiesce_core.proofs.ArgumentLaws.{kinds_are_one}

-- ---- what a branch carries, where nothing of its own and of its accounts changes

calls_on : (s t : State) (q x : ℕ) (n m : NodeState) (Says : ℕ → Bool → Type 0) (d : Bool) → exchange t q ≡ exchange s q → is_taken t q ≡ is_taken s q → m ≡ n → Calls s q x n Says d → Calls t q x m Says d
calls_on s t q x n m Says d same took one (waiting a v u dn) = waiting (ap (λ (y : Exchange). is_asked y.phase) same ∙ a) (ap (λ (y : Exchange). y.value) same ∙ v) (took ∙ u) dn
calls_on s t q x n m Says d same took one (taken r a v u has said) =
    taken r (ap (λ (y : Exchange). is_asked y.phase) same ∙ a) (ap (λ (y : Exchange). y.value) same ∙ v) (took ∙ u) (record { arg = has.arg; kept = has.kept; is = one ∙ has.is }) said
calls_on s t q x n m Says d same took one (answered a said) = answered (ap (λ (y : Exchange). is_answered y.phase) same ∙ a) (subst (λ (y : Exchange). Says y.value d) (sym same) said)

record Unmoved (s t : State) (f g : ℕ → NodeState) (b : Office) : Type 0 where
  exchanges : (q : ℕ) → exchange t q ≡ exchange s q
  took_from : is_taken t b.from ≡ is_taken s b.from
  took_to : is_taken t b.to ≡ is_taken s b.to
  own : g b.at ≡ f b.at
  payer : g b.payer ≡ f b.payer
  payee : g b.payee ≡ f b.payee

branch_on : (s t : State) (f g : ℕ → NodeState) (b : Office) (c : ℕ) → Unmoved s t f g b → BranchHas s f b c → BranchHas t g b c
branch_on s t f g b _ u (at_rest none_) = at_rest (ap (λ (n : NodeState). n.service) u.own ∙ none_)
branch_on s t f g b _ u (first_idle a k v r small is idle) = first_idle a k v r small (u.own ∙ is) (ap (λ (y : Exchange). is_idle y.phase) (u.exchanges b.from) ∙ idle)
branch_on s t f g b _ u (first_open a k v r d small is calls) = first_open a k v r d small (u.own ∙ is) (calls_on s t b.from (2 * v + 1) (f b.payer) (g b.payer) _ d (u.exchanges b.from) u.took_from u.payer calls)
branch_on s t f g b _ u (second_idle a k v r small is idle) = second_idle a k v r small (u.own ∙ is) (ap (λ (y : Exchange). is_idle y.phase) (u.exchanges b.to) ∙ idle)
branch_on s t f g b _ u (second_open a k v r d small is calls) = second_open a k v r d small (u.own ∙ is) (calls_on s t b.to (2 * v) (f b.payee) (g b.payee) _ d (u.exchanges b.to) u.took_to u.payee calls)
branch_on s t f g b _ u (answers a k v r xs z hands_on is) = answers a k v r xs z hands_on (u.own ∙ is)

-- ---- kinds

same_kinds : (j k : Kind) → is_kind j k ≡ true → is_account j ≡ is_account k
same_kinds j k h = ap is_account (kinds_are_one j k h)

-- slots keep their kinds
pub account_stays : (c d : Configuration) (e : Event) → Reconfigures c e d → (n : ℕ) → (is_make e ≡ true → n ≡ length c.slots → ⊥) → is_account_at d n ≡ is_account_at c n
account_stays c d e r n old = ap (λ o. option_map_or (λ (m : Slot). is_account m.node.kind) o false) (r.slots n) ∙ by e old
  where
    removed : (b : Bool) (o : Option Slot) → option_map_or (λ (m : Slot). is_account m.node.kind) (cond b (option_map (λ (k : Slot). record k { live = false }) o) o) false ≡ option_map_or (λ (m : Slot). is_account m.node.kind) o false
    removed true None = refl
    removed true (Some m) = refl
    removed false o = refl

    by : (z : Event) → (is_make z ≡ true → n ≡ length c.slots → ⊥) → option_map_or (λ (m : Slot). is_account m.node.kind) (slot_next c n z) false ≡ is_account_at c n
    by (Make k node from) old = rw (ne_eqb n (length c.slots) (old refl)) refl
    by (Remove k) old = removed (n == k) (slot c n)
    by _ old = refl

pub same_total : (account given : Bool) (x y : ℕ) → (account ≡ true → x ≡ y) → held_by account given x ≡ held_by account given y
same_total true given x y h = ap (λ k. cond given 0 k) (h refl)
same_total false given x y h = refl

pub given_more : (n : ℕ) (es : List Event) (e : Event) → hands_on n e ≡ false → list_any (hands_on n) (es ++ e ∷ []) ≡ list_any (hands_on n) es
given_more n es e h = list_any-append (hands_on n) es (e ∷ []) ∙ ap (λ b. list_any (hands_on n) es || (b || false)) h ∙ either (list_any (hands_on n) es)
  where
    either : (b : Bool) → (b || (false || false)) ≡ b
    either true = refl
    either false = refl

module _ (handed : StatesAreHanded) (es : List Event) (e : Event) (here : IsNext es e) (run' : IsRun (es ++ e ∷ [])) (later : HasFolds (es ++ e ∷ [])) (change : is_of_change e ≡ true) where
  abbrev s : State
  s = state_after es

  abbrev t : State
  t = state_after (es ++ e ∷ [])

  abbrev f : ℕ → NodeState
  f = come es

  abbrev g : ℕ → NodeState
  g = come (es ++ e ∷ [])

  now_facts : Facts s f
  now_facts = facts handed es here.run (folds_before handed es e here run' later)

  then_facts : Facts t g
  then_facts = facts handed (es ++ e ∷ []) run' later

  reconfigured_so : Reconfigures s.config e t.config
  reconfigured_so = subst (λ (x : State). Reconfigures s.config e x.config) (sym here.next) (reconfigured s e here.legal)

  pub same_exchange : (q : ℕ) → exchange t q ≡ exchange s q
  same_exchange q = ap (λ (x : State). exchange x q) here.next ∙ exchanges_next s e here.well here.legal q ∙ nothing_there s q e change

  same_service : (n : ℕ) → service t n ≡ service s n
  same_service n = ap (λ (x : State). service x n) here.next ∙ services_next s e here.well here.legal n ∙ ap (λ b. cond b (service_by (service s n) e) (service s n)) (change_does s e n change)

  same_taken : (q : ℕ) → target t.config q ≡ target s.config q → is_taken t q ≡ is_taken s q
  same_taken q same = λ i. option_map_or (λ (v : Service). v.port == q) (option_and_then (λ (x : Target). same_service x.node i) (same i)) false

  -- a node in no service is in none then
  pub still : (n : ℕ) → (f n).service ≡ None → (g n).service ≡ None
  still n none_ = by (g n).service refl
    where
      by : (o : Option node.Service) → (g n).service ≡ o → (g n).service ≡ None
      by None is = is
      by (Some w) is =
          let v = then_facts.served n w is in
          let old = now_facts.serves n v.0 (sym (same_service n) ∙ v.1) in absurd (none-some old.0 (sym none_ ∙ old.1))

  pub carried_on : (n c : ℕ) → Has s f n c → Has t g n c
  carried_on n c has = by (f n).service refl has
    where
      in_service : (w : node.Service) → (f n).service ≡ Some w → Has s f n c → Has t g n c
      in_service w is (quiet none_ zero_) = absurd (none-some w (sym none_ ∙ is))
      in_service w is (plain a zero_) = plain (no_branch_stays s.config t.config e reconfigured_so n a) zero_
      in_service w is (bound b at o has) =
          let v = now_facts.served n w is in
          let own = office_owned s.config here.well.sound b o.branch in
          let stays_so : (p : ℕ) → owner s.config p ≡ b.at → target t.config p ≡ target s.config p = λ p owned.
          ap (λ (x : State). target x.config p) here.next ∙ serving_nodes_stay s e here.well here.legal n v.0 v.1 p (owned ∙ at) in
          let from = stays_so b.from own.0 in
          let to = stays_so b.to own.1 in
          bound b at (office_stays s.config t.config e reconfigured_so b o from to)
          (branch_on s t f g b c
          (record {
            exchanges = same_exchange;
            took_from = same_taken b.from from;
            took_to = same_taken b.to to;
            own = old_stays handed es e here run' change b.at o.branch.made o.branch.there;
            payer = old_stays handed es e here run' change b.payer o.payer.made o.payer.there;
            payee = old_stays handed es e here run' change b.payee o.payee.made o.payee.there;
          })
          has)

      by : (o : Option node.Service) → (f n).service ≡ o → Has s f n c → Has t g n c
      by None is has = quiet (still n is) (rest_has s f n c is has)
      by (Some w) is has = in_service w is has

  -- ---- the sum, where none is made

  pub all_held : is_make e ≡ false → (n : ℕ) → holds (es ++ e ∷ []) n ≡ holds es n
  all_held none_made n =
      (λ i. held_by (account_same i) (given_same i) (come_same i).kept.total)
    where
      account_same : is_account_at t.config n ≡ is_account_at s.config n
      account_same = account_stays s.config t.config e reconfigured_so n (λ h. absurd (both_ways (is_make e) none_made h))

      given_same : list_any (hands_on n) (es ++ e ∷ []) ≡ list_any (hands_on n) es
      given_same = given_more n es e (by e none_made)
        where
          by : (z : Event) → is_make z ≡ false → hands_on n z ≡ false
          by (Make k made from) h = absurd (both_ways true h refl)
          by _ h = refl

      come_same : come (es ++ e ∷ []) n ≡ come es n
      come_same = folds_stay handed es e here run' change none_made n

-- ---- a node is made

module _ (handed : StatesAreHanded) (es : List Event) (k : ℕ) (made : Node) (from : Option ℕ) (here : IsNext es (Make k made from)) (run' : IsRun (es ++ Make k made from ∷ [])) (later : HasFolds (es ++ Make k made from ∷ [])) where
  abbrev e : Event
  e = Make k made from

  abbrev c : Configuration
  c = (state_after es).config

  abbrev d : Configuration
  d = (state_after (es ++ e ∷ [])).config

  abbrev last : ℕ
  last = length c.slots

  r : Reconfigures c e d
  r = subst (λ (x : State). Reconfigures c e x.config) (sym here.next) (reconfigured (state_after es) e here.legal)

  new_one : slot d last ≡ Some (record { node = made; first_port = length c.gates; from = from; live = true })
  new_one = r.slots last ∙ rw (eq-eqb last last refl) refl

  new_account : is_account_at d last ≡ is_account made.kind
  new_account = ap (λ o. option_map_or (λ (m : Slot). is_account m.node.kind) o false) new_one

  unmade : slot c last ≡ None
  unmade = by (slot c last) refl
    where
      by : (o : Option Slot) → slot c last ≡ o → slot c last ≡ None
      by None is = is
      by (Some m) is = let low = slice_get_within c.slots last m is in absurd (omega (arith, low))

  -- none took over from the new one
  new_not_given : list_any (hands_on last) (es ++ e ∷ []) ≡ false
  new_not_given = false_from_ne_true (list_any (hands_on last) (es ++ e ∷ [])) (λ h.
      let w = given_is_gone (es ++ e ∷ []) run' last h in
      both_ways true (ap (λ (m : Slot). m.live) (same_Some _ w.0 (sym new_one ∙ w.1)) ∙ w.2) refl)

  nothing_before : holds es last ≡ 0
  nothing_before = ap (λ o. held_by (option_map_or (λ (m : Slot). is_account m.node.kind) o false) (list_any (hands_on last) es) (come es last).kept.total) unmade

  new_held : holds (es ++ e ∷ []) last ≡ cond (is_account made.kind) (given_to es made from).total 0
  new_held = (λ i. held_by (new_account i) (new_not_given i) (made_has handed es k made from here run' later i).total)

  -- what others have stays
  other_held : (n : ℕ) → (n ≡ last → ⊥) → hands_on n e ≡ false → holds (es ++ e ∷ []) n ≡ holds es n
  other_held n old none_ =
      (λ i. held_by (account_stays c d e r n (λ h. old) i) (given_more n es e none_ i) (come (es ++ e ∷ []) n).kept.total)
      ∙ same_total (is_account_at c n) (list_any (hands_on n) es) (come (es ++ e ∷ []) n).kept.total (come es n).kept.total (λ h.
      let a = account_is c n h in ap (λ (x : NodeState). x.kept.total) (old_stays handed es e here run' refl n a.made a.there))

  module _ (carries : ℕ → ℕ) where
    abbrev before : ℕ → ℕ
    before n = carries n + holds es n

    abbrev after : ℕ → ℕ
    after n = carries n + holds (es ++ e ∷ []) n

    abbrev Sum : Type 0
    Sum = sum_by after (range_with_len 0 (last + 1)) ≡ sum_by before (range_with_len 0 last) + opened_in e

    longer : carries last ≡ 0 → sum_by before (range_with_len 0 (last + 1)) ≡ sum_by before (range_with_len 0 last)
    longer zero_ = let w = sum_more before last in let none_ = nothing_before in omega (arith, w, none_, zero_)

    -- it opens with what its argument says
    opened : from ≡ None → carries last ≡ 0 → Sum
    opened is zero_ =
        let whole = sum_one after before last (opened_in e) (last + 1) (omega arith) (λ n old. ap (λ x. carries n + x) (other_held n old (ap (λ o. option_map_or (λ i. i == n) o false) is)))
        (let a = new_held in let b = nothing_before in let w = opens in omega (arith, a, b, w)) in
        let l = longer zero_ in omega (arith, whole, l)
      where
        by_kind : (b : Bool) → is_account made.kind ≡ b → cond b (opening made.kind (option_map_or (λ a. a) made.arg 0)).total 0 ≡ cond b (option_map_or (λ a. a) made.arg 0) 0
        by_kind true h = ap (λ x. (opening x (option_map_or (λ a. a) made.arg 0)).total) (kind_is_account made.kind h)
        by_kind false h = refl

        opens : cond (is_account made.kind) (given_to es made from).total 0 ≡ opened_in e
        opens =
            ap (λ o. cond (is_account made.kind) (given_to es made o).total 0) is ∙ by_kind (is_account made.kind) refl
            ∙ sym (ap (λ o. opened_in (Make k made o)) is)

    -- or it has what the one had from which it takes over
    handed_on : (j : ℕ) → from ≡ Some j → carries last ≡ 0 → Sum
    handed_on j is zero_ =
        let whole = sum_two after before j last (last + 1) (omega (arith, below)) (omega arith) (λ same. omega (arith, below, same))
        (λ n other old. ap (λ x. carries n + x) (other_held n old (ap (λ o. option_map_or (λ i. i == n) o false) is ∙ ne_eqb j n (λ h. other (sym h))))) pair in
        let l = longer zero_ in
        let none_ : opened_in e ≡ 0 = ap (λ o. opened_in (Make k made o)) is in omega (arith, whole, l, none_)
      where
        may : (option_map_or (λ (m : Slot). not m.live && is_kind m.node.kind made.kind) (slot c j) false ≡ true) × (not (was_moved c j) ≡ true)
        may = and_parts (option_map_or (λ (m : Slot). not m.live && is_kind m.node.kind made.kind) (slot c j) false) (not (was_moved c j))
            (sym (ap (λ o. option_map_or (λ k. Rattle.quiesce_core.specs.Rules.can_move c k made.kind) o true) is) ∙ here.legal.moves)

        old : (m : Slot) × (slot c j ≡ Some m) × ((not m.live && is_kind m.node.kind made.kind) ≡ true)
        old = map_or_true (λ (m : Slot). not m.live && is_kind m.node.kind made.kind) (slot c j) may.0

        below : j < last
        below = slice_get_within c.slots j old.0 old.1

        same_account : is_account_at c j ≡ is_account made.kind
        same_account =
            ap (λ o. option_map_or (λ (m : Slot). is_account m.node.kind) o false) old.1
            ∙ same_kinds old.0.node.kind made.kind (and_parts (not old.0.live) (is_kind old.0.node.kind made.kind) old.2).1

        not_given : list_any (hands_on j) es ≡ false
        not_given = false_from_ne_true (list_any (hands_on j) es) (λ h. both_ways (was_moved c j) (not-true (was_moved c j) may.1) (given_was_moved es here.run j h))

        given_now : list_any (hands_on j) (es ++ e ∷ []) ≡ true
        given_now =
            list_any-append (hands_on j) es (e ∷ [])
            ∙ (λ i. not_given i || (option_map_or (λ x. x == j) (is i) false || false)) ∙ ap (λ b. b || false) (eq-eqb j j refl)

        old_held : holds (es ++ e ∷ []) j ≡ 0
        old_held = ap (λ b. held_by (is_account_at d j) b (come (es ++ e ∷ []) j).kept.total) given_now ∙ either (is_account_at d j)
          where
            either : (b : Bool) → ◌≡◌ {A = ℕ} (cond b 0 0) 0
            either true = refl
            either false = refl

        old_had : holds es j ≡ cond (is_account made.kind) (come es j).kept.total 0
        old_had = (λ i. held_by (same_account i) (not_given i) (come es j).kept.total)

        new_has : holds (es ++ e ∷ []) last ≡ cond (is_account made.kind) (come es j).kept.total 0
        new_has = new_held ∙ ap (λ o. cond (is_account made.kind) (given_to es made o).total 0) is

        pair : after j + after last ≡ before j + before last
        pair = let a = old_held in let b = old_had in let w = new_has in let n = nothing_before in omega (arith, a, b, w, n)

    pub made_sum : carries last ≡ 0 → Sum
    made_sum zero_ = by from refl
      where
        by : (o : Option ℕ) → from ≡ o → Sum
        by None is = opened is zero_
        by (Some j) is = handed_on j is zero_

  -- what it opens with is a value
  pub opens_with_a_value : opened_in e ≤ VALUE_LIMIT
  opens_with_a_value = by from made.kind (and_parts (not (Rattle.quiesce_core.specs.Rules.is_path_taken c made.path)) (has_its_argument made) here.legal.new_path).1
    where
      by : (o : Option ℕ) (x : Kind) → has_its_argument made ≡ true → opened_in (Make k made o) ≤ VALUE_LIMIT
      by (Some j) x h = omega arith
      by None x h = of_account (is_account made.kind) refl
        where
          of_account : (b : Bool) → is_account made.kind ≡ b → cond b (option_map_or (λ a. a) made.arg 0) 0 ≤ VALUE_LIMIT
          of_account false is = omega arith
          of_account true is =
              let value : option_map_or is_value made.arg false ≡ true = sym (ap (λ y. cond (is_some (row y).arg) (option_map_or is_value made.arg false) (is_none made.arg)) (kind_is_account made.kind is)) ∙ h in
              let w = map_or_true is_value made.arg value in
              let low = ltb-true w.0 value_limit w.2 in
              let at : option_map_or (λ a. a) made.arg 0 ≡ w.0 = ap (λ o. option_map_or (λ a. a) o 0) w.1 in omega (arith, low, at)
