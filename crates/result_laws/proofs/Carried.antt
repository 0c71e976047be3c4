-- What a branch carries by the books is what its service and its ports tell.
use Rattle.std.proofs.Common.{◌≡◌, ◌∙◌, ℕ, ◌+◌, ◌*◌, Bool, true, false, cond, List, [], ◌∷◌, length, Option, Some, None, refl, sym, ap, arith}
use Rattle.std.specs.Prelude.{◌==◌, ◌&&◌, ◌||◌, nat_le, option_and_then}
use Rattle.std.specs.List.{list_any, range_with_len}
use Rattle.std.specs.Option.{option_map_or}
use Rattle.std.proofs.lemmas.Bool.{both_ways, false_from_ne_true}
use Rattle.base.proofs.OptionLaws.{map_or_at}
use Rattle.base.proofs.SumLaws.{sum_both}
use Rattle.config_graph.specs.declared.kind.Kind.{Kind}
use Rattle.config_graph.specs.declared.kind.Kind.TheVariants.{Account, Branch}
use Rattle.config_graph.specs.declared.node.Target.{Target}
use Rattle.component_trait.specs.States.{Kept, NodeState, Service}
use Rattle.component_trait.specs.Tables.{ask, take_and_put}
use Rattle.component_trait.specs.declared.TheConstants.{AMOUNT_LIMIT}
use Rattle.component_trait.specs.declared.next.Next.TheVariants as next
use Rattle.quiesce_word.specs.Phases.{is_answered, is_asked, is_idle}
use Rattle.quiesce_word.proofs.PhaseLaws.{answered_busy, answered_not_asked}
use Rattle.quiesce_core.specs.Rules.{is_taken}
use Rattle.quiesce_core.specs.Runs.{IsRun, state_after}
use Rattle.quiesce_core.specs.State.{exchange, slot, target}
use Rattle.quiesce_core.specs.declared.event.Event.{Event}
use Rattle.quiesce_core.specs.declared.state.Slot.{Slot}
use Rattle.quiesce_core.proofs.RunLaws.{runs_are_consistent}
use Rattle.quiesce_core.proofs.StateLaws.{taken_busy}
use Rattle.change_round_laws.proofs.FoldLaws.{StatesAreHanded}
use Rattle.result_laws.specs.Banks.{is_branch}
use Rattle.result_laws.specs.Carrying.{AmountsBalance, amount, carried, carried_at, carried_by, carried_in}
use Rattle.result_laws.specs.Coming.{HasFolds, come, is_granted, is_taken_up, replies_1}
use Rattle.result_laws.specs.Sums.{is_account}
use Rattle.result_laws.proofs.Balance.{BranchHas, Calls, IsPaid, IsPut, answered, answers, at_rest, first_idle, first_open, second_idle, second_open, taken, waiting}
use Rattle.result_laws.proofs.ComingLaws.{fits_of}
use Rattle.result_laws.proofs.Giving.{hands_on}
use Rattle.result_laws.proofs.Ledger.{Has, Ledger, bound, held_by, holds, plain, quiet}
use Rattle.result_laws.proofs.Measures.{has, nothing_or, unmade_has}
use Rattle.result_laws.proofs.Offices.{IsOffice, Office}

-- a branch that is to answer carries nothing
gives_nothing : (paid put : Bool) (v : ℕ) (xs : List ℕ) (z : ℕ) (b : Bool) → cond b (next.Give 0) (take_and_put v xs) ≡ next.Give z → cond b 0 (carried_by paid put v xs) ≡ 0
gives_nothing paid put v xs z true h = refl
gives_nothing paid put v [] z false h = absurd (cc h)
gives_nothing paid put v (a ∷ []) z false h = by (a == 1) h
  where
    none_ : (b : Bool) → ◌≡◌ {A = ℕ} (cond b 0 0) 0
    none_ true = refl
    none_ false = refl

    by : (b : Bool) → cond b (ask 1 (2 * v)) (next.Give 0) ≡ next.Give z → cond put 0 (cond b v 0) ≡ 0
    by true h = absurd (cc h)
    by false h = none_ put
gives_nothing paid put v (a ∷ b ∷ xs) z false h = refl

-- what is told of a call at an account: it wasn't taken up, or it was, and replies this
data Told (es : List Event) (q : ℕ) (Says : ℕ → Bool → Type 0) (d : Bool) : Type 0 where
  not_yet : is_taken_up es q ≡ false → d ≡ false → Told es q Says d
  done_ : (r : ℕ) → is_taken_up es q ≡ true → replies_1 es q ≡ (r == 1) → Says r d → Told es q Says d

module _ (es : List Event) (run : IsRun es) where
  untaken_up : (q : ℕ) → is_idle (exchange (state_after es) q).phase ≡ true → is_taken_up es q ≡ false
  untaken_up q idle =
      let s = state_after es in
      ap (λ b. b || is_taken s q) (false_from_ne_true (is_answered (exchange s q).phase) (λ h. both_ways (is_idle (exchange s q).phase) (answered_busy (exchange s q).phase h) idle))
      ∙ false_from_ne_true (is_taken s q) (λ h. both_ways (is_idle (exchange s q).phase) (taken_busy s q (runs_are_consistent es run) h) idle)

  not_answered : (q : ℕ) → is_asked (exchange (state_after es) q).phase ≡ true → is_answered (exchange (state_after es) q).phase ≡ false
  not_answered q asked =
      let x = (exchange (state_after es) q).phase in false_from_ne_true (is_answered x) (λ h. both_ways (is_asked x) (answered_not_asked x h) asked)

  told : (q x z : ℕ) (Says : ℕ → Bool → Type 0) (d : Bool) → target (state_after es).config q ≡ Some (record { node = z; provide = 0 }) → Calls (state_after es) q x (come es z) Says d → Told es q Says d
  told q x z Says d leads (waiting a v u dn) = not_yet (ap (λ b. b || is_taken (state_after es) q) (not_answered q a) ∙ u) dn
  told q x z Says d leads (taken r a v u has says) =
      done_ r (ap (λ b. b || is_taken (state_after es) q) (not_answered q a) ∙ u)
      (ap (λ b. cond b ((exchange (state_after es) q).value == 1) (option_map_or (λ (w : Service). w.reply == 1) (option_and_then (λ (t : Target). (come es t.node).service) (target (state_after es).config q)) false)) (not_answered q a)
      ∙ ap (λ o. option_map_or (λ (w : Service). w.reply == 1) (option_and_then (λ (t : Target). (come es t.node).service) o) false) leads
      ∙ ap (λ (n : NodeState). option_map_or (λ (w : Service). w.reply == 1) n.service false) has.is) says
  told q x z Says d leads (answered a says) =
      done_ (exchange (state_after es) q).value (ap (λ b. b || is_taken (state_after es) q) a)
      (ap (λ b. cond b ((exchange (state_after es) q).value == 1) (option_map_or (λ (w : Service). w.reply == 1) (option_and_then (λ (t : Target). (come es t.node).service) (target (state_after es).config q)) false)) a) says

  paid_so : (q : ℕ) (d : Bool) → Told es q IsPaid d → is_granted es q ≡ d
  paid_so q d (not_yet u dn) = ap (λ b. b && replies_1 es q) u ∙ sym dn
  paid_so q d (done_ r u says is) = ap (λ b. b && replies_1 es q) u ∙ says ∙ sym is

  put_so : (q : ℕ) (d : Bool) → Told es q IsPut d → is_taken_up es q ≡ d
  put_so q d (not_yet u dn) = u ∙ sym dn
  put_so q d (done_ r u says is) = u ∙ sym is

  -- ---- by the books

  module _ (b : Office) (o : IsOffice (state_after es).config b) where
    by_service : carried es b.at ≡ option_map_or (carried_in (is_granted es b.from) (is_taken_up es b.to)) (come es b.at).service 0
    by_service =
        let m = o.branch.made in
        map_or_at (carried_at es b.at) (slot (state_after es).config b.at) 0 m o.branch.there
        ∙ ap (λ (k : Kind). cond (is_branch k) (option_map_or (carried_in (is_granted es m.first_port) (is_taken_up es (m.first_port + 1))) (come es b.at).service 0) 0) o.branch.kind
        ∙ (λ i. option_map_or (carried_in (is_granted es (o.branch.first i)) (is_taken_up es ((ap (λ n. n + 1) o.branch.first ∙ sym o.branch.second) i))) (come es b.at).service 0)

    branch_so : (c : ℕ) → BranchHas (state_after es) (come es) b c → carried es b.at ≡ c
    branch_so _ (at_rest none_) = by_service ∙ ap (λ x. option_map_or (carried_in (is_granted es b.from) (is_taken_up es b.to)) x 0) none_
    branch_so _ (first_idle a kept v r small is idle) =
        by_service ∙ ap (λ (n : NodeState). option_map_or (carried_in (is_granted es b.from) (is_taken_up es b.to)) n.service 0) is
        ∙ ap (λ x. cond x 0 (cond (is_granted es b.from) v 0)) small ∙ ap (λ x. cond (x && replies_1 es b.from) v 0) (untaken_up b.from idle)
    branch_so _ (first_open a kept v r d small is calls) =
        by_service ∙ ap (λ (n : NodeState). option_map_or (carried_in (is_granted es b.from) (is_taken_up es b.to)) n.service 0) is
        ∙ ap (λ x. cond x 0 (cond (is_granted es b.from) v 0)) small ∙ ap (λ x. cond x v 0) (paid_so b.from d (told b.from (2 * v + 1) b.payer IsPaid d o.from_leads calls))
    branch_so _ (second_idle a kept v r small is idle) =
        by_service ∙ ap (λ (n : NodeState). option_map_or (carried_in (is_granted es b.from) (is_taken_up es b.to)) n.service 0) is
        ∙ ap (λ x. cond x 0 (cond (is_taken_up es b.to) 0 v)) small ∙ ap (λ x. cond x 0 v) (untaken_up b.to idle)
    branch_so _ (second_open a kept v r d small is calls) =
        by_service ∙ ap (λ (n : NodeState). option_map_or (carried_in (is_granted es b.from) (is_taken_up es b.to)) n.service 0) is
        ∙ ap (λ x. cond x 0 (cond (is_taken_up es b.to) 0 v)) small ∙ ap (λ x. cond x 0 v) (put_so b.to d (told b.to (2 * v) b.payee IsPut d o.to_leads calls))
    branch_so _ (answers a kept v r xs z gives is) =
        by_service ∙ ap (λ (n : NodeState). option_map_or (carried_in (is_granted es b.from) (is_taken_up es b.to)) n.service 0) is
        ∙ gives_nothing (is_granted es b.from) (is_taken_up es b.to) v xs z (nat_le AMOUNT_LIMIT v) gives

  carried_so : (n c : ℕ) → Has (state_after es) (come es) n c → carried es n ≡ c
  carried_so n c (quiet none_ z) = by (slot (state_after es).config n) ∙ sym z
    where
      by_kind : (m : Slot) (b : Bool) → cond b (option_map_or (carried_in (is_granted es m.first_port) (is_taken_up es (m.first_port + 1))) (come es n).service 0) 0 ≡ 0
      by_kind m true = ap (λ x. option_map_or (carried_in (is_granted es m.first_port) (is_taken_up es (m.first_port + 1))) x 0) none_
      by_kind m false = refl

      by : (o : Option Slot) → option_map_or (carried_at es n) o 0 ≡ 0
      by None = refl
      by (Some m) = by_kind m (is_branch m.node.kind)
  carried_so n c (plain other z) =
      map_or_at (carried_at es n) (slot (state_after es).config n) 0 other.made other.there
      ∙ ap (λ x. cond x (option_map_or (carried_in (is_granted es other.made.first_port) (is_taken_up es (other.made.first_port + 1))) (come es n).service 0) 0) (no_branch other.made.node.kind other.other) ∙ sym z
    where
      no_branch : (k : Kind) → (k ≡ Branch → ⊥) → is_branch k ≡ false
      no_branch Branch h = absurd (h refl)
      no_branch _ h = refl
  carried_so n c (bound b at o has) = ap (carried es) (sym at) ∙ branch_so b o c has

  module _ (handed : StatesAreHanded) (folds : HasFolds es) where
    -- what accounts have by their books is what they have by this measure
    pub holds_so : (n : ℕ) → has amount es n ≡ holds es n
    holds_so n = by (slot (state_after es).config n) refl
      where
        by : (o : Option Slot) → slot (state_after es).config n ≡ o → has amount es n ≡ holds es n
        by None is = unmade_has amount refl es n is ∙ sym (ap (λ o. held_by (option_map_or (λ (x : Slot). is_account x.node.kind) o false) (list_any (hands_on n) es) (come es n).kept.total) is)
        by (Some made) is =
            ap (λ y. cond (list_any (hands_on n) es) 0 (amount y (come es n).kept)) ((fits_of handed es run folds).kinds n made is)
            ∙ test_of made.node.kind (list_any (hands_on n) es) (come es n).kept
            ∙ sym (ap (λ o. held_by (option_map_or (λ (x : Slot). is_account x.node.kind) o false) (list_any (hands_on n) es) (come es n).kept.total) is)
          where
            test_of : (k : Kind) (b : Bool) (s : Kept) → cond b 0 (amount k s) ≡ held_by (is_account k) b s.total
            test_of Account b s = refl
            test_of _ b s = nothing_or b 0 refl

    pub amounts_balance : Ledger es → AmountsBalance es
    amounts_balance l =
        sum_both (has amount es) (carried es) (λ n. l.carries n + holds es n) (λ n. let h = holds_so n in let c = carried_so n (l.carries n) (l.has n) in omega (arith, h, c)) (range_with_len 0 (length (state_after es).config.slots)) ∙ l.sum
