-- An event of the change leaves all as it was: what a node has that is gone goes over where another takes over from it.
use Rattle.std.proofs.Common.{◌≡◌, ◌∙◌, ℕ, ◌+◌, ◌<◌, ◌≤◌, Bool, true, false, cond, not, List, [], ◌∷◌, ◌++◌, length, Option, Some, None, refl, sym, ap, subst, arith}
use Rattle.std.specs.Prelude.{◌==◌, ◌&&◌, ◌||◌, option_and_then, option_map, sum_by, unwrap_or}
use Rattle.std.specs.List.{list_any, range_with_len}
use Rattle.std.specs.Option.{option_map_or}
use Rattle.std.proofs.lemmas.Bool.{and_parts, both_ways, eq-eqb, eqb-true, false_from_ne_true, ne_eqb, not-true}
use Rattle.std.proofs.lemmas.List.Folds.{list_any-append}
use Rattle.std.proofs.lemmas.Option.{none-some, same_Some, slice_get_within}
use Rattle.base.proofs.OptionLaws.{map_or_true}
use Rattle.base.proofs.SumLaws.{sum_same}
use Rattle.config_graph.specs.declared.kind.Kind.{Kind}
use Rattle.config_graph.specs.declared.kind.Kind.TheVariants.{Fork}
use Rattle.config_graph.specs.declared.node.Node.{Node}
use Rattle.component_trait.specs.States.{Kept, NodeState, at_rest, nothing}
use Rattle.component_trait.specs.States as node
use Rattle.component_trait.specs.Tables.{opening}
use Rattle.quiesce_core.specs.Alters.{Reconfigures, service_by}
use Rattle.quiesce_core.specs.Doers.{is_make, is_of_change}
use Rattle.quiesce_core.specs.Rules.{can_move, is_kind, was_moved}
use Rattle.quiesce_core.specs.Runs.{IsRun, done_by, state_after}
use Rattle.quiesce_core.specs.State.{Configuration, State, service, slot}
use Rattle.quiesce_core.specs.declared.event.Event.{Event}
use Rattle.quiesce_core.specs.declared.event.Event.TheVariants.{Make}
use Rattle.quiesce_core.specs.declared.state.Slot.{Slot}
use Rattle.quiesce_core.proofs.AlterLaws.{reconfigured, services_next}
use Rattle.quiesce_core.proofs.ArgumentLaws.{kinds_are_one}
use Rattle.quiesce_core.proofs.InductionLaws.{IsNext}
use Rattle.change_spec.specs.Opening.{argument_of, fold_at, fold_of_node, fold_within}
use Rattle.change_round_laws.proofs.FoldLaws.{StatesAreHanded}
use Rattle.result_laws.specs.Coming.{HasFolds, come}
use Rattle.result_laws.proofs.AgreeingLaws.{change_does}
use Rattle.result_laws.proofs.ComingLaws.{facts, fits_of, folds_before, folds_stay, given_to, made_has, old_stays}
use Rattle.result_laws.proofs.FactLaws.{Facts}
use Rattle.result_laws.proofs.Adding.{sum_two}
use Rattle.result_laws.proofs.Giving.{given_is_gone, given_was_moved, hands_on}
pub use Rattle.result_laws.specs.UnderWay.{has}
use Rattle.result_laws.specs.UnderWay.{owed, owed_in}

-- what a node of these kinds opens with is nothing, and what is told of one that wasn't made
pub record IsMeasure (measure : Kind → Kept → ℕ) : Type 0 where
  pub opens : (k : Kind) (a : ℕ) → measure k (opening k a) ≡ 0
  pub unmade : measure Fork nothing ≡ 0

pub nothing_or : (b : Bool) (x : ℕ) → x ≡ 0 → cond b 0 x ≡ 0
nothing_or true x h = refl
nothing_or false x h = h

-- a slot in which nothing was made
pub unmade_come : (es : List Event) (n : ℕ) → slot (state_after es).config n ≡ None → come es n ≡ at_rest Fork 0 nothing
unmade_come es n none_ = ap (λ o. unwrap_or o (at_rest Fork 0 nothing)) folds_none
  where
    folds_none : fold_of_node es n ≡ None
    folds_none = ap (option_and_then (λ (x : Slot). option_and_then (fold_at x (done_by n es))
        (option_map_or (λ k. option_map (λ (s : NodeState). s.kept) (fold_within es n k)) x.from (Some (opening x.node.kind (argument_of x)))))) none_

pub unmade_has : (measure : Kind → Kept → ℕ) → measure Fork nothing ≡ 0 → (es : List Event) (n : ℕ) → slot (state_after es).config n ≡ None → has measure es n ≡ 0
unmade_has measure is es n none_ = nothing_or (list_any (hands_on n) es) _ (ap (λ (x : NodeState). measure x.kind x.kept) (unmade_come es n none_) ∙ is)

pub past_slot : (c : Configuration) (n : ℕ) → length c.slots ≤ n → slot c n ≡ None
past_slot c n past = by (slot c n) refl
  where
    by : (o : Option Slot) → slot c n ≡ o → slot c n ≡ None
    by None is = is
    by (Some m) is = let low = slice_get_within c.slots n m is in absurd (omega (arith, low, past))

pub given_more : (n : ℕ) (es : List Event) (e : Event) → hands_on n e ≡ false → list_any (hands_on n) (es ++ e ∷ []) ≡ list_any (hands_on n) es
given_more n es e h = list_any-append (hands_on n) es (e ∷ []) ∙ ap (λ b. list_any (hands_on n) es || (b || false)) h ∙ either (list_any (hands_on n) es)
  where
    either : (b : Bool) → (b || (false || false)) ≡ b
    either true = refl
    either false = refl

module _ (handed : StatesAreHanded) (es : List Event) (e : Event) (here : IsNext es e) (run' : IsRun (es ++ e ∷ [])) (later : HasFolds (es ++ e ∷ [])) (change : is_of_change e ≡ true) where
  abbrev s : State
  s = state_after es

  abbrev t : State
  t = state_after (es ++ e ∷ [])

  abbrev f : ℕ → NodeState
  f = come es

  abbrev g : ℕ → NodeState
  g = come (es ++ e ∷ [])

  now_facts : Facts s f
  now_facts = facts handed es here.run (folds_before handed es e here run' later)

  then_facts : Facts t g
  then_facts = facts handed (es ++ e ∷ []) run' later

  same_service : (n : ℕ) → service t n ≡ service s n
  same_service n = ap (λ (x : State). service x n) here.next ∙ services_next s e here.well here.legal n ∙ ap (λ b. cond b (service_by (service s n) e) (service s n)) (change_does s e n change)

  -- a node in no service is in none then
  still : (n : ℕ) → (f n).service ≡ None → (g n).service ≡ None
  still n none_ = by (g n).service refl
    where
      by : (o : Option node.Service) → (g n).service ≡ o → (g n).service ≡ None
      by None is = is
      by (Some w) is =
          let v = then_facts.served n w is in
          let old = now_facts.serves n v.0 (sym (same_service n) ∙ v.1) in absurd (none-some old.0 (sym none_ ∙ old.1))

  -- what a service owes stays
  pub owed_stays : (weight : ℕ → ℕ) (n : ℕ) → owed weight (g n) ≡ owed weight (f n)
  owed_stays weight n = by (f n).service refl
    where
      by : (o : Option node.Service) → (f n).service ≡ o → owed weight (g n) ≡ owed weight (f n)
      by None is = ap (λ o. option_map_or (owed_in weight (g n).kind) o 0) (still n is) ∙ sym (ap (λ o. option_map_or (owed_in weight (f n).kind) o 0) is)
      by (Some w) is =
          let v = now_facts.served n w is in
          let it = here.traffic.serving n v.0 v.1 in
          let live = (here.well.sound.targets v.0.port (record { node = n; provide = it.provide }) it.linked).live in
          let m = map_or_true (λ (x : Slot). x.live) (slot s.config n) live in
          ap (owed weight) (old_stays handed es e here run' change n m.0 m.1)

  -- what nodes have, where none is made
  pub has_stays : (measure : Kind → Kept → ℕ) → is_make e ≡ false → (n : ℕ) → has measure (es ++ e ∷ []) n ≡ has measure es n
  has_stays measure none_made n = λ i. cond (given_same i) 0 (measure (come_same i).kind (come_same i).kept)
    where
      given_same : list_any (hands_on n) (es ++ e ∷ []) ≡ list_any (hands_on n) es
      given_same = given_more n es e (by e none_made)
        where
          by : (z : Event) → is_make z ≡ false → hands_on n z ≡ false
          by (Make k made from) h = absurd (both_ways true h refl)
          by _ h = refl

      come_same : come (es ++ e ∷ []) n ≡ come es n
      come_same = folds_stay handed es e here run' change none_made n

-- ---- a node is made

module _ (handed : StatesAreHanded) (es : List Event) (k : ℕ) (made : Node) (from : Option ℕ) (here : IsNext es (Make k made from)) (run' : IsRun (es ++ Make k made from ∷ [])) (later : HasFolds (es ++ Make k made from ∷ [])) (measure : Kind → Kept → ℕ) (is_measure : IsMeasure measure) where
  abbrev e : Event
  e = Make k made from

  abbrev c : Configuration
  c = (state_after es).config

  abbrev d : Configuration
  d = (state_after (es ++ e ∷ [])).config

  abbrev last : ℕ
  last = length c.slots

  r : Reconfigures c e d
  r = subst (λ (x : State). Reconfigures c e x.config) (sym here.next) (reconfigured (state_after es) e here.legal)

  new_one : slot d last ≡ Some (record { node = made; first_port = length c.gates; from = from; live = true })
  new_one = r.slots last ∙ rw (eq-eqb last last refl) refl

  new_kind : (come (es ++ e ∷ []) last).kind ≡ made.kind
  new_kind = (fits_of handed (es ++ e ∷ []) run' later).kinds last _ new_one

  new_kept : (come (es ++ e ∷ []) last).kept ≡ given_to es made from
  new_kept = made_has handed es k made from here run' later

  -- what others have stays
  other_has : (n : ℕ) → (n ≡ last → ⊥) → hands_on n e ≡ false → has measure (es ++ e ∷ []) n ≡ has measure es n
  other_has n old none_ = by (slot c n) refl
    where
      given_same : list_any (hands_on n) (es ++ e ∷ []) ≡ list_any (hands_on n) es
      given_same = given_more n es e none_

      by : (o : Option Slot) → slot c n ≡ o → has measure (es ++ e ∷ []) n ≡ has measure es n
      by (Some m) is =
          let same = old_stays handed es e here run' refl n m is in
          λ i. cond (given_same i) 0 (measure (same i).kind (same i).kept)
      by None is =
          unmade_has measure is_measure.unmade (es ++ e ∷ []) n (r.slots n ∙ ap (λ b. cond b (Some (record { node = made; first_port = length c.gates; from = from; live = true })) (slot c n)) (ne_eqb n last old) ∙ is)
          ∙ sym (unmade_has measure is_measure.unmade es n is)

  nothing_before : has measure es last ≡ 0
  nothing_before = unmade_has measure is_measure.unmade es last (past_slot c last (omega arith))

  module _ (top : ℕ) (room : last < top) where
    abbrev Same : Type 0
    Same = sum_by (has measure (es ++ e ∷ [])) (range_with_len 0 top) ≡ sum_by (has measure es) (range_with_len 0 top)

    -- it opens with nothing
    opened : from ≡ None → Same
    opened is = sum_same (has measure (es ++ e ∷ [])) (has measure es) top (λ n. by n (n == last) refl)
      where
        by : (n : ℕ) (b : Bool) → (n == last) ≡ b → has measure (es ++ e ∷ []) n ≡ has measure es n
        by n true at =
            let same : n ≡ last = eqb-true n last at in
            ap (has measure (es ++ e ∷ [])) same ∙ new_none ∙ sym (ap (has measure es) same ∙ nothing_before)
          where
            new_none : has measure (es ++ e ∷ []) last ≡ 0
            new_none = nothing_or (list_any (hands_on last) (es ++ e ∷ [])) _
                ((λ i. measure (new_kind i) (new_kept i)) ∙ ap (λ o. measure made.kind (given_to es made o)) is ∙ is_measure.opens made.kind (option_map_or (λ a. a) made.arg 0))
        by n false at = other_has n (λ same. both_ways (n == last) at (eq-eqb n last same)) (ap (λ o. option_map_or (λ i. i == n) o false) is)

    -- or it has what the one had from which it takes over
    handed_on : (j : ℕ) → from ≡ Some j → Same
    handed_on j is =
        sum_two (has measure (es ++ e ∷ [])) (has measure es) j last top (omega (arith, below, room)) room (λ same. omega (arith, below, same))
        (λ n other old. other_has n old (ap (λ o. option_map_or (λ i. i == n) o false) is ∙ ne_eqb j n (λ h. other (sym h)))) pair
      where
        may : (option_map_or (λ (m : Slot). not m.live && is_kind m.node.kind made.kind) (slot c j) false ≡ true) × (not (was_moved c j) ≡ true)
        may = and_parts (option_map_or (λ (m : Slot). not m.live && is_kind m.node.kind made.kind) (slot c j) false) (not (was_moved c j))
            (sym (ap (λ o. option_map_or (λ k. can_move c k made.kind) o true) is) ∙ here.legal.moves)

        old : (m : Slot) × (slot c j ≡ Some m) × ((not m.live && is_kind m.node.kind made.kind) ≡ true)
        old = map_or_true (λ (m : Slot). not m.live && is_kind m.node.kind made.kind) (slot c j) may.0

        below : j < last
        below = slice_get_within c.slots j old.0 old.1

        old_kind : (come es j).kind ≡ made.kind
        old_kind =
            (fits_of handed es here.run (folds_before handed es e here run' later)).kinds j old.0 old.1
            ∙ kinds_are_one old.0.node.kind made.kind (and_parts (not old.0.live) (is_kind old.0.node.kind made.kind) old.2).1

        not_given : list_any (hands_on j) es ≡ false
        not_given = false_from_ne_true (list_any (hands_on j) es) (λ h. both_ways (was_moved c j) (not-true (was_moved c j) may.1) (given_was_moved es here.run j h))

        given_now : list_any (hands_on j) (es ++ e ∷ []) ≡ true
        given_now =
            list_any-append (hands_on j) es (e ∷ [])
            ∙ (λ i. not_given i || (option_map_or (λ x. x == j) (is i) false || false)) ∙ ap (λ b. b || false) (eq-eqb j j refl)

        -- none took over from the new one
        new_not_given : list_any (hands_on last) (es ++ e ∷ []) ≡ false
        new_not_given = false_from_ne_true (list_any (hands_on last) (es ++ e ∷ [])) (λ h.
            let w = given_is_gone (es ++ e ∷ []) run' last h in
            both_ways true (ap (λ (m : Slot). m.live) (same_Some _ w.0 (sym new_one ∙ w.1)) ∙ w.2) refl)

        old_has : has measure (es ++ e ∷ []) j ≡ 0
        old_has = ap (λ b. cond b 0 (measure (come (es ++ e ∷ []) j).kind (come (es ++ e ∷ []) j).kept)) given_now

        old_had : has measure es j ≡ measure made.kind (come es j).kept
        old_had = λ i. cond (not_given i) 0 (measure (old_kind i) (come es j).kept)

        new_has : has measure (es ++ e ∷ []) last ≡ measure made.kind (come es j).kept
        new_has = (λ i. cond (new_not_given i) 0 (measure (new_kind i) (new_kept i))) ∙ ap (λ o. measure made.kind (given_to es made o)) is

        pair : has measure (es ++ e ∷ []) j + has measure (es ++ e ∷ []) last ≡ has measure es j + has measure es last
        pair = let a = old_has in let b = old_had in let w = new_has in let n = nothing_before in omega (arith, a, b, w, n)

    pub made_same : Same
    made_same = by from refl
      where
        by : (o : Option ℕ) → from ≡ o → Same
        by None is = opened is
        by (Some j) is = handed_on j is
