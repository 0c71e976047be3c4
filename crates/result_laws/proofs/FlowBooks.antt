-- The books of sources, maps, buffers and sinks balance at each place of a run, however these are wired: what is held is
-- what was sent, with what services owe and what is due at ports.
use Rattle.std.proofs.Common.{◌≡◌, ◌∙◌, ℕ, ◌+◌, ◌<◌, ◌≤◌, Bool, true, false, cond, not, List, [], ◌∷◌, ◌++◌, append_assoc, length, Option, Some, refl, sym, ap, subst, arith, ⊎_elim}
use Rattle.std.specs.Prelude.{sum_by}
use Rattle.std.specs.List.{list_any, range_with_len}
use Rattle.std.proofs.lemmas.Bool.{both_ways, cases_Bool, cases_eq, eqb-true, false_from_ne_true}
use Rattle.std.proofs.lemmas.List.{append-nil}
use Rattle.std.proofs.lemmas.Option.{same_Some, slice_get_within}
use Rattle.base.proofs.SumLaws.{sum_zero, sum_same}
use Rattle.config_graph.specs.declared.TheConstants.{MAX_NODES, MAX_PORTS}
use Rattle.config_graph.specs.declared.kind.Kind.{Kind}
use Rattle.config_graph.specs.declared.kind.Kind.TheVariants.{Source, Buffer, Sink}
use Rattle.config_graph.specs.declared.node.Node.{Node}
use Rattle.component_trait.specs.States.{Kept, NodeState}
use Rattle.component_trait.specs.Tables.{opening}
use Rattle.component_trait.proofs.FoldLaws.{fold_keeps_kind}
use Rattle.quiesce_word.specs.Phases.{is_idle}
use Rattle.quiesce_core.specs.Doers.{is_make, is_of_change}
use Rattle.quiesce_core.specs.Effect.{effect}
use Rattle.quiesce_core.specs.Runs.{IsRun, is_doer, state_after}
use Rattle.quiesce_core.specs.State.{Configuration, State, exchange, owner, slot}
use Rattle.quiesce_core.specs.declared.event.Event.{Event}
use Rattle.quiesce_core.specs.declared.event.Event.TheVariants.{Make, Give, End}
use Rattle.quiesce_core.specs.declared.state.Slot.{Slot}
use Rattle.quiesce_core.proofs.AlterLaws.{reconfigured}
use Rattle.quiesce_core.proofs.InductionLaws.{IsNext, place}
use Rattle.quiesce_core.proofs.RunLaws.{node_events_keep_the_configuration, runs_are_well_formed}
use Rattle.quiesce_core.proofs.ConfigurationLaws.{linked_made, owner_kept}
use Rattle.quiesce_core.proofs.StateLaws.{busy_made}
use Rattle.change_round_laws.proofs.FoldLaws.{StatesAreHanded}
use Rattle.result_laws.specs.Coming.{HasFolds, come}
use Rattle.result_laws.proofs.ComingLaws.{at_place, facts, fits_of, folds_before, old_stays}
use Rattle.result_laws.proofs.EventLaws.{led_to}
use Rattle.result_laws.specs.Flows.{is_of_flow, one, same_side}
pub use Rattle.result_laws.specs.UnderWay.{owed_at}
use Rattle.result_laws.proofs.Adding.{sum_at}
use Rattle.result_laws.proofs.Doing.{Does, does_at, waits_never}
use Rattle.result_laws.proofs.Linking.{AllLinked}
use Rattle.result_laws.proofs.Giving.{given_is_gone, hands_on}
use Rattle.result_laws.proofs.Measures.{IsMeasure, given_more, has, has_stays, made_same, owed_stays}
use Rattle.result_laws.proofs.Ports.{due, is_port_of_flow, due_elsewhere, due_here, due_stays, ends_at_port, gives_at_port, last_sent, port_made, port_of}
use Rattle.result_laws.proofs.Stepping.{Balances, comes_back, hands_back, owed, served, settles, spent, step, stock, unless_0}

-- what is answered and what is settled weigh what was sent at the port
pub record Fair (weight : ℕ → ℕ) (es : List Event) (e : Event) : Type 0 where
  pub given : (p k v n : ℕ) → is_of_flow (come es n).kind ≡ true → e ≡ Give p k v → is_doer (state_after es) n e ≡ true → weight (served (come es n)) ≡ weight (last_sent p es)
  pub ended : (p k v n : ℕ) → is_of_flow (come es n).kind ≡ true → e ≡ End p k v → is_doer (state_after es) n e ≡ true → weight (settles (come es n)) ≡ weight (last_sent p es)

-- where each item weighs 1, nothing is to be shown
pub one_is_fair : (es : List Event) (e : Event) → Fair one es e
one_is_fair es e = record { given = λ p k v n fl at does. refl; ended = λ p k v n fl at does. refl }

-- ---- sums over all nodes and ports

abbrev pub all_held : (ℕ → ℕ) → ℕ → List Event → ℕ
all_held weight top es = sum_by (has (stock weight) es) (range_with_len 0 top)

abbrev pub all_sent : (ℕ → ℕ) → ℕ → List Event → ℕ
all_sent weight top es = sum_by (has (spent weight) es) (range_with_len 0 top)

abbrev pub all_owed : (ℕ → ℕ) → ℕ → List Event → ℕ
all_owed weight top es = sum_by (owed_at weight es) (range_with_len 0 top)

abbrev pub all_due : (ℕ → ℕ) → ℕ → List Event → ℕ
all_due weight far es = sum_by (due weight es) (range_with_len 0 far)

pub record Books (weight : ℕ → ℕ) (top far : ℕ) (es : List Event) : Type 0 where
  pub balance : all_held weight top es ≡ all_sent weight top es + all_owed weight top es + all_due weight far es

-- ---- measures

stock_opens : (weight : ℕ → ℕ) → IsMeasure (stock weight)
stock_opens weight = record { opens = by; unmade = refl }
  where
    by : (k : Kind) (a : ℕ) → stock weight k (opening k a) ≡ 0
    by Buffer a = refl
    by Sink a = refl
    by _ a = refl

spent_opens : (weight : ℕ → ℕ) → IsMeasure (spent weight)
spent_opens weight = record { opens = by; unmade = refl }
  where
    by : (k : Kind) (a : ℕ) → spent weight k (opening k a) ≡ 0
    by Source a = refl
    by _ a = refl

pub are_measures : (weight : ℕ → ℕ) → IsMeasure (stock weight) × IsMeasure (spent weight)
are_measures weight = (stock_opens weight, spent_opens weight)

-- ---- along a run

module _ (weight : ℕ → ℕ) (top far : ℕ) (wide : MAX_NODES ≤ top) (deep : MAX_PORTS ≤ far) (handed : StatesAreHanded) where
  module _ (es : List Event) (e : Event) (here : IsNext es e) (run' : IsRun (es ++ e ∷ [])) (later : HasFolds (es ++ e ∷ [])) (apart : AllLinked same_side (state_after es).config) (books : Books weight top far es) where
    abbrev s : State
    s = state_after es

    abbrev f : ℕ → NodeState
    f = come es

    abbrev g : ℕ → NodeState
    g = come (es ++ e ∷ [])

    -- ---- an event of a node

    module _ (of_node : is_of_change e ≡ false) (fair : Fair weight es e) where
      w : Does es e
      w = does_at handed es e here run' later of_node

      kind_then : (n : ℕ) → (g n).kind ≡ (f n).kind
      kind_then n = ⊎_elim
          (λ (same : n ≡ w.at). ap (λ i. (g i).kind) same ∙ fold_keeps_kind w.made.first_port (f w.at) (g w.at) (e ∷ []) w.led ∙ sym (ap (λ i. (f i).kind) same))
          (λ (other : n ≡ w.at → ⊥). ap (λ (x : NodeState). x.kind) (w.others n other))
          (cases_eq n w.at)

      same_port : (q : ℕ) → is_port_of_flow (es ++ e ∷ []) q ≡ is_port_of_flow es q
      same_port q = ap is_of_flow (ap (λ (c : Configuration). (g (owner c q)).kind) (ap (λ (x : State). x.config) here.next ∙ node_events_keep_the_configuration s e of_node) ∙ kind_then (owner s.config q))

      low : w.at < top
      low = let a = slice_get_within s.config.slots w.at w.made w.there in let b = here.well.sound.few_nodes in omega (arith, a, b, wide)

      stepped : Balances weight (f w.at) (g w.at) e
      stepped = step weight w.made.first_port (f w.at) (g w.at) e (λ fl. waits_never (f w.at) fl w.bounded) w.led

      given_same : (n : ℕ) → list_any (hands_on n) (es ++ e ∷ []) ≡ list_any (hands_on n) es
      given_same n = given_more n es e (by e of_node)
        where
          by : (z : Event) → is_of_change z ≡ false → hands_on n z ≡ false
          by (Make k node from) h = absurd (both_ways true h refl)
          by _ h = refl

      keeps_own : list_any (hands_on w.at) es ≡ false
      keeps_own = false_from_ne_true (list_any (hands_on w.at) es) (λ h.
          let x = given_is_gone es here.run w.at h in
          both_ways w.made.live (ap (λ (m : Slot). m.live) (same_Some w.made x.0 (sym w.there ∙ x.1)) ∙ x.2) w.lives)

      had : (measure : Kind → Kept → ℕ) → has measure es w.at ≡ measure (f w.at).kind (f w.at).kept
      had measure = ap (λ b. cond b 0 (measure (f w.at).kind (f w.at).kept)) keeps_own

      has_now : (measure : Kind → Kept → ℕ) → has measure (es ++ e ∷ []) w.at ≡ measure (g w.at).kind (g w.at).kept
      has_now measure = ap (λ b. cond b 0 (measure (g w.at).kind (g w.at).kept)) (given_same w.at ∙ keeps_own)

      other_has : (measure : Kind → Kept → ℕ) (n : ℕ) → (n ≡ w.at → ⊥) → has measure (es ++ e ∷ []) n ≡ has measure es n
      other_has measure n other = λ i. cond (given_same n i) 0 (measure (w.others n other i).kind (w.others n other i).kept)

      moved : (measure : Kind → Kept → ℕ) → sum_by (has measure (es ++ e ∷ [])) (range_with_len 0 top) + measure (f w.at).kind (f w.at).kept ≡ sum_by (has measure es) (range_with_len 0 top) + measure (g w.at).kind (g w.at).kept
      moved measure =
          let x = sum_at (has measure (es ++ e ∷ [])) (has measure es) w.at top low (other_has measure) in
          let a = had measure in let b = has_now measure in omega (arith, x, a, b)

      owed_moved : all_owed weight top (es ++ e ∷ []) + owed weight (f w.at) ≡ all_owed weight top es + owed weight (g w.at)
      owed_moved = sum_at (owed_at weight (es ++ e ∷ [])) (owed_at weight es) w.at top low (λ n other. ap (owed weight) (w.others n other))

      due_moved : all_due weight far (es ++ e ∷ []) + ends_at_port weight es e ≡ all_due weight far es + gives_at_port weight es e
      due_moved =
          let p = port_of e in
          let a = port_made s e here.legal of_node in
          let b = here.well.sound.few_ports in
          let x = sum_at (due weight (es ++ e ∷ [])) (due weight es) p far (omega (arith, a, b, deep)) (λ q other. due_elsewhere weight es e here q (same_port q) other) in
          let y = due_here weight es e here f (facts handed es here.run (folds_before handed es e here run' later)) of_node (same_port p) in omega (arith, x, y)

      either : (b : Bool) → is_of_flow (f w.at).kind ≡ b → (v x y : ℕ) → (is_of_flow (f w.at).kind ≡ true → x ≡ y) → cond b (unless_0 v x) 0 ≡ cond b (unless_0 v y) 0
      either true is v x y h = ap (unless_0 v) (h is)
      either false is v x y h = refl

      sides : (k l : Kind) → same_side k l ≡ true → is_of_flow k ≡ is_of_flow l
      sides k l h = by (is_of_flow k) (is_of_flow l) h
        where
          by : (a b : Bool) → cond a b (not b) ≡ true → a ≡ b
          by true b h = sym h
          by false true h = absurd (both_ways false refl h)
          by false false h = refl

      comes_so : comes_back weight (f w.at) e ≡ ends_at_port weight es e
      comes_so = by e refl
        where
          by : (z : Event) → e ≡ z → comes_back weight (f w.at) z ≡ ends_at_port weight es z
          by (End p k v) at =
              let owned : owner s.config p ≡ w.at = eqb-true (owner s.config p) w.at (subst (λ z. is_doer s w.at z ≡ true) at w.does) in
              either (is_of_flow (f w.at).kind) refl v (weight (settles (f w.at))) (weight (last_sent p es)) (λ fl. fair.ended p k v w.at fl at w.does)
              ∙ ap (λ i. cond (is_of_flow (f i).kind) (unless_0 v (weight (last_sent p es))) 0) (sym owned)
          by _ at = refl

      hands_so : hands_back weight (f w.at) e ≡ gives_at_port weight es e
      hands_so = by e refl
        where
          by : (z : Event) → e ≡ z → hands_back weight (f w.at) z ≡ gives_at_port weight es z
          by (Give p k v) at =
              let led = led_to s f f (facts handed es here.run (folds_before handed es e here run' later)) p w.at (subst (λ z. is_doer s w.at z ≡ true) at w.does) in
              let own = here.well.sound.ports p (linked_made s.config p led.0 led.1) in
              let into : slot s.config led.0.node ≡ Some w.made = ap (slot s.config) led.2 ∙ w.there in
              let side = sides own.node.node.kind w.made.node.kind (apart p led.0 own.node w.made led.1 own.made into) in
              let kind_own = (fits_of handed es here.run (folds_before handed es e here run' later)).kinds (owner s.config p) own.node own.made in
              either (is_of_flow (f w.at).kind) refl v (weight (served (f w.at))) (weight (last_sent p es)) (λ fl. fair.given p k v w.at fl at w.does)
              ∙ ap (λ b. cond b (unless_0 v (weight (last_sent p es))) 0) (ap is_of_flow w.kind ∙ sym side ∙ sym (ap is_of_flow kind_own))
          by _ at = refl

      node_balance : all_held weight top (es ++ e ∷ []) ≡ all_sent weight top (es ++ e ∷ []) + all_owed weight top (es ++ e ∷ []) + all_due weight far (es ++ e ∷ [])
      node_balance =
          let h = moved (stock weight) in
          let n = moved (spent weight) in
          let o = owed_moved in
          let q = due_moved in
          let b = stepped in
          let x = comes_so in
          let y = hands_so in
          let old = books.balance in omega (arith, h, n, o, q, b, x, y, old)

    -- ---- an event of the change

    module _ (change : is_of_change e ≡ true) where
      port_stays : (q : ℕ) → is_idle (exchange s q).phase ≡ false → is_port_of_flow (es ++ e ∷ []) q ≡ is_port_of_flow es q
      port_stays q busy =
          let low = busy_made s q here.traffic busy in
          let own = here.well.sound.ports q low in
          let owns : owner (state_after (es ++ e ∷ [])).config q ≡ owner s.config q = ap (λ (x : State). owner x.config q) here.next ∙ owner_kept s.config (effect s e).config e (reconfigured s e here.legal) q low in
          ap (λ i. is_of_flow (g i).kind) owns ∙ ap (λ (x : NodeState). is_of_flow x.kind) (old_stays handed es e here run' change (owner s.config q) own.node own.made)

      owed_same : all_owed weight top (es ++ e ∷ []) ≡ all_owed weight top es
      owed_same = sum_same (owed_at weight (es ++ e ∷ [])) (owed_at weight es) top (λ n. owed_stays handed es e here run' later change weight n)

      due_same : all_due weight far (es ++ e ∷ []) ≡ all_due weight far es
      due_same = sum_same (due weight (es ++ e ∷ [])) (due weight es) far (λ q. due_stays weight es e here change q (port_stays q))

      calm_balance : is_make e ≡ false → all_held weight top (es ++ e ∷ []) ≡ all_sent weight top (es ++ e ∷ []) + all_owed weight top (es ++ e ∷ []) + all_due weight far (es ++ e ∷ [])
      calm_balance none_made =
          let h = sum_same (has (stock weight) (es ++ e ∷ [])) (has (stock weight) es) top (λ n. has_stays handed es e here run' later change (stock weight) none_made n) in
          let n = sum_same (has (spent weight) (es ++ e ∷ [])) (has (spent weight) es) top (λ n. has_stays handed es e here run' later change (spent weight) none_made n) in
          let o = owed_same in
          let q = due_same in
          let old = books.balance in omega (arith, h, n, o, q, old)

  -- a node is made
  made_books : (es : List Event) (k : ℕ) (made : Node) (from : Option ℕ) → IsNext es (Make k made from) → IsRun (es ++ Make k made from ∷ []) → HasFolds (es ++ Make k made from ∷ []) → AllLinked same_side (state_after es).config → Books weight top far es
      → Books weight top far (es ++ Make k made from ∷ [])
  made_books es k made from here run' later apart books = record {
    balance =
        let h = made_same handed es k made from here run' later (stock weight) (stock_opens weight) top room in
        let n = made_same handed es k made from here run' later (spent weight) (spent_opens weight) top room in
        let o = owed_same es (Make k made from) here run' later apart books refl in
        let q = due_same es (Make k made from) here run' later apart books refl in
        let old = books.balance in omega (arith, h, n, o, q, old);
  }
    where
      room : length (state_after es).config.slots < top
      room =
          let longer : length (state_after (es ++ Make k made from ∷ [])).config.slots ≡ length (state_after es).config.slots + 1 = ap (λ (x : State). length x.config.slots) here.next ∙ (reconfigured (state_after es) (Make k made from) here.legal).nodes in
          let few = (runs_are_well_formed (es ++ Make k made from ∷ []) run').sound.few_nodes in omega (arith, longer, few, wide)

  books_next : (es : List Event) (e : Event) → IsNext es e → IsRun (es ++ e ∷ []) → HasFolds (es ++ e ∷ []) → AllLinked same_side (state_after es).config → Fair weight es e → Books weight top far es → Books weight top far (es ++ e ∷ [])
  books_next es e here run' later apart fair books = ⊎_elim
      (λ (change : is_of_change e ≡ true). ⊎_elim
      (λ (make : is_make e ≡ true). by_make e here run' later make)
      (λ (none_made : is_make e ≡ false). record { balance = calm_balance es e here run' later apart books change none_made })
      (cases_Bool (is_make e)))
      (λ (of_node : is_of_change e ≡ false). record { balance = node_balance es e here run' later apart books of_node fair })
      (cases_Bool (is_of_change e))
    where
      by_make : (z : Event) → IsNext es z → IsRun (es ++ z ∷ []) → HasFolds (es ++ z ∷ []) → is_make z ≡ true → Books weight top far (es ++ z ∷ [])
      by_make (Make k node from) here run' later h = made_books es k node from here run' later apart books
      by_make _ here run' later h = absurd (both_ways false refl h)

  books_from : (done_ rest : List Event) → IsRun (done_ ++ rest) → HasFolds (done_ ++ rest) → ((before after : List Event) → done_ ++ rest ≡ before ++ after → AllLinked same_side (state_after before).config) → ((before after : List Event) (e : Event) → done_ ++ rest ≡ before ++ e ∷ after → Fair weight before e)
      → Books weight top far done_ → Books weight top far (done_ ++ rest)
  books_from done_ [] run folds apart fair books = subst (Books weight top far) (sym (append-nil done_)) books
  books_from done_ (e ∷ rest) run folds apart fair books =
      let all = append_assoc done_ (e ∷ []) rest in
      let at = at_place handed (done_ ++ e ∷ rest) run folds done_ rest e refl in
      let next = books_next done_ e (place done_ rest e run) at.0 at.1 (apart done_ (e ∷ rest) refl) (fair done_ rest e refl) books in
      subst (Books weight top far) all
      (books_from (done_ ++ e ∷ []) rest (subst (λ xs. IsRun xs) (sym all) run) (subst (λ xs. HasFolds xs) (sym all) folds) (λ before after is. apart before after (sym all ∙ is))
      (λ before after z is. fair before after z (sym all ∙ is)) next)

  nothing_moves : Books weight top far []
  nothing_moves = record {
    balance =
        let a = sum_zero (has (stock weight) []) 0 top (λ i l. refl) in
        let b = sum_zero (has (spent weight) []) 0 top (λ i l. refl) in
        let c = sum_zero (owed_at weight []) 0 top (λ i l. refl) in
        let w = sum_zero (due weight []) 0 far (λ i l. refl) in omega (arith, a, b, c, w);
  }

  pub keep_books : (es : List Event) → IsRun es → HasFolds es → ((before after : List Event) → es ≡ before ++ after → AllLinked same_side (state_after before).config) → ((before after : List Event) (e : Event) → es ≡ before ++ e ∷ after → Fair weight before e) → Books weight top far es
  keep_books es run folds apart fair = books_from [] es run folds apart fair nothing_moves
