-- The numbers that nodes keep stay below 2^64: a count is at most one more than the transactions that ended, and of
-- these no run has more than its ports have serials.
use Rattle.std.proofs.Common.{◌≡◌, ◌∙◌, ℕ, ◌+◌, ◌-◌, ◌*◌, ◌/◌, ◌%◌, ◌<◌, ◌≤◌, Bool, true, false, cond, zero, suc, List, [], ◌∷◌, ◌++◌, append_assoc, length, Option, Some, None, refl, sym, ap, subst, arith, ⊎_elim}
use Rattle.quiesce_laws.specs.Events.{ends_transaction}
use Rattle.std.specs.Prelude.{◌==◌, ◌^◌, nat_le, nat_lt, drop, is_none, is_some, not, sum_by}
use Rattle.std.specs.List.{AllByRecursion, count_by, range_with_len}
use Rattle.std.specs.Option.{option_map_or}
use Rattle.std.proofs.lemmas.Bool.{and_parts, both_ways, cases_Bool, cases_eq, eqb-true, ltb-true, ne_eqb}
use Rattle.std.proofs.lemmas.List.{append-nil}
use Rattle.std.proofs.lemmas.List.Sums.{sum_by-cons}
use Rattle.std.proofs.lemmas.Option.{none-some, same_Some}
use Rattle.base.proofs.ListLaws.{count_by-one}
use Rattle.base.proofs.MapLaws.{count_by-append}
use Rattle.base.proofs.OptionLaws.{map_or_true}
use Rattle.base.proofs.SumLaws.{sum_le}
use Rattle.config_graph.specs.Kinds.{row}
use Rattle.config_graph.specs.declared.TheConstants.{MAX_PORTS}
use Rattle.config_graph.specs.declared.kind.Kind.{Kind}
use Rattle.config_graph.specs.declared.kind.Kind.TheVariants.{Philosopher, Place, Fork, Source, Map, Buffer, Sink, Teller, Branch, Account, Asker, Adder}
use Rattle.config_graph.specs.declared.node.Node.{Node}
use Rattle.component_trait.specs.Fold.{after_event, calls_at, may_take, is_give, is_more, wants_at}
use Rattle.component_trait.specs.Moves as moves
use Rattle.component_trait.specs.States.{Kept, NodeState, nothing}
use Rattle.component_trait.specs.Tables.{Outcome, kept_after_end, numbers, opening, serve}
use Rattle.component_trait.proofs.FoldLaws.{where_so_then}
use Rattle.quiesce_word.specs.declared.word.TheConstants.{LAST_SERIAL}
use Rattle.quiesce_core.specs.Alters.{Reconfigures}
use Rattle.quiesce_core.specs.Doers.{is_make, is_of_change}
use Rattle.quiesce_core.specs.Legal.{Legal}
use Rattle.quiesce_core.specs.Rules.{has_its_argument, is_path_taken, is_value, value_limit}
use Rattle.quiesce_core.specs.Runs.{IsRun, state_after}
use Rattle.quiesce_core.specs.State.{Configuration, State, exchange, slot}
use Rattle.quiesce_core.specs.declared.event.Event.{Event}
use Rattle.quiesce_core.specs.declared.event.Event.TheVariants.{Begin, Call, Take, Give, End, More, Ask, Hear, Miss, Make}
use Rattle.quiesce_core.specs.declared.state.Slot.{Slot}
use Rattle.quiesce_core.proofs.AlterLaws.{reconfigured}
use Rattle.quiesce_core.proofs.InductionLaws.{IsNext, place}
use Rattle.quiesce_core.proofs.RunLaws.{runs_are_well_formed}
use Rattle.quiesce_laws.proofs.TotalLaws.{ends_make_all_serials}
use Rattle.change_round_laws.proofs.FoldLaws.{StatesAreHanded}
use Rattle.result_laws.specs.Coming.{HasFolds, come}
use Rattle.result_laws.proofs.ComingLaws.{at_place, folds_stay, given_to, made_has, old_stays}
use Rattle.result_laws.proofs.Doing.{Does, does_at}
use Rattle.result_laws.proofs.Measures.{unmade_come}

-- ---- what a node keeps

pub record Small (ends : ℕ) (s : Kept) : Type 0 where
  pub count : s.count ≤ ends + 1
  pub total : s.total < 2 ^ 64
  pub items : AllByRecursion (λ v. v < 2 ^ 64) s.items

small_nothing : (ends : ℕ) → Small ends nothing
small_nothing ends = record { count = omega arith; total = omega arith; items = tt }

later_small : (a b : ℕ) (s : Kept) → a ≤ b → Small a s → Small b s
later_small a b s le x = let c = x.count in record { count = omega (arith, c, le); total = x.total; items = x.items }

small_if : (ends : ℕ) (b : Bool) (s t : Kept) → (b ≡ true → Small ends s) → (b ≡ false → Small ends t) → Small ends (cond b s t)
small_if ends true s t x y = x refl
small_if ends false s t x y = y refl

pushed : (xs : List ℕ) (v : ℕ) → v < 2 ^ 64 → AllByRecursion (λ x. x < 2 ^ 64) xs → AllByRecursion (λ x. x < 2 ^ 64) (xs ++ v ∷ [])
pushed [] v low all = (low, tt)
pushed (x ∷ xs) v low all = (all.0, pushed xs v low all.1)

dropped : (xs : List ℕ) → AllByRecursion (λ x. x < 2 ^ 64) xs → AllByRecursion (λ x. x < 2 ^ 64) (drop 1 xs)
dropped [] all = tt
dropped (x ∷ xs) all = all.1

counted : (ends n : ℕ) → n ≤ ends → Small (ends + 1) (record { count = n + 1; total = 0; items = [] })
counted ends n low = record { count = omega (arith, low); total = omega arith; items = tt }

-- an ended transaction of its own counts once
small_end : (k : Kind) (ends : ℕ) (s : Kept) (v : ℕ) → Small ends s → Small (ends + 1) (kept_after_end k s v)
small_end k ends s v x = by k
  where
    same : Small (ends + 1) s
    same = later_small ends (ends + 1) s (omega arith) x

    more_ : Small (ends + 1) (record { count = s.count + 1; total = 0; items = [] })
    more_ = let c = x.count in record { count = omega (arith, c); total = omega arith; items = tt }

    by : (k : Kind) → Small (ends + 1) (kept_after_end k s v)
    by Philosopher = small_if (ends + 1) (v == 1) _ s (λ h. more_) (λ h. same)
    by Source = small_if (ends + 1) (v == 0) s _ (λ h. same) (λ h. more_)
    by Buffer = small_if (ends + 1) (v == 0) s _ (λ h. same) (λ h. record { count = omega arith; total = omega arith; items = dropped s.items x.items })
    by Teller = more_
    by Asker = let c = x.count in record { count = omega (arith, c); total = omega arith; items = tt }
    by _ = same

abbrev outcome : Kept → ℕ → Outcome
outcome s r = record { kept = s; reply = r }

-- serving a value
small_serve : (k : Kind) (a ends : ℕ) (s : Kept) (v : ℕ) → v < 2 ^ 64 → Small ends s → Small ends (serve k a s v).kept
small_serve k a ends s v low x = by k
  where
    held : (n : ℕ) → n ≤ 1 → Small ends (record { count = n; total = 0; items = [] })
    held n few = record { count = omega (arith, few); total = omega arith; items = tt }

    with_one_more : Small ends (record { count = 0; total = 0; items = s.items ++ v ∷ [] })
    with_one_more = record { count = omega arith; total = omega arith; items = pushed s.items v low x.items }

    sum : (n : ℕ) → n < 2 ^ 64 → Small ends (record { count = 0; total = n; items = [] })
    sum n small = record { count = omega arith; total = small; items = tt }

    lends : (one free zero : Bool) → Small ends (cond {A = Outcome} one (cond {A = Outcome} free (outcome (record { count = 1; total = 0; items = [] }) 1) (outcome s 0)) (cond {A = Outcome} zero (outcome nothing 1) (outcome s 0))).kept
    lends true true z = held 1 (omega arith)
    lends true false z = x
    lends false f true = held 0 (omega arith)
    lends false f false = x

    holds : (b : Bool) → Small ends (cond {A = Outcome} b (outcome (record { count = 0; total = 0; items = s.items ++ v ∷ [] }) 1) (outcome s 0)).kept
    holds true = with_one_more
    holds false = x

    pays : (b : Bool) → Small ends (cond {A = Outcome} b (outcome (record { count = 0; total = s.total - v / 2; items = [] }) 1) (outcome (record { count = 0; total = s.total; items = [] }) 0)).kept
    pays true = let t = x.total in sum (s.total - v / 2) (omega (arith, t))
    pays false = sum s.total x.total

    takes : (b : Bool) → nat_lt (s.total + v / 2) (2 ^ 64) ≡ b → Small ends (cond {A = Outcome} b (outcome (record { count = 0; total = s.total + v / 2; items = [] }) 1) (outcome (record { count = 0; total = s.total; items = [] }) 0)).kept
    takes true h = sum (s.total + v / 2) (ltb-true (s.total + v / 2) (2 ^ 64) h)
    takes false h = sum s.total x.total

    by : (k : Kind) → Small ends (serve k a s v).kept
    by Fork = lends (v == 1) (s.count == 0) (v == 0)
    by Buffer = holds (nat_lt (length s.items) a)
    by Sink = with_one_more
    by Account = either (v % 2 == 1) refl
      where
        either : (b : Bool) → (v % 2 == 1) ≡ b → Small ends (serve Account a s v).kept
        either true is = rw is (pays (nat_le (v / 2) s.total))
        either false is = rw is (takes (nat_lt (s.total + v / 2) (2 ^ 64)) refl)
    by _ = x

-- ---- an event of a node

abbrev ends_in : Event → ℕ
ends_in e = cond (ends_transaction e) 1 0

small_event : (first : ℕ) (n m : NodeState) (e : Event) (ends : ℕ) → ((p k v : ℕ) → e ≡ Take p k v → v < 2 ^ 64) → after_event first n e ≡ Some m → Small ends n.kept → Small (ends + ends_in e) m.kept
small_event first n m e ends low led x = by e refl led
  where
    stays : (b : Bool) (t : NodeState) → Rattle.component_trait.specs.Fold.where_so b t ≡ Some m → t.kept ≡ n.kept → Small (ends + 0) m.kept
    stays b t h same = subst (λ s. Small (ends + 0) s) (sym same ∙ ap (λ (y : NodeState). y.kept) (where_so_then b t m h).1) (later_small ends (ends + 0) n.kept (omega arith) x)

    by : (z : Event) → e ≡ z → after_event first n z ≡ Some m → Small (ends + ends_in z) m.kept
    by (Begin p k v) at h = stays _ n h refl
    by (Call p k v) at h = stays _ n h refl
    by (Ask p k v) at h = stays _ n h refl
    by (Miss p) at h = stays (calls_at first n p) (moves.after_answer n 0) h refl
    by (Hear p k v) at h = stays (moves.waits n) (moves.after_answer n v) h refl
    by (More p k v) at h = stays (is_more v (moves.next n)) (moves.after_more n) h refl
    by (Give p k v) at h = stays (is_give v (moves.next n)) (moves.after_give n) h refl
    by (Take p k v) at h =
        subst (λ s. Small (ends + 0) s) (ap (λ (y : NodeState). y.kept) (where_so_then (may_take n) (moves.after_take n v) m h).1)
        (later_small ends (ends + 0) _ (omega arith) (small_serve n.kind n.arg ends n.kept v (low p k v at) x))
    by (End p k v) at h = at_end (calls_at first n p) h
      where
        at_end : (b : Bool) → cond b (Some (moves.after_answer n v)) (cond (wants_at first n p) (Some (moves.after_end n v)) None) ≡ Some m → Small (ends + 1) m.kept
        at_end true h = subst (λ s. Small (ends + 1) s) (ap (λ (y : NodeState). y.kept) (same_Some (moves.after_answer n v) m h)) (later_small ends (ends + 1) n.kept (omega arith) x)
        at_end false h =
            subst (λ s. Small (ends + 1) s) (ap (λ (y : NodeState). y.kept) (where_so_then (wants_at first n p) (moves.after_end n v) m h).1) (small_end n.kind ends n.kept v x)
    by _ at h = absurd (none-some m h)

-- ---- along a run

abbrev pub ends_so_far : List Event → ℕ
ends_so_far es = count_by ends_transaction es

abbrev pub AllSmall : List Event → Type 0
AllSmall es = (n : ℕ) → Small (ends_so_far es) (come es n).kept

ended_next : (es : List Event) (e : Event) → ends_so_far (es ++ e ∷ []) ≡ ends_so_far es + ends_in e
ended_next es e = count_by-append ends_transaction es (e ∷ []) ∙ ap (λ n. ends_so_far es + n) (count_by-one ends_transaction e)

module _ (handed : StatesAreHanded) (es : List Event) (e : Event) (here : IsNext es e) (run' : IsRun (es ++ e ∷ [])) (later : HasFolds (es ++ e ∷ [])) (was : AllSmall es) where
  waited : (n : ℕ) (s : Kept) → Small (ends_so_far es) s → Small (ends_so_far (es ++ e ∷ [])) s
  waited n s x = let w = ended_next es e in later_small (ends_so_far es) (ends_so_far (es ++ e ∷ [])) s (omega (arith, w)) x

  node_small : is_of_change e ≡ false → AllSmall (es ++ e ∷ [])
  node_small of_node n = ⊎_elim
      (λ (same : n ≡ w.at). subst (λ i. Small (ends_so_far (es ++ e ∷ [])) (come (es ++ e ∷ []) i).kept) (sym same) mine)
      (λ (other : n ≡ w.at → ⊥). subst (λ (x : NodeState). Small (ends_so_far (es ++ e ∷ [])) x.kept) (sym (w.others n other)) (waited n _ (was n)))
      (cases_eq n w.at)
    where
      w : Does es e
      w = does_at handed es e here run' later of_node

      taken_low : (p k v : ℕ) → e ≡ Take p k v → v < 2 ^ 64
      taken_low p k v at =
          let l = subst (Legal (state_after es)) at here.legal in
          let value = eqb-true v (exchange (state_after es) p).value (and_parts (k == (exchange (state_after es) p).serial) (v == (exchange (state_after es) p).value) l.message).1 in
          let bound = (here.well.bounds p).value in omega (arith, value, bound)

      mine : Small (ends_so_far (es ++ e ∷ [])) (come (es ++ e ∷ []) w.at).kept
      mine = subst (λ n. Small n (come (es ++ e ∷ []) w.at).kept) (sym (ended_next es e)) (small_event w.made.first_port (come es w.at) (come (es ++ e ∷ []) w.at) e (ends_so_far es) taken_low w.led (was w.at))

  calm_small : (change : is_of_change e ≡ true) → is_make e ≡ false → AllSmall (es ++ e ∷ [])
  calm_small change none_made n = subst (λ (x : NodeState). Small (ends_so_far (es ++ e ∷ [])) x.kept) (sym (folds_stay handed es e here run' change none_made n)) (waited n _ (was n))

  made_small : (k : ℕ) (made : Node) (from : Option ℕ) → e ≡ Make k made from → AllSmall (es ++ e ∷ [])
  made_small k made from at n = ⊎_elim
      (λ (same : n ≡ last). subst (λ i. Small (ends_so_far (es ++ e ∷ [])) (come (es ++ e ∷ []) i).kept) (sym same) new_small)
      (λ (other : n ≡ last → ⊥). old_small other (slot c n) refl)
      (cases_eq n last)
    where
      c : Configuration
      c = (state_after es).config

      last : ℕ
      last = length (state_after es).config.slots

      here' : IsNext es (Make k made from)
      here' = subst (λ z. IsNext es z) at here

      r : Reconfigures (state_after es).config (Make k made from) (state_after (es ++ Make k made from ∷ [])).config
      r = subst (λ (x : State). Reconfigures (state_after es).config (Make k made from) x.config) (sym here'.next) (reconfigured (state_after es) (Make k made from) here'.legal)

      -- it opens with its argument, which is a value, or with what the old one kept
      given_small : (o : Option ℕ) → Small (ends_so_far es) (given_to es made o)
      given_small (Some j) = was j
      given_small None = of_kind made.kind refl
        where
          of_kind : (x : Kind) → made.kind ≡ x → Small (ends_so_far es) (opening made.kind (option_map_or (λ a. a) made.arg 0))
          of_kind Account is = subst (λ y. Small (ends_so_far es) (opening y (option_map_or (λ a. a) made.arg 0))) (sym is) (record { count = omega arith; total = small; items = tt })
            where
              has : has_its_argument made ≡ true
              has = (and_parts (not (is_path_taken (state_after es).config made.path)) (has_its_argument made) here'.legal.new_path).1

              small : option_map_or (λ a. a) made.arg 0 < 2 ^ 64
              small =
                  let value : option_map_or is_value made.arg false ≡ true = sym (ap (λ y. cond (is_some (row y).arg) (option_map_or is_value made.arg false) (is_none made.arg)) is) ∙ has in
                  let w = map_or_true is_value made.arg value in
                  let low = ltb-true w.0 value_limit w.2 in
                  let is_arg : option_map_or (λ a. a) made.arg 0 ≡ w.0 = ap (λ o. option_map_or (λ a. a) o 0) w.1 in omega (arith, low, is_arg)
          of_kind _ is = subst (λ y. Small (ends_so_far es) (opening y (option_map_or (λ a. a) made.arg 0))) (sym is) (small_nothing (ends_so_far es))

      new_small : Small (ends_so_far (es ++ e ∷ [])) (come (es ++ e ∷ []) last).kept
      new_small =
          subst (λ z. Small (ends_so_far (es ++ z ∷ [])) (come (es ++ z ∷ []) last).kept) (sym at)
          (subst (λ s. Small (ends_so_far (es ++ Make k made from ∷ [])) s)
          (sym (made_has handed es k made from here' (subst (λ z. IsRun (es ++ z ∷ [])) at run') (subst (λ z. HasFolds (es ++ z ∷ [])) at later)))
          (subst (λ z. Small (ends_so_far (es ++ z ∷ [])) (given_to es made from)) at (waited last _ (given_small from))))

      old_small : (n ≡ last → ⊥) → (o : Option Slot) → slot c n ≡ o → Small (ends_so_far (es ++ e ∷ [])) (come (es ++ e ∷ []) n).kept
      old_small other (Some m) is =
          subst (λ (x : NodeState). Small (ends_so_far (es ++ e ∷ [])) x.kept) (sym (old_stays handed es e here run' (ap is_of_change at) n m is)) (waited n _ (was n))
      old_small other None is =
          let none_then : slot (state_after (es ++ e ∷ [])).config n ≡ None =
          ap (λ z. slot (state_after (es ++ z ∷ [])).config n) at ∙ r.slots n
          ∙ ap (λ b. cond b (Some (record { node = made; first_port = length (state_after es).config.gates; from = from; live = true })) (slot (state_after es).config n)) (ne_eqb n last other) ∙ is in
          subst (λ (x : NodeState). Small (ends_so_far (es ++ e ∷ [])) x.kept) (sym (unmade_come (es ++ e ∷ []) n none_then)) (small_nothing (ends_so_far (es ++ e ∷ [])))

  small_next : AllSmall (es ++ e ∷ [])
  small_next = ⊎_elim
      (λ (change : is_of_change e ≡ true). ⊎_elim (λ (make : is_make e ≡ true). by_make e refl make) (λ (none_made : is_make e ≡ false). calm_small change none_made) (cases_Bool (is_make e)))
      (λ (of_node : is_of_change e ≡ false). node_small of_node)
      (cases_Bool (is_of_change e))
    where
      by_make : (z : Event) → e ≡ z → is_make z ≡ true → AllSmall (es ++ e ∷ [])
      by_make (Make k made from) at h = made_small k made from at
      by_make _ at h = absurd (both_ways false refl h)

module _ (handed : StatesAreHanded) where
  small_from : (done_ rest : List Event) → IsRun (done_ ++ rest) → HasFolds (done_ ++ rest) → AllSmall done_ → AllSmall (done_ ++ rest)
  small_from done_ [] run folds was = subst AllSmall (sym (append-nil done_)) was
  small_from done_ (e ∷ rest) run folds was =
      let all = append_assoc done_ (e ∷ []) rest in
      let at = at_place handed (done_ ++ e ∷ rest) run folds done_ rest e refl in
      subst AllSmall all
      (small_from (done_ ++ e ∷ []) rest (subst (λ xs. IsRun xs) (sym all) run) (subst (λ xs. HasFolds xs) (sym all) folds) (small_next handed done_ e (place done_ rest e run) at.0 at.1 was))

  pub all_small : (es : List Event) → IsRun es → HasFolds es → AllSmall es
  all_small es run folds = small_from [] es run folds (λ n. subst (λ (x : NodeState). Small 0 x.kept) (sym (unmade_come [] n refl)) (small_nothing 0))

-- ---- how many end

sum_of_same : (a n x : ℕ) → sum_by (λ i. x) (range_with_len a n) ≡ n * x
sum_of_same a zero x = omega arith
sum_of_same a (suc n) x = let w = sum_by-cons (λ i. x) a (range_with_len (a + 1) n) in let rest = sum_of_same (a + 1) n x in omega (arith, w, rest)

pub few_end : (es : List Event) → IsRun es → ends_so_far es ≤ MAX_PORTS * LAST_SERIAL
few_end es run =
    let all = ends_make_all_serials es run in
    let well = runs_are_well_formed es run in
    let ports = length (state_after es).config.gates in
    let each = sum_le (λ p. (exchange (state_after es) p).serial) (λ p. LAST_SERIAL) 0 ports (λ p. (well.bounds p).serial) in
    let whole = sum_of_same 0 ports LAST_SERIAL in
    let few = well.sound.few_ports in omega (arith, all, each, whole, few)

-- ---- the numbers of a state

pub numbers_small : (k : Kind) (ends : ℕ) (s : Kept) → ends ≤ MAX_PORTS * LAST_SERIAL → Small ends s → AllByRecursion (λ v. v < 2 ^ 64) (numbers k s)
numbers_small k ends s few x = by k
  where
    one : s.count < 2 ^ 64
    one = let c = x.count in omega (arith, c, few)

    by : (k : Kind) → AllByRecursion (λ v. v < 2 ^ 64) (numbers k s)
    by Place = tt
    by Map = tt
    by Branch = tt
    by Adder = tt
    by Buffer = x.items
    by Sink = x.items
    by Account = (x.total, tt)
    by Asker = (one, (x.total, tt))
    by _ = (one, tt)
