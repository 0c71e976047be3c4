-- What independence is for: independent events behind a run may be swapped.
use Rattle.std.proofs.Common.{◌≡◌, ◌∙◌, ℕ, Bool, true, false, cond, List, [], ◌∷◌, ◌++◌, Some, None, refl, sym, ap, ap₂, subst}
use Rattle.std.specs.Prelude.{◌==◌, fold}
use Rattle.std.specs.Option.{option_map_or}
use Rattle.quiesce_core.specs.declared.event.Event.{Event}
use Rattle.quiesce_core.specs.Effect.{effect}
use Rattle.quiesce_core.specs.Rules.{denial}
use Rattle.quiesce_core.specs.Runs.{IsRun, Steps, doer, done_from, is_doer, onward, state_after, stays}
use Rattle.quiesce_core.specs.State.{State, empty}
use Rattle.quiesce_core.proofs.StepsLaws.{first_of, run_goes_on, run_is_steps}
use Rattle.quiesce_laws.specs.Independence.{AreIndependent}
use Rattle.quiesce_laws.specs.Swaps.{MayBeSwapped}
use Rattle.quiesce_laws.proofs.SwapDoerLaws.{found}

turned : {s : State} {e f : Event} → AreIndependent s e f → AreIndependent s f e
turned i = record {
  second_behind = i.first_behind;
  first_behind = i.second_behind;
  second_doer = i.first_doer;
  first_doer = i.second_doer;
  one_state = sym i.one_state;
}

-- steps that begin with both begin with both in the other order
steps_swapped : (s u : State) (e f : Event) (after : List Event) → denial s f ≡ None → AreIndependent s e f → Steps s (e ∷ f ∷ after) u → Steps s (f ∷ e ∷ after) u
steps_swapped s u e f after may i path =
    let one = first_of s u (e ∷ f ∷ after) e (f ∷ after) path refl in
    let two = first_of one.0 u (f ∷ after) f after one.2 refl in
    let end : two.0 ≡ effect (effect s f) e = two.1.changed ∙ ap (λ t. effect t f) one.1.changed ∙ i.one_state in
    onward s (effect s f) u f (e ∷ after) (record { allowed = may; changed = refl })
    (onward (effect s f) (effect (effect s f) e) u e after (record { allowed = i.first_behind; changed = refl }) (subst (λ t. Steps t after u) end two.2))

run_swapped : (es after : List Event) (e f : Event) → IsRun es → denial (state_after es) f ≡ None → AreIndependent (state_after es) e f
    → IsRun (es ++ e ∷ f ∷ after) → IsRun (es ++ f ∷ e ∷ after)
run_swapped es after e f run may i both =
    let path = (run_is_steps es).0 run in
    let s = state_after es in
    let then_ = steps_swapped s (fold effect s (e ∷ f ∷ after)) e f after may i ((run_goes_on es (e ∷ f ∷ after) s path).0 both) in
    (run_goes_on es (f ∷ e ∷ after) s path).1 (subst (λ u. Steps s (f ∷ e ∷ after) u) (ap (λ t. fold effect t after) i.one_state) then_)

goes_on : (es : List Event) (e f : Event) → IsRun es → denial (state_after es) e ≡ None → AreIndependent (state_after es) e f → IsRun (es ++ e ∷ f ∷ [])
goes_on es e f run may i =
    let s = state_after es in
    (run_goes_on es (e ∷ f ∷ []) s ((run_is_steps es).0 run)).1
    (onward s (effect s e) (effect (effect s e) f) e (f ∷ []) (record { allowed = may; changed = refl })
    (onward (effect s e) (effect (effect s e) f) (effect (effect s e) f) f [] (record { allowed = i.second_behind; changed = refl }) (stays (effect (effect s e) f))))

-- the same of states and logs, from a state on
states_swapped : (s : State) (es after : List Event) (e f : Event) → AreIndependent (fold effect s es) e f
    → fold effect s (es ++ e ∷ f ∷ after) ≡ fold effect s (es ++ f ∷ e ∷ after)
states_swapped s [] after e f i = ap (λ t. fold effect t after) i.one_state
states_swapped s (x ∷ es) after e f i = states_swapped (effect s x) es after e f i

two_done : (a b : Bool) (e f : Event) (rest : List Event) → (a ≡ true → b ≡ true → ⊥)
    → cond a (e ∷ cond b (f ∷ rest) rest) (cond b (f ∷ rest) rest) ≡ cond b (f ∷ cond a (e ∷ rest) rest) (cond a (e ∷ rest) rest)
two_done true true e f rest never = absurd (never refl refl)
two_done true false e f rest never = refl
two_done false true e f rest never = refl
two_done false false e f rest never = refl

logs_swapped : (s : State) (n : ℕ) (es after : List Event) (e f : Event) → AreIndependent (fold effect s es) e f
    → ((k : ℕ) → doer (fold effect s es) e ≡ Some k → doer (fold effect s es) f ≡ Some k → ⊥)
    → done_from s n (es ++ e ∷ f ∷ after) ≡ done_from s n (es ++ f ∷ e ∷ after)
logs_swapped s n [] after e f i two =
    let here = is_doer s n e in
    let there = is_doer s n f in
    let second : is_doer (effect s e) n f ≡ is_doer s n f = ap (λ o. option_map_or (λ m. m == n) o false) i.second_doer in
    let first : is_doer (effect s f) n e ≡ is_doer s n e = ap (λ o. option_map_or (λ m. m == n) o false) i.first_doer in
    let rest = done_from (effect (effect s e) f) n after in
    ap (λ b. cond (is_doer s n e) (e ∷ cond b (f ∷ rest) rest) (cond b (f ∷ rest) rest)) second
    ∙ two_done (is_doer s n e) (is_doer s n f) e f rest (λ a b. two n (found s n e a) (found s n f b))
    ∙ ap₂ (λ b t. cond (is_doer s n f) (f ∷ cond b (e ∷ done_from t n after) (done_from t n after)) (cond b (e ∷ done_from t n after) (done_from t n after)))
    (sym first) i.one_state
logs_swapped s n (x ∷ es) after e f i two = ap (λ xs. cond (is_doer s n x) (x ∷ xs) xs) (logs_swapped (effect s x) n es after e f i two)

pub may_be_swapped : (es : List Event) (e f : Event) → IsRun es → denial (state_after es) e ≡ None → denial (state_after es) f ≡ None
    → AreIndependent (state_after es) e f → ((n : ℕ) → doer (state_after es) e ≡ Some n → doer (state_after es) f ≡ Some n → ⊥) → MayBeSwapped es e f
may_be_swapped es e f run may_e may_f i two = record {
  goes_on = goes_on es e f run may_e i;
  runs = λ after. (run_swapped es after e f run may_f i, run_swapped es after f e run may_e (turned i));
  states = λ after. states_swapped empty es after e f i;
  logs = λ n after. logs_swapped empty n es after e f i two;
}
