-- Events that are steps one after the other: where they lead, their parts, and runs as such events.
use Rattle.std.proofs.Common.{◌≡◌, ◌∙◌, List, [], ◌∷◌, ◌++◌, append_assoc, refl, ap, sym, subst}
use Rattle.std.specs.Prelude.{◌↔◌, fold}
use Rattle.std.proofs.lemmas.List.{append-nil}
use Rattle.std.proofs.lemmas.List.Sums.{fold_push}
use Rattle.quiesce_core.specs.declared.event.Event.{Event}
use Rattle.base.specs.Each.{EachAfter}
use Rattle.quiesce_core.specs.Effect.{effect}
use Rattle.quiesce_core.specs.Runs.{IsRun, Step, Steps, onward, state_after, stays}
use Rattle.quiesce_core.specs.State.{State, empty}

-- they lead to one state
pub end_is : (s t : State) (es : List Event) → Steps s es t → t ≡ fold effect s es
end_is _ _ _ (stays s) = refl
end_is _ _ _ (onward s t u e more_ first rest) = end_is t u more_ rest ∙ ap (λ x. fold effect x more_) first.changed

-- the first of them
pub first_of : (s u : State) (xs : List Event) (e : Event) (es : List Event) → Steps s xs u → xs ≡ e ∷ es → (t : State) × Step s e t × Steps t es u
first_of _ _ _ e es (stays s) is = absurd (cc)
first_of _ _ _ e es (onward s t u d more_ first rest) is =
    let head : d ≡ e = cc in
    let tail : more_ ≡ es = cc in
    (t, subst (λ x. Step s x t) head first, subst (λ xs. Steps t xs u) tail rest)

-- some of them and then others
pub both : (s t u : State) (es fs : List Event) → Steps s es t → Steps t fs u → Steps s (es ++ fs) u
both _ _ u _ fs (stays s) later = later
both _ _ u _ fs (onward s t v e more_ first rest) later = onward s t u e (more_ ++ fs) first (both t v u more_ fs rest later)

pub parted : (s u : State) (es fs : List Event) → Steps s (es ++ fs) u → (t : State) × Steps s es t × Steps t fs u
parted s u [] fs h = (s, stays s, h)
parted s u (e ∷ es) fs h =
    let w = first_of s u (e ∷ es ++ fs) e (es ++ fs) h refl in
    let r = parted w.0 u es fs w.2 in
    (r.0, onward s w.0 r.0 e es w.1 r.1, r.2)

-- one event more
pub steps_more : (s t u : State) (es : List Event) (e : Event) → Steps s es t → Step t e u → Steps s (es ++ e ∷ []) u
steps_more s t u es e h step = both s t u es (e ∷ []) h (onward t u u e [] step (stays u))

-- a step at each place
abbrev StepFrom : State → List Event → Event → Type 0
StepFrom s before e = Step (fold effect s before) e (fold effect s (before ++ e ∷ []))

each_if : (s u : State) (before es : List Event) → Steps (fold effect s before) es u → EachAfter (StepFrom s) before es
each_if s u before [] h = tt
each_if s u before (e ∷ es) h =
    let w = first_of (fold effect s before) u (e ∷ es) e es h refl in
    let next = fold_push effect s before e in
    (record { allowed = w.1.allowed; changed = next }, each_if s u (before ++ e ∷ []) es (subst (λ t. Steps t es u) (w.1.changed ∙ sym next) w.2))

if_each : (s : State) (before es : List Event) → EachAfter (StepFrom s) before es → Steps (fold effect s before) es (fold effect s (before ++ es))
if_each s before [] h = subst (λ xs. Steps (fold effect s before) [] (fold effect s xs)) (sym (append-nil before)) (stays (fold effect s before))
if_each s before (e ∷ es) h =
    onward (fold effect s before) (fold effect s (before ++ e ∷ [])) (fold effect s (before ++ e ∷ es)) e es h.0
    (subst (λ xs. Steps (fold effect s (before ++ e ∷ [])) es (fold effect s xs)) (append_assoc before (e ∷ []) es) (if_each s (before ++ e ∷ []) es h.1))

-- a run is steps from where nothing is made
pub run_is_steps : (es : List Event) → IsRun es ↔ Steps empty es (state_after es)
run_is_steps es = (λ run. if_each empty [] es run, λ h. each_if empty (state_after es) [] es h)

-- and a run goes on by steps from where it has led
pub run_goes_on : (es more_ : List Event) (s : State) → Steps empty es s → IsRun (es ++ more_) ↔ Steps s more_ (fold effect s more_)
run_goes_on es more_ s path = (
  λ run.
      let u = state_after (es ++ more_) in
      let w = parted empty u es more_ ((run_is_steps (es ++ more_)).0 run) in
      let same : w.0 ≡ s = end_is empty w.0 es w.1 ∙ sym (end_is empty s es path) in
      let on : Steps s more_ u = subst (λ t. Steps t more_ u) same w.2 in
      subst (λ v. Steps s more_ v) (end_is s u more_ on) on,
  λ on.
      let whole = both empty s (fold effect s more_) es more_ path on in
      (run_is_steps (es ++ more_)).1 (subst (λ v. Steps empty (es ++ more_) v) (end_is empty (fold effect s more_) (es ++ more_) whole) whole),
)
