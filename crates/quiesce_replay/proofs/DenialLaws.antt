-- Events replayed are all steps, or one of them is denied.
use Rattle.std.proofs.lemmas.List.{take_more, take_all, take-append-drop, length-take-le}
use Rattle.std.proofs.Math.Seq.{drop-cons}
use Rattle.std.proofs.Common.{◌≡◌, ◌∙◌, ◌+◌, ◌<◌, ◌≤◌, ℕ, suc, take, drop, get_or, arith, List, [], ◌∷◌, ◌++◌, Option, Some, None, length, refl, sym, subst, ap, inl, inr, ⊎_elim}
use Rattle.std.specs.Prelude.{◌⊎◌}
use Rattle.quiesce_core.specs.Effect.{effect}
use Rattle.quiesce_core.specs.declared.event.Event.{Event}
use Rattle.quiesce_core.specs.Rules.{denial}
use Rattle.quiesce_core.specs.Runs.{Step, Steps, onward, stays}
use Rattle.quiesce_core.specs.State.{State}
use Rattle.quiesce_core.proofs.StepsLaws.{end_is, first_of, parted, steps_more}
use Rattle.quiesce_replay.specs.Replay.{IsDenied}

pub one_end : (s t u : State) (events : List Event) → Steps s events t → Steps s events u → t ≡ u
one_end s t u events there too = end_is s t events there ∙ sym (end_is s u events too)

clash : (rule : ℕ) → None ≡ Some rule → ⊥
clash rule is = cc

-- events that are all steps hold none that is denied
pub never_both : (s t : State) (events : List Event) (number rule : ℕ) → Steps s events t → IsDenied s events number rule → ⊥
never_both s t events number rule on is =
    let w = parted s t is.before (is.event ∷ is.after) (subst (λ es. Steps s es t) is.parts on) in
    let next = first_of w.0 t (is.event ∷ is.after) is.event is.after w.2 refl in
    clash rule (sym next.1.allowed ∙ ap (λ v. denial v is.event) (one_end s w.0 is.then_ is.before w.1 is.leads) ∙ is.denied)

tail_is : (x y : Event) (xs ys : List Event) → x ∷ xs ≡ y ∷ ys → xs ≡ ys
tail_is x y xs ys is = cc

head_is : (x y : Event) (xs ys : List Event) → x ∷ xs ≡ y ∷ ys → x ≡ y
head_is x y xs ys is = cc

-- a step leads to one state
one_step : (s t u : State) (d e : Event) → Step s d t → Step s e u → d ≡ e → t ≡ u
one_step s t u d e a b same = cc (a.changed, b.changed)

-- one of them is denied, by one rule
one_denial_at :
    (s t u : State) (events before after front behind : List Event) (d e : Event) (rule other : ℕ)
    → events ≡ before ++ d ∷ after → Steps s before t → denial t d ≡ Some rule
    → events ≡ front ++ e ∷ behind → Steps s front u → denial u e ≡ Some other → (length before ≡ length front) × (rule ≡ other)
one_denial_at _ _ _ events _ after _ behind d e rule other is (stays s) denied it (stays r) refused =
    let same : d ≡ e = head_is d e after behind (sym is ∙ it) in (refl, cc (same, denied, refused))
one_denial_at _ _ _ events _ after _ behind d e rule other is (stays s) denied it (onward r p u c more first rest) refused =
    let same : c ≡ d = head_is c d (more ++ e ∷ behind) after (sym it ∙ is) in
    absurd (clash rule (sym first.allowed ∙ ap (denial r) same ∙ denied))
one_denial_at _ _ _ events _ after _ behind d e rule other is (onward s p t c more first rest) denied it (stays r) refused =
    let same : c ≡ e = head_is c e (more ++ d ∷ after) behind (sym is ∙ it) in
    absurd (clash other (sym first.allowed ∙ ap (denial s) same ∙ refused))
one_denial_at _ _ _ events _ after _ behind d e rule other is (onward s p t c more first rest) denied it (onward r q u b others then_ later) refused =
    let both = sym is ∙ it in
    let state : p ≡ q = one_step s p q c b first then_ (head_is c b (more ++ d ∷ after) (others ++ e ∷ behind) both) in
    let w = one_denial_at p t u (more ++ d ∷ after) more after others behind d e rule other refl rest denied
    (tail_is c b (more ++ d ∷ after) (others ++ e ∷ behind) both) (subst (λ x. Steps x others u) (sym state) later) refused in
    (omega (arith, w.0), w.1)

pub one_denial : (s : State) (events : List Event) (m n rule other : ℕ) → IsDenied s events m rule → IsDenied s events n other → (m ≡ n) × (rule ≡ other)
one_denial s events m n rule other a b =
    let w = one_denial_at s a.then_ b.then_ events a.before a.after b.before b.after a.event b.event rule other a.parts a.leads a.denied b.parts b.leads b.denied in
    (omega (arith, a.counted, b.counted, w.0), w.1)

-- they lead on, or one of them is denied
abbrev Leading : State → List Event → Type 0
Leading s events = (t : State) × Steps s events t

abbrev Refused : State → List Event → Type 0
Refused s events = (number : ℕ) × (rule : ℕ) × IsDenied s events number rule

after_one : (s : State) (e : Event) (more : List Event) → denial s e ≡ None → Leading (effect s e) more ⊎ Refused (effect s e) more → Leading s (e ∷ more) ⊎ Refused s (e ∷ more)
after_one s e more allowed h =
    let step : Step s e (effect s e) = record { allowed = allowed; changed = refl } in
    ⊎_elim (λ (w : Leading (effect s e) more). inl (w.0, onward s (effect s e) w.0 e more step w.1))
    (λ (w : Refused (effect s e) more).
    let d = w.2 in
    let denied_later : IsDenied s (e ∷ more) (w.0 + 1) w.1 = record {
      before = e ∷ d.before;
      event = d.event;
      after = d.after;
      then_ = d.then_;
      parts = ap (λ xs. e ∷ xs) d.parts;
      leads = onward s (effect s e) d.then_ e d.before step d.leads;
      denied = d.denied;
      counted = omega (arith, d.counted);
    } in
    inr (w.0 + 1, w.1, denied_later))
    h

by_denial : (s : State) (e : Event) (more : List Event) (o : Option ℕ) → denial s e ≡ o → Leading (effect s e) more ⊎ Refused (effect s e) more → Leading s (e ∷ more) ⊎ Refused s (e ∷ more)
by_denial s e more None is h = after_one s e more is h
by_denial s e more (Some rule) is h = inr (1, rule, record { before = []; event = e; after = more; then_ = s; parts = refl; leads = stays s; denied = is; counted = refl })

pub always_one : (s : State) (events : List Event) → Leading s events ⊎ Refused s events
always_one s [] = inl (s, stays s)
always_one s (e ∷ more) = by_denial s e more (denial s e) refl (always_one (effect s e) more)

-- ---- events of a list

pub steps_at :
    (s t u : State) (events : List Event) (i : ℕ) (d : Event) → i < length events → Steps s (take i events) t → Step t (get_or events i d) u
    → Steps s (take (i + 1) events) u
steps_at s t u events i d low leads step =
    subst (λ es. Steps s es u) (sym (take_more events i d low)) (steps_more s t u (take i events) (get_or events i d) leads step)

pub steps_all : (s t : State) (events : List Event) (n : ℕ) → length events ≤ n → Steps s (take n events) t → Steps s events t
steps_all s t events n all leads = subst (λ es. Steps s es t) (take_all n events all) leads

pub denied_at :
    (s t : State) (events : List Event) (i : ℕ) (d : Event) (rule : ℕ) → i < length events → Steps s (take i events) t
    → denial t (get_or events i d) ≡ Some rule → IsDenied s events (i + 1) rule
denied_at s t events i d rule low leads denied = record {
  before = take i events;
  event = get_or events i d;
  after = drop (suc i) events;
  then_ = t;
  parts = sym (take-append-drop i events) ∙ ap (λ rest. take i events ++ rest) (drop-cons events i d low);
  leads = leads;
  denied = denied;
  counted = omega (arith, length-take-le i events (omega (arith, low)));
}
