-- How many rounds are left.
use Rattle.std.proofs.Common.{◌≡◌, ◌∙◌, ℕ, ◌+◌, ◌-◌, Bool, true, false, cond, List, [], ◌∷◌, ◌++◌, Option, Some, None, fold, refl, sym, ap, ⊎_elim, arith}
use Rattle.std.specs.List.{list_all}
use Rattle.std.specs.Prelude.{count_by, nat_le}
use Rattle.std.proofs.lemmas.Bool.{both_ways, cases_Bool}
use Rattle.std.proofs.lemmas.List.Sums.{sum_by-cons}
use Rattle.quiesce_core.specs.declared.event.Event.{Event}
use Rattle.quiesce_laws.specs.Drained.{is_drained}
use Rattle.change_apply.specs.Courses.{is_round, scene_after}
use Rattle.change_apply.specs.Sessions.{Change, Scene, Turned, asked, denied, events_told, first_scene, gets_ready, gives_up, goes_on, goes_on_in, happened, hears, is_over, leaves, may_say, state_of, tells, tells_by, turn, waits}
use Rattle.change_apply.specs.declared.said.Answer.TheVariants as answer
use Rattle.change_apply.specs.declared.said.Phase.{Phase}
use Rattle.change_apply.specs.declared.said.Phase.TheVariants as phase
use Rattle.change_apply.specs.declared.said.Said.{Said}
use Rattle.change_apply.specs.declared.said.Said.TheVariants as says
use Rattle.change_apply.proofs.EndLemmas.{turn_is}
use Rattle.change_apply.proofs.LawLemmas.{over_always}

either_left : (b : Bool) (t u : Turned) (n : ℕ) → t.next.left ≡ n → u.next.left ≡ n → (cond b t u).next.left ≡ n
either_left true t u n h k = h
either_left false t u n h k = k

goes_left_in : (p : Phase) (c : Change) (s : Scene) → (goes_on_in p c s).next.left ≡ s.left
goes_left_in phase.Waiting c s =
    either_left (list_all (is_drained (state_of s)) (asked c)) (gets_ready c s) (cond (nat_le s.left 0) (gives_up c s) (waits s)) s.left refl
    (either_left (nat_le s.left 0) (gives_up c s) (waits s) s.left refl refl)
goes_left_in phase.Ready c s = refl
goes_left_in phase.Committed c s = refl
goes_left_in phase.Left c s = refl

tells_left_by : (o : Option ℕ) (c : Change) (s : Scene) → (tells_by o c s).next.left ≡ s.left
tells_left_by None c s = goes_left_in s.phase c s
tells_left_by (Some rule) c s = refl

tells_left : (c : Change) (s : Scene) (es : List Event) → (tells c s es).next.left ≡ s.left
tells_left c s es = tells_left_by (denied (state_of s) es) c (record s { events = s.events ++ happened (state_of s) es })

-- how many rounds a line is
abbrev rounds : Said → ℕ
rounds x = cond (is_round x) 1 0

none_less : (n : ℕ) → n ≡ n - 0
none_less n = omega arith

hears_left : (c : Change) (s : Scene) (x : Said) → (hears c s x).next.left ≡ s.left - rounds x
hears_left c s says.Round = goes_left_in s.phase c (record s { left = s.left - 1 })
hears_left c s says.Stop = none_less s.left
hears_left c s says.Over = none_less s.left
hears_left c s says.Broken = none_less s.left
hears_left c s says.Go = none_less s.left
hears_left c s says.Silent = none_less s.left
hears_left c s says.Senseless = tells_left c s (events_told (state_of s) says.Senseless) ∙ none_less s.left
hears_left c s (says.Busy p) = tells_left c s (events_told (state_of s) (says.Busy p)) ∙ none_less s.left
hears_left c s (says.Closed p) = tells_left c s (events_told (state_of s) (says.Closed p)) ∙ none_less s.left
hears_left c s (says.Idle p) = tells_left c s (events_told (state_of s) (says.Idle p)) ∙ none_less s.left

-- a turn behind which it isn't over
said_left : (c : Change) (s : Scene) (x : Said) (b : Bool) → is_over (cond b (hears c s x) (leaves c s answer.Bad [])).next.phase ≡ false
    → (cond b (hears c s x) (leaves c s answer.Bad [])).next.left ≡ s.left - rounds x
said_left c s x true going = hears_left c s x
said_left c s x false going = absurd (both_ways true going refl)

turn_left : (c : Change) (s : Scene) (x : Said) → is_over s.phase ≡ false → is_over (turn c s x).next.phase ≡ false → (turn c s x).next.left ≡ s.left - rounds x
turn_left c s x before going =
    let is = turn_is c s x before in
    ap (λ (t : Turned). t.next.left) is ∙ said_left c s x (may_say c s x) (sym (ap (λ (t : Turned). is_over t.next.phase) is) ∙ going)

-- a session that isn't over wasn't before
going_before : (c : Change) (s : Scene) (xs : List Said) → is_over (fold (λ t x. (turn c t x).next) s xs).phase ≡ false → is_over s.phase ≡ false
going_before c s xs going = ⊎_elim
    (λ (over : is_over s.phase ≡ true). absurd (both_ways (is_over s.phase) (sym (ap (λ (t : Scene). is_over t.phase) (over_always c s xs over)) ∙ going) over))
    (λ (no_ : is_over s.phase ≡ false). no_)
    (cases_Bool (is_over s.phase))

all_left : (c : Change) (s : Scene) (xs : List Said) → is_over (fold (λ t x. (turn c t x).next) s xs).phase ≡ false
    → (fold (λ t x. (turn c t x).next) s xs).left ≡ s.left - count_by is_round xs
all_left c s [] going = none_less s.left
all_left c s (x ∷ xs) going =
    let next = (turn c s x).next in
    let rest = all_left c next xs going in
    let one = turn_left c s x (going_before c s (x ∷ xs) going) (going_before c next xs going) in
    let sum : count_by is_round (x ∷ xs) ≡ cond (is_round x) 1 0 + count_by is_round xs = sum_by-cons (λ y. cond (is_round y) 1 0) x xs in
    omega (arith, rest, one, sum)

pub left_after : (c : Change) (xs : List Said) → is_over (scene_after c xs).phase ≡ false → (scene_after c xs).left ≡ c.within - count_by is_round xs
left_after c xs going =
    all_left c (goes_on c (first_scene c)).next xs going ∙ ap (λ n. n - count_by is_round xs) (goes_left_in phase.Waiting c (first_scene c))
