-- One input has one answer, and only `go` commits.
use Rattle.std.proofs.Common.{◌≡◌, ◌∙◌, ℕ, ◌+◌, ◌-◌, Bool, true, false, cond, List, [], ◌∷◌, ◌++◌, append_assoc, map, Option, Some, None, fold, refl, sym, ap, subst, inl, inr, ⊎_elim}
use Rattle.std.specs.List.{list_all}
use Rattle.std.specs.Prelude.{◌⊎◌, nat_le}
use Rattle.std.proofs.lemmas.Bool.{both_ways, cases_Bool}
use Rattle.std.proofs.lemmas.List.{map-append}
use Rattle.std.proofs.lemmas.List.Sums.{fold-append, fold_push}
use Rattle.quiesce_core.specs.declared.event.Event.{Event}
use Rattle.quiesce_laws.specs.Drained.{is_drained}
use Rattle.change_apply.specs.Applied.{Place, applied, ending_of, first_place, heard, next_place, place_of}
use Rattle.change_apply.specs.Courses.{scene_after}
use Rattle.change_apply.specs.Lines.{lines_of, said_by}
use Rattle.change_apply.specs.Sessions.{Change, Scene, Turned, asked, change_in, commits, denied, events_told, first_scene, gets_ready, gives_up, goes_on, goes_on_in, happened, hears, is_over, is_ready, leaves, may_say, settles, state_of, tells, tells_by, turn, waits}
use Rattle.change_apply.specs.Talks.{Reached, by_end, by_fault, by_lines}
use Rattle.change_apply.specs.declared.request.Request.{Request}
use Rattle.change_apply.specs.declared.said.Answer.TheVariants as answer
use Rattle.change_apply.specs.declared.said.Ending.TheVariants as ending
use Rattle.change_apply.specs.declared.said.Phase.{Phase}
use Rattle.change_apply.specs.declared.said.Phase.TheVariants as phase
use Rattle.change_apply.specs.declared.said.Said.{Said}
use Rattle.change_apply.specs.declared.said.Said.TheVariants as says
use Rattle.change_apply.proofs.EndLemmas.{turn_is}

-- a session that is over hears nothing

over_stays : (c : Change) (at : Place) (xs : List Said) → is_over at.scene.phase ≡ true → fold (next_place c) at xs ≡ at
over_stays c at [] over = refl
over_stays c at (x ∷ xs) over =
    ap (λ p. fold (next_place c) p xs) (ap (λ b. cond b at (place_of (at.number + 1) at.text (turn c at.scene x))) over) ∙ over_stays c at xs over

pub heard_over : (r : Request) (ss more_ : List Said) → is_over (heard r ss).scene.phase ≡ true → heard r (ss ++ more_) ≡ heard r ss
heard_over r ss more_ over = fold-append (next_place (change_in r)) (first_place r) ss more_ ∙ over_stays (change_in r) (heard r ss) more_ over

-- what was heard of the first lines is what is heard of all, where it is over
first_lines : (r : Request) (came : List ℕ) (lines rest : List (List ℕ)) → lines_of came ≡ lines ++ rest → is_over (heard r (map said_by lines)).scene.phase ≡ true
    → heard r (map said_by lines) ≡ applied r came
first_lines r came lines rest is over =
    sym (heard_over r (map said_by lines) (map said_by rest ++ says.Over ∷ []) over)
    ∙ ap (heard r) (sym (append_assoc (map said_by lines) (map said_by rest) (says.Over ∷ [])) ∙ ap (λ l. l ++ says.Over ∷ []) (sym (map-append said_by lines rest) ∙ ap (map said_by) (sym is)))

broken_place : (r : Request) (ss : List Said) → is_over (heard r ss).scene.phase ≡ false → (heard r (ss ++ says.Broken ∷ [])).answer ≡ answer.Unread
broken_place r ss going =
    ap (λ (p : Place). p.answer) (fold_push (next_place (change_in r)) (first_place r) ss says.Broken)
    ∙ ap (λ b. (cond b (heard r ss) (place_of ((heard r ss).number + 1) (heard r ss).text (turn (change_in r) (heard r ss).scene says.Broken))).answer) going
    ∙ ap (λ (t : Turned). t.answer) (turn_is (change_in r) (heard r ss).scene says.Broken going)

broken_over : (r : Request) (ss : List Said) → is_over (heard r ss).scene.phase ≡ true → heard r (ss ++ says.Broken ∷ []) ≡ heard r ss
broken_over r ss over = heard_over r ss (says.Broken ∷ []) over

pub one_place : (r : Request) (came : List ℕ) (at : Place) → Reached r (Some came) at → is_over at.scene.phase ≡ true → (ending_of at.answer ≡ ending.Unread → ⊥) → at ≡ applied r came
one_place r came _ (by_lines lines first) over read = first_lines r came lines first.0 first.1 over
one_place r came _ (by_end lines all_) over read = ap (λ l. heard r (map said_by l ++ says.Over ∷ [])) (sym all_)
one_place r came _ (by_fault lines first) over read = ⊎_elim
    (λ (before : is_over (heard r (map said_by lines)).scene.phase ≡ true). broken_over r (map said_by lines) before ∙ first_lines r came lines first.0 first.1 before)
    (λ (going : is_over (heard r (map said_by lines)).scene.phase ≡ false). absurd (read (ap ending_of (broken_place r (map said_by lines) going))))
    (cases_Bool (is_over (heard r (map said_by lines)).scene.phase))

-- what commits

pub scene_after_one : (c : Change) (xs : List Said) (x : Said) → scene_after c (xs ++ x ∷ []) ≡ (turn c (scene_after c xs) x).next
scene_after_one c xs x = fold_push (λ s y. (turn c s y).next) (goes_on c (first_scene c)).next xs x

abbrev pub is_made : Phase → Bool
is_made phase.Committed = true
is_made _ = false

pub unmade : (p : Phase) → is_over p ≡ false → is_made p ≡ false
unmade phase.Committed going = absurd (both_ways true going refl)
unmade phase.Left going = absurd (both_ways true going refl)
unmade phase.Waiting going = refl
unmade phase.Ready going = refl

either_unmade : (b : Bool) (t u : Turned) → is_made t.next.phase ≡ false → is_made u.next.phase ≡ false → is_made (cond b t u).next.phase ≡ false
either_unmade true t u h k = h
either_unmade false t u h k = k

settles_unmade : (c : Change) (s : Scene) → is_over s.phase ≡ false → is_made (settles c s).next.phase ≡ false
settles_unmade c s going =
    either_unmade (list_all (is_drained (state_of s)) (asked c)) (gets_ready c s) (cond (nat_le s.left 0) (gives_up c s) (waits s)) refl
    (either_unmade (nat_le s.left 0) (gives_up c s) (waits s) refl (unmade s.phase going))

pub goes_unmade : (p : Phase) (c : Change) (s : Scene) → is_over s.phase ≡ false → is_made (goes_on_in p c s).next.phase ≡ false
goes_unmade phase.Waiting c s going = settles_unmade c s going
goes_unmade phase.Ready c s going = unmade s.phase going
goes_unmade phase.Committed c s going = unmade s.phase going
goes_unmade phase.Left c s going = unmade s.phase going

tells_unmade_by : (o : Option ℕ) (c : Change) (s : Scene) → is_over s.phase ≡ false → is_made (tells_by o c s).next.phase ≡ false
tells_unmade_by None c s going = goes_unmade s.phase c s going
tells_unmade_by (Some rule) c s going = refl

tells_unmade : (c : Change) (s : Scene) (es : List Event) → is_over s.phase ≡ false → is_made (tells c s es).next.phase ≡ false
tells_unmade c s es going = tells_unmade_by (denied (state_of s) es) c (record s { events = s.events ++ happened (state_of s) es }) going

-- no turn commits but by `go` where it is ready
abbrev Commits : Scene → Said → Phase → Type 0
Commits s x p = (is_made p ≡ false) ⊎ ((x ≡ says.Go) × (is_ready s.phase ≡ true))

hears_commits : (c : Change) (s : Scene) (x : Said) → is_over s.phase ≡ false → may_say c s x ≡ true → Commits s x (hears c s x).next.phase
hears_commits c s says.Round going may = inl (goes_unmade s.phase c (record s { left = s.left - 1 }) going)
hears_commits c s says.Stop going may = inl refl
hears_commits c s says.Over going may = inl refl
hears_commits c s says.Broken going may = inl refl
hears_commits c s says.Go going may = inr (refl, may)
hears_commits c s says.Silent going may = inl (unmade s.phase going)
hears_commits c s says.Senseless going may = absurd (both_ways false refl may)
hears_commits c s (says.Busy p) going may = inl (tells_unmade c s (events_told (state_of s) (says.Busy p)) going)
hears_commits c s (says.Closed p) going may = inl (tells_unmade c s (events_told (state_of s) (says.Closed p)) going)
hears_commits c s (says.Idle p) going may = inl (tells_unmade c s (events_told (state_of s) (says.Idle p)) going)

said_commits : (c : Change) (s : Scene) (x : Said) (b : Bool) → is_over s.phase ≡ false → may_say c s x ≡ b → Commits s x (cond b (hears c s x) (leaves c s answer.Bad [])).next.phase
said_commits c s x true going is = hears_commits c s x going is
said_commits c s x false going is = inl refl

ready_only : (p : Phase) → is_ready p ≡ true → p ≡ phase.Ready
ready_only phase.Ready h = refl
ready_only phase.Waiting h = absurd (both_ways false refl h)
ready_only phase.Committed h = absurd (both_ways false refl h)
ready_only phase.Left h = absurd (both_ways false refl h)

pub go_only : (c : Change) (s : Scene) (x : Said) → is_over s.phase ≡ false → (turn c s x).next.phase ≡ phase.Committed → (x ≡ says.Go) × (s.phase ≡ phase.Ready)
go_only c s x going made = ⊎_elim
    (λ (no_ : is_made (turn c s x).next.phase ≡ false). absurd (both_ways (is_made (turn c s x).next.phase) no_ (ap is_made made)))
    (λ (yes_ : (x ≡ says.Go) × (is_ready s.phase ≡ true)). (yes_.0, ready_only s.phase yes_.1))
    (subst (λ (t : Turned). Commits s x t.next.phase) (sym (turn_is c s x going)) (said_commits c s x (may_say c s x) going refl))

pub go_always : (c : Change) (s : Scene) → s.phase ≡ phase.Ready → (turn c s says.Go).next.phase ≡ phase.Committed
go_always c s is =
    ap (λ (t : Turned). t.next.phase) (turn_is c s says.Go (ap is_over is) ∙ ap (λ b. cond b (commits c s) (leaves c s answer.Bad [])) (ap is_ready is))

pub over_always : (c : Change) (s : Scene) (xs : List Said) → is_over s.phase ≡ true → fold (λ t x. (turn c t x).next) s xs ≡ s
over_always c s [] over = refl
over_always c s (x ∷ xs) over =
    ap (λ t. fold (λ u y. (turn c u y).next) t xs) (ap (λ b. (cond b (waits s) (cond (may_say c s x) (hears c s x) (leaves c s answer.Bad []))).next) over) ∙ over_always c s xs over
