-- What is promised, from the laws.
use Rattle.std.proofs.Common.{◌≡◌, ◌∙◌, ℕ, ◌+◌, Bool, true, false, cond, List, [], ◌∷◌, ◌++◌, append_assoc, map, Some, None, fold, refl, sym, ap, subst, ⊎_elim}
use Rattle.std.proofs.lemmas.Bool.{both_ways, cases_Bool}
use Rattle.quiesce_core.specs.declared.event.Event.{Event}
use Rattle.quiesce_core.specs.declared.event.Event.TheVariants.{Link, Remove, Unlink}
use Rattle.quiesce_core.specs.Runs.{state_after}
use Rattle.quiesce_core.specs.Settled.{Quiescent}
use Rattle.quiesce_core.specs.Start.{started}
use Rattle.quiesce_core.specs.State.{State, owner}
use Rattle.quiesce_laws.specs.Starts.{start_of}
use Rattle.crowd_laws.specs.Acts.{Act, MayGoOn, events_told, world_after}
use Rattle.crowd_laws.specs.Beginning.{IsStart}
use Rattle.crowd_laws.specs.Crowds.{World}
use Rattle.crowd_laws.specs.Quiet.{IsQuiescent}
use Rattle.change_apply.specs.Applied.{Place, ending_of, first_place, heard, next_place, place_of}
use Rattle.change_apply.specs.Courses.{Course, EndsIn, IsLeft, IsMade, scene_after}
use Rattle.change_apply.specs.Lines.{said_by}
use Rattle.change_apply.specs.Promises.{FindsQuiet, SaysGo, StandsBehind, StandsNew, StandsOld, touched}
use Rattle.change_apply.specs.Sessions.{Change, Scene, change_in, first_scene, goes_on, is_over, turn}
use Rattle.change_apply.specs.Talks.{Bytes, Reached, by_end, by_fault, by_lines}
use Rattle.change_apply.specs.declared.request.Request.{Request}
use Rattle.change_apply.specs.declared.said.Answer.{Answer}
use Rattle.change_apply.specs.declared.said.Answer.TheVariants as answer
use Rattle.change_apply.specs.declared.said.Phase.{Phase}
use Rattle.change_apply.specs.declared.said.Phase.TheVariants as phase
use Rattle.change_apply.specs.declared.said.Said.{Said}
use Rattle.change_apply.specs.declared.said.Said.TheVariants as says
use Rattle.change_apply.proofs.EndLemmas.{end_by, end_in, goes_fits, turn_fits}
use Rattle.change_apply.proofs.LawLemmas.{go_always, go_only, goes_unmade, heard_over, is_made, over_always, scene_after_one}
use Rattle.change_apply.proofs.WrittenLemmas.{scene_is}

-- a place is one where something was heard
pub reached_by : (r : Request) (came : Bytes) (at : Place) → Reached r came at → (said : List Said) × (at ≡ heard r said)
reached_by r came _ (by_lines lines first) = (map said_by lines, refl)
reached_by r came _ (by_end lines all_) = (map said_by lines ++ says.Over ∷ [], refl)
reached_by r came _ (by_fault lines first) = (map said_by lines ++ says.Broken ∷ [], refl)

-- the last answer tells how it ended

next_fits_by : (b : Bool) (at next : Place) → (b ≡ true → end_in at.scene.phase ≡ end_by at.answer) → (b ≡ false → end_in next.scene.phase ≡ end_by next.answer)
    → end_in (cond b at next).scene.phase ≡ end_by (cond b at next).answer
next_fits_by true at next h k = h refl
next_fits_by false at next h k = k refl

next_fits : (c : Change) (at : Place) (x : Said) → end_in at.scene.phase ≡ end_by at.answer → end_in (next_place c at x).scene.phase ≡ end_by (next_place c at x).answer
next_fits c at x fits =
    next_fits_by (is_over at.scene.phase) at (place_of (at.number + 1) at.text (turn c at.scene x)) (λ over. fits) (λ going. turn_fits c at.scene x going)

all_fit : (c : Change) (at : Place) (xs : List Said) → end_in at.scene.phase ≡ end_by at.answer → end_in (fold (next_place c) at xs).scene.phase ≡ end_by (fold (next_place c) at xs).answer
all_fit c at [] fits = fits
all_fit c at (x ∷ xs) fits = all_fit c (next_place c at x) xs (next_fits c at x fits)

pub heard_fits : (r : Request) (said : List Said) → end_in (heard r said).scene.phase ≡ end_by (heard r said).answer
heard_fits r said = all_fit (change_in r) (first_place r) said (goes_fits (change_in r) (first_scene (change_in r)) refl)

committed_by : (a : Answer) → end_by a ≡ Some phase.Committed → a ≡ answer.Committed
committed_by answer.Committed h = refl
committed_by answer.Waits h = cc
committed_by answer.Ready h = cc
committed_by answer.GivenUp h = cc
committed_by (answer.Denied rule) h = cc
committed_by answer.Bad h = cc
committed_by answer.Unread h = cc

committed_in : (p : Phase) → end_in p ≡ Some phase.Committed → p ≡ phase.Committed
committed_in phase.Committed h = refl
committed_in phase.Left h = cc
committed_in phase.Waiting h = cc
committed_in phase.Ready h = cc

left_in : (p : Phase) → end_in p ≡ Some phase.Left → p ≡ phase.Left
left_in phase.Left h = refl
left_in phase.Committed h = cc
left_in phase.Waiting h = cc
left_in phase.Ready h = cc

going_in : (p : Phase) → end_in p ≡ None → is_over p ≡ false
going_in phase.Waiting h = refl
going_in phase.Ready h = refl
going_in phase.Committed h = cc
going_in phase.Left h = cc

-- what stands behind an end

stands_new : (c : Change) (s : Scene) → Course c s → s.phase ≡ phase.Committed → StandsNew c s.events
stands_new c s k is =
    let before = start_of c.old ++ k.told in
    let made : IsMade c before k.ended = subst (λ p. EndsIn p c s.left before k.ended) is k.ends in
    subst (StandsNew c) (sym k.are) (record { graph = made.graph; gates = made.gates })

stands_old : (c : Change) (s : Scene) → Course c s → s.phase ≡ phase.Left → StandsOld c s.events
stands_old c s k is =
    let before = start_of c.old ++ k.told in
    let left : IsLeft c before k.ended = subst (λ p. EndsIn p c s.left before k.ended) is k.ends in
    subst (StandsOld c) (sym k.are) (record { graph = left.graph; gates = left.gates })

pub stands_behind : (c : Change) (s : Scene) (a : Answer) → Course c s → end_in s.phase ≡ end_by a → is_over s.phase ≡ true → StandsBehind (ending_of a) c s.events
stands_behind c s answer.Committed k fits over = stands_new c s k (committed_in s.phase fits)
stands_behind c s answer.GivenUp k fits over = stands_old c s k (left_in s.phase fits)
stands_behind c s (answer.Denied rule) k fits over = stands_old c s k (left_in s.phase fits)
stands_behind c s answer.Bad k fits over = stands_old c s k (left_in s.phase fits)
stands_behind c s answer.Unread k fits over = stands_old c s k (left_in s.phase fits)
stands_behind c s answer.Waits k fits over = absurd (both_ways (is_over s.phase) (going_in s.phase fits) over)
stands_behind c s answer.Ready k fits over = absurd (both_ways (is_over s.phase) (going_in s.phase fits) over)

-- committed by `go`

abbrev step : Change → Scene → Said → Scene
step c s x = (turn c s x).next

record GoesAt (c : Change) (s : Scene) (xs : List Said) : Type 0 where
  before : List Said
  after : List Said
  are : xs ≡ before ++ says.Go ∷ after
  ready : (fold (step c) s before).phase ≡ phase.Ready

went : (c : Change) (s : Scene) (xs : List Said) → is_over s.phase ≡ false → (fold (step c) s xs).phase ≡ phase.Committed → GoesAt c s xs
went c s [] going made = absurd (both_ways (is_over s.phase) going (ap is_over made))
went c s (x ∷ xs) going made = ⊎_elim
    (λ (over : is_over (step c s x).phase ≡ true).
    let go = go_only c s x going (ap (λ (t : Scene). t.phase) (sym (over_always c (step c s x) xs over)) ∙ made) in
    record { before = []; after = xs; are = ap (λ y. y ∷ xs) go.0; ready = go.1 })
    (λ (on : is_over (step c s x).phase ≡ false).
    let rest = went c (step c s x) xs on made in
    record { before = x ∷ rest.before; after = rest.after; are = ap (λ ys. x ∷ ys) rest.are; ready = rest.ready })
    (cases_Bool (is_over (step c s x).phase))

first_goes : (c : Change) (xs : List Said) → (scene_after c xs).phase ≡ phase.Committed → GoesAt c (goes_on c (first_scene c)).next xs
first_goes c xs made =
    let s = (goes_on c (first_scene c)).next in
    ⊎_elim
    (λ (over : is_over s.phase ≡ true).
    absurd (both_ways (is_made s.phase) (goes_unmade phase.Waiting c (first_scene c) refl) (ap is_made (ap (λ (t : Scene). t.phase) (sym (over_always c s xs over)) ∙ made))))
    (λ (going : is_over s.phase ≡ false). went c s xs going made)
    (cases_Bool (is_over s.phase))

pub says_go : (r : Request) (said : List Said) → (heard r said).answer ≡ answer.Committed → SaysGo r said
says_go r said is =
    let c = change_in r in
    let made = committed_in (heard r said).scene.phase (heard_fits r said ∙ ap end_by is) in
    let at = first_goes c said (ap (λ (s : Scene). s.phase) (sym (scene_is r said)) ∙ made) in
    record { before = at.before; after = at.after; are = at.are; ready = ap (λ (s : Scene). s.phase) (scene_is r at.before) ∙ at.ready }

pub go_commits : (r : Request) (said : List Said) → SaysGo r said → (heard r said).answer ≡ answer.Committed
go_commits r said h =
    let c = change_in r in
    let there = h.before ++ says.Go ∷ [] in
    let phase_there : (heard r there).scene.phase ≡ phase.Committed =
    ap (λ (s : Scene). s.phase) (scene_is r there ∙ scene_after_one c h.before says.Go)
    ∙ go_always c (scene_after c h.before) (ap (λ (s : Scene). s.phase) (sym (scene_is r h.before)) ∙ h.ready) in
    let same : heard r said ≡ heard r there =
    ap (heard r) (h.are ∙ sym (append_assoc h.before (says.Go ∷ []) h.after)) ∙ heard_over r there h.after (ap is_over phase_there) in
    ap (λ (p : Place). p.answer) same ∙ committed_by (heard r there).answer (sym (heard_fits r there) ∙ ap end_in phase_there)

-- nodes that are changed are quiescent

-- what the laws say of the run of a session
pub record Quiets (c : Change) (events : List Event) : Type 0 where
  pub linked : (before after : List Event) (p n x : ℕ) → events ≡ before ++ Link p n x ∷ after → Quiescent before (owner (state_after before).config p)
  pub unlinked : (before after : List Event) (p : ℕ) → events ≡ before ++ Unlink p ∷ after → Quiescent before (owner (state_after before).config p)
  pub removed : (before after : List Event) (n : ℕ) → events ≡ before ++ Remove n ∷ after → Quiescent before n
  pub crowd_linked :
      (w : World) (acts : List Act) (after : List Event) (p n x : ℕ) → IsStart w → w.machine ≡ started c.old → MayGoOn w acts
      → events ≡ (start_of c.old ++ events_told w acts) ++ Link p n x ∷ after → IsQuiescent (world_after w acts) (owner (world_after w acts).machine.config p)
  pub crowd_unlinked :
      (w : World) (acts : List Act) (after : List Event) (p : ℕ) → IsStart w → w.machine ≡ started c.old → MayGoOn w acts
      → events ≡ (start_of c.old ++ events_told w acts) ++ Unlink p ∷ after → IsQuiescent (world_after w acts) (owner (world_after w acts).machine.config p)
  pub crowd_removed :
      (w : World) (acts : List Act) (after : List Event) (n : ℕ) → IsStart w → w.machine ≡ started c.old → MayGoOn w acts
      → events ≡ (start_of c.old ++ events_told w acts) ++ Remove n ∷ after → IsQuiescent (world_after w acts) n
  pub there : (w : World) (acts : List Act) → IsStart w → w.machine ≡ started c.old → MayGoOn w acts → (world_after w acts).machine ≡ state_after (start_of c.old ++ events_told w acts)

module _ (c : Change) (events before after : List Event) (h : Quiets c events) (n : ℕ) where
  quiet_in_run : (e : Event) → touched (state_after before).config e ≡ Some n → events ≡ before ++ e ∷ after → Quiescent before n
  quiet_in_run (Link p m x) is are = let same : owner (state_after before).config p ≡ n = cc in subst (Quiescent before) same (h.linked before after p m x are)
  quiet_in_run (Unlink p) is are = let same : owner (state_after before).config p ≡ n = cc in subst (Quiescent before) same (h.unlinked before after p are)
  quiet_in_run (Remove m) is are = let same : m ≡ n = cc in subst (Quiescent before) same (h.removed before after m are)
  quiet_in_run _ is are = cc

  module _ (w : World) (acts : List Act) (start : IsStart w) (first : w.machine ≡ started c.old) (may : MayGoOn w acts) (told : before ≡ start_of c.old ++ events_told w acts) where
    there_is : (world_after w acts).machine ≡ state_after before
    there_is = h.there w acts start first may ∙ ap state_after (sym told)

    owned : (p : ℕ) → owner (state_after before).config p ≡ n → owner (world_after w acts).machine.config p ≡ n
    owned p is = ap (λ (s : State). owner s.config p) there_is ∙ is

    on : (e : Event) → events ≡ before ++ e ∷ after → events ≡ (start_of c.old ++ events_told w acts) ++ e ∷ after
    on e are = are ∙ ap (λ xs. xs ++ e ∷ after) told

    quiet_in_crowd : (e : Event) → touched (state_after before).config e ≡ Some n → events ≡ before ++ e ∷ after → IsQuiescent (world_after w acts) n
    quiet_in_crowd (Link p m x) is are =
        let same : owner (state_after before).config p ≡ n = cc in
        subst (IsQuiescent (world_after w acts)) (owned p same) (h.crowd_linked w acts after p m x start first may (on (Link p m x) are))
    quiet_in_crowd (Unlink p) is are =
        let same : owner (state_after before).config p ≡ n = cc in
        subst (IsQuiescent (world_after w acts)) (owned p same) (h.crowd_unlinked w acts after p start first may (on (Unlink p) are))
    quiet_in_crowd (Remove m) is are =
        let same : m ≡ n = cc in
        subst (IsQuiescent (world_after w acts)) same (h.crowd_removed w acts after m start first may (on (Remove m) are))
    quiet_in_crowd _ is are = cc

pub finds_quiet : (c : Change) (events : List Event) → Quiets c events → (before after : List Event) (e : Event) → events ≡ before ++ e ∷ after → FindsQuiet c.old before e
finds_quiet c events h before after e are = record {
  in_the_run = λ n is. quiet_in_run c events before after h n e is are;
  in_crowds = λ w acts n is start first may told. quiet_in_crowd c events before after h n w acts start first may told e is are;
}
