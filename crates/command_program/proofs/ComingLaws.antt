-- How what the parts of a run answer ends a course, and how two courses join.
use Rattle.std.proofs.Common.{◌≡◌, ◌∙◌, ◌⊎◌, inl, inr, false, ℕ, List, [], ◌++◌, Option, IfOk, Result, Ok, Err, append-nil, refl, sym, ap, subst}
use Rattle.cfg_io.specs.Shelf.{Files}
use Rattle.command_answers.specs.Answers.{Refusal, usage, description, script, read_fault, no_memory, refusal_status}
use Rattle.command_answers.specs.Statuses.{is_of_run}
use Rattle.command_answers.specs.declared.status.Status.{Status}
use Rattle.command_spec.specs.Commands.{Shown, shown}
use Rattle.command_spec.specs.Courses.{Course, ends, says, came, refusal, Follows, here, said, then_by}
use Rattle.command_spec.proofs.CourseLaws.{goes_on, stops, none_failed}
use Rattle.command_program.specs.Coming.{Comes, EndsIn, EndsNoRun, IsOrStop, IsShown, Shows, StopsFor}
use Rattle.command_program.specs.Refusals.{IsLine}
use Rattle.command_program.specs.declared.answer.Answer.{Answer}
use Rattle.command_program.specs.declared.answer.Stop.{Stop}
use Rattle.command_program.specs.declared.answer.Stop.TheVariants as stops

-- a stop refuses as a course does
pub stops_in :
    {T A : Type 0} (Is : T → A → Type 0) (files : Option Files) (c : Course A) (failing : List (List ℕ)) (Why : Refusal → Type 0) (stop : Stop)
    → StopsFor Why stop → ((why : Refusal) → Why why → Follows files c failing (refusal why))
    → (failing ≡ []) ⊎ Follows files c failing (refusal no_memory) → EndsIn Is files c failing (Err stop)
stops_in Is files c failing Why (stops.Refused answer) (why, is, refuses) leads short = (why, refuses, leads why is)
stops_in Is files c failing Why stops.NoMemory is leads short = short

-- for one reason, and so for what it gives
pub stops_so : (Why Also : Refusal → Type 0) (stop : Stop) → ((why : Refusal) → Why why → Also why) → StopsFor Why stop → StopsFor Also stop
stops_so Why Also (stops.Refused answer) gives_ (why, is, refuses) = (why, gives_ why is, refuses)
stops_so Why Also stops.NoMemory gives_ is = tt

-- nothing more is fetched
pub comes_here :
    {T A : Type 0} (Is : T → A → Type 0) (files : Option Files) (c : Course A) (failures failures' : List (List ℕ)) (r : Result T Stop)
    → failures' ≡ failures → EndsIn Is files c [] r → Comes Is files c failures failures' r
comes_here Is files c failures failures' r same ends_ = record { failing = []; noted = same ∙ sym (append-nil failures); ends = ends_ }

module _ {T U A B : Type 0} (Is : T → A → Type 0) (Js : U → B → Type 0) (files : Option Files) (k : A → Course B) (c : Course A) where
  -- the first course stops, and so do both
  pub comes_stop :
      (failures failures' : List (List ℕ)) (stop : Stop) → Comes Is files c failures failures' (Err stop)
      → Comes Js files (then_by c k) failures failures' (Err stop)
  comes_stop failures failures' stop by = record { failing = by.failing; noted = by.noted; ends = of stop by.failing by.ends }
    where
      of : (stop : Stop) (failing : List (List ℕ)) → EndsIn Is files c failing (Err stop) → EndsIn Js files (then_by c k) failing (Err stop)
      of (stops.Refused answer) failing (why, refuses, on) = (why, refuses, stops files k c failing why on)
      of stops.NoMemory failing (inl none) = inl none
      of stops.NoMemory failing (inr on) = inr (stops files k c failing no_memory on)

  ends_on :
      (a : A) (failing : List (List ℕ)) (r : Result U Stop) → Follows files c [] (came a) → EndsIn Js files (k a) failing r
      → EndsIn Js files (then_by c k) failing r
  ends_on a failing (Ok x) first (b, js, on) = (b, js, goes_on files k c a failing (came b) first on)
  ends_on a failing (Err (stops.Refused answer)) first (why, refuses, on) = (why, refuses, goes_on files k c a failing (refusal why) first on)
  ends_on a failing (Err stops.NoMemory) first (inl none) = inl none
  ends_on a failing (Err stops.NoMemory) first (inr on) = inr (goes_on files k c a failing (refusal no_memory) first on)

  -- it comes to something, and the second goes on by the same files
  pub comes_on :
      (also : Option Files) (failures between failures' : List (List ℕ)) (x : T) (r : Result U Stop) → also ≡ files
      → Comes Is files c failures between (Ok x) → ((a : A) → Is x a → Comes Js also (k a) between failures' r)
      → Comes Js files (then_by c k) failures failures' r
  comes_on also failures between failures' x r same first next =
      let a = first.ends.0 in
      let none = none_failed files c first.failing a first.ends.2 in
      let on = subst (λ fs. Comes Js fs (k a) between failures' r) same (next a first.ends.1) in
      record {
        failing = on.failing;
        noted = on.noted ∙ ap (λ ns. ns ++ on.failing) (first.noted ∙ ap (λ ns. failures ++ ns) none ∙ append-nil failures);
        ends = ends_on a on.failing r (subst (λ ns. Follows files c ns (came a)) none first.ends.2) on.ends;
      }

-- what a file says leads on
pub comes_next :
    {A U B : Type 0} (Js : U → B → Type 0) (files : Option Files) (k : A → Course B) (c : Course A) (also : Option Files)
    (failures between failures' : List (List ℕ)) (x : A) (r : Result U Stop) → also ≡ files
    → Comes (λ said value. said ≡ value) files c failures between (Ok x) → Comes Js also (k x) between failures' r
    → Comes Js files (then_by c k) failures failures' r
comes_next Js files k c also failures between failures' x r same first next =
    comes_on (λ said value. said ≡ value) Js files k c also failures between failures' x r same first
    (λ a is. subst (λ b. Comes Js also (k b) between failures' r) is next)

-- what stops stops whatever is wanted of it
pub still_stops :
    {T U A : Type 0} (Is : T → A → Type 0) (Js : U → A → Type 0) (files : Option Files) (c : Course A) (failures failures' : List (List ℕ)) (stop : Stop)
    → Comes Is files c failures failures' (Err stop) → Comes Js files c failures failures' (Err stop)
still_stops Is Js files c failures failures' stop by = record { failing = by.failing; noted = by.noted; ends = of stop by.failing by.ends }
  where
    of : (stop : Stop) (failing : List (List ℕ)) → EndsIn Is files c failing (Err stop) → EndsIn Js files c failing (Err stop)
    of (stops.Refused answer) failing on = on
    of stops.NoMemory failing on = on

-- an answer that is shown so ends a course that says so
pub or_stop_says :
    {E : Type 0} (files : Option Files) (Is : Shown → Type 0) (answer : Result Answer E) (r : Result Answer Stop) → IsOrStop answer r
    → IfOk answer (IsShown Is) → EndsIn Shows files (says Is) [] r
or_stop_says files Is (Ok a) r same (s, is, shows) = subst (EndsIn Shows files (says Is) []) (sym same) (s, shows, said s is)
or_stop_says files Is (Err _) r same shows = subst (EndsIn Shows files (says Is) []) (sym same) (inl refl)

-- a line ends a course that says it, or is it
pub line_says :
    {E : Type 0} (files : Option Files) (own : Status) (line : List ℕ) (answer : Result Answer E) (r : Result Answer Stop) → IsOrStop answer r
    → IfOk answer (IsLine own line) → EndsIn Shows files (says (λ s. s ≡ shown own line)) [] r
line_says files own line (Ok a) r same is =
    subst (EndsIn Shows files (says (λ s. s ≡ shown own line)) []) (sym same) (shown own line, (is.status_is, is.text_is), said (shown own line) refl)
line_says files own line (Err _) r same is = subst (EndsIn Shows files (says (λ s. s ≡ shown own line)) []) (sym same) (inl refl)

pub line_ends :
    {E : Type 0} (files : Option Files) (own : Status) (line : List ℕ) (answer : Result Answer E) (r : Result Answer Stop) → IsOrStop answer r
    → IfOk answer (IsLine own line) → EndsIn Shows files (ends (shown own line)) [] r
line_ends files own line (Ok a) r same is =
    subst (EndsIn Shows files (ends (shown own line)) []) (sym same) (shown own line, (is.status_is, is.text_is), here)
line_ends files own line (Err _) r same is = subst (EndsIn Shows files (ends (shown own line)) []) (sym same) (inl refl)

-- no refusal has a status with which a run ends
refuses_no_run : (why : Refusal) → is_of_run (refusal_status why) ≡ false
refuses_no_run usage = refl
refuses_no_run (description file words) = refl
refuses_no_run (script file words) = refl
refuses_no_run (read_fault file) = refl
refuses_no_run no_memory = refl

pub ends_no_run :
    {T A : Type 0} (Is : T → A → Type 0) (files : Option Files) (c : Course A) (failing : List (List ℕ)) (stop : Stop)
    → EndsIn Is files c failing (Err stop) → EndsNoRun stop
ends_no_run Is files c failing (stops.Refused answer) (why, refuses, on) = subst (λ s. is_of_run s ≡ false) (sym refuses.status_is) (refuses_no_run why)
ends_no_run Is files c failing stops.NoMemory on = tt
