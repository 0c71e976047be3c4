-- How the course of a command ends, and what is written then.
use Rattle.std.proofs.Common.{◌≡◌, ◌∙◌, ◌⊎◌, inl, inr, ℕ, Bool, true, false, List, [], ◌∷◌, Option, Some, None, refl, sym, ap, subst}
use Rattle.cfg_io.specs.Shelf.{Files}
use Rattle.cfg_io.specs.Sink.{with_bytes}
use Rattle.command_answers.specs.Answers.{Refusal, usage, description, script, read_fault, no_memory, refusal_status}
use Rattle.command_answers.specs.declared.status.Status.{Status}
use Rattle.command_answers.specs.declared.status.Status.TheVariants as status
use Rattle.command_words.specs.declared.words.Command.{Command}
use Rattle.command_spec.specs.Commands.{Shown, course_of, own_files}
use Rattle.command_spec.specs.Courses.{Course, End, came, refusal}
use Rattle.command_spec.specs.Endings.{Comes, FailsLast, came_so, refused_so, short, last_failed, last_short}
use Rattle.command_spec.specs.Outcomes.{Ends, IsRunStatus}
use Rattle.command_spec.specs.Runs.{Answered, Does, FollowsOwn, Run, Written, whole, stopped, status_of, text_of}
use Rattle.command_spec.specs.Sorts.{of_description, of_events, of_report, of_script}
use Rattle.command_spec.proofs.CourseLaws.{fails_last}

-- ---- which fetches fail

-- a fetch that fails is the last
pub does_last :
    (own files : Option Files) (course : Course Shown) (failing : List (List ℕ)) (end : End Shown) → FollowsOwn own files course failing end
    → FailsLast (Comes files course) failing end
does_last None files course failing end on = fails_last files course failing end on
does_last (Some own) files course failing end (none, on) =
    subst (λ names. FailsLast (Comes files course) names end) (sym none) (unnamed end (fails_last (Some own) course [] end on))
  where
    unnamed : (e : End Shown) → FailsLast (Comes (Some own) course) [] e → FailsLast (Comes files course) [] e
    unnamed _ (came_so x) = came_so x
    unnamed _ (refused_so sort file words) = refused_so sort file words
    unnamed _ short = short

-- what an end says of them; no course ends as words without a form do
abbrev pub Fails : List (List ℕ) → End Shown → Type 0
Fails failing (came s) = failing ≡ []
Fails failing (refusal usage) = ⊥
Fails failing (refusal (description file words)) = failing ≡ []
Fails failing (refusal (script file words)) = failing ≡ []
Fails failing (refusal (read_fault file)) = failing ≡ file ∷ []
Fails failing (refusal no_memory) = Unit {0}

pub fails : (P : List ℕ → Type 0) (failing : List (List ℕ)) (end : End Shown) → FailsLast P failing end → Fails failing end
fails P _ _ (came_so s) = refl
fails P _ _ (refused_so of_script file words) = refl
fails P _ _ (refused_so of_events file words) = refl
fails P _ _ (refused_so of_report file words) = refl
fails P _ _ (refused_so of_description file words) = refl
fails P _ _ short = tt
fails P _ _ (last_failed file is) = refl
fails P _ _ (last_short file is) = tt

pub does_fail : (files : Option Files) (command : Command) (failing : List (List ℕ)) (end : End Shown) → Does files command failing end → Fails failing end
does_fail files command failing end does =
    fails (Comes files (course_of command)) failing end (does_last (own_files command) files (course_of command) failing end does)

-- ---- statuses

-- a status of what is shown
abbrev pub is_own : Status → Bool
is_own status.Ok = true
is_own status.Pending = true
is_own status.Unfinished = true
is_own status.Denied = true
is_own status.Unlawful = true
is_own _ = false

pub run_own : (own : Status) → IsRunStatus own → is_own own ≡ true
run_own status.Ok is = refl
run_own status.Pending is = refl
run_own status.Unfinished is = refl
run_own status.Denied is = refl
run_own status.Unlawful is = refl
run_own status.Usage is = is
run_own status.Description is = is
run_own status.Script is = is
run_own status.ReadFault is = is
run_own status.WriteFault is = is
run_own status.NoMemory is = is

-- one of two
pub either_own : (own a b : Status) → is_own a ≡ true → is_own b ≡ true → (own ≡ a) ⊎ (own ≡ b) → is_own own ≡ true
either_own own a b one other (inl is) = ap is_own is ∙ one
either_own own a b one other (inr is) = ap is_own is ∙ other

-- a refusal has none of these
pub refused_is_none : (why : Refusal) → is_own (refusal_status why) ≡ false
refused_is_none usage = refl
refused_is_none (description file words) = refl
refused_is_none (script file words) = refl
refused_is_none (read_fault file) = refl
refused_is_none no_memory = refl

pub no_own : (own due : Status) → own ≡ due → is_own own ≡ true → is_own due ≡ false → ⊥
no_own own due is shows lacks = cc (sym (ap is_own is) ∙ shows, lacks)

-- ---- what was written

-- the status of a run by that of its end
pub ends_as : (r : Run) (own due : Status) (text : List ℕ) → Written own text r → (own ≡ due) ⊎ (own ≡ status.NoMemory) → Ends r.status due
ends_as r own due text (whole took same ends) (inl is) = inl (ends ∙ is)
ends_as r own due text (whole took same ends) (inr is) = inr (inl (ends ∙ is))
ends_as r own due text (stopped n less took rose ends) is = inr (inr ends)

-- what a command has shown
pub record Given (command : Command) (r : Run) : Type 0 where
  pub shown : Shown
  pub does : Does r.files command [] (came shown)
  pub is : r.status ≡ shown.own
  pub wrote : r.taken' ≡ with_bytes r.taken shown.text

pub given : (command : Command) (r : Run) → Answered command r → is_own r.status ≡ true → Given command r
given command r a own = by a.failing a.end a.by a.written
  where
    by : (failing : List (List ℕ)) (end : End Shown) → Does r.files command failing end → Written (status_of end) (text_of end) r → Given command r
    by failing (came s) does (whole took same is) = record {
      shown = s;
      does = subst (λ names. Does r.files command names (came s)) (does_fail r.files command failing (came s) does) does;
      is = is;
      wrote = took;
    }
    by failing (refusal why) does (whole took same is) = absurd (no_own r.status (refusal_status why) is own (refused_is_none why))
    by failing end does (stopped n less took rose is) = absurd (no_own r.status status.WriteFault is own refl)
