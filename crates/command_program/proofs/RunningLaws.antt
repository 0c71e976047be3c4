-- A run from what its parts answer.
use Rattle.std.proofs.Common.{◌≡◌, ◌∙◌, ◌⊎◌, inl, inr, ℕ, Bool, true, false, List, [], ◌++◌, Option, Some, None, Result, Ok, Err, append-nil, refl, sym, subst}
use Rattle.std.proofs.lemmas.Bool.{false≢true}
use Rattle.cfg_io.specs.Shelf.{Files}
use Rattle.command_answers.specs.Answers as values
use Rattle.command_answers.specs.Answers.{refusal_status, refusal_text}
use Rattle.command_answers.specs.declared.status.Status.{Status}
use Rattle.command_words.specs.declared.words.Command.{Command}
use Rattle.command_words.specs.CommandLine.{Asks}
use Rattle.command_words.proofs.WordsLaws.{one_command}
use Rattle.command_spec.specs.Commands.{Shown, course_of, own_files}
use Rattle.command_spec.specs.Courses.{Course, End, came, refusal}
use Rattle.command_spec.specs.Known.{AsksOf, HasNoForm}
use Rattle.command_spec.specs.Runs.{asked, not_read, DoesWords, FollowsOwn, Run, Runs, Written, status_of, text_of}
use Rattle.command_program.specs.Coming.{ComesOwn, EndsIn, Refuses, Shows, result_status, result_text}
use Rattle.command_program.specs.declared.answer.Answer.{Answer}
use Rattle.command_program.specs.declared.answer.Stop.{Stop}
use Rattle.command_program.specs.declared.answer.Stop.TheVariants as stops

-- a run that refuses, by no fetch
pub runs_alone :
    (knows : Command → Bool) (seen : Run) (why : values.Refusal) → seen.failures' ≡ seen.failures → DoesWords knows seen.files seen.words [] (refusal why)
    → Written (refusal_status why) (refusal_text why) seen → Runs knows seen
runs_alone knows seen why none is written =
    record { failing = []; end = refusal why; by = is; noted = none ∙ sym (append-nil seen.failures); written = written }

-- words of a command that the call doesn't know have none of its forms
pub not_known :
    (knows : Command → Bool) (words : List (List ℕ)) (command : Command) → knows command ≡ false → Asks words command → HasNoForm knows words
not_known knows words command unknown asks other known =
    false≢true (sym unknown ∙ subst (λ c. knows c ≡ true) (one_command words other command known.1 asks) known.0)

-- how what was answered ends a course, by the files of the shelf or by others
abbrev EndsOwn : Option Files → Option Files → Course Shown → List (List ℕ) → Result Answer Stop → Type 0
EndsOwn own files course failing (Ok answer) = (s : Shown) × Shows answer s × FollowsOwn own files course failing (came s)
EndsOwn own files course failing (Err (stops.Refused answer)) =
    (why : values.Refusal) × Refuses answer why × FollowsOwn own files course failing (refusal why)
EndsOwn own files course failing (Err stops.NoMemory) = (failing ≡ []) ⊎ FollowsOwn own files course failing (refusal values.no_memory)

record Ended (own files : Option Files) (course : Course Shown) (failures failures' : List (List ℕ)) (r : Result Answer Stop) : Type 0 where
  failing : List (List ℕ)
  noted : failures' ≡ failures ++ failing
  ends : EndsOwn own files course failing r

by_course :
    (own files : Option Files) (course : Course Shown) (failures failures' : List (List ℕ)) (r : Result Answer Stop)
    → ComesOwn own files course failures failures' r → Ended own files course failures failures' r
by_course None files course failures failures' r by = record { failing = by.failing; noted = by.noted; ends = of r by.ends }
  where
    of : (r : Result Answer Stop) → EndsIn Shows files course by.failing r → EndsOwn None files course by.failing r
    of (Ok answer) on = on
    of (Err (stops.Refused answer)) on = on
    of (Err stops.NoMemory) on = on
by_course (Some own) files course failures failures' r (none, on) = record { failing = []; noted = none ∙ sym (append-nil failures); ends = of r on }
  where
    of : (r : Result Answer Stop) → EndsIn Shows (Some own) course [] r → EndsOwn (Some own) files course [] r
    of (Ok answer) (s, shows, on) = (s, shows, (refl, on))
    of (Err (stops.Refused answer)) (why, refuses, on) = (why, refuses, (refl, on))
    of (Err stops.NoMemory) on = inl refl

-- a run, from the answer to its command
module _ (knows : Command → Bool) (seen : Run) (command : Command) (asks : AsksOf knows seen.words command) where
  does :
      (failing : List (List ℕ)) (end : End Shown) (own : Status) (text : List ℕ) → seen.failures' ≡ seen.failures ++ failing
      → own ≡ status_of end → text ≡ text_of end → DoesWords knows seen.files seen.words failing end → Written own text seen → Runs knows seen
  does failing end own text noted same_status same_text by written = record {
    failing = failing;
    end = end;
    by = by;
    noted = noted;
    written = subst (λ s. Written s (text_of end) seen) same_status (subst (λ t. Written own t seen) same_text written);
  }

  pub runs_by :
      (r : Result Answer Stop) → ComesOwn (own_files command) seen.files (course_of command) seen.failures seen.failures' r
      → Written (result_status r) (result_text r) seen → Runs knows seen
  runs_by r by written =
      let e = by_course (own_files command) seen.files (course_of command) seen.failures seen.failures' r by in of r e.failing e.noted e.ends written
    where
      of : (r : Result Answer Stop) (failing : List (List ℕ)) → seen.failures' ≡ seen.failures ++ failing
          → EndsOwn (own_files command) seen.files (course_of command) failing r → Written (result_status r) (result_text r) seen → Runs knows seen
      of (Ok answer) failing noted (s, shows, on) written =
          does failing (came s) answer.status answer.text.items noted shows.0 shows.1 (asked command failing (came s) asks on) written
      of (Err (stops.Refused answer)) failing noted (why, refuses, on) written =
          does failing (refusal why) answer.status answer.text.items noted refuses.status_is refuses.text_is (asked command failing (refusal why) asks on) written
      of (Err stops.NoMemory) failing noted (inl none) written =
          does [] (refusal values.no_memory) _ _ (subst (λ ns. seen.failures' ≡ seen.failures ++ ns) none noted) refl refl not_read written
      of (Err stops.NoMemory) failing noted (inr on) written =
          does failing (refusal values.no_memory) _ _ noted refl refl (asked command failing (refusal values.no_memory) asks on) written
