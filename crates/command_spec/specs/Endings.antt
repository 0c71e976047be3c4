-- What is said of the ends of a course: that one refuses a file, that a fetch failed, and that two are alike.
use Rattle.std.specs.Prelude.{◌≡◌, ◌⊎◌, ℕ, Bool, true, false, List, [], ◌∷◌, Option, Some}
use Rattle.cfg_io.specs.Shelf.{Files}
use Rattle.command_answers.specs.Answers.{Refusal, description, script, read_fault, no_memory}
use Rattle.command_spec.specs.Courses.{Course, ends, says, fetches, judges, End, came, refusal, Follows}
use Rattle.command_spec.specs.Files.{IsTold}
use Rattle.command_spec.specs.Sorts.{Sort, limit_of, refusal_of}

-- a refusal of a file
abbrev pub is_of_file : Refusal → Bool
is_of_file (description file words) = true
is_of_file (script file words) = true
is_of_file _ = false

-- by these files the course may end with the refusal
abbrev pub Refuses : {A : Type 0} → Files → Course A → Refusal → Type 0
Refuses files course why = Follows (Some files) course [] (refusal why)

-- or with none
abbrev pub RefusesNothing : {A : Type 0} → Files → Course A → Type 0
RefusesNothing files course = (why : Refusal) → is_of_file why ≡ true → ¬ Refuses files course why

-- the course comes to a fetch of the file
abbrev pub Comes : {A : Type 0} → Option Files → Course A → List ℕ → Type 0
Comes files (ends x) name = ⊥
Comes files (says Is) name = ⊥
Comes files (fetches sort file Then) name =
    (name ≡ file) ⊎ ((bytes : List ℕ) × IsTold files (limit_of sort) file bytes × Comes files (Then bytes) name)
Comes files (judges B sort file Refused Gives Then) name = (x : B) × Gives x × Comes files (Then x) name

-- No fetch failed; or one did, and was the last: the end says so, or memory ran out.
pub data FailsLast {A : Type 0} (IsNamed : List ℕ → Type 0) : List (List ℕ) → End A → Type 0 where
  came_so : (x : A) → FailsLast IsNamed [] (came x)
  refused_so : (sort : Sort) (file : List ℕ) (words : List (List ℕ)) → FailsLast IsNamed [] (refusal (refusal_of sort file words))
  short : FailsLast IsNamed [] (refusal no_memory)
  last_failed : (file : List ℕ) → IsNamed file → FailsLast IsNamed (file ∷ []) (refusal (read_fault file))
  last_short : (file : List ℕ) → IsNamed file → FailsLast IsNamed (file ∷ []) (refusal no_memory)

-- Two ends are alike: memory ran out in one, or both came to the same, or both refuse the same file.
pub data Alike {A : Type 0} (Same : A → A → Type 0) : End A → End A → Type 0 where
  first_short : (end : End A) → Alike Same (refusal no_memory) end
  second_short : (end : End A) → Alike Same end (refusal no_memory)
  came_alike : (x y : A) → Same x y → Alike Same (came x) (came y)
  refused_alike :
      (sort : Sort) (file : List ℕ) (words also : List (List ℕ))
      → Alike Same (refusal (refusal_of sort file words)) (refusal (refusal_of sort file also))
