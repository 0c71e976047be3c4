-- To be believed (definitions.md).
-- Courses: what is fetched and judged one after the other, and what it comes to. A course is a value, and one relation
-- says how it may end by what the files hold, for all commands that there are.
use Rattle.std.specs.Prelude.{ℕ, List, [], ◌∷◌, Option, codes}
use Rattle.cfg_io.specs.Shelf.{Files}
use Rattle.command_answers.specs.Answers.{Refusal, no_memory, read_fault}
use Rattle.command_spec.specs.Files.{IsTold, TellsLonger}
use Rattle.command_spec.specs.Sorts.{Sort, of_script, limit_of, refusal_of, Refuses, Value, Reads}

-- A course to something: it is there; or it is one of some, of which nothing is refused; or a file is fetched, and its
-- bytes lead on; or something is judged of a file, which refuses it by some words or gives what leads on.
pub data Course (A : Type 0) : Type 1 where
  ends : A → Course A
  says : (Is : A → Type 0) → Course A
  fetches : (sort : Sort) (file : List ℕ) (Then : List ℕ → Course A) → Course A
  judges :
      (B : Type 0) (sort : Sort) (file : List ℕ) (Refused : List (List ℕ) → Type 0) (Gives : B → Type 0)
      (Then : B → Course A)
      → Course A

-- what a course comes to, or why it stops before
pub data End (A : Type 0) : Type 0 where
  came : A → End A
  refusal : Refusal → End A

-- It is there, and no fetch failed.
pub data Here {A : Type 0} (x : A) : List (List ℕ) → End A → Type 0 where
  here : Here x [] (came x)

pub data Said {A : Type 0} (Is : A → Type 0) : List (List ℕ) → End A → Type 0 where
  not_said : Said Is [] (refusal no_memory)
  said : (x : A) → Is x → Said Is [] (came x)

-- A file is fetched, of which so many bytes are wanted at most as its sort has: the fetch fails, and is the last; or
-- the file is too long, which is refused; or its bytes lead on. Memory may run out before the fetch or behind it.
pub data AfterFetch {A : Type 0} (files : Option Files) (sort : Sort) (file : List ℕ)
    (Then : List ℕ → List (List ℕ) → End A → Type 0) : List (List ℕ) → End A → Type 0 where
  not_fetched : AfterFetch files sort file Then [] (refusal no_memory)
  failed : AfterFetch files sort file Then (file ∷ []) (refusal (read_fault file))
  failed_short : AfterFetch files sort file Then (file ∷ []) (refusal no_memory)
  too_long :
      TellsLonger (limit_of sort) files file
      → AfterFetch files sort file Then [] (refusal (refusal_of sort file (codes "TooLong" ∷ [])))
  leads_on :
      (bytes : List ℕ) (failing : List (List ℕ)) (end : End A) → IsTold files (limit_of sort) file bytes
      → Then bytes failing end → AfterFetch files sort file Then failing end

-- Something is judged of a file: it is refused by some words; or it gives something that leads on. Memory may run out.
pub data AfterJudging {A B : Type 0} (sort : Sort) (file : List ℕ) (Refused : List (List ℕ) → Type 0)
    (Gives : B → Type 0) (Then : B → List (List ℕ) → End A → Type 0) : List (List ℕ) → End A → Type 0 where
  not_judged : AfterJudging sort file Refused Gives Then [] (refusal no_memory)
  refused :
      (words : List (List ℕ)) → Refused words
      → AfterJudging sort file Refused Gives Then [] (refusal (refusal_of sort file words))
  gives :
      (x : B) (failing : List (List ℕ)) (end : End A) → Gives x → Then x failing end
      → AfterJudging sort file Refused Gives Then failing end

-- By what the files hold the course may end so, where the fetches of these names failed.
abbrev pub Follows : {A : Type 0} → Option Files → Course A → List (List ℕ) → End A → Type 0
Follows files (ends x) failing end = Here x failing end
Follows files (says Is) failing end = Said Is failing end
Follows files (fetches sort file Then) failing end =
    AfterFetch files sort file (λ bytes. Follows files (Then bytes)) failing end
Follows files (judges B sort file Refused Gives Then) failing end =
    AfterJudging sort file Refused Gives (λ x. Follows files (Then x)) failing end

-- the one course, and then the one that what it comes to leads to
abbrev pub then_by : {A B : Type 0} → Course A → (A → Course B) → Course B
then_by (ends x) then_ = then_ x
then_by {A} (says Is) then_ = judges A of_script [] (λ words. ⊥) Is then_
then_by (fetches sort file Then) then_ = fetches sort file (λ bytes. then_by (Then bytes) then_)
then_by (judges B sort file Refused Gives Then) then_ = judges B sort file Refused Gives (λ x. then_by (Then x) then_)

-- the course of a file alone: what it says
abbrev pub reads : (sort : Sort) → List ℕ → Course (Value sort)
reads sort file = fetches sort file (λ bytes. judges (Value sort) sort file (Refuses sort bytes) (Reads sort bytes) ends)
