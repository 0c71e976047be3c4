-- A file that is fetched, and read.
use Rattle.std.proofs.Common.{◌≡◌, ◌≤◌, ◌<◌, ◌++◌, ◌∷◌, [], inl, inr, ℕ, List, Option, Some, None, IfSome, IsSomeAnd, Result, Ok, Err, codes, length, refl, sym, subst}
use Rattle.cfg_io.specs.Shelf.{Files}
use Rattle.command_answers.specs.Answers.{Refusal, read_fault}
use Rattle.command_spec.specs.Courses.{Course, ends, fetches, judges, came, refusal, Follows, here, failed, failed_short, too_long, leads_on, refused, gives, reads}
use Rattle.command_spec.specs.Files.{HoldsFile, TellsLonger}
use Rattle.command_spec.specs.Sorts.{Sort, limit_of, refusal_of, Refuses, Value, Reads}
use Rattle.command_program.specs.Coming.{Comes, EndsIn, StopsFor}
use Rattle.command_program.specs.declared.answer.Stop.{Stop}
use Rattle.command_program.specs.declared.answer.Stop.TheVariants as stops
use Rattle.command_program.proofs.ComingLaws.{comes_here, comes_on, stops_in}

abbrev pub IsText : List ℕ → List ℕ → Type 0
IsText text bytes = text ≡ bytes

holds_file : (files : Option Files) (limit : ℕ) (file bytes : List ℕ) → IfSome files (λ holds. (holds file ≡ Some bytes) × (length bytes ≤ limit)) → HoldsFile files file bytes
holds_file None limit file bytes told = tt
holds_file (Some holds) limit file bytes told = told.0

tells_longer : (files : Option Files) (limit : ℕ) (file : List ℕ) → IfSome files (λ holds. IsSomeAnd (holds file) (λ bytes. limit < length bytes)) → TellsLonger limit files file
tells_longer None limit file told = tt
tells_longer (Some holds) limit file told = told

-- what a fetch comes to
module _ (files : Option Files) (sort : Sort) (file : List ℕ) (failures failures' : List (List ℕ)) where
  pub fetched :
      (bytes : List ℕ) → failures' ≡ failures → IfSome files (λ holds. (holds file ≡ Some bytes) × (length bytes ≤ limit_of sort))
      → length bytes ≤ limit_of sort → Comes IsText files (fetches sort file ends) failures failures' (Ok bytes)
  fetched bytes same told within =
      comes_here IsText files (fetches sort file ends) failures failures' (Ok bytes) same
      (bytes, refl, leads_on bytes [] (came bytes) (record { told = holds_file files (limit_of sort) file bytes told; within = within }) here)

  pub fetch_failed :
      (stop : Stop) → failures' ≡ failures ++ file ∷ [] → StopsFor (λ why. why ≡ read_fault file) stop
      → Comes IsText files (fetches sort file ends) failures failures' (Err stop)
  fetch_failed stop noted stops_ = record {
    failing = file ∷ [];
    noted = noted;
    ends = stops_in IsText files (fetches sort file ends) (file ∷ []) (λ why. why ≡ read_fault file) stop stops_
        (λ why is. subst (λ w. Follows files (fetches sort file ends) (file ∷ []) (refusal w)) (sym is) failed) (inr failed_short);
  }

  pub fetch_long :
      (stop : Stop) → failures' ≡ failures → IfSome files (λ holds. IsSomeAnd (holds file) (λ bytes. limit_of sort < length bytes))
      → StopsFor (λ why. why ≡ refusal_of sort file (codes "TooLong" ∷ [])) stop → Comes IsText files (fetches sort file ends) failures failures' (Err stop)
  fetch_long stop same told stops_ =
      comes_here IsText files (fetches sort file ends) failures failures' (Err stop) same
      (stops_in IsText files (fetches sort file ends) [] (λ why. why ≡ refusal_of sort file (codes "TooLong" ∷ [])) stop stops_
      (λ why is. subst (λ w. Follows files (fetches sort file ends) [] (refusal w)) (sym is) (too_long (tells_longer files (limit_of sort) file told))) (inl refl))

  pub fetch_short : failures' ≡ failures → Comes IsText files (fetches sort file ends) failures failures' (Err stops.NoMemory)
  fetch_short same = comes_here IsText files (fetches sort file ends) failures failures' (Err stops.NoMemory) same (inl refl)

-- what its bytes say, or what refuses them
abbrev pub judged : (sort : Sort) → List ℕ → List ℕ → Course (Value sort)
judged sort file bytes = judges (Value sort) sort file (Refuses sort bytes) (Reads sort bytes) ends

module _ {T : Type 0} (sort : Sort) (Is : T → Value sort → Type 0) (files : Option Files) (file bytes : List ℕ) where
  pub says_so : (x : T) (value : Value sort) → Is x value → Reads sort bytes value → EndsIn Is files (judged sort file bytes) [] (Ok x)
  says_so x value is read = (value, is, gives value [] (came value) read here)

  pub refuses_so :
      (Why : Refusal → Type 0) (stop : Stop) (words : List (List ℕ)) → StopsFor Why stop
      → ((why : Refusal) → Why why → (why ≡ refusal_of sort file words) × Refuses sort bytes words) → EndsIn Is files (judged sort file bytes) [] (Err stop)
  refuses_so Why stop words stops_ leads =
      stops_in Is files (judged sort file bytes) [] Why stop stops_
      (λ why is. let l = leads why is in subst (λ w. Follows files (judged sort file bytes) [] (refusal w)) (sym l.0) (refused words l.1)) (inl refl)

  pub read_on :
      (failures failures' : List (List ℕ)) (r : Result T Stop) → Comes IsText files (fetches sort file ends) failures failures' (Ok bytes)
      → EndsIn Is files (judged sort file bytes) [] r → Comes Is files (reads sort file) failures failures' r
  read_on failures failures' r first e =
      comes_on IsText Is files (judged sort file) (fetches sort file ends) files failures failures' failures' bytes r refl first
      (λ b same. comes_here Is files (judged sort file b) failures' failures' r refl (subst (λ t. EndsIn Is files (judged sort file t) [] r) same e))
