-- Laws of courses, by induction over them: how two join, and which ends one may have.
use Rattle.std.proofs.Common.{◌≡◌, inl, inr, ℕ, List, [], ◌∷◌, Option, Some, None, IsSomeAnd, length, refl, sym, subst, ◌<◌, ◌≤◌, arith, ◌⊎◌}
use Rattle.std.proofs.lemmas.Option.{same_Some}
use Rattle.cfg_io.specs.Shelf.{Files}
use Rattle.command_answers.specs.Answers.{Refusal, no_memory, read_fault}
use Rattle.command_spec.specs.Courses.{Course, ends, says, fetches, judges, End, came, refusal, Follows, here, not_said, said, not_fetched, failed, failed_short, too_long, leads_on, not_judged, refused, gives, then_by}
use Rattle.command_spec.specs.Files.{IsTold, TellsLonger}
use Rattle.command_spec.specs.Endings.{Alike, Comes, first_short, second_short, came_alike, refused_alike, FailsLast, came_so, refused_so, short, last_failed, last_short}
use Rattle.command_spec.specs.Sorts.{limit_of}

-- ---- one course behind the other

module _ {A B : Type 0} (files : Option Files) (k : A → Course B) where
  -- the first comes to something, and the second goes on
  pub goes_on :
      (c : Course A) (x : A) (failing : List (List ℕ)) (end : End B) → Follows files c [] (came x)
      → Follows files (k x) failing end → Follows files (then_by c k) failing end
  goes_on (ends _) x failing end here next = next
  goes_on (says Is) x failing end (said _ is) next = gives x failing end is next
  goes_on (fetches sort file Then) x failing end (leads_on bytes _ _ told on) next =
      leads_on bytes failing end told (goes_on (Then bytes) x failing end on next)
  goes_on (judges C sort file Refused Gives Then) x failing end (gives y _ _ is on) next =
      gives y failing end is (goes_on (Then y) x failing end on next)

  -- the first stops, and so do both
  pub stops :
      (c : Course A) (failing : List (List ℕ)) (why : Refusal) → Follows files c failing (refusal why)
      → Follows files (then_by c k) failing (refusal why)
  stops (ends x) _ _ never = elim never [ ]
  stops (says Is) _ _ not_said = not_judged
  stops (fetches sort file Then) _ _ not_fetched = not_fetched
  stops (fetches sort file Then) _ _ failed = failed
  stops (fetches sort file Then) _ _ failed_short = failed_short
  stops (fetches sort file Then) _ _ (too_long long) = too_long long
  stops (fetches sort file Then) failing why (leads_on bytes _ _ told on) =
      leads_on bytes failing (refusal why) told (stops (Then bytes) failing why on)
  stops (judges C sort file Refused Gives Then) _ _ not_judged = not_judged
  stops (judges C sort file Refused Gives Then) _ _ (refused words is) = refused words is
  stops (judges C sort file Refused Gives Then) failing why (gives y _ _ is on) =
      gives y failing (refusal why) is (stops (Then y) failing why on)

-- either the first stops so, or it comes to something and the second ends so
pub data Parts {A B : Type 0} (files : Option Files) (c : Course A) (k : A → Course B) : List (List ℕ) → End B → Type 0 where
  stopped : (failing : List (List ℕ)) (why : Refusal) → Follows files c failing (refusal why) → Parts files c k failing (refusal why)
  both :
      (x : A) (failing : List (List ℕ)) (end : End B) → Follows files c [] (came x) → Follows files (k x) failing end
      → Parts files c k failing end

module _ {A B : Type 0} (files : Option Files) (k : A → Course B) where
  pub parts_of :
      (c : Course A) (failing : List (List ℕ)) (end : End B) → Follows files (then_by c k) failing end
      → Parts files c k failing end
  parts_of (ends x) failing end on = both x failing end here on
  parts_of (says Is) _ _ not_judged = stopped [] no_memory not_said
  parts_of (says Is) _ _ (refused words never) = absurd never
  parts_of (says Is) failing end (gives x _ _ is on) = both x failing end (said x is) on
  parts_of (fetches sort file Then) _ _ not_fetched = stopped [] no_memory not_fetched
  parts_of (fetches sort file Then) _ _ failed = stopped (file ∷ []) (read_fault file) failed
  parts_of (fetches sort file Then) _ _ failed_short = stopped (file ∷ []) no_memory failed_short
  parts_of (fetches sort file Then) _ _ (too_long long) = stopped [] _ (too_long long)
  parts_of (fetches sort file Then) failing end (leads_on bytes _ _ told on) = by failing end (parts_of (Then bytes) failing end on)
    where
      by : (failing : List (List ℕ)) (end : End B) → Parts files (Then bytes) k failing end → Parts files (fetches sort file Then) k failing end
      by _ _ (stopped failing why is) = stopped failing why (leads_on bytes failing (refusal why) told is)
      by _ _ (both x failing end first next) = both x failing end (leads_on bytes [] (came x) told first) next
  parts_of (judges C sort file Refused Gives Then) _ _ not_judged = stopped [] no_memory not_judged
  parts_of (judges C sort file Refused Gives Then) _ _ (refused words is) = stopped [] _ (refused words is)
  parts_of (judges C sort file Refused Gives Then) failing end (gives y _ _ is on) = by failing end (parts_of (Then y) failing end on)
    where
      by : (failing : List (List ℕ)) (end : End B) → Parts files (Then y) k failing end → Parts files (judges C sort file Refused Gives Then) k failing end
      by _ _ (stopped failing why at) = stopped failing why (gives y failing (refusal why) is at)
      by _ _ (both x failing end first next) = both x failing end (gives y [] (came x) is first) next

-- what both come to
pub came_by :
    {A B : Type 0} (files : Option Files) (k : A → Course B) (c : Course A) (y : B) → Follows files (then_by c k) [] (came y)
    → (x : A) × Follows files c [] (came x) × Follows files (k x) [] (came y)
came_by {A = A} {B = B} files k c y on = by (parts_of files k c [] (came y) on)
  where
    by : Parts files c k [] (came y) → (x : A) × Follows files c [] (came x) × Follows files (k x) [] (came y)
    by (both x _ _ first next) = (x, first, next)

-- where the second may end in more ways, so may both
pub widens :
    {A B : Type 0} (files : Option Files) (k also : A → Course B)
    → ((x : A) (failing : List (List ℕ)) (end : End B) → Follows files (k x) failing end → Follows files (also x) failing end)
    → (c : Course A) (failing : List (List ℕ)) (end : End B) → Follows files (then_by c k) failing end
    → Follows files (then_by c also) failing end
widens {A = A} {B = B} files k also more c failing end on = by failing end (parts_of files k c failing end on)
  where
    by : (failing : List (List ℕ)) (end : End B) → Parts files c k failing end → Follows files (then_by c also) failing end
    by _ _ (stopped failing why is) = stops files also c failing why is
    by _ _ (both x failing end first next) = goes_on files also c x failing end first (more x failing end next)

-- ---- which ends there are

pub widen_names : {A : Type 0} (P Q : List ℕ → Type 0) → ((file : List ℕ) → P file → Q file) → (failing : List (List ℕ)) (end : End A) → FailsLast P failing end → FailsLast Q failing end
widen_names P Q more _ _ (came_so x) = came_so x
widen_names P Q more _ _ (refused_so sort file words) = refused_so sort file words
widen_names P Q more _ _ short = short
widen_names P Q more _ _ (last_failed file is) = last_failed file (more file is)
widen_names P Q more _ _ (last_short file is) = last_short file (more file is)

pub fails_last :
    {A : Type 0} (files : Option Files) (c : Course A) (failing : List (List ℕ)) (end : End A) → Follows files c failing end
    → FailsLast (Comes files c) failing end
fails_last files (ends x) _ _ here = came_so x
fails_last files (says Is) _ _ not_said = short
fails_last files (says Is) _ _ (said x is) = came_so x
fails_last files (fetches sort file Then) _ _ not_fetched = short
fails_last files (fetches sort file Then) _ _ failed = last_failed file (inl refl)
fails_last files (fetches sort file Then) _ _ failed_short = last_short file (inl refl)
fails_last files (fetches sort file Then) _ _ (too_long long) = refused_so sort file _
fails_last files (fetches sort file Then) failing end (leads_on bytes _ _ told on) =
    widen_names (Comes files (Then bytes)) (Comes files (fetches sort file Then)) (λ name is. inr (bytes, told, is)) failing end
    (fails_last files (Then bytes) failing end on)
fails_last files (judges B sort file Refused Gives Then) _ _ not_judged = short
fails_last files (judges B sort file Refused Gives Then) _ _ (refused words is) = refused_so sort file words
fails_last files (judges B sort file Refused Gives Then) failing end (gives y _ _ is on) =
    widen_names (Comes files (Then y)) (Comes files (judges B sort file Refused Gives Then)) (λ name at. (y, is, at)) failing end
    (fails_last files (Then y) failing end on)

-- what comes to something had no fetch that failed
pub none_failed : {A : Type 0} (files : Option Files) (c : Course A) (failing : List (List ℕ)) (x : A) → Follows files c failing (came x) → failing ≡ []
none_failed {A = A} files c failing x on = by failing (fails_last files c failing (came x) on)
  where
    by : (names : List (List ℕ)) → FailsLast (Comes files c) names (came x) → names ≡ []
    by _ (came_so _) = refl

-- both come to the files to which the one does, and then to those to which the other does
pub comes_by :
    {A B : Type 0} (files : Option Files) (k : A → Course B) (c : Course A) (name : List ℕ) → Comes files (then_by c k) name
    → Comes files c name ⊎ ((x : A) × Comes files (k x) name)
comes_by files k (ends x) name comes = inr (x, comes)
comes_by files k (says Is) name (x, is, comes) = inr (x, comes)
comes_by files k (fetches sort file Then) name (inl is) = inl (inl is)
comes_by {A = A} {B = B} files k (fetches sort file Then) name (inr (bytes, told, comes)) = by (comes_by files k (Then bytes) name comes)
  where
    by : Comes files (Then bytes) name ⊎ ((x : A) × Comes files (k x) name) → Comes files (fetches sort file Then) name ⊎ ((x : A) × Comes files (k x) name)
    by (inl first) = inl (inr (bytes, told, first))
    by (inr next) = inr next
comes_by {A = A} {B = B} files k (judges C sort file Refused Gives Then) name (y, is, comes) = by (comes_by files k (Then y) name comes)
  where
    by : Comes files (Then y) name ⊎ ((x : A) × Comes files (k x) name) → Comes files (judges C sort file Refused Gives Then) name ⊎ ((x : A) × Comes files (k x) name)
    by (inl first) = inl (y, is, first)
    by (inr next) = inr next

-- ---- courses that files decide

-- What is judged is refused or gives one thing, and never both; and what is said at the end is the same in some way.
abbrev pub Decided : {A : Type 0} → (A → A → Type 0) → Course A → Type 0
Decided Same (ends x) = Same x x
Decided {A} Same (says Is) = (x y : A) → Is x → Is y → Same x y
Decided Same (fetches sort file Then) = (bytes : List ℕ) → Decided Same (Then bytes)
Decided Same (judges B sort file Refused Gives Then) =
    ((words : List (List ℕ)) (x : B) → Refused words → Gives x → ⊥) × ((x y : B) → Gives x → Gives y → x ≡ y)
    × ((x : B) → Gives x → Decided Same (Then x))

-- no file is told and too long
pub long_or_told : (files : Files) (limit : ℕ) (file bytes : List ℕ) → TellsLonger limit (Some files) file → IsTold (Some files) limit file bytes → ⊥
long_or_told files limit file bytes long told = by (files file) long told.told
  where
    by : (content : Option (List ℕ)) → IsSomeAnd content (λ b. limit < length b) → content ≡ Some bytes → ⊥
    by None never is = never
    by (Some other) longer is = let within : length other ≤ limit = subst (λ b. length b ≤ limit) (sym (same_Some other bytes is)) told.within in omega (arith, longer, within)

pub told_once : (files : Files) (limit : ℕ) (file bytes other : List ℕ) → IsTold (Some files) limit file bytes → IsTold (Some files) limit file other → other ≡ bytes
told_once files limit file bytes other told also = let first = told.told in let second = also.told in cc

pub ends_alike :
    {A : Type 0} (Same : A → A → Type 0) (files : Files) (c : Course A) → Decided Same c → (end other : End A)
    → Follows (Some files) c [] end → Follows (Some files) c [] other → Alike Same end other
ends_alike Same files (ends x) same _ _ here here = came_alike x x same
ends_alike Same files (says Is) same _ other not_said on = first_short other
ends_alike Same files (says Is) same end _ on not_said = second_short end
ends_alike Same files (says Is) same _ _ (said x is) (said y also) = came_alike x y (same x y is also)
ends_alike Same files (fetches sort file Then) same _ other not_fetched on = first_short other
ends_alike Same files (fetches sort file Then) same end _ on not_fetched = second_short end
ends_alike Same files (fetches sort file Then) same _ _ (too_long long) (too_long also) = refused_alike sort file _ _
ends_alike Same files (fetches sort file Then) same _ _ (too_long long) (leads_on bytes _ _ told on) = absurd (long_or_told files _ file bytes long told)
ends_alike Same files (fetches sort file Then) same _ _ (leads_on bytes _ _ told on) (too_long long) = absurd (long_or_told files _ file bytes long told)
ends_alike Same files (fetches sort file Then) same end other (leads_on bytes _ _ told on) (leads_on more _ _ also next) =
    ends_alike Same files (Then bytes) (same bytes) end other on
    (subst (λ b. Follows (Some files) (Then b) [] other) (told_once files (limit_of sort) file bytes more told also) next)
ends_alike Same files (judges B sort file Refused Gives Then) same _ other not_judged on = first_short other
ends_alike Same files (judges B sort file Refused Gives Then) same end _ on not_judged = second_short end
ends_alike Same files (judges B sort file Refused Gives Then) same _ _ (refused words is) (refused more also) = refused_alike sort file words more
ends_alike Same files (judges B sort file Refused Gives Then) same _ _ (refused words is) (gives y _ _ also on) = absurd (same.0 words y is also)
ends_alike Same files (judges B sort file Refused Gives Then) same _ _ (gives x _ _ is on) (refused words also) = absurd (same.0 words x also is)
ends_alike Same files (judges B sort file Refused Gives Then) same end other (gives x _ _ is on) (gives y _ _ also next) =
    ends_alike Same files (Then x) (same.2 x is) end other on
    (subst (λ z. Follows (Some files) (Then z) [] other) (same.1 y x also is) next)

-- a decided course, and then decided ones
pub decided_then :
    {A B : Type 0} (Same : B → B → Type 0) (k : A → Course B) → ((x : A) → Decided Same (k x)) → (c : Course A)
    → Decided (λ x y. x ≡ y) c → Decided Same (then_by c k)
decided_then Same k next (ends x) same = next x
decided_then Same k next (says Is) same = ((λ words x never is. never), same, (λ x is. next x))
decided_then Same k next (fetches sort file Then) same = λ bytes. decided_then Same k next (Then bytes) (same bytes)
decided_then Same k next (judges C sort file Refused Gives Then) same =
    (same.0, same.1, (λ x is. decided_then Same k next (Then x) (same.2 x is)))

-- what a course comes to has a property, whatever the files hold
abbrev pub ComesTo : {A : Type 0} → (A → Type 0) → Course A → Type 0
ComesTo P (ends x) = P x
ComesTo {A} P (says Is) = (x : A) → Is x → P x
ComesTo P (fetches sort file Then) = (bytes : List ℕ) → ComesTo P (Then bytes)
ComesTo P (judges B sort file Refused Gives Then) = (x : B) → Gives x → ComesTo P (Then x)

-- a decided course, and then ones that are decided where it has that property
pub decided_where :
    {A B : Type 0} (P : A → Type 0) (Same : B → B → Type 0) (k : A → Course B) → ((x : A) → P x → Decided Same (k x)) → (c : Course A)
    → Decided (λ x y. x ≡ y) c → ComesTo P c → Decided Same (then_by c k)
decided_where P Same k next (ends x) same has = next x has
decided_where P Same k next (says Is) same has = ((λ words x never is. never), same, (λ x is. next x (has x is)))
decided_where P Same k next (fetches sort file Then) same has = λ bytes. decided_where P Same k next (Then bytes) (same bytes) (has bytes)
decided_where P Same k next (judges C sort file Refused Gives Then) same has =
    (same.0, same.1, (λ x is. decided_where P Same k next (Then x) (same.2 x is) (has x is)))
