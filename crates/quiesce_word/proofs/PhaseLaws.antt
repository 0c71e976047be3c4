-- Phases: which one passes a test, and how the tests exclude each other.
use Rattle.std.proofs.Common.{◌≡◌, true, false, ◌||◌, refl}
use Rattle.std.proofs.lemmas.Bool.{both_ways, false_from_ne_true}
use Rattle.quiesce_word.specs.Phases.{is_idle, is_asked, is_answered, is_in_more}
use Rattle.quiesce_word.specs.declared.phase.Phase.{Phase}
use Rattle.quiesce_word.specs.declared.phase.Phase.TheVariants as phase

-- a phase that passes a test
pub idle_is : (f : Phase) → is_idle f ≡ true → f ≡ phase.Idle
idle_is phase.Idle h = refl
idle_is phase.Asked h = absurd (both_ways false refl h)
idle_is phase.Answered h = absurd (both_ways false refl h)
idle_is phase.More h = absurd (both_ways false refl h)

pub asked_is : (f : Phase) → is_asked f ≡ true → f ≡ phase.Asked
asked_is phase.Idle h = absurd (both_ways false refl h)
asked_is phase.Asked h = refl
asked_is phase.Answered h = absurd (both_ways false refl h)
asked_is phase.More h = absurd (both_ways false refl h)

pub answered_is : (f : Phase) → is_answered f ≡ true → f ≡ phase.Answered
answered_is phase.Idle h = absurd (both_ways false refl h)
answered_is phase.Asked h = absurd (both_ways false refl h)
answered_is phase.Answered h = refl
answered_is phase.More h = absurd (both_ways false refl h)

pub more_is : (f : Phase) → is_in_more f ≡ true → f ≡ phase.More
more_is phase.Idle h = absurd (both_ways false refl h)
more_is phase.Asked h = absurd (both_ways false refl h)
more_is phase.Answered h = absurd (both_ways false refl h)
more_is phase.More h = refl

-- of the phases of a service, the one that isn't in more
pub asked_unless_more : (f : Phase) → (is_asked f || is_in_more f) ≡ true → (is_in_more f ≡ true → ⊥) → f ≡ phase.Asked
asked_unless_more phase.Idle h ne = absurd (both_ways false refl h)
asked_unless_more phase.Asked h ne = refl
asked_unless_more phase.Answered h ne = absurd (both_ways false refl h)
asked_unless_more phase.More h ne = absurd (ne refl)

-- phases exclude each other

pub asked_busy : (f : Phase) → is_asked f ≡ true → is_idle f ≡ false
asked_busy phase.Idle h = absurd (both_ways false refl h)
asked_busy phase.Asked h = refl
asked_busy phase.Answered h = refl
asked_busy phase.More h = refl

pub more_busy : (f : Phase) → is_in_more f ≡ true → is_idle f ≡ false
more_busy phase.Idle h = absurd (both_ways false refl h)
more_busy phase.Asked h = refl
more_busy phase.Answered h = refl
more_busy phase.More h = refl

pub serving_busy : (f : Phase) → (is_asked f || is_in_more f) ≡ true → is_idle f ≡ false
serving_busy phase.Idle h = absurd (both_ways false refl h)
serving_busy phase.Asked h = refl
serving_busy phase.Answered h = refl
serving_busy phase.More h = refl

pub serving_unanswered : (f : Phase) → (is_asked f || is_in_more f) ≡ true → is_answered f ≡ true → ⊥
serving_unanswered phase.Idle h e = both_ways false refl h
serving_unanswered phase.Asked h e = both_ways false refl e
serving_unanswered phase.Answered h e = both_ways false refl h
serving_unanswered phase.More h e = both_ways false refl e

pub asked_not_more : (f : Phase) → is_asked f ≡ true → is_in_more f ≡ false
asked_not_more phase.Idle h = refl
asked_not_more phase.Asked h = refl
asked_not_more phase.Answered h = refl
asked_not_more phase.More h = absurd (both_ways false refl h)

pub answered_busy : (f : Phase) → is_answered f ≡ true → is_idle f ≡ false
answered_busy phase.Idle h = absurd (both_ways false refl h)
answered_busy phase.Asked h = refl
answered_busy phase.Answered h = refl
answered_busy phase.More h = refl

pub answered_not_more : (f : Phase) → is_answered f ≡ true → is_in_more f ≡ false
answered_not_more phase.Idle h = refl
answered_not_more phase.Asked h = refl
answered_not_more phase.Answered h = refl
answered_not_more phase.More h = absurd (both_ways false refl h)

pub answered_not_asked : (f : Phase) → is_answered f ≡ true → is_asked f ≡ false
answered_not_asked phase.Idle h = refl
answered_not_asked phase.Asked h = absurd (both_ways false refl h)
answered_not_asked phase.Answered h = refl
answered_not_asked phase.More h = refl

pub more_not_answered : (f : Phase) → is_in_more f ≡ true → is_answered f ≡ false
more_not_answered phase.Idle h = refl
more_not_answered phase.Asked h = refl
more_not_answered phase.Answered h = absurd (both_ways false refl h)
more_not_answered phase.More h = refl

pub idle_not_asked : (f : Phase) → is_idle f ≡ true → is_asked f ≡ false
idle_not_asked f h = false_from_ne_true (is_asked f) (λ asked. both_ways (is_idle f) (asked_busy f asked) h)

pub more_not_asked : (f : Phase) → is_in_more f ≡ true → is_asked f ≡ false
more_not_asked phase.More h = refl
more_not_asked _ h = absurd (both_ways false refl h)
