-- What is wanted of a description: what its bytes give, and that they aren't refused too.
use Rattle.std.proofs.Common.{◌≡◌, ◌⊎◌, inl, inr, ℕ, List, Option, Some, None, true, refl}
use Rattle.std.specs.Prelude.{◌↔◌, is_some}
use Rattle.quiesce_core.specs.State.{State}
use Rattle.quiesce_core.specs.declared.event.Event.{Event}
use Rattle.command_answers.specs.Answers.{roll_status}
use Rattle.command_answers.specs.declared.status.Status.{Status}
use Rattle.command_answers.specs.declared.status.Status.TheVariants as status
use Rattle.command_spec.specs.Replays.{one_denied, all_steps, Replays}
use Rattle.command_spec.specs.declared.query.Query.{Query}
use Rattle.command_spec.specs.declared.query.Query.TheVariants as queries
use Rattle.command_spec.specs.Queries.{IsRefused, AnswersQuery}
use Rattle.command_spec.proofs.Readings as readings
use Rattle.command_spec.proofs.Planning as planning

-- how a roll ends
pub roll_ends : (given_up : Option ℕ) (own : Status) → own ≡ roll_status given_up → (own ≡ status.Ok) ⊎ (own ≡ status.Pending)
roll_ends None own is = inl is
roll_ends (Some number) own is = inr is

pub roll_pends : (given_up : Option ℕ) (own : Status) → own ≡ roll_status given_up → (own ≡ status.Pending) ↔ (is_some given_up ≡ true)
roll_pends None own is = (λ pending. cc (is, pending), λ some. cc)
roll_pends (Some number) own is = (λ pending. refl, λ some. is)

-- what bytes give ends well, or with a denied event, or where a part was given up
pub replays_status : (s : State) (events : List Event) (own : Status) (written : List ℕ) → Replays s events own written → (own ≡ status.Ok) ⊎ (own ≡ status.Denied)
replays_status s events _ _ (one_denied number rule is) = inr refl
replays_status s events _ _ (all_steps t settled leads are) = inl refl

pub never_both :
    (query : Query) (text : List ℕ) (own : Status) (written : List ℕ) (words : List (List ℕ))
    → AnswersQuery query text own written → IsRefused query text words → ⊥
never_both (queries.Graph call) text own written words gives refuses = readings.never_both text call.top call.args gives.1.0 words gives.1.1 refuses
never_both (queries.Replay events_file) text own written words gives refuses =
    planning.never_both_start text events_file.name events_file.args gives.graph words gives.starts refuses
