-- A session is over exactly behind an answer that ends it.
use Rattle.std.proofs.Common.{◌≡◌, ◌∙◌, ℕ, ◌-◌, ◌++◌, Bool, true, false, cond, List, [], Option, Some, None, refl, sym, ap, subst}
use Rattle.std.specs.List.{list_all}
use Rattle.std.specs.Prelude.{is_some, nat_le}
use Rattle.std.proofs.lemmas.Bool.{both_ways}
use Rattle.quiesce_core.specs.declared.event.Event.{Event}
use Rattle.quiesce_laws.specs.Drained.{is_drained}
use Rattle.change_apply.specs.Sessions.{Change, Scene, Turned, asked, denied, events_told, gets_ready, gives_up, goes_on, goes_on_in, happened, hears, is_over, leaves, may_say, settles, state_of, tells, tells_by, turn, waits}
use Rattle.change_apply.specs.Standing.{Holds, Stands}
use Rattle.change_apply.specs.Talking.{is_end}
use Rattle.change_apply.specs.declared.said.Answer.{Answer}
use Rattle.change_apply.specs.declared.said.Answer.TheVariants as answer
use Rattle.change_apply.specs.declared.said.Phase.{Phase}
use Rattle.change_apply.specs.declared.said.Phase.TheVariants as phase
use Rattle.change_apply.specs.declared.said.Said.{Said}
use Rattle.change_apply.specs.declared.said.Said.TheVariants as says
use Rattle.change_apply.specs.declared.session.Session.{Session}

-- the phase that a session ends in, by the phase itself and by its last answer
abbrev pub end_in : Phase → Option Phase
end_in phase.Committed = Some phase.Committed
end_in phase.Left = Some phase.Left
end_in _ = None

abbrev pub end_by : Answer → Option Phase
end_by answer.Waits = None
end_by answer.Ready = None
end_by answer.Committed = Some phase.Committed
end_by _ = Some phase.Left

abbrev pub Fits : Turned → Type 0
Fits t = end_in t.next.phase ≡ end_by t.answer

pub no_end_yet : (p : Phase) → is_over p ≡ false → end_in p ≡ None
no_end_yet phase.Waiting going = refl
no_end_yet phase.Ready going = refl
no_end_yet phase.Committed going = absurd (both_ways true going refl)
no_end_yet phase.Left going = absurd (both_ways true going refl)

over_in : (p : Phase) → is_over p ≡ is_some (end_in p)
over_in phase.Waiting = refl
over_in phase.Ready = refl
over_in phase.Committed = refl
over_in phase.Left = refl

end_shown : (a : Answer) → is_end a ≡ is_some (end_by a)
end_shown answer.Waits = refl
end_shown answer.Ready = refl
end_shown answer.Committed = refl
end_shown answer.GivenUp = refl
end_shown (answer.Denied rule) = refl
end_shown answer.Bad = refl
end_shown answer.Unread = refl

pub fits_over : (p : Phase) (a : Answer) → end_in p ≡ end_by a → is_over p ≡ is_end a
fits_over p a fits = over_in p ∙ ap (λ (o : Option Phase). is_some o) fits ∙ sym (end_shown a)

either_fits : (b : Bool) (t u : Turned) → Fits t → Fits u → Fits (cond b t u)
either_fits true t u h k = h
either_fits false t u h k = k

settles_fits : (c : Change) (s : Scene) → is_over s.phase ≡ false → Fits (settles c s)
settles_fits c s going =
    either_fits (list_all (is_drained (state_of s)) (asked c)) (gets_ready c s) (cond (nat_le s.left 0) (gives_up c s) (waits s)) refl
    (either_fits (nat_le s.left 0) (gives_up c s) (waits s) refl (no_end_yet s.phase going))

goes_fits_in : (p : Phase) (c : Change) (s : Scene) → is_over s.phase ≡ false → Fits (goes_on_in p c s)
goes_fits_in phase.Waiting c s going = settles_fits c s going
goes_fits_in phase.Ready c s going = no_end_yet s.phase going
goes_fits_in phase.Committed c s going = no_end_yet s.phase going
goes_fits_in phase.Left c s going = no_end_yet s.phase going

pub goes_fits : (c : Change) (s : Scene) → is_over s.phase ≡ false → Fits (goes_on c s)
goes_fits c s going = goes_fits_in s.phase c s going

tells_fits_by : (o : Option ℕ) (c : Change) (s : Scene) → is_over s.phase ≡ false → Fits (tells_by o c s)
tells_fits_by None c s going = goes_fits c s going
tells_fits_by (Some rule) c s going = refl

tells_fits : (c : Change) (s : Scene) (es : List Event) → is_over s.phase ≡ false → Fits (tells c s es)
tells_fits c s es going = tells_fits_by (denied (state_of s) es) c (record s { events = s.events ++ happened (state_of s) es }) going

hears_fits : (c : Change) (s : Scene) (x : Said) → is_over s.phase ≡ false → Fits (hears c s x)
hears_fits c s says.Round going = goes_fits c (record s { left = s.left - 1 }) going
hears_fits c s says.Stop going = refl
hears_fits c s says.Over going = refl
hears_fits c s says.Broken going = refl
hears_fits c s says.Go going = refl
hears_fits c s says.Silent going = no_end_yet s.phase going
hears_fits c s says.Senseless going = tells_fits c s (events_told (state_of s) says.Senseless) going
hears_fits c s (says.Busy p) going = tells_fits c s (events_told (state_of s) (says.Busy p)) going
hears_fits c s (says.Closed p) going = tells_fits c s (events_told (state_of s) (says.Closed p)) going
hears_fits c s (says.Idle p) going = tells_fits c s (events_told (state_of s) (says.Idle p)) going

pub turn_is : (c : Change) (s : Scene) (x : Said) → is_over s.phase ≡ false → turn c s x ≡ cond (may_say c s x) (hears c s x) (leaves c s answer.Bad [])
turn_is c s x going = ap (λ b. cond b (waits s) (cond (may_say c s x) (hears c s x) (leaves c s answer.Bad []))) going

pub turn_fits : (c : Change) (s : Scene) (x : Said) → is_over s.phase ≡ false → Fits (turn c s x)
turn_fits c s x going =
    subst Fits (sym (turn_is c s x going)) (either_fits (may_say c s x) (hears c s x) (leaves c s answer.Bad []) (hears_fits c s x going) refl)

-- the end of the input, and a fault, end it
pub over_ends : (c : Change) (s : Scene) → is_over s.phase ≡ false → is_end (turn c s says.Over).answer ≡ true
over_ends c s going = ap (λ (t : Turned). is_end t.answer) (turn_is c s says.Over going)

pub broken_ends : (c : Change) (s : Scene) → is_over s.phase ≡ false → is_end (turn c s says.Broken).answer ≡ true
broken_ends c s going = ap (λ (t : Turned). is_end t.answer) (turn_is c s says.Broken going)

pub holds_stands : (a : Answer) (d : Session) (es : List Event) (c : Change) → is_end a ≡ false → Holds a d es c → Stands d es
holds_stands answer.Waits d es c h holds = holds
holds_stands answer.Ready d es c h holds = holds
holds_stands answer.Committed d es c h holds = absurd (both_ways true h refl)
holds_stands answer.GivenUp d es c h holds = absurd (both_ways true h refl)
holds_stands (answer.Denied rule) d es c h holds = absurd (both_ways true h refl)
holds_stands answer.Bad d es c h holds = absurd (both_ways true h refl)
holds_stands answer.Unread d es c h holds = absurd (both_ways true h refl)
