-- What a seat may tell of the words that it loaded, and what each call loads.
use Rattle.std.specs.Prelude.{◌≡◌, ◌≢◌, ℕ, ◌+◌, ◌<◌, ◌≤◌, Bool, true, false, not, ◌==◌, ◌&&◌, ◌||◌, Option, Some, None, is_none, is_some}
use Rattle.std.specs.Option.{option_map_or}
use Rattle.config_graph.specs.declared.node.Target.{Target}
use Rattle.quiesce_word.specs.Phases.{is_answered, is_asked, is_in_more}
use Rattle.quiesce_word.specs.Words.{is_message_to, is_spent, unpack}
use Rattle.node_gate.specs.declared.answers.BeginAnswer.{BeginAnswer}
use Rattle.node_gate.specs.declared.answers.BeginAnswer.TheVariants.{Again, Begun, Closed, Spent, Unlinked}
use Rattle.node_gate.specs.declared.answers.CallAnswer.{CallAnswer}
use Rattle.node_gate.specs.declared.answers.CallAnswer.TheVariants.{Called, Missed}
use Rattle.node_gate.specs.declared.answers.HearAnswer.{HearAnswer}
use Rattle.node_gate.specs.declared.answers.HearAnswer.TheVariants as hear
use Rattle.node_gate.specs.declared.answers.SeeAnswer.{SeeAnswer}
use Rattle.node_gate.specs.declared.answers.SeeAnswer.TheVariants as see
use Rattle.node_gate.specs.declared.answers.TakeAnswer.{TakeAnswer}
use Rattle.node_gate.specs.declared.answers.TakeAnswer.TheVariants.{Stale, Taken}

-- a word that was loaded, in which of the seat's steps, and the other word that an exchange then found in its place,
-- if it did
pub record Load : Type 0 where
  pub word : ℕ
  pub found : Option ℕ
  pub step : ℕ

-- the load of a `take` or `hear`, with its port
pub record Led : Type 0 where
  pub port : ℕ
  pub load : Load

-- How many steps a seat made; of each of its own ports what `begin`, `call` or `see` last loaded; and the loads of
-- the last `take` and the last `hear`.
pub record Loads : Type 0 where
  pub steps : ℕ
  pub at : ℕ → Option Load
  pub take : Option Led
  pub hear : Option Led

-- a seat that tells its loads goes on so, and they changed so
abbrev pub TellsLoads : (Loads → Loads → Type 0) → Option Loads → Option Loads → Type 0
TellsLoads P None new = new ≡ None
TellsLoads P (Some old) None = ⊥
TellsLoads P (Some old) (Some new) = P old new

-- this was loaded in a step between these numbers, and shows that
pub record IsOfNow (shows : Load → Bool) (old new : ℕ) (load : Load) : Type 0 where
  pub after : old < load.step
  pub until : load.step ≤ new
  pub shown : shows load ≡ true

-- the last load of the node's port is of now
pub record IsLoaded (p : ℕ) (shows : Load → Bool) (old new : Loads) : Type 0 where
  pub load : Load
  pub there : new.at p ≡ Some load
  pub now : IsOfNow shows old.steps new.steps load

-- the last load of a `take` or `hear` was at this port, and is of now
pub record IsLed (p : ℕ) (shows : Load → Bool) (old new : ℕ) (o : Option Led) : Type 0 where
  pub led : Led
  pub there : o ≡ Some led
  pub port : led.port ≡ p
  pub now : IsOfNow shows old new led.load

-- a call loads at one port of the node's own
pub record LoadsAt (p : ℕ) (shows : Load → Bool) (old new : Loads) : Type 0 where
  pub loaded : IsLoaded p shows old new
  pub steps : old.steps ≤ new.steps
  pub others : (q : ℕ) → q ≢ p → new.at q ≡ old.at q
  pub take : new.take ≡ old.take
  pub hear : new.hear ≡ old.hear

-- a call loads as `take` does, as `hear` does, or nothing
pub record LoadsTake (p : ℕ) (shows : Load → Bool) (old new : Loads) : Type 0 where
  pub led : IsLed p shows old.steps new.steps new.take
  pub steps : old.steps ≤ new.steps
  pub ports : (q : ℕ) → new.at q ≡ old.at q
  pub hear : new.hear ≡ old.hear

pub record LoadsHear (p : ℕ) (shows : Load → Bool) (old new : Loads) : Type 0 where
  pub led : IsLed p shows old.steps new.steps new.hear
  pub steps : old.steps ≤ new.steps
  pub ports : (q : ℕ) → new.at q ≡ old.at q
  pub take : new.take ≡ old.take

pub record LoadsNothing (old new : Loads) : Type 0 where
  pub steps : old.steps ≤ new.steps
  pub ports : (q : ℕ) → new.at q ≡ old.at q
  pub take : new.take ≡ old.take
  pub hear : new.hear ≡ old.hear

-- ---- what the load of each answer shows

abbrev pub is_word : ℕ → Load → Bool
is_word w l = l.word == w

abbrev pub has_found : ℕ → Load → Bool
has_found f l = option_map_or (λ (x : ℕ). x == f) l.found false

-- the port leads to this node
abbrev pub leads_to : ℕ → Load → Bool
leads_to n l = option_map_or (λ (t : Target). t.node == n) (unpack l.word).target false

-- and through this provision
abbrev pub is_asked_through : ℕ → Load → Bool
is_asked_through x l = option_map_or (λ (t : Target). t.provide == x) (unpack l.word).target false

-- it is asked; it is open and linked, but spent
abbrev pub shows_asked : Load → Bool
shows_asked l = is_asked (unpack l.word).phase

abbrev pub shows_spent : Load → Bool
shows_spent l = not (unpack l.word).closed && is_some (unpack l.word).target && is_spent (unpack l.word)

-- what is begun has the serial after that of the port's word
abbrev pub is_next : ℕ → Load → Bool
is_next k l = (unpack l.word).serial + 1 == k

-- and no other word than that, which is open, was found
abbrev pub is_begun : ℕ → Load → Bool
is_begun k l = is_next k l && (not (unpack l.word).closed && is_none l.found)

-- a refusal has the word that was loaded, or the closed one that was found in its place
abbrev pub begin_shows : BeginAnswer → Load → Bool
begin_shows (Begun k t) l = leads_to t l && is_begun k l
begin_shows (Closed w) l = is_word w l || has_found w l
begin_shows (Unlinked w) l = is_word w l
begin_shows (Spent k) l = shows_spent l
begin_shows (Again i f) l = is_word i l && has_found f l

abbrev pub call_shows : CallAnswer → Load → Bool
call_shows (Called k t) l = leads_to t l && is_next k l
call_shows (Missed w) l = is_word w l

abbrev pub see_shows : SeeAnswer → Load → Bool
see_shows (see.Answer v) l = is_answered (unpack l.word).phase && (unpack l.word).value == v
see_shows (see.More v) l = is_in_more (unpack l.word).phase && (unpack l.word).value == v
see_shows (see.NotYet w) l = is_word w l

abbrev pub take_shows : ℕ → TakeAnswer → Load → Bool
take_shows n (Taken x k v) l = is_message_to n (unpack l.word)
    && (is_asked_through x l && ((unpack l.word).serial == k && (unpack l.word).value == v))
take_shows n (Stale w) l = is_word w l

abbrev pub hear_shows : HearAnswer → Load → Bool
hear_shows (hear.Heard v) l = shows_asked l && (unpack l.word).value == v
hear_shows (hear.NotYet w) l = is_word w l
