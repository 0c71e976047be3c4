-- What each answer of a gate says of the port's word and of its own numbers.
use Rattle.std.specs.Prelude.{◌≡◌, ◌≢◌, ℕ, ◌<◌, ◌≤◌, Bool, true, false, not, ◌&&◌, length, Option, Some, None, is_none, is_some, option_map, ⊤}
use Rattle.config_graph.specs.Kinds.{row}
use Rattle.config_graph.specs.declared.TheConstants.{MAX_NODES}
use Rattle.config_graph.specs.declared.node.Target.{Target}
use Rattle.quiesce_word.specs.Phases.{is_asked, is_in_more}
use Rattle.quiesce_word.specs.Words.{is_message_to, is_missing, unpack}
use Rattle.quiesce_word.specs.declared.word.Word.{Word}
use Rattle.quiesce_core.specs.Rules.{last_serial, value_limit}
use Rattle.quiesce_core.specs.State.{State}
use Rattle.quiesce_core.specs.Words.{word_of}
use Rattle.quiesce_core.specs.Fields.{fields_of}
use Rattle.node_gate.specs.Looks.{WordShows}
use Rattle.node_gate.specs.Seats.{NodeAt}
use Rattle.node_gate.specs.declared.answers.BeginAnswer.{BeginAnswer}
use Rattle.node_gate.specs.declared.answers.BeginAnswer.TheVariants.{Again, Begun, Closed, Spent, Unlinked}
use Rattle.node_gate.specs.declared.answers.CallAnswer.{CallAnswer}
use Rattle.node_gate.specs.declared.answers.CallAnswer.TheVariants.{Called, Missed}
use Rattle.node_gate.specs.declared.answers.HearAnswer.{HearAnswer}
use Rattle.node_gate.specs.declared.answers.HearAnswer.TheVariants as hear
use Rattle.node_gate.specs.declared.answers.SeeAnswer.{SeeAnswer}
use Rattle.node_gate.specs.declared.answers.SeeAnswer.TheVariants as see
use Rattle.node_gate.specs.declared.answers.TakeAnswer.{TakeAnswer}
use Rattle.node_gate.specs.declared.answers.TakeAnswer.TheVariants.{Stale, Taken}

-- where the gate tells its state, a word is the one that the port has there
abbrev pub IsWordAt : Option State → ℕ → ℕ → Type 0
IsWordAt None p w = ⊤
IsWordAt (Some s) p w = w ≡ word_of s p

-- the word of a port at which its owner may begin: it is open, leads to a node, and isn't spent
abbrev pub may_begin : Word → Bool
may_begin w = not w.closed && not (is_missing w)

-- the cause of a refusal, by the word that it carries; a gate that tells its state answers it exactly where that
-- holds of the state
pub record HasWord (s : Option State) (p w : ℕ) (shows : Word → Bool) : Type 0 where
  pub cause : shows (unpack w) ≡ true
  pub there : IsWordAt s p w

-- where the gate tells its state, a target is the one to which the port is linked there
abbrev pub IsTargetAt : Option State → ℕ → ℕ → Type 0
IsTargetAt None p t = ⊤
IsTargetAt (Some s) p t = option_map (λ (x : Target). x.node) (fields_of s p).target ≡ Some t

-- and a port whose transactions are spent is open and linked
abbrev pub IsSpentAt : Option State → ℕ → Type 0
IsSpentAt None p = ⊤
IsSpentAt (Some s) p = ((fields_of s p).closed ≡ false) × (is_some (fields_of s p).target ≡ true) × ((fields_of s p).serial ≡ last_serial)

-- and what is seen is what its word shows
abbrev pub IsShownAt : Option State → ℕ → SeeAnswer → Type 0
IsShownAt None p answer = ⊤
IsShownAt (Some s) p answer = WordShows (fields_of s p) answer

abbrev pub BeginSays : Option State → ℕ → BeginAnswer → Type 0
BeginSays s p (Begun k t) = (k ≤ last_serial) × (t < MAX_NODES) × IsTargetAt s p t
BeginSays s p (Closed w) = HasWord s p w (λ x. x.closed)
BeginSays s p (Unlinked w) = HasWord s p w (λ x. not x.closed && is_none x.target)
BeginSays s p (Spent k) = (k ≡ last_serial) × IsSpentAt s p
BeginSays s p (Again l f) = (s ≡ None) × (may_begin (unpack l) ≡ true) × ((unpack f).closed ≡ false) × (f ≢ l)

abbrev pub CallSays : Option State → ℕ → CallAnswer → Type 0
CallSays s p (Called k t) = (k ≤ last_serial) × (t < MAX_NODES) × IsTargetAt s p t
CallSays s p (Missed w) = HasWord s p w is_missing

abbrev pub TakeSays : Option State → NodeAt → ℕ → TakeAnswer → Type 0
TakeSays s n p (Taken x k v) = (x < length (row n.kind).provides) × (k ≤ last_serial) × (v < value_limit)
TakeSays s n p (Stale w) = HasWord s p w (λ x. not (is_message_to n.slot x))

abbrev pub SeeSays : Option State → ℕ → SeeAnswer → Type 0
SeeSays s p (see.Answer v) = (v < value_limit) × IsShownAt s p (see.Answer v)
SeeSays s p (see.More v) = (v < value_limit) × IsShownAt s p (see.More v)
SeeSays s p (see.NotYet w) = HasWord s p w (λ x. is_asked x.phase)

abbrev pub HearSays : Option State → ℕ → HearAnswer → Type 0
HearSays s p (hear.Heard v) = v < value_limit
HearSays s p (hear.NotYet w) = HasWord s p w (λ x. is_in_more x.phase)
