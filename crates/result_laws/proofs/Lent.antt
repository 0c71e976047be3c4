-- To which port each fork was lent last, and what shows that a place has the fork to which its port leads.
use Rattle.std.proofs.Common.{◌≡◌, ◌∙◌, ℕ, true, false, List, [], Option, Some, None, refl, sym, ap}
use Rattle.std.specs.Prelude.{◌==◌, ◌||◌, option_and_then}
use Rattle.std.specs.Option.{option_map_or}
use Rattle.std.proofs.lemmas.Bool.{both_ways}
use Rattle.config_graph.specs.declared.kind.Kind.{Kind}
use Rattle.config_graph.specs.declared.kind.Kind.TheVariants.{Fork, Place}
use Rattle.config_graph.specs.declared.node.Target.{Target}
use Rattle.component_trait.specs.Fold.{asked_by}
use Rattle.component_trait.specs.Moves as moves
use Rattle.component_trait.specs.States.{NodeState}
use Rattle.component_trait.specs.declared.next.Ask.{Ask as Request}
use Rattle.quiesce_word.specs.declared.word.TheConstants.{LAST_SERIAL}
use Rattle.quiesce_word.specs.Phases.{is_answered, is_asked, is_idle, is_in_more}
use Rattle.quiesce_word.specs.declared.phase.Phase.{Phase}
use Rattle.quiesce_word.specs.declared.phase.Phase.TheVariants as phase
use Rattle.quiesce_word.proofs.PhaseLaws.{answered_busy, asked_busy}
use Rattle.quiesce_core.specs.Rules.{is_taken}
use Rattle.quiesce_core.specs.Runs.{state_after}
use Rattle.quiesce_core.specs.State.{Configuration, State, exchange, gate, owner, slot, target}
use Rattle.quiesce_core.specs.declared.event.Event.{Event}
use Rattle.quiesce_core.specs.declared.state.Exchange.{Exchange}
use Rattle.quiesce_core.specs.declared.state.Slot.{Slot}
use Rattle.result_laws.specs.Coming.{come}
use Rattle.result_laws.specs.Holding.{has_fork, is_place}
use Rattle.result_laws.proofs.Dining.{ask_value, reply_of}

-- a node in no service asks nothing
pub asks_none_at_rest : (n : NodeState) → n.service ≡ None → ask_value n ≡ 0
asks_none_at_rest n none_ = ap (λ o. option_map_or (λ (a : Request). a.value) (asked_by (option_and_then (moves.next_in n) o)) 0) none_

-- a place at a port that leads to a fork
pub record Joined (c : Configuration) (p : ℕ) (t : Target) : Type 0 where
  pub leads : target c p ≡ Some t
  pub from : Slot
  pub from_there : slot c (owner c p) ≡ Some from
  pub is_place_ : from.node.kind ≡ Place
  pub into : Slot
  pub into_there : slot c t.node ≡ Some into
  pub is_fork_ : into.node.kind ≡ Fork

-- how far the port has come, with whom the fork was lent
pub record LentAt (s : State) (f : ℕ → NodeState) (lent : ℕ → Option ℕ) (p : ℕ) (t : Target) : Type 0 where
  pub none_replied : is_in_more (exchange s p).phase ≡ false
  pub value : is_asked (exchange s p).phase ≡ true → (exchange s p).value ≡ ask_value (f (owner s.config p))
  pub before_ : is_taken s p ≡ false → is_answered (exchange s p).phase ≡ false → has_fork (f (owner s.config p)) (gate s.config p).require ≡ true → lent t.node ≡ Some p
  pub taken : is_taken s p ≡ true → ask_value (f (owner s.config p)) ≡ 1 → reply_of (f t.node) ≡ 1 → lent t.node ≡ Some p
  pub answered : is_answered (exchange s p).phase ≡ true → ask_value (f (owner s.config p)) ≡ 1 → (exchange s p).value ≡ 1 → lent t.node ≡ Some p

-- what shows that the fork to which a port leads is its owner's, or is to be
pub data Claims (s : State) (f : ℕ → NodeState) (p : ℕ) (to : Target) : Type 0 where
  keeps : is_taken s p ≡ false → is_answered (exchange s p).phase ≡ false → has_fork (f (owner s.config p)) (gate s.config p).require ≡ true → Claims s f p to
  gets : is_taken s p ≡ true → ask_value (f (owner s.config p)) ≡ 1 → reply_of (f to.node) ≡ 1 → Claims s f p to
  got : is_answered (exchange s p).phase ≡ true → ask_value (f (owner s.config p)) ≡ 1 → (exchange s p).value ≡ 1 → Claims s f p to

pub record HeldBy (s : State) (f : ℕ → NodeState) (n : ℕ) : Type 0 where
  pub port : ℕ
  pub to : Target
  pub at : to.node ≡ n
  pub joined : Joined s.config port to
  pub claims : Claims s f port to

-- each fork that isn't free is held by some port
abbrev pub AllHeld : List Event → Type 0
AllHeld es = (n : ℕ) (m : Slot) → slot (state_after es).config n ≡ Some m → m.node.kind ≡ Fork → ((come es n).kept.count == 0) ≡ false → HeldBy (state_after es) (come es) n

-- no port has come to its last serial
abbrev pub AreSpare : State → Type 0
AreSpare s = (p : ℕ) → ((exchange s p).serial == LAST_SERIAL) ≡ false

pub same_claims : (s t : State) (f g : ℕ → NodeState) (p : ℕ) (to : Target) → exchange t p ≡ exchange s p → is_taken t p ≡ is_taken s p → owner t.config p ≡ owner s.config p → (gate t.config p).require ≡ (gate s.config p).require
    → g (owner s.config p) ≡ f (owner s.config p) → g to.node ≡ f to.node → Claims s f p to → Claims t g p to
same_claims s t f g p to ex took own req first second (keeps u a h) = keeps (took ∙ u) (ap (λ (x : Exchange). is_answered x.phase) ex ∙ a) ((λ i. has_fork (g (own i)) (req i)) ∙ ap (λ n. has_fork n (gate s.config p).require) first ∙ h)
same_claims s t f g p to ex took own req first second (gets u a r) = gets (took ∙ u) (ap (λ i. ask_value (g i)) own ∙ ap ask_value first ∙ a) (ap reply_of second ∙ r)
same_claims s t f g p to ex took own req first second (got u a v) = got (ap (λ (x : Exchange). is_answered x.phase) ex ∙ u) (ap (λ i. ask_value (g i)) own ∙ ap ask_value first ∙ a) (ap (λ (x : Exchange). x.value) ex ∙ v)

pub record Forks (es : List Event) : Type 0 where
  pub lent : ℕ → Option ℕ
  pub counted : (n q : ℕ) (m : Slot) → slot (state_after es).config n ≡ Some m → m.node.kind ≡ Fork → lent n ≡ Some q → ((come es n).kept.count == 0) ≡ false
  pub ports : (p : ℕ) (t : Target) → Joined (state_after es).config p t → LentAt (state_after es) (come es) lent p t

pub no_forks : Forks []
no_forks = record { lent = λ n. None; counted = λ n q m there. absurd (cc there); ports = λ p t j. absurd (cc j.leads) }

-- where neither the port, nor its owner and its fork, nor to whom that was lent changes
pub same_lent : (s t : State) (f g : ℕ → NodeState) (lent lent' : ℕ → Option ℕ) (p : ℕ) (to : Target) → exchange t p ≡ exchange s p → is_taken t p ≡ is_taken s p → owner t.config p ≡ owner s.config p → (gate t.config p).require ≡ (gate s.config p).require
    → g (owner s.config p) ≡ f (owner s.config p) → g to.node ≡ f to.node → lent' to.node ≡ lent to.node → LentAt s f lent p to → LentAt t g lent' p to
same_lent s t f g lent lent' p to ex took own req first second same w = record {
  none_replied = ap (λ (x : Exchange). is_in_more x.phase) ex ∙ w.none_replied;
  value = λ h. ap (λ (x : Exchange). x.value) ex ∙ w.value (sym (ap (λ (x : Exchange). is_asked x.phase) ex) ∙ h) ∙ sym (ap ask_value n_is);
  before_ = λ u a h. same ∙ w.before_ (sym took ∙ u) (sym (ap (λ (x : Exchange). is_answered x.phase) ex) ∙ a) (sym ((λ i. has_fork (n_is i) (req i))) ∙ h);
  taken = λ u v r. same ∙ w.taken (sym took ∙ u) (sym (ap ask_value n_is) ∙ v) (sym (ap reply_of second) ∙ r);
  answered = λ a v r. same ∙ w.answered (sym (ap (λ (x : Exchange). is_answered x.phase) ex) ∙ a) (sym (ap ask_value n_is) ∙ v) (sym (ap (λ (x : Exchange). x.value) ex) ∙ r);
}
  where
    n_is : g (owner t.config p) ≡ f (owner s.config p)
    n_is = ap g own ∙ first

-- where the place has nothing there and the port is idle
pub free_lent : (s : State) (f : ℕ → NodeState) (lent : ℕ → Option ℕ) (p : ℕ) (to : Target) → is_idle (exchange s p).phase ≡ true → is_taken s p ≡ false → has_fork (f (owner s.config p)) (gate s.config p).require ≡ false → LentAt s f lent p to
free_lent s f lent p to idle untaken none_ = record {
  none_replied = by (exchange s p).phase idle;
  value = λ h. absurd (both_ways (is_idle (exchange s p).phase) (asked_busy (exchange s p).phase h) idle);
  before_ = λ u a h. absurd (both_ways (has_fork (f (owner s.config p)) (gate s.config p).require) none_ h);
  taken = λ u v r. absurd (both_ways (is_taken s p) untaken u);
  answered = λ a v r. absurd (both_ways (is_idle (exchange s p).phase) (answered_busy (exchange s p).phase a) idle);
}
  where
    by : (x : Phase) → is_idle x ≡ true → is_in_more x ≡ false
    by phase.Idle h = refl
    by phase.Asked h = refl
    by phase.Answered h = refl
    by phase.More h = absurd (both_ways false refl h)

pub place_if : (k : Kind) → (false || is_place k) ≡ true → k ≡ Place
place_if Place h = refl
place_if k h = cc h
