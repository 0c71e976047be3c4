-- To be believed (definitions.md).
-- Which places hold which forks, and systems in which places alone lead to forks.
use Rattle.std.specs.Prelude.{◌≡◌, ◌≢◌, ◌⊎◌, ℕ, ◌<◌, Bool, true, false, not, ◌==◌, ◌&&◌, ◌||◌, List, [], ◌∷◌, Some, All, if◌then◌else◌, sum_by}
use Rattle.std.specs.List.{list_any}
use Rattle.std.specs.Option.{option_map_or}
use Rattle.component_trait.specs.States.{NodeState, Service}
use Rattle.config_graph.specs.declared.kind.Kind.{Kind}
use Rattle.config_graph.specs.declared.kind.Kind.TheVariants.{Fork, Place}
use Rattle.quiesce_word.specs.Phases.{is_idle}
use Rattle.quiesce_word.specs.declared.word.TheConstants.{LAST_SERIAL}
use Rattle.quiesce_core.specs.Runs.{state_after}
use Rattle.quiesce_core.specs.State.{State, exchange, gate, owner, slot, target}
use Rattle.quiesce_core.specs.declared.event.Event.{Event}
use Rattle.quiesce_core.specs.declared.state.Slot.{Slot}
use Rattle.report_types.specs.declared.report.HistoryLine.{HistoryLine}
use Rattle.report_types.specs.declared.report.Last.{Last}
use Rattle.report_types.specs.declared.report.Last.TheVariants as last
use Rattle.report_types.specs.declared.report.NodeLog.{NodeLog}
use Rattle.report_types.specs.declared.report.Report.{Report}
use Rattle.change_spec.specs.Statements.{Statement}
use Rattle.result_laws.specs.Coming.{come, is_granted}
use Rattle.result_laws.specs.Describing.{Describes, LinksAre, makes}

abbrev pub is_fork : Kind → Bool
is_fork Fork = true
is_fork _ = false

abbrev pub is_place : Kind → Bool
is_place Place = true
is_place _ = false

-- who leads to a fork is a place
abbrev pub forks_serve_places : Kind → Kind → Bool
forks_serve_places from to = not (is_fork to) || is_place from

-- in each description of the statements
abbrev pub AreTables : List Statement → Type 0
AreTables statements = All (Describes (LinksAre forks_serve_places)) statements

-- Whether a place has the fork that it asks for first, or the other one, by the answers that it got so far. It asks for
-- the first, for the other where it got that, gives the other back where it got it, and then the first. No place has a
-- second answer whose first one isn't 1.
abbrev pub has_by : (is_first : Bool) → List ℕ → Bool
has_by is_first [] = false
has_by is_first (a ∷ []) = is_first && a == 1
has_by is_first (a ∷ b ∷ []) = is_first || b == 1
has_by is_first (a ∷ b ∷ c ∷ []) = is_first && b == 1
has_by is_first (a ∷ b ∷ c ∷ d ∷ _) = false

-- the requirement that a place of this argument asks for first
abbrev pub asks_first : ℕ → ℕ
asks_first arg = if arg == 0 then 0 else 1

abbrev pub has_fork : NodeState → ℕ → Bool
has_fork n r = option_map_or (λ (w : Service). has_by (r == asks_first n.arg) w.answers) n.service false

-- the owner of port p holds the fork to which that leads: it has it, and has not begun to give it back
abbrev pub holds : List Event → ℕ → Bool
holds es p =
    is_idle (exchange (state_after es) p).phase
    && has_fork (come es (owner (state_after es).config p)) (gate (state_after es).config p).require

-- two ports that hold one fork are the same port
abbrev pub AreHeldOnce : List Event → Type 0
AreHeldOnce es = (p q n x y : ℕ) (m : Slot) → target (state_after es).config p ≡ Some (record { node = n; provide = x })
    → target (state_after es).config q ≡ Some (record { node = n; provide = y }) → slot (state_after es).config n ≡ Some m
    → m.node.kind ≡ Fork → holds es p ≡ true → holds es q ≡ true → p ≡ q

-- fork n is lent: the owner of a port that leads to it has it, or is granted what it asked there
pub record IsLent (es : List Event) (n : ℕ) : Type 0 where
  pub port : ℕ
  pub provide : ℕ
  pub leads : target (state_after es).config port ≡ Some (record { node = n; provide = provide })
  pub has : (has_fork (come es (owner (state_after es).config port)) (gate (state_after es).config port).require ≡ true) ⊎ (is_granted es port ≡ true)

-- each fork that isn't free is lent
abbrev pub AreLent : List Event → Type 0
AreLent es = (n : ℕ) (m : Slot) → slot (state_after es).config n ≡ Some m → m.node.kind ≡ Fork → (come es n).kept.count ≢ 0 → IsLent es n

-- each fork is free
abbrev pub AreFree : List Event → Type 0
AreFree es = (n : ℕ) (m : Slot) → slot (state_after es).config n ≡ Some m → m.node.kind ≡ Fork → (come es n).kept.count ≡ 0

-- no transaction is open
abbrev pub NothingIsOpenAt : List Event → Type 0
NothingIsOpenAt es = (p : ℕ) → is_idle (exchange (state_after es) p).phase ≡ true

-- ---- in a report

-- the last state of a fork is 1 where it is held, and 0 where it is free
abbrev pub not_free : Last → ℕ
not_free (last.State (n ∷ [])) = n
not_free _ = 0

-- how many forks aren't free at last, of those whose state went to no other
abbrev pub not_free_at : List HistoryLine → NodeLog → ℕ
not_free_at history l = if list_any (makes is_fork l.slot) history then not_free l.last else 0

abbrev pub forks_not_free : Report → ℕ
forks_not_free report = sum_by (not_free_at report.history) report.logs

-- no port has come to the last serial that there is
abbrev pub NoneSpent : State → Type 0
NoneSpent s = (p : ℕ) → (exchange s p).serial < LAST_SERIAL
