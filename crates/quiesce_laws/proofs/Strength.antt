-- Runs after which a node is nearly settled, and not quiescent.
use Rattle.std.proofs.Common.{ℕ, true, List, [], ◌∷◌, ◌++◌, Some, None, refl}
use Rattle.std.specs.Prelude.{codes}
use Rattle.config_graph.specs.declared.kind.Kind.TheVariants as kind
use Rattle.config_graph.specs.declared.node.Node.{Node}
use Rattle.quiesce_core.specs.declared.event.Event.{Event}
use Rattle.quiesce_core.specs.declared.event.Event.TheVariants.{Begin, Call, Take, Close, Reopen, Make, Link}
use Rattle.quiesce_core.specs.Reach.{reaches, has_no_cycle}
use Rattle.quiesce_core.specs.Runs.{IsRun, state_after}
use Rattle.quiesce_core.specs.Settled.{Continues, Quiescent, Settled}
use Rattle.quiesce_core.proofs.RunLaws.{runs_are_well_formed, fronts_are_runs, run_if}
use Rattle.quiesce_core.proofs.SettledLaws.{settled_if}
use Rattle.quiesce_laws.specs.Continuing.{at_rest, may_come}
use Rattle.quiesce_laws.specs.Weaker.{but_own_busy, but_own_open, but_reaching_busy, but_indirect_open, Initiates, Begins, Serves, BecomesTarget, IsTooWeak}

abbrev source : Node
source = record { path = codes "a"; kind = kind.Source; arg = Some 1 }

abbrev map : Node
map = record { path = codes "b"; kind = kind.Map; arg = Some 1 }

abbrev sink : Node
sink = record { path = codes "c"; kind = kind.Sink; arg = None }

-- a source in slot 0 leads to a sink in slot 1
abbrev pair : List Event
pair = Make 0 source None ∷ Make 1 sink None ∷ Link 0 1 0 ∷ Reopen 0 ∷ []

-- a source in slot 0 leads to a map in slot 1, and this to a sink in slot 2
abbrev line : List Event
line = Make 0 source None ∷ Make 1 map None ∷ Make 2 sink None ∷ Link 0 1 0 ∷ Link 1 2 0 ∷ Reopen 0 ∷ []

abbrev asked : List Event
asked = pair ++ Begin 0 1 0 ∷ Close 0 ∷ []

abbrev taken : List Event
taken = pair ++ Begin 0 1 0 ∷ Close 0 ∷ Take 0 1 0 ∷ []

abbrev later : List Event
later = Begin 0 1 0 ∷ []

abbrev through : List Event
through = Begin 0 1 0 ∷ Take 0 1 0 ∷ Call 1 1 0 ∷ []

asked_runs : IsRun asked
unfolding reaches has_no_cycle
asked_runs = run_if asked refl

taken_runs : IsRun taken
unfolding reaches has_no_cycle
taken_runs = run_if taken refl

later_runs : IsRun (pair ++ later)
unfolding reaches has_no_cycle
later_runs = run_if (pair ++ later) refl

through_runs : IsRun (line ++ through)
unfolding reaches has_no_cycle
through_runs = run_if (line ++ through) refl

-- its port is closed, and in a transaction
pub own_must_be_idle : IsTooWeak but_own_busy Initiates
unfolding reaches
own_must_be_idle = record {
  run = asked;
  node = 0;
  runs = asked_runs;
  passes = refl;
  broken = record { port = 0; serial = 1; begun = record { before = pair; event = Begin 0 1 0; after = Close 0 ∷ []; parts = refl; begins = refl }; open_ = refl; initiated = refl };
}

-- its port is idle, and open
pub own_must_be_closed : IsTooWeak but_own_open Begins
unfolding reaches
own_must_be_closed = record {
  run = pair;
  node = 0;
  runs = fronts_are_runs pair later later_runs;
  passes = refl;
  broken = record {
    more_ = later;
    continues = record { runs = later_runs; closed = refl };
    port = 0;
    serial = 1;
    begun = record { before = []; event = Begin 0 1 0; after = []; parts = refl; begins = refl };
    owned = refl;
  };
}

-- a closed port that leads to it is in a transaction, and it services that
pub reaching_must_be_idle : IsTooWeak but_reaching_busy Serves
unfolding reaches
reaching_must_be_idle = record {
  run = taken;
  node = 1;
  runs = taken_runs;
  passes = refl;
  broken = record { what = record { port = 0; calls = 0; mores = 0; heard = true }; services = refl };
}

-- the port that leads to it is closed and idle, but its owner is asked through an open one, and calls it
pub indirect_must_be_closed : IsTooWeak but_indirect_open BecomesTarget
indirect_must_be_closed = record {
  run = line;
  node = 2;
  runs = fronts_are_runs line through through_runs;
  passes = refl;
  broken = record {
    more_ = through;
    continues = record { runs = through_runs; closed = refl };
    port = 1;
    serial = 1;
    begun = record { before = Begin 0 1 0 ∷ Take 0 1 0 ∷ []; event = Call 1 1 0; after = []; parts = refl; begins = refl };
    led = refl;
  };
}

-- a run after which a node is settled goes on with events of each kind that may come

going_on : IsRun (at_rest ++ may_come)
unfolding reaches has_no_cycle
going_on = run_if (at_rest ++ may_come) refl

pub goes_on : Settled (state_after at_rest) 5 × Continues at_rest may_come
unfolding reaches
goes_on =
    (settled_if (state_after at_rest) (runs_are_well_formed at_rest (fronts_are_runs at_rest may_come going_on)).sound 5 refl, record { runs = going_on; closed = refl })

-- a node of which one of these is true isn't quiescent
pub none_of_these : (es : List Event) (n : ℕ) → Quiescent es n → (Initiates es n → ⊥) × (Begins es n → ⊥) × (Serves es n → ⊥) × (BecomesTarget es n → ⊥)
none_of_these es n h = (
  (λ w. h.initiated_none w.port w.serial w.begun w.open_ w.initiated),
  (λ w. h.begins_none w.more_ w.continues w.port w.serial w.begun w.owned),
  (λ w. let e = w.services in let none_ = h.services_nothing in absurd (cc (e, none_))),
  (λ w. h.targets_none_later w.more_ w.continues w.port w.serial w.begun w.led),
)
