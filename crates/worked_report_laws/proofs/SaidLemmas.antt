-- A script says its statements.
use Rattle.std.proofs.Common.{[], ◌∷◌, refl, arith}
use Rattle.std.specs.Prelude.{codes, pos}
use Rattle.change_plan.specs.Refusals.{CanPlan}
use Rattle.change_spec.specs.Scripts.{Above, StatementsOf, more_made, nothing_above}
use Rattle.change_spec.specs.Statements.{change, finish, run, start}
use Rattle.change_spec.proofs.PlanningLaws.{moves_lead_so, planned_so}
use Rattle.worked_report_laws.specs.Said.{elaborates, script}
use Rattle.change_plan_laws.specs.Systems.{line}
use Rattle.worked_report_laws.specs.Waited as waited

abbrev used : Above
used = record nothing_above { file = codes "line.dar" }

abbrev started : Above
started = record used { graph = line 10; made = more_made used.made 3 2 }

-- the map is made anew, with its port
can_plan : CanPlan (line 10) (line 20) [] started.made
can_plan = record {
  may_move = moves_lead_so (line 10) (line 20) [] refl;
  nodes = 1;
  ports = 1;
  wanted = record { created = 0 ∷ []; gone = (planned_so (line 10) (line 20) [] refl).steps.create; nodes_are = refl; ports_are = refl };
  room = record { nodes_fit = omega arith; ports_fit = omega arith };
}

abbrev changed : Above
changed = record started { graph = line 20; made = more_made started.made can_plan.nodes can_plan.ports }

pub said : StatementsOf elaborates script waited.script
said = record {
  own = [];
  rest = waited.script;
  next = used;
  says = (refl, refl);
  below = record {
    own = start (codes "Line") (pos 3 ∷ pos 10 ∷ []) (line 10) ∷ [];
    rest = run 1 ∷ change (codes "Line") (pos 3 ∷ pos 20 ∷ []) (line 20) 2 [] ∷ finish 100 ∷ [];
    next = started;
    says = record {
      graph = line 10;
      elaborates = (refl, refl, (10, refl, refl));
      room = record { nodes_fit = omega arith; ports_fit = omega arith };
      own_is = refl;
      next_is = refl;
    };
    below = record {
      own = run 1 ∷ [];
      rest = change (codes "Line") (pos 3 ∷ pos 20 ∷ []) (line 20) 2 [] ∷ finish 100 ∷ [];
      next = started;
      says = (refl, refl);
      below = record {
        own = change (codes "Line") (pos 3 ∷ pos 20 ∷ []) (line 20) 2 [] ∷ [];
        rest = finish 100 ∷ [];
        next = changed;
        says = record {
          graph = line 20;
          elaborates = (refl, refl, (20, refl, refl));
          can_plan = can_plan;
          own_is = refl;
          next_is = refl;
        };
        below = record {
          own = finish 100 ∷ [];
          rest = [];
          next = changed;
          says = (refl, refl);
          below = record { own = []; rest = []; next = changed; says = (refl, refl); below = refl; are = refl };
          are = refl;
        };
        are = refl;
      };
      are = refl;
    };
    are = refl;
  };
  are = refl;
}
