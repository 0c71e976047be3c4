use Rattle.std.proofs.Common.{arith, rules}
use Rattle.txn_spec.specs.Steps.{HearsBy}
use Rattle.txn_gate.proofs.AsSeats as seats
use Rattle.txn_gate.proofs.steps.hear.Goals as goal

pub load-requires : goal.load-requires
load-requires c = (c.requires.here.same, (let w = c.requires.here.words in let few = c.place_of_port.ensures.few in omega arith), seats.hears _ _ c.args.seat.now.me c.requires.here.node c.args.port c.place_of_port.result c.place_of_port.ensures.place c.requires.port c.requires.may)

-- the message stands there, or not yet
pub returns : goal.returns
returns c =
    let tells = seats.told HearsBy c.args.seat.now.me _ _ c.args.port c.place_of_port.result c.place_of_port.ensures.place c.requires.port c.load.ensures.2 in
    record {
      here = search rules;
      done = λ says. seats.when _ _ _ _ tells.0 says;
      kept = λ says_not. seats.unless _ _ _ _ tells.0 says_not;
      shown = tells.1;
    }
