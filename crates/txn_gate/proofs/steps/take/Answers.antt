use Rattle.std.proofs.Common.{arith, rules}
use Rattle.txn_spec.specs.Steps.{TakesBy}
use Rattle.txn_gate.proofs.AsSeats as seats
use Rattle.txn_gate.proofs.steps.take.Goals as goal

pub load-requires : goal.load-requires
load-requires c = (c.requires.here.same, (let w = c.requires.here.words in let few = c.place_of_port.ensures.few in omega arith), seats.takes _ _ c.args.seat.now.me c.requires.here.node c.args.port c.place_of_port.result c.place_of_port.ensures.place c.requires.may)

-- it is asked of the node, or not
pub returns : goal.returns
returns c =
    let tells = seats.told TakesBy c.args.seat.now.me _ _ c.args.port c.place_of_port.result c.place_of_port.ensures.place c.requires.may.made c.load.ensures.2 in
    record {
      here = search rules;
      done = λ says. seats.when _ _ _ _ tells.0 says;
      kept = λ says_not. seats.unless _ _ _ _ tells.0 says_not;
      shown = tells.1;
    }
