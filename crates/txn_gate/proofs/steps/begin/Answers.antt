use Rattle.std.proofs.Common.{arith, ◌==◌}
use Rattle.std.proofs.lemmas.Bool.{eq-eqb, ne_eqb}
use Rattle.txn_gate.proofs.AsSeats as seats
use Rattle.txn_gate.proofs.steps.begin.Goals as goal

pub compare_exchange-requires : goal.compare_exchange-requires
compare_exchange-requires g c = (c.requires.here.same, (let w = c.requires.here.words in let few = c.place_of_port.ensures.few in omega arith), seats.begins _ _ c.args.seat.now.me c.requires.here.node c.args.port c.place_of_port.result c.place_of_port.ensures.place c.requires.port c.args.value c.args.loaded c.args.asked _ c.requires.event c.requires.may c.requires.loaded.opened c.requires.loaded.linked.0 c.requires.loaded.linked.1 c.requires.loaded.unspent c.requires.asked)

-- found is the word that was loaded, or another
pub returns-clause-begun : goal.returns-clause-begun
returns-clause-begun g c same = seats.when (c.compare_exchange.result == c.args.loaded) _ _ _ (seats.exchanged c.args.loaded _ c.args.seat.now.me _ _ c.args.port c.place_of_port.result c.place_of_port.ensures.place c.requires.port c.compare_exchange.ensures.2).0 (eq-eqb c.compare_exchange.result c.args.loaded same)

pub returns-clause-kept : goal.returns-clause-kept
returns-clause-kept g c apart = seats.unless (c.compare_exchange.result == c.args.loaded) _ _ _ (seats.exchanged c.args.loaded _ c.args.seat.now.me _ _ c.args.port c.place_of_port.result c.place_of_port.ensures.place c.requires.port c.compare_exchange.ensures.2).0 (ne_eqb c.compare_exchange.result c.args.loaded apart)

pub returns-clause-shown : goal.returns-clause-shown
returns-clause-shown g c = (seats.exchanged c.args.loaded _ c.args.seat.now.me _ _ c.args.port c.place_of_port.result c.place_of_port.ensures.place c.requires.port c.compare_exchange.ensures.2).1
