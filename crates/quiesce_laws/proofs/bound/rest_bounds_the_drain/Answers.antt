use Rattle.quiesce_laws.proofs.Bounding.{bound, bound_left, bound_ends}
use Rattle.quiesce_laws.proofs.bound.rest_bounds_the_drain.Goals as goal

pub returns-clause-of_the_open : goal.returns-clause-of_the_open
returns-clause-of_the_open c es more_ run = bound es more_ run

pub returns-clause-left_of_them : goal.returns-clause-left_of_them
returns-clause-left_of_them c es more_ run = bound_left es more_ run

pub returns-clause-ended : goal.returns-clause-ended
returns-clause-ended c es more_ run all p j before = bound_ends es more_ run all p j before
