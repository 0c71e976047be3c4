use Rattle.quiesce_laws.proofs.Bounding.{bound_all, bound_all_left}
use Rattle.quiesce_laws.proofs.bound.rest_bounds_all.Goals as goal

pub returns-clause-all : goal.returns-clause-all
returns-clause-all c es more_ run no_begin = bound_all es more_ run no_begin

pub returns-clause-left : goal.returns-clause-left
returns-clause-left c es more_ run no_begin = bound_all_left es more_ run no_begin
