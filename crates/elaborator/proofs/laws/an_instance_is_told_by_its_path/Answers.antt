use Rattle.elaborator.proofs.InstanceLaws.{told-by_path}
use Rattle.elaborator.proofs.laws.an_instance_is_told_by_its_path.Goals as goal

pub returns : goal.returns
returns c = λ tree name arguments top is_top none i j inst other deep deep' same.
    told-by_path tree name arguments top is_top none i j inst other deep deep' same
