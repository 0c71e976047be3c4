use Rattle.watch_view.proofs.Keeping.{looks}
use Rattle.watch_view.proofs.viewer.open.Goals as goal

pub enter_as-requires : goal.enter_as-requires
enter_as-requires g c = looks _ _
