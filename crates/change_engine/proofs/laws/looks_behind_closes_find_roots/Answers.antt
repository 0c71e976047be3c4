use Rattle.change_engine.proofs.Rooting.{busy_has_root, first_root, round_root}
use Rattle.change_engine.proofs.laws.looks_behind_closes_find_roots.Goals as goal

pub returns-clause-closed : goal.returns-clause-closed
returns-clause-closed c = busy_has_root

pub returns-clause-first : goal.returns-clause-first
returns-clause-first c = λ r ports within how f rec live is. first_root r ports within how rec live is f

pub returns-clause-rounds : goal.returns-clause-rounds
returns-clause-rounds c = λ r ports within how w f rec live is. round_root r ports within how rec live is w f
