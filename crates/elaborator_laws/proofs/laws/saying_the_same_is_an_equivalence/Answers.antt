use Rattle.elaborator_laws.specs.Reordering.{through}
use Rattle.elaborator_laws.proofs.Whole.{same_description-refl, same_description-sym}
use Rattle.elaborator_laws.proofs.laws.saying_the_same_is_an_equivalence.Goals as goal

pub returns-clause-itself : goal.returns-clause-itself
returns-clause-itself c = same_description-refl

pub returns-clause-turned : goal.returns-clause-turned
returns-clause-turned c = same_description-sym

pub returns-clause-onward : goal.returns-clause-onward
returns-clause-onward c = λ tree other third first second. through tree other third first second
