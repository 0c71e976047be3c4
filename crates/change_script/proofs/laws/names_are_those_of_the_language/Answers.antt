use Rattle.change_script.proofs.NameLemmas.{name_is}
use Rattle.change_script.proofs.laws.names_are_those_of_the_language.Goals as goal

pub returns : goal.returns
returns c = name_is
