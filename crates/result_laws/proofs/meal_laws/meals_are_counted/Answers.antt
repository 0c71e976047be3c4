use Rattle.result_laws.proofs.Eating.{meals_counted}
use Rattle.result_laws.proofs.meal_laws.meals_are_counted.Goals as goal

pub returns : goal.returns
returns c = record { all = meals_counted }
