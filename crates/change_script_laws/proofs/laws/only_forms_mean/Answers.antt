use Rattle.change_script_laws.proofs.FormLemmas.{one_form, means, too_big, bad}
use Rattle.change_script_laws.proofs.laws.only_forms_mean.Goals as goal

pub returns : goal.returns
returns c = record { one_form = one_form; means = means; too_big = too_big; bad = bad }
