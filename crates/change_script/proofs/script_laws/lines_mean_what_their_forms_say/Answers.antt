use Rattle.change_script.proofs.ScriptFormLaws.{one_form, means, too_big, bad}
use Rattle.change_script.proofs.script_laws.lines_mean_what_their_forms_say.Goals as goal

pub returns : goal.returns
returns c = record { one_form = one_form; means = means; too_big = too_big; bad = bad }
