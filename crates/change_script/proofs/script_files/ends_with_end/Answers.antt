use Rattle.change_script.proofs.ScriptFileLaws.{ends_at}
use Rattle.change_script.proofs.script_files.ends_with_end.Goals as goal
use Rattle.std.proofs.Common.{◌∙◌, sym}

pub returns-in-Some : goal.returns-in-Some
returns-in-Some c = c.is_stop.ensures ∙ sym (ends_at c.args.lines.now c.in-Some.line.now (sym c.in-Some.ensures.value))
