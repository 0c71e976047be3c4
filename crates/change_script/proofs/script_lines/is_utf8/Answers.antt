use Rattle.std.proofs.Common.{◌∙◌}
use Rattle.change_script.proofs.ScriptLineLemmas.{utf8_is}
use Rattle.change_script.proofs.script_lines.is_utf8.Goals as goal

pub returns : goal.returns
returns c = c.is_ok.ensures.value ∙ utf8_is c.args.bytes.now _ _ c.from_utf8.result c.from_utf8.ensures.cases
