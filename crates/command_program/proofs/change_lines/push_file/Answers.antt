-- The bytes of a string are UTF-8.
use Rattle.std.proofs.Common.{◌∙◌, subst}
use Rattle.std.specs.Str.{IsUtf8}
use Rattle.std.proofs.lemmas.Str.{IsUtf8-string_bytes}
use Rattle.command_program.proofs.change_lines.push_file.Goals as goal

pub returns-clause-utf8 : goal.returns-clause-utf8
returns-clause-utf8 c = subst IsUtf8 (c.in_ok-name.ensures.ok ∙ c.as_str.ensures) (IsUtf8-string_bytes c.in_ok-name.name)
