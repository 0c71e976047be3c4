use Rattle.std.proofs.Common.{◌≡◌, ◌++◌, ◌+◌, drop}
use Rattle.change_parts.specs.Parts.{ArePlansWithin}
use Rattle.command_answers.specs.PartTexts.{parts_text, parts_text_from}
use Rattle.command_answers.proofs.part_texts.parts_text.Given as goal

abbrev pub invariant-loop-part : goal.invariant-loop-part
invariant-loop-part l = record {
  counts : l.number ≡ l.part-index;
  within : ArePlansWithin l.stage (drop l.part-index l.parts);
  written : l.text.items ++ parts_text_from (l.part-index + 1) l.stage (drop l.part-index l.parts) ≡ parts_text l.old l.parts;
}
