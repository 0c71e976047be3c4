use Rattle.std.proofs.Common.{◌≡◌, length}
use Rattle.std.specs.List.{list_all}
use Rattle.report_texts.specs.GraphTexts.{has_form}
use Rattle.report_texts.specs.TextLines.{lines}
use Rattle.report_texts.proofs.graphs.have_forms.Given as goal

-- Whether all of the text have one is left to the lines that are left.
abbrev pub invariant-lines : goal.invariant-lines
invariant-lines l = list_all has_form (lines l.left) ≡ list_all has_form (lines l.text)

abbrev pub decreases-lines : goal.decreases-lines
decreases-lines l = length l.left
