-- A fault that is no want of memory has its line.
use Rattle.std.proofs.Common.{◌≡◌, ◌∙◌, refl, sym}
use Rattle.command_answers.specs.Answers.{description}
use Rattle.command_answers.specs.DescriptionFaults.{fault_words}
use Rattle.command_program.specs.Refusals.{IsFaultOf}
use Rattle.command_program.proofs.ComingLaws.{stops_so}
use Rattle.command_program.proofs.files.refuse_description.Goals as goal

pub returns : goal.returns
returns c =
    let why = description c.args.file.now (fault_words c.args.fault.now) in
    stops_so (λ other. other ≡ why) (IsFaultOf c.args.file.now c.args.fault.now) c.stop_with.result
    (λ other is. (sym c.is_no_memory.ensures ∙ c.if-is_no_memory.false, is)) (c.stop_with.ensures why refl c.description_line.ensures)
