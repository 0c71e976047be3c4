-- What the bytes give is answered, or refused for what refuses them.
use Rattle.std.proofs.Common.{[], inl, refl, subst, sym}
use Rattle.command_answers.specs.DescriptionFaults.{fault_words}
use Rattle.command_spec.specs.Commands.{Shown, shown}
use Rattle.command_spec.specs.Courses.{came, ends, gives, here, judges, refusal, refused, Follows}
use Rattle.command_spec.specs.Queries.{AnswersQuery, IsRefused}
use Rattle.command_spec.specs.Sorts.{of_description}
use Rattle.command_program.specs.Coming.{Shows}
use Rattle.command_program.specs.Refusals.{IsFaultOf}
use Rattle.command_program.proofs.ComingLaws.{stops_in}
use Rattle.command_program.proofs.describing.describe.Goals as goal

pub returns-in-Ok : goal.returns-in-Ok
returns-in-Ok c = λ files.
    let s = shown c.in-Ok.answer.status c.in-Ok.answer.text.items in
    (s, (refl, refl), gives s [] (came s) c.in-Ok.ensures.gives here)

pub returns-in-Err : goal.returns-in-Err
returns-in-Err c = λ files.
    let query = c.args.query.now in
    let text = c.args.text.now in
    let file = c.args.file.now in
    let course = judges Shown of_description file (IsRefused query text) (λ s. AnswersQuery query text s.own s.text) ends in
    stops_in Shows files course [] (IsFaultOf file c.in-Err.fault) c.refuse_description.result c.refuse_description.ensures
    (λ why is. subst (λ w. Follows files course [] (refusal w)) (sym is.1) (refused (fault_words c.in-Err.fault) (c.in-Err.ensures.refused is.0))) (inl refl)
