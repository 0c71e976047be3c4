-- A refusal of the parser is that of a token of the text.
use Rattle.std.proofs.Common.{Err, ap}
use Rattle.command_spec.specs.Descriptions.{by_grammar, by_nesting}
use Rattle.command_program.proofs.description.tree_of_tokens.Goals as goal

pub returns-in-Err-Expected-clause-refused : goal.returns-in-Err-Expected-clause-refused
returns-in-Err-Expected-clause-refused c _ =
    let step = c.in-Err-Expected in
    rw c.place_at.ensures (by_grammar c.args.tokens.now step.n c.requires.parted (step.ensures.unexpected step.n (ap Err step.field-0-is)))

pub returns-in-Err-TooNested-clause-refused : goal.returns-in-Err-TooNested-clause-refused
returns-in-Err-TooNested-clause-refused c _ =
    let step = c.in-Err-TooNested in
    rw c.place_at-in-Err-TooNested.ensures
    (by_nesting c.args.tokens.now step.n c.requires.parted (step.ensures.too_nested step.n (ap Err step.field-0-is)))
