-- A command's word and `--help` ask for its form; else what stands behind the word is its body.
use Rattle.std.proofs.Common.{◌∷◌, ◌∙◌, [], Some, IfOk, ap, codes, map, refl, string_bytes, subst, arith}
use Rattle.std.proofs.lemmas.Bool.{false≢true}
use Rattle.command_words.specs.CommandLine.{for_help, HasBody, IsFound}
use Rattle.command_words.proofs.Bodies.{finds_ok, first_word}
use Rattle.command_words.proofs.reading.read_command.Goals as goal

pub returns-in-Some : goal.returns-in-Some
returns-in-Some c =
    for_help (Some c.in-Some.keyword)
    (ap (λ ws. c.args.first.now ∷ ws) (c.if-asks_help.ensures.0 refl) ∙ ap (λ w. w ∷ codes "--help" ∷ []) c.in-Some.ensures)

pub returns-in-Some-2 : goal.returns-in-Some-2
returns-in-Some-2 c =
    let words = c.args.words.now in
    finds_ok c.in-Some.keyword c.args.first.now (map string_bytes words) c.read_body.result c.in-Some.ensures
    (λ same. false≢true (c.if-asks_help.ensures.1 same))
    (subst (λ ws. IfOk c.read_body.result (IsFound (HasBody c.in-Some.keyword ws)))
    (first_word string_bytes words c.index-words-0.result c.as_str.result.now (omega (arith, c.requires)) c.index-words-0.is c.as_str.ensures.value)
    c.read_body.ensures)
