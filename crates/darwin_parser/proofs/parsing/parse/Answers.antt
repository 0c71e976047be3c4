use Rattle.std.proofs.Common.{◌≡◌, length, Ok, Err, ap, sym, ◌∙◌}
use Rattle.darwin_parser.specs.Tree.{tree_of}
use Rattle.darwin_parser.specs.Views.{refusal_of}
use Rattle.darwin_parser.proofs.UnitLaws.{one_tree, tree_read, not_unexpected, not_too_nested}
use Rattle.darwin_parser.proofs.Answered.{err_is, stopped_unit, stopped_unexpected, every_unexpected, stopped_nested, every_nested}
use Rattle.darwin_parser.proofs.parsing.parse.Goals as goal
use Rattle.darwin_parser.proofs.parsing.parse.Goals.{In-Ok, After-numbered}

pub returns-in-Ok-clause-unit : goal.returns-in-Ok-clause-unit
returns-in-Ok-clause-unit c = tree_read c.args.text.now c.args.tokens.now (tree_of c.in-Ok.unit) c.unit.new.tokens.rest.now c.in-Ok.ensures

pub returns-in-Ok-clause-every_unit : goal.returns-in-Ok-clause-every_unit
returns-in-Ok-clause-every_unit c = λ tree unit.
    ap Ok (one_tree c.args.text.now 32 16 c.args.tokens.now (tree_of c.in-Ok.unit) tree (tree_read c.args.text.now c.args.tokens.now (tree_of c.in-Ok.unit) c.unit.new.tokens.rest.now c.in-Ok.ensures) unit)

pub returns-in-Ok-clause-every_unexpected : goal.returns-in-Ok-clause-every_unexpected
returns-in-Ok-clause-every_unexpected c = λ n is. absurd
    (not_unexpected c.args.text.now c.args.tokens.now (tree_of c.in-Ok.unit) n (tree_read c.args.text.now c.args.tokens.now (tree_of c.in-Ok.unit) c.unit.new.tokens.rest.now c.in-Ok.ensures) is)

pub returns-in-Ok-clause-every_too_nested : goal.returns-in-Ok-clause-every_too_nested
returns-in-Ok-clause-every_too_nested c = λ n is. absurd
    (not_too_nested c.args.text.now c.args.tokens.now (tree_of c.in-Ok.unit) n (tree_read c.args.text.now c.args.tokens.now (tree_of c.in-Ok.unit) c.unit.new.tokens.rest.now c.in-Ok.ensures) is)

numbered_is : (c : After-numbered) → c.numbered.result ≡ refusal_of (length c.args.tokens.now) c.in-Err.stop
numbered_is c = c.numbered.ensures

pub returns-in-Err-clause-every_unit : goal.returns-in-Err-clause-every_unit
returns-in-Err-clause-every_unit c = λ tree unit other. absurd
    (other (numbered_is c ∙ stopped_unit c.args.text.now c.args.tokens.now c.in-Err.stop c.in-Err.ensures tree unit))

pub returns-in-Err-clause-unexpected : goal.returns-in-Err-clause-unexpected
returns-in-Err-clause-unexpected c = λ n is. stopped_unexpected c.args.text.now c.args.tokens.now c.in-Err.stop c.in-Err.ensures n (sym (numbered_is c) ∙ err_is _ _ is)

pub returns-in-Err-clause-every_unexpected : goal.returns-in-Err-clause-every_unexpected
returns-in-Err-clause-every_unexpected c = λ n is ne.
    ap Err (numbered_is c ∙ every_unexpected c.args.text.now c.args.tokens.now c.in-Err.stop c.in-Err.ensures n is (λ e. ne (numbered_is c ∙ e)))

pub returns-in-Err-clause-too_nested : goal.returns-in-Err-clause-too_nested
returns-in-Err-clause-too_nested c = λ n is. stopped_nested c.args.text.now c.args.tokens.now c.in-Err.stop c.in-Err.ensures n (sym (numbered_is c) ∙ err_is _ _ is)

pub returns-in-Err-clause-every_too_nested : goal.returns-in-Err-clause-every_too_nested
returns-in-Err-clause-every_too_nested c = λ n is ne.
    ap Err (numbered_is c ∙ every_nested c.args.text.now c.args.tokens.now c.in-Err.stop c.in-Err.ensures n is (λ e. ne (numbered_is c ∙ e)))
