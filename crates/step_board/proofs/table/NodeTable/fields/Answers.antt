use Rattle.std.proofs.Common.{◌∙◌, sym}
use Rattle.quiesce_core.proofs.WordLaws.{port_words_decode}
use Rattle.step_board.specs.Table.{machine}
use Rattle.step_board.proofs.table.NodeTable.fields.Goals as goal

pub returns-clause-fields : goal.returns-clause-fields
returns-clause-fields c = c.fields.ensures.fields ∙ sym (port_words_decode (machine c.args.self.now) c.made.ensures.well_formed c.args.port)
