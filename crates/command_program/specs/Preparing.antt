-- What the preparation of a script comes to.
use Rattle.std.specs.Prelude.{◌≡◌, List, Some}
use Rattle.change_spec.specs.Asked.{CanDoAll, CanStart, after_start, statements_of}
use Rattle.change_spec.specs.Statements.{Statement}
use Rattle.command_spec.specs.Lines.{Progress}
use Rattle.command_program.specs.declared.preparing.Prepared.{Prepared}
use Rattle.command_program.specs.declared.way.Way.{Way}

-- the statements of what is asked for
abbrev pub statements_in : Prepared → List Statement
statements_in asked = statements_of asked.start asked.steps.items

-- lines led to what is asked for
abbrev pub IsPrepared : Prepared → Progress → Type 0
IsPrepared asked p = p.statements ≡ statements_in asked

-- what is asked for may be run
abbrev pub CanRun : Prepared → Type 0
CanRun asked = CanStart asked.start × CanDoAll (after_start asked.start) asked.steps.items

-- what a way asked for
abbrev pub IsAskedBy : Way → Prepared → Type 0
IsAskedBy way asked = (way.start ≡ Some asked.start) × (way.steps ≡ asked.steps)
