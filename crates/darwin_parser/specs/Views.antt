-- What the program's parts of a component and its refusals stand for.
use Rattle.std.specs.Prelude.{ℕ, ◌-◌, map}
use Rattle.darwin_parser.specs.declared.cursor.Stop.{Stop}
use Rattle.darwin_parser.specs.declared.cursor.Stop.TheVariants as stops
use Rattle.darwin_parser.specs.declared.error.ParseError.{ParseError}
use Rattle.darwin_parser.specs.declared.error.ParseError.TheVariants as errors
use Rattle.darwin_parser.specs.declared.declarations.Item as code_item
use Rattle.darwin_parser.specs.declared.declarations.Parts as code_parts
use Rattle.darwin_parser.specs.Tree.{port_of, array_of, stmt_of}
use Rattle.darwin_parser.specs.Grammar.{Item, ports, arrays, statements, ComponentParts}

abbrev pub item_of : code_item.Item → Item
item_of (code_item.TheVariants.Ports v) = ports (map port_of v.items)
item_of (code_item.TheVariants.Arrays v) = arrays (map array_of v.items)
item_of (code_item.TheVariants.Statements v) = statements (map stmt_of v.items)

abbrev pub parts_of : code_parts.Parts → ComponentParts
parts_of p = record { ports = map port_of p.ports.items; arrays = map array_of p.arrays.items; body = map stmt_of p.body.items }

-- the refusal of so many tokens, by what was left of them
abbrev pub refusal_of : ℕ → Stop → ParseError
refusal_of count (stops.Expected left) = errors.Expected (count - left)
refusal_of count (stops.TooNested left) = errors.TooNested (count - left)
refusal_of count stops.NoMemory = errors.NoMemory
