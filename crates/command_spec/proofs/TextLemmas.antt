-- The description is evaluated to its tokens and its tree.
use Rattle.std.proofs.Common.{◌≡◌, ℕ, zero, suc, ◌+◌, List, [], ◌∷◌, length, drop, Ok, refl, subst}
use Rattle.command_words.specs.BigFiles.{description}
use Rattle.command_spec.specs.Descriptions.{IsChecked}
use Rattle.darwin_lexer.specs.declared.token.Token.{Token}
use Rattle.darwin_lexer.specs.declared.front.Front.{Front}
use Rattle.darwin_lexer.specs.declared.front.Front.TheVariants.{End, Gap, Lexeme, Broken}
use Rattle.darwin_lexer.specs.Fronts.{front_of}
use Rattle.darwin_lexer.specs.Tokens.{IsTokens, Tokenizes, ended, gap, token, token_at}
use Rattle.darwin_parser.specs.Grammar.{IsUnit}
use Rattle.darwin_parser.specs.Reading as reading
use Rattle.darwin_parser.proofs.UnitLaws.{tree_read}
use Rattle.darwin_types.specs.Faults.{NoFault}
use Rattle.darwin_types.proofs.CheckTestLaws.{none_at_all}
use Rattle.command_spec.specs.MadeTrees.{made_tree}

-- the tokens from an offset on, in so many pieces at most, and where they end
abbrev Parting : Type 0
Parting = List Token × ℕ

abbrev with_token : Token → Parting → Parting
with_token t p = (t ∷ p.0, p.1)

-- the tokens of a front, and those after it, which stand so many bytes further on
abbrev parting_of : List ℕ → ℕ → Front → (ℕ → Parting) → Parting
parting_of text offset (Gap n) rest = rest n
parting_of text offset (Lexeme kind n) rest = with_token (token_at text offset kind n) (rest n)
parting_of text offset _ rest = ([], offset)

abbrev tokens_from : List ℕ → ℕ → ℕ → Parting
tokens_from text zero offset = ([], offset)
tokens_from text (suc fuel) offset = parting_of text offset (front_of (drop offset text)) (λ n. tokens_from text fuel (offset + n))

abbrev Parts : List ℕ → ℕ → Parting → Type 0
Parts text offset p = Tokenizes text offset p.1 p.0

parts_by :
    (text : List ℕ) (offset : ℕ) (rest : ℕ → Parting) → ((n : ℕ) → Parts text (offset + n) (rest n)) → (f : Front) → front_of (drop offset text) ≡ f
    → Parts text offset (parting_of text offset f rest)
parts_by text offset rest later (Gap n) is = gap offset n _ _ is (later n)
parts_by text offset rest later (Lexeme kind n) is = token offset n _ kind _ is (later n)
parts_by text offset rest later End is = ended offset
parts_by text offset rest later (Broken fault) is = ended offset

parts_from : (text : List ℕ) (fuel offset : ℕ) → Parts text offset (tokens_from text fuel offset)
parts_from text zero offset = ended offset
parts_from text (suc fuel) offset =
    parts_by text offset (λ n. tokens_from text fuel (offset + n)) (λ n. parts_from text fuel (offset + n)) (front_of (drop offset text)) refl

abbrev tokens : List Token
tokens = (tokens_from description 460 0).0

ends : (tokens_from description 460 0).1 ≡ length description
ends = refl

parted : IsTokens description tokens
parted = subst (λ n. Tokenizes description 0 n tokens) ends (parts_from description 460 0)

read : reading.unit description 32 16 tokens ≡ Ok (made_tree, [])
unfolding reading.sees reading.after reading.expect reading.sees_number reading.number reading.operator_at reading.operator reading.turns reading.turns_up_to reading.chain reading.comparison reading.operand_over reading.expr_over reading.nested_over reading.name reading.note_token reading.note reading.note_list reading.notes reading.param reading.param_list reading.params reading.simple reading.factor reading.nested reading.expr reading.body_over reading.bracketed reading.index reading.exprs reading.arg_list reading.args reading.last_args reading.single_after reading.element_after reading.instentry reading.port_end reading.bind_end reading.end_before reading.bindentry reading.instances reading.bindings reading.forall_over reading.when_over reading.block_over reading.listing reading.statement reading.block reading.port reading.ports_at reading.port_list reading.arrayentry reading.array_list reading.item reading.component reading.unit
read = refl

spelled : IsUnit description tokens made_tree
spelled = tree_read description tokens made_tree [] read

pub sound : NoFault made_tree
sound = none_at_all made_tree refl

pub checked : IsChecked description made_tree
checked = record { is_tree = record { tokens = tokens; parted = parted; spelled = spelled }; sound = sound }
