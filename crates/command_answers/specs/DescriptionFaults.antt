-- Faults of a description as the program has them, and the words that name them.
use Rattle.std.specs.Prelude.{◌≡◌, ℕ, Bool, true, false, List, []}
use Rattle.darwin_lexer.specs.declared.token.LexError.TheVariants as lexing
use Rattle.darwin_types.specs.declared.error.TypeError.TheVariants as checking
use Rattle.elaborator.specs.declared.error.ElabError.TheVariants as elaborating
use Rattle.change_plan.specs.declared.error.PlanError.TheVariants as planning
use Rattle.command_answers.specs.declared.error.DescriptionFault.{DescriptionFault}
use Rattle.command_answers.specs.declared.error.DescriptionFault.TheVariants as fault
use Rattle.command_answers.specs.RefusalLines.{lex_words, expected_words, too_nested_words, check_words, elaborate_words, plan_words}

abbrev pub fault_words : DescriptionFault → List (List ℕ)
fault_words fault.NoMemory = []
fault_words (fault.Lex e) = lex_words e
fault_words (fault.Expected at) = expected_words at
fault_words (fault.TooNested at) = too_nested_words at
fault_words (fault.Check e) = check_words e
fault_words (fault.Elaborate e) = elaborate_words e
fault_words (fault.Plan e) = plan_words e

-- whether it is want of memory, and no fault of the description
abbrev pub is_no_memory : DescriptionFault → Bool
is_no_memory fault.NoMemory = true
is_no_memory (fault.Lex lexing.NoMemory) = true
is_no_memory (fault.Check checking.NoMemory) = true
is_no_memory (fault.Elaborate elaborating.NoMemory) = true
is_no_memory (fault.Plan planning.NoMemory) = true
is_no_memory _ = false

-- the words of a fault are such as refuse, unless it is want of memory
abbrev pub MayRefuse : (List (List ℕ) → Type 0) → DescriptionFault → Type 0
MayRefuse Refuse f = is_no_memory f ≡ false → Refuse (fault_words f)
