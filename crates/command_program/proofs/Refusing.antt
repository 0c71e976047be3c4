-- What refuses a description, from what the parts of its reading answer.
use Rattle.std.proofs.Common.{◌≡◌, ◌≢◌, false, ℕ, ℤ, List, Err, refl, subst, sym}
use Rattle.darwin_lexer.specs.declared.token.LexError.{LexError}
use Rattle.darwin_lexer.specs.declared.token.LexError.TheVariants as lexing
use Rattle.darwin_lexer.specs.declared.front.LexicalFault.TheVariants as fronts
use Rattle.darwin_lexer.specs.Tokens.{RefusesExactly}
use Rattle.command_answers.specs.declared.error.DescriptionFault.{DescriptionFault}
use Rattle.command_answers.specs.declared.error.DescriptionFault.TheVariants as fault
use Rattle.command_answers.specs.DescriptionFaults.{MayRefuse, is_no_memory}
use Rattle.darwin_parser.specs.Tree.{Tree}
use Rattle.darwin_types.specs.Faults.{HasFault}
use Rattle.darwin_types.specs.declared.error.TypeError.{TypeError}
use Rattle.darwin_types.specs.declared.error.TypeError.TheVariants as checking
use Rattle.elaborator.specs.Faults.{Faults}
use Rattle.elaborator.specs.declared.error.ElabError.{ElabError}
use Rattle.elaborator.specs.declared.error.ElabError.TheVariants as elaborating
use Rattle.command_spec.specs.Descriptions.{IsTree, IsChecked, IsTextRefusal, IsDescriptionRefusal, by_lexer, by_names, by_elaboration}
use Rattle.command_program.specs.Refusals.{NamesFault}

-- a refusal of the lexer
pub lexer_refuses :
    {T : Type 0} (text : List ℕ) (e : LexError)
    → RefusesExactly {T = T} text (Err e) fronts.BadByte → RefusesExactly {T = T} text (Err e) fronts.OpenComment
    → RefusesExactly {T = T} text (Err e) fronts.LongName → RefusesExactly {T = T} text (Err e) fronts.BigNumber
    → MayRefuse (IsTextRefusal text) (fault.Lex e)
lexer_refuses text (lexing.BadByte at) bad comment long big _ = by_lexer fronts.BadByte at ((bad at).0 refl)
lexer_refuses text (lexing.OpenComment at) bad comment long big _ = by_lexer fronts.OpenComment at ((comment at).0 refl)
lexer_refuses text (lexing.LongName at) bad comment long big _ = by_lexer fronts.LongName at ((long at).0 refl)
lexer_refuses text (lexing.BigNumber at) bad comment long big _ = by_lexer fronts.BigNumber at ((big at).0 refl)
lexer_refuses text lexing.NoMemory bad comment long big is = absurd (cc)

-- a refusal of the names of a tree
pub checker_refuses :
    (text : List ℕ) (tree : Tree) (e : TypeError) → (e ≢ checking.NoMemory → HasFault tree e) → IsTree text tree → MayRefuse (IsTextRefusal text) (fault.Check e)
checker_refuses text tree e faulty is memory = by_names tree e is (faulty (λ none. absurd (is_memory e none memory)))
  where
    is_memory : (e : TypeError) → e ≡ checking.NoMemory → is_no_memory (fault.Check e) ≢ false
    is_memory e none = rw none (λ is. cc)

-- a refusal of the elaboration of a tree
pub elaborator_refuses :
    (tree : Tree) (e : ElabError) (name : List ℕ) (args : List ℤ) → (e ≢ elaborating.NoMemory → Faults tree name args e)
    → MayRefuse (NamesFault tree name args) (fault.Elaborate e)
elaborator_refuses tree e name args faulty memory =
    record { fault = e; holds = faulty (λ none. absurd (is_memory e none memory)); are = refl }
  where
    is_memory : (e : ElabError) → e ≡ elaborating.NoMemory → is_no_memory (fault.Elaborate e) ≢ false
    is_memory e none = rw none (λ is. cc)

-- the same of a description, in which no name is at fault
pub description_refused :
    (text : List ℕ) (tree : Tree) (e : DescriptionFault) (name : List ℕ) (args : List ℤ) → MayRefuse (NamesFault tree name args) e → IsChecked text tree
    → MayRefuse (IsDescriptionRefusal text name args) e
description_refused text tree e name args may is plain =
    let named = may plain in
    subst (IsDescriptionRefusal text name args) (sym named.are) (by_elaboration tree named.fault is named.holds)
