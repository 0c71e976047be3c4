-- The words of a fault of an elaboration, and what refuses for a fault.
use Rattle.std.specs.Prelude.{◌≡◌, false, ℕ, ℤ, List}
use Rattle.darwin_parser.specs.Tree.{Name, Tree}
use Rattle.elaborator.specs.Faults.{Faults}
use Rattle.elaborator.specs.declared.error.ElabError.{ElabError}
use Rattle.command_answers.specs.Answers.{Refusal, description}
use Rattle.command_answers.specs.DescriptionFaults.{fault_words, is_no_memory}
use Rattle.command_answers.specs.RefusalLines.{elaborate_words}
use Rattle.command_answers.specs.declared.error.DescriptionFault.{DescriptionFault}
use Rattle.command_answers.specs.declared.status.Status.{Status}
use Rattle.command_program.specs.declared.answer.Answer.{Answer}

-- these words name a fault of the component with these arguments
pub record NamesFault (tree : Tree) (name : Name) (args : List ℤ) (words : List (List ℕ)) : Type 0 where
  pub fault : ElabError
  pub holds : Faults tree name args fault
  pub are : words ≡ elaborate_words fault

-- the answer is this line, with this status
pub record IsLine (own : Status) (line : List ℕ) (answer : Answer) : Type 0 where
  pub status_is : answer.status ≡ own
  pub text_is : answer.text.items ≡ line

-- a description is refused for a fault, which is none of memory
abbrev pub IsFaultOf : List ℕ → DescriptionFault → Refusal → Type 0
IsFaultOf file fault why = (is_no_memory fault ≡ false) × (why ≡ description file (fault_words fault))
