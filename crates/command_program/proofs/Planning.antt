-- What the parts of a description answer, as refusals.
use Rattle.std.proofs.Common.{ℕ, List}
use Rattle.command_answers.specs.DescriptionFaults.{MayRefuse, fault_words}
use Rattle.command_answers.specs.declared.error.DescriptionFault.{DescriptionFault}
use Rattle.command_spec.specs.Descriptions.{IsTextRefusal, by_text}
use Rattle.command_spec.specs.Plans.{has_no_graph}
use Rattle.command_spec.specs.Queries.{IsRefused}
use Rattle.command_spec.specs.declared.query.Query.{Query}
use Rattle.command_spec.specs.declared.query.Query.TheVariants as queries

-- a refusal by way of another
pub refused_through :
    (P Q : List (List ℕ) → Type 0) (e : DescriptionFault) → ((words : List (List ℕ)) → P words → Q words) → MayRefuse P e → MayRefuse Q e
refused_through P Q e leads refuses plain = leads (fault_words e) (refuses plain)

-- what reading refuses, whatever is wanted
pub reading_refused :
    (query : Query) (text : List ℕ) (e : DescriptionFault) → MayRefuse (IsTextRefusal text) e → MayRefuse (IsRefused query text) e
reading_refused (queries.Graph call) text e refuses plain = by_text (fault_words e) (refuses plain)
reading_refused (queries.Replay events) text e refuses plain = has_no_graph (fault_words e) (by_text (fault_words e) (refuses plain))
