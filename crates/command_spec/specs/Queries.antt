-- To be believed (definitions.md).
-- What is wanted of a description: with which words its bytes are refused, and which status and text they give. And
-- those of a change.
use Rattle.std.specs.Prelude.{◌≡◌, ℕ, List}
use Rattle.config_graph.specs.Graph.{Graph}
use Rattle.config_graph.specs.GraphText.{graph_text}
use Rattle.command_words.specs.declared.words.TopCall.{TopCall}
use Rattle.command_words.specs.declared.words.Cut.{Cut}
use Rattle.command_words.specs.declared.words.Cut.TheVariants as cuts
use Rattle.command_spec.specs.declared.query.Query.{Query}
use Rattle.command_spec.specs.declared.query.Query.TheVariants as queries
use Rattle.command_answers.specs.declared.status.Status.{Status}
use Rattle.command_answers.specs.declared.status.Status.TheVariants as status
use Rattle.command_spec.specs.Descriptions.{HasGraph, IsDescriptionRefusal}
use Rattle.command_spec.specs.Plans.{IsPartsText, IsPlanText, IsRollText, RefusesStart}
use Rattle.command_spec.specs.Replays.{HasReplay}

-- the status and the text of a change, by how it is made
abbrev pub IsTextBy : Cut → TopCall → TopCall → Status → Graph → Graph → List ℕ → Type 0
IsTextBy cuts.Whole call target own old new written = (own ≡ status.Ok) × IsPlanText old new written
IsTextBy cuts.InParts call target own old new written = (own ≡ status.Ok) × IsPartsText old new written
IsTextBy (cuts.Rolled run within) call target own old new written = IsRollText run within call target own old new written

-- these words say why the bytes are refused
abbrev pub IsRefused : Query → List ℕ → List (List ℕ) → Type 0
IsRefused (queries.Graph call) text words = IsDescriptionRefusal text call.top call.args words
IsRefused (queries.Replay events_file) text words = RefusesStart text events_file.name events_file.args words

-- the bytes give this status and text
abbrev pub AnswersQuery : Query → List ℕ → Status → List ℕ → Type 0
AnswersQuery (queries.Graph call) text own written = (own ≡ status.Ok)
    × ((graph : Graph) × HasGraph text call.top call.args graph × (written ≡ graph_text graph))
AnswersQuery (queries.Replay events_file) text own written = HasReplay text events_file own written
