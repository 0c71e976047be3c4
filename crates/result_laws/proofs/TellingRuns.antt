-- What the run of a script leaves is a report that can be written, and read again.
use Rattle.std.proofs.Common.{◌≡◌, ℕ, ℤ, true, List, Option}
use Rattle.std.specs.Prelude.{All, Ok}
use Rattle.std.specs.List.{AllByRecursion}
use Rattle.cfg_io.specs.Shelf.{Files}
use Rattle.config_graph.specs.Graph.{Graph}
use Rattle.config_graph.specs.GraphText.{IsOneWord}
use Rattle.config_graph.specs.declared.node.Node.{Node}
use Rattle.darwin_lexer.specs.declared.token.Token.{Token}
use Rattle.darwin_lexer.specs.Fronts.{front_of}
use Rattle.darwin_lexer.specs.Naming as naming
use Rattle.darwin_lexer.specs.Spelling.{Means}
use Rattle.darwin_lexer.specs.Tokens.{IsTokens}
use Rattle.darwin_parser.specs.Grammar.{IsUnit}
use Rattle.darwin_parser.specs.Tree.{Name, Tree}
use Rattle.elaborator.specs.Elaboration.{ElaboratesTo, HasNoFault}
use Rattle.report_types.specs.declared.script.Body.{Body}
use Rattle.report_types.specs.declared.script.Script.{Script}
use Rattle.change_script.specs.Paths.{is_name}
use Rattle.change_script.specs.ScriptFiles.{IsScript}
use Rattle.change_script.specs.ScriptLines.{LineMeans, meaning}
use Rattle.change_script.specs.StatementTexts.{IsInteger, IsWrittenPath}
use Rattle.report_texts.specs.ReportTexts.{IsReport}
use Rattle.report_texts.specs.declared.version.Version.TheVariants as versions
use Rattle.change_spec.specs.Scripts.{StatementsOf}
use Rattle.change_spec.specs.Statements.{Statement}
use Rattle.command_answers.specs.declared.status.Status.{Status}
use Rattle.command_spec.specs.Outcomes.{WasRunBy}
use Rattle.command_spec.specs.Schedules.{Schedule}
use Rattle.command_spec.specs.Scripts.{Elaborates}
use Rattle.result_laws.specs.Telling.{AreStated, HasWords, NumbersFit}
use Rattle.change_spec.specs.Consistent.{Consistent}
use Rattle.result_laws.proofs.TellingReports.{tells_itself}
use Rattle.result_laws.proofs.TellingScripts.{paths_words, script_stated}

-- Laws of the crates below, as they stand there.
module _
    (spelled : (text : List ℕ) → Means text (front_of text)) (named : (bytes : List ℕ) → is_name bytes ≡ true → naming.IsName bytes)
    (meant : (line : List ℕ) (body : Body) → meaning line ≡ Ok body → LineMeans line body)
    (words : (text : List ℕ) (tokens : List Token) (tree : Tree) (name : Name) (args : List ℤ) (g : Graph) → IsTokens text tokens → IsUnit text tokens tree → ElaboratesTo tree name args g → All (λ (n : Node). IsOneWord n.path) g.nodes)
    (paths : (text : List ℕ) (tokens : List Token) (tree : Tree) (name : Name) (args : List ℤ) (g : Graph) → IsTokens text tokens → IsUnit text tokens tree → AllByRecursion IsInteger args → HasNoFault tree name args
    → ElaboratesTo tree name args g → All (λ (n : Node). IsWrittenPath n.path) g.nodes) where
  elaborated_words : (files : Option Files) (file name : List ℕ) (args : List ℤ) (g : Graph) → AllByRecursion IsInteger args → Elaborates files file name args g → HasWords g
  elaborated_words files file name args g small e =
      let is = e.has_graph in
      let tree = is.checked.is_tree in
      paths_words g.nodes (words e.text tree.tokens is.tree name args g tree.parted tree.spelled is.is.is_graph)
      (paths e.text tree.tokens is.tree name args g tree.parted tree.spelled small is.is.no_fault is.is.is_graph)

  pub stated : (files : Option Files) (bytes : List ℕ) (script : Script) (statements : List Statement) → IsScript bytes script → StatementsOf (Elaborates files) script statements → AreStated statements
  stated files = script_stated spelled named meant (Elaborates files) (elaborated_words files)

  module _
      (consistent : (schedule : Schedule) (files : Option Files) (name : List ℕ) (own : Status) (ran : WasRunBy schedule files name own) → Consistent ran.statements ran.report) where
    pub ran_tells :
        (schedule : Schedule) (files : Option Files) (name : List ℕ) (own : Status) (ran : WasRunBy schedule files name own) → NumbersFit ran.report → IsReport versions.Second ran.report
    ran_tells schedule files name own ran fit =
        tells_itself ran.statements ran.report (stated files ran.is_script.bytes ran.script ran.statements ran.is_script.is_script ran.have_graphs)
        (consistent schedule files name own ran) fit
