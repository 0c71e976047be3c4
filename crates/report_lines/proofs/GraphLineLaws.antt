-- For the proofs of crates above: the lines of a graph's text, as they are written.
use Rattle.std.proofs.Common.{◌≡◌, ℕ, true, List, [], ◌∷◌, ◌++◌, Option, Some, IfSome, codes, refl, ap, ◌∙◌}
use Rattle.config_graph.specs.GraphText.{kind_text}
use Rattle.config_graph.specs.declared.kind.Kind.{Kind}
use Rattle.config_graph.specs.declared.node.Node.{Node}
use Rattle.report_writing.specs.Writing.{spaced}
use Rattle.change_script.specs.Written.{IsNumber}
use Rattle.report_lines.proofs.TextLaws.{lacks_at}
use Rattle.report_lines.specs.GraphLines.{node_in, node_of}
use Rattle.report_lines.specs.Parts.{words}
use Rattle.report_lines.specs.ReportLines.{lacks}
use Rattle.report_lines.proofs.EventLemmas.{words_of}
use Rattle.report_lines.proofs.MakeLemmas.{kind_of_written, kind_text_lacks}

-- `node PATH KIND(ARG)`
pub node_words : (path : List ℕ) (kind : Kind) (arg : Option ℕ) → lacks 32 path ≡ true → IfSome arg IsNumber
    → words (codes "node" ++ spaced (path ∷ kind_text kind arg ∷ [])) ≡ codes "node" ∷ path ∷ kind_text kind arg ∷ []
node_words path kind arg word small =
    words_of (codes "node") (path ∷ kind_text kind arg ∷ []) (lacks_at 32 (codes "node") refl)
    (lacks_at 32 path word, (lacks_at 32 (kind_text kind arg) (kind_text_lacks kind arg small), tt))

pub node_said : (node : Node) → lacks 32 node.path ≡ true → IfSome node.arg IsNumber → node_in (words (codes "node" ++ spaced (node.path ∷ kind_text node.kind node.arg ∷ []))) ≡ Some node
node_said node word small =
    ap node_in (node_words node.path node.kind node.arg word small) ∙ ap (node_of node.path) (kind_of_written node.kind node.arg small)

-- `port PATH.REQUIRE TARGET`
pub port_words : (port target : List ℕ) → lacks 32 port ≡ true → lacks 32 target ≡ true → words (codes "port" ++ spaced (port ∷ target ∷ [])) ≡ codes "port" ∷ port ∷ target ∷ []
port_words port target first second =
    words_of (codes "port") (port ∷ target ∷ []) (lacks_at 32 (codes "port") refl) (lacks_at 32 port first, (lacks_at 32 target second, tt))
