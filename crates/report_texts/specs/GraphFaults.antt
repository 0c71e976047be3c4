-- What is at fault in a text that is no graph's: the first line that can't stand where it does, or a cycle.
use Rattle.std.specs.Prelude.{◌≡◌, ◌+◌, ◌&&◌, ℕ, Bool, true, if◌then◌else◌, List, [], ◌∷◌, bytes_eq, is_some, length, slice_get, Option, Some, None}
use Rattle.std.specs.Option.{option_map_or, option_or}
use Rattle.config_graph.specs.Cycles.{FirstOnCycle}
use Rattle.config_graph.specs.Graph.{Graph}
use Rattle.config_graph.specs.GraphText.{graph_text}
use Rattle.config_graph.specs.declared.node.Node.{Node}
use Rattle.report_lines.specs.GraphLines.{node_in, target_in}
use Rattle.report_lines.specs.Parts.{words}
use Rattle.report_texts.specs.GraphTexts.{comes_before, drawn, is_sound_node}
use Rattle.report_texts.specs.TextLines.{lines, tail}
use Rattle.report_texts.specs.declared.graph_texts.GraphFault.{GraphFault}
use Rattle.report_texts.specs.declared.graph_texts.GraphFault.TheVariants as faults

-- whether a node is sound, and its path comes after that of the last node before it
abbrev pub node_fits : Option Node → Node → Bool
node_fits before node = is_sound_node node && option_map_or (λ last. comes_before last node) before true

-- whether a line is that of such a node, or of a port
abbrev pub line_fits : Option Node → List ℕ → Bool
line_fits before line = option_map_or (node_fits before) (node_in (words line)) (is_some (target_in (words line)))

-- the last node once a line was read
abbrev pub last_after : Option Node → List ℕ → Option Node
last_after before line = option_map_or Some (node_in (words line)) before

-- the number of the first line that doesn't fit, where the first of these has this number
abbrev pub first_bad : ℕ → Option Node → List (List ℕ) → Option ℕ
first_bad number before [] = None
first_bad number before (line ∷ more) =
    if line_fits before line then first_bad (number + 1) (last_after before line) more else Some number

-- the same of the first line in which two texts differ, or that one of them lacks
abbrev pub first_unlike : ℕ → List (List ℕ) → List (List ℕ) → Option ℕ
first_unlike number [] [] = None
first_unlike number [] (other ∷ others) = Some number
first_unlike number (line ∷ more) [] = Some number
first_unlike number (line ∷ more) (other ∷ others) =
    if bytes_eq line other then first_unlike (number + 1) more others else Some number

-- the number of a line that isn't ended, where the first bytes without a line feed would have this number
abbrev pub open_end : ℕ → List ℕ → Option ℕ
open_end number [] = None
open_end number (byte ∷ bytes) = Some number

-- The first line at fault: one that doesn't fit; or else bytes behind the last line feed; or else a line that the graph
-- which the lines draw has otherwise: a port is left out or named otherwise, or nothing is there to which it is linked.
abbrev pub line_at_fault : List ℕ → Option ℕ
line_at_fault text =
    option_or (first_bad 1 None (lines text))
    (option_or (open_end (length (lines text) + 1) (tail text)) (first_unlike 1 (lines text) (lines (graph_text (drawn (lines text))))))

-- the first node on a cycle is named by its path
pub data IsFirstCycle (graph : Graph) : GraphFault → Type 0 where
  first_cycle :
      (place : ℕ) (node : Node) → FirstOnCycle graph place → slice_get graph.nodes place ≡ Some node
      → IsFirstCycle graph (faults.DependsCycle node.path)

pub data IsGraphFault (text : List ℕ) : GraphFault → Type 0 where
  by_line : (number : ℕ) → line_at_fault text ≡ Some number → IsGraphFault text (faults.BadLine number)
  by_cycle :
      (fault : GraphFault) → line_at_fault text ≡ None → IsFirstCycle (drawn (lines text)) fault → IsGraphFault text fault
