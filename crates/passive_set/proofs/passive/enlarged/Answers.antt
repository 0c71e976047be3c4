use Rattle.std.proofs.Common.{◌≡◌, ◌<◌, ◌∙◌, ◌↔◌, ℕ, All, Contains, arith, length}
use Rattle.std.proofs.lemmas.Result.{IfOk-weaker}
use Rattle.config_graph.specs.Cycles.{graph_wiring}
use Rattle.config_graph.specs.Enlarged.{Enlarged}
use Rattle.config_graph.specs.Wiring.{Reach}
use Rattle.passive_set.specs.Feeding.{FeedsMarked}
use Rattle.passive_set.proofs.FeedingLemmas.{Listed, members_are, Owns-reach}
use Rattle.passive_set.proofs.MarkLemmas.{marked_below}
use Rattle.passive_set.proofs.passive.enlarged.Goals as goal

pub returns-clause-members : goal.returns-clause-members
returns-clause-members c =
    let g = c.args.graph.now in
    let nodes = c.args.nodes.now in
    let start = c.in_ok-marks.marks.items in
    let first = c.in_ok-ports.ports.ports in
    let ports = c.add_dependent.new.set.ports in
    let marks = c.with_owners-marks.result.items in
    let marks_are : length start ≡ length g.nodes = c.in_ok-marks.ensures.length ∙ c.node_count.ensures.count in
    let linked : (p : ℕ) → Contains first p ↔ FeedsMarked g start (length start) p = rw c.deref.ensures.value at c.in_ok-ports.ensures.linked in
    let owned = Owns-reach g c.node_count.ensures.graph start marks_are (Contains nodes) c.in_ok-marks.ensures.marked first linked ports c.in_ok-add_dependent.ensures.closure in
    IfOk-weaker c.list_marked.result (Listed marks) (λ set. (i : ℕ) → Contains set.items i ↔ Enlarged g (Contains nodes) i) (λ set listed. members_are g nodes set.items ports start marks (λ i. (n : ℕ) × (require : ℕ) × Contains nodes n × Reach (graph_wiring g) n (record { node = i; require = require })) c.in_ok-marks.ensures.marked owned c.with_owners-marks.ensures.marked listed) (rw c.deref-2.ensures.value at c.list_marked.ensures.marked)

pub returns-clause-within : goal.returns-clause-within
returns-clause-within c =
    let marks = c.with_owners-marks.result.items in
    IfOk-weaker c.list_marked.result (Listed marks) (λ set. All (λ i. i < length c.args.graph.now.nodes) set.items) (λ set listed k d low. omega (arith, marked_below marks set.items listed k d low, c.with_owners-marks.ensures.length)) (rw c.deref-2.ensures.value at c.list_marked.ensures.marked)
