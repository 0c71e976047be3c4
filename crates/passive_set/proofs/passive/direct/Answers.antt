use Rattle.std.proofs.Common.{◌≡◌, ◌<◌, ◌∙◌, ◌↔◌, ℕ, All, Contains, arith, length}
use Rattle.std.proofs.lemmas.Result.{IfOk-weaker}
use Rattle.passive_set.specs.DirectSet.{Direct, IsLinkedTo}
use Rattle.passive_set.specs.Feeding.{FeedsMarked}
use Rattle.passive_set.proofs.FeedingLemmas.{Listed, members_are, Owns-linked}
use Rattle.passive_set.proofs.MarkLemmas.{marked_below}
use Rattle.passive_set.proofs.passive.direct.Goals as goal

pub returns-clause-members : goal.returns-clause-members
returns-clause-members c =
    let g = c.args.graph.now in
    let nodes = c.args.nodes.now in
    let start = c.in_ok-marks.marks.items in
    let ports = c.in_ok-ports.ports.ports in
    let marks = c.with_owners-marks.result.items in
    let marks_are : length start ≡ length g.nodes = c.in_ok-marks.ensures.length ∙ c.node_count.ensures.count in
    let linked : (p : ℕ) → Contains ports p ↔ FeedsMarked g start (length start) p = rw c.deref.ensures.value at c.in_ok-ports.ensures.linked in
    let owned = Owns-linked g c.node_count.ensures.graph start marks_are (Contains nodes) c.in_ok-marks.ensures.marked ports linked in
    IfOk-weaker c.list_marked.result (Listed marks) (λ set. (i : ℕ) → Contains set.items i ↔ Direct g (Contains nodes) i) (λ set listed. members_are g nodes set.items ports start marks (λ i. (n : ℕ) × Contains nodes n × IsLinkedTo g i n) c.in_ok-marks.ensures.marked owned c.with_owners-marks.ensures.marked listed) (rw c.deref-2.ensures.value at c.list_marked.ensures.marked)

pub returns-clause-within : goal.returns-clause-within
returns-clause-within c =
    let marks = c.with_owners-marks.result.items in
    IfOk-weaker c.list_marked.result (Listed marks) (λ set. All (λ i. i < length c.args.graph.now.nodes) set.items) (λ set listed k d low. omega (arith, marked_below marks set.items listed k d low, c.with_owners-marks.ensures.length)) (rw c.deref-2.ensures.value at c.list_marked.ensures.marked)
