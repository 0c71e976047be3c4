use Rattle.std.proofs.Common.{length, ◌<◌, ◌+◌, ◌≤◌, sym, ap, subst, arith}
use Rattle.std.specs.Option.{option_map_or}
use Rattle.config_graph.specs.Kinds.{row}
use Rattle.config_graph.specs.Graph.{requires_of, requires_at}
use Rattle.elaborator.specs.Expansion.{expanded_of}
use Rattle.elaborator.specs.NodeOrder.{nodes_in}
use Rattle.elaborator.specs.Links.{AreFirstLinks}
use Rattle.elaborator.proofs.LinkLemmas.{kind_read}
use Rattle.elaborator.proofs.AllLinksLemmas.{first_links-skip, first_links-push, first_links-node}
use Rattle.elaborator.proofs.ReadLemmas.{kind_within, requirement_counted}
use Rattle.elaborator.proofs.links.add_links.Goals as goal
use Rattle.elaborator.proofs.links.add_links.Goals.{in-Some+in_ok-push, in_default}

pub index-requires : goal.index-requires
index-requires c =
    let e = expanded_of c.args.expansion.now in
    let n = c.args.nodes.now in
    omega (arith, n.kinds.ok.0, kind_within e (nodes_in e n.instances.items) n c.args.from c.requires.nodes c.requires.within)

pub target_of-requires-clause-required : goal.target_of-requires-clause-required
target_of-requires-clause-required c =
    let e = expanded_of c.args.expansion.now in
    let n = c.args.nodes.now in
    requirement_counted e (nodes_in e n.instances.items) n c.args.from c.loop-require.require c.index.result.now c.requires.nodes c.requires.within c.index.ensures (omega (arith, c.requires_-require-end.ensures, c.loop-require-test.true))

pub loop-require-preserved : goal.loop-require-preserved
loop-require-preserved c = λ top is_of first.
    let tree = (expanded_of c.args.expansion.now).tree in
    let nodes = nodes_in (expanded_of c.args.expansion.now) c.args.nodes.now.instances.items in
    let from = c.args.from in
    let require = c.loop-require.require in
    let so_far = c.loop-require.invariant top is_of first in
    elim c.match-target_of.branch [
      | in-Some+in_ok-push w ↦
          let is_target = rw w.in-Some.is at (c.target_of.ensures top is_of) in
          subst (λ ls. AreFirstLinks tree top nodes from (require + 1) ls.items) (sym w.links-is) (first_links-push tree top nodes from require c.loop-require.links.items w.push.new.self.items w.in-Some.target so_far is_target w.in_ok-push.ensures.items)
      | in_default w ↦
          let none = rw w.in_default.is at (c.target_of.ensures top is_of) in
          subst (λ ls. AreFirstLinks tree top nodes from (require + 1) ls.items) (sym w.links-is) (first_links-skip tree top nodes from require c.loop-require.links.items so_far none)
    ]

pub returns : goal.returns
returns c = λ top is_of first.
    let nodes = nodes_in (expanded_of c.args.expansion.now) c.args.nodes.now.instances.items in
    let are = c.requires.nodes in
    let within : c.args.from < length nodes = omega (arith, c.requires.within, are.same_length) in
    let node = kind_read (expanded_of c.args.expansion.now) nodes c.args.nodes.now c.args.from c.index.result.now are within c.index.ensures in
    let count = ap (λ kind. length (row kind).requires_) node.2 in
    let all : requires_at nodes c.args.from ≤ c.loop-require.require = omega (arith, ap (λ o. option_map_or requires_of o 0) node.1, count, c.requires_-require-end.ensures, c.loop-require-test.false) in
    first_links-node (expanded_of c.args.expansion.now).tree top nodes c.args.from c.loop-require.require c.loop-require.links.items all (c.loop-require.invariant top is_of first)
