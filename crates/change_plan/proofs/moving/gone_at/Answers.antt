use Rattle.std.proofs.Common.{◌≡◌, ◌∙◌, Some, sym}
use Rattle.config_graph.specs.Graph.{index_of}
use Rattle.change_plan.proofs.MoveLemmas.{found_gone, found_not_gone, missing_not_gone}
use Rattle.change_plan.proofs.NodeLaws.{if_none, read_found}
use Rattle.change_plan.proofs.moving.gone_at.Goals as goal

pub returns-in_err-index-clause-missing : goal.returns-in_err-index-clause-missing
returns-in_err-index-clause-missing c =
    if_none c.from_residual.result _ (missing_not_gone c.args.graph.now c.args.other.now c.args.path.now (sym c.index_of.ensures ∙ c.in_err-index.was))

pub returns-in-None-clause-found : goal.returns-in-None-clause-found
returns-in-None-clause-found c =
    let g = c.args.graph.now in
    let i = c.in_ok-index.index in
    let node = c.index-nodes-index.result in
    let found : index_of g.nodes c.args.path.now ≡ Some i = sym c.index_of.ensures ∙ c.in_ok-index.was in
    let here = read_found g.nodes c.nodes-nodes.result.now c.args.path.now i node c.nodes-nodes.ensures.nodes found c.index-nodes-index.is in
    found_gone g c.args.other.now c.args.path.now i node found here c.in-None.ensures.missing

pub returns-in-Some-clause-missing : goal.returns-in-Some-clause-missing
returns-in-Some-clause-missing c =
    let g = c.args.graph.now in
    let i = c.in_ok-index.index in
    let node = c.index-nodes-index.result in
    let found : index_of g.nodes c.args.path.now ≡ Some i = sym c.index_of.ensures ∙ c.in_ok-index.was in
    let here = read_found g.nodes c.nodes-nodes.result.now c.args.path.now i node c.nodes-nodes.ensures.nodes found c.index-nodes-index.is in
    found_not_gone g c.args.other.now c.nodes-nodes.ensures.graph c.args.path.now i c.in-Some.field-0 node found here c.in-Some.ensures.found
