use Rattle.std.proofs.Common.{inr}
use Rattle.change_plan.proofs.MoveLemmas.{kinds_differ, kinds_fit, leads_by}
use Rattle.change_plan.proofs.moving.shift_of.Goals as goal

pub returns-then-not-is_same_kind-clause-refused :
    goal.returns-then-not-is_same_kind-clause-refused
returns-then-not-is_same_kind-clause-refused c =
    let old = c.args.old.now in
    let new = c.args.new.now in
    let m = c.args.moved.now in
    let i = c.in-Some.source in
    let j = c.in-Some-gone_at.target in
    let leads = leads_by old new m c.as_bytes.result.now c.as_bytes-2.result.now i j c.as_bytes.ensures c.as_bytes-2.ensures c.in-Some.ensures.found c.in-Some-gone_at.ensures.found in
    let differ = kinds_differ old new m i j leads c.node.result.now c.node-2.result.now c.node.ensures c.node-2.ensures c.eq-is_same_kind.result c.eq-is_same_kind.ensures c.if-not-is_same_kind.true in
    λ before. inr (c.in_ok-from.ensures, c.in_ok-try_clone-3.ensures, differ)

pub returns-clause-fit : goal.returns-clause-fit
returns-clause-fit c =
    let old = c.args.old.now in
    let new = c.args.new.now in
    let m = c.args.moved.now in
    let i = c.in-Some.source in
    let j = c.in-Some-gone_at.target in
    let leads = leads_by old new m c.as_bytes.result.now c.as_bytes-2.result.now i j c.as_bytes.ensures c.as_bytes-2.ensures c.in-Some.ensures.found c.in-Some-gone_at.ensures.found in
    kinds_fit old new m i j leads c.node.result.now c.node-2.result.now c.node.ensures c.node-2.ensures c.eq-is_same_kind.result c.eq-is_same_kind.ensures c.if-not-is_same_kind.false
