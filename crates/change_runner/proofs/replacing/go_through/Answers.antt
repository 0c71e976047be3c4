use Rattle.std.proofs.Common.{◌≡◌, ◌++◌, ℕ, List, subst}
use Rattle.change_engine.specs.Calls.{HasLeft}
use Rattle.change_engine.specs.Draining.{WherePending, pending_items}
use Rattle.change_engine.specs.Passivating.{passivation_items}
use Rattle.change_engine.specs.declared.passivating.LeftRoot.{LeftRoot}
use Rattle.change_runner.proofs.replacing.go_through.Goals as goal

pub commit-requires : goal.commit-requires
commit-requires g c =
    let o = c.requires in
    let x = c.in-Ok.ensures.ok in
    record { passive = (o.0 ++ passivation_items x.closed x.how, o.1, x.opens o.0 o.1 c.args.graph o.2.is_open) }

pub abandon-requires : goal.abandon-requires
abandon-requires g c =
    let o = c.requires in
    let W = g.B.Board in
    let Left : ℕ → List LeftRoot → Type 0 = λ k left. (k ≡ c.args.within) × HasLeft W c.args.engine.now c.passivate.new.self c.args.plan c.args.within left in
    let x = (subst (WherePending Left) c.in_ok-left-in-Err.ensures.1 c.in-Err.ensures.pending).1 in
    record { pending = (o.0 ++ (passivation_items x.closed x.how ++ pending_items c.args.within c.in_ok-left-in-Err.left), o.1, c.args.graph, x.opens o.0 o.1 c.args.graph o.2.is_open) }

pub returns-in-Ok : goal.returns-in-Ok
returns-in-Ok g c = (c.passivate.new.self, c.in-Ok.ensures.ok, c.commit.ensures)

pub returns-in_ok-left-in-Err : goal.returns-in_ok-left-in-Err
returns-in_ok-left-in-Err g c =
    let W = g.B.Board in
    let Left : ℕ → List LeftRoot → Type 0 = λ k left. (k ≡ c.args.within) × HasLeft W c.args.engine.now c.passivate.new.self c.args.plan c.args.within left in
    (c.passivate.new.self, (subst (WherePending Left) c.in_ok-left-in-Err.ensures.1 c.in-Err.ensures.pending).1, c.abandon.ensures)
