use Rattle.std.proofs.Common.{◌∙◌, sym, ap, subst}
use Rattle.txn_records.specs.Entries.{config_of}
use Rattle.change_engine.specs.Passivating.{AreMadePorts, Passed, root_ports}
use Rattle.change_engine.proofs.Passing.{made_scanned, rounded}
use Rattle.change_engine.specs.Growing.{telling}
use Rattle.change_engine.proofs.passivating.make_round.Goals as goal

pub look_at-requires-clause-made : goal.look_at-requires-clause-made
look_at-requires-clause-made g c =
    let q = c.requires.made in
    let left = c.args.waiting.now.left.items in
    let m = made_scanned g.B.Board c.args.board.now c.scan.new.self (root_ports left) c.in_ok-scan.field-0 q.0 q.1 q.2 c.in_ok-scan.ensures.ok in
    (m.0, m.1, subst (AreMadePorts (config_of m.0)) (sym (c.deref-2.ensures.value ∙ c.list_ports.ensures.items ∙ ap root_ports c.deref.ensures.value)) m.2)

pub returns-clause-ok : goal.returns-clause-ok
returns-clause-ok g c =
    let W = g.B.Board in
    let a = c.args.board.now in
    let b = c.scan.new.self in
    let d = c.look_at.new.board in
    let i = c.args.history.now.items in
    let j = c.look_at.new.history.items in
    let left = c.args.waiting.now.left.items in
    let next_ = c.look_at.new.left.items in
    rounded W a b d i j left next_ c.in_ok-scan.field-0 c.in_ok-scan.ensures.ok
    (subst (λ ps. Passed W (telling b i) (telling d j) ps next_) (c.deref-2.ensures.value ∙ c.list_ports.ensures.items ∙ ap root_ports c.deref.ensures.value) c.look_at.ensures.passed)
