use Rattle.std.proofs.Common.{◌∙◌, ◌+◌, ◌≡◌, ◌++◌, [], drop, Ok, Err, refl, ap, arith}
use Rattle.std.specs.Int.{w32, cast_signed, cast_unsigned}
use Rattle.std.proofs.lemmas.List.{drop_all}
use Rattle.std.proofs.lemmas.Grind.{common_steps}
use Rattle.darwin_parser.specs.Tree.{stmt_of, stmts_of, expr_of}
use Rattle.darwin_walk.specs.Spine.{env_of}
use Rattle.darwin_walk.specs.Environment.{env_at}
use Rattle.darwin_walk.specs.Reached.{integers_to, turns, with_variable, reached_by, reached_in}
use Rattle.darwin_walk.proofs.TreeLaws.{stmt_of-Forall, stmt_of-When}
use Rattle.darwin_walk.proofs.Sizes.{stmt_size, stmts_size, stmts_of-drop, stmt_size-below}
use Rattle.darwin_walk.proofs.WalksLemmas.{Walks-exit, Walks-append, Walks-stop, Walks-none, Walks-turn, Walks-turn-stop, Walks-turn-many, Walks-turns-many, Walks-forall, Walks-forall-stop, Walks-when, env_at-push}
use Rattle.darwin_walk.proofs.walking.+statements.Goals as goal

pub statement-returns-in_err-all-in-Forall : goal.statement-returns-in_err-all-in-Forall
statement-returns-in_err-all-in-Forall t c =
    let a = c.in-Forall in
    let e = c.in_err-all-in-Forall.field-0.0 in
    let s = c.args.scope.now in
    let w = c.args.walked.now in
    let env = env_at c.args.env.now in
    Walks-exit s (reached_by (stmt_of c.args.stmt.now) env) w w e _ c.from_residual.ensures.1
    (Walks-forall-stop s env a.var (expr_of a.low) (expr_of a.high) (stmts_of a.body.items) a.at _ w w e
    (ap stmt_of a.is ∙ stmt_of-Forall _ _ _ a.body _) c.in_err-all-in-Forall.ensures)

pub statement-returns-in_ok-all-in-Forall : goal.statement-returns-in_ok-all-in-Forall
statement-returns-in_ok-all-in-Forall t c =
    let a = c.in-Forall in
    let range = c.in_ok-all-in-Forall in
    Walks-forall c.args.scope.now (env_at c.args.env.now) a.var (expr_of a.low) (expr_of a.high) (stmts_of a.body.items) a.at
    (integers_to range.all.low range.all.high) (stmt_of c.args.stmt.now) c.args.walked.now c.turn_all.new.walked c.turn_all.result
    (ap stmt_of a.is ∙ stmt_of-Forall _ _ _ a.body _) range.ensures.0 range.ensures.1 (rw c.deref.ensures.value at c.turn_all.ensures)

pub statement-returns-in_ok-holds-in-When : goal.statement-returns-in_ok-holds-in-When
statement-returns-in_ok-holds-in-When t c =
    let a = c.in-When in
    let test = c.in_ok-holds-in-When in
    Walks-when c.args.scope.now (env_at c.args.env.now) (expr_of a.test) (stmts_of a.body.items) a.at test.holds
    (stmt_of c.args.stmt.now) c.args.walked.now c.when.new.walked c.when.result
    (ap stmt_of a.is ∙ stmt_of-When _ a.body _) test.ensures.0 test.ensures.1 (rw c.deref-in-When.ensures.value at c.when.ensures)

pub statement-turn_all-requires : goal.statement-turn_all-requires
statement-turn_all-requires t c =
    let a = c.in-Forall in (
      omega (
        arith,
        c.decreases,
        ap stmt_size (ap stmt_of a.is ∙ stmt_of-Forall _ _ _ a.body _),
        ap (λ xs. stmts_size (stmts_of xs)) c.deref.ensures.value,
      ),
      c.requires,
    )

pub statement-when-requires : goal.statement-when-requires
statement-when-requires t c =
    let a = c.in-When in (
      omega (
        arith,
        c.decreases,
        ap stmt_size (ap stmt_of a.is ∙ stmt_of-When _ a.body _),
        ap (λ xs. stmts_size (stmts_of xs)) c.deref-in-When.ensures.value,
      ),
      c.requires,
    )

pub statements-statement-requires : goal.statements-statement-requires
statements-statement-requires t c =
    (omega (arith, c.decreases, stmt_size-below c.args.body.now c.loop-stmt.stmt-index c.stmt-item.result c.loop-stmt-test.true c.stmt-item.is), c.requires)

pub statements-loop-stmt-preserved : goal.statements-loop-stmt-preserved
statements-loop-stmt-preserved t c =
    λ new r rest.
    c.loop-stmt.invariant new r
    (rw (stmts_of-drop c.args.body.now c.loop-stmt.stmt-index c.stmt-item.result c.loop-stmt-test.true c.stmt-item.is)
    (Walks-append c.args.scope.now (reached_by (stmt_of c.stmt-item.result) (env_at c.args.env.now))
    (reached_in (stmts_of (drop (c.loop-stmt.stmt-index + 1) c.args.body.now)) (env_at c.args.env.now))
    c.loop-stmt.walked c.statement.new.walked new r c.in_ok-statement.ensures rest))

pub statements-returns-in_err-statement : goal.statements-returns-in_err-statement
statements-returns-in_err-statement t c =
    let e = c.in_err-statement.field-0.0 in
    Walks-exit c.args.scope.now (reached_in (stmts_of c.args.body.now) (env_at c.args.env.now)) c.args.walked.now c.statement.new.walked e _
    c.from_residual.ensures.1
    (c.loop-stmt.invariant c.statement.new.walked (Err e)
    (rw (stmts_of-drop c.args.body.now c.loop-stmt.stmt-index c.stmt-item.result c.loop-stmt-test.true c.stmt-item.is)
    (Walks-stop c.args.scope.now (reached_by (stmt_of c.stmt-item.result) (env_at c.args.env.now))
    (reached_in (stmts_of (drop (c.loop-stmt.stmt-index + 1) c.args.body.now)) (env_at c.args.env.now))
    c.loop-stmt.walked c.statement.new.walked c.statement.new.walked e c.in_err-statement.ensures)))

pub statements-returns : goal.statements-returns
statements-returns t c =
    let none : drop c.loop-stmt.stmt-index c.args.body.now ≡ [] = drop_all _ c.args.body.now c.loop-stmt-test.false in
    c.loop-stmt.invariant c.loop-stmt.walked (Ok tt) (rw none (Walks-none c.args.scope.now c.loop-stmt.walked))

pub turn_all-returns : goal.turn_all-returns
turn_all-returns t c =
    c.loop-value.invariant.rest c.loop-value.walked (Ok tt)
    (rw c.in_default.ensures.taken (Walks-none c.args.scope.now c.loop-value.walked))

pub turn_all-loop-value-preserved : goal.turn_all-loop-value-preserved
turn_all-loop-value-preserved t c =
    let some = c.in-Some.ensures in
    let before = env_of c.args.env.now.parameters.now in
    let env : before ++ env_of c.deref.result.now ≡ with_variable (env_at c.args.env.now) c.args.name.now c.in-Some.value =
    env_at-push before c.args.env.now.variables.now c.loop-value.variables.items c.push.new.self.items c.deref.result.now
    (record { name = c.args.name; value = cast_signed w32 (cast_unsigned w32 c.in-Some.value) }) c.in-Some.value
    c.loop-value.invariant.same c.in_ok-push.ensures.items c.deref.ensures.value refl c.in-Some.ensures.fits in
    record {
      rest = λ new r after.
          c.loop-value.invariant.rest new r
          (rw some.taken
          (Walks-turn c.args.scope.now (stmts_of c.args.body.now) (env_at c.args.env.now) c.args.name.now c.in-Some.value
          (integers_to c.take_next.new.self.low c.take_next.new.self.high) c.loop-value.walked c.count_one.new.walked c.statements.new.walked
          new r c.in_ok-count_one.ensures.1.0 c.in_ok-count_one.ensures.1.1 (rw env at c.in_ok-statements.ensures) after));
      same = grind (arith, common_steps, c.pop.ensures.rest, c.in_ok-push.ensures.items, c.loop-value.invariant.same);
    }

pub turn_all-returns-in_err-check_room : goal.turn_all-returns-in_err-check_room
turn_all-returns-in_err-check_room t c =
    let e = c.in_err-check_room.field-0.0 in
    let zs = integers_to c.args.left.low c.args.left.high in
    Walks-exit c.args.scope.now (turns (stmts_of c.args.body.now) (env_at c.args.env.now) c.args.name.now zs)
    c.args.walked.now c.args.walked.now e _ c.from_residual.ensures.1
    (Walks-turns-many c.args.scope.now (stmts_of c.args.body.now) (env_at c.args.env.now) c.args.name.now zs
    c.args.walked.now c.args.walked.now e c.in_err-check_room.ensures)

pub turn_all-returns-in_err-count_one : goal.turn_all-returns-in_err-count_one
turn_all-returns-in_err-count_one t c =
    let e = c.in_err-count_one.field-0.0 in
    Walks-exit c.args.scope.now (turns (stmts_of c.args.body.now) (env_at c.args.env.now) c.args.name.now (integers_to c.args.left.low c.args.left.high))
    c.args.walked.now c.count_one.new.walked e _ c.from_residual-in_err-count_one.ensures.1
    (c.loop-value.invariant.rest c.count_one.new.walked (Err e)
    (rw c.in-Some.ensures.taken
    (Walks-turn-many c.args.scope.now (stmts_of c.args.body.now) (env_at c.args.env.now) c.args.name.now c.in-Some.value
    (integers_to c.take_next.new.self.low c.take_next.new.self.high) c.loop-value.walked c.count_one.new.walked e c.in_err-count_one.ensures)))

pub turn_all-returns-in_err-statements : goal.turn_all-returns-in_err-statements
turn_all-returns-in_err-statements t c =
    let e = c.in_err-statements.field-0.0 in
    let before = env_of c.args.env.now.parameters.now in
    let env : before ++ env_of c.deref.result.now ≡ with_variable (env_at c.args.env.now) c.args.name.now c.in-Some.value =
    env_at-push before c.args.env.now.variables.now c.loop-value.variables.items c.push.new.self.items c.deref.result.now
    (record { name = c.args.name; value = cast_signed w32 (cast_unsigned w32 c.in-Some.value) }) c.in-Some.value
    c.loop-value.invariant.same c.in_ok-push.ensures.items c.deref.ensures.value refl c.in-Some.ensures.fits in
    Walks-exit c.args.scope.now (turns (stmts_of c.args.body.now) (env_at c.args.env.now) c.args.name.now (integers_to c.args.left.low c.args.left.high))
    c.args.walked.now c.statements.new.walked e _ c.from_residual-in_err-statements.ensures.1
    (c.loop-value.invariant.rest c.statements.new.walked (Err e)
    (rw c.in-Some.ensures.taken
    (Walks-turn-stop c.args.scope.now (stmts_of c.args.body.now) (env_at c.args.env.now) c.args.name.now c.in-Some.value
    (integers_to c.take_next.new.self.low c.take_next.new.self.high) c.loop-value.walked c.count_one.new.walked c.statements.new.walked
    c.statements.new.walked e c.in_ok-count_one.ensures.1.0 c.in_ok-count_one.ensures.1.1 (rw env at c.in_err-statements.ensures))))

pub statement-returns-in-Inst : goal.statement-returns-in-Inst
statement-returns-in-Inst t c = rw c.in-Inst.is c.inst.ensures

pub statement-returns-in-Bind : goal.statement-returns-in-Bind
statement-returns-in-Bind t c = rw c.in-Bind.is c.bind.ensures
