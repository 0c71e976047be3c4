use Rattle.std.proofs.Common.{◌≡◌, ◌∙◌, ◌+◌, ◌<◌, map, sum_by, refl, ap, arith}
use Rattle.base.proofs.AnswerLaws.{Answers-exit}
use Rattle.darwin_parser.specs.Tree.{component_of, port_of, array_of, stmts_of}
use Rattle.darwin_walk.specs.Environment.{env_at}
use Rattle.darwin_walk.specs.Reached.{reached_in, weight}
use Rattle.darwin_walk.proofs.CauseLaws.{cause-grow, fault-grow}
use Rattle.darwin_walk.proofs.ReachedLemmas.{faults-none, faults-ports, faults-arrays, faults-body, count-body, IsWalked-body}
use Rattle.darwin_walk.proofs.NamedLemmas.{IsScope-found}
use Rattle.darwin_walk.proofs.instance.walk_within.Goals as goal

pub returns-in_err-port_sizes : goal.returns-in_err-port_sizes
returns-in_err-port_sizes c =
    let p = env_at c.args.env.now in
    let component = component_of c.args.component.now in
    Answers-exit _ _ c.from_residual.ensures.1
    (fault-grow _ _ _ (λ f. faults-ports component p (map port_of c.deref.result.now) f (ap (map port_of) c.deref.ensures.value))) c.in_err-port_sizes.ensures

pub returns-in_err-arrays : goal.returns-in_err-arrays
returns-in_err-arrays c =
    let p = env_at c.args.env.now in
    let component = component_of c.args.component.now in
    Answers-exit _ _ c.from_residual-in_err-arrays.ensures.1
    (fault-grow _ _ _ (λ f. faults-arrays component p (map array_of c.deref-2.result.now) f (ap (map array_of) c.deref-2.ensures.value))) c.in_err-arrays.ensures

pub returns-in_err-statements : goal.returns-in_err-statements
returns-in_err-statements c =
    let p = env_at c.args.env.now in
    let component = component_of c.args.component.now in
    let body = stmts_of c.deref-5.result.now in
    let is : body ≡ component.body = ap stmts_of c.deref-5.ensures.value in
    Answers-exit _ _ c.from_residual-in_err-statements.ensures.1
    (cause-grow _ _ _ _ (λ f. faults-body component p body f is)
    (λ (many : c.args.room < 0 + sum_by weight (reached_in body p)). omega (arith, many, count-body component p, ap (λ b. sum_by weight (reached_in b p)) is)))
    c.in_err-statements.ensures

pub returns : goal.returns
returns c =
    let p = env_at c.args.env.now in
    let component = component_of c.args.component.now in
    let told = rw c.deref-5.ensures.value at c.in_ok-statements.ensures in (
      faults-none component p (rw c.deref.ensures.value at c.in_ok-port_sizes.ensures.0) (rw c.deref-2.ensures.value at c.in_ok-arrays.ensures.0)
          told.0,
      IsWalked-body component p c.args.room _ _ (rw c.deref.ensures.value at c.in_ok-port_sizes.ensures.1) c.new.ensures.items c.in_ok-bindings.ensures
          refl told.1,
    )

pub statements-requires : goal.statements-requires
statements-requires c =
    IsScope-found _ c.in_ok-arrays.arrays.items (c.in_ok-arrays.ensures.1.0 ∙ ap (map array_of) c.deref-2.ensures.value)
    c.in_ok-arrays.ensures.1.1 (rw c.deref-3.ensures.value at c.in_ok-arrays_by_name.ensures)
