use Rattle.std.proofs.Common.{◌≡◌, ◌∙◌, ◌++◌, ◌+◌, ◌∷◌, [], ◌<◌, ◌^◌, ℕ, List, Option, append_assoc, append-nil, length, length-append, refl, sym, ap, subst, arith}
use Rattle.std.specs.Prelude.{IfErr}
use Rattle.std.proofs.lemmas.Result.{err_from_is_err_and}
use Rattle.std.proofs.lemmas.List.{nil_from_length}
use Rattle.change_board.specs.Transcripts.{Item}
use Rattle.change_engine.specs.Engines.{IsIdle}
use Rattle.change_engine.specs.declared.passivating.LeftRoot.{LeftRoot}
use Rattle.change_parts.specs.Carrying.{CanCarryOutAll}
use Rattle.change_plan_laws.specs.Committing.{made_in}
use Rattle.change_runner.specs.Replacing.{Replaced}
use Rattle.change_transcript_laws.specs.Pieces.{config_at}
use Rattle.step_runner.specs.Rolling.{HasRolledUpTo, WherePending, items_of, replacement}
use Rattle.step_runner.proofs.RollLemmas.{Progress, all_done, begun, onward, up_to}
use Rattle.step_runner.proofs.rolling.roll.Goals as goal

pub loop-part-init : goal.loop-part-init
loop-part-init g c =
    let W = g.B.Board in
    let e = c.into_iter-part-iterator.ensures.into_iter_gives.0 in (
      tt,
      tt,
      λ t idle can. begun W c.args.engine.now c.args.name c.args.args.items c.args.rounds t c.into_iter-part-iterator.result.rest.items idle
          (subst (CanCarryOutAll c.args.engine.now.graph (made_in (config_at t))) (sym e) can),
      e,
      refl,
    )

pub take_part-requires : goal.take_part-requires
take_part-requires g c =
    let W = g.B.Board in
    let l = c.loop-part in
    let h = c.requires.here in
    let w = subst (λ rs. Progress W c.args.engine.now c.args.name c.args.args.items c.args.rounds h.0 l.yielded rs l.engine) c.in-Some.ensures.steps.0 (l.invariant.2 h.0 h.1 h.2) in
    (h.0 ++ items_of w.rolled.pieces, w.rolled.idle, w.can.0)

pub loop-part-preserved : goal.loop-part-preserved
loop-part-preserved g c =
    let W = g.B.Board in
    let l = c.loop-part in
    let part = c.in-Some.part in
    let rest = c.next.new.self.rest.items in
    let f = c.take_part.new.engine in
    let same = c.in-Some.ensures.steps.0 in (
      tt,
      tt,
      λ t idle can.
          let w = subst (λ rs. Progress W c.args.engine.now c.args.name c.args.args.items c.args.rounds t l.yielded rs l.engine) same (l.invariant.2 t idle can) in
          let u = t ++ items_of w.rolled.pieces in
          let x = subst (λ xs. Replaced W l.engine f u (replacement c.args.name xs c.args.rounds part) c.in_ok-left.left) c.deref.ensures.value
          (c.in_ok-left.ensures u w.rolled.idle w.can.0) in
          onward W c.args.engine.now c.args.name c.args.args.items c.args.rounds t l.yielded rest l.engine f part w
          (subst (λ (o : Option (List LeftRoot)). Replaced W l.engine f u (replacement c.args.name c.args.args.items c.args.rounds part) o) c.in_ok-refuse_left.ensures.none_left x),
      append_assoc l.yielded (part ∷ []) rest ∙ ap (λ es. l.yielded ++ es) (sym same) ∙ l.invariant.3,
      rw length-append (omega (arith, l.invariant.4)),
    )

pub returns-in_err-refuse_left-clause-pending : goal.returns-in_err-refuse_left-clause-pending
returns-in_err-refuse_left-clause-pending g c =
    let W = g.B.Board in
    let l = c.loop-part in
    let e = c.args.engine.now in
    let f = c.take_part.new.engine in
    let name = c.args.name in
    let args = c.args.args.items in
    let within = c.args.rounds in
    let all = c.args.parts.items in
    let part = c.in-Some.part in
    let rest = c.next.new.self.rest.items in
    let same = c.in-Some.ensures.steps.0 in
    let Q : ℕ → List LeftRoot → Type 0 = λ number left. (t : List Item) → IsIdle W e t → CanCarryOutAll e.graph (made_in (config_at t)) all → HasRolledUpTo W e f name args within t all number left in
    let roots = c.in_err-refuse_left.ensures.some_left in
    let given = err_from_is_err_and c.from_residual-in_err-refuse_left.result c.from_residual-in_err-refuse_left.ensures.1 in
    subst (λ r. IfErr r (WherePending Q)) (sym given.1) (subst (WherePending Q) (sym (given.2 ∙ roots.2)) (λ t idle can.
    let w = subst (λ rs. Progress W e name args within t l.yielded rs l.engine) same (l.invariant.2 t idle can) in
    let u = t ++ items_of w.rolled.pieces in
    let x = subst (λ xs. Replaced W l.engine f u (replacement name xs within part) c.in_ok-left.left) c.deref.ensures.value (c.in_ok-left.ensures u w.rolled.idle w.can.0) in
    up_to W e name args within t l.yielded rest all l.engine f part w (ap (λ es. l.yielded ++ es) (sym same) ∙ l.invariant.3) (l.number + 1) (omega (arith, l.invariant.4)) roots.0
    (subst (λ (o : Option (List LeftRoot)). Replaced W l.engine f u (replacement name args within part) o) roots.1 x)))

pub overflow_add-number : goal.overflow_add-number
overflow_add-number g c =
    let l = c.loop-part in
    let whole : length l.yielded + length l.part-iterator.rest.items ≡ length c.args.parts.items = sym (length-append l.yielded l.part-iterator.rest.items) ∙ ap length l.invariant.3 in
    let rest : length l.part-iterator.rest.items ≡ length c.next.new.self.rest.items + 1 = ap length c.in-Some.ensures.steps.0 ∙ omega arith in
    let few : length c.args.parts.items < 2 ^ 32 = c.requires.few in
    omega (arith, whole, rest, l.invariant.4, few)

pub returns-clause-ok : goal.returns-clause-ok
returns-clause-ok g c = λ t idle can.
    let W = g.B.Board in
    let l = c.loop-part in
    let e = c.args.engine.now in
    let rest = l.part-iterator.rest in
    let none_ : rest.items ≡ [] = nil_from_length rest.items (omega (arith, rest.ok.0, c.in-None.ensures.steps.0)) in
    let all : l.yielded ≡ c.args.parts.items = sym (append-nil l.yielded) ∙ ap (λ es. l.yielded ++ es) (sym none_) ∙ l.invariant.3 in
    all_done W e c.args.name c.args.args.items c.args.rounds t l.yielded c.args.parts.items l.engine
    (subst (λ rs. Progress W e c.args.name c.args.args.items c.args.rounds t l.yielded rs l.engine) none_ (l.invariant.2 t idle can)) all
