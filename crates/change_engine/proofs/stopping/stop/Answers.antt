use Rattle.std.proofs.Common.{◌≡◌, ◌∷◌, ◌++◌, ◌-◌, ◌^◌, [], List, ℕ, length, true, vec_len, refl, sym, ap, ◌∙◌, subst, inl, inr, arith}
use Rattle.std.specs.Prelude.{◌==◌}
use Rattle.std.proofs.lemmas.Bool.{eqb-true}
use Rattle.change_board.specs.Collecting.{Collects}
use Rattle.txn_records.specs.Entries.{config_of}
use Rattle.change_board.specs.Transcripts.{entries}
use Rattle.report_types.specs.declared.report.HistoryLine.TheVariants as to
use Rattle.change_engine.specs.Passivating.{AreLivePorts, passivation_items}
use Rattle.change_engine.specs.Stopping.{Stops}
use Rattle.change_engine.proofs.Breaking.{broke_in_stop}
use Rattle.change_engine.proofs.Growing.{grew_none}
use Rattle.change_engine.proofs.Quieting.{all_live, all_noted, stop_grew}
use Rattle.change_engine.specs.Growing.{telling}
use Rattle.change_engine.proofs.stopping.stop.Goals as goal
use Rattle.std.proofs.lemmas.Result.{IfOk-weaker}
use Rattle.std.proofs.lemmas.List.{nil_from_length}
use Rattle.base.proofs.AnswerLaws.{if_err, on_err}

nothing_left : {A : Type 0} (xs : List A) (n : ℕ) → n ≡ length xs → (n == 0) ≡ true → xs ≡ []
nothing_left xs n e h = nil_from_length xs (sym e ∙ eqb-true n 0 h)

pub put-requires : goal.put-requires
put-requires g c =
    let room = c.in_ok-reserve.ensures.ok in
    let small = c.reserve.new.self.small in
    record { place = omega (arith, room, small, c.line_count.ensures (omega (arith, room, small))) }

pub passivate-requires : goal.passivate-requires
passivate-requires g c =
    let q = c.requires.all in
    let room = c.in_ok-reserve.ensures.ok in
    let small = c.reserve.new.self.small in
    record {
      live = (q.0, q.1, subst (AreLivePorts (config_of q.0)) (sym q.2) (all_live (config_of q.0)));
      line_place = omega (arith, room, c.line_count.ensures (omega (arith, room, small)), c.put.ensures.len, c.put.ensures.capacity);
      place = c.in_ok-waiting.ensures;
    }

pub collect-requires : goal.collect-requires
collect-requires g c =
    let q = c.requires.all in
    let w = c.in_ok-passivate.ensures.ok in
    let left = c.passivate.new.waiting.left in
    let none_ = sym w.left_is ∙ nothing_left left.items (vec_len left) left.ok.0 (sym c.if-is_empty.ensures) in
    record { drained = (q.0 ++ entries (passivation_items c.args.ports.now w.how), w.grew.adds q.0 q.1, all_noted q.0 c.args.ports.now (2 ^ 64 - 1) w.how q.2 w.is_passivation none_) }

pub returns-then-is_empty-clause-ok : goal.returns-then-is_empty-clause-ok
returns-then-is_empty-clause-ok g c =
    let W = g.B.Board in
    let a = c.args.board.now in
    let b = c.passivate.new.board in
    let d = c.collect.new.self in
    let h = c.args.history.now.items in
    let i = c.put.new.list.items in
    let j = c.passivate.new.history.items in
    let ports = c.args.ports.now in
    let taken = g.B.Board.taken d in
    let w = c.in_ok-passivate.ensures.ok in
    let left = c.passivate.new.waiting.left in
    let none_ = sym w.left_is ∙ nothing_left left.items (vec_len left) left.ok.0 (sym c.if-is_empty.ensures) in
    IfOk-weaker c.collect.result (λ x. Collects W.stands_for b d taken x) (λ x. Stops W (telling a h) (telling d j) ports (2 ^ 64 - 1) x) (λ x collected. record {
      how = w.how;
      is_passivation = w.is_passivation;
      none_left = none_;
      quiet = b;
      grew = stop_grew W a b h i j ports w.how (c.put.ensures.items ∙ ap (λ ls. ls ++ to.Stop ∷ []) c.reserve.ensures.items) w.grew;
      collected = collected;
    }) c.collect.ensures.ok

pub returns-then-is_empty-clause-closes_alone : goal.returns-then-is_empty-clause-closes_alone
returns-then-is_empty-clause-closes_alone g c =
    let w = c.in_ok-passivate.ensures.ok in
    let began = c.put.ensures.items ∙ ap (λ ls. ls ++ to.Stop ∷ []) c.reserve.ensures.items in
    on_err (λ broke. inr (broke_in_stop g.B.Board c.args.board.now c.collect.new.self c.args.history.now.items c.put.new.list.items c.passivate.new.history.items
    c.args.ports.now (2 ^ 64 - 1) w.how w.is_passivation began w.grew.adds_lines
    (λ r s. inr (broke (r ++ entries (passivation_items c.args.ports.now w.how)) (w.grew.adds r s))))) c.collect.result c.collect.ensures.err

pub returns-clause-closes_alone : goal.returns-clause-closes_alone
returns-clause-closes_alone g c =
    let w = c.in_ok-passivate.ensures.ok in
    let began = c.put.ensures.items ∙ ap (λ ls. ls ++ to.Stop ∷ []) c.reserve.ensures.items in
    inr (broke_in_stop g.B.Board c.args.board.now c.passivate.new.board c.args.history.now.items c.put.new.list.items c.passivate.new.history.items
    c.args.ports.now (2 ^ 64 - 1) w.how w.is_passivation began w.grew.adds_lines (λ r s. inl (w.grew.adds r s)))

pub returns-in_err-waiting-clause-closes_alone : goal.returns-in_err-waiting-clause-closes_alone
returns-in_err-waiting-clause-closes_alone g c =
    if_err (inl (grew_none g.B.Board c.args.board.now c.args.history.now.items c.args.history.now.items refl)) c.from_residual.result

pub returns-in_err-reserve-clause-closes_alone : goal.returns-in_err-reserve-clause-closes_alone
returns-in_err-reserve-clause-closes_alone g c =
    if_err (inl (grew_none g.B.Board c.args.board.now c.args.history.now.items c.reserve.new.self.items c.reserve.ensures.items)) c.from_residual-in_err-reserve.result

pub returns-in_err-passivate-clause-closes_alone : goal.returns-in_err-passivate-clause-closes_alone
returns-in_err-passivate-clause-closes_alone g c =
    let x = c.in_err-passivate.ensures.err in
    let began = c.put.ensures.items ∙ ap (λ ls. ls ++ to.Stop ∷ []) c.reserve.ensures.items in
    if_err (inr (broke_in_stop g.B.Board c.args.board.now c.passivate.new.board c.args.history.now.items c.put.new.list.items c.passivate.new.history.items
    c.args.ports.now (2 ^ 64 - 1) x.how x.is_passivation began x.told_all (λ r s. inr (x.broke r s)))) c.from_residual-in_err-passivate.result
