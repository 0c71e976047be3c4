use Rattle.std.proofs.Common.{◌≡◌, true, ◌++◌, ◌∷◌, [], append_assoc, map, take, get_or, sym, ap, ◌∙◌, subst, arith}
use Rattle.std.proofs.lemmas.List.Elements.{All-take}
use Rattle.quiesce_core.specs.Rules.{is_live_port}
use Rattle.report_types.specs.declared.report.HistoryLine.TheVariants as to
use Rattle.txn_records.specs.Entries.{config_of}
use Rattle.change_engine.proofs.Growing.{adds_both}
use Rattle.change_engine.proofs.Passing.{closes, closes_more, close_lines_more, live_behind}
use Rattle.change_engine.proofs.passivating.close_all.Goals as goal

pub close-requires : goal.close-requires
close-requires g c =
    let r = c.requires.live.0 in
    let done = take c.loop-port.port-index c.args.ports.now in
    record {
      may = (
        r ++ closes done,
        c.loop-port.invariant.adds r c.requires.live.1,
        live_behind r done (get_or c.args.ports.now c.loop-port.port-index 0)
            (All-take (λ p. is_live_port (config_of r) p ≡ true) c.loop-port.port-index c.args.ports.now c.requires.live.2)
            (c.requires.live.2 c.loop-port.port-index 0 c.loop-port-test.true),
      );
    }

pub put-requires : goal.put-requires
put-requires g c = record { place = omega (arith, c.loop-port.invariant.len, c.loop-port.invariant.capacity, c.loop-port-test.true, c.requires.place) }

pub loop-port-preserved : goal.loop-port-preserved
loop-port-preserved g c =
    let ps = c.args.ports.now in
    let i = c.loop-port.port-index in
    record {
      room = c.close.ensures.room ∙ c.loop-port.invariant.room;
      adds = λ r s. subst (λ es. g.B.Board.stands_for c.close.new.self (r ++ es)) (sym (closes_more ps i c.loop-port-test.true))
          (adds_both g.B.Board c.args.board.now c.loop-port.board c.close.new.self (closes (take i ps)) _ c.loop-port.invariant.adds c.close.ensures.board r s);
      len = omega (arith, c.put.ensures.len, c.loop-port.invariant.len);
      capacity = omega (arith, c.put.ensures.capacity, c.loop-port.invariant.capacity);
      lines = c.put.ensures.items ∙ ap (λ ls. ls ++ to.Close (get_or ps i 0) ∷ []) c.loop-port.invariant.lines
          ∙ append_assoc c.args.history.now.items (map to.Close (take i ps)) (to.Close (get_or ps i 0) ∷ [])
          ∙ ap (λ ls. c.args.history.now.items ++ ls) (sym (close_lines_more ps i c.loop-port-test.true));
    }
