use Rattle.std.proofs.Common.{◌<◌, ◌++◌, ◌∷◌, [], map, get_or, refl, sym, ap, ◌∙◌, subst, length, arith}
use Rattle.txn_records.specs.Entries.{events_in}
use Rattle.change_board.specs.Scans.{Found}
use Rattle.change_board.specs.Transcripts.{entries}
use Rattle.change_engine.specs.Passivating.{lines_by, look_item, roots_by, roots_of}
use Rattle.change_engine.proofs.ItemLaws.{look_entries}
use Rattle.change_engine.proofs.Passing.{config_quiet, grew_look, lines_told, looks_quiet, ports_push, roots_push, roots_told}
use Rattle.change_engine.proofs.passivating.look_at.Goals as goal

pub look-look-requires : goal.look-look-requires
look-look-requires g c =
    let r = c.requires.made.0 in
    let found = c.loop-port.invariant.found in
    let es = entries (map look_item found) in
    record {
      made = (
        r ++ es,
        c.loop-port.invariant.grew.adds r c.requires.made.1,
        subst (λ d. get_or c.args.ports.now c.loop-port.port-index 0 < length d.gates) (sym (config_quiet r es (ap events_in (look_entries found) ∙ looks_quiet found)))
            (c.requires.made.2 c.loop-port.port-index 0 c.loop-port-test.true),
      );
    }

pub note_look-requires : goal.note_look-requires
note_look-requires g c =
    let inv = c.loop-port.invariant in
    record {
      line_place = omega (arith, inv.len, inv.capacity, c.loop-port-test.true, c.requires.line_place);
      root_place = omega (arith, inv.len, inv.more_, inv.left_capacity, c.loop-port-test.true, c.requires.root_place, c.clear.ensures.capacity);
    }

pub loop-port-preserved : goal.loop-port-preserved
loop-port-preserved g c =
    let W = g.B.Board in
    let inv = c.loop-port.invariant in
    let ps = c.args.ports.now in
    let i = c.loop-port.port-index in
    let p = get_or ps i 0 in
    let seen = c.look-look.ensures.board in
    let f : Found = record { port = p; word = seen.word } in
    record {
      room = c.look-look.ensures.room ∙ inv.room;
      found = inv.found ++ f ∷ [];
      at_ports = ports_push inv.found f ps i c.loop-port-test.true inv.at_ports refl;
      len = omega (arith, c.note_look.ensures.len, inv.len);
      more_ = omega (arith, c.note_look.ensures.more_, inv.more_);
      capacity = omega (arith, c.note_look.ensures.capacity, inv.capacity);
      left_capacity = omega (arith, c.note_look.ensures.left_capacity, inv.left_capacity);
      left_is = c.note_look.ensures.left ∙ ap (λ qs. qs ++ roots_by p c.look-look.result) inv.left_is
          ∙ ap (λ l. roots_of inv.found ++ roots_by p l) seen.found ∙ ap (λ qs. roots_of inv.found ++ qs) (roots_told p seen.word) ∙ sym (roots_push inv.found f);
      grew = grew_look W c.args.board.now c.loop-port.board c.look-look.new.self c.args.history.now.items c.loop-port.history.items c.note_look.new.history.items inv.found f inv.grew seen.adds
          (c.note_look.ensures.lines ∙ ap (λ l. c.loop-port.history.items ++ lines_by p l) seen.found ∙ ap (λ ls. c.loop-port.history.items ++ ls) (lines_told p seen.word));
    }
