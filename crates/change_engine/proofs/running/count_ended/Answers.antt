use Rattle.std.proofs.Common.{◌+◌, ◌<◌, ◌++◌, ◌∷◌, [], length, map, sym, ap, ◌∙◌, subst, arith}
use Rattle.std.proofs.lemmas.List.{map-append}
use Rattle.base.proofs.RisingLaws.{places_more}
use Rattle.change_board.specs.Scans.{Found, ended_in, look_entry}
use Rattle.change_engine.specs.Running.{ended_by}
use Rattle.change_engine.proofs.Growing.{adds_both}
use Rattle.change_engine.proofs.Passing.{config_quiet, looks_quiet}
use Rattle.change_engine.proofs.RunLemmas.{ended_looked, looks_pushed}
use Rattle.change_engine.proofs.running.count_ended.Goals as goal

pub look-requires : goal.look-requires
look-requires g c =
    let r = c.requires.made.0 in
    let es = map look_entry c.loop-port.invariant.looks in
    record {
      made = (
        r ++ es,
        c.loop-port.invariant.adds r c.requires.made.1,
        subst (λ d. c.loop-port.port < length d.gates) (sym (config_quiet r es (looks_quiet c.loop-port.invariant.looks))) (omega (arith, c.loop-port-test.true, c.requires.made.2)),
      );
    }

pub loop-port-preserved : goal.loop-port-preserved
loop-port-preserved g c =
    let W = g.B.Board in
    let inv = c.loop-port.invariant in
    let p = c.loop-port.port in
    let seen = c.look.ensures.board in
    let f : Found = record { port = p; word = seen.word } in
    record {
      room = c.look.ensures.room ∙ inv.room;
      looks = inv.looks ++ f ∷ [];
      at_ports = map-append (λ (f : Found). f.port) inv.looks (f ∷ []) ∙ ap (λ ps. ps ++ p ∷ []) inv.at_ports ∙ sym (places_more p);
      ended_is = ap (λ n. n + c.from-ended.result) inv.ended_is
          ∙ ap (λ n. ended_in inv.looks + n) (c.from-ended.ensures ∙ c.ended_by.ensures ∙ ap ended_by seen.found ∙ ended_looked seen.word) ∙ sym (looks_pushed inv.looks f);
      bound = omega (arith, inv.bound, c.from-ended.ensures);
      adds = subst (λ es. (r : _) → W.stands_for c.args.board.now r → W.stands_for c.look.new.self (r ++ es)) (sym (map-append look_entry inv.looks (f ∷ [])))
          (adds_both W c.args.board.now c.loop-port.board c.look.new.self (map look_entry inv.looks) _ inv.adds seen.adds);
    }
