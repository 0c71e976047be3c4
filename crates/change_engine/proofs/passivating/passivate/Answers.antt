use Rattle.std.proofs.Common.{◌≡◌, ◌+◌, ◌++◌, ◌∷◌, [], List, ℕ, refl, sym, ap, ◌∙◌, arith, length, inl, inr, true, false, vec_len}
use Rattle.std.specs.Prelude.{◌==◌}
use Rattle.std.proofs.lemmas.Bool.{both_ways, eq-eqb, eqb-true}
use Rattle.std.proofs.lemmas.List.{length-append}
use Rattle.change_engine.specs.declared.passivating.LeftRoot.{LeftRoot}
use Rattle.change_engine.proofs.Breaking.{broke_in_round}
use Rattle.change_engine.proofs.Passing.{begun, closes, made_behind, made_on, made_still, passivation_more, went_on}
use Rattle.change_engine.proofs.passivating.passivate.Goals as goal
use Rattle.change_engine.proofs.PassivationLaws.{left_more}
use Rattle.base.proofs.AnswerLaws.{if_err}

none_left : (xs : List LeftRoot) (n : ℕ) → n ≡ length xs → (n == 0) ≡ true → xs ≡ []
none_left [] n e h = refl
none_left (x ∷ xs) n e h = absurd (omega (arith, eqb-true n 0 h))

some_left : (xs : List LeftRoot) (n : ℕ) → n ≡ length xs → (n == 0) ≡ false → xs ≡ [] → ⊥
some_left xs n e h none_ = both_ways (n == 0) h (eq-eqb n 0 (e ∙ ap length none_))

pub close_all-requires-clause-place : goal.close_all-requires-clause-place
close_all-requires-clause-place g c = omega (arith, c.requires.line_place)

pub look_at-requires : goal.look_at-requires
look_at-requires g c =
    let r = c.requires.live.0 in
    record {
      made = (r ++ closes c.args.ports.now, c.close_all.ensures.board r c.requires.live.1, made_behind r c.args.ports.now c.requires.live.2);
      line_place = omega (arith, c.close_all.ensures.len, c.close_all.ensures.capacity, c.requires.line_place);
      root_place = c.requires.place.left;
    }

pub make_round-requires : goal.make_round-requires
make_round-requires g c =
    let inv = c.loop-round.invariant in
    record {
      made = inv.here;
      line_place = omega (arith, inv.len, inv.capacity, c.requires.line_place);
      place = record { ports = omega (arith, inv.few, inv.place.ports); left = omega (arith, inv.few, inv.place.left) };
    }

pub loop-round-init : goal.loop-round-init
loop-round-init g c =
    let W = g.B.Board in
    let w = c.look_at.ensures.passed in
    let r = c.requires.live.0 in
    let left = c.look_at.new.left.items in
    record {
      room = c.look_at.ensures.room ∙ c.close_all.ensures.room;
      how = record { first = w.found; rounds = [] };
      is_passivation = record { at_ports = w.at_ports; each_round = tt; few = omega arith };
      all_rounds = refl;
      len = omega (arith, c.look_at.ensures.len, c.close_all.ensures.len);
      few = c.look_at.ensures.few;
      capacity = omega (arith, c.look_at.ensures.capacity, c.close_all.ensures.capacity);
      place = record { ports = c.requires.place.ports; left = omega (arith, c.look_at.ensures.left_capacity, c.requires.place.left) };
      left_is = w.left_is;
      grew = begun W c.args.board.now c.close_all.new.board c.look_at.new.board c.args.history.now.items c.close_all.new.history.items c.look_at.new.history.items c.args.ports.now left
          c.close_all.ensures.board c.close_all.ensures.lines w;
      here = made_still W c.close_all.new.board c.look_at.new.board c.close_all.new.history.items c.look_at.new.history.items c.args.ports.now left
          (r ++ closes c.args.ports.now) (c.close_all.ensures.board r c.requires.live.1) (made_behind r c.args.ports.now c.requires.live.2) w;
    }

pub loop-round-preserved : goal.loop-round-preserved
loop-round-preserved g c =
    let W = g.B.Board in
    let inv = c.loop-round.invariant in
    let a = c.loop-round.board in
    let d = c.make_round.new.board in
    let i = c.loop-round.history.items in
    let j = c.make_round.new.history.items in
    let left = c.loop-round.waiting.left in
    let after = c.make_round.new.waiting.left.items in
    let x = c.in_ok-make_round.ensures in
    let y = x.ok in
    record {
      room = x.room ∙ inv.room;
      how = record { first = inv.how.first; rounds = inv.how.rounds ++ y.round ∷ [] };
      is_passivation = passivation_more c.args.ports.now left.items c.loop-round._round inv.how.first inv.how.rounds y.round inv.is_passivation inv.all_rounds inv.left_is
          (some_left left.items (vec_len left) left.ok.0 (sym c.if-is_empty.ensures)) y.at_left;
      all_rounds = length-append inv.how.rounds (y.round ∷ []) ∙ ap (λ k. k + 1) inv.all_rounds;
      len = omega (arith, x.len, inv.len);
      few = omega (arith, x.few, inv.few);
      capacity = omega (arith, x.capacity, inv.capacity);
      place = record { ports = omega (arith, x.ports_capacity, inv.place.ports); left = omega (arith, x.left_capacity, inv.place.left) };
      left_is = y.next_is ∙ sym (left_more inv.how.first inv.how.rounds y.round);
      grew = went_on W c.args.board.now a d c.args.history.now.items i j c.args.ports.now inv.how.first inv.how.rounds y.round inv.grew y.grew;
      here = made_on W a d i j left.items after inv.here.0 inv.here.1 inv.here.2 y;
    }

pub returns-then-is_empty-clause-ok : goal.returns-then-is_empty-clause-ok
returns-then-is_empty-clause-ok g c =
    let inv = c.loop-round.invariant in
    let left = c.loop-round.waiting.left in
    record {
      how = inv.how;
      is_passivation = record { at_ports = inv.is_passivation.at_ports; each_round = inv.is_passivation.each_round; few = omega (arith, inv.all_rounds, c.loop-round-test) };
      left_is = inv.left_is;
      ends = inl (none_left left.items (vec_len left) left.ok.0 (sym c.if-is_empty.ensures));
      grew = inv.grew;
    }

pub returns-clause-ok : goal.returns-clause-ok
returns-clause-ok g c =
    let inv = c.loop-round.invariant in
    let t = c.loop-round-test in
    record {
      how = inv.how;
      is_passivation = record { at_ports = inv.is_passivation.at_ports; each_round = inv.is_passivation.each_round; few = omega (arith, inv.all_rounds, c.loop-round.auto) };
      left_is = inv.left_is;
      ends = inr (omega (arith, inv.all_rounds, t, c.loop-round.auto));
      grew = inv.grew;
    }

pub returns-in_err-make_round-clause-err : goal.returns-in_err-make_round-clause-err
returns-in_err-make_round-clause-err g c =
    let inv = c.loop-round.invariant in
    let left = c.loop-round.waiting.left in
    if_err (broke_in_round g.B.Board c.args.board.now c.loop-round.board c.make_round.new.board c.args.history.now.items c.loop-round.history.items
    c.make_round.new.history.items c.args.ports.now c.loop-round._round c.args.rounds inv.how inv.is_passivation inv.all_rounds (omega (arith, c.loop-round-test))
    (λ none_. some_left left.items (vec_len left) left.ok.0 (sym c.if-is_empty.ensures) (inv.left_is ∙ none_)) inv.grew c.in_err-make_round.ensures.err) c.from_residual.result
