use Rattle.std.proofs.Common.{◌≡◌, ◌∙◌, [], ◌∷◌, ◌++◌, ◌+◌, map, drop, ap, to_z, of_z, rules}
use Rattle.std.specs.Int.{w32}
use Rattle.std.proofs.lemmas.Int.{ints, to_z-of_z}
use Rattle.change_script.specs.Numbers.{is_integer, integer, integer_fits}
use Rattle.base.proofs.MapLaws.{left_pass, left_more, left_none}
use Rattle.change_script.proofs.arguments.integer_values.Goals as goal

pub loop-word-init : goal.loop-word-init
loop-word-init c = record {
  all = c.requires.integers;
  fits = c.requires.fit;
  values = ap (λ values. values ++ map integer (map (λ word. word.now) c.args.words.now)) c.new-values.ensures.items;
}

pub integer-requires-clause-integer : goal.integer-requires-clause-integer
integer-requires-clause-integer c =
    (left_pass is_integer (λ word. word.now) c.args.words.now c.loop-word.word-index _ c.loop-word-test.true c.loop-word.invariant.all).0

pub integer-requires-clause-fits : goal.integer-requires-clause-fits
integer-requires-clause-fits c =
    (left_pass integer_fits (λ word. word.now) c.args.words.now c.loop-word.word-index _ c.loop-word-test.true c.loop-word.invariant.fits).0

pub loop-word-preserved : goal.loop-word-preserved
loop-word-preserved c =
    let words = c.args.words.now in
    let k = c.loop-word.word-index in
    let within = c.loop-word-test.true in
    let same : to_z w32 (of_z w32 c.integer.result) ≡ c.integer.result = search (rules, ints, to_z-of_z) in
    let pushed = c.in_ok-push.ensures.items ∙ ap (λ value. c.loop-word.values.items ++ value ∷ []) (same ∙ c.integer.ensures) in
    record {
      all = (left_pass is_integer (λ word. word.now) words k (record { ref_ptr = (0, 0); now = [] }) within c.loop-word.invariant.all).1;
      fits = (left_pass integer_fits (λ word. word.now) words k (record { ref_ptr = (0, 0); now = [] }) within c.loop-word.invariant.fits).1;
      values =
          ap (λ values. values ++ map integer (map (λ word. word.now) (drop (k + 1) words))) pushed
          ∙ left_more integer (λ word. word.now) words k _ c.loop-word.values.items _ within c.loop-word.invariant.values;
    }

pub returns : goal.returns
returns c =
    left_none integer (λ word. word.now) c.args.words.now c.loop-word.word-index c.loop-word.values.items _ c.loop-word-test.false c.loop-word.invariant.values
