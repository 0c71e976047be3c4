use Rattle.std.specs.Prelude.{IsTrue}
use Rattle.base.proofs.PairedLaws.{paired_both, paired_second, paired_set}
use Rattle.base.proofs.pair_laws.pairs_stay_paired.Goals as goal

pub returns : goal.returns
returns c c' = record {
  both = λ test. paired_both (λ k x y. IsTrue (test k x y));
  second = λ test. paired_second (λ k x y. IsTrue (test k x y));
  changed = λ test. paired_set (λ k x y. IsTrue (test k x y));
}
