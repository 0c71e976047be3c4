-- The words that ask for help, or for the version.
use Rattle.std.proofs.Common.{◌∷◌, [], None, ap, inl, inr, sym}
use Rattle.base.proofs.BytesLaws.{same_bytes}
use Rattle.command_words.specs.CommandLine.{for_help, for_version}
use Rattle.command_words.proofs.reading.read_lone.Goals as goal

pub returns-then-eq : goal.returns-then-eq
returns-then-eq c = for_help None (inl (ap (λ w. w ∷ []) (same_bytes _ _ (sym c.if-eq.ensures))))

pub returns-then-eq-2 : goal.returns-then-eq-2
returns-then-eq-2 c = for_help None (inr (inl (ap (λ w. w ∷ []) (same_bytes _ _ (sym c.if-eq-2.ensures)))))

pub returns-then-eq-3 : goal.returns-then-eq-3
returns-then-eq-3 c = for_help None (inr (inr (ap (λ w. w ∷ []) (same_bytes _ _ (sym c.if-eq-3.ensures)))))

pub returns-then-eq-4 : goal.returns-then-eq-4
returns-then-eq-4 c = for_version (ap (λ w. w ∷ []) (same_bytes _ _ (sym c.if-eq-4.ensures)))
