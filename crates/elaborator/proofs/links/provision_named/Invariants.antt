use Rattle.std.proofs.Common.{ℕ, ◌<◌}
use Rattle.elaborator.specs.Links.{IsProvision}
use Rattle.elaborator.proofs.links.provision_named.Given as goal

-- no provision so far has the name
abbrev pub invariant-loop-provide : goal.invariant-loop-provide
invariant-loop-provide l = (n : ℕ) → n < l.provide → ¬ IsProvision l.kind l.name n
