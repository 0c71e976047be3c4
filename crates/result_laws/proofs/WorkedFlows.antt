-- The definitions of flows and of forks, on small systems.
use Rattle.std.proofs.Common.{◌≡◌, ℕ, Bool, true, false, cond, List, [], ◌∷◌, length, refl, arith}
use Rattle.std.specs.Prelude.{◌==◌, sum_by}
use Rattle.std.proofs.lemmas.Bool.{both_ways, eqb-true}
use Rattle.std.proofs.lemmas.List.Sums.{sum_by-cons}
use Rattle.config_graph.specs.declared.kind.Kind.TheVariants.{Fork, Philosopher, Sink, Teller}
use Rattle.result_laws.specs.Flows.{held, one, only, same_side, sent}
use Rattle.result_laws.specs.Describing.{LinksAre}
use Rattle.result_laws.specs.Holding.{forks_serve_places}
use Rattle.result_laws.proofs.Testing.{links_pass}
use Rattle.result_laws.specs.WorkedFlows.{mixed, report, with_philosopher_at_fork, with_teller_at_sink}

pub mixed_is_apart : LinksAre same_side mixed
mixed_is_apart = links_pass same_side mixed refl

pub mixed_is_table : LinksAre forks_serve_places mixed
mixed_is_table = links_pass forks_serve_places mixed refl

pub teller_is_not : LinksAre same_side with_teller_at_sink → ⊥
teller_is_not h = both_ways false refl (h 1 0 0 0 Teller Sink refl refl refl)

pub philosopher_is_not : LinksAre forks_serve_places with_philosopher_at_fork → ⊥
philosopher_is_not h = both_ways false refl (h 1 0 0 0 Philosopher Fork refl refl refl)

pub items_there : (held one (report (3 ∷ [])) ≡ 3) × (sent one (report (3 ∷ [])) ≡ 3)
items_there = (refl, refl)

sum_of_ones : (xs : List ℕ) → sum_by one xs ≡ length xs
sum_of_ones [] = refl
sum_of_ones (x ∷ xs) = let w = sum_by-cons one x xs in let later = sum_of_ones xs in omega (arith, w, later)

pub short_is_wrong : (xs : List ℕ) → held one (report xs) ≡ sent one (report xs) → length xs ≡ 1
short_is_wrong xs h = let n = sum_of_ones xs in omega (arith, h, n)

pub another_is_wrong : (x : ℕ) → held (only 3) (report (x ∷ [])) ≡ sent (only 3) (report (x ∷ [])) → x ≡ 3
another_is_wrong x h = by (x == 3) refl (let one_ : cond (x == 3) 1 0 ≡ 1 = omega (arith, h) in one_)
  where
    by : (b : Bool) → (x == 3) ≡ b → ◌≡◌ {A = ℕ} (cond b 1 0) 1 → x ≡ 3
    by true is h = eqb-true x 3 is
    by false is h = absurd (cc h)
