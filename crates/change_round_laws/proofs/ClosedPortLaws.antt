-- Ports that are closed for a change or a stop: they are live, they stay what they were, and what isn't drained there has a root that stood since.
use Rattle.std.proofs.Common.{◌≡◌, ◌∙◌, ℕ, ◌<◌, Bool, true, false, not, ◌&&◌, ◌||◌, List, [], length, refl, sym, ap, arith}
use Rattle.std.specs.Prelude.{◌==◌, is_some}
use Rattle.std.specs.List.{range_with_len}
use Rattle.std.proofs.lemmas.Bool.{and_from, eq-eqb, not_from_false, or_parts}
use Rattle.std.specs.List.Sorted.{IsStrictlyIncreasing}
use Rattle.std.proofs.lemmas.List.Kept.{IsStrictlyIncreasing-filter}
use Rattle.config_graph.specs.Graph.{Graph}
use Rattle.change_plan.specs.declared.plan_data.Plan.{Plan}
use Rattle.quiesce_word.specs.Phases.{is_idle}
use Rattle.quiesce_core.specs.declared.state.Slot.{Slot}
use Rattle.quiesce_core.specs.State.{Configuration, State, exchange, gate, owner}
use Rattle.quiesce_laws.specs.Drained.{is_drained}
use Rattle.quiesce_laws.specs.Roots.{has_root}
use Rattle.quiesce_laws.specs.Lists.{In}
use Rattle.quiesce_laws.proofs.MemberLaws.{select, selected}
use Rattle.quiesce_laws.proofs.TurningLaws.{IsLivePort, SameLinks}
use Rattle.change_plan_laws.specs.Commit.{is_one_of, ports_to_close, ports_where}
use Rattle.change_spec.proofs.TestLaws.{range_rises}
use Rattle.change_plan_laws.proofs.StandingLaws.{one_live}

pub frozen_live : (old : Graph) (plan : Plan) (c : Configuration) (p : ℕ) → In (ports_to_close old plan c) p → IsLivePort c p
frozen_live old plan c p i =
    let s = selected (λ q. is_one_of old plan.freeze c (owner c q)) 0 (length c.gates) p i in
    record { made = let low = s.below in omega arith; live = one_live old plan.freeze c (owner c p) s.passes }

pub frozen_listed : (old : Graph) (plan : Plan) (c : Configuration) (p : ℕ) → p < length c.gates → is_one_of old plan.freeze c (owner c p) ≡ true → In (ports_to_close old plan c) p
frozen_listed old plan c p low frozen = select (λ q. is_one_of old plan.freeze c (owner c q)) 0 (length c.gates) p (omega arith) (omega (arith, low)) frozen

pub where_rise : (test : ℕ → Bool) (c : Configuration) → IsStrictlyIncreasing (ports_where test c)
where_rise test c = IsStrictlyIncreasing-filter test (range_with_len 0 (length c.gates)) (range_rises 0 (length c.gates))

-- nothing but flags differs
pub frozen_same : (old : Graph) (places : List ℕ) (c d : Configuration) → SameLinks c d → (n : ℕ) → is_one_of old places d n ≡ is_one_of old places c n
frozen_same old places c d same n = ap (λ (s : List Slot). is_one_of old places (record { slots = s; gates = [] }) n) same.slots

-- what is closed and not drained has a root
pub root_there : (s : State) (p : ℕ) → (gate s.config p).closed ≡ true → is_drained s p ≡ false → has_root s p (exchange s p).serial ≡ true
root_there s p shut undrained =
    let x = exchange s p in
    let open_one : (is_idle x.phase || is_some x.within) ≡ false = sym (ap (λ b. b && (is_idle x.phase || is_some x.within)) shut) ∙ undrained in
    let parts = or_parts (is_idle x.phase) (is_some x.within) open_one in
    and_from (not (is_idle x.phase) && not (is_some x.within)) (x.serial == x.serial)
    (and_from (not (is_idle x.phase)) (not (is_some x.within)) (not_from_false (is_idle x.phase) parts.0) (not_from_false (is_some x.within) parts.1)) (eq-eqb x.serial x.serial refl)
