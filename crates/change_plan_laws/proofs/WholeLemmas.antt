-- The commit of a plan, from a configuration that is ready for it.
use Rattle.std.proofs.Common.{◌≡◌, ℕ, ◌<◌, true, false, not, ◌&&◌, ◌||◌, [], length, sym, subst, inl, inr, ⊎_elim, arith, Contains, lt-ltb}
use Rattle.std.specs.Prelude.{nat_lt}
use Rattle.std.proofs.lemmas.Bool.{and_parts, both_ways, false_from_ne_true, ltb-true, not-true, not_from_false, or_cases, or_left, or_right}
use Rattle.change_plan.specs.declared.plan_data.Plan.{Plan}
use Rattle.config_graph.specs.Graph.{Graph}
use Rattle.quiesce_core.specs.Live.{StandsAt}
use Rattle.quiesce_core.specs.State.{Configuration, is_live, owner}
use Rattle.quiesce_laws.specs.Lists.{In}
use Rattle.quiesce_laws.specs.Steps.{change_all}
use Rattle.quiesce_laws.specs.Work.{work_of}
use Rattle.quiesce_laws.proofs.BetweenLaws.{Ground}
use Rattle.quiesce_laws.proofs.CommitLaws.{all_made, made_is}
use Rattle.quiesce_laws.proofs.MakingLaws.{Making}
use Rattle.quiesce_laws.proofs.TurningLaws.{IsLivePort}
use Rattle.change_plan_laws.specs.Commit.{is_frozen_or_new, is_one_of, new_links, ports_to_reopen, stands_in, work}
use Rattle.change_plan_laws.specs.Committing.{IsTouchedSlot}
use Rattle.change_plan_laws.proofs.ReadyLemmas.{IsReady}
use Rattle.change_plan_laws.proofs.LinkedLemmas.{are_links}
use Rattle.change_plan_laws.proofs.PlannedLemmas.{is_work}
use Rattle.quiesce_laws.proofs.MemberLaws.{selected}
use Rattle.change_plan_laws.proofs.StandingLaws.{in_if_stands}
use Rattle.quiesce_laws.specs.Commits.{AreNoted, IsCommit, AreLinks, IsWork}
use Rattle.base.proofs.ContainsLaws.{any_if}

module _ (old new : Graph) (plan : Plan) (c : Configuration) (ready : IsReady old new plan c) where
  is_frozen : (n i : ℕ) → Contains plan.freeze i → StandsAt c old.nodes n i → is_one_of old plan.freeze c n ≡ true
  is_frozen n i frozen s = any_if (λ j. stands_in old j c n) plan.freeze i frozen (in_if_stands c old n i s)

  -- a node that isn't frozen isn't touched
  pub untouched : (n : ℕ) → is_one_of old plan.freeze c n ≡ false → IsTouchedSlot old new c n → ⊥
  untouched n unfrozen t = both_ways (is_one_of old plan.freeze c n) unfrozen (is_frozen n t.0 ((ready.steps.freeze t.0).1 (inl t.1)) t.2)

  frozen_noted : (q i : ℕ) → Contains plan.freeze i → StandsAt c old.nodes (owner c q) i → is_frozen_or_new old plan c q ≡ true
  frozen_noted q i frozen s = or_right (not (nat_lt q (length c.gates))) (is_one_of old plan.freeze c (owner c q)) (is_frozen (owner c q) i frozen s)

  noted : AreNoted c (IsTouchedSlot old new c) (is_frozen_or_new old plan c)
  noted = record {
    fresh = λ q past. or_left (not (nat_lt q (length c.gates))) (is_one_of old plan.freeze c (owner c q))
        (not_from_false (nat_lt q (length c.gates)) (false_from_ne_true (nat_lt q (length c.gates)) (λ h. let low = ltb-true q (length c.gates) h in absurd (omega arith))));
    own = λ q low t. frozen_noted q t.0 ((ready.steps.freeze t.0).1 (inl t.1)) t.2;
    reaching = λ n q t r.
        let there = ready.reached n t.0 q t.2 r in
        frozen_noted q there.0.node ((ready.steps.freeze there.0.node).1 (inr (t.0, there.0.require, t.1, there.2))) there.1.stands;
  }

  works : IsWork c new (IsTouchedSlot old new c) (work old new plan c)
  works = is_work old new plan c ready

  links : AreLinks c new (IsTouchedSlot old new c) (change_all c (work_of (work old new plan c))) (new_links new plan (change_all c (work_of (work old new plan c))))
  links =
      let w = work old new plan c in
      let Touched = IsTouchedSlot old new c in
      let ground : Ground c (IsTouchedSlot old new c) (is_frozen_or_new old plan c) = record { sound = ready.after.sound; are_noted = noted } in
      are_links old new plan c ready (change_all c (work_of w))
      (subst (λ d. Making c new Touched d []) (sym (made_is c new ready.new_sound Touched (is_frozen_or_new old plan c) ground ready.after.owners_live ready.after.gone ready.after.named w works))
      (all_made c new ready.new_sound Touched (is_frozen_or_new old plan c) ground ready.after.owners_live ready.after.gone ready.after.named w works))

  pub commit : IsCommit c new (IsTouchedSlot old new c) (is_frozen_or_new old plan c) (work old new plan c) (new_links new plan (change_all c (work_of (work old new plan c))))
  commit = record {
    sound = ready.new_sound;
    are_noted = noted;
    is_work = works;
    are_links = links;
  }

-- the ports that are reopened are those of live nodes that were frozen or made
module _ (old : Graph) (plan : Plan) (c d : Configuration) where
  pub reopened_live : (p : ℕ) → In (ports_to_reopen old plan c d) p → IsLivePort d p
  reopened_live p i =
      let s = selected (λ p. is_live d (owner d p) && (not (nat_lt p (length c.gates)) || is_one_of old plan.freeze c (owner c p))) 0 (length d.gates) p i in
      record {
        made = let low = s.below in omega arith;
        live = (and_parts (is_live d (owner d p)) (not (nat_lt p (length c.gates)) || is_one_of old plan.freeze c (owner c p)) s.passes).0;
      }

  pub unopened : (p : ℕ) → p < length c.gates → is_one_of old plan.freeze c (owner c p) ≡ false → In (ports_to_reopen old plan c d) p → ⊥
  unopened p low unfrozen i =
      let s = selected (λ p. is_live d (owner d p) && (not (nat_lt p (length c.gates)) || is_one_of old plan.freeze c (owner c p))) 0 (length d.gates) p i in
      let parts = and_parts (is_live d (owner d p)) (not (nat_lt p (length c.gates)) || is_one_of old plan.freeze c (owner c p)) s.passes in
      ⊎_elim
      (λ (past : not (nat_lt p (length c.gates)) ≡ true). both_ways (nat_lt p (length c.gates)) (not-true (nat_lt p (length c.gates)) past) (lt-ltb p (length c.gates) low))
      (λ (frozen : is_one_of old plan.freeze c (owner c p) ≡ true). both_ways (is_one_of old plan.freeze c (owner c p)) unfrozen frozen)
      (or_cases (not (nat_lt p (length c.gates))) (is_one_of old plan.freeze c (owner c p)) parts.1)
