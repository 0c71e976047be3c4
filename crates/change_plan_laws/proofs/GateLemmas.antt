-- Which gates are closed for a change, and that they are open again after it.
use Rattle.std.proofs.Common.{◌≡◌, ℕ, ◌<◌, ◌≤◌, true, false, not, ◌&&◌, ◌||◌, List, [], ◌∷◌, ◌++◌, map, length, None, refl, sym, ap, ◌∙◌, ⊎_elim, arith, Contains}
use Rattle.std.specs.Prelude.{filter, nat_lt, bytes_eq}
use Rattle.std.proofs.lemmas.Bool.{and_from, and_parts, both_ways, cases_Bool, cases_lt, false_from_ne_true, ltb-true, not_from_false, or_left, or_right}
use Rattle.change_plan.specs.declared.plan_data.Move.{Move}
use Rattle.change_plan.specs.declared.plan_data.Plan.{Plan}
use Rattle.config_graph.specs.Graph.{Graph}
use Rattle.quiesce_core.specs.declared.event.Event.{Event}
use Rattle.quiesce_core.specs.declared.event.Event.TheVariants.{Close}
use Rattle.quiesce_core.specs.declared.state.Slot.{Slot}
use Rattle.quiesce_core.specs.Doers.{is_of_change}
use Rattle.quiesce_core.specs.Rules.{denial}
use Rattle.quiesce_core.specs.Runs.{IsRun, state_after}
use Rattle.quiesce_core.specs.State.{Configuration, gate, is_live, owner, slot}
use Rattle.base.proofs.OptionLaws.{map_or_at, map_or_true}
use Rattle.base.proofs.ContainsLaws.{any_of}
use Rattle.quiesce_laws.specs.Lists.{In}
use Rattle.quiesce_laws.specs.Steps.{change_all}
use Rattle.quiesce_laws.proofs.GateLaws.{all_closed, close_allowed}
use Rattle.quiesce_laws.proofs.TurningLaws.{IsLivePort, SameLinks, Turning, live_still}
use Rattle.change_plan_laws.specs.Commit.{commit_events, commit_steps, is_at, is_one_of, node_path, ports_to_close, ports_to_reopen, stands_in}
use Rattle.change_plan_laws.specs.Committing.{MayCommit}
use Rattle.change_plan_laws.proofs.CommitLemmas.{flag_stays, opened_at, same_links}
use Rattle.quiesce_laws.proofs.MemberLaws.{in_contains, select, selected}

module _ (old : Graph) (plan : Plan) (c : Configuration) where
  -- a node of the old graph that stands somewhere is live
  one_is_live : (n : ℕ) → is_one_of old plan.freeze c n ≡ true → is_live c n ≡ true
  one_is_live n h =
      let i = any_of (λ j. stands_in old j c n) plan.freeze h in
      let m = map_or_true (is_at (node_path old i.0)) (slot c n) i.2 in
      map_or_at (λ (s : Slot). s.live) (slot c n) false m.0 m.1 ∙ (and_parts m.0.live (bytes_eq m.0.node.path (node_path old i.0)) m.2).0

  pub closes_live : (p : ℕ) → In (ports_to_close old plan c) p → IsLivePort c p
  closes_live p i =
      let s = selected (λ q. is_one_of old plan.freeze c (owner c q)) 0 (length c.gates) p i in
      record { made = let low = s.below in omega arith; live = one_is_live (owner c p) s.passes }

  pub unclosed : (p : ℕ) → is_one_of old plan.freeze c (owner c p) ≡ false → In (ports_to_close old plan c) p → ⊥
  unclosed p unfrozen i = both_ways (is_one_of old plan.freeze c (owner c p)) unfrozen (selected (λ q. is_one_of old plan.freeze c (owner c q)) 0 (length c.gates) p i).passes

  pub is_closed_for_it : (p : ℕ) → p < length c.gates → is_one_of old plan.freeze c (owner c p) ≡ true → Contains (ports_to_close old plan c) p
  is_closed_for_it p low frozen = in_contains (ports_to_close old plan c) p (select (λ q. is_one_of old plan.freeze c (owner c q)) 0 (length c.gates) p (omega arith) (omega (arith, low)) frozen)

pub close_at : (old : Graph) (plan : Plan) (es more_ left : List Event) (e : Event) → IsRun (es ++ more_) → filter is_of_change more_ ++ e ∷ left ≡ map Close (ports_to_close old plan (state_after es).config) → denial (state_after (es ++ more_)) e ≡ None
close_at old plan es more_ left e run is = close_allowed es (ports_to_close old plan (state_after es).config) (closes_live old plan (state_after es).config) more_ left e run is

module _ (old new : Graph) (moves : List Move) (plan : Plan) (before between : List Event) (may : MayCommit old new moves plan (before ++ between))
    (closing : filter is_of_change between ≡ map Close (ports_to_close old plan (state_after before).config)) where
  turned : Turning (state_after before).config true (ports_to_close old plan (state_after before).config) (state_after (before ++ between)).config []
  turned = all_closed before (ports_to_close old plan (state_after before).config) (closes_live old plan (state_after before).config) between closing

  -- the closes change no node
  same_frozen : (n : ℕ) → is_one_of old plan.freeze (state_after (before ++ between)).config n ≡ is_one_of old plan.freeze (state_after before).config n
  same_frozen n = ap (λ (s : List Slot). is_one_of old plan.freeze (record { slots = s; gates = [] }) n) turned.same.slots

  -- a port of a node that isn't frozen is as it was
  flag_before : (p : ℕ) → is_one_of old plan.freeze (state_after (before ++ between)).config (owner (state_after (before ++ between)).config p) ≡ false
      → (gate (state_after (before ++ between)).config p).closed ≡ (gate (state_after before).config p).closed
  flag_before p unfrozen =
      let b = (state_after before).config in
      turned.others p (unclosed old plan b p (ap (is_one_of old plan.freeze b) (sym (turned.same.owners p)) ∙ sym (same_frozen (owner (state_after (before ++ between)).config p)) ∙ unfrozen))

  append_nil : (es : List Event) → es ++ [] ≡ es
  append_nil [] = refl
  append_nil (e ∷ es) = ap (λ xs. e ∷ xs) (append_nil es)

  pub opens_again : (more_ : List Event) → filter is_of_change more_ ≡ commit_events old new plan (state_after (before ++ between)).config → (p : ℕ)
      → p < length (state_after ((before ++ between) ++ more_)).config.gates → is_live (state_after ((before ++ between) ++ more_)).config (owner (state_after ((before ++ between) ++ more_)).config p) ≡ true
      → (p < length (state_after before).config.gates → (gate (state_after before).config p).closed ≡ false) → (gate (state_after ((before ++ between) ++ more_)).config p).closed ≡ false
  opens_again more_ is p made live was_open =
      let es = before ++ between in
      let b = (state_after before).config in
      let c = (state_after (before ++ between)).config in
      let d = change_all c (commit_steps old new plan c) in
      let now = (state_after ((before ++ between) ++ more_)).config in
      let same : SameLinks d now = same_links old new moves plan es may more_ is in
      let live_d : is_live d (owner d p) ≡ true = ap (is_live d) (sym (same.owners p)) ∙ sym (live_still d now same (owner now p)) ∙ live in
      let chosen : not (nat_lt p (length c.gates)) || is_one_of old plan.freeze c (owner c p) ≡ true → In (ports_to_reopen old plan c d) p =
      λ h. select (λ q. is_live d (owner d q) && (not (nat_lt q (length c.gates)) || is_one_of old plan.freeze c (owner c q))) 0 (length d.gates) p (omega arith) (let long = same.long in omega (arith, made, long))
      (and_from (is_live d (owner d p)) (not (nat_lt p (length c.gates)) || is_one_of old plan.freeze c (owner c p)) live_d h) in
      ⊎_elim
      (λ (low : p < length c.gates). ⊎_elim
      (λ (frozen : is_one_of old plan.freeze c (owner c p) ≡ true).
      opened_at old new moves plan es may p (chosen (or_right (not (nat_lt p (length c.gates))) (is_one_of old plan.freeze c (owner c p)) frozen)) more_ is)
      (λ (unfrozen : is_one_of old plan.freeze c (owner c p) ≡ false).
      flag_stays old new moves plan es may p low unfrozen more_ [] (append_nil (filter is_of_change more_) ∙ is)
      ∙ flag_before p unfrozen ∙ was_open (let long = turned.same.long in omega (arith, low, long)))
      (cases_Bool (is_one_of old plan.freeze c (owner c p))))
      (λ (past : length c.gates ≤ p).
      opened_at old new moves plan es may p (chosen (or_left (not (nat_lt p (length c.gates))) (is_one_of old plan.freeze c (owner c p))
      (not_from_false (nat_lt p (length c.gates)) (false_from_ne_true (nat_lt p (length c.gates)) (λ h. let low = ltb-true p (length c.gates) h in absurd (omega arith)))))) more_ is)
      (cases_lt p (length c.gates))
