-- Each change that can be planned may be committed: once its gates are closed where no node did an event.
use Rattle.std.proofs.Common.{◌≡◌, ℕ, zero, suc, ◌<◌, true, false, ◌||◌, List, [], ◌∷◌, ◌++◌, map, length, replicate, refl, sym, ap, ◌∙◌, subst, ⊎_elim, arith}
use Rattle.std.specs.Prelude.{fold, is_some, slice_index_or}
use Rattle.std.specs.List.{list_all}
use Rattle.std.proofs.lemmas.Bool.{and_from, and_parts, both_ways, or_left}
use Rattle.change_plan.specs.Plans.{IsPlanOf}
use Rattle.change_plan.specs.Refusals.{CanPlan}
use Rattle.change_plan.specs.declared.plan_data.Move.{Move}
use Rattle.change_plan.specs.declared.plan_data.Plan.{Plan}
use Rattle.config_graph.specs.Graph.{Graph, IsGraph}
use Rattle.config_graph.specs.Kinds.{row}
use Rattle.config_graph.specs.Sound.{Sound}
use Rattle.config_graph.specs.declared.node.Made.{Made}
use Rattle.quiesce_word.specs.Phases.{is_idle}
use Rattle.quiesce_core.specs.declared.event.Event.{Event}
use Rattle.quiesce_core.specs.declared.event.Event.TheVariants.{Begin, Call, Take, Give, End, More, Ask, Hear, Miss, Close, Reopen, Make, Link, Unlink, Remove}
use Rattle.quiesce_core.specs.declared.state.Exchange.{Exchange}
use Rattle.quiesce_core.specs.declared.state.Slot.{Slot}
use Rattle.quiesce_core.specs.Doers.{is_of_change}
use Rattle.quiesce_core.specs.Effect.{effect}
use Rattle.quiesce_core.specs.Live.{IsGraphOf}
use Rattle.quiesce_core.specs.Runs.{IsRun, state_after}
use Rattle.quiesce_core.specs.State.{State, empty, exchange, fresh_exchange, gate, owner}
use Rattle.quiesce_laws.specs.Lists.{In}
use Rattle.quiesce_laws.proofs.GateLaws.{all_closed, closes_are_of_change, closes_run}
use Rattle.quiesce_laws.proofs.MeanwhileLaws.{after_more}
use Rattle.quiesce_laws.proofs.MemberLaws.{select}
use Rattle.quiesce_laws.proofs.TurningLaws.{Turning, same_graph}
use Rattle.change_plan_laws.specs.Commit.{is_one_of, ports_to_close}
use Rattle.change_plan_laws.specs.Committing.{MayCommit, made_in}
use Rattle.change_plan_laws.proofs.GateLemmas.{closes_live}

-- at no port anything is under way
abbrev AllIdle : State → Type 0
AllIdle s = (p : ℕ) → is_idle (exchange s p).phase ≡ true

fresh_idle : (k p : ℕ) → is_idle (slice_index_or (replicate k fresh_exchange) p fresh_exchange).phase ≡ true
fresh_idle zero p = refl
fresh_idle (suc k) zero = refl
fresh_idle (suc k) (suc p) = fresh_idle k p

idle_behind : (xs : List Exchange) (k : ℕ) → ((p : ℕ) → is_idle (slice_index_or xs p fresh_exchange).phase ≡ true)
    → (p : ℕ) → is_idle (slice_index_or (xs ++ replicate k fresh_exchange) p fresh_exchange).phase ≡ true
idle_behind [] k h p = fresh_idle k p
idle_behind (x ∷ xs) k h zero = h 0
idle_behind (x ∷ xs) k h (suc p) = idle_behind xs k (λ q. h (suc q)) p

idle_next : (s : State) (e : Event) → is_of_change e ≡ true → AllIdle s → AllIdle (effect s e)
idle_next s (Begin p k v) h idle = absurd (both_ways false refl h)
idle_next s (Call p k v) h idle = absurd (both_ways false refl h)
idle_next s (Miss p) h idle = absurd (both_ways false refl h)
idle_next s (Take p k v) h idle = absurd (both_ways false refl h)
idle_next s (Give p k v) h idle = absurd (both_ways false refl h)
idle_next s (More p k v) h idle = absurd (both_ways false refl h)
idle_next s (Ask p k v) h idle = absurd (both_ways false refl h)
idle_next s (Hear p k v) h idle = absurd (both_ways false refl h)
idle_next s (End p k v) h idle = absurd (both_ways false refl h)
idle_next s (Close p) h idle = idle
idle_next s (Reopen p) h idle = idle
idle_next s (Make n node from) h idle = idle_behind s.traffic.exchanges (length (row node.kind).requires_) idle
idle_next s (Link p n x) h idle = idle
idle_next s (Unlink p) h idle = idle
idle_next s (Remove n) h idle = idle

-- so long as the change alone does events
idle_after : (s : State) (es : List Event) → list_all is_of_change es ≡ true → AllIdle s → AllIdle (fold effect s es)
idle_after s [] h idle = idle
idle_after s (e ∷ es) h idle =
    let parts = and_parts (is_of_change e) (list_all is_of_change es) h in
    idle_after (effect s e) es parts.1 (idle_next s e parts.0 idle)

all_of_change : (ports : List ℕ) → list_all is_of_change (map Close ports) ≡ true
all_of_change [] = refl
all_of_change (p ∷ ports) = all_of_change ports

module _ (old new : Graph) (moves : List Move) (plan : Plan) (es : List Event) where
  module _ (undone : list_all is_of_change es ≡ true) where
    idle : AllIdle (state_after (es ++ map Close (ports_to_close old plan (state_after es).config)))
    idle =
        let shuts = map Close (ports_to_close old plan (state_after es).config) in
        subst AllIdle (sym (after_more empty es shuts))
        (idle_after (state_after es) shuts (all_of_change (ports_to_close old plan (state_after es).config)) (idle_after empty es undone (λ p. refl)))

  shut : Turning (state_after es).config true (ports_to_close old plan (state_after es).config) (state_after (es ++ map Close (ports_to_close old plan (state_after es).config))).config []
  shut =
      let ports = ports_to_close old plan (state_after es).config in
      all_closed es ports (closes_live old plan (state_after es).config) (map Close ports) (closes_are_of_change ports)

  -- the gates of frozen nodes are closed
  shut_at : (p : ℕ) → p < length (state_after (es ++ map Close (ports_to_close old plan (state_after es).config))).config.gates
      → is_one_of old plan.freeze (state_after (es ++ map Close (ports_to_close old plan (state_after es).config))).config (owner (state_after (es ++ map Close (ports_to_close old plan (state_after es).config))).config p) ≡ true
      → (gate (state_after (es ++ map Close (ports_to_close old plan (state_after es).config))).config p).closed ≡ true
  shut_at p low frozen =
      let c = (state_after es).config in
      let d = (state_after (es ++ map Close (ports_to_close old plan c))).config in
      let same = shut.same in
      let before : is_one_of old plan.freeze c (owner c p) ≡ true =
      ap (is_one_of old plan.freeze c) (sym (same.owners p)) ∙ sym (ap (λ (s : List Slot). is_one_of old plan.freeze (record { slots = s; gates = [] }) (owner d p)) same.slots) ∙ frozen in
      ⊎_elim (λ (j : In [] p). absurd j) (λ (e : (gate d p).closed ≡ true). e)
      (shut.turned p (select (λ q. is_one_of old plan.freeze c (owner c q)) 0 (length c.gates) p (omega arith) (let long = same.long in omega (arith, low, long)) before))

  pub may_commit : IsGraph old → IsGraph new → Sound new → IsPlanOf old new moves plan → IsRun es → list_all is_of_change es ≡ true → IsGraphOf (state_after es).config old
      → CanPlan old new moves (made_in (state_after es).config) → MayCommit old new moves plan (es ++ map Close (ports_to_close old plan (state_after es).config))
  may_commit old_graph new_graph new_sound is_plan run undone graph can =
      let c = (state_after es).config in
      let after = es ++ map Close (ports_to_close old plan c) in
      let d = (state_after after).config in
      let same = shut.same in
      let made : made_in c ≡ made_in d =
      ap (λ (s : List Slot). made_in (record { slots = s; gates = c.gates })) (sym same.slots) ∙ ap (λ k. let m : Made = record { nodes = length d.slots; ports = k } in m) (sym same.long) in
      record {
        old_graph = old_graph;
        new_graph = new_graph;
        new_sound = new_sound;
        is_plan = is_plan;
        can_plan = subst (CanPlan old new moves) made can;
        run = closes_run es (ports_to_close old plan c) (closes_live old plan c) run;
        graph = same_graph c d old same graph;
        drained = λ p low frozen.
            and_from (gate d p).closed (is_idle (exchange (state_after after) p).phase || is_some (exchange (state_after after) p).within) (shut_at p low frozen)
            (or_left (is_idle (exchange (state_after after) p).phase) (is_some (exchange (state_after after) p).within) (idle undone p));
      }
