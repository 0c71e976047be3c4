-- Runs: their fronts, one event more, runs on literals, who does what in them, and what holds after each.
use Rattle.std.proofs.Common.{◌≡◌, ◌∙◌, ℕ, true, false, cond, List, [], ◌∷◌, ◌++◌, append_assoc, Some, None, refl, ap, sym, subst, ⊎_elim, Bool}
use Rattle.std.specs.Prelude.{◌↔◌, fold, filter, is_none, option_map, if◌then◌else◌}
use Rattle.std.proofs.lemmas.Bool.{and_from, and_parts, both_ways, cases_Bool}
use Rattle.std.proofs.lemmas.List.{append-nil}
use Rattle.std.proofs.lemmas.List.Sums.{fold_push}
use Rattle.quiesce_core.specs.declared.event.Event.{Event}
use Rattle.quiesce_core.specs.declared.event.Event.TheVariants.{Begin, Call, Take, Give, End, More, Ask, Hear, Miss, Close, Reopen, Make, Link, Unlink, Remove}
use Rattle.base.specs.Each.{EachAfter}
use Rattle.base.proofs.EachLaws.{each_parts, each_pushed}
use Rattle.base.proofs.OptionLaws.{None-from_is_none, Some-from_is_some}
use Rattle.config_graph.specs.declared.node.Target.{Target}
use Rattle.quiesce_core.specs.State.{Configuration, State, empty, owner, target, exchange}
use Rattle.quiesce_core.specs.Rules.{denial}
use Rattle.quiesce_core.specs.Doers.{is_of_change}
use Rattle.quiesce_core.specs.Effect.{change_next, configuration_after, effect}
use Rattle.quiesce_core.specs.Legal.{Legal}
use Rattle.quiesce_core.specs.Runs.{Step, IsRun, can_run, doer, done_by, is_doer, state_after, done_from}
use Rattle.quiesce_core.specs.Named.{AreNamed}
use Rattle.quiesce_core.specs.Knowledge.{Knows}
use Rattle.quiesce_core.specs.WellFormed.{IsWellFormed}
use Rattle.quiesce_core.specs.Traffic.{IsConsistent}
use Rattle.quiesce_core.proofs.LegalLaws.{legal}
use Rattle.quiesce_core.proofs.SoundnessLaws.{well_formed_next, well_formed_empty}
use Rattle.quiesce_core.proofs.StateLaws.{taken_is}
use Rattle.quiesce_word.proofs.PhaseLaws.{asked_busy}
use Rattle.quiesce_core.proofs.TrafficLaws.{consistent_next, consistent_empty}
use Rattle.quiesce_core.proofs.NamedLemmas.{named_next, named_empty}
use Rattle.quiesce_core.proofs.KnowledgeLemmas.{Told, mine, done_more, told_next, told_empty}
use Rattle.quiesce_core.proofs.ReachLaws.{owner_of}

abbrev pub StepAt : List Event → Event → Type 0
StepAt before e = Step (state_after before) e (state_after (before ++ e ∷ []))

-- a run's front is a run, and what follows are steps from there on
pub run_parts : (es more_ : List Event) → IsRun (es ++ more_) → IsRun es × EachAfter StepAt es more_
run_parts es more_ h = each_parts StepAt [] es more_ h

pub fronts_are_runs : (es more_ : List Event) → IsRun (es ++ more_) → IsRun es
fronts_are_runs es more_ h = (run_parts es more_ h).0

pub last_step : (es : List Event) (e : Event) → IsRun (es ++ e ∷ []) → IsRun es × Step (state_after es) e (state_after (es ++ e ∷ []))
last_step es e h = let w = run_parts es (e ∷ []) h in (w.0, w.1.0)

-- the state after one event more
pub state_more : (es : List Event) (e : Event) → state_after (es ++ e ∷ []) ≡ effect (state_after es) e
state_more es e = fold_push effect empty es e

-- a run grows by an event that no rule denies
pub runs_grow : (es : List Event) (e : Event) → IsRun (es ++ e ∷ []) ↔ (IsRun es × (denial (state_after es) e ≡ None))
runs_grow es e = (
  λ h. let w = last_step es e h in (w.0, w.1.allowed),
  λ w. (each_pushed StepAt es e).1 (w.0, record { allowed = w.1; changed = state_more es e }),
)

-- the events of a node, with one event more
pub done_by_more : (n : ℕ) (es : List Event) (e : Event) → done_by n (es ++ e ∷ []) ≡ done_by n es ++ cond (is_doer (state_after es) n e) (e ∷ []) []
done_by_more n es e = done_more empty n es e

-- one event more that node n did, or that it didn't
pub done_by_own : (n : ℕ) (es : List Event) (e : Event) → is_doer (state_after es) n e ≡ true → done_by n (es ++ e ∷ []) ≡ done_by n es ++ e ∷ []
done_by_own n es e own = done_by_more n es e ∙ ap (λ b. done_by n es ++ cond b (e ∷ []) []) own

pub done_by_other : (n : ℕ) (es : List Event) (e : Event) → is_doer (state_after es) n e ≡ false → done_by n (es ++ e ∷ []) ≡ done_by n es
done_by_other n es e other = done_by_more n es e ∙ ap (λ b. done_by n es ++ cond b (e ∷ []) []) other ∙ append-nil (done_by n es)

run_from : (before es : List Event) → can_run (state_after before) es ≡ true → EachAfter StepAt before es
run_from before [] h = tt
run_from before (e ∷ es) h =
    let next = state_more before e in
    let parts = and_parts (is_none (denial (state_after before) e)) (can_run (effect (state_after before) e) es) h in
    (record { allowed = None-from_is_none (denial (state_after before) e) parts.0; changed = next }, run_from (before ++ e ∷ []) es (ap (λ s. can_run s es) next ∙ parts.1))

from_run : (before es : List Event) → EachAfter StepAt before es → can_run (state_after before) es ≡ true
from_run before [] h = refl
from_run before (e ∷ es) h =
    and_from (is_none (denial (state_after before) e)) (can_run (effect (state_after before) e) es) (ap is_none h.0.allowed)
    (ap (λ s. can_run s es) (sym (state_more before e)) ∙ from_run (before ++ e ∷ []) es h.1)

-- a run is found by computing
pub runs_are_found : (es : List Event) → IsRun es ↔ (can_run empty es ≡ true)
runs_are_found es = (from_run [] es, run_from [] es)

pub run_if : (es : List Event) → can_run empty es ≡ true → IsRun es
run_if es h = (runs_are_found es).1 h

-- what the change does no node does, and the other way round

pub no_node_if : (s : State) (e : Event) → is_of_change e ≡ true → doer s e ≡ None
no_node_if s (Close p) h = refl
no_node_if s (Reopen p) h = refl
no_node_if s (Make n node from) h = refl
no_node_if s (Link p n x) h = refl
no_node_if s (Unlink p) h = refl
no_node_if s (Remove n) h = refl
no_node_if s _ h = absurd (both_ways false refl h)

-- an event of a node that may happen has its doer: who is to take, give, reply or hear is there, since a busy port is linked
pub doer_there : (s : State) (e : Event) → IsConsistent s → Legal s e → is_of_change e ≡ false → (n : ℕ) × (doer s e ≡ Some n)
doer_there s (Begin p k v) c l h = (owner s.config p, refl)
doer_there s (Call p k v) c l h = (owner s.config p, refl)
doer_there s (Miss p) c l h = (owner s.config p, refl)
doer_there s (Ask p k v) c l h = (owner s.config p, refl)
doer_there s (End p k v) c l h = (owner s.config p, refl)
doer_there s (Take p k v) c l h =
    let t = Some-from_is_some (target s.config p) (c.linked p (asked_busy (exchange s p).phase l.asked)) in
    (t.0.node, ap (λ o. option_map (λ (u : Target). u.node) o) t.1)
doer_there s (Give p k v) c l h = let t = taken_is s p l.taken in (t.to.node, ap (λ o. option_map (λ (u : Target). u.node) o) t.leads)
doer_there s (More p k v) c l h = let t = taken_is s p l.taken in (t.to.node, ap (λ o. option_map (λ (u : Target). u.node) o) t.leads)
doer_there s (Hear p k v) c l h = let t = taken_is s p l.taken in (t.to.node, ap (λ o. option_map (λ (u : Target). u.node) o) t.leads)
doer_there s _ c l h = absurd (both_ways true h refl)

pub changes_are_of_no_node : (s : State) (e : Event) → IsConsistent s → denial s e ≡ None → (is_of_change e ≡ true) ↔ (doer s e ≡ None)
changes_are_of_no_node s e c allowed = (
  no_node_if s e,
  λ none_. ⊎_elim
      (λ (yes_ : is_of_change e ≡ true). yes_)
      (λ (no_ : is_of_change e ≡ false). let w = doer_there s e c (legal s e allowed) no_ in absurd (cc (w.1, none_)))
      (cases_Bool (is_of_change e)),
)

-- configurations

pub effect_config : (s : State) (e : Event) → (effect s e).config ≡ change_next s.config e
effect_config s (Begin p k v) = refl
effect_config s _ = refl

-- an event of nodes leaves the configuration
pub change_only : (c : Configuration) (e : Event) → is_of_change e ≡ false → change_next c e ≡ c
change_only c (Close p) h = absurd (both_ways true h refl)
change_only c (Reopen p) h = absurd (both_ways true h refl)
change_only c (Make n node from) h = absurd (both_ways true h refl)
change_only c (Link p n x) h = absurd (both_ways true h refl)
change_only c (Unlink p) h = absurd (both_ways true h refl)
change_only c (Remove n) h = absurd (both_ways true h refl)
change_only c _ h = refl

pub node_events_keep_the_configuration : (s : State) (e : Event) → is_of_change e ≡ false → (effect s e).config ≡ s.config
node_events_keep_the_configuration s e h = effect_config s e ∙ change_only s.config e h

configuration_from : (s : State) (es : List Event) → (fold effect s es).config ≡ fold change_next s.config (filter is_of_change es)
configuration_from s [] = refl
configuration_from s (e ∷ es) = configuration_from (effect s e) es ∙ ⊎_elim
    (λ (yes_ : is_of_change e ≡ true). rw yes_ (ap (λ c. fold change_next c (filter is_of_change es)) (effect_config s e)))
    (λ (no_ : is_of_change e ≡ false). rw no_ (ap (λ c. fold change_next c (filter is_of_change es)) (node_events_keep_the_configuration s e no_)))
    (cases_Bool (is_of_change e))

-- the configuration after events is that of the change's events alone
pub changes_make_the_configuration : (es : List Event) → (state_after es).config ≡ configuration_after (filter is_of_change es)
changes_make_the_configuration es = configuration_from empty es

-- what holds after each run

well_formed_from : (before es : List Event) → EachAfter StepAt before es → IsWellFormed (state_after before) → IsWellFormed (state_after (before ++ es))
well_formed_from before [] h w = subst (λ xs. IsWellFormed (state_after xs)) (sym (append-nil before)) w
well_formed_from before (e ∷ es) h w =
    let next : IsWellFormed (state_after (before ++ e ∷ [])) =
    subst (λ s. IsWellFormed s) (sym h.0.changed) (well_formed_next (state_after before) e w (legal (state_after before) e h.0.allowed)) in
    subst (λ xs. IsWellFormed (state_after xs)) (append_assoc before (e ∷ []) es) (well_formed_from (before ++ e ∷ []) es h.1 next)

-- the state after a run is well formed
pub runs_are_well_formed : (es : List Event) → IsRun es → IsWellFormed (state_after es)
runs_are_well_formed es h = well_formed_from [] es h well_formed_empty

consistent_from : (before es : List Event) → EachAfter StepAt before es → IsWellFormed (state_after before) → IsConsistent (state_after before) → IsConsistent (state_after (before ++ es))
consistent_from before [] h w k = subst (λ xs. IsConsistent (state_after xs)) (sym (append-nil before)) k
consistent_from before (e ∷ es) h w k =
    let may = legal (state_after before) e h.0.allowed in
    let next : IsWellFormed (state_after (before ++ e ∷ [])) = subst (λ s. IsWellFormed s) (sym h.0.changed) (well_formed_next (state_after before) e w may) in
    let traffic : IsConsistent (state_after (before ++ e ∷ [])) = subst (λ s. IsConsistent s) (sym h.0.changed) (consistent_next (state_after before) e w k may) in
    subst (λ xs. IsConsistent (state_after xs)) (append_assoc before (e ∷ []) es) (consistent_from (before ++ e ∷ []) es h.1 next traffic)

-- the traffic after a run is consistent
pub runs_are_consistent : (es : List Event) → IsRun es → IsConsistent (state_after es)
runs_are_consistent es h = consistent_from [] es h well_formed_empty consistent_empty

pub changes_are_of_no_node_there : (before after : List Event) (e : Event) → IsRun (before ++ e ∷ after) → (is_of_change e ≡ true) ↔ (doer (state_after before) e ≡ None)
changes_are_of_no_node_there before after e h =
    let parts = run_parts before (e ∷ after) h in changes_are_of_no_node (state_after before) e (runs_are_consistent before parts.0) parts.1.0.allowed

-- a step keeps both
pub steps_keep_consistency : (s t : State) (e : Event) → IsWellFormed s → IsConsistent s → Step s e t → IsWellFormed t × IsConsistent t
steps_keep_consistency s t e w k step =
    let may = legal s e step.allowed in
    (subst (λ u. IsWellFormed u) (sym step.changed) (well_formed_next s e w may), subst (λ u. IsConsistent u) (sym step.changed) (consistent_next s e w k may))

told_from :
    (n : ℕ) (before es : List Event) → EachAfter StepAt before es → IsWellFormed (state_after before) → IsConsistent (state_after before) → Told (state_after before) n (done_by n before)
    → Told (state_after (before ++ es)) n (done_by n (before ++ es))
told_from n before [] h w k t = subst (λ xs. Told (state_after xs) n (done_by n xs)) (sym (append-nil before)) t
told_from n before (e ∷ es) h w k t =
    let may = legal (state_after before) e h.0.allowed in
    let next : IsWellFormed (state_after (before ++ e ∷ [])) = subst (λ s. IsWellFormed s) (sym h.0.changed) (well_formed_next (state_after before) e w may) in
    let traffic : IsConsistent (state_after (before ++ e ∷ [])) = subst (λ s. IsConsistent s) (sym h.0.changed) (consistent_next (state_after before) e w k may) in
    let told : Told (state_after (before ++ e ∷ [])) n (done_by n (before ++ e ∷ [])) =
    subst (λ ys. Told (state_after (before ++ e ∷ [])) n ys) (sym (done_more empty n before e))
    (subst (λ s. Told s n (done_by n before ++ mine (state_after before) n e)) (sym h.0.changed) (told_next (state_after before) e n (done_by n before) w k may t)) in
    subst (λ xs. Told (state_after xs) n (done_by n xs)) (append_assoc before (e ∷ []) es) (told_from n (before ++ e ∷ []) es h.1 next traffic told)

-- a node's own events tell what the state has of it
pub nodes_know : (es : List Event) → IsRun es → (n : ℕ) → Knows (state_after es) n (done_by n es)
nodes_know es h n =
    let t = told_from n [] es h well_formed_empty consistent_empty (told_empty n) in
    record { services = t.services; ports = λ p o. t.ports p (λ made. owner_of (state_after es).config (runs_are_well_formed es h).sound n p o) }

named_from : (before es : List Event) → EachAfter StepAt before es → AreNamed (state_after before).config → AreNamed (state_after (before ++ es)).config
named_from before [] h a = subst (λ xs. AreNamed (state_after xs).config) (sym (append-nil before)) a
named_from before (e ∷ es) h a =
    let next : AreNamed (state_after (before ++ e ∷ [])).config =
    subst (λ s. AreNamed s.config) (sym h.0.changed) (named_next (state_after before) e a (legal (state_after before) e h.0.allowed)) in
    subst (λ xs. AreNamed (state_after xs).config) (append_assoc before (e ∷ []) es) (named_from (before ++ e ∷ []) es h.1 next)

-- live nodes have different paths after a run, and each node its argument
pub nodes_are_named : (es : List Event) → IsRun es → AreNamed (state_after es).config
nodes_are_named es h = named_from [] es h named_empty

pub done_parts : (s : State) (n : ℕ) (xs ys : List Event) → done_from s n (xs ++ ys) ≡ done_from s n xs ++ done_from (fold effect s xs) n ys
done_parts s n [] ys = refl
done_parts s n (e ∷ xs) ys = by (is_doer s n e) (done_parts (effect s e) n xs ys)
  where
    by : (b : Bool) → done_from (effect s e) n (xs ++ ys) ≡ done_from (effect s e) n xs ++ done_from (fold effect (effect s e) xs) n ys
        → (if b then e ∷ done_from (effect s e) n (xs ++ ys) else done_from (effect s e) n (xs ++ ys))
        ≡ (if b then e ∷ done_from (effect s e) n xs else done_from (effect s e) n xs) ++ done_from (fold effect (effect s e) xs) n ys
    by true h = ap (λ es. e ∷ es) h
    by false h = h
