-- The log of a removed node ends outside a service: it was settled when it was removed, and has done nothing since.
use Rattle.std.proofs.Common.{◌≡◌, ◌∙◌, ℕ, Bool, true, false, ◌&&◌, List, [], ◌∷◌, Option, Some, None, refl, sym, ap, subst}
use Rattle.std.specs.Prelude.{◌==◌, fold, is_some, if◌then◌else◌}
use Rattle.std.specs.Option.{option_map_or}
use Rattle.std.proofs.lemmas.Bool.{both_ways}
use Rattle.std.proofs.lemmas.Option.{none-some, same_Some}
use Rattle.component_trait.specs.Fold.{after_event, asked_by, awaits_at, calls_at, fold_next, is_give, is_more, is_request, may_take, wants_at, where_so}
use Rattle.component_trait.specs.Moves as moves
use Rattle.component_trait.specs.States.{NodeState, at_rest}
use Rattle.component_trait.proofs.FoldLaws.{fold_none, where_so_then}
use Rattle.quiesce_core.specs.declared.event.Event.{Event}
use Rattle.quiesce_core.specs.declared.event.Event.TheVariants.{Begin, Call, Take, Give, End, More, Ask, Hear, Miss}
use Rattle.quiesce_core.specs.declared.known.Served.{Served}
use Rattle.quiesce_core.specs.declared.state.Service.{Service}
use Rattle.quiesce_core.specs.declared.state.Slot.{Slot}
use Rattle.quiesce_core.specs.Knowledge.{KnowsService, served_after, served_next}
use Rattle.quiesce_core.specs.Runs.{IsRun, done_by, state_after}
use Rattle.quiesce_core.specs.State.{Configuration, State, is_live, service, slot}
use Rattle.quiesce_core.proofs.RunLaws.{nodes_know, runs_are_consistent, runs_are_well_formed}
use Rattle.quiesce_core.proofs.SourceLaws.{sources_are_gone}
use Rattle.report_types.specs.declared.report.Report.{Report}
use Rattle.change_spec.specs.Lawful.{Merge}
use Rattle.change_spec.specs.Members.{Member, events}
use Rattle.change_spec.specs.Opening.{argument_of, fold_of_node}
use Rattle.change_spec.specs.Scene.{config_after}
use Rattle.merge_laws.specs.Alone.{fold_told}
use Rattle.merge_laws.proofs.AloneLemmas.{config_is, fold_is}
use Rattle.merge_laws.proofs.RootPortLemmas.{folded}
use Rattle.base.proofs.OptionLaws.{None-from_is_some, is_some-map}

-- the state after an event where the service is another, or stays
abbrev Agree : NodeState → Option Served → Type 0
Agree s u = is_some s.service ≡ is_some u

stays : (b : Bool) (s x t : NodeState) (u : Option Served) → where_so b x ≡ Some t → Agree x u → Agree t u
stays b s x t u h same = subst (λ y. Agree y u) (where_so_then b x t h).1 same

ended : (c b : Bool) (x y t : NodeState) (u : Option Served) → (if c then Some x else where_so b y) ≡ Some t → Agree x u → Agree y u → Agree t u
ended true b x y t u h one other = subst (λ z. Agree z u) (same_Some x t h) one
ended false b x y t u h one other = stays b y y t u h other

agree_next : (first : ℕ) (s t : NodeState) (u : Option Served) (e : Event) → Agree s u → after_event first s e ≡ Some t → Agree t (served_next u e)
agree_next first s t u (Begin p j v) same h = stays (is_request first p v (moves.wants s)) s s t u h same
agree_next first s t u (Call p j v) same h = stays (is_request first p v (asked_by (moves.next s))) s s t (served_next u (Call p j v)) h (same ∙ sym (is_some-map _ u))
agree_next first s t u (Miss p) same h = stays (calls_at first s p) s (moves.after_answer s 0) t (served_next u (Miss p)) h (is_some-map _ s.service ∙ same ∙ sym (is_some-map _ u))
agree_next first s t u (Take p j v) same h = stays (may_take s) s (moves.after_take s v) t (served_next u (Take p j v)) h refl
agree_next first s t u (More p j v) same h = stays (is_more v (moves.next s)) s (moves.after_more s) t (served_next u (More p j v)) h (is_some-map _ s.service ∙ same ∙ sym (is_some-map _ u))
agree_next first s t u (Ask p j v) same h = stays (awaits_at first s p && v == moves.replies s) s s t u h same
agree_next first s t u (Hear p j v) same h = stays (moves.waits s) s (moves.after_answer s v) t (served_next u (Hear p j v)) h (is_some-map _ s.service ∙ same ∙ sym (is_some-map _ u))
agree_next first s t u (Give p j v) same h = stays (is_give v (moves.next s)) s (moves.after_give s) t None h refl
agree_next first s t u (End p j v) same h = ended (calls_at first s p) (wants_at first s p) (moves.after_answer s v) (moves.after_end s v) t u h (is_some-map _ s.service ∙ same) same
agree_next first s t u _ same h = absurd (none-some t h)

agree_after : (first : ℕ) (z : NodeState) (u : Option Served) (o : Option NodeState) (es : List Event) → ((s : NodeState) → o ≡ Some s → Agree s u)
    → fold (fold_next first) o es ≡ Some z → Agree z (fold served_next u es)
agree_after first z u o [] same h = same z h
agree_after first z u None (e ∷ es) same h = absurd (none-some z (sym (fold_none first es) ∙ h))
agree_after first z u (Some s) (e ∷ es) same h =
    agree_after first z (served_next u e) (after_event first s e) es (λ t is. agree_next first s t u e (same s refl) is) h

-- ---- who isn't live services nothing

gone_serves_none : (s : State) (n : ℕ) (live : is_live s.config n ≡ false) → ((v : Service) → service s n ≡ Some v → is_live s.config n ≡ true) → service s n ≡ None
gone_serves_none s n live serves = by (service s n) refl
  where
    by : (o : Option Service) → service s n ≡ o → o ≡ None
    by None is = refl
    by (Some v) is = absurd (both_ways (is_live s.config n) live (serves v is))

nothing_known : (s : State) (u : Option Served) → KnowsService s None u → is_some u ≡ false
nothing_known s None h = refl
nothing_known s (Some v) h = absurd h

pub gone_rests : (es : List Event) → IsRun es → (n : ℕ) (m : Slot) (z : NodeState) → slot (state_after es).config n ≡ Some m → m.live ≡ false → fold_of_node es n ≡ Some z → z.service ≡ None
gone_rests es run n m z there gone is =
    let s = state_after es in
    let formed = runs_are_well_formed es run in
    let consistent = runs_are_consistent es run in
    let dead : is_live s.config n ≡ false = ap (λ o. option_map_or (λ (k : Slot). k.live) o false) there ∙ gone in
    let none = gone_serves_none s n dead (λ v serves. let at = consistent.serving n v serves in (formed.sound.targets v.port (record { node = n; provide = at.provide }) at.linked).live) in
    let served = nothing_known s (served_after (done_by n es)) (subst (λ o. KnowsService s o (served_after (done_by n es))) none (nodes_know es run n).services) in
    let f = folded es n m z there is in
    let start = at_rest m.node.kind (argument_of m) f.kept in
    let agrees = agree_after m.first_port z None (Some start) (done_by n es) (λ t same. ap (λ (x : NodeState). is_some x.service) (sym (same_Some start t same))) f.folds in
    None-from_is_some z.service (agrees ∙ served)

-- ---- so the logs of reports

module _ (report : Report) (m : List Member) (merge : Merge m report) (run : IsRun (events m)) where
  in_list : (n : ℕ) (k : Slot) → slot (config_after report.history) n ≡ Some k → slot (state_after (events m)).config n ≡ Some k
  in_list n k there = ap (λ (c : Configuration). slot c n) (config_is report m merge run) ∙ there

  pub removed_rest : (n : ℕ) (k : Slot) (z : NodeState) → slot (config_after report.history) n ≡ Some k → k.live ≡ false → fold_told report n ≡ Some z → z.service ≡ None
  removed_rest n k z there gone is = gone_rests (events m) run n k z (in_list n k there) gone (fold_is report m merge run n ∙ is)

  pub moved_rest : (n i : ℕ) (k : Slot) (z : NodeState) → slot (config_after report.history) n ≡ Some k → k.from ≡ Some i → fold_told report i ≡ Some z → z.service ≡ None
  moved_rest n i k z there from is =
      let source = (sources_are_gone (events m) run).gone n i k (in_list n k there) from in
      gone_rests (events m) run i source.old z source.there source.removed (fold_is report m merge run i ∙ is)
