-- The ports that a change closes: they are live, they rise, and closing them leaves which they are. And configurations
-- behind lines.
use Rattle.std.proofs.Common.{◌≡◌, ◌∙◌, ℕ, zero, suc, ◌+◌, ◌<◌, ◌≤◌, Bool, true, false, cond, List, [], ◌∷◌, ◌++◌, length, map, refl, sym, ap, subst, arith}
use Rattle.std.specs.Prelude.{All, filter, filter_map, nat_lt}
use Rattle.std.specs.List.{AllByRecursion, range_with_len}
use Rattle.std.specs.List.Sorted.{IsStrictlyIncreasing}
use Rattle.std.proofs.lemmas.Bool.{and_from, lt-ltb}
use Rattle.std.proofs.lemmas.List.Elements.{All-from_recursion, All-head, All-tail, filter_agree, filter_map-append}
use Rattle.std.proofs.lemmas.List.Kept.{IsStrictlyIncreasing-filter}
use Rattle.std.proofs.lemmas.List.Sums.{fold-append}
use Rattle.quiesce_laws.specs.Steps.{change_all}
use Rattle.quiesce_laws.proofs.TurningLaws.{SameLinks, live_port, same_turned}
use Rattle.config_graph.specs.Graph.{Graph}
use Rattle.change_plan.specs.declared.plan_data.Plan.{Plan}
use Rattle.change_plan_laws.specs.Commit.{is_one_of, ports_to_close}
use Rattle.quiesce_core.specs.Effect.{change_next, with_closed}
use Rattle.quiesce_core.specs.Rules.{is_live_port}
use Rattle.quiesce_core.specs.State.{Configuration, empty, is_live, owner}
use Rattle.quiesce_core.specs.declared.event.Event.TheVariants as event
use Rattle.quiesce_core.specs.declared.state.Slot.{Slot}
use Rattle.report_types.specs.declared.report.HistoryLine.{HistoryLine}
use Rattle.report_types.specs.declared.report.HistoryLine.TheVariants as to
use Rattle.change_spec.specs.Members.{event_of}
use Rattle.change_spec.specs.Scene.{Seen, config_after, drained_line}
use Rattle.change_spec.proofs.TestLaws.{range_rises}
use Rattle.change_plan_laws.proofs.StandingLaws.{one_live}

-- ---- ports that are closed

abbrev AreLive : Configuration → List ℕ → Type 0
AreLive c ports = All (λ p. is_live_port c p ≡ true) ports

pub same_here : (c : Configuration) → SameLinks c c
same_here c = record { slots = refl; long = refl; owners = λ q. refl; requirements = λ q. refl; targets = λ q. refl }

pub closed_links : (c d : Configuration) (ps : List ℕ) → AreLive c ps → SameLinks c d → SameLinks c (change_all d (map event.Close ps))
closed_links c d [] h same = same
closed_links c d (p ∷ ps) h same =
    let here = All-head (λ q. is_live_port c q ≡ true) p ps h in
    closed_links c (with_closed d p true) ps (All-tail (λ q. is_live_port c q ≡ true) p ps h)
    (same_turned c d p true (subst (λ n. p < n) (sym same.long) (live_port c p here).made) same)

-- ---- ports of frozen nodes are live

pub closed_live : (g : Graph) (plan : Plan) (c : Configuration) → AreLive c (ports_to_close g plan c)
closed_live g plan c = All-from_recursion (λ p. is_live_port c p ≡ true) (ports_to_close g plan c) (from 0 (length c.gates) (omega arith))
  where
    test : ℕ → Bool
    test p = is_one_of g plan.freeze c (owner c p)

    from : (a n : ℕ) → a + n ≤ length c.gates → AllByRecursion (λ p. is_live_port c p ≡ true) (filter test (range_with_len a n))
    from a zero few = tt
    from a (suc n) few = by (test a) refl (from (a + 1) n (omega (arith, few)))
      where
        by : (b : Bool) → test a ≡ b → AllByRecursion (λ p. is_live_port c p ≡ true) (filter test (range_with_len (a + 1) n))
            → AllByRecursion (λ p. is_live_port c p ≡ true) (cond b (a ∷ filter test (range_with_len (a + 1) n)) (filter test (range_with_len (a + 1) n)))
        by true e rest = (and_from (nat_lt a (length c.gates)) (is_live c (owner c a)) (lt-ltb a (length c.gates) (omega (arith, few))) (one_live g plan.freeze c (owner c a) e), rest)
        by false e rest = rest

-- ---- the ports of a change

pub closing_rise : (old : Graph) (plan : Plan) (c : Configuration) → IsStrictlyIncreasing (ports_to_close old plan c)
closing_rise old plan c = IsStrictlyIncreasing-filter (λ p. is_one_of old plan.freeze c (owner c p)) (range_with_len 0 (length c.gates)) (range_rises 0 (length c.gates))

pub same_ports : (old : Graph) (plan : Plan) (c d : Configuration) → SameLinks c d → ports_to_close old plan d ≡ ports_to_close old plan c
same_ports old plan c d same =
    ap (λ k. filter (λ p. is_one_of old plan.freeze d (owner d p)) (range_with_len 0 k)) same.long
    ∙ filter_agree (λ p. is_one_of old plan.freeze d (owner d p)) (λ p. is_one_of old plan.freeze c (owner c p))
    (λ p. ap (is_one_of old plan.freeze d) (same.owners p) ∙ ap (λ (s : List Slot). is_one_of old plan.freeze (record { slots = s; gates = [] }) (owner c p)) same.slots)
    (range_with_len 0 (length c.gates))

-- closing them leaves which they are
pub still_to_close : (old : Graph) (plan : Plan) (c : Configuration) → ports_to_close old plan (change_all c (map event.Close (ports_to_close old plan c))) ≡ ports_to_close old plan c
still_to_close old plan c =
    let ps = ports_to_close old plan c in
    same_ports old plan c (change_all c (map event.Close ps)) (closed_links c c ps (closed_live old plan c) (same_here c))

-- ---- configurations behind lines

pub config_more : (xs ys : List HistoryLine) → config_after (xs ++ ys) ≡ change_all (config_after xs) (filter_map event_of ys)
config_more xs ys = ap (change_all empty.config) (filter_map-append event_of xs ys) ∙ fold-append change_next empty.config (filter_map event_of xs) (filter_map event_of ys)

pub closed_events : (ps : List ℕ) → filter_map event_of (map to.Close ps) ≡ map event.Close ps
closed_events [] = refl
closed_events (p ∷ ps) = ap (λ es. event.Close p ∷ es) (closed_events ps)

pub no_events_drained : (ds : List Seen) → filter_map event_of (map drained_line ds) ≡ []
no_events_drained [] = refl
no_events_drained (d ∷ ds) = no_events_drained ds
