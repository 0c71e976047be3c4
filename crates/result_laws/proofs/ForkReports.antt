-- What a report tells of forks: each is held once, at the end by none, and is free then.
use Rattle.std.proofs.Common.{◌≡◌, ◌∙◌, ℕ, ◌+◌, Bool, true, false, cond, List, ◌++◌, append_assoc, length, Option, Some, None, refl, sym, ap, subst, arith, inl, inr, ⊎_elim}
use Rattle.std.specs.Prelude.{◌⊎◌, ◌==◌, ◌&&◌, ◌||◌, option_and_then}
use Rattle.std.specs.List.{list_any}
use Rattle.std.specs.Option.{option_map_or}
use Rattle.std.proofs.lemmas.Bool.{and_from, and_parts, both_ways, eq-eqb, eqb-true, false_from_ne_true, ne_eqb, or_cases}
use Rattle.base.proofs.SumLaws.{sum_zero}
use Rattle.config_graph.specs.declared.TheConstants.{MAX_NODES}
use Rattle.config_graph.specs.declared.kind.Kind.{Kind}
use Rattle.config_graph.specs.declared.kind.Kind.TheVariants.{Fork}
use Rattle.config_graph.specs.declared.node.Target.{Target}
use Rattle.component_trait.specs.States.{Kept, NodeState, Service}
use Rattle.component_trait.specs.Tables.{numbers}
use Rattle.quiesce_word.specs.Phases.{is_answered, is_idle}
use Rattle.quiesce_word.specs.declared.word.TheConstants.{LAST_SERIAL}
use Rattle.quiesce_word.proofs.PhaseLaws.{answered_busy, serving_busy}
use Rattle.quiesce_core.specs.Runs.{IsRun, state_after}
use Rattle.quiesce_core.specs.Rules.{is_taken}
use Rattle.quiesce_core.specs.State.{exchange, gate, owner, slot, target}
use Rattle.quiesce_core.specs.declared.event.Event.{Event}
use Rattle.quiesce_core.specs.declared.state.Slot.{Slot}
use Rattle.quiesce_core.proofs.RunLaws.{fronts_are_runs, runs_are_consistent}
use Rattle.quiesce_core.proofs.StateLaws.{taken_busy}
use Rattle.report_types.specs.declared.report.Last.TheVariants as last
use Rattle.report_types.specs.declared.report.Report.{Report}
use Rattle.change_spec.specs.Lawful.{Lawful}
use Rattle.change_spec.specs.Members.{events}
use Rattle.change_spec.specs.Statements.{Statement}
use Rattle.change_round_laws.proofs.FoldLaws.{StatesAreHanded}
use Rattle.result_laws.specs.Coming.{HasFolds, come, is_granted, replies_1}
use Rattle.result_laws.proofs.EventLaws.{answered_untaken}
use Rattle.result_laws.proofs.ComingLaws.{facts, fits_of, fronts_fold}
use Rattle.result_laws.proofs.FactLaws.{Facts}
use Rattle.result_laws.proofs.StoppingLaws.{NothingIsOpen}
use Rattle.result_laws.specs.Describing.{LinksAre}
use Rattle.result_laws.specs.Holding.{AreFree, AreLent, AreTables, IsLent, NoneSpent, NothingIsOpenAt, forks_not_free, forks_serve_places, has_fork, holds, is_fork, not_free}
use Rattle.result_laws.proofs.Dining.{resting_has_none}
use Rattle.result_laws.proofs.Forks.{held_once, keep_forks, keep_held}
use Rattle.result_laws.proofs.Lent.{AllHeld, Claims, HeldBy, gets, got, keeps}
use Rattle.result_laws.proofs.Giving.{hands_on}
use Rattle.result_laws.proofs.Measures.{has, nothing_or, unmade_come}
use Rattle.result_laws.proofs.Linking.{AllLinked, all_linked}
use Rattle.result_laws.proofs.Told.{log_folds, Tells, told_so, idle_at_end, rests_at_end}

module _ (handed : StatesAreHanded) (none_open : NothingIsOpen) (statements : List Statement) (report : Report) (l : Lawful statements report) where
  abbrev es : List Event
  es = events l.members

  run : IsRun es
  run = l.by_them.runs

  folds : HasFolds es
  folds = log_folds statements report l

  pub forks_held_once : AreTables statements → (before after : List Event) → es ≡ before ++ after → (p q n x y : ℕ) (made : Slot)
      → target (state_after before).config p ≡ Some (record { node = n; provide = x }) → target (state_after before).config q ≡ Some (record { node = n; provide = y }) → slot (state_after before).config n ≡ Some made → made.node.kind ≡ Fork
      → holds before p ≡ true → holds before q ≡ true → p ≡ q
  forks_held_once tables before after parts p q n x y made leads_p leads_q there kind holds_p holds_q =
      let linked = all_linked statements report l (LinksAre forks_serve_places) tables forks_serve_places (λ g h. h) in
      let run' = subst (λ xs. IsRun xs) parts run in
      let front = fronts_are_runs before after run' in
      let front_folds = fronts_fold handed before after run' (subst (λ xs. HasFolds xs) parts folds) in
      held_once before front (linked before after parts) (keep_forks handed before front front_folds (λ xs ys is. linked xs (ys ++ after) (parts ∙ ap (λ zs. zs ++ after) is ∙ append_assoc xs ys after))) p q n x y made leads_p leads_q there kind holds_p holds_q

  -- ---- at a place of the run

  module _ (tables : AreTables statements) (before after : List Event) (parts : es ≡ before ++ after) (spent_none : NoneSpent (state_after before)) where
    run_there : IsRun (before ++ after)
    run_there = subst (λ xs. IsRun xs) parts run

    front : IsRun before
    front = fronts_are_runs before after run_there

    front_folds : HasFolds before
    front_folds = fronts_fold handed before after run_there (subst (λ xs. HasFolds xs) parts folds)

    held_there : AllHeld before
    held_there =
        let linked = all_linked statements report l (LinksAre forks_serve_places) tables forks_serve_places (λ g h. h) in
        keep_held handed before front front_folds (λ xs ys is. linked xs (ys ++ after) (parts ∙ ap (λ zs. zs ++ after) is ∙ append_assoc xs ys after))
        (λ p. let low = spent_none p in ne_eqb (exchange (state_after before) p).serial LAST_SERIAL (λ same. omega (arith, low, same)))

    lent_by : (n : ℕ) → HeldBy (state_after before) (come before) n → IsLent before n
    lent_by n h = record { port = h.port; provide = h.to.provide; leads = h.joined.leads ∙ ap (λ k. Some (record { node = k; provide = h.to.provide })) h.at; has = by h.port h.to h.joined.leads h.claims }
      where
        reply_1 : (o : Option Service) → option_map_or (λ (w : Service). w.reply) o 0 ≡ 1 → option_map_or (λ (w : Service). w.reply == 1) o false ≡ true
        reply_1 None h = absurd (omega (arith, h))
        reply_1 (Some w) h = eq-eqb w.reply 1 h

        granted_if : (p : ℕ) (b c : Bool) → is_answered (exchange (state_after before) p).phase ≡ b → is_taken (state_after before) p ≡ c → (b || c) ≡ true → replies_1 before p ≡ true → is_granted before p ≡ true
        granted_if p b c answered taken up says =
            and_from (is_answered (exchange (state_after before) p).phase || is_taken (state_after before) p) (replies_1 before p) ((λ i. answered i || taken i) ∙ up) says

        by : (p : ℕ) (to : Target) → target (state_after before).config p ≡ Some to → Claims (state_after before) (come before) p to
            → (has_fork (come before (owner (state_after before).config p)) (gate (state_after before).config p).require ≡ true) ⊎ (is_granted before p ≡ true)
        by p to leads (keeps u a g) = inl g
        by p to leads (gets u a r) =
            let s = state_after before in
            let not_yet = false_from_ne_true (is_answered (exchange s p).phase) (λ h. both_ways (is_taken s p) (answered_untaken s (come before) (come before) (facts handed before front front_folds) p h) u) in
            inr (granted_if p false true not_yet u refl
            (ap (λ b. cond b ((exchange s p).value == 1) (option_map_or (λ (w : Service). w.reply == 1) (option_and_then (λ (t : Target). (come before t.node).service) (target s.config p)) false)) not_yet
            ∙ ap (λ o. option_map_or (λ (w : Service). w.reply == 1) (option_and_then (λ (t : Target). (come before t.node).service) o) false) leads ∙ reply_1 (come before to.node).service r))
        by p to leads (got u a v) =
            let s = state_after before in
            inr (granted_if p true (is_taken s p) u refl refl
            (ap (λ b. cond b ((exchange s p).value == 1) (option_map_or (λ (w : Service). w.reply == 1) (option_and_then (λ (t : Target). (come before t.node).service) (target s.config p)) false)) u ∙ eq-eqb (exchange s p).value 1 v))

    pub lent_there : AreLent before
    lent_there n made there kind not_0 = lent_by n (held_there n made there kind (ne_eqb (come before n).kept.count 0 not_0))

    -- where nothing is open no place is in a service, and so none has a fork
    pub free_there : NothingIsOpenAt before → AreFree before
    free_there idle n made there kind = by ((come before n).kept.count == 0) refl
      where
        facts_there : Facts (state_after before) (come before)
        facts_there = facts handed before front front_folds

        at_rest_there : (m : ℕ) (o : Option Service) → (come before m).service ≡ o → (come before m).service ≡ None
        at_rest_there m None is = is
        at_rest_there m (Some w) is =
            let v = facts_there.served m w is in
            absurd (both_ways (is_idle (exchange (state_after before) v.0.port).phase) (serving_busy (exchange (state_after before) v.0.port).phase (facts_there.traffic.serving m v.0 v.1).busy) (idle v.0.port))

        none_has : (p : ℕ) → (has_fork (come before (owner (state_after before).config p)) (gate (state_after before).config p).require ≡ true) ⊎ (is_granted before p ≡ true) → ⊥
        none_has p (inl h) =
            let m = owner (state_after before).config p in
            let r = (gate (state_after before).config p).require in
            both_ways (has_fork (come before m) r) (resting_has_none (come before m) r (at_rest_there m (come before m).service refl)) h
        none_has p (inr granted) =
            let s = state_after before in
            let up = (and_parts (is_answered (exchange s p).phase || is_taken s p) (replies_1 before p) granted).0 in
            ⊎_elim (λ (a : is_answered (exchange s p).phase ≡ true). both_ways (is_idle (exchange s p).phase) (answered_busy (exchange s p).phase a) (idle p))
            (λ (u : is_taken s p ≡ true). both_ways (is_idle (exchange s p).phase) (taken_busy s p (runs_are_consistent before front) u) (idle p)) (or_cases (is_answered (exchange s p).phase) (is_taken s p) up)

        by : (b : Bool) → ((come before n).kept.count == 0) ≡ b → (come before n).kept.count ≡ 0
        by true z = eqb-true (come before n).kept.count 0 z
        by false busy = let w = lent_there n made there kind (λ z. both_ways ((come before n).kept.count == 0) busy (eq-eqb (come before n).kept.count 0 z)) in absurd (none_has w.port w.has)

  pub none_holds : (p : ℕ) → holds es p ≡ false
  none_holds p = false_from_ne_true (holds es p) (λ h. both_ways (has_fork (come es (owner (state_after es).config p)) (gate (state_after es).config p).require) (resting_has_none (come es (owner (state_after es).config p)) (gate (state_after es).config p).require (rests_at_end handed none_open statements report l (owner (state_after es).config p)))
      (and_parts (is_idle (exchange (state_after es) p).phase) (has_fork (come es (owner (state_after es).config p)) (gate (state_after es).config p).require) h).1)

  abbrev fork_count : Kind → Kept → ℕ
  fork_count Fork s = s.count
  fork_count _ s = 0

  forks_tell : Tells is_fork fork_count not_free
  forks_tell = record { on = on_; off = off_; moved = λ j. refl }
    where
      on_ : (k : Kind) (s : Kept) → is_fork k ≡ true → not_free (last.State (numbers k s)) ≡ fork_count k s
      on_ Fork s h = refl
      on_ _ s h = absurd (both_ways false refl h)

      off_ : (k : Kind) (s : Kept) → is_fork k ≡ false → fork_count k s ≡ 0
      off_ Fork s h = absurd (both_ways true h refl)
      off_ _ s h = refl

  pub forks_end_free : AreTables statements → NoneSpent (state_after es) → forks_not_free report ≡ 0
  forks_end_free tables spent_none =
      told_so handed statements report l is_fork fork_count refl not_free forks_tell
      ∙ sum_zero (has fork_count es) 0 (length (state_after es).config.slots + MAX_NODES) (λ i low. nothing_or (list_any (hands_on i) es) _ (free i))
    where
      linked : (before after : List Event) → es ≡ before ++ after → AllLinked forks_serve_places (state_after before).config
      linked = all_linked statements report l (LinksAre forks_serve_places) tables forks_serve_places (λ g h. h)

      all_held : AllHeld es
      all_held = keep_held handed es run folds linked (λ p. let low = spent_none p in ne_eqb (exchange (state_after es) p).serial LAST_SERIAL (λ same. omega (arith, low, same)))

      -- one that isn't free would be held by a place in a service
      free : (n : ℕ) → fork_count (come es n).kind (come es n).kept ≡ 0
      free n = by (slot (state_after es).config n) refl
        where
          other_kind : (k : Kind) (s : Kept) → (k ≡ Fork → s.count ≡ 0) → fork_count k s ≡ 0
          other_kind Fork s h = h refl
          other_kind _ s h = refl

          by : (o : Option Slot) → slot (state_after es).config n ≡ o → fork_count (come es n).kind (come es n).kept ≡ 0
          by None is = ap (λ (x : NodeState). fork_count x.kind x.kept) (unmade_come es n is)
          by (Some made) is = other_kind (come es n).kind (come es n).kept (λ fork. by_count ((come es n).kept.count == 0) refl (sym ((fits_of handed es run folds).kinds n made is) ∙ fork))
            where
              by_count : (b : Bool) → ((come es n).kept.count == 0) ≡ b → made.node.kind ≡ Fork → (come es n).kept.count ≡ 0
              by_count true z kind = eqb-true (come es n).kept.count 0 z
              by_count false busy kind =
                  let h = all_held n made is kind busy in
                  absurd (rests_none (owner (state_after es).config h.port) h)
                where
                  rests_none : (i : ℕ) → HeldBy (state_after es) (come es) n → ⊥
                  rests_none i h = claims_none h.port h.to h.claims
                    where
                      claims_none : (p : ℕ) (to : Target) → Claims (state_after es) (come es) p to → ⊥
                      claims_none p to (keeps u a g) = both_ways (holds es p) (none_holds p) (ap (λ b. b && has_fork (come es (owner (state_after es).config p)) (gate (state_after es).config p).require) (idle_at_end none_open statements report l p) ∙ g)
                      claims_none p to (gets u a r) = both_ways (is_idle (exchange (state_after es) p).phase) (taken_busy (state_after es) p (runs_are_consistent es run) u) (idle_at_end none_open statements report l p)
                      claims_none p to (got u a v) = both_ways (is_idle (exchange (state_after es) p).phase) (answered_busy (exchange (state_after es) p).phase u) (idle_at_end none_open statements report l p)
