-- What a scan sees at rest is at rest, where it sights each node and looks at each port.
use Rattle.std.proofs.Common.{◌≡◌, ◌∙◌, ℕ, ◌<◌, Bool, true, false, not, List, [], ◌∷◌, map, length, Some, refl, sym, ap, subst, arith}
use Rattle.std.specs.Prelude.{◌==◌, ◌&&◌, ◌||◌, find, option_map}
use Rattle.std.specs.List.{list_all, range_with_len}
use Rattle.std.proofs.lemmas.Bool.{both_ways}
use Rattle.base.proofs.FindLaws.{find-map}
use Rattle.txn_records.specs.Looks.{is_idle_word}
use Rattle.change_board.specs.Scans.{Found, SightsAll, all_ports, is_idle_if_live, is_seen_at_rest, live_nodes, ports_of}
use Rattle.change_board.specs.Sights.{Sight, is_seen_done, seen_in, sight_entry}
use Rattle.change_spec.specs.Opening.{fold_of_node}
use Rattle.quiesce_word.specs.Phases.{is_idle}
use Rattle.quiesce_word.specs.declared.word.Word.{Word}
use Rattle.quiesce_core.proofs.RunLaws.{runs_are_consistent}
use Rattle.quiesce_core.proofs.StabilityLaws.{busy_is_live}
use Rattle.quiesce_core.specs.Rules.{is_live_port}
use Rattle.quiesce_core.specs.Runs.{done_by}
use Rattle.quiesce_core.specs.State.{Configuration, State, exchange}
use Rattle.quiesce_core.specs.Traffic.{IsConsistent}
use Rattle.quiesce_core.specs.declared.event.Event.{Event}
use Rattle.step_board.proofs.SeeingLaws.{all_agree, find_in_range, seen_done}
use Rattle.step_board.specs.RunFacts.{machine_is, reached_runs}
use Rattle.node_turn_laws.specs.Reached.{IsReached}
use Rattle.node_turn_laws.specs.Round.{is_at_rest, is_done}
use Rattle.node_turn_laws.specs.World.{World, state_of}
use Rattle.step_runner.proofs.WaitLaws.{AreTrue, fields_seen}
use Rattle.step_runner.proofs.WorldLaws.{AreSo}

-- the sight of a node that shows all that it did
abbrev true_sight : List Event → ℕ → Sight
true_sight es n = record { slot = n; events = done_by n es }

sights_are : (w : World) (sights : List Sight) → AreSo w (map sight_entry sights) → sights ≡ map (true_sight w.events) (map (λ (x : Sight). x.slot) sights)
sights_are w [] so = refl
sights_are w (x ∷ sights) so =
    let here : x ≡ true_sight w.events x.slot = λ i. record { slot = x.slot; events = so.0 i } in
    let rest = sights_are w sights so.1 in
    λ i. here i ∷ rest i

module _ (w : World) (r : IsReached w) (folds : (n : ℕ) → state_of w n ≡ fold_of_node w.events n) (c : Configuration) (same : c ≡ w.machine.config) where
  abbrev s : State
  s = w.machine

  traffic : IsConsistent s
  traffic = subst IsConsistent (sym (machine_is w r)) (runs_are_consistent w.events (reached_runs w r))

  -- ---- nodes

  abbrev count : ℕ
  count = length s.config.slots

  sighted : (sights : List Sight) → AreSo w (map sight_entry sights) → SightsAll c sights → (k : ℕ) → k < count → seen_in sights k ≡ Some (done_by k w.events)
  sighted sights so all k low =
      let whole : sights ≡ map (true_sight w.events) (range_with_len 0 count) =
      sights_are w sights so ∙ ap (map (true_sight w.events)) (all ∙ ap (λ (d : Configuration). range_with_len 0 (length d.slots)) same) in
      ap (λ xs. option_map (λ (x : Sight). x.events) (find (λ (x : Sight). x.slot == k) xs)) whole
      ∙ ap (option_map (λ (x : Sight). x.events))
      (find-map (λ (x : Sight). x.slot == k) (true_sight w.events) (range_with_len 0 count) ∙ ap (option_map (true_sight w.events)) (find_in_range 0 count k (omega arith) (omega (arith, low))))

  all_done : (sights : List Sight) → AreSo w (map sight_entry sights) → SightsAll c sights → list_all (is_seen_done c (seen_in sights)) (live_nodes c) ≡ list_all (is_done w) (live_nodes s.config)
  all_done sights so all =
      all_agree (is_seen_done c (seen_in sights)) (is_done w) (live_nodes c) (seen_done w r folds c same (seen_in sights) (sighted sights so all))
      ∙ ap (λ d. list_all (is_done w) (live_nodes d)) same

  -- ---- ports

  idle_if : (p : ℕ) (live idle : Bool) → live ≡ is_live_port s.config p → idle ≡ is_idle (exchange s p).phase → (not live || idle) ≡ is_idle (exchange s p).phase
  idle_if p true idle at is = is
  idle_if p false idle at is = by (is_idle (exchange s p).phase) refl
    where
      by : (b : Bool) → is_idle (exchange s p).phase ≡ b → true ≡ is_idle (exchange s p).phase
      by true e = sym e
      by false e = absurd (both_ways (is_live_port s.config p) (sym at) (busy_is_live s p traffic e))

  port_idle : (f : Found) → f.word ≡ Rattle.quiesce_core.specs.Words.word_of s f.port → is_idle_if_live c f ≡ is_idle (exchange s f.port).phase
  port_idle f so =
      idle_if f.port (is_live_port c f.port) (is_idle_word f.word) (ap (λ d. is_live_port d f.port) same) (ap (λ (x : Word). is_idle x.phase) (fields_seen w r f so))

  ports_idle : (fs : List Found) → AreTrue w fs → list_all (is_idle_if_live c) fs ≡ list_all (λ p. is_idle (exchange s p).phase) (ports_of fs)
  ports_idle [] h = refl
  ports_idle (f ∷ fs) h =
      let here = port_idle f h.0 in
      let rest = ports_idle fs h.1 in
      λ i. here i && rest i

  -- ---- both

  pub seen_at_rest : (sights : List Sight) (found : List Found) → AreSo w (map sight_entry sights) → AreTrue w found → SightsAll c sights → ports_of found ≡ all_ports c
      → is_seen_at_rest c sights found ≡ is_at_rest w
  seen_at_rest sights found so true_ all at =
      let done = all_done sights so all in
      let idle = ports_idle found true_ ∙ ap (list_all (λ p. is_idle (exchange s p).phase)) (at ∙ ap all_ports same) in
      λ i. done i && idle i
