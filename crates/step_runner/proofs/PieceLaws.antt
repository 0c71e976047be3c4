-- Starts, changes, shows and stops on a board of one thread are those that rounds make.
use Rattle.std.proofs.Common.{◌≡◌, ◌∙◌, ℕ, ◌<◌, ◌≤◌, Bool, true, false, cond, List, [], ◌∷◌, ◌++◌, append_assoc, length, map, refl, sym, ap, subst, ⊎_elim, arith}
use Rattle.std.specs.Prelude.{ℤ, ◌||◌, ◌==◌, flat_map}
use Rattle.std.proofs.lemmas.Bool.{eq-eqb, ne_eqb}
use Rattle.std.proofs.lemmas.List.{append-nil}
use Rattle.change_board.specs.Transcripts.{Item, said, entries, lines}
use Rattle.change_engine.specs.Carrying.{deed_items, sight_item}
use Rattle.change_engine.specs.Passivating.{left_after, passivation_items, root_ports}
use Rattle.change_engine.specs.declared.passivating.LeftRoot.{LeftRoot}
use Rattle.change_spec.specs.Changes.{commit_lines, drained_lines, opening_lines, pending_lines}
use Rattle.change_spec.specs.Members.{lines_of_events}
use Rattle.quiesce_laws.specs.Steps.{live_ports}
use Rattle.change_spec.specs.Scene.{root_line}
use Rattle.change_spec.specs.Serial.{ChangesTo, Looks, after_changes, is_none_left, looks_after, seen_at, wait_ends}
use Rattle.change_spec.specs.Statements.{change, show, start}
use Rattle.change_plan.specs.declared.plan_data.Move.{Move}
use Rattle.report_types.specs.declared.report.HistoryLine.{HistoryLine}
use Rattle.report_types.specs.declared.report.HistoryLine.TheVariants as to
use Rattle.config_graph.specs.Graph.{Graph}
use Rattle.change_engine.specs.Draining.{pending_items, root_item}
use Rattle.change_transcript_laws.specs.Pieces.{AreCommitItems, IsDone, AreAbandonItems, AreShowItems, AreStartItems, AreStopItems, AreChangeItems, config_at, opening_items}
use Rattle.change_plan_laws.specs.Commit.{commit_events, ports_to_close}
use Rattle.quiesce_core.specs.Live.{IsGraphOf}
use Rattle.quiesce_core.specs.declared.event.Event.{Event}
use Rattle.quiesce_core.specs.declared.event.Event.TheVariants as event
use Rattle.node_turn_laws.specs.Round.{FirstAt, after_rounds}
use Rattle.node_turn_laws.specs.World.{World}
use Rattle.step_runner.specs.Behind.{AreByRounds, IsPlayedBehind, StopsBehind, world_behind}
use Rattle.step_runner.proofs.WaitLaws.{Passed, left_ports, passes, some_there}
use Rattle.step_runner.proofs.WorldLaws.{AreSo, behind_both, config_behind, front_of_rounds, play_both, play_deeds, play_items, play_sights, reached_behind, so_behind, so_items}
use Rattle.change_engine.proofs.ItemLaws.{lines_both, sight_lines, carried_lines}
use Rattle.change_engine.proofs.PassivationLaws.{looks_of, passivation_lines, seen_root, root_lines}
use Rattle.change_spec.proofs.ClosingLaws.{reopen_lines}
use Rattle.change_board.specs.Steps.{events_of}

-- ---- starts and shows

started : (before t : List Item) (name : List ℕ) (args : List ℤ) (g : Graph) → AreStartItems before name args g t → IsPlayedBehind before (start name args g) t
started before t name args g x =
    let w = world_behind before in
    let did = flat_map deed_items x.deeds in (
      ap lines x.are ∙ lines_both (said (to.Start name args) ∷ did) (said to.Commit ∷ [])
          ∙ ap (λ ls. to.Start name args ∷ ls ++ to.Commit ∷ []) (carried_lines x.deeds ∙ ap lines_of_events x.events_are),
      behind_both before t ∙ ap (play_items w) x.are ∙ play_both w (said (to.Start name args) ∷ did) (said to.Commit ∷ [])
          ∙ play_deeds w x.deeds ∙ ap (after_changes w) x.events_are,
    )

pub start_played : (alone : Bool) (before t : List Item) (name : List ℕ) (args : List ℤ) (g : Graph) → IsDone alone before (start name args g) t
    → IsPlayedBehind before (start name args g) t
start_played alone before t name args g d = started before t name args g d

shown : (before t : List Item) → AreByRounds (before ++ t) → AreShowItems (config_at before) t → IsPlayedBehind before show t
shown before t rounds x = (
  record {
    graph = x.graph;
    is_graph = subst (λ c. IsGraphOf c x.graph) (config_behind before (front_of_rounds before t rounds)) x.stands;
    are = ap lines x.are;
  },
  behind_both before t ∙ ap (play_items (world_behind before)) x.are,
)

pub show_played : (alone : Bool) (before t : List Item) → AreByRounds (before ++ t) → IsDone alone before show t → IsPlayedBehind before show t
show_played alone before t rounds d = shown before t rounds d

-- ---- changes

roots_leave : (w : World) (xs : List LeftRoot) → play_items w (map root_item xs) ≡ w
roots_leave w [] = refl
roots_leave w (x ∷ xs) = roots_leave w xs

not_none : (xs : List LeftRoot) → 0 < length xs → xs ≡ [] → ⊥
not_none xs some e = let long = ap length e in omega (arith, some, long)

module _ (before t : List Item) (rounds : AreByRounds (before ++ t)) (name : List ℕ) (args : List ℤ) (new : Graph) (within : ℕ) (moves : List Move)
    (x : AreChangeItems before name args new within moves t) where
  abbrev w : World
  w = world_behind before

  abbrev closed : List ℕ
  closed = x.closed

  abbrev waiting : World
  waiting = after_changes w (map event.Close closed)

  abbrev opened : List Item
  opened = opening_items name args closed x.how

  abbrev left : List LeftRoot
  left = left_after x.how.first x.how.rounds

  parts : AreSo w (entries opened) × AreSo (play_items w opened) (entries x.rest)
  parts = so_items w opened x.rest (subst (λ u. AreSo w (entries u)) x.are (so_behind before t rounds))

  passed : Passed w closed x.how
  passed = passes w closed within x.how (reached_behind before (front_of_rounds before t rounds)) parts.0 x.is_passivation

  abbrev n : ℕ
  n = passed.number

  abbrev v : World
  v = after_rounds false waiting n

  abbrev l : Looks
  l = looks_after waiting closed n

  here : config_at before ≡ w.machine.config
  here = config_behind before (front_of_rounds before t rounds)

  closed_here : closed ≡ ports_to_close x.old x.plan w.machine.config
  closed_here = x.closed_are ∙ ap (ports_to_close x.old x.plan) here

  config_opened : config_at (before ++ opened) ≡ v.machine.config
  config_opened =
      config_behind (before ++ opened)
      (front_of_rounds (before ++ opened) x.rest (subst AreByRounds (ap (λ u. before ++ u) x.are ∙ sym (append_assoc before opened x.rest)) rounds))
      ∙ ap (λ (u : World). u.machine.config) (behind_both before opened ∙ passed.played)

  behind : world_behind (before ++ t) ≡ play_items v x.rest
  behind = behind_both before t ∙ ap (play_items w) x.are ∙ play_both w opened x.rest ∙ ap (λ u. play_items u x.rest) passed.played

  abbrev opening : List HistoryLine
  opening = opening_lines name args x.old x.plan w.machine.config

  lines_here : lines t ≡ opening ++ (drained_lines l.seen ++ lines x.rest)
  lines_here =
      ap lines x.are ∙ lines_both opened x.rest
      ∙ ap (λ ls. (to.Change name args ∷ ls) ++ lines x.rest) (passivation_lines closed x.how)
      ∙ ap (λ ps. (to.Change name args ∷ (map to.Close ps ++ drained_lines (looks_of x.how))) ++ lines x.rest) closed_here
      ∙ append_assoc opening (drained_lines (looks_of x.how)) (lines x.rest)
      ∙ ap (λ ds. opening ++ (drained_lines ds ++ lines x.rest)) passed.waits.seen

  few : n ≤ within
  few = subst (λ k. k ≤ within) passed.waits.long x.is_passivation.few

  waits_before : (j : ℕ) → j < n → wait_ends waiting closed within j ≡ false
  waits_before j low = ap (λ b. b || j == within) (passed.waits.before j low) ∙ ne_eqb j within (λ same. omega (arith, same, low, few))

  ports_left : root_ports left ≡ l.left
  ports_left = left_ports waiting closed x.how.first x.how.rounds n passed.waits

  abbrev committed_lines : List HistoryLine
  committed_lines = drained_lines l.seen ++ commit_lines x.old new x.plan v.machine.config

  abbrev given_up_lines : List HistoryLine
  given_up_lines = drained_lines l.seen ++ pending_lines within (map (seen_at v) l.left) closed

  abbrev committed_events : List Event
  committed_events = commit_events x.old new x.plan v.machine.config

  -- what is left of the record, by the end
  ended : (b : Bool) → (length l.left == 0) ≡ b → wait_ends waiting closed within n ≡ true
      → lines t ≡ opening ++ cond b committed_lines given_up_lines
      → world_behind (before ++ t) ≡ after_changes v (cond b committed_events (map event.Reopen closed))
      → ChangesTo w name args new within moves (lines t) (world_behind (before ++ t))
  ended b is ends are world = record {
    old = x.old;
    is_old = subst (λ c. IsGraphOf c x.old) here x.is_old;
    plan = x.plan;
    moves_lead = x.moves_lead;
    is_plan = x.is_plan;
    closed = closed;
    closed_are = closed_here;
    waiting = waiting;
    waits = refl;
    rounds = n;
    number = record { holds = ends; before = waits_before };
    at_end = v;
    end_is = refl;
    found = l;
    found_is = refl;
    are = are ∙ sym (ap (λ c. opening ++ cond c committed_lines given_up_lines) is);
    world = world ∙ sym (ap (λ c. after_changes v (cond c committed_events (map event.Reopen closed))) is);
  }

  committed : AreCommitItems (before ++ opened) x.old new x.plan left x.rest → ChangesTo w name args new within moves (lines t) (world_behind (before ++ t))
  committed y =
      let did = flat_map deed_items y.deeds in
      let events : events_of y.deeds ≡ committed_events = y.events_are ∙ ap (commit_events x.old new x.plan) config_opened in
      let none : (length l.left == 0) ≡ true = ap (λ (ps : List ℕ). length ps == 0) (sym ports_left ∙ ap root_ports y.none_left) in
      ended true none (ap (λ b. b || n == within) none)
      (lines_here ∙ ap (λ ls. opening ++ (drained_lines l.seen ++ ls))
      (ap lines y.are ∙ lines_both did (said to.Commit ∷ []) ∙ ap (λ ls. ls ++ to.Commit ∷ []) (carried_lines y.deeds ∙ ap lines_of_events events)))
      (behind ∙ ap (play_items v) y.are ∙ play_both v did (said to.Commit ∷ []) ∙ play_deeds v y.deeds ∙ ap (after_changes v) events)

  given_up : length x.how.rounds ≡ within → AreAbandonItems closed within left x.rest → ChangesTo w name args new within moves (lines t) (world_behind (before ++ t))
  given_up all y =
      let did = flat_map deed_items y.deeds in
      let roots = pending_items within left in
      let some : (length l.left == 0) ≡ false = ap (λ (ps : List ℕ). length ps == 0) (sym ports_left) ∙ some_there left (not_none left y.some_left) in
      let pending : lines x.rest ≡ pending_lines within (map (seen_at v) l.left) closed =
      ap lines y.are ∙ lines_both (roots ++ did) (said to.Abandon ∷ [])
      ∙ ap (λ ls. ls ++ to.Abandon ∷ []) (lines_both roots did
      ∙ ap (λ ls. to.Pending within ∷ ls ++ lines did) (root_lines left)
      ∙ ap (λ ls. to.Pending within ∷ map root_line (map seen_root left) ++ ls) (carried_lines y.deeds ∙ ap lines_of_events y.events_are ∙ reopen_lines closed))
      ∙ ap (λ ds. pending_lines within ds closed) passed.waits.left in
      ended false some (ap (λ b. b || n == within) some ∙ eq-eqb n within (sym passed.waits.long ∙ all))
      (lines_here ∙ ap (λ ls. opening ++ (drained_lines l.seen ++ ls)) pending)
      (behind ∙ ap (play_items v) y.are ∙ play_both v (roots ++ did) (said to.Abandon ∷ []) ∙ play_both v roots did
      ∙ ap (λ u. play_items u did) (roots_leave v left) ∙ play_deeds v y.deeds ∙ ap (after_changes v) y.events_are)

  pub tried : ChangesTo w name args new within moves (lines t) (world_behind (before ++ t))
  tried = ⊎_elim
      (λ (y : AreCommitItems (before ++ opened) x.old new x.plan left x.rest). committed y)
      (λ (y : (length x.how.rounds ≡ within) × AreAbandonItems closed within left x.rest). given_up y.0 y.1)
      x.ends

pub change_played : (alone : Bool) (before t : List Item) (name : List ℕ) (args : List ℤ) (g : Graph) (within : ℕ) (moves : List Move) → AreByRounds (before ++ t)
    → IsDone alone before (change name args g within moves) t → IsPlayedBehind before (change name args g within moves) t
change_played alone before t name args g within moves rounds d = (
  λ skipped. record { are = ap lines (d.0 skipped); world = behind_both before t ∙ ap (play_items (world_behind before)) (d.0 skipped) },
  λ is_tried. tried before t rounds name args g within moves (d.1 is_tried),
)

-- ---- the stop

-- a stop that closes these ports
record StopsWith (w : World) (ports : List ℕ) (lines : List HistoryLine) (v : World) : Type 0 where
  rounds : ℕ
  number : FirstAt (is_none_left (after_changes w (map event.Close ports)) ports) rounds
  world : v ≡ after_rounds false (after_changes w (map event.Close ports)) rounds
  are : lines ≡ to.Stop ∷ map to.Close ports ++ drained_lines (looks_after (after_changes w (map event.Close ports)) ports rounds).seen

module _ (before t : List Item) (rounds : AreByRounds (before ++ t)) (x : AreStopItems before t) where
  abbrev from : World
  from = world_behind before

  abbrev shut : World
  shut = after_changes from (map event.Close x.closed)

  abbrev stopping : List Item
  stopping = said to.Stop ∷ passivation_items x.closed x.how

  abbrev sights : List Item
  sights = map sight_item x.sights

  stop_parts : AreSo from (entries stopping) × AreSo (play_items from stopping) (entries sights)
  stop_parts = so_items from stopping sights (subst (λ u. AreSo from (entries u)) x.are (so_behind before t rounds))

  drained : Passed from x.closed x.how
  drained = passes from x.closed x.within x.how (reached_behind before (front_of_rounds before t rounds)) stop_parts.0 x.is_passivation

  all_live : x.closed ≡ live_ports from.machine.config
  all_live = x.closed_are ∙ ap live_ports (config_behind before (front_of_rounds before t rounds))

  none_left : is_none_left shut x.closed drained.number ≡ true
  none_left = ap (λ (ps : List ℕ). length ps == 0)
      (sym (left_ports shut x.closed x.how.first x.how.rounds drained.number drained.waits) ∙ ap root_ports x.none_left)

  with_closed : StopsWith from x.closed (lines t) (world_behind (before ++ t))
  with_closed = record {
    rounds = drained.number;
    number = record { holds = none_left; before = drained.waits.before };
    world = behind_both before t ∙ ap (play_items from) x.are ∙ play_both from stopping sights ∙ ap (λ u. play_items u sights) drained.played
        ∙ play_sights (after_rounds false shut drained.number) x.sights;
    are = ap lines x.are ∙ lines_both stopping sights ∙ ap (λ ls. lines stopping ++ ls) (sight_lines x.sights) ∙ append-nil (lines stopping)
        ∙ ap (λ ls. to.Stop ∷ ls) (passivation_lines x.closed x.how)
        ∙ ap (λ ds. to.Stop ∷ (map to.Close x.closed ++ drained_lines ds)) drained.waits.seen;
  }

  with_live : StopsWith from (live_ports from.machine.config) (lines t) (world_behind (before ++ t))
  with_live = subst (λ ps. StopsWith from ps (lines t) (world_behind (before ++ t))) all_live with_closed

  stopped : StopsBehind before t
  stopped = record {
    waiting = after_changes from (map event.Close (live_ports from.machine.config));
    waits = refl;
    rounds = with_live.rounds;
    number = with_live.number;
    world = with_live.world;
    are = with_live.are;
  }

pub stop_played : (before t : List Item) → AreByRounds (before ++ t) → AreStopItems before t → StopsBehind before t
stop_played before t rounds x = stopped before t rounds x
