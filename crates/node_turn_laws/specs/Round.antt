-- To be believed (definitions.md).
-- Rounds: one turn to each live node, in the order of slots.
use Rattle.std.specs.Prelude.{◌≡◌, ℕ, not, zero, suc, ◌<◌, Bool, false, ◌&&◌, ◌||◌, List, length, fold, filter, is_some, IsTrue}
use Rattle.std.specs.List.{count_by, list_all, range_with_len}
use Rattle.std.specs.Option.{option_map_or}
use Rattle.component_trait.specs.Moves as moves
use Rattle.quiesce_word.specs.Phases.{is_idle}
use Rattle.quiesce_core.specs.State.{exchange, is_live}
use Rattle.node_turn_laws.specs.Turn.{turn}
use Rattle.node_turn_laws.specs.World.{World, state_of}
use Rattle.quiesce_laws.specs.Events.{ends_transaction}

-- what comes of turns, and whether one of them moved
pub record Round : Type 0 where
  pub world : World
  pub moved : Bool

abbrev pub give_turn : Bool → Round → ℕ → Round
give_turn allowed r n =
    let t = turn r.world n allowed in record { world = t.world; moved = r.moved || is_some t.event }

abbrev pub live_nodes : World → List ℕ
live_nodes w = filter (λ n. is_live w.machine.config n) (range_with_len 0 (length w.machine.config.slots))

-- one round, in which nodes may begin transactions or not
abbrev pub round : Bool → World → Round
round allowed w = fold (give_turn allowed) (record { world = w; moved = false }) (live_nodes w)

-- the world after so many rounds
abbrev pub after_rounds : Bool → World → ℕ → World
after_rounds allowed w zero = w
after_rounds allowed w (suc j) = (round allowed (after_rounds allowed w j)).world

-- whether the last of so many rounds moved nothing
abbrev pub stands_still : Bool → World → ℕ → Bool
stands_still allowed w zero = false
stands_still allowed w (suc j) = not (round allowed (after_rounds allowed w j)).moved

abbrev pub is_done : World → ℕ → Bool
is_done w n = option_map_or (λ s. moves.is_done s) (state_of w n) false

-- how many transactions ended so far
abbrev pub ended : World → ℕ
ended w = count_by ends_transaction w.events

-- every live node is done, and no transaction is left
abbrev pub is_at_rest : World → Bool
is_at_rest w =
    list_all (is_done w) (live_nodes w)
    && list_all (λ p. is_idle (exchange w.machine p).phase) (range_with_len 0 (length w.machine.config.gates))

-- the first number at which a test holds
pub record FirstAt (test : ℕ → Bool) (n : ℕ) : Type 0 where
  pub holds : IsTrue (test n)
  pub before : (j : ℕ) → j < n → test j ≡ false
