-- What is kept of a service by a program, and a service that waits for nothing.
use Rattle.std.specs.Prelude.{◌≡◌, ℕ, ◌<◌, ◌≤◌, Bool, true, false, List, Option, Some, slice_get}
use Rattle.std.specs.Option.{option_map_or}
use Rattle.component_trait.specs.States.{Service}
use Rattle.config_graph.specs.declared.TheConstants.{VALUE_LIMIT}
use Rattle.component_trait.specs.declared.serving.TheConstants.{MAX_ANSWERS}

pub record IsWithin (value reply count : ℕ) (answers : List ℕ) (waits : Bool) : Type 0 where
  pub few : count ≤ MAX_ANSWERS
  pub value_small : value < VALUE_LIMIT
  pub reply_small : reply < VALUE_LIMIT
  pub answers_small : (i a : ℕ) → slice_get answers i ≡ Some a → a < VALUE_LIMIT
  pub few_while_waiting : waits ≡ true → count < MAX_ANSWERS

-- the service that there is waits for no further message
abbrev pub WaitsForNoMore : Option Service → Type 0
WaitsForNoMore o = option_map_or (λ (w : Service). w.waits) o false ≡ false
