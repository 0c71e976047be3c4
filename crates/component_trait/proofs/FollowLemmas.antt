-- What a component that is led by events does next.
use Rattle.std.specs.Prelude.{◌≡◌, refl, true, false, Option, Some, None, is_some, IsSome, option_and_then}
use Rattle.std.specs.Option.{option_map_or}
use Rattle.std.proofs.Common.{rules}
use Rattle.component_trait.specs.States.{NodeState, Service}
use Rattle.component_trait.specs.Moves as moves
use Rattle.component_trait.specs.Moves.{next_in}

goes_on_in : (s : NodeState) (o : Option Service) → is_some o ≡ true → option_map_or (λ (w : Service). w.waits) o false ≡ false → IsSome (option_and_then (next_in s) o)
goes_on_in s None there busy = search rules
goes_on_in s (Some w) there busy = search rules

waits_in : (s : NodeState) (o : Option Service) → option_map_or (λ (w : Service). w.waits) o false ≡ true → option_and_then (next_in s) o ≡ None
waits_in s None waits = refl
waits_in s (Some w) waits = search rules

rests_in : (s : NodeState) (o : Option Service) → is_some o ≡ false → option_and_then (next_in s) o ≡ None
rests_in s None there = refl
rests_in s (Some w) there = search rules

pub goes_on : (s : NodeState) → moves.in_service s ≡ true → moves.waits s ≡ false → IsSome (moves.next s)
goes_on s there busy = goes_on_in s s.service there busy

pub stays : (s : NodeState) → moves.waits s ≡ true → moves.next s ≡ None
stays s waits = waits_in s s.service waits

pub rests : (s : NodeState) → moves.in_service s ≡ false → moves.next s ≡ None
rests s there = rests_in s s.service there
