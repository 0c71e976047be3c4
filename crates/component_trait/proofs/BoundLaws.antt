-- A service asks, on a requirement on which its provision depends, or sends an intermediate reply, only while few answers
-- and further messages came.
use Rattle.std.specs.Prelude.{◌≡◌, ℕ, ◌<◌, true, false, List, [], ◌∷◌, length, Bool, Option, Some, None, IsSome, option_and_then, if◌then◌else◌, refl}
use Rattle.std.proofs.Common.{rules}
use Rattle.config_graph.specs.Kinds.{calls_of, depends_on, mores_of}
use Rattle.config_graph.specs.declared.kind.Kind.{Kind}
use Rattle.config_graph.specs.declared.kind.Kind.TheVariants.{Place, Map, Branch, Adder}
use Rattle.component_trait.specs.Fold.{asked_by}
use Rattle.component_trait.specs.Moves as moves
use Rattle.component_trait.specs.Moves.{next_in}
use Rattle.component_trait.specs.States.{NodeState, Service}
use Rattle.component_trait.specs.Tables.{next_of}
use Rattle.component_trait.specs.declared.next.Ask.{Ask}
use Rattle.component_trait.specs.declared.next.Next.{Next}
use Rattle.component_trait.specs.declared.next.Next.TheVariants as next

pub asks_are_few : (k : Kind) (a v r : ℕ) (answers : List ℕ) (x : Ask) → next_of k a v r answers ≡ next.Ask x → length answers < calls_of k 0
asks_are_few Place a v r [] x e = search rules
asks_are_few Place a v r (b ∷ []) x e = search rules
asks_are_few Place a v r (b ∷ c ∷ []) x e = search rules
asks_are_few Place a v r (b ∷ c ∷ d ∷ []) x e = search rules
asks_are_few Place a v r (b ∷ c ∷ d ∷ f ∷ g) x e = search rules
asks_are_few Map a v r [] x e = search rules
asks_are_few Map a v r (b ∷ c) x e = search rules
asks_are_few Branch a v r [] x e = search rules
asks_are_few Branch a v r (b ∷ []) x e = search rules
asks_are_few Branch a v r (b ∷ c ∷ d) x e = search rules
asks_are_few Adder a v r [] x e = search rules
asks_are_few Adder a v r (b ∷ c) x e = search rules
asks_are_few _ a v r answers x e = search rules

pub asks_depend : (k : Kind) (a v r : ℕ) (answers : List ℕ) (x : Ask) → next_of k a v r answers ≡ next.Ask x → depends_on k 0 x.require ≡ true
asks_depend Place a v r [] x e = search rules
asks_depend Place a v r (b ∷ []) x e = search rules
asks_depend Place a v r (b ∷ c ∷ []) x e = search rules
asks_depend Place a v r (b ∷ c ∷ d ∷ []) x e = search rules
asks_depend Place a v r (b ∷ c ∷ d ∷ f ∷ g) x e = search rules
asks_depend Map a v r [] x e = search rules
asks_depend Map a v r (b ∷ c) x e = search rules
asks_depend Branch a v r [] x e = search rules
asks_depend Branch a v r (b ∷ []) x e = search rules
asks_depend Branch a v r (b ∷ c ∷ d) x e = search rules
asks_depend Adder a v r [] x e = search rules
asks_depend Adder a v r (b ∷ c) x e = search rules
asks_depend _ a v r answers x e = search rules

pub mores_are_few : (k : Kind) (a v r : ℕ) (answers : List ℕ) (m : ℕ) → next_of k a v r answers ≡ next.More m → length answers < mores_of k 0
mores_are_few Place a v r [] m e = search rules
mores_are_few Place a v r (b ∷ []) m e = search rules
mores_are_few Place a v r (b ∷ c ∷ []) m e = search rules
mores_are_few Place a v r (b ∷ c ∷ d ∷ []) m e = search rules
mores_are_few Place a v r (b ∷ c ∷ d ∷ f ∷ g) m e = search rules
mores_are_few Map a v r [] m e = search rules
mores_are_few Map a v r (b ∷ c) m e = search rules
mores_are_few Branch a v r [] m e = search rules
mores_are_few Branch a v r (b ∷ []) m e = search rules
mores_are_few Branch a v r (b ∷ c ∷ d) m e = search rules
mores_are_few Adder a v r [] m e = search rules
mores_are_few Adder a v r (b ∷ c) m e = search rules
mores_are_few _ a v r answers m e = search rules

calls_in : (k : Kind) (a v r : ℕ) (answers : List ℕ) (n : Next) → next_of k a v r answers ≡ n → IsSome (asked_by (Some n)) → length answers < calls_of k 0
calls_in k a v r answers (next.Ask x) e asks = asks_are_few k a v r answers x e
calls_in k a v r answers (next.More m) e asks = search rules
calls_in k a v r answers (next.Give m) e asks = search rules

calls_of_service : (k : Kind) (a v r : ℕ) (answers : List ℕ) (waits : Bool) → IsSome (asked_by (if waits then None else Some (next_of k a v r answers))) → length answers < calls_of k 0
calls_of_service k a v r answers true asks = search rules
calls_of_service k a v r answers false asks = calls_in k a v r answers (next_of k a v r answers) refl asks

calls_where : (s : NodeState) (o : Option Service) (w : Service) → IsSome (asked_by (option_and_then (next_in s) o)) → o ≡ Some w → length w.answers < calls_of s.kind 0
calls_where s None w asks e = search rules
calls_where s (Some x) w asks e =
    let few : length x.answers < calls_of s.kind 0 = calls_of_service s.kind s.arg x.value x.reply x.answers x.waits asks
    in search rules

-- a node whose service calls has had fewer answers and further messages than its kind makes calls
pub calls_are_few : (s : NodeState) (w : Service) → IsSome (asked_by (moves.next s)) → s.service ≡ Some w → length w.answers < calls_of s.kind 0
calls_are_few s w asks e = calls_where s s.service w asks e
