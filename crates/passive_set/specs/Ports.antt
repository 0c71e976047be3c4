-- Sets of ports, by number, as lists in the order in which the ports were added.
use Rattle.std.specs.Prelude.{◌≡◌, ℕ, List, ◌++◌, All, Contains}

-- ports, each below a number
pub record Ports : Type 0 where
  pub room : ℕ
  pub ports : List ℕ

-- the new list is the old one and, behind it, ports that P allows, and it has all of these
pub record Adds (old new : List ℕ) (P : ℕ → Type 0) : Type 0 where
  pub later : List ℕ
  pub is : new ≡ old ++ later
  pub allowed : All P later
  pub complete : (p : ℕ) → P p → Contains new p
