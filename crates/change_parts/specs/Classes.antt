-- Classes of numbers that are tied: each number has the least number of its class.
use Rattle.std.specs.Prelude.{◌≡◌, ◌<◌, ◌≤◌, ◌==◌, ℕ, List, length, slice_index, Contains, if◌then◌else◌}

-- a chain of ties, whichever way each of them is read
pub data Chain (ties : List (ℕ × ℕ)) : ℕ → ℕ → Type 0 where
  itself : {a : ℕ} → Chain ties a a
  along : {a b c : ℕ} → Contains ties (a, b) → Chain ties b c → Chain ties a c
  against : {a b c : ℕ} → Contains ties (b, a) → Chain ties b c → Chain ties a c

-- These are the least numbers of the classes of all numbers below the length.
pub record AreClasses (ties : List (ℕ × ℕ)) (least : List ℕ) : Type 0 where
  pub within : (a b : ℕ) → Contains ties (a, b) → (a < length least) × (b < length least)
  pub below : (i : ℕ) → i < length least → slice_index least i ≤ i
  pub joined : (i : ℕ) → i < length least → Chain ties (slice_index least i) i
  pub same : (i j : ℕ) → i < length least → j < length least → Chain ties i j → slice_index least i ≡ slice_index least j

-- both numbers of a pair are below a count
abbrev pub IsTieBelow : ℕ → ℕ × ℕ → Type 0
IsTieBelow count tie = (tie.0 < count) × (tie.1 < count)

-- one number in another's place
abbrev pub renamed : ℕ → ℕ → ℕ → ℕ
renamed from to x = if x == from then to else x
