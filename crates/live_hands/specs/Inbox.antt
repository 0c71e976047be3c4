-- An inbox as a list of hints, and what each hand knows of it.
use Rattle.std.specs.Prelude.{◌≡◌, ℕ, Bool, true, false, ◌==◌, ◌<◌, ◌≤◌, List, [], ◌∷◌, ◌++◌, length, All}
use Rattle.config_graph.specs.declared.TheConstants.{MAX_PORTS}
use Rattle.live_hands.specs.declared.known.Known.{Known}
use mathlib.Core.Option.{some}
use lib.ListN.{get_elem?}

abbrev pub known : List ℕ → List ℕ → Known
known posted taken = record { posted = posted; taken = taken }

-- a hint beside the number of the hand that posted it, or took it
abbrev pub Marked : Type 0
Marked = ℕ × ℕ

abbrev pub joined : Bool → ℕ → List ℕ → List ℕ
joined true p xs = p ∷ xs
joined false p xs = xs

-- the ports of one hand's hints, in order
abbrev pub by : ℕ → List Marked → List ℕ
by n [] = []
by n (x ∷ xs) = joined (x.0 == n) x.1 (by n xs)

abbrev pub ports : List Marked → List ℕ
ports [] = []
ports (x ∷ xs) = x.1 ∷ ports xs

-- what a hand posted stands in what was put, in its order and each once, and so what it took in what was taken
abbrev pub FitsHand : List Marked → List Marked → ℕ → Known → Type 0
FitsHand put taken n v = (v.posted ≡ by n put) × (v.taken ≡ by n taken)

-- What was put is what was taken, followed by what the inbox holds. Each hint is a port. A hand that isn't there yet
-- has put nothing and taken nothing.
pub record Lists (put taken : List Marked) (items : List ℕ) (views : List Known) : Type 0 where
  pub is_list : ports put ≡ ports taken ++ items
  pub are_ports : All (λ p. p < MAX_PORTS) items
  pub hands : (n : ℕ) (v : Known) → get_elem? views n ≡ some v → FitsHand put taken n v
  pub others : (n : ℕ) → length views ≤ n → FitsHand put taken n (known [] [])

abbrev pub IsInbox : List ℕ → List Known → Type 0
IsInbox items views = (put : List Marked) × (taken : List Marked) × Lists put taken items views

-- the inbox held these hints at a moment at which the hand knew this
abbrev pub HeldFor : Known → List ℕ → Type 0
HeldFor v items = (views : List Known) × (n : ℕ) × IsInbox items views × (get_elem? views n ≡ some v)
