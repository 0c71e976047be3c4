-- To be believed (definitions.md).
-- The machine of each kind, as tables: what a node opens with, what it wants, what an ended transaction of its own
-- changes, what serving does at once, what comes next in a service, what it replies, when it is done, and the numbers
-- of its state.
use Rattle.std.specs.Prelude.{ℕ, ◌+◌, ◌-◌, ◌*◌, ◌/◌, ◌%◌, ◌^◌, Bool, true, nat_lt, nat_le, ◌==◌, if◌then◌else◌}
use Rattle.std.specs.Prelude.{List, [], ◌∷◌, ◌++◌, length, drop, Option, Some, None}
use Rattle.config_graph.specs.declared.kind.Kind.{Kind}
use Rattle.config_graph.specs.declared.kind.Kind.TheVariants.{Philosopher, Place, Fork, Source, Map, Buffer, Sink}
use Rattle.config_graph.specs.declared.kind.Kind.TheVariants.{Teller, Branch, Account, Asker, Adder}
use Rattle.component_trait.specs.declared.TheConstants.{AMOUNT_LIMIT}
use Rattle.config_graph.specs.declared.TheConstants.{VALUE_LIMIT}
use Rattle.component_trait.specs.declared.next.Ask.{Ask}
use Rattle.component_trait.specs.declared.next.Next.{Next}
use Rattle.component_trait.specs.declared.next.Next.TheVariants as next
use Rattle.component_trait.specs.States.{Kept, nothing, with_count, with_total, with_items}

abbrev pub request : ℕ → ℕ → Ask
request r v = record { require = r; value = v }

abbrev pub ask : ℕ → ℕ → Next
ask r v = next.Ask (request r v)

-- what a node of the kind keeps when it opens, by its argument
abbrev pub opening : Kind → ℕ → Kept
opening Account b = with_total b
opening _ a = nothing

-- What it wants. Below a number it wants its one requirement with a value that goes by the count; a buffer wants it
-- with its front.
abbrev below : ℕ → ℕ → ℕ → Option Ask
below count n value = if nat_lt count n then Some (request 0 value) else None

abbrev front : List ℕ → Option Ask
front [] = None
front (v ∷ vs) = Some (request 0 v)

abbrev pub wants : Kind → ℕ → Kept → Option Ask
wants Philosopher meals s = below s.count meals 0
wants Source n s = below s.count n (s.count + 1)
wants Buffer cap s = front s.items
wants Teller n s = below s.count n (s.count + 1)
wants Asker n s = below s.count n (s.count + 1)
wants _ a s = None

-- what it keeps once a transaction of its own ended with an answer
abbrev pub kept_after_end : Kind → Kept → ℕ → Kept
kept_after_end Philosopher s v = if v == 1 then with_count (s.count + 1) else s
kept_after_end Source s v = if v == 0 then s else with_count (s.count + 1)
kept_after_end Buffer s v = if v == 0 then s else with_items (drop 1 s.items)
kept_after_end Teller s v = with_count (s.count + 1)
kept_after_end Asker s v = record { count = s.count + 1; total = (s.total + v) % VALUE_LIMIT; items = [] }
kept_after_end _ s v = s

-- What serving a value does at once: what is kept then, and the reply where it is decided on.
pub record Outcome : Type 0 where
  pub kept : Kept
  pub reply : ℕ

abbrev gives : Kept → ℕ → Outcome
gives s r = record { kept = s; reply = r }

-- an account that serves 2a+1 pays a out where it can, and one that serves 2a takes a in where the sum has 64 bits
abbrev balance_limit : ℕ
balance_limit = 2 ^ 64

abbrev pay_out : ℕ → ℕ → Outcome
pay_out balance a = if nat_le a balance then gives (with_total (balance - a)) 1 else gives (with_total balance) 0

abbrev take_in : ℕ → ℕ → Outcome
take_in balance a =
    if nat_lt (balance + a) balance_limit then gives (with_total (balance + a)) 1 else gives (with_total balance) 0

-- a fork that is free becomes held, and is free again once it is given back
abbrev lend : Kept → ℕ → Outcome
lend s v =
    if v == 1 then (if s.count == 0 then gives (with_count 1) 1 else gives s 0)
    else if v == 0 then gives (with_count 0) 1 else gives s 0

abbrev pub serve : Kind → ℕ → Kept → ℕ → Outcome
serve Fork a s v = lend s v
serve Buffer cap s v = if nat_lt (length s.items) cap then gives (with_items (s.items ++ v ∷ [])) 1 else gives s 0
serve Sink a s v = gives (with_items (s.items ++ v ∷ [])) 1
serve Account b s v = if v % 2 == 1 then pay_out s.total (v / 2) else take_in s.total (v / 2)
serve _ a s v = gives s 0

-- What comes next in a service, by the value taken up, the reply decided on, and the answers and further messages
-- since. A place asks the first fork and then the other with 1, and gives back with 0 what it has.
abbrev pub dine : ℕ → ℕ → List ℕ → Next
dine first other [] = ask first 1
dine first other (a ∷ []) = if a == 1 then ask other 1 else next.Give 0
dine first other (a ∷ b ∷ []) = if b == 1 then ask other 0 else ask first 0
dine first other (a ∷ b ∷ c ∷ []) = if b == 1 then ask first 0 else next.Give 0
dine first other (a ∷ b ∷ c ∷ d ∷ _) = next.Give 1

abbrev pub pass_on : ℕ → ℕ → List ℕ → Next
pass_on k v [] = ask 0 ((v + k) % VALUE_LIMIT)
pass_on k v (a ∷ _) = next.Give a

-- a branch takes a out of one account and, where it did, puts it into the other; 2a+1 has to be a value
abbrev pub take_and_put : ℕ → List ℕ → Next
take_and_put a [] = ask 0 (2 * a + 1)
take_and_put a (b ∷ []) = if b == 1 then ask 1 (2 * a) else next.Give 0
take_and_put a (b ∷ c ∷ _) = next.Give 1

abbrev pub transfer : ℕ → List ℕ → Next
transfer a answers = if nat_le AMOUNT_LIMIT a then next.Give 0 else take_and_put a answers

abbrev pub add_up : ℕ → List ℕ → Next
add_up v [] = next.More v
add_up v (w ∷ _) = next.Give ((v + w) % VALUE_LIMIT)

abbrev pub next_of : Kind → ℕ → ℕ → ℕ → List ℕ → Next
next_of Place first v reply answers = if first == 0 then dine 0 1 answers else dine 1 0 answers
next_of Map k v reply answers = pass_on k v answers
next_of Branch a v reply answers = transfer v answers
next_of Adder a v reply answers = add_up v answers
next_of _ a v reply answers = next.Give reply

-- what it replies to an intermediate reply, whose value no kind looks at
abbrev pub replies : Kind → Kept → ℕ
replies Asker s = (s.count + 1) % VALUE_LIMIT
replies _ s = 0

abbrev pub is_done : Kind → ℕ → Kept → Bool
is_done Philosopher meals s = nat_le meals s.count
is_done Source n s = nat_le n s.count
is_done Buffer cap s = length s.items == 0
is_done Teller n s = nat_le n s.count
is_done Asker n s = nat_le n s.count
is_done _ a s = true

-- the numbers of its state
abbrev pub numbers : Kind → Kept → List ℕ
numbers Place s = []
numbers Map s = []
numbers Branch s = []
numbers Adder s = []
numbers Buffer s = s.items
numbers Sink s = s.items
numbers Account s = s.total ∷ []
numbers Asker s = s.count ∷ s.total ∷ []
numbers _ s = s.count ∷ []
