-- What a hand shows of the inboxes.
use Rattle.std.specs.Prelude.{◌≡◌, ℕ, List, [], ◌∷◌, ◌++◌, length, replicate, slice_index_or, Option, Some, None}
use Rattle.base.specs.Count.{Rose}
use Rattle.config_graph.specs.declared.TheConstants.{MAX_NODES}
use Rattle.crossbeam_queue.specs.Passes.{Pass, view}
use Rattle.port_queue.specs.Inboxes.{Counts}
use Rattle.live_hands.specs.declared.entry.Entry.{Entry}
use Rattle.live_hands.specs.declared.known.Known.{Known}
use Rattle.live_hands.specs.Inbox.{known}

-- of one inbox: what it posted and took there, and how often it found it full or empty
pub record Seen : Type 0 where
  pub hints : Known
  pub refused : ℕ

abbrev pub seen : Known → ℕ → Seen
seen k n = record { hints = k; refused = n }

-- before its first call
abbrev pub unused : Seen
unused = seen (known [] []) 0

abbrev pub nothing_seen : List Seen
nothing_seen = replicate MAX_NODES unused

-- of a node's inbox
abbrev pub of : List Seen → ℕ → Seen
of xs n = slice_index_or xs n unused

abbrev pub seen_by : Pass ℕ Known → ℕ → Seen
seen_by way n = seen (view way) n

abbrev pub shown : Entry → Seen
shown e = seen_by e.way e.refused

abbrev pub with_post : Seen → ℕ → Seen
with_post s port = seen (known (s.hints.posted ++ port ∷ []) s.hints.taken) s.refused

abbrev pub with_take : Seen → ℕ → Seen
with_take s port = seen (known s.hints.posted (s.hints.taken ++ port ∷ [])) s.refused

-- no hint more, and one refusal
abbrev pub IsRefused : Seen → Seen → Type 0
IsRefused old new = (new.hints ≡ old.hints) × Rose old.refused new.refused

-- what it counts of a node
abbrev pub last_of : List ℕ → Option ℕ
last_of [] = None
last_of (x ∷ []) = Some x
last_of (x ∷ y ∷ ys) = last_of (y ∷ ys)

abbrev pub counts_of : Seen → Counts
counts_of s = record { refused = s.refused; given = length s.hints.taken; last = last_of s.hints.taken }
