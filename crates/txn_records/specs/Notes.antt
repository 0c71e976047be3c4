-- Which ports a record notes as drained: those that were never reopened, since ports are made closed (so a port that
-- was never made is among them), and those that a look found drained after they were last closed or reopened.
use Rattle.std.specs.Prelude.{ℕ, Bool, false, not, ◌&&◌, ◌||◌, ◌==◌, List, fold}
use Rattle.std.specs.List.{list_any}
use Rattle.quiesce_core.specs.declared.event.Event.TheVariants.{Close, Reopen}
use Rattle.quiesce_laws.specs.Events.{reopens}
use Rattle.txn_records.specs.Entries.{events_in}
use Rattle.txn_records.specs.Looks.{is_drained_word}
use Rattle.txn_records.specs.declared.entry.Entry.{Entry}
use Rattle.txn_records.specs.declared.entry.Entry.TheVariants.{Did, Looked}

abbrev pub is_never_reopened : List Entry → ℕ → Bool
is_never_reopened r p = not (list_any (reopens p) (events_in r))

abbrev pub found_next : ℕ → Bool → Entry → Bool
found_next p b (Did (Close q)) = b && not (q == p)
found_next p b (Did (Reopen q)) = b && not (q == p)
found_next p b (Looked q w) = b || (q == p && is_drained_word w)
found_next p b _ = b

abbrev pub is_found_drained : List Entry → ℕ → Bool
is_found_drained r p = fold (found_next p) false r

abbrev pub is_noted : List Entry → ℕ → Bool
is_noted r p = is_never_reopened r p || is_found_drained r p
