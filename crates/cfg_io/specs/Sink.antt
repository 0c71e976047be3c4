-- To be believed (definitions.md).
-- Sinks: places that take bytes, piece by piece. A sink may tell all the bytes that it took.
use Rattle.std.specs.Prelude.{ℕ, List, ◌++◌, Option, Some, None, Result, Ok, Err, take}
use Rattle.cfg_io.specs.declared.sink.SinkFailed.{SinkFailed}

-- the bytes taken once these went out after them; nothing is told afterwards where nothing was told before
abbrev pub with_bytes : Option (List ℕ) → List ℕ → Option (List ℕ)
with_bytes None bytes = None
with_bytes (Some taken) bytes = Some (taken ++ bytes)

-- the bytes taken after this answer to a put of the piece: `Ok` took as many bytes of its front as it says, a failure
-- none
abbrev pub taken_after : Result ℕ SinkFailed → List ℕ → Option (List ℕ) → Option (List ℕ)
taken_after (Ok count) piece taken = with_bytes taken (take count piece)
taken_after (Err _) piece taken = taken
