-- Bytes that went out one part after the other.
use Rattle.std.proofs.Common.{length-drop, ◌≡◌, ℕ, ◌+◌, ◌-◌, List, Option, Some, None, length, take, drop, refl, ap, append_assoc, arith}
use Rattle.std.proofs.lemmas.List.{take_all}
use Rattle.std.proofs.Math.Seq.{take-add}
use Rattle.cfg_io.specs.Sink.{with_bytes}

-- the next bytes of a text went out after its front
pub with_bytes-front_more : (taken : Option (List ℕ)) (bytes : List ℕ) (written count : ℕ) → with_bytes (with_bytes taken (take written bytes)) (take count (take (length bytes - written) (drop written bytes))) ≡ with_bytes taken (take (written + count) bytes)
with_bytes-front_more None bytes written count = refl
with_bytes-front_more (Some taken) bytes written count =
    rw (take_all (length bytes - written) (drop written bytes) (omega (arith, length-drop written bytes)), take-add written count bytes)
    (ap Some (append_assoc taken (take written bytes) (take count (drop written bytes))))
