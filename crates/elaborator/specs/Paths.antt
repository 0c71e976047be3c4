-- To be believed (definitions.md).
-- Paths of instances, as bytes: the segments from the top inward, joined by full stops. A segment is the name of an
-- instance, or the name of an array and an index in brackets. The path of the top is empty.
use Rattle.std.specs.Prelude.{ℤ, [], ◌∷◌, ◌++◌, Option, codes}
use Rattle.std.specs.Option.{option_map_or}
use Rattle.std.specs.Fmt.{signed_decimal}
use Rattle.darwin_parser.specs.Tree.{Name}
use Rattle.darwin_walk.specs.Instance.{Segment, End}

abbrev pub Path : Type 0
Path = Name

-- an index in brackets, where there is one
abbrev pub index_bytes : Option ℤ → Path
index_bytes index = option_map_or (λ i. codes "[" ++ signed_decimal i ++ codes "]") index []

abbrev pub segment_bytes : Segment → Path
segment_bytes s = s.name ++ index_bytes s.index

-- the path of the instance of a segment within the instance of a path
abbrev pub within : Path → Segment → Path
within [] s = segment_bytes s
within (b ∷ path) s = (b ∷ path) ++ codes "." ++ segment_bytes s

-- an end of a binding as a fault names it: the segment of its instance and a full stop where it is an inner one, the
-- name of the port, and its index in brackets where it has one
abbrev pub end_bytes : End → Path
end_bytes e = option_map_or (λ s. segment_bytes s ++ codes ".") e.inner [] ++ e.port ++ index_bytes e.index
