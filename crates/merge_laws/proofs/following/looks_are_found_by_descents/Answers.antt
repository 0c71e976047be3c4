use Rattle.std.proofs.Common.{refl}
use Rattle.merge_laws.proofs.DescentLemmas.{all_in_pieces, falls_are_few, pieces_are_looks}
use Rattle.merge_laws.proofs.following.looks_are_found_by_descents.Goals as goal

pub returns : goal.returns
returns c = record { there = pieces_are_looks; all_there = all_in_pieces; row = refl; needed = falls_are_few }
