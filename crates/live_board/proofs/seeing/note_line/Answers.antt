use Rattle.std.proofs.Common.{◌∙◌, ◌++◌, ◌∷◌, [], ap, append_assoc, length, map, subst, sym}
use Rattle.change_board.specs.Sights.{Sight}
use Rattle.live_board.specs.Lengths.{AreLengths, noted}
use Rattle.live_board.proofs.LengthLaws.{lengths_noted}
use Rattle.live_board.proofs.seeing.note_line.Goals as goal

pub returns-clause-lengths : goal.returns-clause-lengths
returns-clause-lengths c = λ before h.
    let x = c.args.guest.now.node in
    let own : Sight = record { slot = x.slot; events = x.log.items } in
    let past = map {B = Sight} (λ p. record { slot = p.slot; events = p.log.items }) x.past.items in
    subst (AreLengths (before ++ (past ++ own ∷ []))) (sym (c.note.ensures ∙ ap (noted c.note_past.new.lengths.items x.slot) (c.len.ensures ∙ x.log.ok.0)))
    (subst (λ ss. AreLengths ss (noted c.note_past.new.lengths.items x.slot (length x.log.items))) (append_assoc before past (own ∷ []))
    (lengths_noted (before ++ past) c.note_past.new.lengths.items own (c.note_past.ensures.lengths before h)))
