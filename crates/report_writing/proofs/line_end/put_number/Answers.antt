use Rattle.std.proofs.Common.{◌∙◌, ◌∷◌, ap, arith}
use Rattle.report_writing.proofs.LineEndLemmas.{byte_put, length_number}
use Rattle.report_writing.proofs.line_end.put_number.Goals as goal

pub write_digits-start-requires : goal.write_digits-start-requires
write_digits-start-requires c = (omega (arith, length_number c.args.number c.ranges.number.fits), c.requires.within)

pub overflow_sub-start : goal.overflow_sub-start
overflow_sub-start c = omega (arith, length_number c.args.number c.ranges.number.fits, c.write_digits-start.ensures.start, c.requires.room)

pub returns-clause-start : goal.returns-clause-start
returns-clause-start c = omega (arith, length_number c.args.number c.ranges.number.fits)

pub returns-clause-written : goal.returns-clause-written
returns-clause-written c =
    let short = length_number c.args.number c.ranges.number.fits in
    byte_put c.write_digits-start.new.buf c.write_digits-start.result 32 (omega arith) (omega arith) ∙ ap (λ bytes. 32 ∷ bytes) c.write_digits-start.ensures.written
