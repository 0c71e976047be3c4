use Rattle.std.proofs.Common.{◌∙◌, sym}
use Rattle.live_board.proofs.LookLaws.{busy_shows, drained_shows, fields_show, shown_of}
use Rattle.live_board.proofs.looking.shown_by.Goals as goal

pub returns-in-Drained : goal.returns-in-Drained
returns-in-Drained c = λ word is.
    shown_of word c.in-Drained.serial c.in-Drained.idle c.at_serial.result.idle c.at_serial.result.ended c.at_serial.ensures.idle c.at_serial.ensures.ended
    (drained_shows word c.in-Drained.serial c.in-Drained.idle (sym c.in-Drained.is ∙ is))

pub returns-in-Busy : goal.returns-in-Busy
returns-in-Busy c = λ word is.
    shown_of word c.of-fields.result.serial c.is_idle.result c.at_serial-in-Busy.result.idle c.at_serial-in-Busy.result.ended c.at_serial-in-Busy.ensures.idle c.at_serial-in-Busy.ensures.ended
    (fields_show word c.in-Busy.word c.of-fields.result (busy_shows word c.in-Busy.word (sym c.in-Busy.is ∙ is)) c.of-fields.ensures.fields c.is_idle.result c.is_idle.ensures)
