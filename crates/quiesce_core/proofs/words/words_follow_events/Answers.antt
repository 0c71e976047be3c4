use Rattle.quiesce_core.proofs.WordLaws.{port_word_follows, port_word_stays, slot_word_made, slot_word_stays, slot_word_unmade}
use Rattle.quiesce_core.proofs.words.words_follow_events.Goals as goal

pub returns : goal.returns
returns c = record {
  port = port_word_follows;
  other_ports = port_word_stays;
  unmade = slot_word_unmade;
  made = slot_word_made;
  other_slots = slot_word_stays;
}
