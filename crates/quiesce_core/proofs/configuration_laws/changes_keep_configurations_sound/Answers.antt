use Rattle.quiesce_core.proofs.SoundnessLaws.{sound_closed, sound_linked, sound_made, sound_removed, sound_unlinked}
use Rattle.quiesce_core.proofs.configuration_laws.changes_keep_configurations_sound.Goals as goal

pub returns : goal.returns
returns call = record {
  made = λ c node from sound few room. sound_made c sound node from few room;
  turned = λ c p closed sound made. sound_closed c p closed made sound;
  linked = λ c p t sound made leads free. sound_linked c p t made leads free sound;
  unlinked = λ c p sound made. sound_unlinked c p made sound;
  removed = λ c n old sound there apart. sound_removed c n old there sound apart;
}
