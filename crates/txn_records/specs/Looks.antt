-- To be believed (definitions.md).
-- What a look at a port's word finds.
use Rattle.std.specs.Prelude.{ℕ, ◌-◌, Bool, if◌then◌else◌}
use Rattle.quiesce_word.specs.Phases.{is_idle}
use Rattle.quiesce_word.specs.Words as words
use Rattle.quiesce_word.specs.declared.word.Word.{Word}
use Rattle.txn_records.specs.declared.looking.Look.{Look}
use Rattle.txn_records.specs.declared.looking.Look.TheVariants.{Drained, Busy}

abbrev pub look_in : Word → ℕ → Look
look_in w word = if words.is_drained w then Drained w.serial (is_idle w.phase) else Busy word

abbrev pub look_of : ℕ → Look
look_of word = look_in (words.unpack word) word

-- whether the word shows the port drained: closed, and idle or in a consequent transaction
abbrev pub is_drained_word : ℕ → Bool
is_drained_word word = words.is_drained (words.unpack word)

-- whether it shows no transaction, and how many it shows as ended
abbrev pub is_idle_word : ℕ → Bool
is_idle_word word = is_idle (words.unpack word).phase

abbrev pub serial_of : ℕ → ℕ
serial_of word = (words.unpack word).serial

abbrev pub ended_in_word : ℕ → ℕ
ended_in_word word = if is_idle_word word then serial_of word else serial_of word - 1
