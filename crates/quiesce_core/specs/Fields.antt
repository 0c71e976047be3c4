-- To be believed (definitions.md).
-- What a port of a state shows, which is all that a gate has of it.
use Rattle.std.specs.Prelude.{ℕ, is_some}
use Rattle.quiesce_word.specs.declared.word.Word.{Word}
use Rattle.quiesce_core.specs.State.{State, gate, exchange}

-- what a port shows of its gate and its exchange
abbrev pub fields_of : State → ℕ → Word
fields_of s p =
    record {
      closed = (gate s.config p).closed;
      phase = (exchange s p).phase;
      consequent = is_some (exchange s p).within;
      target = (gate s.config p).target;
      serial = (exchange s p).serial;
      value = (exchange s p).value;
    }
