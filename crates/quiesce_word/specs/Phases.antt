-- To be believed (definitions.md).
-- Tests of how far a port's transaction has come.
use Rattle.std.specs.Prelude.{Bool, true, false}
use Rattle.quiesce_word.specs.declared.phase.Phase.{Phase}
use Rattle.quiesce_word.specs.declared.phase.Phase.TheVariants as phase

abbrev pub is_idle : Phase → Bool
is_idle phase.Idle = true
is_idle phase.Asked = false
is_idle phase.Answered = false
is_idle phase.More = false

abbrev pub is_asked : Phase → Bool
is_asked phase.Idle = false
is_asked phase.Asked = true
is_asked phase.Answered = false
is_asked phase.More = false

abbrev pub is_answered : Phase → Bool
is_answered phase.Idle = false
is_answered phase.Asked = false
is_answered phase.Answered = true
is_answered phase.More = false

abbrev pub is_in_more : Phase → Bool
is_in_more phase.Idle = false
is_in_more phase.Asked = false
is_in_more phase.Answered = false
is_in_more phase.More = true
