-- What is left of a text, as a stage leaves it behind.
use Rattle.std.specs.Prelude.{◌≡◌, ◌≤◌, ◌+◌, ◌<◌, ◌^◌, length}
use Rattle.report_texts.specs.declared.rest.Rest.{Rest}
use Rattle.report_texts.specs.Stages.{Front, front}
use Rattle.report_texts.specs.TextLines.{lines, tail}

-- the numbers of all lines that are left can be told
abbrev pub CanNumberLines : Rest → Type 0
CanNumberLines rest = rest.number + length rest.text.now < 2 ^ 31

-- what a stage read, and what it leaves
abbrev pub leaving : {A : Type 0} → A → Rest → Front A
leaving read rest = front read rest.number (lines rest.text.now)

-- What stands behind the next line feed is as it was, and the numbers of all lines can be told as before.
pub record IsRestOf (new old : Rest) : Type 0 where
  pub tail : tail new.text.now ≡ tail old.text.now
  pub room : new.number + length new.text.now ≤ old.number + length old.text.now
