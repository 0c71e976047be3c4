-- To be believed (definitions.md).
-- What is wrong with a line, of which the form is looked at before the size of its numbers, and how a text's refusal
-- names it.
use Rattle.std.specs.Prelude.{◌≡◌, ℕ, Result, Ok, Err}
use Rattle.change_script.specs.declared.error.LineFault.{LineFault}
use Rattle.change_script.specs.declared.error.LineFault.TheVariants.{Bad, Big}
use Rattle.change_script.specs.declared.error.LineError.{LineError}
use Rattle.change_script.specs.declared.error.LineError.TheVariants as line
use Rattle.change_script.specs.declared.error.ScriptError.{ScriptError}
use Rattle.change_script.specs.declared.error.ScriptError.TheVariants as errors

-- both values, or the fault of the form before that of the size
abbrev pub both : {A B : Type 0} → Result A LineFault → Result B LineFault → Result (A × B) LineFault
both (Ok first) (Ok second) = Ok (first, second)
both (Ok first) (Err fault) = Err fault
both (Err Bad) second = Err Bad
both (Err Big) (Ok second) = Err Big
both (Err Big) (Err fault) = Err fault

abbrev pub with_value : {A B : Type 0} → (A → B) → Result A LineFault → Result B LineFault
with_value f (Ok value) = Ok (f value)
with_value f (Err fault) = Err fault

-- The answer is what was meant, unless memory ran out.
abbrev pub MeansLine : {A : Type 0} → Result A LineError → Result A LineFault → Type 0
MeansLine (Ok said) meant = meant ≡ Ok said
MeansLine (Err (line.Fault fault)) meant = meant ≡ Err fault
MeansLine (Err line.NoMemory) meant = Unit {0}

-- the refusal of a line with this number
abbrev pub fault_with : ℕ → LineFault → ScriptError
fault_with number Bad = errors.BadLine number
fault_with number Big = errors.NumberTooBig number

abbrev pub fault_at : ℕ → LineError → ScriptError
fault_at number (line.Fault fault) = fault_with number fault
fault_at number line.NoMemory = errors.NoMemory
