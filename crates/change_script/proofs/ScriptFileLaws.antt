-- A text is one script or has one first fault, and reading its lines one after the other finds which.
use Rattle.std.proofs.Common.{◌≡◌, ◌≢◌, ◌⊎◌, inl, inr, ℕ, suc, ◌-◌, Bool, true, false, List, [], ◌∷◌, ◌++◌, length, Option, Some, None, Result, Ok, Err, refl, sym, ap, if◌then◌else◌, ◌∙◌, arith}
use Rattle.std.specs.List.{slice_get}
use Rattle.std.specs.Option.{option_or}
use Rattle.report_types.specs.declared.script.Body.{Body}
use Rattle.report_types.specs.declared.script.ScriptLine.{ScriptLine}
use Rattle.report_types.specs.declared.script.Script.{Script}
use Rattle.change_script.specs.declared.error.LineFault.{LineFault}
use Rattle.change_script.specs.declared.error.LineFault.TheVariants.{Bad, Big}
use Rattle.change_script.specs.declared.error.ScriptError.{ScriptError}
use Rattle.change_script.specs.declared.error.ScriptError.TheVariants as errors
use Rattle.change_script.specs.EventFiles.{first_fault}
use Rattle.change_script.specs.Lines.{Line, statements}
use Rattle.change_script.proofs.EventFileLaws.{first_is_one}
use Rattle.change_script.specs.ScriptLines.{meaning}
use Rattle.change_script.specs.ScriptFiles.{has, is_start, is_stop, ends_with_end, fault_in, fault_of, fault_in_lines, said, said_by, line_faults, lack, is_full, is_out_of_order, IsScript, IsScriptFault}

pub ends_at : (lines : List ScriptLine) (last : ScriptLine) → slice_get lines (length lines - 1) ≡ Some last → ends_with_end lines ≡ is_stop last.body
ends_at [] last e = cc
ends_at (only ∷ []) last e = let is : only ≡ last = cc in ap (λ (l : ScriptLine). is_stop l.body) is
ends_at (first ∷ next ∷ more) last e =
    let step : length (first ∷ next ∷ more) - 1 ≡ suc (length (next ∷ more) - 1) = omega arith in
    ends_at (next ∷ more) last (ap (slice_get (first ∷ next ∷ more)) (sym step) ∙ e)

abbrev refusal : ScriptError → Result Script ScriptError
refusal fault = Err fault

-- one and not both
pub one_script : (text : List ℕ) (script other : Script) → IsScript text script → IsScript text other → script ≡ other
one_script text script other a b =
    let of : List ScriptLine → Script = λ lines. record { lines = lines } in
    ap of (a.1 ∙ sym b.1)

pub one_fault : (text : List ℕ) (fault other : ScriptError) → IsScriptFault text fault → IsScriptFault text other → fault ≡ other
one_fault text fault other a b = let e : Some fault ≡ Some other = sym a ∙ b in cc

pub never_both : (text : List ℕ) (script : Script) (fault : ScriptError) → IsScript text script → IsScriptFault text fault → ⊥
never_both text script fault a b = let e : None ≡ Some fault = sym a.0 ∙ b in cc

abbrev OneOf : List ℕ → Type 0
OneOf text = ((script : Script) × IsScript text script) ⊎ ((fault : ScriptError) × IsScriptFault text fault)

one_of : (text : List ℕ) (o : Option ScriptError) → fault_in_lines (statements text) ≡ o → OneOf text
one_of text None is = inl (record { lines = said (statements text) }, (is, refl))
one_of text (Some fault) is = inr (fault, is)

pub always_one : (text : List ℕ) → OneOf text
always_one text = one_of text (fault_in_lines (statements text)) refl

-- No line wants memory, and no script misses it.
no_want_with : (above : List ScriptLine) (n : ℕ) (full out : Bool) → (if full then Some (errors.TooManyLines n) else (if out then Some (errors.Order n) else None)) ≡ Some errors.NoMemory → ⊥
no_want_with above n true out e = cc
no_want_with above n false true e = cc
no_want_with above n false false e = cc

no_want_in : (above : List ScriptLine) (n : ℕ) (m : Result Body LineFault) → fault_in above n m ≡ Some errors.NoMemory → ⊥
no_want_in above n (Err Bad) e = cc
no_want_in above n (Err Big) e = cc
no_want_in above n (Ok body) e = no_want_with above n (is_full above) (is_out_of_order above body) e

no_want_among : (above : List ScriptLine) (lines : List Line) → first_fault (line_faults above lines) ≡ Some errors.NoMemory → ⊥
no_want_among above [] e = cc
no_want_among above (line ∷ rest) e =
    elim (first_is_one (fault_of above line) (line_faults (above ++ said_by line) rest) errors.NoMemory e) [
      | inl here ↦ no_want_in above line.number (meaning line.bytes) here
      | inr later ↦ no_want_among (above ++ said_by line) rest later
    ]

no_want_of : (start last : Bool) → (if start then (if last then None else Some errors.NoEnd) else Some errors.NoStart) ≡ Some errors.NoMemory → ⊥
no_want_of true true e = cc
no_want_of true false e = cc
no_want_of false last e = cc

pub either_fault : (first second : Option ScriptError) (fault : ScriptError) → option_or first second ≡ Some fault → (first ≡ Some fault) ⊎ ((first ≡ None) × (second ≡ Some fault))
either_fault None second fault e = inr (refl, e)
either_fault (Some found) second fault e = inl e

pub no_want_of_memory : (text : List ℕ) → IsScriptFault text errors.NoMemory → ⊥
no_want_of_memory text e =
    let lines = statements text in
    elim (either_fault (first_fault (line_faults [] lines)) (lack (said lines)) errors.NoMemory e) [
      | inl here ↦ no_want_among [] lines here
      | inr later ↦ no_want_of (has is_start (said lines)) (ends_with_end (said lines)) later.1
    ]

pub fault_is : (text : List ℕ) (fault : ScriptError) → first_fault (line_faults [] (statements text)) ≡ Some fault → IsScriptFault text fault
fault_is text fault first = ap (λ o. option_or o (lack (said (statements text)))) first

-- A refusal that names the first fault unless memory ran out comes for no script but for want of memory, and for no other fault.
pub refused_script : (text : List ℕ) (script : Script) (found : ScriptError) → (found ≢ errors.NoMemory → IsScriptFault text found) → IsScript text script → refusal found ≡ refusal errors.NoMemory
refused_script text script (errors.BadLine n) h is = absurd (never_both text script (errors.BadLine n) is (h (λ e. cc)))
refused_script text script errors.NoStart h is = absurd (never_both text script errors.NoStart is (h (λ e. cc)))
refused_script text script errors.NoEnd h is = absurd (never_both text script errors.NoEnd is (h (λ e. cc)))
refused_script text script (errors.Order n) h is = absurd (never_both text script (errors.Order n) is (h (λ e. cc)))
refused_script text script (errors.NumberTooBig n) h is = absurd (never_both text script (errors.NumberTooBig n) is (h (λ e. cc)))
refused_script text script (errors.TooManyLines n) h is = absurd (never_both text script (errors.TooManyLines n) is (h (λ e. cc)))
refused_script text script errors.NoMemory h is = refl

found_other : (text : List ℕ) (found fault : ScriptError) → IsScriptFault text found → IsScriptFault text fault → (refusal found ≡ refusal fault) ⊎ (refusal found ≡ refusal errors.NoMemory)
found_other text found fault is other = inl (ap refusal (one_fault text found fault is other))

pub refused_fault : (text : List ℕ) (fault found : ScriptError) → (found ≢ errors.NoMemory → IsScriptFault text found) → IsScriptFault text fault
    → (refusal found ≡ refusal fault) ⊎ (refusal found ≡ refusal errors.NoMemory)
refused_fault text fault (errors.BadLine n) h other = found_other text (errors.BadLine n) fault (h (λ e. cc)) other
refused_fault text fault errors.NoStart h other = found_other text errors.NoStart fault (h (λ e. cc)) other
refused_fault text fault errors.NoEnd h other = found_other text errors.NoEnd fault (h (λ e. cc)) other
refused_fault text fault (errors.Order n) h other = found_other text (errors.Order n) fault (h (λ e. cc)) other
refused_fault text fault (errors.NumberTooBig n) h other = found_other text (errors.NumberTooBig n) fault (h (λ e. cc)) other
refused_fault text fault (errors.TooManyLines n) h other = found_other text (errors.TooManyLines n) fault (h (λ e. cc)) other
refused_fault text fault errors.NoMemory h other = inr refl
