-- The lines of a script: each means its statement and stands in order below those above it, and a start is among them.
use Rattle.std.proofs.Common.{◌≡◌, ◌∙◌, ℕ, Bool, true, false, List, [], ◌∷◌, ◌++◌, Option, Some, None, Result, Ok, Err, refl, sym, ap, subst}
use Rattle.std.specs.Prelude.{◌||◌, ◌&&◌, not, if◌then◌else◌}
use Rattle.std.specs.Option.{option_or}
use Rattle.std.proofs.lemmas.Bool.{or_parts}
use Rattle.std.proofs.lemmas.List.Folds.{list_any-append}
use Rattle.base.specs.Each.{Each, EachAfter}
use Rattle.change_script.specs.EventFiles.{first_fault}
use Rattle.change_script.specs.Lines.{Line, statements}
use Rattle.change_script.specs.ScriptFiles.{IsScript, ends_with_end, fault_in, has, is_file, is_full, is_out_of_order, is_start, lack, line_faults, needs_file, needs_start, said, said_by, said_with}
use Rattle.change_script.specs.ScriptLines.{meaning}
use Rattle.change_script.specs.declared.error.LineFault.{LineFault}
use Rattle.change_script.specs.declared.error.ScriptError.{ScriptError}
use Rattle.change_script.specs.declared.error.ScriptError.TheVariants as errors
use Rattle.report_types.specs.declared.script.Body.{Body}
use Rattle.report_types.specs.declared.script.Script.{Script}
use Rattle.report_types.specs.declared.script.ScriptLine.{ScriptLine}

-- a line below these says what some bytes mean, and isn't out of order
pub record StandsInOrder (above : List ScriptLine) (line : ScriptLine) : Type 0 where
  pub bytes : List ℕ
  pub means : meaning bytes ≡ Ok line.body
  pub right : is_out_of_order above line.body ≡ false

right_line :
    (n : ℕ) (full out : Bool) (rest : List (Option ScriptError))
    → first_fault ((if full then Some (errors.TooManyLines n) else (if out then Some (errors.Order n) else None)) ∷ rest) ≡ None
    → (out ≡ false) × (first_fault rest ≡ None)
right_line n true out rest h = absurd (cc h)
right_line n false true rest h = absurd (cc h)
right_line n false false rest h = (refl, h)

each_stands : (above : List ScriptLine) (ls : List Line) → first_fault (line_faults above ls) ≡ None → EachAfter StandsInOrder above (said ls)
each_stands above [] h = tt
each_stands above (line ∷ ls) h = by (meaning line.bytes) refl (each_stands (above ++ said_by line) ls)
  where
    by : (m : Result Body LineFault) → meaning line.bytes ≡ m
        → (first_fault (line_faults (above ++ said_by line) ls) ≡ None → EachAfter StandsInOrder (above ++ said_by line) (said ls))
        → EachAfter StandsInOrder above (said (line ∷ ls))
    by (Err fault) means rest = absurd (cc (ap (λ m. first_fault (fault_in above line.number m ∷ line_faults (above ++ said_by line) ls)) (sym means) ∙ h))
    by (Ok body) means rest =
        let one : said_by line ≡ record { number = line.number; body = body } ∷ [] = ap (said_with line.number) means in
        let right = right_line line.number (is_full above) (is_out_of_order above body) (line_faults (above ++ said_by line) ls)
        (ap (λ m. first_fault (fault_in above line.number m ∷ line_faults (above ++ said_by line) ls)) (sym means) ∙ h) in
        subst (λ xs. EachAfter StandsInOrder above (xs ++ said ls)) (sym one)
        (record { bytes = line.bytes; means = means; right = right.0 }, subst (λ xs. EachAfter StandsInOrder (above ++ xs) (said ls)) one (rest right.1))

first_none : (a b : Option ScriptError) → option_or a b ≡ None → (a ≡ None) × (b ≡ None)
first_none None b h = (refl, h)
first_none (Some x) b h = absurd (cc h)

pub script_stands : (text : List ℕ) (script : Script) → IsScript text script → Each StandsInOrder script.lines
script_stands text script is =
    subst (Each StandsInOrder) (sym is.1)
    (each_stands [] (statements text) (first_none (first_fault (line_faults [] (statements text))) (lack (said (statements text))) is.0).0)

pub script_starts : (text : List ℕ) (script : Script) → IsScript text script → has is_start script.lines ≡ true
script_starts text script is = subst (λ ls. has is_start ls ≡ true) (sym is.1) (by (has is_start lines) refl)
  where
    lines : List ScriptLine
    lines = said (statements text)

    by : (b : Bool) → has is_start lines ≡ b → has is_start lines ≡ true
    by true start = start
    by false none =
        absurd (cc (ap (λ b. if b then (if ends_with_end lines then None else Some errors.NoEnd) else Some errors.NoStart) (sym none)
        ∙ (first_none (first_fault (line_faults [] (statements text))) (lack lines) is.0).1))

-- What is in order: a description is used above what needs one, a start stands above what needs one, and above no start.
there : (needs is : Bool) → needs ≡ true → (needs && not is) ≡ false → is ≡ true
there true true needs right = refl
there true false needs right = cc
there false is needs right = cc

nowhere : (starts is : Bool) → starts ≡ true → (starts && is) ≡ false → is ≡ false
nowhere true true starts right = cc
nowhere true false starts right = refl
nowhere false is starts right = cc

module _ (above : List ScriptLine) (body : Body) (right : is_out_of_order above body ≡ false) where
  pub file_above : needs_file body ≡ true → has is_file above ≡ true
  file_above needs =
      there (needs_file body) (has is_file above) needs (or_parts _ _ (or_parts _ _ (or_parts _ _ (or_parts _ _ right).0).0).0).0

  pub start_above : needs_start body ≡ true → has is_start above ≡ true
  start_above needs = there (needs_start body) (has is_start above) needs (or_parts _ _ (or_parts _ _ (or_parts _ _ right).0).0).1

  pub no_start_above : is_start body ≡ true → has is_start above ≡ false
  no_start_above starts =
      nowhere (is_start body) (has is_start above) starts (or_parts _ _ (or_parts _ _ (or_parts _ _ (or_parts _ _ right).0).0).0).1

-- with one line more
pub has_with_one : (test : Body → Bool) (above : List ScriptLine) (line : ScriptLine) → has test (above ++ line ∷ []) ≡ (has test above || test line.body)
has_with_one test above line =
    list_any-append (λ (l : ScriptLine). test l.body) above (line ∷ []) ∙ ap (λ b. has test above || b) (or_nothing (test line.body))
  where
    or_nothing : (b : Bool) → (b || false) ≡ b
    or_nothing true = refl
    or_nothing false = refl
