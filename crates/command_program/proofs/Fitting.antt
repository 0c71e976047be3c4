-- The lines of a script fit, each behind those above it.
use Rattle.std.proofs.Common.{◌≡◌, ◌∙◌, append_assoc, ℕ, Bool, true, false, List, [], ◌∷◌, ◌++◌, Option, Some, None, Result, Ok, Err, refl, sym, ap, subst}
use Rattle.std.specs.Prelude.{◌||◌, if◌then◌else◌}
use Rattle.std.specs.Str.{IsUtf8}
use Rattle.std.proofs.lemmas.List.{append-nil}
use Rattle.std.proofs.lemmas.Str.{IsUtf8-from_is_utf8}
use Rattle.change_script.specs.ScriptFiles.{IsScript, has, is_file, is_out_of_order, is_start}
use Rattle.base.specs.Each.{EachAfter}
use Rattle.change_script.proofs.ScriptOrderLaws.{StandsInOrder, file_above, has_with_one, no_start_above, script_stands, script_starts, start_above}
use Rattle.change_script.specs.ScriptForms.{are_right}
use Rattle.change_script.specs.ScriptLines.{body_of, keep_limits, meaning, meaning_of}
use Rattle.change_script.specs.ScriptWords.{Words, words_in}
use Rattle.change_script.specs.ScriptWords as words
use Rattle.change_script.specs.declared.error.LineFault.{LineFault}
use Rattle.change_script.specs.declared.error.LineFault.TheVariants.{Bad, Big}
use Rattle.report_types.specs.declared.script.Body.{Body}
use Rattle.report_types.specs.declared.script.Body.TheVariants as bodies
use Rattle.report_types.specs.declared.script.Script.{Script}
use Rattle.report_types.specs.declared.script.ScriptLine.{ScriptLine}
use Rattle.command_program.specs.Fitting.{MayAllStand, MayStand}

-- the name of a file is UTF-8
abbrev said_of : Words → Bool → Bool → Result Body LineFault
said_of ws right limits = if right then (if limits then Ok (body_of ws) else Err Big) else Err Bad

utf8_with : (ws : Words) (name : List ℕ) (right limits : Bool) → are_right ws ≡ right → said_of ws right limits ≡ Ok (bodies.File name) → IsUtf8 name
utf8_with (words.file n) name true true right is =
    let same : n ≡ name = cc in
    subst IsUtf8 same (IsUtf8-from_is_utf8 n right)
utf8_with (words.start n args) name true true right is = absurd (cc)
utf8_with (words.run n) name true true right is = absurd (cc)
utf8_with (words.change n args within moves) name true true right is = absurd (cc)
utf8_with (words.finish n) name true true right is = absurd (cc)
utf8_with words.show name true true right is = absurd (cc)
utf8_with words.stop name true true right is = absurd (cc)
utf8_with ws name true false right is = absurd (cc)
utf8_with ws name false limits right is = absurd (cc)

utf8_of : (o : Option Words) (name : List ℕ) → meaning_of o ≡ Ok (bodies.File name) → IsUtf8 name
utf8_of None name is = absurd (cc)
utf8_of (Some ws) name is = utf8_with ws name (are_right ws) (keep_limits ws) refl is

-- a line that is right fits
fits : (above : List ScriptLine) (bytes : List ℕ) (body : Body) → meaning bytes ≡ Ok body → is_out_of_order above body ≡ false
    → MayStand (has is_file above) (has is_start above) body
fits above bytes (bodies.File name) means right = utf8_of (words_in bytes) name means
fits above bytes (bodies.Start name args) means right =
    (file_above above (bodies.Start name args) right refl, no_start_above above (bodies.Start name args) right refl)
fits above bytes (bodies.Run k) means right = start_above above (bodies.Run k) right refl
fits above bytes (bodies.Change name args within moves) means right =
    (file_above above (bodies.Change name args within moves) right refl, start_above above (bodies.Change name args within moves) right refl)
fits above bytes (bodies.Finish n) means right = start_above above (bodies.Finish n) right refl
fits above bytes bodies.Show means right = start_above above bodies.Show right refl
fits above bytes bodies.Stop means right = tt

fit_all : (above lines : List ScriptLine) → EachAfter StandsInOrder above lines → has is_start (above ++ lines) ≡ true → MayAllStand (has is_file above) (has is_start above) lines
fit_all above [] each started = ap (has is_start) (sym (append-nil above)) ∙ started
fit_all above (line ∷ lines) each started =
    let more = fit_all (above ++ line ∷ []) lines each.1 (ap (has is_start) (append_assoc above (line ∷ []) lines) ∙ started) in (
      fits above each.0.bytes line.body each.0.means each.0.right,
      subst (λ b. MayAllStand (has is_file above || is_file line.body) b lines) (has_with_one is_start above line)
          (subst (λ b. MayAllStand b (has is_start (above ++ line ∷ [])) lines) (has_with_one is_file above line) more),
    )

-- so the lines of a script fit where nothing stands above them
pub script_fits : (text : List ℕ) (script : Script) → IsScript text script → MayAllStand false false script.lines
script_fits text script is = fit_all [] script.lines (script_stands text script is) (script_starts text script is)
