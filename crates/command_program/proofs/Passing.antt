-- Lines that are passed one after the other.
use Rattle.std.proofs.Common.{◌≡◌, ◌∙◌, ◌++◌, ◌∷◌, [], ℕ, true, List, Option, Result, Ok, Err, append_assoc, refl, sym, ap, subst}
use Rattle.std.specs.Prelude.{◌||◌, ⊤, is_some}
use Rattle.std.proofs.lemmas.List.{append-nil}
use Rattle.std.proofs.lemmas.Grind.{flat_map-append}
use Rattle.cfg_io.specs.Shelf.{Files}
use Rattle.change_script.specs.ScriptFiles.{is_file}
use Rattle.report_types.specs.declared.script.ScriptLine.{ScriptLine}
use Rattle.command_spec.specs.Lines.{Progress}
use Rattle.command_spec.specs.Scripts.{lines_of_body, lines_of_script}
use Rattle.command_program.specs.declared.answer.Stop.{Stop}
use Rattle.command_program.specs.Fitting.{MayAllStand}
use Rattle.command_program.specs.Leading.{Marks, Took}
use Rattle.command_program.specs.Ways.{IsAt}
use Rattle.command_program.specs.declared.way.Way.{Way}
use Rattle.command_program.proofs.Joining.{joined, none_took, stopped_lead}

-- how far a list of lines was passed
pub record IsPassed (files files' : Option Files) (way way' : Way) (passed left : List ScriptLine) (failures failures' : List (List ℕ)) : Type 0 where
  pub kept : files' ≡ files
  pub fit : MayAllStand (is_some way'.used) (is_some way'.start) left
  pub took : (p : Progress) → IsAt way p → Took {T = ⊤} files p (lines_of_script passed) failures failures' way' (Ok tt)

pub none_passed : (files : Option Files) (way : Way) (lines : List ScriptLine) (failures : List (List ℕ)) → MayAllStand (is_some way.used) (is_some way.start) lines
    → IsPassed files files way way [] lines failures failures
none_passed files way lines failures fit = record { kept = refl; fit = fit; took = λ p at. none_took tt files p failures way at }

line_of_last : (ys : List ScriptLine) (line : ScriptLine) → lines_of_script (ys ++ line ∷ []) ≡ lines_of_script ys ++ lines_of_body line.body
line_of_last ys line =
    flat_map-append (λ (l : ScriptLine). lines_of_body l.body) ys (line ∷ []) ∙ ap (λ ls. lines_of_script ys ++ ls) (append-nil (lines_of_body line.body))

one_more : {T : Type 0} (files : Option Files) (p : Progress) (ys : List ScriptLine) (line : ScriptLine) (failures between failures' : List (List ℕ)) (mid way : Way) (r : Result T Stop)
    → Took {T = ⊤} files p (lines_of_script ys) failures between mid (Ok tt) → ((q : Progress) → IsAt mid q → Took files q (lines_of_body line.body) between failures' way r)
    → Took files p (lines_of_script (ys ++ line ∷ [])) failures failures' way r
one_more files p ys line failures between failures' mid way r t next =
    subst (λ ls. Took files p ls failures failures' way r) (sym (line_of_last ys line)) (joined tt files p (lines_of_script ys) (lines_of_body line.body) failures between failures' mid way r t next)

module _ {T : Type 0} (files files' : Option Files) (way mid next : Way) (ys rest : List ScriptLine) (line : ScriptLine) (failures between failures' : List (List ℕ))
    (before : IsPassed files files' way mid ys (line ∷ rest) failures between) where
  taken : (r : Result T Stop) → ((q : Progress) → IsAt mid q → Took files' q (lines_of_body line.body) between failures' next r) → (p : Progress) → IsAt way p
      → Took files p (lines_of_script (ys ++ line ∷ [])) failures failures' next r
  taken r took p at =
      one_more files p ys line failures between failures' mid next r (before.took p at)
      (λ q here. subst (λ fs. Took fs q (lines_of_body line.body) between failures' next r) before.kept (took q here))

  pub passed_on : (files'' : Option Files) (r : Result T Stop) (done : T) → r ≡ Ok done → files'' ≡ files' → ((q : Progress) → IsAt mid q → Took files' q (lines_of_body line.body) between failures' next r)
      → Marks mid next line.body → IsPassed files files'' way next (ys ++ line ∷ []) rest failures failures'
  passed_on files'' r done is same took marks = record {
    kept = same ∙ before.kept;
    fit =
        subst (λ b. MayAllStand b (is_some next.start) rest) (sym marks.described)
        (subst (λ b. MayAllStand (is_some mid.used || is_file line.body) b rest) (sym marks.begun) before.fit.1);
    took = λ p at.
        let t = subst (Took files p (lines_of_script (ys ++ line ∷ [])) failures failures' next) is (taken r took p at) in
        record { failing = t.failing; noted = t.noted; ends = t.ends };
  }

  -- a line that stops, whatever stands behind it
  pub stopped_at : {U : Type 0} (lines : List ScriptLine) (r : Result T Stop) (stop : Stop) → r ≡ Err stop → ys ++ line ∷ rest ≡ lines
      → ((q : Progress) → IsAt mid q → Took files' q (lines_of_body line.body) between failures' next r) → (p : Progress) → IsAt way p
      → Took {T = U} files p (lines_of_script lines) failures failures' next (Err stop)
  stopped_at {U} lines r stop is all took p at =
      let t = subst (Took files p (lines_of_script (ys ++ line ∷ [])) failures failures' next) is (taken r took p at) in
      let parts : lines_of_script lines ≡ lines_of_script (ys ++ line ∷ []) ++ lines_of_script rest =
      ap lines_of_script (sym all ∙ sym (append_assoc ys (line ∷ []) rest)) ∙ flat_map-append (λ (l : ScriptLine). lines_of_body l.body) (ys ++ line ∷ []) rest in
      subst (λ ls. Took {T = U} files p ls failures failures' next (Err stop)) (sym parts)
      (stopped_lead files p (lines_of_script (ys ++ line ∷ [])) (lines_of_script rest) failures failures' next stop t)

-- all lines were passed
pub all_passed : {T : Type 0} (done : T) (files files' : Option Files) (way way' : Way) (ys left lines : List ScriptLine) (failures failures' : List (List ℕ)) → left ≡ []
    → ys ++ left ≡ lines → IsPassed files files' way way' ys left failures failures' → (p : Progress) → IsAt way p → Took files p (lines_of_script lines) failures failures' way' (Ok done)
all_passed {T} done files files' way way' ys left lines failures failures' none_ all passed p at =
    let same : ys ≡ lines = sym (append-nil ys) ∙ ap (λ ls. ys ++ ls) (sym none_) ∙ all in
    let t = passed.took p at in
    subst (λ ls. Took {T = T} files p (lines_of_script ls) failures failures' way' (Ok done)) same
    (record { failing = t.failing; noted = t.noted; ends = t.ends })

pub begun_at_end : (files files' : Option Files) (way way' : Way) (ys left : List ScriptLine) (failures failures' : List (List ℕ)) → left ≡ []
    → IsPassed files files' way way' ys left failures failures' → is_some way'.start ≡ true
begun_at_end files files' way way' ys left failures failures' none_ passed = subst (MayAllStand (is_some way'.used) (is_some way'.start)) none_ passed.fit
