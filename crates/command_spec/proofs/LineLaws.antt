-- Lines fetch the files that they use, and go on where those above them lead.
use Rattle.std.proofs.Common.{inl, inr, ℕ, List, [], ◌∷◌, ◌++◌, Option}
use Rattle.cfg_io.specs.Shelf.{Files}
use Rattle.command_answers.specs.Answers.{Refusal, description, no_memory}
use Rattle.command_spec.specs.Courses.{End, came, refusal, Follows, here, not_fetched, failed, failed_short, too_long, leads_on, not_judged, refused, gives}
use Rattle.command_spec.specs.Endings.{Comes, FailsLast}
use Rattle.command_spec.specs.Lines.{RunLine, uses, calls, does, Progress, of_lines, with_description, with_statement}
use Rattle.command_spec.specs.Scripts.{Uses}
use Rattle.command_spec.proofs.CourseLaws.{fails_last, widen_names}

pub lines_use : (files : Option Files) (lines : List RunLine) (p : Progress) (file : List ℕ) → Comes files (of_lines p lines) file → Uses lines file
lines_use files [] p file never = never
lines_use files (uses used ∷ lines) p file (inl is) = inl is
lines_use files (uses used ∷ lines) p file (inr (bytes, told, (tree, checked, comes))) = inr (lines_use files lines (with_description p used tree) file comes)
lines_use files (calls deed name args ∷ lines) p file (next, leads, comes) = lines_use files lines next file comes
lines_use files (does what ∷ lines) p file comes = lines_use files lines (with_statement p what) file comes

pub lines_last :
    (files : Option Files) (p : Progress) (lines : List RunLine) (failing : List (List ℕ)) (end : End Progress) → Follows files (of_lines p lines) failing end
    → FailsLast (Uses lines) failing end
lines_last files p lines failing end on =
    widen_names (Comes files (of_lines p lines)) (Uses lines) (lines_use files lines p) failing end (fails_last files (of_lines p lines) failing end on)

-- ---- lines behind lines

module _ (files : Option Files) (after : List RunLine) where
  -- those above lead on, and those below go on from there
  pub lines_go_on :
      (before : List RunLine) (p q : Progress) (failing : List (List ℕ)) (end : End Progress) → Follows files (of_lines p before) [] (came q)
      → Follows files (of_lines q after) failing end → Follows files (of_lines p (before ++ after)) failing end
  lines_go_on [] p _ failing end here next = next
  lines_go_on (uses file ∷ before) p q failing end (leads_on bytes _ _ told (gives tree _ _ checked on)) next =
      leads_on bytes failing end told (gives tree failing end checked (lines_go_on before (with_description p file tree) q failing end on next))
  lines_go_on (calls deed name args ∷ before) p q failing end (gives n _ _ leads on) next =
      gives n failing end leads (lines_go_on before n q failing end on next)
  lines_go_on (does what ∷ before) p q failing end on next = lines_go_on before (with_statement p what) q failing end on next

  -- those above stop, and so do all
  pub lines_stop :
      (before : List RunLine) (p : Progress) (failing : List (List ℕ)) (why : Refusal) → Follows files (of_lines p before) failing (refusal why)
      → Follows files (of_lines p (before ++ after)) failing (refusal why)
  lines_stop [] p _ _ never = elim never [ ]
  lines_stop (uses file ∷ before) p _ _ not_fetched = not_fetched
  lines_stop (uses file ∷ before) p _ _ failed = failed
  lines_stop (uses file ∷ before) p _ _ failed_short = failed_short
  lines_stop (uses file ∷ before) p _ _ (too_long long) = too_long long
  lines_stop (uses file ∷ before) p _ _ (leads_on bytes _ _ told not_judged) = leads_on bytes [] (refusal no_memory) told not_judged
  lines_stop (uses file ∷ before) p _ _ (leads_on bytes _ _ told (refused words why)) =
      leads_on bytes [] (refusal (description file words)) told (refused words why)
  lines_stop (uses file ∷ before) p failing why (leads_on bytes _ _ told (gives tree _ _ checked on)) =
      leads_on bytes failing (refusal why) told (gives tree failing (refusal why) checked (lines_stop before (with_description p file tree) failing why on))
  lines_stop (calls deed name args ∷ before) p _ _ not_judged = not_judged
  lines_stop (calls deed name args ∷ before) p _ _ (refused words why) = refused words why
  lines_stop (calls deed name args ∷ before) p failing why (gives n _ _ leads on) = gives n failing (refusal why) leads (lines_stop before n failing why on)
  lines_stop (does what ∷ before) p failing why on = lines_stop before (with_statement p what) failing why on
