-- The preparation of a script, from what its lines come to.
use Rattle.std.proofs.Common.{◌≡◌, [], ℕ, List, Option, Some, None, Ok, append-nil, refl, sym, ap, subst, string_bytes}
use Rattle.std.specs.Global.{Vec}
use Rattle.std.specs.Option.{option_map}
use Rattle.cfg_io.specs.Shelf.{Files}
use Rattle.change_spec.specs.Asked.{CanDoAll, after_start}
use Rattle.change_spec.specs.Scripts.{nothing_made}
use Rattle.change_spec.specs.declared.steps.Start.{Start}
use Rattle.change_spec.specs.declared.steps.Step.{Step}
use Rattle.change_script.specs.ScriptFiles.{IsScript}
use Rattle.report_types.specs.declared.script.Script.{Script}
use Rattle.darwin_types.specs.Checked.{description}
use Rattle.command_spec.specs.Courses.{came, Follows, leads_on, gives, here, reads}
use Rattle.command_spec.specs.Lines.{RunLine, Progress, begun, of_lines}
use Rattle.command_spec.specs.Sorts.{of_script}
use Rattle.command_program.specs.Coming.{Comes}
use Rattle.command_program.specs.Leading.{Took}
use Rattle.command_program.specs.Preparing.{CanRun, IsAskedBy, IsPrepared}
use Rattle.command_program.specs.Ways.{HasAsked, IsAt, IsAskedSoFar}
use Rattle.command_program.specs.declared.preparing.Prepared.{Prepared}
use Rattle.command_program.specs.declared.way.Way.{Way}

-- a script was read from some bytes
pub script_told : (files : Option Files) (name : List ℕ) (failing : List (List ℕ)) (script : Script) → Follows files (reads of_script name) failing (came script) → (bytes : List ℕ) × IsScript bytes script
script_told files name failing script (leads_on bytes _ _ told (gives _ _ _ is here)) = (bytes, is)

-- the way before the first line
pub at_begin : (way : Way) → string_bytes way.file ≡ [] → way.used ≡ None → way.start ≡ None → way.steps.items ≡ [] → way.made ≡ nothing_made → IsAt way begun
at_begin way file_is used_is start_is steps_are made_is = record {
  file_is = sym file_is;
  used_is = ap (option_map description) (sym used_is);
  made_is = sym made_is;
  stands = subst (λ o. IsAskedSoFar o way.steps.items way.made [] []) (sym start_is) (steps_are, made_is, refl);
}

-- what was asked for, at the end of the lines
asked_so : (way : Way) (q : Progress) (start : Start) (xs : Vec Step) → way.start ≡ Some start → way.steps ≡ xs → IsAt way q → HasAsked start xs.items way.made q.statements q.graphs
asked_so way q start xs start_is steps_are at =
    subst (λ (v : Vec Step). HasAsked start v.items way.made q.statements q.graphs) steps_are
    (subst (λ o. IsAskedSoFar o way.steps.items way.made q.statements q.graphs) start_is at.stands)

module _ {T : Type 0} (done : T) (files : Option Files) (lines : List RunLine) (failures failures' : List (List ℕ)) (way : Way) where
  -- what is asked for may be run
  pub can_run : (asked : Prepared) → IsAskedBy way asked → Took files begun lines failures failures' way (Ok done) → CanRun asked
  can_run asked is t =
      let said = asked_so way t.ends.0 asked.start asked.steps is.0 is.1 t.ends.1 in
      (said.may.can_start, subst (CanDoAll (after_start asked.start)) (append-nil asked.steps.items) (said.may.can_do [] tt))

  -- where the lines lead
  pub lines_prepared : (asked : Prepared) → IsAskedBy way asked → Took files begun lines failures failures' way (Ok done)
      → Comes IsPrepared files (of_lines begun lines) failures failures' (Ok asked)
  lines_prepared asked is t =
      let said = asked_so way t.ends.0 asked.start asked.steps is.0 is.1 t.ends.1 in
      record { failing = t.failing; noted = t.noted; ends = (t.ends.0, said.said_are, t.ends.2) }
