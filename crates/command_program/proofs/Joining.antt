-- Lines behind lines.
use Rattle.std.proofs.Common.{◌∙◌, inl, inr, ◌++◌, [], ℕ, List, Option, Result, Ok, Err, append-nil, refl, ap, subst}
use Rattle.cfg_io.specs.Shelf.{Files}
use Rattle.command_answers.specs.Answers.{no_memory}
use Rattle.command_spec.specs.Courses.{came, refusal, Follows, here}
use Rattle.command_spec.specs.Lines.{RunLine, Progress, of_lines}
use Rattle.command_spec.proofs.CourseLaws.{none_failed}
use Rattle.command_spec.proofs.LineLaws.{lines_go_on, lines_stop}
use Rattle.command_program.specs.Coming.{EndsIn}
use Rattle.command_program.specs.Leading.{LeadOn, Leads, Took}
use Rattle.command_program.specs.Ways.{IsAt}
use Rattle.command_program.specs.declared.answer.Stop.{Stop}
use Rattle.command_program.specs.declared.answer.Stop.TheVariants as stops
use Rattle.command_program.specs.declared.way.Way.{Way}
use Rattle.command_program.proofs.ComingLaws.{comes_here}

-- lines that fetch nothing
pub unfetched :
    {T : Type 0} (files : Option Files) (p : Progress) (lines : List RunLine) (failures : List (List ℕ)) (way : Way) (r : Result T Stop)
    → LeadOn files p lines way r → Took files p lines failures failures way r
unfetched files p lines failures way r lead = comes_here (Leads way) files (of_lines p lines) failures failures r refl lead

-- no line
pub none_took : {T : Type 0} (done : T) (files : Option Files) (p : Progress) (failures : List (List ℕ)) (way : Way) → IsAt way p → Took files p [] failures failures way (Ok done)
none_took done files p failures way at = unfetched files p [] failures way (Ok done) (p, at, here)

-- what stops lines stops them whatever stands behind them
pub stopped_lead :
    {T U : Type 0} (files : Option Files) (p : Progress) (lines below : List RunLine) (failures failures' : List (List ℕ)) (way : Way) (stop : Stop)
    → Took {T = T} files p lines failures failures' way (Err stop) → Took {T = U} files p (lines ++ below) failures failures' way (Err stop)
stopped_lead {T} {U} files p lines below failures failures' way stop t = record { failing = t.failing; noted = t.noted; ends = of stop t.failing t.ends }
  where
    of : (stop : Stop) (failing : List (List ℕ)) → EndsIn {T = T} (Leads way) files (of_lines p lines) failing (Err stop)
        → EndsIn {T = U} (Leads way) files (of_lines p (lines ++ below)) failing (Err stop)
    of (stops.Refused answer) failing (why, refuses, on) = (why, refuses, lines_stop files below lines p failing why on)
    of stops.NoMemory failing (inl none) = inl none
    of stops.NoMemory failing (inr on) = inr (lines_stop files below lines p failing no_memory on)

-- lines behind lines that led on
pub joined :
    {T U : Type 0} (done : T) (files : Option Files) (p : Progress) (lines below : List RunLine) (failures between failures' : List (List ℕ))
    (mid way : Way) (r : Result U Stop) → Took {T = T} files p lines failures between mid (Ok done)
    → ((q : Progress) → IsAt mid q → Took files q below between failures' way r) → Took files p (lines ++ below) failures failures' way r
joined {T} {U} done files p lines below failures between failures' mid way r t next =
    let q = t.ends.0 in
    let none = none_failed files (of_lines p lines) t.failing q t.ends.2 in
    let first = subst (λ ns. Follows files (of_lines p lines) ns (came q)) none t.ends.2 in
    let u = next q t.ends.1 in
    record {
      failing = u.failing;
      noted = u.noted ∙ ap (λ ns. ns ++ u.failing) (t.noted ∙ ap (λ ns. failures ++ ns) none ∙ append-nil failures);
      ends = of q first r u.failing u.ends;
    }
  where
    of : (q : Progress) → Follows files (of_lines p lines) [] (came q) → (r : Result U Stop) (failing : List (List ℕ))
        → EndsIn (Leads way) files (of_lines q below) failing r → EndsIn (Leads way) files (of_lines p (lines ++ below)) failing r
    of q first (Ok x) failing (b, is, on) = (b, is, lines_go_on files below lines p q failing (came b) first on)
    of q first (Err (stops.Refused answer)) failing (why, refuses, on) = (why, refuses, lines_go_on files below lines p q failing (refusal why) first on)
    of q first (Err stops.NoMemory) failing (inl none) = inl none
    of q first (Err stops.NoMemory) failing (inr on) = inr (lines_go_on files below lines p q failing (refusal no_memory) first on)
