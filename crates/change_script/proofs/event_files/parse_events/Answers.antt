-- The first line starts, and what stands behind it is events, or the first fault is behind it.
use Rattle.std.proofs.Common.{inl, inr, ◌∙◌, sym, ap, Ok}
use Rattle.std.proofs.lemmas.Result.{err_from_is_err_and}
use Rattle.change_script.proofs.EventFileLaws.{file_is, fault_is, refused_file, refused_fault, one_file, never_both}
use Rattle.change_script.proofs.event_files.parse_events.Goals as goal

pub returns-in_err-events-clause-fault : goal.returns-in_err-events-clause-fault
returns-in_err-events-clause-fault c =
    let h = err_from_is_err_and c.from_residual-in_err-events.result c.from_residual-in_err-events.ensures.1 in
    rw (h.1, h.2) (λ wants. fault_is c.args.text.now _ _ _ _ _ c.in-Some.ensures.0 c.in_ok-name.ensures.read (c.in_err-events.ensures.fault wants))

pub returns-in_err-events-clause-whenever_file : goal.returns-in_err-events-clause-whenever_file
returns-in_err-events-clause-whenever_file c =
    let h = err_from_is_err_and c.from_residual-in_err-events.result c.from_residual-in_err-events.ensures.1 in
    rw (h.1, h.2) (λ file is. inr (refused_file c.args.text.now file _ (λ wants. fault_is c.args.text.now _ _ _ _ _ c.in-Some.ensures.0 c.in_ok-name.ensures.read (c.in_err-events.ensures.fault wants)) is))

pub returns-in_err-events-clause-whenever_fault : goal.returns-in_err-events-clause-whenever_fault
returns-in_err-events-clause-whenever_fault c =
    let h = err_from_is_err_and c.from_residual-in_err-events.result c.from_residual-in_err-events.ensures.1 in
    rw (h.1, h.2) (λ fault first. refused_fault c.args.text.now fault _ (λ wants. fault_is c.args.text.now _ _ _ _ _ c.in-Some.ensures.0 c.in_ok-name.ensures.read (c.in_err-events.ensures.fault wants)) first)

pub returns-clause-file : goal.returns-clause-file
returns-clause-file c = file_is c.args.text.now _ _ _ _ _ c.in-Some.ensures.0 c.in_ok-name.ensures.read (c.in_ok-events.ensures.read ∙ ap Ok (sym c.of.ensures))

pub returns-clause-whenever_file : goal.returns-clause-whenever_file
returns-clause-whenever_file c = λ file is. inl (one_file c.args.text.now _ file (returns-clause-file c) is)

pub returns-clause-whenever_fault : goal.returns-clause-whenever_fault
returns-clause-whenever_fault c = λ fault first. absurd (never_both c.args.text.now _ fault (returns-clause-file c) first)
