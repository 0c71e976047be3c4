use Rattle.std.proofs.Common.{◌∙◌, ◌<◌, false, None, arith, inl, inr, length}
use Rattle.std.proofs.lemmas.Result.{err_from_is_err_and}
use Rattle.change_plan.proofs.MoveLemmas.{is_missing, is_there, marked_more, other_source, other_target, repeated_source, repeated_target}
use Rattle.base.proofs.PlaceLaws.{read_entry}
use Rattle.change_plan.proofs.moving.mark_move.Goals as goal

pub returns-in_err-shift-clause-refused : goal.returns-in_err-shift-clause-refused
returns-in_err-shift-clause-refused c =
    let h = err_from_is_err_and c.from_residual.result c.from_residual.ensures.1 in
    λ before marked. rw (h.1, h.2) (c.in_err-shift.ensures.refused before)

pub returns-then-index-clause-refused : goal.returns-then-index-clause-refused
returns-then-index-clause-refused c =
    let shift = c.in_ok-shift.shift in
    let told = c.in_ok-shift.ensures in
    let sources = c.args.ends.now.sources.items in
    let targets = c.args.ends.now.targets.items in
    let low : shift.old < length sources = omega (arith, told.old_within, c.requires.sources) in
    let mark = read_entry sources shift.old c.index.result.now false low c.index.ensures in
    λ before marked.
    inr (told.fit, inl (c.in_ok-try_clone.ensures, repeated_source c.args.old.now c.args.new.now told.old told.new before sources targets marked c.args.moved.now shift.old shift.new told.leads (mark ∙ c.if-index.true)))

pub returns-then-is_some-clause-refused : goal.returns-then-is_some-clause-refused
returns-then-is_some-clause-refused c =
    let old = c.args.old.now in
    let new = c.args.new.now in
    let m = c.args.moved.now in
    let shift = c.in_ok-shift.shift in
    let told = c.in_ok-shift.ensures in
    let sources = c.args.ends.now.sources.items in
    let targets = c.args.ends.now.targets.items in
    let unset = read_entry sources shift.old c.index.result.now false (omega (arith, told.old_within, c.requires.sources)) c.index.ensures ∙ c.if-index.false in
    let found = is_there c.index-2.result.now c.is_some.result c.is_some.ensures c.if-is_some.true in
    let entry = read_entry targets shift.new c.index-2.result.now None (omega (arith, told.new_within, c.requires.targets)) c.index-2.ensures ∙ found.1 in
    λ before marked.
    inr (told.fit, inr (c.in_ok-try_clone-2.ensures, other_source old new told.old told.new before sources targets marked m shift.old shift.new told.leads unset, repeated_target old new told.old told.new before sources targets marked m shift.old shift.new told.leads found.0 entry))

pub returns-clause-marked : goal.returns-clause-marked
returns-clause-marked c =
    let old = c.args.old.now in
    let new = c.args.new.now in
    let m = c.args.moved.now in
    let shift = c.in_ok-shift.shift in
    let told = c.in_ok-shift.ensures in
    let sources = c.args.ends.now.sources.items in
    let targets = c.args.ends.now.targets.items in
    let missing = is_missing c.index-2.result.now c.is_some.result c.is_some.ensures c.if-is_some.false in
    let entry = read_entry targets shift.new c.index-2.result.now None (omega (arith, told.new_within, c.requires.targets)) c.index-2.ensures ∙ missing in
    λ before marked. marked_more old new told.old told.new before sources targets marked m shift.old shift.new told.leads told.fit entry

pub returns-clause-may_move : goal.returns-clause-may_move
returns-clause-may_move c =
    let old = c.args.old.now in
    let new = c.args.new.now in
    let m = c.args.moved.now in
    let shift = c.in_ok-shift.shift in
    let told = c.in_ok-shift.ensures in
    let sources = c.args.ends.now.sources.items in
    let targets = c.args.ends.now.targets.items in
    let unset = read_entry sources shift.old c.index.result.now false (omega (arith, told.old_within, c.requires.sources)) c.index.ensures ∙ c.if-index.false in
    let missing = is_missing c.index-2.result.now c.is_some.result c.is_some.ensures c.if-is_some.false in
    let entry = read_entry targets shift.new c.index-2.result.now None (omega (arith, told.new_within, c.requires.targets)) c.index-2.ensures ∙ missing in
    λ before marked. record {
      fit = told.fit;
      other_source = other_source old new told.old told.new before sources targets marked m shift.old shift.new told.leads unset;
      other_target = other_target old new told.old told.new before sources targets marked m shift.old shift.new told.leads entry;
    }
