use Rattle.std.proofs.Common.{true, false, ◌∷◌, map}
use Rattle.std.specs.Prelude.{IfNone, IfSome}
use Rattle.report_types.specs.declared.report.HistoryLine.TheVariants as to
use Rattle.merge_laws.specs.Reading.{IsChangeSo}
use Rattle.report_follows.specs.Fronts.{HasNoFront, LeadsTo}
use Rattle.report_follows.specs.Readers.{EndsSo, IsEndedSo}
use Rattle.report_follows.proofs.EndLemmas.{ended, none_by, not_ended, not_opened, opening, read_by}
use Rattle.report_follows.proofs.following.after_change.Goals as goal
use Rattle.std.proofs.lemmas.Result.{IfOk-weaker}
use Rattle.base.proofs.AnswerLaws.{where_both}
use Rattle.base.proofs.OptionLaws.{some_so, none_so}

pub returns-in-Some-clause-found : goal.returns-in-Some-clause-found
returns-in-Some-clause-found c =
    let x = c.args.change.now in
    let closed = c.args.closed.now in
    let events = c.args.events.now in
    let ls = c.args.lines.now in
    let rest = c.in-Some.rest.now in
    let name = c.as_bytes.ensures in
    let args = c.items.ensures in
    let begun = read_by _ (opening x.name x.args x.within closed events) ls rest (λ i. to.Change (name i) (args i) ∷ map to.Close closed) c.in-Some.ensures.found in
    IfOk-weaker c.after_end.result (λ o. IfSome o (λ e. LeadsTo (EndsSo e.given_up x.within closed events) rest e.left.now)) (λ o. IfSome o (λ e. LeadsTo (IsEndedSo e.given_up x.name x.args x.within closed events) ls e.left.now)) (λ o. some_so (λ e. LeadsTo (EndsSo e.given_up x.within closed events) rest e.left.now) (λ e. LeadsTo (IsEndedSo e.given_up x.name x.args x.within closed events) ls e.left.now)
    (λ e. ended x.name x.args x.within closed events e.given_up ls rest e.left.now begun) o) c.after_end.ensures.found

pub returns-in-Some-clause-none : goal.returns-in-Some-clause-none
returns-in-Some-clause-none c =
    let x = c.args.change.now in
    let closed = c.args.closed.now in
    let events = c.args.events.now in
    let ls = c.args.lines.now in
    let rest = c.in-Some.rest.now in
    let name = c.as_bytes.ensures in
    let args = c.items.ensures in
    let begun = read_by _ (opening x.name x.args x.within closed events) ls rest (λ i. to.Change (name i) (args i) ∷ map to.Close closed) c.in-Some.ensures.found in
    let Uncommitted = HasNoFront (EndsSo false x.within closed events) rest in
    let Kept = HasNoFront (EndsSo true x.within closed events) rest in
    let Unread = HasNoFront (IsChangeSo x.name x.args x.within closed events) ls in
    where_both (λ o. IfNone o Uncommitted) (λ o. IfNone o Kept) (λ o. IfNone o Unread)
    (λ o. none_so Uncommitted Kept Unread (not_ended x.name x.args x.within closed events ls rest begun) o)
    c.after_end.result c.after_end.ensures.committed c.after_end.ensures.given_up

pub returns-in-None-clause-none : goal.returns-in-None-clause-none
returns-in-None-clause-none c =
    let x = c.args.change.now in
    let closed = c.args.closed.now in
    let events = c.args.events.now in
    let ls = c.args.lines.now in
    let name = c.as_bytes.ensures in
    let args = c.items.ensures in
    not_opened x.name x.args x.within closed events ls
    (none_by _ (opening x.name x.args x.within closed events) ls (λ i. to.Change (name i) (args i) ∷ map to.Close closed) c.in-None.ensures.none)
