use Rattle.std.proofs.Common.{◌≡◌, true, false, subst}
use Rattle.std.specs.List.{list_all}
use Rattle.std.specs.List.Sorted.{IsStrictlyIncreasing}
use Rattle.change_spec.specs.Scene.{config_after}
use Rattle.change_spec.proofs.PortLaws.{closing_rise}
use Rattle.report_follows.specs.Testing.{is_tellable}
use Rattle.report_follows.proofs.ExpectedLemmas.{commits_are_tellable}
use Rattle.report_follows.proofs.StandingLemmas.{behind_abandon, behind_commit, behind_start, closed_are, ended_so, events_are, mid, right_so}
use Rattle.report_follows.proofs.laws.what_is_read_stands.Goals as goal

pub returns : goal.returns
returns c =
    let may = c.each_plan_may_commit.ensures in
    let runs = c.commits_can_not_fail.ensures.runs in
    let leaves = c.commits_leave_the_new_graph.ensures.reopening in
    let tells = c.layouts_tell_commits.ensures in
    let read = c.changes_are_read_so.ensures in
    record {
      start = λ s l can places_ ports_. behind_start s l can places_ ports_ c.started_systems_are_reached.ensures;
      right = λ above before g l x can b. right_so above before g l x can b tells.closed tells.events read.so read.change;
      rise = λ above before g l x can b. subst IsStrictlyIncreasing (closed_are above before g l x can b tells.closed tells.events) (closing_rise g x.plan (config_after before));
      tellable = λ above before g l x can b.
          subst (λ es. list_all is_tellable es ≡ true) (events_are above before g l x can b tells.closed tells.events) (commits_are_tellable g x.graph x.plan (mid above before g l x can b));
      committed = λ above before g l next_ x can b places_ ports_ lines e.
          behind_commit above before g l x can b may runs leaves tells.layout next_ places_ ports_ lines (ended_so above before g l x can b tells.closed tells.events false lines e);
      given_up = λ above before g l x can b lines e. behind_abandon above before g l x can b lines (ended_so above before g l x can b tells.closed tells.events true lines e);
    }
