use Rattle.result_laws.proofs.laws.consistent_reports_keep_what_runs_keep.Goals as goal

pub returns : goal.returns
returns c = record {
  items = λ files name file own taken t j ok rows.
      let k = (c.checks_end_by_what_is_lawful.ensures.consistent files name file own taken t j).0 ok in (
        k,
        λ source sink a b.
            c.rows_have_their_items.ensures.items j.statements j.report (c.a_script_has_a_report.ensures.sound files j.is_script.bytes j.script j.statements j.is_script.is_script j.have_graphs) rows k.lawful source sink a b,
      );
  sum = λ files name file own taken t j ok banks.
      let k = (c.checks_end_by_what_is_lawful.ensures.consistent files name file own taken t j).0 ok in
      c.sums_are_kept.ensures.sum j.statements j.report (c.a_script_has_a_report.ensures.sound files j.is_script.bytes j.script j.statements j.is_script.is_script j.have_graphs) banks k.lawful;
  flow = λ files name file own taken t j ok flows.
      let k = (c.checks_end_by_what_is_lawful.ensures.consistent files name file own taken t j).0 ok in
      c.items_are_kept.ensures.apart j.statements j.report k.lawful flows;
  forks = λ files name file own taken t j ok tables.
      let k = (c.checks_end_by_what_is_lawful.ensures.consistent files name file own taken t j).0 ok in
      (k, λ spare. c.forks_are_held_once.ensures.free_at_the_end j.statements j.report k.lawful tables spare);
}
