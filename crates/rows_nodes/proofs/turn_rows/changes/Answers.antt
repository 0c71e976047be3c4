use Rattle.rows_nodes.proofs.turn_rows.changes.Goals as goal

pub returns : goal.returns
returns g c = record {
  others = λ n w fits live.
      c.seats_of_live_nodes_fit.ensures.others c.args.core.now.state c.happens.new.core.state c.args.event.now n w c.happens.ensures.formed c.happens.ensures.consistent c.happens.ensures.step (c.requires.by_no_node n) live fits;
}
