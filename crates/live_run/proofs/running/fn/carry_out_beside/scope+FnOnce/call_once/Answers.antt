use Rattle.live_run.proofs.running.fn.carry_out_beside.scope+FnOnce.call_once.Goals as goal

pub scope-requires : goal.scope-requires
scope-requires g c =
    let asked = c.requires.1.1.1 in
    let crosses = asked.1.1 in
    (crosses.0, (crosses.1, (crosses.2, (crosses.3, (crosses.4, (asked.0, asked.1.0))))))
