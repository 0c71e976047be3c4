use Rattle.std.proofs.Common.{rules, ◌∙◌, sym, ap}
use Rattle.std.specs.Prelude.{slice_index_or}
use Rattle.quiesce_core.specs.Knowledge.{port_at_start}
use Rattle.node_host.specs.Acts.{state_of}
use Rattle.node_host.proofs.Exactly.{begins_busy}
use Rattle.std.proofs.lemmas.Bool.{not-true}
use Rattle.node_host.proofs.node.HostNode.begin.Goals as goal

pub returns-then-not-port_known : goal.returns-then-not-port_known
returns-then-not-port_known g c =
    let h = c.args.self.now in
    record {
      acts = search rules;
      moved = search rules;
      hints = search rules;
      exact = λ s told.
          begins_busy told c.args.ask (state_of h) c.requires.wanted c.requires.fits_ask.require
          (ap (λ w. (slice_index_or w.ports c.args.ask.require port_at_start).idle) (sym h.hosted.kept) ∙ ap (λ x. x.idle) (sym c.port_known.ensures) ∙ not-true c.port_known.result.idle c.if-not-port_known.true);
      tried = search rules;
      no_begin = search rules;
    }
