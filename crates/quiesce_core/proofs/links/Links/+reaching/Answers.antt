use Rattle.std.proofs.Common.{◌≡◌, ◌-◌, ◌<◌, ◌&&◌, true, eqb, sym, ap, ◌∙◌, arith}
use Rattle.std.proofs.lemmas.Bool.{and_from, and_left, and_right, or_right}
use Rattle.quiesce_core.specs.State as state
use Rattle.quiesce_core.specs.Reach as reach
use Rattle.quiesce_core.specs.Searched.{reaches_through}
use Rattle.quiesce_core.specs.Links.{config_in}
use Rattle.quiesce_core.proofs.CycleLaws.{port_in}
use Rattle.quiesce_core.proofs.ReachLaws.{reaches_none, reaches_some, known_more, range_after, range_at, fewer_steps, walks_zero}
use Rattle.quiesce_core.proofs.links.Links.+reaching.Goals as goal
use Rattle.quiesce_core.proofs.links.Links.+reaching.Goals.{reaches_from-else-depends-via-then-depends+else-reaches, reaches_from-else-depends-via-else-depends}

pub reaches-returns-in_default-clause-value : goal.reaches-returns-in_default-clause-value
reaches-returns-in_default-clause-value t c =
    sym (reaches_none (config_in c.args.self.now) c.requires.sound c.args.node c.args.port (sym (ap (λ g. g.target) c.gate.ensures) ∙ c.in_default.is))

pub reaches-returns-clause-value : goal.reaches-returns-clause-value
reaches-returns-clause-value t c =
    c.reaches_from-answer.ensures.value
    ∙ sym (reaches_some (config_in c.args.self.now) c.requires.sound c.args.node c.args.port c.in-Some.target (sym (ap (λ g. g.target) c.gate.ensures) ∙ c.in-Some.is))

pub reaches-returns-clause-known : goal.reaches-returns-clause-known
reaches-returns-clause-known t c =
    known_more (config_in c.args.self.now) c.args.node c.args.port c.reaches_from-answer.result c.reaches_from-answer.new.known (omega arith)
    (sym (reaches-returns-clause-value t c)) c.reaches_from-answer.ensures.known

pub reaches_from-reaches-requires : goal.reaches_from-reaches-requires
reaches_from-reaches-requires t c =
    let config = config_in c.args.self.now in
    let owned : reach.IsPortOf config c.args.target.node c.loop-port.port =
    port_in config c.args.target.node c.ports_of-ports.result.start (c.ports_of-ports.result.end - c.ports_of-ports.result.start) c.loop-port.port
    c.ports_of-ports.ensures.ports (omega arith) (omega arith) in
    let steps : 0 < c.args.depth = walks_zero config c.args.depth c.args.target.node c.requires.deep in (
      omega arith,
      (
        c.requires.sound,
        (
          (λ u e. fewer_steps config c.args.depth c.args.target.node c.args.target.provide c.loop-port.port u owned (sym c.depends.ensures ∙ c.if-depends.true) e c.requires.deep),
          (omega arith, (omega arith, c.loop-port.invariant.known)),
        ),
      ),
    )

pub reaches_from-returns-then-reaches-clause-value : goal.reaches_from-returns-then-reaches-clause-value
reaches_from-returns-then-reaches-clause-value t c =
    let config = config_in c.args.self.now in
    let passes : (state.depends config c.args.target.node c.args.target.provide c.loop-port.port && reach.reaches config c.args.node c.loop-port.port) ≡ true =
    and_from (state.depends config c.args.target.node c.args.target.provide c.loop-port.port) (reach.reaches config c.args.node c.loop-port.port)
    (sym c.depends.ensures ∙ c.if-depends.true) (sym c.reaches.ensures.value ∙ c.if-reaches.true) in
    sym (or_right (eqb c.args.target.node c.args.node) (reaches_through config c.args.node c.args.target)
    (range_at (λ q. state.depends config c.args.target.node c.args.target.provide q && reach.reaches config c.args.node q) c.loop-port.port c.ports_of-ports.result.end
    (reaches_through config c.args.node c.args.target) (omega arith) passes c.loop-port.invariant.left))

pub reaches_from-loop-port-preserved : goal.reaches_from-loop-port-preserved
reaches_from-loop-port-preserved t c =
    let config = config_in c.args.self.now in
    let after = range_after (λ q. state.depends config c.args.target.node c.args.target.provide q && reach.reaches config c.args.node q) c.loop-port.port c.ports_of-ports.result.end
    (reaches_through config c.args.node c.args.target) (omega arith) in
    elim c.else-depends.branch [
      | reaches_from-else-depends-via-then-depends+else-reaches w ↦ record {
        known = rw w.known-is w.reaches.ensures.known;
        left = after (and_right (state.depends config c.args.target.node c.args.target.provide c.loop-port.port) (reach.reaches config c.args.node c.loop-port.port) (sym w.reaches.ensures.value ∙ w.if-reaches.false)) c.loop-port.invariant.left;
      }
      | reaches_from-else-depends-via-else-depends w ↦ record {
        known = rw w.known-is c.loop-port.invariant.known;
        left = after (and_left (state.depends config c.args.target.node c.args.target.provide c.loop-port.port) (reach.reaches config c.args.node c.loop-port.port) (sym c.depends.ensures ∙ w.if-depends.false)) c.loop-port.invariant.left;
      }
    ]
