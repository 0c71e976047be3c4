use Rattle.std.proofs.Common.{◌≡◌, ◌-◌, ◌<◌, ◌||◌, not, true, false, length, sym, ap, ◌∙◌, arith}
use Rattle.std.specs.List.{list_all, range_with_len}
use Rattle.config_graph.specs.declared.TheConstants.{MAX_PORTS}
use Rattle.quiesce_core.specs.Links.{config_in}
use Rattle.quiesce_core.specs.Reach.{reaches}
use Rattle.quiesce_core.proofs.ReachLaws.{none_known, range_all_after, range_all_at}
use Rattle.quiesce_core.proofs.links.Links.all_reaching.Goals as goal

pub loop-port-init : goal.loop-port-init
loop-port-init g c =
    let few : c.len-ports.result - 0 ≡ length c.args.self.now.gates.items = omega (arith, c.len-ports.ensures ∙ c.args.self.now.gates.ok.0) in
    record {
      known = none_known (config_in c.args.self.now) c.args.node MAX_PORTS;
      left = λ test agree. ap (λ k. list_all (λ p. test p || not (reaches (config_in c.args.self.now) c.args.node p)) (range_with_len 0 k)) few;
    }

pub loop-port-preserved : goal.loop-port-preserved
loop-port-preserved g c =
    let reached = reaches (config_in c.args.self.now) c.args.node in
    record {
      known = c.passed_or_apart.ensures.known;
      left = λ test agree.
          let few : c.loop-port.port < MAX_PORTS = omega (arith, c.loop-port-test.true, c.len-ports.ensures ∙ c.args.self.now.gates.ok.0, c.requires.sound.few_ports) in
          let says : c.passed_or_apart.result ≡ (test c.loop-port.port || not (reached c.loop-port.port)) =
          c.passed_or_apart.ensures.value ∙ ap (λ b. b || not (reached c.loop-port.port)) (agree c.loop-port.port c.passes-passed.result few c.passes-passed.ensures) in
          range_all_after (λ p. test p || not (reached p)) c.loop-port.port c.len-ports.result
          (list_all (λ p. test p || not (reached p)) (range_with_len 0 (length c.args.self.now.gates.items)))
          (omega arith) (sym says ∙ c.if-not-passed_or_apart.false) (c.loop-port.invariant.left test agree);
    }

pub returns-then-not-passed_or_apart : goal.returns-then-not-passed_or_apart
returns-then-not-passed_or_apart g c test agree =
    let reached = reaches (config_in c.args.self.now) c.args.node in
    let few : c.loop-port.port < MAX_PORTS = omega (arith, c.loop-port-test.true, c.len-ports.ensures ∙ c.args.self.now.gates.ok.0, c.requires.sound.few_ports) in
    let says : c.passed_or_apart.result ≡ (test c.loop-port.port || not (reached c.loop-port.port)) =
    c.passed_or_apart.ensures.value ∙ ap (λ b. b || not (reached c.loop-port.port)) (agree c.loop-port.port c.passes-passed.result few c.passes-passed.ensures) in
    sym (range_all_at (λ p. test p || not (reached p)) c.loop-port.port c.len-ports.result
    (list_all (λ p. test p || not (reached p)) (range_with_len 0 (length c.args.self.now.gates.items)))
    (omega arith) (sym says ∙ c.if-not-passed_or_apart.true) (c.loop-port.invariant.left test agree))

pub returns : goal.returns
returns g c test agree =
    let reached = reaches (config_in c.args.self.now) c.args.node in
    let done : c.len-ports.result - c.loop-port.port ≡ 0 = omega (arith, c.loop-port-test.false) in
    sym (ap (λ k. list_all (λ p. test p || not (reached p)) (range_with_len c.loop-port.port k)) done) ∙ c.loop-port.invariant.left test agree
