use Rattle.std.proofs.Common.{◌≡◌, ◌-◌, sym, subst, ◌∙◌, length, true, arith, rules}
use Rattle.std.specs.List.{list_all, range_with_len}
use Rattle.quiesce_core.specs.Rules.{is_quiet}
use Rattle.quiesce_core.specs.Tables.{state_of}
use Rattle.quiesce_core.proofs.ReachLaws.{all_quiet}
use Rattle.quiesce_core.proofs.tables.Tables.reaching_ports_are_quiet.Goals as goal

pub returns-then-are_quiet : goal.returns-then-are_quiet
returns-then-are_quiet c =
    let s = state_of c.args.self.now in
    let count : c.len-ports.result - 0 ≡ length c.args.self.now.links.gates.items = omega (arith, c.len-ports.ensures) in
    let quiet : list_all (is_quiet s) (range_with_len 0 (length c.args.self.now.links.gates.items)) ≡ true =
    subst (λ k. list_all (is_quiet s) (range_with_len 0 k) ≡ true) count (sym c.are_quiet.ensures ∙ c.if-are_quiet.true) in
    sym (all_quiet s c.args.node (length c.args.self.now.links.gates.items) quiet)

pub returns : goal.returns
returns c = c.all_reaching.ensures (is_quiet (state_of c.args.self.now)) (λ p b low post. search rules)
