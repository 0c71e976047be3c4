use Rattle.std.proofs.Common.{◌≡◌, ◌-◌, ◌≤◌}
use Rattle.elaborator.specs.PortIndex.{chain_end}
use Rattle.elaborator.proofs.chains.Targets.follow.Given as goal

-- the end is that to which the steps that are left lead
abbrev pub invariant-loop : goal.invariant-loop
invariant-loop l = (l.counter ≤ 68) × (chain_end (68 - l.counter) l.self l.end ≡ chain_end 68 l.self l.fn.start)
