use Rattle.std.proofs.Common.{◌≡◌, ◌++◌, drop, map, Some}
use Rattle.darwin_parser.specs.Tree.{port_of}
use Rattle.darwin_walk.specs.Environment.{env_at}
use Rattle.darwin_walk.specs.Instance.{index_value}
use Rattle.darwin_walk.specs.Scope.{port_size_faults}
use Rattle.darwin_walk.proofs.instance.port_sizes_of.Given as goal

-- the sizes so far, and what is told of the ports that are left
abbrev pub invariant-loop-port : goal.invariant-loop-port
invariant-loop-port l =
    record {
      no_faults : port_size_faults (env_at l.env) (map port_of l.ports) ≡ port_size_faults (env_at l.env) (map port_of (drop l.port-index l.ports));
      all :
          map (λ p. index_value p.size (env_at l.env)) (map port_of l.ports)
          ≡ map Some l.sizes.items ++ map (λ p. index_value p.size (env_at l.env)) (map port_of (drop l.port-index l.ports));
    }
