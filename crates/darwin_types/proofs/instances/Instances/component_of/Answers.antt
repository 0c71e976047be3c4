use Rattle.std.proofs.Common.{ap, ◌∙◌}
use Rattle.std.proofs.Common.{option_map}
use Rattle.darwin_types.proofs.Lookups.{lookup-names_in}
use Rattle.darwin_types.proofs.instances.Instances.component_of.Goals as goal

pub returns : goal.returns
returns c = rw (← c.self.view_is, lookup-names_in) (ap (option_map (λ k. k.now)) (c.copied.ensures ∙ c.get.ensures.value))
