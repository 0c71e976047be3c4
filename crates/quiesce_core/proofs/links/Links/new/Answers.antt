use Rattle.quiesce_core.proofs.links.Links.new.Goals as goal

pub returns : goal.returns
returns c = λ i. record { slots = c.new.ensures.items i; gates = c.new-2.ensures.items i }
