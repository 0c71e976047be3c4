use Rattle.quiesce_core.proofs.tables.Tables.new.Goals as goal

pub returns : goal.returns
returns c = record {
  state = λ i. record {
    config = c.new.ensures i;
    traffic = record { services = c.new-2.ensures.items i; exchanges = c.new-3.ensures.items i };
  };
}
