use Rattle.quiesce_core.proofs.tables.Tables.more.Goals as goal

pub returns-clause-room : goal.returns-clause-room
returns-clause-room c spare h = c.put_exchange.ensures.room spare (c.count_more.ensures.room spare h)
