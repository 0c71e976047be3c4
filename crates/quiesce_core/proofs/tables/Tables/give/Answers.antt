use Rattle.quiesce_core.proofs.tables.Tables.give.Goals as goal

pub returns-clause-room : goal.returns-clause-room
returns-clause-room c spare h = c.put_exchange.ensures.room spare (c.put_target_service.ensures.room spare h)
