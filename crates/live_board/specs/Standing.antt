-- A board's records tell one configuration.
use Rattle.std.proofs.Common.{◌≡◌, ◌∙◌, List, sym, ap}
use Rattle.txn_records.specs.Entries.{config_of}
use Rattle.txn_records.specs.declared.entry.Entry.{Entry}
use Rattle.live_board.specs.Boards.{BoardSeen, StandsLive}

pub one_configuration : (b : BoardSeen) (r q : List Entry) → StandsLive b r → StandsLive b q → config_of r ≡ config_of q
one_configuration b r q h k = ap config_of (h.is ∙ sym k.is)
