-- What a scan finds at ports.
use Rattle.std.specs.Prelude.{◌≡◌, ℕ, Bool, List, ◌++◌, map}
use Rattle.std.specs.List.{list_all, range_with_len}
use Rattle.change_board.specs.Scans.{Found, ended_in, is_idle_if_live, look_entry, ports_of}
use Rattle.quiesce_core.specs.State.{Configuration}
use Rattle.txn_records.specs.declared.entry.Entry.{Entry}

-- each port below this was looked at once, in order
pub record SawPorts (c : Configuration) (r r' : List Entry) (ports : ℕ) (idle : Bool) (ended : ℕ) : Type 0 where
  pub found : List Found
  pub adds : r' ≡ r ++ map look_entry found
  pub at_ports : ports_of found ≡ range_with_len 0 ports
  pub idle_is : idle ≡ list_all (is_idle_if_live c) found
  pub ended_is : ended ≡ ended_in found
