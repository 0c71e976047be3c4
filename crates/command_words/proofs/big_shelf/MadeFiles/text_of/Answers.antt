-- Of another name than the script's there is the description.
use Rattle.std.proofs.Common.{◌≡◌, ℕ, List, Bool, false, Some, ap, sym, ◌∙◌, bytes_eq, if◌then◌else◌}
use Rattle.command_words.specs.BigFiles.{description, script_name}
use Rattle.command_words.proofs.big_shelf.MadeFiles.text_of.Goals as goal

other_name : (bytes text : List ℕ) (b : Bool) → b ≡ false → text ≡ description → Some text ≡ Some (if b then bytes else description)
other_name bytes text b is same = rw is (ap Some same)

pub returns-else-eq : goal.returns-else-eq
returns-else-eq c = other_name c.args.self.now c.as_bytes.result.now (bytes_eq c.args.name.now script_name) (sym c.eq.ensures ∙ c.if-eq.false) c.as_bytes.ensures.value
