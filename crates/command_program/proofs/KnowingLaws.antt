-- Commands that run on threads, and others.
use Rattle.std.proofs.Common.{◌≡◌, ℕ, true, false, List, refl}
use Rattle.command_words.specs.declared.words.Command.{Command}
use Rattle.command_words.specs.declared.words.Command.TheVariants as commands
use Rattle.command_spec.specs.Known.{on_one_thread, on_threads}

-- the command is no run on threads
abbrev pub IsNoLive : Command → Type 0
IsNoLive c = (script : List ℕ) (workers observers : ℕ) → c ≡ commands.Live script workers observers → ⊥

pub on_one : (c : Command) → IsNoLive c → on_one_thread c ≡ true
on_one (commands.Live script workers observers) other = absurd (other script workers observers refl)
on_one _ other = refl

pub not_on_threads : (c : Command) → IsNoLive c → on_threads c ≡ false
not_on_threads (commands.Live script workers observers) other = absurd (other script workers observers refl)
not_on_threads _ other = refl
