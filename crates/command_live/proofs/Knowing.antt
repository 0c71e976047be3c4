-- A run by a call that knows some commands, as one by a call that knows all.
use Rattle.std.proofs.Common.{◌≡◌, ◌∙◌, ℕ, Bool, List, [], None, Some, inl, inr, refl, sym}
use Rattle.command_words.specs.CommandLine.{Asks, for_deed, for_help, for_version}
use Rattle.command_words.specs.declared.words.Command.{Command}
use Rattle.command_spec.specs.Commands.{Shown}
use Rattle.command_spec.specs.Courses.{End}
use Rattle.command_spec.specs.Known.{AsksOf, all_commands}
use Rattle.command_spec.specs.Runs.{asked, no_form, not_read, DoesWords, Run, Runs}

-- of words that ask for a command which the call knows
pub known_to_all :
    (few : Command → Bool) (seen : Run) (command : Command) → AsksOf few seen.words command → Runs few seen → Runs all_commands seen
known_to_all few seen command asks run =
    record { failing = run.failing; end = run.end; by = of run.failing run.end run.by; noted = run.noted; written = run.written }
  where
    of : (failing : List (List ℕ)) (end : End Shown) → DoesWords few seen.files seen.words failing end → DoesWords all_commands seen.files seen.words failing end
    of _ _ (no_form none) = absurd (none command asks)
    of _ _ not_read = not_read
    of _ _ (asked other failing end also does) = asked other failing end (refl, also.1) does

-- no words ask for nothing
pub nothing_asked : (words : List (List ℕ)) (command : Command) → words ≡ [] → Asks words command → ⊥
nothing_asked words _ none (for_help None (inl is)) = cc (sym is ∙ none)
nothing_asked words _ none (for_help None (inr (inl is))) = cc (sym is ∙ none)
nothing_asked words _ none (for_help None (inr (inr is))) = cc (sym is ∙ none)
nothing_asked words _ none (for_help (Some own) is) = cc (sym is ∙ none)
nothing_asked words _ none (for_version is) = cc (sym is ∙ none)
nothing_asked words _ none (for_deed own body _ is _ _) = cc (sym is ∙ none)
