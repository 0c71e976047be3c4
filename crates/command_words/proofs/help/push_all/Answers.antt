-- The pieces are the text.
use Rattle.std.proofs.Common.{◌≡◌, ◌∙◌, ◌++◌, ℕ, List, Result, Ok, Err, OnOk, append_assoc, is_ok, if◌then◌else◌, ap}
use Rattle.std.specs.List.{flat_map}
use Rattle.command_words.specs.HelpTexts.{help_head, lines_of}
use Rattle.command_words.specs.declared.keywords.TheConstants.{KEYWORDS}
use Rattle.command_words.proofs.help.push_all.Goals as goal

joined : (old a b c : List ℕ) → ((old ++ a) ++ b) ++ c ≡ old ++ ((a ++ b) ++ c)
joined old a b c = ap (λ t. t ++ c) (append_assoc old a b) ∙ append_assoc old (a ++ b) c

pushed :
    {E : Type 0} (r : Result (Unit {0}) E) (new old piece text : List ℕ) → new ≡ (if is_ok r then old ++ piece else old) → old ++ piece ≡ text
    → OnOk r (new ≡ text)
pushed (Ok _) new old piece text is same = is ∙ same
pushed (Err _) new old piece text is same = tt

pub returns : goal.returns
returns c =
    let old = c.args.text.now.items in
    let head = c.as_bytes.result.now in
    let foot = c.as_bytes-2.result.now in
    let each = flat_map lines_of KEYWORDS in
    pushed c.extend_from_slice-2.result _ c.push_commands.new.text.items foot _ c.extend_from_slice-2.ensures.items
    (ap (λ t. t ++ foot) (c.in_ok-push_commands.ensures ∙ ap (λ t. t ++ each) c.in_ok-extend_from_slice.ensures.items)
    ∙ joined old head each foot ∙ ap (λ h. old ++ ((h ++ each) ++ foot)) c.as_bytes.ensures.value
    ∙ ap (λ f. old ++ ((help_head ++ each) ++ f)) c.as_bytes-2.ensures.value)
