-- To be believed (definitions.md).
-- What the program says of itself: the commands with their forms and what each does, the statuses, and what serves for a
-- file; and the form that is nearest to words which have none.
use Rattle.std.specs.Prelude.{◌==◌, ℕ, suc, nat_lt, List, [], ◌∷◌, ◌++◌, Option, Some, None, codes, if◌then◌else◌}
use Rattle.std.specs.List.{flat_map}
use Rattle.command_words.specs.Keywords.{word_of}
use Rattle.command_words.specs.declared.keywords.Keyword.{Keyword}
use Rattle.command_words.specs.declared.keywords.Keyword.TheVariants as keywords
use Rattle.command_words.specs.declared.keywords.TheConstants.{KEYWORDS}

-- the form of a command
abbrev pub form_of : Keyword → List ℕ
form_of keywords.Flat = codes "darwin_run flat FILE NAME INT*\n"
form_of keywords.Plan = codes "darwin_run plan FILE NAME INT* -- [FILE] NAME INT*\n"
form_of keywords.Parts = codes "darwin_run parts FILE NAME INT* -- [FILE] NAME INT*\n"
form_of keywords.Roll = codes "darwin_run roll FILE NUM NUM NAME INT* -- [FILE] NAME INT*\n"
form_of keywords.Apply = codes "darwin_run apply N FILE NAME INT* -- [FILE] NAME INT*\n"
form_of keywords.Replay = codes "darwin_run replay FILE EVENTS\n"
form_of keywords.Step = codes "darwin_run step SCRIPT\n"
form_of keywords.Live = codes "darwin_run live SCRIPT [--workers W [--watch N]]\n"
form_of keywords.Check = codes "darwin_run check SCRIPT REPORT\n"
form_of keywords.Big = codes "darwin_run big N\n"
form_of keywords.Upgrade = codes "darwin_run upgrade FILE\n"

-- what it does
abbrev pub deed_of : Keyword → List ℕ
deed_of keywords.Flat = codes "    write the graph of a component\n"
deed_of keywords.Plan = codes "    write the change from the first to the second\n"
deed_of keywords.Parts = codes "    write the parts into which that change is cut\n"
deed_of keywords.Roll = codes "    start the first, run it, and carry those parts out\n"
deed_of keywords.Apply =
    codes "    carry that change out on a system elsewhere, by lines of standard input, within N rounds\n"
deed_of keywords.Replay = codes "    apply events to the system that they start\n"
deed_of keywords.Step = codes "    run a script on one thread, write its report\n"
deed_of keywords.Live =
    codes "    run a script on W worker threads (1 to 8, or 4), and write lines of N observers behind it (1 to 4)\n"
deed_of keywords.Check = codes "    say whether a report is consistent with the script\n"
deed_of keywords.Big = codes "    run and change a system of N lanes (1 to 40)\n"
deed_of keywords.Upgrade = codes "    write a report in version 2\n"

-- both
abbrev pub lines_of : Keyword → List ℕ
lines_of own = form_of own ++ deed_of own

-- the form that asks for this text
abbrev pub help_form : List ℕ
help_form = codes "darwin_run --help\n"

abbrev pub help_head : List ℕ
help_head =
    help_form
    ++ codes "    write this text, as -h and help do; behind a command, its form alone\n"
    ++ codes "darwin_run --version\n"
    ++ codes "    write the program's name and version\n"

abbrev pub help_foot : List ℕ
help_foot =
    codes "\n"
    ++ codes "status\n"
    ++ codes "  0  what was asked for is written\n"
    ++ codes "  1  the words have no form\n"
    ++ codes "  2  a description is refused\n"
    ++ codes "  3  a script, a file of events, a report or a line is refused\n"
    ++ codes "  4  a file or standard input can't be read\n"
    ++ codes "  5  standard output failed\n"
    ++ codes "  6  memory ran out\n"
    ++ codes "  7  a change was given up\n"
    ++ codes "  8  a node isn't done behind finish\n"
    ++ codes "  9  an event is denied\n"
    ++ codes " 10  a report isn't consistent with the script\n"
    ++ codes "\n"
    ++ codes "/dev/stdin serves for a file. Behind -- a FILE has a dot or a slash in its name.\n"

-- of all commands, or of one
abbrev pub help_text : Option Keyword → List ℕ
help_text None = help_head ++ flat_map lines_of KEYWORDS ++ help_foot
help_text (Some own) = lines_of own

abbrev pub version_text : List ℕ
version_text = codes "darwin_run 0.1.0\n"

-- how many bytes two words have in common at their fronts
abbrev pub in_common : List ℕ → List ℕ → ℕ
in_common [] ys = 0
in_common (x ∷ xs) [] = 0
in_common (x ∷ xs) (y ∷ ys) = if x == y then suc (in_common xs ys) else 0

-- the same of a word and that of a command, if there is one
abbrev pub common_with : List ℕ → Option Keyword → ℕ
common_with word None = 0
common_with word (Some own) = in_common word (word_of own)

-- the later of two commands, where its word has more in common with the word
abbrev pub nearer : List ℕ → Option Keyword → Keyword → Option Keyword
nearer word best own = if nat_lt (common_with word best) (in_common word (word_of own)) then Some own else best

-- the first of the commands whose words have most in common with the word, where the best was found before them
abbrev pub nearest_of : List ℕ → Option Keyword → List Keyword → Option Keyword
nearest_of word best [] = best
nearest_of word best (own ∷ more) = nearest_of word (nearer word best own) more

-- of all commands, where any has something in common with the word
abbrev pub nearest : List ℕ → Option Keyword
nearest word = nearest_of word None KEYWORDS

-- the form of the nearest command, or else that of help
abbrev pub nearest_form : Option Keyword → List ℕ
nearest_form None = help_form
nearest_form (Some own) = form_of own

-- the form that is nearest to words: by the first of them, which names a command, or may be meant to
abbrev pub hint_of : List (List ℕ) → List ℕ
hint_of [] = help_form
hint_of (word ∷ words) = nearest_form (nearest word)
