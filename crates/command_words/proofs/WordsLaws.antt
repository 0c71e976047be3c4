-- Words ask for one command at most. The first word tells which command takes others behind it, and those behind it tell
-- what it carries.
use Rattle.std.proofs.Common.{◌≡◌, ◌∙◌, ◌≤◌, lit≤, ℕ, List, [], ◌∷◌, inl, inr, Bool, true, false, Option, Some, None, bytes_eq, codes, if◌then◌else◌, refl, sym, ap, subst}
use Rattle.std.proofs.lemmas.Bool.{false≢true}
use Rattle.std.proofs.lemmas.Option.{same_Some}
use Rattle.std.specs.Str.Parse.{digits_value}
use Rattle.command_words.specs.declared.keywords.Keyword.{Keyword}
use Rattle.command_words.specs.declared.keywords.Keyword.TheVariants as keywords
use Rattle.command_words.specs.declared.words.Command.{Command}
use Rattle.command_words.specs.declared.words.Command.TheVariants as commands
use Rattle.command_words.specs.declared.words.Change.{Change}
use Rattle.command_words.specs.declared.words.Cut.{Cut}
use Rattle.command_words.specs.declared.words.Cut.TheVariants as cuts
use Rattle.command_words.specs.Keywords.{word_of}
use Rattle.command_words.specs.CommandLine.{Asks, for_help, for_version, for_deed, BehindFile, BehindNumber, IsBody, IsCall, IsChange, IsCutSo, IsEnd, IsHelpOf, cut_word, keyword, SaysObservers, SaysThreads}
use Rattle.command_words.proofs.Asking.{head_is, tail_is, one_call}
use Rattle.command_words.proofs.Changes.{one_change}

-- the command that a word names
pub named : List ℕ → Option Keyword
named word =
    if bytes_eq word (codes "flat") then Some keywords.Flat else
    if bytes_eq word (codes "plan") then Some keywords.Plan else
    if bytes_eq word (codes "parts") then Some keywords.Parts else
    if bytes_eq word (codes "roll") then Some keywords.Roll else
    if bytes_eq word (codes "apply") then Some keywords.Apply else
    if bytes_eq word (codes "replay") then Some keywords.Replay else
    if bytes_eq word (codes "step") then Some keywords.Step else
    if bytes_eq word (codes "live") then Some keywords.Live else
    if bytes_eq word (codes "check") then Some keywords.Check else
    if bytes_eq word (codes "big") then Some keywords.Big else
    if bytes_eq word (codes "upgrade") then Some keywords.Upgrade else None

pub named_so : (own : Keyword) → named (word_of own) ≡ Some own
unfolding named
named_so keywords.Flat = refl
named_so keywords.Plan = refl
named_so keywords.Parts = refl
named_so keywords.Roll = refl
named_so keywords.Apply = refl
named_so keywords.Replay = refl
named_so keywords.Step = refl
named_so keywords.Live = refl
named_so keywords.Check = refl
named_so keywords.Big = refl
named_so keywords.Upgrade = refl

pub named_none : (named (codes "--help") ≡ None) × (named (codes "-h") ≡ None) × (named (codes "help") ≡ None) × (named (codes "--version") ≡ None)
unfolding named
named_none = (refl, refl, refl, refl)

-- a word names one command
pub one_keyword : (a b : Keyword) → word_of a ≡ word_of b → a ≡ b
one_keyword a b same = same_Some a b (sym (named_so a) ∙ ap named same ∙ named_so b)

-- no command is named by the words that ask for help, or for the version
pub no_keyword : (own : Keyword) (word : List ℕ) → word ≡ word_of own → named word ≡ None → ⊥
no_keyword own word is none = cc (sym none ∙ ap named is ∙ named_so own)

-- the words that ask for a change
abbrev pub is_of_change : Keyword → Bool
is_of_change keywords.Plan = true
is_of_change keywords.Parts = true
is_of_change keywords.Roll = true
is_of_change own = false

cut_asks : (cut : Cut) → is_of_change (cut_word cut) ≡ true
cut_asks cuts.Whole = refl
cut_asks cuts.InParts = refl
cut_asks (cuts.Rolled run within) = refl

pub no_cut : (cut : Cut) (own : Keyword) → is_of_change own ≡ false → Some (cut_word cut) ≡ Some own → ⊥
no_cut cut own other is = false≢true (sym other ∙ ap is_of_change (sym (same_Some (cut_word cut) own is)) ∙ cut_asks cut)

-- words of `apply` ask for a session, and for no command
pub no_deed : (own : Keyword) (c : Command) → own ≡ keywords.Apply → keyword c ≡ Some own → ⊥
no_deed own (commands.Help topic) is names = cc names
no_deed own (commands.Change cut c) is names = no_cut cut own (ap is_of_change is) names
no_deed own c is names = cc names

-- what the first word names, where the words ask for help, or for the version
pub no_keyword_asks : (words : List (List ℕ)) (own : Keyword) (body : List (List ℕ)) → words ≡ word_of own ∷ body → IsHelpOf words None → ⊥
no_keyword_asks words own body is (inl asks) = no_keyword own (codes "--help") (head_is _ _ [] body (sym asks ∙ is)) named_none.0
no_keyword_asks words own body is (inr (inl asks)) = no_keyword own (codes "-h") (head_is _ _ [] body (sym asks ∙ is)) named_none.1
no_keyword_asks words own body is (inr (inr asks)) = no_keyword own (codes "help") (head_is _ _ [] body (sym asks ∙ is)) named_none.2

one_topic : (words : List (List ℕ)) (a b : Option Keyword) → IsHelpOf words a → IsHelpOf words b → a ≡ b
one_topic words None None x y = refl
one_topic words None (Some b) x y = absurd (no_keyword_asks words b (codes "--help" ∷ []) y x)
one_topic words (Some a) None x y = absurd (no_keyword_asks words a (codes "--help" ∷ []) x y)
one_topic words (Some a) (Some b) x y = ap Some (one_keyword a b (head_is (word_of a) (word_of b) (codes "--help" ∷ []) (codes "--help" ∷ []) (sym x ∙ y)))

no_version : (words : List (List ℕ)) (topic : Option Keyword) → IsHelpOf words topic → words ≡ codes "--version" ∷ [] → ⊥
no_version words None (inl asks) is = cc (sym asks ∙ is)
no_version words None (inr (inl asks)) is = cc (sym asks ∙ is)
no_version words None (inr (inr asks)) is = cc (sym asks ∙ is)
no_version words (Some own) asks is = no_keyword own (codes "--version") (sym (head_is _ _ (codes "--help" ∷ []) [] (sym asks ∙ is))) named_none.3

-- the options of a run tell its workers and observers
one_observers : (words : List (List ℕ)) (n m : ℕ) → SaysObservers words n → SaysObservers words m → n ≡ m
one_observers [] n m x y = x ∙ sym y
one_observers (a ∷ words) n m x y = x.4 ∙ ap (digits_value 10) (head_is x.1 y.1 [] [] (sym x.2 ∙ y.2)) ∙ sym y.4

one_threads :
    (words : List (List ℕ)) (w n v m : ℕ) → SaysThreads words w n → SaysThreads words v m → (w ≡ v) × (n ≡ m)
one_threads [] w n v m x y = (x.0 ∙ sym y.0, x.1 ∙ sym y.1)
one_threads (a ∷ []) w n v m x y = absurd x.1
one_threads (a ∷ b ∷ words) w n v m x y = (x.1.1 ∙ sym y.1.1, one_observers words n m x.1.2 y.1.2)

-- the words tell the file that stands first, and the number
one_file :
    (f g : List ℕ) (Is Js : List (List ℕ) → Type 0) (body : List (List ℕ)) → BehindFile f Is body → BehindFile g Js body
    → (f ≡ g) × ((words : List (List ℕ)) × Is words × Js words)
one_file f g Is Js [] x y = absurd x
one_file f g Is Js (word ∷ words) x y = (x.0 ∙ sym y.0, (words, x.2, y.2))

one_number :
    (n m : ℕ) (Is Js : List (List ℕ) → Type 0) (body : List (List ℕ)) → BehindNumber n Is body → BehindNumber m Js body
    → (n ≡ m) × ((words : List (List ℕ)) × Is words × Js words)
one_number n m Is Js [] x y = absurd x
one_number n m Is Js (word ∷ words) x y = (x.0 ∙ sym y.0, (words, x.2, y.2))

-- the words of a change tell how it is made, and what it leads from and to
one_cut :
    (a b : Cut) (c d : Change) (words : List (List ℕ)) → cut_word a ≡ cut_word b → c.file ≡ d.file → IsCutSo a c words → IsCutSo b d words
    → (a ≡ b) × (c ≡ d)
one_cut cuts.Whole cuts.Whole c d words same file x y = (refl, one_change words c d file x y)
one_cut cuts.InParts cuts.InParts c d words same file x y = (refl, one_change words c d file x y)
one_cut (cuts.Rolled k n) (cuts.Rolled m o) c d words same file x y =
    let run = one_number k m (BehindNumber n (λ ws. IsChange ws c)) (BehindNumber o (λ ws. IsChange ws d)) words x y in
    let within = one_number n o (λ ws. IsChange ws c) (λ ws. IsChange ws d) run.1.0 run.1.1 run.1.2 in
    (rw (run.0, within.0) refl, one_change within.1.0 c d file within.1.1 within.1.2)
one_cut a b c d words same file x y = absurd (cc same)

-- no other command has a word that asks for a change
abbrev asks_change : Option Keyword → Bool
asks_change None = false
asks_change (Some own) = is_of_change own

abbrev is_change : Command → Bool
is_change (commands.Change cut c) = true
is_change command = false

other_word : (command : Command) → is_change command ≡ false → asks_change (keyword command) ≡ false
other_word (commands.Change cut c) other = absurd (false≢true (sym other))
other_word command other = refl

no_change : (cut : Cut) (word : Option Keyword) → asks_change word ≡ false → Some (cut_word cut) ≡ word → ⊥
no_change cut word other same = false≢true (sym other ∙ ap asks_change (sym same) ∙ cut_asks cut)

-- the words behind the first tell what a command carries
one_body : (c d : Command) (body : List (List ℕ)) → keyword c ≡ keyword d → IsBody c body → IsBody d body → c ≡ d
one_body (commands.Help t) d body same x y = absurd x
one_body commands.Version d body same x y = absurd x
one_body c (commands.Help t) body same x y = absurd y
one_body c commands.Version body same x y = absurd y
one_body (commands.Flat f t) (commands.Flat g u) body same x y =
    let b = one_file f g (λ ws. IsCall ws t) (λ ws. IsCall ws u) body x y in
    let call = one_call b.1.0 b.1.0 t u b.1.1 b.1.2 refl in rw (b.0, call) refl
one_body (commands.Change a c) (commands.Change b d) body same x y =
    let f = one_file c.file d.file (IsCutSo a c) (IsCutSo b d) body x y in
    let both = one_cut a b c d f.1.0 (same_Some (cut_word a) (cut_word b) same) f.0 f.1.1 f.1.2 in rw (both.0, both.1) refl
one_body (commands.Replay f e) (commands.Replay g h) body same x y =
    let b = one_file f g (BehindFile e IsEnd) (BehindFile h IsEnd) body x y in
    let events = one_file e h IsEnd IsEnd b.1.0 b.1.1 b.1.2 in rw (b.0, events.0) refl
one_body (commands.Upgrade f) (commands.Upgrade g) body same x y =
    let b = one_file f g IsEnd IsEnd body x y in rw b.0 refl
one_body (commands.Step f) (commands.Step g) body same x y =
    let b = one_file f g IsEnd IsEnd body x y in rw b.0 refl
one_body (commands.Live f w n) (commands.Live g v m) body same x y =
    let b = one_file f g (λ ws. SaysThreads ws w n) (λ ws. SaysThreads ws v m) body x y in
    let counts = one_threads b.1.0 w n v m b.1.1 b.1.2 in rw (b.0, counts.0, counts.1) refl
one_body (commands.Check f e) (commands.Check g h) body same x y =
    let b = one_file f g (BehindFile e IsEnd) (BehindFile h IsEnd) body x y in
    let report = one_file e h IsEnd IsEnd b.1.0 b.1.1 b.1.2 in rw (b.0, report.0) refl
one_body (commands.Big n) (commands.Big m) body same x y =
    let lanes = x.3 ∙ ap (digits_value 10) (head_is x.0 y.0 [] [] (sym x.1 ∙ y.1)) ∙ sym y.3 in rw lanes refl
one_body (commands.Change a c) d body same x y = absurd (no_change a (keyword d) (other_word d refl) same)
one_body c (commands.Change b d) body same x y = absurd (no_change b (keyword c) (other_word c refl) (sym same))
one_body c d body same x y = absurd (cc same)

-- words ask for one command at most
pub one_command : (words : List (List ℕ)) (c d : Command) → Asks words c → Asks words d → c ≡ d
one_command words _ _ (for_help a x) (for_help b y) = ap commands.Help (one_topic words a b x y)
one_command words _ _ (for_help a x) (for_version is) = absurd (no_version words a x is)
one_command words _ _ (for_help None x) (for_deed own body d is other has) = absurd (no_keyword_asks words own body is x)
one_command words _ _ (for_help (Some a) x) (for_deed own body d is other has) =
    absurd (other (sym (tail_is (word_of a) (word_of own) (codes "--help" ∷ []) body (sym x ∙ is))))
one_command words _ _ (for_version is) (for_help b y) = absurd (no_version words b y is)
one_command words _ _ (for_version x) (for_version y) = refl
one_command words _ _ (for_version x) (for_deed own body d is other has) =
    absurd (no_keyword own (codes "--version") (head_is (codes "--version") (word_of own) [] body (sym x ∙ is)) named_none.3)
one_command words _ _ (for_deed own body c is other has) (for_help None y) = absurd (no_keyword_asks words own body is y)
one_command words _ _ (for_deed own body c is other has) (for_help (Some b) y) =
    absurd (other (tail_is (word_of own) (word_of b) body (codes "--help" ∷ []) (sym is ∙ y)))
one_command words _ _ (for_deed own body c is other has) (for_version y) =
    absurd (no_keyword own (codes "--version") (head_is (codes "--version") (word_of own) [] body (sym y ∙ is)) named_none.3)
one_command words _ _ (for_deed a xs c x _ has) (for_deed b ys d y _ also) =
    let both = sym x ∙ y in
    let same = one_keyword a b (head_is (word_of a) (word_of b) xs ys both) in
    one_body c d xs (has.0 ∙ ap Some same ∙ sym also.0) has.1 (subst (IsBody d) (sym (tail_is (word_of a) (word_of b) xs ys both)) also.1)

-- the lanes that may be asked for
pub lanes_asked : (words : List (List ℕ)) (lanes : ℕ) → Asks words (commands.Big lanes) → (1 ≤ lanes) × (lanes ≤ 40)
lanes_asked words lanes (for_deed own body _ is other (names, (count, body_is, is_count, value))) =
    (subst (λ k. 1 ≤ k) (sym value) is_count.1, subst (λ k. k ≤ 40) (sym value) is_count.2)

-- and the threads
threads_said : (words : List (List ℕ)) (workers observers : ℕ) → SaysThreads words workers observers → (workers ≤ 8) × (observers ≤ 4)
threads_said [] workers observers (four, none) = (subst (λ k. k ≤ 8) (sym four) (lit≤ tt), subst (λ k. k ≤ 4) (sym none) (lit≤ tt))
threads_said (option ∷ []) workers observers (says, never) = absurd never
threads_said (option ∷ count ∷ []) workers observers (says, (is, value, none)) =
    (subst (λ k. k ≤ 8) (sym value) is.2, subst (λ k. k ≤ 4) (sym none) (lit≤ tt))
threads_said (option ∷ count ∷ watch ∷ words) workers observers (says, (is, value, (shows, seen, words_are, is_seen, also))) =
    (subst (λ k. k ≤ 8) (sym value) is.2, subst (λ k. k ≤ 4) (sym also) is_seen.2)

threads_behind : (script : List ℕ) (workers observers : ℕ) (body : List (List ℕ)) → BehindFile script (λ ws. SaysThreads ws workers observers) body → (workers ≤ 8) × (observers ≤ 4)
threads_behind script workers observers [] never = absurd never
threads_behind script workers observers (word ∷ words) is = threads_said words workers observers is.2

pub threads_asked :
    (words : List (List ℕ)) (script : List ℕ) (workers observers : ℕ) → Asks words (commands.Live script workers observers)
    → (workers ≤ 8) × (observers ≤ 4)
threads_asked words script workers observers (for_deed own body _ is other has) = threads_behind script workers observers body has.1
