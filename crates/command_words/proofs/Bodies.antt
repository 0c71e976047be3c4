-- Words behind a command's own that aren't its body, and words that ask for nothing.
use Rattle.std.proofs.Common.{◌≡◌, ◌≢◌, ◌∙◌, ◌≤◌, ◌-◌, ◌↔◌, ℕ, Bool, IsTrue, bytes_eq, Result, Ok, Err, IfOk, List, [], ◌∷◌, Option, None, Some, codes, length, map, get_or, take, drop, sym, ap, subst, arith}
use Rattle.std.proofs.lemmas.List.{take_rest}
use Rattle.base.proofs.BytesLaws.{bytes_eq_self, same_bytes}
use Rattle.command_words.specs.declared.keywords.Keyword.{Keyword}
use Rattle.command_words.specs.declared.keywords.Keyword.TheVariants as keywords
use Rattle.command_words.specs.declared.words.Change.{Change}
use Rattle.command_words.specs.declared.words.Cut.TheVariants as cuts
use Rattle.command_words.specs.declared.words.Command.{Command}
use Rattle.command_words.specs.declared.words.Command.TheVariants as commands
use Rattle.command_words.specs.declared.words.TopCall.{TopCall}
use Rattle.command_words.specs.Keywords.{word_of}
use Rattle.command_words.specs.CommandLine.{Asks, for_help, for_version, for_deed, BehindFile, HasBody, IsCall, IsChange, IsEnd, IsFound, IsRolled, SaysThreads}
use Rattle.command_words.proofs.Asking.{head_is, tail_is}
use Rattle.command_words.proofs.WordsLaws.{is_of_change, no_cut, no_deed, no_keyword, named_none, no_keyword_asks, one_keyword}

module _ (own : Keyword) (first : List ℕ) (words : List (List ℕ)) where
  pub no_flat : own ≡ keywords.Flat → ((call : TopCall) → IsCall words call → ⊥) → (c : Command) → HasBody own (first ∷ words) c → ⊥
  no_flat is none (commands.Flat f t) has = none t has.1.2
  no_flat is none (commands.Change cut change) has = no_cut cut own (ap is_of_change is) has.0
  no_flat is none c has = cc has.0

  pub no_plan : own ≡ keywords.Plan → ((change : Change) → (change.file ≡ first) × IsChange words change → ⊥) → (c : Command) → HasBody own (first ∷ words) c → ⊥
  no_plan is none (commands.Change cuts.Whole change) has = none change (has.1.0, has.1.2)
  no_plan is none (commands.Change cuts.InParts change) has = cc has.0
  no_plan is none (commands.Change (cuts.Rolled run within) change) has = cc has.0
  no_plan is none c has = cc has.0

  pub no_parts : own ≡ keywords.Parts → ((change : Change) → (change.file ≡ first) × IsChange words change → ⊥) → (c : Command) → HasBody own (first ∷ words) c → ⊥
  no_parts is none (commands.Change cuts.InParts change) has = none change (has.1.0, has.1.2)
  no_parts is none (commands.Change cuts.Whole change) has = cc has.0
  no_parts is none (commands.Change (cuts.Rolled run within) change) has = cc has.0
  no_parts is none c has = cc has.0

  pub no_roll :
      own ≡ keywords.Roll → ((run within : ℕ) (change : Change) → (change.file ≡ first) × IsRolled run within change words → ⊥) → (c : Command)
      → HasBody own (first ∷ words) c → ⊥
  no_roll is none (commands.Change (cuts.Rolled run within) change) has = none run within change (has.1.0, has.1.2)
  no_roll is none (commands.Change cuts.Whole change) has = cc has.0
  no_roll is none (commands.Change cuts.InParts change) has = cc has.0
  no_roll is none c has = cc has.0

  pub no_apply : own ≡ keywords.Apply → (c : Command) → HasBody own (first ∷ words) c → ⊥
  no_apply is c has = no_deed own c is has.0

  pub no_replay : own ≡ keywords.Replay → ((file : List ℕ) → BehindFile file IsEnd words → ⊥) → (c : Command) → HasBody own (first ∷ words) c → ⊥
  no_replay is none (commands.Replay f e) has = none e has.1.2
  no_replay is none (commands.Change cut change) has = no_cut cut own (ap is_of_change is) has.0
  no_replay is none c has = cc has.0

  pub no_step : own ≡ keywords.Step → (IsEnd words → ⊥) → (c : Command) → HasBody own (first ∷ words) c → ⊥
  no_step is none (commands.Step f) has = none has.1.2
  no_step is none (commands.Change cut change) has = no_cut cut own (ap is_of_change is) has.0
  no_step is none c has = cc has.0

  pub no_live : own ≡ keywords.Live → ((n m : ℕ) → SaysThreads words n m → ⊥) → (c : Command) → HasBody own (first ∷ words) c → ⊥
  no_live is none (commands.Live f n m) has = none n m has.1.2
  no_live is none (commands.Change cut change) has = no_cut cut own (ap is_of_change is) has.0
  no_live is none c has = cc has.0

  pub no_check : own ≡ keywords.Check → ((file : List ℕ) → BehindFile file IsEnd words → ⊥) → (c : Command) → HasBody own (first ∷ words) c → ⊥
  no_check is none (commands.Check f e) has = none e has.1.2
  no_check is none (commands.Change cut change) has = no_cut cut own (ap is_of_change is) has.0
  no_check is none c has = cc has.0

  pub no_upgrade : own ≡ keywords.Upgrade → (IsEnd words → ⊥) → (c : Command) → HasBody own (first ∷ words) c → ⊥
  no_upgrade is none (commands.Upgrade f) has = none has.1.2
  no_upgrade is none (commands.Change cut change) has = no_cut cut own (ap is_of_change is) has.0
  no_upgrade is none c has = cc has.0

-- words of a command that aren't its body, and don't ask for its help
pub no_command :
    (own : Keyword) (first : List ℕ) (body : List (List ℕ)) → first ≡ word_of own → body ≢ codes "--help" ∷ []
    → ((c : Command) → HasBody own body c → ⊥) → (c : Command) → Asks (first ∷ body) c → ⊥
no_command own first body is other none _ (for_help None asks) =
    no_keyword_asks (first ∷ body) own body (ap (λ w. w ∷ body) is) asks
no_command own first body is other none _ (for_help (Some topic) asks) = other (tail_is first (word_of topic) body (codes "--help" ∷ []) asks)
no_command own first body is other none _ (for_version asks) = no_keyword own (codes "--version") (sym (head_is first (codes "--version") body [] asks) ∙ is) named_none.3
no_command own first body is other none c (for_deed also words _ parts _ has) =
    let same = one_keyword also own (sym (head_is first (word_of also) body words parts) ∙ is) in
    none c (subst (λ ws. HasBody own ws c) (sym (tail_is first (word_of also) body words parts)) (subst (λ k. HasBody k words c) same has))

-- what such words ask for is what their body is
pub finds :
    (own : Keyword) (first : List ℕ) (body : List (List ℕ)) (found : Option Command) → first ≡ word_of own → body ≢ codes "--help" ∷ []
    → IsFound (HasBody own body) found → IsFound (Asks (first ∷ body)) found
finds own first body (Some c) is other has = for_deed own body c (ap (λ w. w ∷ body) is) other has
finds own first body None is other none = no_command own first body is other none

pub finds_ok :
    {E : Type 0} (own : Keyword) (first : List ℕ) (body : List (List ℕ)) (r : Result (Option Command) E) → first ≡ word_of own
    → body ≢ codes "--help" ∷ [] → IfOk r (IsFound (HasBody own body)) → IfOk r (IsFound (Asks (first ∷ body)))
finds_ok own first body (Ok found) is other has = finds own first body found is other has
finds_ok own first body (Err _) is other has = tt

-- the first word, and those behind it
pub first_word :
    {A : Type 0} (f : A → List ℕ) (words : List A) (first : A) (head : List ℕ) → 1 ≤ length words → first ≡ get_or words 0 first
    → head ≡ f first → head ∷ map f (take (length words - 1) (drop 1 words)) ≡ map f words
first_word {A} f words first head some is head_is = ap (λ ws. head ∷ map f ws) (take_rest words 1) ∙ of words some is
  where
    of : (ws : List A) → 1 ≤ length ws → first ≡ get_or ws 0 first → head ∷ map f (drop 1 ws) ≡ map f ws
    of [] some is = absurd (omega (arith, some))
    of (x ∷ ws) some is = let of_first = ap f is in cc

-- whether one word alone is another
pub only_word :
    {A : Type 0} (f : A → List ℕ) (words : List A) (first : A) (head other : List ℕ) → length words ≡ 1 → first ≡ get_or words 0 first
    → head ≡ f first → (same : Bool) → same ≡ bytes_eq head other → IsTrue same ↔ (map f words ≡ other ∷ [])
only_word f [] first head other one is head_is same says = absurd (omega (arith, one))
only_word f (x ∷ y ∷ words) first head other one is head_is same says = absurd (omega (arith, one))
only_word f (x ∷ []) first head other one is head_is same says = (
  λ true_is. let equal = same_bytes head other (sym says ∙ true_is) in let of_first = ap f is in cc,
  λ equal. says ∙ ap (λ w. bytes_eq w other) (head_is ∙ ap f is ∙ head_of (f x) other equal) ∙ bytes_eq_self other,
)
  where
    head_of : (a b : List ℕ) → a ∷ [] ≡ b ∷ [] → a ≡ b
    head_of a b both = cc
