-- Words that are no change.
use Rattle.std.proofs.Common.{◌≡◌, ◌≤◌, ◌<◌, ◌∙◌, ℕ, List, [], ◌∷◌, Option, None, Some, Result, Ok, Err, IfOk, length, map, codes, get_or, refl, sym, ap, subst, arith}
use Rattle.std.specs.List.{AllByRecursion}
use Rattle.std.specs.Option.{SomeIff}
use Rattle.std.specs.Str.Parse.{digits_value}
use Rattle.command_words.specs.declared.calls.Target.{Target}
use Rattle.command_words.specs.declared.words.Change.{Change}
use Rattle.command_words.specs.declared.words.TopCall.{TopCall}
use Rattle.command_words.specs.CommandLine.{IsCall, IsChange, IsCount, IsFound, IsOther, IsTarget, SaysObservers}
use Rattle.command_words.proofs.Asking.{head_is, call_has_parts, one_parting, no_parting, IsPart, Parted}

-- words that nothing parts
pub not_parted : (words : List (List ℕ)) → AllByRecursion IsPart words → (change : Change) → IsChange words change → ⊥
not_parted words all change is = no_parting is.0 is.1 (subst (AllByRecursion IsPart) is.2 all)

-- words of which one part is no component
module _ (words first second : List (List ℕ)) (parts : Parted words first second) where
  same_parts : (change : Change) (is : IsChange words change) → (is.0 ≡ first) × (is.1 ≡ second)
  same_parts change is =
      one_parting is.0 first is.1 second (call_has_parts is.0 change.call is.3) parts.first (sym is.2 ∙ parts.parted)

  pub no_call : ((asked : TopCall) → IsCall first asked → ⊥) → (change : Change) → IsChange words change → ⊥
  no_call none change is = none change.call (subst (λ ws. IsCall ws change.call) (same_parts change is).0 is.3)

  pub no_target : ((other : Option (List ℕ)) (target : TopCall) → IsTarget second other target → ⊥) → (change : Change) → IsChange words change → ⊥
  no_target none change is = none change.other change.target (subst (λ ws. IsTarget ws change.other change.target) (same_parts change is).1 is.4)

-- words that are neither a component of the file nor of another
pub no_component :
    (words : List (List ℕ)) → ((target : TopCall) → IsCall words target → ⊥) → ((other : Option (List ℕ)) (target : TopCall) → IsOther words other target → ⊥)
    → (other : Option (List ℕ)) (target : TopCall) → IsTarget words other target → ⊥
no_component words same apart None target is = same target is
no_component words same apart (Some other) target is = apart (Some other) target is

pub other_is_target : (words : List (List ℕ)) (other : Option (List ℕ)) (target : TopCall) → IsOther words other target → IsTarget words other target
other_is_target [] other target never = absurd never
other_is_target (word ∷ words) other target is = subst (λ o. IsTarget (word ∷ words) o target) (sym is.1) (is.0, refl, is.2)

pub finds_other :
    {E : Type 0} (words : List (List ℕ)) (r : Result (Option Target) E) → ((target : TopCall) → IsCall words target → ⊥)
    → IfOk r (IsFound (λ (to : Target). IsOther words to.other to.target)) → IfOk r (IsFound (λ (to : Target). IsTarget words to.other to.target))
finds_other words (Ok (Some to)) none is = other_is_target words to.other to.target is
finds_other words (Ok None) none nothing = λ to is.
    no_component words none (λ other target. nothing (record { other = other; target = target })) to.other to.target is
finds_other words (Err e) none is = tt

-- whether two words say a number of observers
pub says_observers :
    {A : Type 0} (f : A → List ℕ) (words : List A) (option count default other : A) → 2 ≤ length words → length words < 3
    → option ≡ get_or words 0 default → count ≡ get_or words 1 other → f option ≡ codes "--watch" → (said : Option ℕ)
    → SomeIff said (IsCount 4 (f count)) (digits_value 10 (f count)) → IsFound (SaysObservers (map f words)) said
says_observers f [] option count default other low high first second names said by = absurd (omega (arith, low))
says_observers f (x ∷ []) option count default other low high first second names said by = absurd (omega (arith, low))
says_observers f (x ∷ y ∷ z ∷ words) option count default other low high first second names said by = absurd (omega (arith, high))
says_observers f (x ∷ y ∷ []) option count default other low high first second names None by =
    λ observers says. by (subst (IsCount 4) (sym (ap f second ∙ head_is (f y) says.1 [] [] says.2)) says.3)
says_observers f (x ∷ y ∷ []) option count default other low high first second names (Some observers) by =
    (ap f (sym first) ∙ names, f y, refl, subst (λ c. IsCount 4 (f c)) second by.0, by.1 ∙ ap (λ c. digits_value 10 (f c)) second)
