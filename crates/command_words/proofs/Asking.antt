-- Calls, and the word that parts two of them.
use Rattle.std.proofs.Common.{◌≡◌, ◌≢◌, ◌∙◌, ℕ, ℤ, List, [], ◌∷◌, ◌++◌, map, codes, refl, ap, sym, subst, arith}
use Rattle.std.specs.List.{AllByRecursion}
use Rattle.darwin_lexer.specs.Naming.{IsName}
use Rattle.command_words.specs.declared.words.TopCall.{TopCall}
use Rattle.command_words.specs.CommandLine.{IsCall, IsInteger, integer_of}

pub tail_is : (x y : List ℕ) (xs ys : List (List ℕ)) → x ∷ xs ≡ y ∷ ys → xs ≡ ys
tail_is x y xs ys is = cc

pub head_is : (x y : List ℕ) (xs ys : List (List ℕ)) → x ∷ xs ≡ y ∷ ys → x ≡ y
head_is x y xs ys is = cc

same_call : (t u : TopCall) → t.top ≡ u.top → t.args ≡ u.args → t ≡ u
same_call t u top args =
    let of : List ℕ → List ℤ → TopCall = λ name values. record { top = name; args = values } in
    ap (λ name. of name t.args) top ∙ ap (of u.top) args

pub one_call : (xs ys : List (List ℕ)) (t u : TopCall) → IsCall xs t → IsCall ys u → xs ≡ ys → t ≡ u
one_call xs ys t u x y same =
    let both = sym x.1 ∙ same ∙ y.1 in
    same_call t u (head_is t.top u.top x.0 y.0 both) (x.4 ∙ ap (map integer_of) (tail_is t.top u.top x.0 y.0 both) ∙ sym y.4)

-- no component and no integer parts two calls
abbrev pub IsPart : List ℕ → Type 0
IsPart word = word ≢ codes "--"

name_is_part : (word : List ℕ) → IsName word → IsPart word
name_is_part word name is = clash (subst IsName is name)
  where
    clash : IsName (codes "--") → ⊥
    clash is = cc

integer_is_part : (word : List ℕ) → IsInteger word → IsPart word
integer_is_part word integer is = clash (subst IsInteger is integer)
  where
    clash : IsInteger (codes "--") → ⊥
    clash is = absurd (omega (arith, is.1.1.0))

integers_are_parts : (words : List (List ℕ)) → AllByRecursion IsInteger words → AllByRecursion IsPart words
integers_are_parts [] all = tt
integers_are_parts (word ∷ words) all = (integer_is_part word all.0, integers_are_parts words all.1)

pub call_has_parts : (words : List (List ℕ)) (call : TopCall) → IsCall words call → AllByRecursion IsPart words
call_has_parts words call is = subst (AllByRecursion IsPart) (sym is.1) (name_is_part call.top is.2, integers_are_parts is.0 is.3)

-- words are parted in one way where they are parted first
pub one_parting :
    (xs us ys vs : List (List ℕ)) → AllByRecursion IsPart xs → AllByRecursion IsPart us → xs ++ codes "--" ∷ ys ≡ us ++ codes "--" ∷ vs
    → (xs ≡ us) × (ys ≡ vs)
one_parting [] [] ys vs left right is = (refl, tail_is (codes "--") (codes "--") ys vs is)
one_parting [] (u ∷ us) ys vs left right is = absurd (right.0 (sym (head_is (codes "--") u ys (us ++ codes "--" ∷ vs) is)))
one_parting (x ∷ xs) [] ys vs left right is = absurd (left.0 (head_is x (codes "--") (xs ++ codes "--" ∷ ys) vs is))
one_parting (x ∷ xs) (u ∷ us) ys vs left right is =
    let rest = one_parting xs us ys vs left.1 right.1 (tail_is x u (xs ++ codes "--" ∷ ys) (us ++ codes "--" ∷ vs) is) in
    (cc (head_is x u (xs ++ codes "--" ∷ ys) (us ++ codes "--" ∷ vs) is, rest.0), rest.1)

-- words that aren't parted ask for no plan
pub no_parting : (xs ys : List (List ℕ)) → AllByRecursion IsPart (xs ++ codes "--" ∷ ys) → ⊥
no_parting [] ys all = all.0 refl
no_parting (x ∷ xs) ys all = no_parting xs ys all.1

-- what a plan's words are parted into
pub record Parted (words : List (List ℕ)) (call target : List (List ℕ)) : Type 0 where
  pub parted : words ≡ call ++ codes "--" ∷ target
  pub first : AllByRecursion IsPart call
