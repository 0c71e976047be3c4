-- Sets of kinds of tokens, in which all numbers are one: as lists, which compute.
use Rattle.std.proofs.Common.{◌≡◌, Bool, true, false, not, ◌||◌, ◌&&◌, List, [], ◌∷◌, ◌++◌, refl, ap, ◌∙◌, inl, inr}
use Rattle.std.proofs.lemmas.Bool.{eq-eqb, and_parts, false≢true, or_cases, and_from, or_left, or_right}
use Rattle.std.proofs.lemmas.Bool.Decides.{eqb_tells}
use denote.Enum.Bare.{same_true, true_same}
use Rattle.darwin_lexer.specs.contracts.token.Keyword as keyword
use Rattle.darwin_lexer.specs.contracts.token.Sign as sign_type
use Rattle.darwin_lexer.specs.declared.token.TokenKind.{TokenKind}
use Rattle.darwin_lexer.specs.declared.token.TokenKind.TheVariants as kinds
use Rattle.darwin_parser.specs.Reading.{same_kind}

abbrev pub class_of : TokenKind → TokenKind
class_of kinds.Name = kinds.Name
class_of (kinds.Number n) = kinds.Number 0
class_of (kinds.Word w) = kinds.Word w
class_of (kinds.Sign s) = kinds.Sign s

abbrev pub member : TokenKind → List TokenKind → Bool
member c [] = false
member c (x ∷ xs) = same_kind c x || member c xs

abbrev pub apart : List TokenKind → List TokenKind → Bool
apart [] ys = true
apart (x ∷ xs) ys = not (member x ys) && apart xs ys

abbrev pub within : List TokenKind → List TokenKind → Bool
within [] ys = true
within (x ∷ xs) ys = member x ys && within xs ys

pub same_sound : (a b : TokenKind) → same_kind a b ≡ true → a ≡ b
same_sound kinds.Name kinds.Name e = refl
same_sound kinds.Name (kinds.Number m) e = absurd cc
same_sound kinds.Name (kinds.Word m) e = absurd cc
same_sound kinds.Name (kinds.Sign m) e = absurd cc
same_sound (kinds.Number n) kinds.Name e = absurd cc
same_sound (kinds.Number n) (kinds.Number m) e = elim (eqb_tells n m) [ inl h ↦ ap kinds.Number h.1 | inr h ↦ absurd (let k = h.0 in cc) ]
same_sound (kinds.Number n) (kinds.Word m) e = absurd cc
same_sound (kinds.Number n) (kinds.Sign m) e = absurd cc
same_sound (kinds.Word v) kinds.Name e = absurd cc
same_sound (kinds.Word v) (kinds.Number m) e = absurd cc
same_sound (kinds.Word v) (kinds.Word w) e = ap kinds.Word (same_true keyword.the_type tt v w e)
same_sound (kinds.Word v) (kinds.Sign m) e = absurd cc
same_sound (kinds.Sign s) kinds.Name e = absurd cc
same_sound (kinds.Sign s) (kinds.Number m) e = absurd cc
same_sound (kinds.Sign s) (kinds.Word m) e = absurd cc
same_sound (kinds.Sign s) (kinds.Sign t) e = ap kinds.Sign (same_true sign_type.the_type tt s t e)

pub same_self : (a : TokenKind) → same_kind a a ≡ true
same_self kinds.Name = refl
same_self (kinds.Number n) = eq-eqb n n refl
same_self (kinds.Word v) = true_same keyword.the_type v v refl
same_self (kinds.Sign v) = true_same sign_type.the_type v v refl

pub not_true : (a b : Bool) → (not a && b) ≡ true → (a ≡ false) × (b ≡ true)
not_true true b e = absurd cc
not_true false b e = (refl, e)

pub apart_is : (xs ys : List TokenKind) (c : TokenKind) → apart xs ys ≡ true → member c xs ≡ true → member c ys ≡ false
apart_is [] ys c e m = absurd cc
apart_is (x ∷ xs) ys c e m =
    let s = not_true (member x ys) (apart xs ys) e in
    elim (or_cases (same_kind c x) (member c xs) m) [ inl h ↦ ap (λ k. member k ys) (same_sound c x h) ∙ s.0 | inr h ↦ apart_is xs ys c s.1 h ]

pub within_is : (xs ys : List TokenKind) (c : TokenKind) → within xs ys ≡ true → member c xs ≡ true → member c ys ≡ true
within_is [] ys c e m = absurd cc
within_is (x ∷ xs) ys c e m =
    let s = and_parts (member x ys) (within xs ys) e in
    elim (or_cases (same_kind c x) (member c xs) m) [ inl h ↦ ap (λ k. member k ys) (same_sound c x h) ∙ s.0 | inr h ↦ within_is xs ys c s.1 h ]

pub within_not : (xs ys : List TokenKind) (c : TokenKind) → within xs ys ≡ true → member c ys ≡ false → member c xs ≡ false
within_not xs ys c e m = elim (member c xs) as (λ b. member c xs ≡ b → b ≡ false) [ true ↦ λ h. absurd (let k = within_is xs ys c e h in cc) | false ↦ λ _. refl ] refl

pub apart_not : (xs ys : List TokenKind) (c : TokenKind) → apart xs ys ≡ true → member c ys ≡ true → member c xs ≡ false
apart_not xs ys c e m = elim (member c xs) as (λ b. member c xs ≡ b → b ≡ false) [ true ↦ λ h. absurd (let k = apart_is xs ys c e h in cc) | false ↦ λ _. refl ] refl

pub within_self_at : (xs ys : List TokenKind) → ((c : TokenKind) → member c xs ≡ true → member c ys ≡ true) → within xs ys ≡ true
within_self_at [] ys f = refl
within_self_at (x ∷ xs) ys f =
    and_from (member x ys) (within xs ys) (f x (ap (λ b. b || member x xs) (same_self x))) (within_self_at xs ys (λ c m. f c (or_right (same_kind c x) (member c xs) m)))

pub within_self : (xs : List TokenKind) → within xs xs ≡ true
within_self xs = within_self_at xs xs (λ c m. m)

abbrev pub implies : Bool → Bool → Bool
implies a b = not a || b

pub implied : (a b : Bool) → implies a b ≡ true → a ≡ true → b ≡ true
implied true b e h = e
implied false b e h = absurd cc

pub or_false : (b : Bool) → b ≡ false → (b || false) ≡ false
or_false true e = absurd cc
or_false false e = refl

pub member_left : (xs ys : List TokenKind) (c : TokenKind) → member c xs ≡ true → member c (xs ++ ys) ≡ true
member_left [] ys c m = absurd (false≢true m)
member_left (x ∷ xs) ys c m = elim (or_cases (same_kind c x) (member c xs) m) [ inl h ↦ or_left (same_kind c x) (member c (xs ++ ys)) h | inr h ↦ or_right (same_kind c x) (member c (xs ++ ys)) (member_left xs ys c h) ]

pub member_right : (xs ys : List TokenKind) (c : TokenKind) → member c ys ≡ true → member c (xs ++ ys) ≡ true
member_right [] ys c m = m
member_right (x ∷ xs) ys c m = or_right (same_kind c x) (member c (xs ++ ys)) (member_right xs ys c m)

pub within_left : (xs ys : List TokenKind) → within xs (xs ++ ys) ≡ true
within_left xs ys = within_self_at xs (xs ++ ys) (λ c m. member_left xs ys c m)

pub within_right : (xs ys : List TokenKind) → within ys (xs ++ ys) ≡ true
within_right xs ys = within_self_at ys (xs ++ ys) (λ c m. member_right xs ys c m)

-- what may come first of two, and what goes on after them
abbrev pub sum_of : Bool → List TokenKind → List TokenKind → List TokenKind
sum_of true xs ys = xs ++ ys
sum_of false xs ys = xs

pub sum_first : (b : Bool) (xs ys : List TokenKind) → within xs (sum_of b xs ys) ≡ true
sum_first true xs ys = within_left xs ys
sum_first false xs ys = within_self xs

pub sum_second : (b : Bool) (xs ys : List TokenKind) → implies b (within ys (sum_of b xs ys)) ≡ true
sum_second true xs ys = within_right xs ys
sum_second false xs ys = refl

pub self_implied : (b : Bool) → implies b b ≡ true
self_implied true = refl
self_implied false = refl
