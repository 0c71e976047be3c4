-- The test of a name computes what a name is.
use Rattle.std.proofs.Common.{◌≡◌, ℕ, Bool, true, false, IsTrue, List, length, refl, ap, rules}
use Rattle.std.specs.Prelude.{◌↔◌}
use Rattle.std.proofs.lemmas.Bool.Decides.{nat_tests}
use Rattle.darwin_lexer.specs.declared.front.Front.{Front}
use Rattle.darwin_lexer.specs.declared.front.Front.TheVariants.{End, Gap, Lexeme, Broken}
use Rattle.darwin_lexer.specs.declared.token.TokenKind.TheVariants.{Name, Number, Word, Sign}
use Rattle.darwin_lexer.specs.Fronts.{front_of}
use Rattle.darwin_lexer.specs.Naming.{IsName}
use Rattle.change_script.specs.Paths.{is_name, is_whole_name}

whole_name : (front : Front) (n : ℕ) → front ≡ Lexeme Name n → IsTrue (is_whole_name n front)
whole_name front n e = rw e (search (rules, nat_tests))

name_whole : (front : Front) (n : ℕ) → IsTrue (is_whole_name n front) → front ≡ Lexeme Name n
name_whole End n h = search rules
name_whole (Gap m) n h = search rules
name_whole (Broken fault) n h = search rules
name_whole (Lexeme Name m) n h = let same : m ≡ n = search (rules, nat_tests) in ap (Lexeme Name) same
name_whole (Lexeme (Number k) m) n h = search rules
name_whole (Lexeme (Word k) m) n h = search rules
name_whole (Lexeme (Sign k) m) n h = search rules

same_bool : (a b : Bool) → (IsTrue a → IsTrue b) → (IsTrue b → IsTrue a) → a ≡ b
same_bool true true f g = refl
same_bool false false f g = refl
same_bool true false f g = let h : IsTrue false = f (search rules) in search rules
same_bool false true f g = let h : IsTrue false = g (search rules) in search rules

pub same_answer : (answer : Bool) (n : ℕ) (front : Front) → (IsTrue answer → front ≡ Lexeme Name n) → (front ≡ Lexeme Name n → IsTrue answer) → answer ≡ is_whole_name n front
same_answer answer n front only whenever = same_bool answer (is_whole_name n front) (λ h. whole_name front n (only h)) (λ h. whenever (name_whole front n h))

pub name_is : (bytes : List ℕ) → IsTrue (is_name bytes) ↔ IsName bytes
name_is bytes = (name_whole (front_of bytes) (length bytes), whole_name (front_of bytes) (length bytes))
