-- Bytes that are kept or taken, and the lines that are left then.
use Rattle.std.proofs.Common.{◌≡◌, ◌∙◌, ℕ, ◌+◌, ◌<◌, false, cond, List, [], ◌∷◌, ◌++◌, length, refl, sym, ap, subst, arith, Option, Some, None}
use Rattle.std.specs.Prelude.{◌==◌, nat_lt}
use Rattle.std.specs.Io.KnownBytes.{Consumes, IsAtEnd, Keeps}
use Rattle.std.proofs.lemmas.Bool.{le-ltb, lt-ltb}
use Rattle.std.proofs.lemmas.List.{length-append}
use Rattle.change_apply.specs.Lines.{lines_from}
use Rattle.change_apply.specs.Reading.{ByteCame, GoesOn, HasNoLine, IsFirstLine, LineCame, TookByte}
use Rattle.change_apply.specs.declared.reading.Came.{Came}
use Rattle.change_apply.specs.declared.reading.Came.TheVariants as came
use Rattle.change_apply.specs.declared.reading.NextByte.{NextByte}
use Rattle.change_apply.specs.declared.reading.NextByte.TheVariants as byte

pub keeps_both : (a b c : Option (List ℕ)) → Keeps a b → Keeps b c → Keeps a c
keeps_both None b c h k = tt
keeps_both (Some xs) None c h k = absurd h
keeps_both (Some xs) (Some ys) None h k = absurd k
keeps_both (Some xs) (Some ys) (Some zs) h k = k ∙ h

pub keeps_here : (a : Option (List ℕ)) → Keeps a a
keeps_here None = tt
keeps_here (Some xs) = refl

consumes_then : (a b c : Option (List ℕ)) (bs : List ℕ) → Keeps a b → Consumes b c bs → Consumes a c bs
consumes_then None b c bs h k = tt
consumes_then (Some xs) None c bs h k = absurd h
consumes_then (Some xs) (Some ys) None bs h k = absurd k
consumes_then (Some xs) (Some ys) (Some zs) bs h k = sym h ∙ k

end_then : (a b : Option (List ℕ)) → Keeps a b → IsAtEnd b → IsAtEnd a
end_then None b h k = tt
end_then (Some xs) None h k = absurd h
end_then (Some xs) (Some ys) h k = sym h ∙ k

pub came_then : (a b c : Option (List ℕ)) (n : NextByte) → Keeps a b → ByteCame b c n → ByteCame a c n
came_then a b c (byte.Is x) h k = consumes_then a b c (x ∷ []) h k
came_then a b c byte.End h k = end_then a b h k
came_then a b c byte.Fault h k = tt
came_then a b c byte.Interrupted h k = keeps_both a b c h k

-- a byte that ends no line

long_one : (line : List ℕ) (b : ℕ) → length (line ++ b ∷ []) ≡ length line + 1
long_one line b = length-append line (b ∷ [])

from_more : (line : List ℕ) (b : ℕ) (ys : List ℕ) → (b == 10) ≡ false → length line < 4096 → lines_from line (b ∷ ys) ≡ lines_from (line ++ b ∷ []) ys
from_more line b ys other low =
    ap (λ t. cond t (line ∷ lines_from [] ys) (cond (nat_lt 4096 (length (line ++ b ∷ []))) ((line ++ b ∷ []) ∷ lines_from [] ys) (lines_from (line ++ b ∷ []) ys))) other
    ∙ ap (λ t. cond t ((line ++ b ∷ []) ∷ lines_from [] ys) (lines_from (line ++ b ∷ []) ys)) (le-ltb 4096 (length (line ++ b ∷ [])) (omega (arith, long_one line b, low)))

from_last : (line : List ℕ) (b : ℕ) (ys : List ℕ) → (b == 10) ≡ false → length line ≡ 4096 → lines_from line (b ∷ ys) ≡ (line ++ b ∷ []) ∷ lines_from [] ys
from_last line b ys other full =
    ap (λ t. cond t (line ∷ lines_from [] ys) (cond (nat_lt 4096 (length (line ++ b ∷ []))) ((line ++ b ∷ []) ∷ lines_from [] ys) (lines_from (line ++ b ∷ []) ys))) other
    ∙ ap (λ t. cond t ((line ++ b ∷ []) ∷ lines_from [] ys) (lines_from (line ++ b ∷ []) ys)) (lt-ltb 4096 (length (line ++ b ∷ [])) (omega (arith, long_one line b, full)))

pub goes_more : (a b c : Option (List ℕ)) (line longer : List ℕ) → GoesOn a b line → length line < 4096 → TookByte b c line longer None → GoesOn a c longer
goes_more None b c line longer g low t = tt
goes_more (Some xs) None c line longer g low t = absurd g
goes_more (Some xs) (Some ys) None line longer g low t = absurd t.2
goes_more (Some xs) (Some ys) (Some zs) line longer g low t =
    g ∙ ap (lines_from line) t.2 ∙ from_more line t.0 zs t.1 low ∙ ap (λ l. lines_from l zs) (sym t.3)

pub longer_one : (b c : Option (List ℕ)) (line longer : List ℕ) → TookByte b c line longer None → length longer ≡ length line + 1
longer_one b c line longer t = ap (λ (l : List ℕ). length l) t.3 ∙ long_one line t.0

-- a line with its end
ended_line : (a b c : Option (List ℕ)) (line longer : List ℕ) → GoesOn a b line → Consumes b c (10 ∷ []) → longer ≡ line → IsFirstLine a c longer
ended_line None b c line longer g t is = tt
ended_line (Some xs) None c line longer g t is = absurd g
ended_line (Some xs) (Some ys) None line longer g t is = absurd t
ended_line (Some xs) (Some ys) (Some zs) line longer g t is = g ∙ ap (lines_from line) t ∙ ap (λ l. l ∷ lines_from [] zs) (sym is)

no_line : (a b : Option (List ℕ)) (line : List ℕ) → GoesOn a b line → IsAtEnd b → HasNoLine a
no_line None b line g e = tt
no_line (Some xs) None line g e = absurd g
no_line (Some xs) (Some ys) line g e = g ∙ ap (lines_from line) e

pub took_end : (a b c : Option (List ℕ)) (line longer : List ℕ) (x : Came) → GoesOn a b line → TookByte b c line longer (Some x) → LineCame a c longer x
took_end a b c line longer came.Line g t = ended_line a b c line longer g t.0 t.1
took_end a b c line longer came.End g t = no_line a b line g t
took_end a b c line longer came.Fault g t = tt
took_end a b c line longer came.NoMemory g t = tt

pub too_long : (a b c : Option (List ℕ)) (line longer : List ℕ) → GoesOn a b line → length line ≡ 4096 → TookByte b c line longer None → IsFirstLine a c longer
too_long None b c line longer g full t = tt
too_long (Some xs) None c line longer g full t = absurd g
too_long (Some xs) (Some ys) None line longer g full t = absurd t.2
too_long (Some xs) (Some ys) (Some zs) line longer g full t =
    g ∙ ap (lines_from line) t.2 ∙ from_last line t.0 zs t.1 full ∙ ap (λ l. l ∷ lines_from [] zs) (sym t.3)

pub last_took : (a b c : Option (List ℕ)) (line longer : List ℕ) (o : Option Came) (x : Came) → GoesOn a b line → length line ≡ 4096 → TookByte b c line longer o → (o ≡ None → x ≡ came.Line) → ((y : Came) → o ≡ Some y → x ≡ y) → LineCame a c longer x
last_took a b c line longer None x g full t none_ some = subst (LineCame a c longer) (sym (none_ refl)) (too_long a b c line longer g full t)
last_took a b c line longer (Some y) x g full t none_ some = subst (LineCame a c longer) (sym (some y refl)) (took_end a b c line longer y g t)

pub goes_first : (a : Option (List ℕ)) → GoesOn a a []
goes_first None = tt
goes_first (Some xs) = refl
