-- What a check answers of a part, from what checks of smaller parts answered.
use Rattle.std.proofs.Common.{◌≡◌, ℕ, true, false, List, [], ◌∷◌, ◌++◌, ◌+◌, ◌<◌, ◌≤◌, length, get_or, take, drop, map, Result, ap, sym, subst, ◌∙◌}
use Rattle.std.specs.List.{Contains, filter, flat_map}
use Rattle.std.proofs.lemmas.List.{drop_more, drop_all, append-nil}
use Rattle.std.proofs.lemmas.List.Elements.{Contains-append_right}
use Rattle.base.proofs.AnswerLaws.{Answers-weaker}
use Rattle.darwin_parser.specs.Tree.{Name}
use Rattle.darwin_types.specs.Scope.{has}
use Rattle.darwin_types.specs.declared.error.TypeError.{TypeError}
use Rattle.darwin_types.specs.Faults.{is_repeated}
use Rattle.darwin_types.specs.Check.{Judges, repeat_faults}
use Rattle.darwin_types.proofs.Repeats.{is_repeated-there, is_repeated-push}
use Rattle.base.proofs.ContainsLaws.{Contains-filter, Contains-here, Contains-map, Contains-one}
use Rattle.base.proofs.MapLaws.{filter-none, map-take_more, map_parted}

-- a refusal that names a fault of a part
pub Judges-one : {T : Type 0} (fs : List TypeError) (f : TypeError) (r : Result T TypeError) → Contains fs f → Judges (f ∷ []) r → Judges fs r
Judges-one fs f r there = Answers-weaker _ r (λ _ h. cc) (λ e h. subst (Contains fs) (sym (Contains-one f e h)) there)

pub repeat_faults-none : (g : Name → TypeError) (ns : List Name) → ((x : Name) → is_repeated ns x ≡ false) → repeat_faults g ns ≡ []
repeat_faults-none g ns h = ap (map g) (filter-none (is_repeated ns) ns h)

pub repeat_faults-there : (g : Name → TypeError) (ns : List Name) (x : Name) → Contains ns x → is_repeated ns x ≡ true → Contains (repeat_faults g ns) (g x)
repeat_faults-there g ns x there twice = Contains-map g (filter (is_repeated ns) ns) x (Contains-filter (is_repeated ns) ns x there twice)

-- an element of a list whose name stands before it
pub repeat_faults-at : {A : Type 0} (g : Name → TypeError) (f : A → Name) (xs : List A) (i : ℕ) (x : A) → i < length xs → x ≡ get_or xs i x → has (map f (take i xs)) (f x) ≡ true → Contains (repeat_faults g (map f xs)) (g (f x))
repeat_faults-at g f xs i x within is before =
    let parted = map_parted f xs i x within is in
    repeat_faults-there g (map f xs) (f x) (subst (λ ns. Contains ns (f x)) (sym parted) (Contains-append_right (map f (take i xs)) (f x ∷ map f (drop (i + 1) xs)) (f x) (Contains-here (f x) (map f (drop (i + 1) xs))))) (subst (λ ns. is_repeated ns (f x) ≡ true) (sym parted) (is_repeated-there (map f (take i xs)) (map f (drop (i + 1) xs)) (f x) before))

-- an element of a list whose name doesn't stand before it
pub is_repeated-at : {A : Type 0} (f : A → Name) (xs : List A) (i : ℕ) (x : A) → i < length xs → x ≡ get_or xs i x → ((y : Name) → is_repeated (map f (take i xs)) y ≡ false) → has (map f (take i xs)) (f x) ≡ false → (y : Name) → is_repeated (map f (take (i + 1) xs)) y ≡ false
is_repeated-at f xs i x within is once before y =
    subst (λ ns. is_repeated ns y ≡ false) (sym (map-take_more f xs i x within is)) (is_repeated-push (map f (take i xs)) (f x) once before y)

-- the part that a loop over a list has reached, and what is left of it
pub flat_map-drop : {A B : Type 0} (f : B → List TypeError) (g : A → B) (xs : List A) (i : ℕ) (x : A) → i < length xs → x ≡ get_or xs i x → flat_map f (map g (drop i xs)) ≡ f (g x) ++ flat_map f (map g (drop (i + 1) xs))
flat_map-drop f g xs i x within is =
    ap (λ ys. flat_map f (map g ys)) (drop_more xs i x within) ∙ ap (λ y. f (g y) ++ flat_map f (map g (drop (i + 1) xs))) (sym is)

-- a loop over a list that went to its end
pub flat_map-done : {A B : Type 0} (f : B → List TypeError) (g : A → B) (xs : List A) (i : ℕ) (whole : List TypeError) → length xs ≤ i → whole ≡ flat_map f (map g (drop i xs)) → whole ≡ []
flat_map-done f g xs i whole past rest = rest ∙ ap (λ ys. flat_map f (map g ys)) (drop_all i xs past)

-- two parts without a fault
pub none-append : (fs gs : List TypeError) → fs ≡ [] → gs ≡ [] → fs ++ gs ≡ []
none-append fs gs p q = ap (λ xs. xs ++ gs) p ∙ q

-- a part is what it was with nothing after it
pub Judges_alone : {T : Type 0} (fs : List TypeError) (r : Result T TypeError) → Judges fs r → Judges (fs ++ []) r
Judges_alone fs r h = subst (λ gs. Judges gs r) (sym (append-nil fs)) h

-- the last of two parts, where the first has no fault
pub Judges_after : {T : Type 0} (fs gs : List TypeError) (r : Result T TypeError) → fs ≡ [] → Judges gs r → Judges (fs ++ gs) r
Judges_after fs gs r none h = subst (λ hs. Judges (hs ++ gs) r) (sym none) h
