-- Look-ups in an index of instances, which keeps borrowed names, as look-ups in a list of pairs of names.
use Rattle.std.proofs.Common.{◌≡◌, ℕ, ◌+◌, ◌<◌, length, get_or, take, Bool, true, false, cond, List, [], ◌∷◌, ◌++◌, map, Option, Some, None, option_map, bytes_eq, is_some, not, refl, ap, sym, subst, ◌∙◌, Bor}
use Rattle.std.specs.Map.{lookup}
use Rattle.std.specs.Option.{option_or}
use Rattle.std.proofs.lemmas.List.{map-append, append_assoc, append-nil}
use Rattle.std.proofs.lemmas.Grind.{flat_map-append}
use Rattle.std.specs.List.{flat_map}
use Rattle.std.proofs.lemmas.Bool.{false≢true}
use Rattle.std.proofs.lemmas.Slice.Eq.{bytes_eq-Decides}
use Rattle.indexmap.specs.IndexMap.{insert_entry}
use Rattle.indexmap.proofs.MapLemmas.{insert_entry-absent, absent_from_lookup}
use Rattle.darwin_parser.specs.Tree.{Name}
use Rattle.darwin_types.specs.Check.{SameLookups}
use Rattle.base.proofs.BytesLaws.{lookup-append}
use Rattle.base.proofs.MapLaws.{map-take_more}
use Rattle.base.proofs.OptionLaws.{None-from_map}

abbrev pub Entry : Type 0
Entry = Bor (List ℕ) × Bor (List ℕ)

-- whether a borrowed name is this one
abbrev pub is_name : Name → Bor (List ℕ) → Bool
is_name x k = bytes_eq x k.now

-- the names of an entry
abbrev pub names_in : Entry → Name × Name
names_in e = (e.0.now, e.1.now)

pub lookup-names_in : (es : List Entry) (x : Name) → lookup (bytes_eq x) (map names_in es) ≡ option_map (λ k. k.now) (lookup (is_name x) es)
lookup-names_in [] x = refl
lookup-names_in (e ∷ es) x =
    elim (bytes_eq x e.0.now) as (λ b. cond b (Some e.1.now) (lookup (bytes_eq x) (map names_in es)) ≡ option_map (λ k. k.now) (cond b (Some e.1) (lookup (is_name x) es)))
    [ true ↦ refl | false ↦ lookup-names_in es x ]

-- a name that isn't there goes last
pub names_in-insert_entry : (es : List Entry) (k v : Bor (List ℕ)) → lookup (bytes_eq k.now) (map names_in es) ≡ None → map names_in (insert_entry (λ x y. bytes_eq x.now y.now) es k v) ≡ map names_in es ++ (k.now, v.now) ∷ []
names_in-insert_entry es k v absent =
    let free : lookup (is_name k.now) es ≡ None = None-from_map (λ n. n.now) (lookup (is_name k.now) es) (sym (lookup-names_in es k.now) ∙ absent) in
    rw (insert_entry-absent (λ x y. bytes_eq x.now y.now) k v es (absent_from_lookup (is_name k.now) es free), map-append)

hidden : (b : Bool) (o : Option Name) (k : Name) → (b ≡ true → is_some o ≡ true) → o ≡ option_or o (cond b (Some k) None)
hidden b (Some y) k h = refl
hidden true None k h = absurd (false≢true (h refl))
hidden false None k h = refl

-- a second declaration of a name is never found
pub SameLookups-again : (ps : List (Name × Name)) (x k : Name) → is_some (lookup (bytes_eq x) ps) ≡ true → SameLookups ps (ps ++ (x, k) ∷ [])
SameLookups-again ps x k there y =
    rw lookup-append (hidden (bytes_eq y x) (lookup (bytes_eq y) ps) k (λ e. subst (λ z. is_some (lookup (bytes_eq z) ps) ≡ true) (sym ((bytes_eq-Decides y x).0 e)) there))

-- what is found, as a test on what a call answers of it
pub is_some-found : {A B : Type 0} (f : A → B) (o : Option A) (p : Option B) (n : Bool) → option_map f o ≡ p → is_some o ≡ not n → n ≡ false → is_some p ≡ true
is_some-found f (Some x) p n e s t = subst (λ q. is_some q ≡ true) e refl
is_some-found f None p n e s t = absurd (false≢true (s ∙ ap not t))

pub None-found : {A B : Type 0} (f : A → B) (o : Option A) (p : Option B) (n : Bool) → option_map f o ≡ p → is_some o ≡ not n → n ≡ true → p ≡ None
None-found f (Some x) p n e s t = absurd (false≢true (sym (s ∙ ap not t)))
None-found f None p n e s t = sym e

-- the entries after a declaration, as the list of names
pub SameLookups-new : (es : List Entry) (ns : List Entry) (ps : List (Name × Name)) (k v : Bor (List ℕ)) → map names_in es ≡ ps → lookup (bytes_eq k.now) ps ≡ None → ns ≡ insert_entry (λ x y. bytes_eq x.now y.now) es k v → SameLookups (map names_in ns) (ps ++ (k.now, v.now) ∷ [])
SameLookups-new es ns ps k v view absent added x =
    ap (lookup (bytes_eq x)) (ap (map names_in) added ∙ names_in-insert_entry es k v (ap (lookup (bytes_eq k.now)) view ∙ absent) ∙ ap (λ qs. qs ++ (k.now, v.now) ∷ []) view)

pub SameLookups_append : (xs ys zs : List (Name × Name)) → SameLookups xs ys → SameLookups (xs ++ zs) (ys ++ zs)
SameLookups_append xs ys zs h x =
    lookup-append (bytes_eq x) xs zs ∙ ap (λ o. option_or o (lookup (bytes_eq x) zs)) (h x) ∙ sym (lookup-append (bytes_eq x) ys zs)

-- a list of pairs is found alike, one part after another
pub SameLookups_after : (new old start part more : List (Name × Name)) → SameLookups old (start ++ part) → SameLookups new (old ++ more) → SameLookups new (start ++ (part ++ more))
SameLookups_after new old start part more before step x =
    step x ∙ SameLookups_append old (start ++ part) more before x ∙ ap (lookup (bytes_eq x)) (append_assoc start part more)

-- one element more of a list of which each declares a pair
pub SameLookups_map_step : {A : Type 0} (f : A → Name × Name) (xs : List A) (i : ℕ) (x : A) (new old start : List (Name × Name)) → i < length xs → x ≡ get_or xs i x → SameLookups old (start ++ map f (take i xs)) → SameLookups new (old ++ f x ∷ []) → SameLookups new (start ++ map f (take (i + 1) xs))
SameLookups_map_step f xs i x new old start within is before step =
    subst (λ ps. SameLookups new (start ++ ps)) (sym (map-take_more f xs i x within is)) (SameLookups_after new old start (map f (take i xs)) (f x ∷ []) before step)

-- one element more of a list of which each declares some pairs
pub SameLookups_flat_map_step : {A B : Type 0} (f : B → List (Name × Name)) (g : A → B) (xs : List A) (i : ℕ) (x : A) (new old start : List (Name × Name)) → i < length xs → x ≡ get_or xs i x → SameLookups old (start ++ flat_map f (map g (take i xs))) → SameLookups new (old ++ f (g x)) → SameLookups new (start ++ flat_map f (map g (take (i + 1) xs)))
SameLookups_flat_map_step f g xs i x new old start within is before step =
    let more = ap (flat_map f) (map-take_more g xs i x within is) ∙ flat_map-append f (map g (take i xs)) (g x ∷ []) ∙ ap (λ ps. flat_map f (map g (take i xs)) ++ ps) (append-nil (f (g x))) in
    subst (λ ps. SameLookups new (start ++ ps)) (sym more) (SameLookups_after new old start (flat_map f (map g (take i xs))) (f (g x)) before step)
