-- A line of an event file has one form at most, and means what its form says.
use Rattle.std.proofs.Common.{◌≡◌, ◌⊎◌, inl, inr, ℕ, Bool, true, false, ◌&&◌, if◌then◌else◌, List, [], ◌∷◌, ◌++◌, map, Option, Some, None, option_map, Result, Ok, Err, codes, bytes_eq, refl, sym, ap, append-nil, ◌∙◌}
use Rattle.std.specs.Prelude.{◌↔◌}
use Rattle.std.specs.List.{list_all}
use Rattle.std.proofs.lemmas.List.Folds.{list_all-append}
use Rattle.std.proofs.Math.Bool.{and-true}
use Rattle.base.proofs.BytesLaws.{same_bytes}
use Rattle.base.proofs.FindLaws.{find_passes}
use Rattle.config_graph.specs.declared.kind.Kind.{Kind}
use Rattle.config_graph.specs.Kinds.{row, kind_named, kinds}
use Rattle.config_graph.proofs.KindLaws.{kind_named-name}
use Rattle.quiesce_core.specs.declared.event.Event.{Event}
use Rattle.quiesce_core.specs.declared.event.Event.TheVariants as events
use Rattle.change_script.specs.declared.verbs.OwnerStep.TheVariants as owner
use Rattle.change_script.specs.declared.verbs.TargetStep.TheVariants as target
use Rattle.change_script.specs.declared.verbs.Single.TheVariants as singles
use Rattle.change_script.specs.declared.verbs.EventVerb.{EventVerb}
use Rattle.change_script.specs.declared.verbs.EventVerb.TheVariants as verbs
use Rattle.change_script.specs.declared.error.LineFault.{LineFault}
use Rattle.change_script.specs.declared.error.LineFault.TheVariants.{Bad, Big}
use Rattle.change_script.specs.declared.event_lines.EventLine.{EventLine}
use Rattle.change_script.specs.declared.event_lines.EventLine.TheVariants as statements
use Rattle.change_script.specs.declared.event_lines.Triple.{Triple}
use Rattle.change_script.specs.Arguments.{more_arguments, arguments, at_end}
use Rattle.change_script.specs.EventLines.{event_verb_bytes, event_verb_named, event_verbs, three_numbers, triple_in, single_in, owner_event, target_event, single_event, link_event, event_line, source, optional_number, MakeWords, make_from, make_words, make, make_of_words, make_of_kind, start, start_of_words, start_with, meaning_of, meaning_of_named, meaning}
use Rattle.change_script.specs.Faults.{both, with_value}
use Rattle.change_script.specs.Numbers.{integer, integer_fits, is_integer, is_number, number, number_fits, number_in}
use Rattle.change_script.specs.Paths.{is_name, is_path, path_fits, path_in}
use Rattle.change_script.specs.ScriptForms.{argument_tokens}
use Rattle.change_script.specs.Tokens.{ScriptToken, word, opened, closed, comma, tokens}
use Rattle.change_script_laws.specs.EventForms as forms
use Rattle.change_script_laws.specs.EventForms.{Form, form_tokens, source_tokens, kind_tokens, optional, is_right, keeps_limits, statement_of, HasEventForm, MeansEvent, IsTooBigEvent}

-- ---- a value whose words are right or not, and keep their limits or not

abbrev checked : {A : Type 0} → Bool → Bool → A → Result A LineFault
checked right fits value = if right then (if fits then Ok value else Err Big) else Err Bad

both_checked : {A B : Type 0} (r f s g : Bool) (a : A) (b : B) → both (checked r f a) (checked s g b) ≡ checked (r && s) (f && g) (a, b)
both_checked true true true true a b = refl
both_checked true true true false a b = refl
both_checked true true false g a b = refl
both_checked true false true true a b = refl
both_checked true false true false a b = refl
both_checked true false false g a b = refl
both_checked false f s g a b = refl

with_checked : {A B : Type 0} (h : A → B) (r f : Bool) (a : A) → with_value h (checked r f a) ≡ checked r f (h a)
with_checked h true true a = refl
with_checked h true false a = refl
with_checked h false f a = refl

swapped : (a p c : Bool) → a && (p && c) ≡ p && (a && c)
swapped true true c = refl
swapped true false c = refl
swapped false true c = refl
swapped false false c = refl

-- ---- the forms are read

one_read : (bytes : List ℕ) → number_in bytes ≡ checked (list_all is_number (bytes ∷ [])) (list_all number_fits (bytes ∷ [])) (number bytes)
one_read bytes =
    ap (λ r. checked r (number_fits bytes) (number bytes)) (sym (and-true (is_number bytes)))
    ∙ ap (λ f. checked (is_number bytes && true) f (number bytes)) (sym (and-true (number_fits bytes)))

abbrev triple : List ℕ → List ℕ → List ℕ → Triple
triple a b c = record { first = number a; second = number b; third = number c }

three_read : (a b c : List ℕ) → three_numbers a b c ≡ checked (list_all is_number (a ∷ b ∷ c ∷ [])) (list_all number_fits (a ∷ b ∷ c ∷ [])) (triple a b c)
three_read a b c =
    let pair = both_checked (is_number b) (number_fits b) (list_all is_number (c ∷ [])) (list_all number_fits (c ∷ [])) (number b) (number c) in
    let all = both_checked (is_number a) (number_fits a) (list_all is_number (b ∷ c ∷ [])) (list_all number_fits (b ∷ c ∷ [])) (number a) (number b, number c) in
    let of : ℕ × (ℕ × ℕ) → Triple = λ numbers. record { first = numbers.0; second = numbers.1.0; third = numbers.1.1 } in
    ap (λ r. with_value of (both (number_in a) (both (number_in b) r))) (one_read c) ∙ ap (λ r. with_value of (both (number_in a) r)) pair ∙ ap (with_value of) all
    ∙ with_checked of (list_all is_number (a ∷ b ∷ c ∷ [])) (list_all number_fits (a ∷ b ∷ c ∷ [])) (number a, (number b, number c))

three_means : (event : Triple → Event) (a b c : List ℕ)
    → event_line event (three_numbers a b c) ≡ checked (list_all is_number (a ∷ b ∷ c ∷ [])) (list_all number_fits (a ∷ b ∷ c ∷ [])) (statements.Event (event (triple a b c)))
three_means event a b c =
    ap (event_line event) (three_read a b c)
    ∙ with_checked (λ t. statements.Event (event t)) (list_all is_number (a ∷ b ∷ c ∷ [])) (list_all number_fits (a ∷ b ∷ c ∷ [])) (triple a b c)

one_means : (event : ℕ → Event) (a : List ℕ) → event_line event (number_in a) ≡ checked (list_all is_number (a ∷ [])) (list_all number_fits (a ∷ [])) (statements.Event (event (number a)))
one_means event a = ap (event_line event) (one_read a) ∙ with_checked (λ n. statements.Event (event n)) (list_all is_number (a ∷ [])) (list_all number_fits (a ∷ [])) (number a)

optional_read : (o : Option (List ℕ)) → optional_number o ≡ checked (list_all is_number (optional o)) (list_all number_fits (optional o)) (option_map number o)
optional_read None = refl
optional_read (Some bytes) = ap (with_value Some) (one_read bytes) ∙ with_checked Some (list_all is_number (bytes ∷ [])) (list_all number_fits (bytes ∷ [])) (number bytes)

-- ---- a made node

abbrev Parts : Type 0
Parts = ℕ × (Unit {0} × (Option ℕ × Option ℕ))

abbrev made : List ℕ → Kind → Parts → Event
made path kind parts = events.Make parts.0 (record { path = path; kind = kind; arg = parts.1.1.0 }) parts.1.1.1

abbrev words_for : List ℕ → List ℕ → List ℕ → Option (List ℕ) → Option (List ℕ) → MakeWords
words_for slot path kind arg from = record { slot = slot; path = path; kind = kind; arg = arg; from = from }

words_found : (slot path kind : List ℕ) (arg from : Option (List ℕ))
    → make_words (word slot ∷ word path ∷ word kind ∷ kind_tokens arg (source_tokens from)) ≡ Some (words_for slot path kind arg from)
words_found slot path kind None None = refl
words_found slot path kind None (Some f) = refl
words_found slot path kind (Some a) None = refl
words_found slot path kind (Some a) (Some f) = refl

-- the order in which words are looked at means nothing
in_order : (test : List ℕ → Bool) (here : Bool) (slot : List ℕ) (arg from : Option (List ℕ))
    → test slot && (here && (list_all test (optional arg) && list_all test (optional from))) ≡ here && list_all test (slot ∷ (optional arg ++ optional from))
in_order test here slot arg from =
    swapped (test slot) here (list_all test (optional arg) && list_all test (optional from))
    ∙ ap (λ c. here && (test slot && c)) (sym (list_all-append test (optional arg) (optional from)))

made_read : (slot path name : List ℕ) (kind : Kind) (arg from : Option (List ℕ))
    → make_of_kind (words_for slot path name arg from) (Some kind)
    ≡ checked (is_path path && list_all is_number (slot ∷ (optional arg ++ optional from))) (path_fits path && list_all number_fits (slot ∷ (optional arg ++ optional from)))
    (events.Make (number slot) (record { path = path; kind = kind; arg = option_map number arg }) (option_map number from))
made_read slot path name kind arg from =
    let ra = list_all is_number (optional arg) in
    let fa = list_all number_fits (optional arg) in
    let rf = list_all is_number (optional from) in
    let ff = list_all number_fits (optional from) in
    let a = option_map number arg in
    let f = option_map number from in
    let s = number slot in
    let of : Parts → Event = made path kind in
    ap (λ x. with_value of (both (number_in slot) (both (path_in path) (both x (optional_number from))))) (optional_read arg)
    ∙ ap (λ x. with_value of (both (number_in slot) (both (path_in path) (both (checked ra fa a) x)))) (optional_read from)
    ∙ ap (λ x. with_value of (both (number_in slot) (both (path_in path) x))) (both_checked ra fa rf ff a f)
    ∙ ap (λ x. with_value of (both (number_in slot) x)) (both_checked (is_path path) (path_fits path) (ra && rf) (fa && ff) tt (a, f))
    ∙ ap (with_value of) (both_checked (is_number slot) (number_fits slot) (is_path path && (ra && rf)) (path_fits path && (fa && ff)) s (tt, (a, f)))
    ∙ with_checked of (is_number slot && (is_path path && (ra && rf))) (number_fits slot && (path_fits path && (fa && ff))) (s, (tt, (a, f)))
    ∙ ap (λ r. checked r (number_fits slot && (path_fits path && (fa && ff))) (of (s, (tt, (a, f))))) (in_order is_number (is_path path) slot arg from)
    ∙ ap (λ l. checked (is_path path && list_all is_number (slot ∷ (optional arg ++ optional from))) l (of (s, (tt, (a, f))))) (in_order number_fits (path_fits path) slot arg from)

-- ---- a start

more_arguments_read : (first : List ℕ) (more : List (List ℕ)) → more_arguments (argument_tokens (first ∷ more)) ≡ Some (first ∷ more, [])
more_arguments_read first [] = refl
more_arguments_read first (next ∷ more) = ap (option_map (λ (f : List (List ℕ) × List ScriptToken). (first ∷ f.0, f.1))) (more_arguments_read next more)

arguments_read : (args : List (List ℕ)) → arguments (argument_tokens args) ≡ Some (args, [])
arguments_read [] = refl
arguments_read (first ∷ []) = refl
arguments_read (first ∷ next ∷ more) = more_arguments_read first (next ∷ more)

started : (name : List ℕ) (args : List (List ℕ)) (right fits : Bool)
    → (if right then start_with name (if fits then Some (map integer args) else None) else Err Bad) ≡ checked right fits (statements.Start name (map integer args))
started name args true true = refl
started name args true false = refl
started name args false fits = refl

-- what a line of a form means
abbrev judged : Form → Result EventLine LineFault
judged form = checked (is_right form) (keeps_limits form) (statement_of form)

start_read : (name : List ℕ) (args : List (List ℕ)) → start (word name ∷ opened ∷ argument_tokens args) ≡ judged (forms.start name args)
start_read name args =
    let right = is_name name && list_all is_integer args in
    let fits = list_all integer_fits args in
    let value = statements.Start name (map integer args) in
    ap (λ o. start_of_words name (at_end o)) (arguments_read args) ∙ started name args right fits
    ∙ ap (λ r. checked r fits value) (sym (and-true right)) ∙ ap (λ f. checked (right && true) f value) (sym (and-true fits))

make_read : (slot path : List ℕ) (kind : Kind) (arg from : Option (List ℕ))
    → event_line (λ event. event) (make (word slot ∷ word path ∷ word (row kind).name ∷ kind_tokens arg (source_tokens from))) ≡ judged (forms.make slot path kind arg from)
make_read slot path kind arg from =
    let form = forms.make slot path kind arg from in
    let event = events.Make (number slot) (record { path = path; kind = kind; arg = option_map number arg }) (option_map number from) in
    ap (λ words. event_line (λ event. event) (make_of_words words)) (words_found slot path (row kind).name arg from)
    ∙ ap (λ k. event_line (λ event. event) (make_of_kind (words_for slot path (row kind).name arg from) k)) (kind_named-name kind)
    ∙ ap (event_line (λ event. event)) (made_read slot path (row kind).name kind arg from)
    ∙ with_checked (λ e. statements.Event e) (is_right form) (keeps_limits form) event

pub form_read : (form : Form) → meaning (form_tokens form) ≡ judged form
form_read (forms.start name args) = start_read name args
form_read (forms.begin a b c) = three_means (owner_event owner.Begin) a b c
form_read (forms.call a b c) = three_means (owner_event owner.Call) a b c
form_read (forms.take a b c) = three_means (target_event target.Take) a b c
form_read (forms.more a b c) = three_means (target_event target.More) a b c
form_read (forms.ask a b c) = three_means (owner_event owner.Ask) a b c
form_read (forms.hear a b c) = three_means (target_event target.Hear) a b c
form_read (forms.give a b c) = three_means (target_event target.Give) a b c
form_read (forms.end a b c) = three_means (owner_event owner.End) a b c
form_read (forms.miss a) = one_means (single_event singles.Miss) a
form_read (forms.close a) = one_means (single_event singles.Close) a
form_read (forms.reopen a) = one_means (single_event singles.Reopen) a
form_read (forms.make slot path kind arg from) = make_read slot path kind arg from
form_read (forms.link a b c) = three_means link_event a b c
form_read (forms.unlink a) = one_means (single_event singles.Unlink) a
form_read (forms.remove a) = one_means (single_event singles.Remove) a

-- ---- a line that isn't bad has a form

abbrev Formed : List ScriptToken → Type 0
Formed ts = (form : Form) × (ts ≡ form_tokens form)

triple_found : (rest : List ScriptToken) → (triple_in rest ≡ Err Bad) ⊎ ((a : List ℕ) × (b : List ℕ) × (c : List ℕ) × (rest ≡ word a ∷ word b ∷ word c ∷ []))
triple_found (word a ∷ word b ∷ word c ∷ []) = inr (a, b, c, refl)
triple_found _ = inl refl

single_found : (rest : List ScriptToken) → (single_in rest ≡ Err Bad) ⊎ ((a : List ℕ) × (rest ≡ word a ∷ []))
single_found (word a ∷ []) = inr (a, refl)
single_found _ = inl refl

-- lines of three numbers, and of one, by what a form of them is
triple_formed : (verb : List ℕ) (event : Triple → Event) (form : List ℕ → List ℕ → List ℕ → Form) → ((a b c : List ℕ) → forms.with_three_words verb a b c ≡ form_tokens (form a b c))
    → (rest : List ScriptToken) → (event_line event (triple_in rest) ≡ Err Bad) ⊎ Formed (word verb ∷ rest)
triple_formed verb event form is rest =
    elim (triple_found rest) [
      | inl bad ↦ inl (ap (event_line event) bad)
      | inr t ↦ inr (form t.0 t.1 t.2, ap (λ ts. word verb ∷ ts) t.3 ∙ is t.0 t.1 t.2)
    ]

single_formed : (verb : List ℕ) (event : ℕ → Event) (form : List ℕ → Form) → ((a : List ℕ) → forms.with_one_word verb a ≡ form_tokens (form a))
    → (rest : List ScriptToken) → (event_line event (single_in rest) ≡ Err Bad) ⊎ Formed (word verb ∷ rest)
single_formed verb event form is rest =
    elim (single_found rest) [
      | inl bad ↦ inl (ap (event_line event) bad)
      | inr t ↦ inr (form t.0, ap (λ ts. word verb ∷ ts) t.1 ∙ is t.0)
    ]

-- an option that gives nothing, or a value with what is so then
abbrev Sought : {A : Type 0} → Option A → (A → Type 0) → Type 0
Sought {A} o P = (o ≡ None) ⊎ ((a : A) × (o ≡ Some a) × P a)

tested : {A : Type 0} (P : A → Type 0) (test : Bool) (a : A) → (test ≡ true → P a) → Sought (if test then Some a else None) P
tested P true a h = inr (a, refl, h refl)
tested P false a h = inl refl

source_found : (ts : List ScriptToken) → Sought (source ts) (λ from. ts ≡ source_tokens from)
source_found [] = inr (None, refl, refl)
source_found (word preposition ∷ word slot ∷ []) =
    tested (λ from. word preposition ∷ word slot ∷ [] ≡ source_tokens from) (bytes_eq preposition (codes "from")) (Some slot)
    (λ holds. ap (λ w. word w ∷ word slot ∷ []) (same_bytes preposition (codes "from") holds))
source_found _ = inl refl

record Made (ts : List ScriptToken) : Type 0 where
  slot : List ℕ
  path : List ℕ
  kind : List ℕ
  arg : Option (List ℕ)
  from : Option (List ℕ)
  are : ts ≡ word slot ∷ word path ∷ word kind ∷ kind_tokens arg (source_tokens from)

kind_found : (slot path kind : List ℕ) (arg : Option (List ℕ)) (rest : List ScriptToken)
    → (make_from slot path kind arg rest ≡ None) ⊎ Made (word slot ∷ word path ∷ word kind ∷ kind_tokens arg rest)
kind_found slot path kind arg rest =
    elim (source_found rest) [
      | inl none ↦ inl (ap (option_map (λ from. words_for slot path kind arg from)) none)
      | inr some ↦ inr (record { slot = slot; path = path; kind = kind; arg = arg; from = some.0; are = ap (λ ts. word slot ∷ word path ∷ word kind ∷ kind_tokens arg ts) some.2 })
    ]

words_made : (ts : List ScriptToken) → (make_words ts ≡ None) ⊎ Made ts
words_made (word slot ∷ word path ∷ word kind ∷ opened ∷ closed ∷ rest) = kind_found slot path kind None rest
words_made (word slot ∷ word path ∷ word kind ∷ opened ∷ word arg ∷ closed ∷ rest) = kind_found slot path kind (Some arg) rest
words_made _ = inl refl

kind_bytes : (name : List ℕ) (kind : Kind) → kind_named name ≡ Some kind → name ≡ (row kind).name
kind_bytes name kind is = sym (same_bytes (row kind).name name (find_passes (λ k. bytes_eq (row k).name name) kinds kind is))

make_formed : (rest : List ScriptToken) → (event_line (λ event. event) (make rest) ≡ Err Bad) ⊎ Formed (word (codes "make") ∷ rest)
make_formed rest =
    elim (words_made rest) [
      | inl none ↦ inl (ap (λ words. event_line (λ event. event) (make_of_words words)) none)
      | inr m ↦ by m (kind_named m.kind) refl
    ]
  where
    by : (m : Made rest) (o : Option Kind) → kind_named m.kind ≡ o → (event_line (λ event. event) (make rest) ≡ Err Bad) ⊎ Formed (word (codes "make") ∷ rest)
    by m None is =
        inl (ap (λ ts. event_line (λ event. event) (make ts)) m.are ∙ ap (λ words. event_line (λ event. event) (make_of_words words)) (words_found m.slot m.path m.kind m.arg m.from)
        ∙ ap (λ k. event_line (λ event. event) (make_of_kind (words_for m.slot m.path m.kind m.arg m.from) k)) is)
    by m (Some kind) is =
        inr (forms.make m.slot m.path kind m.arg m.from, ap (λ ts. word (codes "make") ∷ ts) m.are ∙ ap (λ k. word (codes "make") ∷ word m.slot ∷ word m.path ∷ word k ∷ kind_tokens m.arg (source_tokens m.from)) (kind_bytes m.kind kind is))

more_arguments_found : (ts : List ScriptToken) → Sought (more_arguments ts) (λ found. (first : List ℕ) × (more : List (List ℕ)) × (found.0 ≡ first ∷ more) × (ts ≡ argument_tokens (first ∷ more) ++ found.1))
more_arguments_found (word first ∷ closed ∷ rest) = inr ((first ∷ [], rest), refl, (first, [], refl, refl))
more_arguments_found (word first ∷ comma ∷ rest) =
    elim (more_arguments_found rest) [
      | inl none ↦ inl (ap (option_map (λ (f : List (List ℕ) × List ScriptToken). (first ∷ f.0, f.1))) none)
      | inr some ↦
          let inner : List (List ℕ) × List ScriptToken = some.0 in
          let is = some.2 in
          inr (
            (first ∷ inner.0, inner.1),
            ap (option_map (λ (f : List (List ℕ) × List ScriptToken). (first ∷ f.0, f.1))) some.1,
            (first, is.0 ∷ is.1, ap (λ args. first ∷ args) is.2, ap (λ ts. word first ∷ comma ∷ ts) is.3),
          )
    ]
more_arguments_found _ = inl refl

arguments_found : (ts : List ScriptToken) → (at_end (arguments ts) ≡ None) ⊎ ((args : List (List ℕ)) × (ts ≡ argument_tokens args))
arguments_found (closed ∷ []) = inr ([], refl)
arguments_found (closed ∷ t ∷ ts) = inl refl
arguments_found (word first ∷ rest) = elim (more_arguments_found (word first ∷ rest)) [ inl none ↦ inl (ap at_end none) | inr some ↦ by some.0 some.1 some.2 ]
  where
    by :
        (found : List (List ℕ) × List ScriptToken) → more_arguments (word first ∷ rest) ≡ Some found
        → ((head : List ℕ) × (more : List (List ℕ)) × (found.0 ≡ head ∷ more) × (word first ∷ rest ≡ argument_tokens (head ∷ more) ++ found.1))
        → (at_end (more_arguments (word first ∷ rest)) ≡ None) ⊎ ((args : List (List ℕ)) × (word first ∷ rest ≡ argument_tokens args))
    by (args, []) is are = inr (are.0 ∷ are.1, are.3 ∙ append-nil (argument_tokens (are.0 ∷ are.1)))
    by (args, t ∷ ts) is are = inl (ap at_end is)
arguments_found _ = inl refl

start_formed : (rest : List ScriptToken) → (start rest ≡ Err Bad) ⊎ Formed (word (codes "start") ∷ rest)
start_formed (word name ∷ opened ∷ rest) =
    elim (arguments_found rest) [
      | inl none ↦ inl (ap (start_of_words name) none)
      | inr some ↦ inr (forms.start name some.0, ap (λ ts. word (codes "start") ∷ word name ∷ opened ∷ ts) some.1)
    ]
start_formed _ = inl refl

verb_formed : (verb : EventVerb) (rest : List ScriptToken) → (meaning_of verb rest ≡ Err Bad) ⊎ Formed (word (event_verb_bytes verb) ∷ rest)
verb_formed verbs.Start rest = start_formed rest
verb_formed (verbs.Owner owner.Begin) rest = triple_formed (codes "begin") (owner_event owner.Begin) (λ a b c. forms.begin a b c) (λ a b c. refl) rest
verb_formed (verbs.Owner owner.Call) rest = triple_formed (codes "call") (owner_event owner.Call) (λ a b c. forms.call a b c) (λ a b c. refl) rest
verb_formed (verbs.Owner owner.Ask) rest = triple_formed (codes "ask") (owner_event owner.Ask) (λ a b c. forms.ask a b c) (λ a b c. refl) rest
verb_formed (verbs.Owner owner.End) rest = triple_formed (codes "end") (owner_event owner.End) (λ a b c. forms.end a b c) (λ a b c. refl) rest
verb_formed (verbs.Target target.Take) rest = triple_formed (codes "take") (target_event target.Take) (λ a b c. forms.take a b c) (λ a b c. refl) rest
verb_formed (verbs.Target target.More) rest = triple_formed (codes "more") (target_event target.More) (λ a b c. forms.more a b c) (λ a b c. refl) rest
verb_formed (verbs.Target target.Hear) rest = triple_formed (codes "hear") (target_event target.Hear) (λ a b c. forms.hear a b c) (λ a b c. refl) rest
verb_formed (verbs.Target target.Give) rest = triple_formed (codes "give") (target_event target.Give) (λ a b c. forms.give a b c) (λ a b c. refl) rest
verb_formed (verbs.Single singles.Miss) rest = single_formed (codes "miss") (single_event singles.Miss) (λ a. forms.miss a) (λ a. refl) rest
verb_formed (verbs.Single singles.Close) rest = single_formed (codes "close") (single_event singles.Close) (λ a. forms.close a) (λ a. refl) rest
verb_formed (verbs.Single singles.Reopen) rest = single_formed (codes "reopen") (single_event singles.Reopen) (λ a. forms.reopen a) (λ a. refl) rest
verb_formed (verbs.Single singles.Unlink) rest = single_formed (codes "unlink") (single_event singles.Unlink) (λ a. forms.unlink a) (λ a. refl) rest
verb_formed (verbs.Single singles.Remove) rest = single_formed (codes "remove") (single_event singles.Remove) (λ a. forms.remove a) (λ a. refl) rest
verb_formed verbs.Link rest = triple_formed (codes "link") link_event (λ a b c. forms.link a b c) (λ a b c. refl) rest
verb_formed verbs.Make rest = make_formed rest

line_formed : (ts : List ScriptToken) → (meaning ts ≡ Err Bad) ⊎ Formed ts
line_formed (word name ∷ rest) = by (event_verb_named name) refl
  where
    by : (o : Option EventVerb) → event_verb_named name ≡ o → (meaning_of_named (event_verb_named name) rest ≡ Err Bad) ⊎ Formed (word name ∷ rest)
    by None is = inl (ap (λ o. meaning_of_named o rest) is)
    by (Some verb) is =
        let named : name ≡ event_verb_bytes verb = sym (same_bytes (event_verb_bytes verb) name (find_passes (λ v. bytes_eq (event_verb_bytes v) name) event_verbs verb is)) in
        elim (verb_formed verb rest) [
          | inl bad ↦ inl (ap (λ o. meaning_of_named o rest) is ∙ bad)
          | inr f ↦ inr (f.0, ap (λ n. word n ∷ rest) named ∙ f.1)
        ]
line_formed _ = inl refl

-- ---- tokens are those of one form

abbrev start_form : List ℕ → Option (List (List ℕ)) → Option Form
start_form name args = option_map (λ words. forms.start name words) args

abbrev make_form : Option MakeWords → Option Form
make_form None = None
make_form (Some words) = option_map (λ kind. forms.make words.slot words.path kind words.arg words.from) (kind_named words.kind)

abbrev triple_form : (List ℕ → List ℕ → List ℕ → Form) → List ScriptToken → Option Form
triple_form form (word a ∷ word b ∷ word c ∷ []) = Some (form a b c)
triple_form form _ = None

abbrev single_form : (List ℕ → Form) → List ScriptToken → Option Form
single_form form (word a ∷ []) = Some (form a)
single_form form _ = None

abbrev form_behind : Option EventVerb → List ScriptToken → Option Form
form_behind None rest = None
form_behind (Some verbs.Start) (word name ∷ opened ∷ rest) = start_form name (at_end (arguments rest))
form_behind (Some verbs.Start) rest = None
form_behind (Some (verbs.Owner owner.Begin)) rest = triple_form (λ a b c. forms.begin a b c) rest
form_behind (Some (verbs.Owner owner.Call)) rest = triple_form (λ a b c. forms.call a b c) rest
form_behind (Some (verbs.Owner owner.Ask)) rest = triple_form (λ a b c. forms.ask a b c) rest
form_behind (Some (verbs.Owner owner.End)) rest = triple_form (λ a b c. forms.end a b c) rest
form_behind (Some (verbs.Target target.Take)) rest = triple_form (λ a b c. forms.take a b c) rest
form_behind (Some (verbs.Target target.More)) rest = triple_form (λ a b c. forms.more a b c) rest
form_behind (Some (verbs.Target target.Hear)) rest = triple_form (λ a b c. forms.hear a b c) rest
form_behind (Some (verbs.Target target.Give)) rest = triple_form (λ a b c. forms.give a b c) rest
form_behind (Some (verbs.Single singles.Miss)) rest = single_form (λ a. forms.miss a) rest
form_behind (Some (verbs.Single singles.Close)) rest = single_form (λ a. forms.close a) rest
form_behind (Some (verbs.Single singles.Reopen)) rest = single_form (λ a. forms.reopen a) rest
form_behind (Some (verbs.Single singles.Unlink)) rest = single_form (λ a. forms.unlink a) rest
form_behind (Some (verbs.Single singles.Remove)) rest = single_form (λ a. forms.remove a) rest
form_behind (Some verbs.Link) rest = triple_form (λ a b c. forms.link a b c) rest
form_behind (Some verbs.Make) rest = make_form (make_words rest)

abbrev form_in : List ScriptToken → Option Form
form_in (word name ∷ rest) = form_behind (event_verb_named name) rest
form_in _ = None

form_found : (form : Form) → form_in (form_tokens form) ≡ Some form
form_found (forms.start name args) = ap (λ o. start_form name (at_end o)) (arguments_read args)
form_found (forms.begin a b c) = refl
form_found (forms.call a b c) = refl
form_found (forms.take a b c) = refl
form_found (forms.more a b c) = refl
form_found (forms.ask a b c) = refl
form_found (forms.hear a b c) = refl
form_found (forms.give a b c) = refl
form_found (forms.end a b c) = refl
form_found (forms.miss a) = refl
form_found (forms.close a) = refl
form_found (forms.reopen a) = refl
form_found (forms.make slot path kind arg from) =
    ap make_form (words_found slot path (row kind).name arg from) ∙ ap (option_map (λ k. forms.make slot path k arg from)) (kind_named-name kind)
form_found (forms.link a b c) = refl
form_found (forms.unlink a) = refl
form_found (forms.remove a) = refl

pub one_form : (line : List ℕ) (form other : Form) → HasEventForm line form → HasEventForm line other → form ≡ other
one_form line form other has have =
    let e : Some form ≡ Some other = sym (form_found form) ∙ ap form_in (sym has.0 ∙ have.0) ∙ form_found other in
    cc

-- ---- the law, both ways

checked_ok : {A : Type 0} (r f : Bool) (a b : A) → checked r f a ≡ Ok b → (r ≡ true) × (f ≡ true) × (b ≡ a)
checked_ok true true a b e = (refl, refl, let same : a ≡ b = cc in sym same)
checked_ok true false a b e = cc
checked_ok false f a b e = cc

checked_big : {A : Type 0} (r f : Bool) (a : A) → checked r f a ≡ Err Big → (r ≡ true) × (f ≡ false)
checked_big true true a e = cc
checked_big true false a e = (refl, refl)
checked_big false f a e = cc

checked_bad : {A : Type 0} (r f : Bool) (a : A) → checked r f a ≡ Err Bad → r ≡ true → ⊥
checked_bad true true a e right = cc
checked_bad true false a e right = cc
checked_bad false f a e right = cc

not_right : {A : Type 0} (r f : Bool) (a : A) → (r ≡ true → ⊥) → checked r f a ≡ Err Bad
not_right true f a never = absurd (never refl)
not_right false f a never = refl

right_is : {A : Type 0} (r f : Bool) (a : A) → r ≡ true → f ≡ true → checked r f a ≡ Ok a
right_is r f a right fits = ap (λ x. checked x f a) right ∙ ap (λ x. checked true x a) fits

big_is : {A : Type 0} (r f : Bool) (a : A) → r ≡ true → f ≡ false → checked r f a ≡ Err Big
big_is r f a right big = ap (λ x. checked x f a) right ∙ ap (λ x. checked true x a) big

-- what the tokens of a form mean
formed : (ts : List ScriptToken) (form : Form) → ts ≡ form_tokens form → meaning ts ≡ judged form
formed ts form is = ap meaning is ∙ form_read form

pub means : (line : List ℕ) (statement : EventLine) → (meaning (tokens line) ≡ Ok statement) ↔ MeansEvent line statement
means line statement = (only, always)
  where
    only : meaning (tokens line) ≡ Ok statement → MeansEvent line statement
    only is =
        elim (line_formed (tokens line)) [
          | inl bad ↦ let e : Err Bad ≡ Ok statement = sym bad ∙ is in cc
          | inr f ↦
              let has = checked_ok (is_right f.0) (keeps_limits f.0) (statement_of f.0) statement (sym (formed (tokens line) f.0 f.1) ∙ is) in
              (f.0, (f.1, has.0), has.1, has.2)
        ]

    always : MeansEvent line statement → meaning (tokens line) ≡ Ok statement
    always m = formed (tokens line) m.0 m.1.0 ∙ right_is (is_right m.0) (keeps_limits m.0) (statement_of m.0) m.1.1 m.2 ∙ ap Ok (sym m.3)

pub too_big : (line : List ℕ) → (meaning (tokens line) ≡ Err Big) ↔ IsTooBigEvent line
too_big line = (only, always)
  where
    only : meaning (tokens line) ≡ Err Big → IsTooBigEvent line
    only is =
        elim (line_formed (tokens line)) [
          | inl bad ↦ let e : Err Bad ≡ Err Big = sym bad ∙ is in cc
          | inr f ↦
              let has = checked_big (is_right f.0) (keeps_limits f.0) (statement_of f.0) (sym (formed (tokens line) f.0 f.1) ∙ is) in
              (f.0, (f.1, has.0), has.1)
        ]

    always : IsTooBigEvent line → meaning (tokens line) ≡ Err Big
    always m = formed (tokens line) m.0 m.1.0 ∙ big_is (is_right m.0) (keeps_limits m.0) (statement_of m.0) m.1.1 m.2

pub bad : (line : List ℕ) → (meaning (tokens line) ≡ Err Bad) ↔ ((form : Form) → HasEventForm line form → ⊥)
bad line = (only, always)
  where
    only : meaning (tokens line) ≡ Err Bad → (form : Form) → HasEventForm line form → ⊥
    only is form has = checked_bad (is_right form) (keeps_limits form) (statement_of form) (sym (formed (tokens line) form has.0) ∙ is) has.1

    always : ((form : Form) → HasEventForm line form → ⊥) → meaning (tokens line) ≡ Err Bad
    always never =
        elim (line_formed (tokens line)) [
          | inl is ↦ is
          | inr f ↦ formed (tokens line) f.0 f.1 ∙ not_right (is_right f.0) (keeps_limits f.0) (statement_of f.0) (λ right. never f.0 (f.1, right))
        ]
