-- What a reader finds of the opening of a change, of a start and of a stop is there, and it finds what is there.
use Rattle.std.proofs.Common.{◌≡◌, ◌∙◌, ℕ, true, false, ◌&&◌, List, [], ◌∷◌, ◌++◌, map, length, drop, Some, refl, sym, ap, ap₂}
use Rattle.std.specs.Prelude.{◌==◌, ◌↔◌, ℤ, IsTrue, bytes_eq, filter_map, option_and_then}
use Rattle.std.specs.List.{list_all}
use Rattle.std.specs.Cmp.Lexicographic.{pointwise}
use Rattle.std.specs.Option.{option_map_or}
use Rattle.std.specs.Ordering.{int_eq}
use Rattle.std.proofs.lemmas.Bool.{and_from, and_parts, both_ways, eq-eqb, eqb-true}
use Rattle.std.proofs.lemmas.Bool.Decides.{Decides-int_eq}
use Rattle.std.proofs.lemmas.List.{append-nil, length-map}
use Rattle.std.proofs.lemmas.Slice.Eq.{bytes_eq-Decides, slice_eq-Decides}
use Rattle.base.proofs.OptionLaws.{map_or_true, made_of_one}
use Rattle.quiesce_core.specs.declared.event.Event.{Event}
use Rattle.report_types.specs.declared.report.HistoryLine.{HistoryLine}
use Rattle.report_types.specs.declared.report.HistoryLine.TheVariants as to
use Rattle.change_spec.specs.Members.{lines_of_events}
use Rattle.change_spec.specs.Scene.{AreSeen, Seen, drained_line}
use Rattle.report_follows.specs.Fronts.{IsStopOf, are_all_told, are_told_once, behind_closes, behind_commit, behind_first, behind_opening, behind_start, is_change_line, is_start_line, is_stop_line, is_stop_of}
use Rattle.report_follows.specs.Testing.{drained_in, is_tellable, told_port}
use Rattle.report_follows.proofs.ChangeLemmas.{at_front, drained_ports, found, test_by_seen, parts_are, told_ports, seen_by_test}
use Rattle.report_follows.proofs.LineLemmas.{closes_finds, closes_means, commit_finds, commit_means, first_finds, first_means}

-- ---- names and arguments

ints_decide : (xs ys : List ℤ) → IsTrue (pointwise int_eq xs ys) ↔ (xs ≡ ys)
ints_decide xs ys = slice_eq-Decides Decides-int_eq xs ys (pointwise int_eq xs ys) refl

same_both : (n name : List ℕ) (a args : List ℤ) → (bytes_eq n name && pointwise int_eq a args) ≡ true → (n ≡ name) × (a ≡ args)
same_both n name a args h =
    let w = and_parts (bytes_eq n name) (pointwise int_eq a args) h in ((bytes_eq-Decides n name).0 w.0, (ints_decide a args).0 w.1)

pub both_same : (name : List ℕ) (args : List ℤ) → (bytes_eq name name && pointwise int_eq args args) ≡ true
both_same name args = and_from (bytes_eq name name) (pointwise int_eq args args) ((bytes_eq-Decides name name).1 refl) ((ints_decide args args).1 refl)

pub change_is : (name : List ℕ) (args : List ℤ) (l : HistoryLine) → is_change_line name args l ≡ true → l ≡ to.Change name args
change_is name args (to.Change n a) h = let w = same_both n name a args h in ap₂ to.Change w.0 w.1
change_is name args _ h = absurd (both_ways false refl h)

start_is : (name : List ℕ) (args : List ℤ) (l : HistoryLine) → is_start_line name args l ≡ true → l ≡ to.Start name args
start_is name args (to.Start n a) h = let w = same_both n name a args h in ap₂ to.Start w.0 w.1
start_is name args _ h = absurd (both_ways false refl h)

stop_is : (l : HistoryLine) → is_stop_line l ≡ true → l ≡ to.Stop
stop_is to.Stop h = refl
stop_is _ h = absurd (both_ways false refl h)

-- ---- the opening of a change, and a start

pub opening_means : (name : List ℕ) (args : List ℤ) (closed : List ℕ) (ls rest : List HistoryLine) → behind_opening name args closed ls ≡ Some rest → ls ≡ to.Change name args ∷ (map to.Close closed ++ rest)
opening_means name args closed ls rest h =
    let w = made_of_one (behind_closes closed) (behind_first (is_change_line name args) ls) rest h in
    let f = first_means (is_change_line name args) ls w.0 w.1 in
    f.are ∙ ap₂ (λ l xs. l ∷ xs) (change_is name args f.line f.passes) (closes_means closed w.0 rest w.2)

pub opening_finds : (name : List ℕ) (args : List ℤ) (closed : List ℕ) (ls rest : List HistoryLine) → ls ≡ to.Change name args ∷ (map to.Close closed ++ rest) → behind_opening name args closed ls ≡ Some rest
opening_finds name args closed ls rest are =
    ap (option_and_then (behind_closes closed)) (first_finds (is_change_line name args) (to.Change name args) ls (map to.Close closed ++ rest) (both_same name args) are)
    ∙ closes_finds closed (map to.Close closed ++ rest) rest refl

pub start_means : (name : List ℕ) (args : List ℤ) (es : List Event) (ls rest : List HistoryLine) → list_all is_tellable es ≡ true → behind_start name args es ls ≡ Some rest
    → ls ≡ (to.Start name args ∷ lines_of_events es ++ to.Commit ∷ []) ++ rest
start_means name args es ls rest fit h =
    let w = made_of_one (behind_commit es) (behind_first (is_start_line name args) ls) rest h in
    let f = first_means (is_start_line name args) ls w.0 w.1 in
    f.are ∙ ap₂ (λ l xs. l ∷ xs) (start_is name args f.line f.passes) (commit_means es w.0 rest fit w.2)

pub start_finds : (name : List ℕ) (args : List ℤ) (es : List Event) (ls rest : List HistoryLine) → list_all is_tellable es ≡ true
    → ls ≡ (to.Start name args ∷ lines_of_events es ++ to.Commit ∷ []) ++ rest → behind_start name args es ls ≡ Some rest
start_finds name args es ls rest fit are =
    let tail = (lines_of_events es ++ to.Commit ∷ []) ++ rest in
    ap (option_and_then (behind_commit es)) (first_finds (is_start_line name args) (to.Start name args) ls tail (both_same name args) are)
    ∙ commit_finds es tail rest fit refl

-- ---- the stop

all_dropped : (n : ℕ) (ls : List HistoryLine) → n ≡ length ls → drop n ls ≡ []
all_dropped n ls e = ap (λ k. drop k ls) e ∙ all ls
  where
    all : (xs : List HistoryLine) → drop (length xs) xs ≡ []
    all [] = refl
    all (x ∷ xs) = all xs

told_all : (ports : List ℕ) (ls : List HistoryLine) → are_all_told ports ls ≡ true → (seen : List Seen) × (ls ≡ map drained_line seen) × AreSeen ports seen
told_all ports ls h =
    let w = and_parts (drained_in ls == length ls) _ h in
    let many = eqb-true (drained_in ls) (length ls) w.0 in
    let seen = found ls in
    let are : ls ≡ map drained_line seen = parts_are ls ∙ ap (λ xs. map drained_line seen ++ xs) (all_dropped (drained_in ls) ls many) ∙ append-nil (map drained_line seen) in
    let once : are_told_once ports (told_ports seen) ≡ true =
    ap (are_told_once ports) (sym (ap (λ xs. filter_map told_port xs ++ []) are ∙ append-nil (filter_map told_port (map drained_line seen)) ∙ drained_ports seen)) ∙ w.1 in
    (seen, are, seen_by_test ports seen once)

all_told : (ports : List ℕ) (ls : List HistoryLine) (seen : List Seen) → ls ≡ map drained_line seen → AreSeen ports seen → are_all_told ports ls ≡ true
all_told ports ls seen are all =
    let at = at_front ls seen [] (are ∙ sym (append-nil (map drained_line seen))) refl in
    let many : drained_in ls ≡ length ls = at.many ∙ sym (length-map seen drained_line) ∙ ap (λ (xs : List HistoryLine). length xs) (sym are) in
    let once : are_told_once ports (filter_map told_port ls ++ filter_map told_port []) ≡ true =
    ap (are_told_once ports) (ap (λ xs. filter_map told_port xs ++ []) are ∙ append-nil (filter_map told_port (map drained_line seen)) ∙ drained_ports seen) ∙ test_by_seen ports seen all in
    and_from (drained_in ls == length ls) _ (eq-eqb (drained_in ls) (length ls) many) once

pub stop_means : (ports : List ℕ) (ls : List HistoryLine) → is_stop_of ports ls ≡ true → IsStopOf ports ls
stop_means ports ls h =
    let w = map_or_true (are_all_told ports) (option_and_then (behind_closes ports) (behind_first is_stop_line ls)) h in
    let v = made_of_one (behind_closes ports) (behind_first is_stop_line ls) w.0 w.1 in
    let f = first_means is_stop_line ls v.0 v.1 in
    let t = told_all ports w.0 w.2 in
    record {
      seen = t.0;
      are = f.are ∙ ap₂ (λ l xs. l ∷ xs) (stop_is f.line f.passes) (closes_means ports v.0 w.0 v.2 ∙ ap (λ xs. map to.Close ports ++ xs) t.1);
      all_seen = t.2;
    }

pub stop_finds : (ports : List ℕ) (ls : List HistoryLine) → IsStopOf ports ls → is_stop_of ports ls ≡ true
stop_finds ports ls x =
    let drained = map drained_line x.seen in
    ap (λ o. option_map_or (are_all_told ports) o false)
    (ap (option_and_then (behind_closes ports)) (first_finds is_stop_line to.Stop ls (map to.Close ports ++ drained) refl x.are) ∙ closes_finds ports (map to.Close ports ++ drained) drained refl)
    ∙ all_told ports drained x.seen refl x.all_seen
