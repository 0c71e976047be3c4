-- What a reader finds behind the closes of a change are its lines, committed or given up, and it finds them where they are.
use Rattle.std.proofs.Common.{◌≡◌, ◌∙◌, ℕ, suc, ◌+◌, ◌<◌, ◌≤◌, Bool, true, false, cond, not, List, [], ◌∷◌, ◌++◌, append_assoc, map, length, drop, take, Option, Some, None, refl, sym, ap, ap₂, arith}
use Rattle.std.specs.Prelude.{◌==◌, filter_map, nat_le, nat_lt, option_and_then, slice_get, if◌then◌else◌}
use Rattle.std.specs.List.{count_by, list_all, prefix_len, range_with_len}
use Rattle.std.proofs.lemmas.Bool.{and_from, and_parts, both_ways, eqb-true, eq-eqb, le-leb, leb-true, lt-ltb, ltb-true}
use Rattle.std.proofs.lemmas.List.{append-nil, length-map, take-append-drop, length_push}
use Rattle.std.proofs.lemmas.List.Folds.{length-prefix_len}
use Rattle.std.proofs.lemmas.Option.{none-some}
use Rattle.base.proofs.ListLaws.{count_by-cons}
use Rattle.quiesce_core.specs.declared.event.Event.{Event}
use Rattle.quiesce_core.specs.declared.event.Event.TheVariants as event
use Rattle.report_types.specs.declared.report.HistoryLine.{HistoryLine}
use Rattle.report_types.specs.declared.report.HistoryLine.TheVariants as to
use Rattle.change_spec.specs.Changes.{pending_lines}
use Rattle.change_spec.specs.Members.{lines_of_events}
use Rattle.change_spec.specs.Scene.{AreSeen, Seen, drained_line, root_line}
use Rattle.merge_laws.specs.Descents.{descents, descents_from}
use Rattle.merge_laws.specs.Reading.{IsCommittedSo, IsGivenUpSo}
use Rattle.report_follows.specs.Fronts.{LeadsTo, are_told_once, begin_so, behind_abandon, behind_commit, behind_committed, behind_first, behind_given_up, behind_roots, is_pending_for}
use Rattle.report_follows.specs.Testing.{drained_in, drained_port, falls_at, falls_in, is_fall, is_tellable, roots_in, told_port}
use Rattle.report_follows.proofs.FrontLemmas.{drained_front, is_drained_line, is_root_line, root_front}
use Rattle.report_follows.proofs.LineLemmas.{abandon_finds, abandon_means, commit_finds, commit_means, first_finds, first_means, lines_told, told}
use Rattle.report_follows.proofs.SortedLemmas.{if_once, once_if}
use Rattle.base.proofs.OptionLaws.{made_of_one}
use Rattle.base.proofs.PlaceLaws.{own_place}

-- ---- fronts of one sort

front_len : {A : Type 0} (t : HistoryLine → Bool) (f : A → HistoryLine) → ((x : A) → t (f x) ≡ true) → (xs : List A) (r : List HistoryLine) → begin_so t r ≡ false → prefix_len t (map f xs ++ r) ≡ length xs
front_len t f all [] [] h = refl
front_len t f all [] (l ∷ r) h = ap (λ b. cond b (1 + prefix_len t r) 0) h
front_len t f all (x ∷ xs) r h =
    let one : prefix_len t (map f (x ∷ xs) ++ r) ≡ 1 + prefix_len t (map f xs ++ r) = ap (λ b. cond b (1 + prefix_len t (map f xs ++ r)) 0) (all x) in
    let rest : prefix_len t (map f xs ++ r) ≡ length xs = front_len t f all xs r h in
    one ∙ ap (λ n. 1 + n) rest ∙ omega arith

mapped_take : {A : Type 0} (f : A → HistoryLine) (xs : List A) (r : List HistoryLine) → take (length xs) (map f xs ++ r) ≡ map f xs
mapped_take f [] r = refl
mapped_take f (x ∷ xs) r = ap (λ ls. f x ∷ ls) (mapped_take f xs r)

mapped_drop : {A : Type 0} (f : A → HistoryLine) (xs : List A) (r : List HistoryLine) → drop (length xs) (map f xs ++ r) ≡ r
mapped_drop f [] r = refl
mapped_drop f (x ∷ xs) r = mapped_drop f xs r

-- which are drained, and which are open
pub seen_in_front : (ls : List HistoryLine) → (seen : List Seen) × (take (prefix_len is_drained_line ls) ls ≡ map drained_line seen)
seen_in_front [] = ([], refl)
seen_in_front (to.Drained p k ∷ ls) =
    let w = seen_in_front ls in
    let more_ : 1 + prefix_len is_drained_line ls ≡ suc (prefix_len is_drained_line ls) = omega arith in
    (record { port = p; serial = k } ∷ w.0, ap (λ n. take n (to.Drained p k ∷ ls)) more_ ∙ ap (λ xs. to.Drained p k ∷ xs) w.1)
seen_in_front (_ ∷ ls) = ([], refl)

roots_in_front : (ls : List HistoryLine) → (seen : List Seen) × (take (prefix_len is_root_line ls) ls ≡ map root_line seen)
roots_in_front [] = ([], refl)
roots_in_front (to.Root p k ∷ ls) =
    let w = roots_in_front ls in
    let more_ : 1 + prefix_len is_root_line ls ≡ suc (prefix_len is_root_line ls) = omega arith in
    (record { port = p; serial = k } ∷ w.0, ap (λ n. take n (to.Root p k ∷ ls)) more_ ∙ ap (λ xs. to.Root p k ∷ xs) w.1)
roots_in_front (_ ∷ ls) = ([], refl)

abbrev pub told_ports : List Seen → List ℕ
told_ports seen = map (λ (d : Seen). d.port) seen

pub drained_ports : (seen : List Seen) → filter_map told_port (map drained_line seen) ≡ told_ports seen
drained_ports [] = refl
drained_ports (d ∷ seen) = ap (λ ps. d.port ∷ ps) (drained_ports seen)

root_ports : (seen : List Seen) → filter_map told_port (map root_line seen) ≡ told_ports seen
root_ports [] = refl
root_ports (d ∷ seen) = ap (λ ps. d.port ∷ ps) (root_ports seen)

ports_count : (p : ℕ) (seen : List Seen) → count_by (λ q. q == p) (told_ports seen) ≡ count_by (λ (d : Seen). d.port == p) seen
ports_count p [] = refl
ports_count p (d ∷ seen) =
    count_by-cons (λ q. q == p) d.port (told_ports seen) ∙ ap (λ n. cond (d.port == p) 1 0 + n) (ports_count p seen)
    ∙ sym (count_by-cons (λ (e : Seen). e.port == p) d seen)

both_ports : (seen left : List Seen) → told_ports seen ++ told_ports left ≡ told_ports (seen ++ left)
both_ports [] left = refl
both_ports (d ∷ seen) left = ap (λ ps. d.port ∷ ps) (both_ports seen left)

pub seen_by_test : (closed : List ℕ) (seen : List Seen) → are_told_once closed (told_ports seen) ≡ true → AreSeen closed seen
seen_by_test closed seen h = λ p. sym (ports_count p seen) ∙ once_if closed (told_ports seen) h p

pub test_by_seen : (closed : List ℕ) (seen : List Seen) → AreSeen closed seen → are_told_once closed (told_ports seen) ≡ true
test_by_seen closed seen h = if_once closed (told_ports seen) (λ p. ports_count p seen ∙ h p)

-- ---- how often ports fall

abbrev fallen : Bool → ℕ → ℕ
fallen b n = cond (not b) 1 0 + n

falls_from : (ys : List HistoryLine) (d : Seen) (seen : List Seen)
    → count_by (falls_at (ys ++ drained_line d ∷ map drained_line seen)) (range_with_len (length ys + 1) (length seen)) ≡ descents_from d.port seen
falls_from ys d [] = refl
falls_from ys d (e ∷ seen) =
    let all = ys ++ drained_line d ∷ (drained_line e ∷ map drained_line seen) in
    let next_ = ys ++ drained_line d ∷ [] in
    let long : length next_ ≡ length ys + 1 = length_push ys (drained_line d) in
    let parted : next_ ++ drained_line e ∷ map drained_line seen ≡ all = append_assoc ys (drained_line d ∷ []) (drained_line e ∷ map drained_line seen) in
    let rest : count_by (falls_at all) (range_with_len (length ys + 1 + 1) (length seen)) ≡ descents_from e.port seen =
    ap (λ n. count_by (falls_at all) (range_with_len (n + 1) (length seen))) (sym long)
    ∙ ap (λ ls. count_by (falls_at ls) (range_with_len (length next_ + 1) (length seen))) (sym parted) ∙ falls_from next_ e seen in
    let place : length ys + 1 ≡ suc (length ys) = omega arith in
    let first : falls_at all (length ys + 1) ≡ not (nat_lt d.port e.port) =
    ap (falls_at all) place
    ∙ ap₂ (λ a b. is_fall (drained_port a) (drained_port b)) (own_place ys (drained_line e ∷ map drained_line seen) (drained_line d))
    (ap (slice_get all) (sym place ∙ sym long) ∙ ap (λ ls. slice_get ls (length next_)) (sym parted) ∙ own_place next_ (map drained_line seen) (drained_line e)) in
    count_by-cons (falls_at all) (length ys + 1) (range_with_len (length ys + 1 + 1) (length seen))
    ∙ ap₂ (λ b n. cond b 1 0 + n) first rest ∙ by (nat_lt d.port e.port) (descents_from e.port seen)
  where
    by : (b : Bool) (n : ℕ) → fallen b n ≡ (if b then n else suc n)
    by true n = omega arith
    by false n = omega arith

falls_are : (seen : List Seen) → falls_in (map drained_line seen) ≡ descents seen
falls_are [] = refl
falls_are (d ∷ seen) =
    let many : length (map drained_line seen) ≡ length seen = length-map seen drained_line in
    let all = count_by (falls_at (map drained_line (d ∷ seen))) (range_with_len 1 (length (map drained_line seen))) in
    let none_first : 0 + all ≡ all = omega arith in
    count_by-cons (falls_at (map drained_line (d ∷ seen))) 0 (range_with_len 1 (length (map drained_line seen)))
    ∙ none_first ∙ ap (λ n. count_by (falls_at (map drained_line (d ∷ seen))) (range_with_len 1 n)) many ∙ falls_from [] d seen

-- ---- a change that is committed

cond_some : (b : Bool) (o : Option (List HistoryLine)) (rest : List HistoryLine) → (if b then o else None) ≡ Some rest → (b ≡ true) × (o ≡ Some rest)
cond_some true o rest h = (refl, h)
cond_some false o rest h = absurd (none-some rest h)

plain_commit : (es : List Event) (rest : List HistoryLine) → list_all is_tellable es ≡ true → begin_so is_drained_line ((lines_of_events es ++ to.Commit ∷ []) ++ rest) ≡ false
plain_commit es rest fit = ap (λ ls. begin_so is_drained_line ((ls ++ to.Commit ∷ []) ++ rest)) (lines_told es fit) ∙ by es
  where
    plain : (e : Event) → is_drained_line (told e) ≡ false
    plain (event.Make n made from) = refl
    plain (event.Link p n x) = refl
    plain (event.Unlink p) = refl
    plain (event.Remove n) = refl
    plain (event.Reopen p) = refl
    plain _ = refl

    by : (es : List Event) → begin_so is_drained_line ((map told es ++ to.Commit ∷ []) ++ rest) ≡ false
    by [] = refl
    by (e ∷ es) = plain e

-- the drained lines at the front
module _ (ls : List HistoryLine) where
  abbrev pub count : ℕ
  count = drained_in ls

  abbrev pub found : List Seen
  found = (seen_in_front ls).0

  pub front_is : take count ls ≡ map drained_line found
  front_is = ap (λ n. take n ls) (drained_front ls) ∙ (seen_in_front ls).1

  pub parts_are : ls ≡ map drained_line found ++ drop count ls
  parts_are = sym (take-append-drop count ls) ∙ ap (λ xs. xs ++ drop count ls) front_is

-- those that are at the front are found
pub record AtFront (ls : List HistoryLine) (seen : List Seen) (rest : List HistoryLine) : Type 0 where
  pub many : drained_in ls ≡ length seen
  pub taken : take (drained_in ls) ls ≡ map drained_line seen
  pub left : drop (drained_in ls) ls ≡ rest

pub at_front : (ls : List HistoryLine) (seen : List Seen) (rest : List HistoryLine) → ls ≡ map drained_line seen ++ rest → begin_so is_drained_line rest ≡ false → AtFront ls seen rest
at_front ls seen rest are plain =
    let many : drained_in ls ≡ length seen = drained_front ls ∙ ap (prefix_len is_drained_line) are ∙ front_len is_drained_line drained_line (λ d. refl) seen rest plain in
    record {
      many = many;
      taken = ap₂ (λ n xs. take n xs) many are ∙ mapped_take drained_line seen rest;
      left = ap₂ (λ n xs. drop n xs) many are ∙ mapped_drop drained_line seen rest;
    }

few_if : (seen : List Seen) (within : ℕ) → nat_le (falls_in (map drained_line seen)) within ≡ true → descents seen ≤ within
few_if seen within h = let e = falls_are seen in let few = leb-true (falls_in (map drained_line seen)) within h in omega (arith, e, few)

if_few : (seen : List Seen) (within : ℕ) → descents seen ≤ within → nat_le (falls_in (map drained_line seen)) within ≡ true
if_few seen within h = let e = falls_are seen in le-leb (falls_in (map drained_line seen)) within (omega (arith, e, h))

pub committed_means : (within : ℕ) (closed : List ℕ) (es : List Event) (ls rest : List HistoryLine) → list_all is_tellable es ≡ true → behind_committed within closed es ls ≡ Some rest
    → LeadsTo (IsCommittedSo within closed es) ls rest
committed_means within closed es ls rest fit h =
    let test = nat_le (falls_in (take (drained_in ls) ls)) within in
    let w = cond_some _ (behind_commit es (drop (drained_in ls) ls)) rest h in
    let v = and_parts test _ w.0 in
    let seen = found ls in
    let front = front_is ls in
    let once : are_told_once closed (told_ports seen) ≡ true =
    ap (are_told_once closed) (sym (ap (λ xs. filter_map told_port xs ++ []) front ∙ append-nil (filter_map told_port (map drained_line seen)) ∙ drained_ports seen)) ∙ v.1 in
    let commit = lines_of_events es ++ to.Commit ∷ [] in
    record {
      front = map drained_line seen ++ commit;
      is = record {
        seen = seen;
        few = few_if seen within (sym (ap (λ xs. nat_le (falls_in xs) within) front) ∙ v.0);
        all_seen = seen_by_test closed seen once;
        are = refl;
      };
      parts = parts_are ls ∙ ap (λ xs. map drained_line seen ++ xs) (commit_means es (drop (drained_in ls) ls) rest fit w.1) ∙ sym (append_assoc (map drained_line seen) commit rest);
    }

pub committed_finds : (within : ℕ) (closed : List ℕ) (es : List Event) (ls front rest : List HistoryLine) → list_all is_tellable es ≡ true → IsCommittedSo within closed es front → ls ≡ front ++ rest
    → behind_committed within closed es ls ≡ Some rest
committed_finds within closed es ls front rest fit x are =
    let commit = lines_of_events es ++ to.Commit ∷ [] in
    let at = at_front ls x.seen (commit ++ rest) (are ∙ ap (λ xs. xs ++ rest) x.are ∙ append_assoc (map drained_line x.seen) commit rest) (plain_commit es rest fit) in
    let once : are_told_once closed (filter_map told_port (take (drained_in ls) ls) ++ filter_map told_port []) ≡ true =
    ap (are_told_once closed) (ap (λ xs. filter_map told_port xs ++ []) at.taken ∙ append-nil (filter_map told_port (map drained_line x.seen)) ∙ drained_ports x.seen) ∙ test_by_seen closed x.seen x.all_seen in
    let few : nat_le (falls_in (take (drained_in ls) ls)) within ≡ true = ap (λ xs. nat_le (falls_in xs) within) at.taken ∙ if_few x.seen within x.few in
    ap (λ b. if b then behind_commit es (drop (drained_in ls) ls) else None) (and_from (nat_le (falls_in (take (drained_in ls) ls)) within) _ few once)
    ∙ commit_finds es (drop (drained_in ls) ls) rest fit at.left

-- ---- a change that is given up

pending_is : (within : ℕ) (l : HistoryLine) → is_pending_for within l ≡ true → l ≡ to.Pending within
pending_is within (to.Pending r) h = ap to.Pending (eqb-true r within h)
pending_is within _ h = absurd (both_ways false refl h)

abbrev ending : List ℕ → List HistoryLine
ending closed = map to.Reopen closed ++ to.Abandon ∷ []

-- the lines of one, put together otherwise
pending_parts : (within : ℕ) (seen left : List Seen) (closed : List ℕ) (rest : List HistoryLine)
    → (map drained_line seen ++ pending_lines within left closed) ++ rest ≡ map drained_line seen ++ to.Pending within ∷ (map root_line left ++ (ending closed ++ rest))
pending_parts within seen left closed rest =
    let roots = map root_line left in
    append_assoc (map drained_line seen) (pending_lines within left closed) rest
    ∙ ap (λ xs. map drained_line seen ++ to.Pending within ∷ xs)
    (ap (λ xs. xs ++ rest) (append_assoc roots (map to.Reopen closed) (to.Abandon ∷ [])) ∙ append_assoc roots (ending closed) rest)

plain_ending : (closed : List ℕ) (rest : List HistoryLine) → begin_so is_root_line (ending closed ++ rest) ≡ false
plain_ending [] rest = refl
plain_ending (p ∷ closed) rest = refl

pub given_up_means : (within : ℕ) (closed : List ℕ) (ls rest : List HistoryLine) → behind_given_up within closed ls ≡ Some rest → LeadsTo (IsGivenUpSo within closed) ls rest
given_up_means within closed ls rest h =
    let drained = take (drained_in ls) ls in
    let a = made_of_one (behind_roots within closed drained) (behind_first (is_pending_for within) (drop (drained_in ls) ls)) rest h in
    let ms = a.0 in
    let f = first_means (is_pending_for within) (drop (drained_in ls) ls) ms a.1 in
    let w = cond_some _ (behind_abandon closed (drop (roots_in ms) ms)) rest a.2 in
    let v = and_parts (nat_lt 0 (roots_in ms)) _ w.0 in
    let u = and_parts (nat_le (falls_in drained) within) _ v.1 in
    let seen = found ls in
    let front = front_is ls in
    let left = (roots_in_front ms).0 in
    let roots : take (roots_in ms) ms ≡ map root_line left = ap (λ n. take n ms) (root_front ms) ∙ (roots_in_front ms).1 in
    let once : are_told_once closed (told_ports (seen ++ left)) ≡ true =
    ap (are_told_once closed)
    (sym (ap₂ (λ xs ys. filter_map told_port xs ++ filter_map told_port ys) front roots ∙ ap₂ (λ (xs ys : List ℕ). xs ++ ys) (drained_ports seen) (root_ports left) ∙ both_ports seen left)) ∙ u.1 in
    let many : length left ≡ roots_in ms =
    sym (length-map left root_line) ∙ ap (λ (xs : List HistoryLine). length xs) (sym (roots_in_front ms).1) ∙ length-prefix_len is_root_line ms ∙ sym (root_front ms) in
    let some : 0 < roots_in ms = ltb-true 0 (roots_in ms) v.0 in
    record {
      front = map drained_line seen ++ pending_lines within left closed;
      is = record {
        seen = seen;
        left = left;
        few = few_if seen within (sym (ap (λ xs. nat_le (falls_in xs) within) front) ∙ u.0);
        some_left = omega (arith, many, some);
        all_seen = seen_by_test closed (seen ++ left) once;
        are = refl;
      };
      parts = parts_are ls
          ∙ ap (λ xs. map drained_line seen ++ xs) (f.are ∙ ap (λ l. l ∷ ms) (pending_is within f.line f.passes))
          ∙ ap (λ xs. map drained_line seen ++ to.Pending within ∷ xs)
          (sym (take-append-drop (roots_in ms) ms) ∙ ap₂ (λ (xs ys : List HistoryLine). xs ++ ys) roots (abandon_means closed (drop (roots_in ms) ms) rest w.1))
          ∙ sym (pending_parts within seen left closed rest);
    }

pub given_up_finds : (within : ℕ) (closed : List ℕ) (ls front rest : List HistoryLine) → IsGivenUpSo within closed front → ls ≡ front ++ rest → behind_given_up within closed ls ≡ Some rest
given_up_finds within closed ls front rest x are =
    let ms = map root_line x.left ++ (ending closed ++ rest) in
    let at = at_front ls x.seen (to.Pending within ∷ ms) (are ∙ ap (λ xs. xs ++ rest) x.are ∙ pending_parts within x.seen x.left closed rest) refl in
    let many : roots_in ms ≡ length x.left = root_front ms ∙ front_len is_root_line root_line (λ d. refl) x.left (ending closed ++ rest) (plain_ending closed rest) in
    let taken : take (roots_in ms) ms ≡ map root_line x.left = ap (λ n. take n ms) many ∙ mapped_take root_line x.left (ending closed ++ rest) in
    let dropped : drop (roots_in ms) ms ≡ ending closed ++ rest = ap (λ n. drop n ms) many ∙ mapped_drop root_line x.left (ending closed ++ rest) in
    let drained = take (drained_in ls) ls in
    let some : nat_lt 0 (roots_in ms) ≡ true = let e = x.some_left in lt-ltb 0 (roots_in ms) (omega (arith, many, e)) in
    let few : nat_le (falls_in drained) within ≡ true = ap (λ xs. nat_le (falls_in xs) within) at.taken ∙ if_few x.seen within x.few in
    let once : are_told_once closed (filter_map told_port drained ++ filter_map told_port (take (roots_in ms) ms)) ≡ true =
    ap (are_told_once closed)
    (ap₂ (λ xs ys. filter_map told_port xs ++ filter_map told_port ys) at.taken taken ∙ ap₂ (λ (xs ys : List ℕ). xs ++ ys) (drained_ports x.seen) (root_ports x.left) ∙ both_ports x.seen x.left)
    ∙ test_by_seen closed (x.seen ++ x.left) x.all_seen in
    ap (option_and_then (behind_roots within closed drained)) (first_finds (is_pending_for within) (to.Pending within) (drop (drained_in ls) ls) ms (eq-eqb within within refl) at.left)
    ∙ ap (λ b. if b then behind_abandon closed (drop (roots_in ms) ms) else None)
    (and_from (nat_lt 0 (roots_in ms)) _ some (and_from (nat_le (falls_in drained) within) _ few once))
    ∙ abandon_finds closed (drop (roots_in ms) ms) rest dropped
