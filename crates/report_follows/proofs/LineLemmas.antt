-- What a reader finds at the front of lines is there, and it finds what is there: events, closes, reopens, and single lines.
use Rattle.std.proofs.Common.{◌≡◌, ◌∙◌, ℕ, Bool, true, false, List, [], ◌∷◌, ◌++◌, append_assoc, map, length, drop, Option, Some, None, refl, sym, ap}
use Rattle.std.specs.Prelude.{◌==◌, option_and_then}
use Rattle.std.specs.List.{list_all}
use Rattle.std.proofs.lemmas.Bool.{and_from, and_parts, both_ways, eq-eqb, eqb-true}
use Rattle.std.proofs.lemmas.Option.{none-some, same_Some}
use Rattle.config_graph.specs.contracts.node.NodePartialEq as node_eq
use Rattle.config_graph.proofs.SameLaws.{node_decides}
use Rattle.quiesce_core.specs.declared.event.Event.{Event}
use Rattle.quiesce_core.specs.declared.event.Event.TheVariants as event
use Rattle.report_types.specs.declared.report.HistoryLine.{HistoryLine}
use Rattle.report_types.specs.declared.report.HistoryLine.TheVariants as to
use Rattle.change_spec.specs.Members.{lines_of_events}
use Rattle.report_follows.specs.Fronts.{behind_abandon, behind_commit, behind_first, behind_if, is_abandon_line, is_commit_line}
use Rattle.report_follows.specs.Testing.{are_same, is_close_of, is_reopen_of, is_tellable, tell_closes, tell_events, tell_reopens, tells_event}
use Rattle.report_follows.proofs.FrontLemmas.{begins, starts_so, begins_with, in_pairs}
use Rattle.base.proofs.OptionLaws.{made_of_one}

-- ---- the line of an event

abbrev pub told : Event → HistoryLine
told (event.Make n made from) = to.Make n made from
told (event.Link p n x) = to.Link p n x
told (event.Unlink p) = to.Unlink p
told (event.Remove n) = to.Remove n
told (event.Reopen p) = to.Reopen p
told _ = to.Stop

same_sources : (a b : Option ℕ) → are_same a b ≡ true → a ≡ b
same_sources None None h = refl
same_sources (Some a) (Some b) h = ap Some (eqb-true a b h)
same_sources None (Some b) h = absurd (both_ways false refl h)
same_sources (Some a) None h = absurd (both_ways false refl h)

source_itself : (a : Option ℕ) → are_same a a ≡ true
source_itself None = refl
source_itself (Some a) = eq-eqb a a refl

tells_told : (l : HistoryLine) (e : Event) → tells_event l e ≡ true → l ≡ told e
tells_told (to.Make n made from) (event.Make k node source) h =
    let w = and_parts (n == k) _ h in
    let v = and_parts ((node_eq.TheImpl.eq-value).it made node) (are_same from source) w.1 in
    let a = eqb-true n k w.0 in
    let b = (node_decides made node).0 v.0 in
    let d = same_sources from source v.1 in
    (λ i. to.Make (a i) (b i) (d i))
tells_told (to.Link p n x) (event.Link q k y) h =
    let w = and_parts (p == q) _ h in
    let v = and_parts (n == k) (x == y) w.1 in
    let a = eqb-true p q w.0 in
    let b = eqb-true n k v.0 in
    let d = eqb-true x y v.1 in
    (λ i. to.Link (a i) (b i) (d i))
tells_told (to.Unlink p) (event.Unlink q) h = ap to.Unlink (eqb-true p q h)
tells_told (to.Remove n) (event.Remove k) h = ap to.Remove (eqb-true n k h)
tells_told (to.Reopen p) (event.Reopen q) h = ap to.Reopen (eqb-true p q h)
tells_told _ _ h = absurd (both_ways false refl h)

told_passes : (e : Event) → is_tellable e ≡ true → tells_event (told e) e ≡ true
told_passes (event.Make n made from) h =
    and_from (n == n) _ (eq-eqb n n refl) (and_from ((node_eq.TheImpl.eq-value).it made made) (are_same from from) ((node_decides made made).1 refl) (source_itself from))
told_passes (event.Link p n x) h = and_from (p == p) _ (eq-eqb p p refl) (and_from (n == n) (x == x) (eq-eqb n n refl) (eq-eqb x x refl))
told_passes (event.Unlink p) h = eq-eqb p p refl
told_passes (event.Remove n) h = eq-eqb n n refl
told_passes (event.Reopen p) h = eq-eqb p p refl
told_passes _ h = absurd (both_ways false refl h)

one_told : (e : Event) (es : List Event) → is_tellable e ≡ true → lines_of_events (e ∷ es) ≡ told e ∷ lines_of_events es
one_told (event.Make n made from) es h = refl
one_told (event.Link p n x) es h = refl
one_told (event.Unlink p) es h = refl
one_told (event.Remove n) es h = refl
one_told (event.Reopen p) es h = refl
one_told _ es h = absurd (both_ways false refl h)

pub lines_told : (es : List Event) → list_all is_tellable es ≡ true → lines_of_events es ≡ map told es
lines_told [] h = refl
lines_told (e ∷ es) h = let w = and_parts (is_tellable e) (list_all is_tellable es) h in one_told e es w.0 ∙ ap (λ ls. told e ∷ ls) (lines_told es w.1)

-- ---- closes and reopens

closes_told : (l : HistoryLine) (p : ℕ) → is_close_of l p ≡ true → l ≡ to.Close p
closes_told (to.Close q) p h = ap to.Close (eqb-true q p h)
closes_told _ p h = absurd (both_ways false refl h)

reopens_told : (l : HistoryLine) (p : ℕ) → is_reopen_of l p ≡ true → l ≡ to.Reopen p
reopens_told (to.Reopen q) p h = ap to.Reopen (eqb-true q p h)
reopens_told _ p h = absurd (both_ways false refl h)

abbrev any_port : ℕ → Bool
any_port p = true

all_ports : (ps : List ℕ) → list_all any_port ps ≡ true
all_ports [] = refl
all_ports (p ∷ ps) = all_ports ps

-- ---- what is left behind a front of known length

mapped_drop : {A B : Type 0} (g : B → A) (ys : List B) (rest : List A) → drop (length ys) (map g ys ++ rest) ≡ rest
mapped_drop g [] rest = refl
mapped_drop g (y ∷ ys) rest = mapped_drop g ys rest

pub some_behind : (b : Bool) (n : ℕ) (ls rest : List HistoryLine) → behind_if b n ls ≡ Some rest → (b ≡ true) × (drop n ls ≡ rest)
some_behind true n ls rest h = (refl, same_Some (drop n ls) rest h)
some_behind false n ls rest h = absurd (none-some rest h)

pub events_means : (es : List Event) (ls rest : List HistoryLine) → list_all is_tellable es ≡ true → behind_if (tell_events ls es) (length es) ls ≡ Some rest → ls ≡ lines_of_events es ++ rest
events_means es ls rest fit h =
    let w = some_behind (tell_events ls es) (length es) ls rest h in
    begins_with tells_event told tells_told ls es (sym (in_pairs tells_event ls es) ∙ w.0)
    ∙ ap (λ xs. map told es ++ xs) w.1 ∙ ap (λ xs. xs ++ rest) (sym (lines_told es fit))

pub events_finds : (es : List Event) (ls rest : List HistoryLine) → list_all is_tellable es ≡ true → ls ≡ lines_of_events es ++ rest → behind_if (tell_events ls es) (length es) ls ≡ Some rest
events_finds es ls rest fit are =
    let now : ls ≡ map told es ++ rest = are ∙ ap (λ xs. xs ++ rest) (lines_told es fit) in
    let passes : tell_events ls es ≡ true = in_pairs tells_event ls es ∙ ap (λ xs. begins tells_event xs es) now ∙ starts_so tells_event told is_tellable told_passes es rest fit in
    ap (λ b. behind_if b (length es) ls) passes ∙ ap (λ xs. Some (drop (length es) xs)) now ∙ ap Some (mapped_drop told es rest)

pub closes_means : (ps : List ℕ) (ls rest : List HistoryLine) → behind_if (tell_closes ls ps) (length ps) ls ≡ Some rest → ls ≡ map to.Close ps ++ rest
closes_means ps ls rest h =
    let w = some_behind (tell_closes ls ps) (length ps) ls rest h in
    begins_with is_close_of to.Close closes_told ls ps (sym (in_pairs is_close_of ls ps) ∙ w.0) ∙ ap (λ xs. map to.Close ps ++ xs) w.1

pub closes_finds : (ps : List ℕ) (ls rest : List HistoryLine) → ls ≡ map to.Close ps ++ rest → behind_if (tell_closes ls ps) (length ps) ls ≡ Some rest
closes_finds ps ls rest are =
    let passes : tell_closes ls ps ≡ true =
    in_pairs is_close_of ls ps ∙ ap (λ xs. begins is_close_of xs ps) are
    ∙ starts_so is_close_of to.Close any_port (λ p h. eq-eqb p p refl) ps rest (all_ports ps) in
    ap (λ b. behind_if b (length ps) ls) passes ∙ ap (λ xs. Some (drop (length ps) xs)) are ∙ ap Some (mapped_drop to.Close ps rest)

pub reopens_means : (ps : List ℕ) (ls rest : List HistoryLine) → behind_if (tell_reopens ls ps) (length ps) ls ≡ Some rest → ls ≡ map to.Reopen ps ++ rest
reopens_means ps ls rest h =
    let w = some_behind (tell_reopens ls ps) (length ps) ls rest h in
    begins_with is_reopen_of to.Reopen reopens_told ls ps (sym (in_pairs is_reopen_of ls ps) ∙ w.0) ∙ ap (λ xs. map to.Reopen ps ++ xs) w.1

pub reopens_finds : (ps : List ℕ) (ls rest : List HistoryLine) → ls ≡ map to.Reopen ps ++ rest → behind_if (tell_reopens ls ps) (length ps) ls ≡ Some rest
reopens_finds ps ls rest are =
    let passes : tell_reopens ls ps ≡ true =
    in_pairs is_reopen_of ls ps ∙ ap (λ xs. begins is_reopen_of xs ps) are
    ∙ starts_so is_reopen_of to.Reopen any_port (λ p h. eq-eqb p p refl) ps rest (all_ports ps) in
    ap (λ b. behind_if b (length ps) ls) passes ∙ ap (λ xs. Some (drop (length ps) xs)) are ∙ ap Some (mapped_drop to.Reopen ps rest)

-- ---- a first line

pub record First (test : HistoryLine → Bool) (ls rest : List HistoryLine) : Type 0 where
  pub line : HistoryLine
  pub passes : test line ≡ true
  pub are : ls ≡ line ∷ rest

pub first_means : (test : HistoryLine → Bool) (ls rest : List HistoryLine) → behind_first test ls ≡ Some rest → First test ls rest
first_means test [] rest h = absurd (none-some rest h)
first_means test (l ∷ ls) rest h = let w = some_behind (test l) 1 (l ∷ ls) rest h in record { line = l; passes = w.0; are = ap (λ xs. l ∷ xs) w.1 }

pub first_finds : (test : HistoryLine → Bool) (l : HistoryLine) (ls rest : List HistoryLine) → test l ≡ true → ls ≡ l ∷ rest → behind_first test ls ≡ Some rest
first_finds test l ls rest passes are = ap (behind_first test) are ∙ ap (λ b. behind_if b 1 (l ∷ rest)) passes

commit_is : (l : HistoryLine) → is_commit_line l ≡ true → l ≡ to.Commit
commit_is to.Commit h = refl
commit_is _ h = absurd (both_ways false refl h)

abandon_is : (l : HistoryLine) → is_abandon_line l ≡ true → l ≡ to.Abandon
abandon_is to.Abandon h = refl
abandon_is _ h = absurd (both_ways false refl h)

-- ---- the end of a change

pub commit_means : (es : List Event) (ls rest : List HistoryLine) → list_all is_tellable es ≡ true → behind_commit es ls ≡ Some rest → ls ≡ (lines_of_events es ++ to.Commit ∷ []) ++ rest
commit_means es ls rest fit h =
    let w = made_of_one (behind_first is_commit_line) (behind_if (tell_events ls es) (length es) ls) rest h in
    let f = first_means is_commit_line w.0 rest w.2 in
    events_means es ls w.0 fit w.1 ∙ ap (λ xs. lines_of_events es ++ xs) (f.are ∙ ap (λ l. l ∷ rest) (commit_is f.line f.passes))
    ∙ sym (append_assoc (lines_of_events es) (to.Commit ∷ []) rest)

pub commit_finds : (es : List Event) (ls rest : List HistoryLine) → list_all is_tellable es ≡ true → ls ≡ (lines_of_events es ++ to.Commit ∷ []) ++ rest → behind_commit es ls ≡ Some rest
commit_finds es ls rest fit are =
    ap (option_and_then (behind_first is_commit_line)) (events_finds es ls (to.Commit ∷ rest) fit (are ∙ append_assoc (lines_of_events es) (to.Commit ∷ []) rest))

pub abandon_means : (ps : List ℕ) (ls rest : List HistoryLine) → behind_abandon ps ls ≡ Some rest → ls ≡ (map to.Reopen ps ++ to.Abandon ∷ []) ++ rest
abandon_means ps ls rest h =
    let w = made_of_one (behind_first is_abandon_line) (behind_if (tell_reopens ls ps) (length ps) ls) rest h in
    let f = first_means is_abandon_line w.0 rest w.2 in
    reopens_means ps ls w.0 w.1 ∙ ap (λ xs. map to.Reopen ps ++ xs) (f.are ∙ ap (λ l. l ∷ rest) (abandon_is f.line f.passes))
    ∙ sym (append_assoc (map to.Reopen ps) (to.Abandon ∷ []) rest)

pub abandon_finds : (ps : List ℕ) (ls rest : List HistoryLine) → ls ≡ (map to.Reopen ps ++ to.Abandon ∷ []) ++ rest → behind_abandon ps ls ≡ Some rest
abandon_finds ps ls rest are =
    ap (option_and_then (behind_first is_abandon_line)) (reopens_finds ps ls (to.Abandon ∷ rest) (are ∙ append_assoc (map to.Reopen ps) (to.Abandon ∷ []) rest))
