-- The lines of passivations: what their looks find drained, and which roots they leave.
use Rattle.std.proofs.Common.{◌≡◌, ◌∙◌, ℕ, Bool, true, false, not, cond, List, [], ◌∷◌, ◌++◌, append_assoc, map, refl, sym, ap}
use Rattle.std.specs.Prelude.{◌&&◌, ◌||◌, filter, flat_map}
use Rattle.std.specs.List.{cons_option}
use Rattle.std.proofs.lemmas.Bool.{both_ways}
use Rattle.std.proofs.lemmas.List.{map-append}
use Rattle.std.proofs.lemmas.List.Sums.{fold_push}
use Rattle.change_spec.specs.Changes.{drained_lines, seen_in_all}
use Rattle.change_spec.specs.Scene.{Seen, drained_line, root_line}
use Rattle.report_types.specs.declared.report.HistoryLine.TheVariants as to
use Rattle.txn_records.specs.declared.entry.Entry.TheVariants.{Looked}
use Rattle.txn_records.specs.Looks.{is_drained_word, serial_of}
use Rattle.change_board.specs.Scans.{Found, scan_entries}
use Rattle.change_board.specs.Transcripts.{silent, told, line_in, lines}
use Rattle.change_engine.specs.Draining.{root_item}
use Rattle.change_engine.specs.Passivating.{Passivation, WaitingRound, close_item, left_after, look_item, passivation_items, roots_of, round_items, silent_items}
use Rattle.change_engine.specs.declared.passivating.LeftRoot.{LeftRoot}
use Rattle.change_engine.proofs.ItemLaws.{close_lines, lines_both, silent_lines}

-- ---- what looks find

abbrev pub is_found : Found → Bool
is_found f = is_drained_word f.word

abbrev pub found_seen : Found → Seen
found_seen f = record { port = f.port; serial = serial_of f.word }

-- what a look found drained
abbrev pub drained_in : List Found → List Seen
drained_in found = map found_seen (filter is_found found)

look_line : (f : Found) (fs : List Found) (b : Bool)
    → cons_option (line_in (cond b (told (Looked f.port f.word) (to.Drained f.port (serial_of f.word))) (silent (Looked f.port f.word)))) (map drained_line (map found_seen fs))
    ≡ map drained_line (map found_seen (cond b (f ∷ fs) fs))
look_line f fs true = refl
look_line f fs false = refl

pub look_lines : (found : List Found) → lines (map look_item found) ≡ map drained_line (drained_in found)
look_lines [] = refl
look_lines (f ∷ found) = ap (cons_option (line_in (look_item f))) (look_lines found) ∙ look_line f (filter is_found found) (is_found f)

-- ---- round after round

pub left_more : (first : List Found) (rounds : List WaitingRound) (w : WaitingRound) → left_after first (rounds ++ w ∷ []) ≡ roots_of w.found
left_more first rounds w = fold_push (λ left (v : WaitingRound). roots_of v.found) (roots_of first) rounds w

round_lines : (w : WaitingRound) → lines (round_items w) ≡ map drained_line (drained_in w.found)
round_lines w =
    let scan = scan_entries false w.moved w.sights w.scan in
    lines_both (silent_items scan) (map look_item w.found) ∙ ap (λ ls. ls ++ lines (map look_item w.found)) (silent_lines scan)
    ∙ look_lines w.found

abbrev pub drained_by : WaitingRound → List Seen
drained_by w = drained_in w.found

rounds_lines : (rounds : List WaitingRound) → lines (flat_map round_items rounds) ≡ map drained_line (flat_map drained_by rounds)
rounds_lines [] = refl
rounds_lines (w ∷ rounds) =
    lines_both (round_items w) (flat_map round_items rounds) ∙ ap (λ ls. ls ++ lines (flat_map round_items rounds)) (round_lines w)
    ∙ ap (λ ls. map drained_line (drained_by w) ++ ls) (rounds_lines rounds) ∙ sym (map-append drained_line (drained_by w) (flat_map drained_by rounds))

-- the looks of a passivation: what each found drained
abbrev pub looks_of : Passivation → List (List Seen)
looks_of how = drained_in how.first ∷ map drained_by how.rounds

seen_rounds : (rounds : List WaitingRound) → seen_in_all (map drained_by rounds) ≡ flat_map drained_by rounds
seen_rounds [] = refl
seen_rounds (w ∷ rounds) = ap (λ xs. drained_by w ++ xs) (seen_rounds rounds)

pub all_seen : (how : Passivation) → seen_in_all (looks_of how) ≡ drained_in how.first ++ flat_map drained_by how.rounds
all_seen how = ap (λ xs. drained_in how.first ++ xs) (seen_rounds how.rounds)

pub passivation_lines : (ports : List ℕ) (how : Passivation) → lines (passivation_items ports how) ≡ map to.Close ports ++ drained_lines (looks_of how)
passivation_lines ports how =
    let shut = map close_item ports in
    let first = map look_item how.first in
    let rest = flat_map round_items how.rounds in
    let drained = map drained_line (drained_in how.first) in
    let later = map drained_line (flat_map drained_by how.rounds) in
    let whole : drained ++ later ≡ drained_lines (looks_of how) =
    sym (map-append drained_line (drained_in how.first) (flat_map drained_by how.rounds)) ∙ sym (ap (map drained_line) (all_seen how)) in
    lines_both (shut ++ first) rest ∙ ap (λ ls. ls ++ lines rest) (lines_both shut first)
    ∙ ap (λ ls. (ls ++ lines first) ++ lines rest) (close_lines ports)
    ∙ ap (λ ls. (map to.Close ports ++ ls) ++ lines rest) (look_lines how.first)
    ∙ ap (λ ls. (map to.Close ports ++ drained) ++ ls) (rounds_lines how.rounds)
    ∙ append_assoc (map to.Close ports) drained later ∙ ap (λ ls. map to.Close ports ++ ls) whole

-- ---- what is told where roots are left

abbrev pub seen_root : LeftRoot → Seen
seen_root x = record { port = x.port; serial = x.serial }

pub root_lines : (xs : List LeftRoot) → lines (map root_item xs) ≡ map root_line (map seen_root xs)
root_lines [] = refl
root_lines (r ∷ xs) = ap (λ ls. to.Root r.port r.serial ∷ ls) (root_lines xs)

-- ---- a word that isn't drained, at a port that is closed

pub root_by : (closed idle within : Bool) → closed ≡ true → (closed && (idle || within)) ≡ false → (not idle && not within) ≡ true
root_by true true within e h = absurd (both_ways true h refl)
root_by true false true e h = absurd (both_ways true h refl)
root_by true false false e h = refl
root_by false idle within e h = absurd (both_ways false refl e)
