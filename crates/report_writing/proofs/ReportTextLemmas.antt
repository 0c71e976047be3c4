-- The text of a report as it is written line by line, and the path of a slot as it is looked up.
use Rattle.std.proofs.Common.{◌≡◌, ◌==◌, ℕ, ◌+◌, ◌<◌, List, [], ◌∷◌, ◌++◌, length, take, get_or, map, Option, Some, refl, sym, ◌∙◌, ap}
use Rattle.std.specs.Prelude.{filter, flat_map, slice_get, filter_map, option_to_list, None}
use Rattle.std.specs.Option.{option_map_or}
use Rattle.std.proofs.lemmas.Bool.{eq-eqb}
use Rattle.std.proofs.lemmas.List.{take_more}
use Rattle.std.proofs.lemmas.List.Elements.{filter_map-append}
use Rattle.report_types.specs.declared.report.HistoryLine.{HistoryLine}
use Rattle.report_writing.specs.declared.writing.MadeNode.{MadeNode}
use Rattle.report_writing.specs.MadeNodes.{slot_path_of}
use Rattle.report_writing.specs.Reports.{SlotPath, made_by, path_in}
use Rattle.base.proofs.PlaceLaws.{slice_get-map_at}
use Rattle.base.proofs.LinesLaws.{lines_more}
use Rattle.base.proofs.FindLaws.{only_found}

-- one line more, of an element that owns memory
pub line_more : {A : Type 0} (line : A → List ℕ) (xs : List A) (old so_far new : List ℕ) (i : ℕ) (x : A) → i < length xs → x ≡ get_or xs i x
    → so_far ≡ old ++ flat_map line (take i xs) → new ≡ so_far ++ line x → new ≡ old ++ flat_map line (take (i + 1) xs)
line_more line xs old so_far new i x low is so_far_is new_is =
    lines_more line xs old so_far new i x low so_far_is (new_is ∙ ap (λ y. so_far ++ line y) is)

-- what a list with one member more gives
gives_one : {A B : Type 0} (f : A → Option B) (x : A) (o : Option B) → f x ≡ o → filter_map f (x ∷ []) ≡ option_to_list o
gives_one f x None is = rw is refl
gives_one f x (Some y) is = rw is refl

-- the nodes that a history makes, after one line more
pub made_more : (history : List HistoryLine) (i : ℕ) (line : HistoryLine) (so_far new : List SlotPath) → i < length history → line ≡ get_or history i line
    → so_far ≡ filter_map made_by (take i history) → new ≡ so_far ++ option_to_list (made_by line) → new ≡ filter_map made_by (take (i + 1) history)
made_more history i line so_far new low is so_far_is new_is =
    let one : filter_map made_by (get_or history i line ∷ []) ≡ option_to_list (made_by line) = gives_one made_by (get_or history i line) (made_by line) (ap made_by (sym is)) in
    new_is ∙ ap (λ s. s ++ option_to_list (made_by line)) so_far_is ∙ ap (λ s. filter_map made_by (take i history) ++ s) (sym one)
    ∙ sym (filter_map-append made_by (take i history) (get_or history i line ∷ [])) ∙ ap (filter_map made_by) (sym (take_more history i line low))

-- the path of what stands at the slot's own place
pub path_found : (made : List MadeNode) (slot : ℕ) (node : MadeNode) → length (filter (λ (m : SlotPath). m.slot == slot) (map slot_path_of made)) ≡ 1 → slice_get made slot ≡ Some node → node.slot ≡ slot
    → node.path.now ≡ path_in (map slot_path_of made) slot
path_found made slot node one at is =
    let there = slice_get-map_at slot_path_of made slot node at in
    let found = only_found (λ (m : SlotPath). m.slot == slot) (map slot_path_of made) slot (slot_path_of node) one there (eq-eqb node.slot slot is) in
    sym (ap (λ o. option_map_or (λ (m : SlotPath). m.path) o []) found)
