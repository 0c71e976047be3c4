-- Lists of members: their places and parts, their events and their lines, and what their configuration comes from.
use Rattle.std.proofs.Common.{◌≡◌, ◌∙◌, Bool, true, false, ◌||◌, cond, List, [], ◌∷◌, ◌++◌, append_assoc, Option, Some, None, map, refl, ap, sym}
use Rattle.std.specs.Prelude.{filter, filter_map, fold, not, All, ℕ}
use Rattle.std.specs.List.{cons_option, list_any}
use Rattle.std.proofs.lemmas.Bool.{both_ways, or_parts}
use Rattle.std.proofs.lemmas.List.{append-nil}
use Rattle.std.proofs.lemmas.List.Elements.{All-head, All-tail, filter_map-append}
use Rattle.base.proofs.PlaceLaws.{heads_are, tails_are}
use Rattle.quiesce_core.specs.declared.event.Event.{Event}
use Rattle.quiesce_core.specs.Doers.{is_of_change}
use Rattle.quiesce_core.specs.Effect.{change_next}
use Rattle.quiesce_core.specs.State.{empty}
use Rattle.quiesce_core.proofs.RunLaws.{changes_make_the_configuration}
use Rattle.report_types.specs.declared.report.HistoryLine.{HistoryLine}
use Rattle.report_types.specs.declared.report.HistoryLine.TheVariants as to
use Rattle.change_spec.specs.Lawful.{IsOfItsKind, EndsAs}
use Rattle.change_spec.specs.Members.{Member, by_node, of_history, event_in, event_of, events, is_root, line_in, lines, state_at, without_roots}
use Rattle.change_spec.specs.Scene.{config_after}
use Rattle.change_spec.specs.Follows.{Part, lines_of}
use Rattle.component_trait.specs.States.{NodeState}
use Rattle.report_types.specs.declared.report.Last.{Last}

pub events_parts : (m k : List Member) → events (m ++ k) ≡ events m ++ events k
events_parts m k = filter_map-append event_in m k

pub lines_parts : (m k : List Member) → lines (m ++ k) ≡ lines m ++ lines k
lines_parts m k = filter_map-append line_in m k

-- nodes do events and tell no lines

pub events_of_nodes : (es : List Event) → events (map by_node es) ≡ es
events_of_nodes [] = refl
events_of_nodes (e ∷ es) = ap (λ k. e ∷ k) (events_of_nodes es)

pub lines_of_nodes : (es : List Event) → lines (map by_node es) ≡ []
lines_of_nodes [] = refl
lines_of_nodes (e ∷ es) = lines_of_nodes es

-- where the lines are two lists, so are the members
pub record Split (m : List Member) (a b : List HistoryLine) : Type 0 where
  pub front : List Member
  pub back : List Member
  pub parts : m ≡ front ++ back
  pub front_lines : lines front ≡ a
  pub back_lines : lines back ≡ b

pub split : (m : List Member) (a b : List HistoryLine) → lines m ≡ a ++ b → Split m a b
split m [] b h = record { front = []; back = m; parts = refl; front_lines = refl; back_lines = h }
split [] (x ∷ a) b h = absurd (cc h)
split (by_node e ∷ m) (x ∷ a) b h =
    let w = split m (x ∷ a) b h in
    record { front = by_node e ∷ w.front; back = w.back; parts = ap (λ k. by_node e ∷ k) w.parts; front_lines = w.front_lines; back_lines = w.back_lines }
split (of_history l ∷ m) (x ∷ a) b h =
    let w = split m a b (tails_are l x (lines m) (a ++ b) h) in
    record {
      front = of_history l ∷ w.front;
      back = w.back;
      parts = ap (λ k. of_history l ∷ k) w.parts;
      front_lines = ap (λ y. y ∷ lines w.front) (heads_are l x (lines m) (a ++ b) h) ∙ ap (λ ys. x ∷ ys) w.front_lines;
      back_lines = w.back_lines;
    }

-- a line that passes a test has its place among the members
pub record LineIn (test : HistoryLine → Bool) (m : List Member) : Type 0 where
  pub before : List Member
  pub after : List Member
  pub line : HistoryLine
  pub parts : m ≡ before ++ of_history line ∷ after
  pub passes : test line ≡ true

later_line : (test : HistoryLine → Bool) (x : Member) (m : List Member) → LineIn test m → LineIn test (x ∷ m)
later_line test x m w = record { before = x ∷ w.before; after = w.after; line = w.line; parts = ap (λ k. x ∷ k) w.parts; passes = w.passes }

here_or_later : (test : HistoryLine → Bool) (l : HistoryLine) (m : List Member) (b : Bool) → test l ≡ b → (b || list_any test (lines m)) ≡ true → (list_any test (lines m) ≡ true → LineIn test m) → LineIn test (of_history l ∷ m)
here_or_later test l m true passes h later = record { before = []; after = m; line = l; parts = refl; passes = passes }
here_or_later test l m false fails h later = later_line test (of_history l) m (later h)

pub line_there : (test : HistoryLine → Bool) (m : List Member) → list_any test (lines m) ≡ true → LineIn test m
line_there test [] h = absurd (both_ways false refl h)
line_there test (by_node e ∷ m) h = later_line test (by_node e) m (line_there test m h)
line_there test (of_history l ∷ m) h = here_or_later test l m (test l) refl h (line_there test m)

-- a line that is an event is one of the change
pub kept_change : (l : HistoryLine) (es : List Event) → filter is_of_change (cons_option (event_of l) es) ≡ cons_option (event_of l) (filter is_of_change es)
kept_change (to.Make n made from) es = refl
kept_change _ es = refl

-- so the change's events are those of the lines
pub changes_are_lines : (m : List Member) → All IsOfItsKind m → filter is_of_change (events m) ≡ filter_map event_of (lines m)
changes_are_lines [] h = refl
changes_are_lines (by_node e ∷ m) h =
    ap (λ b. cond b (e ∷ filter is_of_change (events m)) (filter is_of_change (events m))) (All-head IsOfItsKind (by_node e) m h)
    ∙ changes_are_lines m (All-tail IsOfItsKind (by_node e) m h)
changes_are_lines (of_history l ∷ m) h =
    kept_change l (events m) ∙ ap (cons_option (event_of l)) (changes_are_lines m (All-tail IsOfItsKind (of_history l) m h))

-- and make the configuration
pub config_of_lines : (m : List Member) → All IsOfItsKind m → (state_at m).config ≡ config_after (lines m)
config_of_lines m h = changes_make_the_configuration (events m) ∙ ap (λ es. fold change_next empty.config es) (changes_are_lines m h)

none_of_line : (test : Event → Bool) (o : Option Event) (told all : List Event) → (list_any test told ≡ false → list_any test all ≡ false)
    → list_any test (cons_option o told) ≡ false → list_any test (cons_option o all) ≡ false
none_of_line test None told all rest n = rest n
none_of_line test (Some e) told all rest n = let w = or_parts (test e) (list_any test told) n in ap (λ b. b || list_any test all) w.0 ∙ rest w.1

-- what no node does and no line is doesn't happen
pub none_happens : (test : Event → Bool) → ((e : Event) → is_of_change e ≡ false → test e ≡ false) → (m : List Member) → All IsOfItsKind m
    → list_any test (filter_map event_of (lines m)) ≡ false → list_any test (events m) ≡ false
none_happens test no_node [] h none = refl
none_happens test no_node (by_node e ∷ m) h none =
    ap (λ b. b || list_any test (events m)) (no_node e (All-head IsOfItsKind (by_node e) m h))
    ∙ none_happens test no_node m (All-tail IsOfItsKind (by_node e) m h) none
none_happens test no_node (of_history l ∷ m) h none =
    none_of_line test (event_of l) (filter_map event_of (lines m)) (events m) (none_happens test no_node m (All-tail IsOfItsKind (of_history l) m h)) none

-- lines on what was open are no events
no_event : (l : HistoryLine) (es : List Event) → is_root l ≡ true → cons_option (event_of l) es ≡ es
no_event (to.Root p k) es h = refl
no_event _ es h = absurd (both_ways false refl h)

drop_root : (l : HistoryLine) (all left : List HistoryLine) (b : Bool) → is_root l ≡ b → filter_map event_of left ≡ filter_map event_of all
    → filter_map event_of (cond (not b) (l ∷ left) left) ≡ filter_map event_of (l ∷ all)
drop_root l all left true h rest = rest ∙ sym (no_event l (filter_map event_of all) h)
drop_root l all left false h rest = ap (cons_option (event_of l)) rest

pub events_without_roots : (history : List HistoryLine) → filter_map event_of (without_roots history) ≡ filter_map event_of history
events_without_roots [] = refl
events_without_roots (l ∷ history) = drop_root l history (without_roots history) (is_root l) refl (events_without_roots history)

-- the place of a line, by the lines before it
pub record AtLine (m : List Member) (a : List HistoryLine) (l : HistoryLine) : Type 0 where
  pub before : List Member
  pub after : List Member
  pub parts : m ≡ before ++ of_history l ∷ after
  pub lines_before : lines before ≡ a

pub at_line : (m : List Member) (a : List HistoryLine) (l : HistoryLine) (b : List HistoryLine) → lines m ≡ a ++ l ∷ b → AtLine m a l
at_line [] [] l b h = absurd (cc h)
at_line [] (y ∷ a) l b h = absurd (cc h)
at_line (by_node e ∷ m) a l b h =
    let w = at_line m a l b h in
    record { before = by_node e ∷ w.before; after = w.after; parts = ap (λ k. by_node e ∷ k) w.parts; lines_before = w.lines_before }
at_line (of_history x ∷ m) [] l b h =
    record { before = []; after = m; parts = ap (λ y. of_history y ∷ m) (heads_are x l (lines m) b h); lines_before = refl }
at_line (of_history x ∷ m) (y ∷ a) l b h =
    let w = at_line m a l b (tails_are x y (lines m) (a ++ l ∷ b) h) in
    record {
      before = of_history x ∷ w.before;
      after = w.after;
      parts = ap (λ k. of_history x ∷ k) w.parts;
      lines_before = ap (λ z. z ∷ lines w.before) (heads_are x y (lines m) (a ++ l ∷ b) h) ∙ ap (λ zs. y ∷ zs) w.lines_before;
    }

-- where a node ends there is a fold of it
pub ended_there : (o : Option NodeState) (j : Option ℕ) (l : Last) → EndsAs o j l → (s : NodeState) × (o ≡ Some s)
ended_there None None l h = absurd h
ended_there None (Some j) l h = absurd h
ended_there (Some s) j l h = (s, refl)

pub root_event : (l : HistoryLine) → is_root l ≡ true → event_of l ≡ None
root_event (to.Root p k) h = refl
root_event _ h = absurd (both_ways false refl h)

-- all statements

pub lines_more : (parts : List Part) (p : Part) → lines_of (parts ++ p ∷ []) ≡ lines_of parts ++ p.lines
lines_more [] p = append-nil p.lines
lines_more (q ∷ parts) p = ap (λ ls. q.lines ++ ls) (lines_more parts p) ∙ sym (append_assoc q.lines (lines_of parts) p.lines)
