-- Items and moments that have the same entries are joined in one list, in which each entry stands once: it is the list of members that
-- a lawful report is said to have.
use Rattle.std.proofs.Common.{◌≡◌, ◌∙◌, Bool, true, false, not, cond, List, [], ◌∷◌, ◌++◌, append_assoc, map, Option, Some, None, refl, sym, ap, subst}
use Rattle.std.specs.Prelude.{filter_map}
use Rattle.std.specs.List.{cons_option}
use Rattle.std.proofs.lemmas.List.{append-nil}
use Rattle.std.proofs.lemmas.List.Elements.{filter_map-append}
use Rattle.std.proofs.lemmas.Option.{none-some, same_Some}
use Rattle.base.specs.Each.{Each, EachAfter}
use Rattle.base.proofs.EachLaws.{each_carried, each_parts, each_weaker, filter_map_pushed}
use Rattle.base.proofs.PlaceLaws.{heads_are, tails_are}
use Rattle.quiesce_core.specs.declared.event.Event.{Event}
use Rattle.quiesce_core.specs.Runs.{IsRun}
use Rattle.quiesce_core.proofs.RunLaws.{fronts_are_runs}
use Rattle.report_types.specs.declared.report.HistoryLine.{HistoryLine}
use Rattle.report_types.specs.declared.report.HistoryLine.TheVariants as to
use Rattle.change_spec.specs.Members as members
use Rattle.change_spec.specs.Members.{Member, event_of, is_root, without_roots}
use Rattle.change_spec.proofs.MemberLaws.{root_event}
use Rattle.txn_records.specs.Entries.{event_in}
use Rattle.txn_records.specs.declared.entry.Entry.{Entry}
use Rattle.txn_records.specs.Records as records
use Rattle.txn_records.specs.Records.{Moment, IsRecordOf, IsSo, event_at}
use Rattle.change_board.specs.Transcripts as transcripts
use Rattle.change_board.specs.Transcripts.{Item}
use Rattle.change_transcript_laws.specs.Joining.{Joint, of_node, of_line, of_entry, item_of, items_in, line_member, member_of, members_in, moment_of, moments_in}
use Rattle.change_transcript_laws.proofs.ItemLemmas.{AreFair, aside_event}

pub record Joined (t : List Item) (m : List Moment) : Type 0 where
  pub joint : List Joint
  pub items_are : items_in joint ≡ t
  pub moments_are : moments_in joint ≡ m

-- ---- nodes' events up to the next entry

nodes_items : (es : List Event) (js : List Joint) → items_in (map of_node es ++ js) ≡ items_in js
nodes_items [] js = refl
nodes_items (e ∷ es) js = nodes_items es js

nodes_moments : (es : List Event) (js : List Joint) → moments_in (map of_node es ++ js) ≡ map records.by_node es ++ moments_in js
nodes_moments [] js = refl
nodes_moments (e ∷ es) js = ap (λ m. records.by_node e ∷ m) (nodes_moments es js)

-- moments of nodes alone
record Alone (m : List Moment) : Type 0 where
  front : List Event
  are : m ≡ map records.by_node front

alone : (m : List Moment) → records.entries m ≡ [] → Alone m
alone [] h = record { front = []; are = refl }
alone (records.by_node e ∷ m) h = let w = alone m h in record { front = e ∷ w.front; are = ap (λ k. records.by_node e ∷ k) w.are }
alone (records.entry x ∷ m) h = absurd (cc h)

-- moments up to an entry
record UpTo (x : Entry) (es : List Entry) (m : List Moment) : Type 0 where
  front : List Event
  rest : List Moment
  are : m ≡ map records.by_node front ++ records.entry x ∷ rest
  rest_entries : records.entries rest ≡ es

up_to : (x : Entry) (es : List Entry) (m : List Moment) → records.entries m ≡ x ∷ es → UpTo x es m
up_to x es [] h = absurd (cc h)
up_to x es (records.by_node e ∷ m) h =
    let w = up_to x es m h in record { front = e ∷ w.front; rest = w.rest; are = ap (λ k. records.by_node e ∷ k) w.are; rest_entries = w.rest_entries }
up_to x es (records.entry y ∷ m) h =
    record {
      front = [];
      rest = m;
      are = ap (λ z. records.entry z ∷ m) (heads_are y x (records.entries m) es h);
      rest_entries = tails_are y x (records.entries m) es h;
    }

-- ---- the joint list

with_line : (l : HistoryLine) (t : List Item) (m : List Moment) → Joined t m → Joined (transcripts.said l ∷ t) m
with_line l t m w = record { joint = of_line l ∷ w.joint; items_are = ap (λ k. transcripts.said l ∷ k) w.items_are; moments_are = w.moments_are }

with_silent : (x : Entry) (t : List Item) (m : List Moment) (u : UpTo x (transcripts.entries t) m) → Joined t u.rest → Joined (transcripts.silent x ∷ t) m
with_silent x t m u w = record {
  joint = map of_node u.front ++ of_entry x None ∷ w.joint;
  items_are = nodes_items u.front (of_entry x None ∷ w.joint) ∙ ap (λ k. transcripts.silent x ∷ k) w.items_are;
  moments_are = nodes_moments u.front (of_entry x None ∷ w.joint) ∙ ap (λ k. map records.by_node u.front ++ records.entry x ∷ k) w.moments_are ∙ sym u.are;
}

with_told : (x : Entry) (l : HistoryLine) (t : List Item) (m : List Moment) (u : UpTo x (transcripts.entries t) m) → Joined t u.rest → Joined (transcripts.told x l ∷ t) m
with_told x l t m u w = record {
  joint = map of_node u.front ++ of_entry x (Some l) ∷ w.joint;
  items_are = nodes_items u.front (of_entry x (Some l) ∷ w.joint) ∙ ap (λ k. transcripts.told x l ∷ k) w.items_are;
  moments_are = nodes_moments u.front (of_entry x (Some l) ∷ w.joint) ∙ ap (λ k. map records.by_node u.front ++ records.entry x ∷ k) w.moments_are ∙ sym u.are;
}

pub joined : (t : List Item) (m : List Moment) → records.entries m ≡ transcripts.entries t → Joined t m
joined [] m h =
    let w = alone m h in
    record {
      joint = map of_node w.front ++ [];
      items_are = nodes_items w.front [];
      moments_are = nodes_moments w.front [] ∙ append-nil (map records.by_node w.front) ∙ sym w.are;
    }
joined (transcripts.said l ∷ t) m h = with_line l t m (joined t m h)
joined (transcripts.silent x ∷ t) m h = let u = up_to x (transcripts.entries t) m h in with_silent x t m u (joined t u.rest u.rest_entries)
joined (transcripts.told x l ∷ t) m h = let u = up_to x (transcripts.entries t) m h in with_told x l t m u (joined t u.rest u.rest_entries)

-- ---- lines and events of the members

line_of_member : (l : HistoryLine) (ms : List Member) (b : Bool) → members.lines (cons_option (cond b None (Some (members.of_history l))) ms) ≡ cond (not b) (l ∷ members.lines ms) (members.lines ms)
line_of_member l ms true = refl
line_of_member l ms false = refl

pub member_lines : (js : List Joint) → members.lines (members_in js) ≡ without_roots (transcripts.lines (items_in js))
member_lines [] = refl
member_lines (of_node e ∷ js) = member_lines js
member_lines (of_line l ∷ js) =
    line_of_member l (members_in js) (is_root l) ∙ ap (λ ls. cond (not (is_root l)) (l ∷ ls) ls) (member_lines js)
member_lines (of_entry x None ∷ js) = member_lines js
member_lines (of_entry x (Some l) ∷ js) =
    line_of_member l (members_in js) (is_root l) ∙ ap (λ ls. cond (not (is_root l)) (l ∷ ls) ls) (member_lines js)

event_by : (l : HistoryLine) (ms : List Member) (b : Bool) → is_root l ≡ b → members.events (cons_option (cond b None (Some (members.of_history l))) ms) ≡ cons_option (event_of l) (members.events ms)
event_by l ms true h = sym (ap (λ o. cons_option o (members.events ms)) (root_event l h))
event_by l ms false h = refl

event_of_member : (l : HistoryLine) (ms : List Member) → members.events (cons_option (line_member l) ms) ≡ cons_option (event_of l) (members.events ms)
event_of_member l ms = event_by l ms (is_root l) refl

pub member_events : (js : List Joint) → AreFair (items_in js) → members.events (members_in js) ≡ records.events (moments_in js)
member_events [] f = refl
member_events (of_node e ∷ js) f = ap (λ es. e ∷ es) (member_events js f)
member_events (of_line l ∷ js) f =
    event_of_member l (members_in js) ∙ ap (λ o. cons_option o (members.events (members_in js))) (aside_event l f.0) ∙ member_events js f.1
member_events (of_entry x None ∷ js) f = member_events js f.1 ∙ sym (ap (λ o. cons_option o (records.events (moments_in js))) f.0)
member_events (of_entry x (Some l) ∷ js) f =
    event_of_member l (members_in js) ∙ ap (λ o. cons_option o (members.events (members_in js))) (sym f.0.0)
    ∙ ap (cons_option (event_in x)) (member_events js f.1)

-- what holds at each place of the values of a partial function holds at each place of the list, of its value there
abbrev pub Lifted : {A B : Type 0} → (A → Option B) → (List B → B → Type 0) → List A → A → Type 0
Lifted {A} {B} f Q before x = (y : B) → f x ≡ Some y → Q (filter_map f before) y

lift_by : {A B : Type 0} (f : A → Option B) (Q : List B → B → Type 0) (before xs : List A) (x : A) (o : Option B) → f x ≡ o
    → (EachAfter Q (filter_map f (before ++ x ∷ [])) (filter_map f xs) → EachAfter (Lifted f Q) (before ++ x ∷ []) xs)
    → EachAfter Q (filter_map f before) (cons_option o (filter_map f xs)) → Lifted f Q before x × EachAfter (Lifted f Q) (before ++ x ∷ []) xs
lift_by f Q before xs x None is later each = (
  λ y e. absurd (none-some y (sym is ∙ e)),
  later (subst (λ zs. EachAfter Q zs (filter_map f xs)) (sym (filter_map_pushed f before x None is ∙ append-nil (filter_map f before))) each),
)
lift_by f Q before xs x (Some y) is later each = (
  λ z e. subst (Q (filter_map f before)) (same_Some y z (sym is ∙ e)) each.0,
  later (subst (λ zs. EachAfter Q zs (filter_map f xs)) (sym (filter_map_pushed f before x (Some y) is)) each.1),
)

pub lifted : {A B : Type 0} (f : A → Option B) (Q : List B → B → Type 0) (before xs : List A) → EachAfter Q (filter_map f before) (filter_map f xs) → EachAfter (Lifted f Q) before xs
lifted f Q before [] each = tt
lifted f Q before (x ∷ xs) each = lift_by f Q before xs x (f x) refl (lifted f Q (before ++ x ∷ []) xs) each

pub each_both : {A : Type 0} (P Q : List A → A → Type 0) (before xs : List A) → EachAfter P before xs → EachAfter Q before xs → EachAfter (λ ys x. P ys x × Q ys x) before xs
each_both P Q before [] p q = tt
each_both P Q before (x ∷ xs) p q = ((p.0, q.0), each_both P Q (before ++ x ∷ []) xs p.1 q.1)

-- items are fair, and so are those before them
abbrev pub AreFairTo : List Joint → Joint → Type 0
AreFairTo before j = AreFair (items_in before) × AreFair (items_in (j ∷ []))

pub fair_front : (t u : List Item) → AreFair (t ++ u) → AreFair t
fair_front [] u f = tt
fair_front (x ∷ t) u f = (f.0, fair_front t u f.1)

pub fair_back : (t u : List Item) → AreFair (t ++ u) → AreFair u
fair_back [] u f = f
fair_back (x ∷ t) u f = fair_back t u f.1

pub each_fair : (before js : List Joint) → AreFair (items_in (before ++ js)) → EachAfter AreFairTo before js
each_fair before [] f = tt
each_fair before (j ∷ js) f =
    let parts : items_in (before ++ j ∷ js) ≡ items_in before ++ (items_in (j ∷ []) ++ items_in js) =
    filter_map-append item_of before (j ∷ js) ∙ ap (λ t. items_in before ++ t) (filter_map-append item_of (j ∷ []) js) in
    let whole = subst AreFair parts f in (
      (fair_front (items_in before) (items_in (j ∷ []) ++ items_in js) whole, fair_front (items_in (j ∷ [])) (items_in js) (fair_back (items_in before) (items_in (j ∷ []) ++ items_in js) whole)),
      each_fair (before ++ j ∷ []) js (subst (λ k. AreFair (items_in k)) (sym (append_assoc before (j ∷ []) js)) f),
    )

-- the events up to each place are a run
abbrev pub IsFrontRun : List Joint → Joint → Type 0
IsFrontRun before j = IsRun (records.events (moments_in before))

pub each_front : (before js : List Joint) → IsRun (records.events (moments_in (before ++ js))) → EachAfter IsFrontRun before js
each_front before [] run = tt
each_front before (j ∷ js) run =
    let parts : records.events (moments_in (before ++ j ∷ js)) ≡ records.events (moments_in before) ++ records.events (moments_in (j ∷ js)) =
    ap records.events (filter_map-append moment_of before (j ∷ js)) ∙ filter_map-append event_at (moments_in before) (moments_in (j ∷ js)) in (
      fronts_are_runs (records.events (moments_in before)) (records.events (moments_in (j ∷ js))) (subst IsRun parts run),
      each_front (before ++ j ∷ []) js (subst (λ k. IsRun (records.events (moments_in k))) (sym (append_assoc before (j ∷ []) js)) run),
    )

-- items and moments have the same entries
pub both_entries : (js : List Joint) → transcripts.entries (items_in js) ≡ records.entries (moments_in js)
both_entries [] = refl
both_entries (of_node e ∷ js) = both_entries js
both_entries (of_line l ∷ js) = both_entries js
both_entries (of_entry x None ∷ js) = ap (λ es. x ∷ es) (both_entries js)
both_entries (of_entry x (Some l) ∷ js) = ap (λ es. x ∷ es) (both_entries js)

-- what is so up to each place
abbrev IsFrontSo : List Joint → Joint → Type 0
IsFrontSo before j = Each IsSo (moments_in before)

each_so : (before js : List Joint) → Each IsSo (moments_in (before ++ js)) → EachAfter IsFrontSo before js
each_so before [] so = tt
each_so before (j ∷ js) so = (
  (each_parts IsSo [] (moments_in before) (moments_in (j ∷ js)) (subst (λ m. Each IsSo m) (filter_map-append moment_of before (j ∷ js)) so)).0,
  each_so (before ++ j ∷ []) js (subst (λ k. Each IsSo (moments_in k)) (sym (append_assoc before (j ∷ []) js)) so),
)

-- what is known at a place: what is so there, that the items up to it are fair, and of which run their entries are the record
pub record IsKnown (before : List Joint) (j : Joint) : Type 0 where
  pub so : Lifted moment_of IsSo before j
  pub fair : AreFair (items_in before)
  pub fair_here : AreFair (items_in (j ∷ []))
  pub is_of : IsRecordOf (transcripts.entries (items_in before)) (moments_in before)

pub known : (js : List Joint) → AreFair (items_in js) → IsRun (records.events (moments_in js)) → Each IsSo (moments_in js) → Each IsKnown js
known js f run so =
    each_weaker (λ ys x. (Lifted moment_of IsSo ys x × AreFairTo ys x) × (IsFrontRun ys x × IsFrontSo ys x)) IsKnown [] js
    (λ ys x w. record { so = w.0.0; fair = w.0.1.0; fair_here = w.0.1.1; is_of = record { record_is = sym (both_entries ys); runs = w.1.0; so = w.1.1 } })
    (each_both (λ ys x. Lifted moment_of IsSo ys x × AreFairTo ys x) (λ ys x. IsFrontRun ys x × IsFrontSo ys x) [] js
    (each_both (Lifted moment_of IsSo) AreFairTo [] js (lifted moment_of IsSo [] js so) (each_fair [] js f))
    (each_both IsFrontRun IsFrontSo [] js (each_front [] js run) (each_so [] js so)))

-- a fact of members that follows from what is known
pub by_known : (Q : List Member → Member → Type 0) → ((before : List Joint) (j : Joint) (x : Member) → member_of j ≡ Some x → IsKnown before j → Q (members_in before) x)
    → (js : List Joint) → Each IsKnown js → Each Q (members_in js)
by_known Q follows js each = each_carried member_of IsKnown Q (λ before j x e k. follows before j x e k) [] js each
