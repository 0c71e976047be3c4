-- The table that is written line by line stands for the configuration of the lines, and for where states went.
use Rattle.std.proofs.Common.{◌≡◌, ◌∙◌, ℕ, zero, suc, ◌+◌, ◌<◌, ◌≤◌, Bool, true, false, cond, not, ◌&&◌, ◌||◌, List, [], ◌∷◌, ◌++◌, append_assoc, length, map, Option, Some, None, refl, sym, ap, subst, ⊎_elim, arith}
use Rattle.std.specs.Prelude.{◌==◌, nat_lt, nat_le, fold, filter_map, find, is_none, option_map, slice_get, slice_index_or, slice_set}
use Rattle.std.specs.List.{cons_option, list_any, range_with_len}
use Rattle.std.specs.Option.{option_map_or, option_or}
use Rattle.std.proofs.lemmas.Bool.{and_parts, both_ways, cases_eq, eqb-true, eq-eqb, ne_eqb}
use Rattle.std.proofs.lemmas.List.{append-nil, get_or-set_other, length-append, length-map, length-set, map-append, map-set}
use Rattle.std.proofs.lemmas.List.Elements.{filter_map-append}
use Rattle.std.proofs.lemmas.List.Folds.{find-append, list_any-append}
use Rattle.std.proofs.lemmas.Option.{none-some, same_Some, slice_get-map, slice_get_within}
use Rattle.std.proofs.Math.Bool.{or-false}
use Rattle.std.proofs.lemmas.Grind.{get_or-set_at}
use Rattle.std.proofs.lemmas.List.FromFn.{length-range_with_len}
use Rattle.report_check.proofs.PartlyLemmas.{none_stays}
use Rattle.base.specs.Each.{EachAfter}
use Rattle.base.proofs.OptionLaws.{map_or_true}
use Rattle.base.proofs.PlaceLaws.{fresh_behind}
use Rattle.base.proofs.RisingLaws.{places_more}
use Rattle.config_graph.specs.Kinds.{row}
use Rattle.config_graph.specs.declared.node.Node.{Node}
use Rattle.config_graph.specs.declared.TheConstants.{MAX_NODES, MAX_PORTS}
use Rattle.quiesce_core.specs.Rules.{has_its_argument, has_room}
use Rattle.quiesce_core.specs.declared.event.Event.{Event}
use Rattle.quiesce_core.specs.declared.state.Slot.{Slot}
use Rattle.quiesce_core.specs.Effect.{change_next, new_gates}
use Rattle.quiesce_core.specs.State.{Configuration, slot}
use Rattle.report_types.specs.declared.report.HistoryLine.{HistoryLine}
use Rattle.report_types.specs.declared.report.HistoryLine.TheVariants as to
use Rattle.change_spec.specs.Endings.{is_made_from, moved_to}
use Rattle.change_spec.specs.Members.{event_of, made_slot}
use Rattle.change_spec.specs.Scene.{config_after}
use Rattle.change_spec.proofs.PortLaws.{config_more}
use Rattle.quiesce_laws.specs.Steps.{change_all}
use Rattle.report_check.specs.Makeable.{IsMakeable, is_left_over, is_makeable}
use Rattle.report_check.specs.Tables.{Nodes, may_go_over, may_make, no_nodes, read_line, read_next, read_on, with_heir, with_node, with_removed}
use Rattle.report_check.specs.declared.tables.MadeNode.{MadeNode}

abbrev pub made_in : Slot → MadeNode
made_in m = record { kind = m.node.kind; arg = m.node.arg; first_port = m.first_port; from = m.from; live = m.live }

-- ---- the configuration behind one line more

abbrev config_next : Configuration → HistoryLine → Configuration
config_next c l = option_map_or (change_next c) (event_of l) c

step_is : (c : Configuration) (o : Option Event) → change_all c (cons_option o []) ≡ option_map_or (change_next c) o c
step_is c None = refl
step_is c (Some e) = refl

config_behind : (before : List HistoryLine) (l : HistoryLine) → config_after (before ++ l ∷ []) ≡ config_next (config_after before) l
config_behind before l = config_more before (l ∷ []) ∙ step_is (config_after before) (event_of l)

-- ---- where states went, behind one line more

same_find : (p q : ℕ → Bool) (a n : ℕ) → ((x : ℕ) → x < a + n → p x ≡ q x) → find p (range_with_len a n) ≡ find q (range_with_len a n)
same_find p q a zero same = refl
same_find p q a (suc n) same =
    ap (λ b. cond b (Some a) (find p (range_with_len (a + 1) n))) (same a (omega arith))
    ∙ ap (λ o. cond (q a) (Some a) o) (same_find p q (a + 1) n (λ x below. same x (omega arith)))

-- whether a line makes a node from the one in this slot
abbrev is_from : Option ℕ → ℕ → Bool
is_from from k = option_map_or (λ f. f == k) from false

abbrev to_test : List HistoryLine → ℕ → ℕ → Bool
to_test before k j = list_any (is_made_from k j) before

-- what is written of a history by its lines so far
pub record StandsFor (before : List HistoryLine) (t : Nodes) : Type 0 where
  pub made : t.made ≡ map made_in (config_after before).slots
  pub ports : t.ports ≡ length (config_after before).gates
  pub many : length t.heirs ≡ length t.made
  pub heirs : (k : ℕ) → slice_index_or t.heirs k None ≡ moved_to before k
  pub slots : filter_map made_slot before ≡ range_with_len 0 (length t.made)
  pub fresh : (k j : ℕ) → length t.made ≤ j → to_test before k j ≡ false

pub nothing_stands : StandsFor [] no_nodes
nothing_stands = record { made = refl; ports = refl; many = refl; heirs = λ k. refl; slots = refl; fresh = λ k j h. refl }

-- a line that makes no node
plain_to : (before : List HistoryLine) (l : HistoryLine) → ((k j : ℕ) → is_made_from k j l ≡ false) → (k j : ℕ) → to_test (before ++ l ∷ []) k j ≡ to_test before k j
plain_to before l plain k j =
    list_any-append (is_made_from k j) before (l ∷ []) ∙ ap (λ b. to_test before k j || (b || false)) (plain k j) ∙ or-false (to_test before k j)

plain_slots : (before : List HistoryLine) (l : HistoryLine) → made_slot l ≡ None → filter_map made_slot (before ++ l ∷ []) ≡ filter_map made_slot before
plain_slots before l plain = filter_map-append made_slot before (l ∷ []) ∙ ap (λ o. filter_map made_slot before ++ cons_option o []) plain ∙ append-nil (filter_map made_slot before)

plain_moves : (before : List HistoryLine) (l : HistoryLine) → ((k j : ℕ) → is_made_from k j l ≡ false) → made_slot l ≡ None → (k : ℕ) → moved_to (before ++ l ∷ []) k ≡ moved_to before k
plain_moves before l plain none k = λ i. find (λ j. plain_to before l plain k j i) (plain_slots before l none i)

plain_stands : (before : List HistoryLine) (l : HistoryLine) (t u : Nodes) → ((k j : ℕ) → is_made_from k j l ≡ false) → made_slot l ≡ None → StandsFor before t
    → u.made ≡ map made_in (config_next (config_after before) l).slots → length u.made ≡ length t.made
    → t.ports ≡ u.ports → length (config_next (config_after before) l).gates ≡ length (config_after before).gates → u.heirs ≡ t.heirs → StandsFor (before ++ l ∷ []) u
plain_stands before l t u plain none h made long ports gates heirs = record {
  made = made ∙ ap (λ (c : Configuration). map made_in c.slots) (sym (config_behind before l));
  ports = sym ports ∙ h.ports ∙ sym gates ∙ ap (λ (c : Configuration). length c.gates) (sym (config_behind before l));
  many = ap length heirs ∙ h.many ∙ sym long;
  heirs = λ k. ap (λ xs. slice_index_or xs k None) heirs ∙ h.heirs k ∙ sym (plain_moves before l plain none k);
  slots = plain_slots before l none ∙ h.slots ∙ ap (range_with_len 0) (sym long);
  fresh = λ k j past. plain_to before l plain k j ∙ h.fresh k j (omega (arith, past, long));
}

-- a removal
module _ (before : List HistoryLine) (n : ℕ) (t : Nodes) (h : StandsFor before t) where
  abbrev c : Configuration
  c = config_after before

  abbrev gone : MadeNode → MadeNode
  gone m = record m { live = false }

  got : slice_get t.made n ≡ option_map made_in (slot c n)
  got = ap (λ xs. slice_get xs n) h.made ∙ slice_get-map made_in c.slots n

  removed_by : (o : Option Slot) → option_map_or (λ (m : MadeNode). slice_set t.made n (gone m)) (option_map made_in o) t.made ≡ map made_in (option_map_or (λ (m : Slot). slice_set c.slots n (record m { live = false })) o c.slots)
  removed_by None = h.made
  removed_by (Some m) = ap (λ xs. slice_set xs n (gone (made_in m))) h.made ∙ sym (map-set made_in c.slots n (record m { live = false }))

  removed_made : (with_removed t n).made ≡ map made_in (config_next c (to.Remove n)).slots
  removed_made = ap (λ o. option_map_or (λ (m : MadeNode). slice_set t.made n (gone m)) o t.made) got ∙ removed_by (slot c n)

  removed_long : (o : Option MadeNode) → length (option_map_or (λ (m : MadeNode). slice_set t.made n (gone m)) o t.made) ≡ length t.made
  removed_long None = refl
  removed_long (Some m) = length-set t.made n (gone m)

  removed_gates : (o : Option Slot) → length (record c { slots = option_map_or (λ (m : Slot). slice_set c.slots n (record m { live = false })) o c.slots }).gates ≡ length c.gates
  removed_gates o = refl

  pub removed_stands : StandsFor (before ++ to.Remove n ∷ []) (with_removed t n)
  removed_stands = plain_stands before (to.Remove n) t (with_removed t n) (λ k j. refl) refl h removed_made (removed_long (slice_get t.made n)) refl refl refl

-- ---- a node is made

module _ (before : List HistoryLine) (n : ℕ) (node : Node) (from : Option ℕ) (t : Nodes) (h : StandsFor before t) where
  abbrev d : Configuration
  d = config_after before

  abbrev line : HistoryLine
  line = to.Make n node from

  long : length t.made ≡ length d.slots
  long = ap length h.made ∙ length-map d.slots made_in

  same_over : (k : ℕ) → may_go_over t k ≡ is_left_over before k
  same_over k =
      ap (λ o. option_map_or (λ (m : MadeNode). not m.live && is_none (slice_index_or t.heirs k None)) o false) (ap (λ xs. slice_get xs k) h.made ∙ slice_get-map made_in d.slots k)
      ∙ by (slot d k)
    where
      by : (o : Option Slot) → option_map_or (λ (m : MadeNode). not m.live && is_none (slice_index_or t.heirs k None)) (option_map made_in o) false
          ≡ option_map_or (λ (m : Slot). not m.live && is_none (moved_to before k)) o false
      by None = refl
      by (Some m) = ap (λ x. not m.live && is_none x) (h.heirs k)

  pub same_may : may_make t n node from ≡ is_makeable before n node from
  same_may = λ i.
      (n == long i && nat_lt n MAX_NODES && nat_le (h.ports i + length (row node.kind).requires_) MAX_PORTS) && has_its_argument node
      && option_map_or (λ k. same_over k i) from true

  module _ (ok : is_makeable before n node from ≡ true) where
    n_is : n ≡ length t.made
    n_is =
        let parts = and_parts (has_room d n node && has_its_argument node) (option_map_or (is_left_over before) from true) ok in
        let room = and_parts (has_room d n node) (has_its_argument node) parts.0 in
        let fits = and_parts (n == length d.slots && nat_lt n MAX_NODES) (nat_le (length d.gates + length (row node.kind).requires_) MAX_PORTS) room.0 in
        eqb-true n (length d.slots) (and_parts (n == length d.slots) (nat_lt n MAX_NODES) fits.0).0 ∙ sym long

    -- what is taken over was made, and went to none
    left_over : (k : ℕ) → from ≡ Some k → (k < length t.heirs) × (moved_to before k ≡ None)
    left_over k is =
        let over = (and_parts (has_room d n node && has_its_argument node) (option_map_or (is_left_over before) from true) ok).1 in
        let here : is_left_over before k ≡ true = sym (ap (λ o. option_map_or (is_left_over before) o true) is) ∙ over in
        let m = map_or_true (λ (m : Slot). not m.live && is_none (moved_to before k)) (slot d k) here in
        (omega (arith, h.many, long, slice_get_within d.slots k m.0 m.1), none_is (moved_to before k) (and_parts (not m.0.live) (is_none (moved_to before k)) m.2).1)
      where
        none_is : (o : Option ℕ) → is_none o ≡ true → o ≡ None
        none_is None e = refl
        none_is (Some j) e = absurd (both_ways false refl e)

    to_more : (k j : ℕ) → to_test (before ++ line ∷ []) k j ≡ (to_test before k j || cond (n == j) (is_from from k) false)
    to_more k j = list_any-append (is_made_from k j) before (line ∷ []) ∙ ap (λ b. to_test before k j || b) (or-false (cond (n == j) (is_from from k) false))

    slots_more : filter_map made_slot (before ++ line ∷ []) ≡ range_with_len 0 (length t.made) ++ n ∷ []
    slots_more = filter_map-append made_slot before (line ∷ []) ∙ ap (λ xs. xs ++ n ∷ []) h.slots

    to_below : (k j : ℕ) → j < 0 + length t.made → to_test (before ++ line ∷ []) k j ≡ to_test before k j
    to_below k j below = to_more k j ∙ ap (λ b. to_test before k j || cond b (is_from from k) false) (ne_eqb n j (λ e. omega (arith, e, n_is, below))) ∙ or-false (to_test before k j)

    to_here : (k : ℕ) → to_test (before ++ line ∷ []) k n ≡ is_from from k
    to_here k =
        to_more k n ∙ ap (λ b. b || cond (n == n) (is_from from k) false) (h.fresh k n (omega (arith, n_is)))
        ∙ ap (λ b. cond b (is_from from k) false) (eq-eqb n n refl)

    moves_more : (k : ℕ) → moved_to (before ++ line ∷ []) k ≡ option_or (moved_to before k) (cond (is_from from k) (Some n) None)
    moves_more k =
        let made_to : ℕ → Bool = to_test (before ++ line ∷ []) k in
        ap (find made_to) slots_more ∙ find-append made_to (range_with_len 0 (length t.made)) (n ∷ [])
        ∙ ap (λ o. option_or o (cond (made_to n) (Some n) None)) (same_find made_to (to_test before k) 0 (length t.made) (to_below k) ∙ ap (find (to_test before k)) (sym h.slots))
        ∙ ap (λ b. option_or (moved_to before k) (cond b (Some n) None)) (to_here k)

    or_none : (o : Option ℕ) → option_or o None ≡ o
    or_none None = refl
    or_none (Some j) = refl

    heirs_by : (o : Option ℕ) → from ≡ o → (k : ℕ) → slice_index_or (option_map_or (λ f. slice_set t.heirs f (Some n)) o t.heirs) k None ≡ option_or (moved_to before k) (cond (is_from o k) (Some n) None)
    heirs_by None is k = h.heirs k ∙ sym (or_none (moved_to before k))
    heirs_by (Some f) is k = ⊎_elim
        (λ (same : f ≡ k).
        let left = left_over f is in
        get_or-set_at t.heirs f k (Some n) None (sym same) left.0
        ∙ sym (ap (λ o. option_or o (cond (f == k) (Some n) None)) (ap (moved_to before) (sym same) ∙ left.1) ∙ ap (λ b. cond b (Some n) None) (eq-eqb f k same)))
        (λ (apart : f ≡ k → ⊥).
        get_or-set_other t.heirs f k (Some n) None (λ e. apart (sym e)) ∙ h.heirs k
        ∙ sym (ap (λ b. option_or (moved_to before k) (cond b (Some n) None)) (ne_eqb f k apart) ∙ or_none (moved_to before k)))
        (cases_eq f k)

    heirs_long : (o : Option ℕ) → length (option_map_or (λ f. slice_set t.heirs f (Some n)) o t.heirs) ≡ length t.heirs
    heirs_long None = refl
    heirs_long (Some f) = length-set t.heirs f (Some n)

    abbrev new : MadeNode
    new = record { kind = node.kind; arg = node.arg; first_port = t.ports; from = from; live = true }

    abbrev kept : List (Option ℕ)
    kept = (with_heir t from n).heirs

    pub made_stands : StandsFor (before ++ line ∷ []) (with_node (with_heir t from n) node from)
    made_stands = record {
      made =
          (λ i. h.made i ++ record { kind = node.kind; arg = node.arg; first_port = h.ports i; from = from; live = true } ∷ [])
          ∙ sym (map-append made_in d.slots (record { node = node; first_port = length d.gates; from = from; live = true } ∷ []))
          ∙ ap (λ (c : Configuration). map made_in c.slots) (sym (config_behind before line));
      ports =
          ap (λ k. k + length (row node.kind).requires_) h.ports
          ∙ sym (length-append d.gates (new_gates (length d.slots) (length (row node.kind).requires_))
          ∙ ap (λ k. length d.gates + k) (length-map (range_with_len 0 (length (row node.kind).requires_)) _ ∙ length-range_with_len 0 (length (row node.kind).requires_)))
          ∙ ap (λ (c : Configuration). length c.gates) (sym (config_behind before line));
      many = length-append kept (None ∷ []) ∙ ap (λ k. k + 1) (heirs_long from ∙ h.many) ∙ sym (length-append t.made (new ∷ []));
      heirs = λ k. fresh_behind kept None 1 k ∙ heirs_by from refl k ∙ sym (moves_more k);
      slots = slots_more ∙ ap (λ m. range_with_len 0 (length t.made) ++ m ∷ []) n_is ∙ sym (places_more (length t.made)) ∙ ap (range_with_len 0) (sym (length-append t.made (new ∷ [])));
      fresh = λ k j past.
          let above : length t.made + 1 ≤ j = omega (arith, past, length-append t.made (new ∷ [])) in
          to_more k j ∙ ap (λ b. b || cond (n == j) (is_from from k) false) (h.fresh k j (omega arith))
          ∙ ap (λ b. cond b (is_from from k) false) (ne_eqb n j (λ e. omega (arith, e, n_is, above)));
    }

-- ---- line by line

stays : (before : List HistoryLine) (l : HistoryLine) (t : Nodes) → StandsFor before t → ((k j : ℕ) → is_made_from k j l ≡ false) → made_slot l ≡ None
    → (config_next (config_after before) l).slots ≡ (config_after before).slots → length (config_next (config_after before) l).gates ≡ length (config_after before).gates → StandsFor (before ++ l ∷ []) t
stays before l t h plain none slots gates = plain_stands before l t t plain none h (h.made ∙ ap (map made_in) (sym slots)) refl refl gates refl

same_table : {P : Type 0} (before : List HistoryLine) (l : HistoryLine) (t u : Nodes) → Some t ≡ Some u → StandsFor (before ++ l ∷ []) t → P → P × StandsFor (before ++ l ∷ []) u
same_table before l t u is h p = (p, subst (StandsFor (before ++ l ∷ [])) (same_Some t u is) h)

-- a line is read exactly where it makes no node, or one that may be made
pub line_read : (before : List HistoryLine) (l : HistoryLine) (t u : Nodes) → StandsFor before t → read_line t l ≡ Some u → IsMakeable before l × StandsFor (before ++ l ∷ []) u
line_read before (to.Make n node from) t u h is = by (may_make t n node from) refl is
  where
    by : (b : Bool) → may_make t n node from ≡ b → cond b (Some (with_node (with_heir t from n) node from)) None ≡ Some u → IsMakeable before (to.Make n node from) × StandsFor (before ++ to.Make n node from ∷ []) u
    by true may e =
        let ok = sym (same_may before n node from t h) ∙ may in
        (ok, subst (StandsFor (before ++ to.Make n node from ∷ [])) (same_Some (with_node (with_heir t from n) node from) u e) (made_stands before n node from t h ok))
    by false may e = absurd (none-some u e)
line_read before (to.Remove n) t u h is = (tt, subst (StandsFor (before ++ to.Remove n ∷ [])) (same_Some (with_removed t n) u is) (removed_stands before n t h))
line_read before (to.Link p n x) t u h is = same_table before (to.Link p n x) t u is (stays before (to.Link p n x) t h (λ k j. refl) refl refl (length-set (config_after before).gates p _)) tt
line_read before (to.Unlink p) t u h is = same_table before (to.Unlink p) t u is (stays before (to.Unlink p) t h (λ k j. refl) refl refl (length-set (config_after before).gates p _)) tt
line_read before (to.Close p) t u h is = same_table before (to.Close p) t u is (stays before (to.Close p) t h (λ k j. refl) refl refl (length-set (config_after before).gates p _)) tt
line_read before (to.Reopen p) t u h is = same_table before (to.Reopen p) t u is (stays before (to.Reopen p) t h (λ k j. refl) refl refl (length-set (config_after before).gates p _)) tt
line_read before l t u h is = same_table before l t u is (stays before l t h (λ k j. refl) refl refl refl) tt

pub line_may_be_read : (before : List HistoryLine) (l : HistoryLine) (t : Nodes) → StandsFor before t → IsMakeable before l → (u : Nodes) × (read_line t l ≡ Some u)
line_may_be_read before (to.Make n node from) t h ok =
    (with_node (with_heir t from n) node from, ap (λ b. cond b (Some (with_node (with_heir t from n) node from)) None) (same_may before n node from t h ∙ ok))
line_may_be_read before (to.Remove n) t h ok = (with_removed t n, refl)
line_may_be_read before _ t h ok = (t, refl)

-- ---- all lines

stands_here : (before : List HistoryLine) (l : HistoryLine) (ls : List HistoryLine) (t : Nodes) → StandsFor ((before ++ l ∷ []) ++ ls) t → StandsFor (before ++ l ∷ ls) t
stands_here before l ls t h = subst (λ xs. StandsFor xs t) (append_assoc before (l ∷ []) ls) h

pub lines_read : (before ls : List HistoryLine) (t u : Nodes) → StandsFor before t → read_on t ls ≡ Some u → EachAfter IsMakeable before ls × StandsFor (before ++ ls) u
lines_read before [] t u h is = (tt, subst (λ xs. StandsFor xs u) (sym (append-nil before)) (subst (StandsFor before) (same_Some t u is) h))
lines_read before (l ∷ ls) t u h is = by (read_line t l) refl is (λ v one. lines_read (before ++ l ∷ []) ls v u (line_read before l t v h one).1)
  where
    by : (o : Option Nodes) → read_line t l ≡ o → fold read_next o ls ≡ Some u → ((v : Nodes) → read_line t l ≡ Some v → read_on v ls ≡ Some u → EachAfter IsMakeable (before ++ l ∷ []) ls × StandsFor ((before ++ l ∷ []) ++ ls) u)
        → EachAfter IsMakeable before (l ∷ ls) × StandsFor (before ++ l ∷ ls) u
    by None one rest on = absurd (none-some u (sym (none_stays read_line ls) ∙ rest))
    by (Some v) one rest on = let w = on v one rest in (((line_read before l t v h one).0, w.0), stands_here before l ls u w.1)

pub lines_may_be_read : (before ls : List HistoryLine) (t : Nodes) → StandsFor before t → EachAfter IsMakeable before ls → (u : Nodes) × (read_on t ls ≡ Some u)
lines_may_be_read before [] t h all = (t, refl)
lines_may_be_read before (l ∷ ls) t h all =
    let v = line_may_be_read before l t h all.0 in
    let w = lines_may_be_read (before ++ l ∷ []) ls v.0 (line_read before l t v.0 h v.1).1 all.1 in
    (w.0, ap (λ o. fold read_next o ls) v.1 ∙ w.1)
