-- What is read of logs is what the history and the logs say by themselves.
use Rattle.std.proofs.Common.{◌≡◌, ◌∙◌, ℕ, zero, suc, ◌+◌, ◌<◌, ◌≤◌, Bool, true, false, cond, not, ◌&&◌, List, [], ◌∷◌, length, map, Option, Some, None, refl, sym, ap, subst, ⊎_elim, arith}
use Rattle.std.specs.Prelude.{fold, find, is_none, option_map, option_and_then, slice_get, slice_index_or}
use Rattle.std.specs.List.{list_all, range_with_len}
use Rattle.std.specs.Option.{option_map_or, option_or}
use Rattle.std.proofs.lemmas.Bool.{and_from, and_parts, both_ways, cases_eq, eqb-true, eq-eqb}
use Rattle.std.proofs.lemmas.Option.{none-some, same_Some, get_or_from_slice_get, slice_get-map, cond_some}
use Rattle.std.proofs.lemmas.Slice.Eq.{bytes_eq-Decides}
use Rattle.std.proofs.lemmas.List.{length-append, length-set}
use Rattle.std.proofs.lemmas.List.Folds.{find-append}
use Rattle.base.proofs.PlaceLaws.{slice_get-append_front, slice_get-last, slice_get-set_other}
use Rattle.base.proofs.RisingLaws.{places_more}
use Rattle.component_trait.specs.Fold.{fold_from, fold_next}
use Rattle.component_trait.specs.Following.{value_of}
use Rattle.component_trait.specs.Making.{handed_over, new_node}
use Rattle.component_trait.specs.Moves as moves
use Rattle.component_trait.specs.States.{Kept, NodeState, Service, at_rest}
use Rattle.component_trait.specs.Tables.{opening}
use Rattle.component_trait.proofs.FoldLaws.{fold_none}
use Rattle.config_graph.specs.declared.kind.Kind.TheVariants as kind
use Rattle.quiesce_core.specs.Rules.{is_kind, is_value}
use Rattle.quiesce_core.specs.State.{Configuration, slot}
use Rattle.quiesce_core.specs.declared.event.Event.{Event}
use Rattle.quiesce_core.specs.declared.state.Slot.{Slot}
use Rattle.report_types.specs.declared.report.Last.{Last}
use Rattle.report_types.specs.declared.report.Last.TheVariants as last
use Rattle.report_types.specs.declared.report.NodeLog.{NodeLog}
use Rattle.report_types.specs.declared.report.Report.{Report}
use Rattle.change_spec.specs.Endings.{moved_to}
use Rattle.change_spec.specs.Lawful.{EndsAs}
use Rattle.change_spec.specs.Opening.{argument_of, fold_at}
use Rattle.change_spec.specs.Scene.{config_after}
use Rattle.merge_laws.specs.Alone.{fold_told, fold_told_within, is_undone, log_told}
use Rattle.report_check.specs.Leading.{Led, behind_opening, closed_so, ends_so, handed, is_left_undone, led_by, led_next, led_on, led_through, log_of_node, node_at, opened, with_node, without}
use Rattle.report_check.specs.RightAlone.{IsFreeSource, has_values}
use Rattle.report_check.specs.Tables.{Nodes}
use Rattle.report_check.proofs.OrderLemmas.{IsOrderly}
use Rattle.report_check.proofs.PartlyLemmas.{none_stays}
use Rattle.report_check.proofs.TableLemmas.{StandsFor, made_in}
use Rattle.base.proofs.OptionLaws.{made_of_one}
use Rattle.quiesce_core.proofs.ArgumentLaws.{kinds_are_one}

-- ---- a node led by events of values

pub led_to : (first : ℕ) (s t : NodeState) (es : List Event) → led_through first s es ≡ Some t → (fold_from first s es ≡ Some t) × (list_all (λ e. is_value (value_of e)) es ≡ true)
led_to first s t [] is = (is, refl)
led_to first s t (e ∷ es) is = by (is_value (value_of e)) refl (fold_next first (Some s) e) refl is (λ u. led_to first u t es)
  where
    by : (b : Bool) → is_value (value_of e) ≡ b → (o : Option NodeState) → fold_next first (Some s) e ≡ o → fold (led_next first) (led_by first s e) es ≡ Some t
        → ((u : NodeState) → led_through first u es ≡ Some t → (fold_from first u es ≡ Some t) × (list_all (λ x. is_value (value_of x)) es ≡ true))
        → (fold_from first s (e ∷ es) ≡ Some t) × (list_all (λ x. is_value (value_of x)) (e ∷ es) ≡ true)
    by false small o next rest on =
        absurd (none-some t (sym (none_stays (led_by first) es) ∙ sym (ap (λ b. fold (led_next first) (cond b (fold_next first (Some s) e) None) es) small) ∙ rest))
    by true small None next rest on =
        absurd (none-some t (sym (none_stays (led_by first) es) ∙ sym (ap (λ b. fold (led_next first) (cond b (fold_next first (Some s) e) None) es) small ∙ ap (λ o. fold (led_next first) o es) next) ∙ rest))
    by true small (Some u) next rest on =
        let w = on u (sym (ap (λ b. fold (led_next first) (cond b (fold_next first (Some s) e) None) es) small ∙ ap (λ o. fold (led_next first) o es) next) ∙ rest) in
        (ap (λ o. fold (fold_next first) o es) next ∙ w.0, ap (λ b. b && list_all (λ x. is_value (value_of x)) es) small ∙ w.1)

pub may_lead : (first : ℕ) (s t : NodeState) (es : List Event) → fold_from first s es ≡ Some t → list_all (λ e. is_value (value_of e)) es ≡ true → led_through first s es ≡ Some t
may_lead first s t [] is small = is
may_lead first s t (e ∷ es) is small = by (fold_next first (Some s) e) refl is (λ u. may_lead first u t es)
  where
    parts : (is_value (value_of e) ≡ true) × (list_all (λ x. is_value (value_of x)) es ≡ true)
    parts = and_parts (is_value (value_of e)) (list_all (λ x. is_value (value_of x)) es) small

    by : (o : Option NodeState) → fold_next first (Some s) e ≡ o → fold (fold_next first) (fold_next first (Some s) e) es ≡ Some t
        → ((u : NodeState) → fold_from first u es ≡ Some t → list_all (λ x. is_value (value_of x)) es ≡ true → led_through first u es ≡ Some t) → led_through first s (e ∷ es) ≡ Some t
    by None next rest on = absurd (none-some t (sym (fold_none first es) ∙ sym (ap (λ o. fold (fold_next first) o es) next) ∙ rest))
    by (Some u) next rest on =
        ap (λ b. fold (led_next first) (cond b (fold_next first (Some s) e) None) es) parts.0 ∙ ap (λ o. fold (led_next first) o es) next
        ∙ on u (sym (ap (λ o. fold (fold_next first) o es) next) ∙ rest) parts.1

-- ---- how a log ends

pub ends_then : (s : NodeState) (heir : Option ℕ) (l : Last) → ends_so s heir l ≡ true → EndsAs (Some s) heir l
ends_then s None (last.State xs) h = (bytes_eq-Decides (moves.numbers s) xs).0 h
ends_then s (Some j) (last.Moved i) h = sym (eqb-true j i h)
ends_then s None (last.Moved i) h = absurd (both_ways false refl h)
ends_then s (Some j) (last.State xs) h = absurd (both_ways false refl h)

pub ends_if : (s : NodeState) (heir : Option ℕ) (l : Last) → EndsAs (Some s) heir l → ends_so s heir l ≡ true
ends_if s None (last.State xs) h = (bytes_eq-Decides (moves.numbers s) xs).1 h
ends_if s (Some j) (last.Moved i) h = eq-eqb j i (sym h)
ends_if s None (last.Moved i) h = absurd h
ends_if s (Some j) (last.State xs) h = absurd h

-- ---- which kind a number is

-- ---- what nodes come to, by the history and the logs

module _ (report : Report) (t : Nodes) (stands : StandsFor report.history t) (order : IsOrderly t) where
  abbrev c : Configuration
  c = config_after report.history

  pub made_of : (n : ℕ) → slice_get t.made n ≡ option_map made_in (slot c n)
  made_of n = ap (λ xs. slice_get xs n) stands.made ∙ slice_get-map made_in c.slots n

  pub made_at : (n : ℕ) (m : Slot) → slot c n ≡ Some m → slice_get t.made n ≡ Some (made_in m)
  made_at n m at = made_of n ∙ ap (option_map made_in) at

  below : (n k : ℕ) (m : Slot) → slot c n ≡ Some m → m.from ≡ Some k → k < n
  below n k m at is = order.below n k (made_in m) (made_at n m at) is

  abbrev pub kept_by : (ℕ → Option NodeState) → Option ℕ → Kept → Option Kept
  kept_by before from own = option_map_or (λ k. option_map (λ (s : NodeState). s.kept) (before k)) from (Some own)

  abbrev pub opens : (ℕ → Option NodeState) → Slot → Option Kept
  opens before m = kept_by before m.from (opening m.node.kind (argument_of m))

  abbrev node_by : ℕ → (ℕ → Option NodeState) → Slot → Option NodeState
  node_by n before m = option_and_then (fold_at m (log_told report n)) (opens before m)

  same_kept : (f g : ℕ → Option NodeState) (own : Kept) (from o : Option ℕ) → from ≡ o → ((k : ℕ) → from ≡ Some k → f k ≡ g k) → kept_by f o own ≡ kept_by g o own
  same_kept f g own from None is same = refl
  same_kept f g own from (Some k) is same = ap (option_map (λ (s : NodeState). s.kept)) (same k is)

  same_node : (n : ℕ) (f g : ℕ → Option NodeState) (o : Option Slot) → slot c n ≡ o → ((k : ℕ) → k < n → f k ≡ g k) → option_and_then (node_by n f) o ≡ option_and_then (node_by n g) o
  same_node n f g None at same = refl
  same_node n f g (Some m) at same =
      ap (option_and_then (fold_at m (log_told report n))) (same_kept f g (opening m.node.kind (argument_of m)) m.from m.from refl (λ k is. same k (below n k m at is)))

  -- fuel beyond the slot changes nothing
  stable : (f g n : ℕ) → n < f → n < g → fold_told_within report f n ≡ fold_told_within report g n
  stable zero g n a b = absurd (omega arith)
  stable (suc f) zero n a b = absurd (omega arith)
  stable (suc f) (suc g) n a b = same_node n (fold_told_within report f) (fold_told_within report g) (slot c n) refl (λ k low. stable f g k (omega arith) (omega arith))

  pub told : (n : ℕ) (m : Slot) → slot c n ≡ Some m → fold_told report n ≡ node_by n (fold_told report) m
  told n m at =
      same_node n (fold_told_within report n) (fold_told report) (slot c n) refl (λ k low. stable n (suc k) k low (omega arith))
      ∙ ap (option_and_then (node_by n (fold_told report))) at

  -- what was led so far: the nodes whose state didn't go on, and the first live one that isn't done
  pub record HasLed (i : ℕ) (x : Led) : Type 0 where
    pub long : length x.kept ≡ i
    pub kept : (k : ℕ) → k < i → ((j : ℕ) → slice_index_or t.heirs k None ≡ Some j → i ≤ j) → slice_get x.kept k ≡ Some (fold_told report k)
    pub undone : x.undone ≡ find (is_undone report) (range_with_len 0 i)

  module _ (i : ℕ) (x : Led) (led : HasLed i x) (m : Slot) (at : slot c i ≡ Some m) where
    -- a node that opens so
    pub record OpensSo (s : NodeState) : Type 0 where
      pub kept : Kept
      pub with_ : opens (fold_told report) m ≡ Some kept
      pub is : s ≡ at_rest m.node.kind (argument_of m) kept
      pub source : (k : ℕ) (z : NodeState) → m.from ≡ Some k → fold_told report k ≡ Some z → IsFreeSource z m

    source_at : (k : ℕ) → m.from ≡ Some k → node_at x.kept k ≡ fold_told report k
    source_at k is =
        get_or_from_slice_get x.kept k (fold_told report k) None
        (led.kept k (below i k m at is) (λ j goes. omega (arith, same_Some j i (sym goes ∙ order.heir i k (made_in m) (made_at i m at) is))))

    is_free : (z : NodeState) → (is_none z.service && is_kind z.kind m.node.kind) ≡ true → IsFreeSource z m
    is_free z ok = let w = and_parts (is_none z.service) (is_kind z.kind m.node.kind) ok in record { rests = none_is z.service w.0; kind = w.1 }
      where
        none_is : (o : Option Service) → is_none o ≡ true → o ≡ None
        none_is None e = refl
        none_is (Some v) e = absurd (both_ways false refl e)

    taken_over : (k : ℕ) (s : NodeState) → m.from ≡ Some k → (o : Option NodeState) → fold_told report k ≡ o → option_and_then (λ (z : NodeState). handed z (made_in m)) o ≡ Some s → OpensSo s
    taken_over k s from None told_ is = absurd (none-some s is)
    taken_over k s from (Some z) told_ is = by (is_none z.service && is_kind z.kind m.node.kind) refl is
      where
        by : (b : Bool) → (is_none z.service && is_kind z.kind m.node.kind) ≡ b → cond b (Some (handed_over z.kind m.node.arg z.kept)) None ≡ Some s → OpensSo s
        by false test e = absurd (none-some s e)
        by true test e =
            let free = is_free z test in
            record {
              kept = z.kept;
              with_ = ap (λ o. kept_by (fold_told report) o (opening m.node.kind (argument_of m))) from ∙ ap (option_map (λ (y : NodeState). y.kept)) told_;
              is = sym (same_Some (handed_over z.kind m.node.arg z.kept) s e) ∙ ap (λ k_. at_rest k_ (argument_of m) z.kept) (kinds_are_one z.kind m.node.kind free.kind);
              source = λ j y from_j told_j. subst (λ v. IsFreeSource v m) (same_Some z y (sym told_ ∙ ap (fold_told report) (same_Some k j (sym from ∙ from_j)) ∙ told_j)) free;
            }

    pub opens_so : (s : NodeState) (o : Option ℕ) → m.from ≡ o
        → option_map_or (λ k. option_and_then (λ (z : NodeState). handed z (made_in m)) (node_at x.kept k)) o (Some (new_node m.node.kind m.node.arg)) ≡ Some s → OpensSo s
    opens_so s None from is = record {
      kept = opening m.node.kind (argument_of m);
      with_ = ap (λ o. kept_by (fold_told report) o (opening m.node.kind (argument_of m))) from;
      is = sym (same_Some (new_node m.node.kind m.node.arg) s is);
      source = λ k z from_k told_k. absurd (none-some k (sym from ∙ from_k));
    }
    opens_so s (Some k) from is = taken_over k s from (fold_told report k) refl (sym (ap (option_and_then (λ (z : NodeState). handed z (made_in m))) (source_at k from)) ∙ is)

    may_take_over : (k : ℕ) (kept : Kept) → m.from ≡ Some k → (o : Option NodeState) → fold_told report k ≡ o → option_map (λ (z : NodeState). z.kept) o ≡ Some kept
        → ((z : NodeState) → fold_told report k ≡ Some z → IsFreeSource z m) → option_and_then (λ (z : NodeState). handed z (made_in m)) o ≡ Some (at_rest m.node.kind (argument_of m) kept)
    may_take_over k kept from None told_ is free = absurd (none-some kept is)
    may_take_over k kept from (Some z) told_ is free =
        let f = free z told_ in
        ap (λ b. cond b (Some (handed_over z.kind m.node.arg z.kept)) None) (and_from (is_none z.service) (is_kind z.kind m.node.kind) (ap is_none f.rests) f.kind)
        ∙ (λ n. Some (at_rest (kinds_are_one z.kind m.node.kind f.kind n) (argument_of m) (same_Some z.kept kept is n)))

    may_open : (kept : Kept) (o : Option ℕ) → m.from ≡ o → kept_by (fold_told report) o (opening m.node.kind (argument_of m)) ≡ Some kept
        → ((k : ℕ) (z : NodeState) → m.from ≡ Some k → fold_told report k ≡ Some z → IsFreeSource z m)
        → option_map_or (λ k. option_and_then (λ (z : NodeState). handed z (made_in m)) (node_at x.kept k)) o (Some (new_node m.node.kind m.node.arg)) ≡ Some (at_rest m.node.kind (argument_of m) kept)
    may_open kept None from is free = ap (λ y. Some (at_rest m.node.kind (argument_of m) y)) (same_Some (opening m.node.kind (argument_of m)) kept is)
    may_open kept (Some k) from is free =
        ap (option_and_then (λ (z : NodeState). handed z (made_in m))) (source_at k from) ∙ may_take_over k kept from (fold_told report k) refl is (λ z told_k. free k z from told_k)

    -- the node's log, from its opening on
    pub log_then : (heir : Option ℕ) (l : NodeLog) (s : NodeState) → log_of_node x.kept heir l (made_in m) ≡ Some s
        → (s_ : NodeState) × (opened x.kept (made_in m) ≡ Some s_) × (led_through m.first_port s_ l.events ≡ Some s) × (ends_so s heir l.last ≡ true)
    log_then heir l s is =
        let opened_ = made_of_one (led_on m.first_port heir l) (opened x.kept (made_in m)) s is in
        let led_ = made_of_one (closed_so heir l.last) (led_through m.first_port opened_.0 l.events) s opened_.2 in
        let closed_ = cond_some (ends_so led_.0 heir l.last) led_.0 s led_.2 in
        (opened_.0, opened_.1, led_.1 ∙ ap Some closed_.1, ap (λ z. ends_so z heir l.last) (sym closed_.1) ∙ closed_.0)

    module _ (l : NodeLog) (there : slice_get report.logs i ≡ Some l) where
      log_is : log_told report i ≡ l.events
      log_is = get_or_from_slice_get (map (λ (n : NodeLog). n.events) report.logs) i l.events [] (slice_get-map (λ (n : NodeLog). n.events) report.logs i ∙ ap (option_map (λ (n : NodeLog). n.events)) there)

      -- it comes to this, and ends so
      pub came_to : (s_ s : NodeState) → OpensSo s_ → fold_from m.first_port s_ l.events ≡ Some s → fold_told report i ≡ Some s
      came_to s_ s o folds =
          told i m at ∙ ap (option_and_then (fold_at m (log_told report i))) o.with_
          ∙ (λ n. fold_from m.first_port (sym o.is n) (log_is n)) ∙ folds

      pub goes_to : (kept : Kept) (s : NodeState) → opens (fold_told report) m ≡ Some kept → fold_at m (log_told report i) kept ≡ Some s
          → ((k : ℕ) (z : NodeState) → m.from ≡ Some k → fold_told report k ≡ Some z → IsFreeSource z m) → has_values l ≡ true → EndsAs (Some s) (moved_to report.history i) l.last
          → log_of_node x.kept (slice_index_or t.heirs i None) l (made_in m) ≡ Some s
      goes_to kept s with_ folds free small ends =
          let start = at_rest m.node.kind (argument_of m) kept in
          let heir = slice_index_or t.heirs i None in
          ap (option_and_then (led_on m.first_port heir l)) (may_open kept m.from refl with_ free)
          ∙ ap (option_and_then (closed_so heir l.last)) (may_lead m.first_port start s l.events (ap (fold_from m.first_port start) (sym log_is) ∙ folds) small)
          ∙ ap (λ b. cond b (Some s) None) (ap (λ h. ends_so s h l.last) (stands.heirs i) ∙ ends_if s (moved_to report.history i) l.last ends)

      -- ---- one more

      abbrev pub led_more : NodeState → Led
      led_more s = with_node (record x { kept = behind_opening x.kept (made_in m) }) (made_in m) i s

      behind_long : (o : Option ℕ) → length (option_map_or (without x.kept) o x.kept) ≡ length x.kept
      behind_long None = refl
      behind_long (Some k) = length-set x.kept k None

      -- what stays is what wasn't taken over here
      behind_at : (k : ℕ) → (m.from ≡ Some k → ⊥) → (o : Option ℕ) → m.from ≡ o → slice_get (option_map_or (without x.kept) o x.kept) k ≡ slice_get x.kept k
      behind_at k other None from = refl
      behind_at k other (Some j) from = slice_get-set_other x.kept j None k (λ e. other (from ∙ ap Some (sym e)))

      undone_here : (s : NodeState) → fold_told report i ≡ Some s → is_undone report i ≡ is_left_undone (made_in m) s
      undone_here s is =
          ap (λ o. cond (option_map_or (λ (y : Slot). y.live) o false) (not (option_map_or moves.is_done (fold_told report i) false)) false) at
          ∙ ap (λ o. cond m.live (not (option_map_or moves.is_done o false)) false) is ∙ by m.live
        where
          by : (b : Bool) → cond b (not (moves.is_done s)) false ≡ (b && not (moves.is_done s))
          by true = refl
          by false = refl

      first_more : (o : Option ℕ) (b : Bool) → cond (is_none o && b) (Some i) o ≡ option_or o (cond b (Some i) None)
      first_more None true = refl
      first_more None false = refl
      first_more (Some j) b = refl

      pub has_more : (s : NodeState) → fold_told report i ≡ Some s → HasLed (i + 1) (led_more s)
      has_more s is = record {
        long = length-append (behind_opening x.kept (made_in m)) (Some s ∷ []) ∙ ap (λ n. n + 1) (behind_long m.from ∙ led.long);
        kept = λ k low later. ⊎_elim
            (λ (here : k ≡ i).
            ap (λ n. slice_get (led_more s).kept n) (here ∙ sym (behind_long m.from ∙ led.long)) ∙ slice_get-last (behind_opening x.kept (made_in m)) (Some s)
            ∙ ap Some (sym is ∙ ap (fold_told report) (sym here)))
            (λ (apart : k ≡ i → ⊥).
            let before : k < i = omega (arith, apart, low) in
            slice_get-append_front (behind_opening x.kept (made_in m)) (Some s ∷ []) k (omega (arith, behind_long m.from, led.long, before))
            ∙ behind_at k (λ from. omega (arith, later i (order.heir i k (made_in m) (made_at i m at) from))) m.from refl
            ∙ led.kept k before (λ j goes. omega (arith, later j goes)))
            (cases_eq k i);
        undone =
            (λ n. cond (is_none (led.undone n) && is_left_undone (made_in m) s) (Some i) (led.undone n))
            ∙ first_more (find (is_undone report) (range_with_len 0 i)) (is_left_undone (made_in m) s)
            ∙ ap (λ b. option_or (find (is_undone report) (range_with_len 0 i)) (cond b (Some i) None)) (sym (undone_here s is))
            ∙ sym (find-append (is_undone report) (range_with_len 0 i) (i ∷ [])) ∙ ap (find (is_undone report)) (sym (places_more i));
      }
