-- A report is read to its end exactly where its logs are right, and what is read is the first live node that isn't done.
use Rattle.std.proofs.Common.{◌≡◌, ◌∙◌, ℕ, zero, suc, ◌+◌, ◌<◌, ◌≤◌, Bool, true, false, cond, List, [], ◌∷◌, length, map, get_or, Option, Some, None, refl, sym, ap, subst, arith}
use Rattle.std.specs.Prelude.{◌==◌, fold, find, option_map, option_and_then, slice_get, slice_index_or}
use Rattle.std.specs.List.{range_with_len}
use Rattle.std.proofs.lemmas.Bool.{eqb-true, eq-eqb}
use Rattle.std.proofs.lemmas.List.{ext_get_or, length-map}
use Rattle.std.proofs.lemmas.List.FromFn.{get_or-range_with_len, length-range_with_len}
use Rattle.std.proofs.lemmas.Option.{none-some, same_Some, get_or_from_slice_get, slice_get-get_or, slice_get-map, slice_get_within, cond_some}
use Rattle.base.proofs.PlaceLaws.{slice_get-there}
use Rattle.quiesce_core.specs.State.{Configuration, slot}
use Rattle.quiesce_core.specs.declared.state.Slot.{Slot}
use Rattle.report_types.specs.declared.report.Last.TheVariants as last
use Rattle.report_types.specs.declared.report.NodeLog.{NodeLog}
use Rattle.report_types.specs.declared.report.Report.{Report}
use Rattle.change_spec.specs.Endings.{moved_to}
use Rattle.change_spec.specs.Lawful.{EndsAs}
use Rattle.change_spec.specs.Opening.{fold_at}
use Rattle.change_spec.specs.Scene.{config_after}
use Rattle.merge_laws.specs.Alone.{EndsAsTold, fold_told, is_undone, log_told}
use Rattle.report_check.specs.Leading.{Led, behind_opening, if_complete, log_of_node, no_logs, read_log, read_logs, read_logs_on, read_report, with_node}
use Rattle.report_check.specs.RightAlone.{HasFreeSource, HasRightLogs, IsFreeSource, has_values}
use Rattle.report_check.specs.Tables.{Nodes, no_nodes, read_lines}
use Rattle.report_check.specs.declared.tables.MadeNode.{MadeNode}
use Rattle.report_check.proofs.LedLemmas.{HasLed, OpensSo, came_to, ends_then, goes_to, has_more, led_more, led_to, log_then, made_at, made_of, opens, opens_so, told}
use Rattle.report_check.proofs.OrderLemmas.{IsOrderly, no_order, orders}
use Rattle.report_check.proofs.PartlyLemmas.{none_stays}
use Rattle.report_check.proofs.TableLemmas.{StandsFor, lines_may_be_read, lines_read, made_in, nothing_stands}
use Rattle.base.proofs.OptionLaws.{made_of_one, option_map_some}
use Rattle.change_spec.proofs.MemberLaws.{ended_there}

module _ (report : Report) (t : Nodes) (stands : StandsFor report.history t) (order : IsOrderly t) where
  abbrev c : Configuration
  c = config_after report.history

  abbrev Has : ℕ → Led → Type 0
  Has i x = HasLed report t stands order i x

  -- the log is that of slot i, and right
  pub record IsRightAt (i : ℕ) (l : NodeLog) : Type 0 where
    pub slot_is : l.slot ≡ i
    pub ends : EndsAs (fold_told report i) (moved_to report.history i) l.last
    pub values : has_values l ≡ true
    pub source : HasFreeSource report i

  abbrev at_slot : Led → NodeLog → ℕ → Option Led
  at_slot x l n =
      option_and_then
      (λ (m : MadeNode). option_map (with_node (record x { kept = behind_opening x.kept m }) m n) (log_of_node x.kept (slice_index_or t.heirs n None) l m))
      (slice_get t.made n)

  module _ (i : ℕ) (x : Led) (led : Has i x) (l : NodeLog) (there : slice_get report.logs i ≡ Some l) where
    right_by : (y : Led) → l.slot ≡ i → (o : Option Slot) → slot c i ≡ o → at_slot x l i ≡ Some y → IsRightAt i l × Has (i + 1) y
    right_by y slot_is None at is =
        absurd (none-some y (sym (ap (option_and_then (λ (m : MadeNode). option_map (with_node (record x { kept = behind_opening x.kept m }) m i) (log_of_node x.kept (slice_index_or t.heirs i None) l m)))
        (made_of report t stands order i ∙ ap (option_map made_in) at)) ∙ is))
    right_by y slot_is (Some m) at is =
        let heir = slice_index_or t.heirs i None in
        let here = ap (option_and_then (λ (n : MadeNode). option_map (with_node (record x { kept = behind_opening x.kept n }) n i) (log_of_node x.kept heir l n))) (made_at report t stands order i m at) in
        let w = option_map_some (with_node (record x { kept = behind_opening x.kept (made_in m) }) (made_in m) i) (log_of_node x.kept heir l (made_in m)) y (sym here ∙ is) in
        let s = w.0 in
        let log = log_then report t stands order i x led m at heir l s w.1 in
        let opened_ : OpensSo report t stands order i x led m at log.0 = opens_so report t stands order i x led m at log.0 m.from refl log.1 in
        let runs = led_to m.first_port log.0 s l.events log.2 in
        let came = came_to report t stands order i x led m at l there log.0 s opened_ runs.0 in (
          record {
            slot_is = slot_is;
            ends = subst (λ o. EndsAs o (moved_to report.history i) l.last) (sym came) (subst (λ h. EndsAs (Some s) h l.last) (stands.heirs i) (ends_then s heir l.last log.3));
            values = runs.1;
            source = λ k n z at_n from told_k.
                let one : m ≡ n = same_Some m n (sym at ∙ at_n) in
                subst (λ v. IsFreeSource z v) one (opened_.source k z (ap (λ (v : Slot). v.from) one ∙ from) told_k);
          },
          subst (Has (i + 1)) w.2 (has_more report t stands order i x led m at l there s came),
        )

    pub right_then : (y : Led) → read_log t x l ≡ Some y → IsRightAt i l × Has (i + 1) y
    right_then y is = by (l.slot == length x.kept) refl is
      where
        by : (b : Bool) → (l.slot == length x.kept) ≡ b → cond b (at_slot x l l.slot) None ≡ Some y → IsRightAt i l × Has (i + 1) y
        by false test e = absurd (none-some y e)
        by true test e =
            let slot_is : l.slot ≡ i = eqb-true l.slot (length x.kept) test ∙ led.long in
            right_by y slot_is (slot c i) refl (sym (ap (at_slot x l) slot_is) ∙ e)

    pub may_read : (m : Slot) → slot c i ≡ Some m → IsRightAt i l → (y : Led) × (read_log t x l ≡ Some y)
    may_read m at right =
        let s = ended_there (fold_told report i) (moved_to report.history i) l.last right.ends in
        let fold_is = sym (told report t stands order i m at) ∙ s.1 in
        let k = made_of_one (fold_at m (log_told report i)) (opens report t stands order (fold_told report) m) s.0 fold_is in
        let goes = goes_to report t stands order i x led m at l there k.0 s.0 k.1 k.2 (λ j z from told_j. right.source j m z at from told_j) right.values
        (subst (λ o. EndsAs o (moved_to report.history i) l.last) s.1 right.ends) in
        let f = λ (n : MadeNode). option_map (with_node (record x { kept = behind_opening x.kept n }) n i) (log_of_node x.kept (slice_index_or t.heirs i None) l n) in (
          led_more report t stands order i x led m at l there s.0,
          ap (λ b. cond b (at_slot x l l.slot) None) (eq-eqb l.slot (length x.kept) (right.slot_is ∙ sym led.long)) ∙ ap (at_slot x l) right.slot_is
              ∙ ap (option_and_then f) (made_at report t stands order i m at) ∙ ap (option_map (with_node (record x { kept = behind_opening x.kept (made_in m) }) (made_in m) i)) goes,
        )

  -- ---- all logs

  at_0 : (i : ℕ) (ls : List NodeLog) → ((k : ℕ) → slice_get report.logs (i + k) ≡ slice_get ls k) → slice_get report.logs i ≡ slice_get ls 0
  at_0 i ls same = ap (slice_get report.logs) (let e : i ≡ i + 0 = omega arith in e) ∙ same 0

  shifted : (i : ℕ) (l : NodeLog) (ls : List NodeLog) → ((k : ℕ) → slice_get report.logs (i + k) ≡ slice_get (l ∷ ls) k) → (k : ℕ) → slice_get report.logs (i + 1 + k) ≡ slice_get ls k
  shifted i l ls same k = ap (slice_get report.logs) (let e : i + 1 + k ≡ i + suc k = omega arith in e) ∙ same (suc k)

  pub rights : (ls : List NodeLog) (i : ℕ) (x y : Led) → Has i x → ((k : ℕ) → slice_get report.logs (i + k) ≡ slice_get ls k) → read_logs_on t x ls ≡ Some y
      → Has (i + length ls) y × ((k : ℕ) (l : NodeLog) → slice_get ls k ≡ Some l → IsRightAt (i + k) l)
  rights [] i x y led same is = (subst (λ n. Has n y) (let e : i ≡ i + 0 = omega arith in e) (subst (Has i) (same_Some x y is) led), λ k l at. absurd (none-some l at))
  rights (l ∷ ls) i x y led same is = by (read_log t x l) refl is (λ z one. rights ls (i + 1) z y (right_then i x led l (at_0 i (l ∷ ls) same) z one).1 (shifted i l ls same))
    where
      by : (o : Option Led) → read_log t x l ≡ o → fold (λ (q : Option Led) (n : NodeLog). option_and_then (λ (z : Led). read_log t z n) q) o ls ≡ Some y
          → ((z : Led) → read_log t x l ≡ Some z → read_logs_on t z ls ≡ Some y → Has (i + 1 + length ls) y × ((k : ℕ) (n : NodeLog) → slice_get ls k ≡ Some n → IsRightAt (i + 1 + k) n))
          → Has (i + length (l ∷ ls)) y × ((k : ℕ) (n : NodeLog) → slice_get (l ∷ ls) k ≡ Some n → IsRightAt (i + k) n)
      by None one rest on = absurd (none-some y (sym (none_stays (read_log t) ls) ∙ rest))
      by (Some z) one rest on =
          let w = on z one rest in
          (subst (λ n. Has n y) (let e : i + 1 + length ls ≡ i + length (l ∷ ls) = omega arith in e) w.0, at_)
        where
          at_ : (k : ℕ) (n : NodeLog) → slice_get (l ∷ ls) k ≡ Some n → IsRightAt (i + k) n
          at_ zero n here = subst (IsRightAt (i + 0)) (same_Some l n here) (subst (λ j. IsRightAt j l) (let e : i ≡ i + 0 = omega arith in e) (right_then i x led l (at_0 i (l ∷ ls) same) z one).0)
          at_ (suc k) n here = subst (λ j. IsRightAt j n) (let e : i + 1 + k ≡ i + suc k = omega arith in e) ((on z one rest).1 k n here)

  may_go_on : (l : NodeLog) (ls : List NodeLog) (x z : Led) → read_log t x l ≡ Some z → (y : Led) × (read_logs_on t z ls ≡ Some y) → (y : Led) × (read_logs_on t x (l ∷ ls) ≡ Some y)
  may_go_on l ls x z one rest = (rest.0, ap (λ o. fold (λ (q : Option Led) (n : NodeLog). option_and_then (λ (v : Led). read_log t v n) q) o ls) one ∙ rest.1)

  pub may_read_all : (ls : List NodeLog) (i : ℕ) (x : Led) → Has i x → ((k : ℕ) → slice_get report.logs (i + k) ≡ slice_get ls k) → ((k : ℕ) (l : NodeLog) → slice_get ls k ≡ Some l → IsRightAt (i + k) l)
      → i + length ls ≤ length c.slots → (y : Led) × (read_logs_on t x ls ≡ Some y)
  may_read_all [] i x led same right few = (x, refl)
  may_read_all (l ∷ ls) i x led same right few =
      let m = slice_get-there c.slots i (omega arith) in
      let there = at_0 i (l ∷ ls) same in
      let here = subst (λ j. IsRightAt j l) (let e : i + 0 ≡ i = omega arith in e) (right 0 l refl) in
      let z = may_read i x led l there m.0 m.1 here in
      may_go_on l ls x z.0 z.1
      (may_read_all ls (i + 1) z.0 (right_then i x led l there z.0 z.1).1 (shifted i l ls same)
      (λ k n at. subst (λ j. IsRightAt j n) (let e : i + suc k ≡ i + 1 + k = omega arith in e) (right (suc k) n at)) (omega arith))

  pub none_led : Has 0 no_logs
  none_led = record { long = refl; kept = λ k low later. absurd (omega arith); undone = refl }

-- ---- the whole report

module _ (report : Report) where
  abbrev d : Configuration
  d = config_after report.history

  module _ (t : Nodes) (is_table : read_lines report.history ≡ Some t) where
    stands_ : StandsFor report.history t
    stands_ = (lines_read [] report.history no_nodes t nothing_stands is_table).1

    order_ : IsOrderly t
    order_ = orders no_nodes t report.history no_order is_table

    many_made : length t.made ≡ length d.slots
    many_made = ap length stands_.made ∙ length-map d.slots made_in

    slots_are : (n : ℕ) → length report.logs ≡ n → ((k : ℕ) (l : NodeLog) → slice_get report.logs k ≡ Some l → l.slot ≡ k) → map (λ (l : NodeLog). l.slot) report.logs ≡ range_with_len 0 n
    slots_are n long own =
        ext_get_or 0 (map (λ (l : NodeLog). l.slot) report.logs) (range_with_len 0 n)
        (length-map report.logs (λ (l : NodeLog). l.slot) ∙ long ∙ sym (length-range_with_len 0 n))
        (λ k low.
        let within : k < length report.logs = omega (arith, low, length-map report.logs (λ (l : NodeLog). l.slot)) in
        let l = slice_get-there report.logs k within in
        get_or_from_slice_get (map (λ (m : NodeLog). m.slot) report.logs) k l.0.slot 0 (slice_get-map (λ (m : NodeLog). m.slot) report.logs k ∙ ap (option_map (λ (m : NodeLog). m.slot)) l.1)
        ∙ own k l.0 l.1 ∙ (let e : k ≡ 0 + k = omega arith in e) ∙ sym (get_or-range_with_len 0 n k 0 (omega (arith, within, long))))

    pub logs_are_right : (u : Option ℕ) → read_logs t report.logs ≡ Some u → HasRightLogs report × (u ≡ find (is_undone report) (range_with_len 0 (length d.slots)))
    logs_are_right u is =
        let x = made_of_one (if_complete t) (read_logs_on t no_logs report.logs) u is in
        let w = rights report t stands_ order_ report.logs 0 no_logs x.0 (none_led report t stands_ order_) (λ k. ap (slice_get report.logs) (let e : 0 + k ≡ k = omega arith in e)) x.1 in
        let complete = cond_some (length x.0.kept == length t.made) x.0.undone u x.2 in
        let all_made : length x.0.kept ≡ length t.made = eqb-true (length x.0.kept) (length t.made) complete.0 in
        let long : length report.logs ≡ length t.made = omega (arith, w.0.long, all_made) in
        let right : (k : ℕ) (l : NodeLog) → slice_get report.logs k ≡ Some l → IsRightAt report t stands_ order_ k l = λ k l at.
        subst (λ j. IsRightAt report t stands_ order_ j l) (let e : 0 + k ≡ k = omega arith in e) (w.1 k l at) in (
          record {
            makes = (lines_read [] report.history no_nodes t nothing_stands is_table).0;
            one_log_a_node = slots_are (length t.made) long (λ k l at. (right k l at).slot_is) ∙ sym stands_.slots;
            folds = λ k l low.
                let r = right k (get_or report.logs k l) (slice_get-get_or report.logs k l low) in
                subst (λ n. EndsAs (fold_told report n) (moved_to report.history n) (get_or report.logs k l).last) (sym r.slot_is) r.ends;
            values = λ k l low. (right k (get_or report.logs k l) (slice_get-get_or report.logs k l low)).values;
            sources = λ n k m z at from told_k.
                let low : n < length report.logs = omega (arith, slice_get_within d.slots n m at, many_made, long) in
                let l = slice_get-there report.logs n low in
                (right n l.0 l.1).source k m z at from told_k;
          },
          sym complete.1 ∙ w.0.undone ∙ ap (λ n. find (is_undone report) (range_with_len 0 n)) (let e : 0 + length report.logs ≡ length d.slots = omega (arith, long, many_made) in e),
        )

    pub logs_may_be_read : HasRightLogs report → (u : Option ℕ) × (read_logs t report.logs ≡ Some u)
    logs_may_be_read h =
        let slots = h.one_log_a_node ∙ stands_.slots in
        let long : length report.logs ≡ length t.made = sym (length-map report.logs (λ (l : NodeLog). l.slot)) ∙ ap length slots ∙ length-range_with_len 0 (length t.made) in
        let right : (k : ℕ) (l : NodeLog) → slice_get report.logs k ≡ Some l → IsRightAt report t stands_ order_ (0 + k) l = λ k l at.
        let low : k < length report.logs = slice_get_within report.logs k l at in
        let same : get_or report.logs k l ≡ l = get_or_from_slice_get report.logs k l l at in
        let own : l.slot ≡ k =
        sym (get_or_from_slice_get (map (λ (m : NodeLog). m.slot) report.logs) k l.slot 0 (slice_get-map (λ (m : NodeLog). m.slot) report.logs k ∙ ap (option_map (λ (m : NodeLog). m.slot)) at))
        ∙ ap (λ xs. get_or xs k 0) slots ∙ get_or-range_with_len 0 (length t.made) k 0 (omega (arith, low, long)) ∙ (let e : 0 + k ≡ k = omega arith in e) in
        subst (λ j. IsRightAt report t stands_ order_ j l) (let e : k ≡ 0 + k = omega arith in e) (record {
          slot_is = own;
          ends = subst (λ n. EndsAs (fold_told report n) (moved_to report.history n) l.last) own (subst (EndsAsTold report) same (h.folds k l low));
          values = subst (λ (m : NodeLog). has_values m ≡ true) same (h.values k l low);
          source = h.sources k;
        }) in
        let y = may_read_all report t stands_ order_ report.logs 0 no_logs (none_led report t stands_ order_) (λ k. ap (slice_get report.logs) (let e : 0 + k ≡ k = omega arith in e)) right
        (omega (arith, long, many_made)) in
        let w = rights report t stands_ order_ report.logs 0 no_logs y.0 (none_led report t stands_ order_) (λ k. ap (slice_get report.logs) (let e : 0 + k ≡ k = omega arith in e)) y.1 in
        (y.0.undone, ap (option_and_then (if_complete t)) y.1 ∙ ap (λ b. cond b (Some y.0.undone) None) (eq-eqb (length y.0.kept) (length t.made) (let e : length y.0.kept ≡ length t.made = omega (arith, w.0.long, long) in e)))

  pub right_if_read : (u : Option ℕ) → read_report report ≡ Some u → HasRightLogs report × (u ≡ find (is_undone report) (range_with_len 0 (length d.slots)))
  right_if_read u is = let t = made_of_one (λ (x : Nodes). read_logs x report.logs) (read_lines report.history) u is in logs_are_right t.0 t.1 u t.2

  pub read_if_right : HasRightLogs report → (u : Option ℕ) × (read_report report ≡ Some u)
  read_if_right h =
      let t = lines_may_be_read [] report.history no_nodes nothing_stands h.makes in
      let u = logs_may_be_read t.0 t.1 h in
      (u.0, ap (option_and_then (λ (x : Nodes). read_logs x report.logs)) t.1 ∙ u.1)
