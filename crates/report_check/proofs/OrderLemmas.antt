-- In the table a node takes over from a lower slot, and of that it is the heir.
use Rattle.std.proofs.Common.{◌≡◌, ◌∙◌, ℕ, ◌+◌, ◌<◌, Bool, true, false, cond, not, ◌&&◌, List, [], ◌∷◌, length, get_or, Option, Some, None, refl, sym, ap, subst, ⊎_elim, arith}
use Rattle.std.specs.Prelude.{◌==◌, nat_lt, nat_le, All, IfSome, fold, is_none, is_some, if◌then◌else◌, slice_get, slice_index_or, slice_set}
use Rattle.std.specs.Option.{option_map_or}
use Rattle.std.proofs.lemmas.Bool.{and_parts, both_ways, eqb-true, ltb-true}
use Rattle.std.proofs.lemmas.List.{get_or-set_other, length-append, length-set}
use Rattle.std.proofs.lemmas.Grind.{get_or-set_at}
use Rattle.std.proofs.lemmas.Option.{none-some, same_Some, slice_get-get_or, slice_get_within}
use Rattle.base.proofs.OptionLaws.{map_or_true}
use Rattle.base.proofs.PlaceLaws.{fresh_behind, slice_get-push_cases, slice_get-set_cases}
use Rattle.config_graph.specs.Kinds.{row}
use Rattle.config_graph.specs.declared.node.Node.{Node}
use Rattle.config_graph.specs.declared.TheConstants.{MAX_NODES, MAX_PORTS, VALUE_LIMIT}
use Rattle.quiesce_core.specs.Rules.{is_value}
use Rattle.state_handover.specs.Making.{FitsKind}
use Rattle.report_types.specs.declared.report.HistoryLine.{HistoryLine}
use Rattle.report_types.specs.declared.report.HistoryLine.TheVariants as to
use Rattle.report_check.specs.Tables.{Nodes, has_its_argument, has_room, may_go_over, may_make, no_nodes, read_line, read_lines, read_next, read_on, table_in, with_heir, with_node, with_removed}
use Rattle.report_check.specs.declared.tables.MadeNode.{MadeNode}
use Rattle.report_check.specs.declared.tables.Table.{Table}
use Rattle.report_check.proofs.PartlyLemmas.{none_stays}

pub record IsOrderly (t : Nodes) : Type 0 where
  pub many : length t.heirs ≡ length t.made
  pub below : (n k : ℕ) (m : MadeNode) → slice_get t.made n ≡ Some m → m.from ≡ Some k → k < n
  pub heir : (n k : ℕ) (m : MadeNode) → slice_get t.made n ≡ Some m → m.from ≡ Some k → slice_index_or t.heirs k None ≡ Some n
  pub fits : (n : ℕ) (m : MadeNode) → slice_get t.made n ≡ Some m → FitsKind m.kind m.arg

pub no_order : IsOrderly no_nodes
no_order = record { many = refl; below = λ n k m at is. absurd (none-some m at); heir = λ n k m at is. absurd (none-some m at); fits = λ n m at. absurd (none-some m at) }

-- the argument of a node is its kind's
fits_of : (node : Node) → has_its_argument node ≡ true → FitsKind node.kind node.arg
fits_of node own = by (is_some (row node.kind).arg) refl node.arg refl own
  where
    with_ : (b : Bool) → is_some (row node.kind).arg ≡ b → (o : Option ℕ) → node.arg ≡ o → (if b then option_map_or is_value o false else is_none o) ≡ true → FitsKind node.kind node.arg
    with_ true has (Some a) is h = record { there = ap is_some is ∙ sym has; small = subst (λ q. IfSome q (λ v. v < VALUE_LIMIT)) (sym is) (ltb-true a VALUE_LIMIT h) }
    with_ true has None is h = absurd (both_ways false refl h)
    with_ false has None is h = record { there = ap is_some is ∙ sym has; small = subst (λ q. IfSome q (λ v. v < VALUE_LIMIT)) (sym is) tt }
    with_ false has (Some a) is h = absurd (both_ways false refl h)

    by : (b : Bool) → is_some (row node.kind).arg ≡ b → (o : Option ℕ) → node.arg ≡ o → (if is_some (row node.kind).arg then option_map_or is_value node.arg false else is_none node.arg) ≡ true → FitsKind node.kind node.arg
    by b has o is h = with_ b has o is (sym (λ i. if has i then option_map_or is_value (is i) false else is_none (is i)) ∙ h)

-- a removed node is as it was made
was_there : (t : Nodes) (n : ℕ) (o : Option MadeNode) → slice_get t.made n ≡ o → (i : ℕ) (m : MadeNode)
    → slice_get (option_map_or (λ (x : MadeNode). slice_set t.made n (record x { live = false })) o t.made) i ≡ Some m → (x : MadeNode) × (slice_get t.made i ≡ Some x) × (record x { live = m.live } ≡ m)
was_there t n None here i m at = (m, at, refl)
was_there t n (Some x) here i m at = ⊎_elim
    (λ (w : (i ≡ n) × (record x { live = false } ≡ m)).
    (x, ap (slice_get t.made) w.0 ∙ here, ap (λ (b : Bool). record x { live = b }) (sym (ap (λ (y : MadeNode). y.live) w.1)) ∙ w.1))
    (λ (w : slice_get t.made i ≡ Some m). (m, w, refl))
    (slice_get-set_cases t.made n (record x { live = false }) i m at)

long_as : (t : Nodes) (n : ℕ) (o : Option MadeNode) → length (option_map_or (λ (x : MadeNode). slice_set t.made n (record x { live = false })) o t.made) ≡ length t.made
long_as t n None = refl
long_as t n (Some x) = length-set t.made n (record x { live = false })

removed_order : (t : Nodes) (n : ℕ) → IsOrderly t → IsOrderly (with_removed t n)
removed_order t n h = record {
  many = h.many ∙ sym (long_as t n (slice_get t.made n));
  below = λ i k m at is. let x = was_there t n (slice_get t.made n) refl i m at in h.below i k x.0 x.1 (ap (λ (y : MadeNode). y.from) x.2 ∙ is);
  heir = λ i k m at is. let x = was_there t n (slice_get t.made n) refl i m at in h.heir i k x.0 x.1 (ap (λ (y : MadeNode). y.from) x.2 ∙ is);
  fits = λ i m at. let x = was_there t n (slice_get t.made n) refl i m at in subst (λ (y : MadeNode). FitsKind y.kind y.arg) x.2 (h.fits i x.0 x.1);
}

module _ (t : Nodes) (n : ℕ) (node : Node) (from : Option ℕ) (h : IsOrderly t) (ok : may_make t n node from ≡ true) where
  n_is : n ≡ length t.made
  n_is =
      let parts = and_parts (has_room t n node && has_its_argument node) (option_map_or (may_go_over t) from true) ok in
      let room = and_parts (has_room t n node) (has_its_argument node) parts.0 in
      let fits = and_parts (n == length t.made && nat_lt n MAX_NODES) (nat_le (t.ports + length (row node.kind).requires_) MAX_PORTS) room.0 in
      eqb-true n (length t.made) (and_parts (n == length t.made) (nat_lt n MAX_NODES) fits.0).0

  own : has_its_argument node ≡ true
  own = (and_parts (has_room t n node) (has_its_argument node) (and_parts (has_room t n node && has_its_argument node) (option_map_or (may_go_over t) from true) ok).0).1

  left : (k : ℕ) → from ≡ Some k → (k < n) × (is_none (slice_index_or t.heirs k None) ≡ true)
  left k is =
      let over = (and_parts (has_room t n node && has_its_argument node) (option_map_or (may_go_over t) from true) ok).1 in
      let here : may_go_over t k ≡ true = sym (ap (λ o. option_map_or (may_go_over t) o true) is) ∙ over in
      let m = map_or_true (λ (m : MadeNode). not m.live && is_none (slice_index_or t.heirs k None)) (slice_get t.made k) here in
      (omega (arith, n_is, slice_get_within t.made k m.0 m.1), (and_parts (not m.0.live) (is_none (slice_index_or t.heirs k None)) m.2).1)

  abbrev new : MadeNode
  new = record { kind = node.kind; arg = node.arg; first_port = t.ports; from = from; live = true }

  kept_heir : (o : Option ℕ) → from ≡ o → (i k : ℕ) → slice_index_or t.heirs k None ≡ Some i → slice_index_or (option_map_or (λ f. slice_set t.heirs f (Some n)) o t.heirs) k None ≡ Some i
  kept_heir None is i k was = was
  kept_heir (Some f) is i k was =
      get_or-set_other t.heirs f k (Some n) None (λ (e : k ≡ f). both_ways false refl (sym (ap is_none (sym (ap (λ j. slice_index_or t.heirs j None) e) ∙ was)) ∙ (left f is).1)) ∙ was

  new_heir : (o : Option ℕ) → from ≡ o → (k : ℕ) → from ≡ Some k → slice_index_or (option_map_or (λ f. slice_set t.heirs f (Some n)) o t.heirs) k None ≡ Some n
  new_heir None is k at = absurd (none-some k (sym is ∙ at))
  new_heir (Some f) is k at =
      get_or-set_at t.heirs f k (Some n) None (same_Some k f (sym at ∙ is)) (omega (arith, h.many, n_is, (left f is).0))

  heirs_long : (o : Option ℕ) → length (option_map_or (λ f. slice_set t.heirs f (Some n)) o t.heirs) ≡ length t.heirs
  heirs_long None = refl
  heirs_long (Some f) = length-set t.heirs f (Some n)

  abbrev kept : List (Option ℕ)
  kept = (with_heir t from n).heirs

  pub made_order : IsOrderly (with_node (with_heir t from n) node from)
  made_order = record {
    many = length-append kept (None ∷ []) ∙ ap (λ k. k + 1) (heirs_long from ∙ h.many) ∙ sym (length-append t.made (new ∷ []));
    below = λ i k m at is. ⊎_elim
        (λ (w : slice_get t.made i ≡ Some m). h.below i k m w is)
        (λ (w : (i ≡ length t.made) × (new ≡ m)). omega (arith, w.0, n_is, (left k (ap (λ (x : MadeNode). x.from) w.1 ∙ is)).0))
        (slice_get-push_cases t.made new i m at);
    heir = λ i k m at is.
        fresh_behind kept None 1 k
        ∙ ⊎_elim
        (λ (w : slice_get t.made i ≡ Some m). kept_heir from refl i k (h.heir i k m w is))
        (λ (w : (i ≡ length t.made) × (new ≡ m)). new_heir from refl k (ap (λ (x : MadeNode). x.from) w.1 ∙ is) ∙ ap Some (n_is ∙ sym w.0))
        (slice_get-push_cases t.made new i m at);
    fits = λ i m at. ⊎_elim
        (λ (w : slice_get t.made i ≡ Some m). h.fits i m w)
        (λ (w : (i ≡ length t.made) × (new ≡ m)). subst (λ (y : MadeNode). FitsKind y.kind y.arg) w.1 (fits_of node own))
        (slice_get-push_cases t.made new i m at);
  }

order_next : (t u : Nodes) (l : HistoryLine) → IsOrderly t → read_line t l ≡ Some u → IsOrderly u
order_next t u (to.Make n node from) h is = by (may_make t n node from) refl is
  where
    by : (b : Bool) → may_make t n node from ≡ b → cond b (Some (with_node (with_heir t from n) node from)) None ≡ Some u → IsOrderly u
    by true ok e = subst IsOrderly (same_Some (with_node (with_heir t from n) node from) u e) (made_order t n node from h ok)
    by false ok e = absurd (none-some u e)
order_next t u (to.Remove n) h is = subst IsOrderly (same_Some (with_removed t n) u is) (removed_order t n h)
order_next t u _ h is = subst IsOrderly (same_Some t u is) h

pub orders : (t u : Nodes) (ls : List HistoryLine) → IsOrderly t → read_on t ls ≡ Some u → IsOrderly u
orders t u [] h is = subst IsOrderly (same_Some t u is) h
orders t u (l ∷ ls) h is = by (read_line t l) refl is (λ v one. orders v u ls (order_next t v l h one))
  where
    by : (o : Option Nodes) → read_line t l ≡ o → fold read_next o ls ≡ Some u → ((v : Nodes) → read_line t l ≡ Some v → read_on v ls ≡ Some u → IsOrderly u) → IsOrderly u
    by None one rest on = absurd (none-some u (sym (none_stays read_line ls) ∙ rest))
    by (Some v) one rest on = on v one rest

-- the table of a history has nodes that can be made
pub table_fits : (history : List HistoryLine) (t : Table) → Some (table_in t) ≡ read_lines history → All (λ (m : MadeNode). FitsKind m.kind m.arg) t.made.items
table_fits history t is = λ k d low. (orders no_nodes (table_in t) history no_order (sym is)).fits k (get_or t.made.items k d) (slice_get-get_or t.made.items k d low)
