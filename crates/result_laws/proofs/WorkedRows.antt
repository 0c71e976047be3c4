-- The definitions on small systems.
use Rattle.std.proofs.Common.{◌≡◌, ◌∙◌, ℕ, zero, suc, ◌+◌, Bool, false, true, List, [], ◌∷◌, ◌++◌, Option, Some, None, refl, sym, ap, subst, arith, inl, inr}
use Rattle.std.specs.Prelude.{codes, ◌⊎◌, ◌||◌, All, Contains, is_some, slice_get}
use Rattle.std.specs.List.{list_any}
use Rattle.std.proofs.lemmas.List.Elements.{All-cons, All-head, All-nil, All-tail}
use Rattle.std.proofs.lemmas.Bool.{both_ways, ne_eqb, or_parts}
use Rattle.std.proofs.lemmas.List.Folds.{list_any-append}
use Rattle.std.proofs.lemmas.Option.{none-some, same_Some}
use Rattle.base.proofs.PlaceLaws.{heads_are, tails_are}
use Rattle.config_graph.specs.declared.node.Target.{Target}
use Rattle.config_graph.specs.Graph.{Graph, target_of}
use Rattle.config_graph.specs.Cycles.{IsLinked}
use Rattle.config_graph.specs.declared.kind.Kind.{Kind}
use Rattle.config_graph.specs.declared.kind.Kind.TheVariants.{Account, Branch, Map, Sink, Source, Teller}
use Rattle.quiesce_core.specs.Live.{IsGraphOf}
use Rattle.quiesce_core.specs.State.{Configuration}
use Rattle.quiesce_core.specs.declared.event.Event.TheVariants as event
use Rattle.report_types.specs.declared.report.Last.{Last}
use Rattle.report_types.specs.declared.report.Last.TheVariants as last
use Rattle.change_spec.specs.Members.{Member, by_node, state_at}
use Rattle.change_spec.specs.Standing.{is_graph_of}
use Rattle.result_laws.specs.Items.{HasItems, IsItem, IsOfSource, WasAnswered}
use Rattle.result_laws.specs.Describing.{kind_at}
use Rattle.result_laws.specs.Rows.{IsRow, LeadsThrough, is_of_row, rows_serve_rows, through}
use Rattle.result_laws.specs.WorkedBanks.{bank_beside_row, beside}
use Rattle.result_laws.proofs.Testing.{links_pass}
use Rattle.result_laws.specs.Worked.{members, members_amidst, row_beside_teller, row_of_none, row_of_one, row_of_two, row_with_teller, sink_log, source_log, under_way, until_amidst, until_begun, with_one_aside}

two_is_row : IsRow row_of_two
two_is_row = record {
  source = 2;
  maps = 3 ∷ 0 ∷ [];
  sink = 1;
  is_source = refl;
  are_maps = All-cons (λ i. kind_at row_of_two i ≡ Some Map) 3 (0 ∷ []) refl (All-cons (λ i. kind_at row_of_two i ≡ Some Map) 0 [] refl (All-nil (λ i. kind_at row_of_two i ≡ Some Map)));
  is_sink = refl;
  no_others = each;
  links = links_pass rows_serve_rows row_of_two refl;
  leads = (refl, (refl, refl));
}
  where
    each : (i : ℕ) (k : Kind) → kind_at row_of_two i ≡ Some k → is_of_row k ≡ true → (i ≡ 2) ⊎ Contains (3 ∷ 0 ∷ []) i ⊎ (i ≡ 1)
    each zero k h of_row = inr (inl (1, omega arith, refl))
    each (suc zero) k h of_row = inr (inr refl)
    each (suc (suc zero)) k h of_row = inl refl
    each (suc (suc (suc zero))) k h of_row = inr (inl (0, omega arith, refl))
    each (suc (suc (suc (suc i)))) k h of_row = absurd (none-some k h)

pub two_is_so : (row : IsRow row_of_two) × (row.maps ≡ 3 ∷ 0 ∷ [])
unfolding two_is_row
two_is_so = (two_is_row, refl)

-- 1 becomes 1 - 1 + 10, modulo 2^24, and 2 becomes 11; without maps a value stays
pub passed_there : through row_of_two (3 ∷ 0 ∷ []) 1 ∷ through row_of_two (3 ∷ 0 ∷ []) 2 ∷ through row_of_none [] 7 ∷ [] ≡ 10 ∷ 11 ∷ 7 ∷ []
passed_there = refl

pub none_is_row : IsRow row_of_none
none_is_row = record {
  source = 1;
  maps = [];
  sink = 0;
  is_source = refl;
  are_maps = All-nil (λ i. kind_at row_of_none i ≡ Some Map);
  is_sink = refl;
  no_others = each;
  links = links_pass rows_serve_rows row_of_none refl;
  leads = refl;
}
  where
    each : (i : ℕ) (k : Kind) → kind_at row_of_none i ≡ Some k → is_of_row k ≡ true → (i ≡ 1) ⊎ Contains [] i ⊎ (i ≡ 0)
    each zero k h of_row = inr (inr refl)
    each (suc zero) k h of_row = inl refl
    each (suc (suc i)) k h of_row = absurd (none-some k h)

pub one_is_row : IsRow row_of_one
one_is_row = record {
  source = 0;
  maps = 1 ∷ [];
  sink = 2;
  is_source = refl;
  are_maps = All-cons (λ i. kind_at row_of_one i ≡ Some Map) 1 [] refl (All-nil (λ i. kind_at row_of_one i ≡ Some Map));
  is_sink = refl;
  no_others = each;
  links = links_pass rows_serve_rows row_of_one refl;
  leads = (refl, refl);
}
  where
    each : (i : ℕ) (k : Kind) → kind_at row_of_one i ≡ Some k → is_of_row k ≡ true → (i ≡ 0) ⊎ Contains (1 ∷ []) i ⊎ (i ≡ 2)
    each zero k h of_row = inl refl
    each (suc zero) k h of_row = inr (inl (0, omega arith, refl))
    each (suc (suc zero)) k h of_row = inr (inr refl)
    each (suc (suc (suc i))) k h of_row = absurd (none-some k h)

-- a row beside a bank
unfoldable pub beside_is_row : (n b : ℕ) (sink : List ℕ) → IsRow (beside n b sink)
beside_is_row n b sink = record {
  source = 4;
  maps = 2 ∷ [];
  sink = 5;
  is_source = refl;
  are_maps = All-cons (λ i. kind_at (beside n b sink) i ≡ Some Map) 2 [] refl (All-nil (λ i. kind_at (beside n b sink) i ≡ Some Map));
  is_sink = refl;
  no_others = each;
  links = links_pass rows_serve_rows (beside n b sink) refl;
  leads = (refl, refl);
}
  where
    other : (k l : Kind) → Some l ≡ Some k → is_of_row l ≡ false → is_of_row k ≡ true → ⊥
    other k l h none_ of_row = both_ways (is_of_row l) none_ (ap is_of_row (same_Some l k h) ∙ of_row)

    each : (i : ℕ) (k : Kind) → kind_at (beside n b sink) i ≡ Some k → is_of_row k ≡ true → (i ≡ 4) ⊎ Contains (2 ∷ []) i ⊎ (i ≡ 5)
    each zero k h of_row = absurd (other k Account h refl of_row)
    each (suc zero) k h of_row = absurd (other k Account h refl of_row)
    each (suc (suc zero)) k h of_row = inr (inl (0, omega arith, refl))
    each (suc (suc (suc zero))) k h of_row = absurd (other k Branch h refl of_row)
    each (suc (suc (suc (suc zero)))) k h of_row = inl refl
    each (suc (suc (suc (suc (suc zero))))) k h of_row = inr (inr refl)
    each (suc (suc (suc (suc (suc (suc zero)))))) k h of_row = absurd (other k Teller h refl of_row)
    each (suc (suc (suc (suc (suc (suc (suc i))))))) k h of_row = absurd (none-some k h)

pub beside_passes : through bank_beside_row (beside_is_row 5 0 (codes "t")).maps 1 ≡ 6
unfolding beside_is_row
beside_passes = refl

pub beside_is_so : (row : IsRow bank_beside_row) × (through bank_beside_row row.maps 1 ≡ 6)
beside_is_so = (beside_is_row 5 0 (codes "t"), beside_passes)

-- a teller leads to its sink
pub teller_is_none : IsRow row_with_teller → ⊥
teller_is_none r = both_ways false refl (r.links 3 0 2 0 Teller Sink refl refl refl)

abbrev linked_node : Option Target → ℕ
linked_node None = 9
linked_node (Some t) = t.node

none_leads : (j : ℕ) → IsLinked with_one_aside j 0 0 0 → ⊥
none_leads zero h = omega (arith, ap linked_node h)
none_leads (suc zero) h = omega (arith, ap linked_node h)
none_leads (suc (suc zero)) h = omega (arith, ap linked_node h)
none_leads (suc (suc (suc j))) h =
    let none_ : target_of with_one_aside.links (suc (suc (suc j))) 0 ≡ None =
    rw (ne_eqb 0 (suc (suc (suc j))) (λ e. omega (arith, e))) (rw (ne_eqb 2 (suc (suc (suc j))) (λ e. omega (arith, e))) refl) in
    both_ways false refl (sym (ap is_some none_) ∙ ap is_some h)

led_aside : (maps : List ℕ) (i t : ℕ) → LeadsThrough with_one_aside i maps t → Contains maps 0 → (j : ℕ) × IsLinked with_one_aside j 0 0 0
led_aside [] i t l c = absurd (omega (arith, c.1))
led_aside (m ∷ maps) i t l (zero, low, is) = (i, subst (λ k. IsLinked with_one_aside i 0 k 0) is l.0)
led_aside (m ∷ maps) i t l (suc k, low, is) = led_aside maps m t l.1 (k, omega (arith, low), is)

-- a map that stands aside: no way from the source leads through it
pub aside_is_none : IsRow with_one_aside → ⊥
aside_is_none r = by (r.no_others 0 Map refl refl)
  where
    by : (0 ≡ r.source) ⊎ Contains r.maps 0 ⊎ (0 ≡ r.sink) → ⊥
    by (inl is) = cc (ap (kind_at with_one_aside) is ∙ r.is_source)
    by (inr (inl c)) = let l = led_aside r.maps r.source r.sink r.leads c in none_leads l.0 l.1
    by (inr (inr is)) = cc (ap (kind_at with_one_aside) is ∙ r.is_sink)

-- ---- the one value that passes through one map

-- each row that this graph is leads through its map
maps_of_one : (r : IsRow row_of_one) → through row_of_one r.maps 1 ≡ 11
maps_of_one r = by r.source r.maps r.sink r.is_source r.are_maps r.is_sink r.leads
  where
    to_1 : (m : ℕ) → IsLinked row_of_one 0 0 m 0 → m ≡ 1
    to_1 m l = sym (ap linked_node l)

    to_2 : (m : ℕ) → IsLinked row_of_one 1 0 m 0 → m ≡ 2
    to_2 m l = sym (ap linked_node l)

    rest : (maps : List ℕ) (t : ℕ) → All (λ i. kind_at row_of_one i ≡ Some Map) maps → LeadsThrough row_of_one 1 maps t → through row_of_one (1 ∷ maps) 1 ≡ 11
    rest [] t are l = refl
    rest (m ∷ maps) t are l = absurd (cc (sym (ap (kind_at row_of_one) (to_2 m l.0)) ∙ All-head (λ i. kind_at row_of_one i ≡ Some Map) m maps are))

    by : (s : ℕ) (maps : List ℕ) (t : ℕ) → kind_at row_of_one s ≡ Some Source → All (λ i. kind_at row_of_one i ≡ Some Map) maps → kind_at row_of_one t ≡ Some Sink → LeadsThrough row_of_one s maps t → through row_of_one maps 1 ≡ 11
    by zero [] t s are k l = absurd (cc (sym (ap (kind_at row_of_one) (to_1 t l)) ∙ k))
    by zero (m ∷ maps) t s are k l =
        let here = to_1 m l.0 in
        ap (λ i. through row_of_one (i ∷ maps) 1) here ∙ rest maps t (All-tail (λ i. kind_at row_of_one i ≡ Some Map) m maps are) (subst (λ i. LeadsThrough row_of_one i maps t) here l.1)
    by (suc zero) maps t s are k l = absurd (cc s)
    by (suc (suc zero)) maps t s are k l = absurd (cc s)
    by (suc (suc (suc i))) maps t s are k l = absurd (cc s)

items_in : Last → List ℕ
items_in (last.State xs) = xs
items_in _ = []

-- its one transaction, behind these members
abbrev all_behind : List Member → List Member
all_behind front = front ++ by_node (event.Begin 0 1 1) ∷ (under_way ++ by_node (event.End 0 1 1) ∷ [])

answered_behind : (front : List Member) → IsOfSource (state_at front).config 0 → WasAnswered (all_behind front) 1
answered_behind front of_source = record { before = front; between = under_way; after = []; port = 0; serial = 1; answer = 1; parts = refl; of_source = of_source; not_0 = λ e. omega (arith, e) }

abbrev one_answered : WasAnswered members 1
one_answered = record { before = until_begun; between = under_way; after = []; port = 0; serial = 1; answer = 1; parts = refl; of_source = refl; not_0 = λ e. omega (arith, e) }

abbrev is_begun : Member → Bool
is_begun (by_node (event.Begin p k v)) = true
is_begun _ = false

-- where there is one Begin, it stands there
one_begun : (front before : List Member) (x y : Member) (rest after : List Member) → list_any is_begun front ≡ false → list_any is_begun rest ≡ false → is_begun y ≡ true → front ++ x ∷ rest ≡ before ++ y ∷ after → before ≡ front
one_begun [] [] x y rest after none_ none_' is h = refl
one_begun [] (b ∷ before) x y rest after none_ none_' is h =
    let there : list_any is_begun (before ++ y ∷ after) ≡ true = list_any-append is_begun before (y ∷ after) ∙ ap (λ b. list_any is_begun before || (b || list_any is_begun after)) is ∙ either (list_any is_begun before) in
    absurd (both_ways (list_any is_begun rest) none_' (ap (list_any is_begun) (tails_are x b rest (before ++ y ∷ after) h) ∙ there))
  where
    either : (b : Bool) → (b || true) ≡ true
    either true = refl
    either false = refl
one_begun (a ∷ front) [] x y rest after none_ none_' is h =
    absurd (both_ways (is_begun a) (or_parts (is_begun a) (list_any is_begun front) none_).0 (ap is_begun (heads_are a y (front ++ x ∷ rest) after h) ∙ is))
one_begun (a ∷ front) (b ∷ before) x y rest after none_ none_' is h =
    let same = sym (heads_are a b (front ++ x ∷ rest) (before ++ y ∷ after) h) in
    let later = one_begun front before x y rest after (or_parts (is_begun a) (list_any is_begun front) none_).1 none_' is (tails_are a b (front ++ x ∷ rest) (before ++ y ∷ after) h) in
    (λ i. same i ∷ later i)

-- it is 11, where a row stands in front that makes that of 1
item_behind : (front : List Member) (g : Graph) (r : IsRow g) → through g r.maps 1 ≡ 11 → IsGraphOf (state_at front).config g → list_any is_begun front ≡ false → IsOfSource (state_at front).config 0
    → HasItems (all_behind front) source_log (sink_log 11)
item_behind front g r passes stands none_ of_source = record { items = 11 ∷ []; source_says = refl; sink_has = refl; began = begun; each = each }
  where
    begun : (j item : ℕ) → slice_get (11 ∷ []) j ≡ Some item → WasAnswered (all_behind front) (j + 1)
    begun zero item at = answered_behind front of_source
    begun (suc j) item at = absurd (none-some item at)

    each : (j item : ℕ) (b : WasAnswered (all_behind front) (j + 1)) → slice_get (11 ∷ []) j ≡ Some item → IsItem (all_behind front) (j + 1) item b
    each zero item b at =
        let e = by_node (event.End 0 1 1) in
        let before : b.before ≡ front =
        one_begun front b.before (by_node (event.Begin 0 1 1)) (by_node (event.Begin b.port b.serial 1)) (under_way ++ e ∷ []) (b.between ++ by_node (event.End b.port b.serial b.answer) ∷ b.after) none_ refl refl b.parts in
        record { graph = g; stands = subst (λ (m : List Member). IsGraphOf (state_at m).config g) (sym before) stands; row = r; is = sym (same_Some 11 item at) ∙ sym passes }
    each (suc j) item b at = absurd (none-some item at)

pub item_holds : ((c : Configuration) (g : Graph) → is_graph_of c g ≡ true → IsGraphOf c g) → HasItems members source_log (sink_log 11)
item_holds found = item_behind until_begun row_of_one one_is_row (maps_of_one one_is_row) (found (state_at until_begun).config row_of_one refl) refl refl

-- also in the midst of a commit beside
beside_teller_is_row : IsRow row_beside_teller
beside_teller_is_row = record {
  source = 0;
  maps = 1 ∷ [];
  sink = 2;
  is_source = refl;
  are_maps = All-cons (λ i. kind_at row_beside_teller i ≡ Some Map) 1 [] refl (All-nil (λ i. kind_at row_beside_teller i ≡ Some Map));
  is_sink = refl;
  no_others = each;
  links = links_pass rows_serve_rows row_beside_teller refl;
  leads = (refl, refl);
}
  where
    each : (i : ℕ) (k : Kind) → kind_at row_beside_teller i ≡ Some k → is_of_row k ≡ true → (i ≡ 0) ⊎ Contains (1 ∷ []) i ⊎ (i ≡ 2)
    each zero k h of_row = inl refl
    each (suc zero) k h of_row = inr (inl (0, omega arith, refl))
    each (suc (suc zero)) k h of_row = inr (inr refl)
    each (suc (suc (suc zero))) k h of_row = absurd (both_ways false refl (ap is_of_row (same_Some Teller k h) ∙ of_row))
    each (suc (suc (suc (suc i)))) k h of_row = absurd (none-some k h)

beside_teller_passes : through row_beside_teller beside_teller_is_row.maps 1 ≡ 11
unfolding beside_teller_is_row
beside_teller_passes = refl

pub item_holds_amidst : ((c : Configuration) (g : Graph) → is_graph_of c g ≡ true → IsGraphOf c g) → HasItems members_amidst source_log (sink_log 11)
item_holds_amidst found = item_behind until_amidst row_beside_teller beside_teller_is_row beside_teller_passes (found (state_at until_amidst).config row_beside_teller refl) refl refl

-- its item is what the one map made of it, and no other number
pub item_is : ((c : Configuration) (g : Graph) → is_graph_of c g ≡ true → IsGraphOf c g) → ((c : Configuration) (g h : Graph) → IsGraphOf c g → IsGraphOf c h → g ≡ h) → (item : ℕ) → HasItems members source_log (sink_log item) → item ≡ 11
unfolding items_in
item_is found one item h =
    let has : item ∷ [] ≡ h.items = ap items_in h.sink_has in
    let i = h.each 0 item one_answered (sym (ap (λ (xs : List ℕ). slice_get xs 0) has)) in
    let same : i.graph ≡ row_of_one = one (state_at until_begun).config i.graph row_of_one i.stands (found (state_at until_begun).config row_of_one refl) in
    i.is ∙ subst (λ (g : Graph). (r : IsRow g) → through g r.maps 1 ≡ 11) (sym same) maps_of_one i.row
