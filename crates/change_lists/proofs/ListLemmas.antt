-- What a plan does in a configuration is what it does by the layout that tells it.
use Rattle.std.proofs.Common.{◌≡◌, ℕ, ◌+◌, ◌-◌, ◌<◌, ◌≤◌, zero, suc, Bool, true, false, cond, not, List, [], ◌∷◌, ◌++◌, append_assoc, get_or, length, map, Option, Some, None, All, refl, sym, ap, ◌∙◌, subst, inl, inr, arith}
use Rattle.std.specs.Prelude.{◌⊎◌, ◌&&◌, ◌||◌, ◌==◌, filter, filter_map, find, is_some, nat_lt, option_and_then, option_map, position, slice_get, slice_set, unwrap_or}
use Rattle.std.specs.List.{list_any, range_with_len}
use Rattle.std.specs.Option.{option_map_or}
use Rattle.std.proofs.Math.Path.{fun_ext}
use Rattle.std.proofs.lemmas.Bool.{both_ways, cases_lt, eq-eqb, le-ltb, lt-ltb}
use Rattle.std.proofs.lemmas.List.{append-nil, length-append, length-map, map-append}
use Rattle.std.proofs.lemmas.List.Elements.{All-tail}
use Rattle.std.proofs.lemmas.List.Sums.{fold-append}
use Rattle.std.proofs.lemmas.Option.{get_or_from_slice_get, same_Some, slice_get-get_or, slice_get-map, slice_get_within}
use Rattle.base.proofs.MapLaws.{map-map, position-map, set_same, map_picked}
use Rattle.base.proofs.PlaceLaws.{slice_get-append_cases, slice_get-append_front, slice_get-behind, slice_get-front, slice_get-map_at, slice_get-map_some, slice_get-there}
use Rattle.base.proofs.NumberLaws.{other_number, above_number}
use Rattle.base.proofs.RangeLaws.{same_below, same_picked}
use Rattle.change_plan.specs.declared.plan_data.Plan.{Plan}
use Rattle.change_plan.specs.declared.plan_data.Shift.{Shift}
use Rattle.change_plan.proofs.NodeLaws.{index_found}
use Rattle.quiesce_core.specs.Live.{IsGraphOf}
use Rattle.config_graph.specs.Graph.{Graph, PathsRise, index_of}
use Rattle.config_graph.specs.Kinds.{row}
use Rattle.config_graph.specs.declared.kind.Kind.TheVariants.{Fork}
use Rattle.config_graph.specs.declared.node.Node.{Node}
use Rattle.config_graph.specs.declared.node.Link.{Link}
use Rattle.config_graph.specs.declared.node.Port.{Port}
use Rattle.change_plan_laws.specs.Commit.{commit_events, commit_steps, is_frozen_or_new, is_link_of, is_one_of, is_unlinked_by, makes_from, new_link, new_links, node_at, node_path, ports_to_close, ports_where, reopened_ports, slot_at, slots_where, source_of, stands_in, work}
use Rattle.quiesce_laws.specs.Steps.{change_all}
use Rattle.quiesce_laws.specs.Work.{NewLink, Work, link_new, make_new, work_of}
use Rattle.quiesce_core.specs.Effect.{change_next, new_gates}
use Rattle.quiesce_core.specs.declared.event.Event.TheVariants as event
use Rattle.quiesce_core.specs.declared.event.Event.TheVariants.{Make, Remove, Reopen, Unlink}
use Rattle.quiesce_core.specs.State.{Configuration, fresh_gate, gate, is_live, owner}
use Rattle.quiesce_core.specs.declared.event.Event.{Event}
use Rattle.quiesce_core.specs.declared.state.Gate.{Gate}
use Rattle.quiesce_core.specs.declared.state.Slot.{Slot}
use Rattle.change_lists.specs.declared.layout.Layout.{Layout}
use Rattle.change_lists.specs.Layouts.{IsLayoutOf, is_among, is_place, place_at, place_in, port_of}
use Rattle.change_lists.specs.PlanIn.{IsPlanIn}
use Rattle.change_lists.specs.Lists.{closed_by, commit_by, is_link_at, is_port_at, is_reopened_at, is_unlinked_at, link_at, link_to, links_by, makes_by, owner_place, place_after, places_after, ports_after, ports_from, ports_in, removes_by, reopens_by, slot_of, source_by, unlinks_by}
use Rattle.change_lists.proofs.LayoutLaws.{has_place, place_there}
use Rattle.change_lists.proofs.StandLemmas.{one_by_place, slot_is, stands_by_place}
use Rattle.change_plan_laws.proofs.StandingLaws.{one_live, path_of}

module _ (c : Configuration) (g : Graph) (rise : PathsRise g.nodes) where
  abbrev places : List (Option ℕ)
  places = map (place_in g) c.slots

  abbrev ports_ : List Port
  ports_ = map port_of c.gates

  -- whose port it is
  port_there : (p : ℕ) → p < length c.gates → slice_get ports_ p ≡ Some (port_of (gate c p))
  port_there p made =
      let x = slice_get-there c.gates p made in
      slice_get-map port_of c.gates p ∙ ap (option_map port_of) x.1 ∙ ap (λ (y : Gate). Some (port_of y)) (sym (get_or_from_slice_get c.gates p x.0 fresh_gate x.1))

  owner_there : (p : ℕ) → p < length c.gates → owner_place places ports_ p ≡ place_at places (owner c p)
  owner_there p made = ap (option_and_then (λ (x : Port). place_at places x.node)) (port_there p made)

  as_long : length ports_ ≡ length c.gates
  as_long = length-map c.gates port_of

  as_many : length places ≡ length c.slots
  as_many = length-map c.slots (place_in g)

  pub closed_is : (plan : Plan) → All (λ i. i < length g.nodes) plan.freeze → ports_to_close g plan c ≡ closed_by places ports_ plan.freeze
  closed_is plan within =
      same_below (λ p. is_one_of g plan.freeze c (owner c p)) (λ p. is_among plan.freeze (owner_place places ports_ p)) (length c.gates)
      (λ p made. one_by_place c g rise plan.freeze (owner c p) within ∙ ap (is_among plan.freeze) (sym (owner_there p made)))
      ∙ ap (λ n. filter (λ p. is_among plan.freeze (owner_place places ports_ p)) (range_with_len 0 n)) (sym as_long)

  pub removes_are : (plan : Plan) → All (λ i. i < length g.nodes) plan.remove → slots_where (is_one_of g plan.remove c) c ≡ removes_by places plan.remove
  removes_are plan within =
      same_below (is_one_of g plan.remove c) (λ n. is_among plan.remove (place_at places n)) (length c.slots) (λ n made. one_by_place c g rise plan.remove n within)
      ∙ ap (λ n. filter (λ n. is_among plan.remove (place_at places n)) (range_with_len 0 n)) (sym as_many)

  port_is_one : (p : ℕ) (unlink : List Port) → All (λ (q : Port). q.node < length g.nodes) unlink
      → list_any (λ (q : Port). stands_in g q.node c (owner c p) && (gate c p).require == q.require) unlink ≡ list_any (is_port_at (place_at places (owner c p)) (port_of (gate c p))) unlink
  port_is_one p [] within = refl
  port_is_one p (q ∷ unlink) within =
      ap (λ b. (b && (gate c p).require == q.require) || list_any (λ (q : Port). stands_in g q.node c (owner c p) && (gate c p).require == q.require) unlink)
      (stands_by_place c g rise q.node (owner c p) (within 0 q (omega arith)))
      ∙ ap (λ b. is_port_at (place_at places (owner c p)) (port_of (gate c p)) q || b) (port_is_one p unlink (All-tail (λ (q : Port). q.node < length g.nodes) q unlink within))

  pub unlinks_are : (plan : Plan) → All (λ (q : Port). q.node < length g.nodes) plan.unlink → ports_where (is_unlinked_by g plan c) c ≡ unlinks_by places ports_ plan.unlink
  unlinks_are plan within =
      same_below (is_unlinked_by g plan c) (is_unlinked_at places ports_ plan.unlink) (length c.gates)
      (λ p made. port_is_one p plan.unlink within
      ∙ sym (ap (λ (o : Option Port). option_map_or (λ (x : Port). list_any (is_port_at (place_at places x.node) x) plan.unlink) o false) (port_there p made)))
      ∙ ap (λ n. filter (is_unlinked_at places ports_ plan.unlink) (range_with_len 0 n)) (sym as_long)

  -- the slot of a node
  pub slot_there : (i : ℕ) → i < length g.nodes → slot_at c (node_path g i) ≡ slot_of places i
  slot_there i within =
      ap (λ f. position f c.slots) (fun_ext (λ m. slot_is c g rise i m within)) ∙ sym (position-map (is_place i) (place_in g) c.slots)

  source_is : (plan : Plan) → All (λ (s : Shift). s.old < length g.nodes) plan.moves → (j : ℕ) → source_of g plan c j ≡ source_by places plan.moves j
  source_is plan within j = found plan.moves within
    where
      found : (moves : List Shift) → All (λ (s : Shift). s.old < length g.nodes) moves
          → option_and_then (λ (s : Shift). slot_at c (node_path g s.old)) (find (λ (s : Shift). s.new == j) moves) ≡ option_and_then (λ (s : Shift). slot_of places s.old) (find (λ (s : Shift). s.new == j) moves)
      found [] h = refl
      found (s ∷ moves) h = by (s.new == j) (found moves (All-tail (λ (s : Shift). s.old < length g.nodes) s moves h))
        where
          by : (b : Bool) → option_and_then (λ (s : Shift). slot_at c (node_path g s.old)) (find (λ (s : Shift). s.new == j) moves) ≡ option_and_then (λ (s : Shift). slot_of places s.old) (find (λ (s : Shift). s.new == j) moves)
              → option_and_then (λ (s : Shift). slot_at c (node_path g s.old)) (cond b (Some s) (find (λ (s : Shift). s.new == j) moves))
              ≡ option_and_then (λ (s : Shift). slot_of places s.old) (cond b (Some s) (find (λ (s : Shift). s.new == j) moves))
          by true rest = slot_there s.old (h 0 s (omega arith))
          by false rest = rest

  pub makes_are : (new : Graph) (plan : Plan) → All (λ (s : Shift). s.old < length g.nodes) plan.moves → (k : ℕ) (js : List ℕ)
      → map make_new (makes_from g new plan c k js) ≡ makes_by places plan.moves new k js
  makes_are new plan within k [] = refl
  makes_are new plan within k (j ∷ js) =
      ap (λ from. make_new (record { slot = k; node = node_at new j; from = from }) ∷ map make_new (makes_from g new plan c (k + 1) js)) (source_is plan within j)
      ∙ ap (λ es. make_new (record { slot = k; node = node_at new j; from = source_by places plan.moves j }) ∷ es) (makes_are new plan within (k + 1) js)

-- A removal leaves a node's slot, but not live.
abbrev kill : Slot → Slot
kill m = record m { live = false }

abbrev killed : List ℕ → ℕ → List Slot → List Slot
killed rs k [] = []
killed rs k (m ∷ ms) = cond (list_any (λ r. r == k) rs) (kill m) m ∷ killed rs (k + 1) ms

none_killed : (k : ℕ) (ms : List Slot) → killed [] k ms ≡ ms
none_killed k [] = refl
none_killed k (m ∷ ms) = ap (λ xs. m ∷ xs) (none_killed (k + 1) ms)

past_killed : (r k : ℕ) (ms : List Slot) → r < k → killed (r ∷ []) k ms ≡ ms
past_killed r k [] low = refl
past_killed r k (m ∷ ms) low =
    ap (λ b. cond (b || false) (kill m) m ∷ killed (r ∷ []) (k + 1) ms) (other_number r k low) ∙ ap (λ xs. m ∷ xs) (past_killed r (k + 1) ms (omega (arith, low)))

one_killed : (k i : ℕ) (ms : List Slot) → option_map_or (λ (m : Slot). slice_set ms i (kill m)) (slice_get ms i) ms ≡ killed ((k + i) ∷ []) k ms
one_killed k i [] = refl
one_killed k zero (m ∷ ms) =
    ap (λ xs. kill m ∷ xs) (sym (past_killed (k + 0) (k + 1) ms (omega arith)))
    ∙ ap (λ b. cond (b || false) (kill m) m ∷ killed ((k + 0) ∷ []) (k + 1) ms) (sym (eq-eqb (k + 0) k (omega arith)))
one_killed k (suc i) (m ∷ ms) =
    out (slice_get ms i)
    ∙ ap (λ xs. m ∷ xs) (one_killed (k + 1) i ms ∙ ap (λ r. killed (r ∷ []) (k + 1) ms) (omega arith))
    ∙ ap (λ b. cond (b || false) (kill m) m ∷ killed ((k + suc i) ∷ []) (k + 1) ms) (sym (above_number (k + suc i) k (omega arith)))
  where
    out : (o : Option Slot) → option_map_or (λ (x : Slot). slice_set (m ∷ ms) (suc i) (kill x)) o (m ∷ ms) ≡ m ∷ option_map_or (λ (x : Slot). slice_set ms i (kill x)) o ms
    out None = refl
    out (Some x) = refl

both_killed : (r : ℕ) (rs : List ℕ) (k : ℕ) (ms : List Slot) → killed rs k (killed (r ∷ []) k ms) ≡ killed (r ∷ rs) k ms
both_killed r rs k [] = refl
both_killed r rs k (m ∷ ms) = ap (λ x. x ∷ killed rs (k + 1) (killed (r ∷ []) (k + 1) ms)) (by (r == k) (list_any (λ r. r == k) rs)) ∙ ap (λ xs. cond ((r == k) || list_any (λ r. r == k) rs) (kill m) m ∷ xs) (both_killed r rs (k + 1) ms)
  where
    by : (a b : Bool) → cond b (kill (cond (a || false) (kill m) m)) (cond (a || false) (kill m) m) ≡ cond (a || b) (kill m) m
    by true true = refl
    by true false = refl
    by false true = refl
    by false false = refl

removes_slots : (rs : List ℕ) (c : Configuration) → (change_all c (map Remove rs)).slots ≡ killed rs 0 c.slots
removes_slots [] c = sym (none_killed 0 c.slots)
removes_slots (r ∷ rs) c =
    removes_slots rs (change_next c (Remove r))
    ∙ ap (killed rs 0) (one_killed 0 r c.slots ∙ ap (λ n. killed (n ∷ []) 0 c.slots) (omega arith)) ∙ both_killed r rs 0 c.slots

removes_gates : (rs : List ℕ) (c : Configuration) → (change_all c (map Remove rs)).gates ≡ c.gates
removes_gates [] c = refl
removes_gates (r ∷ rs) c = removes_gates rs (change_next c (Remove r))

unlinks_ports : (ps : List ℕ) (c : Configuration) → map port_of (change_all c (map Unlink ps)).gates ≡ map port_of c.gates
unlinks_ports [] c = refl
unlinks_ports (p ∷ ps) c = unlinks_ports ps (change_next c (Unlink p)) ∙ set_same port_of c.gates p _ fresh_gate refl

unlinks_slots : (ps : List ℕ) (c : Configuration) → (change_all c (map Unlink ps)).slots ≡ c.slots
unlinks_slots [] c = refl
unlinks_slots (p ∷ ps) c = unlinks_slots ps (change_next c (Unlink p))

links_ports : (ls : List NewLink) (c : Configuration) → map port_of (change_all c (map link_new ls)).gates ≡ map port_of c.gates
links_ports [] c = refl
links_ports (l ∷ ls) c = links_ports ls (change_next c (link_new l)) ∙ set_same port_of c.gates l.port _ fresh_gate refl

links_slots : (ls : List NewLink) (c : Configuration) → (change_all c (map link_new ls)).slots ≡ c.slots
links_slots [] c = refl
links_slots (l ∷ ls) c = links_slots ls (change_next c (link_new l))

opens_ports : (ps : List ℕ) (c : Configuration) → map port_of (change_all c (map Reopen ps)).gates ≡ map port_of c.gates
opens_ports [] c = refl
opens_ports (p ∷ ps) c = opens_ports ps (change_next c (Reopen p)) ∙ set_same port_of c.gates p _ fresh_gate refl

opens_slots : (ps : List ℕ) (c : Configuration) → (change_all c (map Reopen ps)).slots ≡ c.slots
opens_slots [] c = refl
opens_slots (p ∷ ps) c = opens_slots ps (change_next c (Reopen p))

-- makes add their nodes and ports
module _ (old new : Graph) (plan : Plan) (c : Configuration) where
  makes_places : (k : ℕ) (js : List ℕ) (d : Configuration) → PathsRise new.nodes → All (λ j. j < length new.nodes) js
      → map (place_in new) (change_all d (map make_new (makes_from old new plan c k js))).slots ≡ map (place_in new) d.slots ++ map Some js
  makes_places k [] d rise within = sym (append-nil (map (place_in new) d.slots))
  makes_places k (j ∷ js) d rise within =
      let e = change_next d (Make k (node_at new j) (source_of old plan c j)) in
      let x = slice_get-there new.nodes j (within 0 j (omega arith)) in
      let named : node_at new j ≡ x.0 = ap (λ (o : Option Node). unwrap_or o (record { path = []; kind = Fork; arg = None })) x.1 in
      makes_places (k + 1) js e rise (All-tail (λ j. j < length new.nodes) j js within)
      ∙ ap (λ xs. xs ++ map Some js) (map-append (place_in new) d.slots (_ ∷ []) ∙ ap (λ o. map (place_in new) d.slots ++ o ∷ [])
      (ap (λ (m : Node). index_of new.nodes m.path) named ∙ place_there new.nodes rise j x.0 x.1))
      ∙ append_assoc (map (place_in new) d.slots) (Some j ∷ []) (map Some js)

  makes_ports : (k : ℕ) (js : List ℕ) (d : Configuration) → k ≡ length d.slots
      → map port_of (change_all d (map make_new (makes_from old new plan c k js))).gates ≡ map port_of d.gates ++ ports_from new k js
  makes_ports k [] d is = sym (append-nil (map port_of d.gates))
  makes_ports k (j ∷ js) d is =
      let e = change_next d (Make k (node_at new j) (source_of old plan c j)) in
      let fresh = new_gates (length d.slots) (length (row (node_at new j).kind).requires_) in
      makes_ports (k + 1) js e (ap (λ n. n + 1) is ∙ sym (length-append d.slots (_ ∷ [])))
      ∙ ap (λ xs. xs ++ ports_from new (k + 1) js) (map-append port_of d.gates fresh ∙ ap (λ xs. map port_of d.gates ++ xs)
      (map-map port_of _ (range_with_len 0 (length (row (node_at new j).kind).requires_)) ∙ ap (λ n. ports_in new n j) (sym is)))
      ∙ append_assoc (map port_of d.gates) (ports_in new k j) (ports_from new (k + 1) js)

-- Members of a list of numbers that pass a test.
listed_below : (test : ℕ → Bool) (n a k : ℕ) → n < a → list_any (λ r. r == n) (filter test (range_with_len a k)) ≡ false
listed_below test n a zero low = refl
listed_below test n a (suc k) low = by (test a) (listed_below test n (a + 1) k (omega (arith, low)))
  where
    by : (b : Bool) → list_any (λ r. r == n) (filter test (range_with_len (a + 1) k)) ≡ false
        → list_any (λ r. r == n) (cond b (a ∷ filter test (range_with_len (a + 1) k)) (filter test (range_with_len (a + 1) k))) ≡ false
    by true rest = ap (λ b. b || list_any (λ r. r == n) (filter test (range_with_len (a + 1) k))) (above_number a n low) ∙ rest
    by false rest = rest

listed : (test : ℕ → Bool) (n a k : ℕ) → a ≤ n → n < a + k → list_any (λ r. r == n) (filter test (range_with_len a k)) ≡ test n
listed test n a zero low below = absurd (omega (arith, low, below))
listed test n a (suc k) low below = at (λ less. listed test n (a + 1) k (omega (arith, less)) (omega (arith, below))) (cases_lt a n)
  where
    rest_ : List ℕ
    rest_ = filter test (range_with_len (a + 1) k)

    first : a ≡ n → (b : Bool) → test a ≡ b → list_any (λ r. r == n) (cond b (a ∷ rest_) rest_) ≡ test n
    first is true e = ap (λ b. b || list_any (λ r. r == n) rest_) (eq-eqb a n is) ∙ sym e ∙ ap test is
    first is false e = listed_below test n (a + 1) k (omega (arith, is)) ∙ sym e ∙ ap test is

    later : a < n → list_any (λ r. r == n) rest_ ≡ test n → (b : Bool) → list_any (λ r. r == n) (cond b (a ∷ rest_) rest_) ≡ test n
    later less next_ true = ap (λ b. b || list_any (λ r. r == n) rest_) (other_number a n less) ∙ next_
    later less next_ false = next_

    at : (a < n → list_any (λ r. r == n) rest_ ≡ test n) → (a < n) ⊎ (n ≤ a) → list_any (λ r. r == n) (cond (test a) (a ∷ rest_) rest_) ≡ test n
    at next_ (inl less) = later less (next_ less) (test a)
    at next_ (inr least) = first (omega (arith, low, least)) (test a) refl

-- where the nodes of the old graph stand after the removals
module _ (c : Configuration) (old new : Graph) (is : IsGraphOf c old) (remove : List ℕ) where
  place_left : (n : ℕ) (m : Slot) → slice_get c.slots n ≡ Some m → (b : Bool) → is_among remove (place_in old m) ≡ b
      → place_in new (cond b (kill m) m) ≡ place_after old new remove (place_in old m)
  place_left n m at b e = by m.live refl
    where
      place_of_dead : (b : Bool) → m.live ≡ false → place_in new (cond b (kill m) m) ≡ None
      place_of_dead true dead = refl
      place_of_dead false dead = ap (λ b. cond b (index_of new.nodes m.node.path) None) dead

      old_dead : m.live ≡ false → place_in old m ≡ None
      old_dead dead = ap (λ b. cond b (index_of old.nodes m.node.path) None) dead

      old_live : m.live ≡ true → place_in old m ≡ index_of old.nodes m.node.path
      old_live live = ap (λ b. cond b (index_of old.nodes m.node.path) None) live

      found : m.live ≡ true → (o : Option ℕ) → index_of old.nodes m.node.path ≡ o → place_in new (cond b (kill m) m) ≡ place_after old new remove (place_in old m)
      found live None h = absurd (both_ways true (sym live ∙ sym (has_place c old is n m at) ∙ ap is_some (old_live live ∙ h)) refl)
      found live (Some i) h = kept b e
        where
          here : place_in old m ≡ Some i
          here = old_live live ∙ h

          kept : (b : Bool) → is_among remove (place_in old m) ≡ b → place_in new (cond b (kill m) m) ≡ place_after old new remove (place_in old m)
          kept true e = sym (ap (place_after old new remove) here ∙ ap (λ b. cond b None (index_of new.nodes (node_path old i))) (sym (ap (is_among remove) here) ∙ e))
          kept false e =
              ap (λ b. cond b (index_of new.nodes m.node.path) None) live
              ∙ ap (index_of new.nodes) (path_at i h)
              ∙ sym (ap (place_after old new remove) here ∙ ap (λ b. cond b None (index_of new.nodes (node_path old i))) (sym (ap (is_among remove) here) ∙ e))
            where
              path_at : (i : ℕ) → index_of old.nodes m.node.path ≡ Some i → m.node.path ≡ node_path old i
              path_at i h =
                  let x = index_found old.nodes m.node.path i m.node h in
                  x.1 ∙ sym (path_of old i (get_or old.nodes i m.node) (slice_get-get_or old.nodes i m.node x.0))

      by : (b' : Bool) → m.live ≡ b' → place_in new (cond b (kill m) m) ≡ place_after old new remove (place_in old m)
      by false dead = place_of_dead b dead ∙ sym (ap (place_after old new remove) (old_dead dead))
      by true live = found live (index_of old.nodes m.node.path) refl

  -- the slots from k on, where these numbers are those of removed nodes
  places_left : (rs : List ℕ) (k : ℕ) (ms : List Slot) → ((i : ℕ) (m : Slot) → slice_get ms i ≡ Some m → (slice_get c.slots (k + i) ≡ Some m) × (list_any (λ r. r == (k + i)) rs ≡ is_among remove (place_in old m)))
      → map (place_in new) (killed rs k ms) ≡ map (place_after old new remove) (map (place_in old) ms)
  places_left rs k [] at = refl
  places_left rs k (m ∷ ms) at =
      let here = at 0 m refl in
      ap (λ b. place_in new (cond b (kill m) m) ∷ map (place_in new) (killed rs (k + 1) ms)) (ap (λ n. list_any (λ r. r == n) rs) (omega arith) ∙ here.1)
      ∙ ap (λ o. o ∷ map (place_in new) (killed rs (k + 1) ms)) (place_left (k + 0) m here.0 (is_among remove (place_in old m)) refl)
      ∙ ap (λ xs. place_after old new remove (place_in old m) ∷ xs) (places_left rs (k + 1) ms
      (λ i x e. let y = at (suc i) x e in (ap (slice_get c.slots) (omega arith) ∙ y.0, ap (λ n. list_any (λ r. r == n) rs) (omega arith) ∙ y.1)))

length_killed : (rs : List ℕ) (k : ℕ) (ms : List Slot) → length (killed rs k ms) ≡ length ms
length_killed rs k [] = refl
length_killed rs k (m ∷ ms) = ap suc (length_killed rs (k + 1) ms)

killed_at : (rs : List ℕ) (k : ℕ) (ms : List Slot) (i : ℕ) (m : Slot) → slice_get ms i ≡ Some m → slice_get (killed rs k ms) i ≡ Some (cond (list_any (λ r. r == (k + i)) rs) (kill m) m)
killed_at rs k [] i m e = absurd (none_some e)
  where
    none_some : None ≡ Some m → ⊥
    none_some e = both_ways true (sym (ap is_some e)) refl
killed_at rs k (x ∷ ms) zero m e = ap (λ n. Some (cond (list_any (λ r. r == n) rs) (kill x) x)) (omega arith) ∙ ap (λ y. Some (cond (list_any (λ r. r == (k + 0)) rs) (kill y) y)) (same_Some _ _ e)
killed_at rs k (x ∷ ms) (suc i) m e = killed_at rs (k + 1) ms i m e ∙ ap (λ n. Some (cond (list_any (λ r. r == n) rs) (kill m) m)) (omega arith)

-- the slots that makes add are live
record AddsLive (before after : List Slot) (many : ℕ) : Type 0 where
  added : List Slot
  are : after ≡ before ++ added
  long : length added ≡ many
  live : (i : ℕ) (m : Slot) → slice_get added i ≡ Some m → m.live ≡ true

makes_slots : (old new : Graph) (plan : Plan) (c : Configuration) (k : ℕ) (js : List ℕ) (d : Configuration) → AddsLive d.slots (change_all d (map make_new (makes_from old new plan c k js))).slots (length js)
makes_slots old new plan c k [] d = record { added = []; are = sym (append-nil d.slots); long = refl; live = λ i m e. absurd (both_ways true (sym (ap is_some e)) refl) }
makes_slots old new plan c k (j ∷ js) d =
    let e = change_next d (Make k (node_at new j) (source_of old plan c j)) in
    let rest = makes_slots old new plan c (k + 1) js e in
    let first : Slot = record { node = node_at new j; first_port = length d.gates; from = source_of old plan c j; live = true } in
    record {
      added = first ∷ rest.added;
      are = rest.are ∙ append_assoc d.slots (first ∷ []) rest.added;
      long = ap suc rest.long;
      live = λ i m at. live_at first rest.added refl rest.live i m at;
    }
  where
    live_at : (first : Slot) (rest : List Slot) → first.live ≡ true → ((i : ℕ) (m : Slot) → slice_get rest i ≡ Some m → m.live ≡ true) → (i : ℕ) (m : Slot) → slice_get (first ∷ rest) i ≡ Some m → m.live ≡ true
    live_at first rest h all zero m e = sym (ap (λ (x : Slot). x.live) (same_Some _ _ e)) ∙ h
    live_at first rest h all (suc i) m e = all i m e

-- the owners of the ports that makes add
owners_added : (new : Graph) (k : ℕ) (js : List ℕ) (i : ℕ) (x : Port) → slice_get (ports_from new k js) i ≡ Some x → (k ≤ x.node) × (x.node < k + length js)
owners_added new k [] i x e = absurd (both_ways true (sym (ap is_some e)) refl)
owners_added new k (j ∷ js) i x e = by (owners_added new (k + 1) js) (slice_get-append_cases (ports_in new k j) (ports_from new (k + 1) js) i x e)
  where
    by : ((i : ℕ) (x : Port) → slice_get (ports_from new (k + 1) js) i ≡ Some x → ((k + 1) ≤ x.node) × (x.node < (k + 1) + length js))
        → (slice_get (ports_in new k j) i ≡ Some x) ⊎ ((b : ℕ) × (i ≡ length (ports_in new k j) + b) × (slice_get (ports_from new (k + 1) js) b ≡ Some x)) → (k ≤ x.node) × (x.node < k + length (j ∷ js))
    by rest (inl here) =
        let y = slice_get-map_some (λ r. record { node = k; require = r }) (range_with_len 0 (length (row (node_at new j).kind).requires_)) i x here in
        let is : k ≡ x.node = ap (λ (z : Port). z.node) y.2 in
        (omega (arith, is), omega (arith, is))
    by rest (inr there) = let y = rest there.0 x there.2 in (omega (arith, y.0), omega (arith, y.1))

-- links in a configuration, by the places of the new graph
module _ (d : Configuration) (new : Graph) (rise : PathsRise new.nodes) (links : List Link) (within : All (λ (l : Link). (l.from < length new.nodes) × (l.to < length new.nodes)) links) where
  link_is : (p : ℕ) → p < length d.gates → option_map link_new (option_and_then (new_link new d p) (find (is_link_of new d p) links)) ≡ link_at (map (place_in new) d.slots) (map port_of d.gates) links p
  link_is p made =
      found links within
      ∙ sym (ap (λ (o : Option Port). option_and_then (λ (x : Port). option_and_then (link_to (map (place_in new) d.slots) p) (find (is_link_at (place_at (map (place_in new) d.slots) x.node) x) links)) o) (port_there d new rise p made))
    where
      place : Option ℕ
      place = place_at (map (place_in new) d.slots) (owner d p)

      end_is : (l : Link) → l.to < length new.nodes → option_map link_new (new_link new d p l) ≡ link_to (map (place_in new) d.slots) p l
      end_is l low = ap (λ o. option_map link_new (option_map (λ n. record { port = p; node = n; provide = l.provide }) o)) (slot_there d new rise l.to low) ∙ by (slot_of (map (place_in new) d.slots) l.to)
        where
          by : (o : Option ℕ) → option_map link_new (option_map (λ n. record { port = p; node = n; provide = l.provide }) o) ≡ option_map (λ n. event.Link p n l.provide) o
          by None = refl
          by (Some n) = refl

      found : (ls : List Link) → All (λ (l : Link). (l.from < length new.nodes) × (l.to < length new.nodes)) ls
          → option_map link_new (option_and_then (new_link new d p) (find (is_link_of new d p) ls)) ≡ option_and_then (link_to (map (place_in new) d.slots) p) (find (is_link_at place (port_of (gate d p))) ls)
      found [] h = refl
      found (l ∷ ls) h =
          let low = h 0 l (omega arith) in
          pick (is_link_of new d p l) (found ls (All-tail (λ (l : Link). (l.from < length new.nodes) × (l.to < length new.nodes)) l ls h)) (end_is l low.1)
          ∙ ap (λ b. option_and_then (link_to (map (place_in new) d.slots) p) (cond b (Some l) (find (is_link_at place (port_of (gate d p))) ls)))
          (ap (λ b. b && (gate d p).require == l.require) (stands_by_place d new rise l.from (owner d p) low.0))
        where
          pick : (b : Bool) → option_map link_new (option_and_then (new_link new d p) (find (is_link_of new d p) ls)) ≡ option_and_then (link_to (map (place_in new) d.slots) p) (find (is_link_at place (port_of (gate d p))) ls)
              → option_map link_new (new_link new d p l) ≡ link_to (map (place_in new) d.slots) p l
              → option_map link_new (option_and_then (new_link new d p) (cond b (Some l) (find (is_link_of new d p) ls))) ≡ option_and_then (link_to (map (place_in new) d.slots) p) (cond b (Some l) (find (is_link_at place (port_of (gate d p))) ls))
          pick true rest here = here
          pick false rest here = rest

  links_are : map link_new (filter_map (λ p. option_and_then (new_link new d p) (find (is_link_of new d p) links)) (range_with_len 0 (length d.gates))) ≡ links_by (map (place_in new) d.slots) (map port_of d.gates) links
  links_are =
      map_picked link_new (λ p. option_and_then (new_link new d p) (find (is_link_of new d p) links)) (range_with_len 0 (length d.gates))
      ∙ same_picked (λ p. option_map link_new (option_and_then (new_link new d p) (find (is_link_of new d p) links))) (link_at (map (place_in new) d.slots) (map port_of d.gates) links) (length d.gates) link_is
      ∙ ap (λ n. filter_map (link_at (map (place_in new) d.slots) (map port_of d.gates) links) (range_with_len 0 n)) (sym (length-map d.gates port_of))

-- What a commit leaves, by layouts.
module _ (old new : Graph) (plan : Plan) (c : Configuration) (is : IsGraphOf c old) (rise : PathsRise new.nodes) (h : IsPlanIn old new plan) where
  abbrev at_unlinks : Configuration
  at_unlinks = change_all c (map Unlink (ports_where (is_unlinked_by old plan c) c))

  abbrev at_removes : Configuration
  at_removes = change_all at_unlinks (map Remove (slots_where (is_one_of old plan.remove c) c))

  abbrev at_makes : Configuration
  at_makes = change_all at_removes (map make_new (makes_from old new plan c (length c.slots) plan.create))

  pub work_made : change_all c (work_of (work old new plan c)) ≡ at_makes
  work_made =
      fold-append change_next c (map Unlink (ports_where (is_unlinked_by old plan c) c)) (map Remove (slots_where (is_one_of old plan.remove c) c) ++ map make_new (makes_from old new plan c (length c.slots) plan.create))
      ∙ fold-append change_next at_unlinks (map Remove (slots_where (is_one_of old plan.remove c) c)) (map make_new (makes_from old new plan c (length c.slots) plan.create))

  removed_slots : at_removes.slots ≡ killed (slots_where (is_one_of old plan.remove c) c) 0 c.slots
  removed_slots =
      removes_slots (slots_where (is_one_of old plan.remove c) c) at_unlinks
      ∙ ap (killed (slots_where (is_one_of old plan.remove c) c) 0) (unlinks_slots (ports_where (is_unlinked_by old plan c) c) c)

  removed_ports : map port_of at_removes.gates ≡ map port_of c.gates
  removed_ports =
      ap (map port_of) (removes_gates (slots_where (is_one_of old plan.remove c) c) at_unlinks) ∙ unlinks_ports (ports_where (is_unlinked_by old plan c) c) c

  removed_count : length c.slots ≡ length at_removes.slots
  removed_count = sym (ap (λ (ms : List Slot). length ms) removed_slots ∙ length_killed (slots_where (is_one_of old plan.remove c) c) 0 c.slots)

  is_removed : (n : ℕ) (m : Slot) → slice_get c.slots n ≡ Some m → list_any (λ r. r == n) (slots_where (is_one_of old plan.remove c) c) ≡ is_among plan.remove (place_in old m)
  is_removed n m at =
      listed (is_one_of old plan.remove c) n 0 (length c.slots) (omega arith) (omega (arith, slice_get_within c.slots n m at))
      ∙ one_by_place c old is.paths_rise plan.remove n h.remove
      ∙ ap (λ (o : Option (Option ℕ)). is_among plan.remove (option_and_then (λ x. x) o)) (slice_get-map_at (place_in old) c.slots n m at)

  pub next_places : map (place_in new) at_makes.slots ≡ places_after old new plan (map (place_in old) c.slots)
  next_places =
      makes_places old new plan c (length c.slots) plan.create at_removes rise h.create
      ∙ ap (λ xs. xs ++ map Some plan.create) (ap (map (place_in new)) removed_slots
      ∙ places_left c old new is plan.remove (slots_where (is_one_of old plan.remove c) c) 0 c.slots
      (λ i m e. (ap (slice_get c.slots) (omega arith) ∙ e, ap (λ n. list_any (λ r. r == n) (slots_where (is_one_of old plan.remove c) c)) (omega arith) ∙ is_removed i m e)))

  pub next_ports : map port_of at_makes.gates ≡ ports_after new plan (map (place_in old) c.slots) (map port_of c.gates)
  next_ports =
      makes_ports old new plan c (length c.slots) plan.create at_removes removed_count
      ∙ ap (λ xs. xs ++ ports_from new (length c.slots) plan.create) removed_ports
      ∙ ap (λ n. map port_of c.gates ++ ports_from new n plan.create) (sym (length-map c.slots (place_in old)))

  -- links and openings leave the layout
  abbrev at_links : Configuration
  at_links = change_all c (commit_steps old new plan c)

  commit_links_are : map link_new (new_links new plan (change_all c (work_of (work old new plan c)))) ≡ links_by (places_after old new plan (map (place_in old) c.slots)) (ports_after new plan (map (place_in old) c.slots) (map port_of c.gates)) plan.link
  commit_links_are =
      links_are (change_all c (work_of (work old new plan c))) new rise plan.link h.link
      ∙ ap (λ (d : Configuration). links_by (map (place_in new) d.slots) (map port_of d.gates) plan.link) work_made
      ∙ ap (λ xs. links_by xs (map port_of at_makes.gates) plan.link) next_places
      ∙ ap (λ ps. links_by (places_after old new plan (map (place_in old) c.slots)) ps plan.link) next_ports

  steps_slots : at_links.slots ≡ at_makes.slots
  steps_slots =
      ap (λ (d : Configuration). d.slots) (fold-append change_next c (work_of (work old new plan c)) (map link_new (new_links new plan (change_all c (work_of (work old new plan c))))))
      ∙ links_slots (new_links new plan (change_all c (work_of (work old new plan c)))) (change_all c (work_of (work old new plan c))) ∙ ap (λ (d : Configuration). d.slots) work_made

  steps_ports : map port_of at_links.gates ≡ ports_after new plan (map (place_in old) c.slots) (map port_of c.gates)
  steps_ports =
      ap (λ (d : Configuration). map port_of d.gates) (fold-append change_next c (work_of (work old new plan c)) (map link_new (new_links new plan (change_all c (work_of (work old new plan c))))))
      ∙ links_ports (new_links new plan (change_all c (work_of (work old new plan c)))) (change_all c (work_of (work old new plan c))) ∙ ap (λ (d : Configuration). map port_of d.gates) work_made
      ∙ next_ports

  added : AddsLive at_removes.slots at_makes.slots (length plan.create)
  added = makes_slots old new plan c (length c.slots) plan.create at_removes

  live_in : (xs : List Slot) (n : ℕ) (m : Slot) → at_links.slots ≡ xs → slice_get xs n ≡ Some m → is_live at_links n ≡ m.live
  live_in xs n m are at = ap (λ (s : List Slot). option_map_or (λ (x : Slot). x.live) (slice_get s n) false) are ∙ ap (λ (o : Option Slot). option_map_or (λ (x : Slot). x.live) o false) at

  -- a node that was live is so afterwards where it isn't removed
  live_left : (n : ℕ) → is_live c n ≡ true → is_live at_links n ≡ not (is_among plan.remove (place_at (map (place_in old) c.slots) n))
  live_left n live = by (slice_get c.slots n) refl
    where
      by : (o : Option Slot) → slice_get c.slots n ≡ o → is_live at_links n ≡ not (is_among plan.remove (place_at (map (place_in old) c.slots) n))
      by None e = absurd (both_ways true (sym live ∙ ap (λ (o : Option Slot). option_map_or (λ (x : Slot). x.live) o false) e) refl)
      by (Some m) e =
          let b = is_among plan.remove (place_in old m) in
          let there : slice_get at_removes.slots n ≡ Some (cond b (kill m) m) =
          ap (λ (s : List Slot). slice_get s n) removed_slots ∙ killed_at (slots_where (is_one_of old plan.remove c) c) 0 c.slots n m e
          ∙ ap (λ x. Some (cond x (kill m) m)) (ap (λ k. list_any (λ r. r == k) (slots_where (is_one_of old plan.remove c) c)) (omega arith) ∙ is_removed n m e) in
          let m_live : m.live ≡ true = sym (ap (λ (o : Option Slot). option_map_or (λ (x : Slot). x.live) o false) e) ∙ live in
          live_in (at_removes.slots ++ added.added) n (cond b (kill m) m) (steps_slots ∙ added.are) (slice_get-front at_removes.slots added.added n (cond b (kill m) m) there)
          ∙ alive b m_live
          ∙ sym (ap (λ (o : Option (Option ℕ)). not (is_among plan.remove (option_and_then (λ x. x) o))) (slice_get-map_at (place_in old) c.slots n m e))
        where
          alive : (b : Bool) → m.live ≡ true → (cond b (kill m) m).live ≡ not b
          alive true l = refl
          alive false l = l

  live_added : (n : ℕ) → length c.slots ≤ n → n < length c.slots + length plan.create → is_live at_links n ≡ true
  live_added n low below =
      let i = n - length c.slots in
      let x = slice_get-there added.added i (omega (arith, low, below, added.long)) in
      live_in (at_removes.slots ++ added.added) n x.0 (steps_slots ∙ added.are)
      (ap (slice_get (at_removes.slots ++ added.added)) (omega (arith, low, removed_count)) ∙ slice_get-behind at_removes.slots added.added i x.0 x.1)
      ∙ added.live i x.0 x.1

  reopens_at : (p : ℕ) → p < length at_links.gates
      → (is_live at_links (owner at_links p) && is_frozen_or_new old plan c p) ≡ is_reopened_at (map (place_in old) c.slots) (map port_of c.gates) plan p
  reopens_at p made = by (cases_lt p (length c.gates))
    where
      here : slice_get (ports_after new plan (map (place_in old) c.slots) (map port_of c.gates)) p ≡ Some (port_of (gate at_links p))
      here = ap (λ (s : List Port). slice_get s p) (sym steps_ports) ∙ port_there at_links new rise p made

      frozen : ℕ → Bool
      frozen n = is_one_of old plan.freeze c n

      old_port : p < length c.gates → owner at_links p ≡ owner c p
      old_port low =
          ap (λ (x : Port). x.node) (same_Some _ _ (sym here
          ∙ slice_get-append_front (map port_of c.gates) (ports_from new (length (map (place_in old) c.slots)) plan.create) p (subst (λ n. p < n) (sym (length-map c.gates port_of)) low)
          ∙ port_there c old is.paths_rise p low))

      kept : (n : ℕ) (b : Bool) → frozen n ≡ b → (is_live at_links n && b) ≡ (b && not (is_among plan.remove (place_at (map (place_in old) c.slots) n)))
      kept n false e = by_live (is_live at_links n)
        where
          by_live : (x : Bool) → (x && false) ≡ false
          by_live true = refl
          by_live false = refl
      kept n true e = by_live (is_live at_links n) ∙ live_left n (one_live old plan.freeze c n e)
        where
          by_live : (x : Bool) → (x && true) ≡ x
          by_live true = refl
          by_live false = refl

      new_port : length c.gates ≤ p → is_live at_links (owner at_links p) ≡ true
      new_port past = at (slice_get-append_cases (map port_of c.gates) (ports_from new (length (map (place_in old) c.slots)) plan.create) p (port_of (gate at_links p)) here)
        where
          at : (slice_get (map port_of c.gates) p ≡ Some (port_of (gate at_links p)))
              ⊎ ((b : ℕ) × (p ≡ length (map port_of c.gates) + b) × (slice_get (ports_from new (length (map (place_in old) c.slots)) plan.create) b ≡ Some (port_of (gate at_links p)))) → is_live at_links (owner at_links p) ≡ true
          at (inl early) = absurd (omega (arith, past, slice_get_within (map port_of c.gates) p (port_of (gate at_links p)) early, length-map c.gates port_of))
          at (inr late) =
              let o = owners_added new (length (map (place_in old) c.slots)) plan.create late.0 (port_of (gate at_links p)) late.2 in
              live_added (owner at_links p) (omega (arith, o.0, length-map c.slots (place_in old))) (omega (arith, o.1, length-map c.slots (place_in old)))

      by : (p < length c.gates) ⊎ (length c.gates ≤ p)
          → (is_live at_links (owner at_links p) && is_frozen_or_new old plan c p) ≡ is_reopened_at (map (place_in old) c.slots) (map port_of c.gates) plan p
      by (inl low) =
          ap (λ b. is_live at_links (owner at_links p) && (not b || frozen (owner c p))) (lt-ltb p (length c.gates) low)
          ∙ ap (λ n. is_live at_links n && frozen (owner c p)) (old_port low)
          ∙ kept (owner c p) (frozen (owner c p)) refl
          ∙ ap (λ b. b && not (is_among plan.remove (place_at (map (place_in old) c.slots) (owner c p)))) (one_by_place c old is.paths_rise plan.freeze (owner c p) h.freeze)
          ∙ ap (λ (o : Option ℕ). is_among plan.freeze o && not (is_among plan.remove o)) (sym (owner_there c old is.paths_rise p low))
          ∙ sym (ap (λ b. not b || (is_among plan.freeze (owner_place (map (place_in old) c.slots) (map port_of c.gates) p) && not (is_among plan.remove (owner_place (map (place_in old) c.slots) (map port_of c.gates) p))))
          (ap (nat_lt p) (length-map c.gates port_of) ∙ lt-ltb p (length c.gates) low))
      by (inr past) =
          ap (λ b. b && is_frozen_or_new old plan c p) (new_port past)
          ∙ ap (λ b. not b || frozen (owner c p)) (le-ltb p (length c.gates) past)
          ∙ sym (ap (λ b. not b || (is_among plan.freeze (owner_place (map (place_in old) c.slots) (map port_of c.gates) p) && not (is_among plan.remove (owner_place (map (place_in old) c.slots) (map port_of c.gates) p))))
          (ap (nat_lt p) (length-map c.gates port_of) ∙ le-ltb p (length c.gates) past))

  reopens_are : reopened_ports old new plan c ≡ reopens_by (map (place_in old) c.slots) (map port_of c.gates) plan (length (ports_after new plan (map (place_in old) c.slots) (map port_of c.gates)))
  reopens_are =
      same_below (λ p. is_live at_links (owner at_links p) && is_frozen_or_new old plan c p) (is_reopened_at (map (place_in old) c.slots) (map port_of c.gates) plan) (length at_links.gates) reopens_at
      ∙ ap (reopens_by (map (place_in old) c.slots) (map port_of c.gates) plan) (sym (length-map at_links.gates port_of) ∙ ap (λ (s : List Port). length s) steps_ports)

  pub commit_is : commit_events old new plan c ≡ commit_by old new plan (map (place_in old) c.slots) (map port_of c.gates)
  commit_is =
      ap (λ es. ((map Unlink es ++ (map Remove w.removes ++ map make_new w.makes)) ++ ls) ++ map Reopen ps) (unlinks_are c old is.paths_rise plan h.unlink)
      ∙ ap (λ es. ((map Unlink us ++ (map Remove es ++ map make_new w.makes)) ++ ls) ++ map Reopen ps) (removes_are c old is.paths_rise plan h.remove)
      ∙ ap (λ es. ((map Unlink us ++ (map Remove rs ++ es)) ++ ls) ++ map Reopen ps)
      (makes_are c old is.paths_rise new plan h.moves (length c.slots) plan.create ∙ ap (λ k. makes_by (map (place_in old) c.slots) plan.moves new k plan.create) (sym (length-map c.slots (place_in old))))
      ∙ ap (λ es. ((map Unlink us ++ (map Remove rs ++ makes_by (map (place_in old) c.slots) plan.moves new (length (map (place_in old) c.slots)) plan.create)) ++ es) ++ map Reopen ps) commit_links_are
      ∙ ap (λ es. ((map Unlink us ++ (map Remove rs ++ makes_by (map (place_in old) c.slots) plan.moves new (length (map (place_in old) c.slots)) plan.create))
      ++ links_by (places_after old new plan (map (place_in old) c.slots)) (ports_after new plan (map (place_in old) c.slots) (map port_of c.gates)) plan.link) ++ map Reopen es) reopens_are
    where
      w : Work
      w = work old new plan c

      ls : List Event
      ls = map link_new (new_links new plan (change_all c (work_of (work old new plan c))))

      ps : List ℕ
      ps = reopened_ports old new plan c

      us : List ℕ
      us = unlinks_by (map (place_in old) c.slots) (map port_of c.gates) plan.unlink

      rs : List ℕ
      rs = removes_by (map (place_in old) c.slots) plan.remove

  pub next_is : (l : Layout) → l.places.items ≡ places_after old new plan (map (place_in old) c.slots) → l.ports.items ≡ ports_after new plan (map (place_in old) c.slots) (map port_of c.gates)
      → IsLayoutOf l (change_all c (commit_events old new plan c)) new
  next_is l places_ ports' = record {
    places_are = places_ ∙ sym (ap (λ (s : List Slot). map (place_in new) s)
        (ap (λ (d : Configuration). d.slots) (fold-append change_next c (commit_steps old new plan c) (map Reopen (reopened_ports old new plan c))) ∙ opens_slots (reopened_ports old new plan c) at_links ∙ steps_slots) ∙ next_places);
    ports_are = ports' ∙ sym (ap (λ (d : Configuration). map port_of d.gates) (fold-append change_next c (commit_steps old new plan c) (map Reopen (reopened_ports old new plan c)))
        ∙ opens_ports (reopened_ports old new plan c) at_links ∙ steps_ports);
  }
