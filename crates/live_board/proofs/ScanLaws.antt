-- What a scan of nodes and ports shows, with the one before it.
use Rattle.std.proofs.Common.{◌≡◌, ◌∙◌, ℕ, zero, suc, ◌+◌, ◌<◌, ◌≤◌, Bool, true, false, cond, ◌&&◌, List, [], ◌∷◌, ◌++◌, append_assoc, length, map, Option, Some, None, refl, sym, ap, subst, arith}
use Rattle.std.specs.Prelude.{filter, is_some, option_map}
use Rattle.std.specs.List.{list_all, range_with_len}
use Rattle.std.proofs.Common.{⊎_elim}
use Rattle.std.proofs.lemmas.Bool.{and_from, and_parts, both_ways, cases_Bool, cases_eq, eq-eqb, eqb-true, false≢true}
use Rattle.atomic_table.specs.Seated.{TableId}
use Rattle.change_board.specs.Scans.{IsSeenTwice, all_ports, is_as_long, is_idle_if_live, is_seen_as_before, live_nodes, look_entry, ports_of, scan_entries}
use Rattle.change_board.specs.Sights.{Sight, is_seen_done, seen_in, sight_entry}
use Rattle.change_board.specs.declared.board.Scan.{Scan}
use Rattle.component_trait.specs.States.{NodeState}
use Rattle.config_graph.specs.declared.TheConstants.{MAX_NODES}
use Rattle.quiesce_core.proofs.RunLaws.{runs_are_well_formed}
use Rattle.quiesce_core.specs.State.{Configuration, is_live}
use Rattle.quiesce_core.specs.declared.event.Event.{Event}
use Rattle.txn_records.proofs.RecordLaws.{config_is}
use Rattle.txn_records.specs.Entries.{config_of}
use Rattle.txn_records.specs.Records.{IsRecord, events}
use Rattle.txn_records.specs.declared.entry.Entry.{Entry}
use Rattle.txn_records.specs.declared.entry.Entry.TheVariants.{Scanned}
use Rattle.live_board.specs.Lengths.{AreLengths, IsLast, is_alike, is_as_last, length_at, length_in}
use Rattle.live_board.specs.Looking.{SawPorts}
use Rattle.live_board.specs.Scanning.{IsScan}
use Rattle.live_board.specs.Seeing.{SawNodes}
use Rattle.live_board.specs.Turning.{GaveTurns, SawEach, Ways}
use Rattle.state_handover.specs.declared.any_node.AnyNode.{AnyNode}
use Rattle.live_board.proofs.QuietLaws.{config_looked, config_then, quiet}
use Rattle.live_board.proofs.SeenLaws.{unsighted}

pub few_now : (r : List Entry) → IsRecord r → length (config_of r).slots ≤ MAX_NODES
few_now r h = subst (λ (c : Configuration). length c.slots ≤ MAX_NODES) (sym (config_is r h.moments h.is_of)) (runs_are_well_formed (events h.moments) h.is_of.runs).sound.few_nodes

-- a test of the live ones of a range
module _ (live : ℕ → Bool) where
  live_all : (p : ℕ → Bool) (a n : ℕ) → ((i : ℕ) → i < a + n → live i ≡ true → p i ≡ true) → list_all p (filter live (range_with_len a n)) ≡ true
  live_all p a zero h = refl
  live_all p a (suc n) h = by (live_all p (a + 1) n (λ i few. h i (omega (arith, few)))) (live a) refl
    where
      by : list_all p (filter live (range_with_len (a + 1) n)) ≡ true → (t : Bool) → live a ≡ t → list_all p (cond t (a ∷ filter live (range_with_len (a + 1) n)) (filter live (range_with_len (a + 1) n))) ≡ true
      by rest true is = and_from (p a) (list_all p (filter live (range_with_len (a + 1) n))) (h a (omega arith) is) rest
      by rest false is = rest

  all_live : (p : ℕ → Bool) (a n : ℕ) → list_all p (filter live (range_with_len a n)) ≡ true → (i : ℕ) → a ≤ i → i < a + n → live i ≡ true → p i ≡ true
  all_live p a zero h i low few on = absurd (omega (arith, low, few))
  all_live p a (suc n) h i low few on =
      by (live a) refl h (λ all other. all_live p (a + 1) n all i (omega (arith, low, other)) (omega (arith, few)) on)
    where
      rest : List ℕ
      rest = filter live (range_with_len (a + 1) n)

      by : (t : Bool) → live a ≡ t → list_all p (cond t (a ∷ rest) rest) ≡ true → (list_all p rest ≡ true → (a ≡ i → ⊥) → p i ≡ true) → p i ≡ true
      by true is all later = let both = and_parts (p a) (list_all p rest) all in ⊎_elim (λ (same : a ≡ i). ap p (sym same) ∙ both.0) (λ (other : a ≡ i → ⊥). later both.1 other) (cases_eq a i)
      by false is all later = ⊎_elim (λ (same : a ≡ i). absurd (both_ways (live a) is (ap live same ∙ on))) (λ (other : a ≡ i → ⊥). later all other) (cases_eq a i)

  all_alike : (p q : ℕ → Bool) (a n : ℕ) → ((i : ℕ) → i < a + n → p i ≡ q i) → list_all p (filter live (range_with_len a n)) ≡ list_all q (filter live (range_with_len a n))
  all_alike p q a zero h = refl
  all_alike p q a (suc n) h = by (all_alike p q (a + 1) n (λ i few. h i (omega (arith, few)))) (live a)
    where
      by : list_all p (filter live (range_with_len (a + 1) n)) ≡ list_all q (filter live (range_with_len (a + 1) n)) → (t : Bool)
          → list_all p (cond t (a ∷ filter live (range_with_len (a + 1) n)) (filter live (range_with_len (a + 1) n))) ≡ list_all q (cond t (a ∷ filter live (range_with_len (a + 1) n)) (filter live (range_with_len (a + 1) n)))
      by rest true = (λ i. h a (omega arith) i && rest i)
      by rest false = rest

pub each_live_one : (c : Configuration) (p : ℕ → Bool) → ((n : ℕ) → n < length c.slots → is_live c n ≡ true → p n ≡ true) → list_all p (live_nodes c) ≡ true
each_live_one c p h = live_all (is_live c) p 0 (length c.slots) (λ i few. h i (omega (arith, few)))

this_live_one : (c : Configuration) (p : ℕ → Bool) → list_all p (live_nodes c) ≡ true → (n : ℕ) → n < length c.slots → is_live c n ≡ true → p n ≡ true
this_live_one c p h n few live = all_live (is_live c) p 0 (length c.slots) h n (omega arith) (omega (arith, few)) live

same_of_each : (c : Configuration) (p q : ℕ → Bool) → ((n : ℕ) → n < length c.slots → p n ≡ q n) → list_all p (live_nodes c) ≡ list_all q (live_nodes c)
same_of_each c p q h = all_alike (is_live c) p q 0 (length c.slots) (λ i few. h i (omega (arith, few)))

-- one that fails is enough
pub one_fails : (c : Configuration) (p : ℕ → Bool) (n : ℕ) → n < length c.slots → is_live c n ≡ true → p n ≡ false → list_all p (live_nodes c) ≡ false
one_fails c p n few live off = ⊎_elim
    (λ (all : list_all p (live_nodes c) ≡ true). absurd (both_ways (p n) off (this_live_one c p all n few live)))
    (λ (fails : list_all p (live_nodes c) ≡ false). fails)
    (cases_Bool (list_all p (live_nodes c)))

within : (lengths : List (Option ℕ)) (n k : ℕ) → length_at lengths n ≡ Some k → n < length lengths
within [] n k at = absurd (cc)
within (x ∷ xs) zero k at = omega arith
within (x ∷ xs) (suc n) k at = let rest = within xs n k at in omega (arith, rest)

as_long : (a b : Option (List Event)) (k : ℕ) → option_map length a ≡ Some k → option_map length b ≡ Some k → is_as_long a b ≡ true
as_long None b k x y = absurd (cc)
as_long (Some a) None k x y = absurd (cc)
as_long (Some a) (Some b) k x y = eq-eqb (length a) (length b) (inside (length a) k x ∙ sym (inside (length b) k y))
  where
    inside : (i j : ℕ) → Some i ≡ Some j → i ≡ j
    inside i j e = cc

alike_is : (a b : Option ℕ) → is_alike a b ≡ true → (k : ℕ) × (a ≡ Some k) × (b ≡ Some k)
alike_is None b h = absurd (false≢true h)
alike_is (Some a) None h = absurd (false≢true h)
alike_is (Some a) (Some b) h = (a, refl, ap Some (sym (eqb-true a b h)))

alike : (first now : List Sight) (a : List (Option ℕ)) (n : ℕ) → AreLengths first a → is_alike (length_at a n) (length_in now n) ≡ true → is_seen_as_before first now n ≡ true
alike first now a n one h =
    let k = alike_is (length_at a n) (length_in now n) h in
    as_long (seen_in first n) (seen_in now n) k.0 (sym (one n (within a n k.0 k.1)) ∙ k.1) k.2

module _ (S : AnyNode → NodeState) (gates : TableId) (r r1 r2 r3 : List Entry) (old between new : Ways) (begins : Bool) (s : Scan) (marked : r1 ≡ r ++ Scanned begins s.moved ∷ []) (lengths : List (Option ℕ)) (nodes : ℕ) (seen : Bool)
    (turns : GaveTurns gates (config_of r) begins old nodes between s.moved) (saw : SawNodes S gates (config_of r1) r1 r2 lengths between.missed new.missed nodes seen) (hand : new.hand ≡ between.hand) (count : length lengths ≡ nodes)
    (ports : ℕ) (idle : Bool) (ended : ℕ) (looked : SawPorts (config_of r2) r2 r3 ports idle ended) (nodes_are : nodes ≡ length (config_of r).slots) (ports_are : ports ≡ length (config_of r).gates) where
  config1 : config_of r1 ≡ config_of r
  config1 = ap config_of marked ∙ quiet r (Scanned begins s.moved ∷ []) refl

  config2 : config_of r2 ≡ config_of r
  config2 = config_then r1 r2 saw.sights saw.adds ∙ config1

  config3 : config_of r3 ≡ config_of r
  config3 = config_looked r2 r3 looked.found looked.adds ∙ config2

  adds : r3 ≡ r ++ scan_entries begins s.moved saw.sights looked.found
  adds =
      let ss = map sight_entry saw.sights in
      let fs = map look_entry looked.found in
      looked.adds ∙ ap (λ (q : List Entry). q ++ fs) (saw.adds ∙ ap (λ (q : List Entry). q ++ ss) marked)
      ∙ append_assoc (r ++ Scanned begins s.moved ∷ []) ss fs ∙ append_assoc r (Scanned begins s.moved ∷ []) (ss ++ fs)

  at_ports : ports_of looked.found ≡ all_ports (config_of r)
  at_ports = looked.at_ports ∙ ap (range_with_len 0) ports_are

  idle_is : idle ≡ list_all (is_idle_if_live (config_of r)) looked.found
  idle_is = looked.idle_is ∙ ap (λ (c : Configuration). list_all (is_idle_if_live c) looked.found) config2

  done_all : seen ≡ true → list_all (is_seen_done (config_of r) (seen_in saw.sights)) (live_nodes (config_of r)) ≡ true
  done_all on = each_live_one (config_of r) (is_seen_done (config_of r) (seen_in saw.sights)) (λ n few live.
      subst (λ c. is_seen_done c (seen_in saw.sights) n ≡ true) config1
      (saw.seen on n (omega (arith, few, nodes_are)) (ap (λ c. is_live c n) config1 ∙ live)))

  -- and so exactly where each was
  not_all : seen ≡ false → list_all (is_seen_done (config_of r) (seen_in saw.sights)) (live_nodes (config_of r)) ≡ false
  not_all off =
      let u = saw.unseen off in
      one_fails (config_of r) (is_seen_done (config_of r) (seen_in saw.sights)) u.0 (let few = u.1 in omega (arith, few, nodes_are)) (ap (λ c. is_live c u.0) (sym config1) ∙ u.2)
      (unsighted (config_of r) (seen_in saw.sights) u.0 u.3)

  seen_is : seen ≡ list_all (is_seen_done (config_of r) (seen_in saw.sights)) (live_nodes (config_of r))
  seen_is = ⊎_elim (λ (on : seen ≡ true). on ∙ sym (done_all on)) (λ (off : seen ≡ false). off ∙ sym (not_all off)) (cases_Bool seen)

  -- what is kept of the last scan, beside the lengths that were noted and beside what was seen
  as_last : (last : Option (List (Option ℕ))) → is_as_last (config_of r3) last (length_at lengths) ≡ is_as_last (config_of r) last (length_in saw.sights)
  as_last None = refl
  as_last (Some first) =
      ap (λ (c : Configuration). list_all (λ n. is_alike (length_at first n) (length_at lengths n)) (live_nodes c)) config3
      ∙ same_of_each (config_of r) (λ n. is_alike (length_at first n) (length_at lengths n)) (λ n. is_alike (length_at first n) (length_in saw.sights n))
      (λ n few. ap (is_alike (length_at first n)) (saw.lengths_are n (omega (arith, few, count, nodes_are))))

  twice : (last : Option (List (Option ℕ))) → seen ≡ true → is_as_last (config_of r) last (length_in saw.sights) ≡ true → IsLast r last → IsSeenTwice r saw.sights
  twice None on same h = absurd (false≢true same)
  twice (Some first) on same h = record {
    front = h.front;
    begins = h.begins;
    moved = h.moved;
    first = h.sights;
    found = h.found;
    ends = h.ends;
    at_ports = h.at_ports;
    idle = h.idle;
    as_long = each_live_one (config_of r) (is_seen_as_before h.sights saw.sights) (λ n few live.
        alike h.sights saw.sights first n h.lengths_are (this_live_one (config_of r) (λ i. is_alike (length_at first i) (length_in saw.sights i)) same n few live));
    done = done_all on;
  }

  -- a scan, where what is kept has the same lengths
  pub scanned : IsRecord r3 → (last last' : Option (List (Option ℕ))) (same : Bool) → s.done ≡ ((seen && idle) && same) → s.ended ≡ ended
      → same ≡ is_as_last (config_of r3) last (length_at lengths)
      → last' ≡ cond idle (Some lengths) None → IsScan S gates r r3 old new last last' begins s
  scanned known last last' same done_is ended_is same_is keeps = record {
    known = known;
    sights = saw.sights;
    found = looked.found;
    adds = adds;
    at_ports = at_ports;
    ended = ended_is ∙ looked.ended_is;
    done = done_is ∙ (λ i. (seen_is i && idle_is i) && same_now i);
    twice = λ is on.
        let all = and_parts (seen && idle) same (sym done_is ∙ on) in
        twice last (and_parts seen idle all.0).0 (sym same_now ∙ all.1) is;
    kept = ap is_some keeps ∙ some_where idle ∙ idle_is;
    last_is = by_idle idle refl;
    reached = record {
      between = between;
      turns = subst (λ n. GaveTurns gates (config_of r) begins old n between s.moved) nodes_are turns;
      seen = subst (λ c. SawEach S gates c saw.sights between.missed (length (config_of r).slots) new.missed) config1 (subst (λ n. SawEach S gates (config_of r1) saw.sights between.missed n new.missed) nodes_are saw.each);
      hand = hand;
    };
  }
    where
      same_now : same ≡ is_as_last (config_of r) last (length_in saw.sights)
      same_now = same_is ∙ as_last last

      some_where : (t : Bool) → is_some (cond t (Some lengths) None) ≡ t
      some_where true = refl
      some_where false = refl

      by_idle : (t : Bool) → idle ≡ t → IsLast r3 last'
      by_idle false off = subst (IsLast r3) (sym (keeps ∙ ap (λ b. cond b (Some lengths) None) off)) tt
      by_idle true on = subst (IsLast r3) (sym (keeps ∙ ap (λ b. cond b (Some lengths) None) on)) (record {
        front = r;
        begins = begins;
        moved = s.moved;
        sights = saw.sights;
        found = looked.found;
        ends = adds;
        at_ports = at_ports ∙ ap all_ports (sym config3);
        idle = ap (λ (c : Configuration). list_all (is_idle_if_live c) looked.found) config3 ∙ sym idle_is ∙ on;
        all = count ∙ nodes_are ∙ ap (λ (c : Configuration). length c.slots) (sym config3);
        lengths_are = saw.lengths_are;
      })

pub config_seen : (S : AnyNode → NodeState) (gates : TableId) (r r1 r2 : List Entry) (begins moved : Bool) (lengths : List (Option ℕ)) (missed missed' : List ℕ) (nodes : ℕ) (seen : Bool) → r1 ≡ r ++ Scanned begins moved ∷ []
    → SawNodes S gates (config_of r1) r1 r2 lengths missed missed' nodes seen → config_of r2 ≡ config_of r
config_seen S gates r r1 r2 begins moved lengths missed missed' nodes seen marked saw = config_then r1 r2 saw.sights saw.adds ∙ ap config_of marked ∙ quiet r (Scanned begins moved ∷ []) refl
