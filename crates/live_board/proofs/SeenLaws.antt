-- What was seen stays seen as more is seen.
use Rattle.std.proofs.Common.{◌≡◌, ◌∙◌, ℕ, zero, suc, ◌+◌, ◌<◌, ◌≤◌, Bool, true, false, ◌&&◌, List, [], ◌∷◌, ◌++◌, append_assoc, map, Option, Some, None, refl, sym, ap, subst, ⊎_elim, arith}
use Rattle.std.specs.Prelude.{option_and_then, option_map}
use Rattle.std.specs.Option.{option_map_or}
use Rattle.std.specs.List.{list_any}
use Rattle.std.proofs.Common.{true≢false}
use Rattle.std.proofs.lemmas.Bool.{and_parts, both_ways, cases_Bool, cases_lt}
use Rattle.std.proofs.lemmas.List.{append-nil, map-append}
use Rattle.atomic_table.specs.Seated.{TableId}
use Rattle.change_board.specs.Sights.{Sight, fold_seen, fold_seen_within, is_seen_done, seen_in, sight_entry}
use Rattle.change_spec.specs.Opening.{argument_of, fold_at}
use Rattle.component_trait.specs.Moves as moves
use Rattle.component_trait.specs.States.{Kept, NodeState}
use Rattle.component_trait.specs.Tables.{opening}
use Rattle.config_graph.specs.declared.kind.Kind.{Kind}
use Rattle.quiesce_core.specs.State.{Configuration, is_live, slot}
use Rattle.quiesce_core.specs.declared.event.Event.{Event}
use Rattle.quiesce_core.specs.declared.state.Slot.{Slot}
use Rattle.txn_records.specs.declared.entry.Entry.{Entry}
use Rattle.live_board.specs.Lines.{IsMadeLine, LineSight, is_in_slot}
use Rattle.live_board.specs.Lengths.{AreLengths}
use Rattle.live_board.specs.Seeing.{IsOfLine, SawNodes, SeesNode}
use Rattle.live_board.specs.Turning.{LookedAt, SawEach, absent, no_node, none_yet, sighted, undone, unmet, was_there}
use Rattle.state_handover.specs.declared.any_node.AnyNode.{AnyNode}
use Rattle.live_board.proofs.LengthLaws.{seen_first, seen_next}

none_is_some : {A B : Type 0} (x : A) → None ≡ Some x → B
none_is_some x h = absurd (cc)

-- what more sights show
abbrev pub ShowsMore : (ℕ → Option (List Event)) → (ℕ → Option (List Event)) → Type 0
ShowsMore f g = (n : ℕ) (es : List Event) → f n ≡ Some es → g n ≡ Some es

module _ (c : Configuration) (f g : ℕ → Option (List Event)) (more_ : ShowsMore f g) where
  abbrev opened : (ℕ → Option NodeState) → Slot → Option ℕ → Option Kept
  opened before m from = option_map_or (λ k. option_map (λ (s : NodeState). s.kept) (before k)) from (Some (opening m.node.kind (argument_of m)))

  abbrev own : (ℕ → Option NodeState) → Slot → List Event → Option NodeState
  own before m es = option_and_then (fold_at m es) (opened before m m.from)

  abbrev Grows : (ℕ → Option NodeState) → (ℕ → Option NodeState) → Type 0
  Grows a b = (n : ℕ) (s : NodeState) → a n ≡ Some s → b n ≡ Some s

  opened_grows : (a b : ℕ → Option NodeState) → Grows a b → (m : Slot) (from : Option ℕ) (k : Kept) → opened a m from ≡ Some k → opened b m from ≡ Some k
  opened_grows a b h m None k at = at
  opened_grows a b h m (Some j) k at = by (a j) refl at
    where
      by : (o : Option NodeState) → a j ≡ o → option_map (λ (s : NodeState). s.kept) o ≡ Some k → option_map (λ (s : NodeState). s.kept) (b j) ≡ Some k
      by None is none_ = none_is_some k none_
      by (Some s) is there = ap (option_map (λ (s : NodeState). s.kept)) (h j s is) ∙ there

  own_grows : (a b : ℕ → Option NodeState) → Grows a b → (m : Slot) (es : List Event) (s : NodeState) → own a m es ≡ Some s → own b m es ≡ Some s
  own_grows a b h m es s at = by (opened a m m.from) refl at
    where
      by : (o : Option Kept) → opened a m m.from ≡ o → option_and_then (fold_at m es) o ≡ Some s → option_and_then (fold_at m es) (opened b m m.from) ≡ Some s
      by None is none_ = none_is_some s none_
      by (Some k) is there = ap (option_and_then (fold_at m es)) (opened_grows a b h m m.from k is) ∙ there

  step : (a b : ℕ → Option NodeState) → Grows a b → (n : ℕ) (s : NodeState)
      → option_and_then (λ (m : Slot). option_and_then (own a m) (f n)) (slot c n) ≡ Some s → option_and_then (λ (m : Slot). option_and_then (own b m) (g n)) (slot c n) ≡ Some s
  step a b h n s at = by (slot c n) at
    where
      seen : (m : Slot) (o : Option (List Event)) → f n ≡ o → option_and_then (own a m) o ≡ Some s → option_and_then (own b m) (g n) ≡ Some s
      seen m None is none_ = none_is_some s none_
      seen m (Some es) is there = ap (option_and_then (own b m)) (more_ n es is) ∙ own_grows a b h m es s there

      by : (o : Option Slot) → option_and_then (λ (m : Slot). option_and_then (own a m) (f n)) o ≡ Some s → option_and_then (λ (m : Slot). option_and_then (own b m) (g n)) o ≡ Some s
      by None none_ = none_is_some s none_
      by (Some m) there = seen m (f n) refl there

  within : (fuel : ℕ) → Grows (fold_seen_within c f fuel) (fold_seen_within c g fuel)
  within zero n s at = none_is_some s at
  within (suc fuel) n s at = step (fold_seen_within c f fuel) (fold_seen_within c g fuel) (within fuel) n s at

  pub done_more : (n : ℕ) → is_seen_done c f n ≡ true → is_seen_done c g n ≡ true
  done_more n at = by (fold_seen c f n) refl at
    where
      by : (o : Option NodeState) → fold_seen c f n ≡ o → option_map_or moves.is_done o false ≡ true → option_map_or moves.is_done (fold_seen c g n) false ≡ true
      by None is none_ = absurd (both_ways false refl none_)
      by (Some s) is there = ap (λ o. option_map_or moves.is_done o false) (within (suc n) n s is) ∙ there

-- a node of which nothing was seen isn't seen as done
pub unsighted : (c : Configuration) (f : ℕ → Option (List Event)) (n : ℕ) → f n ≡ None → is_seen_done c f n ≡ false
unsighted c f n none_ = by (slot c n) (f n) none_
  where
    by : (o : Option Slot) (p : Option (List Event)) → p ≡ None
        → option_map_or moves.is_done (option_and_then (λ (m : Slot). option_and_then (own c f f (λ i es at. at) (fold_seen_within c f n) m) p) o) false ≡ false
    by None p is = refl
    by (Some m) None is = refl
    by (Some m) (Some es) is = absurd (cc)

-- ---- one node more

abbrev pub LinesAreApart : Configuration → Type 0
LinesAreApart c = (k j : Kind) (past other : List LineSight) (last final : LineSight) (n : ℕ) → IsMadeLine c k None (past ++ last ∷ []) → IsMadeLine c j None (other ++ final ∷ [])
    → is_live c last.slot ≡ true → is_live c final.slot ≡ true → list_any (is_in_slot n) (past ++ last ∷ []) ≡ true → list_any (is_in_slot n) (other ++ final ∷ []) ≡ true → last.slot ≡ final.slot

-- none took over from a live node
abbrev pub LiveNodesAreLast : Configuration → Type 0
LiveNodesAreLast c = (k : Kind) (past : List LineSight) (last : LineSight) (n : ℕ) → IsMadeLine c k None (past ++ last ∷ []) → list_any (is_in_slot n) (past ++ last ∷ []) ≡ true → is_live c n ≡ true → last.slot ≡ n

module _ (S : AnyNode → NodeState) (gates : TableId) where
  -- more sights show no less
  saw_more : (c : Configuration) (a b : List Sight) (old : List ℕ) → ((n : ℕ) → is_seen_done c (seen_in a) n ≡ true → is_seen_done c (seen_in b) n ≡ true) → (n : ℕ) (now : List ℕ) → SawEach S gates c a old n now → SawEach S gates c b old n now
  saw_more c a b old more_ _ _ none_yet = none_yet
  saw_more c a b old more_ _ _ (no_node n now gone h) = no_node n now gone (saw_more c a b old more_ n now h)
  saw_more c a b old more_ _ _ (sighted n now live h is) = sighted n now live (saw_more c a b old more_ n now h) (more_ n is)
  saw_more c a b old more_ _ _ (undone n now x live h fits off) = undone n now x live (saw_more c a b old more_ n now h) fits off
  saw_more c a b old more_ _ _ (unmet n now next live h miss) = unmet n now next live (saw_more c a b old more_ n now h) miss

  -- one node more
  saw_next : (c : Configuration) (sights : List Sight) (old now next : List ℕ) (n : ℕ) (done : Bool) → is_live c n ≡ true → SawEach S gates c sights old n now → (done ≡ true → is_seen_done c (seen_in sights) n ≡ true)
      → LookedAt S gates n now next done → SawEach S gates c sights old (n + 1) next
  saw_next c sights old now next n done live h is (was_there x fits told same) = subst (λ d. SawEach S gates c sights old (n + 1) d) (sym same) (⊎_elim
      (λ (on : done ≡ true). sighted n now live h (is on))
      (λ (off : done ≡ false). undone n now x live h fits (sym told ∙ off))
      (cases_Bool done))
  saw_next c sights old now next n done live h is (absent miss off) = unmet n now next live h miss

module _ (S : AnyNode → NodeState) (gates : TableId) (c : Configuration) (r r1 r2 : List Entry) (lengths lengths' : List (Option ℕ)) (missed now next : List ℕ) (n : ℕ) (so_far : Bool) (h : SawNodes S gates c r r1 lengths missed now n so_far) where
  -- a slot without a live node
  pub saw_none : is_live c n ≡ false → SawNodes S gates c r r1 lengths missed now (n + 1) so_far
  saw_none gone = record {
    sights = h.sights;
    adds = h.adds;
    lengths_are = h.lengths_are;
    of_lines = λ i es at. let x = h.of_lines i es at in (x.0, (let below = x.1 in omega (arith, below)), x.2, x.3);
    seen = λ is i few live. ⊎_elim
        (λ (below : i < n). h.seen is i below live)
        (λ (past : n ≤ i). let same : i ≡ n = omega (arith, few, past) in absurd (both_ways (is_live c i) (ap (is_live c) same ∙ gone) live))
        (cases_lt i n);
    unseen = λ off. let u = h.unseen off in (u.0, (let below = u.1 in omega (arith, below)), u.2, u.3);
    each = no_node n now gone h.each;
  }

  module _ (apart : LinesAreApart c) (ends : LiveNodesAreLast c) (live : is_live c n ≡ true) (done : Bool) (x : SeesNode c r1 r2 lengths lengths' n done) (looked : LookedAt S gates n now next done) where
    fresh : (i : ℕ) (es : List Event) → seen_in x.sights i ≡ Some es → seen_in h.sights i ≡ None
    fresh i es at = by (seen_in h.sights i) refl
      where
        by : (o : Option (List Event)) → seen_in h.sights i ≡ o → seen_in h.sights i ≡ None
        by None is = is
        by (Some fs) is =
            let a = h.of_lines i fs is in
            let b = x.of_line i es at in
            let same : a.3.last.slot ≡ b.last.slot =
            apart a.3.kind b.kind a.3.past b.past a.3.last b.last i a.3.made b.made (ap (is_live c) a.3.is_last ∙ a.2) (ap (is_live c) b.is_last ∙ live) a.3.among b.among in
            let one : a.0 ≡ n = sym a.3.is_last ∙ same ∙ b.is_last in
            let below = a.1 in
            absurd (omega (arith, one, below))

    shows : ShowsMore (seen_in x.sights) (seen_in (h.sights ++ x.sights))
    shows i es at = seen_next h.sights x.sights i (fresh i es at) ∙ at

    -- a node below, or this one, that wasn't sighted
    still_unseen : (i : ℕ) → i < n → is_live c i ≡ true → seen_in h.sights i ≡ None → seen_in (h.sights ++ x.sights) i ≡ None
    still_unseen i few alive none_ = seen_next h.sights x.sights i none_ ∙ by (seen_in x.sights i) refl
      where
        by : (o : Option (List Event)) → seen_in x.sights i ≡ o → seen_in x.sights i ≡ None
        by None is = is
        by (Some es) is =
            let b = x.of_line i es is in
            let here : i ≡ n = sym (ends b.kind b.past b.last i b.made b.among alive) ∙ b.is_last in
            absurd (omega (arith, few, here))

    own_unseen : done ≡ false → seen_in (h.sights ++ x.sights) n ≡ None
    own_unseen off = by (seen_in h.sights n) refl
      where
        by : (o : Option (List Event)) → seen_in h.sights n ≡ o → seen_in (h.sights ++ x.sights) n ≡ None
        by None is = seen_next h.sights x.sights n is ∙ ap (λ ss. seen_in ss n) (x.unseen off)
        by (Some es) is =
            let a = h.of_lines n es is in
            let below = a.1 in
            let same : a.0 ≡ n = sym a.3.is_last ∙ ends a.3.kind a.3.past a.3.last n a.3.made a.3.among live in
            absurd (omega (arith, below, same))

    one_unseen : (so_far && done) ≡ false → (i : ℕ) × (i < n + 1) × (is_live c i ≡ true) × (seen_in (h.sights ++ x.sights) i ≡ None)
    one_unseen off = ⊎_elim
        (λ (on : so_far ≡ true). (n, omega arith, live, own_unseen (ap (λ b. b && done) (sym on) ∙ off)))
        (λ (not_all : so_far ≡ false). let u = h.unseen not_all in (u.0, (let below = u.1 in omega (arith, below)), u.2, still_unseen u.0 u.1 u.2 u.3))
        (cases_Bool so_far)

    pub saw_one : SawNodes S gates c r r2 lengths' missed next (n + 1) (so_far && done)
    saw_one = record {
      sights = h.sights ++ x.sights;
      adds = x.adds ∙ ap (λ (q : List Entry). q ++ map sight_entry x.sights) h.adds ∙ append_assoc r (map sight_entry h.sights) (map sight_entry x.sights)
          ∙ ap (λ (q : List Entry). r ++ q) (sym (map-append sight_entry h.sights x.sights));
      lengths_are = x.lengths_are h.sights h.lengths_are;
      of_lines = λ i es at. by_seen i es at (seen_in h.sights i) refl;
      seen = λ is i few alive. ⊎_elim
          (λ (below : i < n). done_more c (seen_in h.sights) (seen_in (h.sights ++ x.sights)) (λ j es at. seen_first h.sights x.sights j es at) i (h.seen (and_parts so_far done is).0 i below alive))
          (λ (past : n ≤ i).
          let same : n ≡ i = omega (arith, few, past) in
          subst (λ j. is_seen_done c (seen_in (h.sights ++ x.sights)) j ≡ true) same
          (done_more c (seen_in x.sights) (seen_in (h.sights ++ x.sights)) shows n (x.seen (and_parts so_far done is).1)))
          (cases_lt i n);
      unseen = one_unseen;
      each = saw_next S gates c (h.sights ++ x.sights) missed now next n done live
          (saw_more S gates c h.sights (h.sights ++ x.sights) missed (λ i. done_more c (seen_in h.sights) (seen_in (h.sights ++ x.sights)) (λ j es at. seen_first h.sights x.sights j es at) i) n now h.each)
          (λ on. done_more c (seen_in x.sights) (seen_in (h.sights ++ x.sights)) shows n (x.seen on)) looked;
    }
      where
        by_seen : (i : ℕ) (es : List Event) → seen_in (h.sights ++ x.sights) i ≡ Some es → (o : Option (List Event)) → seen_in h.sights i ≡ o
            → (s : ℕ) × (s < n + 1) × (is_live c s ≡ true) × IsOfLine c s i
        by_seen i es at (Some fs) is = let a = h.of_lines i fs is in (a.0, (let below = a.1 in omega (arith, below)), a.2, a.3)
        by_seen i es at None is = (n, omega arith, live, x.of_line i es (sym (seen_next h.sights x.sights i is) ∙ at))

pub saw_nothing : (S : AnyNode → NodeState) (gates : TableId) (c : Configuration) (r : List Entry) (lengths : List (Option ℕ)) (missed : List ℕ) → AreLengths [] lengths → SawNodes S gates c r r lengths missed missed 0 true
saw_nothing S gates c r lengths missed h = record {
  sights = [];
  adds = sym (append-nil r);
  lengths_are = h;
  of_lines = λ i es at. none_is_some es at;
  seen = λ on i few live. absurd (omega arith);
  unseen = λ off. absurd (true≢false off);
  each = none_yet;
}

pub saw_as : (S : AnyNode → NodeState) (gates : TableId) (c : Configuration) (r r1 r2 : List Entry) (lengths lengths' : List (Option ℕ)) (missed now now' : List ℕ) (n : ℕ) (done done' : Bool) → r2 ≡ r1 → lengths' ≡ lengths → now' ≡ now → done' ≡ done
    → SawNodes S gates c r r1 lengths missed now n done → SawNodes S gates c r r2 lengths' missed now' n done'
saw_as S gates c r r1 r2 lengths lengths' missed now now' n done done' entries long here same h =
    subst (λ q. SawNodes S gates c r q lengths' missed now' n done') (sym entries)
    (subst (λ ls. SawNodes S gates c r r1 ls missed now' n done') (sym long) (subst (λ d. SawNodes S gates c r r1 lengths missed d n done') (sym here) (subst (SawNodes S gates c r r1 lengths missed now n) (sym same) h)))
