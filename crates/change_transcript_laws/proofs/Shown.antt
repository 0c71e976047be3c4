-- What the sights and looks of a stretch of a run show: each a place of it.
use Rattle.std.proofs.Common.{◌≡◌, ◌∙◌, ℕ, true, false, cond, Bool, List, [], ◌∷◌, ◌++◌, map, Some, None, refl, ap, subst}
use Rattle.std.specs.Prelude.{◌==◌, find, option_map}
use Rattle.std.specs.List.{cons_option}
use Rattle.std.proofs.lemmas.Bool.{eqb-true}
use Rattle.std.proofs.lemmas.List.Elements.{filter_map-append}
use Rattle.base.specs.Each.{EachAfter}
use Rattle.base.proofs.EachLaws.{each_parts}
use Rattle.base.proofs.PlaceLaws.{heads_are, tails_are}
use Rattle.change_board.specs.Sights.{Sight, seen_in, sight_entry}
use Rattle.txn_records.specs.Entries.{event_in}
use Rattle.txn_records.specs.Records.{IsSo, Moment, by_node, entries, entry, event_at, events}
use Rattle.txn_records.specs.declared.entry.Entry.{Entry}
use Rattle.txn_records.specs.declared.entry.Entry.TheVariants.{Sighted}
use Rattle.quiesce_core.specs.Runs.{done_by}
use Rattle.quiesce_core.specs.declared.event.Event.{Event}

-- the place of an entry
pub record PlaceOf (m : List Moment) (pre : List Entry) (x : Entry) (post : List Entry) : Type 0 where
  pub a : List Moment
  pub b : List Moment
  pub parts : m ≡ a ++ entry x ∷ b
  pub a_are : entries a ≡ pre
  pub b_are : entries b ≡ post

pub place_of : (m : List Moment) (pre : List Entry) (x : Entry) (post : List Entry) → entries m ≡ pre ++ x ∷ post → PlaceOf m pre x post
place_of [] [] x post h = absurd (cc h)
place_of [] (z ∷ pre) x post h = absurd (cc h)
place_of (by_node e ∷ m) pre x post h =
    let w = place_of m pre x post h in record { a = by_node e ∷ w.a; b = w.b; parts = ap (λ k. by_node e ∷ k) w.parts; a_are = w.a_are; b_are = w.b_are }
place_of (entry y ∷ m) [] x post h = record {
  a = [];
  b = m;
  parts = ap (λ z. entry z ∷ m) (heads_are y x (entries m) post h);
  a_are = refl;
  b_are = tails_are y x (entries m) post h;
}
place_of (entry y ∷ m) (z ∷ pre) x post h =
    let w = place_of m pre x post (tails_are y z (entries m) (pre ++ x ∷ post) h) in
    record {
      a = entry y ∷ w.a;
      b = w.b;
      parts = ap (λ k. entry y ∷ k) w.parts;
      a_are = ap (λ q. y ∷ q) w.a_are ∙ ap (λ q. q ∷ pre) (heads_are y z (entries m) (pre ++ x ∷ post) h);
      b_are = w.b_are;
    }

pub so_at : (front back a b : List Moment) (x : Entry) → EachAfter IsSo front back → back ≡ a ++ entry x ∷ b → IsSo (front ++ a) (entry x)
so_at front back a b x so parts = (each_parts IsSo front a (entry x ∷ b) (subst (EachAfter IsSo front) parts so)).1.0

pub events_both : (a b : List Moment) → events (a ++ b) ≡ events a ++ events b
events_both a b = filter_map-append event_at a b

-- a stretch is cut at an entry that is no event
pub events_at : (back a b : List Moment) (x : Entry) → event_in x ≡ None → back ≡ a ++ entry x ∷ b → events back ≡ events a ++ events b
events_at back a b x quiet parts = ap events parts ∙ events_both a (entry x ∷ b) ∙ ap (λ o. events a ++ cons_option o (events b)) quiet

-- the sight of a node that is seen first
pub record SightIn (sights : List Sight) (n : ℕ) (own : List Event) : Type 0 where
  pub before : List Sight
  pub after : List Sight
  pub parts : map sight_entry sights ≡ map sight_entry before ++ Sighted n own ∷ map sight_entry after

pub sight_in : (sights : List Sight) (n : ℕ) (own : List Event) → seen_in sights n ≡ Some own → SightIn sights n own
sight_in [] n own h = absurd (cc h)
sight_in (s ∷ sights) n own h = by (λ k. sight_in sights n own k) (s.slot == n) refl h
  where
    by : (seen_in sights n ≡ Some own → SightIn sights n own) → (b : Bool) → (s.slot == n) ≡ b → option_map (λ (t : Sight). t.events) (cond b (Some s) (find (λ (t : Sight). t.slot == n) sights)) ≡ Some own → SightIn (s ∷ sights) n own
    by rec true e h = record { before = []; after = sights; parts = (λ i. Sighted (eqb-true s.slot n e i) (inside h i) ∷ map sight_entry sights) }
      where
        inside : Some s.events ≡ Some own → s.events ≡ own
        inside k = cc
    by rec false e h = let w = rec h in record { before = s ∷ w.before; after = w.after; parts = ap (λ k. sight_entry s ∷ k) w.parts }

-- a place of a stretch at which a node's log is this
pub record LogShown (front : List Event) (back : List Event) (n : ℕ) (own : List Event) : Type 0 where
  pub earlier : List Event
  pub later : List Event
  pub parts : back ≡ earlier ++ later
  pub log : own ≡ done_by n (front ++ earlier)

pub log_shown : (front back : List Moment) (pre : List Entry) (sights : List Sight) (post : List Entry) (n : ℕ) (own : List Event) → EachAfter IsSo front back
    → entries back ≡ pre ++ (map sight_entry sights ++ post) → seen_in sights n ≡ Some own → LogShown (events front) (events back) n own
log_shown front back pre sights post n own so are h =
    let s = sight_in sights n own h in
    let where_ : entries back ≡ (pre ++ map sight_entry s.before) ++ Sighted n own ∷ (map sight_entry s.after ++ post) =
    are ∙ ap (λ k. pre ++ (k ++ post)) s.parts ∙ shift pre (map sight_entry s.before) (Sighted n own) (map sight_entry s.after) post in
    let w = place_of back (pre ++ map sight_entry s.before) (Sighted n own) (map sight_entry s.after ++ post) where_ in
    record {
      earlier = events w.a;
      later = events w.b;
      parts = events_at back w.a w.b (Sighted n own) refl w.parts;
      log = so_at front back w.a w.b (Sighted n own) so w.parts ∙ ap (done_by n) (events_both front w.a);
    }
  where
    shift : (p b : List Entry) (x : Entry) (c d : List Entry) → p ++ ((b ++ x ∷ c) ++ d) ≡ (p ++ b) ++ x ∷ (c ++ d)
    shift [] [] x c d = refl
    shift [] (y ∷ b) x c d = ap (λ k. y ∷ k) (shift [] b x c d)
    shift (y ∷ p) b x c d = ap (λ k. y ∷ k) (shift p b x c d)
