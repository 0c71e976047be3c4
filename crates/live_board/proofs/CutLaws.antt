-- The run of a record without its last look.
use Rattle.std.proofs.Common.{◌≡◌, ◌∙◌, List, [], ◌∷◌, ◌++◌, None, refl, sym, ap, subst}
use Rattle.std.specs.List.{cons_option}
use Rattle.std.proofs.lemmas.List.{append-nil}
use Rattle.std.proofs.lemmas.List.Elements.{filter_map-append}
use Rattle.base.specs.Each.{EachAfter}
use Rattle.base.proofs.EachLaws.{each_joined, each_parts}
use Rattle.base.proofs.PlaceLaws.{heads_are, tails_are}
use Rattle.txn_records.specs.Entries.{event_in}
use Rattle.txn_records.specs.Records.{IsRecordOf, IsSo, Moment, by_node, entries, entry, entry_at, event_at, events}
use Rattle.txn_records.specs.declared.entry.Entry.{Entry}
use Rattle.quiesce_core.specs.Runs.{IsRun}

-- the place of the last entry
record LastAt (m : List Moment) (r : List Entry) (x : Entry) : Type 0 where
  front : List Moment
  back : List Moment
  parts : m ≡ front ++ entry x ∷ back
  front_is : entries front ≡ r
  back_is : entries back ≡ []

last_at : (m : List Moment) (r : List Entry) (x : Entry) → entries m ≡ r ++ x ∷ [] → LastAt m r x
last_at [] [] x h = absurd (cc h)
last_at [] (z ∷ r) x h = absurd (cc h)
last_at (by_node e ∷ m) r x h =
    let w = last_at m r x h in record { front = by_node e ∷ w.front; back = w.back; parts = ap (λ k. by_node e ∷ k) w.parts; front_is = w.front_is; back_is = w.back_is }
last_at (entry y ∷ m) [] x h = record {
  front = [];
  back = m;
  parts = ap (λ z. entry z ∷ m) (heads_are y x (entries m) [] h);
  front_is = refl;
  back_is = tails_are y x (entries m) [] h;
}
last_at (entry y ∷ m) (z ∷ r) x h =
    let w = last_at m r x (tails_are y z (entries m) (r ++ x ∷ []) h) in record {
      front = entry y ∷ w.front;
      back = w.back;
      parts = ap (λ k. entry y ∷ k) w.parts;
      front_is = ap (λ q. y ∷ q) w.front_is ∙ ap (λ q. q ∷ r) (heads_are y z (entries m) (r ++ x ∷ []) h);
      back_is = w.back_is;
    }

-- nodes' events are so wherever they stand
nodes_so : (before before' m : List Moment) → entries m ≡ [] → EachAfter IsSo before m → EachAfter IsSo before' m
nodes_so before before' [] none_ so = tt
nodes_so before before' (by_node e ∷ m) none_ so = (so.0, nodes_so (before ++ by_node e ∷ []) (before' ++ by_node e ∷ []) m none_ so.1)
nodes_so before before' (entry y ∷ m) none_ so = absurd (cc none_)

pub without_last : (r : List Entry) (x : Entry) (m : List Moment) → event_in x ≡ None → IsRecordOf (r ++ x ∷ []) m → (m' : List Moment) × IsRecordOf r m' × (events m' ≡ events m)
without_last r x m quiet h =
    let w = last_at m r x h.record_is in
    let m' = w.front ++ w.back in
    let same : events m' ≡ events m = filter_map-append event_at w.front w.back ∙ ap (λ o. events w.front ++ cons_option o (events w.back)) (sym quiet) ∙ sym (filter_map-append event_at w.front (entry x ∷ w.back)) ∙ ap events (sym w.parts) in
    let so = each_parts IsSo [] w.front (entry x ∷ w.back) (subst (λ k. EachAfter IsSo [] k) w.parts h.so) in (
      m',
      record {
        record_is = filter_map-append entry_at w.front w.back ∙ (λ i. w.front_is i ++ w.back_is i) ∙ append-nil r;
        runs = subst IsRun (sym same) h.runs;
        so = each_joined IsSo [] w.front w.back so.0 (nodes_so (w.front ++ entry x ∷ []) w.front w.back w.back_is so.1.1);
      },
      same,
    )
