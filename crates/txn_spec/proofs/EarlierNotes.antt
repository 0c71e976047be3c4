-- What the notes of an earlier record still tell: the run is one with that record, and goes on from there.
use Rattle.std.proofs.Common.{◌≡◌, ℕ, Bool, true, false, cond, ◌||◌, List, [], ◌∷◌, ◌++◌, refl, sym, ap, ◌∙◌, subst, ⊎_elim}
use Rattle.std.specs.Prelude.{filter}
use Rattle.std.specs.List.{list_any}
use Rattle.std.proofs.lemmas.Bool.{both_ways, cases_Bool, or_parts}
use Rattle.std.proofs.lemmas.List.Elements.{filter_map-append}
use Rattle.base.specs.Each.{Each, EachAfter}
use Rattle.base.proofs.EachLaws.{each_parts}
use Rattle.base.proofs.PlaceLaws.{heads_are, tails_are}
use Rattle.quiesce_laws.specs.Steps.{IsNoted}
use Rattle.quiesce_laws.proofs.MeanwhileLaws.{none_reopened}
use Rattle.txn_records.specs.Entries.{config_of, events_in}
use Rattle.txn_records.specs.Notes.{is_noted}
use Rattle.txn_records.specs.Records.{IsRecordOf, IsSo, Moment, by_node, entry, entries, event_at, events, state_at}
use Rattle.txn_records.specs.declared.entry.Entry.{Entry}
use Rattle.txn_records.proofs.NoteLaws.{noted_is_drained}
use Rattle.txn_records.proofs.RecordLaws.{changes_are, config_is}
use Rattle.quiesce_core.specs.declared.event.Event.{Event}
use Rattle.quiesce_core.specs.declared.event.Event.TheVariants.{Begin, Call, Take, Give, End, More, Ask, Hear, Miss, Close, Reopen, Make, Link, Unlink, Remove}
use Rattle.quiesce_core.specs.Doers.{is_of_change}
use Rattle.quiesce_core.specs.Runs.{IsRun, state_after}
use Rattle.quiesce_core.specs.Settled.{Settled}
use Rattle.quiesce_core.specs.State.{Configuration}
use Rattle.quiesce_core.proofs.RunLaws.{fronts_are_runs}
use Rattle.quiesce_laws.specs.Drained.{is_drained}
use Rattle.quiesce_laws.specs.Events.{is_reopen_or_link, removes, reopens}
use Rattle.quiesce_laws.proofs.DrainingLaws.{drained_stays, settled_if_drained}
use Rattle.quiesce_laws.proofs.QuiescenceLaws.{stays_settled}

-- ---- the place of an earlier record

record Parted (r more_ : List Entry) (m : List Moment) : Type 0 where
  front : List Moment
  behind : List Moment
  parts : m ≡ front ++ behind
  earlier : entries front ≡ r
  later : entries behind ≡ more_

parted : (r more_ : List Entry) (m : List Moment) → entries m ≡ r ++ more_ → Parted r more_ m
parted [] more_ m h = record { front = []; behind = m; parts = refl; earlier = refl; later = h }
parted (z ∷ r) more_ [] h = cc
parted (z ∷ r) more_ (by_node e ∷ m) h =
    let w = parted (z ∷ r) more_ m h in
    record { front = by_node e ∷ w.front; behind = w.behind; parts = ap (λ zs. by_node e ∷ zs) w.parts; earlier = w.earlier; later = w.later }
parted (z ∷ r) more_ (entry y ∷ m) h =
    let w = parted r more_ m (tails_are y z (entries m) (r ++ more_) h) in
    record {
      front = entry y ∷ w.front;
      behind = w.behind;
      parts = ap (λ zs. entry y ∷ zs) w.parts;
      earlier = (λ i. heads_are y z (entries m) (r ++ more_) h i ∷ w.earlier i);
      later = w.later;
    }

-- ---- events of the change alone reopen, link and remove

abbrev IsOfChangeAlone : (Event → Bool) → Type 0
IsOfChangeAlone test = (e : Event) → is_of_change e ≡ false → test e ≡ false

opening : IsOfChangeAlone is_reopen_or_link
opening (Begin q k v) h = refl
opening (Call q k v) h = refl
opening (Miss q) h = refl
opening (Take q k v) h = refl
opening (Give q k v) h = refl
opening (More q k v) h = refl
opening (Ask q k v) h = refl
opening (Hear q k v) h = refl
opening (End q k v) h = refl
opening (Close q) h = refl
opening (Reopen q) h = absurd (both_ways true h refl)
opening (Make n node from) h = refl
opening (Link q n x) h = absurd (both_ways true h refl)
opening (Unlink q) h = refl
opening (Remove n) h = refl

removing : (n : ℕ) → IsOfChangeAlone (removes n)
removing n (Begin q k v) h = refl
removing n (Call q k v) h = refl
removing n (Miss q) h = refl
removing n (Take q k v) h = refl
removing n (Give q k v) h = refl
removing n (More q k v) h = refl
removing n (Ask q k v) h = refl
removing n (Hear q k v) h = refl
removing n (End q k v) h = refl
removing n (Close q) h = refl
removing n (Reopen q) h = refl
removing n (Make m node from) h = refl
removing n (Link q m x) h = refl
removing n (Unlink q) h = refl
removing n (Remove m) h = absurd (both_ways true h refl)

none_among : (test : Event → Bool) → IsOfChangeAlone test → (es : List Event) → list_any test (filter is_of_change es) ≡ false → list_any test es ≡ false
none_among test alone [] h = refl
none_among test alone (e ∷ es) h = ⊎_elim
    (λ (k : is_of_change e ≡ true).
    let here = sym (ap (λ b. list_any test (cond b (e ∷ filter is_of_change es) (filter is_of_change es))) k) ∙ h in
    let parts = or_parts (test e) (list_any test (filter is_of_change es)) here in
    ap (λ b. b || list_any test es) parts.0 ∙ none_among test alone es parts.1)
    (λ (k : is_of_change e ≡ false).
    let here = sym (ap (λ b. list_any test (cond b (e ∷ filter is_of_change es) (filter is_of_change es))) k) ∙ h in
    ap (λ b. b || list_any test es) (alone e k) ∙ none_among test alone es here)
    (cases_Bool (is_of_change e))

-- ---- what the notes of record r tell of a run whose record has more after it

module _ (r more_ : List Entry) (m : List Moment) (h : IsRecordOf (r ++ more_) m) where
  w : Parted r more_ m
  w = parted r more_ m h.record_is

  so : EachAfter IsSo [] w.front × EachAfter IsSo w.front w.behind
  so = each_parts IsSo [] w.front w.behind (subst (Each IsSo) w.parts h.so)

  events_are : events m ≡ events w.front ++ events w.behind
  events_are = ap events w.parts ∙ filter_map-append event_at w.front w.behind

  runs : IsRun (events w.front ++ events w.behind)
  runs = subst IsRun events_are h.runs

  front_runs : IsRun (events w.front)
  front_runs = fronts_are_runs (events w.front) (events w.behind) runs

  was : IsRecordOf r w.front
  was = record { record_is = w.earlier; runs = front_runs; so = so.0 }

  changes : filter is_of_change (events w.behind) ≡ events_in more_
  changes = changes_are w.front w.behind so.1 ∙ ap events_in w.later

  pub still_drained : (p : ℕ) → is_noted r p ≡ true → list_any (reopens p) (events_in more_) ≡ false → is_drained (state_at m) p ≡ true
  still_drained p noted none_ =
      subst (λ es. is_drained (state_after es) p ≡ true) (sym events_are)
      (drained_stays (events w.front) (events w.behind) p runs (none_reopened p (events w.behind) (ap (list_any (reopens p)) changes ∙ none_))
      (noted_is_drained r w.front p was noted))

  was_settled : (n : ℕ) → IsNoted (is_noted r) (config_of r) n → Settled (state_at w.front) n
  was_settled n noted =
      let here : IsNoted (is_noted r) (state_at w.front).config n =
      subst (λ (k : Configuration). IsNoted (is_noted r) k n) (config_is r w.front was) noted in
      settled_if_drained (events w.front) n front_runs here.live (λ p own. noted_is_drained r w.front p was (here.own p own))
      (λ p reach. noted_is_drained r w.front p was (here.reaching p reach))

  pub still_settled : (n : ℕ) → IsNoted (is_noted r) (config_of r) n → list_any is_reopen_or_link (events_in more_) ≡ false → list_any (removes n) (events_in more_) ≡ false
      → Settled (state_at m) n
  still_settled n noted unopened unremoved =
      subst (λ es. Settled (state_after es) n) (sym events_are)
      ((stays_settled (events w.front) (events w.behind) n (was_settled n noted) runs
      (none_among is_reopen_or_link opening (events w.behind) (ap (list_any is_reopen_or_link) changes ∙ unopened))).1
      (none_among (removes n) (removing n) (events w.behind) (ap (list_any (removes n)) changes ∙ unremoved)))
