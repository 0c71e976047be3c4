-- A board that stands for the record of its seat.
use Rattle.std.proofs.Common.{◌≡◌, ◌∙◌, ℕ, ◌+◌, ◌<◌, ◌≤◌, cond, true, List, [], ◌∷◌, ◌++◌, length, map, Option, Some, None, sym, ap, subst, arith}
use Rattle.std.specs.Prelude.{nat_lt}
use Rattle.std.specs.Option.{option_map_or}
use Rattle.std.proofs.lemmas.Bool.{ltb-true}
use Rattle.std.specs.List.{filter_map}
use Rattle.std.proofs.lemmas.List.{append-nil}
use Rattle.std.proofs.lemmas.List.Elements.{filter_map-append}
use Rattle.std.proofs.lemmas.List.Sums.{fold_push}
use Rattle.std.proofs.lemmas.Option.{slice_get_within}
use Rattle.base.proofs.OptionLaws.{map_or_true}
use Rattle.change_board.specs.Making.{Makes}
use Rattle.change_board.specs.Steps.{HasRoomToMake}
use Rattle.change_board.specs.Sights.{Sight, sight_entry}
use Rattle.change_spec.proofs.LowerLaws.{lower_after}
use Rattle.config_graph.specs.declared.TheConstants.{MAX_NODES}
use Rattle.config_graph.specs.declared.node.Node.{Node}
use Rattle.quiesce_laws.specs.Steps.{change_all}
use Rattle.quiesce_core.specs.Doers.{is_of_change}
use Rattle.quiesce_core.specs.Effect.{change_next, with_node}
use Rattle.quiesce_core.specs.Runs.{IsRun}
use Rattle.quiesce_core.specs.State.{Configuration, empty, slot}
use Rattle.quiesce_core.specs.declared.state.Slot.{Slot}
use Rattle.quiesce_core.specs.declared.event.Event.{Event}
use Rattle.quiesce_core.specs.declared.event.Event.TheVariants.{Make, Remove}
use Rattle.txn_spec.specs.Views.{notes}
use Rattle.txn_spec.specs.declared.view.ChangeView.{ChangeView}
use Rattle.txn_records.proofs.EntryLaws.{config_did}
use Rattle.txn_records.proofs.NoteLaws.{may_is_allowed}
use Rattle.txn_records.proofs.RecordLaws.{config_is, did_more}
use Rattle.txn_records.specs.Entries.{config_of, event_in, events_in}
use Rattle.txn_records.specs.Records.{Adds, IsRecord, IsRecordCut, May, entry, events}
use Rattle.txn_records.specs.declared.entry.Entry.{Entry}
use Rattle.txn_records.specs.declared.entry.Entry.TheVariants.{Did}
use Rattle.live_board.specs.Boards.{BoardSeen, FitsNodes, StandsLive}
use Rattle.live_board.specs.Heirs.{with_heir}
use Rattle.live_board.specs.Lengths.{IsLast, length_at}
use Rattle.live_board.proofs.BehindLaws.{AreBelow, fits_from_now, fits_longer, fits_made}
use Rattle.live_board.proofs.ScanLaws.{few_now}
use Rattle.live_board.proofs.QuietLaws.{quiet, quiet_sights}

-- an event that the change may do
pub record_did : (r : List Entry) (e : Event) → IsRecord r → is_of_change e ≡ true → May r e → IsRecord (r ++ Did e ∷ [])
record_did r e h change may = record { moments = h.moments ++ entry (Did e) ∷ []; is_of = did_more r h.moments e h.is_of change (may_is_allowed r h.moments e h.is_of may) }

-- what holds of the configuration that the record of a run tells
pub below_now : (r : List Entry) → IsRecord r → AreBelow (config_of r)
below_now r h = subst AreBelow (sym (config_is r h.moments h.is_of)) (lower_after (events h.moments) h.is_of.runs).lower

config_made : (r : List Entry) (e : Event) (ss : List Sight) → config_of (r ++ Did e ∷ map sight_entry ss) ≡ change_next (config_of r) e
config_made r e ss =
    ap (change_all empty.config) (filter_map-append event_in r (Did e ∷ map sight_entry ss) ∙ ap (λ (xs : List Event). events_in r ++ e ∷ xs) (quiet_sights ss))
    ∙ fold_push change_next empty.config (events_in r) e

-- a node that may be removed was made
pub removed_below : (r : List Entry) (n : ℕ) → IsRecord r → May r (Remove n) → n < MAX_NODES
removed_below r n h may =
    let m = map_or_true (λ (x : Slot). x.live) (slot (config_of r) n) may.settled.live in
    let below = slice_get_within (config_of r).slots n m.0 m.1 in
    omega (arith, below, few_now r h)

-- a part of two that are the same
pub same_part : {A B : Type 0} {x y : A} → x ≡ y → (f : A → B) → f x ≡ f y
same_part is f = ap f is

-- a run that goes on without the change
pub cut : (b : BoardSeen) (r : List Entry) → StandsLive b r → IsRecordCut r
cut b r h = record {
  moments = h.of_run.moments;
  later = [];
  is_of = h.of_run.is_of;
  by_nodes = λ k d few. absurd (omega arith);
  runs_on = subst IsRun (sym (append-nil (events h.of_run.moments))) h.of_run.is_of.runs;
}

-- What a call did by the seat's record is what a board stands for; the board's own view `v` is the one that contracts see.
module _ (v old : BoardSeen) (view : v ≡ old) (new : BoardSeen) where
  pub here : (r : List Entry) → StandsLive old r → r ≡ v.entries
  here r h = h.is ∙ sym (ap (λ (b : BoardSeen). b.entries) view)

  pub fits_here : (r : List Entry) → StandsLive old r → FitsNodes (config_of r) v.room.sources v.lines v.heirs
  fits_here r h = subst (λ (b : BoardSeen). FitsNodes (config_of r) b.room.sources b.lines b.heirs) (sym view) h.fits

  pub last_here : (r : List Entry) → StandsLive old r → IsLast r v.last
  last_here r h = subst (λ (b : BoardSeen). IsLast r b.last) (sym view) h.last

  -- what the board's own view says, where it stands for some record
  pub fits_now : (r : List Entry) → StandsLive old r → FitsNodes (config_of v.entries) v.room.sources v.lines v.heirs
  fits_now r h = subst (λ q. FitsNodes (config_of q) v.room.sources v.lines v.heirs) (here r h) (fits_here r h)

  pub known_now : (r : List Entry) → StandsLive old r → IsRecord v.entries
  known_now r h = subst IsRecord (here r h) h.of_run

  pub may_now : (e : Event) → ((r : List Entry) × StandsLive old r × May r e) → May v.entries e
  may_now e m = subst (λ q. May q e) (here m.0 m.1) m.2

  pub make_now : (node : Node) (from : Option ℕ) → ((r : List Entry) × StandsLive old r × May r (Make (length (config_of r).slots) node from)) → May v.entries (Make (length (config_of v.entries).slots) node from)
  make_now node from m = subst (λ q. May q (Make (length (config_of q).slots) node from)) (here m.0 m.1) m.2

  pub sources_now : (from : Option ℕ) → HasRoomToMake old.room from → (k : ℕ) → from ≡ Some k → k < v.room.sources
  sources_now from h k is =
      subst (λ (b : BoardSeen). k < b.room.sources) (sym view) (ltb-true k old.room.sources (ap (λ o. option_map_or (λ i. nat_lt i old.room.sources) o true) (sym is) ∙ h.source))

  -- a call that broke off left the record
  pub broke_off : new.entries ≡ v.entries → (r : List Entry) → StandsLive old r → (new.entries ≡ r) × IsRecordCut r
  broke_off kept r h = (kept ∙ sym (here r h), cut old r h)

  module _ (sources : new.room.sources ≡ v.room.sources) (lines : new.lines ≡ v.lines) where
    fits_new : (c : Configuration) (heirs : List (Option ℕ)) → new.heirs ≡ heirs → FitsNodes c v.room.sources v.lines heirs → FitsNodes c new.room.sources new.lines new.heirs
    fits_new c heirs is f =
        subst (λ i. FitsNodes c i new.lines new.heirs) (sym sources) (subst (λ i. FitsNodes c v.room.sources i new.heirs) (sym lines) (subst (λ hs. FitsNodes c v.room.sources v.lines hs) (sym is) f))

    module _ (heirs : new.heirs ≡ v.heirs) where
      pub adds_did : new.last ≡ None → (e : Event) (c c' : ChangeView) → is_of_change e ≡ true → ((r : List Entry) × StandsLive old r × May r e) → v.entries ≡ c.entries → c' ≡ notes c (Did e) → new.entries ≡ c'.entries
          → ((d : Configuration) → FitsNodes d v.room.sources v.lines v.heirs → FitsNodes (change_next d e) v.room.sources v.lines v.heirs)
          → Adds StandsLive old new (Did e ∷ [])
      adds_did none_ e c c' change may was is now keeps r h =
          let same : r ≡ c.entries = here r h ∙ was in record {
            is = ap (λ (q : List Entry). q ++ Did e ∷ []) same ∙ sym (now ∙ ap (λ (k : ChangeView). k.entries) is);
            of_run = record_did r e h.of_run change (subst (λ q. May q e) (may.1.is ∙ sym h.is) may.2);
            fits = subst (λ d. FitsNodes d new.room.sources new.lines new.heirs) (sym (config_did r e)) (fits_new (change_next (config_of r) e) v.heirs heirs (keeps (config_of r) (fits_here r h)));
            last = subst (IsLast (r ++ Did e ∷ [])) (sym none_) tt;
          }

      -- entries that leave the configuration
      pub adds_seen : (es : List Entry) → filter_map event_in es ≡ [] → IsRecord new.entries → new.entries ≡ v.entries ++ es → ((r : List Entry) → StandsLive old r → IsLast new.entries new.last) → Adds StandsLive old new es
      adds_seen es none_ known is last r h =
          let same : r ++ es ≡ new.entries = ap (λ (q : List Entry). q ++ es) (here r h) ∙ sym is in record {
            is = same;
            of_run = subst IsRecord (sym same) known;
            fits = subst (λ d. FitsNodes d new.room.sources new.lines new.heirs) (sym (quiet r es none_)) (fits_new (config_of r) v.heirs heirs (fits_here r h));
            last = subst (λ q. IsLast q new.last) (sym same) (last r h);
          }

    pub adds_made : new.last ≡ None → (node : Node) (from : Option ℕ) (sights : List Sight) → ((k : ℕ) → from ≡ Some k → k < v.room.sources)
        → new.heirs ≡ with_heir v.heirs from (length (config_of v.entries).slots)
        → new.entries ≡ v.entries ++ Did (Make (length (config_of v.entries).slots) node from) ∷ map sight_entry sights → IsRecord new.entries → Makes StandsLive old new node from
    adds_made none_ node from sights may heirs is known = record { sights = sights; adds = adds }
      where
        adds : (r : List Entry) → StandsLive old r → StandsLive new (r ++ Did (Make (length (config_of r).slots) node from) ∷ map sight_entry sights)
        adds r h =
            let q = r ++ Did (Make (length (config_of r).slots) node from) ∷ map sight_entry sights in
            let same : q ≡ new.entries = ap (λ (x : List Entry). x ++ Did (Make (length (config_of x).slots) node from) ∷ map sight_entry sights) (here r h) ∙ sym is in
            let known' : IsRecord q = subst IsRecord (sym same) known in
            let config = config_made r (Make (length (config_of r).slots) node from) sights in
            let low : AreBelow (with_node (config_of r) node from) = subst AreBelow config (below_now q known') in
            record {
              is = same;
              of_run = known';
              fits = subst (λ d. FitsNodes d new.room.sources new.lines new.heirs) (sym config)
                  (fits_new (with_node (config_of r) node from) (with_heir v.heirs from (length (config_of r).slots)) (heirs ∙ ap (λ x. with_heir v.heirs from (length (config_of x).slots)) (sym (here r h)))
                  (fits_made (config_of r) node from low v.room.sources v.lines v.heirs may (fits_here r h)));
              last = subst (IsLast q) (sym none_) tt;
            }

  -- nothing was done, and what is kept fits
  pub adds_no_entry : new.entries ≡ v.entries → new.last ≡ v.last → (FitsNodes (config_of v.entries) v.room.sources v.lines v.heirs → FitsNodes (config_of v.entries) new.room.sources new.lines new.heirs) → Adds StandsLive old new []
  adds_no_entry is last keeps r h =
      let q : r ++ [] ≡ r = append-nil r in
      subst (StandsLive new) (sym q) (record {
        is = here r h ∙ sym is;
        of_run = h.of_run;
        fits = subst (λ x. FitsNodes (config_of x) new.room.sources new.lines new.heirs) (sym (here r h)) (keeps (fits_now r h));
        last = subst (IsLast r) (sym (last ∙ ap (λ (b : BoardSeen). b.last) view)) h.last;
      })

  -- more places for heirs
  pub adds_places : new.entries ≡ v.entries → new.last ≡ v.last → new.room.sources ≡ v.room.sources → new.lines ≡ v.lines → ((n : ℕ) → length_at new.heirs n ≡ length_at v.heirs n) → length v.heirs ≤ length new.heirs → Adds StandsLive old new []
  adds_places is last sources lines same long =
      adds_no_entry is last (λ f.
      subst (λ i. FitsNodes (config_of v.entries) i new.lines new.heirs) (sym sources)
      (subst (λ i. FitsNodes (config_of v.entries) v.room.sources i new.heirs) (sym lines) (fits_longer (config_of v.entries) v.room.sources v.lines v.heirs new.heirs same long f)))

  -- room for heirs of all nodes that were made
  pub adds_room : new.entries ≡ v.entries → new.last ≡ v.last → new.room.sources ≡ length (config_of v.entries).slots
      → new.lines ≡ cond (nat_lt v.room.sources (length (config_of v.entries).slots)) (v.lines + 1) v.lines
      → ((n : ℕ) → length_at new.heirs n ≡ length_at v.heirs n) → length (config_of v.entries).slots ≤ length new.heirs → Adds StandsLive old new []
  adds_room is last sources lines same long =
      adds_no_entry is last (λ f.
      subst (λ i. FitsNodes (config_of v.entries) i new.lines new.heirs) (sym sources) (fits_from_now (config_of v.entries) v.room.sources v.lines new.lines v.heirs new.heirs same long lines f))
