-- Once nothing is left of a stop's passivation, each port of a live node is noted.
use Rattle.std.proofs.Common.{◌≡◌, ℕ, Bool, true, false, cond, List, [], ◌∷◌, ◌++◌, length, map, refl, sym, ap, ◌∙◌, subst}
use Rattle.std.specs.Prelude.{filter, flat_map}
use Rattle.std.specs.List.{AllByRecursion, range_with_len}
use Rattle.std.proofs.lemmas.List.{append-nil}
use Rattle.std.proofs.lemmas.List.Concat.{flat_map-cons}
use Rattle.std.proofs.lemmas.List.Elements.{All-from_recursion, filter_map-append}
use Rattle.report_types.specs.declared.report.HistoryLine.{HistoryLine}
use Rattle.report_types.specs.declared.report.HistoryLine.TheVariants as to
use Rattle.quiesce_laws.specs.Lists.{In}
use Rattle.quiesce_laws.specs.Steps.{change_all, live_ports}
use Rattle.quiesce_laws.proofs.GateLaws.{live_unlisted}
use Rattle.quiesce_laws.proofs.MemberLaws.{contains_in}
use Rattle.quiesce_laws.proofs.TurningLaws.{SameLinks, live_port}
use Rattle.quiesce_core.specs.declared.event.Event.TheVariants as event
use Rattle.quiesce_core.specs.Rules.{is_live_port}
use Rattle.quiesce_core.specs.State.{Configuration}
use Rattle.txn_records.specs.Entries.{config_of, event_in, events_in}
use Rattle.txn_records.specs.declared.entry.Entry.{Entry}
use Rattle.txn_records.specs.Records.{AreAllNoted}
use Rattle.change_board.specs.declared.board.Board.{Ghosts as BoardWords}
use Rattle.change_board.specs.Transcripts.{entries}
use Rattle.change_engine.specs.Growing.{Grew, telling}
use Rattle.change_engine.specs.Passivating.{AreLivePorts, IsPassivation, Passivation, WaitingRound, close_item, left_after, look_item, passivation_items, round_items}
use Rattle.change_engine.specs.Stopping.{stop_items}
use Rattle.change_engine.proofs.Breaking.{stop_told}
use Rattle.change_engine.proofs.Noting.{passivated_noted}
use Rattle.change_engine.proofs.Passing.{close_entries, closes_events, config_over, live_same, looks_quiet, round_quiet}
use Rattle.change_engine.proofs.ItemLaws.{entries_both, look_entries}
use Rattle.change_spec.proofs.PortLaws.{closed_links, same_here}

-- the events of a passivation are its closes
pub rounds_quiet : (rounds : List WaitingRound) → events_in (entries (flat_map round_items rounds)) ≡ []
rounds_quiet [] = refl
rounds_quiet (w ∷ rounds) =
    ap (λ t. events_in (entries t)) (flat_map-cons round_items w rounds)
    ∙ ap events_in (entries_both (round_items w) (flat_map round_items rounds))
    ∙ filter_map-append event_in (entries (round_items w)) (entries (flat_map round_items rounds))
    ∙ ap (λ es. es ++ events_in (entries (flat_map round_items rounds))) (round_quiet w) ∙ rounds_quiet rounds

pub passivation_events : (ports : List ℕ) (how : Passivation) → events_in (entries (passivation_items ports how)) ≡ map event.Close ports
passivation_events ports how =
    let shut = map close_item ports in
    let first = map look_item how.first in
    let rest = flat_map round_items how.rounds in
    let parts : entries (shut ++ first ++ rest) ≡ (entries shut ++ entries first) ++ entries rest =
    entries_both (shut ++ first) rest ∙ ap (λ es. es ++ entries rest) (entries_both shut first) in
    ap events_in parts ∙ filter_map-append event_in (entries shut ++ entries first) (entries rest)
    ∙ ap (λ es. events_in (entries shut ++ entries first) ++ es) (rounds_quiet how.rounds) ∙ append-nil (events_in (entries shut ++ entries first))
    ∙ filter_map-append event_in (entries shut) (entries first)
    ∙ ap (λ es. events_in (entries shut) ++ es) (ap events_in (look_entries how.first) ∙ looks_quiet how.first) ∙ append-nil (events_in (entries shut))
    ∙ ap events_in (close_entries ports) ∙ closes_events ports

all_pass : (test : ℕ → Bool) (xs : List ℕ) → AllByRecursion (λ p. test p ≡ true) (filter test xs)
all_pass test [] = tt
all_pass test (x ∷ xs) = by (test x) refl (all_pass test xs)
  where
    by : (b : Bool) → test x ≡ b → AllByRecursion (λ p. test p ≡ true) (filter test xs) → AllByRecursion (λ p. test p ≡ true) (cond b (x ∷ filter test xs) (filter test xs))
    by true e rest = (e, rest)
    by false e rest = rest

pub all_live : (c : Configuration) → AreLivePorts c (live_ports c)
all_live c = All-from_recursion (λ p. is_live_port c p ≡ true) (live_ports c) (all_pass (is_live_port c) (range_with_len 0 (length c.gates)))

pub all_noted : (r : List Entry) (ports : List ℕ) (rounds : ℕ) (how : Passivation) → ports ≡ live_ports (config_of r) → IsPassivation ports rounds how → left_after how.first how.rounds ≡ []
    → AreAllNoted (r ++ entries (passivation_items ports how))
all_noted r ports rounds how are is none_ p live =
    let c = config_of r in
    let d = config_of (r ++ entries (passivation_items ports how)) in
    let same : SameLinks c d =
    subst (SameLinks c) (sym (config_over r (entries (passivation_items ports how)) ∙ ap (change_all c) (passivation_events ports how)))
    (closed_links c c ports (subst (AreLivePorts c) (sym are) (all_live c)) (same_here c)) in
    let here = live_port c p (sym (live_same c d p same) ∙ live) in
    passivated_noted r ports rounds p how is none_ (subst (λ ps. In ps p) (sym are) (contains_in (live_ports c) p (live_unlisted c p here.made here.live)))

pub stop_grew : {B : Type 0} (W : BoardWords B) (a b : B) (h i j : List HistoryLine) (ports : List ℕ) (how : Passivation) → i ≡ h ++ to.Stop ∷ [] → Grew W (telling a i) (telling b j) (passivation_items ports how)
    → Grew W (telling a h) (telling b j) (stop_items ports how)
stop_grew W a b h i j ports how e g = record {
  adds = g.adds;
  adds_lines = stop_told h i j ports how e g.adds_lines;
}
