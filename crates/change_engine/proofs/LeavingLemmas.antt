-- The roots that a wait leaves: their ports were closed, and aren't noted.
use Rattle.std.proofs.Common.{◌≡◌, ℕ, Bool, true, false, cond, not, List, [], ◌∷◌, ◌++◌, append_assoc, map, refl, sym, ap, ◌∙◌, subst, inl, inr}
use Rattle.std.specs.Prelude.{◌==◌, ◌&&◌, ◌||◌, flat_map, fold}
use Rattle.std.specs.List.{list_any}
use Rattle.std.proofs.lemmas.Bool.{eqb-true, not-true, or_parts}
use Rattle.std.proofs.lemmas.List.{append-nil, map-append}
use Rattle.std.proofs.lemmas.List.Concat.{flat_map-cons}
use Rattle.std.proofs.lemmas.List.Elements.{filter_map-append}
use Rattle.std.proofs.lemmas.List.Sums.{fold-append, fold_push}
use Rattle.base.specs.Each.{EachAfter}
use Rattle.quiesce_laws.specs.Commits.{Differ}
use Rattle.quiesce_laws.specs.Lists.{Apart, In}
use Rattle.quiesce_laws.specs.Events.{reopens}
use Rattle.txn_records.specs.Entries.{config_of, event_in, events_in}
use Rattle.txn_records.specs.declared.entry.Entry.{Entry}
use Rattle.txn_records.specs.declared.entry.Entry.TheVariants.{Looked}
use Rattle.txn_records.specs.Looks.{is_drained_word}
use Rattle.txn_records.specs.Notes.{found_next, is_found_drained, is_never_reopened, is_noted}
use Rattle.txn_records.specs.Records.{IsRecord}
use Rattle.change_board.specs.Scans.{Found, look_entry, ports_of, scan_entries}
use Rattle.change_board.specs.Transcripts.{entries}
use Rattle.change_engine.specs.Leaving.{IsRootLeft}
use Rattle.change_engine.specs.Passivating.{AreLivePorts, IsPassivation, IsRound, Passivation, WaitingRound, is_busy, last_look, left_after, passivation_items, root_of, root_ports, roots_of, round_items}
use Rattle.change_engine.specs.declared.passivating.LeftRoot.{LeftRoot}
use Rattle.change_engine.proofs.Passing.{closes, looks_quiet, roots_cons, round_entries}
use Rattle.change_engine.proofs.Rooting.{behind, busy_not_noted, in_map, in_right, look_root, roots_there, split, whole}
use Rattle.change_engine.proofs.ItemLaws.{entries_both}

-- what is left are the roots that the last look saw
left_is_last : (first : List Found) (rounds : List WaitingRound) → left_after first rounds ≡ roots_of (last_look first rounds)
left_is_last first [] = refl
left_is_last first (w ∷ rounds) = left_is_last w.found rounds

-- the last look ends the record
record LastLook (all : List Entry) (found : List Found) : Type 0 where
  before : List Entry
  parts : all ≡ before ++ map look_entry found

looks_last : (es : List Entry) (first : List Found) (rounds : List WaitingRound) → LastLook ((es ++ map look_entry first) ++ entries (flat_map round_items rounds)) (last_look first rounds)
looks_last es first [] = record { before = es; parts = append-nil (es ++ map look_entry first) }
looks_last es first (w ∷ rounds) =
    let xs = es ++ map look_entry first in
    let scan = scan_entries false w.moved w.sights w.scan in
    let rest = entries (flat_map round_items rounds) in
    let deep = looks_last (xs ++ scan) w.found rounds in
    record {
      before = deep.before;
      parts = ap (λ zs. xs ++ zs) (ap entries (flat_map-cons round_items w rounds) ∙ entries_both (round_items w) (flat_map round_items rounds) ∙ ap (λ zs. zs ++ rest) (round_entries w))
          ∙ sym (append_assoc xs (scan ++ map look_entry w.found) rest) ∙ ap (λ zs. zs ++ rest) (sym (append_assoc xs scan (map look_entry w.found))) ∙ deep.parts;
    }

-- what holds of the ports of the first look and goes from those of a look to those left holds of those of the last
last_ports : (P : List ℕ → Type 0) → ((found : List Found) → P (ports_of found) → P (root_ports (roots_of found))) → (first : List Found) (before rounds : List WaitingRound)
    → EachAfter (IsRound first) before rounds → P (ports_of (last_look first before)) → P (ports_of (last_look first (before ++ rounds)))
last_ports P step first before [] each h = subst (λ ws. P (ports_of (last_look first ws))) (sym (append-nil before)) h
last_ports P step first before (w ∷ rounds) each h =
    let next : P (ports_of w.found) =
    subst P (sym (each.0.at_left ∙ ap root_ports (left_is_last first before))) (step (last_look first before) h) in
    subst (λ ws. P (ports_of (last_look first ws))) (append_assoc before (w ∷ []) rounds)
    (last_ports P step first (before ++ w ∷ []) rounds each.1
    (subst (λ found. P (ports_of found)) (sym (fold_push (λ found (v : WaitingRound). v.found) first before w)) next))

-- a look is at each port once
apart_left : (found : List Found) → Apart Differ (ports_of found) → Apart Differ (root_ports (roots_of found))
apart_left [] h = tt
apart_left (f ∷ found) h = subst (λ left. Apart Differ (root_ports left)) (sym (roots_cons f found)) (by (is_busy f) (apart_left found h.1))
  where
    by : (b : Bool) → Apart Differ (root_ports (roots_of found)) → Apart Differ (root_ports (cond b (root_of f ∷ roots_of found) (roots_of found)))
    by true rest = (λ q i. h.0 q (roots_there found q i), rest)
    by false rest = rest

apart_behind : (before after : List Found) (f : Found) → Apart Differ (ports_of (before ++ f ∷ after)) → (q : ℕ) → In (ports_of after) q → Differ f.port q
apart_behind [] after f h = h.0
apart_behind (g ∷ before) after f h = apart_behind before after f h.1

-- the look at a root that is left
record RootFound (found : List Found) (x : LeftRoot) : Type 0 where
  look : Found
  there : In found look
  busy : is_drained_word look.word ≡ false
  is : root_of look ≡ x

root_found : (found : List Found) (x : LeftRoot) → In (roots_of found) x → RootFound found x
root_found [] x i = absurd i
root_found (f ∷ found) x i =
    by (is_busy f) refl (λ j. let w = root_found found x j in record { look = w.look; there = inr w.there; busy = w.busy; is = w.is }) (subst (λ left. In left x) (roots_cons f found) i)
  where
    by : (b : Bool) → is_busy f ≡ b → (In (roots_of found) x → RootFound (f ∷ found) x) → In (cond b (root_of f ∷ roots_of found) (roots_of found)) x → RootFound (f ∷ found) x
    by true e later (inl same) = record { look = f; there = inl refl; busy = not-true (is_drained_word f.word) e; is = same }
    by true e later (inr j) = later j
    by false e later j = later j

-- looks at other ports note nothing of this one
others_miss : (p : ℕ) (found : List Found) → ((q : ℕ) → In (ports_of found) q → Differ p q) → fold (found_next p) false (map look_entry found) ≡ false
others_miss p [] h = refl
others_miss p (f ∷ found) h =
    ap (λ b. fold (found_next p) (false || (b && is_drained_word f.word)) (map look_entry found)) (apart (f.port == p) refl)
    ∙ others_miss p found (λ q i. h q (inr i))
  where
    apart : (b : Bool) → (f.port == p) ≡ b → b ≡ false
    apart false e = refl
    apart true e = absurd (h f.port (inl refl) (eqb-true f.port p e))

busy_and : (b w : Bool) → w ≡ false → (false || (b && w)) ≡ false
busy_and false w h = refl
busy_and true w h = h

not_noted_on : (r : List Entry) (p w : ℕ) (found : List Found) → is_noted r p ≡ false → is_drained_word w ≡ false → ((q : ℕ) → In (ports_of found) q → Differ p q)
    → is_noted (r ++ Looked p w ∷ map look_entry found) p ≡ false
not_noted_on r p w found none_ busy apart =
    let all = r ++ Looked p w ∷ map look_entry found in
    let parts = or_parts (is_never_reopened r p) (is_found_drained r p) none_ in
    let quiet : events_in all ≡ events_in r =
    filter_map-append event_in r (Looked p w ∷ map look_entry found) ∙ ap (λ es. events_in r ++ es) (looks_quiet found) ∙ append-nil (events_in r) in
    let found_ : is_found_drained all p ≡ false =
    fold-append (found_next p) false r (Looked p w ∷ map look_entry found)
    ∙ ap (λ b. fold (found_next p) (found_next p b (Looked p w)) (map look_entry found)) parts.1
    ∙ ap (λ b. fold (found_next p) b (map look_entry found)) (busy_and (p == p) (is_drained_word w) busy)
    ∙ others_miss p found apart in
    ap (λ b. b || is_found_drained all p) (ap (λ es. not (list_any (reopens p) es)) quiet ∙ parts.0) ∙ found_

module _ (r : List Entry) (ports : List ℕ) (within : ℕ) (how : Passivation) (rec : IsRecord (r ++ entries (passivation_items ports how))) (live : AreLivePorts (config_of r) ports)
    (apart : Apart Differ ports) (is : IsPassivation ports within how) where
  abbrev last : List Found
  last = last_look how.first how.rounds

  ends : LastLook (behind r ports within how rec live is) last
  ends = looks_last [] how.first how.rounds

  last_apart : Apart Differ (ports_of last)
  last_apart = last_ports (λ ps. Apart Differ ps) apart_left how.first [] how.rounds is.each_round (subst (λ ps. Apart Differ ps) (sym is.at_ports) apart)

  last_closed : (p : ℕ) → In (ports_of last) p → In ports p
  last_closed =
      last_ports (λ ps. (p : ℕ) → In ps p → In ports p) (λ found h p i. h p (roots_there found p i)) how.first [] how.rounds is.each_round
      (λ p i. subst (λ ps. In ps p) is.at_ports i)

  not_noted : (f : Found) → In last f → is_drained_word f.word ≡ false → is_noted (r ++ entries (passivation_items ports how)) f.port ≡ false
  not_noted f i busy =
      let at = split last f i in
      let before = ((r ++ closes ports) ++ ends.before) ++ map look_entry at.front in
      let parts : r ++ entries (passivation_items ports how) ≡ before ++ Looked f.port f.word ∷ map look_entry at.back =
      whole r ports within how rec live is ∙ ap (λ es. (r ++ closes ports) ++ es) (ends.parts ∙ ap (λ found. ends.before ++ map look_entry found) at.parts
      ∙ ap (λ es. ends.before ++ es) (map-append look_entry at.front (f ∷ at.back)))
      ∙ sym (append_assoc (r ++ closes ports) ends.before (map look_entry at.front ++ look_entry f ∷ map look_entry at.back))
      ∙ sym (append_assoc ((r ++ closes ports) ++ ends.before) (map look_entry at.front) (look_entry f ∷ map look_entry at.back)) in
      ap (λ es. is_noted es f.port) parts
      ∙ not_noted_on before f.port f.word at.back (busy_not_noted before (map look_entry at.back) f.port f.word (subst IsRecord parts rec) busy) busy
      (apart_behind at.front at.back f (subst (λ found. Apart Differ (ports_of found)) at.parts last_apart))

  pub root_left : (x : LeftRoot) → In (left_after how.first how.rounds) x → IsRootLeft ports last (r ++ entries (passivation_items ports how)) x
  root_left x i =
      let w = root_found last x (subst (λ left. In left x) (left_is_last how.first how.rounds) i) in
      let f = w.look in
      let closed_ = last_closed f.port (in_map (λ (g : Found). g.port) last f w.there) in
      let there : In (behind r ports within how rec live is) (look_entry f) =
      subst (λ es. In es (look_entry f)) (sym ends.parts) (in_right ends.before (map look_entry last) (look_entry f) (in_map look_entry last f w.there)) in
      subst (IsRootLeft ports last (r ++ entries (passivation_items ports how))) w.is (record {
        is_closed = closed_;
        not_noted = not_noted f w.there w.busy;
        word = f.word;
        look = w.there;
        root = look_root r ports within how rec live is f closed_ there w.busy;
        serial = refl;
      })
