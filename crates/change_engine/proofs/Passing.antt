-- How looks and rounds make a passivation.
use Rattle.std.proofs.Common.{◌≡◌, ℕ, ◌+◌, ◌<◌, Bool, true, false, cond, not, List, [], ◌∷◌, ◌++◌, append_assoc, length, map, take, get_or, refl, sym, ap, ◌∙◌, subst, arith}
use Rattle.std.specs.Prelude.{◌&&◌, filter, flat_map, nat_lt}
use Rattle.std.proofs.lemmas.Grind.{flat_map-append}
use Rattle.std.proofs.lemmas.List.{append-nil, map-append, length-append, take_more}
use Rattle.std.proofs.lemmas.List.Elements.{All-cons, All-head, All-tail, filter_map-append}
use Rattle.std.proofs.lemmas.List.Sums.{fold-append}
use Rattle.base.proofs.EachLaws.{each_pushed}
use Rattle.quiesce_laws.specs.Steps.{change_all}
use Rattle.quiesce_laws.proofs.TurningLaws.{SameLinks, live_port, live_still}
use Rattle.quiesce_core.specs.declared.event.Event.TheVariants as event
use Rattle.quiesce_core.specs.Effect.{change_next}
use Rattle.quiesce_core.specs.Rules.{is_live_port}
use Rattle.quiesce_core.specs.State.{Configuration, empty, is_live, owner}
use Rattle.report_types.specs.declared.report.HistoryLine.{HistoryLine}
use Rattle.report_types.specs.declared.report.HistoryLine.TheVariants as to
use Rattle.change_board.specs.declared.board.Board.{Ghosts as BoardWords}
use Rattle.change_board.specs.declared.board.Scan.{Scan}
use Rattle.txn_records.specs.declared.looking.Look.TheVariants.{Drained, Busy}
use Rattle.txn_records.specs.Entries.{config_of, event_in, events_in}
use Rattle.txn_records.specs.declared.entry.Entry.{Entry}
use Rattle.txn_records.specs.declared.entry.Entry.TheVariants.{Did, Looked}
use Rattle.txn_records.specs.Looks.{is_drained_word, is_idle_word, look_of, serial_of}
use Rattle.txn_records.specs.Records.{Adds}
use Rattle.change_board.specs.Scans.{AddsScan, Found, look_entry, ports_of, scan_entries}
use Rattle.change_board.specs.Sights.{Sight, sight_entry}
use Rattle.change_board.specs.Transcripts.{silent, told, entries, lines}
use Rattle.change_engine.specs.Growing.{Grew, telling}
use Rattle.change_engine.specs.Passivating.{AreLivePorts, AreMadePorts, IsPassivation, IsRound, Passed, Rounded, WaitingRound, close_item, is_busy, item_at, left_after, lines_by, look_item, passivation_items, root_of, root_ports, roots_by, roots_of, round_items, silent_items}
use Rattle.change_engine.specs.declared.passivating.LeftRoot.{LeftRoot}
use Rattle.change_engine.proofs.Growing.{grew_both}
use Rattle.change_engine.proofs.ItemLaws.{entries_both, look_entries, silent_entries, silent_lines, close_lines}
use Rattle.change_spec.proofs.PortLaws.{closed_links, same_here}

abbrev pub closes : List ℕ → List Entry
closes ps = map (λ p. Did (event.Close p)) ps

-- the configuration behind entries that are no events, and behind closes
pub config_over : (r es : List Entry) → config_of (r ++ es) ≡ change_all (config_of r) (events_in es)
config_over r es =
    ap (change_all empty.config) (filter_map-append event_in r es) ∙ fold-append change_next empty.config (events_in r) (events_in es)

pub config_quiet : (r es : List Entry) → events_in es ≡ [] → config_of (r ++ es) ≡ config_of r
config_quiet r es h = config_over r es ∙ ap (change_all (config_of r)) h

pub closes_events : (ps : List ℕ) → events_in (closes ps) ≡ map event.Close ps
closes_events [] = refl
closes_events (p ∷ ps) = ap (λ es. event.Close p ∷ es) (closes_events ps)

pub live_same : (c d : Configuration) (p : ℕ) → SameLinks c d → is_live_port d p ≡ is_live_port c p
live_same c d p same =
    ap (λ n. nat_lt p n && is_live d (owner d p)) same.long
    ∙ ap (λ n. nat_lt p (length c.gates) && is_live d n) (same.owners p)
    ∙ ap (λ b. nat_lt p (length c.gates) && b) (live_still c d same (owner c p))

behind_closes : (r : List Entry) (ps : List ℕ) → AreLivePorts (config_of r) ps → SameLinks (config_of r) (config_of (r ++ closes ps))
behind_closes r ps h =
    subst (SameLinks (config_of r)) (sym (config_over r (closes ps) ∙ ap (change_all (config_of r)) (closes_events ps)))
    (closed_links (config_of r) (config_of r) ps h (same_here (config_of r)))

pub live_behind : (r : List Entry) (ps : List ℕ) (q : ℕ) → AreLivePorts (config_of r) ps → is_live_port (config_of r) q ≡ true → is_live_port (config_of (r ++ closes ps)) q ≡ true
live_behind r ps q h l = live_same (config_of r) (config_of (r ++ closes ps)) q (behind_closes r ps h) ∙ l

pub made_behind : (r : List Entry) (ps : List ℕ) → AreLivePorts (config_of r) ps → AreMadePorts (config_of (r ++ closes ps)) ps
made_behind r ps h k d lt = (live_port (config_of (r ++ closes ps)) (get_or ps k d) (live_behind r ps (get_or ps k d) h (h k d lt))).made

-- what looks see
pub looks_quiet : (found : List Found) → events_in (map look_entry found) ≡ []
looks_quiet [] = refl
looks_quiet (f ∷ found) = looks_quiet found

sights_quiet : (ss : List Sight) (es : List Entry) → events_in (map sight_entry ss ++ es) ≡ events_in es
sights_quiet [] es = refl
sights_quiet (s ∷ ss) es = sights_quiet ss es

pub scan_quiet : (b m : Bool) (ss : List Sight) (found : List Found) → events_in (scan_entries b m ss found) ≡ []
scan_quiet b m ss found = sights_quiet ss (map look_entry found) ∙ looks_quiet found

pub roots_cons : (f : Found) (found : List Found) → roots_of (f ∷ found) ≡ cond (is_busy f) (root_of f ∷ roots_of found) (roots_of found)
roots_cons f found = by (is_busy f)
  where
    by : (b : Bool) → map root_of (cond b (f ∷ filter is_busy found) (filter is_busy found)) ≡ cond b (root_of f ∷ roots_of found) (roots_of found)
    by true = refl
    by false = refl

made_next : (c : Configuration) (f : Found) (b : Bool) (left : List LeftRoot) → f.port < length c.gates → AreMadePorts c (root_ports left) → AreMadePorts c (root_ports (cond b (root_of f ∷ left) left))
made_next c f true left h rest = All-cons (λ p. p < length c.gates) f.port (root_ports left) h rest
made_next c f false left h rest = rest

pub roots_made : (c : Configuration) (found : List Found) → AreMadePorts c (ports_of found) → AreMadePorts c (root_ports (roots_of found))
roots_made c [] h = h
roots_made c (f ∷ found) h =
    subst (λ left. AreMadePorts c (root_ports left)) (sym (roots_cons f found))
    (made_next c f (is_busy f) (roots_of found) (All-head (λ p. p < length c.gates) f.port (ports_of found) h)
    (roots_made c found (All-tail (λ p. p < length c.gates) f.port (ports_of found) h)))

pub roots_push : (found : List Found) (f : Found) → roots_of (found ++ f ∷ []) ≡ roots_of found ++ roots_of (f ∷ [])
roots_push [] f = refl
roots_push (x ∷ found) f =
    roots_cons x (found ++ f ∷ []) ∙ ap (λ left. cond (is_busy x) (root_of x ∷ left) left) (roots_push found f) ∙ by (is_busy x)
    ∙ sym (ap (λ left. left ++ roots_of (f ∷ [])) (roots_cons x found))
  where
    by : (b : Bool) → cond b (root_of x ∷ (roots_of found ++ roots_of (f ∷ []))) (roots_of found ++ roots_of (f ∷ [])) ≡ cond b (root_of x ∷ roots_of found) (roots_of found) ++ roots_of (f ∷ [])
    by true = refl
    by false = refl

-- what a look answers tells what its word says
pub roots_told : (p w : ℕ) → roots_by p (look_of w) ≡ roots_of (record { port = p; word = w } ∷ [])
roots_told p w = by (is_drained_word w)
  where
    by : (b : Bool) → roots_by p (cond b (Drained (serial_of w) (is_idle_word w)) (Busy w)) ≡ map root_of (cond (not b) (record { port = p; word = w } ∷ []) [])
    by true = refl
    by false = refl

pub lines_told : (p w : ℕ) → lines_by p (look_of w) ≡ lines (item_at p w ∷ [])
lines_told p w = by (is_drained_word w)
  where
    by : (b : Bool) → lines_by p (cond b (Drained (serial_of w) (is_idle_word w)) (Busy w)) ≡ lines (cond b (told (Looked p w) (to.Drained p (serial_of w))) (silent (Looked p w)) ∷ [])
    by true = refl
    by false = refl

-- the transcripts of looks, closes and scans
pub close_entries : (ps : List ℕ) → entries (map close_item ps) ≡ closes ps
close_entries [] = refl
close_entries (p ∷ ps) = ap (λ es. Did (event.Close p) ∷ es) (close_entries ps)

-- one port more
pub closes_more : (ps : List ℕ) (i : ℕ) → i < length ps → closes (take (i + 1) ps) ≡ closes (take i ps) ++ Did (event.Close (get_or ps i 0)) ∷ []
closes_more ps i h = ap closes (take_more ps i 0 h) ∙ map-append (λ p. Did (event.Close p)) (take i ps) (get_or ps i 0 ∷ [])

pub close_lines_more : (ps : List ℕ) (i : ℕ) → i < length ps → map to.Close (take (i + 1) ps) ≡ map to.Close (take i ps) ++ to.Close (get_or ps i 0) ∷ []
close_lines_more ps i h = ap (map to.Close) (take_more ps i 0 h) ∙ map-append to.Close (take i ps) (get_or ps i 0 ∷ [])

pub ports_push : (found : List Found) (f : Found) (ps : List ℕ) (i : ℕ) → i < length ps → ports_of found ≡ take i ps → f.port ≡ get_or ps i 0 → ports_of (found ++ f ∷ []) ≡ take (i + 1) ps
ports_push found f ps i h e same =
    map-append (λ (f : Found). f.port) found (f ∷ []) ∙ ap (λ qs. qs ++ f.port ∷ []) e ∙ ap (λ p. take i ps ++ p ∷ []) same ∙ sym (take_more ps i 0 h)

pub items_more : (ps : List ℕ) (first : List Found) (rounds : List WaitingRound) (w : WaitingRound)
    → passivation_items ps (record { first = first; rounds = rounds ++ w ∷ [] }) ≡ passivation_items ps (record { first = first; rounds = rounds }) ++ round_items w
items_more ps first rounds w =
    let some = flat_map round_items rounds in
    let more_ : flat_map round_items (rounds ++ w ∷ []) ≡ some ++ round_items w =
    flat_map-append round_items rounds (w ∷ []) ∙ ap (λ ts. some ++ ts) (append-nil (round_items w)) in
    ap (λ ts. map close_item ps ++ map look_item first ++ ts) more_
    ∙ sym (append_assoc (map close_item ps ++ map look_item first) some (round_items w))

pub round_entries : (w : WaitingRound) → entries (round_items w) ≡ scan_entries false w.moved w.sights w.scan ++ map look_entry w.found
round_entries w =
    let scan = scan_entries false w.moved w.sights w.scan in
    entries_both (silent_items scan) (map look_item w.found) ∙ ap (λ es. es ++ entries (map look_item w.found)) (silent_entries scan)
    ∙ ap (λ es. scan ++ es) (look_entries w.found)

pub round_quiet : (w : WaitingRound) → events_in (entries (round_items w)) ≡ []
round_quiet w =
    let scan = scan_entries false w.moved w.sights w.scan in
    ap events_in (round_entries w) ∙ filter_map-append event_in scan (map look_entry w.found)
    ∙ ap (λ es. es ++ events_in (map look_entry w.found)) (scan_quiet false w.moved w.sights w.scan) ∙ looks_quiet w.found

module _ {B : Type 0} (W : BoardWords B) where
  pub grew_look : (a b c : B) (h i j : List HistoryLine) (found : List Found) (f : Found) → Grew W (telling a h) (telling b i) (map look_item found) → Adds W.stands_for b c (look_entry f ∷ [])
      → j ≡ i ++ lines (look_item f ∷ []) → Grew W (telling a h) (telling c j) (map look_item (found ++ f ∷ []))
  grew_look a b c h i j found f x y e =
      subst (λ t. Grew W (telling a h) (telling c j) t) (sym (map-append look_item found (f ∷ [])))
      (grew_both W a b c h i j (map look_item found) (look_item f ∷ []) x
      (record { adds = subst (λ es. Adds W.stands_for b c es) (sym (look_entries (f ∷ []))) y; adds_lines = e }))

  grew_closes : (a b : B) (h i : List HistoryLine) (ps : List ℕ) → Adds W.stands_for a b (closes ps) → i ≡ h ++ map to.Close ps → Grew W (telling a h) (telling b i) (map close_item ps)
  grew_closes a b h i ps x e = record {
    adds = subst (λ es. Adds W.stands_for a b es) (sym (close_entries ps)) x;
    adds_lines = e ∙ ap (λ ls. h ++ ls) (sym (close_lines ps));
  }

  grew_silent : (a b : B) (h : List HistoryLine) (es : List Entry) → Adds W.stands_for a b es → Grew W (telling a h) (telling b h) (silent_items es)
  grew_silent a b h es x = record {
    adds = subst (λ zs. Adds W.stands_for a b zs) (sym (silent_entries es)) x;
    adds_lines = sym (append-nil h) ∙ ap (λ ls. h ++ ls) (sym (silent_lines es));
  }

  pub begun : (a b c : B) (h i j : List HistoryLine) (ps : List ℕ) (left : List LeftRoot) → Adds W.stands_for a b (closes ps) → i ≡ h ++ map to.Close ps → (w : Passed W (telling b i) (telling c j) ps left)
      → Grew W (telling a h) (telling c j) (passivation_items ps (record { first = w.found; rounds = [] }))
  begun a b c h i j ps left x e w =
      subst (λ t. Grew W (telling a h) (telling c j) t) (sym (append-nil (map close_item ps ++ map look_item w.found)))
      (grew_both W a b c h i j (map close_item ps) (map look_item w.found) (grew_closes a b h i ps x e) w.grew)

  pub rounded : (b c d : B) (i j : List HistoryLine) (left next : List LeftRoot) (s : Scan) → AddsScan W.stands_for W.alone b c false s → Passed W (telling c i) (telling d j) (root_ports left) next → Rounded W (telling b i) (telling d j) left next
  rounded b c d i j left next s x y =
      let scan = scan_entries false s.moved x.sights x.found in
      record {
        round = record { moved = s.moved; sights = x.sights; scan = x.found; found = y.found };
        at_left = y.at_ports;
        next_is = y.left_is;
        grew = grew_both W b c d i i j (silent_items scan) (map look_item y.found) (grew_silent b c i scan x.adds) y.grew;
      }

  pub went_on : (a b d : B) (h i j : List HistoryLine) (ps : List ℕ) (first : List Found) (rounds : List WaitingRound) (w : WaitingRound)
      → Grew W (telling a h) (telling b i) (passivation_items ps (record { first = first; rounds = rounds })) → Grew W (telling b i) (telling d j) (round_items w)
      → Grew W (telling a h) (telling d j) (passivation_items ps (record { first = first; rounds = rounds ++ w ∷ [] }))
  went_on a b d h i j ps first rounds w g x =
      subst (λ t. Grew W (telling a h) (telling d j) t) (sym (items_more ps first rounds w))
      (grew_both W a b d h i j (passivation_items ps (record { first = first; rounds = rounds })) (round_items w) g x)

  -- ports made are made still behind a pass of looks, and so are those that are left
  pub made_still : (a b : B) (h i : List HistoryLine) (ps : List ℕ) (left : List LeftRoot) (r : List Entry) → W.stands_for a r → AreMadePorts (config_of r) ps → Passed W (telling a h) (telling b i) ps left
      → (q : List Entry) × W.stands_for b q × AreMadePorts (config_of q) (root_ports left)
  made_still a b h i ps left r s m w = (
    r ++ entries (map look_item w.found),
    w.grew.adds r s,
    subst (λ c. AreMadePorts c (root_ports left)) (sym (config_quiet r (entries (map look_item w.found)) (ap events_in (look_entries w.found) ∙ looks_quiet w.found)))
        (subst (λ zs. AreMadePorts (config_of r) (root_ports zs)) (sym w.left_is) (roots_made (config_of r) w.found (subst (AreMadePorts (config_of r)) (sym w.at_ports) m))),
  )

  pub made_scanned : (a b : B) (ps : List ℕ) (s : Scan) (r : List Entry) → W.stands_for a r → AreMadePorts (config_of r) ps → AddsScan W.stands_for W.alone a b false s → (q : List Entry) × W.stands_for b q × AreMadePorts (config_of q) ps
  made_scanned a b ps s r x m w =
      let es = scan_entries false s.moved w.sights w.found in
      (r ++ es, w.adds r x, subst (λ c. AreMadePorts c ps) (sym (config_quiet r es (scan_quiet false s.moved w.sights w.found))) m)

  -- so it is behind a round
  pub made_on : (a b : B) (h i : List HistoryLine) (left next : List LeftRoot) (r : List Entry) → W.stands_for a r → AreMadePorts (config_of r) (root_ports left) → Rounded W (telling a h) (telling b i) left next
      → (q : List Entry) × W.stands_for b q × AreMadePorts (config_of q) (root_ports next)
  made_on a b h i left next r s m w =
      let es = entries (round_items w.round) in (
        r ++ es,
        w.grew.adds r s,
        subst (λ c. AreMadePorts c (root_ports next)) (sym (config_quiet r es (round_quiet w.round)))
            (subst (λ zs. AreMadePorts (config_of r) (root_ports zs)) (sym w.next_is) (roots_made (config_of r) w.round.found (subst (AreMadePorts (config_of r)) (sym w.at_left) m))),
      )

pub passivation_more : (ps : List ℕ) (left : List LeftRoot) (k : ℕ) (first : List Found) (rounds : List WaitingRound) (w : WaitingRound) → IsPassivation ps k (record { first = first; rounds = rounds }) → length rounds ≡ k
    → left ≡ left_after first rounds → (left ≡ [] → ⊥) → ports_of w.found ≡ root_ports left → IsPassivation ps (k + 1) (record { first = first; rounds = rounds ++ w ∷ [] })
passivation_more ps left k first rounds w p all e some at_ = record {
  at_ports = p.at_ports;
  each_round = (each_pushed (IsRound first) rounds w).1 (p.each_round, record { some_left = λ none_. some (e ∙ none_); at_left = at_ ∙ ap root_ports e });
  few = simp length-append (omega arith);
}
