-- What a passivation found is noted.
use Rattle.std.proofs.Common.{◌≡◌, ℕ, Bool, true, false, cond, not, List, [], ◌∷◌, ◌++◌, append_assoc, map, refl, sym, ap, ◌∙◌, subst, inl, inr, ⊎_elim}
use Rattle.std.specs.Prelude.{◌⊎◌, ◌&&◌, ◌||◌, flat_map, fold}
use Rattle.std.proofs.Math.Bool.{or-true}
use Rattle.std.proofs.lemmas.Bool.{cases_Bool, eq-eqb, or_right}
use Rattle.std.proofs.lemmas.List.Concat.{flat_map-cons}
use Rattle.std.proofs.lemmas.List.Sums.{fold-append}
use Rattle.base.specs.Each.{EachAfter}
use Rattle.quiesce_laws.specs.Lists.{In}
use Rattle.txn_records.specs.declared.entry.Entry.{Entry}
use Rattle.txn_records.specs.Looks.{is_drained_word}
use Rattle.txn_records.specs.Notes.{found_next, is_found_drained, is_never_reopened, is_noted}
use Rattle.change_board.specs.Scans.{Found, look_entry, ports_of, scan_entries}
use Rattle.change_board.specs.Sights.{Sight, sight_entry}
use Rattle.change_board.specs.Transcripts.{entries}
use Rattle.change_engine.specs.Passivating.{IsPassivation, IsRound, Passivation, WaitingRound, close_item, is_busy, left_after, look_item, passivation_items, root_of, root_ports, roots_of, round_items}
use Rattle.change_engine.specs.declared.passivating.LeftRoot.{LeftRoot}
use Rattle.change_engine.proofs.Passing.{roots_cons, round_entries}
use Rattle.change_engine.proofs.ItemLaws.{entries_both, look_entries}
use Rattle.change_engine.proofs.PassivationLaws.{left_more}

module _ (p : ℕ) where
  -- whether the port counts as found drained behind entries
  abbrev after : Bool → List Entry → Bool
  after b es = fold (found_next p) b es

  looks_keep : (found : List Found) → after true (map look_entry found) ≡ true
  looks_keep [] = refl
  looks_keep (f ∷ found) = looks_keep found

  sights_keep : (ss : List Sight) → after true (map sight_entry ss) ≡ true
  sights_keep [] = refl
  sights_keep (s ∷ ss) = sights_keep ss

  scan_keeps : (begins moved : Bool) (ss : List Sight) (found : List Found) → after true (scan_entries begins moved ss found) ≡ true
  scan_keeps begins moved ss found =
      fold-append (found_next p) true (map sight_entry ss) (map look_entry found) ∙ ap (λ b. after b (map look_entry found)) (sights_keep ss) ∙ looks_keep found

  -- the port was found drained, or a root is left there
  abbrev Found_ : Bool → List LeftRoot → Type 0
  Found_ b left = (b ≡ true) ⊎ In (root_ports left) p

  more_left : (f : Found) (found : List Found) (b : Bool) → Found_ b (roots_of found) → Found_ b (roots_of (f ∷ found))
  more_left f found b h = subst (Found_ b) (sym (roots_cons f found)) (by (is_busy f) h)
    where
      by : (t : Bool) → Found_ b (roots_of found) → Found_ b (cond t (root_of f ∷ roots_of found) (roots_of found))
      by true h = ⊎_elim (λ e. inl e) (λ i. inr (inr i)) h
      by false h = h

  -- a look at the port
  seen_here : (f : Found) (found : List Found) (b : Bool) → f.port ≡ p → Found_ (after b (map look_entry (f ∷ found))) (roots_of (f ∷ found))
  seen_here f found b same = ⊎_elim
      (λ (drained : is_drained_word f.word ≡ true).
      inl (ap (λ t. after (b || t) (map look_entry found)) (ap (λ t. t && is_drained_word f.word) (eq-eqb f.port p same) ∙ drained)
      ∙ ap (λ t. after t (map look_entry found)) (or-true b) ∙ looks_keep found))
      (λ (busy : is_drained_word f.word ≡ false).
      inr (subst (λ left. In (root_ports left) p) (sym (roots_cons f found ∙ ap (λ t. cond (not t) (root_of f ∷ roots_of found) (roots_of found)) busy)) (inl same)))
      (cases_Bool (is_drained_word f.word))

  looks_find : (found : List Found) (b : Bool) → In (ports_of found) p → Found_ (after b (map look_entry found)) (roots_of found)
  looks_find [] b h = absurd h
  looks_find (f ∷ found) b h = ⊎_elim
      (λ (same : f.port ≡ p). seen_here f found b same)
      (λ (rest : In (ports_of found) p). more_left f found (after b (map look_entry (f ∷ found))) (looks_find found (found_next p b (look_entry f)) rest))
      h

  round_finds : (left : List LeftRoot) (w : WaitingRound) (b : Bool) → ports_of w.found ≡ root_ports left → Found_ b left → Found_ (after b (entries (round_items w))) (roots_of w.found)
  round_finds left w b at_ h =
      let scan = scan_entries false w.moved w.sights w.scan in
      let parts : after b (entries (round_items w)) ≡ after (after b scan) (map look_entry w.found) =
      ap (after b) (round_entries w) ∙ fold-append (found_next p) b scan (map look_entry w.found) in
      subst (λ t. Found_ t (roots_of w.found)) (sym parts) (⊎_elim
      (λ (e : b ≡ true). inl (ap (λ t. after (after t scan) (map look_entry w.found)) e ∙ ap (λ t. after t (map look_entry w.found)) (scan_keeps false w.moved w.sights w.scan) ∙ looks_keep w.found))
      (λ (i : In (root_ports left) p). looks_find w.found (after b scan) (subst (λ ps. In ps p) (sym at_) i))
      h)

  rounds_find : (first : List Found) (before rounds : List WaitingRound) (b : Bool) → EachAfter (IsRound first) before rounds → Found_ b (left_after first before)
      → Found_ (after b (entries (flat_map round_items rounds))) (left_after first (before ++ rounds))
  rounds_find first before [] b each h = subst (λ ws. Found_ b (left_after first ws)) (nothing before) h
    where
      nothing : (ws : List WaitingRound) → ws ≡ ws ++ []
      nothing [] = refl
      nothing (w ∷ ws) = ap (λ vs. w ∷ vs) (nothing ws)
  rounds_find first before (w ∷ rounds) b each h =
      let parts : after b (entries (flat_map round_items (w ∷ rounds))) ≡ after (after b (entries (round_items w))) (entries (flat_map round_items rounds)) =
      ap (λ t. after b (entries t)) (flat_map-cons round_items w rounds) ∙ ap (after b) (entries_both (round_items w) (flat_map round_items rounds))
      ∙ fold-append (found_next p) b (entries (round_items w)) (entries (flat_map round_items rounds)) in
      let next = round_finds (left_after first before) w b each.0.at_left h in
      subst (λ t. Found_ t (left_after first (before ++ w ∷ rounds))) (sym parts)
      (subst (λ ws. Found_ (after (after b (entries (round_items w))) (entries (flat_map round_items rounds))) (left_after first ws)) (append_assoc before (w ∷ []) rounds)
      (rounds_find first (before ++ w ∷ []) rounds (after b (entries (round_items w))) each.1
      (subst (Found_ (after b (entries (round_items w)))) (sym (left_more first before w)) next)))

  none_left : (b : Bool) (left : List LeftRoot) → left ≡ [] → Found_ b left → b ≡ true
  none_left b left e h = ⊎_elim (λ (t : b ≡ true). t) (λ (i : In (root_ports left) p). absurd (subst (λ zs. In (root_ports zs) p) e i)) h

pub passivated_noted : (r : List Entry) (ports : List ℕ) (rounds p : ℕ) (how : Passivation) → IsPassivation ports rounds how → left_after how.first how.rounds ≡ [] → In ports p
    → is_noted (r ++ entries (passivation_items ports how)) p ≡ true
passivated_noted r ports rounds p how is none_ i =
    let shut = entries (map close_item ports) in
    let first = entries (map look_item how.first) in
    let rest = entries (flat_map round_items how.rounds) in
    let b = fold (found_next p) (is_found_drained r p) shut in
    let parts : is_found_drained (r ++ entries (passivation_items ports how)) p ≡ fold (found_next p) (fold (found_next p) b first) rest =
    fold-append (found_next p) false r (entries (passivation_items ports how))
    ∙ ap (fold (found_next p) (is_found_drained r p)) (entries_both (map close_item ports ++ map look_item how.first) (flat_map round_items how.rounds) ∙ ap (λ es. es ++ rest) (entries_both (map close_item ports) (map look_item how.first)))
    ∙ fold-append (found_next p) (is_found_drained r p) (shut ++ first) rest
    ∙ ap (λ t. fold (found_next p) t rest) (fold-append (found_next p) (is_found_drained r p) shut first) in
    let looked_ = subst (λ es. Found_ p (fold (found_next p) b es) (roots_of how.first)) (sym (look_entries how.first)) (looks_find p how.first b (subst (λ ps. In ps p) (sym is.at_ports) i)) in
    let all = rounds_find p how.first [] how.rounds (fold (found_next p) b first) is.each_round looked_ in
    or_right (is_never_reopened (r ++ entries (passivation_items ports how)) p) (is_found_drained (r ++ entries (passivation_items ports how)) p)
    (parts ∙ none_left p (fold (found_next p) (fold (found_next p) b first) rest) (left_after how.first how.rounds) none_ all)
