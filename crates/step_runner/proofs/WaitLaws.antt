-- How a change and a stop wait: what their looks find, round after round, is what looks at the world find.
use Rattle.std.proofs.Common.{◌≡◌, ◌∙◌, ℕ, ◌<◌, suc, Bool, true, false, not, cond, List, [], ◌∷◌, ◌++◌, append_assoc, length, map, refl, sym, ap, subst, ⊎_elim, arith}
use Rattle.std.specs.Prelude.{⊤, ◌==◌, filter, flat_map}
use Rattle.std.proofs.lemmas.Bool.{cases_eq}
use Rattle.std.proofs.lemmas.List.{append-nil, length-append, map-append}
use Rattle.base.specs.Each.{EachAfter}
use Rattle.base.proofs.NumberLaws.{not_zero}
use Rattle.change_board.specs.Scans.{Found, look_entry, ports_of, scan_entries}
use Rattle.change_board.specs.Transcripts.{entries}
use Rattle.change_engine.specs.Passivating.{IsPassivation, IsRound, Passivation, WaitingRound, close_item, is_busy, left_after, look_item, passivation_items, root_of, root_ports, roots_of, round_items, silent_items}
use Rattle.change_engine.specs.declared.passivating.LeftRoot.{LeftRoot}
use Rattle.change_spec.specs.Scene.{Seen}
use Rattle.change_spec.specs.Serial.{after_changes, is_none_left, looks_after, seen_at}
use Rattle.change_spec.proofs.SerialLaws.{ports_seen}
use Rattle.quiesce_word.specs.Words as words
use Rattle.quiesce_word.specs.declared.word.Word.{Word}
use Rattle.quiesce_core.proofs.RunLaws.{runs_are_well_formed}
use Rattle.quiesce_core.proofs.WordLaws.{port_words_decode}
use Rattle.quiesce_core.specs.Fields.{fields_of}
use Rattle.quiesce_core.specs.WellFormed.{IsWellFormed}
use Rattle.quiesce_core.specs.Words.{word_of}
use Rattle.quiesce_core.specs.declared.event.Event.TheVariants as event
use Rattle.quiesce_laws.specs.Drained.{is_drained}
use Rattle.step_board.specs.RunFacts.{machine_is, reached_runs, round_goes_on}
use Rattle.node_turn_laws.specs.Reached.{IsReached}
use Rattle.node_turn_laws.specs.Round.{after_rounds}
use Rattle.node_turn_laws.specs.World.{World}
use Rattle.step_runner.proofs.WorldLaws.{AreSo, play_both, play_closes, play_items, play_looks, play_scan, reach_all, so_items}
use Rattle.change_engine.proofs.PassivationLaws.{is_found, found_seen, drained_in, left_more, seen_root, drained_by}
use Rattle.change_engine.proofs.ItemLaws.{look_entries}

-- ---- what looks find

abbrev pub seen_with : ℕ → ℕ → Seen
seen_with p k = record { port = p; serial = k }

-- the looks loaded the words that ports have in a world
abbrev pub AreTrue : World → List Found → Type 0
AreTrue w [] = ⊤
AreTrue w (f ∷ fs) = (f.word ≡ word_of w.machine f.port) × AreTrue w fs

pub true_entries : (w : World) (fs : List Found) → AreSo w (map look_entry fs) → AreTrue w fs
true_entries w [] h = tt
true_entries w (f ∷ fs) h = (h.0, true_entries w fs h.1)

true_looks : (w : World) (fs : List Found) → AreSo w (entries (map look_item fs)) → AreTrue w fs
true_looks w fs h = true_entries w fs (subst (AreSo w) (look_entries fs) h)

module _ (w : World) (r : IsReached w) where
  formed : IsWellFormed w.machine
  formed = subst IsWellFormed (sym (machine_is w r)) (runs_are_well_formed w.events (reached_runs w r))

  pub fields_seen : (f : Found) → f.word ≡ word_of w.machine f.port → words.unpack f.word ≡ fields_of w.machine f.port
  fields_seen f so = ap words.unpack so ∙ port_words_decode w.machine formed f.port

  drained_same : (f : Found) → f.word ≡ word_of w.machine f.port → is_found f ≡ is_drained w.machine f.port
  drained_same f so = ap words.is_drained (fields_seen f so)

  seen_same : (f : Found) → f.word ≡ word_of w.machine f.port → found_seen f ≡ seen_at w f.port
  seen_same f so = ap (λ (x : Word). seen_with f.port x.serial) (fields_seen f so)

  both_seen : (f : Found) (fs : List Found) (ps : List ℕ) (b : Bool) → found_seen f ≡ seen_at w f.port → map found_seen fs ≡ map (seen_at w) ps
      → map found_seen (cond b (f ∷ fs) fs) ≡ map (seen_at w) (cond b (f.port ∷ ps) ps)
  both_seen f fs ps true here rest = λ i. here i ∷ rest i
  both_seen f fs ps false here rest = rest

  pub drained_are : (fs : List Found) → AreTrue w fs → drained_in fs ≡ map (seen_at w) (filter (is_drained w.machine) (ports_of fs))
  drained_are [] h = refl
  drained_are (f ∷ fs) h =
      let ps = filter (is_drained w.machine) (ports_of fs) in
      both_seen f (filter is_found fs) ps (is_found f) (seen_same f h.0) (drained_are fs h.1)
      ∙ ap (λ b. map (seen_at w) (cond b (f.port ∷ ps) ps)) (drained_same f h.0)

  both_left : (f : Found) (fs : List Found) (ps : List ℕ) (b : Bool) → found_seen f ≡ seen_at w f.port → map seen_root (map root_of fs) ≡ map (seen_at w) ps
      → map seen_root (map root_of (cond b (f ∷ fs) fs)) ≡ map (seen_at w) (cond b (f.port ∷ ps) ps)
  both_left f fs ps true here rest = λ i. here i ∷ rest i
  both_left f fs ps false here rest = rest

  pub left_are : (fs : List Found) → AreTrue w fs → map seen_root (roots_of fs) ≡ map (seen_at w) (filter (λ p. not (is_drained w.machine p)) (ports_of fs))
  left_are [] h = refl
  left_are (f ∷ fs) h =
      let ps = filter (λ p. not (is_drained w.machine p)) (ports_of fs) in
      both_left f (filter is_busy fs) ps (is_busy f) (seen_same f h.0) (left_are fs h.1)
      ∙ ap (λ b. map (seen_at w) (cond (not b) (f.port ∷ ps) ps)) (drained_same f h.0)

-- ---- round after round

ports_of_roots : (xs : List LeftRoot) → root_ports xs ≡ map (λ (d : Seen). d.port) (map seen_root xs)
ports_of_roots [] = refl
ports_of_roots (x ∷ xs) = ap (λ ps. x.port ∷ ps) (ports_of_roots xs)

pub some_there : (xs : List LeftRoot) → (xs ≡ [] → ⊥) → (length (root_ports xs) == 0) ≡ false
some_there [] h = absurd (h refl)
some_there (x ∷ xs) h = not_zero (length (root_ports xs))

-- so many rounds after this world
pub record Waits (v : World) (ports : List ℕ) (first : List Found) (b : List WaitingRound) (j : ℕ) : Type 0 where
  pub long : length b ≡ j
  pub seen : drained_in first ∷ map drained_by b ≡ (looks_after v ports j).seen
  pub left : map seen_root (left_after first b) ≡ map (seen_at (after_rounds false v j)) (looks_after v ports j).left
  pub before : (i : ℕ) → i < j → is_none_left v ports i ≡ false

module _ (v : World) (ports : List ℕ) (first : List Found) where
  abbrev world : ℕ → World
  world j = after_rounds false v j

  waits_first : IsReached v → AreTrue v first → ports_of first ≡ ports → Waits v ports first [] 0
  waits_first r h at = record {
    long = refl;
    seen = ap (λ ds. ds ∷ []) (drained_are v r first h ∙ ap (λ ps. map (seen_at v) (filter (is_drained v.machine) ps)) at);
    left = left_are v r first h ∙ ap (λ ps. map (seen_at v) (filter (λ p. not (is_drained v.machine p)) ps)) at;
    before = λ i low. absurd (omega (arith, low));
  }

  pub left_ports : (b : List WaitingRound) (j : ℕ) → Waits v ports first b j → root_ports (left_after first b) ≡ (looks_after v ports j).left
  left_ports b j h =
      ports_of_roots (left_after first b) ∙ ap (map (λ (d : Seen). d.port)) h.left ∙ ports_seen (world j) (looks_after v ports j).left

  waits_next : (b : List WaitingRound) (j : ℕ) (w : WaitingRound) → Waits v ports first b j → IsRound first b w → IsReached (world (suc j))
      → AreTrue (world (suc j)) w.found → Waits v ports first (b ++ w ∷ []) (suc j)
  waits_next b j w h is r so =
      let u = world (suc j) in
      let l = looks_after v ports j in
      let at : ports_of w.found ≡ l.left = is.at_left ∙ left_ports b j h in
      let none : is_none_left v ports j ≡ false = ap (λ (ps : List ℕ). length ps == 0) (sym (left_ports b j h)) ∙ some_there (left_after first b) is.some_left in
      record {
        long = length-append b (w ∷ []) ∙ (let long = h.long in omega (arith, long));
        seen = ap (λ ds. drained_in first ∷ ds) (map-append drained_by b (w ∷ [])) ∙ ap (λ ds. ds ++ drained_by w ∷ []) h.seen
            ∙ ap (λ ds. l.seen ++ ds ∷ []) (drained_are u r w.found so ∙ ap (λ ps. map (seen_at u) (filter (is_drained u.machine) ps)) at);
        left = ap (map seen_root) (left_more first b w) ∙ left_are u r w.found so
            ∙ ap (λ ps. map (seen_at u) (filter (λ p. not (is_drained u.machine p)) ps)) at;
        before = λ i low. ⊎_elim
            (λ (same : i ≡ j). subst (λ k. is_none_left v ports k ≡ false) (sym same) none)
            (λ (other : i ≡ j → ⊥). h.before i (omega (arith, low, other)))
            (cases_eq i j);
      }

  play_round : (j : ℕ) (w : WaitingRound) → play_items (world j) (round_items w) ≡ world (suc j)
  play_round j w =
      play_both (world j) (silent_items (scan_entries false w.moved w.sights w.scan)) (map look_item w.found)
      ∙ ap (λ u. play_items u (map look_item w.found)) (play_scan (world j) false w.moved w.sights w.scan)
      ∙ play_looks (world (suc j)) w.found

  true_round : (j : ℕ) (w : WaitingRound) → AreSo (world j) (entries (round_items w)) → AreTrue (world (suc j)) w.found
  true_round j w h =
      let scan = silent_items (scan_entries false w.moved w.sights w.scan) in
      true_looks (world (suc j)) w.found
      (subst (λ u. AreSo u (entries (map look_item w.found))) (play_scan (world j) false w.moved w.sights w.scan)
      (so_items (world j) scan (map look_item w.found) h).1)

  -- all rounds of a wait
  pub record Waited (b ws : List WaitingRound) (j : ℕ) : Type 0 where
    pub number : ℕ
    pub waits : Waits v ports first (b ++ ws) number
    pub reached : IsReached (world number)
    pub played : play_items (world j) (flat_map round_items ws) ≡ world number

  waits_on : (b ws : List WaitingRound) (j : ℕ) → Waits v ports first b j → EachAfter (IsRound first) b ws → IsReached (world j)
      → AreSo (world j) (entries (flat_map round_items ws)) → Waited b ws j
  waits_on b [] j h each r so = record {
    number = j;
    waits = subst (λ bs. Waits v ports first bs j) (sym (append-nil b)) h;
    reached = r;
    played = refl;
  }
  waits_on b (w ∷ ws) j h each r so =
      let later = flat_map round_items ws in
      let here = so_items (world j) (round_items w) later so in
      let reached = (round_goes_on (world j) false r).reached in
      let next = waits_next b j w h each.0 reached (true_round j w here.0) in
      let rest = waits_on (b ++ w ∷ []) ws (suc j) next each.1 reached (subst (λ u. AreSo u (entries later)) (play_round j w) here.1) in
      record {
        number = rest.number;
        waits = subst (λ bs. Waits v ports first bs rest.number) (append_assoc b (w ∷ []) ws) rest.waits;
        reached = rest.reached;
        played = play_both (world j) (round_items w) later ∙ ap (λ u. play_items u later) (play_round j w) ∙ rest.played;
      }

-- ---- passivations

pub record Passed (w : World) (closed : List ℕ) (how : Passivation) : Type 0 where
  pub number : ℕ
  pub waits : Waits (after_changes w (map event.Close closed)) closed how.first how.rounds number
  pub reached : IsReached (after_rounds false (after_changes w (map event.Close closed)) number)
  pub played : play_items w (passivation_items closed how) ≡ after_rounds false (after_changes w (map event.Close closed)) number

pub passes : (w : World) (closed : List ℕ) (within : ℕ) (how : Passivation) → IsReached w → AreSo w (entries (passivation_items closed how))
    → IsPassivation closed within how → Passed w closed how
passes w closed within how r so is =
    let shut = map close_item closed in
    let first = map look_item how.first in
    let rounds = flat_map round_items how.rounds in
    let v = after_changes w (map event.Close closed) in
    let parts = so_items w (shut ++ first) rounds so in
    let front = so_items w shut first parts.0 in
    let shut_is = play_closes w closed in
    let reached : IsReached v = subst IsReached shut_is (reach_all w (entries shut) r front.0) in
    let looked = true_looks v how.first (subst (λ u. AreSo u (entries first)) shut_is front.1) in
    let there : play_items w (shut ++ first) ≡ v =
    play_both w shut first ∙ ap (λ u. play_items u first) shut_is ∙ play_looks v how.first in
    let rest = waits_on v closed how.first [] how.rounds 0 (waits_first v closed how.first reached looked is.at_ports) is.each_round reached
    (subst (λ u. AreSo u (entries rounds)) there parts.1) in
    record {
      number = rest.number;
      waits = rest.waits;
      reached = rest.reached;
      played = play_both w (shut ++ first) rounds ∙ ap (λ u. play_items u rounds) there ∙ rest.played;
    }
