-- What is seen at a port is forgotten by the event that replies to it, and leads to that event.
use Rattle.std.proofs.Common.{◌≡◌, ◌∙◌, ℕ, zero, suc, ◌+◌, ◌-◌, ◌<◌, Bool, true, false, cond, List, [], ◌∷◌, length, Option, Some, None, refl, sym, ap, subst, arith, get_or-set_same}
use Rattle.std.specs.Prelude.{slice_set, slice_index_or, ◌==◌, ◌&&◌, ◌||◌}
use Rattle.std.proofs.lemmas.Bool.{both_ways, eq-eqb}
use Rattle.quiesce_word.specs.Phases.{is_answered, is_asked, is_in_more}
use Rattle.quiesce_word.specs.Words.{unpack}
use Rattle.quiesce_word.specs.declared.phase.Phase.{Phase}
use Rattle.quiesce_word.specs.declared.phase.Phase.TheVariants as phase
use Rattle.quiesce_word.specs.declared.word.Word.{Word}
use Rattle.component_trait.specs.Fold.{after_event, awaits_at, calls_at, wants_at, where_so}
use Rattle.component_trait.specs.Moves as moves
use Rattle.component_trait.specs.States.{NodeState}
use Rattle.node_turn_laws.specs.Agreement.{expects}
use Rattle.quiesce_core.specs.Knowledge.{known_next, port_at_start, port_known_next, ports_known_next}
use Rattle.quiesce_core.specs.State.{State, exchange}
use Rattle.quiesce_core.specs.declared.event.Event.{Event}
use Rattle.quiesce_core.specs.declared.event.Event.TheVariants.{Ask, End}
use Rattle.quiesce_core.specs.declared.known.Known.{Known}
use Rattle.quiesce_core.specs.declared.known.PortKnown.{PortKnown}
use Rattle.quiesce_core.proofs.WordLaws.{port_words_decode}
use Rattle.node_gate.specs.Answers.{SeeSays}
use Rattle.node_gate.specs.Moves.{Does, events_of_ask, events_of_end, seen_by, with_seen}
use Rattle.node_gate.specs.Seats.{NodeAt, port_known, value_seen}
use Rattle.node_gate.specs.declared.answers.SeeAnswer.{SeeAnswer}
use Rattle.node_gate.specs.declared.answers.SeeAnswer.TheVariants.{Answer, More, NotYet}
use Rattle.node_host.specs.Told.{FitsToldState, reply_at}

set_next : (p r : ℕ) (xs : List PortKnown) (y : PortKnown) (e : Event) → r < length xs → port_known_next (p + r) y e ≡ port_known_next (p + r) (slice_index_or xs r port_at_start) e
    → ports_known_next p (slice_set xs r y) e ≡ ports_known_next p xs e
set_next p r [] y e short same = absurd (omega (arith, short))
set_next p zero (x ∷ xs) y e short same =
    let at : p + 0 ≡ p = omega arith in
    ap (λ z. z ∷ ports_known_next (p + 1) xs e) (subst (λ i. port_known_next i y e ≡ port_known_next i x e) at same)
set_next p (suc r) (x ∷ xs) y e short same =
    let at : p + suc r ≡ p + 1 + r = omega arith in
    ap (λ zs. port_known_next p x e ∷ zs)
    (set_next (p + 1) r xs y e (omega (arith, short)) (subst (λ i. port_known_next i y e ≡ port_known_next i (slice_index_or xs r port_at_start) e) at same))

pub index_is : (first r : ℕ) → first + r - first ≡ r
index_is first r = omega arith

-- an event at a port that forgets what was seen there
known_forgets : (n : NodeAt) (r : ℕ) (answer : SeeAnswer) (w : Known) (e : Event) → r < length w.ports
    → ((x : PortKnown) → port_known_next (n.first + r) (seen_by answer x) e ≡ port_known_next (n.first + r) x e)
    → known_next n.first (with_seen n (n.first + r) answer w) e ≡ known_next n.first w e
known_forgets n r answer w e short forgets =
    let i : ℕ = n.first + r - n.first in
    ap (λ xs. record { service = (known_next n.first w e).service; ports = xs })
    (set_next n.first i w.ports (seen_by answer (port_known n w (n.first + r))) e (omega (arith, short))
    (subst (λ j. port_known_next (n.first + j) (seen_by answer (port_known n w (n.first + r))) e ≡ port_known_next (n.first + j) (port_known n w (n.first + r)) e) (sym (index_is n.first r))
    (forgets (port_known n w (n.first + r)))))

end_forgets : (p k v : ℕ) (answer : SeeAnswer) (x : PortKnown) → port_known_next p (seen_by answer x) (End p k v) ≡ port_known_next p x (End p k v)
end_forgets p k v answer x = let same : (p == p) ≡ true = eq-eqb p p refl in rw same refl

ask_forgets : (p k v : ℕ) (answer : SeeAnswer) (x : PortKnown) → port_known_next p (seen_by answer x) (Ask p k v) ≡ port_known_next p x (Ask p k v)
ask_forgets p k v (Answer u) x = let same : (p == p) ≡ true = eq-eqb p p refl in rw same refl
ask_forgets p k v (More u) x = let same : (p == p) ≡ true = eq-eqb p p refl in rw same refl
ask_forgets p k v (NotYet u) x = refl

seen_at : (n : NodeAt) (r : ℕ) (answer : SeeAnswer) (w : Known) → r < length w.ports → port_known n (with_seen n (n.first + r) answer w) (n.first + r) ≡ seen_by answer (slice_index_or w.ports r port_at_start)
seen_at n r answer w short =
    get_or-set_same w.ports (n.first + r - n.first) (seen_by answer (port_known n w (n.first + r))) port_at_start (omega (arith, short))
    ∙ ap (λ i. seen_by answer (slice_index_or w.ports i port_at_start)) (index_is n.first r)

module _ {n n' : NodeAt} (r : ℕ) (answer : SeeAnswer) {w ws w' : Known} {told0 told told' : Option (List Event)} {s0 s s' : Option State}
    (node : n' ≡ n) (seen : ws ≡ with_seen n (n.first + r) answer w) (telling : told0 ≡ told) (states : s0 ≡ s) (short : r < length w.ports) where
  did : (events : NodeAt → Known → List Event) (e : Event) → events n (with_seen n (n.first + r) answer w) ≡ e ∷ []
      → ((x : PortKnown) → port_known_next (n.first + r) (seen_by answer x) e ≡ port_known_next (n.first + r) x e)
      → Does n' (events n' ws) ws w' told0 told' s0 s' → Does n (e ∷ []) w w' told told' s s'
  did events e is forgets d =
      let one = subst (λ m. Does m (events m ws) ws w' told0 told' s0 s') node d in
      let two = subst (λ x. Does n (events n x) x w' told0 told' s0 s') seen one in
      let three = subst (λ es. Does n es (with_seen n (n.first + r) answer w) w' told0 told' s0 s') is two in
      let four = subst (λ o. Does n (e ∷ []) (with_seen n (n.first + r) answer w) w' o told' s0 s') telling three in
      let five = subst (λ o. Does n (e ∷ []) (with_seen n (n.first + r) answer w) w' told told' o s') states four in
      record { knows = five.knows ∙ known_forgets n r answer w e short forgets; events = five.events; steps = five.steps }

  pub ended : (x : PortKnown) (v : ℕ) → x ≡ slice_index_or w.ports r port_at_start → answer ≡ Answer v → Does n' (events_of_end n' (n.first + r) ws) ws w' told0 told' s0 s'
      → Does n (End (n.first + r) x.serial v ∷ []) w w' told told' s s'
  ended x v at is =
      did (λ m k. events_of_end m (n.first + r) k) (End (n.first + r) x.serial v)
      (ap (λ (y : PortKnown). End (n.first + r) y.serial (value_seen y) ∷ []) (seen_at n r answer w short ∙ ap (λ a. seen_by a (slice_index_or w.ports r port_at_start)) is ∙ ap (seen_by (Answer v)) (sym at)))
      (end_forgets (n.first + r) x.serial v answer)

  pub asked : (x : PortKnown) (u v : ℕ) → x ≡ slice_index_or w.ports r port_at_start → answer ≡ More u → Does n' (events_of_ask n' (n.first + r) v ws) ws w' told0 told' s0 s'
      → Does n (Ask (n.first + r) x.serial v ∷ []) w w' told told' s s'
  asked x u v at is =
      did (λ m k. events_of_ask m (n.first + r) v k) (Ask (n.first + r) x.serial v)
      (ap (λ (y : PortKnown). Ask (n.first + r) y.serial v ∷ []) (seen_at n r answer w short ∙ ap (λ a. seen_by a (slice_index_or w.ports r port_at_start)) is ∙ ap (seen_by (More u)) (sym at)))
      (ask_forgets (n.first + r) x.serial v answer)

-- a reply to an intermediate reply is what the fold takes
pub ask_folds : (first p k v : ℕ) (t : NodeState) (c : Bool) → expects c first t p ≡ true → v ≡ moves.replies t → after_event first t (Ask p k v) ≡ Some t
ask_folds first p k v t c expected is =
    let awaited : awaits_at first t p ≡ true = by c (calls_at first t p) (wants_at first t p) expected in
    let value : (v == moves.replies t) ≡ true = eq-eqb v (moves.replies t) is in
    ap (λ b. where_so (b && v == moves.replies t) t) awaited ∙ ap (λ b. where_so b t) value
  where
    by : (c calls wants : Bool) → cond c calls wants ≡ true → (calls || wants) ≡ true
    by c true wants h = refl
    by true false wants h = absurd (both_ways false refl h)
    by false false wants h = h

-- where the port is still asked there is no reply
asked_without_reply : (f : Phase) → is_asked f ≡ true → (is_answered f || is_in_more f) ≡ false
asked_without_reply phase.Idle h = absurd (both_ways false refl h)
asked_without_reply phase.Asked h = refl
asked_without_reply phase.Answered h = absurd (both_ways false refl h)
asked_without_reply phase.More h = absurd (both_ways false refl h)

pub not_yet : {o : Option State} {n : NodeAt} {known : Known} {s : State} → FitsToldState o n known s → (t : NodeState) (p word : ℕ) → SeeSays o p (NotYet word) → None ≡ reply_at s t p
not_yet {s = s} told t p word says =
    let there = subst (λ x. SeeSays x p (NotYet word)) told.told says in
    let asked : is_asked (exchange s p).phase ≡ true =
    ap (λ (w : Word). is_asked w.phase) (sym (port_words_decode s told.formed p)) ∙ ap (λ i. is_asked (unpack i).phase) (sym there.there) ∙ there.cause in
    let quiet = asked_without_reply (exchange s p).phase asked in
    rw quiet refl
