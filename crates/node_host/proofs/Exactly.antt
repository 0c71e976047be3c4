-- Where a gate tells its state, what it answered is what the rule of moves finds there.
use Rattle.std.proofs.Common.{◌≡◌, ◌∙◌, ℕ, ◌+◌, ◌<◌, Bool, true, false, cond, List, [], ◌∷◌, length, Option, Some, None, refl, sym, ap, subst, arith}
use Rattle.std.specs.Prelude.{not, ◌==◌, ◌&&◌, ◌||◌, is_none, is_some, nat_le, option_map, slice_index_or, option_and_then}
use Rattle.std.specs.Option.{option_map_or}
use Rattle.std.proofs.lemmas.Bool.{and_from, and_left, and_right, and_parts, both_ways, eq-eqb, eqb-true, leb-true, ne_eqb, not-true, or_right, or_from, not_from_true}
use Rattle.std.proofs.lemmas.Option.{none-some, slice_get-get_or}
use Rattle.config_graph.specs.Kinds.{row}
use Rattle.config_graph.specs.declared.node.Target.{Target}
use Rattle.config_graph.proofs.KindLaws.{two_requires}
use Rattle.quiesce_word.specs.Phases.{is_asked, is_idle, is_in_more}
use Rattle.quiesce_word.specs.Words.{unpack}
use Rattle.quiesce_word.specs.declared.phase.Phase.{Phase}
use Rattle.quiesce_word.specs.declared.phase.Phase.TheVariants as phase
use Rattle.quiesce_word.specs.declared.word.Word.{Word}
use Rattle.component_trait.specs.Moves as moves
use Rattle.component_trait.specs.States.{NodeState}
use Rattle.component_trait.specs.declared.next.Ask.{Ask as Request}
use Rattle.component_trait.specs.declared.next.Next.TheVariants as next
use Rattle.quiesce_core.specs.Knowledge.{IsPortKnown, port_at_start}
use Rattle.quiesce_core.specs.Legal.{Legal}
use Rattle.quiesce_core.specs.Reach.{IsPortOf}
use Rattle.quiesce_core.specs.Rules.{is_linked, is_missing, is_open, last_serial}
use Rattle.quiesce_core.specs.Runs.{is_doer}
use Rattle.quiesce_core.specs.State.{State, exchange, gate, slot, target}
use Rattle.quiesce_core.specs.WellFormed.{IsWellFormed}
use Rattle.quiesce_core.specs.Fields.{fields_of}
use Rattle.quiesce_core.specs.declared.event.Event.{Event}
use Rattle.quiesce_core.specs.declared.event.Event.TheVariants.{Begin, Call, Give, Hear, Miss, More, Take}
use Rattle.quiesce_core.specs.declared.known.Known.{Known}
use Rattle.quiesce_core.specs.declared.state.Slot.{Slot}
use Rattle.quiesce_core.proofs.LegalLaws.{legal}
use Rattle.quiesce_core.proofs.WordLaws.{port_words_decode}
use Rattle.node_gate.specs.Answers.{BeginSays, HasWord, HearSays, IsSpentAt, TakeSays}
use Rattle.node_gate.specs.Core.{node_in}
use Rattle.node_gate.specs.Moves.{Leads}
use Rattle.node_gate.specs.Seats.{NodeAt}
use Rattle.node_gate.specs.declared.answers.BeginAnswer.{BeginAnswer}
use Rattle.node_gate.specs.declared.answers.BeginAnswer.TheVariants as begin
use Rattle.node_gate.specs.declared.answers.HearAnswer.TheVariants as hear
use Rattle.node_gate.specs.declared.answers.TakeAnswer.TheVariants as take
use Rattle.port_queue.specs.Inboxes.{front}
use Rattle.node_turn_laws.specs.Turn.{begins, begins_at, calls, does_next, hears, is_for, takes}
use Rattle.node_turn_laws.specs.World.{first_port}
use Rattle.node_host.specs.Told.{FitsToldState}
use Rattle.node_host.proofs.Refused.{IsRefused}

-- a step that the gate told is allowed, and the node's
stepped : (n : ℕ) (s : State) (o t : Option State) (e : Event) → o ≡ Some s → Leads n o (e ∷ []) t → Legal s e × (is_doer s n e ≡ true)
stepped n s o t e told led = let l = subst (λ x. Leads n x (e ∷ []) t) told led in (legal s e l.2.allowed, l.3)

-- what a word shows is so
word_there : (s : State) → IsWellFormed s → (p word : ℕ) (shows : Word → Bool) → HasWord (Some s) p word shows → shows (fields_of s p) ≡ true
word_there s formed p word shows h = ap shows (sym (port_words_decode s formed p)) ∙ ap (λ i. shows (unpack i)) (sym h.there) ∙ h.cause

last_is : (s : State) (p k v : ℕ) → (k == (exchange s p).serial && v == (exchange s p).value) ≡ true → (k ≡ (exchange s p).serial) × (v ≡ (exchange s p).value)
last_is s p k v h =
    let both = and_parts (k == (exchange s p).serial) (v == (exchange s p).value) h in
    (eqb-true k (exchange s p).serial both.0, eqb-true v (exchange s p).value both.1)

module _ {o : Option State} {n : NodeAt} {known : Known} {s : State} (told : FitsToldState o n known s) where
  first_in : (k : ℕ) (x : Option Slot) → (node_in k x).first ≡ option_map_or (λ (m : Slot). m.first_port) x 0
  first_in k None = refl
  first_in k (Some m) = refl

  pub first_is : first_port s n.slot ≡ n.first
  first_is = sym (first_in n.slot (slot s.config n.slot)) ∙ ap (λ (m : NodeAt). m.first) told.node

  own_port_of : (r : ℕ) → r < length (row n.kind).requires_ → IsPortOf s.config n.slot (n.first + r)
  own_port_of r within = by (slot s.config n.slot) refl told.fits.live told.node
    where
      by : (x : Option Slot) → slot s.config n.slot ≡ x → option_map_or (λ (m : Slot). m.live) x false ≡ true → node_in n.slot x ≡ n → IsPortOf s.config n.slot (n.first + r)
      by None is live same = absurd (both_ways false refl live)
      by (Some m) is live same =
          let first : m.first_port ≡ n.first = ap (λ (x : NodeAt). x.first) same in
          let kind = ap (λ (x : NodeAt). x.kind) same in
          let few : r < length (row m.node.kind).requires_ = subst (λ k. r < length (row k).requires_) (sym kind) within in
          record { node = m; made = is; from = omega (arith, first); below = omega (arith, first, few) }

  -- what is known of its port is so
  pub own_known : (r : ℕ) → r < length (row n.kind).requires_ → IsPortKnown s (n.first + r) (slice_index_or known.ports r port_at_start)
  own_known r within =
      subst (λ f. IsPortKnown s (f + r) (slice_index_or known.ports r port_at_start)) (ap (λ (m : NodeAt). m.first) told.node)
      (told.fits.known.ports r (slice_index_or known.ports r port_at_start)
      (slice_get-get_or known.ports r port_at_start (omega (arith, within, two_requires n.kind, told.fits.two)))
      (subst (λ f. IsPortOf s.config n.slot (f + r)) (sym (ap (λ (m : NodeAt). m.first) told.node)) (own_port_of r within)))

  -- ---- the next request
  pub takes_nothing : (held : List ℕ) → front held ≡ None → None ≡ takes s n.slot held
  takes_nothing [] h = refl
  takes_nothing (p ∷ held) h = absurd (none-some p (sym h))

  pub takes_stale : (p word : ℕ) (later : List ℕ) → TakeSays o n p (take.Stale word) → None ≡ takes s n.slot (p ∷ later)
  takes_stale p word later says =
      let stale : is_for s n.slot p ≡ false =
      not-true (is_for s n.slot p) (word_there s told.formed p word (λ x. not (is_asked x.phase && option_map_or (λ (t : Target). t.node == n.slot) x.target false)) (subst (λ x. TakeSays x n p (take.Stale word)) told.told says)) in
      ap (λ b. cond b (Some (Take p (exchange s p).serial (exchange s p).value)) None) (sym stale)

  pub takes_taken : (p k v : ℕ) (later : List ℕ) (t : Option State) → Leads n.slot o (Take p k v ∷ []) t → Some (Take p k v) ≡ takes s n.slot (p ∷ later)
  takes_taken p k v later t led =
      let l = stepped n.slot s o t (Take p k v) told.told led in
      let m = last_is s p k v l.0.message in
      let there : is_for s n.slot p ≡ true = and_from (is_asked (exchange s p).phase) (option_map_or (λ (x : Target). x.node == n.slot) (target s.config p) false) l.0.asked (doer_there (target s.config p) l.1) in
      ap (λ j. Some (Take p j v)) m.0 ∙ ap (λ u. Some (Take p (exchange s p).serial u)) m.1
      ∙ ap (λ b. cond b (Some (Take p (exchange s p).serial (exchange s p).value)) None) (sym there)
    where
      doer_there : (x : Option Target) → option_map_or (λ m. m == n.slot) (option_map (λ (t : Target). t.node) x) false ≡ true → option_map_or (λ (t : Target). t.node == n.slot) x false ≡ true
      doer_there None h = h
      doer_there (Some x) h = h

  -- ---- what it wants
  begins_if : (a : Request) (t : NodeState) → moves.wants t ≡ Some a → begins s n.slot t ≡ begins_at s (n.first + a.require) a.value
  begins_if a t wanted =
      ap (λ x. option_and_then (λ (b : Request). begins_at s (first_port s n.slot + b.require) b.value) x) wanted ∙ ap (λ f. begins_at s (f + a.require) a.value) first_is

  begins_not : (p v : ℕ) → (is_idle (exchange s p).phase && is_open s.config p && not (is_missing s p)) ≡ false → None ≡ begins_at s p v
  begins_not p v h = ap (λ b. cond b (Some (Begin p ((exchange s p).serial + 1) v)) None) (sym h)

  pub begins_nothing : (t : NodeState) → None ≡ moves.wants t → None ≡ begins s n.slot t
  begins_nothing t h = ap (λ x. option_and_then (λ (b : Request). begins_at s (first_port s n.slot + b.require) b.value) x) h

  pub begins_busy : (a : Request) (t : NodeState) → moves.wants t ≡ Some a → a.require < length (row n.kind).requires_ → (slice_index_or known.ports a.require port_at_start).idle ≡ false → None ≡ begins s n.slot t
  begins_busy a t wanted within busy =
      let p : ℕ = n.first + a.require in
      begins_not p a.value (and_left (is_idle (exchange s p).phase && is_open s.config p) (not (is_missing s p)) (and_left (is_idle (exchange s p).phase) (is_open s.config p) (sym (own_known a.require within).idle ∙ busy)))
      ∙ sym (begins_if a t wanted)

  begins_closed : (a : Request) (t : NodeState) (word : ℕ) → moves.wants t ≡ Some a → BeginSays o (n.first + a.require) (begin.Closed word) → None ≡ begins s n.slot t
  begins_closed a t word wanted says =
      let p : ℕ = n.first + a.require in
      let closed = word_there s told.formed p word (λ x. x.closed) (subst (λ x. BeginSays x p (begin.Closed word)) told.told says) in
      begins_not p a.value (and_left (is_idle (exchange s p).phase && is_open s.config p) (not (is_missing s p)) (and_right (is_idle (exchange s p).phase) (is_open s.config p) (ap not closed)))
      ∙ sym (begins_if a t wanted)

  unlinked_is_missing : (x : Option Target) (spent : Bool) → is_none x ≡ true → (not (is_some x) || spent) ≡ true
  unlinked_is_missing None spent h = refl
  unlinked_is_missing (Some x) spent h = absurd (both_ways false refl h)

  begins_unlinked : (a : Request) (t : NodeState) (word : ℕ) → moves.wants t ≡ Some a → BeginSays o (n.first + a.require) (begin.Unlinked word) → None ≡ begins s n.slot t
  begins_unlinked a t word wanted says =
      let p : ℕ = n.first + a.require in
      let shown = word_there s told.formed p word (λ x. not x.closed && is_none x.target) (subst (λ x. BeginSays x p (begin.Unlinked word)) told.told says) in
      let unlinked = (and_parts (not (gate s.config p).closed) (is_none (target s.config p)) shown).1 in
      begins_not p a.value (and_right (is_idle (exchange s p).phase && is_open s.config p) (not (is_missing s p)) (ap not (unlinked_is_missing (target s.config p) ((exchange s p).serial == last_serial) unlinked)))
      ∙ sym (begins_if a t wanted)

  begins_spent : (a : Request) (t : NodeState) (k : ℕ) → moves.wants t ≡ Some a → BeginSays o (n.first + a.require) (begin.Spent k) → None ≡ begins s n.slot t
  begins_spent a t k wanted says =
      let p : ℕ = n.first + a.require in
      let shown : IsSpentAt (Some s) p = (subst (λ x. BeginSays x p (begin.Spent k)) told.told says).1 in
      begins_not p a.value
      (and_right (is_idle (exchange s p).phase && is_open s.config p) (not (is_missing s p)) (ap not (or_right (not (is_linked s.config p)) ((exchange s p).serial == last_serial) (eq-eqb (exchange s p).serial last_serial shown.2))))
      ∙ sym (begins_if a t wanted)

  begins_again : (a : Request) (t : NodeState) (i j : ℕ) → BeginSays o (n.first + a.require) (begin.Again i j) → None ≡ begins s n.slot t
  begins_again a t i j says = absurd (none-some s (sym says.0 ∙ told.told))

  pub begins_refused : (a : Request) (t : NodeState) (r : BeginAnswer) → IsRefused r → moves.wants t ≡ Some a → BeginSays o (n.first + a.require) r → None ≡ begins s n.slot t
  begins_refused a t (begin.Begun k x) refused wanted says = absurd (refused k x refl)
  begins_refused a t (begin.Closed w) refused wanted says = begins_closed a t w wanted says
  begins_refused a t (begin.Unlinked w) refused wanted says = begins_unlinked a t w wanted says
  begins_refused a t (begin.Spent k) refused wanted says = begins_spent a t k wanted says
  begins_refused a t (begin.Again i f) refused wanted says = begins_again a t i f says

  fresh_serial : (k serial : ℕ) → (k == serial + 1 && nat_le k last_serial) ≡ true → (k ≡ serial + 1) × ((serial == last_serial) ≡ false)
  fresh_serial k serial h =
      let both = and_parts (k == serial + 1) (nat_le k last_serial) h in
      let is = eqb-true k (serial + 1) both.0 in
      let few = leb-true k last_serial both.1 in
      (is, ne_eqb serial last_serial (λ e. omega (arith, is, few, e)))

  pub begins_begun : (a : Request) (t : NodeState) (k : ℕ) (u : Option State) → moves.wants t ≡ Some a → Leads n.slot o (Begin (n.first + a.require) k a.value ∷ []) u
      → Some (Begin (n.first + a.require) k a.value) ≡ begins s n.slot t
  begins_begun a t k u wanted led =
      let p : ℕ = n.first + a.require in
      let l = (stepped n.slot s o u (Begin p k a.value) told.told led).0 in
      let serial = fresh_serial k (exchange s p).serial l.next_serial in
      let there : (is_idle (exchange s p).phase && is_open s.config p && not (is_missing s p)) ≡ true =
      and_from (is_idle (exchange s p).phase && is_open s.config p) (not (is_missing s p)) (and_from (is_idle (exchange s p).phase) (is_open s.config p) l.idle l.opened)
      (ap not (or_from (not (is_linked s.config p)) ((exchange s p).serial == last_serial) (not_from_true (is_linked s.config p) l.linked) serial.1)) in
      ap (λ j. Some (Begin p j a.value)) serial.0
      ∙ ap (λ b. cond b (Some (Begin p ((exchange s p).serial + 1) a.value)) None) (sym there)
      ∙ sym (begins_if a t wanted)

  -- ---- its service
  pub calls_missed : (p v : ℕ) (u : Option State) → Leads n.slot o (Miss p ∷ []) u → Some (Miss p) ≡ calls s p v
  calls_missed p v u led =
      let l = (stepped n.slot s o u (Miss p) told.told led).0 in
      ap (λ b. cond b (Some (Miss p)) (Some (Call p ((exchange s p).serial + 1) v))) (sym l.missing)
      ∙ ap (λ b. cond (not b) None (cond (is_missing s p) (Some (Miss p)) (Some (Call p ((exchange s p).serial + 1) v)))) (sym l.idle)

  pub calls_called : (p k v : ℕ) (u : Option State) → Leads n.slot o (Call p k v ∷ []) u → Some (Call p k v) ≡ calls s p v
  calls_called p k v u led =
      let l = (stepped n.slot s o u (Call p k v) told.told led).0 in
      let serial = fresh_serial k (exchange s p).serial l.next_serial in
      ap (λ j. Some (Call p j v)) serial.0
      ∙ ap (λ b. cond b (Some (Miss p)) (Some (Call p ((exchange s p).serial + 1) v))) (sym (or_from (not (is_linked s.config p)) ((exchange s p).serial == last_serial) (not_from_true (is_linked s.config p) l.linked) serial.1))
      ∙ ap (λ b. cond (not b) None (cond (is_missing s p) (Some (Miss p)) (Some (Call p ((exchange s p).serial + 1) v)))) (sym l.idle)

  pub gives_next : (p k v : ℕ) (u : Option State) → Leads n.slot o (Give p k v ∷ []) u → Some (Give p k v) ≡ does_next s n.first p (next.Give v)
  gives_next p k v u led = ap (λ j. Some (Give p j v)) (eqb-true k (exchange s p).serial (stepped n.slot s o u (Give p k v) told.told led).0.serial)

  pub sends_next : (p k v : ℕ) (u : Option State) → Leads n.slot o (More p k v ∷ []) u → Some (More p k v) ≡ does_next s n.first p (next.More v)
  sends_next p k v u led = ap (λ j. Some (More p j v)) (eqb-true k (exchange s p).serial (stepped n.slot s o u (More p k v) told.told led).0.serial)

  more_not_asked : (f : Phase) → is_in_more f ≡ true → is_asked f ≡ false
  more_not_asked phase.Idle h = absurd (both_ways false refl h)
  more_not_asked phase.Asked h = absurd (both_ways false refl h)
  more_not_asked phase.Answered h = absurd (both_ways false refl h)
  more_not_asked phase.More h = refl

  pub hears_not_yet : (p word : ℕ) → HearSays o p (hear.NotYet word) → None ≡ hears s p
  hears_not_yet p word says =
      let in_more = word_there s told.formed p word (λ x. is_in_more x.phase) (subst (λ x. HearSays x p (hear.NotYet word)) told.told says) in
      ap (λ b. cond b (Some (Hear p (exchange s p).serial (exchange s p).value)) None) (sym (more_not_asked (exchange s p).phase in_more))

  pub hears_heard : (p k v : ℕ) (u : Option State) → Leads n.slot o (Hear p k v ∷ []) u → Some (Hear p k v) ≡ hears s p
  hears_heard p k v u led =
      let l = (stepped n.slot s o u (Hear p k v) told.told led).0 in
      let m = last_is s p k v l.message in
      ap (λ j. Some (Hear p j v)) m.0 ∙ ap (λ x. Some (Hear p (exchange s p).serial x)) m.1
      ∙ ap (λ b. cond b (Some (Hear p (exchange s p).serial (exchange s p).value)) None) (sym l.asked)
