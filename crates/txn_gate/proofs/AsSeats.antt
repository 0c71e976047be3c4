-- The steps at any seat that is a node's or the change's.
use Rattle.std.proofs.Common.{◌≡◌, ◌∙◌, ℕ, ◌+◌, ◌<◌, ◌%◌, ◌^◌, Bool, true, false, cond, [], length, Option, Some, sym, ap, subst}
use Rattle.std.specs.Prelude.{◌==◌, bit_and, bit_or, bit_xor}
use Rattle.atomic_table.specs.Table.{Allows, Splits, step}
use Rattle.config_graph.specs.declared.TheConstants.{MAX_PORTS}
use Rattle.config_graph.specs.declared.node.Node.{Node}
use Rattle.config_graph.specs.declared.node.Target.{Target}
use Rattle.quiesce_word.specs.Operands.{call_difference, end_difference, message_difference}
use Rattle.quiesce_word.specs.SlotWords.{pack_slot}
use Rattle.quiesce_word.specs.Words.{FitsWord, is_missing, pack, unpack}
use Rattle.quiesce_word.specs.declared.operands.TheConstants.{ALL_BUT_CLOSED, CLOSED}
use Rattle.quiesce_word.specs.declared.phase.Phase.TheVariants as phase
use Rattle.txn_records.specs.Entries.{config_of}
use Rattle.txn_records.specs.Records.{May}
use Rattle.txn_records.specs.declared.entry.Entry.TheVariants.{Did}
use Rattle.quiesce_core.specs.Rules.{last_serial}
use Rattle.quiesce_core.specs.declared.event.Event.{Event}
use Rattle.quiesce_core.specs.declared.event.Event.TheVariants.{Begin, Call, Give, End, More, Ask, Close, Reopen, Make}
use Rattle.node_gate.specs.Seats.{MayAsk, MayBegin, MayCallAt, MayEnd, MayGive, MayHear, MaySee, MaySendMore, MayTake, port_known, serial_served, value_seen}
use Rattle.txn_spec.specs.Steps.{Adopts, ExchangesBy, ExchangesFor, Hears, HearsBy, IsChange, IsNode, LoadsWord, LoadsWordBy, LooksAt, LooksAtBy, LooksToCall, LooksToCallBy, Seat, Sees, SeesBy, Takes, TakesBy, did, noted, value_served}
use Rattle.txn_spec.specs.Views.{change_of, new_seat, node_at, node_of, of_change, of_node, without_seat}
use Rattle.txn_spec.specs.Traces.{Holds, port_at, port_place}
use Rattle.txn_spec.proofs.TraceLaws.{at_place}
use Rattle.txn_spec.proofs.ChangeStepLaws as change_
use Rattle.txn_spec.proofs.NodeStepLaws as node_
use Rattle.txn_spec.proofs.SeatStepLaws as seat_
use mathlib.Core.Option.{none}
use prog.Atomic.{either}

-- the port whose word lies at its place
pub port_back : (p i : ℕ) → i ≡ port_place p → p < MAX_PORTS → port_at i ≡ p
port_back p i place few = ap port_at place ∙ at_place p few

-- what a step at that place tells, of the port
pub told : (R : ℕ → Seat → ℕ → Seat → Type 0) (me : Seat) (found : ℕ) (new : Seat) (p i : ℕ) → i ≡ port_place p → p < MAX_PORTS → R (port_at i) me found new → R p me found new
told R me found new p i place few h = subst (λ q. R q me found new) (port_back p i place few) h

pub exchanged : (first : ℕ) (e : Event) (me : Seat) (found : ℕ) (new : Seat) (p i : ℕ) → i ≡ port_place p → p < MAX_PORTS → ExchangesBy (port_at i) first e me found new → ExchangesBy p first e me found new
exchanged first e me found new p i place few h = subst (λ q. ExchangesBy q first e me found new) (port_back p i place few) h

module _ (slots id : ℕ) (me : Seat) (is : IsNode me) where
  as_node : (P : Seat → Type 0) → P (of_node (node_of me.0), []) → P me
  as_node P h = subst P (sym is) h

  pub loads : (p i : ℕ) → i ≡ port_place p → p < MAX_PORTS → Allows Holds slots id me i (λ x. x) (LoadsWord (step slots i 0 0 none) me)
  loads p i place few = as_node (λ m. Allows Holds slots id m i (λ x. x) (LoadsWord (step slots i 0 0 none) m))
      (subst (λ (y : ℕ × ℕ). Allows Holds slots id (of_node (node_of me.0), []) y.0 (λ x. x) (LoadsWordBy y.1 (of_node (node_of me.0), []))) (λ j. (sym place j, sym (port_back p i place few) j))
      (node_.loads slots id p (node_of me.0) few))

  pub begins : (p i : ℕ) → i ≡ port_place p → p < MAX_PORTS → (v old new : ℕ) (e : Event) → e ≡ Begin p ((unpack old).serial + 1) v → MayBegin (node_at (node_of me.0)) (node_of me.0).known p v → (unpack old).closed ≡ false
      → (t : Target) → (unpack old).target ≡ Some t → (unpack old).serial < last_serial
      → new ≡ pack (record (unpack old) { phase = phase.Asked; serial = (unpack old).serial + 1; value = v; consequent = false })
      → Allows Holds slots id me i (λ x. either (x == old) new x) (ExchangesFor e (step slots i old new none) me)
  begins p i place few v old new e event may opened t leads unspent asked =
      as_node (λ m. Allows Holds slots id m i (λ x. either (x == old) new x) (ExchangesFor e (step slots i old new none) m))
      (subst (λ (y : ℕ × ℕ × ℕ × Event). Allows Holds slots id (of_node (node_of me.0), []) y.0 (λ x. either (x == old) y.2 x) (ExchangesBy y.1 old y.3 (of_node (node_of me.0), []))) (λ j. (sym place j, sym (port_back p i place few) j, sym asked j, sym event j))
      (node_.begins (node_of me.0) p v old may t opened leads unspent slots id))

  pub takes : (p i : ℕ) → i ≡ port_place p → MayTake (node_of me.0).known p → Allows Holds slots id me i (λ x. x) (Takes (step slots i 0 0 none) me)
  takes p i place may = as_node (λ m. Allows Holds slots id m i (λ x. x) (Takes (step slots i 0 0 none) m))
      (subst (λ (y : ℕ × ℕ). Allows Holds slots id (of_node (node_of me.0), []) y.0 (λ x. x) (TakesBy y.1 (of_node (node_of me.0), []))) (λ j. (sym place j, sym (port_back p i place may.made) j))
      (node_.takes slots id p (node_of me.0) may))

  pub sees : (p i : ℕ) → i ≡ port_place p → p < MAX_PORTS → MaySee (node_at (node_of me.0)) (node_of me.0).known p → Allows Holds slots id me i (λ x. x) (Sees (step slots i 0 0 none) me)
  sees p i place few may = as_node (λ m. Allows Holds slots id m i (λ x. x) (Sees (step slots i 0 0 none) m))
      (subst (λ (y : ℕ × ℕ). Allows Holds slots id (of_node (node_of me.0), []) y.0 (λ x. x) (SeesBy y.1 (of_node (node_of me.0), []))) (λ j. (sym place j, sym (port_back p i place few) j))
      (node_.sees slots id p (node_of me.0) may))

  -- an event that an operand of exclusive or makes
  acts : (p i : ℕ) → i ≡ port_place p → (k k' : ℕ) (e e' : Event) → e ≡ e' → k ≡ k' → Allows Holds slots id (of_node (node_of me.0), []) (port_place p) (λ x. bit_xor x k') (λ found new. new ≡ did (of_node (node_of me.0), []) e')
      → Allows Holds slots id me i (λ x. bit_xor x k) (λ found new. new ≡ did me e)
  acts p i place k k' e e' event operand h =
      as_node (λ m. Allows Holds slots id m i (λ x. bit_xor x k) (λ found new. new ≡ did m e))
      (subst (λ (y : ℕ × ℕ × Event). Allows Holds slots id (of_node (node_of me.0), []) y.0 (λ x. bit_xor x y.1) (λ found new. new ≡ did (of_node (node_of me.0), []) y.2)) (λ j. (sym place j, sym operand j, sym event j)) h)

  pub gives : (p i : ℕ) → i ≡ port_place p → (v k : ℕ) (e : Event) → e ≡ Give p (serial_served (node_of me.0).known) v → k ≡ message_difference phase.Asked (value_served (node_of me.0).known % 2 ^ 24) phase.Answered v
      → MayGive (node_of me.0).known p v → Allows Holds slots id me i (λ x. bit_xor x k) (λ found new. new ≡ did me e)
  gives p i place v k e event operand may = acts p i place k _ e _ event operand (node_.gives slots id p v (node_of me.0) may)

  pub ends : (p i : ℕ) → i ≡ port_place p → (k : ℕ) (e : Event) → e ≡ End p (port_known (node_at (node_of me.0)) (node_of me.0).known p).serial (value_seen (port_known (node_at (node_of me.0)) (node_of me.0).known p))
      → k ≡ end_difference (value_seen (port_known (node_at (node_of me.0)) (node_of me.0).known p) % 2 ^ 24) (port_known (node_at (node_of me.0)) (node_of me.0).known p).consequent
      → MayEnd (node_at (node_of me.0)) (node_of me.0).known p → Allows Holds slots id me i (λ x. bit_xor x k) (λ found new. new ≡ did me e)
  ends p i place k e event operand may = acts p i place k _ e _ event operand (node_.ends (node_of me.0) p may slots id)

  pub mores : (p i : ℕ) → i ≡ port_place p → (v k : ℕ) (e : Event) → e ≡ More p (serial_served (node_of me.0).known) v → k ≡ message_difference phase.Asked (value_served (node_of me.0).known % 2 ^ 24) phase.More v
      → MaySendMore (node_at (node_of me.0)) (node_of me.0).known p v → Allows Holds slots id me i (λ x. bit_xor x k) (λ found new. new ≡ did me e)
  mores p i place v k e event operand may = acts p i place k _ e _ event operand (node_.mores slots id p v (node_of me.0) may)

  pub asks : (p i : ℕ) → i ≡ port_place p → (v k : ℕ) (e : Event) → e ≡ Ask p (port_known (node_at (node_of me.0)) (node_of me.0).known p).serial v
      → k ≡ message_difference phase.More (value_seen (port_known (node_at (node_of me.0)) (node_of me.0).known p) % 2 ^ 24) phase.Asked v
      → MayAsk (node_at (node_of me.0)) (node_of me.0).known p v → Allows Holds slots id me i (λ x. bit_xor x k) (λ found new. new ≡ did me e)
  asks p i place v k e event operand may = acts p i place k _ e _ event operand (node_.asks (node_of me.0) p v may slots id)

  pub hears : (p i : ℕ) → i ≡ port_place p → p < MAX_PORTS → MayHear (node_of me.0).known p → Allows Holds slots id me i (λ x. x) (Hears (step slots i 0 0 none) me)
  hears p i place few may = as_node (λ m. Allows Holds slots id m i (λ x. x) (Hears (step slots i 0 0 none) m))
      (subst (λ (y : ℕ × ℕ). Allows Holds slots id (of_node (node_of me.0), []) y.0 (λ x. x) (HearsBy y.1 (of_node (node_of me.0), []))) (λ j. (sym place j, sym (port_back p i place few) j))
      (node_.hears slots id p (node_of me.0) may))

  pub looks_to_call : (p i : ℕ) → i ≡ port_place p → (v : ℕ) → p < MAX_PORTS → MayCallAt (node_at (node_of me.0)) (node_of me.0).known p v → Allows Holds slots id me i (λ x. x) (LooksToCall (step slots i 0 0 none) me)
  looks_to_call p i place v few may = as_node (λ m. Allows Holds slots id m i (λ x. x) (LooksToCall (step slots i 0 0 none) m))
      (subst (λ (y : ℕ × ℕ). Allows Holds slots id (of_node (node_of me.0), []) y.0 (λ x. x) (LooksToCallBy y.1 (of_node (node_of me.0), []))) (λ j. (sym place j, sym (port_back p i place few) j))
      (node_.looks_to_call (node_of me.0) p v may slots id))

  pub calls : (p i : ℕ) → i ≡ port_place p → (v word k : ℕ) (e : Event) → e ≡ Call p ((unpack word).serial + 1) v → k ≡ call_difference (unpack word) v → MayCallAt (node_at (node_of me.0)) (node_of me.0).known p v
      → (node_of me.0).loaded ≡ Some (record { port = p; word = word }) → FitsWord (unpack word) → is_missing (unpack word) ≡ false → Allows Holds slots id me i (λ x. bit_xor x k) (λ found new. new ≡ did me e)
  calls p i place v word k e event operand may was fit found_there = acts p i place k _ e _ event operand (node_.calls (node_of me.0) p v may word was fit found_there slots id)

  pub adopts : (n i : ℕ) → (node_of me.0).slot ≡ n → i ≡ MAX_PORTS + n → Allows Holds slots id me i (λ x. x) (Adopts (step slots i 0 0 none) me)
  adopts n i slot_ place =
      subst (λ j. Allows Holds slots id me j (λ x. x) (Adopts (step slots j 0 0 none) me)) (sym (place ∙ ap (λ k. MAX_PORTS + k) (sym slot_)))
      (as_node (λ m. Allows Holds slots id m (MAX_PORTS + (node_of me.0).slot) (λ x. x) (Adopts (step slots (MAX_PORTS + (node_of me.0).slot) 0 0 none) m)) (seat_.adopts slots id (node_of me.0)))

module _ (slots id : ℕ) (me : Seat) (is : IsChange me) where
  as_change : (P : Seat → Type 0) → P (of_change me.0.nodes (change_of me.0), []) → P me
  as_change P h = subst P (sym is) h

  pub closes : (p i : ℕ) → i ≡ port_place p → (e : Event) → e ≡ Close p → May (change_of me.0).entries (Close p) → Allows Holds slots id me i (λ x. bit_or x CLOSED) (λ found new. new ≡ noted me (Did e))
  closes p i place e event may =
      as_change (λ m. Allows Holds slots id m i (λ x. bit_or x CLOSED) (λ found new. new ≡ noted m (Did e)))
      (subst (λ (y : ℕ × Event). Allows Holds slots id (of_change me.0.nodes (change_of me.0), []) y.0 (λ x. bit_or x CLOSED) (λ found new. new ≡ noted (of_change me.0.nodes (change_of me.0), []) (Did y.1))) (λ j. (sym place j, sym event j))
      (change_.closes slots id me.0.nodes (change_of me.0) p may))

  pub reopens : (p i : ℕ) → i ≡ port_place p → (e : Event) → e ≡ Reopen p → May (change_of me.0).entries (Reopen p) → Allows Holds slots id me i (λ x. bit_and x ALL_BUT_CLOSED) (λ found new. new ≡ noted me (Did e))
  reopens p i place e event may =
      as_change (λ m. Allows Holds slots id m i (λ x. bit_and x ALL_BUT_CLOSED) (λ found new. new ≡ noted m (Did e)))
      (subst (λ (y : ℕ × Event). Allows Holds slots id (of_change me.0.nodes (change_of me.0), []) y.0 (λ x. bit_and x ALL_BUT_CLOSED) (λ found new. new ≡ noted (of_change me.0.nodes (change_of me.0), []) (Did y.1))) (λ j. (sym place j, sym event j))
      (change_.reopens slots id me.0.nodes (change_of me.0) p may))

  pub looks : (p i : ℕ) → i ≡ port_place p → p < MAX_PORTS → Allows Holds slots id me i (λ x. x) (LooksAt (step slots i 0 0 none) me)
  looks p i place few = as_change (λ m. Allows Holds slots id m i (λ x. x) (LooksAt (step slots i 0 0 none) m))
      (subst (λ (y : ℕ × ℕ). Allows Holds slots id (of_change me.0.nodes (change_of me.0), []) y.0 (λ x. x) (LooksAtBy y.1 (of_change me.0.nodes (change_of me.0), []))) (λ j. (sym place j, sym (port_back p i place few) j))
      (change_.looks slots id me.0.nodes (change_of me.0) p few))

  pub makes : (n i word : ℕ) (node : Node) (from : Option ℕ) (e : Event) → e ≡ Make n node from → i ≡ MAX_PORTS + n → May (change_of me.0).entries (Make n node from)
      → word ≡ pack_slot (record { kind = node.kind; first_port = length (config_of (change_of me.0).entries).gates; arg = node.arg; from = from })
      → Allows Holds slots id me i (λ x. bit_or x word) (λ found new. new ≡ noted me (Did e))
  makes n i word node from e event place may packed =
      as_change (λ m. Allows Holds slots id m i (λ x. bit_or x word) (λ found new. new ≡ noted m (Did e)))
      (subst (λ (y : ℕ × ℕ × Event). Allows Holds slots id (of_change me.0.nodes (change_of me.0), []) y.0 (λ x. bit_or x y.1) (λ found new. new ≡ noted (of_change me.0.nodes (change_of me.0), []) (Did y.2)))
      (λ j. (sym place j, sym packed j, sym event j))
      (change_.makes slots id me.0.nodes (change_of me.0) n node from may))

  pub gives_seat : (change_of me.0).seats < length (config_of (change_of me.0).entries).slots → Splits Holds id me.0 (without_seat me.0) (new_seat me.0)
  gives_seat more_ =
      subst (λ (m : Seat). Splits Holds id m.0 (without_seat m.0) (new_seat m.0)) (sym is) (seat_.gives_seat id me.0.nodes (change_of me.0) more_)

-- which of two it is
pub when : {A : Type 0} (b : Bool) (x y z : A) → z ≡ cond b x y → b ≡ true → z ≡ x
when b x y z is h = is ∙ ap (λ c. cond c x y) h

pub unless : {A : Type 0} (b : Bool) (x y z : A) → z ≡ cond b x y → b ≡ false → z ≡ y
unless b x y z is h = is ∙ ap (λ c. cond c x y) h
