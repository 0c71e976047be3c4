-- The words of a state: what they have room for, what they spell, and what each event makes of them.
use Rattle.std.proofs.Common.{◌≡◌, ◌∙◌, ℕ, ◌+◌, ◌-◌, ◌<◌, ◌&&◌, ◌||◌, not, Bool, true, false, cond, List, length, Option, Some, None, refl, sym, ap, arith}
use Rattle.std.specs.Prelude.{IfSome, is_none, is_some, nat_lt, nat_le, option_map, ◌==◌}
use Rattle.std.specs.Option.{option_map_or}
use Rattle.std.proofs.lemmas.Bool.{and_parts, eq-eqb, eqb-true, leb-true, ne_eqb}
use Rattle.std.proofs.lemmas.List.{get_or_past}
use Rattle.std.proofs.lemmas.Option.{same_Some, slice_get_past, slice_get_within}
use Rattle.config_graph.specs.Kinds.{row}
use Rattle.config_graph.specs.declared.node.Node.{Node}
use Rattle.config_graph.specs.declared.TheConstants.{MAX_NODES, MAX_PORTS}
use Rattle.quiesce_word.specs.Phases.{is_idle}
use Rattle.quiesce_word.specs.SlotWords.{FitsSlotWord, pack_slot, unpack_slot}
use Rattle.quiesce_word.specs.Words.{FitsWord, has_root, is_drained, unpack}
use Rattle.quiesce_word.specs.declared.phase.Phase.{Phase}
use Rattle.quiesce_word.specs.declared.phase.Phase.TheVariants as phase
use Rattle.quiesce_word.specs.declared.word.Word.{Word}
use Rattle.quiesce_word.proofs.WordLaws.{words_decode}
use Rattle.quiesce_word.proofs.SlotWordLaws.{slot_words_decode}
use Rattle.quiesce_core.specs.declared.event.Event.{Event}
use Rattle.quiesce_core.specs.declared.event.Event.TheVariants.{Begin, Call, Take, Give, End, More, Ask, Hear, Miss, Close, Reopen, Make, Link, Unlink, Remove}
use Rattle.quiesce_core.specs.declared.state.Exchange.{Exchange}
use Rattle.quiesce_core.specs.declared.state.Gate.{Gate}
use Rattle.quiesce_core.specs.declared.state.OpenTxn.{OpenTxn}
use Rattle.quiesce_core.specs.declared.state.Service.{Service}
use Rattle.quiesce_core.specs.declared.state.Slot.{Slot}
use Rattle.quiesce_core.specs.Alters.{exchange_by, exchange_next, gate_next, slot_next}
use Rattle.quiesce_core.specs.Legal.{Legal}
use Rattle.quiesce_core.specs.Named.{AreNamed}
use Rattle.quiesce_core.specs.Open.{open_txn, stage_of}
use Rattle.quiesce_core.specs.Rules.{is_taken}
use Rattle.quiesce_core.specs.Runs.{IsRun, Step, state_after}
use Rattle.quiesce_core.specs.Sources.{SourcesAreGone}
use Rattle.quiesce_core.specs.State.{Configuration, State, depends, exchange, fresh_gate, gate, owner, provision, service, slot}
use Rattle.quiesce_core.specs.WellFormed.{IsSound, IsWellFormed}
use Rattle.quiesce_core.specs.Words.{changed_port, changed_slot, fields_after, slot_fields_of, slot_word_of, word_of}
use Rattle.quiesce_core.specs.Fields.{fields_of}
use Rattle.quiesce_core.proofs.AlterLaws.{steps_alter}
use Rattle.base.proofs.OptionLaws.{map_or_true}
use Rattle.quiesce_core.proofs.LegalLaws.{legal}
use Rattle.quiesce_core.proofs.RunLaws.{nodes_are_named, runs_are_well_formed}
use Rattle.quiesce_core.proofs.SourceLaws.{sources_are_gone}
use Rattle.quiesce_core.proofs.TableLaws.{fits_target}

-- ---- room

pub port_words_fit : (s : State) → IsWellFormed s → (p : ℕ) → FitsWord (fields_of s p)
port_words_fit s w p =
    let bounds = w.bounds p in
    record { value = bounds.value; serial = omega (arith, bounds.serial); target = λ t e. fits_target s w p t e }

some_below : (o : Option ℕ) (b : ℕ) → ((k : ℕ) → o ≡ Some k → k < b) → IfSome o (λ k. k < b)
some_below None b h = tt
some_below (Some k) b h = h k refl

pub slot_words_fit : (c : Configuration) → IsSound c → AreNamed c → SourcesAreGone c → (n : ℕ) (m : Slot) → slot c n ≡ Some m → FitsSlotWord (slot_fields_of m)
slot_words_fit c sound named sources n m at =
    let r = sound.rows n m at in
    let a = named.arguments n m at in
    record {
      first_port = omega (arith, r.within, sound.few_ports);
      present = a.present;
      arg = a.below;
      from = some_below m.from MAX_NODES (λ k e. let old = sources.gone n k m at e in omega (arith, slice_get_within c.slots k old.old old.there, sound.few_nodes));
    }

-- ---- what words spell

pub port_words_decode : (s : State) → IsWellFormed s → (p : ℕ) → unpack (word_of s p) ≡ fields_of s p
port_words_decode s w p = words_decode (fields_of s p) (port_words_fit s w p)

pub slot_words_of : (c : Configuration) → IsSound c → AreNamed c → SourcesAreGone c → (n : ℕ) → unpack_slot (slot_word_of c n) ≡ option_map slot_fields_of (slot c n)
slot_words_of c sound named sources n = at (slot c n) refl
  where
    at : (o : Option Slot) → slot c n ≡ o → unpack_slot (option_map_or (λ m. pack_slot (slot_fields_of m)) o 0) ≡ option_map slot_fields_of o
    at None e = refl
    at (Some m) e = slot_words_decode (slot_fields_of m) (slot_words_fit c sound named sources n m e)

pub port_words_of_runs : (es : List Event) (p : ℕ) → IsRun es → unpack (word_of (state_after es) p) ≡ fields_of (state_after es) p
port_words_of_runs es p h = port_words_decode (state_after es) (runs_are_well_formed es h) p

pub slot_words_of_runs : (es : List Event) (n : ℕ) → IsRun es → unpack_slot (slot_word_of (state_after es).config n) ≡ option_map slot_fields_of (slot (state_after es).config n)
slot_words_of_runs es n h =
    slot_words_of (state_after es).config (runs_are_well_formed es h).sound (nodes_are_named es h) (sources_are_gone es h) n

-- ---- what events make of the words of ports

abbrev shown : Gate → Exchange → Word
shown g x =
    record { closed = g.closed; phase = x.phase; consequent = is_some x.within; target = g.target; serial = x.serial; value = x.value }

exchanged : (s : State) (p q : ℕ) (x : Exchange) → ◌≡◌ {A = Option ℕ} (Some q) (Some p) → shown (gate s.config p) (cond (q == p) x (exchange s p)) ≡ shown (gate s.config p) x
exchanged s p q x at = ap (λ b. shown (gate s.config p) (cond b x (exchange s p))) (eq-eqb q p (same_Some q p at))

regated : (s : State) (p q : ℕ) (g : Gate) → ◌≡◌ {A = Option ℕ} (Some q) (Some p) → shown (cond (q == p) g (gate s.config p)) (exchange s p) ≡ shown g (exchange s p)
regated s p q g at = ap (λ b. shown (cond b g (gate s.config p)) (exchange s p)) (eq-eqb q p (same_Some q p at))

-- what the event's port shows
port_next : (s : State) (e : Event) → Legal s e → (p : ℕ) → changed_port e ≡ Some p → shown (gate_next s.config p e) (exchange_next s p e) ≡ fields_after e (fields_of s p)
port_next s (Begin q k v) l p at = exchanged s p q (exchange_by (service s (owner s.config p)) (exchange s p) (Begin q k v)) at
port_next s (Call q k v) l p at =
    let u = map_or_true (λ (v : Service). depends s.config (owner s.config q) (provision s.config v.port) q) (service s (owner s.config q)) l.serves_through in
    let here : service s (owner s.config p) ≡ Some u.0 = ap (λ i. service s (owner s.config i)) (sym (same_Some q p at)) ∙ u.1 in
    exchanged s p q (exchange_by (service s (owner s.config p)) (exchange s p) (Call q k v)) at
    ∙ ap (λ o. record (fields_of s p) { phase = phase.Asked; serial = k; value = v; consequent = is_some (option_map (λ (w : Service). w.port) o) }) here
port_next s (Give q k v) l p at = exchanged s p q (exchange_by (service s (owner s.config p)) (exchange s p) (Give q k v)) at
port_next s (More q k v) l p at = exchanged s p q (exchange_by (service s (owner s.config p)) (exchange s p) (More q k v)) at
port_next s (Ask q k v) l p at = exchanged s p q (exchange_by (service s (owner s.config p)) (exchange s p) (Ask q k v)) at
port_next s (End q k v) l p at = exchanged s p q (exchange_by (service s (owner s.config p)) (exchange s p) (End q k v)) at
port_next s (Close q) l p at = regated s p q (record (gate s.config p) { closed = true }) at
port_next s (Reopen q) l p at = regated s p q (record (gate s.config p) { closed = false }) at
port_next s (Link q n x) l p at = regated s p q (record (gate s.config p) { target = Some (record { node = n; provide = x }) }) at
port_next s (Unlink q) l p at = regated s p q (record (gate s.config p) { target = None }) at
port_next s (Take q k v) l p at = absurd (cc)
port_next s (Hear q k v) l p at = absurd (cc)
port_next s (Miss q) l p at = absurd (cc)
port_next s (Make n node from) l p at = absurd (cc)
port_next s (Remove n) l p at = absurd (cc)

unexchanged : (s : State) (p q : ℕ) (x : Exchange) → (◌≡◌ {A = Option ℕ} (Some q) (Some p) → ⊥) → shown (gate s.config p) (cond (q == p) x (exchange s p)) ≡ fields_of s p
unexchanged s p q x ne = ap (λ b. shown (gate s.config p) (cond b x (exchange s p))) (ne_eqb q p (λ same. ne (ap Some same)))

unregated : (s : State) (p q : ℕ) (g : Gate) → (◌≡◌ {A = Option ℕ} (Some q) (Some p) → ⊥) → shown (cond (q == p) g (gate s.config p)) (exchange s p) ≡ fields_of s p
unregated s p q g ne = ap (λ b. shown (cond b g (gate s.config p)) (exchange s p)) (ne_eqb q p (λ same. ne (ap Some same)))

-- a port that is just made shows what one shows that never was
made_shows : (s : State) (n : ℕ) (node : Node) (from : Option ℕ) (p : ℕ) → shown (gate_next s.config p (Make n node from)) (exchange s p) ≡ fields_of s p
made_shows s n node from p = either (old && below) refl
  where
    old : Bool
    old = nat_le (length s.config.gates) p

    below : Bool
    below = nat_lt p (length s.config.gates + length (row node.kind).requires_)

    new_ : Gate
    new_ = record { owner = length s.config.slots; require = p - length s.config.gates; closed = true; target = None }

    either : (b : Bool) → (old && below) ≡ b → shown (cond b new_ (gate s.config p)) (exchange s p) ≡ fields_of s p
    either false e = refl
    either true e =
        sym (ap (λ g. shown g (exchange s p)) (get_or_past s.config.gates p fresh_gate (leb-true (length s.config.gates) p (and_parts old below e).0)))

-- another port shows what it showed
port_stays : (s : State) (e : Event) (p : ℕ) → (changed_port e ≡ Some p → ⊥) → shown (gate_next s.config p e) (exchange_next s p e) ≡ fields_of s p
port_stays s (Begin q k v) p ne = unexchanged s p q (exchange_by (service s (owner s.config p)) (exchange s p) (Begin q k v)) ne
port_stays s (Call q k v) p ne = unexchanged s p q (exchange_by (service s (owner s.config p)) (exchange s p) (Call q k v)) ne
port_stays s (Give q k v) p ne = unexchanged s p q (exchange_by (service s (owner s.config p)) (exchange s p) (Give q k v)) ne
port_stays s (More q k v) p ne = unexchanged s p q (exchange_by (service s (owner s.config p)) (exchange s p) (More q k v)) ne
port_stays s (Ask q k v) p ne = unexchanged s p q (exchange_by (service s (owner s.config p)) (exchange s p) (Ask q k v)) ne
port_stays s (End q k v) p ne = unexchanged s p q (exchange_by (service s (owner s.config p)) (exchange s p) (End q k v)) ne
port_stays s (Close q) p ne = unregated s p q (record (gate s.config p) { closed = true }) ne
port_stays s (Reopen q) p ne = unregated s p q (record (gate s.config p) { closed = false }) ne
port_stays s (Link q n x) p ne = unregated s p q (record (gate s.config p) { target = Some (record { node = n; provide = x }) }) ne
port_stays s (Unlink q) p ne = unregated s p q (record (gate s.config p) { target = None }) ne
port_stays s (Take q k v) p ne = refl
port_stays s (Hear q k v) p ne = refl
port_stays s (Miss q) p ne = refl
port_stays s (Make n node from) p ne = made_shows s n node from p
port_stays s (Remove n) p ne = refl

pub port_word_follows : (s t : State) (e : Event) → IsWellFormed s → Step s e t → (p : ℕ) → changed_port e ≡ Some p → fields_of t p ≡ fields_after e (fields_of s p)
port_word_follows s t e w step p at =
    let a = steps_alter s t e w step in (λ i. shown (a.config.gates p i) (a.exchanges p i)) ∙ port_next s e (legal s e step.allowed) p at

pub port_word_stays : (s t : State) (e : Event) → IsWellFormed s → Step s e t → (p : ℕ) → (changed_port e ≡ Some p → ⊥) → fields_of t p ≡ fields_of s p
port_word_stays s t e w step p ne =
    let a = steps_alter s t e w step in (λ i. shown (a.config.gates p i) (a.exchanges p i)) ∙ port_stays s e p ne

-- ---- what events make of the words of slots

abbrev word_in : Option Slot → ℕ
word_in o = option_map_or (λ m. pack_slot (slot_fields_of m)) o 0

next_slot : (s : State) (n : ℕ) (node : Node) (from : Option ℕ) → Legal s (Make n node from) → n ≡ length s.config.slots
next_slot s n node from l =
    let c = s.config in
    let both = and_parts ((n == length c.slots) && nat_lt n MAX_NODES) (nat_le (length c.gates + length (row node.kind).requires_) MAX_PORTS) l.room in
    eqb-true n (length c.slots) (and_parts (n == length c.slots) (nat_lt n MAX_NODES) both.0).0

pub slot_word_unmade : (s t : State) (n : ℕ) (node : Node) (from : Option ℕ) → Step s (Make n node from) t → slot_word_of s.config n ≡ 0
slot_word_unmade s t n node from step =
    let at = next_slot s n node from (legal s (Make n node from) step.allowed) in
    ap word_in (slice_get_past s.config.slots n (omega (arith, at)))

pub slot_word_made : (s t : State) (n : ℕ) (node : Node) (from : Option ℕ) → IsWellFormed s → Step s (Make n node from) t
    → slot_word_of t.config n ≡ pack_slot (record { kind = node.kind; first_port = length s.config.gates; arg = node.arg; from = from })
slot_word_made s t n node from w step =
    let c = s.config in
    let a = steps_alter s t (Make n node from) w step in
    let at = next_slot s n node from (legal s (Make n node from) step.allowed) in
    let made : Slot = record { node = node; first_port = length c.gates; from = from; live = true } in
    ap word_in (a.config.slots n ∙ ap (λ b. cond b (Some made) (slot c n)) (eq-eqb n (length c.slots) at))

-- a node that is removed leaves the word of its slot
leaves : (b : Bool) (o : Option Slot) → word_in (cond b (option_map (λ (m : Slot). record m { live = false }) o) o) ≡ word_in o
leaves false o = refl
leaves true None = refl
leaves true (Some m) = refl

slot_stays : (s : State) (e : Event) → Legal s e → (n : ℕ) → (changed_slot e ≡ Some n → ⊥) → word_in (slot_next s.config n e) ≡ word_in (slot s.config n)
slot_stays s (Make m node from) l n ne =
    let c = s.config in
    let made : Slot = record { node = node; first_port = length c.gates; from = from; live = true } in
    ap (λ b. word_in (cond b (Some made) (slot c n))) (ne_eqb n (length c.slots) (λ at. ne (ap Some (next_slot s m node from l ∙ sym at))))
slot_stays s (Remove m) l n ne = leaves (n == m) (slot s.config n)
slot_stays s (Begin p k v) l n ne = refl
slot_stays s (Call p k v) l n ne = refl
slot_stays s (Miss p) l n ne = refl
slot_stays s (Take p k v) l n ne = refl
slot_stays s (Give p k v) l n ne = refl
slot_stays s (More p k v) l n ne = refl
slot_stays s (Ask p k v) l n ne = refl
slot_stays s (Hear p k v) l n ne = refl
slot_stays s (End p k v) l n ne = refl
slot_stays s (Close p) l n ne = refl
slot_stays s (Reopen p) l n ne = refl
slot_stays s (Link p m x) l n ne = refl
slot_stays s (Unlink p) l n ne = refl

pub slot_word_stays : (s t : State) (e : Event) → IsWellFormed s → Step s e t → (n : ℕ) → (changed_slot e ≡ Some n → ⊥) → slot_word_of t.config n ≡ slot_word_of s.config n
slot_word_stays s t e w step n ne =
    let a = steps_alter s t e w step in ap word_in (a.config.slots n) ∙ slot_stays s e (legal s e step.allowed) n ne

-- ---- what words tell of transactions

pub words_tell_drained : (s : State) → IsWellFormed s → (p : ℕ) → is_drained (unpack (word_of s p)) ≡ ((gate s.config p).closed && (is_idle (exchange s p).phase || is_some (exchange s p).within))
words_tell_drained s w p = ap is_drained (port_words_decode s w p)

none_is : (o : Option ℕ) → not (is_some o) ≡ is_none o
none_is None = refl
none_is (Some k) = refl

root_is : (p k : ℕ) (f : Phase) (taken : Bool) (o : Option ℕ)
    → (not (is_idle f) && not (is_some o)) ≡ option_map_or (λ (t : OpenTxn). t.root) (option_map (λ st. record { port = p; serial = k; root = is_none o; stage = st }) (stage_of f taken)) false
root_is p k phase.Idle taken o = refl
root_is p k phase.Asked taken o = none_is o
root_is p k phase.Answered taken o = none_is o
root_is p k phase.More taken o = none_is o

pub words_tell_root : (s : State) → IsWellFormed s → (p : ℕ) → has_root (unpack (word_of s p)) ≡ option_map_or (λ (t : OpenTxn). t.root) (open_txn s p) false
words_tell_root s w p =
    let x = exchange s p in ap has_root (port_words_decode s w p) ∙ root_is p x.serial x.phase (is_taken s p) x.within
