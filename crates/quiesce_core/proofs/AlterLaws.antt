-- What is read at each place of a state after an event that may happen.
use Rattle.std.proofs.Common.{◌≡◌, ◌∙◌, ℕ, ◌+◌, ◌-◌, ◌<◌, ◌≤◌, Bool, true, false, cond, ◌&&◌, List, [], ◌∷◌, ◌++◌, length, set, Option, Some, None, refl, sym, ap, subst, ⊎_elim, arith, length-set, length-append, get_or-set_same, get_or-set_other}
use Rattle.std.specs.Prelude.{◌==◌, nat_lt, nat_le, slice_get, option_map}
use Rattle.std.specs.Option.{option_map_or}
use Rattle.std.proofs.lemmas.Bool.{and_from, and_parts, cases_Bool, cases_eq, cases_lt, both_ways, eq-eqb, ne_eqb, ltb-true, leb-true, le-leb, lt-ltb}
use Rattle.std.proofs.lemmas.List.{get_or_append_left, get_or-append-add, get_or_past}
use Rattle.std.proofs.lemmas.List.FromFn.{get_or-map-range_with_len, length-map-range_with_len}
use Rattle.std.proofs.lemmas.Option.{slice_get_within, slice_get_past}
use Rattle.config_graph.specs.Kinds.{row}
use Rattle.config_graph.specs.declared.node.Node.{Node}
use Rattle.config_graph.specs.declared.node.Target.{Target}
use Rattle.quiesce_core.specs.declared.event.Event.{Event}
use Rattle.quiesce_core.specs.declared.event.Event.TheVariants.{Begin, Call, Take, Give, End, More, Ask, Hear, Miss, Close, Reopen, Make, Link, Unlink, Remove}
use Rattle.quiesce_core.specs.declared.state.Slot.{Slot}
use Rattle.quiesce_core.specs.declared.state.Gate.{Gate}
use Rattle.quiesce_core.specs.declared.state.Exchange.{Exchange}
use Rattle.quiesce_core.specs.declared.state.Service.{Service}
use Rattle.quiesce_word.specs.declared.phase.Phase.TheVariants as phase
use Rattle.quiesce_core.specs.State.{Configuration, State, fresh_gate, fresh_exchange, slot, gate, owner, target, exchange, service, target_service}
use Rattle.quiesce_core.specs.Effect.{with_gate, with_exchange, with_service, with_target_service, with_call, with_node, with_removed, with_target, new_gates, effect}
use Rattle.quiesce_core.specs.Legal.{Legal}
use Rattle.quiesce_core.specs.Runs.{Step}
use Rattle.quiesce_core.specs.WellFormed.{IsWellFormed}
use Rattle.quiesce_core.specs.Alters.{Alters, Reconfigures, exchange_next, gate_next, nodes_next, ports_next, service_next, slot_next}
use Rattle.quiesce_core.proofs.LegalLaws.{legal}
use Rattle.quiesce_core.proofs.StateLaws.{exchange_here, exchange_there, service_here, service_there, put_is, target_service_is}
use Rattle.quiesce_core.proofs.TableLaws.{gate_place, exchange_place, owner_place, target_place}
use Rattle.quiesce_core.specs.Doers.{is_of_change}
use Rattle.base.proofs.PlaceLaws.{fresh_behind, slice_get-append_front, slice_get-last, slice_get-set_other, slice_get-set_same}

-- a value that goes by the place where it is put
put_exchange : (s st : State) (q : ℕ) (x : ℕ → Exchange) → ((i : ℕ) → exchange st i ≡ exchange s i) → q < length st.traffic.exchanges → (p : ℕ)
    → exchange (with_exchange st q (x q)) p ≡ cond (q == p) (x p) (exchange s p)
put_exchange s st q x alike made p = ⊎_elim
    (λ (same : q ≡ p). rw (eq-eqb q p same) (ap (λ i. exchange (with_exchange st q (x q)) i) (sym same) ∙ exchange_here st q (x q) made ∙ ap x same))
    (λ (other : q ≡ p → ⊥). rw (ne_eqb q p other) (exchange_there st q p (x q) (λ e. other (sym e)) ∙ alike p))
    (cases_eq q p)

put_service : (s : State) (d : ℕ) (v : ℕ → Option Service) → d < length s.traffic.services → (n : ℕ) → service (with_service s d (v d)) n ≡ cond (d == n) (v n) (service s n)
put_service s d v made n = ⊎_elim
    (λ (same : d ≡ n). rw (eq-eqb d n same) (ap (λ i. service (with_service s d (v d)) i) (sym same) ∙ service_here s d (v d) made ∙ ap v same))
    (λ (other : d ≡ n → ⊥). rw (ne_eqb d n other) (service_there s d n (v d) (λ e. other (sym e))))
    (cases_eq d n)

-- where the port leads, or nowhere
put_at_target : (s : State) (q : ℕ) (f : Option Service → Option Service) → IsWellFormed s → (n : ℕ) → (o : Option Target) → target s.config q ≡ o
    → service (with_target_service s q (f (target_service s q))) n ≡ cond (option_map_or (λ m. m == n) (option_map (λ (t : Target). t.node) o) false) (f (service s n)) (service s n)
put_at_target s q f w n None leads =
    ap (λ o. service (record s { traffic = record s.traffic { services = option_map_or (λ (t : Target). set s.traffic.services t.node (f (target_service s q))) o s.traffic.services } }) n) leads
put_at_target s q f w n (Some t) leads =
    ap (λ v. service (with_target_service s q (f v)) n) (target_service_is s q t leads)
    ∙ ap (λ st. service st n) (put_is s q t (f (service s t.node)) leads)
    ∙ put_service s t.node (λ m. f (service s m)) (target_place s q t w leads) n

at_target : (s : State) (q : ℕ) (e : Event) (f : Option Service → Option Service) → IsWellFormed s → (n : ℕ)
    → service (with_target_service s q (f (target_service s q))) n ≡ cond (option_map_or (λ m. m == n) (option_map (λ (t : Target). t.node) (target s.config q)) false) (f (service s n)) (service s n)
at_target s q e f w n = put_at_target s q f w n (target s.config q) refl

pub exchanges_next : (s : State) (e : Event) → IsWellFormed s → Legal s e → (p : ℕ) → exchange (effect s e) p ≡ exchange_next s p e
exchanges_next s (Begin q k v) w l p = put_exchange s s q (λ i. record { phase = phase.Asked; serial = k; value = v; within = None }) (λ i. refl) (exchange_place s q w l.live) p
exchanges_next s (Call q k v) w l p =
    put_exchange s (with_call s (owner s.config q)) q
    (λ i. record { phase = phase.Asked; serial = k; value = v; within = option_map (λ (u : Service). u.port) (service s (owner s.config i)) }) (λ i. refl) (exchange_place s q w l.live) p
exchanges_next s (Give q k v) w l p =
    put_exchange s (with_target_service s q None) q (λ i. record (exchange s i) { phase = phase.Answered; value = v }) (λ i. refl) (exchange_place s q w l.live) p
exchanges_next s (More q k v) w l p =
    put_exchange s (with_target_service s q (option_map (λ (u : Service). record u { mores = u.mores + 1; heard = false }) (target_service s q))) q
    (λ i. record (exchange s i) { phase = phase.More; value = v }) (λ i. refl) (exchange_place s q w l.live) p
exchanges_next s (Ask q k v) w l p = put_exchange s s q (λ i. record (exchange s i) { phase = phase.Asked; value = v }) (λ i. refl) (exchange_place s q w l.live) p
exchanges_next s (End q k v) w l p = put_exchange s s q (λ i. record (exchange s i) { phase = phase.Idle; value = 0; within = None }) (λ i. refl) (exchange_place s q w l.live) p
exchanges_next s (Make n node from) w l p = fresh_behind s.traffic.exchanges fresh_exchange (length (row node.kind).requires_) p
exchanges_next s _ w l p = refl

either : {A : Type 0} (b : Bool) (x : A) → x ≡ cond b x x
either true x = refl
either false x = refl

pub services_next : (s : State) (e : Event) → IsWellFormed s → Legal s e → (n : ℕ) → service (effect s e) n ≡ service_next s n e
services_next s (Begin q k v) w l n = either (owner s.config q == n) (service s n)
services_next s (Call q k v) w l n =
    put_service s (owner s.config q) (λ i. option_map (λ (u : Service). record u { calls = u.calls + 1 }) (service s i)) (owner_place s q w l.live) n
services_next s (Miss q) w l n =
    put_service s (owner s.config q) (λ i. option_map (λ (u : Service). record u { calls = u.calls + 1 }) (service s i)) (owner_place s q w l.live) n
services_next s (Take q k v) w l n = at_target s q (Take q k v) (λ u. Some (record { port = q; calls = 0; mores = 0; heard = true })) w n
services_next s (Give q k v) w l n = at_target s q (Give q k v) (λ u. None) w n
services_next s (More q k v) w l n = at_target s q (More q k v) (λ u. option_map (λ (u : Service). record u { mores = u.mores + 1; heard = false }) u) w n
services_next s (Ask q k v) w l n = either (owner s.config q == n) (service s n)
services_next s (Hear q k v) w l n = at_target s q (Hear q k v) (λ u. option_map (λ (u : Service). record u { heard = true }) u) w n
services_next s (End q k v) w l n = either (owner s.config q == n) (service s n)
services_next s (Make m node from) w l n = fresh_behind s.traffic.services None 1 n
services_next s _ w l n = refl

-- configurations

put_gate : (c : Configuration) (q : ℕ) (g : ℕ → Gate) → q < length c.gates → (p : ℕ) → gate (with_gate c q (g q)) p ≡ cond (q == p) (g p) (gate c p)
put_gate c q g made p = ⊎_elim
    (λ (same : q ≡ p). rw (eq-eqb q p same) (ap (λ i. gate (with_gate c q (g q)) i) (sym same) ∙ get_or-set_same c.gates q (g q) fresh_gate made ∙ ap g same))
    (λ (other : q ≡ p → ⊥). rw (ne_eqb q p other) (get_or-set_other c.gates q p (g q) fresh_gate (λ e. other (sym e))))
    (cases_eq q p)

slice_get-pushed : {A : Type 0} (xs : List A) (y : A) (i : ℕ) → slice_get (xs ++ y ∷ []) i ≡ cond (i == length xs) (Some y) (slice_get xs i)
slice_get-pushed xs y i = ⊎_elim
    (λ (same : i ≡ length xs). rw (eq-eqb i (length xs) same) (ap (slice_get (xs ++ y ∷ [])) same ∙ slice_get-last xs y))
    (λ (other : i ≡ length xs → ⊥). rw (ne_eqb i (length xs) other) (⊎_elim
    (λ (before : i < length xs). slice_get-append_front xs (y ∷ []) i before)
    (λ (past : length xs ≤ i).
    slice_get_past (xs ++ y ∷ []) i (omega (arith, length-append xs (y ∷ []), past, apart i (length xs) other past)) ∙ sym (slice_get_past xs i past))
    (cases_lt i (length xs))))
    (cases_eq i (length xs))
  where
    apart : (i k : ℕ) → (i ≡ k → ⊥) → k ≤ i → k < i
    apart i k ne h = ⊎_elim (λ (l : k < i). l) (λ (l : i ≤ k). absurd (ne (omega arith))) (cases_lt k i)

set_removed : (c : Configuration) (n m : ℕ) (o : Option Slot) → slot c n ≡ o
    → slot (with_removed c n) m ≡ cond (m == n) (option_map (λ (k : Slot). record k { live = false }) (slot c m)) (slot c m)
set_removed c n m None there =
    ap (λ o. slice_get (option_map_or (λ (k : Slot). set c.slots n (record k { live = false })) o c.slots) m) there
    ∙ ⊎_elim
    (λ (same : m ≡ n). rw (eq-eqb m n same) (let none_ : slot c m ≡ None = ap (slot c) same ∙ there in none_ ∙ sym (ap (option_map (λ (k : Slot). record k { live = false })) none_)))
    (λ (other : m ≡ n → ⊥). rw (ne_eqb m n other) refl)
    (cases_eq m n)
set_removed c n m (Some old) there =
    ap (λ o. slice_get (option_map_or (λ (k : Slot). set c.slots n (record k { live = false })) o c.slots) m) there
    ∙ ⊎_elim
    (λ (same : m ≡ n). rw (eq-eqb m n same)
    (ap (slice_get (set c.slots n (record old { live = false }))) same ∙ slice_get-set_same c.slots n (record old { live = false }) (slice_get_within c.slots n old there)
    ∙ sym (ap (option_map (λ (k : Slot). record k { live = false })) (ap (slot c) same ∙ there))))
    (λ (other : m ≡ n → ⊥). rw (ne_eqb m n other) (slice_get-set_other c.slots n (record old { live = false }) m other))
    (cases_eq m n)

-- a list of ports with those of a new node behind them
grown : (c : Configuration) (node : Node) (from : Option ℕ) → length (with_node c node from).gates ≡ length c.gates + length (row node.kind).requires_
grown c node from =
    length-append c.gates (new_gates (length c.slots) (length (row node.kind).requires_))
    ∙ ap (λ k. length c.gates + k) (length-map-range_with_len (λ r. record { owner = length c.slots; require = r; closed = true; target = None }) 0 (length (row node.kind).requires_))

made_gate : (c : Configuration) (node : Node) (from : Option ℕ) (n p : ℕ) → gate (with_node c node from) p ≡ gate_next c p (Make n node from)
made_gate c node from n p =
    let k : ℕ = length (row node.kind).requires_ in
    ⊎_elim
    (λ (yes_ : (nat_le (length c.gates) p && nat_lt p (length c.gates + length (row node.kind).requires_)) ≡ true).
    let both = and_parts (nat_le (length c.gates) p) (nat_lt p (length c.gates + length (row node.kind).requires_)) yes_ in
    let low : length c.gates ≤ p = leb-true (length c.gates) p both.0 in
    let high : p < length c.gates + length (row node.kind).requires_ = ltb-true p (length c.gates + length (row node.kind).requires_) both.1 in
    let at : length c.gates + (p - length c.gates) ≡ p = omega arith in
    rw yes_ (ap (λ i. gate (with_node c node from) i) (sym at)
    ∙ get_or-append-add c.gates (new_gates (length c.slots) (length (row node.kind).requires_)) (p - length c.gates) fresh_gate
    ∙ get_or-map-range_with_len (λ r. record { owner = length c.slots; require = r; closed = true; target = None }) 0 (length (row node.kind).requires_) (p - length c.gates) (p - length c.gates) fresh_gate (omega arith) (omega arith)))
    (λ (no_ : (nat_le (length c.gates) p && nat_lt p (length c.gates + length (row node.kind).requires_)) ≡ false).
    rw no_ (⊎_elim
    (λ (before : p < length c.gates). get_or_append_left c.gates (new_gates (length c.slots) (length (row node.kind).requires_)) fresh_gate p before)
    (λ (past : length c.gates ≤ p). ⊎_elim
    (λ (new_ : p < length c.gates + length (row node.kind).requires_).
    absurd (both_ways (nat_le (length c.gates) p && nat_lt p (length c.gates + length (row node.kind).requires_)) no_
    (and_from (nat_le (length c.gates) p) (nat_lt p (length c.gates + length (row node.kind).requires_)) (le-leb (length c.gates) p past) (lt-ltb p (length c.gates + length (row node.kind).requires_) new_))))
    (λ (beyond : length c.gates + length (row node.kind).requires_ ≤ p).
    get_or_past (with_node c node from).gates p fresh_gate (omega (arith, grown c node from, beyond)) ∙ sym (get_or_past c.gates p fresh_gate past))
    (cases_lt p (length c.gates + length (row node.kind).requires_)))
    (cases_lt p (length c.gates))))
    (cases_Bool (nat_le (length c.gates) p && nat_lt p (length c.gates + length (row node.kind).requires_)))

same_config : (c : Configuration) (e : Event) → nodes_next c e ≡ length c.slots → ports_next c e ≡ length c.gates → ((n : ℕ) → slot_next c n e ≡ slot c n) → ((p : ℕ) → gate_next c p e ≡ gate c p) → Reconfigures c e c
same_config c e nodes ports slots gates = record { nodes = sym nodes; ports = sym ports; slots = λ n. sym (slots n); gates = λ p. sym (gates p) }

pub ports_grow : (c : Configuration) (e : Event) → length c.gates ≤ ports_next c e
ports_grow c (Make n node from) = omega arith
ports_grow c _ = omega arith

gate_alters : (c : Configuration) (q : ℕ) (g : ℕ → Gate) (e : Event) → q < length c.gates → nodes_next c e ≡ length c.slots → ports_next c e ≡ length c.gates → ((n : ℕ) → slot_next c n e ≡ slot c n)
    → ((p : ℕ) → gate_next c p e ≡ cond (q == p) (g p) (gate c p)) → Reconfigures c e (with_gate c q (g q))
gate_alters c q g e made nodes ports slots gates = record {
  nodes = sym nodes;
  ports = length-set c.gates q (g q) ∙ sym ports;
  slots = λ n. sym (slots n);
  gates = λ p. put_gate c q g made p ∙ sym (gates p);
}

-- a port that was made leads elsewhere, whether or not that closes a cycle
pub link_reconfigures : (c : Configuration) (q n x : ℕ) → q < length c.gates → Reconfigures c (Link q n x) (with_target c q (Some (record { node = n; provide = x })))
link_reconfigures c q n x made =
    gate_alters c q (λ i. record (gate c i) { target = Some (record { node = n; provide = x }) }) (Link q n x) made refl refl (λ n. refl) (λ p. refl)

pub removed_length : (c : Configuration) (n : ℕ) (o : Option Slot) → length (option_map_or (λ (k : Slot). set c.slots n (record k { live = false })) o c.slots) ≡ length c.slots
removed_length c n None = refl
removed_length c n (Some k) = length-set c.slots n (record k { live = false })

pub reconfigured : (s : State) (e : Event) → Legal s e → Reconfigures s.config e (effect s e).config
reconfigured s (Begin q k v) l = same_config s.config (Begin q k v) refl refl (λ n. refl) (λ p. refl)
reconfigured s (Call q k v) l = same_config s.config (Call q k v) refl refl (λ n. refl) (λ p. refl)
reconfigured s (Miss q) l = same_config s.config (Miss q) refl refl (λ n. refl) (λ p. refl)
reconfigured s (Take q k v) l = same_config s.config (Take q k v) refl refl (λ n. refl) (λ p. refl)
reconfigured s (Give q k v) l = same_config s.config (Give q k v) refl refl (λ n. refl) (λ p. refl)
reconfigured s (More q k v) l = same_config s.config (More q k v) refl refl (λ n. refl) (λ p. refl)
reconfigured s (Ask q k v) l = same_config s.config (Ask q k v) refl refl (λ n. refl) (λ p. refl)
reconfigured s (Hear q k v) l = same_config s.config (Hear q k v) refl refl (λ n. refl) (λ p. refl)
reconfigured s (End q k v) l = same_config s.config (End q k v) refl refl (λ n. refl) (λ p. refl)
reconfigured s (Close q) l =
    gate_alters s.config q (λ i. record (gate s.config i) { closed = true }) (Close q) (gate_place s q l.live) refl refl (λ n. refl) (λ p. refl)
reconfigured s (Reopen q) l =
    gate_alters s.config q (λ i. record (gate s.config i) { closed = false }) (Reopen q) (gate_place s q l.live) refl refl (λ n. refl) (λ p. refl)
reconfigured s (Link q n x) l = link_reconfigures s.config q n x (gate_place s q l.live)
reconfigured s (Unlink q) l =
    gate_alters s.config q (λ i. record (gate s.config i) { target = None }) (Unlink q) (gate_place s q l.live) refl refl (λ n. refl) (λ p. refl)
reconfigured s (Make n node from) l = record {
  nodes = length-append s.config.slots (record { node = node; first_port = length s.config.gates; from = from; live = true } ∷ []);
  ports = grown s.config node from;
  slots = slice_get-pushed s.config.slots (record { node = node; first_port = length s.config.gates; from = from; live = true });
  gates = made_gate s.config node from n;
}
reconfigured s (Remove n) l = record {
  nodes = removed_length s.config n (slot s.config n);
  ports = refl;
  slots = λ m. set_removed s.config n m (slot s.config n) refl;
  gates = λ p. refl;
}

pub alters_next : (s : State) (e : Event) → IsWellFormed s → Legal s e → Alters s e (effect s e)
alters_next s e w l = record { config = reconfigured s e l; services = services_next s e w l; exchanges = exchanges_next s e w l }

-- a step changes just that
pub steps_alter : (s t : State) (e : Event) → IsWellFormed s → Step s e t → Alters s e t
steps_alter s t e w step = subst (λ u. Alters s e u) (sym step.changed) (alters_next s e w (legal s e step.allowed))

pub slots_grow : (c : Configuration) (e : Event) → length c.slots ≤ nodes_next c e
slots_grow c (Make n node from) = omega arith
slots_grow c _ = omega arith

pub change_exchange : (s : State) (p : ℕ) (e : Event) → is_of_change e ≡ true → exchange_next s p e ≡ exchange s p
change_exchange s p (Close q) h = refl
change_exchange s p (Reopen q) h = refl
change_exchange s p (Make n node from) h = refl
change_exchange s p (Link q n x) h = refl
change_exchange s p (Unlink q) h = refl
change_exchange s p (Remove n) h = refl
change_exchange s p _ h = absurd (both_ways false refl h)
