-- What may come next stays so until it came, and two members that may come next may come in either order. So whoever lets
-- come whatever may comes to the end, where one way leads there.
use Rattle.std.proofs.Common.{◌≡◌, ◌∙◌, ℕ, zero, suc, ◌+◌, ◌<◌, Bool, true, false, cond, not, ◌&&◌, ◌||◌, List, [], ◌∷◌, length, set, Option, Some, None, refl, sym, ap, ap₂, subst, ⊎_elim, arith, get_or-set_other}
use Rattle.std.specs.Prelude.{◌==◌, nat_lt, is_none, is_some, fold}
use Rattle.std.specs.List.{list_any}
use Rattle.std.specs.Option.{option_map_or}
use Rattle.std.proofs.lemmas.Bool.{and_from, and_parts, both_ways, eqb-true, eq-eqb, false_from_ne_true, lt-ltb, not-true, or_cases, or_from, or_left, or_parts, or_right}
use Rattle.std.proofs.lemmas.Option.{same_Some}
use Rattle.base.proofs.OptionLaws.{None-from_is_none, map_or_true}
use Rattle.base.proofs.PlaceLaws.{set-set_other}
use Rattle.config_graph.specs.Kinds.{depends_on, is_depended_on}
use Rattle.config_graph.proofs.KindLaws.{depended_if}
use Rattle.config_graph.specs.declared.node.Node.{Node}
use Rattle.quiesce_word.specs.Phases.{is_idle}
use Rattle.quiesce_core.specs.declared.event.Event.{Event}
use Rattle.quiesce_core.specs.declared.event.Event.TheVariants.{Begin, Call, End, Close, Reopen, Make, Link, Unlink, Remove}
use Rattle.quiesce_core.specs.declared.state.Exchange.{Exchange}
use Rattle.quiesce_core.specs.declared.state.Service.{Service}
use Rattle.quiesce_core.specs.declared.state.Slot.{Slot}
use Rattle.quiesce_core.specs.State.{Configuration, State, depends, exchange, gate, is_live, owner, provision, service, slot}
use Rattle.quiesce_core.specs.Doers.{is_of_change}
use Rattle.quiesce_core.specs.Effect.{effect}
use Rattle.quiesce_core.specs.Legal.{Legal}
use Rattle.quiesce_core.specs.Rules.{denial, is_live_port}
use Rattle.quiesce_core.specs.Runs.{is_doer}
use Rattle.quiesce_core.specs.Traffic.{IsConsistent}
use Rattle.quiesce_core.specs.WellFormed.{IsWellFormed}
use Rattle.quiesce_core.proofs.LegalLaws.{legal}
use Rattle.quiesce_core.proofs.RunLaws.{steps_keep_consistency, node_events_keep_the_configuration}
use Rattle.quiesce_core.proofs.TableLaws.{gate_place, live_made}
use Rattle.quiesce_core.proofs.PortEventLaws.{next_serial}
use Rattle.quiesce_laws.specs.Drained.{is_drained}
use Rattle.quiesce_laws.specs.Roots.{has_root}
use Rattle.quiesce_laws.proofs.ExchangeLaws.{PortStep, stays, begins, calls, ends, port_step}
use Rattle.quiesce_laws.proofs.ExtensionLaws.{extends_next, read_before}
use Rattle.report_types.specs.declared.report.HistoryLine.{HistoryLine}
use Rattle.report_types.specs.declared.report.HistoryLine.TheVariants as to
use Rattle.change_spec.specs.Members.{is_close}
use Rattle.quiesce_laws.specs.Independence.{clashes}
use Rattle.merge_laws.specs.Guarded.{Left, can_go, closes_before, do_first, go, is_beyond, is_called_at, is_met, is_root_line, left, log_of, may_do, may_do_first, may_go, may_tell, may_tell_first, tell_first, tells, told, told_state, waits}
use Rattle.merge_laws.proofs.SwapLemmas.{change_and_node, does_still, two_nodes}
use Rattle.merge_laws.proofs.ConfluenceLemmas as confluence
use Rattle.merge_laws.proofs.GuardedLaws.{shorter}

-- ---- what is known of a member that may come

pub record Sound (s : State) : Type 0 where
  pub formed : IsWellFormed s
  pub consistent : IsConsistent s

pub record May (s : State) (lines : List HistoryLine) (n : ℕ) (e : Event) : Type 0 where
  pub node : is_of_change e ≡ false
  pub does : is_doer s n e ≡ true
  pub allowed : denial s e ≡ None
  pub free : waits s lines e ≡ false

may_parts : (s : State) (lines : List HistoryLine) (n : ℕ) (e : Event) → may_do s lines n e ≡ true → May s lines n e
may_parts s lines n e h =
    let one = and_parts (not (is_of_change e)) _ h in
    let two = and_parts (is_doer s n e) _ one.1 in
    let three = and_parts (is_none (denial s e)) _ two.1 in
    record {
      node = not-true (is_of_change e) one.0;
      does = two.0;
      allowed = None-from_is_none (denial s e) three.0;
      free = not-true (waits s lines e) three.1;
    }

pub may_if : (s : State) (lines : List HistoryLine) (n : ℕ) (e : Event) → May s lines n e → may_do s lines n e ≡ true
may_if s lines n e m =
    and_from (not (is_of_change e)) _ (ap not m.node)
    (and_from (is_doer s n e) _ m.does (and_from (is_none (denial s e)) _ (ap is_none m.allowed) (ap not m.free)))

-- ---- ports at which services call

pub called_alike : (s : State) (x : Event) → Legal s x → (p : ℕ) → p < length s.config.gates → is_live s.config (owner s.config p) ≡ true
    → is_called_at (effect s x).config p ≡ is_called_at s.config p
called_alike s x l p made live =
    let grown = extends_next s x l in
    let c = s.config in
    let d = (effect s x).config in
    ap₂ (λ i r. option_map_or (λ (m : Slot). is_depended_on m.node.kind r) (slot d i) false) (grown.owners p made) (grown.requirements p made)
    ∙ read_before c d grown (owner c p) (live_made c (owner c p) live) (λ (m : Slot). is_depended_on m.node.kind (gate c p).require) false
    (λ a b same first. ap (λ (k : Node). is_depended_on k.kind (gate c p).require) same)

called_kept : (s : State) (x : Event) → Legal s x → (p : ℕ) → is_live_port s.config p ≡ true → is_called_at (effect s x).config p ≡ is_called_at s.config p
called_kept s x l p live = called_alike s x l p (gate_place s p live) (and_parts _ (is_live s.config (owner s.config p)) live).1

-- a service that calls at a port calls at one of these
pub call_is_there : (s : State) (p : ℕ) → option_map_or (λ (v : Service). depends s.config (owner s.config p) (provision s.config v.port) p) (service s (owner s.config p)) false ≡ true
    → is_called_at s.config p ≡ true
call_is_there s p h =
    let v = map_or_true (λ (v : Service). depends s.config (owner s.config p) (provision s.config v.port) p) (service s (owner s.config p)) h in
    let m = map_or_true (λ (m : Slot). depends_on m.node.kind (provision s.config v.0.port) (gate s.config p).require) (slot s.config (owner s.config p)) v.2 in
    ap (λ o. option_map_or (λ (k : Slot). is_depended_on k.node.kind (gate s.config p).require) o false) m.1
    ∙ depended_if m.0.node.kind (provision s.config v.0.port) (gate s.config p).require m.2

pub root_is_busy : (s : State) (p k : ℕ) → has_root s p k ≡ true → is_idle (exchange s p).phase ≡ false
root_is_busy s p k h =
    not-true (is_idle (exchange s p).phase)
    (and_parts (not (is_idle (exchange s p).phase)) (not (is_some (exchange s p).within)) (and_parts _ ((exchange s p).serial == k) h).0).0

beyond : (j k serial : ℕ) → (serial == j) ≡ true → k ≡ serial + 1 → nat_lt j k ≡ false → ⊥
beyond j k serial is next_ h = both_ways (nat_lt j k) h (lt-ltb j k (omega (arith, eqb-true serial j is, next_)))

closing_bars : (s : State) (p k : ℕ) (o : Option HistoryLine) → is_idle (exchange s p).phase ≡ true → k ≡ (exchange s p).serial + 1 → is_met s p o ≡ true
    → (is_called_at s.config p || is_beyond k o) ≡ false → ⊥
closing_bars s p k None idle next_ met free = both_ways false refl met
closing_bars s p k (Some (to.Drained q j)) idle next_ met free =
    let parts = or_parts (is_called_at s.config p) (nat_lt j k) free in
    ⊎_elim
    (λ (called : is_called_at s.config p ≡ true). both_ways (is_called_at s.config p) parts.0 called)
    (λ (is : ((exchange s p).serial == j) ≡ true). beyond j k (exchange s p).serial is next_ parts.1)
    (or_cases (is_called_at s.config p) ((exchange s p).serial == j) met)
closing_bars s p k (Some (to.Root q j)) idle next_ met free = both_ways (is_idle (exchange s p).phase) (root_is_busy s p j met) idle
closing_bars s p k (Some _) idle next_ met free = both_ways false refl met

no_clash : (s : State) (p n : ℕ) (rest : List HistoryLine) (e : Event) → is_met s p (told p rest) ≡ true → May s (to.Close p ∷ rest) n e → clashes (Close p) e ≡ false
no_clash s p n rest (Begin q k v) met m = false_from_ne_true (p == q) (λ h.
    let same = eqb-true p q h in
    let l = legal s (Begin q k v) m.allowed in
    closing_bars s q k (told q rest) l.idle (next_serial s q k l.next_serial) (ap (λ i. is_met s i (told i rest)) (sym same) ∙ met) m.free)
no_clash s p n rest _ met m = refl

-- ---- a line, and then the event of a node

-- an event waits for no more than it did
freed : (s t : State) (l : HistoryLine) (rest : List HistoryLine) (n : ℕ) (e : Event) → May s (l ∷ rest) n e
    → ((p : ℕ) → is_live_port s.config p ≡ true → is_called_at t.config p ≡ is_called_at s.config p)
    → ((p k v : ℕ) → e ≡ Begin p k v → told p (l ∷ rest) ≡ told p rest) → ((p k v : ℕ) → e ≡ Call p k v → told p (l ∷ rest) ≡ told p rest)
    → waits t rest e ≡ false
freed s t l rest n (Begin p k v) m same begun called =
    let parts = or_parts (is_called_at s.config p) (is_beyond k (told p (l ∷ rest))) m.free in
    or_from (is_called_at t.config p) (is_beyond k (told p rest)) (same p ((legal s (Begin p k v) m.allowed).live) ∙ parts.0)
    (ap (is_beyond k) (sym (begun p k v refl)) ∙ parts.1)
freed s t l rest n (Call p k v) m same begun called = ap (is_beyond k) (sym (called p k v refl)) ∙ m.free
freed s t l rest n (End p k v) m same begun called = (or_parts (is_close l && list_any (is_root_line p k) rest) (closes_before p k rest) m.free).1
freed s t l rest n _ m same begun called = refl

-- behind an event of the change
after_change : (s : State) (x : Event) (l : HistoryLine) (rest : List HistoryLine) (n : ℕ) (e : Event) → Sound s → denial s x ≡ None → is_of_change x ≡ true
    → clashes x e ≡ false → ((p : ℕ) → told p (l ∷ rest) ≡ told p rest) → May s (l ∷ rest) n e → May (effect s x) rest n e
after_change s x l rest n e h a c no_ telling m =
    let i = change_and_node s x e n h.formed h.consistent a m.allowed c m.does no_ in
    record {
      node = m.node;
      does = does_still s (effect s x) e n i.second_doer m.does;
      allowed = i.second_behind;
      free = freed s (effect s x) l rest n e m (λ p live. called_kept s x (legal s x a) p live) (λ p k v is. telling p) (λ p k v is. telling p);
    }

-- behind a line that is no event
after_word : (s : State) (l : HistoryLine) (rest : List HistoryLine) (n : ℕ) (e : Event) → May s (l ∷ rest) n e
    → ((p k v : ℕ) → e ≡ Begin p k v → told p (l ∷ rest) ≡ told p rest) → ((p k v : ℕ) → e ≡ Call p k v → told p (l ∷ rest) ≡ told p rest) → May s rest n e
after_word s l rest n e m begun called = record {
  node = m.node;
  does = m.does;
  allowed = m.allowed;
  free = freed s s l rest n e m (λ p live. refl) begun called;
}

-- another port's telling
told_past : (p q : ℕ) (l : HistoryLine) (rest : List HistoryLine) → tells p l ≡ (q == p) → (q ≡ p → ⊥) → told p (l ∷ rest) ≡ told p rest
told_past p q l rest is other = ap (λ b. cond b (Some l) (told p rest)) (is ∙ false_from_ne_true (q == p) (λ h. other (eqb-true q p h)))

shut_now : (s : State) (p : ℕ) → is_drained s p ≡ true → (gate s.config p).closed ≡ true
shut_now s p h = (and_parts (gate s.config p).closed _ h).0

allowed_line : (s : State) (x : Event) → is_none (denial s x) ≡ true → denial s x ≡ None
allowed_line s x h = None-from_is_none (denial s x) h

event_after_line : (s : State) (l : HistoryLine) (rest : List HistoryLine) (n : ℕ) (e : Event) → Sound s → may_tell s rest l ≡ true → May s (l ∷ rest) n e → May (told_state s l) rest n e
event_after_line s (to.Close p) rest n e h t m =
    let both = and_parts (is_none (denial s (Close p))) (is_met s p (told p rest)) t in
    after_change s (Close p) (to.Close p) rest n e h (allowed_line s (Close p) both.0) refl (no_clash s p n rest e both.1 m) (λ q. refl) m
event_after_line s (to.Reopen p) rest n e h t m = after_change s (Reopen p) (to.Reopen p) rest n e h (allowed_line s (Reopen p) t) refl refl (λ q. refl) m
event_after_line s (to.Make k node from) rest n e h t m = after_change s (Make k node from) (to.Make k node from) rest n e h (allowed_line s (Make k node from) t) refl refl (λ q. refl) m
event_after_line s (to.Link p k x) rest n e h t m = after_change s (Link p k x) (to.Link p k x) rest n e h (allowed_line s (Link p k x) t) refl refl (λ q. refl) m
event_after_line s (to.Unlink p) rest n e h t m = after_change s (Unlink p) (to.Unlink p) rest n e h (allowed_line s (Unlink p) t) refl refl (λ q. refl) m
event_after_line s (to.Remove k) rest n e h t m = after_change s (Remove k) (to.Remove k) rest n e h (allowed_line s (Remove k) t) refl refl (λ q. refl) m
event_after_line s (to.Drained p j) rest n e h t m =
    let both = and_parts (is_drained s p) ((exchange s p).serial == j) t in
    after_word s (to.Drained p j) rest n e m
    (λ q k v is. told_past q p (to.Drained p j) rest refl (λ same.
    let l = legal s (Begin q k v) (subst (λ x. denial s x ≡ None) is m.allowed) in
    both_ways (gate s.config q).closed (not-true (gate s.config q).closed l.opened) (ap (λ i. (gate s.config i).closed) (sym same) ∙ shut_now s p both.0)))
    (λ q k v is. told_past q p (to.Drained p j) rest refl (λ same.
    let l = legal s (Call q k v) (subst (λ x. denial s x ≡ None) is m.allowed) in
    let free : is_beyond k (told q (to.Drained p j ∷ rest)) ≡ false = subst (λ x. waits s (to.Drained p j ∷ rest) x ≡ false) is m.free in
    let here : told q (to.Drained p j ∷ rest) ≡ Some (to.Drained p j) = ap (λ b. cond b (Some (to.Drained p j)) (told q rest)) (eq-eqb p q same) in
    beyond j k (exchange s q).serial (ap (λ i. (exchange s i).serial == j) (sym same) ∙ both.1) (next_serial s q k l.next_serial) (sym (ap (is_beyond k) here) ∙ free)))
event_after_line s (to.Root p j) rest n e h t m =
    let both = and_parts (gate s.config p).closed (not (is_called_at s.config p)) t in
    after_word s (to.Root p j) rest n e m
    (λ q k v is. told_past q p (to.Root p j) rest refl (λ same.
    let l = legal s (Begin q k v) (subst (λ x. denial s x ≡ None) is m.allowed) in
    both_ways (gate s.config q).closed (not-true (gate s.config q).closed l.opened) (ap (λ i. (gate s.config i).closed) (sym same) ∙ both.0)))
    (λ q k v is. told_past q p (to.Root p j) rest refl (λ same.
    let l = legal s (Call q k v) (subst (λ x. denial s x ≡ None) is m.allowed) in
    both_ways (is_called_at s.config q) (ap (is_called_at s.config) (sym same) ∙ not-true (is_called_at s.config p) both.1) (call_is_there s q l.serves_through)))
event_after_line s _ rest n e h t m = after_word s _ rest n e m (λ q k v is. refl) (λ q k v is. refl)

-- ---- the event of a node, and then a line

root_told : (p k q : ℕ) (rest : List HistoryLine) → told p rest ≡ Some (to.Root q k) → list_any (is_root_line p k) rest ≡ true
root_told p k q [] is = absurd (cc (is))
root_told p k q (l ∷ rest) is = by (root_told p k q rest) (tells p l) refl
  where
    root_is : (l : HistoryLine) → tells p l ≡ true → l ≡ to.Root q k → is_root_line p k l ≡ true
    root_is l t same =
        let there : (q == p) ≡ true = sym (ap (tells p) same) ∙ t in
        ap (is_root_line p k) same ∙ and_from (q == p) (k == k) there (eq-eqb k k refl)

    by : (told p rest ≡ Some (to.Root q k) → list_any (is_root_line p k) rest ≡ true) → (b : Bool) → tells p l ≡ b → list_any (is_root_line p k) (l ∷ rest) ≡ true
    by further true t =
        let same : l ≡ to.Root q k = same_Some l (to.Root q k) (sym (ap (λ b. cond b (Some l) (told p rest)) t) ∙ is) in
        or_left (is_root_line p k l) (list_any (is_root_line p k) rest) (root_is l t same)
    by further false t = or_right (is_root_line p k l) (list_any (is_root_line p k) rest) (further (sym (ap (λ b. cond b (Some l) (told p rest)) t) ∙ is))

pub last_message : (s : State) (p k v : ℕ) → (k == (exchange s p).serial && v == (exchange s p).value) ≡ true → k ≡ (exchange s p).serial
last_message s p k v h = eqb-true k (exchange s p).serial (and_parts (k == (exchange s p).serial) (v == (exchange s p).value) h).0

met_still : (s : State) (p n : ℕ) (rest : List HistoryLine) (e : Event) → Sound s → is_live_port s.config p ≡ true → May s (to.Close p ∷ rest) n e
    → (o : Option HistoryLine) → told p rest ≡ o → is_met s p o ≡ true → is_met (effect s e) p o ≡ true
met_still s p n rest e h live m None is met = met
met_still s p n rest e h live m (Some (to.Drained q k)) is met = by (port_step s e h.formed h.consistent (legal s e m.allowed) p)
  where
    called : is_called_at (effect s e).config p ≡ is_called_at s.config p
    called = called_kept s e (legal s e m.allowed) p live

    serial_same : (exchange (effect s e) p).serial ≡ (exchange s p).serial → is_met (effect s e) p (Some (to.Drained q k)) ≡ true
    serial_same same = ap₂ (λ b j. b || j == k) called same ∙ met

    by : PortStep s e p (exchange (effect s e) p) → is_met (effect s e) p (Some (to.Drained q k)) ≡ true
    by (stays off serial within idle) = serial_same serial
    by (begins j v it may y) = absurd (both_ways (clashes (Close p) e) (no_clash s p n rest e (ap (is_met s p) is ∙ met) m) (ap (clashes (Close p)) it ∙ eq-eqb p p refl))
    by (calls j v u it may served y) = or_left (is_called_at (effect s e).config p) ((exchange (effect s e) p).serial == k) (called ∙ call_is_there s p may.serves_through)
    by (ends j v it may y) = serial_same (ap (λ (x : Exchange). x.serial) y)
met_still s p n rest e h live m (Some (to.Root q k)) is met = by (port_step s e h.formed h.consistent (legal s e m.allowed) p)
  where
    busy : is_idle (exchange s p).phase ≡ false
    busy = root_is_busy s p k met

    by : PortStep s e p (exchange (effect s e) p) → has_root (effect s e) p k ≡ true
    by (stays off serial within idle) =
        ap₂ (λ b (j : Bool). b && j)
        (ap₂ (λ i w. not i && not (is_some w)) idle within)
        (ap (λ j. j == k) serial) ∙ met
    by (begins j v it may y) = absurd (both_ways (is_idle (exchange s p).phase) busy may.idle)
    by (calls j v u it may served y) = absurd (both_ways (is_idle (exchange s p).phase) busy may.idle)
    by (ends j v it may y) =
        let is_k : j ≡ k = last_message s p j v may.message ∙ eqb-true (exchange s p).serial k (and_parts _ ((exchange s p).serial == k) met).1 in
        let free : closes_before p j (to.Close p ∷ rest) ≡ false = subst (λ x. waits s (to.Close p ∷ rest) x ≡ false) it m.free in
        absurd (both_ways (list_any (is_root_line p j) rest) ((or_parts (list_any (is_root_line p j) rest) (closes_before p j rest) free).0)
        (root_told p j q rest (is ∙ ap (λ i. Some (to.Root q i)) (sym is_k))))
met_still s p n rest e h live m (Some _) is met = met

drained_still : (s : State) (p k n : ℕ) (rest : List HistoryLine) (e : Event) → Sound s → May s (to.Drained p k ∷ rest) n e
    → is_drained s p ≡ true → ((exchange s p).serial == k) ≡ true → (is_drained (effect s e) p && (exchange (effect s e) p).serial == k) ≡ true
drained_still s p k n rest e h m drained serial_is = by (port_step s e h.formed h.consistent (legal s e m.allowed) p)
  where
    parts : ((gate s.config p).closed ≡ true) × ((is_idle (exchange s p).phase || is_some (exchange s p).within) ≡ true)
    parts = and_parts (gate s.config p).closed (is_idle (exchange s p).phase || is_some (exchange s p).within) drained

    shut : (gate (effect s e).config p).closed ≡ true
    shut = ap (λ (c : Configuration). (gate c p).closed) (node_events_keep_the_configuration s e m.node) ∙ parts.0

    both : (is_idle (exchange (effect s e) p).phase || is_some (exchange (effect s e) p).within) ≡ true → (exchange (effect s e) p).serial ≡ (exchange s p).serial
        → (is_drained (effect s e) p && (exchange (effect s e) p).serial == k) ≡ true
    both free same = and_from (is_drained (effect s e) p) ((exchange (effect s e) p).serial == k)
        (and_from (gate (effect s e).config p).closed (is_idle (exchange (effect s e) p).phase || is_some (exchange (effect s e) p).within) shut free)
        (ap (λ j. j == k) same ∙ serial_is)

    by : PortStep s e p (exchange (effect s e) p) → (is_drained (effect s e) p && (exchange (effect s e) p).serial == k) ≡ true
    by (stays off serial within idle) = both (ap₂ (λ i w. i || is_some w) idle within ∙ parts.1) serial
    by (begins j v it may y) = absurd (both_ways (gate s.config p).closed (not-true (gate s.config p).closed may.opened) parts.0)
    by (calls j v u it may served y) =
        let free : is_beyond j (told p (to.Drained p k ∷ rest)) ≡ false = subst (λ x. waits s (to.Drained p k ∷ rest) x ≡ false) it m.free in
        let here : told p (to.Drained p k ∷ rest) ≡ Some (to.Drained p k) = ap (λ b. cond b (Some (to.Drained p k)) (told p rest)) (eq-eqb p p refl) in
        absurd (beyond k j (exchange s p).serial serial_is (next_serial s p j may.next_serial) (sym (ap (is_beyond j) here) ∙ free))
    by (ends j v it may y) = both (or_left _ _ (ap (λ (x : Exchange). is_idle x.phase) y)) (ap (λ (x : Exchange). x.serial) y)

change_after : (s : State) (x : Event) (lines : List HistoryLine) (n : ℕ) (e : Event) → Sound s → is_none (denial s x) ≡ true → is_of_change x ≡ true
    → clashes x e ≡ false → May s lines n e → is_none (denial (effect s e) x) ≡ true
change_after s x lines n e h a c no_ m = ap is_none (change_and_node s x e n h.formed h.consistent (allowed_line s x a) m.allowed c m.does no_).first_behind

line_after_event : (s : State) (l : HistoryLine) (rest : List HistoryLine) (n : ℕ) (e : Event) → Sound s → may_tell s rest l ≡ true → May s (l ∷ rest) n e → may_tell (effect s e) rest l ≡ true
line_after_event s (to.Close p) rest n e h t m =
    let both = and_parts (is_none (denial s (Close p))) (is_met s p (told p rest)) t in
    and_from (is_none (denial (effect s e) (Close p))) (is_met (effect s e) p (told p rest))
    (change_after s (Close p) (to.Close p ∷ rest) n e h both.0 refl (no_clash s p n rest e both.1 m) m)
    (met_still s p n rest e h ((legal s (Close p) (allowed_line s (Close p) both.0)).live) m (told p rest) refl both.1)
line_after_event s (to.Reopen p) rest n e h t m = change_after s (Reopen p) _ n e h t refl refl m
line_after_event s (to.Make k node from) rest n e h t m = change_after s (Make k node from) _ n e h t refl refl m
line_after_event s (to.Link p k x) rest n e h t m = change_after s (Link p k x) _ n e h t refl refl m
line_after_event s (to.Unlink p) rest n e h t m = change_after s (Unlink p) _ n e h t refl refl m
line_after_event s (to.Remove k) rest n e h t m = change_after s (Remove k) _ n e h t refl refl m
line_after_event s (to.Drained p k) rest n e h t m =
    let both = and_parts (is_drained s p) ((exchange s p).serial == k) t in drained_still s p k n rest e h m both.0 both.1
line_after_event s (to.Root p k) rest n e h t m =
    ap (λ (c : Configuration). (gate c p).closed && not (is_called_at c p)) (node_events_keep_the_configuration s e m.node) ∙ t
line_after_event s _ rest n e h t m = refl

-- ---- and either order comes to the same

states_agree : (s : State) (l : HistoryLine) (rest : List HistoryLine) (n : ℕ) (e : Event) → Sound s → may_tell s rest l ≡ true → May s (l ∷ rest) n e
    → told_state (effect s e) l ≡ effect (told_state s l) e
states_agree s l rest n e h t m = by l t m
  where
    after : (x : Event) → is_none (denial s x) ≡ true → is_of_change x ≡ true → clashes x e ≡ false → effect (effect s e) x ≡ effect (effect s x) e
    after x a c no_ = sym (change_and_node s x e n h.formed h.consistent (allowed_line s x a) m.allowed c m.does no_).one_state

    by : (l : HistoryLine) → may_tell s rest l ≡ true → May s (l ∷ rest) n e → told_state (effect s e) l ≡ effect (told_state s l) e
    by (to.Close p) t k =
        let both = and_parts (is_none (denial s (Close p))) (is_met s p (told p rest)) t in after (Close p) both.0 refl (no_clash s p n rest e both.1 k)
    by (to.Reopen p) t k = after (Reopen p) t refl refl
    by (to.Make j node from) t k = after (Make j node from) t refl refl
    by (to.Link p j x) t k = after (Link p j x) t refl refl
    by (to.Unlink p) t k = after (Unlink p) t refl refl
    by (to.Remove j) t k = after (Remove j) t refl refl
    by _ t k = refl

-- ---- moves of what is left

pub record Tells (x : Left) : Type 0 where
  pub line : HistoryLine
  pub rest : List HistoryLine
  pub are : x.lines ≡ line ∷ rest
  pub may : may_tell x.state rest line ≡ true

pub record Does (x : Left) (n : ℕ) : Type 0 where
  pub event : Event
  pub rest : List Event
  pub are : log_of x n ≡ event ∷ rest
  pub may : May x.state x.lines n event

tells_if : (s : State) (ls : List HistoryLine) → may_tell_first s ls ≡ true → (l : HistoryLine) × (rest : List HistoryLine) × (ls ≡ l ∷ rest) × (may_tell s rest l ≡ true)
tells_if s [] h = absurd (both_ways false refl h)
tells_if s (l ∷ rest) h = (l, rest, refl, h)

does_if : (s : State) (ls : List HistoryLine) (n : ℕ) (es : List Event) → may_do_first s ls n es ≡ true
    → (e : Event) × (rest : List Event) × (es ≡ e ∷ rest) × (may_do s ls n e ≡ true)
does_if s ls n [] h = absurd (both_ways false refl h)
does_if s ls n (e ∷ rest) h = (e, rest, refl, h)

pub tells_of : (x : Left) → may_go x 0 ≡ true → Tells x
tells_of x h = let w = tells_if x.state x.lines h in record { line = w.0; rest = w.1; are = w.2; may = w.3 }

pub does_of : (x : Left) (n : ℕ) → may_go x (suc n) ≡ true → Does x n
does_of x n h =
    let w = does_if x.state x.lines n (log_of x n) h in
    record { event = w.0; rest = w.1; are = w.2; may = may_parts x.state x.lines n w.0 w.3 }

pub told_is : (x : Left) (t : Tells x) → go x 0 ≡ record x { state = told_state x.state t.line; lines = t.rest }
told_is x t = ap (tell_first x) t.are

pub done_is : (x : Left) (n : ℕ) (d : Does x n) → go x (suc n) ≡ record x { state = effect x.state d.event; logs = set x.logs n d.rest }
done_is x n d = ap (do_first x n) d.are

-- what holds of the state holds on
line_keeps : (s : State) (rest : List HistoryLine) (l : HistoryLine) → Sound s → may_tell s rest l ≡ true → Sound (told_state s l)
line_keeps s rest l h t = by l t
  where
    next : (x : Event) → denial s x ≡ None → Sound (effect s x)
    next x a = let w = steps_keep_consistency s (effect s x) x h.formed h.consistent (record { allowed = a; changed = refl }) in record { formed = w.0; consistent = w.1 }

    by : (l : HistoryLine) → may_tell s rest l ≡ true → Sound (told_state s l)
    by (to.Close p) t = next (Close p) (allowed_line s (Close p) (and_parts (is_none (denial s (Close p))) (is_met s p (told p rest)) t).0)
    by (to.Reopen p) t = next (Reopen p) (allowed_line s (Reopen p) t)
    by (to.Make k node from) t = next (Make k node from) (allowed_line s (Make k node from) t)
    by (to.Link p k x) t = next (Link p k x) (allowed_line s (Link p k x) t)
    by (to.Unlink p) t = next (Unlink p) (allowed_line s (Unlink p) t)
    by (to.Remove k) t = next (Remove k) (allowed_line s (Remove k) t)
    by _ t = h

event_keeps : (s : State) (e : Event) → Sound s → denial s e ≡ None → Sound (effect s e)
event_keeps s e h a = let w = steps_keep_consistency s (effect s e) e h.formed h.consistent (record { allowed = a; changed = refl }) in record { formed = w.0; consistent = w.1 }

pub go_keeps : (x : Left) (c : ℕ) → Sound x.state → may_go x c ≡ true → Sound (go x c).state
go_keeps x zero h m =
    let t = tells_of x m in subst (λ (y : Left). Sound y.state) (sym (told_is x t)) (line_keeps x.state t.rest t.line h t.may)
go_keeps x (suc n) h m =
    let d = does_of x n m in subst (λ (y : Left). Sound y.state) (sym (done_is x n d)) (event_keeps x.state d.event h d.may.allowed)

pub go_leaves_less : (x : Left) (c : ℕ) → Sound x.state → may_go x c ≡ true → left (go x c) + 1 ≡ left x
go_leaves_less x zero h m =
    let t = tells_of x m in omega (arith, ap left (told_is x t), ap (λ (ls : List HistoryLine). length ls) t.are)
go_leaves_less x (suc n) h m =
    let d = does_of x n m in omega (arith, ap left (done_is x n d), shorter x.logs n d.event d.rest d.are)

-- ---- what may come stays so

may_line_after : (x : Left) (n : ℕ) → Sound x.state → may_go x 0 ≡ true → may_go x (suc n) ≡ true → may_go (go x (suc n)) 0 ≡ true
may_line_after x n h m k =
    let t = tells_of x m in
    let d = does_of x n k in
    let e = subst (λ ls. May x.state ls n d.event) t.are d.may in
    ap (λ (y : Left). may_go y 0) (done_is x n d) ∙ ap (may_tell_first (effect x.state d.event)) t.are ∙ line_after_event x.state t.line t.rest n d.event h t.may e

may_event_after : (x : Left) (n : ℕ) → Sound x.state → may_go x 0 ≡ true → may_go x (suc n) ≡ true → may_go (go x 0) (suc n) ≡ true
may_event_after x n h m k =
    let t = tells_of x m in
    let d = does_of x n k in
    let e = subst (λ ls. May x.state ls n d.event) t.are d.may in
    ap (λ (y : Left). may_go y (suc n)) (told_is x t) ∙ ap (may_do_first (told_state x.state t.line) t.rest n) d.are
    ∙ may_if (told_state x.state t.line) t.rest n d.event (event_after_line x.state t.line t.rest n d.event h t.may e)

waits_alike : (s : State) (lines : List HistoryLine) (e f : Event) → is_of_change e ≡ false → waits (effect s e) lines f ≡ waits s lines f
waits_alike s lines e (Begin p k v) h = ap (λ c. is_called_at c p || is_beyond k (told p lines)) (node_events_keep_the_configuration s e h)
waits_alike s lines e _ h = refl

event_after_event : (s : State) (lines : List HistoryLine) (n m : ℕ) (e f : Event) → Sound s → (n ≡ m → ⊥) → May s lines n e → May s lines m f → May (effect s e) lines m f
event_after_event s lines n m e f h two a b =
    let i = two_nodes s e f n m h.formed h.consistent a.allowed b.allowed a.does b.does two in
    record {
      node = b.node;
      does = does_still s (effect s e) f m i.second_doer b.does;
      allowed = i.second_behind;
      free = waits_alike s lines e f a.node ∙ b.free;
    }

may_other_after : (x : Left) (n m : ℕ) → Sound x.state → (n ≡ m → ⊥) → may_go x (suc n) ≡ true → may_go x (suc m) ≡ true → may_go (go x (suc n)) (suc m) ≡ true
may_other_after x n m h two j k =
    let a = does_of x n j in
    let b = does_of x m k in
    ap (λ (y : Left). may_go y (suc m)) (done_is x n a)
    ∙ ap (may_do_first (effect x.state a.event) x.lines m) (get_or-set_other x.logs n m a.rest [] (λ e. two (sym e)) ∙ b.are)
    ∙ may_if (effect x.state a.event) x.lines m b.event (event_after_event x.state x.lines n m a.event b.event h two a.may b.may)

pub go_stays : (x : Left) (c d : ℕ) → Sound x.state → may_go x c ≡ true → may_go x d ≡ true → (c ≡ d → ⊥) → may_go (go x c) d ≡ true
go_stays x zero zero h m k two = absurd (two refl)
go_stays x zero (suc n) h m k two = may_event_after x n h m k
go_stays x (suc n) zero h m k two = may_line_after x n h k m
go_stays x (suc n) (suc j) h m k two = may_other_after x n j h (λ e. two (ap suc e)) m k

line_and_event : (x : Left) (n : ℕ) → Sound x.state → may_go x 0 ≡ true → may_go x (suc n) ≡ true → go (go x 0) (suc n) ≡ go (go x (suc n)) 0
line_and_event x n h m k =
    let t = tells_of x m in
    let d = does_of x n k in
    let e = subst (λ ls. May x.state ls n d.event) t.are d.may in
    let first : go (go x 0) (suc n) ≡ record { state = effect (told_state x.state t.line) d.event; lines = t.rest; logs = set x.logs n d.rest } =
    ap (λ y. go y (suc n)) (told_is x t) ∙ ap (do_first (record x { state = told_state x.state t.line; lines = t.rest }) n) d.are in
    let second : go (go x (suc n)) 0 ≡ record { state = told_state (effect x.state d.event) t.line; lines = t.rest; logs = set x.logs n d.rest } =
    ap (λ y. go y 0) (done_is x n d) ∙ ap (tell_first (record x { state = effect x.state d.event; logs = set x.logs n d.rest })) t.are in
    first
    ∙ ap (λ s. record { state = s; lines = t.rest; logs = set x.logs n d.rest }) (sym (states_agree x.state t.line t.rest n d.event h t.may e))
    ∙ sym second

two_events : (x : Left) (n m : ℕ) → Sound x.state → (n ≡ m → ⊥) → may_go x (suc n) ≡ true → may_go x (suc m) ≡ true → go (go x (suc n)) (suc m) ≡ go (go x (suc m)) (suc n)
two_events x n m h two j k =
    let a = does_of x n j in
    let b = does_of x m k in
    after x n m two a b
    ∙ ap₂ (λ s ls. record { state = s; lines = x.lines; logs = ls })
    (two_nodes x.state a.event b.event n m h.formed h.consistent a.may.allowed b.may.allowed a.may.does b.may.does two).one_state
    (set-set_other x.logs n m a.rest b.rest two)
    ∙ sym (after x m n (λ e. two (sym e)) b a)
  where
    after : (x : Left) (n m : ℕ) → (n ≡ m → ⊥) → (a : Does x n) (b : Does x m)
        → go (go x (suc n)) (suc m) ≡ record { state = effect (effect x.state a.event) b.event; lines = x.lines; logs = set (set x.logs n a.rest) m b.rest }
    after x n m two a b =
        ap (λ y. go y (suc m)) (done_is x n a)
        ∙ ap (do_first (record x { state = effect x.state a.event; logs = set x.logs n a.rest }) m) (get_or-set_other x.logs n m a.rest [] (λ e. two (sym e)) ∙ b.are)

pub go_swaps : (x : Left) (c d : ℕ) → Sound x.state → may_go x c ≡ true → may_go x d ≡ true → (c ≡ d → ⊥) → go (go x c) d ≡ go (go x d) c
go_swaps x zero zero h m k two = absurd (two refl)
go_swaps x zero (suc n) h m k two = line_and_event x n h m k
go_swaps x (suc n) zero h m k two = sym (line_and_event x n h k m)
go_swaps x (suc n) (suc j) h m k two = two_events x n j h (λ e. two (ap suc e)) m k

-- ---- whoever lets come whatever may comes to the end

way_ends : (way : List ℕ) (x : Left) → can_go x way ≡ true → left (fold go x way) ≡ 0
    → confluence.Ends Left may_go go left (λ (y : Left). Sound y.state) go_keeps go_leaves_less go_stays go_swaps x
way_ends [] x can none_ = confluence.ended x none_
way_ends (c ∷ way) x can none_ =
    let w = and_parts (may_go x c) (can_go (go x c) way) can in confluence.onward x c w.0 (way_ends way (go x c) w.1 none_)

pub go_to : (cs : List ℕ) (x : Left) → can_go x cs ≡ true → confluence.can_go Left may_go go left (λ (y : Left). Sound y.state) go_keeps go_leaves_less go_stays go_swaps x cs ≡ true
go_to [] x h = refl
go_to (c ∷ cs) x h =
    let w = and_parts (may_go x c) (can_go (go x c) cs) h in and_from (may_go x c) _ w.0 (go_to cs (go x c) w.1)

pub found : (x : Left) (way cs : List ℕ) → IsWellFormed x.state → IsConsistent x.state → can_go x way ≡ true → left (fold go x way) ≡ 0
    → can_go x cs ≡ true → ((c : ℕ) → may_go (fold go x cs) c ≡ false) → left (fold go x cs) ≡ 0
found x way cs w k can none_ goes stuck =
    confluence.greedy_ends Left may_go go left (λ (y : Left). Sound y.state) go_keeps go_leaves_less go_stays go_swaps cs x
    (way_ends way x can none_) (record { formed = w; consistent = k }) (go_to cs x goes) stuck
