-- A node that isn't away makes the same move in both worlds.
use Rattle.std.proofs.Common.{◌≡◌, ◌∙◌, ℕ, ◌+◌, ◌-◌, ◌<◌, Bool, true, false, cond, List, [], ◌∷◌, length, Option, Some, None, refl, sym, ap, subst, ⊎_elim, arith}
use Rattle.std.specs.Prelude.{◌==◌, ◌&&◌, ◌||◌, find, not, is_none, is_some, option_and_then, option_map}
use Rattle.std.specs.List.{list_any, range_with_len}
use Rattle.std.specs.Option.{option_map_or}
use Rattle.std.proofs.lemmas.Bool.{cases_Bool}
use Rattle.std.proofs.lemmas.Option.{none-some, same_Some}
use Rattle.config_graph.specs.Kinds.{row}
use Rattle.config_graph.specs.declared.node.Target.{Target}
use Rattle.component_trait.specs.Moves as moves
use Rattle.component_trait.specs.States.{NodeState, Service as Serving}
use Rattle.component_trait.specs.Tables.{next_of}
use Rattle.component_trait.specs.declared.next.Ask.{Ask}
use Rattle.component_trait.specs.declared.next.Next.{Next}
use Rattle.component_trait.specs.declared.next.Next.TheVariants as next
use Rattle.component_trait.proofs.TableLaws.{asks_fit}
use Rattle.base.proofs.OptionLaws.{map_or_at}
use Rattle.quiesce_word.specs.Phases.{is_answered, is_asked, is_idle, is_in_more}
use Rattle.quiesce_word.specs.declared.word.TheConstants.{LAST_SERIAL}
use Rattle.quiesce_core.specs.Reach.{IsPortOf}
use Rattle.quiesce_core.specs.Rules.{is_missing}
use Rattle.quiesce_core.specs.State.{State, exchange, ports_of, service, slot, target}
use Rattle.quiesce_core.specs.declared.event.Event.{Event}
use Rattle.quiesce_core.specs.declared.event.Event.TheVariants as event
use Rattle.quiesce_core.specs.declared.state.Exchange.{Exchange}
use Rattle.quiesce_core.specs.declared.state.Service.{Service}
use Rattle.quiesce_core.specs.declared.state.Slot.{Slot}
use Rattle.node_turn_laws.specs.Agreement.{IsSmall}
use Rattle.node_turn_laws.specs.Turn.{awaits_call, calls, does_next, ends, goes_on, hears, is_for, looks, move_of, or_else, request_at, serves, takes}
use Rattle.node_turn_laws.specs.World.{first_port}

-- ---- what a move goes by

-- the same exchanges, and the same node n with its service; the targets of its ports, and of ports at which something is
-- asked, are the same
pub record SameAt (s u : State) (n : ℕ) : Type 0 where
  pub slots : slot s.config n ≡ slot u.config n
  pub exchanges : (p : ℕ) → exchange s p ≡ exchange u p
  pub services : service s n ≡ service u n
  pub own : (p : ℕ) → IsPortOf s.config n p → target s.config p ≡ target u.config p
  pub asked : (p : ℕ) → is_asked (exchange s p).phase ≡ true → target s.config p ≡ target u.config p

-- a requirement for which a kind asks is one of its own
pub asks_own : (t : NodeState) (x : Ask) → IsSmall t → moves.next t ≡ Some (next.Ask x) → x.require < length (row t.kind).requires_
asks_own t x small h = by t.service refl h
  where
    by : (o : Option Serving) → t.service ≡ o → option_and_then (moves.next_in t) o ≡ Some (next.Ask x) → x.require < length (row t.kind).requires_
    by None is e = absurd (none-some (next.Ask x) e)
    by (Some w) is e = waiting w.waits e
      where
        waiting : (b : Bool) → cond b None (Some (next_of t.kind t.arg w.value w.reply w.answers)) ≡ Some (next.Ask x) → x.require < length (row t.kind).requires_
        waiting true e = absurd (none-some (next.Ask x) e)
        waiting false e =
            let s = small.service w is in
            (asks_fit t.kind t.arg w.value w.reply w.answers x s.value s.reply s.answers (same_Some (next_of t.kind t.arg w.value w.reply w.answers) (next.Ask x) e)).require

module _ (s u : State) (n : ℕ) (same : SameAt s u n) (m : Slot) (made : slot s.config n ≡ Some m) (t : NodeState) (kind : t.kind ≡ m.node.kind) (small : IsSmall t) where
  pub same_ports : ports_of s.config n ≡ ports_of u.config n
  same_ports = λ i. option_map_or (λ (k : Slot). range_with_len k.first_port (length (row k.node.kind).requires_)) (same.slots i) []

  pub same_first : first_port s n ≡ first_port u n
  same_first = λ i. option_map_or (λ (k : Slot). k.first_port) (same.slots i) 0

  abbrev xs : ◌≡◌ {A = ℕ → Exchange} (exchange s) (exchange u)
  xs = λ i p. same.exchanges p i

  abbrev reply_by : (ℕ → Exchange) → ℕ → Event
  reply_by x p = cond (is_answered (x p).phase) (event.End p (x p).serial (x p).value) (event.Ask p (x p).serial (moves.replies t))

  abbrev ends_by : (ℕ → Exchange) → List ℕ → Option Event
  ends_by x ps = option_map (reply_by x) (find (λ p. is_answered (x p).phase || is_in_more (x p).phase) ps)

  pub same_ends : ends s n t ≡ ends u n t
  same_ends = λ i. ends_by (xs i) (same_ports i)

  abbrev awaits_by : (ℕ → Exchange) → List ℕ → Bool
  awaits_by x ps = list_any (λ p. not (is_idle (x p).phase) && is_some (x p).within) ps

  same_awaits : awaits_call s n ≡ awaits_call u n
  same_awaits = λ i. awaits_by (xs i) (same_ports i)

  same_missing : (p : ℕ) → IsPortOf s.config n p → is_missing s p ≡ is_missing u p
  same_missing p o = λ i. is_none (same.own p o i) || (same.exchanges p i).serial == LAST_SERIAL

  calls_by : (x : Exchange) (missing : Bool) (p v : ℕ) → Option Event
  calls_by x missing p v = cond (not (is_idle x.phase)) None (cond missing (Some (event.Miss p)) (Some (event.Call p (x.serial + 1) v)))

  same_calls : (p v : ℕ) → IsPortOf s.config n p → calls s p v ≡ calls u p v
  same_calls p v o = λ i. cond (not (is_idle (same.exchanges p i).phase)) None (cond (same_missing p o i) (Some (event.Miss p)) (Some (event.Call p ((same.exchanges p i).serial + 1) v)))

  own_port : (x : Ask) → moves.next t ≡ Some (next.Ask x) → IsPortOf s.config n (first_port s n + x.require)
  own_port x h =
      let low : x.require < length (row m.node.kind).requires_ = subst (λ k. x.require < length (row k).requires_) kind (asks_own t x small h) in
      let first : first_port s n ≡ m.first_port = map_or_at (λ (k : Slot). k.first_port) (slot s.config n) 0 m made in
      record { node = m; made = made; from = omega (arith, first); below = omega (arith, first, low) }

  same_next : (q : ℕ) (o : Option Next) → moves.next t ≡ o → option_and_then (does_next s (first_port s n) q) o ≡ option_and_then (does_next u (first_port u n) q) o
  same_next q None h = refl
  same_next q (Some (next.Give v)) h = λ i. Some (event.Give q (same.exchanges q i).serial v)
  same_next q (Some (next.More v)) h = λ i. Some (event.More q (same.exchanges q i).serial v)
  same_next q (Some (next.Ask x)) h =
      same_calls (first_port s n + x.require) x.value (own_port x h) ∙ ap (λ k. calls u (k + x.require) x.value) same_first

  same_hears : (q : ℕ) → hears s q ≡ hears u q
  same_hears q = λ i. cond (is_asked (same.exchanges q i).phase) (Some (event.Hear q (same.exchanges q i).serial (same.exchanges q i).value)) None

  same_goes : (v : Service) → goes_on s n t v ≡ goes_on u n t v
  same_goes v = λ i. cond v.heard (same_next v.port (moves.next t) refl i) (same_hears v.port i)

  pub same_serves : serves s n t ≡ serves u n t
  same_serves = λ i. cond (same_awaits i) None (option_and_then (λ v. same_goes v i) (same.services i))

  same_for : (p : ℕ) → is_for s n p ≡ is_for u n p
  same_for p = ⊎_elim
      (λ (yes_ : is_asked (exchange s p).phase ≡ true). λ i. is_asked (same.exchanges p i).phase && option_map_or (λ (k : Target). k.node == n) (same.asked p yes_ i) false)
      (λ (no_ : is_asked (exchange s p).phase ≡ false).
      (λ i. no_ i && option_map_or (λ (k : Target). k.node == n) (target s.config p) false)
      ∙ sym (λ i. (ap (λ (x : Exchange). is_asked x.phase) (sym (same.exchanges p)) ∙ no_) i && option_map_or (λ (k : Target). k.node == n) (target u.config p) false))
      (cases_Bool (is_asked (exchange s p).phase))

  same_takes : (box : List ℕ) → takes s n box ≡ takes u n box
  same_takes [] = refl
  same_takes (p ∷ box) = λ i. cond (same_for p i) (Some (event.Take p (same.exchanges p i).serial (same.exchanges p i).value)) None

  pub same_move : (box : List ℕ) → move_of s n t box false ≡ move_of u n t box false
  same_move box = λ i. or_else (same_ends i) (or_else (same_serves i) (or_else (cond (is_none (same.services i)) (same_takes box i) None) None))

  pub same_looks : looks s n t ≡ looks u n t
  same_looks = λ i. is_none (same_ends i) && is_none (same_serves i) && is_none (same.services i)

  pub same_request : (p : ℕ) → IsPortOf s.config n p → request_at s n p ≡ request_at u n p
  same_request p o = λ i. option_map (λ (k : Target). record { require = p - same_first i; node = k.node }) (same.own p o i)
