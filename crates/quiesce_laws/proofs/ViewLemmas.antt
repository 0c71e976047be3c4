-- What an event of a node goes by: what is at its port, what its doer services, and which calls belong to that. Two
-- states of one configuration that agree on these allow it alike.
use Rattle.std.proofs.Common.{◌≡◌, ◌∙◌, ℕ, ◌+◌, true, false, not, ◌&&◌, Option, Some, None, refl, ap}
use Rattle.std.specs.Prelude.{◌==◌, nat_le, nat_lt, is_none, is_some, option_and_then}
use Rattle.std.specs.List.{list_all}
use Rattle.std.specs.Option.{option_map_or}
use Rattle.std.proofs.lemmas.Bool.{both_ways}
use Rattle.config_graph.specs.declared.node.Target.{Target}
use Rattle.quiesce_word.specs.Phases.{is_asked, is_answered, is_idle, is_in_more}
use Rattle.quiesce_word.specs.Words as words
use Rattle.quiesce_core.specs.declared.event.Event.{Event}
use Rattle.quiesce_core.specs.declared.event.Event.TheVariants.{Begin, Call, Take, Give, End, More, Ask, Hear, Miss, Close, Reopen, Make, Link, Unlink, Remove}
use Rattle.quiesce_core.specs.declared.state.Exchange.{Exchange}
use Rattle.quiesce_core.specs.declared.state.Service.{Service}
use Rattle.quiesce_core.specs.State.{Configuration, State, Traffic, calls_allowed, depends, exchange, gate, mores_allowed, owner, ports_of, provision, service, target}
use Rattle.quiesce_core.specs.Doers.{is_of_change, is_of_owner}
use Rattle.quiesce_core.specs.Legal.{Legal}
use Rattle.quiesce_core.specs.Reach.{IsPortOf}
use Rattle.quiesce_core.specs.Rules.{is_called_within, last_serial, was_heard}
use Rattle.quiesce_core.proofs.CycleLaws.{all_of, of_all}
use Rattle.quiesce_laws.proofs.SwapDoerLaws.{port_of}

module _ (c : Configuration) (t u : Traffic) where
  abbrev old : State
  old = record { config = c; traffic = t }

  abbrev now : State
  now = record { config = c; traffic = u }

  -- what an owner does goes by what is at its port, and by what it services
  pub owner_may : (f : Event) → is_of_owner f ≡ true → exchange now (port_of f) ≡ exchange old (port_of f)
      → service now (owner c (port_of f)) ≡ service old (owner c (port_of f))
      → Legal old f → Legal now f
  owner_may (Begin p k v) o x a l = record {
    live = l.live;
    opened = l.opened;
    linked = l.linked;
    idle = ap (λ (y : Exchange). is_idle y.phase) x ∙ l.idle;
    next_serial = ap (λ (y : Exchange). k == y.serial + 1 && nat_le k last_serial) x ∙ l.next_serial;
    value = l.value;
  }
  owner_may (Call p k v) o x a l = record {
    live = l.live;
    serves_through = ap (λ r. option_map_or (λ (w : Service). depends c (owner c p) (provision c w.port) p) r false) a ∙ l.serves_through;
    calls_left = ap (λ r. option_map_or (λ (w : Service). nat_lt w.calls (calls_allowed c (owner c p) (provision c w.port))) r false) a ∙ l.calls_left;
    heard = ap was_heard a ∙ l.heard;
    linked = l.linked;
    idle = ap (λ (y : Exchange). is_idle y.phase) x ∙ l.idle;
    next_serial = ap (λ (y : Exchange). k == y.serial + 1 && nat_le k last_serial) x ∙ l.next_serial;
    value = l.value;
  }
  owner_may (Miss p) o x a l = record {
    live = l.live;
    serves_through = ap (λ r. option_map_or (λ (w : Service). depends c (owner c p) (provision c w.port) p) r false) a ∙ l.serves_through;
    calls_left = ap (λ r. option_map_or (λ (w : Service). nat_lt w.calls (calls_allowed c (owner c p) (provision c w.port))) r false) a ∙ l.calls_left;
    heard = ap was_heard a ∙ l.heard;
    idle = ap (λ (y : Exchange). is_idle y.phase) x ∙ l.idle;
    missing = ap (λ (y : Exchange). words.is_missing (record {
      closed = (gate c p).closed;
      phase = y.phase;
      consequent = is_some y.within;
      target = (gate c p).target;
      serial = y.serial;
      value = y.value;
    })) x ∙ l.missing;
  }
  owner_may (Ask p k v) o x a l = record {
    live = l.live;
    in_more = ap (λ (y : Exchange). is_in_more y.phase) x ∙ l.in_more;
    serial = ap (λ (y : Exchange). k == y.serial) x ∙ l.serial;
    value = l.value;
  }
  owner_may (End p k v) o x a l = record {
    live = l.live;
    answered = ap (λ (y : Exchange). is_answered y.phase) x ∙ l.answered;
    message = ap (λ (y : Exchange). k == y.serial && v == y.value) x ∙ l.message;
  }
  owner_may _ o x a l = absurd (both_ways false refl o)

  -- what the target does goes by what is at the port, by what the target services, and by which calls belong to that
  same_at : (o : Option Target) → ((d : Target) → o ≡ Some d → service now d.node ≡ service old d.node)
      → option_and_then (λ (d : Target). service now d.node) o ≡ option_and_then (λ (d : Target). service old d.node) o
  same_at None a = refl
  same_at (Some d) a = a d refl

  left_at : (o : Option Target) → ((d : Target) → o ≡ Some d → service now d.node ≡ service old d.node)
      → option_map_or (λ (d : Target). option_map_or (λ (v : Service). nat_lt v.mores (mores_allowed c d.node d.provide)) (service old d.node) false) o false ≡ true
      → option_map_or (λ (d : Target). option_map_or (λ (v : Service). nat_lt v.mores (mores_allowed c d.node d.provide)) (service now d.node) false) o false ≡ true
  left_at None a h = h
  left_at (Some d) a h = ap (λ r. option_map_or (λ (v : Service). nat_lt v.mores (mores_allowed c d.node d.provide)) r false) (a d refl) ∙ h

  ended_at : (p : ℕ) (o : Option Target)
      → ((d : Target) → o ≡ Some d → (q : ℕ) → IsPortOf c d.node q → (exchange now q).within ≡ (exchange old q).within)
      → option_map_or (λ (d : Target). list_all (λ q. not (is_called_within old p q)) (ports_of c d.node)) o true ≡ true
      → option_map_or (λ (d : Target). list_all (λ q. not (is_called_within now p q)) (ports_of c d.node)) o true ≡ true
  ended_at p None b h = h
  ended_at p (Some d) b h = of_all c d.node (λ q. not (is_called_within now p q)) (λ q is.
      ap (λ r. not (option_map_or (λ w. w == p) r false)) (b d refl q is)
      ∙ all_of c d.node (λ q. not (is_called_within old p q)) q h is)

  pub target_may : (f : Event) → is_of_change f ≡ false → is_of_owner f ≡ false
      → exchange now (port_of f) ≡ exchange old (port_of f)
      → ((d : Target) → target c (port_of f) ≡ Some d → service now d.node ≡ service old d.node)
      → ((d : Target) → target c (port_of f) ≡ Some d → (q : ℕ) → IsPortOf c d.node q → (exchange now q).within ≡ (exchange old q).within)
      → Legal old f → Legal now f
  target_may (Take p k v) n o x a b l = record {
    live = l.live;
    asked = ap (λ (y : Exchange). is_asked y.phase) x ∙ l.asked;
    untaken = ap (λ r. not (option_map_or (λ (w : Service). w.port == p) r false)) (same_at (target c p) a) ∙ l.untaken;
    free = ap is_none (same_at (target c p) a) ∙ l.free;
    message = ap (λ (y : Exchange). k == y.serial && v == y.value) x ∙ l.message;
  }
  target_may (Give p k v) n o x a b l = record {
    live = l.live;
    taken = ap (λ r. option_map_or (λ (w : Service). w.port == p) r false) (same_at (target c p) a) ∙ l.taken;
    heard = ap was_heard (same_at (target c p) a) ∙ l.heard;
    serial = ap (λ (y : Exchange). k == y.serial) x ∙ l.serial;
    calls_ended = ended_at p (target c p) b l.calls_ended;
    value = l.value;
  }
  target_may (More p k v) n o x a b l = record {
    live = l.live;
    taken = ap (λ r. option_map_or (λ (w : Service). w.port == p) r false) (same_at (target c p) a) ∙ l.taken;
    heard = ap was_heard (same_at (target c p) a) ∙ l.heard;
    serial = ap (λ (y : Exchange). k == y.serial) x ∙ l.serial;
    calls_ended = ended_at p (target c p) b l.calls_ended;
    mores_left = left_at (target c p) a l.mores_left;
    value = l.value;
  }
  target_may (Hear p k v) n o x a b l = record {
    live = l.live;
    asked = ap (λ (y : Exchange). is_asked y.phase) x ∙ l.asked;
    taken = ap (λ r. option_map_or (λ (w : Service). w.port == p) r false) (same_at (target c p) a) ∙ l.taken;
    unheard = ap (λ r. not (was_heard r)) (same_at (target c p) a) ∙ l.unheard;
    message = ap (λ (y : Exchange). k == y.serial && v == y.value) x ∙ l.message;
  }
  target_may (Close p) n o x a b l = absurd (both_ways true n refl)
  target_may (Reopen p) n o x a b l = absurd (both_ways true n refl)
  target_may (Make k node from) n o x a b l = absurd (both_ways true n refl)
  target_may (Link p k y) n o x a b l = absurd (both_ways true n refl)
  target_may (Unlink p) n o x a b l = absurd (both_ways true n refl)
  target_may (Remove k) n o x a b l = absurd (both_ways true n refl)
  target_may _ n o x a b l = absurd (both_ways true o refl)
