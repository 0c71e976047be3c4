-- Who does an event: the owner of its port, or the node to which the port leads.
use Rattle.std.proofs.Common.{◌≡◌, ◌∙◌, ℕ, true, false, Option, Some, None, refl, sym, ap}
use Rattle.std.specs.Prelude.{◌==◌, option_map}
use Rattle.std.specs.Option.{option_map_or}
use Rattle.std.proofs.lemmas.Bool.{both_ways, eqb-true, eq-eqb, ne_eqb}
use Rattle.config_graph.specs.declared.node.Target.{Target}
use Rattle.quiesce_core.specs.declared.event.Event.{Event}
use Rattle.quiesce_core.specs.declared.event.Event.TheVariants.{Begin, Call, Take, Give, End, More, Ask, Hear, Miss, Close, Reopen, Make, Link, Unlink, Remove}
use Rattle.quiesce_core.specs.State.{State, owner, target}
use Rattle.quiesce_core.specs.Doers.{is_of_change, is_of_owner}
use Rattle.quiesce_core.specs.Runs.{doer, is_doer}

-- the port of an event, 0 where it is of none
abbrev pub port_of : Event → ℕ
port_of (Begin p k v) = p
port_of (Call p k v) = p
port_of (Take p k v) = p
port_of (Give p k v) = p
port_of (More p k v) = p
port_of (Ask p k v) = p
port_of (Hear p k v) = p
port_of (End p k v) = p
port_of (Miss p) = p
port_of (Close p) = p
port_of (Reopen p) = p
port_of (Make n node from) = 0
port_of (Link p n x) = p
port_of (Unlink p) = p
port_of (Remove n) = 0

-- the test of a doer, by the doer
pub tested : (s : State) (n : ℕ) (e : Event) → doer s e ≡ Some n → is_doer s n e ≡ true
tested s n e does = ap (λ o. option_map_or (λ m. m == n) o false) does ∙ eq-eqb n n refl

named : (o : Option ℕ) (n : ℕ) → option_map_or (λ m. m == n) o false ≡ true → o ≡ Some n
named None n h = absurd (both_ways false refl h)
named (Some m) n h = ap Some (eqb-true m n h)

pub found : (s : State) (n : ℕ) (e : Event) → is_doer s n e ≡ true → doer s e ≡ Some n
found s n e h = named (doer s e) n h

-- what a node does isn't of a change
pub nodes_do_no_change : (s : State) (n : ℕ) (e : Event) → doer s e ≡ Some n → is_of_change e ≡ false
nodes_do_no_change s n (Close p) h = absurd (cc h)
nodes_do_no_change s n (Reopen p) h = absurd (cc h)
nodes_do_no_change s n (Make k node from) h = absurd (cc h)
nodes_do_no_change s n (Link p k x) h = absurd (cc h)
nodes_do_no_change s n (Unlink p) h = absurd (cc h)
nodes_do_no_change s n (Remove k) h = absurd (cc h)
nodes_do_no_change s n _ h = refl

pub by_owner : (s : State) (n : ℕ) (e : Event) → is_of_owner e ≡ true → is_doer s n e ≡ true → owner s.config (port_of e) ≡ n
by_owner s n (Begin p k v) o d = eqb-true (owner s.config p) n d
by_owner s n (Call p k v) o d = eqb-true (owner s.config p) n d
by_owner s n (Miss p) o d = eqb-true (owner s.config p) n d
by_owner s n (Ask p k v) o d = eqb-true (owner s.config p) n d
by_owner s n (End p k v) o d = eqb-true (owner s.config p) n d
by_owner s n _ o d = absurd (both_ways false refl o)

led : (n : ℕ) (o : Option Target) → option_map_or (λ m. m == n) (option_map (λ (t : Target). t.node) o) false ≡ true → (t : Target) × (o ≡ Some t) × (t.node ≡ n)
led n None h = absurd (both_ways false refl h)
led n (Some t) h = (t, refl, eqb-true t.node n h)

pub by_target : (s : State) (n : ℕ) (e : Event) → is_of_change e ≡ false → is_of_owner e ≡ false → is_doer s n e ≡ true
    → (t : Target) × (target s.config (port_of e) ≡ Some t) × (t.node ≡ n)
by_target s n (Take p k v) c o d = led n (target s.config p) d
by_target s n (Give p k v) c o d = led n (target s.config p) d
by_target s n (More p k v) c o d = led n (target s.config p) d
by_target s n (Hear p k v) c o d = led n (target s.config p) d
by_target s n (Close p) c o d = absurd (both_ways true c refl)
by_target s n (Reopen p) c o d = absurd (both_ways true c refl)
by_target s n (Make k node from) c o d = absurd (both_ways true c refl)
by_target s n (Link p k x) c o d = absurd (both_ways true c refl)
by_target s n (Unlink p) c o d = absurd (both_ways true c refl)
by_target s n (Remove k) c o d = absurd (both_ways true c refl)
by_target s n _ c o d = absurd (both_ways true o refl)

one_of : (i n : ℕ) (o : Option ℕ) → option_map_or (λ m. m == i) o false ≡ true → (i ≡ n → ⊥) → option_map_or (λ m. m == n) o false ≡ false
one_of i n None d other = refl
one_of i n (Some m) d other = ne_eqb m n (λ e. other (sym (eqb-true m i d) ∙ e))

-- one node alone does it
pub one_doer : (s : State) (i n : ℕ) (e : Event) → is_doer s i e ≡ true → (i ≡ n → ⊥) → is_doer s n e ≡ false
one_doer s i n e d other = one_of i n (doer s e) d other

-- who does an event goes by the owner of its port and by where the port leads
pub doer_alike : (s t : State) (f : Event) → is_of_change f ≡ false → owner t.config (port_of f) ≡ owner s.config (port_of f)
    → target t.config (port_of f) ≡ target s.config (port_of f) → doer t f ≡ doer s f
doer_alike s t (Begin p k v) h owned leads = ap Some owned
doer_alike s t (Call p k v) h owned leads = ap Some owned
doer_alike s t (Miss p) h owned leads = ap Some owned
doer_alike s t (Ask p k v) h owned leads = ap Some owned
doer_alike s t (End p k v) h owned leads = ap Some owned
doer_alike s t (Take p k v) h owned leads = ap (λ o. option_map (λ (d : Target). d.node) o) leads
doer_alike s t (Give p k v) h owned leads = ap (λ o. option_map (λ (d : Target). d.node) o) leads
doer_alike s t (More p k v) h owned leads = ap (λ o. option_map (λ (d : Target). d.node) o) leads
doer_alike s t (Hear p k v) h owned leads = ap (λ o. option_map (λ (d : Target). d.node) o) leads
doer_alike s t _ h owned leads = absurd (both_ways true h refl)
