-- A node's state stays in agreement with what its own events tell it, event by event.
use Rattle.std.proofs.Common.{◌≡◌, ◌∙◌, ◌+◌, ◌<◌, ℕ, Bool, true, false, cond, [], ◌∷◌, Option, Some, None, refl, sym, ap, subst, arith, rules}
use Rattle.std.specs.Prelude.{not, ◌==◌, ◌&&◌, option_map, is_none}
use Rattle.std.proofs.lemmas.Bool.{and_parts, both_ways, eq-eqb, eqb-true}
use Rattle.std.proofs.lemmas.List.{length-append}
use Rattle.std.proofs.lemmas.Option.{none-some, same_Some}
use Rattle.config_graph.specs.declared.kind.Kind.{Kind}
use Rattle.component_trait.specs.Fold.{after_event, asked_by, awaits_at, calls_at, is_give, is_more, is_request, is_request_at, may_take, wants_at, where_so}
use Rattle.component_trait.specs.Moves as moves
use Rattle.component_trait.specs.Moves.{with_wait, with_answer}
use Rattle.component_trait.specs.States.{Kept, NodeState, Service}
use Rattle.component_trait.specs.Tables.{serve, wants}
use Rattle.component_trait.proofs.FoldLaws.{where_so_then}
use Rattle.component_trait.specs.declared.next.Ask.{Ask as Request}
use Rattle.component_trait.specs.declared.next.Next.{Next}
use Rattle.component_trait.specs.declared.next.Next.TheVariants as next
use Rattle.quiesce_core.specs.Knowledge.{OwnPort, served_next}
use Rattle.quiesce_core.specs.Rules.{value_limit}
use Rattle.quiesce_core.specs.declared.event.Event.{Event}
use Rattle.quiesce_core.specs.declared.event.Event.TheVariants.{Begin, Call, Take, Give, End, More, Ask, Hear, Miss}
use Rattle.quiesce_core.specs.declared.known.Served.{Served}
use Rattle.node_turn_laws.specs.Agreement.{Agrees, HandsSmall, HasNoCall, IsInTurn, IsSmall, ServiceIsSmall, ServicesAgree, expects, ports_next}
use Rattle.component_trait.proofs.TableLaws.{ended_small, node, pushed_small, served_small, wanting_asks_nothing}
use Rattle.component_trait.proofs.WantLaws.{wanted_after_serving}
use Rattle.base.proofs.NumberLaws.{same_number}

-- a request is at one port
pub same_request : (first p q : ℕ) (o : Option Request) → is_request_at first p o ≡ true → is_request_at first q o ≡ true → p ≡ q
same_request first p q None h g = absurd (both_ways false refl h)
same_request first p q (Some x) h g = sym (eqb-true (first + x.require) p h) ∙ eqb-true (first + x.require) q g

pub is_at : (first p v : ℕ) (o : Option Request) → is_request first p v o ≡ true → is_request_at first p o ≡ true
is_at first p v None h = absurd (both_ways false refl h)
is_at first p v (Some x) h = (and_parts (first + x.require == p) (x.value == v) h).0

-- a service that waits asks nothing, and neither does one whose next is an answer or an intermediate reply
waiting_asks_nothing : (b : Bool) (n : Next) → b ≡ true → (first q : ℕ) → is_request_at first q (asked_by (cond b None (Some n))) ≡ false
waiting_asks_nothing true n h first q = refl
waiting_asks_nothing false n h first q = absurd (both_ways false refl h)

giving_asks_nothing : (o : Option Next) (v first q : ℕ) → is_give v o ≡ true → is_request_at first q (asked_by o) ≡ false
giving_asks_nothing None v first q h = absurd (both_ways false refl h)
giving_asks_nothing (Some (next.Give w)) v first q h = refl
giving_asks_nothing (Some (next.More w)) v first q h = refl
giving_asks_nothing (Some (next.Ask w)) v first q h = absurd (both_ways false refl h)

-- and where it asks or sends, it doesn't wait
asking_goes_on : (b : Bool) (n : Next) (first q : ℕ) → is_request_at first q (asked_by (cond b None (Some n))) ≡ true → b ≡ false
asking_goes_on true n first q h = absurd (both_ways false refl h)
asking_goes_on false n first q h = refl

sending_goes_on : (b : Bool) (n : Next) (v : ℕ) → is_more v (cond b None (Some n)) ≡ true → b ≡ false
sending_goes_on true n v h = absurd (both_ways false refl h)
sending_goes_on false n v h = refl

heard_if : (b c : Bool) → b ≡ not c → b ≡ false → c ≡ true
heard_if b true e f = refl
heard_if b false e f = absurd (both_ways b f e)

-- a port where something is expected, where no call is: it is wanted there
wanted_if : (first : ℕ) (t : NodeState) (p : ℕ) (b : Bool) → b ≡ false → expects b first t p ≡ true → wants_at first t p ≡ true
wanted_if first t p true e h = absurd (both_ways true e refl)
wanted_if first t p false e h = h

expected_if : (first : ℕ) (t : NodeState) (p : ℕ) (b : Bool) → b ≡ false → wants_at first t p ≡ true → expects b first t p ≡ true
expected_if first t p true e h = absurd (both_ways true e refl)
expected_if first t p false e h = h

no_call_if : (first : ℕ) (t : NodeState) (p : ℕ) (b : Bool) → calls_at first t p ≡ false → expects b first t p ≡ true → b ≡ false
no_call_if first t p true e h = absurd (both_ways (calls_at first t p) e h)
no_call_if first t p false e h = refl

-- the service of a node that wants something asks nothing
pub who_wants_asks_nothing : (first p q : ℕ) (t : NodeState) → wants_at first t p ≡ true → calls_at first t q ≡ false
who_wants_asks_nothing first p q t h = wanting_asks_nothing first t.kind t.arg t.kept t.service p q h

-- a service that asks nothing has no call
pub no_call_where_none_is_asked : (first : ℕ) (t : NodeState) (u : Option Served) (ports : ℕ → OwnPort) → Agrees first t u ports → ((q : ℕ) → calls_at first t q ≡ false) → HasNoCall ports
no_call_where_none_is_asked first t u ports a none_ p busy = no_call_if first t p (ports p).consequent (none_ p) (a.ports p busy)

-- where no call is open, each port that isn't idle is one that is wanted
all_wanted : (first : ℕ) (t t' : NodeState) (u : Option Served) (ports : ℕ → OwnPort) → Agrees first t u ports → HasNoCall ports
    → ((p : ℕ) → wants_at first t p ≡ true → wants_at first t' p ≡ true) → (p : ℕ) → (ports p).idle ≡ false → expects (ports p).consequent first t' p ≡ true
all_wanted first t t' u ports a none_ stay p busy =
    expected_if first t' p (ports p).consequent (none_ p busy) (stay p (wanted_if first t p (ports p).consequent (none_ p busy) (a.ports p busy)))

-- one port has changed
abbrev Expected : ℕ → NodeState → ℕ → OwnPort → Type 0
Expected first t p x = x.idle ≡ false → expects x.consequent first t p ≡ true

one_changed : (P : ℕ → OwnPort → Type 0) (ports : ℕ → OwnPort) (q : ℕ) (x : OwnPort) → P q x → ((p : ℕ) → (q == p) ≡ false → P p (ports p)) → (p : ℕ) → P p (cond (q == p) x (ports p))
one_changed P ports q x here there p = by (q == p) refl
  where
    by : (b : Bool) → (q == p) ≡ b → P p (cond b x (ports p))
    by true e = subst (λ i. P i x) (eqb-true q p e) here
    by false e = there p e

no_call_before : (ports : ℕ → OwnPort) (q : ℕ) (x : OwnPort) → ((ports q).idle ≡ false → (ports q).consequent ≡ false) → HasNoCall (λ p. cond (q == p) x (ports p)) → HasNoCall ports
no_call_before ports q x at h p = by (q == p) refl
  where
    by : (b : Bool) → (q == p) ≡ b → (ports p).idle ≡ false → (ports p).consequent ≡ false
    by true e = subst (λ i. (ports i).idle ≡ false → (ports i).consequent ≡ false) (eqb-true q p e) at
    by false e = subst (λ b. (cond b x (ports p)).idle ≡ false → (cond b x (ports p)).consequent ≡ false) e (h p)

-- the service stays as it was, where no call is open now only if none was
same_service : (ports ports' : ℕ → OwnPort) (o : Option Service) (u : Option Served) → ServicesAgree ports o u → (HasNoCall ports' → HasNoCall ports) → ServicesAgree ports' o u
same_service ports ports' None None a back = tt
same_service ports ports' None (Some u) a back = absurd a
same_service ports ports' (Some w) None a back = absurd a
same_service ports ports' (Some w) (Some u) a back = record { waits = a.waits; all_but_one = a.all_but_one; all = λ heard none_. a.all heard (back none_) }

-- ---- one lemma an event

after_begin : (first : ℕ) (t : NodeState) (u : Option Served) (ports : ℕ → OwnPort) (p k v : ℕ) → Agrees first t u ports → (ports p).idle ≡ true → is_request first p v (moves.wants t) ≡ true
    → Agrees first t u (ports_next ports (Begin p k v))
after_begin first t u ports p k v a idle wanted =
    let x : OwnPort = record { idle = false; serial = k; consequent = false } in
    record {
      services = same_service ports (ports_next ports (Begin p k v)) t.service u a.services (no_call_before ports p x (λ busy. absurd (both_ways (ports p).idle busy idle)));
      ports = one_changed (Expected first t) ports p x (λ busy. is_at first p v (moves.wants t) wanted) (λ q other. a.ports q);
    }

after_call : (first : ℕ) (k : Kind) (a : ℕ) (kept : Kept) (o : Option Service) (u : Option Served) (ports : ℕ → OwnPort) (p j v : ℕ) → Agrees first (node k a kept o) u ports → HasNoCall ports
    → is_request_at first p (asked_by (moves.next (node k a kept o))) ≡ true → Agrees first (node k a kept o) (served_next u (Call p j v)) (ports_next ports (Call p j v))
after_call first k a kept None u ports p j v g none_ asked = absurd (both_ways false refl asked)
after_call first k a kept (Some w) None ports p j v g none_ asked = absurd g.services
after_call first k a kept (Some w) (Some u) ports p j v g none_ asked =
    let x : OwnPort = record { idle = false; serial = j; consequent = true } in
    let heard = heard_if w.waits u.heard g.services.waits (asking_goes_on w.waits _ first p asked) in
    record {
      services = record {
        waits = g.services.waits;
        all_but_one = omega (arith, g.services.all heard none_);
        all = λ h still. absurd (both_ways true (subst (λ b. (cond b x (ports p)).idle ≡ false → (cond b x (ports p)).consequent ≡ false) (same_number p) (still p) refl) refl);
      };
      ports = one_changed (Expected first (node k a kept (Some w))) ports p x (λ busy. asked) (λ q other. g.ports q);
    }

after_miss : (first : ℕ) (k : Kind) (a : ℕ) (kept : Kept) (o : Option Service) (u : Option Served) (ports : ℕ → OwnPort) (p : ℕ) → Agrees first (node k a kept o) u ports → HasNoCall ports
    → calls_at first (node k a kept o) p ≡ true → Agrees first (moves.after_answer (node k a kept o) 0) (served_next u (Miss p)) ports
after_miss first k a kept None u ports p g none_ asked = absurd (both_ways false refl asked)
after_miss first k a kept (Some w) None ports p g none_ asked = absurd g.services
after_miss first k a kept (Some w) (Some u) ports p g none_ asked =
    let heard = heard_if w.waits u.heard g.services.waits (asking_goes_on w.waits _ first p asked) in
    record {
      services = record {
        waits = ap not (sym heard);
        all_but_one = omega (arith, g.services.all heard none_, length-append w.answers (0 ∷ []));
        all = λ h still. omega (arith, g.services.all heard none_, length-append w.answers (0 ∷ []));
      };
      ports = all_wanted first (node k a kept (Some w)) (moves.after_answer (node k a kept (Some w)) 0) (Some u) ports g none_ (λ q h. h);
    }

after_take : (first : ℕ) (k : Kind) (a : ℕ) (kept : Kept) (u : Option Served) (ports : ℕ → OwnPort) (p j v : ℕ) → Agrees first (node k a kept None) u ports
    → Agrees first (moves.after_take (node k a kept None) v) (served_next u (Take p j v)) ports
after_take first k a kept u ports p j v g =
    let none_ = no_call_where_none_is_asked first (node k a kept None) u ports g (λ q. refl) in
    record {
      services = record { waits = refl; all_but_one = omega arith; all = λ h still. omega arith };
      ports = all_wanted first (node k a kept None) (moves.after_take (node k a kept None) v) u ports g none_ (λ q h. stay (wants k a kept) refl q h);
    }
  where
    stay : (o : Option Request) → wants k a kept ≡ o → (q : ℕ) → is_request_at first q (wants k a kept) ≡ true → is_request_at first q (wants k a (serve k a kept v).kept) ≡ true
    stay None e q h = absurd (both_ways (is_request_at first q (wants k a kept)) (ap (λ x. is_request_at first q x) e) h)
    stay (Some x) e q h = ap (λ y. is_request_at first q y) (wanted_after_serving k a kept v x e ∙ sym e) ∙ h

after_more : (first : ℕ) (k : Kind) (a : ℕ) (kept : Kept) (o : Option Service) (u : Option Served) (ports : ℕ → OwnPort) (p j v : ℕ) → Agrees first (node k a kept o) u ports → HasNoCall ports
    → is_more v (moves.next (node k a kept o)) ≡ true → Agrees first (moves.after_more (node k a kept o)) (served_next u (More p j v)) ports
after_more first k a kept None u ports p j v g none_ sent = absurd (both_ways false refl sent)
after_more first k a kept (Some w) None ports p j v g none_ sent = absurd g.services
after_more first k a kept (Some w) (Some u) ports p j v g none_ sent =
    let heard = heard_if w.waits u.heard g.services.waits (sending_goes_on w.waits _ v sent) in
    record {
      services = record { waits = refl; all_but_one = omega (arith, g.services.all heard none_); all = λ h still. absurd (both_ways false refl h) };
      ports = all_wanted first (node k a kept (Some w)) (moves.after_more (node k a kept (Some w))) (Some u) ports g none_ (λ q h. h);
    }

after_hear : (first : ℕ) (k : Kind) (a : ℕ) (kept : Kept) (o : Option Service) (u : Option Served) (ports : ℕ → OwnPort) (p j v : ℕ) → Agrees first (node k a kept o) u ports
    → moves.waits (node k a kept o) ≡ true → Agrees first (moves.after_answer (node k a kept o) v) (served_next u (Hear p j v)) ports
after_hear first k a kept None u ports p j v g waits = absurd (both_ways false refl waits)
after_hear first k a kept (Some w) None ports p j v g waits = absurd g.services
after_hear first k a kept (Some w) (Some u) ports p j v g waits =
    let none_ = no_call_where_none_is_asked first (node k a kept (Some w)) (Some u) ports g (λ q. waiting_asks_nothing w.waits _ waits first q) in
    record {
      services = record {
        waits = refl;
        all_but_one = omega (arith, g.services.all_but_one, length-append w.answers (v ∷ []));
        all = λ h still. omega (arith, g.services.all_but_one, length-append w.answers (v ∷ []));
      };
      ports = all_wanted first (node k a kept (Some w)) (moves.after_answer (node k a kept (Some w)) v) (Some u) ports g none_ (λ q h. h);
    }

after_give : (first : ℕ) (k : Kind) (a : ℕ) (kept : Kept) (o : Option Service) (u : Option Served) (ports : ℕ → OwnPort) (v : ℕ) → Agrees first (node k a kept o) u ports
    → is_give v (moves.next (node k a kept o)) ≡ true → Agrees first (moves.after_give (node k a kept o)) None ports
after_give first k a kept o u ports v g given =
    let none_ = no_call_where_none_is_asked first (node k a kept o) u ports g (λ q. giving_asks_nothing (moves.next (node k a kept o)) v first q given) in
    record { services = tt; ports = all_wanted first (node k a kept o) (moves.after_give (node k a kept o)) u ports g none_ (λ q h. h) }

-- the end of a call: its port was the one that the service asked
after_call_ended : (first : ℕ) (k : Kind) (a : ℕ) (kept : Kept) (o : Option Service) (u : Option Served) (ports : ℕ → OwnPort) (p j v : ℕ) → Agrees first (node k a kept o) u ports
    → calls_at first (node k a kept o) p ≡ true → Agrees first (moves.after_answer (node k a kept o) v) u (ports_next ports (End p j v))
after_call_ended first k a kept None u ports p j v g asked = absurd (both_ways false refl asked)
after_call_ended first k a kept (Some w) None ports p j v g asked = absurd g.services
after_call_ended first k a kept (Some w) (Some u) ports p j v g asked =
    let heard = heard_if w.waits u.heard g.services.waits (asking_goes_on w.waits _ first p asked) in
    record {
      services = record {
        waits = ap not (sym heard);
        all_but_one = omega (arith, g.services.all_but_one, length-append w.answers (v ∷ []));
        all = λ h still. omega (arith, g.services.all_but_one, length-append w.answers (v ∷ []));
      };
      ports = one_changed (Expected first (moves.after_answer (node k a kept (Some w)) v)) ports p (record { idle = true; serial = j; consequent = false })
          (λ busy. absurd (both_ways true busy refl))
          (λ q other busy. kept_there q other (ports q).consequent (g.ports q busy));
    }
  where
    kept_there : (q : ℕ) → (p == q) ≡ false → (b : Bool) → expects b first (node k a kept (Some w)) q ≡ true → expects b first (moves.after_answer (node k a kept (Some w)) v) q ≡ true
    kept_there q other true h = absurd (both_ways (p == q) other (eq-eqb p q (same_request first p q (asked_by (moves.next (node k a kept (Some w)))) asked h)))
    kept_there q other false h = h

-- the end of a transaction of its own: its port was the one that it wanted
after_own_ended : (first : ℕ) (k : Kind) (a : ℕ) (kept : Kept) (o : Option Service) (u : Option Served) (ports : ℕ → OwnPort) (p j v : ℕ) → Agrees first (node k a kept o) u ports
    → (ports p).idle ≡ false → calls_at first (node k a kept o) p ≡ false → wants_at first (node k a kept o) p ≡ true → Agrees first (moves.after_end (node k a kept o) v) u (ports_next ports (End p j v))
after_own_ended first k a kept o u ports p j v g busy none_ wanted =
    let x : OwnPort = record { idle = true; serial = j; consequent = false } in
    record {
      services = same_service ports (ports_next ports (End p j v)) o u g.services (no_call_before ports p x (λ b. no_call_if first (node k a kept o) p (ports p).consequent none_ (g.ports p busy)));
      ports = one_changed (Expected first (moves.after_end (node k a kept o) v)) ports p x
          (λ b. absurd (both_ways true b refl))
          (λ q other b. kept_there q other (ports q).consequent (g.ports q b));
    }
  where
    kept_there : (q : ℕ) → (p == q) ≡ false → (b : Bool) → expects b first (node k a kept o) q ≡ true → expects b first (moves.after_end (node k a kept o) v) q ≡ true
    kept_there q other true h = h
    kept_there q other false h = absurd (both_ways (p == q) other (eq-eqb p q (same_request first p q (moves.wants (node k a kept o)) wanted h)))

after_ended : (first : ℕ) (t t' : NodeState) (u : Option Served) (ports : ℕ → OwnPort) (p j v : ℕ) → Agrees first t u ports → (ports p).idle ≡ false → (c : Bool) → calls_at first t p ≡ c
    → cond c (Some (moves.after_answer t v)) (where_so (wants_at first t p) (moves.after_end t v)) ≡ Some t' → Agrees first t' u (ports_next ports (End p j v))
after_ended first t t' u ports p j v g busy true c h =
    subst (λ x. Agrees first x u (ports_next ports (End p j v))) (same_Some (moves.after_answer t v) t' h) (after_call_ended first t.kind t.arg t.kept t.service u ports p j v g c)
after_ended first t t' u ports p j v g busy false c h =
    let w = where_so_then (wants_at first t p) (moves.after_end t v) t' h in
    subst (λ x. Agrees first x u (ports_next ports (End p j v))) w.1 (after_own_ended first t.kind t.arg t.kept t.service u ports p j v g busy c w.0)

after_taken : (first : ℕ) (k : Kind) (a : ℕ) (kept : Kept) (o : Option Service) (u : Option Served) (ports : ℕ → OwnPort) (p j v : ℕ) → Agrees first (node k a kept o) u ports
    → is_none o ≡ true → Agrees first (moves.after_take (node k a kept o) v) (served_next u (Take p j v)) ports
after_taken first k a kept None u ports p j v g free = after_take first k a kept u ports p j v g
after_taken first k a kept (Some w) u ports p j v g free = absurd (both_ways false refl free)

-- a node's state stays in agreement
pub agrees_next : (first : ℕ) (t t' : NodeState) (u : Option Served) (ports : ℕ → OwnPort) (e : Event) → Agrees first t u ports → IsInTurn ports e → after_event first t e ≡ Some t'
    → Agrees first t' (served_next u e) (ports_next ports e)
agrees_next first t t' u ports (Begin p j v) g i h =
    let w = where_so_then (is_request first p v (moves.wants t)) t t' h in subst (λ x. Agrees first x u (ports_next ports (Begin p j v))) w.1 (after_begin first t u ports p j v g i w.0)
agrees_next first t t' u ports (Call p j v) g i h =
    let w = where_so_then (is_request first p v (asked_by (moves.next t))) t t' h in
    subst (λ x. Agrees first x (served_next u (Call p j v)) (ports_next ports (Call p j v))) w.1 (after_call first t.kind t.arg t.kept t.service u ports p j v g i (is_at first p v (asked_by (moves.next t)) w.0))
agrees_next first t t' u ports (Miss p) g i h =
    let w = where_so_then (calls_at first t p) (moves.after_answer t 0) t' h in
    subst (λ x. Agrees first x (served_next u (Miss p)) ports) w.1 (after_miss first t.kind t.arg t.kept t.service u ports p g i w.0)
agrees_next first t t' u ports (Take p j v) g i h =
    let w = where_so_then (may_take t) (moves.after_take t v) t' h in
    subst (λ x. Agrees first x (served_next u (Take p j v)) ports) w.1 (after_taken first t.kind t.arg t.kept t.service u ports p j v g (and_parts _ (is_none t.service) w.0).1)
agrees_next first t t' u ports (More p j v) g i h =
    let w = where_so_then (is_more v (moves.next t)) (moves.after_more t) t' h in
    subst (λ x. Agrees first x (served_next u (More p j v)) ports) w.1 (after_more first t.kind t.arg t.kept t.service u ports p j v g i w.0)
agrees_next first t t' u ports (Ask p j v) g i h =
    let w = where_so_then (awaits_at first t p && v == moves.replies t) t t' h in subst (λ x. Agrees first x u ports) w.1 g
agrees_next first t t' u ports (Hear p j v) g i h =
    let w = where_so_then (moves.waits t) (moves.after_answer t v) t' h in
    subst (λ x. Agrees first x (served_next u (Hear p j v)) ports) w.1 (after_hear first t.kind t.arg t.kept t.service u ports p j v g w.0)
agrees_next first t t' u ports (Give p j v) g i h =
    let w = where_so_then (is_give v (moves.next t)) (moves.after_give t) t' h in
    subst (λ x. Agrees first x None ports) w.1 (after_give first t.kind t.arg t.kept t.service u ports v g w.0)
agrees_next first t t' u ports (End p j v) g i h = after_ended first t t' u ports p j v g i (calls_at first t p) refl h
agrees_next first t t' u ports _ g i h = absurd (none-some t' h)

-- ---- values

answer_small : (t : NodeState) (v : ℕ) → IsSmall t → v < value_limit → IsSmall (moves.after_answer t v)
answer_small t v s small = record { arg = s.arg; items = s.items; service = λ w at. by t.service s.service w at }
  where
    by : (o : Option Service) → ((w : Service) → o ≡ Some w → ServiceIsSmall w) → (w : Service) → option_map (with_answer v) o ≡ Some w → ServiceIsSmall w
    by None before w at = absurd (none-some w at)
    by (Some x) before w at =
        let b = before x refl in
        subst ServiceIsSmall (same_Some (with_answer v x) w at) (record { value = b.value; reply = b.reply; answers = pushed_small x.answers v b.answers small })

more_small : (t : NodeState) → IsSmall t → IsSmall (moves.after_more t)
more_small t s = record { arg = s.arg; items = s.items; service = λ w at. by t.service s.service w at }
  where
    by : (o : Option Service) → ((w : Service) → o ≡ Some w → ServiceIsSmall w) → (w : Service) → option_map with_wait o ≡ Some w → ServiceIsSmall w
    by None before w at = absurd (none-some w at)
    by (Some x) before w at =
        let b = before x refl in subst ServiceIsSmall (same_Some (with_wait x) w at) (record { value = b.value; reply = b.reply; answers = b.answers })

take_small : (t : NodeState) (v : ℕ) → IsSmall t → v < value_limit → IsSmall (moves.after_take t v)
take_small t v s small =
    let done = served_small t.kind t.arg t.kept v s.items small in
    record {
      arg = s.arg;
      items = done.0;
      service = λ w at. subst ServiceIsSmall (same_Some (record { value = v; reply = (serve t.kind t.arg t.kept v).reply; answers = []; waits = false }) w at)
          (record { value = small; reply = done.1; answers = search rules });
    }

end_small : (t : NodeState) (v : ℕ) → IsSmall t → IsSmall (moves.after_end t v)
end_small t v s = record { arg = s.arg; items = ended_small t.kind t.kept v s.items; service = s.service }

ends_small : (c b : Bool) (x y t : NodeState) → cond c (Some x) (where_so b y) ≡ Some t → IsSmall x → IsSmall y → IsSmall t
ends_small true b x y t e left right = subst IsSmall (same_Some x t e) left
ends_small false b x y t e left right = subst IsSmall (where_so_then b y t e).1 right

-- the values of a node's state stay below the limit
pub small_next : (first : ℕ) (t t' : NodeState) (e : Event) → IsSmall t → HandsSmall e → after_event first t e ≡ Some t' → IsSmall t'
small_next first t t' (Begin p j v) s i h = subst IsSmall (where_so_then (is_request first p v (moves.wants t)) t t' h).1 s
small_next first t t' (Call p j v) s i h = subst IsSmall (where_so_then (is_request first p v (asked_by (moves.next t))) t t' h).1 s
small_next first t t' (Miss p) s i h = subst IsSmall (where_so_then (calls_at first t p) (moves.after_answer t 0) t' h).1 (answer_small t 0 s (omega arith))
small_next first t t' (Take p j v) s i h = subst IsSmall (where_so_then (may_take t) (moves.after_take t v) t' h).1 (take_small t v s i)
small_next first t t' (More p j v) s i h = subst IsSmall (where_so_then (is_more v (moves.next t)) (moves.after_more t) t' h).1 (more_small t s)
small_next first t t' (Ask p j v) s i h = subst IsSmall (where_so_then (awaits_at first t p && v == moves.replies t) t t' h).1 s
small_next first t t' (Hear p j v) s i h = subst IsSmall (where_so_then (moves.waits t) (moves.after_answer t v) t' h).1 (answer_small t v s i)
small_next first t t' (Give p j v) s i h =
    subst IsSmall (where_so_then (is_give v (moves.next t)) (moves.after_give t) t' h).1 (record { arg = s.arg; items = s.items; service = λ w at. absurd (none-some w at) })
small_next first t t' (End p j v) s i h = ends_small (calls_at first t p) (wants_at first t p) (moves.after_answer t v) (moves.after_end t v) t' h (answer_small t v s i) (end_small t v s)
small_next first t t' _ s i h = absurd (none-some t' h)

-- ---- a node of which its seat knows no service is in none

pub agree_none : (far : ℕ → OwnPort) (o : Option Service) (u : Option Served) → ServicesAgree far o u → u ≡ None → o ≡ None
agree_none far None u h is = refl
agree_none far (Some v) None h is = absurd h
agree_none far (Some v) (Some u) h is = absurd (cc)
