-- What of an earlier configuration stands in a later one: nodes, ports, owners and requirements always, closed gates until they are
-- reopened, and links, where none is made.
use Rattle.std.proofs.Common.{◌≡◌, ℕ, ◌+◌, ◌<◌, ◌≤◌, Bool, true, false, cond, ◌&&◌, List, [], ◌∷◌, ◌++◌, length, Option, Some, None, refl, sym, ap, ◌∙◌, subst, ⊎_elim, arith}
use Rattle.std.specs.Prelude.{◌==◌, nat_le, nat_lt, option_map}
use Rattle.std.specs.List.{list_any}
use Rattle.std.specs.Option.{option_map_or}
use Rattle.std.proofs.lemmas.Bool.{both_ways, cases_eq, eq-eqb, ne_eqb}
use Rattle.std.proofs.lemmas.Option.{slice_get_within}
use Rattle.config_graph.specs.Kinds.{row, depends_on}
use Rattle.config_graph.specs.Wiring.{Reach, direct, through}
use Rattle.config_graph.specs.declared.node.Node.{Node}
use Rattle.config_graph.specs.declared.node.Target.{Target}
use Rattle.quiesce_core.specs.Alters.{Reconfigures, gate_next}
use Rattle.quiesce_core.specs.Effect.{effect}
use Rattle.quiesce_core.specs.Legal.{Legal}
use Rattle.quiesce_core.specs.Reach.{IsPortOf, wiring_of}
use Rattle.quiesce_core.specs.Runs.{IsRun, state_after}
use Rattle.quiesce_core.specs.State.{Configuration, State, slot, gate, target, depends}
use Rattle.quiesce_core.specs.WellFormed.{IsSound}
use Rattle.quiesce_core.specs.declared.event.Event.{Event}
use Rattle.quiesce_core.specs.declared.event.Event.TheVariants.{Close, Reopen, Make, Link, Unlink, Remove}
use Rattle.quiesce_core.specs.declared.state.Gate.{Gate}
use Rattle.quiesce_core.specs.declared.state.Slot.{Slot}
use Rattle.quiesce_core.proofs.AlterLaws.{ports_grow, reconfigured}
use Rattle.quiesce_core.proofs.ConfigurationLaws.{owner_kept, require_kept, target_made, target_unlinked}
use Rattle.quiesce_core.proofs.InductionLaws.{along}
use Rattle.quiesce_core.proofs.RunLaws.{fronts_are_runs, runs_are_well_formed}
use Rattle.quiesce_core.proofs.TableLaws.{live_made}
use Rattle.base.proofs.PlaceLaws.{slice_get-there}
use Rattle.quiesce_laws.specs.Configurations.{HasNode, Extends, HasNoNewLink}
use Rattle.quiesce_laws.specs.Events.{is_link, reopens}

-- what is read of a node that was made is what was read
pub read_before : {A : Type 0} (c d : Configuration) → Extends c d → (n : ℕ) → n < length c.slots → (f : Slot → A) (x : A)
    → ((a b : Slot) → a.node ≡ b.node → a.first_port ≡ b.first_port → f a ≡ f b) → option_map_or f (slot d n) x ≡ option_map_or f (slot c n) x
read_before c d e n made f x alike =
    let m = slice_get-there c.slots n made in
    let k = e.nodes n m.0 m.1 in
    ap (λ o. option_map_or f o x) k.there ∙ alike k.now m.0 k.same_node k.same_port ∙ sym (ap (λ o. option_map_or f o x) m.1)

pub owned_before : (c d : Configuration) → Extends c d → (n q : ℕ) → n < length c.slots → IsPortOf d n q → IsPortOf c n q
owned_before c d e n q made o =
    let m = slice_get-there c.slots n made in
    let k = e.nodes n m.0 m.1 in
    let one : k.now ≡ o.node = cc (k.there, o.made) in
    record {
      node = m.0;
      made = m.1;
      from = subst (λ i. i ≤ q) (ap (λ (x : Slot). x.first_port) (sym one) ∙ k.same_port) o.from;
      below = subst (λ i. q < i) (ap (λ (x : Slot). x.first_port + length (row x.node.kind).requires_) (sym one) ∙ ap (λ i. i + length (row k.now.node.kind).requires_) k.same_port
          ∙ ap (λ (x : Node). m.0.first_port + length (row x.kind).requires_) k.same_node) o.below;
    }

-- a provision depends on the ports on which it did
pub depends_before : (c d : Configuration) → IsSound c → Extends c d → (n x q : ℕ) → n < length c.slots → IsPortOf c n q → depends d n x q ≡ depends c n x q
depends_before c d s e n x q made o =
    ap (λ r. option_map_or (λ (k : Slot). depends_on k.node.kind x r) (slot d n) false) (e.requirements q (omega (arith, o.below, (s.rows n o.node o.made).within)))
    ∙ read_before c d e n made (λ (k : Slot). depends_on k.node.kind x (gate c q).require) false (λ a b same first. ap (λ (k : Node). depends_on k.kind x (gate c q).require) same)

-- so no port reaches a node anew
pub reached_before : (c d : Configuration) → IsSound c → Extends c d → HasNoNewLink c d → (n p : ℕ) → Reach (wiring_of d) n p → Reach (wiring_of c) n p
reached_before c d s e h n _ (direct {p} {x} to) = direct (h.old p (record { node = n; provide = x }) to)
reached_before c d s e h n _ (through {p = q} {q = p} {m} {x} r of_q to) =
    let was = h.old p (record { node = m; provide = x }) to in
    let made = live_made c m (s.targets p (record { node = m; provide = x }) was).live in
    let owned = owned_before c d e m q made of_q.0 in
    through (reached_before c d s e h n q r) (owned, sym (depends_before c d s e m x q made owned) ∙ of_q.1) was

-- by the events

has_it : (d : Configuration) (n : ℕ) (m : Slot) → slot d n ≡ Some m → HasNode d n m
has_it d n m e = record { now = m; there = e; same_node = refl; same_port = refl }

node_stays : (c d : Configuration) (e : Event) → Reconfigures c e d → (n : ℕ) (m : Slot) → slot c n ≡ Some m → HasNode d n m
node_stays c d (Make k node from) r n m at =
    let before : n ≡ length c.slots → ⊥ = λ last. let within = slice_get_within c.slots n m at in omega (arith, within, last) in
    has_it d n m (r.slots n ∙ rw (ne_eqb n (length c.slots) before) at)
node_stays c d (Remove k) r n m at = ⊎_elim
    (λ (same : n ≡ k). record {
      now = record m { live = false };
      there = r.slots n ∙ rw (eq-eqb n k same) (ap (λ o. option_map (λ (x : Slot). record x { live = false }) o) at);
      same_node = refl;
      same_port = refl;
    })
    (λ (other : n ≡ k → ⊥). has_it d n m (r.slots n ∙ rw (ne_eqb n k other) at))
    (cases_eq n k)
node_stays c d _ r n m at = has_it d n m (r.slots n ∙ at)

-- what is alike of a gate that is written and of the one that was there
either_way : {A : Type 0} (f : Gate → A) (b : Bool) (g h : Gate) → (b ≡ true → f g ≡ f h) → f (cond b g h) ≡ f h
either_way f true g h same = same refl
either_way f false g h same = refl

-- no event takes a node or a port away
pub extends_next : (s : State) (e : Event) → Legal s e → Extends s.config (effect s e).config
extends_next s e l =
    let r = reconfigured s e l in
    record {
      nodes = λ n m at. node_stays s.config (effect s e).config e r n m at;
      owners = λ q made. owner_kept s.config (effect s e).config e r q made;
      requirements = λ q made. require_kept s.config (effect s e).config e r q made;
      many = omega (arith, r.ports, ports_grow s.config e);
    }

-- and none but a link makes one
pub no_new_link : (s : State) (e : Event) → Legal s e → is_link e ≡ false → HasNoNewLink s.config (effect s e).config
no_new_link s e l h = by e (reconfigured s e l) h
  where
    was : (b : Bool) (o : Option Target) (t : Target) → cond b None o ≡ Some t → o ≡ Some t
    was true o t to = absurd (cc (to))
    was false o t to = to

    by : (e : Event) → Reconfigures s.config e (effect s e).config → is_link e ≡ false → HasNoNewLink s.config (effect s e).config
    by (Close p) r h = record { old = λ q t to. sym (ap (λ (g : Gate). g.target) (r.gates q) ∙ either_way (λ (g : Gate). g.target) (p == q) _ (gate s.config q) (λ here. refl)) ∙ to }
    by (Reopen p) r h = record { old = λ q t to. sym (ap (λ (g : Gate). g.target) (r.gates q) ∙ either_way (λ (g : Gate). g.target) (p == q) _ (gate s.config q) (λ here. refl)) ∙ to }
    by (Make n node from) r h = record { old = λ q t to. sym (target_made s.config (effect s (Make n node from)).config n node from r q) ∙ to }
    by (Unlink p) r h = record { old = λ q t to. was (p == q) (target s.config q) t (sym (target_unlinked s.config (effect s (Unlink p)).config p r q) ∙ to) }
    by (Link p n x) r h = absurd (both_ways true h refl)
    by _ r h = record { old = λ q t to. sym (ap (λ (g : Gate). g.target) (r.gates q)) ∙ to }

-- a port stays closed until it is reopened
pub closed_next : (s : State) (e : Event) (p : ℕ) → Legal s e → reopens p e ≡ false → (gate s.config p).closed ≡ true → (gate (effect s e).config p).closed ≡ true
closed_next s e p l free shut = ap (λ (g : Gate). g.closed) ((reconfigured s e l).gates p) ∙ by e free
  where
    both : (b : Bool) (g h : Gate) → (b ≡ true → g.closed ≡ true) → h.closed ≡ true → (cond b g h).closed ≡ true
    both true g h first second = first refl
    both false g h first second = second

    by : (e : Event) → reopens p e ≡ false → (gate_next s.config p e).closed ≡ true
    by (Close q) free = both (q == p) _ (gate s.config p) (λ here. refl) shut
    by (Reopen q) free = both (q == p) _ (gate s.config p) (λ here. absurd (both_ways (q == p) free here)) shut
    by (Make n node from) free = both (nat_le (length s.config.gates) p && nat_lt p (length s.config.gates + length (row node.kind).requires_)) _ (gate s.config p) (λ here. refl) shut
    by (Link q n x) free = both (q == p) _ (gate s.config p) (λ here. shut) shut
    by (Unlink q) free = both (q == p) _ (gate s.config p) (λ here. shut) shut
    by _ free = shut

-- along a run

extends_on : (b c d : Configuration) → Extends b c → Extends c d → Extends b d
extends_on b c d e f = record {
  nodes = λ n m at.
      let mid = e.nodes n m at in
      let end = f.nodes n mid.now mid.there in
      record { now = end.now; there = end.there; same_node = end.same_node ∙ mid.same_node; same_port = end.same_port ∙ mid.same_port };
  owners = λ q h. f.owners q (omega (arith, h, e.many)) ∙ e.owners q h;
  requirements = λ q h. f.requirements q (omega (arith, h, e.many)) ∙ e.requirements q h;
  many = omega (arith, e.many, f.many);
}

-- nothing is barred
pub none_barred : (es : List Event) → list_any (λ e. false) es ≡ false
none_barred [] = refl
none_barred (e ∷ es) = none_barred es

pub extends_further : (es more_ : List Event) → IsRun (es ++ more_) → Extends (state_after es).config (state_after (es ++ more_)).config
extends_further es more_ run =
    along (λ xs. Extends (state_after es).config (state_after xs).config) (λ e. false)
    (λ xs e here free so_far. subst (λ s. Extends (state_after es).config s.config) (sym here.next)
    (extends_on (state_after es).config (state_after xs).config _ so_far (extends_next (state_after xs) e here.legal)))
    es more_ run (none_barred more_) (record { nodes = λ n m e. has_it (state_after es).config n m e; owners = λ q h. refl; requirements = λ q h. refl; many = omega arith })

pub no_link_further : (es more_ : List Event) → IsRun (es ++ more_) → list_any is_link more_ ≡ false → HasNoNewLink (state_after es).config (state_after (es ++ more_)).config
no_link_further es more_ run unlinking =
    along (λ xs. HasNoNewLink (state_after es).config (state_after xs).config) is_link
    (λ xs e here free so_far. subst (λ s. HasNoNewLink (state_after es).config s.config) (sym here.next)
    (record { old = λ q t to. so_far.old q t ((no_new_link (state_after xs) e here.legal free).old q t to) }))
    es more_ run unlinking (record { old = λ q t to. to })

pub reached_further : (es more_ : List Event) (n p : ℕ) → IsRun (es ++ more_) → list_any is_link more_ ≡ false → Reach (wiring_of (state_after (es ++ more_)).config) n p
    → Reach (wiring_of (state_after es).config) n p
reached_further es more_ n p run unlinking r =
    reached_before (state_after es).config (state_after (es ++ more_)).config (runs_are_well_formed es (fronts_are_runs es more_ run)).sound (extends_further es more_ run) (no_link_further es more_ run unlinking) n p r
