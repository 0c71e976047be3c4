-- The change's events change no exchange and no service. But for Link they make no link, and Link makes none to which a transaction
-- can lead.
use Rattle.std.proofs.Common.{◌≡◌, ℕ, true, false, length, Some, None, refl, sym, ap, ◌∙◌, ⊎_elim}
use Rattle.std.proofs.lemmas.Bool.{and_parts, both_ways, cases_eq}
use Rattle.config_graph.specs.Kinds.{row}
use Rattle.config_graph.specs.Wiring.{Reach, direct, through}
use Rattle.config_graph.specs.declared.node.Target.{Target}
use Rattle.quiesce_core.specs.declared.event.Event.{Event}
use Rattle.quiesce_core.specs.declared.event.Event.TheVariants.{Close, Reopen, Make, Link, Unlink, Remove}
use Rattle.quiesce_core.specs.declared.state.Gate.{Gate}
use Rattle.quiesce_core.specs.Doers.{is_of_change}
use Rattle.quiesce_core.specs.Effect.{effect}
use Rattle.quiesce_core.specs.Legal.{Legal}
use Rattle.quiesce_word.specs.Phases.{is_idle}
use Rattle.quiesce_core.specs.Reach.{IsPortOf, wiring_of}
use Rattle.quiesce_core.specs.State.{Configuration, State, fresh_exchange, gate, owner, target, depends, exchange, service}
use Rattle.quiesce_core.specs.Traffic.{IsConsistent}
use Rattle.quiesce_core.specs.WellFormed.{IsWellFormed}
use Rattle.quiesce_core.proofs.ReachLaws.{owner_of}
use Rattle.quiesce_core.proofs.SettledLaws.{settled_if}
use Rattle.quiesce_core.proofs.SoundnessLaws.{put_elsewhere, well_formed_next}
use Rattle.quiesce_core.proofs.TableLaws.{gate_place}
use Rattle.base.proofs.PlaceLaws.{fresh_behind}
use Rattle.quiesce_laws.specs.Events.{is_link}
use Rattle.quiesce_core.proofs.StabilityLaws.{busy_ports_stay}
use Rattle.quiesce_laws.proofs.ExtensionLaws.{extends_next, no_new_link}
use Rattle.quiesce_laws.proofs.ChangeFalls.{Spares}
use Rattle.quiesce_laws.proofs.Fewer.{GoodLinks}

-- what is done at ports and serviced by nodes stays
record IsKept (s t : State) : Type 0 where
  exchanges : (q : ℕ) → exchange t q ≡ exchange s q
  services : (m : ℕ) → service t m ≡ service s m

traffic_stays : (s : State) (e : Event) → is_of_change e ≡ true → IsKept s (effect s e)
traffic_stays s (Close p) h = record { exchanges = λ q. refl; services = λ m. refl }
traffic_stays s (Reopen p) h = record { exchanges = λ q. refl; services = λ m. refl }
traffic_stays s (Make n node from) h = record {
  exchanges = λ q. fresh_behind s.traffic.exchanges fresh_exchange (length (row node.kind).requires_) q;
  services = λ m. fresh_behind s.traffic.services None 1 m;
}
traffic_stays s (Link p n x) h = record { exchanges = λ q. refl; services = λ m. refl }
traffic_stays s (Unlink p) h = record { exchanges = λ q. refl; services = λ m. refl }
traffic_stays s (Remove n) h = record { exchanges = λ q. refl; services = λ m. refl }
traffic_stays s _ h = absurd (both_ways false refl h)

spares_if : (s : State) (e : Event) → IsWellFormed s → IsConsistent s → Legal s e → is_of_change e ≡ true → (Good : ℕ → ℕ → Type 0) → GoodLinks s.config (effect s e).config Good
    → ((q : ℕ) (t : Target) → is_idle (exchange s q).phase ≡ false → target s.config q ≡ Some t → Good t.node t.provide) → Spares s (effect s e) Good
spares_if s e w c l change Good fewer busy =
    let kept = traffic_stays s e change in
    record {
      fewer = fewer;
      busy = busy;
      no_cycle = (well_formed_next s e w l).sound.no_cycle;
      exchanges = kept.exchanges;
      services = kept.services;
      leads = λ q open_. busy_ports_stay s e w c l q open_;
    }

-- each provision of each node
abbrev pub All : ℕ → ℕ → Type 0
All m x = Unit {0}

pub spares : (s : State) (e : Event) → IsWellFormed s → IsConsistent s → Legal s e → is_of_change e ≡ true → is_link e ≡ false → Spares s (effect s e) All
spares s e w c l change unlinking =
    spares_if s e w c l change All
    (record { extends_ = extends_next s e l; targets = λ m x p t good o dep to. (no_new_link s e l unlinking).old p t to; closed = λ m x p t good o dep to. tt }) (λ q t open_ to. tt)

-- the provisions from which node n isn't reached
abbrev pub Apart : Configuration → ℕ → ℕ → ℕ → Type 0
Apart c n m x = (m ≡ n → ⊥) × ((q : ℕ) → IsPortOf c m q → depends c m x q ≡ true → Reach (wiring_of c) n q → ⊥)

-- that to which a port is linked that doesn't reach the node
apart_from : (c : Configuration) (n q : ℕ) (t : Target) → target c q ≡ Some t → (Reach (wiring_of c) n q → ⊥) → Apart c n t.node t.provide
apart_from c n q t e none_ = (
  λ same. none_ (direct {x = t.provide} (e ∙ ap (λ i. Some (record { node = i; provide = t.provide })) same)),
  λ i o dep r. none_ (through {p = i} {m = t.node} {x = t.provide} r (o, dep) e),
)

-- No open transaction can lead to the owner of a port that is linked: the owner is settled.
pub link_spares : (s : State) (p n x : ℕ) → IsWellFormed s → IsConsistent s → Legal s (Link p n x) → Spares s (effect s (Link p n x)) (Apart s.config (owner s.config p))
link_spares s p n x w c l =
    let made = gate_place s p l.live in
    let rests = settled_if s w.sound (owner s.config p) l.settled in
    spares_if s (Link p n x) w c l refl (Apart s.config (owner s.config p)) (record {
      extends_ = extends_next s (Link p n x) l;
      targets = λ m y q t good o dep to. ⊎_elim
          (λ (here : q ≡ p). absurd (good.0 (sym (owner_of s.config w.sound m q o) ∙ ap (λ i. owner s.config i) here)))
          (λ (other : q ≡ p → ⊥).
          sym (ap (λ (g : Gate). g.target) (put_elsewhere s.config p (record (gate s.config p) { target = Some (record { node = n; provide = x }) }) made refl refl q other)) ∙ to)
          (cases_eq q p);
      closed = λ m y q t good o dep to. apart_from s.config (owner s.config p) q t to (good.1 q o dep);
    })
    (λ q t open_ to. apart_from s.config (owner s.config p) q t to (λ r.
    both_ways (is_idle (exchange s q).phase) open_ (and_parts (gate s.config q).closed (is_idle (exchange s q).phase) (rests.reaching q r)).1))
