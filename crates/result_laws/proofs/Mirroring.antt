-- Two worlds in which nodes do the same while none begins. They may differ in gates, and in nodes that are away: such a
-- node services nothing, and its ports, and those that reach it, are idle.
use Rattle.std.proofs.Common.{◌≡◌, ◌∙◌, ℕ, ◌+◌, ◌-◌, ◌<◌, ◌⊎◌, inl, inr, Bool, true, false, List, length, set, Some, None, refl, sym, ap, ⊎_elim, arith, get_or-set_same, get_or-set_other}
use Rattle.std.specs.Prelude.{IsTrue, slice_index_or}
use Rattle.std.specs.Option.{option_map_or}
use Rattle.std.proofs.lemmas.Bool.{both_ways, cases_Bool, cases_eq}
use Rattle.config_graph.specs.Kinds.{row}
use Rattle.config_graph.specs.Wiring.{Reach, direct, through}
use Rattle.quiesce_word.specs.Phases.{is_idle}
use Rattle.quiesce_core.specs.Reach.{IsPortOf, wiring_of}
use Rattle.quiesce_core.specs.State.{Configuration, State, depends, exchange, gate, owner, service, slot, target}
use Rattle.quiesce_core.specs.WellFormed.{IsSound}
use Rattle.quiesce_core.specs.declared.state.Slot.{Slot}
use Rattle.quiesce_core.proofs.ConfigurationLaws.{linked_made}
use Rattle.quiesce_core.proofs.ReachLaws.{owner_of}
use Rattle.config_graph.specs.Kinds.{depends_on}
use Rattle.node_turn_laws.specs.Reached.{IsReached}
use Rattle.node_turn_laws.specs.World.{World, inbox, state_of, waiting_of}

-- ---- lists that are set alike

pub set_alike : {A : Type 0} (xs ys : List A) (n k : ℕ) (x y d : A) → n < length xs → n < length ys → x ≡ y → slice_index_or xs k d ≡ slice_index_or ys k d
    → slice_index_or (set xs n x) k d ≡ slice_index_or (set ys n y) k d
set_alike xs ys n k x y d low low' same others = ⊎_elim
    (λ (is : k ≡ n).
    ap (λ j. slice_index_or (set xs n x) j d) is ∙ get_or-set_same xs n x d low ∙ same ∙ sym (get_or-set_same ys n y d low')
    ∙ sym (ap (λ j. slice_index_or (set ys n y) j d) is))
    (λ (ne : k ≡ n → ⊥). get_or-set_other xs n k x d ne ∙ others ∙ sym (get_or-set_other ys n k y d ne))
    (cases_eq k n)

-- ---- what reaches a node in two wirings that differ at nodes that are away

-- links of d are links of c, and what depends there depends in c, but for nodes that are away
pub record Between (away : ℕ → Bool) (c d : Configuration) : Type 0 where
  pub links : (q n x : ℕ) → target d q ≡ Some (record { node = n; provide = x }) → (away (owner d q) ≡ true) ⊎ (target c q ≡ Some (record { node = n; provide = x }))
  pub depends : (m x p : ℕ) → away m ≡ false → IsPortOf d m p → IsTrue (depends d m x p) → IsPortOf c m p × IsTrue (depends c m x p)
  pub owned : (m p : ℕ) → IsPortOf d m p → owner d p ≡ m

-- a port that reaches a node that is away
pub record ReachesAway (away : ℕ → Bool) (c : Configuration) (q : ℕ) : Type 0 where
  pub node : ℕ
  pub is_away : away node ≡ true
  pub reaches : Reach (wiring_of c) node q

pub reach_between : (away : ℕ → Bool) (c d : Configuration) → Between away c d → (n q : ℕ) → away n ≡ true → Reach (wiring_of d) n q
    → ReachesAway away c q ⊎ (away (owner d q) ≡ true)
reach_between away c d h n _ is (direct {p} {x} e) = ⊎_elim
    (λ (own : away (owner d p) ≡ true). inr own)
    (λ (old : target c p ≡ Some (record { node = n; provide = x })). inl (record { node = n; is_away = is; reaches = direct old }))
    (h.links p n x e)
reach_between away c d h n _ is (through {p} {q} {m} {x} r dep e) = ⊎_elim
    (λ (own : away (owner d q) ≡ true). inr own)
    (λ (old : target c q ≡ Some (record { node = m; provide = x })). ⊎_elim
    (λ (yes_ : away m ≡ true). inl (record { node = m; is_away = yes_; reaches = direct old }))
    (λ (no_ : away m ≡ false). ⊎_elim
    (λ (w : ReachesAway away c p). inl (record { node = w.node; is_away = w.is_away; reaches = through w.reaches (h.depends m x p no_ dep.0 dep.1) old }))
    (λ (own : away (owner d p) ≡ true). absurd (both_ways (away m) no_ (sym (ap away (h.owned m p dep.0)) ∙ own)))
    (reach_between away c d h n p is r))
    (cases_Bool (away m)))
    (h.links q m x e)

-- ---- ports of nodes that are made alike

abbrev pub same_port : (c d : Configuration) (n p : ℕ) → slot c n ≡ slot d n → IsPortOf c n p → IsPortOf d n p
same_port c d n p same o = record { node = o.node; made = sym same ∙ o.made; from = o.from; below = o.below }

required : (c : Configuration) → IsSound c → (n p : ℕ) (o : IsPortOf c n p) → (gate c p).require ≡ p - o.node.first_port
required c sound n p o =
    let at : o.node.first_port + (p - o.node.first_port) ≡ p = omega (arith, o.from) in
    let within : p - o.node.first_port < length (row o.node.node.kind).requires_ = omega (arith, o.from, o.below) in
    sym (ap (λ i. (gate c i).require) at) ∙ (sound.rows n o.node o.made).in_order (p - o.node.first_port) within

pub same_depends : (c d : Configuration) → IsSound c → IsSound d → (n x p : ℕ) (same : slot c n ≡ slot d n) → IsPortOf c n p → depends c n x p ≡ depends d n x p
same_depends c d sound_c sound_d n x p same o =
    let req : (gate c p).require ≡ (gate d p).require = required c sound_c n p o ∙ sym (required d sound_d n p (same_port c d n p same o)) in
    λ i. option_map_or (λ (m : Slot). depends_on m.node.kind x (req i)) (same i) false

-- ---- worlds

pub record Alike (away : ℕ → Bool) (a b : World) : Type 0 where
  pub slots : (n : ℕ) → away n ≡ false → slot a.machine.config n ≡ slot b.machine.config n
  pub targets : (n p : ℕ) → away n ≡ false → IsPortOf a.machine.config n p → target a.machine.config p ≡ target b.machine.config p
  pub exchanges : (p : ℕ) → exchange a.machine p ≡ exchange b.machine p
  pub services : (n : ℕ) → service a.machine n ≡ service b.machine n
  pub states : (n : ℕ) → away n ≡ false → state_of a n ≡ state_of b n
  pub boxes : (n : ℕ) → away n ≡ false → inbox a n ≡ inbox b n
  pub waits : (n : ℕ) → away n ≡ false → waiting_of a n ≡ waiting_of b n

-- nothing goes on at the nodes that are away, and nothing will
pub record Apart (away : ℕ → Bool) (s : State) : Type 0 where
  pub serves : (n : ℕ) → away n ≡ true → service s n ≡ None
  pub own : (n p : ℕ) → away n ≡ true → IsPortOf s.config n p → is_idle (exchange s p).phase ≡ true
  pub reaching : (n p : ℕ) → away n ≡ true → Reach (wiring_of s.config) n p → is_idle (exchange s p).phase ≡ true

pub record Mirrors (away : ℕ → Bool) (a b : World) : Type 0 where
  pub alike : Alike away a b
  pub here : Apart away a.machine
  pub there : Apart away b.machine
  pub reached_here : IsReached a
  pub reached_there : IsReached b

pub alike_back : (away : ℕ → Bool) (a b : World) → Alike away a b → Alike away b a
alike_back away a b h = record {
  slots = λ n no_. sym (h.slots n no_);
  targets = λ n p no_ o. sym (h.targets n p no_ (same_port b.machine.config a.machine.config n p (sym (h.slots n no_)) o));
  exchanges = λ p. sym (h.exchanges p);
  services = λ n. sym (h.services n);
  states = λ n no_. sym (h.states n no_);
  boxes = λ n no_. sym (h.boxes n no_);
  waits = λ n no_. sym (h.waits n no_);
}

pub mirrors_back : (away : ℕ → Bool) (a b : World) → Mirrors away a b → Mirrors away b a
mirrors_back away a b m = record {
  alike = alike_back away a b m.alike;
  here = m.there;
  there = m.here;
  reached_here = m.reached_there;
  reached_there = m.reached_here;
}

-- a world is alike itself
pub mirrors_itself : (w : World) → IsReached w → Mirrors (λ n. false) w w
mirrors_itself w r = record {
  alike = record {
    slots = λ n _. refl;
    targets = λ n p _ o. refl;
    exchanges = λ p. refl;
    services = λ n. refl;
    states = λ n _. refl;
    boxes = λ n _. refl;
    waits = λ n _. refl;
  };
  here = record { serves = λ n h. absurd (both_ways false refl h); own = λ n p h o. absurd (both_ways false refl h); reaching = λ n p h r. absurd (both_ways false refl h) };
  there = record { serves = λ n h. absurd (both_ways false refl h); own = λ n p h o. absurd (both_ways false refl h); reaching = λ n p h r. absurd (both_ways false refl h) };
  reached_here = r;
  reached_there = r;
}

-- the links of the first are those of the other
pub between_alike : (away : ℕ → Bool) (a b : World) → Alike away a b → IsSound a.machine.config → IsSound b.machine.config → Between away b.machine.config a.machine.config
between_alike away a b h sound_a sound_b =
    let c = a.machine.config in
    let d = b.machine.config in
    record {
      links = λ q n x e. ⊎_elim
          (λ (yes_ : away (owner c q) ≡ true). inl yes_)
          (λ (no_ : away (owner c q) ≡ false). inr (sym (h.targets (owner c q) q no_ (sound_a.ports q (linked_made c q (record { node = n; provide = x }) e))) ∙ e))
          (cases_Bool (away (owner c q)));
      depends = λ m x p no_ o dep. (same_port c d m p (h.slots m no_) o, sym (same_depends c d sound_a sound_b m x p (h.slots m no_) o) ∙ dep);
      owned = owner_of c sound_a;
    }
