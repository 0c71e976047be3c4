-- The second phase of a commit: live nodes that the new graph hasn't are removed.
use Rattle.std.proofs.Common.{◌≡◌, ℕ, Bool, true, false, not, List, ◌∷◌, length, set, Option, Some, None, refl, sym, ap, ◌∙◌, subst, inl, inr, ⊎_elim, Contains}
use Rattle.std.specs.Prelude.{◌⊎◌, ◌==◌, is_none}
use Rattle.std.specs.List.{list_all, range_with_len}
use Rattle.std.specs.Option.{option_map_or}
use Rattle.std.proofs.lemmas.Bool.{and_from, both_ways, cases_eq, eqb-true, not_from_false, false_from_ne_true}
use Rattle.std.proofs.lemmas.Option.{same_Some}
use Rattle.config_graph.specs.Graph.{Graph}
use Rattle.config_graph.specs.declared.node.Node.{Node}
use Rattle.config_graph.specs.declared.node.Target.{Target}
use Rattle.quiesce_core.specs.declared.event.Event.TheVariants as event
use Rattle.quiesce_core.specs.declared.state.Slot.{Slot}
use Rattle.quiesce_core.specs.Effect.{with_removed}
use Rattle.quiesce_core.specs.Live.{IsLiveAt, StandsAt}
use Rattle.quiesce_core.specs.Rules.{is_apart}
use Rattle.quiesce_core.specs.State.{Configuration, is_live, owner, ports_of, slot, target}
use Rattle.quiesce_core.proofs.CycleLaws.{of_all}
use Rattle.base.proofs.OptionLaws.{map_or_at}
use Rattle.base.proofs.RangeLaws.{range_all}
use Rattle.base.proofs.ContainsLaws.{Contains-at}
use Rattle.quiesce_core.proofs.SoundnessLaws.{here_gone, slot_elsewhere}
use Rattle.quiesce_core.proofs.ReachLaws.{owner_of}
use Rattle.quiesce_laws.specs.Fitting.{KeptLink}
use Rattle.quiesce_laws.specs.Lists.{Apart, In}
use Rattle.quiesce_laws.specs.Steps.{MayStep}
use Rattle.quiesce_laws.proofs.BetweenLaws.{Between, Ground, between_remove, is_noted}
use Rattle.quiesce_core.proofs.ConfigurationLaws.{linked_made, removed_is}
use Rattle.quiesce_laws.specs.Commits.{Differ, IsToRemove}

-- links are those that the new graph keeps, some nodes are removed, and these are left
pub record Removing (c : Configuration) (new : Graph) (Touched : ℕ → Type 0) (all : List ℕ) (d : Configuration) (left : List ℕ) : Type 0 where
  pub between : Between c Touched d
  pub links : (p : ℕ) (t : Target) → target d p ≡ Some t → KeptLink c new p t
  pub kept : (p : ℕ) (t : Target) → KeptLink c new p t → target d p ≡ Some t
  pub nodes : (n : ℕ) (node : Node) → IsLiveAt d n node → IsLiveAt c n node × (In left n ⊎ Contains new.nodes node)
  pub stays : (n : ℕ) (node : Node) → IsLiveAt c n node → Contains new.nodes node → IsLiveAt d n node
  pub to_remove : (n : ℕ) → In left n → IsToRemove c new Touched n × ((node : Node) → IsLiveAt c n node → IsLiveAt d n node)
  pub dead : (n : ℕ) → In all n → In left n ⊎ (is_live d n ≡ false)
  pub apart : Apart Differ left

pub live_is : (d : Configuration) (n : ℕ) (node : Node) → IsLiveAt d n node → is_live d n ≡ true
live_is d n node l = map_or_at (λ (m : Slot). m.live) (slot d n) false l.made l.there ∙ l.live

-- the live nodes after one is removed
module _ (d : Configuration) (n : ℕ) (m : Slot) (e : slot d n ≡ Some m) where
  pub live_before : (k : ℕ) (node : Node) → IsLiveAt (with_removed d n) k node → (k ≡ n → ⊥) × IsLiveAt d k node
  live_before k node l =
      let l' = subst (λ f. IsLiveAt f k node) (removed_is d n m e) l in
      ⊎_elim
      (λ (same : k ≡ n).
      let one : record m { live = false } ≡ l'.made = same_Some (record m { live = false }) l'.made (sym (here_gone d n m e) ∙ sym (ap (λ i. slot (record d { slots = set d.slots n (record m { live = false }) }) i) same) ∙ l'.there) in
      absurd (both_ways false refl (ap (λ (s : Slot). s.live) one ∙ l'.live)))
      (λ (other : k ≡ n → ⊥). (other, record { made = l'.made; there = sym (slot_elsewhere d n m e k other) ∙ l'.there; live = l'.live; is_node = l'.is_node }))
      (cases_eq k n)

  pub live_after : (k : ℕ) (node : Node) → (k ≡ n → ⊥) → IsLiveAt d k node → IsLiveAt (with_removed d n) k node
  live_after k node other l = subst (λ f. IsLiveAt f k node) (sym (removed_is d n m e))
      (record { made = l.made; there = slot_elsewhere d n m e k other ∙ l.there; live = l.live; is_node = l.is_node })

  pub not_live : is_live (with_removed d n) n ≡ false
  not_live = ap (λ f. is_live f n) (removed_is d n m e) ∙ map_or_at (λ (s : Slot). s.live) (slot (record d { slots = set d.slots n (record m { live = false }) }) n) false (record m { live = false }) (here_gone d n m e)

  pub dead_after : (k : ℕ) → is_live d k ≡ false → is_live (with_removed d n) k ≡ false
  dead_after k h = ⊎_elim
      (λ (same : k ≡ n). ap (is_live (with_removed d n)) same ∙ not_live)
      (λ (other : k ≡ n → ⊥). ap (λ f. is_live f k) (removed_is d n m e) ∙ ap (λ o. option_map_or (λ (s : Slot). s.live) o false) (slot_elsewhere d n m e k other) ∙ h)
      (cases_eq k n)

one_there : (d : Configuration) (n : ℕ) (a b : Node) → IsLiveAt d n a → IsLiveAt d n b → a ≡ b
one_there d n a b l k = sym l.is_node ∙ ap (λ (s : Slot). s.node) (same_Some l.made k.made (sym l.there ∙ k.there)) ∙ k.is_node

module _ (c : Configuration) (new : Graph) (Touched : ℕ → Type 0) (noted : ℕ → Bool) (ground : Ground c Touched noted) (all : List ℕ) where
  -- a node that stands in the new graph is none that is removed
  stays_away : (n k i : ℕ) → IsToRemove c new Touched n → StandsAt c new.nodes k i → k ≡ n → ⊥
  stays_away n k i go s same =
      let one : s.made ≡ go.live.made = same_Some s.made go.live.made (sym s.there ∙ ap (slot c) same ∙ go.live.there) in
      go.gone (subst (Contains new.nodes) (ap (λ (m : Slot). m.node) one ∙ go.live.is_node) (Contains-at new.nodes i s.made.node s.stands))

  unled : (d : Configuration) (n : ℕ) (left : List ℕ) → Removing c new Touched all d left → IsToRemove c new Touched n → (q : ℕ) (t : Target) → target d q ≡ Some t → t.node ≡ n → ⊥
  unled d n left h go q t e same = let k = (h.links q t e).fits in stays_away n t.node k.j go k.stands.to_there same

  unlinked_from : (d : Configuration) (n : ℕ) (left : List ℕ) → Removing c new Touched all d left → IsToRemove c new Touched n → (q : ℕ) (t : Target) → target d q ≡ Some t → owner d q ≡ n → ⊥
  unlinked_from d n left h go q t e same =
      let k = h.links q t e in
      stays_away n (owner c q) k.fits.i go k.fits.stands.from_there (sym (h.between.owners q (linked_made c q t k.leads)) ∙ same)

  is_apart_if : (d : Configuration) (n : ℕ) (left : List ℕ) → Removing c new Touched all d left → IsToRemove c new Touched n → is_apart d n ≡ true
  is_apart_if d n left h go = and_from (list_all (λ p. is_none (target d p)) (ports_of d n)) (list_all (λ p. option_map_or (λ (t : Target). not (t.node == n)) (target d p) true) (range_with_len 0 (length d.gates)))
      (of_all d n (λ p. is_none (target d p)) (λ p o. none_of p (target d p) refl (owner_of d h.between.sound_now n p o)))
      (range_all (λ p. option_map_or (λ (t : Target). not (t.node == n)) (target d p) true) 0 (length d.gates) (λ p l u. away p (target d p) refl))
    where
      none_of : (p : ℕ) (o : Option Target) → target d p ≡ o → owner d p ≡ n → is_none o ≡ true
      none_of p None e own = refl
      none_of p (Some t) e own = absurd (unlinked_from d n left h go p t e own)

      away : (p : ℕ) (o : Option Target) → target d p ≡ o → option_map_or (λ (t : Target). not (t.node == n)) o true ≡ true
      away p None e = refl
      away p (Some t) e = not_from_false (t.node == n) (false_from_ne_true (t.node == n) (λ same. unled d n left h go p t e (eqb-true t.node n same)))

  pub remove_may : (d : Configuration) (n : ℕ) (left : List ℕ) → Removing c new Touched all d (n ∷ left) → MayStep noted d (event.Remove n)
  remove_may d n left h =
      let go = h.to_remove n (inl refl) in
      record {
        settled = is_noted c Touched noted ground d h.between n (inl go.0.touched) (live_is d n go.0.node (go.1 go.0.node go.0.live));
        apart = is_apart_if d n (n ∷ left) h go.0;
      }

  pub remove_next : (d : Configuration) (n : ℕ) (left : List ℕ) → Removing c new Touched all d (n ∷ left) → Removing c new Touched all (with_removed d n) left
  remove_next d n left h =
      let go = h.to_remove n (inl refl) in
      let here = go.1 go.0.node go.0.live in
      let m = here.made in
      let e = here.there in
      record {
        between = between_remove c Touched noted ground d h.between n m e (unled d n (n ∷ left) h go.0);
        links = λ p t w. h.links p t w;
        kept = λ p t k. h.kept p t k;
        nodes = λ k node l.
            let was = live_before d n m e k node l in
            let old = h.nodes k node was.1 in (
              old.0,
              ⊎_elim
                  (λ (i : In (n ∷ left) k). ⊎_elim (λ (same : n ≡ k). absurd (was.0 (sym same))) (λ (j : In left k). inl j) i)
                  (λ (s : Contains new.nodes node). inr s) old.1,
            );
        stays = λ k node l s. live_after d n m e k node
            (λ same. go.0.gone (subst (Contains new.nodes) (one_there c n node go.0.node (subst (λ i. IsLiveAt c i node) same l) go.0.live) s))
            (h.stays k node l s);
        to_remove = λ k i. let g = h.to_remove k (inr i) in (g.0, λ node l. live_after d n m e k node (h.apart.0 k i) (g.1 node l));
        dead = λ k i. ⊎_elim
            (λ (j : In (n ∷ left) k). ⊎_elim (λ (same : n ≡ k). inr (ap (is_live (with_removed d n)) (sym same) ∙ not_live d n m e)) (λ (l : In left k). inl l) j)
            (λ (f : is_live d k ≡ false). inr (dead_after d n m e k f))
            (h.dead k i);
        apart = h.apart.1;
      }
