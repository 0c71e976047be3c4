-- The first phase of a commit: what the new graph hasn't is unlinked.
use Rattle.std.proofs.Common.{◌≡◌, ℕ, ◌<◌, Bool, true, List, ◌∷◌, length, Option, Some, None, refl, sym, ap, ◌∙◌, subst, inl, inr, ⊎_elim, lt-ltb}
use Rattle.std.specs.Prelude.{◌⊎◌, is_some, nat_lt}
use Rattle.std.proofs.lemmas.Bool.{and_from, cases_eq}
use Rattle.config_graph.specs.Graph.{Graph}
use Rattle.config_graph.specs.declared.node.Target.{Target}
use Rattle.quiesce_core.specs.declared.event.Event.TheVariants as event
use Rattle.quiesce_core.specs.declared.state.Gate.{Gate}
use Rattle.quiesce_core.specs.Effect.{with_target, with_gate}
use Rattle.quiesce_core.specs.State.{Configuration, gate, is_live, owner, target}
use Rattle.quiesce_core.proofs.SoundnessLaws.{put_elsewhere, put_here}
use Rattle.quiesce_laws.specs.Fitting.{KeptLink}
use Rattle.quiesce_laws.specs.Lists.{Apart, In}
use Rattle.quiesce_laws.specs.Steps.{MayStep}
use Rattle.quiesce_laws.proofs.BetweenLaws.{Between, Ground, between_unlink, is_noted}
use Rattle.quiesce_core.proofs.ConfigurationLaws.{linked_made}
use Rattle.quiesce_laws.specs.Commits.{Differ, IsToUnlink}

-- d is c with some links less; these are left to be unlinked
pub record Unlinking (c : Configuration) (new : Graph) (Touched : ℕ → Type 0) (d : Configuration) (left : List ℕ) : Type 0 where
  pub between : Between c Touched d
  pub slots_stay : d.slots ≡ c.slots
  pub unlinks : (p : ℕ) → In left p → IsToUnlink c new Touched p × (target d p ≡ target c p)
  pub apart : Apart Differ left
  pub kept : (p : ℕ) (t : Target) → KeptLink c new p t → target d p ≡ Some t
  pub rest : (p : ℕ) (t : Target) → target d p ≡ Some t → In left p ⊎ KeptLink c new p t

-- a port that is linked anew
pub target_put : (d : Configuration) (p : ℕ) (o : Option Target) → p < length d.gates → (q : ℕ) (t : Target) → target (with_target d p o) q ≡ Some t
    → ((q ≡ p) × (o ≡ Some t)) ⊎ ((q ≡ p → ⊥) × (target d q ≡ Some t))
target_put d p o made q t e =
    let g = record (gate d p) { target = o } in
    ⊎_elim
    (λ (same : q ≡ p). inl (same, sym (ap (λ (h : Gate). h.target) (put_here d p g made refl refl)) ∙ sym (ap (λ i. target (with_gate d p g) i) same) ∙ e))
    (λ (other : q ≡ p → ⊥). inr (other, sym (ap (λ (h : Gate). h.target) (put_elsewhere d p g made refl refl q other)) ∙ e))
    (cases_eq q p)

pub target_beside : (d : Configuration) (p : ℕ) (o : Option Target) → p < length d.gates → (q : ℕ) → (q ≡ p → ⊥) → target (with_target d p o) q ≡ target d q
target_beside d p o made q other = ap (λ (h : Gate). h.target) (put_elsewhere d p (record (gate d p) { target = o }) made refl refl q other)

module _ (c : Configuration) (new : Graph) (Touched : ℕ → Type 0) (noted : ℕ → Bool) (ground : Ground c Touched noted)
    (owners_live : (p : ℕ) (t : Target) → target c p ≡ Some t → is_live c (owner c p) ≡ true) where
  pub unlink_may : (d : Configuration) (p : ℕ) (left : List ℕ) → Unlinking c new Touched d (p ∷ left) → MayStep noted d (event.Unlink p)
  unlink_may d p left h =
      let cut = h.unlinks p (inl refl) in
      let leads : target d p ≡ Some cut.0.to = cut.1 ∙ cut.0.leads in
      let made = linked_made d p cut.0.to leads in
      let owned = h.between.owners p (linked_made c p cut.0.to cut.0.leads) in
      let live : is_live d (owner d p) ≡ true = ap (is_live d) owned ∙ ap (λ s. is_live (record { slots = s; gates = d.gates }) (owner c p)) h.slots_stay ∙ owners_live p cut.0.to cut.0.leads in
      record {
        live = and_from (nat_lt p (length d.gates)) (is_live d (owner d p)) (lt-ltb p (length d.gates) made) live;
        linked = ap is_some leads;
        settled = is_noted c Touched noted ground d h.between (owner d p) (inl (subst Touched (sym owned) cut.0.touched)) live;
      }

  pub unlink_next : (d : Configuration) (p : ℕ) (left : List ℕ) → Unlinking c new Touched d (p ∷ left) → Unlinking c new Touched (with_target d p None) left
  unlink_next d p left h =
      let cut = h.unlinks p (inl refl) in
      let made = linked_made d p cut.0.to (cut.1 ∙ cut.0.leads) in
      record {
        between = between_unlink c Touched noted ground d h.between p made;
        slots_stay = h.slots_stay;
        unlinks = λ q i. let k = h.unlinks q (inr i) in (k.0, target_beside d p None made q (h.apart.0 q i) ∙ k.1);
        apart = h.apart.1;
        kept = λ q t k. target_beside d p None made q (λ same. cut.0.unkept t (subst (λ i. KeptLink c new i t) same k)) ∙ h.kept q t k;
        rest = λ q t e. ⊎_elim
            (λ (w : (q ≡ p) × (None ≡ Some t)). absurd (cc (w.1)))
            (λ (w : (q ≡ p → ⊥) × (target d q ≡ Some t)). ⊎_elim
            (λ (i : In (p ∷ left) q). ⊎_elim (λ (same : p ≡ q). absurd (w.0 (sym same))) (λ (j : In left q). inl j) i)
            (λ (k : KeptLink c new q t). inr k)
            (h.rest q t w.1))
            (target_put d p None made q t e);
      }
