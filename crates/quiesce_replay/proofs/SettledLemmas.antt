-- Lemmas on the settled nodes among the first slots.
use Rattle.std.proofs.Common.{◌≡◌, ◌↔◌, ◌+◌, ◌<◌, ◌≤◌, inl, inr, ℕ, List, [], ◌∷◌, ◌++◌, length, get_or, slice_get, Option, Some, None, false, Contains, All, IsTrue, subst, sym, refl, arith}
use Rattle.std.specs.List.Sorted.{IsStrictlyIncreasing}
use Rattle.std.proofs.lemmas.Bool.{cases_eq}
use Rattle.std.proofs.lemmas.Option.{slice_get_within}
use Rattle.std.specs.Option.{option_map_or}
use Rattle.std.proofs.lemmas.List.Elements.{Contains-append_left, Contains-get_or, Contains-push, Contains-push_cases}
use Rattle.quiesce_core.specs.Settled.{Settled}
use Rattle.quiesce_core.specs.State.{State, is_live}
use Rattle.quiesce_core.specs.declared.state.Slot.{Slot}
use Rattle.quiesce_replay.specs.Replay.{AreSettled}
use Rattle.base.proofs.RisingLaws.{IsStrictlyIncreasing-push}

-- a live node is in a slot
live_low : (s : State) (n : ℕ) → IsTrue (is_live s.config n) → n < length s.config.slots
live_low s n live = by (slice_get s.config.slots n) refl live
  where
    by : (found : Option Slot) → slice_get s.config.slots n ≡ found → IsTrue (option_map_or (λ (m : Slot). m.live) found false) → n < length s.config.slots
    by None is live = cc
    by (Some m) is live = slice_get_within s.config.slots n m is

-- the settled nodes in the first n slots
pub record SettledBelow (s : State) (n : ℕ) (nodes : List ℕ) : Type 0 where
  pub are : (m : ℕ) → Contains nodes m ↔ ((m < n) × Settled s m)
  pub rise : IsStrictlyIncreasing nodes

module _ (s : State) (n : ℕ) (nodes : List ℕ) (so_far : SettledBelow s n nodes) where
  -- node n is settled
  pub below_push : Settled s n → SettledBelow s (n + 1) (nodes ++ n ∷ [])
  below_push settled = record {
    are = λ m. (to m, from m);
    rise = IsStrictlyIncreasing-push nodes n so_far.rise (λ k d low. ((so_far.are (get_or nodes k d)).0 (Contains-get_or nodes k d low)).0);
  }
    where
      to : (m : ℕ) → Contains (nodes ++ n ∷ []) m → (m < n + 1) × Settled s m
      to m h =
          elim (Contains-push_cases nodes n m h) [
            | inl early ↦
                let below = (so_far.are m).0 early in
                (omega (arith, below.0), below.1)
            | inr same ↦ subst (λ t. (t < n + 1) × Settled s t) same (omega arith, settled)
          ]

      from : (m : ℕ) → (m < n + 1) × Settled s m → Contains (nodes ++ n ∷ []) m
      from m (low, also) =
          elim (cases_eq m n) [
            | inl same ↦ subst (Contains (nodes ++ n ∷ [])) (sym same) (Contains-push nodes n)
            | inr apart ↦ Contains-append_left nodes (n ∷ []) m ((so_far.are m).1 (omega (arith, low, apart), also))
          ]

  -- node n isn't
  pub below_pass : ¬ Settled s n → SettledBelow s (n + 1) nodes
  below_pass unsettled = record { are = λ m. (to m, from m); rise = so_far.rise }
    where
      to : (m : ℕ) → Contains nodes m → (m < n + 1) × Settled s m
      to m h =
          let below = (so_far.are m).0 h in
          (omega (arith, below.0), below.1)

      from : (m : ℕ) → (m < n + 1) × Settled s m → Contains nodes m
      from m (low, also) =
          elim (cases_eq m n) [
            | inl same ↦ absurd (unsettled (subst (Settled s) same also))
            | inr apart ↦ (so_far.are m).1 (omega (arith, low, apart), also)
          ]

  -- there are no more slots
  pub below_all : length s.config.slots ≤ n → AreSettled s nodes
  below_all all = record { are = λ m. (λ h. ((so_far.are m).0 h).1, λ also. (so_far.are m).1 (omega (arith, all, live_low s m also.live), also)); rise = so_far.rise }

-- settled nodes are in slots
pub settled_low : (s : State) (nodes : List ℕ) → AreSettled s nodes → All (λ n. n < length s.config.slots) nodes
settled_low s nodes are k d low = live_low s (get_or nodes k d) (((are.are (get_or nodes k d)).0 (Contains-get_or nodes k d low)).live)
