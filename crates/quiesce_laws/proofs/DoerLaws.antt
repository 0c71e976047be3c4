-- Only live nodes do events.
use Rattle.std.proofs.Common.{◌≡◌, ◌∙◌, ℕ, Bool, true, false, length, Some, refl, ap, subst}
use Rattle.std.specs.Prelude.{nat_lt, ◌==◌, option_map}
use Rattle.std.proofs.lemmas.Bool.{and_parts, both_ways, eqb-true}
use Rattle.base.proofs.OptionLaws.{map_or_true, option_map_some}
use Rattle.config_graph.specs.declared.node.Target.{Target}
use Rattle.quiesce_core.specs.Legal.{Legal}
use Rattle.quiesce_core.specs.Rules.{is_live_port}
use Rattle.quiesce_core.specs.Runs.{doer, is_doer}
use Rattle.quiesce_core.specs.State.{Configuration, State, is_live, owner, target}
use Rattle.quiesce_core.specs.WellFormed.{IsSound, IsWellFormed}
use Rattle.quiesce_core.specs.declared.event.Event.{Event}
use Rattle.quiesce_core.specs.declared.event.Event.TheVariants.{Begin, Call, Take, Give, End, More, Ask, Hear, Miss, Close, Reopen, Make, Link, Unlink, Remove}

owner_live : (c : Configuration) (p n : ℕ) → is_live_port c p ≡ true → Some (owner c p) ≡ Some n → is_live c n ≡ true
owner_live c p n live is =
    subst (λ k. is_live c k ≡ true) (same_owner is) (and_parts (nat_lt p (length c.gates)) (is_live c (owner c p)) live).1
  where
    same_owner : Some (owner c p) ≡ Some n → owner c p ≡ n
    same_owner h = cc

target_live : (c : Configuration) (p n : ℕ) → IsSound c → option_map (λ (t : Target). t.node) (target c p) ≡ Some n → is_live c n ≡ true
target_live c p n sound is =
    let t = option_map_some (λ (t : Target). t.node) (target c p) n is in
    subst (λ k. is_live c k ≡ true) t.2 (sound.targets p t.0 t.1).live

pub doer_live : (s : State) (e : Event) (n : ℕ) → IsWellFormed s → Legal s e → doer s e ≡ Some n → is_live s.config n ≡ true
doer_live s (Begin p k v) n wf l is = owner_live s.config p n l.live is
doer_live s (Call p k v) n wf l is = owner_live s.config p n l.live is
doer_live s (Miss p) n wf l is = owner_live s.config p n l.live is
doer_live s (Ask p k v) n wf l is = owner_live s.config p n l.live is
doer_live s (End p k v) n wf l is = owner_live s.config p n l.live is
doer_live s (Take p k v) n wf l is = target_live s.config p n wf.sound is
doer_live s (Give p k v) n wf l is = target_live s.config p n wf.sound is
doer_live s (More p k v) n wf l is = target_live s.config p n wf.sound is
doer_live s (Hear p k v) n wf l is = target_live s.config p n wf.sound is
doer_live s (Close p) n wf l is = absurd (cc)
doer_live s (Reopen p) n wf l is = absurd (cc)
doer_live s (Make k node from) n wf l is = absurd (cc)
doer_live s (Link p m x) n wf l is = absurd (cc)
doer_live s (Unlink p) n wf l is = absurd (cc)
doer_live s (Remove m) n wf l is = absurd (cc)

is_doer_live : (s : State) (e : Event) (n : ℕ) → IsWellFormed s → Legal s e → is_doer s n e ≡ true → is_live s.config n ≡ true
is_doer_live s e n wf l does =
    let d = map_or_true (λ m. m == n) (doer s e) does in
    doer_live s e n wf l (d.1 ∙ ap Some (eqb-true d.0 n d.2))

-- so a node that was removed, or not made yet, does nothing
pub gone_does_nothing : (s : State) (e : Event) (n : ℕ) → IsWellFormed s → Legal s e → is_live s.config n ≡ false → is_doer s n e ≡ false
gone_does_nothing s e n wf l gone =
    by (is_doer s n e) refl
  where
    by : (b : Bool) → is_doer s n e ≡ b → is_doer s n e ≡ false
    by false is = is
    by true is = absurd (both_ways (is_live s.config n) gone (is_doer_live s e n wf l is))
