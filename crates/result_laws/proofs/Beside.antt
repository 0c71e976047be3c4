-- What an event that shapes no row leaves of one: its nodes stand and lead as they did, whatever else is made, linked or removed.
use Rattle.std.proofs.Common.{◌≡◌, ◌∙◌, ℕ, ◌<◌, Bool, true, false, cond, length, Option, Some, refl, sym, ap, subst, arith, ⊎_elim}
use Rattle.std.specs.Prelude.{◌==◌, option_and_then, option_map}
use Rattle.std.specs.Option.{option_map_or}
use Rattle.std.proofs.lemmas.Bool.{and_parts, both_ways, cases_Bool, eqb-true, false_from_ne_true, ne_eqb}
use Rattle.std.proofs.lemmas.Option.{none-some, same_Some, slice_get_within}
use Rattle.config_graph.specs.declared.node.Target.{Target}
use Rattle.quiesce_word.specs.Phases.{is_idle}
use Rattle.quiesce_core.specs.Alters.{Reconfigures, service_by}
use Rattle.quiesce_core.specs.Doers.{is_of_change, relinks}
use Rattle.quiesce_core.specs.Effect.{effect}
use Rattle.quiesce_core.specs.Legal.{Legal}
use Rattle.quiesce_core.specs.Rules.{is_settled, is_taken}
use Rattle.quiesce_core.specs.State.{Configuration, State, exchange, gate, owner, service, slot, target}
use Rattle.quiesce_core.specs.Traffic.{IsConsistent}
use Rattle.quiesce_core.specs.WellFormed.{IsSound, IsWellFormed}
use Rattle.quiesce_core.specs.declared.event.Event.{Event}
use Rattle.quiesce_core.specs.declared.event.Event.TheVariants as event
use Rattle.quiesce_core.specs.declared.state.Exchange.{Exchange}
use Rattle.quiesce_core.specs.declared.state.Service.{Service}
use Rattle.quiesce_core.specs.declared.state.Slot.{Slot}
use Rattle.quiesce_core.proofs.AlterLaws.{exchanges_next, reconfigured, services_next}
use Rattle.quiesce_core.proofs.ConfigurationLaws.{owner_kept, target_kept}
use Rattle.quiesce_core.proofs.SettledLaws.{settled_if}
use Rattle.quiesce_core.proofs.StateLaws.{taken_busy}
use Rattle.quiesce_core.proofs.TableLaws.{gate_place}
use Rattle.result_laws.specs.Rows.{is_of_row, rows_serve_rows}
use Rattle.result_laws.proofs.AgreeingLaws.{change_does}
use Rattle.result_laws.proofs.EventLaws.{nothing_there}
use Rattle.result_laws.proofs.Linking.{AllLinked}
use Rattle.result_laws.proofs.RowSlots.{led_by_row, port_was, row_port, row_slot, shapes_row, slot_is, slot_on}

-- what is of a row stands and leads as it did
pub record KeepsRow (c d : Configuration) : Type 0 where
  pub slots : (n : ℕ) (m : Slot) → slot c n ≡ Some m → is_of_row m.node.kind ≡ true → slot d n ≡ Some m
  pub back : (n : ℕ) (m : Slot) → slot d n ≡ Some m → m.live ≡ true → is_of_row m.node.kind ≡ true → slot c n ≡ Some m
  pub leads : (p n x : ℕ) → target c p ≡ Some (record { node = n; provide = x }) → row_slot c n ≡ true → target d p ≡ Some (record { node = n; provide = x })
  pub comes : (p n x : ℕ) → target d p ≡ Some (record { node = n; provide = x }) → row_slot c n ≡ true → target c p ≡ Some (record { node = n; provide = x })
  pub owners : (p : ℕ) → p < length c.gates → owner d p ≡ owner c p

-- ---- slots

slots_kept : (c d : Configuration) (e : Event) → Reconfigures c e d → shapes_row c e ≡ false → (n : ℕ) (m : Slot) → slot c n ≡ Some m → is_of_row m.node.kind ≡ true → slot d n ≡ Some m
slots_kept c d (event.Make i node from) r none_ n m at of_row = r.slots n ∙ rw (ne_eqb n (length c.slots) (λ same. let low = slice_get_within c.slots n m at in omega (arith, low, same))) at
slots_kept c d (event.Remove k) r none_ n m at of_row = by (n == k) refl
  where
    by : (b : Bool) → (n == k) ≡ b → slot d n ≡ Some m
    by true is = absurd (both_ways (row_slot c k) none_ (ap (row_slot c) (sym (eqb-true n k is)) ∙ slot_is c n m at ∙ of_row))
    by false is = r.slots n ∙ ap (λ b. cond b (option_map (λ (x : Slot). record x { live = false }) (slot c n)) (slot c n)) is ∙ at
slots_kept c d _ r none_ n m at of_row = r.slots n ∙ at

slots_back : (c d : Configuration) (e : Event) → Reconfigures c e d → shapes_row c e ≡ false → (n : ℕ) (m : Slot) → slot d n ≡ Some m → m.live ≡ true → is_of_row m.node.kind ≡ true → slot c n ≡ Some m
slots_back c d (event.Make i node from) r none_ n m at live of_row = by (n == length c.slots) (sym (r.slots n) ∙ at)
  where
    by : (b : Bool) → cond b (Some (record { node = node; first_port = length c.gates; from = from; live = true })) (slot c n) ≡ Some m → slot c n ≡ Some m
    by true is = absurd (both_ways (is_of_row node.kind) none_ (ap (λ (x : Slot). is_of_row x.node.kind) (same_Some _ m is) ∙ of_row))
    by false is = is
slots_back c d (event.Remove k) r none_ n m at live of_row = by (n == k) (sym (r.slots n) ∙ at)
  where
    gone : (o : Option Slot) → option_map (λ (x : Slot). record x { live = false }) o ≡ Some m → slot c n ≡ Some m
    gone (Some x) h = absurd (both_ways m.live (sym (ap (λ (y : Slot). y.live) (same_Some _ m h))) live)
    gone _ h = absurd (none-some m h)

    by : (b : Bool) → cond b (option_map (λ (x : Slot). record x { live = false }) (slot c n)) (slot c n) ≡ Some m → slot c n ≡ Some m
    by true is = gone (slot c n) is
    by false is = is
slots_back c d _ r none_ n m at live of_row = sym (r.slots n) ∙ at

-- ---- links

pub not_relinked : (c : Configuration) (e : Event) → shapes_row c e ≡ false → (p : ℕ) → row_port c p ≡ true → relinks p e ≡ false
not_relinked c (event.Link q n x) none_ p h = false_from_ne_true (q == p) (λ same. both_ways (row_port c q) none_ (ap (row_port c) (eqb-true q p same) ∙ h))
not_relinked c (event.Unlink q) none_ p h = false_from_ne_true (q == p) (λ same. both_ways (row_port c q) none_ (ap (row_port c) (eqb-true q p same) ∙ h))
not_relinked c _ none_ p h = refl

pub relinked_made : (s : State) (e : Event) → Legal s e → (p : ℕ) → relinks p e ≡ true → p < length s.config.gates
relinked_made s (event.Link q n x) legal p h = subst (λ i. i < length s.config.gates) (eqb-true q p h) (gate_place s q legal.live)
relinked_made s (event.Unlink q) legal p h = subst (λ i. i < length s.config.gates) (eqb-true q p h) (gate_place s q legal.live)
relinked_made s _ legal p h = absurd (both_ways false refl h)

pub relinked_settled : (s : State) (e : Event) → Legal s e → (p : ℕ) → relinks p e ≡ true → is_settled s (owner s.config p) ≡ true
relinked_settled s (event.Link q n x) legal p h = ap (λ i. is_settled s (owner s.config i)) (sym (eqb-true q p h)) ∙ legal.settled
relinked_settled s (event.Unlink q) legal p h = ap (λ i. is_settled s (owner s.config i)) (sym (eqb-true q p h)) ∙ legal.settled
relinked_settled s _ legal p h = absurd (both_ways false refl h)

pub keeps_row : (s : State) (e : Event) (d : Configuration) → IsWellFormed s → Legal s e → Reconfigures s.config e d → IsSound d → shapes_row s.config e ≡ false → AllLinked rows_serve_rows s.config → AllLinked rows_serve_rows d → KeepsRow s.config d
keeps_row s e d well legal r sound_d none_ before after = record {
  slots = slots_kept s.config d e r none_;
  back = slots_back s.config d e r none_;
  leads = λ p n x at of_row.
      let t : Target = record { node = n; provide = x } in
      target_kept s.config d e r p (not_relinked s.config e none_ p (led_by_row s.config before well.sound p t at of_row)) ∙ at;
  comes = comes;
  owners = owner_kept s.config d e r;
}
  where
    comes : (p n x : ℕ) → target d p ≡ Some (record { node = n; provide = x }) → row_slot s.config n ≡ true → target s.config p ≡ Some (record { node = n; provide = x })
    comes p n x at of_row = ⊎_elim
        (λ (again : relinks p e ≡ true).
        let low = relinked_made s e legal p again in
        let row_then = led_by_row d after sound_d p (record { node = n; provide = x }) at (slot_on s.config d e r n of_row) in
        absurd (both_ways (relinks p e) (not_relinked s.config e none_ p (sym (port_was s.config d e well.sound r p low) ∙ row_then)) again))
        (λ (calm : relinks p e ≡ false). sym (target_kept s.config d e r p calm) ∙ at)
        (cases_Bool (relinks p e))

-- ---- what is under way

-- an event of the change leaves what is open
pub takens_stay : (s t : State) (e : Event) → IsWellFormed s → IsConsistent s → IsConsistent t → Legal s e → is_of_change e ≡ true → t ≡ effect s e → (q : ℕ) → is_taken t q ≡ is_taken s q
takens_stay s t e well traffic traffic_t legal change next q = by (relinks q e) refl
  where
    same : exchange t q ≡ exchange s q
    same = ap (λ (x : State). exchange x q) next ∙ exchanges_next s e well legal q ∙ nothing_there s q e change

    serves : (n : ℕ) → service t n ≡ service s n
    serves n = ap (λ (x : State). service x n) next ∙ services_next s e well legal n ∙ ap (λ b. cond b (service_by (service s n) e) (service s n)) (change_does s e n change)

    by : (b : Bool) → relinks q e ≡ b → is_taken t q ≡ is_taken s q
    by false calm =
        let targets : target t.config q ≡ target s.config q = ap (λ (x : State). target x.config q) next ∙ target_kept s.config (effect s e).config e (reconfigured s e legal) q calm in
        λ i. option_map_or (λ (v : Service). v.port == q) (option_and_then (λ (u : Target). serves u.node i) (targets i)) false
    by true again =
        let made = relinked_made s e legal q again in
        let quiet = and_parts (gate s.config q).closed (is_idle (exchange s q).phase) ((settled_if s well.sound (owner s.config q) (relinked_settled s e legal q again)).own q (well.sound.ports q made)) in
        false_from_ne_true (is_taken t q) (λ h. both_ways (is_idle (exchange t q).phase) (taken_busy t q traffic_t h) (ap (λ (x : Exchange). is_idle x.phase) same ∙ quiet.1))
        ∙ sym (false_from_ne_true (is_taken s q) (λ h. both_ways (is_idle (exchange s q).phase) (taken_busy s q traffic h) quiet.1))
