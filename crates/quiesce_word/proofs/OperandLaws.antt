-- What the operations of the gates make of a word: exclusive or with the difference of two words, or and and with the closed bit.
use Rattle.std.proofs.Common.{◌≡◌, ℕ, ◌+◌, ◌-◌, ◌^◌, ◌<◌, Bool, true, false, Some, None, List, [], ◌∷◌, refl, ap, sym, subst, ◌∙◌, arith, inl, inr}
use Rattle.std.specs.Prelude.{bit_and, bit_or, bit_xor}
use Rattle.std.specs.Int.Bits.{and_zero_r, or_zero_r, xor_assoc, xor_self, xor_zero_l, xor_zero_r}
use Rattle.std.proofs.Math.Nat.{mod-eq_of_lt}
use Rattle.std.proofs.lemmas.Nat.{and_mask, xor_comm, xor_lt}
use Rattle.std.proofs.lemmas.Option.{same_Some}
use Rattle.config_graph.specs.declared.node.Target.{Target}
use Rattle.quiesce_word.specs.declared.operands.TheConstants.{ALL_BUT_CLOSED, CLOSED}
use Rattle.quiesce_word.specs.declared.phase.Phase.{Phase}
use Rattle.quiesce_word.specs.declared.phase.Phase.TheVariants as phases
use Rattle.quiesce_word.specs.declared.word.Word.{Word}
use Rattle.quiesce_word.specs.Operands.{AreTurned, IsTurned, blank, call_difference, difference, end_difference, link_difference, message_difference}
use Rattle.quiesce_word.specs.Packs.{FitIn, by_fields, spell}
use Rattle.quiesce_word.specs.Words.{FitsTarget, FitsWord, fields, flag, pack, phase_bits, provide_bits, slot_bits, widths}
use Rattle.quiesce_word.proofs.PackLaws.{and_meets, or_meets, xor_meets}
use Rattle.quiesce_word.proofs.WordLaws.{fields_fit}

-- ---- exclusive or

xor_fits : (ws xs ys : List ℕ) → FitIn ws xs → FitIn ws ys → FitIn ws (by_fields bit_xor xs ys)
xor_fits [] [] [] f g = tt
xor_fits [] [] (y ∷ ys) f g = absurd g
xor_fits [] (x ∷ xs) ys f g = absurd f
xor_fits (w ∷ ws) [] ys f g = absurd f
xor_fits (w ∷ ws) (x ∷ xs) [] f g = absurd g
xor_fits (w ∷ ws) (x ∷ xs) (y ∷ ys) f g = (xor_lt w x y f.0 g.0, xor_fits ws xs ys f.1 g.1)

-- a number that is turned
turned : (from to old new : ℕ) → IsTurned from to old new → bit_xor old (bit_xor from to) ≡ new
turned from to old new (inl (alike, kept)) =
    ap (λ n. bit_xor old (bit_xor n to)) alike ∙ ap (bit_xor old) (xor_self to) ∙ xor_zero_r old ∙ sym kept
turned from to old new (inr (was, is)) =
    ap (λ n. bit_xor n (bit_xor from to)) was ∙ sym (xor_assoc from from to) ∙ ap (λ n. bit_xor n to) (xor_self from) ∙ xor_zero_l to ∙ sym is

-- so is what stands for it
through : {A : Type 0} (f : A → ℕ) (from to old new : A) → IsTurned from to old new → IsTurned (f from) (f to) (f old) (f new)
through f from to old new (inl (alike, kept)) = inl (ap f alike, ap f kept)
through f from to old new (inr (was, is)) = inr (ap f was, ap f is)

field_turns : {A : Type 0} (f : A → ℕ) (from to old new : A) → IsTurned from to old new → bit_xor (f old) (bit_xor (f from) (f to)) ≡ f new
field_turns f from to old new h = turned (f from) (f to) (f old) (f new) (through f from to old new h)

pub xor_turns : (from to old new : Word) → FitsWord from → FitsWord to → FitsWord old → AreTurned from to old new
    → bit_xor (pack old) (difference from to) ≡ pack new
xor_turns from to old new f t o h =
    let value = field_turns (λ n. n) from.value to.value old.value new.value h.value in
    let serial = field_turns (λ n. n) from.serial to.serial old.serial new.serial h.serial in
    let provide = field_turns provide_bits from.target to.target old.target new.target h.target in
    let slot = field_turns slot_bits from.target to.target old.target new.target h.target in
    let consequent = field_turns flag from.consequent to.consequent old.consequent new.consequent h.consequent in
    let phase = field_turns phase_bits from.phase to.phase old.phase new.phase h.phase in
    let closed = field_turns flag from.closed to.closed old.closed new.closed h.closed in
    ap (bit_xor (pack old)) (xor_meets widths (fields from) (fields to) (fields_fit from f) (fields_fit to t))
    ∙ xor_meets widths (fields old) (by_fields bit_xor (fields from) (fields to)) (fields_fit old o)
    (xor_fits widths (fields from) (fields to) (fields_fit from f) (fields_fit to t))
    ∙ (λ i. spell widths (value i ∷ serial i ∷ provide i ∷ slot i ∷ consequent i ∷ phase i ∷ closed i ∷ []))

-- ---- the steps that turn a port's exchange or its target

exchange_fits : (p : Phase) (c : Bool) (v : ℕ) → v < 2 ^ 24 → FitsWord (record blank { phase = p; consequent = c; value = v })
exchange_fits p c v h = record { value = h; serial = omega arith; target = λ t e. absurd (cc) }

pub message_turns : (p q : Phase) (u v : ℕ) → u < 2 ^ 24 → v < 2 ^ 24 → (w : Word) → FitsWord w → w.phase ≡ p → w.value ≡ u
    → bit_xor (pack w) (message_difference p u q v) ≡ pack (record w { phase = q; value = v })
message_turns p q u v u_fits v_fits w f was was_value =
    xor_turns (record blank { phase = p; value = u }) (record blank { phase = q; value = v }) w (record w { phase = q; value = v })
    (exchange_fits p false u u_fits) (exchange_fits q false v v_fits) f (record {
      closed = inl (refl, refl);
      phase = inr (was, refl);
      consequent = inl (refl, refl);
      target = inl (refl, refl);
      serial = inl (refl, refl);
      value = inr (was_value, refl);
    })

pub end_turns : (c : Bool) (u : ℕ) → u < 2 ^ 24 → (w : Word) → FitsWord w → w.phase ≡ phases.Answered → w.value ≡ u → w.consequent ≡ c
    → bit_xor (pack w) (end_difference u c) ≡ pack (record w { phase = phases.Idle; value = 0; consequent = false })
end_turns c u u_fits w f was was_value was_consequent =
    xor_turns (record blank { phase = phases.Answered; consequent = c; value = u }) blank w
    (record w { phase = phases.Idle; value = 0; consequent = false })
    (exchange_fits phases.Answered c u u_fits) (exchange_fits phases.Idle false 0 (omega arith)) f (record {
      closed = inl (refl, refl);
      phase = inr (was, refl);
      consequent = inr (was_consequent, refl);
      target = inl (refl, refl);
      serial = inl (refl, refl);
      value = inr (was_value, refl);
    })

pub call_turns : (from : Word) (v : ℕ) → FitsWord from → from.serial + 1 < 2 ^ 24 → v < 2 ^ 24 → (w : Word) → FitsWord w
    → w.phase ≡ from.phase → w.consequent ≡ from.consequent → w.serial ≡ from.serial → w.value ≡ from.value
    → bit_xor (pack w) (call_difference from v) ≡ pack (record w { phase = phases.Asked; consequent = true; serial = from.serial + 1; value = v })
call_turns from v from_fits k_fits v_fits w f was was_consequent was_serial was_value =
    xor_turns from (record from { phase = phases.Asked; consequent = true; serial = from.serial + 1; value = v }) w
    (record w { phase = phases.Asked; consequent = true; serial = from.serial + 1; value = v })
    from_fits (record { value = v_fits; serial = k_fits; target = from_fits.target }) f (record {
      closed = inl (refl, refl);
      phase = inr (was, refl);
      consequent = inr (was_consequent, refl);
      target = inl (refl, refl);
      serial = inr (was_serial, refl);
      value = inr (was_value, refl);
    })

blank_fits : FitsWord blank
blank_fits = exchange_fits phases.Idle false 0 (omega arith)

linked_fits : (t : Target) → FitsTarget t → FitsWord (record blank { target = Some t })
linked_fits t h = record { value = omega arith; serial = omega arith; target = λ u e. subst FitsTarget (same_Some t u e) h }

pub link_turns : (t : Target) → FitsTarget t → (w : Word) → FitsWord w → w.target ≡ None
    → bit_xor (pack w) (link_difference t) ≡ pack (record w { target = Some t })
link_turns t h w f was =
    xor_turns blank (record blank { target = Some t }) w (record w { target = Some t }) blank_fits (linked_fits t h) f (record {
      closed = inl (refl, refl);
      phase = inl (refl, refl);
      consequent = inl (refl, refl);
      target = inr (was, refl);
      serial = inl (refl, refl);
      value = inl (refl, refl);
    })

-- exclusive or with the same operand takes the link away
pub unlink_turns : (t : Target) → FitsTarget t → (w : Word) → FitsWord w → w.target ≡ Some t
    → bit_xor (pack w) (link_difference t) ≡ pack (record w { target = None })
unlink_turns t h w f was =
    ap (bit_xor (pack w)) (xor_comm (pack blank) (pack (record blank { target = Some t })))
    ∙ xor_turns (record blank { target = Some t }) blank w (record w { target = None }) (linked_fits t h) blank_fits f (record {
      closed = inl (refl, refl);
      phase = inl (refl, refl);
      consequent = inl (refl, refl);
      target = inr (was, refl);
      serial = inl (refl, refl);
      value = inl (refl, refl);
    })

-- ---- the closed bit

or_one : (b : Bool) → bit_or (flag b) 1 ≡ 1
or_one true = refl
or_one false = refl

pub or_closes : (w : Word) → FitsWord w → bit_or (pack w) CLOSED ≡ pack (record w { closed = true })
or_closes w f =
    or_meets widths (fields w) (0 ∷ 0 ∷ 0 ∷ 0 ∷ 0 ∷ 0 ∷ 1 ∷ []) (fields_fit w f)
    (omega arith, (omega arith, (omega arith, (omega arith, (omega arith, (omega arith, (omega arith, tt)))))))
    ∙ (λ i. spell widths (or_zero_r w.value i ∷ or_zero_r w.serial i ∷ or_zero_r (provide_bits w.target) i ∷ or_zero_r (slot_bits w.target) i
    ∷ or_zero_r (flag w.consequent) i ∷ or_zero_r (phase_bits w.phase) i ∷ or_one w.closed i ∷ []))

-- a field under its ones
and_ones : (k n : ℕ) → n < 2 ^ k → bit_and n (2 ^ k - 1) ≡ n
and_ones k n h = and_mask n k ∙ mod-eq_of_lt h

pub and_opens : (w : Word) → FitsWord w → bit_and (pack w) ALL_BUT_CLOSED ≡ pack (record w { closed = false })
and_opens w f =
    let fit = fields_fit w f in
    and_meets widths (fields w) (16777215 ∷ 16777215 ∷ 3 ∷ 1023 ∷ 1 ∷ 3 ∷ 0 ∷ []) fit
    (omega arith, (omega arith, (omega arith, (omega arith, (omega arith, (omega arith, (omega arith, tt)))))))
    ∙ (λ i. spell widths (and_ones 24 w.value fit.0 i ∷ and_ones 24 w.serial fit.1.0 i ∷ and_ones 2 (provide_bits w.target) fit.1.1.0 i
    ∷ and_ones 10 (slot_bits w.target) fit.1.1.1.0 i ∷ and_ones 1 (flag w.consequent) fit.1.1.1.1.0 i
    ∷ and_ones 2 (phase_bits w.phase) fit.1.1.1.1.1.0 i ∷ and_zero_r (flag w.closed) i ∷ []))
