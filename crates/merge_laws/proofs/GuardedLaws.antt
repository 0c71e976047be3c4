-- How many events the logs still hold.
use Rattle.std.proofs.Common.{◌≡◌, ℕ, zero, suc, ◌+◌, List, [], ◌∷◌, length, get_or, set, refl, ap, arith}
use Rattle.quiesce_core.specs.declared.event.Event.{Event}
use Rattle.merge_laws.specs.Guarded.{amount}

-- one member less is left
pub shorter : (logs : List (List Event)) (n : ℕ) (e : Event) (rest : List Event) → get_or logs n [] ≡ e ∷ rest → amount (set logs n rest) + 1 ≡ amount logs
shorter [] n e rest h = absurd (cc (h))
shorter (l ∷ logs) zero e rest h =
    let now : amount (set (l ∷ logs) 0 rest) ≡ length rest + amount logs = refl in
    let was : amount (l ∷ logs) ≡ length l + amount logs = refl in
    let one : length l ≡ length (e ∷ rest) = ap (λ (es : List Event). length es) h in
    let more_ : length (e ∷ rest) ≡ length rest + 1 = omega arith in
    omega (arith, now, was, one, more_)
shorter (l ∷ logs) (suc n) e rest h =
    let now : amount (set (l ∷ logs) (suc n) rest) ≡ length l + amount (set logs n rest) = refl in
    let was : amount (l ∷ logs) ≡ length l + amount logs = refl in
    omega (arith, now, was, shorter logs n e rest h)
