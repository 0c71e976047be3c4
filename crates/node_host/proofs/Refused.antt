-- What a gate answers where it begins nothing.
use Rattle.std.proofs.Common.{◌≡◌, ◌∙◌, ℕ, Bool, true, false, Option, Some, None, refl, sym, ap, subst}
use Rattle.std.specs.Prelude.{not, ◌==◌, ◌&&◌, ◌||◌, is_none, is_some}
use Rattle.std.specs.Option.{option_map_or}
use Rattle.std.proofs.lemmas.Bool.{and_parts, both_ways, eqb-true, or_right}
use Rattle.quiesce_word.specs.Words.{is_missing, is_spent, unpack}
use Rattle.quiesce_core.specs.State.{State}
use Rattle.node_gate.specs.Answers.{BeginSays}
use Rattle.node_gate.specs.Loads.{IsLoaded, Load, Loads, LoadsAt, TellsLoads, begin_shows, has_found, is_word}
use Rattle.node_gate.specs.declared.answers.BeginAnswer.{BeginAnswer}
use Rattle.node_gate.specs.declared.answers.BeginAnswer.TheVariants.{Again, Begun, Closed, Spent, Unlinked}
use Rattle.node_host.specs.Tried.{bars_begin}
use Rattle.node_host.proofs.Loading.{loads_as}

abbrev pub IsRefused : BeginAnswer → Type 0
IsRefused r = (k t : ℕ) → r ≡ Begun k t → ⊥

found_some : (f : ℕ) (o : Option ℕ) → option_map_or (λ (x : ℕ). x == f) o false ≡ true → is_some o ≡ true
found_some f None h = absurd (both_ways false refl h)
found_some f (Some x) h = refl

module _ (l : Load) where
  by_closed : (unpack l.word).closed ≡ true → bars_begin l ≡ true
  by_closed h = ap (λ x. (x || is_missing (unpack l.word)) || is_some l.found) h

  by_missing : is_missing (unpack l.word) ≡ true → bars_begin l ≡ true
  by_missing h = ap (λ x. x || is_some l.found) (or_right (unpack l.word).closed (is_missing (unpack l.word)) h)

  by_found : (f : ℕ) → has_found f l ≡ true → bars_begin l ≡ true
  by_found f h = or_right ((unpack l.word).closed || is_missing (unpack l.word)) (is_some l.found) (found_some f l.found h)

  closed_bars : (w : ℕ) → (unpack w).closed ≡ true → (is_word w l || has_found w l) ≡ true → bars_begin l ≡ true
  closed_bars w closed h = by (is_word w l) refl
    where
      by : (b : Bool) → is_word w l ≡ b → bars_begin l ≡ true
      by true is = by_closed (subst (λ i. (unpack i).closed ≡ true) (sym (eqb-true l.word w is)) closed)
      by false is = by_found w (sym (ap (λ b. b || has_found w l) is) ∙ h)

  bars : (s : Option State) (p : ℕ) (r : BeginAnswer) → IsRefused r → BeginSays s p r → begin_shows r l ≡ true → bars_begin l ≡ true
  bars s p (Begun k t) refused says h = absurd (refused k t refl)
  bars s p (Closed w) refused says h = closed_bars w says.cause h
  bars s p (Unlinked w) refused says h =
      let there = subst (λ i. (not (unpack i).closed && is_none (unpack i).target) ≡ true) (sym (eqb-true l.word w h)) says.cause in
      by_missing (ap (λ x. x || is_spent (unpack l.word)) (and_parts (not (unpack l.word).closed) (is_none (unpack l.word).target) there).1)
  bars s p (Spent k) refused says h =
      by_missing (or_right (is_none (unpack l.word).target) (is_spent (unpack l.word)) (and_parts (not (unpack l.word).closed && is_some (unpack l.word).target) (is_spent (unpack l.word)) h).1)
  bars s p (Again i f) refused says h = by_found f (and_parts (is_word i l) (has_found f l) h).1

-- what was loaded bars it
pub loads_bar : (s : Option State) (p : ℕ) (r : BeginAnswer) (a b : Option Loads) → IsRefused r → BeginSays s p r → TellsLoads (LoadsAt p (begin_shows r)) a b → TellsLoads (IsLoaded p bars_begin) a b
loads_bar s p r a b refused says loads = loads_as p (begin_shows r) bars_begin (λ l h. bars l s p r refused says h) a b loads
