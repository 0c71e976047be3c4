-- Each transaction has one root.
use Rattle.std.proofs.Common.{◌≡◌, ℕ, zero, suc, ◌<◌, ◌≤◌, Bool, true, false, not, ◌&&◌, List, [], ◌∷◌, ◌++◌, append_assoc, length, length-append, Some, refl, sym, ap, ◌∙◌, subst, ⊎_elim, arith}
use Rattle.std.specs.Prelude.{◌==◌}
use Rattle.std.specs.List.{count_by, list_any}
use Rattle.std.proofs.lemmas.Bool.{and_parts, and_from, both_ways, eqb-true, eq-eqb, or_cases}
use Rattle.quiesce_core.specs.declared.event.Event.{Event}
use Rattle.quiesce_core.specs.declared.event.Event.TheVariants.{Begin, Call}
use Rattle.quiesce_core.specs.declared.state.Service.{Service}
use Rattle.quiesce_core.specs.State.{depends, exchange, owner, provision, service}
use Rattle.quiesce_word.specs.Phases.{is_idle}
use Rattle.quiesce_core.specs.Runs.{Begun, HasRoot, root, consequent, IsRun, is_begin_of, is_end_of, is_open_after, state_after}
use Rattle.base.proofs.OptionLaws.{map_or_true}
use Rattle.base.proofs.CountLaws.{one_place}
use Rattle.quiesce_word.proofs.PhaseLaws.{serving_busy}
use Rattle.quiesce_laws.specs.Roots.{IsRooted}
use Rattle.quiesce_core.proofs.InductionLaws.{place}
use Rattle.quiesce_laws.proofs.OrderLaws.{in_order, open_is_seen}

begins_it : (p k : ℕ) → (p == p && k == k) ≡ true
begins_it p k = and_from (p == p) (k == k) (eq-eqb p p refl) (eq-eqb k k refl)

module _ (es : List Event) (run : IsRun es) where
  few_begins : (p k : ℕ) (before after : List Event) (e : Event) → es ≡ before ++ e ∷ after → count_by (is_begin_of p k) (before ++ e ∷ after) ≤ 1
  few_begins p k before after e is = subst (λ xs. count_by (is_begin_of p k) xs ≤ 1) is (in_order es p k run).begun

  pub one_root : (p k q j r i : ℕ) → HasRoot es p k q j → HasRoot es p k r i → (q ≡ r) × (j ≡ i)
  one_root _ _ _ _ _ _ (root p k v before after is) (root _ _ u front behind it) = (refl, refl)
  one_root _ _ _ _ r i (root p k v before after is) (consequent _ _ u _ _ front behind z it served up) =
      let at = one_place (is_begin_of p k) before after front behind (Begin p k v) (Call p k u) (few_begins p k before after (Begin p k v) is) (sym is ∙ it) (begins_it p k) (begins_it p k) in
      absurd (cc at.1)
  one_root _ _ q j _ _ (consequent p k v _ _ before after w is serves up) (root _ _ u front behind it) =
      let at = one_place (is_begin_of p k) before after front behind (Call p k v) (Begin p k u) (few_begins p k before after (Call p k v) is) (sym is ∙ it) (begins_it p k) (begins_it p k) in
      absurd (cc at.1)
  one_root _ _ q j r i (consequent p k v _ _ before after w is serves up) (consequent _ _ u _ _ front behind z it served on) =
      let at = one_place (is_begin_of p k) before after front behind (Call p k v) (Call p k u) (few_begins p k before after (Call p k v) is) (sym is ∙ it) (begins_it p k) (begins_it p k) in
      let there : service (state_after before) (owner (state_after before).config p) ≡ Some z = ap (λ xs. service (state_after xs) (owner (state_after xs).config p)) at.0 ∙ served in
      let same : z ≡ w = cc (there, serves) in
      let on' : HasRoot es z.port ((exchange (state_after before) z.port).serial) r i = subst (λ xs. HasRoot es z.port ((exchange (state_after xs) z.port).serial) r i) (sym at.0) on in
      one_root w.port ((exchange (state_after before) w.port).serial) q j r i up (subst (λ (s : Service). HasRoot es s.port ((exchange (state_after before) s.port).serial) r i) same on')

-- where some member passes, it stands somewhere
pub record StandsIn {A : Type 0} (t : A → Bool) (xs : List A) : Type 0 where
  pub before : List A
  pub it : A
  pub after : List A
  pub parts : xs ≡ before ++ it ∷ after
  pub passes : t it ≡ true

pub found : {A : Type 0} (t : A → Bool) (xs : List A) → list_any t xs ≡ true → StandsIn t xs
found t [] h = absurd (both_ways false refl h)
found t (x ∷ xs) h = ⊎_elim
    (λ (here : t x ≡ true). record { before = []; it = x; after = xs; parts = refl; passes = here })
    (λ (later : list_any t xs ≡ true). let w = found t xs later in record { before = x ∷ w.before; it = w.it; after = w.after; parts = ap (λ ys. x ∷ ys) w.parts; passes = w.passes })
    (or_cases (t x) (list_any t xs) h)

shorter : {A : Type 0} (xs before after : List A) (x : A) → xs ≡ before ++ x ∷ after → length before < length xs
shorter xs before after x h = omega (arith, ap (λ ys. length ys) h ∙ length-append before (x ∷ after))

-- what a caller services was begun before
served_begun : (before after : List Event) (p k v : ℕ) (w : Service) → IsRun (before ++ Call p k v ∷ after) → service (state_after before) (owner (state_after before).config p) ≡ Some w
    → StandsIn (is_begin_of w.port ((exchange (state_after before) w.port).serial)) before
served_begun before after p k v w run serves =
    let here = place before after (Call p k v) run in
    let s = state_after before in
    let x = exchange s w.port in
    let busy = serving_busy x.phase (here.traffic.serving (owner s.config p) w serves).busy in
    let opened : is_open_after before w.port x.serial ≡ true =
    open_is_seen before w.port x.serial here.run ∙ and_from (not (is_idle x.phase)) (x.serial == x.serial) (ap (λ b. not b) busy) (eq-eqb x.serial x.serial refl) in
    found (is_begin_of w.port x.serial) before (and_parts (list_any (is_begin_of w.port x.serial) before) (not (list_any (is_end_of w.port x.serial) before)) opened).0

rooted_at : (es : List Event) → IsRun es → (n : ℕ) (before after : List Event) (e : Event) (p k : ℕ) → length before < n → es ≡ before ++ e ∷ after → is_begin_of p k e ≡ true → IsRooted es p k
rooted_at es run zero before after e p k low is h = absurd (omega (arith, low))
rooted_at es run (suc n) before after (Begin q j v) p k low is h =
    let both = and_parts (q == p) (j == k) h in
    let is' = is ∙ ap (λ a. before ++ Begin a j v ∷ after) (eqb-true q p both.0) ∙ ap (λ a. before ++ Begin p a v ∷ after) (eqb-true j k both.1) in
    record { port = p; serial = k; has = root p k v before after is' }
rooted_at es run (suc n) before after (Call q j v) p k low is h =
    let both = and_parts (q == p) (j == k) h in
    let is' = is ∙ ap (λ a. before ++ Call a j v ∷ after) (eqb-true q p both.0) ∙ ap (λ a. before ++ Call p a v ∷ after) (eqb-true j k both.1) in
    let whole : IsRun (before ++ Call p k v ∷ after) = subst (λ xs. IsRun xs) is' run in
    let here = place before after (Call p k v) whole in
    let s = state_after before in
    let w = map_or_true (λ (u : Service). depends s.config (owner s.config p) (provision s.config u.port) p) (service s (owner s.config p)) here.legal.serves_through in
    let b = served_begun before after p k v w.0 whole w.1 in
    let behind = b.after ++ Call p k v ∷ after in
    let r = rooted_at es run n b.before behind b.it w.0.port ((exchange s w.0.port).serial) (omega (arith, low, shorter before b.before b.after b.it b.parts))
    (is' ∙ ap (λ xs. xs ++ Call p k v ∷ after) b.parts ∙ append_assoc b.before (b.it ∷ b.after) (Call p k v ∷ after)) b.passes in
    record { port = r.port; serial = r.serial; has = consequent p k v r.port r.serial before after w.0 is' w.1 r.has }
rooted_at es run (suc n) before after _ p k low is h = absurd (both_ways false refl h)

pub rooted : (es : List Event) (p k : ℕ) → IsRun es → Begun es p k → IsRooted es p k
rooted es p k run b = rooted_at es run (suc (length b.before)) b.before b.after b.event p k (omega arith) b.parts b.begins
