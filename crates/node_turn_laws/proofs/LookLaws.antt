-- A node that looks at its inbox finds it empty, or takes the request up of which the first hint tells.
use Rattle.std.proofs.Common.{◌≡◌, ◌∙◌, ℕ, ◌+◌, ◌<◌, ◌≤◌, Bool, true, false, cond, List, [], ◌∷◌, length, Option, Some, None, refl, sym, ap, ⊎_elim, arith, get_or-set_same, get_or-set_other, length-set, not, ◌⊎◌}
use Rattle.std.specs.Prelude.{◌==◌, ◌&&◌, drop, find, is_none, option_and_then, option_map}
use Rattle.std.specs.Option.{option_map_or}
use Rattle.std.proofs.lemmas.Bool.{and_from, and_parts, both_ways, cases_eq, cases_lt, eq-eqb, eqb-true, ne_eqb}
use Rattle.std.proofs.lemmas.List.{get_or_past}
use Rattle.base.proofs.OptionLaws.{map_or_true}
use Rattle.component_trait.specs.Moves as moves
use Rattle.component_trait.specs.States.{NodeState}
use Rattle.component_trait.specs.declared.next.Ask.{Ask as Asking}
use Rattle.component_trait.specs.declared.next.Next.{Next}
use Rattle.component_trait.specs.declared.next.Next.TheVariants as next
use Rattle.config_graph.specs.declared.node.Target.{Target}
use Rattle.quiesce_word.specs.Phases.{is_answered, is_asked, is_idle}
use Rattle.quiesce_core.specs.Rules.{is_missing, is_open, is_taken}
use Rattle.quiesce_core.specs.State.{State, exchange, ports_of, service, target}
use Rattle.quiesce_core.specs.declared.event.Event.{Event}
use Rattle.quiesce_core.specs.declared.event.Event.TheVariants.{Ask, Begin, Call, End, Give, Hear, Miss, More, Take}
use Rattle.quiesce_core.specs.declared.state.Service.{Service}
use Rattle.node_turn_laws.specs.Turn.{awaits_call, begins, begins_at, does_next, ends, goes_on, has_reply, hears, is_for, looks, move_of, or_else, reply_to, serves, takes, without_hint}
use Rattle.node_turn_laws.specs.World.{World, first_port, inbox}
use Rattle.node_turn_laws.specs.Requests.{HintsAreRequests, hints_for, kept_back, leads_to, waits, waits_for}
use Rattle.node_turn_laws.proofs.PostLemmas.{count_front, count_of, is_at}

abbrev pub is_take_at : ℕ → Event → Bool
is_take_at p (Take q k v) = q == p
is_take_at p _ = false

abbrev pub takes_at : ℕ → Option Event → Bool
takes_at p o = option_map_or (is_take_at p) o false

-- ---- moves that a test doesn't pass

-- neither the ends of a node nor what its services do pass the test
pub record Avoids (f : Event → Bool) : Type 0 where
  pub ending : (p k v : ℕ) → f (End p k v) ≡ false
  pub asking : (p k v : ℕ) → f (Ask p k v) ≡ false
  pub giving : (p k v : ℕ) → f (Give p k v) ≡ false
  pub sending : (p k v : ℕ) → f (More p k v) ≡ false
  pub hearing : (p k v : ℕ) → f (Hear p k v) ≡ false
  pub calling : (p k v : ℕ) → f (Call p k v) ≡ false
  pub missing : (p : ℕ) → f (Miss p) ≡ false

abbrev pub passes : (Event → Bool) → Option Event → Bool
passes f o = option_map_or f o false

neither_passes : (f : Event → Bool) (b : Bool) (x y : Option Event) → passes f x ≡ false → passes f y ≡ false → passes f (cond b x y) ≡ false
neither_passes f true x y h g = h
neither_passes f false x y h g = g

module _ (f : Event → Bool) (a : Avoids f) (s : State) (n : ℕ) (t : NodeState) where
  pub ends_avoid : passes f (ends s n t) ≡ false
  ends_avoid = by (find (has_reply s) (ports_of s.config n))
    where
      one : (b : Bool) (e g : Event) → f e ≡ false → f g ≡ false → f (cond b e g) ≡ false
      one true e g h i = h
      one false e g h i = i

      by : (o : Option ℕ) → passes f (option_map (reply_to s t) o) ≡ false
      by None = refl
      by (Some q) =
          one (is_answered (exchange s q).phase) (End q (exchange s q).serial (exchange s q).value) (Ask q (exchange s q).serial (moves.replies t))
          (a.ending q (exchange s q).serial (exchange s q).value) (a.asking q (exchange s q).serial (moves.replies t))

  next_avoids : (first q : ℕ) (x : Next) → passes f (does_next s first q x) ≡ false
  next_avoids first q (next.Give v) = a.giving q (exchange s q).serial v
  next_avoids first q (next.More v) = a.sending q (exchange s q).serial v
  next_avoids first q (next.Ask x) =
      let r = first + x.require in
      neither_passes f (not (is_idle (exchange s r).phase)) None (cond (is_missing s r) (Some (Miss r)) (Some (Call r ((exchange s r).serial + 1) x.value))) refl
      (neither_passes f (is_missing s r) (Some (Miss r)) (Some (Call r ((exchange s r).serial + 1) x.value)) (a.missing r) (a.calling r ((exchange s r).serial + 1) x.value))

  pub serves_avoid : passes f (serves s n t) ≡ false
  serves_avoid = neither_passes f (awaits_call s n) None (option_and_then (goes_on s n t) (service s n)) refl (by (service s n))
    where
      then_ : (q : ℕ) (o : Option Next) → passes f (option_and_then (does_next s (first_port s n) q) o) ≡ false
      then_ q None = refl
      then_ q (Some x) = next_avoids (first_port s n) q x

      by : (o : Option Service) → passes f (option_and_then (goes_on s n t) o) ≡ false
      by None = refl
      by (Some v) =
          neither_passes f v.heard (option_and_then (does_next s (first_port s n) v.port) (moves.next t)) (hears s v.port) (then_ v.port (moves.next t))
          (neither_passes f (is_asked (exchange s v.port).phase) (Some (Hear v.port (exchange s v.port).serial (exchange s v.port).value)) None
          (a.hearing v.port (exchange s v.port).serial (exchange s v.port).value) refl)

no_take : (p : ℕ) → Avoids (is_take_at p)
no_take p = record {
  ending = λ q k v. refl;
  asking = λ q k v. refl;
  giving = λ q k v. refl;
  sending = λ q k v. refl;
  hearing = λ q k v. refl;
  calling = λ q k v. refl;
  missing = λ q. refl;
}

-- ---- moves that take nothing

module _ (p : ℕ) (s : State) (n : ℕ) (t : NodeState) where
  begins_take_nothing : (allowed : Bool) → takes_at p (cond allowed (begins s n t) None) ≡ false
  begins_take_nothing allowed = neither_passes (is_take_at p) allowed (begins s n t) None (by (moves.wants t)) refl
    where
      by : (o : Option Asking) → takes_at p (option_and_then (λ (a : Asking). begins_at s (first_port s n + a.require) a.value) o) ≡ false
      by None = refl
      by (Some a) =
          let r = first_port s n + a.require in
          neither_passes (is_take_at p) (is_idle (exchange s r).phase && is_open s.config r && not (is_missing s r)) (Some (Begin r ((exchange s r).serial + 1) a.value)) None refl refl

  -- it doesn't look, or there is no hint that is for it
  takes_nothing : (box : List ℕ) (allowed : Bool) → (looks s n t ≡ true → takes s n box ≡ None) → takes_at p (move_of s n t box allowed) ≡ false
  takes_nothing box allowed h = by (ends s n t) (serves s n t) (service s n) (ends_avoid (is_take_at p) (no_take p) s n t) (serves_avoid (is_take_at p) (no_take p) s n t) h
    where
      by : (a b : Option Event) (c : Option Service) → takes_at p a ≡ false → takes_at p b ≡ false → ((is_none a && is_none b && is_none c) ≡ true → takes s n box ≡ None)
          → takes_at p (or_else a (or_else b (or_else (cond (is_none c) (takes s n box) None) (cond allowed (begins s n t) None)))) ≡ false
      by (Some e) b c x y h = x
      by None (Some e) c x y h = y
      by None None (Some v) x y h = begins_take_nothing allowed
      by None None None x y h = ap (λ o. takes_at p (or_else o (cond allowed (begins s n t) None))) (h refl) ∙ begins_take_nothing allowed

-- a node that looks at a hint that is for it takes it
pub takes_front : (s : State) (n : ℕ) (t : NodeState) (q : ℕ) (box : List ℕ) (allowed : Bool) → looks s n t ≡ true → is_for s n q ≡ true
    → move_of s n t (q ∷ box) allowed ≡ Some (Take q (exchange s q).serial (exchange s q).value)
takes_front s n t q box allowed look for_ = by (ends s n t) (serves s n t) (service s n) look
  where
    by : (a b : Option Event) (c : Option Service) → (is_none a && is_none b && is_none c) ≡ true
        → or_else a (or_else b (or_else (cond (is_none c) (takes s n (q ∷ box)) None) (cond allowed (begins s n t) None))) ≡ Some (Take q (exchange s q).serial (exchange s q).value)
    by None None None h = ap (λ b. or_else (cond b (Some (Take q (exchange s q).serial (exchange s q).value)) None) (cond allowed (begins s n t) None)) for_
    by (Some e) b c h = absurd (both_ways false refl h)
    by None (Some e) c h = absurd (both_ways false refl h)
    by None None (Some v) h = absurd (both_ways false refl h)

-- ---- what is left

-- an empty inbox stays as it is
pub empty_stays : (v : World) (n : ℕ) → inbox v n ≡ [] → (m : ℕ) → inbox (without_hint v n) m ≡ inbox v m
empty_stays v n is m = ⊎_elim
    (λ (same : m ≡ n). ap (inbox (without_hint v n)) same ∙ here (cases_lt n (length v.inboxes)) ∙ sym is ∙ ap (inbox v) (sym same))
    (λ (other : m ≡ n → ⊥). get_or-set_other v.inboxes n m (drop 1 (inbox v n)) [] other)
    (cases_eq m n)
  where
    here : (n < length v.inboxes) ⊎ (length v.inboxes ≤ n) → inbox (without_hint v n) n ≡ []
    here h = ⊎_elim
        (λ (made : n < length v.inboxes). get_or-set_same v.inboxes n (drop 1 (inbox v n)) [] made ∙ ap (drop 1) is)
        (λ (past : length v.inboxes ≤ n). get_or_past (without_hint v n).inboxes n [] (let long = length-set v.inboxes n (drop 1 (inbox v n)) in omega (arith, long, past)))
        h

module _ (v : World) (hints : HintsAreRequests v) (boxes : length v.inboxes ≡ length v.machine.config.slots) (n : ℕ) (t : NodeState) (allowed : Bool) where
  abbrev s : State
  s = v.machine

  some_there : (m p : ℕ) (b : Bool) → hints_for v m p ≡ cond b 1 0 → 1 ≤ hints_for v m p → b ≡ true
  some_there m p true e low = refl
  some_there m p false e low = absurd (omega (arith, e, low))

  -- a hint in an inbox is that of a request
  pub front_is_for : (q : ℕ) (box : List ℕ) → inbox v n ≡ q ∷ box → waits_for s n q ≡ true
  front_is_for q box is =
      let count = ap (count_of q) is ∙ count_front q q box in
      let one : ◌≡◌ {A = ℕ} (cond (q == q) 1 0) 1 = ap {B = ℕ} (λ b. cond b 1 0) (eq-eqb q q refl) in
      some_there n q (waits_for s n q) (hints n q) (omega (arith, count, one))

  pub asked_for : (q : ℕ) → waits_for s n q ≡ true → is_for s n q ≡ true
  asked_for q h =
      let both = and_parts (waits s q) (leads_to s.config n q) h in
      let asked = and_parts (is_asked (exchange s q).phase) (not (is_taken s q)) both.0 in
      and_from (is_asked (exchange s q).phase) (leads_to s.config n q) asked.0 both.1

  shorter : (m p q : ℕ) (box : List ℕ) → n < length v.inboxes → inbox v n ≡ q ∷ box
      → count_of p (inbox (without_hint v n) m) + cond (n == m && q == p) 1 0 ≡ count_of p (inbox v m)
  shorter m p q box made is = ⊎_elim
      (λ (same : n ≡ m). rw (eq-eqb n m same)
      (let there : inbox (without_hint v n) m ≡ box =
      ap (inbox (without_hint v n)) (sym same) ∙ get_or-set_same v.inboxes n (drop 1 (inbox v n)) [] made ∙ ap (drop 1) is in
      let left = ap (count_of p) there in
      let all = ap (count_of p) (ap (inbox v) (sym same) ∙ is) ∙ count_front p q box in
      omega (arith, left, all)))
      (λ (other : n ≡ m → ⊥). rw (ne_eqb n m other)
      (let there = ap (count_of p) (get_or-set_other v.inboxes n m (drop 1 (inbox v n)) [] (λ e. other (sym e))) in omega (arith, there)))
      (cases_eq n m)

  -- the hint of the request that is taken up is gone
  taken_gone : (m p q : ℕ) (box : List ℕ) → n < length v.inboxes → inbox v n ≡ q ∷ box → hints_for (without_hint v n) m p ≡ cond (q == p) 0 (cond (waits_for s m p) 1 0)
  taken_gone m p q box made is =
      let all = hints m p in
      let count = shorter m p q box made is in
      ⊎_elim
      (λ (same : q ≡ p). rw (eq-eqb q p same)
      (⊎_elim
      (λ (here : n ≡ m).
      let asked : waits_for s m p ≡ true = (λ i. waits_for s (sym here i) (sym same i)) ∙ front_is_for q box is in
      let one : ◌≡◌ {A = ℕ} (cond (waits_for s m p) 1 0) 1 = ap {B = ℕ} (λ b. cond b 1 0) asked in
      let gone : ◌≡◌ {A = ℕ} (cond (n == m && q == p) 1 0) 1 = (λ i. cond (eq-eqb n m here i && eq-eqb q p same i) 1 0) in
      omega (arith, all, count, one, gone))
      (λ (elsewhere : n ≡ m → ⊥).
      let away : leads_to s.config m p ≡ false = to_other m p q same elsewhere (front_is_for q box is) in
      let none_ : ◌≡◌ {A = ℕ} (cond (waits_for s m p) 1 0) 0 = (λ i. cond (waits s p && away i) 1 0) ∙ zero_if (waits s p) in
      let gone : ◌≡◌ {A = ℕ} (cond (n == m && q == p) 1 0) 0 = (λ i. cond (ne_eqb n m elsewhere i && (q == p)) 1 0) in
      omega (arith, all, count, none_, gone))
      (cases_eq n m)))
      (λ (other : q ≡ p → ⊥). rw (ne_eqb q p other)
      (let gone : ◌≡◌ {A = ℕ} (cond (n == m && q == p) 1 0) 0 = (λ i. cond ((n == m) && ne_eqb q p other i) 1 0) ∙ zero_if (n == m) in
      omega (arith, all, count, gone)))
      (cases_eq q p)
    where
      zero_if : (b : Bool) → ◌≡◌ {A = ℕ} (cond (b && false) 1 0) 0
      zero_if true = refl
      zero_if false = refl

      to_other : (m p q : ℕ) → q ≡ p → (n ≡ m → ⊥) → waits_for s n q ≡ true → leads_to s.config m p ≡ false
      to_other m p q same elsewhere h =
          let to = map_or_true (λ (x : Target). x.node == n) (target s.config q) (and_parts (waits s q) (leads_to s.config n q) h).1 in
          ap (leads_to s.config m) (sym same)
          ∙ ap (λ o. option_map_or (λ (x : Target). x.node == m) o false) to.1
          ∙ ne_eqb to.0.node m (λ e. elsewhere (sym (eqb-true to.0.node n to.2) ∙ e))

  nothing_gone : (m p : ℕ) → inbox v n ≡ [] → hints_for (without_hint v n) m p ≡ hints_for v m p
  nothing_gone m p is = ap (λ box. count_of p box + cond (is_at m (kept_back v p)) 1 0) (empty_stays v n is m)

  unlooked : (m p : ℕ) (o : Option Event) → takes_at p o ≡ false → hints_for v m p ≡ cond (takes_at p o) 0 (cond (waits_for s m p) 1 0)
  unlooked m p o none_ = hints m p ∙ ap (λ b. cond b 0 (cond (waits_for s m p) 1 0)) (sym none_)

  -- hints after the look, and before the event
  pub after_look : (m p : ℕ) → hints_for (cond (looks s n t) (without_hint v n) v) m p ≡ cond (takes_at p (move_of s n t (inbox v n) allowed)) 0 (cond (waits_for s m p) 1 0)
  after_look m p = by_look (looks s n t) refl
    where
      look_at : (box : List ℕ) → inbox v n ≡ box → looks s n t ≡ true → hints_for (without_hint v n) m p ≡ cond (takes_at p (move_of s n t box allowed)) 0 (cond (waits_for s m p) 1 0)
      look_at [] is look = nothing_gone m p is ∙ unlooked m p (move_of s n t [] allowed) (takes_nothing p s n t [] allowed (λ _. refl))
      look_at (q ∷ box) is look = ⊎_elim
          (λ (made : n < length v.inboxes).
          taken_gone m p q box made is
          ∙ ap (λ o. cond (takes_at p o) 0 (cond (waits_for s m p) 1 0)) (sym (takes_front s n t q box allowed look (asked_for q (front_is_for q box is)))))
          (λ (past : length v.inboxes ≤ n). absurd (no_front q box (sym (get_or_past v.inboxes n [] past) ∙ is)))
          (cases_lt n (length v.inboxes))
        where
          no_front : (q : ℕ) (box : List ℕ) → ◌≡◌ {A = List ℕ} [] (q ∷ box) → ⊥
          no_front q box e = (let e_ : ◌≡◌ {A = ℕ} 0 (length (q ∷ box)) = ap (λ (xs : List ℕ). length xs) e in absurd (omega (arith, e_)))

      by_look : (b : Bool) → looks s n t ≡ b → hints_for (cond b (without_hint v n) v) m p ≡ cond (takes_at p (move_of s n t (inbox v n) allowed)) 0 (cond (waits_for s m p) 1 0)
      by_look true look = look_at (inbox v n) refl look
      by_look false look =
          unlooked m p (move_of s n t (inbox v n) allowed) (takes_nothing p s n t (inbox v n) allowed (λ l. absurd (both_ways (looks s n t) look l)))
