-- The second port of a branch is never spent where it is to be called: fewer transactions were begun there than at the
-- first.
use Rattle.std.proofs.Common.{◌≡◌, ◌∙◌, ℕ, ◌+◌, ◌*◌, ◌<◌, ◌≤◌, Bool, true, false, cond, List, [], ◌∷◌, length, Some, None, refl, sym, ap, subst, arith, inl, inr}
use Rattle.std.specs.Prelude.{◌⊎◌, ◌==◌, is_none}
use Rattle.std.specs.Option.{option_map_or}
use Rattle.std.proofs.lemmas.Bool.{both_ways, eq-eqb, eqb-true, false_from_ne_true}
use Rattle.config_graph.specs.declared.kind.Kind.TheVariants.{Branch}
use Rattle.component_trait.specs.Fold.{after_event}
use Rattle.component_trait.specs.Moves as moves
use Rattle.component_trait.specs.States.{Kept, NodeState}
use Rattle.component_trait.specs.States as node
use Rattle.component_trait.specs.declared.next.Next.TheVariants as next
use Rattle.quiesce_word.specs.Phases.{is_answered, is_idle}
use Rattle.quiesce_word.proofs.PhaseLaws.{answered_busy}
use Rattle.quiesce_core.specs.Alters.{exchange_by}
use Rattle.quiesce_core.specs.Doers.{is_end_at}
use Rattle.quiesce_core.specs.Effect.{effect}
use Rattle.quiesce_core.specs.Legal.{Legal}
use Rattle.quiesce_core.specs.Runs.{is_doer}
use Rattle.quiesce_core.specs.State.{State, exchange, owner, service}
use Rattle.quiesce_core.specs.declared.event.Event.{Event}
use Rattle.quiesce_core.specs.declared.event.Event.TheVariants.{Call}
use Rattle.quiesce_core.specs.declared.state.Exchange.{Exchange}
use Rattle.quiesce_core.proofs.AlterLaws.{exchanges_next}
use Rattle.quiesce_core.proofs.PortEventLaws.{Turn, asks, ends, gives, next_serial, passes, replies, starts, turn_of}
use Rattle.result_laws.proofs.EventLaws.{Now, idle_passes, no_start, not_end, serial_stays, starts_at}
use Rattle.result_laws.proofs.FactLaws.{Facts, Fits, at_work, of_parts}
use Rattle.result_laws.proofs.Balance.{branch_kind, rest_idle}
use Rattle.result_laws.proofs.Moving.{Answering, Asking, Course, Resting, answering, asking, course, resting}
use Rattle.result_laws.proofs.Moving as moving
use Rattle.result_laws.proofs.Offices.{IsBranch, Office, office_owned}

-- a branch at work, with what it serves and what it was answered
pub record AtWork (n : NodeState) : Type 0 where
  pub arg : ℕ
  pub kept : Kept
  pub value : ℕ
  pub reply : ℕ
  pub answers : List ℕ
  pub is : n ≡ at_work Branch arg kept value reply answers

pub record Serials (s : State) (f : ℕ → NodeState) (b : Office) : Type 0 where
  pub shape : ((f b.at).service ≡ None) ⊎ AtWork (f b.at)
  pub no_more : (exchange s b.to).serial ≤ (exchange s b.from).serial
  pub first : (a : ℕ) (k : Kept) (v r : ℕ) → f b.at ≡ at_work Branch a k v r [] → is_idle (exchange s b.from).phase ≡ false → (exchange s b.to).serial < (exchange s b.from).serial
  pub second : (a : ℕ) (k : Kept) (v r : ℕ) → f b.at ≡ at_work Branch a k v r (1 ∷ []) → is_idle (exchange s b.to).phase ≡ true → (exchange s b.to).serial < (exchange s b.from).serial

-- how many answers a service has, and the first
abbrev count_in : NodeState → ℕ
count_in n = option_map_or (λ (w : node.Service). length w.answers) n.service 9

abbrev head_or : List ℕ → ℕ
head_or [] = 9
head_or (x ∷ xs) = x

abbrev head_in : NodeState → ℕ
head_in n = option_map_or (λ (w : node.Service). head_or w.answers) n.service 8

module _ (s : State) (f g : ℕ → NodeState) (facts : Facts s f) (fits : Fits s.config f) (e : Event) (now : Now s f g e) where
  -- ---- ports on which nothing begins

  same : (q : ℕ) → starts_at q e ≡ false → (exchange (effect s e) q).serial ≡ (exchange s q).serial
  same q none_ = serial_stays s f g facts q e now.legal none_

  busy_back : (q : ℕ) → starts_at q e ≡ false → is_idle (exchange (effect s e) q).phase ≡ false → is_idle (exchange s q).phase ≡ false
  busy_back q none_ busy = false_from_ne_true (is_idle (exchange s q).phase) (λ idle.
      both_ways (is_idle (exchange (effect s e) q).phase) busy (ap (λ (y : Exchange). is_idle y.phase) (idle_passes s f g facts q e now.legal idle none_) ∙ idle))

  idle_back : (q : ℕ) → is_end_at q e ≡ false → is_idle (exchange (effect s e) q).phase ≡ true → is_idle (exchange s q).phase ≡ true
  idle_back q none_ idle = by (turn_of s e facts.well now.legal q)
    where
      by : Turn s q e → is_idle (exchange s q).phase ≡ true
      by (passes same_ a b) = sym (ap (λ (y : Exchange). is_idle y.phase) same_) ∙ idle
      by (starts h) = h.idle
      by (gives v t a then_) = absurd (both_ways (is_idle (exchange (effect s e) q).phase) (ap (λ (y : Exchange). is_idle y.phase) then_) idle)
      by (replies v t a then_) = absurd (both_ways (is_idle (exchange (effect s e) q).phase) (ap (λ (y : Exchange). is_idle y.phase) then_) idle)
      by (asks v a b d then_) = absurd (both_ways (is_idle (exchange (effect s e) q).phase) (ap (λ (y : Exchange). is_idle y.phase) then_) idle)
      by (ends a b then_) = absurd (both_ways (is_end_at q e) none_ b)

  -- neither serial changes, and what is strict then was strict before
  calm : (b : Office) → starts_at b.from e ≡ false → starts_at b.to e ≡ false → Serials s f b → ((g b.at).service ≡ None) ⊎ AtWork (g b.at)
      → ((a : ℕ) (k : Kept) (v r : ℕ) → g b.at ≡ at_work Branch a k v r [] → is_idle (exchange (effect s e) b.from).phase ≡ false → (exchange s b.to).serial < (exchange s b.from).serial)
      → ((a : ℕ) (k : Kept) (v r : ℕ) → g b.at ≡ at_work Branch a k v r (1 ∷ []) → is_idle (exchange (effect s e) b.to).phase ≡ true → (exchange s b.to).serial < (exchange s b.from).serial) → Serials (effect s e) g b
  calm b none_ none_' was shape first second =
      let x = same b.from none_ in
      let y = same b.to none_' in
      let low = was.no_more in
      record {
        shape = shape;
        no_more = omega (arith, x, y, low);
        first = λ a k v r is busy. let h = first a k v r is busy in omega (arith, x, y, h);
        second = λ a k v r is idle. let h = second a k v r is idle in omega (arith, x, y, h);
      }

  -- ---- an event of another node

  by_other : (b : Office) → IsBranch s.config b → is_doer s b.at e ≡ false → Serials s f b → Serials (effect s e) g b
  by_other b o other was =
      let own = office_owned s.config facts.well.sound b o in
      let then_ = now.folds.others b.at other in
      let none_from = no_start s f g facts b.from e (ap (λ i. is_doer s i e) own.0 ∙ other) in
      let none_to = no_start s f g facts b.to e (ap (λ i. is_doer s i e) own.1 ∙ other) in
      let no_end = not_end s f g facts b.to e (ap (λ i. is_doer s i e) own.1 ∙ other) in
      calm b none_from none_to was (subst (λ n. (n.service ≡ None) ⊎ AtWork n) (sym then_) was.shape)
      (λ a k v r is busy. was.first a k v r (sym then_ ∙ is) (busy_back b.from none_from busy))
      (λ a k v r is idle. was.second a k v r (sym then_ ∙ is) (idle_back b.to no_end idle))

  -- ---- an event of the branch

  -- the state then has another number of answers than the two in which something is strict
  neither : (b : Office) → starts_at b.from e ≡ false → starts_at b.to e ≡ false → Serials s f b → ((g b.at).service ≡ None) ⊎ AtWork (g b.at) → ((count_in (g b.at) ≡ 0) → ⊥) → ((count_in (g b.at) ≡ 1) → ⊥) → Serials (effect s e) g b
  neither b none_ none_' was shape not_0 not_1 =
      calm b none_ none_' was shape (λ a k v r is busy. absurd (not_0 (ap count_in is))) (λ a k v r is idle. absurd (not_1 (ap count_in is)))

  -- a call at the first port
  called_first : (b : Office) (a : ℕ) (k : Kept) (v r : ℕ) → IsBranch s.config b → Serials s f b → f b.at ≡ at_work Branch a k v r [] → (q j z : ℕ) → e ≡ Call q j z → q ≡ b.from → g b.at ≡ f b.at → Serials (effect s e) g b
  called_first b a k v r o was is q j z at here then_ =
      let l = subst (Legal s) at now.legal in
      let n = next_serial s q j l.next_serial in
      let up : (exchange (effect s e) b.from).serial ≡ (exchange s b.from).serial + 1 =
      ap (λ x. (exchange (effect s x) b.from).serial) at ∙ ap (λ (x : Exchange). x.serial) (exchanges_next s (Call q j z) facts.well l b.from)
      ∙ ap (λ c. (cond c (exchange_by (service s (owner s.config b.from)) (exchange s b.from) (Call q j z)) (exchange s b.from)).serial) (eq-eqb q b.from here)
      ∙ n ∙ ap (λ i. (exchange s i).serial + 1) here in
      let y = same b.to (ap (starts_at b.to) at ∙ false_from_ne_true (q == b.to) (λ h. let w = eqb-true q b.to h in omega (arith, w, here, o.second))) in
      let low = was.no_more in
      record {
        shape = inr (record { arg = a; kept = k; value = v; reply = r; answers = []; is = then_ ∙ is });
        no_more = omega (arith, up, y, low);
        first = λ a k v r is busy. omega (arith, up, y, low);
        second = λ a' k' v' r' is' idle. absurd (omega (arith, ap count_in (sym is ∙ sym then_ ∙ is')));
      }

  -- a call at the second port
  called_second : (b : Office) (a : ℕ) (k : Kept) (v r : ℕ) → IsBranch s.config b → Serials s f b → f b.at ≡ at_work Branch a k v r (1 ∷ []) → (q j z : ℕ) → e ≡ Call q j z → q ≡ b.to → g b.at ≡ f b.at → Serials (effect s e) g b
  called_second b a k v r o was is q j z at here then_ =
      let l = subst (Legal s) at now.legal in
      let n = next_serial s q j l.next_serial in
      let after = ap (λ x. exchange (effect s x) b.to) at ∙ exchanges_next s (Call q j z) facts.well l b.to
      ∙ ap (λ c. cond c (exchange_by (service s (owner s.config b.to)) (exchange s b.to) (Call q j z)) (exchange s b.to)) (eq-eqb q b.to here) in
      let up : (exchange (effect s e) b.to).serial ≡ (exchange s b.to).serial + 1 = ap (λ (x : Exchange). x.serial) after ∙ n ∙ ap (λ i. (exchange s i).serial + 1) here in
      let x = same b.from (ap (starts_at b.from) at ∙ false_from_ne_true (q == b.from) (λ h. let w = eqb-true q b.from h in omega (arith, w, here, o.second))) in
      let low = was.second a k v r is (ap (λ i. is_idle (exchange s i).phase) (sym here) ∙ l.idle) in
      record {
        shape = inr (record { arg = a; kept = k; value = v; reply = r; answers = 1 ∷ []; is = then_ ∙ is });
        no_more = omega (arith, up, x, low);
        first = λ a' k' v' r' is' busy. absurd (omega (arith, ap count_in (sym is ∙ sym then_ ∙ is')));
        second = λ a' k' v' r' is' idle. absurd (both_ways false refl (sym (ap (λ (y : Exchange). is_idle y.phase) after) ∙ idle));
      }

  -- the answer of the first
  ended_first : (b : Office) (a : ℕ) (k : Kept) (v r y : ℕ) → Serials s f b → f b.at ≡ at_work Branch a k v r [] → is_idle (exchange s b.from).phase ≡ false → starts_at b.from e ≡ false → starts_at b.to e ≡ false
      → g b.at ≡ at_work Branch a k v r (y ∷ []) → Serials (effect s e) g b
  ended_first b a k v r y was is busy none_ none_' then_ =
      calm b none_ none_' was (inr (record { arg = a; kept = k; value = v; reply = r; answers = y ∷ []; is = then_ }))
      (λ a' k' v' r' is' busy'. absurd (omega (arith, ap count_in (sym then_ ∙ is')))) (λ a' k' v' r' is' idle. was.first a k v r is busy)

  -- the state stays, and nothing begins or ends at the second port
  stays_so : (b : Office) → starts_at b.from e ≡ false → starts_at b.to e ≡ false → is_end_at b.to e ≡ false → Serials s f b → g b.at ≡ f b.at → Serials (effect s e) g b
  stays_so b none_ none_' no_end was then_ =
      calm b none_ none_' was (subst (λ n. (n.service ≡ None) ⊎ AtWork n) (sym then_) was.shape)
      (λ a k v r is busy. was.first a k v r (sym then_ ∙ is) (busy_back b.from none_ busy))
      (λ a k v r is idle. was.second a k v r (sym then_ ∙ is) (idle_back b.to no_end idle))

  by_first : (b : Office) (a : ℕ) (k : Kept) (v r : ℕ) → IsBranch s.config b → Serials s f b → f b.at ≡ at_work Branch a k v r [] → (z : Event) → e ≡ z → Asking b.from 0 (2 * v + 1) (f b.at) (g b.at) z → Serials (effect s e) g b
  by_first b a k v r o was is _ at (moving.calls q j y here val then_) = called_first b a k v r o was is q j y at (omega (arith, here)) then_
  by_first b a k v r o was is _ at (moving.misses q here then_) =
      let so = then_ ∙ ap (λ n. moves.after_answer n 0) is in
      calm b (ap (starts_at b.from) at) (ap (starts_at b.to) at) was (inr (record { arg = a; kept = k; value = v; reply = r; answers = 0 ∷ []; is = so }))
      (λ a' k' v' r' is' busy'. absurd (omega (arith, ap count_in (sym so ∙ is')))) (λ a' k' v' r' is' idle. absurd (omega (arith, ap head_in (sym so ∙ is'))))
  by_first b a k v r o was is _ at (moving.asks q j y here then_) = stays_so b (ap (starts_at b.from) at) (ap (starts_at b.to) at) (ap (is_end_at b.to) at) was then_
  by_first b a k v r o was is _ at (moving.ends q j y here then_) =
      let l = subst (Legal s) at now.legal in
      let one : q ≡ b.from = omega (arith, here) in
      ended_first b a k v r y was is (answered_busy (exchange s b.from).phase (ap (λ i. is_answered (exchange s i).phase) (sym one) ∙ l.answered)) (ap (starts_at b.from) at) (ap (starts_at b.to) at)
      (then_ ∙ ap (λ n. moves.after_answer n y) is)

  by_second : (b : Office) (a : ℕ) (k : Kept) (v r : ℕ) → IsBranch s.config b → Serials s f b → f b.at ≡ at_work Branch a k v r (1 ∷ []) → (z : Event) → e ≡ z → Asking b.from 1 (2 * v) (f b.at) (g b.at) z → Serials (effect s e) g b
  by_second b a k v r o was is _ at (moving.calls q j y here val then_) = let second = o.second in called_second b a k v r o was is q j y at (omega (arith, here, second)) then_
  by_second b a k v r o was is _ at (moving.misses q here then_) = answered_twice b a k v r 0 was (ap (starts_at b.from) at) (ap (starts_at b.to) at) (then_ ∙ ap (λ n. moves.after_answer n 0) is)
    where
      answered_twice : (b : Office) (a : ℕ) (k : Kept) (v r y : ℕ) → Serials s f b → starts_at b.from e ≡ false → starts_at b.to e ≡ false → g b.at ≡ at_work Branch a k v r (1 ∷ y ∷ []) → Serials (effect s e) g b
      answered_twice b a k v r y was none_ none_' so =
          neither b none_ none_' was (inr (record { arg = a; kept = k; value = v; reply = r; answers = 1 ∷ y ∷ []; is = so })) (λ h. omega (arith, ap count_in so, h)) (λ h. omega (arith, ap count_in so, h))
  by_second b a k v r o was is _ at (moving.asks q j y here then_) = stays_so b (ap (starts_at b.from) at) (ap (starts_at b.to) at) (ap (is_end_at b.to) at) was then_
  by_second b a k v r o was is _ at (moving.ends q j y here then_) =
      let so = then_ ∙ ap (λ n. moves.after_answer n y) is in
      neither b (ap (starts_at b.from) at) (ap (starts_at b.to) at) was (inr (record { arg = a; kept = k; value = v; reply = r; answers = 1 ∷ y ∷ []; is = so })) (λ h. omega (arith, ap count_in so, h)) (λ h. omega (arith, ap count_in so, h))

  by_answer : (b : Office) (z' : ℕ) → Serials s f b → (z : Event) → e ≡ z → Answering z' (f b.at) (g b.at) z → Serials (effect s e) g b
  by_answer b z' was _ at (moving.gives q j y one then_) =
      let none_ : (g b.at).service ≡ None = ap (λ (n : NodeState). n.service) then_ in
      let nine : count_in (g b.at) ≡ 9 = ap (λ o. option_map_or (λ (w : node.Service). length w.answers) o 9) none_ in
      neither b (ap (starts_at b.from) at) (ap (starts_at b.to) at) was (inl none_) (λ h. omega (arith, nine, h)) (λ h. omega (arith, nine, h))

  by_rest : (b : Office) → IsBranch s.config b → (f b.at).service ≡ None → Serials s f b → (z : Event) → e ≡ z → Resting (f b.at) (g b.at) z → Serials (effect s e) g b
  by_rest b o none_ was _ at (moving.takes q j y then_) =
      let so = then_ ∙ ap (λ k. moves.after_take (record (f b.at) { kind = k }) y) (branch_kind s f g facts fits e now b o) in
      let idle = (rest_idle s f g facts fits e now b o none_).0 in
      let calm_from : starts_at b.from e ≡ false = ap (starts_at b.from) at in
      calm b calm_from (ap (starts_at b.to) at) was (inr (record { arg = (f b.at).arg; kept = (f b.at).kept; value = y; reply = 0; answers = []; is = so }))
      (λ a k v r is busy. absurd (both_ways (is_idle (exchange s b.from).phase) (busy_back b.from calm_from busy) idle)) (λ a k v r is idle. absurd (omega (arith, ap count_in (sym so ∙ is))))

  own : (b : Office) → IsBranch s.config b → is_doer s b.at e ≡ true → Serials s f b → Serials (effect s e) g b
  own b o mine was = by was.shape
    where
      folded : after_event b.from (f b.at) e ≡ Some (g b.at)
      folded = ap (λ i. after_event i (f b.at) e) (sym o.first) ∙ now.folds.mine b.at o.made o.there mine

      at_course : (a : ℕ) (k : Kept) (v r : ℕ) (xs : List ℕ) → Course v xs → f b.at ≡ at_work Branch a k v r xs → Serials (effect s e) g b
      at_course a k v r _ (moving.from_first small) is =
          by_first b a k v r o was is e refl
          (asking b.from 0 (2 * v + 1) (f b.at) (g b.at) e (ap moves.next is ∙ ap (λ c. Some (cond c (next.Give 0) (next.Ask (record { require = 0; value = 2 * v + 1 })))) small) (ap moves.wants is)
          (ap (λ (n : NodeState). is_none n.service) is) (ap moves.waits is) folded)
      at_course a k v r _ (moving.to_second small) is =
          by_second b a k v r o was is e refl
          (asking b.from 1 (2 * v) (f b.at) (g b.at) e (ap moves.next is ∙ ap (λ c. Some (cond c (next.Give 0) (next.Ask (record { require = 1; value = 2 * v })))) small) (ap moves.wants is)
          (ap (λ (n : NodeState). is_none n.service) is) (ap moves.waits is) folded)
      at_course a k v r _ (moving.answers_now xs z give) is =
          by_answer b z was e refl
          (answering b.from z (f b.at) (g b.at) e (ap moves.next is ∙ ap Some give) (ap moves.wants is) (ap (λ (n : NodeState). is_none n.service) is) (ap moves.waits is) folded)

      by : ((f b.at).service ≡ None) ⊎ AtWork (f b.at) → Serials (effect s e) g b
      by (inl none_) =
          by_rest b o none_ was e refl
          (resting b.from (f b.at) (g b.at) e (ap moves.wants (of_parts (f b.at) Branch (f b.at).service (branch_kind s f g facts fits e now b o) refl)) none_ folded)
      by (inr w) = at_course w.arg w.kept w.value w.reply w.answers (course w.value w.answers) w.is

  -- ---- each event of a node keeps it
  pub counted : (b : Office) → IsBranch s.config b → Serials s f b → Serials (effect s e) g b
  counted b o was = by (is_doer s b.at e) refl
    where
      by : (t : Bool) → is_doer s b.at e ≡ t → Serials (effect s e) g b
      by true mine = own b o mine was
      by false other = by_other b o other was
