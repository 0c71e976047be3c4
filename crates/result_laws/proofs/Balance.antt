-- What a branch carries between its two accounts, and that each event of a node leaves the sum.
use Rattle.std.proofs.Common.{◌≡◌, ◌∙◌, ℕ, ◌+◌, ◌*◌, ◌<◌, Bool, true, false, cond, List, [], ◌∷◌, Some, None, refl, sym, ap, subst, arith, inl, inr}
use Rattle.std.specs.Prelude.{◌⊎◌, not, ◌==◌, ◌^◌, nat_le, option_and_then, is_some, is_none}
use Rattle.std.proofs.lemmas.Bool.{and_parts, both_ways, eq-eqb, eqb-true, false_from_ne_true}
use Rattle.std.proofs.lemmas.Option.{none-some, same_Some}
use Rattle.component_trait.specs.declared.TheConstants.{AMOUNT_LIMIT}
use Rattle.config_graph.specs.declared.kind.Kind.TheVariants.{Branch, Account}
use Rattle.config_graph.specs.declared.node.Target.{Target}
use Rattle.component_trait.specs.Fold.{after_event, asked_by, is_request_at, may_take, wants_at}
use Rattle.component_trait.specs.Moves as moves
use Rattle.component_trait.specs.States.{Kept, NodeState}
use Rattle.component_trait.specs.Tables.{serve, transfer}
use Rattle.component_trait.specs.declared.next.Next.TheVariants as next
use Rattle.quiesce_word.specs.Phases.{is_idle, is_asked, is_answered, is_in_more}
use Rattle.quiesce_word.specs.declared.phase.Phase.TheVariants as phase
use Rattle.quiesce_word.proofs.PhaseLaws.{answered_busy, answered_not_asked, answered_not_more, asked_busy, asked_not_more}
use Rattle.quiesce_core.specs.Alters.{exchange_by, is_message_at}
use Rattle.quiesce_core.specs.Doers.{is_end_at}
use Rattle.quiesce_core.specs.Effect.{effect}
use Rattle.quiesce_core.specs.Legal.{Legal}
use Rattle.quiesce_core.specs.Rules.{is_missing, is_taken}
use Rattle.quiesce_core.specs.Runs.{is_doer}
use Rattle.quiesce_core.specs.State.{State, exchange, owner, service, target}
use Rattle.quiesce_core.specs.declared.event.Event.{Event}
use Rattle.quiesce_core.specs.declared.event.Event.TheVariants.{Call, Take, Give, End}
use Rattle.quiesce_core.specs.declared.state.Exchange.{Exchange}
use Rattle.quiesce_core.specs.declared.state.Service.{Service}
use Rattle.quiesce_core.proofs.AlterLaws.{exchanges_next}
use Rattle.quiesce_core.proofs.StabilityLaws.{answers_stay, taken_ports_stay}
use Rattle.quiesce_core.proofs.StateLaws.{taken_is}
use Rattle.node_turn_laws.specs.Agreement.{expects}
use Rattle.result_laws.proofs.FactLaws.{Facts, Fits, at_work, of_parts}
use Rattle.result_laws.proofs.Offices.{IsAccount, IsBranch, IsOffice, Office, office_owned}
use Rattle.result_laws.proofs.Moving.{Answering, Asking, Course, Resting, answering, asking, course, paid, put_in, resting}
use Rattle.result_laws.proofs.Moving as moving
use Rattle.result_laws.proofs.EventLaws.{Now, asked_stays, idle_not_asked, idle_not_more, idle_stays, idle_untaken, led_to, no_reply, no_take, not_end, passes_by, service_at, take_at, takes_at, took_up, untaken_no_reply, untaken_stays}

-- an account at work for a value
pub record AccountHas (n : NodeState) (x reply : ℕ) : Type 0 where
  pub arg : ℕ
  pub kept : Kept
  pub is : n ≡ at_work Account arg kept x reply []

-- a call at an account: it waits, or is taken, or was answered; with whether it was done, by its reply
pub data Calls (s : State) (q x : ℕ) (n : NodeState) (Says : ℕ → Bool → Type 0) (d : Bool) : Type 0 where
  waiting : is_asked (exchange s q).phase ≡ true → (exchange s q).value ≡ x → is_taken s q ≡ false → d ≡ false → Calls s q x n Says d
  taken : (r : ℕ) → is_asked (exchange s q).phase ≡ true → (exchange s q).value ≡ x → is_taken s q ≡ true → AccountHas n x r → Says r d → Calls s q x n Says d
  answered : is_answered (exchange s q).phase ≡ true → Says (exchange s q).value d → Calls s q x n Says d

-- money was taken out where the reply is 1; it is put in in any case
abbrev pub IsPaid : ℕ → Bool → Type 0
IsPaid r d = d ≡ (r == 1)

abbrev pub IsPut : ℕ → Bool → Type 0
IsPut r d = d ≡ true

-- where a branch is, with what it carries
pub data BranchHas (s : State) (f : ℕ → NodeState) (b : Office) : ℕ → Type 0 where
  at_rest : (f b.at).service ≡ None → BranchHas s f b 0
  first_idle : (a : ℕ) (kept : Kept) (v r : ℕ) → nat_le AMOUNT_LIMIT v ≡ false → f b.at ≡ at_work Branch a kept v r [] → is_idle (exchange s b.from).phase ≡ true → BranchHas s f b 0
  first_open : (a : ℕ) (kept : Kept) (v r : ℕ) (d : Bool) → nat_le AMOUNT_LIMIT v ≡ false → f b.at ≡ at_work Branch a kept v r [] → Calls s b.from (2 * v + 1) (f b.payer) IsPaid d → BranchHas s f b (cond d v 0)
  second_idle : (a : ℕ) (kept : Kept) (v r : ℕ) → nat_le AMOUNT_LIMIT v ≡ false → f b.at ≡ at_work Branch a kept v r (1 ∷ []) → is_idle (exchange s b.to).phase ≡ true → BranchHas s f b v
  second_open : (a : ℕ) (kept : Kept) (v r : ℕ) (d : Bool) → nat_le AMOUNT_LIMIT v ≡ false → f b.at ≡ at_work Branch a kept v r (1 ∷ []) → Calls s b.to (2 * v) (f b.payee) IsPut d → BranchHas s f b (cond d 0 v)
  answers : (a : ℕ) (kept : Kept) (v r : ℕ) (xs : List ℕ) (z : ℕ) → transfer v xs ≡ next.Give z → f b.at ≡ at_work Branch a kept v r xs → BranchHas s f b 0

-- what the account of a port keeps and replies, where it takes the value up
abbrev pub posted_kept : NodeState → ℕ → Kept
posted_kept n x = (serve Account n.arg n.kept x).kept

abbrev pub posted_reply : NodeState → ℕ → ℕ
posted_reply n x = (serve Account n.arg n.kept x).reply

add_up : (n n0 t' t0 c t : ℕ) → n ≡ n0 → t' ≡ t0 → c ≡ 0 → t0 + n0 ≡ t → n + t' ≡ c + t
add_up n n0 t' t0 c t a b d e = omega (arith, a, b, d, e)

put_up : (n t' t0 c t v : ℕ) → n ≡ 0 → t' ≡ t0 → t0 ≡ t + v → c ≡ v → n + t' ≡ c + t
put_up n t' t0 c t v a b d e = omega (arith, a, b, d, e)

module _ (s : State) (f g : ℕ → NodeState) (facts : Facts s f) (fits : Fits s.config f) (e : Event) (now : Now s f g e) where
  -- ---- who owns what

  from_owned : (b : Office) → IsOffice s.config b → owner s.config b.from ≡ b.at
  from_owned b o = (office_owned s.config facts.well.sound b o.branch).0

  to_owned : (b : Office) → IsOffice s.config b → owner s.config b.to ≡ b.at
  to_owned b o = (office_owned s.config facts.well.sound b o.branch).1

  pub branch_kind : (b : Office) → IsBranch s.config b → (f b.at).kind ≡ Branch
  branch_kind b o = fits.kinds b.at o.made o.there ∙ o.kind

  pub account_kind : (n : ℕ) → (a : IsAccount s.config n) → (f n).kind ≡ Account
  account_kind n a = fits.kinds n a.made a.there ∙ a.kind

  -- ---- a call at an account

  record Post (q x z : ℕ) (Says : ℕ → Bool → Type 0) (d : Bool) : Type 0 where
    next : Bool
    calls : Calls (effect s e) q x (g z) Says next
    calm : takes_at q e ≡ false → next ≡ d
    took : takes_at q e ≡ true → (d ≡ false) × ((g z).kept ≡ posted_kept (f z) x) × Says (posted_reply (f z) x) next

  by_same : (q : ℕ) {A : Type 0} (read : Exchange → A) (y : A) → exchange (effect s e) q ≡ exchange s q → read (exchange s q) ≡ y → read (exchange (effect s e) q) ≡ y
  by_same q read y same is = ap read same ∙ is

  account_step : (q x z : ℕ) (Says : ℕ → Bool → Type 0) (d d1 : Bool) → target s.config q ≡ Some (record { node = z; provide = 0 }) → IsAccount s.config z → (f z).kind ≡ Account → Says (posted_reply (f z) x) d1
      → is_end_at q e ≡ false → Calls s q x (f z) Says d → Post q x z Says d
  account_step q x z Says d d1 leads at kind says no_end (answered a said) =
      let same = answers_stay s e facts.well facts.traffic now.legal q a no_end in
      let none_ = no_take s f g facts q e now.legal (answered_not_asked (exchange s q).phase a) in
      record {
        next = d;
        calls = answered (by_same q (λ y. is_answered y.phase) true same a) (subst (λ (y : Exchange). Says y.value d) (sym same) said);
        calm = λ h. refl;
        took = λ h. absurd (both_ways (takes_at q e) none_ h);
      }
  account_step q x z Says d d1 leads at kind says no_end (waiting a v u dn) = by (takes_at q e) refl
    where
      by : (b : Bool) → takes_at q e ≡ b → Post q x z Says d
      by true h =
          let up = took_up s f g facts e q z x at.made.first_port now leads v (now.folds.mine z at.made at.there) (take_at q e h) in
          let is : g z ≡ moves.after_take (record (f z) { kind = Account }) x = sym (same_Some (moves.after_take (f z) x) (g z) (taken_fold (f z) (g z) at.made.first_port up.serial up.folds)) ∙ ap (λ k. moves.after_take (record (f z) { kind = k }) x) kind in
          record {
            next = d1;
            calls = taken (posted_reply (f z) x) (by_same q (λ y. is_asked y.phase) true up.same a) (by_same q (λ y. y.value) x up.same v) up.taken
                (record { arg = (f z).arg; kept = posted_kept (f z) x; is = is }) says;
            calm = λ other. absurd (both_ways (takes_at q e) other h);
            took = λ h'. (dn, ap (λ (n : NodeState). n.kept) is, says);
          }
        where
          taken_fold : (n m : NodeState) (first k : ℕ) → after_event first n (Take q k x) ≡ Some m → Some (moves.after_take n x) ≡ Some m
          taken_fold n m first k h = by_test (may_take n) refl h
            where
              by_test : (b : Bool) → may_take n ≡ b → cond b (Some (moves.after_take n x)) None ≡ Some m → Some (moves.after_take n x) ≡ Some m
              by_test true is h = h
              by_test false is h = absurd (none-some m h)
      by false h =
          let r = untaken_no_reply s f g facts q e now.legal u in
          let same = asked_stays s f g facts q e now.legal a r.0 r.1 in
          record {
            next = d;
            calls = waiting (by_same q (λ y. is_asked y.phase) true same a) (by_same q (λ y. y.value) x same v) (untaken_stays s f g facts q e now h u) dn;
            calm = λ other. refl;
            took = λ h'. absurd (both_ways (takes_at q e) h h');
          }
  account_step q x z Says d d1 leads at kind says no_end (taken r a v u has said) = by (is_doer s z e) refl
    where
      never : takes_at q e ≡ true → ⊥
      never h = let it = take_at q e h in let l = subst (Legal s) it.is now.legal in both_ways false refl (sym (ap not u) ∙ l.untaken)

      gave : (z' : Event) → e ≡ z' → is_doer s z z' ≡ true → Answering r (f z) (g z) z' → Post q x z Says d
      gave _ is does (moving.gives p j y one then_) =
          let l = subst (Legal s) is now.legal in
          let led = led_to s f g facts p z does in
          let w = taken_is s p l.taken in
          let there = ap (λ (y : Target). service s y.node) (sym (same_Some w.to led.0 (sym w.leads ∙ led.1))) in
          let mine = service_at s f g facts q z 0 leads u in
          let both : w.serving ≡ mine.0 = same_Some w.serving mine.0 (sym w.serviced ∙ sym there ∙ ap (service s) led.2 ∙ mine.1) in
          let here : p ≡ q = sym w.of_port ∙ ap (λ (x : Service). x.port) both ∙ mine.2 in
          let after : exchange (effect s e) q ≡ record (exchange s q) { phase = phase.Answered; value = y } =
          ap (λ k. exchange (effect s k) q) is ∙ exchanges_next s (Give p j y) facts.well l q ∙ ap (λ b. cond b (record (exchange s q) { phase = phase.Answered; value = y }) (exchange s q)) (eq-eqb p q here) in
          record {
            next = d;
            calls = answered (ap (λ (k : Exchange). is_answered k.phase) after) (subst (λ i. Says i d) (sym (ap (λ (k : Exchange). k.value) after ∙ one)) said);
            calm = λ h. refl;
            took = λ h. absurd (never h);
          }

      by : (b : Bool) → is_doer s z e ≡ b → Post q x z Says d
      by false other =
          let rep = no_reply s f g facts e q z 0 leads u other in
          let same = asked_stays s f g facts q e now.legal a rep.0 rep.1 in
          record {
            next = d;
            calls = taken r (by_same q (λ y. is_asked y.phase) true same a) (by_same q (λ y. y.value) x same v) (taken_ports_stay s e facts.well facts.traffic now.legal q u rep.0)
                (record { arg = has.arg; kept = has.kept; is = now.folds.others z other ∙ has.is }) said;
            calm = λ h. refl;
            took = λ h. absurd (never h);
          }
      by true does =
          gave e refl does
          (answering at.made.first_port r (f z) (g z) e (ap moves.next has.is) (ap moves.wants has.is) (ap (λ (n : NodeState). is_none n.service) has.is) (ap moves.waits has.is) (now.folds.mine z at.made at.there does))

  -- ---- a branch

  pub own_idle : (b : Office) → IsBranch s.config b → (q : ℕ) → owner s.config q ≡ b.at → is_request_at b.from q (asked_by (moves.next (f b.at))) ≡ false → is_idle (exchange s q).phase ≡ true
  own_idle b o q owned calls_none = by (is_idle (exchange s q).phase) refl
    where
      wants_none : wants_at b.from (f b.at) q ≡ false
      wants_none = ap (λ n. wants_at b.from n q) (of_parts (f b.at) Branch (f b.at).service (branch_kind b o) refl)

      nothing_expected : (c : Bool) → expects c b.from (f b.at) q ≡ false
      nothing_expected true = calls_none
      nothing_expected false = wants_none

      by : (c : Bool) → is_idle (exchange s q).phase ≡ c → is_idle (exchange s q).phase ≡ true
      by true is = is
      by false is =
          absurd (both_ways (expects (is_some (exchange s q).within) b.from (f b.at) q) (nothing_expected (is_some (exchange s q).within))
          (ap (λ i. expects (is_some (exchange s q).within) i (f b.at) q) (sym o.first) ∙ facts.expected b.at q o.made o.there owned is))

  -- a branch at rest has nothing at its ports
  pub rest_idle : (b : Office) → IsBranch s.config b → (f b.at).service ≡ None → (is_idle (exchange s b.from).phase ≡ true) × (is_idle (exchange s b.to).phase ≡ true)
  rest_idle b o none_ =
      let nx : moves.next (f b.at) ≡ None = ap (λ w. option_and_then (moves.next_in (f b.at)) w) none_ in
      let quiet : (q : ℕ) → is_request_at b.from q (asked_by (moves.next (f b.at))) ≡ false = λ q. ap (λ n. is_request_at b.from q (asked_by n)) nx in
      let own = office_owned s.config facts.well.sound b o in
      (own_idle b o b.from own.0 (quiet b.from), own_idle b o b.to own.1 (quiet b.to))

  pub record Keeps (b : Office) (c : ℕ) : Type 0 where
    pub next : ℕ
    pub has : BranchHas (effect s e) g b next
    pub calm : takes_at b.from e ≡ false → takes_at b.to e ≡ false → next ≡ c
    pub pays : takes_at b.from e ≡ true → next + (g b.payer).kept.total ≡ c + (f b.payer).kept.total
    pub puts : takes_at b.to e ≡ true → next + (g b.payee).kept.total ≡ c + (f b.payee).kept.total

  -- where neither port is asked, nothing is taken up there
  kept : (b : Office) (c : ℕ) → is_idle (exchange s b.from).phase ≡ true → is_idle (exchange s b.to).phase ≡ true → BranchHas (effect s e) g b c → Keeps b c
  kept b c from_idle to_idle has = record {
    next = c;
    has = has;
    calm = λ h h'. refl;
    pays = λ h. absurd (both_ways (takes_at b.from e) (no_take s f g facts b.from e now.legal (idle_not_asked s f g facts b.from from_idle)) h);
    puts = λ h. absurd (both_ways (takes_at b.to e) (no_take s f g facts b.to e now.legal (idle_not_asked s f g facts b.to to_idle)) h);
  }

  -- what a small amount asks next
  next_first : (b : Office) (a : ℕ) (k : Kept) (v r : ℕ) → nat_le AMOUNT_LIMIT v ≡ false → f b.at ≡ at_work Branch a k v r [] → moves.next (f b.at) ≡ Some (next.Ask (record { require = 0; value = 2 * v + 1 }))
  next_first b a k v r small is = ap moves.next is ∙ ap (λ c. Some (cond c (next.Give 0) (next.Ask (record { require = 0; value = 2 * v + 1 })))) small

  next_second : (b : Office) (a : ℕ) (k : Kept) (v r : ℕ) → nat_le AMOUNT_LIMIT v ≡ false → f b.at ≡ at_work Branch a k v r (1 ∷ []) → moves.next (f b.at) ≡ Some (next.Ask (record { require = 1; value = 2 * v }))
  next_second b a k v r small is = ap moves.next is ∙ ap (λ c. Some (cond c (next.Give 0) (next.Ask (record { require = 1; value = 2 * v })))) small

  next_gives : (b : Office) (a : ℕ) (k : Kept) (v r z : ℕ) (xs : List ℕ) → transfer v xs ≡ next.Give z → f b.at ≡ at_work Branch a k v r xs → moves.next (f b.at) ≡ Some (next.Give z)
  next_gives b a k v r z xs gives is = ap moves.next is ∙ ap Some gives

  to_idle_first : (b : Office) → IsOffice s.config b → (y : ℕ) → moves.next (f b.at) ≡ Some (next.Ask (record { require = 0; value = y })) → is_idle (exchange s b.to).phase ≡ true
  to_idle_first b o y nx = own_idle b o.branch b.to (to_owned b o) (ap (λ n. is_request_at b.from b.to (asked_by n)) nx ∙ false_from_ne_true (b.from + 0 == b.to) (λ h. let x = eqb-true (b.from + 0) b.to h in omega (arith, x, o.branch.second)))

  from_idle_second : (b : Office) → IsOffice s.config b → (y : ℕ) → moves.next (f b.at) ≡ Some (next.Ask (record { require = 1; value = y })) → is_idle (exchange s b.from).phase ≡ true
  from_idle_second b o y nx = own_idle b o.branch b.from (from_owned b o) (ap (λ n. is_request_at b.from b.from (asked_by n)) nx ∙ false_from_ne_true (b.from + 1 == b.from) (λ h. let x = eqb-true (b.from + 1) b.from h in omega (arith, x)))

  -- an event of another node
  by_other : (b : Office) (c : ℕ) → IsOffice s.config b → is_doer s b.at e ≡ false → (f b.payee).kept.total + c < 2 ^ 64 → BranchHas s f b c → Keeps b c
  by_other b _ o other room (at_rest none_) =
      let quiet = rest_idle b o.branch none_ in
      kept b 0 quiet.0 quiet.1 (at_rest (ap (λ (n : NodeState). n.service) (now.folds.others b.at other) ∙ none_))
  by_other b _ o other room (first_idle a k v r small is idle) =
      let nx = next_first b a k v r small is in
      kept b 0 idle (to_idle_first b o (2 * v + 1) nx)
      (first_idle a k v r small (now.folds.others b.at other ∙ is) (ap (λ (y : Exchange). is_idle y.phase) (idle_stays s f g facts b.from e now.legal idle (ap (λ i. is_doer s i e) (from_owned b o) ∙ other)) ∙ idle))
  by_other b _ o other room (second_idle a k v r small is idle) =
      let nx = next_second b a k v r small is in
      kept b v (from_idle_second b o (2 * v) nx) idle
      (second_idle a k v r small (now.folds.others b.at other ∙ is) (ap (λ (y : Exchange). is_idle y.phase) (idle_stays s f g facts b.to e now.legal idle (ap (λ i. is_doer s i e) (to_owned b o) ∙ other)) ∙ idle))
  by_other b _ o other room (answers a k v r xs z gives is) =
      let quiet : (q : ℕ) → is_request_at b.from q (asked_by (moves.next (f b.at))) ≡ false = λ q. ap (λ n. is_request_at b.from q (asked_by n)) (next_gives b a k v r z xs gives is) in
      kept b 0 (own_idle b o.branch b.from (from_owned b o) (quiet b.from)) (own_idle b o.branch b.to (to_owned b o) (quiet b.to)) (answers a k v r xs z gives (now.folds.others b.at other ∙ is))
  by_other b _ o other room (first_open a k v r d small is calls) =
      let nx = next_first b a k v r small is in
      let x = 2 * v + 1 in
      let p = account_step b.from x b.payer IsPaid d (posted_reply (f b.payer) x == 1) o.from_leads o.payer (account_kind b.payer o.payer) refl (not_end s f g facts b.from e (ap (λ i. is_doer s i e) (from_owned b o) ∙ other)) calls in
      let to_idle = to_idle_first b o (2 * v + 1) nx in
      record {
        next = cond p.next v 0;
        has = first_open a k v r p.next small (now.folds.others b.at other ∙ is) p.calls;
        calm = λ h h'. ap (λ c. cond c v 0) (p.calm h);
        pays = λ h.
            let t = p.took h in
            add_up (cond p.next v 0) (cond (posted_reply (f b.payer) x == 1) v 0) (g b.payer).kept.total (posted_kept (f b.payer) x).total (cond d v 0) (f b.payer).kept.total
            (ap (λ c. cond c v 0) t.2) (ap (λ (k : Kept). k.total) t.1) (ap (λ c. cond c v 0) t.0) (paid (f b.payer).arg (f b.payer).kept v);
        puts = λ h. absurd (both_ways (takes_at b.to e) (no_take s f g facts b.to e now.legal (idle_not_asked s f g facts b.to to_idle)) h);
      }
  by_other b _ o other room (second_open a k v r d small is calls) =
      let nx = next_second b a k v r small is in
      let x = 2 * v in
      let p = account_step b.to x b.payee IsPut d true o.to_leads o.payee (account_kind b.payee o.payee) refl (not_end s f g facts b.to e (ap (λ i. is_doer s i e) (to_owned b o) ∙ other)) calls in
      record {
        next = cond p.next 0 v;
        has = second_open a k v r p.next small (now.folds.others b.at other ∙ is) p.calls;
        calm = λ h h'. ap (λ c. cond c 0 v) (p.calm h');
        pays = λ h. absurd (both_ways (takes_at b.from e) (no_take s f g facts b.from e now.legal (idle_not_asked s f g facts b.from (from_idle_second b o (2 * v) nx))) h);
        puts = λ h.
            let t = p.took h in
            let carried : cond d 0 v ≡ v = ap (λ c. cond c 0 v) t.0 in
            let got = put_in (f b.payee).arg (f b.payee).kept v (subst (λ n. (f b.payee).kept.total + n < 2 ^ 64) carried room) in
            put_up (cond p.next 0 v) (g b.payee).kept.total (posted_kept (f b.payee) x).total (cond d 0 v) (f b.payee).kept.total v
            (ap (λ c. cond c 0 v) t.2) (ap (λ (k : Kept). k.total) t.1) got.1 carried;
      }

  -- an event of the branch
  own_from : (b : Office) → IsOffice s.config b → (q : ℕ) → q ≡ b.from + 0 → q ≡ b.from
  own_from b o q h = omega (arith, h)

  own_to : (b : Office) → IsOffice s.config b → (q : ℕ) → q ≡ b.from + 1 → q ≡ b.to
  own_to b o q h = omega (arith, h, o.branch.second)

  calls_busy : (q x : ℕ) (n : NodeState) (Says : ℕ → Bool → Type 0) (d : Bool) → Calls s q x n Says d → (is_idle (exchange s q).phase ≡ true → ⊥) × (is_in_more (exchange s q).phase ≡ true → ⊥)
  calls_busy q x n Says d (waiting a v u dn) = (λ i. both_ways (is_idle (exchange s q).phase) (asked_busy (exchange s q).phase a) i, λ i. both_ways (is_in_more (exchange s q).phase) (asked_not_more (exchange s q).phase a) i)
  calls_busy q x n Says d (taken r a v u has said) = (λ i. both_ways (is_idle (exchange s q).phase) (asked_busy (exchange s q).phase a) i, λ i. both_ways (is_in_more (exchange s q).phase) (asked_not_more (exchange s q).phase a) i)
  calls_busy q x n Says d (answered a said) = (λ i. both_ways (is_idle (exchange s q).phase) (answered_busy (exchange s q).phase a) i, λ i. both_ways (is_in_more (exchange s q).phase) (answered_not_more (exchange s q).phase a) i)

  calls_said : (q x : ℕ) (n : NodeState) (Says : ℕ → Bool → Type 0) (d : Bool) → Calls s q x n Says d → is_answered (exchange s q).phase ≡ true → Says (exchange s q).value d
  calls_said q x n Says d (waiting a v u dn) h = absurd (both_ways (is_asked (exchange s q).phase) (answered_not_asked (exchange s q).phase h) a)
  calls_said q x n Says d (taken r a v u has said) h = absurd (both_ways (is_asked (exchange s q).phase) (answered_not_asked (exchange s q).phase h) a)
  calls_said q x n Says d (answered a said) h = said

  -- no take is done by a branch at its own ports, where it does something else
  kept_calm : (b : Office) (c n : ℕ) → takes_at b.from e ≡ false → takes_at b.to e ≡ false → n ≡ c → BranchHas (effect s e) g b n → Keeps b c
  kept_calm b c n none_ none_' same has = record {
    next = n;
    has = has;
    calm = λ h h'. same;
    pays = λ h. absurd (both_ways (takes_at b.from e) none_ h);
    puts = λ h. absurd (both_ways (takes_at b.to e) none_' h);
  }

  shows : (q : ℕ) (z : Event) → e ≡ z → is_message_at q z ≡ true → exchange (effect s e) q ≡ exchange_by (service s (owner s.config q)) (exchange s q) z
  shows q z is here =
      ap (λ k. exchange (effect s k) q) is ∙ exchanges_next s z facts.well (subst (Legal s) is now.legal) q ∙ ap (λ c. cond c (exchange_by (service s (owner s.config q)) (exchange s q) z) (exchange s q)) here

  passes : (q : ℕ) (z : Event) → e ≡ z → is_message_at q z ≡ false → is_idle (exchange s q).phase ≡ true → is_idle (exchange (effect s e) q).phase ≡ true
  passes q z is none_ idle = ap (λ (y : Exchange). is_idle y.phase) (passes_by s f g facts q e now.legal (ap (is_message_at q) is ∙ none_)) ∙ idle

  by_first : (b : Office) (a : ℕ) (k : Kept) (v r c : ℕ) → IsOffice s.config b → nat_le AMOUNT_LIMIT v ≡ false → f b.at ≡ at_work Branch a k v r []
      → ((is_idle (exchange s b.from).phase ≡ true) × (c ≡ 0)) ⊎ ((d : Bool) × Calls s b.from (2 * v + 1) (f b.payer) IsPaid d × (c ≡ cond d v 0)) → (z : Event) → e ≡ z → Asking b.from 0 (2 * v + 1) (f b.at) (g b.at) z → Keeps b c
  by_first b a k v r c o small is (inl idle) _ at (moving.calls q j y here val then_) =
      let after = shows b.from (Call q j y) at (eq-eqb q b.from (own_from b o q here)) in
      kept_calm b c 0 (ap (takes_at b.from) at) (ap (takes_at b.to) at) (sym idle.1)
      (first_open a k v r false small (then_ ∙ is)
      (waiting (ap (λ (y : Exchange). is_asked y.phase) after) (ap (λ (y : Exchange). y.value) after ∙ val) (untaken_stays s f g facts b.from e now (ap (takes_at b.from) at) (idle_untaken s f g facts b.from idle.0)) refl))
  by_first b a k v r c o small is (inl idle) _ at (moving.misses q here then_) =
      kept_calm b c 0 (ap (takes_at b.from) at) (ap (takes_at b.to) at) (sym idle.1)
      (answers a k v r (0 ∷ []) 0 (ap (λ c. cond c (next.Give 0) (next.Give 0)) small) (then_ ∙ ap (λ n. moves.after_answer n 0) is))
  by_first b a k v r c o small is (inl idle) _ at (moving.asks q j y here then_) =
      let l = subst (Legal s) at now.legal in absurd (idle_not_more s f g facts b.from idle.0 (ap (λ i. is_in_more (exchange s i).phase) (sym (own_from b o q here)) ∙ l.in_more))
  by_first b a k v r c o small is (inl idle) _ at (moving.ends q j y here then_) =
      let l = subst (Legal s) at now.legal in
      absurd (both_ways (is_idle (exchange s b.from).phase) (answered_busy (exchange s b.from).phase (ap (λ i. is_answered (exchange s i).phase) (sym (own_from b o q here)) ∙ l.answered)) idle.0)
  by_first b a k v r c o small is (inr open_) _ at (moving.calls q j y here val then_) =
      let l = subst (Legal s) at now.legal in absurd ((calls_busy b.from _ _ _ open_.0 open_.1).0 (ap (λ i. is_idle (exchange s i).phase) (sym (own_from b o q here)) ∙ l.idle))
  by_first b a k v r c o small is (inr open_) _ at (moving.misses q here then_) =
      let l = subst (Legal s) at now.legal in absurd ((calls_busy b.from _ _ _ open_.0 open_.1).0 (ap (λ i. is_idle (exchange s i).phase) (sym (own_from b o q here)) ∙ l.idle))
  by_first b a k v r c o small is (inr open_) _ at (moving.asks q j y here then_) =
      let l = subst (Legal s) at now.legal in absurd ((calls_busy b.from _ _ _ open_.0 open_.1).1 (ap (λ i. is_in_more (exchange s i).phase) (sym (own_from b o q here)) ∙ l.in_more))
  by_first b a k v r c o small is (inr open_) _ at (moving.ends q j y here then_) =
      let l = subst (Legal s) at now.legal in
      let one = own_from b o q here in
      let said = calls_said b.from (2 * v + 1) (f b.payer) IsPaid open_.0 open_.1 (ap (λ i. is_answered (exchange s i).phase) (sym one) ∙ l.answered) in
      let value = eqb-true y (exchange s q).value (and_parts (j == (exchange s q).serial) (y == (exchange s q).value) l.message).1 in
      let given : open_.0 ≡ (y == 1) = said ∙ ap (λ i. i == 1) (sym (value ∙ ap (λ i. (exchange s i).value) one)) in
      let to_idle = to_idle_first b o (2 * v + 1) (next_first b a k v r small is) in
      let still_idle = passes b.to (End q j y) at (false_from_ne_true (q == b.to) (λ h. let x = eqb-true q b.to h in omega (arith, x, one, o.branch.second))) to_idle in
      ended (y == 1) refl at given still_idle (then_ ∙ ap (λ n. moves.after_answer n y) is)
    where
      ended : {q j y : ℕ} → (t : Bool) → (y == 1) ≡ t → e ≡ End q j y → open_.0 ≡ (y == 1) → is_idle (exchange (effect s e) b.to).phase ≡ true → g b.at ≡ at_work Branch a k v r (y ∷ []) → Keeps b c
      ended {q} {j} {y} true is_1 at given idle then_ =
          kept_calm b c v (ap (takes_at b.from) at) (ap (takes_at b.to) at) (sym (open_.2 ∙ ap (λ t. cond t v 0) (given ∙ is_1)))
          (second_idle a k v r small (then_ ∙ ap (λ i. at_work Branch a k v r (i ∷ [])) (eqb-true y 1 is_1)) idle)
      ended {q} {j} {y} false is_1 at given idle then_ =
          kept_calm b c 0 (ap (takes_at b.from) at) (ap (takes_at b.to) at) (sym (open_.2 ∙ ap (λ t. cond t v 0) (given ∙ is_1)))
          (answers a k v r (y ∷ []) 0
          (ap (λ t. cond t (next.Give 0) (cond (y == 1) (next.Ask (record { require = 1; value = 2 * v })) (next.Give 0))) small ∙ ap (λ t. cond t (next.Ask (record { require = 1; value = 2 * v })) (next.Give 0)) is_1) then_)

  by_second : (b : Office) (a : ℕ) (k : Kept) (v r c : ℕ) → IsOffice s.config b → (is_idle (exchange s b.to).phase ≡ true → is_missing s b.to ≡ false) → nat_le AMOUNT_LIMIT v ≡ false → f b.at ≡ at_work Branch a k v r (1 ∷ [])
      → ((is_idle (exchange s b.to).phase ≡ true) × (c ≡ v)) ⊎ ((d : Bool) × Calls s b.to (2 * v) (f b.payee) IsPut d × (c ≡ cond d 0 v)) → (z : Event) → e ≡ z → Asking b.from 1 (2 * v) (f b.at) (g b.at) z → Keeps b c
  by_second b a k v r c o unspent small is (inl idle) _ at (moving.calls q j y here val then_) =
      let after = shows b.to (Call q j y) at (eq-eqb q b.to (own_to b o q here)) in
      kept_calm b c v (ap (takes_at b.from) at) (ap (takes_at b.to) at) (sym idle.1)
      (second_open a k v r false small (then_ ∙ is)
      (waiting (ap (λ (y : Exchange). is_asked y.phase) after) (ap (λ (y : Exchange). y.value) after ∙ val) (untaken_stays s f g facts b.to e now (ap (takes_at b.to) at) (idle_untaken s f g facts b.to idle.0)) refl))
  by_second b a k v r c o unspent small is (inl idle) _ at (moving.misses q here then_) =
      let l = subst (Legal s) at now.legal in absurd (both_ways (is_missing s b.to) (unspent idle.0) (ap (is_missing s) (sym (own_to b o q here)) ∙ l.missing))
  by_second b a k v r c o unspent small is (inl idle) _ at (moving.asks q j y here then_) =
      let l = subst (Legal s) at now.legal in absurd (idle_not_more s f g facts b.to idle.0 (ap (λ i. is_in_more (exchange s i).phase) (sym (own_to b o q here)) ∙ l.in_more))
  by_second b a k v r c o unspent small is (inl idle) _ at (moving.ends q j y here then_) =
      let l = subst (Legal s) at now.legal in
      absurd (both_ways (is_idle (exchange s b.to).phase) (answered_busy (exchange s b.to).phase (ap (λ i. is_answered (exchange s i).phase) (sym (own_to b o q here)) ∙ l.answered)) idle.0)
  by_second b a k v r c o unspent small is (inr open_) _ at (moving.calls q j y here val then_) =
      let l = subst (Legal s) at now.legal in absurd ((calls_busy b.to _ _ _ open_.0 open_.1).0 (ap (λ i. is_idle (exchange s i).phase) (sym (own_to b o q here)) ∙ l.idle))
  by_second b a k v r c o unspent small is (inr open_) _ at (moving.misses q here then_) =
      let l = subst (Legal s) at now.legal in absurd ((calls_busy b.to _ _ _ open_.0 open_.1).0 (ap (λ i. is_idle (exchange s i).phase) (sym (own_to b o q here)) ∙ l.idle))
  by_second b a k v r c o unspent small is (inr open_) _ at (moving.asks q j y here then_) =
      let l = subst (Legal s) at now.legal in absurd ((calls_busy b.to _ _ _ open_.0 open_.1).1 (ap (λ i. is_in_more (exchange s i).phase) (sym (own_to b o q here)) ∙ l.in_more))
  by_second b a k v r c o unspent small is (inr open_) _ at (moving.ends q j y here then_) =
      let l = subst (Legal s) at now.legal in
      let said = calls_said b.to (2 * v) (f b.payee) IsPut open_.0 open_.1 (ap (λ i. is_answered (exchange s i).phase) (sym (own_to b o q here)) ∙ l.answered) in
      kept_calm b c 0 (ap (takes_at b.from) at) (ap (takes_at b.to) at) (sym (open_.2 ∙ ap (λ t. cond t 0 v) said))
      (answers a k v r (1 ∷ y ∷ []) 1 (ap (λ t. cond t (next.Give 0) (next.Give 1)) small) (then_ ∙ ap (λ n. moves.after_answer n y) is))

  by_answer : (b : Office) (z' : ℕ) → (z : Event) → e ≡ z → Answering z' (f b.at) (g b.at) z → Keeps b 0
  by_answer b z' _ at (moving.gives q j y one then_) = kept_calm b 0 0 (ap (takes_at b.from) at) (ap (takes_at b.to) at) refl (at_rest (ap (λ (n : NodeState). n.service) then_))

  by_rest : (b : Office) → IsOffice s.config b → is_idle (exchange s b.from).phase ≡ true → is_idle (exchange s b.to).phase ≡ true → (z : Event) → e ≡ z → Resting (f b.at) (g b.at) z → Keeps b 0
  by_rest b o from_idle to_idle _ at (moving.takes q j y then_) = kept b 0 from_idle to_idle (taken_up (course y []))
    where
      is : g b.at ≡ at_work Branch (f b.at).arg (f b.at).kept y 0 []
      is = then_ ∙ ap (λ k. moves.after_take (record (f b.at) { kind = k }) y) (branch_kind b o.branch)

      taken_up : Course y [] → BranchHas (effect s e) g b 0
      taken_up (moving.from_first small) = first_idle (f b.at).arg (f b.at).kept y 0 small is (passes b.from (Take q j y) at refl from_idle)
      taken_up (moving.answers_now _ z gives) = answers (f b.at).arg (f b.at).kept y 0 [] z gives is

  -- ---- what a branch carries goes over with what its accounts have, at each event of a node
  pub keeps : (b : Office) (c : ℕ) → IsOffice s.config b → ((a : ℕ) (k : Kept) (v r : ℕ) → f b.at ≡ at_work Branch a k v r (1 ∷ []) → is_idle (exchange s b.to).phase ≡ true → is_missing s b.to ≡ false) → (f b.payee).kept.total + c < 2 ^ 64
      → BranchHas s f b c → Keeps b c
  keeps b c o unspent room has = by (is_doer s b.at e) refl has
    where
      own : (c : ℕ) → is_doer s b.at e ≡ true → BranchHas s f b c → Keeps b c
      own _ mine (at_rest none_) =
          let wn : moves.wants (f b.at) ≡ None = ap moves.wants (of_parts (f b.at) Branch (f b.at).service (branch_kind b o.branch) refl) in
          let quiet = rest_idle b o.branch none_ in
          by_rest b o quiet.0 quiet.1 e refl (resting o.branch.made.first_port (f b.at) (g b.at) e wn none_ (now.folds.mine b.at o.branch.made o.branch.there mine))
      own _ mine (first_idle a k v r small is idle) =
          by_first b a k v r 0 o small is (inl (idle, refl)) e refl (asks_first a k v r small is mine)
        where
          asks_first : (a : ℕ) (k : Kept) (v r : ℕ) → nat_le AMOUNT_LIMIT v ≡ false → f b.at ≡ at_work Branch a k v r [] → is_doer s b.at e ≡ true → Asking b.from 0 (2 * v + 1) (f b.at) (g b.at) e
          asks_first a k v r small is mine =
              asking b.from 0 (2 * v + 1) (f b.at) (g b.at) e (next_first b a k v r small is) (ap moves.wants is) (ap (λ (n : NodeState). is_none n.service) is) (ap moves.waits is)
              (ap (λ i. after_event i (f b.at) e) (sym o.branch.first) ∙ now.folds.mine b.at o.branch.made o.branch.there mine)
      own _ mine (first_open a k v r d small is calls) =
          by_first b a k v r (cond d v 0) o small is (inr (d, calls, refl)) e refl
          (asking b.from 0 (2 * v + 1) (f b.at) (g b.at) e (next_first b a k v r small is) (ap moves.wants is) (ap (λ (n : NodeState). is_none n.service) is) (ap moves.waits is)
          (ap (λ i. after_event i (f b.at) e) (sym o.branch.first) ∙ now.folds.mine b.at o.branch.made o.branch.there mine))
      own _ mine (second_idle a k v r small is idle) =
          by_second b a k v r v o (unspent a k v r is) small is (inl (idle, refl)) e refl
          (asking b.from 1 (2 * v) (f b.at) (g b.at) e (next_second b a k v r small is) (ap moves.wants is) (ap (λ (n : NodeState). is_none n.service) is) (ap moves.waits is)
          (ap (λ i. after_event i (f b.at) e) (sym o.branch.first) ∙ now.folds.mine b.at o.branch.made o.branch.there mine))
      own _ mine (second_open a k v r d small is calls) =
          by_second b a k v r (cond d 0 v) o (unspent a k v r is) small is (inr (d, calls, refl)) e refl
          (asking b.from 1 (2 * v) (f b.at) (g b.at) e (next_second b a k v r small is) (ap moves.wants is) (ap (λ (n : NodeState). is_none n.service) is) (ap moves.waits is)
          (ap (λ i. after_event i (f b.at) e) (sym o.branch.first) ∙ now.folds.mine b.at o.branch.made o.branch.there mine))
      own _ mine (answers a k v r xs z gives is) =
          by_answer b z e refl
          (answering o.branch.made.first_port z (f b.at) (g b.at) e (next_gives b a k v r z xs gives is) (ap moves.wants is) (ap (λ (n : NodeState). is_none n.service) is) (ap moves.waits is) (now.folds.mine b.at o.branch.made o.branch.there mine))

      by : (t : Bool) → is_doer s b.at e ≡ t → BranchHas s f b c → Keeps b c
      by true mine has = own c mine has
      by false other has = by_other b c o other room has
