-- What is closed and idle is found drained; ports stay closed while nodes go on.
use Rattle.std.proofs.Common.{◌≡◌, ◌∙◌, ℕ, zero, suc, Bool, true, false, cond, not, List, [], ◌∷◌, length, map, refl, sym, ap, inl, inr, ⊎_elim, arith}
use Rattle.std.specs.Prelude.{◌==◌, ◌&&◌, ◌||◌, filter, is_some, nat_lt}
use Rattle.std.proofs.lemmas.Bool.{and_from, eq-eqb, lt-ltb}
use Rattle.change_spec.specs.Serial.{after_changes, is_none_left, looks_after}
use Rattle.quiesce_laws.specs.Lists.{In}
use Rattle.quiesce_laws.proofs.TurningLaws.{IsLivePort}
use Rattle.quiesce_word.specs.Phases.{is_idle}
use Rattle.node_turn_laws.proofs.PostedLaws.{posted_behind_change, posted_behind_round, round_reaches}
use Rattle.node_turn_laws.specs.Posted.{ArePosted}
use Rattle.quiesce_core.proofs.AlterLaws.{reconfigured}
use Rattle.quiesce_core.proofs.LegalLaws.{allowed}
use Rattle.quiesce_core.specs.Alters.{Reconfigures}
use Rattle.quiesce_core.specs.Legal.{Legal}
use Rattle.quiesce_core.specs.Rules.{is_live_port}
use Rattle.quiesce_core.specs.State.{Configuration, State, exchange, gate, is_live, owner}
use Rattle.quiesce_core.specs.declared.event.Event.{Event}
use Rattle.quiesce_core.specs.declared.event.Event.TheVariants.{Close, Make}
use Rattle.quiesce_core.specs.declared.state.Gate.{Gate}
use Rattle.quiesce_laws.specs.Drained.{is_drained}
use Rattle.node_turn_laws.specs.Reached.{IsReached}
use Rattle.node_turn_laws.specs.Round.{after_rounds}
use Rattle.node_turn_laws.specs.World.{World, with_event}

-- ---- looks

filter_in : (f : ℕ → Bool) (xs : List ℕ) (x : ℕ) → In (filter f xs) x → In xs x
filter_in f [] x h = h
filter_in f (y ∷ xs) x h = by (f y) (filter_in f xs x) h
  where
    by : (b : Bool) → (In (filter f xs) x → In xs x) → In (cond b (y ∷ filter f xs) (filter f xs)) x → In (y ∷ xs) x
    by true later g = ⊎_elim (λ here. inl here) (λ there. inr (later there)) g
    by false later g = inr (later g)

none_passes : (f : ℕ → Bool) (xs : List ℕ) → ((x : ℕ) → In xs x → f x ≡ false) → filter f xs ≡ []
none_passes f [] h = refl
none_passes f (x ∷ xs) h = ap (λ b. cond b (x ∷ filter f xs) (filter f xs)) (h x (inl refl)) ∙ none_passes f xs (λ y i. h y (inr i))

pub left_in : (w : World) (ports : List ℕ) (j p : ℕ) → In (looks_after w ports j).left p → In ports p
left_in w ports zero p h = filter_in (λ q. not (is_drained w.machine q)) ports p h
left_in w ports (suc j) p h = left_in w ports j p (filter_in (λ q. not (is_drained (after_rounds false w (suc j)).machine q)) (looks_after w ports j).left p h)

pub none_left_if : (w : World) (ports : List ℕ) (j : ℕ) → ((p : ℕ) → In ports p → is_drained (after_rounds false w j).machine p ≡ true) → is_none_left w ports j ≡ true
none_left_if w ports zero h = ap (λ xs. length xs == 0) (none_passes (λ q. not (is_drained w.machine q)) ports (λ p i. ap not (h p i)))
none_left_if w ports (suc j) h =
    ap (λ xs. length xs == 0)
    (none_passes (λ q. not (is_drained (after_rounds false w (suc j)).machine q)) (looks_after w ports j).left (λ p i. ap not (h p (left_in w ports j p i))))

pub drained_if : (s : State) (p : ℕ) → (gate s.config p).closed ≡ true → is_idle (exchange s p).phase ≡ true → is_drained s p ≡ true
drained_if s p closed idle = λ i. closed i && (idle i || is_some (exchange s p).within)

-- ---- rounds

pub record Rounds (allowed : Bool) (w : World) (j : ℕ) : Type 0 where
  pub reached : IsReached (after_rounds allowed w j)
  pub config : (after_rounds allowed w j).machine.config ≡ w.machine.config

pub rounds_reach : (allowed : Bool) (w : World) (j : ℕ) → IsReached w → Rounds allowed w j
rounds_reach allowed w zero r = record { reached = r; config = refl }
rounds_reach allowed w (suc j) r =
    let so_far = rounds_reach allowed w j r in
    let next = round_reaches (after_rounds allowed w j) allowed so_far.reached in
    record { reached = next.0; config = next.1 ∙ so_far.config }

pub rounds_post : (allowed : Bool) (w : World) (j : ℕ) → IsReached w → ArePosted w → ArePosted (after_rounds allowed w j)
rounds_post allowed w zero r h = h
rounds_post allowed w (suc j) r h = posted_behind_round (after_rounds allowed w j) allowed (rounds_reach allowed w j r).reached

-- ---- the change's events

event_posts : (w : World) (e : Event) → ArePosted w → ArePosted (with_event w e)
event_posts w (Make n node from) h = posted_behind_change w (Make n node from) refl h
event_posts w _ h = h

pub changes_post : (w : World) (es : List Event) → ArePosted w → ArePosted (after_changes w es)
changes_post w [] h = h
changes_post w (e ∷ es) h = changes_post (with_event w e) es (event_posts w e h)

module _ (w : World) (q : ℕ) (live : is_live_port w.machine.config q ≡ true) where
  legal_so : Legal w.machine (Close q)
  legal_so = record { live = live }

  abbrev next_ : World
  next_ = with_event w (Close q)

  made : Reconfigures w.machine.config (Close q) next_.machine.config
  made = reconfigured w.machine (Close q) legal_so

  pub close_reaches : IsReached w → IsReached next_
  close_reaches r = IsReached.by_change w (Close q) r refl (allowed w.machine (Close q) legal_so)

  owner_kept : (b : Bool) (g : Gate) → (cond b (record g { closed = true }) g).owner ≡ g.owner
  owner_kept true g = refl
  owner_kept false g = refl

  pub still_live : (p : ℕ) → IsLivePort w.machine.config p → IsLivePort next_.machine.config p
  still_live p h =
      let low = h.made in
      let ports = made.ports in
      record {
        made = omega (arith, low, ports);
        live = ap (is_live w.machine.config) (ap (λ (g : Gate). g.owner) (made.gates p) ∙ owner_kept (q == p) (gate w.machine.config p)) ∙ h.live;
      }

  closed_kept : (b : Bool) (g : Gate) → g.closed ≡ true → (cond b (record g { closed = true }) g).closed ≡ true
  closed_kept true g h = refl
  closed_kept false g h = h

  pub still_closed : (p : ℕ) → (gate w.machine.config p).closed ≡ true → (gate next_.machine.config p).closed ≡ true
  still_closed p h = ap (λ (g : Gate). g.closed) (made.gates p) ∙ closed_kept (q == p) (gate w.machine.config p) h

  pub closed_now : (gate next_.machine.config q).closed ≡ true
  closed_now = ap (λ (g : Gate). g.closed) (made.gates q) ∙ ap (λ b. (cond b (record (gate w.machine.config q) { closed = true }) (gate w.machine.config q)).closed) (eq-eqb q q refl)

pub live_by : (c : Configuration) (p : ℕ) → IsLivePort c p → is_live_port c p ≡ true
live_by c p h = and_from (nat_lt p (length c.gates)) (is_live c (owner c p)) (lt-ltb p (length c.gates) h.made) h.live

-- all of these are closed
pub record Closed (w : World) (ports : List ℕ) : Type 0 where
  pub reached : IsReached (after_changes w (map Close ports))
  pub shut : (p : ℕ) → In ports p → (gate (after_changes w (map Close ports)).machine.config p).closed ≡ true
  pub kept : (p : ℕ) → (gate w.machine.config p).closed ≡ true → (gate (after_changes w (map Close ports)).machine.config p).closed ≡ true

pub closes : (w : World) (ports : List ℕ) → IsReached w → ((p : ℕ) → In ports p → IsLivePort w.machine.config p) → Closed w ports
closes w [] r live = record { reached = r; shut = λ p i. absurd i; kept = λ p h. h }
closes w (q ∷ ports) r live =
    let alive = live_by w.machine.config q (live q (inl refl)) in
    let v = with_event w (Close q) in
    let later = closes v ports (close_reaches w q alive r) (λ p i. still_live w q alive p (live p (inr i))) in
    record {
      reached = later.reached;
      shut = λ p i. ⊎_elim
          (λ (here : q ≡ p). later.kept p (ap (λ k. (gate v.machine.config k).closed) (sym here) ∙ closed_now w q alive))
          (λ (there : In ports p). later.shut p there)
          i;
      kept = λ p h. later.kept p (still_closed w q alive p h);
    }
