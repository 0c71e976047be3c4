-- Along a run: as many events of what was open have happened at most as then is left less.
use Rattle.std.proofs.Common.{◌≡◌, ℕ, ◌+◌, ◌<◌, ◌≤◌, true, false, cond, List, [], ◌∷◌, ◌++◌, append_assoc, length, Some, None, sym, ap, ◌∙◌, subst, arith}
use Rattle.std.specs.Prelude.{◌==◌, count_by, option_map}
use Rattle.std.specs.List.{list_any}
use Rattle.std.proofs.lemmas.Bool.{and_parts, both_ways, eq-eqb, eqb-true, false_from_ne_true}
use Rattle.std.proofs.lemmas.List.{append-nil}
use Rattle.std.proofs.lemmas.List.Sums.{sum_by_push}
use Rattle.quiesce_core.specs.declared.event.Event.{Event}
use Rattle.config_graph.specs.declared.node.Target.{Target}
use Rattle.quiesce_core.specs.declared.event.Event.TheVariants.{Begin, Call}
use Rattle.quiesce_core.specs.declared.state.Exchange.{Exchange}
use Rattle.quiesce_word.specs.declared.phase.Phase.TheVariants as phase
use Rattle.quiesce_core.specs.declared.state.Service.{Service}
use Rattle.quiesce_core.specs.State.{State, owner, target, exchange, service}
use Rattle.base.specs.Each.{EachAfter}
use Rattle.quiesce_core.specs.Effect.{with_call, effect}
use Rattle.quiesce_core.specs.Legal.{Legal}
use Rattle.quiesce_core.specs.Rest.{full, rest}
use Rattle.quiesce_core.specs.Runs.{IsRun, state_after}
use Rattle.quiesce_core.specs.Traffic.{IsConsistent}
use Rattle.quiesce_core.specs.WellFormed.{IsWellFormed}
use Rattle.quiesce_core.proofs.LegalLaws.{legal}
use Rattle.quiesce_core.proofs.RunLaws.{runs_are_well_formed, runs_are_consistent, StepAt, run_parts}
use Rattle.quiesce_core.proofs.SoundnessLaws.{well_formed_next}
use Rattle.quiesce_core.proofs.TrafficLaws.{consistent_next}
use Rattle.quiesce_laws.specs.Advances.{is_advance, is_begin}
use Rattle.quiesce_laws.specs.Belongs.{Transactions, Belongs, member, consequent, belongs, singleton, open_in}
use Rattle.quiesce_laws.specs.Drain.{rest_at, rest_of, count_of}
use Rattle.quiesce_laws.proofs.Belonging.{belongs_if, member_belongs, open_parts}
use Rattle.quiesce_laws.proofs.Carrying.{HasCome, none_starts}
use Rattle.quiesce_laws.proofs.ExchangeLaws.{serials_grow}
use Rattle.quiesce_core.proofs.InductionLaws.{further, place}
use Rattle.quiesce_laws.proofs.Falls.{begin_rises, call_calls, call_moves}
use Rattle.quiesce_laws.proofs.Sharing.{part_le, part_of_port}
use Rattle.quiesce_core.proofs.StateLaws.{exchange_here}
use Rattle.quiesce_core.proofs.TableLaws.{exchange_place}
use Rattle.quiesce_laws.proofs.Emptiness.{none_belongs}
use Rattle.quiesce_laws.proofs.Portions.{part_next, part_of_all}
use Rattle.quiesce_laws.proofs.Steps.{rest_next}

bound_from : (set : Transactions) (before es : List Event) → EachAfter StepAt before es → IsWellFormed (state_after before) → IsConsistent (state_after before) → HasCome set (state_after before)
    → count_of set (state_after before) es + rest_of set (state_after (before ++ es)) ≤ rest_of set (state_after before)
bound_from set before [] h w c come = subst (λ xs. 0 + rest_of set (state_after xs) ≤ rest_of set (state_after before)) (sym (append-nil before)) (omega arith)
bound_from set before (e ∷ es) h w c come =
    let l : Legal (state_after before) e = legal (state_after before) e h.0.allowed in
    let here = part_next set (state_after before) e w c l (none_starts set (state_after before) e come l) in
    let later : count_of set (state_after (before ++ e ∷ [])) es + rest_of set (state_after (before ++ e ∷ es)) ≤ rest_of set (state_after (before ++ e ∷ [])) =
    subst (λ xs. count_of set (state_after (before ++ e ∷ [])) es + rest_of set (state_after xs) ≤ rest_of set (state_after (before ++ e ∷ []))) (append_assoc before (e ∷ []) es)
    (bound_from set (before ++ e ∷ []) es h.1
    (subst (λ x. IsWellFormed x) (sym h.0.changed) (well_formed_next (state_after before) e w l))
    (subst (λ x. IsConsistent x) (sym h.0.changed) (consistent_next (state_after before) e w c l))
    (subst (λ x. HasCome set x) (sym h.0.changed) (record { come = λ q j is. omega (arith, come.come q j is, serials_grow (state_after before) e w c l q) }))) in
    let next : count_of set (effect (state_after before) e) es + rest_of set (state_after (before ++ e ∷ es)) ≤ rest_of set (effect (state_after before) e) =
    subst (λ x. count_of set x es + rest_of set (state_after (before ++ e ∷ es)) ≤ rest_of set x) h.0.changed later in
    omega (arith, here, next)

pub bound_left : (es more_ : List Event) → IsRun (es ++ more_)
    → count_of (open_in (state_after es)) (state_after es) more_ + rest_of (open_in (state_after es)) (state_after (es ++ more_)) ≤ rest (state_after es)
bound_left es more_ run =
    let parts = run_parts es more_ run in
    let within = bound_from (open_in (state_after es)) es more_ parts.1 (runs_are_well_formed es parts.0) (runs_are_consistent es parts.0)
    (record { come = λ q j is. omega (arith, (open_parts (state_after es) q j is).1) }) in
    omega (arith, within, part_of_all (open_in (state_after es)) (state_after es))

-- From the state after a run on, the events of what is open there are no more than is left.
pub bound : (es more_ : List Event) → IsRun (es ++ more_) → count_of (open_in (state_after es)) (state_after es) more_ ≤ rest (state_after es)
bound es more_ run = omega (arith, bound_left es more_ run)

-- where they are as many, what was open has ended
pub bound_ends : (es more_ : List Event) → IsRun (es ++ more_) → count_of (open_in (state_after es)) (state_after es) more_ ≡ rest (state_after es)
    → (p k : ℕ) → open_in (state_after es) p k ≡ true → open_in (state_after (es ++ more_)) p k ≡ false
bound_ends es more_ run all p k before =
    let none_ : rest_of (open_in (state_after es)) (state_after (es ++ more_)) ≡ 0 = omega (arith, bound_left es more_ run, all) in
    false_from_ne_true (open_in (state_after (es ++ more_)) p k) (λ after.
    let at = open_parts (state_after (es ++ more_)) p k after in
    both_ways (belongs (open_in (state_after es)) (state_after (es ++ more_)) p)
    (none_belongs (open_in (state_after es)) (state_after (es ++ more_)) (runs_are_well_formed (es ++ more_) run) (runs_are_consistent (es ++ more_) run) none_ p at.0)
    (member_belongs (open_in (state_after es)) (state_after (es ++ more_)) p (ap (λ i. open_in (state_after es) p i) at.1 ∙ before)))

-- where nothing is begun, all events of transactions are counted
pub bound_all_left : (es more_ : List Event) → IsRun (es ++ more_) → list_any is_begin more_ ≡ false → count_by is_advance more_ + rest (state_after (es ++ more_)) ≤ rest (state_after es)
bound_all_left es more_ run no_begin =
    further es (λ xs. count_by is_advance xs + rest (state_after (es ++ xs)) ≤ rest (state_after es)) is_begin
    (λ xs e here free so_far.
    let s = state_after (es ++ xs) in
    let now : rest (state_after (es ++ (xs ++ e ∷ []))) ≡ rest (effect s e) = ap (λ ys. rest (state_after ys)) (sym (append_assoc es xs (e ∷ []))) ∙ ap (λ t. rest t) here.next in
    omega (arith, so_far, now, rest_next s e here.well here.traffic here.legal free, sum_by_push (λ x. cond (is_advance x) 1 0) xs e))
    more_ run no_begin (omega (arith, ap (λ ys. rest (state_after ys)) (append-nil es)))

pub bound_all : (es more_ : List Event) → IsRun (es ++ more_) → list_any is_begin more_ ≡ false → count_by is_advance more_ ≤ rest (state_after es)
bound_all es more_ run no_begin = omega (arith, bound_all_left es more_ run no_begin)

-- One transaction, from its begin or call on

-- what belongs to it then is the transaction alone
only_itself : (s : State) (p k : ℕ) → IsConsistent s → ((m : ℕ) (v : Service) → service s m ≡ Some v → v.port ≡ p → ⊥) → (q : ℕ) → Belongs (singleton p k) s q → q ≡ p
only_itself s p k c unserved x (member q is) = eqb-true q p (and_parts (q == p) ((exchange s q).serial == k) is).0
only_itself s p k c unserved x (consequent q r e b) =
    let at = c.consequent q r e in absurd (unserved (owner s.config q) at.serving at.serviced (at.of_port ∙ only_itself s p k c unserved r b))

itself_left : (s : State) (p k : ℕ) → IsConsistent s → p < length s.config.gates → ((m : ℕ) (v : Service) → service s m ≡ Some v → v.port ≡ p → ⊥) → rest_of (singleton p k) s ≤ rest_at s p
itself_left s p k c made unserved =
    let less = part_le s (belongs (singleton p k) s) (λ q. q == p) (λ q busy on. eq-eqb q p (only_itself s p k c unserved q (belongs_if (singleton p k) s q on))) in
    omega (arith, less, part_of_port s p made)

-- what is left of it just after, and what has happened of it since
bound_since : (es more_ : List Event) (e : Event) (p k n : ℕ) → IsRun (es ++ e ∷ more_) → (exchange (effect (state_after es) e) p).serial ≡ k → rest_of (singleton p k) (effect (state_after es) e) ≤ n
    → count_of (singleton p k) (state_after (es ++ e ∷ [])) more_ ≤ n
bound_since es more_ e p k n run serial few =
    let here = place es more_ e run in
    let parts = run_parts (es ++ e ∷ []) more_ (subst (λ xs. IsRun xs) (sym (append_assoc es (e ∷ []) more_)) run) in
    let within = bound_from (singleton p k) (es ++ e ∷ []) more_ parts.1 (runs_are_well_formed (es ++ e ∷ []) parts.0) (runs_are_consistent (es ++ e ∷ []) parts.0) (record {
      come = λ q j is.
          let both = and_parts (q == p) (j == k) is in
          let same : (exchange (state_after (es ++ e ∷ [])) q).serial ≡ k = ap (λ i. (exchange (state_after (es ++ e ∷ [])) i).serial) (eqb-true q p both.0) ∙ ap (λ s. (exchange s p).serial) here.next ∙ serial in
          omega (arith, same, eqb-true j k both.1);
    }) in
    omega (arith, within, few, ap (λ s. rest_of (singleton p k) s) here.next)

pub bound_begun : (es more_ : List Event) (p k v : ℕ) (to : Target) → IsRun (es ++ Begin p k v ∷ more_) → target (state_after es).config p ≡ Some to
    → count_of (singleton p k) (state_after (es ++ Begin p k v ∷ [])) more_ ≤ full (state_after es).config to.node to.provide
bound_begun es more_ p k v to run leads =
    let here = place es more_ (Begin p k v) run in
    let s = state_after es in
    let r = begin_rises s p k v here.well here.traffic here.legal in
    let same : r.to ≡ to = cc (r.leads, leads) in
    let amount : full s.config r.to.node r.to.provide ≡ full s.config to.node to.provide = ap (λ (t : Target). full s.config t.node t.provide) same in
    let few = itself_left (effect s (Begin p k v)) p k (consistent_next s (Begin p k v) here.well here.traffic here.legal) r.made r.unserved in
    bound_since es more_ (Begin p k v) p k (full s.config to.node to.provide) run
    (ap (λ (x : Exchange). x.serial) (exchange_here s p (record { phase = phase.Asked; serial = k; value = v; within = None }) (exchange_place s p here.well here.legal.live)))
    (omega (arith, few, r.after, amount))

pub bound_called : (es more_ : List Event) (p k v : ℕ) (to : Target) → IsRun (es ++ Call p k v ∷ more_) → target (state_after es).config p ≡ Some to
    → count_of (singleton p k) (state_after (es ++ Call p k v ∷ [])) more_ ≤ full (state_after es).config to.node to.provide
bound_called es more_ p k v to run leads =
    let here = place es more_ (Call p k v) run in
    let s = state_after es in
    let m = call_moves s p k v here.well here.traffic here.legal (call_calls s p k v here.well here.traffic here.legal) in
    let same : m.to ≡ to = cc (m.leads, leads) in
    let amount : full s.config m.to.node m.to.provide ≡ full s.config to.node to.provide = ap (λ (t : Target). full s.config t.node t.provide) same in
    let few = itself_left (effect s (Call p k v)) p k (consistent_next s (Call p k v) here.well here.traffic here.legal) m.made m.unserved in
    bound_since es more_ (Call p k v) p k (full s.config to.node to.provide) run
    (ap (λ (x : Exchange). x.serial)
    (exchange_here (with_call s (owner s.config p)) p (record { phase = phase.Asked; serial = k; value = v; within = option_map (λ (w : Service). w.port) (service s (owner s.config p)) })
    (exchange_place s p here.well here.legal.live)))
    (omega (arith, few, m.here, amount))
