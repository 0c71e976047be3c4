-- On a way no root is begun at a port at which services call, and whether they call there stays as it is.
use Rattle.std.proofs.Common.{◌≡◌, ◌∙◌, ℕ, zero, suc, ◌<◌, true, false, List, [], ◌∷◌, length, None, refl, sym, ap, subst, ⊎_elim, arith}
use Rattle.std.specs.Prelude.{is_none, fold}
use Rattle.std.specs.List.{cons_option, list_any}
use Rattle.std.proofs.lemmas.Bool.{and_parts, both_ways, or_cases, or_parts}
use Rattle.base.proofs.OptionLaws.{None-from_is_none}
use Rattle.quiesce_core.specs.declared.event.Event.{Event}
use Rattle.quiesce_core.specs.declared.event.Event.TheVariants as event
use Rattle.quiesce_core.specs.Rules.{denial}
use Rattle.quiesce_core.specs.State.{Configuration, State}
use Rattle.quiesce_core.proofs.LegalLaws.{legal}
use Rattle.quiesce_core.proofs.RunLaws.{runs_are_consistent, runs_are_well_formed}
use Rattle.quiesce_core.proofs.TableLaws.{gate_place}
use Rattle.quiesce_laws.specs.Configurations.{Extends}
use Rattle.quiesce_laws.specs.Events.{is_root_of}
use Rattle.quiesce_laws.proofs.ExtensionLaws.{extends_next}
use Rattle.report_types.specs.declared.report.HistoryLine.{HistoryLine}
use Rattle.report_types.specs.declared.report.HistoryLine.TheVariants as to
use Rattle.change_spec.specs.Members.{Member, events}
use Rattle.merge_laws.specs.Guarded.{Left, all_left, can_go, go, is_beyond, is_called_at, is_met, may_go, may_tell, told, told_state, waits}
use Rattle.merge_laws.specs.Merges.{HasRootsApart}
use Rattle.merge_laws.specs.Ways.{first_event, first_of, members_of, of_line}
use Rattle.merge_laws.proofs.GoingLemmas.{Sound, does_of, done_is, go_keeps, tells_of, told_is}
use Rattle.merge_laws.proofs.GuideLemmas.{called_grows}
use Rattle.merge_laws.proofs.OpenRootLemmas.{state_along}
use Rattle.merge_laws.proofs.RootPortLemmas.{root_is_begin}

-- each step extends the configuration
extends_itself : (c : Configuration) → Extends c c
extends_itself c = record {
  nodes = λ n m is. record { now = m; there = is; same_node = refl; same_port = refl };
  owners = λ q low. refl;
  requirements = λ q low. refl;
  many = omega arith;
}

line_extends : (s : State) (rest : List HistoryLine) (l : HistoryLine) → may_tell s rest l ≡ true → Extends s.config (told_state s l).config
line_extends s rest l t = by l t
  where
    allowed : (x : Event) → is_none (denial s x) ≡ true → denial s x ≡ None
    allowed x a = None-from_is_none (denial s x) a

    by : (l : HistoryLine) → may_tell s rest l ≡ true → Extends s.config (told_state s l).config
    by (to.Close p) t =
        let both = and_parts (is_none (denial s (event.Close p))) (is_met s p (told p rest)) t in
        extends_next s (event.Close p) (legal s (event.Close p) (allowed (event.Close p) both.0))
    by (to.Reopen p) t = extends_next s (event.Reopen p) (legal s (event.Reopen p) (allowed (event.Reopen p) t))
    by (to.Make k node from) t = extends_next s (event.Make k node from) (legal s (event.Make k node from) (allowed (event.Make k node from) t))
    by (to.Link p k x) t = extends_next s (event.Link p k x) (legal s (event.Link p k x) (allowed (event.Link p k x) t))
    by (to.Unlink p) t = extends_next s (event.Unlink p) (legal s (event.Unlink p) (allowed (event.Unlink p) t))
    by (to.Remove k) t = extends_next s (event.Remove k) (legal s (event.Remove k) (allowed (event.Remove k) t))
    by _ t = extends_itself s.config

step_extends : (x : Left) (c : ℕ) → may_go x c ≡ true → Extends x.state.config (go x c).state.config
step_extends x zero m =
    let t = tells_of x m in subst (λ (y : Left). Extends x.state.config y.state.config) (sym (told_is x t)) (line_extends x.state t.rest t.line t.may)
step_extends x (suc n) m =
    let d = does_of x n m in
    subst (λ (y : Left). Extends x.state.config y.state.config) (sym (done_is x n d)) (extends_next x.state d.event (legal x.state d.event d.may.allowed))

called_along : (cs : List ℕ) (x : Left) (p : ℕ) → Sound x.state → can_go x cs ≡ true → p < length x.state.config.gates
    → is_called_at (fold go x cs).state.config p ≡ is_called_at x.state.config p
called_along [] x p h can made = refl
called_along (c ∷ cs) x p h can made =
    let w = and_parts (may_go x c) (can_go (go x c) cs) can in
    let grown = step_extends x c w.0 in
    called_along cs (go x c) p (go_keeps x c h w.0) w.1 (omega (arith, made, grown.many))
    ∙ called_grows x.state.config (go x c).state.config h.formed.sound grown p made

-- a line begins nothing
line_no_root : (p k : ℕ) (l : HistoryLine) (m : List Member) → list_any (is_root_of p k) (events (cons_option (of_line l) m)) ≡ list_any (is_root_of p k) (events m)
line_no_root p k (to.Close q) m = refl
line_no_root p k (to.Reopen q) m = refl
line_no_root p k (to.Make i node from) m = refl
line_no_root p k (to.Link q i x) m = refl
line_no_root p k (to.Unlink q) m = refl
line_no_root p k (to.Remove i) m = refl
line_no_root p k _ m = refl

roots_apart : (cs : List ℕ) (x : Left) (p k : ℕ) → Sound x.state → can_go x cs ≡ true → list_any (is_root_of p k) (events (members_of x cs)) ≡ true
    → is_called_at (fold go x cs).state.config p ≡ false
roots_apart [] x p k h can any = absurd (both_ways false refl any)
roots_apart (zero ∷ cs) x p k h can any =
    let w = and_parts (may_go x 0) (can_go (go x 0) cs) can in
    let t = tells_of x w.0 in
    let rest = members_of (go x 0) cs in
    roots_apart cs (go x 0) p k (go_keeps x 0 h w.0) w.1
    (sym (line_no_root p k t.line rest) ∙ sym (ap (λ o. list_any (is_root_of p k) (events (cons_option o rest))) (ap first_of t.are)) ∙ any)
roots_apart (suc n ∷ cs) x p k h can any =
    let w = and_parts (may_go x (suc n)) (can_go (go x (suc n)) cs) can in
    let d = does_of x n w.0 in
    let rest = members_of (go x (suc n)) cs in
    ⊎_elim
    (λ (begun : is_root_of p k d.event ≡ true).
    let b = root_is_begin p k d.event begun in
    let free : waits x.state x.lines (event.Begin p k b.0) ≡ false = subst (λ e. waits x.state x.lines e ≡ false) b.1 d.may.free in
    let l = legal x.state (event.Begin p k b.0) (subst (λ e. denial x.state e ≡ None) b.1 d.may.allowed) in
    called_along (suc n ∷ cs) x p h can (gate_place x.state p l.live)
    ∙ (or_parts (is_called_at x.state.config p) (is_beyond k (told p x.lines)) free).0)
    (λ (later : list_any (is_root_of p k) (events rest) ≡ true). roots_apart cs (go x (suc n)) p k (go_keeps x (suc n) h w.0) w.1 later)
    (or_cases (is_root_of p k d.event) (list_any (is_root_of p k) (events rest))
    (sym (ap (λ o. list_any (is_root_of p k) (events (cons_option o rest))) (ap first_event d.are)) ∙ any))

pub ways_keep_roots_apart : (history : List HistoryLine) (logs : List (List Event)) (cs : List ℕ) → can_go (all_left history logs) cs ≡ true
    → HasRootsApart (members_of (all_left history logs) cs)
ways_keep_roots_apart history logs cs can p k any =
    ap (λ (s : State). is_called_at s.config p) (state_along cs (all_left history logs) can)
    ∙ roots_apart cs (all_left history logs) p k (record { formed = runs_are_well_formed [] tt; consistent = runs_are_consistent [] tt }) can any
