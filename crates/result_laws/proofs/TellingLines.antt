-- The lines of a history that follows a script: what a script gives of them, and what the events of the change give.
use Rattle.std.proofs.Common.{◌≡◌, ◌∙◌, ℕ, ℤ, ◌+◌, ◌<◌, Bool, true, false, cond, List, [], ◌∷◌, ◌++◌, length, map, Option, Some, None, inl, inr, refl, sym, ap, subst, arith}
use Rattle.std.specs.Prelude.{⊤, ◌⊎◌, ◌==◌, IfSome, filter_map, option_map, unwrap_or}
use Rattle.std.specs.List.{AllByRecursion, cons_option, count_by, enumerate_from, list_any, range_with_len}
use Rattle.std.proofs.lemmas.Bool.{cases_Bool, eqb-true, eq-eqb}
use Rattle.std.proofs.lemmas.List.Sums.{sum_by-cons}
use Rattle.base.specs.Each.{EachAfter}
use Rattle.config_graph.specs.Graph.{Graph, ports, target_of}
use Rattle.config_graph.specs.declared.kind.Kind.TheVariants.{Fork}
use Rattle.config_graph.specs.declared.node.Node.{Node}
use Rattle.config_graph.specs.declared.node.Port.{Port}
use Rattle.config_graph.specs.declared.node.Target.{Target}
use Rattle.change_plan.specs.Differences.{IsGone}
use Rattle.change_plan.specs.Plans.{IsPlanOf}
use Rattle.change_plan.specs.declared.plan_data.Move.{Move}
use Rattle.change_plan.specs.declared.plan_data.Plan.{Plan}
use Rattle.change_plan.proofs.SelectsLaws.{Selects-only}
use Rattle.change_plan_laws.specs.Commit.{commit_events, makes_from, new_links, node_at, ports_to_close, reopened_ports, work}
use Rattle.quiesce_laws.specs.Steps.{change_all, live_ports}
use Rattle.quiesce_laws.specs.Work as work_
use Rattle.quiesce_core.specs.declared.event.Event.{Event}
use Rattle.quiesce_core.specs.declared.event.Event.TheVariants as events
use Rattle.quiesce_core.specs.State.{Configuration}
use Rattle.quiesce_laws.specs.Starts.{link_of, make_of, reopen_of, start_of}
use Rattle.report_types.specs.declared.report.HistoryLine.{HistoryLine}
use Rattle.report_types.specs.declared.report.HistoryLine.TheVariants as to
use Rattle.change_script.specs.Written.{IsNumber}
use Rattle.report_texts.specs.ReportTexts.{IsWord}
use Rattle.change_spec.specs.Changes.{IsChange, IsCommitted, IsGivenUp, commit_lines, drained_lines, opening_lines, pending_lines, seen_in_all}
use Rattle.change_spec.specs.Follows.{Follows, IsRight, IsStop, Part, lines_of}
use Rattle.change_spec.specs.Members as members
use Rattle.change_spec.specs.Members.{Member, by_node, of_history, event_of, is_pending, line_of, lines_of_events}
use Rattle.change_spec.specs.Scene.{AreSeen, Seen, config_after, drained_line, root_line}
use Rattle.change_spec.proofs.PortLaws.{config_more, still_to_close}
use Rattle.change_round_laws.proofs.LineLaws.{changes_of_closes}
use Rattle.change_spec.specs.Statements.{Statement, start, change, run, finish, show}
use Rattle.result_laws.specs.Telling.{AreStated, HasWords, IsCall, IsStated}
use Rattle.result_laws.proofs.NumberLemmas.{HasNumbers}
use Rattle.base.proofs.ListLaws.{AllByRecursion-append}
use Rattle.base.proofs.AllLaws.{all_split, all_mapped, all_onto, all_of_map, all_chosen, all_at, all_follow, all_by_recursion}
use Rattle.base.proofs.CountLaws.{more_counted}

all_counted : (seen : List Seen) → AllByRecursion (λ (d : Seen). 0 < count_by (λ (x : Seen). x.port == d.port) seen) seen
all_counted [] = tt
all_counted (d ∷ seen) = (
  (let one : ◌≡◌ {A = ℕ} (cond (d.port == d.port) 1 0) 1 = ap (λ b. cond b 1 0) (eq-eqb d.port d.port refl) in
      omega (arith, one, sum_by-cons (λ (x : Seen). cond (x.port == d.port) 1 0) d seen)),
  all_follow (λ (e : Seen). 0 < count_by (λ (x : Seen). x.port == e.port) seen) (λ (e : Seen). 0 < count_by (λ (x : Seen). x.port == e.port) (d ∷ seen))
      (λ e some. more_counted (λ (x : Seen). x.port == e.port) d seen some) seen (all_counted seen),
)

counted_has : (P : ℕ → Type 0) (p : ℕ) (ports : List ℕ) → AllByRecursion P ports → 0 < count_by (λ q. q == p) ports → P p
counted_has P p [] all some = absurd (omega (arith, some))
counted_has P p (q ∷ ports) all some = by (q == p) refl (counted_has P p ports all.1)
  where
    by : (b : Bool) → (q == p) ≡ b → (0 < count_by (λ q. q == p) ports → P p) → P p
    by true is rest = subst P (eqb-true q p is) all.0
    by false is rest =
        let none : ◌≡◌ {A = ℕ} (cond (q == p) 1 0) 0 = ap (λ b. cond b 1 0) is in
        rest (omega (arith, some, none, sum_by-cons (λ q. cond (q == p) 1 0) q ports))

-- what all ports have that were to be seen, the ports have that were seen
seen_have : (P : ℕ → Type 0) (ports : List ℕ) (seen : List Seen) → AreSeen ports seen → AllByRecursion P ports → AllByRecursion (λ (d : Seen). P d.port) seen
seen_have P ports seen are all =
    all_follow (λ (d : Seen). 0 < count_by (λ (x : Seen). x.port == d.port) seen) (λ (d : Seen). P d.port)
    (λ d some. counted_has P d.port ports all (let same = are d.port in omega (arith, some, same))) seen (all_counted seen)

-- ---- what the change's events give

abbrev pub HasEventNumbers : HistoryLine → Type 0
HasEventNumbers l = IfSome (event_of l) HasNumbers

told_numbers : (m : List Member) → AllByRecursion HasNumbers (members.events m) → AllByRecursion HasNumbers (filter_map event_of (members.lines m))
told_numbers [] all = tt
told_numbers (by_node e ∷ m) all = told_numbers m all.1
told_numbers (of_history l ∷ m) all = by (event_of l) all (told_numbers m)
  where
    by : (o : Option Event) → AllByRecursion HasNumbers (cons_option o (members.events m)) → (AllByRecursion HasNumbers (members.events m) → AllByRecursion HasNumbers (filter_map event_of (members.lines m)))
        → AllByRecursion HasNumbers (cons_option o (filter_map event_of (members.lines m)))
    by None all rest = rest all
    by (Some e) all rest = (all.0, rest all.1)

line_numbers : (history : List HistoryLine) → AllByRecursion HasNumbers (filter_map event_of history) → AllByRecursion HasEventNumbers history
line_numbers [] all = tt
line_numbers (l ∷ history) all = by (event_of l) all (line_numbers history)
  where
    by : (o : Option Event) → AllByRecursion HasNumbers (cons_option o (filter_map event_of history)) → (AllByRecursion HasNumbers (filter_map event_of history) → AllByRecursion HasEventNumbers history)
        → IfSome o HasNumbers × AllByRecursion HasEventNumbers history
    by None all rest = (tt, rest all)
    by (Some e) all rest = (all.0, rest all.1)

pub history_numbers : (m : List Member) (history : List HistoryLine) → filter_map event_of (members.lines m) ≡ filter_map event_of history → AllByRecursion HasNumbers (members.events m) → AllByRecursion HasEventNumbers history
history_numbers m history same all = line_numbers history (subst (AllByRecursion HasNumbers) same (told_numbers m all))

-- ---- what the script gives

abbrev pub IsSaid : HistoryLine → Type 0
IsSaid (to.Start name args) = IsCall name args
IsSaid (to.Change name args) = IsCall name args
IsSaid (to.Make slot node from) = IsWord node.path
IsSaid (to.Drained p k) = IsNumber p
IsSaid (to.Root p k) = IsNumber p
IsSaid (to.Pending rounds) = IsNumber rounds
IsSaid (to.Run k done) = IsNumber k
IsSaid (to.Finish n rounds) = IsNumber n
IsSaid _ = ⊤

abbrev pub MakesWord : Event → Type 0
MakesWord (events.Make n node from) = IsWord node.path
MakesWord _ = ⊤

line_said : (e : Event) (ls : List HistoryLine) → MakesWord e → AllByRecursion IsSaid ls → AllByRecursion IsSaid (cons_option (line_of e) ls)
line_said (events.Make n node from) ls word all = (word, all)
line_said (events.Link p n x) ls word all = (tt, all)
line_said (events.Unlink p) ls word all = (tt, all)
line_said (events.Remove n) ls word all = (tt, all)
line_said (events.Close p) ls word all = (tt, all)
line_said (events.Reopen p) ls word all = (tt, all)
line_said _ ls word all = all

lines_said : (es : List Event) → AllByRecursion MakesWord es → AllByRecursion IsSaid (lines_of_events es)
lines_said [] all = tt
lines_said (e ∷ es) all = line_said e (lines_of_events es) all.0 (lines_said es all.1)

-- ---- starts

numbered_words : (k : ℕ) (nodes : List Node) → AllByRecursion (λ (n : Node). IsWord n.path) nodes → AllByRecursion MakesWord (map make_of (enumerate_from k nodes))
numbered_words k [] words = tt
numbered_words k (n ∷ nodes) words = (words.0, numbered_words (k + 1) nodes words.1)

start_makes : (g : Graph) → HasWords g → AllByRecursion MakesWord (start_of g)
start_makes g words =
    let makes = map make_of (enumerate_from 0 g.nodes) in
    let links = filter_map (link_of g) (enumerate_from 0 (ports g.nodes)) in
    AllByRecursion-append MakesWord (makes ++ links) (map reopen_of (enumerate_from 0 (ports g.nodes)))
    (AllByRecursion-append MakesWord makes links (numbered_words 0 g.nodes words) (all_chosen MakesWord (link_of g) (enumerate_from 0 (ports g.nodes)) linked))
    (all_mapped MakesWord reopen_of (enumerate_from 0 (ports g.nodes)) (λ p. tt))
  where
    linked : (p : ℕ × Port) → IfSome (link_of g p) MakesWord
    linked p = by (target_of g.links p.1.node p.1.require)
      where
        by : (o : Option Target) → IfSome (option_map (λ (t : Target). events.Link p.0 t.node t.provide) o) MakesWord
        by None = tt
        by (Some t) = tt

-- ---- commits

created_word : (new : Graph) (old : Graph) (j : ℕ) → HasWords new → IsGone new old j → IsWord (node_at new j).path
created_word new old j words gone =
    subst (λ o. IsWord (let n : Node = unwrap_or o (record { path = []; kind = Fork; arg = None }) in n).path) (sym gone.here)
    (all_at (λ (n : Node). IsWord n.path) new.nodes j gone.node words gone.here)

made_words : (old new : Graph) (plan : Plan) (c : Configuration) (k : ℕ) (js : List ℕ) → HasWords new → AllByRecursion (IsGone new old) js
    → AllByRecursion MakesWord (map work_.make_new (makes_from old new plan c k js))
made_words old new plan c k [] words all = tt
made_words old new plan c k (j ∷ js) words all = (created_word new old j words all.0, made_words old new plan c (k + 1) js words all.1)

commit_makes : (old new : Graph) (moves : List Move) (plan : Plan) (c : Configuration) → IsPlanOf old new moves plan → HasWords new → AllByRecursion MakesWord (commit_events old new plan c)
commit_makes old new moves plan c is_plan words =
    let w = work old new plan c in
    let gone = all_by_recursion (IsGone new old) plan.create (Selects-only (IsGone new old) (range_with_len 0 (length new.nodes)) plan.create is_plan.steps.create) in
    let unlinks = map events.Unlink w.unlinks in
    let removes = map events.Remove w.removes in
    let makes = map work_.make_new w.makes in
    let links = new_links new plan (change_all c (unlinks ++ (removes ++ makes))) in
    AllByRecursion-append MakesWord ((unlinks ++ (removes ++ makes)) ++ map work_.link_new links) (map events.Reopen (reopened_ports old new plan c))
    (AllByRecursion-append MakesWord (unlinks ++ (removes ++ makes)) (map work_.link_new links)
    (AllByRecursion-append MakesWord unlinks (removes ++ makes) (all_mapped MakesWord events.Unlink w.unlinks (λ p. tt))
    (AllByRecursion-append MakesWord removes makes (all_mapped MakesWord events.Remove w.removes (λ n. tt)) (made_words old new plan c (length c.slots) plan.create words gone)))
    (all_mapped MakesWord work_.link_new links (λ l. tt)))
    (all_mapped MakesWord events.Reopen (reopened_ports old new plan c) (λ p. tt))

-- ---- changes

drained_said : (seen : List Seen) → AllByRecursion (λ (d : Seen). IsNumber d.port) seen → AllByRecursion IsSaid (map drained_line seen)
drained_said seen all = all_onto IsSaid drained_line seen all

committed_said :
    (old new : Graph) (moves : List Move) (plan : Plan) (within : ℕ) (d : Configuration) (rest : List HistoryLine) → IsPlanOf old new moves plan → HasWords new → AllByRecursion IsNumber (ports_to_close old plan d)
    → IsCommitted old new plan within d rest → AllByRecursion IsSaid rest
committed_said old new moves plan within d rest is_plan words closed x =
    subst (AllByRecursion IsSaid) (sym x.are)
    (AllByRecursion-append IsSaid (drained_lines x.looks) (commit_lines old new plan d)
    (drained_said (seen_in_all x.looks) (seen_have IsNumber (ports_to_close old plan d) (seen_in_all x.looks) x.all_seen closed))
    (AllByRecursion-append IsSaid (lines_of_events (commit_events old new plan d)) (to.Commit ∷ []) (lines_said (commit_events old new plan d) (commit_makes old new moves plan d is_plan words)) (tt, tt)))

given_up_said : (closed : List ℕ) (within : ℕ) (rest : List HistoryLine) → IsNumber within → AllByRecursion IsNumber closed → IsGivenUp closed within rest → AllByRecursion IsSaid rest
given_up_said closed within rest number closes x =
    let all = all_split (λ (d : Seen). IsNumber d.port) (seen_in_all x.looks) x.left (seen_have IsNumber closed (seen_in_all x.looks ++ x.left) x.all_seen closes) in
    subst (AllByRecursion IsSaid) (sym x.are)
    (AllByRecursion-append IsSaid (drained_lines x.looks) (pending_lines within x.left closed) (drained_said (seen_in_all x.looks) all.0) (
      number,
      AllByRecursion-append IsSaid (map root_line x.left ++ map to.Reopen closed) (to.Abandon ∷ [])
          (AllByRecursion-append IsSaid (map root_line x.left) (map to.Reopen closed) (all_onto IsSaid root_line x.left all.1) (all_mapped IsSaid to.Reopen closed (λ p. tt)))
          (tt, tt),
    ))

module _ (before : List HistoryLine) (name : List ℕ) (args : List ℤ) (new : Graph) (within : ℕ) (moves : List Move) (call : IsCall name args) (words : HasWords new) (number : IsNumber within) where
  change_said : (lines : List HistoryLine) → IsChange before name args new within moves lines → AllByRecursion HasEventNumbers lines → AllByRecursion IsSaid lines
  change_said lines x all =
      let c = config_after before in
      let closes = ports_to_close x.old x.plan c in
      let opening = opening_lines name args x.old x.plan c in
      let here = all_split HasEventNumbers opening x.rest (subst (AllByRecursion HasEventNumbers) x.are all) in
      let closed : AllByRecursion IsNumber closes = all_of_map HasEventNumbers to.Close closes here.0.1 in
      let still : ports_to_close x.old x.plan (config_after (before ++ opening)) ≡ closes
      = ap (ports_to_close x.old x.plan) (config_more before opening ∙ ap (change_all c) (changes_of_closes closes)) ∙ still_to_close x.old x.plan c in
      subst (AllByRecursion IsSaid) (sym x.are)
      (AllByRecursion-append IsSaid opening x.rest (call, all_mapped IsSaid to.Close closes (λ p. tt))
      (by x still closed x.ends))
    where
      by : (x : IsChange before name args new within moves lines)
          → ports_to_close x.old x.plan (config_after (before ++ opening_lines name args x.old x.plan (config_after before))) ≡ ports_to_close x.old x.plan (config_after before)
          → AllByRecursion IsNumber (ports_to_close x.old x.plan (config_after before))
          → IsCommitted x.old new x.plan within (config_after (before ++ opening_lines name args x.old x.plan (config_after before))) x.rest
          ⊎ IsGivenUp (ports_to_close x.old x.plan (config_after before)) within x.rest → AllByRecursion IsSaid x.rest
      by x still closed (inl committed) =
          committed_said x.old new moves x.plan within (config_after (before ++ opening_lines name args x.old x.plan (config_after before))) x.rest x.is_plan words
          (subst (AllByRecursion IsNumber) (sym still) closed) committed
      by x still closed (inr given_up) = given_up_said (ports_to_close x.old x.plan (config_after before)) within x.rest number closed given_up

-- ---- statements

right_said : (before : List HistoryLine) (s : Statement) (lines : List HistoryLine) → IsRight before s lines → IsStated s → AllByRecursion HasEventNumbers lines → AllByRecursion IsSaid lines
right_said before (start name args g) lines right stated all =
    subst (AllByRecursion IsSaid) (sym right)
    (stated.0, AllByRecursion-append IsSaid (lines_of_events (start_of g)) (to.Commit ∷ []) (lines_said (start_of g) (start_makes g stated.1)) (tt, tt))
right_said before (change name args g within moves) lines right stated all = by (cases_Bool (list_any is_pending before))
  where
    by : (list_any is_pending before ≡ true) ⊎ (list_any is_pending before ≡ false) → AllByRecursion IsSaid lines
    by (inl given_up) = subst (AllByRecursion IsSaid) (sym (right.0 given_up)) (stated.0, (tt, tt))
    by (inr none) = change_said before name args g within moves stated.0 stated.1 stated.2 lines (right.1 none) all
right_said before (run k) lines right stated all = subst (AllByRecursion IsSaid) (sym right.are) (stated, tt)
right_said before (finish n) lines right stated all = subst (AllByRecursion IsSaid) (sym right.are) (stated, tt)
right_said before show lines right stated all = subst (AllByRecursion IsSaid) (sym right.are) (tt, tt)

parts_said :
    (before parts : List Part) → EachAfter (λ done (p : Part). IsRight (lines_of done) p.statement p.lines) before parts → AllByRecursion IsStated (map (λ (p : Part). p.statement) parts)
    → AllByRecursion HasEventNumbers (lines_of parts) → AllByRecursion IsSaid (lines_of parts)
parts_said before [] right stated all = tt
parts_said before (p ∷ parts) right stated all =
    let here = all_split HasEventNumbers p.lines (lines_of parts) all in
    AllByRecursion-append IsSaid p.lines (lines_of parts) (right_said (lines_of before) p.statement p.lines right.0 stated.0 here.0)
    (parts_said (before ++ p ∷ []) parts right.1 stated.1 here.1)

stop_said : (before lines : List HistoryLine) → IsStop before lines → AllByRecursion HasEventNumbers lines → AllByRecursion IsSaid lines
stop_said before lines x all =
    let closes = live_ports (config_after before) in
    let here = all_split HasEventNumbers (map to.Close closes) (map drained_line x.seen) (subst (AllByRecursion HasEventNumbers) x.are all).1 in
    subst (AllByRecursion IsSaid) (sym x.are) (
      tt,
      AllByRecursion-append IsSaid (map to.Close closes) (map drained_line x.seen) (all_mapped IsSaid to.Close closes (λ p. tt))
          (drained_said x.seen (seen_have IsNumber closes x.seen x.all_seen (all_of_map HasEventNumbers to.Close closes here.0))),
    )

-- Each line of a history that follows a script is as the script gives it.
pub history_said : (statements : List Statement) (history : List HistoryLine) → AreStated statements → Follows statements history → AllByRecursion HasEventNumbers history → AllByRecursion IsSaid history
history_said statements history stated x all =
    let here = all_split HasEventNumbers (lines_of x.parts) x.stop (subst (AllByRecursion HasEventNumbers) (sym x.history_is) all) in
    subst (AllByRecursion IsSaid) x.history_is
    (AllByRecursion-append IsSaid (lines_of x.parts) x.stop
    (parts_said [] x.parts x.right (subst (AllByRecursion IsStated) (sym x.statements_are) stated) here.0)
    (stop_said (lines_of x.parts) x.stop x.stops here.1))
