-- What is written says what has happened.
use Rattle.std.proofs.Common.{◌≡◌, ◌∙◌, ℕ, ◌+◌, ◌-◌, Bool, true, false, not, cond, List, [], ◌∷◌, ◌++◌, map, Option, Some, None, fold, refl, sym, ap, ⊎_elim}
use Rattle.std.specs.Prelude.{filter, filter_map, flat_map, nat_le, option_map}
use Rattle.std.specs.List.{cons_option, enumerate_from, list_all}
use Rattle.std.proofs.lemmas.Bool.{and_from, and_parts, both_ways, cases_Bool}
use Rattle.std.proofs.lemmas.Grind.{flat_map-append}
use Rattle.std.proofs.lemmas.List.{append-nil, map-append}
use Rattle.std.proofs.lemmas.List.Elements.{filter-append, filter_map-append}
use Rattle.std.proofs.lemmas.List.Folds.{flat_map-map}
use Rattle.change_plan.specs.declared.plan_data.Plan.{Plan}
use Rattle.change_plan_laws.specs.Commit.{commit_events, new_links, ports_to_close, reopened_ports, work}
use Rattle.change_spec.specs.Changes.{opening_lines}
use Rattle.change_spec.specs.Follows.{start_lines}
use Rattle.change_spec.specs.Members.{lines_of_events}
use Rattle.config_graph.specs.Graph.{Graph, ports, target_of}
use Rattle.config_graph.specs.declared.node.Port.{Port}
use Rattle.config_graph.specs.declared.node.Target.{Target}
use Rattle.quiesce_core.specs.declared.event.Event.{Event}
use Rattle.quiesce_core.specs.declared.event.Event.TheVariants.{Begin, Call, Miss, Take, Give, More, Ask, Hear, End, Close, Reopen, Make, Link, Unlink, Remove}
use Rattle.quiesce_core.specs.Runs.{state_after}
use Rattle.quiesce_core.specs.State.{Configuration, State, exchange}
use Rattle.quiesce_laws.specs.Drained.{is_drained}
use Rattle.quiesce_laws.specs.Starts.{link_of, make_of, reopen_of, start_of}
use Rattle.quiesce_laws.specs.Steps.{change_all}
use Rattle.quiesce_laws.specs.Work.{link_new, make_new, work_of}
use Rattle.report_types.specs.declared.report.HistoryLine.{HistoryLine}
use Rattle.report_types.specs.declared.report.HistoryLine.TheVariants as to
use Rattle.change_apply.specs.Applied.{Place, first_place, heard, next_place, place_of}
use Rattle.change_apply.specs.Courses.{is_told, scene_after}
use Rattle.change_apply.specs.Replies.{before_text, behind_text, history, opening, opening_text, reply_text}
use Rattle.change_apply.specs.Sessions.{Change, Scene, Turned, asked, change_in, commits, denied, drained_at, events_told, first_scene, gets_ready, gives_up, goes_on, goes_on_in, happened, hears, is_over, leaves, may_say, root_at, settles, state_of, tells, tells_by, turn, waits}
use Rattle.change_apply.specs.Written.{IsDoneBehind, IsWritten, Line, bad, denied as denied_line, done_by, line_text, of_history, read_fault, ready, text_of, untold, wait}
use Rattle.change_apply.specs.declared.request.Request.{Request}
use Rattle.change_apply.specs.declared.said.Answer.{Answer}
use Rattle.change_apply.specs.declared.said.Answer.TheVariants as answer
use Rattle.change_apply.specs.declared.said.Phase.{Phase}
use Rattle.change_apply.specs.declared.said.Phase.TheVariants as phase
use Rattle.change_apply.specs.declared.said.Said.{Said}
use Rattle.change_apply.specs.declared.said.Said.TheVariants as says
use Rattle.change_apply.proofs.CourseLemmas.{happened_told}
use Rattle.change_apply.proofs.StandLemmas.{are_told}

-- the lines of an answer

abbrev before_lines : ℕ → Answer → List Line
before_lines number (answer.Denied rule) = denied_line number rule ∷ []
before_lines number answer.Bad = bad number ∷ []
before_lines number answer.Unread = read_fault ∷ []
before_lines number _ = []

abbrev behind_lines : Answer → List Line
behind_lines answer.Ready = ready ∷ []
behind_lines _ = []

abbrev of_answer : ℕ → Answer → List HistoryLine → List Line
of_answer number a ls = before_lines number a ++ (map of_history ls ++ behind_lines a)

text_after : (xs ys : List Line) → text_of (xs ++ ys) ≡ text_of xs ++ text_of ys
text_after xs ys = flat_map-append line_text xs ys

before_text_is : (number : ℕ) (a : Answer) → before_text number a ≡ text_of (before_lines number a)
before_text_is number (answer.Denied rule) = sym (append-nil (line_text (denied_line number rule)))
before_text_is number answer.Bad = sym (append-nil (line_text (bad number)))
before_text_is number answer.Unread = sym (append-nil (line_text read_fault))
before_text_is number answer.Waits = refl
before_text_is number answer.Ready = refl
before_text_is number answer.Committed = refl
before_text_is number answer.GivenUp = refl

behind_is : (a : Answer) → behind_text a ≡ text_of (behind_lines a)
behind_is answer.Ready = sym (append-nil (line_text ready))
behind_is (answer.Denied rule) = refl
behind_is answer.Bad = refl
behind_is answer.Unread = refl
behind_is answer.Waits = refl
behind_is answer.Committed = refl
behind_is answer.GivenUp = refl

history_is : (ls : List HistoryLine) → history ls ≡ text_of (map of_history ls)
history_is ls = sym (flat_map-map line_text of_history ls)

reply_is : (number : ℕ) (a : Answer) (ls : List HistoryLine) → reply_text number a ls ≡ text_of (of_answer number a ls)
reply_is number a ls =
    ap (λ x. x ++ (history ls ++ behind_text a)) (before_text_is number a)
    ∙ ap (λ x. text_of (before_lines number a) ++ x)
    (ap (λ x. x ++ behind_text a) (history_is ls) ∙ ap (λ x. text_of (map of_history ls) ++ x) (behind_is a) ∙ sym (text_after (map of_history ls) (behind_lines a)))
    ∙ sym (text_after (before_lines number a) (map of_history ls ++ behind_lines a))

-- what lines say is done

abbrev done_in : List HistoryLine → List Event
done_in ls = filter_map done_by (map of_history ls)

done_after : (xs ys : List Line) → filter_map done_by (xs ++ ys) ≡ filter_map done_by xs ++ filter_map done_by ys
done_after xs ys = filter_map-append done_by xs ys

nothing_done_before : (number : ℕ) (a : Answer) → filter_map done_by (before_lines number a) ≡ []
nothing_done_before number (answer.Denied rule) = refl
nothing_done_before number answer.Bad = refl
nothing_done_before number answer.Unread = refl
nothing_done_before number answer.Waits = refl
nothing_done_before number answer.Ready = refl
nothing_done_before number answer.Committed = refl
nothing_done_before number answer.GivenUp = refl

nothing_done_behind : (a : Answer) → filter_map done_by (behind_lines a) ≡ []
nothing_done_behind answer.Ready = refl
nothing_done_behind (answer.Denied rule) = refl
nothing_done_behind answer.Bad = refl
nothing_done_behind answer.Unread = refl
nothing_done_behind answer.Waits = refl
nothing_done_behind answer.Committed = refl
nothing_done_behind answer.GivenUp = refl

done_of_answer : (number : ℕ) (a : Answer) (ls : List HistoryLine) → filter_map done_by (of_answer number a ls) ≡ done_in ls
done_of_answer number a ls =
    done_after (before_lines number a) (map of_history ls ++ behind_lines a)
    ∙ ap (λ x. x ++ filter_map done_by (map of_history ls ++ behind_lines a)) (nothing_done_before number a)
    ∙ done_after (map of_history ls) (behind_lines a) ∙ ap (λ x. done_in ls ++ x) (nothing_done_behind a) ∙ append-nil (done_in ls)

done_both : (xs ys : List HistoryLine) → done_in (xs ++ ys) ≡ done_in xs ++ done_in ys
done_both xs ys = ap (filter_map done_by) (map-append of_history xs ys) ∙ done_after (map of_history xs) (map of_history ys)

-- events that are told by no line of the runtime, and are no `close`
abbrev is_done : Event → Bool
is_done (Make n node from) = true
is_done (Link p n x) = true
is_done (Unlink p) = true
is_done (Remove n) = true
is_done (Reopen p) = true
is_done _ = false

module _ (es : List Event) (rest : (done_in (lines_of_events es) ≡ es) × (untold es ≡ es)) where
  one_more : (e : Event) → is_done e ≡ true → (done_in (lines_of_events (e ∷ es)) ≡ e ∷ es) × (untold (e ∷ es) ≡ e ∷ es)
  one_more (Make n node from) h = (ap (λ xs. Make n node from ∷ xs) rest.0, ap (λ xs. Make n node from ∷ xs) rest.1)
  one_more (Link p n x) h = (ap (λ xs. Link p n x ∷ xs) rest.0, ap (λ xs. Link p n x ∷ xs) rest.1)
  one_more (Unlink p) h = (ap (λ xs. Unlink p ∷ xs) rest.0, ap (λ xs. Unlink p ∷ xs) rest.1)
  one_more (Remove n) h = (ap (λ xs. Remove n ∷ xs) rest.0, ap (λ xs. Remove n ∷ xs) rest.1)
  one_more (Reopen p) h = (ap (λ xs. Reopen p ∷ xs) rest.0, ap (λ xs. Reopen p ∷ xs) rest.1)
  one_more (Begin p k v) h = absurd (both_ways false refl h)
  one_more (Call p k v) h = absurd (both_ways false refl h)
  one_more (Miss p) h = absurd (both_ways false refl h)
  one_more (Take p k v) h = absurd (both_ways false refl h)
  one_more (Give p k v) h = absurd (both_ways false refl h)
  one_more (More p k v) h = absurd (both_ways false refl h)
  one_more (Ask p k v) h = absurd (both_ways false refl h)
  one_more (Hear p k v) h = absurd (both_ways false refl h)
  one_more (End p k v) h = absurd (both_ways false refl h)
  one_more (Close p) h = absurd (both_ways false refl h)

all_done : (es : List Event) → list_all is_done es ≡ true → (done_in (lines_of_events es) ≡ es) × (untold es ≡ es)
all_done [] h = (refl, refl)
all_done (e ∷ es) h =
    let parts = and_parts (is_done e) (list_all is_done es) h in
    one_more es (all_done es parts.1) e parts.0

-- all that lines of the runtime tell is left out
none_untold : (es : List Event) → list_all is_told es ≡ true → untold es ≡ []
none_untold [] h = refl
none_untold (e ∷ es) h =
    let parts = and_parts (is_told e) (list_all is_told es) h in
    ap (λ b. cond (not b) (e ∷ untold es) (untold es)) parts.0 ∙ none_untold es parts.1

each_done : {A : Type 0} (f : A → Event) → ((x : A) → is_done (f x) ≡ true) → (xs : List A) → list_all is_done (map f xs) ≡ true
each_done f h [] = refl
each_done f h (x ∷ xs) = and_from (is_done (f x)) (list_all is_done (map f xs)) (h x) (each_done f h xs)

both_done : (xs ys : List Event) → list_all is_done xs ≡ true → list_all is_done ys ≡ true → list_all is_done (xs ++ ys) ≡ true
both_done [] ys h k = k
both_done (x ∷ xs) ys h k =
    let parts = and_parts (is_done x) (list_all is_done xs) h in
    and_from (is_done x) (list_all is_done (xs ++ ys)) parts.0 (both_done xs ys parts.1 k)

links_done : (g : Graph) (xs : List (ℕ × Port)) → list_all is_done (filter_map (link_of g) xs) ≡ true
links_done g [] = refl
links_done g (x ∷ xs) = by (target_of g.links x.1.node x.1.require) (links_done g xs)
  where
    by :
        (o : Option Target) → list_all is_done (filter_map (link_of g) xs) ≡ true
        → list_all is_done (cons_option (option_map (λ (t : Target). Link x.0 t.node t.provide) o) (filter_map (link_of g) xs)) ≡ true
    by None h = h
    by (Some t) h = h

start_done : (g : Graph) → list_all is_done (start_of g) ≡ true
start_done g =
    both_done (map make_of (enumerate_from 0 g.nodes) ++ filter_map (link_of g) (enumerate_from 0 (ports g.nodes))) (map reopen_of (enumerate_from 0 (ports g.nodes)))
    (both_done (map make_of (enumerate_from 0 g.nodes)) (filter_map (link_of g) (enumerate_from 0 (ports g.nodes))) (each_done make_of (λ x. refl) (enumerate_from 0 g.nodes))
    (links_done g (enumerate_from 0 (ports g.nodes))))
    (each_done reopen_of (λ x. refl) (enumerate_from 0 (ports g.nodes)))

commit_done : (old new : Graph) (plan : Plan) (d : Configuration) → list_all is_done (commit_events old new plan d) ≡ true
commit_done old new plan d =
    let w = work old new plan d in
    let links = new_links new plan (change_all d (work_of w)) in
    let opened = reopened_ports old new plan d in
    both_done (work_of w ++ map link_new links) (map Reopen opened)
    (both_done (work_of w) (map link_new links)
    (both_done (map Unlink w.unlinks) (map Remove w.removes ++ map make_new w.makes) (each_done Unlink (λ x. refl) w.unlinks)
    (both_done (map Remove w.removes) (map make_new w.makes) (each_done Remove (λ x. refl) w.removes) (each_done make_new (λ x. refl) w.makes)))
    (each_done link_new (λ x. refl) links))
    (each_done Reopen (λ x. refl) opened)

-- lines that say of nothing that it is done

no_drained : (s : State) (ps : List ℕ) → done_in (map (drained_at s) ps) ≡ []
no_drained s [] = refl
no_drained s (p ∷ ps) = no_drained s ps

no_root_is_done : (s : State) (ps : List ℕ) → done_in (flat_map (root_at s) ps) ≡ []
no_root_is_done s [] = refl
no_root_is_done s (p ∷ ps) =
    done_both (root_at s p) (flat_map (root_at s) ps) ∙ ap (λ x. x ++ done_in (flat_map (root_at s) ps)) (by (is_drained s p) (exchange s p).serial) ∙ no_root_is_done s ps
  where
    by : (b : Bool) (k : ℕ) → done_in (cond b [] (to.Root p k ∷ [])) ≡ []
    by true k = refl
    by false k = refl

no_closes : (ps : List ℕ) → done_in (map to.Close ps) ≡ []
no_closes [] = refl
no_closes (p ∷ ps) = no_closes ps

reopens_done : (ps : List ℕ) → done_in (map to.Reopen ps) ≡ map Reopen ps
reopens_done [] = refl
reopens_done (p ∷ ps) = ap (λ es. Reopen p ∷ es) (reopens_done ps)

-- a turn

abbrev Says : Scene → Turned → Type 0
Says s t = untold t.next.events ≡ untold s.events ++ done_in t.lines

either_says : (b : Bool) (s : Scene) (t u : Turned) → Says s t → Says s u → Says s (cond b t u)
either_says true s t u h k = h
either_says false s t u h k = k

more_untold : (es more_ : List Event) → untold (es ++ more_) ≡ untold es ++ untold more_
more_untold es more_ = filter-append (λ e. not (is_told e)) es more_

nothing_said : (s : Scene) → Says s (waits s)
nothing_said s = sym (append-nil (untold s.events))

ready_said : (c : Change) (s : Scene) → Says s (gets_ready c s)
ready_said c s = sym (ap (λ x. untold s.events ++ x) (no_drained (state_of s) (asked c)) ∙ append-nil (untold s.events))

left_said : (c : Change) (s : Scene) (a : Answer) (first : List HistoryLine) → done_in first ≡ [] → Says s (leaves c s a first)
left_said c s a first none_ =
    let opens = map Reopen (asked c) in
    more_untold s.events opens
    ∙ ap (λ x. untold s.events ++ x)
    ((all_done opens (each_done Reopen (λ x. refl) (asked c))).1
    ∙ sym (done_both first (map to.Reopen (asked c) ++ to.Abandon ∷ []) ∙ ap (λ x. x ++ done_in (map to.Reopen (asked c) ++ to.Abandon ∷ [])) none_
    ∙ done_both (map to.Reopen (asked c)) (to.Abandon ∷ []) ∙ append-nil (done_in (map to.Reopen (asked c))) ∙ reopens_done (asked c)))

given_up_said : (c : Change) (s : Scene) → Says s (gives_up c s)
given_up_said c s = left_said c s answer.GivenUp (to.Pending c.within ∷ flat_map (root_at (state_of s)) (asked c)) (no_root_is_done (state_of s) (asked c))

committed_said : (c : Change) (s : Scene) → Says s (commits c s)
committed_said c s =
    let ce = commit_events c.old c.new c.plan (state_of s).config in
    let done = all_done ce (commit_done c.old c.new c.plan (state_of s).config) in
    more_untold s.events ce
    ∙ ap (λ x. untold s.events ++ x) (done.1 ∙ sym (done_both (lines_of_events ce) (to.Commit ∷ []) ∙ append-nil (done_in (lines_of_events ce)) ∙ done.0))

settled_said : (c : Change) (s : Scene) → Says s (settles c s)
settled_said c s =
    either_says (list_all (is_drained (state_of s)) (asked c)) s (gets_ready c s) (cond (nat_le s.left 0) (gives_up c s) (waits s)) (ready_said c s)
    (either_says (nat_le s.left 0) s (gives_up c s) (waits s) (given_up_said c s) (nothing_said s))

gone_on_said : (p : Phase) (c : Change) (s : Scene) → Says s (goes_on_in p c s)
gone_on_said phase.Waiting c s = settled_said c s
gone_on_said phase.Ready c s = nothing_said s
gone_on_said phase.Committed c s = nothing_said s
gone_on_said phase.Left c s = nothing_said s

told_by_said : (o : Option ℕ) (c : Change) (s : Scene) → Says s (tells_by o c s)
told_by_said None c s = gone_on_said s.phase c s
told_by_said (Some rule) c s = left_said c s (answer.Denied rule) [] refl

-- what a line tells is left out
told_said : (c : Change) (s : Scene) (x : Said) → Says s (tells c s (events_told (state_of s) x))
told_said c s x =
    let es = events_told (state_of s) x in
    let done = happened (state_of s) es in
    let told = told_by_said (denied (state_of s) es) c (record s { events = s.events ++ done }) in
    told
    ∙ ap (λ l. l ++ done_in (tells c s es).lines)
    (more_untold s.events done ∙ ap (λ l. untold s.events ++ l) (none_untold done (happened_told (state_of s) es (are_told (state_of s) x))) ∙ append-nil (untold s.events))

heard_said : (c : Change) (s : Scene) (x : Said) → Says s (hears c s x)
heard_said c s says.Round = gone_on_said s.phase c (record s { left = s.left - 1 })
heard_said c s says.Stop = given_up_said c s
heard_said c s says.Over = given_up_said c s
heard_said c s says.Broken = left_said c s answer.Unread [] refl
heard_said c s says.Go = committed_said c s
heard_said c s says.Silent = nothing_said s
heard_said c s says.Senseless = told_said c s says.Senseless
heard_said c s (says.Busy p) = told_said c s (says.Busy p)
heard_said c s (says.Closed p) = told_said c s (says.Closed p)
heard_said c s (says.Idle p) = told_said c s (says.Idle p)

turn_said : (c : Change) (s : Scene) (x : Said) → Says s (turn c s x)
turn_said c s x =
    either_says (is_over s.phase) s (waits s) (cond (may_say c s x) (hears c s x) (leaves c s answer.Bad [])) (nothing_said s)
    (either_says (may_say c s x) s (hears c s x) (leaves c s answer.Bad []) (heard_said c s x) (left_said c s answer.Bad [] refl))

-- where it begins, and at each turn

written_then : (number : ℕ) (text : List ℕ) (s : Scene) (t : Turned) → IsWritten text s.events → Says s t → IsWritten (text ++ reply_text number t.answer t.lines) t.next.events
written_then number text s t w said =
    let more_ = of_answer number t.answer t.lines in
    record {
      lines = w.lines ++ more_;
      text_is = ap (λ x. x ++ reply_text number t.answer t.lines) w.text_is ∙ ap (λ x. text_of w.lines ++ x) (reply_is number t.answer t.lines) ∙ sym (text_after w.lines more_);
      done = done_after w.lines more_ ∙ ap (λ x. x ++ filter_map done_by more_) w.done ∙ ap (λ x. untold s.events ++ x) (done_of_answer number t.answer t.lines) ∙ sym said;
    }

opening_done : (r : Request) → done_in (opening r) ≡ start_of r.from.graph
opening_done r =
    let g = r.from.graph in
    let events = lines_of_events (start_of g) in
    let first = start_lines r.from.name r.from.args g in
    let ports = ports_to_close g r.plan (state_after (start_of g)).config in
    done_both first (opening_lines r.to.name r.to.args g r.plan (state_after (start_of g)).config)
    ∙ ap (λ x. done_in first ++ x) (no_closes ports) ∙ append-nil (done_in first)
    ∙ done_both (to.Start r.from.name r.from.args ∷ events) (to.Commit ∷ []) ∙ append-nil (done_in events) ∙ (all_done (start_of g) (start_done g)).0

opened_written : (r : Request) → IsWritten (opening_text r) (first_scene (change_in r)).events
opened_written r =
    let lines = map of_history (opening r) in
    let last = wait r.within ∷ [] in
    record {
      lines = lines ++ last;
      text_is = ap (λ x. x ++ line_text (wait r.within)) (history_is (opening r)) ∙ ap (λ x. text_of lines ++ x) (sym (append-nil (line_text (wait r.within)))) ∙ sym (text_after lines last);
      done = done_after lines last ∙ append-nil (done_in (opening r)) ∙ opening_done r ∙ sym (all_done (start_of r.from.graph) (start_done r.from.graph)).1;
    }

abbrev At : Place → Type 0
At p = IsWritten p.text p.scene.events

first_written : (r : Request) → At (first_place r)
first_written r = written_then 0 (opening_text r) (first_scene (change_in r)) (goes_on (change_in r) (first_scene (change_in r))) (opened_written r) (gone_on_said phase.Waiting (change_in r) (first_scene (change_in r)))

either_at : (b : Bool) (p q : Place) → At p → At q → At (cond b p q)
either_at true p q h k = h
either_at false p q h k = k

next_written : (c : Change) (at : Place) (x : Said) → At at → At (next_place c at x)
next_written c at x w = either_at (is_over at.scene.phase) at (place_of (at.number + 1) at.text (turn c at.scene x)) w (written_then (at.number + 1) at.text at.scene (turn c at.scene x) w (turn_said c at.scene x))

all_written : (c : Change) (at : Place) (xs : List Said) → At at → At (fold (next_place c) at xs)
all_written c at [] w = w
all_written c at (x ∷ xs) w = all_written c (next_place c at x) xs (next_written c at x w)

pub written_at : (r : Request) (said : List Said) → IsWritten (heard r said).text (heard r said).scene.events
written_at r said = all_written (change_in r) (first_place r) said (first_written r)

-- the scene of a place is that of the run

next_scene : (c : Change) (at : Place) (x : Said) → (next_place c at x).scene ≡ (turn c at.scene x).next
next_scene c at x = by (is_over at.scene.phase)
  where
    by :
        (b : Bool)
        → (cond b at (place_of (at.number + 1) at.text (cond b (waits at.scene) (cond (may_say c at.scene x) (hears c at.scene x) (leaves c at.scene answer.Bad []))))).scene
        ≡ (cond b (waits at.scene) (cond (may_say c at.scene x) (hears c at.scene x) (leaves c at.scene answer.Bad []))).next
    by true = refl
    by false = refl

scenes : (c : Change) (at : Place) (xs : List Said) → (fold (next_place c) at xs).scene ≡ fold (λ s x. (turn c s x).next) at.scene xs
scenes c at [] = refl
scenes c at (x ∷ xs) = scenes c (next_place c at x) xs ∙ ap (λ s. fold (λ t y. (turn c t y).next) s xs) (next_scene c at x)

pub scene_is : (r : Request) (said : List Said) → (heard r said).scene ≡ scene_after (change_in r) said
scene_is r said = scenes (change_in r) (first_place r) said

-- each line at its event

record Split (f : Event → Bool) (es xs : List Event) (e : Event) : Type 0 where
  before : List Event
  after : List Event
  are : es ≡ before ++ e ∷ after
  so_far : xs ≡ filter f before

passed_over : (f : Event → Bool) (d : Event) (es xs : List Event) (e : Event) → f d ≡ false → Split f es xs e → Split f (d ∷ es) xs e
passed_over f d es xs e no_ s = record {
  before = d ∷ s.before;
  after = s.after;
  are = ap (λ l. d ∷ l) s.are;
  so_far = s.so_far ∙ sym (ap (λ b. cond b (d ∷ filter f s.before) (filter f s.before)) no_);
}

-- the first that passes is the event, or the front goes on with it
front_goes_on : (f : Event → Bool) (d : Event) (es xs ys : List Event) (e : Event) → f d ≡ true → d ∷ filter f es ≡ xs ++ e ∷ ys
    → ((zs : List Event) → filter f es ≡ zs ++ e ∷ ys → Split f es zs e) → Split f (d ∷ es) xs e
front_goes_on f d es [] ys e yes_ is rest =
    let same : d ≡ e = cc in
    record { before = []; after = es; are = ap (λ x. x ∷ es) same; so_far = refl }
front_goes_on f d es (x ∷ xs) ys e yes_ is rest =
    let same : x ≡ d = cc in
    let more_ : filter f es ≡ xs ++ e ∷ ys = cc in
    let s = rest xs more_ in
    record {
      before = d ∷ s.before;
      after = s.after;
      are = ap (λ l. d ∷ l) s.are;
      so_far = ap (λ y. y ∷ xs) same ∙ ap (λ l. d ∷ l) s.so_far ∙ sym (ap (λ b. cond b (d ∷ filter f s.before) (filter f s.before)) yes_);
    }

no_front_there : (xs ys : List Event) (e : Event) → [] ≡ xs ++ e ∷ ys → ⊥
no_front_there [] ys e h = cc
no_front_there (x ∷ xs) ys e h = cc

split_by : (f : Event → Bool) (es xs ys : List Event) (e : Event) → filter f es ≡ xs ++ e ∷ ys → Split f es xs e
split_by f [] xs ys e h = absurd (no_front_there xs ys e h)
split_by f (d ∷ es) xs ys e h = ⊎_elim
    (λ (yes_ : f d ≡ true). front_goes_on f d es xs ys e yes_ (sym (ap (λ b. cond b (d ∷ filter f es) (filter f es)) yes_) ∙ h) (λ zs k. split_by f es zs ys e k))
    (λ (no_ : f d ≡ false). passed_over f d es xs e no_ (split_by f es xs ys e (sym (ap (λ b. cond b (d ∷ filter f es) (filter f es)) no_) ∙ h)))
    (cases_Bool (f d))

pub done_behind : (text : List ℕ) (events : List Event) (w : IsWritten text events) (front back : List Line) (l : Line) (e : Event) → w.lines ≡ front ++ l ∷ back → done_by l ≡ Some e → IsDoneBehind front e events
done_behind text events w front back l e is says_ =
    let one : filter_map done_by (l ∷ back) ≡ e ∷ filter_map done_by back = ap (λ o. cons_option o (filter_map done_by back)) says_ in
    let s = split_by (λ d. not (is_told d)) events (filter_map done_by front) (filter_map done_by back) e
    (sym w.done ∙ ap (filter_map done_by) is ∙ done_after front (l ∷ back) ∙ ap (λ x. filter_map done_by front ++ x) one) in
    record { before = s.before; after = s.after; are = s.are; so_far = s.so_far }
