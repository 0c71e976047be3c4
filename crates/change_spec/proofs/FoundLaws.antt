-- A report that was found lawful is so.
use Rattle.std.proofs.Common.{◌≡◌, ◌∙◌, ℕ, ◌+◌, ◌-◌, Bool, true, false, not, ◌&&◌, ◌||◌, cond, List, [], ◌∷◌, ◌++◌, append_assoc, map, length, take, drop, Option, Some, None, refl, sym, ap, subst, ⊎_elim, inl, inr, arith}
use Rattle.std.specs.Prelude.{◌==◌, All, nat_le, nat_lt}
use Rattle.std.specs.List.{count_by, list_all, list_any, range_with_len}
use Rattle.std.specs.Option.{option_map_or}
use Rattle.std.proofs.lemmas.Bool.{and_parts, both_ways, eqb-true, leb-true, ltb-true, or_cases, or_parts}
use Rattle.std.proofs.lemmas.List.{take-append-drop}
use Rattle.std.proofs.lemmas.List.Elements.{All-cons, All-nil}
use Rattle.base.specs.Each.{Each, EachAfter}
use Rattle.base.proofs.EachLaws.{each_joined}
use Rattle.base.proofs.PlaceLaws.{heads_are, tails_are}
use Rattle.base.proofs.RangeLaws.{all_in_range, any_in_range}
use Rattle.base.proofs.BoolLaws.{then_so}
use Rattle.component_trait.specs.States.{NodeState}
use Rattle.config_graph.specs.Graph.{Graph}
use Rattle.quiesce_core.specs.Runs.{IsRun, done_by}
use Rattle.quiesce_core.specs.State.{gate, is_live}
use Rattle.quiesce_core.proofs.RunLaws.{run_if}
use Rattle.quiesce_core.proofs.TableLaws.{live_made}
use Rattle.quiesce_core.specs.declared.event.Event.{Event}
use Rattle.quiesce_laws.specs.Roots.{has_root}
use Rattle.quiesce_laws.specs.Events.{ends_transaction}
use Rattle.report_types.specs.declared.report.HistoryLine.{HistoryLine}
use Rattle.report_types.specs.declared.report.HistoryLine.TheVariants as to
use Rattle.report_types.specs.declared.report.Last.{Last}
use Rattle.report_types.specs.declared.report.Last.TheVariants as last
use Rattle.report_types.specs.declared.report.NodeLog.{NodeLog}
use Rattle.report_types.specs.declared.report.Report.{Report}
use Rattle.change_spec.specs.Endings.{moved_to}
use Rattle.change_spec.specs.Follows.{Follows}
use Rattle.change_spec.specs.Found.{IsFound, came_to_rest, held_at, held_since, is_drained_at, is_ended_at, is_few_at, is_finish_at, is_graph_at, is_line, is_of_its_kind, is_run_at, last_of_log, passes_each, since_line, up_to_line}
use Rattle.change_spec.specs.Lawful.{CameToRest, EndedSince, EndsAs, HeldSince, StoodOpen, StoodOpenWhereSaid, IsDrainedAt, IsEndedAt, IsFewAt, IsFinishAt, IsGraphAt, IsGraphDescribed, IsLawfulBy, IsOfItsKind, IsRunAt, Lawful, LawfulInRounds, LawfulOnThreads, Merge, NumbersInRounds, described, is_done, is_idle_after}
use Rattle.change_spec.specs.Members.{Member, by_node, of_history, events, is_close, is_root, lines, state_at, without_roots}
use Rattle.change_spec.specs.Opening.{fold_of_node}
use Rattle.quiesce_laws.specs.Steps.{live_ports}
use Rattle.change_spec.specs.Scene.{Seen}
use Rattle.change_spec.specs.Serial.{Serial}
use Rattle.change_spec.specs.Standing.{is_graph_of}
use Rattle.change_spec.specs.Statements.{Statement}
use Rattle.change_spec.specs.Told.{Told}
use Rattle.change_spec.proofs.Checking.{all_by, drained_at, each_by, no_root_said, of_its_kind}
use Rattle.change_spec.proofs.MemberLaws.{events_of_nodes, events_parts}
use Rattle.change_spec.proofs.RunningLaws.{ended_once, quiet}
use Rattle.change_spec.proofs.StandingLaws.{graph_by}
use Rattle.change_spec.proofs.StopLemmas.{none_open_at_end}
use Rattle.change_spec.proofs.ToldLemmas.{follows_told}

-- two functions that have the same values have the same value at each
each_same : {A B : Type 0} (f g : A → B) (xs : List A) → map f xs ≡ map g xs → All (λ x. f x ≡ g x) xs
each_same f g [] h = All-nil (λ x. f x ≡ g x)
each_same f g (x ∷ xs) h =
    All-cons (λ y. f y ≡ g y) x xs (heads_are (f x) (g x) (map f xs) (map g xs) h) (each_same f g xs (tails_are (f x) (g x) (map f xs) (map g xs) h))

-- graphs

described_if : (statements : List Statement) (before : List Member) (o : Option Graph) → described statements (lines before) ≡ o
    → option_map_or (is_graph_of (state_at before).config) o false ≡ true → IsGraphDescribed statements before
described_if statements before None is h = absurd (both_ways false refl h)
described_if statements before (Some g) is h = record { graph = g; described_so = is; stands = graph_by (state_at before).config g h }

pub graph_at : (statements : List Statement) (before : List Member) (x : Member) → is_graph_at statements before x ≡ true → IsGraphAt statements before x
graph_at statements before (of_history to.Commit) h = described_if statements before (described statements (lines before)) refl h
graph_at statements before (of_history (to.Show g)) h = graph_by (state_at before).config g h
graph_at statements before _ h = tt

-- logs

ends_as : (o : Option NodeState) (moved : Option ℕ) (l : Last) → last_of_log o moved ≡ Some l → EndsAs o moved l
ends_as (Some s) None (last.State xs) h = cc
ends_as (Some s) None (last.Moved j) h = absurd (cc h)
ends_as (Some s) (Some j) (last.State xs) h = absurd (cc h)
ends_as (Some s) (Some j) (last.Moved i) h = cc
ends_as None moved l h = absurd (cc h)

-- places since the last line

no_line : (m : List Member) → list_any is_line m ≡ false → m ≡ map by_node (events m)
no_line [] h = refl
no_line (by_node e ∷ m) h = ap (λ k. by_node e ∷ k) (no_line m h)
no_line (of_history l ∷ m) h = absurd (both_ways true h refl)

pub since_parts : (m : List Member) → m ≡ up_to_line m ++ map by_node (since_line m)
since_parts [] = refl
since_parts (x ∷ m) = by (list_any is_line (x ∷ m)) refl (since_parts m)
  where
    by : (b : Bool) → list_any is_line (x ∷ m) ≡ b → m ≡ up_to_line m ++ map by_node (since_line m)
        → x ∷ m ≡ cond b (x ∷ up_to_line m) [] ++ map by_node (cond b (since_line m) (events (x ∷ m)))
    by true e rest = ap (λ k. x ∷ k) rest
    by false e rest = no_line (x ∷ m) e

map_parts : (xs ys : List Event) → map by_node (xs ++ ys) ≡ map by_node xs ++ map by_node ys
map_parts [] ys = refl
map_parts (x ∷ xs) ys = ap (λ k. by_node x ∷ k) (map_parts xs ys)

held_if : (before : List Member) (test : List Event → Bool) → held_since before test ≡ true → HeldSince before test
held_if before test h =
    let w = any_in_range (held_at before test) 0 (length (since_line before) + 1) h in
    let es = since_line before in
    let n = length es - w.at in
    let front = up_to_line before ++ map by_node (take n es) in
    record {
      front = front;
      later = drop n es;
      parts = since_parts before
          ∙ ap (λ k. up_to_line before ++ k) (ap (map by_node) (sym (take-append-drop n es)) ∙ map_parts (take n es) (drop n es))
          ∙ sym (append_assoc (up_to_line before) (map by_node (take n es)) (map by_node (drop n es)));
      held = ap test (events_parts (up_to_line before) (map by_node (take n es)) ∙ ap (λ k. events (up_to_line before) ++ k) (events_of_nodes (take n es))) ∙ w.passes;
    }

rests_if : (before : List Member) → came_to_rest before ≡ true → CameToRest before
rests_if before h =
    let c = (state_at before).config in
    let w = and_parts (list_all (λ n. not (is_live c n) || held_since before (λ es. is_done es n)) (range_with_len 0 (length c.slots)))
    (list_all (λ p. held_since before (is_idle_after p)) (live_ports c)) h in
    record {
      nodes = λ n live. held_if before (λ es. is_done es n)
          (then_so (is_live c n) (held_since before (λ es. is_done es n))
          (all_in_range (λ k. not (is_live c k) || held_since before (λ es. is_done es k)) 0 (length c.slots) n w.0 (omega arith) (omega (arith, live_made c n live))) live);
      ports = all_by (λ p. HeldSince before (is_idle_after p)) (λ p. held_since before (is_idle_after p)) (λ p e. held_if before (is_idle_after p) e) (live_ports c) w.1;
    }

-- numbers

ended_since : (before : List Member) (n : ℕ) → nat_le n (count_by ends_transaction (since_line before)) ≡ true → EndedSince before n
ended_since before n h = record { front = up_to_line before; later = since_line before; parts = since_parts before; enough = leb-true n (count_by ends_transaction (since_line before)) h }

pub run_at : (before : List Member) (x : Member) → is_run_at before x ≡ true → IsRunAt before x
run_at before (of_history (to.Run k n)) h =
    let w = and_parts (nat_le n (count_by ends_transaction (since_line before))) (nat_le k n || came_to_rest before) h in (
      ended_since before n w.0,
      ⊎_elim (λ (all : nat_le k n ≡ true). inl (leb-true k n all)) (λ (rest : came_to_rest before ≡ true). inr (rests_if before rest)) (or_cases (nat_le k n) (came_to_rest before) w.1),
    )
run_at before _ h = tt

pub finish_at : (before : List Member) (x : Member) → is_finish_at before x ≡ true → IsFinishAt before x
finish_at before (of_history (to.Finish n r)) h = ⊎_elim
    (λ (all : (r == n) ≡ true). inl (eqb-true r n all))
    (λ (early : (nat_lt r n && came_to_rest before) ≡ true). let w = and_parts (nat_lt r n) (came_to_rest before) early in inr (ltb-true r n w.0, rests_if before w.1))
    (or_cases (r == n) (nat_lt r n && came_to_rest before) h)
finish_at before _ h = tt

pub ended_at : (before : List Member) (x : Member) → is_ended_at before x ≡ true → IsEndedAt before x
ended_at before (of_history (to.Run k n)) h = ended_since before n h
ended_at before _ h = tt

pub few_at : (before : List Member) (x : Member) → is_few_at before x ≡ true → IsFewAt before x
few_at before (of_history (to.Finish n r)) h = leb-true r n h
few_at before _ h = tt

-- what was still open

abbrev pub later_than : ℕ → List Member → List HistoryLine → List HistoryLine
later_than n m before = drop (length (lines (take n m))) (without_roots before)

pub none_open : (m : List Member) (before history : List HistoryLine) → list_any is_root history ≡ false → EachAfter (StoodOpenWhereSaid m) before history
none_open m before [] h = tt
none_open m before (l ∷ history) h =
    let w = or_parts (is_root l) (list_any is_root history) h in (no_root_said m before l (ap not w.0), none_open m (before ++ l ∷ []) history w.1)

-- lines that say nothing of what was open, and one that does
pub open_then : (m : List Member) (before xs : List HistoryLine) (l : HistoryLine) (ys : List HistoryLine) → list_any is_root xs ≡ false → StoodOpenWhereSaid m (before ++ xs) l
    → EachAfter (StoodOpenWhereSaid m) ((before ++ xs) ++ l ∷ []) ys → EachAfter (StoodOpenWhereSaid m) before (xs ++ l ∷ ys)
open_then m before xs l ys none stood rest = each_joined (StoodOpenWhereSaid m) before xs (l ∷ ys) (none_open m before xs none) (stood, rest)

-- a root stands open behind so many members
pub stood_at : (m : List Member) (before : List HistoryLine) (p k n : ℕ) → m ≡ take n m ++ drop n m → lines (take n m) ++ later_than n m before ≡ without_roots before
    → list_any is_close (later_than n m before) ≡ false → has_root (state_at (take n m)) p k ≡ true → (gate (state_at (take n m)).config p).closed ≡ true → StoodOpen m before p k
stood_at m before p k n parts place behind open_ closed =
    record { front = take n m; rest = drop n m; later = later_than n m before; parts = parts; place = place; behind_closes = behind; open_there = open_; closed_there = closed }

module _ (statements : List Statement) (ts : List Told) (seen : List Seen) (m : List Member) (report : Report) (f : IsFound statements ts seen m report) where
  follows_so : Follows statements report.history
  follows_so = subst (Follows statements) f.history (follows_told statements ts seen f.follows)

  merges : Merge m report
  merges = record {
    one_log_a_node = f.slots;
    logs = each_same (λ (l : NodeLog). done_by l.slot (events m)) (λ (l : NodeLog). l.events) report.logs f.logs;
    by_nodes = all_by IsOfItsKind is_of_its_kind of_its_kind m f.kinds;
    history = f.lines_are;
  }

  run : IsRun (events m)
  run = run_if (events m) f.runs

  all_drained : Each IsDrainedAt m
  all_drained = each_by IsDrainedAt is_drained_at drained_at [] m f.drained

  folded : All (λ (l : NodeLog). last_of_log (fold_of_node (events m) l.slot) (moved_to report.history l.slot) ≡ Some l.last) report.logs
  folded = each_same (λ (l : NodeLog). last_of_log (fold_of_node (events m) l.slot) (moved_to report.history l.slot)) (λ (l : NodeLog). Some l.last) report.logs f.lasts

  pub found_so : IsLawfulBy statements report m
  found_so = record {
    merge = merges;
    runs = run;
    quiescent = quiet m run;
    ended_once = λ p k. ended_once (events m) run p k (none_open_at_end statements report m follows_so merges run all_drained p k);
    folds = λ i d low. ends_as (fold_of_node (events m) _) (moved_to report.history _) _ (folded i d low);
    drained = all_drained;
    stood_open = f.stood_open;
    graphs = each_by (IsGraphAt statements) (is_graph_at statements) (graph_at statements) [] m f.graphs;
    unfinished = f.unfinished;
    status = f.status;
  }

  pub found_lawful : Lawful statements report
  found_lawful = record { follows = follows_so; members = m; by_them = found_so }

  in_rounds : passes_each is_ended_at [] m ≡ true → passes_each is_few_at [] m ≡ true → NumbersInRounds m
  in_rounds ended few = record { ended = each_by IsEndedAt is_ended_at ended_at [] m ended; few = each_by IsFewAt is_few_at few_at [] m few }

  pub found_numbers : passes_each is_ended_at [] m ≡ true → passes_each is_few_at [] m ≡ true → (lawful : Lawful statements report) × NumbersInRounds lawful.members
  found_numbers ended few = (record { follows = follows_so; members = m; by_them = found_so }, in_rounds ended few)

  pub found_on_threads : passes_each is_run_at [] m ≡ true → passes_each is_finish_at [] m ≡ true → LawfulOnThreads statements report
  found_on_threads runs finishes = record {
    lawful = record { follows = follows_so; members = m; by_them = found_so };
    numbers = record { runs_end = each_by IsRunAt is_run_at run_at [] m runs; finishes_end = each_by IsFinishAt is_finish_at finish_at [] m finishes };
  }

  pub found_in_rounds : (serial : Serial statements report) → passes_each is_ended_at [] m ≡ true → passes_each is_few_at [] m ≡ true → events m ≡ serial.world.events → LawfulInRounds statements report serial
  found_in_rounds serial ended few order = record {
    lawful = record { follows = follows_so; members = m; by_them = found_so };
    numbers = in_rounds ended few;
    order = order;
  }
