-- Wrong tellings of which ports a change, or the stop, found drained or open: what follows the closes doesn't fit.
use Rattle.std.proofs.Common.{◌≡◌, ◌∙◌, ℕ, ◌+◌, ◌<◌, Bool, true, false, cond, List, [], ◌∷◌, ◌++◌, append_assoc, drop, length, map, Option, Some, None, refl, sym, ap, subst, ⊎_elim, inl, inr, arith}
use Rattle.std.specs.Prelude.{◌==◌, ◌⊎◌, codes, is_some, pos, if◌then◌else◌}
use Rattle.std.specs.List.{count_by}
use Rattle.std.specs.Option.{option_map_or}
use Rattle.std.proofs.lemmas.Bool.{both_ways}
use Rattle.std.proofs.lemmas.List.{append-nil, length-map}
use Rattle.std.proofs.lemmas.List.Sums.{sum_by-cons}
use Rattle.base.proofs.MapLaws.{count_by-append}
use Rattle.config_graph.specs.Graph.{Graph}
use Rattle.change_plan.specs.declared.plan_data.Plan.{Plan}
use Rattle.change_plan_laws.specs.Commit.{ports_to_close}
use Rattle.quiesce_core.specs.Live.{IsGraphOf}
use Rattle.quiesce_core.specs.State.{Configuration}
use Rattle.report_types.specs.declared.report.HistoryLine.{HistoryLine}
use Rattle.report_types.specs.declared.report.HistoryLine.TheVariants as to
use Rattle.change_spec.specs.Changes.{IsCommitted, IsGivenUp, commit_lines, opening_lines, seen_in_all}
use Rattle.change_spec.specs.Follows.{Follows, IsFinishLine, IsStop, start_lines}
use Rattle.change_spec.specs.Members.{is_root}
use Rattle.change_spec.specs.Planning.{planned}
use Rattle.change_spec.specs.Scene.{Seen, config_after, drained_line, root_line}
use Rattle.change_spec.specs.Statements.{change, finish}
use Rattle.change_spec.proofs.StandingLaws.{graph_by}
use Rattle.worked_report_laws.specs.Alone as alone
use Rattle.worked_report_laws.specs.Systems.{lone, lone_of, pair}
use Rattle.worked_report_laws.specs.WrongSights.{closing, given_up_idly, given_up_late, replacing, replacing_pair, seen_both_ways, seen_neither_way, seen_twice, stopped_twice, unseen}
use Rattle.worked_report_laws.proofs.StatementLemmas.{after_start, known}

-- of which port a line tells that it was found drained or open
abbrev pub tells_of : ℕ → HistoryLine → Bool
tells_of p (to.Drained q k) = q == p
tells_of p (to.Root q k) = q == p
tells_of p _ = false

abbrev pub is_sight : HistoryLine → Bool
is_sight (to.Drained p k) = true
is_sight _ = false

pub told_count : (f : Seen → HistoryLine) (p : ℕ) → ((d : Seen) → tells_of p (f d) ≡ (d.port == p)) → (seen : List Seen)
    → count_by (tells_of p) (map f seen) ≡ count_by (λ (d : Seen). d.port == p) seen
told_count f p h [] = refl
told_count f p h (d ∷ seen) =
    sum_by-cons (λ l. cond (tells_of p l) 1 0) (f d) (map f seen)
    ∙ (λ i. cond (h d i) 1 0 + told_count f p h seen i)
    ∙ sym (sum_by-cons (λ (x : Seen). cond (x.port == p) 1 0) d seen)

-- the lines of a kind that stand first, and what stands behind them

abbrev pub first_of : (HistoryLine → Bool) → List HistoryLine → List HistoryLine
first_of t [] = []
first_of t (l ∷ ls) = if t l then l ∷ first_of t ls else []

abbrev pub behind : (HistoryLine → Bool) → List HistoryLine → List HistoryLine
behind t [] = []
behind t (l ∷ ls) = if t l then behind t ls else l ∷ ls

record Parted (t : HistoryLine → Bool) (xs : List HistoryLine) (l : HistoryLine) (rest known : List HistoryLine) : Type 0 where
  first : first_of t known ≡ xs
  later : behind t known ≡ l ∷ rest

parted_so : (t : HistoryLine → Bool) (f : Seen → HistoryLine) → ((d : Seen) → t (f d) ≡ true) → (seen : List Seen) (l : HistoryLine) (rest : List HistoryLine) → t l ≡ false
    → Parted t (map f seen) l rest (map f seen ++ l ∷ rest)
parted_so t f h [] l rest other = record {
  first = ap (λ b. if b then l ∷ first_of t rest else []) other;
  later = ap (λ b. if b then behind t rest else l ∷ rest) other;
}
parted_so t f h (d ∷ seen) l rest other =
    let w = parted_so t f h seen l rest other in
    let all = map f seen ++ l ∷ rest in
    record {
      first = ap (λ b. if b then f d ∷ first_of t all else []) (h d) ∙ ap (λ ls. f d ∷ ls) w.first;
      later = ap (λ b. if b then behind t all else f d ∷ all) (h d) ∙ w.later;
    }

parted_at_first : (t : HistoryLine → Bool) (f : Seen → HistoryLine) → ((d : Seen) → t (f d) ≡ true) → (seen : List Seen) (l : HistoryLine) (rest stop lines : List HistoryLine) → t l ≡ false
    → (map f seen ++ l ∷ rest) ++ stop ≡ lines → Parted t (map f seen) l (rest ++ stop) lines
parted_at_first t f h seen l rest stop lines other is =
    subst (Parted t (map f seen) l (rest ++ stop)) (sym (append_assoc (map f seen) (l ∷ rest) stop) ∙ is) (parted_so t f h seen l (rest ++ stop) other)

-- What the lines behind the closes tell of port p, which is closed once. The change commits, with line l first; or it is given up with
-- these rounds, where some root is left.

abbrev pub sights : ℕ → List HistoryLine → ℕ
sights p lines = count_by (tells_of p) (first_of is_sight lines)

abbrev pub roots : List HistoryLine → List HistoryLine
roots lines = first_of is_root (drop 1 (behind is_sight lines))

abbrev pub rounds_of : List HistoryLine → Option ℕ
rounds_of (to.Pending n ∷ ls) = Some n
rounds_of _ = None

abbrev pub begins : (HistoryLine → Bool) → List HistoryLine → Bool
begins t [] = false
begins t (l ∷ ls) = t l

pub record CommitsSo (t : HistoryLine → Bool) (p : ℕ) (lines : List HistoryLine) : Type 0 where
  pub at_once : begins t (behind is_sight lines) ≡ true
  pub once : sights p lines ≡ 1

pub record GivesUpSo (within p : ℕ) (lines : List HistoryLine) : Type 0 where
  pub rounds : rounds_of (behind is_sight lines) ≡ Some within
  pub some_left : 0 < length (roots lines)
  pub once : sights p lines + count_by (tells_of p) (roots lines) ≡ 1

commits_so : (t : HistoryLine → Bool) (old new : Graph) (plan : Plan) (within p : ℕ) (c : Configuration) (l : HistoryLine) (rest commits stop lines : List HistoryLine)
    → count_by (λ q. q == p) (ports_to_close old plan c) ≡ 1 → commit_lines old new plan c ≡ l ∷ commits → is_sight l ≡ false → t l ≡ true
    → IsCommitted old new plan within c rest → rest ++ stop ≡ lines → CommitsSo t p lines
commits_so t old new plan within p c l rest commits stop lines closed first other passes e is =
    let seen = seen_in_all e.looks in
    let w = parted_at_first is_sight drained_line (λ d. refl) seen l commits stop lines other
    (ap (λ ls. (map drained_line seen ++ ls) ++ stop) (sym first) ∙ ap (λ ls. ls ++ stop) (sym e.are) ∙ is) in
    record {
      at_once = ap (begins t) w.later ∙ passes;
      once = ap (count_by (tells_of p)) w.first ∙ told_count drained_line p (λ d. refl) seen ∙ e.all_seen p ∙ closed;
    }

gives_up_so : (within p : ℕ) (closed : List ℕ) (l : HistoryLine) (rest reopens stop lines : List HistoryLine)
    → count_by (λ q. q == p) closed ≡ 1 → map to.Reopen closed ++ to.Abandon ∷ [] ≡ l ∷ reopens → is_root l ≡ false
    → IsGivenUp closed within rest → rest ++ stop ≡ lines → GivesUpSo within p lines
gives_up_so within p closed l rest reopens stop lines closed_once first other e is =
    let seen = seen_in_all e.looks in
    let pends = map root_line e.left ++ map to.Reopen closed ++ to.Abandon ∷ [] in
    let w = parted_at_first is_sight drained_line (λ d. refl) seen (to.Pending within) pends stop lines refl (ap (λ ls. ls ++ stop) (sym e.are) ∙ is) in
    let after : (map root_line e.left ++ l ∷ reopens) ++ stop ≡ drop 1 (behind is_sight lines) =
    ap (λ ls. (map root_line e.left ++ ls) ++ stop) (sym first) ∙ ap (λ ls. ls ++ stop) (sym (append_assoc (map root_line e.left) (map to.Reopen closed) (to.Abandon ∷ [])))
    ∙ sym (ap (drop 1) w.later) in
    let v = parted_at_first is_root root_line (λ d. refl) e.left l reopens stop (drop 1 (behind is_sight lines)) other after in
    let low = e.some_left in
    record {
      rounds = ap rounds_of w.later;
      some_left = subst (λ ls. 0 < length ls) (sym v.first) (omega (arith, low, length-map e.left root_line));
      once = (λ i. count_by (tells_of p) (w.first i) + count_by (tells_of p) (v.first i))
          ∙ (λ i. told_count drained_line p (λ d. refl) seen i + told_count root_line p (λ d. refl) e.left i)
          ∙ sym (count_by-append (λ (d : Seen). d.port == p) seen e.left) ∙ e.all_seen p ∙ closed_once;
    }

-- a source that is replaced

abbrev pub lone_started : List HistoryLine
lone_started = start_lines (codes "Lone") (pos 2 ∷ []) lone ++ []

abbrev pub lone_changes : Plan
lone_changes = planned lone (lone_of 3) []

abbrev pub lone_closed : Configuration
lone_closed = config_after (lone_started ++ opening_lines (codes "Lone") (pos 3 ∷ []) lone lone_changes (config_after lone_started))

pub lone_stands : IsGraphOf (config_after lone_started) lone
lone_stands = graph_by (config_after lone_started) lone refl

abbrev pub is_removal : HistoryLine → Bool
is_removal (to.Remove n) = true
is_removal _ = false

pub replaced : (lines : List HistoryLine) → Follows replacing (closing ++ lines) → CommitsSo is_removal 0 lines ⊎ GivesUpSo 1 0 lines
replaced lines f =
    let name = codes "Lone" in
    let w = after_start name (pos 2 ∷ []) lone (change name (pos 3 ∷ []) (lone_of 3) 1 []) (closing ++ lines) f in
    let c = known lone_started name (pos 3 ∷ []) lone (lone_of 3) 1 [] w.lines lone_stands refl (w.right.1 refl) in
    let all : (c.rest ++ []) ++ w.stop ≡ lines = ap (λ ls. drop 2 ((ls ++ []) ++ w.stop)) (sym c.are) ∙ ap (drop 6) w.are in
    let is : c.rest ++ w.stop ≡ lines = ap (λ ls. ls ++ w.stop) (sym (append-nil c.rest)) ∙ all in
    let commits = drop 1 (commit_lines lone (lone_of 3) lone_changes lone_closed) in
    ⊎_elim
    (λ (e : IsCommitted lone (lone_of 3) lone_changes 1 lone_closed c.rest).
    inl (commits_so is_removal lone (lone_of 3) lone_changes 1 0 lone_closed (to.Remove 0) c.rest commits w.stop lines refl refl refl refl e is))
    (λ (e : IsGivenUp (ports_to_close lone lone_changes (config_after lone_started)) 1 c.rest).
    inr (gives_up_so 1 0 (ports_to_close lone lone_changes (config_after lone_started)) (to.Reopen 0) c.rest (to.Abandon ∷ []) w.stop lines refl refl refl e is)) c.ends

abbrev not_one : ℕ → Bool
not_one n = n == 1

pub not_unseen : Follows replacing unseen → ⊥
not_unseen f = ⊎_elim
    (λ (e : CommitsSo is_removal 0 (drop 6 unseen)). both_ways (sights 0 (drop 6 unseen) == 1) refl (ap not_one e.once))
    (λ (e : GivesUpSo 1 0 (drop 6 unseen)). both_ways (is_some (rounds_of (behind is_sight (drop 6 unseen)))) refl (ap is_some e.rounds)) (replaced (drop 6 unseen) f)

pub not_seen_twice : Follows replacing seen_twice → ⊥
not_seen_twice f = ⊎_elim
    (λ (e : CommitsSo is_removal 0 (drop 6 seen_twice)). both_ways (sights 0 (drop 6 seen_twice) == 1) refl (ap not_one e.once))
    (λ (e : GivesUpSo 1 0 (drop 6 seen_twice)). both_ways (is_some (rounds_of (behind is_sight (drop 6 seen_twice)))) refl (ap is_some e.rounds)) (replaced (drop 6 seen_twice) f)

pub not_given_up_idly : Follows replacing given_up_idly → ⊥
not_given_up_idly f = ⊎_elim
    (λ (e : CommitsSo is_removal 0 (drop 6 given_up_idly)). both_ways (begins is_removal (behind is_sight (drop 6 given_up_idly))) refl e.at_once)
    (λ (e : GivesUpSo 1 0 (drop 6 given_up_idly)). let low = e.some_left in omega (arith, low)) (replaced (drop 6 given_up_idly) f)

pub not_given_up_late : Follows replacing given_up_late → ⊥
not_given_up_late f = ⊎_elim
    (λ (e : CommitsSo is_removal 0 (drop 6 given_up_late)). both_ways (begins is_removal (behind is_sight (drop 6 given_up_late))) refl e.at_once)
    (λ (e : GivesUpSo 1 0 (drop 6 given_up_late)). both_ways (option_map_or not_one (rounds_of (behind is_sight (drop 6 given_up_late))) false) refl (ap (λ o. option_map_or not_one o false) e.rounds))
    (replaced (drop 6 given_up_late) f)

pub not_seen_both_ways : Follows replacing seen_both_ways → ⊥
not_seen_both_ways f = ⊎_elim
    (λ (e : CommitsSo is_removal 0 (drop 6 seen_both_ways)). both_ways (begins is_removal (behind is_sight (drop 6 seen_both_ways))) refl e.at_once)
    (λ (e : GivesUpSo 1 0 (drop 6 seen_both_ways)).
    both_ways (not_one (sights 0 (drop 6 seen_both_ways) + count_by (tells_of 0) (roots (drop 6 seen_both_ways)))) refl (ap not_one e.once)) (replaced (drop 6 seen_both_ways) f)

-- two sources that are replaced

abbrev pair_started : List HistoryLine
pair_started = start_lines (codes "Pair") (pos 1 ∷ []) (pair 1) ++ []

abbrev pair_changes : Plan
pair_changes = planned (pair 1) (pair 2) []

abbrev pair_closed : Configuration
pair_closed = config_after (pair_started ++ opening_lines (codes "Pair") (pos 2 ∷ []) (pair 1) pair_changes (config_after pair_started))

abbrev is_unlink : HistoryLine → Bool
is_unlink (to.Unlink p) = true
is_unlink _ = false

pub not_seen_neither_way : Follows replacing_pair seen_neither_way → ⊥
not_seen_neither_way f =
    let name = codes "Pair" in
    let lines = drop 12 seen_neither_way in
    let w = after_start name (pos 1 ∷ []) (pair 1) (change name (pos 2 ∷ []) (pair 2) 0 []) seen_neither_way f in
    let c = known pair_started name (pos 2 ∷ []) (pair 1) (pair 2) 0 [] w.lines (graph_by (config_after pair_started) (pair 1) refl) refl (w.right.1 refl) in
    let all : (c.rest ++ []) ++ w.stop ≡ lines = ap (λ ls. drop 3 ((ls ++ []) ++ w.stop)) (sym c.are) ∙ ap (drop 12) w.are in
    let is : c.rest ++ w.stop ≡ lines = ap (λ ls. ls ++ w.stop) (sym (append-nil c.rest)) ∙ all in
    let commits = drop 1 (commit_lines (pair 1) (pair 2) pair_changes pair_closed) in
    let closed = ports_to_close (pair 1) pair_changes (config_after pair_started) in
    ⊎_elim
    (λ (e : IsCommitted (pair 1) (pair 2) pair_changes 0 pair_closed c.rest).
    let so = commits_so is_unlink (pair 1) (pair 2) pair_changes 0 0 pair_closed (to.Unlink 0) c.rest commits w.stop lines refl refl refl refl e is in
    both_ways (begins is_unlink (behind is_sight lines)) refl so.at_once)
    (λ (e : IsGivenUp closed 0 c.rest).
    let so = gives_up_so 0 0 closed (to.Reopen 0) c.rest (to.Reopen 1 ∷ to.Abandon ∷ []) w.stop lines refl refl refl e is in
    both_ways (not_one (sights 0 lines + count_by (tells_of 0) (roots lines))) refl (ap not_one so.once)) c.ends

-- the stop

pub not_stopped_twice : Follows alone.script stopped_twice → ⊥
not_stopped_twice f =
    let starts = start_lines (codes "Lone") (pos 2 ∷ []) lone in
    let w = after_start (codes "Lone") (pos 2 ∷ []) lone (finish 5) stopped_twice f in
    let told : IsFinishLine 5 w.lines = w.right in
    let before = starts ++ to.Finish 5 told.rounds ∷ [] in
    let stops : IsStop before w.stop = subst (λ ls. IsStop (starts ++ (ls ++ [])) w.stop) told.are w.stops in
    let once : count_by (λ (d : Seen). d.port == 0) stops.seen ≡ 1 = stops.all_seen 0 in
    let all : before ++ w.stop ≡ stopped_twice = sym (ap (λ ls. (starts ++ (ls ++ [])) ++ w.stop) told.are) ∙ w.are in
    let shape : w.stop ≡ to.Stop ∷ to.Close 0 ∷ map drained_line stops.seen = stops.are in
    let seen : map drained_line stops.seen ≡ drop 7 stopped_twice = sym (ap (drop 2) shape) ∙ ap (drop 7) all in
    let twice : count_by (λ (d : Seen). d.port == 0) stops.seen ≡ 2 = sym (told_count drained_line 0 (λ d. refl) stops.seen) ∙ ap (count_by (tells_of 0)) seen in
    omega (arith, once, twice)
