-- A reader has no choice, and what it tests of a change is what a change must be.
use Rattle.std.proofs.Common.{◌≡◌, ◌∙◌, ℕ, List, [], ◌∷◌, ◌++◌, append_assoc, append-nil, length, map, refl, sym, ap, subst, inl, inr}
use Rattle.std.specs.Prelude.{◌⊎◌, ℤ}
use Rattle.std.proofs.lemmas.List.{append_cancel_left, map-append}
use Rattle.base.specs.Each.{EachAfter}
use Rattle.base.proofs.EachLaws.{each_at, each_pushed}
use Rattle.base.proofs.PlaceLaws.{heads_are, tails_are}
use Rattle.config_graph.specs.Graph.{Graph}
use Rattle.config_graph.proofs.GraphByLaws.{one_graph}
use Rattle.change_plan.specs.Moves.{MayMoveAll}
use Rattle.change_plan.specs.Plans.{IsPlanOf}
use Rattle.change_plan.specs.declared.plan_data.Move.{Move}
use Rattle.change_plan.specs.declared.plan_data.Plan.{Plan}
use Rattle.change_plan_laws.specs.Commit.{commit_events, ports_to_close}
use Rattle.quiesce_core.specs.Live.{AreLinked, IsGraphOf, IsLiveNode}
use Rattle.quiesce_core.specs.State.{Configuration}
use Rattle.report_types.specs.declared.report.HistoryLine.{HistoryLine}
use Rattle.report_types.specs.declared.report.HistoryLine.TheVariants as to
use Rattle.change_spec.specs.Changes.{IsChange, IsCommitted, IsGivenUp, opening_lines, pending_lines, seen_in_all}
use Rattle.change_spec.specs.Follows.{Follows, IsRight, IsStop, Part, lines_of}
use Rattle.change_spec.specs.Members.{lines_of_events}
use Rattle.change_spec.specs.Scene.{AreSeen, config_after, drained_line}
use Rattle.change_spec.specs.Statements.{Statement}
use Rattle.change_spec.proofs.MemberLaws.{lines_more}
use Rattle.change_plan.proofs.PlanLaws.{one_plan}
use Rattle.merge_laws.specs.Descents.{pieces}
use Rattle.merge_laws.specs.Reading.{HasRead, IsChangeSo, IsCommittedSo, IsGivenUpSo}
use Rattle.merge_laws.proofs.DescentLemmas.{all_in_pieces, falls_are_few, pieces_are_looks}
use Rattle.merge_laws.proofs.FrontLemmas.{one_front}
use Rattle.merge_laws.proofs.TellingLemmas.{still_closed}

-- ---- a change

module _ (before : List HistoryLine) (name : List ℕ) (args : List ℤ) (old new : Graph) (within : ℕ) (moves : List Move) (plan : Plan)
    (is_old : IsGraphOf (config_after before) old) (is_plan : IsPlanOf old new moves plan) where
  abbrev c : Configuration
  c = config_after before

  abbrev closed : List ℕ
  closed = ports_to_close old plan c

  abbrev d : Configuration
  d = config_after (before ++ opening_lines name args old plan c)

  ends_so : (rest : List HistoryLine) → IsCommitted old new plan within d rest ⊎ IsGivenUp closed within rest
      → IsCommittedSo within closed (commit_events old new plan d) rest ⊎ IsGivenUpSo within closed rest
  ends_so rest (inl e) =
      inl (record {
        seen = seen_in_all e.looks;
        few = falls_are_few within e.looks e.are_looks;
        all_seen = subst (λ ps. AreSeen ps (seen_in_all e.looks)) (still_closed before name args old plan) e.all_seen;
        are = e.are;
      })
  ends_so rest (inr e) =
      inr (record {
        seen = seen_in_all e.looks;
        left = e.left;
        few = falls_are_few within e.looks e.are_looks;
        some_left = e.some_left;
        all_seen = e.all_seen;
        are = e.are;
      })

  so_ends : (rest : List HistoryLine) → IsCommittedSo within closed (commit_events old new plan d) rest ⊎ IsGivenUpSo within closed rest
      → IsCommitted old new plan within d rest ⊎ IsGivenUp closed within rest
  so_ends rest (inl e) =
      let same = all_in_pieces e.seen in
      inl (record {
        looks = pieces e.seen;
        are_looks = pieces_are_looks within e.seen e.few;
        all_seen = subst (λ s. AreSeen (ports_to_close old plan d) s) (sym same) (subst (λ ps. AreSeen ps e.seen) (sym (still_closed before name args old plan)) e.all_seen);
        are = e.are ∙ ap (λ s. map drained_line s ++ (lines_of_events (commit_events old new plan d) ++ to.Commit ∷ [])) (sym same);
      })
  so_ends rest (inr e) =
      let same = all_in_pieces e.seen in
      inr (record {
        looks = pieces e.seen;
        left = e.left;
        are_looks = pieces_are_looks within e.seen e.few;
        some_left = e.some_left;
        all_seen = subst (λ s. AreSeen closed (s ++ e.left)) (sym same) e.all_seen;
        are = e.are ∙ ap (λ s. map drained_line s ++ pending_lines within e.left closed) (sym same);
      })

  pub change_so : (lines : List HistoryLine) → IsChange before name args new within moves lines → IsChangeSo name args within closed (commit_events old new plan d) lines
  change_so lines x =
      let old_is : x.old ≡ old = one_graph (IsLiveNode c) (AreLinked c) x.old old x.is_old is_old in
      let plan_is : x.plan ≡ plan = one_plan old new moves x.plan plan (subst (λ g. IsPlanOf g new moves x.plan) old_is x.is_plan) is_plan in
      by_plan lines x.old x.plan old_is plan_is x.rest x.are x.ends
    where
      by_plan : (ls : List HistoryLine) (o : Graph) (p : Plan) → o ≡ old → p ≡ plan → (rest : List HistoryLine) → ls ≡ opening_lines name args o p c ++ rest
          → IsCommitted o new p within (config_after (before ++ opening_lines name args o p c)) rest ⊎ IsGivenUp (ports_to_close o p c) within rest
          → IsChangeSo name args within closed (commit_events old new plan d) ls
      by_plan ls o p oe pe rest are ends =
          record {
            rest = rest;
            are = are ∙ (λ i. opening_lines name args (oe i) (pe i) c ++ rest);
            ends = ends_so rest (subst (λ q. IsCommitted old new q within (config_after (before ++ opening_lines name args old q c)) rest ⊎ IsGivenUp (ports_to_close old q c) within rest) pe
                (subst (λ g. IsCommitted g new p within (config_after (before ++ opening_lines name args g p c)) rest ⊎ IsGivenUp (ports_to_close g p c) within rest) oe ends));
          }

  pub so_change : (lines : List HistoryLine) → MayMoveAll old new moves (length moves) → IsChangeSo name args within closed (commit_events old new plan d) lines
      → IsChange before name args new within moves lines
  so_change lines lead x =
      record { old = old; is_old = is_old; plan = plan; moves_lead = lead; is_plan = is_plan; rest = x.rest; are = x.are; ends = so_ends x.rest x.ends }

-- ---- the loop

abbrev Right : List Part → Part → Type 0
Right before p = IsRight (lines_of before) p.statement p.lines

abbrev asked : List Part → List Statement
asked parts = map (λ (p : Part). p.statement) parts

lines_both : (xs ys : List Part) → lines_of (xs ++ ys) ≡ lines_of xs ++ lines_of ys
lines_both [] ys = refl
lines_both (x ∷ xs) ys = ap (λ ls. x.lines ++ ls) (lines_both xs ys) ∙ sym (append_assoc x.lines (lines_of xs) (lines_of ys))

-- one more statement is read
pub reads_on : (done : List Statement) (history left : List HistoryLine) (s : Statement) (front rest : List HistoryLine) (h : HasRead done history left)
    → IsRight (lines_of h.parts) s front → left ≡ front ++ rest → HasRead (done ++ s ∷ []) history rest
reads_on done history left s front rest h right are =
    let p : Part = record { statement = s; lines = front } in
    record {
      parts = h.parts ++ p ∷ [];
      statements_are = map-append (λ (x : Part). x.statement) h.parts (p ∷ []) ∙ ap (λ ss. ss ++ s ∷ []) h.statements_are;
      right = (each_pushed Right h.parts p).1 (h.right, right);
      are = ap (λ ls. ls ++ rest) (lines_more h.parts p) ∙ append_assoc (lines_of h.parts) front rest ∙ ap (λ ls. lines_of h.parts ++ ls) (sym are) ∙ h.are;
    }

-- two ways to part a history are one, as far as both go
same_parts : (before xs ys : List Part) (more_ : List Statement) (l r : List HistoryLine) → EachAfter Right before xs → EachAfter Right before ys
    → asked ys ≡ asked xs ++ more_ → lines_of xs ++ l ≡ lines_of ys ++ r → (zs : List Part) × (ys ≡ xs ++ zs)
same_parts before [] ys more_ l r px py asks are = (ys, refl)
same_parts before (x ∷ xs) [] more_ l r px py asks are = absurd (cc asks)
same_parts before (x ∷ xs) (y ∷ ys) more_ l r px py asks are =
    let one : y.statement ≡ x.statement = heads_are y.statement x.statement (asked ys) (asked xs ++ more_) asks in
    let lines : x.lines ++ (lines_of xs ++ l) ≡ y.lines ++ (lines_of ys ++ r) =
    sym (append_assoc x.lines (lines_of xs) l) ∙ are ∙ append_assoc y.lines (lines_of ys) r in
    let front : x.lines ≡ y.lines =
    one_front (lines_of before) x.statement x.lines y.lines (lines_of xs ++ l) (lines_of ys ++ r) px.0 (subst (λ s. IsRight (lines_of before) s y.lines) one py.0) lines in
    let same : y ≡ x = (λ i. record { statement = one i; lines = (sym front) i }) in
    let w = same_parts (before ++ x ∷ []) xs ys more_ l r px.1 (subst (λ z. EachAfter Right (before ++ z ∷ []) ys) same py.1)
    (tails_are y.statement x.statement (asked ys) (asked xs ++ more_) asks)
    (append_cancel_left y.lines (lines_of xs ++ l) (lines_of ys ++ r) (ap (λ k. k ++ (lines_of xs ++ l)) (sym front) ∙ lines)) in
    (w.0, (λ i. same i ∷ w.1 i))

module _ (done more_ : List Statement) (history left : List HistoryLine) (h : HasRead done history left) (f : Follows (done ++ more_) history) where
  parted : (zs : List Part) × (f.parts ≡ h.parts ++ zs)
  parted = same_parts [] h.parts f.parts more_ left f.stop h.right f.right (f.statements_are ∙ ap (λ ss. ss ++ more_) (sym h.statements_are)) (h.are ∙ sym f.history_is)

  asked_then : asked parted.0 ≡ more_
  asked_then =
      append_cancel_left (asked h.parts) (asked parted.0) more_
      (sym (map-append (λ (x : Part). x.statement) h.parts parted.0) ∙ ap asked (sym parted.1) ∙ f.statements_are ∙ ap (λ ss. ss ++ more_) (sym h.statements_are))

  left_is : left ≡ lines_of parted.0 ++ f.stop
  left_is =
      append_cancel_left (lines_of h.parts) left (lines_of parted.0 ++ f.stop)
      (h.are ∙ sym f.history_is ∙ ap (λ ps. lines_of ps ++ f.stop) parted.1 ∙ ap (λ ls. ls ++ f.stop) (lines_both h.parts parted.0)
      ∙ append_assoc (lines_of h.parts) (lines_of parted.0) f.stop)

-- so where a history follows the script, what is left begins with the lines of the next statement
pub next_front : (done : List Statement) (s : Statement) (more_ : List Statement) (history left : List HistoryLine) (h : HasRead done history left) → Follows (done ++ s ∷ more_) history
    → (front : List HistoryLine) × (rest : List HistoryLine) × IsRight (lines_of h.parts) s front × (left ≡ front ++ rest)
next_front done s more_ history left h f =
    by (parted done (s ∷ more_) history left h f).0 (asked_then done (s ∷ more_) history left h f) (left_is done (s ∷ more_) history left h f)
    (subst (λ ps. EachAfter Right [] ps) (parted done (s ∷ more_) history left h f).1 f.right)
  where
    by : (zs : List Part) → asked zs ≡ s ∷ more_ → left ≡ lines_of zs ++ f.stop → EachAfter Right [] (h.parts ++ zs)
        → (front : List HistoryLine) × (rest : List HistoryLine) × IsRight (lines_of h.parts) s front × (left ≡ front ++ rest)
    by [] asks are right = absurd (cc asks)
    by (z ∷ zs) asks are right = (
      z.lines,
      lines_of zs ++ f.stop,
      subst (λ t. IsRight (lines_of h.parts) t z.lines) (heads_are z.statement s (asked zs) more_ asks) (each_at Right h.parts zs z right),
      are ∙ append_assoc z.lines (lines_of zs) f.stop,
    )

-- and once all statements are read, what is left must be the stop
pub last_front : (statements : List Statement) (history left : List HistoryLine) (h : HasRead statements history left) → Follows statements history → IsStop (lines_of h.parts) left
last_front statements history left h f =
    let g : Follows (statements ++ []) history = subst (λ ss. Follows ss history) (sym (append-nil statements)) f in
    by g (parted statements [] history left h g).0 (asked_then statements [] history left h g) (left_is statements [] history left h g) (parted statements [] history left h g).1
  where
    by : (g : Follows (statements ++ []) history) (zs : List Part) → asked zs ≡ [] → left ≡ lines_of zs ++ g.stop → g.parts ≡ h.parts ++ zs → IsStop (lines_of h.parts) left
    by g [] asks are parts = subst (λ ls. IsStop (lines_of h.parts) ls) (sym are) (subst (λ ps. IsStop (lines_of ps) g.stop) (parts ∙ append-nil h.parts) g.stops)
    by g (z ∷ zs) asks are parts = absurd (cc asks)

pub all_read : (statements : List Statement) (history left : List HistoryLine) (h : HasRead statements history left) → IsStop (lines_of h.parts) left → Follows statements history
all_read statements history left h stops =
    record { parts = h.parts; stop = left; statements_are = h.statements_are; right = h.right; stops = stops; history_is = h.are }
