-- A script read step by step: what is known between two steps, and what follows at the end.
use Rattle.std.proofs.Common.{◌≡◌, ◌∙◌, ℕ, ◌+◌, ◌<◌, Bool, List, [], ◌∷◌, ◌++◌, append_assoc, drop, get_or, length, map, take, refl, sym, ap, subst}
use Rattle.std.specs.Prelude.{◌↔◌, IsTrue}
use Rattle.std.proofs.lemmas.List.{append_cancel_right, drop_more, map-append, take_more}
use Rattle.config_graph.specs.Graph.{Graph}
use Rattle.report_types.specs.declared.report.HistoryLine.{HistoryLine}
use Rattle.change_spec.specs.Asked.{Above, CanDoAll, after_start, statement_of, statements_of}
use Rattle.change_spec.specs.Follows.{Follows, IsRight, IsStop, lines_of, start_lines}
use Rattle.change_spec.specs.Statements as statements
use Rattle.change_spec.specs.Statements.{Statement}
use Rattle.change_spec.specs.declared.steps.Start.{Start}
use Rattle.change_spec.specs.declared.steps.Step.{Step}
use Rattle.change_spec.specs.declared.steps.Step.TheVariants as steps
use Rattle.change_lists.specs.declared.layout.Layout.{Layout}
use Rattle.merge_laws.specs.Reading.{HasRead}
use Rattle.report_follows.specs.Fronts.{HasNoFront, LeadsTo}
use Rattle.report_follows.specs.Readers.{CanGo, IsBehind, IsReadSo, after_step}

-- the lines of these steps are read, and those to come may be asked for
pub record Progress (start : Start) (done rest : List Step) (history left : List HistoryLine) (g : Graph) (l : Layout) (given_up : Bool) : Type 0 where
  pub above : Above
  pub can : CanDoAll above rest
  pub read : HasRead (statements_of start done) history left
  pub behind : IsBehind above (lines_of read.parts) g l given_up

-- ---- what the law says that is called

abbrev pub ReadsOn : Type 0
ReadsOn = (done : List Statement) (history left : List HistoryLine) (s : Statement) (front rest : List HistoryLine) (h : HasRead done history left)
    → IsRight (lines_of h.parts) s front → left ≡ front ++ rest → HasRead (done ++ s ∷ []) history rest

abbrev pub HasNext : Type 0
HasNext = (done : List Statement) (s : Statement) (more_ : List Statement) (history left : List HistoryLine) (h : HasRead done history left) → Follows (done ++ s ∷ more_) history
    → (front : List HistoryLine) × (rest : List HistoryLine) × IsRight (lines_of h.parts) s front × (left ≡ front ++ rest)

abbrev pub EndsWithStop : Type 0
EndsWithStop = (statements : List Statement) (history left : List HistoryLine) (h : HasRead statements history left) → Follows statements history → IsStop (lines_of h.parts) left

abbrev pub StopEnds : Type 0
StopEnds = (statements : List Statement) (history left : List HistoryLine) (h : HasRead statements history left) → IsStop (lines_of h.parts) left → Follows statements history

-- ---- the lines that were read

nothing_read : (history : List HistoryLine) → HasRead [] history history
nothing_read history = record { parts = []; statements_are = refl; right = tt; are = refl }

read_lines : (ss : List Statement) (history rest xs : List HistoryLine) (h : HasRead ss history rest) → xs ++ rest ≡ history → lines_of h.parts ≡ xs
read_lines ss history rest xs h are = append_cancel_right (lines_of h.parts) xs rest (h.are ∙ sym are)

-- ---- one step

pub can_go : (above : Above) (s : Step) (more_ : List Step) → CanDoAll above (s ∷ more_) → (can : CanGo above s) × CanDoAll (after_step above s can) more_
can_go above (steps.Change c) more_ can = can
can_go above (steps.Run k) more_ can = (tt, can)
can_go above (steps.Finish n) more_ can = (tt, can)
can_go above steps.Show more_ can = (tt, can)

module _ (start : Start) (history : List HistoryLine) where
  pub begun : ReadsOn → (all : List Step) → CanDoAll (after_start start) all → (left : List HistoryLine) (g : Graph) (l : Layout) (given_up : Bool)
      → LeadsTo (λ (ls : List HistoryLine). (ls ≡ start_lines start.name start.args start.graph) × IsBehind (after_start start) ls g l given_up) history left
      → Progress start [] all history left g l given_up
  begun on all can left g l given_up x =
      let s = statements.start start.name start.args start.graph in
      let read = on [] history history s x.front left (nothing_read history) x.is.0 x.parts in
      record {
        above = after_start start;
        can = can;
        read = read;
        behind = subst (λ ls. IsBehind (after_start start) ls g l given_up) (sym (read_lines (s ∷ []) history left x.front read (sym x.parts))) x.is.1;
      }

  pub not_begun : HasNext → (all : List Step) → HasNoFront (λ (ls : List HistoryLine). ls ≡ start_lines start.name start.args start.graph) history → Follows (statements_of start all) history → ⊥
  not_begun next all none follows =
      let s = statements.start start.name start.args start.graph in
      let w = next [] s (map statement_of all) history history (nothing_read history) follows in
      none w.0 w.1 w.2 w.3

  module _ (done : List Step) (s : Step) (more_ : List Step) (left : List HistoryLine) (g : Graph) (l : Layout) (given_up : Bool) (p : Progress start done (s ∷ more_) history left g l given_up) where
    pub may_go : CanGo p.above s
    may_go = (can_go p.above s more_ p.can).0

    asked : statements_of start done ++ statement_of s ∷ [] ≡ statements_of start (done ++ s ∷ [])
    asked = ap (λ ss. statements.start start.name start.args start.graph ∷ ss) (sym (map-append statement_of done (s ∷ [])))

    pub onward : ReadsOn → (then : List HistoryLine) (h : Graph) (k : Layout) (flag : Bool) → LeadsTo (IsReadSo p.above s (can_go p.above s more_ p.can).0 (lines_of p.read.parts) h k flag) left then
        → Progress start (done ++ s ∷ []) more_ history then h k flag
    onward on then h k flag x =
        let before = lines_of p.read.parts in
        let read : HasRead (statements_of start (done ++ s ∷ [])) history then =
        subst (λ ss. HasRead ss history then) asked (on (statements_of start done) history left (statement_of s) x.front then p.read x.is.0 x.parts) in
        let all : (before ++ x.front) ++ then ≡ history = append_assoc before x.front then ∙ ap (λ ls. before ++ ls) (sym x.parts) ∙ p.read.are in
        record {
          above = after_step p.above s (can_go p.above s more_ p.can).0;
          can = (can_go p.above s more_ p.can).1;
          read = read;
          behind = subst (λ ls. IsBehind (after_step p.above s (can_go p.above s more_ p.can).0) ls h k flag)
              (sym (read_lines (statements_of start (done ++ s ∷ [])) history then (before ++ x.front) read all)) x.is.1;
        }

    pub not_onward : HasNext → HasNoFront (IsRight (lines_of p.read.parts) (statement_of s)) left → Follows (statements_of start (done ++ s ∷ more_)) history → ⊥
    not_onward next none follows =
        let here : statements_of start (done ++ s ∷ more_) ≡ statements_of start done ++ statement_of s ∷ map statement_of more_ =
        ap (λ ss. statements.start start.name start.args start.graph ∷ ss) (map-append statement_of done (s ∷ more_)) in
        let w = next (statements_of start done) (statement_of s) (map statement_of more_) history left p.read (subst (λ ss. Follows ss history) here follows) in
        none w.0 w.1 w.2 w.3

  pub ended : EndsWithStop → StopEnds → (all rest : List Step) (left : List HistoryLine) (g : Graph) (l : Layout) (given_up : Bool) (p : Progress start all rest history left g l given_up)
      → (b : Bool) → IsTrue b ↔ IsStop (lines_of p.read.parts) left → IsTrue b ↔ Follows (statements_of start all) history
  ended last all_ all rest left g l given_up p b x = (
    λ e. all_ (statements_of start all) history left p.read (x.0 e),
    λ f. x.1 (last (statements_of start all) history left p.read f),
  )

-- ---- places of the steps

pub steps_before : (all : List Step) (i : ℕ) (s : Step) → i < length all → s ≡ get_or all i s → take (i + 1) all ≡ take i all ++ s ∷ []
steps_before all i s within is = take_more all i s within ∙ ap (λ x. take i all ++ x ∷ []) (sym is)

pub steps_from : (all : List Step) (i : ℕ) (s : Step) → i < length all → s ≡ get_or all i s → drop i all ≡ s ∷ drop (i + 1) all
steps_from all i s within is = drop_more all i s within ∙ ap (λ x. x ∷ drop (i + 1) all) (sym is)
