-- Before the stop a port is closed only for a change, and its node is one that the change's plan freezes.
use Rattle.std.proofs.Common.{◌≡◌, ◌∙◌, ℕ, true, false, List, [], ◌∷◌, ◌++◌, append_assoc, length, map, refl, sym, ap, subst, ⊎_elim, Contains}
use Rattle.std.specs.Prelude.{ℤ}
use Rattle.std.specs.List.{list_any, range_with_len}
use Rattle.std.proofs.lemmas.Bool.{both_ways, cases_Bool, or_right}
use Rattle.std.proofs.lemmas.List.Elements.{Contains-append_right}
use Rattle.std.proofs.lemmas.List.Folds.{list_any-append}
use Rattle.base.specs.Each.{Each}
use Rattle.base.proofs.ContainsLaws.{Contains-from_filter, Contains-here}
use Rattle.base.proofs.EachLaws.{each_at}
use Rattle.base.proofs.PlaceLaws.{heads_are, tails_are, parted_at}
use Rattle.config_graph.specs.Graph.{Graph}
use Rattle.change_plan.specs.Plans.{IsPlanOf}
use Rattle.change_plan.specs.declared.plan_data.Move.{Move}
use Rattle.change_plan.specs.declared.plan_data.Plan.{Plan}
use Rattle.change_plan_laws.specs.Commit.{is_one_of, ports_to_close}
use Rattle.quiesce_core.specs.Live.{IsGraphOf}
use Rattle.quiesce_core.specs.State.{Configuration, owner}
use Rattle.report_types.specs.declared.report.HistoryLine.{HistoryLine}
use Rattle.report_types.specs.declared.report.HistoryLine.TheVariants as to
use Rattle.change_spec.specs.Changes.{IsChange, opening_lines}
use Rattle.change_spec.specs.Closings.{IsClosedFor}
use Rattle.change_spec.specs.Follows.{Follows, IsRight, Part, lines_of, skip_lines, start_lines}
use Rattle.change_spec.specs.Members.{is_close, is_pending}
use Rattle.change_spec.specs.Scene.{config_after}
use Rattle.change_spec.specs.Statements.{Statement, start, change, run, finish, show}
use Rattle.change_spec.proofs.ClosingLaws.{start_closes_none, ends_close_none}

-- a place in a list that is mapped

map_parts : {A B : Type 0} (f : A → B) (xs : List A) (front : List B) (y : B) (back : List B) → map f xs ≡ front ++ y ∷ back
    → (first : List A) × (x : A) × (last : List A) × (xs ≡ first ++ x ∷ last) × (front ≡ map f first) × (y ≡ f x)
map_parts f [] [] y back e = absurd (cc e)
map_parts f [] (z ∷ front) y back e = absurd (cc e)
map_parts f (x ∷ xs) [] y back e = ([], x, xs, refl, refl, sym (heads_are (f x) y (map f xs) back e))
map_parts f (x ∷ xs) (z ∷ front) y back e =
    let w = map_parts f xs front y back (tails_are (f x) z (map f xs) (front ++ y ∷ back) e) in
    let same : z ≡ f x = sym (heads_are (f x) z (map f xs) (front ++ y ∷ back) e) in
    (x ∷ w.0, w.1, w.2, ap (λ ys. x ∷ ys) w.3, (λ i. same i ∷ w.4 i), w.5)

-- a close in the lines of a statement

none_there : (lines xs front back : List HistoryLine) (p : ℕ) → lines ≡ xs → list_any is_close xs ≡ false → lines ≡ front ++ to.Close p ∷ back → ⊥
none_there lines xs front back p are none at =
    both_ways (list_any is_close lines) (ap (list_any is_close) are ∙ none)
    (ap (list_any is_close) at ∙ list_any-append is_close front (to.Close p ∷ back) ∙ or_right (list_any is_close front) true refl)

-- a change that this statement asks for closes port p behind these of its lines
record ForChange (before : List HistoryLine) (s : Statement) (lines front : List HistoryLine) (p : ℕ) : Type 0 where
  name : List ℕ
  args : List ℤ
  graph : Graph
  within : ℕ
  moves : List Move
  asks : s ≡ change name args graph within moves
  old : Graph
  is_old : IsGraphOf (config_after before) old
  plan : Plan
  is_plan : IsPlanOf old graph moves plan
  rest : List HistoryLine
  begins : lines ≡ opening_lines name args old plan (config_after before) ++ rest
  first : List ℕ
  last : List ℕ
  closes : ports_to_close old plan (config_after before) ≡ first ++ p ∷ last
  place : front ≡ to.Change name args ∷ map to.Close first

abbrev port_closed : HistoryLine → ℕ
port_closed (to.Close p) = p
port_closed _ = 0

in_opening : (name : List ℕ) (args : List ℤ) (old : Graph) (plan : Plan) (c : Configuration) (front back : List HistoryLine) (p : ℕ)
    → opening_lines name args old plan c ≡ front ++ to.Close p ∷ back
    → (first : List ℕ) × (last : List ℕ) × (ports_to_close old plan c ≡ first ++ p ∷ last) × (front ≡ to.Change name args ∷ map to.Close first)
in_opening name args old plan c [] back p at =
    absurd (both_ways true (sym (ap is_close (heads_are (to.Change name args) (to.Close p) (map to.Close (ports_to_close old plan c)) back at))) refl)
in_opening name args old plan c (l ∷ front) back p at =
    let closes = map to.Close (ports_to_close old plan c) in
    let same : l ≡ to.Change name args = sym (heads_are (to.Change name args) l closes (front ++ to.Close p ∷ back) at) in
    let w = map_parts to.Close (ports_to_close old plan c) front (to.Close p) back (tails_are (to.Change name args) l closes (front ++ to.Close p ∷ back) at) in
    (w.0, w.2, w.3 ∙ ap (λ q. w.0 ++ q ∷ w.2) (sym (ap port_closed w.5)), (λ i. same i ∷ w.4 i))

in_change : (before : List HistoryLine) (name : List ℕ) (args : List ℤ) (new : Graph) (within : ℕ) (moves : List Move) (lines front back : List HistoryLine) (p : ℕ)
    → IsChange before name args new within moves lines → lines ≡ front ++ to.Close p ∷ back → ForChange before (change name args new within moves) lines front p
in_change before name args new within moves lines front back p w at =
    let c = config_after before in
    let opening = opening_lines name args w.old w.plan c in
    let here : (first : List ℕ) × (last : List ℕ) × (ports_to_close w.old w.plan c ≡ first ++ p ∷ last) × (front ≡ to.Change name args ∷ map to.Close first) = ⊎_elim
    (λ (first : (z : List HistoryLine) × (opening ≡ front ++ to.Close p ∷ z)). in_opening name args w.old w.plan c front first.0 p first.1)
    (λ (later : (z : List HistoryLine) × (w.rest ≡ z ++ to.Close p ∷ back) × (front ≡ opening ++ z)). absurd (none_there w.rest w.rest later.0 back p refl
    (ends_close_none w.old new w.plan within (config_after (before ++ opening)) (ports_to_close w.old w.plan c) w.rest w.ends) later.1))
    (parted_at front (to.Close p) back opening w.rest (sym at ∙ w.are)) in
    record {
      name = name;
      args = args;
      graph = new;
      within = within;
      moves = moves;
      asks = refl;
      old = w.old;
      is_old = w.is_old;
      plan = w.plan;
      is_plan = w.is_plan;
      rest = w.rest;
      begins = w.are;
      first = here.0;
      last = here.1;
      closes = here.2;
      place = here.3;
    }

in_part : (before : List HistoryLine) (s : Statement) (lines front back : List HistoryLine) (p : ℕ) → IsRight before s lines → lines ≡ front ++ to.Close p ∷ back → ForChange before s lines front p
in_part before (start name args g) lines front back p right at = absurd (none_there lines (start_lines name args g) front back p right (start_closes_none name args g) at)
in_part before (change name args g within moves) lines front back p right at = ⊎_elim
    (λ (skipped : list_any is_pending before ≡ true). absurd (none_there lines (skip_lines name args) front back p (right.0 skipped) refl at))
    (λ (tried : list_any is_pending before ≡ false). in_change before name args g within moves lines front back p (right.1 tried) at)
    (cases_Bool (list_any is_pending before))
in_part before (run k) lines front back p right at = absurd (none_there lines (to.Run k right.ended ∷ []) front back p right.are refl at)
in_part before (finish n) lines front back p right at = absurd (none_there lines (to.Finish n right.rounds ∷ []) front back p right.are refl at)
in_part before show lines front back p right at = absurd (none_there lines (to.Show right.graph ∷ []) front back p right.are refl at)

-- the part to which a line belongs, with those before it and behind
record PartOf (parts : List Part) (front : List HistoryLine) (l : HistoryLine) : Type 0 where
  done : List Part
  own : Part
  later : List Part
  are : parts ≡ done ++ own ∷ later
  before : List HistoryLine
  after : List HistoryLine
  at : own.lines ≡ before ++ l ∷ after
  place : front ≡ lines_of done ++ before

part_of : (parts : List Part) (front : List HistoryLine) (l : HistoryLine) (back : List HistoryLine) → lines_of parts ≡ front ++ l ∷ back → PartOf parts front l
part_of [] [] l back e = absurd (cc e)
part_of [] (x ∷ front) l back e = absurd (cc e)
part_of (q ∷ parts) front l back e = ⊎_elim
    (λ (here : (z : List HistoryLine) × (q.lines ≡ front ++ l ∷ z)).
    record { done = []; own = q; later = parts; are = refl; before = front; after = here.0; at = here.1; place = refl })
    (λ (there : (z : List HistoryLine) × (lines_of parts ≡ z ++ l ∷ back) × (front ≡ q.lines ++ z)).
    let w = part_of parts there.0 l back there.1 in
    record {
      done = q ∷ w.done;
      own = w.own;
      later = w.later;
      are = ap (λ ys. q ∷ ys) w.are;
      before = w.before;
      after = w.after;
      at = w.at;
      place = there.2 ∙ ap (λ ls. q.lines ++ ls) w.place ∙ sym (append_assoc q.lines (lines_of w.done) w.before);
    })
    (parted_at front l back q.lines (lines_of parts) (sym e))

frozen_if : (old : Graph) (plan : Plan) (c : Configuration) (first last : List ℕ) (p : ℕ) → ports_to_close old plan c ≡ first ++ p ∷ last → is_one_of old plan.freeze c (owner c p) ≡ true
frozen_if old plan c first last p closes =
    (Contains-from_filter (λ q. is_one_of old plan.freeze c (owner c q)) (range_with_len 0 (length c.gates)) p
    (subst (λ qs. Contains qs p) (sym closes) (Contains-append_right first (p ∷ last) p (Contains-here p last)))).1

pub closed_for : (statements : List Statement) (history : List HistoryLine) (f : Follows statements history) (front back : List HistoryLine) (p : ℕ)
    → lines_of f.parts ≡ front ++ to.Close p ∷ back → IsClosedFor f.parts front p
closed_for statements history f front back p e =
    let at = part_of f.parts front (to.Close p) back e in
    let right = each_at (λ before (x : Part). IsRight (lines_of before) x.statement x.lines) at.done at.later at.own
    (subst (λ ps. Each (λ before (x : Part). IsRight (lines_of before) x.statement x.lines) ps) at.are f.right) in
    let c = in_part (lines_of at.done) at.own.statement at.own.lines at.before at.after p right at.at in
    record {
      done = at.done;
      lines = at.own.lines;
      later = at.later;
      name = c.name;
      args = c.args;
      graph = c.graph;
      within = c.within;
      moves = c.moves;
      asked = at.are ∙ ap (λ s. at.done ++ record { statement = s; lines = at.own.lines } ∷ at.later) c.asks;
      old = c.old;
      is_old = c.is_old;
      plan = c.plan;
      is_plan = c.is_plan;
      rest = c.rest;
      begins = c.begins;
      first = c.first;
      last = c.last;
      closes = c.closes;
      place = at.place ∙ ap (λ ls. lines_of at.done ++ ls) c.place;
      frozen = frozen_if c.old c.plan (config_after (lines_of at.done)) c.first c.last p c.closes;
    }
