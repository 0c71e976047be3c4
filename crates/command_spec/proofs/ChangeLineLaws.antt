-- What the lines of a change lead to, and what is shown of it.
use Rattle.std.proofs.Common.{◌≡◌, ◌∙◌, ◌+◌, ℕ, List, [], ◌∷◌, ◌++◌, Option, None, Some, length, refl, sym, ap, subst, zero-add}
use Rattle.std.proofs.lemmas.Option.{same_Some}
use Rattle.cfg_io.specs.Shelf.{Files}
use Rattle.cfg_io.specs.Sink.{with_bytes}
use Rattle.config_graph.specs.Graph.{Graph, IsGraph, ports}
use Rattle.config_graph.specs.declared.node.Made.{Made}
use Rattle.change_plan.specs.Refusals.{CanPlan}
use Rattle.change_plan.specs.Room.{HasRoomFor}
use Rattle.change_spec.specs.Scripts.{more_made, nothing_made}
use Rattle.change_spec.specs.Statements.{start, change}
use Rattle.darwin_parser.specs.Tree.{Tree}
use Rattle.darwin_types.specs.Faults.{NoFault}
use Rattle.command_words.specs.declared.words.Change.{Change}
use Rattle.command_words.specs.declared.words.Cut.{Cut}
use Rattle.command_words.specs.declared.words.TopCall.{TopCall}
use Rattle.command_spec.specs.Commands.{Shown, ShowsChange, of_change}
use Rattle.command_spec.specs.Courses.{came, Follows, gives, here, leads_on, said, says}
use Rattle.command_spec.specs.Descriptions.{HasGraph, IsChecked, IsGraphOfCall}
use Rattle.command_spec.specs.Lines.{Allows, CallLeads, Progress, begun, calls, changes, of_lines, starts, with_description}
use Rattle.command_spec.specs.Outcomes.{HaveGraphs, TargetHas, WroteChange}
use Rattle.command_spec.specs.Plans.{lines_of_change, made_of_graph, statements_of_change, uses_other}
use Rattle.command_spec.specs.Queries.{IsTextBy}
use Rattle.command_spec.proofs.CourseLaws.{ComesTo, came_by}
use Rattle.command_spec.proofs.GraphLaws.{GraphOrFault, PlanAlone}
use Rattle.command_spec.proofs.WayLaws.{graph_of}

pub first_made : (g : Graph) → more_made nothing_made (length g.nodes) (length (ports g.nodes)) ≡ made_of_graph g
first_made g =
    let of : ℕ → ℕ → Made = λ n p. record { nodes = n; ports = p } in
    ap (λ n. of n (0 + length (ports g.nodes))) (zero-add (length g.nodes)) ∙ ap (of (length g.nodes)) (zero-add (length (ports g.nodes)))

first_is : (g h : Graph) (gs hs : List Graph) → g ∷ gs ≡ h ∷ hs → g ≡ h
first_is g h gs hs is = cc

-- A start, and behind it a change: the graphs, of these trees, and the statements.
pub record Led (c : Change) (tree other_tree : Tree) (p : Progress) : Type 0 where
  pub old : Graph
  pub new : Graph
  pub is_old : IsGraphOfCall tree c.call.top c.call.args old
  pub is_new : IsGraphOfCall other_tree c.target.top c.target.args new
  pub room : HasRoomFor nothing_made old
  pub can : CanPlan old new [] (made_of_graph old)
  pub said_are : p.statements ≡ statements_of_change c old new

-- the change stands behind the start, or behind the description of another file
record Follows_start (p q : Progress) (tree : Tree) : Type 0 where
  used_is : q.used ≡ Some tree
  graphs_are : q.graphs ≡ p.graphs
  made_is : q.made ≡ p.made
  said_are : q.statements ≡ p.statements

allowed_from :
    (q : Progress) (g : Graph) (made : Made) (old : Graph) → q.graphs ≡ old ∷ [] → Allows q (changes 0 []) g made → CanPlan old g [] q.made
allowed_from q g made old above (other, earlier, is, (can, made_is)) =
    subst (λ o. CanPlan o g [] q.made) (first_is other old earlier [] (sym is ∙ above)) can

lines_led :
    (c : Change) (tree other_tree : Tree) (p q r : Progress) → CallLeads (with_description begun c.file tree) starts c.call.top c.call.args p
    → Follows_start p q other_tree → CallLeads q (changes 0 []) c.target.top c.target.args r → Led c tree other_tree r
lines_led c tree other_tree p q r first between second =
    let old = first.graph in
    let new = second.graph in
    let above : q.graphs ≡ old ∷ [] = between.graphs_are ∙ ap (λ (p : Progress). p.graphs) first.is_next in
    let made_is : q.made ≡ made_of_graph old = between.made_is ∙ ap (λ (p : Progress). p.made) first.is_next ∙ first.allowed.1 ∙ first_made old in
    let said_are : q.statements ≡ start c.call.top c.call.args old ∷ [] = between.said_are ∙ ap (λ (p : Progress). p.statements) first.is_next in
    record {
      old = old;
      new = new;
      is_old = subst (λ t. IsGraphOfCall t c.call.top c.call.args old) (sym (same_Some tree first.tree first.is_used)) first.is_graph;
      is_new = subst (λ t. IsGraphOfCall t c.target.top c.target.args new) (sym (same_Some other_tree second.tree (sym between.used_is ∙ second.is_used))) second.is_graph;
      room = first.allowed.0;
      can = subst (λ m. CanPlan old new [] m) made_is (allowed_from q new second.made old above second.allowed);
      said_are = ap (λ (p : Progress). p.statements) second.is_next ∙ ap (λ ss. ss ++ change c.target.top c.target.args new 0 [] ∷ []) said_are;
    }

-- behind the start itself
same_file :
    (c : Change) (tree : Tree) (p : Progress) → CallLeads (with_description begun c.file tree) starts c.call.top c.call.args p → Follows_start p p tree
same_file c tree p first = record {
  used_is = ap (λ (p : Progress). p.used) first.is_next;
  graphs_are = refl;
  made_is = refl;
  said_are = refl;
}

other_file : (p : Progress) (file : List ℕ) (tree : Tree) → Follows_start p (with_description p file tree) tree
other_file p file tree = record { used_is = refl; graphs_are = refl; made_is = refl; said_are = refl }

-- ---- by what the files hold

-- so the components have these graphs, and these are the statements
pub record LeadsTo (files : Option Files) (c : Change) (p : Progress) : Type 0 where
  pub old : Graph
  pub new : Graph
  pub have : HaveGraphs files c old new
  pub said_are : p.statements ≡ statements_of_change c old new

has_graph : (text : List ℕ) (tree : Tree) (call : TopCall) (g : Graph) → IsChecked text tree → IsGraphOfCall tree call.top call.args g → HasGraph text call.top call.args g
has_graph text tree call g checked is = record { tree = tree; checked = checked; is = is }

module _ (files : Option Files) (c : Change) where
  pub leads_to : (p : Progress) → Follows files (of_lines begun (lines_of_change c)) [] (came p) → LeadsTo files c p
  leads_to r (leads_on text _ _ told (gives tree _ _ checked (gives p _ _ first rest))) = by c.other rest refl
    where
      of :
          (other_tree : Tree) → Led c tree other_tree r
          → ((new : Graph) → IsGraphOfCall other_tree c.target.top c.target.args new → TargetHas files text c.other c.target new) → LeadsTo files c r
      of other_tree l target = record {
        old = l.old;
        new = l.new;
        have = record {
          text = text;
          is_told = told;
          starts = record { has_graph = has_graph text tree c.call l.old checked l.is_old; has_room = l.room };
          target = target l.new l.is_new;
          has_room = l.can;
        };
        said_are = l.said_are;
      }

      by :
          (other : Option (List ℕ)) → Follows files (of_lines p (uses_other other ++ calls (changes 0 []) c.target.top c.target.args ∷ [])) [] (came r)
          → c.other ≡ other → LeadsTo files c r
      by None (gives _ _ _ second here) is =
          of tree (lines_led c tree tree p p r first (same_file c tree p first) second)
          (λ new has. subst (λ o. TargetHas files text o c.target new) (sym is) (has_graph text tree c.target new checked has))
      by (Some file) (leads_on more _ _ also (gives other_tree _ _ sound (gives _ _ _ second here))) is =
          of other_tree (lines_led c tree other_tree p (with_description p file other_tree) r first (other_file p file other_tree) second)
          (λ new has. subst (λ o. TargetHas files text o c.target new) (sym is)
          (record { text = more; is_told = also; has_graph = has_graph more other_tree c.target new sound has }))

-- ---- what is shown

pub change_shown :
    (files : Option Files) (cut : Cut) (c : Change) (s : Shown) → Follows files (of_change cut c) [] (came s)
    → (p : Progress) × Follows files (of_lines begun (lines_of_change c)) [] (came p) × ShowsChange cut c p.statements s
change_shown files cut c s on = by (came_by files (λ (p : Progress). says (ShowsChange cut c p.statements)) (of_lines begun (lines_of_change c)) s on)
  where
    by : (p : Progress) × Follows files (of_lines begun (lines_of_change c)) [] (came p) × Follows files (says (ShowsChange cut c p.statements)) [] (came s)
        → (p : Progress) × Follows files (of_lines begun (lines_of_change c)) [] (came p) × ShowsChange cut c p.statements s
    by (p, lead, said _ is) = (p, lead, is)

-- the statements tell the graphs
pub same_graphs : (c : Change) (old new other another : Graph) → statements_of_change c old new ≡ statements_of_change c other another → (old ≡ other) × (new ≡ another)
same_graphs c old new other another is = (cc is, cc is)

pub wrote_change :
    (files : Option Files) (cut : Cut) (c : Change) (s : Shown) (taken taken' : Option (List ℕ)) → Follows files (of_change cut c) [] (came s)
    → taken' ≡ with_bytes taken s.text → WroteChange (IsTextBy cut c.call c.target s.own) files c taken taken'
wrote_change files cut c s taken taken' on wrote =
    let f = change_shown files cut c s on in
    let l = leads_to files c f.0 f.1 in
    let w = f.2 in
    let same = same_graphs c w.old w.new l.old l.new (sym w.said_are ∙ l.said_are) in
    record {
      old = l.old;
      new = l.new;
      have_graphs = l.have;
      text = s.text;
      is_text = subst (λ g. IsTextBy cut c.call c.target s.own g l.new s.text) same.0 (subst (λ g. IsTextBy cut c.call c.target s.own w.old g s.text) same.1 w.is_text);
      written = wrote;
    }

-- ---- whatever the files hold

-- the graphs are such as plans are made of
pub record OfGraphs (c : Change) (p : Progress) : Type 0 where
  pub old : Graph
  pub new : Graph
  pub said_are : p.statements ≡ statements_of_change c old new
  pub is_old : IsGraph old
  pub is_new : IsGraph new

module _ (graphs : GraphOrFault) (alone : PlanAlone) (c : Change) where
  of_lines_led : (tree other_tree : Tree) (r : Progress) → NoFault tree → NoFault other_tree → Led c tree other_tree r → OfGraphs c r
  of_lines_led tree other_tree r sound other_sound l = record {
    old = l.old;
    new = l.new;
    said_are = l.said_are;
    is_old = graph_of graphs alone tree c.call.top c.call.args l.old sound l.is_old;
    is_new = graph_of graphs alone other_tree c.target.top c.target.args l.new other_sound l.is_new;
  }

  pub change_of_graphs : ComesTo (OfGraphs c) (of_lines begun (lines_of_change c))
  change_of_graphs = λ text tree checked p first. by tree checked.sound p first c.other
    where
      by :
          (tree : Tree) → NoFault tree → (p : Progress) → CallLeads (with_description begun c.file tree) starts c.call.top c.call.args p
          → (other : Option (List ℕ)) → ComesTo (OfGraphs c) (of_lines p (uses_other other ++ calls (changes 0 []) c.target.top c.target.args ∷ []))
      by tree sound p first None = λ r second.
          of_lines_led tree tree r sound sound (lines_led c tree tree p p r first (same_file c tree p first) second)
      by tree sound p first (Some file) = λ text other_tree checked r second.
          of_lines_led tree other_tree r sound checked.sound
          (lines_led c tree other_tree p (with_description p file other_tree) r first (other_file p file other_tree) second)
