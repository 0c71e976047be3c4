-- Lines are decided by what the files hold: each leads to one progress or is refused, and never both.
use Rattle.std.proofs.Common.{◌≡◌, ◌∙◌, ◌⊎◌, inl, inr, ℕ, ℤ, List, [], ◌∷◌, Some, length, refl, sym, ap, subst}
use Rattle.std.specs.List.{AllByRecursion}
use Rattle.std.proofs.lemmas.Option.{same_Some, none-some}
use Rattle.config_graph.specs.Graph.{Graph, IsGraph, ports}
use Rattle.config_graph.specs.Sound.{Sound}
use Rattle.config_graph.specs.declared.node.Made.{Made}
use Rattle.change_plan.specs.Refusals.{CreatesSoMany, IsRefusal}
use Rattle.change_plan.proofs.RoomLaws.{no_room, one_wanted}
use Rattle.darwin_parser.specs.Tree.{Name, Tree}
use Rattle.darwin_types.specs.Faults.{NoFault}
use Rattle.elaborator.specs.Elaboration.{HasNoFault, ElaboratesTo}
use Rattle.elaborator.specs.Faults.{Faults}
use Rattle.elaborator.specs.declared.error.ElabError.{ElabError}
use Rattle.change_spec.specs.Scripts.{more_made}
use Rattle.cfg_io.specs.Shelf.{Files}
use Rattle.change_script.proofs.ScriptFileLaws as scripts
use Rattle.command_spec.specs.Descriptions.{HasGraph, IsGraphOfCall}
use Rattle.command_spec.specs.Lines.{GraphUse, starts, changes, RunLine, uses, calls, does, Progress, begun, of_lines, with_description, with_called_graph, with_statement, Allows, Forbids, CallLeads, IsCallRefusal, by_elaboration, by_deed}
use Rattle.command_spec.specs.Scripts.{Elaborates, lines_of_script, prepares}
use Rattle.command_spec.specs.Sorts.{limit_of, of_description}
use Rattle.command_spec.proofs.CourseLaws.{Decided, told_once}
use Rattle.command_spec.proofs.GraphLaws.{GraphOrFault, PlanAlone, is_graph}
use Rattle.command_spec.proofs.Planning.{one_graph, one_graph_of}
use Rattle.command_spec.proofs.Readings as readings

-- ---- one call leads to one progress

head_is : (g h : Graph) (gs hs : List Graph) → g ∷ gs ≡ h ∷ hs → g ≡ h
head_is g h gs hs is = cc

module _ (p : Progress) where
  same_tree : (t u : Tree) → p.used ≡ Some t → p.used ≡ Some u → t ≡ u
  same_tree t u a b = same_Some t u (sym a ∙ b)

  same_graph :
      (name : Name) (args : List ℤ) (t u : Tree) (g h : Graph) → p.used ≡ Some t → p.used ≡ Some u → IsGraphOfCall t name args g → IsGraphOfCall u name args h
      → g ≡ h
  same_graph name args t u g h a b x y =
      one_graph_of u name args g h (subst (λ v. ElaboratesTo v name args g) (same_tree t u a b) x.is_graph) y.is_graph

  one_made : (deed : GraphUse) (g : Graph) (m n : Made) → Allows p deed g m → Allows p deed g n → m ≡ n
  one_made starts g m n x y = x.1 ∙ sym y.1
  one_made (changes within moves) g m n (old, earlier, is, (can, made_is)) (other, before, also, (may, makes)) =
      let old_is : old ≡ other = head_is old other earlier before (sym is ∙ also) in
      let same = one_wanted other g can.nodes can.ports may.nodes may.ports (subst (λ o. CreatesSoMany o g can.nodes can.ports) old_is can.wanted) may.wanted in
      made_is ∙ ap (λ k. more_made p.made k can.ports) same.0 ∙ ap (λ k. more_made p.made may.nodes k) same.1 ∙ sym makes

  one_next : (deed : GraphUse) (name : Name) (args : List ℤ) (next other : Progress) → CallLeads p deed name args next → CallLeads p deed name args other → next ≡ other
  one_next deed name args next other x y =
      let graph = same_graph name args x.tree y.tree x.graph y.graph x.is_used y.is_used x.is_graph y.is_graph in
      let made = one_made deed y.graph x.made y.made (subst (λ g. Allows p deed g x.made) graph x.allowed) y.allowed in
      x.is_next ∙ ap (λ g. with_called_graph p deed name args g x.made) graph ∙ ap (λ m. with_called_graph p deed name args y.graph m) made ∙ sym y.is_next

-- a component elaborates to one graph
pub one_elaborated :
    (f : Files) (file : List ℕ) (name : Name) (args : List ℤ) (g h : Graph) → Elaborates (Some f) file name args g → Elaborates (Some f) file name args h
    → g ≡ h
one_elaborated f file name args g h x y =
    one_graph y.text name args g h
    (subst (λ t. HasGraph t name args g) (told_once f (limit_of of_description) file y.text x.text y.is_told x.is_told) x.has_graph) y.has_graph

-- ---- which isn't refused

-- From laws of the elaborator and of plans, as they stand there.
module _ (graphs : GraphOrFault) (alone : PlanAlone) where
  pub graph_of : (tree : Tree) (name : Name) (args : List ℤ) (g : Graph) → NoFault tree → IsGraphOfCall tree name args g → IsGraph g
  graph_of tree name args g sound is = by (graphs tree name args sound)
    where
      by :
          ((f : ElabError) × Faults tree name args f) ⊎ ((h : Graph) × HasNoFault tree name args × ElaboratesTo tree name args h × Sound h)
          → IsGraph g
      by (inl (f, faults)) = absurd (is.no_fault f faults)
      by (inr (h, none, leads, well)) = is_graph tree name args g is.no_fault is.is_graph (subst Sound (one_graph_of tree name args h g leads is.is_graph) well)

  -- the tree and the graphs of a progress are well formed
  pub record InOrder (p : Progress) : Type 0 where
    pub are_graphs : AllByRecursion IsGraph p.graphs
    pub checked : (tree : Tree) → p.used ≡ Some tree → NoFault tree

  called : (p : Progress) (deed : GraphUse) (name : Name) (args : List ℤ) (next : Progress) → InOrder p → (leads : CallLeads p deed name args next) → IsGraph leads.graph
  called p deed name args next order leads = graph_of leads.tree name args leads.graph (order.checked leads.tree leads.is_used) leads.is_graph

  call_in_order :
      (p : Progress) (deed : GraphUse) (name : Name) (args : List ℤ) (next : Progress) → InOrder p → (leads : CallLeads p deed name args next)
      → InOrder (with_called_graph p deed name args leads.graph leads.made)
  call_in_order p deed name args next order leads = record { are_graphs = (called p deed name args next order leads, order.are_graphs); checked = order.checked }

  not_forbidden :
      (p : Progress) (deed : GraphUse) (g : Graph) (made : Made) (words : List (List ℕ)) → InOrder p → IsGraph g → Allows p deed g made
      → Forbids p deed g words → ⊥
  not_forbidden p starts g made words order rise allows (e, lacks, is) = no_room p.made (length g.nodes) (length (ports g.nodes)) e allows.0 lacks
  not_forbidden p (changes within moves) g made words order rise (old, earlier, is, (can, made_is)) (other, before, also, (e, refusal, says)) =
      let old_is : other ≡ old = head_is other old before earlier (sym also ∙ is) in
      let all = subst (λ gs. AllByRecursion IsGraph gs) is order.are_graphs in
      alone old g moves p.made all.0 rise e can (subst (λ o. IsRefusal o g moves p.made e) old_is refusal)

  not_refused_call :
      (p : Progress) (deed : GraphUse) (name : Name) (args : List ℤ) (next : Progress) (words : List (List ℕ)) → InOrder p → CallLeads p deed name args next
      → IsCallRefusal p deed name args words → ⊥
  not_refused_call p deed name args next _ order leads (by_elaboration tree e used faults) =
      leads.is_graph.no_fault e (subst (λ t. Faults t name args e) (same_tree p tree leads.tree used leads.is_used) faults)
  not_refused_call p deed name args next _ order leads (by_deed tree g words used is forbids) =
      let graph = same_graph p name args tree leads.tree g leads.graph used leads.is_used is leads.is_graph in
      not_forbidden p deed leads.graph leads.made words order (called p deed name args next order leads) leads.allowed
      (subst (λ h. Forbids p deed h words) graph forbids)

  -- ---- lines are decided

  pub lines_decided : (lines : List RunLine) (p : Progress) → InOrder p → Decided (λ x y. x ≡ y) (of_lines p lines)
  lines_decided [] p order = refl
  lines_decided (uses file ∷ lines) p order = λ text. (
    λ words tree refuses checked. readings.not_refused text tree words checked refuses,
    λ tree other checked also. readings.one_tree text tree other checked.is_tree also.is_tree,
    λ tree checked.
        lines_decided lines (with_description p file tree)
        (record { are_graphs = order.are_graphs; checked = λ other is. subst NoFault (same_Some tree other is) checked.sound }),
  )
  lines_decided (calls deed name args ∷ lines) p order = (
    λ words next refuses leads. not_refused_call p deed name args next words order leads refuses,
    λ next other leads also. one_next p deed name args next other leads also,
    λ next leads.
        lines_decided lines next (subst InOrder (sym leads.is_next) (call_in_order p deed name args next order leads)),
  )
  lines_decided (does what ∷ lines) p order =
      lines_decided lines (with_statement p what) (record { are_graphs = order.are_graphs; checked = order.checked })

  pub begun_in_order : InOrder begun
  begun_in_order = record { are_graphs = tt; checked = λ tree is. absurd (none-some tree is) }

  -- and so is the preparation of a script
  pub prepares_decided : (name : List ℕ) → Decided (λ x y. x ≡ y) (prepares name)
  prepares_decided name = λ bytes. (
    λ words script refuses is. scripts.never_both bytes script refuses.0 is refuses.1,
    λ script other is also. scripts.one_script bytes script other is also,
    λ script is. lines_decided (lines_of_script script.lines) begun begun_in_order,
  )
