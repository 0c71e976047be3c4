-- Lines of a script that lead on say its statements.
use Rattle.std.proofs.Common.{◌≡◌, ◌∙◌, ℕ, ℤ, List, [], ◌∷◌, ◌++◌, Option, Some, length, refl, sym, ap, subst, append-nil, append_assoc}
use Rattle.std.proofs.lemmas.Option.{same_Some, none-some}
use Rattle.config_graph.specs.Graph.{Graph, ports}
use Rattle.darwin_parser.specs.Tree.{Tree}
use Rattle.change_plan.specs.Refusals.{CreatesSoMany}
use Rattle.change_plan.specs.Moves.{MayMoveAll}
use Rattle.change_plan.specs.Room.{HasRoom, HasRoomFor}
use Rattle.report_types.specs.declared.script.Body.{Body}
use Rattle.report_types.specs.declared.script.Body.TheVariants as bodies
use Rattle.report_types.specs.declared.script.Script.{Script}
use Rattle.report_types.specs.declared.script.ScriptLine.{ScriptLine}
use Rattle.change_spec.specs.Scripts.{Above, nothing_above, more_made, Says, SayAll, StatementsOf}
use Rattle.change_spec.specs.Statements.{Statement, start, change, run, finish, show}
use Rattle.command_spec.specs.Lines.{GraphUse, starts, changes, Progress, begun, with_description, with_called_graph, with_statement, CallLeads}
use Rattle.cfg_io.specs.Shelf.{Files}
use Rattle.command_spec.specs.Courses.{here, leads_on, gives}
use Rattle.command_spec.specs.Descriptions.{IsChecked}
use Rattle.command_spec.specs.Files.{IsTold}
use Rattle.command_spec.specs.Scripts.{Elaborates, LeadTo, lines_of_body, lines_of_script}
use Rattle.command_spec.specs.Sorts.{limit_of, of_description}

module _ (files : Option Files) where
  -- a file that is used, and its description
  record UseLeads (file : List ℕ) (tree : Tree) : Type 0 where
    pub text : List ℕ
    pub is_told : IsTold files (limit_of of_description) file text
    pub checked : IsChecked text tree

  -- what stands above the lines, as the law of reports has it
  record Stands (p : Progress) (above : Above) : Type 0 where
    pub file_is : above.file ≡ p.file
    pub made_is : above.made ≡ p.made
    pub graph_is : (g : Graph) (earlier : List Graph) → p.graphs ≡ g ∷ earlier → above.graph ≡ g
    pub used_is : (tree : Tree) → p.used ≡ Some tree → UseLeads p.file tree

  -- what lines say that lead from a progress to an end
  record Said (lines : List ScriptLine) (p end : Progress) (above : Above) : Type 0 where
    pub own : List Statement
    pub all_said : SayAll (Elaborates files) lines above own
    pub are : end.statements ≡ p.statements ++ own

  record FirstSaid (body : Body) (lines : List ScriptLine) (p end : Progress) (above : Above) : Type 0 where
    pub own : List Statement
    pub next : Above
    pub said : Says (Elaborates files) above body own next
    pub rest : List Statement
    pub below : SayAll (Elaborates files) lines next rest
    pub are : end.statements ≡ p.statements ++ (own ++ rest)

  -- the component that a line calls elaborates to its graph
  elaborates :
      (p : Progress) (above : Above) (deed : GraphUse) (name : List ℕ) (args : List ℤ) (next : Progress) → Stands p above
      → (leads : CallLeads p deed name args next) → Elaborates files above.file name args leads.graph
  elaborates p above deed name args next stands leads =
      let used = stands.used_is leads.tree leads.is_used in
      subst (λ file. Elaborates files file name args leads.graph) (sym stands.file_is)
      (record {
        text = used.text;
        is_told = used.is_told;
        has_graph = record { tree = leads.tree; checked = used.checked; is = leads.is_graph };
      })

  -- what the run does of itself changes none of it
  same_stands : (p : Progress) (what : Statement) (above : Above) → Stands p above → Stands (with_statement p what) above
  same_stands p what above stands =
      record { file_is = stands.file_is; made_is = stands.made_is; graph_is = stands.graph_is; used_is = stands.used_is }

  head_is : (g h : Graph) (gs hs : List Graph) → g ∷ gs ≡ h ∷ hs → g ≡ h
  head_is g h gs hs is = cc

  module _ (lines : List ScriptLine) (end : Progress) (rest_said : (p : Progress) (above : Above) → Stands p above → LeadTo files p (lines_of_script lines) end → Said lines p end above) where
    -- a line of no call, behind which as much was made
    first_plain :
        (body : Body) (own : List Statement) (p next : Progress) (above below : Above) → Says (Elaborates files) above body own below
        → next.statements ≡ p.statements ++ own → Stands next below → LeadTo files next (lines_of_script lines) end → FirstSaid body lines p end above
    first_plain body own p next above below said adds stands lead =
        let r = rest_said next below stands lead in
        record {
          own = own;
          next = below;
          said = said;
          rest = r.own;
          below = r.all_said;
          are = r.are ∙ ap (λ ss. ss ++ r.own) adds ∙ append_assoc p.statements own r.own;
        }

    -- each line
    first :
        (body : Body) (p : Progress) (above : Above) → Stands p above → LeadTo files p (lines_of_body body ++ lines_of_script lines) end
        → FirstSaid body lines p end above
    first (bodies.File file) p above stands (leads_on text _ _ told (gives tree _ _ checked lead)) =
        first_plain (bodies.File file) [] p (with_description p file tree) above (record above { file = file }) (refl, refl) (sym (append-nil p.statements))
        (record {
          file_is = refl;
          made_is = stands.made_is;
          graph_is = stands.graph_is;
          used_is = λ other is. subst (λ t. UseLeads file t) (same_Some tree other is) (record { text = text; is_told = told; checked = checked });
        }) lead
    first (bodies.Start name args) p above stands (gives next _ _ leads lead) =
        let g = leads.graph in
        first_plain (bodies.Start name args) (start name args g ∷ []) p (with_called_graph p starts name args g leads.made) above
        (record above { graph = g; made = more_made above.made (length g.nodes) (length (ports g.nodes)) })
        (record {
          graph = g;
          elaborates = elaborates p above starts name args next stands leads;
          room = subst (λ m. HasRoomFor m g) (sym stands.made_is) leads.allowed.0;
          own_is = refl;
          next_is = refl;
        }) refl
        (record {
          file_is = stands.file_is;
          made_is = ap (λ m. more_made m (length g.nodes) (length (ports g.nodes))) stands.made_is ∙ sym leads.allowed.1;
          graph_is = λ h earlier is. head_is g h p.graphs earlier is;
          used_is = stands.used_is;
        }) (subst (λ q. LeadTo files q (lines_of_script lines) end) leads.is_next lead)
    first (bodies.Change name args within moves) p above stands (gives next _ _ leads lead) =
        let g = leads.graph in
        let can = leads.allowed.3.0 in
        let old_is = stands.graph_is leads.allowed.0 leads.allowed.1 leads.allowed.2 in
        first_plain (bodies.Change name args within moves) (change name args g within moves ∷ []) p
        (with_called_graph p (changes within moves) name args g leads.made) above (record above { graph = g; made = more_made above.made can.nodes can.ports })
        (record {
          graph = g;
          elaborates = elaborates p above (changes within moves) name args next stands leads;
          can_plan = record {
            may_move = subst (λ old. MayMoveAll old g moves (length moves)) (sym old_is) can.may_move;
            nodes = can.nodes;
            ports = can.ports;
            wanted = subst (λ old. CreatesSoMany old g can.nodes can.ports) (sym old_is) can.wanted;
            room = subst (λ m. HasRoom m can.nodes can.ports) (sym stands.made_is) can.room;
          };
          own_is = refl;
          next_is = refl;
        }) refl
        (record {
          file_is = stands.file_is;
          made_is = ap (λ m. more_made m can.nodes can.ports) stands.made_is ∙ sym leads.allowed.3.1;
          graph_is = λ h earlier is. head_is g h p.graphs earlier is;
          used_is = stands.used_is;
        }) (subst (λ q. LeadTo files q (lines_of_script lines) end) leads.is_next lead)
    first (bodies.Run k) p above stands lead = first_plain (bodies.Run k) (run k ∷ []) p (with_statement p (run k)) above above (refl, refl) refl (same_stands p (run k) above stands) lead
    first (bodies.Finish n) p above stands lead =
        first_plain (bodies.Finish n) (finish n ∷ []) p (with_statement p (finish n)) above above (refl, refl) refl (same_stands p (finish n) above stands) lead
    first bodies.Show p above stands lead = first_plain bodies.Show (show ∷ []) p (with_statement p show) above above (refl, refl) refl (same_stands p show above stands) lead
    first bodies.Stop p above stands lead = first_plain bodies.Stop [] p p above above (refl, refl) (sym (append-nil p.statements)) stands lead

  all_lines :
      (lines : List ScriptLine) (end p : Progress) (above : Above) → Stands p above → LeadTo files p (lines_of_script lines) end → Said lines p end above
  all_lines [] _ p above stands here = record { own = []; all_said = refl; are = sym (append-nil p.statements) }
  all_lines (line ∷ lines) end p above stands lead =
      let f = first lines end (λ q below s l. all_lines lines end q below s l) line.body p above stands lead in
      record {
        own = f.own ++ f.rest;
        all_said = record { own = f.own; rest = f.rest; next = f.next; says = f.said; below = f.below; are = refl };
        are = f.are;
      }

  pub say_statements :
      (script : Script) (end : Progress) → LeadTo files begun (lines_of_script script.lines) end → StatementsOf (Elaborates files) script end.statements
  say_statements script end lead =
      let at_first : Stands begun nothing_above = record {
        file_is = refl;
        made_is = refl;
        graph_is = λ g earlier is. cc;
        used_is = λ tree is. absurd (none-some tree is);
      } in
      let s = all_lines script.lines end begun nothing_above at_first lead in
      subst (λ ss. SayAll (Elaborates files) script.lines nothing_above ss) (sym s.are) s.all_said
