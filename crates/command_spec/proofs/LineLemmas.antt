-- The lines of the script that is made lead to its end, so that none is refused.
use Rattle.std.proofs.Common.{◌≡◌, ◌*◌, ◌≤◌, ◌⊎◌, inl, inr, ℕ, ℤ, nat_le, true, List, [], Some, codes, length, refl, arith}
use Rattle.std.specs.List.{list_all, range_with_len}
use Rattle.std.proofs.lemmas.Bool.{and_parts, leb-true}
use Rattle.std.proofs.lemmas.List.FromFn.{length-range_with_len}
use Rattle.command_words.specs.BigFiles.{description, made_files, script, script_name}
use Rattle.config_graph.specs.Graph.{Graph, ports}
use Rattle.config_graph.specs.Sound.{Sound}
use Rattle.config_graph.specs.declared.TheConstants.{MAX_NODES, MAX_PORTS}
use Rattle.config_graph.specs.declared.node.Made.{Made}
use Rattle.config_graph.proofs.NumberingLaws.{ports_from}
use Rattle.change_spec.specs.Statements.{run, finish}
use Rattle.change_plan.specs.Differences.{IsGone}
use Rattle.change_plan.specs.Refusals.{CanPlan, CreatesSoMany}
use Rattle.change_plan.specs.Room.{HasRoom}
use Rattle.change_script.specs.ScriptFiles.{IsScript}
use Rattle.darwin_parser.specs.Tree.{Name, Tree}
use Rattle.darwin_types.specs.Faults.{NoFault}
use Rattle.elaborator.specs.Elaboration.{HasNoFault, ElaboratesTo}
use Rattle.elaborator.specs.Faults.{Faults}
use Rattle.elaborator.specs.declared.error.ElabError.{ElabError}
use Rattle.change_spec.specs.Scripts.{more_made}
use Rattle.command_spec.specs.Descriptions.{IsGraphOfCall}
use Rattle.command_spec.specs.Lines.{Progress, CallLeads, begun, changes, starts, with_called_graph, with_description, with_statement}
use Rattle.command_spec.specs.Courses.{came, here, leads_on, gives}
use Rattle.command_spec.specs.Endings.{RefusesNothing}
use Rattle.command_spec.specs.Files.{IsTold}
use Rattle.command_spec.specs.Scripts.{LeadTo, lines_of_script, prepares}
use Rattle.command_spec.specs.Sorts.{limit_of, of_description, of_script}
use Rattle.command_spec.proofs.GraphLaws.{PlanAlone}
use Rattle.command_spec.proofs.Prepared.{came_unrefused}
use Rattle.command_spec.proofs.TotalityLaws.{wanted}
use Rattle.command_spec.proofs.WayLaws.{prepares_decided}
use Rattle.command_spec.specs.MadeScripts.{made_script}
use Rattle.elaborator.proofs.ElaborationTestLaws.{cases, is_clear, none_at_all}
use Rattle.command_spec.proofs.FewCreated.{few_nodes, few_ports, nodes_below}
use Rattle.command_spec.proofs.LaneLemmas.{arguments, both_may_run, may_run, query, rank, script_is_short}
use Rattle.command_spec.proofs.TextLemmas.{checked, sound}
use Rattle.command_spec.specs.MadeTrees.{made_tree}
use Rattle.change_plan.proofs.SelectsLaws.{Selects-shorter}

-- the graph of so many lanes, with this argument of the first maps
abbrev of_lanes : ℕ → ℕ → Graph → Type 0
of_lanes lanes k g = IsGraphOfCall made_tree (codes "Lanes") (arguments lanes k) g × (length g.nodes ≤ 200)

-- ---- rooms

room : (made : Made) (nodes wanted_ports : ℕ) → made.nodes ≤ 200 → made.ports ≤ 400 → nodes ≤ 200 → wanted_ports ≤ 400 → HasRoom made nodes wanted_ports
room made nodes wanted_ports a b c d =
    let most_nodes : MAX_NODES ≡ 1023 = refl in
    let most_ports : MAX_PORTS ≡ 4096 = refl in
    record { nodes_fit = omega (arith, a, c, most_nodes); ports_fit = omega (arith, b, d, most_ports) }

few_created : (old new : Graph) (nodes wanted_ports : ℕ) → CreatesSoMany old new nodes wanted_ports → length new.nodes ≤ 200 → (nodes ≤ 200) × (wanted_ports ≤ 400)
few_created old new nodes wanted_ports so_many few_new =
    let picked = Selects-shorter (IsGone new old) (range_with_len 0 (length new.nodes)) so_many.created so_many.gone in
    let all : length (range_with_len 0 (length new.nodes)) ≡ length new.nodes = length-range_with_len 0 (length new.nodes) in
    let at_ports = few_ports new.nodes so_many.created in
    (omega (arith, so_many.nodes_are, picked, all, few_new), omega (arith, so_many.ports_are, at_ports, picked, all, few_new))

-- ---- graphs

module _ (lanes k : ℕ) (may : may_run lanes k ≡ true) where
  parts :
      (list_all (is_clear rank (query lanes k)) cases ≡ true)
      × (nat_le (nodes_below made_tree (codes "Lanes") (arguments lanes k)) 200 ≡ true)
  parts =
      and_parts (list_all (is_clear rank (query lanes k)) cases)
      (nat_le (nodes_below made_tree (codes "Lanes") (arguments lanes k)) 200) may

  no_fault : HasNoFault made_tree (codes "Lanes") (arguments lanes k)
  no_fault = none_at_all rank (query lanes k) parts.0

  few_of : (g : Graph) → ElaboratesTo made_tree (codes "Lanes") (arguments lanes k) g → length g.nodes ≤ 200
  few_of g elaborates =
      let within = few_nodes made_tree (codes "Lanes") (arguments lanes k) g elaborates in
      let most = leb-true (nodes_below made_tree (codes "Lanes") (arguments lanes k)) 200 parts.1 in
      omega (arith, within, most)

pub no_faults : (lanes : ℕ) → 1 ≤ lanes → lanes ≤ 40 → HasNoFault made_tree (codes "Lanes") (arguments lanes 1) × HasNoFault made_tree (codes "Lanes") (arguments lanes 2)
no_faults lanes some few = let may = both_may_run lanes some few in (no_fault lanes 1 may.0, no_fault lanes 2 may.1)

-- Laws of the crates below, as they stand there.
module _
    (graphs : (tree : Tree) (name : Name) (args : List ℤ) → NoFault tree → ((e : ElabError) × Faults tree name args e) ⊎ ((g : Graph) × HasNoFault tree name args × ElaboratesTo tree name args g × Sound g))
    (alone : PlanAlone)
    (scripts_are : (lanes : ℕ) → 1 ≤ lanes → lanes ≤ 40 → IsScript (script lanes) (made_script lanes))
  where
    graph_of : (lanes k : ℕ) → may_run lanes k ≡ true → (g : Graph) × of_lanes lanes k g
    graph_of lanes k may = by (graphs made_tree (codes "Lanes") (arguments lanes k) sound)
      where
        by :
            ((e : ElabError) × Faults made_tree (codes "Lanes") (arguments lanes k) e)
            ⊎ ((g : Graph) × HasNoFault made_tree (codes "Lanes") (arguments lanes k) × ElaboratesTo made_tree (codes "Lanes") (arguments lanes k) g × Sound g)
            → (g : Graph) × of_lanes lanes k g
        by (inl (e, fault)) = absurd (no_fault lanes k may e fault)
        by (inr (g, none, elaborates, is_sound)) = (g, (record { no_fault = none; is_graph = elaborates }, few_of lanes k may g elaborates))

    module _ (lanes : ℕ) where
      is_told : IsTold (Some (made_files lanes)) (limit_of of_description) (codes "big.dar") description
      is_told = record { told = refl; within = leb-true (length description) (limit_of of_description) refl }

      module _ (old new : Graph) (is_old : of_lanes lanes 1 old) (is_new : of_lanes lanes 2 new) where
        abbrev used : Progress
        used = with_description begun (codes "big.dar") made_tree

        abbrev first : Made
        first = more_made used.made (length old.nodes) (length (ports old.nodes))

        abbrev started : Progress
        started = with_called_graph used starts (codes "Lanes") (arguments lanes 1) old first

        few_old_ports : length (ports old.nodes) ≤ 400
        few_old_ports = let at = ports_from 0 old.nodes in omega (arith, at, is_old.1)

        start_leads : CallLeads used starts (codes "Lanes") (arguments lanes 1) started
        start_leads = record {
          tree = made_tree;
          is_used = refl;
          graph = old;
          is_graph = is_old.0;
          made = first;
          allowed = (room used.made (length old.nodes) (length (ports old.nodes)) (omega arith) (omega arith) is_old.1 few_old_ports, refl);
          is_next = refl;
        }

        abbrev ran : Progress
        ran = with_statement started (run (20 * lanes))

        abbrev WhatIsCreated : Type 0
        WhatIsCreated = (nodes : ℕ) × (wanted_ports : ℕ) × CreatesSoMany old new nodes wanted_ports

        abbrev changed : WhatIsCreated → Progress
        changed w = with_called_graph ran (changes 100000 []) (codes "Lanes") (arguments lanes 2) new (more_made first w.0 w.1)

        change_leads : (w : WhatIsCreated) → CallLeads ran (changes 100000 []) (codes "Lanes") (arguments lanes 2) (changed w)
        change_leads w =
            let most = few_created old new w.0 w.1 w.2 is_new.1 in
            let can : CanPlan old new [] first = record {
              may_move = λ k m low at. absurd (omega (arith, low));
              nodes = w.0;
              ports = w.1;
              wanted = w.2;
              room = room first w.0 w.1 (omega (arith, is_old.1)) (omega (arith, few_old_ports)) most.0 most.1;
            } in
            record {
              tree = made_tree;
              is_used = refl;
              graph = new;
              is_graph = is_new.0;
              made = more_made first w.0 w.1;
              allowed = (old, [], refl, (can, refl));
              is_next = refl;
            }

        abbrev end : WhatIsCreated → Progress
        end w = with_statement (changed w) (finish 100000)

        lead : (w : WhatIsCreated) → LeadTo (Some (made_files lanes)) begun (lines_of_script (made_script lanes).lines) (end w)
        lead w =
            leads_on description [] (came (end w)) is_told (gives made_tree [] (came (end w)) checked
            (gives started [] (came (end w)) start_leads (gives (changed w) [] (came (end w)) (change_leads w) here)))

    pub nothing_refuses : (lanes : ℕ) → 1 ≤ lanes → lanes ≤ 40 → RefusesNothing (made_files lanes) (prepares script_name)
    nothing_refuses lanes low high why is refuses = wanted old.0 new.0 by
      where
        may : (may_run lanes 1 ≡ true) × (may_run lanes 2 ≡ true)
        may = both_may_run lanes low high

        old : (g : Graph) × of_lanes lanes 1 g
        old = graph_of lanes 1 may.0

        new : (g : Graph) × of_lanes lanes 2 g
        new = graph_of lanes 2 may.1

        is_told_script : IsTold (Some (made_files lanes)) (limit_of of_script) script_name (script lanes)
        is_told_script = record { told = refl; within = leb-true (length (script lanes)) (limit_of of_script) (script_is_short lanes low high) }

        by : (nodes : ℕ) × (wanted_ports : ℕ) × CreatesSoMany old.0 new.0 nodes wanted_ports → ⊥
        by w =
            let last = came (end lanes old.0 new.0 old.1 new.1 w) in
            came_unrefused (made_files lanes) (prepares script_name) (prepares_decided graphs alone script_name) (end lanes old.0 new.0 old.1 new.1 w)
            (leads_on (script lanes) [] last is_told_script (gives (made_script lanes) [] last (scripts_are lanes low high) (lead lanes old.0 new.0 old.1 new.1 w))) why is refuses
