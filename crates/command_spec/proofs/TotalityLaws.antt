-- What is wanted of a description is refused or answered.
use Rattle.std.proofs.Common.{◌≡◌, ◌<◌, ◌⊎◌, inl, inr, ℕ, ℤ, false, List, [], Option, Some, None, length, map, sum_by, slice_get, refl, subst, sym, arith, IsTrue}
use Rattle.std.specs.List.{range_with_len}
use Rattle.std.specs.Option.{option_map_or}
use Rattle.base.proofs.ContainsLaws.{Contains-nil}
use Rattle.base.proofs.FindLaws.{find-some}
use Rattle.base.proofs.OptionLaws.{option_map_some}
use Rattle.std.proofs.lemmas.List.Elements.{All-contains}
use Rattle.std.proofs.lemmas.Option.{slice_get_within}
use Rattle.darwin_lexer.proofs.TokensLaws as lexing
use Rattle.darwin_lexer.specs.Tokens.{IsTokens, FirstFault, refusal}
use Rattle.darwin_lexer.specs.declared.front.LexicalFault.{LexicalFault}
use Rattle.darwin_lexer.specs.declared.token.At.{At}
use Rattle.darwin_lexer.specs.declared.token.Token.{Token}
use Rattle.darwin_parser.proofs.UnitLaws as parsing
use Rattle.darwin_parser.specs.Grammar.{IsUnit}
use Rattle.darwin_parser.specs.Refusals.{IsUnexpected, IsTooNested}
use Rattle.darwin_parser.specs.Tree.{Tree}
use Rattle.darwin_types.specs.Faults.{HasFault, NoFault}
use Rattle.darwin_types.specs.declared.error.TypeError.{TypeError}
use Rattle.elaborator.specs.Elaboration.{HasNoFault, ElaboratesTo}
use Rattle.elaborator.specs.Faults.{Faults}
use Rattle.elaborator.specs.declared.error.ElabError.{ElabError}
use Rattle.config_graph.specs.Cycles.{IsLinked, graph_wiring}
use Rattle.config_graph.specs.Graph.{Graph, IsGraph, IsLinkWithin, begins_at, link_at, ports, requires_at, requires_of}
use Rattle.config_graph.specs.GraphText.{graph_text}
use Rattle.config_graph.proofs.LinkLaws.{begins_there}
use Rattle.config_graph.specs.Sound.{Sound}
use Rattle.config_graph.specs.Wiring.{Reach, direct, through}
use Rattle.config_graph.specs.declared.node.Link.{Link}
use Rattle.config_graph.specs.declared.node.Made.{Made}
use Rattle.config_graph.specs.declared.node.Node.{Node}
use Rattle.config_graph.specs.declared.node.Port.{Port}
use Rattle.change_plan.specs.Differences.{GoneNodes, GoneLinks, IsGone, IsKeptLink, link_port}
use Rattle.change_plan.specs.Moves.{IsShifts}
use Rattle.change_plan.specs.PlanText.{plan_text}
use Rattle.change_plan.specs.Plans.{IsPlanOf}
use Rattle.change_plan.specs.Refusals.{CanPlan, CreatesSoMany}
use Rattle.change_plan.specs.Room.{HasRoomFor, LacksRoomFor}
use Rattle.change_plan.specs.Touched.{Frozen}
use Rattle.change_plan.specs.declared.error.PlanError.{PlanError}
use Rattle.change_plan.specs.declared.plan_data.Move.{Move}
use Rattle.change_plan.specs.declared.plan_data.Plan.{Plan}
use Rattle.change_parts.specs.Parts.{AreParts}
use Rattle.change_parts.specs.declared.part.Part.{Part}
use Rattle.change_plan.proofs.RoomLaws.{room_or_fault}
use Rattle.change_plan.proofs.DifferenceLaws.{touched_low}
use Rattle.quiesce_core.specs.Runs.{Steps}
use Rattle.quiesce_core.specs.Settled.{Settled}
use Rattle.quiesce_core.specs.Start.{started}
use Rattle.quiesce_core.specs.State.{State, slot}
use Rattle.quiesce_core.specs.declared.state.Slot.{Slot}
use Rattle.quiesce_replay.specs.Replay.{AreSettled, IsDenied}
use Rattle.quiesce_replay.proofs.DenialLaws as replaying
use Rattle.change_script.specs.declared.event_files.EventFile.{EventFile}
use Rattle.quiesce_replay.specs.ReplayText.{replay_text}
use Rattle.command_answers.specs.PartTexts.{parts_text}
use Rattle.command_answers.specs.RefusalLines.{denied_line, lex_words, expected_words, too_nested_words, check_words, elaborate_words, plan_words}
use Rattle.command_answers.specs.declared.status.Status.{Status}
use Rattle.command_answers.specs.declared.status.Status.TheVariants as status
use Rattle.command_words.specs.declared.words.TopCall.{TopCall}
use Rattle.command_spec.specs.Descriptions.{IsChecked, IsTextRefusal, by_lexer, by_grammar, by_nesting, by_names, HasGraph, IsDescriptionRefusal, by_text, by_elaboration, place_at}
use Rattle.command_spec.specs.Plans.{Starts, RefusesStart, has_no_graph, is_full, lines_of_change, made_of_graph}
use Rattle.command_spec.specs.Queries.{IsRefused, AnswersQuery, IsTextBy}
use Rattle.command_answers.specs.Answers.{roll_status}
use Rattle.command_answers.specs.PartTexts.{roll_text}
use Rattle.change_spec.specs.Scripts.{more_made, nothing_made}
use Rattle.change_parts.specs.Rolls.{IsRoll, roll_statements, stage_left}
use Rattle.command_spec.specs.Replays.{one_denied, all_steps, HasReplay}
use Rattle.command_words.specs.declared.words.Change.{Change}
use Rattle.command_words.specs.declared.words.Cut.{Cut}
use Rattle.command_words.specs.declared.words.Cut.TheVariants as cuts
use Rattle.cfg_io.specs.Shelf.{Files}
use Rattle.command_spec.specs.Commands.{Shown, ShowsChange, shown}
use Rattle.command_spec.specs.Lines.{Progress, begun}
use Rattle.command_spec.specs.Outcomes.{TargetHas}
use Rattle.command_spec.specs.Scripts.{LeadTo}
use Rattle.command_spec.proofs.ChangeLineLaws.{first_made, leads_to}
use Rattle.command_spec.specs.declared.query.Query.{Query}
use Rattle.command_spec.specs.declared.query.Query.TheVariants as queries
use Rattle.command_spec.proofs.Existence.{selected, Those, those}
use Rattle.command_spec.proofs.GraphLaws.{GraphOrFault, has_bounds, is_sound}

-- ---- room

pub room_for : (made : Made) (g : Graph) → HasRoomFor made g ⊎ ((e : PlanError) × LacksRoomFor made g e)
room_for made g = room_or_fault made (length g.nodes) (length (ports g.nodes))

within_of : (nodes : List Node) (i : ℕ) (o : Option Node) → slice_get nodes i ≡ o → 0 < option_map_or requires_of o 0 → i < length nodes
within_of nodes i None is some = absurd (omega (arith, some))
within_of nodes i (Some n) is some = slice_get_within nodes i n is

linked_within : (g : Graph) (i r j x : ℕ) → Sound g → IsLinked g i r j x → i < length g.nodes
linked_within g i r j x sound linked =
    let found = option_map_some (λ (l : Link). record { node = l.to; provide = l.provide }) (link_at g.links i r) (record { node = j; provide = x }) linked in
    let there = find-some (begins_at i r) g.links found.0 found.1 in
    let from = (begins_there i r found.0 there.1).0 in
    let begins = (All-contains (IsLinkWithin g.nodes) g.links found.0 sound.within there.0).begins in
    within_of g.nodes i (slice_get g.nodes i) refl (subst (λ k. 0 < requires_at g.nodes k) from (omega (arith, begins)))

reach_within : (g : Graph) → Sound g → (n : ℕ) (p : Port) → Reach (graph_wiring g) n p → p.node < length g.nodes
reach_within g sound n p (direct {x = x} linked) = linked_within g p.node p.require n x sound linked
reach_within g sound n q (through {p = p} {m = m} {x = x} reached depends linked) = linked_within g q.node q.require m x sound linked

frozen_within : (old new : Graph) → Sound old → (i : ℕ) → Frozen old new i → i < length old.nodes
frozen_within old new sound i (inl touched) = touched_low old new i touched
frozen_within old new sound i (inr (n, r, set, reached)) = reach_within old sound n (record { node = i; require = r }) reached

no_shift : (old new : Graph) → IsShifts old new [] []
no_shift old new = record {
  sound = λ s there. absurd (Contains-nil s there);
  complete = λ s is. absurd (Contains-nil is.move is.there);
  rise = λ k low. absurd (omega (arith, low));
}

-- a plan from a sound graph to another, where the moves are none
planned : (old new : Graph) → Sound old → ¬ ¬ ((p : Plan) × IsPlanOf old new [] p)
planned old new sound none =
    selected (λ k. ¬ IsKeptLink old new k) old.links (λ unlinked.
    selected (λ k. ¬ IsKeptLink new old k) new.links (λ linked.
    selected (IsGone old new) (range_with_len 0 (length old.nodes)) (λ removed.
    selected (IsGone new old) (range_with_len 0 (length new.nodes)) (λ created.
    those (Frozen old new) (length old.nodes) (λ frozen. none (plan_of unlinked linked removed created frozen))))))
  where
    plan_of :
        (links : List Link) × GoneLinks old new links → (links : List Link) × GoneLinks new old links
        → (nodes : List ℕ) × GoneNodes old new nodes → (nodes : List ℕ) × GoneNodes new old nodes
        → Those (Frozen old new) (length old.nodes) → (p : Plan) × IsPlanOf old new [] p
    plan_of unlinked linked removed created frozen = (
      record { freeze = frozen.items; unlink = map link_port unlinked.0; remove = removed.0; create = created.0; link = linked.0; moves = [] },
      record {
        steps = record {
          unlink = (unlinked.0, unlinked.1, refl);
          remove = removed.1;
          create = created.1;
          link = linked.1;
          freeze = λ i. (λ there. (frozen.have i there).1, λ is. frozen.all i (frozen_within old new sound i is) is);
        };
        moves = no_shift old new;
        freeze_rises = frozen.rise;
      },
    )

-- a law of changes in parts, as it stands there
abbrev pub SomeListOfParts : Type 0
SomeListOfParts =
    (old new : Graph) (moves : List Move) (made : Made) → IsGraph old → IsGraph new → Sound new → CanPlan old new moves made
    → ¬ ((ps : List Part) → ¬ AreParts old new moves ps)

abbrev pub SomeRoll : Type 0
SomeRoll =
    (name : List ℕ) (args : List ℤ) (old : Graph) (k : ℕ) (new_name : List ℕ) (new_args : List ℤ) (within : ℕ) (new : Graph) (moves : List Move) (ps : List Part)
    → Sound old → HasRoomFor nothing_made old → IsGraph new → Sound new → CanPlan old new moves (more_made nothing_made (length old.nodes) (length (ports old.nodes))) → AreParts old new moves ps
    → (given_up : Option ℕ) × IsRoll (roll_statements name args old k new_name new_args within ps) given_up

-- the change is made by a plan, in parts, or as a roll
some_change :
    SomeListOfParts → SomeRoll → (cut : Cut) (call target : TopCall) (old new : Graph) → IsGraph old → IsGraph new → Sound old → Sound new → HasRoomFor nothing_made old
    → CanPlan old new [] (made_of_graph old) → ¬ ¬ ((own : Status) × (written : List ℕ) × IsTextBy cut call target own old new written)
some_change lists rolls cuts.Whole call target old new old_graph new_graph sound other room can none =
    planned old new sound (λ p. none (status.Ok, plan_text old new p.0, (refl, (p.0, p.1, refl))))
some_change lists rolls cuts.InParts call target old new old_graph new_graph sound other room can none =
    lists old new [] (made_of_graph old) old_graph new_graph other can (λ ps are. none (status.Ok, parts_text old ps, (refl, (ps, are, refl))))
some_change lists rolls (cuts.Rolled run within) call target old new old_graph new_graph sound other room can none =
    lists old new [] (made_of_graph old) old_graph new_graph other can (λ ps are.
    let roll = rolls call.top call.args old run target.top target.args within new [] ps sound room new_graph other (subst (λ m. CanPlan old new [] m) (sym (first_made old)) can) are in
    none (
      roll_status roll.0,
      roll_text old ps roll.0 (stage_left old ps roll.0),
      record { parts = ps; are_parts = are; given_up = roll.0; is_roll = roll.1; ended = refl; is_text = refl },
    ))

-- how much is to be created
pub wanted : (old new : Graph) → ¬ ¬ ((nodes : ℕ) × (wanted_ports : ℕ) × CreatesSoMany old new nodes wanted_ports)
wanted old new none = selected (IsGone new old) (range_with_len 0 (length new.nodes)) (λ created.
    none (length created.0, sum_by (requires_at new.nodes) created.0, record { created = created.0; gone = created.1; nodes_are = refl; ports_are = refl }))

-- ---- settled nodes

settled_within : (s : State) (n : ℕ) → Settled s n → n < length s.config.slots
settled_within s n settled = by (slot s.config n) refl settled.live
  where
    by : (o : Option Slot) → slot s.config n ≡ o → IsTrue (option_map_or (λ (m : Slot). m.live) o false) → n < length s.config.slots
    by None is live = cc
    by (Some m) is live = slice_get_within s.config.slots n m is

settled_nodes : (s : State) → ¬ ¬ ((nodes : List ℕ) × AreSettled s nodes)
settled_nodes s none = those (Settled s) (length s.config.slots) (λ t.
    none (t.items, record { are = λ n. (λ there. (t.have n there).1, λ is. t.all n (settled_within s n is) is); rise = t.rise }))

-- ---- descriptions

-- Laws of the crates below, as they stand there.
module _ (names : (t : Tree) → NoFault t ⊎ ((e : TypeError) × HasFault t e)) (graphs : GraphOrFault) where
  pub text_or_refusal : (text : List ℕ) → ((tree : Tree) × IsChecked text tree) ⊎ ((words : List (List ℕ)) × IsTextRefusal text words)
  text_or_refusal text = by (lexing.always_one text)
    where
      named :
          (tokens : List Token) → IsTokens text tokens → (tree : Tree) → IsUnit text tokens tree
          → NoFault tree ⊎ ((e : TypeError) × HasFault tree e)
          → ((tree : Tree) × IsChecked text tree) ⊎ ((words : List (List ℕ)) × IsTextRefusal text words)
      named tokens parted tree unit (inl sound) =
          inl (tree, record { is_tree = record { tokens = tokens; parted = parted; spelled = unit }; sound = sound })
      named tokens parted tree unit (inr (e, fault)) =
          inr (check_words e, by_names tree e (record { tokens = tokens; parted = parted; spelled = unit }) fault)

      read :
          (tokens : List Token) → IsTokens text tokens
          → ((tree : Tree) × IsUnit text tokens tree) ⊎ ((n : ℕ) × IsUnexpected text tokens n) ⊎ ((n : ℕ) × IsTooNested text tokens n)
          → ((tree : Tree) × IsChecked text tree) ⊎ ((words : List (List ℕ)) × IsTextRefusal text words)
      read tokens parted (inl (tree, unit)) = named tokens parted tree unit (names tree)
      read tokens parted (inr (inl (n, unexpected))) = inr (expected_words (place_at text tokens n), by_grammar tokens n parted unexpected)
      read tokens parted (inr (inr (n, nested))) = inr (too_nested_words (place_at text tokens n), by_nesting tokens n parted nested)

      by :
          ((tokens : List Token) × IsTokens text tokens) ⊎ ((fault : LexicalFault) × (at : At) × FirstFault text fault at)
          → ((tree : Tree) × IsChecked text tree) ⊎ ((words : List (List ℕ)) × IsTextRefusal text words)
      by (inl (tokens, parted)) = read tokens parted (parsing.always_one text tokens)
      by (inr (fault, at, first)) = inr (lex_words (refusal fault at), by_lexer fault at first)

  -- a graph, which is sound, or a refusal
  graph_or_refusal :
      (text name : List ℕ) (args : List ℤ)
      → ((g : Graph) × HasGraph text name args g × Sound g) ⊎ ((words : List (List ℕ)) × IsDescriptionRefusal text name args words)
  graph_or_refusal text name args = by (text_or_refusal text)
    where
      of :
          (tree : Tree) → IsChecked text tree
          → ((f : ElabError) × Faults tree name args f) ⊎ ((g : Graph) × HasNoFault tree name args × ElaboratesTo tree name args g × Sound g)
          → ((g : Graph) × HasGraph text name args g × Sound g) ⊎ ((words : List (List ℕ)) × IsDescriptionRefusal text name args words)
      of tree checked (inl (f, faults)) = inr (elaborate_words f, by_elaboration tree f checked faults)
      of tree checked (inr (g, none, is, sound)) =
          inl (g, record { tree = tree; checked = checked; is = record { no_fault = none; is_graph = is } }, sound)

      by :
          ((tree : Tree) × IsChecked text tree) ⊎ ((words : List (List ℕ)) × IsTextRefusal text words)
          → ((g : Graph) × HasGraph text name args g × Sound g) ⊎ ((words : List (List ℕ)) × IsDescriptionRefusal text name args words)
      by (inl (tree, checked)) = of tree checked (graphs tree name args checked.sound)
      by (inr (words, is)) = inr (words, by_text words is)

  pub graphs_or_refusals :
      (text name : List ℕ) (args : List ℤ) → ((g : Graph) × HasGraph text name args g) ⊎ ((words : List (List ℕ)) × IsDescriptionRefusal text name args words)
  graphs_or_refusals text name args = elim (graph_or_refusal text name args) [ inl w ↦ inl (w.0, w.1) | inr w ↦ inr w ]

  start_or_refusal :
      (text top : List ℕ) (args : List ℤ)
      → ((g : Graph) × Starts text top args g × Sound g) ⊎ ((words : List (List ℕ)) × RefusesStart text top args words)
  start_or_refusal text top args = by (graph_or_refusal text top args)
    where
      of :
          (g : Graph) → HasGraph text top args g → Sound g → HasRoomFor nothing_made g ⊎ ((e : PlanError) × LacksRoomFor nothing_made g e)
          → ((g : Graph) × Starts text top args g × Sound g) ⊎ ((words : List (List ℕ)) × RefusesStart text top args words)
      of g has sound (inl room) = inl (g, record { has_graph = has; has_room = room }, sound)
      of g has sound (inr (e, lacks)) = inr (plan_words e, is_full g e has lacks)

      by :
          ((g : Graph) × HasGraph text top args g × Sound g) ⊎ ((words : List (List ℕ)) × IsDescriptionRefusal text top args words)
          → ((g : Graph) × Starts text top args g × Sound g) ⊎ ((words : List (List ℕ)) × RefusesStart text top args words)
      by (inl (g, has, sound)) = of g has sound (room_for nothing_made g)
      by (inr (words, is)) = inr (words, has_no_graph words is)

  pub starts_or_refusals :
      (text top : List ℕ) (args : List ℤ) → ((g : Graph) × Starts text top args g) ⊎ ((words : List (List ℕ)) × RefusesStart text top args words)
  starts_or_refusals text top args = elim (start_or_refusal text top args) [ inl w ↦ inl (w.0, w.1) | inr w ↦ inr w ]

  replays :
      (text : List ℕ) (events_file : EventFile) → ((words : List (List ℕ)) → ¬ RefusesStart text events_file.name events_file.args words)
      → ((own : Status) (written : List ℕ) → ¬ HasReplay text events_file own written) → ⊥
  replays text events_file refuses answers = from (start_or_refusal text events_file.name events_file.args)
    where
      led :
          (g : Graph) → Starts text events_file.name events_file.args g
          → ((t : State) × Steps (started g) events_file.events t) ⊎ ((number : ℕ) × (rule : ℕ) × IsDenied (started g) events_file.events number rule) → ⊥
      led g starts (inl (t, steps)) =
          settled_nodes t (λ n.
          answers status.Ok (replay_text (length events_file.events) t n.0) (record { graph = g; starts = starts; replays = all_steps t n.0 steps n.1 }))
      led g starts (inr (number, rule, denied)) =
          answers status.Denied (denied_line number rule) (record { graph = g; starts = starts; replays = one_denied number rule denied })

      from :
          ((g : Graph) × Starts text events_file.name events_file.args g × Sound g) ⊎ ((words : List (List ℕ)) × RefusesStart text events_file.name events_file.args words) → ⊥
      from (inl (g, starts, sound)) = led g starts (replaying.always_one (started g) events_file.events)
      from (inr (words, is)) = refuses words is

  pub refused_or_answered :
      (query : Query) (text : List ℕ)
      → ¬ (((words : List (List ℕ)) → ¬ IsRefused query text words) × ((own : Status) (written : List ℕ) → ¬ AnswersQuery query text own written))
  refused_or_answered (queries.Graph call) text (refuses, answers) = by (graphs_or_refusals text call.top call.args)
    where
      by : ((g : Graph) × HasGraph text call.top call.args g) ⊎ ((words : List (List ℕ)) × IsDescriptionRefusal text call.top call.args words) → ⊥
      by (inl (g, has)) = answers status.Ok (graph_text g) (refl, (g, has, refl))
      by (inr (words, is)) = refuses words is
  refused_or_answered (queries.Replay events_file) text (refuses, answers) = replays text events_file refuses answers

-- where the lines of a change lead on, something is shown of it
pub some_shown :
    GraphOrFault → SomeListOfParts → SomeRoll → (files : Files) (cut : Cut) (c : Change) (p : Progress) → LeadTo (Some files) begun (lines_of_change c) p
    → ¬ ((s : Shown) → ¬ ShowsChange cut c p.statements s)
some_shown graphs lists rolls files cut c p lead none =
    let l = leads_to (Some files) c p lead in
    let old = l.have.starts.has_graph in
    let new = target_graph l.new l.have.text c.other l.have.target in
    some_change lists rolls cut c.call c.target l.old l.new
    (has_bounds graphs l.have.text c.call.top c.call.args l.old old) (has_bounds graphs new.0 c.target.top c.target.args l.new new.1)
    (is_sound graphs l.have.text c.call.top c.call.args l.old old) (is_sound graphs new.0 c.target.top c.target.args l.new new.1) l.have.starts.has_room l.have.has_room
    (λ w. none (shown w.0 w.1) (record { old = l.old; new = l.new; said_are = l.said_are; is_text = w.2 }))
  where
    target_graph :
        (g : Graph) (text : List ℕ) (other : Option (List ℕ)) → TargetHas (Some files) text other c.target g → (t : List ℕ) × HasGraph t c.target.top c.target.args g
    target_graph g text None has = (text, has)
    target_graph g text (Some file) has = (has.text, has.has_graph)
