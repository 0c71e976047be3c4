-- What a roll leaves is a place of a lawful run, so items are kept there; and each of its stages links what the graphs
-- between which it leads link.
use Rattle.std.proofs.Common.{◌≡◌, ◌∙◌, ℕ, ℤ, zero, suc, Bool, true, false, List, [], ◌∷◌, ◌++◌, append_assoc, map, Option, Some, refl, sym, ap, subst, inl, inr}
use Rattle.std.specs.Prelude.{All, Contains, fold, option_map, slice_get}
use Rattle.std.specs.List.{cons_option}
use Rattle.std.proofs.lemmas.List.{append-nil}
use Rattle.std.proofs.lemmas.List.Elements.{All-cons, All-nil}
use Rattle.std.proofs.lemmas.Option.{same_Some}
use Rattle.base.proofs.ContainsLaws.{Contains-at, Contains-here, Contains-there, at_some_place}
use Rattle.base.proofs.OptionLaws.{option_map_some}
use Rattle.config_graph.specs.Graph.{Graph, IsGraph}
use Rattle.config_graph.specs.declared.kind.Kind.{Kind}
use Rattle.config_graph.specs.declared.node.Made.{Made}
use Rattle.config_graph.specs.declared.node.Node.{Node}
use Rattle.change_plan.specs.declared.plan_data.Move.{Move}
use Rattle.change_parts.specs.Rolls.{IsRoll, roll_statements}
use Rattle.change_parts.specs.Stages.{AreLinkedAfter, HasLinksOf}
use Rattle.change_parts.specs.Ties.{AreConnected}
use Rattle.change_parts.specs.declared.part.Part.{Part}
use Rattle.change_parts.proofs.LinkedLaws.{connected_at, linked_at}
use Rattle.quiesce_core.specs.declared.event.Event.{Event}
use Rattle.quiesce_core.specs.declared.event.Event.TheVariants as event
use Rattle.quiesce_laws.specs.Steps.{live_ports}
use Rattle.node_turn_laws.specs.Round.{Round, after_rounds, give_turn, live_nodes, round}
use Rattle.node_turn_laws.specs.Turn.{turn}
use Rattle.node_turn_laws.specs.World.{World, with_event}
use Rattle.report_types.specs.declared.report.Report.{Report}
use Rattle.change_spec.specs.Lawful.{Lawful, LawfulInRounds}
use Rattle.change_spec.specs.Members.{events}
use Rattle.change_spec.specs.Serial.{Serial, after_changes, world_after}
use Rattle.change_spec.specs.Statements.{Statement, change, run, start}
use Rattle.change_spec.proofs.SerialLaws.{one_course}
use Rattle.change_round_laws.specs.SoundStatements.{AreSound, GoOnSoundly}
use Rattle.change_round_laws.proofs.CourseLaws.{turn_events}
use Rattle.result_laws.specs.Describing.{Describes, LinksAre}

-- what laws of change_round_laws say
abbrev pub HaveReports : Type 0
HaveReports = (statements : List Statement) → AreSound statements → (report : Report) × Serial statements report

abbrev pub RoundsAreLawful : Type 0
RoundsAreLawful = (statements : List Statement) (report : Report) → AreSound statements → (serial : Serial statements report) → LawfulInRounds statements report serial

-- ---- a world goes on

record WentOn (w v : World) : Type 0 where
  more_ : List Event
  events_are : v.events ≡ w.events ++ more_

stood : (w : World) → WentOn w w
stood w = record { more_ = []; events_are = sym (append-nil w.events) }

further : (u v w : World) → WentOn u v → WentOn v w → WentOn u w
further u v w a b = record { more_ = a.more_ ++ b.more_; events_are = b.events_are ∙ ap (λ es. es ++ b.more_) a.events_are ∙ append_assoc u.events a.more_ b.more_ }

world_changed : (w : World) (e : Event) → WentOn w (with_event w e)
world_changed w (event.Make n node from) = record { more_ = event.Make n node from ∷ []; events_are = refl }
world_changed w e = record { more_ = e ∷ []; events_are = other e }
  where
    other : (e : Event) → (with_event w e).events ≡ w.events ++ e ∷ []
    other (event.Make n node from) = refl
    other _ = refl

all_changed : (w : World) (es : List Event) → WentOn w (after_changes w es)
all_changed w [] = stood w
all_changed w (e ∷ es) = further w (with_event w e) (after_changes (with_event w e) es) (world_changed w e) (all_changed (with_event w e) es)

turned : (allowed : Bool) (ns : List ℕ) (r : Round) → WentOn r.world (fold (give_turn allowed) r ns).world
turned allowed [] r = stood r.world
turned allowed (n ∷ ns) r =
    further r.world (turn r.world n allowed).world (fold (give_turn allowed) (give_turn allowed r n) ns).world
    (record { more_ = cons_option (turn r.world n allowed).event []; events_are = turn_events r.world n allowed }) (turned allowed ns (give_turn allowed r n))

rounds_on : (allowed : Bool) (w : World) (j : ℕ) → WentOn w (after_rounds allowed w j)
rounds_on allowed w zero = stood w
rounds_on allowed w (suc j) =
    let v = after_rounds allowed w j in
    further w v (round allowed v).world (rounds_on allowed w j) (turned allowed (live_nodes v) (record { world = v; moved = false }))

-- up to the end of the stop
to_the_end : (statements : List Statement) (report : Report) (s : Serial statements report) → WentOn (world_after s.parts) s.world
to_the_end statements report s =
    subst (WentOn (world_after s.parts)) (sym s.stops.world)
    (further (world_after s.parts) s.stops.waiting (after_rounds false s.stops.waiting s.stops.rounds)
    (subst (WentOn (world_after s.parts)) (sym s.stops.waits) (all_changed (world_after s.parts) (map event.Close (live_ports (world_after s.parts).machine.config)))) (rounds_on false s.stops.waiting s.stops.rounds))

-- ---- what holds at each place holds where a roll ends

abbrev pub HoldsAtPlaces : (List Event → Type 0) → (List Statement → Type 0) → Type 0
HoldsAtPlaces P Are = (statements : List Statement) (report : Report) → (l : Lawful statements report) → Are statements → (before after : List Event) → events l.members ≡ before ++ after → P before

pub in_roll : HaveReports → RoundsAreLawful → (P : List Event → Type 0) (Are : List Statement → Type 0) → HoldsAtPlaces P Are → (statements : List Statement) (given_up : Option ℕ) → AreSound statements → Are statements → (roll : IsRoll statements given_up)
    → P (world_after roll.played).events
in_roll reports rounds_lawful P Are kept statements given_up sound are roll =
    let w = reports statements sound in
    let lawful = rounds_lawful statements w.0 sound w.1 in
    let on = to_the_end statements w.0 w.1 in
    let here = kept statements w.0 lawful.lawful are (world_after w.1.parts).events on.more_ (lawful.order ∙ on.events_are) in
    subst (λ ps. P (world_after ps).events) (one_course [] w.1.parts roll.played w.1.played roll.are_played (w.1.statements_are ∙ sym roll.statements_are)) here

-- ---- links of stages

module _ (test : Kind → Kind → Bool) (old new : Graph) (moves : List Move) (old_graph : IsGraph old) (new_graph : IsGraph new) (old_links : LinksAre test old) (new_links : LinksAre test new) where
  of_graph : (g : Graph) → IsGraph g → LinksAre test g → (from : Node) (r : ℕ) (to : Node) (x : ℕ) → AreConnected g from r to x → test from.kind to.kind ≡ true
  of_graph g graph links from r to x c =
      let w = linked_at g graph from r to x c in
      links w.i r w.j x from.kind to.kind w.linked (ap (option_map (λ (n : Node). n.kind)) w.from_there) (ap (option_map (λ (n : Node). n.kind)) w.to_there)

  pub stage_links : (stage : Graph) → IsGraph stage → HasLinksOf old new moves stage → LinksAre test stage
  stage_links stage graph has i r j x k l linked at_i at_j =
      let from = option_map_some (λ (n : Node). n.kind) (slice_get stage.nodes i) k at_i in
      let to = option_map_some (λ (n : Node). n.kind) (slice_get stage.nodes j) l at_j in
      let c = connected_at stage graph i r j x from.0 to.0 from.1 to.1 linked in
      let same_from : ◌≡◌ {A = Option Kind} (Some from.0.kind) (Some k) = sym (ap (option_map (λ (n : Node). n.kind)) from.1) ∙ at_i in
      let same_to : ◌≡◌ {A = Option Kind} (Some to.0.kind) (Some l) = sym (ap (option_map (λ (n : Node). n.kind)) to.1) ∙ at_j in
      (λ p. test (same_Some k from.0.kind (sym same_from) p) (same_Some l to.0.kind (sym same_to) p))
      ∙ by from.0 to.0 ((has.links from.0 r to.0 x (Contains-at stage.nodes i from.0 from.1)).0 c)
    where
      by : (from to : Node) → AreLinkedAfter old new moves has.applied old from r to x → test from.kind to.kind ≡ true
      by from to (inl (in_, c)) = of_graph new new_graph new_links from r to x c
      by from to (inr (out, c)) = of_graph old old_graph old_links from r to x c

module _ (P : Graph → Type 0) (old new : Graph) (moves : List Move) (old_has : P old) (stages_have : (stage : Graph) → IsGraph stage → HasLinksOf old new moves stage → P stage) (new_name : List ℕ) (new_args : List ℤ) (within : ℕ) where
  abbrev pub part_change : Part → Statement
  part_change p = change new_name new_args p.next within p.moves

  parts_pass : (ps : List Part) (g : Graph) (made : Made) → GoOnSoundly (map part_change ps) g made → ((p : Part) → Contains ps p → HasLinksOf old new moves p.next) → All (Describes P) (map part_change ps)
  parts_pass [] g made sound has = All-nil (Describes P)
  parts_pass (p ∷ ps) g made sound has =
      All-cons (Describes P) (part_change p) (map part_change ps) (stages_have p.next sound.graph.is_graph (has p (Contains-here p ps))) (parts_pass ps p.next _ sound.below (λ q there. has q (Contains-there p q ps there)))

  pub roll_has : (name : List ℕ) (args : List ℤ) (k : ℕ) (ps : List Part) → ((i : ℕ) (p : Part) → slice_get ps i ≡ Some p → HasLinksOf old new moves p.next) → AreSound (roll_statements name args old k new_name new_args within ps)
      → All (Describes P) (roll_statements name args old k new_name new_args within ps)
  roll_has name args k ps has sound =
      All-cons (Describes P) (start name args old) (run k ∷ map part_change ps) old_has
      (All-cons (Describes P) (run k) (map part_change ps) tt (parts_pass ps old _ sound.below (λ p there. let w = at_some_place ps p there in has w.0 p w.1)))
