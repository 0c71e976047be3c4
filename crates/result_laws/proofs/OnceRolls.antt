-- A roll gives no part up where the change at once isn't given up.
use Rattle.std.proofs.Common.{◌≡◌, ◌∙◌, ℕ, ℤ, Bool, ◌+◌, true, false, cond, List, [], ◌∷◌, ◌++◌, map, Option, Some, None, refl, sym, ap, subst, arith}
use Rattle.std.specs.Prelude.{All}
use Rattle.std.specs.List.{list_any}
use Rattle.std.proofs.lemmas.Bool.{or_parts}
use Rattle.std.proofs.lemmas.List.Elements.{All-cons, All-nil}
use Rattle.std.proofs.lemmas.List.Folds.{list_any-append}
use Rattle.std.proofs.lemmas.Option.{none-some}
use Rattle.base.specs.Each.{Each}
use Rattle.base.proofs.PlaceLaws.{heads_are, tails_are}
use Rattle.config_graph.specs.Graph.{Graph, IsGraph}
use Rattle.config_graph.specs.declared.node.Made.{Made}
use Rattle.change_plan.specs.declared.plan_data.Move.{Move}
use Rattle.change_parts.specs.Parts.{AreParts}
use Rattle.change_parts.specs.Rolls.{IsRoll, given_up_from, given_up_in, roll_statements}
use Rattle.change_parts.specs.declared.part.Part.{Part}
use Rattle.quiesce_core.specs.Runs.{IsRun, Steps}
use Rattle.quiesce_core.specs.Start.{started}
use Rattle.quiesce_core.specs.State.{empty}
use Rattle.quiesce_core.specs.Live.{IsGraphOf}
use Rattle.quiesce_core.proofs.StepsLaws.{end_is, run_is_steps}
use Rattle.quiesce_laws.specs.Starts.{start_of}
use Rattle.quiesce_laws.proofs.StartLaws.{start_path}
use Rattle.report_types.specs.declared.report.HistoryLine.TheVariants as to
use Rattle.change_spec.specs.Lawful.{IsOfItsKind}
use Rattle.change_spec.specs.Members.{Member, is_pending, lines_of_events}
use Rattle.change_spec.specs.Serial.{IsPlayed, Played, Plays, lines_played}
use Rattle.change_spec.specs.Statements.{Statement, change, run, start}
use Rattle.change_spec.proofs.SerialLaws.{one_course}
use Rattle.node_turn_laws.specs.Reached.{IsReached}
use Rattle.node_turn_laws.specs.World.{nowhere}
use Rattle.change_round_laws.specs.Courses.{Course}
use Rattle.change_round_laws.specs.SoundStatements.{AreSound, GoOnSoundly, StartsSoundly}
use Rattle.change_round_laws.proofs.CommitGraphLaws.{CommitsByConfiguration, CommitsLeaveGraphs, EachMayCommit, Fits, begun, few_nodes, few_ports, onward}
use Rattle.change_round_laws.proofs.CourseLaws.{course_config}
use Rattle.change_round_laws.proofs.PlayLaws.{CommitsRun, plays_by, starts_by}
use Rattle.change_round_laws.proofs.RoundLaws.{PlayedAfter, course_changes, kept_start, played_after}
use Rattle.change_round_laws.proofs.TogetherLaws.{no_pending_both, no_pending_events}
use Rattle.result_laws.specs.Rolling.{WaitTogether, WaitedInAll, at_once}
use Rattle.result_laws.proofs.MirrorChanges.{mirrored_back}
use Rattle.result_laws.proofs.Mirroring.{mirrors_itself}
use Rattle.result_laws.proofs.OnceChanges.{no_more, waits_mirrored}
use Rattle.result_laws.proofs.OnceParts.{AllGo, all_committed, along_all}

none_given_up : (ps : List Played) → list_any is_pending (lines_played ps) ≡ false → (number : ℕ) → given_up_from number ps ≡ None
none_given_up [] h number = refl
none_given_up (p ∷ ps) h number =
    let parts = or_parts (list_any is_pending p.lines) (list_any is_pending (lines_played ps)) (sym (list_any-append is_pending p.lines (lines_played ps)) ∙ h) in
    ap (λ b. cond b (Some number) (given_up_from (number + 1) ps)) parts.0 ∙ none_given_up ps parts.1 (number + 1)

calm_if : (z : Played) → given_up_from 1 (z ∷ []) ≡ None → list_any is_pending z.lines ≡ false
calm_if z h = by (list_any is_pending z.lines) refl h
  where
    by : (b : Bool) → list_any is_pending z.lines ≡ b → ◌≡◌ {A = Option ℕ} (cond b (Some 1) None) None → list_any is_pending z.lines ≡ false
    by true e g = absurd (none-some 1 (sym g))
    by false e g = e

module _ (each_may : EachMayCommit) (by_config : CommitsByConfiguration) (leaves : CommitsLeaveGraphs) (commits_run : CommitsRun) (name : List ℕ) (args : List ℤ) (old : Graph) (k : ℕ) (new_name : List ℕ) (new_args : List ℤ) (within : ℕ)
    (new : Graph) (moves : List Move) (ps : List Part) (new_graph : IsGraph new) (parts : AreParts old new moves ps) (sound : AreSound (roll_statements name args old k new_name new_args within ps)) where
  abbrev said : Played → Statement
  said p = p.statement

  abbrev part_change : Part → Statement
  part_change p = change new_name new_args p.next within p.moves

  abbrev first : Statement
  first = start name args old

  abbrev second : Statement
  second = run k

  abbrev whole : Statement
  whole = change new_name new_args new within moves

  parts_graphs : (xs : List Part) (g : Graph) (made : Made) → GoOnSoundly (map part_change xs) g made → All (λ (x : Part). IsGraph x.next) xs
  parts_graphs [] g made says = All-nil (λ (x : Part). IsGraph x.next)
  parts_graphs (x ∷ xs) g made says = All-cons (λ (x : Part). IsGraph x.next) x xs says.graph.is_graph (parts_graphs xs x.next _ says.below)

  -- the start and the run, from which both go on
  record Begun (x y : Played) : Type 0 where
    members : List Member
    course : Course (x.lines ++ y.lines) y.world members
    graph : Graph
    is_old : graph ≡ old
    made : Made
    fits : Fits (first ∷ second ∷ []) (x.lines ++ y.lines) graph made
    below : GoOnSoundly (map part_change ps) graph made
    calm : list_any is_pending (x.lines ++ y.lines) ≡ false

  began : (x y : Played) → Plays [] nowhere first x.lines x.world → Plays x.lines x.world second y.lines y.world → Begun x y
  began x y plays_x plays_y =
      let statements = roll_statements name args old k new_name new_args within ps in
      let rest = map part_change ps in
      let says : StartsSoundly old (second ∷ rest) = sound in
      let none : Course [] nowhere [] = record { reached = IsReached.at_start; events_are = refl; lines_are = refl; kinds = All-nil IsOfItsKind; drained = tt; stood_open = tt; told = tt } in
      let nodes_fit = few_nodes each_may by_config leaves statements name args old (second ∷ rest) refl says in
      let ports_fit = few_ports each_may by_config leaves statements name args old (second ∷ rest) refl says in
      let path = start_path old says.graph.sound nodes_fit ports_fit in
      let run_so : IsRun (start_of old) = (run_is_steps (start_of old)).1 (subst (λ s. Steps empty (start_of old) s) (end_is empty (started old) (start_of old) path) path) in
      let here = starts_by name args old x.lines nowhere x.world run_so (kept_start old) none plays_x in
      let next = begun each_may by_config leaves statements name args old (second ∷ rest) refl says x.lines here.right in
      let here' = plays_by commits_run by_config (first ∷ []) second x.lines y.lines rest x.world y.world here.members next.graph next.made here.course next.fits next.below plays_y in
      let next' = onward each_may by_config leaves statements (first ∷ []) second x.lines y.lines rest next.graph next.made refl here'.right (course_changes x.lines x.world here.members here.course) next.fits next.below in
      let calm_x : list_any is_pending x.lines ≡ false = ap (list_any is_pending) plays_x.0 ∙ no_pending_both (lines_of_events (start_of old)) (to.Commit ∷ []) (no_pending_events (start_of old)) refl in
      record {
        members = here'.members;
        course = here'.course;
        graph = next'.graph;
        is_old = next'.named ∙ next.named;
        made = next'.made;
        fits = next'.fits;
        below = next'.below;
        calm = no_pending_both x.lines y.lines calm_x (ap (list_any is_pending) plays_y.are);
      }

  -- the parts behind them, beside the change at once
  parts_commit : (x y z : Played) (qs : List Played) → Plays [] nowhere first x.lines x.world → Plays x.lines x.world second y.lines y.world → Plays (x.lines ++ y.lines) y.world whole z.lines z.world → list_any is_pending z.lines ≡ false
      → map said qs ≡ map part_change ps → PlayedAfter (x.lines ++ y.lines) y.world qs → AllGo within 0 y.world qs
  parts_commit x y z qs plays_x plays_y plays_z calm same played =
      let b = began x y plays_x plays_y in
      let h = x.lines ++ y.lines in
      let says : StartsSoundly old (second ∷ map part_change ps) = sound in
      let old_graph = says.graph.is_graph in
      let fits = subst (λ g. Fits (first ∷ second ∷ []) h g b.made) b.is_old b.fits in
      let below = subst (λ g. GoOnSoundly (map part_change ps) g b.made) b.is_old b.below in
      let graph : IsGraphOf y.world.machine.config old = subst (λ d. IsGraphOf d old) (sym (course_config h y.world b.members b.course)) (fits.stands b.calm).graph in
      let once = plays_z.1 b.calm in
      let reached = b.course.reached in
      let mirrored = waits_mirrored h y.world b.members b.course new_name new_args new within moves z.lines z.world once y.world (record { away = λ n. false; mirrors = mirrors_itself y.world reached }) in
      let all =
      all_committed old new old_graph new_graph moves new_name new_args within h y.world b.members b.course graph z.lines z.world once calm each_may by_config leaves commits_run
      (roll_statements name args old k new_name new_args within ps) ps parts (parts_graphs ps old b.made below) parts.groups old ps 0 (along_all old new old_graph new_graph moves ps) parts.parts
      (first ∷ second ∷ []) h y.world b.members b.made refl b.course fits below b.calm qs same played 0 (omega arith)
      (mirrored_back y.world (Rattle.change_spec.specs.Serial.after_changes y.world (map Rattle.quiesce_core.specs.declared.event.Event.TheVariants.Close once.closed)) mirrored) in
      let high = no_more h y.world b.members b.course new_name new_args new within moves z.lines z.world once in
      let sum = all.few in
      record { calm = all.calm; rounds = all.rounds; few = omega (arith, high, sum); waited = all.waited }

  record Done (qs : List Played) : Type 0 where
    none : given_up_in qs ≡ None
    together : WaitTogether within qs

  done_by : (us : List Played) → map said us ≡ at_once name args old k new_name new_args within new moves → Each IsPlayed us → given_up_in us ≡ None
      → (qs : List Played) → map said qs ≡ roll_statements name args old k new_name new_args within ps → Each IsPlayed qs → Done qs
  done_by (x ∷ y ∷ z ∷ []) e each calm (x' ∷ y' ∷ qs) e' each' =
      let e2 = tails_are (said x) first (said y ∷ said z ∷ []) (second ∷ whole ∷ []) e in
      let e3 = tails_are (said y) second (said z ∷ []) (whole ∷ []) e2 in
      let e2' = tails_are (said x') first (said y' ∷ map said qs) (second ∷ map part_change ps) e' in
      let e3' = tails_are (said y') second (map said qs) (map part_change ps) e2' in
      let is_x : said x ≡ first = heads_are (said x) first (said y ∷ said z ∷ []) (second ∷ whole ∷ []) e in
      let is_y : said y ≡ second = heads_are (said y) second (said z ∷ []) (whole ∷ []) e2 in
      let is_z : said z ≡ whole = heads_are (said z) whole [] [] e3 in
      let is_x' : said x' ≡ first = heads_are (said x') first (said y' ∷ map said qs) (second ∷ map part_change ps) e' in
      let is_y' : said y' ≡ second = heads_are (said y') second (map said qs) (map part_change ps) e2' in
      let p = played_after [] (x ∷ y ∷ z ∷ []) each in
      let p' = played_after [] (x' ∷ y' ∷ qs) each' in
      let both : ◌≡◌ {A = List Played} (x' ∷ y' ∷ []) (x ∷ y ∷ []) =
      one_course [] (x' ∷ y' ∷ []) (x ∷ y ∷ []) (each'.0, (each'.1.0, tt)) (each.0, (each.1.0, tt)) (λ i. (is_x' ∙ sym is_x) i ∷ (is_y' ∙ sym is_y) i ∷ []) in
      let same_x : x' ≡ x = heads_are x' x (y' ∷ []) (y ∷ []) both in
      let same_y : y' ≡ y = heads_are y' y [] [] (tails_are x' x (y' ∷ []) (y ∷ []) both) in
      let later : PlayedAfter (x.lines ++ y.lines) y.world qs =
      subst (λ (u : Played). PlayedAfter (x.lines ++ u.lines) u.world qs) same_y (subst (λ (u : Played). PlayedAfter (u.lines ++ y'.lines) y'.world qs) same_x p'.1.1) in
      let all =
      parts_commit x y z qs (subst (λ s. Plays [] nowhere s x.lines x.world) is_x p.0) (subst (λ s. Plays x.lines x.world s y.lines y.world) is_y p.1.0)
      (subst (λ s. Plays (x.lines ++ y.lines) y.world s z.lines z.world) is_z p.1.1.0) (calm_if z calm) e3' later in
      let most = all.few in
      record {
        none = none_given_up qs all.calm 1;
        together = record { rounds = all.rounds; few = omega (arith, most); waited = subst (λ (u : Played). WaitedInAll u.world qs all.rounds) (sym same_y) all.waited };
      }
  done_by [] e each calm qs e' each' = absurd (cc e)
  done_by (x ∷ []) e each calm qs e' each' = absurd (cc (tails_are (said x) first [] (second ∷ whole ∷ []) e))
  done_by (x ∷ y ∷ []) e each calm qs e' each' = absurd (cc (tails_are (said y) second [] (whole ∷ []) (tails_are (said x) first (said y ∷ []) (second ∷ whole ∷ []) e)))
  done_by (x ∷ y ∷ z ∷ u ∷ us) e each calm qs e' each' =
      absurd (cc (tails_are (said z) whole (said u ∷ map said us) []
      (tails_are (said y) second (said z ∷ said u ∷ map said us) (whole ∷ []) (tails_are (said x) first (said y ∷ said z ∷ said u ∷ map said us) (second ∷ whole ∷ []) e))))
  done_by (x ∷ y ∷ z ∷ []) e each calm [] e' each' = absurd (cc e')
  done_by (x ∷ y ∷ z ∷ []) e each calm (x' ∷ []) e' each' = absurd (cc (tails_are (said x') first [] (second ∷ map part_change ps) e'))

  module _ (given_up : Option ℕ) (once : IsRoll (at_once name args old k new_name new_args within new moves) None) (roll : IsRoll (roll_statements name args old k new_name new_args within ps) given_up) where
    all_done : Done roll.played
    all_done = done_by once.played once.statements_are once.are_played (sym once.given_up_is) roll.played roll.statements_are roll.are_played

    pub no_part_given_up : given_up ≡ None
    no_part_given_up = roll.given_up_is ∙ all_done.none

    pub wait_together : WaitTogether within roll.played
    wait_together = all_done.together
