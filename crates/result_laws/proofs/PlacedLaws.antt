-- Where an event stands among the members of a report, and the graph that stands where one reopens a port.
use Rattle.std.proofs.Common.{◌≡◌, ◌∙◌, ℕ, true, false, List, [], ◌∷◌, ◌++◌, Option, Some, None, refl, sym, ap, subst}
use Rattle.std.specs.Prelude.{All}
use Rattle.std.specs.List.{cons_option}
use Rattle.std.proofs.lemmas.Bool.{both_ways}
use Rattle.std.proofs.lemmas.List.Elements.{All-head}
use Rattle.std.proofs.lemmas.Option.{same_Some}
use Rattle.base.proofs.PlaceLaws.{heads_are, tails_are}
use Rattle.config_graph.specs.Graph.{Graph}
use Rattle.quiesce_core.specs.Doers.{is_of_change}
use Rattle.quiesce_core.specs.Live.{IsGraphOf}
use Rattle.quiesce_core.specs.Runs.{IsRun, state_after}
use Rattle.quiesce_core.specs.declared.event.Event.{Event}
use Rattle.quiesce_core.specs.declared.event.Event.TheVariants as event
use Rattle.report_types.specs.declared.report.HistoryLine.{HistoryLine}
use Rattle.report_types.specs.declared.report.HistoryLine.TheVariants as to
use Rattle.report_types.specs.declared.report.Report.{Report}
use Rattle.change_spec.specs.Follows.{Follows}
use Rattle.change_spec.specs.Lawful.{IsOfItsKind, Merge}
use Rattle.change_spec.specs.Members.{Member, by_node, of_history, event_in, event_of, events}
use Rattle.change_spec.specs.Statements.{Statement}
use Rattle.change_round_laws.specs.SoundStatements.{AreSound}
use Rattle.change_round_laws.proofs.CommitGraphLaws.{CommitsByConfiguration, CommitsLeaveGraphs, EachMayCommit}
use Rattle.result_laws.specs.Describing.{Describes}
use Rattle.result_laws.proofs.ReopenedLaws.{reopened_at}
use Rattle.base.proofs.ListLaws.{all_parts}

-- where an event stands among the members
pub record Placed (m : List Member) (before : List Event) (e : Event) : Type 0 where
  pub front : List Member
  pub member : Member
  pub back : List Member
  pub parts : m ≡ front ++ member ∷ back
  pub is : event_in member ≡ Some e
  pub events_are : events front ≡ before

pub placed : (m : List Member) (before after : List Event) (e : Event) → events m ≡ before ++ e ∷ after → Placed m before e
placed [] [] after e h = absurd (cc h)
placed [] (b ∷ before) after e h = absurd (cc h)
placed (x ∷ m) before after e h = by (event_in x) refl (λ bs h'. placed m bs after e h')
  where
    none_in : event_in x ≡ None → (xs : List Member) → events (x ∷ xs) ≡ events xs
    none_in is xs = ap (λ o. cons_option o (events xs)) is

    some_in : (y : Event) → event_in x ≡ Some y → (xs : List Member) → events (x ∷ xs) ≡ y ∷ events xs
    some_in y is xs = ap (λ o. cons_option o (events xs)) is

    more_ : (y : Event) → event_in x ≡ Some y → (bs : List Event) → y ∷ events m ≡ bs ++ e ∷ after → ((cs : List Event) → events m ≡ cs ++ e ∷ after → Placed m cs e) → Placed (x ∷ m) bs e
    more_ y is [] h later = record { front = []; member = x; back = m; parts = refl; is = is ∙ ap Some (heads_are y e (events m) after h); events_are = refl }
    more_ y is (b ∷ bs) h later =
        let w = later bs (tails_are y b (events m) (bs ++ e ∷ after) h) in
        record { front = x ∷ w.front; member = w.member; back = w.back; parts = ap (λ xs. x ∷ xs) w.parts; is = w.is; events_are = some_in y is w.front ∙ (λ i. heads_are y b (events m) (bs ++ e ∷ after) h i ∷ w.events_are i) }

    by : (o : Option Event) → event_in x ≡ o → ((cs : List Event) → events m ≡ cs ++ e ∷ after → Placed m cs e) → Placed (x ∷ m) before e
    by None is later =
        let w = later before (sym (none_in is m) ∙ h) in
        record { front = x ∷ w.front; member = w.member; back = w.back; parts = ap (λ xs. x ∷ xs) w.parts; is = w.is; events_are = none_in is w.front ∙ w.events_are }
    by (Some y) is later = more_ y is before (sym (some_in y is m) ∙ h) later

reopen_line : (l : HistoryLine) (p : ℕ) → event_of l ≡ Some (event.Reopen p) → l ≡ to.Reopen p
reopen_line (to.Reopen q) p h = ap to.Reopen (port_of (event.Reopen q) (event.Reopen p) (same_Some (event.Reopen q) (event.Reopen p) h))
  where
    port_in : Event → ℕ
    port_in (event.Reopen p) = p
    port_in _ = 0

    port_of : (a b : Event) → a ≡ b → port_in a ≡ port_in b
    port_of a b h = ap port_in h
reopen_line _ p h = absurd (cc h)

-- the graph of the live nodes and links before an event that reopens a port
pub record GraphAt (P : Graph → Type 0) (before : List Event) : Type 0 where
  pub graph : Graph
  pub has : P graph
  pub stands : IsGraphOf (state_after before).config graph

pub opened_at : EachMayCommit → CommitsByConfiguration → CommitsLeaveGraphs → (statements : List Statement) (P : Graph → Type 0) (report : Report) (m : List Member) → AreSound statements → All (Describes P) statements
    → Follows statements report.history → Merge m report → IsRun (events m) → (before after : List Event) (p : ℕ) → events m ≡ before ++ event.Reopen p ∷ after → GraphAt P before
opened_at each_may by_config leaves statements P report m sound all follows merge goes before after p parts = by w.member refl w.is
  where
    w : Placed m before (event.Reopen p)
    w = placed m before after (event.Reopen p) parts

    by : (x : Member) → w.member ≡ x → event_in x ≡ Some (event.Reopen p) → GraphAt P before
    by (of_history l) is h =
        let n = reopened_at each_may by_config leaves statements P report m sound all follows merge goes w.front w.back p (w.parts ∙ ap (λ x. w.front ++ x ∷ w.back) (is ∙ ap of_history (reopen_line l p h))) in
        record { graph = n.graph; has = n.has; stands = subst (λ es. IsGraphOf (state_after es).config n.graph) w.events_are n.stands }
    by (by_node e) is h =
        let kinds = all_parts IsOfItsKind w.front (w.member ∷ w.back) (subst (All IsOfItsKind) w.parts merge.by_nodes) in
        let own : is_of_change e ≡ false = subst IsOfItsKind is (All-head IsOfItsKind w.member w.back kinds.1) in
        absurd (both_ways true (sym (ap is_of_change (same_Some e (event.Reopen p) h)) ∙ own) refl)
