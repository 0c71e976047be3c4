-- What a plan from a row to a row creates of it: nothing, unless something of it is unlinked or removed; and a source or a sink that it
-- creates takes over from the live one.
use Rattle.std.proofs.Common.{◌≡◌, ◌∙◌, ℕ, Bool, true, false, List, length, Some, sym, ap}
use Rattle.std.proofs.lemmas.Map.Keys.{any_passes_from_place}
use Rattle.std.specs.Prelude.{◌==◌, ◌&&◌, Contains, is_some, option_and_then, option_map}
use Rattle.std.specs.List.{list_any, range_with_len}
use Rattle.std.proofs.lemmas.Bool.{and_from, eq-eqb}
use Rattle.std.proofs.lemmas.Option.{same_Some, slice_get_within}
use Rattle.base.proofs.ContainsLaws.{Contains-filter, at_some_place}
use Rattle.base.proofs.FindLaws.{is_some-position}
use Rattle.base.proofs.OptionLaws.{Some-from_is_some}
use Rattle.config_graph.specs.Cycles.{IsLinked}
use Rattle.config_graph.specs.Graph.{Graph}
use Rattle.config_graph.specs.declared.kind.Kind.{Kind}
use Rattle.config_graph.specs.declared.node.Link.{Link}
use Rattle.config_graph.specs.declared.node.Node.{Node}
use Rattle.config_graph.specs.declared.node.Port.{Port}
use Rattle.config_graph.proofs.GraphByLaws.{linked_if_listed}
use Rattle.change_plan.specs.Differences.{IsGone, IsKeptLink, link_port}
use Rattle.change_plan.specs.Plans.{IsPlanOf}
use Rattle.change_plan.specs.declared.plan_data.Move.{Move}
use Rattle.change_plan.specs.declared.plan_data.Plan.{Plan}
use Rattle.change_plan.specs.declared.plan_data.Shift.{Shift}
use Rattle.change_plan.proofs.SelectsLaws.{Selects-has}
use Rattle.change_plan.proofs.StepLaws.{unlinked}
use Rattle.change_plan_laws.specs.Commit.{is_at, is_one_of, is_unlinked_by, node_path, ports_where, slot_at, slots_where, source_of, stands_in}
use Rattle.change_plan_laws.proofs.StandingLaws.{in_if_stands, stands_if_slot}
use Rattle.quiesce_core.specs.Live.{IsGraphOf, StandsAt}
use Rattle.quiesce_core.specs.Named.{AreNamed}
use Rattle.quiesce_core.specs.State.{Configuration, gate, owner}
use Rattle.quiesce_core.proofs.ConfigurationLaws.{linked_made}
use Rattle.quiesce_core.proofs.LiveLinkLaws.{linked_at}
use Rattle.change_round_laws.specs.SoundStatements.{IsSoundGraph}
use Rattle.result_laws.specs.Keeping.{KeepsOrMoves}
use Rattle.result_laws.specs.Describing.{kind_at}
use Rattle.result_laws.specs.Rows.{IsRow, is_of_row}
use Rattle.result_laws.proofs.Rising.{stand_of}
use Rattle.result_laws.proofs.RowChanges.{nothing_created}
use Rattle.result_laws.proofs.RowSlots.{row_port, row_slot, slot_is}
use Rattle.result_laws.proofs.Takeovers.{taken_over}
use Rattle.base.proofs.RangeLaws.{Contains-places}

any_listed : {A : Type 0} (f : A → Bool) (xs : List A) (x : A) → Contains xs x → f x ≡ true → list_any f xs ≡ true
any_listed f xs x there passes = let w = at_some_place xs x there in any_passes_from_place f xs w.0 x w.1 passes

module _ (c : Configuration) (old new : Graph) (sound_old : IsSoundGraph old) (sound_new : IsSoundGraph new) (is : IsGraphOf c old) (moves : List Move) (plan : Plan) (is_plan : IsPlanOf old new moves plan) where
  -- where no node of the row is removed and no port of it unlinked, none is created
  pub none_created : IsRow old → IsRow new → ((p : ℕ) → Contains (ports_where (is_unlinked_by old plan c) c) p → row_port c p ≡ true → ⊥) → ((n : ℕ) → Contains (slots_where (is_one_of old plan.remove c) c) n → row_slot c n ≡ true → ⊥)
      → (x : ℕ) → (gone : IsGone new old x) → is_of_row gone.node.kind ≡ true → ⊥
  none_created r q no_unlinks no_removes x gone of_row = nothing_created old new sound_old.sound sound_new.sound r q nodes_kept links_kept x gone of_row
    where
      -- the slot of a node of the row is one of it
      slot_there : (n i : ℕ) (k : Kind) → StandsAt c old.nodes n i → kind_at old i ≡ Some k → is_of_row k ≡ true → row_slot c n ≡ true
      slot_there n i k at kind of_row =
          slot_is c n at.made at.there ∙ ap is_of_row (same_Some at.made.node.kind k (sym (ap (option_map (λ (y : Node). y.kind)) at.stands) ∙ kind)) ∙ of_row

      nodes_kept : (i : ℕ) (k : Kind) → kind_at old i ≡ Some k → is_of_row k ≡ true → IsGone old new i → ⊥
      nodes_kept i k kind of_row w =
          let listed = Selects-has (IsGone old new) (range_with_len 0 (length old.nodes)) plan.remove is_plan.steps.remove i (Contains-places (length old.nodes) i (slice_get_within old.nodes i w.node w.here)) w in
          let at = stand_of c old is i w.node w.here in
          let passes = any_listed (λ k. stands_in old k c at.0) plan.remove i listed (in_if_stands c old at.0 i at.1) in
          no_removes at.0 (Contains-filter (is_one_of old plan.remove c) (range_with_len 0 (length c.slots)) at.0 (Contains-places (length c.slots) at.0 (slice_get_within c.slots at.0 at.1.made at.1.there)) passes)
          (slot_there at.0 i k at.1 kind of_row)

      links_kept : (l : Link) (k : Kind) → kind_at old l.from ≡ Some k → is_of_row k ≡ true → Contains old.links l → ¬ (¬ IsKeptLink old new l)
      links_kept l k kind of_row there lost =
          let listed = unlinked old new sound_old.is_graph sound_new.is_graph plan is_plan.steps l there lost in
          let linked : IsLinked old l.from l.require l.to l.provide = (linked_if_listed old sound_old.sound.in_order l.from l.require l.to l.provide).1 there in
          let w = (linked_at c old.nodes l.from l.require l.to l.provide).1 ((is.links_are l.from l.require l.to l.provide).0 linked) in
          let passes = any_listed (λ (q : Port). stands_in old q.node c (owner c w.port) && (gate c w.port).require == q.require) plan.unlink (link_port l) listed
          (and_from (stands_in old l.from c (owner c w.port)) ((gate c w.port).require == l.require) (in_if_stands c old (owner c w.port) l.from w.from_there) (eq-eqb (gate c w.port).require l.require w.requirement)) in
          no_unlinks w.port (Contains-filter (is_unlinked_by old plan c) (range_with_len 0 (length c.gates)) w.port (Contains-places (length c.gates) w.port (linked_made c w.port _ w.leads)) passes)
          (slot_there (owner c w.port) l.from k w.from_there kind of_row)

  module _ (named : AreNamed c) where
    -- the slot of the live node that stands at a place of the old graph
    slot_found : (i a : ℕ) → StandsAt c old.nodes a i → slot_at c (node_path old i) ≡ Some a
    slot_found i a at =
        let passes : is_at (node_path old i) at.made ≡ true = sym (ap (λ o. Rattle.std.specs.Option.option_map_or (is_at (node_path old i)) o false) at.there) ∙ in_if_stands c old a i at in
        let some_ : is_some (slot_at c (node_path old i)) ≡ true = is_some-position (is_at (node_path old i)) c.slots ∙ any_passes_from_place (is_at (node_path old i)) c.slots a at.made at.there passes in
        let n = Some-from_is_some (slot_at c (node_path old i)) some_ in
        let there = stands_if_slot c old is.paths_rise is.nodes_are n.0 i at.made.node at.stands n.1 in
        n.1 ∙ ap Some (named.paths n.0 a there.made at.made there.there at.there there.live at.live (ap (λ (x : Node). x.path) (same_Some there.made.node at.made.node (sym there.stands ∙ at.stands))))

    pub takes_from : (k : Kind) → KeepsOrMoves k old new moves → (i j a : ℕ) → kind_at old i ≡ Some k → kind_at new j ≡ Some k → IsGone new old j → StandsAt c old.nodes a i → source_of old plan c j ≡ Some a
    takes_from k keeps i j a here there gone at =
        ap (option_and_then (λ (s : Shift). slot_at c (node_path old s.old))) (taken_over old new moves plan.moves k i j is_plan.moves keeps here there gone) ∙ slot_found i a at
