-- From a row to rest: where a node of it is settled, all its ports are idle, and those that are open are ports of maps.
use Rattle.std.proofs.Common.{◌≡◌, ◌∙◌, ℕ, ◌+◌, ◌<◌, ◌≤◌, true, false, List, [], ◌∷◌, ◌++◌, length, Some, refl, sym, ap, subst, arith, inl, inr, ⊎_elim}
use Rattle.std.specs.Prelude.{◌⊎◌, nat_lt}
use Rattle.std.specs.Option.{option_map_or}
use Rattle.std.proofs.lemmas.Bool.{and_parts, both_ways, cases_Bool, cases_lt, ltb-true, true_from_ne_false}
use Rattle.std.proofs.lemmas.List.{get_or_past}
use Rattle.std.proofs.lemmas.Option.{same_Some}
use Rattle.config_graph.specs.Graph.{Graph}
use Rattle.config_graph.specs.Kinds.{row}
use Rattle.config_graph.specs.declared.kind.Kind.{Kind}
use Rattle.config_graph.specs.declared.kind.Kind.TheVariants.{Map, Sink, Source}
use Rattle.component_trait.specs.States.{NodeState}
use Rattle.quiesce_word.specs.Phases.{is_idle}
use Rattle.quiesce_core.specs.Live.{IsGraphOf}
use Rattle.quiesce_core.specs.Reach.{IsPortOf}
use Rattle.quiesce_core.specs.Rules.{is_settled}
use Rattle.quiesce_core.specs.Runs.{IsRun, state_after}
use Rattle.quiesce_core.specs.State.{Configuration, State, exchange, fresh_exchange, fresh_gate, gate, is_live, owner, slot}
use Rattle.quiesce_core.specs.WellFormed.{IsSound}
use Rattle.quiesce_core.specs.declared.event.Event.{Event}
use Rattle.quiesce_core.specs.declared.event.Event.TheVariants as event
use Rattle.quiesce_core.specs.declared.state.Exchange.{Exchange}
use Rattle.quiesce_core.specs.declared.state.Gate.{Gate}
use Rattle.quiesce_core.specs.declared.state.Slot.{Slot}
use Rattle.quiesce_core.proofs.RunLaws.{runs_are_consistent, runs_are_well_formed}
use Rattle.quiesce_core.proofs.SettledLaws.{settled_if}
use Rattle.quiesce_core.proofs.StabilityLaws.{busy_is_live}
use Rattle.change_round_laws.proofs.FoldLaws.{StatesAreHanded}
use Rattle.base.proofs.OptionLaws.{map_or_true}
use Rattle.result_laws.specs.Items.{IsOfSource}
use Rattle.result_laws.specs.Rows.{IsRow, is_of_row, through}
use Rattle.result_laws.proofs.AtRest.{IsStill, all_idle}
use Rattle.result_laws.proofs.Between.{Row}
use Rattle.result_laws.specs.Coming.{HasFolds, come}
use Rattle.result_laws.proofs.ComingLaws.{facts, fits_of}
use Rattle.result_laws.proofs.Ends.{last_made}
use Rattle.result_laws.proofs.Onward.{way_busy}
use Rattle.result_laws.proofs.Passing.{Few, Stop, ToMap, Way, passed}
use Rattle.result_laws.proofs.Rounds.{IsSource, Stands, resting, under_way}
use Rattle.result_laws.proofs.RowSlots.{row_port, row_slot, slot_is}
use Rattle.result_laws.proofs.Touching.{IsOnWay, quiet_where_settled}

-- what the last source counts and the last sink has
pub record Ends (es : List Event) (past : List ℕ) : Type 0 where
  pub count : option_map_or (λ a. (come es a).kept.count) (last_made Source es) 0 ≡ length past
  pub items : option_map_or (λ t. (come es t).kept.items) (last_made Sink es) [] ≡ past

pub record Rest (es : List Event) (past : List ℕ) : Type 0 where
  pub still : IsStill (state_after es) (come es)
  pub ends : Ends es past
  -- at the port of a live map no more transactions began than items came
  pub few : (q : ℕ) → is_live (state_after es).config (owner (state_after es).config q) ≡ true → (come es (owner (state_after es).config q)).kind ≡ Map → (exchange (state_after es) q).serial ≤ length past

-- where the transaction began that is under way at a port, and the graph that stood there, in which it goes this way
pub record Begun (es : List Event) (p v : ℕ) (ms : List Stop) : Type 0 where
  pub before : List Event
  pub after : List Event
  pub serial : ℕ
  pub parts : es ≡ before ++ event.Begin p serial v ∷ after
  pub graph : Graph
  pub stands : IsGraphOf (state_after before).config graph
  pub row : IsRow graph
  pub passes : (x : ℕ) → passed x ms ≡ through graph row.maps x
  pub same : (exchange (state_after es) p).serial ≡ serial
  pub of_source : IsOfSource (state_after before).config p

-- the live nodes of a row are the source, the maps on its way and the sink, with what went through it
pub record InRow (es : List Event) (past : List ℕ) : Type 0 where
  pub a : ℕ
  pub p : ℕ
  pub ms : List Stop
  pub t : ℕ
  pub row : Row es a p ms t past
  pub source : last_made Source es ≡ Some a
  pub sink : last_made Sink es ≡ Some t
  pub nodes : (n : ℕ) (m : Slot) → slot (state_after es).config n ≡ Some m → m.live ≡ true → is_of_row m.node.kind ≡ true → (n ≡ a) ⊎ IsOnWay ms t n
  pub begun : is_idle (exchange (state_after es) p).phase ≡ false → Begun es p (length past + 1) ms

-- ---- ports of the nodes of a row

end_kind : (c : Configuration) (f : ℕ → NodeState) (ms : List Stop) (p t : ℕ) → Way c f p ms t → (f t).kind ≡ Sink
end_kind c f [] p t w = w.kind
end_kind c f (m ∷ ms) p t w = end_kind c f ms m.port t w.1

-- a node on the way that has a port is a map
pub on_way_port : (c : Configuration) (f : ℕ → NodeState) (ms : List Stop) (p t n q : ℕ) → Way c f p ms t → IsOnWay ms t n → IsPortOf c n q → (f n).kind ≡ Map
on_way_port c f [] p t n q w on o =
    let one : o.node ≡ w.to.made = same_Some o.node w.to.made (sym o.made ∙ ap (slot c) on ∙ w.to.there) in
    let none_ : length (row o.node.node.kind).requires_ ≡ 0 = ap (λ (m : Slot). length (row m.node.kind).requires_) one ∙ ap (λ (k : Kind). length (row k).requires_) w.to.kind in
    let from = o.from in let below = o.below in absurd (omega (arith, from, below, none_))
on_way_port c f (m ∷ ms) p t n q w (inl here) o = ap (λ i. (f i).kind) here ∙ w.0.kind
on_way_port c f (m ∷ ms) p t n q w (inr later) o = on_way_port c f ms m.port t n q w.1 later o

-- a map has one port
sole_port : (c : Configuration) (f : ℕ → NodeState) (m : Stop) (r q : ℕ) → ToMap c f r m → IsPortOf c m.at q → q ≡ m.port
sole_port c f m r q to o =
    let one : o.node ≡ to.to.made = same_Some o.node to.to.made (sym o.made ∙ to.to.there) in
    let one_ : length (row o.node.node.kind).requires_ ≡ 1 = ap (λ (m : Slot). length (row m.node.kind).requires_) one ∙ ap (λ (k : Kind). length (row k).requires_) to.to.kind in
    let first : o.node.first_port ≡ m.port = ap (λ (m : Slot). m.first_port) one ∙ to.first in
    let from = o.from in let below = o.below in omega (arith, from, below, one_, first)

-- how often one on the way began a transaction
few_on : (s : State) (f : ℕ → NodeState) (k : ℕ) (ms : List Stop) (p t n q : ℕ) → Way s.config f p ms t → Few s k ms → IsOnWay ms t n → IsPortOf s.config n q → (f n).kind ≡ Map → (exchange s q).serial ≤ k
few_on s f k [] p t n q w few on o kind = absurd (cc (sym kind ∙ ap (λ i. (f i).kind) on ∙ w.kind))
few_on s f k (m ∷ ms) p t n q w few (inl here) o kind =
    subst (λ i. (exchange s i).serial ≤ k) (sym (sole_port s.config f m p q w.0 (subst (λ i. IsPortOf s.config i q) here o))) few.0
few_on s f k (m ∷ ms) p t n q w few (inr later) o kind = few_on s f k ms m.port t n q w.1 few.1 later o kind

module _ (handed : StatesAreHanded) (es : List Event) (run : IsRun es) (folds : HasFolds es) (past : List ℕ) where
  pub source_port : (a p : ℕ) → (src : IsSource (state_after es) (come es) a p) → (q : ℕ) → IsPortOf (state_after es).config a q → q ≡ p
  source_port a p src q o =
      let one : o.node ≡ src.made = same_Some o.node src.made (sym o.made ∙ src.there) in
      let kind : src.made.node.kind ≡ Source = sym ((fits_of handed es run folds).kinds a src.made src.there) ∙ src.kind in
      let one_ : length (row o.node.node.kind).requires_ ≡ 1 = ap (λ (m : Slot). length (row m.node.kind).requires_) one ∙ ap (λ (k : Kind). length (row k).requires_) kind in
      let first : o.node.first_port ≡ p = ap (λ (m : Slot). m.first_port) one ∙ src.first in
      let from = o.from in let below = o.below in omega (arith, from, below, one_, first)

  source_made : (a p : ℕ) → (src : IsSource (state_after es) (come es) a p) → p < length (state_after es).config.gates
  source_made a p src =
      let kind : src.made.node.kind ≡ Source = sym ((fits_of handed es run folds).kinds a src.made src.there) ∙ src.kind in
      let one_ : length (row src.made.node.kind).requires_ ≡ 1 = ap (λ (k : Kind). length (row k).requires_) kind in
      let within = ((runs_are_well_formed es run).sound.rows a src.made src.there).within in
      let first = src.first in omega (arith, within, one_, first)

  -- where its source waits for nothing, the last source counts and the last sink has what is past
  pub row_ends : (w : InRow es past) → is_idle (exchange (state_after es) w.p).phase ≡ true → Ends es past
  row_ends w idle = ends w.row.stands
    where
      ends : Stands (state_after es) (come es) w.a w.p w.ms w.t past → Ends es past
      ends (resting idle' count items few) = record {
        count = ap (λ o. option_map_or (λ a. (come es a).kept.count) o 0) w.source ∙ count;
        items = ap (λ o. option_map_or (λ t. (come es t).kept.items) o []) w.sink ∙ items;
      }
      ends (under_way d room going count items) = absurd (way_busy (state_after es) (come es) (come es) (facts handed es run folds) (length past) room w.ms w.p (length past + 1) w.t d going idle)

  -- nor has any of its maps begun more
  row_few : (w : InRow es past) → is_idle (exchange (state_after es) w.p).phase ≡ true → Few (state_after es) (length past) w.ms
  row_few w idle = few w.row.stands
    where
      few : Stands (state_after es) (come es) w.a w.p w.ms w.t past → Few (state_after es) (length past) w.ms
      few (resting idle' count items f) = f
      few (under_way d room going count items) = absurd (way_busy (state_after es) (come es) (come es) (facts handed es run folds) (length past) room w.ms w.p (length past + 1) w.t d going idle)

  -- where a node of a row is settled the row rests
  pub rests : (w : InRow es past) → (n : ℕ) → row_slot (state_after es).config n ≡ true → is_settled (state_after es) n ≡ true → Rest es past
  rests w n of_row settled = record {
    still = record { idle = idle; opened = opened };
    ends = row_ends w quiet.1;
    few = few;
  }
    where
      sound : IsSound (state_after es).config
      sound = (runs_are_well_formed es run).sound

      row_nodes : (n : ℕ) → row_slot (state_after es).config n ≡ true → is_live (state_after es).config n ≡ true → (n ≡ w.a) ⊎ IsOnWay w.ms w.t n
      row_nodes n of_row live =
          let m = map_or_true (λ (x : Slot). x.live) (slot (state_after es).config n) live in
          w.nodes n m.0 m.1 m.2 (sym (slot_is (state_after es).config n m.0 m.1) ∙ of_row)

      quiet : ((gate (state_after es).config w.p).closed ≡ true) × (is_idle (exchange (state_after es) w.p).phase ≡ true)
      quiet = quiet_where_settled (state_after es) (come es) w.a w.p w.ms w.t n (runs_are_well_formed es run) w.row.src.owned (source_made w.a w.p w.row.src) w.row.way settled
          (row_nodes n of_row (settled_if (state_after es) sound n settled).live)

      port_there : (q : ℕ) → q < length (state_after es).config.gates → IsPortOf (state_after es).config (owner (state_after es).config q) q
      port_there q made = sound.ports q made

      at_source : (q : ℕ) → q < length (state_after es).config.gates → owner (state_after es).config q ≡ w.a → q ≡ w.p
      at_source q made owned = source_port w.a w.p w.row.src q (subst (λ k. IsPortOf (state_after es).config k q) owned (port_there q made))

      -- a port of a map is one of the row
      of_map : (q : ℕ) → q < length (state_after es).config.gates → (come es (owner (state_after es).config q)).kind ≡ Map → row_port (state_after es).config q ≡ true
      of_map q made kind =
          let own = port_there q made in
          slot_is (state_after es).config (owner (state_after es).config q) own.node own.made ∙ ap is_of_row (sym ((fits_of handed es run folds).kinds (owner (state_after es).config q) own.node own.made) ∙ kind)

      few : (q : ℕ) → is_live (state_after es).config (owner (state_after es).config q) ≡ true → (come es (owner (state_after es).config q)).kind ≡ Map → (exchange (state_after es) q).serial ≤ length past
      few q live kind = ⊎_elim
          (λ (made : q < length (state_after es).config.gates). by made (row_nodes (owner (state_after es).config q) (of_map q made kind) live))
          (λ (beyond : length (state_after es).config.gates ≤ q).
          let fresh = ap (λ (x : Exchange). x.serial) (get_or_past (state_after es).traffic.exchanges q fresh_exchange (let n = (runs_are_well_formed es run).exchanges in omega (arith, n, beyond))) in omega (arith, fresh))
          (cases_lt q (length (state_after es).config.gates))
        where
          by : q < length (state_after es).config.gates → (owner (state_after es).config q ≡ w.a) ⊎ IsOnWay w.ms w.t (owner (state_after es).config q) → (exchange (state_after es) q).serial ≤ length past
          by made (inl here) = absurd (cc (sym kind ∙ ap (λ i. (come es i).kind) here ∙ w.row.src.kind))
          by made (inr on) = few_on (state_after es) (come es) (length past) w.ms w.p w.t (owner (state_after es).config q) q w.row.way (row_few w quiet.1) on (port_there q made) kind

      idle : (q : ℕ) → row_port (state_after es).config q ≡ true → is_idle (exchange (state_after es) q).phase ≡ true
      idle q of_port = true_from_ne_false (is_idle (exchange (state_after es) q).phase) (λ busy.
          let live = and_parts (nat_lt q (length (state_after es).config.gates)) (is_live (state_after es).config (owner (state_after es).config q)) (busy_is_live (state_after es) q (runs_are_consistent es run) busy) in
          let made = ltb-true q (length (state_after es).config.gates) live.0 in
          both_ways (is_idle (exchange (state_after es) q).phase) busy (by made (row_nodes (owner (state_after es).config q) of_port live.1)))
        where
          by : q < length (state_after es).config.gates → (owner (state_after es).config q ≡ w.a) ⊎ IsOnWay w.ms w.t (owner (state_after es).config q) → is_idle (exchange (state_after es) q).phase ≡ true
          by made (inl here) = ap (λ i. is_idle (exchange (state_after es) i).phase) (at_source q made here) ∙ quiet.1
          by made (inr on) =
              all_idle (state_after es) (come es) (facts handed es run folds) w.ms w.p w.t q w.row.way quiet.1 (owner (state_after es).config q) on
              (λ is. cc (sym (on_way_port (state_after es).config (come es) w.ms w.p w.t (owner (state_after es).config q) q w.row.way on (port_there q made)) ∙ ap (λ i. (come es i).kind) is ∙ end_kind (state_after es).config (come es) w.ms w.p w.t w.row.way)) refl
              (λ m r to is. sole_port (state_after es).config (come es) m r q to (subst (λ k. IsPortOf (state_after es).config k q) is (port_there q made)))

      opened : (q : ℕ) → (gate (state_after es).config q).closed ≡ false → row_port (state_after es).config q ≡ true → (come es (owner (state_after es).config q)).kind ≡ Map
      opened q open_ of_port = ⊎_elim
          (λ (made : q < length (state_after es).config.gates). ⊎_elim
          (λ (live : is_live (state_after es).config (owner (state_after es).config q) ≡ true). by made (row_nodes (owner (state_after es).config q) of_port live))
          (λ (dead : is_live (state_after es).config (owner (state_after es).config q) ≡ false). absurd (both_ways (gate (state_after es).config q).closed open_ ((runs_are_consistent es run).removed q dead).0))
          (cases_Bool (is_live (state_after es).config (owner (state_after es).config q))))
          (λ (beyond : length (state_after es).config.gates ≤ q). absurd (both_ways (gate (state_after es).config q).closed open_ (ap (λ (g : Gate). g.closed) (get_or_past (state_after es).config.gates q fresh_gate beyond))))
          (cases_lt q (length (state_after es).config.gates))
        where
          by : q < length (state_after es).config.gates → (owner (state_after es).config q ≡ w.a) ⊎ IsOnWay w.ms w.t (owner (state_after es).config q) → (come es (owner (state_after es).config q)).kind ≡ Map
          by made (inl here) = absurd (both_ways (gate (state_after es).config q).closed open_ (ap (λ i. (gate (state_after es).config i).closed) (at_source q made here) ∙ quiet.0))
          by made (inr on) = on_way_port (state_after es).config (come es) w.ms w.p w.t (owner (state_after es).config q) q w.row.way on (port_there q made)
