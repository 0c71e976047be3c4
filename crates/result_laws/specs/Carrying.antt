-- Amounts at a place of a run: what accounts have by then, and what branches carry from one to the other. A branch carries
-- an amount from when its first account took it off until the second has put it on.
use Rattle.std.specs.Prelude.{◌≡◌, ℕ, ◌+◌, Bool, ◌==◌, nat_le, List, [], ◌∷◌, length, None, if◌then◌else◌, sum_by}
use Rattle.std.specs.List.{range_with_len}
use Rattle.std.specs.Option.{option_map_or}
use Rattle.component_trait.specs.declared.TheConstants.{AMOUNT_LIMIT}
use Rattle.component_trait.specs.Making.{argument_or_0}
use Rattle.component_trait.specs.States.{Kept, Service}
use Rattle.config_graph.specs.declared.kind.Kind.{Kind}
use Rattle.config_graph.specs.declared.kind.Kind.TheVariants.{Account}
use Rattle.quiesce_core.specs.Runs.{state_after}
use Rattle.quiesce_core.specs.State.{slot}
use Rattle.quiesce_core.specs.declared.event.Event.{Event}
use Rattle.quiesce_core.specs.declared.event.Event.TheVariants.{Make}
use Rattle.quiesce_core.specs.declared.state.Slot.{Slot}
use Rattle.result_laws.specs.Banks.{is_branch}
use Rattle.result_laws.specs.Coming.{come, is_granted, is_taken_up}
use Rattle.result_laws.specs.Sums.{is_account}
use Rattle.result_laws.specs.UnderWay.{of_nodes}

-- what an account has, by what it keeps
abbrev pub amount : Kind → Kept → ℕ
amount Account s = s.total
amount _ s = 0

-- what an account is opened with that takes over from none
abbrev pub opened_in : Event → ℕ
opened_in (Make n node None) = if is_account node.kind then argument_or_0 node.arg else 0
opened_in _ = 0

-- By the answers that a branch got so far. It asks its first account to take the amount off, and where that did, its
-- second to put it on.
abbrev pub carried_by : (paid put : Bool) → ℕ → List ℕ → ℕ
carried_by paid put v [] = if paid then v else 0
carried_by paid put v (a ∷ []) = if put then 0 else (if a == 1 then v else 0)
carried_by paid put v (a ∷ b ∷ _) = 0

-- it moves no amount that is too large
abbrev pub carried_in : (paid put : Bool) → Service → ℕ
carried_in paid put w = if nat_le AMOUNT_LIMIT w.value then 0 else carried_by paid put w.value w.answers

abbrev pub carried_at : List Event → ℕ → Slot → ℕ
carried_at es n m =
    if is_branch m.node.kind
    then option_map_or (carried_in (is_granted es m.first_port) (is_taken_up es (m.first_port + 1))) (come es n).service 0 else 0

abbrev pub carried : List Event → ℕ → ℕ
carried es n = option_map_or (carried_at es n) (slot (state_after es).config n) 0

-- what accounts have, live or not, with what branches carry is what they were opened with
abbrev pub AmountsBalance : List Event → Type 0
AmountsBalance es =
    of_nodes amount es + sum_by (carried es) (range_with_len 0 (length (state_after es).config.slots))
    ≡ sum_by opened_in es
