use Rattle.std.proofs.Common.{◌≡◌, ◌+◌, ◌-◌, ◌*◌, ◌^◌, min, ap, ◌∙◌, arith}
use Rattle.quiesce_core.specs.State.{calls_allowed, mores_allowed}
use Rattle.quiesce_core.specs.Rest.{call_events, messages_due}
use Rattle.quiesce_core.specs.Counted.{capped}
use Rattle.quiesce_core.specs.Tables.{state_of}
use Rattle.quiesce_core.proofs.RestLaws.{capped_full}
use Rattle.quiesce_core.proofs.tables.Tables.service_rest.Goals as goal

pub returns-clause-value : goal.returns-clause-value
returns-clause-value c =
    let config = (state_of c.args.self.now).config in
    let events = call_events config c.args.target.node c.args.target.provide in
    let calls = calls_allowed config c.args.target.node c.args.target.provide - c.args.service.now.calls in
    let mores = mores_allowed config c.args.target.node c.args.target.provide - c.args.service.now.mores in
    let due = messages_due c.args.service.now c.args.phase in
    let calls_are : c.saturating_sub-calls.result ≡ calls = c.saturating_sub-calls.ensures ∙ ap (λ k. k - c.args.service.now.calls) c.calls_allowed.ensures in
    let mores_are : c.saturating_sub-mores.result ≡ mores = c.saturating_sub-mores.ensures ∙ ap (λ k. k - c.args.service.now.mores) c.mores_allowed.ensures in
    let called : c.saturating_mul.result ≡ min (min events (2 ^ 128 - 1) * calls) (2 ^ 128 - 1) =
    c.saturating_mul.ensures ∙ ap (λ x. min (x * c.saturating_sub-calls.result) (2 ^ 128 - 1)) c.call_events.ensures.value
    ∙ ap (λ k. min (min events (2 ^ 128 - 1) * k) (2 ^ 128 - 1)) calls_are in
    let same_sum : 3 * mores + due + calls * events ≡ 3 * mores + calls * events + due = omega arith in
    c.saturating_add.ensures
    ∙ ap (λ x. min (x + (3 * c.saturating_sub-mores.result + c.messages_due.result)) (2 ^ 128 - 1)) called
    ∙ ap (λ m. min (min (min events (2 ^ 128 - 1) * calls) (2 ^ 128 - 1) + (3 * m + c.messages_due.result)) (2 ^ 128 - 1)) mores_are
    ∙ ap (λ d. min (min (min events (2 ^ 128 - 1) * calls) (2 ^ 128 - 1) + (3 * mores + d)) (2 ^ 128 - 1)) c.messages_due.ensures.due
    ∙ capped_full calls events (3 * mores + due)
    ∙ ap (λ n. capped n) same_sum
