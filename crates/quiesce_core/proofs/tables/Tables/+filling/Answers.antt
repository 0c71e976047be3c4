use Rattle.std.proofs.Common.{◌≡◌, ◌-◌, ◌+◌, ◌*◌, ◌^◌, ◌<◌, min, true, sym, ap, ◌∙◌, arith}
use Rattle.quiesce_core.specs.State.{depends, calls_allowed, mores_allowed}
use Rattle.quiesce_core.specs.Reach.{IsPortOf}
use Rattle.quiesce_core.specs.Rest.{full, call_events}
use Rattle.quiesce_core.specs.Counted.{capped, events_within}
use Rattle.quiesce_core.specs.Tables.{state_of}
use Rattle.quiesce_core.proofs.CycleLaws.{port_in}
use Rattle.quiesce_core.proofs.ReachLaws.{fewer_steps, walks_zero}
use Rattle.quiesce_core.proofs.TableLaws.{live_made}
use Rattle.quiesce_core.proofs.RestLaws.{full_step, capped_full, greatest_after, greatest_done, counted_more, first_provision, within_linked, within_unlinked}
use Rattle.quiesce_core.proofs.tables.Tables.+filling.Goals as goal

pub call_events-events_within-requires : goal.call_events-events_within-requires
call_events-events_within-requires t c =
    let config = (state_of c.args.self.now).config in
    let owned : IsPortOf config c.args.target.node c.loop-port.port =
    port_in config c.args.target.node c.ports_of-ports.result.start (c.ports_of-ports.result.end - c.ports_of-ports.result.start) c.loop-port.port
    c.ports_of-ports.ensures.ports (omega arith) (omega arith) in
    (omega arith, (c.requires.sound, (owned, (c.requires.deep, (omega arith, c.loop-port.invariant.known)))))

pub call_events-loop-port-preserved : goal.call_events-loop-port-preserved
call_events-loop-port-preserved t c =
    let config = (state_of c.args.self.now).config in
    record {
      known = c.events_within.ensures.known;
      left = rw c.max-most.ensures (greatest_after (events_within config c.args.target) c.loop-port.most c.events_within.result c.loop-port.port c.ports_of-ports.result.end
          (capped (call_events config c.args.target.node c.args.target.provide)) (omega arith) c.events_within.ensures.value c.loop-port.invariant.left);
    }

pub events_within-full-requires : goal.events_within-full-requires
events_within-full-requires t c =
    let config = (state_of c.args.self.now).config in
    let leads = sym (ap (λ g. g.target) c.gate.ensures) ∙ c.in-Some.is in
    let dep : depends config c.args.target.node c.args.target.provide c.args.port ≡ true = sym c.depends.ensures ∙ c.if-not-depends.false in
    let steps : 0 < c.args.depth = walks_zero config c.args.depth c.args.target.node c.requires.deep in (
      omega arith,
      (
        c.requires.sound,
        (
          c.requires.sound.targets c.args.port c.in-Some.next leads,
          (
            fewer_steps config c.args.depth c.args.target.node c.args.target.provide c.args.port c.in-Some.next c.requires.owned dep leads c.requires.deep,
            (omega arith, c.requires.known),
          ),
        ),
      ),
    )

pub full-returns-clause-value : goal.full-returns-clause-value
full-returns-clause-value t c =
    let config = (state_of c.args.self.now).config in
    let calls = calls_allowed config c.args.target.node c.args.target.provide in
    let events = call_events config c.args.target.node c.args.target.provide in
    let called : c.saturating_mul.result ≡ min (min events (2 ^ 128 - 1) * calls) (2 ^ 128 - 1) =
    c.saturating_mul.ensures ∙ ap (λ x. min (x * c.calls_allowed-calls.result) (2 ^ 128 - 1)) c.call_events.ensures.value
    ∙ ap (λ k. min (min events (2 ^ 128 - 1) * k) (2 ^ 128 - 1)) c.calls_allowed-calls.ensures in
    c.saturating_add-events.ensures
    ∙ ap (λ x. min (x + (3 + 3 * c.mores_allowed.result)) (2 ^ 128 - 1)) called
    ∙ ap (λ m. min (min (min events (2 ^ 128 - 1) * calls) (2 ^ 128 - 1) + (3 + 3 * m)) (2 ^ 128 - 1)) c.mores_allowed.ensures
    ∙ capped_full calls events (3 + 3 * mores_allowed config c.args.target.node c.args.target.provide)
    ∙ sym (ap (λ n. capped n) (full_step config c.requires.sound.no_cycle c.args.target.node c.args.target.provide))

pub full-returns-clause-known : goal.full-returns-clause-known
full-returns-clause-known t c =
    counted_more (state_of c.args.self.now).config c.args.target c.saturating_add-events.result c.call_events.new.known c.requires.there (omega (arith, live_made (state_of c.args.self.now).config c.args.target.node c.requires.there.live, c.requires.room))
    (full-returns-clause-value t c) c.call_events.ensures.known

pub full-returns-in-Some-clause-value : goal.full-returns-in-Some-clause-value
full-returns-in-Some-clause-value t c =
    let config = (state_of c.args.self.now).config in
    c.requires.known c.args.target.node c.in-Some.events c.in-Some.is
    ∙ ap (λ x. capped (full config c.args.target.node x)) (sym (first_provision config c.args.target c.requires.there))

pub full-bounds-known-target : goal.full-bounds-known-target
full-bounds-known-target t c = omega (arith, live_made (state_of c.args.self.now).config c.args.target.node c.requires.there.live, c.requires.room)

pub full-bounds-known-target-2 : goal.full-bounds-known-target-2
full-bounds-known-target-2 t c = omega (arith, live_made (state_of c.args.self.now).config c.args.target.node c.requires.there.live, c.requires.room, c.call_events.auto.known)

pub call_events-returns-clause-value : goal.call_events-returns-clause-value
call_events-returns-clause-value t c =
    let config = (state_of c.args.self.now).config in
    greatest_done (events_within config c.args.target) c.loop-port.most c.loop-port.port c.ports_of-ports.result.end (capped (call_events config c.args.target.node c.args.target.provide)) c.loop-port-test.false
    c.loop-port.invariant.left

pub events_within-returns-in-Some-clause-value : goal.events_within-returns-in-Some-clause-value
events_within-returns-in-Some-clause-value t c =
    within_linked (state_of c.args.self.now).config c.args.target c.in-Some.next c.args.port c.full.result c.saturating_add.result (sym c.depends.ensures ∙ c.if-not-depends.false)
    (sym (ap (λ g. g.target) c.gate.ensures) ∙ c.in-Some.is) c.full.ensures.value c.saturating_add.ensures

pub events_within-returns-in-None-clause-value : goal.events_within-returns-in-None-clause-value
events_within-returns-in-None-clause-value t c =
    within_unlinked (state_of c.args.self.now).config c.args.target c.args.port (sym c.depends.ensures ∙ c.if-not-depends.false) (sym (ap (λ g. g.target) c.gate.ensures) ∙ c.in-None.is)
