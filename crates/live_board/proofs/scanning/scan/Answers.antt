use Rattle.std.proofs.Common.{Global, Vec, ◌≡◌, ◌≤◌, ◌∙◌, ◌&&◌, ◌++◌, ◌∷◌, [], Bool, List, None, Option, Some, ap, cond, length, option_map, refl, subst, sym, ℕ}
use Rattle.change_board.specs.declared.board.Scan.{Scan}
use Rattle.config_graph.specs.declared.TheConstants.{MAX_NODES}
use Rattle.quiesce_core.specs.State.{Configuration}
use Rattle.txn_gate.specs.Seats.{record_of}
use Rattle.txn_spec.specs.declared.view.ChangeView.{ChangeView}
use Rattle.txn_records.specs.Entries.{config_of}
use Rattle.txn_records.specs.declared.entry.Entry.{Entry}
use Rattle.txn_records.specs.declared.entry.Entry.TheVariants.{Scanned}
use Rattle.live_board.specs.Turning.{GaveTurns, ways}
use Rattle.state_handover.specs.contracts.any_node.AnyNodeComponent.TheImpl.{ghosts}
use Rattle.live_board.proofs.ScanLaws.{config_seen, few_now, scanned}
use Rattle.live_board.proofs.scanning.scan.Goals as goal
use Rattle.live_board.proofs.scanning.scan.Goals.{then-ports, else-ports}

pub give_turns-requires-clause-few : goal.give_turns-requires-clause-few
give_turns-requires-clause-few g c = subst (λ n. n ≤ MAX_NODES) (sym c.made-made.ensures.nodes) (few_now (record_of c.learn.new.seat) c.learn.ensures.run)

pub see_nodes-seen-requires-clause-few : goal.see_nodes-seen-requires-clause-few
see_nodes-seen-requires-clause-few g c = subst (λ n. n ≤ MAX_NODES) (sym c.made-made.ensures.nodes) (few_now (record_of c.learn.new.seat) c.learn.ensures.run)

pub look_at_ports-ports-requires-clause-made : goal.look_at_ports-ports-requires-clause-made
look_at_ports-ports-requires-clause-made g c =
    let same = config_seen ghosts.state g.J.Named.gates (record_of c.learn.new.seat) (record_of c.mark.new.seat) (record_of c.see_nodes-seen.new.seat) c.args.begins c.in_ok-moved.moved c.see_nodes-seen.new.lengths.items c.give_turns.new.door c.see_nodes-seen.new.door c.made-made.result.nodes c.see_nodes-seen.result
    (ap (λ (k : ChangeView). k.entries) c.mark.ensures.did.change) c.see_nodes-seen.ensures.seen in
    c.made-made.ensures.ports ∙ ap (λ (d : Configuration). length d.gates) (sym same)

pub returns-clause-ok : goal.returns-clause-ok
returns-clause-ok g c =
    let r = record_of c.args.seat.now in
    let seen = c.see_nodes-seen.result in
    let ports = c.look_at_ports-ports.result in
    let lengths = c.see_nodes-seen.new.lengths.items in
    let learnt : record_of c.learn.new.seat ≡ r = ap (λ (k : ChangeView). k.entries) c.learn.ensures.same.change in
    let marked : record_of c.mark.new.seat ≡ r ++ Scanned c.args.begins c.in_ok-moved.moved ∷ [] =
    ap (λ (k : ChangeView). k.entries) c.mark.ensures.did.change ∙ ap (λ (q : List Entry). q ++ Scanned c.args.begins c.in_ok-moved.moved ∷ []) learnt in
    let keeps : option_map (λ (v : Vec (Option ℕ) Global). v.items) c.if-ports.lengths ≡ cond ports.idle (Some lengths) None =
    elim c.if-ports.branch [
      | then-ports w ↦ ap (option_map (λ (v : Vec (Option ℕ) Global). v.items)) w.lengths-is ∙ sym (ap (λ (b : Bool). cond b (Some lengths) None) w.if-ports.true)
      | else-ports w ↦ ap (option_map (λ (v : Vec (Option ℕ) Global). v.items)) w.lengths-is ∙ sym (ap (λ (b : Bool). cond b (Some lengths) None) w.if-ports.false)
    ] in
    let s : Scan = record { moved = c.in_ok-moved.moved; done = (seen && ports.idle) && c.is_as_before-same.result; ended = ports.ended } in
    scanned ghosts.state g.J.Named.gates r (record_of c.mark.new.seat) (record_of c.see_nodes-seen.new.seat) (record_of c.look_at_ports-ports.new.seat) (ways c.args.door.now c.args.hand.now) (ways c.give_turns.new.door c.give_turns.new.hand) (ways c.see_nodes-seen.new.door c.give_turns.new.hand) c.args.begins s marked lengths c.made-made.result.nodes seen
    (subst (λ (q : List Entry). GaveTurns g.J.Named.gates (config_of q) c.args.begins (ways c.args.door.now c.args.hand.now) c.made-made.result.nodes (ways c.give_turns.new.door c.give_turns.new.hand) c.in_ok-moved.moved) learnt c.in_ok-moved.ensures) c.see_nodes-seen.ensures.seen
    refl (c.see_nodes-seen.ensures.count ∙ c.in_ok-lengths.ensures.count)
    c.made-made.result.ports ports.idle ports.ended c.look_at_ports-ports.ensures.seen
    (c.made-made.ensures.nodes ∙ ap (λ (q : List Entry). length (config_of q).slots) learnt) (c.made-made.ensures.ports ∙ ap (λ (q : List Entry). length (config_of q).gates) learnt)
    c.look_at_ports-ports.ensures.seat.known _ _ c.is_as_before-same.result refl refl c.is_as_before-same.ensures keeps
