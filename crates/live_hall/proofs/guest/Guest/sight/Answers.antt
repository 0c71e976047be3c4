use Rattle.std.proofs.Common.{◌≡◌, ◌∙◌, ◌∷◌, map, Some, refl, ap, sym}
use Rattle.txn_spec.specs.Views.{node_at, notes}
use Rattle.txn_spec.specs.declared.view.ChangeView.{ChangeView}
use Rattle.live_hall.specs.Lines.{seen_word}
use Rattle.live_hall.specs.Sighting.{PastSeen, past_seen, sight_of}
use Rattle.live_hall.proofs.LineLaws.{line_with}
use Rattle.live_hall.proofs.PastLaws.{each_place, hosted_with, made_more, notes_more, read_off}
use Rattle.txn_gate.specs.Seats.{change_in, node_in, record_of}
use Rattle.live_hall.proofs.guest.Guest.sight.Goals as goal

pub invariant_of-self : goal.invariant_of-self
invariant_of-self c =
    let x = c.args.self.now.node in
    let past = c.sight_past.ensures.past in (
      hosted_with _ _ _ _ _ _ _ _ _ _ x.hosted (read_off (λ p. past_seen p.slot p.first_port p.arg p.log.items p.seat) (λ (p : PastSeen). record { first = p.first; arg = p.arg; log = p.log }) c.sight_past.new.past.items x.past.items past) refl,
      ((λ k p at. sym p.seat.slot_is ∙ each_place (λ p. past_seen p.slot p.first_port p.arg p.log.items p.seat) (λ (z : PastSeen). z.view.slot ≡ z.slot) c.sight_past.new.past.items x.past.items past (λ j z there. z.seat.slot_is ∙ x.past_slots j z there) k p at), tt),
    )

pub invariant_of-self-2 : goal.invariant_of-self-2
invariant_of-self-2 c =
    let g = c.args.self.now in
    let x = g.node in
    let past = c.sight_past.ensures.past in
    let e = c.sight_in.ensures in (
      (
        hosted_with _ _ _ _ _ _ _ _ _ _ x.hosted (read_off (λ p. past_seen p.slot p.first_port p.arg p.log.items p.seat) (λ (p : PastSeen). record { first = p.first; arg = p.arg; log = p.log }) c.sight_past.new.past.items x.past.items past) (λ i. record { slot = e.node.slot i; known = e.node.known i; told = Some (e.node.node i).log }),
        ((λ k p at. sym p.seat.slot_is ∙ each_place (λ p. past_seen p.slot p.first_port p.arg p.log.items p.seat) (λ (z : PastSeen). z.view.slot ≡ z.slot) c.sight_past.new.past.items x.past.items past (λ j z there. z.seat.slot_is ∙ x.past_slots j z there) k p at), tt),
      ),
      (
        line_with _ _ _ _ _ _ _ _ g.line (read_off (λ p. past_seen p.slot p.first_port p.arg p.log.items p.seat) (λ (p : PastSeen). seen_word p.view) c.sight_past.new.past.items x.past.items past) (read_off (λ p. past_seen p.slot p.first_port p.arg p.log.items p.seat) (λ (p : PastSeen). record { slot = p.slot; first = p.first; arg = p.arg }) c.sight_past.new.past.items x.past.items past) e.node.node,
        (ap node_at e.node.node ∙ g.at, tt),
      ),
    )

pub returns-clause-sighted : goal.returns-clause-sighted
returns-clause-sighted c =
    let e = c.sight_in.ensures in
    let p = c.sight_past.ensures.sighted in
    let ns = map (λ p. node_in p.seat) c.args.self.now.node.past.items in
    let n = node_in c.args.self.now.node.seat in
    record {
      here = e.did.here ∙ p.here;
      change = e.did.change ∙ ap (λ k. notes k (sight_of n)) p.change ∙ notes_more (change_in c.args.seat.now) ns n;
      nodes = e.did.nodes ∙ p.nodes;
      spare = e.did.spare ∙ p.spare;
      made = made_more (record_of c.args.seat.now) (record_of c.sight_past.new.seat) ns n
          (ap (λ (k : ChangeView). k.entries) p.change) p.made (record { made = e.learned.made; unserving = e.learned.unserving });
    }

pub returns-clause-same : goal.returns-clause-same
returns-clause-same c =
    let past = read_off (λ p. past_seen p.slot p.first_port p.arg p.log.items p.seat) (λ (p : PastSeen). p.table) c.sight_past.new.past.items c.args.self.now.node.past.items c.sight_past.ensures.past in
    record {
      slot = refl;
      tables = λ i. c.sight_in.ensures.node.here i ∷ past i;
      past = c.sight_past.ensures.past;
      own = (c.sight_in.ensures.node.node, refl, refl, refl, refl, refl);
    }
