-- Events that are done on a board one after the other.
use Rattle.std.proofs.Common.{◌≡◌, ℕ, ◌+◌, List, [], ◌∷◌, ◌++◌, append_assoc, length, map, Option, refl, sym, ap, ◌∙◌, subst, arith}
use Rattle.std.specs.Prelude.{◌&&◌, ◌==◌, nat_lt, nat_le}
use Rattle.std.proofs.lemmas.Bool.{and_parts, eqb-true}
use Rattle.std.proofs.lemmas.Grind.{flat_map-append}
use Rattle.std.proofs.lemmas.List.{append-nil, map-append}
use Rattle.config_graph.specs.Kinds.{row}
use Rattle.config_graph.specs.declared.TheConstants.{MAX_NODES, MAX_PORTS}
use Rattle.config_graph.specs.declared.node.Node.{Node}
use Rattle.quiesce_core.specs.declared.event.Event.{Event}
use Rattle.quiesce_core.specs.declared.event.Event.TheVariants.{Make}
use Rattle.txn_records.specs.Entries.{config_of}
use Rattle.txn_records.specs.declared.entry.Entry.{Entry}
use Rattle.txn_records.specs.declared.entry.Entry.TheVariants.{Did}
use Rattle.change_board.specs.Making.{Makes}
use Rattle.txn_records.specs.Records.{Adds, May}
use Rattle.change_board.specs.Sights.{sight_entry}
use Rattle.change_board.specs.Doing.{DoesEvents}
use Rattle.change_board.specs.Steps.{Deed, MayDoAll, deed_entries, entries_of, events_of}
use Rattle.base.proofs.PlaceLaws.{heads_are}
use Rattle.change_board.specs.declared.board.Board.{Ghosts as BoardWords}
use Rattle.change_board.proofs.StepLaws.{alike_deed, may_all_alike}

-- a node is made in the slot that comes next
pub next_slot : (r : List Entry) (n : ℕ) (node : Node) (from : Option ℕ) → May r (Make n node from) → n ≡ length (config_of r).slots
next_slot r n node from h =
    let c = config_of r in
    let room = and_parts (n == length c.slots && nat_lt n MAX_NODES) (nat_le (length c.gates + length (row node.kind).requires_) MAX_PORTS) h.room in
    eqb-true n (length c.slots) (and_parts (n == length c.slots) (nat_lt n MAX_NODES) room.0).0

module _ {B : Type 0} (W : BoardWords B) where
  pub adds_none : (a : B) → Adds W.stands_for a a []
  adds_none a r s = subst (W.stands_for a) (sym (append-nil r)) s

  pub adds_both : (a b c : B) (es fs : List Entry) → Adds W.stands_for a b es → Adds W.stands_for b c fs → Adds W.stands_for a c (es ++ fs)
  adds_both a b c es fs x y r s = subst (λ zs. W.stands_for c zs) (append_assoc r es fs) (y (r ++ es) (x r s))

  pub does_none : (a : B) → DoesEvents W a a []
  does_none a = record { deeds = []; events_are = refl; adds = adds_none a }

  pub does_one : (a b : B) (e : Event) → Adds W.stands_for a b (Did e ∷ []) → DoesEvents W a b (e ∷ [])
  does_one a b e x = record { deeds = record { event = e; sights = [] } ∷ []; events_are = refl; adds = x }

  pub does_make : (a b : B) (n : ℕ) (node : Node) (from : Option ℕ) → ((r : List Entry) → W.stands_for a r → n ≡ length (config_of r).slots) → Makes W.stands_for a b node from → DoesEvents W a b (Make n node from ∷ [])
  does_make a b n node from next x =
      let d : Deed = record { event = Make n node from; sights = x.sights } in
      record {
        deeds = d ∷ [];
        events_are = refl;
        adds = λ r s. subst (λ es. W.stands_for b (r ++ es)) (sym (append-nil (deed_entries d)))
            (subst (λ k. W.stands_for b (r ++ Did (Make k node from) ∷ map sight_entry x.sights)) (sym (next r s)) (x.adds r s));
      }

  pub does_both : (a b c : B) (es fs : List Event) → DoesEvents W a b es → DoesEvents W b c fs → DoesEvents W a c (es ++ fs)
  does_both a b c es fs x y = record {
    deeds = x.deeds ++ y.deeds;
    events_are = map-append (λ (d : Deed). d.event) x.deeds y.deeds ∙ ap (λ zs. zs ++ events_of y.deeds) x.events_are ∙ ap (λ zs. es ++ zs) y.events_are;
    adds = subst (λ zs. Adds W.stands_for a c zs) (sym (flat_map-append deed_entries x.deeds y.deeds)) (adds_both a b c (entries_of x.deeds) (entries_of y.deeds) x.adds y.adds);
  }

  -- what may be done next once the first event is done
  by_deeds : (r : List Entry) (e : Event) (es : List Event) (ds : List Deed) → events_of ds ≡ e ∷ [] → MayDoAll (r ++ Did e ∷ []) es → MayDoAll (r ++ entries_of ds) es
  by_deeds r e es [] is h = absurd (omega (arith, ap length is))
  by_deeds r e es (d ∷ []) is h =
      subst (λ zs. MayDoAll (r ++ zs) es) (sym (append-nil (deed_entries d)))
      (may_all_alike (r ++ deed_entries d) (r ++ Did d.event ∷ []) es (alike_deed r d)
      (subst (λ f. MayDoAll (r ++ Did f ∷ []) es) (sym (heads_are d.event e [] [] is)) h))
  by_deeds r e es (d ∷ f ∷ ds) is h = absurd (omega (arith, ap length is))

  pub here_next : (a b : B) (e : Event) (es : List Event) → DoesEvents W a b (e ∷ []) → (here : (r : List Entry) × W.stands_for a r × MayDoAll r (e ∷ es)) → (r : List Entry) × W.stands_for b r × MayDoAll r es
  here_next a b e es x here = (here.0 ++ entries_of x.deeds, x.adds here.0 here.1, by_deeds here.0 e es x.deeds x.events_are here.2.1)
