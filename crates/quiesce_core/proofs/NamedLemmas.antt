-- Each event keeps live nodes' paths apart, and each node with its argument.
use Rattle.std.proofs.Common.{◌≡◌, ◌∙◌, ℕ, ◌<◌, true, false, not, ◌&&◌, List, Option, Some, length, set, refl, sym, ap, subst, ⊎_elim}
use Rattle.std.specs.Prelude.{slice_get, is_some, bytes_eq}
use Rattle.std.specs.Option.{option_map_or}
use Rattle.std.proofs.lemmas.Bool.{and_parts, both_ways, cases_eq, not-true}
use Rattle.std.proofs.lemmas.Option.{same_Some}
use Rattle.std.proofs.lemmas.Slice.Eq.{bytes_eq-Decides}
use Rattle.std.proofs.lemmas.Map.Keys.{any_passes_from_place}
use Rattle.config_graph.specs.Kinds.{row}
use Rattle.config_graph.specs.Sound.{HasItsArgument}
use Rattle.config_graph.specs.declared.node.Node.{Node}
use Rattle.quiesce_core.specs.declared.event.Event.{Event}
use Rattle.quiesce_core.specs.declared.event.Event.TheVariants.{Close, Reopen, Make, Link, Unlink, Remove}
use Rattle.quiesce_core.specs.declared.state.Slot.{Slot}
use Rattle.quiesce_core.specs.State.{Configuration, State, empty, slot}
use Rattle.quiesce_core.specs.Effect.{with_node, with_removed, effect}
use Rattle.quiesce_core.specs.Rules.{is_path_taken, has_its_argument}
use Rattle.quiesce_core.specs.Legal.{Legal}
use Rattle.quiesce_core.specs.Named.{AreNamed}
use Rattle.base.proofs.OptionLaws.{map_or_true}
use Rattle.quiesce_core.proofs.SoundnessLaws.{here_gone, slot_elsewhere}
use Rattle.base.proofs.PlaceLaws.{slice_get-snoc}
use Rattle.quiesce_core.proofs.ArgumentLaws.{argument_fits}

has_argument : (node : Node) → has_its_argument node ≡ true → HasItsArgument node
has_argument node h = let w = argument_fits (is_some (row node.kind).arg) node.arg h in record { present = w.0; below = w.1 }

-- a path that no live node has
path_new : (c : Configuration) (path : List ℕ) → is_path_taken c path ≡ false → (i : ℕ) (m : Slot) → slot c i ≡ Some m → m.live ≡ true → m.node.path ≡ path → ⊥
path_new c path h i m e live same =
    both_ways (is_path_taken c path) h
    (any_passes_from_place (λ (x : Slot). x.live && bytes_eq x.node.path path) c.slots i m e (ap (λ b. b && bytes_eq m.node.path path) live ∙ (bytes_eq-Decides m.node.path path).1 same))

named_with_node : (c : Configuration) (node : Node) (from : Option ℕ) → AreNamed c → is_path_taken c node.path ≡ false → HasItsArgument node → AreNamed (with_node c node from)
named_with_node c node from a new_ argument = record {
  paths = λ i j m n at_i at_j live_i live_j same. ⊎_elim
      (λ (v : (i < length c.slots) × (slot c i ≡ Some m)). ⊎_elim
      (λ (w : (j < length c.slots) × (slot c j ≡ Some n)). a.paths i j m n v.1 w.1 live_i live_j same)
      (λ (w : (j ≡ length c.slots) × (last ≡ n)). absurd (path_new c node.path new_ i m v.1 live_i (same ∙ sym (ap (λ (x : Slot). x.node.path) w.1))))
      (slice_get-snoc c.slots last n j at_j))
      (λ (v : (i ≡ length c.slots) × (last ≡ m)). ⊎_elim
      (λ (w : (j < length c.slots) × (slot c j ≡ Some n)). absurd (path_new c node.path new_ j n w.1 live_j (sym same ∙ sym (ap (λ (x : Slot). x.node.path) v.1))))
      (λ (w : (j ≡ length c.slots) × (last ≡ n)). v.0 ∙ sym w.0)
      (slice_get-snoc c.slots last n j at_j))
      (slice_get-snoc c.slots last m i at_i);
  arguments = λ i m at. ⊎_elim
      (λ (v : (i < length c.slots) × (slot c i ≡ Some m)). a.arguments i m v.1)
      (λ (v : (i ≡ length c.slots) × (last ≡ m)). subst (λ (x : Slot). HasItsArgument x.node) v.1 argument)
      (slice_get-snoc c.slots last m i at);
}
  where
    last : Slot
    last = record { node = node; first_port = length c.gates; from = from; live = true }

named_removed : (c : Configuration) (n : ℕ) (old : Slot) → slot c n ≡ Some old → AreNamed c → AreNamed (with_removed c n)
named_removed c n old there a =
    subst (λ o. AreNamed (record c { slots = option_map_or (λ (m : Slot). set c.slots n (record m { live = false })) o c.slots })) (sym there) (record {
      paths = λ i j m k at_i at_j live_i live_j same.
          a.paths i j m k (was i m at_i live_i) (was j k at_j live_j) live_i live_j same;
      arguments = λ i m at. ⊎_elim
          (λ (here : i ≡ n).
          let one : record old { live = false } ≡ m = same_Some _ m (sym (here_gone c n old there) ∙ ap (slice_get (set c.slots n (record old { live = false }))) (sym here) ∙ at) in
          subst (λ (x : Slot). HasItsArgument x.node) one (a.arguments n old there))
          (λ (other : i ≡ n → ⊥). a.arguments i m (sym (slot_elsewhere c n old there i other) ∙ at))
          (cases_eq i n);
    })
  where
    was : (i : ℕ) (m : Slot) → slice_get (set c.slots n (record old { live = false })) i ≡ Some m → m.live ≡ true → slot c i ≡ Some m
    was i m at live = ⊎_elim
        (λ (here : i ≡ n).
        let one : record old { live = false } ≡ m = same_Some _ m (sym (here_gone c n old there) ∙ ap (slice_get (set c.slots n (record old { live = false }))) (sym here) ∙ at) in
        absurd (both_ways false refl (ap (λ (x : Slot). x.live) one ∙ live)))
        (λ (other : i ≡ n → ⊥). sym (slot_elsewhere c n old there i other) ∙ at)
        (cases_eq i n)

-- each event that may happen
pub named_next : (s : State) (e : Event) → AreNamed s.config → Legal s e → AreNamed (effect s e).config
named_next s (Close p) a l = record { paths = a.paths; arguments = a.arguments }
named_next s (Reopen p) a l = record { paths = a.paths; arguments = a.arguments }
named_next s (Make n node from) a l =
    let both = and_parts (not (is_path_taken s.config node.path)) (has_its_argument node) l.new_path in
    named_with_node s.config node from a (not-true (is_path_taken s.config node.path) both.0) (has_argument node both.1)
named_next s (Link p n x) a l = record { paths = a.paths; arguments = a.arguments }
named_next s (Unlink p) a l = record { paths = a.paths; arguments = a.arguments }
named_next s (Remove n) a l = let m = map_or_true (λ (m : Slot). m.live) (slot s.config n) l.live in named_removed s.config n m.0 m.1 a
named_next s _ a l = a

pub named_empty : AreNamed empty.config
named_empty = record { paths = λ i j m n e. absurd (cc); arguments = λ i m e. absurd (cc) }
