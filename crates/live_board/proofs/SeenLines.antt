-- What was sighted of a line.
use Rattle.std.proofs.Common.{◌≡◌, ◌∙◌, ℕ, ◌<◌, true, false, cond, List, [], ◌∷◌, ◌++◌, map, Option, Some, None, refl, sym, ap, arith}
use Rattle.std.specs.Prelude.{◌==◌, find}
use Rattle.std.specs.Option.{option_map, option_map_or}
use Rattle.std.specs.List.{AllByRecursion}
use Rattle.std.proofs.lemmas.Bool.{eq-eqb, ne_eqb}
use Rattle.base.proofs.OptionLaws.{option_map_some}
use Rattle.base.proofs.PlaceLaws.{heads_are, tails_are}
use Rattle.change_board.specs.Sights.{Sight, is_seen_done, seen_in}
use Rattle.component_trait.specs.Making.{argument_or_0}
use Rattle.component_trait.specs.Moves as moves
use Rattle.component_trait.specs.States.{NodeState}
use Rattle.config_graph.specs.declared.kind.Kind.{Kind}
use Rattle.quiesce_word.specs.declared.slot_word.SlotWord.{SlotWord}
use Rattle.node_host.specs.Lines.{line_state}
use Rattle.quiesce_core.specs.State.{Configuration, slot}
use Rattle.quiesce_core.specs.Words.{slot_fields_of}
use Rattle.change_spec.proofs.LowerLaws.{SourcesAreLower}
use Rattle.live_hall.specs.Lines.{LineWord, line_words, seen_word}
use Rattle.live_hall.specs.Sighting.{IsMadeIn}
use Rattle.txn_spec.specs.declared.view.NodeView.{NodeView}
use Rattle.live_board.specs.Lines.{IsMadeLine, IsMadeSo, LineSight, line_node, line_place, line_sight}
use Rattle.live_board.proofs.LineFolds.{whole}

module _ (c : Configuration) where
  made_so : (k : Kind) (from : Option ℕ) (x : LineSight) (s : NodeView) → seen_word s ≡ record { slot = x.slot; kind = k; first = x.first; arg = x.arg; from = from }
      → option_map slot_fields_of (slot c s.slot) ≡ Some s.made → IsMadeSo c k from x
  made_so k from x s is made =
      let m = option_map_some slot_fields_of (slot c s.slot) s.made made in
      let word : SlotWord → LineWord = λ v. record { slot = s.slot; kind = v.kind; first = v.first_port; arg = argument_or_0 v.arg; from = v.from } in
      let w : word (slot_fields_of m.0) ≡ record { slot = x.slot; kind = k; first = x.first; arg = x.arg; from = from } = ap word m.2 ∙ is in
      record {
        made = m.0;
        there = ap (slot c) (sym (ap (λ (v : LineWord). v.slot) w)) ∙ m.1;
        kind = ap (λ (v : LineWord). v.kind) w;
        first = ap (λ (v : LineWord). v.first) w;
        arg = ap (λ (v : LineWord). v.arg) w;
        from_is = ap (λ (v : LineWord). v.from) w;
      }

  pub told : (k : Kind) (from : Option ℕ) (xs : List LineSight) (seats : List NodeView) → map seen_word seats ≡ line_words k from (map line_place xs) → AllByRecursion (IsMadeIn c) seats → IsMadeLine c k from xs
  told k from [] seats is made = tt
  told k from (x ∷ xs) [] is made = absurd (cc is)
  told k from (x ∷ xs) (s ∷ seats) is made =
      let word : LineWord = record { slot = x.slot; kind = k; first = x.first; arg = x.arg; from = from } in
      let rest = line_words k (Some x.slot) (map line_place xs) in (
        made_so k from x s (heads_are (seen_word s) word (map seen_word seats) rest is) made.0.made,
        told k (Some x.slot) xs seats (tails_are (seen_word s) word (map seen_word seats) rest is) made.1,
      )

  module _ (low : SourcesAreLower c) (k : Kind) where
    above : (j : ℕ) (xs : List LineSight) → IsMadeLine c k (Some j) xs → AllByRecursion (λ (x : LineSight). j < x.slot) xs
    above j [] h = tt
    above j (x ∷ xs) h = (low.lower x.slot j h.0.made h.0.there h.0.from_is, further xs (low.lower x.slot j h.0.made h.0.there h.0.from_is) (above x.slot xs h.1))
      where
        further : (ys : List LineSight) → j < x.slot → AllByRecursion (λ (y : LineSight). x.slot < y.slot) ys → AllByRecursion (λ (y : LineSight). j < y.slot) ys
        further [] b all = tt
        further (y ∷ ys) b all = (omega (arith, b, all.0), further ys b all.1)

    -- behind a sight of a lower slot
    skip : (x : LineSight) (xs ys : List LineSight) → AllByRecursion (λ (y : LineSight). x.slot < y.slot) ys
        → AllByRecursion (λ (y : LineSight). seen_in (map line_sight xs) y.slot ≡ Some y.log) ys
        → AllByRecursion (λ (y : LineSight). seen_in (map line_sight (x ∷ xs)) y.slot ≡ Some y.log) ys
    skip x xs [] b all = tt
    skip x xs (y ∷ ys) b all = (
      ap (λ t. option_map (λ (s : Sight). s.events) (cond t (Some (line_sight x)) (find (λ (s : Sight). s.slot == y.slot) (map line_sight xs))))
          (ne_eqb x.slot y.slot (λ (e : x.slot ≡ y.slot). omega (arith, e, b.0))) ∙ all.0,
      skip x xs ys b.1 all.1,
    )

    first_seen : (x : LineSight) (xs : List LineSight) → seen_in (map line_sight (x ∷ xs)) x.slot ≡ Some x.log
    first_seen x xs = ap (λ t. option_map (λ (s : Sight). s.events) (cond t (Some (line_sight x)) (find (λ (s : Sight). s.slot == x.slot) (map line_sight xs)))) (eq-eqb x.slot x.slot refl)

    pub all_seen : (from : Option ℕ) (xs : List LineSight) → IsMadeLine c k from xs → AllByRecursion (λ (x : LineSight). seen_in (map line_sight xs) x.slot ≡ Some x.log) xs
    all_seen from [] h = tt
    all_seen from (x ∷ xs) h = (first_seen x xs, skip x xs xs (above x.slot xs h.1) (all_seen (Some x.slot) xs h.1))

    pub seen_done : (past : List LineSight) (last : LineSight) (t : NodeState) → IsMadeLine c k None (past ++ last ∷ [])
        → line_state k None (map line_node past) (line_node last) ≡ Some t → moves.is_done t ≡ true → is_seen_done c (seen_in (map line_sight (past ++ last ∷ []))) last.slot ≡ true
    seen_done past last t made folds done =
        ap (λ o. option_map_or moves.is_done o false) (whole c (seen_in (map line_sight (past ++ last ∷ []))) low k past last made (all_seen None (past ++ last ∷ []) made) ∙ folds) ∙ done
