-- What sights of a line show of its last node.
use Rattle.std.proofs.Common.{◌≡◌, ◌∙◌, ℕ, Bool, true, false, cond, List, [], ◌∷◌, ◌++◌, map, Option, Some, None, refl, sym, ap, subst}
use Rattle.std.specs.Prelude.{◌==◌, ◌||◌, find, option_map}
use Rattle.std.specs.List.{AllByRecursion, list_any}
use Rattle.std.proofs.lemmas.Bool.{both_ways}
use Rattle.base.proofs.PlaceLaws.{heads_are, tails_are}
use Rattle.change_board.specs.Sights.{Sight, is_seen_done, seen_in, sight_entry}
use Rattle.component_trait.specs.Moves as moves
use Rattle.component_trait.specs.States.{NodeState}
use Rattle.config_graph.specs.declared.kind.Kind.{Kind}
use Rattle.live_hall.specs.Lines.{LineWord, line_words, seen_word}
use Rattle.live_hall.specs.Sighting.{IsMadeIn, sight_of}
use Rattle.live_board.specs.Lines.{IsMadeLine, LineSight, is_in_slot, line_node, line_place, line_sight}
use Rattle.node_host.specs.Lines.{line_state}
use Rattle.quiesce_core.specs.State.{Configuration}
use Rattle.quiesce_core.specs.declared.event.Event.{Event}
use Rattle.txn_spec.specs.declared.view.NodeView.{NodeView}
use Rattle.txn_records.specs.declared.entry.Entry.{Entry}
use Rattle.live_board.specs.Lengths.{AreLengths}
use Rattle.live_board.specs.Making.{SightsLine}
use Rattle.live_board.specs.Seeing.{SeesNode}

seen_among : (xs : List LineSight) (n : ℕ) (es : List Event) → seen_in (map line_sight xs) n ≡ Some es → list_any (is_in_slot n) xs ≡ true
seen_among [] n es at = absurd (cc)
seen_among (x ∷ xs) n es at = by (seen_among xs n es) (is_in_slot n x) at
  where
    by : (seen_in (map line_sight xs) n ≡ Some es → list_any (is_in_slot n) xs ≡ true) → (t : Bool)
        → option_map (λ (s : Sight). s.events) (cond t (Some (line_sight x)) (find (λ (s : Sight). s.slot == n) (map line_sight xs))) ≡ Some es → (t || list_any (is_in_slot n) xs) ≡ true
    by rest true h = refl
    by rest false h = rest h

module _ {A : Type 0} (v : A → NodeView) (l : A → LineSight) where
  pub words_are : (ps : List A) (own : NodeView) → map seen_word (map v ps ++ own ∷ []) ≡ map (λ p. seen_word (v p)) ps ++ seen_word own ∷ []
  words_are [] own = refl
  words_are (p ∷ ps) own = ap (λ ws. seen_word (v p) ∷ ws) (words_are ps own)

  pub places_are : (ps : List A) (last : LineSight) → map line_place (map l ps ++ last ∷ []) ≡ map (λ p. line_place (l p)) ps ++ line_place last ∷ []
  places_are [] last = refl
  places_are (p ∷ ps) last = ap (λ xs. line_place (l p) ∷ xs) (places_are ps last)

  pub nodes_are : (ps : List A) → map line_node (map l ps) ≡ map (λ p. line_node (l p)) ps
  nodes_are [] = refl
  nodes_are (p ∷ ps) = ap (λ xs. line_node (l p) ∷ xs) (nodes_are ps)

  sights_are : (ps : List A) (last : LineSight) → map line_sight (map l ps ++ last ∷ []) ≡ map (λ p. line_sight (l p)) ps ++ line_sight last ∷ []
  sights_are [] last = refl
  sights_are (p ∷ ps) last = ap (λ xs. line_sight (l p) ∷ xs) (sights_are ps last)

  module _ (k : Kind) (told : (p : A) → (v p).log ≡ (l p).log) (own : NodeView) (last : LineSight) (log : own.log ≡ last.log) where
    entries_are : (from : Option ℕ) (ps : List A) → map (λ p. seen_word (v p)) ps ++ seen_word own ∷ [] ≡ line_words k from (map (λ p. line_place (l p)) ps ++ line_place last ∷ [])
        → map sight_of (map v ps ++ own ∷ []) ≡ map sight_entry (map (λ p. line_sight (l p)) ps ++ line_sight last ∷ [])
    entries_are from [] line =
        let here = heads_are (seen_word own) (record { slot = last.slot; kind = k; first = last.first; arg = last.arg; from = from }) [] [] line in
        λ i. sight_entry (record { slot = (here i).slot; events = log i }) ∷ []
    entries_are from (p ∷ ps) line =
        let word : LineWord = record { slot = (l p).slot; kind = k; first = (l p).first; arg = (l p).arg; from = from } in
        let rest = line_words k (Some (l p).slot) (map (λ p. line_place (l p)) ps ++ line_place last ∷ []) in
        let here = heads_are (seen_word (v p)) word (map (λ p. seen_word (v p)) ps ++ seen_word own ∷ []) rest line in
        let next = entries_are (Some (l p).slot) ps (tails_are (seen_word (v p)) word (map (λ p. seen_word (v p)) ps ++ seen_word own ∷ []) rest line) in
        λ i. sight_entry (record { slot = (here i).slot; events = told p i }) ∷ next i

    -- one look at a line that the configuration made
    pub looked : (ps : List A) (c : Configuration) → map (λ p. seen_word (v p)) ps ++ seen_word own ∷ [] ≡ line_words k None (map (λ p. line_place (l p)) ps ++ line_place last ∷ []) → AllByRecursion (IsMadeIn c) (map v ps ++ own ∷ [])
        → ((line : List LineSight) (seats : List NodeView) → map seen_word seats ≡ line_words k None (map line_place line) → AllByRecursion (IsMadeIn c) seats → IsMadeLine c k None line)
        → (sights : List Sight) × SightsLine c last.slot sights × (map sight_of (map v ps ++ own ∷ []) ≡ map sight_entry sights)
    looked ps c line made tell = (
      map line_sight (map l ps ++ last ∷ []),
      record {
        line = record { kind = k; past = map l ps; last = last };
        made = tell (map l ps ++ last ∷ []) (map v ps ++ own ∷ []) (words_are ps own ∙ line ∙ ap (line_words k None) (sym (places_are ps last))) made;
        is_last = refl;
        sights_are = refl;
      },
      entries_are None ps line ∙ ap (map sight_entry) (sym (sights_are ps last)),
    )

-- a node that is done was sighted with its line
pub saw : {A : Type 0} (v : A → NodeView) (l : A → LineSight) (told : (p : A) → (v p).log ≡ (l p).log) (ps : List A) (own : NodeView) (last : LineSight) (t : NodeState)
    (c : Configuration) (r r' : List Entry) (lengths lengths' : List (Option ℕ)) (done : Bool)
    → done ≡ true → own.log ≡ last.log
    → map (λ p. seen_word (v p)) ps ++ seen_word own ∷ [] ≡ line_words t.kind None (map (λ p. line_place (l p)) ps ++ line_place last ∷ [])
    → line_state t.kind None (map (λ p. line_node (l p)) ps) (line_node last) ≡ Some t
    → AllByRecursion (IsMadeIn c) (map v ps ++ own ∷ []) → moves.is_done t ≡ true
    → ((line : List LineSight) (seats : List NodeView) → map seen_word seats ≡ line_words t.kind None (map line_place line) → AllByRecursion (IsMadeIn c) seats → IsMadeLine c t.kind None line)
    → ((past : List LineSight) → IsMadeLine c t.kind None (past ++ last ∷ []) → line_state t.kind None (map line_node past) (line_node last) ≡ Some t → moves.is_done t ≡ true
    → is_seen_done c (seen_in (map line_sight (past ++ last ∷ []))) last.slot ≡ true)
    → r' ≡ r ++ map sight_of (map v ps ++ own ∷ [])
    → ((before : List Sight) → AreLengths before lengths → AreLengths (before ++ (map (λ p. line_sight (l p)) ps ++ line_sight last ∷ [])) lengths')
    → SeesNode c r r' lengths lengths' last.slot done
saw v l told ps own last t c r r' lengths lengths' done on log line folds made is_done tell show grew long =
    let whole : IsMadeLine c t.kind None (map l ps ++ last ∷ []) =
    tell (map l ps ++ last ∷ []) (map v ps ++ own ∷ []) (words_are v l ps own ∙ line ∙ ap (line_words t.kind None) (sym (places_are v l ps last))) made in
    let same = sights_are v l ps last in
    record {
      sights = map (λ p. line_sight (l p)) ps ++ line_sight last ∷ [];
      adds = grew ∙ ap (λ (es : List Entry). r ++ es) (entries_are v l t.kind told own last log None ps line);
      lengths_are = long;
      of_line = λ n es at. record {
        kind = t.kind;
        past = map l ps;
        last = last;
        made = whole;
        is_last = refl;
        among = seen_among (map l ps ++ last ∷ []) n es (ap (λ ss. seen_in ss n) same ∙ at);
      };
      unseen = λ off. absurd (both_ways done off on);
      seen = λ _. subst (λ ss. is_seen_done c (seen_in ss) last.slot ≡ true) same (show (map l ps) whole (ap (λ ns. line_state t.kind None ns (line_node last)) (nodes_are v l ps) ∙ folds) is_done);
    }
