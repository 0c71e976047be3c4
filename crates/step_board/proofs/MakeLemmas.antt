-- A table goes on holding where a node is made: a first of its line, or one that takes the state of another over.
use Rattle.std.proofs.Common.{◌≡◌, ◌∙◌, ◌≢◌, ℕ, ◌+◌, ◌<◌, ◌≤◌, true, List, [], ◌∷◌, ◌++◌, length, set, Option, Some, None, refl, ap, sym, subst, ⊎_elim, arith, length-append}
use Rattle.std.specs.Prelude.{slice_get}
use Rattle.std.specs.Option.{option_map_or}
use Rattle.std.proofs.lemmas.Bool.{both_ways, cases_eq, eq-eqb}
use Rattle.std.proofs.lemmas.List.{length-set}
use Rattle.std.proofs.lemmas.Option.{same_Some, slice_get_within}
use Rattle.base.proofs.PlaceLaws.{slice_get-front, slice_get-last, slice_get-set_other, slice_get-set_same, slice_get-snoc}
use Rattle.config_graph.specs.declared.node.Node.{Node}
use Rattle.quiesce_core.specs.Knowledge.{nothing_known}
use Rattle.quiesce_core.specs.Runs.{Step, done_by, state_after}
use Rattle.quiesce_core.specs.State.{State, slot}
use Rattle.quiesce_core.specs.declared.event.Event.{Event}
use Rattle.quiesce_core.specs.declared.event.Event.TheVariants.{Make}
use Rattle.quiesce_core.specs.declared.known.Known.{Known}
use Rattle.quiesce_core.specs.declared.state.Slot.{Slot}
use Rattle.quiesce_core.proofs.InductionLaws.{IsNext}
use Rattle.quiesce_core.proofs.RunLaws.{done_by_other}
use Rattle.quiesce_core.proofs.SourceLaws.{new_slot}
use Rattle.component_trait.specs.Making.{argument_or_0}
use Rattle.node_gate.specs.Core.{FitsCore}
use Rattle.node_gate.proofs.SeatLaws.{new_seats_fit}
use Rattle.step_board.specs.Entries.{SlotEntry, Predecessor, NodeSeen, gone, here, line_of}
use Rattle.step_board.specs.Holding.{HoldsIn, IsGone, IsHere}
use Rattle.step_board.specs.Lines.{IsPast, behind, first_of_line, predecessor}
use Rattle.step_board.specs.declared.handed.Handed.{Handed}
use Rattle.step_board.proofs.ChangeLemmas.{gone_then, here_same, run_then, step_there}
use Rattle.step_board.proofs.Keeping.{config_then, here_then, next_of, state_then}
use Rattle.step_board.proofs.Slots.{unmade_are_idle}

-- what is seen of a node that was just made in slot n
pub record IsFresh (s : State) (n : ℕ) (node : Node) (x : NodeSeen) : Type 0 where
  pub place : x.slot ≡ n
  pub first : x.first ≡ length s.config.gates
  pub kind : x.state.kind ≡ node.kind
  pub arg : x.state.arg ≡ option_map_or (λ a. a) node.arg 0
  pub rests : x.state.service ≡ None
  pub known : x.known ≡ nothing_known
  pub log : x.log ≡ []

pub inside_here : (x y : NodeSeen) → here x ≡ here y → x ≡ y
inside_here x y h = cc

inside_gone : (x y : Handed) → gone x ≡ gone y → x ≡ y
inside_gone x y h = cc

here_not_gone : {A : Type 0} (x : NodeSeen) (y : Handed) → here x ≡ gone y → A
here_not_gone x y h = absurd (cc)

module _ (s t : State) (nodes : List SlotEntry) (ends : List ℕ) (es : List Event) (node : Node) (from : Option ℕ) (h : HoldsIn s nodes ends es)
    (st : Step s (Make (length (state_after es).config.slots) node from) t) (x : NodeSeen) (f : IsFresh (state_after es) (length (state_after es).config.slots) node x) where
  abbrev n : ℕ
  n = length (state_after es).config.slots

  abbrev e : Event
  e = Make n node from

  abbrev es' : List Event
  es' = es ++ e ∷ []

  abbrev fresh : Slot
  fresh = new_slot (state_after es).config node from

  step : Step (state_after es) e t
  step = step_there s t es e h.state st

  next : IsNext es e
  next = next_of es e t h.runs step

  there : slot (state_after es').config n ≡ Some fresh
  there = (config_then es e next).slots n ∙ rw (eq-eqb n n refl) refl

  idle : done_by n es' ≡ []
  idle = done_by_other n es e refl ∙ unmade_are_idle es h.runs n (omega arith)

  made_here : IsPast es' n x.past → IsHere es' n x
  made_here past =
      let fits : FitsCore (state_after es') n x.known =
      subst (λ (w : Known). FitsCore (state_after es') n w) (sym f.known)
      (subst (λ (u : State). FitsCore u n nothing_known) (state_then es e t step) (new_seats_fit (state_after es) t n node from next.well step)) in
      record {
        made = fresh;
        there = there;
        place = f.place;
        first = f.first;
        kind = f.kind;
        arg = f.arg;
        log = f.log ∙ sym idle;
        past = past;
        fits = λ live. fits;
        rests = λ gone. absurd (both_ways true gone refl);
        told = λ none_. f.rests;
      }

  number_is : length nodes ≡ n
  number_is = h.made

  ends_number : length ends ≡ n
  ends_number = h.lines ∙ h.made

  -- the entries and the line ends then, where l is the line of the new node
  module _ (mid : List SlotEntry) (l : ℕ) (count : length mid ≡ length nodes) (line : line_of x ≡ l) (low : l ≤ n) (past : IsPast es' n x.past)
      (old_here : (j : ℕ) (y : NodeSeen) → slice_get mid j ≡ Some (here y) → (slice_get nodes j ≡ Some (here y)) × (line_of y ≢ l))
      (old_gone : (j : ℕ) (y : Handed) → slice_get mid j ≡ Some (gone y) → IsGone es' (mid ++ here x ∷ []) (set (ends ++ n ∷ []) l n) j y) where
    abbrev nodes_then : List SlotEntry
    nodes_then = mid ++ here x ∷ []

    abbrev ends_then : List ℕ
    ends_then = set (ends ++ n ∷ []) l n

    count_n : length mid ≡ n
    count_n = count ∙ number_is

    end_there : slice_get ends_then l ≡ Some n
    end_there = slice_get-set_same (ends ++ n ∷ []) l n (let more_ = length-append ends (n ∷ []) in omega (arith, more_, ends_number, low))

    here_at : (j : ℕ) (y : NodeSeen) → slice_get nodes_then j ≡ Some (here y) → IsHere es' j y
    here_at j y at = ⊎_elim
        (λ (old : (j < length mid) × (slice_get mid j ≡ Some (here y))). here_then es e next j y (h.nodes_here j y (old_here j y old.1).0) refl)
        (λ (new : (j ≡ length mid) × (here x ≡ here y)).
        subst (λ i. IsHere es' i y) (sym (new.0 ∙ count_n)) (subst (λ z. IsHere es' n z) (inside_here x y new.1) (made_here past)))
        (slice_get-snoc mid (here x) (here y) j at)

    ends_at : (j : ℕ) (y : NodeSeen) → slice_get nodes_then j ≡ Some (here y) → slice_get ends_then (line_of y) ≡ Some j
    ends_at j y at = ⊎_elim
        (λ (old : (j < length mid) × (slice_get mid j ≡ Some (here y))).
        let was = old_here j y old.1 in
        slice_get-set_other (ends ++ n ∷ []) l n (line_of y) was.1 ∙ slice_get-front ends (n ∷ []) (line_of y) j (h.line_ends j y was.0))
        (λ (new : (j ≡ length mid) × (here x ≡ here y)).
        ap (slice_get ends_then) (ap line_of (sym (inside_here x y new.1)) ∙ line) ∙ end_there ∙ ap Some (sym (new.0 ∙ count_n)))
        (slice_get-snoc mid (here x) (here y) j at)

    gone_at : (j : ℕ) (y : Handed) → slice_get nodes_then j ≡ Some (gone y) → IsGone es' nodes_then ends_then j y
    gone_at j y at = ⊎_elim
        (λ (old : (j < length mid) × (slice_get mid j ≡ Some (gone y))). old_gone j y old.1)
        (λ (new : (j ≡ length mid) × (here x ≡ gone y)). here_not_gone x y new.1)
        (slice_get-snoc mid (here x) (gone y) j at)

    made_holds : HoldsIn t nodes_then ends_then es'
    made_holds = record {
      runs = run_then es e t h.runs step;
      state = state_then es e t step;
      made = length-append mid (here x ∷ []) ∙ ap (λ k. k + 1) count_n ∙ sym (config_then es e next).nodes;
      lines = length-set (ends ++ n ∷ []) l n ∙ length-append ends (n ∷ []) ∙ ap (λ k. k + 1) (ends_number ∙ sym count_n) ∙ sym (length-append mid (here x ∷ []));
      nodes_here = here_at;
      line_ends = ends_at;
      nodes_gone = gone_at;
    }

-- the first of its line
pub holds_made_first : (s t : State) (nodes : List SlotEntry) (ends : List ℕ) (es : List Event) (node : Node) → HoldsIn s nodes ends es → Step s (Make (length (state_after es).config.slots) node None) t
    → (x : NodeSeen) → IsFresh (state_after es) (length (state_after es).config.slots) node x → x.past ≡ []
    → HoldsIn t (nodes ++ here x ∷ []) (set (ends ++ length (state_after es).config.slots ∷ []) (length (state_after es).config.slots) (length (state_after es).config.slots)) (es ++ Make (length (state_after es).config.slots) node None ∷ [])
holds_made_first s t nodes ends es node h st x f none_before =
    let k : ℕ = length (state_after es).config.slots in
    let count : length ends ≡ k = ends_number s t nodes ends es node None h st x f in
    let later = next s t nodes ends es node None h st x f in
    let line : line_of x ≡ k = ap (λ p. option_map_or (λ (m : Predecessor). m.slot) (slice_get p 0) x.slot) none_before ∙ f.place in
    let apart : (i j : ℕ) → slice_get ends i ≡ Some j → i ≢ k = λ i j at same. (let below = slice_get_within ends i j at in omega (arith, below, count, same)) in
    made_holds s t nodes ends es node None h st x f nodes k refl line (omega arith)
    (subst (λ p. IsPast (es ++ Make k node None ∷ []) k p) (sym none_before) (first_of_line k (new_slot (state_after es).config node None) (there s t nodes ends es node None h st x f) refl))
    (λ j y at. (at, apart (line_of y) j (h.line_ends j y at)))
    (λ j y at.
    let g = gone_then es (Make k node None) later nodes ends j y (h.nodes_gone j y at) in
    record {
      heir = g.heir;
      taker = g.taker;
      there = g.there;
      from = g.from;
      at = g.at;
      end_is = slice_get-set_other (ends ++ k ∷ []) k k y.line (apart y.line g.at g.end_is) ∙ slice_get-front ends (k ∷ []) y.line g.at g.end_is;
      last = g.last;
      last_is = slice_get-front nodes (here x ∷ []) g.at (here g.last) g.last_is;
      of_line = g.of_line;
      old = g.old;
      old_is = g.old_is;
      slot_is = g.slot_is;
    })

-- ---- one that takes the state of another over

line_on : (slot k : ℕ) (ms : List Predecessor) (m : Predecessor) (d : ℕ) → m.slot ≡ k → option_map_or (λ (y : Predecessor). y.slot) (slice_get (ms ++ m ∷ []) 0) d ≡ option_map_or (λ (y : Predecessor). y.slot) (slice_get ms 0) k
line_on slot k [] m d is = is
line_on slot k (y ∷ ms) m d is = refl

pub holds_made_from : (s t : State) (nodes : List SlotEntry) (ends : List ℕ) (es : List Event) (node : Node) (k : ℕ) → HoldsIn s nodes ends es → Step s (Make (length (state_after es).config.slots) node (Some k)) t
    → (old x : NodeSeen) → slice_get nodes k ≡ Some (here old) → IsFresh (state_after es) (length (state_after es).config.slots) node x
    → x.past ≡ old.past ++ record { slot = k; first = old.first; arg = old.state.arg; log = old.log } ∷ []
    → (g : Handed) → g.line ≡ line_of old → g.place ≡ length old.past
    → HoldsIn t (set nodes k (gone g) ++ here x ∷ []) (set (ends ++ length (state_after es).config.slots ∷ []) (line_of old) (length (state_after es).config.slots)) (es ++ Make (length (state_after es).config.slots) node (Some k) ∷ [])
holds_made_from s t nodes ends es node k h st old x at_k f past_is g line_is place_is =
    made_holds s t nodes ends es node (Some k) h st x f mid l (length-set nodes k (gone g)) line low past_then_
    old_here old_gone
  where
    mid : List SlotEntry
    mid = set nodes k (gone g)

    l : ℕ
    l = line_of old

    n' : ℕ
    n' = length (state_after es).config.slots

    m_k : Predecessor
    m_k = record { slot = k; first = old.first; arg = old.state.arg; log = old.log }

    ends' : List ℕ
    ends' = set (ends ++ n' ∷ []) l n'

    later : IsNext es (Make n' node (Some k))
    later = next s t nodes ends es node (Some k) h st x f

    here_k : IsHere es k old
    here_k = h.nodes_here k old at_k

    end_k : slice_get ends l ≡ Some k
    end_k = h.line_ends k old at_k

    line_in : line_of x ≡ l
    line_in =
        ap (λ p. option_map_or (λ (m : Predecessor). m.slot) (slice_get p 0) x.slot) past_is
        ∙ line_on k k old.past m_k x.slot refl
        ∙ ap (λ d. option_map_or (λ (m : Predecessor). m.slot) (slice_get old.past 0) d) (sym here_k.place)

    line : line_of x ≡ l
    line = line_in

    count : length ends ≡ n'
    count = ends_number s t nodes ends es node (Some k) h st x f

    low : l ≤ n'
    low = let below = slice_get_within ends l k end_k in omega (arith, below, count)

    within : k < length nodes
    within = slice_get_within nodes k (here old) at_k

    below_n : k < n'
    below_n = omega (arith, within, number_is s t nodes ends es node (Some k) h st x f)

    -- the old node as a predecessor, before and after
    still_k : IsHere (es ++ Make n' node (Some k) ∷ []) k old
    still_k = here_then es (Make n' node (Some k)) later k old here_k refl

    member_is : m_k ≡ predecessor (es ++ Make n' node (Some k) ∷ []) k still_k.made
    member_is =
        ap (λ i. record { slot = k; first = i; arg = old.state.arg; log = old.log }) still_k.first
        ∙ ap (λ a. record { slot = k; first = still_k.made.first_port; arg = a; log = old.log }) still_k.arg
        ∙ ap (λ o. record { slot = k; first = still_k.made.first_port; arg = argument_or_0 still_k.made.node.arg; log = o }) still_k.log

    past_then_ : IsPast (es ++ Make n' node (Some k) ∷ []) n' x.past
    past_then_ =
        subst (λ p. IsPast (es ++ Make n' node (Some k) ∷ []) n' p) (sym (past_is ∙ ap (λ m. old.past ++ m ∷ []) member_is))
        (behind n' k (new_slot (state_after es).config node (Some k)) still_k.made old.past (there s t nodes ends es node (Some k) h st x f) refl below_n still_k.there still_k.past)

    one_end : (i j : ℕ) → slice_get ends i ≡ Some j → i ≡ l → j ≡ k
    one_end i j at same = same_Some j k (sym (subst (λ z. slice_get ends z ≡ Some j) same at) ∙ end_k)

    end_then : slice_get ends' l ≡ Some n'
    end_then = slice_get-set_same (ends ++ n' ∷ []) l n' (let more_ = length-append ends (n' ∷ []) in omega (arith, more_, count, low))

    at_last : slice_get (mid ++ here x ∷ []) n' ≡ Some (here x)
    at_last = subst (λ i. slice_get (mid ++ here x ∷ []) i ≡ Some (here x)) (length-set nodes k (gone g) ∙ number_is s t nodes ends es node (Some k) h st x f) (slice_get-last mid (here x))

    old_here : (j : ℕ) (y : NodeSeen) → slice_get mid j ≡ Some (here y) → (slice_get nodes j ≡ Some (here y)) × (line_of y ≢ l)
    old_here j y at = ⊎_elim
        (λ (same : j ≡ k). here_not_gone y g (sym (same_Some (gone g) (here y) (sym (slice_get-set_same nodes k (gone g) within) ∙ subst (λ i. slice_get mid i ≡ Some (here y)) same at))))
        (λ (other : j ≢ k).
        let was : slice_get nodes j ≡ Some (here y) = sym (slice_get-set_other nodes k (gone g) j other) ∙ at in
        (was, λ same. other (one_end (line_of y) j (h.line_ends j y was) same)))
        (cases_eq j k)

    gone_k : (y : Handed) → g ≡ y → IsGone (es ++ Make n' node (Some k) ∷ []) (mid ++ here x ∷ []) ends' k y
    gone_k y is = subst (λ z. IsGone (es ++ Make n' node (Some k) ∷ []) (mid ++ here x ∷ []) ends' k z) is
        (record {
          heir = n';
          taker = new_slot (state_after es).config node (Some k);
          there = there s t nodes ends es node (Some k) h st x f;
          from = refl;
          at = n';
          end_is = ap (slice_get ends') line_is ∙ end_then;
          last = x;
          last_is = at_last;
          of_line = line ∙ sym line_is;
          old = m_k;
          old_is = ap (λ p. slice_get p g.place) past_is ∙ ap (slice_get (old.past ++ m_k ∷ [])) place_is ∙ slice_get-last old.past m_k;
          slot_is = refl;
        })

    gone_j : (j : ℕ) (y : Handed) → j ≢ k → slice_get nodes j ≡ Some (gone y) → IsGone (es ++ Make n' node (Some k) ∷ []) (mid ++ here x ∷ []) ends' j y
    gone_j j y other at =
        let q = gone_then es (Make n' node (Some k)) later nodes ends j y (h.nodes_gone j y at) in
        ⊎_elim
        (λ (same : q.at ≡ k).
        let is : old ≡ q.last = here_same nodes k old q.last at_k (subst (λ i. slice_get nodes i ≡ Some (here q.last)) same q.last_is) in
        let of_line : l ≡ y.line = ap line_of is ∙ q.of_line in
        record {
          heir = q.heir;
          taker = q.taker;
          there = q.there;
          from = q.from;
          at = n';
          end_is = ap (slice_get ends') (sym of_line) ∙ end_then;
          last = x;
          last_is = at_last;
          of_line = line ∙ of_line;
          old = q.old;
          old_is = ap (λ p. slice_get p y.place) past_is ∙ slice_get-front old.past (m_k ∷ []) y.place q.old (ap (λ (z : NodeSeen). slice_get z.past y.place) is ∙ q.old_is);
          slot_is = q.slot_is;
        })
        (λ (apart : q.at ≢ k). record {
          heir = q.heir;
          taker = q.taker;
          there = q.there;
          from = q.from;
          at = q.at;
          end_is = slice_get-set_other (ends ++ n' ∷ []) l n' y.line (λ same. apart (one_end y.line q.at q.end_is same)) ∙ slice_get-front ends (n' ∷ []) y.line q.at q.end_is;
          last = q.last;
          last_is = slice_get-front mid (here x ∷ []) q.at (here q.last) (slice_get-set_other nodes k (gone g) q.at apart ∙ q.last_is);
          of_line = q.of_line;
          old = q.old;
          old_is = q.old_is;
          slot_is = q.slot_is;
        })
        (cases_eq q.at k)

    old_gone : (j : ℕ) (y : Handed) → slice_get mid j ≡ Some (gone y) → IsGone (es ++ Make n' node (Some k) ∷ []) (mid ++ here x ∷ []) ends' j y
    old_gone j y at = ⊎_elim
        (λ (same : j ≡ k).
        subst (λ i. IsGone (es ++ Make n' node (Some k) ∷ []) (mid ++ here x ∷ []) ends' i y) (sym same)
        (gone_k y (inside_gone g y (same_Some (gone g) (gone y) (sym (slice_get-set_same nodes k (gone g) within) ∙ subst (λ i. slice_get mid i ≡ Some (gone y)) same at)))))
        (λ (other : j ≢ k). gone_j j y other (sym (slice_get-set_other nodes k (gone g) j other) ∙ at))
        (cases_eq j k)
