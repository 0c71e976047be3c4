-- Lemmas on moves, and on what is marked of them.
use Rattle.std.proofs.Common.{◌≡◌, ◌⊎◌, ◌↔◌, ℕ, ◌+◌, ◌<◌, ◌≤◌, Bool, true, false, List, [], ◌∷◌, ◌++◌, length, map, set, take, get_or, Option, Some, None, slice_get, refl, sym, ◌∙◌, ap, subst, inl, inr, arith, Contains, is_some, get_or-set_other}
use Rattle.std.proofs.Math.ListN.{length-set}
use Rattle.std.proofs.lemmas.Bool.{cases_eq, cases_lt, false≢true}
use Rattle.std.proofs.lemmas.Grind.{get_or-set_at}
use Rattle.std.proofs.lemmas.List.Elements.{All-contains, All-map, All-push, Contains-append_left, Contains-get_or, Contains-push, Contains-push_cases}
use Rattle.std.proofs.lemmas.List.{get_or_past, map-append, take_all, take_more}
use Rattle.std.specs.List.Sorted.{IsStrictlyIncreasing}
use Rattle.std.proofs.lemmas.Option.{get_or_from_slice_get, none-some, slice_get_within, slice_get-get_or}
use Rattle.config_graph.specs.Graph.{Graph, IsGraph, index_of}
use Rattle.config_graph.specs.contracts.kind.KindPartialEq as kind_eq
use Rattle.config_graph.specs.declared.node.Node.{Node}
use Rattle.change_plan.specs.Moves.{IsFit, IsGoneAt, IsPathGone, IsShift, IsShifts, MoveLeads, MayMove, MayMoveAll, MovesFrom, MovesTo}
use Rattle.change_plan.specs.MoveEnds.{IsMovedFrom, MarksEnds}
use Rattle.change_plan.specs.Refusals.{FirstMoveFault, KindsDifferIn, MoveFault}
use Rattle.change_plan.specs.declared.error.PlanError.{PlanError}
use Rattle.change_plan.specs.declared.error.PlanError.TheVariants.{NoMemory}
use Rattle.change_plan.specs.declared.plan_data.Move.{Move}
use Rattle.change_plan.specs.declared.plan_data.Shift.{Shift}
use Rattle.change_plan.proofs.DifferenceLemmas.{one_node}
use Rattle.change_plan.proofs.NodeLaws.{index_found, index_missing, one_path}
use Rattle.base.proofs.RisingLaws.{IsStrictlyIncreasing-push}
use Rattle.config_graph.proofs.SameLaws.{kind_decides}
use Rattle.change_plan.proofs.MoveLaws.{one_gone, one_name}

-- the node that a path finds, where it isn't in the other graph
pub found_gone : (g h : Graph) (path : List ℕ) (i : ℕ) (n : Node) → index_of g.nodes path ≡ Some i → slice_get g.nodes i ≡ Some n → (¬ Contains h.nodes n) → IsGoneAt g h path i
found_gone g h path i n found here gone = record {
  node = n;
  here = here;
  named = sym ((index_found g.nodes path i n found).1 ∙ ap (λ (m : Node). m.path) (get_or_from_slice_get g.nodes i n n here));
  gone = gone;
}

-- where none is found, or it is there, no node with the path is gone
pub missing_not_gone : (g h : Graph) (path : List ℕ) → index_of g.nodes path ≡ None → ¬ IsPathGone g h path
missing_not_gone g h path missing (i, lost) = index_missing g.nodes path missing i lost.node lost.here lost.named

pub found_not_gone : (g h : Graph) → IsGraph g → (path : List ℕ) (i j : ℕ) (n : Node) → index_of g.nodes path ≡ Some i → slice_get g.nodes i ≡ Some n → slice_get h.nodes j ≡ Some n → ¬ IsPathGone g h path
found_not_gone g h graph path i j n found here there (k, lost) =
    let named : n.path ≡ path = sym ((index_found g.nodes path i n found).1 ∙ ap (λ (m : Node). m.path) (get_or_from_slice_get g.nodes i n n here)) in
    let place : k ≡ i = one_path g.nodes graph.paths_rise k i lost.node n lost.here here (lost.named ∙ sym named) in
    let both : Some lost.node ≡ Some n = sym lost.here ∙ ap (slice_get g.nodes) place ∙ here in
    let node : lost.node ≡ n = cc in
    lost.gone (j, slice_get_within h.nodes j lost.node (there ∙ ap Some (sym node)), get_or_from_slice_get h.nodes j lost.node lost.node (there ∙ ap Some (sym node)))

module _ (old new : Graph) (m : Move) (i j : ℕ) (leads : MoveLeads old new m i j) (a b : Node) (at_a : slice_get old.nodes i ≡ Some a) (at_b : slice_get new.nodes j ≡ Some b) (same : Bool) (same_is : same ≡ (kind_eq.TheImpl.eq-value).it a.kind b.kind) where
  kind_of_source : leads.removed.node.kind ≡ a.kind
  kind_of_source = ap (λ (n : Node). n.kind) (one_node old.nodes i leads.removed.node a leads.removed.here at_a)

  kind_of_target : leads.created.node.kind ≡ b.kind
  kind_of_target = ap (λ (n : Node). n.kind) (one_node new.nodes j leads.created.node b leads.created.here at_b)

  pub kinds_fit : same ≡ true → IsFit old new m
  kinds_fit told = record {
    source = i;
    target = j;
    leads = leads;
    same_kind = kind_of_source ∙ (kind_decides a.kind b.kind).0 (sym same_is ∙ told) ∙ sym kind_of_target;
  }

  pub kinds_differ : same ≡ false → KindsDifferIn old new m
  kinds_differ told = record {
    source = i;
    target = j;
    leads = leads;
    differ = λ equal. false≢true (sym told ∙ same_is ∙ (kind_decides a.kind b.kind).1 (sym kind_of_source ∙ equal ∙ kind_of_target));
  }

-- two paths by which nodes were found, as the move's
pub leads_by : (old new : Graph) (m : Move) (p q : List ℕ) (i j : ℕ) → p ≡ m.from → q ≡ m.to → IsGoneAt old new p i → IsGoneAt new old q j → MoveLeads old new m i j
leads_by old new m p q i j from to removed created = record {
  removed = subst (λ x. IsGoneAt old new x i) from removed;
  created = subst (λ x. IsGoneAt new old x j) to created;
}

-- the shifts of one move more
module _ (old new : Graph) (before : List Move) (m : Move) (s : Shift) where
  pub IsShift_more : IsShift old new (before ++ m ∷ []) s ↔ (IsShift old new before s ⊎ MoveLeads old new m s.old s.new)
  IsShift_more = (to, from)
    where
      to : IsShift old new (before ++ m ∷ []) s → IsShift old new before s ⊎ MoveLeads old new m s.old s.new
      to h =
          elim (Contains-push_cases before m h.move h.there) [
            | inl early ↦ inl (record { move = h.move; there = early; leads = h.leads })
            | inr same ↦ inr (subst (λ n. MoveLeads old new n s.old s.new) (sym same) h.leads)
          ]

      from : IsShift old new before s ⊎ MoveLeads old new m s.old s.new → IsShift old new (before ++ m ∷ []) s
      from (inl h) = record { move = h.move; there = Contains-append_left before (m ∷ []) h.move h.there; leads = h.leads }
      from (inr h) = record { move = m; there = Contains-push before m; leads = h }

module _ (old new : Graph) (old_graph : IsGraph old) (new_graph : IsGraph new) (before : List Move) (sources : List Bool) (targets : List (Option ℕ)) (marked : MarksEnds old new before sources targets) (m : Move) (i j : ℕ) (leads : MoveLeads old new m i j) where
  -- an earlier move from the same path goes from the same node
  from_shift : MovesFrom before m.from → IsMovedFrom old new before i
  from_shift (k, b, low, at, same) =
      let there : Contains before b = (k, low, at) in
      let fit = All-contains (IsFit old new) before b marked.fit there in
      let place : fit.source ≡ i = one_gone old new old_graph m.from fit.source i (subst (λ p. IsGoneAt old new p fit.source) same fit.leads.removed) leads.removed in
      (fit.target, record { move = b; there = there; leads = subst (λ x. MoveLeads old new b x fit.target) place fit.leads })

  shift_from : IsMovedFrom old new before i → MovesFrom before m.from
  shift_from (k, shift) =
      let b = shift.move in
      (shift.there.0, b, shift.there.1, shift.there.2, one_name old new i b.from m.from shift.leads.removed leads.removed)

  to_shift : MovesTo before m.to → (k : ℕ) × IsShift old new before (record { old = k; new = j })
  to_shift (k, b, low, at, same) =
      let there : Contains before b = (k, low, at) in
      let fit = All-contains (IsFit old new) before b marked.fit there in
      let place : fit.target ≡ j = one_gone new old new_graph m.to fit.target j (subst (λ p. IsGoneAt new old p fit.target) same fit.leads.created) leads.created in
      (fit.source, record { move = b; there = there; leads = subst (MoveLeads old new b fit.source) place fit.leads })

  shift_to : (k : ℕ) → IsShift old new before (record { old = k; new = j }) → MovesTo before m.to
  shift_to k shift =
      let b = shift.move in
      (shift.there.0, b, shift.there.1, shift.there.2, one_name new old j b.to m.to shift.leads.created leads.created)

  -- the source's mark is set where an earlier move has the source
  pub repeated_source : get_or sources i false ≡ true → MovesFrom before m.from
  repeated_source mark = shift_from ((marked.sources_are i).0 mark)

  pub other_source : get_or sources i false ≡ false → ¬ MovesFrom before m.from
  other_source unset moves = false≢true (sym unset ∙ (marked.sources_are i).1 (from_shift moves))

  pub repeated_target : (k : ℕ) → get_or targets j None ≡ Some k → MovesTo before m.to
  repeated_target k found = shift_to k ((marked.targets_are k j).0 found)

  pub other_target : get_or targets j None ≡ None → ¬ MovesTo before m.to
  other_target unset moves =
      let shift = to_shift moves in
      none-some shift.0 (sym unset ∙ (marked.targets_are shift.0 j).1 shift.1)

  -- what is marked after one move more
  pub marked_more : IsFit old new m → get_or targets j None ≡ None → MarksEnds old new (before ++ m ∷ []) (set sources i true) (set targets j (Some i))
  marked_more fit unset = record {
    fit = All-push (IsFit old new) before m marked.fit fit;
    sources_length = length-set sources i true ∙ marked.sources_length;
    targets_length = length-set targets j (Some i) ∙ marked.targets_length;
    sources_are = λ x. (source_to x, source_from x);
    targets_are = λ x y. (target_to x y, target_from x y);
  }
    where
      i_low : i < length sources
      i_low = omega (arith, slice_get_within old.nodes i leads.removed.node leads.removed.here, marked.sources_length)

      j_low : j < length targets
      j_low = omega (arith, slice_get_within new.nodes j leads.created.node leads.created.here, marked.targets_length)

      more : (x y : ℕ) → IsShift old new (before ++ m ∷ []) (record { old = x; new = y }) ↔ (IsShift old new before (record { old = x; new = y }) ⊎ MoveLeads old new m x y)
      more x y = IsShift_more old new before m (record { old = x; new = y })

      source_to : (x : ℕ) → get_or (set sources i true) x false ≡ true → IsMovedFrom old new (before ++ m ∷ []) x
      source_to x mark =
          elim (cases_eq x i) [
            | inl same ↦ (j, (more x j).1 (inr (subst (λ y. MoveLeads old new m y j) (sym same) leads)))
            | inr apart ↦
                let earlier = (marked.sources_are x).0 (sym (get_or-set_other sources i x true false apart) ∙ mark) in
                (earlier.0, (more x earlier.0).1 (inl earlier.1))
          ]

      source_from : (x : ℕ) → IsMovedFrom old new (before ++ m ∷ []) x → get_or (set sources i true) x false ≡ true
      source_from x (y, shift) =
          elim (cases_eq x i) [
            | inl same ↦ get_or-set_at sources i x true false same i_low
            | inr apart ↦
                elim ((more x y).0 shift) [
                  | inl earlier ↦ get_or-set_other sources i x true false apart ∙ (marked.sources_are x).1 (y, earlier)
                  | inr here ↦ absurd (apart (one_gone old new old_graph m.from x i here.removed leads.removed))
                ]
          ]

      target_to : (x y : ℕ) → get_or (set targets j (Some i)) y None ≡ Some x → IsShift old new (before ++ m ∷ []) (record { old = x; new = y })
      target_to x y found =
          elim (cases_eq y j) [
            | inl same ↦
                let both : Some i ≡ Some x = sym (get_or-set_at targets j y (Some i) None same j_low) ∙ found in
                let source : i ≡ x = cc in
                (more x y).1 (inr (subst (λ z. MoveLeads old new m x z) (sym same) (subst (λ z. MoveLeads old new m z j) source leads)))
            | inr apart ↦
                (more x y).1 (inl ((marked.targets_are x y).0 (sym (get_or-set_other targets j y (Some i) None apart) ∙ found)))
          ]

      target_from : (x y : ℕ) → IsShift old new (before ++ m ∷ []) (record { old = x; new = y }) → get_or (set targets j (Some i)) y None ≡ Some x
      target_from x y shift =
          elim ((more x y).0 shift) [
            | inl earlier ↦
                elim (cases_eq y j) [
                  | inl same ↦ absurd (other_target unset (shift_to x (subst (λ z. IsShift old new before (record { old = x; new = z })) same earlier)))
                  | inr apart ↦ get_or-set_other targets j y (Some i) None apart ∙ (marked.targets_are x y).1 earlier
                ]
            | inr here ↦
                let place : y ≡ j = one_gone new old new_graph m.to y j here.created leads.created in
                let source : i ≡ x = one_gone old new old_graph m.from i x leads.removed here.removed in
                get_or-set_at targets j y (Some i) None place j_low ∙ ap Some source
          ]

pub is_there : (o : Option ℕ) (b : Bool) → b ≡ is_some o → b ≡ true → (k : ℕ) × (o ≡ Some k)
is_there None b tested e = absurd (false≢true (sym tested ∙ e))
is_there (Some k) b tested e = (k, refl)

pub is_missing : (o : Option ℕ) (b : Bool) → b ≡ is_some o → b ≡ false → o ≡ None
is_missing None b tested e = refl
is_missing (Some k) b tested e = absurd (false≢true (sym e ∙ tested))

-- the moves to the first n nodes, in the order of these
pub record ListedBelow (targets : List (Option ℕ)) (n : ℕ) (shifts : List Shift) : Type 0 where
  pub listed : (s : Shift) → Contains shifts s ↔ ((s.new < n) × (get_or targets s.new None ≡ Some s.old))
  pub rise : IsStrictlyIncreasing (map (λ s. s.new) shifts)

module _ (targets : List (Option ℕ)) (n : ℕ) (shifts : List Shift) (so_far : ListedBelow targets n shifts) where
  pub listed_push : (i : ℕ) → get_or targets n None ≡ Some i → ListedBelow targets (n + 1) (shifts ++ record { old = i; new = n } ∷ [])
  listed_push i at = record {
    listed = λ s. (to s, from s);
    rise = subst IsStrictlyIncreasing (sym (map-append (λ (s : Shift). s.new) shifts (record { old = i; new = n } ∷ []))) (IsStrictlyIncreasing-push (map (λ s. s.new) shifts) n so_far.rise (All-map (λ x. x < n) (λ (s : Shift). s.new) shifts (λ k d low. ((so_far.listed (get_or shifts k d)).0 (Contains-get_or shifts k d low)).0)));
  }
    where
      to : (s : Shift) → Contains (shifts ++ record { old = i; new = n } ∷ []) s → (s.new < n + 1) × (get_or targets s.new None ≡ Some s.old)
      to s h =
          elim (Contains-push_cases shifts (record { old = i; new = n }) s h) [
            | inl early ↦
                let below = (so_far.listed s).0 early in
                (omega (arith, below.0), below.1)
            | inr same ↦
                subst (λ (t : Shift). (t.new < n + 1) × (get_or targets t.new None ≡ Some t.old)) same (omega arith, at)
          ]

      from : (s : Shift) → (s.new < n + 1) × (get_or targets s.new None ≡ Some s.old) → Contains (shifts ++ record { old = i; new = n } ∷ []) s
      from s (low, found) =
          elim (cases_eq s.new n) [
            | inl same ↦
                let both : Some i ≡ Some s.old = sym at ∙ ap (λ j. get_or targets j None) (sym same) ∙ found in
                let source : i ≡ s.old = cc in
                let is : record { old = i; new = n } ≡ s = λ k. record { old = source k; new = sym same k } in
                subst (Contains (shifts ++ record { old = i; new = n } ∷ [])) is (Contains-push shifts (record { old = i; new = n }))
            | inr apart ↦
                Contains-append_left shifts (record { old = i; new = n } ∷ []) s ((so_far.listed s).1 (omega (arith, low, apart), found))
          ]

  pub listed_skip : get_or targets n None ≡ None → ListedBelow targets (n + 1) shifts
  listed_skip at = record { listed = λ s. (to s, from s); rise = so_far.rise }
    where
      to : (s : Shift) → Contains shifts s → (s.new < n + 1) × (get_or targets s.new None ≡ Some s.old)
      to s h =
          let below = (so_far.listed s).0 h in
          (omega (arith, below.0), below.1)

      from : (s : Shift) → (s.new < n + 1) × (get_or targets s.new None ≡ Some s.old) → Contains shifts s
      from s (low, found) =
          elim (cases_eq s.new n) [
            | inl same ↦ absurd (none-some s.old (sym at ∙ ap (λ j. get_or targets j None) (sym same) ∙ found))
            | inr apart ↦ (so_far.listed s).1 (omega (arith, low, apart), found)
          ]

  pub listed_all : length targets ≤ n → (s : Shift) → Contains shifts s ↔ (get_or targets s.new None ≡ Some s.old)
  listed_all all s = (λ h. ((so_far.listed s).0 h).1, λ found. (so_far.listed s).1 (below found, found))
    where
      below : get_or targets s.new None ≡ Some s.old → s.new < n
      below found =
          elim (cases_lt s.new (length targets)) [
            | inl low ↦ omega (arith, low, all)
            | inr high ↦ absurd (none-some s.old (sym (get_or_past targets s.new None high) ∙ found))
          ]

-- what was marked of all moves, listed
pub shifts_are : (old new : Graph) (moves : List Move) (sources : List Bool) (targets : List (Option ℕ)) (shifts : List Shift) → MarksEnds old new moves sources targets → ((s : Shift) → Contains shifts s ↔ (get_or targets s.new None ≡ Some s.old)) → IsStrictlyIncreasing (map (λ s. s.new) shifts) → IsShifts old new moves shifts
shifts_are old new moves sources targets shifts marked listed rise = record {
  sound = λ s there. (marked.targets_are s.old s.new).0 ((listed s).0 there);
  complete = λ s shift. (listed s).1 ((marked.targets_are s.old s.new).1 shift);
  rise = rise;
}

-- one move more that may be made
pub may_move_more : (old new : Graph) (moves : List Move) (k : ℕ) (m : Move) → slice_get moves k ≡ Some m → MayMoveAll old new moves k → MayMove old new (take k moves) m → MayMoveAll old new moves (k + 1)
may_move_more old new moves k m at so_far may j n low at_j =
    elim (cases_eq j k) [
      | inl same ↦
          let both : Some m ≡ Some n = sym at ∙ ap (slice_get moves) (sym same) ∙ at_j in
          let move : m ≡ n = cc in
          subst (λ i. MayMove old new (take i moves) n) (sym same) (subst (MayMove old new (take k moves)) move may)
      | inr apart ↦ so_far j n (omega (arith, low, apart)) at_j
    ]

-- a fault of a move whose forerunners may be made is the first
pub first_fault : (old new : Graph) (moves : List Move) (k : ℕ) (m : Move) (e : PlanError) → slice_get moves k ≡ Some m → MayMoveAll old new moves k → (e ≡ NoMemory) ⊎ MoveFault old new (take k moves) m e → (e ≡ NoMemory) ⊎ FirstMoveFault old new moves e
first_fault old new moves k m e at so_far (inl memory) = inl memory
first_fault old new moves k m e at so_far (inr fault) =
    inr (record { count = k; move = m; at = at; before = so_far; fault = fault })

module _ (old new : Graph) (moves : List Move) (k : ℕ) (m : Move) (low : k < length moves) (m_is : m ≡ get_or moves k m) where
  pub move_at : slice_get moves k ≡ Some m
  move_at = slice_get-get_or moves k m low ∙ ap Some (sym m_is)

  -- what is marked of the first moves and of this one is marked of one move more
  pub marked_next : (sources : List Bool) (targets : List (Option ℕ)) → MarksEnds old new (take k moves ++ m ∷ []) sources targets → MarksEnds old new (take (k + 1) moves) sources targets
  marked_next sources targets marked =
      let more = take_more moves k m low ∙ ap (λ x. take k moves ++ x ∷ []) (sym m_is) in
      subst (λ before. MarksEnds old new before sources targets) (sym more) marked

-- where all were looked at
pub marked_all : (old new : Graph) (moves : List Move) (k : ℕ) (sources : List Bool) (targets : List (Option ℕ)) → length moves ≤ k → MarksEnds old new (take k moves) sources targets → MarksEnds old new moves sources targets
marked_all old new moves k sources targets all marked =
    subst (λ before. MarksEnds old new before sources targets) (take_all k moves all) marked

pub may_move_all : (old new : Graph) (moves : List Move) (k : ℕ) → length moves ≤ k → MayMoveAll old new moves k → MayMoveAll old new moves (length moves)
may_move_all old new moves k all may j m low at = may j m (omega (arith, low, all)) at

-- where all moves may be made, the moves of one source, or of one target, are one
