-- How the logs of slots end, told one after the other.
use Rattle.std.proofs.Common.{◌≡◌, ◌∙◌, ℕ, ◌+◌, ◌<◌, Bool, true, List, [], ◌∷◌, ◌++◌, length, map, Option, Some, None, refl, sym, ap, subst, ⊎_elim, arith, length-append}
use Rattle.std.specs.Prelude.{Err, IfOk, Ok, Result, slice_get, slice_index_or}
use Rattle.std.specs.List.{range_with_len}
use Rattle.std.proofs.lemmas.List.{map-append}
use Rattle.std.proofs.lemmas.Option.{get_or_from_slice_get}
use Rattle.base.proofs.PlaceLaws.{slice_get-front, slice_get-last, slice_get-snoc, slice_get-there}
use Rattle.base.proofs.RisingLaws.{places_more}
use Rattle.component_trait.specs.Moves as moves
use Rattle.component_trait.specs.States.{NodeState}
use Rattle.live_board.specs.Collecting.{AreTold, TellsEnd}
use Rattle.live_board.specs.declared.ends.End.{End}
use Rattle.live_board.specs.Lengths.{length_at}
use Rattle.live_hall.specs.declared.guest.Guest.{Guest}
use Rattle.report_types.specs.declared.report.Last.{Last}
use Rattle.report_types.specs.declared.report.Last.TheVariants.{State, Moved}
use Rattle.report_types.specs.declared.report.NodeLog.{NodeLog}
use Rattle.state_handover.specs.declared.any_node.AnyNode.{AnyNode}

some_same : (a b : ℕ) → Some a ≡ Some b → a ≡ b
some_same a b h = cc

module _ (S : AnyNode → NodeState) where
  pub tells_moved : (h n : ℕ) (guests : List Guest) (done : Bool) → TellsEnd S (Some h) n guests (Moved h) done
  tells_moved h n guests done = record { moved = λ j is. ap Moved (some_same h j is); kept = λ none_. absurd (cc none_) }

  pub tells_kept : (n : ℕ) (guests : List Guest) (x : Guest) (last : Last) (done : Bool) → x.node.slot ≡ n → last ≡ State (moves.numbers (S x.node.inner)) → done ≡ moves.is_done (S x.node.inner) → TellsEnd S None n (guests ++ x ∷ []) last done
  tells_kept n guests x last done slot last_is done_is = record {
    moved = λ j is. absurd (cc is);
    kept = λ none_. (x, (length guests, slice_get-last guests x), slot, last_is, done_is);
  }

  tells_further : (heir : Option ℕ) (n : ℕ) (guests more_ : List Guest) (last : Last) (done : Bool) → TellsEnd S heir n guests last done → TellsEnd S heir n (guests ++ more_) last done
  tells_further heir n guests more_ last done t = record {
    moved = t.moved;
    kept = λ none_. let k = t.kept none_ in (k.0, (k.1.0, slice_get-front guests more_ k.1.0 k.0 k.1.1), k.2, k.3, k.4);
  }

  pub told_none : (heirs : List (Option ℕ)) (guests : List Guest) → AreTold S heirs 0 guests [] []
  told_none heirs guests = record { count = refl; flags = refl; slots_are = refl; told = λ n l at. absurd (cc at) }

  pub told_more : (heirs : List (Option ℕ)) (n : ℕ) (guests guests' more_ : List Guest) (logs logs' : List NodeLog) (dones dones' : List Bool) (l : NodeLog) (done : Bool) → AreTold S heirs n guests logs dones → guests' ≡ guests ++ more_
      → TellsEnd S (length_at heirs n) n guests' l.last done → l.slot ≡ n → logs' ≡ logs ++ l ∷ [] → dones' ≡ dones ++ done ∷ [] → AreTold S heirs (n + 1) guests' logs' dones'
  told_more heirs n guests guests' more_ logs logs' dones dones' l done t guests_are end slot logs_are dones_are = record {
    count = ap length logs_are ∙ length-append logs (l ∷ []) ∙ ap (λ k. k + 1) t.count;
    flags = ap length dones_are ∙ length-append dones (done ∷ []) ∙ ap (λ k. k + 1) t.flags;
    slots_are = ap (map (λ (x : NodeLog). x.slot)) logs_are ∙ map-append (λ (x : NodeLog). x.slot) logs (l ∷ []) ∙ ap (λ xs. xs ++ l.slot ∷ []) t.slots_are ∙ ap (λ k. range_with_len 0 n ++ k ∷ []) slot ∙ sym (places_more n);
    told = λ i x at. ⊎_elim
        (λ (old : (i < length logs) × (slice_get logs i ≡ Some x)).
        subst (λ d. TellsEnd S (length_at heirs i) i guests' x.last d) (flag_was i old.0)
        (subst (λ gs. TellsEnd S (length_at heirs i) i gs x.last (slice_index_or dones i true)) (sym guests_are) (tells_further (length_at heirs i) i guests more_ x.last (slice_index_or dones i true) (t.told i x old.1))))
        (λ (new : (i ≡ length logs) × (l ≡ x)).
        let here : i ≡ n = new.0 ∙ t.count in
        subst (λ d. TellsEnd S (length_at heirs i) i guests' x.last d) (flag_now i here)
        (subst (λ (y : NodeLog). TellsEnd S (length_at heirs i) i guests' y.last done) new.1 (subst (λ k. TellsEnd S (length_at heirs k) k guests' l.last done) (sym here) end)))
        (slice_get-snoc logs l x i (sym (ap (λ xs. slice_get xs i) logs_are) ∙ at));
  }
    where
      flag_was : (i : ℕ) → i < length logs → slice_index_or dones i true ≡ slice_index_or dones' i true
      flag_was i few = sym (ap (λ xs. slice_index_or xs i true) dones_are ∙ front dones (omega (arith, few, t.count, t.flags)))
        where
          front : (xs : List Bool) → i < length xs → slice_index_or (xs ++ done ∷ []) i true ≡ slice_index_or xs i true
          front xs within = let x = slice_get-there xs i within in get_or_from_slice_get (xs ++ done ∷ []) i x.0 true (slice_get-front xs (done ∷ []) i x.0 x.1) ∙ sym (get_or_from_slice_get xs i x.0 true x.1)

      flag_now : (i : ℕ) → i ≡ n → done ≡ slice_index_or dones' i true
      flag_now i here = sym (get_or_from_slice_get dones' i done true (ap (λ xs. slice_get xs i) dones_are ∙ ap (slice_get (dones ++ done ∷ [])) (here ∙ sym t.flags) ∙ slice_get-last dones done))

  -- where the end of a log was had
  pub told_if : {E : Type 0} (r : Result End E) (heir : Option ℕ) (n : ℕ) (guests guests' : List Guest) (x : Guest) → heir ≡ None → guests' ≡ guests ++ x ∷ [] → x.node.slot ≡ n
      → IfOk r (λ e. e.last ≡ State (moves.numbers (S x.node.inner))) → IfOk r (λ e. e.done ≡ moves.is_done (S x.node.inner)) → IfOk r (λ e. TellsEnd S heir n guests' e.last e.done)
  told_if (Err e) heir n guests guests' x none_ is slot last done = tt
  told_if (Ok e) heir n guests guests' x none_ is slot last done =
      subst (λ h. TellsEnd S h n guests' e.last e.done) (sym none_) (subst (λ gs. TellsEnd S None n gs e.last e.done) (sym is) (tells_kept n guests x e.last e.done slot last done))
