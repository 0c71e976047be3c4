-- Two ways to the end differ by exchanges of neighbours, and so do the merges that they are.
use Rattle.std.proofs.Common.{◌≡◌, ◌∙◌, ℕ, zero, suc, true, List, [], ◌∷◌, ◌++◌, append_assoc, Option, Some, None, refl, sym, ap, subst, ⊎_elim, arith, get_or-set_other}
use Rattle.std.specs.Prelude.{◌≢◌, fold}
use Rattle.std.specs.List.{cons_option}
use Rattle.std.proofs.lemmas.Bool.{and_from, and_parts, cases_eq}
use Rattle.quiesce_core.specs.declared.event.Event.{Event}
use Rattle.quiesce_core.proofs.RunLaws.{runs_are_consistent, runs_are_well_formed}
use Rattle.report_types.specs.declared.report.HistoryLine.{HistoryLine}
use Rattle.change_spec.specs.Members.{Member}
use Rattle.merge_laws.specs.Exchanged.{AreExchanged, IsMergeOf, exchanged, further, unexchanged}
use Rattle.merge_laws.specs.Guarded.{Left, all_left, can_go, go, left, log_of, may_go}
use Rattle.merge_laws.specs.Merges.{HasRootsApart}
use Rattle.merge_laws.specs.Telling.{IsTold}
use Rattle.merge_laws.specs.Ways.{first_event, first_of, member_of, members_of}
use Rattle.merge_laws.proofs.GoingLemmas.{Sound, does_of, done_is, go_keeps, go_leaves_less, go_stays, go_swaps, tells_of, told_is}
use Rattle.merge_laws.proofs.GuideLemmas.{guided}
use Rattle.merge_laws.proofs.GuidedLemmas.{leads_to_end}
use Rattle.merge_laws.proofs.MergeLemmas.{logs_are_done, ways_are_merges}

-- ---- ways

data Swaps : Left → List ℕ → List ℕ → Type 0 where
  as_is : (s : Left) (cs : List ℕ) → Swaps s cs cs
  turned : (s : Left) (c d : ℕ) (cs : List ℕ) → may_go s c ≡ true → may_go s d ≡ true → c ≢ d → Swaps s (c ∷ d ∷ cs) (d ∷ c ∷ cs)
  behind : (s : Left) (c : ℕ) (cs ds : List ℕ) → Swaps (go s c) cs ds → Swaps s (c ∷ cs) (c ∷ ds)
  both : (s : Left) (cs ds es : List ℕ) → Swaps s cs ds → Swaps s ds es → Swaps s cs es

other_way : (c d : ℕ) → c ≢ d → d ≢ c
other_way c d other e = other (sym e)

-- a way from here to the end, whose first is this
record Moved (s : Left) (c : ℕ) (ds : List ℕ) : Type 0 where
  es : List ℕ
  swaps : Swaps s (c ∷ es) ds
  goes : can_go (go s c) es ≡ true
  ends : left (fold go (go s c) es) ≡ 0

moved_up : (ds : List ℕ) (s : Left) (c : ℕ) → Sound s.state → may_go s c ≡ true → can_go s ds ≡ true → left (fold go s ds) ≡ 0 → Moved s c ds
moved_up [] s c h m goes none_ = absurd (let one = go_leaves_less s c h m in omega (arith, one, none_))
moved_up (d ∷ ds) s c h m goes none_ =
    let w = and_parts (may_go s d) (can_go (go s d) ds) goes in ⊎_elim
    (λ (same : d ≡ c). record {
      es = ds;
      swaps = subst (λ i. Swaps s (i ∷ ds) (d ∷ ds)) same (as_is s (d ∷ ds));
      goes = subst (λ i. can_go (go s i) ds ≡ true) same w.1;
      ends = subst (λ i. left (fold go (go s i) ds) ≡ 0) same none_;
    })
    (λ (other : d ≢ c).
    let r = moved_up ds (go s d) c (go_keeps s d h w.0) (go_stays s d c h w.0 m other) w.1 none_ in
    let turn = go_swaps s d c h w.0 m other in
    let apart = other_way d c other in
    record {
      es = d ∷ r.es;
      swaps = both s (c ∷ d ∷ r.es) (d ∷ c ∷ r.es) (d ∷ ds) (turned s c d r.es m w.0 apart) (behind s d (c ∷ r.es) ds r.swaps);
      goes = and_from (may_go (go s c) d) (can_go (go (go s c) d) r.es) (go_stays s c d h m w.0 apart) (subst (λ t. can_go t r.es ≡ true) turn r.goes);
      ends = subst (λ t. left (fold go t r.es) ≡ 0) turn r.ends;
    })
    (cases_eq d c)

ways_swap : (cs ds : List ℕ) (s : Left) → Sound s.state → can_go s cs ≡ true → left (fold go s cs) ≡ 0 → can_go s ds ≡ true → left (fold go s ds) ≡ 0 → Swaps s cs ds
ways_swap [] [] s h goes none_ goes' none_' = as_is s []
ways_swap [] (d ∷ ds) s h goes none_ goes' none_' =
    absurd (let one = go_leaves_less s d h (and_parts (may_go s d) (can_go (go s d) ds) goes').0 in omega (arith, one, none_))
ways_swap (c ∷ cs) ds s h goes none_ goes' none_' =
    let w = and_parts (may_go s c) (can_go (go s c) cs) goes in
    let m = moved_up ds s c h w.0 goes' none_' in
    both s (c ∷ cs) (c ∷ m.es) ds (behind s c cs m.es (ways_swap cs m.es (go s c) (go_keeps s c h w.0) w.1 none_ m.goes m.ends)) m.swaps

-- what comes of a way comes of those that it is swapped to
record LeadsOn (s : Left) (cs ds : List ℕ) : Type 0 where
  goes : can_go s ds ≡ true
  end : fold go s ds ≡ fold go s cs

swapped_goes : (s : Left) (cs ds : List ℕ) → Sound s.state → Swaps s cs ds → can_go s cs ≡ true → LeadsOn s cs ds
swapped_goes _ _ _ h (as_is s cs) goes = record { goes = goes; end = refl }
swapped_goes _ _ _ h (turned s c d cs m n other) goes =
    let w = and_parts (may_go s c) (can_go (go s c) (d ∷ cs)) goes in
    let v = and_parts (may_go (go s c) d) (can_go (go (go s c) d) cs) w.1 in
    let turn = go_swaps s c d h m n other in
    record {
      goes = and_from (may_go s d) (can_go (go s d) (c ∷ cs)) n
          (and_from (may_go (go s d) c) (can_go (go (go s d) c) cs) (go_stays s d c h n m (other_way c d other)) (subst (λ t. can_go t cs ≡ true) turn v.1));
      end = ap (λ t. fold go t cs) (sym turn);
    }
swapped_goes _ _ _ h (behind s c cs ds r) goes =
    let w = and_parts (may_go s c) (can_go (go s c) cs) goes in
    let l = swapped_goes (go s c) cs ds (go_keeps s c h w.0) r w.1 in
    record { goes = and_from (may_go s c) (can_go (go s c) ds) w.0 l.goes; end = l.end }
swapped_goes _ _ _ h (both s cs ds es p q) goes =
    let l = swapped_goes s cs ds h p goes in
    let k = swapped_goes s ds es h q l.goes in
    record { goes = k.goes; end = k.end ∙ l.end }

-- ---- members

-- the next member of a chain stays so as another comes
unmoved_next : (s : Left) (c d : ℕ) → may_go s c ≡ true → c ≢ d → member_of (go s c) d ≡ member_of s d
unmoved_next s zero zero m other = absurd (other refl)
unmoved_next s zero (suc k) m other = ap (λ (x : Left). first_event (log_of x k)) (told_is s (tells_of s m))
unmoved_next s (suc n) zero m other = ap (λ (x : Left). first_of x.lines) (done_is s n (does_of s n m))
unmoved_next s (suc n) (suc k) m other =
    let d = does_of s n m in
    ap (λ (x : Left). first_event (log_of x k)) (done_is s n d) ∙ ap first_event (get_or-set_other s.logs n k d.rest [] (λ e. other (ap suc (sym e))))

members_both : (cs ds : List ℕ) (s : Left) → members_of s (cs ++ ds) ≡ members_of s cs ++ members_of (fold go s cs) ds
members_both [] ds s = refl
members_both (c ∷ cs) ds s = ap (cons_option (member_of s c)) (members_both cs ds (go s c)) ∙ put (member_of s c)
  where
    put : (o : Option Member) → cons_option o (members_of (go s c) cs ++ members_of (fold go (go s c) cs) ds) ≡ cons_option o (members_of (go s c) cs) ++ members_of (fold go (go s c) cs) ds
    put None = refl
    put (Some x) = refl

fold_both : (cs ds : List ℕ) (s : Left) → fold go s (cs ++ ds) ≡ fold go (fold go s cs) ds
fold_both [] ds s = refl
fold_both (c ∷ cs) ds s = fold_both cs ds (go s c)

can_both : (cs ds : List ℕ) (s : Left) → can_go s cs ≡ true → can_go (fold go s cs) ds ≡ true → can_go s (cs ++ ds) ≡ true
can_both [] ds s h k = k
can_both (c ∷ cs) ds s h k =
    let w = and_parts (may_go s c) (can_go (go s c) cs) h in and_from (may_go s c) (can_go (go s c) (cs ++ ds)) w.0 (can_both cs ds (go s c) w.1 k)

module _ (history : List HistoryLine) (logs : List (List Event)) (telling : IsTold history) where
  abbrev start : Left
  start = all_left history logs

  abbrev Exchanged : List Member → List Member → Type 0
  Exchanged m n = AreExchanged history logs m n

  merge_of : (cs : List ℕ) → can_go start cs ≡ true → left (fold go start cs) ≡ 0 → IsMergeOf history logs (members_of start cs)
  merge_of cs goes ends = record { merge = ways_are_merges history logs cs goes ends telling; logs_are = logs_are_done history logs cs goes ends }

  -- two that come side by side, each of which may be none
  put_both : (front back : List Member) (x y : Option Member) → IsMergeOf history logs (front ++ cons_option x (cons_option y back)) → IsMergeOf history logs (front ++ cons_option y (cons_option x back))
      → Exchanged (front ++ cons_option x (cons_option y back)) (front ++ cons_option y (cons_option x back))
  put_both front back None y m n = unexchanged (front ++ cons_option y back)
  put_both front back (Some x) None m n = unexchanged (front ++ x ∷ back)
  put_both front back (Some x) (Some y) m n = exchanged front back x y m n

  -- behind a way so far
  module _ (ps : List ℕ) (so_far : can_go start ps ≡ true) where
    abbrev here : Left
    here = fold go start ps

    whole : (cs : List ℕ) → can_go here cs ≡ true → left (fold go here cs) ≡ 0 → IsMergeOf history logs (members_of start ps ++ members_of here cs)
    whole cs goes ends =
        subst (IsMergeOf history logs) (members_both ps cs start)
        (merge_of (ps ++ cs) (can_both ps cs start so_far goes) (ap left (fold_both ps cs start) ∙ ends))

    turned_members : (c d : ℕ) (cs : List ℕ) → Sound here.state → may_go here c ≡ true → may_go here d ≡ true → c ≢ d → can_go here (c ∷ d ∷ cs) ≡ true → left (fold go here (c ∷ d ∷ cs)) ≡ 0
        → Exchanged (members_of start ps ++ members_of here (c ∷ d ∷ cs)) (members_of start ps ++ members_of here (d ∷ c ∷ cs))
    turned_members c d cs h m n other goes ends =
        let front = members_of start ps in
        let back = members_of (go (go here c) d) cs in
        let x = member_of here c in
        let y = member_of here d in
        let l = swapped_goes here (c ∷ d ∷ cs) (d ∷ c ∷ cs) h (turned here c d cs m n other) goes in
        let one : members_of here (c ∷ d ∷ cs) ≡ cons_option x (cons_option y back) = ap (λ o. cons_option x (cons_option o back)) (unmoved_next here c d m other) in
        let two : members_of here (d ∷ c ∷ cs) ≡ cons_option y (cons_option x back) =
        (λ i. cons_option y (cons_option (unmoved_next here d c n (other_way c d other) i) (members_of (go_swaps here d c h n m (other_way c d other) i) cs))) in
        subst (λ v. Exchanged v (front ++ members_of here (d ∷ c ∷ cs))) (ap (λ v. front ++ v) (sym one))
        (subst (λ v. Exchanged (front ++ cons_option x (cons_option y back)) v) (ap (λ v. front ++ v) (sym two))
        (put_both front back x y (subst (λ v. IsMergeOf history logs (front ++ v)) one (whole (c ∷ d ∷ cs) goes ends))
        (subst (λ v. IsMergeOf history logs (front ++ v)) two (whole (d ∷ c ∷ cs) l.goes (ap left l.end ∙ ends)))))

  exchanges : (s : Left) (cs ds : List ℕ) → Swaps s cs ds → (ps : List ℕ) → can_go start ps ≡ true → s ≡ fold go start ps → Sound s.state → can_go s cs ≡ true → left (fold go s cs) ≡ 0
      → Exchanged (members_of start ps ++ members_of s cs) (members_of start ps ++ members_of s ds)
  exchanges _ _ _ (as_is s cs) ps so_far is h goes ends = unexchanged (members_of start ps ++ members_of s cs)
  exchanges _ _ _ (turned s c d cs m n other) ps so_far is h goes ends =
      subst (λ t. Exchanged (members_of start ps ++ members_of t (c ∷ d ∷ cs)) (members_of start ps ++ members_of t (d ∷ c ∷ cs))) (sym is)
      (turned_members ps so_far c d cs (subst (λ (t : Left). Sound t.state) is h) (subst (λ t. may_go t c ≡ true) is m) (subst (λ t. may_go t d ≡ true) is n) other
      (subst (λ t. can_go t (c ∷ d ∷ cs) ≡ true) is goes) (subst (λ t. left (fold go t (c ∷ d ∷ cs)) ≡ 0) is ends))
  exchanges _ _ _ (behind s c cs ds r) ps so_far is h goes ends =
      let w = and_parts (may_go s c) (can_go (go s c) cs) goes in
      let qs = ps ++ c ∷ [] in
      let now : can_go start qs ≡ true = can_both ps (c ∷ []) start so_far (and_from (may_go (fold go start ps) c) true (subst (λ t. may_go t c ≡ true) is w.0) refl) in
      let at : go s c ≡ fold go start qs = ap (λ t. go t c) is ∙ sym (fold_both ps (c ∷ []) start) in
      let same : (es : List ℕ) → members_of start qs ++ members_of (go s c) es ≡ members_of start ps ++ members_of s (c ∷ es) = λ es.
      ap (λ v. v ++ members_of (go s c) es) (members_both ps (c ∷ []) start ∙ ap (λ t. members_of start ps ++ members_of t (c ∷ [])) (sym is))
      ∙ append_assoc (members_of start ps) (members_of s (c ∷ [])) (members_of (go s c) es) ∙ ap (λ v. members_of start ps ++ v) (one_on (member_of s c) (members_of (go s c) es)) in
      subst (λ v. Exchanged v (members_of start ps ++ members_of s (c ∷ ds))) (same cs)
      (subst (λ v. Exchanged (members_of start qs ++ members_of (go s c) cs) v) (same ds) (exchanges (go s c) cs ds r qs now at (go_keeps s c h w.0) w.1 ends))
    where
      one_on : (o : Option Member) (z : List Member) → cons_option o [] ++ z ≡ cons_option o z
      one_on None z = refl
      one_on (Some x) z = refl
  exchanges _ _ _ (both s cs ds es p q) ps so_far is h goes ends =
      let l = swapped_goes s cs ds h p goes in
      further (members_of start ps ++ members_of s cs) (members_of start ps ++ members_of s ds) (members_of start ps ++ members_of s es) (exchanges s cs ds p ps so_far is h goes ends)
      (exchanges s ds es q ps so_far is h l.goes (ap left l.end ∙ ends))

  pub merges_are_exchanged : (m n : List Member) → IsMergeOf history logs m → HasRootsApart m → IsMergeOf history logs n → HasRootsApart n → Exchanged m n
  merges_are_exchanged m n a apart b apart' =
      let one = leads_to_end m history (guided a.merge telling apart) a.merge.runs a.merge.lines_are logs (λ k. sym (a.logs_are k)) in
      let two = leads_to_end n history (guided b.merge telling apart') b.merge.runs b.merge.lines_are logs (λ k. sym (b.logs_are k)) in
      let sound : Sound start.state = record { formed = runs_are_well_formed [] tt; consistent = runs_are_consistent [] tt } in
      subst (λ v. Exchanged v n) one.members
      (subst (λ v. Exchanged (members_of start one.cs) v) two.members
      (exchanges start one.cs two.cs (ways_swap one.cs two.cs start sound one.goes one.ends two.goes two.ends) [] refl refl sound one.goes one.ends))
