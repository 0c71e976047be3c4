-- What the loads of a call tell.
use Rattle.std.proofs.Common.{◌≡◌, ◌∙◌, ℕ, ◌+◌, Bool, true, false, ◌||◌, cond, List, [], ◌∷◌, ◌++◌, Option, Some, None, refl, sym, ap, subst, arith}
use Rattle.std.specs.Prelude.{◌==◌, fold, is_none, is_some, not, option_map}
use Rattle.std.specs.Option.{option_map_or}
use Rattle.std.proofs.lemmas.Bool.{ne_eqb}
use Rattle.std.proofs.lemmas.List.Sums.{fold-append}
use Rattle.std.specs.Cmp.Derive.{both_true}
use Rattle.base.proofs.NumberLaws.{same_number}
use Rattle.config_graph.specs.declared.node.Target.{Target}
use Rattle.quiesce_word.specs.Phases.{is_answered, is_in_more}
use Rattle.quiesce_word.specs.Words.{is_spent, unpack}
use Rattle.quiesce_core.specs.declared.event.Event.{Event}
use Rattle.node_gate.specs.Loads.{Load, Loads, LoadsAt, begin_shows, call_shows, see_shows}
use Rattle.node_gate.specs.declared.answers.BeginAnswer.{BeginAnswer}
use Rattle.node_gate.specs.declared.answers.BeginAnswer.TheVariants.{Again, Begun, Closed, Spent, Unlinked}
use Rattle.node_gate.specs.Moves.{events_of_begin, events_of_call, with_seen}
use Rattle.node_gate.specs.declared.answers.CallAnswer.{CallAnswer}
use Rattle.node_gate.specs.declared.answers.CallAnswer.TheVariants.{Called, Missed}
use Rattle.node_gate.specs.declared.answers.SeeAnswer.{SeeAnswer}
use Rattle.node_gate.specs.declared.answers.SeeAnswer.TheVariants as see
use Rattle.txn_spec.specs.Steps.{seen_in}
use Rattle.txn_spec.specs.Views.{does, load_step, node_at, reads}
use Rattle.txn_spec.specs.declared.view.LoadKind.TheVariants as kinds
use Rattle.txn_spec.specs.declared.view.LoadStep.{LoadStep}
use Rattle.txn_spec.specs.declared.view.NodeView.{NodeView}
use Rattle.txn_gate.specs.Calls.{ByWord, ByWords, after, begin_loads, begin_reads, called_in, exchanged_in, leads_in, refused_in}
use Rattle.txn_gate.specs.Told.{loads_by, loads_next, loads_of, next_load, no_loads, with_found}

-- events load nothing
pub after_loads : (n : NodeView) (es : List Event) → (after n es).loads ≡ n.loads
after_loads n [] = refl
after_loads n (e ∷ es) = after_loads (does n e) es

-- ---- what loads of each kind tell

module _ (s : Loads) (p w : ℕ) (shows : Load → Bool) where
  pub own_tells : shows (next_load s w) ≡ true → LoadsAt p shows s (loads_by kinds.Own p w s)
  own_tells says = record {
    loaded = record {
      load = next_load s w;
      there = ap (λ b. cond b (Some (next_load s w)) (s.at p)) (same_number p);
      now = record { after = omega arith; until = omega arith; shown = says };
    };
    steps = omega arith;
    others = λ q apart. ap (λ b. cond b (Some (next_load s w)) (s.at q)) (ne_eqb q p apart);
    take = refl;
    hear = refl;
  }

  pub exchange_tells : (f : ℕ) → shows (with_found f (next_load s w)) ≡ true → LoadsAt p shows s (loads_by kinds.Exchange p f (loads_by kinds.Own p w s))
  exchange_tells f says = record {
    loaded = record {
      load = with_found f (next_load s w);
      there = ap (λ b. cond b (option_map (with_found f) (cond b (Some (next_load s w)) (s.at p))) (cond b (Some (next_load s w)) (s.at p))) (same_number p);
      now = record { after = omega arith; until = omega arith; shown = says };
    };
    steps = omega arith;
    others = λ q apart. ap (λ b. cond b (option_map (with_found f) (cond b (Some (next_load s w)) (s.at q))) (cond b (Some (next_load s w)) (s.at q))) (ne_eqb q p apart);
    take = refl;
    hear = refl;
  }

-- ---- what the words of each call show

found_there : (l f : ℕ) → ((l == f) || (f == f)) ≡ true
found_there l f = by (l == f)
  where
    by : (b : Bool) → (b || (f == f)) ≡ true
    by true = refl
    by false = same_number f

module _ (s : Loads) (n : NodeView) (p l f : ℕ) where
  abbrev told : Option BeginAnswer → Type 0
  told r = LoadsAt p (begin_shows (option_map_or (λ (a : BeginAnswer). a) r (exchanged_in l f))) s
      (fold loads_next s (load_step n kinds.Own p l ∷ cond (is_none r) (load_step n kinds.Exchange p f ∷ []) []))

  -- the exchange was tried
  tried : (unpack l).closed ≡ false → (t : Target) → (unpack l).target ≡ Some t → told None
  tried opened t leads = by (f == l) refl
    where
      other : (b : Bool) → begin_shows (cond b (Closed f) (Again l f)) (record (next_load s l) { found = Some f }) ≡ true
      other true = found_there l f
      other false = both_true (same_number l) (same_number f)

      began : begin_shows (Begun ((unpack l).serial + 1) (leads_in l)) (next_load s l) ≡ true
      began =
          both_true (ap (λ o. option_map_or (λ (u : Target). u.node == option_map_or (λ (x : Target). x.node) o 0) o false) leads ∙ same_number t.node)
          (both_true (same_number ((unpack l).serial + 1)) (both_true (ap not opened) refl))

      by : (b : Bool) → (f == l) ≡ b → LoadsAt p (begin_shows (cond b (Begun ((unpack l).serial + 1) (leads_in l)) (cond (unpack f).closed (Closed f) (Again l f)))) s
          (loads_by kinds.Exchange p f (loads_by kinds.Own p l s))
      by true is = exchange_tells s p l (begin_shows (Begun ((unpack l).serial + 1) (leads_in l))) f
          (subst (λ b. begin_shows (Begun ((unpack l).serial + 1) (leads_in l)) (record (next_load s l) { found = cond b None (Some f) }) ≡ true) (sym is) began)
      by false is = exchange_tells s p l (begin_shows (cond (unpack f).closed (Closed f) (Again l f))) f
          (subst (λ b. begin_shows (cond (unpack f).closed (Closed f) (Again l f)) (record (next_load s l) { found = cond b None (Some f) }) ≡ true) (sym is) (other (unpack f).closed))

  pub begin_told : told (refused_in l)
  begin_told = closed (unpack l).closed refl
    where
      spent : (b : Bool) → is_spent (unpack l) ≡ b → (unpack l).closed ≡ false → (t : Target) → (unpack l).target ≡ Some t → told (cond b (Some (Spent (unpack l).serial)) None)
      spent true is opened t leads = own_tells s p l (begin_shows (Spent (unpack l).serial)) (both_true (both_true (ap not opened) (ap is_some leads)) is)
      spent false is opened t leads = tried opened t leads

      linked : (o : Option Target) → (unpack l).target ≡ o → (unpack l).closed ≡ false
          → told (cond (is_none o) (Some (Unlinked l)) (cond (is_spent (unpack l)) (Some (Spent (unpack l).serial)) None))
      linked None leads opened = own_tells s p l (begin_shows (Unlinked l)) (same_number l)
      linked (Some t) leads opened = spent (is_spent (unpack l)) refl opened t leads

      closed : (b : Bool) → (unpack l).closed ≡ b
          → told (cond b (Some (Closed l)) (cond (is_none (unpack l).target) (Some (Unlinked l)) (cond (is_spent (unpack l)) (Some (Spent (unpack l).serial)) None)))
      closed true is = own_tells s p l (begin_shows (Closed l)) (ap (λ b. b || false) (same_number l))
      closed false is = linked (unpack l).target refl is

-- a call that isn't missed has a target
pub call_shown : (s : Loads) (w : ℕ) → call_shows (called_in w) (next_load s w) ≡ true
call_shown s w = by (unpack w).target refl
  where
    by : (o : Option Target) → (unpack w).target ≡ o → call_shows (cond (is_none o || is_spent (unpack w)) (Missed w) (Called ((unpack w).serial + 1) (leads_in w))) (next_load s w) ≡ true
    by None leads = same_number w
    by (Some t) leads = spent (is_spent (unpack w))
      where
        spent : (b : Bool) → call_shows (cond b (Missed w) (Called ((unpack w).serial + 1) (leads_in w))) (next_load s w) ≡ true
        spent true = same_number w
        spent false =
            both_true (ap (λ o. option_map_or (λ (u : Target). u.node == option_map_or (λ (x : Target). x.node) o 0) o false) leads ∙ same_number t.node) (same_number ((unpack w).serial + 1))

pub see_shown : (s : Loads) (w : ℕ) → see_shows (seen_in w) (next_load s w) ≡ true
see_shown s w = by (is_answered (unpack w).phase) refl
  where
    more_ : (b : Bool) → is_in_more (unpack w).phase ≡ b → see_shows (cond b (see.More (unpack w).value) (see.NotYet w)) (next_load s w) ≡ true
    more_ true is = both_true is (same_number (unpack w).value)
    more_ false is = same_number w

    by : (b : Bool) → is_answered (unpack w).phase ≡ b → see_shows (cond b (see.Answer (unpack w).value) (cond (is_in_more (unpack w).phase) (see.More (unpack w).value) (see.NotYet w))) (next_load s w) ≡ true
    by true is = both_true is (same_number (unpack w).value)
    by false is = more_ (is_in_more (unpack w).phase) refl

-- ---- what a call tells where its view has more loads

-- so the loads that a seat tells go on
grows : (ls ms ns : List LoadStep) → ns ≡ ls ++ ms → loads_of ns ≡ fold loads_next (loads_of ls) ms
grows ls ms ns is = ap loads_of is ∙ fold-append loads_next no_loads ls ms

module _ (p : ℕ) (old new : NodeView) where
  pub begin_loads_told : (v : ℕ) (a : BeginAnswer) → ByWords p v a old new → LoadsAt p (begin_shows a) (loads_of old.loads) (loads_of new.loads)
  begin_loads_told v a h =
      let more_ = ap (λ (n : NodeView). n.loads) h.node ∙ after_loads (begin_reads old p h.loaded h.found) (events_of_begin p v a) in
      subst (λ (x : BeginAnswer × Loads). LoadsAt p (begin_shows x.0) (loads_of old.loads) x.1)
      (λ i. (sym h.answered i, sym (grows old.loads (begin_loads old p h.loaded h.found) new.loads more_) i))
      (begin_told (loads_of old.loads) old p h.loaded h.found)

  pub call_loads_told : (v : ℕ) (a : CallAnswer) → ByWord kinds.Own p called_in (λ a n. after n (events_of_call p v a)) a old new
      → LoadsAt p (call_shows a) (loads_of old.loads) (loads_of new.loads)
  call_loads_told v a h =
      let more_ = ap (λ (n : NodeView). n.loads) h.node ∙ after_loads (reads old kinds.Own p h.word) (events_of_call p v a) in
      subst (λ (x : CallAnswer × Loads). LoadsAt p (call_shows x.0) (loads_of old.loads) x.1)
      (λ i. (sym h.answered i, sym (grows old.loads (load_step old kinds.Own p h.word ∷ []) new.loads more_) i))
      (own_tells (loads_of old.loads) p h.word (call_shows (called_in h.word)) (call_shown (loads_of old.loads) h.word))

  pub see_loads_told : (a : SeeAnswer) → ByWord kinds.Own p seen_in (λ a n. record n { known = with_seen (node_at n) p a n.known }) a old new
      → LoadsAt p (see_shows a) (loads_of old.loads) (loads_of new.loads)
  see_loads_told a h =
      subst (λ (x : SeeAnswer × Loads). LoadsAt p (see_shows x.0) (loads_of old.loads) x.1)
      (λ i. (sym h.answered i, sym (grows old.loads (load_step old kinds.Own p h.word ∷ []) new.loads (ap (λ (n : NodeView). n.loads) h.node)) i))
      (own_tells (loads_of old.loads) p h.word (see_shows (seen_in h.word)) (see_shown (loads_of old.loads) h.word))
