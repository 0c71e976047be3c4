-- What a change may do by its configuration it may do on a board, event after event.
use Rattle.std.proofs.Common.{◌≡◌, ℕ, Bool, true, false, cond, not, ◌||◌, List, [], ◌∷◌, ◌++◌, append_assoc, map, refl, sym, ap, ◌∙◌, subst, ⊎_elim}
use Rattle.std.specs.List.{list_all, list_any}
use Rattle.std.proofs.Math.Path.{fun_ext}
use Rattle.std.proofs.Math.Bool.{or-false}
use Rattle.std.proofs.lemmas.Bool.{and_parts, both_ways, cases_Bool}
use Rattle.std.proofs.lemmas.List.{append-nil}
use Rattle.std.proofs.lemmas.List.Elements.{filter_map-append}
use Rattle.std.proofs.lemmas.List.Folds.{list_any-append}
use Rattle.std.proofs.lemmas.List.Sums.{fold_push}
use Rattle.quiesce_laws.specs.Steps.{IsNoted, MayStep, MayStepAll, change_all}
use Rattle.quiesce_core.specs.declared.event.Event.{Event}
use Rattle.quiesce_core.specs.declared.event.Event.TheVariants.{Begin, Call, Take, Give, End, More, Ask, Hear, Miss, Close, Reopen, Make, Link, Unlink, Remove}
use Rattle.quiesce_core.specs.Effect.{change_next}
use Rattle.quiesce_core.specs.State.{Configuration, empty, owner}
use Rattle.quiesce_laws.specs.Events.{reopens}
use Rattle.txn_records.specs.Entries.{config_of, event_in, events_in}
use Rattle.txn_records.specs.declared.entry.Entry.{Entry}
use Rattle.txn_records.specs.declared.entry.Entry.TheVariants.{Did}
use Rattle.txn_records.specs.Notes.{found_next, is_found_drained, is_never_reopened, is_noted}
use Rattle.txn_records.specs.Records.{May}
use Rattle.txn_records.proofs.EntryLaws.{config_did}
use Rattle.change_board.specs.Sights.{Sight, sight_entry}
use Rattle.change_board.specs.Steps.{Deed, MayDoAll, deed_entries, gates_come_last, is_turning}

-- what neither closes nor reopens a gate leaves the notes
found_stays : (p : ℕ) (b : Bool) (e : Event) → is_turning e ≡ false → found_next p b (Did e) ≡ b
found_stays p b (Close q) h = absurd (both_ways true h refl)
found_stays p b (Reopen q) h = absurd (both_ways true h refl)
found_stays p b (Begin q k v) h = refl
found_stays p b (Call q k v) h = refl
found_stays p b (Miss q) h = refl
found_stays p b (Take q k v) h = refl
found_stays p b (Give q k v) h = refl
found_stays p b (More q k v) h = refl
found_stays p b (Ask q k v) h = refl
found_stays p b (Hear q k v) h = refl
found_stays p b (End q k v) h = refl
found_stays p b (Make n made from) h = refl
found_stays p b (Link q n x) h = refl
found_stays p b (Unlink q) h = refl
found_stays p b (Remove n) h = refl

none_reopens : (p : ℕ) (e : Event) → is_turning e ≡ false → reopens p e ≡ false
none_reopens p (Close q) h = refl
none_reopens p (Reopen q) h = absurd (both_ways true h refl)
none_reopens p (Begin q k v) h = refl
none_reopens p (Call q k v) h = refl
none_reopens p (Miss q) h = refl
none_reopens p (Take q k v) h = refl
none_reopens p (Give q k v) h = refl
none_reopens p (More q k v) h = refl
none_reopens p (Ask q k v) h = refl
none_reopens p (Hear q k v) h = refl
none_reopens p (End q k v) h = refl
none_reopens p (Make n made from) h = refl
none_reopens p (Link q n x) h = refl
none_reopens p (Unlink q) h = refl
none_reopens p (Remove n) h = refl

never_stays : (r : List Entry) (e : Event) (p : ℕ) → is_turning e ≡ false → is_never_reopened (r ++ Did e ∷ []) p ≡ is_never_reopened r p
never_stays r e p h =
    ap (λ es. not (list_any (reopens p) es)) (filter_map-append event_in r (Did e ∷ []))
    ∙ ap not (list_any-append (reopens p) (events_in r) (e ∷ []))
    ∙ ap (λ b. not (list_any (reopens p) (events_in r) || (b || false))) (none_reopens p e h)
    ∙ ap not (or-false (list_any (reopens p) (events_in r)))

pub notes_stay : (r : List Entry) (e : Event) (p : ℕ) → is_turning e ≡ false → is_noted (r ++ Did e ∷ []) p ≡ is_noted r p
notes_stay r e p h =
    ap (λ b. b || is_found_drained (r ++ Did e ∷ []) p) (never_stays r e p h)
    ∙ ap (λ b. is_never_reopened r p || b) (fold_push (found_next p) false r (Did e) ∙ found_stays p (is_found_drained r p) e h)

-- where more ports are noted a change may do as much
noted_more : (a b : ℕ → Bool) (c : Configuration) (n : ℕ) → ((p : ℕ) → a p ≡ true → b p ≡ true) → IsNoted a c n → IsNoted b c n
noted_more a b c n f h = record { live = h.live; own = λ q o. f q (h.own q o); reaching = λ q w. f q (h.reaching q w) }

pub may_more : (a b : ℕ → Bool) (c : Configuration) (e : Event) → ((p : ℕ) → a p ≡ true → b p ≡ true) → MayStep a c e → MayStep b c e
may_more a b c (Close p) f h = h
may_more a b c (Reopen p) f h = h
may_more a b c (Make n node from) f h = h
may_more a b c (Link p n x) f h = record { live = h.live; unlinked = h.unlinked; provision = h.provision; settled = noted_more a b c (owner c p) f h.settled; no_cycle = h.no_cycle }
may_more a b c (Unlink p) f h = record { live = h.live; linked = h.linked; settled = noted_more a b c (owner c p) f h.settled }
may_more a b c (Remove n) f h = record { settled = noted_more a b c n f h.settled; apart = h.apart }
may_more a b c (Begin p k v) f h = absurd h
may_more a b c (Call p k v) f h = absurd h
may_more a b c (Take p k v) f h = absurd h
may_more a b c (Give p k v) f h = absurd h
may_more a b c (End p k v) f h = absurd h
may_more a b c (More p k v) f h = absurd h
may_more a b c (Ask p k v) f h = absurd h
may_more a b c (Hear p k v) f h = absurd h
may_more a b c (Miss p) f h = absurd h

-- a gate may be turned whatever is noted
may_turn : (a b : ℕ → Bool) (c : Configuration) (e : Event) → is_turning e ≡ true → MayStep a c e → MayStep b c e
may_turn a b c (Close p) t h = h
may_turn a b c (Reopen p) t h = h
may_turn a b c (Make n node from) t h = absurd (both_ways false refl t)
may_turn a b c (Link p n x) t h = absurd (both_ways false refl t)
may_turn a b c (Unlink p) t h = absurd (both_ways false refl t)
may_turn a b c (Remove n) t h = absurd (both_ways false refl t)
may_turn a b c (Begin p k v) t h = absurd h
may_turn a b c (Call p k v) t h = absurd h
may_turn a b c (Take p k v) t h = absurd h
may_turn a b c (Give p k v) t h = absurd h
may_turn a b c (End p k v) t h = absurd h
may_turn a b c (More p k v) t h = absurd h
may_turn a b c (Ask p k v) t h = absurd h
may_turn a b c (Hear p k v) t h = absurd h
may_turn a b c (Miss p) t h = absurd h

module _ (noted : ℕ → Bool) where
  next : (r : List Entry) (e : Event) (es : List Event) → MayStepAll noted (change_next (config_of r) e) es → MayStepAll noted (config_of (r ++ Did e ∷ [])) es
  next r e es h = subst (λ c. MayStepAll noted c es) (sym (config_did r e)) h

  all_turn : (r : List Entry) (es : List Event) → list_all is_turning es ≡ true → MayStepAll noted (config_of r) es → MayDoAll r es
  all_turn r [] t h = tt
  all_turn r (e ∷ es) t h =
      let parts = and_parts (is_turning e) (list_all is_turning es) t in
      (may_turn noted (is_noted r) (config_of r) e parts.0 h.0, all_turn (r ++ Did e ∷ []) es parts.1 (next r e es h.1))

  pub may_do_all : (r : List Entry) (es : List Event) → gates_come_last es ≡ true → ((p : ℕ) → noted p ≡ true → is_noted r p ≡ true) → MayStepAll noted (config_of r) es → MayDoAll r es
  may_do_all r [] t f h = tt
  may_do_all r (e ∷ es) t f h = (
    may_more noted (is_noted r) (config_of r) e f h.0,
    ⊎_elim
        (λ (turn : is_turning e ≡ true). all_turn (r ++ Did e ∷ []) es (sym (ap (λ b. cond b (list_all is_turning es) (gates_come_last es)) turn) ∙ t) (next r e es h.1))
        (λ (other : is_turning e ≡ false). may_do_all (r ++ Did e ∷ []) es (sym (ap (λ b. cond b (list_all is_turning es) (gates_come_last es)) other) ∙ t)
        (λ p n. notes_stay r e p other ∙ f p n) (next r e es h.1))
        (cases_Bool (is_turning e)),
  )

-- Records that have the same events, and in which the same ports are noted.
pub record Alike (r q : List Entry) : Type 0 where
  pub events : events_in r ≡ events_in q
  pub found : (p : ℕ) → is_found_drained r p ≡ is_found_drained q p

pub alike_more : (r q : List Entry) (x : Entry) → Alike r q → Alike (r ++ x ∷ []) (q ++ x ∷ [])
alike_more r q x h = record {
  events = filter_map-append event_in r (x ∷ []) ∙ ap (λ es. es ++ events_in (x ∷ [])) h.events ∙ sym (filter_map-append event_in q (x ∷ []));
  found = λ p. fold_push (found_next p) false r x ∙ ap (λ b. found_next p b x) (h.found p) ∙ sym (fold_push (found_next p) false q x);
}

-- sights tell nothing of these
alike_sight : (r q : List Entry) (s : Sight) → Alike r q → Alike (r ++ sight_entry s ∷ []) q
alike_sight r q s h = record {
  events = filter_map-append event_in r (sight_entry s ∷ []) ∙ append-nil (events_in r) ∙ h.events;
  found = λ p. fold_push (found_next p) false r (sight_entry s) ∙ h.found p;
}

pub alike_sights : (r q : List Entry) (ss : List Sight) → Alike r q → Alike (r ++ map sight_entry ss) q
alike_sights r q [] h = subst (λ zs. Alike zs q) (sym (append-nil r)) h
alike_sights r q (s ∷ ss) h =
    subst (λ zs. Alike zs q) (append_assoc r (sight_entry s ∷ []) (map sight_entry ss))
    (alike_sights (r ++ sight_entry s ∷ []) q ss (alike_sight r q s h))

pub alike_deed : (r : List Entry) (d : Deed) → Alike (r ++ deed_entries d) (r ++ Did d.event ∷ [])
alike_deed r d =
    subst (λ zs. Alike zs (r ++ Did d.event ∷ [])) (append_assoc r (Did d.event ∷ []) (map sight_entry d.sights))
    (alike_sights (r ++ Did d.event ∷ []) (r ++ Did d.event ∷ []) d.sights (record { events = refl; found = λ p. refl }))

notes_alike : (r q : List Entry) → Alike r q → is_noted r ≡ is_noted q
notes_alike r q h = fun_ext (λ p.
    ap (λ es. not (list_any (reopens p) es) || is_found_drained r p) h.events ∙ ap (λ b. is_never_reopened q p || b) (h.found p))

pub may_alike : (r q : List Entry) (e : Event) → Alike r q → May q e → May r e
may_alike r q e h may_ =
    subst (λ f. MayStep f (config_of r) e) (sym (notes_alike r q h))
    (subst (λ c. MayStep (is_noted q) c e) (sym (ap (change_all empty.config) h.events)) may_)

pub may_all_alike : (r q : List Entry) (es : List Event) → Alike r q → MayDoAll q es → MayDoAll r es
may_all_alike r q [] h may_ = tt
may_all_alike r q (e ∷ es) h may_ =
    (may_alike r q e h may_.0, may_all_alike (r ++ Did e ∷ []) (q ++ Did e ∷ []) es (alike_more r q (Did e) h) may_.1)
