-- Places of a list of members: where a node did an event of its log, and what its configuration is there.
use Rattle.std.proofs.Common.{◌≡◌, ◌∙◌, ℕ, ◌+◌, Bool, true, false, cond, List, [], ◌∷◌, ◌++◌, append_assoc, filter, length, take, refl, sym, ap, subst, ⊎_elim, arith, Contains}
use Rattle.std.specs.Prelude.{filter_map, All}
use Rattle.std.specs.List.{list_all, range_with_len}
use Rattle.std.proofs.lemmas.List.{append-nil, length-append}
use Rattle.std.proofs.lemmas.List.Elements.{filter-append}
use Rattle.std.proofs.Math.Seq.{take-append_seam}
use Rattle.base.proofs.ContainsLaws.{Contains-cons_cases, Contains-nil}
use Rattle.base.proofs.RangeLaws.{all_in_range}
use Rattle.quiesce_core.specs.Doers.{is_of_change}
use Rattle.quiesce_core.specs.Effect.{configuration_after, effect}
use Rattle.quiesce_core.specs.Runs.{done_by, done_from, is_doer, state_after}
use Rattle.quiesce_core.specs.State.{Configuration}
use Rattle.quiesce_core.specs.declared.event.Event.{Event}
use Rattle.quiesce_core.proofs.RunLaws.{changes_make_the_configuration, state_more}
use Rattle.change_spec.specs.Lawful.{IsOfItsKind}
use Rattle.change_spec.specs.Members.{Member, event_of, events, lines}
use Rattle.change_spec.proofs.MemberLaws.{changes_are_lines}

-- the place at which a node did an event, behind others
pub record DoneAt (n : ℕ) (xs es : List Event) (e : Event) : Type 0 where
  pub before : List Event
  pub after : List Event
  pub parts : es ≡ before ++ e ∷ after
  pub does : is_doer (state_after (xs ++ before)) n e ≡ true

one_later : (n : ℕ) (xs es : List Event) (e f : Event) → DoneAt n (xs ++ f ∷ []) es e → DoneAt n xs (f ∷ es) e
one_later n xs es e f w = record {
  before = f ∷ w.before;
  after = w.after;
  parts = ap (λ ys. f ∷ ys) w.parts;
  does = ap (λ ys. is_doer (state_after ys) n e) (sym (append_assoc xs (f ∷ []) w.before)) ∙ w.does;
}

done_there : (n : ℕ) (xs es : List Event) (e : Event) → Contains (done_from (state_after xs) n es) e → DoneAt n xs es e
done_there n xs [] e h = absurd (Contains-nil e h)
done_there n xs (f ∷ es) e h =
    by (is_doer (state_after xs) n f) refl (λ c. one_later n xs es e f (done_there n (xs ++ f ∷ []) es e (subst (λ s. Contains (done_from s n es) e) (sym (state_more xs f)) c))) h
  where
    by : (b : Bool) → is_doer (state_after xs) n f ≡ b → (Contains (done_from (effect (state_after xs) f) n es) e → DoneAt n xs (f ∷ es) e)
        → Contains (cond b (f ∷ done_from (effect (state_after xs) f) n es) (done_from (effect (state_after xs) f) n es)) e → DoneAt n xs (f ∷ es) e
    by true does later c = ⊎_elim
        (λ (same : e ≡ f). record {
          before = [];
          after = es;
          parts = ap (λ g. g ∷ es) (sym same);
          does = ap (λ ys. is_doer (state_after ys) n e) (append-nil xs) ∙ ap (is_doer (state_after xs) n) same ∙ does;
        })
        (λ (there : Contains (done_from (effect (state_after xs) f) n es) e). later there)
        (Contains-cons_cases f (done_from (effect (state_after xs) f) n es) e c)
    by false does later c = later c

-- an event of a log has its place among all events
pub done_at : (n : ℕ) (es : List Event) (log : List Event) (e : Event) → done_by n es ≡ log → Contains log e → DoneAt n [] es e
done_at n es log e is there = done_there n [] es e (subst (λ xs. Contains xs e) (sym is) there)

-- a test that the configuration passes after each of the lines passes at each place
pub passes_there : (test : Configuration → Bool) (changes : List Event) → list_all (λ j. test (configuration_after (take j changes))) (range_with_len 0 (length changes + 1)) ≡ true
    → (m : List Member) → All IsOfItsKind m → filter_map event_of (lines m) ≡ changes → (before after : List Event) → events m ≡ before ++ after → test (state_after before).config ≡ true
passes_there test changes h m kinds are before after parts =
    let mine = filter is_of_change before in
    let rest = filter is_of_change after in
    let whole : mine ++ rest ≡ changes = sym (filter-append is_of_change before after) ∙ ap (filter is_of_change) (sym parts) ∙ changes_are_lines m kinds ∙ are in
    let low : length mine + length rest ≡ length changes = sym (length-append mine rest) ∙ ap length whole in
    let taken : take (length mine) changes ≡ mine = ap (take (length mine)) (sym whole) ∙ take-append_seam mine rest in
    ap test (changes_make_the_configuration before) ∙ sym (ap (λ xs. test (configuration_after xs)) taken)
    ∙ all_in_range (λ j. test (configuration_after (take j changes))) 0 (length changes + 1) (length mine) h (omega arith) (omega (arith, low))
