-- The words of a line, and the lines of a log that are events.
use Rattle.std.specs.Prelude.{IfSome}
use Rattle.std.proofs.Common.{◌≡◌, ◌==◌, ℕ, true, List, [], ◌∷◌, ◌++◌, Option, Some, None, option_map, codes, bytes_eq, decimal, refl, sym, ap, subst, ◌∙◌, arith}
use Rattle.std.specs.List.{join_with_byte}
use Rattle.std.proofs.lemmas.List.{append-nil}
use Rattle.std.proofs.lemmas.List.Splits.{join_with_byte-slice_split, slice_split_none, slice_split_at}
use Rattle.base.proofs.BytesLaws.{same_bytes}
use Rattle.base.proofs.FindLaws.{find_passes}
use Rattle.quiesce_core.specs.declared.event.Event.{Event}
use Rattle.quiesce_core.specs.declared.event.Event.TheVariants as events
use Rattle.change_script.specs.EventLines.{event_verb_bytes, event_verb_named, event_verbs, owner_bytes, owner_event, target_bytes, target_event}
use Rattle.report_writing.specs.Writing.{spaced, with_one, with_three, written}
use Rattle.change_script.specs.Written.{AreNumbers, IsNumber}
use Rattle.change_script.specs.declared.event_lines.Triple.{Triple}
use Rattle.change_script.specs.declared.verbs.EventVerb.{EventVerb}
use Rattle.change_script.specs.declared.verbs.EventVerb.TheVariants as verbs
use Rattle.change_script.specs.declared.verbs.OwnerStep.{OwnerStep}
use Rattle.change_script.specs.declared.verbs.OwnerStep.TheVariants as owner
use Rattle.change_script.specs.declared.verbs.Single.TheVariants as singles
use Rattle.change_script.specs.declared.verbs.TargetStep.{TargetStep}
use Rattle.change_script.specs.declared.verbs.TargetStep.TheVariants as target
use Rattle.report_lines.proofs.TextLaws.{lacks_at}
use Rattle.report_lines.specs.Parts.{words}
use Rattle.report_lines.specs.Numbers.{max32, one_in, three_in}
use Rattle.report_lines.specs.Readings.{event_by, event_in, event_named, step_numbers, triple_of}
use Rattle.report_lines.specs.ReportLines.{IsNodeEvent, lacks}
use Rattle.report_lines.proofs.NumberLemmas.{mapped, one_is, one_of, three_are, three_of, Unspaced, decimal_unspaced}

joined : (first : List ℕ) (rest : List (List ℕ)) → join_with_byte 32 (first ∷ rest) ≡ first ++ spaced rest
joined first [] = sym (append-nil first)
joined first (second ∷ rest) = ap (λ text. first ++ (32 ∷ text)) (joined second rest)

-- A line is its words, each after a space.
pub words_are : (line first : List ℕ) (rest : List (List ℕ)) → words line ≡ first ∷ rest → line ≡ first ++ spaced rest
words_are line first rest is = sym (join_with_byte-slice_split 32 line) ∙ ap (join_with_byte 32) is ∙ joined first rest

abbrev pub AllUnspaced : List (List ℕ) → Type 0
AllUnspaced [] = Unit {0}
AllUnspaced (word ∷ more) = Unspaced word × AllUnspaced more

pub words_of : (first : List ℕ) (rest : List (List ℕ)) → Unspaced first → AllUnspaced rest → words (first ++ spaced rest) ≡ first ∷ rest
words_of first [] one all = ap words (append-nil first) ∙ slice_split_none (λ byte. byte == 32) first one
words_of first (second ∷ rest) one all =
    slice_split_at (λ byte. byte == 32) first 32 (second ++ spaced rest) one refl ∙ ap (λ more. first ∷ more) (words_of second rest all.0 all.1)

-- what a line has to be to say something
record Says (line : List ℕ) (event : Event) : Type 0 where
  pub text : line ≡ written event
  pub is_event : IsNodeEvent event

owner_written : (step : OwnerStep) (t : Triple) → with_three (owner_bytes step) t.first t.second t.third ≡ written (owner_event step t)
owner_written owner.Begin t = refl
owner_written owner.Call t = refl
owner_written owner.Ask t = refl
owner_written owner.End t = refl

target_written : (step : TargetStep) (t : Triple) → with_three (target_bytes step) t.first t.second t.third ≡ written (target_event step t)
target_written target.Take t = refl
target_written target.More t = refl
target_written target.Hear t = refl
target_written target.Give t = refl

owner_is_event : (step : OwnerStep) (t : Triple) → AreNumbers t.first t.second t.third → IsNodeEvent (owner_event step t)
owner_is_event owner.Begin t are = are
owner_is_event owner.Call t are = are
owner_is_event owner.Ask t are = are
owner_is_event owner.End t are = are

target_is_event : (step : TargetStep) (t : Triple) → AreNumbers t.first t.second t.third → IsNodeEvent (target_event step t)
target_is_event target.Take t are = are
target_is_event target.More t are = are
target_is_event target.Hear t are = are
target_is_event target.Give t are = are

-- a step of either side, by its first word and its event
module _ (bytes : List ℕ) (event_of : Triple → Event) where
  says_three :
      ((t : Triple) → with_three bytes t.first t.second t.third ≡ written (event_of t)) → ((t : Triple) → AreNumbers t.first t.second t.third → IsNodeEvent (event_of t))
      → (line : List ℕ) (rest : List (List ℕ)) (event : Event) → line ≡ bytes ++ spaced rest → option_map event_of (step_numbers rest) ≡ Some event → Says line event
  says_three is_written is_event line rest event at e =
      let made = mapped event_of (step_numbers rest) event e in
      let m = mapped triple_of (three_in rest) made.value made.found in
      let n = three_are rest m.value m.found in
      let gives : event_of (triple_of m.value) ≡ event = ap event_of m.gives ∙ made.gives in
      record {
        text = at ∙ ap (λ ws. bytes ++ spaced ws) n.texts ∙ is_written (triple_of m.value) ∙ ap written gives;
        is_event = subst IsNodeEvent gives (is_event (triple_of m.value) (omega (arith, n.first), omega (arith, n.second), omega (arith, n.third)));
      }

  three_said :
      (p k v : ℕ) → lacks 32 bytes ≡ true → AreNumbers p k v
      → ((rest : List (List ℕ)) → event_in (bytes ∷ rest) ≡ option_map event_of (step_numbers rest))
      → event_in (words (with_three bytes p k v)) ≡ Some (event_of (triple_of (p, k, v)))
  three_said p k v lack are known =
      let rest : List (List ℕ) = decimal p ∷ decimal k ∷ decimal v ∷ [] in
      let all : AllUnspaced rest = (decimal_unspaced p (omega (arith, are.0)), (decimal_unspaced k (omega (arith, are.1)), (decimal_unspaced v (omega (arith, are.2)), tt))) in
      ap event_in (words_of bytes rest (lacks_at 32 bytes lack) all) ∙ known rest
      ∙ ap (λ o. option_map event_of (option_map triple_of o)) (three_of p k v (omega (arith, are.0)) (omega (arith, are.1)) (omega (arith, are.2)))

says_by : (verb : EventVerb) (line : List ℕ) (rest : List (List ℕ)) (event : Event) → line ≡ event_verb_bytes verb ++ spaced rest → event_by verb rest ≡ Some event → Says line event
says_by (verbs.Owner step) line rest event at e = says_three (owner_bytes step) (owner_event step) (owner_written step) (owner_is_event step) line rest event at e
says_by (verbs.Target step) line rest event at e = says_three (target_bytes step) (target_event step) (target_written step) (target_is_event step) line rest event at e
says_by (verbs.Single singles.Miss) line rest event at e =
    let m = mapped events.Miss (one_in max32 rest) event e in
    let n = one_is max32 rest m.value (omega arith) m.found in
    record {
      text = at ∙ ap (λ ws. codes "miss" ++ spaced ws) n.texts ∙ ap written m.gives;
      is_event = subst IsNodeEvent m.gives (omega (arith, n.low));
    }
says_by (verbs.Single singles.Close) line rest event at e = let never : ⊥ = cc in absurd never
says_by (verbs.Single singles.Reopen) line rest event at e = let never : ⊥ = cc in absurd never
says_by (verbs.Single singles.Unlink) line rest event at e = let never : ⊥ = cc in absurd never
says_by (verbs.Single singles.Remove) line rest event at e = let never : ⊥ = cc in absurd never
says_by verbs.Start line rest event at e = let never : ⊥ = cc in absurd never
says_by verbs.Link line rest event at e = let never : ⊥ = cc in absurd never
says_by verbs.Make line rest event at e = let never : ⊥ = cc in absurd never

says_words : (line : List ℕ) (parts : List (List ℕ)) (event : Event) → words line ≡ parts → event_in parts ≡ Some event → Says line event
says_words line [] event is e = let never : ⊥ = cc in absurd never
says_words line (first ∷ rest) event is e = by (event_verb_named first) refl e
  where
    by : (found : Option EventVerb) → event_verb_named first ≡ found → event_named found rest ≡ Some event → Says line event
    by None named e = let never : ⊥ = cc in absurd never
    by (Some verb) named e =
        let name : event_verb_bytes verb ≡ first = same_bytes (event_verb_bytes verb) first (find_passes (λ v. bytes_eq (event_verb_bytes v) first) event_verbs verb named) in
        says_by verb line rest event (words_are line first rest is ∙ ap (λ w. w ++ spaced rest) (sym name)) e

-- A line says an event only as this is written.
pub event_says : (line : List ℕ) (event : Event) → event_in (words line) ≡ Some event → (line ≡ written event) × IsNodeEvent event
event_says line event e = let says = says_words line (words line) event refl e in (says.text, says.is_event)

owner_said : (step : OwnerStep) (p k v : ℕ) → AreNumbers p k v → event_in (words (with_three (owner_bytes step) p k v)) ≡ Some (owner_event step (triple_of (p, k, v)))
owner_said owner.Begin p k v are = three_said (codes "begin") (owner_event owner.Begin) p k v refl are (λ rest. refl)
owner_said owner.Call p k v are = three_said (codes "call") (owner_event owner.Call) p k v refl are (λ rest. refl)
owner_said owner.Ask p k v are = three_said (codes "ask") (owner_event owner.Ask) p k v refl are (λ rest. refl)
owner_said owner.End p k v are = three_said (codes "end") (owner_event owner.End) p k v refl are (λ rest. refl)

target_said : (step : TargetStep) (p k v : ℕ) → AreNumbers p k v → event_in (words (with_three (target_bytes step) p k v)) ≡ Some (target_event step (triple_of (p, k, v)))
target_said target.Take p k v are = three_said (codes "take") (target_event target.Take) p k v refl are (λ rest. refl)
target_said target.More p k v are = three_said (codes "more") (target_event target.More) p k v refl are (λ rest. refl)
target_said target.Hear p k v are = three_said (codes "hear") (target_event target.Hear) p k v refl are (λ rest. refl)
target_said target.Give p k v are = three_said (codes "give") (target_event target.Give) p k v refl are (λ rest. refl)

miss_said : (p : ℕ) → IsNumber p → event_in (words (with_one (codes "miss") p)) ≡ Some (events.Miss p)
miss_said p is =
    ap event_in (words_of (codes "miss") (decimal p ∷ []) (lacks_at 32 (codes "miss") refl) (decimal_unspaced p (omega (arith, is)), tt))
    ∙ ap (option_map events.Miss) (one_of max32 p (omega arith) (omega (arith, is)))

-- What is written of an event says it.
pub event_of : (event : Event) → IsNodeEvent event → event_in (words (written event)) ≡ Some event
event_of (events.Begin p k v) are = owner_said owner.Begin p k v are
event_of (events.Call p k v) are = owner_said owner.Call p k v are
event_of (events.Take p k v) are = target_said target.Take p k v are
event_of (events.More p k v) are = target_said target.More p k v are
event_of (events.Ask p k v) are = owner_said owner.Ask p k v are
event_of (events.Hear p k v) are = target_said target.Hear p k v are
event_of (events.Give p k v) are = target_said target.Give p k v are
event_of (events.End p k v) are = owner_said owner.End p k v are
event_of (events.Miss p) is = miss_said p is
event_of (events.Close p) never = absurd never
event_of (events.Reopen p) never = absurd never
event_of (events.Make slot node from) never = absurd never
event_of (events.Link p n x) never = absurd never
event_of (events.Unlink p) never = absurd never
event_of (events.Remove n) never = absurd never

-- what is found, where it is what the words of the line say
pub found_event : (line : List ℕ) (found : Option Event) → found ≡ event_in (words line) → IfSome found (λ event. (line ≡ written event) × IsNodeEvent event)
found_event line None is = tt
found_event line (Some event) is = event_says line event (sym is)

pub whenever_event : (line : List ℕ) (found : Option Event) → found ≡ event_in (words line) → (event : Event) → IsNodeEvent event → line ≡ written event → found ≡ Some event
whenever_event line found is event can same = is ∙ ap (λ l. event_in (words l)) same ∙ event_of event can
