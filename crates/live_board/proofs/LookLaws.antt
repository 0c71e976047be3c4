-- Looks at ports, one more at a time.
use Rattle.std.proofs.Common.{◌≡◌, ◌∙◌, ℕ, ◌+◌, ◌-◌, Bool, true, false, cond, ◌&&◌, List, [], ◌∷◌, ◌++◌, append_assoc, map, sym, ap}
use Rattle.std.specs.List.{list_all}
use Rattle.std.proofs.Math.Bool.{and-true}
use Rattle.std.proofs.lemmas.List.{map-append}
use Rattle.std.proofs.lemmas.List.Folds.{list_all-append}
use Rattle.std.proofs.lemmas.List.Sums.{sum_by_push}
use Rattle.base.proofs.RisingLaws.{places_more}
use Rattle.change_board.specs.Scans.{Found, is_idle_if_live, look_entry}
use Rattle.quiesce_core.specs.State.{Configuration}
use Rattle.quiesce_word.specs.Phases.{is_idle}
use Rattle.quiesce_word.specs.Words as words
use Rattle.quiesce_word.specs.declared.word.Word.{Word}
use Rattle.txn_records.specs.Looks.{ended_in_word, is_idle_word, look_of, serial_of}
use Rattle.txn_records.specs.declared.entry.Entry.{Entry}
use Rattle.txn_records.specs.declared.entry.Entry.TheVariants.{Looked}
use Rattle.txn_records.specs.declared.looking.Look.TheVariants.{Drained, Busy}
use Rattle.live_board.specs.Looking.{SawPorts}

-- what a look's answer shows of the word that it loaded
pub drained_shows : (word serial : ℕ) (idle : Bool) → Drained serial idle ≡ look_of word → (idle ≡ is_idle_word word) × (serial ≡ serial_of word)
drained_shows word serial idle is = by (words.is_drained (words.unpack word)) is
  where
    idle_of : (s t : ℕ) (i j : Bool) → Drained s i ≡ Drained t j → i ≡ j
    idle_of s t i j e = cc

    serial_is : (s t : ℕ) (i j : Bool) → Drained s i ≡ Drained t j → s ≡ t
    serial_is s t i j e = cc

    apart : (s w : ℕ) (i : Bool) → Drained s i ≡ Busy w → ⊥
    apart s w i e = cc

    by : (t : Bool) → Drained serial idle ≡ cond t (Drained (words.unpack word).serial (is_idle (words.unpack word).phase)) (Busy word) → (idle ≡ is_idle_word word) × (serial ≡ serial_of word)
    by true e = (idle_of serial (words.unpack word).serial idle (is_idle (words.unpack word).phase) e, serial_is serial (words.unpack word).serial idle (is_idle (words.unpack word).phase) e)
    by false e = absurd (apart serial word idle e)

pub busy_shows : (word w : ℕ) → Busy w ≡ look_of word → w ≡ word
busy_shows word w is = by (words.is_drained (words.unpack word)) is
  where
    same : (v : ℕ) → Busy w ≡ Busy v → w ≡ v
    same v e = cc

    apart : (s : ℕ) (i : Bool) → Busy w ≡ Drained s i → ⊥
    apart s i e = cc

    by : (t : Bool) → Busy w ≡ cond t (Drained (words.unpack word).serial (is_idle (words.unpack word).phase)) (Busy word) → w ≡ word
    by true e = absurd (apart (words.unpack word).serial (is_idle (words.unpack word).phase) e)
    by false e = same word e

-- from what is told of a word to what its number shows
pub shown_of : (word serial : ℕ) (idle idle' : Bool) (ended : ℕ) → idle' ≡ idle → ended ≡ cond idle serial (serial - 1) → (idle ≡ is_idle_word word) × (serial ≡ serial_of word)
    → (idle' ≡ is_idle_word word) × (ended ≡ ended_in_word word)
shown_of word serial idle idle' ended same is h = (same ∙ h.0, is ∙ (λ j. cond (h.0 j) (h.1 j) (h.1 j - 1)))

pub fields_show : (word w : ℕ) (fields : Word) → w ≡ word → fields ≡ words.unpack w → (b : Bool) → b ≡ is_idle fields.phase → (b ≡ is_idle_word word) × (fields.serial ≡ serial_of word)
fields_show word w fields same is b idle =
    let at : fields ≡ words.unpack word = is ∙ ap words.unpack same in (idle ∙ ap (λ (x : Word). is_idle x.phase) at, ap (λ (x : Word). x.serial) at)

pub saw_port : (c : Configuration) (r r1 r2 : List Entry) (k : ℕ) (idle idle' : Bool) (ended ended' word : ℕ) → SawPorts c r r1 k idle ended → r2 ≡ r1 ++ Looked k word ∷ []
    → idle' ≡ (idle && is_idle_if_live c (record { port = k; word = word })) → ended' ≡ ended + ended_in_word word → SawPorts c r r2 (k + 1) idle' ended'
saw_port c r r1 r2 k idle idle' ended ended' word h is idle_is ended_is =
    let f : Found = record { port = k; word = word } in
    record {
      found = h.found ++ f ∷ [];
      adds = is ∙ ap (λ (q : List Entry). q ++ look_entry f ∷ []) h.adds ∙ append_assoc r (map look_entry h.found) (look_entry f ∷ [])
          ∙ ap (λ (q : List Entry). r ++ q) (sym (map-append look_entry h.found (f ∷ [])));
      at_ports = map-append (λ (x : Found). x.port) h.found (f ∷ []) ∙ ap (λ (ps : List ℕ). ps ++ k ∷ []) h.at_ports ∙ sym (places_more k);
      idle_is = idle_is ∙ ap (λ b. b && is_idle_if_live c f) h.idle_is ∙ sym (list_all-append (is_idle_if_live c) h.found (f ∷ []) ∙ ap (λ b. list_all (is_idle_if_live c) h.found && b) (and-true (is_idle_if_live c f)));
      ended_is = ended_is ∙ ap (λ n. n + ended_in_word word) h.ended_is ∙ sym (sum_by_push (λ (x : Found). ended_in_word x.word) h.found f);
    }
