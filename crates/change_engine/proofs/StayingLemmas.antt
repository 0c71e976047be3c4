-- What a change closed stays closed until it does more, also where a call of the board breaks off.
use Rattle.std.proofs.Common.{◌≡◌, ◌<◌, ℕ, true, false, cond, List, [], ◌∷◌, ◌++◌, map, refl, sym, ap, ◌∙◌, subst, ⊎_elim, All}
use Rattle.std.specs.Prelude.{filter}
use Rattle.std.proofs.lemmas.Bool.{cases_eq}
use Rattle.std.proofs.lemmas.List.{append-nil}
use Rattle.std.proofs.lemmas.List.Elements.{All-head, All-tail, filter-append}
use Rattle.quiesce_laws.specs.Lists.{In}
use Rattle.quiesce_laws.specs.Steps.{change_all}
use Rattle.quiesce_laws.proofs.MeanwhileLaws.{config_after}
use Rattle.quiesce_laws.proofs.TurningLaws.{SameLinks, live_port, same_turned}
use Rattle.quiesce_core.specs.declared.event.Event.{Event}
use Rattle.quiesce_core.specs.declared.event.Event.TheVariants as event
use Rattle.quiesce_core.specs.declared.state.Gate.{Gate}
use Rattle.quiesce_core.specs.Doers.{is_of_change}
use Rattle.quiesce_core.specs.Effect.{with_closed}
use Rattle.quiesce_core.specs.Rules.{is_live_port}
use Rattle.quiesce_core.specs.Runs.{state_after}
use Rattle.quiesce_core.specs.State.{Configuration, empty, gate}
use Rattle.quiesce_core.proofs.SoundnessLaws.{put_elsewhere, put_here}
use Rattle.txn_records.specs.Entries.{config_of, events_in}
use Rattle.txn_records.specs.declared.entry.Entry.{Entry}
use Rattle.txn_records.specs.Records.{IsRecordCut}
use Rattle.txn_records.specs.Records as records
use Rattle.txn_records.proofs.RecordLaws.{changes_of}
use Rattle.change_engine.specs.Breaking.{IsClosedOr, IsClosedStill}
use Rattle.change_engine.specs.Passivating.{AreLivePorts}
use Rattle.change_engine.proofs.Passing.{closes, closes_events, config_over}
use Rattle.change_engine.proofs.Rooting.{shut_behind}
use Rattle.change_spec.proofs.PortLaws.{same_here}

none_of_change : (es : List Event) → All (λ e. is_of_change e ≡ false) es → filter is_of_change es ≡ []
none_of_change [] h = refl
none_of_change (e ∷ es) h =
    ap (λ b. cond b (e ∷ filter is_of_change es) (filter is_of_change es)) (All-head (λ x. is_of_change x ≡ false) e es h)
    ∙ none_of_change es (All-tail (λ x. is_of_change x ≡ false) e es h)

-- events of nodes leave the configuration that the record makes
cut_config : (r : List Entry) (w : IsRecordCut r) → (state_after (records.events w.moments ++ w.later)).config ≡ config_of r
cut_config r w =
    let es = records.events w.moments in
    config_after empty (es ++ w.later)
    ∙ ap (change_all empty.config)
    (filter-append is_of_change es w.later ∙ ap (λ ys. filter is_of_change es ++ ys) (none_of_change w.later w.by_nodes) ∙ append-nil (filter is_of_change es)
    ∙ changes_of r w.moments w.is_of)

-- a gate that is closed is so when others are closed too
shut_still : (c d : Configuration) (ps : List ℕ) (p : ℕ) → AreLivePorts c ps → SameLinks c d → (gate d p).closed ≡ true → (gate (change_all d (map event.Close ps)) p).closed ≡ true
shut_still c d [] p live same shut = shut
shut_still c d (q ∷ ps) p live same shut =
    let made = subst (λ n. q < n) (sym same.long) (live_port c q (All-head (λ k. is_live_port c k ≡ true) q ps live)).made in
    let g : Gate = record (gate d q) { closed = true } in
    shut_still c (with_closed d q true) ps p (All-tail (λ k. is_live_port c k ≡ true) q ps live) (same_turned c d q true made same)
    (⊎_elim
    (λ (here : p ≡ q). ap (λ k. (gate (with_closed d q true) k).closed) here ∙ ap (λ (x : Gate). x.closed) (put_here d q g made refl refl))
    (λ (other : p ≡ q → ⊥). ap (λ (x : Gate). x.closed) (put_elsewhere d q g made refl refl p other) ∙ shut)
    (cases_eq p q))

shut_by_now : (r : List Entry) (ps : List ℕ) (p : ℕ) → AreLivePorts (config_of r) ps → IsClosedOr ps (config_of r) p → (gate (change_all (config_of r) (map event.Close ps)) p).closed ≡ true
shut_by_now r ps p live h =
    let c = config_of r in
    ⊎_elim
    (λ (i : In ps p). ap (λ d. (gate d p).closed) (sym (config_over r (closes ps) ∙ ap (change_all c) (closes_events ps))) ∙ shut_behind r ps live p i)
    (λ (shut : (gate c p).closed ≡ true). shut_still c c ps p live (same_here c) shut)
    h

pub stays_closed : (r es : List Entry) (ps : List ℕ) (p : ℕ) → AreLivePorts (config_of r) ps → events_in es ≡ map event.Close ps → IsClosedOr ps (config_of r) p → IsClosedStill (r ++ es) p
stays_closed r es ps p live shut h w =
    ap (λ c. (gate c p).closed) (cut_config (r ++ es) w ∙ config_over r es ∙ ap (change_all (config_of r)) shut) ∙ shut_by_now r ps p live h
