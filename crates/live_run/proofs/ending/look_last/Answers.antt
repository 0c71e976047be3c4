use Rattle.std.proofs.Common.{◌≡◌, ◌<◌, ◌∷◌, ◌++◌, ℕ, IsTrue, [], ap, length, subst, sym}
use Rattle.live_board.specs.Ended.{AgreesWith}
use Rattle.live_run.proofs.LastLook.{agrees_still}
use Rattle.quiesce_core.specs.State.{Configuration}
use Rattle.txn_spec.specs.Views.{is_among}
use Rattle.txn_records.specs.Entries.{config_of}
use Rattle.txn_gate.specs.Seats.{collected_in, record_of}
use Rattle.txn_spec.specs.Merging.{MergeIntoRun}
use Rattle.txn_spec.specs.declared.view.ChangeView.{ChangeView}
use Rattle.txn_records.specs.declared.entry.Entry.TheVariants.{Looked}
use Rattle.txn_records.proofs.EntryLaws.{config_looked}
use Rattle.live_run.proofs.ending.look_last.Goals as goal

pub finish-requires-clause-collected : goal.finish-requires-clause-collected
finish-requires-clause-collected c = c.requires.carried.2.all_taken_in

pub returns-clause-all : goal.returns-clause-all
returns-clause-all c =
    let word = c.finish.ensures.did.0 in
    let r = record_of c.args.seat.now in
    let nodes = collected_in c.args.seat.now in
    let is : record_of c.finish.new.seat ≡ r ++ Looked 0 word ∷ [] = ap (λ (v : ChangeView). v.entries) c.finish.ensures.did.1.change in
    let here : (n : ℕ) → n < length (config_of (r ++ Looked 0 word ∷ [])).slots → IsTrue (is_among nodes n) =
    subst (λ (q : Configuration). (n : ℕ) → n < length q.slots → IsTrue (is_among nodes n)) (sym (config_looked r 0 word)) c.requires.carried.2.all_taken_in in
    subst (λ ns. (n : ℕ) → n < length (config_of (record_of c.finish.new.seat)).slots → IsTrue (is_among ns n)) (sym c.finish.ensures.did.1.nodes)
    (subst (λ q. (n : ℕ) → n < length (config_of q).slots → IsTrue (is_among nodes n)) (sym is) here)

pub returns-clause-agrees : goal.returns-clause-agrees
returns-clause-agrees c = λ statements report h.
    let word = c.finish.ensures.did.0 in
    let r = record_of c.args.seat.now in
    let nodes = collected_in c.args.seat.now in
    let is : record_of c.finish.new.seat ≡ r ++ Looked 0 word ∷ [] = ap (λ (v : ChangeView). v.entries) c.finish.ensures.did.1.change in
    let merged : MergeIntoRun (r ++ Looked 0 word ∷ []) nodes = subst (λ q. MergeIntoRun q nodes) is (subst (λ n. MergeIntoRun (record_of c.finish.new.seat) n) c.finish.ensures.did.1.nodes c.finish.ensures.merged) in
    let agrees = agrees_still statements report r 0 word nodes (c.reports_agree_with_their_seat.ensures.agrees statements report r 0 word nodes h.carried merged h.all_taken_in) merged in
    subst (λ n. AgreesWith statements report (record_of c.finish.new.seat) n) (sym c.finish.ensures.did.1.nodes) (subst (λ q. AgreesWith statements report q nodes) (sym is) agrees)
