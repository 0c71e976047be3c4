use Rattle.std.proofs.Common.{◌≡◌, ◌∙◌, ◌<◌, ◌||◌, length, sym, ap, subst, arith}
use Rattle.txn_records.specs.Looks.{is_drained_word}
use Rattle.quiesce_word.specs.Words as words
use Rattle.txn_gate.specs.TablesInside.{tabled}
use Rattle.txn_gate.specs.PortNotes.{note_in}
use Rattle.txn_gate.specs.TablesOf.{IsTableOf, bare}
use Rattle.txn_records.proofs.EntryLaws.{config_looked}
use Rattle.txn_gate.proofs.NotingTables.{noted_looked}
use Rattle.txn_gate.proofs.record_tables.RecordTables.look.Goals as goal

pub returns : goal.returns
returns c r of =
    let was : IsTableOf (tabled c.self.inside) r = subst (λ t. IsTableOf t r) (sym c.self.view_is) of in
    let low : c.args.port < length c.self.inside.notes.items = (let few = c.requires in let all_ = c.self.invariant.notes in omega (arith, few, all_)) in
    let is : c.note_at-note.result ≡ note_in c.self.inside.notes.items c.args.port = c.note_at-note.ensures ∙ ap (λ ns. note_in ns c.args.port) c.as_slice.ensures.value in
    let drained : c.is_drained.result ≡ is_drained_word c.args.word = c.is_drained.ensures ∙ ap words.is_drained c.of.ensures.fields in
    record {
      config = was.config ∙ ap bare (sym (config_looked r c.args.port c.args.word));
      notes = noted_looked c.self.inside.notes.items r c.args.port c.args.word c.looked.result low was.notes
          (c.looked.ensures ∙ (λ i. record (is i) { found = (is i).found || drained i }));
    }
