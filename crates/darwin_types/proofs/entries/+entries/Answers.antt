use Rattle.std.proofs.Common.{◌≡◌, ◌++◌, OnOk, map, sym, subst, ap, ◌∙◌}
use Rattle.darwin_parser.specs.Tree.{stmt_of, entry_of}
use Rattle.darwin_types.specs.Scope.{entries_of_stmt}
use Rattle.darwin_types.proofs.Bodies.{stmt_of_forall, stmt_of_when}
use Rattle.darwin_types.proofs.entries.+entries.Goals as goal

pub add_entry-returns-in-Forall : goal.add_entry-returns-in-Forall
add_entry-returns-in-Forall t c =
    let w = c.in-Forall in
    let is = ap entries_of_stmt (ap stmt_of w.is ∙ stmt_of_forall w.var w.low w.high w.body w.at) in
    subst (λ es. OnOk c.add_entries.result (map (λ e. entry_of e.now) c.add_entries.new.entries.items ≡ map (λ e. entry_of e.now) c.args.entries.now.items ++ es)) (sym is) (rw c.as_slice.ensures.value at c.add_entries.ensures)

pub add_entry-returns-in-When : goal.add_entry-returns-in-When
add_entry-returns-in-When t c =
    let w = c.in-When in
    let is = ap entries_of_stmt (ap stmt_of w.is ∙ stmt_of_when w.test w.body w.at) in
    subst (λ es. OnOk c.add_entries-in-When.result (map (λ e. entry_of e.now) c.add_entries-in-When.new.entries.items ≡ map (λ e. entry_of e.now) c.args.entries.now.items ++ es)) (sym is) (rw c.as_slice-in-When.ensures.value at c.add_entries-in-When.ensures)
