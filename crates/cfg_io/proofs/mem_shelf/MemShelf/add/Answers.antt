use Rattle.std.proofs.Common.{string_bytes, ◌∙◌}
use Rattle.cfg_io.proofs.FilesLemmas.{look_up-put_same, look_up-put_other}
use Rattle.cfg_io.proofs.mem_shelf.MemShelf.add.Goals as goal

pub returns-clause-there : goal.returns-clause-there
returns-clause-there c =
    cc (look_up-put_same c.self.inside.files c.insert.new.self (string_bytes c.in_ok-name.name) c.in_ok-bytes.bytes c.in_ok-insert.ensures.updates, c.in_ok-name.ensures.ok, c.in_ok-bytes.ensures.items)

pub returns-clause-others : goal.returns-clause-others
returns-clause-others c = λ other differs.
    rw (← c.self.view_is)
    (look_up-put_other c.self.inside.files c.insert.new.self (string_bytes c.in_ok-name.name) c.in_ok-bytes.bytes c.in_ok-insert.ensures.updates other (λ same. differs (same ∙ c.in_ok-name.ensures.ok)))
