-- Each answer of the shelf ends the course of the fetch.
use Rattle.std.proofs.Common.{◌≤◌, Ok, length, vec_len, arith, subst, sym}
use Rattle.command_spec.specs.Sorts.{limit_of}
use Rattle.command_spec.specs.Courses.{ends, fetches}
use Rattle.command_program.specs.Coming.{Comes}
use Rattle.command_program.specs.Sources.{sort_of}
use Rattle.command_program.proofs.Fetching.{IsText, fetched, fetch_failed, fetch_long, fetch_short}
use Rattle.command_program.proofs.files.fetch_file.Goals as goal

pub returns-in-Ok-clause-comes : goal.returns-in-Ok-clause-comes
returns-in-Ok-clause-comes g c =
    let files = g.H.Shelf.files c.args.shelf.now in
    let sort = sort_of c.args.sort in
    let short : vec_len c.in-Ok.text ≤ limit_of sort = rw c.limit.ensures at c.in-Ok.ensures.within in
    let within : length c.in-Ok.text.items ≤ limit_of sort = omega (arith, c.in-Ok.text.ok.0, short) in
    subst (λ bytes. Comes IsText files (fetches sort c.args.file.now ends) (g.H.Shelf.failed c.args.shelf.now) (g.H.Shelf.failed c.fetch.new.self) (Ok bytes)) (sym c.of.ensures)
    (fetched files sort c.args.file.now _ _ c.in-Ok.text.items c.in-Ok.ensures.noted (rw c.limit.ensures at c.in-Ok.ensures.told) within)

pub returns-in-Err-Failed-clause-comes : goal.returns-in-Err-Failed-clause-comes
returns-in-Err-Failed-clause-comes g c =
    fetch_failed _ (sort_of c.args.sort) c.args.file.now _ _ c.unreadable.result (rw c.in-Err-Failed.field-0-is at c.in-Err-Failed.ensures.noted)
    c.unreadable.ensures

pub returns-in-Err-TooLong-clause-comes : goal.returns-in-Err-TooLong-clause-comes
returns-in-Err-TooLong-clause-comes g c =
    fetch_long _ (sort_of c.args.sort) c.args.file.now _ _ c.too_long.result (rw c.in-Err-TooLong.field-0-is at c.in-Err-TooLong.ensures.noted)
    (rw (c.in-Err-TooLong.field-0-is, c.limit.ensures) at c.in-Err-TooLong.ensures.told) c.too_long.ensures

pub returns-in-Err-NoMemory-clause-comes : goal.returns-in-Err-NoMemory-clause-comes
returns-in-Err-NoMemory-clause-comes g c =
    fetch_short _ (sort_of c.args.sort) c.args.file.now _ _ (rw c.in-Err-NoMemory.field-0-is at c.in-Err-NoMemory.ensures.noted)
