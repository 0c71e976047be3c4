-- Sorts of files, as the code has them.
use Rattle.command_spec.specs.Sorts as sorts
use Rattle.command_program.specs.declared.files.FileSort.{FileSort}
use Rattle.command_program.specs.declared.files.FileSort.TheVariants as of

abbrev pub sort_of : FileSort → sorts.Sort
sort_of of.Script = sorts.of_script
sort_of of.Events = sorts.of_events
sort_of of.Report = sorts.of_report
sort_of of.Description = sorts.of_description
