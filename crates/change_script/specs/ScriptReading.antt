-- What the code keeps of the lines that it has read.
use Rattle.std.specs.Prelude.{◌≡◌, List}
use Rattle.report_types.specs.declared.script.ScriptLine.{ScriptLine}
use Rattle.change_script.specs.declared.script_files.Above.{Above}
use Rattle.change_script.specs.ScriptFiles.{has, is_file, is_start, is_finish, is_stop}

-- which kinds of statements stand in these lines
abbrev pub IsAbove : List ScriptLine → Above → Type 0
IsAbove lines above =
    (above.file ≡ has is_file lines) × (above.start ≡ has is_start lines) × (above.finish ≡ has is_finish lines)
    × (above.«end» ≡ has is_stop lines)
