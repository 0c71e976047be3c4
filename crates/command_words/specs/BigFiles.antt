-- To be believed (definitions.md).
-- The files of `big`: a description of lanes, each a source, a map, a buffer, a map and a sink in a row, and the
-- script of a run that starts so many lanes, changes the first map of each, and ends when all are done or 100,000 rounds
-- are made.
use Rattle.std.specs.Prelude.{◌*◌, ℕ, List, ◌++◌, Some, codes, decimal, if◌then◌else◌}
use Rattle.std.specs.Str.{bytes_eq}
use Rattle.cfg_io.specs.Shelf.{Files}

abbrev pub description : List ℕ
description =
    codes "component source(int n) { require out; }\n"
    ++ codes "component map(int k) { provide in; require next; }\n"
    ++ codes "component buffer(int cap) { provide in; require next; }\n"
    ++ codes "component sink { provide in; }\n"
    ++ codes "\n"
    ++ codes "component Lanes(int n, int k) {\n"
    ++ codes "  array s[n]:source(20); m[n]:map(k); b[n]:buffer(2); w[n]:map(3); t[n]:sink;\n"
    ++ codes "  forall i:0..n-1 {\n"
    ++ codes "    inst s[i]; m[i]; b[i]; w[i]; t[i];\n"
    ++ codes "    bind s[i].out -- m[i].in; m[i].next -- b[i].in;\n"
    ++ codes "         b[i].next -- w[i].in; w[i].next -- t[i].in;\n"
    ++ codes "  }\n"
    ++ codes "}\n"

-- a number between two texts
abbrev pub around : List ℕ → ℕ → List ℕ → List ℕ
around before number after = before ++ decimal number ++ after

-- Each source gives 20 values.
abbrev pub script : ℕ → List ℕ
script lanes =
    codes "use big.dar\n"
    ++ around (codes "start Lanes(") lanes (codes ",1)\n")
    ++ around (codes "run ") (20 * lanes) (codes "\n")
    ++ around (codes "change to Lanes(") lanes (codes ",2) within 100000\n")
    ++ codes "finish within 100000\nend\n"

abbrev pub script_name : List ℕ
script_name = codes "big"

-- The script has its name, and the description any other, so that no name is without a file.
abbrev pub files_beside : List ℕ → Files
files_beside bytes name = Some (if bytes_eq name script_name then bytes else description)

abbrev pub made_files : ℕ → Files
made_files lanes = files_beside (script lanes)
