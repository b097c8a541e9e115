-- The one line that `demo` writes.
use Rattle.std.specs.Prelude.{ℕ, List, ◌++◌, codes, decimal}
use Rattle.std.specs.Fmt.{signed_decimal}
use Rattle.cmd_words.specs.declared.demo_lines.Demonstration.{Demonstration}

-- what both programs did
abbrev pub outcome_text : Demonstration → List ℕ
outcome_text shown = decimal shown.bytes ++ (codes " bytes of output, ended with " ++ (signed_decimal shown.value ++ codes "\n"))

-- what was done to the text of so many functions, and what both programs did
abbrev pub demo_line : Demonstration → List ℕ
demo_line shown =
    codes "demo " ++ (decimal shown.functions ++ (codes ": " ++ (decimal shown.jumps ++ (codes " jumps, "
    ++ (decimal shown.moves ++ (codes " moves, " ++ (decimal shown.guards ++ (codes " guards, " ++ outcome_text shown))))))))
