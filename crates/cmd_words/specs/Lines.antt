-- The one line that a command writes to the standard error.
use Rattle.std.specs.Prelude.{◌≡◌, ℕ, ℤ, ◌⊎◌, ◌==◌, ◌≤◌, Bool, true, false, List, [], ◌++◌, codes, decimal, if◌then◌else◌}
use Rattle.std.specs.Fmt.{signed_decimal}
use Rattle.c_types.specs.declared.refusal.Refusal.{Refusal}
use Rattle.c_types.specs.declared.trap.Trap.{Trap}
use Rattle.c_types.specs.Traps.{trap_number, trap_text}
use Rattle.rg_ports.specs.Count.{Rose}
use Rattle.rg_ports.specs.Written.{Written, more, FrontWritten}
use Rattle.cmd_words.specs.declared.lines.Summary.{Summary}
use Rattle.cmd_words.specs.declared.lines.Summary.TheVariants as summary

-- what is wrong, by the number of the reason
abbrev pub reason_text : ℕ → List ℕ
reason_text reason =
    if reason == 1 then codes "text too long"
    else (if reason == 2 then codes "byte begins no token"
    else (if reason == 3 then codes "comment without end"
    else (if reason == 4 then codes "bad character constant or string"
    else (if reason == 5 then codes "bad integer constant"
    else (if reason == 6 then codes "unsupported directive"
    else (if reason == 10 then codes "unexpected token"
    else (if reason == 11 then codes "nested too deeply"
    else (if reason == 20 then codes "not declared"
    else (if reason == 21 then codes "declared twice"
    else (if reason == 22 then codes "wrong kind of name"
    else (if reason == 23 then codes "wrong number of arguments"
    else (if reason == 24 then codes "void value used"
    else (if reason == 25 then codes "return does not fit"
    else (if reason == 26 then codes "const assigned"
    else (if reason == 27 then codes "break outside"
    else (if reason == 28 then codes "continue outside"
    else (if reason == 29 then codes "case outside of a switch"
    else (if reason == 30 then codes "equal cases"
    else (if reason == 31 then codes "second default"
    else (if reason == 32 then codes "label twice"
    else (if reason == 33 then codes "unknown label"
    else (if reason == 34 then codes "constant expression needed"
    else (if reason == 35 then codes "bad array or initialisers"
    else (if reason == 36 then codes "main has another form"
    else (if reason == 37 then codes "declarations disagree"
    else (if reason == 38 then codes "array handed to an external function"
    else (if reason == 39 then codes "function too tangled"
    else (if reason == 40 then codes "bad printf"
    else (if reason == 41 then codes "no main"
    else (if reason == 42 then codes "call of a function without body"
    else (if reason == 43 then codes "parameter without a name"
    else (if reason == 50 then codes "bad report line"
    else (if reason == 51 then codes "move does not fit"
    else (if reason == 52 then codes "a jump is left"
    else (if reason == 53 then codes "result nested too deeply"
    else (if reason == 60 then codes "jump present"
    else []))))))))))))))))))))))))))))))))))))

abbrev pub counts_line : ℕ → ℕ → ℕ → List ℕ
counts_line jumps moves guards =
    codes "regoto: " ++ decimal jumps ++ codes " jumps, " ++ decimal moves ++ codes " moves, " ++ decimal guards ++ codes " guards\n"

abbrev pub replayed_line : ℕ → ℕ → List ℕ
replayed_line moves guards = codes "regoto: " ++ decimal moves ++ codes " moves, " ++ decimal guards ++ codes " guards\n"

abbrev pub tidied_line : ℕ → List ℕ
tidied_line changes = codes "regoto: " ++ decimal changes ++ codes " changes\n"

abbrev pub lowered_line : ℕ → List ℕ
lowered_line gotos = codes "regoto: " ++ decimal gotos ++ codes " gotos\n"

-- what a command did that wrote a file
abbrev pub summary_line : Summary → List ℕ
summary_line (summary.Restructured jumps moves guards) = counts_line jumps moves guards
summary_line (summary.Replayed moves guards) = replayed_line moves guards
summary_line (summary.Tidied changes) = tidied_line changes
summary_line (summary.Lowered gotos) = lowered_line gotos

abbrev pub place_and_reason : Refusal → List ℕ
place_and_reason refusal =
    codes ":" ++ decimal refusal.line ++ codes ":" ++ decimal refusal.column ++ codes ": error " ++ decimal refusal.reason ++ codes ": " ++
    reason_text refusal.reason ++ codes "\n"

-- as compilers print it: file, line, column, reason, text
abbrev pub refusal_line : List ℕ → Refusal → List ℕ
refusal_line file refusal = file ++ place_and_reason refusal

abbrev pub usage_line : List ℕ
usage_line = codes "regoto: unknown use, try help\n"

abbrev pub memory_line : List ℕ
memory_line = codes "regoto: out of memory\n"

abbrev pub read_line : List ℕ
read_line = codes "regoto: read failed\n"

abbrev pub write_line : List ℕ
write_line = codes "regoto: write failed\n"

abbrev pub absent_line : List ℕ → List ℕ
absent_line file = codes "regoto: no file " ++ file ++ codes "\n"

-- how a program that was run ended
abbrev pub ended_line : ℤ → List ℕ
ended_line value = codes "regoto: ended with " ++ signed_decimal value ++ codes "\n"

abbrev pub numbered_line : ℕ → List ℕ → List ℕ
numbered_line number text = codes "regoto: trap " ++ (decimal number ++ (codes ": " ++ (text ++ codes "\n")))

abbrev pub trap_line : Trap → List ℕ
trap_line trap = numbered_line (trap_number trap) (trap_text trap)

abbrev pub spent_line : ℕ → List ℕ
spent_line steps = codes "regoto: stopped after " ++ decimal steps ++ codes " steps\n"

-- All the bytes were written, and the count of faults did not fall.
pub record Wrote (old new : Written) (faults faults' : ℕ) (bytes : List ℕ) : Type 0 where
  pub all : new ≡ more old bytes
  pub grows : faults ≤ faults'

-- A front of the bytes was written, but not all, and the count of faults rose.
pub record Broke (old new : Written) (faults faults' : ℕ) (bytes : List ℕ) : Type 0 where
  pub front : FrontWritten old new bytes
  pub rose : Rose faults faults'

-- what a call that writes these bytes leaves, by whether it succeeded
abbrev pub Writes : Bool → Written → Written → ℕ → ℕ → List ℕ → Type 0
Writes true old new faults faults' bytes = Wrote old new faults faults' bytes
Writes false old new faults faults' bytes = Broke old new faults faults' bytes

abbrev pub Tells : Written → Written → ℕ → ℕ → List ℕ → Type 0
Tells old new faults faults' bytes = Wrote old new faults faults' bytes ⊎ Broke old new faults faults' bytes
