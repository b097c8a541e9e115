-- What `help` does.
use Rattle.std.specs.Prelude.{◌≡◌, ℕ, List, ◌++◌, codes}
use Rattle.rg_ports.specs.Count.{Rose}
use Rattle.rg_ports.specs.Written.{Written, more, FrontWritten}
use Rattle.cmd_words.specs.declared.status.Status.{Status}
use Rattle.cmd_words.specs.declared.status.Status.TheVariants as status
use Rattle.cmd_words.specs.Lines.{Tells, write_line}

-- one line for each command
abbrev pub help_text : List ℕ
help_text = codes "regoto restructure IN OUT [--report R]\n" ++ codes "regoto run FILE [--steps N]\n" ++ codes "regoto demo N\n" ++
    codes "regoto help\n" ++ codes "regoto show IN\n" ++ codes "regoto moves IN\n" ++ codes "regoto replay IN REPORT OUT\n" ++
    codes "regoto tidy IN OUT\n" ++ codes "regoto lower IN OUT\n"

-- The text was written to `out`, or a front of it, where the count of its faults rose; then a line tells so.
abbrev pub Helps : Written → Written → ℕ → ℕ → Written → Written → ℕ → ℕ → Status → Type 0
Helps out out' faults faults' err err' told told' status.Done = (out' ≡ more out help_text) × (err' ≡ err)
Helps out out' faults faults' err err' told told' status.WriteFault = FrontWritten out out' help_text × Rose faults faults' × Tells err err' told
    told' write_line
Helps out out' faults faults' err err' told told' _ = ⊥
