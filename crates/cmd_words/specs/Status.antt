-- The exit status of each way in which a command ends.
use Rattle.std.specs.Prelude.{ℕ}
use Rattle.cmd_words.specs.declared.status.Status.{Status}
use Rattle.cmd_words.specs.declared.status.Status.TheVariants.{Done, Refused, Usage, Memory, ReadFault, WriteFault, Trapped, Spent, Absent}

abbrev pub exit_code : Status → ℕ
exit_code Done = 0
exit_code (Refused refusal) = 1
exit_code Usage = 2
exit_code Memory = 3
exit_code ReadFault = 4
exit_code WriteFault = 5
exit_code (Trapped trap) = 6
exit_code Spent = 7
exit_code Absent = 8
