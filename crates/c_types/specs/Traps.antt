-- The numbers and the texts of the traps.
use Rattle.std.specs.Prelude.{ℕ, List, codes}
use Rattle.c_types.specs.declared.trap.Trap.{Trap}
use Rattle.c_types.specs.declared.trap.Trap.TheVariants.{Overflow, ZeroDivisor, Shift, Index, NoValue, Calls, Cells, Abort, NoAnswer}

abbrev pub trap_number : Trap → ℕ
trap_number Overflow = 1
trap_number ZeroDivisor = 2
trap_number Shift = 3
trap_number Index = 4
trap_number NoValue = 5
trap_number Calls = 6
trap_number Cells = 7
trap_number Abort = 8
trap_number NoAnswer = 9

abbrev pub trap_text : Trap → List ℕ
trap_text Overflow = codes "signed overflow"
trap_text ZeroDivisor = codes "division by zero"
trap_text Shift = codes "bad shift"
trap_text Index = codes "index out of range"
trap_text NoValue = codes "missing return value"
trap_text Calls = codes "too many nested calls"
trap_text Cells = codes "too many array cells"
trap_text Abort = codes "abort"
trap_text NoAnswer = codes "no answer left"
