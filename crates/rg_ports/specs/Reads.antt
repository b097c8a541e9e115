-- How a shelf counts its reads.
use Rattle.std.specs.Prelude.{◌≡◌, ◌≤◌, Option, None, Some}
use Rattle.rg_ports.specs.declared.port.ReadError.{ReadError}
use Rattle.rg_ports.specs.declared.port.ReadError.TheVariants as error
use Rattle.rg_ports.specs.declared.reads.ReadCounts.{ReadCounts}
use Rattle.rg_ports.specs.Count.{following}

-- no read was made
abbrev pub no_reads : ReadCounts
no_reads = record { made = 0; faults = 0; absences = 0 }

-- once one more was made, with this error or none
abbrev pub after_read : ReadCounts → Option ReadError → ReadCounts
after_read counts (Some error.Failed) = record counts { made = following counts.made; faults = following counts.faults }
after_read counts (Some error.Absent) = record counts { made = following counts.made; absences = following counts.absences }
after_read counts (Some error.TooLong) = record counts { made = following counts.made }
after_read counts (Some error.Memory) = record counts { made = following counts.made }
after_read counts None = record counts { made = following counts.made }

-- none of the counts fell
pub record NotFewer (old new : ReadCounts) : Type 0 where
  pub made : old.made ≤ new.made
  pub faults : old.faults ≤ new.faults
  pub absences : old.absences ≤ new.absences

-- one read was made
abbrev pub IsOneRead : ReadCounts → ReadCounts → Type 0
IsOneRead old new = new.made ≡ following old.made
