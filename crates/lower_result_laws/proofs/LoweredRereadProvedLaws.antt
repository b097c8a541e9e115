-- The laws of the texts of lowered programs.
use Rattle.std.proofs.Common.{◌≡◌, Ok}
use Rattle.c_tree.specs.declared.tree.Program.{Program}
use Rattle.c_tree.specs.Text.{text_of}
use Rattle.c_scopes.specs.Reading.{reading}
use Rattle.c_resolved_defs.specs.Limits as limits
use Rattle.c_resolved_defs.specs.Resolved.{IsResolvedWith}
use Rattle.c_resolved_defs.specs.Within.{Each}
use Rattle.c_resolved_laws.specs.Counts.{flat_counts, IsResolved}
use Rattle.reread_program_laws.specs.RereadTextLaws.{counted}
use Rattle.reread_program_laws.proofs.ReadingBack.{reading_back_laws}
use Rattle.lower_laws.specs.Lowering.{IsLoweredProgram}
use Rattle.lower_result_laws.specs.Modest.{IsModest}
use Rattle.lower_result_laws.specs.LoweredResolvedLaws.{IsTopUntangled}
use Rattle.lower_result_laws.proofs.LoweredText.{lowered_resolved_laws}
use Rattle.lower_result_laws.specs.LoweredRereadLaws.{IsReadOrTangled, LoweredReadingLaws}
use Rattle.lower_result_laws.proofs.OneLowering.{one_lowering}
use Rattle.lower_result_laws.proofs.Unmeasured.{unmeasured}

lowered : (counts : limits.FlatCounts) (p q : Program) → IsResolvedWith counts p → IsLoweredProgram p q → IsModest p → IsReadOrTangled counted (text_of q) q
lowered counts p q r w m = unmeasured counted q (lowered_resolved_laws.uncounted counts p q r w m) (lowered_resolved_laws.text counts p q r w)

reads_back : (p q : Program) → IsResolved p → IsLoweredProgram p q → IsModest p → Each (IsTopUntangled flat_counts) q.tops → reading counted (text_of q) ≡ Ok q
reads_back p q r w m o = reading_back_laws.resolved q (lowered_resolved_laws.resolved flat_counts flat_counts p q r w m o)
    (lowered_resolved_laws.text flat_counts p q r w)

pub lowered_reading_laws : LoweredReadingLaws
lowered_reading_laws = record { one = one_lowering; unmeasured = unmeasured; lowered = lowered; reads_back = reads_back }
