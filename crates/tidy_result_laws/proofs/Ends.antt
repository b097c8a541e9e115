-- The end of a resolved program without jumps reads back.
use Rattle.c_tree.specs.Text.{text_of}
use Rattle.c_resolved_laws.proofs.TheLaws.{resolved_laws}
use Rattle.reread_program_laws.proofs.ReadingBack.{reading_back_laws}
use Rattle.c_text.proofs.Readings.{program_as}
use Rattle.tidy_result_laws.proofs.TheLaws.{end_law}
use Rattle.tidy_result_laws.specs.TidyRereadLaws.{EndsReadBack}

pub ends_read_back : EndsReadBack
ends_read_back p n q r free t =
    let resolved = end_law.resolved p n q r free t in
    let plain = end_law.plain p n q r free t in
    record {
      resolved = resolved;
      plain = plain;
      reads = program_as (text_of q) q (reading_back_laws.resolved q resolved (resolved_laws.text q plain));
      alike = end_law.alike p n q r free t;
      counted = end_law.counted p n q r free t;
    }
