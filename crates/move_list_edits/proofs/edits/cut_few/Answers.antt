use Rattle.std.proofs.Common.{◌≡◌, ◌≤◌, length, arith}
use Rattle.move_list_edits.proofs.CutLemmas.{cut_behind}
use Rattle.move_list_edits.proofs.edits.cut_few.Goals as goal

pub returns-in-Ok-clause-cut : goal.returns-in-Ok-clause-cut
returns-in-Ok-clause-cut g c =
    let xs = c.args.items.now.items in
    let len : c.len.result ≡ length xs = omega (arith, c.len.ensures, c.args.items.now.ok.0) in
    let within : c.args.to ≤ length xs = omega (arith, c.requires.in_bounds, c.args.items.now.ok.0) in
    cut_behind xs c.turn.new.items.items c.in-Ok.mid.items c.args.from c.args.to c.len.result c.requires.start_le_end within len c.turn.ensures.items
    c.in-Ok.ensures.tail
