use Rattle.std.proofs.Common.{◌≡◌, get_or, sym, ap, ◌∙◌, arith}
use Rattle.c_tree.specs.Trees.{trees_of}
use Rattle.c_tree.specs.Views.{tree_at}
use Rattle.break_recovery.specs.Fronts.{holds_none}
use Rattle.break_recovery.proofs.Outermost.{no_doubt, doubt_gone}
use Rattle.break_recovery.proofs.Rests.{plain_there}
use Rattle.break_recovery.proofs.functions.is_doubtless.Goals as goal

pub returns-then-start : goal.returns-then-start
returns-then-start c = λ e f n q. no_doubt f n c.args.start.doubt c.args.start.from (trees_of c.args.list.now) c.if-start.true q

pub returns : goal.returns
returns c =
    let xs = c.args.list.now in
    let k = c.args.start.doubt in
    let x = c.index-as_slice-start.result in
    let i : x ≡ get_or xs k x = c.index-as_slice-start.is ∙ ap (λ z. get_or z k x) c.as_slice.ensures.value in
    λ e f n q. doubt_gone f n k c.args.start.from (trees_of xs)
    (plain_there f n xs k x (omega (arith, c.requires, c.if-start.false)) i
    (ap (λ z. holds_none (tree_at z)) (sym c.get.ensures) ∙ sym c.holds_none.ensures ∙ e)) q
