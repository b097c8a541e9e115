use Rattle.std.proofs.Common.{◌≡◌, ◌≤◌, ℕ, Bool, false, List, drop, length, ap, sym, ◌∙◌}
use Rattle.std.proofs.Math.ListN.{drop_of_length-le}
use Rattle.c_lexer.specs.declared.directive.Before.{Before}
use Rattle.c_lexer.specs.declared.directive.Before.TheVariants.{Outside}
use Rattle.c_lexer.specs.IncludeSteps.{is_open, open_behind, leaves_open}
use Rattle.c_lexer.proofs.directive.leaves_open.Goals as goal

-- at the end of the line
found : (w : List ℕ) (x : Before) (n : ℕ) (b : Bool) → open_behind (Outside false false) w ≡ open_behind x (drop n w)
    → length w ≤ n → b ≡ is_open x → b ≡ leaves_open w
found w x n b e h k = k ∙ sym (e ∙ ap (open_behind x) (drop_of_length-le w h))

pub returns : goal.returns
returns c = found c.args.line.now c.loop-i.before c.loop-i.i c.is_open.result c.loop-i.invariant c.loop-i-test.false c.is_open.ensures
