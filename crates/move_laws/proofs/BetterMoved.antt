-- Each of the four rules makes a well made body at least as good.
use Rattle.std.proofs.Common.{◌≡◌, ◌+◌, arith}
use Rattle.c_tree.specs.Trees.{Tree, Forest, Switch, Leap}
use Rattle.c_tree.specs.Everywhere.{Everywhere}
use Rattle.c_tree.specs.Exits.{breaks, continues}
use Rattle.c_tree.specs.Changed.{one, Changed}
use Rattle.c_tree.specs.Moves as M
use Rattle.c_tree.specs.Moves.{Moved}
use Rattle.c_tree.specs.WellMade.{HasEntries, HasCases, IsWellMade}
use Rattle.c_tree.proofs.ExitsKept.{breaks-join, continues-join}
use Rattle.c_tree.proofs.KeptLemmas.{everywhere_back}
use Rattle.c_tree.proofs.WellMoved.{everywhere_both}
use Rattle.core_laws.specs.Better.{Better}
use Rattle.move_laws.proofs.BetterLists.{better_changed}
use Rattle.move_laws.proofs.Outward.{out_then, out_else, out_while, out_do}
use Rattle.move_laws.proofs.Inward.{join_after, in_then, in_else, in_while, in_do}
use Rattle.move_laws.proofs.Backward.{join_before, lifted}
use Rattle.move_laws.proofs.SwitchOut.{out_switch}
use Rattle.move_laws.proofs.SwitchIn.{in_switch}
use Rattle.move_laws.proofs.Choice.{selects_chosen}
use Rattle.move_laws.proofs.MovedWhere.{changed_where}

-- a switch has sections that can be entered, and cases that differ
abbrev pub HasLabels : Tree → Type 0
HasLabels x = HasEntries x × HasCases x

-- a rule, where no exit of the list is bound to what is around it, and switches have such labels
pub better_moved : (xs ys : Forest) → Moved xs ys → breaks xs + continues xs ≡ 0 → Everywhere HasLabels xs → Better xs ys
better_moved _ _ (M.join_after l t) o h = join_after l t
better_moved _ _ (M.join_before l t) o h = join_before l t (let p = breaks-join t (one (Leap l)) in let q = continues-join t (one (Leap l)) in omega arith)
better_moved _ _ (M.lifted l x t z) o h = lifted l x t (let p = breaks-join t (one (Leap l)) in let q = continues-join t (one (Leap l)) in omega arith)
better_moved _ _ (M.out_then l t a b c) o h = out_then l a b t c
better_moved _ _ (M.out_else l t a b c) o h = out_else l a b t c
better_moved _ _ (M.out_while l t a b) o h = out_while l a b t
better_moved _ _ (M.out_do l t a b) o h = out_do l a b t
better_moved _ _ (M.out_switch l s r) o h = out_switch l s r
better_moved _ _ (M.in_then l t u a b z) o h = in_then l t u a b
better_moved _ _ (M.in_else l t u a b z) o h = in_else l t u a b
better_moved _ _ (M.in_while l t u a z) o h = in_while l t u a
better_moved _ _ (M.in_do l t u a z) o h = in_do l t u a
better_moved _ _ (M.in_switch l t s k n {c = c} r p) o h =
    let e = (everywhere_back HasLabels t (one (Switch s c)) h.1).0.0 in
    in_switch l t s k n r (selects_chosen s n l k r e.0 e.1 p)

-- a whole body
pub moved_better : (xs ys : Forest) → Changed Moved xs ys → IsWellMade xs → Better xs ys
moved_better xs ys c w =
    better_changed (λ xs ys m. better_moved xs ys m.moved m.bound m.facts)
    (changed_where HasLabels c w.bound w.exits (everywhere_both HasEntries HasCases xs w.entries w.cases))
