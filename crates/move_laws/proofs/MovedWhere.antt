-- What a rule finds in a well made body where it changes it.
use Rattle.std.proofs.Common.{◌≡◌, ◌+◌, arith}
use Rattle.c_tree.specs.Trees.{Tree, Forest, Sections, join}
use Rattle.c_tree.specs.Everywhere.{Everywhere, EverywhereIn}
use Rattle.c_tree.specs.Exits.{breaks, breaks_in, continues, continues_in}
use Rattle.c_tree.specs.Changed.{Changed, ChangedSections, here, within, in_then, in_else, in_while, in_do, in_for, in_switch, in_block, in_section, in_later}
use Rattle.c_tree.specs.Moves.{Moved}
use Rattle.c_tree.specs.WellMade.{BindsNoExit}
use Rattle.c_tree.proofs.KeptLemmas.{everywhere_front, everywhere_back, changed_jumps, sections_jumps}
use Rattle.c_tree.proofs.ExitsKept.{breaks-join, continues-join}

-- a rule on plain lists, where no exit of the list is bound to what is around it, and P holds of each item
pub record MovedWhere (P : Tree → Type 0) (xs ys : Forest) : Type 0 where
  pub moved : Moved xs ys
  pub bound : breaks xs + continues xs ≡ 0
  pub facts : Everywhere P xs

module _ (P : Tree → Type 0) where
  mutual
    pub changed_where : {xs ys : Forest} → Changed Moved xs ys → breaks xs + continues xs ≡ 0 → Everywhere BindsNoExit xs → Everywhere P xs →
        Changed (MovedWhere P) xs ys
    changed_where (here r) o h p = here (record { moved = r; bound = o; facts = p })
    changed_where (within a b {xs = xs} {ys = ys} c) o h p =
        let i = breaks-join a (join xs b) in let j = breaks-join xs b in let v = continues-join a (join xs b) in let w = continues-join xs b in
        within a b (changed_where c (omega arith)
        (everywhere_front BindsNoExit xs b (everywhere_back BindsNoExit a (join xs b) h)) (everywhere_front P xs b (everywhere_back P a (join xs b) p)))
    changed_where (in_then t b c) o h p = in_then t b (changed_where c (omega arith) h.0.1 p.0.1)
    changed_where (in_else t a c) o h p = in_else t a (changed_where c (omega arith) h.0.2 p.0.2)
    changed_where (in_while t c) o h p = in_while t (changed_where c (h.0.0 (changed_jumps c)) h.0.1 p.0.1)
    changed_where (in_do t c) o h p = in_do t (changed_where c (h.0.0 (changed_jumps c)) h.0.1 p.0.1)
    changed_where (in_for f t u c) o h p = in_for f t u (changed_where c (h.0.0 (let j = changed_jumps c in omega arith)) h.0.2 p.0.2)
    changed_where (in_switch s c) o h p = in_switch s (sections_where c (h.0.0 (sections_jumps c)) (omega arith) h.0.1 p.0.1)
    changed_where (in_block c) o h p = in_block (changed_where c (omega arith) h.0.1 p.0.1)

    sections_where : {c d : Sections} → ChangedSections Moved c d → breaks_in c ≡ 0 → continues_in c ≡ 0 → EverywhereIn BindsNoExit c →
        EverywhereIn P c → ChangedSections (MovedWhere P) c d
    sections_where (in_section cases default ends c r) b o h p = in_section cases default ends c (changed_where r (omega arith) h.0 p.0)
    sections_where (in_later cases default ends a r) b o h p = in_later cases default ends a (sections_where r (omega arith) (omega arith) h.1 p.1)
