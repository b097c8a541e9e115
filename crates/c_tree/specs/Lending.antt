-- What a body holds after a list of it was lent.
use Rattle.std.specs.Prelude.{ℕ, List, Option}
use Rattle.std.specs.Borrow.{Lends, LendsIf, MutBor, Fml}
use Rattle.c_types.specs.contracts.list.List as L
use Rattle.c_tree.specs.contracts.tree.Item as R
use Rattle.c_tree.specs.contracts.tree.Section as S
use Rattle.c_tree.specs.declared.tree.Item.{Item}
use Rattle.c_tree.specs.declared.tree.Section.{Section}
use Rattle.c_tree.specs.declared.tree.Branch.{Branch}
use Rattle.c_tree.specs.Paths.{with_section_list, with_list, with_child}

-- the section ends with the list that was left
abbrev pub LendsSection : MutBor Section → MutBor (List Item) → Fml
LendsSection x r = Lends S.the_row (L.the_row R.the_row) x r (λ w. with_list w x.now)

-- the sections end with the list that was left in section k
abbrev pub LendsSections : MutBor (List Section) → ℕ → Option (MutBor (List Item)) → Fml
LendsSections x k r = LendsIf (L.the_row S.the_row) (L.the_row R.the_row) x r (λ w. with_section_list k w x.now) x.now

-- the item ends with the list that was left at the branch
abbrev pub LendsChild : MutBor Item → Branch → Option (MutBor (List Item)) → Fml
LendsChild x b r = LendsIf R.the_row (L.the_row R.the_row) x r (λ w. with_child b w x.now) x.now
