-- Tests of cases by their numbers, the initialisation of a variable, sections behind others, and `for`s.
use Rattle.std.specs.Prelude.{ℕ, ℤ, Bool, true, false, List, [], ◌∷◌, Option, Some, None}
use Rattle.c_types.specs.declared.kinds.IntKind.{IntKind}
use Rattle.c_tree.specs.declared.tree.Slot.{Slot}
use Rattle.c_tree.specs.Changed.{one}
use Rattle.c_tree.specs.Numerals.{constant}
use Rattle.c_tree.specs.TestTrees.{Source}
use Rattle.c_tree.specs.ExpressionTrees.{ExpressionTree}
use Rattle.c_tree.specs.Trees.{Tree, Forest, Nil, If, While, For, Goto, Sections, NoSection, Section, join}
use Rattle.jump_meaning.specs.Code.{entry_or}
use Rattle.jump_meaning.specs.World.{no_slot}
use Rattle.flat_laws.specs.Pieces.{is_number, test_or_one, third_items}
use Rattle.flat_laws.specs.FlatForm.{assigned}

-- `if (v == n) goto` the label of the case of this number
abbrev pub number_test : IntKind → ℕ → (Option ℤ → ℕ) → Option ℤ → Forest
number_test k v label (Some n) = one (If (Source (is_number k v (constant k n))) (one (Goto (label (Some n)))) Nil)
number_test k v label None = Nil

-- for each of these numbers
abbrev pub number_tests : IntKind → ℕ → (Option ℤ → ℕ) → List (Option ℤ) → Forest
number_tests k v label [] = Nil
number_tests k v label (n ∷ ns) = join (number_test k v label n) (number_tests k v label ns)

-- the assignments that initialise variable x of these
abbrev pub initialised_of : List Slot → ℕ → List ExpressionTree → Forest
initialised_of slots x es = assigned (entry_or no_slot slots x).kind x (entry_or no_slot slots x).cells es

-- sections, then others
abbrev pub behind : Sections → Sections → Sections
behind NoSection d = d
behind (Section cases default a ends c) d = Section cases default a ends (behind c d)

-- the loop that a `for` becomes, without the label behind it
abbrev pub for_loop : Bool → Option ExpressionTree → Option ExpressionTree → Forest → Tree
for_loop true t u a = While (Source (test_or_one t)) (join a (third_items u))
for_loop false t u a = For Nil t u a
