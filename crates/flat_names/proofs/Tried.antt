-- The names of worked functions, by computation, whatever their expressions are.
use Rattle.std.specs.Fmt.{digits}
use Rattle.std.proofs.Common.{ℕ, pos, true, false, List, [], ◌∷◌, Some, None, codes, ◌≡◌, refl}
use Rattle.c_types.specs.declared.kinds.IntKind.TheVariants.{Int}
use Rattle.c_types.specs.Words.{known_functions}
use Rattle.c_copies.specs.Names.{with_names}
use Rattle.c_tree.specs.declared.tree.Slot.{Slot}
use Rattle.c_tree.specs.ExpressionTrees.{ExpressionTree, NodeTree, Typed, Number}
use Rattle.c_tree.specs.TestTrees.{Source, Selects}
use Rattle.c_tree.specs.Trees.{Tree, Forest, Nil, Then, NoSection, Section, Evaluate, If, While, Do, Switch, Block, Break, Continue, Goto, Mark, Arrival}
use Rattle.c_tree.specs.Changed.{one}
use Rattle.flat_names.specs.declared.constructs.Construct.TheVariants.{Stays, Scattered}
use Rattle.flat_names.specs.declared.giving.Made.{Made}
use Rattle.flat_names.specs.FlatNames.{constructs, none_given, name_constructs, named_slots, label_names}

abbrev list : List Tree → Forest
list [] = Nil
list (x ∷ xs) = Then x (list xs)

abbrev int_slot : List ℕ → Slot
int_slot n = record { name = n; kind = Int; cells = None; constant = false }

abbrev const_slot : List ℕ → Slot
const_slot n = record { name = n; kind = Int; cells = None; constant = true }

-- `{ switch (n % 2) { case 0: do { x; case 1: y; } while (n > 0); break; } } { while (n) { if (u) continue; again: w; if (v) break; goto again; } }`
listed : (x y u v w n more : ExpressionTree) (node : NodeTree) → constructs (list (
    Block (one (Switch (Selects (Typed (Some Int) node)) (Section (Typed (Some Int) (Number (pos 0)) ∷ []) false (one (Do (list (
    Evaluate x ∷ Arrival (Some (Typed (Some Int) (Number (pos 1)))) ∷ Evaluate y ∷ []
    )) (Source more))) true NoSection)))
    ∷ Block (one (While (Source n) (list (If (Source u) (one Continue) Nil ∷ Mark 0 ∷ Evaluate w ∷ If (Source v) (one Break) Nil ∷ Goto 0 ∷ []))))
    ∷ []
    ))
    ≡ Scattered Int 2 false true ∷ Stays ∷ Stays ∷ []
listed x y u v w n more node = refl

-- the names of the file, and those of its scope
abbrev used : List (List ℕ)
used = with_names (with_names [] (codes "again" ∷ codes "main" ∷ codes "n" ∷ codes "switch_1" ∷ codes "x" ∷ codes "y" ∷ [])) known_functions

abbrev file : List (List ℕ)
file = with_names (with_names [] (codes "main" ∷ codes "x" ∷ [])) known_functions

-- the variable of the switch can't have the name that one of the function has
given_variable : (name_constructs 1 (Scattered Int 2 false true ∷ Stays ∷ Stays ∷ []) (none_given used)).variables ≡ int_slot (codes "switch_1_2") ∷ []
unfolding digits
given_variable = refl

given_made : (name_constructs 1 (Scattered Int 2 false true ∷ Stays ∷ Stays ∷ []) (none_given used)).made
    ≡ record { cases = codes "case_1_1" ∷ codes "case_1_2" ∷ []; defaults = None ∷ None ∷ None ∷ []; breaks = Some (codes "break_1") ∷ None ∷ None ∷ [] }
unfolding digits
given_made = refl

-- `int n, switch_1; { int x; const int y; .. } { int x; .. }` where the file has an x
renamed : (named_slots 0 file used (int_slot (codes "n") ∷ int_slot (codes "switch_1") ∷ int_slot (codes "x") ∷ const_slot (codes "y") ∷ int_slot
    (codes "x") ∷ [])).slots
    ≡ int_slot (codes "n") ∷ int_slot (codes "switch_1") ∷ int_slot (codes "x_2") ∷ int_slot (codes "y") ∷ int_slot (codes "x_3") ∷ []
unfolding digits
renamed = refl

-- the labels in their order: those of the switch, `again`, and those of the exits of the third loop or switch
labelled : (let m : Made = record {
  cases = codes "case_1_1" ∷ codes "case_1_2" ∷ [];
  defaults = None ∷ None ∷ None ∷ [];
  breaks = Some (codes "break_1") ∷ None ∷ None ∷ [];
} in label_names (codes "again" ∷ []) m used (4 ∷ 8 ∷ 1 ∷ 0 ∷ 10 ∷ 9 ∷ []))
    ≡ codes "case_1_1" ∷ codes "case_1_2" ∷ codes "break_1" ∷ codes "again" ∷ codes "continue_3" ∷ codes "break_3" ∷ []
unfolding digits
labelled = refl
