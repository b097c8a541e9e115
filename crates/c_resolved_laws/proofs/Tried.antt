-- The counts of flat forms, tried.
use Rattle.std.proofs.Common.{ℕ, pos, true, false, [], ◌∷◌, Some, None, ◌≡◌, refl}
use Rattle.c_tree.specs.ExpressionTrees.{ExpressionTree, Typed, Number}
use Rattle.c_tree.specs.TestTrees.{Source, Selects}
use Rattle.c_tree.specs.Trees.{Forest, Nil, Then, NoSection, Section, If, While, Switch, Break, Continue, Goto, Mark, Arrival}
use Rattle.c_types.specs.declared.kinds.IntKind.TheVariants.{Int}
use Rattle.c_resolved_laws.specs.Counts.{flat_counts, counts_of, measured_form}

abbrev number : ℕ → ExpressionTree
number n = Typed (Some Int) (Number (pos n))

-- `again: goto again;`, and a label that no goto names
forever : flat_counts (Then (Mark 0) (Then (Goto 0) (Then (Mark 1) Nil))) ≡ Some (1, 1)
forever = refl

-- a `break` of a loop that holds a goto becomes one
leaves : flat_counts (Then (While (Source (number 1)) (Then (Goto 0) (Then Break Nil))) (Then (Mark 0) Nil)) ≡ Some (2, 2)
leaves = refl

-- no jumps
calm : flat_counts (Then (While (Source (number 1)) (Then Break Nil)) (Then (Mark 0) Nil)) ≡ None
calm = refl

-- two gotos to one label
abbrev two : Forest
two = Then (If (Source (number 1)) (Then (Goto 0) Nil) (Then (Goto 0) Nil)) (Then (Mark 0) Nil)

two_counted : flat_counts two ≡ Some (2, 1)
two_counted = refl

two_made : counts_of (measured_form two) ≡ (2, 1)
two_made = refl

-- `switch (1) { case 1: while (1) { case 2: if (1) continue; if (1) break; } break; }`: a test for each case and the goto
-- behind them, the end of the section, the `continue` and the `break`; a label for each case, behind the switch and for each exit
abbrev scattered : Forest
scattered =
    Then
    (Switch (Selects (number 1))
    (Section (number 1 ∷ []) false
    (Then (While (Source (number 1)) (Then (Arrival (Some (number 2)))
    (Then (If (Source (number 1)) (Then Continue Nil) Nil) (Then (If (Source (number 1)) (Then Break Nil) Nil) Nil)))) Nil)
    true NoSection))
    Nil

scattered_counted : flat_counts scattered ≡ Some (6, 5)
scattered_counted = refl

scattered_made : counts_of (measured_form scattered) ≡ (6, 5)
scattered_made = refl

-- a label that stands twice counts once, and so do the defaults of a switch
twice : flat_counts (Then (Goto 0) (Then (Mark 0) (Then (Mark 0) Nil))) ≡ Some (1, 1)
twice = refl

defaults : flat_counts (Then (Switch (Selects (number 1)) (Section [] true (Then (While (Source (number 1)) (Then (Arrival None) Nil)) Nil) false
    NoSection)) Nil) ≡ Some (1, 1)
defaults = refl
