-- Derivations of small bodies, by computation: the core of each body is the flat body with which it began.
use Rattle.std.proofs.Common.{◌≡◌, ℕ, ℤ, pos, true, false, [], ◌∷◌, Some, None, refl, arith}
use Rattle.c_types.specs.declared.kinds.IntKind.TheVariants.{Int}
use Rattle.c_types.specs.Numbers.{converted}
use Rattle.c_tree.specs.ExpressionTrees.{ExpressionTree, Typed, Number}
use Rattle.c_tree.specs.TestTrees.{Source, On, Off, Selects, Pick}
use Rattle.c_tree.specs.Trees.{Tree, Forest, Nil, Then, Sections, NoSection, Section, Evaluate, If, Do, Switch, Break, Goto, Mark, Arm, Leap, Land}
use Rattle.core_laws.specs.Core.{body_core}
use Rattle.core_laws.specs.Better.{Better}

abbrev number : ℕ → ExpressionTree
number n = Typed (Some Int) (Number (pos n))

abbrev statement : Tree
statement = Evaluate (number 7)

abbrev one_of : Tree → Forest
one_of x = Then x Nil

-- ---- if (5) goto 1; 7; 1: ;

abbrev forward : Forest
forward = Then (If (Source (number 5)) (one_of (Goto 1)) Nil) (Then statement (one_of (Mark 1)))

begun : body_core (Then (If (Source (number 5)) (Then (Arm 1 None) (one_of (Leap 1))) Nil) (Then statement (one_of (Land 1)))) ≡ forward
begun = refl

left : body_core (Then (If (Source (number 5)) (one_of (Arm 1 None)) Nil) (Then (Leap 1) (Then statement (one_of (Land 1))))) ≡ forward
left = refl

joined : body_core (Then (If (Source (number 5)) (one_of (Arm 1 None)) Nil) (Then (If (Off 1) (one_of statement) Nil) (one_of (Land 1)))) ≡ forward
joined = refl

-- ---- 1: 7; if (5) goto 1;

abbrev backward : Forest
backward = Then (Mark 1) (Then statement (one_of (If (Source (number 5)) (one_of (Goto 1)) Nil)))

joined_back : body_core (one_of (Do (Then (Land 1) (Then statement (one_of (If (Source (number 5)) (one_of (Arm 1 None)) Nil)))) (On 1))) ≡ backward
joined_back = refl

-- ---- goto 1; 7; switch (5) { case 0: 7; break; default: 1: 7; }

abbrev selected : Forest → Sections
selected a = Section (number 0 ∷ []) false (one_of statement) true (Section [] true a false NoSection)

abbrev into : Tree → Forest
into x = Then x (Then statement (one_of (Switch (Selects (number 5)) (selected (Then (Mark 1) (one_of statement))))))

abbrev entered : ℤ → Forest
entered n = Then (Arm 1 None) (Then (If (Off 1) (one_of statement) Nil)
    (one_of (Switch (Pick 1 n (Selects (number 5))) (selected (Then (Leap 1) (Then (Land 1) (one_of statement)))))))

chosen : body_core (entered (pos 1)) ≡ into (Goto 1)
unfolding converted
chosen = refl

-- by 0 the guard doesn't get to its Land, and the Arm stays
not_chosen : body_core (entered (pos 0)) ≡ into (Arm 1 None)
unfolding converted
not_chosen = refl

-- ---- a `break` that a list binds outward would come to be bound to the new `do`
not_joined : Better (Then (Land 1) (Then Break (one_of (Leap 1)))) (one_of (Do (Then (Land 1) (one_of Break)) (On 1))) → ⊥
not_joined h = let e = h.stops in omega arith
