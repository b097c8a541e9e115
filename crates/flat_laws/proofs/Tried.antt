-- The flat form of worked bodies, by computation, whatever their expressions are.
use Rattle.std.proofs.Common.{ℕ, ℤ, pos, true, false, List, [], ◌∷◌, Some, None, ◌≡◌, refl}
use Rattle.c_types.specs.declared.kinds.IntKind.{IntKind}
use Rattle.c_types.specs.declared.kinds.IntKind.TheVariants.{Int}
use Rattle.c_types.specs.Numbers.{converted}
use Rattle.c_tree.specs.declared.tree.Slot.{Slot}
use Rattle.c_tree.specs.ExpressionTrees.{ExpressionTree, NodeTree, Typed, Number}
use Rattle.c_tree.specs.TestTrees.{Source, Selects}
use Rattle.c_tree.specs.Trees.{Tree, Forest, Nil, Then, NoSection, Section, Evaluate, Return, If, While, Do, For, Switch, Block, Local, Break, Continue, Goto, Mark, Arrival}
use Rattle.c_tree.specs.Changed.{one}
use Rattle.flat_laws.specs.Pieces.{assign_number, is_number, assign_cell, zero_tree}
use Rattle.flat_laws.specs.FlatForm.{flat_body}

abbrev int_slot : Slot
int_slot = record { name = []; kind = Int; cells = None; constant = false }

abbrev array_slot : ℕ → Slot
array_slot n = record { name = []; kind = Int; cells = Some n; constant = false }

abbrev plain : IntKind → ℤ → ExpressionTree
plain k n = Typed (Some k) (Number n)

abbrev list : List Tree → Forest
list [] = Nil
list (x ∷ xs) = Then x (list xs)

-- `for (i = 0; i < 4; i++) { again: if (i == 0) continue; if (i == 3) break; putchar('0' + i); if (getchar() == 'r') goto again; } return i;`
captured : (first test next is0 is3 put reads i : ExpressionTree)
    → flat_body plain (int_slot ∷ []) 1 (list (
    Local 0 None
    ∷ For (one (Evaluate first)) (Some test) (Some next) (list (
    Mark 0
    ∷ If (Source is0) (one Continue) Nil
    ∷ If (Source is3) (one Break) Nil
    ∷ Evaluate put
    ∷ If (Source reads) (one (Goto 0)) Nil
    ∷ []
    ))
    ∷ Return (Some i)
    ∷ []
    ))
    ≡ list (
    Evaluate first
    ∷ While (Source test) (list (
    Mark 0
    ∷ If (Source is0) (one (Goto 1)) Nil
    ∷ If (Source is3) (one (Goto 2)) Nil
    ∷ Evaluate put
    ∷ If (Source reads) (one (Goto 0)) Nil
    ∷ Mark 1
    ∷ Evaluate next
    ∷ []
    ))
    ∷ Mark 2
    ∷ Return (Some i)
    ∷ []
    )
captured first test next is0 is3 put reads i = refl

-- `int k = 0; switch (n % 2) { case 0: do { putchar('a'); k++; case 1: putchar('b'); n = n - 2; } while (n > 0); } return k;`
scattered : (zero_k a k b n more k' : ExpressionTree) (node : NodeTree)
    → flat_body plain (int_slot ∷ int_slot ∷ []) 0 (list (
    Local 1 (Some (zero_k ∷ []))
    ∷ Switch (Selects (Typed (Some Int) node)) (Section (plain Int (pos 0) ∷ []) false (one (Do (list (
    Evaluate a ∷ Evaluate k ∷ Arrival (Some (plain Int (pos 1))) ∷ Evaluate b ∷ Evaluate n ∷ []
    )) (Source more))) false NoSection)
    ∷ Return (Some k')
    ∷ []
    ))
    ≡ list (
    Evaluate (assign_number Int 1 zero_k)
    ∷ Evaluate (assign_number Int 2 (Typed (Some Int) node))
    ∷ If (Source (is_number Int 2 (plain Int (pos 0)))) (one (Goto 0)) Nil
    ∷ If (Source (is_number Int 2 (plain Int (pos 1)))) (one (Goto 1)) Nil
    ∷ Goto 2
    ∷ Mark 0
    ∷ Do (list (Evaluate a ∷ Evaluate k ∷ Mark 1 ∷ Evaluate b ∷ Evaluate n ∷ [])) (Source more)
    ∷ Mark 2
    ∷ Return (Some k')
    ∷ []
    )
unfolding converted
scattered zero_k a k b n more k' node = refl

-- `int a[3] = {e}; { switch (s) { case 0: if (t) break; if (u) goto l; { x; break; } m: ; case 1: goto l; default: y; } } l: while (v) { if (w) break; }`
switched : (e s t u x y v w : ExpressionTree)
    → flat_body plain (array_slot 3 ∷ []) 2 (list (
    Local 0 (Some (e ∷ []))
    ∷ Block (one (Switch (Selects s) (
    Section (plain Int (pos 0) ∷ []) false
    (list (If (Source t) (one Break) Nil ∷ If (Source u) (one (Goto 0)) Nil ∷ Block (list (Evaluate x ∷ Break ∷ [])) ∷ Mark 1 ∷ [])) false
    (Section (plain Int (pos 1) ∷ []) false (one (Goto 0)) false
    (Section [] true (one (Evaluate y)) false NoSection)))))
    ∷ Mark 0
    ∷ While (Source v) (one (If (Source w) (one Break) Nil))
    ∷ []
    ))
    ≡ list (
    Evaluate (assign_cell Int 0 0 e)
    ∷ Evaluate (assign_cell Int 0 1 zero_tree)
    ∷ Evaluate (assign_cell Int 0 2 zero_tree)
    ∷ Switch (Selects s) (
    Section (plain Int (pos 0) ∷ []) false (list (If (Source t) (one (Goto 0)) Nil ∷ If (Source u) (one (Goto 1)) Nil ∷ Evaluate x ∷ [])) true
    (Section (plain Int (pos 1) ∷ []) false (one (Goto 1)) true
    (Section [] true (one (Evaluate y)) false NoSection)))
    ∷ Mark 0
    ∷ Mark 1
    ∷ While (Source v) (one (If (Source w) (one Break) Nil))
    ∷ []
    )
switched e s t u x y v w = refl

-- `while (n) { switch (n) { case 5: n--; switch (n) { case 1: while (n) { n--; case 2: n = 2; } default: goto L; }
-- case 6: if (n) break; continue; case 7: { n = 3; break; } K: ; } n = 0; } L: return n;`
nested : (n less two three nought : ExpressionTree) (node : NodeTree)
    → flat_body plain (int_slot ∷ []) 2 (list (
    While (Source n) (list (
    Switch (Selects n) (
    Section (plain Int (pos 5) ∷ []) false (list (
    Evaluate less
    ∷ Switch (Selects (Typed (Some Int) node)) (
    Section (plain Int (pos 1) ∷ []) false (one (While (Source n) (list (Evaluate less ∷ Arrival (Some (plain Int (pos 2))) ∷ Evaluate two ∷ [])))) false
    (Section [] true (one (Goto 1)) false NoSection))
    ∷ []
    )) false
    (Section (plain Int (pos 6) ∷ []) false (list (If (Source n) (one Break) Nil ∷ Continue ∷ [])) false
    (Section (plain Int (pos 7) ∷ []) false (list (Block (list (Evaluate three ∷ Break ∷ [])) ∷ Mark 0 ∷ [])) false NoSection)))
    ∷ Evaluate nought
    ∷ []
    ))
    ∷ Mark 1
    ∷ Return (Some n)
    ∷ []
    ))
    ≡ list (
    While (Source n) (list (
    Switch (Selects n) (
    Section (plain Int (pos 5) ∷ []) false (list (
    Evaluate less
    ∷ Evaluate (assign_number Int 1 (Typed (Some Int) node))
    ∷ If (Source (is_number Int 1 (plain Int (pos 1)))) (one (Goto 0)) Nil
    ∷ If (Source (is_number Int 1 (plain Int (pos 2)))) (one (Goto 1)) Nil
    ∷ Goto 2
    ∷ Mark 0
    ∷ While (Source n) (list (Evaluate less ∷ Mark 1 ∷ Evaluate two ∷ []))
    ∷ Mark 2
    ∷ Goto 5
    ∷ []
    )) true
    (Section (plain Int (pos 6) ∷ []) false (list (If (Source n) (one (Goto 3)) Nil ∷ Goto 4 ∷ [])) false
    (Section (plain Int (pos 7) ∷ []) false (list (Evaluate three ∷ [])) true NoSection)))
    ∷ Mark 3
    ∷ Evaluate nought
    ∷ Mark 4
    ∷ []
    ))
    ∷ Mark 5
    ∷ Return (Some n)
    ∷ []
    )
unfolding converted
nested n less two three nought node = refl
