-- The flat lists of worked bodies, by computation, whatever their expressions are.
use Rattle.std.proofs.Common.{ℕ, ℤ, pos, true, false, List, [], ◌∷◌, Some, None, ◌≡◌, refl}
use Rattle.c_types.specs.declared.kinds.IntKind.{IntKind}
use Rattle.c_types.specs.declared.kinds.IntKind.TheVariants.{Int}
use Rattle.c_types.specs.Numbers.{converted}
use Rattle.c_tree.specs.declared.tree.Slot.{Slot}
use Rattle.c_tree.specs.ExpressionTrees.{ExpressionTree, NodeTree, Typed, Number}
use Rattle.c_tree.specs.TestTrees.{Source, Selects}
use Rattle.c_tree.specs.Trees.{Tree, Forest, Nil, Then, NoSection, Section, Evaluate, Return, If, While, Do, For, Switch, Block, Local, Break, Continue, Goto, Mark, Note}
use Rattle.c_tree.specs.Changed.{one}
use Rattle.flat_laws.specs.Pieces.{assign_number, is_number}
use Rattle.lower_laws.specs.Straight.{jump_if}
use Rattle.lower_laws.specs.Lowered.{lowered_body, gotos}

abbrev int_slot : Slot
int_slot = record { name = []; kind = Int; cells = None; constant = false }

abbrev plain : IntKind → ℤ → ExpressionTree
plain k n = Typed (Some k) (Number n)

abbrev list : List Tree → Forest
list [] = Nil
list (x ∷ xs) = Then x (list xs)

-- `int i = 0; while (i < 3) { putchar('a' + i); i++; } return 0;`
counted_list : (first test put next result : ExpressionTree) → Forest
counted_list first test put next result = list (
    Local 0 None
    ∷ Evaluate (assign_number Int 0 first)
    ∷ Mark 0
    ∷ jump_if (Source test) 1
    ∷ Goto 2
    ∷ Mark 1
    ∷ Evaluate put
    ∷ Evaluate next
    ∷ Goto 0
    ∷ Mark 2
    ∷ Return (Some result)
    ∷ []
    )

counted : (first test put next result : ExpressionTree)
    → lowered_body plain 0 (int_slot ∷ []) (list (
    Local 0 (Some (first ∷ []))
    ∷ While (Source test) (list (Evaluate put ∷ Evaluate next ∷ []))
    ∷ Return (Some result)
    ∷ []
    ))
    ≡ counted_list first test put next result
unfolding counted_list
counted first test put next result = refl

-- it has 3 gotos
counted_gotos : (first test put next result : ExpressionTree) → gotos (counted_list first test put next result) ≡ 3
unfolding counted_list
counted_gotos first test put next result = refl

-- `for (f; t; u) { if (a) continue; if (b) break; x; }`, and the same without a test
steps : (f t u a b x : ExpressionTree)
    → lowered_body plain 0 [] (list (
    For (one (Evaluate f)) (Some t) (Some u) (list (If (Source a) (one Continue) Nil ∷ If (Source b) (one Break) Nil ∷ Evaluate x ∷ []))
    ∷ For Nil None None (list (If (Source a) (one Break) (one (Evaluate x)) ∷ []))
    ∷ []
    ))
    ≡ list (
    Evaluate f
    ∷ Mark 0
    ∷ jump_if (Source t) 1
    ∷ Goto 7
    ∷ Mark 1
    ∷ jump_if (Source a) 2
    ∷ Goto 3
    ∷ Mark 2
    ∷ Goto 6
    ∷ Mark 3
    ∷ jump_if (Source b) 4
    ∷ Goto 5
    ∷ Mark 4
    ∷ Goto 7
    ∷ Mark 5
    ∷ Evaluate x
    ∷ Mark 6
    ∷ Evaluate u
    ∷ Goto 0
    ∷ Mark 7
    ∷ Mark 8
    ∷ jump_if (Source a) 9
    ∷ Evaluate x
    ∷ Goto 10
    ∷ Mark 9
    ∷ Goto 11
    ∷ Mark 10
    ∷ Goto 8
    ∷ Mark 11
    ∷ []
    )
steps f t u a b x = refl

-- `do { if (a) continue; { n: ; goto l; } } while (t); l: if (a) goto l; if (a) { m: goto l; } else ;`: only l is named
repeated : (a t : ExpressionTree) (bs : List ℕ)
    → lowered_body plain 0 [] (list (
    Do (list (If (Source a) (one Continue) Nil ∷ Block (list (Mark 1 ∷ Note bs ∷ Goto 0 ∷ [])) ∷ [])) (Source t)
    ∷ Mark 0
    ∷ If (Source a) (one (Goto 0)) Nil
    ∷ If (Source a) (list (Mark 2 ∷ Goto 0 ∷ [])) Nil
    ∷ []
    ))
    ≡ list (
    Mark 0
    ∷ jump_if (Source a) 1
    ∷ Goto 2
    ∷ Mark 1
    ∷ Goto 3
    ∷ Mark 2
    ∷ Note bs
    ∷ Goto 4
    ∷ Mark 3
    ∷ jump_if (Source t) 0
    ∷ Mark 4
    ∷ jump_if (Source a) 4
    ∷ jump_if (Source a) 4
    ∷ []
    )
repeated a t bs = refl

-- `switch (e) { case 1: x; break; default: y; case 2: while (t) { if (a) break; continue; } }`, a plain one, with a `break` at the end of its first section
switched : (x y a t : ExpressionTree) (node : NodeTree)
    → lowered_body plain 1 (int_slot ∷ []) (one (Switch (Selects (Typed (Some Int) node)) (
    Section (plain Int (pos 1) ∷ []) false (one (Evaluate x)) true
    (Section [] true (one (Evaluate y)) false
    (Section (plain Int (pos 2) ∷ []) false (one (While (Source t) (list (If (Source a) (one Break) Nil ∷ Continue ∷ [])))) false NoSection)))))
    ≡ list (
    Local 1 None
    ∷ Evaluate (assign_number Int 1 (Typed (Some Int) node))
    ∷ jump_if (Source (is_number Int 1 (plain Int (pos 1)))) 0
    ∷ jump_if (Source (is_number Int 1 (plain Int (pos 2)))) 2
    ∷ Goto 1
    ∷ Mark 0
    ∷ Evaluate x
    ∷ Goto 8
    ∷ Mark 1
    ∷ Evaluate y
    ∷ Mark 2
    ∷ Mark 3
    ∷ jump_if (Source t) 4
    ∷ Goto 7
    ∷ Mark 4
    ∷ jump_if (Source a) 5
    ∷ Goto 6
    ∷ Mark 5
    ∷ Goto 7
    ∷ Mark 6
    ∷ Goto 3
    ∷ Goto 3
    ∷ Mark 7
    ∷ Mark 8
    ∷ []
    )
unfolding converted
switched x y a t node = refl

-- nothing for nothing
empty : lowered_body plain 0 [] Nil ≡ Nil
empty = refl
