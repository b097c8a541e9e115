-- Small programs, each as a tree, for the examples of both meanings.
use Rattle.std.specs.Prelude.{pos, true, false, [], ◌∷◌, replicate, codes, Some, None}
use Rattle.c_types.specs.declared.kinds.ArithOp.TheVariants.{Add, Sub, Mul, Div, Shr}
use Rattle.c_types.specs.declared.kinds.IntKind.TheVariants.{Char, UChar, Int, UInt}
use Rattle.c_tree.specs.declared.tree.UnaryOp.TheVariants.{Minus}
use Rattle.c_tree.specs.declared.tree.BinaryOp.TheVariants.{Arith, Less, Equal, Unequal, AndThen, OrElse}
use Rattle.c_tree.specs.declared.tree.Home.TheVariants as H
use Rattle.c_tree.specs.ExpressionTrees.{Typed, Var, Cell, Character, Text, Array, Read, Unary, Cast, Binary, Conditional, Assign, Update, Count, Comma, Call, NoArgument, arguments}
use Rattle.c_tree.specs.TestTrees.{Source, On, Off, AndOff, OrOn, Selects, Pick}
use Rattle.c_tree.specs.Trees.{Nil, Evaluate, Return, If, While, Do, For, Switch, Block, Local, Break, Continue, Goto, Mark, Arm, Leap, Land, Arrival, forest, sections}
use Rattle.c_tree.specs.Changed.{one}
use Rattle.jump_meaning.specs.Code.{Code}
use Rattle.jump_meaning.proofs.ExampleWords.{int, void, number, read, writes, section, slot, array, defines, declares, number_variable, program, with_global}

-- `int main(void) { }`
abbrev pub empty : Code
empty =
    program (defines (codes "main") (Some Int) 0 [] Nil ∷ [])

-- `int main(void) { L: goto L; }`
abbrev pub forever : Code
forever =
    program (defines (codes "main") (Some Int) 0 [] (forest (Mark 0 ∷ Goto 0 ∷ [])) ∷ [])

-- the same without a jump: `int main(void) { int goto_L = 0; do { goto_L = 0; goto_L = 1; } while (goto_L); }`
abbrev pub repeats : Code
repeats =
    program
    (defines (codes "main") (Some Int) 0 (slot Int ∷ [])
    (forest
    (Local 0 (Some (number 0 ∷ []))
    ∷ Do
    (forest
    (Evaluate (int (Assign (Var (H.Slot 0)) (number 0)))
    ∷ Evaluate (int (Assign (Var (H.Slot 0)) (number 1)))
    ∷ []))
    (Source (read 0))
    ∷ []))
    ∷ [])

-- `int main(void) { goto in; putchar('x'); { if (0) { in: putchar('i'); } else putchar('e'); } return 3; }`
abbrev pub into_block : Code
into_block =
    program
    (defines (codes "main") (Some Int) 0 []
    (forest
    (Goto 0
    ∷ writes 120
    ∷ Block (one (If (Source (number 0)) (forest (Mark 0 ∷ writes 105 ∷ [])) (one (writes 101))))
    ∷ Return (Some (number 3))
    ∷ []))
    ∷ [])

-- `int main(void) { int n = 0; goto mid; while (n < 2) { putchar('a'); mid: n++; } return n; }`
abbrev pub into_loop : Code
into_loop =
    program
    (defines (codes "main") (Some Int) 0 (slot Int ∷ [])
    (forest
    (Local 0 (Some (number 0 ∷ []))
    ∷ Goto 0
    ∷ While (Source (int (Binary Less (read 0) (number 2))))
    (forest (writes 97 ∷ Mark 0 ∷ Evaluate (int (Count (Var (H.Slot 0)) true true)) ∷ []))
    ∷ Return (Some (read 0))
    ∷ []))
    ∷ [])

-- `int main(void) { switch (2) { case 1: putchar('1'); case 2: putchar('2'); case 3: putchar('3'); break; default: putchar('d'); } return 0; }`
abbrev pub falls : Code
falls =
    program
    (defines (codes "main") (Some Int) 0 []
    (forest
    (Switch (Selects (number 2))
    (sections
    (section (number 1 ∷ []) false (one (writes 49)) false
    ∷ section (number 2 ∷ []) false (one (writes 50)) false
    ∷ section (number 3 ∷ []) false (one (writes 51)) true
    ∷ section [] true (one (writes 100)) false
    ∷ []))
    ∷ Return (Some (number 0))
    ∷ []))
    ∷ [])

-- `int f(int x) { int n = 0; switch (x) { case 1: while (n < 2) { putchar('a'); case 4: n++; } break; default: n = 9; } return n; }`
abbrev pub nested_case : Code
nested_case =
    program
    (defines (codes "f") (Some Int) 1 (slot Int ∷ slot Int ∷ [])
    (forest
    (Local 1 (Some (number 0 ∷ []))
    ∷ Switch (Selects (read 0))
    (sections
    (section (number 1 ∷ []) false
    (one
    (While (Source (int (Binary Less (read 1) (number 2))))
    (forest
    (writes 97
    ∷ Arrival (Some (number 4))
    ∷ Evaluate (int (Count (Var (H.Slot 1)) true true))
    ∷ []))))
    true
    ∷ section [] true (one (Evaluate (int (Assign (Var (H.Slot 1)) (number 9))))) false
    ∷ []))
    ∷ Return (Some (read 1))
    ∷ []))
    ∷ [])

-- `int main(void) { return (0 && 1 / 0) + (2 || 1 / 0) + (1 && 5); }`
abbrev pub circuits : Code
circuits =
    program
    (defines (codes "main") (Some Int) 0 []
    (one
    (Return
    (Some
    (int
    (Binary (Arith Add)
    (int
    (Binary (Arith Add)
    (int (Binary AndThen (number 0) (int (Binary (Arith Div) (number 1) (number 0)))))
    (int (Binary OrElse (number 2) (int (Binary (Arith Div) (number 1) (number 0)))))))
    (int (Binary AndThen (number 1) (number 5))))))))
    ∷ [])

-- `int main(void) { int a[2]; a[2] += putchar('x'); return 0; }`
abbrev pub bad_index : Code
bad_index =
    program
    (defines (codes "main") (Some Int) 0 (array Int 2 ∷ [])
    (forest
    (Local 0 None
    ∷ Evaluate
    (int
    (Update Add (Cell (H.Slot 0) (number 2))
    (int (Call (codes "putchar") (arguments (int (Character 120) ∷ []))))))
    ∷ Return (Some (number 0))
    ∷ []))
    ∷ [])

-- `int main(void) { int a[2] = {7}; a[1] += 1 / a[1]; return 0; }`
abbrev pub late_zero : Code
late_zero =
    program
    (defines (codes "main") (Some Int) 0 (array Int 2 ∷ [])
    (forest
    (Local 0 (Some (number 7 ∷ []))
    ∷ Evaluate
    (int
    (Update Add (Cell (H.Slot 0) (number 1))
    (int (Binary (Arith Div) (number 1) (int (Read (Cell (H.Slot 0) (number 1))))))))
    ∷ Return (Some (number 0))
    ∷ []))
    ∷ [])

-- `int main(void) { int x = 5; x -= 2; return x * x; }`
abbrev pub updates : Code
updates =
    program
    (defines (codes "main") (Some Int) 0 (slot Int ∷ [])
    (forest
    (Local 0 (Some (number 5 ∷ []))
    ∷ Evaluate (int (Update Sub (Var (H.Slot 0)) (number 2)))
    ∷ Return (Some (int (Binary (Arith Mul) (read 0) (read 0))))
    ∷ []))
    ∷ [])

-- `int f(void) { } int main(void) { f(); (void)f(); putchar('d'); return f(); }`
abbrev pub missing : Code
missing =
    program
    (defines (codes "f") (Some Int) 0 [] Nil
    ∷ defines (codes "main") (Some Int) 0 []
    (forest
    (Evaluate (int (Call (codes "f") NoArgument))
    ∷ Evaluate (void (Cast (int (Call (codes "f") NoArgument))))
    ∷ writes 100
    ∷ Return (Some (int (Call (codes "f") NoArgument)))
    ∷ []))
    ∷ [])

-- `int main(void) { return printf("%d:%x %c%%", -5, 255, 65); }`
abbrev pub prints : Code
prints =
    program
    (defines (codes "main") (Some Int) 0 []
    (one
    (Return
    (Some
    (int
    (Call (codes "printf")
    (arguments
    (void (Text (codes "%d:%x %c%%")) ∷ int (Unary Minus (number 5)) ∷ number 255 ∷ number 65 ∷ [])))))))
    ∷ [])

-- `int p(int x, char c); int main(void) { int n = p(3, 300); return n + p(n, 0); }`
abbrev pub asks : Code
asks =
    program
    (declares (codes "p") (Some Int) (slot Int ∷ slot Char ∷ [])
    ∷ defines (codes "main") (Some Int) 0 (slot Int ∷ [])
    (forest
    (Local 0 (Some (int (Call (codes "p") (arguments (number 3 ∷ number 300 ∷ []))) ∷ []))
    ∷ Return (Some (int (Binary (Arith Add) (read 0) (int (Call (codes "p") (arguments (read 0 ∷ number 0 ∷ [])))))))
    ∷ []))
    ∷ [])

-- `int p(void); int main(void) { if (p()) return 1; return 2; }`
abbrev pub judges : Code
judges =
    program
    (declares (codes "p") (Some Int) []
    ∷ defines (codes "main") (Some Int) 0 []
    (forest
    (If (Source (int (Call (codes "p") NoArgument))) (one (Return (Some (number 1)))) Nil
    ∷ Return (Some (number 2))
    ∷ []))
    ∷ [])

-- `void f(int n) { exit(n); } int main(void) { while (1) { putchar('q'); f(7); } }`
abbrev pub quits : Code
quits =
    program
    (defines (codes "f") None 1 (slot Int ∷ []) (one (Evaluate (void (Call (codes "exit") (arguments (read 0 ∷ []))))))
    ∷ defines (codes "main") (Some Int) 0 []
    (one (While (Source (number 1)) (forest (writes 113 ∷ Evaluate (void (Call (codes "f") (arguments (number 7 ∷ [])))) ∷ []))))
    ∷ [])

-- `int main(void) { int i = 2147483647; putchar('a'); i = i + 1; return 0; }`
abbrev pub overflows : Code
overflows =
    program
    (defines (codes "main") (Some Int) 0 (slot Int ∷ [])
    (forest
    (Local 0 (Some (number 2147483647 ∷ []))
    ∷ writes 97
    ∷ Evaluate (int (Assign (Var (H.Slot 0)) (int (Binary (Arith Add) (read 0) (number 1)))))
    ∷ Return (Some (number 0))
    ∷ []))
    ∷ [])

-- `void set(char b[], int i) { b[i] = 300; } int main(void) { char a[2]; set(a, 1); return a[1]; }`
abbrev pub lends : Code
lends =
    program
    (defines (codes "set") None 2 (array Char 0 ∷ slot Int ∷ [])
    (one (Evaluate (Typed (Some Char) (Assign (Cell (H.Slot 0) (read 1)) (number 300)))))
    ∷ defines (codes "main") (Some Int) 0 (array Char 2 ∷ [])
    (forest
    (Local 0 None
    ∷ Evaluate (void (Call (codes "set") (arguments (Typed (Some Char) (Array (H.Slot 0)) ∷ number 1 ∷ []))))
    ∷ Return (Some (Typed (Some Char) (Read (Cell (H.Slot 0) (number 1)))))
    ∷ []))
    ∷ [])

-- `unsigned u = 4294967295; int main(void) { int i; for (i = 0; i < 3; i++) { if (i == 1) continue; u++; } return u * 10 + i--; }`
abbrev pub counts : Code
counts =
    with_global (codes "u") (number_variable UInt (pos 4294967295))
    (program
    (defines (codes "main") (Some Int) 0 (slot Int ∷ [])
    (forest
    (Local 0 None
    ∷ For (one (Evaluate (int (Assign (Var (H.Slot 0)) (number 0))))) (Some (int (Binary Less (read 0) (number 3))))
    (Some (int (Count (Var (H.Slot 0)) true true)))
    (forest
    (If (Source (int (Binary Equal (read 0) (number 1)))) (one Continue) Nil
    ∷ Evaluate (Typed (Some UInt) (Count (Var (H.Global (codes "u"))) true true))
    ∷ []))
    ∷ Return
    (Some
    (Typed (Some UInt)
    (Binary (Arith Add)
    (Typed (Some UInt)
    (Binary (Arith Mul) (Typed (Some UInt) (Read (Var (H.Global (codes "u"))))) (number 10)))
    (int (Count (Var (H.Slot 0)) false true)))))
    ∷ []))
    ∷ []))

-- `int main(void) { int c; do { c = getchar(); if (c == 'q') break; putchar(c); } while (c != -1); return c; }`
abbrev pub echoes : Code
echoes =
    program
    (defines (codes "main") (Some Int) 0 (slot Int ∷ [])
    (forest
    (Local 0 None
    ∷ Do
    (forest
    (Evaluate (int (Assign (Var (H.Slot 0)) (int (Call (codes "getchar") NoArgument))))
    ∷ If (Source (int (Binary Equal (read 0) (int (Character 113))))) (one Break) Nil
    ∷ Evaluate (int (Call (codes "putchar") (arguments (read 0 ∷ []))))
    ∷ []))
    (Source (int (Binary Unequal (read 0) (int (Unary Minus (number 1))))))
    ∷ Return (Some (read 0))
    ∷ []))
    ∷ [])

-- `int main(void) { int n = (putchar('a'), 2); if (n >> 1) abort(); return n; }`
abbrev pub aborts : Code
aborts =
    program
    (defines (codes "main") (Some Int) 0 (slot Int ∷ [])
    (forest
    (Local 0 (Some (int (Comma (int (Call (codes "putchar") (arguments (int (Character 97) ∷ [])))) (number 2)) ∷ []))
    ∷ If (Source (int (Binary (Arith Shr) (read 0) (number 1)))) (one (Evaluate (void (Call (codes "abort") NoArgument)))) Nil
    ∷ Return (Some (read 0))
    ∷ []))
    ∷ [])

-- `int f(unsigned char n) { return n ? n + f(n - 1) : 0; } int main(void) { return f(259); }`
abbrev pub recursive : Code
recursive =
    program
    (defines (codes "f") (Some Int) 1 (slot UChar ∷ [])
    (one
    (Return
    (Some
    (int
    (Conditional (Typed (Some UChar) (Read (Var (H.Slot 0))))
    (int
    (Binary (Arith Add) (Typed (Some UChar) (Read (Var (H.Slot 0))))
    (int
    (Call (codes "f")
    (arguments
    (int
    (Binary (Arith Sub) (Typed (Some UChar) (Read (Var (H.Slot 0)))) (number 1))
    ∷ []))))))
    (number 0))))))
    ∷ defines (codes "main") (Some Int) 0 [] (one (Return (Some (int (Call (codes "f") (arguments (number 259 ∷ [])))))))
    ∷ [])

-- `int main(void) { return main(); }`
abbrev pub too_deep : Code
too_deep =
    program (defines (codes "main") (Some Int) 0 [] (one (Return (Some (int (Call (codes "main") NoArgument))))) ∷ [])

-- `int f(int x) { if (x) goto end; putchar('a'); end: return x; }`, converted
abbrev pub armed : Code
armed =
    program
    (defines (codes "f") (Some Int) 1 (slot Int ∷ [])
    (forest (Arm 0 (Some (read 0)) ∷ Leap 0 ∷ writes 97 ∷ Land 0 ∷ Return (Some (read 0)) ∷ []))
    ∷ [])

-- `int main(void) { int i = 0; while (i < 3) { if (i == 1) goto end; i++; } end: return i; }`, converted and after all moves
abbrev pub left_loop : Code
left_loop =
    program
    (defines (codes "main") (Some Int) 0 (slot Int ∷ [])
    (forest
    (Evaluate (int (Assign (Var (H.Slot 0)) (number 0)))
    ∷ While (AndOff 0 (Source (int (Binary Less (read 0) (number 3)))))
    (forest
    (Arm 0 (Some (int (Binary Equal (read 0) (number 1))))
    ∷ If (Off 0) (one (Evaluate (int (Count (Var (H.Slot 0)) true true)))) Nil
    ∷ []))
    ∷ Land 0
    ∷ Return (Some (read 0))
    ∷ []))
    ∷ [])

-- `int main(void) { int i = 0; while (i < 1) { mid: putchar('a'); i++; } putchar('b'); if (i < 2) goto mid; return 0; }`, converted and after all moves
abbrev pub lifted : Code
lifted =
    program
    (defines (codes "main") (Some Int) 0 (slot Int ∷ [])
    (forest
    (Evaluate (int (Assign (Var (H.Slot 0)) (number 0)))
    ∷ Do
    (forest
    (While (OrOn 0 (Source (int (Binary Less (read 0) (number 1)))))
    (forest (Land 0 ∷ writes 97 ∷ Evaluate (int (Count (Var (H.Slot 0)) true true)) ∷ []))
    ∷ writes 98
    ∷ Arm 0 (Some (int (Binary Less (read 0) (number 2))))
    ∷ []))
    (On 0)
    ∷ Return (Some (number 0))
    ∷ []))
    ∷ [])

-- `int f(int x) { if (x == 5) goto mid; switch (x) { case 1: putchar('b'); break; default: putchar('x'); mid:
-- putchar('d'); } return 0; }`, converted and after all moves
abbrev pub picked : Code
picked =
    program
    (defines (codes "f") (Some Int) 1 (slot Int ∷ [])
    (forest
    (Arm 0 (Some (int (Binary Equal (read 0) (number 5))))
    ∷ Switch (Pick 0 (pos 0) (Selects (read 0)))
    (sections
    (section (number 1 ∷ []) false (one (writes 98)) true
    ∷ section [] true (forest (If (Off 0) (one (writes 120)) Nil ∷ Land 0 ∷ writes 100 ∷ [])) false
    ∷ []))
    ∷ Return (Some (number 0))
    ∷ []))
    ∷ [])

-- `int main(void) { int a[65536], b[65536], ..; }` with 65 arrays: too many cells at the start
abbrev pub too_large : Code
too_large = program (defines (codes "main") (Some Int) 0 (replicate 65 (array Int 65536)) Nil ∷ [])
