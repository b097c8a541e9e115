-- What the printed marks and the printed words of types are.
use Rattle.std.proofs.Common.{◌≡◌, ℕ, Bool, true, false, List, Some, None, refl}
use Rattle.c_types.specs.declared.kinds.IntKind.{IntKind}
use Rattle.c_types.specs.declared.kinds.IntKind.TheVariants as K
use Rattle.c_types.specs.declared.kinds.ArithOp.{ArithOp}
use Rattle.c_types.specs.declared.kinds.ArithOp.TheVariants.{Add, Sub, Mul, Div, Rem, Shl, Shr, And, Or, Xor}
use Rattle.c_tree.specs.declared.tree.UnaryOp.{UnaryOp}
use Rattle.c_tree.specs.declared.tree.UnaryOp.TheVariants.{Plus, Minus, Not, Flip}
use Rattle.c_tree.specs.declared.tree.BinaryOp.{BinaryOp}
use Rattle.c_tree.specs.declared.tree.BinaryOp.TheVariants.{Arith, Less, Greater, AtMost, AtLeast, Equal, Unequal, AndThen, OrElse}
use Rattle.c_tree.specs.TextExpressions.{unary_spelling, binary_spelling, update_spelling, count_spelling}
use Rattle.c_lexer.specs.Marks.{mark_of}
use Rattle.c_grammar.specs.Words.{kind_of}
use Rattle.c_kinds.specs.Marks.{step_of, counts_up, unary_op, binary_op, update_op, unary_kind, binary_kind}
use Rattle.c_resolved_defs.specs.Kinds as resolved
use Rattle.print_laws.specs.ExpressionDerivations.{type_of}
use Rattle.reread_parts_laws.specs.WrittenExpressions.{type_words}
use Rattle.reread_parts_laws.proofs.ExpressionWords.{marked, TypeIsSpelled}

pub unary_steps : (op : UnaryOp) → step_of (mark_of (marked (unary_spelling op))) ≡ None
unary_steps Plus = refl
unary_steps Minus = refl
unary_steps Not = refl
unary_steps Flip = refl

pub unary_is : (op : UnaryOp) → unary_op (mark_of (marked (unary_spelling op))) ≡ op
unary_is Plus = refl
unary_is Minus = refl
unary_is Not = refl
unary_is Flip = refl

pub binary_is : (op : BinaryOp) → binary_op (mark_of (marked (binary_spelling op))) ≡ op
binary_is (Arith Add) = refl
binary_is (Arith Sub) = refl
binary_is (Arith Mul) = refl
binary_is (Arith Div) = refl
binary_is (Arith Rem) = refl
binary_is (Arith Shl) = refl
binary_is (Arith Shr) = refl
binary_is (Arith And) = refl
binary_is (Arith Or) = refl
binary_is (Arith Xor) = refl
binary_is Less = refl
binary_is Greater = refl
binary_is AtMost = refl
binary_is AtLeast = refl
binary_is Equal = refl
binary_is Unequal = refl
binary_is AndThen = refl
binary_is OrElse = refl

pub update_is : (op : ArithOp) → update_op (mark_of (marked (update_spelling op))) ≡ Some op
update_is Add = refl
update_is Sub = refl
update_is Mul = refl
update_is Div = refl
update_is Rem = refl
update_is Shl = refl
update_is Shr = refl
update_is And = refl
update_is Or = refl
update_is Xor = refl

pub step_is : (up : Bool) → step_of (mark_of (marked (count_spelling up))) ≡ Some up
step_is true = refl
step_is false = refl

pub counts_is : (up : Bool) → counts_up (mark_of (marked (count_spelling up))) ≡ up
counts_is true = refl
counts_is false = refl

-- ---- kinds by marks

pub unary_same : (op : UnaryOp) (k : IntKind) → unary_kind op k ≡ resolved.unary_kind op k
unary_same Plus k = refl
unary_same Minus k = refl
unary_same Not k = refl
unary_same Flip k = refl

pub binary_same : (op : BinaryOp) (j k : IntKind) → binary_kind op j k ≡ resolved.binary_kind op j k
binary_same (Arith op) j k = refl
binary_same Less j k = refl
binary_same Greater j k = refl
binary_same AtMost j k = refl
binary_same AtLeast j k = refl
binary_same Equal j k = refl
binary_same Unequal j k = refl
binary_same AndThen j k = refl
binary_same OrElse j k = refl

-- ---- the words of types

pub kind_is : (word : ℕ → List ℕ) (kind : IntKind) (at : ℕ) → TypeIsSpelled word at kind → kind_of word (type_words at (type_of kind)) ≡ kind
kind_is word K.Char at s = rw s refl
kind_is word K.UChar at s = rw (s.0, s.1) refl
kind_is word K.Int at s = rw s refl
kind_is word K.UInt at s = rw s refl
kind_is word K.Long at s = rw s refl
kind_is word K.ULong at s = rw (s.0, s.1) refl
