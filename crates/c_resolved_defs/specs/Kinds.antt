-- Kinds agree: each expression has the kind that C gives it, values stand where values are used, and calls have the
-- right arguments (ISO/IEC 9899:2011, 6.5, 6.8).
use Rattle.std.specs.Prelude.{ℕ, ℤ, ◌≡◌, ◌⊎◌, Bool, true, false, ◌==◌, ◌||◌, List, [], ◌∷◌, Option, Some, None, option_map, option_and_then, IsSome, IsSomeAnd, IfSome}
use Rattle.c_types.specs.declared.kinds.IntKind.{IntKind}
use Rattle.c_types.specs.declared.kinds.IntKind.TheVariants.{Int, Long, ULong}
use Rattle.c_types.specs.Numbers.{promoted, usual_kind, IsInRange}
use Rattle.c_tree.specs.declared.tree.Slot.{Slot}
use Rattle.c_tree.specs.declared.tree.UnaryOp.{UnaryOp}
use Rattle.c_tree.specs.declared.tree.UnaryOp.TheVariants.{Not}
use Rattle.c_tree.specs.declared.tree.BinaryOp.{BinaryOp}
use Rattle.c_tree.specs.declared.tree.BinaryOp.TheVariants.{Arith}
use Rattle.c_tree.specs.Operators.{arith_kind}
use Rattle.c_tree.specs.ExpressionTrees.{ExpressionTree, PlaceTree, Arguments, Typed, Var, Cell, Number, Character, EnumName, Text, Array, Read, Unary, Cast, Binary, Conditional, Assign, Update, Count, Comma, Call, NoArgument, Argument}
use Rattle.c_tree.specs.Trees.{Tree, Evaluate, Return, If, While, Do, For, Switch, Local}
use Rattle.c_tree.specs.Cases.{selector_source}
use Rattle.c_tree.specs.Constants.{kind_of, HasKind}
use Rattle.c_resolved_defs.specs.Within.{Each, Within, TestExpression, ItemExpressions}
use Rattle.c_resolved_defs.specs.Names.{Names, Callee, Plain, Printf, Unknown, variable, home_of, callee}

-- ---- values

-- neither a text nor the name of an array
abbrev pub IsOperand : ExpressionTree → Type 0
IsOperand (Typed kind (Text bytes)) = ⊥
IsOperand (Typed kind (Array h)) = ⊥
IsOperand _ = Unit {0}

-- an expression that has a value
pub record HasValue (x : ExpressionTree) : Type 0 where
  pub operand : IsOperand x
  pub kind : HasKind (kind_of x)

-- ---- kinds by the kinds of operands

abbrev pub unary_kind : UnaryOp → IntKind → IntKind
unary_kind Not k = Int
unary_kind op k = promoted k

abbrev pub binary_kind : BinaryOp → IntKind → IntKind → IntKind
binary_kind (Arith op) j k = arith_kind op j k
binary_kind op j k = Int

-- a kind by two kinds
abbrev pub of_both : (IntKind → IntKind → IntKind) → Option IntKind → Option IntKind → Option IntKind
of_both f j k = option_and_then (λ a. option_map (f a) k) j

-- ---- variables

abbrev pub IsNumber : Slot → Type 0
IsNumber s = s.cells ≡ None

abbrev pub IsArray : Slot → Type 0
IsArray s = IsSome s.cells

-- a place of this kind: a number, or a cell of an array
abbrev pub PlaceAgrees : Names → Option IntKind → PlaceTree → Type 0
PlaceAgrees n kind (Var h) = IsSomeAnd (variable n h) (λ s. IsNumber s × (kind ≡ Some s.kind))
PlaceAgrees n kind (Cell h a) = IsSomeAnd (variable n h) (λ s. IsArray s × (kind ≡ Some s.kind)) × HasValue a

-- ---- calls (6.5.2.2, 7.21.6.1)

-- an array is not const, or the cells are const for the function as well
abbrev pub KeepsConst : Slot → Slot → Type 0
KeepsConst parameter given = (parameter.constant ≡ true) ⊎ (given.constant ≡ false)

-- an array of the parameter's kind, for a function with a body in the file
abbrev pub IsArrayFor : Names → Bool → Slot → ExpressionTree → Type 0
IsArrayFor n defined s (Typed kind (Array h)) = (defined ≡ true) × IsSomeAnd (variable n h) (λ v. (v.kind ≡ s.kind) × KeepsConst s v)
IsArrayFor n defined s _ = ⊥

abbrev pub FitsCells : Option ℕ → Type 0 → Type 0 → Type 0
FitsCells None number array = number
FitsCells (Some cells) number array = array

-- an array for an array, a value for a number
abbrev pub ArgumentFits : Names → Bool → Slot → ExpressionTree → Type 0
ArgumentFits n defined s x = FitsCells s.cells (HasValue x) (IsArrayFor n defined s x)

abbrev pub ArgumentsFit : Names → Bool → List Slot → Arguments → Type 0
ArgumentsFit n defined [] NoArgument = Unit {0}
ArgumentsFit n defined (s ∷ ss) (Argument x xs) = ArgumentFits n defined s x × ArgumentsFit n defined ss xs
ArgumentsFit n defined _ _ = ⊥

abbrev pub is_wide : Option IntKind → Bool
is_wide (Some Long) = true
is_wide (Some ULong) = true
is_wide _ = false

abbrev mutual
  -- whether each value that a format asks for is a wide one; none where it has another conversion
  pub wanted : List ℕ → Option (List Bool)
  wanted [] = Some []
  wanted (b ∷ bs) = elim (b == 37) [ true ↦ after_percent bs | false ↦ wanted bs ]

  pub after_percent : List ℕ → Option (List Bool)
  after_percent [] = None
  after_percent (b ∷ bs) =
      elim (b == 37) [
        | true ↦ wanted bs
        | false ↦ elim (b == 108) [
          | true ↦ after_l bs
          | false ↦ elim (b == 100 || b == 117 || b == 120 || b == 99)
              [ true ↦ option_map (λ ws. false ∷ ws) (wanted bs) | false ↦ None ]
        ]
      ]

  pub after_l : List ℕ → Option (List Bool)
  after_l [] = None
  after_l (b ∷ bs) = elim (b == 100 || b == 117) [ true ↦ option_map (λ ws. true ∷ ws) (wanted bs) | false ↦ None ]

-- values of these sizes
abbrev pub ValuesFit : List Bool → Arguments → Type 0
ValuesFit [] NoArgument = Unit {0}
ValuesFit (w ∷ ws) (Argument x xs) = HasValue x × (is_wide (kind_of x) ≡ w) × ValuesFit ws xs
ValuesFit _ _ = ⊥

-- a format, and the values that it asks for
abbrev pub FormatFits : Arguments → Type 0
FormatFits (Argument (Typed kind (Text bytes)) xs) = IsSomeAnd (wanted bytes) (λ ws. ValuesFit ws xs)
FormatFits _ = ⊥

-- a call of this kind
abbrev pub CallFits : Names → Option IntKind → Callee → Arguments → Type 0
CallFits n kind (Plain s) xs = (kind ≡ s.result) × ArgumentsFit n s.defined s.parameters xs
CallFits n kind Printf xs = (kind ≡ Some Int) × FormatFits xs
CallFits n kind Unknown xs = ⊥

-- ---- expressions

-- a number of the kind
abbrev pub IsOfKind : Option IntKind → ℤ → Type 0
IsOfKind None z = ⊥
IsOfKind (Some k) z = IsInRange k z

-- a cast to a number type is one of a value
abbrev pub CastAgrees : Option IntKind → ExpressionTree → Type 0
CastAgrees None a = IsOperand a
CastAgrees (Some k) a = HasValue a

-- an expression has its kind by its operands, whose values are there where they are used
abbrev pub KindAgrees : Names → ExpressionTree → Type 0
KindAgrees n (Typed kind (Number z)) = IsOfKind kind z
KindAgrees n (Typed kind (Character b)) = kind ≡ Some Int
KindAgrees n (Typed kind (EnumName m z)) = (kind ≡ Some Int) × IsInRange Int z
KindAgrees n (Typed kind (Text bytes)) = kind ≡ None
KindAgrees n (Typed kind (Array h)) = IsSomeAnd (variable n h) (λ s. IsArray s × (kind ≡ Some s.kind))
KindAgrees n (Typed kind (Read at)) = PlaceAgrees n kind at
KindAgrees n (Typed kind (Unary op a)) = HasValue a × (kind ≡ option_map (unary_kind op) (kind_of a))
KindAgrees n (Typed kind (Cast a)) = CastAgrees kind a
KindAgrees n (Typed kind (Binary op a b)) = HasValue a × HasValue b × (kind ≡ of_both (binary_kind op) (kind_of a) (kind_of b))
KindAgrees n (Typed kind (Conditional a b c)) = HasValue a × HasValue b × HasValue c × (kind ≡ of_both usual_kind (kind_of b) (kind_of c))
KindAgrees n (Typed kind (Assign at a)) = PlaceAgrees n kind at × HasValue a
KindAgrees n (Typed kind (Update op at a)) = PlaceAgrees n kind at × HasValue a
KindAgrees n (Typed kind (Count at up after)) = PlaceAgrees n kind at
KindAgrees n (Typed kind (Comma a b)) = IsOperand a × IsOperand b × (kind ≡ kind_of b)
KindAgrees n (Typed kind (Call m xs)) = CallFits n kind (callee n m) xs

-- kinds agree in an expression and in all that stands in it
abbrev pub KindsAgree : Names → ExpressionTree → Type 0
KindsAgree n x = Within (KindAgrees n) x

-- ---- items

-- an item uses values where it has values
abbrev pub UsesValues : Tree → Type 0
UsesValues (Evaluate e) = IsOperand e
UsesValues (Return e) = IfSome e HasValue
UsesValues (If t a b) = TestExpression HasValue t
UsesValues (While t a) = TestExpression HasValue t
UsesValues (Do a t) = TestExpression HasValue t
UsesValues (For first t u a) = IfSome t HasValue × IfSome u IsOperand
UsesValues (Switch s c) = HasValue (selector_source s)
UsesValues (Local k given) = IfSome given (Each HasValue)
UsesValues _ = Unit {0}

pub record ItemAgrees (n : Names) (x : Tree) : Type 0 where
  pub kinds : ItemExpressions (KindsAgree n) x
  pub values : UsesValues x

-- a value for a function that gives one, and none for another
abbrev pub ReturnFits : Option IntKind → Tree → Type 0
ReturnFits None (Return (Some e)) = ⊥
ReturnFits (Some k) (Return None) = ⊥
ReturnFits result _ = Unit {0}

-- ---- const (6.5.16)

abbrev pub IsWritable : Names → PlaceTree → Type 0
IsWritable n at = IsSomeAnd (variable n (home_of at)) (λ s. s.constant ≡ false)

-- no const variable is assigned
abbrev pub WritesNoConst : Names → ExpressionTree → Type 0
WritesNoConst n (Typed kind (Assign at a)) = IsWritable n at
WritesNoConst n (Typed kind (Update op at a)) = IsWritable n at
WritesNoConst n (Typed kind (Count at up after)) = IsWritable n at
WritesNoConst n _ = Unit {0}

abbrev pub KeepsConsts : Names → Tree → Type 0
KeepsConsts n x = ItemExpressions (Within (WritesNoConst n)) x
