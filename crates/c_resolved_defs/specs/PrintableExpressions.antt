-- Expressions whose printed text is read again: its names are names, its numbers are those of constants, its bytes are bytes.
use Rattle.std.specs.Prelude.{◌≡◌, ◌≤◌, ◌+◌, ◌^◌, ◌<◌, ℕ, ℤ, pos, true, false, cond, nat_lt, nat_le, List, Option, Some, None}
use Rattle.std.specs.List.{list_all}
use Rattle.c_types.specs.declared.kinds.IntKind.{IntKind}
use Rattle.c_types.specs.declared.kinds.IntKind.TheVariants as K
use Rattle.c_types.specs.Words.{is_word, is_keyword}
use Rattle.c_tree.specs.declared.tree.Slot.{Slot}
use Rattle.c_tree.specs.ExpressionTrees.{ExpressionTree, PlaceTree, NodeTree, Typed, Arguments, NoArgument, Argument}
use Rattle.c_tree.specs.ExpressionTrees as t
use Rattle.c_tree.specs.TextExpressions.{home_name, binary_level}

-- a name, and no keyword
abbrev pub IsName : List ℕ → Type 0
IsName w = (is_word w ≡ true) × (is_keyword w ≡ false)

-- a number that a constant of this kind has
abbrev pub IsConstant : Option IntKind → ℤ → Type 0
IsConstant (Some K.Int) (pos n) = n < 2 ^ 31
IsConstant (Some K.UInt) (pos n) = n < 2 ^ 32
IsConstant (Some K.Long) (pos n) = n < 2 ^ 63
IsConstant (Some K.ULong) (pos n) = n < 2 ^ 64
IsConstant _ _ = ⊥

abbrev pub AreBytes : List ℕ → Type 0
AreBytes bs = list_all (λ b. nat_le b 255) bs ≡ true

-- the format of `printf`, or an expression that prints
abbrev pub ArgumentPrints : Type 0 → ExpressionTree → Type 0
ArgumentPrints P (Typed kind (t.Text bytes)) = AreBytes bytes
ArgumentPrints P x = P

-- over the slots that its names stand in
abbrev mutual
  pub Prints : List Slot → ExpressionTree → Type 0
  Prints slots (Typed kind n) = NodePrints slots kind n

  pub NodePrints : List Slot → Option IntKind → NodeTree → Type 0
  NodePrints slots kind (t.Number n) = IsConstant kind n
  NodePrints slots kind (t.Character b) = b ≤ 255
  NodePrints slots kind (t.EnumName name n) = IsName name
  -- a text stands as an argument alone
  NodePrints slots kind (t.Text bytes) = ⊥
  NodePrints slots kind (t.Array home) = IsName (home_name slots home)
  NodePrints slots kind (t.Read p) = PlacePrints slots p
  NodePrints slots kind (t.Unary op a) = Prints slots a
  NodePrints slots kind (t.Cast a) = Prints slots a
  NodePrints slots kind (t.Binary op a b) = Prints slots a × Prints slots b
  NodePrints slots kind (t.Conditional a b c) = Prints slots a × Prints slots b × Prints slots c
  NodePrints slots kind (t.Assign p a) = PlacePrints slots p × Prints slots a
  NodePrints slots kind (t.Update op p a) = PlacePrints slots p × Prints slots a
  NodePrints slots kind (t.Count p up after) = PlacePrints slots p
  NodePrints slots kind (t.Comma a b) = Prints slots a × Prints slots b
  NodePrints slots kind (t.Call name xs) = IsName name × AllPrint slots xs

  pub PlacePrints : List Slot → PlaceTree → Type 0
  PlacePrints slots (t.Var home) = IsName (home_name slots home)
  PlacePrints slots (t.Cell home a) = IsName (home_name slots home) × Prints slots a

  pub AllPrint : List Slot → Arguments → Type 0
  AllPrint slots NoArgument = Unit {0}
  AllPrint slots (Argument x xs) = ArgumentPrints (Prints slots x) x × AllPrint slots xs

-- ---- levels

-- the level of a printed expression, 14 for what takes no brackets
abbrev pub level_of : ExpressionTree → ℕ
level_of (Typed kind (t.Binary op a b)) = binary_level op
level_of (Typed kind (t.Conditional a b c)) = 3
level_of (Typed kind (t.Assign p a)) = 2
level_of (Typed kind (t.Update op p a)) = 2
level_of (Typed kind (t.Comma a b)) = 1
level_of _ = 14

-- ---- the tokens of its printed text that count for the limit of a full expression

-- 1 for a bracket round an expression of this level, where a higher one is needed
abbrev pub bracket_count : ℕ → ℕ → ℕ
bracket_count level need = cond (nat_lt level need) 1 0

abbrev mutual
  pub counted : ExpressionTree → ℕ
  counted (Typed kind n) = node_counted n

  pub node_counted : NodeTree → ℕ
  node_counted (t.Read p) = place_counted p
  node_counted (t.Unary op a) = counted a + bracket_count (level_of a) 14 + 1
  node_counted (t.Cast a) = counted a + bracket_count (level_of a) 14 + 1
  node_counted (t.Binary op a b) = counted a + bracket_count (level_of a)
      (level_of (Typed None (t.Binary op a b))) + 1 + (counted b + bracket_count (level_of b) (level_of (Typed None (t.Binary op a b)) + 1))
  node_counted (t.Conditional a b c) = counted a + bracket_count (level_of a) 4 + 1 + counted b + (counted c + bracket_count (level_of c) 3)
  node_counted (t.Assign p a) = place_counted p + 1 + (counted a + bracket_count (level_of a) 2)
  node_counted (t.Update op p a) = place_counted p + 1 + (counted a + bracket_count (level_of a) 2)
  node_counted (t.Count p up after) = place_counted p + 1
  node_counted (t.Comma a b) = counted a + 1 + (counted b + bracket_count (level_of b) 2)
  node_counted (t.Call name xs) = 1 + all_counted xs
  node_counted _ = 0

  pub place_counted : PlaceTree → ℕ
  place_counted (t.Var home) = 0
  place_counted (t.Cell home a) = 1 + counted a

  pub all_counted : Arguments → ℕ
  all_counted NoArgument = 0
  all_counted (Argument x xs) = counted x + bracket_count (level_of x) 2 + all_counted xs

-- the counted tokens of an expression where the grammar needs a level
abbrev pub counted_at : ℕ → ExpressionTree → ℕ
counted_at need x = counted x + bracket_count (level_of x) need
