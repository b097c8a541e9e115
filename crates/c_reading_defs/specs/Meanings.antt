-- What expressions mean (ISO/IEC 9899:2011, 6.5): one row for each form. Where a rule is broken in an expression, it means
-- nothing.
use Rattle.std.specs.Prelude.{◌≡◌, ◌⊎◌, ℕ, ℤ, Bool, true, false, List, [], ◌∷◌, ◌++◌, Some, None}
use Rattle.c_types.specs.declared.kinds.IntKind.{IntKind}
use Rattle.c_types.specs.declared.kinds.IntKind.TheVariants.{Int}
use Rattle.c_types.specs.Numbers.{usual_kind}
use Rattle.c_tree.specs.declared.tree.Expression.{Expression}
use Rattle.c_tree.specs.declared.tree.Home.TheVariants as home
use Rattle.c_tree.specs.declared.tree.Place as place
use Rattle.c_tree.specs.declared.tree.Node as node
use Rattle.c_lexer.specs.Marks.{mark_of}
use Rattle.c_grammar.specs.Terms.{Term, Form, Terms, At, Constant, Variable, Cell, Prefix, Suffix, CastTo, CastVoid, Binary, Choice, Assign, Commas, Call, Texts, Unknown, NoTerm, Then}
use Rattle.c_grammar.specs.Words.{kind_of, Writes, within_quotes}
use Rattle.c_kinds.specs.declared.binding.Binding.{Binding}
use Rattle.c_kinds.specs.declared.binding.Binding.TheVariants as binding
use Rattle.c_kinds.specs.declared.binding.Want.{Want}
use Rattle.c_kinds.specs.declared.binding.Want.TheVariants as want
use Rattle.c_kinds.specs.declared.typed.Typed.{Typed}
use Rattle.c_kinds.specs.declared.typed.Typed.TheVariants.{Value, Void, Text, Array}
use Rattle.c_kinds.specs.declared.typed.ArrayName.{ArrayName}
use Rattle.c_kinds.specs.declared.typed.Valued.{Valued}
use Rattle.c_kinds.specs.declared.typed.Variable as of
use Rattle.c_kinds.specs.declared.typed.Target.{Target}
use Rattle.c_kinds.specs.Constants.{with_value}
use Rattle.c_kinds.specs.Marks.{step_of, counts_up, unary_op, unary_kind, binary_op, binary_kind, update_op, is_wide}
use Rattle.c_kinds.specs.Scopes.{Env}
use Rattle.c_kinds.specs.Typing.{constant}
use Rattle.c_kinds.specs.Values.{expression, expression_of, of_kind, of_result, dropped, target, variable, stored, with_left}
use Rattle.c_reading_defs.specs.Bindings.{IsBoundTo}
use Rattle.c_reading_defs.specs.Formats.{IsFormat}

-- ---- names (6.5.1)

-- what the name at a token is bound to
abbrev pub IsBound : Env → ℕ → Binding → Type 0
IsBound env at b = IsBoundTo (env.word at) b env.scopes

-- the name is this variable's
abbrev pub IsVariable : Env → ℕ → of.Variable → Type 0
IsVariable env at v =
    (IsBound env at (binding.Global v.shape) × (v.home ≡ home.Global (env.word at)))
    ⊎ ((slot : ℕ) × IsBound env at (binding.Local slot v.shape) × (v.home ≡ home.Slot slot))

-- a number, by its name
abbrev pub IsNumber : Env → ℕ → Target → Type 0
IsNumber env at y = (v : of.Variable) × IsVariable env at v × (v.shape.array ≡ false) × (y ≡ target (place.Var v.home) v.shape)

-- the cell of an array at an index (6.5.2.1)
abbrev pub IsCell : Env → ℕ → Valued → Target → Type 0
IsCell env at i y = (v : of.Variable) × IsVariable env at v × (v.shape.array ≡ true) × (y ≡ target (place.Cell v.home (expression i)) v.shape)

-- ---- texts (6.4.5)

-- the texts at these tokens, side by side, write those bytes
abbrev pub TextsWrite : (ℕ → List ℕ) → List ℕ → List ℕ → Type 0
TextsWrite word [] bytes = bytes ≡ []
TextsWrite word (at ∷ ats) bytes = (first rest : List ℕ) × Writes (within_quotes (word at)) first × TextsWrite word ats rest × (bytes ≡ first ++ rest)

-- ---- calls (6.5.2.2)

-- each argument is what is wanted, and the call has these of them: the value of a number, or the array
pub data AreHanded : List Want → List Typed → List Expression → Type 0 where
  none : AreHanded [] [] []
  number : {v : Valued} {k : IntKind} {c : Bool} {ws : List Want} {xs : List Typed} {es : List Expression}
      → AreHanded ws xs es → AreHanded (want.Number k c ∷ ws) (Value v ∷ xs) (expression v ∷ es)
  -- of the wanted kind, and const only for a parameter that is; a function without a body in the file takes none
  array : {a : ArrayName} {constant : Bool} {ws : List Want} {xs : List Typed} {es : List Expression} → (a.constant ≡ true → constant ≡ true)
      → AreHanded ws xs es → AreHanded (want.Array a.kind constant false ∷ ws) (Array a ∷ xs) (expression_of (Some a.kind) (node.Array a.home) ∷ es)
  sized : {v : Valued} {ws : List Want} {xs : List Typed} {es : List Expression}
      → AreHanded ws xs es → AreHanded (want.Sized (is_wide v.kind) ∷ ws) (Value v ∷ xs) (expression v ∷ es)

-- a call of a function of this name, or of `printf` with its text
abbrev pub IsCall : List ℕ → Binding → List Typed → Typed → Type 0
IsCall name (binding.Function s) xs y = (es : List Expression) × AreHanded s.wants xs es × (y ≡ of_result s.result (node.Call name es))
IsCall name binding.Printf (Text bytes ∷ xs) y =
    (ws : List Want) × (es : List Expression) × IsFormat bytes ws × AreHanded ws xs es ×
    (y ≡ of_kind Int (node.Call name (expression_of None (node.Text bytes) ∷ es)))
IsCall name _ xs y = ⊥

-- ---- commas (6.5.17)

-- operands with commas between them: the value or the void of all that stands in front of the last is dropped
pub data AreCommas : List Typed → Typed → Type 0 where
  one : {x : Typed} → AreCommas (x ∷ []) x
  more : {xs : List Typed} {x : Typed} (y : Typed) {e f : Expression} → AreCommas xs x → dropped x ≡ Some e → dropped y ≡ Some f →
      AreCommas (xs ++ y ∷ []) (with_left e y)

-- ---- expressions

abbrev mutual
  pub Means : Env → Term → Typed → Type 0
  Means env (At first form) x = FormMeans env form x

  pub FormMeans : Env → Form → Typed → Type 0
  FormMeans env (Constant at) x = x ≡ constant (env.word at)
  -- an enum constant is a number, a variable is read, and an array stands for itself
  FormMeans env (Variable at) x =
      ((n : ℤ) × IsBound env at (binding.Constant n) × (x ≡ of_kind Int (node.EnumName (env.word at) n)))
      ⊎ ((v : of.Variable) × IsVariable env at v × (x ≡ variable at v))
  FormMeans env (Cell at i) x = (n : Valued) × (y : Target) × Means env i (Value n) × IsCell env at n y × (x ≡ of_kind y.kind (node.Read y.place))
  -- `++` and `--` (6.5.3.1), and `+ - ! ~` (6.5.3.3)
  FormMeans env (Prefix m a) x =
      ((up : Bool) × (y : Target) × (step_of (mark_of (env.word m)) ≡ Some up) × MeansTarget env a y × (y.constant ≡ false) ×
      (x ≡ of_kind y.kind (node.Count y.place up false)))
      ⊎ ((v : Valued) × (step_of (mark_of (env.word m)) ≡ None) × Means env a (Value v)
      × (x ≡ of_kind (unary_kind (unary_op (mark_of (env.word m))) v.kind) (node.Unary (unary_op (mark_of (env.word m))) (expression v))))
  -- 6.5.2.4
  FormMeans env (Suffix m a) x = (y : Target) × MeansTarget env a y × (y.constant ≡ false) ×
      (x ≡ of_kind y.kind (node.Count y.place (counts_up (mark_of (env.word m))) true))
  -- 6.5.4
  FormMeans env (CastTo words a) x = (v : Valued) × Means env a (Value v) × (x ≡ of_kind (kind_of env.word words) (node.Cast (expression v)))
  FormMeans env (CastVoid a) x = (y : Typed) × (e : Expression) × Means env a y × (dropped y ≡ Some e) × (x ≡ Void (node.Cast e))
  -- 6.5.5 to 6.5.14
  FormMeans env (Binary m a b) x =
      (v w : Valued) × Means env a (Value v) × Means env b (Value w)
      × (x ≡ of_kind (binary_kind (binary_op (mark_of (env.word m))) v.kind w.kind)
      (node.Binary (binary_op (mark_of (env.word m))) (expression v) (expression w)))
  -- 6.5.15
  FormMeans env (Choice a b c) x =
      (u v w : Valued) × Means env a (Value u) × Means env b (Value v) × Means env c (Value w)
      × (x ≡ of_kind (usual_kind v.kind w.kind) (node.Conditional (expression u) (expression v) (expression w)))
  -- 6.5.16
  FormMeans env (Assign m t a) x =
      (y : Target) × (v : Valued) × MeansTarget env t y × (y.constant ≡ false) × Means env a (Value v)
      × (x ≡ of_kind y.kind (stored (update_op (mark_of (env.word m))) y (expression v)))
  FormMeans env (Commas a bs) x = (y : Typed) × (ys : List Typed) × Means env a y × AreMeant env bs ys × AreCommas (y ∷ ys) x
  FormMeans env (Call at xs) x = (b : Binding) × (ys : List Typed) × IsBound env at b × AreMeant env xs ys × IsCall (env.word at) b ys x
  FormMeans env (Texts ats) x = (bytes : List ℕ) × TextsWrite env.word ats bytes × (x ≡ Text bytes)
  FormMeans env Unknown x = ⊥

  -- the variable or the cell that an operand is (6.3.2.1)
  pub MeansTarget : Env → Term → Target → Type 0
  MeansTarget env (At first form) y = FormMeansTarget env form y

  pub FormMeansTarget : Env → Form → Target → Type 0
  FormMeansTarget env (Variable at) y = IsNumber env at y
  FormMeansTarget env (Cell at i) y = (n : Valued) × Means env i (Value n) × IsCell env at n y
  FormMeansTarget env _ y = ⊥

  -- each of these terms, in order
  pub AreMeant : Env → Terms → List Typed → Type 0
  AreMeant env NoTerm xs = xs ≡ []
  AreMeant env (Then t ts) xs = (y : Typed) × (ys : List Typed) × Means env t y × AreMeant env ts ys × (xs ≡ y ∷ ys)

-- a constant expression (6.6) without a trap, and its value
abbrev pub IsConstantExpression : Env → Term → Expression → ℤ → Type 0
IsConstantExpression env t e n = (v : Valued) × Means env t (Value v) × (with_value (expression v) ≡ Some (e, n))
