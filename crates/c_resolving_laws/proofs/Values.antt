-- What the forms of expressions are on the tree: kinds agree, no const is written, and names are bound, where that holds
-- of their operands.
use Rattle.std.proofs.Common.{ℕ, Bool, true, false, cond, ◌&&◌, List, [], Option, Some, None, is_some, ◌≡◌, refl, sym, ap, subst, ◌∙◌, true≢false, slice_get}
use Rattle.std.specs.Prelude.{IfSome, IsSomeAnd, IsSome}
use Rattle.std.specs.Option.{option_map_or}
use Rattle.c_types.specs.declared.kinds.IntKind.{IntKind}
use Rattle.c_types.specs.declared.kinds.IntKind.TheVariants.{Int}
use Rattle.c_types.specs.declared.kinds.ArithOp.{ArithOp}
use Rattle.c_types.specs.Numbers.{usual_kind}
use Rattle.c_tree.specs.declared.tree.Slot.{Slot}
use Rattle.c_tree.specs.declared.tree.Home.TheVariants as H
use Rattle.c_tree.specs.declared.tree.UnaryOp.{UnaryOp}
use Rattle.c_tree.specs.declared.tree.UnaryOp.TheVariants.{Plus, Minus, Not, Flip}
use Rattle.c_tree.specs.declared.tree.BinaryOp.{BinaryOp}
use Rattle.c_tree.specs.declared.tree.BinaryOp.TheVariants.{Arith, Less, Greater, AtMost, AtLeast, Equal, Unequal, AndThen, OrElse}
use Rattle.c_tree.specs.declared.tree.Expression.{Expression, Expression-F, roll-Expression, fold-roll-Expression}
use Rattle.c_tree.specs.declared.tree.Place.{Place}
use Rattle.c_tree.specs.declared.tree.Place as place
use Rattle.c_tree.specs.declared.tree.Node.{Node}
use Rattle.c_tree.specs.declared.tree.Node as node
use Rattle.c_tree.specs.TextExpressions.{slot_name}
use Rattle.c_tree.specs.ExpressionTrees.{ExpressionTree, PlaceTree, NodeTree, Typed, Cell, Unary, Cast, Binary, Conditional, Assign, Update, Comma, node_layer, place_layer, expression_layer, expression_tree, node_tree, place_tree}
use Rattle.c_tree.proofs.ExpressionLaws.{place-Var, place-Cell, node-EnumName, node-Read, node-Unary, node-Cast, node-Binary, node-Conditional, node-Assign, node-Update, node-Count, node-Comma}
use Rattle.c_kinds.specs.declared.binding.Shape.{Shape}
use Rattle.c_kinds.specs.declared.binding.Binding.{Binding}
use Rattle.c_kinds.specs.declared.binding.Binding.TheVariants as B
use Rattle.c_kinds.specs.declared.typed.Typed as typed
use Rattle.c_kinds.specs.declared.typed.Typed.TheVariants as T
use Rattle.c_kinds.specs.declared.typed.Valued.{Valued}
use Rattle.c_kinds.specs.declared.typed.Variable.{Variable}
use Rattle.c_kinds.specs.declared.typed.Target.{Target}
use Rattle.c_kinds.specs.declared.typed.ArrayName.{ArrayName}
use Rattle.c_kinds.specs.Marks as Marks
use Rattle.c_kinds.specs.Scopes.{Faults, fault, fault_if}
use Rattle.c_kinds.specs.Values.{expression_of, expression, of_kind, value_of, dropped, use_fault, drop_fault, number_target, cell_target, target, writable, reading, unary, counting, cast, cast_void, binary, choice, stored, assignment, with_left, comma}
use Rattle.c_kinds.specs.Names.{variable_of, named, name_fault, shape_fault, target_fault}
use Rattle.c_resolved_defs.specs.Within.{Within, PlaceWithin}
use Rattle.c_resolved_defs.specs.Names as Tree
use Rattle.c_resolved_defs.specs.Names.{Names, home_of}
use Rattle.c_resolved_defs.specs.Kinds.{IsOperand, HasValue, unary_kind, binary_kind, KindAgrees, PlaceAgrees, IsWritable, WritesNoConst}
use Rattle.c_resolved_defs.specs.Scopes as Scopes
use Rattle.c_resolved_defs.specs.Scopes.{Scope, AVariable, HomeIsBound, NameIsBound}
use Rattle.c_resolving_laws.proofs.Lists.{none_left, clean_if, the_some, is_some_and}
use Rattle.c_resolving_laws.proofs.Known.{HasShape, IsKnown}

-- ---- trees

pub expression_rolls : (z : Expression-F Node Place Expression) → expression_tree (roll-Expression z) ≡ Typed z.kind (node_tree z.node)
unfolding expression_tree node_tree
expression_rolls z = fold-roll-Expression NodeTree PlaceTree ExpressionTree node_layer place_layer expression_layer z

abbrev pub value_tree : Valued → ExpressionTree
value_tree v = Typed (Some v.kind) (node_tree v.node)

pub value_rolls : (v : Valued) → expression_tree (expression v) ≡ value_tree v
value_rolls v = expression_rolls (record { kind = Some v.kind; node = v.node })

pub void_rolls : (a : Node) → expression_tree (expression_of None a) ≡ Typed None (node_tree a)
void_rolls a = expression_rolls (record { kind = None; node = a })

unary_same : (op : UnaryOp) (k : IntKind) → Marks.unary_kind op k ≡ unary_kind op k
unary_same Not k = refl
unary_same Plus k = refl
unary_same Minus k = refl
unary_same Flip k = refl

binary_same : (op : BinaryOp) (j k : IntKind) → Marks.binary_kind op j k ≡ binary_kind op j k
binary_same (Arith o) j k = refl
binary_same Less j k = refl
binary_same Greater j k = refl
binary_same AtMost j k = refl
binary_same AtLeast j k = refl
binary_same Equal j k = refl
binary_same Unequal j k = refl
binary_same AndThen j k = refl
binary_same OrElse j k = refl

-- a slot that is there has its name
pub name_there : (slots : List Slot) (k : ℕ) (m : List ℕ) (P : Slot → Type 0) → IsSomeAnd (slice_get slots k) (λ s. (s.name ≡ m) × P s) → slot_name slots k ≡ m
name_there slots k m P h = at (slice_get slots k) h
  where
    at : (o : Option Slot) → IsSomeAnd o (λ s. (s.name ≡ m) × P s) → option_map_or (λ (s : Slot). s.name) o [] ≡ m
    at None h = absurd h
    at (Some s) h = h.0

module _ (n : Names) (ss : List Scope) where
  -- what holds of each part of an expression
  abbrev pub IsSound : ExpressionTree → Type 0
  IsSound x = KindAgrees n x × WritesNoConst n x × NameIsBound n.slots ss x

  abbrev pub Sound : ExpressionTree → Type 0
  Sound x = Within IsSound x

  -- an expression whose value is used or dropped
  abbrev pub Operand : ExpressionTree → Type 0
  Operand x = Sound x × IsOperand x

  pub record SoundVariable (x : Variable) : Type 0 where
    pub shaped : IsSomeAnd (Tree.variable n x.home) (HasShape x.shape)
    pub bound : HomeIsBound n.slots ss x.home

  pub record SoundArray (a : ArrayName) : Type 0 where
    pub shaped : IsSomeAnd (Tree.variable n a.home) (HasShape (record { kind = a.kind; array = true; constant = a.constant }))
    pub bound : HomeIsBound n.slots ss a.home

  pub record SoundTarget (t : Target) : Type 0 where
    pub agrees : PlaceAgrees n (Some t.kind) (place_tree t.place)
    pub constant : IsSomeAnd (Tree.variable n (home_of (place_tree t.place))) (λ s. s.constant ≡ t.constant)
    pub bound : HomeIsBound n.slots ss (home_of (place_tree t.place))
    pub within : PlaceWithin IsSound (place_tree t.place)

  -- a target that is no const
  abbrev pub IsWrittenTarget : Target → Type 0
  IsWrittenTarget t = SoundTarget t × (t.constant ≡ false)

  -- an expression without a violation
  abbrev pub SoundTyped : typed.Typed → Type 0
  SoundTyped (T.Value v) = Operand (value_tree v)
  SoundTyped (T.Void a) = Operand (Typed None (node_tree a))
  SoundTyped (T.Text bytes) = Unit {0}
  SoundTyped (T.Array a) = SoundArray a
  SoundTyped T.Wrong = ⊥

  abbrev pub SoundValue : Valued → Type 0
  SoundValue v = Operand (value_tree v)

  abbrev pub SoundDropped : Expression → Type 0
  SoundDropped e = Operand (expression_tree e)

  has_value : (v : Valued) → SoundValue v → HasValue (value_tree v)
  has_value v h = record { operand = h.1; kind = tt }

  -- ---- a use

  pub use_clean : (first : ℕ) (x : typed.Typed) (vs : Faults) → use_fault first x vs ≡ [] → SoundTyped x → (vs ≡ []) × IsSomeAnd (value_of x) SoundValue
  use_clean first (T.Value v) vs e h = (e, h)
  use_clean first (T.Void a) vs e h = absurd (none_left _ vs e)
  use_clean first (T.Text bytes) vs e h = absurd (none_left _ vs e)
  use_clean first (T.Array a) vs e h = absurd (none_left _ vs e)
  use_clean first T.Wrong vs e h = absurd h

  dropped_value : (v : Valued) → SoundValue v → SoundDropped (expression v)
  dropped_value v h = subst Operand (sym (value_rolls v)) h

  pub drop_clean : (first : ℕ) (x : typed.Typed) (vs : Faults) → drop_fault first x vs ≡ [] → SoundTyped x → (vs ≡ []) × IsSomeAnd (dropped x) SoundDropped
  drop_clean first (T.Value v) vs e h = (e, dropped_value v h)
  drop_clean first (T.Void a) vs e h = (e, subst Operand (sym (void_rolls a)) h)
  drop_clean first (T.Text bytes) vs e h = absurd (none_left _ vs e)
  drop_clean first (T.Array a) vs e h = absurd (none_left _ vs e)
  drop_clean first T.Wrong vs e h = absurd h

  -- ---- names

  abbrev pub KnownIf : List ℕ → Option Binding → Type 0
  KnownIf m o = IfSome o (IsKnown n ss m)

  local_variable : (m : List ℕ) (k : ℕ) (shape : Shape) → IsKnown n ss m (B.Local k shape) → SoundVariable (record { home = H.Slot k; shape = shape })
  local_variable m k shape h =
      let s = the_some _ (slice_get n.slots k) h.0 in
      record {
        shaped = is_some_and (HasShape shape) (slice_get n.slots k) s.0 s.1 s.2.1;
        bound = subst (λ w. Scopes.look_up ss w ≡ Some (AVariable (H.Slot k))) (sym (name_there n.slots k m (HasShape shape) h.0)) h.1;
      }

  global_variable : (m : List ℕ) (shape : Shape) → IsKnown n ss m (B.Global shape) → SoundVariable (record { home = H.Global m; shape = shape })
  global_variable m shape h = record { shaped = h.0; bound = h.1 }

  pub variable_sound : (m : List ℕ) (o : Option Binding) → KnownIf m o → IfSome (variable_of m o) SoundVariable
  variable_sound m None h = tt
  variable_sound m (Some (B.Constant v)) h = tt
  variable_sound m (Some (B.Global shape)) h = global_variable m shape h
  variable_sound m (Some (B.Local k shape)) h = local_variable m k shape h
  variable_sound m (Some (B.Function s)) h = tt
  variable_sound m (Some B.Printf) h = tt

  -- ---- targets

  -- a variable that is an array, or none, and that may be written where it is
  abbrev pub Fits : Bool → Bool → Variable → Type 0
  Fits writes indexed x = (x.shape.array ≡ indexed) × ((writes && x.shape.constant) ≡ false)

  shape_clean : (writes indexed : Bool) (at : ℕ) (shape : Shape) (vs : Faults) → shape_fault writes indexed at shape vs ≡ []
      → (vs ≡ []) × (shape.array ≡ indexed) × ((writes && shape.constant) ≡ false)
  shape_clean writes indexed at shape vs e = by indexed shape.array e
    where
      by : (i a : Bool) → cond a (cond i (fault_if (writes && shape.constant) at 26 vs) (fault at 22 vs))
          (cond i (fault at 22 vs) (fault_if (writes && shape.constant) at 26 vs)) ≡ []
          → (vs ≡ []) × (a ≡ i) × ((writes && shape.constant) ≡ false)
      by true true e = let c = clean_if (writes && shape.constant) at 26 vs e in (c.0, refl, c.1)
      by false true e = absurd (none_left _ vs e)
      by true false e = absurd (none_left _ vs e)
      by false false e = let c = clean_if (writes && shape.constant) at 26 vs e in (c.0, refl, c.1)

  pub target_clean : (writes indexed : Bool) (at : ℕ) (m : List ℕ) (o : Option Binding) (vs : Faults) → target_fault writes indexed at o vs ≡ []
      → (vs ≡ []) × IsSomeAnd (variable_of m o) (Fits writes indexed)
  target_clean writes indexed at m None vs e = absurd (none_left _ vs e)
  target_clean writes indexed at m (Some (B.Constant v)) vs e = absurd (none_left _ vs e)
  target_clean writes indexed at m (Some (B.Global shape)) vs e = let c = shape_clean writes indexed at shape vs e in (c.0, (c.1, c.2))
  target_clean writes indexed at m (Some (B.Local k shape)) vs e = let c = shape_clean writes indexed at shape vs e in (c.0, (c.1, c.2))
  target_clean writes indexed at m (Some (B.Function s)) vs e = absurd (none_left _ vs e)
  target_clean writes indexed at m (Some B.Printf) vs e = absurd (none_left _ vs e)

  no_cells : (o : Option ℕ) → is_some o ≡ false → o ≡ None
  no_cells None e = refl
  no_cells (Some c) e = absurd (true≢false e)

  some_cells : (o : Option ℕ) → is_some o ≡ true → IsSome o
  some_cells None e = absurd (true≢false (sym e))
  some_cells (Some c) e = refl

  var_target : (x : Variable) → SoundVariable x → x.shape.array ≡ false → SoundTarget (target (place.Var x.home) x.shape)
  var_target x h a =
      let s = the_some _ (Tree.variable n x.home) h.shaped in
      let e = sym (place-Var x.home) in
      record {
        agrees = subst (PlaceAgrees n (Some x.shape.kind)) e
            (is_some_and _ (Tree.variable n x.home) s.0 s.1 (no_cells s.0.cells (s.2.array ∙ a), ap Some (sym s.2.kind)));
        constant = subst (λ p. IsSomeAnd (Tree.variable n (home_of p)) (λ s. s.constant ≡ x.shape.constant)) e
            (is_some_and _ (Tree.variable n x.home) s.0 s.1 s.2.constant);
        bound = subst (λ p. HomeIsBound n.slots ss (home_of p)) e h.bound;
        within = subst (PlaceWithin IsSound) e tt;
      }

  cell_place : (x : Variable) (i : Valued) → place_tree (place.Cell x.home (expression i)) ≡ Cell x.home (value_tree i)
  cell_place x i = place-Cell x.home (expression i) ∙ ap (Cell x.home) (value_rolls i)

  array_target : (x : Variable) (i : Valued) → SoundVariable x → x.shape.array ≡ true → SoundValue i →
      SoundTarget (target (place.Cell x.home (expression i)) x.shape)
  array_target x i h a v =
      let s = the_some _ (Tree.variable n x.home) h.shaped in
      let e = sym (cell_place x i) in
      record {
        agrees = subst (PlaceAgrees n (Some x.shape.kind)) e
            (is_some_and _ (Tree.variable n x.home) s.0 s.1 (some_cells s.0.cells (s.2.array ∙ a), ap Some (sym s.2.kind)), has_value i v);
        constant = subst (λ p. IsSomeAnd (Tree.variable n (home_of p)) (λ s. s.constant ≡ x.shape.constant)) e
            (is_some_and _ (Tree.variable n x.home) s.0 s.1 s.2.constant);
        bound = subst (λ p. HomeIsBound n.slots ss (home_of p)) e h.bound;
        within = subst (PlaceWithin IsSound) e v.0;
      }

  abbrev IsTargetOf : Bool → Option Target → Type 0
  IsTargetOf writes o = IsSomeAnd o (λ t. SoundTarget t × ((writes && t.constant) ≡ false))

  pub number_target_sound : (writes : Bool) (o : Option Variable) → IfSome o SoundVariable → IsSomeAnd o (Fits writes false) →
      IsTargetOf writes (number_target o)
  number_target_sound writes None h f = absurd f
  number_target_sound writes (Some x) h f =
      subst (λ b. IsTargetOf writes (cond b None (Some (target (place.Var x.home) x.shape)))) (sym f.0) (var_target x h f.0, f.1)

  pub cell_target_sound : (writes : Bool) (o : Option Variable) (i : Option Valued) → IfSome o SoundVariable → IsSomeAnd o (Fits writes true) →
      IsSomeAnd i SoundValue
      → IsTargetOf writes (cell_target o i)
  cell_target_sound writes None i h f v = absurd f
  cell_target_sound writes (Some x) None h f v = absurd v
  cell_target_sound writes (Some x) (Some i) h f v =
      subst (λ b. IsTargetOf writes (cond b (Some (target (place.Cell x.home (expression i)) x.shape)) None)) (sym f.0) (array_target x i h f.0 v, f.1)

  pub writable_sound : (o : Option Target) → IsTargetOf true o → IsSomeAnd (writable o) IsWrittenTarget
  writable_sound None h = absurd h
  writable_sound (Some t) h = subst (λ b. IsSomeAnd (cond b None (Some t)) IsWrittenTarget) (sym h.1) (h.0, h.1)

  -- ---- forms

  pub reading_sound : (o : Option Target) → IsTargetOf false o → SoundTyped (reading o)
  reading_sound None h = absurd h
  reading_sound (Some t) h =
      let k = h.0 in
      subst (λ x. Operand (Typed (Some t.kind) x)) (sym (node-Read t.place)) (((k.agrees, tt, k.bound), k.within), tt)

  -- a variable by its name
  number_name : (at : ℕ) (x : Variable) → SoundVariable x → (b : Bool) → x.shape.array ≡ b
      → SoundTyped (cond b (T.Array (record { token = at; home = x.home; kind = x.shape.kind; constant = x.shape.constant }))
      (of_kind x.shape.kind (node.Read (place.Var x.home))))
  number_name at x h true e = record {
    shaped = subst (λ b. IsSomeAnd (Tree.variable n x.home)
        (HasShape (record { kind = x.shape.kind; array = b; constant = x.shape.constant }))) e h.shaped;
    bound = h.bound;
  }
  number_name at x h false e = reading_sound (Some (target (place.Var x.home) x.shape)) (var_target x h e, refl)

  pub named_sound : (at : ℕ) (m : List ℕ) (o : Option Binding) (vs : Faults) → name_fault at o vs ≡ [] → KnownIf m o → (vs ≡ []) × SoundTyped (named at m o)
  named_sound at m None vs e h = absurd (none_left _ vs e)
  named_sound at m (Some (B.Constant v)) vs e h = (e, subst (λ x. Operand (Typed (Some Int) x)) (sym (node-EnumName m v)) ((((refl, h.0), tt, h.1), tt), tt))
  named_sound at m (Some (B.Global shape)) vs e h = (e, number_name at _ (global_variable m shape h) shape.array refl)
  named_sound at m (Some (B.Local k shape)) vs e h = (e, number_name at _ (local_variable m k shape h) shape.array refl)
  named_sound at m (Some (B.Function s)) vs e h = absurd (none_left _ vs e)
  named_sound at m (Some B.Printf) vs e h = absurd (none_left _ vs e)

  pub unary_sound : (op : UnaryOp) (o : Option Valued) → IsSomeAnd o SoundValue → SoundTyped (unary op o)
  unary_sound op None h = absurd h
  unary_sound op (Some a) h =
      subst (λ x. Operand (Typed (Some (Marks.unary_kind op a.kind)) x)) (sym (node-Unary op (expression a) ∙ ap (Unary op) (value_rolls a)))
      ((((has_value a h, ap Some (unary_same op a.kind)), tt, tt), h.0), tt)

  pub counting_sound : (up after : Bool) (o : Option Target) → IsSomeAnd o IsWrittenTarget → SoundTyped (counting up after o)
  counting_sound up after None h = absurd h
  counting_sound up after (Some t) h =
      let k = h.0 in
      subst (λ x. Operand (Typed (Some t.kind) x)) (sym (node-Count t.place up after)) (((k.agrees, is_written t h, k.bound), k.within), tt)
    where
      is_written : (t : Target) → IsWrittenTarget t → IsWritable n (place_tree t.place)
      is_written t h = let s = the_some _ (Tree.variable n (home_of (place_tree t.place))) h.0.constant in is_some_and _ _ s.0 s.1 (s.2 ∙ h.1)

  pub cast_sound : (kind : IntKind) (o : Option Valued) → IsSomeAnd o SoundValue → SoundTyped (cast kind o)
  cast_sound kind None h = absurd h
  cast_sound kind (Some a) h =
      subst (λ x. Operand (Typed (Some kind) x)) (sym (node-Cast (expression a) ∙ ap Cast (value_rolls a))) (((has_value a h, tt, tt), h.0), tt)

  pub cast_void_sound : (o : Option Expression) → IsSomeAnd o SoundDropped → SoundTyped (cast_void o)
  cast_void_sound None h = absurd h
  cast_void_sound (Some a) h = subst (λ x. Operand (Typed None x)) (sym (node-Cast a)) (((h.1, tt, tt), h.0), tt)

  pub binary_sound : (op : BinaryOp) (o u : Option Valued) → IsSomeAnd o SoundValue → IsSomeAnd u SoundValue → SoundTyped (binary op o u)
  binary_sound op None u h k = absurd h
  binary_sound op (Some a) None h k = absurd k
  binary_sound op (Some a) (Some b) h k =
      subst (λ x. Operand (Typed (Some (Marks.binary_kind op a.kind b.kind)) x))
      (sym (node-Binary op (expression a) (expression b) ∙ (ap (λ x. Binary op x (expression_tree (expression b))) (value_rolls a) ∙
      ap (Binary op (value_tree a)) (value_rolls b))))
      ((((has_value a h, has_value b k, ap Some (binary_same op a.kind b.kind)), tt, tt), (h.0, k.0)), tt)

  choice_node : (a b c : Valued) → node_tree (node.Conditional (expression a) (expression b) (expression c)) ≡ Conditional (value_tree a)
      (value_tree b) (value_tree c)
  choice_node a b c = rw (node-Conditional (expression a) (expression b) (expression c), value_rolls a, value_rolls b, value_rolls c) refl

  pub choice_sound : (o u w : Option Valued) → IsSomeAnd o SoundValue → IsSomeAnd u SoundValue → IsSomeAnd w SoundValue → SoundTyped (choice o u w)
  choice_sound None u w h k l = absurd h
  choice_sound (Some a) None w h k l = absurd k
  choice_sound (Some a) (Some b) None h k l = absurd l
  choice_sound (Some a) (Some b) (Some c) h k l =
      subst (λ x. Operand (Typed (Some (usual_kind b.kind c.kind)) x)) (sym (choice_node a b c))
      ((((has_value a h, has_value b k, has_value c l, refl), tt, tt), (h.0, k.0, l.0)), tt)

  written : (t : Target) → IsWrittenTarget t → IsWritable n (place_tree t.place)
  written t h = let s = the_some _ (Tree.variable n (home_of (place_tree t.place))) h.0.constant in is_some_and _ _ s.0 s.1 (s.2 ∙ h.1)

  stored_sound : (op : Option ArithOp) (t : Target) (a : Valued) → IsWrittenTarget t → SoundValue a →
      Operand (Typed (Some t.kind) (node_tree (stored op t (expression a))))
  stored_sound None t a h k =
      subst (λ x. Operand (Typed (Some t.kind) x)) (sym (node-Assign t.place (expression a) ∙ ap (Assign (place_tree t.place)) (value_rolls a)))
      ((((h.0.agrees, has_value a k), written t h, h.0.bound), (h.0.within, k.0)), tt)
  stored_sound (Some op) t a h k =
      subst (λ x. Operand (Typed (Some t.kind) x)) (sym (node-Update op t.place (expression a) ∙ ap (Update op (place_tree t.place)) (value_rolls a)))
      ((((h.0.agrees, has_value a k), written t h, h.0.bound), (h.0.within, k.0)), tt)

  pub assignment_sound : (op : Option ArithOp) (o : Option Target) (u : Option Valued) → IsSomeAnd o IsWrittenTarget → IsSomeAnd u SoundValue →
      SoundTyped (assignment op o u)
  assignment_sound op None u h k = absurd h
  assignment_sound op (Some t) None h k = absurd k
  assignment_sound op (Some t) (Some a) h k = stored_sound op t a h k

  with_left_sound : (a : Expression) (b : typed.Typed) → SoundDropped a → IsSomeAnd (dropped b) SoundDropped → SoundTyped b → SoundTyped (with_left a b)
  with_left_sound a (T.Value b) h d k =
      subst (λ x. Operand (Typed (Some b.kind) x)) (sym (node-Comma a (expression b) ∙ ap (Comma (expression_tree a)) (value_rolls b)))
      ((((h.1, k.1, refl), tt, tt), (h.0, k.0)), tt)
  with_left_sound a (T.Void b) h d k =
      subst (λ x. Operand (Typed None x)) (sym (node-Comma a (expression_of None b) ∙ ap (Comma (expression_tree a)) (void_rolls b)))
      ((((h.1, k.1, refl), tt, tt), (h.0, k.0)), tt)
  with_left_sound a (T.Text bytes) h d k = absurd d
  with_left_sound a (T.Array b) h d k = absurd d
  with_left_sound a T.Wrong h d k = absurd k

  -- neither a text nor the name of an array
  pub comma_sound : (o : Option Expression) (b : typed.Typed) → IsSomeAnd o SoundDropped → IsSomeAnd (dropped b) SoundDropped → SoundTyped b
      → SoundTyped (comma o b) × IsSomeAnd (dropped (comma o b)) SoundDropped
  comma_sound None b h d k = absurd h
  comma_sound (Some a) b h d k = let s = with_left_sound a b h d k in (s, left_dropped a b d s)
    where
      left_dropped : (a : Expression) (b : typed.Typed) → IsSomeAnd (dropped b) SoundDropped → SoundTyped (with_left a b) →
          IsSomeAnd (dropped (with_left a b)) SoundDropped
      left_dropped a (T.Value b) d s = dropped_value _ s
      left_dropped a (T.Void b) d s = subst Operand (sym (void_rolls (node.Comma a (expression_of None b)))) s
      left_dropped a (T.Text bytes) d s = absurd d
      left_dropped a (T.Array b) d s = absurd d
      left_dropped a T.Wrong d s = absurd s
