-- The counted tokens of an expression of the tree are those of what is written.
use Rattle.std.proofs.Common.{ℕ, ◌+◌, ◌==◌, Bool, true, false, cond, ◌&&◌, List, [], ◌∷◌, ◌++◌, map, length, Option, Some, None, ◌≡◌, refl, sym, ap, subst, ◌∙◌, true≢false, arith}
use Rattle.std.specs.Prelude.{IfSome}
use Rattle.std.proofs.lemmas.Bool.{eqb-true}
use Rattle.c_types.specs.declared.kinds.IntKind.{IntKind}
use Rattle.c_types.specs.declared.kinds.IntKind.TheVariants.{Int}
use Rattle.c_types.specs.declared.kinds.ArithOp.{ArithOp}
use Rattle.c_types.specs.Numbers.{usual_kind}
use Rattle.c_lexer.specs.declared.number.Integer.{Integer}
use Rattle.c_lexer.specs.Marks.{mark_of}
use Rattle.c_lexer.specs.Numbers.{integer_of}
use Rattle.c_tree.specs.declared.tree.Expression.{Expression}
use Rattle.c_tree.specs.declared.tree.Place as place
use Rattle.c_tree.specs.declared.tree.Node as node
use Rattle.c_tree.specs.declared.tree.Node.{Node}
use Rattle.c_tree.specs.declared.tree.Home.TheVariants as home
use Rattle.c_tree.specs.declared.tree.UnaryOp.{UnaryOp}
use Rattle.c_tree.specs.declared.tree.BinaryOp.{BinaryOp}
use Rattle.c_tree.specs.ExpressionTrees.{ExpressionTree, NodeTree, Arguments, Argument, Typed, Unary, Cast, Binary, Conditional, Assign, Update, Comma, arguments, expression_tree, node_tree, place_tree}
use Rattle.c_tree.proofs.ExpressionLaws.{place-Var, place-Cell, node-Number, node-Character, node-EnumName, node-Text, node-Array, node-Read, node-Unary, node-Cast, node-Binary, node-Conditional, node-Assign, node-Update, node-Count, node-Comma, node-Call}
use Rattle.c_tree.specs.TextExpressions.{binary_level}
use Rattle.c_grammar.specs.Terms as s
use Rattle.c_grammar.specs.Terms.{Term, Form, Terms, At, NoTerm, Then}
use Rattle.c_grammar.specs.Words.{is_character, character, kind_of}
use Rattle.c_kinds.specs.declared.binding.Binding.{Binding}
use Rattle.c_kinds.specs.declared.binding.Binding.TheVariants as B
use Rattle.c_kinds.specs.declared.binding.Want.{Want}
use Rattle.c_kinds.specs.declared.binding.Want.TheVariants as want
use Rattle.c_kinds.specs.declared.typed.Typed as kinds
use Rattle.c_kinds.specs.declared.typed.Typed.TheVariants as T
use Rattle.c_kinds.specs.declared.typed.Valued.{Valued}
use Rattle.c_kinds.specs.declared.typed.Variable.{Variable}
use Rattle.c_kinds.specs.declared.typed.Target.{Target}
use Rattle.c_kinds.specs.declared.typed.Given.{Given}
use Rattle.c_kinds.specs.Marks.{unary_kind, binary_kind, step_of, counts_up, unary_op, binary_op, update_op}
use Rattle.c_kinds.specs.Scopes.{Env, meaning}
use Rattle.c_kinds.specs.Values.{of_kind, expression_of, expression, of_result, value_of, dropped, number, character_constant, number_target, cell_target, target, writable, reading, variable, unary, counting, cast, cast_void, binary, choice, assignment, with_left, comma}
use Rattle.c_kinds.specs.Names.{variable_of, named}
use Rattle.c_kinds.specs.Calls.{fits, each_fits, handed, all_handed, array_expression, call, text_of, printing, formatted, printf, called}
use Rattle.c_kinds.specs.Formats.{wanted}
use Rattle.c_kinds.specs.Typing.{constant, typed, form_typed, commas, target_of, given}
use Rattle.c_resolved_defs.specs.PrintableExpressions.{level_of, bracket_count, counted, node_counted, place_counted, all_counted}
use Rattle.c_resolving_laws.specs.Counts as W
use Rattle.c_resolving_laws.specs.Counts.{term_level, form_level, term_counted, form_counted, commas_counted}
use Rattle.c_resolving_laws.proofs.Lists.{and_left, and_right}
use Rattle.c_resolving_laws.proofs.Values.{expression_rolls, value_tree, value_rolls, void_rolls}

-- so many counted tokens, and this level
pub record Sized (n l : ℕ) (x : ExpressionTree) : Type 0 where
  pub counts : counted x ≡ n
  pub level : level_of x ≡ l

-- what an expression is has so many counted tokens, and this level
abbrev pub Measured : ℕ → ℕ → kinds.Typed → Type 0
Measured n l (T.Value v) = Sized n l (value_tree v)
Measured n l (T.Void a) = Sized n l (Typed None (node_tree a))
Measured n l (T.Text bytes) = (n ≡ 0) × (l ≡ 14)
Measured n l (T.Array a) = (n ≡ 0) × (l ≡ 14)
Measured n l T.Wrong = Unit {0}

abbrev SizedValue : ℕ → ℕ → Valued → Type 0
SizedValue n l v = Sized n l (value_tree v)

abbrev SizedTarget : ℕ → Target → Type 0
SizedTarget n t = place_counted (place_tree t.place) ≡ n

abbrev SizedDropped : ℕ → ℕ → Expression → Type 0
SizedDropped n l e = Sized n l (expression_tree e)

value_sized : (n l : ℕ) (x : kinds.Typed) → Measured n l x → IfSome (value_of x) (SizedValue n l)
value_sized n l (T.Value v) h = h
value_sized n l _ h = tt

dropped_sized : (n l : ℕ) (x : kinds.Typed) → Measured n l x → IfSome (dropped x) (SizedDropped n l)
dropped_sized n l (T.Value v) h = subst (Sized n l) (sym (value_rolls v)) h
dropped_sized n l (T.Void a) h = subst (Sized n l) (sym (void_rolls a)) h
dropped_sized n l _ h = tt

-- a leaf of the tree
leaf_sized : (kind : Option IntKind) (a : Node) (x : NodeTree) → node_tree a ≡ x → node_counted x ≡ 0 → level_of (Typed kind x) ≡ 14 →
    Sized 0 14 (Typed kind (node_tree a))
leaf_sized kind a x e c l = subst (λ y. Sized 0 14 (Typed kind y)) (sym e) (record { counts = c; level = l })

constant_sized : (w : List ℕ) → Measured 0 14 (constant w)
constant_sized w = by (is_character w)
  where
    by : (b : Bool) → Measured 0 14 (cond b (character_constant (character w)) (number (integer_of w)))
    by true = leaf_sized _ _ _ (node-Character (character w)) refl refl
    by false = number_by (integer_of w)
      where
        number_by : (o : Option Integer) → Measured 0 14 (number o)
        number_by None = leaf_sized _ _ _ (node-Number _) refl refl
        number_by (Some i) = leaf_sized _ _ _ (node-Number _) refl refl

read_sized : (n : ℕ) (o : Option Target) → IfSome o (SizedTarget n) → Measured n 14 (reading o)
read_sized n None h = tt
read_sized n (Some t) h = subst (λ x. Sized n 14 (Typed (Some t.kind) x)) (sym (node-Read t.place)) (record { counts = h; level = refl })

var_sized : (x : Variable) → SizedTarget 0 (target (place.Var x.home) x.shape)
var_sized x = ap place_counted (place-Var x.home)

number_target_sized : (o : Option Variable) → IfSome (number_target o) (SizedTarget 0)
number_target_sized None = tt
number_target_sized (Some x) = by x.shape.array
  where
    by : (b : Bool) → IfSome (cond b None (Some (target (place.Var x.home) x.shape))) (SizedTarget 0)
    by true = tt
    by false = var_sized x

cell_target_sized : (n l : ℕ) (o : Option Variable) (i : Option Valued) → IfSome i (SizedValue n l) → IfSome (cell_target o i) (SizedTarget (1 + n))
cell_target_sized n l None i h = tt
cell_target_sized n l (Some x) None h = tt
cell_target_sized n l (Some x) (Some i) h = by x.shape.array
  where
    by : (b : Bool) → IfSome (cond b (Some (target (place.Cell x.home (expression i)) x.shape)) None) (SizedTarget (1 + n))
    by true = ap place_counted (place-Cell x.home (expression i)) ∙ ap (λ k. 1 + k) (ap counted (value_rolls i) ∙ h.counts)
    by false = tt

writable_sized : (n : ℕ) (o : Option Target) → IfSome o (SizedTarget n) → IfSome (writable o) (SizedTarget n)
writable_sized n None h = tt
writable_sized n (Some t) h = by t.constant
  where
    by : (b : Bool) → IfSome (cond b None (Some t)) (SizedTarget n)
    by true = tt
    by false = h

named_sized : (at : ℕ) (m : List ℕ) (o : Option Binding) → Measured 0 14 (named at m o)
named_sized at m None = tt
named_sized at m (Some (B.Constant v)) = leaf_sized _ _ _ (node-EnumName m v) refl refl
named_sized at m (Some (B.Global shape)) = variable_by (record { home = home.Global m; shape = shape })
  where
    variable_by : (x : Variable) → Measured 0 14 (variable at x)
    variable_by x = by x.shape.array
      where
        by : (b : Bool) → Measured 0 14 (cond b (T.Array (record { token = at; home = x.home; kind = x.shape.kind; constant = x.shape.constant }))
            (of_kind x.shape.kind (node.Read (place.Var x.home))))
        by true = (refl, refl)
        by false = read_sized 0 (Some (target (place.Var x.home) x.shape)) (var_sized x)
named_sized at m (Some (B.Local k shape)) = variable_by (record { home = home.Slot k; shape = shape })
  where
    variable_by : (x : Variable) → Measured 0 14 (variable at x)
    variable_by x = by x.shape.array
      where
        by : (b : Bool) → Measured 0 14 (cond b (T.Array (record { token = at; home = x.home; kind = x.shape.kind; constant = x.shape.constant }))
            (of_kind x.shape.kind (node.Read (place.Var x.home))))
        by true = (refl, refl)
        by false = read_sized 0 (Some (target (place.Var x.home) x.shape)) (var_sized x)
named_sized at m (Some (B.Function f)) = tt
named_sized at m (Some B.Printf) = tt

-- a count and a level in the place of others
sized_as : (n k l m : ℕ) (x : kinds.Typed) → n ≡ k → l ≡ m → Measured n l x → Measured k m x
sized_as n k l m x e f h = subst (λ p. Measured p m x) e (subst (λ p. Measured n p x) f h)

-- the brackets of an operand
operand : (n l need : ℕ) (x : ExpressionTree) → Sized n l x → counted x + bracket_count (level_of x) need ≡ n + bracket_count l need
operand n l need x h = λ i. h.counts i + bracket_count (h.level i) need

unary_sized : (n l : ℕ) (op : UnaryOp) (o : Option Valued) → IfSome o (SizedValue n l) → Measured (n + bracket_count l 14 + 1) 14 (unary op o)
unary_sized n l op None h = tt
unary_sized n l op (Some a) h =
    subst (λ x. Sized (n + bracket_count l 14 + 1) 14 (Typed (Some (unary_kind op a.kind)) x))
    (sym (node-Unary op (expression a) ∙ ap (Unary op) (value_rolls a)))
    (record { counts = ap (λ k. k + 1) (operand n l 14 (value_tree a) h); level = refl })

counting_sized : (n : ℕ) (up after : Bool) (o : Option Target) → IfSome o (SizedTarget n) → Measured (n + 1) 14 (counting up after o)
counting_sized n up after None h = tt
counting_sized n up after (Some t) h = subst (λ x. Sized (n + 1) 14 (Typed (Some t.kind) x)) (sym (node-Count t.place up after))
    (record { counts = ap (λ k. k + 1) h; level = refl })

cast_sized : (n l : ℕ) (kind : IntKind) (o : Option Valued) → IfSome o (SizedValue n l) → Measured (n + bracket_count l 14 + 1) 14 (cast kind o)
cast_sized n l kind None h = tt
cast_sized n l kind (Some a) h =
    subst (λ x. Sized (n + bracket_count l 14 + 1) 14 (Typed (Some kind) x)) (sym (node-Cast (expression a) ∙ ap Cast (value_rolls a)))
    (record { counts = ap (λ k. k + 1) (operand n l 14 (value_tree a) h); level = refl })

cast_void_sized : (n l : ℕ) (o : Option Expression) → IfSome o (SizedDropped n l) → Measured (n + bracket_count l 14 + 1) 14 (cast_void o)
cast_void_sized n l None h = tt
cast_void_sized n l (Some a) h = subst (λ x. Sized (n + bracket_count l 14 + 1) 14 (Typed None x)) (sym (node-Cast a))
    (record { counts = ap (λ k. k + 1) (operand n l 14 (expression_tree a) h); level = refl })

binary_sized : (op : BinaryOp) (n l m k : ℕ) (o u : Option Valued) → IfSome o (SizedValue n l) → IfSome u (SizedValue m k)
    → Measured (n + bracket_count l (binary_level op) + 1 + (m + bracket_count k (binary_level op + 1))) (binary_level op) (binary op o u)
binary_sized op n l m k None u h i = tt
binary_sized op n l m k (Some a) None h i = tt
binary_sized op n l m k (Some a) (Some b) h i =
    subst (λ x. Sized (n + bracket_count l (binary_level op) + 1 + (m + bracket_count k (binary_level op + 1))) (binary_level op)
    (Typed (Some (binary_kind op a.kind b.kind)) x))
    (sym (node-Binary op (expression a) (expression b) ∙ (ap (λ x. Binary op x (expression_tree (expression b))) (value_rolls a) ∙
    ap (Binary op (value_tree a)) (value_rolls b))))
    (record { counts = λ j. operand n l (binary_level op) (value_tree a) h j + 1 + operand m k (binary_level op + 1) (value_tree b) i j; level = refl })

choice_node : (a b c : Valued) → node_tree (node.Conditional (expression a) (expression b) (expression c)) ≡ Conditional (value_tree a) (value_tree b)
    (value_tree c)
choice_node a b c = rw (node-Conditional (expression a) (expression b) (expression c), value_rolls a, value_rolls b, value_rolls c) refl

choice_sized : (n l m k p q : ℕ) (o u w : Option Valued) → IfSome o (SizedValue n l) → IfSome u (SizedValue m k) → IfSome w (SizedValue p q)
    → Measured (n + bracket_count l 4 + 1 + m + (p + bracket_count q 3)) 3 (choice o u w)
choice_sized n l m k p q None u w h i j = tt
choice_sized n l m k p q (Some a) None w h i j = tt
choice_sized n l m k p q (Some a) (Some b) None h i j = tt
choice_sized n l m k p q (Some a) (Some b) (Some c) h i j =
    subst (λ x. Sized (n + bracket_count l 4 + 1 + m + (p + bracket_count q 3)) 3 (Typed (Some (usual_kind b.kind c.kind)) x))
    (sym (choice_node a b c))
    (record { counts = λ z. operand n l 4 (value_tree a) h z + 1 + i.counts z + operand p q 3 (value_tree c) j z; level = refl })

assignment_sized : (op : Option ArithOp) (n m k : ℕ) (o : Option Target) (u : Option Valued) → IfSome o (SizedTarget n) → IfSome u (SizedValue m k) →
    Measured (n + 1 + (m + bracket_count k 2)) 2 (assignment op o u)
assignment_sized op n m k None u h i = tt
assignment_sized op n m k (Some t) None h i = tt
assignment_sized None n m k (Some t) (Some a) h i =
    subst (λ x. Sized (n + 1 + (m + bracket_count k 2)) 2 (Typed (Some t.kind) x))
    (sym (node-Assign t.place (expression a) ∙ ap (Assign (place_tree t.place)) (value_rolls a)))
    (record { counts = λ z. h z + 1 + operand m k 2 (value_tree a) i z; level = refl })
assignment_sized (Some op) n m k (Some t) (Some a) h i =
    subst (λ x. Sized (n + 1 + (m + bracket_count k 2)) 2 (Typed (Some t.kind) x))
    (sym (node-Update op t.place (expression a) ∙ ap (Update op (place_tree t.place)) (value_rolls a)))
    (record { counts = λ z. h z + 1 + operand m k 2 (value_tree a) i z; level = refl })

left_sized : (n l m k : ℕ) (a : Expression) (b : kinds.Typed) → SizedDropped n l a → Measured m k b →
    Measured (n + 1 + (m + bracket_count k 2)) 1 (with_left a b)
left_sized n l m k a (T.Value b) h i =
    subst (λ x. Sized (n + 1 + (m + bracket_count k 2)) 1 (Typed (Some b.kind) x))
    (sym (node-Comma a (expression b) ∙ ap (Comma (expression_tree a)) (value_rolls b)))
    (record { counts = λ z. h.counts z + 1 + operand m k 2 (value_tree b) i z; level = refl })
left_sized n l m k a (T.Void b) h i =
    subst (λ x. Sized (n + 1 + (m + bracket_count k 2)) 1 (Typed None x))
    (sym (node-Comma a (expression_of None b) ∙ ap (Comma (expression_tree a)) (void_rolls b)))
    (record { counts = λ z. h.counts z + 1 + operand m k 2 (Typed None (node_tree b)) i z; level = refl })
left_sized n l m k a _ h i = tt

comma_sized : (n l m k : ℕ) (o : Option Expression) (b : kinds.Typed) → IfSome o (SizedDropped n l) → Measured m k b →
    Measured (n + 1 + (m + bracket_count k 2)) 1 (comma o b)
comma_sized n l m k None b h i = tt
comma_sized n l m k (Some a) b h i = left_sized n l m k a b h i

-- ---- calls

-- an argument that is handed on counts as it is written
argument_sized : (n l : ℕ) (w : Want) (x : kinds.Typed) → fits w x ≡ true → Measured n l x →
    (e : Expression) × (handed x ≡ e ∷ []) × Sized n l (expression_tree e)
argument_sized n l (want.Number kind constant) (T.Value v) f h = (expression v, refl, subst (Sized n l) (sym (value_rolls v)) h)
argument_sized n l (want.Sized wide) (T.Value v) f h = (expression v, refl, subst (Sized n l) (sym (value_rolls v)) h)
argument_sized n l (want.Array kind constant external) (T.Array a) f h =
    (array_expression a, refl, subst (Sized n l) (sym (expression_rolls (record { kind = Some a.kind; node = node.Array a.home }))) (leaf_as n l h))
  where
    leaf_as : (n l : ℕ) → (n ≡ 0) × (l ≡ 14) → Sized n l (Typed (Some a.kind) (node_tree (node.Array a.home)))
    leaf_as n l h = subst (λ p. Sized p l (Typed (Some a.kind) (node_tree (node.Array a.home)))) (sym h.0)
        (subst (λ p. Sized 0 p (Typed (Some a.kind) (node_tree (node.Array a.home)))) (sym h.1)
        (leaf_sized (Some a.kind) (node.Array a.home) _ (node-Array a.home) refl refl))
argument_sized n l (want.Array kind constant external) (T.Value v) f h = absurd (true≢false (sym f))
argument_sized n l (want.Number kind constant) (T.Array a) f h = absurd (true≢false (sym f))
argument_sized n l (want.Sized wide) (T.Array a) f h = absurd (true≢false (sym f))
argument_sized n l (want.Number kind constant) (T.Void a) f h = absurd (true≢false (sym f))
argument_sized n l (want.Array kind constant external) (T.Void a) f h = absurd (true≢false (sym f))
argument_sized n l (want.Sized wide) (T.Void a) f h = absurd (true≢false (sym f))
argument_sized n l (want.Number kind constant) (T.Text bytes) f h = absurd (true≢false (sym f))
argument_sized n l (want.Array kind constant external) (T.Text bytes) f h = absurd (true≢false (sym f))
argument_sized n l (want.Sized wide) (T.Text bytes) f h = absurd (true≢false (sym f))
argument_sized n l (want.Number kind constant) T.Wrong f h = absurd (true≢false (sym f))
argument_sized n l (want.Array kind constant external) T.Wrong f h = absurd (true≢false (sym f))
argument_sized n l (want.Sized wide) T.Wrong f h = absurd (true≢false (sym f))

module _ (word : ℕ → List ℕ) where
  -- arguments, each with its measure
  abbrev AllMeasured : Terms → List Given → Type 0
  AllMeasured NoTerm [] = Unit {0}
  AllMeasured (Then x xs) (g ∷ gs) = Measured (term_counted word x) (term_level word x) g.typed × AllMeasured xs gs
  AllMeasured _ _ = ⊥

  abbrev tree_list : List Expression → Arguments
  tree_list es = arguments (map expression_tree es)

  arguments_sized : (ws : List Want) (xs : Terms) (gs : List Given) → AllMeasured xs gs → length ws ≡ length gs → each_fits ws gs ≡ true →
      all_counted (tree_list (all_handed gs)) ≡ W.all_counted word xs
  arguments_sized ws NoTerm [] h l f = refl
  arguments_sized ws NoTerm (g ∷ gs) h l f = absurd h
  arguments_sized ws (Then x xs) [] h l f = absurd h
  arguments_sized [] (Then x xs) (g ∷ gs) h l f = absurd (omega arith)
  arguments_sized (w ∷ ws) (Then x xs) (g ∷ gs) h l f =
      let a = argument_sized (term_counted word x) (term_level word x) w g.typed (and_left (fits w g.typed) (each_fits ws gs) f) h.0 in
      let r = arguments_sized ws xs gs h.1 (omega arith) (and_right (fits w g.typed) (each_fits ws gs) f) in
      ap (λ es. all_counted (tree_list (es ++ all_handed gs))) a.1 ∙
      (λ i. operand (term_counted word x) (term_level word x) 2 (expression_tree a.0) a.2 i + r i)

  result_sized : (result : Option IntKind) (m : List ℕ) (es : List Expression) (n : ℕ) → all_counted (tree_list es) ≡ n →
      Measured (1 + n) 14 (of_result result (node.Call m es))
  result_sized (Some k) m es n e = subst (λ x. Sized (1 + n) 14 (Typed (Some k) x)) (sym (node-Call m es)) (record { counts = ap (λ k. 1 + k) e; level = refl })
  result_sized None m es n e = subst (λ x. Sized (1 + n) 14 (Typed None x)) (sym (node-Call m es)) (record { counts = ap (λ k. 1 + k) e; level = refl })

  call_sized : (result : Option IntKind) (m : List ℕ) (front : List Expression) (ws : List Want) (gs : List Given) (n : ℕ) →
      (length ws ≡ length gs → each_fits ws gs ≡ true → all_counted (tree_list (front ++ all_handed gs)) ≡ n)
      → Measured (1 + n) 14 (call result m front ws gs)
  call_sized result m front ws gs n f = by (length ws == length gs) (each_fits ws gs) refl refl
    where
      by : (b c : Bool) → (length ws == length gs) ≡ b → each_fits ws gs ≡ c →
          Measured (1 + n) 14 (cond (b && c) (of_result result (node.Call m (front ++ all_handed gs))) T.Wrong)
      by true true i j = result_sized result m (front ++ all_handed gs) n (f (eqb-true (length ws) (length gs) i) j)
      by true false i j = tt
      by false c i j = tt

  -- `printf`: its text counts nothing
  text_counts : (bytes : List ℕ) (rest : Arguments) (n : ℕ) → all_counted rest ≡ n →
      all_counted (Argument (expression_tree (expression_of None (node.Text bytes))) rest) ≡ 0 + bracket_count 14 2 + n
  text_counts bytes rest n e =
      let t = leaf_sized None (node.Text bytes) _ (node-Text bytes) refl refl in
      let s = subst (Sized 0 14) (sym (void_rolls (node.Text bytes))) t in
      λ i. operand 0 14 2 (expression_tree (expression_of None (node.Text bytes))) s i + e i

  printing_sized : (m bytes : List ℕ) (o : Option (List Want)) (xs : Terms) (gs : List Given) → AllMeasured xs gs →
      Measured (1 + (0 + bracket_count 14 2 + W.all_counted word xs)) 14 (printing m bytes o gs)
  printing_sized m bytes None xs gs h = tt
  printing_sized m bytes (Some ws) xs gs h =
      call_sized (Some Int) m (expression_of None (node.Text bytes) ∷ []) ws gs (0 + bracket_count 14 2 + W.all_counted word xs)
      (λ l f. text_counts bytes (tree_list (all_handed gs)) (W.all_counted word xs) (arguments_sized ws xs gs h l f))

  printf_sized : (m : List ℕ) (xs : Terms) (gs : List Given) → AllMeasured xs gs → Measured (1 + W.all_counted word xs) 14 (printf m gs)
  printf_sized m NoTerm [] h = tt
  printf_sized m NoTerm (g ∷ gs) h = absurd h
  printf_sized m (Then x xs) [] h = absurd h
  printf_sized m (Then x xs) (g ∷ gs) h = by g.typed h.0
    where
      by : (t : kinds.Typed) → Measured (term_counted word x) (term_level word x) t →
          Measured (1 + W.all_counted word (Then x xs)) 14 (formatted m (text_of t) gs)
      by (T.Text bytes) k =
          sized_as (1 + (0 + bracket_count 14 2 + W.all_counted word xs)) (1 + W.all_counted word (Then x xs)) 14 14 (printing m bytes (wanted bytes) gs)
          (λ i. 1 + (sym k.0 i + bracket_count (sym k.1 i) 2 + W.all_counted word xs)) refl (printing_sized m bytes (wanted bytes) xs gs h.1)
      by (T.Value v) k = tt
      by (T.Void a) k = tt
      by (T.Array a) k = tt
      by T.Wrong k = tt

  called_sized : (m : List ℕ) (o : Option Binding) (xs : Terms) (gs : List Given) → AllMeasured xs gs → Measured (1 + W.all_counted word xs) 14 (called m o gs)
  called_sized m None xs gs h = tt
  called_sized m (Some (B.Function f)) xs gs h = call_sized f.result m [] f.wants gs (W.all_counted word xs) (λ l k. arguments_sized f.wants xs gs h l k)
  called_sized m (Some B.Printf) xs gs h = printf_sized m xs gs h
  called_sized m (Some (B.Constant v)) xs gs h = tt
  called_sized m (Some (B.Global shape)) xs gs h = tt
  called_sized m (Some (B.Local k shape)) xs gs h = tt

-- ---- expressions

module _ (env : Env) where
  abbrev n_of : Term → ℕ
  n_of t = term_counted env.word t

  abbrev l_of : Term → ℕ
  l_of t = term_level env.word t

  -- a mark in front: of a target nothing stands in brackets
  prefix_sized : (o : Option Bool) (op : UnaryOp) (a : Term) → Measured (n_of a) (l_of a) (typed env a) →
      (IfSome (target_of env a) (λ t. SizedTarget (n_of a) t × (l_of a ≡ 14)))
      → Measured (n_of a + bracket_count (l_of a) 14 + 1) 14
      (elim o [ Some up ↦ counting up false (writable (target_of env a)) | None ↦ unary op (value_of (typed env a)) ])
  prefix_sized None op a h t = unary_sized (n_of a) (l_of a) op (value_of (typed env a)) (value_sized (n_of a) (l_of a) (typed env a) h)
  prefix_sized (Some up) op a h t = target_by (target_of env a) t
    where
      target_by : (o : Option Target) → IfSome o (λ t. SizedTarget (n_of a) t × (l_of a ≡ 14)) →
          Measured (n_of a + bracket_count (l_of a) 14 + 1) 14 (counting up false (writable o))
      target_by None h = tt
      target_by (Some t) h =
          sized_as (n_of a + 1) (n_of a + bracket_count (l_of a) 14 + 1) 14 14 (counting up false (writable (Some t)))
          (ap (λ k. k + 1) (let e : bracket_count (l_of a) 14 ≡ 0 = ap (λ l. bracket_count l 14) h.1 in omega arith)) refl
          (counting_sized (n_of a) up false (writable (Some t)) (writable_sized (n_of a) (Some t) h.0))

  target_only : (n : ℕ) (l : ℕ) (o : Option Target) → IfSome o (λ t. SizedTarget n t × (l ≡ 14)) → IfSome o (SizedTarget n)
  target_only n l None h = tt
  target_only n l (Some t) h = h.0

  both_facts : (n l : ℕ) → l ≡ 14 → (o : Option Target) → IfSome o (SizedTarget n) → IfSome o (λ t. SizedTarget n t × (l ≡ 14))
  both_facts n l e None h = tt
  both_facts n l e (Some t) h = (h, e)

  mutual
    pub measured : (t : Term) → Measured (n_of t) (l_of t) (typed env t)
    measured (At first form) = form_measured form

    form_measured : (f : Form) → Measured (form_counted env.word f) (form_level env.word f) (form_typed env f)
    form_measured (s.Constant at) = constant_sized (env.word at)
    form_measured (s.Variable at) = named_sized at (env.word at) (meaning env at)
    form_measured (s.Cell at i) =
        let o = variable_of (env.word at) (meaning env at) in
        read_sized (1 + n_of i) (cell_target o (value_of (typed env i)))
        (cell_target_sized (n_of i) (l_of i) o (value_of (typed env i)) (value_sized (n_of i) (l_of i) (typed env i) (measured i)))
    form_measured (s.Prefix m a) = prefix_sized (step_of (mark_of (env.word m))) (unary_op (mark_of (env.word m))) a (measured a) (target_measured a)
    form_measured (s.Suffix m a) =
        counting_sized (n_of a) (counts_up (mark_of (env.word m))) true (writable (target_of env a))
        (writable_sized (n_of a) (target_of env a) (target_only (n_of a) (l_of a) (target_of env a) (target_measured a)))
    form_measured (s.CastTo words a) = cast_sized (n_of a) (l_of a) (kind_of env.word words) (value_of (typed env a))
        (value_sized (n_of a) (l_of a) (typed env a) (measured a))
    form_measured (s.CastVoid a) = cast_void_sized (n_of a) (l_of a) (dropped (typed env a)) (dropped_sized (n_of a) (l_of a) (typed env a) (measured a))
    form_measured (s.Binary m a b) =
        binary_sized (binary_op (mark_of (env.word m))) (n_of a) (l_of a) (n_of b) (l_of b) (value_of (typed env a)) (value_of (typed env b))
        (value_sized (n_of a) (l_of a) (typed env a) (measured a)) (value_sized (n_of b) (l_of b) (typed env b) (measured b))
    form_measured (s.Choice a b c) =
        choice_sized (n_of a) (l_of a) (n_of b) (l_of b) (n_of c) (l_of c) (value_of (typed env a)) (value_of (typed env b)) (value_of (typed env c))
        (value_sized (n_of a) (l_of a) (typed env a) (measured a)) (value_sized (n_of b) (l_of b) (typed env b) (measured b))
        (value_sized (n_of c) (l_of c) (typed env c) (measured c))
    form_measured (s.Assign m t a) =
        assignment_sized (update_op (mark_of (env.word m))) (n_of t) (n_of a) (l_of a) (writable (target_of env t)) (value_of (typed env a))
        (writable_sized (n_of t) (target_of env t) (target_only (n_of t) (l_of t) (target_of env t) (target_measured t)))
        (value_sized (n_of a) (l_of a) (typed env a) (measured a))
    form_measured (s.Commas a bs) = commas_first bs a (measured a)
    form_measured (s.Call at xs) = called_sized env.word (env.word at) (meaning env at) xs (given env xs) (given_measured xs)
    form_measured (s.Texts ats) = (refl, refl)
    form_measured s.Unknown = tt

    commas_first : (bs : Terms) (a : Term) → Measured (n_of a) (l_of a) (typed env a) →
        Measured (commas_counted env.word (n_of a) bs) (form_level env.word (s.Commas a bs)) (commas env (typed env a) bs)
    commas_first NoTerm a h = h
    commas_first (Then b bs) a h =
        commas_measured bs (n_of a + 1 + (n_of b + bracket_count (l_of b) 2)) (comma (dropped (typed env a)) (typed env b))
        (comma_sized (n_of a) (l_of a) (n_of b) (l_of b) (dropped (typed env a)) (typed env b) (dropped_sized (n_of a) (l_of a) (typed env a) h) (measured b))

    commas_measured : (bs : Terms) (n : ℕ) (a : kinds.Typed) → Measured n 1 a → Measured (commas_counted env.word n bs) 1 (commas env a bs)
    commas_measured NoTerm n a h = h
    commas_measured (Then b bs) n a h =
        commas_measured bs (n + 1 + (n_of b + bracket_count (l_of b) 2)) (comma (dropped a) (typed env b))
        (comma_sized n 1 (n_of b) (l_of b) (dropped a) (typed env b) (dropped_sized n 1 a h) (measured b))

    target_measured : (t : Term) → IfSome (target_of env t) (λ x. SizedTarget (n_of t) x × (l_of t ≡ 14))
    target_measured (At first (s.Variable at)) = both_facts 0 14 refl (number_target (variable_of (env.word at) (meaning env at)))
        (number_target_sized (variable_of (env.word at) (meaning env at)))
    target_measured (At first (s.Cell at i)) =
        let o = variable_of (env.word at) (meaning env at) in
        both_facts (1 + n_of i) 14 refl (cell_target o (value_of (typed env i)))
        (cell_target_sized (n_of i) (l_of i) o (value_of (typed env i)) (value_sized (n_of i) (l_of i) (typed env i) (measured i)))
    target_measured (At first _) = tt

    given_measured : (xs : Terms) → AllMeasured env.word xs (given env xs)
    given_measured NoTerm = tt
    given_measured (Then x xs) = (measured x, given_measured xs)
