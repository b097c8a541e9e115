-- Expressions as they are written print: their names are names, and their numbers constants of their kind.
use Rattle.std.proofs.Common.{ℕ, pos, ◌≤◌, Bool, true, false, cond, List, [], ◌∷◌, ◌++◌, map, Option, Some, None, ◌≡◌, refl, sym, ap, subst, ◌∙◌, arith}
use Rattle.std.specs.Prelude.{IfSome}
use Rattle.std.proofs.lemmas.Bool.Decides.{nat_tests}
use Rattle.c_types.specs.declared.kinds.IntKind.{IntKind}
use Rattle.c_types.specs.declared.kinds.IntKind.TheVariants.{Int}
use Rattle.c_types.specs.declared.kinds.ArithOp.{ArithOp}
use Rattle.c_types.specs.Numbers.{usual_kind}
use Rattle.c_lexer.specs.declared.number.Integer.{Integer}
use Rattle.c_lexer.specs.Marks.{mark_of}
use Rattle.c_lexer.specs.Numbers.{integer_of}
use Rattle.c_tree.specs.declared.tree.Slot.{Slot}
use Rattle.c_tree.specs.declared.tree.Expression.{Expression}
use Rattle.c_tree.specs.declared.tree.Place as place
use Rattle.c_tree.specs.declared.tree.Node as node
use Rattle.c_tree.specs.declared.tree.Home.TheVariants as home
use Rattle.c_tree.specs.declared.tree.UnaryOp.{UnaryOp}
use Rattle.c_tree.specs.declared.tree.BinaryOp.{BinaryOp}
use Rattle.c_tree.specs.ExpressionTrees.{ExpressionTree, Typed, Unary, Cast, Binary, Conditional, Assign, Update, Comma, Text, arguments, expression_tree, node_tree, place_tree}
use Rattle.c_tree.specs.TextExpressions.{home_name}
use Rattle.c_tree.proofs.ExpressionLaws.{place-Var, place-Cell, node-Number, node-Character, node-EnumName, node-Text, node-Array, node-Read, node-Unary, node-Cast, node-Binary, node-Conditional, node-Assign, node-Update, node-Count, node-Comma, node-Call}
use Rattle.c_grammar.specs.Terms as s
use Rattle.c_grammar.specs.Terms.{Term, Form, Terms, At, NoTerm, Then}
use Rattle.c_grammar.specs.Words.{is_character, character, kind_of}
use Rattle.c_kinds.specs.declared.binding.Shape.{Shape}
use Rattle.c_kinds.specs.declared.binding.Binding.{Binding}
use Rattle.c_kinds.specs.declared.binding.Binding.TheVariants as B
use Rattle.c_kinds.specs.declared.binding.Want.{Want}
use Rattle.c_kinds.specs.declared.typed.Typed as kinds
use Rattle.c_kinds.specs.declared.typed.Typed.TheVariants as T
use Rattle.c_kinds.specs.declared.typed.Valued.{Valued}
use Rattle.c_kinds.specs.declared.typed.Variable.{Variable}
use Rattle.c_kinds.specs.declared.typed.Target.{Target}
use Rattle.c_kinds.specs.declared.typed.Given.{Given}
use Rattle.c_kinds.specs.Marks.{unary_kind, binary_kind, step_of, counts_up, unary_op, binary_op, update_op}
use Rattle.c_kinds.specs.Scopes.{Env, meaning}
use Rattle.c_kinds.specs.Values.{of_kind, expression_of, expression, of_result, value_of, dropped, number, character_constant, number_target, cell_target, target, writable, reading, variable, unary, counting, cast, cast_void, binary, choice, assignment, with_left, comma}
use Rattle.c_kinds.specs.Names.{variable_of, named}
use Rattle.c_kinds.specs.Calls.{handed, all_handed, array_expression, all_fit, call, text_of, printing, formatted, printf, called}
use Rattle.c_kinds.specs.Formats.{wanted}
use Rattle.c_kinds.specs.Typing.{constant, typed, form_typed, commas, target_of, given}
use Rattle.c_resolved_defs.specs.Names.{Names}
use Rattle.c_resolved_defs.specs.PrintableExpressions.{IsName, IsConstant, AreBytes, ArgumentPrints, Prints, PlacePrints, AllPrint}
use Rattle.c_resolved_defs.specs.Scopes.{Scope}
use Rattle.c_resolved_defs.specs.Within.{Each}
use Rattle.c_resolving_laws.specs.Read.{IsReadTerm, IsReadForm, AreReadTerms}
use Rattle.c_resolving_laws.proofs.Known.{HasShape, IsKnown, Knows}
use Rattle.c_resolving_laws.proofs.Numbers.{IsNumberOf, integer_in_range}
use Rattle.c_resolving_laws.proofs.Values.{expression_rolls, value_tree, value_rolls, void_rolls, name_there}

module _ (slots : List Slot) where
  -- what an expression is, where it prints
  abbrev pub Printed : kinds.Typed → Type 0
  Printed (T.Value v) = Prints slots (value_tree v)
  Printed (T.Void a) = Prints slots (Typed None (node_tree a))
  Printed (T.Text bytes) = AreBytes bytes
  Printed (T.Array a) = IsName (home_name slots a.home)
  Printed T.Wrong = Unit {0}

  abbrev PrintedValue : Valued → Type 0
  PrintedValue v = Prints slots (value_tree v)

  abbrev PrintedTarget : Target → Type 0
  PrintedTarget t = PlacePrints slots (place_tree t.place)

  abbrev PrintedDropped : Expression → Type 0
  PrintedDropped e = Prints slots (expression_tree e)

  abbrev NamedVariable : Variable → Type 0
  NamedVariable x = IsName (home_name slots x.home)

  value_prints : (x : kinds.Typed) → Printed x → IfSome (value_of x) PrintedValue
  value_prints (T.Value v) h = h
  value_prints _ h = tt

  dropped_prints : (x : kinds.Typed) → Printed x → IfSome (dropped x) PrintedDropped
  dropped_prints (T.Value v) h = subst (Prints slots) (sym (value_rolls v)) h
  dropped_prints (T.Void a) h = subst (Prints slots) (sym (void_rolls a)) h
  dropped_prints _ h = tt

  pub zero_prints : IsConstant (Some Int) (pos 0)
  zero_prints = grind (arith, nat_tests)

  constant_prints : (w : List ℕ) → character w ≤ 255 → Printed (constant w)
  constant_prints w h = by (is_character w)
    where
      number_by : (o : Option Integer) → IfSome o (λ (i : Integer). IsNumberOf i.kind i.value) → Printed (number o)
      number_by None k = subst (λ x. Prints slots (Typed (Some Int) x)) (sym (node-Number (pos 0))) zero_prints
      number_by (Some i) k = subst (λ x. Prints slots (Typed (Some i.kind) x)) (sym (node-Number (pos i.value))) k.1

      by : (b : Bool) → Printed (cond b (character_constant (character w)) (number (integer_of w)))
      by true = subst (λ x. Prints slots (Typed (Some Int) x)) (sym (node-Character (character w))) h
      by false = number_by (integer_of w) (integer_in_range w)

  read_prints : (o : Option Target) → IfSome o PrintedTarget → Printed (reading o)
  read_prints None h = tt
  read_prints (Some t) h = subst (λ x. Prints slots (Typed (Some t.kind) x)) (sym (node-Read t.place)) h

  var_prints : (x : Variable) → NamedVariable x → PrintedTarget (target (place.Var x.home) x.shape)
  var_prints x h = subst (PlacePrints slots) (sym (place-Var x.home)) h

  number_target_prints : (o : Option Variable) → IfSome o NamedVariable → IfSome (number_target o) PrintedTarget
  number_target_prints None h = tt
  number_target_prints (Some x) h = by x.shape.array
    where
      by : (b : Bool) → IfSome (cond b None (Some (target (place.Var x.home) x.shape))) PrintedTarget
      by true = tt
      by false = var_prints x h

  cell_target_prints : (o : Option Variable) (i : Option Valued) → IfSome o NamedVariable → IfSome i PrintedValue → IfSome (cell_target o i) PrintedTarget
  cell_target_prints None i h k = tt
  cell_target_prints (Some x) None h k = tt
  cell_target_prints (Some x) (Some i) h k = by x.shape.array
    where
      by : (b : Bool) → IfSome (cond b (Some (target (place.Cell x.home (expression i)) x.shape)) None) PrintedTarget
      by true = subst (PlacePrints slots) (sym (place-Cell x.home (expression i))) (h, subst (Prints slots) (sym (value_rolls i)) k)
      by false = tt

  writable_prints : (o : Option Target) → IfSome o PrintedTarget → IfSome (writable o) PrintedTarget
  writable_prints None h = tt
  writable_prints (Some t) h = by t.constant
    where
      by : (b : Bool) → IfSome (cond b None (Some t)) PrintedTarget
      by true = tt
      by false = h

  variable_prints : (at : ℕ) (x : Variable) → NamedVariable x → Printed (variable at x)
  variable_prints at x h = by x.shape.array
    where
      by : (b : Bool) → Printed (cond b (T.Array (record { token = at; home = x.home; kind = x.shape.kind; constant = x.shape.constant }))
          (of_kind x.shape.kind (node.Read (place.Var x.home))))
      by true = h
      by false = read_prints (Some (target (place.Var x.home) x.shape)) (var_prints x h)

  unary_prints : (op : UnaryOp) (o : Option Valued) → IfSome o PrintedValue → Printed (unary op o)
  unary_prints op None h = tt
  unary_prints op (Some a) h = subst (λ x. Prints slots (Typed (Some (unary_kind op a.kind)) x))
      (sym (node-Unary op (expression a) ∙ ap (Unary op) (value_rolls a))) h

  counting_prints : (up after : Bool) (o : Option Target) → IfSome o PrintedTarget → Printed (counting up after o)
  counting_prints up after None h = tt
  counting_prints up after (Some t) h = subst (λ x. Prints slots (Typed (Some t.kind) x)) (sym (node-Count t.place up after)) h

  cast_prints : (kind : IntKind) (o : Option Valued) → IfSome o PrintedValue → Printed (cast kind o)
  cast_prints kind None h = tt
  cast_prints kind (Some a) h = subst (λ x. Prints slots (Typed (Some kind) x)) (sym (node-Cast (expression a) ∙ ap Cast (value_rolls a))) h

  cast_void_prints : (o : Option Expression) → IfSome o PrintedDropped → Printed (cast_void o)
  cast_void_prints None h = tt
  cast_void_prints (Some a) h = subst (λ x. Prints slots (Typed None x)) (sym (node-Cast a)) h

  binary_prints : (op : BinaryOp) (o u : Option Valued) → IfSome o PrintedValue → IfSome u PrintedValue → Printed (binary op o u)
  binary_prints op None u h k = tt
  binary_prints op (Some a) None h k = tt
  binary_prints op (Some a) (Some b) h k =
      subst (λ x. Prints slots (Typed (Some (binary_kind op a.kind b.kind)) x))
      (sym (node-Binary op (expression a) (expression b) ∙ (ap (λ x. Binary op x (expression_tree (expression b))) (value_rolls a) ∙
      ap (Binary op (value_tree a)) (value_rolls b)))) (h, k)

  choice_node : (a b c : Valued) → node_tree (node.Conditional (expression a) (expression b) (expression c)) ≡ Conditional (value_tree a)
      (value_tree b) (value_tree c)
  choice_node a b c = rw (node-Conditional (expression a) (expression b) (expression c), value_rolls a, value_rolls b, value_rolls c) refl

  choice_prints : (o u w : Option Valued) → IfSome o PrintedValue → IfSome u PrintedValue → IfSome w PrintedValue → Printed (choice o u w)
  choice_prints None u w h k l = tt
  choice_prints (Some a) None w h k l = tt
  choice_prints (Some a) (Some b) None h k l = tt
  choice_prints (Some a) (Some b) (Some c) h k l = subst (λ x. Prints slots (Typed (Some (usual_kind b.kind c.kind)) x)) (sym (choice_node a b c)) (h, k, l)

  assignment_prints : (op : Option ArithOp) (o : Option Target) (u : Option Valued) → IfSome o PrintedTarget → IfSome u PrintedValue →
      Printed (assignment op o u)
  assignment_prints op None u h k = tt
  assignment_prints op (Some t) None h k = tt
  assignment_prints None (Some t) (Some a) h k = subst (λ x. Prints slots (Typed (Some t.kind) x))
      (sym (node-Assign t.place (expression a) ∙ ap (Assign (place_tree t.place)) (value_rolls a))) (h, k)
  assignment_prints (Some op) (Some t) (Some a) h k = subst (λ x. Prints slots (Typed (Some t.kind) x))
      (sym (node-Update op t.place (expression a) ∙ ap (Update op (place_tree t.place)) (value_rolls a))) (h, k)

  left_prints : (a : Expression) (b : kinds.Typed) → PrintedDropped a → Printed b → Printed (with_left a b)
  left_prints a (T.Value b) h k = subst (λ x. Prints slots (Typed (Some b.kind) x))
      (sym (node-Comma a (expression b) ∙ ap (Comma (expression_tree a)) (value_rolls b))) (h, k)
  left_prints a (T.Void b) h k = subst (λ x. Prints slots (Typed None x))
      (sym (node-Comma a (expression_of None b) ∙ ap (Comma (expression_tree a)) (void_rolls b))) (h, k)
  left_prints a _ h k = tt

  comma_prints : (o : Option Expression) (b : kinds.Typed) → IfSome o PrintedDropped → Printed b → Printed (comma o b)
  comma_prints None b h k = tt
  comma_prints (Some a) b h k = left_prints a b h k

  -- ---- calls

  abbrev PrintedGiven : Given → Type 0
  PrintedGiven g = Printed g.typed

  -- an expression that is no text prints as an argument
  as_argument : (x : ExpressionTree) → Prints slots x → ArgumentPrints (Prints slots x) x
  as_argument (Typed kind (Text bytes)) h = absurd h
  as_argument (Typed kind _) h = h

  argument_prints : (x : kinds.Typed) → Printed x → (rest : List Expression) → AllPrint slots (arguments (map expression_tree rest)) →
      AllPrint slots (arguments (map expression_tree (handed x ++ rest)))
  argument_prints (T.Value v) h rest k = let p = subst (Prints slots) (sym (value_rolls v)) h in (as_argument (expression_tree (expression v)) p, k)
  argument_prints (T.Array a) h rest k =
      let e = expression_rolls (record { kind = Some a.kind; node = node.Array a.home }) ∙ ap (Typed (Some a.kind)) (node-Array a.home) in
      let p = subst (Prints slots) (sym e) h in
      (as_argument (expression_tree (array_expression a)) p, k)
  argument_prints _ h rest k = k

  all_print : (gs : List Given) → Each PrintedGiven gs → AllPrint slots (arguments (map expression_tree (all_handed gs)))
  all_print [] h = tt
  all_print (g ∷ gs) h = argument_prints g.typed h.0 (all_handed gs) (all_print gs h.1)

  result_prints : (result : Option IntKind) (m : List ℕ) (es : List Expression) → IsName m → AllPrint slots (arguments (map expression_tree es)) →
      Printed (of_result result (node.Call m es))
  result_prints (Some k) m es i h = subst (λ x. Prints slots (Typed (Some k) x)) (sym (node-Call m es)) (i, h)
  result_prints None m es i h = subst (λ x. Prints slots (Typed None x)) (sym (node-Call m es)) (i, h)

  call_prints : (result : Option IntKind) (m : List ℕ) (front : List Expression) (ws : List Want) (gs : List Given) → IsName m →
      AllPrint slots (arguments (map expression_tree (front ++ all_handed gs))) → Printed (call result m front ws gs)
  call_prints result m front ws gs i h = by (all_fit ws gs)
    where
      by : (b : Bool) → Printed (cond b (of_result result (node.Call m (front ++ all_handed gs))) T.Wrong)
      by true = result_prints result m (front ++ all_handed gs) i h
      by false = tt

  printing_prints : (m bytes : List ℕ) (o : Option (List Want)) (gs : List Given) → IsName m → AreBytes bytes → Each PrintedGiven gs →
      Printed (printing m bytes o gs)
  printing_prints m bytes None gs i b h = tt
  printing_prints m bytes (Some ws) gs i b h =
      let e = void_rolls (node.Text bytes) ∙ ap (Typed None) (node-Text bytes) in
      call_prints (Some Int) m (expression_of None (node.Text bytes) ∷ []) ws gs i (subst (λ x. ArgumentPrints (Prints slots x) x) (sym e) b, all_print gs h)

  printf_prints : (m : List ℕ) (gs : List Given) → IsName m → Each PrintedGiven gs → Printed (printf m gs)
  printf_prints m [] i h = tt
  printf_prints m (g ∷ gs) i h = by g.typed h.0
    where
      by : (x : kinds.Typed) → Printed x → Printed (formatted m (text_of x) gs)
      by (T.Text bytes) k = printing_prints m bytes (wanted bytes) gs i k h.1
      by (T.Value v) k = tt
      by (T.Void a) k = tt
      by (T.Array a) k = tt
      by T.Wrong k = tt

  called_prints : (m : List ℕ) (o : Option Binding) (gs : List Given) → IsName m → Each PrintedGiven gs → Printed (called m o gs)
  called_prints m None gs i h = tt
  called_prints m (Some (B.Function f)) gs i h = call_prints f.result m [] f.wants gs i (all_print gs h)
  called_prints m (Some B.Printf) gs i h = printf_prints m gs i h
  called_prints m (Some (B.Constant v)) gs i h = tt
  called_prints m (Some (B.Global shape)) gs i h = tt
  called_prints m (Some (B.Local k shape)) gs i h = tt

module _ (n : Names) (ss : List Scope) (env : Env) (knows : Knows n ss env) where
  local_named : (m : List ℕ) (k : ℕ) (shape : Shape) → IsName m → IsKnown n ss m (B.Local k shape) → IsName (home_name n.slots (home.Slot k))
  local_named m k shape i h = subst IsName (sym (name_there n.slots k m (HasShape shape) h.0)) i

  variable_named : (m : List ℕ) (o : Option Binding) → IsName m → IfSome o (IsKnown n ss m) → IfSome (variable_of m o) (NamedVariable n.slots)
  variable_named m None i h = tt
  variable_named m (Some (B.Constant v)) i h = tt
  variable_named m (Some (B.Global shape)) i h = i
  variable_named m (Some (B.Local k shape)) i h = local_named m k shape i h
  variable_named m (Some (B.Function f)) i h = tt
  variable_named m (Some B.Printf) i h = tt

  named_prints : (at : ℕ) (m : List ℕ) (o : Option Binding) → IsName m → IfSome o (IsKnown n ss m) → Printed n.slots (named at m o)
  named_prints at m None i h = tt
  named_prints at m (Some (B.Constant v)) i h = subst (λ x. Prints n.slots (Typed (Some Int) x)) (sym (node-EnumName m v)) i
  named_prints at m (Some (B.Global shape)) i h = variable_prints n.slots at (record { home = home.Global m; shape = shape }) i
  named_prints at m (Some (B.Local k shape)) i h = variable_prints n.slots at (record { home = home.Slot k; shape = shape }) (local_named m k shape i h)
  named_prints at m (Some (B.Function f)) i h = tt
  named_prints at m (Some B.Printf) i h = tt

  prefix_prints : (o : Option Bool) (op : UnaryOp) (a : Term) → Printed n.slots (typed env a) → IfSome (target_of env a) (PrintedTarget n.slots)
      → Printed n.slots (elim o [ Some up ↦ counting up false (writable (target_of env a)) | None ↦ unary op (value_of (typed env a)) ])
  prefix_prints None op a h t = unary_prints n.slots op (value_of (typed env a)) (value_prints n.slots (typed env a) h)
  prefix_prints (Some up) op a h t = counting_prints n.slots up false (writable (target_of env a)) (writable_prints n.slots (target_of env a) t)

  mutual
    pub printed : (t : Term) → IsReadTerm env.word t → Printed n.slots (typed env t)
    printed (At first form) r = form_printed form r

    form_printed : (f : Form) → IsReadForm env.word f → Printed n.slots (form_typed env f)
    form_printed (s.Constant at) r = constant_prints n.slots (env.word at) r
    form_printed (s.Variable at) r = named_prints at (env.word at) (meaning env at) r (knows (env.word at))
    form_printed (s.Cell at i) r =
        let m = env.word at in
        let o = variable_of m (meaning env at) in
        read_prints n.slots (cell_target o (value_of (typed env i)))
        (cell_target_prints n.slots o (value_of (typed env i)) (variable_named m (meaning env at) r.0 (knows m))
        (value_prints n.slots (typed env i) (printed i r.1)))
    form_printed (s.Prefix m a) r = prefix_prints (step_of (mark_of (env.word m))) (unary_op (mark_of (env.word m))) a (printed a r.1) (target_printed a r.1)
    form_printed (s.Suffix m a) r = counting_prints n.slots (counts_up (mark_of (env.word m))) true (writable (target_of env a))
        (writable_prints n.slots (target_of env a) (target_printed a r.1))
    form_printed (s.CastTo words a) r = cast_prints n.slots (kind_of env.word words) (value_of (typed env a)) (value_prints n.slots (typed env a) (printed a r))
    form_printed (s.CastVoid a) r = cast_void_prints n.slots (dropped (typed env a)) (dropped_prints n.slots (typed env a) (printed a r))
    form_printed (s.Binary m a b) r =
        binary_prints n.slots (binary_op (mark_of (env.word m))) (value_of (typed env a)) (value_of (typed env b))
        (value_prints n.slots (typed env a) (printed a r.0)) (value_prints n.slots (typed env b) (printed b r.1))
    form_printed (s.Choice a b c) r =
        choice_prints n.slots (value_of (typed env a)) (value_of (typed env b)) (value_of (typed env c))
        (value_prints n.slots (typed env a) (printed a r.0)) (value_prints n.slots (typed env b) (printed b r.1))
        (value_prints n.slots (typed env c) (printed c r.2))
    form_printed (s.Assign m t a) r =
        assignment_prints n.slots (update_op (mark_of (env.word m))) (writable (target_of env t)) (value_of (typed env a))
        (writable_prints n.slots (target_of env t) (target_printed t r.1)) (value_prints n.slots (typed env a) (printed a r.2))
    form_printed (s.Commas a bs) r = commas_printed bs (typed env a) (printed a r.0) r.1
    form_printed (s.Call at xs) r = called_prints n.slots (env.word at) (meaning env at) (given env xs) r.0 (given_printed xs r.1)
    form_printed (s.Texts ats) r = r
    form_printed s.Unknown r = absurd r

    commas_printed : (bs : Terms) (a : kinds.Typed) → Printed n.slots a → AreReadTerms env.word bs → Printed n.slots (commas env a bs)
    commas_printed NoTerm a h r = h
    commas_printed (Then b bs) a h r = commas_printed bs (comma (dropped a) (typed env b))
        (comma_prints n.slots (dropped a) (typed env b) (dropped_prints n.slots a h) (printed b r.0)) r.1

    target_printed : (t : Term) → IsReadTerm env.word t → IfSome (target_of env t) (PrintedTarget n.slots)
    target_printed (At first (s.Variable at)) r = number_target_prints n.slots (variable_of (env.word at) (meaning env at))
        (variable_named (env.word at) (meaning env at) r (knows (env.word at)))
    target_printed (At first (s.Cell at i)) r =
        let m = env.word at in
        cell_target_prints n.slots (variable_of m (meaning env at)) (value_of (typed env i)) (variable_named m (meaning env at) r.0 (knows m))
        (value_prints n.slots (typed env i) (printed i r.1))
    target_printed (At first _) r = tt

    given_printed : (xs : Terms) → AreReadTerms env.word xs → Each (PrintedGiven n.slots) (given env xs)
    given_printed NoTerm r = tt
    given_printed (Then x xs) r = (printed x r.0, given_printed xs r.1)
