-- The syntax of a derived expression counts the tokens that count in it.
use Rattle.std.proofs.Common.{◌≡◌, ◌<◌, ◌+◌, ℕ, true, cond, List, [], ◌∷◌, ◌++◌, length, map, refl, ap, sym, ◌∙◌, arith}
use Rattle.c_grammar.specs.declared.class.Class.{Class}
use Rattle.c_grammar.specs.declared.class.Class.TheVariants as c
use Rattle.c_grammar.specs.declared.syntax.Syntax.{Syntax}
use Rattle.c_grammar.specs.declared.syntax.Production.{Production}
use Rattle.c_grammar.specs.declared.syntax.Production.TheVariants as p
use Rattle.c_grammar.specs.Classes.{level, is_assign, is_prefix}
use Rattle.c_grammar.specs.Nodes.{node, leaf}
use Rattle.c_grammar.specs.Expressions.{Base, CharBase, IntBase, LongBase, LongIntBase, NumberType, OfBase, Signed, SignedOf, Unsigned, UnsignedOf, Expression, One, More, Assignment, To, Value, Conditional, Choose, Only, Binary, Single, Both, Unary, Prefixed, StepTo, CastTo, CastVoid, Place, StepAfter, CallNone, CallWith, Number, Character, Within, Target, Variable, Cell, Round, Arguments, Last, Then, Argument, Given, Written, Texts, OneText, MoreTexts, base_tokens, type_tokens, expression_tokens, assignment_tokens, conditional_tokens, binary_tokens, unary_tokens, target_tokens, arguments_tokens, argument_tokens, texts_tokens, FitsExpression, FitsAssignment, FitsConditional, FitsBinary, FitsUnary, FitsTarget, FitsArguments, FitsArgument}
use Rattle.c_grammar.specs.ExpressionSyntax.{base_parts, type_end, type_parts, type_node, expression_end, assignment_end, conditional_end, binary_end, unary_end, target_end, arguments_end, argument_end, texts_end, expression_parts, assignment_node, conditional_node, binary_node, unary_parts, target_node, arguments_parts, argument_node, texts_parts, expression_node, unary_node}
use Rattle.c_grammar.specs.Counted.{is_full, own_count}
use Rattle.c_grammar.specs.Parts.{Part, part_of, sum_counted, greatest}
use Rattle.reread_parts_laws.proofs.ExpressionSources.{part_node}
use Rattle.c_source_laws.proofs.Past.{type_past, expression_past, assignment_past, binary_past, target_past, arguments_past, argument_past}
use Rattle.c_source_laws.proofs.Numbered.{Along}
use Rattle.c_source_laws.proofs.Weights.{IsWeighed, weight}
use Rattle.c_source_laws.proofs.Counted.{expression_count, assignment_count, conditional_count, binary_count, unary_count, target_count, arguments_count, argument_count}

-- ---- marks of operators count

assign_weight : (m : Class) → is_assign m ≡ true → weight m ≡ 1
assign_weight c.Equals h = refl
assign_weight c.Update h = refl
assign_weight _ h = absurd cc

prefix_weight : (m : Class) → is_prefix m ≡ true → weight m ≡ 1
prefix_weight c.Sign h = refl
prefix_weight c.Flip h = refl
prefix_weight _ h = absurd cc

binary_weight : (m : Class) → 0 < level m → weight m ≡ 1
binary_weight c.OrElse h = refl
binary_weight c.AndThen h = refl
binary_weight c.BitOr h = refl
binary_weight c.BitXor h = refl
binary_weight c.BitAnd h = refl
binary_weight c.Equality h = refl
binary_weight c.Order h = refl
binary_weight c.Shift h = refl
binary_weight c.Sign h = refl
binary_weight c.Product h = refl
binary_weight _ h = absurd (omega (arith, h))

-- the commas between the operands of an expression
abbrev commas : Expression → ℕ
commas (One a) = 0
commas (More a e) = commas e + 1

module _ (word : ℕ → List ℕ) where
  abbrev Stands : ℕ → List Class → Type 0
  Stands at r = Along IsWeighed word at r

  abbrev q : Syntax → Part
  q x = part_of word x

  abbrev sum_of : List Syntax → ℕ
  sum_of xs = sum_counted (map q xs)

  node_counted : (rule : Production) (first after : ℕ) (xs : List Syntax) →
      (q (node rule first after xs)).counted ≡ own_count word rule first (length (map q xs)) (sum_of xs)
  node_counted rule first after xs = ap (λ (x : Part). x.counted) (part_node word rule first after xs)

  pub node_most : (rule : Production) (first after : ℕ) (xs : List Syntax)
      → (q (node rule first after xs)).most ≡ cond (is_full rule) (own_count word rule first (length (map q xs)) (sum_of xs)) (greatest (map q xs))
  node_most rule first after xs = ap (λ (x : Part). x.most) (part_node word rule first after xs)

  joined : (xs ys : List Syntax) → sum_of (xs ++ ys) ≡ sum_of xs + sum_of ys
  joined [] ys = omega arith
  joined (x ∷ xs) ys = let h = joined xs ys in omega (arith, h)

  leaf_counted : (k : Class) (at : ℕ) → IsWeighed k (word at) → (q (leaf at)).counted ≡ weight k
  leaf_counted k at h = node_counted p.Token at (at + 1) [] ∙ h.counts

  -- ---- words of types and texts

  base_counted : (b : Base) (at : ℕ) (r : List Class) → Stands at (base_tokens b r) → sum_of (base_parts at b) ≡ 0
  base_counted CharBase at r s = let g = leaf_counted c.Char at (s.0) in omega (arith, g)
  base_counted IntBase at r s = let g = leaf_counted c.Int at (s.0) in omega (arith, g)
  base_counted LongBase at r s = let g = leaf_counted c.Long at (s.0) in omega (arith, g)
  base_counted LongIntBase at r s = let g = leaf_counted c.Long at (s.0) in let h = leaf_counted c.Int (at + 1) ((s.1).0) in omega (arith, g, h)

  type_sum : (n : NumberType) (at : ℕ) (r : List Class) → Stands at (type_tokens n r) → sum_of (type_parts at n) ≡ 0
  type_sum (OfBase b) at r s = base_counted b at r s
  type_sum Signed at r s = let g = leaf_counted c.Signed at (s.0) in omega (arith, g)
  type_sum (SignedOf b) at r s = let g = leaf_counted c.Signed at (s.0) in let h = base_counted b (at + 1) r (s.1) in omega (arith, g, h)
  type_sum Unsigned at r s = let g = leaf_counted c.Unsigned at (s.0) in omega (arith, g)
  type_sum (UnsignedOf b) at r s = let g = leaf_counted c.Unsigned at (s.0) in let h = base_counted b (at + 1) r (s.1) in omega (arith, g, h)

  type_counted : (n : NumberType) (at : ℕ) (r : List Class) → Stands at (type_tokens n r) → (q (type_node at n)).counted ≡ 0
  type_counted n at r s = node_counted p.NumberType at (type_end at n) (type_parts at n) ∙ type_sum n at r s

  texts_sum : (n : Texts) (at : ℕ) (r : List Class) → Stands at (texts_tokens n r) → sum_of (texts_parts at n) ≡ 0
  texts_sum OneText at r s = let g = leaf_counted c.Text at (s.0) in omega (arith, g)
  texts_sum (MoreTexts n) at r s = let g = leaf_counted c.Text at (s.0) in let h = texts_sum n (at + 1) r (s.1) in omega (arith, g, h)

  -- ---- expressions

  parts_length : (e : Expression) (at : ℕ) → length (map q (expression_parts at e)) ≡ commas e + commas e + 1
  parts_length (One a) at = refl
  parts_length (More a e) at = let h = parts_length e (assignment_end at a + 1) in omega (arith, h)

  whole : (e : Expression) (at : ℕ) → sum_of (expression_parts at e) + commas e ≡ expression_count e → (q (expression_node at e)).counted ≡ expression_count e
  whole e at h =
      let n = parts_length e at in
      let m = node_counted p.Expression at (expression_end at e) (expression_parts at e) in
      omega (arith, h, n, m)

  unary_whole : (u : Unary) (at : ℕ) → sum_of (unary_parts at u) ≡ unary_count u → (q (unary_node at u)).counted ≡ unary_count u
  unary_whole u at h = node_counted p.Unary at (unary_end at u) (unary_parts at u) ∙ h

  abbrev postfix : (first after : ℕ) (xs : List Syntax) → (q (node p.Postfix first after xs)).counted ≡ sum_of xs
  postfix first after xs = node_counted p.Postfix first after xs

  mutual
    expression_sum : (e : Expression) (at : ℕ) (r : List Class) → FitsExpression e → Stands at (expression_tokens e r) →
        sum_of (expression_parts at e) + commas e ≡ expression_count e
    expression_sum (One a) at r f s = let g = assignment_counted a at r f s in omega (arith, g)
    expression_sum (More a e) at r f s =
        let u = assignment_past IsWeighed word a at _ s in
        let x = assignment_end at a in
        let g = assignment_counted a at _ (f.0) s in
        let k = leaf_counted c.Comma x (u.0) in
        let h = expression_sum e (x + 1) r (f.1) (u.1) in
        omega (arith, g, k, h)

    assignment_counted : (a : Assignment) (at : ℕ) (r : List Class) → FitsAssignment a → Stands at (assignment_tokens a r) →
        (q (assignment_node at a)).counted ≡ assignment_count a
    assignment_counted (To t m a) at r f s =
        let u = target_past IsWeighed word t at _ s in
        let x = target_end at t in
        let g = target_counted t at _ (f.0) s in
        let k = leaf_counted m x (u.0) in
        let w = assign_weight m (f.1) in
        let h = assignment_counted a (x + 1) r (f.2) (u.1) in
        let n = node_counted p.Assignment at (assignment_end (x + 1) a) (target_node at t ∷ leaf x ∷ assignment_node (x + 1) a ∷ []) in
        omega (arith, g, k, w, h, n)
    assignment_counted (Value d) at r f s =
        let h = conditional_counted d at r f s in
        let n = node_counted p.Assignment at (conditional_end at d) (conditional_node at d ∷ []) in
        omega (arith, h, n)

    conditional_counted : (d : Conditional) (at : ℕ) (r : List Class) → FitsConditional d → Stands at (conditional_tokens d r) →
        (q (conditional_node at d)).counted ≡ conditional_count d
    conditional_counted (Choose b e d) at r f s =
        let x = binary_end at b in
        let y = expression_end (x + 1) e in
        let u = binary_past IsWeighed word b at _ s in
        let v = expression_past IsWeighed word e (x + 1) _ (u.1) in
        let g = binary_counted b at _ (f.0) s in
        let k = leaf_counted c.Question x (u.0) in
        let h = whole e (x + 1) (expression_sum e (x + 1) _ (f.1) (u.1)) in
        let l = leaf_counted c.Colon y (v.0) in
        let i = conditional_counted d (y + 1) r (f.2) (v.1) in
        let n = node_counted p.Conditional at (conditional_end (y + 1) d)
        (binary_node at b ∷ leaf x ∷ expression_node (x + 1) e ∷ leaf y ∷ conditional_node (y + 1) d ∷ []) in
        omega (arith, g, k, h, l, i, n)
    conditional_counted (Only b) at r f s =
        let h = binary_counted b at r f s in
        let n = node_counted p.Conditional at (binary_end at b) (binary_node at b ∷ []) in
        omega (arith, h, n)

    binary_counted : (b : Binary) (at : ℕ) (r : List Class) → FitsBinary b → Stands at (binary_tokens b r) → (q (binary_node at b)).counted ≡ binary_count b
    binary_counted (Single u) at r f s =
        let h = unary_whole u at (unary_sum u at r f s) in
        let n = node_counted p.Binary at (unary_end at u) (unary_node at u ∷ []) in
        omega (arith, h, n)
    binary_counted (Both a m b) at r f s =
        let x = binary_end at a in
        let u = binary_past IsWeighed word a at _ s in
        let g = binary_counted a at _ (f.0) s in
        let k = leaf_counted m x (u.0) in
        let w = binary_weight m (f.2) in
        let h = binary_counted b (x + 1) r (f.1) (u.1) in
        let n = node_counted p.Binary at (binary_end (x + 1) b) (binary_node at a ∷ leaf x ∷ binary_node (x + 1) b ∷ []) in
        omega (arith, g, k, w, h, n)

    unary_sum : (u : Unary) (at : ℕ) (r : List Class) → FitsUnary u → Stands at (unary_tokens u r) → sum_of (unary_parts at u) ≡ unary_count u
    unary_sum (Prefixed m u) at r f s =
        let k = leaf_counted m at (s.0) in
        let w = prefix_weight m (f.0) in
        let h = unary_whole u (at + 1) (unary_sum u (at + 1) r (f.1) (s.1)) in
        omega (arith, k, w, h)
    unary_sum (StepTo t) at r f s =
        let k = leaf_counted c.Step at (s.0) in
        let h = target_counted t (at + 1) r f (s.1) in
        omega (arith, k, h)
    unary_sum (CastTo n u) at r f s =
        let x = type_end (at + 1) n in
        let v = type_past IsWeighed word n (at + 1) _ (s.1) in
        let k = leaf_counted c.Open at (s.0) in
        let g = type_counted n (at + 1) _ (s.1) in
        let l = leaf_counted c.Close x (v.0) in
        let h = unary_whole u (x + 1) (unary_sum u (x + 1) r f (v.1)) in
        omega (arith, k, g, l, h)
    unary_sum (CastVoid u) at r f s =
        let k = leaf_counted c.Open at (s.0) in
        let g = leaf_counted c.Void (at + 1) ((s.1).0) in
        let l = leaf_counted c.Close (at + 1 + 1) (((s.1).1).0) in
        let h = unary_whole u (at + 1 + 1 + 1) (unary_sum u (at + 1 + 1 + 1) r f (((s.1).1).1)) in
        omega (arith, k, g, l, h)
    unary_sum (Place t) at r f s =
        let h = target_counted t at r f s in
        let n = postfix at (target_end at t) (target_node at t ∷ []) in
        omega (arith, h, n)
    unary_sum (StepAfter t) at r f s =
        let x = target_end at t in
        let h = target_counted t at _ f s in
        let k = leaf_counted c.Step x ((target_past IsWeighed word t at _ s).0) in
        let n = postfix at (x + 1) (target_node at t ∷ leaf x ∷ []) in
        omega (arith, h, k, n)
    unary_sum CallNone at r f s =
        let g = leaf_counted c.Name at (s.0) in
        let k = leaf_counted c.Open (at + 1) ((s.1).0) in
        let l = leaf_counted c.Close (at + 1 + 1) (((s.1).1).0) in
        let n = postfix at (at + 1 + 1 + 1) (leaf at ∷ leaf (at + 1) ∷ leaf (at + 1 + 1) ∷ []) in
        omega (arith, g, k, l, n)
    unary_sum (CallWith xs) at r f s =
        let x = arguments_end (at + 1 + 1) xs in
        let g = leaf_counted c.Name at (s.0) in
        let k = leaf_counted c.Open (at + 1) ((s.1).0) in
        let h = arguments_sum xs (at + 1 + 1) _ f ((s.1).1) in
        let l = leaf_counted c.Close x ((arguments_past IsWeighed word xs (at + 1 + 1) _ ((s.1).1)).0) in
        let j = joined (arguments_parts (at + 1 + 1) xs) (leaf x ∷ []) in
        let n = postfix at (x + 1) (leaf at ∷ leaf (at + 1) ∷ arguments_parts (at + 1 + 1) xs ++ leaf x ∷ []) in
        omega (arith, g, k, h, l, j, n)
    unary_sum Number at r f s =
        let k = leaf_counted c.Number at (s.0) in
        let n = postfix at (at + 1) (leaf at ∷ []) in
        omega (arith, k, n)
    unary_sum Character at r f s =
        let k = leaf_counted c.Character at (s.0) in
        let n = postfix at (at + 1) (leaf at ∷ []) in
        omega (arith, k, n)
    unary_sum (Within e) at r f s =
        let x = expression_end (at + 1) e in
        let k = leaf_counted c.Open at (s.0) in
        let h = whole e (at + 1) (expression_sum e (at + 1) _ (f.1) (s.1)) in
        let l = leaf_counted c.Close x ((expression_past IsWeighed word e (at + 1) _ (s.1)).0) in
        let n = postfix at (x + 1) (leaf at ∷ expression_node (at + 1) e ∷ leaf x ∷ []) in
        omega (arith, k, h, l, n)

    target_counted : (t : Target) (at : ℕ) (r : List Class) → FitsTarget t → Stands at (target_tokens t r) → (q (target_node at t)).counted ≡ target_count t
    target_counted Variable at r f s =
        let k = leaf_counted c.Name at (s.0) in
        let n = node_counted p.Target at (at + 1) (leaf at ∷ []) in
        omega (arith, k, n)
    target_counted (Cell e) at r f s =
        let x = expression_end (at + 1 + 1) e in
        let g = leaf_counted c.Name at (s.0) in
        let k = leaf_counted c.OpenIndex (at + 1) ((s.1).0) in
        let h = whole e (at + 1 + 1) (expression_sum e (at + 1 + 1) _ f ((s.1).1)) in
        let l = leaf_counted c.CloseIndex x ((expression_past IsWeighed word e (at + 1 + 1) _ ((s.1).1)).0) in
        let n = node_counted p.Target at (x + 1) (leaf at ∷ leaf (at + 1) ∷ expression_node (at + 1 + 1) e ∷ leaf x ∷ []) in
        omega (arith, g, k, h, l, n)
    target_counted (Round t) at r f s =
        let x = target_end (at + 1) t in
        let k = leaf_counted c.Open at (s.0) in
        let h = target_counted t (at + 1) _ f (s.1) in
        let l = leaf_counted c.Close x ((target_past IsWeighed word t (at + 1) _ (s.1)).0) in
        let n = node_counted p.Target at (x + 1) (leaf at ∷ target_node (at + 1) t ∷ leaf x ∷ []) in
        omega (arith, k, h, l, n)

    arguments_sum : (xs : Arguments) (at : ℕ) (r : List Class) → FitsArguments xs → Stands at (arguments_tokens xs r) →
        sum_of (arguments_parts at xs) ≡ arguments_count xs
    arguments_sum (Last x) at r f s = let g = argument_counted x at r f s in omega (arith, g)
    arguments_sum (Then x xs) at r f s =
        let y = argument_end at x in
        let u = argument_past IsWeighed word x at _ s in
        let g = argument_counted x at _ (f.0) s in
        let k = leaf_counted c.Comma y (u.0) in
        let h = arguments_sum xs (y + 1) r (f.1) (u.1) in
        omega (arith, g, k, h)

    argument_counted : (x : Argument) (at : ℕ) (r : List Class) → FitsArgument x → Stands at (argument_tokens x r) →
        (q (argument_node at x)).counted ≡ argument_count x
    argument_counted (Given a) at r f s =
        let h = assignment_counted a at r f s in
        let n = node_counted p.Argument at (assignment_end at a) (assignment_node at a ∷ []) in
        omega (arith, h, n)
    argument_counted (Written n) at r f s =
        let h = texts_sum n at r s in
        let m = node_counted p.Argument at (texts_end at n) (texts_parts at n) in
        omega (arith, h, m)

  -- ---- the most that count in a full expression

  pub expression_most : (e : Expression) (at : ℕ) (r : List Class) → FitsExpression e → Stands at (expression_tokens e r) →
      (q (expression_node at e)).most ≡ expression_count e
  expression_most e at r f s =
      let xs = expression_parts at e in
      node_most p.Expression at (expression_end at e) xs ∙ sym (node_counted p.Expression at (expression_end at e) xs) ∙ whole e at (expression_sum e at r f s)

  pub assignment_most : (a : Assignment) (at : ℕ) (r : List Class) → FitsAssignment a → Stands at (assignment_tokens a r) →
      (q (assignment_node at a)).most ≡ assignment_count a
  assignment_most (To t m a) at r f s =
      let x = target_end at t in
      let xs = target_node at t ∷ leaf x ∷ assignment_node (x + 1) a ∷ [] in
      node_most p.Assignment at (assignment_end (x + 1) a) xs ∙ sym (node_counted p.Assignment at (assignment_end (x + 1) a) xs) ∙
      assignment_counted (To t m a) at r f s
  assignment_most (Value d) at r f s =
      let xs = conditional_node at d ∷ [] in
      node_most p.Assignment at (conditional_end at d) xs ∙ sym (node_counted p.Assignment at (conditional_end at d) xs) ∙ assignment_counted (Value d) at r f s

  pub conditional_most : (d : Conditional) (at : ℕ) (r : List Class) → FitsConditional d → Stands at (conditional_tokens d r) →
      (q (conditional_node at d)).most ≡ conditional_count d
  conditional_most (Choose b e d) at r f s =
      let x = binary_end at b in
      let y = expression_end (x + 1) e in
      let xs = binary_node at b ∷ leaf x ∷ expression_node (x + 1) e ∷ leaf y ∷ conditional_node (y + 1) d ∷ [] in
      node_most p.Conditional at (conditional_end (y + 1) d) xs ∙ sym (node_counted p.Conditional at (conditional_end (y + 1) d) xs) ∙
      conditional_counted (Choose b e d) at r f s
  conditional_most (Only b) at r f s =
      let xs = binary_node at b ∷ [] in
      node_most p.Conditional at (binary_end at b) xs ∙ sym (node_counted p.Conditional at (binary_end at b) xs) ∙ conditional_counted (Only b) at r f s
