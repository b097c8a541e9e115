-- A derived expression has the brackets that it is printed with, so no more of its tokens count when it is printed.
use Rattle.std.proofs.Common.{◌≡◌, ◌≤◌, ◌+◌, ℕ, Bool, true, false, cond, nat_lt, List, refl, ap, arith}
use Rattle.std.proofs.lemmas.Bool.{le-ltb}
use Rattle.c_grammar.specs.declared.class.Class.{Class}
use Rattle.c_grammar.specs.declared.class.Class.TheVariants as c
use Rattle.c_grammar.specs.Classes.{level}
use Rattle.c_grammar.specs.Expressions.{Expression, One, More, Assignment, To, Value, Conditional, Choose, Only, Binary, Single, Both, Unary, Prefixed, StepTo, CastTo, CastVoid, Place, StepAfter, CallNone, CallWith, Number, Character, Within, Target, Variable, Cell, Round, Arguments, Last, Then, Argument, Given, Written, expression_tokens, assignment_tokens, conditional_tokens, binary_tokens, unary_tokens, target_tokens, arguments_tokens, argument_tokens, root, FitsExpression, FitsAssignment, FitsConditional, FitsBinary, FitsUnary, FitsTarget, FitsArguments, FitsArgument}
use Rattle.c_grammar.specs.ExpressionSyntax.{type_end, expression_end, assignment_end, binary_end, target_end, argument_end}
use Rattle.c_grammar.specs.Terms.{Form}
use Rattle.c_resolved_defs.specs.PrintableExpressions.{bracket_count}
use Rattle.print_laws.proofs.Levels.{root_high}
use Rattle.reread_parts_laws.specs.WrittenExpressions.{expression_form, expression_terms, assignment_form, conditional_form, binary_form, unary_form, target_form, arguments_terms, argument_form}
use Rattle.c_resolving_laws.specs.Counts.{form_level, form_counted, commas_counted, all_counted}
use Rattle.c_source_laws.proofs.Past.{type_past, expression_past, assignment_past, binary_past, target_past, argument_past}
use Rattle.c_source_laws.proofs.Numbered.{Along}
use Rattle.c_source_laws.proofs.Weights.{IsWeighed}
use Rattle.c_source_laws.proofs.Counted.{expression_count, assignment_count, conditional_count, binary_count, unary_count, target_count, arguments_count, argument_count}

-- no bracket, and one at most
none : (level need : ℕ) → need ≤ level → bracket_count level need ≡ 0
none level need h = ap (λ b. cond b 1 0) (le-ltb level need h)

one : (level need : ℕ) → bracket_count level need ≤ 1
one level need = by_test (nat_lt level need)
  where
    by_test : (b : Bool) → cond b 1 0 ≤ 1
    by_test true = omega arith
    by_test false = omega arith

target_level : (t : Target) (at : ℕ) (word : ℕ → List ℕ) → form_level word (target_form at t) ≡ 14
target_level Variable at word = refl
target_level (Cell e) at word = refl
target_level (Round t) at word = target_level t (at + 1) word

module _ (word : ℕ → List ℕ) where
  abbrev Stands : ℕ → List Class → Type 0
  Stands at r = Along IsWeighed word at r

  -- as it is printed where a level is needed
  abbrev printed : Form → ℕ → ℕ
  printed x need = form_counted word x + bracket_count (form_level word x) need

  mutual
    pub expression_printed : (e : Expression) (at : ℕ) (r : List Class) (need : ℕ) → need ≤ 1 → FitsExpression e → Stands at (expression_tokens e r) →
        printed (expression_form at e) need ≤ expression_count e
    expression_printed (One a) at r need n f s = assignment_printed a at r need (omega (arith, n)) f s
    expression_printed (More a e) at r need n f s =
        let x = assignment_end at a + 1 in
        let g = assignment_printed a at _ 0 (omega arith) (f.0) s in
        let h = terms_printed e x r (form_counted word (assignment_form at a)) (f.1) (assignment_past IsWeighed word a at _ s).1 in
        let l = more_level a e at need n in
        omega (arith, g, h, l)

    -- of more than one assignment
    more_level : (a : Assignment) (e : Expression) (at need : ℕ) → need ≤ 1 → bracket_count (form_level word (expression_form at (More a e))) need ≡ 0
    more_level a (One b) at need n = none 1 need n
    more_level a (More b e) at need n = none 1 need n

    terms_printed : (e : Expression) (at : ℕ) (r : List Class) (n : ℕ) → FitsExpression e → Stands at (expression_tokens e r) →
        commas_counted word n (expression_terms at e) ≤ n + 1 + expression_count e
    terms_printed (One a) at r n f s = let g = assignment_printed a at r 2 (omega arith) f s in omega (arith, g)
    terms_printed (More a e) at r n f s =
        let g = assignment_printed a at _ 2 (omega arith) (f.0) s in
        let h = terms_printed e (assignment_end at a + 1) r (n + 1 + printed (assignment_form at a) 2) (f.1) (assignment_past IsWeighed word a at _ s).1 in
        omega (arith, g, h)

    pub assignment_printed : (a : Assignment) (at : ℕ) (r : List Class) (need : ℕ) → need ≤ 2 → FitsAssignment a → Stands at (assignment_tokens a r) →
        printed (assignment_form at a) need ≤ assignment_count a
    assignment_printed (To t m a) at r need n f s =
        let g = target_printed t at _ (f.0) s in
        let h = assignment_printed a (target_end at t + 1) r 2 (omega arith) (f.2) (target_past IsWeighed word t at _ s).1 in
        let l = none 2 need n in
        omega (arith, g, h, l)
    assignment_printed (Value d) at r need n f s = conditional_printed d at r need (omega (arith, n)) f s

    pub conditional_printed : (d : Conditional) (at : ℕ) (r : List Class) (need : ℕ) → need ≤ 3 → FitsConditional d →
        Stands at (conditional_tokens d r) → printed (conditional_form at d) need ≤ conditional_count d
    conditional_printed (Choose b e d) at r need n f s =
        let x = binary_end at b + 1 in
        let u = (binary_past IsWeighed word b at _ s).1 in
        let g = binary_printed b at _ 4 (root_high b (f.0)) (f.0) s in
        let h = expression_printed e x _ 0 (omega arith) (f.1) u in
        let i = conditional_printed d (expression_end x e + 1) r 3 (omega arith) (f.2) (expression_past IsWeighed word e x _ u).1 in
        let l = none 3 need n in
        omega (arith, g, h, i, l)
    conditional_printed (Only b) at r need n f s = binary_printed b at r need (let l = root_high b f in omega (arith, l, n)) f s

    binary_printed : (b : Binary) (at : ℕ) (r : List Class) (need : ℕ) → need ≤ root b → FitsBinary b → Stands at (binary_tokens b r) →
        printed (binary_form at b) need ≤ binary_count b
    binary_printed (Single u) at r need n f s = unary_printed u at r need n f s
    binary_printed (Both a m b) at r need n f s =
        let u = binary_past IsWeighed word a at _ s in
        let e = (u.0).binds (let p = f.2 in p) in
        let g = binary_printed a at _ (level m) (f.3) (f.0) s in
        let h = binary_printed b (binary_end at a + 1) r (level m + 1) (let p = f.4 in omega (arith, p)) (f.1) (u.1) in
        let l = none (level m) need n in
        rw e (omega (arith, g, h, l))

    unary_printed : (u : Unary) (at : ℕ) (r : List Class) (need : ℕ) → need ≤ 14 → FitsUnary u → Stands at (unary_tokens u r) →
        printed (unary_form at u) need ≤ unary_count u
    unary_printed (Prefixed m u) at r need n f s = let g = unary_printed u (at + 1) r 14 (omega arith) (f.1) (s.1) in let l = none 14 need n in
        omega (arith, g, l)
    unary_printed (StepTo t) at r need n f s =
        let g = target_printed t (at + 1) r f (s.1) in
        let e = target_level t (at + 1) word in
        let l = none 14 need n in
        let k = none 14 14 (omega arith) in
        rw e (omega (arith, g, l, k))
    unary_printed (CastTo t u) at r need n f s =
        let g = unary_printed u (type_end (at + 1) t + 1) r 14 (omega arith) f (type_past IsWeighed word t (at + 1) _ (s.1)).1 in let l =
        none 14 need
        n in omega (arith, g, l)
    unary_printed (CastVoid u) at r need n f s = let g = unary_printed u (at + 1 + 1 + 1) r 14 (omega arith) f (((s.1).1).1) in let l =
        none 14 need
        n in omega (arith, g, l)
    unary_printed (Place t) at r need n f s = let g = target_printed t at r f s in let l = none 14 need n in rw (target_level t at word) (omega (arith, g, l))
    unary_printed (StepAfter t) at r need n f s = let g = target_printed t at _ f s in let l = none 14 need n in omega (arith, g, l)
    unary_printed CallNone at r need n f s = let l = none 14 need n in omega (arith, l)
    unary_printed (CallWith xs) at r need n f s = let g = arguments_printed xs (at + 1 + 1) _ f ((s.1).1) in let l = none 14 need n in omega (arith, g, l)
    unary_printed Number at r need n f s = let l = none 14 need n in omega (arith, l)
    unary_printed Character at r need n f s = let l = none 14 need n in omega (arith, l)
    -- a pair of brackets is there
    unary_printed (Within e) at r need n f s =
        let g = expression_printed e (at + 1) _ 0 (omega arith) (f.1) (s.1) in
        let l = one (form_level word (expression_form (at + 1) e)) need in
        omega (arith, g, l)

    target_printed : (t : Target) (at : ℕ) (r : List Class) → FitsTarget t → Stands at (target_tokens t r) →
        form_counted word (target_form at t) ≤ target_count t
    target_printed Variable at r f s = omega arith
    target_printed (Cell e) at r f s = let g = expression_printed e (at + 1 + 1) _ 0 (omega arith) f ((s.1).1) in omega (arith, g)
    target_printed (Round t) at r f s = let g = target_printed t (at + 1) _ f (s.1) in omega (arith, g)

    arguments_printed : (xs : Arguments) (at : ℕ) (r : List Class) → FitsArguments xs → Stands at (arguments_tokens xs r) →
        all_counted word (arguments_terms at xs) ≤ arguments_count xs
    arguments_printed (Last x) at r f s = let g = argument_printed x at r f s in omega (arith, g)
    arguments_printed (Then x xs) at r f s =
        let g = argument_printed x at _ (f.0) s in
        let h = arguments_printed xs (argument_end at x + 1) r (f.1) (argument_past IsWeighed word x at _ s).1 in
        omega (arith, g, h)

    argument_printed : (x : Argument) (at : ℕ) (r : List Class) → FitsArgument x → Stands at (argument_tokens x r) →
        printed (argument_form at x) 2 ≤ argument_count x
    argument_printed (Given a) at r f s = assignment_printed a at r 2 (omega arith) f s
    argument_printed (Written n) at r f s = let l = none 14 2 (omega arith) in omega (arith, l)
