-- What derives as a declaration is parsed.
use Rattle.std.proofs.Common.{◌≡◌, ◌+◌, ℕ, Bool, true, false, List, [], ◌∷◌, ◌++◌, append_assoc, Option, Some, None, refl, ap, sym, ◌∙◌}
use Rattle.std.proofs.lemmas.List.{append-nil}
use Rattle.c_grammar.specs.declared.class.Class.{Class}
use Rattle.c_grammar.specs.declared.class.Class.TheVariants as c
use Rattle.c_grammar.specs.declared.syntax.Syntax.{Syntax}
use Rattle.c_grammar.specs.declared.syntax.Production.{Production}
use Rattle.c_grammar.specs.declared.syntax.Production.TheVariants as p
use Rattle.c_grammar.specs.Nodes.{node, leaf}
use Rattle.c_grammar.specs.Events.{Event, Outside}
use Rattle.c_grammar.specs.Expressions.{NumberType, Expression, Assignment, type_tokens, expression_tokens, assignment_tokens, conditional_tokens, FitsAssignment}
use Rattle.c_grammar.specs.ExpressionSyntax.{type_end, expression_end, assignment_end, conditional_end, type_node, expression_node, assignment_node, conditional_node}
use Rattle.c_grammar.specs.Statements.{Size, NoSize, Unsized, Sized, Initialiser, OneValue, ValueList, Declarator, Declared, Local, Locals, more_tokens, rest_tokens, optional_tokens, size_tokens, initialiser_tokens, value_tokens, declarator_tokens, local_tokens, FitsMore, FitsOptional, FitsSize, FitsInitialiser, FitsValue, FitsDeclarator, FitsLocal}
use Rattle.c_grammar.specs.StatementSyntax.{more_end, rest_end, optional_end, size_end, initialiser_end, value_end, declarator_end, local_end, more_parts, rest_parts, optional_parts, size_parts, value_parts, initialiser_node, declarator_node, local_node}
use Rattle.c_grammar.specs.Counts.{type_events, expression_events, assignment_events, conditional_events, optional_events, more_events, rest_events, size_events, initialiser_events, value_events, declarator_events, local_events}
use Rattle.c_parse_step.specs.declared.form.Want.{Want}
use Rattle.c_parse_step.specs.declared.form.Want.TheVariants as w
use Rattle.c_parse_step.specs.declared.form.Lead.{Lead}
use Rattle.c_parse_step.specs.declared.form.Lead.TheVariants as o
use Rattle.c_parse_step.specs.declared.form.Member.TheVariants as m
use Rattle.c_parse_step.specs.declared.frame.Found.TheVariants.{Whole}
use Rattle.c_parse_step.specs.declared.frame.Full.TheVariants as full
use Rattle.c_parse_step.specs.declared.frame.Frame.TheVariants as s
use Rattle.c_parse_step.specs.Tests.{is_comma, is_base, starts_local, same}
use Rattle.c_parse_step.specs.Starts.{Frames, rest, behind_full, declarators, at_type, at_full, at_local, at_initialiser}
use Rattle.c_parse_step.specs.Machine.{leader}
use Rattle.c_parser.proofs.Tokens.{is_closer}
use Rattle.c_parser.proofs.Traces.{logged}
use Rattle.c_parser.proofs.CompleteExpressions.{starts, Headed, head_of_expression, head_of_assignment, head_of_conditional}
use Rattle.c_parser.proofs.Begun.{HeadIs, HeadIsNot, via, switch, headed_is, full_expression, full_assignment, full_conditional, full_run, via_full, starts_type, complete_number_type, type_head}

-- ---- a token that ends an optional expression

pub record Stop (x : Class) : Type 0 where
  pub self : same x x ≡ true
  pub other : (t : Class) → starts t ≡ true → same x t ≡ false
  pub closer : is_closer x ≡ true
  pub no_comma : is_comma x ≡ false

semicolon_other : (t : Class) → starts t ≡ true → same c.Semicolon t ≡ false
semicolon_other c.Semicolon h = cc
semicolon_other _ h = refl

close_other : (t : Class) → starts t ≡ true → same c.Close t ≡ false
close_other c.Close h = cc
close_other _ h = refl

close_index_other : (t : Class) → starts t ≡ true → same c.CloseIndex t ≡ false
close_index_other c.CloseIndex h = cc
close_index_other _ h = refl

close_block_other : (t : Class) → starts t ≡ true → same c.CloseBlock t ≡ false
close_block_other c.CloseBlock h = cc
close_block_other _ h = refl

-- `;` is such a token
pub semicolon_stop : Stop c.Semicolon
semicolon_stop = record { self = refl; other = semicolon_other; closer = refl; no_comma = refl }

-- and so is `)`
pub close_stop : Stop c.Close
close_stop = record { self = refl; other = close_other; closer = refl; no_comma = refl }

optional_run : (x : Class) → Stop x → (rule : Production) (first n : ℕ) (parts : List Syntax) (l : List Want) (zs : Frames) (at : ℕ) (ts : List Class)
    (q : List Event) → Headed ts
    → logged (rest rule first n parts (w.OptionalExpression x ∷ l) ∷ zs) at ts q ≡ logged
    (s.WantUnary ∷ behind_full full.Expression at (rest rule first n parts (w.Token x ∷ l) ∷ zs)) at ts q
optional_run x i rule first n parts l zs at [] q h = absurd h
optional_run x i rule first n parts l zs at (t ∷ ts) q h = rw (i.other t h)

-- the awaited token comes
pub token_run : (x : Class) → same x x ≡ true → (rule : Production) (first n : ℕ) (parts : List Syntax) (l : List Want) (zs : Frames) (at : ℕ)
    (r : List Class) (q : List Event)
    → logged (rest rule first n parts (w.Token x ∷ l) ∷ zs) at (x ∷ r) q ≡ logged (rest rule first n (parts ++ leaf at ∷ []) l ∷ zs) (at + 1) r (Outside ∷ q)
token_run x h rule first n parts l zs at r q = rw h

optional_token : (x : Class) → same x x ≡ true → (rule : Production) (first n : ℕ) (parts : List Syntax) (l : List Want) (zs : Frames) (at : ℕ)
    (r : List Class) (q : List Event)
    → logged (rest rule first n parts (w.OptionalExpression x ∷ l) ∷ zs) at (x ∷ r) q ≡ logged (rest rule first n (parts ++ leaf at ∷ []) l ∷ zs)
    (at + 1) r (Outside ∷ q)
optional_token x h rule first n parts l zs at r q = rw h

-- an expression that may be left out, and the token that ends it
pub complete_optional : (e : Option Expression) → FitsOptional e → (x : Class) → Stop x →
    (rule : Production) (first n : ℕ) (parts : List Syntax) (l : List Want) (zs : Frames) (at : ℕ) (r : List Class) (q : List Event)
    → logged (rest rule first n parts (w.OptionalExpression x ∷ l) ∷ zs) at (optional_tokens e (x ∷ r)) q ≡ logged
    (rest rule first n (parts ++ (optional_parts at e ++ leaf (optional_end at e) ∷ [])) l ∷ zs) (optional_end at e + 1) r (Outside ∷ optional_events e q)
complete_optional None u x i rule first n parts l zs at r q = optional_token x i.self rule first n parts l zs at r q
complete_optional (Some e) u x i rule first n parts l zs at r q =
    optional_run x i rule first n parts l zs at (expression_tokens e (x ∷ r)) q (head_of_expression e u _)
    ∙ full_expression e u (rest rule first n parts (w.Token x ∷ l) ∷ zs) at (x ∷ r) q i.closer i.no_comma
    ∙ token_run x i.self rule first n (parts ++ expression_node at e ∷ []) l zs (expression_end at e) r (expression_events e q)
    ∙ ap (λ (a : List Syntax). logged (rest rule first n a l ∷ zs) (expression_end at e + 1) r (Outside ∷ expression_events e q))
    (append_assoc parts (expression_node at e ∷ []) (leaf (expression_end at e) ∷ []))

-- ---- what may be left out

-- no parts are added
pub bare_parts : (rule : Production) (first n : ℕ) (parts : List Syntax) (l : List Want) (zs : Frames) (at : ℕ) (ts : List Class) (q : List Event)
    → logged (rest rule first n parts l ∷ zs) at ts q ≡ logged (rest rule first n (parts ++ []) l ∷ zs) at ts q
bare_parts rule first n parts l zs at ts q = ap (λ (a : List Syntax). logged (rest rule first n a l ∷ zs) at ts q) (sym (append-nil parts))

length_run : (rule : Production) (first n : ℕ) (parts : List Syntax) (l : List Want) (zs : Frames) (at : ℕ) (ts : List Class) (q : List Event) → Headed ts
    → logged (rest rule first n parts (w.Length ∷ l) ∷ zs) at ts q ≡ logged
    (s.WantUnary ∷ behind_full full.Conditional at (rest rule first n parts (w.Token c.CloseIndex ∷ l) ∷ zs)) at ts q
length_run rule first n parts l zs at [] q h = absurd h
length_run rule first n parts l zs at (t ∷ ts) q h = rw (close_index_other t h)

-- what may be left out is, in front of another token
pub left_out : (x : Lead) (rule : Production) (first n : ℕ) (parts : List Syntax) (l : List Want) (zs : Frames) (at : ℕ) (ts : List Class)
    (q : List Event) → HeadIsNot (same (leader x)) ts
    → logged (rest rule first n parts (w.Optional x ∷ l) ∷ zs) at ts q ≡ logged (rest rule first n parts l ∷ zs) at ts q
left_out x rule first n parts l zs at [] q h = absurd h
left_out x rule first n parts l zs at (t ∷ ts) q h = rw h

-- what was handed on is the last part
pub last_part : (rule : Production) (first n : ℕ) (parts : List Syntax) (v : Syntax) (zs : Frames) (at : ℕ) (f : Class → Bool) (ts : List Class)
    (q : List Event) → HeadIs f ts
    → logged (s.Done (Whole v) ∷ rest rule first n parts [] ∷ zs) at ts q ≡ logged (s.Done (Whole (node rule first at (parts ++ v ∷ []))) ∷ zs) at ts q
last_part rule first n parts v zs at f [] q h = absurd h
last_part rule first n parts v zs at f (t ∷ ts) q h = refl

-- what was handed on is the next part
pub next_part : (rule : Production) (first n : ℕ) (parts : List Syntax) (l : List Want) (v : Syntax) (zs : Frames) (at : ℕ) (f : Class → Bool)
    (ts : List Class) (q : List Event) → HeadIs f ts
    → logged (s.Done (Whole v) ∷ rest rule first n parts l ∷ zs) at ts q ≡ logged (rest rule first n (parts ++ v ∷ []) l ∷ zs) at ts q
next_part rule first n parts l v zs at f [] q h = absurd h
next_part rule first n parts l v zs at f (t ∷ ts) q h = refl

-- a size that may be left out, in front of no `[`
pub complete_size : (x : Size) → FitsSize x → (rule : Production) (first n : ℕ) (parts : List Syntax) (l : List Want) (zs : Frames) (at : ℕ)
    (ts : List Class) (q : List Event) → HeadIsNot (same c.OpenIndex) ts
    → logged (rest rule first n parts (w.Optional o.Size ∷ l) ∷ zs) at (size_tokens x ts) q ≡ logged
    (rest rule first n (parts ++ size_parts at x) l ∷ zs) (size_end at x) ts (size_events x q)
complete_size NoSize u rule first n parts l zs at ts q h = left_out o.Size rule first n parts l zs at ts q h ∙ bare_parts rule first n parts l zs at ts q
complete_size Unsized u rule first n parts l zs at ts q h =
    ap (λ (a : List Syntax). logged (rest rule first n a l ∷ zs) (at + 1 + 1) ts (Outside ∷ Outside ∷ q))
    (append_assoc parts (leaf at ∷ []) (leaf (at + 1) ∷ []))
complete_size (Sized d) u rule first n parts l zs at ts q h =
    length_run rule first n (parts ++ leaf at ∷ []) l zs (at + 1) (conditional_tokens d (c.CloseIndex ∷ ts)) (Outside ∷ q) (head_of_conditional d u _)
    ∙ full_conditional d u (rest rule first n (parts ++ leaf at ∷ []) (w.Token c.CloseIndex ∷ l) ∷ zs) (at + 1) (c.CloseIndex ∷ ts) (Outside ∷ q) refl
    ∙ ap (λ (a : List Syntax). logged (rest rule first n a l ∷ zs) (conditional_end (at + 1) d + 1) ts (Outside ∷ conditional_events d (Outside ∷ q)))
    (append_assoc (parts ++ leaf at ∷ []) (conditional_node (at + 1) d ∷ []) (leaf (conditional_end (at + 1) d) ∷ []) ∙
    append_assoc parts (leaf at ∷ []) (conditional_node (at + 1) d ∷ leaf (conditional_end (at + 1) d) ∷ []))

-- ---- initialisers

-- what goes on with a list up to `}` may stand behind an expression
pub tail_closer : {X : Type 0} → (y : X → List Class → List Class) (xs : List X) (trailing : Bool) (r : List Class) →
    HeadIs is_closer (rest_tokens y xs trailing r)
tail_closer y [] false r = refl
tail_closer y [] true r = refl
tail_closer y (x ∷ xs) trailing r = refl

next_run : (rule : Production) (first n : ℕ) (parts : List Syntax) (l : List Want) (zs : Frames) (at : ℕ) (ts : List Class) (q : List Event) → Headed ts
    → logged (rest rule first n parts (w.Next m.Value ∷ l) ∷ zs) at ts q ≡ logged
    (s.WantUnary ∷ behind_full full.Assignment at (rest rule first n parts (w.Tail m.Value ∷ l) ∷ zs)) at ts q
next_run rule first n parts l zs at [] q h = absurd h
next_run rule first n parts l zs at (t ∷ ts) q h = rw (close_block_other t h)

complete_values : (xs : List Assignment) (trailing : Bool) → FitsMore FitsAssignment xs →
    (rule : Production) (first n : ℕ) (parts : List Syntax) (l : List Want) (zs : Frames) (at : ℕ) (r : List Class) (q : List Event)
    → logged (rest rule first n parts (w.Tail m.Value ∷ l) ∷ zs) at (rest_tokens assignment_tokens xs trailing r) q ≡ logged
    (rest rule first n (parts ++ rest_parts assignment_end assignment_node at xs trailing) l ∷ zs) (rest_end assignment_end at xs trailing) r
    (rest_events assignment_events xs trailing q)
complete_values [] false u rule first n parts l zs at r q = refl
complete_values [] true u rule first n parts l zs at r q =
    ap (λ (a : List Syntax). logged (rest rule first n a l ∷ zs) (at + 1 + 1) r (Outside ∷ Outside ∷ q))
    (append_assoc parts (leaf at ∷ []) (leaf (at + 1) ∷ []))
complete_values (x ∷ xs) trailing u rule first n parts l zs at r q =
    next_run rule first n (parts ++ leaf at ∷ []) l zs (at + 1) (assignment_tokens x (rest_tokens assignment_tokens xs trailing r)) (Outside ∷ q)
    (head_of_assignment x u.0 _)
    ∙ full_assignment x u.0 (rest rule first n (parts ++ leaf at ∷ []) (w.Tail m.Value ∷ l) ∷ zs) (at + 1)
    (rest_tokens assignment_tokens xs trailing r) (Outside ∷ q) (tail_closer assignment_tokens xs trailing r)
    ∙ next_part rule first n (parts ++ leaf at ∷ []) (w.Tail m.Value ∷ l) (assignment_node (at + 1) x) zs (assignment_end (at + 1) x) is_closer
    (rest_tokens assignment_tokens xs trailing r) (assignment_events x (Outside ∷ q)) (tail_closer assignment_tokens xs trailing r)
    ∙ complete_values xs trailing u.1 rule first n ((parts ++ leaf at ∷ []) ++ assignment_node (at + 1) x ∷ []) l zs (assignment_end (at + 1) x) r
    (assignment_events x (Outside ∷ q))
    ∙ ap (λ (a : List Syntax). logged (rest rule first n a l ∷ zs) (rest_end assignment_end (assignment_end (at + 1) x) xs trailing) r
    (rest_events assignment_events xs trailing (assignment_events x (Outside ∷ q))))
    (append_assoc (parts ++ leaf at ∷ []) (assignment_node (at + 1) x ∷ [])
    (rest_parts assignment_end assignment_node (assignment_end (at + 1) x) xs trailing) ∙
    append_assoc parts (leaf at ∷ []) (assignment_node (at + 1) x ∷ rest_parts assignment_end assignment_node (assignment_end (at + 1) x) xs trailing))

one_value : (zs : Frames) (at : ℕ) (t : Class) → starts t ≡ true → at_initialiser zs t at ≡ at_full full.Assignment (rest p.Initialiser at 0 [] [] ∷ zs) t at
one_value zs at c.OpenBlock h = cc
one_value zs at _ h = refl

complete_initialiser_node : (x : Initialiser) → FitsInitialiser x → (zs : Frames) (at : ℕ) (t : Class) (r : List Class) (q : List Event) → is_closer t ≡ true
    → via (at_initialiser zs) at (initialiser_tokens x (t ∷ r)) q ≡ logged (s.Done (Whole (initialiser_node at x)) ∷ zs) (initialiser_end at x)
    (t ∷ r) (initialiser_events x q)
complete_initialiser_node (OneValue a) u zs at t r q h =
    switch (at_initialiser zs) (at_full full.Assignment (rest p.Initialiser at 0 [] [] ∷ zs)) starts at (one_value zs at)
    (assignment_tokens a (t ∷ r)) q (headed_is _ (head_of_assignment a u _))
    ∙ via_full full.Assignment (rest p.Initialiser at 0 [] [] ∷ zs) at (assignment_tokens a (t ∷ r)) q (head_of_assignment a u _)
    ∙ full_assignment a u (rest p.Initialiser at 0 [] [] ∷ zs) at (t ∷ r) q h
complete_initialiser_node (ValueList a xs trailing) u zs at t r q h =
    full_run p.Initialiser at 0 (leaf at ∷ []) (w.Tail m.Value ∷ []) full.Assignment zs (at + 1)
    (assignment_tokens a (rest_tokens assignment_tokens xs trailing (t ∷ r))) (Outside ∷ q) (head_of_assignment a u.0 _)
    ∙ full_assignment a u.0 (rest p.Initialiser at 0 (leaf at ∷ []) (w.Tail m.Value ∷ []) ∷ zs) (at + 1)
    (rest_tokens assignment_tokens xs trailing (t ∷ r)) (Outside ∷ q) (tail_closer assignment_tokens xs trailing (t ∷ r))
    ∙ next_part p.Initialiser at 0 (leaf at ∷ []) (w.Tail m.Value ∷ []) (assignment_node (at + 1) a) zs (assignment_end (at + 1) a) is_closer
    (rest_tokens assignment_tokens xs trailing (t ∷ r)) (assignment_events a (Outside ∷ q)) (tail_closer assignment_tokens xs trailing (t ∷ r))
    ∙ complete_values xs trailing u.1 p.Initialiser at 0 (leaf at ∷ assignment_node (at + 1) a ∷ []) [] zs (assignment_end (at + 1) a) (t ∷ r)
    (assignment_events a (Outside ∷ q))

initialiser_run : (rule : Production) (first n : ℕ) (parts : List Syntax) (l : List Want) (zs : Frames) (at : ℕ) (f : Class → Bool) (ts : List Class)
    (q : List Event) → HeadIs f ts
    → logged (rest rule first n parts (w.Initialiser ∷ l) ∷ zs) at ts q ≡ via (at_initialiser (rest rule first n parts l ∷ zs)) at ts q
initialiser_run rule first n parts l zs at f [] q h = absurd h
initialiser_run rule first n parts l zs at f (t ∷ ts) q h = refl

-- `{`, or what begins an expression
abbrev starts_initialiser : Class → Bool
starts_initialiser c.OpenBlock = true
starts_initialiser t = starts t

starts_weaker : (l : List Class) → HeadIs starts l → HeadIs starts_initialiser l
starts_weaker [] h = h
starts_weaker (c.OpenBlock ∷ l) h = refl
starts_weaker (_ ∷ l) h = h

initialiser_head : (x : Initialiser) → FitsInitialiser x → (r : List Class) → HeadIs starts_initialiser (initialiser_tokens x r)
initialiser_head (OneValue a) u r = starts_weaker _ (headed_is _ (head_of_assignment a u r))
initialiser_head (ValueList a xs trailing) u r = refl

-- ---- declarators

-- behind a declarator
abbrev pub is_separator : Class → Bool
is_separator c.Comma = true
is_separator c.Semicolon = true
is_separator _ = false

separator_closer : (l : List Class) → HeadIs is_separator l → HeadIs is_closer l
separator_closer [] h = h
separator_closer (c.Comma ∷ l) h = refl
separator_closer (c.Semicolon ∷ l) h = refl
separator_closer (_ ∷ l) h = cc

separator_no_equals : (l : List Class) → HeadIs is_separator l → HeadIsNot (same c.Equals) l
separator_no_equals [] h = h
separator_no_equals (c.Equals ∷ l) h = cc
separator_no_equals (_ ∷ l) h = refl

separator_no_index : (l : List Class) → HeadIs is_separator l → HeadIsNot (same c.OpenIndex) l
separator_no_index [] h = h
separator_no_index (c.OpenIndex ∷ l) h = cc
separator_no_index (_ ∷ l) h = refl

complete_initialiser : (x : Initialiser) → FitsInitialiser x → (zs : Frames) (at : ℕ) (ts : List Class) (q : List Event) → HeadIs is_closer ts
    → via (at_initialiser zs) at (initialiser_tokens x ts) q ≡ logged (s.Done (Whole (initialiser_node at x)) ∷ zs) (initialiser_end at x) ts
    (initialiser_events x q)
complete_initialiser x u zs at [] q h = absurd h
complete_initialiser x u zs at (t ∷ ts) q h = complete_initialiser_node x u zs at t ts q h

complete_value : (x : Option Initialiser) → FitsValue x → (rule : Production) (first n : ℕ) (parts : List Syntax) (l : List Want) (zs : Frames)
    (at : ℕ) (ts : List Class) (q : List Event) → HeadIs is_separator ts
    → logged (rest rule first n parts (w.Optional o.Value ∷ l) ∷ zs) at (value_tokens x ts) q ≡ logged
    (rest rule first n (parts ++ value_parts at x) l ∷ zs) (value_end at x) ts (value_events x q)
complete_value None u rule first n parts l zs at ts q h = left_out o.Value rule first n parts l zs at ts q (separator_no_equals ts h) ∙ bare_parts
    rule first n parts l zs at ts q
complete_value (Some i) u rule first n parts l zs at ts q h =
    initialiser_run rule first n (parts ++ leaf at ∷ []) l zs (at + 1) starts_initialiser (initialiser_tokens i ts) (Outside ∷ q) (initialiser_head i u ts)
    ∙ complete_initialiser i u (rest rule first n (parts ++ leaf at ∷ []) l ∷ zs) (at + 1) ts (Outside ∷ q) (separator_closer ts h)
    ∙ next_part rule first n (parts ++ leaf at ∷ []) l (initialiser_node (at + 1) i) zs (initialiser_end (at + 1) i) is_closer ts
    (initialiser_events i (Outside ∷ q)) (separator_closer ts h)
    ∙ ap (λ (a : List Syntax). logged (rest rule first n a l ∷ zs) (initialiser_end (at + 1) i) ts (initialiser_events i (Outside ∷ q)))
    (append_assoc parts (leaf at ∷ []) (initialiser_node (at + 1) i ∷ []))

value_no_index : (x : Option Initialiser) (ts : List Class) → HeadIs is_separator ts → HeadIsNot (same c.OpenIndex) (value_tokens x ts)
value_no_index None ts h = separator_no_index ts h
value_no_index (Some i) ts h = refl

-- a node of which nothing is left is handed on
pub handed_on : (rule : Production) (first n : ℕ) (parts : List Syntax) (zs : Frames) (at : ℕ) (f : Class → Bool) (ts : List Class) (q : List Event) →
    HeadIs f ts
    → logged (rest rule first n parts [] ∷ zs) at ts q ≡ logged (s.Done (Whole (node rule first at parts)) ∷ zs) at ts q
handed_on rule first n parts zs at f [] q h = absurd h
handed_on rule first n parts zs at f (t ∷ ts) q h = refl

-- behind the name of a declarator
pub complete_declared : (size : Size) (value : Option Initialiser) → FitsSize size → FitsValue value →
    (first n : ℕ) (parts : List Syntax) (zs : Frames) (at : ℕ) (ts : List Class) (q : List Event) → HeadIs is_separator ts
    → logged (rest p.Declarator first n parts (w.Optional o.Size ∷ w.Optional o.Value ∷ []) ∷ zs) at (size_tokens size (value_tokens value ts)) q
    ≡ logged (s.Done (Whole (node p.Declarator first (value_end (size_end at size) value)
    ((parts ++ size_parts at size) ++ value_parts (size_end at size) value))) ∷ zs) (value_end (size_end at size) value) ts
    (value_events value (size_events size q))
complete_declared size value u v first n parts zs at ts q h =
    complete_size size u p.Declarator first n parts (w.Optional o.Value ∷ []) zs at (value_tokens value ts) q (value_no_index value ts h)
    ∙ complete_value value v p.Declarator first n (parts ++ size_parts at size) [] zs (size_end at size) ts (size_events size q) h
    ∙ handed_on p.Declarator first n ((parts ++ size_parts at size) ++ value_parts (size_end at size) value) zs (value_end (size_end at size) value)
    is_separator ts (value_events value (size_events size q)) h

complete_declarator : (x : Declarator) → FitsDeclarator x → (rule : Production) (first n : ℕ) (parts : List Syntax) (l : List Want) (zs : Frames)
    (at : ℕ) (ts : List Class) (q : List Event) → HeadIs is_separator ts
    → logged (rest rule first n parts (w.Declarator ∷ l) ∷ zs) at (declarator_tokens x ts) q ≡ logged
    (rest rule first n (parts ++ declarator_node at x ∷ []) l ∷ zs) (declarator_end at x) ts (declarator_events x q)
complete_declarator (Declared size value) u rule first n parts l zs at ts q h =
    complete_declared size value u.0 u.1 at 0 (leaf at ∷ []) (rest rule first n parts l ∷ zs) (at + 1) ts (Outside ∷ q) h
    ∙ next_part rule first n parts l (declarator_node at (Declared size value)) zs (declarator_end at (Declared size value)) is_closer ts
    (declarator_events (Declared size value) q) (separator_closer ts h)

-- behind a declarator stands a comma or `;`
pub declarators_head : (ds : List Declarator) (r : List Class) → HeadIs is_separator (more_tokens declarator_tokens ds (c.Semicolon ∷ r))
declarators_head [] r = refl
declarators_head (d ∷ ds) r = refl

-- the further declarators, and `;`
pub complete_declarators : (ds : List Declarator) → FitsMore FitsDeclarator ds →
    (rule : Production) (first n : ℕ) (parts : List Syntax) (l : List Want) (zs : Frames) (at : ℕ) (r : List Class) (q : List Event)
    → logged (rest rule first n parts (w.Optional o.Declarators ∷ w.Token c.Semicolon ∷ l) ∷ zs) at (more_tokens declarator_tokens ds (c.Semicolon ∷ r)) q
    ≡ logged (rest rule first n (parts ++ (more_parts declarator_end declarator_node at ds ++ leaf (more_end declarator_end at ds) ∷ [])) l ∷ zs)
    (more_end declarator_end at ds + 1) r (Outside ∷ more_events declarator_events ds q)
complete_declarators [] u rule first n parts l zs at r q = refl
complete_declarators (d ∷ ds) u rule first n parts l zs at r q =
    complete_declarator d u.0 rule first n (parts ++ leaf at ∷ []) (w.Optional o.Declarators ∷ w.Token c.Semicolon ∷ l) zs (at + 1)
    (more_tokens declarator_tokens ds (c.Semicolon ∷ r)) (Outside ∷ q) (declarators_head ds r)
    ∙ complete_declarators ds u.1 rule first n ((parts ++ leaf at ∷ []) ++ declarator_node (at + 1) d ∷ []) l zs (declarator_end (at + 1) d) r
    (declarator_events d (Outside ∷ q))
    ∙ ap (λ (a : List Syntax). logged (rest rule first n a l ∷ zs) (more_end declarator_end (declarator_end (at + 1) d) ds + 1) r
    (Outside ∷ more_events declarator_events ds (declarator_events d (Outside ∷ q))))
    (append_assoc (parts ++ leaf at ∷ []) (declarator_node (at + 1) d ∷ [])
    (more_parts declarator_end declarator_node (declarator_end (at + 1) d) ds ++ leaf (more_end declarator_end (declarator_end (at + 1) d) ds) ∷ [])
    ∙ append_assoc parts (leaf at ∷ []) (declarator_node (at + 1) d ∷ more_parts declarator_end declarator_node (declarator_end (at + 1) d) ds ++
    leaf (more_end declarator_end (declarator_end (at + 1) d) ds) ∷ []))

-- ---- local declarations

-- behind the type
local_rest : (d : Declarator) (ds : List Declarator) → FitsDeclarator d → FitsMore FitsDeclarator ds →
    (first : ℕ) (parts : List Syntax) (zs : Frames) (at : ℕ) (f : Class → Bool) (ts : List Class) (q : List Event) → HeadIs f ts
    → logged (rest p.Local first 0 parts declarators ∷ zs) at (declarator_tokens d (more_tokens declarator_tokens ds (c.Semicolon ∷ ts))) q
    ≡ logged (s.Done (Whole (node p.Local first (more_end declarator_end (declarator_end at d) ds + 1)
    (parts ++ (declarator_node at d ∷ more_parts declarator_end declarator_node (declarator_end at d) ds ++
    leaf (more_end declarator_end (declarator_end at d) ds) ∷ [])))) ∷ zs)
    (more_end declarator_end (declarator_end at d) ds + 1) ts (Outside ∷ more_events declarator_events ds (declarator_events d q))
local_rest d ds u v first parts zs at f ts q h =
    complete_declarator d u p.Local first 0 parts (w.Optional o.Declarators ∷ w.Token c.Semicolon ∷ []) zs at
    (more_tokens declarator_tokens ds (c.Semicolon ∷ ts)) q (declarators_head ds ts)
    ∙ complete_declarators ds v p.Local first 0 (parts ++ declarator_node at d ∷ []) [] zs (declarator_end at d) ts (declarator_events d q)
    ∙ handed_on p.Local first 0 ((parts ++ declarator_node at d ∷ []) ++
    (more_parts declarator_end declarator_node (declarator_end at d) ds ++ leaf (more_end declarator_end (declarator_end at d) ds) ∷ [])) zs
    (more_end declarator_end (declarator_end at d) ds + 1) f ts (Outside ∷ more_events declarator_events ds (declarator_events d q)) h
    ∙ ap (λ (a : List Syntax). logged (s.Done (Whole (node p.Local first (more_end declarator_end (declarator_end at d) ds + 1) a)) ∷ zs)
    (more_end declarator_end (declarator_end at d) ds + 1) ts (Outside ∷ more_events declarator_events ds (declarator_events d q)))
    (append_assoc parts (declarator_node at d ∷ []) (more_parts declarator_end declarator_node (declarator_end at d) ds ++
    leaf (more_end declarator_end (declarator_end at d) ds) ∷ []))

declarator_name : (d : Declarator) (r : List Class) → HeadIsNot is_base (declarator_tokens d r)
declarator_name (Declared size value) r = refl

-- the type has been read
typed : (first : ℕ) (parts : List Syntax) (l : List Want) (v : Syntax) (zs : Frames) (at : ℕ) (d : Declarator) (r : List Class) (q : List Event)
    → logged (s.Done (Whole v) ∷ rest p.Local first 0 parts l ∷ zs) at (declarator_tokens d r) q ≡ logged
    (rest p.Local first 0 (parts ++ v ∷ []) l ∷ zs) at (declarator_tokens d r) q
typed first parts l v zs at (Declared size value) r q = refl

not_const : (zs : Frames) (at : ℕ) (t : Class) → starts_type t ≡ true → at_local zs t at ≡ at_type (rest p.Local at 0 [] declarators ∷ zs) t at
not_const zs at c.Const h = cc
not_const zs at _ h = refl

-- the first token of a type that is awaited
pub type_wanted : (rule : Production) (first n : ℕ) (parts : List Syntax) (l : List Want) (zs : Frames) (at : ℕ) (ts : List Class) (q : List Event) →
    HeadIs starts_type ts
    → logged (rest rule first n parts (w.Type ∷ l) ∷ zs) at ts q ≡ via (at_type (rest rule first n parts l ∷ zs)) at ts q
type_wanted rule first n parts l zs at [] q h = absurd h
type_wanted rule first n parts l zs at (t ∷ ts) q h = refl

-- a declaration that has these parts behind which the type stands
pub local_typed : (n : NumberType) (d : Declarator) (ds : List Declarator) → FitsDeclarator d → FitsMore FitsDeclarator ds →
    (first : ℕ) (parts : List Syntax) (zs : Frames) (at : ℕ) (f : Class → Bool) (ts : List Class) (q : List Event) → HeadIs f ts
    → via (at_type (rest p.Local first 0 parts declarators ∷ zs)) at
    (type_tokens n (declarator_tokens d (more_tokens declarator_tokens ds (c.Semicolon ∷ ts)))) q
    ≡ logged (s.Done (Whole (node p.Local first (more_end declarator_end (declarator_end (type_end at n) d) ds + 1)
    (parts ++ (type_node at n ∷ declarator_node (type_end at n) d ∷ more_parts declarator_end declarator_node (declarator_end (type_end at n) d)
    ds ++ leaf (more_end declarator_end (declarator_end (type_end at n) d) ds) ∷ [])))) ∷ zs)
    (more_end declarator_end (declarator_end (type_end at n) d) ds + 1) ts (Outside ∷ more_events declarator_events ds (declarator_events d (type_events n q)))
local_typed n d ds u v first parts zs at f ts q h =
    complete_number_type n (rest p.Local first 0 parts declarators ∷ zs) at
    (declarator_tokens d (more_tokens declarator_tokens ds (c.Semicolon ∷ ts))) q (declarator_name d _)
    ∙ typed first parts declarators (type_node at n) zs (type_end at n) d (more_tokens declarator_tokens ds (c.Semicolon ∷ ts)) (type_events n q)
    ∙ local_rest d ds u v first (parts ++ type_node at n ∷ []) zs (type_end at n) f ts (type_events n q) h
    ∙ ap (λ (a : List Syntax). logged (s.Done (Whole (node p.Local first (more_end declarator_end (declarator_end (type_end at n) d) ds + 1) a)) ∷ zs)
    (more_end declarator_end (declarator_end (type_end at n) d) ds + 1) ts
    (Outside ∷ more_events declarator_events ds (declarator_events d (type_events n q))))
    (append_assoc parts (type_node at n ∷ []) (declarator_node (type_end at n) d ∷ more_parts declarator_end declarator_node
    (declarator_end (type_end at n) d) ds ++ leaf (more_end declarator_end (declarator_end (type_end at n) d) ds) ∷ []))

-- a local declaration
pub complete_local : (x : Local) → FitsLocal x → (zs : Frames) (at : ℕ) (f : Class → Bool) (ts : List Class) (q : List Event) → HeadIs f ts
    → via (at_local zs) at (local_tokens x ts) q ≡ logged (s.Done (Whole (local_node at x)) ∷ zs) (local_end at x) ts (local_events x q)
complete_local (Locals true n d ds) u zs at f ts q h =
    type_wanted p.Local at 0 (leaf at ∷ []) declarators zs (at + 1)
    (type_tokens n (declarator_tokens d (more_tokens declarator_tokens ds (c.Semicolon ∷ ts)))) (Outside ∷ q) (type_head n _)
    ∙ local_typed n d ds u.0 u.1 at (leaf at ∷ []) zs (at + 1) f ts (Outside ∷ q) h
complete_local (Locals false n d ds) u zs at f ts q h =
    switch (at_local zs) (at_type (rest p.Local at 0 [] declarators ∷ zs)) starts_type at (not_const zs at)
    (type_tokens n (declarator_tokens d (more_tokens declarator_tokens ds (c.Semicolon ∷ ts)))) q (type_head n _)
    ∙ local_typed n d ds u.0 u.1 at [] zs at f ts q h

-- what begins a number type may begin a local declaration
pub type_local : (l : List Class) → HeadIs starts_type l → HeadIs starts_local l
type_local [] h = h
type_local (c.Char ∷ l) h = refl
type_local (c.Int ∷ l) h = refl
type_local (c.Long ∷ l) h = refl
type_local (c.Signed ∷ l) h = refl
type_local (c.Unsigned ∷ l) h = refl
type_local (_ ∷ l) h = cc

-- its tokens begin as a local declaration does
pub local_head : (x : Local) (r : List Class) → HeadIs starts_local (local_tokens x r)
local_head (Locals true n d ds) r = refl
local_head (Locals false n d ds) r = type_local _ (type_head n _)
