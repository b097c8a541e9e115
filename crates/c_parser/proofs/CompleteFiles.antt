-- What derives as a file is parsed.
use Rattle.std.proofs.Common.{◌≡◌, ◌+◌, ℕ, Bool, true, false, List, [], ◌∷◌, ◌++◌, append_assoc, Option, Some, None, refl, ap, sym, ◌∙◌}
use Rattle.std.proofs.lemmas.List.{append-nil}
use Rattle.c_grammar.specs.declared.class.Class.{Class}
use Rattle.c_grammar.specs.declared.class.Class.TheVariants as c
use Rattle.c_grammar.specs.declared.syntax.Syntax.{Syntax}
use Rattle.c_grammar.specs.declared.syntax.Production.{Production}
use Rattle.c_grammar.specs.declared.syntax.Production.TheVariants as p
use Rattle.c_grammar.specs.Nodes.{node, leaf}
use Rattle.c_grammar.specs.Events.{Event, Outside}
use Rattle.c_grammar.specs.Expressions.{NumberType, Conditional, type_tokens, conditional_tokens}
use Rattle.c_grammar.specs.ExpressionSyntax.{type_end, conditional_end, type_node, conditional_node}
use Rattle.c_grammar.specs.Statements.{Size, NoSize, Unsized, Sized, Initialiser, Declarator, Declared, Local, Locals, Block, Braces, word_tokens, more_tokens, rest_tokens, size_tokens, value_tokens, declarator_tokens, local_tokens, FitsMore, FitsSize, FitsLocal}
use Rattle.c_grammar.specs.StatementSyntax.{word_end, more_end, rest_end, size_end, declarator_end, local_end, block_end, word_parts, more_parts, rest_parts, size_parts, declarator_node, local_node, block_node}
use Rattle.c_grammar.specs.Files.{Parameter, Typed, Parameters, NoParameters, VoidParameters, SomeParameters, Enumeration, Enumerated, Declaration, Declares, Function, Defined, Top, Line, OfEnum, OfDeclaration, OfFunction, parameter_tokens, parameters_tokens, enumerator_tokens, enumeration_tokens, declaration_tokens, result_tokens, body_tokens, function_tokens, top_tokens, file_tokens, FitsParameter, FitsParameters, FitsConstant, FitsEnumeration, FitsDeclaration, FitsBody, FitsFunction, FitsTop, FitsFile}
use Rattle.c_grammar.specs.FileSyntax.{parameter_end, parameters_end, enumerator_end, enumeration_end, declaration_end, result_end, body_end, function_end, top_end, file_end, parameter_node, parameters_node, enumerator_node, enumeration_node, declaration_node, result_node, body_node, function_node, top_node, file_parts, file_node}
use Rattle.c_grammar.specs.Counts.{type_events, conditional_events, word_events, more_events, rest_events, size_events, declarator_events, local_events, block_events, parameter_events, parameters_events, enumerator_events, enumeration_events, declaration_events, result_events, body_events, function_events, top_events, file_events}
use Rattle.c_parse_step.specs.declared.form.Want.{Want}
use Rattle.c_parse_step.specs.declared.form.Want.TheVariants as w
use Rattle.c_parse_step.specs.declared.form.Lead.TheVariants as o
use Rattle.c_parse_step.specs.declared.form.Member.TheVariants as m
use Rattle.c_parse_step.specs.declared.frame.Found.TheVariants.{Whole}
use Rattle.c_parse_step.specs.declared.frame.Full.TheVariants as full
use Rattle.c_parse_step.specs.declared.frame.Frame.TheVariants as s
use Rattle.c_parse_step.specs.Tests.{is_base, starts_local, same}
use Rattle.c_parse_step.specs.Starts.{Frames, rest, at_type, at_enumerator, at_parameter, at_parameters, at_external, parameter_rest}
use Rattle.c_parse_step.specs.Machine.{declared, start}
use Rattle.c_parser.proofs.Tokens.{is_closer}
use Rattle.c_parser.proofs.Traces.{Through, logged}
use Rattle.c_parser.proofs.CompleteExpressions.{head_of_conditional}
use Rattle.c_parser.proofs.Begun.{any, some_first, other_first, HeadIs, HeadIsNot, via, switch, full_conditional, full_run, starts_type, complete_number_type, type_head}
use Rattle.c_parser.proofs.CompleteDeclarations.{left_out, next_part, last_part, type_wanted, bare_parts, complete_size, tail_closer, handed_on, complete_declared, declarators_head, complete_declarators, complete_local, type_local, local_head}
use Rattle.c_parser.proofs.CompleteStatements.{complete_block}

-- ---- enumerations

closer_no_equals : (l : List Class) → HeadIs is_closer l → HeadIsNot (same c.Equals) l
closer_no_equals [] h = h
closer_no_equals (c.Equals ∷ l) h = cc
closer_no_equals (_ ∷ l) h = refl

complete_enumerator : (x : Option Conditional) → FitsConstant x → (zs : Frames) (at : ℕ) (ts : List Class) (q : List Event) → HeadIs is_closer ts
    → via (at_enumerator zs) at (enumerator_tokens x ts) q ≡ logged (s.Done (Whole (enumerator_node at x)) ∷ zs) (enumerator_end at x) ts
    (enumerator_events x q)
complete_enumerator None u zs at ts q h =
    left_out o.Constant p.Enumerator at 0 (leaf at ∷ []) [] zs (at + 1) ts (Outside ∷ q) (closer_no_equals ts h)
    ∙ handed_on p.Enumerator at 0 (leaf at ∷ []) zs (at + 1) is_closer ts (Outside ∷ q) h
complete_enumerator (Some d) u zs at ts q h =
    full_run p.Enumerator at 0 (leaf at ∷ leaf (at + 1) ∷ []) [] full.Conditional zs (at + 1 + 1) (conditional_tokens d ts) (Outside ∷ Outside ∷ q)
    (head_of_conditional d u _)
    ∙ full_conditional d u (rest p.Enumerator at 0 (leaf at ∷ leaf (at + 1) ∷ []) [] ∷ zs) (at + 1 + 1) ts (Outside ∷ Outside ∷ q) h
    ∙ last_part p.Enumerator at 0 (leaf at ∷ leaf (at + 1) ∷ []) (conditional_node (at + 1 + 1) d) zs (conditional_end (at + 1 + 1) d) is_closer ts
    (conditional_events d (Outside ∷ Outside ∷ q)) h

complete_enumerators : (xs : List (Option Conditional)) (trailing : Bool) → FitsMore FitsConstant xs →
    (rule : Production) (first n : ℕ) (parts : List Syntax) (l : List Want) (zs : Frames) (at : ℕ) (r : List Class) (q : List Event)
    → logged (rest rule first n parts (w.Tail m.Enumerator ∷ l) ∷ zs) at (rest_tokens enumerator_tokens xs trailing r) q
    ≡ logged (rest rule first n (parts ++ rest_parts enumerator_end enumerator_node at xs trailing) l ∷ zs) (rest_end enumerator_end at xs trailing) r
    (rest_events enumerator_events xs trailing q)
complete_enumerators [] false u rule first n parts l zs at r q = refl
complete_enumerators [] true u rule first n parts l zs at r q =
    ap (λ (a : List Syntax). logged (rest rule first n a l ∷ zs) (at + 1 + 1) r (Outside ∷ Outside ∷ q))
    (append_assoc parts (leaf at ∷ []) (leaf (at + 1) ∷ []))
complete_enumerators (x ∷ xs) trailing u rule first n parts l zs at r q =
    let y = enumerator_end (at + 1) x in
    complete_enumerator x u.0 (rest rule first n (parts ++ leaf at ∷ []) (w.Tail m.Enumerator ∷ l) ∷ zs) (at + 1)
    (rest_tokens enumerator_tokens xs trailing r) (Outside ∷ q) (tail_closer enumerator_tokens xs trailing r)
    ∙ next_part rule first n (parts ++ leaf at ∷ []) (w.Tail m.Enumerator ∷ l) (enumerator_node (at + 1) x) zs y is_closer
    (rest_tokens enumerator_tokens xs trailing r) (enumerator_events x (Outside ∷ q)) (tail_closer enumerator_tokens xs trailing r)
    ∙ complete_enumerators xs trailing u.1 rule first n ((parts ++ leaf at ∷ []) ++ enumerator_node (at + 1) x ∷ []) l zs y r
    (enumerator_events x (Outside ∷ q))
    ∙ ap (λ (a : List Syntax). logged (rest rule first n a l ∷ zs) (rest_end enumerator_end y xs trailing) r
    (rest_events enumerator_events xs trailing (enumerator_events x (Outside ∷ q))))
    (append_assoc (parts ++ leaf at ∷ []) (enumerator_node (at + 1) x ∷ []) (rest_parts enumerator_end enumerator_node y xs trailing)
    ∙ append_assoc parts (leaf at ∷ []) (enumerator_node (at + 1) x ∷ rest_parts enumerator_end enumerator_node y xs trailing))

complete_enumeration : (x : Enumeration) → FitsEnumeration x → (parts : List Syntax) (zs : Frames) (at : ℕ) (f : Class → Bool) (ts : List Class)
    (q : List Event) → HeadIs f ts
    → logged (s.Tops parts ∷ zs) at (enumeration_tokens x ts) q ≡ logged (s.Done (Whole (enumeration_node at x)) ∷ s.Tops parts ∷ zs)
    (enumeration_end at x) ts (enumeration_events x q)
complete_enumeration (Enumerated x xs trailing) u parts zs at f ts q h =
    let y = enumerator_end (at + 1 + 1) x in
    let z = rest_end enumerator_end y xs trailing in
    let l = w.Tail m.Enumerator ∷ w.Token c.Semicolon ∷ [] in
    let b = enumerator_events x (Outside ∷ Outside ∷ q) in
    let r = rest_tokens enumerator_tokens xs trailing (c.Semicolon ∷ ts) in
    complete_enumerator x u.0 (rest p.Enum at 0 (leaf at ∷ leaf (at + 1) ∷ []) l ∷ s.Tops parts ∷ zs) (at + 1 + 1) r (Outside ∷ Outside ∷ q)
    (tail_closer enumerator_tokens xs trailing (c.Semicolon ∷ ts))
    ∙ next_part p.Enum at 0 (leaf at ∷ leaf (at + 1) ∷ []) l (enumerator_node (at + 1 + 1) x) (s.Tops parts ∷ zs) y is_closer r b
    (tail_closer enumerator_tokens xs trailing (c.Semicolon ∷ ts))
    ∙ complete_enumerators xs trailing u.1 p.Enum at 0 (leaf at ∷ leaf (at + 1) ∷ enumerator_node (at + 1 + 1) x ∷ []) (w.Token c.Semicolon ∷ [])
    (s.Tops parts ∷ zs) y (c.Semicolon ∷ ts) b
    ∙ handed_on p.Enum at 0 (leaf at ∷ leaf (at + 1) ∷ enumerator_node (at + 1 + 1) x ∷ rest_parts enumerator_end enumerator_node y xs trailing ++
    leaf z ∷ []) (s.Tops parts ∷ zs) (z + 1) f ts (Outside ∷ rest_events enumerator_events xs trailing b) h

-- ---- parameters

-- behind a parameter
abbrev after_parameter : Class → Bool
after_parameter c.Comma = true
after_parameter c.Close = true
after_parameter _ = false

parameter_no_name : (l : List Class) → HeadIs after_parameter l → HeadIsNot (same c.Name) l
parameter_no_name [] h = h
parameter_no_name (c.Name ∷ l) h = cc
parameter_no_name (_ ∷ l) h = refl

parameter_no_index : (l : List Class) → HeadIs after_parameter l → HeadIsNot (same c.OpenIndex) l
parameter_no_index [] h = h
parameter_no_index (c.OpenIndex ∷ l) h = cc
parameter_no_index (_ ∷ l) h = refl

parameter_no_base : (l : List Class) → HeadIs after_parameter l → HeadIsNot is_base l
parameter_no_base [] h = h
parameter_no_base (c.Char ∷ l) h = cc
parameter_no_base (c.Int ∷ l) h = cc
parameter_no_base (c.Long ∷ l) h = cc
parameter_no_base (_ ∷ l) h = refl

size_no_name : (size : Size) (ts : List Class) → HeadIs after_parameter ts → HeadIsNot (same c.Name) (size_tokens size ts)
size_no_name NoSize ts h = parameter_no_name ts h
size_no_name _ ts h = refl

type_ends : (named : Bool) (size : Size) (ts : List Class) → HeadIs after_parameter ts → HeadIsNot is_base (word_tokens c.Name named (size_tokens size ts))
type_ends true size ts h = refl
type_ends false NoSize ts h = parameter_no_base ts h
type_ends false _ ts h = refl

complete_name : (named : Bool) (rule : Production) (first n : ℕ) (parts : List Syntax) (l : List Want) (zs : Frames) (at : ℕ) (ts : List Class)
    (q : List Event) → HeadIsNot (same c.Name) ts
    → logged (rest rule first n parts (w.Optional o.Name ∷ l) ∷ zs) at (word_tokens c.Name named ts) q ≡ logged
    (rest rule first n (parts ++ word_parts at named) l ∷ zs) (word_end at named) ts (word_events named q)
complete_name true rule first n parts l zs at ts q h = refl
complete_name false rule first n parts l zs at ts q h = left_out o.Name rule first n parts l zs at ts q h ∙ bare_parts rule first n parts l zs at ts q

-- a parameter that has these parts behind which the type stands
parameter_typed : (n : NumberType) (named : Bool) (size : Size) → FitsSize size →
    (first : ℕ) (parts : List Syntax) (zs : Frames) (at : ℕ) (ts : List Class) (q : List Event) → HeadIs after_parameter ts
    → via (at_type (rest p.Param first 0 parts parameter_rest ∷ zs)) at (type_tokens n (word_tokens c.Name named (size_tokens size ts))) q
    ≡ logged (s.Done (Whole (node p.Param first (size_end (word_end (type_end at n) named) size)
    (((parts ++ type_node at n ∷ []) ++ word_parts (type_end at n) named) ++ size_parts (word_end (type_end at n) named) size))) ∷ zs)
    (size_end (word_end (type_end at n) named) size) ts (size_events size (word_events named (type_events n q)))
parameter_typed n named size u first parts zs at ts q h =
    let y = type_end at n in
    let z = word_end y named in
    let r = word_tokens c.Name named (size_tokens size ts) in
    let a = parts ++ type_node at n ∷ [] in
    complete_number_type n (rest p.Param first 0 parts parameter_rest ∷ zs) at r q (type_ends named size ts h)
    ∙ next_part p.Param first 0 parts parameter_rest (type_node at n) zs y any r (type_events n q) (other_first is_base r (type_ends named size ts h))
    ∙ complete_name named p.Param first 0 a (w.Optional o.Size ∷ []) zs y (size_tokens size ts) (type_events n q) (size_no_name size ts h)
    ∙ complete_size size u p.Param first 0 (a ++ word_parts y named) [] zs z ts (word_events named (type_events n q)) (parameter_no_index ts h)
    ∙ handed_on p.Param first 0 ((a ++ word_parts y named) ++ size_parts z size) zs (size_end z size) after_parameter ts
    (size_events size (word_events named (type_events n q))) h

parameter_not_const : (zs : Frames) (at : ℕ) (t : Class) → starts_type t ≡ true → at_parameter zs t at ≡ at_type (rest p.Param at 0 [] parameter_rest ∷ zs) t at
parameter_not_const zs at c.Const h = cc
parameter_not_const zs at _ h = refl

complete_parameter : (x : Parameter) → FitsParameter x → (zs : Frames) (at : ℕ) (ts : List Class) (q : List Event) → HeadIs after_parameter ts
    → via (at_parameter zs) at (parameter_tokens x ts) q ≡ logged (s.Done (Whole (parameter_node at x)) ∷ zs) (parameter_end at x) ts (parameter_events x q)
complete_parameter (Typed true n named size) u zs at ts q h =
    type_wanted p.Param at 0 (leaf at ∷ []) parameter_rest zs (at + 1) (type_tokens n (word_tokens c.Name named (size_tokens size ts))) (Outside ∷ q)
    (type_head n _)
    ∙ parameter_typed n named size u at (leaf at ∷ []) zs (at + 1) ts (Outside ∷ q) h
complete_parameter (Typed false n named size) u zs at ts q h =
    switch (at_parameter zs) (at_type (rest p.Param at 0 [] parameter_rest ∷ zs)) starts_type at (parameter_not_const zs at)
    (type_tokens n (word_tokens c.Name named (size_tokens size ts))) q (type_head n _)
    ∙ parameter_typed n named size u at [] zs at ts q h

parameter_head : (x : Parameter) (r : List Class) → HeadIs starts_local (parameter_tokens x r)
parameter_head (Typed true n named size) r = refl
parameter_head (Typed false n named size) r = type_local _ (type_head n _)

parameter_wanted : (rule : Production) (first n : ℕ) (parts : List Syntax) (l : List Want) (zs : Frames) (at : ℕ) (f : Class → Bool) (ts : List Class)
    (q : List Event) → HeadIs f ts
    → logged (rest rule first n parts (w.Parameter ∷ l) ∷ zs) at ts q ≡ via (at_parameter (rest rule first n parts l ∷ zs)) at ts q
parameter_wanted rule first n parts l zs at f [] q h = absurd h
parameter_wanted rule first n parts l zs at f (t ∷ ts) q h = refl

more_parameters : (xs : List Parameter) (ts : List Class) → HeadIs after_parameter (more_tokens parameter_tokens xs (c.Close ∷ ts))
more_parameters [] ts = refl
more_parameters (x ∷ xs) ts = refl

-- the further parameters, up to `)`
complete_more : (xs : List Parameter) → FitsMore FitsParameter xs → (first : ℕ) (parts : List Syntax) (zs : Frames) (at : ℕ) (ts : List Class) (q : List Event)
    → logged (rest p.Params first 0 parts (w.Optional o.Parameters ∷ []) ∷ zs) at (more_tokens parameter_tokens xs (c.Close ∷ ts)) q
    ≡ logged (s.Done (Whole (node p.Params first (more_end parameter_end at xs) (parts ++ more_parts parameter_end parameter_node at xs))) ∷ zs)
    (more_end parameter_end at xs) (c.Close ∷ ts) (more_events parameter_events xs q)
complete_more [] u first parts zs at ts q = ap (λ (a : List Syntax). logged (s.Done (Whole (node p.Params first at a)) ∷ zs) at (c.Close ∷ ts) q)
    (sym (append-nil parts))
complete_more (x ∷ xs) u first parts zs at ts q =
    let y = parameter_end (at + 1) x in
    let r = more_tokens parameter_tokens xs (c.Close ∷ ts) in
    let a = parts ++ leaf at ∷ [] in
    parameter_wanted p.Params first 0 a (w.Optional o.Parameters ∷ []) zs (at + 1) starts_local (parameter_tokens x r) (Outside ∷ q) (parameter_head x r)
    ∙ complete_parameter x u.0 (rest p.Params first 0 a (w.Optional o.Parameters ∷ []) ∷ zs) (at + 1) r (Outside ∷ q) (more_parameters xs ts)
    ∙ next_part p.Params first 0 a (w.Optional o.Parameters ∷ []) (parameter_node (at + 1) x) zs y after_parameter r
    (parameter_events x (Outside ∷ q)) (more_parameters xs ts)
    ∙ complete_more xs u.1 first (a ++ parameter_node (at + 1) x ∷ []) zs y ts (parameter_events x (Outside ∷ q))
    ∙ ap (λ (b : List Syntax). logged (s.Done (Whole (node p.Params first (more_end parameter_end y xs) b)) ∷ zs) (more_end parameter_end y xs)
    (c.Close ∷ ts) (more_events parameter_events xs (parameter_events x (Outside ∷ q))))
    (append_assoc a (parameter_node (at + 1) x ∷ []) (more_parts parameter_end parameter_node y xs)
    ∙ append_assoc parts (leaf at ∷ []) (parameter_node (at + 1) x ∷ more_parts parameter_end parameter_node y xs))

local_no_close : (t : Class) → starts_local t ≡ true → same c.Close t ≡ false
local_no_close c.Close h = cc
local_no_close _ h = refl

parameters_wanted : (rule : Production) (first n : ℕ) (parts : List Syntax) (l : List Want) (zs : Frames) (at : ℕ) (ts : List Class)
    (q : List Event) → HeadIs starts_local ts
    → logged (rest rule first n parts (w.Parameters ∷ l) ∷ zs) at ts q ≡ via (at_parameters (rest rule first n parts l ∷ zs)) at ts q
parameters_wanted rule first n parts l zs at [] q h = absurd h
parameters_wanted rule first n parts l zs at (t ∷ ts) q h = rw (local_no_close t h)

not_void : (zs : Frames) (at : ℕ) (t : Class) → starts_local t ≡ true →
    at_parameters zs t at ≡ at_parameter (rest p.Params at 0 [] (w.Optional o.Parameters ∷ []) ∷ zs) t at
not_void zs at c.Void h = cc
not_void zs at _ h = refl

complete_parameters : (xs : Parameters) → FitsParameters xs → (rule : Production) (first n : ℕ) (parts : List Syntax) (l : List Want) (zs : Frames)
    (at : ℕ) (ts : List Class) (q : List Event)
    → logged (rest rule first n parts (w.Parameters ∷ l) ∷ zs) at (parameters_tokens xs (c.Close ∷ ts)) q ≡ logged
    (rest rule first n (parts ++ parameters_node at xs ∷ []) l ∷ zs) (parameters_end at xs) (c.Close ∷ ts) (parameters_events xs q)
complete_parameters NoParameters u rule first n parts l zs at ts q = refl
complete_parameters VoidParameters u rule first n parts l zs at ts q = refl
complete_parameters (SomeParameters x xs) u rule first n parts l zs at ts q =
    let y = parameter_end at x in
    let r = more_tokens parameter_tokens xs (c.Close ∷ ts) in
    let z = rest rule first n parts l ∷ zs in
    parameters_wanted rule first n parts l zs at (parameter_tokens x r) q (parameter_head x r)
    ∙ switch (at_parameters z) (at_parameter (rest p.Params at 0 [] (w.Optional o.Parameters ∷ []) ∷ z)) starts_local at (not_void z at)
    (parameter_tokens x r) q (parameter_head x r)
    ∙ complete_parameter x u.0 (rest p.Params at 0 [] (w.Optional o.Parameters ∷ []) ∷ z) at r q (more_parameters xs ts)
    ∙ next_part p.Params at 0 [] (w.Optional o.Parameters ∷ []) (parameter_node at x) z y after_parameter r (parameter_events x q) (more_parameters xs ts)
    ∙ complete_more xs u.1 at (parameter_node at x ∷ []) z y ts (parameter_events x q)

-- ---- functions

complete_function_end : (b : Option Block) → FitsBody b → (first : ℕ) (parts : List Syntax) (zs : Frames) (at : ℕ) (f : Class → Bool)
    (ts : List Class) (q : List Event) → HeadIs f ts
    → logged (rest p.Function first 0 parts (w.FunctionEnd ∷ []) ∷ zs) at (body_tokens b ts) q ≡ logged
    (s.Done (Whole (node p.Function first (body_end at b) (parts ++ body_node at b ∷ []))) ∷ zs) (body_end at b) ts (body_events b q)
complete_function_end None u first parts zs at f ts q h = handed_on p.Function first 0 (parts ++ leaf at ∷ []) zs (at + 1) f ts (Outside ∷ q) h
complete_function_end (Some (Braces xs)) u first parts zs at f ts q h =
    complete_block (Braces xs) u 1 (rest p.Function first 0 parts [] ∷ zs) at f ts q h
    ∙ last_part p.Function first 0 parts (block_node at (Braces xs)) zs (block_end at (Braces xs)) f ts (block_events 1 (Braces xs) q) h

-- behind the bracket that its parameters begin with
complete_function_rest : (xs : Parameters) (b : Option Block) → FitsParameters xs → FitsBody b →
    (first : ℕ) (parts : List Syntax) (zs : Frames) (at : ℕ) (f : Class → Bool) (ts : List Class) (q : List Event) → HeadIs f ts
    → logged (rest p.Function first 0 parts (w.Parameters ∷ w.Token c.Close ∷ w.FunctionEnd ∷ []) ∷ zs) at (parameters_tokens xs (c.Close ∷ body_tokens b ts)) q
    ≡ logged (s.Done (Whole (node p.Function first (body_end (parameters_end at xs + 1) b)
    (((parts ++ parameters_node at xs ∷ []) ++ leaf (parameters_end at xs) ∷ []) ++ body_node (parameters_end at xs + 1) b ∷ []))) ∷ zs)
    (body_end (parameters_end at xs + 1) b) ts (body_events b (Outside ∷ parameters_events xs q))
complete_function_rest xs b u v first parts zs at f ts q h =
    complete_parameters xs u p.Function first 0 parts (w.Token c.Close ∷ w.FunctionEnd ∷ []) zs at (body_tokens b ts) q
    ∙ complete_function_end b v first ((parts ++ parameters_node at xs ∷ []) ++ leaf (parameters_end at xs) ∷ []) zs (parameters_end at xs + 1) f ts
    (Outside ∷ parameters_events xs q) h

external_type : (first : ℕ) (parts : List Syntax) (zs : Frames) (at : ℕ) (t : Class) → starts_type t ≡ true →
    at_external first parts zs t at ≡ at_type (s.TopType first parts at ∷ zs) t at
external_type first parts zs at c.Const h = cc
external_type first parts zs at c.Void h = cc
external_type first parts zs at _ h = refl

-- the result, the name and the bracket behind it
complete_result : (n : Option NumberType) (first : ℕ) (parts : List Syntax) (zs : Frames) (at : ℕ) (ts : List Class) (q : List Event)
    → via (at_external first parts zs) at (result_tokens n (c.Name ∷ c.Open ∷ ts)) q
    ≡ logged (rest p.Function first 0 (parts ++ result_node at n ∷ leaf (result_end at n) ∷ leaf (result_end at n + 1) ∷ [])
    (w.Parameters ∷ w.Token c.Close ∷ w.FunctionEnd ∷ []) ∷ zs)
    (result_end at n + 1 + 1) ts (Outside ∷ Outside ∷ result_events n q)
complete_result None first parts zs at ts q =
    ap (λ (a : List Syntax). logged (rest p.Function first 0 a (w.Parameters ∷ w.Token c.Close ∷ w.FunctionEnd ∷ []) ∷ zs) (at + 1 + 1 + 1) ts
    (Outside ∷ Outside ∷ Outside ∷ q))
    (append_assoc (parts ++ leaf at ∷ []) (leaf (at + 1) ∷ []) (leaf (at + 1 + 1) ∷ []) ∙
    append_assoc parts (leaf at ∷ []) (leaf (at + 1) ∷ leaf (at + 1 + 1) ∷ []))
complete_result (Some n) first parts zs at ts q =
    switch (at_external first parts zs) (at_type (s.TopType first parts at ∷ zs)) starts_type at (external_type first parts zs at)
    (type_tokens n (c.Name ∷ c.Open ∷ ts)) q (type_head n _)
    ∙ complete_number_type n (s.TopType first parts at ∷ zs) at (c.Name ∷ c.Open ∷ ts) q refl

complete_external_function : (n : Option NumberType) (xs : Parameters) (b : Option Block) → FitsParameters xs → FitsBody b →
    (first : ℕ) (parts : List Syntax) (zs : Frames) (at : ℕ) (f : Class → Bool) (ts : List Class) (q : List Event) → HeadIs f ts
    → via (at_external first parts zs) at (result_tokens n (c.Name ∷ c.Open ∷ parameters_tokens xs (c.Close ∷ body_tokens b ts))) q
    ≡ logged (s.Done (Whole (node p.Function first (body_end (parameters_end (result_end at n + 1 + 1) xs + 1) b)
    ((((parts ++ result_node at n ∷ leaf (result_end at n) ∷ leaf (result_end at n + 1) ∷ []) ++ parameters_node (result_end at n + 1 + 1) xs ∷ []) ++
    leaf (parameters_end (result_end at n + 1 + 1) xs) ∷ []) ++ body_node (parameters_end (result_end at n + 1 + 1) xs + 1) b ∷ []))) ∷ zs)
    (body_end (parameters_end (result_end at n + 1 + 1) xs + 1) b) ts (body_events b (Outside ∷ parameters_events xs (Outside ∷ Outside ∷ result_events n q)))
complete_external_function n xs b u v first parts zs at f ts q h =
    complete_result n first parts zs at (parameters_tokens xs (c.Close ∷ body_tokens b ts)) q
    ∙ complete_function_rest xs b u v first (parts ++ result_node at n ∷ leaf (result_end at n) ∷ leaf (result_end at n + 1) ∷ []) zs
    (result_end at n + 1 + 1) f ts (Outside ∷ Outside ∷ result_events n q) h

-- ---- declarations of a file

-- behind the name of a declaration stands no `(`
name_no_open : (size : Size) (value : Option Initialiser) (ds : List Declarator) (ts : List Class) →
    HeadIsNot (same c.Open) (size_tokens size (value_tokens value (more_tokens declarator_tokens ds (c.Semicolon ∷ ts))))
name_no_open Unsized value ds ts = refl
name_no_open (Sized d) value ds ts = refl
name_no_open NoSize (Some i) ds ts = refl
name_no_open NoSize None [] ts = refl
name_no_open NoSize None (d ∷ ds) ts = refl

top_named : (first : ℕ) (parts : List Syntax) (begin : ℕ) (type : Syntax) (name : ℕ) (mark : Syntax) (zs : Frames) (at : ℕ) (ts : List Class)
    (q : List Event) → HeadIsNot (same c.Open) ts
    → logged (s.TopName first parts begin type name mark ∷ zs) at ts q ≡ logged
    (rest p.Declarator name 0 (mark ∷ []) (w.Optional o.Size ∷ w.Optional o.Value ∷ []) ∷ declared first parts begin type zs) at ts q
top_named first parts begin type name mark zs at [] q h = absurd h
top_named first parts begin type name mark zs at (t ∷ ts) q h = rw h

complete_external_local : (x : Local) → FitsLocal x → (first : ℕ) (parts : List Syntax) (zs : Frames) (at : ℕ) (f : Class → Bool) (ts : List Class)
    (q : List Event) → HeadIs f ts
    → via (at_external first parts zs) at (local_tokens x ts) q ≡ logged
    (s.Done (Whole (node p.Declaration first (local_end at x) (parts ++ local_node at x ∷ []))) ∷ zs) (local_end at x) ts (local_events x q)
complete_external_local (Locals true n d ds) u first parts zs at f ts q h =
    let x = Locals true n d ds in
    complete_local x u (rest p.Declaration first 0 parts [] ∷ zs) at f ts q h
    ∙ last_part p.Declaration first 0 parts (local_node at x) zs (local_end at x) f ts (local_events x q) h
complete_external_local (Locals false n (Declared size value) ds) u first parts zs at f ts q h =
    let x = Locals false n (Declared size value) ds in
    let y = type_end at n in
    let d = declarator_node y (Declared size value) in
    let z = declarator_end y (Declared size value) in
    let r = more_tokens declarator_tokens ds (c.Semicolon ∷ ts) in
    let l = w.Optional o.Declarators ∷ w.Token c.Semicolon ∷ [] in
    let b = type_events n q in
    let e = declarator_events (Declared size value) b in
    let v = rest p.Declaration first 0 parts [] ∷ zs in
    switch (at_external first parts zs) (at_type (s.TopType first parts at ∷ zs)) starts_type at (external_type first parts zs at)
    (type_tokens n (declarator_tokens (Declared size value) r)) q (type_head n _)
    ∙ complete_number_type n (s.TopType first parts at ∷ zs) at (declarator_tokens (Declared size value) r) q refl
    ∙ top_named first parts at (type_node at n) y (leaf y) zs (y + 1) (size_tokens size (value_tokens value r)) (Outside ∷ b) (name_no_open size value ds ts)
    ∙ complete_declared size value u.0.0 u.0.1 y 0 (leaf y ∷ []) (declared first parts at (type_node at n) zs) (y + 1) r (Outside ∷ b) (declarators_head ds ts)
    ∙ next_part p.Local at 0 (type_node at n ∷ []) l d v z any r e (some_first _ r (declarators_head ds ts))
    ∙ complete_declarators ds u.1 p.Local at 0 (type_node at n ∷ d ∷ []) [] v z ts e
    ∙ handed_on p.Local at 0 (type_node at n ∷ d ∷ more_parts declarator_end declarator_node z ds ++ leaf (more_end declarator_end z ds) ∷ []) v
    (more_end declarator_end z ds + 1) f ts (Outside ∷ more_events declarator_events ds e) h
    ∙ last_part p.Declaration first 0 parts (local_node at x) zs (local_end at x) f ts (local_events x q) h

-- ---- files

-- may begin a declaration or a function, behind `static`
abbrev starts_external : Class → Bool
starts_external c.Void = true
starts_external t = starts_local t

local_external : (l : List Class) → HeadIs starts_local l → HeadIs starts_external l
local_external [] h = h
local_external (c.Void ∷ l) h = refl
local_external (_ ∷ l) h = h

result_head : (n : Option NumberType) (r : List Class) → HeadIs starts_external (result_tokens n r)
result_head None r = refl
result_head (Some n) r = local_external _ (type_local _ (type_head n r))

-- without `static`
external_run : (parts : List Syntax) (zs : Frames) (at : ℕ) (ts : List Class) (q : List Event) → HeadIs starts_external ts →
    logged (s.Tops parts ∷ zs) at ts q ≡ via (at_external at [] (s.Tops parts ∷ zs)) at ts q
external_run parts zs at [] q h = absurd h
external_run parts zs at (c.End ∷ ts) q h = cc
external_run parts zs at (c.Directive ∷ ts) q h = cc
external_run parts zs at (c.Enum ∷ ts) q h = cc
external_run parts zs at (c.Static ∷ ts) q h = cc
external_run parts zs at (_ ∷ ts) q h = refl

-- behind `static`
static_run : (parts : List Syntax) (zs : Frames) (first at : ℕ) (ts : List Class) (q : List Event) → HeadIs starts_external ts
    → logged (s.External first (leaf first ∷ []) ∷ s.Tops parts ∷ zs) at ts q ≡ via (at_external first (leaf first ∷ []) (s.Tops parts ∷ zs)) at ts q
static_run parts zs first at [] q h = absurd h
static_run parts zs first at (t ∷ ts) q h = refl

complete_declaration : (x : Declaration) → FitsDeclaration x → (parts : List Syntax) (zs : Frames) (at : ℕ) (f : Class → Bool) (ts : List Class)
    (q : List Event) → HeadIs f ts
    → logged (s.Tops parts ∷ zs) at (declaration_tokens x ts) q ≡ logged (s.Done (Whole (declaration_node at x)) ∷ s.Tops parts ∷ zs)
    (declaration_end at x) ts (declaration_events x q)
complete_declaration (Declares true x) u parts zs at f ts q h =
    static_run parts zs at (at + 1) (local_tokens x ts) (Outside ∷ q) (local_external _ (local_head x ts))
    ∙ complete_external_local x u at (leaf at ∷ []) (s.Tops parts ∷ zs) (at + 1) f ts (Outside ∷ q) h
complete_declaration (Declares false x) u parts zs at f ts q h =
    external_run parts zs at (local_tokens x ts) q (local_external _ (local_head x ts))
    ∙ complete_external_local x u at [] (s.Tops parts ∷ zs) at f ts q h

complete_function : (x : Function) → FitsFunction x → (parts : List Syntax) (zs : Frames) (at : ℕ) (f : Class → Bool) (ts : List Class)
    (q : List Event) → HeadIs f ts
    → logged (s.Tops parts ∷ zs) at (function_tokens x ts) q ≡ logged (s.Done (Whole (function_node at x)) ∷ s.Tops parts ∷ zs) (function_end at x) ts
    (function_events x q)
complete_function (Defined true n xs b) u parts zs at f ts q h =
    static_run parts zs at (at + 1) (result_tokens n (c.Name ∷ c.Open ∷ parameters_tokens xs (c.Close ∷ body_tokens b ts))) (Outside ∷ q) (result_head n _)
    ∙ complete_external_function n xs b u.0 u.1 at (leaf at ∷ []) (s.Tops parts ∷ zs) (at + 1) f ts (Outside ∷ q) h
complete_function (Defined false n xs b) u parts zs at f ts q h =
    external_run parts zs at (result_tokens n (c.Name ∷ c.Open ∷ parameters_tokens xs (c.Close ∷ body_tokens b ts))) q (result_head n _)
    ∙ complete_external_function n xs b u.0 u.1 at [] (s.Tops parts ∷ zs) at f ts q h

tops_given : (parts : List Syntax) (v : Syntax) (zs : Frames) (at : ℕ) (f : Class → Bool) (ts : List Class) (q : List Event) → HeadIs f ts
    → logged (s.Done (Whole v) ∷ s.Tops parts ∷ zs) at ts q ≡ logged (s.Tops (parts ++ v ∷ []) ∷ zs) at ts q
tops_given parts v zs at f [] q h = absurd h
tops_given parts v zs at f (t ∷ ts) q h = refl

complete_top : (x : Top) → FitsTop x → (parts : List Syntax) (zs : Frames) (at : ℕ) (f : Class → Bool) (ts : List Class) (q : List Event) → HeadIs f ts
    → logged (s.Tops parts ∷ zs) at (top_tokens x ts) q ≡ logged (s.Tops (parts ++ top_node at x ∷ []) ∷ zs) (top_end at x) ts (top_events x q)
complete_top Line u parts zs at f ts q h = refl
complete_top (OfEnum x) u parts zs at f ts q h = complete_enumeration x u parts zs at f ts q h ∙ tops_given parts (enumeration_node at x) zs
    (enumeration_end at x) f ts (enumeration_events x q) h
complete_top (OfDeclaration x) u parts zs at f ts q h = complete_declaration x u parts zs at f ts q h ∙ tops_given parts (declaration_node at x) zs
    (declaration_end at x) f ts (declaration_events x q) h
complete_top (OfFunction x) u parts zs at f ts q h = complete_function x u parts zs at f ts q h ∙ tops_given parts (function_node at x) zs
    (function_end at x) f ts (function_events x q) h

declaration_head : (x : Declaration) (r : List Class) → HeadIs any (declaration_tokens x r)
declaration_head (Declares true x) r = refl
declaration_head (Declares false x) r = some_first starts_local _ (local_head x r)

function_head : (x : Function) (r : List Class) → HeadIs any (function_tokens x r)
function_head (Defined true n xs b) r = refl
function_head (Defined false n xs b) r = some_first starts_external _ (result_head n _)

file_head : (xs : List Top) → HeadIs any (file_tokens xs (c.End ∷ []))
file_head [] = refl
file_head (Line ∷ xs) = refl
file_head (OfEnum (Enumerated x l trailing) ∷ xs) = refl
file_head (OfDeclaration x ∷ xs) = declaration_head x _
file_head (OfFunction x ∷ xs) = function_head x _

complete_tops : (xs : List Top) → FitsFile xs → (parts : List Syntax) (at : ℕ) (q : List Event)
    → logged (s.Tops parts ∷ []) at (file_tokens xs (c.End ∷ [])) q ≡ Through
    (s.Accepted (node p.File 0 (file_end at xs) (parts ++ file_parts at xs)) ∷ []) (Outside ∷ file_events xs q)
complete_tops [] u parts at q = ap (λ (a : List Syntax). Through (s.Accepted (node p.File 0 at a) ∷ []) (Outside ∷ q)) (sym (append-nil parts))
complete_tops (x ∷ xs) u parts at q =
    complete_top x u.0 parts [] at any (file_tokens xs (c.End ∷ [])) q (file_head xs)
    ∙ complete_tops xs u.1 (parts ++ top_node at x ∷ []) (top_end at x) (top_events x q)
    ∙ ap (λ (a : List Syntax). Through (s.Accepted (node p.File 0 (file_end (top_end at x) xs) a) ∷ []) (Outside ∷ file_events xs (top_events x q)))
    (append_assoc parts (top_node at x ∷ []) (file_parts (top_end at x) xs))

-- what derives as a file, with the end behind it, is accepted as its node, and the tokens leave its events
pub complete_file : (xs : List Top) → FitsFile xs → logged start 0 (file_tokens xs (c.End ∷ [])) [] ≡ Through (s.Accepted (file_node xs) ∷ [])
    (Outside ∷ file_events xs [])
complete_file xs u = complete_tops xs u [] 0 []
