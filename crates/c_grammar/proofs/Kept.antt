-- The form of an expression is that of the innermost node of those that are kept as one.
use Rattle.std.proofs.Common.{◌≡◌, ◌≤◌, true, false, cond, Bool, ℕ, List, [], ◌∷◌, map, refl, ap, sym, ◌∙◌, ◌+◌, arith}
use Rattle.c_grammar.specs.declared.syntax.Production.{Production}
use Rattle.c_grammar.specs.declared.syntax.Production.TheVariants as p
use Rattle.c_grammar.specs.declared.syntax.Syntax.{Syntax}
use Rattle.c_grammar.specs.declared.syntax.Syntax.TheOpen.{Syntax-F}
use Rattle.c_grammar.specs.Levels.{is_level}
use Rattle.c_grammar.specs.Nodes.{node, leaf}
use Rattle.c_grammar.specs.Opened.{is_of, out_node, innermost_is_of, assignment_is_of, StandsAt, innermost_stands}
use Rattle.c_grammar.specs.Shown.{in_postfix, in_unary, in_binary, in_conditional, in_assignment, in_expression, in_argument, raised, innermost, shown}
use Rattle.c_grammar.specs.Weighed.{weight_innermost, weight_raised}
use Rattle.c_grammar.specs.Weights.{weight, weights}
use Rattle.c_grammar.specs.declared.layer.Layer.{Layer}
use Rattle.c_grammar.specs.Kept.{is_constant, is_variable}
use Rattle.c_grammar.specs.Parts.{part_of, form_in, form_by, is_token}
use Rattle.c_grammar.specs.Terms.{Form, Constant, Variable, Texts}
use Rattle.c_grammar.specs.Views.{AreSmaller}
use Rattle.c_grammar.proofs.Layers.{open_form, part-rule, part-first, smaller-more}

abbrev form_of : (ℕ → List ℕ) → Syntax → Form
form_of word x = form_in (part_of word x).content

node_form : (word : ℕ → List ℕ) (rule : Production) (first after : ℕ) (parts : List Syntax) →
    form_of word (node rule first after parts) ≡ form_by rule (map (part_of word) parts)
node_form word rule first after parts =
    open_form word (node rule first after parts) ∙ ap (λ (s : Syntax-F Syntax). form_by s.rule (map (part_of word) s.parts)) (out_node rule first after parts)

-- ---- above a node that is no token

postfix_form : (word : ℕ → List ℕ) (base : Production) (first after : ℕ) (x : Syntax) → is_of base x → is_token base ≡ false →
    form_of word (in_postfix base first after x) ≡ form_of word x
postfix_form word p.Postfix first after x h t = refl
postfix_form word base first after x h t = node_form word p.Postfix first after (x ∷ []) ∙
    ap (λ (b : Bool). cond b (Constant (part_of word x).first) (form_of word x)) (ap is_token (part-rule word x ∙ h) ∙ t)

unary_form : (word : ℕ → List ℕ) (base : Production) (first after : ℕ) (x : Syntax) → is_of base x → is_token base ≡ false →
    form_of word (in_unary base first after x) ≡ form_of word x
unary_form word p.Unary first after x h t = refl
unary_form word base first after x h t = node_form word p.Unary first after (in_postfix base first after x ∷ []) ∙ postfix_form word base first after x h t

binary_form : (word : ℕ → List ℕ) (base : Production) (first after : ℕ) (x : Syntax) → is_of base x → is_token base ≡ false →
    form_of word (in_binary base first after x) ≡ form_of word x
binary_form word p.Binary first after x h t = refl
binary_form word base first after x h t = node_form word p.Binary first after (in_unary base first after x ∷ []) ∙ unary_form word base first after x h t

conditional_form : (word : ℕ → List ℕ) (base : Production) (first after : ℕ) (x : Syntax) → is_of base x → is_token base ≡ false →
    form_of word (in_conditional base first after x) ≡ form_of word x
conditional_form word p.Conditional first after x h t = refl
conditional_form word base first after x h t = node_form word p.Conditional first after (in_binary base first after x ∷ []) ∙ binary_form word base
    first after x h t

assignment_form : (word : ℕ → List ℕ) (base : Production) (first after : ℕ) (x : Syntax) → is_of base x → is_token base ≡ false →
    form_of word (in_assignment base first after x) ≡ form_of word x
assignment_form word p.Assignment first after x h t = refl
assignment_form word base first after x h t = node_form word p.Assignment first after (in_conditional base first after x ∷ []) ∙ conditional_form word
    base first after x h t

expression_form : (word : ℕ → List ℕ) (base : Production) (first after : ℕ) (x : Syntax) → is_of base x → is_token base ≡ false →
    form_of word (in_expression base first after x) ≡ form_of word x
expression_form word p.Expression first after x h t = refl
expression_form word base first after x h t = node_form word p.Expression first after (in_assignment base first after x ∷ []) ∙ assignment_form word
    base first after x h t

argument_form : (word : ℕ → List ℕ) (base : Production) (first after : ℕ) (x : Syntax) → is_of base x → is_token base ≡ false →
    form_of word (in_argument base first after x) ≡ form_of word x
argument_form word p.Argument first after x h t = refl
argument_form word base first after x h t = node_form word p.Argument first after (in_assignment base first after x ∷ []) ∙
    ap (λ (b : Bool). cond b (Texts ((part_of word (in_assignment base first after x)).first ∷ [])) (form_of word (in_assignment base first after x)))
    (ap is_token (part-rule word (in_assignment base first after x) ∙ assignment_is_of base first after x h)) ∙ assignment_form word base first after x h t

raised_form : (word : ℕ → List ℕ) (top base : Production) (first after : ℕ) (x : Syntax) → is_of base x → is_token base ≡ false →
    form_of word (raised top base first after x) ≡ form_of word x
raised_form word p.Postfix base first after x h t = postfix_form word base first after x h t
raised_form word p.Unary base first after x h t = unary_form word base first after x h t
raised_form word p.Binary base first after x h t = binary_form word base first after x h t
raised_form word p.Conditional base first after x h t = conditional_form word base first after x h t
raised_form word p.Assignment base first after x h t = assignment_form word base first after x h t
raised_form word p.Expression base first after x h t = expression_form word base first after x h t
raised_form word p.Argument base first after x h t = argument_form word base first after x h t
raised_form word _ base first after x h t = refl

-- ---- above a token

postfix_constant : (word : ℕ → List ℕ) (first after : ℕ) (x : Syntax) → is_of p.Token x → StandsAt first after x →
    form_of word (in_postfix p.Token first after x) ≡ Constant first
postfix_constant word first after x h s = node_form word p.Postfix first after (x ∷ []) ∙
    ap (λ (b : Bool). cond b (Constant (part_of word x).first) (form_of word x)) (ap is_token (part-rule word x ∙ h)) ∙ ap Constant (part-first word x ∙ s.0)

unary_constant : (word : ℕ → List ℕ) (first after : ℕ) (x : Syntax) → is_of p.Token x → StandsAt first after x →
    form_of word (in_unary p.Token first after x) ≡ Constant first
unary_constant word first after x h s = node_form word p.Unary first after (in_postfix p.Token first after x ∷ []) ∙ postfix_constant word first after x h s

binary_constant : (word : ℕ → List ℕ) (first after : ℕ) (x : Syntax) → is_of p.Token x → StandsAt first after x →
    form_of word (in_binary p.Token first after x) ≡ Constant first
binary_constant word first after x h s = node_form word p.Binary first after (in_unary p.Token first after x ∷ []) ∙ unary_constant word first after x h s

conditional_constant : (word : ℕ → List ℕ) (first after : ℕ) (x : Syntax) → is_of p.Token x → StandsAt first after x →
    form_of word (in_conditional p.Token first after x) ≡ Constant first
conditional_constant word first after x h s = node_form word p.Conditional first after (in_binary p.Token first after x ∷ []) ∙ binary_constant word
    first after x h s

assignment_constant : (word : ℕ → List ℕ) (first after : ℕ) (x : Syntax) → is_of p.Token x → StandsAt first after x →
    form_of word (in_assignment p.Token first after x) ≡ Constant first
assignment_constant word first after x h s = node_form word p.Assignment first after (in_conditional p.Token first after x ∷ []) ∙
    conditional_constant word first after x h s

expression_constant : (word : ℕ → List ℕ) (first after : ℕ) (x : Syntax) → is_of p.Token x → StandsAt first after x →
    form_of word (in_expression p.Token first after x) ≡ Constant first
expression_constant word first after x h s = node_form word p.Expression first after (in_assignment p.Token first after x ∷ []) ∙ assignment_constant
    word first after x h s

argument_constant : (word : ℕ → List ℕ) (first after : ℕ) (x : Syntax) → is_of p.Token x → StandsAt first after x →
    form_of word (in_argument p.Token first after x) ≡ Constant first
argument_constant word first after x h s = node_form word p.Argument first after (in_assignment p.Token first after x ∷ []) ∙
    ap (λ (b : Bool). cond b (Texts ((part_of word (in_assignment p.Token first after x)).first ∷ []))
    (form_of word (in_assignment p.Token first after x)))
    (ap is_token (part-rule word (in_assignment p.Token first after x) ∙ assignment_is_of p.Token first after x h)) ∙ assignment_constant word first after x h s

raised_constant : (word : ℕ → List ℕ) (top : Production) (first after : ℕ) (x : Syntax) → is_level top ≡ true → is_of p.Token x →
    StandsAt first after x → form_of word (raised top p.Token first after x) ≡ Constant first
raised_constant word p.Postfix first after x e h s = postfix_constant word first after x h s
raised_constant word p.Unary first after x e h s = unary_constant word first after x h s
raised_constant word p.Binary first after x e h s = binary_constant word first after x h s
raised_constant word p.Conditional first after x e h s = conditional_constant word first after x h s
raised_constant word p.Assignment first after x e h s = assignment_constant word first after x h s
raised_constant word p.Expression first after x e h s = expression_constant word first after x h s
raised_constant word p.Argument first after x e h s = argument_constant word first after x h s
raised_constant word _ first after x e h s = let y : false ≡ true = e in absurd cc

-- ---- the three that a layer tells apart

pub constant_form : (word : ℕ → List ℕ) (top base : Production) (is_name : Bool) (first after : ℕ) (parts : List Syntax) → is_constant top base ≡ true
    → form_of word (shown top base is_name first after parts) ≡ Constant first
constant_form word top p.Token is_name first after parts e = raised_constant word top first after (innermost p.Token is_name first after parts) e
    (innermost_is_of p.Token is_name first after parts) (innermost_stands p.Token is_name first after parts)
constant_form word top _ is_name first after parts e = let y : false ≡ true = e in absurd cc

pub variable_form : (word : ℕ → List ℕ) (top base : Production) (is_name : Bool) (first after : ℕ) (parts : List Syntax) → is_variable base is_name parts ≡ true
    → form_of word (shown top base is_name first after parts) ≡ Variable first
variable_form word top p.Target true first after [] e =
    raised_form word top p.Target first after (innermost p.Target true first after []) (innermost_is_of p.Target true first after []) refl
    ∙ node_form word p.Target first after (leaf first ∷ []) ∙ ap Variable (leaf_first word first)
  where
    leaf_first : (word : ℕ → List ℕ) (at : ℕ) → (part_of word (leaf at)).first ≡ at
    leaf_first word at = part-first word (leaf at) ∙ ap (λ (s : Syntax-F Syntax). s.first) (out_node p.Token at (at + 1) [])
variable_form word top p.Target true first after (x ∷ xs) e = let y : false ≡ true = e in absurd cc
variable_form word top _ _ first after parts e = let y : false ≡ true = e in absurd cc

-- below a production that is no level, a token stands alone
unraised : (top : Production) (first after : ℕ) (x : Syntax) → is_level top ≡ false → raised top p.Token first after x ≡ x
unraised p.Postfix first after x e = let y : false ≡ true = sym e in absurd cc
unraised p.Unary first after x e = let y : false ≡ true = sym e in absurd cc
unraised p.Binary first after x e = let y : false ≡ true = sym e in absurd cc
unraised p.Conditional first after x e = let y : false ≡ true = sym e in absurd cc
unraised p.Assignment first after x e = let y : false ≡ true = sym e in absurd cc
unraised p.Expression first after x e = let y : false ≡ true = sym e in absurd cc
unraised p.Argument first after x e = let y : false ≡ true = sym e in absurd cc
unraised _ first after x e = refl

pub other_form : (word : ℕ → List ℕ) (top base : Production) (is_name : Bool) (first after : ℕ) (parts : List Syntax) → is_constant top base ≡ false →
    is_variable base is_name parts ≡ false
    → form_of word (shown top base is_name first after parts) ≡ form_by base (map (part_of word) parts)
other_form word top p.Token is_name first after parts c v = ap (form_of word) (unraised top first after (node p.Token first after parts) c) ∙
    node_form word p.Token first after parts
other_form word top p.Target true first after [] c v = let y : false ≡ true = sym v in absurd cc
other_form word top p.Target true first after (x ∷ xs) c v = raised_form word top p.Target first after (node p.Target first after (x ∷ xs))
    (innermost_is_of p.Target false first after (x ∷ xs)) refl ∙ node_form word p.Target first after (x ∷ xs)
other_form word top base is_name first after parts c v = raised_form word top base first after (node base first after parts)
    (innermost_is_of base false first after parts) refl ∙ node_form word base first after parts

-- ---- weights

pub shown_weighs : (top base : Production) (is_name : Bool) (first after : ℕ) (parts : List Syntax) →
    weights parts + 1 ≤ weight (shown top base is_name first after parts)
shown_weighs top base is_name first after parts =
    omega (arith, weight_innermost base is_name first after parts, weight_raised top base first after (innermost base is_name first after parts))

pub shown-smaller : (top base : Production) (is_name : Bool) (first after : ℕ) (parts : List Syntax) (y : Layer) → AreSmaller (weights parts + 1) y →
    AreSmaller (weight (shown top base is_name first after parts)) y
shown-smaller top base is_name first after parts y s =
    smaller-more (weights parts + 1) (weight (shown top base is_name first after parts)) y s (shown_weighs top base is_name first after parts)

pub ruleset layers = (constant_form, variable_form, other_form, shown-smaller, shown_weighs)
