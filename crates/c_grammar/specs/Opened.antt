-- What a node shows of its production, place and parts, and a production around it.
use Rattle.std.proofs.Common.{◌≡◌, ◌⊎◌, inl, inr, refl, ap, sym, subst, ◌∙◌, ℕ, Bool, true, false, List, [], ◌∷◌}
use Rattle.c_grammar.specs.declared.syntax.Syntax.{Syntax, out-Syntax, out-roll-Syntax}
use Rattle.c_grammar.specs.declared.syntax.Syntax.TheOpen.{Syntax-F}
use Rattle.c_grammar.specs.declared.syntax.Production.{Production}
use Rattle.c_grammar.specs.declared.syntax.Production.TheVariants as p
use Rattle.c_grammar.specs.Levels.{is_level, is_below, keeps_parts}
use Rattle.c_grammar.specs.Nodes.{node, leaf}
use Rattle.c_grammar.specs.Shown.{in_postfix, in_unary, in_binary, in_conditional, in_assignment, in_expression, in_argument, raised, innermost, shown}

abbrev pub opened : Production → ℕ → ℕ → List Syntax → Syntax-F Syntax
opened rule first after parts = record { rule = rule; first = first; after = after; parts = parts }

pub out_node : (rule : Production) (first after : ℕ) (parts : List Syntax) → out-Syntax (node rule first after parts) ≡ opened rule first after parts
out_node rule first after parts = out-roll-Syntax (opened rule first after parts)

-- where a node stands
abbrev pub StandsAt : ℕ → ℕ → Syntax → Type 0
StandsAt first after x = ((out-Syntax x).first ≡ first) × ((out-Syntax x).after ≡ after)

pub node_stands : (rule : Production) (first after : ℕ) (parts : List Syntax) → StandsAt first after (node rule first after parts)
node_stands rule first after parts = (
  ap (λ (s : Syntax-F Syntax). s.first) (out_node rule first after parts),
  ap (λ (s : Syntax-F Syntax). s.after) (out_node rule first after parts),
)

abbrev pub is_of : Production → Syntax → Type 0
is_of rule x = (out-Syntax x).rule ≡ rule

pub node_is_of : (rule : Production) (first after : ℕ) (parts : List Syntax) → is_of rule (node rule first after parts)
node_is_of rule first after parts = ap (λ (s : Syntax-F Syntax). s.rule) (out_node rule first after parts)

pub innermost_stands : (base : Production) (is_name : Bool) (first after : ℕ) (parts : List Syntax) →
    StandsAt first after (innermost base is_name first after parts)
innermost_stands p.Target true first after [] = node_stands p.Target first after (leaf first ∷ [])
innermost_stands p.Target true first after (x ∷ xs) = node_stands p.Target first after (x ∷ xs)
innermost_stands base is_name first after parts = node_stands base first after parts

pub innermost_is_of : (base : Production) (is_name : Bool) (first after : ℕ) (parts : List Syntax) → is_of base (innermost base is_name first after parts)
innermost_is_of p.Target true first after [] = node_is_of p.Target first after (leaf first ∷ [])
innermost_is_of p.Target true first after (x ∷ xs) = node_is_of p.Target first after (x ∷ xs)
innermost_is_of base is_name first after parts = node_is_of base first after parts

pub postfix_stands : (base : Production) (first after : ℕ) (x : Syntax) → StandsAt first after x → StandsAt first after (in_postfix base first after x)
postfix_stands p.Postfix first after x h = h
postfix_stands base first after x h = node_stands p.Postfix first after (x ∷ [])

pub postfix_is_of : (base : Production) (first after : ℕ) (x : Syntax) → is_of base x → is_of p.Postfix (in_postfix base first after x)
postfix_is_of p.Postfix first after x h = h
postfix_is_of base first after x h = node_is_of p.Postfix first after (x ∷ [])

pub unary_stands : (base : Production) (first after : ℕ) (x : Syntax) → StandsAt first after x → StandsAt first after (in_unary base first after x)
unary_stands p.Unary first after x h = h
unary_stands base first after x h = node_stands p.Unary first after (in_postfix base first after x ∷ [])

pub unary_is_of : (base : Production) (first after : ℕ) (x : Syntax) → is_of base x → is_of p.Unary (in_unary base first after x)
unary_is_of p.Unary first after x h = h
unary_is_of base first after x h = node_is_of p.Unary first after (in_postfix base first after x ∷ [])

pub binary_stands : (base : Production) (first after : ℕ) (x : Syntax) → StandsAt first after x → StandsAt first after (in_binary base first after x)
binary_stands p.Binary first after x h = h
binary_stands base first after x h = node_stands p.Binary first after (in_unary base first after x ∷ [])

pub binary_is_of : (base : Production) (first after : ℕ) (x : Syntax) → is_of base x → is_of p.Binary (in_binary base first after x)
binary_is_of p.Binary first after x h = h
binary_is_of base first after x h = node_is_of p.Binary first after (in_unary base first after x ∷ [])

pub conditional_stands : (base : Production) (first after : ℕ) (x : Syntax) → StandsAt first after x → StandsAt first after (in_conditional base first after x)
conditional_stands p.Conditional first after x h = h
conditional_stands base first after x h = node_stands p.Conditional first after (in_binary base first after x ∷ [])

pub conditional_is_of : (base : Production) (first after : ℕ) (x : Syntax) → is_of base x → is_of p.Conditional (in_conditional base first after x)
conditional_is_of p.Conditional first after x h = h
conditional_is_of base first after x h = node_is_of p.Conditional first after (in_binary base first after x ∷ [])

pub assignment_stands : (base : Production) (first after : ℕ) (x : Syntax) → StandsAt first after x → StandsAt first after (in_assignment base first after x)
assignment_stands p.Assignment first after x h = h
assignment_stands base first after x h = node_stands p.Assignment first after (in_conditional base first after x ∷ [])

pub assignment_is_of : (base : Production) (first after : ℕ) (x : Syntax) → is_of base x → is_of p.Assignment (in_assignment base first after x)
assignment_is_of p.Assignment first after x h = h
assignment_is_of base first after x h = node_is_of p.Assignment first after (in_conditional base first after x ∷ [])

pub expression_stands : (base : Production) (first after : ℕ) (x : Syntax) → StandsAt first after x → StandsAt first after (in_expression base first after x)
expression_stands p.Expression first after x h = h
expression_stands base first after x h = node_stands p.Expression first after (in_assignment base first after x ∷ [])

pub expression_is_of : (base : Production) (first after : ℕ) (x : Syntax) → is_of base x → is_of p.Expression (in_expression base first after x)
expression_is_of p.Expression first after x h = h
expression_is_of base first after x h = node_is_of p.Expression first after (in_assignment base first after x ∷ [])

pub argument_stands : (base : Production) (first after : ℕ) (x : Syntax) → StandsAt first after x → StandsAt first after (in_argument base first after x)
argument_stands p.Argument first after x h = h
argument_stands base first after x h = node_stands p.Argument first after (in_assignment base first after x ∷ [])

pub argument_is_of : (base : Production) (first after : ℕ) (x : Syntax) → is_of base x → is_of p.Argument (in_argument base first after x)
argument_is_of p.Argument first after x h = h
argument_is_of base first after x h = node_is_of p.Argument first after (in_assignment base first after x ∷ [])

pub raised_stands : (top base : Production) (first after : ℕ) (x : Syntax) → StandsAt first after x → StandsAt first after (raised top base first after x)
raised_stands p.Postfix base first after x h = postfix_stands base first after x h
raised_stands p.Unary base first after x h = unary_stands base first after x h
raised_stands p.Binary base first after x h = binary_stands base first after x h
raised_stands p.Conditional base first after x h = conditional_stands base first after x h
raised_stands p.Assignment base first after x h = assignment_stands base first after x h
raised_stands p.Expression base first after x h = expression_stands base first after x h
raised_stands p.Argument base first after x h = argument_stands base first after x h
raised_stands _ base first after x h = h

pub raised_is_of : (top base : Production) (first after : ℕ) (x : Syntax) → (is_level top ≡ true) ⊎ (top ≡ base) → is_of base x →
    is_of top (raised top base first after x)
raised_is_of p.Postfix base first after x c h = postfix_is_of base first after x h
raised_is_of p.Unary base first after x c h = unary_is_of base first after x h
raised_is_of p.Binary base first after x c h = binary_is_of base first after x h
raised_is_of p.Conditional base first after x c h = conditional_is_of base first after x h
raised_is_of p.Assignment base first after x c h = assignment_is_of base first after x h
raised_is_of p.Expression base first after x c h = expression_is_of base first after x h
raised_is_of p.Argument base first after x c h = argument_is_of base first after x h
raised_is_of p.Target base first after x (inr e) h = h ∙ sym e
raised_is_of _ base first after x (inl e) h = let y : false ≡ true = e in absurd cc
raised_is_of _ base first after x (inr e) h = h ∙ sym e

pub shown_stands : (top base : Production) (is_name : Bool) (first after : ℕ) (parts : List Syntax) →
    StandsAt first after (shown top base is_name first after parts)
shown_stands top base is_name first after parts = raised_stands top base first after (innermost base is_name first after parts)
    (innermost_stands base is_name first after parts)

pub shown_is_of : (top base : Production) (is_name : Bool) (first after : ℕ) (parts : List Syntax) → (is_level top ≡ true) ⊎ (top ≡ base) →
    is_of top (shown top base is_name first after parts)
shown_is_of top base is_name first after parts c = raised_is_of top base first after (innermost base is_name first after parts) c
    (innermost_is_of base is_name first after parts)

-- a level around a part is the level above it
pub in_level : (rule top base : Production) (first after : ℕ) (x : Syntax) → is_below rule top ≡ true → (base ≡ rule → ⊥) →
    raised rule base first after x ≡ node rule first after (raised top base first after x ∷ [])
in_level p.Postfix p.Target p.Postfix first after x h n = absurd (n refl)
in_level p.Postfix p.Target base first after x h n = refl
in_level p.Postfix p.Token p.Postfix first after x h n = absurd (n refl)
in_level p.Postfix p.Token base first after x h n = refl
in_level p.Unary p.Postfix p.Unary first after x h n = absurd (n refl)
in_level p.Unary p.Postfix base first after x h n = refl
in_level p.Binary p.Unary p.Binary first after x h n = absurd (n refl)
in_level p.Binary p.Unary base first after x h n = refl
in_level p.Conditional p.Binary p.Conditional first after x h n = absurd (n refl)
in_level p.Conditional p.Binary base first after x h n = refl
in_level p.Assignment p.Conditional p.Assignment first after x h n = absurd (n refl)
in_level p.Assignment p.Conditional base first after x h n = refl
in_level p.Expression p.Assignment p.Expression first after x h n = absurd (n refl)
in_level p.Expression p.Assignment base first after x h n = refl
in_level p.Argument p.Assignment p.Argument first after x h n = absurd (n refl)
in_level p.Argument p.Assignment base first after x h n = refl
in_level _ _ base first after x h n = let y : false ≡ true = h in absurd cc

pub parts_of_rule : (rule : Production) (is_name : Bool) (first after : ℕ) (parts : List Syntax) → keeps_parts rule ≡ true →
    (out-Syntax (shown rule rule is_name first after parts)).parts ≡ parts
parts_of_rule p.Postfix is_name first after parts h = let y : false ≡ true = h in absurd cc
parts_of_rule p.Unary is_name first after parts h = let y : false ≡ true = h in absurd cc
parts_of_rule p.Binary is_name first after parts h = let y : false ≡ true = h in absurd cc
parts_of_rule p.Conditional is_name first after parts h = let y : false ≡ true = h in absurd cc
parts_of_rule p.Assignment is_name first after parts h = let y : false ≡ true = h in absurd cc
parts_of_rule p.Expression is_name first after parts h = let y : false ≡ true = h in absurd cc
parts_of_rule p.Argument is_name first after parts h = let y : false ≡ true = h in absurd cc
parts_of_rule p.Target is_name first after parts h = let y : false ≡ true = h in absurd cc
parts_of_rule rule is_name first after parts h = ap (λ (s : Syntax-F Syntax). s.parts) (out_node rule first after parts)

pub level_apart : (rule : Production) → is_level rule ≡ true → keeps_parts rule ≡ true → ⊥
level_apart p.Postfix e h = let y : false ≡ true = h in absurd cc
level_apart p.Unary e h = let y : false ≡ true = h in absurd cc
level_apart p.Binary e h = let y : false ≡ true = h in absurd cc
level_apart p.Conditional e h = let y : false ≡ true = h in absurd cc
level_apart p.Assignment e h = let y : false ≡ true = h in absurd cc
level_apart p.Expression e h = let y : false ≡ true = h in absurd cc
level_apart p.Argument e h = let y : false ≡ true = h in absurd cc
level_apart _ e h = let y : false ≡ true = e in absurd cc

pub kept_parts : (top base : Production) (is_name : Bool) (first after : ℕ) (parts : List Syntax) → (is_level top ≡ true) ⊎ (top ≡ base) →
    keeps_parts top ≡ true → (out-Syntax (shown top base is_name first after parts)).parts ≡ parts
kept_parts top base is_name first after parts (inl e) h = absurd (level_apart top e h)
kept_parts top base is_name first after parts (inr e) h =
    subst (λ (b : Production). (out-Syntax (shown top b is_name first after parts)).parts ≡ parts) e (parts_of_rule top is_name first after parts h)
