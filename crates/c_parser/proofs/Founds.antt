-- What the parser finds for each expression, and its nodes.
use Rattle.std.proofs.Common.{◌≡◌, ◌+◌, ℕ, false, List, [], ◌∷◌, ◌++◌, append_assoc, refl, ap, ◌∙◌}
use Rattle.c_grammar.specs.declared.syntax.Syntax.{Syntax}
use Rattle.c_grammar.specs.declared.syntax.Production.TheVariants as p
use Rattle.c_grammar.specs.Nodes.{node, leaf}
use Rattle.c_grammar.specs.Expressions.{Expression, One, More, Assignment, To, Value, Conditional, Choose, Only, Binary, Single, Both, Unary, Place, is_lone_unary, is_lone_binary, is_lone_conditional, is_lone_assignment, is_lone}
use Rattle.c_grammar.specs.ExpressionSyntax.{expression_end, assignment_end, conditional_end, binary_end, unary_end, expression_parts, expression_node, assignment_node, conditional_node, binary_node, unary_node, target_node}
use Rattle.c_parse_step.specs.declared.frame.Found.{Found}
use Rattle.c_parse_step.specs.declared.frame.Found.TheVariants.{Lone, Whole}
use Rattle.c_parse_step.specs.Nodes.{lift, solid_unary, solid_binary, solid_conditional, solid_assignment, solid_expression, commas}

-- ---- a target alone, or the node

abbrev pub found_unary : ℕ → Unary → Found
found_unary at (Place t) = Lone (target_node at t)
found_unary at u = Whole (unary_node at u)

abbrev pub found_binary : ℕ → Binary → Found
found_binary at (Single u) = lift p.Binary at (unary_end at u) (found_unary at u)
found_binary at (Both a m b) = Whole (binary_node at (Both a m b))

abbrev pub found_conditional : ℕ → Conditional → Found
found_conditional at (Choose b e d) = Whole (conditional_node at (Choose b e d))
found_conditional at (Only b) = lift p.Conditional at (binary_end at b) (found_binary at b)

abbrev pub found_assignment : ℕ → Assignment → Found
found_assignment at (To t m a) = Whole (assignment_node at (To t m a))
found_assignment at (Value d) = lift p.Assignment at (conditional_end at d) (found_conditional at d)

-- behind these parts of an expression that begins at `first`
abbrev pub found_expression : ℕ → List Syntax → ℕ → Expression → Found
found_expression first parts at (One a) = commas first at (assignment_end at a) parts (found_assignment at a)
found_expression first parts at (More a e) = found_expression first (parts ++ assignment_node at a ∷ leaf (assignment_end at a) ∷ [])
    (assignment_end at a + 1) e

-- ---- as nodes

-- what is found, with the nodes that a target alone lacks, is the node of the derivation
pub unary_solid : (u : Unary) (at : ℕ) → solid_unary at (unary_end at u) (found_unary at u) ≡ unary_node at u
unary_solid (Place t) at = refl
unary_solid _ at = refl

lift_binary : (v : Found) (at z : ℕ) → solid_binary at z (lift p.Binary at z v) ≡ node p.Binary at z (solid_unary at z v ∷ [])
lift_binary (Lone t) at z = refl
lift_binary (Whole x) at z = refl

pub binary_solid : (b : Binary) (at : ℕ) → solid_binary at (binary_end at b) (found_binary at b) ≡ binary_node at b
binary_solid (Single u) at = lift_binary (found_unary at u) at (unary_end at u) ∙
    ap (λ (x : Syntax). node p.Binary at (unary_end at u) (x ∷ [])) (unary_solid u at)
binary_solid (Both a m b) at = refl

lift_conditional : (v : Found) (at z : ℕ) → solid_conditional at z (lift p.Conditional at z v) ≡ node p.Conditional at z (solid_binary at z v ∷ [])
lift_conditional (Lone t) at z = refl
lift_conditional (Whole x) at z = refl

pub conditional_solid : (d : Conditional) (at : ℕ) → solid_conditional at (conditional_end at d) (found_conditional at d) ≡ conditional_node at d
conditional_solid (Choose b e d) at = refl
conditional_solid (Only b) at = lift_conditional (found_binary at b) at (binary_end at b) ∙
    ap (λ (x : Syntax). node p.Conditional at (binary_end at b) (x ∷ [])) (binary_solid b at)

lift_assignment : (v : Found) (at z : ℕ) → solid_assignment at z (lift p.Assignment at z v) ≡ node p.Assignment at z (solid_conditional at z v ∷ [])
lift_assignment (Lone t) at z = refl
lift_assignment (Whole x) at z = refl

pub assignment_solid : (a : Assignment) (at : ℕ) → solid_assignment at (assignment_end at a) (found_assignment at a) ≡ assignment_node at a
assignment_solid (To t m a) at = refl
assignment_solid (Value d) at = lift_assignment (found_conditional at d) at (conditional_end at d) ∙
    ap (λ (x : Syntax). node p.Assignment at (conditional_end at d) (x ∷ [])) (conditional_solid d at)

commas_none : (v : Found) (at z : ℕ) → solid_expression at z (commas at at z [] v) ≡ node p.Expression at z (solid_assignment at z v ∷ [])
commas_none (Lone t) at z = refl
commas_none (Whole x) at z = refl

commas_some : (e : Expression) (first at : ℕ) (x : Syntax) (parts : List Syntax) →
    found_expression first (x ∷ parts) at e ≡ Whole (node p.Expression first (expression_end at e) ((x ∷ parts) ++ expression_parts at e))
commas_some (One a) first at x parts = ap (λ (y : Syntax). Whole (node p.Expression first (assignment_end at a) ((x ∷ parts) ++ y ∷ [])))
    (assignment_solid a at)
commas_some (More a e) first at x parts =
    commas_some e first (assignment_end at a + 1) x (parts ++ assignment_node at a ∷ leaf (assignment_end at a) ∷ [])
    ∙ ap (λ (l : List Syntax). Whole (node p.Expression first (expression_end (assignment_end at a + 1) e) (x ∷ l)))
    (append_assoc parts (assignment_node at a ∷ leaf (assignment_end at a) ∷ []) (expression_parts (assignment_end at a + 1) e))

pub expression_solid : (e : Expression) (at : ℕ) → solid_expression at (expression_end at e) (found_expression at [] at e) ≡ expression_node at e
expression_solid (One a) at = commas_none (found_assignment at a) at (assignment_end at a) ∙
    ap (λ (x : Syntax). node p.Expression at (assignment_end at a) (x ∷ [])) (assignment_solid a at)
expression_solid (More a e) at = ap (λ (v : Found). solid_expression at (expression_end (assignment_end at a + 1) e) v)
    (commas_some e at (assignment_end at a + 1) (assignment_node at a) (leaf (assignment_end at a) ∷ []))

-- ---- what isn't a target alone is whole

pub unary_whole : (u : Unary) (at : ℕ) → is_lone_unary u ≡ false → found_unary at u ≡ Whole (unary_node at u)
unary_whole (Place t) at h = absurd cc
unary_whole _ at h = refl

binary_whole : (b : Binary) (at : ℕ) → is_lone_binary b ≡ false → found_binary at b ≡ Whole (binary_node at b)
binary_whole (Single u) at h = ap (lift p.Binary at (unary_end at u)) (unary_whole u at h)
binary_whole (Both a m b) at h = refl

conditional_whole : (d : Conditional) (at : ℕ) → is_lone_conditional d ≡ false → found_conditional at d ≡ Whole (conditional_node at d)
conditional_whole (Only b) at h = ap (lift p.Conditional at (binary_end at b)) (binary_whole b at h)
conditional_whole (Choose b e d) at h = refl

assignment_whole : (a : Assignment) (at : ℕ) → is_lone_assignment a ≡ false → found_assignment at a ≡ Whole (assignment_node at a)
assignment_whole (Value d) at h = ap (lift p.Assignment at (conditional_end at d)) (conditional_whole d at h)
assignment_whole (To t m a) at h = refl

pub expression_whole : (e : Expression) (at : ℕ) → is_lone e ≡ false → found_expression at [] at e ≡ Whole (expression_node at e)
expression_whole (One a) at h = ap (commas at at (assignment_end at a) []) (assignment_whole a at h)
expression_whole (More a e) at h = commas_some e at (assignment_end at a + 1) (assignment_node at a) (leaf (assignment_end at a) ∷ [])
