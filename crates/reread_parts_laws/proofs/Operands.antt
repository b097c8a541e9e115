-- An operand where the grammar needs a level: what it writes, and where it ends, with the brackets round it.
use Rattle.std.proofs.Common.{◌≡◌, ◌<◌, ◌≤◌, ◌+◌, ℕ, Bool, true, false, cond, nat_lt, refl, sym, ◌∙◌, arith}
use Rattle.std.proofs.lemmas.Bool.{le-ltb, lt-ltb}
use Rattle.c_grammar.specs.declared.class.Class.TheVariants as c
use Rattle.c_grammar.specs.Classes.{level}
use Rattle.c_grammar.specs.Expressions.{Expression, One, More, To, Value, Choose, Only, Binary, Single, Both, Within, root, FitsExpression}
use Rattle.c_grammar.specs.ExpressionSyntax.{expression_end, assignment_end, conditional_end, binary_end, unary_end}
use Rattle.c_grammar.specs.Terms.{Form}
use Rattle.c_tree.specs.ExpressionTrees.{ExpressionTree}
use Rattle.c_resolved_defs.specs.PrintableExpressions.{level_of}
use Rattle.print_laws.specs.ExpressionDerivations.{as_assignment, as_conditional, as_binary, as_unary, derivation_of}
use Rattle.print_laws.proofs.Levels.{loose, level_low, root_high}
use Rattle.print_laws.proofs.ExpressionFits.{fits, level_is}
use Rattle.reread_parts_laws.specs.WrittenExpressions.{expression_form, assignment_form, conditional_form, binary_form, unary_form}

-- behind a bracket, if one stands there
abbrev pub past : Bool → ℕ → ℕ
past b at = cond b (at + 1) at

-- where an operand begins behind its bracket, and where it ends with it
abbrev pub beginning : ℕ → ℕ → ExpressionTree → ℕ
beginning need at x = past (nat_lt (level_of x) need) at

abbrev pub bracketed_end : Bool → ℕ → Expression → ℕ
bracketed_end b at e = past b (expression_end (past b at) e)

abbrev pub ending : ℕ → ℕ → ExpressionTree → ℕ
ending need at x = bracketed_end (nat_lt (level_of x) need) at (derivation_of x)

-- what it is to stand where a level is needed
abbrev Lies : ℕ → ℕ → Expression → Form → ℕ → Type 0
Lies need at e form end = (form ≡ expression_form (past (nat_lt (loose e) need) at) e) × (end ≡ bracketed_end (nat_lt (loose e) need) at e)

-- no bracket stands where the level is high enough
bare : (need at : ℕ) (e : Expression) → need ≤ loose e → Lies need at e (expression_form at e) (expression_end at e)
bare need at e h =
    let n : nat_lt (loose e) need ≡ false = le-ltb (loose e) need h in
    (λ i. expression_form (past (sym n i) at) e, λ i. bracketed_end (sym n i) at e)

-- and one where it is not
below : (need at : ℕ) (e : Expression) → loose e < need → Lies need at e (expression_form (at + 1) e) (expression_end (at + 1) e + 1)
below need at e h =
    let n : nat_lt (loose e) need ≡ true = lt-ltb (loose e) need h in
    (λ i. expression_form (past (sym n i) at) e, λ i. bracketed_end (sym n i) at e)

lies_open : (at : ℕ) (e : Expression) → FitsExpression e → Lies 1 at e (expression_form at e) (expression_end at e)
lies_open at (More a e) f = bare 1 at (More a e) (omega arith)
lies_open at (One (To t m a)) f = bare 1 at (One (To t m a)) (omega arith)
lies_open at (One (Value (Choose b e d))) f = bare 1 at (One (Value (Choose b e d))) (omega arith)
lies_open at (One (Value (Only b))) f = let h = root_high b f in bare 1 at (One (Value (Only b))) (omega (arith, h))

lies_assigned : (at : ℕ) (e : Expression) → FitsExpression e → Lies 2 at e (assignment_form at (as_assignment e)) (assignment_end at (as_assignment e))
lies_assigned at (More a e) f = below 2 at (More a e) (omega arith)
lies_assigned at (One (To t m a)) f = bare 2 at (One (To t m a)) (omega arith)
lies_assigned at (One (Value (Choose b e d))) f = bare 2 at (One (Value (Choose b e d))) (omega arith)
lies_assigned at (One (Value (Only b))) f = let h = root_high b f in bare 2 at (One (Value (Only b))) (omega (arith, h))

lies_chosen : (at : ℕ) (e : Expression) → FitsExpression e → Lies 3 at e (conditional_form at (as_conditional e)) (conditional_end at (as_conditional e))
lies_chosen at (More a e) f = below 3 at (More a e) (omega arith)
lies_chosen at (One (To t m a)) f = below 3 at (One (To t m a)) (omega arith)
lies_chosen at (One (Value (Choose b e d))) f = bare 3 at (One (Value (Choose b e d))) (omega arith)
lies_chosen at (One (Value (Only b))) f = let h = root_high b f in bare 3 at (One (Value (Only b))) (omega (arith, h))

chosen_form : (at : ℕ) (x : Bool) (b : Binary) → binary_form at (cond x (Single (Within (One (Value (Only b))))) b) ≡ expression_form (past x at)
    (One (Value (Only b)))
chosen_form at true b = refl
chosen_form at false b = refl

chosen_end : (at : ℕ) (x : Bool) (b : Binary) → binary_end at (cond x (Single (Within (One (Value (Only b))))) b) ≡ bracketed_end x at (One (Value (Only b)))
chosen_end at true b = refl
chosen_end at false b = refl

lies_bound : (need at : ℕ) (e : Expression) → 4 ≤ need → Lies need at e (binary_form at (as_binary need e)) (binary_end at (as_binary need e))
lies_bound need at (More a e) h = below need at (More a e) (omega (arith, h))
lies_bound need at (One (To t m a)) h = below need at (One (To t m a)) (omega (arith, h))
lies_bound need at (One (Value (Choose b e d))) h = below need at (One (Value (Choose b e d))) (omega (arith, h))
lies_bound need at (One (Value (Only b))) h = (chosen_form at (nat_lt (root b) need) b, chosen_end at (nat_lt (root b) need) b)

lies_tight : (at : ℕ) (e : Expression) → Lies 14 at e (unary_form at (as_unary e)) (unary_end at (as_unary e))
lies_tight at (More a e) = below 14 at (More a e) (omega arith)
lies_tight at (One (To t m a)) = below 14 at (One (To t m a)) (omega arith)
lies_tight at (One (Value (Choose b e d))) = below 14 at (One (Value (Choose b e d))) (omega arith)
lies_tight at (One (Value (Only (Single u)))) = bare 14 at (One (Value (Only (Single u)))) (omega arith)
lies_tight at (One (Value (Only (Both a m b)))) = below 14 at (One (Value (Only (Both a m b)))) (level_low m)

-- ---- of an expression of the tree

pub record Lying (need at : ℕ) (x : ExpressionTree) (form : Form) (end : ℕ) : Type 0 where
  pub form_is : form ≡ expression_form (beginning need at x) (derivation_of x)
  pub end_is : end ≡ ending need at x

lying : (need at : ℕ) (x : ExpressionTree) (form : Form) (end : ℕ) → Lies need at (derivation_of x) form end → Lying need at x form end
lying need at x form end l =
    let e = level_is x in
    record {
      form_is = l.0 ∙ (λ i. expression_form (past (nat_lt (e i) need) at) (derivation_of x));
      end_is = l.1 ∙ (λ i. bracketed_end (nat_lt (e i) need) at (derivation_of x));
    }

pub opened : (at : ℕ) (x : ExpressionTree) → Lying 1 at x (expression_form at (derivation_of x)) (expression_end at (derivation_of x))
opened at x = lying 1 at x _ _ (lies_open at (derivation_of x) (fits x))

pub assigned : (at : ℕ) (x : ExpressionTree) → Lying 2 at x (assignment_form at (as_assignment (derivation_of x)))
    (assignment_end at (as_assignment (derivation_of x)))
assigned at x = lying 2 at x _ _ (lies_assigned at (derivation_of x) (fits x))

pub chosen : (at : ℕ) (x : ExpressionTree) → Lying 3 at x (conditional_form at (as_conditional (derivation_of x)))
    (conditional_end at (as_conditional (derivation_of x)))
chosen at x = lying 3 at x _ _ (lies_chosen at (derivation_of x) (fits x))

pub bound : (need at : ℕ) (x : ExpressionTree) → 4 ≤ need → Lying need at x (binary_form at (as_binary need (derivation_of x)))
    (binary_end at (as_binary need (derivation_of x)))
bound need at x h = lying need at x _ _ (lies_bound need at (derivation_of x) h)

pub tight : (at : ℕ) (x : ExpressionTree) → Lying 14 at x (unary_form at (as_unary (derivation_of x))) (unary_end at (as_unary (derivation_of x)))
tight at x = lying 14 at x _ _ (lies_tight at (derivation_of x))
