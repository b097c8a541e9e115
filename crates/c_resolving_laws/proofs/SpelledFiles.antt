-- Enum constants and variables of a file without a violation are spelled as C spells them.
use Rattle.std.proofs.Common.{ℕ, ℤ, ◌≤◌, ◌<◌, List, [], ◌∷◌, map, length, Option, Some, None, option_map, arith}
use Rattle.std.specs.Prelude.{IfSome, max}
use Rattle.c_tree.specs.declared.tree.Slot.{Slot}
use Rattle.c_tree.specs.declared.tree.Top.{Top}
use Rattle.c_tree.specs.ExpressionTrees.{expression_tree}
use Rattle.c_tree.specs.Trees.{expression_trees}
use Rattle.c_grammar.specs.Terms.{Term}
use Rattle.c_grammar.specs.Items.{Initialiser, NoValue, OneValue, ValueList, Declarator}
use Rattle.c_grammar.specs.Tops.{Enumerator}
use Rattle.c_kinds.specs.Scopes.{Env}
use Rattle.c_scopes.specs.Enums.{enum_item, enum_items}
use Rattle.c_statements.specs.Declarations.{constant_at, initial}
use Rattle.c_resolved_defs.specs.Files.{IsLength, AreInitialisers}
use Rattle.c_resolved_defs.specs.Limits.{most_of, most_listed}
use Rattle.c_resolved_defs.specs.Names.{Names}
use Rattle.c_resolved_defs.specs.PrintableExpressions.{IsName, counted_at}
use Rattle.c_resolved_defs.specs.PrintablePrograms.{GivenPrints, EnumeratorPrints, EnumeratorsPrint, EnumPrints}
use Rattle.c_resolved_defs.specs.PrintableStatements.{DeclaratorPrints}
use Rattle.c_resolved_defs.specs.Scopes as Scopes
use Rattle.c_resolved_defs.specs.Within.{Each}
use Rattle.c_resolving_laws.specs.Counts.{IsFew, IsFewInitialiser, IsFewDeclarator}
use Rattle.c_resolving_laws.specs.Read.{IsReadTerm, IsReadDeclarator, IsReadEnumerator}
use Rattle.c_resolving_laws.proofs.Known.{Knows}
use Rattle.c_resolving_laws.proofs.LimitedTerms.{constant_few}
use Rattle.c_resolving_laws.proofs.PrintedItems.{constant_prints, given_prints, given_there}
use Rattle.c_resolving_laws.proofs.SpelledTrees.{length_prints, values_print}

-- an enum has a constant
pub enum_spelled : (es : List Enumerator) (o : Option ℤ) (env : Env) → 0 < length es → EnumeratorsPrint (enum_items es o env) → EnumPrints (enum_items es o env)
enum_spelled [] o env h p = absurd (omega arith)
enum_spelled (x ∷ es) o env h p = p

module _ (ts : List Top) (ss : List Scopes.Scope) (env : Env) (knows : Knows (record { tops = ts; slots = [] }) ss env) where
  abbrev n : Names
  n = record { tops = ts; slots = [] }

  given_spelled : (o : Option Term) → IfSome o (IsReadTerm env.word) → IfSome o (IsFew env.word 400 3) → GivenPrints (option_map (constant_at env) o)
  given_spelled None r f = tt
  given_spelled (Some t) r f = record { prints = constant_prints n ss env knows t r; few = let q = constant_few env 3 t (omega arith) in omega arith }

  pub constant_spelled : (x : Enumerator) (v : Option ℤ) → IsReadEnumerator env.word x → EnumeratorPrints (enum_item x v env)
  constant_spelled x v r = record { named = r.named; given = given_spelled x.value r.value r.few }

  both_most : (a b : ℕ) → a ≤ 400 → b ≤ 400 → max a b ≤ 400
  both_most a b h k = omega arith

  one_most : (t : Term) → IsFew env.word 400 2 t → counted_at 2 (expression_tree (constant_at env t)) ≤ 400
  one_most t h = let q = constant_few env 2 t (omega arith) in omega arith

  list_most : (ts : List Term) → Each (IsFew env.word 400 2) ts → most_of 2 (expression_trees (map (constant_at env) ts)) ≤ 400
  list_most [] h = omega arith
  list_most (t ∷ ts) h = both_most _ _ (one_most t h.0) (list_most ts h.1)

  given_most : (i : Initialiser) → IsFewInitialiser env.word 400 i → most_listed (option_map expression_trees (initial (constant_at env) i)) ≤ 400
  given_most NoValue h = omega arith
  given_most (OneValue t) h = both_most _ 0 (one_most t h) (omega arith)
  given_most (ValueList ts) h = list_most ts h

  pub variable_spelled : (s : Slot) (d : Declarator) → IsName s.name → IsReadDeclarator env.word d → IsFewDeclarator env.word 400 d → IsLength s.cells
      → let given = option_map expression_trees (initial (constant_at env) d.value) in
      IfSome given (AreInitialisers 65536 s.cells) → DeclaratorPrints [] s given
  variable_spelled s d m r f l i = record {
    named = m;
    length = length_prints [] s.cells l;
    values = values_print [] 65536 s.cells (option_map expression_trees (initial (constant_at env) d.value))
        (given_prints n ss env knows (constant_at env) (λ t r. constant_prints n ss env knows t r) d.value r.value) i
        (given_there env.word [] (constant_at env) d.value r.value) (given_most d.value f);
  }
