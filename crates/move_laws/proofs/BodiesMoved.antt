-- A rule in one body of a program: its core is no worse, and the program stays in range and made well.
use Rattle.std.proofs.Common.{◌≡◌, List, Option, Some, None, option_map, refl, sym, subst}
use Rattle.c_tree.specs.declared.tree.Item.{Item}
use Rattle.c_tree.specs.declared.tree.Function.{Function}
use Rattle.c_tree.specs.declared.tree.Program.{Program}
use Rattle.c_tree.specs.Trees.{Forest, trees_of}
use Rattle.jump_meaning.specs.Code.{FunctionTree, function_tree, code_of}
use Rattle.core_laws.specs.Core.{body_core, core_function, core_code}
use Rattle.core_laws.specs.Better.{LeAll, LeBody, le_no_body, le_body, LeFunction, LeCode}
use Rattle.move_laws.specs.Bodies.{with_body, OneBodyChanged}
use Rattle.move_laws.proofs.Orders.{all_refl}
use Rattle.move_laws.proofs.NamedFunctions.{named, globals_same, cells_same}

-- ---- the core of each function

le_body_refl : (o : Option Forest) → LeBody o o
le_body_refl None = le_no_body
le_body_refl (Some a) = le_body (all_refl a)

pub le_function_refl : (f : FunctionTree) → LeFunction f f
le_function_refl f = record { result = refl; params = refl; slots = refl; body = le_body_refl f.body }

-- the cores of two bodies are equal, but an Arm of the first may be a goto of the second
abbrev pub CoresAreLe : List Item → List Item → Type 0
CoresAreLe a b = LeAll (body_core (trees_of a)) (body_core (trees_of b))

le_with : (f : Function) (a b : List Item) → f.body ≡ Some a → CoresAreLe a b →
    LeFunction (core_function (function_tree f)) (core_function (function_tree (with_body f b)))
le_with f a b e h = record {
  result = refl;
  params = refl;
  slots = refl;
  body = subst (λ o. LeBody (option_map body_core (option_map trees_of o)) (Some (body_core (trees_of b)))) (sym e) (le_body h);
}

pub code_le : (p q : Program) → OneBodyChanged CoresAreLe p.tops q.tops → LeCode (core_code (code_of p)) (core_code (code_of q))
code_le p q r = record {
  functions = λ m. named (λ f h. LeFunction (core_function f) (core_function h)) (λ f. le_function_refl (core_function f)) le_with m r;
  globals = λ m. globals_same m r;
  cells = cells_same r;
}
