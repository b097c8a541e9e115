-- What the nodes of a list write, in order.
use Rattle.std.specs.Prelude.{ℕ, Bool, List, map, Option, Some, None}
use Rattle.c_grammar.specs.declared.syntax.Syntax.{Syntax}
use Rattle.c_grammar.specs.Parts.{part_of, gathered, enumerator_in, parameter_in}
use Rattle.c_grammar.specs.Tops.{Enumerator, Parameter}
use Rattle.c_kinds.specs.Scopes.{Faults}
use Rattle.c_statements.specs.Context.{Walk}
use Rattle.c_statements.specs.Functions.{bind_parameter, parameter_fault}

abbrev pub enumerators_of : (ℕ → List ℕ) → List Syntax → List Enumerator
enumerators_of word xs = gathered enumerator_in (map (part_of word) xs)

abbrev pub parameters_of : (ℕ → List ℕ) → List Syntax → List Parameter
parameters_of word xs = gathered parameter_in (map (part_of word) xs)

-- behind what may be a parameter

abbrev pub bind_optional : (ℕ → List ℕ) → Option Parameter → Walk → Walk
bind_optional word None w = w
bind_optional word (Some x) w = bind_parameter word x w

abbrev pub optional_faults : (ℕ → List ℕ) → Bool → Option Parameter → Walk → Faults → Faults
optional_faults word defines None w vs = vs
optional_faults word defines (Some x) w vs = parameter_fault word defines x w vs
