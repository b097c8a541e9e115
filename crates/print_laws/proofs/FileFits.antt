-- The derivations of programs fit, and stay within the limits.
use Rattle.std.proofs.Common.{ℕ, false, List, [], ◌∷◌, map, Option, Some, None, arith}
use Rattle.std.specs.Prelude.{take, option_map}
use Rattle.c_types.specs.declared.kinds.IntKind.{IntKind}
use Rattle.c_tree.specs.declared.tree.Slot.{Slot}
use Rattle.c_tree.specs.declared.tree.Expression.{Expression}
use Rattle.c_tree.specs.declared.tree.EnumItem.{EnumItem}
use Rattle.c_tree.specs.declared.tree.Function.{Function}
use Rattle.c_tree.specs.declared.tree.Item.{Item}
use Rattle.c_tree.specs.declared.tree.Top.{Top}
use Rattle.c_tree.specs.declared.tree.Top.TheVariants as T
use Rattle.c_tree.specs.ExpressionTrees.{expression_tree}
use Rattle.c_tree.specs.Trees.{expression_trees, trees_of}
use Rattle.c_grammar.specs.Events.{Event}
use Rattle.c_grammar.specs.Statements.{NoItems, FitsMore, FitsSize}
use Rattle.c_grammar.specs.Files.{FitsParameter, FitsParameters, FitsConstant, FitsBody, FitsFile}
use Rattle.c_grammar.specs.Counts.{size_events, more_events, rest_events, constant_events, enumerator_events, parameter_events, parameters_events, result_events, body_events, function_events, file_events}
use Rattle.print_laws.specs.ExpressionDerivations.{type_of}
use Rattle.print_laws.specs.StatementDerivations.{conditional_of}
use Rattle.print_laws.specs.FileDerivations.{given_of, is_named, parameter_size, parameter_of, parameters_of, body_of, function_of, tops_of}
use Rattle.c_resolved_defs.specs.PrintablePrograms.{GivenPrints, EnumeratorsPrint, MaybeBody, FunctionPrints, TopsPrint}
use Rattle.print_laws.proofs.Costs.{within_opened}
use Rattle.print_laws.proofs.StatementFits.{conditional_fits, declaration_fits, items_fit}
use Rattle.print_laws.proofs.StatementCosts.{Any, Clear, out, any, chosen_any, type_any, word_any, declaration_clear, no_more, items_clear}

-- ---- they fit

given_fits : (g : Option Expression) → FitsConstant (option_map (λ (e : Expression). conditional_of (expression_tree e)) g)
given_fits None = tt
given_fits (Some e) = conditional_fits (expression_tree e)

givens_fit : (xs : List EnumItem) → FitsMore FitsConstant (map given_of xs)
givens_fit [] = tt
givens_fit (x ∷ xs) = (given_fits x.given, givens_fit xs)

parameter_fits : (s : Slot) → FitsParameter (parameter_of s)
parameter_fits s = by_cells s.cells
  where
    by_cells : (cells : Option ℕ) → FitsSize (parameter_size cells)
    by_cells None = tt
    by_cells (Some n) = tt

parameters_fit : (ss : List Slot) → FitsMore FitsParameter (map parameter_of ss)
parameters_fit [] = tt
parameters_fit (s ∷ ss) = (parameter_fits s, parameters_fit ss)

all_fit : (ss : List Slot) → FitsParameters (parameters_of ss)
all_fit [] = tt
all_fit (s ∷ ss) = (parameter_fits s, parameters_fit ss)

body_fits : (slots : List Slot) (body : Option (List Item)) → FitsBody (body_of slots body)
body_fits slots None = tt
body_fits slots (Some xs) = items_fit slots (trees_of xs) NoItems tt

pub file_fits : (ts : List Top) → FitsFile (tops_of ts)
file_fits [] = tt
file_fits (T.Include bytes ∷ ts) = (tt, file_fits ts)
file_fits (T.Enum [] ∷ ts) = file_fits ts
file_fits (T.Enum (x ∷ xs) ∷ ts) = ((given_fits x.given, givens_fit xs), file_fits ts)
file_fits (T.Global v ∷ ts) = (declaration_fits v.slot (option_map expression_trees v.init) [] tt, file_fits ts)
file_fits (T.Function f ∷ ts) = ((all_fit (take f.params f.slots), body_fits f.slots f.body), file_fits ts)
file_fits (T.Note bytes ∷ ts) = file_fits ts

-- ---- they stay within the limits

given_any : (g : Option Expression) → GivenPrints g → (q : List Event) → Any q →
    Any (constant_events (option_map (λ (e : Expression). conditional_of (expression_tree e)) g) q)
given_any None h q w = w
given_any (Some e) h q w = chosen_any [] (expression_tree e) h _ (out q w)

enumerators_any : (xs : List EnumItem) → EnumeratorsPrint xs → (q : List Event) → Any q → Any (rest_events enumerator_events (map given_of xs) false q)
enumerators_any [] h q w = any _ (out q w)
enumerators_any (x ∷ xs) h q w = enumerators_any xs h.1 _ (given_any x.given h.0.given _ (any _ (out _ (any _ (out q w)))))

size_any : (cells : Option ℕ) (q : List Event) → Any q → Any (size_events (parameter_size cells) q)
size_any None q w = w
size_any (Some n) q w = any _ (out _ (any _ (out q w)))

parameter_any : (s : Slot) (q : List Event) → Any q → Any (parameter_events (parameter_of s) q)
parameter_any s q w = size_any s.cells _ (word_any (is_named s.name) _ (type_any s.kind _ (word_any s.constant q w)))

more_any : (ss : List Slot) (q : List Event) → Any q → Any (more_events parameter_events (map parameter_of ss) q)
more_any [] q w = w
more_any (s ∷ ss) q w = more_any ss _ (parameter_any s _ (any _ (out q w)))

parameters_any : (ss : List Slot) (q : List Event) → Any q → Any (parameters_events (parameters_of ss) q)
parameters_any [] q w = any _ (out q w)
parameters_any (s ∷ ss) q w = more_any ss _ (parameter_any s q w)

result_any : (r : Option IntKind) (q : List Event) → Any q → Any (result_events (option_map type_of r) q)
result_any None q w = any _ (out q w)
result_any (Some kind) q w = type_any kind q w

body_clear : (f : Function) (body : Option (List Item)) → MaybeBody f body → (q : List Event) → Clear q → Clear (body_events (body_of f.slots body) q)
body_clear f None h q w = out q (any q w)
body_clear f (Some xs) h q w =
    let l = h.shallow in
    out _ (any _ (items_clear f 1 (trees_of xs) NoItems h.items l (λ q w. w) _ (out _ (0, within_opened 0 1 q (omega arith) w))))

function_clear : (f : Function) → FunctionPrints f → (q : List Event) → Clear q → Clear (function_events (function_of f) q)
function_clear f h q w =
    body_clear f f.body h.body _ (out _ (parameters_any (take f.params f.slots)
    _ (any _ (out _ (any _ (out _ (result_any f.result _ (word_any f.file_only q (any q w)))))))))

pub file_clear : (ts : List Top) → TopsPrint ts → (q : List Event) → Clear q → Clear (file_events (tops_of ts) q)
file_clear [] h q w = w
file_clear (T.Include bytes ∷ ts) h q w = file_clear ts h.1 _ (out q (any q w))
file_clear (T.Enum [] ∷ ts) h q w = absurd h.0
file_clear (T.Enum (x ∷ xs) ∷ ts) h q w =
    file_clear ts h.1 _ (out _ (enumerators_any xs h.0.1 _ (given_any x.given h.0.0.given _ (any _ (out _ (any _ (out _ (any _ (out q (any q w))))))))))
file_clear (T.Global v ∷ ts) h q w = file_clear ts h.1 _ (declaration_clear [] v.slot (option_map expression_trees v.init) [] h.0 no_more
    _ (word_any v.file_only q (any q w)))
file_clear (T.Function f ∷ ts) h q w = file_clear ts h.1 _ (function_clear f h.0 q w)
file_clear (T.Note bytes ∷ ts) h q w = file_clear ts h.1 q w
