-- The parameters among the nodes of a list, from an index on.
use Rattle.std.proofs.Common.{◌≡◌, ◌<◌, ◌+◌, ℕ, Bool, List, [], ◌∷◌, length, get_or, drop, refl, ap, ◌∙◌, Option, Some, None}
use Rattle.c_grammar.specs.declared.syntax.Syntax.{Syntax}
use Rattle.c_grammar.specs.Tops.{Parameter}
use Rattle.c_grammar.specs.TopViews.{parameter_of}
use Rattle.c_kinds.specs.Scopes.{Faults}
use Rattle.c_statements.specs.Context.{Walk}
use Rattle.c_statements.specs.Functions.{bind_parameters, parameters_faults}
use Rattle.c_scopes.specs.NodeViews.{parameters_of, bind_optional, optional_faults}
use Rattle.c_scopes.proofs.Nodes.{in_front, parameters_at}

bind-front : (word : ℕ → List ℕ) (o : Option Parameter) (xs : List Parameter) (w : Walk) →
    bind_parameters word (in_front o xs) w ≡ bind_parameters word xs (bind_optional word o w)
bind-front word (Some x) xs w = refl
bind-front word None xs w = refl

faults-front : (word : ℕ → List ℕ) (defines : Bool) (o : Option Parameter) (xs : List Parameter) (w : Walk) (vs : Faults)
    → parameters_faults word defines (in_front o xs) w vs ≡ parameters_faults word defines xs (bind_optional word o w) (optional_faults word defines o w vs)
faults-front word defines (Some x) xs w vs = refl
faults-front word defines None xs w vs = refl

pub bind-next : (word : ℕ → List ℕ) (xs : List Syntax) (i : ℕ) (d : Syntax) (w : Walk) → i < length xs
    → bind_parameters word (parameters_of word (drop i xs)) w ≡ bind_parameters word (parameters_of word (drop (i + 1) xs))
    (bind_optional word (parameter_of word (get_or xs i d)) w)
bind-next word xs i d w h = ap (λ l. bind_parameters word l w) (parameters_at word xs i d h) ∙
    bind-front word (parameter_of word (get_or xs i d)) (parameters_of word (drop (i + 1) xs)) w

pub faults-next : (word : ℕ → List ℕ) (defines : Bool) (xs : List Syntax) (i : ℕ) (d : Syntax) (w : Walk) (vs : Faults) → i < length xs
    → parameters_faults word defines (parameters_of word (drop i xs)) w vs
    ≡ parameters_faults word defines (parameters_of word (drop (i + 1) xs)) (bind_optional word (parameter_of word (get_or xs i d)) w)
    (optional_faults word defines (parameter_of word (get_or xs i d)) w vs)
faults-next word defines xs i d w vs h =
    ap (λ l. parameters_faults word defines l w vs) (parameters_at word xs i d h) ∙
    faults-front word defines (parameter_of word (get_or xs i d)) (parameters_of word (drop (i + 1) xs)) w vs

pub ruleset next = (bind-next, faults-next)
