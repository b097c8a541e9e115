-- What stands among the nodes of a list, from an index on.
use Rattle.std.proofs.Common.{◌≡◌, ◌<◌, ◌+◌, ℕ, suc, List, [], ◌∷◌, length, get_or, map, drop, refl, ap, add-one, drop-cons, ◌∙◌, append_assoc, Option, Some, None}
use Rattle.c_grammar.specs.declared.syntax.Syntax.{Syntax}
use Rattle.c_grammar.specs.Items.{Declarator}
use Rattle.c_grammar.specs.ItemViews.{declarator_of, declarators_of}
use Rattle.c_grammar.specs.Tops.{Enumerator, Parameter}
use Rattle.c_grammar.specs.TopViews.{enumerator_of, parameter_of}
use Rattle.c_comments.proofs.Nodes.{tops-next}
use Rattle.c_scopes.specs.NodeViews.{enumerators_of, parameters_of}

-- what may be an item, in front of others
abbrev pub in_front : {X : Type 0} → Option X → List X → List X
in_front o xs = elim o [ Some x ↦ x ∷ xs | None ↦ xs ]

pub enumerators_at : (word : ℕ → List ℕ) (xs : List Syntax) (i : ℕ) (d : Syntax) → i < length xs
    → enumerators_of word (drop i xs) ≡ in_front (enumerator_of word (get_or xs i d)) (enumerators_of word (drop (i + 1) xs))
enumerators_at word xs i d h = rw (add-one, drop-cons xs i d) refl

pub enumerators-none : (word : ℕ → List ℕ) (xs : List Syntax) (i : ℕ) (d : Syntax) → i < length xs → enumerator_of word (get_or xs i d) ≡ None
    → enumerators_of word (drop i xs) ≡ enumerators_of word (drop (i + 1) xs)
enumerators-none word xs i d h n = enumerators_at word xs i d h ∙ ap (λ o. in_front o (enumerators_of word (drop (i + 1) xs))) n

pub enumerators-some : (word : ℕ → List ℕ) (xs : List Syntax) (i : ℕ) (d : Syntax) (e : Enumerator) → i < length xs →
    enumerator_of word (get_or xs i d) ≡ Some e
    → enumerators_of word (drop i xs) ≡ e ∷ enumerators_of word (drop (i + 1) xs)
enumerators-some word xs i d e h n = enumerators_at word xs i d h ∙ ap (λ o. in_front o (enumerators_of word (drop (i + 1) xs))) n

pub declarators_at : (word : ℕ → List ℕ) (xs : List Syntax) (i : ℕ) (d : Syntax) → i < length xs
    → declarators_of word (drop i xs) ≡ in_front (declarator_of word (get_or xs i d)) (declarators_of word (drop (i + 1) xs))
declarators_at word xs i d h = rw (add-one, drop-cons xs i d) refl

pub declarators-none : (word : ℕ → List ℕ) (xs : List Syntax) (i : ℕ) (d : Syntax) → i < length xs → declarator_of word (get_or xs i d) ≡ None
    → declarators_of word (drop i xs) ≡ declarators_of word (drop (i + 1) xs)
declarators-none word xs i d h n = declarators_at word xs i d h ∙ ap (λ o. in_front o (declarators_of word (drop (i + 1) xs))) n

pub declarators-some : (word : ℕ → List ℕ) (xs : List Syntax) (i : ℕ) (d : Syntax) (e : Declarator) → i < length xs →
    declarator_of word (get_or xs i d) ≡ Some e
    → declarators_of word (drop i xs) ≡ e ∷ declarators_of word (drop (i + 1) xs)
declarators-some word xs i d e h n = declarators_at word xs i d h ∙ ap (λ o. in_front o (declarators_of word (drop (i + 1) xs))) n

pub ruleset declarators = (declarators-none, declarators-some, append_assoc)

pub ruleset enumerators = (enumerators-none, enumerators-some, append_assoc)

pub parameters_at : (word : ℕ → List ℕ) (xs : List Syntax) (i : ℕ) (d : Syntax) → i < length xs
    → parameters_of word (drop i xs) ≡ in_front (parameter_of word (get_or xs i d)) (parameters_of word (drop (i + 1) xs))
parameters_at word xs i d h = rw (add-one, drop-cons xs i d) refl

pub parameters-none : (word : ℕ → List ℕ) (xs : List Syntax) (i : ℕ) (d : Syntax) → i < length xs → parameter_of word (get_or xs i d) ≡ None
    → parameters_of word (drop i xs) ≡ parameters_of word (drop (i + 1) xs)
parameters-none word xs i d h n = parameters_at word xs i d h ∙ ap (λ o. in_front o (parameters_of word (drop (i + 1) xs))) n

pub parameters-some : (word : ℕ → List ℕ) (xs : List Syntax) (i : ℕ) (d : Syntax) (e : Parameter) → i < length xs → parameter_of word (get_or xs i d) ≡ Some e
    → parameters_of word (drop i xs) ≡ e ∷ parameters_of word (drop (i + 1) xs)
parameters-some word xs i d e h n = parameters_at word xs i d h ∙ ap (λ o. in_front o (parameters_of word (drop (i + 1) xs))) n

pub ruleset parameters = (parameters-none, parameters-some, append_assoc)

pub ruleset tops = (tops-next, append_assoc)

pub ruleset listed = (append_assoc)
