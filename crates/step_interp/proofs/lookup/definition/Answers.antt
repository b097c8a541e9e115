use Rattle.std.proofs.Common.{Bor, List, ℕ, Option, Some, None, MatchOption, true, false, ◌≡◌, ap, ◌∙◌, subst}
use Rattle.c_tree.specs.declared.tree.Function.{Function}
use Rattle.c_tree.specs.declared.tree.Top.{Top}
use Rattle.jump_meaning.specs.Code.{first_of, function_in, function_named, function_tree, undeclared}
use Rattle.step_interp.specs.Lookups.{wanted}
use Rattle.step_interp.proofs.lookup.definition.Goals as goal

declared_is : (r : Option (Bor Function)) (m : List ℕ) (ts : List Top) → function_in (wanted true) m ts ≡ None
    → MatchOption r (function_in (wanted false) m ts ≡ None) (λ f. (function_in (wanted false) m ts ≡ Some (function_tree f.now)) × (f.now.name ≡ m))
    → MatchOption r (function_named m ts ≡ undeclared) (λ f. (function_named m ts ≡ function_tree f.now) × (f.now.name ≡ m))
declared_is None m ts e h = ap (λ o. first_of o (function_in (wanted false) m ts) undeclared) e ∙ ap (λ o. first_of None o undeclared) h
declared_is (Some f) m ts e h = (ap (λ o. first_of o (function_in (wanted false) m ts) undeclared) e ∙ ap (λ o. first_of None o undeclared) h.0, h.1)

pub returns-in-None : goal.returns-in-None
returns-in-None c =
    subst (λ ts. MatchOption c.function_in-in-None.result (function_named c.args.name.now ts ≡ undeclared)
    (λ f. (function_named c.args.name.now ts ≡ function_tree f.now) × (f.now.name ≡ c.args.name.now)))
    c.as_slice-tops.ensures.value (declared_is c.function_in-in-None.result c.args.name.now c.as_slice-tops.result.now c.in-None.ensures
    c.function_in-in-None.ensures)
