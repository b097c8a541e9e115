-- The first tokens of items, by their first label.
use Rattle.std.proofs.Common.{◌≡◌, ℕ, List, [], ◌∷◌, not, ◌||◌, Some, None, is_some, refl}
use Rattle.c_bodies.specs.Steps.{first_of}
use Rattle.c_grammar.specs.Items.{Label, Plain, plain_first, stated_first}
use Rattle.c_statements.specs.Violations.{is_null}

pub first_some : (ls : List Label) (p : Plain) (n : ℕ) → first_of ls ≡ Some n → stated_first ls p ≡ n
first_some [] p n h = cc
first_some (l ∷ ls) p n h = cc

pub first_none : (ls : List Label) (p : Plain) → first_of ls ≡ None → stated_first ls p ≡ plain_first p
first_none [] p h = refl
first_none (l ∷ ls) p h = cc

pub null_by_first : (ls : List Label) (p : Plain) → not (is_null ls p) ≡ is_some (first_of ls) || not (is_null [] p)
null_by_first [] p = refl
null_by_first (l ∷ ls) p = refl

pub ruleset firsts = (first_some, first_none, null_by_first)
