-- What stands among the nodes of a list, from an index on.
use Rattle.std.proofs.Common.{◌≡◌, ◌<◌, ◌+◌, ℕ, List, ◌∷◌, length, get_or, drop, refl, add-one, drop-cons}
use Rattle.c_grammar.specs.declared.syntax.Syntax.{Syntax}
use Rattle.c_grammar.specs.TopViews.{top_of}
use Rattle.c_comments.specs.NodeViews.{tops_in}

pub tops-next : (word : ℕ → List ℕ) (xs : List Syntax) (i : ℕ) (d : Syntax) → i < length xs
    → tops_in word (drop i xs) ≡ top_of word (get_or xs i d) ∷ tops_in word (drop (i + 1) xs)
tops-next word xs i d h = rw (add-one, drop-cons xs i d) refl
