-- What stands among the nodes of a list, from an index on.
use Rattle.std.proofs.Common.{◌≡◌, ◌<◌, ◌+◌, ℕ, suc, List, ◌∷◌, length, get_or, map, drop, refl, add-one, drop-cons, Option, Some, None}
use Rattle.c_grammar.specs.declared.syntax.Syntax.{Syntax}
use Rattle.c_grammar.specs.Items.{Label}
use Rattle.c_grammar.specs.ItemViews.{label_of, labels_of}
use Rattle.c_grammar.specs.TopViews.{top_of}
use Rattle.c_grammar.proofs.Layers.{weight-at}
use Rattle.c_statements.proofs.Lists.{items-token, items-item}
use Rattle.tidy_refusal.specs.FileJumps.{jump_in, labels_jump}

one-jump : (o : Option Label) (ls : List Label) (rest : Option ℕ) → labels_jump (elim o [ Some l ↦ l ∷ ls | None ↦ ls ]) rest ≡ jump_in o (labels_jump ls rest)
one-jump (Some l) ls rest = refl
one-jump None ls rest = refl

pub jumps_at : (word : ℕ → List ℕ) (xs : List Syntax) (i : ℕ) (d : Syntax) (rest : Option ℕ) → i < length xs
    → labels_jump (labels_of word (drop i xs)) rest ≡ jump_in (label_of word (get_or xs i d)) (labels_jump (labels_of word (drop (i + 1) xs)) rest)
jumps_at word xs i d rest h = rw (add-one, drop-cons xs i d) (one-jump (label_of word (get_or xs i d)) (labels_of word (drop (suc i) xs)) rest)

pub tops-next : (word : ℕ → List ℕ) (xs : List Syntax) (i : ℕ) (d : Syntax) → i < length xs
    → map (top_of word) (drop i xs) ≡ top_of word (get_or xs i d) ∷ map (top_of word) (drop (i + 1) xs)
tops-next word xs i d h = rw (add-one, drop-cons xs i d) refl

pub ruleset labels_back = (jumps_at)

pub ruleset items_back = (items-token, items-item, weight-at)

pub ruleset tops_back = (tops-next)
