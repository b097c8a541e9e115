-- What nodes write: the token behind it, labels, and null statements.
use Rattle.std.proofs.Common.{◌≡◌, ◌&&◌, ◌||◌, not, ℕ, Bool, List, [], ◌∷◌, Option, Some, None, is_some, refl, ap}
use Rattle.std.specs.List.{list_any}
use Rattle.c_grammar.specs.declared.syntax.Syntax.{Syntax, out-Syntax}
use Rattle.c_grammar.specs.Items.{Label, Plain}
use Rattle.c_grammar.specs.ItemViews.{label_of, labels_of, plain_of}
use Rattle.c_grammar.specs.TopViews.{top_of}
use Rattle.c_grammar.proofs.FileScope.{open_top}
use Rattle.c_grammar.proofs.Items.{open_plain}
use Rattle.c_statements.specs.Violations.{is_null}
use Rattle.c_statements.proofs.Lists.{labels-none, labels-some}
use Rattle.c_comments.specs.Notes.{plain_after, top_after}

pub after_plain : (word : ℕ → List ℕ) (x : Syntax) → plain_after (plain_of word x) ≡ (out-Syntax x).after
after_plain word x = ap plain_after (open_plain word x)

pub after_top : (word : ℕ → List ℕ) (x : Syntax) → top_after (top_of word x) ≡ (out-Syntax x).after
after_top word x = ap top_after (open_top word x)

-- a null statement has no labels
one-null : (o : Option Label) (ls : List Label) (any : Bool) (p : Plain) → is_null ls p ≡ (not any && is_null [] p)
    → is_null (elim o [ Some l ↦ l ∷ ls | None ↦ ls ]) p ≡ (not (is_some o || any) && is_null [] p)
one-null (Some l) ls any p h = refl
one-null None ls any p h = h

pub null_labels : (word : ℕ → List ℕ) (xs : List Syntax) (p : Plain) →
    is_null (labels_of word xs) p ≡ (not (list_any (λ x. is_some (label_of word x)) xs) && is_null [] p)
null_labels word [] p = refl
null_labels word (x ∷ xs) p = one-null (label_of word x) (labels_of word xs) (list_any (λ x. is_some (label_of word x)) xs) p (null_labels word xs p)

pub ruleset afters = (after_plain, after_top)

pub ruleset labelled = (labels-none, labels-some)

pub ruleset null = (null_labels)
