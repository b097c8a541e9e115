-- What stands among the nodes of a list, from an index on.
use Rattle.std.proofs.Common.{◌≡◌, ◌<◌, ◌+◌, ℕ, suc, Bool, List, [], ◌∷◌, ◌++◌, append_assoc, true, false, cond, length, get_or, map, drop, max, refl, ap, arith, add-one, drop-cons, Option, Some, None}
use Rattle.std.proofs.lemmas.List.{append-nil}
use Rattle.c_grammar.specs.declared.syntax.Syntax.{Syntax, out-Syntax}
use Rattle.c_grammar.specs.Items.{Label, Declarator, Then}
use Rattle.c_grammar.specs.ItemViews.{item_of, term_list_of, label_of, labels_of, declarator_of, declarators_of}
use Rattle.c_grammar.specs.Parts.{term_of, is_token}
use Rattle.c_grammar.specs.Terms.{Term}
use Rattle.c_grammar.proofs.Layers.{part-rule, weight-at}
use Rattle.c_statements.specs.Labels.{name_in, named_in, new_name}
use Rattle.c_statements.specs.Measures.{length_in, longest_label, declared_length, longest_declared}
use Rattle.c_statements.specs.Nodes.{items_of}

-- ---- items

items-cons : (word : ℕ → List ℕ) (x : Syntax) (xs : List Syntax) → items_of word (x ∷ xs) ≡ cond (is_token (out-Syntax x).rule) (items_of word xs)
    (Then (item_of word x) (items_of word xs))
items-cons word x xs = ap (λ r. cond (is_token r) (items_of word xs) (Then (item_of word x) (items_of word xs))) (part-rule word x)

-- a token is no item
pub items-token : (word : ℕ → List ℕ) (xs : List Syntax) (i : ℕ) (d : Syntax) → i < length xs → is_token (out-Syntax (get_or xs i d)).rule ≡ true
    → items_of word (drop i xs) ≡ items_of word (drop (i + 1) xs)
items-token word xs i d h t = rw (add-one, drop-cons xs i d, items-cons word (get_or xs i d) (drop (suc i) xs), t) refl

pub items-item : (word : ℕ → List ℕ) (xs : List Syntax) (i : ℕ) (d : Syntax) → i < length xs → is_token (out-Syntax (get_or xs i d)).rule ≡ false
    → items_of word (drop i xs) ≡ Then (item_of word (get_or xs i d)) (items_of word (drop (i + 1) xs))
items-item word xs i d h t = rw (add-one, drop-cons xs i d, items-cons word (get_or xs i d) (drop (suc i) xs), t) refl

-- ---- values

values-cons : (word : ℕ → List ℕ) (x : Syntax) (xs : List Syntax) → term_list_of word (x ∷ xs) ≡ cond (is_token (out-Syntax x).rule)
    (term_list_of word xs) (term_of word x ∷ term_list_of word xs)
values-cons word x xs = ap (λ r. cond (is_token r) (term_list_of word xs) (term_of word x ∷ term_list_of word xs)) (part-rule word x)

pub values-token : (word : ℕ → List ℕ) (xs : List Syntax) (i : ℕ) (d : Syntax) → i < length xs → is_token (out-Syntax (get_or xs i d)).rule ≡ true
    → term_list_of word (drop i xs) ≡ term_list_of word (drop (i + 1) xs)
values-token word xs i d h t = rw (add-one, drop-cons xs i d, values-cons word (get_or xs i d) (drop (suc i) xs), t) refl

pub values-value : (word : ℕ → List ℕ) (xs : List Syntax) (i : ℕ) (d : Syntax) → i < length xs → is_token (out-Syntax (get_or xs i d)).rule ≡ false
    → term_list_of word (drop i xs) ≡ term_of word (get_or xs i d) ∷ term_list_of word (drop (i + 1) xs)
values-value word xs i d h t = rw (add-one, drop-cons xs i d, values-cons word (get_or xs i d) (drop (suc i) xs), t) refl

one-value : (b : Bool) (t : Term) (ts : List Term) → length (cond b ts (t ∷ ts)) ≡ cond b 0 1 + length ts
one-value true t ts = omega arith
one-value false t ts = omega arith

pub count_at : (word : ℕ → List ℕ) (xs : List Syntax) (i : ℕ) (d : Syntax) → i < length xs
    → length (term_list_of word (drop i xs)) ≡ cond (is_token (out-Syntax (get_or xs i d)).rule) 0 1 + length (term_list_of word (drop (i + 1) xs))
count_at word xs i d h =
    rw (add-one, drop-cons xs i d, values-cons word (get_or xs i d) (drop (suc i) xs))
    (one-value (is_token (out-Syntax (get_or xs i d)).rule) (term_of word (get_or xs i d)) (term_list_of word (drop (suc i) xs)))

-- ---- labels and declarators

one-name : (o : Option Label) (ls : List Label) (rest : List ℕ) → named_in (elim o [ Some l ↦ l ∷ ls | None ↦ ls ]) rest ≡ name_in o (named_in ls rest)
one-name (Some l) ls rest = refl
one-name None ls rest = refl

pub names_at : (word : ℕ → List ℕ) (xs : List Syntax) (i : ℕ) (d : Syntax) (rest : List ℕ) → i < length xs
    → named_in (labels_of word (drop i xs)) rest ≡ name_in (label_of word (get_or xs i d)) (named_in (labels_of word (drop (i + 1) xs)) rest)
names_at word xs i d rest h = rw (add-one, drop-cons xs i d) (one-name (label_of word (get_or xs i d)) (labels_of word (drop (suc i) xs)) rest)

pub labels-none : (word : ℕ → List ℕ) (xs : List Syntax) (i : ℕ) (d : Syntax) → i < length xs → label_of word (get_or xs i d) ≡ None
    → labels_of word (drop i xs) ≡ labels_of word (drop (i + 1) xs)
labels-none word xs i d h e =
    rw (add-one, drop-cons xs i d) (ap (λ o. elim o [ Some l ↦ l ∷ labels_of word (drop (suc i) xs) | None ↦ labels_of word (drop (suc i) xs) ]) e)

pub labels-some : (word : ℕ → List ℕ) (xs : List Syntax) (i : ℕ) (d : Syntax) (y : Label) → i < length xs → label_of word (get_or xs i d) ≡ Some y
    → labels_of word (drop i xs) ≡ y ∷ labels_of word (drop (i + 1) xs)
labels-some word xs i d y h e =
    rw (add-one, drop-cons xs i d) (ap (λ o. elim o [ Some l ↦ l ∷ labels_of word (drop (suc i) xs) | None ↦ labels_of word (drop (suc i) xs) ]) e)

one-length : (word : ℕ → List ℕ) (o : Option Label) (ls : List Label) →
    longest_label word (elim o [ Some l ↦ l ∷ ls | None ↦ ls ]) ≡ max (length_in word o) (longest_label word ls)
one-length word (Some l) ls = refl
one-length word None ls = omega arith

pub label_length_at : (word : ℕ → List ℕ) (xs : List Syntax) (i : ℕ) (d : Syntax) → i < length xs
    → longest_label word (labels_of word (drop i xs)) ≡ max (length_in word (label_of word (get_or xs i d)))
    (longest_label word (labels_of word (drop (i + 1) xs)))
label_length_at word xs i d h = rw (add-one, drop-cons xs i d) (one-length word (label_of word (get_or xs i d)) (labels_of word (drop (suc i) xs)))

one-declared : (word : ℕ → List ℕ) (o : Option Declarator) (ds : List Declarator) →
    longest_declared word (elim o [ Some d ↦ d ∷ ds | None ↦ ds ]) ≡ max (declared_length word o) (longest_declared word ds)
one-declared word (Some d) ds = refl
one-declared word None ds = omega arith

pub name_length_at : (word : ℕ → List ℕ) (xs : List Syntax) (i : ℕ) (d : Syntax) → i < length xs
    → longest_declared word (declarators_of word (drop i xs)) ≡ max (declared_length word (declarator_of word (get_or xs i d)))
    (longest_declared word (declarators_of word (drop (i + 1) xs)))
name_length_at word xs i d h = rw (add-one, drop-cons xs i d) (one-declared word (declarator_of word (get_or xs i d)) (declarators_of word (drop (suc i) xs)))

pub declarators-none : (word : ℕ → List ℕ) (xs : List Syntax) (i : ℕ) (d : Syntax) → i < length xs → declarator_of word (get_or xs i d) ≡ None
    → declarators_of word (drop i xs) ≡ declarators_of word (drop (i + 1) xs)
declarators-none word xs i d h e =
    rw (add-one, drop-cons xs i d) (ap (λ o. elim o [ Some l ↦ l ∷ declarators_of word (drop (suc i) xs) | None ↦ declarators_of word (drop (suc i) xs) ]) e)

pub declarators-some : (word : ℕ → List ℕ) (xs : List Syntax) (i : ℕ) (d : Syntax) (y : Declarator) → i < length xs →
    declarator_of word (get_or xs i d) ≡ Some y
    → declarators_of word (drop i xs) ≡ y ∷ declarators_of word (drop (i + 1) xs)
declarators-some word xs i d y h e =
    rw (add-one, drop-cons xs i d) (ap (λ o. elim o [ Some l ↦ l ∷ declarators_of word (drop (suc i) xs) | None ↦ declarators_of word (drop (suc i) xs) ]) e)

-- ---- a list from an index on

pub next : {X : Type 0} (xs : List X) (i : ℕ) (d : X) → i < length xs → drop i xs ≡ get_or xs i d ∷ drop (i + 1) xs
next xs i d h = rw (add-one, drop-cons xs i d) refl

-- ---- names, each once

pub one_behind : (names : List (List ℕ)) (known : Bool) (n : List ℕ) (ns : List (List ℕ)) → (names ++ new_name known n []) ++ ns ≡ names ++ new_name known n ns
one_behind names true n ns = append_assoc names [] ns
one_behind names false n ns = append_assoc names (n ∷ []) ns

-- ---- walks

pub ruleset names_behind = (append-nil)

pub ruleset names_back = (names_at)

pub ruleset labels_back = (items-token, items-item, weight-at)

pub ruleset depths = (items-token, items-item, weight-at)

pub ruleset values = (count_at)

pub ruleset lengths = (items-token, items-item, weight-at)

pub ruleset label_lengths = (label_length_at)

pub ruleset name_lengths = (name_length_at)

pub ruleset listed = (values-token, values-value, append_assoc)

pub ruleset declarators = (declarators-none, declarators-some, append_assoc)
