-- Lists of items and of labels, from an index on.
use Rattle.std.proofs.Common.{◌≡◌, ◌∙◌, ◌<◌, ◌+◌, ◌||◌, ℕ, suc, Bool, true, false, List, [], ◌∷◌, ◌++◌, Option, Some, None, append_assoc, length, get_or, drop, refl, ap, sym, add-one, drop-cons}
use Rattle.std.proofs.lemmas.List.{append-nil}
use Rattle.c_grammar.specs.declared.syntax.Syntax.{Syntax}
use Rattle.c_bodies.specs.Steps.{first_of}
use Rattle.c_kinds.specs.Scopes.{Env, Faults, or_else}
use Rattle.c_grammar.specs.Items.{Label}
use Rattle.c_grammar.specs.Items as items
use Rattle.c_grammar.proofs.Layers.{weight-at}
use Rattle.c_statements.proofs.Lists.{items-token, items-item}
use Rattle.c_grammar.specs.ItemViews.{label_of, labels_of}
use Rattle.c_statements.specs.declared.entries.Entry.{Entry}
use Rattle.c_statements.specs.Cases.{label_entries}
use Rattle.c_statements.specs.Context.{Context}
use Rattle.c_statements.specs.Labels.{is_case, has_case, label_items, labels_items, labels_faults, label_marks, label_cases, is_default, section_marks, section_cases, has_default}

-- ---- labels

pub or-assoc : (a b c : Bool) → (a || b) || c ≡ a || (b || c)
or-assoc true b c = refl
or-assoc false b c = refl

first-case : (o : Option Label) (ls : List Label) → has_case (elim o [ Some l ↦ l ∷ ls | None ↦ ls ]) ≡ has_case
    (elim o [ Some l ↦ l ∷ [] | None ↦ [] ]) || has_case ls
first-case (Some l) ls = go (is_case l)
  where
    go : (b : Bool) → b || has_case ls ≡ (b || false) || has_case ls
    go true = refl
    go false = refl
first-case None ls = refl

pub case_at : (word : ℕ → List ℕ) (xs : List Syntax) (i : ℕ) (d : Syntax) → i < length xs
    → has_case (labels_of word (drop i xs)) ≡ has_case (labels_of word (get_or xs i d ∷ [])) || has_case (labels_of word (drop (i + 1) xs))
case_at word xs i d h = rw (add-one, drop-cons xs i d) (first-case (label_of word (get_or xs i d)) (labels_of word (drop (suc i) xs)))

first-first : (o : Option Label) (ls : List Label) → first_of (elim o [ Some l ↦ l ∷ ls | None ↦ ls ]) ≡ or_else
    (first_of (elim o [ Some l ↦ l ∷ [] | None ↦ [] ])) (first_of ls)
first-first (Some l) ls = refl
first-first None ls = refl

pub first_at : (word : ℕ → List ℕ) (xs : List Syntax) (i : ℕ) (d : Syntax) → i < length xs
    → first_of (labels_of word (drop i xs)) ≡ or_else (first_of (labels_of word (get_or xs i d ∷ []))) (first_of (labels_of word (drop (i + 1) xs)))
first_at word xs i d h = rw (add-one, drop-cons xs i d) (first-first (label_of word (get_or xs i d)) (labels_of word (drop (suc i) xs)))

step-items : (ctx : Context) (env : Env) (o : Option Label) (ls : List Label) →
    labels_items ctx env (elim o [ Some l ↦ l ∷ ls | None ↦ ls ]) ≡ labels_items ctx env (elim o [ Some l ↦ l ∷ [] | None ↦ [] ]) ++ labels_items ctx env ls
step-items ctx env (Some l) ls = sym (append_assoc (label_items ctx env l) [] (labels_items ctx env ls))
step-items ctx env None ls = refl

pub items_at : (ctx : Context) (env : Env) (word : ℕ → List ℕ) (xs : List Syntax) (i : ℕ) (d : Syntax) → i < length xs
    → labels_items ctx env (labels_of word (drop i xs)) ≡ labels_items ctx env (labels_of word (get_or xs i d ∷ [])) ++
    labels_items ctx env (labels_of word (drop (i + 1) xs))
items_at ctx env word xs i d h = rw (add-one, drop-cons xs i d) (step-items ctx env (label_of word (get_or xs i d)) (labels_of word (drop (suc i) xs)))

step-entries : (env : Env) (o : Option Label) (ls : List Label) (found : List Entry) →
    label_entries env (elim o [ Some l ↦ l ∷ ls | None ↦ ls ]) found ≡ label_entries env ls (label_entries env (elim o [ Some l ↦ l ∷ [] | None ↦ [] ]) found)
step-entries env (Some l) ls found = refl
step-entries env None ls found = refl

pub entries_at : (env : Env) (word : ℕ → List ℕ) (xs : List Syntax) (i : ℕ) (d : Syntax) (found : List Entry) → i < length xs
    → label_entries env (labels_of word (drop i xs)) found ≡ label_entries env (labels_of word (drop (i + 1) xs))
    (label_entries env (labels_of word (get_or xs i d ∷ [])) found)
entries_at env word xs i d found h = rw (add-one, drop-cons xs i d) (step-entries env (label_of word (get_or xs i d)) (labels_of word (drop (suc i) xs)) found)

step-faults : (env : Env) (switch : Bool) (o : Option Label) (ls : List Label) (vs : Faults) →
    labels_faults env switch (elim o [ Some l ↦ l ∷ ls | None ↦ ls ]) vs ≡ labels_faults env switch ls
    (labels_faults env switch (elim o [ Some l ↦ l ∷ [] | None ↦ [] ]) vs)
step-faults env switch (Some l) ls vs = refl
step-faults env switch None ls vs = refl

pub label_faults_at : (env : Env) (switch : Bool) (word : ℕ → List ℕ) (xs : List Syntax) (i : ℕ) (d : Syntax) (vs : Faults) → i < length xs
    → labels_faults env switch (labels_of word (drop i xs)) vs ≡ labels_faults env switch (labels_of word (drop (i + 1) xs))
    (labels_faults env switch (labels_of word (get_or xs i d ∷ [])) vs)
label_faults_at env switch word xs i d vs h = rw (add-one, drop-cons xs i d)
    (step-faults env switch (label_of word (get_or xs i d)) (labels_of word (drop (suc i) xs)) vs)

step-heads : (env : Env) (o : Option Label) (ls : List Label) → section_cases env (elim o [ Some l ↦ l ∷ ls | None ↦ ls ]) ≡ section_cases env
    (elim o [ Some l ↦ l ∷ [] | None ↦ [] ]) ++ section_cases env ls
step-heads env (Some l) ls = sym (append_assoc (label_cases env l) [] (section_cases env ls))
step-heads env None ls = refl

pub heads_at : (env : Env) (word : ℕ → List ℕ) (xs : List Syntax) (i : ℕ) (d : Syntax) → i < length xs
    → section_cases env (labels_of word (drop i xs)) ≡ section_cases env (labels_of word (get_or xs i d ∷ [])) ++
    section_cases env (labels_of word (drop (i + 1) xs))
heads_at env word xs i d h = rw (add-one, drop-cons xs i d) (step-heads env (label_of word (get_or xs i d)) (labels_of word (drop (suc i) xs)))

step-marks : (ctx : Context) (o : Option Label) (ls : List Label) → section_marks ctx (elim o [ Some l ↦ l ∷ ls | None ↦ ls ]) ≡ section_marks ctx
    (elim o [ Some l ↦ l ∷ [] | None ↦ [] ]) ++ section_marks ctx ls
step-marks ctx (Some l) ls = sym (append_assoc (label_marks ctx l) [] (section_marks ctx ls))
step-marks ctx None ls = refl

pub marks_at : (ctx : Context) (word : ℕ → List ℕ) (xs : List Syntax) (i : ℕ) (d : Syntax) → i < length xs
    → section_marks ctx (labels_of word (drop i xs)) ≡ section_marks ctx (labels_of word (get_or xs i d ∷ [])) ++
    section_marks ctx (labels_of word (drop (i + 1) xs))
marks_at ctx word xs i d h = rw (add-one, drop-cons xs i d) (step-marks ctx (label_of word (get_or xs i d)) (labels_of word (drop (suc i) xs)))

or-false : (b : Bool) → b ≡ (b || false)
or-false true = refl
or-false false = refl

step-default : (o : Option Label) (ls : List Label) → has_default (elim o [ Some l ↦ l ∷ ls | None ↦ ls ]) ≡ has_default
    (elim o [ Some l ↦ l ∷ [] | None ↦ [] ]) || has_default ls
step-default (Some l) ls = ap (λ b. b || has_default ls) (or-false (is_default l))
step-default None ls = refl

pub default_at : (word : ℕ → List ℕ) (xs : List Syntax) (i : ℕ) (d : Syntax) → i < length xs
    → has_default (labels_of word (drop i xs)) ≡ has_default (labels_of word (get_or xs i d ∷ [])) || has_default (labels_of word (drop (i + 1) xs))
default_at word xs i d h = rw (add-one, drop-cons xs i d) (step-default (label_of word (get_or xs i d)) (labels_of word (drop (suc i) xs)))

pub or_none : (b : Bool) → (b || false) ≡ b
or_none b = sym (or-false b)

pub first_label_some : (ls : List Label) (n : ℕ) → first_of ls ≡ Some n → items.first_label ls ≡ n
first_label_some [] n h = cc
first_label_some (l ∷ ls) n h = cc

pub first_label_none : (ls : List Label) → first_of ls ≡ None → items.first_label ls ≡ 0
first_label_none [] h = refl
first_label_none (l ∷ ls) h = cc

-- ---- walks

pub ruleset listed = (append_assoc)

pub ruleset one_label = (append-nil, or_none)

pub ruleset labelled = (items_at, entries_at, label_faults_at, heads_at, marks_at, default_at, append_assoc, or-assoc)

pub ruleset any_case = (case_at)

pub ruleset first_label = (first_at)

pub ruleset beginnings = (first_label_some, first_label_none, append_assoc)

pub ruleset item_list = (items-token, items-item, weight-at, append_assoc)
