-- A statement without a violation has none in any of its parts.
use Rattle.std.proofs.Common.{ℕ, Bool, true, false, not, ◌||◌, List, [], ◌∷◌, Option, option_map, ◌≡◌, subst}
use Rattle.c_grammar.specs.Terms.{Term}
use Rattle.c_grammar.specs.Items.{Declarator, Declaration, Label, Start, Item, Declares, States, Plain, From, Statement, If, IfElse, While, DoWhile, For, Switch, Body, Items, NoItem, stated_first}
use Rattle.c_grammar.specs.Items as items
use Rattle.c_kinds.specs.Scopes.{Env, Faults, fault, fault_if, is_bound}
use Rattle.c_kinds.specs.Typing.{typed}
use Rattle.c_kinds.specs.Values.{value_of}
use Rattle.c_statements.specs.declared.extents.Kinded.{Kinded}
use Rattle.c_statements.specs.Cases.{switch_faults, body_entries}
use Rattle.c_statements.specs.Context.{Context, Walk, env_in, env_at, enter, Around, in_loop, in_switch}
use Rattle.c_statements.specs.Declarations.{declared, is_bad_array, size_faults, initial_faults, value_faults, local_faults, locals_faults}
use Rattle.c_statements.specs.Labels.{has_case, label_faults, labels_faults}
use Rattle.c_statements.specs.Statements.{declared_by, behind_start, behind_item, behind_plain, behind_body}
use Rattle.c_statements.specs.Violations.{dropped_faults, optional_faults, declaration_faults, start_faults, is_null, item_faults, plain_faults, statement_faults, body_faults, list_faults, switch_body_faults, outside_faults, outside_fault}
use Rattle.c_resolving_laws.proofs.Lists.{none_left, clean_if, not_true}
use Rattle.c_resolving_laws.proofs.Empty.{Empties, value_empty, initial_empty, dropped_empty, optional_empty, locals_empty, labels_empty, plain_empty, switch_empty, body_empty, list_empty, switch_body_empty, outside_empty}

-- behind others, and alone
pub parted : (k l : Faults → Faults) → Empties k → k (l []) ≡ [] → (l [] ≡ []) × (k [] ≡ [])
parted k l f e = let h = f (l []) e in (h, subst (λ vs. k vs ≡ []) h e)

pub locals_parts : (word : ℕ → List ℕ) (k : Kinded) (d : Declarator) (ds : List Declarator) (w : Walk) → locals_faults word k (d ∷ ds) w [] ≡ []
    → (local_faults word k d w [] ≡ []) × (locals_faults word k ds (declared word k d w) [] ≡ [])
locals_parts word k d ds w e = parted (locals_faults word k ds (declared word k d w)) (local_faults word k d w) (locals_empty word k ds (declared word k d w)) e

-- of a declared name: its size, its array, its name and its initialisers
pub record LocalParts (word : ℕ → List ℕ) (k : Kinded) (d : Declarator) (w : Walk) : Type 0 where
  pub size : size_faults (env_in word w) d.size [] ≡ []
  pub array : is_bad_array true (env_in word w) d ≡ false
  pub new : is_bound (word d.name) w.scopes ≡ false
  pub values : initial_faults (value_faults (env_in word (declared word k d w))) d.value [] ≡ []

pub local_parts : (word : ℕ → List ℕ) (k : Kinded) (d : Declarator) (w : Walk) → local_faults word k d w [] ≡ [] → LocalParts word k d w
local_parts word k d w e =
    let env = env_in word w in
    let inner = env_in word (declared word k d w) in
    let x = size_faults env d.size [] in
    let bad = is_bad_array true env d in
    let twice = is_bound (word d.name) w.scopes in
    let p = parted (initial_faults (value_faults inner) d.value) (λ vs. fault_if twice d.name 21 (fault_if bad d.name 35 (size_faults env d.size vs)))
    (initial_empty (value_faults inner) (value_empty inner) d.value) e in
    let q = clean_if twice d.name 21 (fault_if bad d.name 35 x) p.0 in
    let r = clean_if bad d.name 35 x q.0 in
    record { size = r.0; array = r.1; new = q.1; values = p.1 }

pub labels_parts : (env : Env) (switch : Bool) (l : Label) (ls : List Label) → labels_faults env switch (l ∷ ls) [] ≡ [] →
    (label_faults env switch l [] ≡ []) × (labels_faults env switch ls [] ≡ [])
labels_parts env switch l ls e = parted (labels_faults env switch ls) (label_faults env switch l) (labels_empty env switch ls) e

module _ (ctx : Context) (around : Around) (w : Walk) where
  pub states_parts : (ls : List Label) (p : Plain) → item_faults ctx around (States ls p) w [] ≡ [] →
      (labels_faults (env_at ctx w) around.switch ls [] ≡ []) × (plain_faults ctx around p w [] ≡ [])
  states_parts ls p e = parted (plain_faults ctx around p w) (labels_faults (env_at ctx w) around.switch ls) (plain_empty ctx around p w) e

  pub list_parts : (x : Item) (xs : Items) → list_faults ctx around (items.Then x xs) w [] ≡ [] →
      (item_faults ctx around x w [] ≡ []) × (list_faults ctx around xs (behind_item ctx x w) [] ≡ [])
  list_parts x xs e = parted (list_faults ctx around xs (behind_item ctx x w)) (item_faults ctx around x w) (list_empty ctx around xs (behind_item ctx x w)) e

  pub if_parts : (first : ℕ) (t : Term) (b : Body) → statement_faults ctx around first (If t b) w [] ≡ [] →
      (value_faults (env_at ctx w) t [] ≡ []) × (body_faults ctx around b w [] ≡ [])
  if_parts first t b e = parted (body_faults ctx around b w) (value_faults (env_at ctx w) t) (body_empty ctx around b w) e

  pub if_else_parts : (first : ℕ) (t : Term) (b c : Body) → statement_faults ctx around first (IfElse t b c) w [] ≡ []
      → (value_faults (env_at ctx w) t [] ≡ []) × (body_faults ctx around b w [] ≡ []) × (body_faults ctx around c (behind_body ctx b w) [] ≡ [])
  if_else_parts first t b c e =
      let p = parted (body_faults ctx around c (behind_body ctx b w)) (λ vs. body_faults ctx around b w (value_faults (env_at ctx w) t vs))
      (body_empty ctx around c (behind_body ctx b w)) e in
      let q = parted (body_faults ctx around b w) (value_faults (env_at ctx w) t) (body_empty ctx around b w) p.0 in
      (q.0, q.1, p.1)

  pub while_parts : (first : ℕ) (t : Term) (b : Body) → statement_faults ctx around first (While t b) w [] ≡ [] →
      (value_faults (env_at ctx w) t [] ≡ []) × (body_faults ctx (in_loop around) b w [] ≡ [])
  while_parts first t b e = parted (body_faults ctx (in_loop around) b w) (value_faults (env_at ctx w) t) (body_empty ctx (in_loop around) b w) e

  pub do_parts : (first : ℕ) (b : Body) (t : Term) → statement_faults ctx around first (DoWhile b t) w [] ≡ [] →
      (value_faults (env_at ctx w) t [] ≡ []) × (body_faults ctx (in_loop around) b w [] ≡ [])
  do_parts first b t e = let p = parted (value_faults (env_at ctx w) t) (body_faults ctx (in_loop around) b w) (value_empty (env_at ctx w) t) e in (p.1, p.0)

  -- of a `for`: its first part, its test, its third part and its body
  pub for_parts : (first : ℕ) (start : Start) (t u : Option Term) (b : Body) → statement_faults ctx around first (For start t u b) w [] ≡ []
      → let inner = behind_start ctx start (enter w) in let env = env_at ctx inner in
      (start_faults ctx start (enter w) [] ≡ []) × (optional_faults (value_faults env) t [] ≡ []) × (optional_faults (dropped_faults env) u [] ≡ []) ×
      (body_faults ctx (in_loop around) b inner [] ≡ [])
  for_parts first start t u b e =
      let inner = behind_start ctx start (enter w) in
      let env = env_at ctx inner in
      let p = parted (body_faults ctx (in_loop around) b inner)
      (λ vs. optional_faults (dropped_faults env) u (optional_faults (value_faults env) t (start_faults ctx start (enter w) vs)))
      (body_empty ctx (in_loop around) b inner) e in
      let q = parted (optional_faults (dropped_faults env) u) (λ vs. optional_faults (value_faults env) t (start_faults ctx start (enter w) vs))
      (optional_empty (dropped_faults env) (dropped_empty env) u) p.0 in
      let r = parted (optional_faults (value_faults env) t) (start_faults ctx start (enter w)) (optional_empty (value_faults env) (value_empty env) t) q.0 in
      (r.0, r.1, q.1, p.1)

  -- of a switch: its selector, its body, and its cases
  pub switch_parts : (first : ℕ) (t : Term) (b : Body) → statement_faults ctx around first (Switch t b) w [] ≡ []
      → (value_faults (env_at ctx w) t [] ≡ []) × (switch_body_faults ctx (in_switch around) b w [] ≡ [])
      × (switch_faults (option_map (λ v. v.kind) (value_of (typed (env_at ctx w) t))) (body_entries ctx b w []) [] ≡ [])
  switch_parts first t b e =
      let kind = option_map (λ v. v.kind) (value_of (typed (env_at ctx w) t)) in
      let es = body_entries ctx b w [] in
      let p = parted (switch_faults kind es) (λ vs. switch_body_faults ctx (in_switch around) b w (value_faults (env_at ctx w) t vs))
      (switch_empty kind es) e in
      let q = parted (switch_body_faults ctx (in_switch around) b w) (value_faults (env_at ctx w) t) (switch_body_empty ctx (in_switch around) b w) p.0 in
      (q.0, q.1, p.1)

  -- in front of the first section stand null statements alone
  abbrev pub Outside : Bool → List Label → Plain → Items → Type 0
  Outside true ls p xs = list_faults ctx around xs (behind_plain ctx p w) [] ≡ []
  Outside false ls p xs = (is_null ls p ≡ true) × (outside_faults ctx around xs (behind_plain ctx p w) [] ≡ [])

  pub outside_declares : (first after : ℕ) (d : Declaration) (xs : Items) → outside_faults ctx around (items.Then (Declares first after d) xs) w [] ≡ [] → ⊥
  outside_declares first after d xs e = none_left _ _ (outside_empty ctx around xs (declared_by ctx d w) (fault first 29 (declaration_faults ctx d w [])) e)

  pub outside_parts : (ls : List Label) (p : Plain) (xs : Items) → outside_faults ctx around (items.Then (States ls p) xs) w [] ≡ []
      → (item_faults ctx around (States ls p) w [] ≡ []) × Outside (has_case ls) ls p xs
  outside_parts ls p xs e = by (has_case ls) e
    where
      by : (b : Bool) → ◌≡◌ {A = Faults} (elim b [
        | true ↦ list_faults ctx around xs (behind_plain ctx p w) (item_faults ctx around (States ls p) w [])
        | false ↦ outside_faults ctx around xs (behind_plain ctx p w)
            (fault_if (not (is_null ls p)) (stated_first ls p) 29 (item_faults ctx around (States ls p) w []))
      ]) []
          → (item_faults ctx around (States ls p) w [] ≡ []) × Outside b ls p xs
      by true e = parted (list_faults ctx around xs (behind_plain ctx p w)) (item_faults ctx around (States ls p) w)
          (list_empty ctx around xs (behind_plain ctx p w)) e
      by false e =
          let q = parted (outside_faults ctx around xs (behind_plain ctx p w))
          (λ vs. fault_if (not (is_null ls p)) (stated_first ls p) 29 (item_faults ctx around (States ls p) w vs))
          (outside_empty ctx around xs (behind_plain ctx p w)) e in
          let c = clean_if (not (is_null ls p)) (stated_first ls p) 29 (item_faults ctx around (States ls p) w []) q.0 in
          (c.0, (not_true (is_null ls p) c.1, q.1))

  -- a statement alone
  pub outside_alone : (x : Item) → outside_fault ctx around x w [] ≡ [] → outside_faults ctx around (items.Then x NoItem) w [] ≡ []
  outside_alone (Declares first after d) e = e
  outside_alone (States ls p) e = by (has_case ls) (item_faults ctx around (States ls p) w []) e
    where
      by : (b : Bool) (vs : Faults) → fault_if (not (b || is_null ls p)) (stated_first ls p) 29 vs ≡ [] →
          ◌≡◌ {A = Faults} (elim b [ true ↦ vs | false ↦ fault_if (not (is_null ls p)) (stated_first ls p) 29 vs ]) []
      by true vs e = e
      by false vs e = e

  pub outside_one : (ls : List Label) (p : Plain) → outside_fault ctx around (States ls p) w [] ≡ [] →
      (item_faults ctx around (States ls p) w [] ≡ []) × Outside (has_case ls) ls p NoItem
  outside_one ls p e = outside_parts ls p NoItem (outside_alone (States ls p) e)
