-- The rules for switches (ISO/IEC 9899:2011, 6.8.4.2).
use Rattle.std.specs.Prelude.{◌≡◌, ◌⊎◌, ℕ, ℤ, true, false, List, [], ◌∷◌, ◌++◌, Option, Some, None}
use Rattle.c_types.specs.declared.kinds.IntKind.{IntKind}
use Rattle.c_types.specs.Numbers.{promoted, converted}
use Rattle.c_tree.specs.declared.tree.Expression.{Expression}
use Rattle.c_grammar.specs.Items.{Label, Named, Case, Default, Item, Declares, States, Plain, From, Statement, If, IfElse, While, DoWhile, For, Block, Body, Braces, Lone, Items, NoItem, Then, item_first}
use Rattle.c_kinds.specs.declared.typed.Fault.{Fault}
use Rattle.c_grammar.specs.Terms.{Term}
use Rattle.c_kinds.specs.Constants.{constant_of}
use Rattle.c_kinds.specs.Scopes.{Env}
use Rattle.c_statements.specs.declared.entries.Entry.{Entry}
use Rattle.c_statements.specs.declared.entries.Entry.TheVariants.{Value, Other}
use Rattle.c_statements.specs.Statements.{begins, is_element}
use Rattle.c_reading_defs.specs.Typings.{Typing}
use Rattle.c_reading_defs.specs.Behind.{SomeBehind}
use Rattle.c_reading_defs.specs.Labels.{InFunction}
use Rattle.c_reading_defs.specs.Places.{Place, names, within, within_for}
use Rattle.c_reading_defs.specs.Violations.{broken}

-- ---- the case and default labels that belong to a switch, in text order; a switch within it keeps its own

-- none for a case without a value, which breaks a rule itself
abbrev pub case_entry : ℕ → Option (Expression × ℤ) → List Entry
case_entry at (Some c) = Value at c.1 ∷ []
case_entry at None = []

abbrev pub label_entries : Typing → (Term → Env) → List Label → List Entry
label_entries typing env [] = []
label_entries typing env (Named at after ∷ ls) = label_entries typing env ls
label_entries typing env (Default at after ∷ ls) = Other at ∷ label_entries typing env ls
label_entries typing env (Case at after t ∷ ls) = case_entry at (constant_of (typing (env t) t)) ++ label_entries typing env ls

abbrev mutual
  pub item_entries : Typing → InFunction → Place → Item → List Entry
  item_entries typing f p (Declares first after d) = []
  item_entries typing f p (States ls s) = label_entries typing (names f p) ls ++ plain_entries typing f p s

  pub plain_entries : Typing → InFunction → Place → Plain → List Entry
  plain_entries typing f p (From first after s) = statement_entries typing f p s

  pub statement_entries : Typing → InFunction → Place → Statement → List Entry
  statement_entries typing f p (If t b) = body_entries typing f p b
  statement_entries typing f p (IfElse t b c) = body_entries typing f p b ++ body_entries typing f p c
  statement_entries typing f p (While t b) = body_entries typing f p b
  statement_entries typing f p (DoWhile b t) = body_entries typing f p b
  statement_entries typing f p (For start t u b) = body_entries typing f (within_for f start p) b
  statement_entries typing f p (Block b) = body_entries typing f p b
  statement_entries typing f p _ = []

  pub body_entries : Typing → InFunction → Place → Body → List Entry
  body_entries typing f p (Braces first after xs) = list_entries typing f (within f (Braces first after xs) p) xs
  body_entries typing f p (Lone first after x) = item_entries typing f (within f (Lone first after x) p) x

  pub list_entries : Typing → InFunction → Place → Items → List Entry
  list_entries typing f p NoItem = []
  list_entries typing f p (Then x xs) = item_entries typing f p x ++ list_entries typing f p xs

-- ---- the rules

-- one of the cases has this value in the kind
abbrev pub HasCase : IntKind → ℤ → List Entry → Type 0
HasCase kind n [] = ⊥
HasCase kind n (Value at m ∷ es) = (converted kind n ≡ converted kind m) ⊎ HasCase kind n es
HasCase kind n (Other at ∷ es) = HasCase kind n es

abbrev pub HasDefault : List Entry → Type 0
HasDefault [] = ⊥
HasDefault (Value at m ∷ es) = HasDefault es
HasDefault (Other at ∷ es) = Unit {0}

-- a label of a switch on a value of the kind, behind these of its labels; of a selector without a value nothing is compared
pub data EntryBreaks (selector : Option IntKind) (before : List Entry) : Entry → Fault → Type 0 where
  equal_cases : {at : ℕ} {n : ℤ} (kind : IntKind) → selector ≡ Some kind → HasCase (promoted kind) n before →
      EntryBreaks selector before (Value at n) (broken at 30)
  second_default : {at : ℕ} → HasDefault before → EntryBreaks selector before (Other at) (broken at 31)

abbrev pub EntriesBreak : Option IntKind → List Entry → Fault → Type 0
EntriesBreak selector entries v = SomeBehind (λ before e. EntryBreaks selector before e v) entries

-- what stands in the list of a switch before the first statement there that has a case or default label of its own, or all of it
-- where there is none; but not null statements without labels
pub data IsLost : Items → Fault → Type 0 where
  lost : {x : Item} {xs : Items} → begins x ≡ false → is_element x ≡ true → IsLost (Then x xs) (broken (item_first x) 29)
  lost_behind : {x : Item} {xs : Items} {v : Fault} → begins x ≡ false → IsLost xs v → IsLost (Then x xs) v
