-- What the sections of a switch write, and what reading makes of labels in front of a list.
use Rattle.std.proofs.Common.{◌≡◌, ◌+◌, ◌<◌, ◌⊎◌, inl, inr, ℕ, Bool, true, false, not, List, [], ◌∷◌, ◌++◌, map, length, Option, Some, refl, ap, sym, subst, ◌∙◌, arith, cond}
use Rattle.std.specs.Prelude.{IsTrue}
use Rattle.c_tree.specs.declared.tree.Expression.{Expression}
use Rattle.c_tree.specs.declared.tree.Item.{Item}
use Rattle.c_tree.specs.declared.tree.Item as item
use Rattle.c_tree.specs.declared.tree.Section.{Section as RealSection}
use Rattle.c_tree.specs.ExpressionTrees.{ExpressionTree}
use Rattle.c_grammar.specs.declared.class.Class.TheVariants as c
use Rattle.c_grammar.specs.TokenClasses.{keyword_class}
use Rattle.c_grammar.specs.ExpressionSyntax.{conditional_end}
use Rattle.c_grammar.specs.Statements.{StatementItem}
use Rattle.c_grammar.specs.Statements as g
use Rattle.c_grammar.specs.StatementSyntax.{items_end, statement_end}
use Rattle.c_grammar.specs.Terms.{At}
use Rattle.c_grammar.specs.Items as s
use Rattle.c_grammar.specs.Items.{first_label, stated_first}
use Rattle.c_kinds.specs.Scopes.{Env, Faults, fault_if}
use Rattle.c_statements.specs.declared.entries.Entry.{Entry}
use Rattle.c_statements.specs.declared.anchors.Anchor.TheVariants.{AtSection}
use Rattle.c_statements.specs.Context.{Context, Walk, Around, env_at, notes_at}
use Rattle.c_statements.specs.Declarations.{constant_at}
use Rattle.c_statements.specs.Labels.{has_case, label_items, labels_items, section_marks, section_cases, has_default, labels_faults}
use Rattle.c_statements.specs.Sections.{Reading, extended, closed}
use Rattle.c_statements.specs.Statements.{behind_item, behind_plain, behind_items, plain_items, sections_from, begun, outside_item, outside_items}
use Rattle.c_statements.specs.Cases.{label_entries, plain_entries, list_entries}
use Rattle.c_statements.specs.Violations.{list_faults, plain_faults, is_null, outside_faults}
use Rattle.print_laws.specs.StatementDerivations.{conditional_of, labels_of, behind_labels as put_labels, labelled}
use Rattle.reread_parts_laws.specs.WrittenExpressions.{conditional_form}
use Rattle.reread_parts_laws.specs.WrittenStatements.{written_items, behind_labels, written_labels}
use Rattle.reread_parts_laws.specs.Keywords.{ItemsHaveKeywords, HasKeywords}
use Rattle.reread_parts_laws.specs.PlacedNotes.{cases_end, section_labels_end}
use Rattle.c_statements.specs.Labels.{named_in, plain_labels, list_labels}

-- ---- the labels of a section

abbrev pub default_list : ℕ → Bool → List s.Label
default_list at false = []
default_list at true = s.Default at (at + 1 + 1) ∷ []

-- and then these
abbrev pub section_list : ℕ → List ExpressionTree → Bool → List s.Label → List s.Label
section_list at [] default ls = default_list at default ++ ls
section_list at (x ∷ xs) default ls = let y = conditional_end (at + 1) (conditional_of x) + 1 in
    s.Case at y (At (at + 1) (conditional_form (at + 1) (conditional_of x))) ∷ section_list y xs default ls

pub put_written : (cases : List ExpressionTree) (at : ℕ) (default : Bool) (x : g.Statement) →
    written_labels at (put_labels (labels_of cases default) x) ≡ section_list at cases default (written_labels (section_labels_end at cases default) x)
put_written [] at false x = refl
put_written [] at true x = refl
put_written (e ∷ es) at default x = let y = conditional_end (at + 1) (conditional_of e) + 1 in
    ap (λ l. s.Case at y (At (at + 1) (conditional_form (at + 1) (conditional_of e))) ∷ l) (put_written es y default x)

pub put_plain : (cases : List ExpressionTree) (at : ℕ) (default : Bool) (x : g.Statement) →
    behind_labels at (put_labels (labels_of cases default) x) ≡ behind_labels (section_labels_end at cases default) x
put_plain [] at false x = refl
put_plain [] at true x = refl
put_plain (e ∷ es) at default x = put_plain es (conditional_end (at + 1) (conditional_of e) + 1) default x

pub put_end : (cases : List ExpressionTree) (at : ℕ) (default : Bool) (x : g.Statement) →
    statement_end at (put_labels (labels_of cases default) x) ≡ statement_end (section_labels_end at cases default) x
put_end [] at false x = refl
put_end [] at true x = refl
put_end (e ∷ es) at default x = put_end es (conditional_end (at + 1) (conditional_of e) + 1) default x

-- the word of a `default`
abbrev pub DefaultStands : (ℕ → List ℕ) → ℕ → Bool → Type 0
DefaultStands word at false = Unit {0}
DefaultStands word at true = keyword_class (word at) ≡ c.Default

pub put_keywords : (word : ℕ → List ℕ) (cases : List ExpressionTree) (at : ℕ) (default : Bool) (x : g.Statement) →
    DefaultStands word (cases_end at cases) default → HasKeywords word (section_labels_end at cases default) x
    → HasKeywords word at (put_labels (labels_of cases default) x)
put_keywords word [] at false x d h = h
put_keywords word [] at true x d h = (d, h)
put_keywords word (e ∷ es) at default x d h = (tt, put_keywords word es (conditional_end (at + 1) (conditional_of e) + 1) default x d h)

-- ---- a list that begins with a statement, whose own labels are names

abbrev pub AreNames : List s.Label → Type 0
AreNames [] = Unit {0}
AreNames (s.Named at after ∷ ls) = AreNames ls
AreNames _ = ⊥

abbrev pub BeginsNamed : s.Items → Type 0
BeginsNamed (s.Then (s.States ls p) xs) = AreNames ls
BeginsNamed _ = ⊥

-- the labels of a section in front of it
abbrev pub with_labels : (List s.Label → List s.Label) → s.Items → s.Items
with_labels put (s.Then (s.States ls p) xs) = s.Then (s.States (put ls) p) xs
with_labels put xs = xs

abbrev pub BeginsStated : g.Items → Type 0
BeginsStated (StatementItem x xs) = Unit {0}
BeginsStated _ = ⊥

pub labelled_written : (cases : List ExpressionTree) (at : ℕ) (default : Bool) (xs : g.Items) → BeginsStated xs
    → written_items at (labelled (labels_of cases default) xs) ≡ with_labels (section_list at cases default)
    (written_items (section_labels_end at cases default) xs)
labelled_written cases at default (StatementItem x xs) h =
    λ i. s.Then (s.States (put_written cases at default x i) (put_plain cases at default x i)) (written_items (put_end cases at default x i) xs)
labelled_written cases at default _ h = absurd h

pub labelled_end : (cases : List ExpressionTree) (at : ℕ) (default : Bool) (xs : g.Items) → BeginsStated xs →
    items_end at (labelled (labels_of cases default) xs) ≡ items_end (section_labels_end at cases default) xs
labelled_end cases at default (StatementItem x xs) h = ap (λ k. items_end k xs) (put_end cases at default x)
labelled_end cases at default _ h = absurd h

pub labelled_keywords : (word : ℕ → List ℕ) (cases : List ExpressionTree) (at : ℕ) (default : Bool) (xs : g.Items) → BeginsStated xs →
    DefaultStands word (cases_end at cases) default → ItemsHaveKeywords word (section_labels_end at cases default) xs
    → ItemsHaveKeywords word at (labelled (labels_of cases default) xs)
labelled_keywords word cases at default (StatementItem x xs) h d k =
    (put_keywords word cases at default x d (k.0), subst (λ i. ItemsHaveKeywords word i xs) (sym (put_end cases at default x)) (k.1))
labelled_keywords word cases at default _ h d k = absurd h

-- ---- what reading makes of them

module _ (ctx : Context) (env : Env) where
  named_no_case : (ls : List s.Label) → AreNames ls → has_case ls ≡ false
  named_no_case [] h = refl
  named_no_case (s.Named at after ∷ ls) h = named_no_case ls h
  named_no_case (s.Case at after e ∷ ls) h = absurd h
  named_no_case (s.Default at after ∷ ls) h = absurd h

  named_marks : (ls : List s.Label) → AreNames ls → section_marks ctx ls ≡ labels_items ctx env ls
  named_marks [] h = refl
  named_marks (s.Named at after ∷ ls) h = ap (λ l. label_items ctx env (s.Named at after) ++ l) (named_marks ls h)
  named_marks (s.Case at after e ∷ ls) h = absurd h
  named_marks (s.Default at after ∷ ls) h = absurd h

  named_cases : (ls : List s.Label) → AreNames ls → section_cases env ls ≡ []
  named_cases [] h = refl
  named_cases (s.Named at after ∷ ls) h = named_cases ls h
  named_cases (s.Case at after e ∷ ls) h = absurd h
  named_cases (s.Default at after ∷ ls) h = absurd h

  named_default : (ls : List s.Label) → AreNames ls → has_default ls ≡ false
  named_default [] h = refl
  named_default (s.Named at after ∷ ls) h = named_default ls h
  named_default (s.Case at after e ∷ ls) h = absurd h
  named_default (s.Default at after ∷ ls) h = absurd h

  named_entries : (ls : List s.Label) (found : List Entry) → AreNames ls → label_entries env ls found ≡ found
  named_entries [] found h = refl
  named_entries (s.Named at after ∷ ls) found h = named_entries ls found h
  named_entries (s.Case at after e ∷ ls) found h = absurd h
  named_entries (s.Default at after ∷ ls) found h = absurd h

  list_has_case : (cases : List ExpressionTree) (at : ℕ) (default : Bool) (ls : List s.Label) → (0 < length cases) ⊎ IsTrue default →
      has_case (section_list at cases default ls) ≡ true
  list_has_case [] at false ls (inl h) = absurd (omega (arith, h))
  list_has_case [] at false ls (inr h) = cc
  list_has_case [] at true ls h = refl
  list_has_case (e ∷ es) at default ls h = refl

  -- the constants of the cases
  abbrev pub case_constants : ℕ → List ExpressionTree → List Expression
  case_constants at [] = []
  case_constants at (x ∷ xs) = constant_at env (At (at + 1) (conditional_form (at + 1) (conditional_of x))) ∷ case_constants
      (conditional_end (at + 1) (conditional_of x) + 1) xs

  list_cases : (cases : List ExpressionTree) (at : ℕ) (default : Bool) (ls : List s.Label) → AreNames ls →
      section_cases env (section_list at cases default ls) ≡ case_constants at cases
  list_cases [] at false ls h = named_cases ls h
  list_cases [] at true ls h = named_cases ls h
  list_cases (e ∷ es) at default ls h = let y = conditional_end (at + 1) (conditional_of e) + 1 in
      ap (λ l. constant_at env (At (at + 1) (conditional_form (at + 1) (conditional_of e))) ∷ l) (list_cases es y default ls h)

  list_default : (cases : List ExpressionTree) (at : ℕ) (default : Bool) (ls : List s.Label) → AreNames ls →
      has_default (section_list at cases default ls) ≡ default
  list_default [] at false ls h = named_default ls h
  list_default [] at true ls h = refl
  list_default (e ∷ es) at default ls h = list_default es (conditional_end (at + 1) (conditional_of e) + 1) default ls h

  list_marks : (cases : List ExpressionTree) (at : ℕ) (default : Bool) (ls : List s.Label) →
      section_marks ctx (section_list at cases default ls) ≡ section_marks ctx ls
  list_marks [] at false ls = refl
  list_marks [] at true ls = refl
  list_marks (e ∷ es) at default ls = list_marks es (conditional_end (at + 1) (conditional_of e) + 1) default ls

  list_first : (cases : List ExpressionTree) (at : ℕ) (default : Bool) (ls : List s.Label) → (0 < length cases) ⊎ IsTrue default →
      first_label (section_list at cases default ls) ≡ at
  list_first [] at false ls (inl h) = absurd (omega (arith, h))
  list_first [] at false ls (inr h) = cc
  list_first [] at true ls h = refl
  list_first (e ∷ es) at default ls h = refl

  list_faults_both : (cases : List ExpressionTree) (at : ℕ) (default sw : Bool) (ls : List s.Label) (vs : Faults) →
      labels_faults env sw (section_list at cases default ls) vs ≡ labels_faults env sw ls (labels_faults env sw (section_list at cases default []) vs)
  list_faults_both [] at false sw ls vs = refl
  list_faults_both [] at true sw ls vs = refl
  list_faults_both (e ∷ es) at default sw ls vs = list_faults_both es (conditional_end (at + 1) (conditional_of e) + 1) default sw ls _

  list_entries_both : (cases : List ExpressionTree) (at : ℕ) (default : Bool) (ls : List s.Label) (found : List Entry) → AreNames ls →
      label_entries env (section_list at cases default ls) found ≡ label_entries env (section_list at cases default []) found
  list_entries_both [] at false ls found h = named_entries ls found h
  list_entries_both [] at true ls found h = named_entries ls _ h
  list_entries_both (e ∷ es) at default ls found h = list_entries_both es (conditional_end (at + 1) (conditional_of e) + 1) default ls _ h

-- a section that is begun, with what stands in front of its items
abbrev pub reading_of : List Expression → Bool → List Item → Reading
reading_of cases default list = record { cases = cases; default = default; list = list }

module _ (ctx : Context) where
  pub sections_begin : (reading : Option Reading) (cases : List ExpressionTree) (at : ℕ) (default : Bool) (xs : s.Items) (notes : List Item)
      (w : Walk) → (0 < length cases) ⊎ IsTrue default → BeginsNamed xs → ctx.notes (AtSection at) ≡ []
      → sections_from ctx reading (with_labels (section_list at cases default) xs) notes w ≡ closed reading ++
      sections_from ctx (Some (reading_of (case_constants ctx (env_at ctx w) at cases) default [])) xs notes w
  sections_begin reading cases at default (s.Then (s.States ls p) xs) notes w h n e =
      let env = env_at ctx w in
      let put = section_list at cases default ls in
      let items = plain_items ctx p w in
      let marks : section_marks ctx put ≡ labels_items ctx env ls = list_marks ctx env cases at default ls ∙ named_marks ctx env ls n in
      let front : notes_at ctx (AtSection (first_label put)) ≡ [] = ap (notes_at ctx) (ap AtSection (list_first ctx env cases at default ls h)) ∙
      ap (map item.Note) e in
      let begin : begun ctx env put items ≡ Some (reading_of (case_constants ctx env at cases) default (labels_items ctx env ls ++ items)) =
      (λ i. Some (reading_of (list_cases ctx env cases at default ls n i) (list_default ctx env cases at default ls n i) (front i ++ marks i ++ items))) in
      (λ i. elim (list_has_case ctx env cases at default ls h i) as (λ _. List RealSection) [
        | true ↦ closed reading ++ sections_from ctx (begin i) xs notes (behind_item ctx (s.States ls p) w)
        | false ↦ sections_from ctx (extended reading (labels_items ctx env put ++ items)) xs notes (behind_item ctx (s.States ls p) w)
      ])
      ∙ (λ i. closed reading ++ elim (sym (named_no_case ctx env ls n) i) as (λ _. List RealSection) [
        | true ↦ closed (Some (reading_of (case_constants ctx env at cases) default [])) ++
            sections_from ctx (begun ctx env ls items) xs notes (behind_item ctx (s.States ls p) w)
        | false ↦ sections_from ctx (Some (reading_of (case_constants ctx env at cases) default (labels_items ctx env ls ++ items))) xs notes
            (behind_item ctx (s.States ls p) w)
      ])
  sections_begin reading cases at default s.NoItem notes w h n e = absurd n
  sections_begin reading cases at default (s.Then (s.Declares first after d) xs) notes w h n e = absurd n

  -- ---- violations, entries and the walk

  pub faults_begin : (around : Around) (cases : List ExpressionTree) (at : ℕ) (default : Bool) (xs : s.Items) (w : Walk) → BeginsNamed xs → around.switch ≡ true
      → ((vs : Faults) → labels_faults (env_at ctx w) true (section_list at cases default []) vs ≡ vs) → (vs : Faults) →
      list_faults ctx around (with_labels (section_list at cases default) xs) w vs ≡ list_faults ctx around xs w vs
  faults_begin around cases at default (s.Then (s.States ls p) xs) w n e h vs =
      ap (λ l. list_faults ctx around xs (behind_item ctx (s.States ls p) w) (plain_faults ctx around p w l))
      (list_faults_both ctx (env_at ctx w) cases at default around.switch ls vs ∙
      ap (labels_faults (env_at ctx w) around.switch ls) (ap (λ b. labels_faults (env_at ctx w) b (section_list at cases default []) vs) e ∙ h vs))
  faults_begin around cases at default s.NoItem w n e h vs = absurd n
  faults_begin around cases at default (s.Then (s.Declares first after d) xs) w n e h vs = absurd n

  pub outside_begin : (around : Around) (cases : List ExpressionTree) (at : ℕ) (default : Bool) (xs : s.Items) (w : Walk) →
      (0 < length cases) ⊎ IsTrue default → BeginsNamed xs → (vs : Faults)
      → outside_faults ctx around (with_labels (section_list at cases default) xs) w vs ≡ list_faults ctx around
      (with_labels (section_list at cases default) xs) w vs
  outside_begin around cases at default (s.Then (s.States ls p) xs) w h n vs =
      let put = section_list at cases default ls in
      (λ i. elim (list_has_case ctx (env_at ctx w) cases at default ls h i) as (λ _. Faults) [
        | true ↦ list_faults ctx around xs (behind_plain ctx p w) (plain_faults ctx around p w (labels_faults (env_at ctx w) around.switch put vs))
        | false ↦ outside_faults ctx around xs (behind_plain ctx p w)
            (fault_if (not (is_null put p)) (stated_first put p) 29 (plain_faults ctx around p w (labels_faults (env_at ctx w) around.switch put vs)))
      ])
  outside_begin around cases at default s.NoItem w h n vs = absurd n
  outside_begin around cases at default (s.Then (s.Declares first after d) xs) w h n vs = absurd n

  -- nothing stands in front of it
  pub front_begin : (cases : List ExpressionTree) (at : ℕ) (default : Bool) (xs : s.Items) (w : Walk) → (0 < length cases) ⊎ IsTrue default →
      BeginsNamed xs → outside_items ctx (with_labels (section_list at cases default) xs) w ≡ []
  front_begin cases at default (s.Then (s.States ls p) xs) w h n =
      let put = section_list at cases default ls in
      λ i. cond (list_has_case ctx (env_at ctx w) cases at default ls h i) []
      (outside_item ctx (s.States put p) w ++ outside_items ctx xs (behind_item ctx (s.States put p) w))
  front_begin cases at default s.NoItem w h n = absurd n
  front_begin cases at default (s.Then (s.Declares first after d) xs) w h n = absurd n

  pub entries_begin : (cases : List ExpressionTree) (at : ℕ) (default : Bool) (xs : s.Items) (w : Walk) (found : List Entry) → BeginsNamed xs
      → list_entries ctx (with_labels (section_list at cases default) xs) w found ≡ list_entries ctx xs w
      (label_entries (env_at ctx w) (section_list at cases default []) found)
  entries_begin cases at default (s.Then (s.States ls p) xs) w found n =
      ap (λ l. list_entries ctx xs (behind_item ctx (s.States ls p) w) (plain_entries ctx p w l))
      (list_entries_both ctx (env_at ctx w) cases at default ls found n ∙
      sym (named_entries ctx (env_at ctx w) ls (label_entries (env_at ctx w) (section_list at cases default []) found) n))
  entries_begin cases at default s.NoItem w found n = absurd n
  entries_begin cases at default (s.Then (s.Declares first after d) xs) w found n = absurd n

  pub walk_begin : (put : List s.Label → List s.Label) (xs : s.Items) (w : Walk) → BeginsNamed xs →
      behind_items ctx (with_labels put xs) w ≡ behind_items ctx xs w
  walk_begin put (s.Then (s.States ls p) xs) w n = refl
  walk_begin put s.NoItem w n = absurd n
  walk_begin put (s.Then (s.Declares first after d) xs) w n = absurd n

-- ---- the labels with names

no_names : (cases : List ExpressionTree) (at : ℕ) (default : Bool) (ls : List s.Label) (rest : List ℕ) →
    named_in (section_list at cases default ls) rest ≡ named_in ls rest
no_names [] at false ls rest = refl
no_names [] at true ls rest = refl
no_names (e ∷ es) at default ls rest = no_names es (conditional_end (at + 1) (conditional_of e) + 1) default ls rest

pub labels_begin : (cases : List ExpressionTree) (at : ℕ) (default : Bool) (xs : s.Items) (rest : List ℕ) → BeginsNamed xs →
    list_labels (with_labels (section_list at cases default) xs) rest ≡ list_labels xs rest
labels_begin cases at default (s.Then (s.States ls p) xs) rest n = no_names cases at default ls (plain_labels p (list_labels xs rest))
labels_begin cases at default s.NoItem rest n = absurd n
labels_begin cases at default (s.Then (s.Declares first after d) xs) rest n = absurd n
