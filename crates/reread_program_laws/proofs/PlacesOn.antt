-- The places that the tokens of a printed list decide: each token of an item has the place that the item gives it.
use Rattle.std.proofs.Common.{◌≡◌, ◌≤◌, ◌<◌, ◌+◌, ◌⊎◌, inl, inr, ℕ, Bool, true, false, not, ◌&&◌, ◌||◌, List, [], ◌∷◌, length, Option, Some, refl, ap, ◌∙◌, arith, nat_lt, nat_le}
use Rattle.std.specs.Prelude.{IsTrue}
use Rattle.std.proofs.lemmas.Bool.{lt-ltb, le-ltb, le-leb, lt-leb}
use Rattle.c_tree.specs.declared.tree.Slot.{Slot}
use Rattle.c_tree.specs.ExpressionTrees.{ExpressionTree}
use Rattle.c_tree.specs.Trees.{Tree, Forest, Nil, Then, Sections}
use Rattle.c_tree.specs.Trees as t
use Rattle.c_grammar.specs.ExpressionSyntax.{conditional_end}
use Rattle.c_grammar.specs.Statements.{NoItems, Statement, Labelled, Unlabelled}
use Rattle.c_grammar.specs.Statements as g
use Rattle.c_grammar.specs.StatementSyntax.{local_end, statement_end, items_end}
use Rattle.c_grammar.specs.Terms.{At}
use Rattle.c_grammar.specs.Items as s
use Rattle.c_grammar.specs.Items.{label_first, first_label}
use Rattle.c_statements.specs.declared.anchors.Anchor.{Anchor}
use Rattle.c_statements.specs.declared.anchors.Anchor.TheVariants.{Before, AtEnd}
use Rattle.c_statements.specs.Labels.{has_case}
use Rattle.c_statements.specs.Violations.{is_null}
use Rattle.c_comments.specs.Notes.{item_after, plain_after, label_after, labels_place, section_place, section_label_place, or_behind, item_place, plain_place, statement_place, body_place, list_place, members_place, member_place}
use Rattle.print_laws.specs.StatementDerivations.{conditional_of, slot_declaration, statement_of, items_of}
use Rattle.reread_parts_laws.specs.WrittenExpressions.{conditional_form}
use Rattle.reread_parts_laws.specs.WrittenStatements.{written_declaration, written_items, written_statement, behind_labels}
use Rattle.reread_parts_laws.specs.PlacedNotes.{item_end, list_end, section_labels_end}
use Rattle.reread_parts_laws.proofs.SectionSources.{section_list, AreNames, with_labels}
use Rattle.reread_program_laws.proofs.Lengths.{local_later, statement_later, conditional_reaches}

-- ---- what an item and a list write

abbrev pub source_of : List Slot → ℕ → Tree → s.Item
source_of slots at (t.Local k given) = let x = slot_declaration slots k given [] in s.Declares at (local_end at x) (written_declaration at x)
source_of slots at x = written_statement at (statement_of slots x)

abbrev pub front : List Slot → ℕ → Forest → s.Items → s.Items
front slots at Nil rest = rest
front slots at (Then (t.Note bytes) xs) rest = front slots at xs rest
front slots at (Then x xs) rest = s.Then (source_of slots at x) (front slots (item_end slots at x) xs rest)

pub written_front : (slots : List Slot) (xs : Forest) (at : ℕ) (others : g.Items) →
    written_items at (items_of slots xs others) ≡ front slots at xs (written_items (list_end slots at xs) others)
written_front slots Nil at others = refl
written_front slots (Then (t.Note bytes) xs) at others = written_front slots xs at others
written_front slots (Then x xs) at others = ap (λ l. s.Then (source_of slots at x) l) (written_front slots xs (item_end slots at x) others)

pub end_front : (slots : List Slot) (xs : Forest) (at : ℕ) (others : g.Items) →
    items_end at (items_of slots xs others) ≡ items_end (list_end slots at xs) others
end_front slots Nil at others = refl
end_front slots (Then (t.Note bytes) xs) at others = end_front slots xs at others
end_front slots (Then x xs) at others = end_front slots xs (item_end slots at x) others

-- ---- where they end

pub item_more : (slots : List Slot) (at : ℕ) (x : Tree) → at ≤ item_end slots at x
item_more slots at (t.Local k given) = let u = local_later at (slot_declaration slots k given []) in omega (arith, u)
item_more slots at (t.Note bytes) = omega arith
item_more slots at x = let u = statement_later at (statement_of slots x) in omega (arith, u)

pub list_more : (slots : List Slot) (at : ℕ) (xs : Forest) → at ≤ list_end slots at xs
list_more slots at Nil = omega arith
list_more slots at (Then x xs) = let u = item_more slots at x in let v = list_more slots (item_end slots at x) xs in omega (arith, u, v)

pub statement_after : (x : Statement) (at : ℕ) → plain_after (behind_labels at x) ≡ statement_end at x
statement_after (Labelled l x) at = statement_after x _
statement_after (Unlabelled x) at = refl

-- an item that has tokens
abbrev pub IsTold : Tree → Type 0
IsTold (t.Note bytes) = ⊥
IsTold x = Unit {0}

pub source_after : (slots : List Slot) (at : ℕ) (x : Tree) → IsTold x → item_after (source_of slots at x) ≡ item_end slots at x
source_after slots at (t.Local k given) h = refl
source_after slots at (t.Note bytes) h = absurd h
source_after slots at x h = statement_after (statement_of slots x) at

-- ---- labels that are names

abbrev pub IsNamed : s.Item → Type 0
IsNamed (s.Declares first after d) = Unit {0}
IsNamed (s.States ls p) = AreNames ls

pub source_named : (slots : List Slot) (at : ℕ) (x : Tree) → IsNamed (source_of slots at x)
source_named slots at (t.If c a Nil) = tt
source_named slots at (t.If c a (Then y ys)) = tt
source_named slots at (t.Local k given) = tt
source_named slots at x = tt

-- ---- one comparison

pub place_less : (t n : ℕ) (a b : Anchor) → t < n → elim (nat_lt t n) as (λ _. Anchor) [ true ↦ a | false ↦ b ] ≡ a
place_less t n a b h = ap (λ z. elim z as (λ _. Anchor) [ true ↦ a | false ↦ b ]) (lt-ltb t n h)

pub place_not_less : (t n : ℕ) (a b : Anchor) → n ≤ t → elim (nat_lt t n) as (λ _. Anchor) [ true ↦ a | false ↦ b ] ≡ b
place_not_less t n a b h = ap (λ z. elim z as (λ _. Anchor) [ true ↦ a | false ↦ b ]) (le-ltb t n h)

pub place_most : (t n : ℕ) (a b : Anchor) → t ≤ n → elim (nat_le t n) as (λ _. Anchor) [ true ↦ a | false ↦ b ] ≡ a
place_most t n a b h = ap (λ z. elim z as (λ _. Anchor) [ true ↦ a | false ↦ b ]) (le-leb t n h)

pub place_not_most : (t n : ℕ) (a b : Anchor) → n < t → elim (nat_le t n) as (λ _. Anchor) [ true ↦ a | false ↦ b ] ≡ b
place_not_most t n a b h = ap (λ z. elim z as (λ _. Anchor) [ true ↦ a | false ↦ b ]) (lt-leb t n h)

-- ---- in statements and bodies

in_plain : (at after t : ℕ) (x : s.Statement) → at < t → plain_place (s.From at after x) t ≡ statement_place at x t
in_plain at after t x h = place_not_most t at _ _ h

-- an item that is a statement without labels, from this token on
abbrev pub IsPlainAt : ℕ → s.Item → Type 0
IsPlainAt at (s.States [] (s.From first after x)) = first ≡ at
IsPlainAt at _ = ⊥

abbrev pub stated_in : s.Item → s.Statement
stated_in (s.States ls (s.From first after x)) = x
stated_in _ = s.Null

pub in_source : (at t : ℕ) (x : s.Item) → IsPlainAt at x → at < t → item_place x t ≡ statement_place at (stated_in x) t
in_source at t (s.States [] (s.From first after x)) e h = in_plain first after t x (omega (arith, e, h)) ∙ ap (λ k. statement_place k x t) e
in_source at t (s.States (l ∷ ls) p) e h = absurd e
in_source at t (s.Declares first after d) e h = absurd e

pub in_braces : (before : Anchor) (first after t : ℕ) (xs : s.Items) → first < t → t < after →
    body_place before (s.Braces first after xs) t ≡ list_place (AtEnd first) xs t
in_braces before first after t xs h k = place_not_most t first _ _ h ∙ place_less t after _ _ k

pub in_lone : (before : Anchor) (first after t : ℕ) (x : s.Item) → first ≤ t → t < after → body_place before (s.Lone first after x) t ≡ item_place x t
in_lone before first after t x h k = place_not_less t first _ _ h ∙ place_less t after _ _ k

abbrev pub body_first : s.Body → ℕ
body_first (s.Braces first after xs) = first
body_first (s.Lone first after x) = first

pub before_body : (before : Anchor) (b : s.Body) (t : ℕ) → t < body_first b → body_place before b t ≡ before
before_body before (s.Braces first after xs) t h = place_most t first _ _ (omega (arith, h))
before_body before (s.Lone first after x) t h = place_less t first _ _ h

-- a section has a label
abbrev pub HasLabel : List ExpressionTree → Bool → Type 0
HasLabel cases default = (0 < length cases) ⊎ IsTrue default

labels_more : (cases : List ExpressionTree) (default : Bool) (at : ℕ) → at ≤ section_labels_end at cases default
labels_more [] false at = omega arith
labels_more [] true at = omega arith
labels_more (x ∷ xs) default at = let y = conditional_end (at + 1) (conditional_of x) + 1 in let u =
    conditional_reaches (at + 1) (conditional_of x)
    [] in let v = labels_more xs default y in omega (arith, u, v)

pub labels_later : (cases : List ExpressionTree) (default : Bool) (at : ℕ) → HasLabel cases default → at < section_labels_end at cases default
labels_later [] false at (inl h) = absurd (omega (arith, h))
labels_later [] false at (inr h) = cc
labels_later [] true at h = omega arith
labels_later (x ∷ xs) default at h = let y = conditional_end (at + 1) (conditional_of x) + 1 in let u =
    conditional_reaches (at + 1) (conditional_of x)
    [] in let v = labels_more xs default y in omega (arith, u, v)

module _ (P : ℕ → Anchor) where
  -- the tokens of a range have the places that an item gives them
  abbrev pub On : ℕ → ℕ → s.Item → Type 0
  On at end x = (t : ℕ) → at ≤ t → t < end → P t ≡ item_place x t

  -- that a list gives them, behind which is this place
  abbrev pub Listed : Anchor → ℕ → ℕ → s.Items → Type 0
  Listed z at end xs = (t : ℕ) → at ≤ t → t < end → P t ≡ list_place z xs t

  -- that the list of a switch gives them, in which a section has begun or not
  abbrev pub Members : Bool → ℕ → ℕ → ℕ → ℕ → s.Items → Type 0
  Members begun switch first at end xs = (t : ℕ) → at ≤ t → t < end → P t ≡ members_place begun switch first xs t

  pub listed_first : (z : Anchor) (at end hi : ℕ) (x : s.Item) (xs : s.Items) → item_after x ≡ end → end ≤ hi → Listed z at hi (s.Then x xs) → On at end x
  listed_first z at end hi x xs e h l t a b = let k : t < item_after x = omega (arith, b, e) in l t a (omega (arith, b, h)) ∙ place_less t (item_after x) _ _ k

  pub listed_rest : (z : Anchor) (at end hi : ℕ) (x : s.Item) (xs : s.Items) → item_after x ≡ end → at ≤ end → Listed z at hi (s.Then x xs) → Listed z end hi xs
  listed_rest z at end hi x xs e h l t a b = let k : item_after x ≤ t = omega (arith, a, e) in
      l t (omega (arith, a, h)) b ∙ place_not_less t (item_after x) _ _ k

  -- behind the labels that are names no label of a section stands
  no_case : (ls : List s.Label) → AreNames ls → has_case ls ≡ false
  no_case [] h = refl
  no_case (s.Named at after ∷ ls) h = no_case ls h
  no_case (s.Case at after e ∷ ls) h = absurd h
  no_case (s.Default at after ∷ ls) h = absurd h

  member_is : (switch t : ℕ) (x : s.Item) → IsNamed x → member_place true switch x t ≡ item_place x t
  member_is switch t (s.Declares first after d) h = refl
  member_is switch t (s.States ls p) h =
      ap (λ b. elim b as (λ _. Anchor) [
        | true ↦ or_behind (section_place ls ls t) (plain_place p t)
        | false ↦ or_behind (labels_place ls t)
            (plain_place p t)
      ]) (no_case ls h)

  pub members_first : (switch first at end hi : ℕ) (x : s.Item) (xs : s.Items) → IsNamed x → item_after x ≡ end → end ≤ hi →
      Members true switch first at hi (s.Then x xs) → On at end x
  members_first switch first at end hi x xs n e h l t a b =
      let k : t < item_after x = omega (arith, b, e) in l t a (omega (arith, b, h)) ∙ place_less t (item_after x) _ _ k ∙ member_is switch t x n

  pub members_rest : (switch first at end hi : ℕ) (x : s.Item) (xs : s.Items) → item_after x ≡ end → at ≤ end →
      Members true switch first at hi (s.Then x xs) → Members true switch first end hi xs
  members_rest switch first at end hi x xs e h l t a b = let k : item_after x ≤ t = omega (arith, a, e) in
      l t (omega (arith, a, h)) b ∙ place_not_less t (item_after x) _ _ k

  -- ---- lists of a tree

  abbrev pub OnTree : List Slot → ℕ → Tree → Type 0
  OnTree slots at x = On at (item_end slots at x) (source_of slots at x)

  abbrev pub OnList : List Slot → ℕ → Forest → Type 0
  OnList slots at Nil = Unit {0}
  OnList slots at (Then x xs) = OnTree slots at x × OnList slots (item_end slots at x) xs

  pub no_token : (slots : List Slot) (at : ℕ) (bytes : List ℕ) → OnTree slots at (t.Note bytes)
  no_token slots at bytes k a b = absurd (omega (arith, a, b))

  pub listed_front : (slots : List Slot) (z : Anchor) (hi : ℕ) (rest : s.Items) (xs : Forest) (at : ℕ) → list_end slots at xs ≤ hi →
      Listed z at hi (front slots at xs rest) → OnList slots at xs × Listed z (list_end slots at xs) hi rest
  listed_front slots z hi rest Nil at h l = (tt, l)
  listed_front slots z hi rest (Then (t.Note bytes) xs) at h l = let r = listed_front slots z hi rest xs at h l in ((no_token slots at bytes, r.0), r.1)
  listed_front slots z hi rest (Then x xs) at h l =
      let e = item_end slots at x in
      let m = item_more slots at x in
      let k = list_more slots e xs in
      let behind = front slots e xs rest in
      let a = source_after slots at x tt in
      let r = listed_front slots z hi rest xs e h (listed_rest z at e hi (source_of slots at x) behind a m l) in
      ((listed_first z at e hi (source_of slots at x) behind a (omega (arith, h, k)) l, r.0), r.1)

  pub members_front : (slots : List Slot) (switch first hi : ℕ) (rest : s.Items) (xs : Forest) (at : ℕ) → list_end slots at xs ≤ hi →
      Members true switch first at hi (front slots at xs rest)
      → OnList slots at xs × Members true switch first (list_end slots at xs) hi rest
  members_front slots switch first hi rest Nil at h l = (tt, l)
  members_front slots switch first hi rest (Then (t.Note bytes) xs) at h l = let r = members_front slots switch first hi rest xs at h l in
      ((no_token slots at bytes, r.0), r.1)
  members_front slots switch first hi rest (Then x xs) at h l =
      let e = item_end slots at x in
      let m = item_more slots at x in
      let k = list_more slots e xs in
      let behind = front slots e xs rest in
      let a = source_after slots at x tt in
      let r = members_front slots switch first hi rest xs e h (members_rest switch first at e hi (source_of slots at x) behind a m l) in
      ((members_first switch first at e hi (source_of slots at x) behind (source_named slots at x) a (omega (arith, h, k)) l, r.0), r.1)

  -- ---- the first statement of a section, behind the labels of the section

  has_label : (cases : List ExpressionTree) (default : Bool) (at : ℕ) (ls : List s.Label) → HasLabel cases default →
      has_case (section_list at cases default ls) ≡ true
  has_label [] false at ls (inl h) = absurd (omega (arith, h))
  has_label [] false at ls (inr h) = cc
  has_label [] true at ls h = refl
  has_label (x ∷ xs) default at ls h = refl

  -- the labels of names, in a statement that begins a section or not
  names_place : (all ls : List s.Label) (t : ℕ) → AreNames ls → section_place all ls t ≡ labels_place ls t
  names_place all [] t h = refl
  names_place all (s.Named at after ∷ ls) t h = ap (λ o. elim (nat_lt t after) as (λ _. Option Anchor) [ true ↦ Some (Before at) | false ↦ o ])
      (names_place all ls t h)
  names_place all (s.Case at after e ∷ ls) t h = absurd h
  names_place all (s.Default at after ∷ ls) t h = absurd h

  skipped : (all : List s.Label) (l : s.Label) (o : Option Anchor) (t : ℕ) → label_after l ≤ t →
      elim (nat_lt t (label_after l)) as (λ _. Option Anchor) [ true ↦ Some (section_label_place all l) | false ↦ o ] ≡ o
  skipped all l o t h = ap (λ b. elim b as (λ _. Option Anchor) [ true ↦ Some (section_label_place all l) | false ↦ o ]) (le-ltb t (label_after l) h)

  behind_label : (all : List s.Label) (cases : List ExpressionTree) (default : Bool) (at : ℕ) (ls : List s.Label) (t : ℕ) →
      section_labels_end at cases default ≤ t → section_place all (section_list at cases default ls) t ≡ section_place all ls t
  behind_label all [] false at ls t h = refl
  behind_label all [] true at ls t h = skipped all (s.Default at (at + 1 + 1)) (section_place all ls t) t h
  behind_label all (x ∷ xs) default at ls t h =
      let y = conditional_end (at + 1) (conditional_of x) + 1 in
      let m = labels_more xs default y in
      let l = s.Case at y (At (at + 1) (conditional_form (at + 1) (conditional_of x))) in
      skipped all l (section_place all (section_list y xs default ls) t) t (omega (arith, h, m)) ∙ behind_label all xs default y ls t h

  module _ (begun : Bool) (switch first at hi : ℕ) (cases : List ExpressionTree) (default : Bool) (ls : List s.Label) (p : s.Plain) (xs : s.Items)
      (named : AreNames ls) (label : HasLabel cases default)
      (h : Members begun switch first at hi (with_labels (section_list at cases default) (s.Then (s.States ls p) xs))) where
    abbrev y : ℕ
    y = section_labels_end at cases default

    abbrev all : List s.Label
    all = section_list at cases default ls

    pub begin_first : (end : ℕ) → plain_after p ≡ end → end ≤ hi → On y end (s.States ls p)
    begin_first end e k t a b =
        let m = labels_more cases default at in
        let less : t < plain_after p = omega (arith, b, e) in
        h t (omega (arith, m, a)) (omega (arith, b, k)) ∙ place_less t (plain_after p) _ _ less
        ∙ ap (λ z. elim z as (λ _. Anchor) [
          | true ↦ or_behind (section_place all all t) (plain_place p t)
          | false ↦ elim (not begun && is_null all p) as (λ _. Anchor) [ true ↦ Before switch | false ↦ or_behind (labels_place all t) (plain_place p t) ]
        ]) (has_label cases default at ls label)
        ∙ ap (λ o. or_behind o (plain_place p t)) (behind_label all cases default at ls t a ∙ names_place all ls t named)

    pub begin_rest : (end : ℕ) → plain_after p ≡ end → y ≤ end → Members true switch first end hi xs
    begin_rest end e k t a b =
        let m = labels_more cases default at in
        let more : plain_after p ≤ t = omega (arith, a, e) in
        h t (omega (arith, m, k, a)) b ∙ place_not_less t (plain_after p) _ _ more ∙
        ap (λ z. members_place z switch first xs t) (ap (λ z. begun || z) (has_label cases default at ls label) ∙ or_true begun)
      where
        or_true : (z : Bool) → (z || true) ≡ true
        or_true true = refl
        or_true false = refl
