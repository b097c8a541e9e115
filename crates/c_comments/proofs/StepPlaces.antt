-- Steps, by the places of tokens.
use Rattle.std.proofs.Common.{◌≡◌, ◌<◌, ◌≤◌, ◌+◌, ◌&&◌, ◌||◌, ℕ, nat_le, nat_lt, not, Bool, true, false, List, [], ◌∷◌, length, get_or, drop, Option, Some, None, refl, ap, sym, subst, ◌∙◌, arith}
use Rattle.std.proofs.lemmas.Bool.{lt-ltb, le-ltb, le-leb, lt-leb, ltb-true, ltb-false, false≢true}
use Rattle.std.proofs.lemmas.List.{drop_all}
use Rattle.c_lexer.proofs.OpenComments.{or_none}
use Rattle.c_grammar.specs.declared.syntax.Syntax.{Syntax, out-Syntax}
use Rattle.c_grammar.specs.Items.{Label, Named, Case, Default, Item, States, Plain, From, Statement, Items, Then, Body, Braces, Lone, first_label, label_first}
use Rattle.c_grammar.specs.ItemViews.{item_of, labels_of}
use Rattle.c_grammar.specs.Parts.{is_token}
use Rattle.c_grammar.specs.Tops.{Top}
use Rattle.c_grammar.specs.Tops as tops
use Rattle.c_grammar.specs.TopViews.{top_of}
use Rattle.c_grammar.specs.Weights.{weight, weights}
use Rattle.c_grammar.proofs.Layers.{weight-at}
use Rattle.c_statements.specs.declared.anchors.Anchor.{Anchor}
use Rattle.c_statements.specs.declared.anchors.Anchor.TheVariants.{Before, AtEnd}
use Rattle.c_statements.specs.Labels.{has_case}
use Rattle.c_statements.specs.Nodes.{items_of}
use Rattle.c_statements.specs.Violations.{is_null}
use Rattle.c_statements.proofs.Lists.{items-token, items-item}
use Rattle.c_comments.specs.NodeViews.{tops_in}
use Rattle.c_comments.specs.Notes.{label_after, labels_place, section_place, section_label_place, case_place, or_behind, item_after, item_place, plain_place, statement_place, body_place, list_place, members_place, member_place, form_place, top_place, top_after, place_in, begins_section}
use Rattle.c_comments.specs.Steps.{label_place, place_in_labels, Behind, Between, Leads, IsBelow, bounded, body_ahead}
use Rattle.c_comments.specs.declared.steps.Step.{Step}
use Rattle.c_comments.specs.declared.steps.Step.TheVariants as S
use Rattle.c_comments.proofs.Nodes.{tops-next}

-- ---- steps

pub leads_on : (word : ℕ → List ℕ) (f g : ℕ → Anchor) (t : ℕ) (step : Step) → Behind f g t → Leads word g t step → Leads word f t step
leads_on word f g t (S.At a) e h = e t (omega arith) ∙ h
leads_on word f g t (S.Into rest bound) e h = (h.0, λ s l u. e s l ∙ h.1 s l u)

pub leads_within : (word : ℕ → List ℕ) (f g : ℕ → Anchor) (t bound : ℕ) (step : Step) → t < bound → Between f g t bound → Leads word g t step →
    Leads word f t (bounded step bound)
leads_within word f g t bound (S.At a) b e h = e t (omega arith) b ∙ h
leads_within word f g t bound (S.Into rest other) b e h = (omega (arith, h.0, b), λ s l u. e s l (omega (arith, u)) ∙ h.1 s l (omega (arith, u)))

pub below_bounded : (n bound : ℕ) (step : Step) → IsBelow n step → IsBelow n (bounded step bound)
below_bounded n bound (S.At a) h = tt
below_bounded n bound (S.Into rest other) h = h

pub below_on : (m n : ℕ) (step : Step) → m ≤ n → IsBelow m step → IsBelow n step
below_on m n (S.At a) l h = tt
below_on m n (S.Into rest other) l h = omega (arith, l, h)

-- ---- items of a list

list_here : (end : Anchor) (x : Item) (xs : Items) (t : ℕ) → Between (list_place end (Then x xs)) (item_place x) t (item_after x)
list_here end x xs t s l u = ap (λ b. elim b [ true ↦ item_place x s | false ↦ list_place end xs s ]) (lt-ltb s (item_after x) u)

list_past : (end : Anchor) (x : Item) (xs : Items) (t : ℕ) → item_after x ≤ t → Behind (list_place end (Then x xs)) (list_place end xs) t
list_past end x xs t a s l = ap (λ b. elim b [ true ↦ item_place x s | false ↦ list_place end xs s ]) (le-ltb s (item_after x) (omega (arith, a, l)))

members_here : (begun : Bool) (switch first : ℕ) (x : Item) (xs : Items) (t : ℕ) →
    Between (members_place begun switch first (Then x xs)) (member_place begun switch x) t (item_after x)
members_here begun switch first x xs t s l u =
    ap (λ b. elim b [ true ↦ member_place begun switch x s | false ↦ members_place (begun || begins_section x) switch first xs s ]) (lt-ltb s (item_after x) u)

members_past : (begun : Bool) (switch first : ℕ) (x : Item) (xs : Items) (t : ℕ) → item_after x ≤ t
    → Behind (members_place begun switch first (Then x xs)) (members_place (begun || begins_section x) switch first xs) t
members_past begun switch first x xs t a s l =
    ap (λ b. elim b [ true ↦ member_place begun switch x s | false ↦ members_place (begun || begins_section x) switch first xs s ])
    (le-ltb s (item_after x) (omega (arith, a, l)))

-- a node is an item that ends behind token t
abbrev ends-behind : (ℕ → List ℕ) → Syntax → ℕ → Bool
ends-behind word x t = not (is_token (out-Syntax x).rule) && nat_lt t (item_after (item_of word x))

pub ends_item : (word : ℕ → List ℕ) (x : Syntax) (t : ℕ) → ends-behind word x t ≡ true →
    (is_token (out-Syntax x).rule ≡ false) × (t < item_after (item_of word x))
ends_item word x t h = by (is_token (out-Syntax x).rule) refl
  where
    by : (b : Bool) → is_token (out-Syntax x).rule ≡ b → (is_token (out-Syntax x).rule ≡ false) × (t < item_after (item_of word x))
    by true e = absurd (false≢true (sym (ap (λ b. not b && nat_lt t (item_after (item_of word x))) e) ∙ h))
    by false e = (e, ltb-true t (item_after (item_of word x)) (sym (ap (λ b. not b && nat_lt t (item_after (item_of word x))) e) ∙ h))

item-ends : (word : ℕ → List ℕ) (x : Syntax) (t : ℕ) → is_token (out-Syntax x).rule ≡ false → ends-behind word x t ≡ false → item_after (item_of word x) ≤ t
item-ends word x t e h = ltb-false t (item_after (item_of word x)) (sym (ap (λ b. not b && nat_lt t (item_after (item_of word x))) e) ∙ h)

-- node i of a list, from which on the list is left
items_here : (word : ℕ → List ℕ) (end : Anchor) (xs : List Syntax) (i : ℕ) (x : Syntax) (t : ℕ) → i < length xs → x ≡ get_or xs i x →
    ends-behind word x t ≡ true
    → Between (list_place end (items_of word (drop i xs))) (item_place (item_of word x)) t (item_after (item_of word x))
items_here word end xs i x t h e n s l u =
    ap (λ ys. list_place end ys s) (items-item word xs i x h (subst (λ y. is_token (out-Syntax y).rule ≡ false) e (ends_item word x t n).0) ∙
    ap (λ y. Then (item_of word y) (items_of word (drop (i + 1) xs))) (sym e))
    ∙ list_here end (item_of word x) (items_of word (drop (i + 1) xs)) t s l u

pub items_step : (word : ℕ → List ℕ) (end : Anchor) (xs : List Syntax) (i : ℕ) (x : Syntax) (t bound : ℕ) (step : Step) → i < length xs →
    x ≡ get_or xs i x → ends-behind word x t ≡ true
    → bound ≡ item_after (item_of word x) → Behind (list_place end (items_of word (drop i xs))) (list_place end (items_of word xs)) t →
    Leads word (item_place (item_of word x)) t step
    → Leads word (list_place end (items_of word xs)) t (bounded step bound)
items_step word end xs i x t bound step h e n b p k =
    leads_within word (list_place end (items_of word xs)) (item_place (item_of word x)) t bound step (subst (λ m. t < m) (sym b) (ends_item word x t n).1)
    (λ s l u. sym (p s l) ∙ items_here word end xs i x t h e n s l (subst (λ m. s < m) b u)) k

pub below_node : (xs : List Syntax) (i : ℕ) (x : Syntax) (bound : ℕ) (step : Step) → i < length xs → x ≡ get_or xs i x → IsBelow (weight x) step →
    IsBelow (weights xs) (bounded step bound)
below_node xs i x bound step h e k =
    below_on (weight x) (weights xs) (bounded step bound) (subst (λ y. weight y ≤ weights xs) (sym e) (weight-at xs i x h))
    (below_bounded (weight x) bound step k)

pub items_past : (word : ℕ → List ℕ) (end : Anchor) (xs : List Syntax) (i : ℕ) (x : Syntax) (t : ℕ) → i < length xs → x ≡ get_or xs i x →
    ends-behind word x t ≡ false
    → Behind (list_place end (items_of word (drop (i + 1) xs))) (list_place end (items_of word (drop i xs))) t
items_past word end xs i x t h e n s l = by (is_token (out-Syntax (get_or xs i x)).rule) refl
  where
    y : Syntax
    y = get_or xs i x

    by : (b : Bool) → is_token (out-Syntax (get_or xs i x)).rule ≡ b →
        list_place end (items_of word (drop (i + 1) xs)) s ≡ list_place end (items_of word (drop i xs)) s
    by true k = ap (λ ys. list_place end ys s) (sym (items-token word xs i x h k))
    by false k = sym (ap (λ ys. list_place end ys s) (items-item word xs i x h k)
        ∙ list_past end (item_of word y) (items_of word (drop (i + 1) xs)) t (item-ends word y t k (subst (λ z. ends-behind word z t ≡ false) e n)) s l)

switch_here : (word : ℕ → List ℕ) (begun : Bool) (switch first : ℕ) (xs : List Syntax) (i : ℕ) (x : Syntax) (t : ℕ) → i < length xs →
    x ≡ get_or xs i x → ends-behind word x t ≡ true
    → Between (members_place begun switch first (items_of word (drop i xs))) (member_place begun switch (item_of word x)) t (item_after (item_of word x))
switch_here word begun switch first xs i x t h e n s l u =
    ap (λ ys. members_place begun switch first ys s)
    (items-item word xs i x h (subst (λ y. is_token (out-Syntax y).rule ≡ false) e (ends_item word x t n).0) ∙
    ap (λ y. Then (item_of word y) (items_of word (drop (i + 1) xs))) (sym e))
    ∙ members_here begun switch first (item_of word x) (items_of word (drop (i + 1) xs)) t s l u

pub members_step : (word : ℕ → List ℕ) (begun other : Bool) (switch first : ℕ) (xs : List Syntax) (i : ℕ) (x : Syntax) (t bound : ℕ) (step : Step) →
    i < length xs → x ≡ get_or xs i x → ends-behind word x t ≡ true
    → bound ≡ item_after (item_of word x) → Behind (members_place begun switch first (items_of word (drop i xs)))
    (members_place other switch first (items_of word xs)) t
    → Leads word (member_place begun switch (item_of word x)) t step → Leads word (members_place other switch first (items_of word xs)) t (bounded step bound)
members_step word begun other switch first xs i x t bound step h e n b p k =
    leads_within word (members_place other switch first (items_of word xs)) (member_place begun switch (item_of word x)) t bound step
    (subst (λ m. t < m) (sym b) (ends_item word x t n).1)
    (λ s l u. sym (p s l) ∙ switch_here word begun switch first xs i x t h e n s l (subst (λ m. s < m) b u)) k

-- whether a section has begun behind a node
abbrev has-begun : (ℕ → List ℕ) → Bool → Syntax → Bool
has-begun word begun x = begun || (not (is_token (out-Syntax x).rule) && begins_section (item_of word x))

pub switch_past : (word : ℕ → List ℕ) (begun : Bool) (switch first : ℕ) (xs : List Syntax) (i : ℕ) (x : Syntax) (t : ℕ) → i < length xs →
    x ≡ get_or xs i x → ends-behind word x t ≡ false
    → Behind (members_place (has-begun word begun x) switch first (items_of word (drop (i + 1) xs)))
    (members_place begun switch first (items_of word (drop i xs))) t
switch_past word begun switch first xs i x t h e n s l = ap (λ z. members_place (has-begun word begun z) switch first rest s) e ∙ by
    (is_token (out-Syntax y).rule) refl
  where
    y : Syntax
    y = get_or xs i x

    rest : Items
    rest = items_of word (drop (i + 1) xs)

    begun-by : Bool → Bool
    begun-by b = begun || (not b && begins_section (item_of word y))

    by : (b : Bool) → is_token (out-Syntax y).rule ≡ b → members_place (has-begun word begun y) switch first rest s ≡ members_place begun switch first
        (items_of word (drop i xs)) s
    by true k =
        ap (λ b. members_place b switch first rest s) (ap begun-by k ∙ or_none begun)
        ∙ ap (λ ys. members_place begun switch first ys s) (sym (items-token word xs i x h k))
    by false k =
        ap (λ b. members_place b switch first rest s) (ap begun-by k)
        ∙ sym (ap (λ ys. members_place begun switch first ys s) (items-item word xs i x h k)
        ∙ members_past begun switch first (item_of word y) rest t (item-ends word y t k (subst (λ z. ends-behind word z t ≡ false) e n)) s l)

-- ---- what stands at file scope

tops_here : (word : ℕ → List ℕ) (xs : List Syntax) (i : ℕ) (x : Syntax) (t : ℕ) → i < length xs → x ≡ get_or xs i x
    → Between (place_in (tops_in word (drop i xs))) (top_place (top_of word x)) t (top_after (top_of word x))
tops_here word xs i x t h e s l u =
    ap (λ ys. place_in ys s) (tops-next word xs i x h ∙ ap (λ y. top_of word y ∷ tops_in word (drop (i + 1) xs)) (sym e))
    ∙ ap (λ b. elim b [ true ↦ top_place (top_of word x) s | false ↦ place_in (tops_in word (drop (i + 1) xs)) s ]) (lt-ltb s (top_after (top_of word x)) u)

pub tops_step : (word : ℕ → List ℕ) (xs : List Syntax) (i : ℕ) (x : Syntax) (t bound : ℕ) (step : Step) → i < length xs → x ≡ get_or xs i x →
    t < bound → bound ≡ top_after (top_of word x)
    → Behind (place_in (tops_in word (drop i xs))) (place_in (tops_in word xs)) t → Leads word (top_place (top_of word x)) t step →
    Leads word (place_in (tops_in word xs)) t (bounded step bound)
tops_step word xs i x t bound step h e n b p k =
    leads_within word (place_in (tops_in word xs)) (top_place (top_of word x)) t bound step n
    (λ s l u. sym (p s l) ∙ tops_here word xs i x t h e s l (subst (λ m. s < m) b u)) k

pub tops_past : (word : ℕ → List ℕ) (xs : List Syntax) (i : ℕ) (x : Syntax) (t after : ℕ) → i < length xs → x ≡ get_or xs i x → after ≤ t →
    after ≡ top_after (top_of word x)
    → Behind (place_in (tops_in word (drop (i + 1) xs))) (place_in (tops_in word (drop i xs))) t
tops_past word xs i x t after h e a b s l =
    sym (ap (λ ys. place_in ys s) (tops-next word xs i x h ∙ ap (λ y. top_of word y ∷ tops_in word (drop (i + 1) xs)) (sym e))
    ∙ ap (λ b. elim b [ true ↦ top_place (top_of word x) s | false ↦ place_in (tops_in word (drop (i + 1) xs)) s ])
    (le-ltb s (top_after (top_of word x)) (subst (λ m. m ≤ s) b (omega (arith, a, l)))))

-- ---- labels

pub labels_none : (word : ℕ → List ℕ) (section : Option Anchor) (xs : List Syntax) (i t : ℕ) → length xs ≤ i →
    place_in_labels section (labels_of word (drop i xs)) t ≡ None
labels_none word section xs i t h = ap (λ ys. place_in_labels section (labels_of word ys) t) (drop_all i xs h)

pub labels_alone : (ls : List Label) (t : ℕ) → labels_place ls t ≡ place_in_labels None ls t
labels_alone [] t = refl
labels_alone (l ∷ ls) t = λ i. elim (nat_lt t (label_after l)) [ true ↦ Some (Before (label_first l)) | false ↦ labels_alone ls t i ]

section-label : (all : List Label) (l : Label) → section_label_place all l ≡ label_place (Some (case_place (first_label all) all)) l
section-label all (Named first after) = refl
section-label all (Case first after t) = refl
section-label all (Default first after) = refl

pub labels_of_section : (all ls : List Label) (t : ℕ) → section_place all ls t ≡ place_in_labels (Some (case_place (first_label all) all)) ls t
labels_of_section all [] t = refl
labels_of_section all (l ∷ ls) t = λ i. elim (nat_lt t (label_after l)) [ true ↦ Some (section-label all l i) | false ↦ labels_of_section all ls t i ]

-- ---- an item

pub at_labels : (x : Item) (ls : List Label) (p : Plain) (s : ℕ) → x ≡ States ls p → item_place x s ≡ or_behind (place_in_labels None ls s) (plain_place p s)
at_labels x ls p s e = ap (λ y. item_place y s) e ∙ ap (λ o. or_behind o (plain_place p s)) (labels_alone ls s)

-- what is not in a section's labels
abbrev outside : Bool → ℕ → List Label → Plain → ℕ → Anchor
outside b switch ls p s = elim b [ true ↦ Before switch | false ↦ or_behind (labels_place ls s) (plain_place p s) ]

pub at_section : (begun : Bool) (switch : ℕ) (x : Item) (ls : List Label) (p : Plain) (a : Anchor) (first s : ℕ) → x ≡ States ls p →
    has_case ls ≡ true → a ≡ case_place first ls → first ≡ first_label ls
    → member_place begun switch x s ≡ or_behind (place_in_labels (Some a) ls s) (plain_place p s)
at_section begun switch x ls p a first s e h q f =
    ap (λ y. member_place begun switch y s) e
    ∙ ap (λ b. elim b [ true ↦ or_behind (section_place ls ls s) (plain_place p s) | false ↦ outside (not begun && is_null ls p) switch ls p s ]) h
    ∙ ap (λ o. or_behind o (plain_place p s)) (labels_of_section ls ls s)
    ∙ ap (λ y. or_behind (place_in_labels (Some y) ls s) (plain_place p s)) (sym (q ∙ ap (λ n. case_place n ls) f))

pub at_null : (begun : Bool) (switch : ℕ) (x : Item) (ls : List Label) (p : Plain) (s : ℕ) → x ≡ States ls p → has_case ls ≡ false →
    (not begun && is_null ls p) ≡ true
    → member_place begun switch x s ≡ Before switch
at_null begun switch x ls p s e h n =
    ap (λ y. member_place begun switch y s) e
    ∙ ap (λ b. elim b [ true ↦ or_behind (section_place ls ls s) (plain_place p s) | false ↦ outside (not begun && is_null ls p) switch ls p s ]) h
    ∙ ap (λ b. outside b switch ls p s) n

pub at_member : (begun : Bool) (switch : ℕ) (x : Item) (ls : List Label) (p : Plain) (s : ℕ) → x ≡ States ls p → has_case ls ≡ false →
    (not begun && is_null ls p) ≡ false
    → member_place begun switch x s ≡ or_behind (place_in_labels None ls s) (plain_place p s)
at_member begun switch x ls p s e h n =
    ap (λ y. member_place begun switch y s) e
    ∙ ap (λ b. elim b [ true ↦ or_behind (section_place ls ls s) (plain_place p s) | false ↦ outside (not begun && is_null ls p) switch ls p s ]) h
    ∙ ap (λ b. outside b switch ls p s) n
    ∙ ap (λ o. or_behind o (plain_place p s)) (labels_alone ls s)

-- ---- the list of a construct

-- in front of a list the place is the one that is given
pub ahead : (before : Anchor) (b : Body) (t : ℕ) → t < body_ahead b → body_place before b t ≡ before
ahead before (Braces first after xs) t h =
    ap (λ b. elim b [ true ↦ before | false ↦ elim (nat_lt t after) [ true ↦ list_place (AtEnd first) xs t | false ↦ AtEnd first ] ])
    (le-leb t first (omega (arith, h)))
ahead before (Lone first after x) t h = ap (λ b. elim b [
  | true ↦ before
  | false ↦ elim (nat_lt t after)
      [ true ↦ item_place x t | false ↦ AtEnd first ]
]) (lt-ltb t first h)

-- and behind its first token that makes no difference
pub not_ahead : (before other : Anchor) (b : Body) (t : ℕ) → body_ahead b ≤ t → body_place before b t ≡ body_place other b t
not_ahead before other (Braces first after xs) t h = in-front before t first after xs (lt-leb t first (omega (arith, h))) ∙ sym
    (in-front other t first after xs (lt-leb t first (omega (arith, h))))
  where
    in-front : (a : Anchor) (t first after : ℕ) (xs : Items) → nat_le t first ≡ false →
        body_place a (Braces first after xs) t ≡ elim (nat_lt t after) [ true ↦ list_place (AtEnd first) xs t | false ↦ AtEnd first ]
    in-front a t first after xs e = ap (λ b. elim b [
      | true ↦ a
      | false ↦ elim (nat_lt t after)
          [ true ↦ list_place (AtEnd first) xs t | false ↦ AtEnd first ]
    ]) e
not_ahead before other (Lone first after x) t h = in-front before t first after x (le-ltb t first h) ∙ sym (in-front other t first after x (le-ltb t first h))
  where
    in-front : (a : Anchor) (t first after : ℕ) (x : Item) → nat_lt t first ≡ false →
        body_place a (Lone first after x) t ≡ elim (nat_lt t after) [ true ↦ item_place x t | false ↦ AtEnd first ]
    in-front a t first after x e = ap (λ b. elim b [ true ↦ a | false ↦ elim (nat_lt t after) [ true ↦ item_place x t | false ↦ AtEnd first ] ]) e

-- ---- a statement behind its labels

pub at_statement : (x : Plain) (first after : ℕ) (st : Statement) (t : ℕ) → x ≡ From first after st → first < t →
    Behind (plain_place x) (statement_place first st) t
at_statement x first after st t e h s l =
    ap (λ y. plain_place y s) e
    ∙ ap (λ b. elim b [ true ↦ Before first | false ↦ statement_place first st s ]) (lt-leb s first (omega (arith, h, l)))

pub at_top : (x : Top) (first after : ℕ) (form : tops.Form) (t : ℕ) → x ≡ tops.From first after form → first < t →
    Behind (top_place x) (form_place first form) t
at_top x first after form t e h s l =
    ap (λ y. top_place y s) e
    ∙ ap (λ b. elim b [ true ↦ Before first | false ↦ form_place first form s ]) (lt-leb s first (omega (arith, h, l)))
