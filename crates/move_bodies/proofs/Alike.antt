-- A body in which one item was changed that is as settled as before: what of it stays, at the other places.
use Rattle.std.proofs.Common.{◌≡◌, ℕ, zero, suc, Bool, ◌||◌, List, Option, None, refl, ap}
use Rattle.c_tree.specs.declared.tree.Branch.{Branch}
use Rattle.c_tree.specs.declared.tree.Branch.TheVariants as B
use Rattle.c_tree.specs.ExpressionTrees.{ExpressionTree}
use Rattle.c_tree.specs.TestTrees.{TestTree, SelectorTree}
use Rattle.c_tree.specs.Trees.{Tree, Forest, Nil, Then, Sections, Section, If, While, Do, For, Switch, Block}
use Rattle.guard_simplify.specs.Choice.{is_nil, is_made, arms, arms_of, arms_in, is_made_if, is_one_if, neighbours, test_names, selector_names, barred, barred_of, barred_in}

-- the way from an item to the one that is changed: it itself, or one of a list of it
pub data Way : Type 0 where
  last : Way
  into : Branch → ℕ → Way → Way

-- of the item after the change, what other places depend on is as before
pub record Settled (x y : Tree) : Type 0 where
  pub made : is_made_if y ≡ is_made_if x
  pub bars : (l : ℕ) → barred_of l y ≡ barred_of l x
  pub arms : (l : ℕ) → arms_of l y ≡ arms_of l x

-- the item z did not become one with its neighbour, and does not after the change
abbrev pub Quiet : Tree → Forest → Forest → Type 0
Quiet z xs ys = neighbours z xs ≡ None → neighbours z ys ≡ None

mutual
  -- the list in which the item n is changed, or one in it that the way leads to
  pub data InList : ℕ → Way → Forest → Forest → Type 0 where
    at_here : (w : Way) (x y : Tree) (rest : Forest) → InItem w x y → InList zero w (Then x rest) (Then y rest)
    at_later : (n : ℕ) (w : Way) (z : Tree) (xs ys : Forest) → Quiet z xs ys → InList n w xs ys → InList (suc n) w (Then z xs) (Then z ys)

  pub data InItem : Way → Tree → Tree → Type 0 where
    this : (x y : Tree) → Settled x y → InItem last x y
    then_list : (m : ℕ) (w : Way) (t : TestTree) (a b c : Forest) → InList m w a b → InItem (into B.Then m w) (If t a c) (If t b c)
    else_list : (m : ℕ) (w : Way) (t : TestTree) (a b c : Forest) → InList m w a b → InItem (into B.Else m w) (If t c a) (If t c b)
    while_list : (m : ℕ) (w : Way) (t : TestTree) (a b : Forest) → InList m w a b → InItem (into B.Body m w) (While t a) (While t b)
    do_list : (m : ℕ) (w : Way) (t : TestTree) (a b : Forest) → InList m w a b → InItem (into B.Body m w) (Do a t) (Do b t)
    for_list : (m : ℕ) (w : Way) (f : Forest) (t u : Option ExpressionTree) (a b : Forest) → InList m w a b →
        InItem (into B.Body m w) (For f t u a) (For f t u b)
    block_list : (m : ℕ) (w : Way) (a b : Forest) → InList m w a b → InItem (into B.Body m w) (Block a) (Block b)
    section_list : (k m : ℕ) (w : Way) (s : SelectorTree) (c d : Sections) → InSections k m w c d → InItem (into (B.Section k) m w) (Switch s c) (Switch s d)

  pub data InSections : ℕ → ℕ → Way → Sections → Sections → Type 0 where
    section_here : (m : ℕ) (w : Way) (cases : List ExpressionTree) (default ends : Bool) (a b : Forest) (rest : Sections) → InList m w a b
        → InSections zero m w (Section cases default a ends rest) (Section cases default b ends rest)
    section_later : (k m : ℕ) (w : Way) (cases : List ExpressionTree) (default ends : Bool) (a : Forest) (c d : Sections) → InSections k m w c d
        → InSections (suc k) m w (Section cases default a ends c) (Section cases default a ends d)

-- ---- the labels that it bars, and the Arms in it

mutual
  pub list_bars : (l : ℕ) {n : ℕ} {w : Way} {xs ys : Forest} → InList n w xs ys → barred l ys ≡ barred l xs
  list_bars l (at_here w x y rest i) = ap (λ z. z || barred l rest) (item_bars l i)
  list_bars l (at_later n w z xs ys q i) = ap (λ v. barred_of l z || v) (list_bars l i)

  item_bars : (l : ℕ) {w : Way} {x y : Tree} → InItem w x y → barred_of l y ≡ barred_of l x
  item_bars l (this x y s) = s.bars l
  item_bars l (then_list m w t a b c i) = ap (λ z. test_names l t || (z || barred l c)) (list_bars l i)
  item_bars l (else_list m w t a b c i) = ap (λ z. test_names l t || (barred l c || z)) (list_bars l i)
  item_bars l (while_list m w t a b i) = ap (λ z. test_names l t || z) (list_bars l i)
  item_bars l (do_list m w t a b i) = ap (λ z. test_names l t || z) (list_bars l i)
  item_bars l (for_list m w f t u a b i) = ap (λ z. barred l f || z) (list_bars l i)
  item_bars l (block_list m w a b i) = list_bars l i
  item_bars l (section_list k m w s c d i) = ap (λ z. selector_names l s || z) (sections_bars l i)

  sections_bars : (l : ℕ) {k m : ℕ} {w : Way} {c d : Sections} → InSections k m w c d → barred_in l d ≡ barred_in l c
  sections_bars l (section_here m w cases default ends a b rest i) = ap (λ z. z || barred_in l rest) (list_bars l i)
  sections_bars l (section_later k m w cases default ends a c d i) = ap (λ z. barred l a || z) (sections_bars l i)

mutual
  pub list_arms : (l : ℕ) {n : ℕ} {w : Way} {xs ys : Forest} → InList n w xs ys → arms l ys ≡ arms l xs
  list_arms l (at_here w x y rest i) = ap (λ z. z || arms l rest) (item_arms l i)
  list_arms l (at_later n w z xs ys q i) = ap (λ v. arms_of l z || v) (list_arms l i)

  item_arms : (l : ℕ) {w : Way} {x y : Tree} → InItem w x y → arms_of l y ≡ arms_of l x
  item_arms l (this x y s) = s.arms l
  item_arms l (then_list m w t a b c i) = ap (λ z. z || arms l c) (list_arms l i)
  item_arms l (else_list m w t a b c i) = ap (λ z. arms l c || z) (list_arms l i)
  item_arms l (while_list m w t a b i) = list_arms l i
  item_arms l (do_list m w t a b i) = list_arms l i
  item_arms l (for_list m w f t u a b i) = ap (λ z. arms l f || z) (list_arms l i)
  item_arms l (block_list m w a b i) = list_arms l i
  item_arms l (section_list k m w s c d i) = sections_arms l i

  sections_arms : (l : ℕ) {k m : ℕ} {w : Way} {c d : Sections} → InSections k m w c d → arms_in l d ≡ arms_in l c
  sections_arms l (section_here m w cases default ends a b rest i) = ap (λ z. z || arms_in l rest) (list_arms l i)
  sections_arms l (section_later k m w cases default ends a c d i) = ap (λ z. arms l a || z) (sections_arms l i)

-- ---- shapes

pub list_nil : {n : ℕ} {w : Way} {xs ys : Forest} → InList n w xs ys → is_nil ys ≡ is_nil xs
list_nil (at_here w x y rest i) = refl
list_nil (at_later n w z xs ys q i) = refl

made_if : (t u : TestTree) (a b c : Forest) → is_made u ≡ is_made t → is_made_if (If u b c) ≡ is_made_if (If t a c)
made_if t u a b Nil e = e
made_if t u a b (Then x c) e = refl

other_else : (t : TestTree) (a b c : Forest) → is_nil b ≡ is_nil a → is_made_if (If t c b) ≡ is_made_if (If t c a)
other_else t Nil Nil c e = refl
other_else t (Then x a) (Then y b) c e = refl
other_else t Nil (Then y b) c e = cc
other_else t (Then x a) Nil c e = cc

item_made : {w : Way} {x y : Tree} → InItem w x y → is_made_if y ≡ is_made_if x
item_made (this x y s) = s.made
item_made (then_list m w t a b c i) = made_if t t a b c refl
item_made (else_list m w t a b c i) = other_else t a b c (list_nil i)
item_made (while_list m w t a b i) = refl
item_made (do_list m w t a b i) = refl
item_made (for_list m w f t u a b i) = refl
item_made (block_list m w a b i) = refl
item_made (section_list k m w s c d i) = refl

one_if_rest : (x y : Tree) (rest : Forest) → is_made_if y ≡ is_made_if x → is_one_if (Then y rest) ≡ is_one_if (Then x rest)
one_if_rest x y Nil e = e
one_if_rest x y (Then z rest) e = refl

later_one_if : (z : Tree) {n : ℕ} {w : Way} {xs ys : Forest} → InList n w xs ys → is_one_if (Then z ys) ≡ is_one_if (Then z xs)
later_one_if z (at_here w x y rest i) = refl
later_one_if z (at_later n w v xs ys q i) = refl

pub list_one_if : {n : ℕ} {w : Way} {xs ys : Forest} → InList n w xs ys → is_one_if ys ≡ is_one_if xs
list_one_if (at_here w x y rest i) = one_if_rest x y rest (item_made i)
list_one_if (at_later n w z xs ys q i) = later_one_if z i
