-- The labels of simplifications: those that have one have one that stands in the body.
use Rattle.std.proofs.Common.{◌≡◌, ℕ, ◌+◌, Bool, true, false, ◌||◌, ◌&&◌, cond, List, [], ◌∷◌, ◌++◌, inl, inr, Option, Some, None, refl, sym, subst}
use Rattle.std.specs.Prelude.{◌==◌, not, IfSome}
use Rattle.std.specs.List.{AllByRecursion}
use Rattle.c_tree.specs.declared.tree.Branch.{Branch}
use Rattle.c_tree.specs.declared.tree.Branch.TheVariants as B
use Rattle.c_tree.specs.Everywhere.{Everywhere, EverywhereOf, EverywhereIn}
use Rattle.c_tree.specs.Labels.{TestLabels, SelectorLabels, ItemLabels}
use Rattle.c_tree.specs.TestTrees.{TestTree, Off, AndOff, OrOn, SelectorTree, Selects, Pick}
use Rattle.c_tree.specs.Trees.{Tree, Forest, Nil, Then, Sections, NoSection, Section, If, While, Do, For, Switch, Block, Arm, Land}
use Rattle.report_moves.specs.declared.moves.MoveKind.{MoveKind}
use Rattle.report_moves.specs.declared.moves.MoveKind.TheVariants.{Z1, Z2, Z3, Z4, Z5}
use Rattle.report_moves.specs.Report.{names_label}
use Rattle.guard_simplify.specs.declared.choice.Choice.{Choice}
use Rattle.guard_simplify.specs.declared.choice.Repeat.{Repeat}
use Rattle.guard_simplify.specs.Choice.{has, is_off_of, inside, repeat, repeat_pick, repeat_of, is_empty_if, joins_next, neighbours, arms_of, is_nested, unread_guard, if_true, if_some, repeat_label, own, under, choices_from, choices_in, choices_of_sections, Among}

module _ (P : ℕ → Type 0) where
  -- a label of the property where the kind names one, and none where it doesn't
  abbrev pub Labelled : Bool → Option ℕ → Type 0
  Labelled true (Some l) = P l
  Labelled true None = ⊥
  Labelled false o = o ≡ None

  abbrev pub IsLabelled : Choice → Type 0
  IsLabelled c = Labelled (names_label c.kind) c.label

  -- ---- wrappers

  abbrev OfRepeat : Option Repeat → Type 0
  OfRepeat o = IfSome o (λ (r : Repeat). P r.label)

  of_inside : (o : Option Repeat) → OfRepeat o → OfRepeat (inside o)
  of_inside None h = tt
  of_inside (Some r) h = h

  of_either : (b : Bool) (l : ℕ) (o : Option Repeat) → P l → OfRepeat o → OfRepeat (cond b (Some (record { at = 0; label = l })) o)
  of_either true l o h k = h
  of_either false l o h k = k

  of_repeat : (ands ors : List ℕ) (t : TestTree) → TestLabels P t → OfRepeat (repeat ands ors t)
  of_repeat ands ors (AndOff l t) h = of_either (has l ands || is_off_of l t) l (inside (repeat (ands ++ l ∷ []) ors t)) h.0
      (of_inside (repeat (ands ++ l ∷ []) ors t) (of_repeat (ands ++ l ∷ []) ors t h.1))
  of_repeat ands ors (OrOn l t) h = of_either (has l ors) l (inside (repeat ands (ors ++ l ∷ []) t)) h.0
      (of_inside (repeat ands (ors ++ l ∷ []) t) (of_repeat ands (ors ++ l ∷ []) t h.1))
  of_repeat ands ors _ h = tt

  of_pick : (picks : List ℕ) (s : SelectorTree) → SelectorLabels P s → OfRepeat (repeat_pick picks s)
  of_pick picks (Selects e) h = tt
  of_pick picks (Pick l n s) h = of_either (has l picks) l (inside (repeat_pick (picks ++ l ∷ []) s)) h.0
      (of_inside (repeat_pick (picks ++ l ∷ []) s) (of_pick (picks ++ l ∷ []) s h.1))

  of_item : (x : Tree) → ItemLabels P x → OfRepeat (repeat_of x)
  of_item (If t a b) h = of_repeat [] [] t h
  of_item (While t a) h = of_repeat [] [] t h
  of_item (Do a t) h = of_repeat [] [] t h
  of_item (Switch s c) h = of_pick [] s h
  of_item _ h = tt

  abbrev LabelOf : Option ℕ → Type 0
  LabelOf o = IfSome o P

  label_of : (o : Option Repeat) → OfRepeat o → LabelOf (repeat_label o)
  label_of None h = tt
  label_of (Some r) h = h

  -- ---- neighbours

  by_cond : (b : Bool) (l : ℕ) → P l → LabelOf (cond b (Some l) None)
  by_cond true l h = h
  by_cond false l h = tt

  by_not : (b : Bool) (l : ℕ) → P l → LabelOf (cond b None (Some l))
  by_not true l h = tt
  by_not false l h = h

  of_next : (l : ℕ) (x y : Tree) → P l → LabelOf (joins_next l x y)
  of_next l x (If (Off m) b Nil) h = by_cond (m == l && not (arms_of l x)) l h
  of_next l x _ h = tt

  of_neighbours : (x : Tree) (xs : Forest) → ItemLabels P x → LabelOf (neighbours x xs)
  of_neighbours (If (Off l) a Nil) (Then y ys) h = of_next l (If (Off l) a Nil) y h
  of_neighbours _ _ h = tt

  of_guard : (bar : ℕ → Bool) (x : Tree) → ItemLabels P x → LabelOf (unread_guard bar x)
  of_guard bar (Arm l e) h = by_not (bar l) l h
  of_guard bar (Land l) h = by_not (bar l) l h
  of_guard bar _ h = tt

  -- ---- all of them

  self : (x : Tree) → EverywhereOf (ItemLabels P) x → ItemLabels P x
  self (If t a b) h = h.0
  self (While t a) h = h.0
  self (Do a t) h = h.0
  self (For first t u a) h = h.0
  self (Switch s c) h = h.0
  self (Block a) h = h.0
  self _ h = h

  abbrev AllLabelled : List Choice → Type 0
  AllLabelled cs = AllByRecursion IsLabelled cs

  both : (cs ds : List Choice) → AllLabelled cs → AllLabelled ds → AllLabelled (cs ++ ds)
  both [] ds h k = k
  both (c ∷ cs) ds h k = (h.0, both cs ds h.1 k)

  without : (i : ℕ) (kind : MoveKind) (b : Bool) → names_label kind ≡ false → AllLabelled (if_true i kind b)
  without i kind true e = (subst (λ n. Labelled n None) (sym e) refl, tt)
  without i kind false e = tt

  labelled : (i : ℕ) (kind : MoveKind) (o : Option ℕ) → names_label kind ≡ true → LabelOf o → AllLabelled (if_some i kind o)
  labelled i kind None e h = tt
  labelled i kind (Some l) e h = (subst (λ n. Labelled n (Some l)) (sym e) h, tt)

  own_labelled : (bar : ℕ → Bool) (i : ℕ) (x : Tree) (rest : Forest) → ItemLabels P x → AllLabelled (own bar i x rest)
  own_labelled bar i x rest h =
      both (if_true i Z1 (is_empty_if x)) _ (without i Z1 (is_empty_if x) refl)
      (both (if_some i Z2 (repeat_label (repeat_of x))) _ (labelled i Z2 (repeat_label (repeat_of x)) refl (label_of (repeat_of x) (of_item x h)))
      (both (if_some i Z3 (neighbours x rest)) _ (labelled i Z3 (neighbours x rest) refl (of_neighbours x rest h))
      (both (if_true i Z4 (is_nested x)) _ (without i Z4 (is_nested x) refl) (labelled i Z5 (unread_guard bar x) refl (of_guard bar x h)))))

  under_labelled : (i : ℕ) (b : Branch) (cs : List Choice) → AllLabelled cs → AllLabelled (under i b cs)
  under_labelled i b [] h = tt
  under_labelled i b (c ∷ cs) h = (h.0, under_labelled i b cs h.1)

  mutual
    pub list_labelled : (bar : ℕ → Bool) (i : ℕ) (a : Forest) → Everywhere (ItemLabels P) a → AllLabelled (choices_from bar i a)
    list_labelled bar i Nil h = tt
    list_labelled bar i (Then x a) h =
        both (own bar i x a) _ (own_labelled bar i x a (self x h.0)) (both (choices_in bar i x) _ (item_labelled bar i x h.0) (list_labelled bar (i + 1) a h.1))

    item_labelled : (bar : ℕ → Bool) (i : ℕ) (x : Tree) → EverywhereOf (ItemLabels P) x → AllLabelled (choices_in bar i x)
    item_labelled bar i (If t a b) h = both (under i B.Then (choices_from bar 0 a))
        _ (under_labelled i B.Then (choices_from bar 0 a) (list_labelled bar 0 a h.1))
        (under_labelled i B.Else (choices_from bar 0 b) (list_labelled bar 0 b h.2))
    item_labelled bar i (While t a) h = under_labelled i B.Body (choices_from bar 0 a) (list_labelled bar 0 a h.1)
    item_labelled bar i (Do a t) h = under_labelled i B.Body (choices_from bar 0 a) (list_labelled bar 0 a h.1)
    item_labelled bar i (For first t u a) h = under_labelled i B.Body (choices_from bar 0 a) (list_labelled bar 0 a h.2)
    item_labelled bar i (Switch s c) h = sections_labelled bar i 0 c h.1
    item_labelled bar i (Block a) h = under_labelled i B.Body (choices_from bar 0 a) (list_labelled bar 0 a h.1)
    item_labelled bar i _ h = tt

    sections_labelled : (bar : ℕ → Bool) (i k : ℕ) (c : Sections) → EverywhereIn (ItemLabels P) c → AllLabelled (choices_of_sections bar i k c)
    sections_labelled bar i k NoSection h = tt
    sections_labelled bar i k (Section cases default a ends c) h =
        both (under i (B.Section k) (choices_from bar 0 a)) _ (under_labelled i (B.Section k) (choices_from bar 0 a) (list_labelled bar 0 a h.0))
        (sections_labelled bar i (k + 1) c h.1)

  pub one_labelled : (c : Choice) (cs : List Choice) → AllLabelled cs → Among c cs → IsLabelled c
  one_labelled c [] h a = absurd a
  one_labelled c (d ∷ cs) h a = elim a [ inl e ↦ subst IsLabelled (sym e) h.0 | inr r ↦ one_labelled c cs h.1 r ]
