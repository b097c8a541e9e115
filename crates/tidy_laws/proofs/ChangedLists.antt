-- Each change of a body comes by the two steps: jumps that leave turns, then the slot goes.
use Rattle.std.proofs.Common.{ℕ, ◌+◌, ◌≤◌, ◌<◌, pos, Bool, true, false, cond, eqb, eqb-true, List, [], ◌∷◌, Option, Some, None, option_map, ◌≡◌, refl, sym, ap, ◌∙◌, subst, true≢false}
use Rattle.std.proofs.lemmas.Bool.{and_parts}
use Rattle.c_types.specs.declared.kinds.IntKind.{IntKind}
use Rattle.c_types.specs.declared.kinds.IntKind.TheVariants.{Int}
use Rattle.c_tree.specs.declared.tree.Slot.{Slot}
use Rattle.c_tree.specs.declared.tree.Home.TheVariants as H
use Rattle.c_tree.specs.declared.tree.BinaryOp.TheVariants.{AndThen}
use Rattle.c_tree.specs.ExpressionTrees.{ExpressionTree, Typed, Var, Number, Binary, Assign}
use Rattle.c_tree.specs.TestTrees.{TestTree, Source}
use Rattle.c_tree.specs.Trees.{Tree, Forest, Nil, Then, Sections, Evaluate, Local, join}
use Rattle.c_tree.specs.Changed.{one}
use Rattle.c_tree.specs.Everywhere.{Everywhere, EverywhereOf}
use Rattle.c_tree.proofs.MoveLemmas.{some_same}
use Rattle.jump_meaning.specs.Code.{Code}
use Rattle.plain_laws.specs.Kinded.{KindedItem}
use Rattle.tidy_laws.specs.Likeness.{Like, Likes, LikeSections, like_then}
use Rattle.tidy_laws.specs.Tails.{is_off, reset}
use Rattle.tidy_laws.specs.Steps.{LeavesOne}
use Rattle.tidy_laws.proofs.TidyExitStatements.{like_itself, likes_itself}
use Rattle.tidy_laws.specs.Mentions.{item_lacks, list_lacks, sections_lack}
use Rattle.tidy_laws.specs.Renumbered.{renumbered_item, renumbered_list, renumbered_sections}
use Rattle.tidy_laws.specs.Changes.{is_number, is_reset, second_test, before_reset, is_zero_value, is_declaration, undeclared}
use Rattle.tidy_laws.specs.Settles.{nought, Items, i_nil, i_then, i_declared, Item, Parts}
use Rattle.tidy_laws.proofs.Tailed.{plain_items, plain_item}

-- ---- what tests say

zero_is : (e : ExpressionTree) → is_number 0 e ≡ true → e ≡ nought
zero_is (Typed (Some Int) (Number (pos n))) h = ap (λ m. Typed (Some Int) (Number (pos m))) (eqb-true n 0 h)
zero_is e h = absurd (true≢false (sym h))

pub reset_is : (g : ℕ) (x : Tree) → is_reset g x ≡ true → x ≡ reset g
reset_is g (Evaluate (Typed (Some Int) (Assign (Var (H.Slot x)) e))) h =
    let k = and_parts (eqb x g) (is_number 0 e) h in
    ap (λ y. Evaluate (Typed (Some Int) (Assign (Var (H.Slot y)) e))) (eqb-true x g k.0) ∙
    ap (λ e. Evaluate (Typed (Some Int) (Assign (Var (H.Slot g)) e))) (zero_is e k.1)
reset_is g x h = absurd (true≢false (sym h))

abbrev declaration : ℕ → Tree
declaration g = Local g (Some (nought ∷ []))

zero_values : (es : Option (List ExpressionTree)) → is_zero_value es ≡ true → es ≡ Some (nought ∷ [])
zero_values (Some (e ∷ [])) h = ap (λ x. Some (x ∷ [])) (zero_is e h)
zero_values es h = absurd (true≢false (sym h))

declaration_is : (g : ℕ) (x : Tree) → is_declaration g x ≡ true → x ≡ declaration g
declaration_is g (Local x es) h =
    let k = and_parts (eqb x g) (is_zero_value es) h in
    ap (λ y. Local y es) (eqb-true x g k.0) ∙ ap (Local g) (zero_values es k.1)
declaration_is g x h = absurd (true≢false (sym h))

pub none_some : {A : Type 0} {a : A} → None ≡ Some a → ⊥
none_some e = cc

-- the items before a last `g = 0;`
pub before_is : (g : ℕ) (a b : Forest) → before_reset g a ≡ Some b → a ≡ join b (one (reset g))
before_is g Nil b h = absurd (none_some h)
before_is g (Then x Nil) b h = at (is_reset g x) refl h
  where
    at : (y : Bool) → is_reset g x ≡ y → cond y (Some Nil) None ≡ Some b → Then x Nil ≡ join b (one (reset g))
    at true e h = ap (λ x. Then x Nil) (reset_is g x e) ∙ ap (λ b. join b (one (reset g))) (some_same h)
    at false e h = absurd (none_some h)
before_is g (Then x (Then y ys)) b h = at (before_reset g (Then y ys)) h (before_is g (Then y ys))
  where
    at : (o : Option Forest) → option_map (Then x) o ≡ Some b → ((c : Forest) → o ≡ Some c → Then y ys ≡ join c (one (reset g))) →
        Then x (Then y ys) ≡ join b (one (reset g))
    at (Some c) h k = ap (Then x) (k c refl) ∙ ap (λ b. join b (one (reset g))) (some_same h)
    at None h k = absurd (none_some h)

-- a test `!g && t`
pub record Guarded (g : ℕ) (t s : TestTree) : Type 0 where
  pub kind : Option IntKind
  pub first : ExpressionTree
  pub second : ExpressionTree
  pub whole : t ≡ Source (Typed kind (Binary AndThen first second))
  pub rest : s ≡ Source second
  pub off : is_off g first ≡ true

pub second_is : (g : ℕ) (t s : TestTree) → second_test g t ≡ Some s → Guarded g t s
second_is g (Source (Typed k (Binary AndThen e t))) s h = at (is_off g e) refl h
  where
    at : (y : Bool) → is_off g e ≡ y → cond y (Some (Source t)) None ≡ Some s → Guarded g (Source (Typed k (Binary AndThen e t))) s
    at true o h = record { kind = k; first = e; second = t; whole = refl; rest = sym (some_same h); off = o }
    at false o h = absurd (none_some h)
second_is g t s h = absurd (none_some h)

-- a list without its declaration, where it is to go
abbrev pub stripped : Bool → ℕ → Forest → Forest
stripped true g a = undeclared g a
stripped false g a = a

module _ (p : Code) (ss : List Slot) (start count : ℕ) where
  abbrev pub K : Tree → Type 0
  K = KindedItem p ss

  abbrev pub InReach : ℕ → Type 0
  InReach g = (start ≤ g) × (g < start + count)

  -- a list comes by way of one between
  pub record Made (d : Bool) (g : ℕ) (a c : Forest) : Type 0 where
    pub middle : Forest
    pub before : Likes LeavesOne a middle
    pub behind : Items p ss g false middle (renumbered_list g (stripped d g c))

  pub record MadeItem (g : ℕ) (x y : Tree) : Type 0 where
    pub middle : Tree
    pub before : Like LeavesOne x middle
    pub behind : Item p ss g false middle (renumbered_item g y)

  pub record MadeSections (g : ℕ) (c e : Sections) : Type 0 where
    pub middle : Sections
    pub before : LikeSections LeavesOne c middle
    pub behind : Parts p ss g middle (renumbered_sections g e)

  abbrev pub Makes : Bool → Forest → ℕ × Forest → Type 0
  Makes d a c = InReach c.0 × (list_lacks c.0 (stripped d c.0 c.1) ≡ true → Made d c.0 a c.1)

  abbrev pub MakesItem : Tree → ℕ × Tree → Type 0
  MakesItem x c = InReach c.0 × (is_declaration c.0 c.1 ≡ false) × (item_lacks c.0 c.1 ≡ true → MadeItem c.0 x c.1)

  abbrev pub MakesSections : Sections → ℕ × Sections → Type 0
  MakesSections s c = InReach c.0 × (sections_lack c.0 c.1 ≡ true → MadeSections c.0 s c.1)

  module _ (g : ℕ) where
    -- the rest of a list, without its declaration
    pub rest_items : (d : Bool) (a : Forest) → Everywhere K a → list_lacks g (stripped d g a) ≡ true → Items p ss g false a (renumbered_list g (stripped d g a))
    rest_items false a k l = plain_items p ss g false a k l
    rest_items true Nil k l = i_nil false
    rest_items true (Then x xs) k l = at (is_declaration g x) refl l (rest_items true xs k.1)
      where
        at : (y : Bool) → is_declaration g x ≡ y → list_lacks g (cond y xs (Then x (undeclared g xs))) ≡ true →
            (list_lacks g (undeclared g xs) ≡ true → Items p ss g false xs (renumbered_list g (undeclared g xs)))
            → Items p ss g false (Then x xs) (renumbered_list g (cond y xs (Then x (undeclared g xs))))
        at true e l h = subst (λ x. Items p ss g false (Then x xs) (renumbered_list g xs)) (sym (declaration_is g x e))
            (i_declared (plain_items p ss g false xs k.1 l))
        at false e l h = let i = and_parts (item_lacks g x) (list_lacks g (undeclared g xs)) l in i_then (plain_item p ss g false x k.0 i.0) (h i.1)

    -- a list whose first item is no declaration
    pub first_stays : (d : Bool) (x : Tree) (xs : Forest) → is_declaration g x ≡ false → stripped d g (Then x xs) ≡ Then x (stripped d g xs)
    first_stays true x xs e = ap (λ y. cond y xs (Then x (undeclared g xs))) e
    first_stays false x xs e = refl

    -- where the first item was changed
    pub then_made : (d : Bool) (x y : Tree) (xs : Forest) → is_declaration g y ≡ false → Everywhere K xs → (item_lacks g y ≡ true → MadeItem g x y) →
        list_lacks g (stripped d g (Then y xs)) ≡ true → Made d g (Then x xs) (Then y xs)
    then_made d x y xs e k h l =
        let l' = and_parts (item_lacks g y) (list_lacks g (stripped d g xs)) (subst (λ z. list_lacks g z ≡ true) (first_stays d y xs e) l) in
        let m = h l'.0 in
        record {
          middle = Then m.middle xs;
          before = like_then m.before (likes_itself LeavesOne xs);
          behind = subst (λ z. Items p ss g false (Then m.middle xs) (renumbered_list g z)) (sym (first_stays d y xs e))
              (i_then m.behind (rest_items d xs k l'.1));
        }

    -- where a later one was
    pub later_made : (d : Bool) (x : Tree) (xs ys : Forest) → EverywhereOf K x →
        ((d : Bool) → list_lacks g (stripped d g ys) ≡ true → Made d g xs ys) → list_lacks g (stripped d g (Then x ys)) ≡ true →
        Made d g (Then x xs) (Then x ys)
    later_made false x xs ys k h l =
        let i = and_parts (item_lacks g x) (list_lacks g ys) l in
        let m = h false i.1 in
        record { middle = Then x m.middle; before = like_then (like_itself LeavesOne x) m.before; behind = i_then (plain_item p ss g false x k i.0) m.behind }
    later_made true x xs ys k h l = at (is_declaration g x) refl l
      where
        at : (y : Bool) → is_declaration g x ≡ y → list_lacks g (cond y ys (Then x (undeclared g ys))) ≡ true → Made true g (Then x xs) (Then x ys)
        at true e l =
            let m = h false l in
            record {
              middle = Then x m.middle;
              before = like_then (like_itself LeavesOne x) m.before;
              behind = subst (λ z. Items p ss g false (Then x m.middle) (renumbered_list g z)) (sym (ap (λ y. cond y ys (Then x (undeclared g ys))) e))
                  (subst (λ x. Items p ss g false (Then x m.middle) (renumbered_list g ys)) (sym (declaration_is g x e)) (i_declared m.behind));
            }
        at false e l =
            let i = and_parts (item_lacks g x) (list_lacks g (undeclared g ys)) l in
            let m = h true i.1 in
            record {
              middle = Then x m.middle;
              before = like_then (like_itself LeavesOne x) m.before;
              behind = subst (λ z. Items p ss g false (Then x m.middle) (renumbered_list g z))
                  (sym (ap (λ y. cond y ys (Then x (undeclared g ys))) e)) (i_then (plain_item p ss g false x k i.0) m.behind);
            }
