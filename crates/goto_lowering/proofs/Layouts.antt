-- The layout of the code, and the parts of a body one after another.
use Rattle.std.proofs.Common.{◌≡◌, ℕ, suc, ◌+◌, ◌-◌, ◌*◌, ◌<◌, ◌≤◌, Bool, List, [], ◌∷◌, length, get_or, slice_set, Some, None, arith, refl, sym, ap, ◌∙◌}
use Rattle.std.proofs.Math.Path.{fun_ext}
use Rattle.c_tree.specs.Changed.{one}
use Rattle.c_tree.specs.declared.tree.Item.{Item}
use Rattle.c_tree.specs.declared.tree.Item as I
use Rattle.c_tree.specs.Numerals.{constant}
use Rattle.c_tree.specs.Trees.{Tree, Forest, Nil, Then, Local, Goto, trees_of, join}
use Rattle.c_tree.proofs.TreeLaws.{join-nil, trees-none}
use Rattle.flat_laws.specs.Parts.{is_named}
use Rattle.flat_questions.specs.Reading.{is_flagged}
use Rattle.lower_laws.specs.Lowered.{Layout, coded, declarations}
use Rattle.c_tree.specs.Views.{tree_at}
use Rattle.c_tree.proofs.Views.{trees-first, at-Goto}
use Rattle.flat_items.proofs.Joining.{one_more}
use Rattle.lower_items.specs.declared.plans.Plan as L
use Rattle.lower_items.specs.Plans.{layout_of}
use Rattle.lower_items.specs.Jumps.{goto_of}
use Rattle.goto_lowering.specs.Renumbered.{renumbered, renumbered_item, renumbered_goto, lone_goto}

pub layout_is : (p : L.Plan) (body : Forest) → ((l : ℕ) → is_flagged p.named l ≡ is_named body l) → layout_of p ≡ coded constant p.slots body
layout_is p body h = ap with_live (fun_ext h) where
  with_live : (ℕ → Bool) → Layout
  with_live live = record {
    plan = record {
      live = live;
      source = λ l. 7 * l;
      break_label = λ k. 7 * k + 1;
      continue_label = λ k. 7 * k + 2;
      default_label = λ k. 7 * k + 3;
      case_label = λ j. 7 * j + 4;
      slots = p.slots;
      number = constant;
    };
    head_label = λ k. 7 * k + 5;
    list_label = λ k. 7 * k + 6;
  }

-- ---- declarations

pub declared_start : (x n : ℕ) (out : Forest) → join out (declarations (x + 0) (n - 0)) ≡ join out (declarations x n)
declared_start x n out =
    let e : n - 0 ≡ n = omega arith in
    let f : x + 0 ≡ x = omega arith in
    ap (λ y. join out (declarations y (n - 0))) f ∙ ap (λ m. join out (declarations x m)) e

pub declared_step : (x i n : ℕ) (out new all : Forest) → i < n → new ≡ join out (one (Local (x + i) None)) →
    join out (declarations (x + i) (n - i)) ≡ all → join new (declarations (x + (i + 1)) (n - (i + 1))) ≡ all
declared_step x i n out new all h q inv =
    let e : n - i ≡ suc (n - (i + 1)) = omega arith in
    let f : x + (i + 1) ≡ suc (x + i) = omega arith in
    one_more out new (Local (x + i) None) (declarations (x + (i + 1)) (n - (i + 1))) q
    ∙ ap (λ y. join out (Then (Local (x + i) None) (declarations y (n - (i + 1))))) f ∙ sym (ap (λ m. join out (declarations (x + i) m)) e) ∙ inv

pub declared_end : (x i n : ℕ) (out all : Forest) → n ≤ i → join out (declarations (x + i) (n - i)) ≡ all → out ≡ all
declared_end x i n out all h inv = let e : n - i ≡ 0 = omega arith in sym (join-nil out) ∙ sym (ap (λ m. join out (declarations (x + i) m)) e) ∙ inv

-- ---- the items

pub renumbered_step : (f : ℕ → ℕ) (x : Item) (xs : List Item) (out new all : Forest) → new ≡ join out (one (renumbered_item f (tree_at x))) →
    join out (renumbered f (trees_of (x ∷ xs))) ≡ all → join new (renumbered f (trees_of xs)) ≡ all
renumbered_step f x xs out new all n inv = one_more out new (renumbered_item f (tree_at x)) (renumbered f (trees_of xs)) n ∙ sym
    (ap (λ a. join out (renumbered f a)) (trees-first x xs)) ∙ inv

pub renumbered_end : (f : ℕ → ℕ) (out all : Forest) → join out (renumbered f (trees_of [])) ≡ all → out ≡ all
renumbered_end f out all inv = sym (join-nil out) ∙ sym (ap (λ a. join out (renumbered f a)) trees-none) ∙ inv

-- ---- the goto of an `if`

one_of : (t : Tree) → lone_goto (Then t Nil) ≡ goto_of t
one_of (Goto l) = refl
one_of _ = refl

two_of : (t u : Tree) (v : Forest) → lone_goto (Then t (Then u v)) ≡ None
two_of (Goto l) u v = refl
two_of _ u v = refl

pub lone : (xs : List Item) (x : Item) → length xs ≡ 1 → x ≡ get_or xs 0 x → lone_goto (trees_of xs) ≡ goto_of (tree_at x)
lone [] x h e = absurd (omega arith)
lone (y ∷ []) x h e = ap lone_goto (trees-first y [] ∙ ap (Then (tree_at y)) trees-none) ∙ one_of (tree_at y) ∙ ap (λ z. goto_of (tree_at z)) (sym e)
lone (y ∷ z ∷ zs) x h e = absurd (omega arith)

pub not_lone : (xs : List Item) → (length xs ≡ 1 → ⊥) → lone_goto (trees_of xs) ≡ None
not_lone [] h = ap lone_goto trees-none
not_lone (x ∷ []) h = absurd (h refl)
not_lone (x ∷ y ∷ ys) h = ap lone_goto (trees-first x (y ∷ ys) ∙ ap (Then (tree_at x)) (trees-first y ys)) ∙ two_of (tree_at x) (tree_at y) (trees_of ys)

goto_is : (t : Tree) (l : ℕ) → goto_of t ≡ Some l → t ≡ Goto l
goto_is (Goto m) l h = let e : Some m ≡ Some l = h in cc
goto_is _ l h = cc

pub lone_long : (xs : List Item) (l : ℕ) → lone_goto (trees_of xs) ≡ Some l → 0 < length xs
lone_long [] l h = let n : None ≡ Some l = sym (ap lone_goto trees-none) ∙ h in cc
lone_long (x ∷ xs) l h = omega arith

-- with another goto in its place
pub set_lone : (f : ℕ → ℕ) (xs : List Item) (l m : ℕ) → lone_goto (trees_of xs) ≡ Some l → m ≡ f l →
    trees_of (slice_set xs 0 (I.Goto m)) ≡ renumbered_goto f (trees_of xs)
set_lone f [] l m h e = let n : None ≡ Some l = sym (ap lone_goto trees-none) ∙ h in cc
set_lone f (x ∷ []) l m h e =
    let t : trees_of (x ∷ []) ≡ Then (tree_at x) Nil = trees-first x [] ∙ ap (Then (tree_at x)) trees-none in
    let g = goto_is (tree_at x) l (sym (one_of (tree_at x)) ∙ sym (ap lone_goto t) ∙ h) in
    trees-first (I.Goto m) [] ∙ ap (Then (tree_at (I.Goto m))) trees-none ∙ ap (λ u. Then u Nil) (at-Goto m) ∙ ap (λ n. Then (Goto n) Nil) e ∙
    sym (ap (renumbered_goto f) (t ∙ ap (λ u. Then u Nil) g))
set_lone f (x ∷ y ∷ ys) l m h e =
    let n : None ≡ Some l = sym (two_of (tree_at x) (tree_at y) (trees_of ys)) ∙
    sym (ap lone_goto (trees-first x (y ∷ ys) ∙ ap (Then (tree_at x)) (trees-first y ys))) ∙ h in cc
