-- After an item was changed that stays settled, and was the place of the first simplification, none applies before it.
use Rattle.std.proofs.Common.{◌≡◌, ℕ, zero, suc, ◌+◌, ◌≤◌, ◌<◌, inl, inr, ◌⊎◌, ◌==◌, Bool, true, false, cond, not, ◌&&◌, ◌||◌, List, [], ◌∷◌, ◌++◌, Option, Some, None, refl, sym, ap, subst, ◌∙◌, arith}
use Rattle.c_tree.specs.declared.tree.Branch.{Branch}
use Rattle.c_tree.specs.declared.tree.Branch.TheVariants as B
use Rattle.c_tree.specs.declared.tree.Path.{Path}
use Rattle.c_tree.specs.declared.tree.Step.{Step}
use Rattle.c_tree.specs.TestTrees.{TestTree, Off}
use Rattle.c_tree.specs.Trees.{Tree, Forest, Nil, Then, Sections, NoSection, Section, If, While, Do, For, Switch, Block}
use Rattle.report_moves.specs.declared.moves.MoveKind.{MoveKind}
use Rattle.report_moves.specs.declared.moves.MoveKind.TheVariants.{Z1, Z2, Z3, Z4, Z5}
use Rattle.guard_simplify.specs.declared.choice.Choice.{Choice}
use Rattle.guard_simplify.specs.Choice.{Among, repeat_of, repeat_label, is_nil, is_made, is_off, is_empty_if, arms, joins_next, neighbours, is_one_if, is_nested, unread_guard, if_true, if_some, own, under_one, under, choices_from, choices_in, choices_of_sections, first}
use Rattle.guard_simplify.proofs.Members.{in_first, in_append, in_under, own_is}
use Rattle.move_bodies.proofs.Alike.{Way, last, into, Quiet, InList, at_here, at_later, InItem, this, then_list, else_list, while_list, do_list, for_list, block_list, section_list, InSections, section_here, section_later, list_nil, list_arms, list_one_if}

-- ---- paths

-- the path of an item with this number in its list, and of one in it
abbrev pub path_from : ℕ → Way → Path
path_from n last = record { steps = []; item = n }
path_from n (into b m w) = record { steps = record { item = n; branch = b } ∷ (path_from m w).steps; item = (path_from m w).item }

-- the number of the item that a path begins at
abbrev head_of : List Step → ℕ → ℕ
head_of [] i = i
head_of (s ∷ ss) i = s.item

abbrev head : Choice → ℕ
head c = head_of c.path.steps c.path.item

abbrev has_steps : List Step → Bool
has_steps [] = false
has_steps (s ∷ ss) = true

abbrev branch_of : List Step → Branch
branch_of [] = B.Body
branch_of (s ∷ ss) = s.branch

abbrev more_steps : List Step → List Step
more_steps [] = []
more_steps (s ∷ ss) = ss

head_is : (c : Choice) (n : ℕ) (w : Way) → c.path ≡ path_from n w → head c ≡ n
head_is c n last e = ap (λ (p : Path). head_of p.steps p.item) e
head_is c n (into b m w) e = ap (λ (p : Path). head_of p.steps p.item) e

own_head : (bar : ℕ → Bool) (i : ℕ) (x : Tree) (rest : Forest) (c : Choice) → Among c (own bar i x rest) → head c ≡ i
own_head bar i x rest c h = ap (λ (p : Path). head_of p.steps p.item) (own_is bar i x rest c h).place

own_steps : (bar : ℕ → Bool) (i : ℕ) (x : Tree) (rest : Forest) (c : Choice) → Among c (own bar i x rest) → has_steps c.path.steps ≡ false
own_steps bar i x rest c h = ap (λ (p : Path). has_steps p.steps) (own_is bar i x rest c h).place

under_head : (c : Choice) (i : ℕ) (b : Branch) (cs : List Choice) → Among c (under i b cs) → head c ≡ i
under_head c i b cs h = let u = in_under c i b cs h in ap head u.is

sections_head : (bar : ℕ → Bool) (i k : ℕ) (d : Sections) (c : Choice) → Among c (choices_of_sections bar i k d) → head c ≡ i
sections_head bar i k NoSection c h = absurd h
sections_head bar i k (Section cases default a ends d) c h = elim
    (in_append c (under i (B.Section k) (choices_from bar 0 a)) (choices_of_sections bar i (k + 1) d) h) [
      | inl u ↦ under_head c i (B.Section k) (choices_from bar 0 a) u
      | inr u ↦ sections_head bar i (k + 1) d c u
    ]

inside_head : (bar : ℕ → Bool) (i : ℕ) (x : Tree) (c : Choice) → Among c (choices_in bar i x) → head c ≡ i
inside_head bar i (If t a b) c h = elim (in_append c (under i B.Then (choices_from bar 0 a)) (under i B.Else (choices_from bar 0 b)) h) [
  | inl u ↦ under_head c i B.Then (choices_from bar 0 a) u
  | inr u ↦ under_head c i B.Else (choices_from bar 0 b) u
]
inside_head bar i (While t a) c h = under_head c i B.Body (choices_from bar 0 a) h
inside_head bar i (Do a t) c h = under_head c i B.Body (choices_from bar 0 a) h
inside_head bar i (For f t u a) c h = under_head c i B.Body (choices_from bar 0 a) h
inside_head bar i (Switch s d) c h = sections_head bar i 0 d c h
inside_head bar i (Block a) c h = under_head c i B.Body (choices_from bar 0 a) h
inside_head bar i _ c h = absurd h

from_head : (bar : ℕ → Bool) (n : ℕ) (xs : Forest) (c : Choice) → Among c (choices_from bar n xs) → n ≤ head c
from_head bar n Nil c h = absurd h
from_head bar n (Then x xs) c h = elim (in_append c (own bar n x xs) (choices_in bar n x ++ choices_from bar (n + 1) xs) h) [
  | inl u ↦ let e = own_head bar n x xs c u in omega (arith, e)
  | inr u ↦ elim (in_append c (choices_in bar n x) (choices_from bar (n + 1) xs) u) [
    | inl v ↦ let e = inside_head bar n x c v in omega (arith, e)
    | inr v ↦ let e = from_head bar (n + 1) xs c v in omega (arith, e)
  ]
]

-- ---- the first of two lists

either_first : (c : Choice) (xs ys : List Choice) → first (xs ++ ys) ≡ Some c → (first xs ≡ Some c) ⊎ ((xs ≡ []) × (first ys ≡ Some c))
either_first c [] ys e = inr (refl, e)
either_first c (x ∷ xs) ys e = inl e

left_nil : (xs ys : List Choice) → xs ++ ys ≡ [] → xs ≡ []
left_nil [] ys e = refl
left_nil (x ∷ xs) ys e = cc

right_nil : (xs ys : List Choice) → xs ++ ys ≡ [] → ys ≡ []
right_nil [] ys e = e
right_nil (x ∷ xs) ys e = cc

no_label : (i : ℕ) (k : MoveKind) (o : Option ℕ) → if_some i k o ≡ [] → o ≡ None
no_label i k None e = refl
no_label i k (Some l) e = cc

-- ---- an item

-- of the item after the change, what its own simplifications depend on is as before
record Alike (bar : ℕ → Bool) (x y : Tree) : Type 0 where
  empty : is_empty_if y ≡ is_empty_if x
  repeats : repeat_of y ≡ repeat_of x
  next : (rest : Forest) → neighbours y rest ≡ neighbours x rest
  nested : is_nested y ≡ is_nested x
  unread : unread_guard bar y ≡ unread_guard bar x

alike_own : (bar : ℕ → Bool) (i : ℕ) (x y : Tree) (rest : Forest) → Alike bar x y → own bar i y rest ≡ own bar i x rest
alike_own bar i x y rest a =
    ap (λ b. if_true i Z1 b ++ (if_some i Z2 (repeat_label (repeat_of y)) ++
    (if_some i Z3 (neighbours y rest) ++ (if_true i Z4 (is_nested y) ++ if_some i Z5 (unread_guard bar y))))) a.empty
    ∙ ap (λ o. if_true i Z1 (is_empty_if x) ++
    (if_some i Z2 (repeat_label o) ++ (if_some i Z3 (neighbours y rest) ++ (if_true i Z4 (is_nested y) ++ if_some i Z5 (unread_guard bar y))))) a.repeats
    ∙ ap (λ o. if_true i Z1 (is_empty_if x) ++ (if_some i Z2 (repeat_label (repeat_of x)) ++
    (if_some i Z3 o ++ (if_true i Z4 (is_nested y) ++ if_some i Z5 (unread_guard bar y))))) (a.next rest)
    ∙ ap (λ b. if_true i Z1 (is_empty_if x) ++ (if_some i Z2 (repeat_label (repeat_of x)) ++
    (if_some i Z3 (neighbours x rest) ++ (if_true i Z4 b ++ if_some i Z5 (unread_guard bar y))))) a.nested
    ∙ ap (λ o. if_true i Z1 (is_empty_if x) ++ (if_some i Z2 (repeat_label (repeat_of x)) ++
    (if_some i Z3 (neighbours x rest) ++ (if_true i Z4 (is_nested x) ++ if_some i Z5 o)))) a.unread

-- the list of an `if` is changed, and has the same Arms
next_then : (t : TestTree) (a b c : Forest) (rest : Forest) → ((l : ℕ) → arms l b ≡ arms l a) → neighbours (If t b c) rest ≡ neighbours (If t a c) rest
next_then (Off l) a b Nil (Then (If (Off m) d Nil) vs) h = ap (λ z. cond {A = Option ℕ} (m == l && not (z || false)) (Some l) None) (h l)
next_then _ a b c rest h = refl

empty_then : (t : TestTree) (a b c : Forest) → is_nil b ≡ is_nil a → is_empty_if (If t b c) ≡ is_empty_if (If t a c)
empty_then t a b c e = ap (λ z. is_made t && (z && is_nil c)) e

nested_then : (t : TestTree) (a b c : Forest) → is_one_if b ≡ is_one_if a → is_nested (If t b c) ≡ is_nested (If t a c)
nested_then t a b Nil e = ap (λ z. is_off t && z) e
nested_then t a b (Then x c) e = refl

empty_else : (t : TestTree) (a b c : Forest) → is_nil b ≡ is_nil a → is_empty_if (If t c b) ≡ is_empty_if (If t c a)
empty_else t a b c e = ap (λ z. is_made t && (is_nil c && z)) e

no_next : (t : TestTree) (x : Tree) (a c rest : Forest) → neighbours (If t c (Then x a)) rest ≡ None
no_next (Off l) x a c rest = refl
no_next _ x a c rest = refl

next_else : (t : TestTree) (a b c : Forest) (rest : Forest) → is_nil a ≡ false → is_nil b ≡ false → neighbours (If t c b) rest ≡ neighbours (If t c a) rest
next_else t Nil b c rest e f = cc
next_else t (Then x a) Nil c rest e f = cc
next_else t (Then x a) (Then y b) c rest e f = no_next t y b c rest ∙ sym (no_next t x a c rest)

nested_else : (t : TestTree) (a b c : Forest) → is_nil a ≡ false → is_nil b ≡ false → is_nested (If t c b) ≡ is_nested (If t c a)
nested_else t Nil b c e f = cc
nested_else t (Then x a) Nil c e f = cc
nested_else t (Then x a) (Then y b) c e f = refl

-- ---- under an item

under_branch : (c : Choice) (i : ℕ) (b : Branch) (cs : List Choice) → Among c (under i b cs) → branch_of c.path.steps ≡ b
under_branch c i b cs h = let u = in_under c i b cs h in ap (λ (d : Choice). branch_of d.path.steps) u.is

record FromSection (n : ℕ) (c : Choice) : Type 0 where
  number : ℕ
  least : n ≤ number
  branch : branch_of c.path.steps ≡ B.Section number

sections_branch : (bar : ℕ → Bool) (i k : ℕ) (d : Sections) (c : Choice) → Among c (choices_of_sections bar i k d) → FromSection k c
sections_branch bar i k NoSection c h = absurd h
sections_branch bar i k (Section cases default a ends d) c h = elim
    (in_append c (under i (B.Section k) (choices_from bar 0 a)) (choices_of_sections bar i (k + 1) d) h) [
      | inl u ↦ record { number = k; least = omega arith; branch = under_branch c i (B.Section k) (choices_from bar 0 a) u }
      | inr u ↦ let r = sections_branch bar i (k + 1) d c u in let m = r.least in record { number = r.number; least = omega (arith, m); branch = r.branch }
    ]

same_section : (m n : ℕ) → B.Section m ≡ B.Section n → m ≡ n
same_section m n e = cc

path_parts : (p q : Path) → p.steps ≡ q.steps → p.item ≡ q.item → p ≡ q
path_parts p q e f = ap (λ (ss : List Step). record { steps = ss; item = p.item }) e ∙ ap (λ (n : ℕ). record { steps = q.steps; item = n }) f

-- ---- the simplifications at the place of the change and behind it

abbrev mutual
  -- in a list, from its item k on, of which the item n was changed
  pub tail_list : (ℕ → Bool) → ℕ → Forest → ℕ → Way → List Choice
  tail_list bar k Nil n w = []
  tail_list bar k (Then y ys) zero last = choices_from bar k (Then y ys)
  tail_list bar k (Then y ys) zero (into b m w) = tail_item bar k y b m w ++ choices_from bar (k + 1) ys
  tail_list bar k (Then y ys) (suc n) w = tail_list bar (k + 1) ys n w

  -- in the lists of the item k, of which the one at the branch was changed
  pub tail_item : (ℕ → Bool) → ℕ → Tree → Branch → ℕ → Way → List Choice
  tail_item bar k (If t a b) B.Then m w = under k B.Then (tail_list bar 0 a m w) ++ under k B.Else (choices_from bar 0 b)
  tail_item bar k (If t a b) B.Else m w = under k B.Else (tail_list bar 0 b m w)
  tail_item bar k (While t a) B.Body m w = under k B.Body (tail_list bar 0 a m w)
  tail_item bar k (Do a t) B.Body m w = under k B.Body (tail_list bar 0 a m w)
  tail_item bar k (For f t u a) B.Body m w = under k B.Body (tail_list bar 0 a m w)
  tail_item bar k (Block a) B.Body m w = under k B.Body (tail_list bar 0 a m w)
  tail_item bar k (Switch s c) (B.Section j) m w = tail_sections bar k 0 c j m w
  tail_item bar k _ _ m w = []

  -- in the sections of the switch i, from the section j on, of which the section n was changed
  pub tail_sections : (ℕ → Bool) → ℕ → ℕ → Sections → ℕ → ℕ → Way → List Choice
  tail_sections bar i j NoSection n m w = []
  tail_sections bar i j (Section cases default a ends c) zero m w = under i (B.Section j) (tail_list bar 0 a m w) ++ choices_of_sections bar i (j + 1) c
  tail_sections bar i j (Section cases default a ends c) (suc n) m w = tail_sections bar i (j + 1) c n m w

-- where the first of xs is at the path, all of ys are those of zs
abbrev pub Follows : List Choice → List Choice → List Choice → Path → Type 0
Follows xs ys zs p = (c : Choice) → c.path ≡ p → first xs ≡ Some c → ys ≡ zs

under_follows : (i : ℕ) (b : Branch) (m : ℕ) (w : Way) (xs ys zs : List Choice) → Follows xs ys zs (path_from m w) →
    Follows (under i b xs) (under i b ys) (under i b zs) (path_from i (into b m w))
under_follows i b m w [] ys zs h c p e = cc
under_follows i b m w (x ∷ xs) ys zs h c p e =
    let f : under_one i b x ≡ c = cc in
    let whole : record { steps = record { item = i; branch = b } ∷ x.path.steps; item = x.path.item } ≡ path_from i (into b m w) =
    ap (λ (z : Choice). z.path) f ∙ p in
    let path : x.path ≡ path_from m w = path_parts x.path (path_from m w) (ap (λ (z : Path). more_steps z.steps) whole) (ap (λ (z : Path). z.item) whole) in
    ap (under i b) (h x path refl)

-- ---- the item before

same_joins : (l : ℕ) (z : Tree) (t : TestTree) (a b c : Forest) → joins_next l z (If t b c) ≡ joins_next l z (If t a c)
same_joins l z (Off m) a b Nil = refl
same_joins l z _ a b c = refl

joins_else : (l : ℕ) (z : Tree) (t : TestTree) (b c : Forest) → is_nil b ≡ false → joins_next l z (If t c b) ≡ None
joins_else l z t Nil c e = cc
joins_else l z (Off m) (Then y b) c e = refl
joins_else l z _ (Then y b) c e = refl

list_some : {n : ℕ} {w : Way} {xs ys : Forest} → InList n w xs ys → is_nil xs ≡ false
list_some (at_here w x y rest i) = refl
list_some (at_later n w z xs ys q i) = refl

joins_item : (l : ℕ) (z : Tree) {b : Branch} {m : ℕ} {w : Way} {x y : Tree} → InItem (into b m w) x y → joins_next l z x ≡ None → joins_next l z y ≡ None
joins_item l z (then_list m w t a b c i) h = same_joins l z t a b c ∙ h
joins_item l z (else_list m w t a b c i) h = joins_else l z t b c (list_nil i ∙ list_some i)
joins_item l z (while_list m w t a b i) h = refl
joins_item l z (do_list m w t a b i) h = refl
joins_item l z (for_list m w f t u a b i) h = refl
joins_item l z (block_list m w a b i) h = refl
joins_item l z (section_list k m w s c d i) h = refl

-- before an item on the way
pub quiet_here : (z : Tree) {b : Branch} {m : ℕ} {w : Way} {x y : Tree} (rest : Forest) → InItem (into b m w) x y → Quiet z (Then x rest) (Then y rest)
quiet_here (If (Off l) a Nil) rest i h = joins_item l (If (Off l) a Nil) i h
quiet_here _ rest i h = refl

-- before an item in front of it
pub quiet_later : (z v : Tree) (xs ys : Forest) → Quiet z (Then v xs) (Then v ys)
quiet_later (If (Off l) a Nil) v xs ys h = h
quiet_later _ v xs ys h = refl

own_before : (bar : ℕ → Bool) (k : ℕ) (z : Tree) (xs ys : Forest) → Quiet z xs ys → own bar k z xs ≡ [] → own bar k z ys ≡ []
own_before bar k z xs ys q e =
    let behind = if_true k Z4 (is_nested z) ++ if_some k Z5 (unread_guard bar z) in
    let second = if_some k Z2 (repeat_label (repeat_of z)) in
    let one = right_nil (if_true k Z1 (is_empty_if z)) (second ++ (if_some k Z3 (neighbours z xs) ++ behind)) e in
    let two = right_nil second (if_some k Z3 (neighbours z xs) ++ behind) one in
    let old : neighbours z xs ≡ None = no_label k Z3 (neighbours z xs) (left_nil (if_some k Z3 (neighbours z xs)) behind two) in
    ap (λ o. if_true k Z1 (is_empty_if z) ++ (second ++ (if_some k Z3 o ++ behind))) (q old ∙ sym old) ∙ e

-- ---- items on the way

alike : (bar : ℕ → Bool) {b : Branch} {m : ℕ} {w : Way} {x y : Tree} → InItem (into b m w) x y → Alike bar x y
alike bar (then_list m w t a b c i) = record {
  empty = empty_then t a b c (list_nil i);
  repeats = refl;
  next = λ rest. next_then t a b c rest (λ l. list_arms l i);
  nested = nested_then t a b c (list_one_if i);
  unread = refl;
}
alike bar (else_list m w t a b c i) = record {
  empty = empty_else t a b c (list_nil i);
  repeats = refl;
  next = λ rest. next_else t a b c rest (list_some i) (list_nil i ∙ list_some i);
  nested = nested_else t a b c (list_some i) (list_nil i ∙ list_some i);
  unread = refl;
}
alike bar (while_list m w t a b i) = record { empty = refl; repeats = refl; next = λ rest. refl; nested = refl; unread = refl }
alike bar (do_list m w t a b i) = record { empty = refl; repeats = refl; next = λ rest. refl; nested = refl; unread = refl }
alike bar (for_list m w f t u a b i) = record { empty = refl; repeats = refl; next = λ rest. refl; nested = refl; unread = refl }
alike bar (block_list m w a b i) = record { empty = refl; repeats = refl; next = λ rest. refl; nested = refl; unread = refl }
alike bar (section_list k m w s c d i) = record { empty = refl; repeats = refl; next = λ rest. refl; nested = refl; unread = refl }

deeper : (bar : ℕ → Bool) (k : ℕ) (b : Branch) (m : ℕ) (w : Way) (x y : Tree) (rest : Forest) (zs : List Choice) → InItem (into b m w) x y →
    Follows (choices_in bar k x) (choices_in bar k y) zs (path_from k (into b m w))
    → Follows (own bar k x rest ++ (choices_in bar k x ++ choices_from bar (k + 1) rest))
    (own bar k y rest ++ (choices_in bar k y ++ choices_from bar (k + 1) rest)) (zs ++ choices_from bar (k + 1) rest) (path_from k (into b m w))
deeper bar k b m w x y rest zs i h c p e =
    let more = choices_from bar (k + 1) rest in
    elim (either_first c (own bar k x rest) (choices_in bar k x ++ more) e) [
      | inl u ↦
          let f : has_steps c.path.steps ≡ true = ap (λ (z : Path). has_steps z.steps) p in
          let g : has_steps c.path.steps ≡ false = own_steps bar k x rest c (in_first (own bar k x rest) c u) in
          absurd (true_false (sym f ∙ g))
      | inr u ↦ elim (either_first c (choices_in bar k x) more u.1) [
        | inl v ↦ ap (λ z. z ++ (choices_in bar k y ++ more)) (alike_own bar k x y rest (alike bar i) ∙ u.0) ∙ ap (λ z. z ++ more) (h c p v)
        | inr v ↦
            let f = from_head bar (k + 1) rest c (in_first more c v.1) in
            let g = head_is c k (into b m w) p in
            absurd (omega (arith, f, g))
      ]
    ] where
      true_false : true ≡ false → ⊥
      true_false e = cc

inside_then : (bar : ℕ → Bool) (k m : ℕ) (w : Way) (t : TestTree) (a b c : Forest) (zs : List Choice) →
    Follows (choices_from bar 0 a) (choices_from bar 0 b) zs (path_from m w)
    → Follows (choices_in bar k (If t a c)) (choices_in bar k (If t b c)) (under k B.Then zs ++ under k B.Else (choices_from bar 0 c))
    (path_from k (into B.Then m w))
inside_then bar k m w t a b c zs h d p e =
    elim (either_first d (under k B.Then (choices_from bar 0 a)) (under k B.Else (choices_from bar 0 c)) e) [
      | inl u ↦ ap (λ z. z ++ under k B.Else (choices_from bar 0 c)) (under_follows k B.Then m w (choices_from bar 0 a) (choices_from bar 0 b) zs h d p u)
      | inr u ↦
          let f : B.Then ≡ B.Else = sym (ap (λ (z : Path). branch_of z.steps) p) ∙
          under_branch d k B.Else (choices_from bar 0 c) (in_first (under k B.Else (choices_from bar 0 c)) d u.1) in
          cc
    ]

inside_else : (bar : ℕ → Bool) (k m : ℕ) (w : Way) (t : TestTree) (a b c : Forest) (zs : List Choice) →
    Follows (choices_from bar 0 a) (choices_from bar 0 b) zs (path_from m w)
    → Follows (choices_in bar k (If t c a)) (choices_in bar k (If t c b)) (under k B.Else zs) (path_from k (into B.Else m w))
inside_else bar k m w t a b c zs h d p e =
    elim (either_first d (under k B.Then (choices_from bar 0 c)) (under k B.Else (choices_from bar 0 a)) e) [
      | inl u ↦
          let f : B.Else ≡ B.Then = sym (ap (λ (z : Path). branch_of z.steps) p) ∙
          under_branch d k B.Then (choices_from bar 0 c) (in_first (under k B.Then (choices_from bar 0 c)) d u) in
          cc
      | inr u ↦ ap (λ z. z ++ under k B.Else (choices_from bar 0 b)) u.0 ∙ under_follows k B.Else m w (choices_from bar 0 a) (choices_from bar 0 b) zs h d p u.1
    ]

first_section : (bar : ℕ → Bool) (i j m : ℕ) (w : Way) (a b : Forest) (rest : Sections) (zs : List Choice) →
    Follows (choices_from bar 0 a) (choices_from bar 0 b) zs (path_from m w)
    → Follows (under i (B.Section j) (choices_from bar 0 a) ++ choices_of_sections bar i (j + 1) rest)
    (under i (B.Section j) (choices_from bar 0 b) ++ choices_of_sections bar i (j + 1) rest)
    (under i (B.Section j) zs ++ choices_of_sections bar i (j + 1) rest) (path_from i (into (B.Section j) m w))
first_section bar i j m w a b rest zs h d p e =
    let more = choices_of_sections bar i (j + 1) rest in
    elim (either_first d (under i (B.Section j) (choices_from bar 0 a)) more e) [
      | inl u ↦ ap (λ z. z ++ more) (under_follows i (B.Section j) m w (choices_from bar 0 a) (choices_from bar 0 b) zs h d p u)
      | inr u ↦
          let f = sections_branch bar i (j + 1) rest d (in_first more d u.1) in
          let g = same_section j f.number (sym (ap (λ (z : Path). branch_of z.steps) p) ∙ f.branch) in
          let n = f.least in
          absurd (omega (arith, g, n))
    ]

later_section : (bar : ℕ → Bool) (i j n m : ℕ) (w : Way) (a : Forest) (c d : Sections) (zs : List Choice) → j < n →
    Follows (choices_of_sections bar i (j + 1) c) (choices_of_sections bar i (j + 1) d) zs (path_from i (into (B.Section n) m w))
    → Follows (under i (B.Section j) (choices_from bar 0 a) ++ choices_of_sections bar i (j + 1) c)
    (under i (B.Section j) (choices_from bar 0 a) ++ choices_of_sections bar i (j + 1) d) zs (path_from i (into (B.Section n) m w))
later_section bar i j n m w a c d zs less h x p e =
    let here = under i (B.Section j) (choices_from bar 0 a) in
    elim (either_first x here (choices_of_sections bar i (j + 1) c) e) [
      | inl u ↦
          let g = same_section n j (sym (ap (λ (z : Path). branch_of z.steps) p) ∙ under_branch x i (B.Section j) (choices_from bar 0 a) (in_first here x u)) in
          absurd (omega (arith, g, less))
      | inr u ↦ ap (λ z. z ++ choices_of_sections bar i (j + 1) d) u.0 ∙ h x p u.1
    ]

later_item : (bar : ℕ → Bool) (k n : ℕ) (w : Way) (z : Tree) (xs ys : Forest) (zs : List Choice) → k < n → Quiet z xs ys →
    Follows (choices_from bar (k + 1) xs) (choices_from bar (k + 1) ys) zs (path_from n w)
    → Follows (choices_from bar k (Then z xs)) (choices_from bar k (Then z ys)) zs (path_from n w)
later_item bar k n w z xs ys zs less q h c p e =
    let f = head_is c n w p in
    elim (either_first c (own bar k z xs) (choices_in bar k z ++ choices_from bar (k + 1) xs) e) [
      | inl u ↦ let g = own_head bar k z xs c (in_first (own bar k z xs) c u) in absurd (omega (arith, f, g, less))
      | inr u ↦ elim (either_first c (choices_in bar k z) (choices_from bar (k + 1) xs) u.1) [
        | inl v ↦ let g = inside_head bar k z c (in_first (choices_in bar k z) c v) in absurd (omega (arith, f, g, less))
        | inr v ↦ ap (λ o. o ++ (choices_in bar k z ++ choices_from bar (k + 1) ys)) (own_before bar k z xs ys q u.0) ∙
            ap (λ o. o ++ choices_from bar (k + 1) ys) v.0 ∙ h c p v.1
      ]
    ]

from_zero : (bar : ℕ → Bool) (m : ℕ) (w : Way) (a b : Forest) (zs : List Choice) →
    Follows (choices_from bar 0 a) (choices_from bar 0 b) zs (path_from (0 + m) w) → Follows (choices_from bar 0 a) (choices_from bar 0 b) zs (path_from m w)
from_zero bar m w a b zs h = let z : 0 + m ≡ m = omega arith in subst (λ j. Follows (choices_from bar 0 a) (choices_from bar 0 b) zs (path_from j w)) z h

mutual
  pub list_follows : (bar : ℕ → Bool) (k : ℕ) {n : ℕ} {w : Way} {xs ys : Forest} → InList n w xs ys →
      Follows (choices_from bar k xs) (choices_from bar k ys) (tail_list bar k ys n w) (path_from (k + n) w)
  list_follows bar k (at_here w x y rest i) =
      let m : k ≡ k + 0 = omega arith in
      subst (λ j. Follows (choices_from bar k (Then x rest)) (choices_from bar k (Then y rest)) (tail_list bar k (Then y rest) zero w)
      (path_from j w)) m (item_follows bar k rest i)
  list_follows bar k (at_later n w z xs ys q i) =
      let m : k + 1 + n ≡ k + suc n = omega arith in
      let zs = tail_list bar (k + 1) ys n w in
      later_item bar k (k + suc n) w z xs ys zs (omega arith) q
      (subst (λ j. Follows (choices_from bar (k + 1) xs) (choices_from bar (k + 1) ys) zs (path_from j w)) m (list_follows bar (k + 1) i))

  item_follows : (bar : ℕ → Bool) (k : ℕ) {w : Way} {x y : Tree} (rest : Forest) → InItem w x y →
      Follows (choices_from bar k (Then x rest)) (choices_from bar k (Then y rest)) (tail_list bar k (Then y rest) zero w) (path_from k w)
  item_follows bar k rest (this x y s) = λ c p e. refl
  item_follows bar k rest (then_list m w t a b c i) =
      let zs = tail_list bar 0 b m w in
      deeper bar k B.Then m w (If t a c) (If t b c) rest (under k B.Then zs ++ under k B.Else (choices_from bar 0 c)) (then_list m w t a b c i)
      (inside_then bar k m w t a b c zs (from_zero bar m w a b zs (list_follows bar 0 i)))
  item_follows bar k rest (else_list m w t a b c i) =
      let zs = tail_list bar 0 b m w in
      deeper bar k B.Else m w (If t c a) (If t c b) rest (under k B.Else zs) (else_list m w t a b c i)
      (inside_else bar k m w t a b c zs (from_zero bar m w a b zs (list_follows bar 0 i)))
  item_follows bar k rest (while_list m w t a b i) =
      let zs = tail_list bar 0 b m w in
      deeper bar k B.Body m w (While t a) (While t b) rest (under k B.Body zs) (while_list m w t a b i)
      (under_follows k B.Body m w (choices_from bar 0 a) (choices_from bar 0 b) zs (from_zero bar m w a b zs (list_follows bar 0 i)))
  item_follows bar k rest (do_list m w t a b i) =
      let zs = tail_list bar 0 b m w in
      deeper bar k B.Body m w (Do a t) (Do b t) rest (under k B.Body zs) (do_list m w t a b i)
      (under_follows k B.Body m w (choices_from bar 0 a) (choices_from bar 0 b) zs (from_zero bar m w a b zs (list_follows bar 0 i)))
  item_follows bar k rest (for_list m w f t u a b i) =
      let zs = tail_list bar 0 b m w in
      deeper bar k B.Body m w (For f t u a) (For f t u b) rest (under k B.Body zs) (for_list m w f t u a b i)
      (under_follows k B.Body m w (choices_from bar 0 a) (choices_from bar 0 b) zs (from_zero bar m w a b zs (list_follows bar 0 i)))
  item_follows bar k rest (block_list m w a b i) =
      let zs = tail_list bar 0 b m w in
      deeper bar k B.Body m w (Block a) (Block b) rest (under k B.Body zs) (block_list m w a b i)
      (under_follows k B.Body m w (choices_from bar 0 a) (choices_from bar 0 b) zs (from_zero bar m w a b zs (list_follows bar 0 i)))
  item_follows bar k rest (section_list n m w s c d i) =
      let z : 0 + n ≡ n = omega arith in
      let zs = tail_sections bar k 0 d n m w in
      deeper bar k (B.Section n) m w (Switch s c) (Switch s d) rest zs (section_list n m w s c d i)
      (subst (λ j. Follows (choices_of_sections bar k 0 c) (choices_of_sections bar k 0 d) zs (path_from k (into (B.Section j) m w))) z
      (sections_follow bar k 0 i))

  sections_follow : (bar : ℕ → Bool) (i j : ℕ) {n m : ℕ} {w : Way} {c d : Sections} → InSections n m w c d →
      Follows (choices_of_sections bar i j c) (choices_of_sections bar i j d) (tail_sections bar i j d n m w) (path_from i (into (B.Section (j + n)) m w))
  sections_follow bar i j (section_here m w cases default ends a b rest l) =
      let z : j ≡ j + 0 = omega arith in
      let zs = tail_list bar 0 b m w in
      subst (λ n. Follows (choices_of_sections bar i j (Section cases default a ends rest))
      (choices_of_sections bar i j (Section cases default b ends rest)) (under i (B.Section j) zs ++ choices_of_sections bar i (j + 1) rest)
      (path_from i (into (B.Section n) m w))) z
      (first_section bar i j m w a b rest zs (from_zero bar m w a b zs (list_follows bar 0 l)))
  sections_follow bar i j (section_later n m w cases default ends a c d l) =
      let z : j + 1 + n ≡ j + suc n = omega arith in
      let zs = tail_sections bar i (j + 1) d n m w in
      later_section bar i j (j + suc n) m w a c d zs (omega arith)
      (subst (λ v. Follows (choices_of_sections bar i (j + 1) c) (choices_of_sections bar i (j + 1) d) zs (path_from i (into (B.Section v) m w))) z
      (sections_follow bar i (j + 1) l))
