-- Single items of a looser body, and what the labels of exits, of case labels and of ends of sections take for granted.
use Rattle.std.proofs.Common.{ℕ, zero, suc, ◌+◌, ◌-◌, ◌≤◌, Bool, true, false, not, cond, ◌||◌, List, [], ◌∷◌, ◌++◌, length, Option, Some, None, ◌≡◌, refl, sym, ◌∙◌, ap, subst, arith, true≢false}
use Rattle.c_types.specs.declared.kinds.IntKind.{IntKind}
use Rattle.c_tree.specs.ExpressionTrees.{ExpressionTree}
use Rattle.c_tree.specs.Exits.{breaks_in}
use Rattle.c_tree.specs.Trees.{Tree, Forest, Nil, Then, Sections, NoSection, Section, If, While, Do, For, Block, Local, Break, Continue, Mark, Arrival, join}
use Rattle.jump_meaning.specs.Search.{or_else, ToDefault}
use Rattle.flat_laws.specs.Pieces.{Aim, Stays, Becomes, Absent, IsMoved, Names, wanted, wanted_in, wanted_case, wanted_among, case_marks}
use Rattle.flat_laws.specs.Loose.{Setting, AreIn, slot_of, IsLocal, Open, Arrivals, NoArrival, Arrives, IsOtherwise, LooserItem, lo_number, lo_array, lo_break, lo_break_to, lo_continue, lo_continue_to, lo_mark, lo_drop, lo_arrival, Looser, Spread, ls_falls, ls_ends}
use Rattle.c_tree.specs.TextItems.{is_empty}
use Rattle.flat_laws.specs.Parts.{is_some_number, arrivals, arrivals_in, section_labels, switch_labels, has_default, ends_some, Here}
use Rattle.flat_laws.specs.FlatForm.{Plan, names_of, scatter_aim, otherwise_label, end_goto, aim, exit, assigned, mark_if, arrival}
use Rattle.flat_laws.specs.Source.{AreInitialisers}

pub false_true : {A : Type 0} → false ≡ true → A
false_true e = absurd (true≢false (sym e))

pub empty_left : {A : Type 0} (xs ys : List A) → is_empty (xs ++ ys) ≡ true → is_empty xs ≡ true
empty_left [] ys e = refl
empty_left (x ∷ xs) ys e = e

pub empty_right : {A : Type 0} (xs ys : List A) → is_empty (xs ++ ys) ≡ true → is_empty ys ≡ true
empty_right [] ys e = e
empty_right (x ∷ xs) ys e = false_true e

-- a label that isn't there is for no exit
abbrev pub Kept : Aim → ℕ → Type 0
Kept Stays n = Unit {0}
Kept (Becomes l) n = Unit {0}
Kept Absent n = n ≡ 0

pub kept_aim : (j : Bool) (n l : ℕ) → Kept (aim j n l) n
kept_aim false n l = tt
kept_aim true zero l = refl
kept_aim true (suc n) l = tt

pub kept_left : (b : Aim) (m n : ℕ) → Kept b (m + n) → Kept b m
kept_left Stays m n h = tt
kept_left (Becomes l) m n h = tt
kept_left Absent m n h = omega (arith, h)

pub kept_right : (b : Aim) (m n : ℕ) → Kept b (m + n) → Kept b n
kept_right Stays m n h = tt
kept_right (Becomes l) m n h = tt
kept_right Absent m n h = omega (arith, h)

pub aim_moved : (n l : ℕ) → IsMoved (aim true n l)
aim_moved zero l = tt
aim_moved (suc n) l = tt

-- the Arrivals that a list has are allowed
abbrev pub Allowed : Arrivals → List (Option ExpressionTree) → Type 0
Allowed NoArrival es = is_empty es ≡ true
Allowed (Arrives names) es = Unit {0}

pub allowed_left : (r : Arrivals) (xs ys : List (Option ExpressionTree)) → Allowed r (xs ++ ys) → Allowed r xs
allowed_left NoArrival xs ys h = empty_left xs ys h
allowed_left (Arrives names) xs ys h = tt

pub allowed_right : (r : Arrivals) (xs ys : List (Option ExpressionTree)) → Allowed r (xs ++ ys) → Allowed r ys
allowed_right NoArrival xs ys h = empty_right xs ys h
allowed_right (Arrives names) xs ys h = tt

-- ---- single items

pub item_break : {s : Setting} {r : Arrivals} (b c : Aim) → Kept b 1 → LooserItem s Open b c r Break (exit b Break)
item_break Stays c k = lo_break
item_break (Becomes l) c k = lo_break_to l
item_break Absent c k = absurd (omega (arith, k))

pub item_continue : {s : Setting} {r : Arrivals} (b c : Aim) → Kept c 1 → LooserItem s Open b c r Continue (exit c Continue)
item_continue b Stays k = lo_continue
item_continue b (Becomes l) k = lo_continue_to l
item_continue b Absent k = absurd (omega (arith, k))

pub item_arrival : {s : Setting} {b c : Aim} (r : Arrivals) (e : Option ExpressionTree) → Allowed r (e ∷ []) → LooserItem s Open b c r (Arrival e) (arrival r e)
item_arrival NoArrival e h = false_true h
item_arrival (Arrives names) e h = lo_arrival names e

cells_as : (n m : ℕ) → m ≤ n → n ≡ m + (n - m)
cells_as n m h = omega (arith, h)

pub item_local : {s : Setting} {b c : Aim} {r : Arrivals} (x : ℕ) (es : List ExpressionTree) (k : IntKind) (o : Option ℕ) → IsLocal s x →
    (slot_of s x).cells ≡ o → AreInitialisers o es → AreIn s es → LooserItem s Open b c r (Local x (Some es)) (assigned k x o es)
item_local x [] k None l e i j = absurd i
item_local x (e ∷ []) k None l q i j = lo_number k x e l q j.0
item_local x (e ∷ f ∷ es) k None l q i j = absurd i
item_local x es k (Some n) l q i j = lo_array k x es (n - length es) l (q ∙ ap Some (cells_as n (length es) i)) j

-- labels that are named stay
module _ (p : Plan) (s : Setting) (labels : (l : ℕ) → s.labels l ≡ cond (p.live l) (Some (p.source l)) None) where
  pub is_live : (l : ℕ) → p.live l ≡ true → s.labels l ≡ Some (p.source l)
  is_live l e = labels l ∙ ap (λ b. cond b (Some (p.source l)) None) e

  pub is_dead : (l : ℕ) → p.live l ≡ false → s.labels l ≡ None
  is_dead l e = labels l ∙ ap (λ b. cond b (Some (p.source l)) None) e

  pub item_mark : {b c : Aim} {r : Arrivals} (l : ℕ) (y : Bool) → p.live l ≡ y → LooserItem s Open b c r (Mark l) (mark_if y (p.source l))
  item_mark l true e = lo_mark l (p.source l) (is_live l e)
  item_mark l false e = lo_drop l (is_dead l e)

-- ---- the default of a scattered switch

abbrev some_if : Bool → ℕ → Option ℕ
some_if b l = cond b (Some l) None

first_some : (x y : Bool) (l : ℕ) (o p : Option ℕ) → o ≡ some_if x l → p ≡ some_if y l → or_else o p ≡ some_if (x || y) l
first_some true y l o p e f = ap (λ z. or_else z p) e
first_some false y l o p e f = ap (λ z. or_else z p) e ∙ f

pub default_append : (xs ys : List (Option ExpressionTree)) → has_default (xs ++ ys) ≡ (has_default xs || has_default ys)
default_append [] ys = refl
default_append (Some e ∷ xs) ys = default_append xs ys
default_append (None ∷ xs) ys = refl

module _ (names : Names) where
  abbrev l : ℕ
  l = names None

  joined : (xs ys : List (Option ExpressionTree)) (o p : Option ℕ) → o ≡ some_if (has_default xs) l → p ≡ some_if (has_default ys) l →
      or_else o p ≡ some_if (has_default (xs ++ ys)) l
  joined xs ys o p e f = first_some (has_default xs) (has_default ys) l o p e f ∙ ap (λ b. some_if b l) (sym (default_append xs ys))

  mutual
    wanted_default : (a : Forest) → wanted ToDefault names a ≡ some_if (has_default (arrivals a)) l
    wanted_default Nil = refl
    wanted_default (Then x a) = joined (arrivals_in x) (arrivals a) (wanted_in ToDefault names x) (wanted ToDefault names a) (wanted_default_in x)
        (wanted_default a)

    wanted_default_in : (x : Tree) → wanted_in ToDefault names x ≡ some_if (has_default (arrivals_in x)) l
    wanted_default_in (If t a b) = joined (arrivals a) (arrivals b) (wanted ToDefault names a) (wanted ToDefault names b) (wanted_default a) (wanted_default b)
    wanted_default_in (While t a) = wanted_default a
    wanted_default_in (Do a t) = wanted_default a
    wanted_default_in (For f t u a) = wanted_default a
    wanted_default_in (Block a) = wanted_default a
    wanted_default_in (Arrival (Some e)) = refl
    wanted_default_in (Arrival None) = refl
    wanted_default_in _ = refl

  wanted_default_case : (cases : List ExpressionTree) (default : Bool) →
      wanted_case ToDefault names cases default ≡ some_if (has_default (section_labels cases default)) l
  wanted_default_case [] true = refl
  wanted_default_case [] false = refl
  wanted_default_case (e ∷ es) default = wanted_default_case es default

  pub wanted_default_among : (d : Sections) → wanted_among ToDefault names d ≡ some_if (has_default (switch_labels d)) l
  wanted_default_among NoSection = refl
  wanted_default_among (Section cases default a ends d) =
      joined (section_labels cases default) (arrivals a ++ switch_labels d) (wanted_case ToDefault names cases default)
      (or_else (wanted ToDefault names a) (wanted_among ToDefault names d)) (wanted_default_case cases default)
      (joined (arrivals a) (switch_labels d) (wanted ToDefault names a) (wanted_among ToDefault names d) (wanted_default a) (wanted_default_among d))

pub scatter_moved : (y : Bool) (l : ℕ) → IsMoved (cond y (Becomes l) Absent)
scatter_moved true l = tt
scatter_moved false l = tt

otherwise_as : (y u z : Bool) (m n : ℕ) → IsOtherwise (some_if y m) (cond (not y || u || z) (Becomes n) Absent) (cond y m n)
otherwise_as true u z m n = refl
otherwise_as false u z m n = refl

pub otherwise : (p : Plan) (h : Here) (k : IntKind) (d : Sections) → IsOtherwise (wanted_among ToDefault (names_of p h k d) d) (scatter_aim p h d)
    (otherwise_label p h d)
otherwise p h k d =
    subst (λ o. IsOtherwise o (scatter_aim p h d) (otherwise_label p h d)) (sym (wanted_default_among (names_of p h k d) d))
    (otherwise_as (has_default (switch_labels d)) (ends_some d) (is_some_number (breaks_in d)) (p.default_label h.construct) (p.break_label h.construct))

-- where no goto leads behind it, no section ends and no `break` is bound to it
abbrev pub Unended : Aim → Bool → Type 0
Unended Absent y = y ≡ false
Unended b y = Unit {0}

pub unended_left : (b : Aim) (x y : Bool) → Unended b (x || y) → Unended b x
unended_left Stays x y h = tt
unended_left (Becomes l) x y h = tt
unended_left Absent true y h = h
unended_left Absent false y h = refl

pub unended_right : (b : Aim) (x y : Bool) → Unended b (x || y) → Unended b y
unended_right Stays x y h = tt
unended_right (Becomes l) x y h = tt
unended_right Absent true y h = false_true (sym h)
unended_right Absent false y h = h

pub unended_scatter : (x y z : Bool) (l : ℕ) → Unended (cond (x || y || z) (Becomes l) Absent) y
unended_scatter true y z l = tt
unended_scatter false true z l = tt
unended_scatter false false true l = tt
unended_scatter false false false l = refl

pub kept_scatter : (x y : Bool) (n l : ℕ) → Kept (cond (x || y || is_some_number n) (Becomes l) Absent) n
kept_scatter true y n l = tt
kept_scatter false true n l = tt
kept_scatter false false zero l = refl
kept_scatter false false (suc n) l = tt

pub spread_as : {s : Setting} {c : Aim} {names : Names} (ends : Bool) (b : Aim) (cases : List ExpressionTree) (default : Bool) {xs xs' ys : Forest}
    {d : Sections} → IsMoved b → Unended b ends → Looser s Open b c (Arrives names) xs xs' → Spread s Open b c names d ys
    → Spread s Open b c names (Section cases default xs ends d) (join (case_marks names cases default) (join xs' (join (end_goto ends b) ys)))
spread_as false b cases default m u fa fs = ls_falls cases default fa fs
spread_as true Stays cases default m u fa fs = absurd m
spread_as true (Becomes l) cases default m u fa fs = ls_ends l cases default fa fs
spread_as true Absent cases default m u fa fs = false_true (sym u)
