-- Items and sections that are changed where they stand, from the last to the first, until no mention of a slot is left.
use mathlib.Core.Path.{ap₂}
use Rattle.std.proofs.Common.{◌≡◌, ℕ, zero, suc, ◌+◌, ◌<◌, ◌≤◌, Bool, true, false, cond, ◌&&◌, List, [], ◌∷◌, length, take, drop, get_or, slice_set, ◌⊎◌, inl, inr, arith, refl, sym, ap, subst, ◌∙◌}
use Rattle.std.proofs.lemmas.List.{get_or-set_other, length-set, drop_all, drop_more, drop-set}
use Rattle.c_types.specs.Refill.{refilled}
use Rattle.c_tree.specs.declared.tree.Item.{Item}
use Rattle.c_tree.specs.declared.tree.Section as Real
use Rattle.c_tree.specs.Trees.{Tree, Forest, Nil, Then, Sections, NoSection, Section, trees_of, sections_of}
use Rattle.c_tree.specs.Views.{tree_at, before}
use Rattle.c_tree.proofs.TreeLaws.{trees-none, sections-none}
use Rattle.c_tree.proofs.Views.{trees-first, section-first}
use Rattle.tidy_laws.specs.Tails.{is_end}
use Rattle.tidy_laws.specs.Changes.{inner_sections}
use Rattle.tidy_slots.specs.Counts.{list_count, item_count, sections_count}
use Rattle.tidy_slots.proofs.LoopLaws.{refilled_same}
use Rattle.tidy_loops.specs.Exits.{checks_within, each_inner, each_tailed, has_check, checks_told, ways_given}
use Rattle.tidy_loops.specs.Remaining.{exits_within, item_exits}
use Rattle.tidy_loops.specs.Rewritten.{each_rewritten, item_rewritten}
use Rattle.tidy_loops.proofs.ExitCounts.{checks_within_most}
use Rattle.tidy_loops.proofs.Unnamed.{item_either, item_unnamed, item_most, within_most, sections_unnamed}

-- ---- any list

-- what a list shows and how that is changed: what does not name the slot is kept, and holds no exit
pub record Change (A F : Type 0) : Type 0 where
  pub show : List A → F
  pub more : A → F → F
  pub each : F → F
  pub exits : F → ℕ
  pub mentions : F → ℕ
  pub part : A → ℕ
  pub first : (x : A) (xs : List A) → show (x ∷ xs) ≡ more x (show xs)
  pub named : (x : A) (f : F) → mentions (more x f) ≡ part x + mentions f
  pub most : (f : F) → exits f ≤ mentions f
  pub kept : (x : A) (f : F) → part x ≡ 0 → each (more x f) ≡ more x (each f)
  pub passed : (x : A) (f : F) → part x ≡ 0 → exits (more x f) ≡ exits f
  pub none : each (show []) ≡ show []
  pub unnamed : mentions (show []) ≡ 0

-- those before a place are as they were
abbrev pub AsBefore : {A : Type 0} → ℕ → List A → List A → Type 0
AsBefore {A} i old new = (length new ≡ length old) × ((k : ℕ) (d : A) → k < i → get_or new k d ≡ get_or old k d)

-- and those from there on have become what they are to be, after which so many mentions are left
pub record MadeFrom {A F : Type 0} (c : Change A F) (left : ℕ) (old : List A) (i : ℕ) (new : List A) (still : ℕ) : Type 0 where
  pub inside : i ≤ length old
  pub front : AsBefore i old new
  pub made : c.show (drop i new) ≡ c.each (c.show (drop i old))
  pub counted : still + c.exits (c.show (drop i old)) ≡ left

module _ {A F : Type 0} (c : Change A F) where
  parted : (x : A) (xs : List A) → c.mentions (c.show (x ∷ xs)) ≡ c.part x + c.mentions (c.show xs)
  parted x xs = ap c.mentions (c.first x xs) ∙ c.named x (c.show xs)

  split : (i : ℕ) (xs : List A) → c.mentions (c.show (take i xs)) + c.mentions (c.show (drop i xs)) ≡ c.mentions (c.show xs)
  split zero xs = let z = c.unnamed in omega (arith, z)
  split (suc i) [] = let z = c.unnamed in omega (arith, z)
  split (suc i) (x ∷ xs) = let p = parted x (take i xs) in let q = parted x xs in let r = split i xs in omega (arith, p, q, r)

  shown_at : (xs : List A) (i : ℕ) (x : A) → i < length xs → x ≡ get_or xs i x → c.show (drop i xs) ≡ c.more x (c.show (drop (i + 1) xs))
  shown_at xs i x h e = ap c.show (drop_more xs i x h) ∙ c.first (get_or xs i x) (drop (i + 1) xs) ∙
      ap (λ z. c.more z (c.show (drop (i + 1) xs))) (sym e)

  all_changed : (i : ℕ) (old new : List A) → AsBefore i old new → c.mentions (c.show (take i old)) ≡ 0 →
      c.show (drop i new) ≡ c.each (c.show (drop i old)) → c.show new ≡ c.each (c.show old)
  all_changed zero old new f z m = m
  all_changed (suc i) [] [] f z m = m
  all_changed (suc i) [] (y ∷ ys) f z m = absurd (omega (arith, f.0))
  all_changed (suc i) (x ∷ xs) [] f z m = absurd (omega (arith, f.0))
  all_changed (suc i) (x ∷ xs) (y ∷ ys) f z m =
      let n = parted x (take i xs) in
      let p : c.part x ≡ 0 = omega (arith, n, z) in
      let q : c.mentions (c.show (take i xs)) ≡ 0 = omega (arith, n, z) in
      let same : y ≡ x = f.1 0 x (omega arith) in
      let more = all_changed i xs ys (omega (arith, f.0), λ k d h. f.1 (suc k) d (omega (arith, h))) q m in
      c.first y ys ∙ ap₂ c.more same more ∙ sym (c.kept x (c.show xs) p) ∙ sym (ap c.each (c.first x xs))

  all_passed : (i : ℕ) (old : List A) → c.mentions (c.show (take i old)) ≡ 0 → c.exits (c.show old) ≡ c.exits (c.show (drop i old))
  all_passed zero old z = refl
  all_passed (suc i) [] z = refl
  all_passed (suc i) (x ∷ xs) z =
      let n = parted x (take i xs) in
      ap c.exits (c.first x xs) ∙ c.passed x (c.show xs) (omega (arith, n, z)) ∙ all_passed i xs (omega (arith, n, z))

  module _ (left : ℕ) (old : List A) where
    pub none_made : (i : ℕ) → i ≡ length old → MadeFrom c left old i old left
    none_made i e =
        let h = drop_all i old (omega (arith, e)) in
        record {
          inside = omega (arith, e);
          front = (refl, λ k d l. refl);
          made = ap c.show h ∙ sym (ap (λ z. c.each (c.show z)) h ∙ c.none);
          counted =
              let m = ap (λ z. c.exits (c.show z)) h in
              let p = c.most (c.show []) in
              let q = c.unnamed in
              omega (arith, m, p, q);
        }

    module _ (i : ℕ) (new : List A) (still : ℕ) (d : MadeFrom c left old i new still) where
      -- the one before the place
      pub one_left : (j : ℕ) (x : A) → c.mentions (c.show old) ≤ left → j + 1 ≡ i → x ≡ get_or new j x → c.part x ≤ still
      one_left j x h e k =
          let inside = d.inside in
          let counted = d.counted in
          let l : j < i = omega (arith, e) in
          let m : j < length old = omega (arith, e, inside) in
          let n = ap c.mentions (shown_at old j x m (k ∙ d.front.1 j x l)) ∙ c.named x (c.show (drop (j + 1) old)) in
          let p = split j old in
          let q = c.most (c.show (drop i old)) in
          let r = ap (λ z. c.mentions (c.show (drop z old))) e in
          omega (arith, n, p, q, r, h, counted)

      pub one_made : (j : ℕ) (x y : A) (next : ℕ) → j + 1 ≡ i → x ≡ get_or new j x
          → c.more y (c.each (c.show (drop (j + 1) old))) ≡ c.each (c.more x (c.show (drop (j + 1) old)))
          → next + c.exits (c.more x (c.show (drop (j + 1) old))) ≡ still + c.exits (c.show (drop (j + 1) old)) →
          MadeFrom c left old j (slice_set new j y) next
      one_made j x y next e k m n =
          let inside = d.inside in
          let counted = d.counted in
          let long = d.front.0 in
          let l : j < i = omega (arith, e) in
          let p : j < length old = omega (arith, e, inside) in
          let q : j < length new = omega (arith, p, long) in
          let at = shown_at old j x p (k ∙ d.front.1 j x l) in
          record {
            inside = omega (arith, p);
            front = (
              length-set new j y ∙ long,
              λ a b h. get_or-set_other new j a y b (omega (arith, h)) ∙ d.front.1 a b (omega (arith, h, l)),
            );
            made =
                ap c.show (drop-set new j y q) ∙ c.first y (drop (j + 1) new)
                ∙ ap (c.more y) (subst (λ z. c.show (drop z new) ≡ c.each (c.show (drop z old))) (sym e) d.made) ∙ m ∙ sym (ap c.each at);
            counted =
                let r = ap c.exits at in
                let s = ap (λ z. c.exits (c.show (drop z old))) e in
                omega (arith, n, r, s, counted);
          }

      unnamed_front : c.mentions (c.show old) ≤ left → (still ≡ 0) ⊎ (i ≡ 0) → c.mentions (c.show (take i old)) ≡ 0
      unnamed_front h (inl e) =
          let counted = d.counted in
          let p = split i old in
          let q = c.most (c.show (drop i old)) in
          omega (arith, p, q, h, e, counted)
      unnamed_front h (inr e) = ap (λ z. c.mentions (c.show (take z old))) e ∙ c.unnamed

      pub all_made : c.mentions (c.show old) ≤ left → (still ≡ 0) ⊎ (i ≡ 0) → c.show new ≡ c.each (c.show old)
      all_made h e = all_changed i old new d.front (unnamed_front h e) d.made

      pub all_left : c.mentions (c.show old) ≤ left → (still ≡ 0) ⊎ (i ≡ 0) → still + c.exits (c.show old) ≡ left
      all_left h e =
          let counted = d.counted in
          let p = all_passed i old (unnamed_front h e) in
          omega (arith, p, counted)

-- ---- items

pub each_more : (tail : Bool) (g : ℕ) (l x : Tree) (xs : Forest) →
    each_rewritten tail g l (Then x xs) ≡ Then (item_rewritten (tail && is_end g xs) g l x) (each_rewritten tail g l xs)
each_more true g l x xs = ap (λ z. Then z (each_tailed g l xs)) (sym (item_either (is_end g xs) g l x))
each_more false g l x xs = ap (λ z. Then z (each_inner g xs)) (sym (item_either false g l x))

pub exits_more : (tail : Bool) (g : ℕ) (x : Tree) (xs : Forest) →
    exits_within tail g (Then x xs) ≡ item_exits (tail && is_end g xs) g x + exits_within tail g xs
exits_more true g x xs = refl
exits_more false g x xs = refl

pub each_none : (tail : Bool) (g : ℕ) (l : Tree) → each_rewritten tail g l Nil ≡ Nil
each_none true g l = refl
each_none false g l = refl

abbrev pub item_change : Bool → ℕ → Tree → Change Item Forest
item_change tail g l = record {
  show = trees_of;
  more = λ x a. Then (tree_at x) a;
  each = each_rewritten tail g l;
  exits = exits_within tail g;
  mentions = list_count g;
  part = λ x. item_count g (tree_at x);
  first = trees-first;
  named = λ x a. refl;
  most = within_most tail g;
  kept = λ x a z. each_more tail g l (tree_at x) a ∙
      ap (λ y. Then y (each_rewritten tail g l a)) (item_unnamed (tail && is_end g a) g l (tree_at x) z);
  passed = λ x a z.
      let e = exits_more tail g (tree_at x) a in
      let m = item_most (tail && is_end g a) g (tree_at x) in
      omega (arith, e, m, z);
  none = ap (each_rewritten tail g l) trees-none ∙ each_none tail g l ∙ sym trees-none;
  unnamed = ap (list_count g) trees-none;
}

-- one item, of which it is told whether it is at a tail
pub item_made : (tail : Bool) (g : ℕ) (l : Tree) (x y : Item) (a : Forest) (b : Bool) → b ≡ (tail && is_end g a) →
    tree_at y ≡ item_rewritten b g l (tree_at x) → Then (tree_at y) (each_rewritten tail g l a) ≡ each_rewritten tail g l (Then (tree_at x) a)
item_made tail g l x y a b e h = ap (λ z. Then z (each_rewritten tail g l a)) (h ∙ ap (λ z. item_rewritten z g l (tree_at x)) e) ∙
    sym (each_more tail g l (tree_at x) a)

pub item_left : (tail : Bool) (g : ℕ) (x : Item) (a : Forest) (b : Bool) (next still : ℕ) → b ≡ (tail && is_end g a) →
    next + item_exits b g (tree_at x) ≡ still → next + exits_within tail g (Then (tree_at x) a) ≡ still + exits_within tail g a
item_left tail g x a b next still e h =
    let p = exits_more tail g (tree_at x) a in
    let q = ap (λ z. item_exits z g (tree_at x)) e in
    omega (arith, h, p, q)

-- ---- sections

-- a section alone
abbrev pub alone : Real.Section → Sections
alone c = before c NoSection

pub section_made : (g : ℕ) (x y : Real.Section) (d : Sections) → alone y ≡ inner_sections g (alone x) →
    before y (inner_sections g d) ≡ inner_sections g (before x d)
section_made g x y d e = ap behind e
  where
    behind : Sections → Sections
    behind (Section cases default list ends z) = Section cases default list ends (inner_sections g d)
    behind NoSection = NoSection

pub section_left : (g : ℕ) (x : Real.Section) (d : Sections) (next still : ℕ) → next + checks_within g (alone x) ≡ still →
    next + checks_within g (before x d) ≡ still + checks_within g d
section_left g x d next still h = omega (arith, h)

abbrev pub section_change : ℕ → Change Real.Section Sections
section_change g = record {
  show = sections_of;
  more = before;
  each = inner_sections g;
  exits = checks_within g;
  mentions = sections_count g;
  part = λ x. sections_count g (alone x);
  first = section-first;
  named = λ x d. omega arith;
  most = checks_within_most g;
  kept = λ x d z. sym (section_made g x x d (sym (sections_unnamed g (alone x) z)));
  passed = λ x d z. let m = checks_within_most g (alone x) in omega (arith, m, z);
  none = ap (inner_sections g) sections-none ∙ sym sections-none;
  unnamed = ap (sections_count g) sections-none;
}

-- ---- the list that was lent

-- and what is told of it gives way then
pub list_made : (g : ℕ) (each all : Forest → Forest) → ((a : Forest) → ways_given (cond (has_check g a) (checks_told g a) []) (each a) ≡ all a)
    → (old read lent made : List Item) (bs : List Bool) (new : Forest) → read ≡ old → bs ≡ cond (has_check g (trees_of read)) (checks_told g (trees_of read)) []
    → lent ≡ old → length made ≡ length lent → trees_of made ≡ each (trees_of lent) → new ≡ ways_given bs (trees_of (refilled old made)) →
    new ≡ all (trees_of old)
list_made g each all given old read lent made bs new p h q e k n =
    n ∙ ap (λ z. ways_given bs (trees_of z)) (refilled_same old lent made q e) ∙ ap (ways_given bs) (k ∙ ap (λ z. each (trees_of z)) q)
    ∙ ap (λ z. ways_given z (each (trees_of old))) (h ∙ ap (λ z. cond (has_check g (trees_of z)) (checks_told g (trees_of z)) []) p) ∙ given (trees_of old)
