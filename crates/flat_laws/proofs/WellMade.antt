-- The laws of flat bodies that are made well.
use Rattle.std.proofs.Common.{ℕ, zero, suc, ℤ, pos, int_le, neg_ℤ, ◌+◌, ◌≤◌, ◌<◌, Bool, true, false, cond, List, length, Some, ◌≡◌, refl, sym, ◌∙◌, ap, subst, arith, eq-eqb, true≢false}
use Rattle.c_types.specs.Numbers.{least}
use Rattle.c_tree.specs.Everywhere.{total, total_of, total_in, Everywhere, EverywhereOf, EverywhereIn}
use Rattle.c_tree.specs.Slots.{ExpressionSlots, ItemSlots}
use Rattle.c_tree.specs.Conversions.{convert}
use Rattle.c_tree.specs.Numerals.{constant, number, least_constant}
use Rattle.flat_laws.proofs.Counts.{one_if}
use Rattle.flat_laws.proofs.NoLabels.{without_labels}
use Rattle.flat_laws.proofs.Numbered.{labels_below}
use Rattle.flat_laws.proofs.Sourced.{once, named}
use Rattle.flat_laws.proofs.Unscattered.{unscattered_cases, unscattered_defaults}
use Rattle.flat_laws.proofs.SlotsKept.{slots_in, item_more}
use Rattle.c_types.specs.declared.kinds.IntKind.{IntKind}
use Rattle.c_tree.specs.declared.tree.Function.{Function}
use Rattle.c_tree.specs.declared.tree.Slot.{Slot}
use Rattle.c_tree.specs.declared.tree.UnaryOp.TheVariants.{Minus}
use Rattle.c_tree.specs.ExpressionTrees.{ExpressionTree, Typed, Unary}
use Rattle.c_tree.specs.InRange.{body_of, IsInRange}
use Rattle.c_tree.specs.Trees.{Tree, Forest, Nil, Then, Sections, NoSection, Section, If, While, Do, For, Switch, Block, Goto, Arm, Leap, Land}
use Rattle.c_tree.specs.WellMade.{IsWellMade}
use Rattle.c_tree.proofs.WellMoved.{everywhere_map}
use Rattle.jump_meaning.specs.Steady.{IsUnarmed, IsMadeWell}
use Rattle.flat_laws.specs.Pieces.{Stays}
use Rattle.flat_laws.specs.Placed.{places}
use Rattle.flat_laws.specs.Loose.{NoArrival}
use Rattle.flat_laws.specs.FlatForm.{flat, marks, coded, numbered, first_here, flat_body}
use Rattle.flat_laws.specs.Parts.{is_some_number, is_named, gotos_to, variables_of}
use Rattle.flat_laws.proofs.Once.{flat_once}
use Rattle.flat_laws.specs.FlatMade.{IsFlatItem, IsFlatMade, IsPlainItem}
use Rattle.flat_laws.proofs.LiveGotos.{IsGoodItem}
use Rattle.flat_laws.specs.FlatWellMadeLaws.{IsGoodSource, IsFlatInRange, label_count, MadeLaws}
use Rattle.flat_laws.proofs.ExitsLeft.{fewer}
use Rattle.flat_laws.proofs.Converting.{convert_made, unjumping_same}
use Rattle.flat_laws.proofs.Made.{flat_made}
use Rattle.flat_laws.proofs.Stand.{stands}

pub some_number : (n : ℕ) → 0 < n → is_some_number n ≡ true
some_number zero h = absurd (omega (arith, h))
some_number (suc n) h = refl

-- the labels of gotos are live
module _ (live : ℕ → Bool) where
  abbrev Lives : (ℕ → ℕ) → Type 0
  Lives n = (l : ℕ) → 0 < n l → live l ≡ true

  mutual
    good_items : (xs : Forest) → Lives (λ l. total (gotos_to l) xs) → Everywhere IsPlainItem xs → Everywhere (IsGoodItem live) xs
    good_items Nil f h = tt
    good_items (Then x xs) f h = (good_item x (λ l n. f l (omega (arith, n))) h.0, good_items xs (λ l n. f l (omega (arith, n))) h.1)

    good_item : (x : Tree) → Lives (λ l. total_of (gotos_to l) x) → EverywhereOf IsPlainItem x → EverywhereOf (IsGoodItem live) x
    good_item (If t a b) f h = (h.0, good_items a (λ l n. f l (omega (arith, n))) h.1, good_items b (λ l n. f l (omega (arith, n))) h.2)
    good_item (While t a) f h = (h.0, good_items a (λ l n. f l (omega (arith, n))) h.1)
    good_item (Do a t) f h = (h.0, good_items a (λ l n. f l (omega (arith, n))) h.1)
    good_item (For first t u a) f h = (h.0, good_items first (λ l n. f l (omega (arith, n))) h.1, good_items a (λ l n. f l (omega (arith, n))) h.2)
    good_item (Switch s d) f h = (h.0, good_among d (λ l n. f l (omega (arith, n))) h.1)
    good_item (Block a) f h = (h.0, good_items a (λ l n. f l (omega (arith, n))) h.1)
    good_item (Goto m) f h = f m (let e = ap one_if (eq-eqb m m refl) in omega (arith, e))
    good_item x f h = h

    good_among : (d : Sections) → Lives (λ l. total_in (gotos_to l) d) → EverywhereIn IsPlainItem d → EverywhereIn (IsGoodItem live) d
    good_among NoSection f h = tt
    good_among (Section cases default a ends d) f h = (good_items a (λ l n. f l (omega (arith, n))) h.0, good_among d (λ l n. f l (omega (arith, n))) h.1)

pub of_bodies : (number : IntKind → ℤ → ExpressionTree) (slots : List Slot) (n : ℕ) (body : Forest) → IsGoodSource n body →
    IsFlatMade (flat_body number slots n body)
of_bodies number slots n body s =
    let q = coded number slots n body in
    let h = first_here (length slots) in
    let p = numbered (marks (flat q h Stays Stays NoArrival body)) q in
    let F = flat_body number slots n body in
    let single = flat_once number slots n body s.own in
    let g = good_items (is_named body) body (λ l m. some_number (total (gotos_to l) body) m) s.items in
    record {
      items = flat_made (λ l. places l F ≡ 1) p
          (λ l e. let i = stands l p e body h Stays Stays NoArrival g in let j = s.stand l e in let o = single (p.source l) in omega (arith, i, j, o))
          body h Stays Stays NoArrival g s.cases tt tt (λ l m. let o = single l in omega (arith, m, o));
      bound = (let f = fewer p body h Stays Stays NoArrival in let i = f.0 in let j = f.1 in let b = s.bound in omega (arith, i, j, b));
    }

pub of_conversions : (number : IntKind → ℤ → ExpressionTree) (slots : List Slot) (n : ℕ) (body : Forest) → IsGoodSource n body →
    IsWellMade (convert (flat_body number slots n body))
of_conversions number slots n body s = convert_made (flat_body number slots n body) (of_bodies number slots n body s)

-- a number names no slot
constant_in : (P : ℕ → Type 0) (k : IntKind) (n : ℤ) → ExpressionSlots P (constant k n)
constant_in P k n = at (int_le (pos 0) n) (int_le n (least k))
  where
    at : (y z : Bool) → ExpressionSlots P (cond y (number k n) (cond z (least_constant k) (Typed (Some k) (Unary Minus (number k (neg_ℤ n))))))
    at true z = tt
    at false true = (tt, tt)
    at false false = tt

pub ranges : (slots : List Slot) (n : ℕ) (body : Forest) → IsGoodSource n body → Everywhere (ItemSlots (λ x. x < length slots)) body
    → IsFlatInRange (length slots + total variables_of body) (label_count slots n body) (flat_body constant slots n body)
ranges slots n body s i =
    let q = coded constant slots n body in
    let h = first_here (length slots) in
    let p = numbered (marks (flat q h Stays Stays NoArrival body)) q in
    let N = length slots + total variables_of body in
    record {
      slots = slots_in N p (constant_in (λ x. x < N)) body h Stays Stays NoArrival
          (everywhere_map (ItemSlots (λ x. x < length slots)) (ItemSlots (λ x. x < N))
          (λ x g. item_more (λ x. x < length slots) (λ x. x < N) (λ y j. omega (arith, j)) x g) body i) (omega arith);
      labels = labels_below constant slots n body (of_bodies constant slots n body s);
    }

in_range : (f : Function) → f.flat ≡ true → f.params ≤ length f.slots → IsFlatInRange (length f.slots) (length f.labels) (body_of f) → IsInRange f
in_range f e g r = record { parameters = g; slots = r.slots; labels = r.labels; unguarded = λ z. absurd (true≢false (sym e ∙ z)) }

unarmed : (P : ℕ → Type 0) (x : Tree) → IsFlatItem P x → IsUnarmed x
unarmed P (Arm l e) h = h
unarmed P (Leap l) h = h
unarmed P (Land l) h = h
unarmed P x h = tt

of_functions : (f : Function) → IsFlatMade (body_of f) → IsMadeWell f
of_functions f h =
    let P = λ (l : ℕ). places l (body_of f) ≡ 1 in
    record {
      converted = λ c. subst IsWellMade (unjumping_same (body_of f) c.unjumping) (convert_made (body_of f) h);
      other = λ n. everywhere_map (IsFlatItem P) IsUnarmed (unarmed P) (body_of f) h.items;
    }

pub made_laws : MadeLaws
made_laws = record {
  once = once;
  named = named;
  unscattered = λ d e. (unscattered_cases d e, unscattered_defaults d e);
  of_bodies = of_bodies;
  of_conversions = of_conversions;
  ranges = ranges;
  converted = convert_made;
  of_functions = of_functions;
  in_range = in_range;
  unlabelled = without_labels;
}
