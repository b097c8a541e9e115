-- A function changed with the old numbers, which then gets the new ones.
use Rattle.std.proofs.Common.{ℕ, zero, suc, ◌+◌, ◌<◌, ◌≤◌, arith, Bool, true, false, List, [], ◌∷◌, length, replicate, slice_set, Option, Some, None, option_map, ◌≡◌, refl, sym, ap, subst, ◌∙◌}
use Rattle.c_tree.specs.declared.tree.Item.{Item}
use Rattle.c_tree.specs.declared.tree.Function.{Function}
use Rattle.c_tree.specs.Trees.{trees_of}
use Rattle.jump_meaning.specs.Code.{FunctionTree, function_tree}
use Rattle.tidy_laws.specs.Changes.{changes_of, changed}
use Rattle.tidy_laws.specs.Gone.{left}
use Rattle.tidy_loops.specs.Slots.{Tells}
use Rattle.break_recovery.specs.Underway.{TreeChangedTimes, Underway}
use Rattle.break_recovery.proofs.RealTrees.{real_body}
use Rattle.break_recovery.proofs.Underway.{starts, goes_on, settles, numbered}
use Rattle.break_recovery.specs.Ends.{with_body, IsBodyChanged, WentOn, WentOnBy, AreMade, IsNumbered, FunctionChangedTimes, IsFunctionTidied}
use Rattle.break_recovery.proofs.Undeclared.{no_body}

pub set_past : {A : Type 0} (xs : List A) (i : ℕ) (x : A) → length xs ≤ i → xs ≡ slice_set xs i x
set_past [] i x h = refl
set_past (y ∷ ys) zero x h = absurd (omega (arith, h))
set_past (y ∷ ys) (suc i) x h = ap (λ z. y ∷ z) (set_past ys i x (omega (arith, h)))

-- ---- one change

pub went : (gone gone_then : List Bool) (counts counts_then : List ℕ) (f : Function) (g : ℕ) (b : Option (List Item)) →
    gone_then ≡ slice_set gone g true → counts_then ≡ slice_set counts g 0
    → (Tells counts (function_tree f) → IsBodyChanged (function_tree f) (Some g) (option_map trees_of b)) →
    WentOn true gone counts f gone_then counts_then (record f { body = b })
went gone gone_then counts counts_then f g b p q made = (refl, λ n start u. at n start u (made u.told))
  where
    at : (n : ℕ) (start : FunctionTree) → Underway n start gone counts (function_tree f) → IsBodyChanged (function_tree f) (Some g) (option_map trees_of b)
        → Underway (suc n) start gone_then counts_then (function_tree (record f { body = b })) ×
        (suc (length (left gone_then f.slots)) ≡ length (left gone f.slots))
    at n start u (c, later, e, k) =
        let w = goes_on n start gone counts (function_tree f) (g, c) later e u in (
          subst (λ x. Underway (suc n) start x counts_then (record (function_tree f) { body = option_map trees_of b })) (sym p)
              (subst (λ x. Underway (suc n) start (slice_set gone g true) x (record (function_tree f) { body = option_map trees_of b })) (sym q)
              (subst (λ x. Underway (suc n) start (slice_set gone g true) (slice_set counts g 0) (record (function_tree f) { body = x })) (sym k) w.0)),
          ap (λ x. suc (length (left x f.slots))) p ∙ w.1,
        )

-- ---- one after another

pub record Going (n : ℕ) (f : Function) (gone : List Bool) (counts : List ℕ) (h : Function) : Type 0 where
  pub kept : h ≡ record f { body = h.body }
  pub same : n ≡ 0 → h ≡ f
  pub underway : Underway n (function_tree f) gone counts (function_tree h)

pub going : (f : Function) (gone : List Bool) (counts : List ℕ) → gone ≡ replicate (length f.slots) false → Tells counts (function_tree f) →
    Going 0 f gone counts f
going f gone counts e t = record { kept = refl; same = λ e. refl; underway = starts (function_tree f) gone counts e t }

pub goes : (n m : ℕ) (f : Function) (gone gone_then : List Bool) (counts counts_then : List ℕ) (h k : Function) → m ≡ suc n →
    WentOn true gone counts h gone_then counts_then k → Going n f gone counts h → Going m f gone_then counts_then k
goes n m f gone gone_then counts counts_then h k e w g = record {
  kept = w.0 ∙ ap {A = Function} (λ (z : Function). record z { body = k.body }) g.kept;
  same = λ i. absurd (omega (arith, e, i));
  underway = subst (λ j. Underway j (function_tree f) gone_then counts_then (function_tree k)) (sym e) (w.1 n (function_tree f) g.underway).0;
}

pub fewer_left : (n : ℕ) (f : Function) (gone gone_then : List Bool) (counts counts_then : List ℕ) (h k : Function) →
    WentOn true gone counts h gone_then counts_then k → Going n f gone counts h → length (left gone_then k.slots) < length (left gone h.slots)
fewer_left n f gone gone_then counts counts_then h k w g = let e = (w.1 n (function_tree f) g.underway).1 in omega (arith, e)

-- one, and so many behind it
pub goes_by : (n m o : ℕ) (f : Function) (gone gone_mid gone_then : List Bool) (counts counts_mid counts_then : List ℕ) (h k z : Function) →
    o ≡ suc (n + m) → WentOn true gone counts h gone_mid counts_mid k → WentOnBy m gone_mid counts_mid k gone_then counts_then z →
    Going n f gone counts h → Going o f gone_then counts_then z
goes_by n m o f gone gone_mid gone_then counts counts_mid counts_then h k z e w r g =
    let a = goes n (suc n) f gone gone_mid counts counts_mid h k refl w g in
    let i : suc n + m ≡ o = omega (arith, e) in
    record {
      kept = r.0 ∙ ap {A = Function} (λ (y : Function). record y { body = z.body }) a.kept;
      same = λ j. absurd (omega (arith, e, j));
      underway = subst (λ j. Underway j (function_tree f) gone_then counts_then (function_tree z)) i (r.1 (suc n) (function_tree f) a.underway).0;
    }

pub fewer_by : (n m : ℕ) (f : Function) (gone gone_mid gone_then : List Bool) (counts counts_mid counts_then : List ℕ) (h k z : Function) →
    WentOn true gone counts h gone_mid counts_mid k → WentOnBy m gone_mid counts_mid k gone_then counts_then z → Going n f gone counts h →
    length (left gone_then z.slots) < length (left gone h.slots)
fewer_by n m f gone gone_mid gone_then counts counts_mid counts_then h k z w r g =
    let a = goes n (suc n) f gone gone_mid counts counts_mid h k refl w g in
    let i = (r.1 (suc n) (function_tree f) a.underway).1 in
    let j = fewer_left n f gone gone_mid counts counts_mid h k w g in
    omega (arith, i, j)

pub all_made : (n : ℕ) (f : Function) (gone gone_then : List Bool) (counts counts_then : List ℕ) (h k : Function) →
    WentOn false gone counts h gone_then counts_then k → Going n f gone counts h → AreMade n f gone_then k
all_made n f gone gone_then counts counts_then h k w g =
    subst (AreMade n f gone_then) (sym w.1) (subst (λ z. AreMade n f z h) (sym w.2) (record {
      kept = g.kept;
      same = g.same;
      counts = counts;
      underway = g.underway;
      settled = w.0 g.underway.told;
    }))

-- nothing is made where there is no body
pub none_made : (f : Function) (gone : List Bool) (counts : List ℕ) (b : Option (List Item)) → f.body ≡ None → b ≡ None →
    gone ≡ replicate (length f.slots) false → Tells counts (function_tree f)
    → AreMade 0 f gone (record f { body = b })
none_made f gone counts b e h k t =
    subst (λ z. AreMade 0 f gone (record f { body = z })) (e ∙ sym h) (record {
      kept = refl;
      same = λ e. refl;
      counts = counts;
      underway = starts (function_tree f) gone counts k t;
      settled = no_body (function_tree f) (ap (option_map trees_of) e);
    })

-- the body was taken out of the function, and put back
pub made_in : (n : ℕ) (f : Function) (gone : List Bool) (a b c d : List Item) → f.body ≡ Some a → b ≡ a → d ≡ c →
    AreMade n (with_body f b) gone (with_body f c) → AreMade n f gone (with_body f d)
made_in n f gone a b c d e h k m =
    subst (λ z. AreMade n f gone (with_body f z)) (sym k)
    (subst (λ (z : Function). AreMade n z gone (with_body f c)) (ap (with_body f) h ∙ sym (ap (λ z. record f { body = z }) e)) m)

-- ---- with the new numbers

pub as_many : (n : ℕ) (f : Function) (gone : List Bool) (h : Function) → AreMade n f gone h → length gone ≡ length h.slots
as_many n f gone h m = m.underway.stands.as_long

real_times : (n : ℕ) (f h : Function) (k : FunctionTree) → TreeChangedTimes (suc n) (function_tree f) k → function_tree h ≡ k →
    h ≡ record f { slots = h.slots; body = h.body } → FunctionChangedTimes (suc n) f h
real_times zero f h k (c, later, e, i) t r = (h, record { kept = r; first = c; later = later; changes = e; tree = t ∙ i }, refl)
real_times (suc n) f h k (c, later, e, rest) t r =
    let m : FunctionTree = changed (function_tree f) c in
    let b = real_body m.body in
    let z : Function = record f { slots = m.slots; body = b.0 } in
    let y : function_tree z ≡ m = ap (λ w. record m { body = w }) b.1 in (
      z,
      record { kept = refl; first = c; later = later; changes = e; tree = y },
      real_times n z h k (subst (λ w. TreeChangedTimes (suc n) w k) (sym y) rest) t r,
    )

pub function_tidied : (n : ℕ) (f : Function) (gone : List Bool) (h k : Function) → (n ≡ 0 → ⊥) → AreMade n f gone h → IsNumbered gone h k →
    IsFunctionTidied n f k
function_tidied zero f gone h k p m i = absurd (p refl)
function_tidied (suc n) f gone h k p m i =
    let u = m.underway in
    let t : function_tree k ≡ u.now = numbered gone (function_tree h) u.now (function_tree k) i.number i.told u.stands
    (ap (λ (z : Function). z.result) i.kept) (ap (λ (z : Function). z.params) i.kept) i.slots i.body in
    record {
      changed = real_times n f k u.now u.changed t (i.kept ∙ ap {A = Function} (λ (z : Function). record z { slots = k.slots; body = k.body }) m.kept);
      settled = ap changes_of t ∙ settles (suc n) (function_tree f) gone m.counts (function_tree h) m.settled u;
    }

pub none_tidied : (n : ℕ) (f : Function) (gone : List Bool) (h : Function) → n ≡ 0 → AreMade n f gone h → IsFunctionTidied 0 f h
none_tidied n f gone h e m = record { changed = m.same e; settled = m.settled }
