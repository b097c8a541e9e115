-- Where the declarations stand first, changes in a row in one item of the outermost list are changes of the whole body, and their
-- declarations can go at the end.
use mathlib.Core.Path.{ap₂}
use Rattle.std.proofs.Common.{ℕ, zero, suc, ◌+◌, ◌-◌, ◌<◌, ◌≤◌, ◌⊎◌, inl, inr, arith, Bool, true, false, cond, ◌||◌, List, [], ◌∷◌, length, drop, get_or, slice_set, Some, None, ◌≡◌, refl, sym, ap, subst, ◌∙◌}
use Rattle.std.specs.Prelude.{filter}
use Rattle.std.proofs.lemmas.Bool.{or_parts}
use Rattle.c_tree.specs.declared.tree.Item.{Item}
use Rattle.c_tree.specs.Views.{tree_at}
use Rattle.c_tree.proofs.Views.{trees-at, trees-end}
use Rattle.c_tree.specs.Trees.{Tree, Forest, Nil, Then, If, While, Do, For, Switch, Block, Local, trees_of, join}
use Rattle.jump_meaning.specs.Code.{FunctionTree}
use Rattle.tidy_laws.specs.Changes.{declares, is_declaration, undeclared, changed_items, changed_lists}
use Rattle.tidy_laws.specs.Gone.{left}
use Rattle.tidy_loops.specs.Fits.{fits, item_fits}
use Rattle.tidy_loops.specs.Slots.{Tells}
use Rattle.break_recovery.specs.Next.{first, next_list, next_item, next_at}
use Rattle.break_recovery.specs.Places.{behind, replaced, AreQuiet, IsFoundAt}
use Rattle.break_recovery.specs.Steady.{IsAlike}
use Rattle.break_recovery.specs.Underway.{Underway}
use Rattle.break_recovery.specs.InARow.{AreNext, without}
use Rattle.break_recovery.specs.Fronts.{holds_none, DeclaresNone, DeclaresFirst, all_undeclared, all_marked}
use Rattle.break_recovery.proofs.NothingBefore.{found_next, none_some}
use Rattle.break_recovery.proofs.BodyLaws.{Each, KeepsDeclared, KeepsKind, lists_keep, items_keep}
use Rattle.break_recovery.proofs.Outermost.{fewer_counted, none_counted}
use Rattle.break_recovery.proofs.Underway.{goes_on}
use Rattle.break_recovery.proofs.Undeclared.{body_changed}
use Rattle.break_recovery.proofs.RowsWithin.{long, Held, with_next, held_still}

-- ---- what holds no list allows no change

pub plain_none : (f : FunctionTree) (n : ℕ) (x : Tree) (xs : Forest) → holds_none x ≡ true → next_at f n (Then x xs) ≡ None
plain_none f n (If t a b) xs e = cc
plain_none f n (While t a) xs e = cc
plain_none f n (Do a t) xs e = cc
plain_none f n (For a t u b) xs e = cc
plain_none f n (Switch s c) xs e = cc
plain_none f n (Block a) xs e = cc
plain_none f n x xs e = refl

-- ---- declarations

true_false : {P : Type 0} (b : Bool) → b ≡ true → b ≡ false → P
true_false true e k = cc
true_false false e k = cc

declares_join : (g : ℕ) (a b : Forest) → declares g (join a b) ≡ (declares g a || declares g b)
declares_join g Nil b = refl
declares_join g (Then x xs) b = ap (λ z. is_declaration g x || z) (declares_join g xs b) ∙ by (is_declaration g x)
  where
    by : (o : Bool) → (o || (declares g xs || declares g b)) ≡ ((o || declares g xs) || declares g b)
    by true = refl
    by false = refl

none_joined : (a b : Forest) → DeclaresNone (join a b) → DeclaresNone a × DeclaresNone b
none_joined a b n = (
  λ g. (or_parts (declares g a) (declares g b) (sym (declares_join g a b) ∙ n g)).0,
  λ g. (or_parts (declares g a) (declares g b) (sym (declares_join g a b) ∙ n g)).1,
)

join_none : (a b : Forest) → DeclaresNone a → DeclaresNone b → DeclaresNone (join a b)
join_none a b n m g = declares_join g a b ∙ ap₂ (λ x y. x || y) (n g) (m g)

undeclared_none : (g : ℕ) (a : Forest) → declares g a ≡ false → undeclared g a ≡ a
undeclared_none g Nil e = refl
undeclared_none g (Then x xs) e =
    let o = or_parts (is_declaration g x) (declares g xs) e in
    ap (λ b. cond b xs (Then x (undeclared g xs))) o.0 ∙ ap (Then x) (undeclared_none g xs o.1)

pub undeclared_join : (g : ℕ) (p r : Forest) → declares g r ≡ false → undeclared g (join p r) ≡ join (undeclared g p) r
undeclared_join g Nil r e = undeclared_none g r e
undeclared_join g (Then x xs) r e = by (is_declaration g x) (undeclared_join g xs r e)
  where
    by : (b : Bool) → undeclared g (join xs r) ≡ join (undeclared g xs) r →
        cond b (join xs r) (Then x (undeclared g (join xs r))) ≡ join (cond b xs (Then x (undeclared g xs))) r
    by true i = refl
    by false i = ap (Then x) i

none_first : (a : Forest) → DeclaresNone a → DeclaresFirst a
none_first Nil n = tt
none_first (Then x xs) n = inr n

first_undeclared : (g : ℕ) (a : Forest) → DeclaresFirst a → DeclaresFirst (undeclared g a)
first_undeclared g Nil d = tt
first_undeclared g (Then x xs) (inr n) = subst DeclaresFirst (sym (undeclared_none g (Then x xs) (n g))) (inr n)
first_undeclared g (Then x xs) (inl (e, d)) = by (is_declaration g x) (first_undeclared g xs d)
  where
    by : (b : Bool) → DeclaresFirst (undeclared g xs) → DeclaresFirst (cond b xs (Then x (undeclared g xs)))
    by true i = d
    by false i = inl (e, i)

pub first_joined : (p r : Forest) → DeclaresFirst p → DeclaresNone r → DeclaresFirst (join p r)
first_joined Nil r d n = none_first r n
first_joined (Then x xs) r (inl (e, d)) n = inl (e, first_joined xs r d n)
first_joined (Then x xs) r (inr m) n = inr (join_none (Then x xs) r m n)

-- what stands before and behind an item that holds lists
pub first_before : (p r : Forest) (x : Tree) → holds_none x ≡ false → DeclaresFirst (join p (Then x r)) → DeclaresFirst p × DeclaresNone (Then x r)
first_before Nil r x e (inl (k, d)) = true_false (holds_none x) k e
first_before Nil r x e (inr n) = (tt, n)
first_before (Then y ys) r x e (inl (k, d)) = let i = first_before ys r x e d in (inl (k, i.0), i.1)
first_before (Then y ys) r x e (inr n) = let i = none_joined (Then y ys) (Then x r) n in (inr i.0, i.1)

-- ---- a change keeps declarations

first_each : {A : Type 0} (P : A → Type 0) (q : A → Bool) (cs : List A) (c : A) → Each P cs → first (filter q cs) ≡ Some c → P c
first_each P q [] c h e = none_some c e
first_each P q (d ∷ ds) c h e = by (q d) refl (first_each P q ds c h.1)
  where
    by : (b : Bool) → q d ≡ b → (first (filter q ds) ≡ Some c → P c) → P c
    by true i more =
        let k : Some d ≡ Some c = sym (ap (λ b. first (cond b (d ∷ filter q ds) (filter q ds))) i) ∙ e in
        let j : d ≡ c = cc in
        subst P j h.0
    by false i more = more (sym (ap (λ b. first (cond b (d ∷ filter q ds) (filter q ds))) i) ∙ e)

kind_kept : (f : FunctionTree) (n : ℕ) (x : Tree) (g : ℕ) (y : Tree) → next_item f n x ≡ Some (g, y) → (h : ℕ) → is_declaration h y ≡ is_declaration h x
kind_kept f n x g y e =
    let k = length f.slots - f.params in
    first_each (KeepsKind x) (item_fits f x) (changed_items f.params k n x) (g, y) (items_keep f.params k n x) e

declared_kept : (f : FunctionTree) (n : ℕ) (a : Forest) (g : ℕ) (b : Forest) → next_list f n a ≡ Some (g, b) → (h : ℕ) → declares h b ≡ declares h a
declared_kept f n a g b e =
    let k = length f.slots - f.params in
    first_each (KeepsDeclared a) (fits f a) (changed_lists f.params k n a) (g, b) (lists_keep f.params k n a) e

none_kept : (f : FunctionTree) (n k : ℕ) (a : Forest) (g : ℕ) (c : Forest) → AreQuiet f (suc n) k a → next_at f (suc n) (behind k a) ≡ Some (g, c) →
    DeclaresNone a → DeclaresNone (replaced k c a)
none_kept f n k a g c q e d h = declared_kept f n a g (replaced k c a) (found_next f n k a g c q e) h ∙ d h

pub first_kept : (f : FunctionTree) (n k : ℕ) (a : Forest) (g : ℕ) (c : Forest) → AreQuiet f (suc n) k a → next_at f (suc n) (behind k a) ≡ Some (g, c) →
    DeclaresFirst a → DeclaresFirst (replaced k c a)
first_kept f n zero Nil g c q e d = none_some (g, c) e
first_kept f n (suc k) Nil g c q e d = none_some (g, c) e
first_kept f n zero (Then x xs) g c q e (inl (i, d)) = none_some (g, c) (sym (plain_none f (suc n) x xs i) ∙ e)
first_kept f n zero (Then x xs) g c q e (inr d) = none_first c (none_kept f n zero (Then x xs) g c q e d)
first_kept f n (suc k) (Then x xs) g c q e (inl (i, d)) = inl (i, first_kept f n k xs g c (λ j l. q (suc j) (omega (arith, l))) e d)
first_kept f n (suc k) (Then x xs) g c q e (inr d) = inr (none_kept f n (suc k) (Then x xs) g c q e d)

pub first_found : (f : FunctionTree) (n g k : ℕ) (a b d : Forest) → IsFoundAt f (suc n) (Some (g, k)) a b → d ≡ undeclared g b →
    DeclaresFirst a → DeclaresFirst d
first_found f n g k a b d (q, c, e, i) r o =
    subst DeclaresFirst (sym (r ∙ ap (undeclared g) i)) (first_undeclared g (replaced k c a) (first_kept f n k a g c q e o))

-- ---- none in front is asked again

quiet_front : (h : FunctionTree) (n g : ℕ) (p r : Forest) → DeclaresFirst p → AreQuiet h n (long p) (join p r) →
    AreQuiet h n (long (undeclared g p)) (join (undeclared g p) r)
quiet_front h n g Nil r d q = q
quiet_front h n g (Then x xs) r (inr m) q = subst (λ p. AreQuiet h n (long p) (join p r)) (sym (undeclared_none g (Then x xs) (m g))) q
quiet_front h n g (Then x xs) r (inl (e, d)) q = by (is_declaration g x) (quiet_front h n g xs r d (λ j i. q (suc j) (omega (arith, i))))
  where
    by : (b : Bool) → AreQuiet h n (long (undeclared g xs)) (join (undeclared g xs) r) →
        AreQuiet h n (long (cond b xs (Then x (undeclared g xs)))) (join (cond b xs (Then x (undeclared g xs))) r)
    by true k j i = q (suc j) (omega (arith, i))
    by false k zero i = plain_none h n x (join (undeclared g xs) r) e
    by false k (suc j) i = k j (omega (arith, i))

-- ---- the changes in a row, in the whole body

-- what is known of the outermost list p, x, r at the end
pub record IsDone (gs : List ℕ) (start : FunctionTree) (n : ℕ) (gone : List Bool) (counts : List ℕ) (f : FunctionTree) (p r : Forest) (y : Tree) : Type 0 where
  pub underway : Underway (n + length gs) start (all_marked gone gs) (without counts gs) (record f { body = Some (join (all_undeclared gs p) (Then y r)) })
  pub fewer : length gs + length (left (all_marked gone gs) f.slots) ≡ length (left gone f.slots)
  pub front : DeclaresFirst (all_undeclared gs p)
  pub none : DeclaresNone (Then y r)
  pub held : (h : FunctionTree) → Tells (without counts gs) h → Held 1 (all_undeclared gs p) r h y

pub rest_made : (gs : List ℕ) (n : ℕ) (start : FunctionTree) (gone : List Bool) (counts : List ℕ) (f : FunctionTree) (p r : Forest) (x y : Tree) →
    f.body ≡ Some (join p (Then x r)) → Underway n start gone counts f → DeclaresFirst p → DeclaresNone (Then x r) →
    ((h : FunctionTree) → Tells counts h → Held 1 p r h x) → AreNext (λ f. next_item f 2) IsAlike counts gs x y → IsDone gs start n gone counts f p r y
rest_made [] n start gone counts f p r x y e u d m held i = record {
  underway =
      let z : n + 0 ≡ n = omega arith in
      subst (λ k. Underway k start gone counts (record f { body = Some (join p (Then y r)) })) (sym z)
      (subst (λ b. Underway n start gone counts (record f { body = b })) (e ∙ ap (λ y. Some (join p (Then y r))) (sym i)) u);
  fewer = omega arith;
  front = d;
  none = subst (λ y. DeclaresNone (Then y r)) (sym i) m;
  held = λ h t. subst (Held 1 p r h) (sym i) (held h t);
}
rest_made (g ∷ gs) n start gone counts f p r x y e u d m held (c, next, (like, more)) =
    let v : Forest = join p (Then c r) in
    let q : Forest = undeclared g p in
    let k = next f u.told in
    let o : DeclaresNone (Then c r) = λ h. ap (λ b. b || declares h r) (kind_kept f 2 x g c k h) ∙ m h in
    let b = body_changed f g (join p (Then x r)) v (join q (Then c r)) e (sym (with_next 1 p r f g x c (held f u.told) k))
    (sym (undeclared_join g p (Then c r) (o g))) in
    let w = goes_on n start gone counts f (g, b.0) b.1 b.2 u in
    let s = slice_set counts g 0 in
    let j = rest_made gs (suc n) start (slice_set gone g true) s (record f { body = Some (join q (Then c r)) }) q r c y refl
    (subst (λ z. Underway (suc n) start (slice_set gone g true) s (record f { body = z })) (sym b.3) w.0)
    (first_undeclared g p d) o
    (λ h t.
    let l = held_still 1 p r counts f h u.told (fewer_counted f h counts s g refl u.told t) g (none_counted h counts s g refl t) x c k like (held f u.told) in
    (quiet_front h 2 g p (Then c r) d l.0, l.1, l.2)) more in
    record {
      underway =
          let z : suc n + length gs ≡ n + suc (length gs) = omega arith in
          subst (λ k. Underway k start (all_marked gone (g ∷ gs)) (without counts (g ∷ gs))
          (record f { body = Some (join (all_undeclared gs q) (Then y r)) })) z
          j.underway;
      fewer = let a = j.fewer in let b = w.1 in omega (arith, a, b);
      front = j.front;
      none = j.none;
      held = j.held;
    }

-- ---- whether they do

lists_no : (g : ℕ) (x : Tree) → holds_none x ≡ false → is_declaration g x ≡ false
lists_no g (Local y es) e = cc
lists_no g x e = refl

pub front_more : (x : Tree) (xs : Forest) (none : Bool) → (holds_none x ≡ true) ⊎ (none ≡ true) → DeclaresFirst xs → (none ≡ true → DeclaresNone xs) →
    DeclaresFirst (Then x xs)
front_more x xs none o d n = by (holds_none x) refl o
  where
    by : (b : Bool) → holds_none x ≡ b → (holds_none x ≡ true) ⊎ (none ≡ true) → DeclaresFirst (Then x xs)
    by true e o = inl (e, d)
    by false e (inl k) = true_false (holds_none x) k e
    by false e (inr k) = inr (λ g. ap₂ (λ a b. a || b) (lists_no g x e) (n k g))

pub none_more : (x : Tree) (xs : Forest) → ((g : ℕ) → is_declaration g x ≡ false) → DeclaresNone xs → DeclaresNone (Then x xs)
none_more x xs i n g = ap₂ (λ a b. a || b) (i g) (n g)

-- ---- one after another

pub drop_here : (xs : List ℕ) (i x : ℕ) → i < length xs → x ≡ get_or xs i x → drop i xs ≡ x ∷ drop (i + 1) xs
drop_here [] i x h e = absurd (omega (arith, h))
drop_here (y ∷ ys) zero x h e = ap (λ z. z ∷ ys) (sym e)
drop_here (y ∷ ys) (suc i) x h e = let j : suc i + 1 ≡ suc (i + 1) = omega arith in
    drop_here ys i x (omega (arith, h)) e ∙ sym (ap (λ m. x ∷ drop m (y ∷ ys)) j)

pub drop_none : (xs : List ℕ) (i : ℕ) → length xs ≤ i → drop i xs ≡ []
drop_none [] zero h = refl
drop_none [] (suc i) h = refl
drop_none (x ∷ xs) zero h = absurd (omega (arith, h))
drop_none (x ∷ xs) (suc i) h = drop_none xs i (omega (arith, h))

-- seen from the last item on
abbrev pub FrontFrom : List Item → ℕ → Bool → Type 0
FrontFrom xs m none = (m ≤ length xs) × (DeclaresFirst (trees_of (drop m xs)) × (none ≡ true → DeclaresNone (trees_of (drop m xs))))

pub front_from_end : (xs : List Item) (m : ℕ) → m ≡ length xs → FrontFrom xs m true
front_from_end xs m e =
    let n = trees-end xs m (omega (arith, e)) in
    (omega (arith, e), (subst DeclaresFirst (sym n) tt, λ k. subst DeclaresNone (sym n) (λ g. refl)))

pub front_goes : (xs : List Item) (m at : ℕ) (x : Item) (none still : Bool) → at ≡ m - 1 → 0 < m → x ≡ get_or xs at x →
    (holds_none (tree_at x) ≡ true) ⊎ (none ≡ true) → (still ≡ true → (none ≡ true) × ((g : ℕ) → is_declaration g (tree_at x) ≡ false)) →
    FrontFrom xs m none → FrontFrom xs at still
front_goes xs m at x none still e h i o s (l, (d, n)) =
    let r = trees_of (drop (at + 1) xs) in
    let j : m ≡ at + 1 = omega (arith, e, h) in
    let t = trees-at xs at x (omega (arith, e, h, l)) i in
    let d : DeclaresFirst r = subst (λ m. DeclaresFirst (trees_of (drop m xs))) j d in
    let n : none ≡ true → DeclaresNone r = λ k. subst (λ m. DeclaresNone (trees_of (drop m xs))) j (n k) in (
      omega (arith, e, l),
      (
        subst DeclaresFirst (sym t) (front_more (tree_at x) r none o d n),
        λ k. subst DeclaresNone (sym t) (none_more (tree_at x) r (s k).1 (n (s k).0)),
      ),
    )

pub get_or_same : (xs : List ℕ) (i d : ℕ) → i < length xs → get_or xs i d ≡ get_or xs i (get_or xs i d)
get_or_same [] i d h = absurd (omega (arith, h))
get_or_same (x ∷ xs) zero d h = refl
get_or_same (x ∷ xs) (suc i) d h = get_or_same xs i d (omega (arith, h))
