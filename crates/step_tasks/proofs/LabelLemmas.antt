-- The table of labels: its levels, and what is found.
use Rattle.std.proofs.Common.{ℕ, zero, suc, ◌-◌, ◌≤◌, ◌<◌, true, false, cond, eqb, List, [], ◌∷◌, ◌++◌, length, slice_get, slice_set, Option, Some, None, option_map, ◌≡◌, ◌≢◌, inl, inr, refl, sym, ap, ◌∙◌, subst, true≢false, arith}
use Rattle.std.proofs.lemmas.Bool.Decides.{Decides-eqb}
use Rattle.std.proofs.lemmas.Bool.{cases_Bool}
use Rattle.c_tree.specs.declared.tree.Function.{Function}
use Rattle.c_tree.specs.declared.tree.Item.{Item}
use Rattle.c_tree.specs.Trees.{trees_of}
use Rattle.jump_meaning.specs.Code.{entry_or, function_tree, items_of}
use Rattle.jump_meaning.specs.Search.{ToLabel, or_else, first_of_three, seek}
use Rattle.jump_meaning.specs.Tasks.{Task}
use Rattle.step_tasks.specs.declared.labels.Labels.{Labels}
use Rattle.step_tasks.specs.declared.labels.Level.{Level}
use Rattle.step_tasks.specs.declared.work.Work.{Work}
use Rattle.step_tasks.specs.Labels.{IsStackIn, IsStack, IsFound, IsPut, Adds, AddsBefore, AreLabelsOf, start_of}
use Rattle.step_tasks.specs.Tasks.{work_of}

-- ---- levels

get_more : {A : Type 0} (xs ys : List A) (i : ℕ) (x : A) → slice_get xs i ≡ Some x → slice_get (xs ++ ys) i ≡ Some x
get_more [] ys i x e = cc
get_more (y ∷ xs) ys zero x e = e
get_more (y ∷ xs) ys (suc i) x e = get_more xs ys i x e

get_last : {A : Type 0} (xs : List A) (x : A) → slice_get (xs ++ x ∷ []) (length xs) ≡ Some x
get_last [] x = refl
get_last (y ∷ xs) x = get_last xs x

get_within : {A : Type 0} (xs : List A) (i : ℕ) (x : A) → slice_get xs i ≡ Some x → suc i ≤ length xs
get_within [] i x e = cc
get_within (y ∷ xs) zero x e = omega arith
get_within (y ∷ xs) (suc i) x e = let h = get_within xs i x e in omega (arith, h)

stack_in_more : (n : ℕ) (levels : List Level) (x : Level) (i : ℕ) (k : List Task) → IsStackIn n levels i k → IsStackIn n (levels ++ x ∷ []) i k
stack_in_more zero levels x zero k h = h
stack_in_more zero levels x (suc i) k h = h
stack_in_more (suc n) levels x zero k h = h
stack_in_more (suc n) levels x (suc i) k (y, j, e, l, s, t) = (y, j, get_more levels (x ∷ []) i y e, l, stack_in_more n levels x y.below j s, t)

stack_in_within : (n : ℕ) (levels : List Level) (i : ℕ) (k : List Task) → IsStackIn n levels i k → i ≤ length levels
stack_in_within n levels zero k h = omega arith
stack_in_within zero levels (suc i) k h = absurd h
stack_in_within (suc n) levels (suc i) k (y, j, e, l, s, t) = get_within levels i y e

pub stack_end : (levels : List Level) → IsStack levels 0 []
stack_end levels = (0, refl)

pub at_end : (levels : List Level) (k : List Task) → IsStack levels 0 k → k ≡ []
at_end levels k (zero, h) = h
at_end levels k (suc n, h) = h

-- the top of a stack, and what is below
pub stack_top : (levels : List Level) (i : ℕ) (k : List Task) (x : Level) → i ≢ 0 → IsStack levels i k → slice_get levels (i - 1) ≡ Some x
    → (j : List Task) × IsStack levels x.below j × (k ≡ work_of x.work j)
stack_top levels zero k x h s e = absurd (h refl)
stack_top levels (suc i) k x h (zero, s) e = absurd s
stack_top levels (suc i) k x h (suc n, (y, j, g, l, s, t)) e = top (cc (g, ap (slice_get levels) (sym (before i)) ∙ e)) where
  before : (i : ℕ) → suc i - 1 ≡ i
  before i = omega arith

  top : y ≡ x → (j : List Task) × IsStack levels x.below j × (k ≡ work_of x.work j)
  top q = (j, (n, subst (λ z. IsStackIn n levels z.below j) q s), t ∙ ap (λ z. work_of z.work j) q)

-- a level more
pub put_one : (old : Labels) (levels : List Level) (x : Level) (level : ℕ) → levels ≡ old.levels ++ x ∷ [] → level ≡ length levels →
    IsPut x.below x.work old (record old { levels = levels }) level
put_one old levels x level e n = record {
  above = λ k (m, s). subst (λ ls. IsStack ls level (work_of x.work k)) (sym e)
      (subst (λ i. IsStack (old.levels ++ x ∷ []) i (work_of x.work k)) (sym (n ∙ ap length e ∙ length_more old.levels))
      (suc m, (x, k, get_last old.levels x, stack_in_within m old.levels x.below k s, stack_in_more m old.levels x x.below k s, refl)));
  kept = λ i k (m, s). subst (λ ls. IsStack ls i k) (sym e) (m, stack_in_more m old.levels x i k s);
  starts = refl;
  counted = λ z. some (sym z ∙ n ∙ ap length e ∙ length_more old.levels);
} where
  length_more : (ls : List Level) → length (ls ++ x ∷ []) ≡ suc (length ls)
  length_more [] = refl
  length_more (y ∷ ls) = ap suc (length_more ls)

  some : 0 ≡ suc (length old.levels) → ⊥
  some q = absurd (omega (arith, q))

-- ---- entries of the table

pub entry_is : (xs : List ℕ) (i x : ℕ) → slice_get xs i ≡ Some x → x ≡ entry_or 0 xs i
entry_is [] i x e = cc
entry_is (y ∷ xs) zero x e = cc
entry_is (y ∷ xs) (suc i) x e = entry_is xs i x e

pub no_entry : (xs : List ℕ) (i : ℕ) → slice_get xs i ≡ None → 0 ≡ entry_or 0 xs i
no_entry [] i e = refl
no_entry (y ∷ xs) zero e = cc
no_entry (y ∷ xs) (suc i) e = no_entry xs i e

-- a 0 more behind the others
pub zero_more : (xs : List ℕ) (i : ℕ) → entry_or 0 (xs ++ 0 ∷ []) i ≡ entry_or 0 xs i
zero_more [] zero = refl
zero_more [] (suc i) = refl
zero_more (x ∷ xs) zero = refl
zero_more (x ∷ xs) (suc i) = zero_more xs i

-- one entry changes
set_here : (xs : List ℕ) (i x : ℕ) → i < length xs → entry_or 0 (slice_set xs i x) i ≡ x
set_here [] i x h = absurd (omega (arith, h))
set_here (y ∷ xs) zero x h = refl
set_here (y ∷ xs) (suc i) x h = set_here xs i x (omega (arith, h))

set_other : (xs : List ℕ) (i x j : ℕ) → j ≢ i → entry_or 0 (slice_set xs i x) j ≡ entry_or 0 xs j
set_other [] i x j n = refl
set_other (y ∷ xs) zero x zero n = absurd (n refl)
set_other (y ∷ xs) zero x (suc j) n = refl
set_other (y ∷ xs) (suc i) x zero n = refl
set_other (y ∷ xs) (suc i) x (suc j) n = set_other xs i x j (λ e. n (ap suc e))

pub entry_set : (xs : List ℕ) (i x j : ℕ) → i < length xs → entry_or 0 (slice_set xs i x) j ≡ cond (eqb j i) x (entry_or 0 xs j)
entry_set xs i x j h = elim (cases_Bool (eqb j i)) as (λ _. entry_or 0 (slice_set xs i x) j ≡ cond (eqb j i) x (entry_or 0 xs j)) [
  | inl y ↦ ap (entry_or 0 (slice_set xs i x)) ((Decides-eqb j i).0 y) ∙ set_here xs i x h ∙ sym (ap (λ b. cond b x (entry_or 0 xs j)) y)
  | inr y ↦ set_other xs i x j (λ e. true≢false (sym ((Decides-eqb j i).1 e) ∙ y)) ∙ sym (ap (λ b. cond b x (entry_or 0 xs j)) y)
]

-- ---- what is found

found_as : (old new : Labels) (l : ℕ) (o : Option (List Task)) → start_of new l ≡ start_of old l →
    ((i : ℕ) (k : List Task) → IsStack old.levels i k → IsStack new.levels i k) → IsFound old l o → IsFound new l o
found_as old new l None e m h = e ∙ h
found_as old new l (Some k) e m h = (λ z. h.0 (sym e ∙ z), subst (λ i. IsStack new.levels i k) (sym e) (m (start_of old l) k h.1))

or_none : {A : Type 0} (o : Option A) → or_else o None ≡ o
or_none None = refl
or_none (Some a) = refl

or_or : {A : Type 0} (o p q : Option A) → or_else (or_else o p) q ≡ or_else o (or_else p q)
or_or None p q = refl
or_or (Some a) p q = refl

pub adds_as : (F G : ℕ → Option (List Task)) (old new : Labels) → ((l : ℕ) → F l ≡ G l) → Adds F old new → Adds G old new
adds_as F G old new e h = record { kept = h.kept; found = λ l o f. subst (λ p. IsFound new l (or_else o p)) (e l) (h.found l o f) }

pub nothing_added : (below : ℕ) (t : Labels) → AddsBefore below (λ k l. None) t t
nothing_added below t k s = record { kept = λ i k s. s; found = λ l o f. subst (IsFound t l) (sym (or_none o)) f }

pub added_as : (below : ℕ) (F G : List Task → ℕ → Option (List Task)) (old new : Labels) → ((k : List Task) (l : ℕ) → F k l ≡ G k l) →
    AddsBefore below F old new → AddsBefore below G old new
added_as below F G old new e h k s = adds_as (F k) (G k) old new (e k) (h k s)

pub both_added : (below : ℕ) (F G : List Task → ℕ → Option (List Task)) (a b c : Labels) → AddsBefore below F a b → AddsBefore below G b c →
    AddsBefore below (λ k l. or_else (F k l) (G k l)) a c
both_added below F G a b c f g k s =
    let x = f k s in
    let y = g k (x.kept below k s) in
    record {
      kept = λ i j r. y.kept i j (x.kept i j r);
      found = λ l o r. subst (IsFound c l) (or_or o (F k l) (G k l))
          (y.found l (or_else o (F k l)) (x.found l o r));
    }

-- before one level more
pub added_above : (below level : ℕ) (w : Work) (F : List Task → ℕ → Option (List Task)) (a b c : Labels) → IsPut below w a b level →
    AddsBefore level F b c → AddsBefore below (λ k l. F (work_of w k) l) a c
added_above below level w F a b c p f k s =
    let x = f (work_of w k) (p.above k s) in
    record { kept = λ i j r. x.kept i j (p.kept i j r); found = λ l o r. x.found l o (found_as a b l o (ap (λ z. entry_or 0 z l) p.starts) p.kept r) }

-- ---- one label

-- the table has it
pub has_label : (t : Labels) (label below : ℕ) (F : List Task → List Task) → start_of t label ≢ 0 →
    AddsBefore below (λ k l. cond (eqb l label) (Some (F k)) None) t t
has_label t label below F n k s = record { kept = λ i k s. s; found = found } where
  found : (l : ℕ) (o : Option (List Task)) → IsFound t l o → IsFound t l (or_else o (cond (eqb l label) (Some (F k)) None))
  found l (Some j) f = f
  found l None f = elim (cases_Bool (eqb l label)) as (λ _. IsFound t l (cond (eqb l label) (Some (F k)) None)) [
    | inl y ↦ absurd (n (ap (start_of t) (sym ((Decides-eqb l label).0 y)) ∙ f))
    | inr y ↦ subst (λ b. IsFound t l (cond b (Some (F k)) None)) (sym y) f
  ]

-- it is new
pub new_label : (old mid new : Labels) (label below level : ℕ) (w : Work) → start_of old label ≡ 0 → IsPut below w old mid level → new.levels ≡ mid.levels
    → ((l : ℕ) → start_of new l ≡ cond (eqb l label) level (start_of mid l)) → AddsBefore below (λ k l. cond (eqb l label) (Some (work_of w k)) None) old new
new_label old mid new label below level w z p e st k s = record { kept = kept; found = found } where
  kept : (i : ℕ) (j : List Task) → IsStack old.levels i j → IsStack new.levels i j
  kept i j r = subst (λ ls. IsStack ls i j) (sym e) (p.kept i j r)

  here : (l : ℕ) (o : Option (List Task)) → eqb l label ≡ true → IsFound old l o → IsFound new l (or_else o (Some (work_of w k)))
  here l None y f =
      let is : start_of new l ≡ level = st l ∙ ap (λ b. cond b level (start_of mid l)) y in (
        λ q. p.counted (sym is ∙ q),
        subst (λ i. IsStack new.levels i (work_of w k)) (sym is)
            (subst (λ ls. IsStack ls level (work_of w k)) (sym e) (p.above k s)),
      )
  here l (Some j) y f = absurd (f.0 (ap (start_of old) ((Decides-eqb l label).0 y) ∙ z))

  other : (l : ℕ) (o : Option (List Task)) → eqb l label ≡ false → IsFound old l o → IsFound new l (or_else o None)
  other l o y f =
      subst (IsFound new l) (sym (or_none o))
      (found_as old new l o (st l ∙ ap (λ b. cond b level (start_of mid l)) y ∙ ap (λ x. entry_or 0 x l) p.starts) kept f)

  found : (l : ℕ) (o : Option (List Task)) → IsFound old l o → IsFound new l (or_else o (cond (eqb l label) (Some (work_of w k)) None))
  found l o f = elim (cases_Bool (eqb l label)) as (λ _. IsFound new l (or_else o (cond (eqb l label) (Some (work_of w k)) None))) [
    | inl y ↦ subst (λ b. IsFound new l (or_else o (cond b (Some (work_of w k)) None))) (sym y) (here l o y f)
    | inr y ↦ subst (λ b. IsFound new l (or_else o (cond b (Some (work_of w k)) None))) (sym y) (other l o y f)
  ]

-- ---- the labels of a list, one item after the other

-- what is found by F is added but for what is found by G
pub record Leaves (F G : ℕ → Option (List Task)) (old new : Labels) : Type 0 where
  pub kept : (i : ℕ) (k : List Task) → IsStack old.levels i k → IsStack new.levels i k
  pub found : (l : ℕ) (o : Option (List Task)) → IsFound old l o → (p : Option (List Task)) × IsFound new l p × (or_else p (G l) ≡ or_else o (F l))

abbrev pub LeavesBefore : ℕ → (List Task → ℕ → Option (List Task)) → (List Task → ℕ → Option (List Task)) → Labels → Labels → Type 0
LeavesBefore below F G old new = (k : List Task) → IsStack old.levels below k → Leaves (F k) (G k) old new

pub all_left : (below : ℕ) (F : List Task → ℕ → Option (List Task)) (t : Labels) → LeavesBefore below F F t t
all_left below F t k s = record { kept = λ i j r. r; found = λ l o f. (o, f, refl) }

pub one_less : (below : ℕ) (F G H K : List Task → ℕ → Option (List Task)) (a b c : Labels) → LeavesBefore below F G a b → AddsBefore below H b c →
    ((k : List Task) (l : ℕ) → G k l ≡ or_else (H k l) (K k l)) → LeavesBefore below F K a c
one_less below F G H K a b c f h e k s =
    let x = f k s in
    let y = h k (x.kept below k s) in
    record {
      kept = λ i j r. y.kept i j (x.kept i j r);
      found = λ l o r.
          let z = x.found l o r in
          (or_else z.0 (H k l), y.found l z.0 z.1, or_or z.0 (H k l) (K k l) ∙ ap (or_else z.0) (sym (e k l)) ∙ z.2);
    }

pub none_left : (below : ℕ) (F G : List Task → ℕ → Option (List Task)) (a b : Labels) → LeavesBefore below F G a b →
    ((k : List Task) (l : ℕ) → G k l ≡ None) → AddsBefore below F a b
none_left below F G a b f e k s =
    let x = f k s in
    record { kept = x.kept; found = λ l o r. let z = x.found l o r in subst (IsFound b l) (sym (or_none z.0) ∙ ap (or_else z.0) (sym (e k l)) ∙ z.2) z.1 }

-- ---- the whole table

pub empty_has : (t : Labels) → t.starts ≡ [] → (l : ℕ) → IsFound t l None
empty_has t e l = ap (λ xs. entry_or 0 xs l) e

-- the tasks of a label, none where it isn't found
pub found_tasks : (t : Labels) (l : ℕ) (o : Option (List Task)) → IsFound t l o → IsStack t.levels (start_of t l) (first_of_three o None [])
found_tasks t l None f = subst (λ i. IsStack t.levels i []) (sym f) (stack_end t.levels)
found_tasks t l (Some k) f = f.1

items_at : (f : Function) (o : Option (List Item)) → f.body ≡ o → items_of (function_tree f) ≡ items_of
    (record (function_tree f) { body = option_map trees_of o })
items_at f o e = ap (λ b. items_of (record (function_tree f) { body = option_map trees_of b })) e

-- the labels of a function with a body, and of one without
pub of_body : (f : Function) (body given : List Item) (old new : Labels) → f.body ≡ Some body → given ≡ body → old.starts ≡ [] →
    AddsBefore 0 (λ k l. seek (ToLabel l) (trees_of given) k) old new → AreLabelsOf f new
of_body f body given old new e g s h l =
    subst (λ t. IsFound new l (seek (ToLabel l) t [])) (ap trees_of g ∙ sym (items_at f (Some body) e))
    ((h [] (stack_end old.levels)).found l None (empty_has old s l))

pub of_none : (f : Function) (t : Labels) → f.body ≡ None → t.starts ≡ [] → AreLabelsOf f t
of_none f t e s l = subst (λ x. IsFound t l (seek (ToLabel l) x [])) (sym (items_at f None e)) (empty_has t s l)
