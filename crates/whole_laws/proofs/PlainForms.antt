-- The plain form of a function has the form of a source.
use Rattle.std.proofs.Common.{◌≡◌, ℕ, zero, suc, ◌+◌, ◌-◌, ◌≤◌, Bool, true, false, true≢false, List, [], ◌∷◌, ◌++◌, length, map, None, is_some, slice_get, refl, sym, ap, ap₂, subst, ◌∙◌, arith, append_assoc, length-append}
use Rattle.c_tree.specs.declared.tree.Slot.{Slot}
use Rattle.c_tree.specs.declared.tree.Function.{Function}
use Rattle.c_tree.specs.Cases.{AllEntered}
use Rattle.c_tree.specs.Exits.{breaks, breaks_of, continues, continues_of, continues_in}
use Rattle.c_tree.specs.Trees.{Tree, Forest, Nil, Then, Sections, NoSection, Section, Evaluate, Return, If, While, Do, For, Switch, Block, Local, Break, Continue, Goto, Mark, Arm, Leap, Land, Arrival, Note, join, trees_of}
use Rattle.c_tree.specs.Everywhere.{Everywhere, EverywhereOf, EverywhereIn}
use Rattle.c_tree.specs.InRange.{body_of}
use Rattle.c_tree.specs.WellMade.{IsConverted, HasEntries, IsPlainFor}
use Rattle.c_tree.proofs.TreeLaws.{tree-Local, trees-none, trees-more, trees-append}
use Rattle.c_tree.proofs.WellMoved.{everywhere_both}
use Rattle.c_tree.proofs.ExitsKept.{breaks-join, continues-join}
use Rattle.flat_laws.specs.Unlabelled.{unlabelled, unlabelled_item, unlabelled_among, IsCalmItem}
use Rattle.plain_laws.specs.Laws.{IsNoLeap}
use Rattle.plain_laws.specs.Plain as Plain
use Rattle.plain_laws.specs.Plain.{declared, variable_declared, guard_declared, names_left, guard_slot}
use Rattle.plain_laws.specs.GuardSlots.{plain_list, plain_item, plain_sections}
use Rattle.plain_laws.specs.Slotted.{AreDeclarations, none, one_more, variable, guarding}
use Rattle.plain_laws.specs.Tidied.{tidy}
use Rattle.plain_laws.proofs.LeftLabels.{slots_left}
use Rattle.plain_laws.proofs.PlainFunctions.{are_declared, guard_local}
use Rattle.plain_laws.proofs.PlainRange.{plain_everywhere, join_everywhere}
use Rattle.whole_laws.specs.Rewritten.{without_labels}
use Rattle.whole_laws.proofs.Calm.{source_calm}
use Rattle.whole_laws.proofs.Source.{IsSourceFunction}
use Rattle.whole_laws.proofs.Unlabelled.{IsPlainItem, IsLeaf, IsLeft, left, plain_left}
use Rattle.c_resolved_defs.specs.Form.{gathered, gathered_of, gathered_in, declared_slot, marked_label, numbers_from, AreAlike, IsFirstPart, AreSections, HasNoLoose, HasSourceForm, HasForm}
use Rattle.c_resolved_laws.proofs.Ranged.{the_some}
use Rattle.whole_laws.proofs.FactsMoved.{labels_of, slot_of, reached_of, plain_trees, left_trees}
use Rattle.whole_laws.proofs.PlainTops.{IsMovedForm, IsUnmovedForm}
use Rattle.whole_laws.proofs.SameTops.{moved_slots, moved_params, unmoved_slots, unmoved_params}
use Rattle.whole_laws.proofs.TidyForm.{Ready, IsTidied, tidy_plain, not_loose, unmarked, plain_of, tidy_form, gathered_tidy, breaks_tidy, continues_tidy}

-- ---- the form of a function whose body is tidied

no_false : (b : Bool) → b ≡ true → b ≡ false → ⊥
no_false b e h = true≢false (sym e ∙ h)

pub tidied_form : (h : Function) (X : Forest) → body_of h ≡ tidy X → h.flat ≡ false → is_some h.body ≡ true → h.labels ≡ [] →
    h.params ≤ length h.slots → Everywhere (Ready h) X
    → gathered declared_slot X ≡ numbers_from h.params (length h.slots - h.params) → breaks X + continues X ≡ 0 → HasForm h
tidied_form h X e unflat some labels params ready slots exits =
    let plain = tidy_plain X (plain_of h X ready) in
    record {
      unflat = unflat;
      parameters = params;
      prototype = λ n. absurd (no_false (is_some h.body) some n);
      items = subst (Everywhere (HasSourceForm h)) (sym e) (tidy_form h X ready);
      slots = ap (gathered declared_slot) e ∙ gathered_tidy declared_slot refl X ∙ slots;
      labels = ap (gathered marked_label) e ∙ unmarked (tidy X) plain ∙ sym (ap (λ (l : List (List ℕ)). numbers_from 0 (length l)) labels);
      cases = subst HasNoLoose (sym e) (not_loose (tidy X) plain);
      exits = (λ i. breaks (e i) + continues (e i)) ∙ (λ i. breaks_tidy X i + continues_tidy X i) ∙ exits;
    }

-- ---- numbers

successor : (n : ℕ) → n + 1 ≡ suc n
successor n = omega arith

numbers_same : (n m : ℕ) → Plain.numbers_from n m ≡ numbers_from n m
numbers_same n zero = refl
numbers_same n (suc m) = ap (λ l. n ∷ l) (ap (λ i. Plain.numbers_from i m) (successor n) ∙ numbers_same (suc n) m)

numbers_join : (i m n : ℕ) → numbers_from i m ++ numbers_from (i + m) n ≡ numbers_from i (m + n)
numbers_join i zero n = (let e : i + 0 ≡ i = omega arith in ap (λ j. numbers_from j n) e) ∙ (let e : n ≡ 0 + n = omega arith in ap (numbers_from i) e)
numbers_join i (suc m) n =
    ap (λ l. i ∷ l) ((let e : i + suc m ≡ suc i + m = omega arith in ap (λ j. numbers_from (suc i) m ++ numbers_from j n) e) ∙ numbers_join (suc i) m n)
    ∙ (let e : suc (m + n) ≡ suc m + n = omega arith in ap (numbers_from i) e)

module _ (g : Tree → List ℕ) where
  pub gathered_join : (a b : Forest) → gathered g (join a b) ≡ gathered g a ++ gathered g b
  gathered_join Nil b = refl
  gathered_join (Then x a) b = ap (λ l. gathered_of g x ++ l) (gathered_join a b) ∙ sym (append_assoc (gathered_of g x) (gathered g a) (gathered g b))

variables_gathered : (ks : List ℕ) → gathered declared_slot (trees_of (map variable_declared ks)) ≡ ks
variables_gathered [] = ap (gathered declared_slot) trees-none
variables_gathered (k ∷ ks) =
    ap (gathered declared_slot) (trees-more (variable_declared k) (map variable_declared ks) ∙
    ap (λ x. Then x (trees_of (map variable_declared ks))) (tree-Local k None))
    ∙ ap (λ l. k ∷ l) (variables_gathered ks)

guards_gathered : (ks : List ℕ) → gathered declared_slot (trees_of (map guard_declared ks)) ≡ ks
guards_gathered [] = ap (gathered declared_slot) trees-none
guards_gathered (k ∷ ks) =
    ap (gathered declared_slot) (trees-more (guard_declared k) (map guard_declared ks) ∙ ap (λ x. Then x (trees_of (map guard_declared ks))) (guard_local k))
    ∙ ap (λ l. k ∷ l) (guards_gathered ks)

declared_gathered : (f : Function) (ls : List ℕ) → f.params ≤ length f.slots →
    gathered declared_slot (trees_of (declared f ls)) ≡ numbers_from f.params (length f.slots + length ls - f.params)
declared_gathered f ls h =
    let n = length f.slots - f.params in
    let vs = map variable_declared (Plain.numbers_from f.params n) in
    let gs = map guard_declared (Plain.numbers_from (length f.slots) (length ls)) in
    ap (gathered declared_slot) (trees-append vs gs)
    ∙ gathered_join declared_slot (trees_of vs) (trees_of gs)
    ∙ ap₂ (λ k l. k ++ l) (variables_gathered (Plain.numbers_from f.params n) ∙ numbers_same f.params n)
    (guards_gathered (Plain.numbers_from (length f.slots) (length ls)) ∙ numbers_same (length f.slots) (length ls))
    ∙ (let e : length f.slots ≡ f.params + n = omega (arith, h) in ap (λ j. numbers_from f.params n ++ numbers_from j (length ls)) e)
    ∙ numbers_join f.params n (length ls)
    ∙ (let e : n + length ls ≡ length f.slots + length ls - f.params = omega (arith, h) in ap (numbers_from f.params) e)

-- ---- a body in which guards are variables

entered_plain : (slot : ℕ → ℕ) (c : Sections) → AllEntered c → AllEntered (plain_sections slot c)
entered_plain slot NoSection h = tt
entered_plain slot (Section cases default a ends c) h = (h.0, entered_plain slot c h.1)

abbrev IsBare : Tree → Type 0
IsBare x = IsConverted x × (IsNoLeap x × (HasEntries x × IsPlainFor x))

module _ (h : Function) (slot : ℕ → ℕ) where
  first_plain : (first : Forest) → first ≡ Nil → IsFirstPart h.slots (plain_list slot first)
  first_plain first e = subst (λ a. IsFirstPart h.slots (plain_list slot a)) (sym e) tt

  bare_ready : (x : Tree) → IsBare x → Ready h (plain_item slot x)
  bare_ready (If t a b) k = (tt, tt)
  bare_ready (While t a) k = (tt, tt)
  bare_ready (Do a t) k = (tt, tt)
  bare_ready (For first t u a) k = (tt, first_plain first k.1.1.1.0)
  bare_ready (Switch s c) k = (tt, entered_plain slot c k.1.1.0.0)
  bare_ready (Block a) k = absurd k.0
  bare_ready (Evaluate e) k = (tt, tt)
  bare_ready (Return e) k = (tt, tt)
  bare_ready (Local x es) k = absurd k.0
  bare_ready Break k = (tt, tt)
  bare_ready Continue k = (tt, tt)
  bare_ready (Goto l) k = absurd k.0
  bare_ready (Mark l) k = absurd k.0
  bare_ready (Arm l e) k = (tt, tt)
  bare_ready (Leap l) k = absurd k.1.0
  bare_ready (Land l) k = (tt, tt)
  bare_ready (Arrival e) k = absurd k.0
  bare_ready (Note bs) k = (tt, tt)

  declarations_ready : (base end : ℕ) (a : Forest) → AreDeclarations base end a → Everywhere (Ready h) a
  declarations_ready base end Nil none = tt
  declarations_ready base end (Then x a) (one_more (variable y) r) = ((tt, tt), declarations_ready base end a r)
  declarations_ready base end (Then x a) (one_more (guarding y i j) r) = ((tt, tt), declarations_ready base end a r)

  none_of : (xs ys : List ℕ) → xs ≡ [] → ys ≡ [] → xs ++ ys ≡ []
  none_of xs ys e f = subst (λ zs. zs ++ ys ≡ []) (sym e) f

  -- without declarations
  mutual
    undeclared : (a : Forest) → Everywhere IsConverted a → gathered declared_slot (plain_list slot a) ≡ []
    undeclared Nil k = refl
    undeclared (Then x a) k = none_of (gathered_of declared_slot (plain_item slot x)) (gathered declared_slot (plain_list slot a))
        (undeclared_of x k.0) (undeclared a k.1)

    undeclared_of : (x : Tree) → EverywhereOf IsConverted x → gathered_of declared_slot (plain_item slot x) ≡ []
    undeclared_of (If t a b) k = none_of (gathered declared_slot (plain_list slot a)) (gathered declared_slot (plain_list slot b)) (undeclared a k.1)
        (undeclared b k.2)
    undeclared_of (While t a) k = undeclared a k.1
    undeclared_of (Do a t) k = undeclared a k.1
    undeclared_of (For first t u a) k = none_of (gathered declared_slot (plain_list slot first)) (gathered declared_slot (plain_list slot a))
        (undeclared first k.1) (undeclared a k.2)
    undeclared_of (Switch s c) k = undeclared_in c k.1
    undeclared_of (Block a) k = undeclared a k.1
    undeclared_of (Local x es) k = absurd k
    undeclared_of _ k = refl

    undeclared_in : (c : Sections) → EverywhereIn IsConverted c → gathered_in declared_slot (plain_sections slot c) ≡ []
    undeclared_in NoSection k = refl
    undeclared_in (Section cases default a ends c) k = none_of (gathered declared_slot (plain_list slot a))
        (gathered_in declared_slot (plain_sections slot c)) (undeclared a k.0) (undeclared_in c k.1)

  both_sums : (a b c d : ℕ) → a ≡ c → b ≡ d → a + b ≡ c + d
  both_sums a b c d e f = (λ i. e i + f i)

  mutual
    breaks_plain : (a : Forest) → breaks (plain_list slot a) ≡ breaks a
    breaks_plain Nil = refl
    breaks_plain (Then x a) = both_sums (breaks_of (plain_item slot x)) (breaks (plain_list slot a)) (breaks_of x) (breaks a) (breaks_plain_of x)
        (breaks_plain a)

    breaks_plain_of : (x : Tree) → breaks_of (plain_item slot x) ≡ breaks_of x
    breaks_plain_of (If t a b) = both_sums (breaks (plain_list slot a)) (breaks (plain_list slot b)) (breaks a) (breaks b) (breaks_plain a) (breaks_plain b)
    breaks_plain_of (For first t u a) = breaks_plain first
    breaks_plain_of (Block a) = breaks_plain a
    breaks_plain_of x = refl

  mutual
    continues_plain : (a : Forest) → continues (plain_list slot a) ≡ continues a
    continues_plain Nil = refl
    continues_plain (Then x a) = both_sums (continues_of (plain_item slot x)) (continues (plain_list slot a)) (continues_of x) (continues a)
        (continues_plain_of x) (continues_plain a)

    continues_plain_of : (x : Tree) → continues_of (plain_item slot x) ≡ continues_of x
    continues_plain_of (If t a b) = both_sums (continues (plain_list slot a)) (continues (plain_list slot b)) (continues a) (continues b)
        (continues_plain a) (continues_plain b)
    continues_plain_of (For first t u a) = continues_plain first
    continues_plain_of (Switch s c) = continues_plain_in c
    continues_plain_of (Block a) = continues_plain a
    continues_plain_of x = refl

    continues_plain_in : (c : Sections) → continues_in (plain_sections slot c) ≡ continues_in c
    continues_plain_in NoSection = refl
    continues_plain_in (Section cases default a ends c) = both_sums (continues (plain_list slot a)) (continues_in (plain_sections slot c))
        (continues a) (continues_in c) (continues_plain a) (continues_plain_in c)

declarations_exit : (base end : ℕ) (a : Forest) → AreDeclarations base end a → (breaks a ≡ 0) × (continues a ≡ 0)
declarations_exit base end Nil none = (refl, refl)
declarations_exit base end (Then x a) (one_more (variable y) r) = let i = declarations_exit base end a r in let b = i.0 in let c = i.1 in
    (omega (arith, b), omega (arith, c))
declarations_exit base end (Then x a) (one_more (guarding y k j) r) = let i = declarations_exit base end a r in let b = i.0 in let c = i.1 in
    (omega (arith, b), omega (arith, c))

module _ (f h : Function) (m : IsMovedForm f h) (params : f.params ≤ length f.slots) where
  abbrev pub decls : Forest
  decls = trees_of (declared (reached_of f h m) (labels_of f h m))

  abbrev pub items : Forest
  items = plain_list (slot_of f h m) (trees_of m.new)

  -- what is tidied
  abbrev pub body_before : Forest
  body_before = join decls items

  pub moved_ready : Everywhere (Ready h) body_before
  moved_ready =
      join_everywhere (Ready h) decls items (declarations_ready h (slot_of f h m) _ _ decls (are_declared (reached_of f h m) (labels_of f h m)))
      (plain_everywhere (slot_of f h m) IsBare (Ready h) (bare_ready h (slot_of f h m)) (trees_of m.new)
      (everywhere_both IsConverted (λ x. IsNoLeap x × (HasEntries x × IsPlainFor x)) (trees_of m.new) m.made.converted
      (everywhere_both IsNoLeap (λ x. HasEntries x × IsPlainFor x) (trees_of m.new) m.leapless
      (everywhere_both HasEntries IsPlainFor (trees_of m.new) m.made.entries m.made.loops))))

  pub moved_length : length h.slots ≡ length m.flat_form.slots + length (labels_of f h m)
  moved_length =
      ap length (moved_slots f h m params)
      ∙ length-append m.flat_form.slots (map guard_slot (names_left m.new 0 m.names))
      ∙ ap (λ n. length m.flat_form.slots + n) (slots_left m.new 0 m.names)

  flat_params : m.flat_form.params ≤ length m.flat_form.slots
  flat_params = let w = m.is_flat in let e = w.more_slots in let p = w.params in omega (arith, e, params, p)

  -- the declarations are those of all variables that are no parameters
  pub declarations_gathered : gathered declared_slot decls ≡ numbers_from h.params (length h.slots - h.params)
  declarations_gathered =
      declared_gathered (reached_of f h m) (labels_of f h m) flat_params
      ∙ (λ i. numbers_from (sym (moved_params f h m params ∙ m.is_flat.params) i) (sym moved_length i - sym (moved_params f h m params ∙ m.is_flat.params) i))

  moved_gathered : gathered declared_slot body_before ≡ numbers_from h.params (length h.slots - h.params)
  moved_gathered =
      gathered_join declared_slot decls items
      ∙ ap₂ (λ k l. k ++ l) declarations_gathered (undeclared h (slot_of f h m) (trees_of m.new) m.made.converted)
      ∙ no_more (numbers_from h.params (length h.slots - h.params))
    where
      no_more : (xs : List ℕ) → xs ++ [] ≡ xs
      no_more [] = refl
      no_more (x ∷ xs) = ap (λ l. x ∷ l) (no_more xs)

  moved_exits : breaks body_before + continues body_before ≡ 0
  moved_exits =
      let d = declarations_exit _ _ decls (are_declared (reached_of f h m) (labels_of f h m)) in
      let i = d.0 in
      let j = d.1 in
      let b = breaks-join decls items in
      let c = continues-join decls items in
      let p = breaks_plain h (slot_of f h m) (trees_of m.new) in
      let q = continues_plain h (slot_of f h m) (trees_of m.new) in
      let e = m.made.bound in omega (arith, i, j, b, c, p, q, e)

  pub moved_within : h.params ≤ length h.slots
  moved_within = let e = moved_length in let p = moved_params f h m params in let g = m.is_flat.params in let w = flat_params in omega (arith, e, p, g, w)

  pub moved_form : HasForm h
  moved_form =
      tidied_form h body_before (plain_trees f h m) (ap (λ (k : Function). k.flat) m.plain) (ap (λ (k : Function). is_some k.body) m.plain)
      (ap (λ (k : Function). k.labels) m.plain) moved_within
      moved_ready moved_gathered moved_exits

-- ---- a body without jumps and labels

alike_left : (ss : List Slot) (s : Slot) (a : Forest) → AreAlike ss s a → unlabelled a ≡ a
alike_left ss s Nil h = refl
alike_left ss s (Then (Local k given) a) h = ap (Then (Local k given)) (alike_left ss s a h.1)
alike_left ss s (Then _ a) h = absurd h

first_left : (ss : List Slot) (a : Forest) → IsFirstPart ss a → unlabelled a ≡ a
first_left ss Nil h = refl
first_left ss (Then (Evaluate e) Nil) h = refl
first_left ss (Then (Local k given) a) h = let s = the_some _ (slice_get ss k) h in ap (Then (Local k given)) (alike_left ss s.0 a s.2)
first_left ss _ h = absurd h

entered_left : (c : Sections) → AreSections c → AllEntered (unlabelled_among c)
entered_left NoSection h = tt
entered_left (Section cases default a ends c) h = (h.0, entered_left c h.4)

tidied_leaf : (ss : List Slot) (x : Tree) → IsLeaf x → IsTidied ss x
tidied_leaf ss (For first t u a) i = absurd i
tidied_leaf ss (Switch s c) i = absurd i
tidied_leaf ss x i = tt

left_tidied : (f : Function) → IsLeft (HasSourceForm f) (IsTidied f.slots)
left_tidied f = record {
  ifs = λ t a b h. tt;
  whiles = λ t a h. tt;
  dos = λ t a h. tt;
  fors = λ first t u a h. subst (IsFirstPart f.slots) (sym (first_left f.slots first h)) h;
  switches = λ s c h. entered_left c h.0;
  blocks = λ a h. tt;
  leaves = λ x i h. tidied_leaf f.slots x i;
}

module _ (g : Tree → List ℕ) (none : (l : ℕ) → g (Mark l) ≡ []) where
  one_gathered : (x : Tree) (r : List ℕ) → gathered_of g x ≡ r → gathered g (Then x Nil) ≡ r
  one_gathered x r e = no_more (gathered_of g x) ∙ e
    where
      no_more : (xs : List ℕ) → xs ++ [] ≡ xs
      no_more [] = refl
      no_more (y ∷ xs) = ap (λ l. y ∷ l) (no_more xs)

  both_lists : (a b c d : List ℕ) → a ≡ c → b ≡ d → a ++ b ≡ c ++ d
  both_lists a b c d e f = (λ i. e i ++ f i)

  mutual
    gathered_left : (a : Forest) → gathered g (unlabelled a) ≡ gathered g a
    gathered_left Nil = refl
    gathered_left (Then x a) = gathered_join g (unlabelled_item x) (unlabelled a) ∙
        both_lists (gathered g (unlabelled_item x)) (gathered g (unlabelled a)) (gathered_of g x) (gathered g a) (gathered_left_of x) (gathered_left a)

    gathered_left_of : (x : Tree) → gathered g (unlabelled_item x) ≡ gathered_of g x
    gathered_left_of (If t a b) = one_gathered (If t (unlabelled a) (unlabelled b))
        _ (both_lists (gathered g (unlabelled a)) (gathered g (unlabelled b)) (gathered g a) (gathered g b) (gathered_left a) (gathered_left b))
    gathered_left_of (While t a) = one_gathered (While t (unlabelled a)) _ (gathered_left a)
    gathered_left_of (Do a t) = one_gathered (Do (unlabelled a) t) _ (gathered_left a)
    gathered_left_of (For first t u a) =
        one_gathered (For (unlabelled first) t u (unlabelled a))
        _ (both_lists (gathered g (unlabelled first)) (gathered g (unlabelled a)) (gathered g first) (gathered g a) (gathered_left first) (gathered_left a))
    gathered_left_of (Switch s c) = one_gathered (Switch s (unlabelled_among c)) _ (gathered_left_in c)
    gathered_left_of (Block a) = one_gathered (Block (unlabelled a)) _ (gathered_left a)
    gathered_left_of (Mark l) = sym (none l)
    gathered_left_of (Evaluate e) = one_gathered (Evaluate e) _ refl
    gathered_left_of (Return e) = one_gathered (Return e) _ refl
    gathered_left_of (Local x es) = one_gathered (Local x es) _ refl
    gathered_left_of Break = one_gathered Break _ refl
    gathered_left_of Continue = one_gathered Continue _ refl
    gathered_left_of (Goto l) = one_gathered (Goto l) _ refl
    gathered_left_of (Arm l e) = one_gathered (Arm l e) _ refl
    gathered_left_of (Leap l) = one_gathered (Leap l) _ refl
    gathered_left_of (Land l) = one_gathered (Land l) _ refl
    gathered_left_of (Arrival e) = one_gathered (Arrival e) _ refl
    gathered_left_of (Note bs) = one_gathered (Note bs) _ refl

    gathered_left_in : (c : Sections) → gathered_in g (unlabelled_among c) ≡ gathered_in g c
    gathered_left_in NoSection = refl
    gathered_left_in (Section cases default a ends c) = both_lists (gathered g (unlabelled a)) (gathered_in g (unlabelled_among c)) (gathered g a)
        (gathered_in g c) (gathered_left a) (gathered_left_in c)

mutual
  breaks_left : (a : Forest) → breaks (unlabelled a) ≡ breaks a
  breaks_left Nil = refl
  breaks_left (Then x a) = let e = breaks-join (unlabelled_item x) (unlabelled a) in let i = breaks_left_of x in let j = breaks_left a in omega (arith, e, i, j)

  breaks_left_of : (x : Tree) → breaks (unlabelled_item x) ≡ breaks_of x
  breaks_left_of (If t a b) = let i = breaks_left a in let j = breaks_left b in omega (arith, i, j)
  breaks_left_of (For first t u a) = let i = breaks_left first in omega (arith, i)
  breaks_left_of (Block a) = let i = breaks_left a in omega (arith, i)
  breaks_left_of (Mark l) = refl
  breaks_left_of x = omega arith

mutual
  continues_left : (a : Forest) → continues (unlabelled a) ≡ continues a
  continues_left Nil = refl
  continues_left (Then x a) = let e = continues-join (unlabelled_item x) (unlabelled a) in let i = continues_left_of x in let j = continues_left a in
      omega (arith, e, i, j)

  continues_left_of : (x : Tree) → continues (unlabelled_item x) ≡ continues_of x
  continues_left_of (If t a b) = let i = continues_left a in let j = continues_left b in omega (arith, i, j)
  continues_left_of (For first t u a) = let i = continues_left first in omega (arith, i)
  continues_left_of (Switch s c) = let i = continues_left_in c in omega (arith, i)
  continues_left_of (Block a) = let i = continues_left a in omega (arith, i)
  continues_left_of (Mark l) = refl
  continues_left_of x = omega arith

  continues_left_in : (c : Sections) → continues_in (unlabelled_among c) ≡ continues_in c
  continues_left_in NoSection = refl
  continues_left_in (Section cases default a ends c) = let i = continues_left a in let j = continues_left_in c in omega (arith, i, j)

module _ (f h : Function) (m : IsUnmovedForm f h) (s : IsSourceFunction f) (form : HasForm f) where
  pub left_plain : Everywhere IsPlainItem (unlabelled (body_of f))
  left_plain = left (IsCalmItem (without_labels f f)) IsPlainItem (plain_left (without_labels f f)) (body_of f) (source_calm f s m.free)

  pub unmoved_ready : Everywhere (Ready h) (unlabelled (body_of f))
  unmoved_ready =
      subst (λ ss. Everywhere (λ x. IsPlainItem x × IsTidied ss x) (unlabelled (body_of f))) (sym (unmoved_slots f h m))
      (everywhere_both IsPlainItem (IsTidied f.slots) (unlabelled (body_of f)) left_plain
      (left (HasSourceForm f) (IsTidied f.slots) (left_tidied f) (body_of f) form.items))

  pub unmoved_form : HasForm h
  unmoved_form =
      tidied_form h (unlabelled (body_of f)) (left_trees f h m)
      (ap (λ (k : Function). k.flat) m.plain ∙ m.is_left.flat) (ap (λ (k : Function). is_some k.body) m.plain)
      (ap (λ (k : Function). k.labels) m.plain ∙ m.is_left.labels)
      (subst (λ n. n ≤ length h.slots) (sym (unmoved_params f h m)) (subst (λ ss. f.params ≤ length ss) (sym (unmoved_slots f h m)) form.parameters))
      unmoved_ready
      (gathered_left declared_slot (λ l. refl) (body_of f) ∙ form.slots ∙
      (λ i. numbers_from (sym (unmoved_params f h m) i) (length (sym (unmoved_slots f h m) i) - sym (unmoved_params f h m) i)))
      ((λ i. breaks_left (body_of f) i + continues_left (body_of f) i) ∙ form.exits)
