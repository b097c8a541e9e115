-- What a change keeps of a body: its declarations, its labels, what leaves it, its cases, and how deep it nests.
use Rattle.std.proofs.Common.{ℕ, suc, ◌+◌, ◌≤◌, Bool, true, false, List, [], ◌++◌, ◌≡◌, refl, sym, ap, ◌∙◌, true≢false, arith, append_assoc, append-nil}
use Rattle.c_tree.specs.ExpressionTrees.{ExpressionTree}
use Rattle.c_tree.specs.Cases.{all_cases}
use Rattle.c_tree.specs.Exits.{breaks, breaks_of, continues, continues_of, continues_in}
use Rattle.c_tree.specs.Trees.{Tree, Forest, Nil, Then, Sections, Evaluate, Break, Continue, join}
use Rattle.c_resolved_defs.specs.Form.{gathered, gathered_of, gathered_in}
use Rattle.c_resolved_defs.specs.PrintableStatements.{depth, depth_of, depth_in}
use Rattle.c_resolved_defs.specs.Switches.{arrivals, arrivals_of, switch_labels, section_labels}
use Rattle.tidy_laws.specs.Tails.{reset}
use Rattle.tidy_laws.specs.Settles.{jump_by}
use Rattle.whole_laws.proofs.UnmovedSpelled.{depth_if, depth_join}
use Rattle.whole_laws.proofs.PlainCases.{arrivals_join}
use Rattle.tidy_result_laws.proofs.Trims.{setting, Trim, t_nil, t_then, t_given, t_left, t_left_if, t_reset, TrimItem, i_same, i_if, i_while, i_do, i_for, i_switch, i_block, i_checked, TrimSections, s_none, s_more}

both_lists : {A : Type 0} (a b c d : List A) → a ≡ c → b ≡ d → a ++ b ≡ c ++ d
both_lists a b c d e f = (λ i. e i ++ f i)

-- ---- numbers in text order, where statements and jumps have none

pub record IsOfLeaves (f : Tree → List ℕ) : Type 0 where
  pub evaluate : (e : ExpressionTree) → f (Evaluate e) ≡ []
  pub break : f Break ≡ []
  pub continue : f Continue ≡ []

module _ (g : ℕ) (f : Tree → List ℕ) (none : IsOfLeaves f) where
  pub gathered_join : (a b : Forest) → gathered f (join a b) ≡ gathered f a ++ gathered f b
  gathered_join Nil b = refl
  gathered_join (Then x a) b = ap (λ l. gathered_of f x ++ l) (gathered_join a b) ∙ sym (append_assoc (gathered_of f x) (gathered f a) (gathered f b))

  jump_none : (leave : Bool) → gathered_of f (jump_by leave) ≡ []
  jump_none true = none.break
  jump_none false = none.continue

  leads : (a b c : List ℕ) → a ≡ [] → b ≡ c → a ++ b ≡ c
  leads a b c e h = (λ i. e i ++ h i)

  mutual
    pub trim_gathered : {b : Bool} {n : ℕ} {a c : Forest} → Trim g b n a c → gathered f c ≡ gathered f a
    trim_gathered t_nil = refl
    trim_gathered (t_then {x = x} {y = y} {xs = xs} {ys = ys} i h) = both_lists (gathered_of f y) (gathered f ys) (gathered_of f x) (gathered f xs)
        (item_gathered i) (trim_gathered h)
    trim_gathered (t_given e {a = a} {c = c} {xs = xs} {ys = ys} k q h) =
        gathered_join c ys ∙ both_lists (gathered f c) (gathered f ys) (gathered f a ++ []) (gathered f xs)
        (trim_gathered k ∙ sym (append-nil (gathered f a))) (trim_gathered h)
    trim_gathered (t_left leave k e {xs = xs} {ys = ys} q h) = both_lists (gathered_of f (jump_by leave)) (gathered f ys) (f (setting g k e))
        (gathered f xs) (jump_none leave ∙ sym (none.evaluate _)) (trim_gathered h)
    trim_gathered (t_left_if leave k e {xs = xs} {ys = ys} q l h) =
        both_lists ((gathered_of f (jump_by leave) ++ []) ++ []) (gathered f ys) (f (setting g k e)) (gathered f xs)
        (append-nil (gathered_of f (jump_by leave) ++ []) ∙ append-nil (gathered_of f (jump_by leave)) ∙ jump_none leave ∙ sym (none.evaluate _))
        (trim_gathered h)
    trim_gathered (t_reset {xs = xs} {ys = ys} h) = trim_gathered h ∙ sym (leads (f (reset g)) (gathered f xs) (gathered f xs) (none.evaluate _) refl)

    item_gathered : {b : Bool} {n : ℕ} {x y : Tree} → TrimItem g b n x y → gathered_of f y ≡ gathered_of f x
    item_gathered (i_same x) = refl
    item_gathered (i_if t {a = a} {c = c} {d = d} {e = e} h k) = both_lists (gathered f c) (gathered f e) (gathered f a) (gathered f d)
        (trim_gathered h) (trim_gathered k)
    item_gathered (i_while t h) = trim_gathered h
    item_gathered (i_do t h) = trim_gathered h
    item_gathered (i_for first t u {a = a} {c = c} h) = ap (λ l. gathered f first ++ l) (trim_gathered h)
    item_gathered (i_switch s h) = sections_gathered h
    item_gathered (i_block h) = trim_gathered h
    item_gathered (i_checked e {a = a} h) = trim_gathered h ∙ sym (append-nil (gathered f a))

    sections_gathered : {n : ℕ} {c d : Sections} → TrimSections g n c d → gathered_in f d ≡ gathered_in f c
    sections_gathered s_none = refl
    sections_gathered (s_more cases default ends {a = a} {b = b} {c = c} {d = d} h k) =
        both_lists (gathered f b) (gathered_in f d) (gathered f a) (gathered_in f c) (trim_gathered h) (sections_gathered k)

-- ---- nested case labels

jump_arrives : (leave : Bool) → arrivals_of (jump_by leave) ≡ []
jump_arrives true = refl
jump_arrives false = refl

module _ (g : ℕ) where
  mutual
    pub trim_arrivals : {b : Bool} {n : ℕ} {a c : Forest} → Trim g b n a c → arrivals c ≡ arrivals a
    trim_arrivals t_nil = refl
    trim_arrivals (t_then {x = x} {y = y} {xs = xs} {ys = ys} i h) = both_lists (arrivals_of y) (arrivals ys) (arrivals_of x) (arrivals xs)
        (item_arrivals i) (trim_arrivals h)
    trim_arrivals (t_given e {a = a} {c = c} {xs = xs} {ys = ys} k q h) =
        arrivals_join c ys ∙ both_lists (arrivals c) (arrivals ys) (arrivals a ++ []) (arrivals xs) (trim_arrivals k ∙ sym (append-nil (arrivals a)))
        (trim_arrivals h)
    trim_arrivals (t_left leave k e {xs = xs} {ys = ys} q h) = both_lists (arrivals_of (jump_by leave)) (arrivals ys) [] (arrivals xs)
        (jump_arrives leave) (trim_arrivals h)
    trim_arrivals (t_left_if leave k e {xs = xs} {ys = ys} q l h) =
        both_lists ((arrivals_of (jump_by leave) ++ []) ++ []) (arrivals ys) [] (arrivals xs)
        (append-nil (arrivals_of (jump_by leave) ++ []) ∙ append-nil (arrivals_of (jump_by leave)) ∙ jump_arrives leave) (trim_arrivals h)
    trim_arrivals (t_reset h) = trim_arrivals h

    item_arrivals : {b : Bool} {n : ℕ} {x y : Tree} → TrimItem g b n x y → arrivals_of y ≡ arrivals_of x
    item_arrivals (i_same x) = refl
    item_arrivals (i_if t {a = a} {c = c} {d = d} {e = e} h k) = both_lists (arrivals c) (arrivals e) (arrivals a) (arrivals d) (trim_arrivals h)
        (trim_arrivals k)
    item_arrivals (i_while t h) = trim_arrivals h
    item_arrivals (i_do t h) = trim_arrivals h
    item_arrivals (i_for first t u h) = trim_arrivals h
    item_arrivals (i_switch s h) = refl
    item_arrivals (i_block h) = trim_arrivals h
    item_arrivals (i_checked e {a = a} h) = trim_arrivals h ∙ sym (append-nil (arrivals a))

  pub sections_labels : {n : ℕ} {c d : Sections} → TrimSections g n c d → switch_labels d ≡ switch_labels c
  sections_labels s_none = refl
  sections_labels (s_more cases default ends {a = a} {b = b} {c = c} {d = d} h k) =
      ap (λ l. section_labels cases default ++ l) (both_lists (arrivals b) (switch_labels d) (arrivals a) (switch_labels c) (trim_arrivals h)
      (sections_labels k))

  pub sections_cases : {n : ℕ} {c d : Sections} → TrimSections g n c d → all_cases d ≡ all_cases c
  sections_cases s_none = refl
  sections_cases (s_more cases default ends h k) = ap (λ l. cases ++ l) (sections_cases k)

  -- ---- what leaves a list, where no jump is put

  no_jump : {A : Type 0} → false ≡ true → A
  no_jump e = absurd (true≢false (sym e))

  breaks_join : (a b : Forest) → breaks (join a b) ≡ breaks a + breaks b
  breaks_join Nil b = omega arith
  breaks_join (Then x a) b = let e = breaks_join a b in omega (arith, e)

  continues_join : (a b : Forest) → continues (join a b) ≡ continues a + continues b
  continues_join Nil b = omega arith
  continues_join (Then x a) b = let e = continues_join a b in omega (arith, e)

  mutual
    pub trim_breaks : {b : Bool} {n : ℕ} {a c : Forest} → b ≡ false → Trim g b n a c → breaks c ≡ breaks a
    trim_breaks z t_nil = refl
    trim_breaks z (t_then {x = x} {y = y} {xs = xs} {ys = ys} i h) = let j = item_breaks z i in let k = trim_breaks z h in omega (arith, j, k)
    trim_breaks z (t_given e {c = c} {ys = ys} k q h) = let j = breaks_join c ys in let l = trim_breaks z k in let m = trim_breaks z h in omega (arith, j, l, m)
    trim_breaks z (t_left leave k e q h) = no_jump (sym z ∙ q)
    trim_breaks z (t_left_if leave k e q l h) = no_jump (sym z ∙ q)
    trim_breaks z (t_reset h) = let k = trim_breaks z h in omega (arith, k)

    item_breaks : {b : Bool} {n : ℕ} {x y : Tree} → b ≡ false → TrimItem g b n x y → breaks_of y ≡ breaks_of x
    item_breaks z (i_same x) = refl
    item_breaks z (i_if t h k) = let j = trim_breaks z h in let l = trim_breaks z k in omega (arith, j, l)
    item_breaks z (i_while t h) = refl
    item_breaks z (i_do t h) = refl
    item_breaks z (i_for first t u h) = refl
    item_breaks z (i_switch s h) = refl
    item_breaks z (i_block h) = trim_breaks z h
    item_breaks z (i_checked e h) = let j = trim_breaks z h in omega (arith, j)

  mutual
    pub trim_continues : {b : Bool} {n : ℕ} {a c : Forest} → b ≡ false → Trim g b n a c → continues c ≡ continues a
    trim_continues z t_nil = refl
    trim_continues z (t_then i h) = let j = item_continues z i in let k = trim_continues z h in omega (arith, j, k)
    trim_continues z (t_given e {c = c} {ys = ys} k q h) = let j = continues_join c ys in let l = trim_continues z k in let m = trim_continues z h in
        omega (arith, j, l, m)
    trim_continues z (t_left leave k e q h) = no_jump (sym z ∙ q)
    trim_continues z (t_left_if leave k e q l h) = no_jump (sym z ∙ q)
    trim_continues z (t_reset h) = let k = trim_continues z h in omega (arith, k)

    item_continues : {b : Bool} {n : ℕ} {x y : Tree} → b ≡ false → TrimItem g b n x y → continues_of y ≡ continues_of x
    item_continues z (i_same x) = refl
    item_continues z (i_if t h k) = let j = trim_continues z h in let l = trim_continues z k in omega (arith, j, l)
    item_continues z (i_while t h) = refl
    item_continues z (i_do t h) = refl
    item_continues z (i_for first t u h) = refl
    item_continues z (i_switch s h) = sections_continue h
    item_continues z (i_block h) = trim_continues z h
    item_continues z (i_checked e h) = let j = trim_continues z h in omega (arith, j)

    sections_continue : {n : ℕ} {c d : Sections} → TrimSections g n c d → continues_in d ≡ continues_in c
    sections_continue s_none = refl
    sections_continue (s_more cases default ends h k) = let j = trim_continues refl h in let l = sections_continue k in omega (arith, j, l)

-- ---- nesting

jump_depth : (leave : Bool) → depth_of (jump_by leave) ≡ 0
jump_depth true = refl
jump_depth false = refl

module _ (g : ℕ) where
  mutual
    -- a list at this level
    pub trim_depth : {b : Bool} {n : ℕ} {a c : Forest} → Trim g b n a c → n ≤ 400 → n + depth a ≤ 400 → n + depth c ≤ 400
    trim_depth t_nil l m = m
    trim_depth {n = n} (t_then {x = x} {y = y} {xs = xs} {ys = ys} i h) l m = let j = item_depth i l (omega (arith, m)) in let k =
        trim_depth h l
        (omega (arith, m)) in omega (arith, j, k)
    trim_depth {n = n} (t_given e {a = a} {c = c} {xs = xs} {ys = ys} k q h) l m =
        let i : suc n + depth a ≤ 400 = omega (arith, m) in
        let j = trim_depth k (omega (arith, i)) i in
        let o = trim_depth h l (omega (arith, m)) in
        let p = depth_join c ys in omega (arith, j, o, p)
    trim_depth (t_left leave k e q h) l m = let j = trim_depth h l (omega (arith, m)) in let d = jump_depth leave in omega (arith, j, d)
    trim_depth (t_left_if leave k e q low h) l m = let j = trim_depth h l (omega (arith, m)) in let d = jump_depth leave in omega (arith, j, d, low)
    trim_depth (t_reset h) l m = trim_depth h l (omega (arith, m))

    item_depth : {b : Bool} {n : ℕ} {x y : Tree} → TrimItem g b n x y → n ≤ 400 → n + depth_of x ≤ 400 → n + depth_of y ≤ 400
    item_depth (i_same x) l m = m
    item_depth {n = n} (i_if t {a = a} {c = c} {d = d} {e = e} h k) l m =
        let p = depth_if t a d in
        let q = depth_if t c e in
        let i : suc n + depth a ≤ 400 = omega (arith, m, p) in
        let o : suc n + depth d ≤ 400 = omega (arith, m, p) in
        let j = trim_depth h (omega (arith, i)) i in
        let r = trim_depth k (omega (arith, i)) o in omega (arith, j, r, q)
    item_depth {n = n} (i_while {a = a} t h) l m = let i : suc n + depth a ≤ 400 = omega (arith, m) in let j = trim_depth h (omega (arith, i)) i in
        omega (arith, j)
    item_depth {n = n} (i_do {a = a} t h) l m = let i : suc n + depth a ≤ 400 = omega (arith, m) in let j = trim_depth h (omega (arith, i)) i in
        omega (arith, j)
    item_depth {n = n} (i_for first t u {a = a} h) l m = let i : suc n + depth a ≤ 400 = omega (arith, m) in let j =
        trim_depth h (omega (arith, i))
        i in omega (arith, j)
    item_depth {n = n} (i_switch s {c = c} h) l m = let i : suc n + depth_in c ≤ 400 = omega (arith, m) in let j =
        sections_depth h (omega (arith, i))
        i in omega (arith, j)
    item_depth {n = n} (i_block {a = a} h) l m = let i : suc n + depth a ≤ 400 = omega (arith, m) in let j = trim_depth h (omega (arith, i)) i in
        omega (arith, j)
    item_depth {n = n} (i_checked e {a = a} h) l m = let i : suc n + depth a ≤ 400 = omega (arith, m) in let j = trim_depth h (omega (arith, i)) i in
        omega (arith, j)

    sections_depth : {n : ℕ} {c d : Sections} → TrimSections g n c d → n ≤ 400 → n + depth_in c ≤ 400 → n + depth_in d ≤ 400
    sections_depth s_none l m = m
    sections_depth (s_more cases default ends h k) l m = let i = trim_depth h l (omega (arith, m)) in let j = sections_depth k l (omega (arith, m)) in
        omega (arith, i, j)
