-- The parts of a line are given by the line.
use Rattle.std.proofs.Common.{◌≡◌, ℕ, List, [], ◌∷◌, ◌++◌, Bool, true, false, Option, Some, None, refl, sym, ap, subst, ◌∙◌, arith}
use Rattle.std.specs.Fmt.{decimal}
use Rattle.std.proofs.lemmas.Fmt.{decimal_injective}
use Rattle.c_types.specs.Words.{is_digit}
use Rattle.c_tree.specs.declared.tree.Branch.{Branch}
use Rattle.c_tree.specs.declared.tree.Branch.TheVariants as B
use Rattle.c_tree.specs.declared.tree.Step.{Step}
use Rattle.c_tree.specs.declared.tree.Path.{Path}
use Rattle.report_moves.specs.declared.moves.MoveKind.{MoveKind}
use Rattle.report_moves.specs.declared.moves.MoveKind.TheVariants.{Out, Lift, Inward, Join}
use Rattle.report_moves.specs.declared.moves.Move.{Move}
use Rattle.report_moves.specs.Report.{Of, is_no_space, is_no_dot, kind_text, kind_of, label_text, branch_text, steps_text, path_text, move_text, names_label, HasLabel, IsNumber, IsBranch, AreSteps, IsReportable}
use Rattle.report_moves.proofs.Fronts.{front_unique, digits, name_front, kind_front, branch_front}

-- numbers and branches

pub number_unique : (m n : ℕ) → IsNumber m → IsNumber n → decimal m ≡ decimal n → m ≡ n
number_unique m n p q e = decimal_injective m n (omega arith) (omega arith) e

abbrev first : List ℕ → ℕ
first [] = 0
first (c ∷ cs) = c

pub branch_unique : (b d : Branch) → IsBranch b → IsBranch d → branch_text b ≡ branch_text d → b ≡ d
branch_unique (B.Section j) (B.Section k) p q e =
    let f : decimal j ≡ decimal k = cc in
    ap B.Section (number_unique j k p q f)
branch_unique B.Body B.Body p q e = refl
branch_unique B.Then B.Then p q e = refl
branch_unique B.Else B.Else p q e = refl
branch_unique b d p q e = absurd (omega (arith, ap first e))

-- kinds and labels

pub kind_known : (k : MoveKind) → kind_of (kind_text k) ≡ Some k
kind_known Out = refl
kind_known Lift = refl
kind_known Inward = refl
kind_known Join = refl
kind_known _ = refl

pub kind_unique : (j k : MoveKind) → kind_text j ≡ kind_text k → j ≡ k
kind_unique j k e = let f : Some j ≡ Some k = sym (kind_known j) ∙ ap kind_of e ∙ kind_known k in cc

pub label_front : (names : Bool) (label : Option (List ℕ)) → HasLabel names label → Of is_no_space (label_text label)
label_front true (Some name) h = name_front name h
label_front true None h = absurd h
label_front false (Some name) h = cc
label_front false None h = (refl, tt)

pub label_unique : (names : Bool) (l m : Option (List ℕ)) → HasLabel names l → HasLabel names m → label_text l ≡ label_text m → l ≡ m
label_unique true (Some x) (Some y) p q e = ap Some e
label_unique true None m p q e = absurd p
label_unique true l None p q e = absurd q
label_unique false l m p q e = p ∙ sym q

same_step : (s t : Step) → s.item ≡ t.item → s.branch ≡ t.branch → s ≡ t
same_step s t p q = ap (λ i. record s { item = i }) p ∙ ap (λ (b : Branch). record t { branch = b }) q

marks_differ : (a b : ℕ) → a ≡ 10 → b ≡ 46 → a ≡ b → ⊥
marks_differ a b p q e = omega arith

-- paths, before a byte that is no digit and no dot

pub path_unique : (ss ts : List Step) (i j : ℕ) (r s : List ℕ) → AreSteps ss → AreSteps ts → IsNumber i → IsNumber j
    → steps_text ss (decimal i ++ 10 ∷ r) ≡ steps_text ts (decimal j ++ 10 ∷ s) → (ss ≡ ts) × (i ≡ j) × (r ≡ s)
path_unique [] [] i j r s p q m n e =
    let u = front_unique is_digit (decimal i) (decimal j) r s 10 10 (digits i (omega arith)) (digits j (omega arith)) refl refl e in
    (refl, number_unique i j m n u.0, u.2)
path_unique [] (t ∷ ts) i j r s p q m n e =
    let u = front_unique is_digit (decimal i) (decimal t.item) r (branch_text t.branch ++ 46 ∷ steps_text ts (decimal j ++ 10 ∷ s)) 10 46
    (digits i (omega arith)) (digits t.item (omega (arith, q.0))) refl refl e in
    absurd (marks_differ 10 46 refl refl u.1)
path_unique (t ∷ ts) [] i j r s p q m n e =
    let u = front_unique is_digit (decimal t.item) (decimal j) (branch_text t.branch ++ 46 ∷ steps_text ts (decimal i ++ 10 ∷ r)) s 46 10
    (digits t.item (omega (arith, p.0))) (digits j (omega arith)) refl refl e in
    absurd (marks_differ 10 46 refl refl (sym u.1))
path_unique (t ∷ ts) (w ∷ ws) i j r s p q m n e =
    let u = front_unique is_digit (decimal t.item) (decimal w.item) (branch_text t.branch ++ 46 ∷ steps_text ts (decimal i ++ 10 ∷ r))
    (branch_text w.branch ++ 46 ∷ steps_text ws (decimal j ++ 10 ∷ s)) 46 46
    (digits t.item (omega (arith, p.0))) (digits w.item (omega (arith, q.0))) refl refl e in
    let v = front_unique is_no_dot (branch_text t.branch) (branch_text w.branch) (steps_text ts (decimal i ++ 10 ∷ r))
    (steps_text ws (decimal j ++ 10 ∷ s)) 46 46
    (branch_front t.branch p.1) (branch_front w.branch q.1) refl refl u.2 in
    let more = path_unique ts ws i j r s p.2 q.2 m n v.2 in
    let a : t.item ≡ w.item = number_unique t.item w.item p.0 q.0 u.0 in
    let b : t.branch ≡ w.branch = branch_unique t.branch w.branch p.1 q.1 v.0 in
    let c : ts ≡ ws = more.0 in
    let d : t ≡ w = same_step t w a b in
    (cc, more.1, more.2)

-- a whole line

same_move : (m n : Move) → m.function ≡ n.function → m.kind ≡ n.kind → m.label ≡ n.label → m.path ≡ n.path → m ≡ n
same_move m n p q r s =
    ap (λ f. record m { function = f }) p ∙ ap (λ (k : MoveKind). record m { function = n.function; kind = k }) q
    ∙ ap (λ (l : Option (List ℕ)). record n { label = l; path = m.path }) r ∙ ap (λ (w : Path). record n { path = w }) s

same_path : (a b : Path) → a.steps ≡ b.steps → a.item ≡ b.item → a ≡ b
same_path a b p q = ap (λ (z : List Step). record a { steps = z }) p ∙ ap (λ i. record b { item = i }) q

pub line_unique : (m n : Move) (r s : List ℕ) → IsReportable m → IsReportable n → move_text m r ≡ move_text n s → (m ≡ n) × (r ≡ s)
line_unique m n r s p q e =
    let a = front_unique is_no_space m.function n.function (kind_text m.kind ++ 32 ∷ (label_text m.label ++ 32 ∷ path_text m.path (10 ∷ r)))
    (kind_text n.kind ++ 32 ∷ (label_text n.label ++ 32 ∷ path_text n.path (10 ∷ s))) 32 32
    (name_front m.function p.function) (name_front n.function q.function) refl refl e in
    let b = front_unique is_no_space (kind_text m.kind) (kind_text n.kind) (label_text m.label ++ 32 ∷ path_text m.path (10 ∷ r))
    (label_text n.label ++ 32 ∷ path_text n.path (10 ∷ s)) 32 32
    (kind_front m.kind) (kind_front n.kind) refl refl a.2 in
    let k = kind_unique m.kind n.kind b.0 in
    let c = front_unique is_no_space (label_text m.label) (label_text n.label) (path_text m.path (10 ∷ r)) (path_text n.path (10 ∷ s)) 32 32
    (label_front (names_label m.kind) m.label p.label) (label_front (names_label n.kind) n.label q.label) refl refl b.2 in
    let l = label_unique (names_label n.kind) m.label n.label (subst (λ z. HasLabel (names_label z) m.label) k p.label) q.label c.0 in
    let w = path_unique m.path.steps n.path.steps m.path.item n.path.item r s p.path.0 q.path.0 p.path.1 q.path.1 c.2 in
    (same_move m n a.0 k l (same_path m.path n.path w.0 w.1), w.2)
