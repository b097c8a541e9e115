-- The steps of a path, one by one.
use Rattle.std.proofs.Common.{◌≡◌, ◌≢◌, ℕ, ◌<◌, List, [], ◌∷◌, ◌++◌, length, true, refl, sym, ap, subst, ◌∙◌, arith, append_assoc}
use Rattle.std.proofs.lemmas.List.{append-nil}
use Rattle.std.proofs.lemmas.Bool.Decides.{nat_tests}
use Rattle.std.specs.Fmt.{decimal}
use Rattle.c_types.specs.Words.{is_digit}
use Rattle.c_tree.specs.declared.tree.Branch.{Branch}
use Rattle.c_tree.specs.declared.tree.Branch.TheVariants as B
use Rattle.c_tree.specs.declared.tree.Step.{Step}
use Rattle.c_tree.specs.declared.tree.Path.{Path}
use Rattle.report_moves.specs.Report.{Of, is_no_dot, is_no_newline, branch_text, steps_text, path_text, IsNumber, IsBranch, AreSteps, IsPath}
use Rattle.report_moves.proofs.Fronts.{front_unique, wider, digits, digit_no_dot, branch_front}
use Rattle.move_report.specs.Reading.{Lacks, IsCut, IsStep, HasNoStep}
use Rattle.move_report.proofs.Cuts.{of_append, lacks_not}

pub steps_append : (ss ts : List Step) (r : List ℕ) → steps_text (ss ++ ts) r ≡ steps_text ss (steps_text ts r)
steps_append [] ts r = refl
steps_append (s ∷ ss) ts r = ap (λ z. decimal s.item ++ 46 ∷ (branch_text s.branch ++ 46 ∷ z)) (steps_append ss ts r)

pub steps_then : (ss : List Step) (x y : List ℕ) → steps_text ss (x ++ y) ≡ steps_text ss x ++ y
steps_then [] x y = refl
steps_then (s ∷ ss) x y =
    ap (λ z. decimal s.item ++ 46 ∷ (branch_text s.branch ++ 46 ∷ z)) (steps_then ss x y)
    ∙ sym (append_assoc (decimal s.item) (46 ∷ (branch_text s.branch ++ 46 ∷ steps_text ss x)) y ∙
    ap (λ z. decimal s.item ++ 46 ∷ z) (append_assoc (branch_text s.branch) (46 ∷ steps_text ss x) y))

pub good_append : (ss ts : List Step) → AreSteps ss → AreSteps ts → AreSteps (ss ++ ts)
good_append [] ts p q = q
good_append (s ∷ ss) ts p q = (p.0, p.1, good_append ss ts p.2 q)

digit_line : (c : ℕ) → is_digit c ≡ true → is_no_newline c ≡ true
digit_line c h = grind (arith, nat_tests)

pub line_digits : (n : ℕ) → IsNumber n → Of is_no_newline (decimal n)
line_digits n h = wider is_digit is_no_newline digit_line (decimal n) (digits n (omega arith))

pub branch_line : (b : Branch) → IsBranch b → Of is_no_newline (branch_text b)
branch_line (B.Section k) h = (refl, line_digits k h)
branch_line _ h = (refl, tt)

number_lacks : (n : ℕ) → IsNumber n → Lacks 46 (decimal n)
number_lacks n h = wider is_digit is_no_dot digit_no_dot (decimal n) (digits n (omega arith))

-- ---- one step at the front

pub record AfterItem (text front rest : List ℕ) (s : Step) (r : List ℕ) : Type 0 where
  pub item : front ≡ decimal s.item
  pub rest_is : rest ≡ branch_text s.branch ++ 46 ∷ r

after_item : (text front rest : List ℕ) (s : Step) (r : List ℕ) → IsCut 46 text front rest → AreSteps (s ∷ []) → text ≡ steps_text (s ∷ []) r →
    AfterItem text front rest s r
after_item text front rest s r c good e =
    let u = front_unique is_no_dot front (decimal s.item) rest (branch_text s.branch ++ 46 ∷ r) 46 46 c.clean (number_lacks s.item good.0) refl refl
    (sym c.split ∙ e) in
    record { item = u.0; rest_is = u.2 }

pub no_item_end : (text : List ℕ) → Lacks 46 text → HasNoStep text
no_item_end text l s r good e = lacks_not 46 (decimal s.item) (branch_text s.branch ++ 46 ∷ r) (subst (Lacks 46) e l)

pub no_branch_end : (text front rest : List ℕ) → IsCut 46 text front rest → Lacks 46 rest → HasNoStep text
no_branch_end text front rest c l s r good e =
    let u = after_item text front rest s r c good e in
    lacks_not 46 (branch_text s.branch) r (subst (Lacks 46) u.rest_is l)

pub no_item : (text front rest : List ℕ) → IsCut 46 text front rest → ((a : ℕ) → IsNumber a → front ≢ decimal a) → HasNoStep text
no_item text front rest c n s r good e = n s.item good.0 (after_item text front rest s r c good e).item

pub no_branch : (text front rest bfront brest : List ℕ) → IsCut 46 text front rest → IsCut 46 rest bfront brest →
    ((b : Branch) → IsBranch b → bfront ≢ branch_text b) → HasNoStep text
no_branch text front rest bfront brest c d n s r good e =
    let u = after_item text front rest s r c good e in
    let v = front_unique is_no_dot bfront (branch_text s.branch) brest r 46 46 d.clean (branch_front s.branch good.1) refl refl (sym d.split ∙ u.rest_is) in
    n s.branch good.1 v.0

shorter_by : (f g r : List ℕ) → length r < length (f ++ 46 ∷ (g ++ 46 ∷ r))
shorter_by [] [] r = omega arith
shorter_by [] (x ∷ g) r = let h = shorter_by [] g r in omega arith
shorter_by (x ∷ f) g r = let h = shorter_by f g r in omega arith

pub stepped : (text front rest bfront brest : List ℕ) (s : Step) → IsCut 46 text front rest → IsCut 46 rest bfront brest → IsNumber s.item →
    front ≡ decimal s.item → IsBranch s.branch → bfront ≡ branch_text s.branch → IsStep text s brest
stepped text front rest bfront brest s c d p e q f =
    let whole : text ≡ steps_text (s ∷ []) brest = c.split ∙ ap (λ z. z ++ 46 ∷ rest) e ∙ ap (λ z. decimal s.item ++ 46 ∷ z)
    (d.split ∙ ap (λ z. z ++ 46 ∷ brest) f) in
    record {
      good = (p, q, tt);
      split = whole;
      shorter = subst (λ z. length brest < length z) (sym whole) (shorter_by (decimal s.item) (branch_text s.branch) brest);
    }

-- ---- the whole path

-- what is left of the path, if the text spells one
pub record Left (rest : List ℕ) (item : ℕ) : Type 0 where
  pub steps : List Step
  pub good : AreSteps steps
  pub split : rest ≡ steps_text steps (decimal item ++ [])

pub record SoFar (text : List ℕ) (steps : List Step) (rest : List ℕ) : Type 0 where
  pub good : AreSteps steps
  pub split : text ≡ steps_text steps rest
  pub left : (p : Path) → IsPath p → text ≡ path_text p [] → Left rest p.item

left_after : (rest after : List ℕ) (s : Step) (item : ℕ) (ts : List Step) → IsStep rest s after → IsNumber item → AreSteps ts →
    rest ≡ steps_text ts (decimal item ++ []) → Left after item
left_after rest after s item [] h n good e =
    absurd (lacks_not 46 (decimal s.item) (branch_text s.branch ++ 46 ∷ after)
    (subst (Lacks 46) (sym e ∙ h.split) (of_append is_no_dot (decimal item) [] (number_lacks item n) tt)))
left_after rest after s item (t ∷ ts) h n good e =
    let u = front_unique is_no_dot (decimal s.item) (decimal t.item) (branch_text s.branch ++ 46 ∷ after)
    (branch_text t.branch ++ 46 ∷ steps_text ts (decimal item ++ [])) 46 46
    (number_lacks s.item h.good.0) (number_lacks t.item good.0) refl refl (sym h.split ∙ e) in
    let v = front_unique is_no_dot (branch_text s.branch) (branch_text t.branch) after (steps_text ts (decimal item ++ [])) 46 46
    (branch_front s.branch h.good.1) (branch_front t.branch good.1) refl refl u.2 in
    record { steps = ts; good = good.2; split = v.2 }

pub so_far_more : (text : List ℕ) (steps more : List Step) (s : Step) (rest after : List ℕ) → SoFar text steps rest → IsStep rest s after →
    more ≡ steps ++ s ∷ [] → SoFar text more after
so_far_more text steps more s rest after h i e = subst (λ z. SoFar text z after) (sym e) (record {
  good = good_append steps (s ∷ []) h.good i.good;
  split = h.split ∙ ap (steps_text steps) i.split ∙ sym (steps_append steps (s ∷ []) after);
  left = λ p g f. let l = h.left p g f in left_after rest after s p.item l.steps i g.1 l.good l.split;
})

last_step : (rest : List ℕ) (item : ℕ) (ts : List Step) → HasNoStep rest → AreSteps ts → rest ≡ steps_text ts (decimal item ++ []) → rest ≡ decimal item
last_step rest item [] n good e = e ∙ append-nil (decimal item)
last_step rest item (t ∷ ts) n good e = absurd (n t (steps_text ts (decimal item ++ [])) (good.0, good.1, tt) e)

pub no_path : (text : List ℕ) (steps : List Step) (rest : List ℕ) → SoFar text steps rest → HasNoStep rest →
    ((a : ℕ) → IsNumber a → rest ≢ decimal a) → (p : Path) → IsPath p → text ≢ path_text p []
no_path text steps rest h n m p good e =
    let l = h.left p good e in
    m p.item good.1 (last_step rest p.item l.steps n l.good l.split)
