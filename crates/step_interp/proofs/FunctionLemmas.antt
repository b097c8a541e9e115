-- The table of functions, one declaration after the other.
use Rattle.std.proofs.Common.{ℕ, Bool, true, false, not, ◌&&◌, ◌||◌, cond, List, [], ◌∷◌, ◌++◌, Option, Some, None, is_some, Bor, MatchOption, ◌≡◌, refl, sym, ap, ◌∙◌, subst, true≢false}
use Rattle.std.specs.Option.{option_copied}
use Rattle.std.specs.Str.{bytes_eq}
use Rattle.std.proofs.lemmas.Slice.Eq.{bytes_eq-Decides}
use Rattle.c_tree.specs.declared.tree.Function.{Function}
use Rattle.c_tree.specs.declared.tree.Program.{Program}
use Rattle.c_tree.specs.declared.tree.Top.{Top}
use Rattle.c_tree.specs.declared.tree.Top.TheVariants as T
use Rattle.jump_meaning.specs.Code.{function_tree, function_in, function_named, first_of, undeclared}
use Rattle.step_interp.specs.declared.functions.Functions.{Functions}
use Rattle.step_interp.specs.declared.functions.Routine.{Routine}
use Rattle.step_interp.specs.Functions.{routine_at, IsRoutineOf, stays, stays_before, as_top, HasFunctions, AreFunctionsOf}

-- ---- which function a name has

-- one that has the name is that of the name, where it has a body
defined_first : (m : List ℕ) (f : Function) (ts : List Top) (b c : Bool) → b ≡ true → c ≡ true
    → first_of (cond (b && c) (Some (function_tree f)) (function_in (λ g. is_some g.body) m ts))
    (cond (b && true) (Some (function_tree f)) (function_in (λ g. true) m ts)) undeclared ≡ function_tree f
defined_first m f ts true true h k = refl
defined_first m f ts true false h k = absurd (true≢false (sym k))
defined_first m f ts false c h k = absurd (true≢false (sym h))

-- or else where no definition of the name follows
declared_first : (m : List ℕ) (f : Function) (ts : List Top) (b c : Bool) → b ≡ true → c ≡ false
    → first_of (cond (b && c) (Some (function_tree f)) (function_in (λ g. is_some g.body) m ts))
    (cond (b && true) (Some (function_tree f)) (function_in (λ g. true) m ts)) undeclared
    ≡ first_of (function_in (λ g. is_some g.body) m ts) (Some (function_tree f)) undeclared
declared_first m f ts true false h k = refl
declared_first m f ts true true h k = absurd (true≢false k)
declared_first m f ts false c h k = absurd (true≢false (sym h))

pub defined_is : (m : List ℕ) (f : Function) (ts : List Top) → bytes_eq f.name m ≡ true → is_some f.body ≡ true →
    function_named m (T.Function f ∷ ts) ≡ function_tree f
defined_is m f ts e b = defined_first m f ts (bytes_eq f.name m) (is_some f.body) e b

declared_is : (m : List ℕ) (f : Function) (ts : List Top) → bytes_eq f.name m ≡ true → is_some f.body ≡ false
    → function_named m (T.Function f ∷ ts) ≡ first_of (function_in (λ g. is_some g.body) m ts) (Some (function_tree f)) undeclared
declared_is m f ts e b = declared_first m f ts (bytes_eq f.name m) (is_some f.body) e b

pub alone_is : (m : List ℕ) (f : Function) → bytes_eq f.name m ≡ true → function_named m (T.Function f ∷ []) ≡ function_tree f
alone_is m f e = at (is_some f.body) refl where
  at : (b : Bool) → is_some f.body ≡ b → function_named m (T.Function f ∷ []) ≡ function_tree f
  at true k = defined_is m f [] e k
  at false k = declared_is m f [] e k

-- a function of another name
passed_in : (p : Function → Bool) (m : List ℕ) (g : Function) (ts : List Top) → bytes_eq g.name m ≡ false →
    function_in p m (T.Function g ∷ ts) ≡ function_in p m ts
passed_in p m g ts e = ap (λ b. cond (b && p g) (Some (function_tree g)) (function_in p m ts)) e

behind_in : (p : Function → Bool) (m : List ℕ) (o : Option Routine) (t : Top) (ts : List Top) → function_in p m (t ∷ ts) ≡ function_in p m ts →
    function_in p m (as_top o ++ t ∷ ts) ≡ function_in p m (as_top o ++ ts)
behind_in p m None t ts e = e
behind_in p m (Some r) t ts e = ap (λ x. cond (bytes_eq r.function.now.name m && p r.function.now) (Some (function_tree r.function.now)) x) e

behind : (m : List ℕ) (o : Option Routine) (t : Top) (ts : List Top) → ((p : Function → Bool) → function_in p m (t ∷ ts) ≡ function_in p m ts) →
    function_named m (as_top o ++ t ∷ ts) ≡ function_named m (as_top o ++ ts)
behind m o t ts e =
    ap (λ x. first_of x (function_in (λ g. true) m (as_top o ++ t ∷ ts)) undeclared) (behind_in (λ g. is_some g.body) m o t ts (e (λ g. is_some g.body)))
    ∙ ap (λ x. first_of (function_in (λ g. is_some g.body) m (as_top o ++ ts)) x undeclared) (behind_in (λ g. true) m o t ts (e (λ g. true)))

-- a function that stays, and one of its name behind it
kept_first : (m : List ℕ) (f g : Function) (ts : List Top) → bytes_eq f.name m ≡ true → bytes_eq g.name m ≡ true → stays f g ≡ true →
    function_named m (T.Function f ∷ T.Function g ∷ ts) ≡ function_named m (T.Function f ∷ ts)
kept_first m f g ts e h s = at (is_some f.body) refl where
  none : is_some f.body ≡ false → is_some g.body ≡ false
  none k = first (is_some f.body) (is_some g.body) k s where
    first : (a b : Bool) → a ≡ false → (a || not b) ≡ true → b ≡ false
    first true b k s = absurd (true≢false k)
    first false true k s = absurd (true≢false (sym s))
    first false false k s = refl

  passed : is_some g.body ≡ false → function_in (λ x. is_some x.body) m (T.Function g ∷ ts) ≡ function_in (λ x. is_some x.body) m ts
  passed k = at' (bytes_eq g.name m) where
    at' : (b : Bool) → cond (b && is_some g.body) (Some (function_tree g)) (function_in (λ x. is_some x.body) m ts) ≡ function_in (λ x. is_some x.body) m ts
    at' true = ap (λ b. cond b (Some (function_tree g)) (function_in (λ x. is_some x.body) m ts)) k
    at' false = refl

  at : (b : Bool) → is_some f.body ≡ b → function_named m (T.Function f ∷ T.Function g ∷ ts) ≡ function_named m (T.Function f ∷ ts)
  at true k = defined_is m f (T.Function g ∷ ts) e k ∙ sym (defined_is m f ts e k)
  at false k = declared_is m f (T.Function g ∷ ts) e k ∙ ap (λ x. first_of x (Some (function_tree f)) undeclared) (passed (none k)) ∙
      sym (declared_is m f ts e k)

-- one that does not stay
replaced_first : (m : List ℕ) (f g : Function) (ts : List Top) → bytes_eq f.name m ≡ true → bytes_eq g.name m ≡ true → stays f g ≡ false →
    function_named m (T.Function f ∷ T.Function g ∷ ts) ≡ function_named m (T.Function g ∷ ts)
replaced_first m f g ts e h s =
    declared_is m f (T.Function g ∷ ts) e (left (is_some f.body) (is_some g.body) s)
    ∙ ap (λ x. first_of x (Some (function_tree f)) undeclared)
    (ap (λ b. cond b (Some (function_tree g)) (function_in (λ x. is_some x.body) m ts))
    (both (bytes_eq g.name m) (is_some g.body) h (right (is_some f.body) (is_some g.body) s)))
    ∙ sym (defined_is m g ts h (right (is_some f.body) (is_some g.body) s)) where
      left : (a b : Bool) → (a || not b) ≡ false → a ≡ false
      left true b s = absurd (true≢false s)
      left false b s = refl

      right : (a b : Bool) → (a || not b) ≡ false → b ≡ true
      right true b s = absurd (true≢false s)
      right false true s = refl
      right false false s = absurd (true≢false s)

      both : (a b : Bool) → a ≡ true → b ≡ true → (a && b) ≡ true
      both true b h k = k
      both false b h k = absurd (true≢false (sym h))

-- ---- the table

same_name : (n m : List ℕ) → n ≡ m → bytes_eq n m ≡ true
same_name n m e = (bytes_eq-Decides n m).1 e

-- a declaration of no function
pub other_top : (tops left : List Top) (t : Top) (x : Functions) →
    ((p : Function → Bool) (m : List ℕ) → function_in p m (t ∷ left) ≡ function_in p m left) → HasFunctions tops (t ∷ left) x → HasFunctions tops left x
other_top tops left t x e h = record { same = λ m. sym (behind m (routine_at x m) t left (λ p. e p m)) ∙ h.same m; routines = h.routines }

-- a function whose place is taken
pub kept : (tops left : List Top) (g : Function) (x : Functions) → stays_before (routine_at x g.name) g ≡ true →
    HasFunctions tops (T.Function g ∷ left) x → HasFunctions tops left x
kept tops left g x s h = record { same = same; routines = h.routines } where
  here : (m : List ℕ) (o : Option Routine) → routine_at x m ≡ o → bytes_eq g.name m ≡ true →
      function_named m (as_top o ++ T.Function g ∷ left) ≡ function_named m (as_top o ++ left)
  here m None e b = absurd (true≢false (sym s ∙ ap (λ n. stays_before (routine_at x n) g) ((bytes_eq-Decides g.name m).0 b) ∙ ap (λ o. stays_before o g) e))
  here m (Some r) e b =
      kept_first m r.function.now g left (same_name r.function.now.name m (h.routines m r e).named) b
      (sym (ap (λ o. stays_before o g) (ap (routine_at x) ((bytes_eq-Decides g.name m).0 b) ∙ e)) ∙ s)

  same : (m : List ℕ) → function_named m (as_top (routine_at x m) ++ left) ≡ function_named m tops
  same m = at (bytes_eq g.name m) refl where
    at : (b : Bool) → bytes_eq g.name m ≡ b → function_named m (as_top (routine_at x m) ++ left) ≡ function_named m tops
    at true b = sym (here m (routine_at x m) refl b) ∙ h.same m
    at false b = sym (behind m (routine_at x m) (T.Function g) left (λ p. passed_in p m g left b)) ∙ h.same m

-- a function that is put in the table
pub put : (tops left : List Top) (g : Function) (r : Routine) (x y : Functions) → r.function.now ≡ g → IsRoutineOf g.name r →
    stays_before (routine_at x g.name) g ≡ false
    → ((m : List ℕ) → routine_at y m ≡ cond (bytes_eq g.name m) (Some r) (routine_at x m)) → HasFunctions tops (T.Function g ∷ left) x →
    HasFunctions tops left y
put tops left g r x y is k s u h = record { same = same; routines = routines } where
  now_is : (m : List ℕ) (b : Bool) → bytes_eq g.name m ≡ b → routine_at y m ≡ cond b (Some r) (routine_at x m)
  now_is m b e = u m ∙ ap (λ c. cond c (Some r) (routine_at x m)) e

  here : (m : List ℕ) (o : Option Routine) → routine_at x m ≡ o → bytes_eq g.name m ≡ true →
      function_named m (as_top o ++ T.Function g ∷ left) ≡ function_named m (T.Function g ∷ left)
  here m None e b = refl
  here m (Some q) e b =
      replaced_first m q.function.now g left (same_name q.function.now.name m (h.routines m q e).named) b
      (sym (ap (λ o. stays_before o g) (ap (routine_at x) ((bytes_eq-Decides g.name m).0 b) ∙ e)) ∙ s)

  same : (m : List ℕ) → function_named m (as_top (routine_at y m) ++ left) ≡ function_named m tops
  same m = at (bytes_eq g.name m) refl where
    at : (b : Bool) → bytes_eq g.name m ≡ b → function_named m (as_top (routine_at y m) ++ left) ≡ function_named m tops
    at true b =
        ap (λ o. function_named m (as_top o ++ left)) (now_is m true b) ∙ ap (λ f. function_named m (T.Function f ∷ left)) is
        ∙ sym (here m (routine_at x m) refl b) ∙ h.same m
    at false b =
        ap (λ o. function_named m (as_top o ++ left)) (now_is m false b)
        ∙ sym (behind m (routine_at x m) (T.Function g) left (λ p. passed_in p m g left b)) ∙ h.same m

  routines : (m : List ℕ) (q : Routine) → routine_at y m ≡ Some q → IsRoutineOf m q
  routines m q e = at (bytes_eq g.name m) refl where
    at : (b : Bool) → bytes_eq g.name m ≡ b → IsRoutineOf m q
    at true b = subst (IsRoutineOf m) (cc (sym (now_is m true b) ∙ e)) (subst (λ n. IsRoutineOf n r) ((bytes_eq-Decides g.name m).0 b) k)
    at false b = h.routines m q (sym (now_is m false b) ∙ e)

pub no_function : (tops : List Top) (x : Functions) → ((m : List ℕ) → routine_at x m ≡ None) → HasFunctions tops tops x
no_function tops x e = record { same = λ m. ap (λ o. function_named m (as_top o ++ tops)) (e m); routines = λ m r h. absurd (some m r (sym (e m) ∙ h)) } where
  some : (m : List ℕ) (r : Routine) → None ≡ Some r → ⊥
  some m r h = cc

-- ---- the whole file

pub not_function : (p : Function → Bool) (m : List ℕ) (t : Top) (ts : List Top) → ((f : Function) → t ≡ T.Function f → ⊥) →
    function_in p m (t ∷ ts) ≡ function_in p m ts
not_function p m (T.Include b) ts n = refl
not_function p m (T.Enum e) ts n = refl
not_function p m (T.Global g) ts n = refl
not_function p m (T.Function f) ts n = absurd (n f refl)
not_function p m (T.Note b) ts n = refl

-- what is found once nothing is left
pub matched : (t : Functions) (m : List ℕ) (o : Option (Bor Routine)) (p : Program) → option_copied o ≡ routine_at t m → AreFunctionsOf p t
    → MatchOption o (function_named m p.tops ≡ undeclared) (λ r. (function_named m p.tops ≡ function_tree r.now.function.now) × IsRoutineOf m r.now)
matched t m None p e h = sym (ap (λ x. function_named m (as_top x ++ [])) e ∙ h.same m)
matched t m (Some r) p e h =
    let k = h.routines m r.now (sym e) in
    (sym (ap (λ x. function_named m (as_top x ++ [])) e ∙ h.same m) ∙ alone_is m r.now.function.now (same_name r.now.function.now.name m k.named), k)
