-- What each function of the plain form is made of.
use Rattle.std.proofs.Common.{◌≡◌, ℕ, true, false, true≢false, cond, List, [], ◌∷◌, length, map, Option, Some, None, refl, sym, ap, subst, ◌∙◌}
use Rattle.std.specs.List.{AllByRecursion}
use Rattle.c_tree.specs.declared.tree.Item.{Item}
use Rattle.c_tree.specs.declared.tree.Function.{Function}
use Rattle.c_tree.specs.declared.tree.Top.{Top}
use Rattle.c_tree.specs.declared.tree.Top.TheVariants as T
use Rattle.c_tree.specs.Everywhere.{Everywhere}
use Rattle.c_tree.specs.InRange.{body_of, IsInRange}
use Rattle.c_tree.specs.Trees.{trees_of}
use Rattle.c_tree.specs.WellMade.{IsWellMade}
use Rattle.move_order_laws.specs.declared.kept.Kept.{Kept}
use Rattle.move_order_laws.specs.Derivations.{Derives}
use Rattle.flat_laws.specs.Parts.{has_jumps}
use Rattle.guard_simplify.specs.declared.choice.Choice.{Choice}
use Rattle.guard_simplify.specs.Application.{Reaches, IsSimple}
use Rattle.guard_vars.specs.Conversion.{converted, converted_list}
use Rattle.move_laws.specs.Bodies.{with_body}
use Rattle.jump_meaning.specs.Code.{Code}
use Rattle.plain_laws.specs.Laws.{IsNoLeap, IsReady, IsTopReady}
use Rattle.plain_laws.specs.Plain.{tidied, with_guard_variables, plain_body, plain_function, plain_top}
use Rattle.report_moves.specs.declared.moves.Move.{Move}
use Rattle.move_order_laws.specs.Moved.{IsMoved, MovedTop, mt_moved, mt_other, MovedTops, mt_none, mt_more}
use Rattle.whole_laws.proofs.Rewrites.{Rewrites, rewrites_both, derived, reached}
use Rattle.whole_laws.specs.Rewritten.{IsFlatForm, IsUnlabelledForm, IsNoFunction, FlatTop, ft_flat, ft_unlabelled, ft_declared, ft_other, FlatTops, ft_none, ft_more}

-- h is the plain form of a function with jumps, after movements and simplifications in whatever order
pub record IsMovedForm (f h : Function) : Type 0 where
  pub jumps : has_jumps (body_of f) ≡ true
  pub flat_form : Function
  pub is_flat : IsFlatForm f flat_form
  pub body : List Item
  pub new : List Item
  pub body_is : flat_form.body ≡ Some body
  pub rewritten : Rewrites (converted_list body) new
  -- what is reached is in range and well made, and no Leap is left
  pub ranged : IsInRange (with_body (converted flat_form) new)
  pub made : IsWellMade (trees_of new)
  pub leapless : Everywhere IsNoLeap (trees_of new)
  pub names : List (List ℕ)
  pub named : length names ≡ length flat_form.labels
  pub plain : h ≡ with_guard_variables names (with_body (converted flat_form) new) new

-- and after those of the driver, in its order
pub record IsDerivedForm (f h : Function) : Type 0 where
  pub form : IsMovedForm f h
  pub middle : List Item
  pub moves : List Kept
  pub choices : List Choice
  pub derives : Derives (converted_list form.body) moves middle
  pub reaches : Reaches middle choices form.new
  pub simple : IsSimple form.new

-- h is that of a function without jumps
pub record IsUnmovedForm (f h : Function) : Type 0 where
  pub free : has_jumps (body_of f) ≡ false
  pub left : Function
  pub is_left : IsUnlabelledForm f left
  pub plain : h ≡ record left { body = Some (tidied is_left.new) }

-- of each function with jumps and its plain form a fact is known besides
pub data PlainTop (Own : Function → Function → Type 0) : Top → Top → Type 0 where
  pt_moved : {f h : Function} → IsMovedForm f h → Own f h → PlainTop Own (T.Function f) (T.Function h)
  pt_unmoved : {f h : Function} → IsUnmovedForm f h → PlainTop Own (T.Function f) (T.Function h)
  pt_declared : (f : Function) → f.body ≡ None → PlainTop Own (T.Function f) (T.Function f)
  pt_other : (t : Top) → IsNoFunction t → PlainTop Own t t

pub data PlainTops (Own : Function → Function → Type 0) : List Top → List Top → Type 0 where
  pt_none : PlainTops Own [] []
  pt_more : {t u : Top} {ts us : List Top} → PlainTop Own t u → PlainTops Own ts us → PlainTops Own (t ∷ ts) (u ∷ us)

-- the fact of the plain form of each flat function
abbrev pub IsOwnTop : (Function → Type 0) → (Function → List (List ℕ)) → Top → Type 0
IsOwnTop Own names (T.Function g) = g.flat ≡ true → Own (plain_function (names g) g)
IsOwnTop Own names _ = Unit {0}

-- ---- the plain form of a function by its body

pub plain_flat : (ns : List (List ℕ)) (g : Function) (xs : List Item) → g.flat ≡ true → plain_body ns g (Some xs) ≡ with_guard_variables ns g xs
plain_flat ns g xs e = ap (λ b. cond b (with_guard_variables ns g xs) (record g { body = Some (tidied xs) })) e

plain_unflat : (ns : List (List ℕ)) (g : Function) (xs : List Item) → g.flat ≡ false → plain_body ns g (Some xs) ≡ record g { body = Some (tidied xs) }
plain_unflat ns g xs e = ap (λ b. cond b (with_guard_variables ns g xs) (record g { body = Some (tidied xs) })) e

pub no_body : (ns : List (List ℕ)) (f : Function) → f.body ≡ None → plain_function ns f ≡ f
no_body ns f e = ap (plain_body ns f) e

pub other_plain : (names : Function → List (List ℕ)) (t : Top) → IsNoFunction t → plain_top names t ≡ t
other_plain names (T.Function f) n = absurd n
other_plain names _ n = refl

pub none_is_some : {A : Type 0} (o : Option A) (a : A) → o ≡ None → o ≡ Some a → ⊥
none_is_some o a e i = let q : None ≡ Some a = sym e ∙ i in cc

-- and how it was derived
abbrev pub Derived : (Function → Type 0) → Function → Function → Type 0
Derived Own f h = Own h × IsDerivedForm f h

module _ (Own : Function → Type 0) (c : Code) (names : Function → List (List ℕ)) where
  pub moved_form : (f g k : Function) (body new : List Item) → has_jumps (body_of f) ≡ true → IsFlatForm f g → g.body ≡ Some body →
      Rewrites (converted_list body) new → k ≡ with_body (converted g) new → IsReady c names k
      → IsMovedForm f (plain_function (names k) k)
  moved_form f g k body new jumps w i r e n = record {
    jumps = jumps;
    flat_form = g;
    is_flat = w;
    body = body;
    new = new;
    body_is = i;
    rewritten = r;
    ranged = subst IsInRange e n.ranged;
    made = subst (λ (j : Function). IsWellMade (body_of j)) e (n.finished.made (ap (λ (j : Function). j.flat) e ∙ w.flat));
    leapless = subst (λ (j : Function). Everywhere IsNoLeap (body_of j)) e (n.finished.leapless (ap (λ (j : Function). j.flat) e ∙ w.flat));
    names = names k;
    named = n.finished.named ∙ ap (λ (j : Function). length j.labels) e;
    plain = ap (plain_function (names k)) e ∙ plain_flat (names k) (with_body (converted g) new) new w.flat;
  }

  derived_form : (f g k : Function) (ms : List Move) → has_jumps (body_of f) ≡ true → IsFlatForm f g → IsMoved g k ms → IsReady c names k →
      IsDerivedForm f (plain_function (names k) k)
  unfolding moved_form
  derived_form f g k ms jumps w m n = record {
    form = moved_form f g k m.body m.new jumps w m.body_is (rewrites_both (derived m.derives) (reached m.reaches)) m.result n;
    middle = m.middle;
    moves = m.moves;
    choices = m.choices;
    derives = m.derives;
    reaches = m.reaches;
    simple = m.simple;
  }

  pub unmoved_form : (f g : Function) → has_jumps (body_of f) ≡ false → IsUnlabelledForm f g → IsUnmovedForm f (plain_function (names g) g)
  unmoved_form f g free w = record {
    free = free;
    left = g;
    is_left = w;
    plain = ap (plain_body (names g) g) w.new_body ∙ plain_unflat (names g) g w.new w.flat;
  }

  plain_of : {t u v : Top} {ms : List Move} → FlatTop t u → MovedTop u v ms → IsTopReady c names v → IsOwnTop Own names v →
      PlainTop (Derived Own) t (plain_top names v)
  plain_of (ft_flat {f = f} {g = g} jumps w) (mt_moved {g = k} {ms = ms} flat m) n o =
      let d = derived_form f g k ms jumps w m n in
      pt_moved d.form (o (ap (λ (j : Function). j.flat) m.result ∙ w.flat), d)
  plain_of (ft_flat jumps w) (mt_other t unflat) n o = absurd (true≢false (sym w.flat ∙ unflat))
  plain_of (ft_unlabelled free w) (mt_moved flat m) n o = absurd (true≢false (sym flat ∙ w.flat))
  plain_of (ft_unlabelled {f = f} {g = g} free w) (mt_other t unflat) n o = pt_unmoved (unmoved_form f g free w)
  plain_of (ft_declared f e) (mt_moved flat m) n o = absurd (none_is_some f.body m.body e m.body_is)
  plain_of (ft_declared f e) (mt_other t unflat) n o = subst (λ k. PlainTop (Derived Own) (T.Function f) (T.Function k)) (sym (no_body (names f) f e))
      (pt_declared f e)
  plain_of (ft_other t q) (mt_moved flat m) n o = absurd q
  plain_of (ft_other t q) (mt_other s unflat) n o = subst (PlainTop (Derived Own) t) (sym (other_plain names t q)) (pt_other t q)

  pub plain_tops : {ts us vs : List Top} {ms : List Move} → FlatTops ts us → MovedTops us vs ms → AllByRecursion (IsTopReady c names) vs →
      AllByRecursion (IsOwnTop Own names) vs → PlainTops (Derived Own) ts (map (plain_top names) vs)
  plain_tops ft_none mt_none n o = pt_none
  plain_tops (ft_more w r) (mt_more m s) n o = pt_more (plain_of w m n.0 o.0) (plain_tops r s n.1 o.1)
