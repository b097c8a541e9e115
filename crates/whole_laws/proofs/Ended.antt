-- Each function at the end: no jump and no Leap is left, and a flat one is well made.
use Rattle.std.proofs.Common.{◌≡◌, ℕ, arith, Bool, true, false, true≢false, if◌then◌else◌, List, Some, eqb, refl, sym, subst, ◌∙◌}
use Rattle.c_tree.specs.declared.tree.Item.{Item}
use Rattle.c_tree.specs.declared.tree.Function.{Function}
use Rattle.c_tree.specs.declared.tree.Top.{Top}
use Rattle.c_tree.specs.declared.tree.Top.TheVariants as T
use Rattle.c_tree.specs.Trees.{Tree, Forest, Nil, Then, Sections, NoSection, Section, If, While, Do, For, Switch, Block, Goto, Mark, Leap, Arrival, trees_of}
use Rattle.c_tree.specs.Everywhere.{total_of, total_in, Everywhere, EverywhereOf, EverywhereIn}
use Rattle.c_tree.specs.InRange.{body_of}
use Rattle.c_tree.specs.Jumps.{is_jump_free, is_plain, body_holds, is_plain_function, is_jump_free_function}
use Rattle.c_tree.specs.WellMade.{IsConverted, IsWellMade}
use Rattle.c_tree.proofs.WellMoved.{everywhere_map, everywhere_both}
use Rattle.move_laws.proofs.Kept.{IsStable, simplified_kept}
use Rattle.move_laws.proofs.DroppedItems.{Becomes, becomes}
use Rattle.guard_vars.specs.Conversion.{converted}
use Rattle.move_laws.specs.Bodies.{with_body}
use Rattle.move_order_laws.specs.Leaps.{leap_of, leaps}
use Rattle.move_order_laws.proofs.OneDerivation.{well_made_derived}
use Rattle.move_order_laws.proofs.NoLeaps.{no_leaps}
use Rattle.guard_simplify.proofs.Next.{choice_laws}
use Rattle.plain_laws.specs.Laws.{IsNoLeap}
use Rattle.report_moves.specs.declared.moves.Move.{Move}
use Rattle.move_order_laws.specs.Moved.{IsMoved, MovedTop, mt_moved, mt_other}
use Rattle.move_order_laws.proofs.SomeDerivation.{none_left}
use Rattle.whole_laws.specs.Rewritten.{FlatTop, ft_flat, ft_unlabelled, ft_declared, ft_other}
use Rattle.whole_laws.proofs.Source.{IsSourceTop}
use Rattle.whole_laws.proofs.BodiesKept.{reached_kept}
use Rattle.whole_laws.proofs.Chains.{IsConvertible}
use Rattle.whole_laws.proofs.Unlabelled.{IsPlainItem}
use Rattle.whole_laws.proofs.Flattened.{body_is, left_plain}
use Rattle.whole_laws.proofs.Free.{IsFree, free_body, plain_body}

-- ---- no Leap

mutual
  pub no_leap : (a : Forest) → leaps a ≡ 0 → Everywhere IsNoLeap a
  no_leap Nil h = tt
  no_leap (Then x a) h = (no_leap_of x (omega (arith, h)), no_leap a (omega (arith, h)))

  no_leap_of : (x : Tree) → total_of leap_of x ≡ 0 → EverywhereOf IsNoLeap x
  no_leap_of (If t a b) h = (tt, no_leap a (omega (arith, h)), no_leap b (omega (arith, h)))
  no_leap_of (While t a) h = (tt, no_leap a (omega (arith, h)))
  no_leap_of (Do a t) h = (tt, no_leap a (omega (arith, h)))
  no_leap_of (For first t u a) h = (tt, no_leap first (omega (arith, h)), no_leap a (omega (arith, h)))
  no_leap_of (Switch s c) h = (tt, no_leap_in c (omega (arith, h)))
  no_leap_of (Block a) h = (tt, no_leap a (omega (arith, h)))
  no_leap_of (Leap l) h = absurd (omega (arith, h))
  no_leap_of _ h = tt

  no_leap_in : (c : Sections) → total_in leap_of c ≡ 0 → EverywhereIn IsNoLeap c
  no_leap_in NoSection h = tt
  no_leap_in (Section cases default a ends c) h = (no_leap a (omega (arith, h)), no_leap_in c (omega (arith, h)))

pub leapless_stable : IsStable IsNoLeap
leapless_stable = record {
  ifs = λ t a b a' b' e h. tt;
  whiles = λ t a a' n h. tt;
  dos = λ t a a' n h. tt;
  fors = λ first t u a a' n h. tt;
  switches = λ s c d e h. tt;
  blocks = λ a a' h. tt;
  if_tests = λ a b r h. tt;
  while_tests = λ a r h. tt;
  do_tests = λ a r h. tt;
  selectors = λ c r h. tt;
  nests = λ t u a o h j. tt;
}

pub leapless_become : (d : ℕ → Bool) → Becomes d IsNoLeap IsNoLeap
leapless_become d = record {
  arm = λ l e i h. h;
  arm_if = λ l e i h. tt;
  land = λ l i h. tt;
  ifs = λ t a b h. tt;
  whiles = λ t a h. tt;
  dos = λ t a h. tt;
  fors = λ first t u a h. tt;
  switches = λ s c h. tt;
  blocks = λ a h. tt;
  others = λ x o h. h;
}

pub free_item : (x : Tree) → IsConverted x × IsNoLeap x → IsFree x
free_item (Goto l) h = h.0
free_item (Mark l) h = h.0
free_item (Leap l) h = h.1
free_item (Arrival e) h = h.0
free_item _ h = tt

-- ---- functions at the end

pub record IsEndedFunction (f : Function) : Type 0 where
  pub made : f.flat ≡ true → IsWellMade (body_of f)
  pub leapless : f.flat ≡ true → Everywhere IsNoLeap (body_of f)
  pub free : is_jump_free_function f ≡ true

abbrev pub IsEnded : Top → Type 0
IsEnded (T.Function f) = IsEndedFunction f
IsEnded _ = Unit {0}

-- a function that isn't flat is plain
abbrev pub IsPlainTop : Top → Type 0
IsPlainTop (T.Function f) = f.flat ≡ false → is_plain_function f ≡ true
IsPlainTop _ = Unit {0}

pub flat_free : (f : Function) → f.flat ≡ true → body_holds is_jump_free f.body ≡ true → is_jump_free_function f ≡ true
flat_free f e h = subst (λ b. body_holds (if b then is_jump_free else is_plain) f.body ≡ true) (sym e) h

pub unflat_free : (f : Function) → f.flat ≡ false → is_plain_function f ≡ true → is_jump_free_function f ≡ true
unflat_free f e h = subst (λ b. body_holds (if b then is_jump_free else is_plain) f.body ≡ true) (sym e) h

moved_ended : (f g : Function) (ms : List Move) → f.flat ≡ true → IsConvertible (T.Function f) → IsMoved f g ms → IsEndedFunction g
moved_ended f g ms flat w m =
    let first = w flat m.body m.body_is in
    let made = well_made_derived m.derives first in
    let last = choice_laws.reached_made m.middle m.new m.choices m.reaches made in
    let none = no_leap (trees_of m.middle) (no_leaps m.middle made (none_left m.derives)) in
    let leapless = reached_kept IsNoLeap (λ xs ys r h. simplified_kept IsNoLeap leapless_stable r h)
    (λ l xs h. becomes (eqb l) IsNoLeap IsNoLeap (leapless_become (eqb l)) xs h) m.reaches none in
    let free = everywhere_map (λ x. IsConverted x × IsNoLeap x) IsFree free_item (trees_of m.new)
    (everywhere_both IsConverted IsNoLeap (trees_of m.new) last.converted leapless) in
    let end : IsEndedFunction (with_body (converted f) m.new) =
    record { made = λ e. last; leapless = λ e. leapless; free = flat_free (with_body (converted f) m.new) flat (free_body m.new free) } in
    subst IsEndedFunction (sym m.result) end

pub ended_top : {t u : Top} {ms : List Move} → IsConvertible t → IsPlainTop t → MovedTop t u ms → IsEnded u
ended_top w p (mt_moved {f = f} {g = g} {ms = ms} flat m) = moved_ended f g ms flat w m
ended_top w p (mt_other (T.Function f) n) = record {
  made = λ e. absurd (true≢false (sym e ∙ n));
  leapless = λ e. absurd (true≢false (sym e ∙ n));
  free = unflat_free f n (p n);
}
ended_top w p (mt_other (T.Include b) n) = tt
ended_top w p (mt_other (T.Enum es) n) = tt
ended_top w p (mt_other (T.Global g) n) = tt
ended_top w p (mt_other (T.Note b) n) = tt

-- ---- the flat program

some_plain : (f : Function) (a : List Item) → f.body ≡ Some a → is_plain a ≡ true → is_plain_function f ≡ true
some_plain f a e h = subst (λ o. body_holds is_plain o ≡ true) (sym e) h

pub plain_top : {t u : Top} → IsSourceTop t → FlatTop t u → IsPlainTop u
plain_top s (ft_flat {f = f} {g = g} jumps w) = λ e. absurd (true≢false (sym w.flat ∙ e))
plain_top s (ft_unlabelled {f = f} {g = g} free w) =
    λ e. some_plain g w.new w.new_body (plain_body w.new (subst (Everywhere IsPlainItem) (body_is g w.new w.new_body) (left_plain f g s free w)))
plain_top s (ft_declared f n) = λ e. subst (λ o. body_holds is_plain o ≡ true) (sym n) refl
plain_top s (ft_other (T.Function f) n) = absurd n
plain_top s (ft_other (T.Include b) n) = tt
plain_top s (ft_other (T.Enum es) n) = tt
plain_top s (ft_other (T.Global g) n) = tt
plain_top s (ft_other (T.Note b) n) = tt
