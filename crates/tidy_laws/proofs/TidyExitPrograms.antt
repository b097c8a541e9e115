-- The law `leaving_laws`.
use Rattle.std.proofs.Common.{ℕ, zero, suc, Bool, true, false, ◌≡◌, ap, sym, subst}
use Rattle.c_tree.specs.TestTrees.{TestTree}
use Rattle.c_tree.specs.Trees.{Forest, While}
use Rattle.jump_meaning.specs.World.{World}
use Rattle.jump_meaning.specs.Operations.{holds}
use Rattle.jump_meaning.specs.Code.{Code}
use Rattle.jump_meaning.proofs.Growth.{grows_refl}
use Rattle.struct_meaning.specs.Structural.{Yields, Normal, LessFuel, and_then, chosen, nothing, body_then, exec, execs, with_fuel}
use Rattle.tidy_laws.specs.Likeness.{LikeCode}
use Rattle.tidy_laws.specs.Tails.{stops}
use Rattle.tidy_laws.specs.Steps.{LeavesOne}
use Rattle.tidy_laws.specs.TidyExitLaws.{RunTheSame, LeavingLaws}
use Rattle.tidy_laws.proofs.Nearness.{Near, near_yields}
use Rattle.tidy_laws.proofs.Tails.{is_on, stop_is}
use Rattle.tidy_laws.proofs.Loops.{StopsAgain, leaves_near}
use Rattle.tidy_laws.proofs.Fuel.{fuel_of, run_the_same}

-- a loop with the test `!g && t` comes to its end at once while the slot is on
stopped_at_once : (L : LessFuel) (g : ℕ) (t : TestTree) (a : Forest) → stops g t ≡ true → (w : World) → is_on g w ≡ true →
    exec L (While t a) w ≡ Yields Normal w
stopped_at_once L g t a h w on = ap (λ x. and_then x (λ v w. chosen (holds v) (λ w. body_then (execs L a w) (L.again (While t a))) nothing w))
    (stop_is L g t h w on)

-- so does a further turn, unless the fuel is spent
module _ (g : ℕ) (p q : Code) where
  stops_again : (s : Bool) (n : ℕ) → StopsAgain LeavesOne g (λ x y i. (g, i)) s (with_fuel p (fuel_of s n)) (with_fuel q n)
  stops_again true zero t a e w on = record { old = grows_refl w.events; new = grows_refl w.events; met = grows_refl w.events }
  stops_again true (suc n) t a e w on = subst (λ x. Near true w x (Yields Normal w)) (sym (stopped_at_once (with_fuel p n) g t a e w on))
      (near_yields true w Normal)
  stops_again false n t a e w on = subst (λ x. Near false w x (Yields Normal w)) (sym (stopped_at_once (with_fuel p n) g t a e w on))
      (near_yields false w Normal)

leaves_run : (p q : Code) → LikeCode LeavesOne p q → RunTheSame p q
leaves_run p q like m arguments input answers =
    run_the_same LeavesOne p q like
    (λ s n h x y r. let g = r.0 in leaves_near LeavesOne g (λ x y i. (g, i)) s (with_fuel p (fuel_of s n)) (with_fuel q n) h (stops_again g p q s n) x y r.1)
    m arguments input answers

pub leaving_law : LeavingLaws
leaving_law = record { leaves = leaves_run }
