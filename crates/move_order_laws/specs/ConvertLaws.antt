-- What `conversion_laws` states: the conversion of a flat function keeps a program steady, and its behaviour.
use Rattle.std.specs.Prelude.{◌≡◌, true, List, ◌∷◌, Some}
use Rattle.c_tree.specs.declared.tree.Item.{Item}
use Rattle.c_tree.specs.declared.tree.Function.{Function}
use Rattle.c_tree.specs.declared.tree.Top.{Top}
use Rattle.c_tree.specs.declared.tree.Top.TheVariants as T
use Rattle.c_tree.specs.declared.tree.Program.{Program}
use Rattle.c_tree.specs.Trees.{trees_of}
use Rattle.c_tree.specs.WellMade.{IsWellMade}
use Rattle.guard_vars.specs.Conversion.{converted, converted_list}
use Rattle.jump_meaning.specs.Runs.{BehaveTheSame}
use Rattle.jump_meaning.specs.Steady.{IsSteady}
use Rattle.core_laws.specs.Better.{Better}
use Rattle.c_tree.specs.Conversions.{convert}
use Rattle.move_order_laws.specs.Exchanged.{KeepsBehaviour, IsConvertible}

-- one flat function, whose conversion is well made, is converted; all else is equal
pub data OneFunctionConverted : List Top → List Top → Type 0 where
  this_function : (f : Function) (a : List Item) (ts : List Top) → f.flat ≡ true → f.body ≡ Some a → IsWellMade (trees_of (converted_list a)) →
      OneFunctionConverted (T.Function f ∷ ts) (T.Function (converted f) ∷ ts)
  later_function : (t : Top) {ts us : List Top} → OneFunctionConverted ts us → OneFunctionConverted (t ∷ ts) (t ∷ us)

pub record ConversionLaws : Type 0 where
  -- the trees of a conversion are the conversion of the trees
  pub trees : (xs : List Item) → trees_of (converted_list xs) ≡ convert (trees_of xs)
  -- which is at least as good in every place
  pub better : (xs : List Item) → Better (trees_of xs) (trees_of (converted_list xs))
  -- a steady program stays steady, and behaves the same
  pub steady : (p q : Program) → OneFunctionConverted p.tops q.tops → IsSteady p → IsSteady q × BehaveTheSame p q
  -- whichever flat function of it that is, where its conversion is well made
  pub exchanged : (f : Function) → f.flat ≡ true → IsConvertible f → KeepsBehaviour f (converted f)
