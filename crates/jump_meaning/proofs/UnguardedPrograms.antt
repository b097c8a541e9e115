-- A program in range without flat functions is steady.
use Rattle.std.proofs.Common.{ℕ, Bool, true, ◌&&◌, List, [], ◌∷◌, Option, Some, None, is_some, sym, ◌∙◌, true≢false, All, bytes_eq, option_map}
use Rattle.std.specs.List.{AllByRecursion}
use Rattle.std.specs.Option.{option_map_or}
use Rattle.std.proofs.lemmas.List.Elements.{All-from_recursion, recursion_from_All}
use Rattle.c_tree.specs.declared.tree.Item.{Item}
use Rattle.c_tree.specs.declared.tree.Function.{Function}
use Rattle.c_tree.specs.declared.tree.Top.{Top}
use Rattle.c_tree.specs.declared.tree.Top.TheVariants as T
use Rattle.c_tree.specs.declared.tree.Program.{Program}
use Rattle.c_tree.specs.Trees.{Tree, Nil, Arm, Leap, Land, trees_of}
use Rattle.c_tree.specs.Everywhere.{Everywhere}
use Rattle.c_tree.specs.InRange.{IsUnguarded, IsTopInRange, IsProgramInRange, body_of}
use Rattle.c_tree.proofs.WellMoved.{everywhere_map}
use Rattle.jump_meaning.specs.Code.{FunctionTree, items_of, function_tree, undeclared, function_in, first_of, function_named, code_of}
use Rattle.jump_meaning.specs.Steady.{IsUnarmed, IsTopMadeWell, IsSteady}
use Rattle.jump_meaning.specs.Laws.{IsTopUnflat, SteadyLaws}
use Rattle.jump_meaning.proofs.Growth.{either}
use Rattle.jump_meaning.proofs.Unguarded.{unguarded_steady}

unarmed : (x : Tree) → IsUnguarded x → IsUnarmed x
unarmed (Arm l e) h = h
unarmed (Leap l) h = h
unarmed (Land l) h = h
unarmed _ h = tt

abbrev IsTopUnguarded : Top → Type 0
IsTopUnguarded (T.Function f) = Everywhere IsUnguarded (body_of f)
IsTopUnguarded _ = Unit {0}

abbrev IsFoundUnguarded : Option FunctionTree → Type 0
IsFoundUnguarded None = Unit {0}
IsFoundUnguarded (Some f) = Everywhere IsUnguarded (items_of f)

abbrev both : {A : Type 0} → (A → Type 0) → (A → Type 0) → A → Type 0
both P Q a = P a × Q a

pairs : {A : Type 0} (P Q : A → Type 0) (xs : List A) → AllByRecursion P xs → AllByRecursion Q xs → AllByRecursion (both P Q) xs
pairs P Q [] h k = tt
pairs P Q (x ∷ xs) h k = ((h.0, k.0), pairs P Q xs h.1 k.1)

mapped : {A : Type 0} (P Q : A → Type 0) (f : (a : A) → P a → Q a) (xs : List A) → AllByRecursion P xs → AllByRecursion Q xs
mapped P Q f [] h = tt
mapped P Q f (x ∷ xs) h = (f x h.0, mapped P Q f xs h.1)

-- ---- of each function

unflat_unguarded : (t : Top) → both IsTopInRange IsTopUnflat t → IsTopUnguarded t
unflat_unguarded (T.Function f) h = h.0.unguarded h.1
unflat_unguarded _ h = tt

unflat_made : (t : Top) → both IsTopInRange IsTopUnflat t → IsTopMadeWell t
unflat_made (T.Function f) h = record {
  converted = λ c. absurd (true≢false (sym c.flat ∙ h.1));
  other = λ c. everywhere_map IsUnguarded IsUnarmed unarmed (body_of f) (h.0.unguarded h.1);
}
unflat_made _ h = tt

-- ---- of the function of each name

unguarded_items_of : (o : Option (List Item)) → Everywhere IsUnguarded (option_map_or trees_of o Nil) →
    Everywhere IsUnguarded (option_map_or (λ a. a) (option_map trees_of o) Nil)
unguarded_items_of None h = h
unguarded_items_of (Some xs) h = h

found_unguarded : (p : Function → Bool) (m : List ℕ) (ts : List Top) → AllByRecursion IsTopUnguarded ts → IsFoundUnguarded (function_in p m ts)
found_unguarded p m [] h = tt
found_unguarded p m (T.Function f ∷ ts) h =
    either IsFoundUnguarded (bytes_eq f.name m && p f) (Some (function_tree f)) (function_in p m ts) (unguarded_items_of f.body h.0)
    (found_unguarded p m ts h.1)
found_unguarded p m (_ ∷ ts) h = found_unguarded p m ts h.1

first_unguarded : (o p : Option FunctionTree) → IsFoundUnguarded o → IsFoundUnguarded p → Everywhere IsUnguarded (items_of (first_of o p undeclared))
first_unguarded (Some f) p h k = h
first_unguarded None (Some f) h k = k
first_unguarded None None h k = tt

named_unguarded : (m : List ℕ) (ts : List Top) → AllByRecursion IsTopUnguarded ts → Everywhere IsUnguarded (items_of (function_named m ts))
named_unguarded m ts h =
    first_unguarded (function_in (λ f. is_some f.body) m ts) (function_in (λ f. true) m ts) (found_unguarded (λ f. is_some f.body) m ts h)
    (found_unguarded (λ f. true) m ts h)

pub unflat_steady : (p : Program) → IsProgramInRange p → All IsTopUnflat p.tops → IsSteady p
unflat_steady p ranged unflat =
    let tops = pairs IsTopInRange IsTopUnflat p.tops (recursion_from_All IsTopInRange p.tops ranged) (recursion_from_All IsTopUnflat p.tops unflat) in
    record {
      ranged = ranged;
      made = All-from_recursion IsTopMadeWell p.tops (mapped (both IsTopInRange IsTopUnflat) IsTopMadeWell unflat_made p.tops tops);
      states = unguarded_steady (code_of p)
          (λ m. named_unguarded m p.tops (mapped (both IsTopInRange IsTopUnflat) IsTopUnguarded unflat_unguarded p.tops tops));
    }

pub steady_laws : SteadyLaws
steady_laws = record { of_codes = unguarded_steady; of_programs = unflat_steady }
