-- Of the labels of a function at most each has a variable.
use Rattle.std.proofs.Common.{◌≡◌, ℕ, ◌+◌, ◌≤◌, Bool, true, false, cond, if◌then◌else◌, Option, Some, None, List, [], ◌∷◌, ◌++◌, map, length, length-append, arith}
use Rattle.std.proofs.lemmas.List.{length-map}
use Rattle.c_tree.specs.declared.tree.Item.{Item}
use Rattle.c_tree.specs.declared.tree.Function.{Function}
use Rattle.c_tree.specs.declared.tree.Top.{Top}
use Rattle.c_tree.specs.declared.tree.Top.TheVariants as T
use Rattle.plain_laws.specs.Plain.{guard_slot, names_left, tidied, with_guard_variables, plain_body, plain_top}
use Rattle.plain_laws.proofs.LeftLabels.{few_names}
use Rattle.plain_form.specs.Few.{AreFewGuards, AreFewInTop, AreFewInTops}

module _ (names : Function → List (List ℕ)) (named : (f : Function) → length (names f) ≡ length f.labels) where
  few_slots : (f : Function) (body : List Item) → length (f.slots ++ map guard_slot (names_left body 0 (names f))) ≤ length f.slots + length f.labels
  few_slots f body =
      let ms = names_left body 0 (names f) in
      let all : length (f.slots ++ map guard_slot ms) ≡ length f.slots + length (map guard_slot ms) = length-append f.slots (map guard_slot ms) in
      let each : length (map guard_slot ms) ≡ length ms = length-map ms guard_slot in
      omega (arith, all, each, few_names body (names f), named f)

  by_flat : (f : Function) (body : List Item) (b : Bool) → length
      (if b then with_guard_variables (names f) f body else record f { body = Some (tidied body) }).slots ≤ length f.slots + cond b (length f.labels) 0
  by_flat f body true = few_slots f body
  by_flat f body false = omega arith

  by_body : (f : Function) (o : Option (List Item)) → AreFewGuards f (plain_body (names f) f o)
  by_body f None = omega arith
  by_body f (Some body) = by_flat f body f.flat

  by_top : (t : Top) → AreFewInTop t (plain_top names t)
  by_top (T.Function f) = by_body f f.body
  by_top _ = tt

  -- in the plain form of a program
  pub few_guards : (ts : List Top) → AreFewInTops ts (map (plain_top names) ts)
  few_guards [] = tt
  few_guards (t ∷ ts) = (by_top t, few_guards ts)
