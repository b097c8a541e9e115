-- The names of the guards of a function are new, where few names are used.
use Rattle.std.proofs.Common.{ℕ, ◌+◌, ◌≤◌, ◌<◌, ◌^◌, codes, List, [], ◌∷◌, ◌++◌, length, arith, length-append}
use Rattle.c_types.specs.Words.{known_functions}
use Rattle.c_copies.specs.Names.{with_name, with_names, given_name, slots_names}
use Rattle.c_copies.proofs.Rising.{has_name-with_name}
use Rattle.c_tree.specs.declared.tree.Function.{Function}
use Rattle.c_tree.specs.declared.tree.Slot.{Slot}
use Rattle.c_fresh_names.proofs.NameSets.{no_more}
use Rattle.guard_vars.specs.GuardNames.{guard_name, named_guards, names_used, own_names, guard_names, AreNew}
use Rattle.guard_vars.proofs.GuardNames.{new_where_same, same_beside, same_in_file}
use Rattle.flat_function.proofs.FreshNames.{fresh_unused}

guards_new : (used ls : List (List ℕ)) → 2 + length used + length ls < 2 ^ 64 → AreNew used (named_guards used ls)
guards_new used [] h = tt
guards_new used (l ∷ ls) h =
    let g = guard_name l used in
    let e = no_more used (g ∷ []) in (
      fresh_unused used (codes "goto_" ++ l) (omega (arith, h)),
      new_where_same (with_name used g) (g ∷ used) (named_guards (with_name used g) ls) (λ q. has_name-with_name used g q)
          (guards_new (with_name used g) ls (omega (arith, h, e))),
    )

name_few : (n : List ℕ) → length (given_name n) ≤ 1
name_few [] = omega arith
name_few (c ∷ cs) = omega arith

pub slots_few : (ss : List Slot) → length (slots_names ss) ≤ length ss
slots_few [] = omega arith
slots_few (s ∷ ss) =
    let h = slots_few ss in
    let i = name_few s.name in
    let e = length-append (given_name s.name) (slots_names ss) in omega (arith, h, i, e)

pub guard_names_new : (ns : List (List ℕ)) (f : Function) → 7 + length ns + length f.slots + length f.labels + length f.labels < 2 ^ 64 →
    AreNew (ns ++ known_functions ++ own_names f) (guard_names ns f)
guard_names_new ns f h =
    let file = names_used ns in
    let own = own_names f in
    let all = ns ++ known_functions in
    let a = no_more [] all in
    let b = length-append ns known_functions in
    let i = no_more file own in
    let e = length-append (slots_names f.slots) f.labels in
    let s = slots_few f.slots in
    new_where_same (file ++ own) (all ++ own) (guard_names ns f) (same_in_file all own)
    (new_where_same (with_names file own) (file ++ own) (guard_names ns f) (same_beside file own)
    (guards_new (with_names file own) f.labels (omega (arith, h, a, b, i, e, s))))
