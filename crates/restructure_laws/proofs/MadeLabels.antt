-- The names that are made for the labels of scattered switches are names, one for each case; and how many names are used.
use Rattle.std.proofs.Common.{◌≡◌, ℕ, zero, suc, ◌+◌, ◌-◌, ◌*◌, ◌≤◌, ◌<◌, Bool, true, false, cond, codes, List, [], ◌∷◌, length, Option, Some, None, refl, ap, ◌∙◌, arith, length-append}
use Rattle.std.specs.Prelude.{IfSome, nat_lt}
use Rattle.c_copies.specs.Names.{has_name, with_name}
use Rattle.c_tree.specs.declared.tree.Slot.{Slot}
use Rattle.c_fresh_names.specs.Fresh.{numbered, fresh}
use Rattle.c_fresh_names.proofs.NameSets.{one_more}
use Rattle.flat_names.specs.declared.constructs.Construct.{Construct}
use Rattle.flat_names.specs.declared.constructs.Construct.TheVariants as c
use Rattle.flat_names.specs.declared.giving.Made.{Made}
use Rattle.flat_names.specs.FlatNames.{Given, number_slot, name_variable, name_case, name_cases, name_default, name_break, name_construct, name_constructs, slot_taken, slot_used, named_slots}
use Rattle.c_resolved_defs.specs.Within.{Each}
use Rattle.c_resolved_defs.specs.PrintableExpressions.{IsName}
use Rattle.whole_laws.proofs.PlainLists.{each_append}
use Rattle.flat_function.proofs.Forms.{break_same, default_same, cases_same}
use Rattle.flat_function.proofs.FreshNames.{numbered_name, fresh_name}

-- ---- names of labels

-- a name, if there is one
abbrev pub IsNameOrNone : Option (List ℕ) → Type 0
IsNameOrNone o = IfSome o IsName

-- the names that were given to labels
pub record AreLabelNames (m : Made) : Type 0 where
  pub cases : Each IsName m.cases
  pub defaults : Each IsNameOrNone m.defaults
  pub breaks : Each IsNameOrNone m.breaks

case_name : (k i : ℕ) (used : List (List ℕ)) → IsName (fresh (numbered (numbered (codes "case") k) i) used)
case_name k i used = fresh_name used (numbered (numbered (codes "case") k) i)
    (numbered_name (numbered (codes "case") k) i (numbered_name (codes "case") k refl).0)

cases_named : (k i n : ℕ) (g : Given) → AreLabelNames g.made → AreLabelNames (name_cases k i n g).made
cases_named k i zero g h = h
cases_named k i (suc n) g h = cases_named k (i + 1) n (name_case k i g) (record {
  cases = each_append IsName g.made.cases (fresh (numbered (numbered (codes "case") k) i) g.used ∷ []) h.cases (case_name k i g.used, tt);
  defaults = h.defaults;
  breaks = h.breaks;
})

default_named : (k : ℕ) (b : Bool) (g : Given) → AreLabelNames g.made → AreLabelNames (name_default k b g).made
default_named k false g h = record { cases = h.cases; defaults = each_append IsNameOrNone g.made.defaults (None ∷ []) h.defaults (tt, tt); breaks = h.breaks }
default_named k true g h =
    let n = fresh (numbered (codes "default") k) g.used in
    record {
      cases = h.cases;
      defaults = each_append IsNameOrNone g.made.defaults (Some n ∷ []) h.defaults
          (fresh_name g.used (numbered (codes "default") k) (numbered_name (codes "default") k refl), tt);
      breaks = h.breaks;
    }

break_named : (k : ℕ) (b : Bool) (g : Given) → AreLabelNames g.made → AreLabelNames (name_break k b g).made
break_named k false g h = record { cases = h.cases; defaults = h.defaults; breaks = each_append IsNameOrNone g.made.breaks (None ∷ []) h.breaks (tt, tt) }
break_named k true g h =
    let n = fresh (numbered (codes "break") k) g.used in
    record {
      cases = h.cases;
      defaults = h.defaults;
      breaks = each_append IsNameOrNone g.made.breaks (Some n ∷ []) h.breaks
          (fresh_name g.used (numbered (codes "break") k) (numbered_name (codes "break") k refl), tt);
    }

construct_named : (k : ℕ) (x : Construct) (g : Given) → AreLabelNames g.made → AreLabelNames (name_construct k x g).made
construct_named k c.Stays g h = break_named k false (name_default k false g) (default_named k false g h)
construct_named k (c.Scattered kind n d l) g h =
    let all = name_cases k 1 n (name_variable k kind g) in
    break_named k l (name_default k d all) (default_named k d all (cases_named k 1 n (name_variable k kind g) h))

pub constructs_named : (k : ℕ) (xs : List Construct) (g : Given) → AreLabelNames g.made → AreLabelNames (name_constructs k xs g).made
constructs_named k [] g h = h
constructs_named k (x ∷ xs) g h = constructs_named (k + 1) xs (name_construct k x g) (construct_named k x g h)

-- ---- how many cases

-- the cases of scattered switches
abbrev pub case_count : List Construct → ℕ
case_count [] = 0
case_count (c.Stays ∷ xs) = case_count xs
case_count (c.Scattered kind n d l ∷ xs) = n + case_count xs

cases_given : (k i n : ℕ) (g : Given) → length (name_cases k i n g).made.cases ≡ length g.made.cases + n
cases_given k i zero g = omega arith
cases_given k i (suc n) g =
    let h = cases_given k (i + 1) n (name_case k i g) in
    let e = length-append g.made.cases (fresh (numbered (numbered (codes "case") k) i) g.used ∷ []) in omega (arith, h, e)

default_given : (k : ℕ) (b : Bool) (g : Given) → (name_default k b g).made.cases ≡ g.made.cases
default_given k false g = refl
default_given k true g = refl

break_given : (k : ℕ) (b : Bool) (g : Given) → (name_break k b g).made.cases ≡ g.made.cases
break_given k false g = refl
break_given k true g = refl

behind_given : (k n : ℕ) (d l : Bool) (g : Given) → length (name_break k l (name_default k d (name_cases k 1 n g))).made.cases ≡ length g.made.cases + n
behind_given k n d l g =
    let all = name_cases k 1 n g in
    ap length (break_given k l (name_default k d all) ∙ default_given k d all) ∙ cases_given k 1 n g

pub constructs_given : (k : ℕ) (xs : List Construct) (g : Given) → length (name_constructs k xs g).made.cases ≡ length g.made.cases + case_count xs
constructs_given k [] g = omega arith
constructs_given k (c.Stays ∷ xs) g = constructs_given (k + 1) xs (name_construct k c.Stays g)
constructs_given k (c.Scattered kind n d l ∷ xs) g =
    let h = constructs_given (k + 1) xs (name_construct k (c.Scattered kind n d l) g) in
    let e = behind_given k n d l (name_variable k kind g) in omega (arith, h, e)

-- ---- how many names

cases_used : (k i n : ℕ) (g : Given) → length (name_cases k i n g).used ≤ length g.used + n
cases_used k i zero g = omega arith
cases_used k i (suc n) g =
    let h = cases_used k (i + 1) n (name_case k i g) in
    let e = one_more g.used (fresh (numbered (numbered (codes "case") k) i) g.used) in omega (arith, h, e)

default_used : (k : ℕ) (b : Bool) (g : Given) → length (name_default k b g).used ≤ length g.used + 1
default_used k false g = omega arith
default_used k true g = one_more g.used (fresh (numbered (codes "default") k) g.used)

break_used : (k : ℕ) (b : Bool) (g : Given) → length (name_break k b g).used ≤ length g.used + 1
break_used k false g = omega arith
break_used k true g = one_more g.used (fresh (numbered (codes "break") k) g.used)

-- a switch has fewer than 2 ^ 31 cases
abbrev pub HasFewCases : Construct → Type 0
HasFewCases c.Stays = Unit {0}
HasFewCases (c.Scattered kind n d l) = n < 2147483648

-- so each variable of a scattered switch comes with at most so many names
abbrev pub most_made : ℕ
most_made = 2147483650

pub constructs_used : (k : ℕ) (xs : List Construct) (g : Given) → Each HasFewCases xs
    → length (name_constructs k xs g).used + most_made * length g.variables ≤ length g.used + most_made * length (name_constructs k xs g).variables
constructs_used k [] g h = omega arith
constructs_used k (c.Stays ∷ xs) g h = constructs_used (k + 1) xs (name_construct k c.Stays g) h.1
constructs_used k (c.Scattered kind n d l ∷ xs) g h =
    let one = name_variable k kind g in
    let all = name_cases k 1 n one in
    let most = name_default k d all in
    let next = name_construct k (c.Scattered kind n d l) g in
    let name = fresh (numbered (codes "switch") k) g.used in
    let few = h.0 in
    let rest = constructs_used (k + 1) xs next h.1 in
    let v = ap length (break_same k l most ∙ default_same k d all ∙ cases_same k 1 n one) in
    let w = length-append g.variables (number_slot kind name ∷ []) in
    let a = one_more g.used name in
    let b = cases_used k 1 n one in
    let e = default_used k d all in
    let i = break_used k l most in
    omega (arith, few, rest, v, w, a, b, e, i)

slot_more : (p : Bool) (taken used : List (List ℕ)) (s : Slot) → length (slot_used p taken used s) ≤ length used + 1
slot_more true taken used s = omega arith
slot_more false taken used s = at (has_name taken s.name)
  where
    at : (b : Bool) → length (cond b (with_name used (fresh s.name used)) used) ≤ length used + 1
    at true = one_more used (fresh s.name used)
    at false = omega arith

pub slots_used : (n : ℕ) (taken used : List (List ℕ)) (ss : List Slot) → length (named_slots n taken used ss).used ≤ length used + length ss
slots_used n taken used [] = omega arith
slots_used n taken used (s ∷ ss) =
    let p = nat_lt 0 n in
    let h = slots_used (n - 1) (slot_taken p taken used s) (slot_used p taken used s) ss in
    let e = slot_more p taken used s in omega (arith, h, e)
