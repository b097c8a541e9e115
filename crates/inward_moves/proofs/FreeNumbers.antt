-- The numbers of a list as a set, and a number that is not among them.
use Rattle.std.proofs.Common.{◌≡◌, ◌↔◌, ◌⊎◌, inl, inr, ℕ, zero, suc, ◌+◌, ◌<◌, ◌≤◌, ℤ, pos, List, [], ◌∷◌, Option, Some, None, Bool, true, false, cond, ◌||◌, length, Equal, refl, sym, ap, subst, ◌∙◌, arith}
use Rattle.std.specs.Prelude.{Contains, IsTrue}
use Rattle.std.specs.BTreeSet.{BTreeSet, contains}
use Rattle.std.specs.Cmp.{IsEquivalence}
use Rattle.std.specs.Cmp.Lexicographic.{options_total}
use Rattle.std.specs.List.{list_any}
use Rattle.std.specs.Option.{option_cmp}
use Rattle.std.specs.Ordering.{eq_by_cmp, int_cmp}
use Rattle.std.proofs.lemmas.Bool.{true≢false}
use Rattle.c_types.specs.declared.kinds.IntKind.{IntKind}
use Rattle.c_tree.specs.Trees.{Sections}
use Rattle.c_tree.specs.Cases.{case_numbers, IsFree}
use Rattle.c_tree.proofs.NumbersBelow.{count_below}
use Rattle.std.proofs.lemmas.Cmp.{int_cmp_total, eq_by_cmp_equiv}
use Rattle.std.proofs.lemmas.Map.Lookups.{exact_signed}
use Rattle.std.proofs.lemmas.Map.Views.{Contains-from_any, list_any-from_Contains, tells_apart}

abbrev pub same : Option ℤ → Option ℤ → Bool
same m n = eq_by_cmp (option_cmp int_cmp) m n

same_laws : IsEquivalence (eq_by_cmp (option_cmp int_cmp))
same_laws = eq_by_cmp_equiv (options_total int_cmp_total)

exact : (m n : Option ℤ) → option_cmp int_cmp m n ≡ Equal → m ≡ n
exact None None e = refl
exact None (Some n) e = cc
exact (Some m) None e = cc
exact (Some m) (Some n) e = ap (λ k. Some k) (exact_signed m n e)

either_way : (a b : Bool) → cond b true a ≡ (a || b)
either_way true true = refl
either_way true false = refl
either_way false true = refl
either_way false false = refl

-- one more number in the set
pub set_more : (m n : Option ℤ) (a b c : Bool) → c ≡ cond (same m n) true a → a ≡ b → c ≡ (b || same n m)
set_more m n a b c e f = e ∙ ap (λ z. cond z true a) (same_laws.symm m n) ∙ ap (λ z. cond (same n m) true z) f ∙ either_way b (same n m)

pub set_is : (a : Bool) (n : Option ℤ) (xs : List (Option ℤ)) → a ≡ list_any (same n) xs → IsTrue a ↔ Contains xs n
set_is a n xs e = (λ h. Contains-from_any (tells_apart exact) n xs (sym e ∙ h), λ h. e ∙ list_any-from_Contains same_laws n xs h)

pub not_all_taken : (n : ℕ) (xs : List (Option ℤ)) → length xs < n → ((m : ℕ) → m < n → Contains xs (Some (pos m))) → ⊥
not_all_taken n xs l h =
    let r = count_below n xs h in
    omega arith

-- The search for the number, one after the other.

less_or_same : (j m : ℕ) → j < m + 1 → (j < m) ⊎ (j ≡ m)
less_or_same zero zero h = inr refl
less_or_same zero (suc m) h = inl (omega arith)
less_or_same (suc j) zero h = absurd (omega arith)
less_or_same (suc j) (suc m) h = elim (less_or_same j m (omega arith)) [ inl l ↦ inl (omega arith) | inr e ↦ inr (ap suc e) ]

module _ (s : BTreeSet (Option ℤ)) (xs : List (Option ℤ)) (m : ℕ) (n : ℤ) (e : n ≡ pos m)
    (t : (o : Option ℤ) → IsTrue (contains (option_cmp int_cmp) s o) ↔ Contains xs o) (below : (j : ℕ) → j < m → Contains xs (Some (pos j))) where
  pub taken_more : contains (option_cmp int_cmp) s (Some n) ≡ true → (j : ℕ) → j < m + 1 → Contains xs (Some (pos j))
  taken_more h j l = elim (less_or_same j m l) [
    | inl b ↦ below j b
    | inr f ↦ subst (λ z. Contains xs (Some z)) (e ∙ ap pos (sym f)) ((t (Some n)).0 h)
  ]

  pub free_is : (k : IntKind) (c : Sections) → xs ≡ case_numbers k c → contains (option_cmp int_cmp) s (Some n) ≡ false → IsFree k c n
  free_is k c f h = record {
    count = m;
    number = e;
    free = λ i. absurd (true≢false (sym ((t (Some n)).1 (subst (λ z. Contains z (Some n)) (sym f) i)) ∙ h));
    least = λ j l. subst (λ z. Contains z (Some (pos j))) f (below j l);
  }
