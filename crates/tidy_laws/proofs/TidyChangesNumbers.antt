-- The numbers of slots once a slot is gone.
use Rattle.std.proofs.Common.{ℕ, zero, suc, pred, ◌+◌, ◌<◌, ◌≤◌, Bool, true, false, cond, eqb, nat_lt, List, [], ◌∷◌, ◌≡◌, refl, sym, ap, ◌∙◌, true≢false, eq-eqb, arith}
use Rattle.std.proofs.lemmas.Bool.Decides.{nat_tests}
use Rattle.c_tree.specs.declared.tree.Slot.{Slot}
use Rattle.jump_meaning.specs.Code.{entry_or, cell_count, cells_of}
use Rattle.jump_meaning.specs.World.{no_slot}
use Rattle.tidy_laws.specs.Renumbered.{new_number, without}

-- two numbers that are not the same
pub other : (x y : ℕ) → eqb x y ≡ false → x ≡ y → ⊥
other x y h e = true≢false (sym (eq-eqb x y e) ∙ h)

-- a number before the slot stays
pub number_before : (g x : ℕ) → nat_lt g x ≡ false → new_number g x ≡ x
number_before g x h = ap (λ b. cond b (pred x) x) h

pub number_behind : (g x : ℕ) → nat_lt g x ≡ true → new_number g x ≡ pred x
number_behind g x h = ap (λ b. cond b (pred x) x) h

-- other slots keep apart
pub numbers_apart : (g x y : ℕ) → eqb x g ≡ false → eqb y g ≡ false → new_number g x ≡ new_number g y → x ≡ y
numbers_apart g x y h k e = at (nat_lt g x) (nat_lt g y) refl refl
  where
    at : (a b : Bool) → nat_lt g x ≡ a → nat_lt g y ≡ b → x ≡ y
    at true true i j = let q = sym (number_behind g x i) ∙ e ∙ number_behind g y j in grind (arith, nat_tests)
    at true false i j = let q = sym (number_behind g x i) ∙ e ∙ number_before g y j in let n = other y g k in grind (arith, nat_tests)
    at false true i j = let q = sym (number_before g x i) ∙ e ∙ number_behind g y j in let n = other x g h in grind (arith, nat_tests)
    at false false i j = sym (number_before g x i) ∙ e ∙ number_before g y j

-- they are parameters as before, where the slot is none
pub same_parameter : (g n x : ℕ) → n ≤ g → eqb x g ≡ false → nat_lt (new_number g x) n ≡ nat_lt x n
same_parameter g n x l h = at (nat_lt g x) refl
  where
    at : (b : Bool) → nat_lt g x ≡ b → nat_lt (new_number g x) n ≡ nat_lt x n
    at true i =
        let p : nat_lt (pred x) n ≡ false = grind (arith, nat_tests) in
        let q : nat_lt x n ≡ false = grind (arith, nat_tests) in
        ap (λ y. nat_lt y n) (number_behind g x i) ∙ p ∙ sym q
    at false i = ap (λ y. nat_lt y n) (number_before g x i)

entry_behind : (g x : ℕ) (ss : List Slot) → g ≤ x → entry_or no_slot (without g ss) x ≡ entry_or no_slot ss (suc x)
entry_behind zero x [] l = refl
entry_behind (suc g) x [] l = refl
entry_behind zero x (s ∷ ss) l = refl
entry_behind (suc g) zero (s ∷ ss) l = absurd (omega (arith, l))
entry_behind (suc g) (suc x) (s ∷ ss) l = entry_behind g x ss (omega (arith, l))

entry_before : (g x : ℕ) (ss : List Slot) → x < g → entry_or no_slot (without g ss) x ≡ entry_or no_slot ss x
entry_before zero x ss l = absurd (omega (arith, l))
entry_before (suc g) x [] l = refl
entry_before (suc g) zero (s ∷ ss) l = refl
entry_before (suc g) (suc x) (s ∷ ss) l = entry_before g x ss (omega (arith, l))

-- each other slot is there as before
pub same_entry : (g x : ℕ) (ss : List Slot) → eqb x g ≡ false → entry_or no_slot (without g ss) (new_number g x) ≡ entry_or no_slot ss x
same_entry g x ss h = at (nat_lt g x) refl
  where
    behind : (x : ℕ) → nat_lt g x ≡ true → entry_or no_slot (without g ss) (pred x) ≡ entry_or no_slot ss x
    behind zero i = let n : nat_lt g 0 ≡ false = grind (arith, nat_tests) in absurd (true≢false (sym i ∙ n))
    behind (suc x) i = entry_behind g x ss (grind (arith, nat_tests))

    at : (b : Bool) → nat_lt g x ≡ b → entry_or no_slot (without g ss) (new_number g x) ≡ entry_or no_slot ss x
    at true i = ap (entry_or no_slot (without g ss)) (number_behind g x i) ∙ behind x i
    at false i = let n = other x g h in let l : x < g = grind (arith, nat_tests) in
        ap (entry_or no_slot (without g ss)) (number_before g x i) ∙ entry_before g x ss l

-- a slot without cells takes none away
pub same_cells : (g : ℕ) (ss : List Slot) → cell_count (entry_or no_slot ss g) ≡ 0 → cells_of (without g ss) ≡ cells_of ss
same_cells g [] h = ap cells_of (none g)
  where
    none : (g : ℕ) → without g [] ≡ []
    none zero = refl
    none (suc g) = refl
same_cells zero (s ∷ ss) h = let i : cell_count s ≡ 0 = h in omega (arith, i)
same_cells (suc g) (s ∷ ss) h = ap (λ n. cell_count s + n) (same_cells g ss h)
