-- What is stored is read again, and nothing else changes.
use Rattle.std.proofs.Common.{ℕ, suc, ◌≤◌, ◌<◌, ◌≢◌, ◌⊎◌, inl, inr, ℤ, pos, Bool, true, false, cond, ◌&&◌, eqb, nat_lt, List, [], Some, None, Decides, ◌≡◌, refl, sym, ◌∙◌, ap, true≢false, arith}
use Rattle.std.proofs.lemmas.Bool.Decides.{Decides-eqb}
use Rattle.std.proofs.lemmas.Slice.Eq.{bytes_eq-Decides}
use Rattle.c_types.specs.Numbers.{converted}
use Rattle.c_tree.specs.declared.tree.Home.{Home}
use Rattle.c_tree.specs.declared.tree.Home.TheVariants as H
use Rattle.jump_meaning.specs.Values.{Owner, OfFile, OfCall, Variable, Holds, Lent, Value, Integer, Designates, Lends, Format, Missing}
use Rattle.jump_meaning.specs.Code.{FunctionTree}
use Rattle.jump_meaning.specs.World.{World, same_owner, put, named, owner, holder, kind_held, cells_held, number_held, with_number, with_zeros, load, store, clear, kind_at, slot_at_start, enter_call}
use Rattle.jump_meaning.specs.Laws.{HoldsNumbers, IsPresent, MemoryLaws}

-- ---- owners

abbrev name_of : Owner → List ℕ
name_of (OfFile m) = m
name_of (OfCall c x) = []

abbrev call_of : Owner → ℕ
call_of (OfFile m) = 0
call_of (OfCall c x) = c

abbrev slot_of : Owner → ℕ
slot_of (OfFile m) = 0
slot_of (OfCall c x) = x

abbrev is_of_file : Owner → Bool
is_of_file (OfFile m) = true
is_of_file (OfCall c x) = false

and_true : (a b : Bool) → a && b ≡ true → (a ≡ true) × (b ≡ true)
and_true true b h = (refl, h)
and_true false b h = absurd (true≢false (sym h))

true_and : (a b : Bool) → a ≡ true → b ≡ true → a && b ≡ true
true_and true b h k = k
true_and false b h k = h

-- the test says whether two owners are one
pub same_owner_decides : (o p : Owner) → Decides (same_owner o p) (o ≡ p)
same_owner_decides (OfFile m) (OfFile n) = ((λ e. ap OfFile ((bytes_eq-Decides m n).0 e)), (λ e. (bytes_eq-Decides m n).1 (ap name_of e)))
same_owner_decides (OfFile m) (OfCall d y) = ((λ e. absurd (true≢false (sym e))), (λ e. absurd (true≢false (ap is_of_file e))))
same_owner_decides (OfCall c x) (OfFile n) = ((λ e. absurd (true≢false (sym e))), (λ e. absurd (true≢false (sym (ap is_of_file e)))))
same_owner_decides (OfCall c x) (OfCall d y) = (
  (λ e. let h = and_true (eqb c d) (eqb x y) e in ap (λ z. OfCall z x) ((Decides-eqb c d).0 h.0) ∙ ap (OfCall d) ((Decides-eqb x y).0 h.1)),
  (λ e. true_and (eqb c d) (eqb x y) ((Decides-eqb c d).1 (ap call_of e)) ((Decides-eqb x y).1 (ap slot_of e))),
)

-- a fact of the chosen one, from both cases of the test
pub chosen : {A : Type 0} (P : A → Type 0) (b : Bool) (x y : A) → (b ≡ true → P x) → (b ≡ false → P y) → P (cond b x y)
chosen P true x y h k = h refl
chosen P false x y h k = k refl

-- a fact of the contents of p, where o gets other contents
pub put_holds : (P : Variable → Type 0) (o : Owner) (v : Variable) (s : Owner → Variable) (p : Owner) → (o ≡ p → P v) → (o ≢ p → P (s p)) → P (put o v s p)
put_holds P o v s p h k =
    chosen P (same_owner o p) v (s p) (λ e. h ((same_owner_decides o p).0 e)) (λ e. k (λ i. true≢false (sym ((same_owner_decides o p).1 i) ∙ e)))

-- ---- a variable of which a cell is stored, or cells are cleared

kind_kept : (i : ℕ) (z : ℤ) (v : Variable) → kind_held (with_number i z v) ≡ kind_held v
kind_kept i z (Holds k n cells) = refl
kind_kept i z (Lent o) = refl

cells_kept : (i : ℕ) (z : ℤ) (v : Variable) → cells_held (with_number i z v) ≡ cells_held v
cells_kept i z (Holds k None cells) = refl
cells_kept i z (Holds k (Some n) cells) = refl
cells_kept i z (Lent o) = refl

holder_kept : (o : Owner) (i : ℕ) (z : ℤ) (v : Variable) → holder o (with_number i z v) ≡ holder o v
holder_kept o i z (Holds k n cells) = refl
holder_kept o i z (Lent p) = refl

number_stored : (i : ℕ) (z : ℤ) (v : Variable) → HoldsNumbers v → number_held (with_number i z v) i ≡ converted (kind_held v) z
number_stored i z (Holds k n cells) h = chosen (λ x. x ≡ converted k z) (eqb i i) (converted k z) (cells i) (λ e. refl)
    (λ e. absurd (true≢false (sym ((Decides-eqb i i).1 refl) ∙ e)))
number_stored i z (Lent o) h = absurd h

number_beside : (i j : ℕ) (z : ℤ) (v : Variable) → i ≢ j → number_held (with_number i z v) j ≡ number_held v j
number_beside i j z (Holds k n cells) h = chosen (λ x. x ≡ cells j) (eqb i j) (converted k z) (cells j) (λ e. absurd (h ((Decides-eqb i j).0 e))) (λ e. refl)
number_beside i j z (Lent o) h = refl

-- ---- the world after an assignment

stored : (o : Owner) (i : ℕ) (z : ℤ) (w : World) → HoldsNumbers (w.variables o) →
    load (Designates o i) (store (Designates o i) z w) ≡ converted (kind_at (Designates o i) w) z
stored o i z w h =
    put_holds (λ v. number_held v i ≡ converted (kind_held (w.variables o)) z) o (with_number i z (w.variables o)) w.variables o
    (λ e. number_stored i z (w.variables o) h) (λ n. absurd (n refl))

beside : (o p : Owner) (i j : ℕ) (z : ℤ) (w : World) → (o ≢ p) ⊎ (i ≢ j) → load (Designates p j) (store (Designates o i) z w) ≡ load (Designates p j) w
beside o p i j z w h =
    put_holds (λ v. number_held v j ≡ number_held (w.variables p) j) o (with_number i z (w.variables o)) w.variables p
    (λ e. elim h as (λ _. number_held (with_number i z (w.variables o)) j ≡ number_held (w.variables p) j) [
      | inl n ↦ absurd (n e)
      | inr n ↦ number_beside i j z (w.variables o) n ∙ ap (λ q. number_held (w.variables q) j) e
    ])
    (λ n. refl)

-- what an assignment leaves of a variable, it leaves of all
left_alike : {A : Type 0} (F : Variable → A) (keeps : (i : ℕ) (z : ℤ) (v : Variable) → F (with_number i z v) ≡ F v) (p : Value) (z : ℤ) (w : World) (q : Owner)
    → F ((store p z w).variables q) ≡ F (w.variables q)
left_alike F keeps (Designates o i) z w q =
    put_holds (λ v. F v ≡ F (w.variables q)) o (with_number i z (w.variables o)) w.variables q
    (λ e. keeps i z (w.variables o) ∙ ap (λ r. F (w.variables r)) e) (λ n. refl)
left_alike F keeps _ z w q = refl

kinds : (p q : Value) (z : ℤ) (w : World) → kind_at q (store p z w) ≡ kind_at q w
kinds p (Designates o i) z w = left_alike kind_held kind_kept p z w o
kinds p _ z w = refl

named_kept : (h : Home) (p : Value) (z : ℤ) (w : World) → named h (store p z w) ≡ named h w
named_kept (H.Global m) p z w = refl
named_kept (H.Slot x) (Designates o i) z w = refl
named_kept (H.Slot x) (Integer n) z w = refl
named_kept (H.Slot x) (Lends o) z w = refl
named_kept (H.Slot x) (Format bs) z w = refl
named_kept (H.Slot x) Missing z w = refl

lendings : (h : Home) (p : Value) (z : ℤ) (w : World) → owner h (store p z w) ≡ owner h w
lendings h p z w =
    ap (λ o. holder o ((store p z w).variables o)) (named_kept h p z w) ∙ left_alike (holder (named h w)) (holder_kept (named h w)) p z w (named h w)

-- ---- after cells are cleared, and after a call begins

not_below : (i n : ℕ) → n ≤ i → nat_lt i n ≡ true → ⊥
not_below i n h e = grind (arith, h, e)

not_beyond : (i n : ℕ) → i < n → nat_lt i n ≡ false → ⊥
not_beyond i n h e = grind (arith, h, e)

zeros_from : (n i : ℕ) (v : Variable) → n ≤ i → i < cells_held v → number_held (with_zeros n v) i ≡ pos 0
zeros_from n i (Holds k m cells) h b =
    chosen (λ x. x ≡ pos 0) (nat_lt i n) (cells i) (cond (nat_lt i (cells_held (Holds k m cells))) (pos 0) (cells i)) (λ e. absurd (not_below i n h e))
    (λ e. chosen (λ x. x ≡ pos 0) (nat_lt i (cells_held (Holds k m cells))) (pos 0) (cells i) (λ e. refl)
    (λ e. absurd (not_beyond i (cells_held (Holds k m cells)) b e)))
zeros_from n i (Lent o) h b = refl

kept_below : (n i : ℕ) (v : Variable) → i < n → number_held (with_zeros n v) i ≡ number_held v i
kept_below n i (Holds k m cells) h =
    chosen (λ x. x ≡ cells i) (nat_lt i n) (cells i) (cond (nat_lt i (cells_held (Holds k m cells))) (pos 0) (cells i)) (λ e. refl)
    (λ e. absurd (not_beyond i n h e))
kept_below n i (Lent o) h = refl

cleared : (h : Home) (n i : ℕ) (w : World) → n ≤ i → i < cells_held (w.variables (owner h w)) → load (Designates (owner h w) i) (clear h n w) ≡ pos 0
cleared h n i w b c =
    put_holds (λ v. number_held v i ≡ pos 0) (owner h w) (with_zeros n (w.variables (owner h w))) w.variables (owner h w)
    (λ e. zeros_from n i (w.variables (owner h w)) b c) (λ d. absurd (d refl))

uncleared : (h : Home) (n : ℕ) (o : Owner) (i : ℕ) (w : World) → (owner h w ≢ o) ⊎ (i < n) → load (Designates o i) (clear h n w) ≡ load (Designates o i) w
uncleared h n o i w b =
    put_holds (λ v. number_held v i ≡ number_held (w.variables o) i) (owner h w) (with_zeros n (w.variables (owner h w))) w.variables o
    (λ e. elim b as (λ _. number_held (with_zeros n (w.variables (owner h w))) i ≡ number_held (w.variables o) i) [
      | inl d ↦ absurd (d e)
      | inr l ↦ kept_below n i (w.variables (owner h w)) l ∙ ap (λ q. number_held (w.variables q) i) e
    ])
    (λ d. refl)

kept_beyond : (n i : ℕ) (v : Variable) → cells_held v ≤ i → number_held (with_zeros n v) i ≡ number_held v i
kept_beyond n i (Holds k m cells) h =
    chosen (λ x. x ≡ cells i) (nat_lt i n) (cells i) (cond (nat_lt i (cells_held (Holds k m cells))) (pos 0) (cells i)) (λ e. refl)
    (λ e. chosen (λ x. x ≡ cells i) (nat_lt i (cells_held (Holds k m cells))) (pos 0) (cells i)
    (λ d. absurd (not_below i (cells_held (Holds k m cells)) h d)) (λ d. refl))
kept_beyond n i (Lent o) h = refl

beyond : (h : Home) (n i : ℕ) (w : World) → cells_held (w.variables (owner h w)) ≤ i →
    load (Designates (owner h w) i) (clear h n w) ≡ load (Designates (owner h w) i) w
beyond h n i w b =
    put_holds (λ v. number_held v i ≡ number_held (w.variables (owner h w)) i) (owner h w) (with_zeros n (w.variables (owner h w))) w.variables (owner h w)
    (λ e. kept_beyond n i (w.variables (owner h w)) b) (λ d. absurd (d refl))

present : (f : FunctionTree) (vs : List Value) (w : World) (o : Owner) → IsPresent w o → (enter_call f vs w).variables o ≡ w.variables o
present f vs w (OfFile m) h = refl
present f vs w (OfCall c x) h =
    chosen (λ v. v ≡ w.variables (OfCall c x)) (eqb (suc w.calls) c) (slot_at_start f vs x) (w.variables (OfCall c x))
    (λ e. let i = (Decides-eqb (suc w.calls) c).0 e in absurd (omega (arith, h, i))) (λ e. refl)

entered : (f : FunctionTree) (vs : List Value) (w : World) (x : ℕ) → (enter_call f vs w).variables (OfCall (suc w.calls) x) ≡ slot_at_start f vs x
entered f vs w x =
    chosen (λ v. v ≡ slot_at_start f vs x) (eqb (suc w.calls) (suc w.calls)) (slot_at_start f vs x) (w.variables (OfCall (suc w.calls) x))
    (λ e. refl) (λ e. absurd (true≢false (sym ((Decides-eqb (suc w.calls) (suc w.calls)).1 refl) ∙ e)))

pub memory_laws : MemoryLaws
memory_laws = record {
  stored = stored;
  beside = beside;
  kinds = kinds;
  lengths = λ p z w o. left_alike cells_held cells_kept p z w o;
  lendings = lendings;
  cleared = cleared;
  uncleared = uncleared;
  beyond = beyond;
  present = present;
  entered = entered;
}
