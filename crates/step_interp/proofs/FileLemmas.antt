-- The variables of the file, one declaration after the other.
use Rattle.std.proofs.Common.{ℕ, zero, suc, ◌+◌, ◌<◌, ◌≤◌, ◌⊎◌, inl, inr, ℤ, pos, Bool, true, false, ◌||◌, cond, List, [], map, option_and_then, ◌∷◌, ◌++◌, length, get_or, slice_get, Option, Some, is_some, ◌≡◌, refl, sym, ap, ◌∙◌, subst, true≢false, bytes_eq, arith}
use Rattle.std.specs.Borrow.{Bor}
use Rattle.std.specs.BTreeMap.{BTreeMap, IsEmpty, get_by, is_at}
use Rattle.std.specs.Cmp.Lexicographic.{slice_cmp}
use Rattle.std.specs.Map.{lookup}
use Rattle.std.specs.Ordering.{nat_cmp}
use Rattle.std.proofs.lemmas.List.{length-append}
use Rattle.std.proofs.lemmas.Option.{slice_get_within}
use Rattle.std.proofs.lemmas.Slice.Eq.{bytes_eq-Decides}
use Rattle.c_types.specs.declared.kinds.IntKind.{IntKind}
use Rattle.c_types.specs.Numbers.{converted}
use Rattle.c_tree.specs.declared.tree.Expression.{Expression}
use Rattle.c_tree.specs.declared.tree.GlobalVariable.{GlobalVariable}
use Rattle.c_tree.specs.declared.tree.Program.{Program}
use Rattle.c_tree.specs.declared.tree.Top.{Top}
use Rattle.c_tree.specs.declared.tree.Top.TheVariants as T
use Rattle.c_tree.specs.ExpressionTrees.{expression_tree}
use Rattle.jump_meaning.specs.Code.{code_of, entry_or, constant_or_zero, initial_variable, global_named}
use Rattle.jump_meaning.specs.World.{world_at_start}
use Rattle.jump_meaning.proofs.Memory.{chosen}
use Rattle.step_memory.specs.declared.room.Room.{Room}
use Rattle.step_memory.specs.declared.store.Store.{Store}
use Rattle.step_memory.specs.declared.value.Owner.{Owner}
use Rattle.step_memory.specs.declared.value.Owner.TheVariants.{File, Call}
use Rattle.step_memory.specs.Rooms.{IsRoom}
use Rattle.step_memory.specs.Stores.{HoldsWorld, names_of, room_at}
use Rattle.step_memory.specs.Values.{owner_of}
use Rattle.step_interp.proofs.SlotLemmas.{one_slot_more}
use Rattle.step_interp.specs.Files.{first_cell, has_name, HasFile, HasPlaces}

-- ---- first numbers

pub first_is : (k : IntKind) (es : List Expression) (i : ℕ) (e : Expression) → i < length es → e ≡ get_or es i e →
    first_cell k es i ≡ converted k (constant_or_zero (expression_tree e))
first_is k [] i e l h = absurd (omega arith)
first_is k (x ∷ es) zero e l h = ap (λ y. converted k (constant_or_zero (expression_tree y))) (sym h)
first_is k (x ∷ es) (suc i) e l h = first_is k es i e (omega arith) h

pub first_none : (k : IntKind) (es : List Expression) (i : ℕ) → length es ≤ i → first_cell k es i ≡ pos 0
first_none k [] i h = refl
first_none k (x ∷ es) zero h = absurd (omega arith)
first_none k (x ∷ es) (suc i) h = first_none k es i (omega arith)

-- one more number behind the others
pub one_number_more : (cells : List ℤ) (z : ℤ) (f : ℕ → ℤ) → ((i : ℕ) → i < length cells → slice_get cells i ≡ Some (f i)) → z ≡ f (length cells)
    → (i : ℕ) → i < length (cells ++ z ∷ []) → slice_get (cells ++ z ∷ []) i ≡ Some (f i)
one_number_more [] z f h e zero l = ap Some e
one_number_more [] z f h e (suc i) l = absurd (omega arith)
one_number_more (y ∷ cells) z f h e zero l = h 0 (omega arith)
one_number_more (y ∷ cells) z f h e (suc i) l = one_number_more cells z (λ j. f (suc j)) (λ j q. h (suc j) (omega (arith, q))) e i (omega (arith, l))

-- ---- names

either_true : (n m : List ℕ) (ns : List (List ℕ)) → n ≡ m → has_name (n ∷ ns) m ≡ true
either_true n m ns e = ap (λ b. b || has_name ns m) ((bytes_eq-Decides n m).1 e)

later_true : (n m : List ℕ) (ns : List (List ℕ)) → has_name ns m ≡ true → has_name (n ∷ ns) m ≡ true
later_true n m ns e = ap (λ b. bytes_eq n m || b) e ∙ true_last (bytes_eq n m) where
  true_last : (b : Bool) → (b || true) ≡ true
  true_last true = refl
  true_last false = refl

named_there : (ns : List (List ℕ)) (i : ℕ) (m : List ℕ) → i < length ns → entry_or [] ns i ≡ m → has_name ns m ≡ true
named_there [] i m h e = absurd (omega arith)
named_there (n ∷ ns) zero m h e = either_true n m ns e
named_there (n ∷ ns) (suc i) m h e = later_true n m ns (named_there ns i m (omega arith) e)

name_added : (ns : List (List ℕ)) (n m : List ℕ) → has_name (ns ++ n ∷ []) m ≡ (has_name ns m || bytes_eq n m)
name_added [] n m = or_false (bytes_eq n m) where
  or_false : (b : Bool) → (b || false) ≡ b
  or_false true = refl
  or_false false = refl
name_added (x ∷ ns) n m = ap (λ b. bytes_eq x m || b) (name_added ns n m) ∙ or_or (bytes_eq x m) (has_name ns m) (bytes_eq n m) where
  or_or : (a b c : Bool) → (a || (b || c)) ≡ ((a || b) || c)
  or_or true b c = refl
  or_or false b c = refl

left_false : (a b : Bool) → (a || b) ≡ false → a ≡ false
left_false true b e = absurd (true≢false e)
left_false false b e = refl

right_false : (a b : Bool) → (a || b) ≡ false → b ≡ false
right_false true b e = absurd (true≢false e)
right_false false b e = e

entry_before : (ns : List (List ℕ)) (n : List ℕ) (i : ℕ) → i < length ns → entry_or [] (ns ++ n ∷ []) i ≡ entry_or [] ns i
entry_before [] n i h = absurd (omega arith)
entry_before (x ∷ ns) n zero h = refl
entry_before (x ∷ ns) n (suc i) h = entry_before ns n i (omega arith)

entry_last : (ns : List (List ℕ)) (n : List ℕ) → entry_or [] (ns ++ n ∷ []) (length ns) ≡ n
entry_last [] n = refl
entry_last (x ∷ ns) n = entry_last ns n

-- ---- declarations

global_here : (g : GlobalVariable) (m : List ℕ) (ts : List Top) → bytes_eq g.slot.name m ≡ true → global_named m (T.Global g ∷ ts) ≡ initial_variable g
global_here g m ts e = ap (λ b. cond b (initial_variable g) (global_named m ts)) e

global_there : (g : GlobalVariable) (m : List ℕ) (ts : List Top) → bytes_eq g.slot.name m ≡ false → global_named m (T.Global g ∷ ts) ≡ global_named m ts
global_there g m ts e = ap (λ b. cond b (initial_variable g) (global_named m ts)) e

-- a declaration that has its variable already
pub skipped : (tops left : List Top) (names : List (List ℕ)) (file : List Room) (g : GlobalVariable) → has_name names g.slot.name ≡ true →
    HasFile tops (T.Global g ∷ left) names file → HasFile tops left names file
skipped tops left names file g e h = record {
  count = h.count;
  rooms = h.rooms;
  apart = h.apart;
  others = λ m n. h.others m n ∙ chosen (λ x. x ≡ global_named m left) (bytes_eq g.slot.name m) (initial_variable g) (global_named m left)
      (λ t. absurd (true≢false (sym e ∙ ap (has_name names) ((bytes_eq-Decides g.slot.name m).0 t) ∙ n))) (λ f. refl);
}

order : (i n : ℕ) → i < suc n → (i < n) ⊎ (i ≡ n)
order i n h = grind arith

-- a declaration of another name
pub added : (tops left : List Top) (names : List (List ℕ)) (file : List Room) (g : GlobalVariable) (room : Room) → has_name names g.slot.name ≡ false
    → ((ns : List (List ℕ)) → IsRoom ns room (initial_variable g)) → HasFile tops (T.Global g ∷ left) names file →
    HasFile tops left (names ++ g.slot.name ∷ []) (file ++ room ∷ [])
added tops left names file g room e k h = record {
  count = length-append names (m ∷ []) ∙ ap (λ n. n + 1) h.count ∙ sym (length-append file (room ∷ []));
  rooms = λ i r q ns. one_slot_more ns file room (λ x. global_named (entry_or [] (names ++ m ∷ []) x) tops)
      (λ x y p. subst (λ n. IsRoom ns y (global_named n tops)) (sym (entry_before names m x (within x (slice_get_within file x y p)))) (h.rooms x y p ns))
      (subst (IsRoom ns room) (sym here) (k ns)) i r q;
  apart = λ i j a b q. places i j (order i (length file) (shorter i a)) (order j (length file) (shorter j b)) q;
  others = λ q n.
      let x = sym (name_added names m q) ∙ n in h.others q (left_false (has_name names q) (bytes_eq m q) x) ∙ global_there g q left
      (right_false (has_name names q) (bytes_eq m q) x);
} where
  m : List ℕ
  m = g.slot.name

  within : (x : ℕ) → x < length file → x < length names
  within x l = subst (λ n. x < n) (sym h.count) l

  shorter : (i : ℕ) → i < length (file ++ room ∷ []) → i < suc (length file)
  shorter i a = omega (arith, a, length-append file (room ∷ []))

  here : global_named (entry_or [] (names ++ m ∷ []) (length file)) tops ≡ initial_variable g
  here = ap (λ n. global_named (entry_or [] (names ++ m ∷ []) n) tops) (sym h.count) ∙ ap (λ n. global_named n tops) (entry_last names m) ∙
      h.others m e ∙ global_here g m left ((bytes_eq-Decides m m).1 refl)

  last_is : entry_or [] (names ++ m ∷ []) (length file) ≡ m
  last_is = ap (entry_or [] (names ++ m ∷ [])) (sym h.count) ∙ entry_last names m

  other_name : (i : ℕ) → i < length file → entry_or [] (names ++ m ∷ []) i ≡ m → ⊥
  other_name i l q = true≢false (sym (named_there names i m (within i l) (sym (entry_before names m i (within i l)) ∙ q)) ∙ e)

  places : (i j : ℕ) → (i < length file) ⊎ (i ≡ length file) → (j < length file) ⊎ (j ≡ length file) →
      entry_or [] (names ++ m ∷ []) i ≡ entry_or [] (names ++ m ∷ []) j → i ≡ j
  places i j (inl a) (inl b) q = h.apart i j a b (sym (entry_before names m i (within i a)) ∙ q ∙ entry_before names m j (within j b))
  places i j (inl a) (inr b) q = absurd (other_name i a (q ∙ ap (entry_or [] (names ++ m ∷ [])) b ∙ last_is))
  places i j (inr a) (inl b) q = absurd (other_name j b (sym q ∙ ap (entry_or [] (names ++ m ∷ [])) a ∙ last_is))
  places i j (inr a) (inr b) q = a ∙ sym b

-- ---- places

pub no_places : (names : List (Bor (List ℕ))) (places : BTreeMap (Bor (List ℕ)) ℕ) → names ≡ [] → IsEmpty places → HasPlaces (map (λ n. n.now) names) places
no_places names places e k m = ap (λ es. is_some (lookup (is_at (λ b. slice_cmp nat_cmp m b.now)) es)) k ∙ sym (ap (λ ns. has_name (map (λ n. n.now) ns) m) e)

-- a name more
pub place_added : (names : List (List ℕ)) (n : List ℕ) (i : ℕ) (old new : BTreeMap (Bor (List ℕ)) ℕ) → HasPlaces names old
    → ((m : List ℕ) → get_by (λ k. slice_cmp nat_cmp m k.now) new ≡ cond (bytes_eq n m) (Some i) (get_by (λ k. slice_cmp nat_cmp m k.now) old)) →
    HasPlaces (names ++ n ∷ []) new
place_added names n i old new h u m = ap is_some (u m) ∙ at (bytes_eq n m) (get_by (λ k. slice_cmp nat_cmp m k.now) old) (has_name names m) (h m) ∙
    sym (name_added names n m) where
      at : (b : Bool) (o : Option ℕ) (c : Bool) → is_some o ≡ c → is_some (cond b (Some i) o) ≡ (c || b)
      at true o true e = refl
      at true o false e = refl
      at false o true e = e
      at false o false e = e

-- ---- the whole file

pub no_variable : (tops : List Top) → HasFile tops tops [] []
no_variable tops = record {
  count = refl;
  rooms = λ i r e ns. absurd (cc);
  apart = λ i j a b e. absurd (omega (arith, a));
  others = λ m e. refl;
}

-- before any call only the variables of the file are present
pub first_holds : (p : Program) (s : Store) (input : List ℕ) (left : List Top) → HasFile p.tops left (names_of s) s.file → s.calls ≡ [] ∷ [] →
    s.newest ≡ 0 → HoldsWorld s (world_at_start (code_of p) input [])
first_holds p s input left h c n = record { rooms = rooms; apart = h.apart; newest = sym n } where
  none_there : (c x : ℕ) (r : Room) → option_and_then (λ rs. slice_get rs x) (slice_get ([] ∷ []) c) ≡ Some r → ⊥
  none_there zero x r e = absurd (cc)
  none_there (suc c) x r e = absurd (cc)

  rooms : (o : Owner) (r : Room) → room_at s o ≡ Some r → IsRoom (names_of s) r ((world_at_start (code_of p) input []).variables (owner_of (names_of s) o))
  rooms (File i) r e = h.rooms i r e (names_of s)
  rooms (Call d x) r e = absurd (none_there d x r (subst (λ cs. option_and_then (λ rs. slice_get rs x) (slice_get cs d) ≡ Some r) c e))
