-- The variables of the machine: which of them are one, and what they are after one of them changes.
use Rattle.std.proofs.Common.{ℕ, zero, suc, map, get_or, ◌∷◌, ◌++◌, ◌<◌, List, [], slice_set, slice_get, length, Option, Some, None, option_and_then, eqb, ◌≡◌, ◌≢◌, ◌⊎◌, inl, inr, refl, sym, ap, ◌∙◌, subst, true≢false, arith}
use Rattle.std.proofs.lemmas.Bool.Decides.{Decides-eqb}
use Rattle.std.proofs.lemmas.List.{length-set}
use Rattle.std.proofs.lemmas.Option.{slice_get_within}
use Rattle.c_types.specs.declared.kinds.IntKind.{IntKind}
use Rattle.c_tree.specs.declared.tree.Home.{Home}
use Rattle.c_tree.specs.declared.tree.Home.TheVariants as H
use Rattle.c_tree.proofs.ExchangeLemmas.{get_set-other}
use Rattle.c_tree.proofs.PathLemmas.{get_set}
use Rattle.jump_meaning.specs.Values as Meant
use Rattle.jump_meaning.specs.Values.{Variable, Designates, OfFile, OfCall, Value}
use Rattle.jump_meaning.specs.Code.{entry_or}
use Rattle.jump_meaning.specs.World.{World, put, put_call, holder, with_zeros, slot_at_start}
use Rattle.jump_meaning.proofs.Memory.{put_holds, chosen}
use Rattle.step_memory.specs.declared.room.Cells.{Cells}
use Rattle.step_memory.specs.declared.room.Cells.TheVariants.{Number, Array, Lent}
use Rattle.step_memory.specs.declared.room.Room.{Room}
use Rattle.step_memory.specs.declared.store.Store.{Store}
use Rattle.step_memory.specs.declared.value.Owner.{Owner}
use Rattle.step_memory.specs.declared.value.Owner.TheVariants.{File, Call}
use Rattle.step_memory.specs.Values.{owner_of}
use Rattle.step_memory.specs.Pages.{cells_at_start}
use Rattle.step_memory.specs.Rooms.{AreCells, IsRoom, Becomes, BecomesAt, HasSlots, AreSlots}
use Rattle.step_memory.specs.Stores.{names_of, room_at, HoldsWorld, ClearsIn, EntersCall, Names, Reaches}

-- ---- which variables are one

one_number : (i j : ℕ) → (i ≡ j) ⊎ (i ≢ j)
one_number i j =
    chosen (λ (x : ℕ). (i ≡ j) ⊎ (i ≢ j)) (eqb i j) 0 0 (λ e. inl ((Decides-eqb i j).0 e)) (λ e. inr (λ h. true≢false (sym ((Decides-eqb i j).1 h) ∙ e)))

one_or_apart : (o p : Owner) → (p ≡ o) ⊎ (p ≢ o)
one_or_apart (File i) (File j) = elim (one_number j i) as (λ _. (File j ≡ File i) ⊎ (File j ≢ File i)) [
  | inl e ↦ inl (ap File e)
  | inr n ↦ inr (λ e. n (cc))
]
one_or_apart (File i) (Call d y) = inr (λ e. cc)
one_or_apart (Call c x) (File j) = inr (λ e. cc)
one_or_apart (Call c x) (Call d y) = elim (one_number d c) as (λ _. (Call d y ≡ Call c x) ⊎ (Call d y ≢ Call c x)) [
  | inl e ↦ elim (one_number y x) as (λ _. (Call d y ≡ Call c x) ⊎ (Call d y ≢ Call c x)) [
    | inl h ↦ inl (cc)
    | inr n ↦ inr (λ h. n (cc))
  ]
  | inr n ↦ inr (λ h. n (cc))
]

-- two variables of the machine that exist are one where they mean one
alone : (s : Store) (w : World) (o p : Owner) (q r : Room) → HoldsWorld s w → room_at s o ≡ Some q → room_at s p ≡ Some r →
    owner_of (names_of s) o ≡ owner_of (names_of s) p → o ≡ p
alone s w (File i) (File j) q r h a b e = ap File (h.apart i j (slice_get_within s.file i q a) (slice_get_within s.file j r b) (cc))
alone s w (File i) (Call c x) q r h a b e = absurd (cc)
alone s w (Call c x) (File j) q r h a b e = absurd (cc)
alone s w (Call c x) (Call d y) q r h a b e = cc

-- ---- one variable changes

-- the room of a variable changes, and each other room stays
record IsPut (o : Owner) (was now : Room) (old new : Store) : Type 0 where
  before : room_at old o ≡ Some was
  after : room_at new o ≡ Some now
  beside : (p : Owner) → p ≢ o → room_at new p ≡ room_at old p

put_world : (s : Store) (fs : List Room) (cs : List (List Room)) (o : Owner) (was now : Room) (F : Variable → Variable) (w : World)
    → length fs ≡ length s.file → IsPut o was now s (record s { file = fs; calls = cs }) → Becomes F was now → HoldsWorld s w
    → HoldsWorld (record s { file = fs; calls = cs })
    (record w { variables = put (owner_of (names_of s) o) (F (w.variables (owner_of (names_of s) o))) w.variables })
put_world s fs cs o was now F w len i b h = record { rooms = rooms; apart = λ i j x y e. h.apart i j (omega arith) (omega arith) e; newest = h.newest } where
  ns : List (List ℕ)
  ns = names_of s

  q : Meant.Owner
  q = owner_of ns o

  own : (r : Room) → room_at (record s { file = fs; calls = cs }) o ≡ Some r → IsRoom ns r (put q (F (w.variables q)) w.variables q)
  own r e =
      let same : now ≡ r = cc (i.after, e) in
      put_holds (IsRoom ns r) q (F (w.variables q)) w.variables q
      (λ _. subst (λ x. IsRoom ns x (F (w.variables q))) same (b ns (w.variables q) (h.rooms o was i.before))) (λ n. absurd (n refl))

  rooms : (p : Owner) (r : Room) → room_at (record s { file = fs; calls = cs }) p ≡ Some r → IsRoom ns r (put q (F (w.variables q)) w.variables (owner_of ns p))
  rooms p r e = elim (one_or_apart o p) as (λ _. IsRoom ns r (put q (F (w.variables q)) w.variables (owner_of ns p))) [
    | inl m ↦ subst (λ x. IsRoom ns r (put q (F (w.variables q)) w.variables (owner_of ns x))) (sym m)
        (own r (subst (λ x. room_at (record s { file = fs; calls = cs }) x ≡ Some r) m e))
    | inr n ↦
        let there : room_at s p ≡ Some r = sym (i.beside p n) ∙ e in
        put_holds (IsRoom ns r) q (F (w.variables q)) w.variables (owner_of ns p) (λ m. absurd (n (sym (alone s w o p was r h i.before there m))))
        (λ _. h.rooms p r there)
  ]

put_file : (s : Store) (place : ℕ) (was now : Room) → slice_get s.file place ≡ Some was →
    IsPut (File place) was now s (record s { file = slice_set s.file place now })
put_file s place was now e = record { before = e; after = get_set s.file place was now e; beside = beside } where
  beside : (p : Owner) → p ≢ File place → room_at (record s { file = slice_set s.file place now }) p ≡ room_at s p
  beside (File j) n = get_set-other s.file place j now (λ m. n (ap File (sym m)))
  beside (Call d y) n = refl

put_slot : (s : Store) (c x : ℕ) (rs : List Room) (was now : Room) → slice_get s.calls c ≡ Some rs → slice_get rs x ≡ Some was
    → IsPut (Call c x) was now s (record s { calls = slice_set s.calls c (slice_set rs x now) })
put_slot s c x rs was now a e = record {
  before = ap (option_and_then (λ xs. slice_get xs x)) a ∙ e;
  after = ap (option_and_then (λ xs. slice_get xs x)) (get_set s.calls c rs (slice_set rs x now) a) ∙ get_set rs x was now e;
  beside = beside;
}
  where
    beside : (p : Owner) → p ≢ Call c x → room_at (record s { calls = slice_set s.calls c (slice_set rs x now) }) p ≡ room_at s p
    beside (File j) n = refl
    beside (Call d y) n = elim (one_number c d) as (λ _. room_at (record s { calls = slice_set s.calls c (slice_set rs x now) }) (Call d y) ≡ room_at
        s (Call d y)) [
          | inl m ↦
              ap (λ z. option_and_then (λ xs. slice_get xs y) (slice_get (slice_set s.calls c (slice_set rs x now)) z)) (sym m)
              ∙ ap (option_and_then (λ xs. slice_get xs y)) (get_set s.calls c rs (slice_set rs x now) a)
              ∙ get_set-other rs x y now (λ h. n (ap (λ z. Call z y) (sym m) ∙ ap (Call c) (sym h)))
              ∙ sym (ap (λ z. option_and_then (λ xs. slice_get xs y) (slice_get s.calls z)) (sym m) ∙ ap (option_and_then (λ xs. slice_get xs y)) a)
          | inr m ↦ ap (option_and_then (λ xs. slice_get xs y)) (get_set-other s.calls c d (slice_set rs x now) m)
        ]

-- a variable of the file, or a slot, becomes what F makes of it
abbrev pub Changes : (Variable → Variable) → Owner → Store → Store → Type 0
Changes F o old new = (w : World) → HoldsWorld old w → HoldsWorld new
    (record w { variables = put (owner_of (names_of old) o) (F (w.variables (owner_of (names_of old) o))) w.variables })

pub change_file : (s : Store) (place : ℕ) (F : Variable → Variable) (fs : List Room) → BecomesAt F place s.file fs →
    Changes F (File place) s (record s { file = fs })
change_file s place F fs (was, now, e, b, m) w h =
    let i = put_file s place was now e in
    subst (λ xs. HoldsWorld (record s { file = xs })
    (record w { variables = put (owner_of (names_of s) (File place)) (F (w.variables (owner_of (names_of s) (File place)))) w.variables })) (sym m)
    (put_world s (slice_set s.file place now) s.calls (File place) was now F w (length-set s.file place now) i b h)

pub change_slot : (s : Store) (c x : ℕ) (F : Variable → Variable) (rs rs' : List Room) → slice_get s.calls c ≡ Some rs → BecomesAt F x rs rs' →
    Changes F (Call c x) s (record s { calls = slice_set s.calls c rs' })
change_slot s c x F rs rs' a (was, now, e, b, m) w h =
    let i = put_slot s c x rs was now a e in
    subst (λ xs. HoldsWorld (record s { calls = slice_set s.calls c xs })
    (record w { variables = put (owner_of (names_of s) (Call c x)) (F (w.variables (owner_of (names_of s) (Call c x)))) w.variables })) (sym m)
    (put_world s s.file (slice_set s.calls c (slice_set rs x now)) (Call c x) was now F w refl i b h)

-- the variable that a name reaches is cleared
pub clears_in : (s new : Store) (x n : ℕ) (o : Owner) → Reaches s (H.Slot x) o → Changes (with_zeros n) o s new → ClearsIn (H.Slot x) n s new
clears_in s new x n o r c w h = subst (λ q. HoldsWorld new (record w { variables = put q (with_zeros n (w.variables q)) w.variables })) (sym (r w h)) (c w h)

-- ---- a call is entered

entered_room : (s : Store) (w : World) (c : ℕ) (slots : ℕ → Variable) (rs : List Room) (d y : ℕ) (r : Room)
    → AreSlots (names_of s) rs slots → suc w.calls ≡ c → ((d ≡ c) × (slice_get rs y ≡ Some r)) ⊎ ((d ≢ c) × (IsRoom (names_of s) r (w.variables (OfCall d y))))
    → IsRoom (names_of s) r (put_call (suc w.calls) slots w.variables (OfCall d y))
entered_room s w c slots rs d y r a e i = elim i as (λ _. IsRoom (names_of s) r (put_call (suc w.calls) slots w.variables (OfCall d y))) [
  | inl m ↦ chosen (IsRoom (names_of s) r) (eqb (suc w.calls) d) (slots y) (w.variables (OfCall d y)) (λ _. a y r m.1)
      (λ f. absurd (true≢false (sym ((Decides-eqb (suc w.calls) d).1 (e ∙ sym m.0)) ∙ f)))
  | inr m ↦ chosen (IsRoom (names_of s) r) (eqb (suc w.calls) d) (slots y) (w.variables (OfCall d y))
      (λ t. absurd (m.0 (sym ((Decides-eqb (suc w.calls) d).0 t) ∙ e))) (λ _. m.1)
]

-- the slots of the new call stand at its number, and those of each other call stay
pub enters : (s : Store) (c : ℕ) (rs : List Room) (cs : List (List Room)) → suc s.newest ≡ c → HasSlots c rs s.calls cs →
    EntersCall rs s (record s { calls = cs; newest = c })
enters s c rs cs n (there, beside) f vs a w h = record { rooms = rooms; apart = h.apart; newest = ap suc h.newest ∙ n } where
  rooms : (p : Owner) (r : Room) → room_at (record s { calls = cs; newest = c }) p ≡ Some r →
      IsRoom (names_of s) r (put_call (suc w.calls) (slot_at_start f vs) w.variables (owner_of (names_of s) p))
  rooms (File i) r e = h.rooms (File i) r e
  rooms (Call d y) r e = elim (one_number d c) as (λ _. IsRoom (names_of s) r (put_call (suc w.calls) (slot_at_start f vs) w.variables (OfCall d y))) [
    | inl m ↦
        entered_room s w c (slot_at_start f vs) rs d y r a (ap suc h.newest ∙ n)
        (inl (m, sym (ap (option_and_then (λ xs. slice_get xs y)) (ap (slice_get cs) m ∙ there)) ∙ e))
    | inr m ↦
        entered_room s w c (slot_at_start f vs) rs d y r a (ap suc h.newest ∙ n)
        (inr (m, h.rooms (Call d y) r (sym (ap (option_and_then (λ xs. slice_get xs y)) (beside d m)) ∙ e)))
  ]

  other : {A : Type 0} (xs : List A) (x : A) (d : ℕ) → d ≢ length xs → slice_get (xs ++ x ∷ []) d ≡ slice_get xs d
  other [] x zero n = absurd (n refl)
  other [] x (suc d) n = refl
  other (y ∷ ys) x zero n = refl
  other (y ∷ ys) x (suc d) n = other ys x d (λ e. n (ap suc e))

-- ---- the variable that a name reaches

holder_lent : (ns : List (List ℕ)) (k : IntKind) (p : Owner) (v : Variable) (q : Meant.Owner) → AreCells ns k (Lent p) v → holder q v ≡ owner_of ns p
holder_lent ns k p (Meant.Holds j None c) q h = absurd h
holder_lent ns k p (Meant.Holds j (Some n) c) q h = absurd h
holder_lent ns k p (Meant.Lent o) q h = h

holder_own : (ns : List (List ℕ)) (k : IntKind) (cells : Cells) (v : Variable) (q : Meant.Owner) → ((p : Owner) → cells ≡ Lent p → ⊥) →
    AreCells ns k cells v → holder q v ≡ q
holder_own ns k (Number z) (Meant.Holds j n c) q off h = refl
holder_own ns k (Number z) (Meant.Lent o) q off h = absurd h
holder_own ns k (Array xs) (Meant.Holds j n c) q off h = refl
holder_own ns k (Array xs) (Meant.Lent o) q off h = absurd h
holder_own ns k (Lent p) v q off h = absurd (off p refl)

pub own_at_start : (cells : Option ℕ) (p : Owner) → cells_at_start cells ≡ Lent p → ⊥
own_at_start None p e = cc
own_at_start (Some n) p e = cc

pub reaches_lent : (s : Store) (h : Home) (o p : Owner) (r : Room) → Names s h o → room_at s o ≡ Some r → r.cells ≡ Lent p → Reaches s h p
reaches_lent s h o p r n a e w hw =
    ap (λ q. holder q (w.variables q)) (n w hw)
    ∙ holder_lent (names_of s) r.kind p (w.variables (owner_of (names_of s) o)) (owner_of (names_of s) o)
    (subst (λ x. AreCells (names_of s) r.kind x (w.variables (owner_of (names_of s) o))) e (hw.rooms o r a))

pub reaches_own : (s : Store) (h : Home) (o : Owner) (r : Room) → Names s h o → room_at s o ≡ Some r → ((p : Owner) → r.cells ≡ Lent p → ⊥) → Reaches s h o
reaches_own s h o r n a off w hw =
    ap (λ q. holder q (w.variables q)) (n w hw)
    ∙ holder_own (names_of s) r.kind r.cells (w.variables (owner_of (names_of s) o)) (owner_of (names_of s) o) off (hw.rooms o r a)

-- ---- the table of names

pub entry_map : {A : Type 0} (f : A → List ℕ) (xs : List A) (i : ℕ) (d : A) → i < length xs → entry_or [] (map f xs) i ≡ f (get_or xs i d)
entry_map f [] i d h = absurd (omega arith)
entry_map f (x ∷ xs) zero d h = refl
entry_map f (x ∷ xs) (suc i) d h = entry_map f xs i d (omega arith)
