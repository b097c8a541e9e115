-- What operations come to on both sides.
use Rattle.std.proofs.Common.{ℕ, ◌<◌, ℤ, pos, negsuc, Bool, true, false, cond, ◌||◌, nat_lt, List, [], ◌∷◌, codes, Option, Some, None, Result, Ok, Err, ◌≡◌, refl, sym, ap, ◌∙◌, subst, bytes_eq, arith}
use Rattle.std.proofs.lemmas.Int.{ints}
use Rattle.c_types.specs.declared.kinds.IntKind.{IntKind}
use Rattle.c_types.specs.declared.kinds.IntKind.TheVariants.{UChar, Int}
use Rattle.c_types.specs.declared.trap.Trap.{Trap}
use Rattle.c_types.specs.Numbers.{promoted, converted, residue, IsInRange, arith_result}
use Rattle.c_types.proofs.Residues.{converted-in_range, residue_below}
use Rattle.c_tree.specs.declared.tree.Home.{Home}
use Rattle.c_tree.specs.declared.tree.Home.TheVariants as H
use Rattle.jump_meaning.specs.Values.{Owner, OfFile, OfCall, Value, Integer, Designates, Missing, Event, integer}
use Rattle.jump_meaning.specs.Code.{FunctionTree, Code}
use Rattle.jump_meaning.specs.World.{World, Outcome, Gives, Traps, Exits, owner, holder, kind_held, cells_held, number_held, put, with_number, cell, cell_of}
use Rattle.jump_meaning.specs.Operations.{outcome, loaded, assign, counted, count, count_mark, converted_value}
use Rattle.jump_meaning.specs.Known.{next, printed_bytes, read_byte, write_byte, write_bytes, answered, call_without_body}
use Rattle.plain_laws.specs.Kinded.{IsHome, home_kind, kind_called}
use Rattle.plain_laws.proofs.Memories.{Shapes, Variables, Memories, Target, owner_kind, Kept, kept_same, own_kind, own_number, target_same, target_own, home_reached, stored, put_kept}
use Rattle.plain_laws.proofs.Sorts.{Sort, Num, Spot, HasSort, Under, under, ResultHas}
use Rattle.plain_laws.proofs.Relation.{world}

module _ (p : Code) (sh : Shapes) (n : ℕ) (s vs : Variables) (cells : ℕ) (m : Memories p sh n s vs) where
  -- both give the same, or stop alike
  pub data SameOutcome (t : Sort) : Outcome → Outcome → Type 0 where
    o_gives : (x : Value) (s2 v2 : Variables) (input : List ℕ) (answers : List ℤ) (events : List Event) → HasSort p sh n t x → Memories p sh n s2 v2 →
        Kept p sh vs v2
        → SameOutcome t (Gives x (world s2 n cells input answers events)) (Gives x (world v2 n cells input answers events))
    o_traps : (r : Trap) (w w' : World) → w.events ≡ w'.events → SameOutcome t (Traps r w) (Traps r w')
    o_exits : (z : ℤ) (w w' : World) → w.events ≡ w'.events → SameOutcome t (Exits z w) (Exits z w')

  module _ (input : List ℕ) (answers : List ℤ) (events : List Event) where
    abbrev l : World
    l = world s n cells input answers events

    abbrev r : World
    r = world vs n cells input answers events

    gives : (t : Sort) (x : Value) → HasSort p sh n t x → SameOutcome t (Gives x l) (Gives x r)
    gives t x h = o_gives x s vs input answers events h m (kept_same p sh vs)

    -- the result of a mark
    pub result_outcome : (b t : Sort) (z : Result ℤ Trap) → Under b t → ResultHas p sh n b z → SameOutcome t (outcome z l) (outcome z r)
    result_outcome b t (Ok z) u h = gives t (Integer z) (under p sh n b t (Integer z) u h)
    result_outcome b t (Err e) u h = o_traps e l r refl

    -- a home that is reached
    pub place_same : (h : Home) → IsHome (sh n).slots h → owner h r ≡ owner h l
    place_same (H.Global f) i = ap (holder (OfFile f)) (m.file_same f)
    place_same (H.Slot x) i = ap (holder (OfCall n x)) (m.call_same n x (omega arith) i)

    pub place_sort : (h : Home) (i : ℕ) → IsHome (sh n).slots h → HasSort p sh n (Spot (home_kind p (sh n).slots h)) (Designates (owner h l) i)
    place_sort (H.Global f) j i = home_reached p sh m (H.Global f) i
    place_sort (H.Slot x) j i = home_reached p sh m (H.Slot x) i

    cell_chosen : (b : Bool) (o : Owner) (i : ℕ) (k : IntKind) → HasSort p sh n (Spot k) (Designates o i) →
        SameOutcome (Spot k) (cond b (Gives (Designates o i) l) (Traps Trap.Index l)) (cond b (Gives (Designates o i) r) (Traps Trap.Index r))
    cell_chosen true o i k h = gives (Spot k) (Designates o i) h
    cell_chosen false o i k h = o_traps Trap.Index l r refl

    cell_at : (o : Owner) (z : ℤ) (k : IntKind) → Target p sh n o → owner_kind p sh o ≡ k → SameOutcome (Spot k) (cell_of o z l) (cell_of o z r)
    cell_at o (pos i) k h e =
        subst (λ u. SameOutcome (Spot k) (cell_of o (pos i) l) (cond (nat_lt i (cells_held u)) (Gives (Designates o i) r) (Traps Trap.Index r)))
        (sym (target_same p sh m o h)) (cell_chosen (nat_lt i (cells_held (s o))) o i k (h, e))
    cell_at o (negsuc i) k h e = o_traps Trap.Index l r refl

    pub cell_outcome : (h : Home) (z : ℤ) → IsHome (sh n).slots h → SameOutcome (Spot (home_kind p (sh n).slots h)) (cell h z l) (cell h z r)
    cell_outcome h z i =
        let a = place_sort h 0 i in
        subst (λ o. SameOutcome (Spot (home_kind p (sh n).slots h)) (cell h z l) (cell_of o z r)) (sym (place_same h i))
        (cell_at (owner h l) z (home_kind p (sh n).slots h) a.0 a.1)

    -- a cell that is read
    pub load_same : (k : IntKind) (x : Value) → HasSort p sh n (Spot k) x → loaded x r ≡ loaded x l
    load_same k (Designates o i) h = ap (λ u. Integer (number_held u i)) (target_same p sh m o h.0)
    load_same k _ h = absurd h

    pub load_sort : (k : IntKind) (x : Value) → HasSort p sh n (Spot k) x → HasSort p sh n (Num (Some k)) (loaded x l)
    load_sort k (Designates o i) h = (tt, subst (λ j. IsInRange j (number_held (s o) i)) h.1 (own_number (owner_kind p sh o) (s o) i (target_own p sh m o h.0)))
    load_sort k _ h = absurd h

    -- a cell that is stored
    store_at : (t : Sort) (o : Owner) (i : ℕ) (z : ℤ) (x : Value) → Target p sh n o → HasSort p sh n t x
        → SameOutcome t (Gives x (world (put o (with_number i z (s o)) s) n cells input answers events))
        (Gives x (world (put o (with_number i z (vs o)) vs) n cells input answers events))
    store_at t o i z x h g = o_gives x _ _ input answers events g (stored p sh m o i z h) (put_kept p sh m (with_number i z) o h)

    kind_same : (o : Owner) → Target p sh n o → kind_held (vs o) ≡ kind_held (s o)
    kind_same o h = ap kind_held (target_same p sh m o h)

    kind_is : (o : Owner) (k : IntKind) → Target p sh n o → owner_kind p sh o ≡ k → kind_held (s o) ≡ k
    kind_is o k h e = own_kind (owner_kind p sh o) (s o) (target_own p sh m o h) ∙ e

    stored_sort : (o : Owner) (k : IntKind) (y : Value) → Target p sh n o → owner_kind p sh o ≡ k →
        HasSort p sh n (Num (Some k)) (converted_value (kind_held (s o)) y)
    stored_sort o k y h e = (tt, subst (λ j. IsInRange k (converted j (integer y))) (sym (kind_is o k h e)) (converted-in_range k (integer y)))

    pub assign_outcome : (k : IntKind) (t : Sort) (x y : Value) → Under (Num (Some k)) t → HasSort p sh n (Spot k) x →
        SameOutcome t (assign x y l) (assign x y r)
    assign_outcome k t (Designates o i) y u h =
        subst (λ j. SameOutcome t (assign (Designates o i) y l)
        (Gives (converted_value j y) (world (put o (with_number i (integer y) (vs o)) vs) n cells input answers events))) (sym (kind_same o h.0))
        (store_at t o i (integer y) (converted_value (kind_held (s o)) y) h.0 (under p sh n (Num (Some k)) t _ u (stored_sort o k y h.0 h.1)))
    assign_outcome k t _ y u h = absurd h

    -- `++` and `--`
    counted_value : (after : Bool) (o : Owner) (i : ℕ) (z : ℤ) (k : IntKind) → Target p sh n o → owner_kind p sh o ≡ k
        → HasSort p sh n (Num (Some k)) (cond after (Integer (number_held (s o) i)) (converted_value (kind_held (s o)) (Integer z)))
    counted_value true o i z k h e = load_sort k (Designates o i) (h, e)
    counted_value false o i z k h e = stored_sort o k (Integer z) h e

    counted_same : (after : Bool) (o : Owner) (i : ℕ) (k : IntKind) (t : Sort) (z : Result ℤ Trap) → Under (Num (Some k)) t → Target p sh n o →
        owner_kind p sh o ≡ k
        → SameOutcome t (counted after (Designates o i) z l) (counted after (Designates o i) z r)
    counted_same after o i k t (Ok z) u h e =
        subst (λ w. SameOutcome t (counted after (Designates o i) (Ok z) l)
        (Gives (cond after (Integer (number_held w i)) (converted_value (kind_held w) (Integer z)))
        (world (put o (with_number i z (vs o)) vs) n cells input answers events))) (sym (target_same p sh m o h))
        (store_at t o i z _ h (under p sh n (Num (Some k)) t _ u (counted_value after o i z k h e)))
    counted_same after o i k t (Err f) u h e = o_traps f l r refl

    pub count_outcome : (up after : Bool) (k : IntKind) (t : Sort) (x : Value) → Under (Num (Some k)) t → HasSort p sh n (Spot k) x →
        SameOutcome t (count up after x l) (count up after x r)
    count_outcome up after k t (Designates o i) u h =
        subst (λ w. SameOutcome t (count up after (Designates o i) l)
        (counted after (Designates o i) (arith_result (count_mark up) (promoted (kind_held w)) (number_held w i) (pos 1)) r))
        (sym (target_same p sh m o h.0))
        (counted_same after o i k t _ u h.0 h.1)
    count_outcome up after k t _ u h = absurd h

    -- ---- calls that enter no body

    abbrev int : Sort
    int = Num (Some Int)

    byte_in : (b : ℕ) → b < 256 → IsInRange Int (pos b)
    byte_in b h = record { from_least = grind (arith, ints); to_greatest = grind (arith, ints) }

    minus_one_in : IsInRange Int (negsuc 0)
    minus_one_in = record { from_least = grind (arith, ints); to_greatest = grind (arith, ints) }

    read_outcome : (bs : List ℕ) → SameOutcome int (read_byte bs l) (read_byte bs r)
    read_outcome [] = gives int (Integer (negsuc 0)) (tt, minus_one_in)
    read_outcome (b ∷ bs) = o_gives (Integer (pos (residue UChar (pos b)))) s vs bs answers events
        (tt, byte_in (residue UChar (pos b)) (residue_below UChar (pos b))) m (kept_same p sh vs)

    write_outcome : (b : ℕ) → b < 256 → SameOutcome int (write_byte b l) (write_byte b r)
    write_outcome b h = o_gives (Integer (pos b)) s vs input answers _ (tt, byte_in b h) m (kept_same p sh vs)

    writes_outcome : (bs : List ℕ) → SameOutcome int (write_bytes bs l) (write_bytes bs r)
    writes_outcome bs = o_gives _ s vs input answers _ (tt, converted-in_range Int _) m (kept_same p sh vs)

    answered_outcome : (result : Option IntKind) (ns : List ℤ) (es : List Event) →
        SameOutcome (Num result) (answered result ns (world s n cells input answers es)) (answered result ns (world vs n cells input answers es))
    answered_outcome None ns es = o_gives Missing s vs input answers es (tt, tt) m (kept_same p sh vs)
    answered_outcome (Some k) [] es = o_traps Trap.NoAnswer _ _ refl
    answered_outcome (Some k) (z ∷ ns) es = o_gives (Integer (converted k z)) s vs input ns es (tt, converted-in_range k z) m (kept_same p sh vs)

    chosen_outcome : (a b c d e : Bool) (result : Option IntKind) (o1 o2 o3 o4 o5 o6 p1 p2 p3 p4 p5 p6 : Outcome) → SameOutcome int o1 p1 →
        SameOutcome int o2 p2 → SameOutcome int o3 p3
        → SameOutcome (Num result) o4 p4 → SameOutcome (Num result) o5 p5 → SameOutcome (Num result) o6 p6
        → SameOutcome (Num (cond (a || (b || c)) (Some Int) result)) (cond a o1 (cond b o2 (cond c o3 (cond d o4 (cond e o5 o6)))))
        (cond a p1 (cond b p2 (cond c p3 (cond d p4 (cond e p5 p6)))))
    chosen_outcome true b c d e result o1 o2 o3 o4 o5 o6 p1 p2 p3 p4 p5 p6 h1 h2 h3 h4 h5 h6 = h1
    chosen_outcome false true c d e result o1 o2 o3 o4 o5 o6 p1 p2 p3 p4 p5 p6 h1 h2 h3 h4 h5 h6 = h2
    chosen_outcome false false true d e result o1 o2 o3 o4 o5 o6 p1 p2 p3 p4 p5 p6 h1 h2 h3 h4 h5 h6 = h3
    chosen_outcome false false false true e result o1 o2 o3 o4 o5 o6 p1 p2 p3 p4 p5 p6 h1 h2 h3 h4 h5 h6 = h4
    chosen_outcome false false false false true result o1 o2 o3 o4 o5 o6 p1 p2 p3 p4 p5 p6 h1 h2 h3 h4 h5 h6 = h5
    chosen_outcome false false false false false result o1 o2 o3 o4 o5 o6 p1 p2 p3 p4 p5 p6 h1 h2 h3 h4 h5 h6 = h6

    pub known_outcome : (f : List ℕ) (h : FunctionTree) (xs : List Value) →
        SameOutcome (Num (kind_called f None h.result)) (call_without_body f h xs l) (call_without_body f h xs r)
    known_outcome f h xs =
        chosen_outcome (bytes_eq f (codes "getchar")) (bytes_eq f (codes "putchar")) (bytes_eq f (codes "printf")) (bytes_eq f (codes "exit"))
        (bytes_eq f (codes "abort")) h.result _ _ _ _ _ _ _ _ _ _ _ _
        (read_outcome input) (write_outcome (residue UChar (next xs)) (residue_below UChar (next xs))) (writes_outcome (printed_bytes xs))
        (o_exits (converted Int (next xs)) l r refl) (o_traps Trap.Abort l r refl)
        (answered_outcome h.result answers _)
