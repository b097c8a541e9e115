-- The variables and labels of a resolved function have names.
use Rattle.std.proofs.Common.{◌≡◌, ℕ, zero, suc, ◌+◌, ◌-◌, ◌≤◌, ◌<◌, List, [], ◌∷◌, length, drop, get_or, Option, Some, None, slice_get, refl, sym, ap, subst, arith}
use Rattle.std.specs.Option.{option_map_or}
use Rattle.std.proofs.lemmas.Option.{slice_get_within, unwrap_or-slice_get}
use Rattle.c_tree.specs.declared.tree.Slot.{Slot}
use Rattle.c_tree.specs.declared.tree.Function.{Function}
use Rattle.c_tree.specs.ExpressionTrees.{ExpressionTree}
use Rattle.c_tree.specs.TextExpressions.{slot_name}
use Rattle.c_tree.specs.TextItems.{label_name}
use Rattle.c_tree.specs.Trees.{Tree, Forest, Nil, Then, Sections, NoSection, Section, Evaluate, Return, If, While, Do, For, Switch, Block, Local, Break, Continue, Goto, Mark, Arm, Leap, Land, Arrival, Note}
use Rattle.c_resolved_defs.specs.Within.{Each}
use Rattle.c_resolved_defs.specs.Form.{gathered, gathered_of, gathered_in, declared_slot, marked_label, numbers_from}
use Rattle.c_resolved_defs.specs.PrintableExpressions.{IsName}
use Rattle.c_resolved_defs.specs.PrintableStatements.{SlotPrints, FurtherPrint, StartPrints}
use Rattle.c_resolved_defs.specs.Spelling.{ItemIsSpelled, AreSpelled, SectionsAreSpelled}
use Rattle.whole_laws.proofs.PlainLists.{each_append}

-- ---- a fact of each number that is gathered

-- Q holds of the numbers of each item that is spelled
module _ (f : Function) (g : Tree → List ℕ) (Q : ℕ → Type 0) (one : (x : Tree) → ItemIsSpelled f x → Each Q (g x)) where
  further : (a : Forest) → FurtherPrint f.slots a → Each Q (gathered g a)
  further Nil h = tt
  further (Then (Local k o) a) h = each_append Q (g (Local k o)) (gathered g a) (one (Local k o) h.0) (further a h.1)
  further (Then _ a) h = absurd h

  start : (a : Forest) → StartPrints f.slots a → Each Q (gathered g a)
  start Nil h = tt
  start (Then (Evaluate e) Nil) h = each_append Q (g (Evaluate e)) [] (one (Evaluate e) h) tt
  start (Then (Local k o) a) h = each_append Q (g (Local k o)) (gathered g a) (one (Local k o) h.0) (further a h.1)
  start _ h = absurd h

  mutual
    pub each_gathered : (a : Forest) → AreSpelled f a → Each Q (gathered g a)
    each_gathered Nil h = tt
    each_gathered (Then x a) h = each_append Q (gathered_of g x) (gathered g a) (each_of x h.0) (each_gathered a h.1)

    each_of : (x : Tree) → ItemIsSpelled f x → Each Q (gathered_of g x)
    each_of (If t a b) h = each_append Q (gathered g a) (gathered g b) (each_gathered a h.1) (each_gathered b h.2)
    each_of (While t a) h = each_gathered a h.1
    each_of (Do a t) h = each_gathered a h.0
    each_of (For first t u a) h = each_append Q (gathered g first) (gathered g a) (start first h.0) (each_gathered a h.3)
    each_of (Switch s c) h = each_in c h.1
    each_of (Block a) h = each_gathered a h
    each_of (Evaluate e) h = one (Evaluate e) h
    each_of (Return e) h = one (Return e) h
    each_of (Local k o) h = one (Local k o) h
    each_of Break h = one Break h
    each_of Continue h = one Continue h
    each_of (Goto l) h = one (Goto l) h
    each_of (Mark l) h = one (Mark l) h
    each_of (Arm l e) h = one (Arm l e) h
    each_of (Leap l) h = one (Leap l) h
    each_of (Land l) h = one (Land l) h
    each_of (Arrival e) h = one (Arrival e) h
    each_of (Note bs) h = one (Note bs) h

    each_in : (c : Sections) → SectionsAreSpelled f c → Each Q (gathered_in g c)
    each_in NoSection h = tt
    each_in (Section cases default a ends c) h = each_append Q (gathered g a) (gathered_in g c) (each_gathered a h.1) (each_in c h.2)

-- ---- numbers in text order

at_number : (Q : ℕ → Type 0) (i n d : ℕ) → Each Q (numbers_from i n) → d < n → Q (i + d)
at_number Q i zero d h a = absurd (omega (arith, a))
at_number Q i (suc n) zero h a = let e : i ≡ i + 0 = omega arith in subst Q e h.0
at_number Q i (suc n) (suc d) h a = let e : suc i + d ≡ i + suc d = omega arith in subst Q e (at_number Q (suc i) n d h.1 (omega (arith, a)))

each_at : (Q : Slot → Type 0) (ss : List Slot) → ((k : ℕ) (s : Slot) → slice_get ss k ≡ Some s → Q s) → Each Q ss
each_at Q [] f = tt
each_at Q (s ∷ ss) f = (f 0 s refl, each_at Q ss (λ k r e. f (suc k) r e))

get_dropped : (n : ℕ) (ss : List Slot) (k : ℕ) (s : Slot) → slice_get (drop n ss) k ≡ Some s → slice_get ss (n + k) ≡ Some s
get_dropped zero ss k s e = let i : k ≡ 0 + k = omega arith in subst (λ j. slice_get ss j ≡ Some s) i e
get_dropped (suc n) [] k s e = cc
get_dropped (suc n) (t ∷ ss) k s e = let i : suc (n + k) ≡ suc n + k = omega arith in subst (λ j. slice_get (t ∷ ss) j ≡ Some s) i (get_dropped n ss k s e)

-- ---- labels

label_there : (f : Function) (x : Tree) → ItemIsSpelled f x → Each (λ l. IsName (label_name f l)) (marked_label x)
label_there f (Mark l) h = (h, tt)
label_there f _ h = tt

pub labels_named : (f : Function) (a : Forest) → AreSpelled f a → gathered marked_label a ≡ numbers_from 0 (length f.labels) → (l : ℕ) →
    l < length f.labels → IsName (get_or f.labels l [])
labels_named f a s e l h =
    let Q = λ (k : ℕ). IsName (label_name f k) in
    let z : 0 + l ≡ l = omega arith in
    subst IsName (unwrap_or-slice_get f.labels l [])
    (subst Q z (at_number Q 0 (length f.labels) l (subst (Each Q) e (each_gathered f marked_label Q (label_there f) a s)) h))

-- ---- variables

named_slot : (ss : List Slot) (k : ℕ) (o : Option Slot) → slice_get ss k ≡ o → (given : Option (List ExpressionTree)) → SlotPrints ss o given →
    IsName (slot_name ss k)
named_slot ss k None e given h = absurd h
named_slot ss k (Some s) e given h = subst IsName (sym (ap (λ q. option_map_or (λ (r : Slot). r.name) q []) e)) h.named

slot_there : (f : Function) (x : Tree) → ItemIsSpelled f x → Each (λ k. IsName (slot_name f.slots k)) (declared_slot x)
slot_there f (Local k o) h = (named_slot f.slots k (slice_get f.slots k) refl o h, tt)
slot_there f _ h = tt

pub slots_named : (f : Function) (a : Forest) → AreSpelled f a → f.params ≤ length f.slots →
    gathered declared_slot a ≡ numbers_from f.params (length f.slots - f.params) → Each (λ (s : Slot). IsName s.name) (drop f.params f.slots)
slots_named f a s p e = each_at (λ (r : Slot). IsName r.name) (drop f.params f.slots) named
  where
    named : (k : ℕ) (r : Slot) → slice_get (drop f.params f.slots) k ≡ Some r → IsName r.name
    named k r i =
        let Q = λ (j : ℕ). IsName (slot_name f.slots j) in
        let there = get_dropped f.params f.slots k r i in
        let b = slice_get_within f.slots (f.params + k) r there in
        let n = at_number Q f.params (length f.slots - f.params) k (subst (Each Q) e (each_gathered f declared_slot Q (slot_there f) a s))
        (omega (arith, b, p)) in
        subst IsName (ap (λ q. option_map_or (λ (t : Slot). t.name) q []) there) n
