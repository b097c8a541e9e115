-- The way to the place of the last change: at each list of it a place, before which no change applies, and, where that is
-- sure, which allows none itself where the way goes on in it.
use Rattle.std.specs.Prelude.{ℕ, zero, suc, ◌<◌, ◌≡◌, ◌⊎◌, Bool, false, true, List, [], ◌∷◌, Option, Some, None}
use Rattle.c_tree.specs.Trees.{Tree, Forest, Nil, Then, Sections, NoSection, Section, If, While, Do, For, Switch, Block, Break}
use Rattle.jump_meaning.specs.Code.{FunctionTree}
use Rattle.tidy_loops.specs.Slots.{Tells, counts_of}
use Rattle.break_recovery.specs.Next.{next_list, next_here}
use Rattle.break_recovery.specs.Places.{behind, removed_at, AreQuiet, AreQuietBut, Fewer}

-- a step is taken from the front of a way, which is 0 where there is none
abbrev pub IsStep : List ℕ → ℕ → List ℕ → Type 0
IsStep v k w = (v ≡ k ∷ w) ⊎ ((v ≡ []) × ((k ≡ 0) × (w ≡ [])))

-- no change applies in the first so many sections, whose lists stand at this level
abbrev pub AreQuietSections : FunctionTree → ℕ → ℕ → Sections → Type 0
AreQuietSections f n zero c = Unit {0}
AreQuietSections f n (suc k) NoSection = Unit {0}
AreQuietSections f n (suc k) (Section cases default a ends c) = (next_list f n a ≡ None) × AreQuietSections f n k c

-- the list of the section at this place
abbrev pub list_there : ℕ → Sections → Forest
list_there k NoSection = Nil
list_there zero (Section cases default a ends c) = a
list_there (suc k) (Section cases default a ends c) = list_there k c

-- the first item of a list
abbrev pub first_item : Forest → Tree
first_item Nil = Break
first_item (Then x xs) = x

abbrev pub IfSure : Bool → Type 0 → Type 0
IfSure false P = Unit {0}
IfSure true P = P

-- where a way goes on in the first item of a list, that item allows no change itself, if that is sure; its lists stand at this
-- level
abbrev pub IsAsked : Bool → FunctionTree → ℕ → List ℕ → Forest → Type 0
IsAsked sure f n [] a = Unit {0}
IsAsked sure f n (k ∷ w) a = IfSure sure (next_here f n a ≡ None)

-- no change of an item whose lists stand at this level applies before the end of the way: each place of it is passed, and each
-- list in front
abbrev pub IsWayIn : Bool → FunctionTree → ℕ → List ℕ → Tree → Type 0
IsWayIn sure f n [] x = Unit {0}
IsWayIn sure f n (k ∷ w) (While t a) = AreQuiet f (suc n) k a × (IsAsked sure f (suc n) w (behind k a) × IsWayIn sure f (suc n) w (first_item (behind k a)))
IsWayIn sure f n (k ∷ w) (Do a t) = AreQuiet f (suc n) k a × (IsAsked sure f (suc n) w (behind k a) × IsWayIn sure f (suc n) w (first_item (behind k a)))
IsWayIn sure f n (k ∷ w) (Block a) = AreQuiet f (suc n) k a × (IsAsked sure f (suc n) w (behind k a) × IsWayIn sure f (suc n) w (first_item (behind k a)))
IsWayIn sure f n (zero ∷ []) (If t a b) = Unit {0}
IsWayIn sure f n (zero ∷ k ∷ w) (If t a b) = AreQuiet f (suc n) k a ×
    (IsAsked sure f (suc n) w (behind k a) × IsWayIn sure f (suc n) w (first_item (behind k a)))
IsWayIn sure f n (suc j ∷ []) (If t a b) = (next_list f n a ≡ None) × Unit {0}
IsWayIn sure f n (suc j ∷ k ∷ w) (If t a b) = (next_list f n a ≡ None) ×
    (AreQuiet f (suc n) k b × (IsAsked sure f (suc n) w (behind k b) × IsWayIn sure f (suc n) w (first_item (behind k b))))
IsWayIn sure f n (zero ∷ []) (For a t u b) = Unit {0}
IsWayIn sure f n (zero ∷ k ∷ w) (For a t u b) = AreQuiet f (suc n) k a ×
    (IsAsked sure f (suc n) w (behind k a) × IsWayIn sure f (suc n) w (first_item (behind k a)))
IsWayIn sure f n (suc j ∷ []) (For a t u b) = (next_list f n a ≡ None) × Unit {0}
IsWayIn sure f n (suc j ∷ k ∷ w) (For a t u b) = (next_list f n a ≡ None) ×
    (AreQuiet f (suc n) k b × (IsAsked sure f (suc n) w (behind k b) × IsWayIn sure f (suc n) w (first_item (behind k b))))
IsWayIn sure f n (j ∷ []) (Switch s c) = AreQuietSections f n j c × Unit {0}
IsWayIn sure f n (j ∷ k ∷ w) (Switch s c) =
    AreQuietSections f n j c × (AreQuiet f (suc n) k (list_there j c) ×
    (IsAsked sure f (suc n) w (behind k (list_there j c)) × IsWayIn sure f (suc n) w (first_item (behind k (list_there j c)))))
IsWayIn sure f n (k ∷ w) x = Unit {0}

-- of the first item of a list
abbrev pub IsWayAt : Bool → FunctionTree → ℕ → List ℕ → Forest → Type 0
IsWayAt sure f n w a = IsAsked sure f n w a × IsWayIn sure f n w (first_item a)

-- of a list at this level
abbrev pub IsWay : Bool → FunctionTree → ℕ → List ℕ → Forest → Type 0
IsWay sure f n [] a = Unit {0}
IsWay sure f n (k ∷ w) a = AreQuiet f (suc n) k a × IsWayAt sure f (suc n) w (behind k a)

-- of two lists
abbrev pub IsWayOf : Bool → FunctionTree → ℕ → List ℕ → Forest → Forest → Type 0
IsWayOf sure f n [] a b = Unit {0}
IsWayOf sure f n (zero ∷ w) a b = IsWay sure f n w a
IsWayOf sure f n (suc k ∷ w) a b = (next_list f n a ≡ None) × IsWay sure f n w b

-- of sections
abbrev pub IsWayThrough : Bool → FunctionTree → ℕ → List ℕ → Sections → Type 0
IsWayThrough sure f n [] c = Unit {0}
IsWayThrough sure f n (k ∷ w) c = AreQuietSections f n k c × IsWay sure f n w (list_there k c)

-- what held of the function f with these counts leads to what holds of h, which has the same but for those that became 0,
-- where something was found, of which the slot counts no more
abbrev pub LeadsOn : {A : Type 0} → List ℕ → Option A → (A → ℕ) → (FunctionTree → Type 0) → (A → FunctionTree → Type 0) → Type 0
LeadsOn {A} counts s slot P Q = (x : A) → s ≡ Some x → (f h : FunctionTree) → Tells counts f → Fewer (counts_of f) (counts_of h) →
    counts_of h (slot x) ≡ 0 → P f → Q x h

-- no change applies before this place, but for one that is in doubt, nor in the item there before the end of the way
abbrev pub IsAhead : Bool → FunctionTree → ℕ → ℕ → ℕ → List ℕ → Forest → Type 0
IsAhead sure f n doubt from w a = AreQuietBut f n doubt from a × IsWayAt sure f n w (behind from a)

-- what goes, if something does, stands before this place
abbrev pub IsBefore : Option ℕ → ℕ → Type 0
IsBefore None k = Unit {0}
IsBefore (Some d) k = d < k

-- a way from this place on is one from the other place on, once the declaration is gone from before it
abbrev pub KeepsWay : ℕ → Option ℕ → ℕ → Type 0
KeepsWay k gone from =
    IsBefore gone k → (sure : Bool) (f : FunctionTree) (n : ℕ) (w : List ℕ) (a : Forest) → IsWayAt sure f n w (behind k a) →
    IsWayAt sure f n w (behind from (removed_at gone a))
