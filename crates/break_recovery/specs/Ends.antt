-- The changes of a function, of what stands at file scope, and of a program, one after another.
use Rattle.std.specs.Prelude.{ℕ, zero, suc, ◌+◌, ◌-◌, ◌≡◌, Bool, true, false, List, [], ◌∷◌, length, All, Option, Some, None, option_map}
use Rattle.c_tree.specs.declared.tree.Function.{Function}
use Rattle.c_tree.specs.declared.tree.Item.{Item}
use Rattle.c_tree.specs.declared.tree.Top.{Top}
use Rattle.c_tree.specs.Trees.{Forest, trees_of}
use Rattle.jump_meaning.specs.Code.{FunctionTree, function_tree}
use Rattle.tidy_laws.specs.Changes.{changes_of, undeclared}
use Rattle.tidy_laws.specs.Renamed.{renamed_list}
use Rattle.tidy_laws.specs.Gone.{gone_before, left}
use Rattle.tidy_loops.specs.Slots.{Tells}
use Rattle.break_recovery.specs.Underway.{Underway}
use Rattle.tidy_laws.specs.Ends.{IsChangedFirst, TopIsChangedFirst, TopIsSettled, AreChangedTimes}

-- the function with this body
abbrev pub with_body : Function → List Item → Function
with_body f a = record f { body = Some a }

-- the body of the function after its first change, with the declaration gone and the old numbers, if it has a change
abbrev pub IsBodyChanged : FunctionTree → Option ℕ → Option Forest → Type 0
IsBodyChanged f None b = changes_of f ≡ []
IsBodyChanged f (Some g) b = (c : Forest) × (later : List (ℕ × Forest)) × (changes_of f ≡ (g, c) ∷ later) × (b ≡ Some (undeclared g c))

-- its first change is made with the old numbers, and one slot more is gone; or none applies, and all stays
abbrev pub WentOn : Bool → List Bool → List ℕ → Function → List Bool → List ℕ → Function → Type 0
WentOn true gone counts f gone_then counts_then h =
    (h ≡ record f { body = h.body })
    × ((n : ℕ) (start : FunctionTree) → Underway n start gone counts (function_tree f)
    → Underway (suc n) start gone_then counts_then (function_tree h) × (suc (length (left gone_then h.slots)) ≡ length (left gone f.slots)))
WentOn false gone counts f gone_then counts_then h = (Tells counts (function_tree f) → changes_of (function_tree f) ≡ []) × (h ≡ f) ×
    (gone_then ≡ gone) × (counts_then ≡ counts)

-- so many changes are made with the old numbers, one after another, and as many slots more are gone
abbrev pub WentOnBy : ℕ → List Bool → List ℕ → Function → List Bool → List ℕ → Function → Type 0
WentOnBy m gone counts f gone_then counts_then h =
    (h ≡ record f { body = h.body })
    × ((n : ℕ) (start : FunctionTree) → Underway n start gone counts (function_tree f)
    → Underway (n + m) start gone_then counts_then (function_tree h) × (m + length (left gone_then h.slots) ≡ length (left gone f.slots)))

-- n changes are made with the old numbers, and then none applies
pub record AreMade (n : ℕ) (f : Function) (gone : List Bool) (h : Function) : Type 0 where
  pub kept : h ≡ record f { body = h.body }
  pub same : n ≡ 0 → h ≡ f
  pub counts : List ℕ
  pub underway : Underway n (function_tree f) gone counts (function_tree h)
  pub settled : changes_of (function_tree h) ≡ []

-- the slots that are left have their new numbers
pub record IsNumbered (gone : List Bool) (f h : Function) : Type 0 where
  pub kept : h ≡ record f { slots = h.slots; body = h.body }
  pub slots : h.slots ≡ left gone f.slots
  pub number : ℕ → ℕ
  pub told : (x : ℕ) → number x ≡ x - gone_before gone x
  pub body : option_map trees_of h.body ≡ option_map (renamed_list number) (option_map trees_of f.body)

-- n changes are made, one after another
abbrev pub FunctionChangedTimes : ℕ → Function → Function → Type 0
FunctionChangedTimes zero f h = h ≡ f
FunctionChangedTimes (suc n) f h = (k : Function) × IsChangedFirst f k × FunctionChangedTimes n k h

-- and then none applies
pub record IsFunctionTidied (n : ℕ) (f h : Function) : Type 0 where
  pub changed : FunctionChangedTimes n f h
  pub settled : changes_of (function_tree h) ≡ []

-- the first changes of what stands at file scope, so many
abbrev pub TopChangedTimes : ℕ → Top → Top → Type 0
TopChangedTimes zero x y = y ≡ x
TopChangedTimes (suc n) x y = (z : Top) × TopIsChangedFirst x z × TopChangedTimes n z y

pub record TopTidied (n : ℕ) (x y : Top) : Type 0 where
  pub changed : TopChangedTimes n x y
  pub settled : TopIsSettled y

-- of all of it
pub record AreTidied (n : ℕ) (xs ys : List Top) : Type 0 where
  pub changed : AreChangedTimes n xs ys
  pub settled : All TopIsSettled ys
