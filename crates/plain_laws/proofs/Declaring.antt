-- The declarations at the top of a call: those of variables do nothing, those of guards give them 0.
use Rattle.std.proofs.Common.{ℕ, suc, ◌+◌, ◌≤◌, ◌<◌, ℤ, pos, Bool, false, cond, List, [], ◌∷◌, Some, None, ◌≡◌, refl, sym, ap, ◌∙◌, subst, true≢false}
use Rattle.c_tree.specs.Trees.{Forest, Nil, Then, join}
use Rattle.jump_meaning.specs.Values.{OfFile, OfCall, Variable, Holds, Lent, Event}
use Rattle.jump_meaning.specs.Code.{Code}
use Rattle.jump_meaning.specs.World.{same_owner, put, with_number}
use Rattle.jump_meaning.specs.Calls.{is_array}
use Rattle.jump_meaning.specs.Effects.{Clears}
use Rattle.jump_meaning.specs.Tasks.{Task, Runs, items, works}
use Rattle.jump_meaning.specs.Step.{no_guards, Frame, State, At}
use Rattle.jump_meaning.specs.Runs.{run}
use Rattle.jump_meaning.proofs.RunFacts.{run_add}
use Rattle.c_types.specs.declared.kinds.IntKind.TheVariants.{Int}
use Rattle.c_tree.specs.Trees.{Local}
use Rattle.c_tree.specs.Numerals.{number}
use Rattle.jump_meaning.proofs.Memory.{chosen}
use Rattle.plain_laws.specs.Slotted.{variable, guarding, AreDeclarations, none, one_more}
use Rattle.plain_laws.proofs.Memories.{Variables}
use Rattle.plain_laws.proofs.Relation.{IsBit, world}
use Rattle.plain_laws.proofs.Carried.{put_here, put_beside, bit_stored, call_of, slot_of, set_variable, is_of_call}
use Rattle.plain_laws.proofs.GuardRuns.{holder_is}

no_array : (u : Variable) (b : Bool) → IsBit u b → is_array u ≡ false
no_array (Holds k None cells) b h = refl
no_array (Holds k (Some n) cells) b h = let e = h.1 in cc
no_array (Lent o) b h = absurd h

-- the variables of guards in call c are 0
abbrev pub Zeros : ℕ → ℕ → ℕ → Variables → Type 0
Zeros c base end v = (x : ℕ) → base ≤ x → x < end → IsBit (v (OfCall c x)) false

-- memory is the same but for those
pub record SameOutside (c base : ℕ) (v w : Variables) : Type 0 where
  pub files : (m : List ℕ) → w (OfFile m) ≡ v (OfFile m)
  pub calls : (d y : ℕ) → (c ≡ d → base ≤ y → ⊥) → w (OfCall d y) ≡ v (OfCall d y)

module _ (q : Code) (m : List ℕ) (cs : List Frame) (c base end cells : ℕ) (input : List ℕ) (answers : List ℤ) (events : List Event) where
  abbrev pub standing : List Task → Variables → State
  standing k v = At m no_guards k [] cs (world v c cells input answers events)

  -- the run comes behind the declarations
  pub record Declares (k k' : List Task) (v : Variables) : Type 0 where
    pub steps : ℕ
    pub after : Variables
    pub comes : run q steps (standing k v) ≡ standing k' after
    pub zeros : Zeros c base end after
    pub outside : SameOutside c base v after

  one_set : (x : ℕ) (k : List Task) (v : Variables) → IsBit (v (OfCall c x)) false →
      run q 3 (standing (Runs (Local x (Some (number Int (pos 0) ∷ []))) ∷ k) v) ≡ standing k (set_variable c x false v)
  one_set x k v h =
      let o = OfCall c x in
      let u = put o (with_number 0 (pos 0) (v o)) v in
      let i : IsBit (u o) false = subst (λ z. IsBit z false) (sym (put_here o (with_number 0 (pos 0) (v o)) v)) (bit_stored false false (v o) h) in
      ap (λ a. standing (works (cond (is_array (put a (with_number 0 (pos 0) (v a)) v o)) (Clears x 1 ∷ []) []) k)
      (put a (with_number 0 (pos 0) (v a)) v)) (holder_is c x (v o) false h)
      ∙ ap (λ b. standing (works (cond b (Clears x 1 ∷ []) []) k) u) (no_array (u o) false i)

  still_zero : (x : ℕ) (v : Variables) → Zeros c base end v → IsBit (v (OfCall c x)) false → Zeros c base end (set_variable c x false v)
  still_zero x v z h y i j =
      chosen (λ u. IsBit u false) (same_owner (OfCall c x) (OfCall c y)) (with_number 0 (pos 0) (v (OfCall c x))) (v (OfCall c y))
      (λ e. bit_stored false false (v (OfCall c x)) h) (λ e. z y i j)

  outside_set : (x : ℕ) (v w : Variables) → base ≤ x → SameOutside c base (set_variable c x false v) w → SameOutside c base v w
  outside_set x v w h r = record {
    files = λ m. r.files m ∙ put_beside (OfCall c x) (OfFile m) (with_number 0 (pos 0) (v (OfCall c x))) v (λ e. true≢false (ap is_of_call e));
    calls = λ d y n. r.calls d y n ∙ put_beside (OfCall c x) (OfCall d y) (with_number 0 (pos 0) (v (OfCall c x))) v
        (λ e. n (ap call_of e) (subst (λ z. base ≤ z) (ap slot_of e) h));
  }

  pub declares : (ds : Forest) → AreDeclarations base end ds → (b : Forest) (v : Variables) → Zeros c base end v →
      Declares (items (join ds b) []) (items b []) v
  declares Nil none b v z = record { steps = 0; after = v; comes = refl; zeros = z; outside = record { files = λ r. refl; calls = λ d y h. refl } }
  declares (Then x ds) (one_more (variable y) r) b v z = let i = declares ds r b v z in
      record { steps = suc i.steps; after = i.after; comes = i.comes; zeros = i.zeros; outside = i.outside }
  declares (Then x ds) (one_more (guarding y h j) r) b v z =
      let k = items (join ds b) [] in
      let u = set_variable c y false v in
      let i = declares ds r b u (still_zero y v z (z y h j)) in
      record {
        steps = 3 + i.steps;
        after = i.after;
        comes = run_add q 3 i.steps _ ∙ ap (run q i.steps) (one_set y k v (z y h j)) ∙ i.comes;
        zeros = i.zeros;
        outside = outside_set y v i.after h i.outside;
      }
