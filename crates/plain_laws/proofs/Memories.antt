-- Two memories that hold the same but for the variables of guards, and what stands in them is of its kind.
use mathlib.Core.Path.{ap₂}
use Rattle.std.proofs.Common.{ℕ, ◌≤◌, ◌<◌, ℤ, pos, Bool, true, false, cond, eqb, nat_lt, List, length, ◌≡◌, refl, sym, ap, ◌∙◌, subst, true≢false, arith}
use Rattle.c_types.specs.declared.kinds.IntKind.{IntKind}
use Rattle.c_types.specs.declared.kinds.IntKind.TheVariants.{Char, UChar, Int, UInt, Long, ULong}
use Rattle.c_types.specs.Numbers.{converted, IsInRange}
use Rattle.c_types.proofs.Residues.{converted-in_range}
use Rattle.std.proofs.lemmas.Int.{ints}
use Rattle.c_tree.specs.declared.tree.Slot.{Slot}
use Rattle.c_tree.specs.declared.tree.Home.{Home}
use Rattle.c_tree.specs.declared.tree.Home.TheVariants as H
use Rattle.jump_meaning.specs.Values.{Owner, OfFile, OfCall, Variable, Holds, Lent}
use Rattle.jump_meaning.specs.Code.{Code, entry_or}
use Rattle.jump_meaning.specs.World.{same_owner, put, holder, kind_held, number_held, with_number, with_zeros, cells_held, no_slot}
use Rattle.jump_meaning.proofs.Memory.{same_owner_decides, chosen}
use Rattle.plain_laws.specs.Kinded.{home_kind, IsHome}

-- the slots of a call, and which of them hold numbers of their own
pub record Shape : Type 0 where
  pub slots : List Slot
  pub own : ℕ → Bool

-- the shape of each call
abbrev pub Shapes : Type 0
Shapes = ℕ → Shape

abbrev pub Variables : Type 0
Variables = Owner → Variable

pub zero_in_range : (k : IntKind) → IsInRange k (pos 0)
zero_in_range Char = record { from_least = grind (arith, ints); to_greatest = grind (arith, ints) }
zero_in_range UChar = record { from_least = grind (arith, ints); to_greatest = grind (arith, ints) }
zero_in_range Int = record { from_least = grind (arith, ints); to_greatest = grind (arith, ints) }
zero_in_range UInt = record { from_least = grind (arith, ints); to_greatest = grind (arith, ints) }
zero_in_range Long = record { from_least = grind (arith, ints); to_greatest = grind (arith, ints) }
zero_in_range ULong = record { from_least = grind (arith, ints); to_greatest = grind (arith, ints) }

abbrev pub AllInKind : IntKind → (ℕ → ℤ) → Type 0
AllInKind k cells = (i : ℕ) → IsInRange k (cells i)

-- a variable with numbers of its own, of the kind
abbrev pub IsOwn : IntKind → Variable → Type 0
IsOwn k (Holds j n cells) = (j ≡ k) × AllInKind k cells
IsOwn k (Lent o) = ⊥

pub own_kind : (k : IntKind) (v : Variable) → IsOwn k v → kind_held v ≡ k
own_kind k (Holds j n cells) h = h.0
own_kind k (Lent o) h = absurd h

pub own_number : (k : IntKind) (v : Variable) (i : ℕ) → IsOwn k v → IsInRange k (number_held v i)
own_number k (Holds j n cells) i h = h.1 i
own_number k (Lent o) i h = absurd h

chosen_in_kind : (k : IntKind) (b : Bool) (x y : ℤ) → IsInRange k x → IsInRange k y → IsInRange k (cond b x y)
chosen_in_kind k true x y h g = h
chosen_in_kind k false x y h g = g

module _ (p : Code) (sh : Shapes) where
  -- the kind of the cells of a variable
  abbrev pub owner_kind : Owner → IntKind
  owner_kind (OfFile m) = kind_held (p.globals m)
  owner_kind (OfCall d x) = (entry_or no_slot (sh d).slots x).kind

  -- a variable that names of call c may reach: one of the file, or of a call up to that one, with numbers of its own
  abbrev pub Target : ℕ → Owner → Type 0
  Target c (OfFile m) = Unit {0}
  Target c (OfCall d x) = (d ≤ c) × (x < length (sh d).slots) × ((sh d).own x ≡ true)

  -- a variable of call c of the kind: with numbers of its own, or lent
  abbrev pub Good : ℕ → IntKind → Bool → Variable → Type 0
  Good c k b (Holds j n cells) = (j ≡ k) × AllInKind k cells × (b ≡ true)
  Good c k b (Lent o) = Target c o × (owner_kind o ≡ k) × (b ≡ false)

  -- the memory of the left side, and of the right, where n calls are present
  pub record Memories (n : ℕ) (s v : Variables) : Type 0 where
    pub file_same : (m : List ℕ) → v (OfFile m) ≡ s (OfFile m)
    pub file_good : (m : List ℕ) → Good 0 (kind_held (p.globals m)) true (s (OfFile m))
    pub call_same : (d x : ℕ) → d ≤ n → x < length (sh d).slots → v (OfCall d x) ≡ s (OfCall d x)
    pub call_good : (d x : ℕ) → d ≤ n → x < length (sh d).slots → Good d (entry_or no_slot (sh d).slots x).kind ((sh d).own x) (s (OfCall d x))

  -- no variable past the slots of its call changes
  abbrev pub Kept : Variables → Variables → Type 0
  Kept v u = (d x : ℕ) → length (sh d).slots ≤ x → u (OfCall d x) ≡ v (OfCall d x)

  pub kept_same : (v : Variables) → Kept v v
  kept_same v d x h = refl

  pub kept_on : (v u w : Variables) → Kept v u → Kept u w → Kept v w
  kept_on v u w h g d x e = g d x e ∙ h d x e

  pub target_below : (c n : ℕ) (o : Owner) → c ≤ n → Target c o → Target n o
  target_below c n (OfFile m) h t = tt
  target_below c n (OfCall d x) h t = (let g = t.0 in omega (arith, g, h), t.1, t.2)

  good_own : (c : ℕ) (k : IntKind) (b : Bool) (v : Variable) → b ≡ true → Good c k b v → IsOwn k v
  good_own c k b (Holds j n cells) e g = (g.0, g.1)
  good_own c k b (Lent o) e g = absurd (true≢false (sym e ∙ g.2))

  module _ {n : ℕ} {s v : Variables} (m : Memories n s v) where
    pub target_same : (o : Owner) → Target n o → v o ≡ s o
    target_same (OfFile f) t = m.file_same f
    target_same (OfCall d x) t = m.call_same d x t.0 t.1

    pub target_own : (o : Owner) → Target n o → IsOwn (owner_kind o) (s o)
    target_own (OfFile f) t = good_own 0 (kind_held (p.globals f)) true (s (OfFile f)) refl (m.file_good f)
    target_own (OfCall d x) t = good_own d (entry_or no_slot (sh d).slots x).kind ((sh d).own x) (s (OfCall d x)) t.2 (m.call_good d x t.0 t.1)

    -- ---- names of the newest call

    abbrev pub called : Home → Owner
    called (H.Global f) = OfFile f
    called (H.Slot x) = OfCall n x

    abbrev pub reached : Home → Owner
    reached h = holder (called h) (s (called h))

    file_reached : (f : List ℕ) (u : Variable) → Good 0 (kind_held (p.globals f)) true u →
        Target n (holder (OfFile f) u) × (owner_kind (holder (OfFile f) u) ≡ kind_held (p.globals f))
    file_reached f (Holds j i cells) g = (tt, refl)
    file_reached f (Lent o) g = absurd (true≢false g.2)

    slot_reached : (x : ℕ) (u : Variable) → x < length (sh n).slots → Good n (entry_or no_slot (sh n).slots x).kind ((sh n).own x) u
        → Target n (holder (OfCall n x) u) × (owner_kind (holder (OfCall n x) u) ≡ (entry_or no_slot (sh n).slots x).kind)
    slot_reached x (Holds j i cells) h g = ((omega arith, h, g.2), refl)
    slot_reached x (Lent o) h g = (g.0, g.1)

    pub home_reached : (h : Home) → IsHome (sh n).slots h → Target n (reached h) × (owner_kind (reached h) ≡ home_kind p (sh n).slots h)
    home_reached (H.Global f) i = file_reached f (s (OfFile f)) (m.file_good f)
    home_reached (H.Slot x) i = slot_reached x (s (OfCall n x)) i (m.call_good n x (omega arith) i)

    pub home_same : (h : Home) → IsHome (sh n).slots h → holder (called h) (v (called h)) ≡ reached h
    home_same (H.Global f) i = ap (holder (OfFile f)) (m.file_same f)
    home_same (H.Slot x) i = ap (holder (OfCall n x)) (m.call_same n x (omega arith) i)

    -- ---- a variable that is reached changes

    -- it is kept good
    abbrev pub Keeps : (Variable → Variable) → Type 0
    Keeps f = (c : ℕ) (k : IntKind) (b : Bool) (u : Variable) → Good c k b u → Good c k b (f u)

    pub put_memories : (f : Variable → Variable) → Keeps f → (o : Owner) → Target n o → Memories n (put o (f (s o)) s) (put o (f (v o)) v)
    put_memories f keeps o t = record {
      file_same = λ r. put_same (OfFile r) (m.file_same r);
      file_good = λ r. put_good (OfFile r) 0 (kind_held (p.globals r)) true (m.file_good r);
      call_same = λ d x h g. put_same (OfCall d x) (m.call_same d x h g);
      call_good = λ d x h g. put_good (OfCall d x) d (entry_or no_slot (sh d).slots x).kind ((sh d).own x) (m.call_good d x h g);
    }
      where
        put_same : (q : Owner) → v q ≡ s q → put o (f (v o)) v q ≡ put o (f (s o)) s q
        put_same q e = ap₂ (λ x y. cond (same_owner o q) x y) (ap f (target_same o t)) e

        put_good : (q : Owner) (c : ℕ) (k : IntKind) (b : Bool) → Good c k b (s q) → Good c k b (put o (f (s o)) s q)
        put_good q c k b g =
            chosen (Good c k b) (same_owner o q) (f (s o)) (s q)
            (λ e. let i = (same_owner_decides o q).0 e in subst (λ r. Good c k b (f (s r))) (sym i) (keeps c k b (s q) g)) (λ e. g)

    pub put_kept : (f : Variable → Variable) (o : Owner) → Target n o → Kept v (put o (f (v o)) v)
    put_kept f o t d x h =
        chosen (λ u. u ≡ v (OfCall d x)) (same_owner o (OfCall d x)) (f (v o)) (v (OfCall d x))
        (λ e. absurd (past o t ((same_owner_decides o (OfCall d x)).0 e))) (λ e. refl)
      where
        past : (q : Owner) → Target n q → q ≡ OfCall d x → ⊥
        past q i e = let j = subst (Target n) e i in let k = j.1 in omega (arith, k, h)

    number_keeps : (i : ℕ) (z : ℤ) → Keeps (with_number i z)
    number_keeps i z c k b (Holds j r cells) g = (
      g.0,
      (λ x. chosen_in_kind k (eqb i x) (converted j z) (cells x) (subst (λ y. IsInRange k (converted y z)) (sym g.0) (converted-in_range k z))
          (g.1 x)),
      g.2,
    )
    number_keeps i z c k b (Lent o) g = g

    zeros_keeps : (i : ℕ) → Keeps (with_zeros i)
    zeros_keeps i c k b (Holds j r cells) g = (
      g.0,
      (λ x. chosen_in_kind k (nat_lt x i) (cells x) (cond (nat_lt x (cells_held (Holds j r cells))) (pos 0) (cells x)) (g.1 x)
          (chosen_in_kind k (nat_lt x (cells_held (Holds j r cells))) (pos 0) (cells x) (zero_in_range k) (g.1 x))),
      g.2,
    )
    zeros_keeps i c k b (Lent o) g = g

    -- a number is stored
    pub stored : (o : Owner) (i : ℕ) (z : ℤ) → Target n o → Memories n (put o (with_number i z (s o)) s) (put o (with_number i z (v o)) v)
    stored o i z t = put_memories (with_number i z) (number_keeps i z) o t

    -- cells are cleared
    pub cleared : (o : Owner) (i : ℕ) → Target n o → Memories n (put o (with_zeros i (s o)) s) (put o (with_zeros i (v o)) v)
    cleared o i t = put_memories (with_zeros i) (zeros_keeps i) o t
