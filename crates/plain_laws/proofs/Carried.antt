-- What calls keep while memory changes elsewhere, and how a guard and its variable are set together.
use Rattle.std.proofs.Common.{ℕ, suc, ◌≤◌, ◌<◌, Bool, true, false, cond, eqb, List, [], ◌∷◌, length, ◌≡◌, refl, sym, ap, ◌∙◌, subst, true≢false, eqb-true, eq-eqb, arith}
use Rattle.c_types.specs.declared.kinds.IntKind.{IntKind}
use Rattle.c_types.specs.declared.kinds.IntKind.TheVariants.{Int}
use Rattle.c_types.specs.Numbers.{converted}
use Rattle.c_types.proofs.Residues.{converted-in_kind}
use Rattle.c_tree.specs.Operators.{truth}
use Rattle.jump_meaning.specs.Values.{Owner, OfFile, OfCall, Variable, Holds, Lent, Value, Designates, Lends}
use Rattle.jump_meaning.specs.Code.{Code, entry_or}
use Rattle.jump_meaning.specs.World.{same_owner, put, with_number, no_slot}
use Rattle.jump_meaning.specs.Step.{Guards, with_guard, Frame}
use Rattle.jump_meaning.proofs.Memory.{same_owner_decides, chosen}
use Rattle.plain_laws.specs.Slotted.{Guarding, IsSlotted}
use Rattle.plain_laws.proofs.Memories.{Shape, Shapes, Variables, Target, owner_kind, Good, Memories, Kept}
use Rattle.plain_laws.proofs.Sorts.{Sort, Bit, Num, Spot, ForSlot, HasSort, HaveSorts, bit_in_range}
use Rattle.plain_laws.proofs.Relation.{slots, slot, IsLeft, IsBit, Sits, Frames, f_none, f_more}

-- ---- a variable of which nothing else knows is put

pub put_here : (o : Owner) (u : Variable) (s : Variables) → put o u s o ≡ u
put_here o u s = chosen (λ z. z ≡ u) (same_owner o o) u (s o) (λ e. refl) (λ e. absurd (true≢false (sym ((same_owner_decides o o).1 refl) ∙ e)))

pub put_beside : (o q : Owner) (u : Variable) (s : Variables) → (o ≡ q → ⊥) → put o u s q ≡ s q
put_beside o q u s n = chosen (λ z. z ≡ s q) (same_owner o q) u (s q) (λ e. absurd (n ((same_owner_decides o q).0 e))) (λ e. refl)

-- the variable of a guard is set
abbrev pub set_variable : ℕ → ℕ → Bool → Variables → Variables
set_variable c x b v = put (OfCall c x) (with_number 0 (truth b) (v (OfCall c x))) v

pub bit_stored : (b d : Bool) (u : Variable) → IsBit u d → IsBit (with_number 0 (truth b) u) b
bit_stored b d (Holds k n cells) h = (
  h.0,
  h.1,
  ap (λ z. cond z (converted k (truth b)) (cells 0)) (eq-eqb 0 0 refl) ∙
      ap (λ j. converted j (truth b)) h.0 ∙ converted-in_kind Int (truth b) (bit_in_range Int b),
)
bit_stored b d (Lent o) h = absurd h

abbrev pub call_of : Owner → ℕ
call_of (OfFile m) = 0
call_of (OfCall c x) = c

abbrev pub slot_of : Owner → ℕ
slot_of (OfFile m) = 0
slot_of (OfCall c x) = x

abbrev pub is_of_call : Owner → Bool
is_of_call (OfFile m) = false
is_of_call (OfCall c x) = true

module _ (p : Code) where
  -- a variable past the slots of its call changes on the right
  pub guard_memories : (sh : Shapes) (n : ℕ) (s v : Variables) (c x : ℕ) (u : Variable) → length (sh c).slots ≤ x → Memories p sh n s v →
      Memories p sh n s (put (OfCall c x) u v)
  guard_memories sh n s v c x u h m = record {
    file_same = λ r. put_beside (OfCall c x) (OfFile r) u v (λ e. true≢false (ap is_of_call e)) ∙ m.file_same r;
    file_good = m.file_good;
    call_same = λ d y g i. put_beside (OfCall c x) (OfCall d y) u v (λ e. past d y (ap call_of e) (ap slot_of e) i) ∙ m.call_same d y g i;
    call_good = m.call_good;
  }
    where
      past : (d y : ℕ) → c ≡ d → x ≡ y → y < length (sh d).slots → ⊥
      past d y e g i = let j : length (sh d).slots ≤ x = subst (λ z. length (sh z).slots ≤ x) e h in omega (arith, i, j, g)

  -- ---- shapes of further calls

  abbrev pub Agree : ℕ → Shapes → Shapes → Type 0
  Agree n sh sh' = (d : ℕ) → d ≤ n → sh' d ≡ sh d

  module _ (n : ℕ) (sh sh' : Shapes) (a : Agree n sh sh') where
    pub target_grows : (c : ℕ) (o : Owner) → c ≤ n → Target p sh c o → Target p sh' c o
    target_grows c (OfFile m) h t = tt
    target_grows c (OfCall d x) h t = let g = t.0 in let e = a d (omega (arith, g, h)) in
        (t.0, subst (λ z. x < length z.slots) (sym e) t.1, ap (λ (z : Shape). z.own x) e ∙ t.2)

    pub kind_grows : (c : ℕ) (o : Owner) → c ≤ n → Target p sh c o → owner_kind p sh' o ≡ owner_kind p sh o
    kind_grows c (OfFile m) h t = refl
    kind_grows c (OfCall d x) h t = let g = t.0 in ap (λ (z : Shape). (entry_or no_slot z.slots x).kind) (a d (omega (arith, g, h)))

    pub good_grows : (c : ℕ) (k : IntKind) (b : Bool) (u : Variable) → c ≤ n → Good p sh c k b u → Good p sh' c k b u
    good_grows c k b (Holds j i cells) h g = g
    good_grows c k b (Lent o) h g = (target_grows c o h g.0, kind_grows c o h g.0 ∙ g.1, g.2)

    sort_grows : (c : ℕ) (s : Sort) (x : Value) → c ≤ n → HasSort p sh c s x → HasSort p sh' c s x
    sort_grows c Bit x h g = g
    sort_grows c (Num kind) x h g = g
    sort_grows c (Spot k) (Designates o i) h g = (target_grows c o h g.0, kind_grows c o h g.0 ∙ g.1)
    sort_grows c (Spot k) _ h g = absurd g
    sort_grows c (ForSlot k) (Lends o) h g = (target_grows c o h g.0, kind_grows c o h g.0 ∙ g.1)
    sort_grows c (ForSlot k) _ h g = tt

    pub sorts_grow : (c : ℕ) (ss : List Sort) (u : List Value) → c ≤ n → HaveSorts p sh c ss u → HaveSorts p sh' c ss u
    sorts_grow c [] [] h g = tt
    sorts_grow c [] (x ∷ u) h g = absurd g
    sorts_grow c (s ∷ ss) [] h g = absurd g
    sorts_grow c (s ∷ ss) (x ∷ u) h g = (sort_grows c s x h g.0, sorts_grow c ss u h g.1)

module _ (p : Code) (gs : List ℕ → Guarding) (is : (m : List ℕ) → IsSlotted p (p.functions m) (gs m)) where
  -- a call whose variables for guards stay
  pub sits_on : (sh sh' : Shapes) (v v' : Variables) (c : ℕ) (f : List ℕ) (g : Guards) → sh' c ≡ sh c →
      ((y : ℕ) → length (sh c).slots ≤ y → v' (OfCall c y) ≡ v (OfCall c y)) → Sits p gs is sh v c f g → Sits p gs is sh' v' c f g
  sits_on sh sh' v v' c f g e k h = record {
    shape = ap (λ (z : Shape). z.slots) e ∙ h.shape;
    guards = λ l i.
        subst (λ u. IsBit u (g l)) (sym (k (slot p gs is f l) (subst (λ z. length z ≤ slot p gs is f l) (sym h.shape) ((is f).beyond l i)))) (h.guards l i);
  }

  -- calls that wait, where memory beyond their slots stays, and the shapes of these calls
  pub frames_on : (sh sh' : Shapes) (v v' : Variables) (n : ℕ) (m : List ℕ) {cs cs' : List Frame} → Agree p n sh sh' →
      ((d y : ℕ) → d ≤ n → length (sh d).slots ≤ y → v' (OfCall d y) ≡ v (OfCall d y))
      → Frames p gs is sh v n m cs cs' → Frames p gs is sh' v' n m cs cs'
  frames_on sh sh' v v' n m a k (f_none r) = f_none r
  frames_on sh sh' v v' n m a k (f_more i r f g t ss u x x' st hs un sk fr) =
      f_more i r f g t ss u x x' (sits_on sh sh' v v' (suc i) f g (a (suc i) (omega arith)) (λ y h. k (suc i) y (omega arith) h) st)
      (sorts_grow p (suc i) sh sh' a (suc i) ss u (omega arith) hs) un sk
      (frames_on sh sh' v v' i f (λ d h. a d (omega (arith, h))) (λ d y h j. k d y (omega (arith, h)) j) fr)

  pub frames_kept : (sh : Shapes) (v v' : Variables) (n : ℕ) (m : List ℕ) {cs cs' : List Frame} → Kept p sh v v' → Frames p gs is sh v n m cs cs' →
      Frames p gs is sh v' n m cs cs'
  frames_kept sh v v' n m k fr = frames_on sh sh v v' n m (λ d h. refl) (λ d y h j. k d y j) fr

  pub sits_kept : (sh : Shapes) (v v' : Variables) (c : ℕ) (f : List ℕ) (g : Guards) → Kept p sh v v' → Sits p gs is sh v c f g → Sits p gs is sh v' c f g
  sits_kept sh v v' c f g k h = sits_on sh sh v v' c f g refl (λ y j. k c y j) h

  -- ---- a guard and its variable are set

  pub set_sits : (sh : Shapes) (v : Variables) (c : ℕ) (f : List ℕ) (g : Guards) (l : ℕ) (b : Bool) → IsLeft p gs is f l → Sits p gs is sh v c f g →
      Sits p gs is sh (set_variable c (slot p gs is f l) b v) c f (with_guard l b g)
  set_sits sh v c f g l b i h = record {
    shape = h.shape;
    guards = λ m j. at m j (eqb l m) refl;
  }
    where
      x : ℕ
      x = slot p gs is f l

      at : (m : ℕ) → IsLeft p gs is f m → (y : Bool) → eqb l m ≡ y → IsBit (set_variable c x b v (OfCall c (slot p gs is f m))) (cond y b (g m))
      at m j true e =
          subst (λ z. IsBit (set_variable c x b v (OfCall c (slot p gs is f z))) b) (eqb-true l m e)
          (subst (λ u. IsBit u b) (sym (put_here (OfCall c x) (with_number 0 (truth b) (v (OfCall c x))) v))
          (bit_stored b (g l) (v (OfCall c x)) (h.guards l i)))
      at m j false e =
          subst (λ u. IsBit u (g m))
          (sym (put_beside (OfCall c x) (OfCall c (slot p gs is f m)) (with_number 0 (truth b) (v (OfCall c x))) v
          (λ q. true≢false (sym (eq-eqb l m ((is f).apart l m i j (ap slot_of q))) ∙ e))))
          (h.guards m j)

  pub set_frames : (sh : Shapes) (v : Variables) (n x : ℕ) (b : Bool) (m : List ℕ) {cs cs' : List Frame} → Frames p gs is sh v n m cs cs' →
      Frames p gs is sh (set_variable (suc n) x b v) n m cs cs'
  set_frames sh v n x b m fr =
      frames_on sh sh v (set_variable (suc n) x b v) n m (λ d h. refl)
      (λ d y h j. put_beside (OfCall (suc n) x) (OfCall d y) (with_number 0 (truth b) (v (OfCall (suc n) x))) v
      (λ e. let q : suc n ≡ d = ap call_of e in omega (arith, q, h))) fr

  pub set_memories : (sh : Shapes) (s v : Variables) (n x : ℕ) (b : Bool) (f : List ℕ) → (sh (suc n)).slots ≡ slots p gs is f →
      length (slots p gs is f) ≤ x → Memories p sh (suc n) s v → Memories p sh (suc n) s (set_variable (suc n) x b v)
  set_memories sh s v n x b f e h m = guard_memories p sh (suc n) s v (suc n) x (with_number 0 (truth b) (v (OfCall (suc n) x)))
      (subst (λ z. length z ≤ x) (sym e) h) m
