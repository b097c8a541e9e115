-- The variables of a lowered function: those of its source, and behind them one number for each switch.
use Rattle.std.proofs.Common.{◌≡◌, ℕ, zero, suc, ◌+◌, ◌-◌, ◌≤◌, false, codes, List, [], ◌∷◌, ◌++◌, length, drop, Option, Some, None, refl, sym, ap, subst, ◌∙◌, arith, append_assoc, length-append}
use Rattle.std.specs.Prelude.{nat_lt}
use Rattle.std.specs.List.{AllByRecursion}
use Rattle.std.proofs.lemmas.Bool.{le-ltb}
use Rattle.std.proofs.lemmas.List.{append-nil}
use Rattle.c_types.specs.declared.kinds.IntKind.{IntKind}
use Rattle.c_tree.specs.declared.tree.Slot.{Slot}
use Rattle.c_tree.specs.Everywhere.{total, total_of, total_in}
use Rattle.c_tree.specs.Trees.{Tree, Forest, Nil, Then, Sections, NoSection, Section, Evaluate, If, While, Do, For, Switch, Block}
use Rattle.c_copies.specs.Names.{with_name}
use Rattle.c_fresh_names.specs.Fresh.{numbered, fresh}
use Rattle.jump_meaning.specs.Code.{entry_or}
use Rattle.jump_meaning.specs.World.{no_slot}
use Rattle.jump_meaning.specs.Step.{switch_kind}
use Rattle.flat_laws.specs.Loose.{Setting, ExtendSlots}
use Rattle.flat_laws.specs.Parts.{Here}
use Rattle.flat_laws.specs.Source.{IsVariable}
use Rattle.flat_names.specs.FlatNames.{Named, number_slot, slot_named, slot_taken, slot_used, named_slots}
use Rattle.lower_laws.specs.Lowered.{variables_of, past, past_item, inside}
use Rattle.lower_laws.specs.Source.{HaveVariables, HasVariables, HaveVariablesAmong}
use Rattle.lower_laws.specs.Lowering.{constructs, constructs_in, constructs_among, with_variable, with_variables}
use Rattle.flat_function.proofs.Forms.{AreNumbers, named_kind}

-- ---- the variables of switches

abbrev pub kinds : List (Option IntKind) → List IntKind
kinds [] = []
kinds (None ∷ cs) = kinds cs
kinds (Some k ∷ cs) = k ∷ kinds cs

-- those of these loops and switches
abbrev pub more_variables : ℕ → List (Option IntKind) → List (List ℕ) → List Slot
more_variables k [] used = []
more_variables k (None ∷ cs) used = more_variables (k + 1) cs used
more_variables k (Some kind ∷ cs) used = number_slot kind (fresh (numbered (codes "switch") k) used) ∷ more_variables (k + 1) cs
    (with_name used (fresh (numbered (codes "switch") k) used))

abbrev pub used_behind : ℕ → List (Option IntKind) → List (List ℕ) → List (List ℕ)
used_behind k [] used = used
used_behind k (None ∷ cs) used = used_behind (k + 1) cs used
used_behind k (Some kind ∷ cs) used = used_behind (k + 1) cs (with_name used (fresh (numbered (codes "switch") k) used))

pub variables_are : (k : ℕ) (cs : List (Option IntKind)) (n : Named) →
    with_variables k cs n ≡ record { slots = n.slots ++ more_variables k cs n.used; used = used_behind k cs n.used }
variables_are k [] n = ap (λ ss. record { slots = ss; used = n.used }) (sym (append-nil n.slots))
variables_are k (None ∷ cs) n = variables_are (k + 1) cs n
variables_are k (Some kind ∷ cs) n =
    let m = fresh (numbered (codes "switch") k) n.used in
    variables_are (k + 1) cs (with_variable k (Some kind) n)
    ∙ ap (λ ss. record { slots = ss; used = used_behind (k + 1) cs (with_name n.used m) })
    (append_assoc n.slots (number_slot kind m ∷ []) (more_variables (k + 1) cs (with_name n.used m)))

pub more_numbers : (k : ℕ) (cs : List (Option IntKind)) (used : List (List ℕ)) → AreNumbers (kinds cs) (more_variables k cs used)
more_numbers k [] used = tt
more_numbers k (None ∷ cs) used = more_numbers (k + 1) cs used
more_numbers k (Some kind ∷ cs) used = (refl, refl, refl, more_numbers (k + 1) cs (with_name used (fresh (numbered (codes "switch") k) used)))

pub more_length : (k : ℕ) (cs : List (Option IntKind)) (used : List (List ℕ)) → length (more_variables k cs used) ≡ length (kinds cs)
more_length k [] used = refl
more_length k (None ∷ cs) used = more_length (k + 1) cs used
more_length k (Some kind ∷ cs) used = ap suc (more_length (k + 1) cs (with_name used (fresh (numbered (codes "switch") k) used)))

kinds_append : (a b : List (Option IntKind)) → kinds (a ++ b) ≡ kinds a ++ kinds b
kinds_append [] b = refl
kinds_append (None ∷ a) b = kinds_append a b
kinds_append (Some k ∷ a) b = ap (λ z. k ∷ z) (kinds_append a b)

kinds_length : (a b : List (Option IntKind)) → length (kinds (a ++ b)) ≡ length (kinds a) + length (kinds b)
kinds_length a b = ap length (kinds_append a b) ∙ length-append (kinds a) (kinds b)

mutual
  pub counted : (a : Forest) → length (kinds (constructs a)) ≡ total variables_of a
  counted Nil = refl
  counted (Then x a) = let e = kinds_length (constructs_in x) (constructs a) in let i = counted_in x in let j = counted a in omega (arith, e, i, j)

  counted_in : (x : Tree) → length (kinds (constructs_in x)) ≡ total_of variables_of x
  counted_in (If t a b) = let e = kinds_length (constructs a) (constructs b) in let i = counted a in let j = counted b in omega (arith, e, i, j)
  counted_in (While t a) = let i = counted a in omega (arith, i)
  counted_in (Do a t) = let i = counted a in omega (arith, i)
  counted_in (For first t u a) = let e = kinds_length (constructs first) (constructs a) in let i = counted first in let j = counted a in omega (arith, e, i, j)
  counted_in (Block a) = let i = counted a in omega (arith, i)
  counted_in (Switch s d) = let i = counted_among d in omega (arith, i)
  counted_in (Evaluate e) = refl
  counted_in _ = refl

  counted_among : (d : Sections) → length (kinds (constructs_among d)) ≡ total_in variables_of d
  counted_among NoSection = refl
  counted_among (Section cases default a ends d) = let e = kinds_length (constructs a) (constructs_among d) in let i = counted a in let j =
      counted_among d in
      omega (arith, e, i, j)

-- ---- each switch has its variable

module _ (s : Setting) where
  -- variables of these kinds, from slot v on
  abbrev At : ℕ → List IntKind → Type 0
  At v [] = Unit {0}
  At v (k ∷ ks) = IsVariable s v k × At (suc v) ks

  at_split : (v : ℕ) (ks ls : List IntKind) → At v (ks ++ ls) → At v ks × At (v + length ks) ls
  at_split v [] ls h = (tt, (let e : v ≡ v + 0 = omega arith in subst (λ w. At w ls) e h))
  at_split v (k ∷ ks) ls h =
      let i = at_split (suc v) ks ls h.1 in
      let e : suc v + length ks ≡ v + suc (length ks) = omega arith in
      ((h.0, i.0), subst (λ w. At w ls) e i.1)

  split : (v : ℕ) (a b : List (Option IntKind)) → At v (kinds (a ++ b)) → At v (kinds a) × At (v + length (kinds a)) (kinds b)
  split v a b h = at_split v (kinds a) (kinds b) (subst (At v) (kinds_append a b) h)

  mutual
    pub have : (h : Here) (v : ℕ) (a : Forest) → h.variable ≡ v → At v (kinds (constructs a)) → HaveVariables s h a
    have h v Nil e i = tt
    have h v (Then x a) e i =
        let j = split v (constructs_in x) (constructs a) i in
        let n = counted_in x in
        (has h v x e j.0, have (past_item x h) (v + length (kinds (constructs_in x))) a (omega (arith, e, n)) j.1)

    has : (h : Here) (v : ℕ) (x : Tree) → h.variable ≡ v → At v (kinds (constructs_in x)) → HasVariables s h x
    has h v (If t a b) e i =
        let j = split v (constructs a) (constructs b) i in
        let n = counted a in
        let s = inside (If t a b) h in
        (have s v a (omega (arith, e)) j.0, have (past a s) (v + length (kinds (constructs a))) b (omega (arith, e, n)) j.1)
    has h v (While t a) e i = have (inside (While t a) h) v a (omega (arith, e)) i
    has h v (Do a t) e i = have (inside (Do a t) h) v a (omega (arith, e)) i
    has h v (For first t u a) e i =
        let j = split v (constructs first) (constructs a) i in
        let n = counted first in
        let s = inside (For first t u a) h in
        (have s v first (omega (arith, e)) j.0, have (past first s) (v + length (kinds (constructs first))) a (omega (arith, e, n)) j.1)
    has h v (Block a) e i = have h v a e i
    has h v (Switch t d) e i = (subst (λ w. IsVariable s w (switch_kind t)) (sym e) i.0, have_among (inside (Switch t d) h) (suc v) d (omega (arith, e)) i.1)
    has h v _ e i = tt

    have_among : (h : Here) (v : ℕ) (d : Sections) → h.variable ≡ v → At v (kinds (constructs_among d)) → HaveVariablesAmong s h d
    have_among h v NoSection e i = tt
    have_among h v (Section cases default a ends d) e i =
        let j = split v (constructs a) (constructs_among d) i in
        let n = counted a in
        (have h v a e j.0, have_among (past a h) (v + length (kinds (constructs a))) d (omega (arith, e, n)) j.1)

  entry_at : (olds : List Slot) (t : Slot) (more : List Slot) → entry_or no_slot (olds ++ t ∷ more) (length olds) ≡ t
  entry_at [] t more = refl
  entry_at (x ∷ olds) t more = entry_at olds t more

  pub at_numbers : (olds vs : List Slot) (ks : List IntKind) → AreNumbers ks vs → s.new ≡ olds ++ vs → s.params ≤ length olds →
      length s.old ≤ length olds → At (length olds) ks
  at_numbers olds vs [] h e p o = tt
  at_numbers olds [] (k ∷ ks) h e p o = absurd h
  at_numbers olds (t ∷ vs) (k ∷ ks) h e p o =
      let there : entry_or no_slot s.new (length olds) ≡ t = ap (λ z. entry_or no_slot z (length olds)) e ∙ entry_at olds t vs in
      let n : length (olds ++ t ∷ []) ≡ suc (length olds) = (let l = length-append olds (t ∷ []) in omega (arith, l)) in (
        record { new = (p, o); cells = ap (λ (r : Slot). r.cells) there ∙ h.1; kind = ap (λ (r : Slot). r.kind) there ∙ h.0 },
        subst (λ w. At w ks) n (at_numbers (olds ++ t ∷ []) vs ks h.3 (e ∙ sym (append_assoc olds (t ∷ []) vs)) (omega (arith, p, n)) (omega (arith, o, n))),
      )

-- ---- the variables of the source

only_numbers : (ks : List IntKind) (vs : List Slot) → AreNumbers ks vs → ExtendSlots [] vs
only_numbers [] [] h = tt
only_numbers [] (v ∷ vs) h = absurd h
only_numbers (k ∷ ks) [] h = absurd h
only_numbers (k ∷ ks) (v ∷ vs) h = (h.1, only_numbers ks vs h.3)

abbrev pub IsFree : Slot → Type 0
IsFree s = s.constant ≡ false

no_constants : (ks : List IntKind) (vs : List Slot) → AreNumbers ks vs → AllByRecursion IsFree vs
no_constants [] [] h = tt
no_constants [] (v ∷ vs) h = absurd h
no_constants (k ∷ ks) [] h = absurd h
no_constants (k ∷ ks) (v ∷ vs) h = (h.2, no_constants ks vs h.3)

module _ (vs : List Slot) (ks : List IntKind) (numbers : AreNumbers ks vs) where
  pub extended : (n : ℕ) (taken used : List (List ℕ)) (ss : List Slot) → ExtendSlots ss ((named_slots n taken used ss).slots ++ vs)
  extended n taken used [] = only_numbers ks vs numbers
  extended n taken used (s ∷ ss) =
      let b = nat_lt 0 n in
      let e = named_kind b taken used s in
      (e.0, e.1, extended (n - 1) (slot_taken b taken used s) (slot_used b taken used s) ss)

  all_free : (n : ℕ) (taken used : List (List ℕ)) (ss : List Slot) → n ≡ 0 → AllByRecursion IsFree ((named_slots n taken used ss).slots ++ vs)
  all_free n taken used [] e = no_constants ks vs numbers
  all_free n taken used (s ∷ ss) e =
      let b = nat_lt 0 n in
      let f : b ≡ false = le-ltb 0 n (omega (arith, e)) in
      (ap (λ z. (slot_named z taken used s).constant) f, all_free (n - 1) (slot_taken b taken used s) (slot_used b taken used s) ss (omega (arith, e)))

  -- no variable that is no parameter is const
  pub free_behind : (n : ℕ) (taken used : List (List ℕ)) (ss : List Slot) → n ≤ length ss →
      AllByRecursion IsFree (drop n ((named_slots n taken used ss).slots ++ vs))
  free_behind zero taken used ss h = all_free 0 taken used ss refl
  free_behind (suc n) taken used [] h = absurd (omega (arith, h))
  free_behind (suc n) taken used (s ∷ ss) h =
      let b = nat_lt 0 (suc n) in
      let e : suc n - 1 ≡ n = omega arith in
      subst (λ m. AllByRecursion IsFree (drop n ((named_slots m (slot_taken b taken used s) (slot_used b taken used s) ss).slots ++ vs))) (sym e)
      (free_behind n (slot_taken b taken used s) (slot_used b taken used s) ss (omega (arith, h)))
