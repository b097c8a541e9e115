-- The names of a flat form make the flat form of a function.
use Rattle.std.proofs.Common.{◌≡◌, ℕ, zero, suc, ◌+◌, ◌-◌, ◌≤◌, Bool, true, false, cond, List, [], ◌∷◌, ◌++◌, length, take, drop, None, refl, sym, ap, subst, ◌∙◌, arith, append_assoc, length-append, Option, Some}
use Rattle.std.specs.Prelude.{nat_lt}
use Rattle.std.specs.List.{AllByRecursion}
use Rattle.std.proofs.lemmas.Bool.{lt-ltb, le-ltb}
use Rattle.std.proofs.lemmas.List.{append-nil}
use Rattle.c_types.specs.declared.kinds.IntKind.{IntKind}
use Rattle.c_tree.specs.declared.tree.Function.{Function}
use Rattle.c_tree.specs.declared.tree.Item.{Item}
use Rattle.c_tree.specs.declared.tree.Slot.{Slot}
use Rattle.c_tree.specs.Everywhere.{total, total_of, total_in}
use Rattle.c_tree.specs.Trees.{Tree, Forest, Nil, Then, Sections, NoSection, Section, Evaluate, If, While, Do, For, Switch, Block, trees_of}
use Rattle.jump_meaning.specs.Code.{entry_or}
use Rattle.jump_meaning.specs.World.{no_slot}
use Rattle.jump_meaning.specs.Step.{switch_kind}
use Rattle.flat_laws.specs.Loose.{Setting, ExtendSlots}
use Rattle.flat_laws.specs.Parts.{has_jumps, is_scattered, switch_labels, cases_among, has_default, leaves, variables_of, Here, past, past_item, inside}
use Rattle.flat_laws.specs.FlatForm.{first_here}
use Rattle.flat_laws.specs.Source.{IsVariable, IfTrue, HaveVariables, HasVariables, HaveVariablesAmong}
use Rattle.flat_form.specs.Codes.{label_codes}
use Rattle.flat_names.specs.declared.constructs.Construct.{Construct}
use Rattle.flat_names.specs.declared.constructs.Construct.TheVariants as c
use Rattle.flat_names.specs.declared.giving.Made.{Made}
use Rattle.flat_names.specs.FlatNames.{Given, constructs, constructs_in, constructs_among, name_variable, name_cases, name_case, name_default, name_break, name_construct, name_constructs, none_given, slot_named, slot_taken, slot_used, named_slots, naming, label_of, used_then, label_names}
use Rattle.whole_laws.specs.Rewritten.{setting, IsFlatForm, IsUnlabelledForm, FlatTop, ft_flat, ft_unlabelled, ft_declared}
use Rattle.whole_laws.proofs.Flattened.{body_is}
use Rattle.flat_form.specs.declared.forms.Form.{Form}
use Rattle.flat_form.specs.declared.forms.Form.TheVariants.{Same, Calm, Flat}
use Rattle.flat_form.specs.Flattened.{IsFormBeside, applied}
use Rattle.c_tree.specs.declared.tree.Top.TheVariants as T
use Rattle.flat_names.specs.declared.whole.FlatNames.{FlatNames}
use Rattle.flat_function.specs.Laws.{named_beside, FlatNamesMakeForms, FlattenedAreForms}

-- ---- variables of scattered switches

abbrev pub kinds : List Construct → List IntKind
kinds [] = []
kinds (c.Stays ∷ cs) = kinds cs
kinds (c.Scattered k n d l ∷ cs) = k ∷ kinds cs

-- numbers of these kinds, one each
abbrev pub AreNumbers : List IntKind → List Slot → Type 0
AreNumbers [] [] = Unit {0}
AreNumbers (k ∷ ks) (s ∷ ss) = (s.kind ≡ k) × (s.cells ≡ None) × (s.constant ≡ false) × AreNumbers ks ss
AreNumbers _ _ = ⊥

numbers_more : (ks : List IntKind) (ss : List Slot) (k : IntKind) (s : Slot) → AreNumbers ks ss →
    (s.kind ≡ k) × (s.cells ≡ None) × (s.constant ≡ false) → AreNumbers (ks ++ k ∷ []) (ss ++ s ∷ [])
numbers_more [] [] k s h e = (e.0, e.1, e.2, tt)
numbers_more [] (t ∷ ss) k s h e = absurd h
numbers_more (j ∷ ks) [] k s h e = absurd h
numbers_more (j ∷ ks) (t ∷ ss) k s h e = (h.0, h.1, h.2, numbers_more ks ss k s h.3 e)

pub break_same : (k : ℕ) (b : Bool) (g : Given) → (name_break k b g).variables ≡ g.variables
break_same k true g = refl
break_same k false g = refl

pub default_same : (k : ℕ) (b : Bool) (g : Given) → (name_default k b g).variables ≡ g.variables
default_same k true g = refl
default_same k false g = refl

pub cases_same : (k i n : ℕ) (g : Given) → (name_cases k i n g).variables ≡ g.variables
cases_same k i zero g = refl
cases_same k i (suc n) g = cases_same k (i + 1) n (name_case k i g)

pub numbers_named : (i : ℕ) (cs : List Construct) (g : Given) (ks : List IntKind) → AreNumbers ks g.variables →
    AreNumbers (ks ++ kinds cs) (name_constructs i cs g).variables
numbers_named i [] g ks h = subst (λ z. AreNumbers z g.variables) (sym (append-nil ks)) h
numbers_named i (c.Stays ∷ cs) g ks h = numbers_named (i + 1) cs (name_construct i c.Stays g) ks h
numbers_named i (c.Scattered k n d l ∷ cs) g ks h =
    let one = name_variable i k g in
    let all = name_cases i 1 n one in
    let e : (name_construct i (c.Scattered k n d l) g).variables ≡ one.variables =
    break_same i l (name_default i d all) ∙ default_same i d all ∙ cases_same i 1 n one in
    let more = numbers_more ks g.variables k _ h (refl, refl, refl) in
    subst (λ z. AreNumbers z (name_constructs (i + 1) cs (name_construct i (c.Scattered k n d l) g)).variables) (append_assoc ks (k ∷ []) (kinds cs))
    (numbers_named (i + 1) cs (name_construct i (c.Scattered k n d l) g) (ks ++ k ∷ []) (subst (AreNumbers (ks ++ k ∷ [])) (sym e) more))

numbers_length : (ks : List IntKind) (ss : List Slot) → AreNumbers ks ss → length ss ≡ length ks
numbers_length [] [] h = refl
numbers_length [] (s ∷ ss) h = absurd h
numbers_length (k ∷ ks) [] h = absurd h
numbers_length (k ∷ ks) (s ∷ ss) h = ap suc (numbers_length ks ss h.3)

kinds_append : (a b : List Construct) → kinds (a ++ b) ≡ kinds a ++ kinds b
kinds_append [] b = refl
kinds_append (c.Stays ∷ a) b = kinds_append a b
kinds_append (c.Scattered k n d l ∷ a) b = ap (λ z. k ∷ z) (kinds_append a b)

kinds_length : (a b : List Construct) → length (kinds (a ++ b)) ≡ length (kinds a) + length (kinds b)
kinds_length a b = ap length (kinds_append a b) ∙ length-append (kinds a) (kinds b)

switch_length : (b : Bool) (k : IntKind) (n : ℕ) (d l : Bool) (cs : List Construct) →
    length (kinds (cond b (c.Scattered k n d l) c.Stays ∷ cs)) ≡ cond b 1 0 + length (kinds cs)
switch_length true k n d l cs = omega arith
switch_length false k n d l cs = omega arith

mutual
  counted : (a : Forest) → length (kinds (constructs a)) ≡ total variables_of a
  counted Nil = refl
  counted (Then x a) = let e = kinds_length (constructs_in x) (constructs a) in let i = counted_in x in let j = counted a in omega (arith, e, i, j)

  counted_in : (x : Tree) → length (kinds (constructs_in x)) ≡ total_of variables_of x
  counted_in (If t a b) = let e = kinds_length (constructs a) (constructs b) in let i = counted a in let j = counted b in omega (arith, e, i, j)
  counted_in (While t a) = let i = counted a in omega (arith, i)
  counted_in (Do a t) = let i = counted a in omega (arith, i)
  counted_in (For first t u a) = let e = kinds_length (constructs first) (constructs a) in let i = counted first in let j = counted a in omega (arith, e, i, j)
  counted_in (Block a) = let i = counted a in omega (arith, i)
  counted_in (Switch s d) =
      let e = switch_length (is_scattered d) (switch_kind s) (length (cases_among (switch_labels d))) (has_default (switch_labels d)) (leaves d)
      (constructs_among d) in
      let i = counted_among d in
      omega (arith, e, i)
  counted_in (Evaluate e) = refl
  counted_in _ = refl

  counted_among : (d : Sections) → length (kinds (constructs_among d)) ≡ total_in variables_of d
  counted_among NoSection = refl
  counted_among (Section cases default a ends d) = let e = kinds_length (constructs a) (constructs_among d) in let i = counted a in let j =
      counted_among d in
      omega (arith, e, i, j)

-- ---- each scattered switch has its variable

module _ (s : Setting) where
  -- variables of these kinds, from slot v on
  abbrev At : ℕ → List IntKind → Type 0
  At v [] = Unit {0}
  At v (k ∷ ks) = IsVariable s v k × At (suc v) ks

  at_split : (v : ℕ) (ks ls : List IntKind) → At v (ks ++ ls) → At v ks × At (v + length ks) ls
  at_split v [] ls h = (tt, (let e : v ≡ v + 0 = omega arith in subst (λ w. At w ls) e h))
  at_split v (k ∷ ks) ls h =
      let i = at_split (suc v) ks ls h.1 in
      let e : suc v + length ks ≡ v + suc (length ks) = omega arith in
      ((h.0, i.0), subst (λ w. At w ls) e i.1)

  split : (v : ℕ) (a b : List Construct) → At v (kinds (a ++ b)) → At v (kinds a) × At (v + length (kinds a)) (kinds b)
  split v a b h = at_split v (kinds a) (kinds b) (subst (At v) (kinds_append a b) h)

  switch_split : (b : Bool) (k : IntKind) (n : ℕ) (d l : Bool) (cs : List Construct) (v : ℕ) →
      At v (kinds (cond b (c.Scattered k n d l) c.Stays ∷ cs)) → IfTrue b (IsVariable s v k) × At (v + cond b 1 0) (kinds cs)
  switch_split true k n d l cs v h = (h.0, (let e : suc v ≡ v + 1 = omega arith in subst (λ w. At w (kinds cs)) e h.1))
  switch_split false k n d l cs v h = (tt, (let e : v ≡ v + 0 = omega arith in subst (λ w. At w (kinds cs)) e h))

  mutual
    have : (h : Here) (v : ℕ) (a : Forest) → h.variable ≡ v → At v (kinds (constructs a)) → HaveVariables s h a
    have h v Nil e i = tt
    have h v (Then x a) e i =
        let j = split v (constructs_in x) (constructs a) i in
        let n = counted_in x in
        (has h v x e j.0, have (past_item x h) (v + length (kinds (constructs_in x))) a (omega (arith, e, n)) j.1)

    has : (h : Here) (v : ℕ) (x : Tree) → h.variable ≡ v → At v (kinds (constructs_in x)) → HasVariables s h x
    has h v (If t a b) e i =
        let j = split v (constructs a) (constructs b) i in
        let n = counted a in
        (have h v a e j.0, have (past a h) (v + length (kinds (constructs a))) b (omega (arith, e, n)) j.1)
    has h v (While t a) e i = have (inside (While t a) h) v a (omega (arith, e)) i
    has h v (Do a t) e i = have (inside (Do a t) h) v a (omega (arith, e)) i
    has h v (For first t u a) e i =
        let j = split v (constructs first) (constructs a) i in
        let n = counted first in
        let s = inside (For first t u a) h in
        (have s v first (omega (arith, e)) j.0, have (past first s) (v + length (kinds (constructs first))) a (omega (arith, e, n)) j.1)
    has h v (Block a) e i = have h v a e i
    has h v (Switch t d) e i =
        let j = switch_split (is_scattered d) (switch_kind t) (length (cases_among (switch_labels d))) (has_default (switch_labels d)) (leaves d)
        (constructs_among d) v i in (
          subst (λ w. IfTrue (is_scattered d) (IsVariable s w (switch_kind t))) (sym e) j.0,
          have_among (inside (Switch t d) h) (v + cond (is_scattered d) 1 0) d (omega (arith, e)) j.1,
        )
    has h v (Evaluate x) e i = tt
    has h v _ e i = tt

    have_among : (h : Here) (v : ℕ) (d : Sections) → h.variable ≡ v → At v (kinds (constructs_among d)) → HaveVariablesAmong s h d
    have_among h v NoSection e i = tt
    have_among h v (Section cases default a ends d) e i =
        let j = split v (constructs a) (constructs_among d) i in
        let n = counted a in
        (have h v a e j.0, have_among (past a h) (v + length (kinds (constructs a))) d (omega (arith, e, n)) j.1)

  entry_at : (olds : List Slot) (t : Slot) (more : List Slot) → entry_or no_slot (olds ++ t ∷ more) (length olds) ≡ t
  entry_at [] t more = refl
  entry_at (x ∷ olds) t more = entry_at olds t more

  at_numbers : (olds vs : List Slot) (ks : List IntKind) → AreNumbers ks vs → s.new ≡ olds ++ vs → s.params ≤ length olds →
      length s.old ≤ length olds → At (length olds) ks
  at_numbers olds vs [] h e p o = tt
  at_numbers olds [] (k ∷ ks) h e p o = absurd h
  at_numbers olds (t ∷ vs) (k ∷ ks) h e p o =
      let there : entry_or no_slot s.new (length olds) ≡ t = ap (λ z. entry_or no_slot z (length olds)) e ∙ entry_at olds t vs in
      let n : length (olds ++ t ∷ []) ≡ suc (length olds) = (let l = length-append olds (t ∷ []) in omega (arith, l)) in (
        record { new = (p, o); cells = ap (λ (r : Slot). r.cells) there ∙ h.1; kind = ap (λ (r : Slot). r.kind) there ∙ h.0 },
        subst (λ w. At w ks) n (at_numbers (olds ++ t ∷ []) vs ks h.3 (e ∙ sym (append_assoc olds (t ∷ []) vs)) (omega (arith, p, n)) (omega (arith, o, n))),
      )

-- ---- block variables

pub named_kind : (b : Bool) (taken used : List (List ℕ)) (s : Slot) → (s.kind ≡ (slot_named b taken used s).kind) × (s.cells ≡ (slot_named b taken used s).cells)
named_kind true taken used s = (refl, refl)
named_kind false taken used s = (refl, refl)

only_numbers : (ks : List IntKind) (vs : List Slot) → AreNumbers ks vs → ExtendSlots [] vs
only_numbers [] [] h = tt
only_numbers [] (v ∷ vs) h = absurd h
only_numbers (k ∷ ks) [] h = absurd h
only_numbers (k ∷ ks) (v ∷ vs) h = (h.1, only_numbers ks vs h.3)

no_constants : (ks : List IntKind) (vs : List Slot) → AreNumbers ks vs → AllByRecursion (λ (s : Slot). s.constant ≡ false) vs
no_constants [] [] h = tt
no_constants [] (v ∷ vs) h = absurd h
no_constants (k ∷ ks) [] h = absurd h
no_constants (k ∷ ks) (v ∷ vs) h = (h.2, no_constants ks vs h.3)

module _ (vs : List Slot) (ks : List IntKind) (numbers : AreNumbers ks vs) where
  extended : (n : ℕ) (taken used : List (List ℕ)) (ss : List Slot) → ExtendSlots ss ((named_slots n taken used ss).slots ++ vs)
  extended n taken used [] = only_numbers ks vs numbers
  extended n taken used (s ∷ ss) =
      let b = nat_lt 0 n in
      let e = named_kind b taken used s in
      (e.0, e.1, extended (n - 1) (slot_taken b taken used s) (slot_used b taken used s) ss)

  all_free : (n : ℕ) (taken used : List (List ℕ)) (ss : List Slot) → n ≡ 0 →
      AllByRecursion (λ (s : Slot). s.constant ≡ false) ((named_slots n taken used ss).slots ++ vs)
  all_free n taken used [] e = no_constants ks vs numbers
  all_free n taken used (s ∷ ss) e =
      let b = nat_lt 0 n in
      let f : b ≡ false = le-ltb 0 n (omega (arith, e)) in
      (ap (λ z. (slot_named z taken used s).constant) f, all_free (n - 1) (slot_taken b taken used s) (slot_used b taken used s) ss (omega (arith, e)))

  free_behind : (n : ℕ) (taken used : List (List ℕ)) (ss : List Slot) → n ≤ length ss →
      AllByRecursion (λ (s : Slot). s.constant ≡ false) (drop n ((named_slots n taken used ss).slots ++ vs))
  free_behind zero taken used ss h = all_free 0 taken used ss refl
  free_behind (suc n) taken used [] h = absurd (omega (arith, h))
  free_behind (suc n) taken used (s ∷ ss) h =
      let b = nat_lt 0 (suc n) in
      let e : suc n - 1 ≡ n = omega arith in
      subst (λ m. AllByRecursion (λ (r : Slot). r.constant ≡ false)
      (drop n ((named_slots m (slot_taken b taken used s) (slot_used b taken used s) ss).slots ++ vs))) (sym e)
      (free_behind n (slot_taken b taken used s) (slot_used b taken used s) ss (omega (arith, h)))

  pub first_same : (n : ℕ) (taken used : List (List ℕ)) (ss : List Slot) → n ≤ length ss → take n ((named_slots n taken used ss).slots ++ vs) ≡ take n ss
  first_same zero taken used ss h = refl
  first_same (suc n) taken used [] h = absurd (omega (arith, h))
  first_same (suc n) taken used (s ∷ ss) h =
      let b = nat_lt 0 (suc n) in
      let f : b ≡ true = lt-ltb 0 (suc n) (omega arith) in
      let e : suc n - 1 ≡ n = omega arith in
      let rest = subst (λ m. take n ((named_slots m (slot_taken b taken used s) (slot_used b taken used s) ss).slots ++ vs) ≡ take n ss) (sym e)
      (first_same n (slot_taken b taken used s) (slot_used b taken used s) ss (omega (arith, h))) in
      ap (λ z. slot_named z taken used s ∷ take n ((named_slots (suc n - 1) (slot_taken b taken used s) (slot_used b taken used s) ss).slots ++ vs))
      f ∙ ap (λ l. s ∷ l) rest

pub named_length : (n : ℕ) (taken used : List (List ℕ)) (ss : List Slot) → length (named_slots n taken used ss).slots ≡ length ss
named_length n taken used [] = refl
named_length n taken used (s ∷ ss) = let b = nat_lt 0 n in ap suc (named_length (n - 1) (slot_taken b taken used s) (slot_used b taken used s) ss)

labels_length : (labels : List (List ℕ)) (m : Made) (used : List (List ℕ)) (cs : List ℕ) → length (label_names labels m used cs) ≡ length cs
labels_length labels m used [] = refl
labels_length labels m used (x ∷ cs) = ap suc (labels_length labels m (used_then (naming labels m (label_of (length labels) x)) used) cs)

-- ---- the whole

pub forms : FlatNamesMakeForms
forms used taken f old new there params trees =
    let body = trees_of old in
    let none = none_given used in
    let g = name_constructs 1 (constructs body) none in
    let named = named_slots f.params taken g.used f.slots in
    let ks = kinds (constructs body) in
    let numbers : AreNumbers ks g.variables = numbers_named 1 (constructs body) none [] tt in
    let flat = named_beside used taken f old new in
    let l = named_length f.params taken g.used f.slots in
    let n = counted body in
    let k = numbers_length ks g.variables numbers in
    let a = length-append named.slots g.variables in
    let at = at_numbers (setting f flat) named.slots g.variables ks numbers refl (omega (arith, params, l)) (omega (arith, l)) in
    record {
      old = old;
      new = new;
      old_body = there;
      new_body = refl;
      trees = trees;
      flat = refl;
      name = refl;
      result = refl;
      params = refl;
      file_only = refl;
      parameters = first_same g.variables ks numbers f.params taken g.used f.slots params;
      constants = free_behind g.variables ks numbers f.params taken g.used f.slots params;
      slots = extended g.variables ks numbers f.params taken g.used f.slots;
      more_slots = omega (arith, l, n, k, a);
      variables = have (setting f flat) (first_here (length f.slots)) (length named.slots) body (sym l) at;
      labels = labels_length f.labels g.made named.used (label_codes f body);
    }

-- ---- what a function is flattened to

module _ (used taken : List (List ℕ)) (f g : Function) (unflat : f.flat ≡ false) (params : f.params ≤ length f.slots) where
  by_body : (o : Option (List Item)) → f.body ≡ o → (form : Form) → IsFormBeside used taken (record f { body = o }) form → g ≡ applied form f →
      FlatTop (T.Function f) (T.Function g)
  by_body None e form i w = subst (λ k. FlatTop (T.Function f) (T.Function k)) (sym (w ∙ ap (λ m. applied m f) i)) (ft_declared f e)
  by_body (Some body) e Same i w = absurd i
  by_body (Some body) e (Calm new) i w =
      let form : IsUnlabelledForm f (applied (Calm new) f) = record {
        old = body;
        new = new;
        old_body = e;
        new_body = refl;
        trees = i.1;
        flat = unflat;
        name = refl;
        result = refl;
        params = refl;
        file_only = refl;
        slots = refl;
        labels = refl;
      } in
      ft_unlabelled (ap has_jumps (body_is f body e) ∙ i.0) (subst (IsUnlabelledForm f) (sym w) form)
  by_body (Some body) e (Flat m) i w =
      let whole : g ≡ named_beside used taken f body m.body = w ∙
      ap (λ (n : FlatNames). record f { slots = n.slots; labels = n.labels; body = Some m.body; flat = true }) i.2 in
      ft_flat (ap has_jumps (body_is f body e) ∙ i.0) (subst (IsFlatForm f) (sym whole) (forms used taken f body m.body e params i.1))

pub flattened : FlattenedAreForms
flattened used taken f g unflat params h = by_body used taken f g unflat params f.body refl h.form h.is h.whole
