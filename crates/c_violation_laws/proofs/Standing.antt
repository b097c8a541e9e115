-- A walk stands at a place: the names are the same there, and it has as many slots as variables are declared before.
use Rattle.std.proofs.Common.{◌≡◌, ◌≤◌, ℕ, ◌+◌, List, [], ◌∷◌, ◌++◌, map, length, length-append, Option, Some, None, refl, ap, sym, subst, ◌∙◌, arith, add-zero, add_assoc, append_assoc, append-nil}
use Rattle.c_grammar.specs.Items.{Declarator, Label, Named, Case, Default, Start, NoStart, StartValue, StartNames, Item, Declares, States, Plain, From, Statement, If, IfElse, While, DoWhile, For, Switch, Block, Body, Braces, Lone, Items, NoItem, Then}
use Rattle.c_grammar.specs.Terms.{Term, first_of}
use Rattle.c_kinds.specs.declared.binding.Binding.TheVariants.{Local}
use Rattle.c_statements.specs.declared.extents.Kinded.{Kinded}
use Rattle.c_statements.specs.Context.{Context, Walk, enter}
use Rattle.c_statements.specs.Declarations.{kinded, shape_of, slot_of, declared, all_declared}
use Rattle.c_statements.specs.Statements.{behind_start as start_walked, behind_item, behind_plain, behind_statement, behind_body, behind_items}
use Rattle.c_reading_defs.specs.Labels.{InFunction}
use Rattle.c_reading_defs.specs.Variables.{name_tokens, start_variables, item_variables, plain_variables, statement_variables, body_variables, list_variables, variable_number}
use Rattle.c_reading_defs.specs.Scopes.{Identifier, scopes_at}
use Rattle.c_reading_defs.specs.Places.{Place, variable, item_identifiers, list_identifiers, start_identifiers, within, within_for, within_loop, within_switch}
pub use Rattle.c_violation_laws.proofs.Scopes.{AreMaps}
use Rattle.c_violation_laws.proofs.Rising.{Rising, rising_ends, wider, parted, Apart}
use Rattle.c_violation_laws.proofs.Known.{FromOn, from_earlier, from_both, Sees, InScope, scope_entered, scope_sees, scope_declared, scope_narrow, scope_same}
use Rattle.c_violation_laws.proofs.Marks.{each_marks, term_marks, option_marks, label_marks, value_marks, declarator_marks, start_marks, item_marks, body_marks, list_marks}

-- what is known in the function of a walk, with these labels and variables
abbrev pub in_function : Context → List (List ℕ) → List ℕ → InFunction
in_function c labels vs = record { word = c.word; notes = c.notes; labels = labels; variables = vs; result = c.result }

-- of these variables of the function the last ones, `rest`, are declared from here on
pub record Numbered (vs : List ℕ) (w : Walk) (rest : List ℕ) : Type 0 where
  pub front : List ℕ
  pub split : vs ≡ front ++ rest
  pub count : length w.slots ≡ length front

-- before a statement or another construct of these tokens: each of them has the names of the walk
pub record Stands (vs : List ℕ) (w : Walk) (p : Place) (marks rest : List ℕ) : Type 0 where
  pub lo : ℕ
  pub hi : ℕ
  pub sees : Sees w.scopes p.scopes lo hi
  pub order : Rising lo marks hi
  pub numbered : Numbered vs w rest

-- in a list, before what declares `xs` in the nearest scope, by these tokens; others are declared behind it
pub record StandsIn (vs : List ℕ) (w : Walk) (p : Place) (xs : List Identifier) (marks rest : List ℕ) : Type 0 where
  pub lo : ℕ
  pub end : ℕ
  pub hi : ℕ
  pub later : List Identifier
  pub inner : InScope w.scopes p.scopes lo hi (xs ++ later)
  pub order : Rising lo marks end
  pub room : end ≤ hi
  pub beyond : FromOn end later
  pub numbered : Numbered vs w rest

-- ---- numbers

pub numbered_grouped : (vs : List ℕ) (w : Walk) (xs ys zs : List ℕ) → Numbered vs w ((xs ++ ys) ++ zs) → Numbered vs w (xs ++ (ys ++ zs))
numbered_grouped vs w xs ys zs h = record { front = h.front; split = h.split ∙ ap (λ l. h.front ++ l) (append_assoc xs ys zs); count = h.count }

pub numbered_last : (vs : List ℕ) (w : Walk) (rest : List ℕ) → Numbered vs w rest → Numbered vs w (rest ++ [])
numbered_last vs w rest h = subst (λ l. Numbered vs w l) (sym (append-nil rest)) h

one_more : {A : Type 0} (xs : List A) (x : A) → length (xs ++ x ∷ []) ≡ length xs + 1
one_more xs x = length-append xs (x ∷ [])

pub numbered_next : (vs : List ℕ) (w v : Walk) (x : ℕ) (rest : List ℕ) → Numbered vs w (x ∷ rest) → length v.slots ≡ length w.slots + 1 → Numbered vs v rest
numbered_next vs w v x rest h e = record {
  front = h.front ++ x ∷ [];
  split = h.split ∙ sym (append_assoc h.front (x ∷ []) rest);
  count = e ∙ ap (λ n. n + 1) h.count ∙ sym (one_more h.front x);
}

numbered_past : (vs : List ℕ) (w v : Walk) (ours rest : List ℕ) → Numbered vs w (ours ++ rest) → length v.slots ≡ length w.slots + length ours →
    Numbered vs v rest
numbered_past vs w v ours rest h e = record {
  front = h.front ++ ours;
  split = h.split ∙ sym (append_assoc h.front ours rest);
  count = e ∙ ap (λ i. i + length ours) h.count ∙ sym (length-append h.front ours);
}

pub number_here : (vs : List ℕ) → Apart vs → (x : ℕ) (w : Walk) (rest : List ℕ) → Numbered vs w (x ∷ rest) → length w.slots ≡ variable_number vs x
number_here vs apart x w rest h = h.count ∙ sym (apart h.front x rest h.split)

-- ---- parts of a construct

module _ (vs : List ℕ) (w : Walk) (p : Place) where
  pub stands_at : (t : Term) (ms rest : List ℕ) → Stands vs w p (term_marks t ++ ms) rest → AreMaps w.scopes (scopes_at p.scopes (first_of t))
  stands_at t ms rest h = h.sees (first_of t) h.order.0 (rising_ends (first_of t) ms h.hi h.order.1)

  pub stands_first : (ms ns vars rest : List ℕ) → Stands vs w p (ms ++ ns) rest → Numbered vs w vars → Stands vs w p ms vars
  stands_first ms ns vars rest h n =
      let s = parted h.lo ms ns h.hi h.order in
      record { lo = h.lo; hi = h.hi; sees = h.sees; order = wider h.lo h.lo ms s.0 h.hi (omega arith) (rising_ends s.0 ns h.hi s.2) s.1; numbered = n }

  pub stands_behind : (ms ns rest : List ℕ) → Stands vs w p (ms ++ ns) rest → Stands vs w p ns rest
  stands_behind ms ns rest h =
      let s = parted h.lo ms ns h.hi h.order in
      record { lo = h.lo; hi = h.hi; sees = h.sees; order = wider h.lo s.0 ns h.hi h.hi (rising_ends h.lo ms s.0 s.1) (omega arith) s.2; numbered = h.numbered }

  pub stands_before : (ms ns rest : List ℕ) → Stands vs w p (ms ++ ns) rest → Stands vs w p ms rest
  stands_before ms ns rest h = stands_first ms ns rest rest h h.numbered

  pub stands_in_loop : (ms rest : List ℕ) → Stands vs w p ms rest → Stands vs w (within_loop p) ms rest
  stands_in_loop ms rest h = record { lo = h.lo; hi = h.hi; sees = h.sees; order = h.order; numbered = h.numbered }

  pub stands_in_switch : (ms rest : List ℕ) → Stands vs w p ms rest → Stands vs w (within_switch p) ms rest
  stands_in_switch ms rest h = record { lo = h.lo; hi = h.hi; sees = h.sees; order = h.order; numbered = h.numbered }

  -- in a list, before a statement
  pub stands_stated : (ms rest : List ℕ) → StandsIn vs w p [] ms rest → Stands vs w p ms rest
  stands_stated ms rest h = record {
    lo = h.lo;
    hi = h.end;
    sees = scope_sees w.scopes p.scopes h.lo h.hi h.end h.later h.inner h.room h.beyond;
    order = h.order;
    numbered = h.numbered;
  }

-- ---- the constants of labels, and expressions that may be left out

abbrev pub LabelSees : Walk → Place → Label → Type 0
LabelSees w p (Case at after t) = AreMaps w.scopes (scopes_at p.scopes (first_of t))
LabelSees w p _ = Unit {0}

abbrev pub LabelsSee : Walk → Place → List Label → Type 0
LabelsSee w p [] = Unit {0}
LabelsSee w p (l ∷ ls) = LabelSees w p l × LabelsSee w p ls

label_sees : (w : Walk) (p : Place) (lo hi : ℕ) (l : Label) → Sees w.scopes p.scopes lo hi → Rising lo (label_marks l) hi → LabelSees w p l
label_sees w p lo hi (Named at after) s r = tt
label_sees w p lo hi (Case at after t) s r = s (first_of t) r.0 r.1
label_sees w p lo hi (Default at after) s r = tt

labels_sees : (w : Walk) (p : Place) (lo hi : ℕ) (ls : List Label) → Sees w.scopes p.scopes lo hi → Rising lo (each_marks label_marks ls) hi → LabelsSee w p ls
labels_sees w p lo hi [] s r = tt
labels_sees w p lo hi (l ∷ ls) s r =
    let q = parted lo (label_marks l) (each_marks label_marks ls) hi r in
    let less = rising_ends lo (label_marks l) q.0 q.1 in
    let more = rising_ends q.0 (each_marks label_marks ls) hi q.2 in (
      label_sees w p lo hi l s (wider lo lo (label_marks l) q.0 hi (omega arith) more q.1),
      labels_sees w p lo hi ls s (wider lo q.0 (each_marks label_marks ls) hi hi less (omega arith) q.2),
    )

pub labels_see : (vs : List ℕ) (w : Walk) (p : Place) (ls : List Label) (ms rest : List ℕ) → Stands vs w p (each_marks label_marks ls ++ ms) rest →
    LabelsSee w p ls
labels_see vs w p ls ms rest h = let g = stands_before vs w p (each_marks label_marks ls) ms rest h in labels_sees w p g.lo g.hi ls g.sees g.order

abbrev pub OptionSees : Walk → Place → Option Term → Type 0
OptionSees w p (Some t) = AreMaps w.scopes (scopes_at p.scopes (first_of t))
OptionSees w p None = Unit {0}

pub option_sees : (vs : List ℕ) (w : Walk) (p : Place) (o : Option Term) (rest : List ℕ) → Stands vs w p (option_marks o) rest → OptionSees w p o
option_sees vs w p (Some t) rest h = stands_at vs w p t [] rest h
option_sees vs w p None rest h = tt

-- ---- what is declared behind a token

declared_from : (f : InFunction) (k : Kinded) (lo : ℕ) (ds : List Declarator) (hi : ℕ) → Rising lo (each_marks declarator_marks ds) hi →
    FromOn lo (map (variable f k) ds)
declared_from f k lo [] hi r = tt
declared_from f k lo (d ∷ ds) hi r =
    let s = parted lo (declarator_marks d) (each_marks declarator_marks ds) hi r in
    (s.1.0, from_earlier lo s.0 (map (variable f k) ds) (rising_ends lo (declarator_marks d) s.0 s.1) (declared_from f k s.0 ds hi s.2))

own_from : (f : InFunction) (lo : ℕ) (x : Item) (hi : ℕ) → Rising lo (item_marks x) hi → FromOn lo (item_identifiers f x)
own_from f lo (Declares first after d) hi r = declared_from f (kinded f.word d) lo d.names hi r
own_from f lo (States ls s) hi r = tt

pub list_from : (f : InFunction) (lo : ℕ) (xs : Items) (hi : ℕ) → Rising lo (list_marks xs) hi → FromOn lo (list_identifiers f xs)
list_from f lo NoItem hi r = tt
list_from f lo (Then x xs) hi r =
    let s = parted lo (item_marks x) (list_marks xs) hi r in
    from_both lo (item_identifiers f x) (list_identifiers f xs) (own_from f lo x s.0 s.1)
    (from_earlier lo s.0 (list_identifiers f xs) (rising_ends lo (item_marks x) s.0 s.1) (list_from f s.0 xs hi s.2))

-- ---- into a list

module _ (f : InFunction) (vs : List ℕ) (w : Walk) (p : Place) where
  entered : (s : List Identifier) (lo end hi : ℕ) (ms rest : List ℕ) → Sees w.scopes p.scopes lo hi → Rising lo ms end → end ≤ hi → Numbered vs w rest
      → StandsIn vs (enter w) (record { scopes = s ∷ p.scopes; around = p.around }) s ms rest
  entered s lo end hi ms rest sees order room n = record {
    lo = lo;
    end = end;
    hi = hi;
    later = [];
    inner = subst (λ l. InScope ([] ∷ w.scopes) (s ∷ p.scopes) lo hi l) (sym (append-nil s)) (scope_entered w.scopes s p.scopes lo hi sees);
    order = order;
    room = room;
    beyond = tt;
    numbered = record { front = n.front; split = n.split; count = n.count };
  }

  pub stands_braces : (first after : ℕ) (xs : Items) (rest : List ℕ) → Stands vs w p (list_marks xs) rest →
      StandsIn vs (enter w) (within f (Braces first after xs) p) (list_identifiers f xs) (list_marks xs) rest
  stands_braces first after xs rest h = entered (list_identifiers f xs) h.lo h.hi h.hi (list_marks xs) rest h.sees h.order (omega arith) h.numbered

  pub stands_lone : (first after : ℕ) (x : Item) (rest : List ℕ) → Stands vs w p (item_marks x) rest →
      StandsIn vs (enter w) (within f (Lone first after x) p) (item_identifiers f x) (item_marks x) rest
  stands_lone first after x rest h = record {
    lo = h.lo;
    end = h.hi;
    hi = h.hi;
    later = [];
    inner = scope_entered w.scopes (list_identifiers f (Then x NoItem)) p.scopes h.lo h.hi h.sees;
    order = h.order;
    room = omega arith;
    beyond = tt;
    numbered = record { front = h.numbered.front; split = h.numbered.split; count = h.numbered.count };
  }

  -- the first part of a `for`
  pub stands_for : (start : Start) (ms more rest : List ℕ) → Stands vs w p (start_marks start ++ ms) ((start_variables start ++ more) ++ rest)
      → StandsIn vs (enter w) (within_for f start p) (start_identifiers f start) (start_marks start) (start_variables start ++ (more ++ rest))
  stands_for start ms more rest h =
      let s = parted h.lo (start_marks start) ms h.hi h.order in
      entered (start_identifiers f start) h.lo s.0 h.hi (start_marks start) (start_variables start ++ (more ++ rest)) h.sees s.1 (rising_ends s.0 ms h.hi s.2)
      (numbered_grouped vs w (start_variables start) more rest h.numbered)

-- ---- in a list: what stands first, and the rest

module _ (vs : List ℕ) (w : Walk) (p : Place) where
  pub stands_begin : (xs ys : List Identifier) (ms ns vars more rest : List ℕ) → StandsIn vs w p (xs ++ ys) (ms ++ ns) ((vars ++ more) ++ rest) →
      ((mid hi : ℕ) → Rising mid ns hi → FromOn mid ys)
      → StandsIn vs w p xs ms (vars ++ (more ++ rest))
  stands_begin xs ys ms ns vars more rest h from =
      let s = parted h.lo ms ns h.end h.order in
      let l = rising_ends s.0 ns h.end s.2 in
      let g = h.room in
      record {
        lo = h.lo;
        end = s.0;
        hi = h.hi;
        later = ys ++ h.later;
        inner = subst (λ z. InScope w.scopes p.scopes h.lo h.hi z) (append_assoc xs ys h.later) h.inner;
        order = s.1;
        room = omega (arith, l, g);
        beyond = from_both s.0 ys h.later (from s.0 h.end s.2) (from_earlier s.0 h.end h.later l h.beyond);
        numbered = numbered_grouped vs w vars more rest h.numbered;
      }

-- ---- declarators

module _ (f : InFunction) (apart : Apart f.variables) (k : Kinded) where
  -- behind one
  name_past : (d : Declarator) (w : Walk) (ss : List (List Identifier)) (lo hi : ℕ) (zs : List Identifier) (rest : List ℕ) →
      InScope w.scopes ss lo hi (variable f k d ∷ zs) → lo ≤ d.name → Numbered f.variables w (d.name ∷ rest)
      → InScope (declared f.word k d w).scopes ss (d.name + 1) hi zs × Numbered f.variables (declared f.word k d w) rest
  name_past d w ss lo hi zs rest h l n = (
    scope_declared w.scopes ss lo hi (Local (length w.slots) (shape_of k d)) (variable f k d) zs h l
        (ap (λ i. Local i (shape_of k d)) (number_here f.variables apart d.name w rest n)),
    numbered_next f.variables w (declared f.word k d w) d.name rest n (one_more w.slots _),
  )

  -- behind all of them
  pub names_past : (ds : List Declarator) (w : Walk) (ss : List (List Identifier)) (lo mid hi : ℕ) (zs : List Identifier) (rest : List ℕ) →
      InScope w.scopes ss lo hi (map (variable f k) ds ++ zs)
      → Rising lo (each_marks declarator_marks ds) mid → Numbered f.variables w (name_tokens ds ++ rest)
      → InScope (all_declared f.word k ds w).scopes ss mid hi zs × Numbered f.variables (all_declared f.word k ds w) rest
  names_past [] w ss lo mid hi zs rest h r n = (scope_narrow w.scopes ss lo hi mid hi zs h r (omega arith), n)
  names_past (d ∷ ds) w ss lo mid hi zs rest h r n =
      let s = parted lo (declarator_marks d) (each_marks declarator_marks ds) mid r in
      let v = declared f.word k d w in
      let g = name_past d w ss lo hi (map (variable f k) ds ++ zs) (name_tokens ds ++ rest) h s.1.0 n in
      let l = rising_ends (d.name + 1) (value_marks d.value) s.0 s.1.1.1 in
      names_past ds v ss s.0 mid hi zs rest (scope_narrow v.scopes ss (d.name + 1) hi s.0 hi (map (variable f k) ds ++ zs) g.0 l (omega arith)) s.2 g.1

  module _ (d : Declarator) (ds : List Declarator) (w : Walk) (p : Place) (rest : List ℕ)
      (h : StandsIn f.variables w p (map (variable f k) (d ∷ ds)) (each_marks declarator_marks (d ∷ ds)) (name_tokens (d ∷ ds) ++ rest)) where
    abbrev next : List Identifier
    next = map (variable f k) ds

    -- at its name
    pub stands_name_here : AreMaps w.scopes (scopes_at p.scopes d.name)
    stands_name_here =
        let s = parted h.lo (declarator_marks d) (each_marks declarator_marks ds) h.end h.order in
        let first = s.1.0 in
        let less = rising_ends (d.name + 1) (value_marks d.value) s.0 s.1.1.1 in
        let last = rising_ends s.0 (each_marks declarator_marks ds) h.end s.2 in
        let room = h.room in
        scope_sees w.scopes p.scopes h.lo h.hi d.name (variable f k d ∷ (next ++ h.later)) h.inner (omega (arith, less, last, room)) (
          omega arith,
          from_both d.name next h.later (from_earlier d.name s.0 next (omega (arith, less)) (declared_from f k s.0 ds h.end s.2))
              (from_earlier d.name h.end h.later (omega (arith, less, last)) h.beyond),
        )
        d.name first (omega arith)

    behind : InScope (declared f.word k d w).scopes p.scopes (d.name + 1) h.hi (next ++ h.later) ×
        Numbered f.variables (declared f.word k d w) (name_tokens ds ++ rest)
    behind = name_past d w p.scopes h.lo h.hi (next ++ h.later) (name_tokens ds ++ rest) h.inner h.order.0 h.numbered

    pub stands_values : Stands f.variables (declared f.word k d w) p (value_marks d.value) (name_tokens ds ++ rest)
    stands_values =
        let s = parted h.lo (declarator_marks d) (each_marks declarator_marks ds) h.end h.order in
        let last = rising_ends s.0 (each_marks declarator_marks ds) h.end s.2 in
        let room = h.room in
        record {
          lo = d.name + 1;
          hi = s.0;
          sees = scope_sees (declared f.word k d w).scopes p.scopes (d.name + 1) h.hi s.0 (next ++ h.later) behind.0 (omega (arith, last, room))
              (from_both s.0 next h.later (declared_from f k s.0 ds h.end s.2) (from_earlier s.0 h.end h.later last h.beyond));
          order = s.1.1.1;
          numbered = behind.1;
        }

    pub stands_name : StandsIn f.variables (declared f.word k d w) p next (each_marks declarator_marks ds) (name_tokens ds ++ rest)
    stands_name =
        let s = parted h.lo (declarator_marks d) (each_marks declarator_marks ds) h.end h.order in
        record {
          lo = s.0;
          end = h.end;
          hi = h.hi;
          later = h.later;
          inner = scope_narrow (declared f.word k d w).scopes p.scopes (d.name + 1) h.hi s.0 h.hi (next ++ h.later) behind.0
              (rising_ends (d.name + 1) (value_marks d.value) s.0 s.1.1.1) (omega arith);
          order = s.2;
          room = h.room;
          beyond = h.beyond;
          numbered = behind.1;
        }

-- ---- how many slots are more behind a statement

-- some more, and then some more
in_turn : (a b : ℕ) (xs ys : List ℕ) {c : ℕ} → b ≡ a + length xs → c ≡ b + length ys → c ≡ a + length (xs ++ ys)
in_turn a b xs ys e f = f ∙ ap (λ z. z + length ys) e ∙ add_assoc a (length xs) (length ys) ∙ ap (λ z. a + z) (sym (length-append xs ys))

module _ (ctx : Context) where
  names_count : (k : Kinded) (ds : List Declarator) (w : Walk) → length (all_declared ctx.word k ds w).slots ≡ length w.slots + length (name_tokens ds)
  names_count k [] w = sym (add-zero (length w.slots))
  names_count k (d ∷ ds) w =
      let e = names_count k ds (declared ctx.word k d w) in
      let f = one_more w.slots (slot_of (record { word = ctx.word; scopes = w.scopes }) k d) in
      omega arith

  start_count : (s : Start) (w : Walk) → length (start_walked ctx s w).slots ≡ length w.slots + length (start_variables s)
  start_count NoStart w = sym (add-zero (length w.slots))
  start_count (StartValue t) w = sym (add-zero (length w.slots))
  start_count (StartNames d) w = names_count (kinded ctx.word d) d.names w

  mutual
    item_count : (x : Item) (w : Walk) → length (behind_item ctx x w).slots ≡ length w.slots + length (item_variables x)
    item_count (Declares first after d) w = names_count (kinded ctx.word d) d.names w
    item_count (States ls s) w = plain_count s w

    plain_count : (s : Plain) (w : Walk) → length (behind_plain ctx s w).slots ≡ length w.slots + length (plain_variables s)
    plain_count (From first after s) w = statement_count s w

    statement_count : (s : Statement) (w : Walk) → length (behind_statement ctx s w).slots ≡ length w.slots + length (statement_variables s)
    statement_count (If t b) w = body_count b w
    statement_count (IfElse t b c) w =
        in_turn (length w.slots) (length (behind_body ctx b w).slots) (body_variables b) (body_variables c) (body_count b w)
        (body_count c (behind_body ctx b w))
    statement_count (While t b) w = body_count b w
    statement_count (DoWhile b t) w = body_count b w
    statement_count (For start t u b) w =
        let v = start_walked ctx start (enter w) in
        in_turn (length w.slots) (length v.slots) (start_variables start) (body_variables b) (start_count start (enter w)) (body_count b v)
    statement_count (Switch t b) w = body_count b w
    statement_count (Block b) w = body_count b w
    statement_count _ w = sym (add-zero (length w.slots))

    body_count : (b : Body) (w : Walk) → length (behind_body ctx b w).slots ≡ length w.slots + length (body_variables b)
    body_count (Braces first after xs) w = list_count xs (enter w)
    body_count (Lone first after x) w = item_count x (enter w)

    list_count : (xs : Items) (w : Walk) → length (behind_items ctx xs w).slots ≡ length w.slots + length (list_variables xs)
    list_count NoItem w = sym (add-zero (length w.slots))
    list_count (Then x xs) w =
        in_turn (length w.slots) (length (behind_item ctx x w).slots) (item_variables x) (list_variables xs) (item_count x w)
        (list_count xs (behind_item ctx x w))

-- the scopes are what they were
body_scopes : (ctx : Context) (b : Body) (w : Walk) → (behind_body ctx b w).scopes ≡ w.scopes
body_scopes ctx (Braces first after xs) w = refl
body_scopes ctx (Lone first after x) w = refl

statement_scopes : (ctx : Context) (s : Statement) (w : Walk) → (behind_statement ctx s w).scopes ≡ w.scopes
statement_scopes ctx (If t b) w = body_scopes ctx b w
statement_scopes ctx (IfElse t b c) w = body_scopes ctx c (behind_body ctx b w) ∙ body_scopes ctx b w
statement_scopes ctx (While t b) w = body_scopes ctx b w
statement_scopes ctx (DoWhile b t) w = body_scopes ctx b w
statement_scopes ctx (For start t u b) w = refl
statement_scopes ctx (Switch t b) w = body_scopes ctx b w
statement_scopes ctx (Block b) w = body_scopes ctx b w
statement_scopes ctx _ w = refl

plain_scopes : (ctx : Context) (s : Plain) (w : Walk) → (behind_plain ctx s w).scopes ≡ w.scopes
plain_scopes ctx (From first after s) w = statement_scopes ctx s w

-- ---- behind items

-- the scopes are the same, and these variables more are declared
past : (vs : List ℕ) (w v : Walk) (p : Place) (ms ns vars more rest : List ℕ) → Stands vs w p (ms ++ ns) ((vars ++ more) ++ rest) →
    v.scopes ≡ w.scopes → length v.slots ≡ length w.slots + length vars → Stands vs v p ns (more ++ rest)
past vs w v p ms ns vars more rest h e n =
    let g = stands_behind vs w p ms ns ((vars ++ more) ++ rest) h in
    record {
      lo = g.lo;
      hi = g.hi;
      sees = λ token l m. subst (λ z. AreMaps z (scopes_at p.scopes token)) (sym e) (g.sees token l m);
      order = g.order;
      numbered = numbered_past vs w v vars (more ++ rest) (numbered_grouped vs w vars more rest h.numbered) n;
    }

module _ (c : Context) (labels : List (List ℕ)) (vs : List ℕ) (apart : Apart vs) where
  abbrev f : InFunction
  f = in_function c labels vs

  -- behind a body, before these tokens
  pub stands_body : (b : Body) (w : Walk) (p : Place) (ns more rest : List ℕ) →
      Stands vs w p (body_marks b ++ ns) ((body_variables b ++ more) ++ rest) → Stands vs (behind_body c b w) p ns (more ++ rest)
  stands_body b w p ns more rest h = past vs w (behind_body c b w) p (body_marks b) ns (body_variables b) more rest h (body_scopes c b w) (body_count c b w)

  -- behind the first part of a `for`
  pub stands_start : (start : Start) (w : Walk) (p : Place) (ns more rest : List ℕ) →
      Stands vs w p (start_marks start ++ ns) ((start_variables start ++ more) ++ rest)
      → Stands vs (start_walked c start (enter w)) (within_for f start p) ns (more ++ rest)
  stands_start start w p ns more rest h =
      let s = parted h.lo (start_marks start) ns h.hi h.order in
      let own = start_identifiers f start in
      let inner = subst (λ l. InScope ([] ∷ w.scopes) (own ∷ p.scopes) h.lo h.hi l) (sym (append-nil own))
      (scope_entered w.scopes own p.scopes h.lo h.hi h.sees) in
      let n = numbered_grouped vs w (start_variables start) more rest h.numbered in
      let k = start_past start (enter w) (within_for f start p).scopes h.lo s.0 h.hi [] (more ++ rest) inner s.1
      (record { front = n.front; split = n.split; count = n.count }) in
      record {
        lo = s.0;
        hi = h.hi;
        sees = scope_sees (start_walked c start (enter w)).scopes (within_for f start p).scopes s.0 h.hi h.hi [] k.0 (omega arith) tt;
        order = s.2;
        numbered = k.1;
      }
    where
      start_past : (start : Start) (w : Walk) (ss : List (List Identifier)) (lo mid hi : ℕ) (zs : List Identifier) (rest : List ℕ) →
          InScope w.scopes ss lo hi (start_identifiers f start ++ zs) → Rising lo (start_marks start) mid
          → Numbered vs w (start_variables start ++ rest) → InScope (start_walked c start w).scopes ss mid hi zs × Numbered vs (start_walked c start w) rest
      start_past NoStart w ss lo mid hi zs rest i r n = (scope_narrow w.scopes ss lo hi mid hi zs i r (omega arith), n)
      start_past (StartValue t) w ss lo mid hi zs rest i r n =
          (scope_narrow w.scopes ss lo hi mid hi zs i (rising_ends lo (term_marks t) mid r) (omega arith), n)
      start_past (StartNames d) w ss lo mid hi zs rest i r n = names_past f apart (kinded c.word d) d.names w ss lo mid hi zs rest i r n

  item_past : (x : Item) (w : Walk) (ss : List (List Identifier)) (lo mid hi : ℕ) (zs : List Identifier) (rest : List ℕ) →
      InScope w.scopes ss lo hi (item_identifiers f x ++ zs) → Rising lo (item_marks x) mid
      → Numbered vs w (item_variables x ++ rest) → InScope (behind_item c x w).scopes ss mid hi zs × Numbered vs (behind_item c x w) rest
  item_past (Declares first after d) w ss lo mid hi zs rest i r n = names_past f apart (kinded c.word d) d.names w ss lo mid hi zs rest i r n
  item_past (States ls s) w ss lo mid hi zs rest i r n = (
    scope_same w.scopes (behind_plain c s w).scopes ss mid hi zs (plain_scopes c s w)
        (scope_narrow w.scopes ss lo hi mid hi zs i (rising_ends lo (item_marks (States ls s)) mid r) (omega arith)),
    numbered_past vs w (behind_plain c s w) (plain_variables s) rest n (plain_count c s w),
  )

  -- before the first item, and behind it
  pub stands_item : (x : Item) (xs : Items) (w : Walk) (p : Place) (rest : List ℕ) →
      StandsIn vs w p (list_identifiers f (Then x xs)) (list_marks (Then x xs)) (list_variables (Then x xs) ++ rest)
      → StandsIn vs w p (item_identifiers f x) (item_marks x) (item_variables x ++ (list_variables xs ++ rest))
  stands_item x xs w p rest h =
      stands_begin vs w p (item_identifiers f x) (list_identifiers f xs) (item_marks x) (list_marks xs) (item_variables x) (list_variables xs) rest h
      (λ mid hi r. list_from f mid xs hi r)

  pub stands_rest : (x : Item) (xs : Items) (w : Walk) (p : Place) (rest : List ℕ) →
      StandsIn vs w p (list_identifiers f (Then x xs)) (list_marks (Then x xs)) (list_variables (Then x xs) ++ rest)
      → StandsIn vs (behind_item c x w) p (list_identifiers f xs) (list_marks xs) (list_variables xs ++ rest)
  stands_rest x xs w p rest h =
      let s = parted h.lo (item_marks x) (list_marks xs) h.end h.order in
      let zs = list_identifiers f xs ++ h.later in
      let inner = subst (λ z. InScope w.scopes p.scopes h.lo h.hi z) (append_assoc (item_identifiers f x) (list_identifiers f xs) h.later) h.inner in
      let k = item_past x w p.scopes h.lo s.0 h.hi zs (list_variables xs ++ rest) inner s.1
      (numbered_grouped vs w (item_variables x) (list_variables xs) rest h.numbered) in
      record { lo = s.0; end = h.end; hi = h.hi; later = h.later; inner = k.0; order = s.2; room = h.room; beyond = h.beyond; numbered = k.1 }
