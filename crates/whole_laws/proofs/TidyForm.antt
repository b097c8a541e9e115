-- A list without jumps, whose sections get their plain form, has the form of a source.
use Rattle.std.proofs.Common.{◌≡◌, ℕ, ◌+◌, ◌<◌, ◌≤◌, Bool, true, false, not, ◌&&◌, ◌||◌, cond, true≢false, List, [], ◌++◌, length, ◌⊎◌, inl, inr, slice_get, refl, sym, ap, subst, ◌∙◌, arith, length-append}
use Rattle.std.specs.Prelude.{IsTrue}
use Rattle.c_tree.specs.declared.tree.Slot.{Slot}
use Rattle.c_tree.specs.declared.tree.Function.{Function}
use Rattle.c_tree.specs.ExpressionTrees.{ExpressionTree}
use Rattle.c_tree.specs.Cases.{AllEntered, defaults}
use Rattle.c_tree.specs.Exits.{breaks, breaks_of, continues, continues_of, continues_in}
use Rattle.c_tree.specs.Trees.{Tree, Forest, Nil, Then, Sections, NoSection, Section, Evaluate, Return, If, While, Do, For, Switch, Block, Local, Break, Continue, Goto, Mark, Arm, Leap, Land, Arrival, Note}
use Rattle.c_tree.specs.Everywhere.{Everywhere, EverywhereOf, EverywhereIn}
use Rattle.c_tree.specs.TextItems.{is_empty}
use Rattle.flat_laws.specs.Parts.{is_scattered}
use Rattle.plain_laws.specs.Tidied.{last_break, without_last, give, tidy, tidy_item, tidy_sections}
use Rattle.plain_laws.proofs.PlainRange.{tidy_everywhere}
use Rattle.c_resolved_defs.specs.Form.{gathered, gathered_of, gathered_in, marked_label, AreAlike, IsFirstPart, ends_with_break, HasNoArrival, AreSections, HasNoLoose, IsNotLoose, HasSourceForm}
use Rattle.c_resolved_laws.proofs.Ranged.{the_some}
use Rattle.c_resolved_laws.proofs.SourceGiven.{none_loose}
use Rattle.whole_laws.proofs.Unlabelled.{IsPlainItem}

-- ---- facts of lists without jumps

tidy_plain_item : (x : Tree) → IsPlainItem x → IsPlainItem (tidy_item x)
tidy_plain_item (Goto l) h = absurd h
tidy_plain_item (Mark l) h = absurd h
tidy_plain_item (Arrival e) h = absurd h
tidy_plain_item (Evaluate e) h = tt
tidy_plain_item (Return e) h = tt
tidy_plain_item (If t a b) h = h
tidy_plain_item (While t a) h = h
tidy_plain_item (Do a t) h = h
tidy_plain_item (For first t u a) h = tt
tidy_plain_item (Switch s c) h = h
tidy_plain_item (Block a) h = tt
tidy_plain_item (Local x e) h = tt
tidy_plain_item Break h = tt
tidy_plain_item Continue h = tt
tidy_plain_item (Arm l e) h = absurd h
tidy_plain_item (Leap l) h = absurd h
tidy_plain_item (Land l) h = absurd h
tidy_plain_item (Note bs) h = tt

pub tidy_plain : (a : Forest) → Everywhere IsPlainItem a → Everywhere IsPlainItem (tidy a)
tidy_plain a h = tidy_everywhere IsPlainItem tidy_plain_item a h

no_arrival : (a : Forest) → Everywhere IsPlainItem a → HasNoArrival a
no_arrival Nil h = tt
no_arrival (Then (Arrival e) a) h = absurd h.0
no_arrival (Then x a) h = no_arrival a h.1

no_arrival_before : (a : Forest) → HasNoArrival a → HasNoArrival (without_last a)
no_arrival_before Nil h = tt
no_arrival_before (Then (Arrival e) a) h = absurd h
no_arrival_before (Then x Nil) h = tt
no_arrival_before (Then x (Then y a)) h = no_arrival_before (Then y a) h

mutual
  pub not_loose : (a : Forest) → Everywhere IsPlainItem a → HasNoLoose a
  not_loose Nil h = tt
  not_loose (Then x a) h = (not_loose_of x h.0, not_loose a h.1)

  not_loose_of : (x : Tree) → EverywhereOf IsPlainItem x → IsNotLoose x
  not_loose_of (If t a b) h = (not_loose a h.1, not_loose b h.2)
  not_loose_of (While t a) h = not_loose a h.1
  not_loose_of (Do a t) h = not_loose a h.1
  not_loose_of (For first t u a) h = not_loose a h.2
  not_loose_of (Block a) h = not_loose a h.1
  not_loose_of (Arrival e) h = absurd h
  not_loose_of x h = tt

pub unscattered : (c : Sections) → EverywhereIn IsPlainItem c → is_scattered c ≡ false
unscattered NoSection h = refl
unscattered (Section cases default a ends c) h = (λ i. not (is_empty (none_loose a (not_loose a h.0) i)) || unscattered c h.1 i)

no_more : (xs ys : List ℕ) → xs ≡ [] → ys ≡ [] → xs ++ ys ≡ []
no_more xs ys e f = subst (λ zs. zs ++ ys ≡ []) (sym e) f

mutual
  pub unmarked : (a : Forest) → Everywhere IsPlainItem a → gathered marked_label a ≡ []
  unmarked Nil h = refl
  unmarked (Then x a) h = no_more (gathered_of marked_label x) (gathered marked_label a) (unmarked_of x h.0) (unmarked a h.1)

  unmarked_of : (x : Tree) → EverywhereOf IsPlainItem x → gathered_of marked_label x ≡ []
  unmarked_of (If t a b) h = no_more (gathered marked_label a) (gathered marked_label b) (unmarked a h.1) (unmarked b h.2)
  unmarked_of (While t a) h = unmarked a h.1
  unmarked_of (Do a t) h = unmarked a h.1
  unmarked_of (For first t u a) h = no_more (gathered marked_label first) (gathered marked_label a) (unmarked first h.1) (unmarked a h.2)
  unmarked_of (Switch s c) h = unmarked_in c h.1
  unmarked_of (Block a) h = unmarked a h.1
  unmarked_of (Mark l) h = absurd h
  unmarked_of x h = refl

  unmarked_in : (c : Sections) → EverywhereIn IsPlainItem c → gathered_in marked_label c ≡ []
  unmarked_in NoSection h = refl
  unmarked_in (Section cases default a ends c) h = no_more (gathered marked_label a) (gathered_in marked_label c) (unmarked a h.0) (unmarked_in c h.1)

-- ---- the form of sections

pub ends_same : (a : Forest) → ends_with_break a ≡ last_break a
ends_same Nil = refl
ends_same (Then Break Nil) = refl
ends_same (Then Break (Then y a)) = ends_same (Then y a)
ends_same (Then x Nil) = refl
ends_same (Then x (Then y a)) = ends_same (Then y a)

ends_or : (ends b : Bool) → (not ends && b) ≡ false → b ≡ true → ends ≡ true
ends_or true b h e = refl
ends_or false b h e = absurd (true≢false (sym e ∙ h))

abbrev Entered : List ExpressionTree → Bool → Type 0
Entered cases default = (0 < length cases) ⊎ IsTrue default

entered_more : (cases more : List ExpressionTree) (default also : Bool) → Entered cases default → Entered (cases ++ more) (default || also)
entered_more cases more default also (inl h) = let e = length-append cases more in inl (omega (arith, h, e))
entered_more cases more true also (inr h) = inr h
entered_more cases more false also (inr h) = cc

give_sections : (cases : List ExpressionTree) (default : Bool) (a : Forest) (ends : Bool) (c : Sections) → Entered cases default →
    (ends_with_break a ≡ true → ends ≡ true) → HasNoArrival a → AreSections c → AreSections (give cases default a ends c)
give_sections cases default Nil false NoSection e b n r = (e, b, tt, tt, tt)
give_sections cases default Nil false (Section cases' default' d ends c) e b n r = (entered_more cases cases' default default' e, r.1, r.2, r.3, r.4)
give_sections cases default Nil true c e b n r = (e, b, tt, tt, r)
give_sections cases default (Then x a) ends c e b n r = (e, b, tt, n, r)

put_sections : (b : Bool) (cases : List ExpressionTree) (default : Bool) (a : Forest) (ends : Bool) (c : Sections) → (not ends && last_break a) ≡ b →
    Entered cases default → HasNoArrival a → AreSections c
    → AreSections (cond b (give cases default (without_last a) true c) (give cases default a ends c))
put_sections true cases default a ends c q e n r = give_sections cases default (without_last a) true c e (λ i. refl) (no_arrival_before a n) r
put_sections false cases default a ends c q e n r = give_sections cases default a ends c e (λ i. ends_or ends (last_break a) q (sym (ends_same a) ∙ i)) n r

pub sections_form : (c : Sections) → AllEntered c → EverywhereIn IsPlainItem c → AreSections (tidy_sections c)
sections_form NoSection e h = tt
sections_form (Section cases default a ends c) e h =
    put_sections (not ends && last_break (tidy a)) cases default (tidy a) ends (tidy_sections c) refl e.0 (no_arrival (tidy a) (tidy_plain a h.0))
    (sections_form c e.1 h.1)

-- ---- the form of items

alike_same : (ss : List Slot) (s : Slot) (a : Forest) → AreAlike ss s a → tidy a ≡ a
alike_same ss s Nil h = refl
alike_same ss s (Then (Local k given) a) h = ap (Then (Local k given)) (alike_same ss s a h.1)
alike_same ss s (Then _ a) h = absurd h

first_same : (ss : List Slot) (a : Forest) → IsFirstPart ss a → tidy a ≡ a
first_same ss Nil h = refl
first_same ss (Then (Evaluate e) Nil) h = refl
first_same ss (Then (Local k given) a) h = let s = the_some _ (slice_get ss k) h in ap (Then (Local k given)) (alike_same ss s.0 a s.2)
first_same ss _ h = absurd h

without_everywhere : (P : Tree → Type 0) (a : Forest) → Everywhere P a → Everywhere P (without_last a)
without_everywhere P Nil h = tt
without_everywhere P (Then x Nil) h = tt
without_everywhere P (Then x (Then y a)) h = (h.0, without_everywhere P (Then y a) h.1)

give_everywhere : (P : Tree → Type 0) (cases : List ExpressionTree) (default : Bool) (a : Forest) (ends : Bool) (c : Sections) → Everywhere P a →
    EverywhereIn P c → EverywhereIn P (give cases default a ends c)
give_everywhere P cases default Nil false NoSection h g = (h, g)
give_everywhere P cases default Nil false (Section cases' default' b ends c) h g = g
give_everywhere P cases default Nil true c h g = (h, g)
give_everywhere P cases default (Then x a) ends c h g = (h, g)

pub put_everywhere : (P : Tree → Type 0) (b : Bool) (cases : List ExpressionTree) (default : Bool) (a : Forest) (ends : Bool) (c : Sections) →
    Everywhere P a → EverywhereIn P c
    → EverywhereIn P (cond b (give cases default (without_last a) true c) (give cases default a ends c))
put_everywhere P true cases default a ends c h g = give_everywhere P cases default (without_last a) true c (without_everywhere P a h) g
put_everywhere P false cases default a ends c h g = give_everywhere P cases default a ends c h g

-- what is asked of an item that gets its sections so, in a function with these slots
abbrev pub IsTidied : List Slot → Tree → Type 0
IsTidied ss (For first t u a) = IsFirstPart ss first
IsTidied ss (Switch s c) = AllEntered c
IsTidied ss _ = Unit {0}

module _ (h : Function) where
  abbrev pub Ready : Tree → Type 0
  Ready x = IsPlainItem x × IsTidied h.slots x

  mutual
    pub plain_of : (a : Forest) → Everywhere Ready a → Everywhere IsPlainItem a
    plain_of Nil r = tt
    plain_of (Then x a) r = (plain_item_of x r.0, plain_of a r.1)

    plain_item_of : (x : Tree) → EverywhereOf Ready x → EverywhereOf IsPlainItem x
    plain_item_of (If t a b) r = (r.0.0, plain_of a r.1, plain_of b r.2)
    plain_item_of (While t a) r = (r.0.0, plain_of a r.1)
    plain_item_of (Do a t) r = (r.0.0, plain_of a r.1)
    plain_item_of (For first t u a) r = (r.0.0, plain_of first r.1, plain_of a r.2)
    plain_item_of (Switch s c) r = (r.0.0, plain_in c r.1)
    plain_item_of (Block a) r = (r.0.0, plain_of a r.1)
    plain_item_of _ r = r.0

    plain_in : (c : Sections) → EverywhereIn Ready c → EverywhereIn IsPlainItem c
    plain_in NoSection r = tt
    plain_in (Section cases default a ends c) r = (plain_of a r.0, plain_in c r.1)

  mutual
    pub tidy_form : (a : Forest) → Everywhere Ready a → Everywhere (HasSourceForm h) (tidy a)
    tidy_form Nil r = tt
    tidy_form (Then x a) r = (tidy_form_of x r.0, tidy_form a r.1)

    tidy_form_of : (x : Tree) → EverywhereOf Ready x → EverywhereOf (HasSourceForm h) (tidy_item x)
    tidy_form_of (If t a b) r = (r.0.0, tidy_form a r.1, tidy_form b r.2)
    tidy_form_of (While t a) r = (r.0.0, tidy_form a r.1)
    tidy_form_of (Do a t) r = (r.0.0, tidy_form a r.1)
    tidy_form_of (For first t u a) r = (subst (IsFirstPart h.slots) (sym (first_same h.slots first r.0.1)) r.0.1, tidy_form first r.1, tidy_form a r.2)
    tidy_form_of (Switch s c) r = ((sections_form c r.0.1 (plain_in c r.1), r.0.0), tidy_form_in c r.1)
    tidy_form_of (Block a) r = (tt, tidy_form a r.1)
    tidy_form_of (Evaluate e) r = tt
    tidy_form_of (Return e) r = tt
    tidy_form_of (Local x es) r = tt
    tidy_form_of Break r = tt
    tidy_form_of Continue r = tt
    tidy_form_of (Goto l) r = absurd r.0
    tidy_form_of (Mark l) r = absurd r.0
    tidy_form_of (Arm l e) r = absurd r.0
    tidy_form_of (Leap l) r = absurd r.0
    tidy_form_of (Land l) r = absurd r.0
    tidy_form_of (Arrival e) r = absurd r.0
    tidy_form_of (Note bs) r = tt

    tidy_form_in : (c : Sections) → EverywhereIn Ready c → EverywhereIn (HasSourceForm h) (tidy_sections c)
    tidy_form_in NoSection r = tt
    tidy_form_in (Section cases default a ends c) r =
        put_everywhere (HasSourceForm h) (not ends && last_break (tidy a)) cases default (tidy a) ends (tidy_sections c) (tidy_form a r.0) (tidy_form_in c r.1)

-- ---- numbers in text order, and exits, stay

both_same : {A : Type 0} (f : A → A → A) (a b c d : A) → a ≡ c → b ≡ d → f a b ≡ f c d
both_same f a b c d e g = (λ i. f (e i) (g i))

module _ (g : Tree → List ℕ) (none : g Break ≡ []) where
  gathered_before : (a : Forest) → last_break a ≡ true → gathered g (without_last a) ≡ gathered g a
  gathered_before Nil e = cc
  gathered_before (Then Break Nil) e = ap (λ l. l ++ []) (sym none)
  gathered_before (Then Break (Then y a)) e = ap (λ l. gathered_of g Break ++ l) (gathered_before (Then y a) e)
  gathered_before (Then x Nil) e = cc
  gathered_before (Then x (Then y a)) e = ap (λ l. gathered_of g x ++ l) (gathered_before (Then y a) e)

  gathered_give : (cases : List ExpressionTree) (default : Bool) (a : Forest) (ends : Bool) (c : Sections) →
      gathered_in g (give cases default a ends c) ≡ gathered g a ++ gathered_in g c
  gathered_give cases default Nil false NoSection = refl
  gathered_give cases default Nil false (Section cases' default' b ends c) = refl
  gathered_give cases default Nil true c = refl
  gathered_give cases default (Then x a) ends c = refl

  gathered_put : (b : Bool) (cases : List ExpressionTree) (default : Bool) (a : Forest) (ends : Bool) (c : Sections) → (not ends && last_break a) ≡ b
      → gathered_in g (cond b (give cases default (without_last a) true c) (give cases default a ends c)) ≡ gathered g a ++ gathered_in g c
  gathered_put true cases default a ends c q = gathered_give cases default (without_last a) true c ∙ ap (λ l. l ++ gathered_in g c)
      (gathered_before a (second (not ends) (last_break a) q))
    where
      second : (x y : Bool) → (x && y) ≡ true → y ≡ true
      second true y h = h
      second false y h = cc
  gathered_put false cases default a ends c q = gathered_give cases default a ends c

  mutual
    pub gathered_tidy : (a : Forest) → gathered g (tidy a) ≡ gathered g a
    gathered_tidy Nil = refl
    gathered_tidy (Then x a) = both_same (λ k l. k ++ l) (gathered_of g (tidy_item x)) (gathered g (tidy a)) (gathered_of g x) (gathered g a)
        (gathered_tidy_of x) (gathered_tidy a)

    gathered_tidy_of : (x : Tree) → gathered_of g (tidy_item x) ≡ gathered_of g x
    gathered_tidy_of (If t a b) = both_same (λ k l. k ++ l) (gathered g (tidy a)) (gathered g (tidy b)) (gathered g a) (gathered g b)
        (gathered_tidy a) (gathered_tidy b)
    gathered_tidy_of (While t a) = gathered_tidy a
    gathered_tidy_of (Do a t) = gathered_tidy a
    gathered_tidy_of (For first t u a) = both_same (λ k l. k ++ l) (gathered g (tidy first)) (gathered g (tidy a)) (gathered g first) (gathered g a)
        (gathered_tidy first) (gathered_tidy a)
    gathered_tidy_of (Switch s c) = gathered_tidy_in c
    gathered_tidy_of (Block a) = gathered_tidy a
    gathered_tidy_of _ = refl

    gathered_tidy_in : (c : Sections) → gathered_in g (tidy_sections c) ≡ gathered_in g c
    gathered_tidy_in NoSection = refl
    gathered_tidy_in (Section cases default a ends c) =
        gathered_put (not ends && last_break (tidy a)) cases default (tidy a) ends (tidy_sections c) refl
        ∙ both_same (λ k l. k ++ l) (gathered g (tidy a)) (gathered_in g (tidy_sections c)) (gathered g a) (gathered_in g c) (gathered_tidy a)
        (gathered_tidy_in c)

continues_before : (a : Forest) → last_break a ≡ true → continues (without_last a) ≡ continues a
continues_before Nil e = cc
continues_before (Then Break Nil) e = refl
continues_before (Then Break (Then y a)) e = ap (λ n. 0 + n) (continues_before (Then y a) e)
continues_before (Then x Nil) e = cc
continues_before (Then x (Then y a)) e = ap (λ n. continues_of x + n) (continues_before (Then y a) e)

continues_give : (cases : List ExpressionTree) (default : Bool) (a : Forest) (ends : Bool) (c : Sections) →
    continues_in (give cases default a ends c) ≡ continues a + continues_in c
continues_give cases default Nil false NoSection = refl
continues_give cases default Nil false (Section cases' default' b ends c) = omega arith
continues_give cases default Nil true c = refl
continues_give cases default (Then x a) ends c = refl

continues_put : (b : Bool) (cases : List ExpressionTree) (default : Bool) (a : Forest) (ends : Bool) (c : Sections) → (not ends && last_break a) ≡ b
    → continues_in (cond b (give cases default (without_last a) true c) (give cases default a ends c)) ≡ continues a + continues_in c
continues_put true cases default a ends c q = continues_give cases default (without_last a) true c ∙ ap (λ n. n + continues_in c)
    (continues_before a (second (not ends) (last_break a) q))
  where
    second : (x y : Bool) → (x && y) ≡ true → y ≡ true
    second true y h = h
    second false y h = cc
continues_put false cases default a ends c q = continues_give cases default a ends c

mutual
  pub breaks_tidy : (a : Forest) → breaks (tidy a) ≡ breaks a
  breaks_tidy Nil = refl
  breaks_tidy (Then x a) = both_same (λ m n. m + n) (breaks_of (tidy_item x)) (breaks (tidy a)) (breaks_of x) (breaks a) (breaks_tidy_of x) (breaks_tidy a)

  breaks_tidy_of : (x : Tree) → breaks_of (tidy_item x) ≡ breaks_of x
  breaks_tidy_of (If t a b) = both_same (λ m n. m + n) (breaks (tidy a)) (breaks (tidy b)) (breaks a) (breaks b) (breaks_tidy a) (breaks_tidy b)
  breaks_tidy_of (For first t u a) = breaks_tidy first
  breaks_tidy_of (Block a) = breaks_tidy a
  breaks_tidy_of x = refl

mutual
  pub continues_tidy : (a : Forest) → continues (tidy a) ≡ continues a
  continues_tidy Nil = refl
  continues_tidy (Then x a) = both_same (λ m n. m + n) (continues_of (tidy_item x)) (continues (tidy a)) (continues_of x) (continues a)
      (continues_tidy_of x) (continues_tidy a)

  continues_tidy_of : (x : Tree) → continues_of (tidy_item x) ≡ continues_of x
  continues_tidy_of (If t a b) = both_same (λ m n. m + n) (continues (tidy a)) (continues (tidy b)) (continues a) (continues b) (continues_tidy a)
      (continues_tidy b)
  continues_tidy_of (For first t u a) = continues_tidy first
  continues_tidy_of (Switch s c) = continues_tidy_in c
  continues_tidy_of (Block a) = continues_tidy a
  continues_tidy_of x = refl

  continues_tidy_in : (c : Sections) → continues_in (tidy_sections c) ≡ continues_in c
  continues_tidy_in NoSection = refl
  continues_tidy_in (Section cases default a ends c) =
      continues_put (not ends && last_break (tidy a)) cases default (tidy a) ends (tidy_sections c) refl
      ∙ both_same (λ m n. m + n) (continues (tidy a)) (continues_in (tidy_sections c)) (continues a) (continues_in c) (continues_tidy a) (continues_tidy_in c)

-- ---- defaults

give_defaults : (cases : List ExpressionTree) (default : Bool) (a : Forest) (ends : Bool) (c : Sections) →
    defaults (give cases default a ends c) ≤ cond default 1 0 + defaults c
give_defaults cases default Nil false NoSection = omega arith
give_defaults cases true Nil false (Section cases' true b ends c) = omega arith
give_defaults cases true Nil false (Section cases' false b ends c) = omega arith
give_defaults cases false Nil false (Section cases' default' b ends c) = omega arith
give_defaults cases default Nil true c = omega arith
give_defaults cases default (Then x a) ends c = omega arith

put_defaults : (b : Bool) (cases : List ExpressionTree) (default : Bool) (a : Forest) (ends : Bool) (c : Sections)
    → defaults (cond b (give cases default (without_last a) true c) (give cases default a ends c)) ≤ cond default 1 0 + defaults c
put_defaults true cases default a ends c = give_defaults cases default (without_last a) true c
put_defaults false cases default a ends c = give_defaults cases default a ends c

pub tidy_defaults : (c : Sections) → defaults (tidy_sections c) ≤ defaults c
tidy_defaults NoSection = omega arith
tidy_defaults (Section cases default a ends c) =
    let p = put_defaults (not ends && last_break (tidy a)) cases default (tidy a) ends (tidy_sections c) in
    let q = tidy_defaults c in omega (arith, p, q)
