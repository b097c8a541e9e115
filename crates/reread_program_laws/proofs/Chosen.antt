-- The comments of a text, each with its place, and those of one place among them.
use Rattle.std.proofs.Common.{◌≡◌, ◌≤◌, ◌<◌, ◌+◌, ◌*◌, ◌-◌, ◌⊎◌, inl, inr, ℕ, Bool, true, false, cond, List, [], ◌∷◌, ◌++◌, length, map, refl, ap, sym, subst, ◌∙◌, arith, append_assoc}
use Rattle.std.specs.Prelude.{◌==◌}
use Rattle.std.proofs.lemmas.Bool.{eqb-true, eq-eqb, false_from_ne_true}
use Rattle.std.proofs.lemmas.List.{append-nil}
use Rattle.c_grammar.specs.declared.class.Class.{Class}
use Rattle.c_statements.specs.declared.anchors.Anchor.{Anchor}
use Rattle.c_statements.specs.declared.anchors.Anchor.TheVariants.{Before, AtEnd, AtSection, Last}
use Rattle.c_statements.specs.Context.{same_place}
use Rattle.c_resolved_defs.specs.Within.{Each}
use Rattle.print_laws.specs.Reread.{Comments}

-- a comment at its place
abbrev pub Placed : Type 0
Placed = Anchor × List ℕ

-- those at one place, in order
abbrev pub chosen : Anchor → List Placed → List (List ℕ)
chosen a [] = []
chosen a (e ∷ es) = cond (same_place e.0 a) (e.1 ∷ chosen a es) (chosen a es)

abbrev pub all_at : Anchor → List (List ℕ) → List Placed
all_at a bs = map (λ b. (a, b)) bs

-- the number of the token that these begin with, of so many
abbrev pub number : ℕ → List Class → ℕ
number count r = count - length r

-- comments by the tokens behind them, at the places of these
abbrev pub placed_by : (ℕ → Anchor) → ℕ → Comments → List Placed
placed_by P count n = map (λ (e : List Class × List ℕ). (P (number count e.0), e.1)) n

same_eq : (n : ℕ) → (n == n) ≡ true
same_eq n = eq-eqb n n refl

same_self : (a : Anchor) → same_place a a ≡ true
same_self (Before n) = same_eq n
same_self (AtEnd n) = same_eq n
same_self (AtSection n) = same_eq n
same_self Last = refl

pub chosen_both : (a : Anchor) (xs ys : List Placed) → chosen a (xs ++ ys) ≡ chosen a xs ++ chosen a ys
chosen_both a [] ys = refl
chosen_both a (x ∷ xs) ys = by (same_place x.0 a) (chosen_both a xs ys)
  where
    by : (b : Bool) → chosen a (xs ++ ys) ≡ chosen a xs ++ chosen a ys →
        cond b (x.1 ∷ chosen a (xs ++ ys)) (chosen a (xs ++ ys)) ≡ cond b (x.1 ∷ chosen a xs) (chosen a xs) ++ chosen a ys
    by true e = ap (λ l. x.1 ∷ l) e
    by false e = e

pub chosen_all : (a : Anchor) (bs : List (List ℕ)) → chosen a (all_at a bs) ≡ bs
chosen_all a [] = refl
chosen_all a (b ∷ bs) = ap (λ t. cond t (b ∷ chosen a (all_at a bs)) (chosen a (all_at a bs))) (same_self a) ∙ ap (λ l. b ∷ l) (chosen_all a bs)

-- ---- the order of places: before a token, then the end of a list or of the labels that it begins; `last` is that of the end of the file

abbrev pub key : ℕ → Anchor → ℕ
key last (Before n) = 2 * n
key last (AtEnd n) = 2 * n + 1
key last (AtSection n) = 2 * n + 1
key last Last = last

module _ (last : ℕ) where
  same_key : (a b : Anchor) → same_place a b ≡ true → key last a ≡ key last b
  same_key (Before n) (Before m) e = ap (λ k. 2 * k) (eqb-true n m e)
  same_key (AtEnd n) (AtEnd m) e = ap (λ k. 2 * k + 1) (eqb-true n m e)
  same_key (AtSection n) (AtSection m) e = ap (λ k. 2 * k + 1) (eqb-true n m e)
  same_key Last Last e = refl
  same_key (Before n) _ e = cc
  same_key (AtEnd n) _ e = cc
  same_key (AtSection n) _ e = cc
  same_key Last _ e = cc

  abbrev pub In : ℕ → ℕ → Anchor → Type 0
  In lo hi a = (lo ≤ key last a) × (key last a < hi)

  abbrev pub Ranged : ℕ → ℕ → List Placed → Type 0
  Ranged lo hi es = Each (λ e. In lo hi e.0) es

  -- no place in this range
  abbrev pub Outside : ℕ → ℕ → List Placed → Type 0
  Outside lo hi es = Each (λ e. (key last e.0 < lo) ⊎ (hi ≤ key last e.0)) es

  pub ranged_wider : (lo hi l h : ℕ) → l ≤ lo → hi ≤ h → (es : List Placed) → Ranged lo hi es → Ranged l h es
  ranged_wider lo hi l h x y [] r = tt
  ranged_wider lo hi l h x y (e ∷ es) r = let u = (r.0).0 in let v = (r.0).1 in ((omega (arith, x, u), omega (arith, y, v)), ranged_wider lo hi l h x y es r.1)

  pub ranged_both : (lo hi : ℕ) (xs ys : List Placed) → Ranged lo hi xs → Ranged lo hi ys → Ranged lo hi (xs ++ ys)
  ranged_both lo hi [] ys r s = s
  ranged_both lo hi (x ∷ xs) ys r s = (r.0, ranged_both lo hi xs ys r.1 s)

  pub ranged_all : (lo hi : ℕ) (a : Anchor) → In lo hi a → (bs : List (List ℕ)) → Ranged lo hi (all_at a bs)
  ranged_all lo hi a i [] = tt
  ranged_all lo hi a i (b ∷ bs) = (i, ranged_all lo hi a i bs)

  pub outside_before : (lo hi l h : ℕ) → h ≤ lo → (es : List Placed) → Ranged lo hi es → Outside l h es
  outside_before lo hi l h x [] r = tt
  outside_before lo hi l h x (e ∷ es) r = let u = (r.0).0 in (inr (omega (arith, x, u)), outside_before lo hi l h x es r.1)

  pub outside_behind : (lo hi l h : ℕ) → hi ≤ l → (es : List Placed) → Ranged lo hi es → Outside l h es
  outside_behind lo hi l h x [] r = tt
  outside_behind lo hi l h x (e ∷ es) r = let u = (r.0).1 in (inl (omega (arith, x, u)), outside_behind lo hi l h x es r.1)

  pub outside_both : (l h : ℕ) (xs ys : List Placed) → Outside l h xs → Outside l h ys → Outside l h (xs ++ ys)
  outside_both l h [] ys r s = s
  outside_both l h (x ∷ xs) ys r s = (r.0, outside_both l h xs ys r.1 s)

  chosen_none : (l h : ℕ) (a : Anchor) → In l h a → (es : List Placed) → Outside l h es → chosen a es ≡ []
  chosen_none l h a i [] o = refl
  chosen_none l h a i (e ∷ es) o = ap (λ t. cond t (e.1 ∷ chosen a es) (chosen a es)) (other (o.0)) ∙ chosen_none l h a i es o.1
    where
      other : (key last e.0 < l) ⊎ (h ≤ key last e.0) → same_place e.0 a ≡ false
      other (inl x) = false_from_ne_true (same_place e.0 a) (λ s. let k = same_key e.0 a s in let u = i.0 in omega (arith, k, u, x))
      other (inr x) = false_from_ne_true (same_place e.0 a) (λ s. let k = same_key e.0 a s in let u = i.1 in omega (arith, k, u, x))

  -- comments stand at the places of a range as these do
  abbrev pub Agrees : (Anchor → List (List ℕ)) → ℕ → ℕ → List Placed → Type 0
  Agrees notes lo hi es = (a : Anchor) → In lo hi a → notes a ≡ chosen a es

  -- so they do in a part, where the others are of no place in it
  pub agrees_part : (notes : Anchor → List (List ℕ)) (lo hi l h : ℕ) (xs es ys : List Placed) → Agrees notes lo hi (xs ++ (es ++ ys)) → lo ≤ l →
      h ≤ hi → Outside l h xs → Outside l h ys → Agrees notes l h es
  agrees_part notes lo hi l h xs es ys g x y o q a i =
      let u = i.0 in
      let v = i.1 in
      g a (omega (arith, x, u), omega (arith, y, v))
      ∙ chosen_both a xs (es ++ ys) ∙ ap (λ l. l ++ chosen a (es ++ ys)) (chosen_none l h a i xs o)
      ∙ chosen_both a es ys ∙ ap (λ l. chosen a es ++ l) (chosen_none l h a i ys q) ∙ append-nil (chosen a es)

  pub agrees_last : (notes : Anchor → List (List ℕ)) (lo hi l h : ℕ) (xs es : List Placed) → Agrees notes lo hi (xs ++ es) → lo ≤ l → h ≤ hi →
      Outside l h xs → Agrees notes l h es
  agrees_last notes lo hi l h xs es g x y o = agrees_part notes lo hi l h xs es []
      (subst (Agrees notes lo hi) (ap (λ l. xs ++ l) (sym (append-nil es))) g) x y o tt

  -- those at one place
  pub agrees_at : (notes : Anchor → List (List ℕ)) (lo hi : ℕ) (xs : List Placed) (a : Anchor) (bs : List (List ℕ)) (ys : List Placed) →
      Agrees notes lo hi (xs ++ (all_at a bs ++ ys)) → In lo hi a
      → Outside (key last a) (key last a + 1) xs → Outside (key last a) (key last a + 1) ys → notes a ≡ bs
  agrees_at notes lo hi xs a bs ys g i o q =
      let u = i.0 in
      let v = i.1 in
      agrees_part notes lo hi (key last a) (key last a + 1) xs (all_at a bs) ys g u (omega (arith, v)) o q a (omega arith, omega arith) ∙ chosen_all a bs

  -- none at this place
  pub agrees_none : (notes : Anchor → List (List ℕ)) (lo hi : ℕ) (a : Anchor) (es : List Placed) → Agrees notes lo hi es → In lo hi a →
      Outside (key last a) (key last a + 1) es → notes a ≡ []
  agrees_none notes lo hi a es g i o = g a i ∙ chosen_none (key last a) (key last a + 1) a (omega arith, omega arith) es o

  -- ---- comments by the tokens behind them, and what holds of their places

  module _ (found : Comments → List Placed) where
    -- comments in front of others, at places of a range, and a fact of all comments that stand there as these do
    pub record Told (lo hi : ℕ) (tell : Comments → Comments) (Fact : (Anchor → List (List ℕ)) → Type 0) : Type 0 where
      pub here : List Placed
      pub tells : (n : Comments) → found (tell n) ≡ here ++ found n
      pub ranged : Ranged lo hi here
      pub holds : (notes : Anchor → List (List ℕ)) → Agrees notes lo hi here → Fact notes

    pub told_wider : (lo hi l h : ℕ) (tell : Comments → Comments) (P : (Anchor → List (List ℕ)) → Type 0) → l ≤ lo → hi ≤ h → Told lo hi tell P →
        Told l h tell P
    told_wider lo hi l h tell P x y t =
        record {
          here = t.here;
          tells = t.tells;
          ranged = ranged_wider lo hi l h x y t.here t.ranged;
          holds = λ notes g. t.holds notes (λ a i. let u = i.0 in let v = i.1 in g a (omega (arith, x, u), omega (arith, y, v)));
        }

    pub told_as : (lo hi : ℕ) (tell : Comments → Comments) (P Q : (Anchor → List (List ℕ)) → Type 0) →
        ((notes : Anchor → List (List ℕ)) → P notes → Q notes) → Told lo hi tell P → Told lo hi tell Q
    told_as lo hi tell P Q f t = record { here = t.here; tells = t.tells; ranged = t.ranged; holds = λ notes g. f notes (t.holds notes g) }

    -- a fact that needs no comment
    pub told_none : (lo hi : ℕ) (P : (Anchor → List (List ℕ)) → Type 0) → ((notes : Anchor → List (List ℕ)) → Agrees notes lo hi [] → P notes) →
        Told lo hi (λ n. n) P
    told_none lo hi P f = record { here = []; tells = λ n. refl; ranged = tt; holds = f }

    -- one after another
    pub told_both : (lo mid hi : ℕ) (f g : Comments → Comments) (P Q : (Anchor → List (List ℕ)) → Type 0) → lo ≤ mid → mid ≤ hi → Told lo mid f P →
        Told mid hi g Q → Told lo hi (λ n. f (g n)) (λ notes. P notes × Q notes)
    told_both lo mid hi f g P Q x y t u =
        record {
          here = t.here ++ u.here;
          tells = λ n. t.tells (g n) ∙ ap (λ l. t.here ++ l) (u.tells n) ∙ sym (append_assoc t.here u.here (found n));
          ranged = ranged_both lo hi t.here u.here (ranged_wider lo mid lo hi (omega arith) y t.here t.ranged)
              (ranged_wider mid hi lo hi x (omega arith) u.here u.ranged);
          holds = λ notes k. (
            t.holds notes (agrees_part notes lo hi lo mid [] t.here u.here k (omega arith) y tt (outside_before mid hi lo mid (omega arith) u.here u.ranged)),
            u.holds notes (agrees_last notes lo hi mid hi t.here u.here k x (omega arith) (outside_behind lo mid mid hi (omega arith) t.here t.ranged)),
          );
        }

pub one_on : (a : Anchor) (ns : List (List ℕ)) (b : List ℕ) (es : List Placed) → all_at a ns ++ ((a, b) ∷ es) ≡ all_at a (ns ++ b ∷ []) ++ es
one_on a [] b es = refl
one_on a (x ∷ ns) b es = ap (λ l. (a, x) ∷ l) (one_on a ns b es)
