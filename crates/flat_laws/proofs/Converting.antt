-- A flat body that is made well is well made after its conversion.
use Rattle.std.proofs.Common.{ℕ, ◌+◌, ◌<◌, ◌≡◌, ◌≢◌, Bool, true, false, cond, eqb, ◌++◌, length, map, All, AllPairs, Option, Some, None, IfSome, IsSome, refl, sym, ap, subst, ◌∙◌, arith, eqb-true, eq-eqb}
use mathlib.Core.Path.{ap₂}
use Rattle.std.specs.Option.{option_map_or}
use Rattle.c_types.specs.declared.kinds.IntKind.{IntKind}
use Rattle.c_tree.specs.ExpressionTrees.{ExpressionTree}
use Rattle.c_tree.specs.TestTrees.{TestTree, Source, On, Off, AndOff, OrOn, Selects, Pick}
use Rattle.c_tree.specs.Cases.{selector_kind, all_cases, case_number, AreCases, ArePicks}
use Rattle.c_tree.specs.Changed.{one}
use Rattle.c_tree.specs.Constants.{IsConstant, constant_value}
use Rattle.c_tree.specs.Everywhere.{total_of, total_in, Everywhere, EverywhereOf, EverywhereIn}
use Rattle.c_tree.specs.Exits.{breaks, breaks_of, breaks_in, continues, continues_of, continues_in}
use Rattle.c_tree.specs.Labels.{land_of, lands, jump_of, jumps, GuardLabels}
use Rattle.c_tree.specs.Trees.{Tree, Forest, Nil, Then, Sections, NoSection, Section, If, While, Do, For, Switch, Block, Local, Goto, Mark, Arm, Leap, Land, Arrival, join}
use Rattle.c_tree.specs.WellMade.{IsConverted, HasSelectorKind, HasEntries, HasCases, HasPicks, IsPlainFor, BindsNoExit, HasNoMadeElse, IsWellMade}
use Rattle.c_tree.proofs.KeptLemmas.{total-join, SameEntries, everywhere_join}
use Rattle.c_tree.proofs.WellMoved.{everywhere_map}
use Rattle.c_tree.specs.Conversions.{jump_tree, source_tree, lone_goto, conditional_goto, convert, convert_item, convert_sections}
use Rattle.jump_meaning.specs.Steady.{IsUnjumping}
use Rattle.flat_laws.specs.Placed.{places, places_of, places_among}
use Rattle.flat_laws.proofs.Exits.{free_join, stay_join}
use Rattle.flat_laws.specs.FlatMade.{hop_of, hops, IsFlatItem, IsFlatMade}

-- ---- `if (c) goto L` or another `if`

module _ (R : TestTree → Forest → Forest → Forest → Type 0) (f : (e : ExpressionTree) (l : ℕ) → R (Source e) (one (Goto l)) Nil (jump_tree l (Some e))) where
  lone_as : (e : ExpressionTree) (a : Forest) → R (Source e) a Nil (one (If (Source e) (convert a) Nil)) →
      R (Source e) a Nil (option_map_or (λ l. jump_tree l (Some e)) (lone_goto a) (one (If (Source e) (convert a) Nil)))
  lone_as e (Then (Goto l) Nil) h = f e l
  lone_as e a h = h

  if_as : (t : TestTree) (a b : Forest) → R t a b (one (If t (convert a) (convert b))) →
      R t a b (option_map_or (λ l. jump_tree l (source_tree t)) (conditional_goto t a b) (one (If t (convert a) (convert b))))
  if_as (Source e) a Nil h = lone_as e a h
  if_as (Source e) a (Then y b) h = h
  if_as t a b h = h

-- ---- exits

abbrev SameExits : ℕ → ℕ → Forest → Type 0
SameExits m n z = (breaks z ≡ m) × (continues z ≡ n)

mutual
  pub same_exits : (a : Forest) → SameExits (breaks a) (continues a) (convert a)
  same_exits Nil = (refl, refl)
  same_exits (Then x a) =
      let i = same_exits_of x in
      let j = same_exits a in (
        let e = free_join (convert_item x) (convert a) in let i' = i.0 in let j' = j.0 in
            omega (arith, e, i', j'),
        let e = stay_join (convert_item x) (convert a) in let i' = i.1 in let j' = j.1 in omega (arith, e, i', j'),
      )

  same_exits_of : (x : Tree) → SameExits (breaks_of x) (continues_of x) (convert_item x)
  same_exits_of (If t a b) =
      let i = same_exits a in
      let j = same_exits b in
      if_as (λ t a b z. SameExits (breaks a + breaks b) (continues a + continues b) z) (λ e l. (refl, refl)) t a b
      (let i' = i.0 in let j' = j.0 in omega (arith, i', j'), let i' = i.1 in let j' = j.1 in omega (arith, i', j'))
  same_exits_of (While t a) = (refl, refl)
  same_exits_of (Do a t) = (refl, refl)
  same_exits_of (For first t u a) = let i = same_exits first in (let j = i.0 in omega (arith, j), let j = i.1 in omega (arith, j))
  same_exits_of (Switch s c) = (refl, let i = (same_exits_in c).1 in omega (arith, i))
  same_exits_of (Block a) = let i = same_exits a in (let j = i.0 in omega (arith, j), let j = i.1 in omega (arith, j))
  same_exits_of x = (refl, refl)

  pub same_exits_in : (c : Sections) → (breaks_in (convert_sections c) ≡ breaks_in c) × (continues_in (convert_sections c) ≡ continues_in c)
  same_exits_in NoSection = (refl, refl)
  same_exits_in (Section cases default a ends c) =
      let i = same_exits a in
      let j = same_exits_in c in
      (let i' = i.0 in let j' = j.0 in omega (arith, i', j'), let i' = i.1 in let j' = j.1 in omega (arith, i', j'))

-- ---- jumps and labels

mutual
  pub same_jumps : (a : Forest) → jumps (convert a) ≡ hops a
  same_jumps Nil = refl
  same_jumps (Then x a) = let i = same_jumps_of x in let j = same_jumps a in let k = total-join jump_of (convert_item x) (convert a) in omega (arith, i, j, k)

  same_jumps_of : (x : Tree) → jumps (convert_item x) ≡ total_of hop_of x
  same_jumps_of (If t a b) = let i = same_jumps a in let j = same_jumps b in
      if_as (λ t a b z. jumps z ≡ 0 + hops a + hops b) (λ e l. refl) t a b (omega (arith, i, j))
  same_jumps_of (While t a) = let i = same_jumps a in omega (arith, i)
  same_jumps_of (Do a t) = let i = same_jumps a in omega (arith, i)
  same_jumps_of (For first t u a) = let i = same_jumps first in let j = same_jumps a in omega (arith, i, j)
  same_jumps_of (Switch s c) = let i = same_jumps_in c in omega (arith, i)
  same_jumps_of (Block a) = let i = same_jumps a in omega (arith, i)
  same_jumps_of x = refl

  pub same_jumps_in : (c : Sections) → total_in jump_of (convert_sections c) ≡ total_in hop_of c
  same_jumps_in NoSection = refl
  same_jumps_in (Section cases default a ends c) = let i = same_jumps a in let j = same_jumps_in c in omega (arith, i, j)

abbrev one_if : Bool → ℕ
one_if b = cond b 1 0

equal_back : (l m : ℕ) → one_if (eqb m l) ≡ one_if (eqb l m)
equal_back l m = at (eqb m l) (eqb l m) refl refl
  where
    at : (x y : Bool) → eqb m l ≡ x → eqb l m ≡ y → one_if x ≡ one_if y
    at true true e f = refl
    at false false e f = refl
    at true false e f = ap one_if (sym (eq-eqb l m (sym (eqb-true m l e))) ∙ f)
    at false true e f = ap one_if (sym e ∙ eq-eqb m l (sym (eqb-true l m f)))

module _ (l : ℕ) (P : ℕ → Type 0) where
  mutual
    pub same_lands : (a : Forest) → Everywhere (IsFlatItem P) a → lands l (convert a) ≡ places l a
    same_lands Nil h = refl
    same_lands (Then x a) h = let i = same_lands_of x h.0 in let j = same_lands a h.1 in let k =
        total-join (land_of l) (convert_item x) (convert a) in
        omega (arith, i, j, k)

    same_lands_of : (x : Tree) → EverywhereOf (IsFlatItem P) x → lands l (convert_item x) ≡ places_of l x
    same_lands_of (If t a b) h = let i = same_lands a h.1 in let j = same_lands b h.2 in
        if_as (λ t a b z. lands l z ≡ places l a + places l b) (λ e m. refl) t a b (omega (arith, i, j))
    same_lands_of (While t a) h = let i = same_lands a h.1 in omega (arith, i)
    same_lands_of (Do a t) h = let i = same_lands a h.1 in omega (arith, i)
    same_lands_of (For first t u a) h = let i = same_lands a h.2 in let j = ap (λ z. lands l (convert z)) h.0.0 in omega (arith, i, j)
    same_lands_of (Switch s c) h = let i = same_lands_in c h.1 in omega (arith, i)
    same_lands_of (Mark m) h = let i = equal_back l m in omega (arith, i)
    same_lands_of (Block a) h = absurd h.0
    same_lands_of (Land m) h = absurd h
    same_lands_of x h = refl

    same_lands_in : (c : Sections) → EverywhereIn (IsFlatItem P) c → total_in (land_of l) (convert_sections c) ≡ places_among l c
    same_lands_in NoSection h = refl
    same_lands_in (Section cases default a ends c) h = let i = same_lands a h.0 in let j = same_lands_in c h.1 in omega (arith, i, j)

-- ---- cases

pub converted_entries : (c : Sections) → SameEntries c (convert_sections c)
converted_entries NoSection = record { cases = refl; default = refl; entered = λ h. h }
converted_entries (Section cases default a ends c) =
    let h = converted_entries c in
    record { cases = ap (λ l. cases ++ l) h.cases; default = ap (λ n. cond default 1 0 + n) h.default; entered = λ e. (e.0, h.entered e.1) }

pub cases_as : (k : IntKind) (c d : Sections) → all_cases c ≡ all_cases d → AreCases k c → AreCases k d
cases_as k c d e h = record {
  constant = subst (All IsConstant) e h.constant;
  untrapped = subst (All (λ e. IsSome (constant_value e))) e h.untrapped;
  distinct = subst (λ l. AllPairs (λ m n. m ≢ n) (map (case_number k) l)) e h.distinct;
  few = subst (λ l. length l < 2147483648) e h.few;
}

pub if_some : (P Q : IntKind → Type 0) → ((k : IntKind) → P k → Q k) → (o : Option IntKind) → IfSome o P → IfSome o Q
if_some P Q f None h = h
if_some P Q f (Some k) h = f k h

no_picks : (o : Option IntKind) (e : ExpressionTree) → IfSome o (λ k. ArePicks k (Selects e))
no_picks None e = tt
no_picks (Some k) e = tt

-- ---- items

record IsMadeItem (P : ℕ → Type 0) (x : Tree) : Type 0 where
  pub converted : IsConverted x
  pub labels : GuardLabels P x
  pub kind : HasSelectorKind x
  pub entries : HasEntries x
  pub cases : HasCases x
  pub picks : HasPicks x
  pub loops : IsPlainFor x
  pub exits : BindsNoExit x
  pub tests : HasNoMadeElse x

module _ (P Q : ℕ → Type 0) (f : (l : ℕ) → P l → Q l) where
  abbrev Flat : Forest → Type 0
  Flat a = Everywhere (IsFlatItem P) a

  abbrev Made : Forest → Type 0
  Made a = Everywhere (IsMadeItem Q) a

  armed : (l : ℕ) (e : Option ExpressionTree) → Q l → Made (jump_tree l e)
  armed l e q = (
    record { converted = tt; labels = q; kind = tt; entries = tt; cases = tt; picks = tt; loops = tt; exits = tt; tests = tt },
    (record { converted = tt; labels = q; kind = tt; entries = tt; cases = tt; picks = tt; loops = tt; exits = tt; tests = tt }, tt),
  )

  settled : (a : Forest) → (0 < hops a → breaks a + continues a ≡ 0) → 0 < jumps (convert a) → breaks (convert a) + continues (convert a) ≡ 0
  settled a h j =
      let e = same_jumps a in
      let i = h (omega (arith, e, j)) in
      let s = same_exits a in
      let m = s.0 in
      let n = s.1 in omega (arith, i, m, n)

  mutual
    made : (a : Forest) → Flat a → Made (convert a)
    made Nil h = tt
    made (Then x a) h = everywhere_join (IsMadeItem Q) (convert_item x) (convert a) (made_of x h.0) (made a h.1)

    made_of : (x : Tree) → EverywhereOf (IsFlatItem P) x → Made (convert_item x)
    made_of (If (Source e) a b) h =
        if_as (λ t a b z. Flat a → Made z) (λ e l g. armed l (Some e) (f l g.0)) (Source e) a b
        (λ g. (
          (
            record {
              converted = tt;
              labels = tt;
              kind = tt;
              entries = tt;
              cases = tt;
              picks = tt;
              loops = tt;
              exits = tt;
              tests = λ n. absurd n;
            },
            made a h.1,
            made b h.2,
          ),
          tt,
        )) h.1
    made_of (If (On l) a b) h = absurd h.0
    made_of (If (Off l) a b) h = absurd h.0
    made_of (If (AndOff l t) a b) h = absurd h.0
    made_of (If (OrOn l t) a b) h = absurd h.0
    made_of (While (Source e) a) h = (
      (
        record {
          converted = tt;
          labels = tt;
          kind = tt;
          entries = tt;
          cases = tt;
          picks = tt;
          loops = tt;
          exits = settled a h.0.1;
          tests = tt;
        },
        made a h.1,
      ),
      tt,
    )
    made_of (While (On l) a) h = absurd h.0.0
    made_of (While (Off l) a) h = absurd h.0.0
    made_of (While (AndOff l t) a) h = absurd h.0.0
    made_of (While (OrOn l t) a) h = absurd h.0.0
    made_of (Do a (Source e)) h = (
      (
        record {
          converted = tt;
          labels = tt;
          kind = tt;
          entries = tt;
          cases = tt;
          picks = tt;
          loops = tt;
          exits = settled a h.0.1;
          tests = tt;
        },
        made a h.1,
      ),
      tt,
    )
    made_of (Do a (On l)) h = absurd h.0.0
    made_of (Do a (Off l)) h = absurd h.0.0
    made_of (Do a (AndOff l t)) h = absurd h.0.0
    made_of (Do a (OrOn l t)) h = absurd h.0.0
    made_of (For first t u a) h =
        let j = same_jumps a in
        let i = h.0.1 in
        let k = same_jumps first in
        let g = ap hops h.0.0 in (
          (
            record {
              converted = tt;
              labels = tt;
              kind = tt;
              entries = tt;
              cases = tt;
              picks = tt;
              loops = (ap convert h.0.0, omega (arith, i, j));
              exits = λ n. absurd (omega (arith, i, j, k, g, n));
              tests = tt;
            },
            made first h.1,
            made a h.2,
          ),
          tt,
        )
    made_of (Switch (Selects e) c) h =
        let g = h.0.1 in
        let s = converted_entries c in
        let d = s.default in
        let j = same_jumps_in c in
        let b = (same_exits_in c).0 in (
          (
            record {
              converted = tt;
              labels = tt;
              kind = g.kind;
              entries = (s.entered g.entered, let i = g.default in omega (arith, i, d));
              cases = if_some (λ k. AreCases k c) (λ k. AreCases k (convert_sections c)) (λ k. cases_as k c (convert_sections c) s.cases)
                  (selector_kind (Selects e)) g.cases;
              picks = no_picks (selector_kind (Selects e)) e;
              loops = tt;
              exits = λ n. let i = h.0.2 (omega (arith, j, n)) in omega (arith, i, b);
              tests = tt;
            },
            made_in c h.1,
          ),
          tt,
        )
    made_of (Switch (Pick l n s) c) h = absurd h.0.0
    made_of (Goto l) h = armed l None (f l h)
    made_of (Block a) h = absurd h.0
    made_of (Local x es) h = absurd h
    made_of (Arrival e) h = absurd h
    made_of (Arm l e) h = absurd h
    made_of (Leap l) h = absurd h
    made_of (Land l) h = absurd h
    made_of x h = (record { converted = tt; labels = tt; kind = tt; entries = tt; cases = tt; picks = tt; loops = tt; exits = tt; tests = tt }, tt)

    made_in : (c : Sections) → EverywhereIn (IsFlatItem P) c → EverywhereIn (IsMadeItem Q) (convert_sections c)
    made_in NoSection h = tt
    made_in (Section cases default a ends c) h = (made a h.0, made_in c h.1)

-- ---- bodies

pub convert_made : (body : Forest) → IsFlatMade body → IsWellMade (convert body)
convert_made body h =
    let P = λ (l : ℕ). places l body ≡ 1 in
    let Q = λ (l : ℕ). lands l (convert body) ≡ 1 in
    let m = made P Q (λ l e. same_lands l P body h.items ∙ e) body h.items in
    let s = same_exits body in
    record {
      converted = everywhere_map (IsMadeItem Q) IsConverted (λ x i. i.converted) (convert body) m;
      landed = everywhere_map (IsMadeItem Q) (GuardLabels Q) (λ x i. i.labels) (convert body) m;
      selectors = everywhere_map (IsMadeItem Q) HasSelectorKind (λ x i. i.kind) (convert body) m;
      entries = everywhere_map (IsMadeItem Q) HasEntries (λ x i. i.entries) (convert body) m;
      cases = everywhere_map (IsMadeItem Q) HasCases (λ x i. i.cases) (convert body) m;
      picks = everywhere_map (IsMadeItem Q) HasPicks (λ x i. i.picks) (convert body) m;
      loops = everywhere_map (IsMadeItem Q) IsPlainFor (λ x i. i.loops) (convert body) m;
      bound = let b = h.bound in let i = s.0 in let j = s.1 in omega (arith, b, i, j);
      exits = everywhere_map (IsMadeItem Q) BindsNoExit (λ x i. i.exits) (convert body) m;
      tests = everywhere_map (IsMadeItem Q) HasNoMadeElse (λ x i. i.tests) (convert body) m;
    }

-- ---- a body without gotos and labels is its own conversion

mutual
  pub unjumping_same : (a : Forest) → Everywhere IsUnjumping a → convert a ≡ a
  unjumping_same Nil h = refl
  unjumping_same (Then x a) h = ap₂ join (unjumping_same_of x h.0) (unjumping_same a h.1)

  unjumping_same_of : (x : Tree) → EverywhereOf IsUnjumping x → convert_item x ≡ one x
  unjumping_same_of (If t a b) h =
      if_as (λ t a b z. Everywhere IsUnjumping a → z ≡ one (If t a b)) (λ e l g. absurd g.0) t a b
      (λ g. ap₂ (λ a b. one (If t a b)) (unjumping_same a h.1) (unjumping_same b h.2)) h.1
  unjumping_same_of (While t a) h = ap (λ a. one (While t a)) (unjumping_same a h.1)
  unjumping_same_of (Do a t) h = ap (λ a. one (Do a t)) (unjumping_same a h.1)
  unjumping_same_of (For first t u a) h = ap₂ (λ first a. one (For first t u a)) (unjumping_same first h.1) (unjumping_same a h.2)
  unjumping_same_of (Switch s c) h = ap (λ c. one (Switch s c)) (unjumping_same_in c h.1)
  unjumping_same_of (Block a) h = ap (λ a. one (Block a)) (unjumping_same a h.1)
  unjumping_same_of (Goto l) h = absurd h
  unjumping_same_of (Mark l) h = absurd h
  unjumping_same_of x h = refl

  unjumping_same_in : (c : Sections) → EverywhereIn IsUnjumping c → convert_sections c ≡ c
  unjumping_same_in NoSection h = refl
  unjumping_same_in (Section cases default a ends c) h = ap₂ (λ a c. Section cases default a ends c) (unjumping_same a h.0) (unjumping_same_in c h.1)
