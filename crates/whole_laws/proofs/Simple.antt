-- A body to which no simplification applies: no test or selector in it repeats a wrapper.
use Rattle.std.proofs.Common.{◌≡◌, ℕ, ◌+◌, Bool, List, [], ◌∷◌, ◌++◌, Option, Some, None, refl, sym, subst}
use Rattle.c_tree.specs.declared.tree.Branch.{Branch}
use Rattle.c_tree.specs.declared.tree.Branch.TheVariants as B
use Rattle.c_tree.specs.Trees.{Tree, Forest, Nil, Then, Sections, NoSection, Section, If, While, Do, For, Switch, Block}
use Rattle.c_tree.specs.Everywhere.{Everywhere, EverywhereOf, EverywhereIn}
use Rattle.c_tree.specs.WellMade.{IsPlainFor}
use Rattle.report_moves.specs.declared.moves.MoveKind.TheVariants.{Z1, Z2}
use Rattle.guard_simplify.specs.declared.choice.Choice.{Choice}
use Rattle.guard_simplify.specs.declared.choice.Repeat.{Repeat}
use Rattle.guard_simplify.specs.Choice.{repeat_of, is_empty_if, if_true, if_some, repeat_label, own, under, choices_from, choices_in, choices_of_sections}

-- its test or selector repeats no wrapper
abbrev pub RepeatsNone : Tree → Type 0
RepeatsNone x = repeat_of x ≡ None

both_none : {X : Type 0} (xs ys : List X) → xs ++ ys ≡ [] → (xs ≡ []) × (ys ≡ [])
both_none [] ys e = (refl, e)
both_none (x ∷ xs) ys e = cc

none_there : (i : ℕ) (r : Option Repeat) → if_some i Z2 (repeat_label r) ≡ [] → r ≡ None
none_there i None e = refl
none_there i (Some r) e = cc

pub none_under : (i : ℕ) (b : Branch) (cs : List Choice) → under i b cs ≡ [] → cs ≡ []
none_under i b [] e = refl
none_under i b (c ∷ cs) e = cc

module _ (bar : ℕ → Bool) where
  own_none : (i : ℕ) (x : Tree) (rest : Forest) → own bar i x rest ≡ [] → RepeatsNone x
  own_none i x rest e =
      let p = both_none (if_true i Z1 (is_empty_if x)) _ e in
      let q = both_none (if_some i Z2 (repeat_label (repeat_of x))) _ p.1 in
      none_there i (repeat_of x) q.0

  mutual
    pub none_from : (i : ℕ) (a : Forest) → choices_from bar i a ≡ [] → Everywhere IsPlainFor a → Everywhere RepeatsNone a
    none_from i Nil e h = tt
    none_from i (Then x a) e h =
        let p = both_none (own bar i x a) (choices_in bar i x ++ choices_from bar (i + 1) a) e in
        let q = both_none (choices_in bar i x) (choices_from bar (i + 1) a) p.1 in
        (none_in i x (own_none i x a p.0) q.0 h.0, none_from (i + 1) a q.1 h.1)

    none_in : (i : ℕ) (x : Tree) → RepeatsNone x → choices_in bar i x ≡ [] → EverywhereOf IsPlainFor x → EverywhereOf RepeatsNone x
    none_in i (If t a b) r e h =
        let p = both_none (under i B.Then (choices_from bar 0 a)) (under i B.Else (choices_from bar 0 b)) e in
        (r, none_from 0 a (none_under i B.Then (choices_from bar 0 a) p.0) h.1, none_from 0 b (none_under i B.Else (choices_from bar 0 b) p.1) h.2)
    none_in i (While t a) r e h = (r, none_from 0 a (none_under i B.Body (choices_from bar 0 a) e) h.1)
    none_in i (Do a t) r e h = (r, none_from 0 a (none_under i B.Body (choices_from bar 0 a) e) h.1)
    none_in i (For first t u a) r e h =
        (r, subst (Everywhere RepeatsNone) (sym h.0.0) tt, none_from 0 a (none_under i B.Body (choices_from bar 0 a) e) h.2)
    none_in i (Switch s c) r e h = (r, none_among i 0 c e h.1)
    none_in i (Block a) r e h = (r, none_from 0 a (none_under i B.Body (choices_from bar 0 a) e) h.1)
    none_in i _ r e h = r

    none_among : (i k : ℕ) (c : Sections) → choices_of_sections bar i k c ≡ [] → EverywhereIn IsPlainFor c → EverywhereIn RepeatsNone c
    none_among i k NoSection e h = tt
    none_among i k (Section cases default a ends c) e h =
        let p = both_none (under i (B.Section k) (choices_from bar 0 a)) (choices_of_sections bar i (k + 1) c) e in
        (none_from 0 a (none_under i (B.Section k) (choices_from bar 0 a) p.0) h.0, none_among i (k + 1) c p.1 h.1)
