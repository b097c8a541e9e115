-- The simplifications of made tests keep what a list counts: Leaps, Lands, breaks and continues.
use Rattle.std.proofs.Common.{ℕ, ◌+◌, Option, ◌≡◌, refl, arith}
use Rattle.c_tree.specs.ExpressionTrees.{ExpressionTree}
use Rattle.c_tree.specs.TestTrees.{TestTree, Off, SelectorTree}
use Rattle.c_tree.specs.Trees.{Tree, Forest, Nil, Then, Sections, If, While, Do, For, Switch, Block, join}
use Rattle.c_tree.specs.Everywhere.{total, total_in}
use Rattle.c_tree.specs.Labels.{land_of, jump_of, jumps}
use Rattle.c_tree.specs.Exits.{breaks, breaks_in, continues}
use Rattle.c_tree.specs.Changed.{one, Changed, ChangedSections, here, within, in_then, in_else, in_while, in_do, in_for, in_switch, in_block, in_section, in_later}
use Rattle.c_tree.proofs.KeptLemmas.{total-join}
use Rattle.core_laws.specs.Better.{Better}
use Rattle.move_laws.specs.Simplifications.{round, Simplified, empty_if, shorter_if, shorter_while, shorter_do, shorter_switch, neighbours, nested}
use Rattle.move_laws.proofs.Simpler.{changed_better}

-- ---- a list that is changed isn't empty

join_nil : (a b : Forest) → join a b ≡ Nil → a ≡ Nil
join_nil Nil b e = refl
join_nil (Then x a) b e = cc

join_rest : (a b : Forest) → join a b ≡ Nil → b ≡ Nil
join_rest Nil b e = e
join_rest (Then x a) b e = cc

full : {xs ys : Forest} → Simplified xs ys → xs ≡ Nil → ⊥
full (empty_if t m) e = cc
full (shorter_if a b r) e = cc
full (shorter_while a r) e = cc
full (shorter_do a r) e = cc
full (shorter_switch c r) e = cc
full (neighbours m a b n) e = cc
full (nested t u a o i) e = cc

pub changed_full : {xs ys : Forest} → Changed Simplified xs ys → xs ≡ Nil → ⊥
changed_full (here r) e = full r e
changed_full (within a b {xs = xs} {ys = ys} c) e = changed_full c (join_nil xs b (join_rest a (join xs b) e))
changed_full (in_then t b c) e = cc
changed_full (in_else t a c) e = cc
changed_full (in_while t c) e = cc
changed_full (in_do t c) e = cc
changed_full (in_for f t u c) e = cc
changed_full (in_switch s r) e = cc
changed_full (in_block c) e = cc

-- ---- sums

-- a number that is 0 of constructs
pub record CountsNone (f : Tree → ℕ) : Type 0 where
  pub ifs : (t : TestTree) (a b : Forest) → f (If t a b) ≡ 0
  pub whiles : (t : TestTree) (a : Forest) → f (While t a) ≡ 0
  pub dos : (t : TestTree) (a : Forest) → f (Do a t) ≡ 0
  pub fors : (first : Forest) (t u : Option ExpressionTree) (a : Forest) → f (For first t u a) ≡ 0
  pub switches : (s : SelectorTree) (c : Sections) → f (Switch s c) ≡ 0
  pub blocks : (a : Forest) → f (Block a) ≡ 0

pub counts_jumps : CountsNone jump_of
counts_jumps = record { ifs = λ t a b. refl; whiles = λ t a. refl; dos = λ t a. refl; fors = λ first t u a. refl; switches = λ s c. refl; blocks = λ a. refl }

pub counts_lands : (l : ℕ) → CountsNone (land_of l)
counts_lands l = record { ifs = λ t a b. refl; whiles = λ t a. refl; dos = λ t a. refl; fors = λ first t u a. refl; switches = λ s c. refl; blocks = λ a. refl }

module _ (f : Tree → ℕ) (k : CountsNone f) where
  rule_total : {xs ys : Forest} → Simplified xs ys → total f xs ≡ total f ys
  rule_total (empty_if t m) = let h = k.ifs t Nil Nil in omega (arith, h)
  rule_total (shorter_if {t = t} {u = u} a b r) = let h = k.ifs t a b in let i = k.ifs u a b in omega (arith, h, i)
  rule_total (shorter_while {t = t} {u = u} a r) = let h = k.whiles t a in let i = k.whiles u a in omega (arith, h, i)
  rule_total (shorter_do {t = t} {u = u} a r) = let h = k.dos t a in let i = k.dos u a in omega (arith, h, i)
  rule_total (shorter_switch {s = s} {u = u} c r) = let h = k.switches s c in let i = k.switches u c in omega (arith, h, i)
  rule_total (neighbours m a b n) =
      let h = k.ifs (Off m) a Nil in let i = k.ifs (Off m) b Nil in let j = k.ifs (Off m) (join a b) Nil in let p = total-join f a b in
      omega (arith, h, i, j, p)
  rule_total (nested t u a o i) = let h = k.ifs t (one (If u a Nil)) Nil in let j = k.ifs u a Nil in let p = k.ifs (round t u) a Nil in omega (arith, h, j, p)

  mutual
    pub changed_total : {xs ys : Forest} → Changed Simplified xs ys → total f xs ≡ total f ys
    changed_total (here r) = rule_total r
    changed_total (within a b {xs = xs} {ys = ys} c) =
        let h = changed_total c in
        let p = total-join f a (join xs b) in let q = total-join f xs b in let r = total-join f a (join ys b) in let s = total-join f ys b in
        omega (arith, h, p, q, r, s)
    changed_total (in_then t b {xs = xs} {ys = ys} c) = let h = changed_total c in let p = k.ifs t xs b in let q = k.ifs t ys b in omega (arith, h, p, q)
    changed_total (in_else t a {xs = xs} {ys = ys} c) = let h = changed_total c in let p = k.ifs t a xs in let q = k.ifs t a ys in omega (arith, h, p, q)
    changed_total (in_while t {xs = xs} {ys = ys} c) = let h = changed_total c in let p = k.whiles t xs in let q = k.whiles t ys in omega (arith, h, p, q)
    changed_total (in_do t {xs = xs} {ys = ys} c) = let h = changed_total c in let p = k.dos t xs in let q = k.dos t ys in omega (arith, h, p, q)
    changed_total (in_for g t u {xs = xs} {ys = ys} c) = let h = changed_total c in let p = k.fors g t u xs in let q = k.fors g t u ys in omega (arith, h, p, q)
    changed_total (in_switch s {c = c} {d = d} r) = let h = changed_total_in r in let p = k.switches s c in let q = k.switches s d in omega (arith, h, p, q)
    changed_total (in_block {xs = xs} {ys = ys} c) = let h = changed_total c in let p = k.blocks xs in let q = k.blocks ys in omega (arith, h, p, q)

    pub changed_total_in : {c d : Sections} → ChangedSections Simplified c d → total_in f c ≡ total_in f d
    changed_total_in (in_section cases default ends c r) = let h = changed_total r in omega (arith, h)
    changed_total_in (in_later cases default ends a r) = let h = changed_total_in r in omega (arith, h)

-- ---- exits

exits_alike : {xs ys : Forest} → Better xs ys → breaks xs + continues xs ≡ breaks ys + continues ys
exits_alike h = let p = h.stops in let q = h.goes in omega (arith, p, q)

-- what two lists count alike
pub record SameNumbers (xs ys : Forest) : Type 0 where
  pub jumps : jumps xs ≡ jumps ys
  pub exits : breaks xs + continues xs ≡ breaks ys + continues ys

pub same_numbers : {xs ys : Forest} → Changed Simplified xs ys → SameNumbers xs ys
same_numbers {xs = xs} {ys = ys} c = record { jumps = changed_total jump_of counts_jumps c; exits = exits_alike (changed_better xs ys c) }

-- the breaks of the sections of a switch
pub section_breaks : {c d : Sections} → ChangedSections Simplified c d → breaks_in c ≡ breaks_in d
section_breaks (in_section cases default ends c {xs = xs} {ys = ys} r) = let h = (changed_better xs ys r).stops in omega (arith, h)
section_breaks (in_later cases default ends a r) = let h = section_breaks r in omega (arith, h)
