-- Each `break` and `continue` has its construct, and each nested case label stands in a switch.
use Rattle.std.proofs.Common.{ℕ, ◌+◌, false, ◌||◌, List, [], ◌∷◌, ◌≡◌, refl, sym, ◌∙◌, true≢false, arith}
use Rattle.c_tree.specs.Trees.{Tree, Forest, Nil, Then, SectionTree, Evaluate, Return, Local, Goto, Mark, Note, join, sections}
use Rattle.c_tree.specs.Exits.{breaks, breaks_of, continues, continues_of, continues_in}
use Rattle.c_tree.proofs.ExitsKept.{breaks-join, continues-join}
use Rattle.c_statements.specs.Context.{Around, in_switch}
use Rattle.c_resolved_defs.specs.Form.{HasNoLoose}
use Rattle.c_resolved_defs.specs.Within.{Each}
use Rattle.c_resolving_laws.proofs.SectionTrees.{without_end}
use Rattle.c_resolving_laws.proofs.Surroundings.{single, IsPlainLeaf, Surrounded}

-- where no construct is around, none is asked for
pub record Exits (a : Around) (x : Forest) : Type 0 where
  pub breaking : (a.loop || a.switch) ≡ false → breaks x ≡ 0
  pub continuing : a.loop ≡ false → continues x ≡ 0
  pub arriving : a.switch ≡ false → HasNoLoose x

loose_join : (x y : Forest) → HasNoLoose x → HasNoLoose y → HasNoLoose (join x y)
loose_join Nil y h k = k
loose_join (Then t x) y h k = (h.0, loose_join x y h.1 k)

none_sum : (a b : ℕ) → a ≡ 0 → b ≡ 0 → a + b ≡ 0
none_sum a b e f = omega arith

left_none : (a b : ℕ) → a + b ≡ 0 → a ≡ 0
left_none a b e = omega arith

right_none : (a b : ℕ) → a + b ≡ 0 → b ≡ 0
right_none a b e = omega arith

breaks_cut : (x : Forest) → breaks x ≡ 0 → breaks (without_end x) ≡ 0
breaks_cut Nil e = refl
breaks_cut (Then t Nil) e = refl
breaks_cut (Then t (Then u x)) e = none_sum (breaks_of t) (breaks (without_end (Then u x))) (left_none (breaks_of t) (breaks (Then u x)) e)
    (breaks_cut (Then u x) (right_none (breaks_of t) (breaks (Then u x)) e))

continues_cut : (x : Forest) → continues x ≡ 0 → continues (without_end x) ≡ 0
continues_cut Nil e = refl
continues_cut (Then t Nil) e = refl
continues_cut (Then t (Then u x)) e =
    none_sum (continues_of t) (continues (without_end (Then u x))) (left_none (continues_of t) (continues (Then u x)) e)
    (continues_cut (Then u x) (right_none (continues_of t) (continues (Then u x)) e))

loose_cut : (x : Forest) → HasNoLoose x → HasNoLoose (without_end x)
loose_cut Nil h = tt
loose_cut (Then t Nil) h = tt
loose_cut (Then t (Then u x)) h = (h.0, loose_cut (Then u x) h.1)

leaf_exits : (a : Around) (x : Tree) → IsPlainLeaf x → Exits a (single x)
leaf_exits a (Evaluate e) h = record { breaking = λ e. refl; continuing = λ e. refl; arriving = λ e. (tt, tt) }
leaf_exits a (Return e) h = record { breaking = λ e. refl; continuing = λ e. refl; arriving = λ e. (tt, tt) }
leaf_exits a (Local k given) h = record { breaking = λ e. refl; continuing = λ e. refl; arriving = λ e. (tt, tt) }
leaf_exits a (Goto l) h = record { breaking = λ e. refl; continuing = λ e. refl; arriving = λ e. (tt, tt) }
leaf_exits a (Mark l) h = record { breaking = λ e. refl; continuing = λ e. refl; arriving = λ e. (tt, tt) }
leaf_exits a (Note bs) h = record { breaking = λ e. refl; continuing = λ e. refl; arriving = λ e. (tt, tt) }
leaf_exits a _ h = absurd h

sections_continue : (a : Around) (ss : List SectionTree) → Each (λ (c : SectionTree). Exits (in_switch a) c.list) ss → a.loop ≡ false →
    continues_in (sections ss) ≡ 0
sections_continue a [] h e = refl
sections_continue a (s ∷ ss) h e = none_sum (continues s.list) (continues_in (sections ss)) (h.0.continuing e) (sections_continue a ss h.1 e)

no_more : (n : ℕ) → n ≡ 0 → n + 0 ≡ 0
no_more n e = omega arith

pub exits_surrounded : Surrounded Exits
exits_surrounded = record {
  nil = λ a. record { breaking = λ e. refl; continuing = λ e. refl; arriving = λ e. tt };
  joined = λ a x y h k. record {
    breaking = λ e. breaks-join x y ∙ none_sum (breaks x) (breaks y) (h.breaking e) (k.breaking e);
    continuing = λ e. continues-join x y ∙ none_sum (continues x) (continues y) (h.continuing e) (k.continuing e);
    arriving = λ e. loose_join x y (h.arriving e) (k.arriving e);
  };
  cut = λ a x h. record {
    breaking = λ e. breaks_cut x (h.breaking e);
    continuing = λ e. continues_cut x (h.continuing e);
    arriving = λ e. loose_cut x (h.arriving e);
  };
  leaf = leaf_exits;
  ifs = λ a t x y h k. record {
    breaking = λ e. no_more (breaks x + breaks y) (none_sum (breaks x) (breaks y) (h.breaking e) (k.breaking e));
    continuing = λ e. no_more (continues x + continues y) (none_sum (continues x) (continues y) (h.continuing e) (k.continuing e));
    arriving = λ e. ((h.arriving e, k.arriving e), tt);
  };
  whiles = λ a t x h. record { breaking = λ e. refl; continuing = λ e. refl; arriving = λ e. (h.arriving e, tt) };
  dos = λ a t x h. record { breaking = λ e. refl; continuing = λ e. refl; arriving = λ e. (h.arriving e, tt) };
  fors = λ a f t u x h k. record {
    breaking = λ e. no_more (breaks f) (h.breaking e);
    continuing = λ e. no_more (continues f) (h.continuing e);
    arriving = λ e. (k.arriving e, tt);
  };
  switches = λ a s ss h. record {
    breaking = λ e. refl;
    continuing = λ e. no_more (continues_in (sections ss)) (sections_continue a ss h e);
    arriving = λ e. (tt, tt);
  };
  block = λ a x h. record {
    breaking = λ e. no_more (breaks x) (h.breaking e);
    continuing = λ e. no_more (continues x) (h.continuing e);
    arriving = λ e. (h.arriving e, tt);
  };
  arrives = λ a e s. record { breaking = λ e. refl; continuing = λ e. refl; arriving = λ e. absurd (true≢false (sym s ∙ e)) };
  breaks = λ a s. record { breaking = λ e. absurd (true≢false (sym s ∙ e)); continuing = λ e. refl; arriving = λ e. (tt, tt) };
  continues = λ a s. record { breaking = λ e. refl; continuing = λ e. absurd (true≢false (sym s ∙ e)); arriving = λ e. (tt, tt) };
}
