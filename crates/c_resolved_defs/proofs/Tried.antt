-- The definitions tried: a body with an outer and an inner `x`, what is refused, formats, and a whole program.
use Rattle.std.proofs.Common.{ℕ, pos, Bool, true, false, List, [], ◌∷◌, codes, Option, Some, None, ◌≡◌, ◌==◌, is_some, true≢false, inl, inr, refl, ap, sym, arith}
use Rattle.std.proofs.lemmas.Int.{ints}
use Rattle.c_types.specs.declared.kinds.IntKind.{IntKind}
use Rattle.c_types.specs.declared.kinds.IntKind.TheVariants.{Int, Long}
use Rattle.c_types.specs.declared.kinds.ArithOp.TheVariants.{Add}
use Rattle.c_types.specs.Numbers.{IsInRange}
use Rattle.c_tree.specs.declared.tree.Slot.{Slot}
use Rattle.c_tree.specs.declared.tree.Home.TheVariants as H
use Rattle.c_tree.specs.declared.tree.BinaryOp.TheVariants.{Arith, Less}
use Rattle.c_tree.specs.declared.tree.Function.{Function}
use Rattle.c_tree.specs.declared.tree.Top.TheVariants as T
use Rattle.c_tree.specs.declared.tree.Program.{Program}
use Rattle.c_tree.specs.ExpressionTrees.{ExpressionTree, NodeTree, Typed, Var, Number, Read, Binary, Assign}
use Rattle.c_tree.specs.TestTrees.{Source}
use Rattle.c_tree.specs.Trees.{Forest, Nil, Then, Evaluate, Return, If, Block, Local, Goto, Mark, trees_of}
use Rattle.c_resolved_defs.specs.Kinds.{KindsAgree, HasValue, wanted}
use Rattle.c_resolved_defs.specs.Scopes.{Meaning, AVariable, Scope, at_start, inside, with_parameters, AreBound}
use Rattle.c_resolved_defs.specs.Verbatims.{IsComment}
use Rattle.c_resolved_defs.specs.Form.{gathered, declared_slot, marked_label, numbers_from}
use Rattle.c_resolved_defs.specs.PrintableStatements.{depth}
use Rattle.c_resolved_defs.specs.Limits.{no_counts, most_counted}
use Rattle.c_resolved_defs.specs.Resolved.{IsResolvedWith, IsResolvedFunction}

-- ---- int f(int x) { again: x = x + 1; { int x = x; if (x < 3) goto again; } return x; }

abbrev x_slot : Slot
x_slot = record { name = codes "x"; kind = Int; cells = None; constant = false }

abbrev two_slots : List Slot
two_slots = x_slot ∷ x_slot ∷ []

abbrev int : NodeTree → ExpressionTree
int n = Typed (Some Int) n

abbrev read : ℕ → ExpressionTree
read k = int (Read (Var (H.Slot k)))

abbrev number : ℕ → ExpressionTree
number n = int (Number (pos n))

abbrev adds : ExpressionTree
adds = int (Assign (Var (H.Slot 0)) (int (Binary (Arith Add) (read 0) (number 1))))

abbrev inner : Forest
inner = Then (Local 1 (Some (read 1 ∷ []))) (Then (If (Source (int (Binary Less (read 1) (number 3)))) (Then (Goto 0) Nil) Nil) Nil)

abbrev body : Forest
body = Then (Mark 0) (Then (Evaluate adds) (Then (Block inner) (Then (Return (Some (read 0))) Nil)))

abbrev scopes : List Scope
scopes = with_parameters 1 0 two_slots (inside at_start)

body_bound : AreBound two_slots scopes body
body_bound = (
  tt,
  (
    (refl, (tt, (tt, ((refl, tt), (tt, tt))))),
    (
      ((refl, ((refl, tt), tt)), (((tt, ((refl, tt), (tt, tt))), (tt, tt), tt), tt)),
      ((refl, tt), tt),
    ),
  ),
)

body_slots : gathered declared_slot body ≡ numbers_from 1 1
body_slots = refl

body_labels : gathered marked_label body ≡ numbers_from 0 1
body_labels = refl

-- a list of an `if` in a block in the body; the operator of `x + 1` and the `=` count
body_measures : (depth body ≡ 2) × (most_counted body ≡ 2)
body_measures = (refl, refl)

-- kinds agree in its first expression
adds_agree : KindsAgree (record { tops = []; slots = two_slots }) adds
adds_agree =
    let v : HasValue (read 0) = record { operand = tt; kind = tt } in
    let w : HasValue (number 1) = record { operand = tt; kind = tt } in
    let s : HasValue (int (Binary (Arith Add) (read 0) (number 1))) = record { operand = tt; kind = tt } in
    let one : IsInRange Int (pos 1) = record { from_least = grind (arith, ints); to_greatest = grind (arith, ints) } in
    (((refl, refl), s), (tt, ((v, w, refl), (((refl, refl), tt), (one, tt)))))

-- ---- what is refused

abbrev is_long : Option IntKind → Bool
is_long (Some Long) = true
is_long _ = false

one_or_long : true ≡ false → ⊥
one_or_long e = true≢false e

abbrev slot_number : Option Meaning → ℕ
slot_number (Some (AVariable (H.Slot k))) = k
slot_number _ = 0

zero_one : (n : ℕ) → n ≡ 0 → n ≡ 1 → ⊥
zero_one n e f = grind (arith)

-- the inner `x` behind its block
past_block : AreBound two_slots scopes (Then (Block inner) (Then (Return (Some (read 1))) Nil)) → ⊥
past_block h = let e : (slot_number (Some (AVariable (H.Slot 0)))) ≡ 1 = ap slot_number h.1.0.0 in zero_one 0 refl e

-- a second `x` in the scope of the first
twice : AreBound two_slots scopes (Then (Local 1 None) Nil) → ⊥
twice h = is_there h.0.0
  where
    is_there : Some (AVariable (H.Slot 0)) ≡ None → ⊥
    is_there e = true≢false (ap is_some e)

-- an int where the kind of `x + 1` is a long
wrong_kind : KindsAgree (record { tops = []; slots = two_slots }) (Typed (Some Long) (Binary (Arith Add) (read 0) (number 1))) → ⊥
wrong_kind h = one_or_long (ap is_long h.0.2)

-- ---- comments

a_line : IsComment (codes "// a")
a_line = (refl, inl (refl, record { whole = refl; ended = refl }))

-- a `\` in front of the newline
continued : IsComment (codes "// a\\") → ⊥
continued (e, inl h) = true≢false (sym h.1.whole)
continued (e, inr h) = true≢false (ap (λ n. n == 47) h.0)

-- ---- formats

short_long : wanted (codes "%d%%%lu\n") ≡ Some (false ∷ true ∷ [])
short_long = refl

no_float : wanted (codes "%f") ≡ None
no_float = refl

-- ---- int main(void) { }

abbrev main : Function
main = record { name = codes "main"; result = Some Int; file_only = false; params = 0; slots = []; labels = []; body = Some []; flat = false }

abbrev program : Program
program = record { tops = T.Function main ∷ [] }

main_resolved : IsResolvedFunction no_counts program.tops main
unfolding trees_of
main_resolved = record {
  form = record { unflat = refl; parameters = grind (arith); prototype = λ e. (refl, refl); items = tt; slots = refl; labels = refl; cases = tt; exits = refl };
  kinds = tt;
  returns = tt;
  cases = tt;
  consts = tt;
  lengths = record { parameters = tt; others = tt };
  initialised = tt;
  untangled = tt;
}

program_resolved : IsResolvedWith no_counts program
unfolding trees_of
program_resolved = record {
  spelled = (record { named = (refl, refl); parameters = tt; all_named = λ e. tt; labels = tt; body = record { items = tt; shallow = grind (arith) } }, tt);
  bound = (record { named = tt; unknown = refl; parameters = tt; body = tt }, tt);
  declarations = (tt, tt);
  main = ((λ e. record { result = refl; parameters = refl; public = refl }), tt);
  tops = (main_resolved, tt);
}
