-- The tests of a switch that is dissolved, run: they jump to the label of the case that is selected, or pass.
use mathlib.Core.Path.{ap₂}
use Rattle.std.proofs.Common.{ℕ, ℤ, Bool, true, false, cond, List, [], ◌∷◌, Option, Some, None, Result, Ok, option_map, ◌≡◌, refl, sym, ◌∙◌, ap, subst}
use Rattle.std.specs.Option.{option_map_or}
use Rattle.std.specs.Ordering.{int_eq}
use Rattle.c_types.specs.declared.kinds.IntKind.{IntKind}
use Rattle.c_types.specs.declared.kinds.IntKind.TheVariants.{Char, UChar, Int, UInt, Long, ULong}
use Rattle.c_types.specs.declared.trap.Trap.{Trap}
use Rattle.c_types.specs.Numbers.{converted, promoted, usual_kind}
use Rattle.c_types.proofs.Residues.{converted-in_range, converted-in_kind}
use Rattle.c_tree.specs.declared.tree.Home.TheVariants as H
use Rattle.c_tree.specs.declared.tree.BinaryOp.TheVariants.{Equal, Arith}
use Rattle.c_tree.specs.ExpressionTrees.{ExpressionTree, Typed, Read, Var}
use Rattle.c_tree.specs.Constants.{kind_of, constant_value}
use Rattle.c_tree.specs.Operators.{truth, unary_result, binary_result}
use Rattle.c_tree.specs.TestTrees.{Source}
use Rattle.c_tree.specs.Trees.{Tree, Forest, Nil, Then, Sections, NoSection, Section, If, While, Do, For, Block, Goto, Arrival, join}
use Rattle.c_tree.specs.Changed.{one}
use Rattle.jump_meaning.specs.Values.{OfCall, Holds, Value, Integer, Designates}
use Rattle.jump_meaning.specs.Code.{Code, items_of}
use Rattle.jump_meaning.specs.World.{World, holder, owner, number_held}
use Rattle.jump_meaning.specs.Operations.{operand_kind, holds, outcome}
use Rattle.jump_meaning.specs.Effects.{Computes, Loads, AppliesUnary, AppliesBinary, left}
use Rattle.jump_meaning.specs.Tasks.{Task, Runs, Works, Branches, items}
use Rattle.jump_meaning.specs.Search.{or_else, Goal, ToCase, is_case, find}
use Rattle.jump_meaning.specs.Step.{Guards, Frame, State, At, perform}
use Rattle.jump_meaning.proofs.TaskFacts.{items_join}
use Rattle.core_laws.proofs.Reach.{Reach, stay, more, reach_on}
use Rattle.core_laws.proofs.Match.{SafeAt}
use Rattle.flat_laws.specs.Pieces.{Names, label_if, wanted_case, wanted, wanted_in, wanted_among, Spells, sp_number, sp_unary, sp_binary, IsNumber, is_number, test_for, tests_for, tests, tests_in, tests_among}

pub converted_twice : (k : IntKind) (z : ℤ) → converted k (converted k z) ≡ converted k z
converted_twice k z = converted-in_kind k (converted k z) (converted-in_range k z)

usual_promoted : (j : IntKind) → usual_kind (promoted j) (promoted j) ≡ promoted j
usual_promoted Char = refl
usual_promoted UChar = refl
usual_promoted Int = refl
usual_promoted UInt = refl
usual_promoted Long = refl
usual_promoted ULong = refl

-- two numbers of a promoted kind are compared as they are
compared : (j : IntKind) (x y : ℤ) → binary_result Equal (promoted j) (promoted j) (converted (promoted j) x) (converted (promoted j) y) ≡ Ok
    (truth (int_eq (converted (promoted j) x) (converted (promoted j) y)))
compared j x y =
    let k = promoted j in
    ap₂ (λ a b. Ok (truth (int_eq a b))) (ap (λ i. converted i (converted k x)) (usual_promoted j) ∙ converted_twice k x)
    (ap (λ i. converted i (converted k y)) (usual_promoted j) ∙ converted_twice k y)

module _ (q : Code) (f : List ℕ) (g : Guards) (cs : List Frame) (w : World) where
  abbrev pub at : List Task → List Value → State
  at k v = At f g k v cs w

  abbrev pub RunsTo : State → State → Type 0
  RunsTo c d = Reach q SafeAt c d

  pub turn : {c d e : State} → c ≡ d → RunsTo d e → RunsTo c e
  turn {e = e} p r = subst (λ z. RunsTo z e) (sym p) r

  pub turned : {c d e : State} → RunsTo c d → d ≡ e → RunsTo c e
  turned {c = c} r p = subst (λ z. RunsTo c z) p r

  given : (x : Result ℤ Trap) (n : ℤ) (k : List Task) (v : List Value) → x ≡ Ok n → RunsTo (perform q (left (outcome x w) v) f g k cs) (at k (Integer n ∷ v))
  given x n k v e = subst (λ x. RunsTo (perform q (left (outcome x w) v) f g k cs) (at k (Integer n ∷ v))) (sym e) stay

  -- a constant
  pub spelled : {c : ExpressionTree} {n : ℤ} → Spells c n → (k : List Task) (v : List Value) → RunsTo (at (Works (Computes c) ∷ k) v) (at k (Integer n ∷ v))
  spelled (sp_number j n) k v = more tt stay
  spelled (sp_unary op j {a = a} {m = m} {n = n} h e) k v =
      more tt (reach_on (spelled h (Works (AppliesUnary op (kind_of a)) ∷ k) v) (more tt (given (unary_result op (operand_kind (kind_of a)) m) n k v e)))
  spelled (sp_binary op j {a = a} {b = b} {m = m} {i = i} {n = n} h l e) k v =
      more tt (reach_on (spelled h (Works (Computes b) ∷ Works (AppliesBinary (Arith op) (kind_of a) (kind_of b)) ∷ k) v)
      (reach_on (spelled l (Works (AppliesBinary (Arith op) (kind_of a) (kind_of b)) ∷ k) (Integer m ∷ v))
      (more tt (given (binary_result (Arith op) (operand_kind (kind_of a)) (operand_kind (kind_of b)) m i) n k v e))))

  module _ (v : ℕ) (kind : IntKind) (cells : ℕ → ℤ) (n : ℤ) (held : w.variables (OfCall w.calls v) ≡ Holds kind None cells) (is : cells 0 ≡ n) where
    -- the variable that keeps the selector
    reads : (j : Option IntKind) (k : List Task) (u : List Value) → RunsTo (at (Works (Computes (Typed j (Read (Var (H.Slot v))))) ∷ k) u)
        (at k (Integer n ∷ u))
    reads j k u =
        let o : owner (H.Slot v) w ≡ OfCall w.calls v = ap (holder (OfCall w.calls v)) held in
        more tt (more tt (turn (ap (λ z. at (Works Loads ∷ k) (Designates z 0 ∷ u)) o) (more tt
        (turn (ap (λ z. at k (Integer (number_held z 0) ∷ u)) held ∙ ap (λ z. at k (Integer z ∷ u)) is) stay))))

    module _ (j : IntKind) (pk : kind ≡ promoted j) (x : ℤ) (nk : n ≡ converted (promoted j) x)
        (number : IntKind → ℤ → ExpressionTree) (numbers : (k : IntKind) (z : ℤ) → IsNumber (number k (converted k z)) k (converted k z)) (names : Names) where
      abbrev here : List Task → State
      here k = at k []

      jumps : (m : ℕ) (k : List Task) → RunsTo (here (Runs (Goto m) ∷ k)) (here (find m (items_of (q.functions f))))
      jumps m k = more tt stay

      equal : (i : Option IntKind) (y : ℤ) → i ≡ Some (promoted j) → binary_result Equal (operand_kind (Some (promoted j))) (operand_kind i) n
          (converted (promoted j) y) ≡ Ok (truth (int_eq n (converted (promoted j) y)))
      equal i y e =
          ap (λ i. binary_result Equal (promoted j) (operand_kind i) n (converted (promoted j) y)) e
          ∙ subst (λ n. binary_result Equal (promoted j) (promoted j) n (converted (promoted j) y) ≡ Ok (truth (int_eq n (converted (promoted j) y))))
          (sym nk) (compared j x y)

      branch : (b : Bool) (m : ℕ) (k : List Task) → RunsTo (here (cond (holds (Integer (truth b))) (Runs (Goto m) ∷ k) k)) (here (cond b (Runs (Goto m) ∷ k) k))
      branch true m k = stay
      branch false m k = stay

      one_test : (y : ℤ) (m : ℕ) (k : List Task) → RunsTo
          (here (Runs (If (Source (is_number (promoted j) v (number (promoted j) (converted (promoted j) y)))) (one (Goto m)) Nil) ∷ k))
          (here (cond (int_eq n (converted (promoted j) y)) (Runs (Goto m) ∷ k) k))
      one_test y m k =
          let c = number (promoted j) (converted (promoted j) y) in
          let h = numbers (promoted j) y in
          let rest = Branches (one (Goto m)) Nil ∷ k in
          let marks = Works (AppliesBinary Equal (Some (promoted j)) (kind_of c)) ∷ rest in
          more tt (more tt (more tt (reach_on (reads (Some (promoted j)) (Works (Computes c) ∷ marks) [])
          (reach_on (spelled h.spelled marks (Integer n ∷ []))
          (more tt (reach_on (given (binary_result Equal (operand_kind (Some (promoted j))) (operand_kind (kind_of c)) n (converted (promoted j) y))
          (truth (int_eq n (converted (promoted j) y))) rest [] (equal (kind_of c) y h.kind))
          (more tt (branch (int_eq n (converted (promoted j) y)) m k))))))))

      -- the tests of some labels go to the one that is wanted, or past them
      abbrev pub GoesTo : Option ℕ → Forest → List Task → Type 0
      GoesTo (Some m) ts k = RunsTo (here (items ts k)) (here (find m (items_of (q.functions f))))
      GoesTo None ts k = RunsTo (here (items ts k)) (here k)

      goes_join : (l m : Option ℕ) (ts us : Forest) (k : List Task) → GoesTo l ts (items us k) → GoesTo m us k → GoesTo (or_else l m) (join ts us) k
      goes_join (Some l) m ts us k p r = turn (ap here (items_join ts us k)) p
      goes_join None (Some m) ts us k p r = turn (ap here (items_join ts us k)) (reach_on p r)
      goes_join None None ts us k p r = turn (ap here (items_join ts us k)) (reach_on p r)

      nothing : (k : List Task) → GoesTo None Nil k
      nothing k = stay

      abbrev goal : Goal
      goal = ToCase (promoted j) n

      goes_one : (e : ExpressionTree) (k : List Task) → GoesTo (label_if (is_case (promoted j) n e) (names (Some e))) (test_for number (promoted j) v names e) k
      goes_one e k = at_value (constant_value e)
        where
          at_test : (b : Bool) (y : ℤ) → int_eq n (converted (promoted j) y) ≡ b →
              GoesTo (label_if b (names (Some e)))
              (one (If (Source (is_number (promoted j) v (number (promoted j) (converted (promoted j) y)))) (one (Goto (names (Some e)))) Nil)) k
          at_test true y h = reach_on (turned (one_test y (names (Some e)) k) (ap (λ b. here (cond b (Runs (Goto (names (Some e))) ∷ k) k)) h))
              (jumps (names (Some e)) k)
          at_test false y h = turned (one_test y (names (Some e)) k) (ap (λ b. here (cond b (Runs (Goto (names (Some e))) ∷ k) k)) h)

          at_value : (o : Option ℤ) → GoesTo (label_if (option_map_or (int_eq n) (option_map (converted (promoted j)) o) false) (names (Some e)))
              (option_map_or (λ z. one (If (Source (is_number (promoted j) v (number (promoted j) z))) (one (Goto (names (Some e)))) Nil))
              (option_map (converted (promoted j)) o) Nil) k
          at_value None = nothing k
          at_value (Some y) = at_test (int_eq n (converted (promoted j) y)) y refl

      goes_cases : (es : List ExpressionTree) (default : Bool) (k : List Task) →
          GoesTo (wanted_case goal names es default) (tests_for number (promoted j) v names es) k
      goes_cases [] true k = nothing k
      goes_cases [] false k = nothing k
      goes_cases (e ∷ es) default k =
          goes_join (label_if (is_case (promoted j) n e) (names (Some e))) (wanted_case goal names es default)
          (test_for number (promoted j) v names e) (tests_for number (promoted j) v names es) k
          (goes_one e (items (tests_for number (promoted j) v names es) k)) (goes_cases es default k)

      mutual
        goes : (a : Forest) (k : List Task) → GoesTo (wanted goal names a) (tests number (promoted j) v names a) k
        goes Nil k = nothing k
        goes (Then y a) k = goes_join (wanted_in goal names y) (wanted goal names a) (tests_in number (promoted j) v names y)
            (tests number (promoted j) v names a) k (goes_in y (items (tests number (promoted j) v names a) k)) (goes a k)

        goes_in : (y : Tree) (k : List Task) → GoesTo (wanted_in goal names y) (tests_in number (promoted j) v names y) k
        goes_in (If t a b) k = goes_join (wanted goal names a) (wanted goal names b) (tests number (promoted j) v names a)
            (tests number (promoted j) v names b) k (goes a (items (tests number (promoted j) v names b) k)) (goes b k)
        goes_in (While t a) k = goes a k
        goes_in (Do a t) k = goes a k
        goes_in (For i t u a) k = goes a k
        goes_in (Block a) k = goes a k
        goes_in (Arrival (Some e)) k = goes_one e k
        goes_in _ k = nothing k

      pub goes_among : (d : Sections) (k : List Task) → GoesTo (wanted_among goal names d) (tests_among number (promoted j) v names d) k
      goes_among NoSection k = nothing k
      goes_among (Section cases default a ends d) k =
          goes_join (wanted_case goal names cases default) (or_else (wanted goal names a) (wanted_among goal names d))
          (tests_for number (promoted j) v names cases) (join (tests number (promoted j) v names a) (tests_among number (promoted j) v names d)) k
          (goes_cases cases default (items (join (tests number (promoted j) v names a) (tests_among number (promoted j) v names d)) k))
          (goes_join (wanted goal names a) (wanted_among goal names d) (tests number (promoted j) v names a)
          (tests_among number (promoted j) v names d) k (goes a (items (tests_among number (promoted j) v names d) k)) (goes_among d k))
