-- The source form of a printed expression is read as the expression (ISO/IEC 9899:2011, 6.5).
use Rattle.std.proofs.Common.{◌≡◌, ◌+◌, ℕ, ℤ, pos, negsuc, Bool, true, false, cond, List, [], ◌∷◌, ◌++◌, Option, Some, None, refl, ap, sym, subst, ◌∙◌, arith}
use Rattle.std.specs.Prelude.{option_map, IsSomeAnd}
use Rattle.c_types.specs.declared.kinds.IntKind.{IntKind}
use Rattle.c_types.specs.declared.kinds.IntKind.TheVariants as K
use Rattle.c_types.specs.Words.{is_digit}
use Rattle.c_types.specs.Numbers.{usual_kind}
use Rattle.c_tree.specs.declared.tree.UnaryOp.{UnaryOp}
use Rattle.c_tree.specs.declared.tree.BinaryOp.{BinaryOp}
use Rattle.c_tree.specs.declared.tree.Place as place
use Rattle.c_tree.specs.declared.tree.Node as node
use Rattle.c_tree.specs.declared.tree.Node.{Node}
use Rattle.c_tree.specs.ExpressionTrees.{ExpressionTree, PlaceTree, NodeTree, Arguments, NoArgument, Argument}
use Rattle.c_tree.specs.ExpressionTrees as t
use Rattle.c_tree.specs.Constants.{kind_of, HasKind}
use Rattle.c_tree.specs.TextExpressions.{unary_spelling, binary_spelling, count_spelling, binary_level}
use Rattle.c_lexer.specs.Marks.{mark_of}
use Rattle.c_lexer.specs.Numbers.{is_run, integer_of}
use Rattle.c_grammar.specs.ExpressionSyntax.{expression_end, target_end, type_end}
use Rattle.c_grammar.specs.Terms.{Form, At, Prefix, Suffix, Assign}
use Rattle.c_grammar.specs.Terms as source
use Rattle.c_grammar.specs.Words.{is_character, character}
use Rattle.c_grammar.specs.DecodingSteps.{decoded}
use Rattle.c_kinds.specs.declared.typed.Typed.{Typed}
use Rattle.c_kinds.specs.declared.typed.Typed.TheVariants.{Text, Array}
use Rattle.c_kinds.specs.Marks.{step_of, counts_up, unary_op, binary_op, update_op, unary_kind, binary_kind}
use Rattle.c_kinds.specs.Scopes.{Env, Faults}
use Rattle.c_kinds.specs.Values.{of_kind, of_result, value_of, use_fault, number, character_constant, writable, unary, counting, cast, cast_void, binary, choice, assignment}
use Rattle.c_kinds.specs.Names.{named, name_fault}
use Rattle.c_kinds.specs.Typing.{constant, form_typed, form_faults, form_target, form_target_faults}
use Rattle.c_resolved_defs.specs.Names.{Names, home_of}
use Rattle.c_resolved_defs.specs.Names as names
use Rattle.c_resolved_defs.specs.Kinds.{IsOperand, HasValue, IsArray, of_both, PlaceAgrees, KindAgrees, IsWritable, WritesNoConst}
use Rattle.c_resolved_defs.specs.Kinds as resolved
use Rattle.c_resolved_defs.specs.Scopes.{AConstant, AFunction, HomeIsBound, NameIsBound}
use Rattle.c_resolved_defs.specs.Scopes as scopes
use Rattle.c_resolved_defs.specs.Within.{Within, PlaceWithin, ArgumentsWithin}
use Rattle.c_resolved_defs.specs.PrintableExpressions.{IsConstant, ArgumentPrints, Prints, PlacePrints, AllPrint}
use Rattle.print_laws.specs.Reread.{number_text}
use Rattle.print_laws.specs.ExpressionDerivations.{type_of, as_assignment, as_conditional, as_binary, as_unary, argument_of, derivation_of, target_of}
use Rattle.print_laws.proofs.ExpressionFits.{mark_high}
use Rattle.print_laws.proofs.Neighbours.{differs, first_of_and}
use Rattle.print_laws.proofs.Numbers.{integer_in, number_is}
use Rattle.reread_parts_laws.specs.WrittenExpressions.{expression_form, assignment_form, conditional_form, binary_form, unary_form, target_form, argument_form}
use Rattle.reread_parts_laws.specs.Bindings.{ScopesAgree}
use Rattle.reread_parts_laws.proofs.Mirrors.{place_in}
use Rattle.reread_parts_laws.proofs.Operands.{beginning, ending, opened, assigned, chosen, bound, tight}
use Rattle.reread_parts_laws.proofs.ExpressionWords.{marked, Spelled, PlaceIsSpelled, AllAreSpelled, argument_end_is}
use Rattle.reread_parts_laws.proofs.Characters.{character_is, text_is}
use Rattle.reread_parts_laws.proofs.Marks.{unary_steps, unary_is, binary_is, update_is, step_is, counts_is, unary_same, binary_same, kind_is}
use Rattle.reread_parts_laws.proofs.Readings.{HasValued, has_valued, Reads, reads_as, value_is, used_clear, dropped_clear, drops_is, there, holds_of, meaning_is, ReadsPlace, var_reads, cell_reads, names_variable, comma_reads}
use Rattle.reread_parts_laws.proofs.ArgumentsRead.{Passes, AllPass, call_reads}

-- ---- numbers

run_is_number : (w : List ℕ) → is_run w ≡ true → is_character w ≡ false
run_is_number [] h = absurd cc
run_is_number (b ∷ w) h = differs is_digit 39 b refl (first_of_and (is_digit b) _ h)

number_read : (kind : Option IntKind) (z : ℤ) → IsConstant kind z → number (integer_in kind z) ≡ of_result kind (node.Number z)
number_read (Some kind) (pos n) h = refl
number_read (Some K.Char) (negsuc n) h = absurd h
number_read (Some K.UChar) (negsuc n) h = absurd h
number_read (Some K.Int) (negsuc n) h = absurd h
number_read (Some K.UInt) (negsuc n) h = absurd h
number_read (Some K.Long) (negsuc n) h = absurd h
number_read (Some K.ULong) (negsuc n) h = absurd h
number_read None z h = absurd h

pub number_typed : (kind : Option IntKind) (z : ℤ) (w : List ℕ) → w ≡ number_text kind z → IsConstant kind z → constant w ≡ of_result kind (node.Number z)
number_typed kind z w e h =
    let i = number_is kind z h in
    ap constant e ∙ ap (λ b. cond b (character_constant (character (number_text kind z))) (number (integer_of (number_text kind z))))
    (run_is_number (number_text kind z) (i.0))
    ∙ ap number (i.1) ∙ number_read kind z h

-- ---- marks

module _ (env : Env) where
  prefix_typed : (op : UnaryOp) (at first : ℕ) (form : Form) → env.word at ≡ marked (unary_spelling op) →
      form_typed env (Prefix at (At first form)) ≡ unary op (value_of (form_typed env form))
  prefix_typed op at first form w =
      let n : step_of (mark_of (env.word at)) ≡ None = ap (λ l. step_of (mark_of l)) w ∙ unary_steps op in
      let u : unary_op (mark_of (env.word at)) ≡ op = ap (λ l. unary_op (mark_of l)) w ∙ unary_is op in
      (λ i. elim (n i) as (λ _. Typed) [ Some up ↦ counting up false (writable (form_target env form)) | None ↦ unary (u i) (value_of (form_typed env form)) ])

  prefix_faults : (op : UnaryOp) (at first : ℕ) (form : Form) → env.word at ≡ marked (unary_spelling op) → (vs : Faults)
      → form_faults env (Prefix at (At first form)) vs ≡ use_fault first (form_typed env form) (form_faults env form vs)
  prefix_faults op at first form w vs =
      let n : step_of (mark_of (env.word at)) ≡ None = ap (λ l. step_of (mark_of l)) w ∙ unary_steps op in
      (λ i. elim (n i) as (λ _. Faults) [ Some up ↦ form_target_faults env form vs | None ↦ use_fault first (form_typed env form) (form_faults env form vs) ])

  step_typed : (up : Bool) (at first : ℕ) (form : Form) → env.word at ≡ marked (count_spelling up) →
      form_typed env (Prefix at (At first form)) ≡ counting up false (writable (form_target env form))
  step_typed up at first form w =
      let n : step_of (mark_of (env.word at)) ≡ Some up = ap (λ l. step_of (mark_of l)) w ∙ step_is up in
      (λ i. elim (n i) as (λ _. Typed) [
        | Some x ↦ counting x false (writable (form_target env form))
        | None ↦ unary (unary_op (mark_of (env.word at)))
            (value_of (form_typed env form))
      ])

  step_faults : (up : Bool) (at first : ℕ) (form : Form) → env.word at ≡ marked (count_spelling up) → (vs : Faults) →
      form_faults env (Prefix at (At first form)) vs ≡ form_target_faults env form vs
  step_faults up at first form w vs =
      let n : step_of (mark_of (env.word at)) ≡ Some up = ap (λ l. step_of (mark_of l)) w ∙ step_is up in
      (λ i. elim (n i) as (λ _. Faults) [ Some x ↦ form_target_faults env form vs | None ↦ use_fault first (form_typed env form) (form_faults env form vs) ])

-- ---- kinds

unary_result : (op : UnaryOp) (kind : Option IntKind) (a : ExpressionTree) (v : HasValued a) →
    kind ≡ option_map (resolved.unary_kind op) (kind_of a) → Some (unary_kind op v.valued.kind) ≡ kind
unary_result op kind a v k = ap Some (unary_same op v.valued.kind) ∙ ap (option_map (resolved.unary_kind op)) (sym (v.kind)) ∙ sym k

binary_result : (op : BinaryOp) (kind : Option IntKind) (a b : ExpressionTree) (u : HasValued a) (v : HasValued b) →
    kind ≡ of_both (resolved.binary_kind op) (kind_of a) (kind_of b) → Some (binary_kind op u.valued.kind v.valued.kind) ≡ kind
binary_result op kind a b u v k =
    ap Some (binary_same op u.valued.kind v.valued.kind) ∙ (λ i. of_both (resolved.binary_kind op) (sym (u.kind) i) (sym (v.kind) i)) ∙ sym k

choice_result : (kind : Option IntKind) (a b : ExpressionTree) (u : HasValued a) (v : HasValued b) →
    kind ≡ of_both usual_kind (kind_of a) (kind_of b) → Some (usual_kind u.valued.kind v.valued.kind) ≡ kind
choice_result kind a b u v k = (λ i. of_both usual_kind (sym (u.kind) i) (sym (v.kind) i)) ∙ sym k

module _ (env : Env) where
  binary_reads : (op : BinaryOp) (kind : Option IntKind) (a b : ExpressionTree) (at other x : ℕ) (form behind : Form) →
      env.word x ≡ marked (binary_spelling op) → Reads env form a → Reads env behind b
      → HasKind (kind_of a) → HasKind (kind_of b) → kind ≡ of_both (resolved.binary_kind op) (kind_of a) (kind_of b) →
      Reads env (source.Binary x (At at form) (At other behind)) (t.Typed kind (t.Binary op a b))
  binary_reads op kind a b at other x form behind w r q h j k =
      let u = has_valued a h in
      let v = has_valued b j in
      record {
        typed = (λ i. binary ((ap (λ l. binary_op (mark_of l)) w ∙ binary_is op) i) (value_is env form a r h i) (value_is env behind b q j i))
            ∙ (λ i. of_result (binary_result op kind a b u v k i) (node.Binary op (u.whole i) (v.whole i)));
        clear = λ vs. ap (λ l. use_fault other (form_typed env behind) (form_faults env behind l)) (used_clear env form a r h at vs) ∙
            used_clear env behind b q j other vs;
      }

  choice_reads : (kind : Option IntKind) (a b c : ExpressionTree) (at x y : ℕ) (f d e : Form) → Reads env f a → Reads env d b → Reads env e c →
      HasKind (kind_of a) → HasKind (kind_of b) → HasKind (kind_of c)
      → kind ≡ of_both usual_kind (kind_of b) (kind_of c) → Reads env (source.Choice (At at f) (At x d) (At y e)) (t.Typed kind (t.Conditional a b c))
  choice_reads kind a b c at x y f d e r p q h i j k =
      let u = has_valued a h in
      let v = has_valued b i in
      let w = has_valued c j in
      record {
        typed = (λ z. choice (value_is env f a r h z) (value_is env d b p i z) (value_is env e c q j z)) ∙
            (λ z. of_result (choice_result kind b c v w k z) (node.Conditional (u.whole z) (v.whole z) (w.whole z)));
        clear = λ vs.
            ap (λ l. use_fault y (form_typed env e) (form_faults env e (use_fault x (form_typed env d) (form_faults env d l)))) (used_clear env f a r h at vs)
            ∙ ap (λ l. use_fault y (form_typed env e) (form_faults env e l)) (used_clear env d b p i x vs) ∙ used_clear env e c q j y vs;
      }

-- an argument that is no text
prints_operand : (P : Type 0) (x : ExpressionTree) → IsOperand x → ArgumentPrints P x → P
prints_operand P (t.Typed kind (t.Text bytes)) o h = absurd o
prints_operand P (t.Typed kind _) o h = h

-- ---- expressions

module _ (n : Names) (ss : List scopes.Scope) (env : Env) (agree : ScopesAgree n ss env.scopes) where
  -- the facts of a resolved program that reading goes by
  abbrev pub Fact : ExpressionTree → Type 0
  Fact x = KindAgrees n x × NameIsBound n.slots ss x × WritesNoConst n x

  abbrev The : ℕ → ExpressionTree → Type 0
  The at x = Spelled n.slots env.word at x

  -- a place that is written to
  written : (form : Form) (kind : Option IntKind) (p : PlaceTree) (r : ReadsPlace n ss env agree form kind p) → IsWritable n p
      → (r.slot.constant ≡ false) × (writable (form_target env form) ≡ Some (record { place = place_in p; kind = r.slot.kind; constant = false }))
  written form kind p r w =
      let c = holds_of (names.variable n (home_of p)) (r.slot) (λ s. s.constant ≡ false) (r.is) w in
      (c, ap writable (r.target_is) ∙ (λ i. writable (Some (record { place = place_in p; kind = r.slot.kind; constant = c i }))))

  abbrev AllRead : ℕ → Arguments → Type 0
  AllRead at NoArgument = Unit {0}
  AllRead at (Argument x xs) = (IsOperand x → Reads env (expression_form (beginning 2 at x) (derivation_of x)) x) × AllRead (ending 2 at x + 1) xs

  passes : (x : ExpressionTree) (at : ℕ) → The (beginning 2 at x) x → Within Fact x → ArgumentPrints (Prints n.slots x) x
      → (IsOperand x → Reads env (expression_form (beginning 2 at x) (derivation_of x)) x) → Passes n env at x
  passes (t.Typed kind (t.Text bytes)) at s f p r =
      record {
        typed = (ap (λ w. Text (decoded w ++ [])) s ∙ ap Text (ap (λ w. w ++ []) (text_is bytes p) ∙ append_nothing bytes), (f.0).0);
        clear = λ vs. refl;
      }
    where
      append_nothing : (w : List ℕ) → w ++ [] ≡ w
      append_nothing [] = refl
      append_nothing (b ∷ w) = ap (λ l. b ∷ l) (append_nothing w)
  passes (t.Typed kind (t.Array h)) at s f p r =
      let y = there (names.variable n h) (λ v. IsArray v × (kind ≡ Some v.kind)) ((f.0).0) in
      let v = y.slot in
      let c = y.holds in
      let u = names_variable n ss env agree at h v s ((f.0).1) (y.is) in
      let e = u.named_is ∙ (λ i. cond ((c.0) i) (Array (record { token = at; home = h; kind = v.kind; constant = v.constant }))
      (of_kind v.kind (node.Read (place.Var h)))) in
      record {
        typed = subst (λ o. IsSomeAnd o (λ r.
            (form_typed env (argument_form at (argument_of (t.Typed kind (t.Array h)) (derivation_of (t.Typed kind (t.Array h))))) ≡ Array
            (record { token = at; home = h; kind = r.kind; constant = r.constant })) × (kind ≡ Some r.kind))) (sym (y.is)) (e, c.1);
        clear = u.clear;
      }
  passes (t.Typed kind n) at s f p r = let u = reads_as env _ _ _ (assigned at (t.Typed kind n)).form_is (r tt) in record { typed = u.typed; clear = u.clear }

  all_pass : (xs : Arguments) (at : ℕ) → AllAreSpelled n.slots env.word at xs → ArgumentsWithin Fact xs → AllPrint n.slots xs → AllRead at xs →
      AllPass n env at xs
  all_pass NoArgument at s f p r = tt
  all_pass (Argument x xs) at s f p r = (
    passes x at (s.0) (f.0) (p.0) (r.0),
    subst (λ k. AllPass n env (k + 1) xs) (sym (argument_end_is at x))
        (all_pass xs (ending 2 at x + 1) (s.1) (f.1) (p.1) (r.1)),
  )

  mutual
    pub expression_reads : (x : ExpressionTree) (at : ℕ) → The at x → Within Fact x → Prints n.slots x → IsOperand x →
        Reads env (expression_form at (derivation_of x)) x
    expression_reads (t.Typed kind y) at s f p o = node_reads y kind at s f p o

    node_reads : (y : NodeTree) (kind : Option IntKind) (at : ℕ) → The at (t.Typed kind y) → Within Fact (t.Typed kind y) →
        Prints n.slots (t.Typed kind y) → IsOperand (t.Typed kind y)
        → Reads env (expression_form at (derivation_of (t.Typed kind y))) (t.Typed kind y)
    node_reads (t.Number z) kind at s f p o = record { typed = number_typed kind z (env.word at) s p; clear = λ vs. refl }
    node_reads (t.Character b) kind at s f p o =
        let k = (f.0).0 in
        record {
          typed = ap constant s ∙ ap character_constant (character_is b p) ∙ (λ i. of_result (sym k i) (node.Character b));
          clear = λ vs. refl;
        }
    node_reads (t.EnumName m z) kind at s f p o =
        let k = ((f.0).0).0 in
        let b = meaning_is n ss env agree at m (AConstant z) s ((f.0).1) in
        record {
          typed = (λ i. named at (s i) (b i)) ∙ (λ i. of_result (sym k i) (node.EnumName m z));
          clear = λ vs. ap (λ o. name_fault at o vs) b;
        }
    node_reads (t.Text bytes) kind at s f p o = absurd o
    node_reads (t.Array h) kind at s f p o = absurd o
    node_reads (t.Read q) kind at s f p o =
        let r = place_reads q kind at s ((f.0).0) ((f.0).1) (f.1) p in
        record { typed = r.typed ∙ (λ i. of_result (sym (r.kind_is) i) (node.Read (place_in q))); clear = r.clear }
    node_reads (t.Unary op a) kind at s f p o =
        let k = (f.0).0 in
        let h = k.0 in
        let v = has_valued a (h.kind) in
        let form = unary_form (at + 1) (as_unary (derivation_of a)) in
        let r = reads_as env form _ a (tight (at + 1) a).form_is (expression_reads a (beginning 14 (at + 1) a) (s.1) (f.1) p (h.operand)) in
        record {
          typed = prefix_typed env op at (at + 1) form (s.0) ∙ ap (unary op) (value_is env form a r (h.kind))
              ∙ (λ i. of_result (unary_result op kind a v (k.1) i) (node.Unary op (v.whole i)));
          clear = λ vs. prefix_faults env op at (at + 1) form (s.0) vs ∙ used_clear env form a r (h.kind) (at + 1) vs;
        }
    node_reads (t.Cast a) (Some kind) at s f p o =
        let h = (f.0).0 in
        let v = has_valued a (h.kind) in
        let x = type_end (at + 1) (type_of kind) in
        let form = unary_form (x + 1) (as_unary (derivation_of a)) in
        let r = reads_as env form _ a (tight (x + 1) a).form_is (expression_reads a (beginning 14 (x + 1) a) (s.1) (f.1) p (h.operand)) in
        record {
          typed = (λ i. cast (kind_is env.word kind (at + 1) (s.0) i) (value_is env form a r (h.kind) i)) ∙ (λ i. of_kind kind (node.Cast (v.whole i)));
          clear = λ vs. used_clear env form a r (h.kind) (x + 1) vs;
        }
    node_reads (t.Cast a) None at s f p o =
        let form = unary_form (at + 1 + 1 + 1) (as_unary (derivation_of a)) in
        let r = reads_as env form _ a (tight (at + 1 + 1 + 1) a).form_is (expression_reads a (beginning 14 (at + 1 + 1 + 1) a) (s.1) (f.1) p ((f.0).0)) in
        record {
          typed = ap cast_void (drops_is env form a r);
          clear = λ vs. dropped_clear env form a r (at + 1 + 1 + 1) vs;
        }
    node_reads (t.Binary op a b) kind at s f p o =
        let k = (f.0).0 in
        let h = k.0 in
        let j = k.1 in
        let high = mark_high op in
        let m = binary_level op in
        let x = ending m at a in
        let e = as_binary m (derivation_of a) in
        let d = as_binary (m + 1) (derivation_of b) in
        let u = reads_as env (binary_form at e) _ a (bound m at a high).form_is (expression_reads a (beginning m at a) (s.0) ((f.1).0) (p.0) (h.operand)) in
        let v = reads_as env (binary_form (x + 1) d) _ b (bound (m + 1) (x + 1) b (omega (arith, high))).form_is
        (expression_reads b (beginning (m + 1) (x + 1) b) (s.2) ((f.1).1) (p.1) (j.operand)) in
        subst (λ i. Reads env (source.Binary i (At at (binary_form at e)) (At (i + 1) (binary_form (i + 1) d))) (t.Typed kind (t.Binary op a b)))
        (sym (bound m at a high).end_is)
        (binary_reads env op kind a b at (x + 1) x (binary_form at e) (binary_form (x + 1) d) (s.1) u v (h.kind) (j.kind) (k.2))
    node_reads (t.Conditional a b c) kind at s f p o =
        let k = (f.0).0 in
        let x = ending 4 at a in
        let y = ending 1 (x + 1) b in
        let e = as_binary 4 (derivation_of a) in
        let d = derivation_of b in
        let r = as_conditional (derivation_of c) in
        let u = reads_as env (binary_form at e) _ a (bound 4 at a (omega arith)).form_is
        (expression_reads a (beginning 4 at a) (s.0) ((f.1).0) (p.0) ((k.0).operand)) in
        let v = reads_as env (expression_form (x + 1) d) _ b (opened (x + 1) b).form_is
        (expression_reads b (beginning 1 (x + 1) b) (s.1) ((f.1).1) (p.1) ((k.1).operand)) in
        let w = reads_as env (conditional_form (y + 1) r) _ c (chosen (y + 1) c).form_is
        (expression_reads c (beginning 3 (y + 1) c) (s.2) ((f.1).2) (p.2) ((k.2).operand)) in
        subst (λ i. let z = expression_end (i + 1) d in Reads env
        (source.Choice (At at (binary_form at e)) (At (i + 1) (expression_form (i + 1) d)) (At (z + 1) (conditional_form (z + 1) r)))
        (t.Typed kind (t.Conditional a b c))) (sym (bound 4 at a (omega arith)).end_is)
        (subst (λ z. Reads env (source.Choice (At at (binary_form at e)) (At (x + 1) (expression_form (x + 1) d))
        (At (z + 1) (conditional_form (z + 1) r))) (t.Typed kind (t.Conditional a b c))) (sym (opened (x + 1) b).end_is)
        (choice_reads env kind a b c at (x + 1) (y + 1) (binary_form at e) (expression_form (x + 1) d) (conditional_form (y + 1) r) u v w ((k.0).kind)
        ((k.1).kind) ((k.2).kind) (k.3)))
    node_reads (t.Assign q a) kind at s f p o =
        let k = (f.0).0 in
        let h = k.1 in
        let x = target_end at (target_of q) in
        let form = assignment_form (x + 1) (as_assignment (derivation_of a)) in
        let r = place_reads q kind at (s.0) (k.0) ((f.0).1) ((f.1).0) (p.0) in
        let u = reads_as env form _ a (assigned (x + 1) a).form_is (expression_reads a (beginning 2 (x + 1) a) (s.2) ((f.1).1) (p.1) (h.operand)) in
        let w = written (target_form at (target_of q)) kind q r ((f.0).2) in
        let v = has_valued a (h.kind) in
        record {
          typed = (λ i. assignment (ap (λ l. update_op (mark_of l)) (s.1) i) (w.1 i) (value_is env form a u (h.kind) i)) ∙
              (λ i. of_result (sym (r.kind_is) i) (node.Assign (place_in q) (v.whole i)));
          clear = λ vs. ap (λ l. use_fault (x + 1) (form_typed env form) (form_faults env form l)) (r.target_clear (w.0) vs) ∙
              used_clear env form a u (h.kind) (x + 1) vs;
        }
    node_reads (t.Update op q a) kind at s f p o =
        let k = (f.0).0 in
        let h = k.1 in
        let x = target_end at (target_of q) in
        let form = assignment_form (x + 1) (as_assignment (derivation_of a)) in
        let r = place_reads q kind at (s.0) (k.0) ((f.0).1) ((f.1).0) (p.0) in
        let u = reads_as env form _ a (assigned (x + 1) a).form_is (expression_reads a (beginning 2 (x + 1) a) (s.2) ((f.1).1) (p.1) (h.operand)) in
        let w = written (target_form at (target_of q)) kind q r ((f.0).2) in
        let v = has_valued a (h.kind) in
        record {
          typed = (λ i. assignment ((ap (λ l. update_op (mark_of l)) (s.1) ∙ update_is op) i) (w.1 i) (value_is env form a u (h.kind) i)) ∙
              (λ i. of_result (sym (r.kind_is) i) (node.Update op (place_in q) (v.whole i)));
          clear = λ vs. ap (λ l. use_fault (x + 1) (form_typed env form) (form_faults env form l)) (r.target_clear (w.0) vs) ∙
              used_clear env form a u (h.kind) (x + 1) vs;
        }
    node_reads (t.Count q up false) kind at s f p o =
        let r = place_reads q kind (at + 1) (s.1) ((f.0).0) ((f.0).1) (f.1) p in
        let form = target_form (at + 1) (target_of q) in
        let w = written form kind q r ((f.0).2) in
        record {
          typed = step_typed env up at (at + 1) form (s.0) ∙ ap (counting up false) (w.1) ∙
              (λ i. of_result (sym (r.kind_is) i) (node.Count (place_in q) up false));
          clear = λ vs. step_faults env up at (at + 1) form (s.0) vs ∙ r.target_clear (w.0) vs;
        }
    node_reads (t.Count q up true) kind at s f p o =
        let r = place_reads q kind at (s.0) ((f.0).0) ((f.0).1) (f.1) p in
        let form = target_form at (target_of q) in
        let x = target_end at (target_of q) in
        let w = written form kind q r ((f.0).2) in
        record {
          typed = (λ i. counting ((ap (λ l. counts_up (mark_of l)) (s.1) ∙ counts_is up) i) true (w.1 i)) ∙
              (λ i. of_result (sym (r.kind_is) i) (node.Count (place_in q) up true));
          clear = λ vs. r.target_clear (w.0) vs;
        }
    node_reads (t.Comma a b) kind at s f p o =
        let k = (f.0).0 in
        let x = ending 1 at a in
        let e = derivation_of a in
        let d = as_assignment (derivation_of b) in
        let u = reads_as env (expression_form at e) _ a (opened at a).form_is (expression_reads a (beginning 1 at a) (s.0) ((f.1).0) (p.0) (k.0)) in
        let v = reads_as env (assignment_form (x + 1) d) _ b (assigned (x + 1) b).form_is
        (expression_reads b (beginning 2 (x + 1) b) (s.1) ((f.1).1) (p.1) (k.1)) in
        comma_reads env e at d kind a b u (subst (λ i. Reads env (assignment_form (i + 1) d) b) (sym (opened at a).end_is) v) (k.2)
    node_reads (t.Call m xs) kind at s f p o =
        let q = all_pass xs (at + 1 + 1) (s.1) (f.1) (p.1) (arguments_read xs (at + 1 + 1) (s.1) (f.1) (p.1)) in
        let r = call_reads n env at m kind xs (s.0) (meaning_is n ss env agree at m AFunction (s.0) ((f.0).1)) ((f.0).0) q in
        record { typed = r.typed; clear = r.clear }

    arguments_read : (xs : Arguments) (at : ℕ) → AllAreSpelled n.slots env.word at xs → ArgumentsWithin Fact xs → AllPrint n.slots xs → AllRead at xs
    arguments_read NoArgument at s f p = tt
    arguments_read (Argument x xs) at s f p = (
      λ o. expression_reads x (beginning 2 at x) (s.0) (f.0) (prints_operand (Prints n.slots x) x o (p.0)) o,
      arguments_read xs (ending 2 at x + 1) (s.1) (f.1) (p.1),
    )

    place_reads : (q : PlaceTree) (kind : Option IntKind) (at : ℕ) → PlaceIsSpelled n.slots env.word at q → PlaceAgrees n kind q →
        HomeIsBound n.slots ss (home_of q) → PlaceWithin Fact q → PlacePrints n.slots q
        → ReadsPlace n ss env agree (target_form at (target_of q)) kind q
    place_reads (t.Var h) kind at s a b f p = var_reads n ss env agree at h kind s b a
    place_reads (t.Cell h x) kind at s a b f p =
        let v = a.1 in
        let form = expression_form (at + 1 + 1) (derivation_of x) in
        let r = reads_as env form _ x (opened (at + 1 + 1) x).form_is (expression_reads x (beginning 1 (at + 1 + 1) x) (s.1) f (p.1) (v.operand)) in
        cell_reads n ss env agree at h kind (at + 1 + 1) form x (s.0) b (a.0) (v.kind) r
