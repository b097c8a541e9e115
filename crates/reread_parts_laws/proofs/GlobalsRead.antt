-- The printed text of a variable of the file reads back as the variable (ISO/IEC 9899:2011, 6.9.2).
use Rattle.std.proofs.Common.{◌≡◌, ◌+◌, ℕ, false, List, [], ◌∷◌, map, Option, Some, None, refl, ap, sym, subst, ◌∙◌, bytes_eq}
use Rattle.std.specs.Prelude.{codes, option_map, IfSome}
use Rattle.c_types.specs.Words.{is_known}
use Rattle.c_tree.specs.declared.tree.Slot.{Slot}
use Rattle.c_tree.specs.declared.tree.Home.TheVariants as H
use Rattle.c_tree.specs.declared.tree.Top.TheVariants as T
use Rattle.c_tree.specs.declared.tree.Top.{Top}
use Rattle.c_tree.specs.declared.tree.GlobalVariable.{GlobalVariable}
use Rattle.c_tree.specs.declared.tree.Expression.{Expression}
use Rattle.c_tree.specs.ExpressionTrees.{ExpressionTree, NodeTree}
use Rattle.c_tree.specs.ExpressionTrees as t
use Rattle.c_tree.specs.Trees.{expression_trees}
use Rattle.c_tree.specs.Constants.{IsConstant, IsConstantNode}
use Rattle.c_tree.specs.TextPieces.{Piece, ◌⨾◌, space, newline, punctuator, spaced, more, listed}
use Rattle.c_tree.specs.TextExpressions.{operands}
use Rattle.c_tree.specs.TextItems.{length_text, initialisers_text, declarator_text}
use Rattle.c_tree.specs.Text.{global_text}
use Rattle.c_grammar.specs.ExpressionSyntax.{assignment_end, type_end}
use Rattle.c_grammar.specs.StatementSyntax.{word_end, rest_end, size_end, value_end, declarator_end}
use Rattle.c_grammar.specs.Terms.{At, Form}
use Rattle.c_kinds.specs.declared.binding.Binding.TheVariants as binding
use Rattle.c_kinds.specs.Scopes.{Env, Faults, fault_if, is_bound}
use Rattle.c_kinds.specs.Scopes as kinds
use Rattle.c_kinds.specs.Constants.{constant_of}
use Rattle.c_kinds.specs.Typing.{constant_faults, form_typed}
use Rattle.c_statements.specs.Declarations.{constant_at, constant_or_placeholder, each_faults, size_faults, length_in, extent_of, cells_of, is_bad_shape, shape_of, initial, initial_faults, kinded}
use Rattle.c_scopes.specs.Globals.{global_declared, behind_globals, globals, globals_faults}
use Rattle.c_resolved_defs.specs.Within.{Each, Within}
use Rattle.c_resolved_defs.specs.Names.{Names, the_global}
use Rattle.c_resolved_defs.specs.Kinds.{WritesNoConst}
use Rattle.c_resolved_defs.specs.Scopes.{Scope, AVariable, behind_top, IsBound, GivenAreBound}
use Rattle.c_resolved_defs.specs.Files.{IsConstantOf}
use Rattle.c_resolved_defs.specs.PrintableStatements.{FullPrints, ListPrints, ValuesPrint}
use Rattle.print_laws.specs.Reread.{Spelling}
use Rattle.print_laws.specs.Standing.{Stands}
use Rattle.print_laws.specs.ExpressionDerivations.{type_of}
use Rattle.print_laws.specs.StatementDerivations.{assignment_of, size_of, value_of as given_of, declarator_of, declaration_of}
use Rattle.reread_parts_laws.specs.WrittenExpressions.{assignment_form}
use Rattle.reread_parts_laws.specs.WrittenStatements.{further_terms, written_value, written_declarator, written_declaration}
use Rattle.reread_parts_laws.specs.Words.{AreWords}
use Rattle.reread_parts_laws.specs.Bindings.{IsInScope, AreSameScopes, shape_of as shape_in}
use Rattle.reread_parts_laws.specs.Places.{IsPlace, IsExpressionOf}
use Rattle.reread_parts_laws.proofs.Mirrors.{expression_in, tree_text, texts_in}
use Rattle.reread_parts_laws.proofs.ItemMirrors.{given_whole}
use Rattle.reread_parts_laws.proofs.ExpressionWords.{word_here, mark_here}
use Rattle.reread_parts_laws.proofs.Readings.{Reads}
use Rattle.reread_parts_laws.proofs.FullExpressions.{assigned_full}
use Rattle.reread_parts_laws.proofs.SameScopes.{scopes_agree, bind_same, new_unbound}
use Rattle.reread_parts_laws.proofs.DeclarationsRead.{array_is, extent_is, length_read, well_shaped, kinds_of, words_read}
use Rattle.reread_parts_laws.proofs.CaseConstants.{worth, constant_here, constant_clear as constant_is_clear}
use Rattle.reread_parts_laws.proofs.GoodGiven.{constant_operand}
use Rattle.std.proofs.lemmas.Bool.{false≢true}
use Rattle.c_tree.specs.TextItems.{kind_words}
use Rattle.reread_parts_laws.specs.Laws.{IsFileVariable, GlobalReads}
use Rattle.reread_parts_laws.proofs.FunctionsRead.{static_read}

-- ---- a constant expression writes to nothing

module _ (n : Names) where
  mutual
    pub constant_writes : (x : ExpressionTree) → IsConstant x → Within (WritesNoConst n) x
    constant_writes (t.Typed kind y) h = node_writes kind y h

    node_writes : (kind : Option _) (y : NodeTree) → IsConstantNode kind y → Within (WritesNoConst n) (t.Typed kind y)
    node_writes kind (t.Number z) h = (tt, tt)
    node_writes kind (t.Character b) h = (tt, tt)
    node_writes kind (t.EnumName m z) h = (tt, tt)
    node_writes kind (t.Unary op a) h = (tt, constant_writes a h)
    node_writes kind (t.Cast a) h = (tt, constant_writes a (h.1))
    node_writes kind (t.Binary op a b) h = (tt, (constant_writes a (h.0), constant_writes b (h.1)))
    node_writes kind (t.Conditional a b c) h = (tt, (constant_writes a (h.0), constant_writes b (h.1), constant_writes c (h.2)))
    node_writes kind _ h = absurd h

-- ---- constant expressions of the file

module _ (ts : List Top) (ss : List Scope) (env : Env) (tokens : List Spelling) where
  abbrev pub of_file : Names
  of_file = record { tops = ts; slots = [] }

  -- which prints where the grammar needs a level
  pub record IsConstantHere (need : ℕ) (x : ExpressionTree) : Type 0 where
    pub constant : IsConstantOf ts x
    pub bound : IsBound [] ss x
    pub prints : FullPrints [] need x

  pub constant_expression : (need : ℕ) (x : ExpressionTree) → IsConstantHere need x → IsExpressionOf of_file ss x
  constant_expression need x h = record {
    kinds = h.constant.1;
    bound = h.bound;
    consts = constant_writes of_file x (h.constant.0.constant);
    operand = constant_operand x (h.constant.0.constant);
    prints = h.prints.prints;
  }

  pub constant_read : (first : ℕ) (form : Form) (x : ExpressionTree) → Reads env form x → IsConstantOf ts x → constant_at env (At first form) ≡ expression_in x
  constant_read first form x r h = ap constant_or_placeholder (constant_here env form x r (h.0))

  pub constant_worth : (first : ℕ) (form : Form) (x : ExpressionTree) → Reads env form x → IsConstantOf ts x →
      option_map (λ c. c.1) (constant_of (form_typed env form)) ≡ Some (worth x)
  constant_worth first form x r h = ap (option_map (λ c. c.1)) (constant_here env form x r (h.0))

  pub constant_clear : (first : ℕ) (form : Form) (x : ExpressionTree) → Reads env form x → IsConstantOf ts x → (vs : Faults) →
      constant_faults env (At first form) vs ≡ vs
  constant_clear first form x r h vs = constant_is_clear env first form x r (h.0) vs

module _ (ts : List Top) (ss : List Scope) (env : Env) (tokens : List Spelling) (here : IsPlace (record { tops = ts; slots = [] }) ss env tokens) where
  abbrev file : Names
  file = record { tops = ts; slots = [] }

  abbrev Good : List ExpressionTree → Type 0
  Good xs = Each (IsConstantHere ts ss env tokens 2) xs

  record FurtherRead (at : ℕ) (xs : List ExpressionTree) (ps : List Piece) : Type 0 where
    values : map (constant_at env) (further_terms at (map assignment_of xs)) ≡ map expression_in xs
    clear : (vs : Faults) → each_faults (constant_faults env) (further_terms at (map assignment_of xs)) vs ≡ vs
    behind_it : Stands tokens (rest_end assignment_end at (map assignment_of xs) false) ps

  further_read : (xs : List ExpressionTree) (at : ℕ) (ps : List Piece) → Good xs →
      Stands tokens at (more (operands (map (tree_text []) xs)) (punctuator (codes "}") ps)) → FurtherRead at xs ps
  further_read [] at ps h b = record { values = refl; clear = λ vs. refl; behind_it = (mark_here [] tokens env.word here.words at (codes "}") ps b).1 }
  further_read (x ∷ xs) at ps h b =
      let rest = more (operands (map (tree_text []) xs)) (punctuator (codes "}") ps) in
      let m = mark_here [] tokens env.word here.words at (codes ",") (space (tree_text [] x 2 rest)) b in
      let u = assigned_full file ss env tokens here (at + 1) rest x (constant_expression ts ss env tokens 2 x (h.0)) (m.1) in
      let form = assignment_form (at + 1) (assignment_of x) in
      let y = assignment_end (at + 1) (assignment_of x) in
      let r = further_read xs y ps (h.1) (u.behind) in
      record {
        values = λ i. constant_read ts ss env tokens (at + 1) form x (u.reads) ((h.0).constant) i ∷ r.values i;
        clear = λ vs. ap (each_faults (constant_faults env) (further_terms y (map assignment_of xs)))
            (constant_clear ts ss env tokens (at + 1) form x (u.reads) ((h.0).constant) vs) ∙ r.clear vs;
        behind_it = r.behind_it;
      }

  pub record ValuesRead (at : ℕ) (cells : Option ℕ) (given : Option (List ExpressionTree)) (ps : List Piece) : Type 0 where
    pub values : initial (constant_at env) (written_value at (given_of cells given)) ≡ option_map (map expression_in) given
    pub clear : (vs : Faults) → initial_faults (constant_faults env) (written_value at (given_of cells given)) vs ≡ vs
    pub behind_it : Stands tokens (value_end at (given_of cells given)) ps

  values_read : (cells : Option ℕ) (given : Option (List ExpressionTree)) (at : ℕ) (ps : List Piece) → ValuesPrint [] cells given →
      IfSome given Good → Stands tokens at (initialisers_text [] cells (option_map (map expression_in) given) ps) → ValuesRead at cells given ps
  values_read None None at ps v h b = record { values = refl; clear = λ vs. refl; behind_it = b }
  values_read (Some c) None at ps v h b = record { values = refl; clear = λ vs. refl; behind_it = b }
  values_read None (Some []) at ps v h b = absurd v
  values_read None (Some (x ∷ y ∷ xs)) at ps v h b = absurd v
  values_read (Some c) (Some []) at ps v h b = absurd v
  values_read None (Some (x ∷ [])) at ps v h b =
      let b1 = subst (λ l. Stands tokens at ((spaced (codes "=") ⨾ listed (operands l)) ps)) (texts_in [] (x ∷ [])) b in
      let m = mark_here [] tokens env.word here.words at (codes "=") (space (tree_text [] x 2 ps)) b1 in
      let u = assigned_full file ss env tokens here (at + 1) ps x (constant_expression ts ss env tokens 2 x (h.0)) (m.1) in
      let form = assignment_form (at + 1) (assignment_of x) in
      record {
        values = λ i. Some (constant_read ts ss env tokens (at + 1) form x (u.reads) ((h.0).constant) i ∷ []);
        clear = constant_clear ts ss env tokens (at + 1) form x (u.reads) ((h.0).constant);
        behind_it = u.behind;
      }
  values_read (Some c) (Some (x ∷ xs)) at ps v h b =
      let b1 = subst (λ l. Stands tokens at ((spaced (codes "=") ⨾ punctuator (codes "{") ⨾ listed (operands l) ⨾ punctuator (codes "}")) ps))
      (texts_in [] (x ∷ xs)) b in
      let rest = more (operands (map (tree_text []) xs)) (punctuator (codes "}") ps) in
      let m = mark_here [] tokens env.word here.words at (codes "=") (space (punctuator (codes "{") (tree_text [] x 2 rest))) b1 in
      let o = mark_here [] tokens env.word here.words (at + 1) (codes "{") (tree_text [] x 2 rest) (m.1) in
      let u = assigned_full file ss env tokens here (at + 1 + 1) rest x (constant_expression ts ss env tokens 2 x (h.0)) (o.1) in
      let form = assignment_form (at + 1 + 1) (assignment_of x) in
      let y = assignment_end (at + 1 + 1) (assignment_of x) in
      let r = further_read xs y ps (h.1) (u.behind) in
      record {
        values = λ i. Some (constant_read ts ss env tokens (at + 1 + 1) form x (u.reads) ((h.0).constant) i ∷ r.values i);
        clear = λ vs. ap (each_faults (constant_faults env) (further_terms y (map assignment_of xs)))
            (constant_clear ts ss env tokens (at + 1 + 1) form x (u.reads) ((h.0).constant) vs) ∙ r.clear vs;
        behind_it = r.behind_it;
      }

-- ---- a variable

constants_here : (ts : List Top) (ss : List Scope) (env : Env) (tokens : List Spelling) (xs : List ExpressionTree) → Each (IsConstantOf ts) xs →
    Each (IsBound [] ss) xs → ListPrints [] 2 xs → Each (IsConstantHere ts ss env tokens 2) xs
constants_here ts ss env tokens [] c b p = tt
constants_here ts ss env tokens (x ∷ xs) c b p = (record { constant = c.0; bound = b.0; prints = p.0 }, constants_here ts ss env tokens xs (c.1) (b.1) (p.1))

given_here : (ts : List Top) (ss : List Scope) (env : Env) (tokens : List Spelling) (cells : Option ℕ) (o : Option (List Expression)) →
    IfSome (option_map expression_trees o) (Each (IsConstantOf ts)) → GivenAreBound ss o
    → ValuesPrint [] cells (option_map expression_trees o) → IfSome (option_map expression_trees o) (Each (IsConstantHere ts ss env tokens 2))
given_here ts ss env tokens cells None c b p = tt
given_here ts ss env tokens cells (Some es) c b p = constants_here ts ss env tokens (expression_trees es) c b (listed_of cells (expression_trees es) p)
  where
    listed_of : (cells : Option ℕ) (xs : List ExpressionTree) → ValuesPrint [] cells (Some xs) → ListPrints [] 2 xs
    listed_of None [] p = absurd p
    listed_of None (x ∷ []) p = (p, tt)
    listed_of None (x ∷ y ∷ xs) p = absurd p
    listed_of (Some c) [] p = absurd p
    listed_of (Some c) (x ∷ xs) p = p

module _ (ts : List Top) (g : GlobalVariable) (ss : List Scope) (env : Env) (tokens : List Spelling) (words : AreWords env.word tokens)
    (there : IsInScope ss) (same : AreSameScopes (record { tops = ts; slots = [] }) ss env.scopes) (v : IsFileVariable ts g ss) where
  abbrev n : Names
  n = record { tops = ts; slots = [] }

  abbrev r : Slot
  r = g.slot

  abbrev given : Option (List ExpressionTree)
  given = option_map expression_trees g.init

  abbrev scopes_behind : List Scope
  scopes_behind = behind_top ss (T.Global g)

  -- behind its name
  bound_there : (at : ℕ) → env.word at ≡ r.name → AreSameScopes n scopes_behind
      (global_declared (kinds_of r) (written_declarator at (declarator_of r given)) env).scopes
  bound_there at named =
      let d = written_declarator at (declarator_of r given) in
      let shape : shape_of (kinds_of r) d ≡ shape_in r = λ i. record { kind = r.kind; array = array_is (at + 1) r.cells i; constant = r.constant } in
      let b : Some (binding.Global (shape_in r)) ≡ option_map (λ (s : Slot). binding.Global (shape_in s)) (the_global r.name ts) =
      ap (option_map (λ (s : Slot). binding.Global (shape_in s))) (sym (v.is)) in
      subst (λ z. AreSameScopes n scopes_behind z) (λ i. kinds.bind (sym named i) (binding.Global (sym shape i)) env.scopes)
      (bind_same n r.name (AVariable (H.Global r.name)) (binding.Global (shape_in r)) ss env.scopes same there ((v.bound).0.0) b)

  record OneRead (at : ℕ) (ps : List Piece) : Type 0 where
    tops : globals g.file_only (kinds_of r) (written_declarator at (declarator_of r given) ∷ []) env ≡ T.Global g ∷ []
    clear : (vs : Faults) → globals_faults (kinds_of r) (written_declarator at (declarator_of r given) ∷ []) env vs ≡ vs
    same_there : AreSameScopes n scopes_behind (behind_globals (kinds_of r) (written_declarator at (declarator_of r given) ∷ []) env).scopes
    behind_it : Stands tokens (declarator_end at (declarator_of r given)) ps

  one_read : (at : ℕ) (ps : List Piece) → Stands tokens at (declarator_text [] r g.init ps) → OneRead at ps
  one_read at ps h =
      let b0 = subst (λ es. Stands tokens at (declarator_text [] r es ps)) (sym (given_whole g.init)) h in
      let d = written_declarator at (declarator_of r given) in
      let es = option_map (map expression_in) given in
      let m = word_here [] tokens env.word words at r.name ((length_text r.cells ⨾ initialisers_text [] r.cells es) ps) b0 in
      let l = length_read n env tokens words r.cells (at + 1) (initialisers_text [] r.cells es ps) (v.prints.length) (m.1) in
      let after = bound_there at (m.0) in
      let inner = global_declared (kinds_of r) d env in
      let place : IsPlace n scopes_behind inner tokens = record { words = words; scopes = scopes_agree n scopes_behind inner.scopes after } in
      let x = size_end (at + 1) (size_of r.cells) in
      let u = values_read ts scopes_behind inner tokens place r.cells given x ps (v.prints.values)
      (given_here ts scopes_behind inner tokens r.cells g.init (v.resolved.constant) ((v.bound).1) (v.prints.values)) (l.behind) in
      let shaped : is_bad_shape false (length_in env d.size) d.value ≡ false =
      ap (λ z. is_bad_shape false z d.value) (l.length_is) ∙ well_shaped false 65536 [] r.cells given x (λ e. absurd (false≢true e)) (v.prints.values)
      (v.resolved.length) (v.resolved.values) in
      let cells : cells_of (extent_of (length_in env d.size) d.value) ≡ r.cells =
      ap (λ z. cells_of (extent_of z d.value)) (l.length_is) ∙ extent_is r.cells d.value (v.resolved.length) in
      let init : initial (constant_at inner) d.value ≡ g.init = u.values ∙ given_whole g.init in
      let unbound : is_bound (env.word at) env.scopes ≡ false = ap (λ z. is_bound z env.scopes) (m.0) ∙ new_unbound n r.name ss env.scopes same
      ((v.bound).0.0) in
      let other : bytes_eq (env.word at) (codes "main") ≡ false = ap (λ z. bytes_eq z (codes "main")) (m.0) ∙ v.formed in
      let unknown : is_known (env.word at) ≡ false = ap is_known (m.0) ∙ (v.bound).0.1 in
      record {
        tops = λ i. T.Global (record {
          slot = record { name = m.0 i; kind = r.kind; cells = cells i; constant = r.constant };
          init = init i;
          file_only = g.file_only;
        }) ∷ [];
        clear = λ vs.
            u.clear (fault_if (is_bound (env.word at) env.scopes) at 21
            (fault_if (bytes_eq (env.word at) (codes "main")) at 36
            (fault_if (is_known (env.word at)) at 21 (fault_if (is_bad_shape false (length_in env d.size) d.value) at 35 (size_faults env d.size vs)))))
            ∙ (λ i. fault_if (unbound i) at 21 (fault_if (other i) at 36 (fault_if (unknown i) at 21 (fault_if (shaped i) at 35 (l.clear vs i)))));
        same_there = after;
        behind_it = u.behind_it;
      }

  pub global_reads : (at : ℕ) (ps : List Piece) → Stands tokens at (global_text g ps) →
      GlobalReads ts g ss env tokens at (written_declaration (word_end at g.file_only) (declaration_of r given [])) ps
  global_reads at ps h =
      let a = word_end at g.file_only in
      let end = punctuator (codes ";") (newline ps) in
      let b = static_read [] tokens env.word words g.file_only at (kind_words r (space (declarator_text [] r g.init end))) h in
      let w = words_read [] tokens env.word words r a (space (declarator_text [] r g.init end)) b in
      let y = type_end (word_end a r.constant) (type_of r.kind) in
      let o = one_read y end (w.behind) in
      let ds = written_declarator y (declarator_of r given) ∷ [] in
      let k : kinded env.word (written_declaration a (declaration_of r given [])) ≡ kinds_of r =
      λ i. record { kind = w.kind_is_read i; constant = r.constant } in
      record {
        tops = ap (λ z. globals g.file_only z ds env) k ∙ o.tops;
        clear = λ vs. ap (λ z. globals_faults z ds env vs) k ∙ o.clear vs;
        same = subst (λ z. AreSameScopes n scopes_behind (behind_globals z ds env).scopes) (sym k) (o.same_there);
        behind = (mark_here [] tokens env.word words _ (codes ";") (newline ps) (o.behind_it)).1;
      }
