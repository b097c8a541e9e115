-- The printed text of an enum reads back as the enum (ISO/IEC 9899:2011, 6.7.2.2).
use Rattle.std.proofs.Common.{◌≡◌, ◌+◌, ℕ, ℤ, pos, negsuc, true, false, cond, not, ◌&&◌, List, [], ◌∷◌, map, Option, Some, None, refl, ap, sym, subst, ◌∙◌, arith, bytes_eq}
use Rattle.std.specs.Prelude.{codes, option_map, option_and_then, unwrap_or}
use Rattle.std.proofs.lemmas.Bool.{le-leb}
use Rattle.std.proofs.lemmas.Int.{ints}
use Rattle.c_types.specs.declared.kinds.IntKind.TheVariants.{Int}
use Rattle.c_types.specs.Numbers.{IsInRange, is_in_range}
use Rattle.c_types.specs.Words.{is_known}
use Rattle.c_tree.specs.declared.tree.Top.{Top}
use Rattle.c_tree.specs.declared.tree.EnumItem.{EnumItem}
use Rattle.c_tree.specs.declared.tree.Expression.{Expression}
use Rattle.c_tree.specs.ExpressionTrees.{expression_tree}
use Rattle.c_tree.specs.TextPieces.{Piece, ◌⨾◌, space, newline, punctuator, more}
use Rattle.c_grammar.specs.Terms.{At}
use Rattle.c_tree.specs.TextExpressions.{expression_text}
use Rattle.c_tree.specs.Text.{given_text, enumerator_text, enum_end, enum_text}
use Rattle.c_grammar.specs.StatementSyntax.{rest_end}
use Rattle.c_grammar.specs.Expressions.{Conditional}
use Rattle.c_grammar.specs.FileSyntax.{constant_end, enumerator_end, enumeration_end}
use Rattle.c_grammar.specs.Tops.{Enumerator}
use Rattle.c_kinds.specs.declared.binding.Binding.TheVariants as binding
use Rattle.c_kinds.specs.Scopes.{Env, Faults, fault_if, is_bound}
use Rattle.c_kinds.specs.Scopes as kinds
use Rattle.c_statements.specs.Declarations.{constant_at}
use Rattle.c_scopes.specs.Enums.{an_int, int_fault, worth as value_worth, value_of, value_faults, enumerated, enum_items, behind_enum, enum_faults, or_zero}
use Rattle.c_resolved_defs.specs.Names.{Names}
use Rattle.c_resolved_defs.specs.Scopes.{Scope, AConstant, bind, bind_constants, IsBoundGiven, ConstantsAreBound}
use Rattle.c_resolved_defs.specs.Files.{HasNextValue, HaveValues, AreNotMain}
use Rattle.c_resolved_defs.specs.PrintablePrograms.{GivenPrints, EnumeratorsPrint}
use Rattle.print_laws.specs.Reread.{Spelling}
use Rattle.print_laws.specs.Standing.{Stands}
use Rattle.print_laws.specs.StatementDerivations.{conditional_of}
use Rattle.print_laws.specs.FileDerivations.{given_of, enumeration_of}
use Rattle.reread_parts_laws.specs.WrittenExpressions.{conditional_form}
use Rattle.reread_parts_laws.specs.WrittenFiles.{written_constant, written_enumerator, further_enumerators, written_enumeration}
use Rattle.reread_parts_laws.specs.Words.{AreWords}
use Rattle.reread_parts_laws.specs.Bindings.{IsInScope, AreSameScopes}
use Rattle.reread_parts_laws.specs.Places.{IsPlace}
use Rattle.reread_parts_laws.specs.Laws.{IsEnum, EnumReads}
use Rattle.reread_parts_laws.proofs.Mirrors.{whole}
use Rattle.reread_parts_laws.proofs.ExpressionWords.{word_here, mark_here}
use Rattle.reread_parts_laws.proofs.FullExpressions.{chosen_full, stands_tree}
use Rattle.reread_parts_laws.proofs.SameScopes.{scopes_agree, bind_same, new_unbound}
use Rattle.reread_parts_laws.proofs.GlobalsRead.{IsConstantHere, constant_expression, constant_read, constant_clear, constant_worth}

-- ---- ints

within : (z : ℤ) → IsInRange Int z → is_in_range Int z ≡ true
within (pos n) h = let t = h.to_greatest in le-leb n 2147483647 (grind (arith, ints, t))
within (negsuc n) h = let t = h.from_least in let l = le-leb n 2147483647 (grind (arith, ints, t)) in (λ i. l i && true)

an_int_is : (z : ℤ) → is_in_range Int z ≡ true → an_int z ≡ Some z
an_int_is z h = ap (λ b. cond b (Some z) None) h

-- ---- one constant

module _ (ts : List Top) (ss : List Scope) (env : Env) (tokens : List Spelling) (here : IsPlace (record { tops = ts; slots = [] }) ss env tokens) where
  abbrev n : Names
  n = record { tops = ts; slots = [] }

  abbrev conditional_given : Option Expression → Option Conditional
  conditional_given o = option_map (λ (e : Expression). conditional_of (expression_tree e)) o

  -- from behind its name on
  record ValueRead (x : EnumItem) (name : ℕ) (o : Option Expression) (before : ℤ) (at : ℕ) (ps : List Piece) : Type 0 where
    value : value_of env (written_constant at (conditional_given o)) (Some before) ≡ Some x.value
    given : option_map (constant_at env) (written_constant at (conditional_given o)) ≡ o
    clear : (vs : Faults) → value_faults env name (written_constant at (conditional_given o)) (Some before) vs ≡ vs
    behind_it : Stands tokens (constant_end at (conditional_given o)) ps

  value_read : (x : EnumItem) (name : ℕ) (o : Option Expression) (before : ℤ) (at : ℕ) (ps : List Piece) → HasNextValue ts before x o →
      is_in_range Int x.value ≡ true → GivenPrints o → IsBoundGiven ss o → Stands tokens at (given_text o ps) → ValueRead x name o before at ps
  value_read x name None before at ps h r p b s = record {
    value = ap an_int (sym h) ∙ an_int_is x.value r;
    given = refl;
    clear = λ vs. (λ i. fault_if (not (is_in_range Int (sym h i))) name 34 vs) ∙ (λ i. fault_if (not (r i)) name 34 vs);
    behind_it = s;
  }
  value_read x name (Some e) before at ps h r p b s =
      let y = expression_tree e in
      let m = mark_here [] tokens env.word here.words at (codes "=") (space (expression_text [] e 3 ps)) s in
      let c : IsConstantHere ts ss env tokens 3 y = record { constant = h.0; bound = b; prints = p } in
      let u = chosen_full n ss env tokens here (at + 1) ps y (constant_expression ts ss env tokens 3 y c)
      (stands_tree n ss env tokens here 3 (at + 1) ps e (m.1)) in
      let form = conditional_form (at + 1) (conditional_of y) in
      let w : value_worth env (At (at + 1) form) ≡ Some x.value = constant_worth ts ss env tokens (at + 1) form y (u.reads) (h.0) ∙
      ap (λ o. Some (unwrap_or o (pos 0))) (h.1) in
      record {
        value = ap (option_and_then an_int) w ∙ an_int_is x.value r;
        given = ap Some (constant_read ts ss env tokens (at + 1) form y (u.reads) (h.0) ∙ whole e);
        clear = λ vs. (λ i. int_fault (at + 1) (w i) (constant_clear ts ss env tokens (at + 1) form y (u.reads) (h.0) vs i)) ∙
            (λ i. fault_if (not (r i)) (at + 1) 34 vs);
        behind_it = u.behind;
      }

-- ---- all of them

module _ (ts : List Top) (the_word : ℕ → List ℕ) (tokens : List Spelling) (words : AreWords the_word tokens) where
  abbrev file : Names
  file = record { tops = ts; slots = [] }

  abbrev env_in : List kinds.Scope → Env
  env_in scopes = record { word = the_word; scopes = scopes }

  abbrev constants_from : ℕ → EnumItem → List EnumItem → List Enumerator
  constants_from at x xs = written_enumerator at (given_of x) ∷ further_enumerators (enumerator_end at (given_of x)) (map given_of xs)

  record These (ss : List Scope) (scopes : List kinds.Scope) (before : ℤ) (es : List Enumerator) (xs : List EnumItem) (end : ℕ) (ps : List Piece) : Type 0 where
    items : enum_items es (Some before) (env_in scopes) ≡ xs
    clear : (vs : Faults) → enum_faults es (Some before) (env_in scopes) vs ≡ vs
    same : AreSameScopes file (bind_constants xs ss) (behind_enum es (Some before) (env_in scopes)).scopes
    behind_it : Stands tokens end ps

  in_scope : (m : List ℕ) (z : ℤ) (ss : List Scope) → IsInScope ss → IsInScope (bind m (AConstant z) ss)
  in_scope m z [] h = absurd h
  in_scope m z (s ∷ ss) h = tt

  -- what stands from the comma before a constant on, up to the semicolon
  abbrev Further : List EnumItem → Type 0
  Further xs =
      (ss : List Scope) (scopes : List kinds.Scope) (before : ℤ) (at : ℕ) (ps : List Piece) → IsInScope ss → AreSameScopes file ss scopes
      → HaveValues ts before xs → EnumeratorsPrint xs → ConstantsAreBound ss xs → AreNotMain xs →
      Stands tokens at ((more (map enumerator_text xs) ⨾ enum_end) ps)
      → These ss scopes before (further_enumerators at (map given_of xs)) xs (rest_end enumerator_end at (map given_of xs) false + 1) (newline ps)

  -- from the name of a constant on
  named_read : (x : EnumItem) (xs : List EnumItem) → Further xs → (ss : List Scope) (scopes : List kinds.Scope) (before : ℤ) (at : ℕ)
      (ps : List Piece) → IsInScope ss → AreSameScopes file ss scopes
      → HaveValues ts before (x ∷ xs) → EnumeratorsPrint (x ∷ xs) → ConstantsAreBound ss (x ∷ xs) → AreNotMain (x ∷ xs) →
      Stands tokens at ((enumerator_text x ⨾ more (map enumerator_text xs) ⨾ enum_end) ps)
      → These ss scopes before (constants_from at x xs) (x ∷ xs)
      (rest_end enumerator_end (enumerator_end at (given_of x)) (map given_of xs) false + 1) (newline ps)
  named_read x xs further ss scopes before at ps there same h p b f s =
      let env = env_in scopes in
      let end = (more (map enumerator_text xs) ⨾ enum_end) ps in
      let m = word_here [] tokens the_word words at x.name (given_text x.given end) s in
      let place : IsPlace file ss env tokens = record { words = words; scopes = scopes_agree file ss scopes same } in
      let r = within x.value (h.1) in
      let v = value_read ts ss env tokens place x at x.given before (at + 1) end (h.0) r ((p.0).given) (b.1) (m.1) in
      let d = written_enumerator at (given_of x) in
      let y = enumerator_end at (given_of x) in
      let others = further_enumerators y (map given_of xs) in
      let inner = kinds.bind (the_word at) (binding.Constant x.value) scopes in
      let inside = bind x.name (AConstant x.value) ss in
      let same_there : AreSameScopes file inside inner = subst (λ z. AreSameScopes file inside (kinds.bind z (binding.Constant x.value) scopes)) (sym (m.0))
      (bind_same file x.name (AConstant x.value) (binding.Constant x.value) ss scopes same there ((b.0).0) refl) in
      let unbound : is_bound (the_word at) scopes ≡ false = ap (λ z. is_bound z scopes) (m.0) ∙ new_unbound file x.name ss scopes same ((b.0).0) in
      let other : bytes_eq (the_word at) (codes "main") ≡ false = ap (λ z. bytes_eq z (codes "main")) (m.0) ∙ f.0 in
      let unknown : is_known (the_word at) ≡ false = ap is_known (m.0) ∙ (b.0).1 in
      let step = further inside inner x.value y ps (in_scope x.name x.value ss there) same_there (h.2) (p.1) (b.2) (f.1) (v.behind_it) in
      record {
        items = (λ i. record { name = m.0 i; given = v.given i; value = or_zero (v.value i) } ∷ enum_items others (v.value i)
            (enumerated d (v.value i) env)) ∙ ap (λ l. x ∷ l) (step.items);
        clear = λ vs.
            (λ i. enum_faults others (v.value i) (enumerated d (v.value i) env)
            (fault_if (unbound i) at 21 (fault_if (other i) at 36 (fault_if (unknown i) at 21 (v.clear vs i)))))
            ∙ step.clear vs;
        same = subst (λ o. AreSameScopes file (bind_constants xs inside) (behind_enum others o (enumerated d o env)).scopes) (sym (v.value)) (step.same);
        behind_it = step.behind_it;
      }

  -- from the comma before one on, up to the semicolon
  further_read : (xs : List EnumItem) → Further xs
  further_read [] ss scopes before at ps there same h p b f s =
      let m = mark_here [] tokens the_word words at (codes "}") (punctuator (codes ";") (newline ps)) s in
      record { items = refl; clear = λ vs. refl; same = same; behind_it = (mark_here [] tokens the_word words (at + 1) (codes ";") (newline ps) (m.1)).1 }
  further_read (x ∷ xs) ss scopes before at ps there same h p b f s =
      let m = mark_here [] tokens the_word words at (codes ",") (space ((enumerator_text x ⨾ more (map enumerator_text xs) ⨾ enum_end) ps)) s in
      named_read x xs (further_read xs) ss scopes before (at + 1) ps there same h p b f (m.1)

  pub enum_reads : (x : EnumItem) (xs : List EnumItem) (ss : List Scope) (scopes : List kinds.Scope) (at : ℕ) (ps : List Piece) → IsInScope ss →
      AreSameScopes file ss scopes → IsEnum ts (x ∷ xs) ss → Stands tokens at (enum_text (x ∷ xs) ps)
      → EnumReads ts (x ∷ xs) ss (env_in scopes) tokens (written_enumeration at (enumeration_of x xs)) (enumeration_end at (enumeration_of x xs)) (newline ps)
  enum_reads x xs ss scopes at ps there same h s =
      let rest = (enumerator_text x ⨾ more (map enumerator_text xs) ⨾ enum_end) ps in
      let a = word_here [] tokens the_word words at (codes "enum") (space (punctuator (codes "{") (space rest))) s in
      let o = mark_here [] tokens the_word words (at + 1) (codes "{") (space rest) (a.1) in
      let r = named_read x xs (further_read xs) ss scopes (negsuc 0) (at + 1 + 1) ps there same (h.values) (h.prints) (h.bound) (h.formed) (o.1) in
      record { items = r.items; clear = r.clear; same = r.same; behind = r.behind_it }
