-- Statements without lists read back as their items; lists in braces, and tests.
use Rattle.std.proofs.Common.{◌≡◌, ◌+◌, ℕ, Bool, true, false, not, ◌||◌, List, [], ◌∷◌, ◌++◌, map, length, Option, Some, None, is_some, refl, ap, sym, subst, ◌∙◌, bytes_eq}
use Rattle.std.specs.Prelude.{codes}
use Rattle.std.specs.List.{list_any}
use Rattle.c_types.specs.declared.kinds.IntKind.{IntKind}
use Rattle.c_types.specs.Words.{keywords as the_keywords, is_keyword}
use Rattle.c_tree.specs.declared.tree.Function.{Function}
use Rattle.c_tree.specs.declared.tree.Top.{Top}
use Rattle.c_tree.specs.declared.tree.Expression.{Expression}
use Rattle.c_tree.specs.declared.tree.Item.{Item}
use Rattle.c_tree.specs.declared.tree.Item as item
use Rattle.c_tree.specs.ExpressionTrees.{ExpressionTree}
use Rattle.c_tree.specs.Trees as t
use Rattle.c_tree.specs.TextPieces.{Piece, ◌⨾◌, space, newline, word, punctuator}
use Rattle.c_tree.specs.TextExpressions.{Leveled, expression_text}
use Rattle.c_tree.specs.TextItems.{label_name}
use Rattle.c_tree.specs.Constants.{kind_of, HasKind}
use Rattle.c_grammar.specs.declared.class.Class.TheVariants as c
use Rattle.c_grammar.specs.TokenClasses.{keyword_class}
use Rattle.c_grammar.specs.ExpressionSyntax.{expression_end}
use Rattle.c_kinds.specs.Scopes.{Env, Faults, fault_if, found}
use Rattle.c_statements.specs.declared.anchors.Anchor.TheVariants.{Before}
use Rattle.c_statements.specs.Context.{Context, Walk, env_at, notes_at, number_in, has_label}
use Rattle.c_statements.specs.Declarations.{placeholder, value_at, value_faults}
use Rattle.c_statements.specs.Statements.{dropped_at}
use Rattle.c_statements.specs.Violations.{dropped_faults, return_faults}
use Rattle.c_resolved_defs.specs.Names.{Names}
use Rattle.c_resolved_defs.specs.Scopes.{Scope}
use Rattle.print_laws.specs.Reread.{Spelling}
use Rattle.print_laws.specs.Standing.{Stands}
use Rattle.print_laws.specs.ExpressionDerivations.{derivation_of}
use Rattle.reread_parts_laws.specs.WrittenExpressions.{expression_form}
use Rattle.reread_parts_laws.specs.WrittenStatements.{expression_term}
use Rattle.reread_parts_laws.specs.Words.{AreWords}
use Rattle.reread_parts_laws.specs.Places.{IsExpressionOf}
use Rattle.reread_parts_laws.proofs.Mirrors.{expression_in, text_in}
use Rattle.reread_parts_laws.proofs.ExpressionWords.{word_here, mark_here}
use Rattle.reread_parts_laws.proofs.Readings.{Reads, dropped_clear, drops_is}
use Rattle.reread_parts_laws.proofs.FullExpressions.{open_full}
use Rattle.c_kinds.proofs.Entries.{same_names}
use Rattle.reread_parts_laws.specs.Places.{Standing}
use Rattle.reread_parts_laws.proofs.DeclarationsRead.{place_at, value_is_in, value_clear}
use Rattle.reread_parts_laws.proofs.ListsRead.{still, ReadsOne}

-- ---- names are no keywords

none_of : (ks : List (List ℕ)) (w : List ℕ) → list_any (λ k. bytes_eq k w) ks ≡ false → (k : List ℕ) → list_any (λ j. bytes_eq j k) ks ≡ true →
    ((j : List ℕ) → bytes_eq j k ≡ true → j ≡ k) → bytes_eq k w ≡ false
none_of [] w h k m f = cc
none_of (j ∷ ks) w h k m f = by_first (bytes_eq j k) refl (λ o. none_of ks w (either (bytes_eq j w) _ h).1 k o f)
  where
    either : (a b : Bool) → (a || b) ≡ false → (a ≡ false) × (b ≡ false)
    either false b h = (refl, h)
    either true b h = cc

    by_first : (b : Bool) → bytes_eq j k ≡ b → (list_any (λ i. bytes_eq i k) ks ≡ true → bytes_eq k w ≡ false) → bytes_eq k w ≡ false
    by_first true e later = ap (λ z. bytes_eq z w) (sym (f j e)) ∙ (either (bytes_eq j w) _ h).0
    by_first false e later = later (ap (λ z. z || list_any (λ i. bytes_eq i k) ks) (sym e) ∙ m)

module _ (w : List ℕ) (h : is_keyword w ≡ false) where
  no : (k : List ℕ) → list_any (λ j. bytes_eq j k) the_keywords ≡ true → bytes_eq k w ≡ false
  no k m = none_of the_keywords w h k m (λ j e. same_names j k e)

  pub not_keyword : keyword_class w ≡ c.Foreign
  not_keyword =
      rw (
        no (codes "if") refl,
        no (codes "else") refl,
        no (codes "while") refl,
        no (codes "do") refl,
        no (codes "for") refl,
        no (codes "switch") refl,
        no (codes "case") refl,
        no (codes "default") refl,
        no (codes "goto") refl,
        no (codes "return") refl,
        no (codes "break") refl,
        no (codes "continue") refl,
        no (codes "int") refl,
        no (codes "char") refl,
        no (codes "long") refl,
        no (codes "signed") refl,
        no (codes "unsigned") refl,
        no (codes "void") refl,
        no (codes "static") refl,
        no (codes "const") refl,
        no (codes "enum") refl,
      ) refl

-- ---- whole expressions

module _ (ts : List Top) (f : Function) (ctx : Context) (tokens : List Spelling) (words : AreWords ctx.word tokens) where
  abbrev pub n : Names
  n = record { tops = ts; slots = f.slots }

  -- the expression of a statement, from its first token on
  pub record FullRead (ss : List Scope) (w : Walk) (at : ℕ) (x : ExpressionTree) (ps : List Piece) : Type 0 where
    pub reads : Reads (env_at ctx w) (expression_form at (derivation_of x)) x
    pub behind_it : Stands tokens (expression_end at (derivation_of x)) ps

  pub full_read : (ss : List Scope) (k : ℕ) (w : Walk) (at : ℕ) (x : ExpressionTree) (ps : List Piece) → Standing n ss k w → IsExpressionOf n ss x →
      Stands tokens at (expression_text f.slots (expression_in x) 1 ps) → FullRead ss w at x ps
  full_read ss k w at x ps h g s =
      let u = open_full n ss (env_at ctx w) tokens (place_at n ctx.word tokens words ss k w h) at ps x g
      (subst (λ (y : Leveled). Stands tokens at (y 1 ps)) (text_in f.slots x) s) in
      record { reads = u.reads; behind_it = u.behind }

  module _ (ss : List Scope) (w : Walk) (at : ℕ) (x : ExpressionTree) (ps : List Piece) (u : FullRead ss w at x ps) where
    pub dropped_is : dropped_at (env_at ctx w) (expression_term at (derivation_of x)) ≡ expression_in x
    dropped_is = (λ i. elim (drops_is (env_at ctx w) (expression_form at (derivation_of x)) x u.reads i) as (λ _. Expression)
        [ Some e ↦ e | None ↦ placeholder ])

    pub drops_clear : (vs : Faults) → dropped_faults (env_at ctx w) (expression_term at (derivation_of x)) vs ≡ vs
    drops_clear vs = dropped_clear (env_at ctx w) (expression_form at (derivation_of x)) x u.reads at vs

    pub value_here : HasKind (kind_of x) → value_at (env_at ctx w) (expression_term at (derivation_of x)) ≡ expression_in x
    value_here k = value_is_in (env_at ctx w) at x (expression_form at (derivation_of x)) u.reads k

    pub values_clear : HasKind (kind_of x) → (vs : Faults) → value_faults (env_at ctx w) (expression_term at (derivation_of x)) vs ≡ vs
    values_clear k vs = value_clear (env_at ctx w) at x (expression_form at (derivation_of x)) u.reads k vs

  -- ---- a keyword or a name, and `;`

  pub keyword_here : (at : ℕ) (w : List ℕ) (ps : List Piece) → Stands tokens at (word w ps) →
      (keyword_class (ctx.word at) ≡ keyword_class w) × Stands tokens (at + 1) ps
  keyword_here at w ps s = let m = word_here f.slots tokens ctx.word words at w ps s in (ap keyword_class (m.0), m.1)

  pub a_mark : (at : ℕ) (w : List ℕ) (ps : List Piece) → Stands tokens at (punctuator w ps) → Stands tokens (at + 1) ps
  a_mark at w ps s = (mark_here f.slots tokens ctx.word words at w ps s).1

  -- ---- statements without lists

  pub evaluate_reads : (x : ExpressionTree) → ReadsOne ts f ctx tokens words (t.Evaluate x)
  evaluate_reads x ss k around w at depth ps h g p s =
      let u = full_read ss k w at x ((punctuator (codes ";") ⨾ newline) ps) h g s in
      record {
        behind_it = a_mark (expression_end at (derivation_of x)) (codes ";") (newline ps) (u.behind_it);
        keywords = tt;
        items = λ i. notes_at ctx (Before at) ++ item.Evaluate (dropped_is ss w at x _ u i) ∷ [];
        standing = still n ss k w h;
        labels = λ rest. refl;
        clear = λ vs. drops_clear ss w at x _ u vs;
      }

  pub break_reads : ReadsOne ts f ctx tokens words t.Break
  break_reads ss k around w at depth ps h g p s =
      let m = keyword_here at (codes "break") ((punctuator (codes ";") ⨾ newline) ps) s in
      record {
        behind_it = a_mark (at + 1) (codes ";") (newline ps) (m.1);
        keywords = m.0;
        items = refl;
        standing = still n ss k w h;
        labels = λ rest. refl;
        clear = λ vs. ap (λ b. fault_if (not b) at 27 vs) g;
      }

  pub continue_reads : ReadsOne ts f ctx tokens words t.Continue
  continue_reads ss k around w at depth ps h g p s =
      let m = keyword_here at (codes "continue") ((punctuator (codes ";") ⨾ newline) ps) s in
      record {
        behind_it = a_mark (at + 1) (codes ";") (newline ps) (m.1);
        keywords = m.0;
        items = refl;
        standing = still n ss k w h;
        labels = λ rest. refl;
        clear = λ vs. ap (λ b. fault_if (not b) at 28 vs) g;
      }

  -- the number of a label
  pub label_number : (l : ℕ) (w : List ℕ) → w ≡ label_name f l → found (label_name f l) ctx.labels ≡ Some l → number_in ctx.labels w ≡ l
  label_number l w e h = ap (number_in ctx.labels) e ∙ (λ i. elim (h i) as (λ _. ℕ) [ Some j ↦ j | None ↦ length ctx.labels ])

  pub goto_reads : (l : ℕ) → ReadsOne ts f ctx tokens words (t.Goto l)
  goto_reads l ss k around w at depth ps h g p s =
      let m = keyword_here at (codes "goto") ((space ⨾ word (label_name f l) ⨾ punctuator (codes ";") ⨾ newline) ps) s in
      let o = word_here f.slots tokens ctx.word words (at + 1) (label_name f l) ((punctuator (codes ";") ⨾ newline) ps) (m.1) in
      record {
        behind_it = a_mark (at + 1 + 1) (codes ";") (newline ps) (o.1);
        keywords = m.0;
        items = λ i. notes_at ctx (Before at) ++ item.Goto (label_number l (ctx.word (at + 1)) (o.0) (g.number) i) ∷ [];
        standing = still n ss k w h;
        labels = λ rest. refl;
        clear = λ vs. (λ i. fault_if (not (has_label ctx.labels (o.0 i))) (at + 1) 33 vs) ∙ ap (λ r. fault_if (not (is_some r)) (at + 1) 33 vs) (g.number);
      }

  pub mark_reads : (l : ℕ) → ReadsOne ts f ctx tokens words (t.Mark l)
  mark_reads l ss k around w at depth ps h g p s =
      let o = word_here f.slots tokens ctx.word words at (label_name f l) ((punctuator (codes ":") ⨾ space ⨾ punctuator (codes ";") ⨾ newline) ps) s in
      let b = a_mark (at + 1) (codes ":") ((space ⨾ punctuator (codes ";") ⨾ newline) ps) (o.1) in
      let m = mark_here f.slots tokens ctx.word words (at + 1 + 1) (codes ";") (newline ps) b in
      let number = label_number l (ctx.word at) (o.0) (g.number) in
      record {
        behind_it = m.1;
        keywords = (ap keyword_class (o.0) ∙ not_keyword (label_name f l) (g.name.1), ap keyword_class (m.0));
        items = (λ i. ((notes_at ctx (Before at) ++ item.Mark (number i) ∷ []) ++ []) ++ (map item.Note (p i) ++ [])) ∙
            nothing_more (notes_at ctx (Before at) ++ item.Mark l ∷ []);
        standing = still n ss k w h;
        labels = λ rest i. o.0 i ∷ map ctx.word rest;
        clear = λ vs. refl;
      }
    where
      nothing_behind : (xs : List Item) → xs ++ [] ≡ xs
      nothing_behind [] = refl
      nothing_behind (x ∷ xs) = ap (λ l. x ∷ l) (nothing_behind xs)

      nothing_more : (xs : List Item) → (xs ++ []) ++ [] ≡ xs
      nothing_more xs = nothing_behind (xs ++ []) ∙ nothing_behind xs

  returned : (o : Option IntKind) (env : Env) (at : ℕ) (x : _) (vs : Faults) → is_some o ≡ true → return_faults o env at (Some x) vs ≡ value_faults env x vs
  returned (Some k) env at x vs h = refl
  returned None env at x vs h = cc

  pub return_reads : (e : Option ExpressionTree) → ReadsOne ts f ctx tokens words (t.Return e)
  return_reads None ss k around w at depth ps h g p s =
      let m = keyword_here at (codes "return") ((punctuator (codes ";") ⨾ newline) ps) s in
      record {
        behind_it = a_mark (at + 1) (codes ";") (newline ps) (m.1);
        keywords = m.0;
        items = refl;
        standing = still n ss k w h;
        labels = λ rest. refl;
        clear = λ vs. ap (λ r. return_faults r (env_at ctx w) at None vs) g;
      }
  return_reads (Some x) ss k around w at depth ps h g p s =
      let m = keyword_here at (codes "return") ((space ⨾ expression_text f.slots (expression_in x) 1 ⨾ punctuator (codes ";") ⨾ newline) ps) s in
      let u = full_read ss k w (at + 1) x ((punctuator (codes ";") ⨾ newline) ps) h ((g.0).good) (m.1) in
      record {
        behind_it = a_mark (expression_end (at + 1) (derivation_of x)) (codes ";") (newline ps) (u.behind_it);
        keywords = m.0;
        items = λ i. notes_at ctx (Before at) ++ item.Return (Some (value_here ss w (at + 1) x _ u ((g.0).kind) i)) ∷ [];
        standing = still n ss k w h;
        labels = λ rest. refl;
        clear = λ vs. returned ctx.result (env_at ctx w) at (expression_term (at + 1) (derivation_of x)) vs (g.1) ∙
            values_clear ss w (at + 1) x _ u ((g.0).kind) vs;
      }
