-- Variables of a block, and `for` with its first part, read back as their items.
use Rattle.std.proofs.Common.{◌≡◌, ◌+◌, ℕ, List, [], ◌∷◌, ◌++◌, map, Option, Some, None, refl, ap, sym, subst, ◌∙◌, arith}
use Rattle.std.specs.Prelude.{codes, option_map, slice_get, IsSomeAnd}
use Rattle.std.specs.Option.{option_map_or}
use Rattle.c_tree.specs.declared.tree.Slot.{Slot}
use Rattle.c_tree.specs.declared.tree.Function.{Function}
use Rattle.c_tree.specs.declared.tree.Top.{Top}
use Rattle.c_tree.specs.declared.tree.Item.{Item}
use Rattle.c_tree.specs.declared.tree.Item as item
use Rattle.c_tree.specs.ExpressionTrees.{ExpressionTree}
use Rattle.c_tree.specs.Trees.{Tree, Forest, Nil, Then}
use Rattle.c_tree.specs.Trees as t
use Rattle.c_tree.specs.TextPieces.{Piece, Text, ◌⨾◌, nothing, space, newline, punctuator}
use Rattle.c_tree.specs.TextItems.{part_text, declaration_text, braced}
use Rattle.c_grammar.specs.ExpressionSyntax.{expression_end}
use Rattle.c_grammar.specs.Statements.{NoItems}
use Rattle.c_grammar.specs.Statements as g
use Rattle.c_grammar.specs.StatementSyntax.{optional_end, local_end}
use Rattle.c_kinds.specs.Scopes.{Faults}
use Rattle.c_statements.specs.declared.anchors.Anchor.TheVariants.{Before}
use Rattle.c_statements.specs.Context.{Context, Walk, in_loop, env_at, enter, leave, notes_at}
use Rattle.c_statements.specs.Declarations.{value_at, value_faults, kinded, locals}
use Rattle.c_statements.specs.Statements.{behind_body, dropped_at}
use Rattle.c_statements.specs.Violations.{dropped_faults, optional_faults, body_faults}
use Rattle.c_resolved_defs.specs.Resolved.{names_in}
use Rattle.c_resolved_defs.specs.Scopes.{Scope, behind_all, inside}
use Rattle.print_laws.specs.Reread.{Spelling}
use Rattle.print_laws.specs.Standing.{Stands}
use Rattle.print_laws.specs.ExpressionDerivations.{derivation_of}
use Rattle.print_laws.specs.StatementDerivations.{no_local, declaration_of, block, items_of}
use Rattle.reread_parts_laws.specs.WrittenStatements.{optional_term, written_declaration, written_body}
use Rattle.reread_parts_laws.specs.Words.{AreWords}
use Rattle.reread_parts_laws.specs.Places.{IsExpressionOf}
use Rattle.reread_parts_laws.specs.GoodItems.{IsValueOf, IsVariable, slots_in}
use Rattle.reread_parts_laws.proofs.Mirrors.{expression_in}
use Rattle.reread_parts_laws.proofs.ItemMirrors.{forest_in, printed_tree, printed_forest}
use Rattle.reread_parts_laws.specs.Places.{Standing}
use Rattle.reread_parts_laws.proofs.DeclarationsRead.{words_read, declarator_read}
use Rattle.reread_parts_laws.proofs.ListsRead.{still, entered, left, ItemRead, ReadsOne, ReadsList}
use Rattle.reread_parts_laws.proofs.LeavesRead.{full_read, dropped_is, drops_clear, value_here, values_clear, keyword_here, a_mark}
use Rattle.reread_parts_laws.proofs.ConstructsRead.{braced_read}
use Rattle.c_tree.specs.declared.tree.Home.TheVariants as H
use Rattle.c_tree.specs.TextPieces.{comma, joined}
use Rattle.c_tree.specs.TextItems.{Printed, first_text, declarator_text}
use Rattle.c_grammar.specs.ExpressionSyntax.{type_end}
use Rattle.c_grammar.specs.StatementSyntax.{word_end, more_end, declarator_end, for_start_end}
use Rattle.c_resolved_defs.specs.Names.{Names}
use Rattle.c_resolved_defs.specs.Scopes.{AVariable, bind}
use Rattle.std.specs.Prelude.{suc, IfSome}
use Rattle.c_statements.specs.declared.extents.Kinded.{Kinded}
use Rattle.c_statements.specs.Declarations.{declared, all_declared, local, local_faults, locals_faults}
use Rattle.c_statements.specs.Statements.{declared_by, behind_start, start_items}
use Rattle.c_statements.specs.Violations.{declaration_faults, start_faults}
use Rattle.print_laws.specs.ExpressionDerivations.{type_of}
use Rattle.print_laws.specs.StatementDerivations.{declarator_of, no_declarator, declarators_of, start_of}
use Rattle.reread_parts_laws.specs.GoodItems.{with_slot, AreFurther, IsStart}
use Rattle.reread_parts_laws.specs.WrittenStatements.{written_declarator, further_declarators, written_start}
use Rattle.reread_parts_laws.proofs.DeclarationsRead.{kinds_of}
use Rattle.c_resolved_defs.specs.Form.{gathered, marked_label}
use Rattle.reread_parts_laws.proofs.ListsRead.{names_of}
use Rattle.reread_parts_laws.proofs.Readings.{there}

module _ (ts : List Top) (f : Function) (ctx : Context) (tokens : List Spelling) (words : AreWords ctx.word tokens) where
  abbrev nm : Names
  nm = names_in ts f

  -- ---- the names of a declaration behind the first

  -- declarators, each behind a comma, of a kind
  pub record Declares (after : List Scope) (next : ℕ) (w : Walk) (at : ℕ) (kd : Kinded) (ds : List g.Declarator) (xs : List Item) (ps : List Piece) :
      Type 0 where
    pub behind_it : Stands tokens (more_end declarator_end at ds) ps
    pub locals_are : locals ctx.word kd (further_declarators at ds) w ≡ xs
    pub standing : Standing nm after next (all_declared ctx.word kd (further_declarators at ds) w)
    pub clear : (vs : Faults) → locals_faults ctx.word kd (further_declarators at ds) w vs ≡ vs

  abbrev further_lines : Forest → Text
  further_lines xs = joined (map (λ (y : Printed). y.further) (printed_forest f xs))

  abbrev FurtherRead : Slot → Forest → Type 0
  FurtherRead s xs = (ss : List Scope) (k : ℕ) (w : Walk) (at : ℕ) (ps : List Piece) → Standing nm ss k w → AreFurther nm f ctx ss k s xs →
      Stands tokens at (further_lines xs ps)
      → Declares (behind_all f.slots ss xs) (k + slots_in xs) w at (kinds_of s) (declarators_of f.slots xs) (forest_in xs) ps

  -- one more, whose slot is known
  one_more : (s r : Slot) (given : Option (List ExpressionTree)) (ss after : List Scope) (k next : ℕ) (w : Walk) (at : ℕ) (ds : List g.Declarator)
      (xs : List Item) (rest ps : List Piece) → r.kind ≡ s.kind → r.constant ≡ s.constant → Standing nm ss k w → IsVariable nm ss k r given
      → Stands tokens at (comma (declarator_text f.slots r (option_map (map expression_in) given) rest))
      → ((v : Walk) (z : ℕ) → Standing nm (with_slot k r ss) (suc k) v → Stands tokens z rest → Declares after next v z (kinds_of s) ds xs ps)
      → Declares after next w at (kinds_of s) (declarator_of r given ∷ ds) (item.Local k (option_map (map expression_in) given) ∷ xs) ps
  one_more s r given ss after k next w at ds xs rest ps kind constant h v b later =
      let same : kinds_of r ≡ kinds_of s = λ i. record { kind = kind i; constant = constant i } in
      let m = a_mark ts f ctx tokens words at (codes ",") (space (declarator_text f.slots r (option_map (map expression_in) given) rest)) b in
      let u = declarator_read nm ctx.word tokens words ss k w (at + 1) r given rest h v m in
      let d = written_declarator (at + 1) (declarator_of r given) in
      let u1 = subst (λ z. Standing nm (with_slot k r ss) (suc k) (declared ctx.word z d w)) same (u.standing) in
      let u2 = subst (λ z. local ctx.word z d w ≡ item.Local k (option_map (map expression_in) given)) same (u.local_is) in
      let v1 = declared ctx.word (kinds_of s) d w in
      let y = declarator_end (at + 1) (declarator_of r given) in
      let l = later v1 y u1 (u.behind) in
      record {
        behind_it = l.behind_it;
        locals_are = λ i. u2 i ∷ l.locals_are i;
        standing = l.standing;
        clear = λ vs. ap (locals_faults ctx.word (kinds_of s) (further_declarators y ds) v1)
            (subst (λ z. local_faults ctx.word z d w vs ≡ vs) same (u.clear vs)) ∙ l.clear vs;
      }

  -- at the number of its slot
  further_at : (s : Slot) (k : ℕ) (given : Option (List ExpressionTree)) (xs : Forest) → FurtherRead s xs → (o : Option Slot) →
      slice_get f.slots k ≡ o → (ss : List Scope) (w : Walk) (at : ℕ) (ps : List Piece) → Standing nm ss k w
      → IsSomeAnd o (λ r. IsVariable nm ss k r given × (r.kind ≡ s.kind) × (r.constant ≡ s.constant) × AreFurther nm f ctx (with_slot k r ss) (suc k) s xs)
      → Stands tokens at ((option_map_or (λ (q : Slot). comma ⨾ declarator_text f.slots q (option_map (map expression_in) given)) o
      nothing ⨾ further_lines xs) ps)
      → Declares (behind_all f.slots (bind (option_map_or (λ (q : Slot). q.name) o []) (AVariable (H.Slot k)) ss) xs) (k + (1 + slots_in xs)) w at
      (kinds_of s) (option_map_or (λ (q : Slot). declarator_of q given) o no_declarator ∷ declarators_of f.slots xs)
      (item.Local k (option_map (map expression_in) given) ∷ forest_in xs) ps
  further_at s k given xs later None is ss w at ps h g b = absurd g
  further_at s k given xs later (Some r) is ss w at ps h g b =
      let count : suc k + slots_in xs ≡ k + (1 + slots_in xs) = omega arith in
      one_more s r given ss (behind_all f.slots (with_slot k r ss) xs) k (k + (1 + slots_in xs)) w at (declarators_of f.slots xs) (forest_in xs)
      (further_lines xs ps) ps (g.1) (g.2) h (g.0) b
      (λ v z st a. subst (λ i. Declares (behind_all f.slots (with_slot k r ss) xs) i v z (kinds_of s) (declarators_of f.slots xs) (forest_in xs) ps)
      count (later (with_slot k r ss) (suc k) v z ps st (g.3) a))

  further_local : (s : Slot) (j : ℕ) (given : Option (List ExpressionTree)) (xs : Forest) → FurtherRead s xs → FurtherRead s (Then (t.Local j given) xs)
  further_local s j given xs later ss k w at ps h g b =
      subst (λ i. Stands tokens at (further_lines (Then (t.Local i given) xs) ps) →
      Declares (behind_all f.slots ss (Then (t.Local i given) xs)) (k + slots_in (Then (t.Local i given) xs)) w at (kinds_of s)
      (declarators_of f.slots (Then (t.Local i given) xs)) (forest_in (Then (t.Local i given) xs)) ps)
      (sym (g.0)) (λ c. further_at s k given xs later (slice_get f.slots k) refl ss w at ps h (g.1) c) b

  further_none : (s : Slot) → FurtherRead s Nil
  further_none s ss k w at ps h g b = record { behind_it = b; locals_are = refl; standing = still nm ss k w h; clear = λ vs. refl }

  further_reads : (s : Slot) (xs : Forest) → FurtherRead s xs
  further_reads s Nil = further_none s
  further_reads s (Then (t.Local j given) xs) = further_local s j given xs (further_reads s xs)
  further_reads s (Then _ xs) = λ ss k w at ps h g b. absurd g

  -- ---- whole declarations

  -- a declaration up to its `;`
  pub record Declaring (after : List Scope) (next : ℕ) (w : Walk) (at : ℕ) (x : g.Local) (xs : List Item) (ps : List Piece) : Type 0 where
    pub behind_it : Stands tokens (local_end at x) ps
    pub locals_are : locals ctx.word (kinded ctx.word (written_declaration at x)) (written_declaration at x).names w ≡ xs
    pub standing : Standing nm after next (declared_by ctx (written_declaration at x) w)
    pub clear : (vs : Faults) → declaration_faults ctx (written_declaration at x) w vs ≡ vs

  -- by its first slot
  first_at : (s : Slot) (given : Option (List ExpressionTree)) (ss after : List Scope) (k next : ℕ) (w : Walk) (at : ℕ) (ds : List g.Declarator)
      (xs : List Item) (rest ps : List Piece) → Standing nm ss k w → IsVariable nm ss k s given
      → Stands tokens at (declaration_text f.slots s (option_map (map expression_in) given) rest)
      → ((v : Walk) (z : ℕ) → Standing nm (with_slot k s ss) (suc k) v → Stands tokens z rest →
      Declares after next v z (kinds_of s) ds xs (punctuator (codes ";") ps))
      → Declaring after next w at (declaration_of s given ds) (item.Local k (option_map (map expression_in) given) ∷ xs) ps
  first_at s given ss after k next w at ds xs rest ps h v b later =
      let es = option_map (map expression_in) given in
      let c = words_read f.slots tokens ctx.word words s at (space (declarator_text f.slots s es rest)) b in
      let y = type_end (word_end at s.constant) (type_of s.kind) in
      let u = declarator_read nm ctx.word tokens words ss k w y s given rest h v (c.behind) in
      let d = written_declarator y (declarator_of s given) in
      let v1 = declared ctx.word (kinds_of s) d w in
      let z = declarator_end y (declarator_of s given) in
      let l = later v1 z (u.standing) (u.behind) in
      let whole = written_declaration at (declaration_of s given ds) in
      let kd : kinded ctx.word whole ≡ kinds_of s = λ i. record { kind = c.kind_is_read i; constant = s.constant } in
      record {
        behind_it = a_mark ts f ctx tokens words (more_end declarator_end z ds) (codes ";") ps (l.behind_it);
        locals_are = ap (λ j. locals ctx.word j whole.names w) kd ∙ (λ i. u.local_is i ∷ l.locals_are i);
        standing = subst (λ j. Standing nm after next (all_declared ctx.word j whole.names w)) (sym kd) (l.standing);
        clear = λ vs. ap (λ j. locals_faults ctx.word j whole.names w vs) kd ∙
            ap (locals_faults ctx.word (kinds_of s) (further_declarators z ds) v1) (u.clear vs) ∙ l.clear vs;
      }

  -- ---- a variable of a block

  local_at : (k : ℕ) (given : Option (List ExpressionTree)) (o : Option Slot) → (ss : List Scope) (w : Walk) (at : ℕ) (ps : List Piece) →
      Standing nm ss k w → IsSomeAnd o (λ s. IsVariable nm ss k s given)
      → Stands tokens at ((option_map_or (λ (q : Slot). declaration_text f.slots q (option_map (map expression_in) given)) o nothing ⨾ punctuator
      (codes ";")) ps)
      → Declaring (bind (option_map_or (λ (q : Slot). q.name) o []) (AVariable (H.Slot k)) ss) (k + 1) w at
      (option_map_or (λ (q : Slot). declaration_of q given []) o no_local) (item.Local k (option_map (map expression_in) given) ∷ []) ps
  local_at k given None ss w at ps h g b = absurd g
  local_at k given (Some s) ss w at ps h g b =
      let count : suc k ≡ k + 1 = omega arith in
      first_at s given ss (with_slot k s ss) k (k + 1) w at [] [] (punctuator (codes ";") ps) ps h g b
      (λ v z st a. record { behind_it = a; locals_are = refl; standing = subst (λ i. Standing nm (with_slot k s ss) i v) count st; clear = λ vs. refl })

  pub local_reads : (j : ℕ) (given : Option (List ExpressionTree)) → ReadsOne ts f ctx tokens words (t.Local j given)
  local_reads j given ss k around w at depth ps h g p b =
      subst (λ i. Stands tokens at ((printed_tree f (t.Local i given)).lines depth ps) →
      ItemRead ts f ctx tokens words ss k around w at (t.Local i given) ps) (sym (g.0))
      (λ c. let u = local_at k given (slice_get f.slots k) ss w at (newline ps) h (g.1) c in
      record {
        behind_it = u.behind_it;
        keywords = tt;
        items = ap (λ l. notes_at ctx (Before at) ++ l) (u.locals_are);
        standing = u.standing;
        clear = u.clear;
        labels = λ rest. refl;
      }) b

  -- ---- the first part of a `for`, up to its `;`

  pub record StartRead (ss : List Scope) (k : ℕ) (w : Walk) (at : ℕ) (first : Forest) (ps : List Piece) : Type 0 where
    pub behind_it : Stands tokens (for_start_end at (start_of f.slots first)) ps
    pub items : start_items ctx (written_start at (start_of f.slots first)) w ≡ forest_in first
    pub standing : Standing nm (behind_all f.slots ss first) (k + slots_in first) (behind_start ctx (written_start at (start_of f.slots first)) w)
    pub clear : (vs : Faults) → start_faults ctx (written_start at (start_of f.slots first)) w vs ≡ vs

  names_at : (k : ℕ) (given : Option (List ExpressionTree)) (xs : Forest) (o : Option Slot) →
      (ss : List Scope) (w : Walk) (at : ℕ) (ps : List Piece) → Standing nm ss k w
      → IsSomeAnd o (λ s. IsVariable nm ss k s given × AreFurther nm f ctx (with_slot k s ss) (suc k) s xs)
      → Stands tokens at ((option_map_or (λ (q : Slot). declaration_text f.slots q (option_map (map expression_in) given)) o nothing ⨾ further_lines
      xs ⨾ punctuator (codes ";")) ps)
      → Declaring (behind_all f.slots (bind (option_map_or (λ (q : Slot). q.name) o []) (AVariable (H.Slot k)) ss) xs) (k + (1 + slots_in xs)) w at
      (option_map_or (λ (q : Slot). declaration_of q given (declarators_of f.slots xs)) o no_local)
      (item.Local k (option_map (map expression_in) given) ∷ forest_in xs) ps
  names_at k given xs None ss w at ps h g b = absurd g
  names_at k given xs (Some s) ss w at ps h g b =
      let count : suc k + slots_in xs ≡ k + (1 + slots_in xs) = omega arith in
      first_at s given ss (behind_all f.slots (with_slot k s ss) xs) k (k + (1 + slots_in xs)) w at (declarators_of f.slots xs) (forest_in xs)
      (further_lines xs (punctuator (codes ";") ps)) ps h (g.0) b
      (λ v z st a. subst (λ i. Declares (behind_all f.slots (with_slot k s ss) xs) i v z (kinds_of s) (declarators_of f.slots xs) (forest_in xs)
      (punctuator (codes ";") ps)) count (further_reads s xs (with_slot k s ss) (suc k) v z (punctuator (codes ";") ps) st (g.1) a))

  start_local : (j : ℕ) (given : Option (List ExpressionTree)) (xs : Forest) (ss : List Scope) (k : ℕ) (w : Walk) (at : ℕ) (ps : List Piece) →
      Standing nm ss k w → IsStart nm f ctx ss k (Then (t.Local j given) xs)
      → Stands tokens at ((first_text (printed_forest f (Then (t.Local j given) xs)) ⨾ punctuator (codes ";")) ps) →
      StartRead ss k w at (Then (t.Local j given) xs) ps
  start_local j given xs ss k w at ps h g b =
      subst (λ i. Stands tokens at ((first_text (printed_forest f (Then (t.Local i given) xs)) ⨾ punctuator (codes ";")) ps) →
      StartRead ss k w at (Then (t.Local i given) xs) ps) (sym (g.0))
      (λ c. let u = names_at k given xs (slice_get f.slots k) ss w at ps h (g.1) c in
      record { behind_it = u.behind_it; items = u.locals_are; standing = u.standing; clear = u.clear }) b

  pub start_read : (first : Forest) (ss : List Scope) (k : ℕ) (w : Walk) (at : ℕ) (ps : List Piece) → Standing nm ss k w →
      IsStart nm f ctx ss k first → Stands tokens at ((first_text (printed_forest f first) ⨾ punctuator (codes ";")) ps) → StartRead ss k w at first ps
  start_read Nil ss k w at ps h g b = record {
    behind_it = a_mark ts f ctx tokens words at (codes ";") ps b;
    items = refl;
    standing = still nm ss k w h;
    clear = λ vs. refl;
  }
  start_read (Then (t.Evaluate x) Nil) ss k w at ps h g b =
      let u = full_read ts f ctx tokens words ss k w at x (punctuator (codes ";") ps) h g b in
      record {
        behind_it = a_mark ts f ctx tokens words (expression_end at (derivation_of x)) (codes ";") ps (u.behind_it);
        items = λ i. item.Evaluate (dropped_is ts f ctx tokens words ss w at x _ u i) ∷ [];
        standing = still nm ss k w h;
        clear = λ vs. drops_clear ts f ctx tokens words ss w at x _ u vs;
      }
  start_read (Then (t.Local j given) xs) ss k w at ps h g b = start_local j given xs ss k w at ps h g b
  start_read (Then (t.Evaluate x) (Then y ys)) ss k w at ps h g b = absurd g
  start_read (Then _ xs) ss k w at ps h g b = absurd g

  -- no label stands in it
  further_no_marks : (xs : Forest) (ss : List Scope) (k : ℕ) (s : Slot) → AreFurther nm f ctx ss k s xs → gathered marked_label xs ≡ []
  further_no_marks Nil ss k s h = refl
  further_no_marks (Then (t.Local j given) xs) ss k s h =
      let y = there (slice_get f.slots k) (λ r. IsVariable nm ss k r given × (r.kind ≡ s.kind) × (r.constant ≡ s.constant) ×
      AreFurther nm f ctx (with_slot k r ss) (suc k) s xs) (h.1) in
      further_no_marks xs (with_slot k (y.slot) ss) (suc k) s ((y.holds).3)
  further_no_marks (Then _ xs) ss k s h = absurd h

  no_marks : (first : Forest) (ss : List Scope) (k : ℕ) → IsStart nm f ctx ss k first → gathered marked_label first ≡ []
  no_marks Nil ss k h = refl
  no_marks (Then (t.Evaluate x) Nil) ss k h = refl
  no_marks (Then (t.Local j given) xs) ss k h =
      let y = there (slice_get f.slots k) (λ s. IsVariable nm ss k s given × AreFurther nm f ctx (with_slot k s ss) (suc k) s xs) (h.1) in
      further_no_marks xs (with_slot k (y.slot) ss) (suc k) (y.slot) ((y.holds).1)
  no_marks (Then (t.Evaluate x) (Then z zs)) ss k h = absurd h
  no_marks (Then _ xs) ss k h = absurd h

  -- ---- `for`

  -- a part that may be left out, up to what stands behind it
  values_part : (e : Option ExpressionTree) (ss : List Scope) (k : ℕ) (w : Walk) (at : ℕ) (ps : List Piece) → Standing nm ss k w →
      IfSome e (IsValueOf nm ss) → Stands tokens at (part_text f.slots (option_map expression_in e) ps)
      → (option_map (value_at (env_at ctx w)) (optional_term at (option_map derivation_of e)) ≡ option_map expression_in e) ×
      ((vs : Faults) → optional_faults (value_faults (env_at ctx w)) (optional_term at (option_map derivation_of e)) vs ≡ vs)
      × Stands tokens (optional_end at (option_map derivation_of e)) ps
  values_part None ss k w at ps h g b = (refl, λ vs. refl, b)
  values_part (Some x) ss k w at ps h g b =
      let u = full_read ts f ctx tokens words ss k w at x ps h (g.good) b in
      (ap Some (value_here ts f ctx tokens words ss w at x _ u (g.kind)), λ vs. values_clear ts f ctx tokens words ss w at x _ u (g.kind) vs, u.behind_it)

  dropped_part : (e : Option ExpressionTree) (ss : List Scope) (k : ℕ) (w : Walk) (at : ℕ) (ps : List Piece) → Standing nm ss k w →
      IfSome e (IsExpressionOf nm ss) → Stands tokens at (part_text f.slots (option_map expression_in e) ps)
      → (option_map (dropped_at (env_at ctx w)) (optional_term at (option_map derivation_of e)) ≡ option_map expression_in e) ×
      ((vs : Faults) → optional_faults (dropped_faults (env_at ctx w)) (optional_term at (option_map derivation_of e)) vs ≡ vs)
      × Stands tokens (optional_end at (option_map derivation_of e)) ps
  dropped_part None ss k w at ps h g b = (refl, λ vs. refl, b)
  dropped_part (Some x) ss k w at ps h g b =
      let u = full_read ts f ctx tokens words ss k w at x ps h g b in
      (ap Some (dropped_is ts f ctx tokens words ss w at x _ u), λ vs. drops_clear ts f ctx tokens words ss w at x _ u vs, u.behind_it)

  pub for_reads : (first : Forest) (c u : Option ExpressionTree) (a : Forest) → ReadsList ts f ctx tokens words a →
      ReadsOne ts f ctx tokens words (t.For first c u a)
  for_reads first c u a r ss k around w at depth ps h g p b =
      let p4 = (space ⨾ braced (printed_forest f a) depth ⨾ newline) ps in
      let p3 = punctuator (codes ")") p4 in
      let p2 = (punctuator (codes ";") ⨾ part_text f.slots (option_map expression_in u)) p3 in
      let p1 = part_text f.slots (option_map expression_in c) p2 in
      let p0 = (first_text (printed_forest f first) ⨾ punctuator (codes ";")) p1 in
      let m = keyword_here ts f ctx tokens words at (codes "for") (space (punctuator (codes "(") p0)) b in
      let o = a_mark ts f ctx tokens words (at + 1) (codes "(") p0 (m.1) in
      let inner = entered nm ss k w h in
      let st = start_read first (inside ss) k (enter w) (at + 1 + 1) p1 inner (g.0) o in
      let rs = behind_all f.slots (inside ss) first in
      let i = k + slots_in first in
      let start = written_start (at + 1 + 1) (start_of f.slots first) in
      let v = behind_start ctx start (enter w) in
      let x = for_start_end (at + 1 + 1) (start_of f.slots first) in
      let tc = values_part c rs i v x p2 (st.standing) (g.1) (st.behind_it) in
      let y = optional_end x (option_map derivation_of c) in
      let b2 = a_mark ts f ctx tokens words y (codes ";") (part_text f.slots (option_map expression_in u) p3) (tc.2) in
      let tu = dropped_part u rs i v (y + 1) p3 (st.standing) (g.2) b2 in
      let z = optional_end (y + 1) (option_map derivation_of u) in
      let b3 = a_mark ts f ctx tokens words z (codes ")") p4 (tu.2) in
      let body = written_body (z + 1) (block (items_of f.slots a NoItems)) in
      let l = braced_read ts f ctx tokens words a r rs i (in_loop around) v (z + 1) depth (newline ps) (st.standing) (g.3) p b3 in
      let count : i + slots_in a ≡ k + (slots_in first + slots_in a) = omega arith in
      record {
        behind_it = l.behind_it;
        keywords = (m.0, l.keywords);
        items = λ j. notes_at ctx (Before at) ++ item.For (st.items j) (tc.0 j) (tu.0 j) (l.items j) ∷ [];
        standing = subst (λ j. Standing nm ss j (leave w (behind_body ctx body v))) count
            (left nm ss rs k (i + slots_in a) w (behind_body ctx body v) h (l.standing));
        labels = λ rest. l.labels rest ∙
            (λ j. names_of ts f ctx tokens words (sym (no_marks first (inside ss) k (g.0)) j ++ gathered marked_label a) ++ map ctx.word rest);
        clear = λ vs.
            ap (λ q. body_faults ctx (in_loop around) body v
            (optional_faults (dropped_faults (env_at ctx v)) (optional_term (y + 1) (option_map derivation_of u))
            (optional_faults (value_faults (env_at ctx v)) (optional_term x (option_map derivation_of c)) q))) (st.clear vs)
            ∙ ap (λ q. body_faults ctx (in_loop around) body v
            (optional_faults (dropped_faults (env_at ctx v)) (optional_term (y + 1) (option_map derivation_of u)) q)) (tc.1 vs)
            ∙ ap (body_faults ctx (in_loop around) body v) (tu.1 vs) ∙ l.clear vs;
      }
