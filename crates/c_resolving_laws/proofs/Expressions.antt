-- Expressions without a violation: their kinds agree, they write no const, and their names are bound.
use Rattle.std.proofs.Common.{ℕ, pos, Bool, true, false, cond, List, [], Option, Some, None, ◌≡◌, refl, sym, subst, arith}
use Rattle.std.specs.Prelude.{IfSome, IsSomeAnd}
use Rattle.std.proofs.lemmas.Int.{ints}
use Rattle.c_types.specs.declared.kinds.IntKind.TheVariants.{Int}
use Rattle.c_tree.specs.declared.tree.UnaryOp.{UnaryOp}
use Rattle.c_types.specs.Numbers.{IsInRange}
use Rattle.c_tree.specs.ExpressionTrees.{Typed}
use Rattle.c_tree.proofs.ExpressionLaws.{node-Number, node-Character}
use Rattle.c_lexer.specs.declared.number.Integer.{Integer}
use Rattle.c_lexer.specs.Marks.{mark_of}
use Rattle.c_lexer.specs.Numbers.{integer_of}
use Rattle.c_grammar.specs.Terms.{Term, Form, Terms, At, Constant, Variable, Cell, Prefix, Suffix, CastTo, CastVoid, Binary, Choice, Assign, Commas, Call, Texts, Unknown, NoTerm, Then, first_of}
use Rattle.c_grammar.specs.Words.{kind_of, is_character, character}
use Rattle.c_kinds.specs.declared.typed.Typed as typed
use Rattle.c_kinds.specs.declared.typed.Given.{Given}
use Rattle.c_kinds.specs.Marks.{step_of, counts_up, unary_op, binary_op, update_op}
use Rattle.c_kinds.specs.Scopes.{Env, Faults, meaning}
use Rattle.c_kinds.specs.Values.{value_of, dropped, number, character_constant, writable, unary, counting, comma}
use Rattle.c_kinds.specs.Names.{variable_of}
use Rattle.c_kinds.specs.Typing.{constant, typed, commas, target_of, form_target, given, faults, form_faults, unused_faults, target_faults, form_target_faults, given_faults, form_typed, used, unused, cell_of}
use Rattle.c_resolved_defs.specs.Within.{Each}
use Rattle.c_resolved_defs.specs.Names.{Names}
use Rattle.c_resolved_defs.specs.Scopes.{Scope}
use Rattle.c_resolving_laws.proofs.Empty.{use_empty, drop_empty, given_empty}
use Rattle.c_resolving_laws.proofs.Known.{Knows}
use Rattle.c_resolving_laws.specs.Read.{IsTarget, IsTargetForm, FitsStep, IsReadTerm, IsReadForm, AreReadTerms}
use Rattle.c_resolving_laws.proofs.Numbers.{IsNumberOf, integer_in_range}
use Rattle.c_resolving_laws.proofs.Values.{SoundTyped, SoundValue, SoundDropped, IsWrittenTarget, use_clean, drop_clean, named_sound, variable_sound, target_clean, number_target_sound, cell_target_sound, writable_sound, reading_sound, unary_sound, counting_sound, cast_sound, cast_void_sound, binary_sound, choice_sound, assignment_sound, comma_sound, Operand}
use Rattle.c_resolving_laws.proofs.Calls.{called_sound}

module _ (n : Names) (ss : List Scope) (env : Env) (knows : Knows n ss env) where
  -- ---- constants

  number_sound : (o : Option Integer) → IfSome o (λ (i : Integer). IsNumberOf i.kind i.value) → SoundTyped n ss (number o)
  number_sound None h = subst (λ x. Operand n ss (Typed (Some Int) x)) (sym (node-Number (pos 0))) (((no_int, tt, tt), tt), tt)
    where
      no_int : IsInRange Int (pos 0)
      no_int = record { from_least = grind (arith, ints); to_greatest = grind (arith, ints) }
  number_sound (Some i) h = subst (λ x. Operand n ss (Typed (Some i.kind) x)) (sym (node-Number (pos i.value))) (((h.0, tt, tt), tt), tt)

  character_sound : (b : ℕ) → SoundTyped n ss (character_constant b)
  character_sound b = subst (λ x. Operand n ss (Typed (Some Int) x)) (sym (node-Character b)) (((refl, tt, tt), tt), tt)

  constant_sound : (w : List ℕ) → SoundTyped n ss (constant w)
  constant_sound w = by (is_character w)
    where
      by : (b : Bool) → SoundTyped n ss (cond b (character_constant (character w)) (number (integer_of w)))
      by true = character_sound (character w)
      by false = number_sound (integer_of w) (integer_in_range w)

  -- ---- expressions

  -- an expression that was read without a violation
  abbrev pub Clean : Term → Faults → Type 0
  Clean t vs = (vs ≡ []) × SoundTyped n ss (typed env t)

  abbrev CleanTarget : Term → Faults → Type 0
  CleanTarget t vs = (vs ≡ []) × IsSomeAnd (writable (target_of env t)) (IsWrittenTarget n ss)

  abbrev pub Droppable : typed.Typed → Type 0
  Droppable x = SoundTyped n ss x × IsSomeAnd (dropped x) (SoundDropped n ss)

  -- an operand whose value is used
  pub used_clean : (t : Term) (vs : Faults) → used env t (faults env t vs) ≡ [] → (faults env t vs ≡ [] → Clean t vs) →
      (vs ≡ []) × IsSomeAnd (value_of (typed env t)) (SoundValue n ss)
  used_clean t vs e r =
      let c = r (use_empty (first_of t) (typed env t) (faults env t vs) e) in
      (c.0, (use_clean n ss (first_of t) (typed env t) (faults env t vs) e c.1).1)

  pub unused_clean : (t : Term) (vs : Faults) → unused env t (faults env t vs) ≡ [] → (faults env t vs ≡ [] → Clean t vs) → (vs ≡ []) × Droppable (typed env t)
  unused_clean t vs e r =
      let c = r (drop_empty (first_of t) (typed env t) (faults env t vs) e) in
      (c.0, (c.1, (drop_clean n ss (first_of t) (typed env t) (faults env t vs) e c.1).1))

  -- an operand with a mark in front
  prefix_clean : (o : Option Bool) (op : UnaryOp) (a : Term) (vs : Faults) → FitsStep o a → (IsTarget a → target_faults env a vs ≡ [] → CleanTarget a vs)
      → (used env a (faults env a vs) ≡ [] → (vs ≡ []) × IsSomeAnd (value_of (typed env a)) (SoundValue n ss))
      → ◌≡◌ {A = Faults} (elim o [ Some up ↦ target_faults env a vs | None ↦ used env a (faults env a vs) ]) []
      → (vs ≡ []) × SoundTyped n ss (elim o [ Some up ↦ counting up false (writable (target_of env a)) | None ↦ unary op (value_of (typed env a)) ])
  prefix_clean (Some up) op a vs h t u e = let c = t h e in (c.0, counting_sound n ss up false (writable (target_of env a)) c.1)
  prefix_clean None op a vs h t u e = let c = u e in (c.0, unary_sound n ss op (value_of (typed env a)) c.1)

  variable_target : (at : ℕ) (vs : Faults) → form_target_faults env (Variable at) vs ≡ [] →
      (vs ≡ []) × IsSomeAnd (writable (form_target env (Variable at))) (IsWrittenTarget n ss)
  variable_target at vs e =
      let m = env.word at in
      let o = meaning env at in
      let c = target_clean n ss true false at m o vs e in
      (c.0, writable_sound n ss (form_target env (Variable at)) (number_target_sound n ss true (variable_of m o) (variable_sound n ss m o (knows m)) c.1))

  mutual
    pub sound : (t : Term) (vs : Faults) → IsReadTerm env.word t → faults env t vs ≡ [] → Clean t vs
    sound (At first form) vs r e = form_sound form vs r e

    form_sound : (f : Form) (vs : Faults) → IsReadForm env.word f → form_faults env f vs ≡ [] → (vs ≡ []) × SoundTyped n ss (form_typed env f)
    form_sound (Constant at) vs r e = (e, constant_sound (env.word at))
    form_sound (Variable at) vs r e = named_sound n ss at (env.word at) (meaning env at) vs e (knows (env.word at))
    form_sound (Cell at i) vs r e =
        let m = env.word at in
        let o = meaning env at in
        let c = target_clean n ss false true at m o (used env i (faults env i vs)) e in
        let v = used_clean i vs c.0 (sound i vs r.1) in (
          v.0,
          reading_sound n ss (cell_of env at i) (cell_target_sound n ss false (variable_of m o) (value_of (typed env i))
              (variable_sound n ss m o (knows m)) c.1 v.1),
        )
    form_sound (Prefix m a) vs r e =
        prefix_clean (step_of (mark_of (env.word m))) (unary_op (mark_of (env.word m))) a vs r.0 (λ t k. target_sound a vs t r.1 k)
        (λ k. used_clean a vs k (sound a vs r.1)) e
    form_sound (Suffix m a) vs r e = let c = target_sound a vs r.0 r.1 e in
        (c.0, counting_sound n ss (counts_up (mark_of (env.word m))) true (writable (target_of env a)) c.1)
    form_sound (CastTo words a) vs r e = let c = used_clean a vs e (sound a vs r) in
        (c.0, cast_sound n ss (kind_of env.word words) (value_of (typed env a)) c.1)
    form_sound (CastVoid a) vs r e = let c = unused_clean a vs e (sound a vs r) in (c.0, cast_void_sound n ss (dropped (typed env a)) c.1.1)
    form_sound (Binary m a b) vs r e =
        let d = used_clean b (used env a (faults env a vs)) e (sound b (used env a (faults env a vs)) r.1) in
        let c = used_clean a vs d.0 (sound a vs r.0) in
        (c.0, binary_sound n ss (binary_op (mark_of (env.word m))) (value_of (typed env a)) (value_of (typed env b)) c.1 d.1)
    form_sound (Choice a b c) vs r e =
        let va = used env a (faults env a vs) in
        let vb = used env b (faults env b va) in
        let f = used_clean c vb e (sound c vb r.2) in
        let d = used_clean b va f.0 (sound b va r.1) in
        let g = used_clean a vs d.0 (sound a vs r.0) in
        (g.0, choice_sound n ss (value_of (typed env a)) (value_of (typed env b)) (value_of (typed env c)) g.1 d.1 f.1)
    form_sound (Assign m t a) vs r e =
        let d = used_clean a (target_faults env t vs) e (sound a (target_faults env t vs) r.2) in
        let c = target_sound t vs r.0 r.1 d.0 in
        (c.0, assignment_sound n ss (update_op (mark_of (env.word m))) (writable (target_of env t)) (value_of (typed env a)) c.1 d.1)
    form_sound (Commas a bs) vs r e =
        let va = unused env a (faults env a vs) in
        let c = commas_sound bs (typed env a) va r.1 e in
        let d = unused_clean a vs c.0 (sound a vs r.0) in
        (d.0, (c.1 d.1).0)
    form_sound (Call at xs) vs r e =
        let m = env.word at in
        let o = meaning env at in
        let v = given_faults env xs vs in
        let g = given_empty at o (given env xs) v e in
        let c = given_sound xs vs r.1 g in
        (c.0, (called_sound n ss at m o (given env xs) v e c.1 (knows m)).1)
    form_sound (Texts ats) vs r e = (e, tt)
    form_sound Unknown vs r e = absurd r

    commas_sound : (bs : Terms) (a : typed.Typed) (vs : Faults) → AreReadTerms env.word bs → unused_faults env bs vs ≡ [] →
        (vs ≡ []) × (Droppable a → Droppable (commas env a bs))
    commas_sound NoTerm a vs r e = (e, λ d. d)
    commas_sound (Then b bs) a vs r e =
        let vb = unused env b (faults env b vs) in
        let c = commas_sound bs (comma (dropped a) (typed env b)) vb r.1 e in
        let d = unused_clean b vs c.0 (sound b vs r.0) in
        (d.0, λ k. c.1 (comma_sound n ss (dropped a) (typed env b) k.1 d.1.1 d.1.0))

    target_sound : (t : Term) (vs : Faults) → IsTarget t → IsReadTerm env.word t → target_faults env t vs ≡ [] → CleanTarget t vs
    target_sound (At first form) vs h r e = form_target_sound form vs h r e

    form_target_sound : (f : Form) (vs : Faults) → IsTargetForm f → IsReadForm env.word f → form_target_faults env f vs ≡ [] →
        (vs ≡ []) × IsSomeAnd (writable (form_target env f)) (IsWrittenTarget n ss)
    form_target_sound (Variable at) vs h r e = variable_target at vs e
    form_target_sound (Cell at i) vs h r e =
        let m = env.word at in
        let o = meaning env at in
        let c = target_clean n ss true true at m o (used env i (faults env i vs)) e in
        let v = used_clean i vs c.0 (sound i vs r.1) in (
          v.0,
          writable_sound n ss (cell_of env at i) (cell_target_sound n ss true (variable_of m o) (value_of (typed env i))
              (variable_sound n ss m o (knows m)) c.1 v.1),
        )
    form_target_sound _ vs h r e = absurd h

    given_sound : (xs : Terms) (vs : Faults) → AreReadTerms env.word xs → given_faults env xs vs ≡ [] →
        (vs ≡ []) × Each (λ (g : Given). SoundTyped n ss g.typed) (given env xs)
    given_sound NoTerm vs r e = (e, tt)
    given_sound (Then x xs) vs r e =
        let c = given_sound xs (faults env x vs) r.1 e in
        let d = sound x vs r.0 c.0 in
        (d.0, (d.1, c.1))
