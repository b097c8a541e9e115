-- Kinds agree in each item, values stand where values are used, and no const is assigned.
use Rattle.std.proofs.Common.{ℕ, List, [], ◌∷◌, Option, Some, None, option_map, ◌≡◌}
use Rattle.std.specs.Prelude.{IfSome}
use Rattle.c_types.specs.declared.kinds.IntKind.{IntKind}
use Rattle.c_tree.specs.ExpressionTrees.{ExpressionTree, PlaceTree, Arguments, Typed, Var, Cell, Number, Character, EnumName, Text, Array, Read, Unary, Cast, Binary, Conditional, Assign, Update, Count, Comma, Call, NoArgument, Argument, expression_tree}
use Rattle.c_tree.specs.Trees.{Tree, Forest, Sections}
use Rattle.c_tree.specs.Trees as tree
use Rattle.c_grammar.specs.Terms.{Term}
use Rattle.c_kinds.specs.Scopes.{Scope}
use Rattle.c_statements.specs.Context.{Context, Walk, env_at, env_in, enter}
use Rattle.c_statements.specs.Declarations.{declared, value_at, value_faults}
use Rattle.c_statements.specs.Statements.{dropped_at, behind_start}
use Rattle.c_statements.specs.Violations.{dropped_faults, optional_faults, return_faults}
use Rattle.c_resolved_defs.specs.Within.{Each, Within, PlaceWithin, ArgumentsWithin, CaseExpressions}
use Rattle.c_resolved_defs.specs.Names.{Names}
use Rattle.c_resolved_defs.specs.Kinds.{IsOperand, HasValue, KindAgrees, KindsAgree, WritesNoConst, ItemAgrees, KeepsConsts}
use Rattle.c_resolved_defs.specs.Scopes as Scopes
use Rattle.c_resolving_laws.proofs.Lists.{none_left}
use Rattle.c_resolving_laws.proofs.Known.{Knows}
use Rattle.c_resolving_laws.specs.Read.{IsReadTerm}
use Rattle.c_resolving_laws.proofs.Bindings.{knows_inside}
use Rattle.c_resolving_laws.proofs.Declared.{behind_local, knows_declared, values_are}
use Rattle.c_resolving_laws.proofs.Empty.{value_empty}
use Rattle.c_resolving_laws.proofs.Parts.{local_parts}
use Rattle.c_resolving_laws.proofs.Uses.{value_is, dropped_is, constant_is_value}
use Rattle.c_resolving_laws.proofs.Values.{IsSound, Sound}
use Rattle.c_resolving_laws.proofs.Walk.{each_note, Closed}

-- ---- facts within

module _ (P Q : ExpressionTree → Type 0) (f : (x : ExpressionTree) → P x → Q x) where
  mutual
    pub within_map : (x : ExpressionTree) → Within P x → Within Q x
    within_map (Typed kind (Number z)) h = (f _ h.0, tt)
    within_map (Typed kind (Character b)) h = (f _ h.0, tt)
    within_map (Typed kind (EnumName m z)) h = (f _ h.0, tt)
    within_map (Typed kind (Text bs)) h = (f _ h.0, tt)
    within_map (Typed kind (Array a)) h = (f _ h.0, tt)
    within_map (Typed kind (Read at)) h = (f _ h.0, place_map at h.1)
    within_map (Typed kind (Unary op a)) h = (f _ h.0, within_map a h.1)
    within_map (Typed kind (Cast a)) h = (f _ h.0, within_map a h.1)
    within_map (Typed kind (Binary op a b)) h = (f _ h.0, (within_map a h.1.0, within_map b h.1.1))
    within_map (Typed kind (Conditional a b c)) h = (f _ h.0, (within_map a h.1.0, within_map b h.1.1, within_map c h.1.2))
    within_map (Typed kind (Assign at a)) h = (f _ h.0, (place_map at h.1.0, within_map a h.1.1))
    within_map (Typed kind (Update op at a)) h = (f _ h.0, (place_map at h.1.0, within_map a h.1.1))
    within_map (Typed kind (Count at up after)) h = (f _ h.0, place_map at h.1)
    within_map (Typed kind (Comma a b)) h = (f _ h.0, (within_map a h.1.0, within_map b h.1.1))
    within_map (Typed kind (Call m xs)) h = (f _ h.0, arguments_map xs h.1)

    place_map : (at : PlaceTree) → PlaceWithin P at → PlaceWithin Q at
    place_map (Var h) w = tt
    place_map (Cell h a) w = within_map a w

    arguments_map : (xs : Arguments) → ArgumentsWithin P xs → ArgumentsWithin Q xs
    arguments_map NoArgument w = tt
    arguments_map (Argument x xs) w = (within_map x w.0, arguments_map xs w.1)

module _ (n : Names) where
  -- what holds of an expression of an item
  pub record Good (x : ExpressionTree) : Type 0 where
    pub kinds : KindsAgree n x
    pub consts : Within (WritesNoConst n) x

  pub good : (ss : List Scopes.Scope) (x : ExpressionTree) → Sound n ss x → Good x
  good ss x h = record {
    kinds = within_map (IsSound n ss) (KindAgrees n) (λ x h. h.0) x h;
    consts = within_map (IsSound n ss) (WritesNoConst n) (λ x h. h.1) x h;
  }

  abbrev GoodValue : ExpressionTree → Type 0
  GoodValue x = Good x × HasValue x

  abbrev GoodOperand : ExpressionTree → Type 0
  GoodOperand x = Good x × IsOperand x

  -- of an item
  pub record GoodItem (x : Tree) : Type 0 where
    pub agrees : ItemAgrees n x
    pub consts : KeepsConsts n x

  case_kinds : (c : Sections) → CaseExpressions Good c → CaseExpressions (KindsAgree n) c × CaseExpressions (Within (WritesNoConst n)) c
  case_kinds tree.NoSection h = (tt, tt)
  case_kinds (tree.Section cases default a ends c) h = let r = case_kinds c h.1 in let s = all_kinds cases h.0 in ((s.0, r.0), (s.1, r.1))
    where
      all_kinds : (es : List ExpressionTree) → Each Good es → Each (KindsAgree n) es × Each (Within (WritesNoConst n)) es
      all_kinds [] h = (tt, tt)
      all_kinds (e ∷ es) h = let r = all_kinds es h.1 in ((h.0.kinds, r.0), (h.0.consts, r.1))

module _ (ctx : Context) (n : Names) where
  -- what is known at a place
  abbrev pub KnownAt : List Scope → Type 0
  KnownAt scopes = (ss : List Scopes.Scope) × Knows n ss (record { word = ctx.word; scopes = scopes })

  value_good : (w : Walk) (t : Term) → KnownAt w.scopes → IsReadTerm ctx.word t → value_faults (env_at ctx w) t [] ≡ [] →
      GoodValue n (expression_tree (value_at (env_at ctx w) t))
  value_good w t i r e = let v = value_is n i.0 (env_at ctx w) i.1 t r e in (good n i.0 _ v.0.0, v.1)

  dropped_good : (w : Walk) (t : Term) → KnownAt w.scopes → IsReadTerm ctx.word t → dropped_faults (env_at ctx w) t [] ≡ [] →
      GoodOperand n (expression_tree (dropped_at (env_at ctx w) t))
  dropped_good w t i r e = let v = dropped_is n i.0 (env_at ctx w) i.1 t r e in (good n i.0 _ v.0, v.1)

  values_good : (w : Walk) (o : Option Term) → KnownAt w.scopes → IfSome o (IsReadTerm ctx.word) →
      optional_faults (value_faults (env_at ctx w)) o [] ≡ [] → IfSome (option_map expression_tree (option_map (value_at (env_at ctx w)) o)) (GoodValue n)
  values_good w None i r e = tt
  values_good w (Some t) i r e = value_good w t i r e

  drops_good : (w : Walk) (o : Option Term) → KnownAt w.scopes → IfSome o (IsReadTerm ctx.word) →
      optional_faults (dropped_faults (env_at ctx w)) o [] ≡ [] → IfSome (option_map expression_tree (option_map (dropped_at (env_at ctx w)) o)) (GoodOperand n)
  drops_good w None i r e = tt
  drops_good w (Some t) i r e = dropped_good w t i r e

  returned_good : (k : Option IntKind) (w : Walk) (first : ℕ) (o : Option Term) → KnownAt w.scopes → IfSome o (IsReadTerm ctx.word) →
      return_faults k (env_at ctx w) first o [] ≡ []
      → IfSome (option_map expression_tree (option_map (value_at (env_at ctx w)) o)) (GoodValue n)
  returned_good k w first None i r e = tt
  returned_good (Some k) w first (Some t) i r e = value_good w t i r e
  returned_good None w first (Some t) i r e = absurd (none_left _ _ e)

  some_map : (P Q : ExpressionTree → Type 0) → ((x : ExpressionTree) → P x → Q x) → (o : Option ExpressionTree) → IfSome o P → IfSome o Q
  some_map P Q f None h = tt
  some_map P Q f (Some x) h = f x h

  list_map : (P Q : ExpressionTree → Type 0) → ((x : ExpressionTree) → P x → Q x) → (es : List ExpressionTree) → Each P es → Each Q es
  list_map P Q f [] h = tt
  list_map P Q f (x ∷ xs) h = (f x h.0, list_map P Q f xs h.1)

  lists_map : (P Q : ExpressionTree → Type 0) → ((x : ExpressionTree) → P x → Q x) → (o : Option (List ExpressionTree)) → IfSome o (Each P) → IfSome o (Each Q)
  lists_map P Q f None h = tt
  lists_map P Q f (Some xs) h = list_map P Q f xs h

  abbrev K : ExpressionTree → Type 0
  K x = KindsAgree n x

  abbrev W : ExpressionTree → Type 0
  W x = Within (WritesNoConst n) x

  pub kinds_closed : Closed ctx n.slots KnownAt (GoodItem n) (Good n)
  kinds_closed = record {
    into = λ s i. ([] ∷ i.0, knows_inside n ctx.word s i.0 i.1);
    binds = λ k d w r e b i. (behind_local ctx.word d w i.0, knows_declared ctx.word n k d w i.0 e b i.1);
    note = λ a. each_note (GoodItem n) (λ bs. record { agrees = record { kinds = tt; values = tt }; consts = tt }) (ctx.notes a);
    evaluates = λ w t i r e. let g = dropped_good w t i r e in record { agrees = record { kinds = g.0.kinds; values = g.1 }; consts = g.0.consts };
    ifs = λ w t a b i r e. let g = value_good w t i r e in record { agrees = record { kinds = g.0.kinds; values = g.1 }; consts = g.0.consts };
    whiles = λ w t a i r e. let g = value_good w t i r e in record { agrees = record { kinds = g.0.kinds; values = g.1 }; consts = g.0.consts };
    dos = λ w t a i r e. let g = value_good w t i r e in record { agrees = record { kinds = g.0.kinds; values = g.1 }; consts = g.0.consts };
    fors = λ w start t u a i j b rs rt ru es et eu.
        let inner = behind_start ctx start (enter w) in
        let g = values_good inner t j rt et in
        let h = drops_good inner u j ru eu in
        record {
          agrees = record {
            kinds = (some_map (GoodValue n) K (λ x h. h.0.kinds) _ g, some_map (GoodOperand n) K (λ x h. h.0.kinds) _ h);
            values = (some_map (GoodValue n) HasValue (λ x h. h.1) _ g, some_map (GoodOperand n) IsOperand (λ x h. h.1) _ h);
          };
          consts = (some_map (GoodValue n) W (λ x h. h.0.consts) _ g, some_map (GoodOperand n) W (λ x h. h.0.consts) _ h);
        };
    switches = λ around w t b i r rb nb ev eb es cs.
        let g = value_good w t i r ev in
        let k = case_kinds n _ cs in
        record { agrees = record { kinds = (g.0.kinds, k.0); values = g.1 }; consts = (g.0.consts, k.1) };
    block = λ a. record { agrees = record { kinds = tt; values = tt }; consts = tt };
    locals = λ k d w r e b i j.
        let v = declared ctx.word k d w in
        let g = values_are ctx.word (value_faults (env_in ctx.word v)) (value_empty (env_in ctx.word v)) (value_at (env_in ctx.word v)) (GoodValue n)
        (λ t r e. value_good v t j r e) d.value r.value (local_parts ctx.word k d w e).values in
        record {
          agrees = record {
            kinds = lists_map (GoodValue n) K (λ x h. h.0.kinds) _ g;
            values = lists_map (GoodValue n) HasValue (λ x h. h.1) _ g;
          };
          consts = lists_map (GoodValue n) W (λ x h. h.0.consts) _ g;
        };
    breaks = record { agrees = record { kinds = tt; values = tt }; consts = tt };
    continues = record { agrees = record { kinds = tt; values = tt }; consts = tt };
    gotos = λ at h. record { agrees = record { kinds = tt; values = tt }; consts = tt };
    returns = λ w first t i r e.
        let g = returned_good ctx.result w first t i r e in
        record {
          agrees = record {
            kinds = some_map (GoodValue n) K (λ x h. h.0.kinds) _ g;
            values = some_map (GoodValue n) HasValue (λ x h. h.1) _ g;
          };
          consts = some_map (GoodValue n) W (λ x h. h.0.consts) _ g;
        };
    marks = λ at. record { agrees = record { kinds = tt; values = tt }; consts = tt };
    arrives = λ w t i r e. let c = constant_is_value n i.0 (env_at ctx w) i.1 t r e in let g = good n i.0 _ c.operand.0 in
        record { agrees = record { kinds = g.kinds; values = tt }; consts = g.consts };
    defaults = record { agrees = record { kinds = tt; values = tt }; consts = tt };
    cases = λ w t i r e. good n i.0 _ (constant_is_value n i.0 (env_at ctx w) i.1 t r e).operand.0;
  }
