-- Kinds that agree in an expression do so without a slot that it doesn't name.
use Rattle.std.proofs.Common.{ℕ, Bool, true, eqb, List, [], ◌∷◌, Option, Some, None, option_map, ◌≡◌, refl, sym, ap, ◌∙◌, subst}
use Rattle.std.specs.Prelude.{IsSomeAnd}
use Rattle.std.proofs.lemmas.Bool.{and_parts, not-true}
use Rattle.c_types.specs.declared.kinds.IntKind.{IntKind}
use Rattle.c_types.specs.Numbers.{usual_kind}
use Rattle.c_tree.specs.declared.tree.Slot.{Slot}
use Rattle.c_tree.specs.declared.tree.Home.{Home}
use Rattle.c_tree.specs.declared.tree.Home.TheVariants as H
use Rattle.c_tree.specs.Constants.{HasKind}
use Rattle.c_tree.specs.ExpressionTrees.{ExpressionTree, PlaceTree, Arguments, Typed, Var, Cell, Number, Character, EnumName, Text, Array, Read, Unary, Cast, Binary, Conditional, Assign, Update, Count, Comma, Call, NoArgument, Argument}
use Rattle.c_resolved_defs.specs.Kinds.{IsOperand, HasValue, unary_kind, binary_kind, of_both, PlaceAgrees, IsArrayFor, FitsCells, ArgumentsFit, is_wide, wanted, ValuesFit, FormatFits, CallFits, CastAgrees, KindAgrees, KindsAgree, IsWritable, WritesNoConst}
use Rattle.c_resolved_defs.specs.Names.{Names, Callee, Plain, Printf, Unknown, variable, callee}
use Rattle.c_resolved_defs.specs.Within.{Within}
use Rattle.tidy_laws.specs.Mentions.{home_lacks, lacks, place_lacks, arguments_lack}
use Rattle.tidy_laws.specs.Renumbered.{without, renumbered_home, renumbered, renumbered_place, renumbered_arguments}
use Rattle.tidy_result_laws.proofs.SlotGone.{same_get, kind_stays, within_without}

module _ (g : ℕ) where
  pub operand_stays : (e : ExpressionTree) → IsOperand e → IsOperand (renumbered g e)
  operand_stays (Typed kind (Text bs)) h = absurd h
  operand_stays (Typed kind (Array a)) h = absurd h
  operand_stays (Typed kind (Number z)) h = tt
  operand_stays (Typed kind (Character b)) h = tt
  operand_stays (Typed kind (EnumName m z)) h = tt
  operand_stays (Typed kind (Read at)) h = tt
  operand_stays (Typed kind (Unary op a)) h = tt
  operand_stays (Typed kind (Cast a)) h = tt
  operand_stays (Typed kind (Binary op a b)) h = tt
  operand_stays (Typed kind (Conditional a b c)) h = tt
  operand_stays (Typed kind (Assign at a)) h = tt
  operand_stays (Typed kind (Update op at a)) h = tt
  operand_stays (Typed kind (Count at up after)) h = tt
  operand_stays (Typed kind (Comma a b)) h = tt
  operand_stays (Typed kind (Call m xs)) h = tt

  pub value_stays : (e : ExpressionTree) → HasValue e → HasValue (renumbered g e)
  value_stays e h = record { operand = operand_stays e h.operand; kind = subst HasKind (sym (kind_stays g e)) h.kind }

module _ (g : ℕ) (n : Names) where
  -- the names without the slot
  abbrev pub fewer_names : Names
  fewer_names = record { tops = n.tops; slots = without g n.slots }

  pub variable_same : (h : Home) → home_lacks g h ≡ true → variable fewer_names (renumbered_home g h) ≡ variable n h
  variable_same (H.Slot x) l = same_get g x n.slots (not-true (eqb x g) l)
  variable_same (H.Global m) l = refl

  some_same : (P : Slot → Type 0) (h : Home) → home_lacks g h ≡ true → IsSomeAnd (variable n h) P → IsSomeAnd (variable fewer_names (renumbered_home g h)) P
  some_same P h l i = subst (λ o. IsSomeAnd o P) (sym (variable_same h l)) i

  place_agrees : (kind : Option IntKind) (at : PlaceTree) → place_lacks g at ≡ true → PlaceAgrees n kind at →
      PlaceAgrees fewer_names kind (renumbered_place g at)
  place_agrees kind (Var h) l i = some_same _ h l i
  place_agrees kind (Cell h a) l i = (some_same _ h (and_parts (home_lacks g h) (lacks g a) l).0 i.0, value_stays g a i.1)

  -- ---- calls

  array_for : (defined : Bool) (s : Slot) (x : ExpressionTree) → lacks g x ≡ true → IsArrayFor n defined s x → IsArrayFor fewer_names defined s (renumbered g x)
  array_for defined s (Typed kind (Array h)) l i = (i.0, some_same _ h l i.1)
  array_for defined s _ l i = absurd i

  fits_cells : (o : Option ℕ) (A B C D : Type 0) → (A → C) → (B → D) → FitsCells o A B → FitsCells o C D
  fits_cells None A B C D f h i = f i
  fits_cells (Some cells) A B C D f h i = h i

  arguments_fit : (defined : Bool) (ss : List Slot) (xs : Arguments) → arguments_lack g xs ≡ true → ArgumentsFit n defined ss xs →
      ArgumentsFit fewer_names defined ss (renumbered_arguments g xs)
  arguments_fit defined [] NoArgument l h = tt
  arguments_fit defined (s ∷ ss) (Argument x xs) l h =
      let i = and_parts (lacks g x) (arguments_lack g xs) l in (
        fits_cells s.cells (HasValue x) (IsArrayFor n defined s x) (HasValue (renumbered g x)) (IsArrayFor fewer_names defined s (renumbered g x))
            (value_stays g x) (array_for defined s x i.0) h.0,
        arguments_fit defined ss xs i.1 h.1,
      )
  arguments_fit defined [] (Argument x xs) l h = absurd h
  arguments_fit defined (s ∷ ss) NoArgument l h = absurd h

  values_fit : (ws : List Bool) (xs : Arguments) → ValuesFit ws xs → ValuesFit ws (renumbered_arguments g xs)
  values_fit [] NoArgument h = tt
  values_fit (w ∷ ws) (Argument x xs) h = (value_stays g x h.0, ap is_wide (kind_stays g x) ∙ h.1, values_fit ws xs h.2)
  values_fit [] (Argument x xs) h = absurd h
  values_fit (w ∷ ws) NoArgument h = absurd h

  wanted_fit : (o : Option (List Bool)) (xs : Arguments) → IsSomeAnd o (λ ws. ValuesFit ws xs) → IsSomeAnd o (λ ws. ValuesFit ws (renumbered_arguments g xs))
  wanted_fit None xs h = absurd h
  wanted_fit (Some ws) xs h = values_fit ws xs h

  format_fits : (xs : Arguments) → FormatFits xs → FormatFits (renumbered_arguments g xs)
  format_fits (Argument (Typed kind (Text bs)) xs) h = wanted_fit (wanted bs) xs h
  format_fits _ h = absurd h

  call_fits : (kind : Option IntKind) (c : Callee) (xs : Arguments) → arguments_lack g xs ≡ true → CallFits n kind c xs →
      CallFits fewer_names kind c (renumbered_arguments g xs)
  call_fits kind (Plain s) xs l h = (h.0, arguments_fit s.defined s.parameters xs l h.1)
  call_fits kind Printf xs l h = (h.0, format_fits xs h.1)
  call_fits kind Unknown xs l h = absurd h

  -- ---- expressions

  cast_agrees : (kind : Option IntKind) (a : ExpressionTree) → CastAgrees kind a → CastAgrees kind (renumbered g a)
  cast_agrees None a h = operand_stays g a h
  cast_agrees (Some k) a h = value_stays g a h

  kind_agrees : (e : ExpressionTree) → lacks g e ≡ true → KindAgrees n e → KindAgrees fewer_names (renumbered g e)
  kind_agrees (Typed kind (Number z)) l h = h
  kind_agrees (Typed kind (Character b)) l h = h
  kind_agrees (Typed kind (EnumName m z)) l h = h
  kind_agrees (Typed kind (Text bs)) l h = h
  kind_agrees (Typed kind (Array a)) l h = some_same _ a l h
  kind_agrees (Typed kind (Read at)) l h = place_agrees kind at l h
  kind_agrees (Typed kind (Unary op a)) l h = (value_stays g a h.0, subst (λ k. kind ≡ option_map (unary_kind op) k) (sym (kind_stays g a)) h.1)
  kind_agrees (Typed kind (Cast a)) l h = cast_agrees kind a h
  kind_agrees (Typed kind (Binary op a b)) l h =
      (value_stays g a h.0, value_stays g b h.1, h.2 ∙ (λ i. of_both (binary_kind op) (sym (kind_stays g a) i) (sym (kind_stays g b) i)))
  kind_agrees (Typed kind (Conditional a b c)) l h =
      (value_stays g a h.0, value_stays g b h.1, value_stays g c h.2, h.3 ∙ (λ i. of_both usual_kind (sym (kind_stays g b) i) (sym (kind_stays g c) i)))
  kind_agrees (Typed kind (Assign at a)) l h = (place_agrees kind at (and_parts (place_lacks g at) (lacks g a) l).0 h.0, value_stays g a h.1)
  kind_agrees (Typed kind (Update op at a)) l h = (place_agrees kind at (and_parts (place_lacks g at) (lacks g a) l).0 h.0, value_stays g a h.1)
  kind_agrees (Typed kind (Count at up after)) l h = place_agrees kind at l h
  kind_agrees (Typed kind (Comma a b)) l h = (operand_stays g a h.0, operand_stays g b h.1, h.2 ∙ sym (kind_stays g b))
  kind_agrees (Typed kind (Call m xs)) l h = call_fits kind (callee n m) xs l h

  writable_stays : (at : PlaceTree) → place_lacks g at ≡ true → IsWritable n at → IsWritable fewer_names (renumbered_place g at)
  writable_stays (Var h) l i = some_same _ h l i
  writable_stays (Cell h a) l i = some_same _ h (and_parts (home_lacks g h) (lacks g a) l).0 i

  writes_stay : (e : ExpressionTree) → lacks g e ≡ true → WritesNoConst n e → WritesNoConst fewer_names (renumbered g e)
  writes_stay (Typed kind (Assign at a)) l h = writable_stays at (and_parts (place_lacks g at) (lacks g a) l).0 h
  writes_stay (Typed kind (Update op at a)) l h = writable_stays at (and_parts (place_lacks g at) (lacks g a) l).0 h
  writes_stay (Typed kind (Count at up after)) l h = writable_stays at l h
  writes_stay (Typed kind (Number z)) l h = tt
  writes_stay (Typed kind (Character b)) l h = tt
  writes_stay (Typed kind (EnumName m z)) l h = tt
  writes_stay (Typed kind (Text bs)) l h = tt
  writes_stay (Typed kind (Array a)) l h = tt
  writes_stay (Typed kind (Read at)) l h = tt
  writes_stay (Typed kind (Unary op a)) l h = tt
  writes_stay (Typed kind (Cast a)) l h = tt
  writes_stay (Typed kind (Binary op a b)) l h = tt
  writes_stay (Typed kind (Conditional a b c)) l h = tt
  writes_stay (Typed kind (Comma a b)) l h = tt
  writes_stay (Typed kind (Call m xs)) l h = tt

  pub kinds_without : (e : ExpressionTree) → lacks g e ≡ true → KindsAgree n e → KindsAgree fewer_names (renumbered g e)
  kinds_without e l h = within_without g (KindAgrees n) (KindAgrees fewer_names) kind_agrees e l h

  pub consts_without : (e : ExpressionTree) → lacks g e ≡ true → Within (WritesNoConst n) e → Within (WritesNoConst fewer_names) (renumbered g e)
  consts_without e l h = within_without g (WritesNoConst n) (WritesNoConst fewer_names) writes_stay e l h
