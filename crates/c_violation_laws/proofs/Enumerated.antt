-- The values of enum constants, each told by those in front of it, are those that a walk takes along.
use Rattle.std.proofs.Common.{◌≡◌, ℕ, List, [], ◌∷◌, ◌++◌, reverse, Option, Some, refl, sym, ap, ◌∙◌, append_assoc, append-nil}
use Rattle.std.specs.Prelude.{ℤ, negsuc, option_map}
use Rattle.std.proofs.lemmas.List.{reverse-append}
use Rattle.c_tree.specs.declared.tree.EnumItem.{EnumItem}
use Rattle.c_lexer.specs.Behind.{each_behind}
use Rattle.c_grammar.specs.Tops.{Enumerator}
use Rattle.c_kinds.specs.declared.binding.Binding.TheVariants.{Constant}
use Rattle.c_kinds.specs.Typing.{typed}
use Rattle.c_scopes.specs.Enums.{next_value, or_zero}
use Rattle.c_reading_defs.specs.Written.{written_or, constant_at}
use Rattle.c_reading_defs.specs.Scopes.{Identifier, names_at}
use Rattle.c_reading_defs.specs.FileScopes.{int_only, number_behind, enum_constant}
use Rattle.c_reading_defs.specs.Programs.{enum_item}

-- the first constant is 0, so what is in front of it counts as -1
abbrev pub first_before : Option ℤ
first_before = Some (negsuc 0)

module _ (word : ℕ → List ℕ) (scopes : List (List Identifier)) where
  -- the number and the value of a constant behind one of the value `before`
  abbrev pub number_in : Option ℤ → Enumerator → Option ℤ
  number_in before e = written_or typed (names_at word scopes e.name) e.value (next_value before)

  abbrev pub value_in : Option ℤ → Enumerator → Option ℤ
  value_in before e = int_only (number_in before e)

  -- what f makes of each of these, of which the first follows one of the value `before`
  abbrev pub each_valued : {B : Type 0} → (Option ℤ → Enumerator → B) → Option ℤ → List Enumerator → List B
  each_valued f before [] = []
  each_valued f before (e ∷ es) = f before e ∷ each_valued f (value_in before e) es

  -- the identifier and the item of a constant of this number
  abbrev identifier : Option ℤ → Enumerator → Identifier
  identifier number e = record { at = e.name; name = word e.name; binding = Constant (or_zero (int_only number)) }

  abbrev item : Option ℤ → Enumerator → EnumItem
  item number e = record {
    name = word e.name;
    given = option_map (constant_at typed (λ t. names_at word scopes e.name)) e.value;
    value = or_zero (int_only number);
  }

  abbrev pub constants : Option ℤ → List Enumerator → List Identifier
  constants before es = each_valued (λ before e. identifier (number_in before e) e) before es

  abbrev pub enum_items : Option ℤ → List Enumerator → List EnumItem
  enum_items before es = each_valued (λ before e. item (number_in before e) e) before es

  -- ---- by those in front

  -- the value of the first of these, which stand with the last first
  abbrev first_value : List Enumerator → Option ℤ
  first_value [] = first_before
  first_value (d ∷ before) = int_only (number_behind typed word scopes before d)

  -- the value of the last of these
  abbrev pub last_value : List Enumerator → Option ℤ
  last_value front = first_value (reverse front)

  number_by : (before : List Enumerator) (e : Enumerator) → number_behind typed word scopes before e ≡ number_in (first_value before) e
  number_by [] e = refl
  number_by (d ∷ before) e = refl

  pub number_is : (front : List Enumerator) (e : Enumerator) → number_behind typed word scopes (reverse front) e ≡ number_in (last_value front) e
  number_is front e = number_by (reverse front) e

  pub value_more : (front : List Enumerator) (e : Enumerator) → last_value (front ++ e ∷ []) ≡ value_in (last_value front) e
  value_more front e = ap first_value (reverse-append front (e ∷ [])) ∙ ap int_only (number_is front e)

  each_is : {B : Type 0} (f : List Enumerator → Enumerator → B) (g : Option ℤ → Enumerator → B)
      → ((front : List Enumerator) (e : Enumerator) → f front e ≡ g (last_value front) e)
      → (front es : List Enumerator) → each_behind (λ before. f (front ++ before)) es ≡ each_valued g (last_value front) es
  each_is f g same front [] = refl
  each_is f g same front (e ∷ es) =
      let here = ap (λ l. f l e) (append-nil front) ∙ same front e in
      let more = front ++ e ∷ [] in
      let rest = (λ i. each_behind (λ before. f (sym (append_assoc front (e ∷ []) before) i)) es)
      ∙ each_is f g same more es
      ∙ ap (λ v. each_valued g v es) (value_more front e) in
      λ i. here i ∷ rest i

  pub constants_are : (es : List Enumerator) → each_behind (enum_constant typed word scopes) es ≡ constants first_before es
  constants_are es =
      each_is (enum_constant typed word scopes) (λ before e. identifier (number_in before e) e) (λ front e i. identifier (number_is front e i) e) [] es

  pub enum_items_are : (es : List Enumerator) → each_behind (enum_item typed word scopes) es ≡ enum_items first_before es
  enum_items_are es =
      each_is (enum_item typed word scopes) (λ before e. item (number_in before e) e) (λ front e i. item (number_is front e i) e) [] es
