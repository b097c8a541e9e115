-- What the words of a text are, by their classes.
use Rattle.std.proofs.Common.{◌≡◌, ℕ, Bool, true, false, cond, List, Option, Some, None, refl, ap, sym, ◌∙◌, true≢false, bytes_eq}
use Rattle.std.specs.Prelude.{codes}
use Rattle.c_lexer.specs.declared.mark.Mark.{Mark}
use Rattle.c_lexer.specs.declared.mark.Mark.TheVariants as m
use Rattle.c_lexer.specs.declared.token.TokenKind.{TokenKind}
use Rattle.c_lexer.specs.declared.token.TokenKind.TheVariants as k
use Rattle.c_lexer.specs.Marks.{mark_text, mark_of}
use Rattle.c_grammar.specs.declared.class.Class.{Class}
use Rattle.c_grammar.specs.declared.class.Class.TheVariants as c
use Rattle.c_grammar.specs.Classes.{is_prefix}
use Rattle.c_grammar.specs.TokenClasses.{class_of_found, keyword_class}
use Rattle.c_kinds.specs.Marks.{step_of}
use Rattle.c_resolved_defs.specs.PrintableExpressions.{IsName}
use Rattle.reread_parts_laws.proofs.LeavesRead.{not_keyword}
use Rattle.c_source_laws.specs.Classed.{IsThere, class_there, IsClassed}

-- ---- keywords have the classes of keywords

module _ (f : Class → Bool) (v : Bool) where
  branch : (b : Bool) (x y : Class) → f x ≡ v → f y ≡ v → f (cond b x y) ≡ v
  branch true x y g h = g
  branch false x y g h = h

-- the classes of keywords, and that of those that no production has
abbrev pub is_word_class : Class → Bool
is_word_class c.Name = false
is_word_class c.Number = false
is_word_class c.Character = false
is_word_class c.Text = false
is_word_class c.Directive = false
is_word_class c.End = false
is_word_class c.Semicolon = false
is_word_class c.Sign = false
is_word_class c.Flip = false
is_word_class c.Foreign = true
is_word_class c.If = true
is_word_class c.Else = true
is_word_class c.While = true
is_word_class c.Do = true
is_word_class c.For = true
is_word_class c.Switch = true
is_word_class c.Case = true
is_word_class c.Default = true
is_word_class c.Goto = true
is_word_class c.Return = true
is_word_class c.Break = true
is_word_class c.Continue = true
is_word_class c.Int = true
is_word_class c.Char = true
is_word_class c.Long = true
is_word_class c.Signed = true
is_word_class c.Unsigned = true
is_word_class c.Void = true
is_word_class c.Static = true
is_word_class c.Const = true
is_word_class c.Enum = true
is_word_class _ = false

pub word_class : (w : List ℕ) → is_word_class (keyword_class w) ≡ true
word_class w =
    let b = branch is_word_class true in
    b (bytes_eq (codes "if") w) c.If _ refl
    (b (bytes_eq (codes "else") w) c.Else _ refl (b (bytes_eq (codes "while") w) c.While _ refl (b (bytes_eq (codes "do") w) c.Do _ refl
    (b (bytes_eq (codes "for") w) c.For _ refl (b (bytes_eq (codes "switch") w) c.Switch _ refl
    (b (bytes_eq (codes "case") w) c.Case _ refl (b (bytes_eq (codes "default") w) c.Default _ refl
    (b (bytes_eq (codes "goto") w) c.Goto _ refl (b (bytes_eq (codes "return") w) c.Return _ refl
    (b (bytes_eq (codes "break") w) c.Break _ refl (b (bytes_eq (codes "continue") w) c.Continue _ refl
    (b (bytes_eq (codes "int") w) c.Int _ refl (b (bytes_eq (codes "char") w) c.Char _ refl
    (b (bytes_eq (codes "long") w) c.Long _ refl (b (bytes_eq (codes "signed") w) c.Signed _ refl
    (b (bytes_eq (codes "unsigned") w) c.Unsigned _ refl (b (bytes_eq (codes "void") w) c.Void _ refl
    (b (bytes_eq (codes "static") w) c.Static _ refl (b (bytes_eq (codes "const") w) c.Const _ refl
    (b (bytes_eq (codes "enum") w) c.Enum c.Foreign refl refl))))))))))))))))))))

-- ---- marks

abbrev is_name : Class → Bool
is_name c.Name = true
is_name _ = false

-- the classes of keywords that productions have
abbrev pub is_keyword_class : Class → Bool
is_keyword_class c.Foreign = false
is_keyword_class x = is_word_class x

mark_no_name : (o : Option Mark) → is_name (class_of_found o) ≡ false
mark_no_name None = refl
mark_no_name (Some m.Dot) = refl
mark_no_name (Some _) = refl

mark_no_keyword : (o : Option Mark) → is_keyword_class (class_of_found o) ≡ false
mark_no_keyword None = refl
mark_no_keyword (Some m.Dot) = refl
mark_no_keyword (Some _) = refl

mark_foreign : (x : Mark) → keyword_class (mark_text x) ≡ c.Foreign
mark_foreign m.Dot = refl
mark_foreign _ = refl

mark_prefix : (o : Option Mark) → is_prefix (class_of_found o) ≡ true → step_of o ≡ None
mark_prefix None h = refl
mark_prefix (Some m.PlusPlus) h = cc
mark_prefix (Some m.MinusMinus) h = cc
mark_prefix (Some _) h = refl

-- ---- by class

pub apart : {X : Type 0} (f : Class → Bool) (x y : Class) → f x ≡ false → f y ≡ true → x ≡ y → X
apart f x y g h e = absurd (true≢false (sym h ∙ ap f (sym e) ∙ g))

-- no word of this class is a keyword
pub from_keyword : {X : Type 0} (w : List ℕ) (y : Class) → is_word_class y ≡ false → keyword_class w ≡ y → X
from_keyword w y h e = absurd (true≢false (sym (word_class w) ∙ ap is_word_class e ∙ h))

pub name_there : (w : List ℕ) → IsClassed c.Name w → IsName w
name_there w x = by_kind x.kind x.there x.classed
  where
    by_kind : (o : Option TokenKind) → IsThere o w → class_there o w ≡ c.Name → IsName w
    by_kind (Some k.Name) h e = h
    by_kind (Some k.Keyword) h e = from_keyword w c.Name refl e
    by_kind (Some k.Mark) h e = apart is_name (class_of_found (mark_of w)) c.Name (mark_no_name (mark_of w)) refl e
    by_kind (Some k.Number) h e = apart is_name c.Number c.Name refl refl e
    by_kind (Some k.Char) h e = apart is_name c.Character c.Name refl refl e
    by_kind (Some k.Text) h e = apart is_name c.Text c.Name refl refl e
    by_kind (Some k.Directive) h e = apart is_name c.Directive c.Name refl refl e
    by_kind None h e = apart is_name c.End c.Name refl refl e

pub name_foreign : (w : List ℕ) → IsClassed c.Name w → keyword_class w ≡ c.Foreign
name_foreign w x = not_keyword w ((name_there w x).1)

pub keyword_there : (y : Class) (w : List ℕ) → is_keyword_class y ≡ true → IsClassed y w → keyword_class w ≡ y
keyword_there y w f x = by_kind x.kind x.there x.classed
  where
    by_kind : (o : Option TokenKind) → IsThere o w → class_there o w ≡ y → keyword_class w ≡ y
    by_kind (Some k.Keyword) h e = e
    by_kind (Some k.Mark) h e = apart is_keyword_class (class_of_found (mark_of w)) y (mark_no_keyword (mark_of w)) f e
    by_kind (Some k.Name) h e = apart is_keyword_class c.Name y refl f e
    by_kind (Some k.Number) h e = apart is_keyword_class c.Number y refl f e
    by_kind (Some k.Char) h e = apart is_keyword_class c.Character y refl f e
    by_kind (Some k.Text) h e = apart is_keyword_class c.Text y refl f e
    by_kind (Some k.Directive) h e = apart is_keyword_class c.Directive y refl f e
    by_kind None h e = apart is_keyword_class c.End y refl f e

abbrev is_semicolon : Class → Bool
is_semicolon c.Semicolon = true
is_semicolon _ = false

-- `;` is no keyword
pub semicolon_foreign : (w : List ℕ) → IsClassed c.Semicolon w → keyword_class w ≡ c.Foreign
semicolon_foreign w x = by_kind x.kind x.there x.classed
  where
    by_kind : (o : Option TokenKind) → IsThere o w → class_there o w ≡ c.Semicolon → keyword_class w ≡ c.Foreign
    by_kind (Some k.Mark) h e = ap keyword_class (h.1) ∙ mark_foreign (h.0)
    by_kind (Some k.Keyword) h e = from_keyword w c.Semicolon refl e
    by_kind (Some k.Name) h e = apart is_semicolon c.Name c.Semicolon refl refl e
    by_kind (Some k.Number) h e = apart is_semicolon c.Number c.Semicolon refl refl e
    by_kind (Some k.Char) h e = apart is_semicolon c.Character c.Semicolon refl refl e
    by_kind (Some k.Text) h e = apart is_semicolon c.Text c.Semicolon refl refl e
    by_kind (Some k.Directive) h e = apart is_semicolon c.Directive c.Semicolon refl refl e
    by_kind None h e = apart is_semicolon c.End c.Semicolon refl refl e

-- a unary mark counts nothing
pub prefix_there : (y : Class) (w : List ℕ) → is_prefix y ≡ true → IsClassed y w → step_of (mark_of w) ≡ None
prefix_there y w f x = by_kind x.kind x.there x.classed
  where
    prefix_word : (z : Class) → is_prefix z ≡ true → is_word_class z ≡ false
    prefix_word c.Sign h = refl
    prefix_word c.Flip h = refl
    prefix_word _ h = cc

    by_kind : (o : Option TokenKind) → IsThere o w → class_there o w ≡ y → step_of (mark_of w) ≡ None
    by_kind (Some k.Mark) h e = mark_prefix (mark_of w) (ap is_prefix e ∙ f)
    by_kind (Some k.Keyword) h e = from_keyword w y (prefix_word y f) e
    by_kind (Some k.Name) h e = apart is_prefix c.Name y refl f e
    by_kind (Some k.Number) h e = apart is_prefix c.Number y refl f e
    by_kind (Some k.Char) h e = apart is_prefix c.Character y refl f e
    by_kind (Some k.Text) h e = apart is_prefix c.Text y refl f e
    by_kind (Some k.Directive) h e = apart is_prefix c.Directive y refl f e
    by_kind None h e = apart is_prefix c.End y refl f e
