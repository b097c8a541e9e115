-- Which symbols derive a file (ISO/IEC 9899:2011, 6.9), and what it writes from the number of its first token on.
use Rattle.std.specs.Prelude.{◌+◌, ℕ, Bool, List, [], ◌∷◌, ◌++◌, Option, Some, None}
use Rattle.c_grammar.specs.declared.class.Class.TheVariants as c
use Rattle.c_grammar.specs.Terms.{Form, At}
use Rattle.c_grammar.specs.Items.{Size, Declaration, Body}
use Rattle.c_grammar.specs.Tops as s
use Rattle.c_reading_defs.specs.Symbols.{Symbol, Outside, token_behind, numbers_of, most_counted}
use Rattle.c_reading_defs.specs.DerivedTerms.{IsType, IsConditional}
use Rattle.c_reading_defs.specs.DerivedItems.{MayBe, AreEach, IsSize, IsDeclaration, IsBlock}

-- enumerator = name [ "=" conditional ]
pub data IsEnumerator : ℕ → List Symbol → s.Enumerator → Type 0 where
  alone : {at : ℕ} → IsEnumerator at (Outside c.Name ∷ []) (record { name = at; value = None })
  given : {at : ℕ} {xs : List Symbol} {f : Form} → IsConditional (at + 1 + 1) xs f →
      IsEnumerator at (Outside c.Name ∷ Outside c.Equals ∷ xs) (record { name = at; value = Some (At (at + 1 + 1) f) })

-- [ name ]
pub data IsNamed : ℕ → List Symbol → Option ℕ → Type 0 where
  no : {at : ℕ} → IsNamed at [] None
  yes : {at : ℕ} → IsNamed at (Outside c.Name ∷ []) (Some at)

-- param = [ "const" ] number-type [ name ] [ "[" [ conditional ] "]" ]
pub data IsParameter : ℕ → List Symbol → s.Parameter → Type 0 where
  parameter : {at : ℕ} {xs ys zs ws : List Symbol} {constant : Bool} {n : Option ℕ} {z : Size} → MayBe c.Const xs constant → IsType ys →
      IsNamed (token_behind (token_behind at xs) ys) zs n
      → IsSize (token_behind (token_behind (token_behind at xs) ys) zs) ws z →
      IsParameter at (xs ++ ys ++ zs ++ ws) (record { first = at; constant = constant; words = numbers_of (token_behind at xs) ys; name = n; size = z })

-- params = [ "void" ] | param { "," param }
pub data AreParameters : ℕ → List Symbol → List s.Parameter → Type 0 where
  none : {at : ℕ} → AreParameters at [] []
  void : {at : ℕ} → AreParameters at (Outside c.Void ∷ []) []
  some : {at : ℕ} {xs : List Symbol} {ps : List s.Parameter} → AreEach IsParameter at xs ps → AreParameters at xs ps

-- number-type | "void"
pub data IsResult : ℕ → List Symbol → Option (List ℕ) → Type 0 where
  no_number : {at : ℕ} → IsResult at (Outside c.Void ∷ []) None
  number : {at : ℕ} {xs : List Symbol} → IsType xs → IsResult at xs (Some (numbers_of at xs))

-- ";" | block
pub data IsDefined : ℕ → List Symbol → Option Body → Type 0 where
  declared : {at : ℕ} → IsDefined at (Outside c.Semicolon ∷ []) None
  defined : {at : ℕ} {xs : List Symbol} {b : Body} → IsBlock at xs b → IsDefined at xs (Some b)

-- function = [ "static" ] ( number-type | "void" ) name "(" params ")" ( ";" | block )
pub data IsFunction : ℕ → List Symbol → s.Function → Type 0 where
  function : {at : ℕ} {xs ys zs ws : List Symbol} {static : Bool} {r : Option (List ℕ)} {ps : List s.Parameter} {b : Option Body}
      → MayBe c.Static xs static → IsResult (token_behind at xs) ys r → AreParameters (token_behind (token_behind at xs) ys + 1 + 1) zs ps →
      IsDefined (token_behind (token_behind (token_behind at xs) ys + 1 + 1) zs + 1) ws b
      → IsFunction at (xs ++ ys ++ Outside c.Name ∷ Outside c.Open ∷ zs ++ Outside c.Close ∷ ws) (record {
        static = static;
        words = r;
        name = token_behind (token_behind at xs) ys;
        parameters = ps;
        body = b;
        counted = most_counted (xs ++ ys ++ Outside c.Name ∷ Outside c.Open ∷ zs ++ Outside c.Close ∷ ws);
      })

-- directive | enum | declaration | function, where enum = "enum" "{" enumerator { "," enumerator } [ "," ] "}" ";" and
-- declaration = [ "static" ] local
pub data IsTop : ℕ → List Symbol → s.Form → Type 0 where
  line : {at : ℕ} → IsTop at (Outside c.Directive ∷ []) s.Line
  enum : {at : ℕ} {xs ys : List Symbol} {es : List s.Enumerator} {trailing : Bool} → AreEach IsEnumerator (at + 1 + 1) xs es → MayBe c.Comma ys trailing
      → IsTop at (Outside c.Enum ∷ Outside c.OpenBlock ∷ xs ++ ys ++ Outside c.CloseBlock ∷ Outside c.Semicolon ∷ []) (s.Enum es)
  globals : {at : ℕ} {xs ys : List Symbol} {static : Bool} {d : Declaration} → MayBe c.Static xs static → IsDeclaration (token_behind at xs) ys d →
      IsTop at (xs ++ ys) (s.Globals static d)
  defines : {at : ℕ} {xs : List Symbol} {f : s.Function} → IsFunction at xs f → IsTop at xs (s.Defines f)

-- file = { directive | enum | declaration | function }
pub data IsFile : ℕ → List Symbol → List s.Top → Type 0 where
  no_top : {at : ℕ} → IsFile at [] []
  top : {at : ℕ} {xs ys : List Symbol} {f : s.Form} {ts : List s.Top} → IsTop at xs f → IsFile (token_behind at xs) ys ts →
      IsFile at (xs ++ ys) (s.From at (token_behind at xs) f ∷ ts)
