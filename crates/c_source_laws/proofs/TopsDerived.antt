-- What derives a file is what one of the grammar spells, and it writes the same.
use Rattle.std.proofs.Common.{◌≡◌, ◌+◌, ℕ, Bool, true, false, cond, List, [], ◌∷◌, ◌++◌, Option, Some, None, option_map, refl, ap, ◌∙◌}
use Rattle.c_grammar.specs.declared.class.Class.TheVariants as c
use Rattle.c_grammar.specs.Expressions.{NumberType}
use Rattle.c_grammar.specs.Files.{Typed, NoParameters, VoidParameters, SomeParameters, Enumerated, Declares, Defined, Line, OfEnum, OfDeclaration, OfFunction, FitsParameter, FitsParameters, FitsConstant, FitsBody, FitsFunction, FitsTop, FitsFile}
use Rattle.c_grammar.specs.Terms.{At}
use Rattle.c_grammar.specs.Items.{Body}
use Rattle.c_grammar.specs.Tops as s
use Rattle.c_reading_defs.specs.Symbols.{Symbol, Outside, token_behind, numbers_of, most_counted}
use Rattle.c_reading_defs.specs.DerivedTops.{IsEnumerator, IsNamed, IsParameter, AreParameters, IsResult, IsDefined, IsFunction, IsTop, IsFile}
use Rattle.c_reading_defs.specs.DerivedTops as r
use Rattle.c_source_laws.proofs.ExpressionSymbols.{type_symbols}
use Rattle.c_source_laws.proofs.StatementSymbols.{word_symbols}
use Rattle.c_source_laws.proofs.FileSymbols.{parameter_symbols, parameters_symbols, enumerator_symbols, result_symbols, function_symbols, top_symbols, file_symbols}
use Rattle.c_source_laws.proofs.FileSymbols as files
use Rattle.c_source_laws.proofs.SourceItems.{size_of, declaration_of, block_of}
use Rattle.c_source_laws.proofs.SourceTops.{enumerator_of, parameter_of, parameters_of, function_of, top_of, tops_of}
use Rattle.c_source_laws.proofs.TermsDerived.{Given, type_given, conditional_given}
use Rattle.c_source_laws.proofs.ItemsDerived.{word_given, each_given, size_given, local_given, block_given}

enumerator_given : (at : ℕ) (xs : List Symbol) (x : s.Enumerator) → IsEnumerator at xs x → Given FitsConstant enumerator_symbols enumerator_of at xs x
enumerator_given at xs x r.alone = record { d = None; fits = tt; symbols = refl; written = refl }
enumerator_given at us x (r.given {xs = xs} {f = f} a) =
    let h = conditional_given (at + 1 + 1) xs f a in
    record {
      d = Some (h.d);
      fits = h.fits;
      symbols = λ i. Outside c.Name ∷ Outside c.Equals ∷ h.symbols i;
      written = λ i. record { name = at; value = Some (At (at + 1 + 1) (h.written i)) };
    }

record NameGiven (at : ℕ) (xs : List Symbol) (n : Option ℕ) : Type 0 where
  d : Bool
  symbols : word_symbols c.Name d ≡ xs
  written : cond d (Some at) None ≡ n

name_given : (at : ℕ) (xs : List Symbol) (n : Option ℕ) → IsNamed at xs n → NameGiven at xs n
name_given at xs n r.no = record { d = false; symbols = refl; written = refl }
name_given at xs n r.yes = record { d = true; symbols = refl; written = refl }

parameter_given : (at : ℕ) (xs : List Symbol) (x : s.Parameter) → IsParameter at xs x → Given FitsParameter parameter_symbols parameter_of at xs x
parameter_given at us x (r.parameter {xs = xs} {ys = ys} {zs = zs} {ws = ws} {constant = constant} {n = n} {z = z} a b e f) =
    let g = word_given c.Const xs constant a in
    let h = type_given ys b in
    let k = name_given (token_behind (token_behind at xs) ys) zs n e in
    let m = size_given (token_behind (token_behind (token_behind at xs) ys) zs) ws z f in
    record {
      d = Typed constant (h.d) (k.d) (m.d);
      fits = m.fits;
      symbols = λ i. g i ++ h.symbols i ++ k.symbols i ++ m.symbols i;
      written = λ i. record {
        first = at;
        constant = constant;
        words = numbers_of (token_behind at (g i)) (h.symbols i);
        name = ((λ j. cond (k.d) (Some (token_behind (token_behind at (g j)) (h.symbols j))) None) ∙ k.written) i;
        size = ((λ j. size_of (token_behind (token_behind (token_behind at (g j)) (h.symbols j)) (k.symbols j)) (m.d)) ∙ m.written) i;
      };
    }

parameters_given : (at : ℕ) (xs : List Symbol) (ps : List s.Parameter) → AreParameters at xs ps → Given FitsParameters parameters_symbols parameters_of at xs ps
parameters_given at xs ps r.none = record { d = NoParameters; fits = tt; symbols = refl; written = refl }
parameters_given at xs ps r.void = record { d = VoidParameters; fits = tt; symbols = refl; written = refl }
parameters_given at xs ps (r.some a) =
    let h = each_given FitsParameter parameter_symbols parameter_of IsParameter parameter_given at xs ps a in
    record { d = SomeParameters (h.first) (h.others); fits = (h.fits, h.fit); symbols = h.symbols; written = h.written }

record ResultGiven (at : ℕ) (xs : List Symbol) (o : Option (List ℕ)) : Type 0 where
  d : Option NumberType
  symbols : result_symbols d ≡ xs
  written : option_map (λ (t : NumberType). numbers_of at (type_symbols t)) d ≡ o

result_given : (at : ℕ) (xs : List Symbol) (o : Option (List ℕ)) → IsResult at xs o → ResultGiven at xs o
result_given at xs o r.no_number = record { d = None; symbols = refl; written = refl }
result_given at xs o (r.number a) = let h = type_given xs a in record { d = Some (h.d); symbols = h.symbols; written = λ i. Some (numbers_of at (h.symbols i)) }

body_given : (at : ℕ) (xs : List Symbol) (b : Option Body) → IsDefined at xs b → Given FitsBody files.body_symbols (λ n o. option_map (block_of n) o) at xs b
body_given at xs b r.declared = record { d = None; fits = tt; symbols = refl; written = refl }
body_given at xs b (r.defined {b = x} a) = let h = block_given at xs x a in
    record { d = Some (h.d); fits = h.fits; symbols = h.symbols; written = λ i. Some (h.written i) }

function_given : (at : ℕ) (xs : List Symbol) (x : s.Function) → IsFunction at xs x → Given FitsFunction function_symbols function_of at xs x
function_given at us x (r.function {xs = xs} {ys = ys} {zs = zs} {ws = ws} {static = static} {r = o} {ps = ps} {b = b} a e f q) =
    let y = token_behind (token_behind at xs) ys in
    let g = word_given c.Static xs static a in
    let h = result_given (token_behind at xs) ys o e in
    let k = parameters_given (y + 1 + 1) zs ps f in
    let m = body_given (token_behind (y + 1 + 1) zs + 1) ws b q in
    record {
      d = Defined static (h.d) (k.d) (m.d);
      fits = (k.fits, m.fits);
      symbols = λ i. g i ++ h.symbols i ++ Outside c.Name ∷ Outside c.Open ∷ k.symbols i ++ Outside c.Close ∷ m.symbols i;
      written = λ i. record {
        static = static;
        words = ((λ j. option_map (λ (t : NumberType). numbers_of (token_behind at (g j)) (type_symbols t)) (h.d)) ∙ h.written) i;
        name = token_behind (token_behind at (g i)) (h.symbols i);
        parameters = ((λ j. parameters_of (token_behind (token_behind at (g j)) (h.symbols j) + 1 + 1) (k.d)) ∙ k.written) i;
        body = ((λ j. option_map (block_of (token_behind (token_behind (token_behind at (g j)) (h.symbols j) + 1 + 1) (k.symbols j) + 1)) (m.d)) ∙ m.written) i;
        counted = most_counted (g i ++ h.symbols i ++ Outside c.Name ∷ Outside c.Open ∷ k.symbols i ++ Outside c.Close ∷ m.symbols i);
      };
    }

top_given : (at : ℕ) (xs : List Symbol) (x : s.Form) → IsTop at xs x → Given FitsTop top_symbols top_of at xs x
top_given at xs x r.line = record { d = Line; fits = tt; symbols = refl; written = refl }
top_given at us x (r.enum {xs = xs} {ys = ys} {es = es} {trailing = trailing} a b) =
    let h = each_given FitsConstant enumerator_symbols enumerator_of IsEnumerator enumerator_given (at + 1 + 1) xs es a in
    let g = word_given c.Comma ys trailing b in
    record {
      d = OfEnum (Enumerated (h.first) (h.others) trailing);
      fits = (h.fits, h.fit);
      symbols = λ i. Outside c.Enum ∷ Outside c.OpenBlock ∷ h.symbols i ++ g i ++ Outside c.CloseBlock ∷ Outside c.Semicolon ∷ [];
      written = λ i. s.Enum (h.written i);
    }
top_given at us x (r.globals {xs = xs} {ys = ys} {static = static} {d = d} a b) =
    let g = word_given c.Static xs static a in
    let h = local_given (token_behind at xs) ys d b in
    record {
      d = OfDeclaration (Declares static (h.d));
      fits = h.fits;
      symbols = λ i. g i ++ h.symbols i;
      written = λ i. s.Globals static ((ap (λ l. declaration_of (token_behind at l) (h.d)) g ∙ h.written) i);
    }
top_given at xs x (r.defines {f = f} a) = let h = function_given at xs f a in
    record { d = OfFunction (h.d); fits = h.fits; symbols = h.symbols; written = λ i. s.Defines (h.written i) }

pub file_given : (at : ℕ) (xs : List Symbol) (ts : List s.Top) → IsFile at xs ts → Given FitsFile file_symbols tops_of at xs ts
file_given at xs ts r.no_top = record { d = []; fits = tt; symbols = refl; written = refl }
file_given at us v (r.top {xs = xs} {ys = ys} {f = f} {ts = ts} a b) =
    let g = top_given at xs f a in
    let h = file_given (token_behind at xs) ys ts b in
    record {
      d = g.d ∷ h.d;
      fits = (g.fits, h.fits);
      symbols = λ i. g.symbols i ++ h.symbols i;
      written = λ i. s.From at (token_behind at (g.symbols i)) (g.written i) ∷ (ap (λ l. tops_of (token_behind at l) (h.d)) (g.symbols) ∙ h.written) i;
    }
