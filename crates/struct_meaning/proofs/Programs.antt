-- The law of both meanings, for resolved programs too.
use Rattle.std.proofs.Common.{Bool, true, false, cond, ◌&&◌, Option, Some, None, option_map, List, [], ◌∷◌, is_some}
use Rattle.std.specs.List.{AllByRecursion}
use Rattle.std.specs.Option.{option_map_or}
use Rattle.std.specs.Str.{bytes_eq}
use Rattle.std.proofs.lemmas.List.Elements.{recursion_from_All}
use Rattle.std.specs.Prelude.{ℕ}
use Rattle.c_tree.specs.declared.tree.Item.{Item}
use Rattle.c_tree.specs.declared.tree.Function.{Function}
use Rattle.c_tree.specs.declared.tree.Top.{Top}
use Rattle.c_tree.specs.declared.tree.Top.TheVariants as T
use Rattle.c_tree.specs.declared.tree.Program.{Program}
use Rattle.c_tree.specs.Trees.{Nil, trees_of}
use Rattle.c_tree.specs.Everywhere.{Everywhere}
use Rattle.jump_meaning.specs.Code.{Code, FunctionTree, items_of, function_tree, undeclared, function_in, first_of, code_of}
use Rattle.struct_meaning.specs.Structured.{IsStructured, IsTopStructured, IsProgramStructured}
use Rattle.struct_meaning.specs.Runs.{IsCodeStructured, MeaningsAgreeOn, MeaningsAgree}
use Rattle.struct_meaning.proofs.Agreement.{agrees}
use Rattle.struct_meaning.proofs.PlainBodies.{plain_structured}

-- a function that was found has no jumps
abbrev IsFoundStructured : Option FunctionTree → Type 0
IsFoundStructured None = Unit {0}
IsFoundStructured (Some f) = Everywhere IsStructured (items_of f)

body_structured : (o : Option (List Item)) → Everywhere IsStructured (option_map_or trees_of o Nil) →
    Everywhere IsStructured (option_map_or (λ a. a) (option_map trees_of o) Nil)
body_structured None s = s
body_structured (Some xs) s = s

chosen_structured : (y : Bool) (f : Function) (o : Option FunctionTree) → IsTopStructured (T.Function f) → IsFoundStructured o →
    IsFoundStructured (cond y (Some (function_tree f)) o)
chosen_structured true f o s h = body_structured f.body s
chosen_structured false f o s h = h

found_structured : (p : Function → Bool) (m : List ℕ) (ts : List Top) → AllByRecursion IsTopStructured ts → IsFoundStructured (function_in p m ts)
found_structured p m [] s = tt
found_structured p m (T.Function f ∷ ts) s = chosen_structured (bytes_eq f.name m && p f) f (function_in p m ts) s.0 (found_structured p m ts s.1)
found_structured p m (T.Include b ∷ ts) s = found_structured p m ts s.1
found_structured p m (T.Enum es ∷ ts) s = found_structured p m ts s.1
found_structured p m (T.Global g ∷ ts) s = found_structured p m ts s.1
found_structured p m (T.Note b ∷ ts) s = found_structured p m ts s.1

first_structured : (o p : Option FunctionTree) → IsFoundStructured o → IsFoundStructured p → Everywhere IsStructured (items_of (first_of o p undeclared))
first_structured (Some f) p s h = s
first_structured None (Some f) s h = h
first_structured None None s h = tt

pub code_structured : (q : Program) → IsProgramStructured q → IsCodeStructured (code_of q)
code_structured q s m =
    let t = recursion_from_All IsTopStructured q.tops s in
    first_structured (function_in (λ f. is_some f.body) m q.tops) (function_in (λ f. true) m q.tops)
    (found_structured (λ f. is_some f.body) m q.tops t) (found_structured (λ f. true) m q.tops t)

agrees_on : (p : Code) → IsCodeStructured p → MeaningsAgreeOn p
agrees_on p s = record { runs = agrees p s }

pub meanings_agree_law : MeaningsAgree
meanings_agree_law = record {
  of_codes = agrees_on;
  of_programs = λ q s. agrees_on (code_of q) (code_structured q s);
  of_plain_programs = λ q e. agrees_on (code_of q) (code_structured q (plain_structured q e));
}
