-- What a walk finds in a file, and what of that is reported.
use Rattle.std.proofs.Common.{List, [], ◌∷◌, ◌++◌, map, true≢false, sym, subst}
use Rattle.c_grammar.specs.Tops.{Form, Line, Enum, Globals, Defines, Unread, Top, From}
use Rattle.c_statements.specs.Declarations.{kinded}
use Rattle.c_statements.specs.Functions.{function_faults}
use Rattle.c_scopes.specs.Enums.{enum_faults}
use Rattle.c_scopes.specs.Files.{File, State, start, env_of, function_declared, form_faults, top_faults, file_faults}
use Rattle.c_scopes.specs.Files as walked
use Rattle.c_scopes.specs.FunctionNames.{function_name_faults}
use Rattle.c_kinds.specs.Typing.{typed}
use Rattle.c_reading_defs.specs.Scopes.{Identifier, scopes_at}
use Rattle.c_reading_defs.specs.FileScopes.{global_variable, form_identifiers, IsFileScope}
use Rattle.c_reading_defs.specs.Files.{ConstantBreaks, FormBreaks, TopBreaks, IsViolation}
use Rattle.c_violation_laws.specs.Finds.{Finds}
use Rattle.c_violation_laws.proofs.Finding.{finds_none, finds_both}
use Rattle.c_violation_laws.proofs.Behind.{Behind, finds_behind}
use Rattle.c_violation_laws.proofs.Least.{the_least, least_back, the_faultless, faultless_back}
use Rattle.c_reading_defs.specs.Symbols.{Symbol}
use Rattle.c_reading_defs.specs.DerivedTops.{IsFile}
use Rattle.c_violation_laws.proofs.Numbered.{IsApart, AreApart, file_apart}
use Rattle.c_violation_laws.proofs.Enumerated.{first_before, constants, constants_are}
use Rattle.c_violation_laws.proofs.FileStanding.{FileIn, file_last, function_here, function_inside, Before, form_first, tops_rest, file_begins}
use Rattle.c_violation_laws.proofs.Ordered.{file as ordered_file}
use Rattle.c_violation_laws.proofs.Marks.{each_marks, enumerator_marks, declarator_marks, inner_marks, form_marks}
use Rattle.c_violation_laws.proofs.FunctionFaults.{function}
use Rattle.c_violation_laws.proofs.FileScope.{enumerators, variables}
use Rattle.c_violation_laws.proofs.FunctionNames.{AreBodies, bodies_same, bodies_more, function_name}
use Rattle.c_violation_laws.specs.FileLaws.{FileLaws}

module _ (file : File) (ss : List (List Identifier)) where
  form : (x : Form) → IsApart x → (before : List Top) (s : State) → FileIn s.scopes ss (form_identifiers typed file ss x) (form_marks x) →
      AreBodies file.word before s.bodies → Finds (form_faults file x s) (λ v. FormBreaks typed file ss before x v)
  form Line a before s h b = finds_none
  form (Enum es) a before s h b =
      let marks = each_marks enumerator_marks es in
      let valued = subst (λ l. FileIn s.scopes ss l marks) (constants_are file.word ss es) h in
      finds_behind (enum_faults es first_before (env_of file s)) (λ v front e. ConstantBreaks typed file.word ss front e v) es
      (enumerators file.word ss es [] s.scopes [] [] (file_last s.scopes ss (constants file.word ss first_before es) marks valued) (λ mid hi r. tt))
  form (Globals static d) a before s h b =
      let k = kinded file.word d in
      variables file.word k ss d.names s.scopes [] [] (file_last s.scopes ss (map (global_variable file.word k) d.names)
      (each_marks declarator_marks d.names) h) (λ mid hi r. tt)
  form (Defines f) a before s h b =
      let g = function_inside file ss f s h in
      finds_both (function_name_faults file.bodies s.bodies f (env_of file s))
      (function_faults file.flat file.word file.notes f (function_declared file f s).scopes) _ _
      (function_name file before s.bodies b s.scopes (scopes_at ss f.name) (function_here file ss f s [] (inner_marks f) h (λ mid hi r. tt)) f)
      (function file.word file.flat file.notes f a (function_declared file f s).scopes ss g.lo g.hi g.sees g.order)
  form Unread a before s h b = finds_none

  bodies : (x : Top) (before : List Top) (s : State) → AreBodies file.word before s.bodies →
      AreBodies file.word (before ++ x ∷ []) (walked.behind_top file x s).bodies
  bodies (From first after Line) before s b = bodies_same file.word before (From first after Line) s.bodies (λ q h. h) b
  bodies (From first after (Enum es)) before s b = bodies_same file.word before (From first after (Enum es)) s.bodies (λ q h. h) b
  bodies (From first after (Globals static d)) before s b = bodies_same file.word before (From first after (Globals static d)) s.bodies (λ q h. h) b
  bodies (From first after (Defines f)) before s b = bodies_more file.word before first after f s.bodies b
  bodies (From first after Unread) before s b = bodies_same file.word before (From first after Unread) s.bodies (λ q h. h) b

  tops : (xs : List Top) → AreApart xs → (before : List Top) (s : State) → Before file ss xs s → AreBodies file.word before s.bodies →
      Finds (file_faults file xs s) (λ v. Behind (λ b x. TopBreaks typed file ss b x v) before xs)
  tops [] a before s h b = finds_none
  tops (From first after x ∷ xs) a before s h b =
      let t = From first after x in
      finds_both (top_faults file t s) (file_faults file xs (walked.behind_top file t s)) _ _ (form x a.0 before s (form_first file ss first after x xs s h) b)
      (tops xs a.1 (before ++ t ∷ []) (walked.behind_top file t s) (tops_rest file ss first after x xs s h) (bodies t before s b))

violations : (file : File) (symbols : List Symbol) (xs : List Top) → IsFile 0 symbols xs → (scope : List Identifier) →
    IsFileScope typed file xs scope → Finds (file_faults file xs start) (IsViolation typed file scope xs)
violations file symbols xs derives scope e =
    finds_behind (file_faults file xs start) (λ v b x. TopBreaks typed file (scope ∷ []) b x v) xs
    (tops file (scope ∷ []) xs (file_apart 0 symbols xs derives) [] start (file_begins file xs scope _ e (ordered_file 0 symbols xs derives))
    (λ q. (λ g. absurd (true≢false (sym g)), λ h. absurd h)))

pub file_laws : FileLaws
file_laws = record {
  least = λ file symbols xs derives scope e v.
      let found = violations file symbols xs derives scope e in (
        the_least (file_faults file xs start) (IsViolation typed file scope xs) found v,
        least_back (file_faults file xs start) (IsViolation typed file scope xs) found v,
      );
  faultless = λ file symbols xs derives scope e.
      let found = violations file symbols xs derives scope e in (
        the_faultless (file_faults file xs start) (IsViolation typed file scope xs) found,
        faultless_back (file_faults file xs start) (IsViolation typed file scope xs) found,
      );
}
