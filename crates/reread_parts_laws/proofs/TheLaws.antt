-- The laws together.
use Rattle.std.proofs.Common.{ap}
use Rattle.c_tree.specs.ExpressionTrees.{expression_tree}
use Rattle.c_grammar.specs.declared.syntax.Production.TheVariants as p
use Rattle.c_grammar.specs.ExpressionSyntax.{expression_node, assignment_node, conditional_node}
use Rattle.c_grammar.specs.Parts.{declaration_in}
use Rattle.print_laws.specs.ExpressionDerivations.{derivation_of}
use Rattle.print_laws.specs.StatementDerivations.{assignment_of, conditional_of}
use Rattle.reread_parts_laws.specs.Laws.{RereadLaws}
use Rattle.reread_parts_laws.specs.WrittenExpressions.{expression_form, assignment_form, conditional_form}
use Rattle.reread_parts_laws.proofs.ExpressionSources.{term_is, expression_writes, assignment_writes, conditional_writes}
use Rattle.reread_parts_laws.proofs.DeclarationSources.{local_known}
use Rattle.reread_parts_laws.proofs.StatementSources.{block_writes}
use Rattle.reread_parts_laws.proofs.BodyGiven.{resolved_reads}
use Rattle.reread_parts_laws.proofs.FunctionSources.{function_known}
use Rattle.reread_parts_laws.proofs.FunctionsRead.{function_reads}
use Rattle.reread_parts_laws.proofs.FileSources.{file_writes}
use Rattle.reread_parts_laws.proofs.GlobalsRead.{global_reads}
use Rattle.reread_parts_laws.proofs.EnumsRead.{enum_reads}
use Rattle.reread_parts_laws.proofs.GlobalsFound.{globals_found}
use Rattle.reread_parts_laws.proofs.TokenWords.{words_of}
use Rattle.reread_parts_laws.proofs.FilesRead.{file_reads, program_reads}
use Rattle.reread_parts_laws.proofs.FunctionNamesRead.{name_reads}
use Rattle.reread_parts_laws.proofs.StartScopes.{at_the_start, in_function}
use Rattle.reread_parts_laws.proofs.BodyRead.{body_reads}
use Rattle.reread_parts_laws.proofs.FullExpressions.{open_full, assigned_full, chosen_full, reads_whole, stands_tree}

pub reread_laws : RereadLaws
reread_laws = record {
  expression = λ word at e. term_is word (expression_node at e) p.Expression at (expression_form at e) (expression_writes word at e);
  assignment = λ word at a. term_is word (assignment_node at a) p.Assignment at (assignment_form at a) (assignment_writes word at a);
  conditional = λ word at d. term_is word (conditional_node at d) p.Conditional at (conditional_form at d) (conditional_writes word at d);
  declaration = λ word at x. ap declaration_in ((local_known word at x).holds);
  block = block_writes;
  expressions = λ n ss env tokens h e at ps g s.
      let x = expression_tree e in
      let d = derivation_of x in
      reads_whole n ss env tokens h _ at _ _ ps e (term_is env.word (expression_node at d) p.Expression at (expression_form at d)
      (expression_writes env.word at d))
      (open_full n ss env tokens h at ps x g (stands_tree n ss env tokens h 1 at ps e s));
  assignments = λ n ss env tokens h e at ps g s.
      let x = expression_tree e in
      let d = assignment_of x in
      reads_whole n ss env tokens h _ at _ _ ps e (term_is env.word (assignment_node at d) p.Assignment at (assignment_form at d)
      (assignment_writes env.word at d))
      (assigned_full n ss env tokens h at ps x g (stands_tree n ss env tokens h 2 at ps e s));
  conditionals = λ n ss env tokens h e at ps g s.
      let x = expression_tree e in
      let d = conditional_of x in
      reads_whole n ss env tokens h _ at _ _ ps e (term_is env.word (conditional_node at d) p.Conditional at (conditional_form at d)
      (conditional_writes env.word at d))
      (chosen_full n ss env tokens h at ps x g (stands_tree n ss env tokens h 3 at ps e s));
  bodies = λ ts f ctx tokens ss k w at depth xs ps words h g p b. body_reads ts f ctx tokens words ss k w at depth xs ps h g p b;
  resolved_bodies = λ counts ts f word notes x tokens ss w at depth body ps h words r st p b.
      resolved_reads counts ts f word notes x tokens ss w at depth body ps h words r st p b;
  function = λ word at x h. (function_known word at x h).holds;
  functions = λ counts ts f word notes tokens ss scopes at ps h words same q b. function_reads counts ts f word notes tokens ss scopes at h words same ps q b;
  files = file_writes;
  variables = λ ts g ss env tokens at ps words there same v b. global_reads ts g ss env tokens words there same v at ps b;
  enums = λ ts x xs ss env tokens at ps words there same h b. enum_reads ts env.word tokens words x xs ss env.scopes at ps there same h b;
  starts = at_the_start;
  inward = in_function;
  names = λ ts f g bodies before x env ss w d there h. name_reads ts f g env.word x bodies before ss d w env.scopes there h;
  whole_files = λ counts ts file tokens xs ss s at noted words there k h g b. file_reads counts ts file tokens words xs ss s at noted there k h g b;
  programs = program_reads;
  words = words_of;
  found_variables = globals_found;
}
