-- What holds of a program that is a plain form.
use Rattle.std.proofs.Common.{◌≡◌, ℕ, true, List, sym, subst}
use Rattle.c_tree.specs.declared.tree.Top.{Top}
use Rattle.c_tree.specs.declared.tree.Program.{Program}
use Rattle.c_tree.specs.InRange.{IsProgramInRange}
use Rattle.c_tree.specs.Jumps.{is_jump_free_program, is_plain_program}
use Rattle.jump_meaning.specs.Runs.{BehaveTheSame}
use Rattle.plain_laws.specs.Laws.{IsProgramReady, BehavesAsStructured}
use Rattle.plain_laws.proofs.TheLaws.{plain_laws}
use Rattle.guard_vars.specs.GuardNames.{guard_names}
use Rattle.guard_vars.proofs.GuardNames.{length-guard_names}
use Rattle.plain_form.specs.Few.{AreFewInTops}
use Rattle.plain_form.specs.Plain.{plain}
use Rattle.plain_form.proofs.FewLaws.{few_guards}

module _ (ns : List (List ℕ)) (p : Program) (ts : List Top) (e : ts ≡ (plain ns p).tops) where
  pub no_jumps : is_jump_free_program p ≡ true → is_plain_program (record { tops = ts }) ≡ true
  no_jumps h = subst (λ (us : List Top). is_plain_program (record { tops = us }) ≡ true) (sym e) (plain_laws.plain (guard_names ns) p h)

  pub few : AreFewInTops p.tops ts
  few = subst (AreFewInTops p.tops) (sym e) (few_guards (guard_names ns) (length-guard_names ns) p.tops)

  pub ranged : IsProgramReady (guard_names ns) p → IsProgramInRange (record { tops = ts })
  ranged h = subst (λ (us : List Top). IsProgramInRange (record { tops = us })) (sym e) (plain_laws.ranged (guard_names ns) p h)

  pub behaves : IsProgramReady (guard_names ns) p → BehaveTheSame p (record { tops = ts })
  behaves h = subst (λ (us : List Top). BehaveTheSame p (record { tops = us })) (sym e) (plain_laws.of_programs (guard_names ns) p h)

  pub structured : IsProgramReady (guard_names ns) p → is_jump_free_program p ≡ true → BehavesAsStructured p (record { tops = ts })
  structured h j = subst (λ (us : List Top). BehavesAsStructured p (record { tops = us })) (sym e) (plain_laws.meanings (guard_names ns) p h j)
