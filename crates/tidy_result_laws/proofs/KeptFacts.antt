-- The facts of a resolved function's items that a change keeps.
use Rattle.std.proofs.Common.{ℕ, Bool, true, false, List, Option, Some, None, sym, subst}
use Rattle.std.specs.Prelude.{IsSomeAnd}
use Rattle.c_types.specs.declared.kinds.IntKind.{IntKind}
use Rattle.c_tree.specs.declared.tree.Slot.{Slot}
use Rattle.c_tree.specs.Cases.{selector_kind, AllEntered}
use Rattle.c_tree.specs.ExpressionTrees.{ExpressionTree}
use Rattle.c_tree.specs.TestTrees.{Source}
use Rattle.c_tree.specs.Trees.{Tree, Nil, Sections, Return, If, While, Do, For, Switch, Block}
use Rattle.c_tree.specs.Changed.{one}
use Rattle.c_tree.specs.InRange.{IsUnguarded}
use Rattle.c_resolved_defs.specs.Kinds.{KindsAgree, ItemAgrees, ReturnFits, WritesNoConst, KeepsConsts}
use Rattle.c_resolved_defs.specs.Names.{Names}
use Rattle.c_resolved_defs.specs.Resolved.{IsInitialised}
use Rattle.c_resolved_defs.specs.Switches.{AreLabels, HasCases}
use Rattle.c_resolved_defs.specs.Within.{Within, CaseExpressions}
use Rattle.struct_meaning.specs.Structured.{IsStructured}
use Rattle.tidy_laws.specs.Settles.{jump_by}
use Rattle.tidy_result_laws.proofs.Trims.{TrimSections, s_none, s_more}
use Rattle.tidy_result_laws.proofs.TrimLists.{HasFirst}
use Rattle.tidy_result_laws.proofs.TrimCounts.{sections_labels}
use Rattle.tidy_result_laws.proofs.TrimFacts.{IsKept}

-- each section of a switch has a case or the default
abbrev pub HasEntries : Tree → Type 0
HasEntries (Switch s c) = AllEntered c
HasEntries _ = Unit {0}

module _ (g : ℕ) where
  pub kept_cases : (P : ExpressionTree → Type 0) {n : ℕ} {c d : Sections} → TrimSections g n c d → CaseExpressions P c → CaseExpressions P d
  kept_cases P s_none h = tt
  kept_cases P (s_more cases default ends i r) h = (h.0, kept_cases P r h.1)

  -- ---- kinds

  module _ (n : Names) where
    pub kinds_kept : IsKept g (ItemAgrees n)
    kinds_kept = record {
      jumps = λ leave. at leave;
      sets = λ k e leave h. let i = h.kinds in record { kinds = i.1.1; values = i.0.1 };
      ifs = λ t a b c d h. record { kinds = h.kinds; values = h.values };
      whiles = λ t a c h. record { kinds = h.kinds; values = h.values };
      dos = λ t a c h. record { kinds = h.kinds; values = h.values };
      half_whiles = λ k e t a h. let i = h.kinds in record { kinds = i.1.1; values = i.0.1 };
      half_dos = λ k e t a h. let i = h.kinds in record { kinds = i.1.1; values = i.0.1 };
      fors = λ f t u a c h. record { kinds = h.kinds; values = h.values };
      switches = λ m s c d t h. let i = h.kinds in record { kinds = (i.0, kept_cases (KindsAgree n) t i.1); values = h.values };
      blocks = λ a. record { kinds = tt; values = tt };
    }
      where
        at : (leave : Bool) → ItemAgrees n (jump_by leave)
        at true = record { kinds = tt; values = tt }
        at false = record { kinds = tt; values = tt }

    pub consts_kept : IsKept g (KeepsConsts n)
    consts_kept = record {
      jumps = λ leave. at leave;
      sets = λ k e leave h. h.1.1;
      ifs = λ t a b c d h. h;
      whiles = λ t a c h. h;
      dos = λ t a c h. h;
      half_whiles = λ k e t a h. h.1.1;
      half_dos = λ k e t a h. h.1.1;
      fors = λ f t u a c h. h;
      switches = λ m s c d t h. (h.0, kept_cases (Within (WritesNoConst n)) t h.1);
      blocks = λ a. tt;
    }
      where
        at : (leave : Bool) → KeepsConsts n (jump_by leave)
        at true = tt
        at false = tt

  -- ---- facts of single forms

  abbrev IsNoReturn : Tree → Type 0
  IsNoReturn (Return e) = ⊥
  IsNoReturn _ = Unit {0}

  fits : (result : Option IntKind) (x : Tree) → IsNoReturn x → ReturnFits result x
  fits None (Return e) i = absurd i
  fits (Some k) (Return e) i = absurd i
  fits _ x i = tt

  pub returns_kept : (result : Option IntKind) → IsKept g (ReturnFits result)
  returns_kept result = record {
    jumps = λ leave. fits result (jump_by leave) (at leave);
    sets = λ k e leave h. fits result (If (Source e) (one (jump_by leave)) Nil) tt;
    ifs = λ t a b c d h. fits result (If t c d) tt;
    whiles = λ t a c h. fits result (While t c) tt;
    dos = λ t a c h. fits result (Do c t) tt;
    half_whiles = λ k e t a h. fits result (While (Source t) a) tt;
    half_dos = λ k e t a h. fits result (Do a (Source t)) tt;
    fors = λ f t u a c h. fits result (For f t u c) tt;
    switches = λ m s c d t h. fits result (Switch s d) tt;
    blocks = λ a. fits result (Block a) tt;
  }
    where
      at : (leave : Bool) → IsNoReturn (jump_by leave)
      at true = tt
      at false = tt

  pub cases_kept : IsKept g HasCases
  cases_kept = record {
    jumps = λ leave. at leave;
    sets = λ k e leave h. tt;
    ifs = λ t a b c d h. tt;
    whiles = λ t a c h. tt;
    dos = λ t a c h. tt;
    half_whiles = λ k e t a h. tt;
    half_dos = λ k e t a h. tt;
    fors = λ f t u a c h. tt;
    switches = λ m s c d t h. subst (λ ls. IsSomeAnd (selector_kind s) (λ k. AreLabels k ls)) (sym (sections_labels g t)) h;
    blocks = λ a. tt;
  }
    where
      at : (leave : Bool) → HasCases (jump_by leave)
      at true = tt
      at false = tt

  entries_over : {n : ℕ} {c d : Sections} → TrimSections g n c d → AllEntered c → AllEntered d
  entries_over s_none h = tt
  entries_over (s_more cases default ends i r) h = (h.0, entries_over r h.1)

  pub entries_kept : IsKept g HasEntries
  entries_kept = record {
    jumps = λ leave. at leave;
    sets = λ k e leave h. tt;
    ifs = λ t a b c d h. tt;
    whiles = λ t a c h. tt;
    dos = λ t a c h. tt;
    half_whiles = λ k e t a h. tt;
    half_dos = λ k e t a h. tt;
    fors = λ f t u a c h. tt;
    switches = λ m s c d t h. entries_over t h;
    blocks = λ a. tt;
  }
    where
      at : (leave : Bool) → HasEntries (jump_by leave)
      at true = tt
      at false = tt

  pub initialised_kept : (ss : List Slot) → IsKept g (IsInitialised ss)
  initialised_kept ss = record {
    jumps = λ leave. at leave;
    sets = λ k e leave h. tt;
    ifs = λ t a b c d h. tt;
    whiles = λ t a c h. tt;
    dos = λ t a c h. tt;
    half_whiles = λ k e t a h. tt;
    half_dos = λ k e t a h. tt;
    fors = λ f t u a c h. tt;
    switches = λ m s c d t h. tt;
    blocks = λ a. tt;
  }
    where
      at : (leave : Bool) → IsInitialised ss (jump_by leave)
      at true = tt
      at false = tt

  pub firsts_kept : (ss : List Slot) → IsKept g (HasFirst ss)
  firsts_kept ss = record {
    jumps = λ leave. at leave;
    sets = λ k e leave h. tt;
    ifs = λ t a b c d h. tt;
    whiles = λ t a c h. tt;
    dos = λ t a c h. tt;
    half_whiles = λ k e t a h. tt;
    half_dos = λ k e t a h. tt;
    fors = λ f t u a c h. h;
    switches = λ m s c d t h. tt;
    blocks = λ a. tt;
  }
    where
      at : (leave : Bool) → HasFirst ss (jump_by leave)
      at true = tt
      at false = tt

  pub jumps_kept : IsKept g IsStructured
  jumps_kept = record {
    jumps = λ leave. at leave;
    sets = λ k e leave h. tt;
    ifs = λ t a b c d h. tt;
    whiles = λ t a c h. tt;
    dos = λ t a c h. tt;
    half_whiles = λ k e t a h. tt;
    half_dos = λ k e t a h. tt;
    fors = λ f t u a c h. tt;
    switches = λ m s c d t h. tt;
    blocks = λ a. tt;
  }
    where
      at : (leave : Bool) → IsStructured (jump_by leave)
      at true = tt
      at false = tt

  pub unguarded_kept : IsKept g IsUnguarded
  unguarded_kept = record {
    jumps = λ leave. at leave;
    sets = λ k e leave h. tt;
    ifs = λ t a b c d h. h;
    whiles = λ t a c h. h;
    dos = λ t a c h. h;
    half_whiles = λ k e t a h. tt;
    half_dos = λ k e t a h. tt;
    fors = λ f t u a c h. tt;
    switches = λ m s c d t h. h;
    blocks = λ a. tt;
  }
    where
      at : (leave : Bool) → IsUnguarded (jump_by leave)
      at true = tt
      at false = tt
