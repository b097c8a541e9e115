-- What the law of this crate states.
use Rattle.std.specs.Prelude.{◌≡◌, ℕ, List, None, All}
use Rattle.c_types.specs.declared.refusal.Refusal.{Refusal}
use Rattle.c_tree.specs.declared.tree.Program.{Program}
use Rattle.c_text.specs.Reading.{IsProgramOf}
use Rattle.tidy_refusal.specs.JumplessLaws.{TopLacksJumps}
use Rattle.tidy_refusal.specs.TextJumps.{text_jump, IsRefusedForJumps, IsWithoutJumps}

pub record TextJumpLaws : Type 0 where
  -- no function of a text without jumps has any
  pub functions : (t : List ℕ) (p : Program) → IsProgramOf t p → text_jump t ≡ None → All TopLacksJumps p.tops
  -- and no such text is refused
  pub apart : (t : List ℕ) (refusal : Refusal) → IsWithoutJumps t → IsRefusedForJumps t refusal → ⊥
