-- What entries of the stack show, whichever they are.
use Rattle.std.proofs.Common.{◌≡◌, ◌<◌, ℕ, List, length, refl, arith}
use Rattle.c_grammar.specs.declared.class.Class.{Class}
use Rattle.c_grammar.specs.declared.syntax.Syntax.{Syntax}
use Rattle.c_grammar.specs.declared.syntax.Production.{Production}
use Rattle.c_parse_step.specs.declared.entry.Entry.{Entry}
use Rattle.c_parse_step.specs.declared.entry.Entry.TheVariants as k
use Rattle.c_parse_step.specs.declared.form.Want.{Want}
use Rattle.c_parse_step.specs.declared.frame.Found.{Found}
use Rattle.c_parse_step.specs.declared.frame.Full.{Full}
use Rattle.c_parse_step.specs.declared.frame.Full.TheVariants as f
use Rattle.c_parse_step.specs.Machine.{give}
use Rattle.c_parse_step.specs.Shown.{shown}
use Rattle.c_parse_step.specs.Starts.{Frames, Fails}

pub shown_longer : (x : Entry) (z : Frames) → length z < length (shown x z)
shown_longer (k.Begun f.Conditional first) z = omega arith
shown_longer (k.Begun f.Assignment first) z = omega arith
shown_longer (k.Begun f.Expression first) z = omega arith
shown_longer _ z = omega arith

-- an entry whose frame awaits no value
pub takes_no_value : (x : Entry) (z : Frames) (v : Found) (t : Class) (at : ℕ)
    → ((a : ℕ) → x ≡ k.Post a → ⊥)
    → ((a : ℕ) (b : ℕ) → x ≡ k.Prefix a b → ⊥)
    → ((a : ℕ) (b : ℕ) → x ≡ k.Stepped a b → ⊥)
    → ((a : ℕ) (b : ℕ) → x ≡ k.Enclosed a b → ⊥)
    → ((a : ℕ) (b : ℕ) → x ≡ k.CastType a b → ⊥)
    → ((a : ℕ) (b : ℕ) (c : List Syntax) → x ≡ k.Cast a b c → ⊥)
    → ((a : ℕ) → x ≡ k.Operand a → ⊥)
    → ((a : ℕ) (b : ℕ) (c : ℕ) (d : ℕ) (e : Syntax) → x ≡ k.Join a b c d e → ⊥)
    → ((a : Full) (b : ℕ) → x ≡ k.Begun a b → ⊥)
    → ((a : ℕ) (b : ℕ) (c : ℕ) (d : Syntax) → x ≡ k.ChoiceThen a b c d → ⊥)
    → ((a : ℕ) (b : ℕ) (c : List Syntax) → x ≡ k.ChoiceElse a b c → ⊥)
    → ((a : ℕ) → x ≡ k.Assigns a → ⊥)
    → ((a : ℕ) (b : ℕ) (c : List Syntax) → x ≡ k.AssignsTo a b c → ⊥)
    → ((a : ℕ) (b : ℕ) (c : List Syntax) → x ≡ k.Commas a b c → ⊥)
    → ((a : ℕ) (b : ℕ) (c : List Syntax) → x ≡ k.Indexed a b c → ⊥)
    → ((a : ℕ) (b : ℕ) → x ≡ k.Bracketed a b → ⊥)
    → ((a : ℕ) → x ≡ k.ArgumentSeen a → ⊥)
    → ((a : ℕ) (b : List Syntax) → x ≡ k.Arguments a b → ⊥)
    → ((a : Full) (b : ℕ) → x ≡ k.Whole a b → ⊥)
    → ((a : Production) (b : ℕ) (c : ℕ) (d : List Syntax) (e : List Want) → x ≡ k.Rest a b c d e → ⊥)
    → ((a : ℕ) (b : ℕ) (c : List Syntax) → x ≡ k.Block a b c → ⊥)
    → ((a : ℕ) (b : ℕ) → x ≡ k.Statement a b → ⊥)
    → ((a : ℕ) (b : ℕ) → x ≡ k.Sentence a b → ⊥)
    → ((a : ℕ) (b : ℕ) (c : List Syntax) → x ≡ k.TopType a b c → ⊥)
    → ((a : List Syntax) → x ≡ k.Tops a → ⊥)
    → give (shown x z) v t at ≡ Fails
takes_no_value (k.Post a) z v t at h _ _ _ _ _ _ _ _ _ _ _ _ _ _ _ _ _ _ _ _ _ _ _ _ = absurd (h a refl)
takes_no_value (k.Prefix a b) z v t at _ h _ _ _ _ _ _ _ _ _ _ _ _ _ _ _ _ _ _ _ _ _ _ _ = absurd (h a b refl)
takes_no_value (k.Stepped a b) z v t at _ _ h _ _ _ _ _ _ _ _ _ _ _ _ _ _ _ _ _ _ _ _ _ _ = absurd (h a b refl)
takes_no_value (k.Enclosed a b) z v t at _ _ _ h _ _ _ _ _ _ _ _ _ _ _ _ _ _ _ _ _ _ _ _ _ = absurd (h a b refl)
takes_no_value (k.CastType a b) z v t at _ _ _ _ h _ _ _ _ _ _ _ _ _ _ _ _ _ _ _ _ _ _ _ _ = absurd (h a b refl)
takes_no_value (k.Cast a b c) z v t at _ _ _ _ _ h _ _ _ _ _ _ _ _ _ _ _ _ _ _ _ _ _ _ _ = absurd (h a b c refl)
takes_no_value (k.Operand a) z v t at _ _ _ _ _ _ h _ _ _ _ _ _ _ _ _ _ _ _ _ _ _ _ _ _ = absurd (h a refl)
takes_no_value (k.Join a b c d e) z v t at _ _ _ _ _ _ _ h _ _ _ _ _ _ _ _ _ _ _ _ _ _ _ _ _ = absurd (h a b c d e refl)
takes_no_value (k.Begun a b) z v t at _ _ _ _ _ _ _ _ h _ _ _ _ _ _ _ _ _ _ _ _ _ _ _ _ = absurd (h a b refl)
takes_no_value (k.ChoiceThen a b c d) z v t at _ _ _ _ _ _ _ _ _ h _ _ _ _ _ _ _ _ _ _ _ _ _ _ _ = absurd (h a b c d refl)
takes_no_value (k.ChoiceElse a b c) z v t at _ _ _ _ _ _ _ _ _ _ h _ _ _ _ _ _ _ _ _ _ _ _ _ _ = absurd (h a b c refl)
takes_no_value (k.Assigns a) z v t at _ _ _ _ _ _ _ _ _ _ _ h _ _ _ _ _ _ _ _ _ _ _ _ _ = absurd (h a refl)
takes_no_value (k.AssignsTo a b c) z v t at _ _ _ _ _ _ _ _ _ _ _ _ h _ _ _ _ _ _ _ _ _ _ _ _ = absurd (h a b c refl)
takes_no_value (k.Commas a b c) z v t at _ _ _ _ _ _ _ _ _ _ _ _ _ h _ _ _ _ _ _ _ _ _ _ _ = absurd (h a b c refl)
takes_no_value (k.Indexed a b c) z v t at _ _ _ _ _ _ _ _ _ _ _ _ _ _ h _ _ _ _ _ _ _ _ _ _ = absurd (h a b c refl)
takes_no_value (k.Bracketed a b) z v t at _ _ _ _ _ _ _ _ _ _ _ _ _ _ _ h _ _ _ _ _ _ _ _ _ = absurd (h a b refl)
takes_no_value (k.ArgumentSeen a) z v t at _ _ _ _ _ _ _ _ _ _ _ _ _ _ _ _ h _ _ _ _ _ _ _ _ = absurd (h a refl)
takes_no_value (k.Arguments a b) z v t at _ _ _ _ _ _ _ _ _ _ _ _ _ _ _ _ _ h _ _ _ _ _ _ _ = absurd (h a b refl)
takes_no_value (k.Whole a b) z v t at _ _ _ _ _ _ _ _ _ _ _ _ _ _ _ _ _ _ h _ _ _ _ _ _ = absurd (h a b refl)
takes_no_value (k.Rest a b c d e) z v t at _ _ _ _ _ _ _ _ _ _ _ _ _ _ _ _ _ _ _ h _ _ _ _ _ = absurd (h a b c d e refl)
takes_no_value (k.Block a b c) z v t at _ _ _ _ _ _ _ _ _ _ _ _ _ _ _ _ _ _ _ _ h _ _ _ _ = absurd (h a b c refl)
takes_no_value (k.Statement a b) z v t at _ _ _ _ _ _ _ _ _ _ _ _ _ _ _ _ _ _ _ _ _ h _ _ _ = absurd (h a b refl)
takes_no_value (k.Sentence a b) z v t at _ _ _ _ _ _ _ _ _ _ _ _ _ _ _ _ _ _ _ _ _ _ h _ _ = absurd (h a b refl)
takes_no_value (k.TopType a b c) z v t at _ _ _ _ _ _ _ _ _ _ _ _ _ _ _ _ _ _ _ _ _ _ _ h _ = absurd (h a b c refl)
takes_no_value (k.Tops a) z v t at _ _ _ _ _ _ _ _ _ _ _ _ _ _ _ _ _ _ _ _ _ _ _ _ h = absurd (h a refl)
takes_no_value _ z v t at _ _ _ _ _ _ _ _ _ _ _ _ _ _ _ _ _ _ _ _ _ _ _ _ _ = refl
