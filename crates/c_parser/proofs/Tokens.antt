-- What a token's class says about the tests on it.
use Rattle.std.proofs.Common.{◌≡◌, ◌<◌, Bool, true, false, refl, arith}
use Rattle.c_grammar.specs.declared.class.Class.{Class}
use Rattle.c_grammar.specs.declared.class.Class.TheVariants as c
use Rattle.c_grammar.specs.Classes.{level, is_assign}
use Rattle.c_parse_step.specs.Tests.{is_step, is_question, is_colon, is_comma, is_open, is_close, is_open_index, is_close_index, is_text, same}

-- ---- which token it is

pub step_is : (t : Class) → is_step t ≡ true → t ≡ c.Step
step_is c.Step h = refl
step_is _ h = cc

pub question_is : (t : Class) → is_question t ≡ true → t ≡ c.Question
question_is c.Question h = refl
question_is _ h = cc

pub colon_is : (t : Class) → is_colon t ≡ true → t ≡ c.Colon
colon_is c.Colon h = refl
colon_is _ h = cc

pub comma_is : (t : Class) → is_comma t ≡ true → t ≡ c.Comma
comma_is c.Comma h = refl
comma_is _ h = cc

pub open_is : (t : Class) → is_open t ≡ true → t ≡ c.Open
open_is c.Open h = refl
open_is _ h = cc

pub close_is : (t : Class) → is_close t ≡ true → t ≡ c.Close
close_is c.Close h = refl
close_is _ h = cc

pub open_index_is : (t : Class) → is_open_index t ≡ true → t ≡ c.OpenIndex
open_index_is c.OpenIndex h = refl
open_index_is _ h = cc

pub close_index_is : (t : Class) → is_close_index t ≡ true → t ≡ c.CloseIndex
close_index_is c.CloseIndex h = refl
close_index_is _ h = cc

pub text_is : (t : Class) → is_text t ≡ true → t ≡ c.Text
text_is c.Text h = refl
text_is _ h = cc

-- the awaited token
pub same_is : (x t : Class) → same x t ≡ true → t ≡ x
same_is c.Name c.Name h = refl
same_is c.Open c.Open h = refl
same_is c.Close c.Close h = refl
same_is c.OpenIndex c.OpenIndex h = refl
same_is c.CloseIndex c.CloseIndex h = refl
same_is c.OpenBlock c.OpenBlock h = refl
same_is c.CloseBlock c.CloseBlock h = refl
same_is c.Comma c.Comma h = refl
same_is c.Semicolon c.Semicolon h = refl
same_is c.Colon c.Colon h = refl
same_is c.Equals c.Equals h = refl
same_is c.Int c.Int h = refl
same_is c.Const c.Const h = refl
same_is c.Else c.Else h = refl
same_is c.While c.While h = refl
same_is _ _ h = cc

-- ---- what may stand where

-- may stand behind a unary expression
abbrev pub is_quiet : Class → Bool
is_quiet c.Step = false
is_quiet c.Open = false
is_quiet c.OpenIndex = false
is_quiet _ = true

-- may stand behind an expression
abbrev pub is_closer : Class → Bool
is_closer c.Close = true
is_closer c.CloseIndex = true
is_closer c.CloseBlock = true
is_closer c.Comma = true
is_closer c.Semicolon = true
is_closer c.Colon = true
is_closer _ = false

-- no call and no index behind it
abbrev pub is_bare : Class → Bool
is_bare c.Open = false
is_bare c.OpenIndex = false
is_bare _ = true

-- what may stand behind an expression is no mark of a level, of an assignment or of a choice, and no text
pub closer_level : (t : Class) → is_closer t ≡ true → level t ≡ 0
closer_level c.Close h = refl
closer_level _ h = cc

pub closer_quiet : (t : Class) → is_closer t ≡ true → is_quiet t ≡ true
closer_quiet c.Close h = refl
closer_quiet _ h = cc

pub closer_question : (t : Class) → is_closer t ≡ true → is_question t ≡ false
closer_question c.Close h = refl
closer_question _ h = cc

pub closer_assign : (t : Class) → is_closer t ≡ true → is_assign t ≡ false
closer_assign c.Close h = refl
closer_assign _ h = cc

pub closer_text : (t : Class) → is_closer t ≡ true → is_text t ≡ false
closer_text c.Close h = refl
closer_text _ h = cc

-- what neither calls nor indexes
pub bare_open : (t : Class) → is_bare t ≡ true → is_open t ≡ false
bare_open c.Close h = refl
bare_open _ h = cc

pub bare_index : (t : Class) → is_bare t ≡ true → is_open_index t ≡ false
bare_index c.Close h = refl
bare_index _ h = cc

-- what may stand behind a unary expression
pub quiet_bare : (t : Class) → is_quiet t ≡ true → is_bare t ≡ true
quiet_bare c.Close h = refl
quiet_bare _ h = cc

pub quiet_step : (t : Class) → is_quiet t ≡ true → is_step t ≡ false
quiet_step c.Close h = refl
quiet_step _ h = cc

-- a mark of an assignment or of a level stands behind a whole operand
pub assign_bare : (t : Class) → is_assign t ≡ true → is_bare t ≡ true
assign_bare c.Equals h = refl
assign_bare _ h = cc

pub mark_quiet : (t : Class) → 0 < level t → is_quiet t ≡ true
mark_quiet c.Step h = absurd (omega (arith, h))
mark_quiet c.Open h = absurd (omega (arith, h))
mark_quiet c.OpenIndex h = absurd (omega (arith, h))
mark_quiet _ h = refl

-- no mark binds as tightly as a unary expression
pub level_below : (t : Class) → level t < 14
level_below c.Close = omega arith
level_below _ = omega arith
