-- Tests on the class of a token.
use Rattle.std.specs.Prelude.{Bool, true, false}
use Rattle.c_grammar.specs.declared.class.Class.{Class}
use Rattle.c_grammar.specs.declared.class.Class.TheVariants as c

abbrev pub is_step : Class → Bool
is_step c.Step = true
is_step _ = false

abbrev pub is_question : Class → Bool
is_question c.Question = true
is_question _ = false

abbrev pub is_colon : Class → Bool
is_colon c.Colon = true
is_colon _ = false

abbrev pub is_comma : Class → Bool
is_comma c.Comma = true
is_comma _ = false

abbrev pub is_open : Class → Bool
is_open c.Open = true
is_open _ = false

abbrev pub is_close : Class → Bool
is_close c.Close = true
is_close _ = false

abbrev pub is_open_index : Class → Bool
is_open_index c.OpenIndex = true
is_open_index _ = false

abbrev pub is_close_index : Class → Bool
is_close_index c.CloseIndex = true
is_close_index _ = false

abbrev pub is_text : Class → Bool
is_text c.Text = true
is_text _ = false

-- may begin a local declaration
abbrev pub starts_local : Class → Bool
starts_local c.Const = true
starts_local c.Char = true
starts_local c.Int = true
starts_local c.Long = true
starts_local c.Signed = true
starts_local c.Unsigned = true
starts_local _ = false

-- may stand behind a sign in a type
abbrev pub is_base : Class → Bool
is_base c.Char = true
is_base c.Int = true
is_base c.Long = true
is_base _ = false

-- the second is the first, which productions await
abbrev pub same : Class → Class → Bool
same c.Name c.Name = true
same c.Open c.Open = true
same c.Close c.Close = true
same c.OpenIndex c.OpenIndex = true
same c.CloseIndex c.CloseIndex = true
same c.OpenBlock c.OpenBlock = true
same c.CloseBlock c.CloseBlock = true
same c.Comma c.Comma = true
same c.Semicolon c.Semicolon = true
same c.Colon c.Colon = true
same c.Equals c.Equals = true
same c.Int c.Int = true
same c.Const c.Const = true
same c.Else c.Else = true
same c.While c.While = true
same _ _ = false
