-- Which frames an entry of the stack stands for.
use Rattle.std.specs.Prelude.{ℕ, List, [], ◌∷◌}
use Rattle.c_grammar.specs.declared.class.Class.TheVariants as c
use Rattle.c_grammar.specs.declared.syntax.Syntax.{Syntax}
use Rattle.c_grammar.specs.declared.syntax.Production.TheVariants as p
use Rattle.c_grammar.specs.Nodes.{node}
use Rattle.c_parse_step.specs.declared.entry.Entry.{Entry}
use Rattle.c_parse_step.specs.declared.entry.Entry.TheVariants as e
use Rattle.c_parse_step.specs.declared.form.Want.TheVariants as w
use Rattle.c_parse_step.specs.declared.frame.Full.{Full}
use Rattle.c_parse_step.specs.declared.frame.Full.TheVariants as f
use Rattle.c_parse_step.specs.declared.frame.Frame.TheVariants as s
use Rattle.c_parse_step.specs.Nodes.{postfix}
use Rattle.c_parse_step.specs.Starts.{Frames, rest}

-- the token with this number, in front of the token with that one
abbrev pub token : ℕ → ℕ → Syntax
token at after = node p.Token at after []

-- what an expression of this rule awaits behind a conditional expression
abbrev pub behind : Full → ℕ → Frames → Frames
behind f.Conditional first z = z
behind f.Assignment first z = s.Assigns first ∷ z
behind f.Expression first z = s.Assigns first ∷ s.Commas first first [] ∷ z

abbrev pub begun : Full → ℕ → Frames → Frames
begun kind first z = s.Choice first ∷ behind kind first z

abbrev pub shown : Entry → Frames → Frames
shown e.WantUnary z = s.WantUnary ∷ z
shown (e.WantOperand first) z = s.WantUnary ∷ s.Operand first ∷ z
shown e.WantTarget z = s.WantTarget ∷ z
shown e.WantArgument z = s.WantArgument ∷ z
shown (e.Opened first next) z = s.Opened first (token first next) next ∷ z
shown (e.VoidSeen first next at after) z = s.VoidSeen first (token first next) (token at after) ∷ z
shown (e.Named name after) z = s.Named name (token name after) ∷ z
shown (e.NamedOperand name after first) z = s.Named name (token name after) ∷ s.Post name ∷ s.Operand first ∷ z
shown (e.TargetNamed name after) z = s.TargetNamed name (token name after) ∷ z
shown (e.Called first after at next) z = s.Called first (token first after) (token at next) ∷ z
shown (e.Texts first parts) z = s.Texts first parts ∷ z
shown (e.Done found) z = s.Done found ∷ z
shown (e.ConstantOperand at after first) z = s.Done (postfix at after (token at after ∷ [])) ∷ s.Operand first ∷ z
shown (e.Post first) z = s.Post first ∷ z
shown (e.Prefix first next) z = s.Prefix first (token first next) next ∷ z
shown (e.Stepped first next) z = s.Stepped first (token first next) ∷ z
shown (e.Enclosed first next) z = s.Enclosed first (token first next) ∷ z
shown (e.CastType first next) z = s.CastType first (token first next) ∷ z
shown (e.Cast first next parts) z = s.Cast first parts next ∷ z
shown (e.Operand first) z = s.Operand first ∷ z
shown (e.Join first at next bound left) z = s.Join first left (token at next) next bound ∷ z
shown (e.Begun kind first) z = begun kind first z
shown (e.ChoiceThen first at next test) z = s.ChoiceThen first test (token at next) next ∷ z
shown (e.ChoiceElse first next parts) z = s.ChoiceElse first parts next ∷ z
shown (e.Assigns first) z = s.Assigns first ∷ z
shown (e.AssignsTo first next parts) z = s.AssignsTo first parts next ∷ z
shown (e.Commas first start parts) z = s.Commas first start parts ∷ z
shown (e.Indexed first next parts) z = s.Indexed first parts next ∷ z
shown (e.Bracketed first next) z = s.Bracketed first (token first next) next ∷ z
shown (e.ArgumentSeen first) z = s.ArgumentSeen first ∷ z
shown (e.Arguments first parts) z = s.Arguments first parts ∷ z
shown (e.Whole kind start) z = s.Whole kind start ∷ z
shown (e.Rest rule first level parts todo) z = rest rule first level parts todo ∷ z
shown (e.Block first level parts) z = rest p.Block first level parts (w.Items ∷ []) ∷ z
shown (e.Statement first level) z = rest p.Statement first level [] [] ∷ z
shown (e.Sentence first level) z = s.Whole f.Expression first ∷ rest p.Plain first level [] (w.Token c.Semicolon ∷ []) ∷ z
shown (e.StatementName name after level) z =
    s.LabelOrName name (token name after) (record { rule = p.Statement; first = name; level = level; parts = []; todo = [] }) ∷ z
shown (e.LabelOrName name after form) z = s.LabelOrName name (token name after) form ∷ z
shown (e.External first parts) z = s.External first parts ∷ z
shown (e.TopType first start parts) z = s.TopType first parts start ∷ z
shown (e.TopName first start name after parts type) z = s.TopName first parts start type name (token name after) ∷ z
shown (e.Tops parts) z = s.Tops parts ∷ z
shown (e.Accepted file) z = s.Accepted file ∷ z

-- the frames of all entries, from the top on
abbrev pub frames_of : List Entry → Frames
frames_of [] = []
frames_of (x ∷ xs) = shown x (frames_of xs)
