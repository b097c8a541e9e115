use Rattle.c_parse_step.proofs.Entries.{takes_no_value}
use Rattle.c_parse_step.proofs.reduce.reduce.Goals as goal

pub returns-in_default : goal.returns-in_default
returns-in_default c =
    takes_no_value c.args.entry c.args.stack.now c.args.found c.args.class c.args.at
    c.in_default.not-Post c.in_default.not-Prefix c.in_default.not-Stepped c.in_default.not-Enclosed c.in_default.not-CastType
    c.in_default.not-Cast c.in_default.not-Operand c.in_default.not-Join c.in_default.not-Begun c.in_default.not-ChoiceThen
    c.in_default.not-ChoiceElse c.in_default.not-Assigns c.in_default.not-AssignsTo c.in_default.not-Commas c.in_default.not-Indexed
    c.in_default.not-Bracketed c.in_default.not-ArgumentSeen c.in_default.not-Arguments c.in_default.not-Whole c.in_default.not-Rest
    c.in_default.not-Block c.in_default.not-Statement c.in_default.not-Sentence c.in_default.not-TopType c.in_default.not-Tops
