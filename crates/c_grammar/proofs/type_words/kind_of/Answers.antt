use Rattle.std.proofs.Common.{ap, map, ◌∙◌}
use Rattle.c_grammar.specs.declared.syntax.Syntax.{out-Syntax}
use Rattle.c_grammar.specs.Levels.{keeps_parts}
use Rattle.c_grammar.specs.Views.{words_of}
use Rattle.c_grammar.proofs.Layers.{words_in, no_words}
use Rattle.c_grammar.proofs.type_words.kind_of.Goals as goal

pub returns-in-NumberType : goal.returns-in-NumberType
returns-in-NumberType c =
    rw (
      words_in (words_of c.args.words.now) c.args.x.now,
      c.rule.ensures,
      c.in-NumberType.is,
      c.parts.ensures (ap keeps_parts (c.rule.ensures ∙ c.in-NumberType.is)),
    )
    c.kind_by.ensures

pub returns-in_default : goal.returns-in_default
returns-in_default c =
    rw (
      words_in (words_of c.args.words.now) c.args.x.now,
      c.rule.ensures,
      no_words c.rule.result (map (λ y. (out-Syntax y).first) (out-Syntax c.args.x.now).parts) c.in_default.not-NumberType,
    )
    c.kind_by-in_default.ensures
