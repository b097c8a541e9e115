use Rattle.std.proofs.Common.{sym, ap, ◌∙◌}
use Rattle.c_grammar.specs.Levels.{keeps_parts}
use Rattle.c_grammar.specs.Opened.{shown_is_of, kept_parts}
use Rattle.c_grammar.proofs.node.SyntaxNode.into_parts.Goals as goal

pub returns : goal.returns
returns c = rw (← c.self.view_is) (λ h. kept_parts c.self.inside.top c.self.inside.base c.self.inside.is_name c.self.inside.first c.self.inside.after
    c.self.inside.parts c.self.invariant
    (sym (ap keeps_parts (shown_is_of c.self.inside.top c.self.inside.base c.self.inside.is_name c.self.inside.first c.self.inside.after
    c.self.inside.parts c.self.invariant)) ∙ h))
