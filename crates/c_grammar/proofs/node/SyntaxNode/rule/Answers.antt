use Rattle.c_grammar.specs.Opened.{shown_is_of}
use Rattle.c_grammar.proofs.node.SyntaxNode.rule.Goals as goal

pub returns : goal.returns
returns c = rw (← c.self.view_is) (shown_is_of c.self.inside.top c.self.inside.base c.self.inside.is_name c.self.inside.first c.self.inside.after
    c.self.inside.parts c.self.invariant)
