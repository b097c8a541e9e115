use Rattle.c_grammar.specs.Opened.{shown_stands}
use Rattle.c_grammar.proofs.node.SyntaxNode.first.Goals as goal

pub returns : goal.returns
returns c = rw (← c.self.view_is) (shown_stands c.self.inside.top c.self.inside.base c.self.inside.is_name c.self.inside.first c.self.inside.after
    c.self.inside.parts).0
