use Rattle.std.proofs.Common.{ap, ◌∙◌}
use Rattle.c_grammar.specs.declared.syntax.Syntax.{out-Syntax}
use Rattle.c_grammar.specs.Items.{Block, Braces, From, IfElse}
use Rattle.c_grammar.specs.ItemViews.{body_of, plain_of}
use Rattle.c_grammar.specs.Parts.{term_of}
use Rattle.c_grammar.specs.Views.{words_of}
use Rattle.c_statements.specs.Nodes.{items_of}
use Rattle.c_comments.specs.Notes.{plain_place, statement_place}
use Rattle.c_comments.proofs.StepPlaces.{leads_on, at_statement}
use Rattle.c_comments.proofs.statements.plain_step.Goals as goal

pub returns-in-IfElse-clause-leads : goal.returns-in-IfElse-clause-leads
returns-in-IfElse-clause-leads c =
    let word = words_of c.args.words.now in
    let x = out-Syntax c.args.x.now in
    let statement = IfElse (term_of word c.in-IfElse.field-0.now) (body_of word c.in-IfElse.b.now) (body_of word c.in-IfElse.c.now) in
    leads_on word (plain_place (plain_of word c.args.x.now)) (statement_place c.first-first.result statement) c.args.token c.branch_step.result
    (at_statement (plain_of word c.args.x.now) c.first-first.result x.after statement c.args.token
    (c.in-IfElse.ensures.form ∙ ap (λ n. From n x.after statement) c.first-first.ensures) c.if-token-first.false) c.branch_step.ensures.leads

pub returns-in-Block-clause-leads : goal.returns-in-Block-clause-leads
returns-in-Block-clause-leads c =
    let word = words_of c.args.words.now in
    let x = out-Syntax c.args.x.now in
    let statement = Block (Braces c.in-Block.open c.in-Block.after (items_of word c.in-Block.items.now)) in
    leads_on word (plain_place (plain_of word c.args.x.now)) (statement_place c.first-first.result statement) c.args.token c.block_step.result
    (at_statement (plain_of word c.args.x.now) c.first-first.result x.after statement c.args.token
    (c.in-Block.ensures.form ∙ ap (λ n. From n x.after statement) c.first-first.ensures) c.if-token-first.false) (c.block_step.ensures.leads word)
