use Rattle.std.proofs.Common.{subst, sym}
use Rattle.c_grammar.specs.Views.{words_of}
use Rattle.c_comments.specs.Steps.{Behind, Leads, rest_place}
use Rattle.c_comments.proofs.lists.pass.Goals as goal

pub returns-in-Items-clause-leads : goal.returns-in-Items-clause-leads
returns-in-Items-clause-leads c = let word = words_of c.args.words.now in
    subst (λ r. Leads word (rest_place word r) c.args.token c.pass_items.result.step) (sym c.in-Items.is) c.pass_items.ensures.leads

pub returns-in-Members-clause-rest : goal.returns-in-Members-clause-rest
returns-in-Members-clause-rest c =
    let word = words_of c.args.words.now in subst (λ r. Behind (rest_place word c.pass_members.result.rest) (rest_place word r) c.args.token)
    (sym c.in-Members.is) c.pass_members.ensures.rest

pub returns-in-Members-clause-leads : goal.returns-in-Members-clause-leads
returns-in-Members-clause-leads c = let word = words_of c.args.words.now in
    subst (λ r. Leads word (rest_place word r) c.args.token c.pass_members.result.step) (sym c.in-Members.is) c.pass_members.ensures.leads
