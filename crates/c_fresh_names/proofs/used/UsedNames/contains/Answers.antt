use Rattle.std.proofs.Common.{Bool, ◌||◌, sym, ap, ◌∙◌}
use Rattle.c_copies.specs.Names.{has_name}
use Rattle.c_fresh_names.proofs.NameSets.{in_either}
use Rattle.c_fresh_names.proofs.used.UsedNames.contains.Goals as goal

pub returns-then-contains : goal.returns-then-contains
returns-then-contains c =
    let file = c.args.self.now.file in
    let own = c.args.self.now.own in
    let n = c.args.name.now in
    c.if-contains.true ∙ sym (in_either file own n ∙ ap (λ (b : Bool). b || has_name own n) (sym c.contains.ensures ∙ c.if-contains.true))

pub returns-else-contains : goal.returns-else-contains
returns-else-contains c =
    let file = c.args.self.now.file in
    let own = c.args.self.now.own in
    let n = c.args.name.now in
    c.contains-else-contains.ensures ∙ sym (in_either file own n ∙ ap (λ (b : Bool). b || has_name own n) (sym c.contains.ensures ∙ c.if-contains.false))
