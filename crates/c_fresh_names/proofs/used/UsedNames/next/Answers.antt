use Rattle.std.proofs.Common.{◌≡◌, ◌≤◌, Bool, ◌||◌, true, sym, ap, ◌∙◌, arith}
use Rattle.c_copies.specs.Names.{has_name, with_names}
use Rattle.c_fresh_names.proofs.NameSets.{in_either}
use Rattle.c_fresh_names.proofs.RunLemmas.{all_in_file, one_from, fewer_from}
use Rattle.c_fresh_names.proofs.used.UsedNames.next.Goals as goal

pub returns-then-contains-clause-used : goal.returns-then-contains-clause-used
returns-then-contains-clause-used c =
    let file = c.args.self.now.file in
    let own = c.args.self.now.own in
    let less : c.min.result ≤ c.past.result = omega (arith, c.min.ensures) in
    fewer_from (with_names file own) c.args.base.now c.args.number _ c.past.result less
    (all_in_file file own c.args.base.now c.args.number c.past.result c.past.ensures.used)

pub returns-then-contains-2-clause-used : goal.returns-then-contains-2-clause-used
returns-then-contains-2-clause-used c =
    let file = c.args.self.now.file in
    let own = c.args.self.now.own in
    let n = c.args.name.now in
    let there : has_name (with_names file own) n ≡ true =
    in_either file own n ∙ ap (λ (b : Bool). b || has_name own n) (sym c.contains.ensures ∙ c.if-contains.false) ∙
    sym c.contains-else-contains.ensures ∙ c.if-contains-2.true in
    one_from (with_names file own) c.args.base.now c.args.number (ap (has_name (with_names file own)) (sym c.requires.name) ∙ there)

pub returns-else-contains-2-clause-free : goal.returns-else-contains-2-clause-free
returns-else-contains-2-clause-free c =
    let file = c.args.self.now.file in
    let own = c.args.self.now.own in
    let n = c.args.name.now in
    in_either file own n ∙ ap (λ (b : Bool). b || has_name own n) (sym c.contains.ensures ∙ c.if-contains.false) ∙
    sym c.contains-else-contains.ensures ∙ c.if-contains-2.false
