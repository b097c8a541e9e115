use Rattle.std.proofs.Common.{cond, length, map, codes, bytes_eq, sym, ap, ◌∙◌}
use Rattle.std.proofs.lemmas.Bool.{ne_eqb}
use Rattle.std.proofs.lemmas.List.{length-map}
use Rattle.c_grammar.specs.Views.{words_of}
use Rattle.c_grammar.specs.Parts.{part_of, term_at, two_part_label}
use Rattle.c_grammar.specs.TokenClasses.{keyword_class}
use Rattle.c_grammar.specs.Items.{Case}
use Rattle.c_grammar.proofs.LabelWords.{other_word}
use Rattle.c_grammar.proofs.statements.label_by.Goals as goal

pub returns : goal.returns
returns c =
    let f = c.args.first in
    let a = c.args.after in
    let word = words_of c.args.words.now in
    let ps = map (part_of word) c.args.parts.now in
    let other = ap (bytes_eq (codes "default")) (sym c.get.ensures) ∙ sym c.is_default.ensures ∙ c.if-is_default.false in
    ap (λ y. cond y (Case f a (term_at ps 1)) (two_part_label (keyword_class (word f)) f a))
    (ne_eqb (length ps) 3 (λ h. c.if-parts-eq3.false (sym (length-map c.args.parts.now (part_of word)) ∙ h))) ∙ other_word f a (word f) other
