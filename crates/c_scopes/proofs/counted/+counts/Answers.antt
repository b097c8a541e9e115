use Rattle.std.proofs.Common.{ap, sym, map, true, false, ◌∙◌}
use Rattle.c_grammar.specs.Parts.{part_of, sum_counted}
use Rattle.c_grammar.specs.Views.{words_of}
use Rattle.c_statements.specs.Measures.{bounded}
use Rattle.c_scopes.proofs.Counting.{inner_counted, inner_most}
use Rattle.c_scopes.proofs.counted.+counts.Goals as goal

pub innermost_counts-returns-then-is_full-clause-counted : goal.innermost_counts-returns-then-is_full-clause-counted
innermost_counts-returns-then-is_full-clause-counted t c =
    c.own_count-counted.ensures (sum_counted (map (part_of (words_of c.args.words.now)) c.args.node.parts.now)) c.counts_in-within.ensures.counted ∙
    ap bounded (sym (inner_counted (words_of c.args.words.now) c.args.node.base c.args.node.is_name c.args.node.first c.args.node.after
    c.args.node.parts.now (sym c.is_variable.ensures ∙ c.if-is_variable.false)))

pub innermost_counts-returns-else-is_full-clause-counted : goal.innermost_counts-returns-else-is_full-clause-counted
innermost_counts-returns-else-is_full-clause-counted t c =
    c.own_count-counted.ensures (sum_counted (map (part_of (words_of c.args.words.now)) c.args.node.parts.now)) c.counts_in-within.ensures.counted ∙
    ap bounded (sym (inner_counted (words_of c.args.words.now) c.args.node.base c.args.node.is_name c.args.node.first c.args.node.after
    c.args.node.parts.now (sym c.is_variable.ensures ∙ c.if-is_variable.false)))

pub innermost_counts-returns-then-is_full-clause-most : goal.innermost_counts-returns-then-is_full-clause-most
innermost_counts-returns-then-is_full-clause-most t c =
    c.own_count-counted.ensures (sum_counted (map (part_of (words_of c.args.words.now)) c.args.node.parts.now)) c.counts_in-within.ensures.counted ∙
    ap bounded (sym (inner_counted (words_of c.args.words.now) c.args.node.base c.args.node.is_name c.args.node.first c.args.node.after
    c.args.node.parts.now (sym c.is_variable.ensures ∙ c.if-is_variable.false)))
    ∙ ap bounded (sym (inner_most (words_of c.args.words.now) c.args.node.base c.args.node.is_name c.args.node.first c.args.node.after
    c.args.node.parts.now true (sym c.is_variable.ensures ∙ c.if-is_variable.false) (sym c.is_full.ensures ∙ c.if-is_full.true)))

pub innermost_counts-returns-else-is_full-clause-most : goal.innermost_counts-returns-else-is_full-clause-most
innermost_counts-returns-else-is_full-clause-most t c =
    c.counts_in-within.ensures.most ∙ ap bounded
    (sym (inner_most (words_of c.args.words.now) c.args.node.base c.args.node.is_name c.args.node.first c.args.node.after c.args.node.parts.now
    false (sym c.is_variable.ensures ∙ c.if-is_variable.false) (sym c.is_full.ensures ∙ c.if-is_full.false)))
