use Rattle.std.proofs.Common.{◌≡◌, ◌++◌, ◌||◌, drop}
use Rattle.c_bodies.specs.Views.{context_of, walk_of, env}
use Rattle.c_grammar.specs.ItemViews.{labels_of}
use Rattle.c_grammar.specs.Views.{words_of}
use Rattle.c_statements.specs.Cases.{label_entries}
use Rattle.c_statements.specs.Labels.{section_cases, section_marks, has_default, labels_faults}
use Rattle.c_bodies.proofs.labels.read_labels.Given as goal

abbrev pub invariant-loop-x : goal.invariant-loop-x
invariant-loop-x l = record {
  same : walk_of l.state ≡ walk_of l.initial.state;
  begun : l.section.begun ≡ l.initial.section.begun;
  heads : l.section.cases ++ section_cases (env l.ctx l.initial.state) (labels_of (words_of l.ctx.words) (drop l.x-index l.nodes))
      ≡ l.initial.section.cases ++ section_cases (env l.ctx l.initial.state) (labels_of (words_of l.ctx.words) l.nodes);
  default : (l.section.default || has_default (labels_of (words_of l.ctx.words) (drop l.x-index l.nodes)))
      ≡ (l.initial.section.default || has_default (labels_of (words_of l.ctx.words) l.nodes));
  marks : l.section.list ++ section_marks (context_of l.ctx) (labels_of (words_of l.ctx.words) (drop l.x-index l.nodes))
      ≡ l.initial.section.list ++ section_marks (context_of l.ctx) (labels_of (words_of l.ctx.words) l.nodes);
  cases : label_entries (env l.ctx l.initial.state) (labels_of (words_of l.ctx.words) (drop l.x-index l.nodes)) l.state.cases
      ≡ label_entries (env l.ctx l.initial.state) (labels_of (words_of l.ctx.words) l.nodes) l.initial.state.cases;
  faults : labels_faults (env l.ctx l.initial.state) l.around.in_switch (labels_of (words_of l.ctx.words) (drop l.x-index l.nodes)) l.state.faults
      ≡ labels_faults (env l.ctx l.initial.state) l.around.in_switch (labels_of (words_of l.ctx.words) l.nodes) l.initial.state.faults;
}
