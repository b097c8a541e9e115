use Rattle.std.proofs.Common.{◌≡◌, ℕ, List}
use Rattle.std.specs.Vec.Iter.{into_iter_items}
use Rattle.flat_names.specs.Gathered.{AreGathered}
use Rattle.lower_laws.specs.Lowering.{tops_gotos}
use Rattle.goto_lowering.proofs.Tops.{Awaits}
use Rattle.goto_lowering.proofs.program.lower_tops.Given as goal

abbrev pub invariant-loop-top : goal.invariant-loop-top
invariant-loop-top l = record {
  used : l.names.used.file ≡ l.initial.names.used.file;
  taken : l.names.taken.file ≡ l.initial.names.taken.file;
  tops : (all file : List (List ℕ)) → AreGathered all file l.initial.names → Awaits all file l.fn.tops l.out.tops (into_iter_items l.top-iterator);
  gotos : l.out.gotos ≡ tops_gotos l.out.tops;
}
