use Rattle.std.proofs.Common.{drop, map}
use Rattle.step_interp.specs.Files.{HasFile, HasPlaces}
use Rattle.step_interp.proofs.files.store_at_start.Given as goal

abbrev pub invariant-loop-top : goal.invariant-loop-top
invariant-loop-top l = record {
  places : HasPlaces (map (λ n. n.now) l.names.items) l.places;
  file : HasFile l.program.tops (drop l.top-index l.program.tops) (map (λ n. n.now) l.names.items) l.file;
}
