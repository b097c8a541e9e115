-- Kinds that agree stay so where one body of a program changes.
use Rattle.std.proofs.Common.{eqb, sym, subst}
use Rattle.c_tree.specs.Trees.{trees_of}
use Rattle.c_tree.specs.Everywhere.{Everywhere}
use Rattle.plain_laws.specs.Kinded.{KindedItem}
use Rattle.plain_laws.proofs.KindsMoved.{kinds_moved}
use Rattle.whole_laws.specs.WholeKindsLaws.{KindLaws}
use Rattle.whole_laws.proofs.Simplified.{kinds_simplified}
use Rattle.whole_laws.proofs.Dropped.{kinds_dropped}
use Rattle.whole_laws.proofs.WholeKindsPrograms.{program_kinds}
use Rattle.whole_laws.proofs.Converted.{program_converted}

pub kind_laws : KindLaws
kind_laws = record {
  converted = program_converted;
  moved = program_kinds (λ p ss a b m h. kinds_moved p ss m.moved h);
  simplified = program_kinds (λ p ss a b m h. kinds_simplified p ss m.simplified h);
  dropped = program_kinds (λ p ss a b m h. subst (Everywhere (KindedItem p ss)) (sym m.removed) (kinds_dropped p ss (eqb m.label) (trees_of a) h));
}
