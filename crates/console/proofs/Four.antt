-- The table of the four-section feeder, by computation. Assumes nothing.
use Rattle.std.proofs.Common.{refl}
use Rattle.std.specs.Fmt.{digits}
use Rattle.archive.proofs.Four.{four}
use Rattle.feeder.specs.Tree.{climb, ascend, below, head, drains, near}
use Rattle.feeder.specs.Feeder.{up, cut}
use Rattle.feeder.specs.Totals.{join_over, total}
use Rattle.feeder.specs.Flows.{held}
use Rattle.feeder.specs.Weighed.{weighted_sum, weight_below, shielded}
use Rattle.console.specs.Example.{FourSections}

pub four_sections : FourSections
unfolding digits climb ascend below head drains near up cut join_over total held weighted_sum weight_below shielded
four_sections = record {
  bytes = four;
  answers = (
    refl,
    refl,
    (
      refl,
      refl,
      (
        refl,
        refl,
        (
          refl,
          refl,
          (
            refl,
            refl,
            (
              refl,
              refl,
              (refl, refl, (refl, refl, (refl, refl, (refl, refl, (refl, refl, (refl, refl, tt)))))),
            ),
          ),
        ),
      ),
    ),
  );
}
