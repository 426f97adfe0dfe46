-- The tables tell each slip apart from the right definition, and the source documents' grammars come out as printed there.
-- Assumes nothing.
use mathlib.Core.Path.{refl}
use Rattle.examples.specs.Apart.{ToldApart, all_sequences, all_visits, sets_up_to, circular_by}
use Rattle.examples.proofs.Opened.{opened}

pub apart : ToldApart
unfolding opened all_sequences all_visits sets_up_to circular_by
apart =
    record {
      chain_of_two_planned = refl;
      chain_of_two_order = refl;
      chain_of_two_visits = refl;
      chain_of_three_planned = refl;
      chain_of_three_order = refl;
      chain_of_three_visits = refl;
      order_elsewhere_planned = refl;
      order_elsewhere_order = refl;
      order_elsewhere_visits = refl;
      handed_down_planned = refl;
      handed_down_order = refl;
      handed_down_visits = refl;
      from_the_end_planned = refl;
      from_the_end_order = refl;
      from_the_end_visits = refl;
      written_later_planned = refl;
      written_later_order = refl;
      written_later_visits = refl;
      nothing_up_planned = refl;
      nothing_up_order = refl;
      nothing_up_visits = refl;
      figure_four = refl;
      not_ordered = refl;
      successor_refused = refl;
      successor_by000 = refl;
      heirs_planned = refl;
      heirs_by000 = refl;
    }
