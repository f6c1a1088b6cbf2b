-- What the written form of card P is: document 02, R-1 and R-4.
-- Assumes nothing.
use Rattle.std.specs.Prelude.{◌≤◌, ◌≡◌, length}
use Rattle.code.specs.Bench.{P}
use Rattle.card.specs.Bench.{card_p}
use Rattle.card.specs.Fields.{Fields}
use Rattle.card.specs.Layout.{longest_card}
use Rattle.card.specs.Written.{written}
use Rattle.card.specs.declared.CardRule.TheVariants.{Present}
use Rattle.writer.specs.Claims.{ReadsAs, States}

pub record FormOfP : Type 0 where
  pub reads_back : ReadsAs (written P) P
  pub states_it : (f : Fields) × States Present P (written P) f
  pub one_only : written P ≡ card_p
  pub length_most : length (written P) ≤ longest_card
  pub shortest : length (written P) ≤ 20
  pub shorter_than_stored : length (written P) ≤ 22
