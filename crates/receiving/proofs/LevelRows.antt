-- The rows of levels: each is computed.
use mathlib.Core.Path.{refl}
use lib.Ieee.{of_bits}
use Rattle.bits.specs.Sums.{sum_below}
use Rattle.bits.specs.Digits.{from_digits}
use Rattle.receiving.specs.Readings.{in_band, digit_of_level, digit_of, digit_in, mark_in, fault_in, faults, frame_read, erased_read, read_frame_of}
use Rattle.receiving.specs.LevelRows.{LevelRows}

pub level-rows : LevelRows
unfolding sum_below from_digits of_bits in_band digit_of_level digit_of digit_in mark_in fault_in faults frame_read erased_read read_frame_of
level-rows =
    record {
      quarters_yield = refl;
      quarters_in_a_frame = refl;
      near_zero_yield = refl;
      far_out_yield = refl;
      erased_yields = refl;
    }
