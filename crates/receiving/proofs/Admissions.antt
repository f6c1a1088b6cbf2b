-- The calls at the edge of each refusal: each is computed.
use mathlib.Core.Path.{refl}
use Rattle.bits.specs.Sums.{sum_below}
use Rattle.receiving.specs.Readings.{digit_of_level, digit_of, fault_in, faults}
use Rattle.receiving.specs.Receive.{admit_of}
use Rattle.receiving.specs.Calls.{number_in, readable, taken}
use Rattle.receiving.specs.Admissions.{Admissions}

pub admissions : Admissions
unfolding sum_below digit_of_level digit_of fault_in faults admit_of number_in readable taken
admissions =
    record {
      last_byte = refl;
      last_readings = refl;
      one_more = refl;
      other_number = refl;
      seventh_stream = refl;
      sixth_reading = refl;
      last_yields = refl;
      one_more_refused = refl;
      own_refusal = refl;
      before_own_refusal = refl;
      number_first = refl;
    }
