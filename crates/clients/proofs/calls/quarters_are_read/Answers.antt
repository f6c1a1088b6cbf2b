use lib.Ieee.{of_bits, neg, div}
use Rattle.bits.specs.Sums.{sum_below}
use Rattle.bits.specs.Digits.{from_digits}
use Rattle.receiving.specs.Readings.{in_band, digit_of_level, digit_of, digit_in, mark_in, fault_in, faults, frame_read, erased_read, read_frame_of}
use Rattle.clients.proofs.calls.quarters_are_read.Goals as goal

pub returns : goal.returns
unfolding sum_below from_digits of_bits neg div in_band digit_of_level digit_of digit_in mark_in fault_in faults frame_read erased_read read_frame_of
returns c = c.read_frame.ensures
