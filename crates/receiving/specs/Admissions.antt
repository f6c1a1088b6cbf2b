-- Calls at the edge of each refusal, for a card with six streams and a number above 15, which pin when a frame is taken: document 01, "Refused because of the
-- state" and "Orders" ("receiving 14, 15, then 11 or 12").
-- Assumes nothing.
use Rattle.std.specs.Prelude.{◌≡◌, true, false, List, ◌++◌, replicate}
use Rattle.std.specs.Float.{nan}
use Rattle.code.specs.Bench.{Wide}
use Rattle.receiving.specs.Readings.{yields, refuses}
use Rattle.receiving.specs.Receive.{admit_of}
use Rattle.receiving.specs.Calls.{byte, readings, taken}
use Rattle.receiving.specs.declared.Reading.{Reading}
use Rattle.receiving.specs.declared.Reading.TheVariants.{Level, Erased}

-- six erased digits, and then no numbers; and five
abbrev pub six_readable : List Reading
six_readable = replicate 6 Erased ++ replicate 2 (Level nan)

abbrev pub five_readable : List Reading
five_readable = replicate 5 Erased ++ replicate 3 (Level nan)

pub record Admissions : Type 0 where
  -- Wide's last frame that there may be, with every digit of its six streams, and as readings; then 15
  pub last_byte : taken Wide 1048575 (byte 200 63) ≡ true
  pub last_readings : taken Wide 1048575 (readings 200 six_readable) ≡ true
  pub one_more : taken Wide 1048576 (byte 200 63) ≡ false
  -- 14 under another number; 11 with the digit of a seventh stream; 12 where the sixth reading is not a number
  pub other_number : taken Wide 0 (byte 199 63) ≡ false
  pub seventh_stream : taken Wide 0 (byte 200 64) ≡ false
  pub sixth_reading : taken Wide 0 (readings 200 five_readable) ≡ false
  -- the same by number: a frame that yields these digits, or is itself refused, under the session's number 200
  pub last_yields : admit_of 200 1048575 200 (yields 63 0) ≡ yields 63 0
  pub one_more_refused : admit_of 200 1048576 200 (yields 63 0) ≡ refuses 15
  pub own_refusal : admit_of 200 1048575 200 (refuses 11) ≡ refuses 11
  -- "14, 15, then 11 or 12"
  pub before_own_refusal : admit_of 200 1048576 200 (refuses 11) ≡ refuses 15
  pub number_first : admit_of 200 1048576 199 (refuses 11) ≡ refuses 14
