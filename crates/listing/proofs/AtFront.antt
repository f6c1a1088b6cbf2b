-- Bytes at the front of an output, from what was written or given.
use Prim.Native.Nat.{ℕ, ◌≤◌}
use mathlib.Core.Path.{◌≡◌, sym, ap, ◌∙◌}
use mathlib.Core.List.{List, ◌++◌}
use native.Mathlib.Omega.{arith}
use lib.ListN.{length, take, drop, length-append}
use lib.Seq.{length-take-le, take-append_seam, drop-append_seam}
use lib.IntN.{pos}
use lib.Signed.{mag}
use Rattle.outcomes.specs.Outcome.{BurstOutcome, outcome, given_of}
use Rattle.outcomes.specs.declared.cursor.Cursor.{Cursor}
use Rattle.outcomes.proofs.Writing.{stored-front}
use Rattle.listing.specs.AtFront.{AtFront}
use Rattle.listing.specs.Written.{StoredLine}

-- by a cursor, from the front of the output on
pub front-stored : {before after : Cursor} {output s t : List ℕ} {most : ℕ} (room : ℕ) → t ≡ s → StoredLine most before after s
    → (before.output.now ≡ output) × (before.at ≡ 0) → most ≤ room → room ≤ length output → AtFront room t output after.at after.output.now
front-stored {before} {output = output} {s = s} room e w front l o =
    let long = ap length front.0 in
    record {
      count_is = omega (arith, w.stored.at_is, w.stored.length_most, w.within, front.1, ap length e);
      bytes_are =
          stored-front w.stored front.1 (omega (arith, w.within))
          ∙ ap (λ (o : List ℕ). s ++ drop (length s) o) front.0
          ∙ ap (λ (s : List ℕ). s ++ drop (length s) output) (sym e);
      within = omega (arith, w.within, w.stored.at_is, front.1);
    }

pub front-given : {bytes output after : List ℕ} {count : ℕ} (room : ℕ) → outcome (pos count) after ≡ given_of bytes output → length bytes ≤ room
    → AtFront room bytes output count after
unfolding given_of
front-given room g l =
    let n = ap (λ (b : BurstOutcome). mag b.answer) g in
    record { count_is = n; bytes_are = ap (λ (b : BurstOutcome). b.output) g; within = omega (arith, n) }

-- the bytes are within the output
module _ {room : ℕ} {bytes output after : List ℕ} {count : ℕ} (w : AtFront room bytes output count after) where
  pub front-within : count ≤ length after
  front-within = omega (arith, w.count_is, ap length w.bytes_are, length-append bytes (drop (length bytes) output))

  pub front_length : count ≡ length (take count after)
  front_length = sym (length-take-le count after front-within)

  -- they are the first of it, as many as are counted, and those after them are as they were
  pub front-is : take count after ≡ bytes
  front-is = rw (w.count_is, w.bytes_are) (take-append_seam bytes _)

  pub rest_kept : drop count after ≡ drop count output
  rest_kept = rw (w.count_is, w.bytes_are) (drop-append_seam bytes _)
