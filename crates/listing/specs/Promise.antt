-- The promise of `list`: document 01, "The listing", whole for every input.
-- Assumes nothing.
use Rattle.std.specs.Prelude.{ℕ, ◌≡◌, List, take}
use Rattle.outcomes.specs.Listing.{listing}
use Rattle.listing.specs.AtFront.{AtFront}

pub record Lists (input output : List ℕ) (count : ℕ) (after : List ℕ) : Type 0 where
  -- the listing, for which the output, of 458,784 bytes, always has room
  pub listed : AtFront 458784 (listing input) output count after
  -- what follows the first 34,819 bytes of an input does not change its listing, so nobody needs to read further
  pub by_the_front : (whole : List ℕ) → input ≡ take 34819 whole → listing whole ≡ listing input
