-- The listing of at most 32,768 frames has at most 458,784 bytes.
use Prim.Native.Nat.{ℕ, ◌+◌, ◌≤◌}
use mathlib.Core.List.{List, ◌++◌}
use native.Mathlib.Omega.{arith}
use lib.ListN.{length, length-append}
use Rattle.code.specs.Guarantees.{Guarantees}
use Rattle.code.specs.declared.Card.{Card}
use Rattle.outcomes.specs.Listing.{card_line, frame_lines, line_of_end, listing_of}
use Rattle.listing.proofs.LineParts.{card-length, lines-length, end-length}

module _ (c : Card) (G : Guarantees c) where
  pub card-room : length (card_line c.number c.k (c.k + c.p) c.m) ≤ 22
  card-room =
      card-length c.number c.k (c.k + c.p) c.m
      (omega (arith, G.number_most)) (omega (arith, G.k_most)) (omega (arith, G.n_most)) (omega (arith, G.m_most))

  pub listing-room : (frames : List ℕ) → length frames ≤ 32768 → length (listing_of c frames) ≤ 458784
  unfolding listing_of
  listing-room frames few =
      omega (
        arith,
        length-append (card_line c.number c.k (c.k + c.p) c.m) (frame_lines c.k 0 frames ++ line_of_end (length frames)),
        length-append (frame_lines c.k 0 frames) (line_of_end (length frames)),
        card-room,
        lines-length c.k 0 frames G.k_most (omega arith),
        end-length (length frames) (omega arith),
      )
