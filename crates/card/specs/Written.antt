-- The written form of a card: document 02, R-1 ("Write an accepted card out as bytes. A field equal to its default is left out, so the written
-- form of a card is one only"), as bytes that document 01, "The card", has (`Layout`).
-- A `Card` value that was never read can hold numbers that no card states. They are held to the largest that its tables have places for, so that
-- every value has a written form; of an accepted card none is changed.
-- Assumes nothing.
use Rattle.std.specs.Prelude.{ℕ, ◌+◌, ◌-◌, ◌*◌, min, cond, List, map, get_or, eqb}
use Rattle.bits.specs.Sums.{up_to}
use Rattle.code.specs.Limits.{most_checks, check_start}
use Rattle.code.specs.declared.Card.{Card}
use Rattle.card.specs.Fields.{Head, Stream, Fields}
use Rattle.card.specs.Layout.{layout}

-- ---- the head

-- a field's bit of byte 0: "a field equal to its default is left out"
unfoldable pub stated : ℕ → ℕ → ℕ
stated default v = cond (eqb v default) 0 1

-- "Bit 0: k stands, else k is 1. Bit 1: n stands, else n is 2"
abbrev pub head_of : ℕ → ℕ → ℕ → ℕ → Head
head_of number k n m = record { k_stands = stated 1 k; n_stands = stated 2 n; number = number; k = k; n = n; m = m }

-- ---- the tables

-- the masks of p parity streams, from a place of a table on
unfoldable pub masks_at : List ℕ → ℕ → ℕ → List ℕ
masks_at table start p = up_to p (λ j. get_or table (start + j) 0)

-- the generators of k information streams
unfoldable pub rows_of : List ℕ → ℕ → ℕ → List (List ℕ)
rows_of generators k p = map (λ i. masks_at generators (i * 8) p) (up_to k (λ i. i))

-- the first J checks of information stream i
unfoldable pub checks_of : List ℕ → ℕ → ℕ → ℕ → List (List ℕ)
checks_of checks i J p = map (λ q. masks_at checks (check_start i q) p) (up_to J (λ q. q))

-- information stream i with J checks
unfoldable pub stream_of : List ℕ → ℕ → ℕ → ℕ → Stream
stream_of checks i J p = record { count = J; checks = checks_of checks i J p }

-- k information streams, each with at most `most_checks`
unfoldable pub streams_of : List ℕ → List ℕ → ℕ → ℕ → List Stream
streams_of counts checks k p = map (λ i. stream_of checks i (min (get_or counts i 0) most_checks) p) (up_to k (λ i. i))

-- ---- the card

-- what a card with these numbers and tables states, its defaults not
abbrev pub fields_with : (number k p m : ℕ) (generators counts checks : List ℕ) → Fields
fields_with number k p m generators counts checks =
    record { head = head_of number k (k + p) m; rows = rows_of generators k p; streams = streams_of counts checks k p }

abbrev pub k_of : Card → ℕ
k_of c = min c.k 4

abbrev pub p_of : Card → ℕ
p_of c = min c.p (8 - k_of c)

unfoldable pub fields_of : Card → Fields
fields_of c = fields_with c.number (k_of c) (p_of c) (min c.m 31) c.generators c.counts c.checks

unfoldable pub written : Card → List ℕ
written c = layout (fields_of c)
