-- The cards of document 01, "Cards on the bench", as what they state, and two larger ones, Six and Wide, for rows at an edge that small cards don't
-- reach. `card`, `Bench`, has the bytes of all but Six.
-- The document's four have one parity stream. It gives Q, R and T no card numbers; they have those after P's.
-- Assumes nothing.
use Rattle.std.specs.Prelude.{ℕ, ◌+◌, ◌-◌, ◌*◌, ◌^◌, List, ◌∷◌, ◌++◌, replicate}
use Rattle.code.specs.Limits.{check_stride, check_words}
use Rattle.code.specs.declared.Card.{Card}

-- s a, of parity stream 1: bit a of a check's mask
abbrev pub s : ℕ → ℕ
s a = 2 ^ a

-- a check over parity stream 1 alone, in the table's stride
abbrev check : ℕ → List ℕ
check v = v ∷ replicate 7 0

-- masks over parity streams 1 to 3, in the table's stride: those of a check, or the generators of an information stream
abbrev over : ℕ → ℕ → ℕ → List ℕ
over u v w = u ∷ v ∷ w ∷ replicate 5 0

-- what is left of so many places after the masks of so many checks
abbrev unstated : ℕ → ℕ → List ℕ
unstated places checks = replicate (places - checks * 8) 0

-- "Card P": k 1, n 2, m 1, generator 3 (terms 0, 1), checks s0, s1
abbrev pub P : Card
P =
    record {
      number = 7;
      k = 1;
      p = 1;
      m = 1;
      generators = 3 ∷ replicate 31 0;
      counts = 2 ∷ replicate 3 0;
      checks = check (s 0) ++ check (s 1) ++ unstated check_words 2;
    }

-- "Q: k 1, n 2, m 3, generator 11 (terms 0, 1, 3), checks s0, s1, s3"
abbrev pub Q : Card
Q =
    record {
      number = 8;
      k = 1;
      p = 1;
      m = 3;
      generators = 11 ∷ replicate 31 0;
      counts = 3 ∷ replicate 3 0;
      checks = check (s 0) ++ check (s 1) ++ check (s 3) ++ unstated check_words 3;
    }

-- "R: m 5, generator 57 (terms 0, 3, 4, 5), checks s0, s3, s4, and s1 + s5"
abbrev pub R : Card
R =
    record {
      number = 9;
      k = 1;
      p = 1;
      m = 5;
      generators = 57 ∷ replicate 31 0;
      counts = 4 ∷ replicate 3 0;
      checks = check (s 0) ++ check (s 3) ++ check (s 4) ++ check (s 1 + s 5) ++ unstated check_words 4;
    }

-- "T: k 2, n 3, m 2, generators 3 and 5, checks s0, s1 for stream 1 and s0, s2 for stream 2"
abbrev pub T : Card
T =
    record {
      number = 10;
      k = 2;
      p = 1;
      m = 2;
      generators = 3 ∷ replicate 7 0 ++ 5 ∷ replicate 23 0;
      counts = 2 ∷ 2 ∷ replicate 2 0;
      checks = check (s 0) ++ check (s 1) ++ unstated check_stride 2 ++ check (s 0) ++ check (s 2) ++ unstated (check_stride * 3) 2;
    }

-- the standard card with six checks: document 02, R-5, its terms 0, 1, 3, 7, 12, 20, m the last of them
abbrev pub Six : Card
Six =
    record {
      number = 6;
      k = 1;
      p = 1;
      m = 20;
      generators = (s 0 + s 1 + s 3 + s 7 + s 12 + s 20) ∷ replicate 31 0;
      counts = 6 ∷ replicate 3 0;
      checks = check (s 0) ++ check (s 1) ++ check (s 3) ++ check (s 7) ++ check (s 12) ++ check (s 20) ++ unstated check_words 6;
    }

-- ours, found by a search: k 3, n 6, m 2, and a card number above 15. J is 4, 2 and 3; the checks of stream 1 are on all three parity streams, and the
-- last one of stream 3 is s1 of parity stream 1 and s2 of parity stream 3
abbrev pub Wide : Card
Wide =
    record {
      number = 200;
      k = 3;
      p = 3;
      m = 2;
      generators = over 3 2 6 ++ over 4 0 7 ++ over 0 7 4 ++ replicate 8 0;
      counts = 4 ∷ 2 ∷ 3 ∷ replicate 1 0;
      checks =
          over (s 0) 0 0 ++ over (s 1) 0 0 ++ over 0 (s 1) 0 ++ over 0 0 (s 1) ++ unstated check_stride 4
          ++ over 0 0 (s 0) ++ over (s 2) 0 0 ++ unstated check_stride 2
          ++ over 0 (s 0) 0 ++ over 0 (s 2) 0 ++ over (s 1) 0 (s 2) ++ unstated (check_stride * 2) 3;
    }
