-- The bytes of the cards on the bench: document 01, "Cards on the bench" and "The card".
-- P is given there in hexadecimal. Q, R and T are written here from its words, with the checks as parameters, each as the sum of its
-- syndromes: R has s 0, s 3, s 4, and s 1 + s 5. Wide and Many are ours. What they state is in `code`, `Bench`, but for Many.
-- Assumes nothing.
use Rattle.std.specs.Prelude.{ℕ, ◌*◌, List, [], ◌∷◌, ◌++◌, length, take, drop}

-- a mask below 256 in its four bytes: "Integers are little-endian"
abbrev pub mask : ℕ → List ℕ
mask v = v ∷ 0 ∷ 0 ∷ 0 ∷ []

-- checks over parity stream 1 alone: of each the map byte and the mask
unfoldable pub checks : List ℕ → List ℕ
checks [] = []
checks (v ∷ vs) = 1 ∷ mask v ++ checks vs

-- what is stated for an information stream: J and its checks
abbrev pub stream : List ℕ → List ℕ
stream vs = length vs ∷ checks vs

-- "Card P, hexadecimal: 00 07 01 01 00 03 00 00 00 02 01 01 00 00 00 01 02 00 00 00"
abbrev pub card_p : List ℕ
card_p = 0 ∷ 7 ∷ 1 ∷ 1 ∷ 0 ∷ 3 ∷ 0 ∷ 0 ∷ 0 ∷ 2 ∷ 1 ∷ 1 ∷ 0 ∷ 0 ∷ 0 ∷ 1 ∷ 2 ∷ 0 ∷ 0 ∷ 0 ∷ []

-- P as it may be stored since before R-4: k stated as 1, n as 2, and both
abbrev pub k_stated_p : List ℕ
k_stated_p = 1 ∷ 7 ∷ 1 ∷ drop 2 card_p

abbrev pub n_stated_p : List ℕ
n_stated_p = 2 ∷ 7 ∷ 2 ∷ drop 2 card_p

abbrev pub stored_p : List ℕ
stored_p = 3 ∷ 7 ∷ 1 ∷ 2 ∷ drop 2 card_p

-- "Q: k 1, n 2, m 3, generator 11 (terms 0, 1, 3)": k and n do not stand
abbrev pub card_q : List ℕ → List ℕ
card_q vs = 0 ∷ 8 ∷ 3 ∷ 1 ∷ 0 ∷ mask 11 ++ stream vs

-- "R: m 5, generator 57 (terms 0, 3, 4, 5)"
abbrev pub card_r : List ℕ → List ℕ
card_r vs = 0 ∷ 9 ∷ 5 ∷ 1 ∷ 0 ∷ mask 57 ++ stream vs

-- "T: k 2, n 3, m 2, generators 3 and 5", with the checks of stream 1 and of stream 2
abbrev pub card_t : List ℕ → List ℕ → List ℕ
card_t vs ws = 3 ∷ 10 ∷ 2 ∷ 3 ∷ 2 ∷ 3 ∷ 0 ∷ mask 3 ++ mask 5 ++ stream vs ++ stream ws

-- Wide: k 3, n 6, m 2. Of the nine generators all but the second of stream 2 and the first of stream 3 stand; a check's map byte is 1, 2 or 4 for one of
-- the parity streams, and 5 for the first and the third
abbrev pub card_wide : List ℕ
card_wide =
    3 ∷ 200 ∷ 3 ∷ 6 ∷ 2 ∷ 175 ∷ 1 ∷ mask 3 ++ mask 2 ++ mask 6 ++ mask 4 ++ mask 7 ++ mask 7 ++ mask 4
    ++ 4 ∷ 1 ∷ mask 1 ++ 1 ∷ mask 2 ++ 2 ∷ mask 2 ++ 4 ∷ mask 2
    ++ 2 ∷ 4 ∷ mask 1 ++ 1 ∷ mask 4
    ++ 3 ∷ 2 ∷ mask 1 ++ 2 ∷ mask 4 ++ 5 ∷ mask 2 ++ mask 4

-- Many, for document 02, R-13: k 1, n 8, m 4. Of the seven generators the first four have the terms 0 and 1, 0 and 2, 0 and 3, 0 and 4, the others 0 alone: no
-- two differences are equal, so that each term by itself is a check, eleven in all. Here with the first so many of them; J is byte 34
abbrev pub card_many : ℕ → List ℕ
card_many J =
    2 ∷ 13 ∷ 8 ∷ 4 ∷ 127 ∷ 0 ∷ mask 3 ++ mask 5 ++ mask 9 ++ mask 17 ++ mask 1 ++ mask 1 ++ mask 1
    ++ J ∷ take (J * 5)
    (1 ∷ mask 1 ++ 1 ∷ mask 2 ++ 2 ∷ mask 1 ++ 2 ∷ mask 4 ++ 4 ∷ mask 1 ++ 4 ∷ mask 8 ++ 8 ∷ mask 1 ++ 8 ∷ mask 16
    ++ 16 ∷ mask 1 ++ 32 ∷ mask 1 ++ 64 ∷ mask 1)

-- .. as it may be stored since before R-4: k stated as 1
abbrev pub stored_many : ℕ → List ℕ
stored_many J = 3 ∷ 13 ∷ 1 ∷ drop 2 (card_many J)
