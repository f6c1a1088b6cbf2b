-- Text as a list of bytes: words, decimal numbers and lines. Document 01, "The listing" ("one space between", "Every line ends in a line feed").
-- Assumes nothing.
use Rattle.std.specs.Prelude.{ℕ, zero, suc, ◌+◌, ◌/◌, ◌%◌, cond, List, [], ◌∷◌, ◌++◌, ltb}
use Prim.Native.Char.{code}
use Prim.Native.String.{String, [] as none, ◌∷◌ as ◌then◌}

-- the bytes of a word, its characters all below 128
unfoldable pub text : String → List ℕ
text none = []
text (c then s) = code c ∷ text s

-- the byte of a decimal digit
abbrev pub glyph : ℕ → ℕ
glyph d = code "0" + d

-- the decimal digits of n, the highest first, at most `places` of them behind the first
unfoldable pub decimal_within : ℕ → ℕ → List ℕ
decimal_within zero n = glyph n ∷ []
decimal_within (suc places) n = cond (ltb n 10) (glyph n ∷ []) (decimal_within places (n / 10) ++ (glyph (n % 10) ∷ []))

-- n in decimal, with no zeros in front; it has at most n digits behind the first
unfoldable pub decimal : ℕ → List ℕ
decimal n = decimal_within n n

-- words, each after one space
unfoldable pub spaced : List (List ℕ) → List ℕ
spaced [] = []
spaced (word ∷ words) = text " " ++ (word ++ spaced words)

-- a line: its words with one space between, and a line feed
unfoldable pub line : List ℕ → List (List ℕ) → List ℕ
line first others = first ++ (spaced others ++ text "\n")
