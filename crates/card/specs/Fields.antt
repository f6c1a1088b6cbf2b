-- The fields of a card, and the card that they state: document 01, "The card".
-- The masks of a check, and the generators of an information stream, are lists of p masks, one for each parity stream in rising order, zero where
-- a mask does not stand. A card keeps them in tables of fixed strides.
-- Assumes nothing.
use Rattle.std.specs.Prelude.{ℕ, ◌+◌, ◌-◌, ◌*◌, List, [], ◌∷◌, set, replicate}
use Rattle.code.specs.Limits.{check_words, check_start}
use Rattle.code.specs.declared.Card.{Card}

-- the fields before the generators; k_stands and n_stands are bits 0 and 1 of byte 0, and k and n have their defaults where they do not stand
pub record Head : Type 0 where
  pub k_stands : ℕ
  pub n_stands : ℕ
  pub number : ℕ
  pub k : ℕ
  pub n : ℕ
  pub m : ℕ

-- the checks of one information stream: J, and the masks of each check
pub record Stream : Type 0 where
  pub count : ℕ
  pub checks : List (List ℕ)

-- all the fields of a card; row i has the generators of information stream i
pub record Fields : Type 0 where
  pub head : Head
  pub rows : List (List ℕ)
  pub streams : List Stream

-- ---- the tables of a card

-- a table with values stored from a place on
unfoldable pub store : ℕ → List ℕ → List ℕ → List ℕ
store at [] table = table
store at (v ∷ vs) table = store (at + 1) vs (set table at v)

-- the generators of the information streams from i on, at i * 8 + j
unfoldable pub store_rows : ℕ → List (List ℕ) → List ℕ → List ℕ
store_rows i [] table = table
store_rows i (vs ∷ rows) table = store_rows (i + 1) rows (store (i * 8) vs table)

-- the checks of stream i from q on, at check_start i q + j
unfoldable pub store_checks : ℕ → ℕ → List (List ℕ) → List ℕ → List ℕ
store_checks i q [] table = table
store_checks i q (vs ∷ checks) table = store_checks i (q + 1) checks (store (check_start i q) vs table)

-- the checks of the streams from i on, and their counts
unfoldable pub store_streams : ℕ → List Stream → List ℕ → List ℕ
store_streams i [] table = table
store_streams i (s ∷ streams) table = store_streams (i + 1) streams (store_checks i 0 s.checks table)

unfoldable pub store_counts : ℕ → List Stream → List ℕ → List ℕ
store_counts i [] table = table
store_counts i (s ∷ streams) table = store_counts (i + 1) streams (set table i s.count)

-- ---- the card

-- the card of a refusal
abbrev pub empty_card : Card
empty_card = record { number = 0; k = 0; p = 0; m = 0; generators = replicate 32 0; counts = replicate 4 0; checks = replicate check_words 0 }

-- the card as it stands before its first check: the head and the generators
abbrev pub code_of : Head → List (List ℕ) → Card
code_of h rows =
    record {
      number = h.number;
      k = h.k;
      p = h.n - h.k;
      m = h.m;
      generators = store_rows 0 rows (replicate 32 0);
      counts = replicate 4 0;
      checks = replicate check_words 0;
    }

-- a card with the checks of its streams
abbrev pub with_checks : Card → List Stream → Card
with_checks c streams =
    record {
      number = c.number;
      k = c.k;
      p = c.p;
      m = c.m;
      generators = c.generators;
      counts = store_counts 0 streams (replicate 4 0);
      checks = store_streams 0 streams (replicate check_words 0);
    }

-- the card that the fields state; what they do not state is zero
unfoldable pub card_of : Fields → Card
card_of f = with_checks (code_of f.head f.rows) f.streams
