-- What an accepted card guarantees to whoever uses it: all that the sender and the receiver may rest on.
-- It is derived once from card reading (`read_card`'s promise) and never tested again.
-- Assumes nothing.
use Rattle.std.specs.Prelude.{ℕ, ◌+◌, ◌*◌, ◌^◌, ◌≤◌, ◌<◌, ◌≡◌, ◌⊎◌, length, get_or}
use Rattle.code.specs.Limits.{most_checks, check_words, check_start}
use Rattle.code.specs.Checks.{count, Orthogonal}
use Rattle.code.specs.declared.Card.{Card}

pub record Guarantees (c : Card) : Type 0 where
  pub number_most : c.number ≤ 255
  pub k_least : 1 ≤ c.k
  pub k_most : c.k ≤ 4
  pub p_least : 1 ≤ c.p
  pub n_most : c.k + c.p ≤ 8
  pub m_most : c.m ≤ 31
  pub j_least : (i : ℕ) → i < c.k → 1 ≤ count c i
  pub j_most : (i : ℕ) → count c i ≤ most_checks
  -- the tables are whole
  pub checks_long : length c.checks ≡ check_words
  -- no mask has a bit above m
  pub generators_within : (at : ℕ) → get_or c.generators at 0 < 2 ^ (c.m + 1)
  pub checks_within : (at : ℕ) → get_or c.checks at 0 < 2 ^ (c.m + 1)
  -- what the card does not state is zero
  pub generators_unused : (i j : ℕ) → j < 8 → (c.k ≤ i) ⊎ (c.p ≤ j) → get_or c.generators (i * 8 + j) 0 ≡ 0
  pub counts_unused : (i : ℕ) → c.k ≤ i → count c i ≡ 0
  pub checks_unused : (i q j : ℕ) → q < most_checks → j < 8 → (count c i ≤ q) ⊎ (c.p ≤ j) → get_or c.checks (check_start i q + j) 0 ≡ 0
  pub orthogonal : (i : ℕ) → i < c.k → Orthogonal c i
