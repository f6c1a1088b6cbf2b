-- The standard cards (document 02's "shelf of cards", R-5): those of J = 2 to 7 terms that the report's rule takes up to offset 31; what writing
-- one comes to; and what they are good for.
-- Assumes nothing.
use Rattle.std.specs.Prelude.{ℕ, ◌+◌, ◌*◌, ◌≤◌, ◌≡◌, cond, ◌&&◌, List, [], ◌∷◌, length, take, leb}
use Rattle.card.specs.Fields.{Fields}
use Rattle.card.specs.Layout.{layout, Acceptable}
use Rattle.card.specs.declared.CardRule.TheVariants.{Present}
use Rattle.outcomes.specs.Outcome.{BurstOutcome, given_of, fitted}
use Rattle.standard.specs.SelfOrthogonal.{fields_by, terms_below}

-- the terms up to offset 31, the largest memory of a card
unfoldable pub standard_terms : List ℕ
standard_terms = terms_below 32

-- the card with J checks: the first J terms
unfoldable pub standard_fields : ℕ → Fields
standard_fields J = fields_by (take J standard_terms)

unfoldable pub standard_card : ℕ → List ℕ
standard_card J = layout (standard_fields J)

-- the count of bytes, and 13 where the output is too short; no bytes, so 0 (which is ours), for a J outside 2 to 7
unfoldable pub standard_of : ℕ → List ℕ → BurstOutcome
standard_of J output = cond (leb 2 J && leb J 7) (fitted (standard_card J) output) (given_of [] output)

pub record StandardCards : Type 0 where
  -- "Up to offset 31 that gives the terms 0, 1, 3, 7, 12, 20, 30"
  pub terms_are : standard_terms ≡ 0 ∷ 1 ∷ 3 ∷ 7 ∷ 12 ∷ 20 ∷ 30 ∷ []
  -- "every entry is an acceptable card"
  pub acceptable : (J : ℕ) → 2 ≤ J → J ≤ 7 → Acceptable Present (standard_card J) (standard_fields J)
  -- how much room it takes
  pub length_is : (J : ℕ) → 2 ≤ J → J ≤ 7 → length (standard_card J) ≡ 10 + 5 * J
