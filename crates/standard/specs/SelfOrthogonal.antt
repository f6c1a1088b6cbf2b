-- Self-orthogonal codes of one information and one parity stream, by the report's rule (source document 004, section 3.5), which document 02,
-- R-5, has as: "for rising offset, take the term exactly if its syndrome shares no error with the checks already taken, apart from digit 0".
-- A term is an offset of the generator; its syndrome is the check of that one offset. What a check touches is asked of the card that the terms
-- before it, and this one, would give.
-- Assumes nothing.
use Rattle.std.specs.Prelude.{ℕ, zero, suc, ◌+◌, ◌-◌, ◌^◌, cond, List, [], ◌∷◌, ◌++◌, map, length, get_or, eqb}
use Rattle.bits.specs.Sums.{sum_below}
use Rattle.code.specs.Checks.{check_mask, touches}
use Rattle.code.specs.Judging.{clashes}
use Rattle.code.specs.declared.Card.{Card}
use Rattle.card.specs.Fields.{Fields, card_of}
use Rattle.card.specs.Written.{head_of}

-- ---- the card of some terms

-- "m equal to the last term taken"
unfoldable pub last_of : List ℕ → ℕ
last_of terms = get_or terms (length terms - 1) 0

-- the mask with these terms
unfoldable pub mask_of : List ℕ → ℕ
mask_of [] = 0
mask_of (a ∷ terms) = 2 ^ a + mask_of terms

-- the syndrome of offset a as a check, over the one parity stream
abbrev pub syndrome_at : ℕ → List ℕ
syndrome_at a = 2 ^ a ∷ []

-- "for k = 1, n = 2": a check for each term, in the order of the terms, and their number as the card number
unfoldable pub fields_by : List ℕ → Fields
fields_by terms =
    record {
      head = head_of (length terms) 1 2 (last_of terms);
      rows = (mask_of terms ∷ []) ∷ [];
      streams = record { count = length terms; checks = map syndrome_at terms } ∷ [];
    }

-- ---- the rule

-- how many of the first q checks of a card's one information stream touch the error (b, s)
unfoldable pub touched_before : Card → ℕ → ℕ → ℕ → ℕ
touched_before c q b s = sum_below q (λ r. touches c 0 r b s)

-- zero unless check q shares an error, "apart from digit 0", with one before it
unfoldable pub shares : Card → ℕ → ℕ
shares c q = clashes c 0 (check_mask c 0 q) (touched_before c q)

-- the terms, and a exactly if its syndrome shares no error with the checks already taken
unfoldable pub with_term : List ℕ → ℕ → List ℕ
with_term terms a = cond (eqb (shares (card_of (fields_by (terms ++ a ∷ []))) (length terms)) 0) (terms ++ a ∷ []) terms

-- "for rising offset": the terms that are taken of the offsets below n
unfoldable pub terms_below : ℕ → List ℕ
terms_below zero = []
terms_below (suc a) = with_term (terms_below a) a
