-- Stored cards written anew: document 02, R-4 ("Stored ones are read a last time under the former rule and written anew by R-1's writer", "It reads
-- one card from standard input to the end and writes only the new bytes, or the listing's refusal line, or `input too long` above 2,048 bytes").
-- Assumes nothing.
use Rattle.std.specs.Prelude.{ℕ, ◌≡◌, cond, List, length, take, ltb}
use Rattle.code.specs.declared.Card.{Card}
use Rattle.card.specs.Layout.{longest_card}
use Rattle.card.specs.Outcome.{Outcome, accepted, refused}
use Rattle.card.specs.Reading.{read_under, read_card}
use Rattle.card.specs.Written.{written}
use Rattle.card.specs.declared.CardRule.TheVariants.{Former}
use Rattle.outcomes.specs.Listing.{too_long_line, refused_line}
use Rattle.writer.specs.Claims.{ReadsUnder, ReadsAs}
use Rattle.listing.specs.AtFront.{AtFront}

-- by what its reading came to: its written form, or the refusal's line
unfoldable pub rewritten_under : Outcome → Card → List ℕ
rewritten_under accepted c = written c
rewritten_under (refused number offset) c = refused_line number offset

-- what a stored card is written as
unfoldable pub rewritten : List ℕ → List ℕ
rewritten input = cond (ltb 2048 (length input)) too_long_line (rewritten_under (read_under Former input).outcome (read_under Former input).card)

pub record Rewrites (input output : List ℕ) (count : ℕ) (after : List ℕ) : Type 0 where
  -- the new bytes, or the line, for which the output, as long as the longest card, always has room
  pub wrote : AtFront longest_card (rewritten input) output count after
  -- what a stored card is written as is accepted under the present rule, with the same value ..
  pub carried_over : (c : Card) → ReadsUnder Former input c → ReadsAs (rewritten input) c
  -- .. and nothing else that is written is accepted
  pub cards_only : (c : Card) → ReadsAs (rewritten input) c → ReadsUnder Former input c
  -- a card that is accepted under the present rule is written as it stands
  pub as_it_stands : (read_card input).outcome ≡ accepted → rewritten input ≡ input
  -- what follows the first 2,049 bytes of an input changes nothing, so nobody needs to read further
  pub by_the_front : (whole : List ℕ) → input ≡ take 2049 whole → rewritten whole ≡ rewritten input
