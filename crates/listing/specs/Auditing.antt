-- What an audit prints for a stored card file: document 02, R-13 ("prints, in order, for each refused one its name, a space and the listing's refusal
-- line, with `input too long` above 2,048 bytes and `not read` where reading fails, and last `end` and the count that pass").
-- A file is given by the bytes that came of it: `Ok` where it was read to its end, `Err` where it was not. Its name stands at the front of the output, and of
-- one longer than 131,072 bytes the rest is not looked at: no argument that Linux hands to a program is so long.
-- Assumes nothing.
use Rattle.std.specs.Prelude.{ℕ, ◌+◌, min, ◌≡◌, cond, List, [], ◌∷◌, ◌++◌, length, take, ltb, Option, Some, None, Result, Ok, Err}
use denote.Ref.{Bor}
use Rattle.card.specs.Outcome.{Outcome, accepted, refused}
use Rattle.card.specs.Reading.{read_card}
use Rattle.outcomes.specs.Text.{text, line}
use Rattle.outcomes.specs.Listing.{too_long_line, refused_line}
use Rattle.listing.specs.AtFront.{AtFront}

-- no name is longer
abbrev pub most_name : ℕ
most_name = 131072

-- room for every line: a name, a space, and the line of a refusal, which has at most 36 bytes
abbrev pub audit_room : ℕ
audit_room = most_name + 1 + 36

-- the name of this size that stands at the front of an output
unfoldable pub name_in : List ℕ → ℕ → List ℕ
name_in output size = take (min size most_name) output

-- "`not read` where reading fails"
unfoldable pub not_read_line : List ℕ
not_read_line = line (text "not") (text "read" ∷ [])

-- why a file does not pass, by what its card's reading came to; nothing where it passes
unfoldable pub fault_under : Outcome → List ℕ
fault_under accepted = []
fault_under (refused number offset) = refused_line number offset

unfoldable pub fault : Result (List ℕ) (List ℕ) → List ℕ
fault (Err bytes) = not_read_line
fault (Ok bytes) = cond (ltb 2048 (length bytes)) too_long_line (fault_under (read_card bytes).outcome)

-- "for each refused one its name, a space and" why; nothing for the others
unfoldable pub audit_line : List ℕ → List ℕ → List ℕ
audit_line name [] = []
audit_line name (x ∷ why) = name ++ (text " " ++ (x ∷ why))

-- what a file adds to "the count that pass"
unfoldable pub passes : List ℕ → ℕ
passes [] = 1
passes (x ∷ why) = 0

-- a file whose bytes are lent
abbrev pub bytes_of : Result (Bor (List ℕ)) (Bor (List ℕ)) → Result (List ℕ) (List ℕ)
bytes_of (Ok bytes) = Ok bytes.now
bytes_of (Err bytes) = Err bytes.now

-- the bytes that came of a file, read to its end or not
abbrev pub came_of : Result (List ℕ) (List ℕ) → List ℕ
came_of (Ok bytes) = bytes
came_of (Err bytes) = bytes

-- by the answer for a file, the count of its line's bytes: none where there is no line
abbrev pub line_count : Option ℕ → ℕ
line_count None = 0
line_count (Some count) = count

-- .. and what it adds to "the count that pass": a file that has a line does not pass
abbrev pub passed : Option ℕ → ℕ
passed None = 1
passed (Some count) = 0

pub record Audits (file : Result (List ℕ) (List ℕ)) (output : List ℕ) (size : ℕ) (r : Option ℕ) (after : List ℕ) : Type 0 where
  -- the line, for which the output always has room
  pub told : AtFront audit_room (audit_line (name_in output size) (fault file)) output (line_count r) after
  pub counted : passed r ≡ passes (fault file)
  -- a card that is accepted passes, where the file is read to its end
  pub good_passes : (read_card (came_of file)).outcome ≡ accepted → fault (Ok (came_of file)) ≡ []
  -- what follows the first 2,049 bytes of a file changes nothing, so nobody needs to read further
  pub by_the_front : (all : List ℕ) → came_of file ≡ take 2049 all → fault (Ok all) ≡ fault (Ok (came_of file))
