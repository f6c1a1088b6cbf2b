-- What the reader's inner functions give, in the published numbers: the parts of a card as the program holds them. Nobody has to believe this
-- file: it only ties the program's enums and structs to `Reading`.
-- Assumes nothing.
use Rattle.std.specs.Prelude.{ℕ, ◌-◌, Result, Ok, Err, List, replicate}
use Rattle.code.specs.Limits.{check_words}
use Rattle.card.specs.Refusals.{number_of}
use Rattle.card.specs.Fields.{Head, Stream, store_counts, store_streams}
use Rattle.card.specs.Reading.{Field, Read}
use Rattle.card.specs.Reading.Field.{value, bad}
use Rattle.card.specs.Reading.Read.{got, fault}
use Rattle.code.specs.declared.Card.{Card}
use Rattle.card.specs.declared.Fault.{Fault}
use Rattle.card.specs.declared.parts.Sizes.{Sizes}

-- a field
abbrev pub field_of : Result ℕ Fault → Field
field_of (Ok v) = value v
field_of (Err f) = bad (number_of f.refusal) f.offset

-- a part of a card as the program has read it: what it is and the offset after it, or the refusal
abbrev pub read_by : {A : Type 0} → Result ℕ Fault → A → Read A
read_by (Ok at) x = got x at
read_by (Err f) x = fault (number_of f.refusal) f.offset

-- the head
abbrev pub head_by : Result (Sizes × ℕ) Fault → Read Sizes
head_by (Ok head) = got head.0 head.1
head_by (Err f) = fault (number_of f.refusal) f.offset

-- what the head states
abbrev pub sizes_of : Head → Sizes
sizes_of h = record { number = h.number; k = h.k; p = h.n - h.k; m = h.m }

-- the card before its checks
abbrev pub code_by : Sizes → List ℕ → Card
code_by z generators = record { number = z.number; k = z.k; p = z.p; m = z.m; generators = generators; counts = replicate 4 0; checks = replicate check_words 0 }

-- the tables of its checks
pub record Tables : Type 0 where
  pub counts : List ℕ
  pub checks : List ℕ

-- the checks of the streams from i on, stored in them
abbrev pub tables_with : ℕ → List ℕ → List ℕ → List Stream → Tables
tables_with i counts checks streams = record { counts = store_counts i streams counts; checks = store_streams i streams checks }
