-- What an audit says of a file, case by case, and the promise of `audit`.
use Prim.Native.Nat.{ℕ, ◌+◌, ◌≤◌, ◌<◌, min}
use mathlib.Core.Path.{◌≡◌, refl, sym, ap, ap₂, subst, ◌∙◌}
use mathlib.Core.List.{List, [], ◌++◌}
use mathlib.Core.Logic.{⊎_elim}
use native.Mathlib.Omega.{arith}
use lib.ListN.{length, take, drop, length-append, length-take}
use lib.Seq.{sets, sets-eq, take_all, length-take-le}
use borrow.Author.Tests.{lt-ltb, le-ltb}
use Rattle.bits.proofs.Cases.{le-or-lt}
use Rattle.card.specs.Outcome.{CardOutcome, accepted}
use Rattle.card.specs.Reading.{read_card}
use Rattle.card.specs.declared.CardRule.TheVariants.{Present}
use Rattle.outcomes.specs.Text.{text, line}
use Rattle.outcomes.specs.Listing.{too_long_line, refused_line}
use Rattle.outcomes.specs.Wrote.{Stored}
use Rattle.listing.specs.AtFront.{AtFront}
use Rattle.listing.specs.Auditing.{most_name, audit_room, name_in, not_read_line, fault_under, fault, audit_line, passes, line_count, passed, came_of, Audits}
use Rattle.listing.specs.declared.stored.Why.{Why}
use Rattle.listing.specs.declared.stored.Why.TheVariants.{NotRead, TooLong, Refused}
use Rattle.listing.specs.Stored.{why_line, why_not, Passes, ReadStored}
use Rattle.code.specs.declared.Card.{Card}
use Rattle.outcomes.specs.declared.cursor.Cursor.{Cursor}
use Rattle.card.specs.Refusals.{number_of}
use Rattle.listing.proofs.AcceptedLength.{accepted-short}
use Rattle.std.proofs.Common.{Option, Result, Ok, Err}

-- ---- nothing written
pub nothing : (room : ℕ) (output : List ℕ) → AtFront room [] output 0 output
nothing room output = record { count_is = refl; bytes_are = refl; within = omega arith }

-- ---- a line after the name that stands at the front of the output
module _ (output : List ℕ) (size : ℕ) (room : audit_room ≤ length output) where
  pub line-front : {before after : Cursor} (why : List ℕ) → audit_line (name_in output size) why ≡ name_in output size ++ (text " " ++ why)
      → before.output.now ≡ output → before.at ≡ min size most_name → Stored before after (text " " ++ why) → length why ≤ 36
      → AtFront audit_room (audit_line (name_in output size) why) output after.at after.output.now
  unfolding name_in text
  line-front {before} {after} why is e at w few =
      let n = min size most_name in
      let rest = text " " ++ why in
      let whole : length (take n output) ≡ n = length-take-le n output (omega arith) in
      let long : length (take n output ++ rest) ≡ n + length rest = omega (arith, length-append (take n output) rest) in
      subst (λ (l : List ℕ). AtFront audit_room l output after.at after.output.now) (sym is)
      (record {
        count_is = omega (arith, w.at_is, at);
        bytes_are =
            w.output_is
            ∙ ap₂ (λ (l : List ℕ) (m : ℕ). sets l m rest) e at
            ∙ sets-eq rest output n (omega arith)
            ∙ ap (λ (x : ℕ). (take n output ++ rest) ++ drop x output) (sym long);
        within = omega (arith, w.at_is, at);
      })

-- ---- the lines of those that do not pass, none of which is empty
module _ (name : List ℕ) where
  pub not_read-told : audit_line name not_read_line ≡ name ++ (text " " ++ not_read_line)
  unfolding audit_line not_read_line line text
  not_read-told = refl

  pub too_long-told : audit_line name too_long_line ≡ name ++ (text " " ++ too_long_line)
  unfolding audit_line too_long_line line text
  too_long-told = refl

  pub refused-told : (number offset : ℕ) → audit_line name (refused_line number offset) ≡ name ++ (text " " ++ refused_line number offset)
  unfolding audit_line refused_line line text
  refused-told number offset = refl

pub not_read-fails : passes not_read_line ≡ 0
unfolding passes not_read_line line text
not_read-fails = refl

pub too_long-fails : passes too_long_line ≡ 0
unfolding passes too_long_line line text
too_long-fails = refl

pub refused-fails : (number offset : ℕ) → passes (refused_line number offset) ≡ 0
unfolding passes refused_line line text
refused-fails number offset = refl

-- a reason has a line, and what has one does not pass
pub why-told : (name : List ℕ) (why : Why) → audit_line name (why_line why) ≡ name ++ (text " " ++ why_line why)
unfolding why_line
why-told name NotRead = not_read-told name
why-told name TooLong = too_long-told name
why-told name (Refused fault) = refused-told name (number_of fault.refusal) fault.offset

pub why-fails : (why : Why) → passes (why_line why) ≡ 0
unfolding why_line
why-fails NotRead = not_read-fails
why-fails TooLong = too_long-fails
why-fails (Refused fault) = refused-fails (number_of fault.refusal) fault.offset

-- ---- each case
pub not_read : (bytes : List ℕ) → fault (Err bytes) ≡ not_read_line
unfolding fault
not_read bytes = refl

pub too_long : (bytes : List ℕ) → 2048 < length bytes → fault (Ok bytes) ≡ too_long_line
unfolding fault
too_long bytes l = rw (lt-ltb 2048 (length bytes) l)

pub short : (bytes : List ℕ) → length bytes ≤ 2048 → fault (Ok bytes) ≡ fault_under (read_card bytes).outcome
unfolding fault
short bytes l = rw (le-ltb 2048 (length bytes) l)

by_the_front : (bytes all : List ℕ) → bytes ≡ take 2049 all → fault (Ok all) ≡ fault (Ok bytes)
by_the_front bytes all e =
    ⊎_elim
    (λ l. ap (λ (x : List ℕ). fault (Ok x)) (sym (e ∙ take_all 2049 all l)))
    (λ l. too_long all (omega arith) ∙ sym (too_long bytes (omega (arith, ap length e, length-take 2049 all))))
    (le-or-lt (length all) 2049)

-- no accepted card is too long
good_passes : (bytes : List ℕ) → (read_card bytes).outcome ≡ accepted → fault (Ok bytes) ≡ []
unfolding fault_under
good_passes bytes e = short bytes (omega (arith, accepted-short bytes Present e)) ∙ ap fault_under e

-- ---- whether a file passes, by what came of reading it
passes-by : (file : Result (List ℕ) (List ℕ)) (r : Result (Unit {0}) Why) → why_not r ≡ fault file → Passes file r
passes-by file r is = record { reason = is; good_passes = good_passes (came_of file) }

module _ (bytes : List ℕ) where
  pub unread-passes : Passes (Err bytes) (Err NotRead)
  unfolding why_not why_line
  unread-passes = passes-by (Err bytes) (Err NotRead) (sym (not_read bytes))

  pub refused-passes : (why : Why) → ReadStored Present bytes (Err why) → Passes (Ok bytes) (Err why)
  unfolding why_not why_line fault_under
  refused-passes NotRead read = absurd read
  refused-passes TooLong read = passes-by (Ok bytes) (Err TooLong) (sym (too_long bytes read.0))
  refused-passes (Refused why) read =
      passes-by (Ok bytes) (Err (Refused why))
      (ap fault_under (ap (λ (r : CardOutcome). r.outcome) read.1.is_read) ∙ sym (short bytes read.0))

  pub accepted-passes : (card : Card) → ReadStored Present bytes (Ok card) → Passes (Ok bytes) (Ok tt)
  unfolding why_not
  accepted-passes card read =
      passes-by (Ok bytes) (Ok tt) (sym (good_passes bytes (sym (ap (λ (r : CardOutcome). r.outcome) read.1.is_read))))

-- ---- the promise of `audit`, from the answer and the line that was written
module _ (file : Result (List ℕ) (List ℕ)) (output : List ℕ) (size : ℕ) where
  pub audits : {came : Result (Unit {0}) Why} {r : Option ℕ} {after : List ℕ} → Passes file came
      → AtFront audit_room (audit_line (name_in output size) (fault file)) output (line_count r) after
      → passed r ≡ passes (fault file) → Audits file output size r after
  audits pass w p = record { told = w; counted = p; good_passes = pass.good_passes; by_the_front = by_the_front (came_of file) }

  -- there is no reason, and no line
  module _ (pass : Passes file (Ok tt)) where
    pub no-line : AtFront audit_room (audit_line (name_in output size) (fault file)) output 0 output
    unfolding audit_line why_not
    no-line = rw (sym pass.reason) (nothing audit_room output)

    pub counts : 1 ≡ passes (fault file)
    unfolding passes why_not
    counts = rw (sym pass.reason)

  module _ (why : Why) (pass : Passes file (Err why)) where
    pub its-line : {count : ℕ} {after : List ℕ} → AtFront audit_room (audit_line (name_in output size) (why_line why)) output count after
        → AtFront audit_room (audit_line (name_in output size) (fault file)) output count after
    unfolding why_not
    its-line w = rw (sym pass.reason) w

    pub counts-nothing : 0 ≡ passes (fault file)
    unfolding why_not
    counts-nothing = sym (ap passes (sym pass.reason) ∙ why-fails why)
