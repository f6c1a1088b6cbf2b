-- What the clauses of the audit's promise give for cards of the bench, and at the longest file that is read.
use Prim.Native.Nat.{ℕ}
use mathlib.Core.Path.{◌≡◌, refl, sym, ap, ◌∙◌}
use mathlib.Core.List.{List, ◌++◌}
use native.Mathlib.Omega.{arith}
use lib.ListN.{length, take}
use lib.Seq.{take_at}
use Rattle.std.specs.Prelude.{Option, Some, None, Result, Ok, Err}
use Rattle.card.specs.Bench.{card_p, stored_p}
use Rattle.card.specs.Outcome.{CardOutcome}
use Rattle.card.specs.Reading.{read_card}
use Rattle.outcomes.specs.Listing.{too_long_line, refused_line}
use Rattle.outcomes.proofs.ReadCards.{read-P, read-stated-P}
use Rattle.listing.specs.Auditing.{name_in, not_read_line, fault_under, fault, audit_line, passes, line_count, passed, Audits}
use Rattle.listing.proofs.Audited.{not_read, too_long, short, not_read-fails, too_long-fails, refused-fails}
use Rattle.listing.proofs.AtFront.{front-is}

-- a file that is counted has no line
none-told : (r : Option ℕ) → passed r ≡ 1 → r ≡ None
none-told None e = refl
none-told (Some count) e = absurd (omega arith)

module _ {output after : List ℕ} {size : ℕ} {r : Option ℕ} where
  pub passes-P : Audits (Ok card_p) output size r after → (r ≡ None) × (after ≡ output)
  unfolding audit_line passes
  passes-P promise =
      let none = promise.good_passes (ap (λ (r : CardOutcome). r.outcome) read-P) in
      let is = none-told r (promise.counted ∙ ap passes none) in
      (is, rw none at promise.told.bytes_are)

  -- by why the file does not pass
  module _ {file : Result (List ℕ) (List ℕ)} (promise : Audits file output size r after) where
    tells : (why : List ℕ) → fault file ≡ why → take (line_count r) after ≡ audit_line (name_in output size) why
    tells why is = front-is promise.told ∙ ap (audit_line (name_in output size)) is

    fails : (why : List ℕ) → fault file ≡ why → passes why ≡ 0 → (take (line_count r) after ≡ audit_line (name_in output size) why) × (passed r ≡ 0)
    fails why is none = (tells why is, promise.counted ∙ ap passes is ∙ none)

  pub told-stored-P : Audits (Ok stored_p) output size r after
      → (take (line_count r) after ≡ audit_line (name_in output size) (refused_line 18 2)) × (passed r ≡ 0)
  unfolding fault_under
  told-stored-P promise = fails promise (refused_line 18 2) (short stored_p (omega arith) ∙ ap fault_under read-stated-P) (refused-fails 18 2)

  -- whatever bytes came, P's too
  pub told-half-P : {bytes : List ℕ} → Audits (Err bytes) output size r after
      → (take (line_count r) after ≡ audit_line (name_in output size) not_read_line) × (passed r ≡ 0)
  told-half-P {bytes} promise = fails promise not_read_line (not_read bytes) not_read-fails

  module _ {bytes : List ℕ} (promise : Audits (Ok bytes) output size r after) where
    -- at most 2,048 bytes are read as a card
    pub read_whole : length bytes ≡ 2048 → take (line_count r) after ≡ audit_line (name_in output size) (fault_under (read_card bytes).outcome)
    read_whole l = tells promise (fault_under (read_card bytes).outcome) (short bytes (omega arith))

    pub told-long : length bytes ≡ 2049 → (take (line_count r) after ≡ audit_line (name_in output size) too_long_line) × (passed r ≡ 0)
    told-long l = fails promise too_long_line (too_long bytes (omega arith)) too_long-fails

    pub front-enough : length bytes ≡ 2049 → (more : List ℕ) → fault (Ok (bytes ++ more)) ≡ too_long_line
    front-enough long more = promise.by_the_front (bytes ++ more) (sym (take_at bytes more 2049 long)) ∙ too_long bytes (omega arith)
