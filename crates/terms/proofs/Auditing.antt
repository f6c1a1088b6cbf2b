-- A stored file in an audit, as the page has it.
use Prim.Native.Nat.{ℕ, min}
use mathlib.Core.Path.{◌≡◌, refl, ap, ◌∙◌}
use mathlib.Core.List.{List, ◌++◌, append_assoc, append-nil}
use lib.ListN.{length, take}
use Rattle.std.specs.Prelude.{Option, Result}
use Rattle.outcomes.specs.Text.{text, decimal, spaced, line}
use Rattle.outcomes.specs.Listing.{too_long_line, refused_line, line_of_end}
use Rattle.listing.specs.AtFront.{AtFront}
use Rattle.listing.specs.Auditing.{audit_room, name_in, not_read_line, fault_under, fault, audit_line, passes, line_count, passed, Audits}
use Rattle.listing.proofs.AtFront.{front-is, rest_kept}
use Rattle.listing.proofs.Audited.{not_read, too_long, short, not_read-fails, too_long-fails, refused-fails, refused-told}
use Rattle.terms.specs.Terms.{Audited, AuditEnds}

-- ---- the lines
not-read-line : (name : List ℕ) → audit_line name not_read_line ≡ name ++ text " not read\n"
unfolding audit_line text spaced line not_read_line
not-read-line name = refl

too-long-line : (name : List ℕ) → audit_line name too_long_line ≡ name ++ text " input too long\n"
unfolding audit_line text spaced line too_long_line
too-long-line name = refl

refused-line : (name : List ℕ) (number offset : ℕ)
    → name ++ (text " " ++ refused_line number offset) ≡ name ++ (text " refused " ++ (decimal number ++ (text " at " ++ (decimal offset ++ text "\n"))))
unfolding text spaced line refused_line
refused-line name number offset = simp (append_assoc, append-nil)

end_line : (passed : ℕ) → line_of_end passed ≡ text "end " ++ (decimal passed ++ text "\n")
unfolding text spaced line line_of_end
end_line passed = simp (append_assoc, append-nil)

-- ---- the promises
module _ {file : Result (List ℕ) (List ℕ)} {output after : List ℕ} {size : ℕ} {r : Option ℕ} (promise : Audits file output size r after) where
  -- by why the file does not pass
  told : (why : List ℕ) {l : List ℕ} → fault file ≡ why → audit_line (name_in output size) why ≡ l → passes why ≡ 0
      → (take (line_count r) after ≡ l) × (passed r ≡ 0)
  told why is reads none = (front-is promise.told ∙ ap (audit_line (name_in output size)) is ∙ reads, promise.counted ∙ ap passes is ∙ none)

  pub is-audited : Audited file (take (min size 131072) output) output (line_count r) (passed r) after
  unfolding fault_under audit_line passes name_in
  is-audited =
      let name = name_in output size in
      record {
        rest_kept = rest_kept promise.told;
        not_read = λ bytes e. told not_read_line (ap fault e ∙ not_read bytes) (not-read-line name) not_read-fails;
        too_long = λ bytes e l. told too_long_line (ap fault e ∙ too_long bytes l) (too-long-line name) too_long-fails;
        card_refused = λ bytes number offset e l o.
            told (refused_line number offset) (ap fault e ∙ short bytes l ∙ ap fault_under o) (refused-told name number offset ∙ refused-line name number offset)
            (refused-fails number offset);
        card_passes = λ bytes e o.
            let none = ap fault e ∙ (rw e at promise.good_passes) o in
            (promise.told.count_is ∙ ap (λ (f : List ℕ). length (audit_line name f)) none, promise.counted ∙ ap passes none);
      }

pub ends : {output after : List ℕ} (passed : ℕ) {n : ℕ} → AtFront audit_room (line_of_end passed) output n after → AuditEnds passed output n after
ends passed w = record { rest_kept = rest_kept w; told = front-is w ∙ end_line passed }
