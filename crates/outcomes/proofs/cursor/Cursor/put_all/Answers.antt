use Prim.Native.Nat.{ℕ, ◌+◌, ◌-◌}
use mathlib.Core.Path.{◌≡◌, refl, sym, ap, ◌∙◌}
use mathlib.Core.List.{List, ◌++◌, append_assoc}
use native.Mathlib.Omega.{arith}
use lib.ListN.{length, take, drop}
use lib.Seq.{drop-drop, sets-eq}
use Rattle.std.proofs.lemmas.List.{take_more}
use Rattle.outcomes.proofs.Writing.{stored-both, stored-as}
use Rattle.outcomes.proofs.cursor.Cursor.put_all.Goals as goal

pub loop-byte-preserved : goal.loop-byte-preserved
loop-byte-preserved c =
    stored-as (sym (take_more c.args.bytes.now c.loop-byte.byte-index 0 (omega arith))) (stored-both c.loop-byte.invariant c.put.ensures)

pub returns-then-end-self : goal.returns-then-end-self
returns-then-end-self c =
    let bytes = c.args.bytes.now in
    let at = c.args.self.now.at in
    let output = c.args.self.now.output.now in
    let end : c.saturating_add-end.result ≡ at + length bytes = omega arith in
    let many : c.saturating_add-end.result - at ≡ length bytes = omega arith in
    record {
      same_output = refl;
      length_most = omega arith;
      output_is = rw (many, c.copy_from_slice.ensures.after)
          (ap (λ (rest : List ℕ). take at output ++ (bytes ++ rest)) (drop-drop (length bytes) at output)
          ∙ sym (append_assoc (take at output) bytes (drop (at + length bytes) output)) ∙ sym (sets-eq bytes output at (omega arith)));
      at_is = omega arith;
    }
