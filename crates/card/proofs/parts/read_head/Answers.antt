-- Field by field: each that has a value is put in, and the first fault is handed on.
use mathlib.Core.Path.{sym}
use native.Mathlib.Omega.{arith}
use Rattle.std.proofs.lemmas.Result.{err_from_is_err_and}
use Rattle.card.specs.Reading.{read_head}
use Rattle.card.proofs.FieldValues.{byte-is, k-is, n-is}
use Rattle.card.proofs.parts.read_head.Goals as goal

pub returns-in_err-map : goal.returns-in_err-map
unfolding read_head
returns-in_err-map c =
    let p = err_from_is_err_and c.from_residual.result c.from_residual.ensures.1 in
    rw (p.1, p.2, ← c.in_err-map.ensures)

pub returns-in_err-number : goal.returns-in_err-number
unfolding read_head
returns-in_err-number c =
    let p = err_from_is_err_and c.from_residual-in_err-number.result c.from_residual-in_err-number.ensures.1 in
    rw (p.1, p.2, ← c.in_ok-map.ensures, ← c.in_err-number.ensures)

pub returns-in_err-k : goal.returns-in_err-k
unfolding read_head
returns-in_err-k c =
    let p = err_from_is_err_and c.from_residual-in_err-k.result c.from_residual-in_err-k.ensures.1 in
    rw (p.1, p.2, ← c.in_ok-map.ensures, ← c.in_ok-number.ensures, ← c.in_err-k.ensures)

pub n_field-requires : goal.n_field-requires
n_field-requires c = (k-is _ _ _ _ (sym c.in_ok-k.ensures)).1

pub returns-in_err-n : goal.returns-in_err-n
unfolding read_head
returns-in_err-n c =
    let p = err_from_is_err_and c.from_residual-in_err-n.result c.from_residual-in_err-n.ensures.1 in
    rw (p.1, p.2, ← c.in_ok-map.ensures, ← c.in_ok-number.ensures, ← c.in_ok-k.ensures, ← c.in_err-n.ensures)

pub returns-in_err-m : goal.returns-in_err-m
unfolding read_head
returns-in_err-m c =
    let p = err_from_is_err_and c.from_residual-in_err-m.result c.from_residual-in_err-m.ensures.1 in
    rw (p.1, p.2, ← c.in_ok-map.ensures, ← c.in_ok-number.ensures, ← c.in_ok-k.ensures, ← c.in_ok-n.ensures, ← c.in_err-m.ensures)

pub overflow_cast-sizes : goal.overflow_cast-sizes
overflow_cast-sizes c = let number = (byte-is _ _ _ _ _ _ (sym c.in_ok-number.ensures)).most in record { fits = omega arith }

pub overflow_sub-sizes : goal.overflow_sub-sizes
overflow_sub-sizes c = let n = (n-is _ _ _ _ _ _ (sym c.in_ok-n.ensures)).0 in omega arith

pub returns : goal.returns
unfolding read_head
returns c = rw (← c.in_ok-map.ensures, ← c.in_ok-number.ensures, ← c.in_ok-k.ensures, ← c.in_ok-n.ensures, ← c.in_ok-m.ensures)
