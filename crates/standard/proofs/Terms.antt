-- The terms that the report's rule takes, by computing: at its edge, and up to offset 31.
use mathlib.Core.Path.{◌≡◌, refl}
use mathlib.Core.List.{List, [], ◌∷◌}
use Prim.Native.Nat.{ℕ}
use Rattle.bits.specs.Sums.{sum_below, back}
use Rattle.bits.specs.Digits.{bit}
use Rattle.code.specs.Code.{generator}
use Rattle.code.specs.Checks.{check_mask, touches_info, touches_by, touches, besides}
use Rattle.code.specs.Judging.{clashes}
use Rattle.card.specs.Fields.{store, store_rows, store_checks, store_streams, store_counts, card_of}
use Rattle.card.specs.Written.{stated}
use Rattle.standard.specs.SelfOrthogonal.{last_of, mask_of, fields_by, touched_before, shares, with_term, terms_below}
use Rattle.standard.specs.Edges.{TermEdges}
use Rattle.standard.specs.Standard.{standard_terms}

pub edges : TermEdges
unfolding sum_below back bit generator check_mask touches_info touches_by touches besides clashes store store_rows store_checks store_streams store_counts card_of stated last_of mask_of fields_by touched_before shares with_term
edges = record { shared = refl; not_shared = refl; shared_before = refl; not_shared_before = refl; as_in_the_report = refl }

abbrev pub terms : List ℕ
terms = 0 ∷ 1 ∷ 3 ∷ 7 ∷ 12 ∷ 20 ∷ 30 ∷ []

pub terms_are : standard_terms ≡ terms
unfolding sum_below back bit generator check_mask touches_info touches_by touches besides clashes store store_rows store_checks store_streams store_counts card_of stated last_of mask_of fields_by touched_before shares with_term terms_below standard_terms
terms_are = refl
