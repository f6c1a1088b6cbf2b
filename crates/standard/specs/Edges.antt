-- The report's rule at its edge: offsets that are just taken, and that just are not.
-- Assumes nothing.
use Rattle.std.specs.Prelude.{◌≡◌, [], ◌∷◌}
use Rattle.standard.specs.SelfOrthogonal.{with_term}

pub record TermEdges : Type 0 where
  -- s2 would share the information error of time 1 with s1
  pub shared : with_term (0 ∷ 1 ∷ []) 2 ≡ 0 ∷ 1 ∷ []
  pub not_shared : with_term (0 ∷ 1 ∷ []) 3 ≡ 0 ∷ 1 ∷ 3 ∷ []
  -- s10 would share that of time 5 with s5, which is not the last check taken
  pub shared_before : with_term (0 ∷ 5 ∷ 6 ∷ []) 10 ≡ 0 ∷ 5 ∷ 6 ∷ []
  pub not_shared_before : with_term (0 ∷ 5 ∷ 6 ∷ []) 9 ≡ 0 ∷ 5 ∷ 6 ∷ 9 ∷ []
  -- beyond our cards: after g30 and g44 the report's Table I has g65
  pub as_in_the_report : with_term (0 ∷ 1 ∷ 3 ∷ 7 ∷ 12 ∷ 20 ∷ 30 ∷ 44 ∷ []) 65 ≡ 0 ∷ 1 ∷ 3 ∷ 7 ∷ 12 ∷ 20 ∷ 30 ∷ 44 ∷ 65 ∷ []
