-- the checks sorted
pub mod Sorting
-- too few syndromes for a vote
pub mod FewOnes
