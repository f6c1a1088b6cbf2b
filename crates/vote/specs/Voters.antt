-- Which checks vote, on registers, for tables and registers of every value: bit b of erased register s is 1 if the digit of stream s at time u + b is erased,
-- where the frame of time u is decided next. Nobody has to believe this file: `voters-are` in proofs/WhoVotes.antt ties it to the rule (`majority`, `Rule`).
-- Assumes nothing.
use Rattle.std.specs.Prelude.{ℕ, ◌-◌, ◌*◌, ◌^◌, min, cond, List, ◌++◌, get_or, drop, replicate, eqb}
use Rattle.std.specs.Int.Count.{ones}
use Rattle.bits.specs.Sums.{up_to}
use Rattle.bits.specs.Digits.{bit, from_digits}
use Rattle.code.specs.Judging.{clashes}
use Rattle.code.specs.Limits.{most_checks, check_start}
use Rattle.code.specs.declared.Sizes.{Sizes}
use Rattle.vote.specs.Voting.{decide_by}
use Rattle.vote.specs.declared.voters.Voters.{Voters}
use Rattle.orthogonal.specs.Pass.{holds, word_code, information_streams, parity_streams, first_masks}

-- all checks of each stream, for the streams and checks that the tables have
unfoldable pub all_voting : List ℕ → ℕ → List ℕ
all_voting counts k = up_to (min k 4) (λ i. 2 ^ min (get_or counts i 0) most_checks - 1) ++ drop (min k 4) (replicate 4 0)

-- 1 if check q of stream i votes: it touches no erased digit other than its own
unfoldable pub voting_by : List ℕ → List ℕ → List ℕ → ℕ → ℕ → ℕ → ℕ → ℕ
voting_by generators checks erased k p i q =
    1 - clashes (word_code generators (information_streams k) (parity_streams k p)) i (first_masks (parity_streams k p) (drop (check_start i q) checks)) (holds erased)

-- those of the checks of stream i in `all` that vote
unfoldable pub stream_voters_by : List ℕ → List ℕ → List ℕ → ℕ → ℕ → ℕ → ℕ → ℕ
stream_voters_by generators checks erased k p i all = from_digits most_checks (λ q. bit all q * voting_by generators checks erased k p i q)

-- the checks that vote, a word for each stream; `any` is 0 if nothing is erased
unfoldable pub voters_by : List ℕ → List ℕ → List ℕ → List ℕ → ℕ → ℕ → ℕ → List ℕ
voters_by generators counts checks erased any k p =
    cond (eqb any 0) (all_voting counts k) (up_to 4 (λ i. stream_voters_by generators checks erased k p i (get_or (all_voting counts k) i 0)))

-- these words, and how many checks vote by each
abbrev pub voters_of : List ℕ → Voters
voters_of words = record { words = words; counts = up_to 4 (λ i. ones (get_or words i 0)) }

-- what they decide
abbrev pub decide_voters : List ℕ → List ℕ → List ℕ → ℕ → ℕ → ℕ
decide_voters words checks syndromes k p = decide_by (voters_of words).words (voters_of words).counts checks syndromes k p

-- what those that erased digits leave decide
unfoldable pub decide_marked : List ℕ → List ℕ → List ℕ → List ℕ → List ℕ → ℕ → Sizes → ℕ
decide_marked generators counts checks syndromes erased any z =
    decide_voters (voters_by generators counts checks erased any z.k z.p) checks syndromes z.k z.p
