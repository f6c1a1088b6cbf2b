-- The terms on one page: what is proved of this software, as the notice and document 01 say it, and then a paragraph for each of document 02's requests;
-- for every card, list of calls, stream and burst. Read it first. `terms/src` has a function for each of our calls, which promises what stands here and is
-- proved from the call's own promise: whatever is weakened there is refused here.
-- It rests on what can't be said shorter: a stream's digit, its parity digits and what is sent (`code`, `Code`); what a check touches (`code`, `Checks`); a
-- card's fields, their bytes and the card that they state, and reading, front to back (`card`: `Fields`, `Layout`, `Reading`); a list of calls, each of which
-- gets the session that the one before handed back (`encoder`, `receiving`: `Calls`). Streams and times are counted from 0.
-- Assumes nothing.
use Rattle.std.specs.Prelude.{ℕ, zero, suc, ◌+◌, ◌-◌, ◌*◌, ◌%◌, ◌^◌, ◌≤◌, ◌<◌, min, max, ◌≡◌, Bool, false, cond, not, ◌&&◌, ◌||◌, List, [], ◌∷◌, ◌++◌, map, length, get_or, take, drop, leb, ltb, eqb, ℤ, pos, neg_ℤ, Result, Ok, Err}
use Rattle.std.specs.Float.{nan, inf, fin}
use Rattle.std.specs.Float.Ieee.{up, down}
use Rattle.bits.specs.Sums.{sum_below, up_to}
use Rattle.bits.specs.Digits.{bit, from_digits}
use Rattle.code.specs.Code.{digit, parity_at, sent}
use Rattle.code.specs.Checks.{count, check_mask, touches, touches_by}
use Rattle.code.specs.declared.Card.{Card}
use Rattle.card.specs.Fields.{Head, Stream, Fields, card_of}
use Rattle.card.specs.Layout.{layout}
use Rattle.card.specs.Outcome.{accepted, refused, CardOutcome}
use Rattle.card.specs.Reading.{read_under, read_card}
use Rattle.card.specs.declared.CardRule.{CardRule}
use Rattle.card.specs.declared.CardRule.TheVariants.{Former, Present}
use Rattle.encoder.specs.Calls as sending
use Rattle.encoder.specs.Outcome as given
use Rattle.encoder.specs.declared.Session as sender
use Rattle.receiving.specs.Answers.{Given, waiting, frame}
use Rattle.receiving.specs.Answers as answer
use Rattle.receiving.specs.Calls.{Call, byte, readings, number_in, reply_of, answers, session_after}
use Rattle.receiving.specs.Receive.{Circuit, refused_of}
use Rattle.receiving.specs.declared.Reading.{Reading}
use Rattle.receiving.specs.declared.Session.{Session}
use Rattle.receiving.specs.declared.Reading.TheVariants.{Level, Erased}
use Rattle.decoder.specs.Receive.{first_circuit, link_figure_of}
use Rattle.decoder.specs.declared.Held as first-circuit
use Rattle.digit_decoder.specs.Receive.{second_circuit}
use Rattle.digit_decoder.specs.declared.Held as second-circuit
use Rattle.outcomes.specs.Text.{text, decimal}
use Rattle.orthogonal.specs.Pass.{holds}

-- ==== the first term: what is refused, by which number and in which order; a refused call alters nothing

-- the number where the condition holds, else 0, which is none
abbrev pub when : ℕ → Bool → ℕ
when number holds = cond holds number 0

-- the first refusal that is met, in the order of the list; 0 if none is
unfoldable pub first : List ℕ → ℕ
first [] = 0
first (number ∷ later) = cond (eqb number 0) (first later) number

-- a call on lent bytes: refused, minus the number, and the output as it was; else the count of these bytes, which stand at the front of the output, and the
-- rest of it as it was
unfoldable pub Told : ℕ → List ℕ → List ℕ → ℤ → List ℕ → Type 0
Told zero bytes output answer after = (answer ≡ pos (length bytes)) × (after ≡ bytes ++ drop (length bytes) output)
Told (suc n) bytes output answer after = (answer ≡ neg_ℤ (pos (suc n))) × (after ≡ output)

-- by a card: its own refusal; else the first of these that is met, or these bytes
pub record ByCard (read : CardOutcome) (refusals bytes : Card → List ℕ) (output : List ℕ) (answer : ℤ) (after : List ℕ) : Type 0 where
  pub card_refused : (number offset : ℕ) → read.outcome ≡ refused number offset → (answer ≡ neg_ℤ (pos number)) × (after ≡ output)
  pub told : read.outcome ≡ accepted → Told (first (refusals read.card)) (bytes read.card) output answer after

-- whether some frame has a digit beyond its n streams
unfoldable pub beyond : ℕ → List ℕ → Bool
beyond n [] = false
beyond n (f ∷ frames) = leb (2 ^ n) f || beyond n frames

-- ==== the second term, sending: exactly the digits of the systematic code on the card

-- "Bursts: card, then 15 by length (sent frames with tail), 13, 11"
abbrev pub BurstSent : CardOutcome → List ℕ → List ℕ → ℤ → List ℕ → Type 0
BurstSent read input output answer after =
    ByCard read
    (λ c. when 15 (ltb 1048576 (length input + c.m)) ∷ when 13 (ltb (length output) (length input + c.m)) ∷ when 11 (beyond c.k input) ∷ [])
    (λ c. sent c input) output answer after

-- the answers to a list of sending calls, where the information frames `info` and so many tail frames are out: "sending information 16, 15, 11"; 17 for the tail
unfoldable pub send_answers : Card → List ℕ → ℕ → List sending.Call → List given.Outcome
send_answers c info tails [] = []
send_answers c info tails (sending.information f ∷ calls) =
    let number = first (when 16 (ltb 0 tails) ∷ when 15 (ltb 1048576 (length info + 1 + c.m)) ∷ when 11 (leb (2 ^ c.k) f) ∷ []) in
    cond (eqb number 0) (given.frame (get_or (sent c (info ++ (f ∷ []))) (length info) 0) ∷ send_answers c (info ++ (f ∷ [])) tails calls)
    (given.refused number ∷ send_answers c info tails calls)
send_answers c info tails (sending.tail ∷ calls) =
    cond (ltb tails c.m) (given.frame (get_or (sent c info) (length info + tails) 0) ∷ send_answers c info (suc tails) calls)
    (given.refused 17 ∷ send_answers c info tails calls)

-- a sending session that opening with these bytes gives
pub record Sends (read : CardOutcome) (s : sender.Session) : Type 0 where
  pub answered : read.outcome ≡ accepted → (calls : List sending.Call) → sending.answers s calls ≡ send_answers read.card [] 0 calls
  pub unchanged : (calls : List sending.Call) (call : sending.Call) (number : ℕ) →
      let after = sending.session_after s calls in
      (sending.call_of after call).outcome ≡ given.refused number → (sending.call_of after call).session ≡ after
  pub closed : (number offset : ℕ) → read.outcome ≡ refused number offset → (call : sending.Call) → (n : ℕ) × ((sending.call_of s call).outcome ≡ given.refused n)

-- ==== the second term, receiving: exactly the digits of Massey's majority rule with feedback, for all received frames

-- 1 for a check's own digit, (0, i), and 0 for every other (b, s)
abbrev pub own : ℕ → ℕ → ℕ → ℕ
own i b s = cond (eqb b 0 && eqb s i) 1 0

-- the syndrome of parity stream j at t, with decided errors taken out: the received parity digit, the parity of the received information and of these errors
abbrev pub syndrome : Card → List ℕ → List ℕ → ℕ → ℕ → ℕ
syndrome c frames errors t j = (digit frames (c.k + j) t + parity_at c frames j t + parity_at c errors j t) % 2

-- check q of stream i, used at u: the sum of those at u + a over its pairs (a, j)
abbrev pub check : Card → List ℕ → List ℕ → ℕ → ℕ → ℕ → ℕ
check c frames errors u i q = sum_below c.p (λ j. sum_below (suc c.m) (λ a. bit (check_mask c i q j) a * syndrome c frames errors (u + a) j)) % 2

-- 1 if it votes: always where nothing is erased; with R-6 unless it touches an erased digit besides its own, at a time not yet decided
abbrev pub votes : Card → List ℕ → ℕ → ℕ → ℕ → ℕ
votes c erased u i q = 1 - sum_below (suc c.m) (λ b. sum_below (c.k + c.p) (λ s. (1 - own i b s) * (touches c i q b s * digit erased s (u + b))))

-- the decided error of digit i at u is 1 exactly if twice the number of checks equal to 1, of those that vote, is more than the number of these; for every
-- stream of the frame by the errors decided before it
abbrev pub Decided : Card → List ℕ → List ℕ → List ℕ → Type 0
Decided c frames erased errors =
    (u i : ℕ) → u < length frames - c.m → i < c.k
    → digit errors i u
    ≡ cond (ltb (sum_below (count c i) (votes c erased u i)) (2 * sum_below (count c i) (λ q. votes c erased u i q * check c frames (take u errors) u i q))) 1 0

-- the frame of time u as it is handed out: received plus decided, streams 0 to k - 1
abbrev pub handed : Card → List ℕ → List ℕ → ℕ → ℕ
handed c frames errors u = from_digits c.k (λ i. (digit frames i u + digit errors i u) % 2)

-- ---- a list of receiving calls, where `read` says what a reading yields: 0 or 1, its digit; 2, 'erased'; 12, that refusal

-- the digits of a call's frame, of n streams, that are 1, erased or refused; an erased one is 0, and readings after the n-th are not looked at
unfoldable pub digits_of : ℕ → (Reading → ℕ) → ℕ → Call → ℕ
digits_of value read n (byte number f) = cond (eqb value 1) f 0
digits_of value read n (readings number levels) = from_digits n (λ s. cond (eqb (read (get_or levels s (Level nan))) value) 1 0)

-- "receiving 14, 15, then 11 or 12", where t frames were taken before
unfoldable pub refusal : (Reading → ℕ) → Card → ℕ → Call → ℕ
refusal read c t call =
    let n = c.k + c.p in
    first
    (when 14 (not (eqb (number_in call) c.number)) ∷ when 15 (leb 1048576 t) ∷ when 11 (leb (2 ^ n) (digits_of 1 read n call))
    ∷ when 12 (ltb 0 (digits_of 12 read n call)) ∷ [])

-- the calls that are taken: those that meet none of these
unfoldable pub taken_calls : (Reading → ℕ) → Card → ℕ → List Call → List Call
taken_calls read c t [] = []
taken_calls read c t (call ∷ calls) = cond (eqb (refusal read c t call) 0) (call ∷ taken_calls read c (suc t) calls) (taken_calls read c t calls)

-- the frames taken, and which of their digits are erased
abbrev pub frames_taken : (Reading → ℕ) → Card → List Call → List ℕ
frames_taken read c calls = map (digits_of 1 read (c.k + c.p)) (taken_calls read c 0 calls)

abbrev pub erased_taken : (Reading → ℕ) → Card → List Call → List ℕ
erased_taken read c calls = map (digits_of 2 read (c.k + c.p)) (taken_calls read c 0 calls)

-- the answers, after t frames: "the first m frames give 'waiting'; each later one gives the frame m before it", which `out` has by its time
unfoldable pub answers_to : (Reading → ℕ) → Card → (ℕ → ℕ) → ℕ → List Call → List Given
answers_to read c out t [] = []
answers_to read c out t (call ∷ calls) =
    let number = refusal read c t call in
    cond (eqb number 0) (cond (ltb t c.m) waiting (frame (out (t - c.m))) ∷ answers_to read c out (suc t) calls)
    (answer.refused number ∷ answers_to read c out t calls)

-- the answers to all calls are those of the rule
pub record ByTheRule (read : Reading → ℕ) (c : Card) (calls : List Call) (answered : List Given) : Type 0 where
  pub errors : List ℕ
  pub decided : Decided c (frames_taken read c calls) (erased_taken read c calls) errors
  pub answers_are : answered ≡ answers_to read c (handed c (frames_taken read c calls) errors) 0 calls

-- ==== the third term: no accepted card spoils a correctable stream

-- received is a whole stream that is sent for the information frames `info`, with its tail
abbrev pub WholeStream : Card → List ℕ → List ℕ → Type 0
WholeStream c info frames = ((u : ℕ) → u < length info → get_or info u 0 < 2 ^ c.k) × (length frames ≡ length info + c.m)

-- 1 where the digit of stream s at t came wrong
abbrev pub wrong : Card → List ℕ → List ℕ → ℕ → ℕ → ℕ
wrong c info frames s t = (digit frames s t + digit (sent c info) s t) % 2

-- "for each information digit the number of wrong digits, among all those its checks touch", each counted once, "is at most half of its J checks"
abbrev pub FewWrong : Card → List ℕ → List ℕ → Type 0
FewWrong c info frames =
    (u i : ℕ) → u < length info → i < c.k
    → 2 * sum_below (suc c.m) (λ b. sum_below (c.k + c.p) (λ s. min 1 (sum_below (count c i) (λ q. touches c i q b s)) * wrong c info frames s (u + b)))
    ≤ count c i

-- R-6: of those that its voting checks touch, its own included even when none votes, at most half of the votes
abbrev pub FewWrongOfVotes : Card → List ℕ → List ℕ → List ℕ → Type 0
FewWrongOfVotes c info frames erased =
    (u i : ℕ) → u < length info → i < c.k
    → 2 * sum_below (suc c.m) (λ b. sum_below (c.k + c.p) (λ s.
    min 1 (own i b s + sum_below (count c i) (λ q. votes c erased u i q * touches c i q b s)) * wrong c info frames s (u + b)))
    ≤ sum_below (count c i) (votes c erased u i)

-- a burst: "card, then 15 by length, 13, 11"; the rule's frames; and a correctable one comes out as sent
pub record BurstReceived (read : CardOutcome) (input output : List ℕ) (answer : ℤ) (after : List ℕ) : Type 0 where
  pub errors : List ℕ
  pub decided : Decided read.card input [] errors
  pub by_card : ByCard read
      (λ c. when 15 (ltb 1048576 (length input)) ∷ when 13 (ltb (length output) (length input - c.m)) ∷ when 11 (beyond (c.k + c.p) input) ∷ [])
      (λ c. up_to (length input - c.m) (handed c input errors)) output answer after
  pub comes_out_as_sent : (info : List ℕ) → read.outcome ≡ accepted → length input ≤ 1048576 → length input - read.card.m ≤ length output
      → ((u : ℕ) → get_or input u 0 < 2 ^ (read.card.k + read.card.p)) → WholeStream read.card info input → FewWrong read.card info input
      → (answer ≡ pos (length info)) × (take (length info) after ≡ info)

-- the frames that answers hand out, in the order of the calls
unfoldable pub frames_out : List Given → List ℕ
frames_out [] = []
frames_out (waiting ∷ later) = frames_out later
frames_out (frame f ∷ later) = f ∷ frames_out later
frames_out (answer.refused number ∷ later) = frames_out later

-- ---- R-7: a band around zero

-- a level is minus m · 2 ^ e where the sign stands, else m · 2 ^ e, and 2 ^ e is `up e` over `down e`. Below 0.25 in magnitude it is erased; above zero it is
-- digit 1, below zero 0
unfoldable pub read_now : Reading → ℕ
read_now Erased = 2
read_now (Level nan) = 12
read_now (Level (inf sign)) = 12
read_now (Level (fin sign m e)) = cond (ltb (4 * (m * up e)) (down e)) 2 (cond sign 0 1)

-- before it, above zero was digit 1, below zero 0, and zero of either sign was taken as 0
unfoldable pub read_before : Reading → ℕ
read_before Erased = 2
read_before (Level nan) = 12
read_before (Level (inf sign)) = 12
read_before (Level (fin sign m e)) = cond (sign || eqb m 0) 0 1

-- the levels of a call that are looked at lie outside the band
unfoldable pub Outside : ℕ → Call → Type 0
Outside n (byte number f) = Unit {0}
Outside n (readings number levels) = (s : ℕ) → s < n → (sign : Bool) (m : ℕ) (e : ℤ) → get_or levels s (Level nan) ≡ Level (fin sign m e) → down e ≤ 4 * (m * up e)

-- ---- a receiving session freshly opened with the card c, of either circuit, whatever calls it gets, refused ones included
pub record Receives {S : Type 0} (x : Circuit S) (c : Card) (s : S) : Type 0 where
  pub answered : (calls : List Call) → ByTheRule read_now c calls (answers x s calls)
  -- a refused call leaves the session as it stood
  pub unchanged : (calls : List Call) (call : Call) → (refusal read_now c (length (taken_calls read_now c 0 calls)) call ≡ 0 → ⊥)
      → session_after x s (calls ++ (call ∷ [])) ≡ session_after x s calls
  -- the notice's, where nothing is erased
  pub comes_out_as_sent : (calls : List Call) (info : List ℕ) → let frames = frames_taken read_now c calls in
      ((u : ℕ) → get_or (erased_taken read_now c calls) u 0 ≡ 0) → WholeStream c info frames → FewWrong c info frames → frames_out (answers x s calls) ≡ info
  -- R-6's
  pub comes_out_of_votes : (calls : List Call) (info : List ℕ) → let frames = frames_taken read_now c calls in
      WholeStream c info frames → FewWrongOfVotes c info frames (erased_taken read_now c calls) → frames_out (answers x s calls) ≡ info
  -- R-7: "Sessions whose levels all lie outside the band decode as they did"
  pub as_before : (calls : List Call) → ((t : ℕ) → Outside (c.k + c.p) (get_or (taken_calls read_now c 0 calls) t (byte 0 0))) → ByTheRule read_before c calls (answers x s calls)

-- document 01's "link figure": the ones in the syndromes of received frames later than the last frame handed out, feedback taken out
abbrev pub figure : Card → List ℕ → List ℕ → ℕ
figure c frames errors =
    let u = length frames - c.m in
    sum_below c.p (λ j. sum_below (length frames - u) (λ a. syndrome c frames (take u errors) (u + a) j))

-- a session of each circuit, opened with the same bytes
pub record Opened (read : CardOutcome) (s : Session first-circuit.Held) (r : Session second-circuit.Held) : Type 0 where
  pub receives : read.outcome ≡ accepted → Receives first_circuit read.card s
  pub figured : read.outcome ≡ accepted → (calls : List Call) →
      let c = read.card in
      let frames = frames_taken read_now c calls in
      (errors : List ℕ) × Decided c frames (erased_taken read_now c calls) errors × (link_figure_of (session_after first_circuit s calls) ≡ figure c frames errors)
  -- R-2: "his second decoder" gives equal frames, "past the correctable number too"; it drops the same votes
  pub receives_by_digits : read.outcome ≡ accepted → Receives second_circuit read.card r
  pub alike : read.outcome ≡ accepted → (calls : List Call) → answers second_circuit r calls ≡ answers first_circuit s calls
  -- a refused card leaves sessions that refuse every call and stay as they are
  pub closed : (number offset : ℕ) → read.outcome ≡ refused number offset → (call : Call)
      → (n : ℕ) × (reply_of first_circuit s call ≡ refused_of s n) × (reply_of second_circuit r call ≡ refused_of r n)

-- ==== the third term's last sentence: "a card is accepted exactly when both hold"

-- p masks, one for each parity stream, zero where none stands, with no bit above m
abbrev pub Masks : ℕ → ℕ → List ℕ → Type 0
Masks p m masks = (length masks ≡ p) × ((j : ℕ) → get_or masks j 0 < 2 ^ (m + 1))

abbrev empty_stream : Stream
empty_stream = record { count = 0; checks = [] }

-- R-4: a field that has a default stands exactly if it has another value; under the former rule it could also stand with its default
abbrev pub Stands : CardRule → ℕ → ℕ → ℕ → Type 0
Stands Present stands default v = stands ≡ cond (eqb v default) 0 1
Stands Former stands default v = (stands ≤ 1) × (stands ≡ 0 → v ≡ default)

-- "each, stated or default, in the range that 2 to 7 name", under a rule and with at most so many checks a stream
pub record WithinLimits (rule : CardRule) (most : ℕ) (h : Head) (generators : List (List ℕ)) (streams : List Stream) : Type 0 where
  pub number_is_a_byte : h.number ≤ 255
  pub k_in_range : (1 ≤ h.k) × (h.k ≤ 4)
  pub n_in_range : (h.k + 1 ≤ h.n) × (h.n ≤ 8)
  pub m_in_range : h.m ≤ 31
  pub k_by_rule : Stands rule h.k_stands 1 h.k
  pub n_by_rule : Stands rule h.n_stands 2 h.n
  pub generators_for_each : length generators ≡ h.k
  pub generators_in_range : (i : ℕ) → i < h.k → Masks (h.n - h.k) h.m (get_or generators i [])
  pub streams_for_each : length streams ≡ h.k
  pub j_in_range : (i : ℕ) → i < h.k → (1 ≤ (get_or streams i empty_stream).count) × ((get_or streams i empty_stream).count ≤ most)
  pub checks_for_each : (i : ℕ) → i < h.k → length (get_or streams i empty_stream).checks ≡ (get_or streams i empty_stream).count
  pub checks_in_range : (i q : ℕ) → i < h.k → q < (get_or streams i empty_stream).count → Masks (h.n - h.k) h.m (get_or (get_or streams i empty_stream).checks q [])

-- "orthogonal if each touches (0, i), and no other error is touched by two of them"
pub record OrthogonalChecks (c : Card) : Type 0 where
  pub each_own : (i q : ℕ) → i < c.k → q < count c i → touches c i q 0 i ≡ 1
  pub no_other_by_two : (i q r b s : ℕ) → i < c.k → q < r → r < count c i → b ≤ c.m → s < c.k + c.p → touches c i q b s ≡ 1 → touches c i r b s ≡ 1
      → (b ≡ 0) × (s ≡ i)

-- no stream has more checks
abbrev pub AtMost : ℕ → Fields → Type 0
AtMost most f = (i : ℕ) → i < f.head.k → (get_or f.streams i empty_stream).count ≤ most

-- its bytes are the fields of a card and nothing more, within the limits, and its checks are truly orthogonal
pub record GoodCard (rule : CardRule) (most : ℕ) (bytes : List ℕ) (f : Fields) : Type 0 where
  pub bytes_are : bytes ≡ layout f
  pub limits : WithinLimits rule most f.head f.rows f.streams
  pub orthogonal : OrthogonalChecks (card_of f)

-- what reading a card's bytes under a rule comes to. R-13: "The largest J in use is 10. Make it the limit in place of 16, in R-4's program too", so under
-- either rule a stream has at most ten checks
pub record CardRead (rule : CardRule) (bytes : List ℕ) (read : CardOutcome) : Type 0 where
  -- number and offset of the first fault
  pub is_read : read ≡ read_under rule bytes
  pub only_good : read.outcome ≡ accepted → (f : Fields) × (GoodCard rule 10 bytes f × (read.card ≡ card_of f))
  pub every_good : (f : Fields) → GoodCard rule 10 bytes f → read.outcome ≡ accepted
  -- "No accepted card is then longer than 755 bytes"
  pub length_most : read.outcome ≡ accepted → length bytes ≤ 755
  -- nothing else changed: of the cards with at most ten checks a stream, those are accepted that were good when there could be sixteen. (Of others `GoodCard`
  -- with sixteen says nothing: the tables of `card_of` have room for ten.)
  pub still_good : (f : Fields) → GoodCard rule 16 bytes f → AtMost 10 f → read.outcome ≡ accepted
  pub was_good : read.outcome ≡ accepted → (f : Fields) × (GoodCard rule 16 bytes f × AtMost 10 f)
  -- R-4: "equal cards, the order of checks included, means equal bytes"
  pub one_form : (other : List ℕ) → ((i : ℕ) → get_or other i 0 < 256) → (read_card bytes).outcome ≡ accepted → (read_card other).outcome ≡ accepted
      → ((read_card bytes).card ≡ (read_card other).card → bytes ≡ other) × (bytes ≡ other → (read_card bytes).card ≡ (read_card other).card)

-- ==== R-1: an accepted card as bytes; "the answer is the count of bytes, only that many are written, and output too short is 13"
pub record CardWritten (card output : List ℕ) (answer : ℤ) (after : List ℕ) : Type 0 where
  -- R-4: every accepted card states no default, and "comes back byte for byte"
  pub by_card : ByCard (read_card card) (λ c. when 13 (ltb (length output) (length card)) ∷ []) (λ c. card) output answer after
  -- "The unit reads its own output as the same card"
  pub reads_back : (n : ℕ) → answer ≡ pos (suc n) → read_card (take (suc n) after) ≡ read_card card

-- ==== R-3: one pass over a check of stream i, with these masks: from the errors that earlier ones of its stream touch, "8, else 9, else those errors with its
-- own added"; error (b, s) is digit b of word s
pub record Passes (c : Card) (i : ℕ) (mask : ℕ → ℕ) (before : List ℕ) (number : ℕ) (after : List ℕ) : Type 0 where
  pub number_is : number
      ≡ first
      (when 8 (eqb (touches_by c mask 0 i) 0)
      ∷ when 9 (ltb 0 (sum_below (suc c.m) (λ b. sum_below (c.k + c.p) (λ s. (1 - own i b s) * (touches_by c mask b s * holds before b s)))))
      ∷ [])
  pub added : number ≡ 0 → (b s : ℕ) → b ≤ c.m → s < 8 → holds after b s ≡ max (holds before b s) (touches_by c mask b s)
  pub kept : (number ≡ 0 → ⊥) → after ≡ before

-- ==== R-4: a stored card, read a last time under the former rule, which let defaults be stated, and written anew; so many bytes at the front of the output
pub record Rewritten (input output : List ℕ) (n : ℕ) (after : List ℕ) : Type 0 where
  pub rest_kept : drop n after ≡ drop n output
  pub too_long : 2048 < length input → take n after ≡ text "input too long\n"
  pub card_refused : (number offset : ℕ) → length input ≤ 2048 → (read_under Former input).outcome ≡ refused number offset
      → take n after ≡ text "refused " ++ (decimal number ++ (text " at " ++ (decimal offset ++ text "\n")))
  pub same_card : (read_under Former input).outcome ≡ accepted → read_card (take n after) ≡ read_under Former input
  pub good_as_it_stands : (read_card input).outcome ≡ accepted → take n after ≡ input

-- ==== R-5: the standard cards (the document's "shelf"), for k = 1, n = 2

-- the card of some terms: "m equal to the last term taken", their number for the card number, "the checks in rising offset"
abbrev pub card_of_terms : List ℕ → Fields
card_of_terms terms =
    record {
      head = record { k_stands = 0; n_stands = 0; number = length terms; k = 1; n = 2; m = get_or terms (length terms - 1) 0 };
      rows = (sum_below (length terms) (λ q. 2 ^ get_or terms q 0) ∷ []) ∷ [];
      streams = record { count = length terms; checks = map (λ a. 2 ^ a ∷ []) terms } ∷ [];
    }

-- 0 exactly if the syndrome of offset a "shares no error with the checks already taken, apart from digit 0"
abbrev pub shared : List ℕ → ℕ → ℕ
shared terms a =
    let c = card_of (card_of_terms (terms ++ (a ∷ []))) in
    let q = length terms in
    sum_below (suc c.m) (λ b. sum_below (c.k + c.p) (λ s. (1 - own 0 b s) * (touches c 0 q b s * sum_below q (λ r. touches c 0 r b s))))

-- "for rising offset, take the term exactly if": of the offsets below n
unfoldable pub terms_below : ℕ → List ℕ
terms_below zero = []
terms_below (suc a) = cond (eqb (shared (terms_below a) a) 0) (terms_below a ++ (a ∷ [])) (terms_below a)

pub record StandardCard (J : ℕ) (output : List ℕ) (answer : ℤ) (after : List ℕ) : Type 0 where
  pub terms_are : terms_below 32 ≡ 0 ∷ 1 ∷ 3 ∷ 7 ∷ 12 ∷ 20 ∷ 30 ∷ []
  pub told : 2 ≤ J → J ≤ 7 → let bytes = layout (card_of_terms (take J (terms_below 32))) in Told (first (when 13 (ltb (length output) (length bytes)) ∷ [])) bytes output answer after
  pub is_accepted : 2 ≤ J → J ≤ 7 → (read_card (layout (card_of_terms (take J (terms_below 32))))).outcome ≡ accepted
  pub length_is : 2 ≤ J → J ≤ 7 → length (layout (card_of_terms (take J (terms_below 32)))) ≡ 10 + 5 * J
  pub no_other : (2 ≤ J → J ≤ 7 → ⊥) → (answer ≡ pos 0) × (after ≡ output)

-- ==== R-13: an audit of stored card files

-- a file by the bytes that came of it, `Ok` if it was read to its end and `Err` if it was not; its name stands at the front of the output. "for each refused
-- one its name, a space and the listing's refusal line, with `input too long` above 2,048 bytes and `not read` where reading fails"; and what it adds to
-- "the count that pass"
pub record Audited (file : Result (List ℕ) (List ℕ)) (name output : List ℕ) (n passed : ℕ) (after : List ℕ) : Type 0 where
  pub rest_kept : drop n after ≡ drop n output
  pub not_read : (bytes : List ℕ) → file ≡ Err bytes → (take n after ≡ name ++ text " not read\n") × (passed ≡ 0)
  pub too_long : (bytes : List ℕ) → file ≡ Ok bytes → 2048 < length bytes → (take n after ≡ name ++ text " input too long\n") × (passed ≡ 0)
  pub card_refused : (bytes : List ℕ) (number offset : ℕ) → file ≡ Ok bytes → length bytes ≤ 2048 → (read_card bytes).outcome ≡ refused number offset
      → (take n after ≡ name ++ (text " refused " ++ (decimal number ++ (text " at " ++ (decimal offset ++ text "\n"))))) × (passed ≡ 0)
  pub card_passes : (bytes : List ℕ) → file ≡ Ok bytes → (read_card bytes).outcome ≡ accepted → (n ≡ 0) × (passed ≡ 1)

-- "and last `end` and the count that pass"
pub record AuditEnds (passed : ℕ) (output : List ℕ) (n : ℕ) (after : List ℕ) : Type 0 where
  pub rest_kept : drop n after ≡ drop n output
  pub told : take n after ≡ text "end " ++ (decimal passed ++ text "\n")
