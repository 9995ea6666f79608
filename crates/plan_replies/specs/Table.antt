-- The table of a file's replies. Words 0 to 63 are links, one for each process; then come two words for each reply: the bit where it stands, and the link to the next of its process.
-- A link is 0, or the number of a reply counted from 1.
use Rattle.std.specs.Prelude.{◌≡◌, Bool, List, [], ℕ, zero, suc, ◌+◌, ◌*◌, ◌≤◌, ◌<◌, length, get_or, drop}
use Rattle.rules.specs.State.{Message}
use Rattle.plan_file.specs.Format.{Got.got}
use Rattle.plan_file.specs.Plan.{Reply}
use Rattle.plan_file.specs.Grammar.{reply}
use Rattle.plan_rules.specs.Laws.{replies_by}

abbrev pub reply_at : List Reply → ℕ → Reply
reply_at rs k = get_or rs k (record { process = 0; messages = [] })

-- The reply r stands at the bit `at` of b.
pub record StandsAt (b : List Bool) (at : ℕ) (r : Reply) : Type 0 where
  pub behind : List Bool
  pub stands : reply.get (drop at b) ≡ got r behind

-- Where the link i of the process q leads: the replies of q from that one on.
unfoldable pub leads_to : List Reply → ℕ → ℕ → List (List Message)
leads_to rs q zero = []
leads_to rs q (suc k) = replies_by q (drop k rs)

pub record Link (rs : List Reply) (q i : ℕ) (ms : List (List Message)) : Type 0 where
  pub inside : i ≤ length rs
  pub own : (k : ℕ) → i ≡ suc k → (reply_at rs k).process ≡ q
  pub leads : leads_to rs q i ≡ ms

-- The table t of the replies rs of a file of bits b: each process's link leads to its replies in `left`. The replies before `from` have no link yet.
pub record Table (b : List Bool) (rs left : List Reply) (from : ℕ) (t : List ℕ) : Type 0 where
  pub words : length t ≡ 2112
  pub few : length rs < 1024
  pub places : (k : ℕ) → k < length rs → StandsAt b (get_or t (64 + 2 * k) 0) (reply_at rs k)
  pub links : (k : ℕ) → from ≤ k → k < length rs → Link rs (reply_at rs k).process (get_or t (65 + 2 * k) 0) (replies_by (reply_at rs k).process (drop (suc k) rs))
  pub cursors : (q : ℕ) → q < 64 → Link rs q (get_or t q 0) (replies_by q left)
