-- The table is made: where each reply stands, then the links.
use Rattle.std.specs.Prelude.{◌≡◌, List, ℕ, suc, ◌≤◌, ◌<◌, length, drop}
use Rattle.bits.specs.Bytes.{stream}
use Rattle.words.specs.Words.{zeroes}
use Rattle.plan_file.specs.Plan.{Reply}
use Rattle.plan_file.specs.Grammar.{reply}
use Rattle.plan_file.specs.Standing.{Standing}
use Rattle.plan_replies.specs.Table.{Table}

-- So many replies stand at the bit `at` of the file s.
pub record RepliesAt (s : List ℕ) (at count : ℕ) (rs : List Reply) : Type 0 where
  pub standing : Standing reply (stream s) at rs
  pub counted : count ≡ length rs
  pub few : length rs < 1024

pub record CanFind (s : List ℕ) (at count : ℕ) (t : List ℕ) : Type 0 where
  pub replies : List Reply
  pub there : RepliesAt s at count replies
  pub short : length s ≤ 16384
  pub blank : t ≡ zeroes 2112

-- Each reply's place is noted; no link is made yet.
abbrev pub Notes : List ℕ → ℕ → ℕ → List ℕ → Type 0
Notes s at count t' = (rs : List Reply) → RepliesAt s at count rs → Table (stream s) rs (drop count rs) count t'

-- The replies behind k are linked.
pub record CanLinkOne (s : List ℕ) (k : ℕ) (t : List ℕ) : Type 0 where
  pub replies : List Reply
  pub there : k < length replies
  pub short : length s ≤ 16384
  pub behind : Table (stream s) replies (drop (suc k) replies) (suc k) t

-- And then k too.
abbrev pub LinksOne : List ℕ → ℕ → List ℕ → List ℕ → Type 0
LinksOne s k t t' = (rs : List Reply) → k < length rs → Table (stream s) rs (drop (suc k) rs) (suc k) t → Table (stream s) rs (drop k rs) k t'

pub record CanLink (s : List ℕ) (count : ℕ) (t : List ℕ) : Type 0 where
  pub replies : List Reply
  pub counted : count ≡ length replies
  pub short : length s ≤ 16384
  pub noted : Table (stream s) replies (drop count replies) count t

-- Each reply is linked to the next of its process, and each process to its first.
abbrev pub Links : List ℕ → ℕ → List ℕ → List ℕ → Type 0
Links s count t t' = (rs : List Reply) → count ≡ length rs → Table (stream s) rs (drop count rs) count t → Table (stream s) rs rs 0 t'

abbrev pub Finds : List ℕ → ℕ → ℕ → List ℕ → Type 0
Finds s at count t' = (rs : List Reply) → RepliesAt s at count rs → Table (stream s) rs rs 0 t'
