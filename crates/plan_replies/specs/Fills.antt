-- The reply to a batch, filled from the file.
use Rattle.std.specs.Prelude.{◌≡◌, List, ◌++◌, map, ℕ, ◌+◌, ◌*◌, ◌≤◌, length}
use Rattle.bits.specs.Bytes.{stream}
use Rattle.rules.specs.State.{Event}
use Rattle.rules.specs.HandBack.{Emission}
use Rattle.reply_words.specs.Emissions.{emissions_of}
use Rattle.plan_file.specs.Plan.{Reply}
use Rattle.plan_file.specs.Events.{emission_count}
use Rattle.plan_file.specs.Like.{LikeEmission, Alike}
use Rattle.plan_rules.specs.Host.{emission, reply_of, without, spend, due}
use Rattle.plan_replies.specs.Table.{Table}

-- The table of the file s is t, for some replies and some of them left, and there is room for all of these behind the `have` emissions that the reply has.
pub record CanReply (s t reply : List ℕ) (have : ℕ) : Type 0 where
  pub replies : List Reply
  pub left : List Reply
  pub short : length s ≤ 16384
  pub table : Table (stream s) replies left 0 t
  pub room : 8 * (have + emission_count left) ≤ length reply

-- The emissions of the reply are xs, as far as the runtime can tell; there are n of them.
pub record Emits (reply : List ℕ) (n : ℕ) (xs : List Emission) : Type 0 where
  pub count : n ≡ length xs
  pub alike : Alike LikeEmission xs (emissions_of n reply)

-- The reply that is due to an event of q stands behind those that were there, and q's link goes on to the next.
pub record Takes (s t reply : List ℕ) (have q : ℕ) (t' reply' : List ℕ) (n : ℕ) : Type 0 where
  pub emits : (rs left : List Reply) (xs : List Emission) → Table (stream s) rs left 0 t → Emits reply have xs → Emits reply' n (xs ++ map (emission q) (reply_of q left))
  pub table : (rs left : List Reply) → Table (stream s) rs left 0 t → Table (stream s) rs (without q left) 0 t'

-- What is due to the events bs, one by one.
pub record Fills (s t : List ℕ) (bs : List Event) (t' reply' : List ℕ) (n : ℕ) : Type 0 where
  pub emits : (rs left : List Reply) → Table (stream s) rs left 0 t → Emits reply' n (due left bs)
  pub table : (rs left : List Reply) → Table (stream s) rs left 0 t → Table (stream s) rs (spend bs left) 0 t'
