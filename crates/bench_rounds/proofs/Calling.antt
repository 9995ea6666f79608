-- How far a list of calls has come.
use mathlib.Core.Path.{◌≡◌}
use mathlib.Core.List.{List}
use Prim.Native.Nat.{ℕ, ◌+◌, ◌≤◌, ◌<◌}
use lib.ListN.{length}
use Rattle.call_words.specs.Decode.{decode, size}
use Rattle.call_words.proofs.Decoding.{sound}

-- The words of a call are there.
pub behind : (w : List ℕ) (at n : ℕ) → n ≡ size (decode w at) → 0 < n → at + n ≤ length w
behind w at n e l = rw e ((sound w at).there (rw e at l))
