-- The emissions of a reply, written as words that hand back takes.
use Rattle.std.specs.Prelude.{ℕ, ◌+◌, ◌*◌, ◌≤◌, ◌≡◌, Bool, List, map, length, take, drop}
use Rattle.types.specs.Value.{lp_id_of}
use Rattle.types.specs.declared.LpId.{LpId}
use Rattle.words.specs.Words.{tab}
use Rattle.rules.specs.State.{Message}
use Rattle.rules.specs.HandBack as rules
use Rattle.reply_words.specs.Emissions.{emission_of, emission_in, emission_at}
use Rattle.reply_words.specs.declared.Emission.{Emission}
use Rattle.plan_file.specs.Format.{counted}
use Rattle.plan_file.specs.Grammar.{message}
use Rattle.plan_file.specs.Standing.{StandsAt, IsGot}
use Rattle.plan_file.specs.Like.{LikeEmission, Alike}

-- From w to u, the eight words from `at` on became the emission e.
pub record Puts (w : List ℕ) (at : ℕ) (e : Emission) (u : List ℕ) : Type 0 where
  pub stored : emission_in u at ≡ emission_of e
  pub before : take at u ≡ take at w
  pub behind : drop (at + 8) u ≡ drop (at + 8) w
  pub size : length u ≡ length w

-- The emission of a message by the process p.
abbrev pub emitted : ℕ → Message → rules.Emission
emitted p m = record { emitter = p; message = m }

-- From w to u, emission `slot` became one by p, like the message that stands at the place `at`; next is the place behind that.
pub record EmissionWritten (b : List Bool) (at : ℕ) (p : LpId) (w : List ℕ) (slot : ℕ) (u : List ℕ) (next : ℕ) : Type 0 where
  pub like : (m : Message) (behind : List Bool) → StandsAt message b at m behind → LikeEmission (emitted (lp_id_of p) m) (emission_at u slot)
  pub ends : (m : Message) (behind : List Bool) → StandsAt message b at m behind → drop next b ≡ behind
  pub inside : next ≤ length b
  pub before : take (8 * slot) u ≡ take (8 * slot) w
  pub size : length u ≡ length w

-- A counted list of messages stands at the place `at`, and n words have room for its emissions from emission `from` on.
pub record CanWrite (b : List Bool) (at from n : ℕ) : Type 0 where
  pub stands : IsGot ((counted 10 message).get (drop at b))
  pub room : (ms : List Message) (behind : List Bool) → StandsAt (counted 10 message) b at ms behind → 8 * (from + length ms) ≤ n

-- From w to u, the emissions from emission `from` on became those by p, like the messages of the counted list that stands at the place `at`, up to
-- emission r.
pub record EmissionsWritten (b : List Bool) (at : ℕ) (p : LpId) (w : List ℕ) (from : ℕ) (u : List ℕ) (r : ℕ) : Type 0 where
  pub count : (ms : List Message) (behind : List Bool) → StandsAt (counted 10 message) b at ms behind → r ≡ from + length ms
  pub like : (ms : List Message) (behind : List Bool) → StandsAt (counted 10 message) b at ms behind → Alike LikeEmission (map (emitted (lp_id_of p)) ms) (tab (emission_at u) from (length ms))
  pub before : take (8 * from) u ≡ take (8 * from) w
  pub size : length u ≡ length w
