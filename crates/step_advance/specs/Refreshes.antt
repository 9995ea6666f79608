-- What a refresh asks and leaves, in the words of the rules.
use Rattle.std.specs.Prelude.{◌≡◌, List, ℕ, suc, ◌≤◌, length}
use Rattle.types.specs.Value.{ticks_of}
use Rattle.words.specs.Words.{horizons_of, inbounds_of}
use Rattle.rules.specs.State.{State}
use Rattle.rules.specs.Refresh.{gvt_of}
use Rattle.rules.specs.Step.{any_raised, new_horizons}
use Rattle.rules.proofs.Shape.{Queued}
use Rattle.frontiers.specs.Tables.{FirstTicks}
use Rattle.step_advance.specs.declared.Refreshed.{Refreshed}

pub record CanRefresh (n : ℕ) (processes first : List ℕ) : Type 0 where
  pub few : n ≤ 64
  pub process_words : length processes ≡ 256
  pub first_words : length first ≡ 128

-- What is left of the state s: its local horizons rose, and GVT with them.
pub record RefreshesTo (s : State) (horizon : ℕ) (r : Refreshed) (hs : List ℕ) : Type 0 where
  pub horizons : hs ≡ new_horizons s (suc horizon)
  pub gvt : ticks_of r.gvt ≡ gvt_of s.gvt horizon s.pending (new_horizons s (suc horizon))
  pub rose : r.rose ≡ any_raised s.horizons (new_horizons s (suc horizon))

-- Of whatever state with n processes, this GVT, these local horizons and this record, where `first` has its first ticks and its pending events are as 11 lets them pass. The record stays.
pub record Refreshes (n g H : ℕ) (processes first : List ℕ) (r : Refreshed) (processes' : List ℕ) : Type 0 where
  pub rises : (s : State) (horizon : ℕ) → s.n ≡ n → s.gvt ≡ g → s.horizons ≡ horizons_of n processes → s.inbound ≡ inbounds_of n processes → H ≡ suc horizon → Queued n s.next s.pending → FirstTicks n s.pending H first
      → RefreshesTo s horizon r (horizons_of n processes')
  pub record_kept : inbounds_of n processes' ≡ inbounds_of n processes
