-- What each return of the parts before the first pass gives.
use Rattle.std.specs.Prelude.{Result, Ok, Err}
use mathlib.Core.Path.{◌≡◌, ap, ◌∙◌}
use mathlib.Core.Bool.{true, false}
use mathlib.Core.List.{List}
use Prim.Native.Nat.{ℕ}
use native.Mathlib.Omega.{arith}
use lib.ListN.{length, get_or, take, length-replicate}
use Rattle.rules.specs.Calls.{HandBack}
use Rattle.words.specs.Words.{zeroes}
use Rattle.records.specs.Records.{edges_of}
use Rattle.hand_back_edges.specs.Lookaheads.{CanFindLookaheads, FoundLookaheads}
use Rattle.hand_back_edges.proofs.PlaceRows.{noughts}
use Rattle.hand_back_check.specs.declared.ReplyCheck.{ReplyCheck}
use Rattle.hand_back.specs.ReplyChecks.{as_given_to, Ready, Started}
use Rattle.hand_back.proofs.ReplyChecking as Review
use Rattle.state.specs.declared.Header.{Header}
use Rattle.state.specs.declared.Runtime.{Runtime}
use Rattle.state.specs.declared.Refusal.{Refusal}
use Rattle.state.specs.declared.Refusal.TheVariants.{ForeignState}
use Rattle.state.specs.ValidArrays.{ValidArrays}
use Rattle.rules.specs.Foreign.{foreign}
use Rattle.state.specs.View.{view_of}
use Rattle.runtime.proofs.Executing.{carries_foreign, carries_back}
use Rattle.host_hand_back.specs.Passes.{tables_of, Sizes, places_in, Begun}
use Rattle.host_hand_back.specs.Parts.{Tabled, OpensFrom}
use Rattle.host_hand_back.proofs.Filling.{sizes, lookaheads_there, looks_front, places_there, processes_there, batch_there}

-- What the table of lookaheads is made of.
pub cleared_length : (w : List ℕ) → w ≡ zeroes 9024 → length w ≡ 9024
cleared_length w e = ap length e ∙ length-replicate {A = ℕ} 9024 0

pub can_find : (h : Header) (E B : List ℕ) → Ready h E B → (w : List ℕ) → w ≡ zeroes 9024 → CanFindLookaheads E h.edges w
can_find h E B y w e = record {
  edge_words = y.edge_words;
  known = y.wired;
  table_words = omega (arith, cleared_length w e);
  empty = λ j. ap (λ (x : List ℕ). get_or x j 0) e ∙ noughts 9024 j;
}

-- The words for the first pass of a check that starts, with the table T of places.
module _ (h : Header) (E Z B : List ℕ) (mask : ℕ) (a : ReplyCheck) (T : List ℕ) (b : Started h B mask a T) (w : List ℕ) (n : length w ≡ 9024) (z : length Z ≡ 256) (m : length B ≡ 512) where
  abbrev R : List ℕ
  R = take 8192 w

  k : Sizes R T Z B
  k = sizes w T Z B n b.place_words z m

  pub tabled : (D : List ℕ) → D ≡ tables_of R T Z B → FoundLookaheads (edges_of h.edges E) w → Tabled h E Z B mask (Ok a) D
  tabled D e r = rw e (record {
    started = rw (places_there R T Z B k) b;
    looks = rw (places_there R T Z B k, lookaheads_there R T Z B k) (looks_front (edges_of h.edges E) T w b.place_words r);
    processes_are = processes_there R T Z B k;
    batch_is = batch_there R T Z B k;
  })

module _ (s : Runtime) (mask : ℕ) where
  pub opens_foreign : (x : Refusal) → (x ≡ ForeignState) × (foreign (view_of s) ≡ true) → (D : List ℕ) → OpensFrom s mask (Err x) D
  opens_foreign x w D xs c = carries_foreign s c x w (HandBack mask xs)

  -- 11 lets the state pass.
  module _ (f : foreign (view_of s) ≡ false) (e : length s.edges ≡ 3072) (q : length s.pending ≡ 4096) (z : length s.processes ≡ 256) (b : length s.batch ≡ 512) where
    lent : ValidArrays s.head s.edges s.pending s.processes s.batch
    lent = record { edge_words = e; pending_words = q; process_words = z; batch_words = b; passes = f }

    pub opens_ready : Ready s.head s.edges s.batch
    opens_ready = Review.ready s.head s.edges s.pending s.processes s.batch lent

    pub opens_tabled : (r : Result ReplyCheck Refusal) (D : List ℕ) → Tabled s.head s.edges s.processes s.batch mask r D → OpensFrom s mask r D
    opens_tabled (Ok a) D t = record {
      lent = lent;
      tables = t;
      begun = rw (t.processes_are, t.batch_is) (Review.begun s.head s.edges s.processes s.batch mask a (places_in D) opens_ready z b t.started);
    }
    opens_tabled (Err x) D t = λ xs c. carries_back s c (as_given_to s.head c x) s.pending s.processes s.batch mask xs (t c xs s.edges s.pending s.processes lent)

-- What the first pass asks.
pub opens_begun : (s : Runtime) (mask : ℕ) (r : Result ReplyCheck Refusal) (D : List ℕ) → OpensFrom s mask r D → Begun D s.head r
opens_begun s mask (Ok a) D w = w.begun
opens_begun s mask (Err x) D w = tt
