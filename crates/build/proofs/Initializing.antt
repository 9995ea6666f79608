-- The state of an accepted build, and what its rows give.
use mathlib.Core.Path.{◌≡◌, refl, sym, ap, ◌∙◌}
use mathlib.Core.Bool.{true, false, not}
use mathlib.Core.List.{List, [], ◌∷◌}
use Prim.Native.Nat.{ℕ, zero, suc, ◌+◌, ◌*◌, ◌≤◌}
use native.Mathlib.Omega.{arith}
use lib.ListN.{length, get_or}
use Rattle.types.specs.declared.SimDuration.{SimDuration}
use Rattle.types.specs.Value.{halves, duration_of}
use Rattle.words.specs.Words.{tab, tick_at, tick_of, horizons_of, inbounds_of, zeroes}
use Rattle.words.proofs.Tab.{tab_cong}
use Rattle.records.specs.Records.{edge_at, edges_of}
use Rattle.records.proofs.Placing.{all_at}
use Rattle.rules.specs.Base.{up_from, up_to}
use Rattle.rules.specs.State.{Counters, unset}
use Rattle.rules.specs.Answers.{Accepted}
use Rattle.rules.specs.Frontiers.{inbound_of}
use Rattle.rules.specs.Foreign.{foreign}
use Rattle.rules.specs.Build
use Rattle.rules.specs.Build.{Setup, setup, malformed_rows, built, build}
use Rattle.rules.proofs.Lists.{All}
use Rattle.rules.proofs.Shape.{Joined, Shaped, shaped, passes_11}
use Rattle.rules.proofs.Built.{noughts, makes}
use Rattle.inbound.specs.Inbound.{RecordsInbound, Destinations}
use Rattle.inbound.proofs.Recording.{inbounds_made}
use Rattle.build_topology.specs.Lookaheads.{lookaheads_for, targets_for}
use Rattle.build_topology.specs.Checks.{RowsWellFormed}
use Rattle.build_topology.proofs.Sums.{fit_few, fit_fitting}
use Rattle.build_edges.specs.Written.{Writable, WritesEdges}
use Rattle.state.specs.declared.Header.{Header}
use Rattle.build.specs.Initialized.{CanInitialize, Initializes}
use Rattle.build.proofs.AnswerRows.{passed_all}

nought : (k i : ℕ) → get_or (zeroes k) i 0 ≡ 0
nought zero i = refl
nought (suc k) zero = refl
nought (suc k) (suc i) = nought k i

tick_nought : (k i : ℕ) → tick_at (zeroes k) i ≡ 0
unfolding tick_at halves
tick_nought k i = rw (nought k i, nought k (i + 1))

noughts_made : (i n : ℕ) → tab (λ _. 0) i n ≡ noughts i n
unfolding tab up_from
noughts_made i zero = refl
noughts_made i (suc n) = ap (λ (l : List ℕ). 0 ∷ l) (noughts_made (suc i) n)

-- The header of a runtime just built.
abbrev fresh : ℕ → SimDuration → ℕ → Header
fresh n L edges = record { n = n; lookahead = L; edges = edges; pending = 0; batch = 0; next = 0; gvt = record { hi = 0; lo = 0 }; stored = false; horizon = record { hi = 0; lo = 0 }; budget = 0; used = 0; initial = true; running = false; poisoned = false }

module _ (n : ℕ) (L : SimDuration) (sources counts ds ws w z : List ℕ) (i : CanInitialize n (duration_of L) sources counts ds ws w z) where
  abbrev a : Setup
  a = setup n (duration_of L) [] sources counts ds (lookaheads_for ds ws)

  shape : Shaped (built a)
  shape = shaped (built a) i.passes

  pub few : n ≤ 64
  unfolding built
  few = shape.sized.few

  pub table_words : length z ≡ 256
  table_words = rw i.blank

  pub edge_words : (u : List ℕ) → length u ≡ length w → 6 * length ds ≤ length u
  edge_words u l = omega (arith, i.writable.room)

  -- The edges are written.
  module _ (u : List ℕ) (e : WritesEdges sources counts ds ws w u) where
    joined : All (Joined n) (edges_of (length ds) u)
    unfolding built
    joined = rw e.edges shape.wired.joined

    pub known : Destinations 64 (length ds) u
    unfolding Destinations
    known k h = omega (arith, (all_at (Joined n) (edge_at u) 0 (length ds) k joined (omega arith) (omega arith)).destination, few)

    -- Their record is made, and the local horizons are still zeros.
    module _ (y : List ℕ) (r : RecordsInbound n (edges_of (length ds) u) z y) where
      horizons-nought : horizons_of n y ≡ noughts 0 n
      horizons-nought =
          tab_cong (tick_of y) (λ _. 0) 0 n (λ p g h. r.horizons p (omega (arith, few)) ∙ rw i.blank (tick_nought 256 (2 * p)))
          ∙ noughts_made 0 n

      record-made : inbounds_of n y ≡ inbound_of n (Build.edges_of sources counts (targets_for ds ws))
      record-made = inbounds_made n (edges_of (length ds) u) z y r ∙ ap (inbound_of n) e.edges

      pub laid : Initializes n (duration_of L) sources counts ds ws w u y (fresh n L (length ds))
      unfolding built tab halves up_to
      laid = record {
        state = λ ids P B j. record { n = n; lookahead = duration_of L; edges = e.edges j; pending = []; next = 0; horizons = horizons-nought j; inbound = record-made j; gvt = 0; stored = unset; used = 0; batch = []; initial = true; running = false; poisoned = false };
        behind = e.beyond;
      }

-- What build accepted can be made.
module _ (n L : ℕ) (ids sources counts ds ws : List ℕ) where
  abbrev whole : List ℕ → Setup
  whole ps = setup n L ps sources counts ds (lookaheads_for ds ws)

  fits : malformed_rows (whole ids) ≡ false → RowsWellFormed sources counts ds ws true
  unfolding malformed_rows
  fits e = record { of_setup = λ n L ids. sym (ap not e) }

  writable : (c : Counters) (edges : List ℕ) → (build (whole ids) c).answer ≡ Accepted → length edges ≡ 3072 → Writable sources counts ds ws edges
  writable c edges e l =
      let p = passed_all (whole ids) c e in
      let fit = fits p.1.1.1.1.0 in
      let f = fit_fitting 0 sources counts ds ws (omega arith) fit in
      record { paired = f.paired; used_up = f.used_up; beside = f.beside; room = omega (arith, fit_few 0 sources counts ds ws (omega arith) fit) }

  without_ids : foreign (built (whole ids)) ≡ false → foreign (built (whole [])) ≡ false
  unfolding built
  without_ids p = p

  pub can_initialize : (c : Counters) (edges : List ℕ) → (build (whole ids) c).answer ≡ Accepted → length edges ≡ 3072 → CanInitialize n L sources counts ds ws edges (zeroes 256)
  can_initialize c edges e l = record { writable = writable c edges e l; passes = without_ids (passes_11 _ (makes (whole ids) c e).shaped); blank = refl }
