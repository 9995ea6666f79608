-- Rows written in turn.
use mathlib.Core.Path.{◌≡◌, refl, sym, ap, ◌∙◌}
use mathlib.Core.List.{List, ◌++◌, map, append-nil, append_assoc}
use Prim.Native.Nat.{ℕ, ◌+◌, ◌-◌, ◌*◌, ◌≤◌, ◌<◌}
use native.Mathlib.Numerals.{add-one}
use native.Mathlib.Omega.{arith}
use lib.ListN.{length, get_or, take, drop, drop_of_length-le, length-drop, length-map}
use lib.Seq.{drop-cons, drop-drop, length-take-le}
use Rattle.words.specs.Words.{tab}
use Rattle.records.specs.Records
use Rattle.rules.specs.Base.{sum}
use Rattle.rules.specs.Build
use Rattle.rules.specs.Build.{edge_to}
use Rattle.rules.specs.State.{Edge}
use Rattle.rules.proofs.Lists.{sum_more, sum_none}
use Rattle.build_topology.specs.Lookaheads.{targets_for}
use Rattle.build_topology.proofs.Beside.{length_targets, targets_part, part_beside}
use Rattle.build_edges.specs.Written.{WritesRow, Writable, WritesEdges}
use Rattle.build_edges.proofs.Behind.{further}

-- The rows before i are written, `at` edges; what is left comes behind them.
pub record WritingEdges (sources counts ds ws w₀ : List ℕ) (at i : ℕ) (w : List ℕ) : Type 0 where
  pub rest : at + sum (drop i counts) ≡ length ds
  pub edges : Records.edges_of at w ++ Build.edges_of (drop i sources) (drop i counts) (drop at (targets_for ds ws)) ≡ Build.edges_of sources counts (targets_for ds ws)
  pub beyond : drop (6 * length ds) w ≡ drop (6 * length ds) w₀

module _ (sources counts ds ws w₀ : List ℕ) (s : Writable sources counts ds ws w₀) where
  pub writing_start : WritingEdges sources counts ds ws w₀ 0 0 w₀
  unfolding tab
  writing_start = record { rest = omega (arith, s.used_up); edges = refl; beyond = refl }

  module _ (at i : ℕ) (w : List ℕ) (g : WritingEdges sources counts ds ws w₀ at i w) where
    -- The row at i, by its parts of the lists.
    module _ (h : i < length sources) where
      pub row_fits : at + get_or counts i 0 ≤ length ds
      row_fits = omega (arith, g.rest, sum_more counts i (omega (arith, s.paired)))

      abbrev part : ℕ → List ℕ
      part end = take (end - at) (drop at ds)

      abbrev words-part : ℕ → List ℕ
      words-part end = take (2 * end - 2 * at) (drop (2 * at) ws)

      abbrev row : ℕ → List Edge
      row end = map (edge_to (get_or sources i 0)) (targets_for (part end) (words-part end))

      module _ (end : ℕ) (e : end ≡ at + get_or counts i 0) where
        opened : Build.edges_of (drop i sources) (drop i counts) (drop at (targets_for ds ws)) ≡ row end ++ Build.edges_of (drop (i + 1) sources) (drop (i + 1) counts) (drop end (targets_for ds ws))
        unfolding Build.edges_of
        opened =
            let k : end - at ≡ get_or counts i 0 = omega arith in
            let d : drop (get_or counts i 0) (drop at (targets_for ds ws)) ≡ drop end (targets_for ds ws) = drop-drop (get_or counts i 0) at (targets_for ds ws) ∙ rw (← e) in
            rw (drop-cons sources i 0 h, drop-cons counts i 0 (omega (arith, s.paired)), ← targets_part ds ws s.beside at end (omega arith), k, ← d, add-one)

        part-ends : at + length (part end) ≡ end
        part-ends =
            let k : end - at ≤ length (drop at ds) = rw (length-drop at ds) (omega (arith, row_fits)) in
            omega (arith, length-take-le (end - at) (drop at ds) k)

        pub row_room : length w ≡ length w₀ → (length (words-part end) ≡ 2 * length (part end)) × (6 * (at + length (part end)) ≤ length w)
        row_room l = (part_beside ds ws s.beside at end (omega arith) (omega (arith, row_fits)), omega (arith, part-ends, row_fits, s.room))

        pub writing_more : (u : List ℕ) → WritesRow at (row end) w u → WritingEdges sources counts ds ws w₀ end (i + 1) u
        writing_more u a =
            let b : length (words-part end) ≡ 2 * length (part end) = part_beside ds ws s.beside at end (omega arith) (omega (arith, row_fits)) in
            let l : at + length (row end) ≡ end = rw (length-map (targets_for (part end) (words-part end)) (edge_to (get_or sources i 0)), length_targets (part end) (words-part end) b) part-ends in
            let es : Records.edges_of end u ≡ Records.edges_of at w ++ row end = rw l at a.edges in
            record {
              rest = omega (arith, g.rest, sum_more counts i (omega (arith, s.paired)));
              edges = rw es (append_assoc (Records.edges_of at w) (row end) _ ∙ ap (λ (l : List Edge). Records.edges_of at w ++ l) (sym opened) ∙ g.edges);
              beyond = further (6 * end) (6 * length ds) u w (omega (arith, row_fits)) (rw l at a.beyond) ∙ g.beyond;
            }

    pub writing_end : length sources ≤ i → WritesEdges sources counts ds ws w₀ w
    unfolding Build.edges_of
    writing_end h =
        let n : at ≡ length ds = omega (arith, g.rest, sum_none counts i (omega (arith, s.paired))) in
        record { edges = rw (← n) (sym (append-nil (Records.edges_of at w)) ∙ rw (drop_of_length-le sources h) at g.edges); beyond = g.beyond }
