-- Plans and their listings, byte by byte: document 01's rehearsals C1 to C10, as far as they come as a file, and what else 02 says in words.
-- Left out, since a file has one run and no host that goes on after a refusal: that C8's initial events are still open, and its second begin. C8 and C9 have a lookahead that 39 lets pass.
use Rattle.std.specs.Prelude.{◌≡◌, List, [], ◌∷◌, ◌++◌, ℕ, ◌^◌, ◌-◌, replicate}
use Rattle.rules.specs.State.{Message}
use Rattle.rules.specs.Rehearsals.{message, budget}
use Rattle.plan_file.specs.Plan.{PlanEdge, Reply, Plan}
use Rattle.plan_file.specs.Examples.{c1_file}
use Rattle.plan_file.specs.File.{encode}
use Rattle.plan_rules.specs.Listing.{listed, refused, rehearsed}
use Rattle.plan_rules.specs.Export.{Exported, exported, printed}
use Rattle.plan_rules.specs.Characters.{bytes}

-- An edge of lookahead l, and one of lookahead 3.
abbrev pub edge_of : ℕ → ℕ → ℕ → PlanEdge
edge_of l a b = record { source = a; destination = b; lookahead = l }

abbrev pub edge : ℕ → ℕ → PlanEdge
edge a b = edge_of 3 a b

abbrev pub reply : ℕ → List Message → Reply
reply p ms = record { process = p; messages = ms }

abbrev pub plan : ℕ → ℕ → ℕ → ℕ → List PlanEdge → List Message → List Reply → Plan
plan n L h b es ms rs = record { n = n; lookahead = L; horizon = h; budget = b; edges = es; initial = ms; replies = rs }

-- "L = 3, edges 0→1 and 1→0, horizon 9, budget 1,000,000, unless said": with the budget b, and with 1,000,000. The edges' lookahead is the plan's.
abbrev pub both_ways_of : ℕ → List PlanEdge
both_ways_of l = edge_of l 0 1 ∷ edge_of l 1 0 ∷ []

abbrev pub both_ways : List PlanEdge
both_ways = both_ways_of 3

abbrev pub pair_with : ℕ → List Message → List Reply → Plan
pair_with b ms rs = plan 2 3 9 b both_ways ms rs

abbrev pub pair : List Message → List Reply → Plan
pair ms rs = pair_with budget ms rs

-- What build refuses, or an initial event, or the first batch.
abbrev pub edges_only : ℕ → ℕ → ℕ → List PlanEdge → Plan
edges_only n L h es = plan n L h budget es [] []

-- A.4: a fast edge 0→2 and a slow one 1→2, of lookaheads 2 and 6, and 2→0. Processes 0 and 1 have an event at 0, and emit along these edges at t and u.
abbrev pub fast_and_slow_plan : ℕ → ℕ → Plan
fast_and_slow_plan t u = plan 3 3 9 budget (edge_of 2 0 2 ∷ edge_of 6 1 2 ∷ edge 2 0 ∷ []) (message 0 0 0 ∷ message 1 1 0 ∷ []) (reply 0 (message 0 2 t ∷ []) ∷ reply 1 (message 1 2 u ∷ []) ∷ [])

-- Two processes with edges of lookaheads l and k, and the plan's L, up to the horizon h: an initial event to 2 is refused by 15, where 39 lets pass.
abbrev pub limited_by : ℕ → ℕ → ℕ → ℕ → Plan
limited_by L l k h = plan 2 L h budget (edge_of l 0 1 ∷ edge_of k 1 0 ∷ []) (message 0 2 2 ∷ []) []

abbrev pub returned : ℕ → List ℕ → Exported
returned k l = record { number = k; slice = l }

abbrev pub c1_listing : List ℕ
c1_listing = bytes "end 0 00000000000000000000000000000009 4 6\n"

pub record Examples : Type 0 where
  -- "C1 gives only `end 0 00000000000000000000000000000009 4 6`"
  pub c1 : rehearsed (pair [] []) ≡ listed (bytes "end 0 00000000000000000000000000000009 4 6\n")
  pub c2 : rehearsed (pair (message 0 1 3 ∷ []) []) ≡ listed (bytes "1 00000000000000000000000000000003 0\nend 0 00000000000000000000000000000009 5 6\n")
  pub c3 : rehearsed (pair (message 0 1 2 ∷ []) []) ≡ listed (bytes "1 00000000000000000000000000000002 0\nend 0 00000000000000000000000000000009 5 6\n")
  -- 24 at the first step, and after an Advanced.
  pub c4 : rehearsed (pair_with 0 (message 0 1 2 ∷ []) []) ≡ listed (bytes "end 24 00000000000000000000000000000000 0 0\n")
  pub c5 : rehearsed (pair_with 0 (message 0 1 3 ∷ []) []) ≡ listed (bytes "end 24 00000000000000000000000000000002 1 2\n")
  pub c6 : rehearsed (pair (message 0 1 2 ∷ []) (reply 1 (message 1 1 2 ∷ []) ∷ [])) ≡ listed (bytes "1 00000000000000000000000000000002 0\n1 00000000000000000000000000000002 1\nend 0 00000000000000000000000000000009 6 6\n")
  pub c6_refused : rehearsed (pair (message 0 1 2 ∷ []) (reply 1 (message 1 1 1 ∷ []) ∷ [])) ≡ listed (bytes "end 32 00000000000000000000000000000000 0 0\n")
  -- Another process's reply stands before it.
  pub c7 : rehearsed (pair (message 0 1 2 ∷ []) (reply 0 [] ∷ reply 1 (message 1 0 5 ∷ []) ∷ [])) ≡ listed (bytes "1 00000000000000000000000000000002 0\n0 00000000000000000000000000000005 1\nend 0 00000000000000000000000000000009 6 6\n")
  -- "none for a batch refused by other than 24"
  pub c7_refused : rehearsed (pair (message 0 1 2 ∷ []) (reply 1 (message 1 0 4 ∷ []) ∷ [])) ≡ listed (bytes "end 32 00000000000000000000000000000000 0 0\n")
  pub c8 : rehearsed (edges_only 2 (2 ^ 127) (2 ^ 128 - 1) (both_ways_of (2 ^ 127))) ≡ listed (bytes "end 22 00000000000000000000000000000000 0 0\n")
  pub c8_accepted : rehearsed (edges_only 2 (2 ^ 127) (2 ^ 128 - 2) (both_ways_of (2 ^ 127))) ≡ listed (bytes "end 0 fffffffffffffffffffffffffffffffe 2 2\n")
  pub c9 : rehearsed (plan 2 (2 ^ 127) (2 ^ 128 - 2) budget (edge_of (2 ^ 127) 0 1 ∷ []) (message 0 0 (2 ^ 128 - 2) ∷ []) (reply 0 (message 0 1 (2 ^ 128 - 1) ∷ []) ∷ [])) ≡ listed (bytes "end 31 00000000000000000000000000000000 0 0\n")
  pub c10 : rehearsed (pair (message 1 1 2 ∷ message 0 1 2 ∷ []) []) ≡ listed (bytes "1 00000000000000000000000000000002 0\n1 00000000000000000000000000000002 1\nend 0 00000000000000000000000000000009 6 6\n")
  -- A.3, "Frontiers before the advance still decide": along 0→1→2 three null messages. With frontiers read anew at each edge, the first advance would raise both bounds to H, and there would be two.
  pub chain : rehearsed (edges_only 3 3 9 (edge 0 1 ∷ edge 1 2 ∷ [])) ≡ listed (bytes "end 0 00000000000000000000000000000009 3 3\n")
  -- A.4: each emission may come as soon as its edge lets it, at 2 and at 6: with the plan's 3 for both, 2 would be too early. 5 is too early along the slow edge, and 1 along the fast one.
  pub fast_and_slow : rehearsed (fast_and_slow_plan 2 6) ≡ listed (bytes "0 00000000000000000000000000000000 0\n1 00000000000000000000000000000000 1\n2 00000000000000000000000000000002 0\n2 00000000000000000000000000000006 1\nend 0 00000000000000000000000000000009 7 7\n")
  pub slow_too_early : rehearsed (fast_and_slow_plan 3 5) ≡ listed (bytes "end 32 00000000000000000000000000000000 0 0\n")
  pub fast_too_early : rehearsed (fast_and_slow_plan 1 6) ≡ listed (bytes "end 32 00000000000000000000000000000000 0 0\n")
  -- 40: "an edge lookahead of 0, after 10 for that edge". It comes before 8 of a later edge and 7 of a later row; 2 judges the plan's own.
  pub edge_lookahead : rehearsed (edges_only 2 3 9 (edge 0 1 ∷ edge_of 0 1 0 ∷ [])) ≡ listed (bytes "end 40 00000000000000000000000000000000 0 0\n")
  pub duplicate_first : rehearsed (edges_only 2 3 9 (edge 0 1 ∷ edge_of 0 0 1 ∷ [])) ≡ listed (bytes "end 10 00000000000000000000000000000000 0 0\n")
  pub before_later_edge : rehearsed (edges_only 2 3 9 (edge_of 0 0 1 ∷ edge 0 4 ∷ edge 5 0 ∷ [])) ≡ listed (bytes "end 40 00000000000000000000000000000000 0 0\n")
  pub own_lookahead : rehearsed (edges_only 2 0 9 (edge_of 0 0 1 ∷ [])) ≡ listed (bytes "end 2 00000000000000000000000000000000 0 0\n")
  -- 24 at hand back: its batch was handled, so it is listed.
  pub spent_at_hand_back : rehearsed (pair_with 1 (message 0 1 2 ∷ message 0 1 2 ∷ []) []) ≡ listed (bytes "1 00000000000000000000000000000002 0\nend 24 00000000000000000000000000000000 1 0\n")
  -- 26: a payload of 17 in the reply.
  pub long_payload_holds : rehearsed (pair (message 0 1 2 ∷ []) (reply 1 (record { source = 1; destination = 1; tick = 2; payload = replicate 17 0 } ∷ []) ∷ [])) ≡ listed (bytes "end 26 00000000000000000000000000000000 0 0\n")
  -- The second reply of process 1 answers its second event, wherever others stand between.
  pub second_reply : rehearsed (pair (message 0 1 2 ∷ message 1 1 2 ∷ []) (reply 1 [] ∷ reply 9 (message 3 3 3 ∷ []) ∷ reply 1 (message 1 1 7 ∷ []) ∷ [])) ≡ listed (bytes "1 00000000000000000000000000000002 0\n1 00000000000000000000000000000002 1\n1 00000000000000000000000000000007 1\nend 0 00000000000000000000000000000009 7 6\n")
  -- 5: edges 0→1, 1→0, 0→2 do not stand by rising source.
  pub falling : rehearsed (edges_only 3 3 9 (edge 0 1 ∷ edge 1 0 ∷ edge 0 2 ∷ [])) ≡ listed (bytes "end 5 00000000000000000000000000000000 0 0\n")
  -- An edge from 5: 7 comes after the rows of the processes, so after 8.
  pub unknown_source : rehearsed (edges_only 2 3 9 (edge 0 1 ∷ edge 5 0 ∷ [])) ≡ listed (bytes "end 7 00000000000000000000000000000000 0 0\n")
  pub unknown_later : rehearsed (edges_only 2 3 9 (edge 0 4 ∷ edge 5 0 ∷ [])) ≡ listed (bytes "end 8 00000000000000000000000000000000 0 0\n")
  -- 15, behind an initial event that was accepted.
  pub unknown_destination : rehearsed (pair (message 0 1 2 ∷ message 0 2 2 ∷ []) []) ≡ listed (bytes "end 15 00000000000000000000000000000000 0 0\n")
  -- 1, ahead of 2 and 5.
  pub no_process : rehearsed (edges_only 0 0 9 (edge 1 0 ∷ edge 0 1 ∷ [])) ≡ listed (bytes "end 1 00000000000000000000000000000000 0 0\n")
  -- 39: floor(65,537 × 3 / 3) is above 65,536. A refused build comes before it, and it before a refused initial event.
  pub too_long : rehearsed (plan 2 3 196611 budget both_ways (message 0 2 2 ∷ []) []) ≡ refused 39
  pub refused_first : rehearsed (edges_only 2 3 196611 (edge 1 0 ∷ edge 0 1 ∷ [])) ≡ listed (bytes "end 5 00000000000000000000000000000000 0 0\n")
  pub no_lookahead : rehearsed (edges_only 2 0 196611 both_ways) ≡ listed (bytes "end 2 00000000000000000000000000000000 0 0\n")
  -- One less: floor(196,610 / 3) is 65,536, and passes.
  pub not_too_long : rehearsed (plan 2 3 196610 budget both_ways (message 0 2 2 ∷ []) []) ≡ listed (bytes "end 15 00000000000000000000000000000000 0 0\n")
  -- A.4, "in 39, read the least edge lookahead, or the plan's if there is no edge": floor(196,611 / 4) passes, floor(196,611 / 3) does not. The plan's 3 does not count beside edges of 4, nor does its 4 beside one of 3, be it the first or the second.
  pub plans_is_less : rehearsed (limited_by 3 4 4 196611) ≡ listed (bytes "end 15 00000000000000000000000000000000 0 0\n")
  pub first_is_least : rehearsed (limited_by 4 3 4 196611) ≡ refused 39
  pub second_is_least : rehearsed (limited_by 4 4 3 196611) ≡ refused 39
  pub without_edges : rehearsed (edges_only 2 3 196611 []) ≡ refused 39
  -- C1's file: its listing has 43 bytes, and a slice of 43 holds it. "39 fills the slice with zeros"; bytes of the slice behind a listing are zeros too.
  pub printed_c1 : printed (c1_file 0) ≡ c1_listing
  pub no_slice : exported (c1_file 0) [] ≡ returned 39 []
  pub short_slice : exported (c1_file 0) (replicate 42 7) ≡ returned 39 (replicate 42 0)
  pub whole_slice : exported (c1_file 0) (replicate 43 7) ≡ returned 0 c1_listing
  pub long_slice : exported (c1_file 0) (replicate 45 7) ≡ returned 0 (c1_listing ++ (0 ∷ 0 ∷ []))
  -- "37 and 38 write nothing"
  pub not_read : exported (c1_file 1) (7 ∷ []) ≡ returned 37 (7 ∷ [])
  pub not_looked_at : exported (replicate 16385 0) (7 ∷ []) ≡ returned 38 (7 ∷ [])
  -- 39 for a run that is too long.
  pub cleared_39 : exported (encode (edges_only 2 3 196611 both_ways)) (7 ∷ []) ≡ returned 39 (0 ∷ [])
