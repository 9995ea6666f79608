-- What each part of a rehearsal asks of the next, from what the file is known to be.
use mathlib.Core.Path.{◌≡◌, refl, sym, ap, ◌∙◌}
use mathlib.Core.Bool.{Bool, true, false}
use mathlib.Core.List.{List, ◌++◌, append-nil}
use Prim.Native.Nat.{ℕ, ◌+◌, ◌*◌, ◌-◌, ◌<◌, ◌≤◌}
use native.Mathlib.Omega.{arith}
use lib.Dec.{leb}
use lib.ListN.{length, take, drop, drop_of_length-le}
use lib.Seq.{length-take-le}
use Rattle.bits.specs.Bytes.{stream}
use Rattle.types.specs.declared.SimDuration.{SimDuration}
use Rattle.types.specs.declared.SimTime.{SimTime}
use Rattle.types.specs.Value.{ticks_of, duration_of}
use Rattle.words.specs.Words.{ticks_in, zeroes, cleared}
use Rattle.rules.specs.Base.{rising, up_to}
use Rattle.rules.specs.State as R
use Rattle.rules.specs.Answers.{Accepted, number}
use Rattle.rules.specs.Build.{Setup, setup, least_lookahead, built, build}
use Rattle.rules.proofs.Demand.{sound_built}
use Rattle.state.specs.declared.Header.{Header}
use Rattle.build_topology.specs.Lookaheads.{lookaheads_for}
use Rattle.std.proofs.Common.{Result, Ok, Err}
use Rattle.build.specs.declared.BuildRefusal.{BuildRefusal}
use Rattle.build.specs.Checks.{ChecksBuild}
use Rattle.build.specs.Numbers.{number_of}
use Rattle.build.specs.Initialized.{CanInitialize, Initializes}
use Rattle.build.proofs.Initializing as making
use Rattle.build.proofs.Numbering.{numbered, refusing}
use Rattle.plan_rules.specs.Listing.{listed, end_line, rehearsed}
use Rattle.plan_rules.proofs.RefusalNumbers as refusals
use Rattle.plan_file.specs.Format.{Got.got, gets}
use Rattle.plan_file.specs.Grammar.{edge}
use Rattle.plan_file.specs.Events.{event_count}
use Rattle.plan_file.specs.declared.Parts.{Parts}
use Rattle.plan_file.proofs.Numbers.{decoded}
use Rattle.plan_file.proofs.Files.{widths}
use Rattle.plan_file.proofs.Events.{few_events}
use Rattle.plan_reader.specs.declared.PlanHeader.{PlanHeader}
use Rattle.plan_reader.specs.Read.{HeaderRead}
use Rattle.plan_rules.specs.Setup.{setup_of, least_lookahead_of, too_long}
use Rattle.plan_rules.specs.Laws.{standing}
use Rattle.plan_rules.proofs.Ends.{positive}
use Rattle.plan_rules.proofs.Limits.{limits}
use Rattle.plan_rows.specs.Rows.{ReadsEdges, ReadsLookaheads, Rowable, MakesRows}
use Rattle.plan_rows.proofs.Made.{file_room, lookaheads_taken, first_ticks}
use Rattle.plan_replies.specs.Finds.{RepliesAt, CanFind, Finds}
use Rattle.plan_round.specs.Reached.{plan_of}
use Rattle.plan_run.specs.Opens.{Begun}
use Rattle.plan_run.specs.RunsBuilt.{Built, InitialAt, Repliable}
use Rattle.plan_rehearsal.specs.Rehearses.{Checked, early_number}
use Rattle.plan_rehearsal.proofs.Rehearsing.{Early, early_passed, early_refused, build_refused, build_accepted}
use Rattle.plan_rehearsal.specs.Setups.{Known, CanMakeRows, IsSetup}

-- The file.
module _ (s : List ℕ) (parts : Parts) (i : Checked s parts) where
  pub short_file : length s ≤ 16384
  short_file = (decoded s (plan_of s) i.read).size

  pub few_there : Early (plan_of s) → parts.edges ≤ 512
  few_there e = omega (arith, i.parts_of.edges, e.few_edges)

  pub edges_room : 337 + 140 * parts.edges ≤ length s * 8
  edges_room = file_room (plan_of s) s parts.edges i.parts_of.edges i.parts_of.edges_stand

  pub replies_there : RepliesAt s parts.replies_at parts.replies (plan_of s).replies
  replies_there = record { standing = i.parts_of.replies_stand; counted = i.parts_of.replies; few = (widths s (plan_of s) i.read).reply_count }

  pub can_find : CanFind s parts.replies_at parts.replies (zeroes 2112)
  can_find = record { replies = (plan_of s).replies; there = replies_there; short = short_file; blank = refl }

  pub initial_at : InitialAt s parts.initial_at parts.initial
  initial_at = record { short = short_file; standing = i.parts_of.initial_stand; counted = i.parts_of.initial; countable = (widths s (plan_of s) i.read).initial_count }

  -- 39 lets few enough calls pass, and a file has few events.
  pub repliable : (build (setup_of (plan_of s)) R.zeros).answer ≡ Accepted → too_long (plan_of s) ≡ false → (t : List ℕ) → Finds s parts.replies_at parts.replies t → Repliable s t
  unfolding event_count
  repliable a n t f =
      let e : event_count (plan_of s) ≤ 901 = few_events s (plan_of s) i.read in
      let l = (limits (plan_of s) (positive (plan_of s) (sound_built (setup_of (plan_of s)) R.zeros a))).calls n in
      record {
        leads = f (plan_of s).replies replies_there;
        room = omega arith;
        countable = omega (arith, (widths s (plan_of s) i.read).initial_count);
      }

pub known_of : (s : List ℕ) (parts : Parts) (header : PlanHeader) → Checked s parts → HeaderRead s header → Known s parts header
known_of s parts header i h = record { checked = i; header_of = h (plan_of s) i.read }

-- A refusal of build has a number above 0.
refused_number : (r : BuildRefusal) → 0 < number_of (Err r)
unfolding number
refused_number r = refusing (Err r) r refl (λ why e. rw (numbered (Err r) _ e) (refusals.numbered why).positive)

-- Build's lists.
module _ (s : List ℕ) (parts : Parts) (header : PlanHeader) (ids sources counts ds ws : List ℕ) (i : IsSetup s parts header ids sources counts ds ws) where
  abbrev lists : Setup
  lists = setup header.n (duration_of header.lookahead) ids sources counts ds (lookaheads_for ds ws)

  pub build_number_is : (a : Result (Unit {0}) BuildRefusal) → ChecksBuild header.n (duration_of header.lookahead) ids sources counts ds ws a → number_of a ≡ number (build (setup_of (plan_of s)) R.zeros).answer
  build_number_is a j = numbered a _ (j.of_counters R.zeros) ∙ ap (λ (x : Setup). number (build x R.zeros).answer) i.lists

  pub setup_refused : (a : Result (Unit {0}) BuildRefusal) → ChecksBuild header.n (duration_of header.lookahead) ids sources counts ds ws a → (r : BuildRefusal) → a ≡ Err r → rehearsed (plan_of s) ≡ listed (end_line (number_of (Err r)) 0 0 0)
  setup_refused a j r e = build_refused (plan_of s) _ (ap number_of (sym e) ∙ build_number_is a j) (refused_number r)

  pub setup_accepted : (a : Result (Unit {0}) BuildRefusal) → ChecksBuild header.n (duration_of header.lookahead) ids sources counts ds ws a → (u : Unit {0}) → a ≡ Ok u → (build (setup_of (plan_of s)) R.zeros).answer ≡ Accepted
  setup_accepted a j u e = build_accepted (plan_of s) _ (build_number_is a j) (ap number_of e)

  accepted_lists : (build (setup_of (plan_of s)) R.zeros).answer ≡ Accepted → (build lists R.zeros).answer ≡ Accepted
  accepted_lists a = ap (λ (x : Setup). (build x R.zeros).answer) i.lists ∙ a

  pub can_initialize : (build (setup_of (plan_of s)) R.zeros).answer ≡ Accepted → CanInitialize header.n (duration_of header.lookahead) sources counts ds ws (zeroes 3072) (zeroes 256)
  can_initialize a = making.can_initialize header.n (duration_of header.lookahead) ids sources counts ds ws R.zeros (zeroes 3072) (accepted_lists a) refl

  pub built_is : (build (setup_of (plan_of s)) R.zeros).answer ≡ Accepted → (E Z : List ℕ) (h : Header) → length E ≡ 3072 → length Z ≡ 256 → Initializes header.n (duration_of header.lookahead) sources counts ds ws (zeroes 3072) E Z h → Built (plan_of s) h E Z
  built_is a E Z h l m j = record { accepted = a; state = sym (j.state ids (zeroes 4096) (zeroes 512) ∙ ap built i.lists); edge_words = l; process_words = m }

  -- 39 by the least of the lookaheads.
  pub long_is : (build (setup_of (plan_of s)) R.zeros).answer ≡ Accepted → (t : SimTime) → ticks_of t ≡ (plan_of s).horizon → (l : SimDuration) → duration_of l ≡ least_lookahead (duration_of header.lookahead) (ticks_in (length ds) ws) → (r : Bool) → r ≡ leb (65537 * duration_of l) (ticks_of t) → r ≡ too_long (plan_of s)
  long_is a t e l d r f =
      let g : duration_of l ≡ least_lookahead_of (plan_of s) = d ∙ (λ j. least_lookahead (i.known.header_of.lookahead j) (i.lookaheads_are j)) in
      f ∙ (λ j. leb (65537 * g j) (e j)) ∙ sym (limits (plan_of s) (positive (plan_of s) (sound_built (setup_of (plan_of s)) R.zeros a))).no_division

pub begun : (s : List ℕ) (parts : Parts) (header : PlanHeader) → Known s parts header → Begun s header.horizon header.budget
begun s parts header i = record { horizon_is = i.header_of.horizon; budget_is = i.header_of.budget }

-- All bytes are zero.
pub all_cleared : (w u : List ℕ) → u ≡ cleared 0 (length w) w → u ≡ zeroes (length w)
unfolding cleared
all_cleared w u e =
    let z : length w - 0 ≡ length w = omega arith in
    e ∙ (λ j. zeroes (z j) ++ drop_of_length-le w {i = length w} (omega arith) j) ∙ append-nil (zeroes (length w))

-- Rows.
module _ (s : List ℕ) (parts : Parts) (header : PlanHeader) (from ds ws : List ℕ) (i : CanMakeRows s parts header from ds ws) where
  n_is : header.n ≡ (plan_of s).n
  n_is = i.known.header_of.n

  pub few_processes : header.n ≤ 64
  few_processes = omega (arith, i.few, n_is)

  pub rowable : (sources counts : List ℕ) → 64 ≤ length sources → 64 ≤ length counts → Rowable header.n from sources counts
  rowable sources counts a b = record { few = few_processes; standing = ap (rising leb) i.sources_are ∙ i.stand; below = i.below; sources_room = a; counts_room = b }

  pub is_setup : (ids sources counts : List ℕ) (r : ℕ) → take header.n ids ≡ up_to header.n → MakesRows header.n from sources counts r → IsSetup s parts header (take header.n ids) (take r sources) (take r counts) ds ws
  unfolding setup_of
  is_setup ids sources counts r e m =
      let g = m.of_plan (plan_of s) (sym n_is) (sym i.sources_are) in
      record {
        known = i.known;
        lists = λ j. setup (n_is j) (i.known.header_of.lookahead j) ((e ∙ ap up_to n_is) j) (g.0 j) (g.1 j) (i.destinations_are j) ((lookaheads_taken ds ws i.two_each ∙ i.lookaheads_are) j);
        two_each = i.two_each;
        lookaheads_are = i.lookaheads_are;
      }

pub early_is : (s : List ℕ) (parts : Parts) (header : PlanHeader) → Known s parts header → (n : ℕ) → n ≡ early_number header.n (duration_of header.lookahead) parts.edges → n ≡ early_number (plan_of s).n (plan_of s).lookahead (length (plan_of s).edges)
early_is s parts header i n e = e ∙ (λ j. early_number (i.header_of.n j) (i.header_of.lookahead j) (i.checked.parts_of.edges j))

-- 1, 2 and 5 before rows are made: a refusal is listed, and what passes has few edges, with room for them in the file.
pub record Passed (s : List ℕ) (parts : Parts) (header : PlanHeader) : Type 0 where
  pub known : Known s parts header
  pub early : Early (plan_of s)
  pub few : parts.edges ≤ 512
  pub room : 337 + 140 * parts.edges ≤ length s * 8
  pub short : length s ≤ 16384

module _ (s : List ℕ) (parts : Parts) (header : PlanHeader) (i : Checked s parts) (h : HeaderRead s header) (a : Result (Unit {0}) BuildRefusal) (n : number_of a ≡ early_number header.n (duration_of header.lookahead) parts.edges) where
  pub listed_early : (r : BuildRefusal) → a ≡ Err r → rehearsed (plan_of s) ≡ listed (end_line (number_of (Err r)) 0 0 0)
  listed_early r e = early_refused (plan_of s) _ (early_is s parts header (known_of s parts header i h) _ (ap number_of (sym e) ∙ n)) (refused_number r)

  pub passed : (u : Unit {0}) → a ≡ Ok u → Passed s parts header
  passed u e =
      let k = known_of s parts header i h in
      let early = early_passed (plan_of s) _ (early_is s parts header k _ n) (ap number_of e) in
      record { known = k; early = early; few = few_there s parts i early; room = edges_room s parts i; short = short_file s parts i }

-- Edges.
module _ (s : List ℕ) (parts : Parts) (header : PlanHeader) (i : Known s parts header) (from ds : List ℕ) (r : ReadsEdges s parts.edges from ds) where
  there : gets edge parts.edges (drop 337 (stream s)) ≡ got (plan_of s).edges i.checked.parts_of.edges_stand.behind
  there = ap (λ (k : ℕ). gets edge k (drop 337 (stream s))) i.checked.parts_of.edges ∙ i.checked.parts_of.edges_stand.reads

  pub stands_is : (t : Bool) → t ≡ rising leb (take parts.edges from) → t ≡ standing (plan_of s)
  stands_is t e = e ∙ ap (rising leb) (r.read (plan_of s).edges _ there).0

  pub can_make_rows : (plan_of s).n ≤ 64 → standing (plan_of s) ≡ true → parts.edges ≤ length ds → (ws : List ℕ) → 2 * parts.edges ≤ length ws → ReadsLookaheads s parts.edges ws
      → CanMakeRows s parts header (take parts.edges from) (take parts.edges ds) (take (2 * parts.edges) ws)
  can_make_rows f t l ws m q =
      let k : length (take parts.edges ds) ≡ parts.edges = length-take-le parts.edges ds l in
      let n : length (take (2 * parts.edges) ws) ≡ 2 * parts.edges = length-take-le (2 * parts.edges) ws m in
      record {
        known = i;
        few = f;
        sources_are = (r.read (plan_of s).edges _ there).0;
        destinations_are = (r.read (plan_of s).edges _ there).1;
        two_each = rw (k, n);
        lookaheads_are = rw k (first_ticks parts.edges ws ∙ q.read (plan_of s).edges _ there);
        stand = t;
        below = r.below;
      }
