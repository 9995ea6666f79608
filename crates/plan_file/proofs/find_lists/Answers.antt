use Rattle.plan_file.proofs.find_lists.Goals as goal
-- `plan_file::find_lists` meets its contract.
use Rattle.std.proofs.Common.{arith}
use Rattle.bits.specs.Bytes.{stream}
use Rattle.bits.proofs.Streams.{length_stream}
use Rattle.plan_file.specs.Grammar.{edge, message, reply}
use Rattle.plan_file.proofs.Placing.{listed, cut, plan_short, edges_cut, initial_cut, replies_cut, whole}

pub returns-then-s-lt327 : goal.returns-then-s-lt327
returns-then-s-lt327 c = plan_short (stream c.args.s.now) (rw length_stream c.if-s-lt327.true)

pub returns-in_err-edges : goal.returns-in_err-edges
returns-in_err-edges c =
    let b = stream c.args.s.now in
    rw c.from_residual.ensures (edges_cut b (rw length_stream c.if-s-lt327.false) (cut edge b 327 _ c.find_list.ensures c.in_err-edges.was))

pub find_list-requires-2 : goal.find_list-requires-2
find_list-requires-2 c =
    let b = stream c.args.s.now in
    let es = listed edge b 327 _ c.find_list.ensures _ c.in_ok-edges.was in
    (omega arith, rw length_stream at es.inside)

pub returns-in_err-initial : goal.returns-in_err-initial
returns-in_err-initial c =
    let b = stream c.args.s.now in
    let es = listed edge b 327 _ c.find_list.ensures _ c.in_ok-edges.was in
    rw c.from_residual-in_err-initial.ensures (initial_cut b (rw length_stream c.if-s-lt327.false) es (cut message b _ _ c.find_list-2.ensures c.in_err-initial.was))

pub find_list-requires-3 : goal.find_list-requires-3
find_list-requires-3 c =
    let b = stream c.args.s.now in
    let is = listed message b _ _ c.find_list-2.ensures _ c.in_ok-initial.was in
    (omega arith, rw length_stream at is.inside)

pub returns-in_err-replies : goal.returns-in_err-replies
returns-in_err-replies c =
    let b = stream c.args.s.now in
    let es = listed edge b 327 _ c.find_list.ensures _ c.in_ok-edges.was in
    let is = listed message b _ _ c.find_list-2.ensures _ c.in_ok-initial.was in
    rw c.from_residual-in_err-replies.ensures (replies_cut b (rw length_stream c.if-s-lt327.false) es is (cut reply b _ _ c.find_list-3.ensures c.in_err-replies.was))

pub returns : goal.returns
returns c =
    let b = stream c.args.s.now in
    let es = listed edge b 327 _ c.find_list.ensures _ c.in_ok-edges.was in
    let is = listed message b _ _ c.find_list-2.ensures _ c.in_ok-initial.was in
    let rs = listed reply b _ _ c.find_list-3.ensures _ c.in_ok-replies.was in
    whole b (rw length_stream c.if-s-lt327.false) es is rs
