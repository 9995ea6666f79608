use Prim.Native.Nat.{◌-◌, ◌≤◌}
use lib.ListN.{length}
use native.Mathlib.Omega.{arith}
use Rattle.call_words.proofs.Decoding.{back_too_many, back_broken, back_fits}
use Rattle.call_words.proofs.hand_back_size.Goals as goal

pub returns-in_err-room : goal.returns-in_err-room
returns-in_err-room c =
    let few : 3 ≤ length c.args.words.now - c.args.at → ⊥ = c.in_err-room.ensures in
    rw c.from_residual.ensures (back_broken _ _ _ (omega arith))

pub returns-then-emitted-gt-MAX_ITEMS : goal.returns-then-emitted-gt-MAX_ITEMS
returns-then-emitted-gt-MAX_ITEMS c = back_too_many _ _ _ c.if-emitted-gt-MAX_ITEMS.true

pub returns-then-room-emitted : goal.returns-then-room-emitted
returns-then-room-emitted c = let k = c.in_ok-room.ensures in back_broken _ _ _ (omega arith)

pub returns : goal.returns
returns c = let k = c.in_ok-room.ensures in (omega arith, back_fits _ _ _ (omega arith) (omega arith))
