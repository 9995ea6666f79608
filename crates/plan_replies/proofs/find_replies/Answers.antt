use Rattle.plan_replies.proofs.find_replies.Goals as goal

-- `plan_replies::find_replies` meets its contract.

-- src/lib.rt:46:5
pub link_replies-requires : goal.link_replies-requires
link_replies-requires c =
    let pre = c.requires in
    record { replies = pre.replies; counted = pre.there.counted; short = pre.short; noted = c.note_places.ensures pre.replies pre.there }

-- src/lib.rt:41:1
pub returns : goal.returns
returns c = λ rs g.
    c.link_replies.ensures rs g.counted (c.note_places.ensures rs g)
