use Rattle.run_state.proofs.state.State.post.Goals as goal

pub returns-in-Mark-clause-posted : goal.returns-in-Mark-clause-posted
returns-in-Mark-clause-posted g c = λ kept. rw c.in-Mark.is (c.post_mark.ensures.posted kept)

pub returns-in-Woken-clause-posted : goal.returns-in-Woken-clause-posted
returns-in-Woken-clause-posted g c = λ kept. rw c.in-Woken.is (c.post_wake.ensures.posted kept)
