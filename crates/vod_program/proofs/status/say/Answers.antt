use Rattle.std.proofs.Common.{◌≡◌, ◌∙◌, List, ℕ, [], Result, Ok, Err}
use Rattle.std.proofs.lemmas.List.{append-nil}
use Rattle.std.specs.Prelude.{Option}
use Rattle.vod_io.specs.Told.{appended, Puts, Written}
use Rattle.vod_program.proofs.status.say.Goals as goal

-- a call that left what was taken leaves a text written, whatever it answered
after_all : {T E : Type 0} (result : Result T E) (before after : Option (List ℕ)) (text : List ℕ) → after ≡ appended before text → Written result before after text
after_all (Ok _) before after text h = h
after_all (Err _) before after text h = ([], record { done = text; whole = append-nil text; taken = h })

pub returns-clause-written : goal.returns-clause-written
returns-clause-written g c = after_all c.flush.result _ _ _ (c.flush.ensures.taken ∙ c.in_ok-put_line.ensures.written)
