use Rattle.std.proofs.Common.{◌≡◌, ◌∙◌, ap, sym, subst, ◌++◌, List, ℕ}
use Rattle.vod_io.specs.Told.{appended, Puts, Written}
use Rattle.vod_io.proofs.Puts.{Written-then, Written-stopped, stopped_in_first, stopped_in_second}
use Rattle.vod_program.specs.Ends.{text_of, number_of, number_text, ending}
use Rattle.vod_program.proofs.status.put_line.Goals as goal

pub returns-in_err-put_all-clause-written : goal.returns-in_err-put_all-clause-written
returns-in_err-put_all-clause-written g c =
    let s = c.args.fault in
    let part = subst (λ w. (left : List ℕ) × Puts (g.E.Sink.taken c.args.err.now) (g.E.Sink.taken c.put_all.new.sink) w left) c.text_of.ensures c.in_err-put_all.ensures.put in
    Written-stopped _ _ (text_of s ++ (number_text (number_of s) ++ ending s)) c.from_residual.result c.from_residual.ensures.0 (stopped_in_first _ _ (text_of s) (number_text (number_of s) ++ ending s) part)

pub returns-in_err-put_number-clause-written : goal.returns-in_err-put_number-clause-written
returns-in_err-put_number-clause-written g c =
    let s = c.args.fault in
    let first = c.in_ok-put_all.ensures.put ∙ ap (λ w. appended (g.E.Sink.taken c.args.err.now) w) c.text_of.ensures in
    let part = subst (λ n. (left : List ℕ) × Puts (g.E.Sink.taken c.put_all.new.sink) (g.E.Sink.taken c.put_number.new.err) (number_text n) left) c.number_of.ensures c.in_err-put_number.ensures.written in
    Written-stopped _ _ (text_of s ++ (number_text (number_of s) ++ ending s)) c.from_residual-in_err-put_number.result c.from_residual-in_err-put_number.ensures.0
    (stopped_in_second _ _ _ (text_of s) (number_text (number_of s) ++ ending s) first (stopped_in_first _ _ (number_text (number_of s)) (ending s) part))

pub returns-clause-written : goal.returns-clause-written
returns-clause-written g c =
    let s = c.args.fault in
    let first = c.in_ok-put_all.ensures.put ∙ ap (λ w. appended (g.E.Sink.taken c.args.err.now) w) c.text_of.ensures in
    let second = c.in_ok-put_number.ensures.written ∙ ap (λ n. appended (g.E.Sink.taken c.put_all.new.sink) (number_text n)) c.number_of.ensures in
    let third = subst (λ w. Written c.put_all-2.result (g.E.Sink.taken c.put_number.new.err) (g.E.Sink.taken c.put_all-2.new.sink) w) c.ending.ensures c.put_all-2.ensures.put in
    Written-then _ _ _ (text_of s) (number_text (number_of s) ++ ending s) c.put_all-2.result first (Written-then _ _ _ (number_text (number_of s)) (ending s) c.put_all-2.result second third)
