use Rattle.vod_program.proofs.PhaseLaws.{front_of, more_is}
use Rattle.vod_program.proofs.phase.bytes_of.Goals as goal

pub returns-clause-front : goal.returns-clause-front
returns-clause-front g c =
    let came = c.in_ok-filled.ensures in
    λ text e. front_of c.in_ok-filled.filled.more c.in_ok-filled.filled.bytes.items text came.within (λ none. came.whole none text e) (λ past. came.more past text e)

pub returns-clause-more : goal.returns-clause-more
returns-clause-more g c =
    let came = c.in_ok-filled.ensures in
    λ text e. more_is c.in_ok-filled.filled.more c.in_ok-filled.filled.bytes.items text came.within (λ none. came.whole none text e) (λ past. came.more past text e)
