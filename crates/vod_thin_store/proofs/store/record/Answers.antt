-- The head is appended, and then the batches.
use Rattle.std.proofs.Common.{rules, ◌∙◌, sym, ap, subst}
use Rattle.std.specs.Prelude.{IsErrOf}
use Rattle.std.proofs.lemmas.Result.{on_ok_weaker}
use Rattle.vod_log.specs.Tail.{Continues}
use Rattle.vod_thin_store.specs.declared.StoreFault.TheVariants.{NotEmpty}
use Rattle.vod_thin_code.specs.Held.{said}
use Rattle.vod_thin_store.proofs.Frames.{FrameLaws}
use Rattle.vod_thin_store.proofs.Commits.{text-of}
use Rattle.vod_thin_store.proofs.Begins.{head-goes-on, head-none, head-held, head-crashes, all-said, all-crashes}
use Rattle.vod_thin_store.proofs.store.record.Goals as goal

pub returns-in_err-append_head-clause-crashes : goal.returns-in_err-append_head-clause-crashes
returns-in_err-append_head-clause-crashes g c = λ tells.
    let laws : FrameLaws = record { begins = c.frames_are_records.ensures.begins; header = c.frames_are_records.ensures.header; long = c.frames_are_records.ensures.long; closed = c.frames_are_records.ensures.closed; entry = c.frames_are_records.ensures.entry } in
    head-crashes laws c.args.source.now c.requires.short c.as_slice.result.now (c.as_slice.ensures ∙ c.in_ok-head.ensures) c.args.design.now c.args.vectors.now c.requires.lawful _ _ c.args.tail.last (c.requires.settled tells) _
    (λ goes_on. c.append_head.ensures.crashes tells goes_on) (λ not. ap (λ deck. g.L.Deck.view deck) (c.append_head.ensures.untouched not))

pub returns-in_err-append_head-clause-not_empty : goal.returns-in_err-append_head-clause-not_empty
returns-in_err-append_head-clause-not_empty g c = λ is none.
    let laws : FrameLaws = record { begins = c.frames_are_records.ensures.begins; header = c.frames_are_records.ensures.header; long = c.frames_are_records.ensures.long; closed = c.frames_are_records.ensures.closed; entry = c.frames_are_records.ensures.entry } in
    let goes_on : Continues c.args.tail.last c.as_slice.result.now =
    subst (λ o. Continues o c.as_slice.result.now) (sym none) (head-goes-on laws c.args.source.now c.requires.short c.as_slice.result.now (c.as_slice.ensures ∙ c.in_ok-head.ensures)) in
    let refused : IsErrOf c.append_head.result NotEmpty = search rules in
    c.append_head.ensures.not_empty refused goes_on

pub returns-in_err-append_head-clause-kept : goal.returns-in_err-append_head-clause-kept
returns-in_err-append_head-clause-kept g c = λ some.
    let laws : FrameLaws = record { begins = c.frames_are_records.ensures.begins; header = c.frames_are_records.ensures.header; long = c.frames_are_records.ensures.long; closed = c.frames_are_records.ensures.closed; entry = c.frames_are_records.ensures.entry } in
    c.append_head.ensures.untouched (λ goes_on. some (head-none laws c.args.source.now c.requires.short c.as_slice.result.now (c.as_slice.ensures ∙ c.in_ok-head.ensures) c.args.tail.last goes_on))

pub append_batches-requires-clause-begun : goal.append_batches-requires-clause-begun
append_batches-requires-clause-begun g c = λ tells.
    let laws : FrameLaws = record { begins = c.frames_are_records.ensures.begins; header = c.frames_are_records.ensures.header; long = c.frames_are_records.ensures.long; closed = c.frames_are_records.ensures.closed; entry = c.frames_are_records.ensures.entry } in
    head-held laws c.args.source.now c.requires.short c.as_slice.result.now (c.as_slice.ensures ∙ c.in_ok-head.ensures) c.args.design.now c.args.vectors.now c.requires.lawful _ _ c.args.tail.last (c.requires.settled tells) _
    c.in_ok-append_head.ensures.goes_on (c.in_ok-append_head.ensures.held tells)

pub returns-clause-said : goal.returns-clause-said
returns-clause-said g c =
    on_ok_weaker c.append_batches.result (λ says tells.
    let laws : FrameLaws = record { begins = c.frames_are_records.ensures.begins; header = c.frames_are_records.ensures.header; long = c.frames_are_records.ensures.long; closed = c.frames_are_records.ensures.closed; entry = c.frames_are_records.ensures.entry } in
    let leaves = c.append_head.ensures.crashes tells c.in_ok-append_head.ensures.goes_on in
    all-said laws c.args.source.now c.requires.short c.as_slice.result.now (c.as_slice.ensures ∙ c.in_ok-head.ensures) c.args.design.now c.args.vectors.now c.requires.lawful _ _ c.args.tail.last (c.requires.settled tells) (g.L.Deck.view c.append_head.new.deck) (g.L.Deck.view c.append_batches.new.deck)
    (text-of (g.L.Deck.view c.args.deck.now) (g.L.Deck.view c.append_head.new.deck) _ _ leaves (λ o since. g.met.L.Deck.only_now c.args.deck.now o since) (λ o now. g.met.L.Deck.counts_now c.append_head.new.deck _ o leaves.later now))
    (said c.args.vectors.now) (says tells)) c.append_batches.ensures.said

pub returns-clause-crashes : goal.returns-clause-crashes
returns-clause-crashes g c = λ tells.
    let laws : FrameLaws = record { begins = c.frames_are_records.ensures.begins; header = c.frames_are_records.ensures.header; long = c.frames_are_records.ensures.long; closed = c.frames_are_records.ensures.closed; entry = c.frames_are_records.ensures.entry } in
    let leaves = c.append_head.ensures.crashes tells c.in_ok-append_head.ensures.goes_on in
    all-crashes laws c.args.source.now c.requires.short c.as_slice.result.now (c.as_slice.ensures ∙ c.in_ok-head.ensures) c.args.design.now c.args.vectors.now c.requires.lawful _ _ c.args.tail.last (c.requires.settled tells) (g.L.Deck.view c.append_head.new.deck) (g.L.Deck.view c.append_batches.new.deck)
    (text-of (g.L.Deck.view c.args.deck.now) (g.L.Deck.view c.append_head.new.deck) _ _ leaves (λ o since. g.met.L.Deck.only_now c.args.deck.now o since) (λ o now. g.met.L.Deck.counts_now c.append_head.new.deck _ o leaves.later now))
    (head-crashes laws c.args.source.now c.requires.short c.as_slice.result.now (c.as_slice.ensures ∙ c.in_ok-head.ensures) c.args.design.now c.args.vectors.now c.requires.lawful _ _ c.args.tail.last (c.requires.settled tells) _
    (λ goes_on. c.append_head.ensures.crashes tells goes_on) (λ not. ap (λ deck. g.L.Deck.view deck) (c.append_head.ensures.untouched not)))
    (c.append_batches.ensures.crashes tells)

pub returns-clause-begins : goal.returns-clause-begins
returns-clause-begins g c =
    on_ok_weaker c.append_batches.result (λ _.
    let laws : FrameLaws = record { begins = c.frames_are_records.ensures.begins; header = c.frames_are_records.ensures.header; long = c.frames_are_records.ensures.long; closed = c.frames_are_records.ensures.closed; entry = c.frames_are_records.ensures.entry } in
    head-none laws c.args.source.now c.requires.short c.as_slice.result.now (c.as_slice.ensures ∙ c.in_ok-head.ensures) c.args.tail.last c.in_ok-append_head.ensures.goes_on) c.append_batches.ensures.said

pub returns-clause-kept : goal.returns-clause-kept
returns-clause-kept g c = λ some.
    let laws : FrameLaws = record { begins = c.frames_are_records.ensures.begins; header = c.frames_are_records.ensures.header; long = c.frames_are_records.ensures.long; closed = c.frames_are_records.ensures.closed; entry = c.frames_are_records.ensures.entry } in
    absurd (some (head-none laws c.args.source.now c.requires.short c.as_slice.result.now (c.as_slice.ensures ∙ c.in_ok-head.ensures) c.args.tail.last c.in_ok-append_head.ensures.goes_on))
