-- The tests say that the frame goes on.
use Rattle.std.proofs.Common.{◌≡◌, ◌-◌, ◌≤◌, length, take, get_or, sym, ◌∙◌, ap, arith, rules}
use Rattle.std.specs.Prelude.{Some, true}
use Rattle.vod_log.specs.Format.{header_of, follows}
use Rattle.vod_log.proofs.Frames.{frame-continues, continues-header}
use Rattle.vod_log.proofs.tail.continues.Goals as goal

pub returns-else-header-frame : goal.returns-else-header-frame
returns-else-header-frame c =
    let header : header_of (take 48 c.args.frame.now) ≡ Some c.in-Some.header = ap header_of (sym c.header_bytes.ensures) ∙ sym c.read_header.ensures ∙ c.in-Some.is in (
      λ yes.
          let long : c.in-Some.header.length ≡ length c.args.frame.now - 49 = search rules in
          let room : 49 ≤ length c.args.frame.now = omega arith in
          let right : follows c.args.last.now c.in-Some.header ≡ true = search rules in
          let closed : get_or c.args.frame.now (length c.args.frame.now - 1) 0 ≡ 0 = search rules in
          frame-continues c.args.last.now c.args.frame.now c.in-Some.header header long room right closed,
      λ is. c.follows.ensures ∙ (continues-header _ _ _ header is).0,
    )
