use Rattle.std.proofs.Common.{arith, sym, ap, ◌∙◌, ◌++◌}
use Rattle.std.proofs.lemmas.List.{take_rest}
use Rattle.std.specs.Int.{w64, to_le_bytes}
use Rattle.vod_thin_code.proofs.Payloads.{eight_and_rest}
use Rattle.vod_thin_code.proofs.read.read_head.Goals as goal

pub returns : goal.returns
returns c =
    let bytes = c.args.payload.now in
    let n = c.eight-interval.result in
    record {
      bytes = eight_and_rest bytes n (λ i. omega (arith, c.type_inv.payload i)) c.if-payload-lt8.false c.eight-interval.ensures ∙ ap (λ xs. to_le_bytes w64 n ++ xs) (sym (take_rest bytes 8));
      positive = c.if-interval-lt1.false;
      most = c.if-interval-gt4096.false;
    }
